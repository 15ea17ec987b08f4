-- A piece of a stream of requests.
use Rattle.std.specs.Prelude.{ℕ, ◌≡◌, true, false, List, [], ◌∷◌, ◌++◌, Option, Some, None, refl}
use Rattle.std.proofs.Common.{◌∙◌, ap, sym, subst}
use Rattle.std.proofs.lemmas.Bool.{true≢false}
use Rattle.std.proofs.lemmas.List.{append-nil, append_assoc}
use Rattle.adb_outside.specs.Framing.{Cut}
use Rattle.adb_sync.specs.declared.ask.SyncAsk.{SyncAsk}
use Rattle.adb_sync.specs.declared.ask_format.AskFormat.{AskFormat}
use Rattle.adb_sync.specs.declared.error.SyncFault.{SyncFault}
use Rattle.adb_outside.specs.Framing.{answer_of}
use Rattle.adb_sync.specs.declared.error.SyncRule.{SyncRule}
use Rattle.adb_sync.specs.declared.error.SyncRule.TheVariants as rules
use Rattle.adb_sync.specs.Messages.{error_at, error_of, told_by}
use Rattle.adb_sync.specs.Asks.{asks_in, ask_fault_in, StandsForAsks}
use Rattle.adb_files.specs.declared.session.Session.{Session}
use Rattle.adb_files.specs.Requests.{OpenSend, Request, Fails, requests_of, open_after, fault_request, requests_in}
use Rattle.adb_files.specs.Served.{fail_bytes, fault_text}
use Rattle.adb_files.specs.Service.{Run, run, moment, moment_of, held, KeepsSend, Serves, ServesGiven, ServesFront, StandsFor, Feeds}
use Rattle.adb_files.specs.Service.{FeedsFront}
use Rattle.adb_files.proofs.Serving.{requests_of-append, open_after-append, serves_more, serves_ended, front_none, front_more, front_less}

abbrev Reading : Type 0
Reading = Cut AskFormat SyncAsk SyncFault

-- the requests of all bytes are those of the bytes before, and those of what the reader gives
fed_more : (fed piece : List ℕ) (r1 : Reading) → StandsForAsks (fed ++ piece) (asks_in fed) r1 → ask_fault_in fed ≡ None
    → requests_in (fed ++ piece) ≡ requests_in fed ++ (requests_of (open_after None (asks_in fed)) r1.given ++ fault_request r1.fault)
fed_more fed piece r1 stands sound =
    let send = open_after None (asks_in fed) in
    let before : requests_in fed ≡ requests_of None (asks_in fed) =
    ap (λ (f : Option SyncFault). requests_of None (asks_in fed) ++ fault_request f) sound
    ∙ append-nil (requests_of None (asks_in fed)) in
    ap (λ (f : Option SyncFault). requests_of None (asks_in (fed ++ piece)) ++ fault_request f) stands.fault
    ∙ (ap (λ (xs : List SyncAsk). requests_of None xs ++ fault_request r1.fault) stands.frames
    ∙ (ap (λ (rs : List Request). rs ++ fault_request r1.fault) (requests_of-append None (asks_in fed) r1.given)
    ∙ (append_assoc (requests_of None (asks_in fed)) (requests_of send r1.given) (fault_request r1.fault)
    ∙ ap (λ (rs : List Request). rs ++ (requests_of send r1.given ++ fault_request r1.fault)) (sym before))))

module _ (fed piece : List ℕ) (old : Run) (read : Reading) (new : Run) (goes_on : old.session.ended ≡ false)
    (stood : StandsFor fed (held old.reader old.session))
    (stands : (taken : List SyncAsk) → StandsForAsks fed taken old.reader → StandsForAsks (fed ++ piece) taken read) where
  abbrev send : Option OpenSend
  send = open_after None (asks_in fed)

  now : StandsForAsks (fed ++ piece) (asks_in fed) read
  now = stands (asks_in fed) (stood.reads goes_on)

  plain : ask_fault_in fed ≡ None
  plain = (stood.reads goes_on).fault ∙ stood.sound goes_on

  -- the end leaves nothing to hold
  nothing : (session : Session) → session.ended ≡ true → StandsFor (fed ++ piece) (held new.reader session)
  nothing session stop = record {
    reads = λ on. absurd (true≢false (sym stop ∙ on));
    sound = λ on. absurd (true≢false (sym stop ∙ on));
    keeps = λ on. absurd (true≢false (sym stop ∙ on));
  }

  -- what the reader gives was served
  abbrev Given : Type 0
  Given = (s : Option OpenSend) → KeepsSend s old.session.sending → ServesGiven s (run read old.session old.files) new

  -- a request ended the service
  pub feeds_ended : Given → new.session.ended ≡ true → Feeds fed piece (held old.reader old.session)
      (held new.reader new.session) old.files new.files
  feeds_ended given stop = record {
    requests = requests_of send read.given ++ fault_request read.fault;
    is = fed_more fed piece read now plain;
    serves = serves_ended (requests_of send read.given) (fault_request read.fault) (moment_of old) (moment_of new) stop
        (given send (stood.keeps goes_on)).serves;
    stands = nothing new.session stop;
  }

  -- a fault ended it
  pub feeds_fault : (fault : SyncFault) (last : Session) → read.fault ≡ Some fault → Given → new.session.ended ≡ false
      → last.out ≡ new.session.out ++ fail_bytes (fault_text fault) → last.ended ≡ true
      → Feeds fed piece (held old.reader old.session) (held new.reader last) old.files new.files
  feeds_fault fault last is given on out stop = record {
    requests = requests_of send read.given ++ fault_request read.fault;
    is = fed_more fed piece read now plain;
    serves = subst
        (λ (f : Option SyncFault). Serves (requests_of send read.given ++ fault_request f) (moment_of old)
        (moment new.files last)) (sym is)
        (serves_more (requests_of send read.given) (Fails fault ∷ []) (moment_of old) (moment_of new) (moment new.files last) on
        (given send (stood.keeps goes_on)).serves
        (record { files = refl; answer = out; ends = stop }));
    stands = nothing last stop;
  }

  -- all is well
  pub feeds_on : read.fault ≡ None → Given → Feeds fed piece (held old.reader old.session) (held new.reader new.session) old.files new.files
  feeds_on sound given =
      let g = given send (stood.keeps goes_on) in
      record {
        requests = requests_of send read.given ++ fault_request read.fault;
        is = fed_more fed piece read now plain;
        serves = subst (λ (rs : List Request). Serves rs (moment_of old) (moment_of new))
            (sym (ap (λ (f : Option SyncFault). requests_of send read.given ++ fault_request f) sound
            ∙ append-nil (requests_of send read.given))) g.serves;
        stands = record {
          reads = λ on. subst (StandsForAsks (fed ++ piece) (asks_in (fed ++ piece))) (sym (g.empty on)) (record {
            frames = sym (append-nil (asks_in (fed ++ piece)));
            fault = now.fault;
            open_rest = now.open_rest;
          });
          sound = λ on. ap (λ (r : Reading). r.fault) (g.empty on) ∙ sound;
          keeps = λ on. subst (λ (s : Option OpenSend). KeepsSend s new.session.sending)
              (sym (ap (open_after None) now.frames ∙ open_after-append None (asks_in fed) read.given)) (g.keeps on);
        };
      }

  -- memory ran out while they were served
  pub feeds_front :
      ((s : Option OpenSend) → KeepsSend s old.session.sending
      → ServesFront (requests_of s read.given) (moment_of old) (moment_of new))
      → FeedsFront fed piece (held old.reader old.session) (held new.reader new.session) old.files new.files
  feeds_front front = record {
    requests = requests_of send read.given ++ fault_request read.fault;
    is = fed_more fed piece read now plain;
    front = front_less (requests_of send read.given) (fault_request read.fault) (moment_of old) (moment_of new)
        (front send (stood.keeps goes_on));
  }

  -- memory ran out at the FAIL of a fault
  pub feeds_unsaid : (last : Session) → Given → new.session.ended ≡ false → last.out ≡ new.session.out
      → FeedsFront fed piece (held old.reader old.session) (held new.reader last) old.files new.files
  feeds_unsaid last given on same = record {
    requests = requests_of send read.given ++ fault_request read.fault;
    is = fed_more fed piece read now plain;
    front = front_more (requests_of send read.given) (fault_request read.fault) (moment_of old) (moment_of new) (moment new.files last) on
        (given send (stood.keeps goes_on)).serves
        (front_none (fault_request read.fault) (moment_of new) (moment new.files last) refl same);
  }

-- answers tell faults apart
told_again : (offset : ℕ) (rule : SyncRule) → told_by (error_at offset rule) ≡ Some (record { offset = offset; rule = rule })
told_again offset rules.UnknownId = refl
told_again offset rules.PathTooLong = refl
told_again offset rules.BadSend = refl
told_again offset rules.ChunkTooLong = refl
told_again offset rules.BadPlace = refl

pub same_fault : (f g : Option SyncFault) → answer_of error_of f ≡ answer_of error_of g → f ≡ g
same_fault None None e = refl
same_fault None (Some y) e = absurd cc
same_fault (Some x) None e = absurd cc
same_fault (Some x) (Some y) e =
    let same : error_of x ≡ error_of y = cc in
    sym (told_again x.offset x.rule) ∙ (ap told_by same ∙ told_again y.offset y.rule)
