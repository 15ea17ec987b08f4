-- All the bytes that a service was fed, where nobody else changes the files between its feeds.
use Rattle.std.specs.Prelude.{ℕ, ◌≡◌, Bool, true, false, List, [], ◌++◌, length, Option, Some, None, refl}
use Rattle.std.proofs.Common.{◌∙◌, ap, sym, subst, arith}
use Rattle.std.proofs.lemmas.Bool.{true≢false}
use Rattle.std.proofs.lemmas.List.{append-nil, append_assoc}
use Rattle.adb_outside.specs.Framing.{Cut}
use Rattle.adb_outside.proofs.FramingLaws.{cut_piece, fault_stays}
use Rattle.adb_sync.specs.declared.ask.SyncAsk.{SyncAsk}
use Rattle.adb_sync.specs.declared.ask_format.AskFormat.{AskFormat}
use Rattle.adb_sync.specs.declared.error.SyncFault.{SyncFault}
use Rattle.adb_sync.specs.Asks.{ask_front, ask_of, past_ask, asks_start, asks_from, asks_in, ask_fault_in}
use Rattle.adb_sync.specs.Framed.{asks_are_framed}
use Rattle.adb_files.specs.Entries.{Entry}
use Rattle.adb_files.specs.Requests.{Request, requests_of, open_after, fault_request, requests_in}
use Rattle.adb_files.specs.Served.{serve_all}
use Rattle.adb_files.specs.Service.{Service, Moment, moment_behind, moment_first, StandsFor, Serves, ServesFront, Feeds, FeedsFront}
use Rattle.adb_files.specs.Service.{HasServed}
use Rattle.adb_files.proofs.Serving.{requests_of-append, serves_more, serves_ended, front_none, front_whole, front_more, front_less}

-- more bytes have the requests of those before, and further ones
pub record Grows (fed piece : List ℕ) : Type 0 where
  pub further : List Request
  pub is : requests_in (fed ++ piece) ≡ requests_in fed ++ further

pub requests_grow : (fed piece : List ℕ) → Grows fed piece
requests_grow fed piece = go (ask_fault_in fed) refl
  where
    go : (f : Option SyncFault) → ask_fault_in fed ≡ f → Grows fed piece
    go (Some fault) is =
        let stays = fault_stays ask_front ask_of past_ask asks_are_framed (length fed) asks_start fed piece fault (omega arith) is in
        record {
          further = [];
          is = ap (λ (c : Option SyncFault). requests_of None (asks_in (fed ++ piece)) ++ fault_request c) (stays.1 ∙ sym is)
              ∙ (ap (λ (xs : List SyncAsk). requests_of None xs ++ fault_request (ask_fault_in fed)) stays.0
              ∙ sym (append-nil (requests_in fed)));
        }
    go None is =
        let more = cut_piece ask_front ask_of past_ask asks_are_framed (length fed) asks_start fed piece (omega arith) is in
        let c = asks_from asks_start fed in
        let next = asks_from c.reading (c.rest ++ piece) in
        record {
          further = requests_of (open_after None (asks_in fed)) next.given ++ fault_request next.fault;
          is = ap (λ (d : Cut AskFormat SyncAsk SyncFault). requests_of None d.given ++ fault_request d.fault) more
              ∙ (ap (λ (rs : List Request). rs ++ fault_request next.fault) (requests_of-append None (asks_in fed) next.given)
              ∙ (append_assoc (requests_of None (asks_in fed))
              (requests_of (open_after None (asks_in fed)) next.given) (fault_request next.fault)
              ∙ ap (λ (rs : List Request). rs ++ (requests_of (open_after None (asks_in fed)) next.given ++ fault_request next.fault))
              (sym (ap (λ (f : Option SyncFault). requests_of None (asks_in fed) ++ fault_request f) is
              ∙ append-nil (requests_of None (asks_in fed))))));
        }

-- all that was served so far
so_far : (first files : List Entry) (fed taken : List ℕ) (service : Service) → HasServed first fed taken service files
    → Serves (requests_in fed) (moment_first first) (moment_behind taken files service)
so_far first files fed taken service has = record { files = has.left; answer = has.given_out; ends = has.ends }

-- answers behind those that were taken
abbrev behind : List ℕ → Moment → Moment
behind taken m = record { files = m.files; out = taken ++ m.out; ended = m.ended }

serves_behind : (taken : List ℕ) (requests : List Request) (a b : Moment) → Serves requests a b
    → Serves requests (behind taken a) (behind taken b)
serves_behind taken requests a b all = record {
  files = all.files;
  answer = ap (λ (o : List ℕ). taken ++ o) all.answer ∙ sym (append_assoc taken a.out (serve_all a.files requests).answer);
  ends = all.ends;
}

front_behind : (taken : List ℕ) (requests : List Request) (a b : Moment) → ServesFront requests a b
    → ServesFront requests (behind taken a) (behind taken b)
front_behind taken requests a b front = record {
  whole = front.whole;
  last = front.last;
  back = front.back;
  is = front.is;
  one = front.one;
  files = front.files;
  said = front.said;
  unsaid = front.unsaid;
  answer = ap (λ (o : List ℕ). taken ++ o) front.answer ∙ sym
      (append_assoc taken a.out ((serve_all a.files front.whole).answer ++ front.said));
  within = front.within;
}

-- whether a service is spent says nothing of what it holds
stands_unspent : (fed : List ℕ) (service : Service) (spent : Bool) → StandsFor fed service
    → StandsFor fed (record service { spent = spent })
stands_unspent fed service spent stands = record { reads = stands.reads; sound = stands.sound; keeps = stands.keeps }

-- want of memory at a piece of which nothing was served
pub feeds_none : (fed piece : List ℕ) (old new : Service) (files : List Entry) → new.out ≡ old.out
    → FeedsFront fed piece old new files files
feeds_none fed piece old new files same =
    let grows = requests_grow fed piece in
    record {
      requests = grows.further;
      is = grows.is;
      front = front_none grows.further (moment_behind [] files old) (moment_behind [] files new) refl same;
    }

-- A service that began over some files was fed these bytes, and these of its answers were taken. The next piece:
module _ (first : List Entry) (fed taken piece : List ℕ) where
  -- it was taken
  pub served_more : (old new : Service) (files files' : List Entry) → old.ended ≡ false → HasServed first fed taken old files
      → Feeds fed piece old new files files'
      → HasServed first (fed ++ piece) taken new files'
  served_more old new files files' on has feeds =
      let all = subst (λ (rs : List Request). Serves rs (moment_first first) (moment_behind taken files' new)) (sym feeds.is)
      (serves_more (requests_in fed) feeds.requests (moment_first first) (moment_behind taken files old) (moment_behind taken files' new) on
      (so_far first files fed taken old has)
      (serves_behind taken feeds.requests (moment_behind [] files old) (moment_behind [] files' new) feeds.serves)) in
      record { stands = feeds.stands; left = all.files; given_out = all.answer; ends = all.ends }

  -- an ended service dropped it
  pub served_dropped : (old : Service) (files : List Entry) → old.ended ≡ true → HasServed first fed taken old files
      → HasServed first (fed ++ piece) taken old files
  served_dropped old files stop has =
      let grows = requests_grow fed piece in
      let all = subst (λ (rs : List Request). Serves rs (moment_first first) (moment_behind taken files old)) (sym grows.is)
      (serves_ended (requests_in fed) grows.further (moment_first first) (moment_behind taken files old) stop
      (so_far first files fed taken old has)) in
      record {
        stands = record {
          reads = λ on. absurd (true≢false (sym stop ∙ on));
          sound = λ on. absurd (true≢false (sym stop ∙ on));
          keeps = λ on. absurd (true≢false (sym stop ∙ on));
        };
        left = all.files;
        given_out = all.answer;
        ends = all.ends;
      }

  -- a spent service refused it
  pub front_same : (old : Service) (files : List Entry) → HasServed first fed taken old files
      → ServesFront (requests_in (fed ++ piece)) (moment_first first) (moment_behind taken files old)
  front_same old files has =
      let grows = requests_grow fed piece in
      subst (λ (rs : List Request). ServesFront rs (moment_first first) (moment_behind taken files old)) (sym grows.is)
      (front_less (requests_in fed) grows.further (moment_first first) (moment_behind taken files old)
      (front_whole (requests_in fed) (moment_first first) (moment_behind taken files old) (so_far first files fed taken old has)))

  -- memory ran out at it
  pub front_fed : (old new : Service) (files files' : List Entry) → old.ended ≡ false → HasServed first fed taken old files
      → FeedsFront fed piece old new files files'
      → ServesFront (requests_in (fed ++ piece)) (moment_first first) (moment_behind taken files' new)
  front_fed old new files files' on has feeds =
      subst (λ (rs : List Request). ServesFront rs (moment_first first) (moment_behind taken files' new)) (sym feeds.is)
      (front_more (requests_in fed) feeds.requests (moment_first first) (moment_behind taken files old) (moment_behind taken files' new) on
      (so_far first files fed taken old has)
      (front_behind taken feeds.requests (moment_behind [] files old) (moment_behind [] files' new) feeds.front))

-- A call on an open service, seen before as another view of the same.
module _ (old view new : Service) (files files' : List Entry) (piece : List ℕ) (same : view ≡ old) (on : view.ended ≡ false) where
  before : (first : List Entry) (fed taken : List ℕ) → HasServed first fed taken old files
      → HasServed first fed taken (record view { spent = false }) files
  before first fed taken has =
      let seen = subst (λ (s : Service). HasServed first fed taken s files) (sym same) has in
      record { stands = stands_unspent fed view false seen.stands; left = seen.left; given_out = seen.given_out; ends = seen.ends }

  pub call_served :
      ((fed : List ℕ) → StandsFor fed (record view { spent = false })
      → Feeds fed piece (record view { spent = false }) new files files')
      → (spent : Bool)
      → (first : List Entry) (fed taken : List ℕ) → HasServed first fed taken old files
      → HasServed first (fed ++ piece) taken (record new { spent = spent }) files'
  call_served call spent first fed taken has =
      let fresh = before first fed taken has in
      let after = served_more first fed taken piece (record view { spent = false }) new files files' on fresh (call fed fresh.stands) in
      record {
        stands = stands_unspent (fed ++ piece) new spent after.stands;
        left = after.left;
        given_out =
            after.given_out;
        ends = after.ends;
      }

  pub call_front :
      ((fed : List ℕ) → StandsFor fed (record view { spent = false })
      → FeedsFront fed piece (record view { spent = false }) new files files')
      → (first : List Entry) (fed taken : List ℕ) → HasServed first fed taken old files
      → ServesFront (requests_in (fed ++ piece)) (moment_first first) (moment_behind taken files' new)
  call_front call first fed taken has =
      let fresh = before first fed taken has in
      front_fed first fed taken piece (record view { spent = false }) new files files' on fresh (call fed fresh.stands)
