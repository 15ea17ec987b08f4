-- Sessions that begin where nothing is on its way: through which calls they were answered.
use Rattle.std.specs.Prelude.{ℕ, ◌+◌, ◌≡◌, ◌==◌, ◌≤◌, ◌<◌, ◌&&◌, Bool, true, false, cond, nat_eq, nat_lt, is_some, slice_get, unwrap_or}
use Rattle.std.specs.Prelude.{option_map, zero, suc}
use Rattle.std.specs.Prelude.{List, [], ◌∷◌, ◌++◌, length, Option, Some, None, codes}
use Rattle.std.specs.List.{AllByRecursion}
use Rattle.std.proofs.Common.{refl, sym, ◌∙◌, ap, subst, arith, ◌⊎◌, inl, inr}
use Rattle.std.proofs.lemmas.Bool.{cases_eq, cases_lt, eq-eqb, ne_eqb, eqb-true}
use Rattle.adb_outside.specs.Tables.{at}
use Rattle.adb_wire.specs.declared.command.Command.{Command}
use Rattle.adb_wire.specs.declared.command.Command.TheVariants.{Cnxn, Open, Okay, Wrte, Clse, Auth, Stls}
use Rattle.adb_wire.specs.declared.packets.Packet.{Packet}
use Rattle.adb_files.specs.Entries.{Entry as File}
use Rattle.adb_history.specs.Book.{asked}
use Rattle.adb_history.specs.Births.{Birth, births, born, count_from, is_open}
use Rattle.adb_history.specs.Bytes.{sent}
use Rattle.adb_history.specs.Machine.{History, state}
use Rattle.adb_history.specs.Streams.{stream_ids}
use Rattle.adb_laws_births.proofs.Born.{all_births}
use Rattle.adb_laws_births.proofs.Crossing.{no_crossing}
use Rattle.adb_laws_births.proofs.Once.{count_append}
use Rattle.adb_laws_births.proofs.Single.{one_stream_each}
use Rattle.adb_laws_causes.proofs.Others.{born_within}
use Rattle.adb_device_streams.specs.Asked.{Kind}
use Rattle.adb_device_streams.specs.Service.{bytes_in, service_answer}
use Rattle.adb_device_streams.specs.Stream.{Row}
use Rattle.adb_daemon.specs.Daemon.{files_of}
use Rattle.adb_daemon.specs.Device.{device_behind}
use Rattle.adb_laws_alone.specs.Alone.{AsksNone, Every}
use Rattle.adb_laws_alone.specs.Calls.{Call, answer_in, asks_in, asks_of}
use Rattle.adb_laws_alone.specs.Together.{IsAskedIn, IsOfLater, RanTogether, RowRan, RunTogether}
use Rattle.adb_laws_alone.proofs.Through.{IsNamed, answer_enough, answer_renamed, answer_through, asks_enough, asks_renamed, files_renamed}
use Rattle.adb_laws_alone.proofs.Through.{renamed}
use Rattle.adb_laws_answers.specs.Answers.{CameOf, HasEndedAs}
use Rattle.adb_laws_answers.specs.Model.{model_setting}
use Rattle.adb_world.specs.Session.{text_of}
use Rattle.adb_world.specs.Settled.{GoesOn, IsAtEase, Rests}
use Rattle.adb_world.specs.Together.{AreAnsweredTogether, IsAnsweredThrough, IsUnwritten}
use Rattle.adb_world.specs.declared.parts.Parts.{Parts}
use Rattle.adb_world.specs.declared.session.Session.{Session}
use Rattle.adb_world.proofs.Alone.{all_sent_past, asks, asks_now, files_now, files_old, fresh, greeted_now, h, holds_now}
use Rattle.adb_world.proofs.Later.{AloneLaws, AreUnbegun}
use Rattle.adb_world.proofs.Alone.{kept_now, legal, legal_now, more, not_both, now, sent_since, stood, unasked, words_now}
use Rattle.adb_world.proofs.Answered.{IsToldAnswer, served_by, told_answer}
use Rattle.adb_world.proofs.OneStream.{IsPast, asked_of_birth, asks_none, born_behind, every_past}

-- ---- a service and its whole text
-- what it asked for and answered is what it asks for and answers of the whole text
record IsWholeThrough (first : List File) (calls : List Call) (l : ℕ) (kind : Kind) (said text : List ℕ) : Type 0 where
  asks : asks_of l calls ≡ asks_in kind text
  answer : said ≡ answer_in l kind text first calls

whole_through : (first : List File) (calls : List Call) (row : Row) (text : List ℕ) → RowRan first calls row
    → CameOf (service_answer row.kind row.first row.past).ended (bytes_in row.past) text
    → IsWholeThrough first calls row.host row.kind (service_answer row.kind row.first row.past).bytes text
whole_through first calls row text ran came = go (service_answer row.kind row.first row.past).ended refl came
  where
    go : (ended : Bool) → (service_answer row.kind row.first row.past).ended ≡ ended → CameOf ended (bytes_in row.past) text
        → IsWholeThrough first calls row.host row.kind (service_answer row.kind row.first row.past).bytes text
    go false is all = record {
      asks = ran.asks ∙ ap (asks_in row.kind) all;
      answer = answer_through row.kind first row.first calls row.host row.past ran.answers
          ∙ ap (λ (x : List ℕ). answer_in row.host row.kind x first calls) all;
    }
    go true is front = record {
      asks = ran.asks
          ∙ (sym (asks_enough row.kind first row.first calls row.host row.past front.0 ran.answers is) ∙ ap (asks_in row.kind) front.1);
      answer = answer_enough row.kind first row.first calls row.host row.past front.0 ran.answers is
          ∙ ap (λ (x : List ℕ). answer_in row.host row.kind x first calls) front.1;
    }

-- ---- streams that were asked for
pub record IsBorn (g : History) (l : ℕ) : Type 0 where
  pub birth : Birth
  pub is : born l g ≡ Some birth

pub found_open : (g : History) (d l : ℕ) (ps : List Packet) → Every (IsPast g d) ps → 1 ≤ count_from is_open l ps → IsBorn g l
found_open g d l [] every once = absurd (omega (arith, once))
found_open g d l (p ∷ ps) every once = go (is_open p.command && nat_eq p.arg0 l) refl once (found_open g d l ps every.1)
  where
    both : (a b : Bool) → (a && b) ≡ true → (a ≡ true) × (b ≡ true)
    both true true e = (refl, refl)
    both true false e = absurd (cc)
    both false b e = absurd (cc)

    one : (command : Command) → is_open command ≡ true → IsPast g d command p → IsBorn g p.arg0
    one Open is past = record { birth = past.1.birth; is = past.1.is }
    one Wrte is past = absurd (cc)
    one Okay is past = absurd (cc)
    one Clse is past = absurd (cc)
    one Cnxn is past = absurd (cc)
    one Auth is past = absurd (cc)
    one Stls is past = absurd (cc)

    go : (b : Bool) → (is_open p.command && nat_eq p.arg0 l) ≡ b → 1 ≤ cond b (1 + count_from is_open l ps) (count_from is_open l ps)
        → (1 ≤ count_from is_open l ps → IsBorn g l) → IsBorn g l
    go true is le rest =
        let parts = both (is_open p.command) (nat_eq p.arg0 l) is in
        subst (IsBorn g) (eqb-true p.arg0 l parts.1) (one p.command parts.0 every.0)
    go false is le rest = rest le

-- a place within a list is there
within_get : {X : Type 0} (xs : List X) (k : ℕ) → k < length xs → (x : X) × (slice_get xs k ≡ Some x)
within_get [] k less = absurd (omega (arith, less))
within_get (x ∷ xs) zero less = (x, refl)
within_get (x ∷ xs) (suc k) less = within_get xs k (omega (arith, less))

-- a stream that is born later, and whose number was drawn, is born
pub drawn_born : (g later : History) (l : ℕ) (b : Birth) → born l later ≡ Some b → l ≤ length (births g) → IsBorn g l
drawn_born g later zero b is le = absurd (let clash : None ≡ Some b = is in cc)
drawn_born g later (suc k) b is le = go (nat_lt k stream_ids) refl is
  where
    found : (x : Birth) × (slice_get (births g) k ≡ Some x)
    found = within_get (births g) k (omega (arith, le))

    go : (t : Bool) → nat_lt k stream_ids ≡ t → cond t (slice_get (births later) k) None ≡ Some b → IsBorn g (suc k)
    go true few e = record { birth = found.0; is = ap (λ (t : Bool). cond t (slice_get (births g) k) None) few ∙ found.1 }
    go false few e = absurd (let clash : None ≡ Some b = e in cc)

-- the client of a stream, where it was born
abbrev pub client_of : History → ℕ → ℕ
client_of g l = unwrap_or (option_map (λ (b : Birth). b.client) (born l g)) 0

pub client_is : (g : History) (l : ℕ) (b : Birth) → born l g ≡ Some b → client_of g l ≡ b.client
client_is g l b is = ap (λ (o : Option Birth). unwrap_or (option_map (λ (x : Birth). x.client) o) 0) is

-- two tests have the same outcome
pub same_tests : (a b c d : ℕ) → (a ≡ b → c ≡ d) → (c ≡ d → a ≡ b) → (a == b) ≡ (c == d)
same_tests a b c d there back = go (cases_eq a b)
  where
    go : (a ≡ b) ⊎ (a ≡ b → ⊥) → (a == b) ≡ (c == d)
    go (inl same) = eq-eqb a b same ∙ sym (eq-eqb c d (there same))
    go (inr other) = ne_eqb a b other ∙ sym (ne_eqb c d (λ same. other (back same)))

module _ (laws : AloneLaws) (together : RunTogether model_setting) (old new : Parts) (ease : IsAtEase old)
    (goes : GoesOn old new) (rests : Rests new)
    (begun : AreUnbegun old) where
  abbrev first_history : History
  first_history = h laws old new ease goes rests begun

  abbrev last_history : History
  last_history = now laws old new ease goes rests begun

  abbrev files_then : List File
  files_then = stood laws old new ease goes rests begun

  abbrev ps : List Packet
  ps = (sent_since laws old new ease goes rests begun).0

  since_is : sent 1 first_history ++ (sent_since laws old new ease goes rests begun).0 ≡ sent 1 last_history
  since_is = (sent_since laws old new ease goes rests begun).1

  past : Every (IsPast last_history (state first_history).drawn) (sent_since laws old new ease goes rests begun).0
  past = all_sent_past laws old new ease goes rests begun

  of_later : Every (IsOfLater (state first_history).drawn) (sent_since laws old new ease goes rests begun).0
  of_later = every_past last_history (state first_history).drawn (IsOfLater (state first_history).drawn) follows ps past
    where
      follows : (p : Packet) (command : Command) → IsPast last_history (state first_history).drawn command p
          → IsOfLater (state first_history).drawn command p
      follows p Open x = x.0
      follows p Wrte (inl none) = inl none
      follows p Wrte (inr x) = inr x.0
      follows p Okay x = tt
      follows p Clse x = tt
      follows p Cnxn x = tt
      follows p Auth x = tt
      follows p Stls x = tt

  none_late : Every (AsksNone (λ (host : ℕ). (state first_history).drawn < host)) (sent 1 first_history)
  none_late =
      asks_none first_history (λ (host : ℕ). (state first_history).drawn < host)
      (λ l b was late. (
      let within = (born_within l first_history b was).1 in
      let drawn = (all_births first_history (legal laws old new ease goes rests begun)).drawn in
      omega (arith, within, drawn, late)))
      (sent 1 first_history) ((no_crossing first_history (legal laws old new ease goes rests begun)).own 1)

  once : (l : ℕ) → (state first_history).drawn < l → count_from is_open l (sent_since laws old new ease goes rests begun).0 ≤ 1
  once l late =
      let all = (no_crossing last_history (legal_now laws old new ease goes rests begun)).once 1 l in
      let both : count_from is_open l (sent 1 last_history) ≡ count_from is_open l (sent 1 first_history) + count_from is_open l ps =
      ap (count_from is_open l) (sym since_is) ∙ count_append is_open l (sent 1 first_history) ps in
      omega (arith, all, both)

  ran : RanTogether (state first_history).drawn files_then (sent_since laws old new ease goes rests begun).0 (served_by last_history)
  ran =
      subst (λ (qs : List Packet). RanTogether (state first_history).drawn files_then ps (device_behind model_setting qs).serving) since_is
      (together (state first_history).drawn (sent 1 first_history) ps none_late of_later once)

  abbrev calls : List Call
  calls = renamed (client_of last_history) ran.calls

  -- ---- each call is one of a session that had written nothing
  fresh_of : (l : ℕ) (b : IsBorn last_history l) → (state first_history).drawn < l
      → IsUnwritten (client_of last_history l) old.sessions.entries
  fresh_of l b late =
      let f = fresh laws old new ease goes rests begun l b.birth b.is late in
      subst (λ (n : ℕ). IsUnwritten n old.sessions.entries) (sym (client_is last_history l b.birth b.is))
      (record { session = f.session; is = f.is; unwritten = f.unwritten })

  call_born : (call : Call) → IsAskedIn (state first_history).drawn (sent_since laws old new ease goes rests begun).0
      call → IsBorn last_history call.caller
  call_born call asked = found_open last_history (state first_history).drawn call.caller ps past asked.1

  only_in : (cs : List Call) → AllByRecursion (IsAskedIn (state first_history).drawn (sent_since laws old new ease goes rests begun).0) cs
      → AllByRecursion (λ (call : Call). IsUnwritten call.caller old.sessions.entries) (renamed (client_of last_history) cs)
  only_in [] all = tt
  only_in (call ∷ cs) all = (fresh_of call.caller (call_born call all.0) all.0.0, only_in cs all.1)

  -- ---- each such session
  module _ (n : ℕ) (session : Session) (unwritten : IsUnwritten n old.sessions.entries)
      (is : at n new.sessions.entries ≡ Some session) where
    a : IsToldAnswer (now laws old new ease goes rests begun) n session
    a =
        told_answer laws.rest last_history new (holds_now laws old new ease goes rests begun)
        (greeted_now laws old new ease goes rests begun)
        (asks_now laws old new ease goes rests begun) rests laws.requests laws.answered n session
        (kept_now laws old new ease goes rests begun n session is)
        (words_now laws old new ease goes rests begun n session is)

    unborn : (b : Birth) → born a.number first_history ≡ Some b → ⊥
    unborn b was =
        let both : Some b ≡ Some a.birth =
        sym (born_behind a.number b (more laws old new ease goes rests begun) first_history was) ∙ a.is in
        let same : b ≡ a.birth = cc in
        let client : b.client ≡ n = ap (λ (x : Birth). x.client) same ∙ a.client in
        not_both laws old new ease goes rests begun n
        (unasked laws old new ease goes rests begun n unwritten.session unwritten.is unwritten.unwritten)
        (subst (λ (c : ℕ). is_some (asked c first_history).next ≡ true) client
        (asked_of_birth first_history (legal laws old new ease goes rests begun) ease.runs.holds.asks
        (asks laws old new ease goes rests begun) a.number b
        was).asked_it)

    late : (state first_history).drawn < a.number
    late = go (cases_lt (state first_history).drawn a.number)
      where
        go : ((state first_history).drawn < a.number) ⊎ (a.number ≤ (state first_history).drawn) → (state first_history).drawn < a.number
        go (inl less) = less
        go (inr le) =
            let drawn = (all_births first_history (legal laws old new ease goes rests begun)).drawn in
            let was = drawn_born first_history last_history a.number a.birth a.is (omega (arith, le, drawn)) in
            absurd (unborn was.birth was.is)

    row_ran : RowRan files_then ran.calls a.row
    row_ran = go a.served.there
      where
        host_late : (state first_history).drawn < a.row.host
        host_late = subst (λ (k : ℕ). (state first_history).drawn < k) (sym a.served.host) late

        go : (at a.served.own (served_by last_history).rows ≡ Some a.row) ⊎ HasEndedAs a.served.own a.row (served_by last_history).ended
            → RowRan files_then ran.calls a.row
        go (inl live) = ran.live a.served.own a.row live host_late
        go (inr e) =
            subst (λ (row : Row). RowRan files_then ran.calls row) e.row_is
            (ran.over a.served.own e.over e.is
            (subst (λ (k : ℕ). (state first_history).drawn < k) (sym (ap (λ (row : Row). row.host) e.row_is)) host_late))

    named_in : (cs : List Call)
        → AllByRecursion (IsAskedIn (state first_history).drawn (sent_since laws old new ease goes rests begun).0) cs
        → AllByRecursion (IsNamed (client_of last_history) n a.row.host) cs
    named_in [] all = tt
    named_in (call ∷ cs) all = (one (call_born call all.0), named_in cs all.1)
      where
        one : IsBorn last_history call.caller → (client_of last_history call.caller == n) ≡ (call.caller == a.row.host)
        one b =
            same_tests (client_of last_history call.caller) n call.caller a.row.host
            (λ same. one_stream_each last_history (legal_now laws old new ease goes rests begun) call.caller a.number
            b.birth a.birth b.is a.is
            (sym (client_is last_history call.caller b.birth b.is) ∙ (same ∙ sym a.client)) ∙ sym a.served.host)
            (λ same.
            let number : call.caller ≡ a.number = same ∙ a.served.host in
            client_is last_history call.caller a.birth (ap (λ (k : ℕ). born k last_history) number ∙ a.is) ∙ a.client)

    whole : IsWholeThrough files_then ran.calls a.row.host a.row.kind
        (service_answer a.row.kind a.row.first a.row.past).bytes (text_of session)
    whole = whole_through files_then ran.calls a.row (text_of session) row_ran a.came

    through : IsAnsweredThrough files_then calls n session
    through = record {
      kind = a.row.kind;
      asked = a.asked;
      asks = asks_renamed (client_of last_history) n a.row.host ran.calls (named_in ran.calls ran.asked) ∙ whole.asks;
      got = a.put_as
          ∙ ap (λ (x : List ℕ). codes "OKAYOKAY" ++ x) (whole.answer
          ∙ sym (answer_renamed (client_of last_history) n a.row.host a.row.kind (text_of session) files_then
          ran.calls (named_in ran.calls ran.asked)));
    }

  pub answered_together : AreAnsweredTogether (files_of old.device) (files_of new.device) old.sessions.entries new.sessions.entries
  answered_together =
      subst (λ (files : List File). AreAnsweredTogether files (files_of new.device) old.sessions.entries new.sessions.entries)
      (sym (files_old laws old new ease goes rests begun)) (record {
        calls = calls;
        left_files = files_now laws old new ease goes rests begun
            ∙ (ran.left ∙ sym (files_renamed (client_of last_history) files_then ran.calls));
        answered = λ n session unwritten is. through n session unwritten is;
        only = only_in ran.calls ran.asked;
      })
