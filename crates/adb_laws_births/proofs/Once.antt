-- A stream is asked for once.
use Rattle.std.proofs.Common.{ℕ, ◌+◌, ◌≡◌, ◌≢◌, ◌<◌, ◌≤◌, Bool, true, false, cond, All, List, [], ◌∷◌, ◌++◌, Option, Some, None, refl, sym}
use Rattle.std.proofs.Common.{ap, ◌∙◌}
use Rattle.std.proofs.Common.{◌⊎◌, inl, inr, arith}
use Rattle.std.specs.Prelude.{nat_eq, ◌&&◌}
use Rattle.std.proofs.lemmas.Bool.{ne_eqb, cases_eq}
use Rattle.std.proofs.lemmas.List.Elements.{All-nil, All-cons, All-append, All-weaker, All-head, All-tail}
use Rattle.adb_outside.specs.Tables.{Rows}
use Rattle.adb_wire.specs.declared.command.Command.{Command}
use Rattle.adb_wire.specs.declared.command.Command.TheVariants.{Okay, Wrte, Clse}
use Rattle.adb_wire.specs.declared.packets.Packet.{Packet}
use Rattle.adb_stream.specs.declared.row.Stream.{Stream}
use Rattle.adb_capture.specs.declared.entry.Entry.{Entry}
use Rattle.adb_capture.specs.declared.entry.Entry.TheVariants.{Attach, Recv}
use Rattle.adb_history.specs.Rows.{Link, State}
use Rattle.adb_history.specs.Events.{Made, Event, due_to_client, due_to_link, ended, packets_to}
use Rattle.adb_history.specs.Links.{open_packet}
use Rattle.adb_history.specs.Packets.{treat, treat_all, faulty, receives_on}
use Rattle.adb_history.specs.Machine.{History, state, told, told_at, rule, ups, step, IsLegal}
use Rattle.adb_history.specs.Births.{Birth, births_at, is_open, count_from}
use Rattle.adb_history.specs.Linked.{IsLinked}
use Rattle.adb_laws_births.specs.Going.{IsOfOpen, IsFrom, Goes}
use Rattle.adb_laws_births.specs.Hearing.{IsAnswer}
use Rattle.adb_laws_births.specs.Drawing.{with_drawn, Draws, Makes}
use Rattle.adb_laws_births.proofs.GoingRules.{goes_faulty}
use Rattle.adb_laws_births.proofs.Treating.{treats}
use Rattle.adb_laws_births.proofs.Drawing.{makes_goes}
use Rattle.adb_laws_births.proofs.Rules.{entry_makes}
use Rattle.adb_laws_births.proofs.Receiving.{treated_linked, cut_now, rested, rested_linked, cut_drawn}
use Rattle.adb_laws_births.proofs.Born.{goes_ups}

-- ---- packets in order
pub packets_append : (t : ℕ) (es fs : List Event) → packets_to t (es ++ fs) ≡ packets_to t es ++ packets_to t fs
packets_append t [] fs = refl
packets_append t (due_to_client client bytes ∷ es) fs = packets_append t es fs
packets_append t (ended stream ending ∷ es) fs = packets_append t es fs
packets_append t (due_to_link link p check ∷ es) fs = go (nat_eq link t) (packets_append t es fs)
  where
    go : (b : Bool) → packets_to t (es ++ fs) ≡ packets_to t es ++ packets_to t fs
        → cond b (p ∷ packets_to t (es ++ fs)) (packets_to t (es ++ fs)) ≡ cond b (p ∷ packets_to t es) (packets_to t es) ++ packets_to t fs
    go true e = ap (λ ps. p ∷ ps) e
    go false e = e

pub count_append : (is_such : Command → Bool) (l : ℕ) (xs ys : List Packet)
    → count_from is_such l (xs ++ ys) ≡ count_from is_such l xs + count_from is_such l ys
count_append is_such l [] ys = omega arith
count_append is_such l (p ∷ xs) ys = go (is_such p.command && nat_eq p.arg0 l) (count_append is_such l xs ys)
  where
    all : ℕ
    all = count_from is_such l (xs ++ ys)

    front : ℕ
    front = count_from is_such l xs

    go : (b : Bool) → all ≡ front + count_from is_such l ys → cond b (1 + all) all ≡ cond b (1 + front) front + count_from is_such l ys
    go true e = omega (arith, e)
    go false e = e

-- ---- how often a stream is asked for
abbrev opens_to : (t l : ℕ) → List Event → ℕ
opens_to t l events = count_from is_open l (packets_to t events)

opens_append : (t l : ℕ) (es fs : List Event) → opens_to t l (es ++ fs) ≡ opens_to t l es + opens_to t l fs
opens_append t l es fs = ap (count_from is_open l) (packets_append t es fs) ∙ count_append is_open l (packets_to t es) (packets_to t fs)

abbrev AsksNone : Event → Type 0
AsksNone (due_to_client client bytes) = Unit {0}
AsksNone (due_to_link link packet check) = is_open packet.command ≡ false
AsksNone (ended stream ending) = Unit {0}

none_asked : (t l : ℕ) (events : List Event) → All AsksNone events → opens_to t l events ≡ 0
none_asked t l [] all = refl
none_asked t l (due_to_client client bytes ∷ events) all = none_asked t l events (All-tail AsksNone _ events all)
none_asked t l (ended stream ending ∷ events) all = none_asked t l events (All-tail AsksNone _ events all)
none_asked t l (due_to_link link p check ∷ events) all =
    go (nat_eq link t) (All-head AsksNone _ events all) (none_asked t l events (All-tail AsksNone _ events all))
  where
    more : ℕ
    more = count_from is_open l (packets_to t events)

    go : (b : Bool) → is_open p.command ≡ false → more ≡ 0 → count_from is_open l
        (cond b (p ∷ packets_to t events) (packets_to t events)) ≡ 0
    go true none e = ap (λ (c : Bool). cond (c && nat_eq p.arg0 l) (1 + more) more) none ∙ e
    go false none e = e

-- ---- which events ask for none
open_not : (command : Command) → IsOfOpen command → is_open command ≡ false
open_not Okay of = refl
open_not Wrte of = refl
open_not Clse of = refl
open_not _ of = absurd of

from_none : (streams : Rows (Option Stream)) (e : Event) → IsFrom streams e → AsksNone e
from_none streams (due_to_client client bytes) from = tt
from_none streams (due_to_link t p check) from = open_not p.command from.0.of
from_none streams (ended stream ending) from = tt

answer_none : (streams : Rows (Option Stream)) (t : ℕ) (p : Packet) (e : Event) → IsAnswer streams t p e → AsksNone e
answer_none streams t p (due_to_client client bytes) answer = tt
answer_none streams t p (due_to_link link q check) (inl of, short) = open_not q.command of.of
answer_none streams t p (due_to_link link q check) (inr (inl x), short) = ap (λ (y : Packet). is_open y.command) x.packet
answer_none streams t p (due_to_link link q check) (inr (inr x), short) = ap (λ (y : Packet). is_open y.command) x.packet
answer_none streams t p (ended stream ending) answer = tt

goes_none : (streams : Rows (Option Stream)) (drawn : ℕ) (m : Made) → Goes streams drawn m → All AsksNone m.told
goes_none streams drawn m goes = All-weaker (IsFrom streams) AsksNone (from_none streams) m.told goes.told

treated_none : (t : ℕ) (ps : List Packet) (s : State) → IsLinked s → All AsksNone (treat_all t ps s).told
treated_none t [] s h = All-nil AsksNone
treated_none t (p ∷ ps) s h =
    let first : Made = treat t p s in
    All-append AsksNone first.told (treat_all t ps first.state).told
    (All-weaker (IsAnswer s.streams t p) AsksNone (answer_none s.streams t p) first.told (treats t p s h).told)
    (treated_none t ps first.state (treated_linked t p s h))

-- ---- what an entry asks for: the next stream once, or none
pub record AsksNext (drawn next : ℕ) (events : List Event) : Type 0 where
  pub steps : (next ≡ drawn) ⊎ (next ≡ drawn + 1)
  pub none : next ≡ drawn → (t l : ℕ) → opens_to t l events ≡ 0
  pub other : (t l : ℕ) → l ≢ next → opens_to t l events ≡ 0
  pub once : (t l : ℕ) → opens_to t l events ≤ 1

asks_none : (drawn next : ℕ) (events : List Event) → next ≡ drawn → All AsksNone events → AsksNext drawn next events
asks_none drawn next events same all = record {
  steps = inl same;
  none = λ e t l. none_asked t l events all;
  other = λ t l apart. none_asked t l events all;
  once = λ t l. omega (arith, none_asked t l events all);
}

asks_drawn : (streams : Rows (Option Stream)) (drawn : ℕ) (b : Birth) (m : Made) → Draws streams drawn b m
    → AsksNext drawn m.state.drawn m.told
asks_drawn streams drawn b m d = record {
  steps = inr d.drawn_is;
  none = λ same t l. absurd (omega (arith, same, d.drawn_is));
  other = λ t l apart. counted t l ∙ here_other t l (λ e. apart (sym e ∙ sym d.drawn_is));
  once = λ t l. omega (arith, counted t l, here_once t l);
}
  where
    p : Packet
    p = open_packet b.credit (drawn + 1) b.service

    here : (t l : ℕ) → ℕ
    here t l = opens_to t l (due_to_link b.link (open_packet b.credit (drawn + 1) b.service) d.check ∷ [])

    before_none : All AsksNone d.first
    before_none = All-weaker (IsFrom streams) AsksNone (from_none streams) d.first d.before

    after_none : All AsksNone d.last
    after_none = All-weaker (IsFrom (with_drawn drawn b streams)) AsksNone (from_none (with_drawn drawn b streams)) d.last d.after

    counted : (t l : ℕ) → opens_to t l m.told ≡ opens_to t l (due_to_link b.link (open_packet b.credit (drawn + 1) b.service) d.check ∷ [])
    counted t l =
        let e : Event = due_to_link b.link (open_packet b.credit (drawn + 1) b.service) d.check in
        let first = opens_append t l d.first (e ∷ d.last) in
        let second = opens_append t l (e ∷ []) d.last in
        ap (opens_to t l) d.told_is ∙ omega (arith, first, second, none_asked t l d.first before_none, none_asked t l d.last after_none)

    here_other : (t l : ℕ) → drawn + 1 ≢ l → opens_to t l (due_to_link b.link (open_packet b.credit (drawn + 1) b.service) d.check ∷ []) ≡ 0
    here_other t l apart = go (nat_eq b.link t)
      where
        go : (c : Bool) → count_from is_open l (cond c (open_packet b.credit (drawn + 1) b.service ∷ []) []) ≡ 0
        go true = ap (λ (x : Bool). cond x 1 0) (ne_eqb (drawn + 1) l apart)
        go false = refl

    here_once : (t l : ℕ) → opens_to t l (due_to_link b.link (open_packet b.credit (drawn + 1) b.service) d.check ∷ []) ≤ 1
    here_once t l = go (nat_eq b.link t)
      where
        one : (x : Bool) → cond x 1 0 ≤ 1
        one true = omega arith
        one false = omega arith

        go : (c : Bool) → count_from is_open l (cond c (open_packet b.credit (drawn + 1) b.service ∷ []) []) ≤ 1
        go true = one (nat_eq (drawn + 1) l)
        go false = omega arith

asks_made : (streams : Rows (Option Stream)) (drawn : ℕ) (bs : List Birth) (m : Made) → Makes streams drawn bs m
    → AsksNext drawn m.state.drawn m.told
asks_made streams drawn [] m goes = asks_none drawn m.state.drawn m.told goes.drawn_is (goes_none streams drawn m goes)
asks_made streams drawn (b ∷ []) m (inl full) = asks_none drawn m.state.drawn m.told full.1.drawn_is (goes_none streams drawn m full.1)
asks_made streams drawn (b ∷ []) m (inr some) = asks_drawn streams drawn b m some.1
asks_made streams drawn (b ∷ c ∷ bs) m h = absurd h

module _ (older : History) (legal : IsLegal older) where
  abbrev s : State
  s = state older

  rule_asks : (e : Entry) → IsLegal (e ∷ older) → Makes s.streams s.drawn (births_at e older) (rule e s)
      → AsksNext s.drawn (state (e ∷ older)).drawn (told_at e older)
  rule_asks e l h = asks_made s.streams s.drawn (births_at e older) (step s e)
      (makes_goes s.streams s.drawn (births_at e older) (rule e s) ups h (goes_ups older legal e l))

  quiet_asks : (e : Entry) → IsLegal (e ∷ older) → (rule e s).state.drawn ≡ s.drawn → All AsksNone (rule e s).told
      → AsksNext s.drawn (state (e ∷ older)).drawn (told_at e older)
  quiet_asks e l same none =
      let goes = goes_ups older legal e l in
      asks_none s.drawn (state (e ∷ older)).drawn (told_at e older) (goes.drawn_is ∙ same)
      (All-append AsksNone (rule e s).told (ups (rule e s).state).told none
      (goes_none (rule e s).state.streams (rule e s).state.drawn (ups (rule e s).state) goes))

  recv_none : (t : ℕ) (bytes : List ℕ) (o : Option Link) → s.links t ≡ o → All AsksNone (receives_on o t bytes s).told
  recv_none t bytes None is = All-nil AsksNone
  recv_none t bytes (Some link) is =
      let c = cut_now older legal t bytes link in
      let taken : State = rested older legal t bytes link in
      let treated : Made = treat_all t c.given taken in
      let left : Made = faulty t c.fault treated.state in
      All-append AsksNone treated.told left.told (treated_none t c.given taken (rested_linked older legal t bytes link))
      (goes_none treated.state.streams treated.state.drawn left (goes_faulty (treated.state.links t) t c.fault treated.state))

  pub recv_same : (t : ℕ) (bytes : List ℕ) (o : Option Link) → (receives_on o t bytes s).state.drawn ≡ s.drawn
  recv_same t bytes None = refl
  recv_same t bytes (Some link) = cut_drawn older legal t bytes link

  pub entry_asks : (e : Entry) → IsLegal (e ∷ older) → AsksNext s.drawn (state (e ∷ older)).drawn (told_at e older)
  entry_asks (Attach t kind serial) l = quiet_asks (Attach t kind serial) l refl (All-cons AsksNone _ [] refl (All-nil AsksNone))
  entry_asks (Recv t bytes) l = quiet_asks (Recv t bytes) l (recv_same t bytes (s.links t)) (recv_none t bytes (s.links t) refl)
  entry_asks e l = rule_asks e l (entry_makes older legal e l.2 tt)

-- ---- all entries
pub record AsksOnce (h : History) : Type 0 where
  pub once : (t l : ℕ) → opens_to t l (told h) ≤ 1
  pub above : (t l : ℕ) → (state h).drawn < l → opens_to t l (told h) ≡ 0

asks_step : (e : Entry) (older : History) → AsksOnce older → AsksNext (state older).drawn (state (e ∷ older)).drawn
    (told_at e older) → AsksOnce (e ∷ older)
asks_step e older before now = record { once = λ t l. once t l (cases_eq l next) now.steps; above = λ t l lt. above t l lt now.steps }
  where
    drawn : ℕ
    drawn = (state older).drawn

    next : ℕ
    next = (state (e ∷ older)).drawn

    both : (t l : ℕ) → opens_to t l (told (e ∷ older)) ≡ opens_to t l (told older) + opens_to t l (told_at e older)
    both t l = opens_append t l (told older) (told_at e older)

    once : (t l : ℕ) → (l ≡ (state (e ∷ older)).drawn) ⊎ (l ≡ (state (e ∷ older)).drawn → ⊥)
        → ((state (e ∷ older)).drawn ≡ (state older).drawn) ⊎ ((state (e ∷ older)).drawn ≡ (state older).drawn + 1)
        → opens_to t l (told (e ∷ older)) ≤ 1
    once t l (inr apart) steps = omega (arith, both t l, now.other t l apart, before.once t l)
    once t l (inl same) (inl still) = omega (arith, both t l, now.none still t l, before.once t l)
    once t l (inl same) (inr more) = omega (arith, both t l, now.once t l, before.above t l (omega (arith, same, more)))

    above : (t l : ℕ) → (state (e ∷ older)).drawn < l
        → ((state (e ∷ older)).drawn ≡ (state older).drawn) ⊎ ((state (e ∷ older)).drawn ≡ (state older).drawn + 1)
        → opens_to t l (told (e ∷ older)) ≡ 0
    above t l lt (inl still) =
        omega (arith, both t l, before.above t l (omega (arith, lt, still)), now.other t l (λ same. past same lt))
      where
        past : l ≡ (state (e ∷ older)).drawn → (state (e ∷ older)).drawn < l → ⊥
        past same lt = omega (arith, same, lt)
    above t l lt (inr more) =
        omega (arith, both t l, before.above t l (omega (arith, lt, more)), now.other t l (λ same. past same lt))
      where
        past : l ≡ (state (e ∷ older)).drawn → (state (e ∷ older)).drawn < l → ⊥
        past same lt = omega (arith, same, lt)

-- In every legal history a stream is asked for once.
pub all_once : (h : History) → IsLegal h → AsksOnce h
all_once [] legal = record { once = λ t l. omega arith; above = λ t l lt. refl }
all_once (e ∷ older) legal = asks_step e older (all_once older legal.0) (entry_asks older legal.0 e legal)
