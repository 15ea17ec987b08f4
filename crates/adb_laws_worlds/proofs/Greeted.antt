-- A server says to each link first who it is, and says it once.
use Rattle.std.specs.Prelude.{ℕ, ◌+◌, ◌%◌, ◌^◌, ◌≡◌, ◌<◌, ◌≤◌, Bool, true, false, cond, All, List, [], ◌∷◌, ◌++◌, sum, nat_eq, Option, Some}
use Rattle.std.specs.Prelude.{None}
use Rattle.std.proofs.Common.{refl, sym, ◌∙◌, ap, subst, arith, ◌⊎◌, inl, inr}
use Rattle.std.proofs.lemmas.Bool.{cases_lt, cases_eq, eq-eqb, ne_eqb}
use Rattle.std.proofs.lemmas.List.Elements.{All-nil, All-cons, All-append, All-weaker, All-head, All-tail}
use Rattle.adb_outside.specs.Tables.{Rows}
use Rattle.adb_outside.specs.declared.kinds.Kind.{Kind}
use Rattle.adb_wire.specs.Cutting.{framed}
use Rattle.adb_wire.specs.Format.{is_cnxn}
use Rattle.adb_wire.specs.declared.command.Command.{Command}
use Rattle.adb_wire.specs.declared.command.Command.TheVariants.{Okay, Wrte, Clse}
use Rattle.adb_wire.specs.declared.packets.Packet.{Packet}
use Rattle.adb_stream.specs.declared.row.Stream.{Stream}
use Rattle.adb_capture.specs.declared.entry.Entry.{Entry}
use Rattle.adb_capture.specs.declared.entry.Entry.TheVariants.{Attach, Recv}
use Rattle.adb_history.specs.Book.{plugged_count}
use Rattle.adb_history.specs.Rows.{Link, State}
use Rattle.adb_history.specs.Events.{Made, Event, due_to_client, due_to_link, ended, packets_to}
use Rattle.adb_history.specs.Links.{server_cnxn, open_packet}
use Rattle.adb_history.specs.Lives.{packets_of}
use Rattle.adb_history.specs.Packets.{treat, treat_all, faulty, receives_on}
use Rattle.adb_history.specs.Machine.{History, state, told, told_at, rule, ups, step, IsLegal}
use Rattle.adb_history.specs.Births.{Birth, births_at}
use Rattle.adb_history.specs.Linked.{IsLinked}
use Rattle.adb_history.proofs.OutputEntries.{tied}
use Rattle.adb_laws_births.specs.Going.{IsOfOpen, IsFrom, Goes}
use Rattle.adb_laws_births.specs.Hearing.{IsAnswer}
use Rattle.adb_laws_births.specs.Drawing.{with_drawn, Draws, Makes}
use Rattle.adb_laws_births.proofs.GoingRules.{goes_faulty}
use Rattle.adb_laws_births.proofs.Treating.{treats}
use Rattle.adb_laws_births.proofs.Drawing.{makes_goes}
use Rattle.adb_laws_births.proofs.Rules.{entry_makes}
use Rattle.adb_laws_births.proofs.Receiving.{treated_linked, cut_now, rested, rested_linked}
use Rattle.adb_laws_births.proofs.Born.{goes_ups}
use Rattle.adb_laws_births.proofs.Laws.{sends_first}
use Rattle.adb_laws_births.proofs.Once.{packets_append}
use Rattle.adb_laws_model_device.specs.Counts.{how_many}
use Rattle.adb_laws_model_device.proofs.Counts.{many_append}
use Rattle.adb_laws_model_device.specs.Rows.{is_cnxn_packet}
use Rattle.adb_laws_worlds.specs.Greeted.{BeginsOnce, IsGreeted, GreetsLinks}

-- ---- events that are no CNXN
abbrev SaysOther : Event → Type 0
SaysOther (due_to_client client bytes) = Unit {0}
SaysOther (due_to_link link packet check) = is_cnxn packet.command ≡ false
SaysOther (ended stream ending) = Unit {0}

-- how many CNXNs some events are, to a link
abbrev greets : ℕ → List Event → ℕ
greets t events = how_many is_cnxn_packet (packets_to t events)

none_greeted : (t : ℕ) (events : List Event) → All SaysOther events → greets t events ≡ 0
none_greeted t [] all = refl
none_greeted t (due_to_client client bytes ∷ events) all = none_greeted t events (All-tail SaysOther _ events all)
none_greeted t (ended stream ending ∷ events) all = none_greeted t events (All-tail SaysOther _ events all)
none_greeted t (due_to_link link p check ∷ events) all =
    go (nat_eq link t) (All-head SaysOther _ events all) (none_greeted t events (All-tail SaysOther _ events all))
  where
    go : (b : Bool) → is_cnxn p.command ≡ false → greets t events ≡ 0
        → how_many is_cnxn_packet (cond b (p ∷ packets_to t events) (packets_to t events)) ≡ 0
    go true other none = ap (λ (c : Bool). cond c (1 + greets t events) (greets t events)) other ∙ none
    go false other none = none

open_other : (command : Command) → IsOfOpen command → is_cnxn command ≡ false
open_other Okay of = refl
open_other Wrte of = refl
open_other Clse of = refl
open_other _ of = absurd of

from_other : (streams : Rows (Option Stream)) (e : Event) → IsFrom streams e → SaysOther e
from_other streams (due_to_client client bytes) from = tt
from_other streams (due_to_link t p check) from = open_other p.command from.0.of
from_other streams (ended stream ending) from = tt

answer_other : (streams : Rows (Option Stream)) (t : ℕ) (p : Packet) (e : Event) → IsAnswer streams t p e → SaysOther e
answer_other streams t p (due_to_client client bytes) answer = tt
answer_other streams t p (due_to_link link q check) (inl of, short) = open_other q.command of.of
answer_other streams t p (due_to_link link q check) (inr (inl x), short) = ap (λ (y : Packet). is_cnxn y.command) x.packet
answer_other streams t p (due_to_link link q check) (inr (inr x), short) = ap (λ (y : Packet). is_cnxn y.command) x.packet
answer_other streams t p (ended stream ending) answer = tt

goes_other : (streams : Rows (Option Stream)) (drawn : ℕ) (m : Made) → Goes streams drawn m → All SaysOther m.told
goes_other streams drawn m goes = All-weaker (IsFrom streams) SaysOther (from_other streams) m.told goes.told

treated_other : (t : ℕ) (ps : List Packet) (s : State) → IsLinked s → All SaysOther (treat_all t ps s).told
treated_other t [] s h = All-nil SaysOther
treated_other t (p ∷ ps) s h =
    let first : Made = treat t p s in
    All-append SaysOther first.told (treat_all t ps first.state).told
    (All-weaker (IsAnswer s.streams t p) SaysOther (answer_other s.streams t p) first.told (treats t p s h).told)
    (treated_other t ps first.state (treated_linked t p s h))

drawn_other : (streams : Rows (Option Stream)) (drawn : ℕ) (b : Birth) (m : Made) → Draws streams drawn b m → All SaysOther m.told
drawn_other streams drawn b m d =
    let asks : Event = due_to_link b.link (open_packet b.credit (drawn + 1) b.service) d.check in
    subst (λ (events : List Event). All SaysOther events) (sym d.told_is)
    (All-append SaysOther d.first (asks ∷ d.last) (All-weaker (IsFrom streams) SaysOther (from_other streams) d.first d.before)
    (All-cons SaysOther asks d.last refl
    (All-weaker (IsFrom (with_drawn drawn b streams)) SaysOther (from_other (with_drawn drawn b streams)) d.last d.after)))

made_other : (streams : Rows (Option Stream)) (drawn : ℕ) (bs : List Birth) (m : Made) → Makes streams drawn bs m → All SaysOther m.told
made_other streams drawn [] m goes = goes_other streams drawn m goes
made_other streams drawn (b ∷ []) m (inl full) = goes_other streams drawn m full.1
made_other streams drawn (b ∷ []) m (inr some) = drawn_other streams drawn b m some.1
made_other streams drawn (b ∷ c ∷ bs) m h = absurd h

-- ---- entries
module _ (older : History) (legal : IsLegal older) where
  abbrev s : State
  s = state older

  rule_other : (e : Entry) → IsLegal (e ∷ older) → Makes s.streams s.drawn (births_at e older) (rule e s) → All SaysOther (told_at e older)
  rule_other e l h = made_other s.streams s.drawn (births_at e older) (step s e)
      (makes_goes s.streams s.drawn (births_at e older) (rule e s) ups h (goes_ups older legal e l))

  ups_other : (e : Entry) → IsLegal (e ∷ older) → All SaysOther (ups (rule e s).state).told
  ups_other e l = goes_other (rule e s).state.streams (rule e s).state.drawn (ups (rule e s).state) (goes_ups older legal e l)

  recv_other : (t : ℕ) (bytes : List ℕ) (o : Option Link) → s.links t ≡ o → All SaysOther (receives_on o t bytes s).told
  recv_other t bytes None is = All-nil SaysOther
  recv_other t bytes (Some link) is =
      let c = cut_now older legal t bytes link in
      let taken : State = rested older legal t bytes link in
      let treated : Made = treat_all t c.given taken in
      let left : Made = faulty t c.fault treated.state in
      All-append SaysOther treated.told left.told (treated_other t c.given taken (rested_linked older legal t bytes link))
      (goes_other treated.state.streams treated.state.drawn left (goes_faulty (treated.state.links t) t c.fault treated.state))

  -- an entry says to no link who the server is, or it plugs in a device and says so to that one's alone
  record SaysNone (e : Entry) : Type 0 where
    other : All SaysOther (told_at e older)
    same : plugged_count (e ∷ older) ≡ plugged_count older

  record SaysOnce (e : Entry) : Type 0 where
    rest : List Event
    other : All SaysOther rest
    check : ℕ
    says : told_at e older ≡ due_to_link (plugged_count older + 1) server_cnxn check ∷ rest
    more : plugged_count (e ∷ older) ≡ plugged_count older + 1

  abbrev Says : Entry → Type 0
  Says e = SaysNone e ⊎ SaysOnce e

  attach_says : (t : ℕ) (kind : Kind) (serial : List ℕ) → IsLegal (Attach t kind serial ∷ older) → Says (Attach t kind serial)
  attach_says t kind serial l =
      let e : Entry = Attach t kind serial in
      let number : t ≡ plugged_count older + 1 = l.2.1 ∙ ap (λ (n : ℕ). n + 1) (tied older legal).drawn in
      inr (record {
        rest = (ups (rule e (state older)).state).told;
        other = ups_other e l;
        check = sum server_cnxn.payload % 2 ^ 32;
        says = ap (λ (n : ℕ). due_to_link n server_cnxn (sum server_cnxn.payload % 2 ^ 32)
            ∷ (ups (rule e (state older)).state).told) number;
        more = refl;
      })

  none : (e : Entry) → All SaysOther (told_at e older) → plugged_count (e ∷ older) ≡ plugged_count older → Says e
  none e other same = inl (record { other = other; same = same })

  entry_says : (e : Entry) → IsLegal (e ∷ older) → Says e
  entry_says (Attach t kind serial) l = attach_says t kind serial l
  entry_says (Recv t bytes) l =
      none (Recv t bytes)
      (All-append SaysOther (rule (Recv t bytes) s).told (ups (rule (Recv t bytes) s).state).told (recv_other t bytes (s.links t) refl)
      (ups_other (Recv t bytes) l)) refl
  entry_says e l = none e (rule_other e l (entry_makes older legal e l.2 tt)) refl

-- ---- all entries
-- nothing becomes due to a link that was not plugged in
none_due : (h : History) → IsLegal h → (t : ℕ) → plugged_count h < t → packets_of t h ≡ []
none_due h legal t above =
    sym (sends_first h legal t).packets ∙ ap (λ (bytes : List ℕ). (framed bytes).given) ((tied h legal).told.links t above)

-- more that is no CNXN
begins_more : (packets more : List Packet) → how_many is_cnxn_packet more ≡ 0 → BeginsOnce packets → BeginsOnce (packets ++ more)
begins_more packets more none b = record {
  rest = b.rest ++ more;
  is = ap (λ (ps : List Packet). ps ++ more) b.is;
  once = (let sum = many_append is_cnxn_packet b.rest more in let once = b.once in omega (arith, sum, once, none));
}

pub greets_links : (h : History) → IsLegal h → GreetsLinks h
greets_links [] legal t = record { plugged = λ some le. absurd (omega (arith, some, le)); absent = λ above. refl }
greets_links (e ∷ older) legal t = record {
  plugged = λ some le. go some le (entry_says older legal.0 e legal) (greets_links older legal.0 t);
  absent = λ above. none_due (e ∷ older) legal t above;
}
  where
    grown : packets_of t (e ∷ older) ≡ packets_of t older ++ packets_to t (told_at e older)
    grown = packets_append t (told older) (told_at e older)

    Goal : Type 0
    Goal = BeginsOnce (packets_of t (e ∷ older))

    -- the link was there before
    later : packets_of t (e ∷ older) ≡ packets_of t older ++ packets_to t (told_at e older) → greets t (told_at e older) ≡ 0
        → BeginsOnce (packets_of t older) → BeginsOnce (packets_of t (e ∷ older))
    later is none b = subst (λ (ps : List Packet). BeginsOnce ps) (sym is)
        (begins_more (packets_of t older) (packets_to t (told_at e older)) none b)

    -- it is plugged in now
    now : (rest : List Event) (check : ℕ) → All SaysOther rest
        → told_at e older ≡ due_to_link (plugged_count older + 1) server_cnxn check ∷ rest
        → t ≡ plugged_count older + 1 → packets_of t older ≡ [] → BeginsOnce (packets_of t (e ∷ older))
    now rest check other says here none = record {
      rest = packets_to t rest;
      is = packets_append t (told older) (told_at e older) ∙ (ap (λ (ps : List Packet). ps ++ packets_to t (told_at e older)) none
          ∙ (ap (packets_to t) says
          ∙ ap (λ (b : Bool). cond b (server_cnxn ∷ packets_to t rest) (packets_to t rest))
          (eq-eqb (plugged_count older + 1) t (sym here))));
      once = none_greeted t rest other;
    }

    -- another is
    beside : (rest : List Event) (check : ℕ) → All SaysOther rest
        → told_at e older ≡ due_to_link (plugged_count older + 1) server_cnxn check ∷ rest
        → (plugged_count older + 1 ≡ t → ⊥) → greets t (told_at e older) ≡ 0
    beside rest check other says apart =
        ap (greets t) says
        ∙ (ap (λ (b : Bool). how_many is_cnxn_packet (cond b (server_cnxn ∷ packets_to t rest) (packets_to t rest)))
        (ne_eqb (plugged_count older + 1) t apart) ∙ none_greeted t rest other)

    go : 0 < t → t ≤ plugged_count (e ∷ older) → Says older legal.0 e → IsGreeted t older → BeginsOnce (packets_of t (e ∷ older))
    go some le (inl x) before =
        let same = x.same in
        later (packets_append t (told older) (told_at e older)) (none_greeted t (told_at e older) x.other)
        (before.plugged some (omega (arith, le, same)))
    go some le (inr x) before = by (cases_eq (plugged_count older + 1) t)
      where
        by : (plugged_count older + 1 ≡ t) ⊎ (plugged_count older + 1 ≡ t → ⊥) → BeginsOnce (packets_of t (e ∷ older))
        by (inl here) = now x.rest x.check x.other x.says (sym here) (before.absent (omega (arith, here)))
        by (inr apart) =
            later (packets_append t (told older) (told_at e older)) (beside x.rest x.check x.other x.says apart)
            (before.plugged some (within apart))
          where
            within : (plugged_count older + 1 ≡ t → ⊥) → t ≤ plugged_count older
            within apart = elim (cases_lt (plugged_count older) t) [
              | inl lt ↦ absurd (apart (let more = x.more in omega (arith, lt, le, more)))
              | inr le ↦ le
            ]
