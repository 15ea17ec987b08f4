-- The server keeps what the entries say: whether a kill stands, the forwards, what clients asked, and which wait for a listener.
use Rattle.std.proofs.Common.{ℕ, ◌≡◌, ◌≤◌, ◌<◌, Bool, true, false, cond, List, [], ◌∷◌, ◌++◌, Option, Some, None, refl, sym, ◌∙◌, ap, subst}
use Rattle.std.proofs.Common.{arith, eqb}
use Rattle.std.proofs.lemmas.Bool.{ne_eqb}
use Rattle.std.specs.Prelude.{◌&&◌, ◌||◌, not}
use Rattle.adb_registry.specs.Registry.{DeviceTable}
use Rattle.adb_forward.specs.declared.row.ForwardRow.{ForwardRow}
use Rattle.adb_client.specs.declared.about.Want.{Want}
use Rattle.adb_capture.specs.declared.entry.Entry.{Entry}
use Rattle.adb_capture.specs.declared.entry.Entry.TheVariants.{Join, Enter, Read, End, Bound}
use Rattle.adb_history.specs.Rows.{State}
use Rattle.adb_history.specs.Events.{Made, owed_to}
use Rattle.adb_history.specs.Asking.{nothing_asked}
use Rattle.adb_history.specs.Machine.{History, state, May, IsLegal}
use Rattle.adb_history.specs.Bytes.{has_joined, has_ended}
use Rattle.adb_history.specs.Book.{devices_if, book, asked, still_asks, newly, wanted_by, asked_with, bound_turn}
use Rattle.adb_history.specs.Tied.{bytes_asked, came_count}
use Rattle.adb_history.proofs.Growing.{RowStep, Keeps}
use Rattle.adb_history.proofs.OutputEntries.{IsTied, tied}
use Rattle.adb_history.proofs.Waiting.{NoneWaits, AreFree, Leaves, free_after, none_waits_after}
use Rattle.adb_history.proofs.ForwardTurns.{AreLed}
use Rattle.adb_history.proofs.Booked.{Said, said, IsAs, Holds, holds, is_stays}

-- ---- who did not come yet
pub record IsUnheard (h : History) (c : ℕ) : Type 0 where
  pub joined : has_joined c h ≡ false
  pub ended : has_ended c h ≡ false
  pub asked : asked c h ≡ nothing_asked
  pub input : bytes_asked c h ≡ []
  pub waits : (book h).waits c ≡ None

bound_waits : (n port c : ℕ) (d : DeviceTable) (o : Option Want) (h : History) → eqb n c ≡ false
    → (bound_turn n port d o (book h)).waits c ≡ (book h).waits c
bound_waits n port c d None h e = refl
bound_waits n port c d (Some want) h e = ap (λ (b : Bool). cond b None ((book h).waits c)) e

bound_asked : (n port c : ℕ) (d : DeviceTable) (o : Option Want) (h : History) → (bound_turn n port d o (book h)).asked c ≡ asked c h
bound_asked n port c d None h = refl
bound_asked n port c d (Some want) h = refl

module _ (older : History) (tie : IsTied older) (un : (c : ℕ) → came_count older < c → IsUnheard older c) where
  apart : (n c : ℕ) → n ≤ (state older).joined → came_count older < c → eqb n c ≡ false
  apart n c le lt = ne_eqb n c (λ e. omega (arith, le, lt, e, tie.joined))

  unheard_rule : (e : Entry) → May (state older) e → (c : ℕ) → came_count (e ∷ older) < c → IsUnheard (e ∷ older) c
  unheard_rule (Join n) may c lt =
      let u = un c (omega (arith, lt)) in
      record {
        joined = ap (λ (b : Bool). b || has_joined c older) (ne_eqb n c (λ e. omega (arith, lt, e, may.1, tie.joined))) ∙ u.joined;
        ended = u.ended;
        asked = u.asked;
        input = u.input;
        waits = u.waits;
      }
  unheard_rule (Enter n port) may c lt =
      let u = un c (omega (arith, lt)) in record { joined = u.joined; ended = u.ended; asked = u.asked; input = u.input; waits = u.waits }
  unheard_rule (Read n bytes) may c lt =
      let u = un c lt in
      let e = apart n c may.1.1 lt in
      let b = book older in
      let q = asked_with (has_joined n older && not (has_ended n older) && still_asks (b.asked n))
      (devices_if b.killed older) b.forwards bytes (b.asked n) in
      record {
        joined = u.joined;
        ended = u.ended;
        asked = ap (λ (x : Bool). cond x q (b.asked c)) e ∙ u.asked;
        input = ap (λ (x : Bool). cond (x && not (has_ended c older)) (bytes_asked c older ++ bytes) (bytes_asked c older)) e ∙ u.input;
        waits = ap (λ (x : Bool). cond x (wanted_by (newly (b.asked n).next q.next) (b.waits n)) (b.waits c)) e ∙ u.waits;
      }
  unheard_rule (End n cause) may c lt =
      let u = un c lt in
      let e = apart n c may.1.1 lt in
      record {
        joined = u.joined;
        ended = ap (λ (b : Bool). b || has_ended c older) e ∙ u.ended;
        asked = u.asked;
        input = u.input;
        waits = ap (λ (b : Bool). cond b None ((book older).waits c)) e ∙ u.waits;
      }
  unheard_rule (Bound n port) may c lt =
      let u = un c lt in
      let d = devices_if (book older).killed older in
      record {
        joined = u.joined;
        ended = u.ended;
        asked = bound_asked n port c d ((book older).waits n) older ∙ u.asked;
        input = u.input;
        waits = bound_waits n port c d ((book older).waits n) older (apart n c may.1.1 lt) ∙ u.waits;
      }
  unheard_rule _ may c lt =
      let u = un c lt in record { joined = u.joined; ended = u.ended; asked = u.asked; input = u.input; waits = u.waits }

pub all_unheard : (h : History) → IsLegal h → (c : ℕ) → came_count h < c → IsUnheard h c
all_unheard [] l c lt = record { joined = refl; ended = refl; asked = refl; input = refl; waits = refl }
all_unheard (e ∷ older) l c lt = unheard_rule older (tied older l.0) (all_unheard older l.0) e l.2 c lt

-- ---- a state and what the entries say
pub record IsBooked (s : State) (h : History) : Type 0 where
  pub killed : s.stopped ≡ (book h).killed
  pub forwards : s.forwards ≡ (book h).forwards
  pub led : s.stopped ≡ false → AreLed s.devices s.forwards
  pub clients : s.stopped ≡ false → (c : ℕ) → IsAs (s.clients c) (said c h)
  pub idle : s.stopped ≡ true → (c : ℕ) → NoneWaits (s.clients c)
  pub free : AreFree s

-- a rule that leaves all of it
pub record Still (s : State) (m : Made) : Type 0 where
  pub stopped : m.state.stopped ≡ s.stopped
  pub forwards : m.state.forwards ≡ s.forwards
  pub led : AreLed s.devices s.forwards → AreLed m.state.devices s.forwards
  pub holds : (c : ℕ) → RowStep Holds (s.clients c) (m.state.clients c) []
  pub leaves : Leaves s m

pub booked_still : (s : State) (m : Made) (h next : History) → IsBooked s h → Still s m → (book next).killed ≡ (book h).killed
    → (book next).forwards ≡ (book h).forwards → ((c : ℕ) → said c next ≡ said c h) → IsBooked m.state next
booked_still s m h next b still killed forwards same = record {
  killed = still.stopped ∙ (b.killed ∙ sym killed);
  forwards = still.forwards ∙ (b.forwards ∙ sym forwards);
  led = λ on. subst (λ (f : List (ℕ × ForwardRow)). AreLed m.state.devices f) (sym still.forwards)
      (still.led (b.led (sym still.stopped ∙ on)));
  clients = λ on c. subst (λ (r : Said). IsAs (m.state.clients c) r) (sym (same c))
      (is_stays (s.clients c) (m.state.clients c) (said c h) (still.leaves.clients c) (still.holds c)
      (b.clients (sym still.stopped ∙ on) c));
  idle = λ off c. none_waits_after (s.clients c) (m.state.clients c) (still.leaves.clients c) (b.idle (sym still.stopped ∙ off) c);
  free = free_after s m still.leaves b.free;
}

pub still_keeps : (came plugged : ℕ) (s : State) (m : Made) → Keeps came plugged s m → Leaves s m → Still s m
still_keeps came plugged s m keeps leaves = record {
  stopped = keeps.stopped;
  forwards = keeps.forwards;
  led = λ led. subst (λ (d : DeviceTable). AreLed d s.forwards) (sym keeps.devices) led;
  holds = λ c. holds (s.clients c) (m.state.clients c) (owed_to c m.told) (keeps.clients c);
  leaves = leaves;
}
