-- What a model device brings is worth its answers.
use Rattle.std.specs.Prelude.{ℕ, ◌≡◌, ◌≢◌, ◌≤◌, ◌&&◌, not, zero, suc, Bool, true, cond, All, List, [], ◌∷◌, ◌++◌}
use Rattle.std.proofs.Common.{refl, sym, ap, subst, arith, ◌∙◌, ◌⊎◌, inl, inr}
use Rattle.std.proofs.lemmas.Bool.{cases_eq, ne_eqb}
use Rattle.std.proofs.lemmas.List.Elements.{All-nil, All-cons, All-head, All-tail}
use Rattle.adb_wire.specs.Cutting.{framed}
use Rattle.adb_wire.specs.declared.packets.Packet.{Packet}
use Rattle.adb_capture.specs.declared.entry.Entry.TheVariants.{Recv}
use Rattle.adb_history.specs.Book.{plugged_count}
use Rattle.adb_history.specs.Bytes.{is_lost, bytes_received, brought, sent}
use Rattle.adb_history.specs.Machine.{History, IsLegal}
use Rattle.adb_history.proofs.Received.{received}
use Rattle.adb_daemon.specs.Serving.{Sent}
use Rattle.adb_daemon.specs.Device.{Setting, device_behind}
use Rattle.adb_laws_model_device.specs.Paired.{IsPaired}
use Rattle.adb_laws_model_device.specs.Owed.{packets_owed, packets_of_sent}
use Rattle.adb_laws_steps.specs.Tolls.{IsWorthwhile, BringWorth}
use Rattle.adb_laws_steps.specs.Owed.{IsFine}
use Rattle.adb_laws_steps.proofs.Answering.{all_worth}
use Rattle.adb_laws_steps.proofs.Tolls.{all_before}

-- ---- a link that was not plugged in brought nothing
none_from_zero : (h : History) → IsLegal h → bytes_received 0 h ≡ []
none_from_zero [] legal = refl
none_from_zero (Recv t bytes ∷ older) legal =
    ap (λ (b : Bool). cond (b && not (is_lost 0 older)) (bytes_received 0 older ++ bytes) (bytes_received 0 older))
    (let some = legal.2.1.0 in ne_eqb t 0 (λ e. omega (arith, e, some)))
    ∙ none_from_zero older legal.0
none_from_zero (_ ∷ older) legal = none_from_zero older legal.0

others_bring_none : (h : History) → IsLegal h → plugged_count h ≤ 1 → (t : ℕ) → t ≢ 1 → bytes_received t h ≡ []
others_bring_none h legal one zero other = none_from_zero h legal
others_bring_none h legal one (suc t) other = ((received h legal).fresh (suc t) (omega (arith, one, other))).1

-- ---- what the device owes
all_fine : (P : ℕ → Type 0) (made : List Sent) → All (IsFine P) made → All IsWorthwhile (packets_of_sent made)
all_fine P [] fine = All-nil IsWorthwhile
all_fine P (one ∷ more) fine =
    All-cons IsWorthwhile one.packet (packets_of_sent more) (All-head (IsFine P) one more fine).worth
    (all_fine P more (All-tail (IsFine P) one more fine))

pub owed_worth : (setting : Setting) (packets : List Packet) → All IsWorthwhile (packets_owed setting packets)
owed_worth setting packets = all_fine (λ l. true ≡ true) (device_behind setting packets).serving.made (all_worth setting packets)

first_worth : (setting : Setting) (h : History) → IsPaired (packets_owed setting) h → All IsWorthwhile (brought 1 h)
first_worth setting [] pairs = All-nil IsWorthwhile
first_worth setting (e ∷ older) pairs =
    all_before IsWorthwhile (brought 1 (e ∷ older)) pairs.1.0
    (subst (λ (ps : List Packet). All IsWorthwhile ps) (sym pairs.1.1) (owed_worth setting (sent 1 older)))

pub brings_worth : (setting : Setting) (h : History) → IsLegal h → IsPaired (packets_owed setting) h → plugged_count h ≤ 1 → BringWorth h
brings_worth setting h legal pairs one t = go (cases_eq t 1)
  where
    go : (t ≡ 1) ⊎ (t ≢ 1) → All IsWorthwhile (brought t h)
    go (inl same) = subst (λ (k : ℕ). All IsWorthwhile (brought k h)) (sym same) (first_worth setting h pairs)
    go (inr other) =
        subst (λ (bytes : List ℕ). All IsWorthwhile (framed bytes).given)
        (sym (others_bring_none h legal one t other)) (All-nil IsWorthwhile)
