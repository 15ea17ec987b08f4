-- What a binder in memory is seen as, and what it answers.
use Rattle.std.specs.Prelude.{ℕ, ◌+◌, ◌≡◌, ◌==◌, if◌then◌else◌, ◌⊎◌, Bool, true, false, List, Option, Some, None, is_some, Contains}
use Rattle.adb_outside.specs.Outside.{counted, counted_on}
use Rattle.adb_binder.specs.declared.binder.Binding.{Binding}
use Rattle.adb_binder.specs.declared.binder.Binding.TheVariants.{Bound, Failed}
use Rattle.adb_binder.specs.Binder.{is_failed_bind}

-- the port for the next that asks for any, if one is left; the ports that were asked for and answered; and the calls of the binder
pub record Bindings : Type 0 where
  pub next : Option ℕ
  pub answered : Option (List (ℕ × ℕ))
  pub failing : List ℕ
  pub calls : ℕ
  pub faults : ℕ

-- the port for one that is asked for, if there is one
abbrev pub offered : Option ℕ → ℕ → Option ℕ
offered next asked = if asked == 0 then next else Some asked

-- the port behind one, if there is one
abbrev pub following : ℕ → Option ℕ
following port = if port == 65535 then None else Some (port + 1)

-- the port for the next that asks for any, after an answer
abbrev pub next_after : Option ℕ → ℕ → Binding → Option ℕ
next_after next asked (Bound port) = if asked == 0 then following port else next
next_after next asked Failed = next

-- The answers were told, and no more are.
abbrev pub IsLost : {A : Type 0} → Option A → Option A → Type 0
IsLost before after = (is_some before ≡ true) × (after ≡ None)

-- An answer is noted, or the answers were not told.
pub record Noted {A : Type 0} (before : Option A) (noted : Bool) (after : Option A) : Type 0 where
  pub kept : noted ≡ true → is_some after ≡ is_some before
  pub lost : noted ≡ false → IsLost before after

-- A call fails where its number is in the list or there is no port, and else offers the port. Nothing of it is noted.
pub record Offers (before : Bindings) (asked : ℕ) (binding : Binding) (after : Bindings) : Type 0 where
  pub fails : Contains before.failing after.calls → binding ≡ Failed
  pub failed : binding ≡ Failed → Contains before.failing after.calls ⊎ (offered before.next asked ≡ None)
  pub bound : (port : ℕ) → binding ≡ Bound port → offered before.next asked ≡ Some port
  pub calls : after.calls ≡ counted_on before.calls
  pub faults : after.faults ≡ counted (is_failed_bind binding) before.faults
  pub failing : after.failing ≡ before.failing
  pub next : after.next ≡ before.next
  pub answered : after.answered ≡ before.answered

-- A call fails where its number is in the list, where there is no port, and where the answer finds no memory; else it binds the port.
-- Who asks for any port is given one behind the other.
pub record Binds (before : Bindings) (asked : ℕ) (binding : Binding) (after : Bindings) : Type 0 where
  pub fails : Contains before.failing after.calls → binding ≡ Failed
  pub failed : binding ≡ Failed → Contains before.failing after.calls ⊎ (offered before.next asked ≡ None)
      ⊎ IsLost before.answered after.answered
  pub bound : (port : ℕ) → binding ≡ Bound port → offered before.next asked ≡ Some port
  pub told : (port : ℕ) → binding ≡ Bound port → is_some after.answered ≡ is_some before.answered
  pub calls : after.calls ≡ counted_on before.calls
  pub faults : after.faults ≡ counted (is_failed_bind binding) before.faults
  pub failing : after.failing ≡ before.failing
  pub next : after.next ≡ next_after before.next asked binding
