-- What a pool is seen as, and what becomes of a job.
use Rattle.std.specs.Prelude.{ℕ, ◌+◌, ◌≡◌, ◌<◌, ◌⊎◌, Bool, true, false, List, [], Option, Some, None, Contains}
use Rattle.adb_outside.specs.Outside.{counted, counted_on}

-- the numbers of the calls that fail, counted from 1, how many calls there were, and how many failed; how many threads were started and
-- not yet waited for, where jobs run in threads
pub record PoolView : Type 0 where
  pub failing : List ℕ
  pub calls : ℕ
  pub faults : ℕ
  pub threads : Option ℕ

-- It runs each job within the call, and hands none back.
abbrev pub IsSteady : PoolView → Type 0
IsSteady pool = (pool.failing ≡ []) × (pool.threads ≡ None)

-- so many threads, and one more if one was started
abbrev pub with_one : Bool → ℕ → ℕ
with_one true threads = threads + 1
with_one false threads = threads

-- A job is given to one of the threads that there are, or to one more that is started for it. For one that is handed back none is started.
abbrev pub Starts : ℕ → Bool → ℕ → Type 0
Starts before true after = after ≡ before
Starts before false after = ((0 < before) × (after ≡ before)) ⊎ (after ≡ before + 1)

-- the same where jobs run in threads; else there are none
abbrev pub StartsIn : Option ℕ → Bool → Option ℕ → Type 0
StartsIn None back after = after ≡ None
StartsIn (Some before) back None = ⊥
StartsIn (Some before) back (Some after) = Starts before back after

-- A job is handed back at the calls whose numbers are in the list, and elsewhere only where jobs run in threads.
pub record Spawns (before after : PoolView) (back : Bool) : Type 0 where
  pub fails : Contains before.failing after.calls → back ≡ true
  pub inline : back ≡ true → before.threads ≡ None → Contains before.failing after.calls
  pub threads : StartsIn before.threads back after.threads
  pub calls : after.calls ≡ counted_on before.calls
  pub faults : after.faults ≡ counted back before.faults
  pub failing : after.failing ≡ before.failing
