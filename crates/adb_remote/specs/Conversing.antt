-- What a conversation does, over ports that tell.
use Rattle.std.specs.Prelude.{ℕ, ◌≡◌, ◌≢◌, ◌≤◌, ◌⊎◌, Bool, true, false, List, [], ◌∷◌, ◌++◌, Option, Some, Result, Ok, Err, ⊤}
use Rattle.adb_outside.specs.Bytes.{IsPrefixOf}
use Rattle.adb_outside.specs.Outside.{Rises}
use Rattle.adb_sync_client.specs.declared.step.Step.{Step}
use Rattle.adb_sync_client.specs.declared.step.Step.TheVariants.{More}
use Rattle.adb_remote_words.specs.declared.remote.Remote.{Remote}
use Rattle.adb_remote_words.specs.declared.remote.Outcome.{Outcome}
use Rattle.adb_remote_words.specs.declared.remote.RemoteError.{RemoteError}
use Rattle.adb_remote_words.specs.declared.remote.RemoteError.TheVariants as errors
use Rattle.adb_remote_words.specs.Outcome.{answer_so_far, decided, outcome_of}
use Rattle.adb_remote_words.specs.Reading.{HeldAnswer, ReadingStands}
use Rattle.adb_remote_words.specs.Words.{client_words}
use Rattle.adb_remote.specs.declared.sending.SendError.{SendError}
use Rattle.adb_remote.specs.declared.sending.SendError.TheVariants.{PortFault, OutOfMemory}
use Rattle.adb_remote.specs.Sending.{Outlet}

-- the half of a port that is read: its count of faults, and the bytes that are left, where it tells them
pub record Inlet : Type 0 where
  pub faults : ℕ
  pub left : Option (List ℕ)

abbrev pub inlet : {A : Type 0} → (A → ℕ) → (A → Option (List ℕ)) → A → Inlet
inlet faults left input = record { faults = faults input; left = left input }

abbrev pub is_empty : List ℕ → Bool
is_empty [] = true
is_empty (b ∷ bytes) = false

-- ---- a conversation
-- A front of the words that are due behind these bytes of the answer went out: all of them, unless they were cut short.
pub record SaysWords (job : Remote) (on : Option (List ℕ)) (read out : List ℕ) (written : Option (List ℕ)) (short : Type 0) : Type 0 where
  pub said : List ℕ
  pub written_is : written ≡ Some (out ++ said)
  pub part : IsPrefixOf said (client_words job on read)
  pub whole : (said ≡ client_words job on read) ⊎ short

-- Some bytes of the answer were read. What is answered is what they mean, and whether any is left, unless the port failed or memory ran
-- out. Where the port tells what was written to it, the words that are due behind them are.
pub record Conversed (job : Remote) (on : Option (List ℕ)) (coming : List ℕ) (left : Option (List ℕ)) (had : List ℕ → Type 0)
    (written : Option (List ℕ)) (short : Type 0) (answer : Result Outcome RemoteError) : Type 0 where
  pub read : List ℕ
  pub rest : List ℕ
  pub left_is : left ≡ Some rest
  pub taken : coming ≡ read ++ rest
  pub outcome : answer ≢ Err errors.PortFault → answer ≢ Err errors.OutOfMemory → outcome_of job read (is_empty rest) ≡ Some answer
  pub says : (out : List ℕ) → had out → SaysWords job on read out written short

-- the two halves of a port: what never fails, and what is seen
pub record Ports (I O : Type 0) : Type 1 where
  pub steady_in : I → Type 0
  pub view_in : I → Inlet
  pub steady_out : O → Type 0
  pub view_out : O → Outlet

-- Calls were made of both halves of a port. One fails only where a read or a write did, and never over ports that don't.
pub record Calls {I O : Type 0} (ports : Ports I O) (in_old in_new : I) (out_old out_new : O) (failed : Type 0) : Type 0 where
  pub count_in : (ports.view_in in_old).faults ≤ (ports.view_in in_new).faults
  pub count_out : (ports.view_out out_old).faults ≤ (ports.view_out out_new).faults
  pub fault : failed → Rises (ports.view_in in_old).faults (ports.view_in in_new).faults
      ⊎ Rises (ports.view_out out_old).faults (ports.view_out out_new).faults
  pub keeps_in : ports.steady_in in_old → ports.steady_in in_new
  pub keeps_out : ports.steady_out out_old → ports.steady_out out_new
  pub never : ports.steady_in in_old → ports.steady_out out_old → failed → ⊥
  pub closed : (ports.view_out out_new).closed ≡ (ports.view_out out_old).closed

abbrev pub ports_of : {I O : Type 0} → (I → Type 0) → (I → Inlet) → (O → Type 0) → (O → Outlet) → Ports I O
ports_of steady_in view_in steady_out view_out =
    record { steady_in = steady_in; view_in = view_in; steady_out = steady_out; view_out = view_out }

-- Words are cut short where a write failed, or memory ran out.
abbrev pub IsCutShort : ℕ → ℕ → Result Outcome RemoteError → Type 0
IsCutShort before after answer = Rises before after ⊎ (answer ≡ Err errors.OutOfMemory)

-- There are bytes that an answer may begin with, or be, which mean this.
abbrev pub IsMeant : Remote → Result Outcome RemoteError → Type 0
IsMeant job answer = (read : List ℕ) × (ended : Bool) × (outcome_of job read ended ≡ Some answer)

-- The same, of what is no loss of the port and no allocation failure.
abbrev pub MeansSome : Remote → Result Outcome RemoteError → Type 0
MeansSome job answer = answer ≢ Err errors.PortFault → answer ≢ Err errors.OutOfMemory → IsMeant job answer

pub record Converses {I O : Type 0} (ports : Ports I O) (job : Remote) (on : Option (List ℕ)) (in_old in_new : I) (out_old out_new : O)
    (answer : Result Outcome RemoteError) : Type 0 where
  pub told : (coming : List ℕ) → (ports.view_in in_old).left ≡ Some coming
      → Conversed job on coming (ports.view_in in_new).left (λ out. (ports.view_out out_old).written ≡ Some out)
      (ports.view_out out_new).written (IsCutShort (ports.view_out out_old).faults (ports.view_out out_new).faults answer) answer
  -- also where the port tells nothing
  pub means : MeansSome job answer
  pub calls : Calls ports in_old in_new out_old out_new (answer ≡ Err errors.PortFault)

-- The same, where the first request was written already.
pub record Listens {I O : Type 0} (ports : Ports I O) (job : Remote) (on : Option (List ℕ)) (in_old in_new : I) (out_old out_new : O)
    (answer : Result Outcome RemoteError) : Type 0 where
  pub told : (coming : List ℕ) → (ports.view_in in_old).left ≡ Some coming
      → Conversed job on coming (ports.view_in in_new).left
      (λ out. (ports.view_out out_old).written ≡ Some (out ++ client_words job on []))
      (ports.view_out out_new).written (IsCutShort (ports.view_out out_old).faults (ports.view_out out_new).faults answer) answer
  -- also where the port tells nothing
  pub means : MeansSome job answer
  pub calls : Calls ports in_old in_new out_old out_new (answer ≡ Err errors.PortFault)

-- ---- one turn
-- why words were cut short in one turn
abbrev pub CutsShort : {A : Type 0} → Result A SendError → ℕ → ℕ → Type 0
CutsShort (Ok value) before after = ⊥
CutsShort (Err PortFault) before after = Rises before after
CutsShort (Err OutOfMemory) before after = ⊤

-- A piece was taken, all bytes of the answer are these now, and the words behind them were written.
pub record Took (job : Remote) (on : Option (List ℕ)) (read : List ℕ) (had : List ℕ → Type 0) (written : Option (List ℕ)) (short : Type 0)
    (new : HeldAnswer) (answer : Result (Step Outcome) SendError) : Type 0 where
  pub now : (step : Step Outcome) → answer ≡ Ok step → step ≡ answer_so_far job read
  pub stands : answer ≡ Ok More → ReadingStands job read new
  pub says : (out : List ℕ) → had out → SaysWords job on read out written short

pub record TakesPiece {O : Type 0} (steady : O → Type 0) (view : O → Outlet) (job : Remote) (on : Option (List ℕ))
    (piece : List ℕ) (old new : O)
    (before after : HeldAnswer) (answer : Result (Step Outcome) SendError) : Type 0 where
  pub told : (read : List ℕ) → ReadingStands job read before
      → Took job on (read ++ piece) (λ out. (view old).written ≡ Some (out ++ client_words job on read)) (view new).written
      (CutsShort answer (view old).faults (view new).faults) after answer
  pub count : (view old).faults ≤ (view new).faults
  pub fault : answer ≡ Err PortFault → Rises (view old).faults (view new).faults
  pub keeps : steady old → steady new
  pub never : steady old → answer ≢ Err PortFault
  pub closed : (view new).closed ≡ (view old).closed

-- A turn was made: more bytes of the answer may have been read, the words behind them were written, and the step is what they mean.
pub record Turned (job : Remote) (on : Option (List ℕ)) (coming : List ℕ) (left : Option (List ℕ)) (had : List ℕ → Type 0)
    (written : Option (List ℕ)) (short : Type 0) (new : HeldAnswer) (answer : Result (Step Outcome) SendError) : Type 0 where
  pub read : List ℕ
  pub rest : List ℕ
  pub left_is : left ≡ Some rest
  pub taken : coming ≡ read ++ rest
  pub outcome : (step : Step Outcome) → answer ≡ Ok step → step ≢ More → outcome_of job read (is_empty rest) ≡ decided step 0 false
  pub stands : answer ≡ Ok More → ReadingStands job read new
  pub says : (out : List ℕ) → had out → SaysWords job on read out written short

-- The same, where the port tells nothing of the bytes that were read.
pub record TurnedUntold (job : Remote) (new : HeldAnswer) (answer : Result (Step Outcome) SendError) : Type 0 where
  pub read : List ℕ
  pub ended : Bool
  pub outcome : (step : Step Outcome) → answer ≡ Ok step → step ≢ More → outcome_of job read ended ≡ decided step 0 false
  pub stands : answer ≡ Ok More → ReadingStands job read new

pub record Turns {I O : Type 0} (ports : Ports I O) (job : Remote) (on : Option (List ℕ)) (in_old in_new : I) (out_old out_new : O)
    (before after : HeldAnswer) (answer : Result (Step Outcome) SendError) : Type 0 where
  pub told : (read rest : List ℕ) → ReadingStands job read before → (ports.view_in in_old).left ≡ Some rest
      → Turned job on (read ++ rest) (ports.view_in in_new).left
      (λ out. (ports.view_out out_old).written ≡ Some (out ++ client_words job on read)) (ports.view_out out_new).written
      (CutsShort answer (ports.view_out out_old).faults (ports.view_out out_new).faults) after answer
  pub means : (read : List ℕ) → ReadingStands job read before → TurnedUntold job after answer
  pub calls : Calls ports in_old in_new out_old out_new (answer ≡ Err PortFault)
