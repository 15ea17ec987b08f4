-- What becomes of a job that a server is asked for.
use Rattle.std.specs.Prelude.{ℕ, ◌≡◌, ◌≢◌, true, List, Option, Some, Result, Err}
use Rattle.adb_remote_words.specs.declared.remote.Remote.{Remote}
use Rattle.adb_remote_words.specs.declared.remote.Outcome.{Outcome}
use Rattle.adb_remote_words.specs.declared.remote.RemoteError.{RemoteError}
use Rattle.adb_remote_words.specs.declared.remote.RemoteError.TheVariants.{PortFault, OutOfMemory}
use Rattle.adb_remote_words.specs.Outcome.{outcome_of}
use Rattle.adb_remote.specs.Conversing.{Ports, Converses}
use Rattle.adb_asking.specs.declared.ends.ToolEnd.{ToolEnd}
use Rattle.adb_asking.specs.Telling.{Sight, TellsAnswer, size_of}

-- what all of an answer means
abbrev pub answered : Remote → List ℕ → Option (Result Outcome RemoteError)
answered job answer = outcome_of job answer true

-- There was a conversation over the port, and what was answered is told. Where the port tells what comes it is what
-- all of that means, unless
-- the port failed or memory ran out.
pub record Asks {I O K N : Type 0} (ports : Ports I O) (k : Sight K) (n : Sight N) (job : Remote)
    (on : Option (List ℕ)) (input input_new : I)
    (output output_new : O) (sink sink_new : K) (note note_new : N) (end : ToolEnd) : Type 0 where
  pub answer : Result Outcome RemoteError
  pub converses : Converses ports job on input input_new output output_new answer
  pub meant : (coming : List ℕ) → (ports.view_in input).left ≡ Some coming → answer ≢ Err PortFault → answer ≢ Err OutOfMemory
      → answered job coming ≡ Some answer
  -- also where the port tells nothing
  pub means : answer ≢ Err PortFault → answer ≢ Err OutOfMemory → (coming : List ℕ) × (answered job coming ≡ Some answer)
  pub tells : TellsAnswer (size_of job) answer k n sink sink_new note note_new end
