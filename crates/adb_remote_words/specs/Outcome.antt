-- What an answer decides.
use Rattle.std.specs.Prelude.{ℕ, nat_lt, if◌then◌else◌, Bool, List, length, take, Option, Some, None, Result, Ok, Err}
use Rattle.adb_sync_client.specs.declared.step.Step.{Step}
use Rattle.adb_sync_client.specs.declared.step.Step.TheVariants as steps
use Rattle.adb_remote_words.specs.declared.remote.Remote.{Remote}
use Rattle.adb_remote_words.specs.declared.remote.Outcome.{Outcome}
use Rattle.adb_remote_words.specs.declared.remote.RemoteError.{RemoteError}
use Rattle.adb_remote_words.specs.declared.remote.RemoteError.TheVariants.{Refused, BadAnswer}
use Rattle.adb_remote_words.specs.declared.reading.TheConstants.{MAX_ANSWER}
use Rattle.adb_remote_words.specs.Meaning.{answer_step, limited_at}

-- what the bytes of an answer mean, of which only so many are looked at
abbrev pub answer_so_far : Remote → List ℕ → Step Outcome
answer_so_far job answer = limited_at (nat_lt MAX_ANSWER (length answer)) (answer_step job (take MAX_ANSWER answer))

-- what is decided, where the answer is so long, and ended or did not
abbrev pub decided : Step Outcome → ℕ → Bool → Option (Result Outcome RemoteError)
decided steps.More len ended = if ended then Some (Err (BadAnswer len)) else None
decided (steps.Done outcome) len ended = Some (Ok outcome)
decided (steps.Refused text) len ended = Some (Err (Refused text))
decided (steps.BadAnswer offset) len ended = Some (Err (BadAnswer offset))

-- what an answer decides: an outcome, or why there is none
abbrev pub outcome_of : Remote → List ℕ → Bool → Option (Result Outcome RemoteError)
outcome_of job answer ended = decided (answer_so_far job answer) (length answer) ended
