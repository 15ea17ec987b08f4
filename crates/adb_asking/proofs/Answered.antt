-- What was answered is what all of the answer means.
use Rattle.std.proofs.Common.{ℕ, ◌≡◌, Bool, true, false, List, [], ◌∷◌, ◌++◌, Option, Some, Result, ◌∙◌, ap, sym}
use Rattle.std.proofs.lemmas.List.{append-nil}
use Rattle.adb_remote_words.specs.declared.remote.Remote.{Remote}
use Rattle.adb_remote_words.specs.declared.remote.Outcome.{Outcome}
use Rattle.adb_remote_words.specs.declared.remote.RemoteError.{RemoteError}
use Rattle.adb_remote_words.specs.Outcome.{outcome_of}
use Rattle.adb_remote.specs.Conversing.{Ports, Converses, IsMeant, is_empty}
use Rattle.adb_asking.specs.declared.ends.ToolEnd.{ToolEnd}
use Rattle.adb_asking.specs.Asking.{Asks}
use Rattle.adb_asking.specs.Telling.{Sight, TellsAnswer, size_of}

-- a front that decides goes on to, whatever follows
abbrev Stays : Type 0
Stays = (job : Remote) (front more : List ℕ) (ended : Bool) (outcome : Result Outcome RemoteError)
    → outcome_of job front false ≡ Some outcome
    → outcome_of job (front ++ more) ended ≡ Some outcome

all_means : Stays → (job : Remote) (read rest : List ℕ) (answer : Result Outcome RemoteError)
    → outcome_of job read (is_empty rest) ≡ Some answer → outcome_of job (read ++ rest) true ≡ Some answer
all_means law job read [] answer is = ap (λ r. outcome_of job r true) (append-nil read) ∙ is
all_means law job read (byte ∷ rest) answer is = law job read (byte ∷ rest) true answer is

-- bytes that an answer may begin with are an answer that ends behind them
meant_whole : Stays → (job : Remote) (answer : Result Outcome RemoteError) → IsMeant job answer
    → (coming : List ℕ) × (outcome_of job coming true ≡ Some answer)
meant_whole law job answer (read, true, is) = (read, is)
meant_whole law job answer (read, false, is) =
    (read, ap (λ r. outcome_of job r true) (sym (append-nil read)) ∙ law job read [] true answer is)

pub asked_so : {I O K N : Type 0} (ports : Ports I O) (k : Sight K) (n : Sight N) (job : Remote)
    (on : Option (List ℕ)) (input input_new : I)
    (output output_new : O) (sink sink_new : K) (note note_new : N) (end : ToolEnd) (answer : Result Outcome RemoteError) → Stays
    → Converses ports job on input input_new output output_new answer → TellsAnswer (size_of job) answer k n sink sink_new note note_new end
    → Asks ports k n job on input input_new output output_new sink sink_new note note_new end
asked_so ports k n job on input input_new output output_new sink sink_new note note_new end answer law converses tells = record {
  answer = answer;
  converses = converses;
  meant = λ coming left some_port some_memory.
      let t = converses.told coming left in
      ap (λ r. outcome_of job r true) t.taken ∙ all_means law job t.read t.rest answer (t.outcome some_port some_memory);
  means = λ some_port some_memory. meant_whole law job answer (converses.means some_port some_memory);
  tells = tells;
}
