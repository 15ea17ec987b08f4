-- What a machine holds of the answer bytes.
use Rattle.std.specs.Prelude.{ℕ, ◌≡◌, Bool, true, List, [], ◌++◌, Option, Result, Ok, Err, ⊤}
use Rattle.adb_outside.specs.Framing.{Cut, held_after}
use Rattle.adb_sync.specs.declared.answer.SyncAnswer.{SyncAnswer}
use Rattle.adb_sync_client.specs.declared.expected.Expected.{Expected}
use Rattle.adb_sync_client.specs.declared.kind.AnswerKind.{AnswerKind}
use Rattle.adb_sync_client.specs.declared.step.Step.{Step}
use Rattle.adb_sync_client.specs.declared.told.Next.{Next}
use Rattle.adb_sync_client.specs.declared.told.Next.TheVariants.{GoesOn}
use Rattle.adb_sync_client.specs.Expected.{expected_front, expected_answer, past_expected}
use Rattle.adb_sync_client.specs.Values.{Said, ended_or, meant, answer_value, step_map}

-- what is held of the bytes, what the answers said, what follows them, and whether memory ran out
pub record Read : Type 0 where
  pub cut : Cut Expected SyncAnswer ℕ
  pub said : Said
  pub next : Next
  pub spent : Bool

-- what all the bytes mean
abbrev pub meaning : Read → Step Said
meaning r = ended_or r.next r.said (meant r.said r.cut.given r.cut.fault)

-- what is held with further bytes
abbrev pub with_more : Read → List ℕ → Read
with_more r more = record r { cut = held_after expected_front expected_answer past_expected r.cut more r.cut.fault }

-- what all the bytes mean with further ones
abbrev pub meaning_with : Read → List ℕ → Step Said
meaning_with r more = meaning (with_more r more)

-- What was read stands for the bytes that were fed: whatever follows them, they and it have the value that it means behind what is held.
abbrev pub StandsFor : AnswerKind → List ℕ → Read → Type 0
StandsFor kind fed r = (more : List ℕ) → answer_value kind (fed ++ more) ≡ meaning_with r more

-- a step whose value is all that was said
abbrev pub with_said : Said → Step ⊤ → Step Said
with_said said = step_map (λ done. said)

-- what is held means the same as before, whatever follows
pub record MeansSame (old new : Read) : Type 0 where
  pub now : meaning new ≡ meaning old
  pub later : (more : List ℕ) → meaning_with new more ≡ meaning_with old more

-- The answers that were held were told; where they are not ended none is held.
pub record Gathers (old new : Read) : Type 0 where
  pub same : MeansSame old new
  pub none_held : new.next ≡ GoesOn → new.cut.given ≡ []

-- A piece was cut, and what it holds was told: the bytes mean what they meant with the piece, whatever follows.
pub record Continues (old : Read) (piece : List ℕ) (told : Option ℕ) (new : Read) : Type 0 where
  pub now : meaning new ≡ meaning_with old piece
  pub later : (more : List ℕ) → meaning_with new more ≡ meaning_with old (piece ++ more)
  pub none_held : new.next ≡ GoesOn → new.cut.given ≡ []
  pub fault : new.next ≡ GoesOn → new.cut.fault ≡ told

-- A piece was read, and the step is what the bytes mean with it.
pub record Reads (old : Read) (piece : List ℕ) (step : Step ⊤) (new : Read) : Type 0 where
  pub now : with_said new.said step ≡ meaning_with old piece
  pub later : (more : List ℕ) → meaning_with new more ≡ meaning_with old (piece ++ more)

-- spent by want of memory
abbrev pub spend : {V E : Type 0} → Read → Result V E → Read
spend r (Ok value) = r
spend r (Err error) = record r { spent = true }
