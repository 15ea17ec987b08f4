-- What a machine that asks one request is seen as, and what its calls do.
use Rattle.std.specs.Prelude.{ℕ, ◌≡◌, true, false, List, [], ◌++◌, Result, IfOk, OnOk, OnErr, IsErr}
use Rattle.adb_sync_client.specs.declared.kind.AnswerKind.{AnswerKind}
use Rattle.adb_sync_client.specs.declared.step.Step.{Step}
use Rattle.adb_sync_client.specs.declared.step.Step.TheVariants.{More}
use Rattle.adb_sync_client.specs.Reading.{Read, StandsFor}

-- the bytes of the request that were not taken yet, and what was read of the answer
pub record Asking : Type 0 where
  pub left : List ℕ
  pub read : Read

-- nothing was taken yet, and nothing fed
pub record Asks (kind : AnswerKind) (text : List ℕ) (new : Asking) : Type 0 where
  pub left : new.left ≡ text
  pub stands : StandsFor kind [] new.read
  pub open_still : new.read.spent ≡ false

-- what was taken, and what is left behind it, is the text
abbrev pub Gives : List ℕ → List ℕ → List ℕ → Type 0
Gives text gone left = gone ++ left ≡ text

-- A piece of the answer was taken: where memory lasted, the step is the value of all the bytes that were fed. The
-- bytes that are left of the
-- request stay. After want of memory the machine is spent: each call answers it and changes nothing.
pub record Feeds {V E : Type 0} (kind : AnswerKind) (value : List ℕ → Step V) (old : Asking) (piece : List ℕ) (answer : Result (Step V) E)
    (new : Asking) : Type 0 where
  pub told : IfOk answer (λ step. (fed : List ℕ) → StandsFor kind fed old.read → step ≡ value (fed ++ piece))
  pub stands : OnOk answer ((fed : List ℕ) → StandsFor kind fed old.read → StandsFor kind (fed ++ piece) new.read)
  pub left : new.left ≡ old.left
  pub open_still : OnOk answer ((old.read.spent ≡ false) × (new.read.spent ≡ false))
  pub spent : OnErr answer (new.read.spent ≡ true)
  pub stays : old.read.spent ≡ true → IsErr answer × (new ≡ old)

-- The same, where nothing is fed behind the answer's end: the value is given away there, and what is held then stands for nothing.
pub record FeedsToEnd {V E : Type 0} (kind : AnswerKind) (value : List ℕ → Step V) (old : Asking) (piece : List ℕ)
    (answer : Result (Step V) E)
    (new : Asking) : Type 0 where
  pub told : IfOk answer (λ step. (fed : List ℕ) → StandsFor kind fed old.read → step ≡ value (fed ++ piece))
  pub stands : IfOk answer (λ step. step ≡ More → (fed : List ℕ) → StandsFor kind fed old.read → StandsFor kind (fed ++ piece) new.read)
  pub left : new.left ≡ old.left
  pub open_still : OnOk answer ((old.read.spent ≡ false) × (new.read.spent ≡ false))
  pub spent : OnErr answer (new.read.spent ≡ true)
