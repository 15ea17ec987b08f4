-- A whole answer that is fed in pieces.
use Rattle.std.specs.Prelude.{ℕ, ◌≡◌, List, [], ◌++◌}
use Rattle.std.proofs.Common.{refl, sym, ◌∙◌, ap, subst, append_assoc}
use Rattle.adb_sync_client.specs.declared.kind.AnswerKind.{AnswerKind}
use Rattle.adb_sync_client.specs.declared.step.Step.{Step}
use Rattle.adb_sync_client.specs.Reading.{Read, StandsFor}

-- What was read stands for a front of the bytes, and the rest is behind it.
pub record Feeding (kind : AnswerKind) (all rest : List ℕ) (read : Read) : Type 0 where
  pub fed : List ℕ
  pub stands : StandsFor kind fed read
  pub is : fed ++ rest ≡ all

pub none_fed : (kind : AnswerKind) (all : List ℕ) (read : Read) → StandsFor kind [] read → Feeding kind all all read
none_fed kind all read stands = record { fed = []; stands = stands; is = refl }

-- one piece more
pub one_fed : (kind : AnswerKind) (all rest piece more : List ℕ) (old new : Read) → rest ≡ piece ++ more → Feeding kind all rest old
    → ((fed : List ℕ) → StandsFor kind fed old → StandsFor kind (fed ++ piece) new) → Feeding kind all more new
one_fed kind all rest piece more old new is feeding feeds = record {
  fed = feeding.fed ++ piece;
  stands = feeds feeding.fed feeding.stands;
  is = append_assoc feeding.fed piece more ∙ (ap (λ (x : List ℕ). feeding.fed ++ x) (sym is) ∙ feeding.is);
}

-- the last piece tells what all mean
pub all_fed : {V : Type 0} (kind : AnswerKind) (value : List ℕ → Step V) (all rest : List ℕ) (read : Read)
    (step : Step V) → Feeding kind all rest read
    → ((fed : List ℕ) → StandsFor kind fed read → step ≡ value (fed ++ rest)) → step ≡ value all
all_fed kind value all rest read step feeding told = told feeding.fed feeding.stands ∙ ap value feeding.is
