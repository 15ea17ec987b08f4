-- How replies begin.
use Rattle.std.proofs.Common.{ℕ, List, [], Option, codes, refl, inl, inr}
use Rattle.adb_registry.specs.declared.row.Row.{Row}
use Rattle.adb_forward.specs.declared.row.ForwardRow.{ForwardRow}
use Rattle.adb_request.specs.declared.request.Request.{Request}
use Rattle.adb_reply.specs.Strings.{string}
use Rattle.adb_reply.specs.Answer.{told_id, answer}
use Rattle.adb_reply.specs.Laws.{BeginsRight}
use Rattle.adb_reply.proofs.AllAnswers.{Answers, answer_all}

-- Each reply begins right.
begins : (rows : List (ℕ × Row)) (forwards : List (ℕ × ForwardRow)) → Answers rows forwards (λ request. Unit {0}) BeginsRight
begins rows forwards = record {
  fails = λ why. inr (string why, refl);
  tells = λ rest. inl (rest, refl);
  tracks = λ rest long. (rest, refl);
  stops = ([], refl);
  selects = λ tell_id id. (told_id tell_id id, refl);
  rebinds = λ on norebind transport local remote right is. (codes "OKAY", refl);
  binds = λ on norebind transport local remote right. refl;
  unbinds = λ port. (codes "OKAY", refl);
  unbinds_all = (codes "OKAY", refl);
  opens = λ id text row right is fits. refl;
}

pub all_begin : (rows : List (ℕ × Row)) (forwards : List (ℕ × ForwardRow)) (selected : Option ℕ) (request : Request)
    → BeginsRight (answer rows forwards selected request)
all_begin rows forwards selected request = answer_all (begins rows forwards) selected request tt
