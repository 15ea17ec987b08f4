-- A service is opened only on a device that takes payloads.
use Rattle.std.proofs.Common.{ℕ, ◌≡◌, ◌+◌, ◌<◌, false, List, length, Option, nat_lt, arith}
use Rattle.std.proofs.lemmas.Bool.Decides.{nat_tests}
use Rattle.adb_registry.specs.declared.row.Row.{Row}
use Rattle.adb_forward.specs.declared.row.ForwardRow.{ForwardRow}
use Rattle.adb_request.specs.declared.request.Request.{Request}
use Rattle.adb_reply.specs.Answer.{answer}
use Rattle.adb_reply.specs.Laws.{OpensReady}
use Rattle.adb_reply.proofs.AllAnswers.{Answers, answer_all}

takes_some : (maxdata n : ℕ) → nat_lt maxdata (n + 1) ≡ false → 0 < maxdata
takes_some maxdata n e = grind (arith, nat_tests)

module _ (rows : List (ℕ × Row)) (forwards : List (ℕ × ForwardRow)) where
  -- Each reply opens a service only so.
  ready : Answers rows forwards (λ request. Unit {0}) (λ a. OpensReady rows a.next)
  ready = record {
    fails = λ why. tt;
    tells = λ rest. tt;
    tracks = λ rest long. tt;
    stops = tt;
    selects = λ tell_id id. tt;
    rebinds = λ on norebind transport local remote right is. tt;
    binds = λ on norebind transport local remote right. tt;
    unbinds = λ port. tt;
    unbinds_all = tt;
    opens = λ id text row right is fits. record { row = row; is = is; some = takes_some row.maxdata (length text) fits };
  }

  -- A service is opened only on a device that takes payloads.
  pub answer_ready : (selected : Option ℕ) (request : Request) → OpensReady rows (answer rows forwards selected request).next
  answer_ready selected request = answer_all ready selected request tt
