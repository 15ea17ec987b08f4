-- What follows a request that can be done can be done.
use Rattle.std.proofs.Common.{ℕ, ◌≡◌, ◌<◌, false, true, List, Option, None, is_some, zero, suc, sym, ◌∙◌, ap, arith}
use Rattle.adb_outside.specs.Tables.{at}
use Rattle.adb_registry.specs.declared.row.Row.{Row}
use Rattle.adb_forward.specs.Forwards.{IsSpecification}
use Rattle.adb_forward.specs.declared.row.ForwardRow.{ForwardRow}
use Rattle.adb_request.specs.declared.request.Request.{Request}
use Rattle.adb_reply.specs.Answer.{answer}
use Rattle.adb_reply.proofs.AllAnswers.{Answers, answer_all}
use Rattle.adb_laws_resting.specs.Wanted.{IsRemote, CanFollow}
use Rattle.adb_laws_resting.proofs.WantedRequests.{IsSoundRequest}

-- a port and a remote end that can be one make a forward
pub specified : (local : ℕ) (remote : List ℕ) → 0 < local → IsRemote remote → IsSpecification local remote
specified local remote port h = record { port = port; some = h.some; short = h.short; graphic = h.graphic }

-- a port that has a forward is not 0
forwarded_port : (forwards : List (ℕ × ForwardRow)) (local : ℕ) → at 0 forwards ≡ None → is_some (at local forwards) ≡ true → 0 < local
forwarded_port forwards zero none there = absurd (let clash : false ≡ true = sym (ap is_some none) ∙ there in cc)
forwarded_port forwards (suc n) none there = omega arith

module _ (rows : List (ℕ × Row)) (forwards : List (ℕ × ForwardRow)) (none : at 0 forwards ≡ None) where
  -- What follows each reply can be done.
  soundly : Answers rows forwards IsSoundRequest (λ a. CanFollow forwards a.next)
  soundly = record {
    fails = λ why. tt;
    tells = λ rest. tt;
    tracks = λ rest long. tt;
    stops = tt;
    selects = λ tell_id id. tt;
    rebinds = λ on norebind transport local remote sound is.
        record { specification = specified local remote (forwarded_port forwards local none is) sound; there = is };
    binds = λ on norebind transport local remote sound. sound;
    unbinds = λ port. tt;
    unbinds_all = tt;
    opens = λ id text row short is fits. short;
  }

  -- What follows a request that can be done can be done.
  pub answer_sound : (selected : Option ℕ) (request : Request) → IsSoundRequest request
      → CanFollow forwards (answer rows forwards selected request).next
  answer_sound = answer_all soundly
