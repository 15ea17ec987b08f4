-- A request opens a service of a device that is there.
use Rattle.std.proofs.Common.{ℕ, ◌≡◌, true, List, Option, is_some, ap}
use Rattle.adb_outside.specs.Tables.{at}
use Rattle.adb_registry.specs.declared.row.Row.{Row}
use Rattle.adb_forward.specs.declared.row.ForwardRow.{ForwardRow}
use Rattle.adb_request.specs.declared.request.Request.{Request}
use Rattle.adb_reply.specs.Answer.{answer}
use Rattle.adb_reply.specs.Laws.{OpensReady}
use Rattle.adb_reply.specs.declared.answer.Next.{Next}
use Rattle.adb_reply.specs.declared.answer.Next.TheVariants as nexts
use Rattle.adb_reply.proofs.Readiness.{answer_ready}

-- what follows opens no service, or one of a device that is there
abbrev pub OpensThere : List (ℕ × Row) → Next → Type 0
OpensThere rows (nexts.Open transport service) = is_some (at transport rows) ≡ true
OpensThere rows _ = Unit {0}

-- a device that takes payloads is there
ready_is_there : (rows : List (ℕ × Row)) (next : Next) → OpensReady rows next → OpensThere rows next
ready_is_there rows (nexts.Open transport service) ready = ap is_some ready.is
ready_is_there rows _ ready = tt

pub opens_there : (rows : List (ℕ × Row)) (forwards : List (ℕ × ForwardRow)) (selected : Option ℕ) (request : Request)
    → OpensThere rows (answer rows forwards selected request).next
opens_there rows forwards selected request =
    ready_is_there rows (answer rows forwards selected request).next (answer_ready rows forwards selected request)
