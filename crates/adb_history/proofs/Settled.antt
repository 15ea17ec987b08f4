-- From every legal history on draining ends.
use Rattle.std.proofs.Common.{ℕ, ◌≡◌, true, false, Some, ◌∙◌, ap, arith}
use Rattle.std.proofs.lemmas.Bool.{eqb-true}
use Rattle.adb_stream.specs.declared.row.Stream.{Stream}
use Rattle.adb_client.specs.declared.phase.Phase.{Phase}
use Rattle.adb_client.specs.declared.phase.Phase.TheVariants.{Streaming}
use Rattle.adb_history.specs.Rows.{Client, State}
use Rattle.adb_history.specs.Flow.{is_streaming}
use Rattle.adb_history.specs.Machine.{History, state}
use Rattle.adb_history.specs.Orderly.{IsOrderly, IsResting}
use Rattle.adb_history.specs.Drained.{owed}
use Rattle.adb_history.specs.Settling.{IsDrainedFrom}
use Rattle.adb_history.proofs.Calm.{IsCalm, SendsNothing}
use Rattle.adb_history.proofs.Drains.{drained_rests, drained_enough, drain_all_step, drain_all_over}

-- a client that has a stream open sends nothing
rests_calm : (s : State) (l c : ℕ) (stream : Stream) (client : Client) (phase : Phase) → IsResting phase s c client
    → is_streaming l phase ≡ true
    → s.streams l ≡ Some stream → SendsNothing s.devices stream client
rests_calm s l c stream client (Streaming k) rests open_now there =
    let same : k ≡ l = eqb-true k l open_now in
    let quiet = rests.1 stream (ap s.streams same ∙ there) in
    record { nothing = quiet.nothing; goes_on = quiet.goes_on }
rests_calm s l c stream client _ rests open_now there = absurd (let clash : false ≡ true = open_now in cc)

pub orderly_is_calm : (s : State) → IsOrderly s → IsCalm s
orderly_is_calm s orderly l stream client there here open_now =
    rests_calm s l stream.client stream client client.about.phase (orderly.client stream.client client here).rests open_now there

pub calm_drains : (h : History) → IsCalm (state h) → IsDrainedFrom h
calm_drains h calm = record {
  rests = (drained_rests (owed (state h)) h calm (omega arith)).0;
  enough = λ k le. drained_enough k (owed (state h)) h calm le (omega arith);
  next = λ e is. drain_all_step h e calm is;
  over = λ is. drain_all_over h is;
}
