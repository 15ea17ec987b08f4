use Rattle.std.specs.Prelude.{ℕ, ◌++◌, List}
use Rattle.std.proofs.Common.{◌≡◌, ◌∙◌, ap, subst, append_assoc}
use Rattle.adb_device_streams.proofs.Syncing.{at_err}
use Rattle.adb_daemon.specs.Daemon.{HasDone, answer_to}
use Rattle.adb_laws_answers.specs.Model.{model_setting}
use Rattle.adb_world.proofs.Stopping.{fed_first, fed_last}
use Rattle.adb_world.proofs.calls.feed.Goals as goal

pub feed_last-requires : goal.feed_last-requires
feed_last-requires c =
    let start : List ℕ = c.parts.result.start.now in
    let rest : List ℕ = c.parts.result.rest.now in
    let all : (c.requires.fed ++ start) ++ rest ≡ c.requires.fed ++ c.args.out.now =
    append_assoc c.requires.fed start rest ∙ ap (λ (bytes : List ℕ). c.requires.fed ++ bytes) c.parts.ensures.is in
    record {
      fed = c.requires.fed ++ start;
      taken = c.requires.taken;
      done = c.in_ok-feed_front.ensures.done model_setting c.requires.fed c.requires.taken c.requires.done;
      sound = ap (answer_to model_setting) all ∙ c.requires.sound;
    }

pub returns-clause-done : goal.returns-clause-done
returns-clause-done c fed taken done =
    let start : List ℕ = c.parts.result.start.now in
    let rest : List ℕ = c.parts.result.rest.now in
    let all : (fed ++ start) ++ rest ≡ fed ++ c.args.out.now =
    append_assoc fed start rest ∙ ap (λ (bytes : List ℕ). fed ++ bytes) c.parts.ensures.is in
    subst (λ (bytes : List ℕ). HasDone model_setting bytes taken c.feed_last.new.device) all
    (c.in_ok-feed_last.ensures.done (fed ++ start) taken (c.in_ok-feed_front.ensures.done model_setting fed taken done))

pub returns-in_err-feed_front-clause-cut : goal.returns-in_err-feed_front-clause-cut
returns-in_err-feed_front-clause-cut c = at_err _ c.from_residual.result (λ fed taken done.
    fed_first fed c.parts.result.start.now c.parts.result.rest.now c.args.out.now c.parts.ensures.is _
    (c.in_err-feed_front.ensures.cut model_setting fed taken done))

pub returns-in_err-feed_last-clause-cut : goal.returns-in_err-feed_last-clause-cut
returns-in_err-feed_last-clause-cut c = at_err _ c.from_residual-in_err-feed_last.result (λ fed taken done.
    fed_last fed c.parts.result.start.now c.parts.result.rest.now c.args.out.now c.parts.ensures.is _
    (c.in_err-feed_last.ensures.cut (fed ++ c.parts.result.start.now) taken
    (c.in_ok-feed_front.ensures.done model_setting fed taken done)))
