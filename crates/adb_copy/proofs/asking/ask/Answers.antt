use Rattle.std.proofs.Common.{ℕ, ◌∙◌, ap, List, take}
use Rattle.adb_device_streams.proofs.Syncing.{at_err}
use Rattle.adb_files.specs.Requests.{requests_in}
use Rattle.adb_files.specs.Served.{serve_all, served}
use Rattle.adb_copy.proofs.PullWorlds.{none_at_most, one_at_most, synced}
use Rattle.adb_copy.proofs.asking.ask.Goals as goal

pub returns-clause-step : goal.returns-clause-step
returns-clause-step g c =
    let text = c.in_ok-text.ensures ∙ (c.out.ensures ∙ c.in_ok-ask.ensures.left) in
    c.in_ok-step.ensures c.in_ok-ask.ensures.stands
    ∙ ap g.V.PathValue.value (c.as_slice.ensures
    ∙ (c.in_ok-answer.ensures.answer ∙ ap (λ (bytes : List ℕ). (served c.args.world.now.files bytes).answer) text))

pub returns-clause-left : goal.returns-clause-left
returns-clause-left g c _ =
    let text = c.in_ok-text.ensures ∙ (c.out.ensures ∙ c.in_ok-ask.ensures.left) in
    let synced_once = c.in_ok-answer.ensures in
    one_at_most c.args.world.now c.sync_text.new.self
    (synced c.args.world.now c.sync_text.new.self
    (synced_once.files ∙ (ap (λ (bytes : List ℕ). (served c.args.world.now.files bytes).files) text ∙ c.requires.leaves))
    synced_once.given synced_once.same synced_once.calm synced_once.counted synced_once.settled synced_once.whole)

pub returns-in_err-text-clause-left : goal.returns-in_err-text-clause-left
returns-in_err-text-clause-left g c _ = none_at_most 1 c.args.world.now c.requires.settled

pub returns-in_err-answer-clause-kept : goal.returns-in_err-answer-clause-kept
returns-in_err-answer-clause-kept g c =
    let text = c.in_ok-text.ensures ∙ (c.out.ensures ∙ c.in_ok-ask.ensures.left) in
    let part = c.in_err-answer.ensures.in_part in
    at_err _ c.from_residual-in_err-answer.result (part.1
    ∙ (ap (λ (bytes : List ℕ). (serve_all c.args.world.now.files (take part.0 (requests_in bytes))).files) text
    ∙ c.requires.in_part part.0))

pub returns-in_err-step-clause-kept : goal.returns-in_err-step-clause-kept
returns-in_err-step-clause-kept g c =
    let text = c.in_ok-text.ensures ∙ (c.out.ensures ∙ c.in_ok-ask.ensures.left) in
    at_err _ c.from_residual-in_err-step.result
    (c.in_ok-answer.ensures.files ∙ (ap (λ (bytes : List ℕ). (served c.args.world.now.files bytes).files) text ∙ c.requires.leaves))
