use Rattle.std.proofs.Common.{◌≡◌, ◌∙◌, ℕ, List, Option, Some, arith, ap, subst, length}
use Rattle.std.specs.Prelude.{IfSome}
use Rattle.adb_request.specs.declared.request.Request.{Request}
use Rattle.adb_client.specs.declared.about.About.{About}
use Rattle.adb_hub_clients.specs.Requests.{IsAskedBehind, ReadsOne}
use Rattle.adb_hub_clients.specs.declared.requests.Step.{Step}
use Rattle.adb_hub_clients.proofs.Left.{asked_whole, first_reading, reads_whole, some_asked, whole_again, whole_end}
use Rattle.adb_hub_clients.proofs.plan.plan_piece.Goals as goal

-- the piece is that request
behind : (piece : List ℕ) (o : Option Request) (request : Request) → o ≡ Some request
    → IfSome o (λ request. IsAskedBehind 0 (asked_whole request (length piece)) piece)
    → IsAskedBehind 0 (asked_whole request (length piece)) piece
behind piece o request is asked =
    subst (λ (o : Option Request). IfSome o (λ request. IsAskedBehind 0 (asked_whole request (length piece)) piece)) is asked

pub returns-in-Again : goal.returns-in-Again
returns-in-Again c =
    let devices = c.args.devices.now in
    let forwards = c.args.forwards.now in
    let piece = c.args.piece.now in
    let selected = c.args.client.now.about.selected in
    let new = c.answer.new.self in
    let first : c.new-reading.result ≡ first_reading selected =
    c.new-reading.ensures ∙ ap (λ (about : About). first_reading about.selected) c.about.ensures in
    let is_behind = behind piece _ c.in-Some.request c.in-Some.is c.in_ok-request.ensures in
    let reads = reads_whole devices forwards c.new-reading.result new selected _ c.in-Some.request piece first
    is_behind c.in_ok-answer.ensures.reads in
    let used : new.used ≡ length piece = omega (arith, c.in_ok-answer.ensures.used, ap (λ (r : _). r.used) first) in
    rw c.planned.ensures (record {
      asked = whole_again devices forwards piece selected new
          (subst (λ (step : Step). ReadsOne devices forwards piece (first_reading selected) step new) c.in-Again.is reads) used;
      all = used;
    })

pub returns-in-End : goal.returns-in-End
returns-in-End c =
    let devices = c.args.devices.now in
    let forwards = c.args.forwards.now in
    let piece = c.args.piece.now in
    let selected = c.args.client.now.about.selected in
    let new = c.answer.new.self in
    let first : c.new-reading.result ≡ first_reading selected =
    c.new-reading.ensures ∙ ap (λ (about : About). first_reading about.selected) c.about.ensures in
    let is_behind = behind piece _ c.in-Some.request c.in-Some.is c.in_ok-request.ensures in
    let reads = reads_whole devices forwards c.new-reading.result new selected _ c.in-Some.request piece first
    is_behind c.in_ok-answer.ensures.reads in
    let used : new.used ≡ length piece = omega (arith, c.in_ok-answer.ensures.used, ap (λ (r : _). r.used) first) in
    rw c.planned-in-End.ensures (record {
      asked = whole_end devices forwards piece selected new c.in-End.next (some_asked piece c.in-Some.request (length piece) is_behind.is)
          (subst (λ (step : Step). ReadsOne devices forwards piece (first_reading selected) step new) c.in-End.is reads);
      all = used;
    })
