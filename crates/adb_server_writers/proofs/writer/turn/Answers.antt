use Rattle.std.proofs.Common.{ap, ◌∙◌, refl}
use Rattle.adb_server_log.specs.Pass.{PassView}
use Rattle.adb_server_hall.specs.Passes.{is_starved}
use Rattle.adb_server_hall.proofs.Made.{where_some}
use Rattle.adb_server_writers.specs.Writing.{side_of}
use Rattle.adb_server_writers.proofs.Sides.{side_is}
use Rattle.adb_server_writers.proofs.Writings.{idle_turn, done_turn, refused_turn, handed_turn, handed_number, handed_memory, error_hungry}
use Rattle.adb_server_writers.proofs.Writings.{error_memory}
use Rattle.adb_server_writers.proofs.writer.turn.Goals as goal

pub returns-in-Ok-Bytes-clause-told : goal.returns-in-Ok-Bytes-clause-told
returns-in-Ok-Bytes-clause-told g c a es t held =
    let p = c.args.pass.now in
    let h = where_some _ _ _ a t (rw c.in-Ok-Bytes.field-0-is at c.in-Ok-Bytes.ensures.told) in
    let n = ap (λ (p : PassView). p.number) c.hand_out.ensures.pass ∙ handed_number p c.hand_out.result in
    let k = where_some _ _ _ h.0 h.1 (rw n at c.write_out.ensures.told) in
    let memory = ap (λ (p : PassView). p.starved) c.in-Ok-Bytes.ensures.pass ∙ handed_memory p c.in-Ok-Bytes.field-0 in
    handed_turn (side_of c.args.half p.number) _ _ a h.0 k.0 es _ _ _ _ _ _ held k.1 h.2.hands c.write_out.ensures.closed memory _ k.2
    c.write_out.ensures.wrote (λ more. ap (λ (p : PassView). p.starved) (c.write_out.ensures.quiet more))

pub returns-in-Ok-Nothing-clause-told : goal.returns-in-Ok-Nothing-clause-told
returns-in-Ok-Nothing-clause-told g c a es t held =
    let p = c.args.pass.now in
    let h = where_some _ _ _ a t (rw c.in-Ok-Nothing.field-0-is at c.in-Ok-Nothing.ensures.told) in
    let memory = ap (λ (p : PassView). p.starved) c.in-Ok-Nothing.ensures.pass ∙ handed_memory p c.in-Ok-Nothing.field-0 in
    idle_turn (side_of c.args.half p.number) _ a h.0 es _ _ _ _ held h.1 memory h.2.hands

pub returns-in-Ok-Done-clause-told : goal.returns-in-Ok-Done-clause-told
returns-in-Ok-Done-clause-told g c a es t held =
    let p = c.args.pass.now in
    let h = where_some _ _ _ a t (rw c.in-Ok-Done.field-0-is at c.in-Ok-Done.ensures.told) in
    let memory = ap (λ (p : PassView). p.starved) c.in-Ok-Done.ensures.pass ∙ handed_memory p c.in-Ok-Done.field-0 in
    done_turn (side_of c.args.half p.number) _ a h.0 es _ _ _ _ held h.1 memory h.2.hands

pub returns-in-Err-clause-told : goal.returns-in-Err-clause-told
returns-in-Err-clause-told g c a es t held =
    let p = c.args.pass.now in
    let q = c.hand_out.new.pass in
    let error = c.in-Err.error in
    let h = where_some _ _ _ a t c.in-Err.ensures.told in
    let n = ap (λ (p : PassView). p.number) c.hand_out.ensures.pass ∙ handed_number p c.hand_out.result in
    let k = where_some _ _ _ h.0 h.1 (rw n at c.give_up.ensures.told) in
    let noted = ap (λ (p : PassView). p.starved) c.in-Err.ensures.pass in
    refused_turn (side_of c.args.half p.number) (side_is c.args.half p.number) error a h.0 k.0 es _ _ _ _ _ held k.1 h.2.hands
    (is_starved error) refl k.2
    (λ fed. ap (λ (p : PassView). p.starved) (c.give_up.ensures.quiet fed) ∙ noted ∙ error_memory p error fed)
    (λ hungry. c.give_up.ensures.starved (noted ∙ error_hungry p error hungry))
