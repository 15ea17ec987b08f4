use Rattle.std.proofs.Common.{tests, rules, ◌∙◌, ap, take, drop}
use Rattle.std.proofs.lemmas.List.{append_assoc}
use Rattle.adb_shell_service.specs.Output.{packet_bytes, output_bytes}
use Rattle.adb_shell_service.proofs.Pieces.{output_cut}
use Rattle.adb_shell_service.proofs.output.add_output.Goals as goal

pub loop-rest-preserved : goal.loop-rest-preserved
loop-rest-preserved c =
    let rest = c.loop-rest.rest.now in
    let cut = output_cut c.args.id rest c.split_at.result.0.now c.split_at.result.1.now (search (rules, tests))
    (c.split_at.ensures.front ∙ ap (λ n. take n rest) c.min.ensures) (c.split_at.ensures.back ∙ ap (λ n. drop n rest) c.min.ensures) in
    let e = append_assoc c.loop-rest.out (packet_bytes c.args.id c.split_at.result.0.now)
    (output_bytes c.args.id c.split_at.result.1.now) in
    cc (c.in_ok-write_packet.ensures.ok, c.loop-rest.invariant)
