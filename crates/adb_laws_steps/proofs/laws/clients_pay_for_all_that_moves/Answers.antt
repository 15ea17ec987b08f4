use Rattle.std.specs.Prelude.{◌≤◌, ◌++◌}
use Rattle.std.proofs.Common.{arith}
use Rattle.adb_history.specs.Book.{plugged_count}
use Rattle.adb_laws_steps.proofs.Moved.{plugged_same}
use Rattle.adb_laws_steps.proofs.Paid.{clients_pay}
use Rattle.adb_laws_steps.proofs.Worth.{brings_worth}
use Rattle.adb_laws_steps.proofs.laws.clients_pay_for_all_that_moves.Goals as goal

pub returns : goal.returns
returns c = λ setting before more s.
    let same = plugged_same before more s.steps in
    let one : plugged_count (more ++ before) ≤ 1 = (let few = s.one in omega (arith, same, few)) in
    clients_pay setting before more s
    (brings_worth setting (more ++ before) s.legal
    (c.joined_bytes_are_paired_packets.ensures setting (more ++ before) s.short s.legal s.joined) one)
    (c.each_stream_is_carried.ensures (more ++ before) s.legal)
    (λ l packets once. c.streams_have_one_id.ensures setting l packets once)
