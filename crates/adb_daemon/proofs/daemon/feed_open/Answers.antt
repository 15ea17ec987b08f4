use Rattle.std.specs.Prelude.{◌<◌}
use Rattle.std.proofs.Common.{◌∙◌, arith}
use Rattle.std.proofs.lemmas.List.Elements.{All-from_get_or}
use Rattle.adb_daemon.proofs.Feeding.{refused_before, read_none, read_cut, treat_cut, treat_front, treat_whole}
use Rattle.adb_daemon.proofs.daemon.feed_open.Goals as goal

pub returns-then-machine-clause-whole : goal.returns-then-machine-clause-whole
returns-then-machine-clause-whole c = λ some. λ setting fed taken done.
    refused_before setting fed taken c.args.piece.now c.args.deframer.now c.args.machine.now done
    (All-from_get_or (λ b. b < 256) c.args.piece.now 0 (λ i within. omega (arith, c.type_inv.piece i))) c.if-machine.true

pub returns-in_err-fault-clause-front : goal.returns-in_err-fault-clause-front
returns-in_err-fault-clause-front c = λ memory. λ setting fed taken done.
    read_none setting fed taken c.args.piece.now c.args.deframer.now c.args.machine.now done
    c.read_piece.ensures.bytes c.read_piece.new.deframer

pub returns-in_err-treat_all-clause-front : goal.returns-in_err-treat_all-clause-front
returns-in_err-treat_all-clause-front c = λ memory. λ setting fed taken done.
    treat_front setting fed taken c.args.piece.now c.args.deframer.now c.args.machine.now done c.read_piece.ensures.bytes c.if-machine.false
    c.read_piece.new.deframer c.in_ok-fault.ensures.taken c.treat_all.new.deframer c.treat_all.new.machine c.in_err-treat_all.ensures.front

pub returns-in_err-fault-clause-cut : goal.returns-in_err-fault-clause-cut
returns-in_err-fault-clause-cut c = λ memory. λ setting fed taken done.
    read_cut setting fed taken c.args.piece.now c.args.deframer.now c.args.machine.now done c.read_piece.ensures.bytes

pub returns-in_err-treat_all-clause-cut : goal.returns-in_err-treat_all-clause-cut
returns-in_err-treat_all-clause-cut c = λ memory. λ setting fed taken done.
    treat_cut setting fed taken c.args.piece.now c.args.deframer.now c.args.machine.now done c.read_piece.ensures.bytes c.if-machine.false
    c.read_piece.new.deframer c.in_ok-fault.ensures.taken c.treat_all.new.machine c.in_err-treat_all.ensures.front

pub returns-clause-whole : goal.returns-clause-whole
returns-clause-whole c = λ some. λ setting fed taken done.
    treat_whole setting fed taken c.args.piece.now c.args.deframer.now c.args.machine.now done c.read_piece.ensures.bytes c.if-machine.false
    c.read_piece.new.deframer c.in_ok-fault.ensures.taken c.treat_all.new.deframer c.treat_all.new.machine
    c.in_ok-treat_all.ensures.ok c.verdict.result
    (λ fault same. c.verdict.ensures.answer fault (c.in_ok-fault.ensures.fault ∙ same))
