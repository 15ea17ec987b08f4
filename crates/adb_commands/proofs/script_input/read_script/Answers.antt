use Rattle.std.proofs.Common.{Ok, false, arith}
use Rattle.adb_replay.proofs.Counting.{counts_then}
use Rattle.adb_commands.proofs.ScriptReading.{read_end, read_on, read_within}
use Rattle.adb_commands.proofs.script_input.read_script.Goals as goal

pub returns-in_err-read_piece-clause-within : goal.returns-in_err-read_piece-clause-within
returns-in_err-read_piece-clause-within g c =
    read_within _ _ _ c.loop-script.script c.read_piece.new.script c.loop-script.invariant.so c.read_piece.result
    c.loop-script.invariant.size
    c.read_piece.ensures.piece

pub loop-script-preserved : goal.loop-script-preserved
loop-script-preserved g c =
    let piece = rw c.if-branch.true at c.in_ok-read_piece.ensures.piece in
    record {
      size = omega (arith, piece.grows.1, c.loop-script.invariant.size);
      so = read_on _ _ _ c.loop-script.script c.read_piece.new.script c.loop-script.invariant.so piece;
      counts = counts_then g.S.Source.steady g.S.Source.faults c.args.source.now c.loop-script.source
          c.read_piece.new.source c.loop-script.invariant.counts
          c.in_ok-read_piece.ensures.counts;
    }

pub returns-clause-script : goal.returns-clause-script
returns-clause-script g c =
    let piece = rw c.if-branch.false at c.in_ok-read_piece.ensures.piece in
    read_end _ _ _ c.loop-script.script c.read_piece.new.script c.loop-script.invariant.so c.loop-script.invariant.size piece

pub returns-clause-within : goal.returns-clause-within
returns-clause-within g c =
    let piece = rw c.if-branch.false at c.in_ok-read_piece.ensures.piece in
    read_within _ _ _ c.loop-script.script c.read_piece.new.script c.loop-script.invariant.so (Ok false) c.loop-script.invariant.size piece
