use Rattle.std.proofs.lemmas.Result.{err_from_is_err_and}
use Rattle.std.proofs.Common.{false}
use Rattle.adb_asking.proofs.Inputs.{read_end, read_on, read_stopped}
use Rattle.adb_asking.proofs.Putting.{counts_then}
use Rattle.adb_asking.proofs.input.read_input.Goals as goal

pub returns-in_err-read_piece-clause-told : goal.returns-in_err-read_piece-clause-told
returns-in_err-read_piece-clause-told g c =
    let passed = err_from_is_err_and c.from_residual.result c.from_residual.ensures.1 in
    rw (passed.1, passed.2)
    (read_stopped _ _ _ c.loop-text.text c.read_piece.new.text c.loop-text.invariant.so _
    c.in_err-read_piece.ensures.told)

pub loop-text-preserved : goal.loop-text-preserved
loop-text-preserved g c =
    let piece = rw c.if-branch.true at c.in_ok-read_piece.ensures.told in
    record {
      size = c.read_piece.ensures.size;
      so = read_on _ _ _ c.loop-text.text c.read_piece.new.text c.loop-text.invariant.so piece.told;
      counts = counts_then g.S.Source.steady g.S.Source.faults c.args.source.now c.loop-text.source
          c.read_piece.new.source false c.loop-text.invariant.counts
          c.in_ok-read_piece.ensures.counts;
    }

pub returns-clause-told : goal.returns-clause-told
returns-clause-told g c =
    let piece = rw c.if-branch.false at c.in_ok-read_piece.ensures.told in
    read_end _ _ _ c.loop-text.text c.read_piece.new.text c.loop-text.invariant.so piece
