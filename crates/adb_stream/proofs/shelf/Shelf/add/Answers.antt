use Rattle.std.proofs.lemmas.Result.{err_from_is_err_and}
use Rattle.adb_stream.proofs.shelf.Shelf.add.Goals as goal

pub returns-in_err-place-clause-err_index : goal.returns-in_err-place-clause-err_index
returns-in_err-place-clause-err_index c =
    let p = err_from_is_err_and c.from_residual-in_err-place.result c.from_residual-in_err-place.ensures.1 in
    rw p.1 c.in_err-place.ensures.err_index
