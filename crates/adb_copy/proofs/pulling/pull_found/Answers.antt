use Rattle.adb_copy.proofs.PullInto.{fits_here, put_here}
use Rattle.adb_copy.proofs.pulling.pull_found.Goals as goal

pub put-requires-clause-fits : goal.put-requires-clause-fits
put-requires-clause-fits g c =
    let is = c.requires.there in
    fits_here g.T.PulledTree.Holds c.args.found.now.path c.as_slice.result.now is.file c.in_ok-file.file
    c.as_slice.ensures (c.in_ok-file.ensures.file is)
    c.args.tree.now (c.requires.fits is)

pub returns-clause-put : goal.returns-clause-put
returns-clause-put g c is files holds =
    put_here g.T.PulledTree.Holds c.args.found.now.path c.as_slice.result.now is.file c.in_ok-file.file
    c.as_slice.ensures (c.in_ok-file.ensures.file is)
    c.put.new.self files (c.in_ok-put.ensures files holds)
