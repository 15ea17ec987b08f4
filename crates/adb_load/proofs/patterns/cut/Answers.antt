use Rattle.adb_load.proofs.Cycles.{cut_at}
use Rattle.adb_load.proofs.patterns.cut.Goals as goal

pub returns : goal.returns
returns c =
    rw (c.from.ensures, c.from-2.ensures)
    (cut_at c.args.shift c.args.from c.args.count c.args.bytes.now c.requires.prepared c.ranges.count.fits)
