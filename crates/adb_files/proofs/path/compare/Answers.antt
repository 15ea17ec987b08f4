use Rattle.adb_files.proofs.Order.{cmp_parts}
use Rattle.adb_files.proofs.path.compare.Goals as goal

pub returns : goal.returns
returns c =
    let split = cmp_parts c.args.path.now c.args.front.now c.args.back.now c.min.result c.min.ensures in cc
