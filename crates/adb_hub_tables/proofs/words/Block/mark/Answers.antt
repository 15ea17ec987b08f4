use Rattle.std.proofs.Common.{◌≡◌, rules}
use Rattle.adb_hub_tables.specs.Marked.{place_bit}
use Rattle.adb_hub_tables.proofs.Marking.{unplaced}
use Rattle.adb_hub_tables.proofs.words.Block.mark.Goals as goal

pub returns-then-bit-eq0-clause-block : goal.returns-then-bit-eq0-clause-block
returns-then-bit-eq0-clause-block c =
    let none : place_bit c.args.i c.args.self.now ≡ 0 = search rules in
    unplaced c.args.i c.requires c.args.self.now none
