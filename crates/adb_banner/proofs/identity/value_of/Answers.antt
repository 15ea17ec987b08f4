use Rattle.std.proofs.Common.{Some, None, rules, arith}
use Rattle.std.proofs.lemmas.Grind.{common_steps}
use Rattle.adb_banner.proofs.Cuts.{cut_at_first}
use Rattle.adb_banner.proofs.Values.{part_value-none, part_value-some}
use Rattle.adb_banner.proofs.identity.value_of.Goals as goal

pub returns-in_err-name : goal.returns-in_err-name
returns-in_err-name c =
    let cut = cut_at_first 61 c.args.part.now None c.in_err-name.ensures in
    let none = part_value-none c.args.key.now c.args.part.now cut.absent in
    rw none (search rules)

pub returns : goal.returns
returns c =
    let cut = cut_at_first 61 c.args.part.now (Some (c.in_ok-name.name, c.in_ok-name.value)) c.in_ok-name.ensures in
    let some = part_value-some c.args.key.now c.args.part.now cut.some in
    rw (some, ← cut.before, ← cut.after) (grind (arith, common_steps))
