use Rattle.std.proofs.Common.{drop, arith}
use Rattle.std.proofs.lemmas.List.{length-drop, take_all}
use Rattle.adb_load.proofs.texts.rest_of.Goals as goal

pub returns : goal.returns
returns c = take_all 13 (drop 11 c.args.head.now) (omega (arith, c.told-head, length-drop 11 c.args.head.now))
