use Rattle.std.proofs.Common.{Some, None}
use Rattle.adb_banner.proofs.Cuts.{without_nuls_is}
use Rattle.adb_banner.proofs.identity.strip_nuls.Goals as goal

pub returns-in-Some : goal.returns-in-Some
returns-in-Some c = without_nuls_is c.args.bytes.now (Some c.in-Some.last) c.in-Some.ensures

pub returns-in-None : goal.returns-in-None
returns-in-None c = without_nuls_is c.args.bytes.now None c.in-None.ensures
