use Rattle.std.proofs.Common.{◌≡◌, sym, subst, rules}
use Rattle.adb_load.specs.Acts.{IsShort, asked_of}
use Rattle.adb_load.proofs.Records.{asked_short}
use Rattle.adb_load.proofs.texts.asked_of.Goals as goal

pub returns-clause-short : goal.returns-clause-short
returns-clause-short c =
    let is : c.push_slice-2.new.self ≡ asked_of c.args.stream = search rules in
    subst IsShort (sym is) (asked_short c.args.stream)
