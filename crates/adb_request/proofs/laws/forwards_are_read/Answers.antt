use Rattle.std.proofs.Common.{ap, refl, ◌++◌, codes, Some, true, false}
use Rattle.adb_request.specs.Forms.{semicolon}
use Rattle.adb_request.proofs.RowLaws.{forward_read, none_in_number, number_there}
use Rattle.adb_request.proofs.laws.forwards_are_read.Goals as goal

pub returns-clause-forward : goal.returns-clause-forward
returns-clause-forward c = λ on digits remote port local good.
    let there = number_there 5 65535 digits port local in
    ap Some (forward_read on false (codes "tcp:" ++ digits) remote port
    (none_in_number semicolon 5 digits there.0 refl there.1, local) good)

pub returns-clause-norebind : goal.returns-clause-norebind
returns-clause-norebind c = λ on digits remote port local good.
    let there = number_there 5 65535 digits port local in
    ap Some (forward_read on true (codes "tcp:" ++ digits) remote port (none_in_number semicolon 5 digits there.0 refl there.1, local) good)
