use Rattle.std.proofs.Common.{subst, sym, ◌≡◌, ◌≤◌, length, rules}
use Rattle.adb_wire.specs.Slicing.{slice_len, need_of}
use Rattle.adb_wire.proofs.Slices.{is_slice}
use Rattle.adb_wire.proofs.slicer.Slicer.whole.Goals as goal

pub returns-then-need-eq0-clause-slice : goal.returns-then-need-eq0-clause-slice
returns-then-need-eq0-clause-slice c =
    let bytes = c.as_slice-bytes.result.now in
    let within : length bytes ≤ slice_len bytes = subst (λ b. length b ≤ slice_len b) (sym c.as_slice-bytes.ensures) c.self.invariant.0 in
    let none : need_of bytes ≡ 0 = search rules in
    is_slice bytes within none
