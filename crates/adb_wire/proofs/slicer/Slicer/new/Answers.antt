use Rattle.std.proofs.Common.{subst, sym, ◌∙◌, []}
use Rattle.adb_wire.specs.Slicing.{HasSliced}
use Rattle.adb_wire.proofs.Slices.{starts}
use Rattle.adb_wire.proofs.slicer.Slicer.new.Goals as goal

pub returns-clause-stands : goal.returns-clause-stands
returns-clause-stands c = subst (HasSliced [] []) (sym (c.in_ok-reserve.ensures.bytes ∙ c.new-held.ensures.bytes)) starts
