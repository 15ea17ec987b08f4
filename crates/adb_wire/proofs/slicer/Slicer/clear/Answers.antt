use Rattle.std.proofs.Common.{subst, sym, ◌≤◌, length, ◌∷◌, ◌++◌, []}
use Rattle.adb_wire.specs.Slicing.{slice_len, HasSliced}
use Rattle.adb_wire.proofs.Slices.{goes_on}
use Rattle.adb_wire.proofs.slicer.Slicer.clear.Goals as goal

pub returns-clause-stands : goal.returns-clause-stands
returns-clause-stands c = λ fed gave none h.
    let within : length c.args.self.now ≤ slice_len c.args.self.now =
    subst (λ b. length b ≤ slice_len b) c.self.view_is c.self.invariant.0 in
    subst (HasSliced fed (gave ++ c.args.self.now ∷ [])) (sym c.clear.ensures.bytes) (goes_on c.args.self.now within none fed gave h)
