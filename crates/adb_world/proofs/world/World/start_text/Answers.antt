use Rattle.std.specs.Prelude.{◌+◌}
use Rattle.adb_world.proofs.Finishing.{sound_with, whole_of, whole_with}
use Rattle.adb_world.proofs.world.World.start_text.Goals as goal

pub invariant_of-self : goal.invariant_of-self
invariant_of-self c =
    let old = c.self.inside.parts in
    let whole = whole_of c.self.inside.spent c.self.inside.settled old c.if-self.false c.self.invariant in
    sound_with c.self.inside.spent c.begin.new.parts c.in-Ok.ensures.ease
    (whole_with (old.given + 1) c.args.service.now c.args.text old c.begin.new.parts whole c.in-Ok.ensures.added)
