use Rattle.std.specs.Prelude.{◌-◌, ◌^◌, [], ◌∷◌}
use Rattle.adb_world.specs.Parts.{plugging}
use Rattle.adb_world.proofs.Greeting.{fits_first, greets, still_runs}
use Rattle.adb_world.proofs.parts.Parts.greet.Goals as goal

pub down-requires-clause-held : goal.down-requires-clause-held
down-requires-clause-held c =
    let runs = greets c.args.self.now c.requires (2 ^ 64 - 1) c.in_ok-up.field-0 c.up.new.self fits_first
    (c.in_ok-up.ensures.moves (plugging ∷ []) c.requires) in
    record { history = runs.history; holds = runs.holds }

pub returns-clause-runs : goal.returns-clause-runs
returns-clause-runs c =
    let runs = greets c.args.self.now c.requires (2 ^ 64 - 1) c.in_ok-up.field-0 c.up.new.self fits_first
    (c.in_ok-up.ensures.moves (plugging ∷ []) c.requires) in
    still_runs c.what_came_stays.ensures (2 ^ 64 - 1) c.in_ok-down.field-0 c.up.new.self c.down.new.self runs
    (c.in_ok-down.ensures.moves runs.history runs.holds)
