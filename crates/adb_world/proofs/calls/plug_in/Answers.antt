use Rattle.std.proofs.Common.{ℕ, ◌≡◌, [], rules, arith}
use Rattle.adb_hub.specs.declared.error.HubError.TheVariants.{OutOfMemory}
use Rattle.adb_world.proofs.Starving.{hub_starves}
use Rattle.adb_world.proofs.calls.plug_in.Goals as goal

pub unreachable-requires : goal.unreachable-requires
unreachable-requires c =
    let e : c.in-Err.field-0 ≡ OutOfMemory = hub_starves (λ (link : ℕ). link ≡ 1) c.in-Err.field-0 c.attach.new.self
    (c.in-Err.ensures.attached [] c.requires) in
    first_of (search rules, grind arith, omega arith, cc)

pub returns-in-Ok : goal.returns-in-Ok
returns-in-Ok c = (c.in-Ok.ensures.attached [] c.requires).1
