use Rattle.std.proofs.Common.{◌∙◌, refl}
use Rattle.adb_server_device_reader.specs.Reading.{Start}
use Rattle.adb_server_device_reader.proofs.Readings.{need_of_nothing, begins, same_le, at_most}
use Rattle.adb_server_device_reader.proofs.reader.read_device.Goals as goal

pub loop-init : goal.loop-init
loop-init g c = (
  tt,
  tt,
  refl,
  rw c.requires need_of_nothing,
  refl,
  same_le _,
  refl,
  λ a entries bytes is h left.
      let start : Start =
      record { entries = entries; bytes = bytes; faults = g.I.DeviceIn.faults c.args.port.now; starved = c.args.pass.pass.starved } in
      record { rest = bytes; left_now = left; so_far = begins _ start c.args.packets _ a c.requires is h; unfailed = refl },
)

pub returns-then-not-turn-clause-told : goal.returns-then-not-turn-clause-told
returns-then-not-turn-clause-told g c a entries bytes is h left =
    let inv = c.loop.invariant in
    let start : Start =
    record { entries = entries; bytes = bytes; faults = g.I.DeviceIn.faults c.args.port.now; starved = c.args.pass.pass.starved } in
    rw inv.2 at (c.if-not-turn.ensures.told start (rw inv.2 (inv.7 a entries bytes is h left)))

pub loop-preserved : goal.loop-preserved
loop-preserved g c =
    let inv = c.loop.invariant in (
      tt,
      tt,
      c.turn.ensures.number ∙ inv.2,
      c.turn.ensures.open,
      c.turn.ensures.mark ∙ inv.4,
      at_most _ _ _ inv.5 c.turn.ensures.count,
      c.turn.ensures.plugs ∙ inv.6,
      λ a entries bytes is h left.
          let start : Start =
          record { entries = entries; bytes = bytes; faults = g.I.DeviceIn.faults c.args.port.now; starved = c.args.pass.pass.starved } in
          rw inv.2 at (c.if-not-turn.ensures.told start (rw inv.2 (inv.7 a entries bytes is h left))),
    )
