use Rattle.std.proofs.Common.{◌∙◌, ap}
use Rattle.adb_desk.specs.Acts.{entry_by}
use Rattle.adb_desk.specs.Desk.{DeskView}
use Rattle.adb_server_hall.specs.Telling.{telling_of}
use Rattle.adb_server_hall.proofs.Drawn.{drawn_told}
use Rattle.adb_server_hall.proofs.alone.draw_pair.Goals as goal

pub returns-in-Ok-clause-told : goal.returns-in-Ok-clause-told
returns-in-Ok-clause-told g c =
    let rung = c.in-Ok.ensures.admitted in
    drawn_told (entry_by c.args.comer) c.in-Ok.field-0 c.seat_pair.result.0.number c.args.desk.now rung.quiet
    c.seat_pair.new.desk rung.did.0
    (c.seat_pair.ensures.number ∙ ap (λ (d : DeskView). d.log.drawn) rung.is ∙ rung.did.2)
    (c.seat_pair.ensures.told ∙ ap telling_of rung.is)
