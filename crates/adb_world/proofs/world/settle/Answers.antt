use Rattle.std.proofs.Common.{arith, ◌∙◌, sym, ap, subst}
use Rattle.adb_daemon.specs.Daemon.{files_of}
use Rattle.adb_world.specs.Answered.{AreEchoes, IsAnsweredAlone, IsNewAlone}
use Rattle.adb_world.specs.Settled.{HasMoved}
use Rattle.adb_world.specs.Together.{AreAnsweredTogether, AreAskedInPart}
use Rattle.adb_world.specs.World.{View}
use Rattle.adb_world.proofs.Finishing.{ease_of, whole_of}
use Rattle.adb_world.proofs.Stopping.{none_asked}
use Rattle.adb_world.proofs.Going.{has_moved}
use Rattle.adb_world.proofs.world.settle.Goals as goal

pub returns-in-Ok-clause-counted : goal.returns-in-Ok-clause-counted
returns-in-Ok-clause-counted c =
    let counted = c.settled_worlds_are_counted.ensures c.settle_parts.new.parts c.in-Ok.ensures.done in
    record { clients = counted.clients; streams = counted.streams }

pub returns-in-Ok-clause-alone : goal.returns-in-Ok-clause-alone
returns-in-Ok-clause-alone c n session alone is =
    let ease = ease_of c.world.inside.spent c.world.inside.settled c.world.inside.parts c.if-world.false c.world.invariant in
    subst (λ (w : View). IsAnsweredAlone session w.files (files_of c.settle_parts.new.parts.device)) c.world.view_is
    (c.in-Ok.ensures.alone ease n session (subst (λ (w : View). IsNewAlone n w.sessions) (sym c.world.view_is) alone) is)

pub returns-in-Ok-clause-together : goal.returns-in-Ok-clause-together
returns-in-Ok-clause-together c =
    let ease = ease_of c.world.inside.spent c.world.inside.settled c.world.inside.parts c.if-world.false c.world.invariant in
    let whole = whole_of c.world.inside.spent c.world.inside.settled c.world.inside.parts c.if-world.false c.world.invariant in
    subst (λ (w : View). AreAnsweredTogether w.files (files_of c.settle_parts.new.parts.device) w.sessions
    c.settle_parts.new.parts.sessions.entries)
    c.world.view_is (c.in-Ok.ensures.together ease whole)

pub returns-in-Err-clause-in_part : goal.returns-in-Err-clause-in_part
returns-in-Err-clause-in_part c =
    let ease = ease_of c.world.inside.spent c.world.inside.settled c.world.inside.parts c.if-world.false c.world.invariant in
    let whole = whole_of c.world.inside.spent c.world.inside.settled c.world.inside.parts c.if-world.false c.world.invariant in
    subst (λ (w : View). AreAskedInPart w.files (files_of c.settle_parts.new.parts.device) w.sessions) c.world.view_is
    (c.in-Err.ensures.in_part ease whole)

pub returns-then-world-clause-in_part : goal.returns-then-world-clause-in_part
returns-then-world-clause-in_part c = none_asked c.args.world.now.files c.args.world.now.sessions

pub returns-in-Ok-clause-files : goal.returns-in-Ok-clause-files
returns-in-Ok-clause-files c echoes =
    let ease = ease_of c.world.inside.spent c.world.inside.settled c.world.inside.parts c.if-world.false c.world.invariant in
    c.in-Ok.ensures.files ease (subst (λ (w : View). AreEchoes w.sessions) (sym c.world.view_is) echoes)
    ∙ ap (λ (w : View). w.files) c.world.view_is

pub returns-in-Ok-clause-steps : goal.returns-in-Ok-clause-steps
returns-in-Ok-clause-steps c =
    c.in-Ok.ensures.steps (ease_of c.world.inside.spent c.world.inside.settled c.world.inside.parts c.if-world.false c.world.invariant)

pub returns-in-Ok-clause-moved : goal.returns-in-Ok-clause-moved
returns-in-Ok-clause-moved c =
    let ease = ease_of c.world.inside.spent c.world.inside.settled c.world.inside.parts c.if-world.false c.world.invariant in
    subst (λ (w : View). HasMoved c.in-Ok.steps w.hub c.settle_parts.new.parts.hub) c.world.view_is
    (has_moved c.in-Ok.steps c.world.inside.parts c.settle_parts.new.parts ease.runs c.in-Ok.ensures.made)

pub settle_parts-requires-clause-wrote : goal.settle_parts-requires-clause-wrote
settle_parts-requires-clause-wrote c = λ n session past within is. absurd (omega (arith, past, within))
