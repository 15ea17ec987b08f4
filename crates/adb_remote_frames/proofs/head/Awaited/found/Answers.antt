use Rattle.std.proofs.Common.{◌≡◌, sym, ◌∙◌, ap, arith}
use Rattle.adb_outside.specs.declared.framer.Front.TheVariants.{Bad}
use Rattle.adb_outside.specs.Framing.{offset_past}
use Rattle.adb_remote_frames.proofs.Walks.{stray_here, whole_here, short_here}
use Rattle.adb_remote_frames.proofs.head.Awaited.found.Goals as goal

pub returns-in-Stray : goal.returns-in-Stray
returns-in-Stray c =
    let here = stray_here c.args.self c.args.offset c.args.bytes.now c.loop-place.place
    (omega (arith, c.loop-place-test.true)) c.loop-place.invariant
    (sym c.head.ensures ∙ c.in-Stray.is) in
    let sum : c.saturating_add.result ≡ offset_past c.args.offset c.loop-place.place =
    first_of (omega (arith, c.saturating_add.ensures), search (c.saturating_add.ensures), cc) in
    ap Bad sum ∙ sym here

pub returns-in-Says : goal.returns-in-Says
returns-in-Says c =
    c.whole.ensures
    ∙ sym (whole_here c.args.self c.args.offset c.args.bytes.now c.loop-place.place
    (omega (arith, c.loop-place-test.true)) c.loop-place.invariant
    c.in-Says.len (sym c.head.ensures ∙ c.in-Says.is))

pub loop-place-preserved : goal.loop-place-preserved
loop-place-preserved c =
    short_here c.args.self c.args.offset c.args.bytes.now c.loop-place.place (omega (arith, c.loop-place-test.true)) c.loop-place.invariant
    (sym c.head.ensures ∙ c.in-Short.is)
