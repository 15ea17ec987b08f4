use Rattle.std.proofs.Common.{◌≡◌, sym, ◌∙◌, arith, length, true, false}
use Rattle.std.specs.Prelude.{◌==◌}
use Rattle.adb_server_device_reader.proofs.Readings.{short_fits, done_empty, done_held, done_stopped, handed_as}
use Rattle.adb_server_device_reader.proofs.feeding.end_input.Goals as goal

pub hand_in-requires : goal.hand_in-requires
hand_in-requires g c = rw c.held-held.ensures (omega (arith, short_fits c.args.packets.now c.requires))

pub returns-then-is_empty-clause-told : goal.returns-then-is_empty-clause-told
returns-then-is_empty-clause-told g c start rest faults ended x =
    let empty : (length c.held-held.result.now == 0) ≡ true = sym c.is_empty.ensures ∙ c.if-is_empty.true in
    done_empty _ start c.held-held.result.now c.args.packets.now rest faults c.args.cause
    c.args.pass.now.pass.starved c.finish.new.pass.pass.starved _ _ x c.held-held.ensures empty ended
    (c.finish.ensures.told _ x.hall)

pub returns-then-goes_on-clause-told : goal.returns-then-goes_on-clause-told
returns-then-goes_on-clause-told g c start rest faults ended x =
    let filled : (length c.held-held.result.now == 0) ≡ false = sym c.is_empty.ensures ∙ c.if-is_empty.false in
    done_held c.args.pass.now.pass.number c.hand_in.new.pass.pass.number start c.held-held.result.now
    c.args.packets.now rest faults c.args.cause
    c.args.pass.now.pass.starved c.hand_in.new.pass.pass.starved c.finish-then-goes_on.new.pass.pass.starved _ _ _ x c.held-held.ensures
    filled c.requires ended c.hand_in.ensures.number
    (handed_as _ true _ _ _ _ _ _ (sym c.goes_on.ensures ∙ c.if-goes_on.true) (c.hand_in.ensures.told _ x.hall))
    c.finish-then-goes_on.ensures.told

pub returns-else-goes_on-clause-told : goal.returns-else-goes_on-clause-told
returns-else-goes_on-clause-told g c start rest faults ended x =
    let filled : (length c.held-held.result.now == 0) ≡ false = sym c.is_empty.ensures ∙ c.if-is_empty.false in
    done_stopped c.args.pass.now.pass.number start c.held-held.result.now c.args.packets.now rest faults c.args.cause
    c.args.pass.now.pass.starved
    c.hand_in.new.pass.pass.starved _ _ x
    c.held-held.ensures filled c.requires ended
    (handed_as _ false _ _ _ _ _ _ (sym c.goes_on.ensures ∙ c.if-goes_on.false) (c.hand_in.ensures.told _ x.hall))
