use Rattle.std.proofs.Common.{sym, ◌∙◌, ap, subst}
use Rattle.adb_wire.specs.Deframing.{IsSound}
use Rattle.adb_wire.proofs.Missing.{fresh_sound}
use Rattle.adb_wire.proofs.deframer.Deframer.with_piece.Goals as goal

pub invariant_of-result : goal.invariant_of-result
invariant_of-result c =
    let none = ap (λ d. d.fault) c.self.view_is ∙ c.requires in
    subst IsSound (sym c.in_ok-with_piece.ensures.next) (fresh_sound c.self.inside.framer c.args.piece.now c.self.invariant none)
