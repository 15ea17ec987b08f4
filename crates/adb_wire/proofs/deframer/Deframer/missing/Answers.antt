use Rattle.std.proofs.Common.{◌≡◌, sym, ◌∙◌, ap, subst, arith}
use Rattle.adb_wire.specs.Slicing.{need_of}
use Rattle.adb_wire.specs.Deframing.{Deframing, IsOpen}
use Rattle.adb_wire.proofs.Missing.{some_missing, short_waits}
use Rattle.adb_wire.proofs.deframer.Deframer.missing.Goals as goal

pub returns-in-None-clause-some : goal.returns-in-None-clause-some
returns-in-None-clause-some c =
    let held = c.self.inside.framer in
    let n : c.need.result ≡ need_of held.rest = c.need.ensures ∙ ap need_of c.rest.ensures in
    omega (arith, n, some_missing held.reading held.rest (c.self.invariant.opened (sym c.fault.ensures ∙ c.in-None.is)))

pub returns-in-None-clause-short : goal.returns-in-None-clause-short
returns-in-None-clause-short c = λ none piece few.
    let held = c.args.self.now in
    let n : c.need.result ≡ need_of held.rest = c.need.ensures
    ∙ (ap need_of c.rest.ensures ∙ ap (λ (d : Deframing). need_of d.rest) c.self.view_is) in
    short_waits held piece (subst IsOpen c.self.view_is c.self.invariant.opened) none (omega (arith, n, few))
