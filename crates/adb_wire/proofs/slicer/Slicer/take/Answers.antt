use Rattle.std.proofs.Common.{sym, subst, ap, ◌∙◌, ◌≡◌, ◌≤◌, ◌++◌, length, take, arith}
use Rattle.std.proofs.lemmas.List.{length-append, length-take}
use Rattle.adb_wire.specs.Slicing.{slice_len, need_of, HasSliced}
use Rattle.adb_wire.proofs.Slices.{slice_bounds, slice_grows, takes_more}
use Rattle.adb_wire.proofs.slicer.Slicer.take.Goals as goal

pub push_spare-requires : goal.push_spare-requires
push_spare-requires c =
    let n : c.need.result ≡ need_of c.self.inside.held.bytes = c.need.ensures ∙ ap need_of c.as_slice.ensures in
    omega (arith, n, length-take c.min-n.result c.args.piece.now, slice_bounds c.self.inside.held.bytes, c.self.invariant)

pub invariant_of-self : goal.invariant_of-self
invariant_of-self c =
    let held = c.self.inside.held.bytes in
    let more = take c.min-n.result c.args.piece.now in
    let n : c.need.result ≡ need_of held = c.need.ensures ∙ ap need_of c.as_slice.ensures in
    let fits : length more ≤ need_of held = omega (arith, n, length-take c.min-n.result c.args.piece.now) in (
      subst (λ b. length b ≤ slice_len b) (sym c.push_spare.ensures.bytes) (slice_grows held more c.self.invariant.0 fits),
      omega (arith, c.self.invariant, c.push_spare.ensures.spare, ap length c.push_spare.ensures.bytes, length-append held more),
    )

pub returns-clause-stands : goal.returns-clause-stands
returns-clause-stands c = λ fed gave h.
    let held = c.self.inside.held.bytes in
    let more = take c.min-n.result c.args.piece.now in
    let n : c.need.result ≡ need_of held = c.need.ensures ∙ ap need_of c.as_slice.ensures in
    let fits : length more ≤ need_of held = omega (arith, n, length-take c.min-n.result c.args.piece.now) in
    subst (HasSliced (fed ++ more) gave) (sym c.push_spare.ensures.bytes)
    (takes_more held more c.self.invariant.0 fits fed gave (subst (HasSliced fed gave) (sym c.self.view_is) h))
