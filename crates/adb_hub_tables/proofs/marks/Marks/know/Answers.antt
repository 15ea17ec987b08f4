use Rattle.std.proofs.Common.{ap, subst, sym, ◌∙◌, refl, ◌/◌}
use Rattle.adb_outside.specs.Tables.{at}
use Rattle.adb_hub_tables.specs.Marked.{AreGrouped, Holds}
use Rattle.adb_hub_tables.proofs.Grouping.{high_below}
use Rattle.adb_hub_tables.proofs.Seeing.{is_known_in}
use Rattle.adb_hub_tables.proofs.MarkedRows.{grown, dropped}
use Rattle.adb_hub_tables.proofs.marks.Marks.know.Goals as goal

pub invariant_of-self-in-Ok : goal.invariant_of-self-in-Ok
invariant_of-self-in-Ok c = (
  λ which. grown (c.args.number / 64) (high_below c.args.number c.ranges.number.fits) (c.self.invariant.0 which) c.in_ok-know.ensures.ok
      c.know-2.new.marks.entries c.in-Ok.ensures.ok.others,
  c.once_marked-self-inside.ensures c.self.inside.blocks.entries c.know-2.new.marks.entries c.self.invariant.1
      (is_known_in c.args.number c.in-Ok.ensures.ok),
)

pub invariant_of-self-in-Err : goal.invariant_of-self-in-Err
invariant_of-self-in-Err c =
    let high = c.args.number / 64 in
    let fits = high_below c.args.number c.ranges.number.fits in (
      λ which. dropped high fits
          (grown high fits (c.self.invariant.0 which) c.in_ok-know.ensures.ok c.self.inside.blocks.entries
          (λ n apart. refl))
          c.forget.ensures.block c.know-2.new.marks.entries (λ n apart. ap (at n) c.in-Err.ensures.err)
          (ap (at high) c.in-Err.ensures.err ∙ c.in-Err.ensures.absent),
      subst (Holds c.self.inside.seen) (sym c.in-Err.ensures.err) c.self.invariant.1,
    )

pub invariant_of-self : goal.invariant_of-self
invariant_of-self c = (
  subst (λ (groups : _). AreGrouped groups c.self.inside.blocks.entries) (sym c.in_err-know.ensures.err) c.self.invariant.0,
  c.self.invariant.1,
)
