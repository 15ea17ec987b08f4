use Rattle.adb_hub_tables.proofs.Grouping.{forget_grouped}
use Rattle.adb_hub_tables.proofs.Seeing.{forgotten_last, thinned_lack}
use Rattle.adb_hub_tables.proofs.marks.Marks.forget.Goals as goal

pub drop_empty-requires : goal.drop_empty-requires
drop_empty-requires c = forget_grouped c.args.number c.ranges.number.fits c.self.invariant.0 c.forget_in.ensures.block

pub invariant_of-self : goal.invariant_of-self
invariant_of-self c = (
  c.drop_empty.ensures.grouped,
  c.once_forgotten-self-inside.ensures c.self.inside.blocks.entries c.drop_empty.new.blocks.entries c.self.invariant.1
      (λ which lacks. thinned_lack which c.forget_in.new.marks.entries c.drop_empty.new.blocks.entries c.drop_empty.ensures.thins
      (forgotten_last c.args.number c.forget_in.ensures.block which lacks)),
)

pub invariant_of-self-else-forget_in : goal.invariant_of-self-else-forget_in
invariant_of-self-else-forget_in c = (
  forget_grouped c.args.number c.ranges.number.fits c.self.invariant.0 c.forget_in.ensures.block,
  c.once_forgotten-self-inside.ensures c.self.inside.blocks.entries c.forget_in.new.marks.entries c.self.invariant.1
      (forgotten_last c.args.number c.forget_in.ensures.block),
)
