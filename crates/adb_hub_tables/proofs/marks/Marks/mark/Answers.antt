use Rattle.std.proofs.Common.{subst, ap}
use Rattle.adb_hub_tables.specs.declared.marks.Seen.TheVariants.{Marked}
use Rattle.adb_hub_tables.specs.Marked.{Holds}
use Rattle.adb_hub_tables.proofs.Marking.{marked_twice}
use Rattle.adb_hub_tables.proofs.Seeing.{is_marked_in, still_holds}
use Rattle.adb_hub_tables.proofs.marks.Marks.mark.Goals as goal

pub invariant_of-self-else-mark_grouped : goal.invariant_of-self-else-mark_grouped
invariant_of-self-else-mark_grouped c = (
  c.mark_grouped.ensures.grouped,
  still_holds c.self.inside.seen c.self.inside.blocks.entries c.mark_grouped.new.blocks.entries
      (c.mark_grouped.ensures.unknown c.if-mark_grouped.false) c.self.invariant.1,
)

pub invariant_of-self : goal.invariant_of-self
invariant_of-self c = (
  c.mark_grouped.ensures.grouped,
  c.once_marked-self-inside.ensures c.self.inside.blocks.entries c.mark_grouped.new.blocks.entries c.self.invariant.1
      (is_marked_in c.args.number c.mark_grouped.ensures.block (c.mark_grouped.ensures.known c.if-mark_grouped.true)),
)

pub returns-then-is_marked-clause-block : goal.returns-then-is_marked-clause-block
returns-then-is_marked-clause-block c =
    let holds = c.is_marked.ensures c.if-is_marked.true c.self.inside.blocks.entries c.self.invariant.1 in
    marked_twice c.args.number c.args.self.now.entries
    (subst (λ (blocks : _). Holds (Marked c.args.number) blocks) (ap (λ (t : _). t.entries) c.self.view_is) holds)
