use Rattle.std.proofs.Common.{subst, sym, ap}
use Rattle.adb_hub_tables.specs.Marked.{IsMarked}
use Rattle.adb_hub_tables.specs.declared.words.Kind.TheVariants.{Due}
use Rattle.adb_hub_tables.proofs.MarkedRows.{lent, unlent}
use Rattle.adb_hub_tables.proofs.touched_map.TouchedMap.get_mut.Goals as goal

pub invariant_of-self-lent : goal.invariant_of-self-lent
invariant_of-self-lent g c =
    let marked = c.self.invariant in let fits = c.mark.ensures.fits in
    λ found. (
      λ w. subst (IsMarked Due g.V.Owes.owed c.mark.new.self.entries) (sym (c.get_mut.follows.holds w).0)
          (lent c.args.id.now fits marked c.mark.ensures.block w),
      subst (IsMarked Due g.V.Owes.owed c.mark.new.self.entries) (ap (λ (m : _). m.entries) (sym c.get_mut.follows.holds-at-none))
          (unlent c.args.id.now fits marked c.mark.ensures.block),
    )
