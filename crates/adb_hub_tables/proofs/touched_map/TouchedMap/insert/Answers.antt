use Rattle.std.proofs.Common.{ap, ◌∙◌, refl}
use Rattle.adb_outside.specs.Tables.{at}
use Rattle.adb_hub_tables.proofs.MarkedRows.{grown, lost}
use Rattle.adb_hub_tables.proofs.touched_map.TouchedMap.insert.Goals as goal

pub invariant_of-self-in-Ok : goal.invariant_of-self-in-Ok
invariant_of-self-in-Ok g c = grown c.args.id c.ranges.id.fits c.self.invariant c.in_ok-know.ensures.ok
    c.put_row.new.rows.entries c.in-Ok.ensures.puts.others

pub invariant_of-self-in-Err : goal.invariant_of-self-in-Err
invariant_of-self-in-Err g c =
    let known = grown c.args.id c.ranges.id.fits c.self.invariant c.in_ok-know.ensures.ok c.self.inside.rows.entries (λ n apart. refl) in
    lost c.args.id c.ranges.id.fits known c.forget.ensures.forgets c.put_row.new.rows.entries (λ n apart. ap (at n) c.in-Err.ensures.err)
    (ap (at c.args.id) c.in-Err.ensures.err ∙ c.in-Err.ensures.absent)
