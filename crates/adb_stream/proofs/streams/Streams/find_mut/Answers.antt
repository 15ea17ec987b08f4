use Rattle.std.proofs.Common.{ap, ◌∙◌, ◌≡◌, subst}
use Rattle.std.specs.Prelude.{option_map}
use Rattle.std.specs.Option.{ghost_name_of}
use borrow.Follows.Closed.{read_of}
use Rattle.adb_stream.specs.Streams.{StreamTable, IsSound, found}
use Rattle.adb_stream.specs.declared.row.Stream.{Stream}
use Rattle.adb_stream.proofs.Shelves.{Kept, finds, sound}
use Rattle.adb_stream.proofs.Calls.{lent, lent_table}
use Rattle.adb_stream.proofs.streams.Streams.find_mut.Goals as goal

pub invariant_of-self-lent : goal.invariant_of-self-lent
invariant_of-self-lent c =
    let old : Kept = record { drawn = c.self.inside.drawn; shelf = c.self.inside.shelf; indexed = c.self.invariant } in
    λ result. (λ part. (lent c.args.link c.args.id part old).indexed, c.self.invariant)

pub returns : goal.returns
returns c =
    let old : Kept = record { drawn = c.self.inside.drawn; shelf = c.self.inside.shelf; indexed = c.self.invariant } in
    let ends = lent_table c.args.link c.args.id old c.args.self.now c.self.view_is in
    let part : _ ≡ _ = ap (option_map (λ (stream : Stream). stream.part))
    (finds old c.args.link c.args.id ∙ ap (λ (t : StreamTable). found c.args.link c.args.id t.streams) c.self.view_is) in (
      (λ i. read_of (ghost_name_of c.find_mut.result) (ends i) (c.self.view_is i)),
      record {
        writes_back = tt;
        found = c.find_mut.ensures.value ∙ part;
        sound = subst IsSound c.self.view_is (sound old);
      },
    )
