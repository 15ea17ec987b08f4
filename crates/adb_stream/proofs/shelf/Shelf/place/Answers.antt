use Rattle.std.proofs.Common.{◌∙◌, ap, cond, None, Some, Option, ℕ}
use Rattle.std.specs.Ordering.{is_eq}
use Rattle.adb_stream.specs.Shelf.{place_cmp, index_of}
use Rattle.adb_stream.proofs.Places.{place_undone}
use Rattle.adb_stream.proofs.shelf.Shelf.place.Goals as goal

pub returns-clause-index : goal.returns-clause-index
returns-clause-index c = λ i t l. c.in_ok-insert.ensures.updates.0 (t, l) i

pub returns-then-is_err-clause-err_index : goal.returns-then-is_err-clause-err_index
returns-then-is_err-clause-err_index c = λ none i t l.
    (c.remove.ensures.updates.0 (t, l)
    ∙ (ap (λ (o : Option ℕ). cond (is_eq (place_cmp (c.args.link, c.args.id) (t, l))) None o) (c.in_ok-insert.ensures.updates.0 (t, l))
    ∙ place_undone (index_of c.args.self.now) c.args.link c.args.id (Some c.args.key) none t l)) i
