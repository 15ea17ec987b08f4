use Rattle.std.proofs.Common.{rules}
use Rattle.std.proofs.lemmas.Fn.{always_returns_same}
use Rattle.adb_rows.proofs.Places.{found}
use Rattle.adb_rows.proofs.slots.search.Goals as goal

pub returns : goal.returns
returns g c =
    found c.args.number c.args.slots.now c.binary_search_by_key.result c.requires c.binary_search_by_key.ensures.bound
    (c.binary_search_by_key.ensures.position (λ s. s.number) (always_returns_same _ _ _ (λ a r f' h. search rules)))
