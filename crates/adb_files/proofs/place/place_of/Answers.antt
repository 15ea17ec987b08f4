use Rattle.std.proofs.Common.{◌++◌, rules}
use Rattle.std.proofs.lemmas.Fn.{always_returns_same}
use Rattle.adb_files.specs.Paths.{path_cmp}
use Rattle.adb_files.proofs.Places.{place_from_search}
use Rattle.adb_files.proofs.place.place_of.Goals as goal

pub returns : goal.returns
returns c =
    let path = c.args.front.now ++ c.args.back.now in
    place_from_search c.args.slots.now path c.binary_search_by.result c.requires c.binary_search_by.ensures.bound
    (c.binary_search_by.ensures.position (λ e. path_cmp e.path path) (always_returns_same _ _ _ (λ a r f' h. search rules)))
