use Rattle.std.specs.Prelude.{codes, bytes_eq, ◌==◌}
use Rattle.std.proofs.Common.{rules, tests}
use Rattle.std.proofs.lemmas.Iterator.Search.{any_from_yields_List}
use Rattle.std.proofs.lemmas.Iterator.Splits.{YieldsList-from_slice_split}
use Rattle.adb_device_streams.proofs.asked.has_v2.Goals as goal

pub returns : goal.returns
returns c =
    any_from_yields_List (λ word. bytes_eq word (codes "v2")) _ _ _ c.any.ensures.ran
    (YieldsList-from_slice_split _ (λ byte. byte == 44) _ c.split.ensures.rest c.split.ensures.done c.split.ensures.closure
    (λ x b q k. search (rules, tests)))
    (λ x b q k. search (rules, tests))
