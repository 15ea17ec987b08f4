use Rattle.std.proofs.Common.{◌∙◌, rules, tests}
use Rattle.std.proofs.lemmas.Iterator.Search.{any_from_yields_List}
use Rattle.std.proofs.lemmas.Iterator.Splits.{YieldsList-from_slice_split}
use Rattle.std.specs.Str.{bytes_eq}
use Rattle.adb_banner.specs.Banner.{is_comma}
use Rattle.adb_banner.proofs.identity.has_feature.Goals as goal

pub returns : goal.returns
returns c =
    any_from_yields_List (λ part. bytes_eq part c.args.name.now) _ _ _ c.any.ensures.ran
    (YieldsList-from_slice_split _ is_comma _ (c.split.ensures.rest ∙ c.as_slice.ensures) c.split.ensures.done c.split.ensures.closure
    (λ x b q k. search (rules, tests)))
    (λ x b q k. search (rules, tests))
