use Rattle.std.proofs.Common.{rules, ◌/◌}
use Rattle.std.specs.Prelude.{nat_eq}
use Rattle.std.proofs.lemmas.Map.Made.{filter_same_pairs}
use Rattle.adb_hub_tables.proofs.words.keep_only.Goals as goal

pub returns : goal.returns
returns c = filter_same_pairs _ (λ block. nat_eq block.0 (c.args.number / 64)) _ (λ k v b w f' t. search rules) _ _
    c.retain.ensures.filtered
