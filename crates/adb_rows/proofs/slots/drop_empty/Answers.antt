use Rattle.std.proofs.Common.{◌≡◌, ◌∙◌, ap, subst, sym, rules, filter}
use Rattle.std.specs.Prelude.{is_some}
use Rattle.std.proofs.lemmas.Fn.{filter_same}
use Rattle.adb_rows.specs.Slots.{RisesFrom, rows_of}
use Rattle.adb_rows.proofs.Changes.{rises_still, without_empty}
use Rattle.adb_rows.proofs.slots.drop_empty.Goals as goal

left : (g : _) (c : goal.After-shrink_to_fit g) → c.shrink_to_fit.new.self.items ≡ filter (λ s. is_some s.row) c.args.slots.now.items
left g c = c.shrink_to_fit.ensures.items ∙ filter_same _ (λ s. is_some s.row) _ (λ x b f' h. search rules) _ _ c.retain.ensures.filtered

pub returns-clause-rows : goal.returns-clause-rows
returns-clause-rows g c = ap rows_of (left g c) ∙ without_empty c.args.slots.now.items

pub returns-clause-rises : goal.returns-clause-rises
returns-clause-rises g c =
    subst (RisesFrom 0) (sym (left g c)) (rises_still (λ s. is_some s.row) 0 c.args.slots.now.items c.requires)
