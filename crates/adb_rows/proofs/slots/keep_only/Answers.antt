use Rattle.std.proofs.Common.{◌≡◌, ◌∙◌, ap, subst, sym, rules, filter}
use Rattle.std.specs.Prelude.{nat_eq}
use Rattle.std.proofs.lemmas.Fn.{filter_same}
use Rattle.adb_rows.specs.Slots.{RisesFrom, rows_of}
use Rattle.adb_rows.proofs.Changes.{rises_still, one_alone}
use Rattle.adb_rows.proofs.slots.keep_only.Goals as goal

left : (g : _) (c : goal.After-shrink_to_fit g) → c.shrink_to_fit.new.self.items
    ≡ filter (λ s. nat_eq s.number c.args.number) c.args.slots.now.items
left g c = c.shrink_to_fit.ensures.items ∙ filter_same _ (λ s. nat_eq s.number c.args.number) _
    (λ x b f' h. search rules) _ _ c.retain.ensures.filtered

pub returns-clause-rows : goal.returns-clause-rows
returns-clause-rows g c = ap rows_of (left g c) ∙ one_alone c.args.number c.args.slots.now.items

pub returns-clause-rises : goal.returns-clause-rises
returns-clause-rises g c =
    subst (RisesFrom 0) (sym (left g c)) (rises_still (λ s. nat_eq s.number c.args.number) 0 c.args.slots.now.items c.requires)
