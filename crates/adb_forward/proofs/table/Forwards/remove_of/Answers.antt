use Rattle.std.proofs.Common.{◌==◌, ◌≡◌, not, filter, arith, rules}
use Rattle.adb_forward.specs.Forwards.{IsRow}
use Rattle.std.proofs.lemmas.List.Elements.{All-filter}
use Rattle.std.proofs.lemmas.Map.Made.{filter_same_pairs}
use Rattle.adb_forward.proofs.table.Forwards.remove_of.Goals as goal

-- the closure only tests, so what is kept is a filter
kept : (c : goal.After-retain) → c.retain.new.self.entries ≡ filter
    (λ entry. not (entry.1.transport == c.args.transport)) c.self.inside.rows.entries
kept c =
    filter_same_pairs _ (λ entry. not (entry.1.transport == c.args.transport)) _ (λ k v b w f' t. search rules) _ _
    c.retain.ensures.filtered

pub returns-clause-after : goal.returns-clause-after
returns-clause-after c = rw (← c.self.view_is) (kept c)

pub invariant_of-self : goal.invariant_of-self
invariant_of-self c = record {
  rising = c.retain.ensures.ordered;
  room = omega arith;
  rows = rw (kept c) (All-filter _ (λ entry. IsRow entry.0 entry.1) _ c.self.invariant.rows);
}

pub returns-clause-table : goal.returns-clause-table
returns-clause-table c = invariant_of-self c
