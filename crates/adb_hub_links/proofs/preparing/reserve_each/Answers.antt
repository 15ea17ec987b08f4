use Rattle.std.proofs.Common.{ℕ, List, sym, ◌∙◌, subst}
use Rattle.adb_hub_links.proofs.Preparations.{AreServed, served_none, served_one}
use Rattle.adb_hub_links.proofs.preparing.reserve_each.Goals as goal

pub loop-client-init : goal.loop-client-init
loop-client-init c =
    let counts = c.args.counts.now.entries in
    let old = c.args.clients.now.entries in
    let all = c.into_iter-client-iterator.ensures.into_iter_gives ∙ c.iter-client-items.ensures.rest in
    subst (λ (left : List (ℕ × ℕ)). AreServed counts left old old) (sym all)
    (served_none counts old c.iter-client-items.ensures.found c.requires)

pub loop-client-preserved : goal.loop-client-preserved
loop-client-preserved c =
    let counts = c.args.counts.now.entries in
    let old = c.args.clients.now.entries in
    let before = subst (λ (left : List (ℕ × ℕ)). AreServed counts left old c.loop-client.clients.entries)
    c.in-Some.ensures.steps c.loop-client.invariant in
    served_one c.in-Some.client.now c.in-Some.count.now before c.reserve_slices.ensures.widens c.in_ok-reserve_slices.ensures.room
