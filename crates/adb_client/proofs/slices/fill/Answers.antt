use Rattle.std.proofs.Common.{◌≡◌, ◌≤◌, ◌<◌, ◌-◌, ◌++◌, ◌∙◌, ap, List, ℕ, length, take, drop, rules}
use Rattle.std.proofs.lemmas.Result.{on_ok_weaker}
use Rattle.adb_client.proofs.Filling.{filled_all, filled_more}
use Rattle.adb_client.proofs.slices.fill.Goals as goal

pub loop-i-preserved : goal.loop-i-preserved
loop-i-preserved c =
    let slices = c.args.slices.now.items in
    let own = c.args.own.now in
    let slice = c.index-slice.result.now in
    let here : c.loop-i.i < length slices = search rules in
    let more = filled_more slices own c.args.max c.loop-i.i c.loop-i.text c.loop-i.left.now c.loop-i.invariant slice
    here c.index-slice.ensures in
    let own_text : c.fill_up.new.text ≡ c.loop-i.text ++ take (c.args.max - length c.loop-i.text)
    (take slice.before c.loop-i.left.now) = search rules in
    let text : c.fill_up-in-loop-i.new.text ≡ c.fill_up.new.text
    ++ take (c.args.max - length c.fill_up.new.text) slice.bytes = search rules in
    let left : c.behind-left.result.now ≡ drop slice.before c.loop-i.left.now = c.behind-left.ensures in
    let all = text ∙ ap (λ (t : List ℕ). t ++ take (c.args.max - length t) slice.bytes) own_text in
    rw (left, all) more

pub returns : goal.returns
returns c =
    let slices = c.args.slices.now.items in
    let last : length slices ≤ c.loop-i.i = search rules in
    let all = filled_all slices c.args.own.now c.args.max c.loop-i.i c.loop-i.text c.loop-i.left.now c.loop-i.invariant last in
    on_ok_weaker c.fill_up-2.result (λ is. is ∙ all) c.fill_up-2.ensures
