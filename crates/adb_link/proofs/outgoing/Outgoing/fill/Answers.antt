use Rattle.std.proofs.Common.{rules, ◌≡◌, ◌-◌, ◌++◌, ◌∙◌, ap, ℕ, List, take, drop}
use Rattle.std.proofs.lemmas.Result.{on_ok_weaker}
use Rattle.adb_link.proofs.Filling.{filled, filled_both}
use Rattle.adb_link.proofs.outgoing.Outgoing.fill.Goals as goal

pub returns : goal.returns
returns c =
    let own = c.self.inside in
    let text = c.args.text.now in
    let max = c.args.max in
    let one = c.parts-payload.result.start.now in
    let two = c.parts-payload.result.rest.now in
    let start : List ℕ = take (own.to - own.from) (drop own.from own.start) in
    let first : c.fill_up.new.text ≡ filled text max start = search rules in
    let second : c.fill_up-2.new.text ≡ filled (filled text max start) max one = search rules in
    let all : start ++ (one ++ two) ≡ c.args.self.now = search rules in
    let both = filled_both (filled text max start) one two max ∙ (filled_both text start (one ++ two) max
    ∙ ap (λ (bytes : List ℕ). filled text max bytes) all) in
    on_ok_weaker c.fill_up-3.result (λ is. is ∙ (ap (λ (t : List ℕ). filled t max two) second ∙ both)) c.fill_up-3.ensures
