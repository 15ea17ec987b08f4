use Rattle.std.proofs.Common.{◌≡◌, ◌∙◌, ◌-◌, ◌++◌, min, ap, drop, List, ℕ, length, rules}
use Rattle.std.specs.List.{concat}
use Rattle.adb_client.proofs.Seams.{drop_some}
use Rattle.adb_client.proofs.tail.Tail.advance.Goals as goal

pub returns : goal.returns
returns c =
    let front = concat c.self.inside.pieces.items in
    let gathered = c.self.inside.gathered in
    let some = c.min-some.result in
    let first : some ≡ min c.args.n (length front) = search rules in
    let held : front ++ gathered ≡ c.args.self.now = c.self.view_is in
    let gone : concat c.pass_over.new.pieces.items ≡ drop some front = c.pass_over.ensures in
    let rest : c.advance.new.self ≡ drop (c.args.n - some) gathered = c.advance.ensures in
    ap (λ (l : List ℕ). l ++ c.advance.new.self) gone
    ∙ (ap (λ (l : List ℕ). drop some front ++ l) rest ∙ (drop_some front gathered c.args.n some first ∙ ap (drop c.args.n) held))
