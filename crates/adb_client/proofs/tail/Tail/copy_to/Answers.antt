use Rattle.std.proofs.Common.{◌≡◌, ◌∙◌, ◌-◌, ◌++◌, min, ap, take, List, ℕ, length, OnOk, rules}
use Rattle.std.proofs.Common.{append_assoc}
use Rattle.std.proofs.lemmas.Result.{on_ok_weaker}
use Rattle.std.specs.List.{concat}
use Rattle.adb_client.proofs.Seams.{take_some}
use Rattle.adb_client.proofs.tail.Tail.copy_to.Goals as goal

pub returns : goal.returns
returns c =
    let front = concat c.self.inside.pieces.items in
    let gathered = c.self.inside.gathered in
    let some = c.min-some.result in
    let first : some ≡ min c.args.n (length front) = search rules in
    let held : front ++ gathered ≡ c.args.self.now = c.self.view_is in
    let pieces : c.copy_first.new.to.items ≡ c.args.to.now.items ++ take some front = search rules in
    let rest : c.first.result.now ≡ take (c.args.n - some) gathered = search rules in
    let copied : OnOk c.extend_from_slice.result
    (c.extend_from_slice.new.self.items ≡ c.copy_first.new.to.items ++ c.first.result.now) = search rules in
    let all : (c.args.to.now.items ++ take some front) ++ take (c.args.n - some) gathered
    ≡ c.args.to.now.items ++ take c.args.n c.args.self.now =
    append_assoc c.args.to.now.items (take some front) (take (c.args.n - some) gathered)
    ∙ ap (λ (l : List ℕ). c.args.to.now.items ++ l) (take_some front gathered c.args.n some first ∙ ap (take c.args.n) held)
    in
    on_ok_weaker c.extend_from_slice.result
    (λ is. is ∙ (ap (λ (l : List ℕ). l ++ c.first.result.now) pieces
    ∙ (ap (λ (l : List ℕ). (c.args.to.now.items ++ take some front) ++ l) rest ∙ all))) copied
