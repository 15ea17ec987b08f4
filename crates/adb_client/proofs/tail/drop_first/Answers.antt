use Rattle.std.proofs.Common.{◌≡◌, ◌∙◌, ◌++◌, ap, drop, List, ℕ, arith}
use Rattle.std.specs.List.{concat}
use Rattle.adb_client.proofs.Pieces.{goes_in_part}
use Rattle.adb_client.proofs.tail.drop_first.Goals as goal

pub returns-then-len-n-clause-goes : goal.returns-then-len-n-clause-goes
returns-then-len-n-clause-goes c =
    let old = concat c.args.pieces.now.items in
    let rest = concat c.pop_front.new.self.items in
    let piece : List ℕ = c.in-Some.piece in
    let is : old ≡ piece ++ rest = ap concat c.in-Some.ensures.items in
    let cut : c.advance.new.self ≡ drop c.args.n piece = c.advance.ensures in
    let now : concat c.push_front_reserved.new.self.items ≡ drop c.args.n piece ++ rest =
    ap concat c.push_front_reserved.ensures.items ∙ ap (λ (l : List ℕ). l ++ rest) cut
    in
    goes_in_part old piece rest c.args.n is (concat c.push_front_reserved.new.self.items)
    (omega (arith, c.len.ensures.value, c.if-len-n.true)) now
