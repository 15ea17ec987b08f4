use Rattle.std.proofs.Common.{◌≡◌, ◌∙◌, ◌-◌, ◌++◌, ap, take, List, ℕ, length, arith}
use Rattle.std.specs.List.{concat}
use Rattle.adb_client.proofs.Pieces.{concat_last, before_it, goes_whole, stays_in_part}
use Rattle.adb_client.proofs.tail.drop_last.Goals as goal

pub overflow_sub-before : goal.overflow_sub-before
overflow_sub-before c =
    let old = concat c.args.pieces.now.items in
    let front = concat c.pop_back.new.self.items in
    let is : old ≡ front ++ c.in-Some.piece = ap concat c.in-Some.ensures.items ∙ concat_last c.pop_back.new.self.items c.in-Some.piece in
    omega (arith, c.len.ensures.value, before_it old front c.in-Some.piece c.args.n c.args.len is c.requires.counted)

pub returns-then-before-n-clause-kept : goal.returns-then-before-n-clause-kept
returns-then-before-n-clause-kept c =
    let old = concat c.args.pieces.now.items in
    let front = concat c.pop_back.new.self.items in
    let piece : List ℕ = c.in-Some.piece in
    let stay = c.args.n - (c.args.len - length piece) in
    let is : old ≡ front ++ piece = ap concat c.in-Some.ensures.items ∙ concat_last c.pop_back.new.self.items piece in
    let cut : c.truncate.new.self ≡ take stay piece =
    c.truncate.ensures ∙ ap (λ (k : ℕ). take (c.args.n - (c.args.len - k)) piece) c.len.ensures.value
    in
    let now : concat c.push_back_reserved.new.self.items ≡ front ++ take stay piece =
    ap concat c.push_back_reserved.ensures.items
    ∙ (concat_last c.pop_back.new.self.items c.truncate.new.self ∙ ap (λ (l : List ℕ). front ++ l) cut)
    in
    stays_in_part old front piece c.args.n c.args.len is c.requires.counted (concat c.push_back_reserved.new.self.items) c.requires.more
    (omega (arith, c.len.ensures.value, c.if-before-n.true)) now

pub returns-clause-kept : goal.returns-clause-kept
returns-clause-kept c =
    let old = concat c.args.pieces.now.items in
    let front = concat c.pop_back.new.self.items in
    let is : old ≡ front ++ c.in-Some.piece = ap concat c.in-Some.ensures.items ∙ concat_last c.pop_back.new.self.items c.in-Some.piece in
    rw c.len.ensures.value
    (goes_whole old front c.in-Some.piece c.args.n c.args.len is c.requires.counted
    (omega (arith, c.len.ensures.value)))
