use Rattle.std.proofs.Common.{ℕ, List, ◌<◌, ◌^◌, subst, sym, ◌∙◌, arith}
use Rattle.std.proofs.lemmas.Bool.Decides.{nat_tests}
use Rattle.adb_hub_tables.specs.declared.words.Block.{Block}
use Rattle.adb_hub_tables.proofs.FirstMark.{Left, left_behind, first_block, place_fits}
use Rattle.adb_hub_tables.proofs.words.first.Goals as goal

pub overflow_mul-result : goal.overflow_mul-result
overflow_mul-result c =
    let left = subst (λ (left : List (ℕ × Block)). Left c.args.which c.args.marks.now.entries left)
    c.in-Some.ensures.steps c.loop-high.invariant in
    omega (arith, (first_block (c.in-Some.high.now, c.in-Some.block.now) c.next.new.self left.blocks).within)

pub overflow_add-result : goal.overflow_add-result
overflow_add-result c =
    let left = subst (λ (left : List (ℕ × Block)). Left c.args.which c.args.marks.now.entries left)
    c.in-Some.ensures.steps c.loop-high.invariant in
    let it = first_block (c.in-Some.high.now, c.in-Some.block.now) c.next.new.self left.blocks in
    let fits = subst (λ w. w < 2 ^ 64) (sym c.marks-word.ensures) (it.fits c.args.which) in
    omega (arith, place_fits c.in-Some.high.now c.marks-word.result it.within (grind (arith, nat_tests, c.if-word-ne0.true)) fits)

pub loop-high-preserved : goal.loop-high-preserved
loop-high-preserved c =
    let left = subst (λ (left : List (ℕ × Block)). Left c.args.which c.args.marks.now.entries left)
    c.in-Some.ensures.steps c.loop-high.invariant in
    let none = sym c.marks-word.ensures ∙ c.if-word-ne0.false in
    left_behind c.args.which c.args.marks.now.entries (c.in-Some.high.now, c.in-Some.block.now) c.next.new.self none left
