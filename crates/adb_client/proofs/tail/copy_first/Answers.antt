use Rattle.std.proofs.Common.{◌≡◌, ◌<◌, ◌+◌, ◌-◌, ◌++◌, min, take, List, ℕ, length, subst, sym, rules}
use Rattle.adb_client.proofs.Pieces.{IsCopied, copied_more}
use Rattle.adb_client.proofs.tail.copy_first.Goals as goal

pub loop-i-preserved : goal.loop-i-preserved
loop-i-preserved c =
    let pieces = c.args.pieces.now.items in
    let before = c.args.to.now.items in
    let now = c.loop-i.to.items in
    let piece : List ℕ = c.index.result.now in
    let here : c.loop-i.i < length pieces = search rules in
    let most : c.min-some.result ≡ min c.loop-i.left (length piece) = search rules in
    let more = copied_more pieces before c.args.n c.loop-i.i now c.loop-i.left c.loop-i.invariant piece
    c.min-some.result here c.index.ensures most in
    let copied : c.extend_from_slice.new.self.items ≡ now ++ take c.min-some.result piece = search rules in
    subst (λ (l : List ℕ). IsCopied pieces before c.args.n (c.loop-i.i + 1) l (c.loop-i.left - c.min-some.result)) (sym copied) more
