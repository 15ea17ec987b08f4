use Rattle.std.proofs.Common.{ℕ, List, ◌≡◌, ◌++◌, ◌∙◌, sym, take-append-drop}
use Rattle.adb_script.proofs.Pieces.{one_fed}
use Rattle.adb_script.proofs.whole.read_whole.Goals as goal

pub loop-rest-preserved : goal.loop-rest-preserved
loop-rest-preserved g c stands =
    let rest : List ℕ = c.loop-rest.rest.now in
    let piece : List ℕ = c.split_at.result.0.now in
    let more : List ℕ = c.split_at.result.1.now in
    let is : piece ++ more ≡ rest = (λ i. c.split_at.ensures.front i ++ c.split_at.ensures.back i) ∙ take-append-drop 65544 rest in
    one_fed g.V.PathValue.kind c.args.answer.now rest piece more c.loop-rest.ask.read c.feed_piece.new.ask.read (sym is)
    (c.loop-rest.invariant stands) c.in_ok-feed_piece.ensures
