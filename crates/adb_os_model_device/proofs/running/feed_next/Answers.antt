use Rattle.std.proofs.Common.{◌∙◌, ℕ, List, [], ◌∷◌, ◌++◌, Err, sym, ap}
use Rattle.adb_os_model_device.proofs.Turns.{goes_on, feeds_well, feeds_badly, ends_here, is_lost}
use Rattle.adb_os_model_device.proofs.running.feed_next.Goals as goal

pub returns-in-Ok : goal.returns-in-Ok
returns-in-Ok g c = λ output.
    let before = c.args.input.now in
    feeds_well c.args.daemon.now before output c.as_slice.result.now c.feed.new.self c.take.new.self c.feed.result
    (c.in-Chunk.ensures.1 ∙ ap (λ (b : List ℕ). record before { taken = before.taken ++ b ∷ [] }) (sym c.as_slice.ensures))
    (c.feed.ensures.whole (λ out. goes_on c.in-Ok.field-0 (sym c.in-Ok.is ∙ out)))

pub returns-in-Chunk : goal.returns-in-Chunk
returns-in-Chunk g c = λ output.
    let before = c.args.input.now in
    feeds_badly c.args.daemon.now before output c.as_slice.result.now c.in-Err.error c.feed.new.self c.take.new.self
    c.feed.result c.in-Err.is
    (c.in-Chunk.ensures.1 ∙ ap (λ (b : List ℕ). record before { taken = before.taken ++ b ∷ [] }) (sym c.as_slice.ensures))
    c.feed.ensures.whole c.feed.ensures.front

pub returns-in-End : goal.returns-in-End
returns-in-End g c = λ output.
    ends_here c.args.daemon.now c.args.input.now output c.take.new.self c.requires c.in-End.ensures.0 c.in-End.ensures.1

pub returns : goal.returns
returns g c = λ output. is_lost c.args.daemon.now c.args.input.now output c.take.new.self c.requires c.in-Lost.ensures
