use Rattle.std.proofs.Common.{◌≡◌, sym, ◌∙◌, ap, subst}
use Rattle.adb_remote_words.specs.Held.{HeldFrames}
use Rattle.adb_remote_words.specs.Reading.{ReadsFrames}
use Rattle.adb_remote_words.proofs.Gathering.{held_of, reads}
use Rattle.adb_remote_words.proofs.frames.Frames.feed.Goals as goal

pub returns : goal.returns
returns c = λ none sound.
    let told = c.in_ok-fault.ensures.ok in
    let old : HeldFrames = held_of c.self.inside.framer c.self.inside.told in
    let view : old ≡ c.args.self.now = c.self.view_is in
    subst (λ (f : HeldFrames). ReadsFrames c.args.job.now f c.args.piece.now c.or_fault.result c.gather.new.self) view
    (rw c.or_fault.ensures
    (reads c.args.job.now old c.gather.new.self c.args.piece.now c.in_ok-step.step c.feed.new.self c.in_ok-fault.fault
    (ap (λ (f : HeldFrames). f.cut.given) view ∙ none) (ap (λ (f : HeldFrames). f.cut.fault) view ∙ sound)
    (c.feed.ensures.taken told.0).held (sym told.1 ∙ c.feed.ensures.answer told.0) c.in_ok-step.ensures))
