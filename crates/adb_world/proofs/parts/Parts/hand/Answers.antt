use Rattle.std.specs.Prelude.{ℕ, List, Option}
use Rattle.std.proofs.Common.{refl, subst}
use Rattle.adb_capture.specs.declared.entry.Entry.TheVariants.{Put}
use Rattle.adb_history.specs.Machine.{state}
use Rattle.adb_hub.specs.Answers.{offered_to}
use Rattle.adb_world.specs.Calls.{HasTaken}
use Rattle.adb_world.proofs.Moved.{hand_moved}
use Rattle.adb_world.proofs.Open.{there_drawn}
use Rattle.adb_world.proofs.parts.Parts.hand.Goals as goal

pub put-requires-clause-drawn : goal.put-requires-clause-drawn
put-requires-clause-drawn c =
    let held = c.requires.held in there_drawn held.history c.args.self.now held.holds c.args.number c.requires.there

pub returns-clause-moves : goal.returns-clause-moves
returns-clause-moves c h holds =
    let n = c.args.number in
    let out = subst (λ (o : Option (List ℕ)). HasTaken (Put n) c.args.max (offered_to (state h).devices ((state h).clients n)) o h
    c.args.self.now.hub c.put.new.hub) c.in-Some.is (c.in_ok-piece.ensures h holds.lawful) in
    hand_moved h c.args.self.now holds c.args.max c.put.new.hub n c.in-Some.piece _ out refl refl refl c.in_ok-keep.ensures
