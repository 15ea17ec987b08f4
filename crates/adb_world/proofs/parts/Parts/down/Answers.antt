use Rattle.std.specs.Prelude.{ℕ, List, Option}
use Rattle.std.proofs.Common.{inl, inr, refl, subst}
use Rattle.adb_device_streams.proofs.Syncing.{at_err}
use Rattle.adb_capture.specs.declared.entry.Entry.TheVariants.{Send}
use Rattle.adb_history.specs.Bytes.{bytes_sent, bytes_received}
use Rattle.adb_history.specs.Machine.{state}
use Rattle.adb_hub.specs.Answers.{due_on}
use Rattle.adb_world.specs.Calls.{HasTaken}
use Rattle.adb_world.proofs.Moved.{down_cut, down_takes, down_moved}
use Rattle.adb_world.proofs.Open.{linked}
use Rattle.adb_world.proofs.parts.Parts.down.Goals as goal

pub send-requires-clause-drawn : goal.send-requires-clause-drawn
send-requires-clause-drawn c = let held = c.requires.held in linked held.history c.args.self.now held.holds

pub feed-requires : goal.feed-requires
feed-requires c =
    let h = c.requires.held.history in
    let holds = c.requires.held.holds in
    let out = subst
    (λ (o : Option (List ℕ)). HasTaken (Send 1) c.args.max (due_on ((state h).links 1)) o h c.args.self.now.hub
    c.send.new.hub)
    c.in-Some.is (c.in_ok-piece.ensures h holds.lawful) in
    down_takes h c.args.self.now holds c.args.max c.send.new.hub c.in-Some.piece out c.what_a_server_sends_is_taken.ensures

pub returns-clause-moves : goal.returns-clause-moves
returns-clause-moves c h holds =
    let out = subst
    (λ (o : Option (List ℕ)). HasTaken (Send 1) c.args.max (due_on ((state h).links 1)) o h c.args.self.now.hub
    c.send.new.hub)
    c.in-Some.is (c.in_ok-piece.ensures h holds.lawful) in
    let done = c.in_ok-feed.ensures.done (bytes_sent 1 h) (bytes_received 1 h) holds.done in
    down_moved h c.args.self.now holds c.args.max c.send.new.hub c.in-Some.piece out c.feed.new.device done

pub returns-in_err-piece-clause-fails : goal.returns-in_err-piece-clause-fails
returns-in_err-piece-clause-fails c = at_err _ c.from_residual.result (inl refl)

pub returns-in_err-feed-clause-fails : goal.returns-in_err-feed-clause-fails
returns-in_err-feed-clause-fails c = at_err _ c.from_residual-in_err-feed.result (inr (λ h holds.
    let out = subst
    (λ (o : Option (List ℕ)). HasTaken (Send 1) c.args.max (due_on ((state h).links 1)) o h c.args.self.now.hub
    c.send.new.hub)
    c.in-Some.is (c.in_ok-piece.ensures h holds.lawful) in
    down_cut h c.args.self.now holds c.args.max c.send.new.hub c.in-Some.piece out _
    (c.in_err-feed.ensures.cut (bytes_sent 1 h) (bytes_received 1 h) holds.done)))
