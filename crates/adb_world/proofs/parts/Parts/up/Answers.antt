use Rattle.std.proofs.Common.{ℕ, List, ◌≡◌, ◌∙◌, ap, arith, length}
use Rattle.std.specs.Prelude.{min, take}
use Rattle.adb_history.specs.Bytes.{bytes_sent, bytes_received}
use Rattle.adb_daemon.specs.Daemon.{owed}
use Rattle.adb_laws_answers.specs.Model.{model_setting}
use Rattle.adb_world.proofs.Moved.{up_moved}
use Rattle.adb_world.proofs.Open.{goes_on, linked}
use Rattle.adb_world.proofs.parts.Parts.up.Goals as goal

pub receive-requires-clause-on : goal.receive-requires-clause-on
receive-requires-clause-on c =
    let held = c.requires.held in
    goes_on held.history c.args.self.now held.holds
    (c.sessions_ask_for_services.ensures held.history held.holds.lawful.legal held.holds.asks)

pub receive-requires-clause-drawn : goal.receive-requires-clause-drawn
receive-requires-clause-drawn c = let held = c.requires.held in linked held.history c.args.self.now held.holds

pub returns-clause-moves : goal.returns-clause-moves
returns-clause-moves c h holds =
    let number : c.min-n.result ≡ min c.args.max (length (owed c.args.self.now.device)) =
    c.min-n.ensures ∙ ap (λ (x : List ℕ). min c.args.max (length x)) c.out-out.ensures in
    up_moved h c.args.self.now holds c.args.max c.receive.new.hub c.taken.new.self c.min-n.result _
    (ap (λ (x : List ℕ). take c.min-n.result x) c.out-out.ensures) number
    (λ e. omega (arith, e, c.if-n-eq0.false)) (c.in_ok-receive.ensures h holds.lawful)
    (c.taken.ensures.done model_setting (bytes_sent 1 h) (bytes_received 1 h) holds.done)
