use Rattle.std.proofs.Common.{◌∙◌, ap}
use Rattle.adb_history.specs.Handing.{sends}
use Rattle.adb_hub_tables.specs.Tables.{state_of}
use Rattle.adb_laws_resting.proofs.Turns.{sent}
use Rattle.adb_hub_hand_outs.proofs.sends.send.Goals as goal

pub returns-clause-made : goal.returns-clause-made
returns-clause-made c =
    let old = c.args.tables.now in
    let state = c.hand_link.ensures.state ∙ ap (λ n. sends c.args.link n (state_of old)) c.len.ensures in
    sent old c.hand_link.new.tables c.requires.fit c.requires.reached c.hand_link.ensures.uses c.args.link c.in_ok-bytes.bytes state
