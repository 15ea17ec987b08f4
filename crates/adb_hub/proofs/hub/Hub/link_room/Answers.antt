use Rattle.std.proofs.Common.{ℕ, length, sym, subst, ap, ◌∙◌}
use Rattle.adb_history.specs.Kept.{Kept, IsLawful}
use Rattle.adb_history.specs.Machine.{state}
use Rattle.adb_history.specs.Rows.{State}
use Rattle.adb_hub_tables.specs.Tables.{state_of}
use Rattle.adb_hub.specs.Answers.{link_room_in, open_streams}
use Rattle.adb_hub.specs.declared.answers.Summary.{Summary}
use Rattle.adb_hub.proofs.Standing.{stands_for}
use Rattle.adb_hub.proofs.hub.Hub.link_room.Goals as goal

pub returns : goal.returns
returns c h lawful =
    let t = c.self.inside.tables in
    let is = stands_for t h c.self.invariant (subst (λ (k : Kept). IsLawful k h) (sym c.self.view_is) lawful) in
    let counted = ap (λ (s : Summary). s.streams) c.summary.ensures ∙ ap (λ (k : Kept). length k.streams.streams) lawful.seen in
    c.link_room.ensures
    ∙ (ap (λ (n : ℕ). link_room_in n ((state_of t).links c.args.link)) counted
    ∙ ap (λ (s : State). link_room_in (open_streams (state h)) (s.links c.args.link)) is)
