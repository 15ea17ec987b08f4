use Rattle.std.proofs.Common.{length, sym, ◌∙◌, ap, ◌+◌, ◌-◌}
use Rattle.adb_link.proofs.Packets.{left_len}
use Rattle.adb_link.proofs.outgoing.Outgoing.len.Goals as goal

pub returns : goal.returns
returns c =
    let i = c.self.inside in
    ap (λ n. (i.to - i.from) + n) c.len.ensures
    ∙ (sym (left_len i.start i.from i.to i.payload c.self.invariant) ∙ ap length c.self.view_is)
