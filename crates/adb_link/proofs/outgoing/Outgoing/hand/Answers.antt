use Rattle.std.proofs.Common.{◌∙◌, ap, drop, ◌+◌}
use Rattle.adb_link.specs.Outgoing.{left_of}
use Rattle.adb_link.proofs.Packets.{left_after}
use Rattle.adb_link.proofs.outgoing.Outgoing.hand.Goals as goal

pub returns : goal.returns
returns c =
    let i = c.self.inside in
    let k = c.min-of_start.result in
    ap (left_of i.start (i.from + k) i.to) c.advance.ensures
    ∙ (left_after i.start i.from i.to i.payload c.args.n k c.self.invariant c.min-of_start.ensures ∙ ap (drop c.args.n) c.self.view_is)
