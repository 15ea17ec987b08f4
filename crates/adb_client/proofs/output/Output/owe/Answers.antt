use Rattle.std.proofs.Common.{◌≡◌, ◌≤◌, ◌++◌, ◌∙◌, List, ℕ, ap, length, arith}
use Rattle.adb_client.specs.Output.{Outgoing}
use Rattle.adb_client.specs.Slices.{woven, own_before}
use Rattle.adb_client.proofs.Weaving.{woven_own}
use Rattle.adb_client.proofs.output.Output.owe.Goals as goal

pub returns-clause-ok : goal.returns-clause-ok
returns-clause-ok c =
    let slices = c.self.inside.slices.items in
    let own = c.self.inside.own.items in
    let bytes = c.args.bytes.now in
    let within : own_before slices ≤ length own = omega (arith, c.self.invariant.counted.own, c.self.invariant.within) in
    let due : woven slices c.extend_reserved.new.self.items ≡ woven slices own ++ bytes =
    ap (woven slices)
    (c.extend_reserved.ensures.items ∙ ap (λ (l : List ℕ). l ++ bytes) c.in_ok-reserve.ensures.items)
    ∙ woven_own slices own bytes within
    in
    (λ i. record { due = due i; spare = c.self.inside.spare; places = c.self.inside.places })
    ∙ ap (λ (o : Outgoing). record o { due = o.due ++ bytes }) c.self.view_is
