use Rattle.std.proofs.Common.{◌≡◌, ◌-◌, ◌++◌, ap, ◌∙◌, take, min, length, rules}
use Rattle.adb_client.specs.Input.{Incoming}
use Rattle.adb_client.proofs.Seams.{take_some}
use Rattle.adb_client.proofs.input.Input.joined.Goals as goal

pub returns : goal.returns
returns c =
    let some : c.min-some.result ≡ min c.args.n (length c.self.inside.fronts.bytes) = search rules in
    let all : c.in_ok-from_vec.field-0 ≡ take c.min-some.result c.self.inside.fronts.bytes
    ++ take (c.args.n - c.min-some.result) c.self.inside.rest =
    search rules
    in
    all ∙ (take_some c.self.inside.fronts.bytes c.self.inside.rest c.args.n c.min-some.result some
    ∙ ap (λ (i : Incoming). take c.args.n i.held) c.self.view_is)
