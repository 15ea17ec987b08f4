use Rattle.std.proofs.Common.{◌≡◌, ◌++◌, ap, min, length, rules}
use Rattle.adb_client.specs.Input.{Ahead}
use Rattle.adb_client.proofs.Seams.{take_some, drop_some}
use Rattle.adb_client.proofs.fronts.Fronts.cut.Goals as goal

pub returns-clause-piece : goal.returns-clause-piece
returns-clause-piece c =
    let one = c.self.inside.first.bytes in
    let two = c.self.inside.second.bytes in
    let some : c.min-some.result ≡ min c.args.n (length one) = search rules in
    let held : one ++ two ≡ c.args.self.now.bytes = ap (λ (a : Ahead). a.bytes) c.self.view_is in
    cc (some, held, take_some one two c.args.n c.min-some.result some)

pub returns-clause-rest : goal.returns-clause-rest
returns-clause-rest c =
    let one = c.self.inside.first.bytes in
    let two = c.self.inside.second.bytes in
    let some : c.min-some.result ≡ min c.args.n (length one) = search rules in
    let held : one ++ two ≡ c.args.self.now.bytes = ap (λ (a : Ahead). a.bytes) c.self.view_is in
    let ready : c.self.inside.ready ≡ c.args.self.now.ready = ap (λ (a : Ahead). a.ready) c.self.view_is in
    let cuts : c.self.inside.cuts ≡ c.args.self.now.cuts = ap (λ (a : Ahead). a.cuts) c.self.view_is in
    cc (some, held, ready, cuts, drop_some one two c.args.n c.min-some.result some)
