use Rattle.std.proofs.Common.{◌≡◌, ◌∙◌, ◌-◌, ◌++◌, min, ap, take, List, ℕ, length, OnOk, rules}
use Rattle.std.proofs.Common.{append_assoc}
use Rattle.std.proofs.lemmas.Result.{on_ok_weaker}
use Rattle.adb_client.specs.Input.{Ahead}
use Rattle.adb_client.proofs.Seams.{take_some}
use Rattle.adb_client.proofs.fronts.Fronts.copy_to.Goals as goal

pub returns : goal.returns
returns c =
    let one = c.self.inside.first.bytes in
    let two = c.self.inside.second.bytes in
    let to = c.args.to.now.items in
    let some = c.min-some.result in
    let is : some ≡ min c.args.n (length one) = search rules in
    let held : one ++ two ≡ c.args.self.now.bytes = ap (λ (a : Ahead). a.bytes) c.self.view_is in
    let front : c.extend_from_slice.new.self.items ≡ to ++ take some one = search rules in
    let rest : c.first-2.result.now ≡ take (c.args.n - some) two = search rules in
    let copied : OnOk c.extend_from_slice-2.result
    (c.extend_from_slice-2.new.self.items ≡ c.extend_from_slice.new.self.items ++ c.first-2.result.now) = search rules in
    let all : (to ++ take some one) ++ take (c.args.n - some) two ≡ to ++ take c.args.n c.args.self.now.bytes =
    append_assoc to (take some one) (take (c.args.n - some) two)
    ∙ ap (λ (l : List ℕ). to ++ l) (take_some one two c.args.n some is ∙ ap (take c.args.n) held)
    in
    on_ok_weaker c.extend_from_slice-2.result
    (λ done. done ∙ (ap (λ (l : List ℕ). l ++ c.first-2.result.now) front
    ∙ (ap (λ (l : List ℕ). (to ++ take some one) ++ l) rest ∙ all))) copied
