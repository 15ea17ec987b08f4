use Rattle.std.proofs.Common.{◌≡◌, ◌∙◌, ◌-◌, ◌++◌, List, ℕ, ap, drop, min, length, rules}
use Rattle.adb_client.specs.Input.{Ahead, Handled}
use Rattle.adb_client.proofs.Seams.{drop_some}
use Rattle.adb_client.proofs.fronts.Fronts.advance.Goals as goal

pub returns-clause-rest : goal.returns-clause-rest
returns-clause-rest c =
    let i = c.self.inside in
    let one = i.first.bytes in
    let two = i.second.bytes in
    let n = c.args.n in
    let some = c.min-some.result in
    let is : some ≡ min n (length one) = search rules in
    let front : c.advance.new.self.bytes ≡ drop some one = ap (λ (f : Handled). f.bytes) c.advance.ensures in
    let back : c.advance-2.new.self.bytes ≡ drop (n - some) two = ap (λ (f : Handled). f.bytes) c.advance-2.ensures in
    let bytes = c.move_up.ensures.bytes ∙ (ap (λ (l : List ℕ). l ++ c.advance-2.new.self.bytes) front
    ∙ (ap (λ (l : List ℕ). drop some one ++ l) back ∙ drop_some one two n some is)) in
    let left : c.saturating_sub-self-inside.result ≡ i.ready - n = search rules in
    let made : List ℕ → ℕ → Ahead = λ l m. record { bytes = l; ready = m; cuts = i.cuts } in
    let after : Ahead → Ahead = λ a. record { bytes = drop n a.bytes; ready = a.ready - n; cuts = a.cuts } in
    ap (λ (l : List ℕ). made l c.saturating_sub-self-inside.result) bytes ∙ (ap (made (drop n (one ++ two))) left ∙ ap after c.self.view_is)
