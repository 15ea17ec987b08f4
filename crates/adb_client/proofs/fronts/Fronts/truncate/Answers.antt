use Rattle.std.proofs.Common.{◌≡◌, ◌∙◌, ◌-◌, ◌++◌, List, ℕ, ap, sym, take, length, rules}
use Rattle.adb_client.specs.Input.{Ahead, Handled}
use Rattle.adb_client.proofs.Seams.{take_both}
use Rattle.adb_client.proofs.fronts.Fronts.truncate.Goals as goal

pub returns : goal.returns
returns c =
    let one = c.self.inside.first.bytes in
    let two = c.self.inside.second.bytes in
    let n = c.args.n in
    let left = c.saturating_sub.result in
    let is : left ≡ n - length one = search rules in
    let back : c.truncate.new.self.bytes ≡ take left two = ap (λ (f : Handled). f.bytes) c.truncate.ensures in
    let front : c.truncate-2.new.self.bytes ≡ take n one = ap (λ (f : Handled). f.bytes) c.truncate-2.ensures in
    let bytes = ap (λ (l : List ℕ). l ++ c.truncate.new.self.bytes) front
    ∙ (ap (λ (l : List ℕ). take n one ++ l) (back ∙ ap (λ (m : ℕ). take m two) is) ∙ sym (take_both one two n)) in
    let made : List ℕ → Ahead = λ l. record { bytes = l; ready = 0; cuts = 0 } in
    ap made bytes ∙ ap (λ (a : Ahead). made (take n a.bytes)) c.self.view_is
