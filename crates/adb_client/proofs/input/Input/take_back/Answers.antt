use Rattle.std.proofs.Common.{◌≡◌, ◌∙◌, ◌-◌, ◌++◌, List, ℕ, ap, sym, take, length, rules}
use Rattle.adb_client.specs.Input.{Incoming, Ahead}
use Rattle.adb_client.proofs.Seams.{take_both}
use Rattle.adb_client.proofs.input.Input.take_back.Goals as goal

pub returns : goal.returns
returns c =
    let one = c.self.inside.fronts.bytes in
    let rest = c.self.inside.rest in
    let left : ℕ = c.len.result - c.args.n in
    let back : c.saturating_sub.result ≡ left - length one = search rules in
    let behind : c.truncate.new.self ≡ take (left - length one) rest = c.truncate.ensures ∙ ap (λ (m : ℕ). take m rest) back in
    let made : Ahead → List ℕ → Incoming = λ a l. record { held = a.bytes ++ l; ready = a.ready; cuts = a.cuts } in
    let whole : List ℕ → Incoming = λ l. record { held = l; ready = 0; cuts = 0 } in
    let after : Incoming → Incoming = λ a. whole (take (length a.held - c.args.n) a.held) in
    ap (λ (a : Ahead). made a c.truncate.new.self) c.truncate-2.ensures
    ∙ (ap (λ (l : List ℕ). whole (take left one ++ l)) behind
    ∙ (ap whole (sym (take_both one rest left))
    ∙ (ap (λ (m : ℕ). whole (take (m - c.args.n) (one ++ rest)))
    (c.len.ensures.value ∙ sym (ap (λ (a : Incoming). length a.held) c.self.view_is))
    ∙ ap after c.self.view_is)))
