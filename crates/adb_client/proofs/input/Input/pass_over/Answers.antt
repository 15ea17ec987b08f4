use Rattle.std.proofs.Common.{◌≡◌, ◌∙◌, ◌-◌, ◌++◌, List, ℕ, ap, drop, min, length, rules, arith}
use Rattle.adb_client.specs.Input.{Incoming, Ahead}
use Rattle.adb_client.proofs.Seams.{drop_some}
use Rattle.adb_client.proofs.input.Input.pass_over.Goals as goal

pub returns : goal.returns
returns c =
    let i = c.self.inside in
    let one = i.fronts.bytes in
    let n = c.args.n in
    let some = c.min-some.result in
    let is : some ≡ min n (length one) = search rules in
    let front : c.advance.new.self.bytes ≡ drop some one = ap (λ (a : Ahead). a.bytes) c.advance.ensures.rest in
    let ready : c.advance.new.self.ready ≡ i.fronts.ready - n =
    ap (λ (a : Ahead). a.ready) c.advance.ensures.rest ∙ omega (arith, is, c.advance.ensures.within) in
    let cuts : c.advance.new.self.cuts ≡ i.fronts.cuts = ap (λ (a : Ahead). a.cuts) c.advance.ensures.rest in
    let held = ap (λ (l : List ℕ). l ++ c.advance-2.new.self) front
    ∙ (ap (λ (l : List ℕ). drop some one ++ l) c.advance-2.ensures ∙ drop_some one i.rest n some is) in
    let made : List ℕ → ℕ → ℕ → Incoming = λ l m k. record { held = l; ready = m; cuts = k } in
    let after : Incoming → Incoming = λ a. record { held = drop n a.held; ready = a.ready - n; cuts = a.cuts } in
    c.give_back.ensures
    ∙ (ap (λ (l : List ℕ). made l c.advance.new.self.ready c.advance.new.self.cuts) held
    ∙ (ap (λ (m : ℕ). made (drop n (one ++ i.rest)) m c.advance.new.self.cuts) ready
    ∙ (ap (made (drop n (one ++ i.rest)) (i.fronts.ready - n)) cuts ∙ ap after c.self.view_is)))
