use Rattle.std.proofs.Common.{◌≡◌, ◌∙◌, ◌-◌, ◌≤◌, ◌++◌, List, ℕ, ap, take, drop, length, length-take, rules, arith}
use Rattle.adb_client.specs.Input.{Incoming, Ahead}
use Rattle.adb_client.proofs.Seams.{take_drop}
use Rattle.adb_client.proofs.input.Input.hold_cuts.Goals as goal

pub returns-clause-ok : goal.returns-clause-ok
returns-clause-ok c =
    let i = c.self.inside in
    let one = i.fronts.bytes in
    let ready = c.args.ready in
    let held : one ++ i.rest ≡ c.args.self.now.held = ap (λ (a : Incoming). a.held) c.self.view_is in
    let all : c.in_ok-all.all ≡ take ready (one ++ i.rest) = search rules in
    let more : length one ≤ ready = omega arith in
    let within : ready ≤ length (one ++ i.rest) = omega (arith, ap length held, c.requires.within) in
    let size : length (take ready (one ++ i.rest)) ≡ ready = omega (arith, length-take ready (one ++ i.rest), within) in
    let rest : c.advance.new.self ≡ drop (ready - length one) i.rest = search rules in
    let made : Ahead → List ℕ → Incoming = λ a l. record { held = a.bytes ++ l; ready = a.ready; cuts = a.cuts } in
    let front : List ℕ → Ahead = λ l. record { bytes = l; ready = length l; cuts = c.args.cuts } in
    let whole : List ℕ → ℕ → Incoming = λ l m. record { held = l; ready = m; cuts = c.args.cuts } in
    let both = take_drop one i.rest ready more in
    ap (λ (a : Ahead). made a c.advance.new.self) (c.in_ok-fronts.ensures ∙ ap front all)
    ∙ (ap (made (front (take ready (one ++ i.rest)))) rest
    ∙ (ap (λ (l : List ℕ). whole l (length (take ready (one ++ i.rest)))) both
    ∙ (ap (whole (one ++ i.rest)) size ∙ ap (λ (l : List ℕ). whole l ready) held)))
