use Rattle.std.proofs.Common.{rules, ◌≡◌, ◌≤◌, ◌-◌, ◌+◌, ◌++◌, ◌∙◌, ap, ℕ, List, length, take, drop, arith}
use Rattle.adb_link.proofs.Filling.{first_of_front}
use Rattle.adb_link.proofs.outgoing.Outgoing.share.Goals as goal

pub returns : goal.returns
returns c =
    let own = c.self.inside in
    let n = c.args.n in
    let front = c.first-slice.result.now in
    let start : List ℕ = take (own.to - own.from) (drop own.from own.start) in
    let within : n ≤ length start + length front = omega (arith, c.if-n-start.false, c.len.ensures.value) in
    let both = first_of_front start own.payload front n c.first-slice.ensures within in
    let first : c.first-start.result.now ≡ take n start = c.first-start.ensures in
    let shared : c.in_ok-payload.payload ≡ take (n - length (take n start)) front =
    c.in_ok-payload.ensures ∙ ap (λ (l : List ℕ). take (n - length l) front) first in
    let out = c.framed.ensures ∙ (ap (λ (l : List ℕ). l ++ c.in_ok-payload.payload) first
    ∙ (ap (λ (l : List ℕ). take n start ++ l) shared ∙ (both.1 ∙ ap (take n) c.self.view_is))) in
    (omega (arith, both.0, ap length c.self.view_is), out)
