use Rattle.std.proofs.Common.{rules, ℕ, ◌≡◌, ◌-◌, ◌∙◌, ap, min, take, length, List, ◌++◌}
use Rattle.adb_script.specs.Pattern.{pattern}
use Rattle.adb_script.proofs.Patterns.{Grown, grows}
use Rattle.adb_script.proofs.sent.pattern.Goals as goal

pub loop-period-preserved : goal.loop-period-preserved
loop-period-preserved c =
    let old : List ℕ = c.loop-period.bytes.items in
    let new : List ℕ = c.extend_from_slice.new.self.items in
    let n : ℕ = c.min-n.result in
    let grown : Grown c.args.shift c.args.size old =
    record { within = c.loop-period.invariant.within; whole = c.loop-period.invariant.whole } in
    let is : n ≡ min 251 (c.args.size - length old) = search (rules) in
    let further : new ≡ old ++ take n (pattern c.args.shift 251) =
    c.in_ok-extend_from_slice.ensures.items ∙ ap (λ (bs : List ℕ). old ++ take n bs) c.period-period.ensures in
    let next = grows c.args.shift c.args.size n old new is further grown in
    record { within = next.within; whole = next.whole }
