use Rattle.std.proofs.Common.{ℕ, ◌+◌, ◌-◌, ◌*◌, ◌^◌, ◌≤◌, ◌≡◌, ◌∙◌, ap, sym, arith, get_or, take}
use Rattle.adb_outside.specs.Decimal.{digits_value}
use Rattle.std.proofs.lemmas.Grind.{pow_more}
use Rattle.std.proofs.lemmas.List.Sums.{fold_more}
use Rattle.adb_outside.proofs.decimal.value_of.Goals as goal

-- a further digit keeps the bound
bound_more : (v x p q : ℕ) → v + 23 ≤ 23 * p → x ≤ 207 → q ≡ p * 10 → 10 * v + x + 23 ≤ 23 * q
bound_more v x p q h m e = omega arith

pub loop-digit-preserved : goal.loop-digit-preserved
loop-digit-preserved c =
    let i = c.loop-digit.digit-index in
    let ds = c.args.digits.now in
    let digit : c.from.result ≡ get_or ds i 0 - 48 = c.from.ensures ∙ c.saturating_sub.ensures in
    let small : c.from.result ≤ 207 = omega (arith, digit, c.type_inv.digits i) in
    record {
      value = ap (λ (v : ℕ). 10 * v + c.from.result) c.loop-digit.invariant.value
          ∙ (ap (λ (x : ℕ). 10 * digits_value (take i ds) + x) digit
          ∙ sym (fold_more (λ (value : ℕ) (d : ℕ). 10 * value + (d - 48)) 0 ds i 0 (omega arith)));
      small = bound_more c.loop-digit.value c.from.result (10 ^ i) (10 ^ (i + 1)) c.loop-digit.invariant.small small (pow_more 10 i);
    }
