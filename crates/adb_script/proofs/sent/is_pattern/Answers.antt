use Rattle.std.proofs.Common.{rules, ℕ, ◌≡◌, ◌∙◌, ap, sym, take, length, List, Bool, true, false, not, ◌&&◌, refl}
use Rattle.std.specs.Prelude.{bytes_eq}
use Rattle.adb_script.specs.Pattern.{pattern}
use Rattle.adb_script.proofs.Patterns.{other_length, compared}
use Rattle.adb_script.proofs.sent.is_pattern.Goals as goal

pub returns-then-bytes-size : goal.returns-then-bytes-size
returns-then-bytes-size c = other_length c.args.bytes.now c.args.shift c.args.size (search (rules))

is_false : (b : Bool) → true ≡ not b → b ≡ false
is_false true e = cc
is_false false e = refl

is_true : (b : Bool) → false ≡ not b → b ≡ true
is_true true e = refl
is_true false e = cc

pub returns-then-ne : goal.returns-then-ne
returns-then-ne c =
    let shift : ℕ = c.args.shift in
    let front : List ℕ = c.split_at.result.0.now in
    let more : List ℕ = c.split_at.result.1.now in
    let cut = compared shift c.min.result c.loop-rest.rest.now front more c.min.ensures c.split_at.ensures.front c.split_at.ensures.back in
    let same : bytes_eq front (take (length front) c.period-period.result) ≡ bytes_eq front (take (length front) (pattern shift 251)) =
    ap (λ (bs : List ℕ). bytes_eq front (take (length front) bs)) c.period-period.ensures in
    let other : bytes_eq front (take (length front) (pattern shift 251)) ≡ false =
    sym same ∙ is_false (bytes_eq front (take (length front) c.period-period.result)) (c.if-ne.ensures) in
    sym (c.loop-rest.invariant ∙ (cut ∙ ap (λ (t : Bool). t && bytes_eq more (pattern shift (length more))) other))

pub loop-rest-preserved : goal.loop-rest-preserved
loop-rest-preserved c =
    let shift : ℕ = c.args.shift in
    let front : List ℕ = c.split_at.result.0.now in
    let more : List ℕ = c.split_at.result.1.now in
    let cut = compared shift c.min.result c.loop-rest.rest.now front more c.min.ensures c.split_at.ensures.front c.split_at.ensures.back in
    let same : bytes_eq front (take (length front) c.period-period.result) ≡ bytes_eq front (take (length front) (pattern shift 251)) =
    ap (λ (bs : List ℕ). bytes_eq front (take (length front) bs)) c.period-period.ensures in
    let equal : bytes_eq front (take (length front) (pattern shift 251)) ≡ true =
    sym same ∙ is_true (bytes_eq front (take (length front) c.period-period.result)) (c.if-ne.ensures) in
    c.loop-rest.invariant ∙ (cut ∙ ap (λ (t : Bool). t && bytes_eq more (pattern shift (length more))) equal)
