-- The next number of a session.
use Rattle.std.specs.Prelude.{ℕ, ◌+◌, ◌-◌, ◌^◌, ◌≡◌, ◌≤◌, ◌<◌, true, false, is_some, IsSome, List, Option, Some, None}
use Rattle.std.proofs.Common.{refl, sym, ap, subst, arith}
use Rattle.std.proofs.lemmas.Bool.Decides.{nat_tests}
use Rattle.std.specs.BTreeMap.Range.{IsInRange, IsLeBy}
use Rattle.std.specs.Ordering.{nat_cmp, is_gt}
use Rattle.std.specs.declared.ops.Bound.TheVariants.{Included}
use Rattle.adb_outside.specs.Tables.{at}
use Rattle.adb_world.specs.declared.session.Session.{Session}

le_of : (a b : ℕ) → is_gt (nat_cmp a b) ≡ false → a ≤ b
le_of a b e = grind (arith, nat_tests)

to_le : (a b : ℕ) → a ≤ b → is_gt (nat_cmp a b) ≡ false
to_le a b le = grind (arith, nat_tests)

pub next_is : (after first last number : ℕ) (sessions : List (ℕ × Session)) (session : Session) → first ≡ after + 1 → last ≡ 2 ^ 32 - 1
    → IsInRange nat_cmp (Included first) (Included last) number → at number sessions ≡ Some session
    → ((q : ℕ) → IsInRange nat_cmp (Included first) (Included last) q → IsSome (at q sessions) → IsLeBy nat_cmp number q)
    → (after < number) × (is_some (at number sessions) ≡ true) × ((c : ℕ) → after < c → c < number → at c sessions ≡ None)
next_is after first last number sessions session begins ends inside found least =
    (behind, ap is_some found, λ c more less. none c more less (at c sessions) refl)
  where
    from : first ≤ number
    from = le_of first number inside.0

    to : number ≤ last
    to = le_of number last inside.1

    behind : after < number
    behind = omega (arith, from, begins)

    none : (c : ℕ) → after < c → c < number → (o : Option Session) → at c sessions ≡ o → at c sessions ≡ None
    none c more less None is = is
    none c more less (Some s) is =
        let le = le_of number c
        (least c (to_le first c (omega (arith, begins, more)), to_le c last (omega (arith, to, less)))
        (subst (λ (x : Option Session). is_some x ≡ true) (sym is) refl)) in
        absurd (omega (arith, le, less))
