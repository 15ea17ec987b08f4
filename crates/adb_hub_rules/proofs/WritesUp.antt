-- The writes that held bytes make, by the window or the credit of a stream.
use Rattle.std.proofs.Common.{ℕ, ◌+◌, ◌-◌, ◌*◌, ◌/◌, ◌≡◌, ◌≤◌, ◌<◌, List, [], ◌∷◌, Bool, true, false, refl, sym, ◌∙◌, ap, subst, arith}
use Rattle.std.proofs.Common.{length, take, drop, min, zero, suc, cond}
use Rattle.std.proofs.Math.Nat.{suc-mul, lt-div-mul-add}
use Rattle.std.specs.Prelude.{nat_lt}
use Rattle.std.proofs.lemmas.Bool.Decides.{nat_tests}
use Rattle.std.proofs.lemmas.List.{length-drop, length-take-le}
use Rattle.adb_stream.specs.declared.flow.Flow.{Flow}
use Rattle.adb_stream.specs.declared.flow.Flow.TheVariants.{One, Credit}
use Rattle.adb_stream.specs.Flow.{may_send, wrote}
use Rattle.adb_history.specs.Flow.{write_len, write_before, writes, payloads, total}
use Rattle.adb_hub_tables.specs.Ready.{up_bytes, up_writes}

-- ---- fuel
-- no write is made where none may be
pub no_write : (k m c : ℕ) (held : List ℕ) → write_len m c held ≡ 0 → writes k m c held ≡ []
no_write zero m c held none = refl
no_write (suc k) m c held none = ap (λ n. write_before n held (writes k m (c - n) (drop n held))) none

-- the writes are those of one and of what is behind it
pub write_first : (k m c : ℕ) (held : List ℕ) → 0 < write_len m c held
    → writes (suc k) m c held ≡ take (write_len m c held) held ∷ writes k m (c - write_len m c held) (drop (write_len m c held) held)
write_first k m c held some = first (write_len m c held) some
  where
    first : (n : ℕ) → 0 < n → write_before n held (writes k m (c - n) (drop n held)) ≡ take n held ∷ writes k m (c - n) (drop n held)
    first zero some = absurd (omega (arith, some))
    first (suc n) some = refl

pub within : (m c : ℕ) (held : List ℕ) → write_len m c held ≤ length held
within m c held = omega arith

none_of_none : (m c : ℕ) (held : List ℕ) → length held ≤ 0 → write_len m c held ≡ 0
none_of_none m c held le = omega (arith, le)

-- more fuel than there are bytes is as good
pub enough : (j k m c : ℕ) (held : List ℕ) → length held ≤ j × length held ≤ k → writes j m c held ≡ writes k m c held
enough zero k m c held (below, le) = sym (no_write k m c held (none_of_none m c held below))
enough (suc j) zero m c held (below, le) = no_write (suc j) m c held (none_of_none m c held le)
enough (suc j) (suc k) m c held (below, le) = by_len (write_len m c held)
    (λ q some. enough j k m (c - q) (drop q held) (fits j q below some, fits k q le some))
  where
    fits : (k q : ℕ) → length held ≤ suc k → 0 < q → length (drop q held) ≤ k
    fits k q le some = let less : length (drop q held) ≡ length held - q = length-drop q held in omega (arith, le, less, some)

    by_len : (n : ℕ) → ((q : ℕ) → 0 < q → writes j m (c - q) (drop q held) ≡ writes k m (c - q) (drop q held))
        → write_before n held (writes j m (c - n) (drop n held)) ≡ write_before n held (writes k m (c - n) (drop n held))
    by_len zero behind = refl
    by_len (suc n) behind = ap (λ others. take (suc n) held ∷ others) (behind (suc n) (omega arith))

-- ---- one write of a flow
pub none_let : (flow : Flow) (m : ℕ) (held : List ℕ) → write_len m (may_send flow m) held ≡ 0 → payloads flow m held ≡ []
none_let (One window) m held none = by_test window.outstanding none
  where
    by_test : (b : Bool) → write_len m (cond b 0 m) held ≡ 0 → cond b [] (writes 1 m m held) ≡ []
    by_test true none = refl
    by_test false none = no_write 1 m m held none
none_let (Credit credit) m held none = no_write (length held) m credit.to_send held none

pub one_let : (flow : Flow) (m : ℕ) (held : List ℕ) (n : ℕ) → n ≡ write_len m (may_send flow m) held → 0 < n
    → payloads flow m held ≡ take n held ∷ payloads (wrote n flow) m (drop n held)
one_let (One window) m held n is some = by_test window.outstanding is
  where
    by_test : (b : Bool) → n ≡ write_len m (cond b 0 m) held → cond b [] (writes 1 m m held) ≡ take n held ∷ []
    by_test true is = absurd (omega (arith, is, some))
    by_test false is = write_first 0 m m held (subst (λ (k : ℕ). 0 < k) is some) ∙ ap (λ (k : ℕ). take k held ∷ []) (sym is)
one_let (Credit credit) m held n is some = by_length (length held) refl
  where
    c : ℕ
    c = credit.to_send

    by_length : (k : ℕ) → length held ≡ k → writes k m c held ≡ take n held ∷ writes (length (drop n held)) m (c - n) (drop n held)
    by_length zero e = absurd (omega (arith, e, is, some))
    by_length (suc k) e =
        let less : length (drop n held) ≡ length held - n = length-drop n held in
        write_first k m c held (subst (λ (k : ℕ). 0 < k) is some)
        ∙ (ap (λ (q : ℕ). take q held ∷ writes k m (c - q) (drop q held)) (sym is)
        ∙ ap (λ others. take n held ∷ others)
        (enough k (length (drop n held)) m (c - n) (drop n held) (omega (arith, e, less, some), omega arith)))

-- ---- how many there are at most
all_within : (k m c : ℕ) (held : List ℕ) → total (writes k m c held) ≤ min c (length held)
all_within zero m c held = omega arith
all_within (suc k) m c held = by_len (write_len m c held) refl (λ q. all_within k m (c - q) (drop q held))
  where
    by_len : (n : ℕ) → write_len m c held ≡ n → ((q : ℕ) → total (writes k m (c - q) (drop q held)) ≤ min (c - q) (length (drop q held)))
        → total (write_before n held (writes k m (c - n) (drop n held))) ≤ min c (length held)
    by_len zero is behind = omega arith
    by_len (suc n) is behind =
        let less : length (drop (suc n) held) ≡ length held - suc n = length-drop (suc n) held in
        let front : length (take (suc n) held) ≡ suc n = length-take-le (suc n) held (omega (arith, is)) in
        omega (arith, is, less, front, behind (suc n))

-- whole writes but the last one
few : (k m c : ℕ) (held : List ℕ) (p : ℕ) → min c (length held) < p * m → length (writes k m c held) ≤ p
few zero m c held p less = omega arith
few (suc k) m c held zero less = absurd (omega (arith, less))
few (suc k) m c held (suc p) less = by_len (write_len m c held) refl
    (λ q. few k m (c - q) (drop q held) p)
  where
    by_len : (n : ℕ) → write_len m c held ≡ n
        → ((q : ℕ) → min (c - q) (length (drop q held)) < p * m → length (writes k m (c - q) (drop q held)) ≤ p)
        → length (write_before n held (writes k m (c - n) (drop n held))) ≤ suc p
    by_len zero is behind = omega arith
    by_len (suc n) is behind = by_room (nat_lt (suc n) m) refl
      where
        by_room : (b : Bool) → nat_lt (suc n) m ≡ b → suc (length (writes k m (c - suc n) (drop (suc n) held))) ≤ suc p
        by_room true last =
            let left : length (drop (suc n) held) ≡ length held - suc n = length-drop (suc n) held in
            let none : write_len m (c - suc n) (drop (suc n) held) ≡ 0 = grind (arith, nat_tests, last, is, left) in
            let nothing : length (writes k m (c - suc n) (drop (suc n) held)) ≡ 0 =
            ap length (no_write k m (c - suc n) (drop (suc n) held) none) in
            omega (arith, nothing)
        by_room false full =
            let left : length (drop (suc n) held) ≡ length held - suc n = length-drop (suc n) held in
            let whole : suc n ≡ m = grind (arith, nat_tests, full, is) in
            let shorter : min (c - suc n) (length (drop (suc n) held)) < p * m = omega (arith, less, left, whole, suc-mul p m) in
            omega (arith, behind (suc n) shorter)

few_of : (m c : ℕ) (held : List ℕ) → length (writes (length held) m c held) ≤ min c (length held) / m + 1
few_of zero c held =
    let nothing : length (writes (length held) 0 c held) ≡ 0 = ap length (no_write (length held) 0 c held (omega arith)) in
    omega (arith, nothing)
few_of (suc m) c held =
    few (length held) (suc m) c held (most / suc m + 1) (below (most / suc m) (lt-div-mul-add (omega arith)))
  where
    most : ℕ
    most = min c (length held)

    below : (q : ℕ) → min c (length held) < q * suc m + suc m → min c (length held) < (q + 1) * suc m
    below q less = omega (arith, less, suc-mul q (suc m))

-- no credit more
none_more : (c : ℕ) → c + 0 ≡ c
none_more c = omega arith

pub few_writes : (flow : Flow) (m : ℕ) (held : List ℕ) → length (payloads flow m held) ≤ up_writes flow 0 m (length held)
few_writes (One window) m held = by_test window.outstanding
  where
    by_test : (b : Bool) → length (cond b [] (writes 1 m m held)) ≤ 1
    by_test true = omega arith
    by_test false = by_len (write_len m m held)
      where
        by_len : (n : ℕ) → length (write_before n held []) ≤ 1
        by_len zero = omega arith
        by_len (suc n) = omega arith
few_writes (Credit credit) m held =
    subst (λ (c : ℕ). length (payloads (Credit credit) m held) ≤ min c (length held) / m + 1)
    (sym (none_more credit.to_send)) (few_of m credit.to_send held)

pub few_bytes : (flow : Flow) (m : ℕ) (held : List ℕ) → total (payloads flow m held) ≤ up_bytes flow 0 m (length held)
few_bytes (One window) m held = by_test window.outstanding
  where
    by_test : (b : Bool) → total (cond b [] (writes 1 m m held)) ≤ min m (length held)
    by_test true = omega arith
    by_test false = by_len (write_len m m held) refl
      where
        by_len : (n : ℕ) → write_len m m held ≡ n → total (write_before n held []) ≤ min m (length held)
        by_len zero is = omega arith
        by_len (suc n) is =
            let front : length (take (suc n) held) ≡ suc n = length-take-le (suc n) held (omega (arith, is)) in
            omega (arith, is, front)
few_bytes (Credit credit) m held =
    subst (λ (c : ℕ). total (payloads (Credit credit) m held) ≤ min c (length held)) (sym (none_more credit.to_send))
    (all_within (length held) m credit.to_send held)
