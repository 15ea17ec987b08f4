-- The bytes (place + shift) mod 251 begin anew after 251 of them.
use Rattle.std.proofs.Common.{ℕ, zero, suc, ◌+◌, ◌-◌, ◌%◌, ◌≡◌, ◌≤◌, ◌&&◌, min, Bool, true, false, List, [], ◌∷◌, ◌++◌, length, take, drop}
use Rattle.std.proofs.Common.{map}
use Rattle.std.proofs.Common.{refl, ◌∙◌, ap, sym, arith}
use Rattle.std.specs.List.{range_with_len}
use Rattle.std.specs.Prelude.{bytes_eq, nat_eq}
use Rattle.std.proofs.lemmas.List.{length-take, length-drop, length-append, append_assoc, take-append-drop}
use Rattle.std.proofs.lemmas.Slice.Eq.{bytes_eq-Decides}
use Rattle.std.proofs.lemmas.List.FromFn.{length-map-range_with_len, take-map-range_with_len}
use Rattle.adb_script.specs.Pattern.{pattern}

-- the byte at a place
abbrev byte_at : ℕ → ℕ → ℕ
byte_at shift place = (place + shift) % 251

abbrev part : ℕ → ℕ → ℕ → List ℕ
part shift from size = map (byte_at shift) (range_with_len from size)

-- places 251 further on have the same bytes
anew : (shift from size : ℕ) → part shift (from + 251) size ≡ part shift from size
anew shift from zero = refl
anew shift from (suc size) =
    let here : byte_at shift (from + 251) ≡ byte_at shift from = omega arith in
    let next : from + 251 + 1 ≡ from + 1 + 251 = omega arith in
    ap (λ (b : ℕ). b ∷ part shift (from + 251 + 1) size) here
    ∙ ap (λ (bs : List ℕ). byte_at shift from ∷ bs) (ap (λ (n : ℕ). part shift n size) next ∙ anew shift (from + 1) size)

-- so many and then others
parts : (shift from n m k j : ℕ) → n + m ≡ k → from + n ≡ j → part shift from k ≡ part shift from n ++ part shift j m
parts shift from zero m k j all at =
    let size : k ≡ m = omega (arith, all) in
    let place : from ≡ j = omega (arith, at) in
    ap (part shift from) size ∙ ap (λ (a : ℕ). part shift a m) place
parts shift from (suc n) m zero j all at = absurd (omega (arith, all))
parts shift from (suc n) m (suc k) j all at =
    ap (λ (bs : List ℕ). byte_at shift from ∷ bs) (parts shift (from + 1) n m k j (omega (arith, all)) (omega (arith, at)))

pub length_pattern : (shift size : ℕ) → length (pattern shift size) ≡ size
length_pattern shift size = length-map-range_with_len (byte_at shift) 0 size

-- the first of them are the first of a period, and those behind them begin anew
pub pattern_cut : (shift size n : ℕ) → n ≡ min 251 size → pattern shift size ≡ take n (pattern shift 251) ++ pattern shift (size - n)
pattern_cut shift size n is = go (size - n) refl
  where
    front : take n (pattern shift 251) ≡ pattern shift n
    front = take-map-range_with_len (byte_at shift) 0 251 n (omega (arith, is))

    go : (m : ℕ) → size - n ≡ m → pattern shift size ≡ take n (pattern shift 251) ++ pattern shift m
    go zero left = parts shift 0 n 0 size n (omega (arith, left, is)) (omega arith) ∙ ap (λ (bs : List ℕ). bs ++ []) (sym front)
    go (suc m) left =
        let whole : n ≡ 251 = omega (arith, left, is) in
        parts shift 0 n (suc m) size (0 + 251) (omega (arith, left)) (omega (arith, whole))
        ∙ (ap (λ (bs : List ℕ). pattern shift n ++ bs) (anew shift 0 (suc m))
        ∙ ap (λ (bs : List ℕ). bs ++ pattern shift (suc m)) (sym front))

and_behind : (a b c : Bool) → (a && (b && c)) ≡ ((a && b) && c)
and_behind true b c = refl
and_behind false b c = refl

-- lists of two parts each are compared part by part
pub both_equal : (a b x y : List ℕ) → length a ≡ length x → bytes_eq (a ++ b) (x ++ y) ≡ (bytes_eq a x && bytes_eq b y)
both_equal [] b [] y len = refl
both_equal [] b (v ∷ x) y len = absurd (omega (arith, len))
both_equal (u ∷ a) b [] y len = absurd (omega (arith, len))
both_equal (u ∷ a) b (v ∷ x) y len =
    ap (λ (t : Bool). nat_eq u v && t) (both_equal a b x y (omega (arith, len))) ∙ and_behind (nat_eq u v) (bytes_eq a x) (bytes_eq b y)

-- a text that has the first of them was given a further part
pub record Grown (shift size : ℕ) (now : List ℕ) : Type 0 where
  pub within : length now ≤ size
  pub whole : now ++ pattern shift (size - length now) ≡ pattern shift size

pub grows : (shift size n : ℕ) (now next : List ℕ) → n ≡ min 251 (size - length now) → next ≡ now ++ take n (pattern shift 251)
    → Grown shift size now → Grown shift size next
grows shift size n now next is further old =
    let taken : length (take n (pattern shift 251)) ≡ n = omega (arith, is, length-take n (pattern shift 251), length_pattern shift 251) in
    let size' : length next ≡ length now + n =
    ap (λ (bs : List ℕ). length bs) further ∙ (length-append now (take n (pattern shift 251)) ∙ ap (λ (m : ℕ). length now + m) taken) in
    let left : size - length next ≡ size - length now - n = omega (arith, size') in
    record {
      within = omega (arith, size', is, old.within);
      whole = ap (λ (bs : List ℕ). bs ++ pattern shift (size - length next)) further
          ∙ (append_assoc now (take n (pattern shift 251)) (pattern shift (size - length next))
          ∙ (ap (λ (m : ℕ). now ++ (take n (pattern shift 251) ++ pattern shift m)) left
          ∙ (ap (λ (bs : List ℕ). now ++ bs) (sym (pattern_cut shift (size - length now) n is)) ∙ old.whole)));
    }

-- ---- comparing
pub other_length : (bytes : List ℕ) (shift size : ℕ) → (length bytes ≡ size → ⊥) → false ≡ bytes_eq bytes (pattern shift size)
other_length bytes shift size other = go (bytes_eq bytes (pattern shift size)) refl
  where
    go : (t : Bool) → bytes_eq bytes (pattern shift size) ≡ t → false ≡ t
    go true is = absurd
        (other (ap (λ (bs : List ℕ). length bs) ((bytes_eq-Decides bytes (pattern shift size)).0 is)
        ∙ length_pattern shift size))
    go false is = refl

-- so many bytes are compared part by part
pub compared : (shift n : ℕ) (rest front more : List ℕ) → n ≡ min 251 (length rest) → front ≡ take n rest → more ≡ drop n rest
    → bytes_eq rest (pattern shift (length rest))
    ≡ (bytes_eq front (take (length front) (pattern shift 251)) && bytes_eq more (pattern shift (length more)))
compared shift n rest front more is begins ends =
    let whole : rest ≡ front ++ more =
    sym (ap (λ (bs : List ℕ). bs ++ more) begins ∙ (ap (λ (bs : List ℕ). take n rest ++ bs) ends ∙ take-append-drop n rest)) in
    let size : length front ≡ n = ap (λ (bs : List ℕ). length bs) begins ∙ omega (arith, is, length-take n rest) in
    let left : length rest - n ≡ length more = omega (arith, ap (λ (bs : List ℕ). length bs) ends, length-drop n rest) in
    let same : length front ≡ length (take n (pattern shift 251)) =
    omega (arith, size, is, length-take n (pattern shift 251), length_pattern shift 251) in
    ap (λ (bs : List ℕ). bytes_eq bs (pattern shift (length rest))) whole
    ∙ (ap (λ (bs : List ℕ). bytes_eq (front ++ more) bs) (pattern_cut shift (length rest) n is)
    ∙ (both_equal front more (take n (pattern shift 251)) (pattern shift (length rest - n)) same
    ∙ (ap (λ (m : ℕ). bytes_eq front (take m (pattern shift 251)) && bytes_eq more (pattern shift (length rest - n))) (sym size)
    ∙ ap (λ (m : ℕ). bytes_eq front (take (length front) (pattern shift 251)) && bytes_eq more (pattern shift m)) left)))
