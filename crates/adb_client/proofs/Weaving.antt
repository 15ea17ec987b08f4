-- Own bytes with slices among them: how many they are, what is put behind them, and what is cut off in front.
use Rattle.std.proofs.Common.{◌≡◌, ℕ, ◌+◌, ◌-◌, ◌≤◌, ◌<◌, List, [], ◌∷◌, ◌++◌, length, take, drop, refl, sym, ap, ◌∙◌, arith}
use Rattle.std.proofs.Common.{append_assoc, append-nil, length-append, take_all}
use Rattle.std.proofs.lemmas.List.{take-append-le, drop-append-le, length-take, length-take-le, length-drop, drop-drop, drop-take, drop_all}
use Rattle.std.proofs.lemmas.List.Sums.{sum_by-cons}
use Rattle.std.proofs.lemmas.List.Elements.{All-cons, All-head, All-tail}
use Rattle.adb_client.specs.Slices.{woven, own_before, shared_len, IsCounted}
use Rattle.adb_client.specs.declared.slices.Slice.{Slice}

-- a slice more in front
pub before_more : (slice : Slice) (slices : List Slice) → own_before (slice ∷ slices) ≡ slice.before + own_before slices
before_more = sum_by-cons (λ (s : Slice). s.before)

pub shared_more : (slice : Slice) (slices : List Slice) → shared_len (slice ∷ slices) ≡ length slice.bytes + shared_len slices
shared_more = sum_by-cons (λ (s : Slice). length s.bytes)

pub woven_length : (slices : List Slice) (own : List ℕ) → length (woven slices own) ≡ shared_len slices + length own
woven_length [] own = omega arith
woven_length (s ∷ slices) own =
    let rest = woven slices (drop s.before own) in
    omega (
      arith,
      length-append (take s.before own) (s.bytes ++ rest),
      length-append s.bytes rest,
      length-take s.before own,
      length-drop s.before own,
      woven_length slices (drop s.before own),
      shared_more s slices,
    )

-- the own bytes behind the first of some slices
behind_first : (slice : Slice) (slices : List Slice) (own : List ℕ) → own_before (slice ∷ slices) ≤ length own
    → (slice.before ≤ length own) × (own_before slices ≤ length (drop slice.before own))
behind_first slice slices own h =
    (omega (arith, h, before_more slice slices), omega (arith, h, before_more slice slices, length-drop slice.before own))

-- three lists in a row, with one more behind them
behind_three : (xs ys zs more : List ℕ) → xs ++ (ys ++ (zs ++ more)) ≡ (xs ++ (ys ++ zs)) ++ more
behind_three xs ys zs more = ap (λ (l : List ℕ). xs ++ l) (sym (append_assoc ys zs more)) ∙ sym (append_assoc xs (ys ++ zs) more)

-- own bytes are put behind
pub woven_own : (slices : List Slice) (own more : List ℕ) → own_before slices ≤ length own
    → woven slices (own ++ more) ≡ woven slices own ++ more
woven_own [] own more h = refl
woven_own (s ∷ slices) own more h =
    let within = behind_first s slices own h in
    let left = drop s.before own in
    ap (λ (l : List ℕ). l ++ (s.bytes ++ woven slices (drop s.before (own ++ more)))) (take-append-le s.before own more within.0)
    ∙ (ap (λ (l : List ℕ). take s.before own ++ (s.bytes ++ woven slices l)) (drop-append-le s.before own more within.0)
    ∙ (ap (λ (l : List ℕ). take s.before own ++ (s.bytes ++ l)) (woven_own slices left more within.1)
    ∙ behind_three (take s.before own) s.bytes (woven slices left) more))

-- a slice is put behind
pub woven_slice : (slices : List Slice) (own : List ℕ) (slice : Slice) → own_before slices + slice.before ≡ length own
    → woven (slices ++ slice ∷ []) own ≡ woven slices own ++ slice.bytes
woven_slice [] own slice h =
    let all : length own ≤ slice.before = omega (arith, h) in
    ap (λ (l : List ℕ). l ++ (slice.bytes ++ drop slice.before own)) (take_all slice.before own all)
    ∙ (ap (λ (l : List ℕ). own ++ (slice.bytes ++ l)) (drop_all slice.before own all)
    ∙ ap (λ (l : List ℕ). own ++ l) (append-nil slice.bytes))
woven_slice (s ∷ slices) own slice h =
    let left = drop s.before own in
    let here : own_before slices + slice.before ≡ length left = omega (arith, h, before_more s slices, length-drop s.before own) in
    ap (λ (l : List ℕ). take s.before own ++ (s.bytes ++ l)) (woven_slice slices left slice here)
    ∙ behind_three (take s.before own) s.bytes (woven slices left) slice.bytes

-- some of the own bytes before the first slice are cut off
pub cut_own : (n : ℕ) (slice : Slice) (slices : List Slice) (own : List ℕ) → n ≤ slice.before → slice.before ≤ length own
    → woven (record { before = slice.before - n; bytes = slice.bytes } ∷ slices) (drop n own) ≡ drop n (woven (slice ∷ slices) own)
cut_own n slice slices own few within =
    let before = slice.before in
    let rest = λ (l : List ℕ). slice.bytes ++ woven slices l in
    let all : n + (before - n) ≡ before = omega (arith, few) in
    let own_first : take (before - n) (drop n own) ≡ drop n (take before own) =
    sym (drop-take n (before - n) own) ∙ ap (λ (m : ℕ). drop n (take m own)) all
    in
    let own_rest : drop (before - n) (drop n own) ≡ drop before own = drop-drop (before - n) n own ∙ ap (λ (m : ℕ). drop m own) all in
    let fits : n ≤ length (take before own) = omega (arith, few, within, length-take-le before own within) in
    ap (λ (l : List ℕ). l ++ rest (drop (before - n) (drop n own))) own_first
    ∙ (ap (λ (l : List ℕ). drop n (take before own) ++ rest l) own_rest
    ∙ sym (drop-append-le n (take before own) (rest (drop before own)) fits))

abbrev is_some : Slice → Type 0
is_some slice = 0 < length slice.bytes

-- the first slice is taken off
pub count_rest : (slice : Slice) (slices : List Slice) (before shared : ℕ) → IsCounted (slice ∷ slices) before shared
    → IsCounted slices (before - slice.before) (shared - length slice.bytes)
count_rest slice slices before shared h = record {
  some = All-tail is_some slice slices h.some;
  own = omega (arith, h.own, before_more slice slices);
  bytes = omega (arith, h.bytes, shared_more slice slices);
}

-- own bytes before the first slice go
pub count_own : (n : ℕ) (slice : Slice) (slices : List Slice) (before shared : ℕ)
    → IsCounted (slice ∷ slices) before shared → n ≤ slice.before
    → IsCounted (record { before = slice.before - n; bytes = slice.bytes } ∷ slices) (before - n) shared
count_own n slice slices before shared h few =
    let less : Slice = record { before = slice.before - n; bytes = slice.bytes } in
    record {
      some = All-cons is_some less slices (All-head is_some slice slices h.some) (All-tail is_some slice slices h.some);
      own = omega (arith, few, h.own, before_more slice slices, before_more less slices);
      bytes = omega (arith, h.bytes, shared_more slice slices, shared_more less slices);
    }
