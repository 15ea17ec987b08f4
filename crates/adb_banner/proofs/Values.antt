-- The value of the last part that has a key.
use Rattle.std.proofs.Common.{ℕ, ◌+◌, ◌≡◌, ◌≤◌, Bool, true, false, cond, List, [], ◌∷◌, ◌++◌, length, Option, Some, None, unwrap_or, refl}
use Rattle.std.proofs.Common.{ap, ◌∙◌, arith, length-drop, map}
use Rattle.std.proofs.lemmas.List.{map-append}
use Rattle.std.proofs.lemmas.List.Elements.{All-nil, All-cons, All-head, All-tail, filter_map-append, All-weaker}
use Rattle.std.specs.List.{All, filter_map, cons_option, last_or, after_first, position_or_len, slice_split, onto_first, before_first}
use Rattle.std.specs.List.{list_any}
use Rattle.std.specs.Borrow.{Bor}
use Rattle.std.specs.Str.{bytes_eq}
use Rattle.adb_banner.specs.Banner.{is_equals, part_value, last_value}

last_or-append : {X : Type 0} (o : Option X) (xs ys : List X) → last_or o (xs ++ ys) ≡ last_or (last_or o xs) ys
last_or-append o [] ys = refl
last_or-append o (x ∷ xs) ys = last_or-append (Some x) xs ys

-- one more part
pub last_value-push : (key : List ℕ) (parts : List (List ℕ)) (part : List ℕ)
    → last_value key (parts ++ part ∷ []) ≡ unwrap_or (part_value key part) (last_value key parts)
unfolding last_value
last_value-push key parts part =
    ap (λ vs. unwrap_or (last_or None vs) []) (filter_map-append (part_value key) parts (part ∷ []))
    ∙ (ap (λ o. unwrap_or o []) (last_or-append None (values parts) (values (part ∷ [])))
    ∙ go (part_value key part) (last_or None (values parts)))
  where
    values : List (List ℕ) → List (List ℕ)
    values = filter_map (part_value key)

    go : (value before : Option (List ℕ)) → unwrap_or (last_or before (cons_option value [])) [] ≡ unwrap_or value (unwrap_or before [])
    go None before = refl
    go (Some v) before = refl

pub last_value-nil : (key : List ℕ) → last_value key [] ≡ []
unfolding last_value
last_value-nil key = refl

-- no value is longer than its part
length-part_value : (key part value : List ℕ) → part_value key part ≡ Some value → length value ≤ length part
length-part_value key part value = go _
  where
    go : (b : Bool) → cond b (Some (after_first is_equals part)) None ≡ Some value → length value ≤ length part
    go true e =
        let same : after_first is_equals part ≡ value = cc in
        omega (arith, ap length same, length-drop (position_or_len is_equals part + 1) part)
    go false e = cc

abbrev IsUpTo : ℕ → List ℕ → Type 0
IsUpTo n part = length part ≤ n

-- no part is longer than the whole
pub All-slice_split : (p : ℕ → Bool) (bytes : List ℕ) → All (λ part. length part ≤ length bytes) (slice_split p bytes)
All-slice_split p [] = All-cons (IsUpTo 0) [] [] (omega arith) (All-nil (IsUpTo 0))
All-slice_split p (x ∷ xs) = go (p x) (slice_split p xs) (All-slice_split p xs)
  where
    longer : (parts : List (List ℕ)) → All (IsUpTo (length xs)) parts → All (IsUpTo (length (x ∷ xs))) parts
    longer parts = All-weaker (IsUpTo (length xs)) (IsUpTo (length (x ∷ xs))) (λ part le. omega arith) parts

    onto : (parts : List (List ℕ)) → All (IsUpTo (length xs)) parts → All (IsUpTo (length (x ∷ xs))) (onto_first x parts)
    onto [] all = All-cons (IsUpTo (length (x ∷ xs))) (x ∷ []) [] (omega arith) (All-nil (IsUpTo (length (x ∷ xs))))
    onto (part ∷ parts) all =
        let head = All-head (IsUpTo (length xs)) part parts all in
        All-cons (IsUpTo (length (x ∷ xs))) (x ∷ part) parts (omega arith) (longer parts (All-tail (IsUpTo (length xs)) part parts all))

    go : (b : Bool) (parts : List (List ℕ)) → All (IsUpTo (length xs)) parts
        → All (IsUpTo (length (x ∷ xs))) (cond b ([] ∷ parts) (onto_first x parts))
    go true parts all = All-cons (IsUpTo (length (x ∷ xs))) [] parts (omega arith) (longer parts all)
    go false parts all = onto parts all

-- The value found so far, among the parts left, is no longer than the longest part.
length-found : (key : List ℕ) (n : ℕ) (found : Option (List ℕ)) (parts : List (List ℕ))
    → IsUpTo n (unwrap_or found []) → All (IsUpTo n) parts
    → IsUpTo n (unwrap_or (last_or found (filter_map (part_value key) parts)) [])
length-found key n found [] short all = short
length-found key n found (part ∷ parts) short all =
    go (part_value key part) refl (λ next less. length-found key n next parts less (All-tail (IsUpTo n) part parts all))
  where
    go : (value : Option (List ℕ)) → part_value key part ≡ value
        → ((next : Option (List ℕ)) → IsUpTo n (unwrap_or next [])
        → IsUpTo n (unwrap_or (last_or next (filter_map (part_value key) parts)) []))
        → IsUpTo n (unwrap_or (last_or found (cons_option value (filter_map (part_value key) parts))) [])
    go None is later = later found short
    go (Some value) is later =
        let fits = length-part_value key part value is in
        let whole = All-head (IsUpTo n) part parts all in
        later (Some value) (omega arith)

-- no value is longer than the longest part
pub length-last_value : (key : List ℕ) (n : ℕ) (parts : List (List ℕ)) → All (λ part. length part ≤ n) parts
    → length (last_value key parts) ≤ n
unfolding last_value
length-last_value key n parts short = length-found key n None parts (omega arith) short

-- what one part gives
pub part_value-none : (key part : List ℕ) → list_any is_equals part ≡ false → part_value key part ≡ None
part_value-none key part none = rw none refl

pub part_value-some : (key part : List ℕ) → list_any is_equals part ≡ true
    → part_value key part ≡ cond (bytes_eq (before_first is_equals part) key) (Some (after_first is_equals part)) None
part_value-some key part some = rw some refl

pub last_value-yielded : (key : List ℕ) (yielded : List (Bor (List ℕ))) (part : Bor (List ℕ))
    → last_value key (map (λ p. p.now) (yielded ++ part ∷ []))
    ≡ unwrap_or (part_value key part.now) (last_value key (map (λ p. p.now) yielded))
last_value-yielded key yielded part =
    ap (last_value key) (map-append (λ p. p.now) yielded (part ∷ [])) ∙ last_value-push key (map (λ p. p.now) yielded) part.now
