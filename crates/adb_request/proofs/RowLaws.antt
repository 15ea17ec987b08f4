-- Where a text is cut at a byte that stands in no number.
use Rattle.std.proofs.Common.{◌||◌, append_assoc, is_some, ℕ, ◌+◌, ◌≡◌, ◌<◌, ◌==◌, ◌&&◌, Bool, true, false, cond, nat_le, nat_lt, List, []}
use Rattle.std.proofs.Common.{◌∷◌, ◌++◌}
use Rattle.std.proofs.Common.{length, take, drop, Option, Some, None, refl, sym, ◌∙◌, ap, arith, suc, position}
use Rattle.std.specs.Prelude.{option_and_then}
use Rattle.std.proofs.lemmas.Bool.{lt-ltb, ne_eqb}
use Rattle.std.proofs.lemmas.List.{take_at, length-append, append-nil}
use Rattle.std.specs.List.{list_any, list_all, position_or_len, find}
use Rattle.adb_outside.specs.Decimal.{is_digit, is_digits, digits_value, number_in}
use Rattle.adb_request.specs.Forms.{at_most, is_form, form, local_in, is_remote, semicolon, forward_of, forward_at, forward_between}
use Rattle.adb_request.specs.Meaning.{splits_behind, colon}
use Rattle.adb_request.specs.declared.request.Which.{Which}
use Rattle.adb_request.specs.declared.request.Request.{Request}
use Rattle.adb_request.specs.declared.request.Request.TheVariants.{Forward, BadForward}
use Rattle.adb_request.proofs.FormLaws.{fits}

either_false : (a b : Bool) → (a || b) ≡ false → (a ≡ false) × (b ≡ false)
either_false true b e = cc
either_false false b e = (refl, e)

pub both_true : (a b : Bool) → (a && b) ≡ true → (a ≡ true) × (b ≡ true)
both_true true b e = (refl, e)
both_true false b e = cc

-- the first place of a byte behind bytes that are none
place_behind : (p : ℕ → Bool) (front : List ℕ) (b : ℕ) (rest : List ℕ) → list_any p front ≡ false → p b ≡ true
    → position_or_len p (front ++ b ∷ rest) ≡ length front
place_behind p [] b rest none here = rw here refl
place_behind p (a ∷ front) b rest none here =
    let e = either_false (p a) (list_any p front) none in
    let one_more : 1 + length front ≡ suc (length front) = omega arith in
    rw e.0 (ap (λ n. 1 + n) (place_behind p front b rest e.1 here) ∙ one_more)

pub cut_behind : (p : ℕ → Bool) (front : List ℕ) (b : ℕ) (rest : List ℕ) → list_any p front ≡ false → p b ≡ true
    → position p (front ++ b ∷ rest) ≡ Some (length front)
cut_behind p front b rest none here =
    let within : length front < length (front ++ b ∷ rest) = omega (arith, length-append front (b ∷ rest)) in
    rw (place_behind p front b rest none here, lt-ltb (length front) (length (front ++ b ∷ rest)) within) refl

pub taken_behind : (front : List ℕ) (b : ℕ) (rest : List ℕ) → take (length front) (front ++ b ∷ rest) ≡ front
taken_behind front b rest = take_at front (b ∷ rest) (length front) refl

left_after : (front : List ℕ) (b : ℕ) (rest : List ℕ) → drop (suc (length front)) (front ++ b ∷ rest) ≡ rest
left_after [] b rest = refl
left_after (a ∷ front) b rest = left_after front b rest

pub left_behind : (front : List ℕ) (b : ℕ) (rest : List ℕ) → drop (length front + 1) (front ++ b ∷ rest) ≡ rest
left_behind front b rest =
    let one_more : length front + 1 ≡ suc (length front) = omega arith in
    ap (λ n. drop n (front ++ b ∷ rest)) one_more ∙ left_after front b rest

-- a byte that is no digit stands in no number
none_in_digits : (b : ℕ) (digits : List ℕ) → is_digit b ≡ false → list_all is_digit digits ≡ true → list_any (λ d. d == b) digits ≡ false
none_in_digits b [] no_digit all = refl
none_in_digits b (d ∷ digits) no_digit all =
    let e = both_true (is_digit d) (list_all is_digit digits) all in
    rw (other d e.0) (none_in_digits b digits no_digit e.1)
  where
    other : (d : ℕ) → is_digit d ≡ true → (d == b) ≡ false
    other d is = ne_eqb d b (λ same. let clash : true ≡ false = sym is ∙ (ap is_digit same ∙ no_digit) in cc)

pub none_in_number : (b most : ℕ) (digits : List ℕ) (n : ℕ) → is_digit b ≡ false → number_in most digits ≡ Some n
    → list_any (λ d. d == b) digits ≡ false
none_in_number b most digits n no_digit is = go (is_digits most digits) refl is
  where
    go : (v : Bool) → is_digits most digits ≡ v → cond v (Some (digits_value digits)) None ≡ Some n → list_any (λ d. d == b) digits ≡ false
    go true e h =
        none_in_digits b digits no_digit
        (both_true (nat_lt 0 (length digits) && nat_le (length digits) most) (list_all is_digit digits) e).1
    go false e h = cc

-- what a number was that is at most so much
pub number_there : (most limit : ℕ) (digits : List ℕ) (n : ℕ) → option_and_then (at_most limit) (number_in most digits) ≡ Some n → (m : ℕ)
    × (number_in most digits ≡ Some m)
number_there most limit digits n is = go (number_in most digits) refl is
  where
    go : (o : Option ℕ) → number_in most digits ≡ o → option_and_then (at_most limit) o ≡ Some n
        → (m : ℕ) × (number_in most digits ≡ Some m)
    go (Some m) e h = (m, e)
    go None e h = cc

-- a serial without a colon ends at the colon behind it
pub splits_first : (front serial text : List ℕ) → list_any (λ byte. byte == colon) serial ≡ false → is_form text ≡ true
    → find (λ split. is_form split.after) (splits_behind front (serial ++ colon ∷ text))
    ≡ Some (record { before = front ++ serial; after = text })
splits_first front [] text none is = rw (is, append-nil) refl
splits_first front (b ∷ serial) text none is =
    let e = either_false (b == colon) (list_any (λ byte. byte == colon) serial) none in
    rw e.0 (splits_first (front ++ b ∷ []) serial text e.1 is
    ∙ ap (λ f. Some (record { before = f; after = text })) (append_assoc front (b ∷ []) serial))

-- a form that is read is one
pub form_fits : (on : Which) (text : List ℕ) (request : Request) → form on text ≡ Some request → is_form text ≡ true
form_fits on text request e = sym (fits on text) ∙ ap is_some e

-- a specification is cut at its first `;`
pub forward_cut : (on : Which) (norebind : Bool) (local remote : List ℕ) → list_any (λ byte. byte == semicolon) local ≡ false
    → forward_of on norebind (local ++ semicolon ∷ remote) ≡ forward_between on norebind (local_in local) remote
forward_cut on norebind local remote none =
    let spec = local ++ semicolon ∷ remote in
    ap (forward_at on norebind spec) (cut_behind (λ byte. byte == semicolon) local semicolon remote none refl)
    ∙ (ap (λ l. forward_between on norebind (local_in l) (drop (length local + 1) spec)) (taken_behind local semicolon remote)
    ∙ ap (forward_between on norebind (local_in local)) (left_behind local semicolon remote))

pub forward_read : (on : Which) (norebind : Bool) (local remote : List ℕ) (port : ℕ) → (list_any (λ byte. byte == semicolon) local ≡ false)
    × (local_in local ≡ Some port)
    → is_remote remote ≡ true → forward_of on norebind (local ++ semicolon ∷ remote) ≡ Forward on norebind port remote
forward_read on norebind local remote port is good =
    forward_cut on norebind local remote is.0
    ∙ (ap (λ l. forward_between on norebind l remote) is.1 ∙ ap (λ b. cond b (Forward on norebind port remote) BadForward) good)
