-- What follows the requests of a client can be done.
use Rattle.std.proofs.Common.{ℕ, ◌+◌, ◌-◌, ◌*◌, ◌≡◌, ◌≤◌, ◌<◌, ◌^◌, ◌++◌, Bool, true, false, cond, ◌&&◌, zero, suc, List, [], ◌∷◌, length}
use Rattle.std.proofs.Common.{take, drop}
use Rattle.std.proofs.Common.{Option, Some, None, Less, refl, sym, ◌∙◌, ap, arith, nat_lt, nat_le}
use Rattle.std.specs.Ordering.{is_eq}
use Rattle.std.specs.Cmp.{nat_cmp_is}
use Rattle.std.proofs.lemmas.Bool.Decides.{nat_tests}
use Rattle.std.proofs.lemmas.List.{length-take}
use Rattle.std.proofs.lemmas.List.Elements.{All-head, All-tail, All-weaker}
use Rattle.adb_outside.specs.Tables.{at}
use Rattle.adb_registry.specs.Registry.{DeviceTable}
use Rattle.adb_forward.specs.Forwards.{IsSpecification, IsRow, IsForwardTable}
use Rattle.adb_forward.specs.declared.row.ForwardRow.{ForwardRow}
use Rattle.adb_request.specs.Requests.{digit_value, then_digit, hex_value, found_behind, request_at}
use Rattle.adb_request.specs.Meaning.{meaning}
use Rattle.adb_request.specs.declared.cutting.Found.{Found}
use Rattle.adb_request.specs.declared.cutting.Found.TheVariants.{More, Malformed, Whole}
use Rattle.adb_reply.specs.Answer.{answer}
use Rattle.adb_reply.specs.declared.answer.Next.{Next}
use Rattle.adb_reply.specs.declared.answer.Next.TheVariants.{Select}
use Rattle.adb_history.specs.Asking.{Asked, replied, after_next, after_found, reads_on, asks_with}
use Rattle.adb_laws_resting.specs.Wanted.{IsService, CanFollow, IsSoundNext, AreForwards}
use Rattle.adb_laws_resting.proofs.WantedRequests.{meaning_sound}
use Rattle.adb_laws_resting.proofs.WantedAnswers.{answer_sound}

-- ---- a request is at most 65,535 bytes
abbrev IsBelow : ℕ → Option ℕ → Type 0
IsBelow limit None = Unit {0}
IsBelow limit (Some n) = n < limit

digit_below : (b : ℕ) → IsBelow 16 (digit_value b)
digit_below b = decimal (nat_le 48 b && nat_le b 57) refl
  where
    less : (first last : ℕ) (low : Bool) → (low && nat_le b last) ≡ true → b ≤ last
    less first last true e = grind (arith, nat_tests)
    less first last false e = cc

    upper : (test : Bool) → (nat_le 65 b && nat_le b 70) ≡ test → IsBelow 16 (cond test (Some (b - 55)) None)
    upper true e = let last = less 65 70 (nat_le 65 b) e in omega (arith, last)
    upper false e = tt

    lower : (test : Bool) → (nat_le 97 b && nat_le b 102) ≡ test
        → IsBelow 16 (cond test (Some (b - 87)) (cond (nat_le 65 b && nat_le b 70) (Some (b - 55)) None))
    lower true e = let last = less 97 102 (nat_le 97 b) e in omega (arith, last)
    lower false e = upper (nat_le 65 b && nat_le b 70) refl

    decimal : (test : Bool) → (nat_le 48 b && nat_le b 57) ≡ test
        → IsBelow 16 (cond test (Some (b - 48)) (cond (nat_le 97 b && nat_le b 102) (Some (b - 87))
        (cond (nat_le 65 b && nat_le b 70) (Some (b - 55)) None)))
    decimal true e = let last = less 48 57 (nat_le 48 b) e in omega (arith, last)
    decimal false e = lower (nat_le 97 b && nat_le b 102) refl

digit_more : (limit : ℕ) (o digit : Option ℕ) → IsBelow limit o → IsBelow 16 digit → IsBelow (16 * limit) (then_digit o digit)
digit_more limit None digit h k = tt
digit_more limit (Some n) None h k = tt
digit_more limit (Some n) (Some d) h k = omega (arith, h, k)

value_below : (a b c d : ℕ) → IsBelow 65536 (hex_value a b c d)
value_below a b c d =
    digit_more 4096 (then_digit (then_digit (digit_value a) (digit_value b)) (digit_value c)) (digit_value d)
    (digit_more 256 (then_digit (digit_value a) (digit_value b)) (digit_value c)
    (digit_more 16 (digit_value a) (digit_value b) (digit_below a) (digit_below b)) (digit_below c)) (digit_below d)

abbrev IsShortFound : Found → Type 0
IsShortFound (Whole len) = len < 2 ^ 16
IsShortFound _ = Unit {0}

behind_short : (o : Option ℕ) (have : ℕ) → IsBelow 65536 o → IsShortFound (found_behind o have)
behind_short None have h = tt
behind_short (Some zero) have h = tt
behind_short (Some (suc n)) have h = by_test (nat_lt have (suc n))
  where
    by_test : (test : Bool) → IsShortFound (cond test More (Whole (suc n)))
    by_test true = tt
    by_test false = h

request_short : (bytes : List ℕ) → IsShortFound (request_at bytes)
request_short (a ∷ b ∷ c ∷ d ∷ rest) = behind_short (hex_value a b c d) (length rest) (value_below a b c d)
request_short _ = tt

text_short : (len : ℕ) (bytes : List ℕ) → len < 2 ^ 16 → IsService (take len bytes)
text_short len bytes short = omega (arith, length-take len bytes, short)

-- ---- the requests of a client
abbrev KeepsSound : List (ℕ × ForwardRow) → (Asked → Asked) → Type 0
KeepsSound forwards others = (q : Asked) → IsSoundNext forwards q.next → IsSoundNext forwards (others q).next

module _ (forwards : List (ℕ × ForwardRow)) (others : Asked → Asked) (later : KeepsSound forwards others) (q : Asked)
    (h : IsSoundNext forwards q.next) where
  next_sound : (next : Next) (reply : List ℕ) (size : ℕ) → CanFollow forwards next
      → IsSoundNext forwards (after_next next reply size others q).next
  next_sound (Select id) reply size can = later (record (replied reply size q) { selected = Some id }) h
  next_sound _ reply size can = can

module _ (devices : DeviceTable) (forwards : List (ℕ × ForwardRow)) (none : at 0 forwards ≡ None) where
  found_sound : (others : Asked → Asked) → KeepsSound forwards others → (found : Found) → IsShortFound found
      → KeepsSound forwards (after_found devices forwards found others)
  found_sound others later More short q h = h
  found_sound others later Malformed short q h = tt
  found_sound others later (Whole len) short q h =
      let text = take len (drop 4 q.rest) in
      let a = answer devices.rows forwards q.selected (meaning text) in
      next_sound forwards others later q h a.next a.bytes (4 + len)
      (answer_sound devices.rows forwards none q.selected (meaning text) (meaning_sound text (text_short len (drop 4 q.rest) short)))

  -- What follows the requests that are read can be done.
  pub sound_next : (k : ℕ) (q : Asked) → IsSoundNext forwards q.next → IsSoundNext forwards (reads_on devices forwards k q).next
  sound_next zero q h = h
  sound_next (suc k) q h = found_sound (reads_on devices forwards k) (λ x now. sound_next k x now) (request_at q.rest)
      (request_short q.rest) q h

  pub sound_asked : (bytes : List ℕ) (q : Asked) → IsSoundNext forwards q.next
      → IsSoundNext forwards (asks_with devices forwards bytes q).next
  sound_asked bytes q h = sound_next (length (q.rest ++ bytes)) (record q { rest = q.rest ++ bytes }) h

-- ---- no forward stands at port 0
pub none_at_zero : (forwards : List (ℕ × ForwardRow)) → AreForwards forwards → at 0 forwards ≡ None
none_at_zero [] all = refl
none_at_zero (e ∷ es) all =
    let some : 0 < e.0 = (All-head (λ entry. IsSpecification entry.0 entry.1.remote) e es all).port in
    ap (λ o. cond (is_eq o) (Some e.1) (at 0 es)) (sym (nat_cmp_is 0 e.0 Less some))
    ∙ none_at_zero es (All-tail (λ entry. IsSpecification entry.0 entry.1.remote) e es all)

-- the rows of a table of forwards can be forwards
pub table_forwards : (forwards : List (ℕ × ForwardRow)) → IsForwardTable forwards → AreForwards forwards
table_forwards forwards table =
    All-weaker (λ entry. IsRow entry.0 entry.1) (λ entry. IsSpecification entry.0 entry.1.remote)
    (λ entry (row : IsRow entry.0 entry.1). row.specification) forwards table.rows
