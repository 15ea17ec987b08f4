-- What the words of options and operands are to a simple command.
use Rattle.std.proofs.Common.{ℕ, ◌≡◌, ◌≢◌, ◌+◌, ◌==◌, ◌&&◌, ◌||◌, Bool, true, false, cond, List, [], ◌∷◌, take, drop, length, position}
use Rattle.std.proofs.Common.{nat_lt}
use Rattle.std.proofs.Common.{Option, Some, None, String, string_bytes, refl, sym, ◌∙◌, ap, ap₂, bytes_eq, true≢false, zero, suc, not}
use Rattle.std.proofs.Common.{one-add}
use Rattle.std.proofs.lemmas.Bool.Decides.{nat_tests}
use native.Mathlib.Omega.{arith}
use Rattle.std.specs.Prelude.{if◌then◌else◌, option_and_then}
use Rattle.std.specs.List.{list_all, position_or_len, before_first}
use Rattle.clap.specs.Lexer.{long_of, long_of_rest, name_and_value, has_byte, strip_byte}
use Rattle.clap.specs.Walk.{Text}
use Rattle.adb_words.specs.Words.{is_operand, texts}
use Rattle.adb_words.specs.Found.{is_known_at, is_known_option, is_known, are_known, equals_at}
use Rattle.adb_words.specs.Given.{Part, Operand, Setting, Awaiting, Switch, Wrong, is_one_of, option_part, hyphen_part, part_of}

abbrev pub is_right_part : Part → Bool
is_right_part Wrong = false
is_right_part _ = true

-- whether each word is an operand, or an option or a flag of these
abbrev pub are_parts : List Text → List Text → List Text → Bool
are_parts options flags words = list_all (λ word. is_right_part (part_of options flags word)) words

-- ---- as code has it
module _ (options flags : List Text) where
  known_at : (text : Text) (equals : Option ℕ) → is_known_at options flags text equals
      ≡ is_right_part (option_part options flags text equals)
  known_at text (Some at) = go (is_one_of options (take at text))
    where
      go : (b : Bool) → b ≡ is_right_part (if b then Setting (take at text) (drop (at + 1) text) else Wrong)
      go true = refl
      go false = refl
  known_at text None = go (is_one_of options text) (is_one_of flags text)
    where
      go : (b c : Bool) → (b || c) ≡ is_right_part (if b then Awaiting text else (if c then Switch text else Wrong))
      go true c = refl
      go false true = refl
      go false false = refl

  known_option : (word : Text) → is_known_option options flags word ≡ is_right_part (hyphen_part options flags word)
  known_option [] = refl
  known_option (a ∷ []) = refl
  known_option (a ∷ b ∷ text) = go (a == 45 && b == 45)
    where
      go : (c : Bool) → (if c then is_known_at options flags text (equals_at text) else false)
          ≡ is_right_part (if c then option_part options flags text (position (λ byte. byte == 61) text) else Wrong)
      go true = known_at text (equals_at text)
      go false = refl

  known_part : (word : Text) → is_known options flags word ≡ is_right_part (part_of options flags word)
  known_part word = go (is_operand word)
    where
      go : (b : Bool) → (b || is_known_option options flags word) ≡ is_right_part (if b then Operand else hyphen_part options flags word)
      go true = refl
      go false = known_option word

  pub known_parts : {A : Type 0} (words : List (String A)) → are_known options flags words ≡ are_parts options flags (texts words)
  known_parts [] = refl
  known_parts (word ∷ words) = ap₂ ◌&&◌ (known_part (string_bytes word)) (known_parts words)

-- ---- where a name ends
lt_suc : (n m : ℕ) → nat_lt (suc n) (suc m) ≡ nat_lt n m
lt_suc n m = grind (arith, nat_tests)

zero_lt : (m : ℕ) → nat_lt 0 (suc m) ≡ true
zero_lt m = grind (arith, nat_tests)

within : (b h : Bool) (n m : ℕ) → nat_lt n m ≡ h → nat_lt (cond (not b) (1 + n) 0) (suc m) ≡ (b || h)
within true h n m e = zero_lt m
within false h n m e = ap (λ k. nat_lt k (suc m)) (one-add n) ∙ (lt_suc n m ∙ e)

any_within : (text : Text) → nat_lt (position_or_len (λ byte. byte == 61) text) (length text) ≡ has_byte 61 text
any_within [] = refl
any_within (x ∷ text) = within (x == 61) (has_byte 61 text) (position_or_len (λ byte. byte == 61) text) (length text) (any_within text)

front : (b : Bool) (n x : ℕ) (text : Text) → b ≡ false → take n text ≡ text → take (cond (not b) (1 + n) 0) (x ∷ text) ≡ x ∷ text
front true n x text e h = absurd (true≢false e)
front false n x text e h = ap (λ k. take k (x ∷ text)) (one-add n) ∙ ap (λ t. x ∷ t) h

neither : (b c : Bool) → (b || c) ≡ false → (b ≡ false) × (c ≡ false)
neither true c e = absurd (true≢false e)
neither false c e = (refl, e)

none_before : (text : Text) → has_byte 61 text ≡ false → before_first (λ byte. byte == 61) text ≡ text
none_before [] e = refl
none_before (x ∷ text) e =
    let p = neither (x == 61) (has_byte 61 text) e in
    front (x == 61) (position_or_len (λ byte. byte == 61) text) x text p.0 (none_before text p.1)

-- the name of an option, and its value where one is attached
abbrev pub split_at : Text → Option ℕ → Text × Option Text
split_at text None = (text, None)
split_at text (Some at) = (take at text, Some (drop (at + 1) text))

split_is : (text : Text) → split_at text (position (λ byte. byte == 61) text) ≡ name_and_value text
split_is text = go (has_byte 61 text) refl
  where
    ends : ℕ
    ends = position_or_len (λ byte. byte == 61) text

    name : Bool → Text × Option Text
    name b = (before_first (λ byte. byte == 61) text, if b then Some (drop (ends + 1) text) else None)

    go : (b : Bool) → has_byte 61 text ≡ b → split_at text (cond (nat_lt ends (length text)) (Some ends) None) ≡ name (has_byte 61 text)
    go true e = ap (λ b. split_at text (cond b (Some ends) None)) (any_within text ∙ e) ∙ ap name (sym e)
    go false e = ap (λ b. split_at text (cond b (Some ends) None)) (any_within text ∙ e)
        ∙ (ap (λ t. (t, None)) (sym (none_before text e)) ∙ ap name (sym e))

-- ---- words that are options
pub record IsLong (word name : Text) (attached : Option Text) : Type 0 where
  pub long : long_of word ≡ Some (name, attached)
  pub dashes : bytes_eq word (45 ∷ 45 ∷ []) ≡ false

opened : (a b : ℕ) (text : Text) (split : Text × Option Text) → (a == 45) ≡ true → (b == 45) ≡ true → text ≢ []
    → name_and_value text ≡ split
    → IsLong (a ∷ b ∷ text) split.0 split.1
opened a b [] split ea eb some is = absurd (some refl)
opened a b (x ∷ text) split ea eb some is = record {
  long = ap (λ t. option_and_then long_of_rest (option_and_then (strip_byte 45) (cond t (Some (b ∷ x ∷ text)) None))) ea
      ∙ (ap (λ t. option_and_then long_of_rest (cond t (Some (x ∷ text)) None)) eb ∙ ap Some is);
  dashes = ap (λ t. t && ((b == 45) && false)) ea ∙ ap (λ t. t && false) eb;
}

-- what is known of a word by what it is
abbrev pub IsPart : List Text → List Text → Text → Part → Type 0
IsPart options flags word Operand = is_operand word ≡ true
IsPart options flags word (Setting name text) = (is_one_of options name ≡ true) × IsLong word name (Some text)
IsPart options flags word (Awaiting name) = (is_one_of options name ≡ true) × IsLong word name None
IsPart options flags word (Switch name) = (is_one_of flags name ≡ true) × IsLong word name None
IsPart options flags word Wrong = ⊥

module _ (options flags : List Text) (named : is_one_of options [] ≡ false) (flagged : is_one_of flags [] ≡ false) where
  some_name : (names : List Text) (text : Text) → is_one_of names [] ≡ false → is_one_of names text ≡ true → text ≢ []
  some_name names text none e is = absurd (true≢false (sym e ∙ (ap (is_one_of names) is ∙ none)))

  -- the front of a text that has bytes has some, or it is no name
  some_text : (names : List Text) (at : ℕ) (text : Text) → is_one_of names [] ≡ false → is_one_of names (take at text) ≡ true → text ≢ []
  some_text names at text none e is = some_name names (take at text) none e (ap (take at) is ∙ empty at)
    where
      empty : (n : ℕ) → ◌≡◌ {A = Text} (take n []) []
      empty zero = refl
      empty (suc n) = refl

  option_view : (a b : ℕ) (text : Text) (at : Option ℕ) → (a == 45) ≡ true → (b == 45) ≡ true → position (λ byte. byte == 61) text ≡ at
      → is_right_part (option_part options flags text at) ≡ true → IsPart options flags (a ∷ b ∷ text) (option_part options flags text at)
  option_view a b text (Some at) ea eb is right = go (is_one_of options (take at text)) refl right
    where
      go : (known : Bool) → is_one_of options (take at text) ≡ known
          → is_right_part (if known then Setting (take at text) (drop (at + 1) text) else Wrong) ≡ true
          → IsPart options flags (a ∷ b ∷ text) (if known then Setting (take at text) (drop (at + 1) text) else Wrong)
      go true e h = (
        e,
        opened a b text (split_at text (Some at)) ea eb (some_text options at text named e)
            (sym (split_is text) ∙ ap (split_at text) is),
      )
      go false e h = true≢false (sym h)
  option_view a b text None ea eb is right = go (is_one_of options text) (is_one_of flags text) refl refl right
    where
      long : text ≢ [] → IsLong (a ∷ b ∷ text) text None
      long some = opened a b text (split_at text None) ea eb some (sym (split_is text) ∙ ap (split_at text) is)

      go : (known switch : Bool) → is_one_of options text ≡ known → is_one_of flags text ≡ switch
          → is_right_part (if known then Awaiting text else (if switch then Switch text else Wrong)) ≡ true
          → IsPart options flags (a ∷ b ∷ text) (if known then Awaiting text else (if switch then Switch text else Wrong))
      go true switch e f h = (e, long (some_name options text named e))
      go false true e f h = (f, long (some_name flags text flagged f))
      go false false e f h = true≢false (sym h)

  pub hyphen_view : (word : Text) → is_right_part (hyphen_part options flags word) ≡ true
      → IsPart options flags word (hyphen_part options flags word)
  hyphen_view [] right = true≢false (sym right)
  hyphen_view (a ∷ []) right = true≢false (sym right)
  hyphen_view (a ∷ b ∷ text) right = go (a == 45) (b == 45) refl refl right
    where
      part : Part
      part = option_part options flags text (position (λ byte. byte == 61) text)

      go : (s t : Bool) → (a == 45) ≡ s → (b == 45) ≡ t → is_right_part (if s && t then part else Wrong) ≡ true
          → IsPart options flags (a ∷ b ∷ text) (if s && t then part else Wrong)
      go true true ea eb h = option_view a b text (position (λ byte. byte == 61) text) ea eb refl h
      go true false ea eb h = true≢false (sym h)
      go false t ea eb h = true≢false (sym h)

  pub view : (word : Text) → is_right_part (part_of options flags word) ≡ true → IsPart options flags word (part_of options flags word)
  view word right = go (is_operand word) refl right
    where
      go : (b : Bool) → is_operand word ≡ b → is_right_part (if b then Operand else hyphen_part options flags word) ≡ true
          → IsPart options flags word (if b then Operand else hyphen_part options flags word)
      go true e h = e
      go false e h = hyphen_view word h
