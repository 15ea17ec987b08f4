-- A word that is no option, in the parse of a simple command.
use Rattle.std.proofs.Common.{ℕ, ◌≡◌, ◌≢◌, ◌==◌, ◌&&◌, ◌⊎◌, inl, inr, Bool, true, false, not, cond, List, [], ◌∷◌, drop, Option, Some, None}
use Rattle.std.proofs.Common.{Result}
use Rattle.std.proofs.Common.{Err, String, refl, sym, ◌∙◌, ap, true≢false}
use Rattle.std.specs.Prelude.{string_bytes, option_and_then, bytes_eq, ok_or, if◌then◌else◌}
use Rattle.std.specs.List.{list_all}
use Rattle.std.specs.Option.{option_map_or}
use Rattle.clap.specs.Lexer.{long_of, long_of_rest, short_of, short_of_rest, strip_byte}
use Rattle.clap.specs.Walk.{Held, Rule, Text, Step, Walk, idle, value, trailing, word_met, walked, long_or_other, short_or_plain}
use Rattle.clap.specs.Walk.{to_positional}
use Rattle.clap.specs.Walk.{after_step, arg_by_index, nothing_held, walk, settled, finished}
use Rattle.clap.specs.Simple.{App, Shape, built, argument_words}
use Rattle.clap.specs.Faults.{fault_of, level_fault, walk_fault, settle_fault, defaults_fault, check_fault, turn_fault, word_fault}
use Rattle.clap.specs.Faults.{step_fault}
use Rattle.clap.specs.Faults.{flag_word_fault, bundle_fault}
use Rattle.clap.specs.Kinds.{Kinds, or_else}
use Rattle.clap.specs.declared.error.kind.ErrorKind.{ErrorKind}
use Rattle.clap.proofs.FaultLemmas.{leaf_fault}
use Rattle.adb_words.specs.declared.command.WordsError.{WordsError}
use Rattle.adb_words.specs.declared.command.WordsError.TheVariants.{Usage, OutOfMemory}
use Rattle.adb_words.specs.Words.{is_operand, are_operands, texts}

pub all_texts : {A : Type 0} (words : List (String A)) → are_operands words ≡ list_all is_operand (texts words)
all_texts [] = refl
all_texts (word ∷ words) = ap (λ all. is_operand (string_bytes word) && all) (all_texts words)

-- it is no flag, and not `--`
pub record IsPlain (word : Text) : Type 0 where
  pub long : long_of word ≡ None
  pub short : short_of word ≡ None
  pub dashes : bytes_eq word (45 ∷ 45 ∷ []) ≡ false

pub plain : (word : Text) → is_operand word ≡ true → IsPlain word
plain [] e = record { long = refl; short = refl; dashes = refl }
plain (x ∷ xs) e = go (x == 45) refl e
  where
    go : (b : Bool) → (x == 45) ≡ b → not b ≡ true → IsPlain (x ∷ xs)
    go true is no_dash = absurd (true≢false (sym no_dash))
    go false is no_dash = record {
      long = ap (λ b. option_and_then long_of_rest (option_and_then (strip_byte 45) (cond b (Some xs) None))) is;
      short = ap (λ b. option_and_then short_of_rest (cond b (Some xs) None)) is;
      dashes = ap (λ b. b && bytes_eq xs (45 ∷ [])) is;
    }

-- a parse before the word at a place
abbrev pub at_place : Held → ℕ → Walk
at_place h place = record { held = h; waiting = idle; position = place; is_trailing = false; stopped = None }

pub met_plain : (rules : List Rule) (place : ℕ) (word : Text) (h : Held) → IsPlain word
    → word_met rules [] false idle place word h ≡ (h, value)
met_plain rules place word h p =
    ap (λ b. cond b (h, trailing place) (long_or_other rules idle word (long_of word) h)) p.dashes
    ∙ (ap (λ o. long_or_other rules idle word o h) p.long ∙ ap (λ o. short_or_plain rules idle word o h) p.short)

-- it goes to the argument of its place
pub walked_plain : (rules : List Rule) (place : ℕ) (word : Text) (h : Held) → IsPlain word
    → walked rules [] (at_place h place) word ≡ to_positional rules (arg_by_index rules place) word (at_place h place) h
unfolding walked
walked_plain rules place word h p =
    ap (λ (met : Held × Step). after_step rules word (at_place h place) met.0 met.1) (met_plain rules place word h p)

-- and fails where there is none, or where the word before it failed
pub fault_plain : (s : Shape) (place : ℕ) (word : Text) (h : Held) → IsPlain word
    → turn_fault s [] (at_place h place) word ≡ step_fault s place h value
fault_plain s place word h p =
    ap (λ (met : Held × Step). or_else (word_fault s [] false idle word h) (step_fault s place met.0 met.1))
    (met_plain s.rules place word h p)
    ∙ ap (λ (kinds : Kinds). or_else kinds (step_fault s place h value)) passes
  where
    passes : word_fault s [] false idle word h ≡ []
    passes =
        ap (λ b. cond b [] (flag_word_fault s.rules s.args_override_self (long_of word) word h)) p.dashes
        ∙ (ap (λ o. flag_word_fault s.rules s.args_override_self o word h) p.long
        ∙ ap (λ (o : Option Text). option_map_or (λ flags. bundle_fault s.rules s.args_override_self flags h) o []) p.short)

-- ---- a command with no subcommand that is given the words behind its name
-- the faults of all words, and what fails behind them
abbrev pub behind : Shape → Kinds → Held → Kinds
behind s kinds h = or_else kinds (or_else (settle_fault s.rules s.args_override_self h)
    (or_else (defaults_fault (settled s.rules h).rows s.rules) (check_fault s (finished s.rules h) false)))

pub fault_is : (app : App) (words : List Text) → (built app).subs ≡ [] → app.top.no_binary_name ≡ true → fault_of app words
    ≡ behind (built app).top (walk_fault (built app).top [] (at_place nothing_held 1) words)
    (walk (built app).top.rules [] nothing_held words).held
fault_is app words alone given =
    leaf_fault (built app) nothing_held (argument_words app words) alone
    ∙ ap (λ b. level_fault (built app).top [] nothing_held (if b then words else drop 1 words) false []) given

-- ---- kinds, and answers
pub filled : (k : ErrorKind) → ◌≡◌ {A = Kinds} (k ∷ []) [] → ⊥
filled k e = cc

pub split : (a b : Bool) → (a && b) ≡ true → (a ≡ true) × (b ≡ true)
split true true e = (refl, refl)
split true false e = absurd (true≢false (sym e))
split false b e = absurd (true≢false (sym e))

-- a refusal is one for a value that is not there
pub refusal : {V : Type 0} (error : WordsError) (o : Option V) → (error ≡ Usage → o ≡ None)
    → ◌≢◌ {A = Result V WordsError} (Err error) (Err OutOfMemory) → ◌≡◌ {A = Result V WordsError} (Err error) (ok_or o Usage)
refusal Usage o none some = ap (λ v. ok_or v Usage) (sym (none refl))
refusal OutOfMemory o none some = absurd (some refl)

pub same_error : {V E : Type 0} (e f : E) → ◌≡◌ {A = Result V E} (Err e) (Err f) → e ≡ f
same_error e f is = cc

-- why words were refused, as texts
pub refused_texts : {A : Type 0} (words : List (String A)) (kinds : Kinds) → (are_operands words ≡ false) ⊎ (kinds ≢ [])
    → (list_all is_operand (texts words) ≡ false) ⊎ (kinds ≢ [])
refused_texts words kinds (inl e) = inl (sym (all_texts words) ∙ e)
refused_texts words kinds (inr some) = inr some
