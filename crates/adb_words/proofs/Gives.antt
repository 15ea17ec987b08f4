-- What a simple command makes of words whose options and operands each add one value.
use Rattle.std.proofs.Common.{ℕ, ◌≡◌, ◌≢◌, ◌&&◌, Bool, true, false, cond, nat_lt, List, [], ◌∷◌, Option, Some, None, fold, bytes_eq}
use Rattle.std.proofs.Common.{option_map, option_and_then, refl, sym, ◌∙◌, ap, subst, true≢false}
use Rattle.std.specs.Prelude.{if◌then◌else◌}
use Rattle.std.specs.Option.{option_map_or}
use Rattle.clap.specs.Lexer.{long_of}
use Rattle.clap.specs.Walk.{Held, Rule, Row, Text, Step, Walk, Waiting, idle, positional, walked, word_met, after_step, long_or_other}
use Rattle.clap.specs.Walk.{short_or_plain}
use Rattle.clap.specs.Walk.{long_word, long_met, after_flag, plain_word, option_word, pushed, to_positional, is_pending}
use Rattle.clap.specs.Walk.{settled, used_by_id, reacted, arg_by_id, arg_by_long, arg_by_index}
use Rattle.clap.specs.Walk as walk
use Rattle.clap.specs.Simple.{Shape}
use Rattle.clap.specs.Faults.{walk_fault, settle_fault, turn_fault, word_fault, step_fault, long_fault, use_fault, stray_fault}
use Rattle.clap.specs.Faults.{positional_fault}
use Rattle.clap.specs.Faults.{flag_word_fault, bundle_fault}
use Rattle.clap.specs.Kinds.{Kinds, or_else}
use Rattle.clap.specs.declared.error.kind.ErrorKind.{ErrorKind}
use Rattle.clap.specs.declared.error.kind.ErrorKind.TheVariants as kind
use Rattle.adb_words.specs.Words.{is_operand}
use Rattle.adb_words.specs.Given.{Layout, Part, Operand, Setting, Awaiting, Switch, Wrong, Given, also, given_by, given_behind}
use Rattle.adb_words.specs.Given.{is_one_of, part_of, hyphen_part}
use Rattle.adb_words.proofs.Plain.{IsPlain, plain, split}
use Rattle.adb_words.proofs.Parts.{IsLong, IsPart, view, hyphen_view, is_right_part, are_parts}
use Rattle.adb_words.proofs.Rules.{valued, flagged, placed, added, rows_with, is_itself, HasNoDefaults}

-- The arguments of a command are those of a layout.
pub record Fits (l : Layout) (s : Shape) : Type 0 where
  pub option_long : (name : Text) → is_one_of l.options name ≡ true → arg_by_long s.rules name ≡ Some (valued name)
  pub option_id : (name : Text) → is_one_of l.options name ≡ true → arg_by_id s.rules name ≡ Some (valued name)
  pub option_named : is_one_of l.options [] ≡ false
  pub flag_long : (name : Text) → is_one_of l.flags name ≡ true → arg_by_long s.rules name ≡ Some (flagged name)
  pub flag_named : is_one_of l.flags [] ≡ false
  pub place : arg_by_index s.rules 1 ≡ option_map placed l.operand
  pub operand_id : (name : Text) → l.operand ≡ Some name → arg_by_id s.rules name ≡ Some (placed name)
  pub leaf : s.is_leaf ≡ true
  pub defaults : HasNoDefaults s.rules

some_kinds : (k : ErrorKind) (kinds : Kinds) → ◌≡◌ {A = Kinds} (k ∷ kinds) [] → ⊥
some_kinds k kinds e = cc

or_none : (kinds : Kinds) → or_else kinds [] ≡ kinds
or_none [] = refl
or_none (k ∷ kinds) = refl

never_both : (b : Bool) → (b && false) ≡ false
never_both true = refl
never_both false = refl

-- between two words; `true` is behind an operand
abbrev pub rest : Bool → Waiting
rest true = positional
rest false = idle

abbrev pub at : Held → Waiting → Walk
at h waiting = record { held = h; waiting = waiting; position = 1; is_trailing = false; stopped = None }

-- where a walk stands: between two words, the last of them an operand or not; or behind an option that waits for its value
pub data Place : Type 0 where
  Between : (operand : Bool) → Held → Place
  Behind : (name : Text) → List Row → (skip : ℕ) → Place

abbrev pub waiting_at : Place → Waiting
waiting_at (Between b h) = rest b
waiting_at (Behind name rows skip) = walk.option name

abbrev pub awaited : Place → Option Text
awaited (Between b h) = None
awaited (Behind name rows skip) = Some name

module _ (l : Layout) (s : Shape) (fits : Fits l s) where
  -- what one word does
  record Turn (h : Held) (waiting : Waiting) (word : Text) (h' : Held) (waiting' : Waiting) (kinds : Kinds) : Type 0 where
    walks : walked s.rules [] (at h waiting) word ≡ at h' waiting'
    fails : turn_fault s [] (at h waiting) word ≡ kinds

  -- ---- a long option
  met_long : (waiting : Waiting) (word name : Text) (attached : Option Text) (h : Held) → IsLong word name attached
      → word_met s.rules [] false waiting 1 word h ≡ long_word s.rules waiting word name attached h
  met_long idle word name attached h p =
      ap (λ b. cond b (h, walk.trailing 1) (long_or_other s.rules idle word (long_of word) h)) p.dashes
      ∙ ap (λ o. long_or_other s.rules idle word o h) p.long
  met_long (walk.option id) word name attached h p =
      ap (λ b. cond b (h, walk.trailing 1) (long_or_other s.rules (walk.option id) word (long_of word) h)) p.dashes
      ∙ ap (λ o. long_or_other s.rules (walk.option id) word o h) p.long
  met_long positional word name attached h p =
      ap (λ b. cond b (h, walk.trailing 1) (long_or_other s.rules positional word (long_of word) h)) p.dashes
      ∙ ap (λ o. long_or_other s.rules positional word o h) p.long

  flag_fault : (word name : Text) (attached : Option Text) (h : Held) → IsLong word name attached
      → (if bytes_eq word (45 ∷ 45 ∷ []) then [] else flag_word_fault s.rules s.args_override_self (long_of word) word h)
      ≡ long_fault s.rules s.args_override_self (arg_by_long s.rules name) attached h
  flag_fault word name attached h p =
      ap (λ b. cond b [] (flag_word_fault s.rules s.args_override_self (long_of word) word h)) p.dashes
      ∙ ap (λ o. flag_word_fault s.rules s.args_override_self o word h) p.long

  fault_long : (waiting : Waiting) (word name : Text) (attached : Option Text) (h : Held) → IsLong word name attached
      → word_fault s [] false waiting word h ≡ long_fault s.rules s.args_override_self (arg_by_long s.rules name) attached h
  fault_long idle word name attached h p = flag_fault word name attached h p
  fault_long (walk.option id) word name attached h p = flag_fault word name attached h p
  fault_long positional word name attached h p = flag_fault word name attached h p

  -- what it is met as, by its rule
  abbrev met_by : Waiting → Text → Option Text → Held → Option Rule → Held × Step
  met_by waiting word attached h o =
      after_flag s.rules waiting word (long_met s.rules o attached h).0 (long_met s.rules o attached h).1

  abbrev failed_by : Waiting → Text → Option Text → Held → Option Rule → Kinds
  failed_by waiting word attached h o = or_else (long_fault s.rules s.args_override_self o attached h)
      (step_fault s 1 (met_by waiting word attached h o).0 (met_by waiting word attached h o).1)

  long_walks : (waiting : Waiting) (word name : Text) (attached : Option Text) (h : Held) (a : Rule) → IsLong word name attached
      → arg_by_long s.rules name ≡ Some a
      → walked s.rules [] (at h waiting) word
      ≡ after_step s.rules word (at h waiting) (met_by waiting word attached h (Some a)).0 (met_by waiting word attached h (Some a)).1
  unfolding walked
  long_walks waiting word name attached h a p is =
      ap (λ (met : Held × Step). after_step s.rules word (at h waiting) met.0 met.1)
      (met_long waiting word name attached h p ∙ ap (met_by waiting word attached h) is)

  long_fails : (waiting : Waiting) (word name : Text) (attached : Option Text) (h : Held) (a : Rule) → IsLong word name attached
      → arg_by_long s.rules name ≡ Some a → turn_fault s [] (at h waiting) word ≡ failed_by waiting word attached h (Some a)
  long_fails waiting word name attached h a p is =
      ap (λ (met : Held × Step). or_else (word_fault s [] false waiting word h) (step_fault s 1 met.0 met.1))
      (met_long waiting word name attached h p)
      ∙ (ap (λ kinds. or_else kinds (step_fault s 1 (met_by waiting word attached h (arg_by_long s.rules name)).0
      (met_by waiting word attached h (arg_by_long s.rules name)).1)) (fault_long waiting word name attached h p)
      ∙ ap (failed_by waiting word attached h) is)

  abbrev before : Held → Kinds
  before = settle_fault s.rules s.args_override_self

  setting_turn : (waiting : Waiting) (word name text : Text) (h : Held) → is_one_of l.options name ≡ true → IsLong word name (Some text)
      → Turn h waiting word (reacted s.rules (valued name) (text ∷ []) h) idle (before h)
  setting_turn waiting word name text h e p = record {
    walks = long_walks waiting word name (Some text) h (valued name) p (fits.option_long name e);
    fails = long_fails waiting word name (Some text) h (valued name) p (fits.option_long name e)
        ∙ (or_none (or_else (before h) []) ∙ or_none (before h));
  }

  awaiting_turn : (waiting : Waiting) (word name : Text) (h : Held) → is_one_of l.options name ≡ true → IsLong word name None
      → Turn h waiting word (record (settled s.rules h) { pending = Some (name, []) }) (walk.option name) (before h)
  awaiting_turn waiting word name h e p = record {
    walks = long_walks waiting word name None h (valued name) p (fits.option_long name e);
    fails = long_fails waiting word name None h (valued name) p (fits.option_long name e) ∙ or_none (before h);
  }

  switch_turn : (waiting : Waiting) (word name : Text) (h : Held) → is_one_of l.flags name ≡ true → IsLong word name None
      → Turn h waiting word (reacted s.rules (flagged name) [] h) idle (before h)
  switch_turn waiting word name h e p = record {
    walks = long_walks waiting word name None h (flagged name) p (fits.flag_long name e);
    fails = long_fails waiting word name None h (flagged name) p (fits.flag_long name e)
        ∙ (or_none (or_else (before h) []) ∙ or_none (before h));
  }

  -- ---- a word that is no option
  met_plain : (waiting : Waiting) (word : Text) (h : Held) → IsPlain word
      → word_met s.rules [] false waiting 1 word h ≡ plain_word s.rules waiting word h
  met_plain idle word h p =
      ap (λ b. cond b (h, walk.trailing 1) (long_or_other s.rules idle word (long_of word) h)) p.dashes
      ∙ (ap (λ o. long_or_other s.rules idle word o h) p.long ∙ ap (λ o. short_or_plain s.rules idle word o h) p.short)
  met_plain (walk.option id) word h p =
      ap (λ b. cond b (h, walk.trailing 1) (long_or_other s.rules (walk.option id) word (long_of word) h)) p.dashes
      ∙ (ap (λ o. long_or_other s.rules (walk.option id) word o h) p.long
      ∙ ap (λ o. short_or_plain s.rules (walk.option id) word o h) p.short)
  met_plain positional word h p =
      ap (λ b. cond b (h, walk.trailing 1) (long_or_other s.rules positional word (long_of word) h)) p.dashes
      ∙ (ap (λ o. long_or_other s.rules positional word o h) p.long ∙ ap (λ o. short_or_plain s.rules positional word o h) p.short)

  no_flag_fault : (word : Text) (h : Held) → IsPlain word
      → (if bytes_eq word (45 ∷ 45 ∷ []) then [] else flag_word_fault s.rules s.args_override_self (long_of word) word h) ≡ []
  no_flag_fault word h p =
      ap (λ b. cond b [] (flag_word_fault s.rules s.args_override_self (long_of word) word h)) p.dashes
      ∙ (ap (λ o. flag_word_fault s.rules s.args_override_self o word h) p.long
      ∙ ap (λ (o : Option Text). option_map_or (λ flags. bundle_fault s.rules s.args_override_self flags h) o []) p.short)

  no_fault : (waiting : Waiting) (word : Text) (h : Held) → IsPlain word → word_fault s [] false waiting word h ≡ []
  no_fault idle word h p = no_flag_fault word h p
  no_fault (walk.option id) word h p = no_flag_fault word h p
  no_fault positional word h p = no_flag_fault word h p

  plain_walks : (waiting : Waiting) (word : Text) (h : Held) (met : Held × Step) → IsPlain word → plain_word s.rules waiting word h ≡ met
      → walked s.rules [] (at h waiting) word ≡ after_step s.rules word (at h waiting) met.0 met.1
  unfolding walked
  plain_walks waiting word h met p is =
      ap (λ (met : Held × Step). after_step s.rules word (at h waiting) met.0 met.1) (met_plain waiting word h p ∙ is)

  plain_fails : (waiting : Waiting) (word : Text) (h : Held) (met : Held × Step) → IsPlain word → plain_word s.rules waiting word h ≡ met
      → turn_fault s [] (at h waiting) word ≡ step_fault s 1 met.0 met.1
  plain_fails waiting word h met p is =
      ap (λ (met : Held × Step). or_else (word_fault s [] false waiting word h) (step_fault s 1 met.0 met.1))
      (met_plain waiting word h p ∙ is)
      ∙ ap (λ kinds. or_else kinds (step_fault s 1 met.0 met.1)) (no_fault waiting word h p)

  -- the value of an option
  abbrev awaited_held : Text → List Row → ℕ → List Text → Held
  awaited_held name rows skip texts = record { rows = rows; pending = Some (name, texts); skip = skip }

  awaited_word : (name word : Text) (rows : List Row) (skip : ℕ) → is_one_of l.options name ≡ true
      → plain_word s.rules (walk.option name) word (awaited_held name rows skip [])
      ≡ (awaited_held name rows skip (word ∷ []), walk.next idle)
  awaited_word name word rows skip e =
      ap (λ o. (
        (option_word o name word (awaited_held name rows skip [])).0,
        walk.next
            (option_word o name word (awaited_held name rows skip [])).1,
      ))
      (fits.option_id name e)
      ∙ ap (λ b. (
        awaited_held name rows skip (word ∷ []),
        walk.next
            (if nat_lt (if b then 1 else 0) 1 then walk.option name else idle),
      )) (is_itself name)

  value_turn : (name word : Text) (rows : List Row) (skip : ℕ) → is_one_of l.options name ≡ true → IsPlain word
      → Turn (awaited_held name rows skip []) (walk.option name) word (awaited_held name rows skip (word ∷ [])) idle []
  value_turn name word rows skip e p = record {
    walks = plain_walks (walk.option name) word (awaited_held name rows skip []) _ p (awaited_word name word rows skip e);
    fails = plain_fails (walk.option name) word (awaited_held name rows skip []) _ p (awaited_word name word rows skip e);
  }

  -- an operand
  rest_word : (b : Bool) (word : Text) (h : Held) → plain_word s.rules (rest b) word h ≡ (h, walk.value)
  rest_word true word h = refl
  rest_word false word h = refl

  abbrev operand_held : Text → Text → Held → Held
  operand_held name word h = awaited_held name (settled s.rules h).rows h.skip (word ∷ [])

  operand_turn : (b : Bool) (name word : Text) (h : Held) → l.operand ≡ Some name → IsPlain word
      → Turn h (rest b) word (operand_held name word h) positional (before h)
  operand_turn b name word h e p = record {
    walks = plain_walks (rest b) word h _ p (rest_word b word h)
        ∙ (ap (λ o. to_positional s.rules o word (at h (rest b)) h) (fits.place ∙ ap (option_map placed) e)
        ∙ ap (λ t. at (pushed name word (if t then h else settled s.rules h)) positional)
        (never_both (is_pending (placed name) h.pending)));
    fails = plain_fails (rest b) word h _ p (rest_word b word h)
        ∙ (ap (λ o. option_map_or (λ a. positional_fault s.rules s.args_override_self a h) o (stray_fault s))
        (fits.place ∙ ap (option_map placed) e)
        ∙ ap (λ t. if t then [] else before h) (never_both (is_pending (placed name) h.pending)));
  }

  stray_fails : (b : Bool) (word : Text) (h : Held) → l.operand ≡ None → IsPlain word
      → turn_fault s [] (at h (rest b)) word ≡ kind.UnknownArgument ∷ []
  stray_fails b word h e p = plain_fails (rest b) word h _ p (rest_word b word h)
      ∙ (ap (λ o. option_map_or (λ a. positional_fault s.rules s.args_override_self a h) o (stray_fault s))
      (fits.place ∙ ap (option_map placed) e)
      ∙ ap (λ t. if t then kind.UnknownArgument ∷ [] else kind.UnknownArgument ∷ kind.InvalidSubcommand ∷ []) fits.leaf)

  -- ---- all words
  abbrev end : Held → Waiting → List Text → Held
  end h waiting words = (fold (walked s.rules []) (at h waiting) words).held

  -- what a walk comes to, from rows that stand behind what is pending
  abbrev pub Ends : List Row → Held → Waiting → List Text → Option Given → Type 0
  Ends rows h waiting words (Some given) = (walk_fault s [] (at h waiting) words ≡ []) × (before (end h waiting words) ≡ [])
      × ((settled s.rules (end h waiting words)).rows ≡ rows_with given rows)
  Ends rows h waiting words None = or_else (walk_fault s [] (at h waiting) words) (before (end h waiting words)) ≢ []

  step_fault_is : (h h' : Held) (waiting waiting' : Waiting) (word : Text) (words : List Text) → Turn h waiting word h' waiting' []
      → walk_fault s [] (at h waiting) (word ∷ words) ≡ walk_fault s [] (at h' waiting') words
  unfolding walk_fault
  step_fault_is h h' waiting waiting' word words t =
      ap (λ kinds. or_else kinds (walk_fault s [] (walked s.rules [] (at h waiting) word) words)) t.fails
      ∙ ap (λ (w : Walk). walk_fault s [] w words) t.walks

  end_is : (h h' : Held) (waiting waiting' : Waiting) (word : Text) (words : List Text) → Turn h waiting word h' waiting' []
      → end h waiting (word ∷ words) ≡ end h' waiting' words
  end_is h h' waiting waiting' word words t = ap (λ (w : Walk). (fold (walked s.rules []) w words).held) t.walks

  turned : (rows : List Row) (h h' : Held) (waiting waiting' : Waiting) (word : Text) (words : List Text) (o : Option Given)
      → Turn h waiting word h' waiting' [] → Ends rows h' waiting' words o → Ends rows h waiting (word ∷ words) o
  turned rows h h' waiting waiting' word words (Some given) t e =
      let faults = step_fault_is h h' waiting waiting' word words t in
      let ends = end_is h h' waiting waiting' word words t in
      (faults ∙ e.0, ap before ends ∙ e.1, ap (λ (h : Held). (settled s.rules h).rows) ends ∙ e.2)
  turned rows h h' waiting waiting' word words None t e = λ none.
      e (sym (ap (λ kinds. or_else kinds (before (end h waiting (word ∷ words)))) (step_fault_is h h' waiting waiting' word words t)
      ∙ ap (λ (h : Held). or_else (walk_fault s [] (at h' waiting') words) (before h)) (end_is h h' waiting waiting' word words t)) ∙ none)

  also_ends : (rows : List Row) (name text : Text) (h : Held) (waiting : Waiting) (words : List Text) (o : Option Given)
      → Ends (added name text rows) h waiting words o → Ends rows h waiting words (also name text o)
  also_ends rows name text h waiting words (Some given) e = e
  also_ends rows name text h waiting words None e = e

  -- a word that fails
  stops : (rows : List Row) (h : Held) (waiting : Waiting) (word : Text) (words : List Text) (k : ErrorKind) (kinds : Kinds)
      → turn_fault s [] (at h waiting) word ≡ k ∷ kinds → Ends rows h waiting (word ∷ words) None
  unfolding walk_fault
  stops rows h waiting word words k kinds is = λ none.
      some_kinds k kinds (sym (ap (λ (f : Kinds). or_else (or_else f (walk_fault s [] (walked s.rules [] (at h waiting) word) words))
      (before (end h waiting (word ∷ words)))) is) ∙ none)

  -- ---- the places between two words
  abbrev rows_at : Place → List Row
  rows_at (Between b h) = (settled s.rules h).rows
  rows_at (Behind name rows skip) = rows

  abbrev held_at : Place → Held
  held_at (Between b h) = h
  held_at (Behind name rows skip) = awaited_held name rows skip []

  abbrev IsClean : Place → Type 0
  IsClean (Between b h) = before h ≡ []
  IsClean (Behind name rows skip) = is_one_of l.options name ≡ true

  abbrev EndsAt : List Text → Place → Type 0
  EndsAt words p = Ends (rows_at p) (held_at p) (waiting_at p) words (given_behind l words (awaited p))

  clean_turn : (h h' : Held) (waiting waiting' : Waiting) (word : Text) (kinds : Kinds) → Turn h waiting word h' waiting' kinds → kinds ≡ []
      → Turn h waiting word h' waiting' []
  clean_turn h h' waiting waiting' word kinds t e = record { walks = t.walks; fails = t.fails ∙ e }

  -- a word that is an operand, or begins an option, between two words
  step : (b : Bool) (h : Held) (word : Text) (words : List Text) (part : Part) → before h ≡ [] → IsPart l.options l.flags word part
      → ((p : Place) → IsClean p → EndsAt words p) → Ends (settled s.rules h).rows h (rest b) (word ∷ words)
      (given_by l part word (given_behind l words))
  step b h word words Operand clean is further = go l.operand refl
    where
      go : (o : Option Text) → l.operand ≡ o
          → Ends (settled s.rules h).rows h (rest b) (word ∷ words) (option_and_then (λ name. also name word (given_behind l words None)) o)
      go (Some name) e =
          let rows : List Row = (settled s.rules h).rows in
          let id = fits.operand_id name e in
          let h' : Held = operand_held name word h in
          let clean' : before h' ≡ [] = ap (λ o. option_map_or (λ a. use_fault s.args_override_self a (word ∷ []) rows) o []) id in
          let rows' : (settled s.rules h').rows ≡ added name word rows = ap (λ o. used_by_id o (word ∷ []) rows) id in
          turned rows h h' (rest b) positional word words _
          (clean_turn h h' (rest b) positional word (before h) (operand_turn b name word h e (plain word is)) clean)
          (also_ends rows name word h' positional words (given_behind l words None)
          (subst (λ rs. Ends rs h' positional words (given_behind l words None)) rows' (further (Between true h') clean')))
      go None e = stops (settled s.rules h).rows h (rest b) word words kind.UnknownArgument [] (stray_fails b word h e (plain word is))
  step b h word words (Setting name text) clean is further =
      let rows : List Row = (settled s.rules h).rows in
      let h' : Held = reacted s.rules (valued name) (text ∷ []) h in
      turned rows h h' (rest b) idle word words _
      (clean_turn h h' (rest b) idle word (before h) (setting_turn (rest b) word name text h is.0 is.1) clean)
      (also_ends rows name text h' idle words (given_behind l words None) (further (Between false h') refl))
  step b h word words (Awaiting name) clean is further =
      let rows : List Row = (settled s.rules h).rows in
      let h' : Held = awaited_held name rows h.skip [] in
      turned rows h h' (rest b) (walk.option name) word words (given_behind l words (Some name))
      (clean_turn h h' (rest b) (walk.option name) word (before h) (awaiting_turn (rest b) word name h is.0 is.1) clean)
      (further (Behind name rows h.skip) is.0)
  step b h word words (Switch name) clean is further =
      let rows : List Row = (settled s.rules h).rows in
      let h' : Held = reacted s.rules (flagged name) [] h in
      turned rows h h' (rest b) idle word words _
      (clean_turn h h' (rest b) idle word (before h) (switch_turn (rest b) word name h is.0 is.1) clean)
      (also_ends rows name [] h' idle words (given_behind l words None) (further (Between false h') refl))
  step b h word words Wrong clean is further = absurd is

  -- an option that waits for its value fails at an option, and at the end
  lacking : (name : Text) (rows : List Row) (skip : ℕ) → is_one_of l.options name ≡ true
      → before (awaited_held name rows skip []) ≡ kind.InvalidValue ∷ []
  lacking name rows skip e = ap (λ o. option_map_or (λ a. use_fault s.args_override_self a [] rows) o []) (fits.option_id name e)

  lacks : (name : Text) (rows : List Row) (skip : ℕ) (word : Text) (words : List Text) (part : Part) → is_one_of l.options name ≡ true
      → is_operand word ≡ false → IsPart l.options l.flags word part
      → Ends rows (awaited_held name rows skip []) (walk.option name) (word ∷ words) None
  lacks name rows skip word words Operand e dash is = absurd (true≢false (sym is ∙ dash))
  lacks name rows skip word words (Setting other text) e dash is =
      stops rows (awaited_held name rows skip []) (walk.option name) word words kind.InvalidValue []
      ((setting_turn (walk.option name) word other text (awaited_held name rows skip []) is.0 is.1).fails ∙ lacking name rows skip e)
  lacks name rows skip word words (Awaiting other) e dash is =
      stops rows (awaited_held name rows skip []) (walk.option name) word words kind.InvalidValue []
      ((awaiting_turn (walk.option name) word other (awaited_held name rows skip []) is.0 is.1).fails ∙ lacking name rows skip e)
  lacks name rows skip word words (Switch other) e dash is =
      stops rows (awaited_held name rows skip []) (walk.option name) word words kind.InvalidValue []
      ((switch_turn (walk.option name) word other (awaited_held name rows skip []) is.0 is.1).fails ∙ lacking name rows skip e)
  lacks name rows skip word words Wrong e dash is = absurd is

  -- a word behind an option that waits for its value
  takes : (name : Text) (rows : List Row) (skip : ℕ) (word : Text) (words : List Text) → is_one_of l.options name ≡ true
      → is_right_part (part_of l.options l.flags word) ≡ true → ((p : Place) → IsClean p → EndsAt words p)
      → Ends rows (awaited_held name rows skip []) (walk.option name) (word ∷ words) (given_behind l (word ∷ words) (Some name))
  takes name rows skip word words e right further = go (is_operand word) refl right
    where
      go : (b : Bool) → is_operand word ≡ b → is_right_part (if b then Operand else hyphen_part l.options l.flags word) ≡ true
          → Ends rows (awaited_held name rows skip []) (walk.option name) (word ∷ words)
          (if b then also name word (given_behind l words None) else None)
      go true is h =
          let id = fits.option_id name e in
          let h' : Held = awaited_held name rows skip (word ∷ []) in
          let clean' : before h' ≡ [] = ap (λ o. option_map_or (λ a. use_fault s.args_override_self a (word ∷ []) rows) o []) id in
          let rows' : (settled s.rules h').rows ≡ added name word rows = ap (λ o. used_by_id o (word ∷ []) rows) id in
          turned rows (awaited_held name rows skip []) h' (walk.option name) idle word words _
          (value_turn name word rows skip e (plain word is))
          (also_ends rows name word h' idle words (given_behind l words None)
          (subst (λ rs. Ends rs h' idle words (given_behind l words None)) rows' (further (Between false h') clean')))
      go false is h = lacks name rows skip word words _ e is (hyphen_view l.options l.flags fits.option_named fits.flag_named word h)

  pub ends : (words : List Text) → are_parts l.options l.flags words ≡ true → (p : Place) → IsClean p → EndsAt words p
  unfolding walk_fault
  ends [] all (Between b h) clean = (refl, clean, refl)
  ends [] all (Behind name rows skip) clean = λ none. some_kinds kind.InvalidValue [] (sym (lacking name rows skip clean) ∙ none)
  ends (word ∷ words) all (Between b h) clean =
      let p = split _ _ all in
      step b h word words _ clean (view l.options l.flags fits.option_named fits.flag_named word p.0) (ends words p.1)
  ends (word ∷ words) all (Behind name rows skip) clean =
      let p = split _ _ all in
      takes name rows skip word words clean p.0 (ends words p.1)
