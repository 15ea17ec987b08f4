-- Arguments each of whose uses adds one value to those of its name.
use Rattle.std.proofs.Common.{◌≡◌, ◌||◌, Bool, true, false, cond, List, [], ◌∷◌, ◌++◌, map, filter, Some, None}
use Rattle.std.proofs.Common.{option_map, refl, sym, ◌∙◌, ap, append_assoc, append-nil, bytes_eq, unwrap_or, fold, subst, true≢false}
use Rattle.std.specs.Prelude.{if◌then◌else◌}
use Rattle.std.specs.List.{AllByRecursion}
use Rattle.std.proofs.lemmas.Slice.Eq.{bytes_eq-Decides}
use Rattle.clap.specs.Walk.{Rule, Row, Text, with_values, all_of, has_row, default_rows, reading_by, with_default, is_empty}
use Rattle.clap.specs.Simple.{filled, with_index}
use Rattle.clap.specs.Faults.{default_fault, defaults_fault, given_default_fault}
use Rattle.clap.specs.Kinds.{Kinds, or_else}
use Rattle.clap.specs.declared.builder.value_parser.Reading.TheVariants as reading
use Rattle.clap.specs.declared.parser.matches.ValueSource.TheVariants.{CommandLine}
use Rattle.adb_words.specs.Apps.{option_rule, flag_rule, operand_rule}
use Rattle.adb_words.specs.Given.{Given, values_of, is_one_of}

-- ---- names
pub is_itself : (name : Text) → bytes_eq name name ≡ true
is_itself name = (bytes_eq-Decides name name).1 refl

-- what holds of each name holds of one of them
pub each_named : (P : Text → Type 0) (names : List Text) (name : Text) → is_one_of names name ≡ true → AllByRecursion P names → P name
each_named P [] name e all = absurd (true≢false (sym e))
each_named P (n ∷ names) name e all = go (bytes_eq n name) refl e (λ h. each_named P names name h all.1)
  where
    go : (b : Bool) → bytes_eq n name ≡ b → (b || is_one_of names name) ≡ true → (is_one_of names name ≡ true → P name) → P name
    go true same h later = subst P ((bytes_eq-Decides n name).0 same) all.0
    go false other h later = later h

-- ---- what building makes of them
abbrev pub valued : Text → Rule
valued name = with_index 1 (filled (option_rule name))

abbrev pub flagged : Text → Rule
flagged name = with_index 1 (filled (flag_rule name))

abbrev pub placed : Text → Rule
placed name = with_index 1 (filled (operand_rule name))

-- ---- rows
-- the rows with one value more of a name
abbrev pub added : Text → Text → List Row → List Row
added name text rows = with_values name reading.AsWritten CommandLine (text ∷ []) rows

abbrev pub rows_with : Given → List Row → List Row
rows_with [] rows = rows
rows_with (g ∷ given) rows = rows_with given (added g.0 g.1 rows)

abbrev pub gathered : Text → List Row → List Text
gathered name rows = unwrap_or (all_of name rows) []

abbrev one_if : Bool → Text → List Text
one_if b text = if b then text ∷ [] else []

gathered_added : (name n text : Text) (rows : List Row) → gathered name (added n text rows)
    ≡ gathered name rows ++ one_if (bytes_eq n name) text
gathered_added name n text [] = go (bytes_eq n name)
  where
    go : (b : Bool) → unwrap_or (option_map (λ (r : Row). r.values) (cond b (Some (record {
      id = n;
      values = text ∷ [];
      count = None;
      source = Some CommandLine;
      reading = reading.AsWritten;
    })) None)) [] ≡ one_if b text
    go true = refl
    go false = refl
gathered_added name n text (r ∷ rows) = go (gathered_added name n text rows) (bytes_eq r.id n) (bytes_eq r.id name)
    (bytes_eq n name) refl refl refl
  where
    go : gathered name (added n text rows) ≡ gathered name rows ++ one_if (bytes_eq n name) text
        → (same is given : Bool) → bytes_eq r.id n ≡ same → bytes_eq r.id name ≡ is → bytes_eq n name ≡ given
        → gathered name (added n text (r ∷ rows)) ≡ gathered name (r ∷ rows) ++ one_if (bytes_eq n name) text
    go later true true given es ei eg =
        let both : bytes_eq n name ≡ true =
        (bytes_eq-Decides n name).1 (sym ((bytes_eq-Decides r.id n).0 es) ∙ (bytes_eq-Decides r.id name).0 ei) in
        rw (es, ei, both) refl
    go later true false given es ei eg =
        let apart : bytes_eq n name ≡ false =
        (ap (λ m. bytes_eq m name) (sym ((bytes_eq-Decides r.id n).0 es))) ∙ ei in
        rw (es, ei, apart) (sym (append-nil _))
    go later false true true es ei eg = absurd (true≢false (sym ((bytes_eq-Decides r.id n).1
        ((bytes_eq-Decides r.id name).0 ei ∙ sym ((bytes_eq-Decides n name).0 eg))) ∙ es))
    go later false true false es ei eg = rw (es, ei, eg) (sym (append-nil _))
    go later false false given es ei eg = rw (es, ei) later

pub gathered_with : (name : Text) (given : Given) (rows : List Row)
    → gathered name (rows_with given rows) ≡ gathered name rows ++ values_of name given
gathered_with name [] rows = sym (append-nil (gathered name rows))
gathered_with name (g ∷ given) rows =
    gathered_with name given (added g.0 g.1 rows)
    ∙ (ap (λ texts. texts ++ values_of name given) (gathered_added name g.0 g.1 rows)
    ∙ (append_assoc (gathered name rows) (one_if (bytes_eq g.0 name) g.1) (values_of name given)
    ∙ ap (λ texts. gathered name rows ++ texts) (first (bytes_eq g.0 name))))
  where
    first : (b : Bool) → one_if b g.1 ++ values_of name given
        ≡ map (λ (h : Text × Text). h.1) (cond b (g ∷ filter (λ h. bytes_eq h.0 name) given) (filter (λ h. bytes_eq h.0 name) given))
    first true = refl
    first false = refl

-- ---- none has a default
abbrev pub HasNoDefaults : List Rule → Type 0
HasNoDefaults = AllByRecursion (λ (a : Rule). a.defaults ≡ [])

no_default : (a : Rule) (rows : List Row) → a.defaults ≡ [] → default_fault rows a ≡ []
no_default a rows e =
    ap (λ defaults. if has_row a.id rows || is_empty defaults then [] else given_default_fault a defaults) e ∙ go (has_row a.id rows)
  where
    go : (b : Bool) → ◌≡◌ {A = Kinds} (if b || true then [] else given_default_fault a []) []
    go true = refl
    go false = refl

same_rows : (a : Rule) (rows : List Row) → a.defaults ≡ [] → with_default rows a ≡ rows
same_rows a rows e =
    ap (λ defaults. if has_row a.id rows then rows else default_rows a.id (reading_by a) defaults rows) e
    ∙ go (has_row a.id rows)
  where
    go : (b : Bool) → (if b then rows else rows) ≡ rows
    go true = refl
    go false = refl

pub no_defaults : (rules : List Rule) (rows : List Row) → HasNoDefaults rules → defaults_fault rows rules ≡ []
unfolding defaults_fault
no_defaults [] rows h = refl
no_defaults (a ∷ rules) rows h =
    ap (λ kinds. or_else kinds (defaults_fault (with_default rows a) rules)) (no_default a rows h.0)
    ∙ no_defaults rules (with_default rows a) h.1

pub finished_as : (rules : List Rule) (rows : List Row) → HasNoDefaults rules → fold with_default rows rules ≡ rows
finished_as [] rows h = refl
finished_as (a ∷ rules) rows h = ap (λ rs. fold with_default rs rules) (same_rows a rows h.0) ∙ finished_as rules rows h.1
