-- The lines of every script may stand there.
use Rattle.std.specs.Prelude.{ℕ, ◌*◌, ◌≡◌, ◌≤◌, ◌<◌, ◌&&◌, Bool, true, false, not, if◌then◌else◌, nat_lt, nat_le, nat_eq, bytes_eq, codes}
use Rattle.std.specs.Prelude.{List, [], ◌∷◌, ◌++◌, length, drop, Option, Some, None, option_to_list}
use Rattle.std.specs.List.{before_first, starts_with}
use Rattle.std.proofs.Common.{refl, arith}
use Rattle.std.proofs.lemmas.Bool.Decides.{nat_tests}
use Rattle.adb_script.specs.Answers.{sessions_of}
use Rattle.adb_script.specs.Lines.{Line, Pushes, Pulls, Stats, Lists, Runs, Asks, Echoes}
use Rattle.adb_script.specs.Lines.{is_word, count_of, path_line, push_line, echo_line, count_line, command_line, words_of, line_of_words}
use Rattle.adb_script.specs.Lines.{line_of}
use Rattle.adb_script.specs.Script.{is_newline, said, all_said, lines_in, lines_of}
use Rattle.adb_local.specs.Running.{AllMayStand, MayStand, sessions_in}

-- a line, where one is read
abbrev StandsIf : Option Line → Type 0
StandsIf None = Unit {0}
StandsIf (Some line) = MayStand line

by_test : (b : Bool) (x y : Option Line) → (b ≡ true → StandsIf x) → (b ≡ false → StandsIf y) → StandsIf (if b then x else y)
by_test true x y first other = first refl
by_test false x y first other = other refl

both : (a b : Bool) → (a && b) ≡ true → (a ≡ true) × (b ≡ true)
both true b e = (refl, e)
both false b e = absurd (let clash : false ≡ true = e in cc)

within : (n most : ℕ) → nat_le n most ≡ true → n ≤ most
within n most e = grind (arith, nat_tests)

some_of : (n : ℕ) → nat_lt 0 n ≡ true → 0 < n
some_of n e = grind (arith, nat_tests)

command_stands : (command : List ℕ) → StandsIf (command_line command)
command_stands command =
    by_test (is_word command) (Some (Asks (Runs command))) None
    (λ e. within (length command) 1000 (both (nat_lt 0 (length command)) (nat_le (length command) 1000) e).1) (λ e. tt)

path_stands : (name path : List ℕ) → StandsIf (path_line name path)
path_stands name path =
    let lists : Option Line = if bytes_eq name (codes "list") then Some (Asks (Lists path)) else None in
    let stats : Option Line = if bytes_eq name (codes "stat") then Some (Asks (Stats path)) else lists in
    let pulls : Option Line = if bytes_eq name (codes "pull") then Some (Asks (Pulls path)) else stats in
    by_test (not (is_word path)) None pulls (λ e. tt)
    (λ e. by_test (bytes_eq name (codes "pull")) (Some (Asks (Pulls path))) stats (λ e. tt)
    (λ e. by_test (bytes_eq name (codes "stat")) (Some (Asks (Stats path))) lists (λ e. tt)
    (λ e. by_test (bytes_eq name (codes "list")) (Some (Asks (Lists path))) None (λ e. tt) (λ e. tt))))

push_stands : (path : List ℕ) (size : Option ℕ) → StandsIf (push_line path size)
push_stands path None = tt
push_stands path (Some size) = by_test (is_word path && nat_le size 16777216) (Some (Asks (Pushes path size))) None (λ e. tt) (λ e. tt)

echo_stands : (streams size : Option ℕ) → StandsIf (echo_line streams size)
echo_stands None size = tt
echo_stands (Some streams) None = tt
echo_stands (Some streams) (Some size) =
    by_test (nat_lt 0 streams && nat_le streams 64 && nat_le (streams * size) 67108864) (Some (Echoes streams size)) None
    (λ e.
    let counts = both (nat_lt 0 streams) (nat_le streams 64)
    (both (nat_lt 0 streams && nat_le streams 64) (nat_le (streams * size) 67108864) e).0 in
    (some_of streams counts.0, within streams 64 counts.1))
    (λ e. tt)

count_stands : (name word count : List ℕ) → StandsIf (count_line name word count)
count_stands name word count =
    let echoes : Option Line = if bytes_eq name (codes "echo") then echo_line (count_of word) (count_of count) else None in
    by_test (bytes_eq name (codes "push")) (push_line word (count_of count)) echoes (λ e. push_stands word (count_of count))
    (λ e. by_test (bytes_eq name (codes "echo")) (echo_line (count_of word) (count_of count)) None
    (λ e. echo_stands (count_of word) (count_of count))
    (λ e. tt))

words_stand : (words : List (List ℕ)) → StandsIf (line_of_words words)
words_stand [] = tt
words_stand (name ∷ []) = tt
words_stand (name ∷ path ∷ []) = path_stands name path
words_stand (name ∷ word ∷ count ∷ []) = count_stands name word count
words_stand (name ∷ word ∷ count ∷ another ∷ more) = tt

line_stands : (text : List ℕ) → StandsIf (line_of text)
line_stands text =
    by_test (starts_with nat_eq text (codes "shell ")) (command_line (drop 6 text)) (line_of_words (words_of text))
    (λ e. command_stands (drop 6 text))
    (λ e. words_stand (words_of text))

all_said_stand : (lines : List (List ℕ)) → AllMayStand (all_said lines)
all_said_stand [] = tt
all_said_stand (line ∷ more) = go (said line) (line_stands (before_first is_newline line)) (all_said_stand more)
  where
    go : (o : Option Line) → StandsIf o → AllMayStand (all_said more) → AllMayStand (option_to_list o ++ all_said more)
    go None stands later = later
    go (Some one) stands later = (stands, later)

pub all_stand : (script : List ℕ) → AllMayStand (lines_in script)
all_stand script = all_said_stand (lines_of script)

-- 64 sessions a line, at most
few_sessions : (line : Line) → MayStand line → sessions_of line ≤ 64
few_sessions (Asks asked) stands = omega arith
few_sessions (Echoes streams size) stands = stands.1

pub few_in : (lines : List Line) → AllMayStand lines → sessions_in lines ≤ 64 * length lines
few_in [] stand = omega arith
few_in (line ∷ more) stand =
    let here = few_sessions line stand.0 in
    let rest = few_in more stand.1 in
    omega (arith, here, rest)
