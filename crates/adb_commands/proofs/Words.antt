-- The words are those of the command that was read.
use Rattle.std.proofs.Common.{◌≡◌, ◌≢◌, Option, Some, None, Result, Ok, Err, refl, ◌∙◌, sym}
use Rattle.std.specs.Prelude.{ok_or}
use Rattle.adb_words.specs.declared.command.Command.{Command}
use Rattle.adb_words.specs.declared.command.WordsError.{WordsError}
use Rattle.adb_words.specs.declared.command.WordsError.TheVariants as words

read_so : (result : Result Command WordsError) (command : Command) → result ≡ Ok command
    → ◌≢◌ {A = Result Command WordsError} result (Err words.OutOfMemory)
read_so result command is out = let clash : ◌≡◌ {A = Result Command WordsError} (Ok command) (Err words.OutOfMemory) = sym is ∙ out in cc

pub words_named : (named : Option Command) (result : Result Command WordsError) (command : Command)
    → (◌≢◌ {A = Result Command WordsError} result (Err words.OutOfMemory) → result ≡ ok_or named words.Usage)
    → result ≡ Ok command → named ≡ Some command
words_named None result command told is =
    absurd (let clash : ◌≡◌ {A = Result Command WordsError} (Ok command) (Err words.Usage) =
    sym is ∙ told (read_so result command is) in cc)
words_named (Some named) result command told is =
    let same : ◌≡◌ {A = Result Command WordsError} (Ok named) (Ok command) = sym (told (read_so result command is)) ∙ is in cc

pub none_named : (named : Option Command) (result : Result Command WordsError)
    → (◌≢◌ {A = Result Command WordsError} result (Err words.OutOfMemory) → result ≡ ok_or named words.Usage)
    → result ≡ Err words.Usage → named ≡ None
none_named None result told is = refl
none_named (Some named) result told is =
    absurd (let clash : ◌≡◌ {A = Result Command WordsError} (Ok named) (Err words.Usage) =
    sym (told other) ∙ is in cc)
  where
    other : ◌≢◌ {A = Result Command WordsError} result (Err words.OutOfMemory)
    other out = let clash : ◌≡◌ {A = Result Command WordsError} (Err words.Usage) (Err words.OutOfMemory) = sym is ∙ out in cc
