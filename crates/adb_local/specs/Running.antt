-- Scripts that run in a world.
use Rattle.std.specs.Prelude.{ℕ, ◌+◌, ◌≡◌, ◌⊎◌, ◌≤◌, ◌<◌, true, List, [], ◌∷◌, length, drop, Option, Some, None}
use Rattle.adb_files.specs.Entries.{Entry}
use Rattle.adb_shell_service.specs.Commands.{files_left, words_of}
use Rattle.adb_script.specs.Answers.{answers_from, line_answer, sessions_of, text_of}
use Rattle.adb_script.specs.Lines.{Line, Asked, Pushes, Pulls, Stats, Lists, Runs, Asks, Echoes}
use Rattle.adb_world.specs.Settled.{IsCounted, IsSettled}
use Rattle.adb_world.specs.Stopped.{IsServedInPart}
use Rattle.adb_world.specs.World.{View}

-- a world in which all that was started has settled, and that keeps no session
pub record IsIdle (world : View) : Type 0 where
  pub rests : world.settled ≡ true
  pub empty : world.sessions ≡ []
  pub calm : IsSettled world
  pub counted : IsCounted world

-- a world as it is made: nothing was given to it, and its device has no files
pub record IsNew (world : View) : Type 0 where
  pub idle : IsIdle world
  pub given : world.given ≡ 0
  pub files : world.files ≡ []

-- how many sessions lines have
abbrev pub sessions_in : List Line → ℕ
sessions_in [] = 0
sessions_in (line ∷ more) = sessions_of line + sessions_in more

-- what a session may be asked: a command of at most 1,000 bytes
abbrev pub MayAsk : Asked → Type 0
MayAsk (Pushes path size) = Unit {0}
MayAsk (Pulls path) = Unit {0}
MayAsk (Stats path) = Unit {0}
MayAsk (Lists path) = Unit {0}
MayAsk (Runs command) = length command ≤ 1000

-- a line that may stand in a script has one session, or 1 to 64 streams
abbrev pub MayStand : Line → Type 0
MayStand (Asks asked) = MayAsk asked
MayStand (Echoes streams size) = (0 < streams) × (streams ≤ 64)

abbrev pub AllMayStand : List Line → Type 0
AllMayStand [] = Unit {0}
AllMayStand (line ∷ more) = MayStand line × AllMayStand more

-- The line of a number was run: its sessions were given, and are kept no more, and the files are those that it leaves.
pub record RunsLine (number : ℕ) (line : Line) (old new : View) : Type 0 where
  pub idle : IsIdle new
  pub files : new.files ≡ (line_answer old.files number line).files
  pub given : new.given ≡ old.given + sessions_of line

-- ---- an allocation failure
-- The files of a line that ran in part: those after a prefix of the whole requests that it writes, or those before or after its command.
abbrev pub IsAskedInPart : ℕ → Asked → (files left : List Entry) → Type 0
IsAskedInPart number (Pushes path size) files left = IsServedInPart files left (text_of number (Pushes path size))
IsAskedInPart number (Pulls path) files left = IsServedInPart files left (text_of number (Pulls path))
IsAskedInPart number (Stats path) files left = IsServedInPart files left (text_of number (Stats path))
IsAskedInPart number (Lists path) files left = IsServedInPart files left (text_of number (Lists path))
IsAskedInPart number (Runs command) files left = (left ≡ files) ⊎ (left ≡ files_left files (words_of command))

abbrev pub IsLineInPart : ℕ → Line → (files left : List Entry) → Type 0
IsLineInPart number (Asks asked) files left = IsAskedInPart number asked files left
IsLineInPart number (Echoes streams size) files left = left ≡ files

-- The files of lines of which the last that ran did so in part, from a number on.
abbrev pub IsRunInPart : ℕ → List Line → (files left : List Entry) → Type 0
IsRunInPart number [] files left = left ≡ files
IsRunInPart number (line ∷ more) files left =
    IsLineInPart number line files left ⊎ IsRunInPart (number + 1) more (line_answer files number line).files left

-- ---- a script that is run line by line
-- the lines that are still to be run, and the number of the first of them
pub record LinesLeft : Type 0 where
  pub number : ℕ
  pub lines : List Line

abbrev pub all_left : List Line → LinesLeft
all_left lines = record { number = 1; lines = lines }

-- the lines after the first ones
abbrev pub left_after : ℕ → List Line → LinesLeft
left_after done lines = record { number = done + 1; lines = drop done lines }

-- the answer lines that are still to come, over the files of a world
abbrev pub answers_left : LinesLeft → View → List (List ℕ)
answers_left left world = answers_from left.number world.files left.lines

-- The first of the lines was run: its answer is the first of those that were still to come.
pub record RunsFirst (answer : List ℕ) (old new : LinesLeft) (before after : View) : Type 0 where
  pub idle : IsIdle after
  pub line : Line
  pub first : old.lines ≡ line ∷ new.lines
  pub number : new.number ≡ old.number + 1
  pub files : after.files ≡ (line_answer before.files old.number line).files
  pub answers : answer ∷ answers_left new after ≡ answers_left old before
  pub given : after.given + sessions_in new.lines ≡ before.given + sessions_in old.lines
  pub fewer : length old.lines ≡ length new.lines + 1

-- The next line was run and answered, if there was one.
abbrev pub RunsNext : Option (List ℕ) → (old new : LinesLeft) → (before after : View) → Type 0
RunsNext None old new before after = (old.lines ≡ []) × (new ≡ old) × (after ≡ before)
RunsNext (Some answer) old new before after = RunsFirst answer old new before after
