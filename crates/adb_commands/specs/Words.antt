-- Which command the words behind a program's name are.
use Rattle.std.specs.Prelude.{ℕ, ◌≡◌, List, Some, None, String}
use Rattle.adb_words.specs.Words.{command_of, texts}
use Rattle.adb_commands.specs.declared.script_kind.ScriptKind.{ScriptKind}
use Rattle.adb_commands.specs.declared.script_kind.ScriptKind.TheVariants as kinds
use Rattle.adb_words.specs.declared.command.Command.TheVariants.{Replay, Check, Gen, Local, Copy}

-- they are none
abbrev pub IsNoCommand : {A : Type 0} → List (String A) → Type 0
IsNoCommand words = command_of (texts words) ≡ None

-- a replay
abbrev pub IsReplay : {A : Type 0} → List (String A) → Type 0
IsReplay words = command_of (texts words) ≡ Some Replay

-- a history is judged
abbrev pub IsCheck : {A : Type 0} → List (String A) → Type 0
IsCheck words = command_of (texts words) ≡ Some Check

-- a load of this seed and so many streams
abbrev pub IsLoad : {A : Type 0} → (seed streams : ℕ) → List (String A) → Type 0
IsLoad seed streams words = command_of (texts words) ≡ Some (Gen seed streams)

-- a script is answered, with this seed
abbrev pub IsLocal : {A : Type 0} → (seed : ℕ) → List (String A) → Type 0
IsLocal seed words = command_of (texts words) ≡ Some (Local seed)

-- a tree is copied, with this seed
abbrev pub IsCopy : {A : Type 0} → (seed : ℕ) → List (String A) → Type 0
IsCopy seed words = command_of (texts words) ≡ Some (Copy seed)

-- a script of a kind is read, with some seed
abbrev pub IsOfKind : {A : Type 0} → ScriptKind → List (String A) → Type 0
IsOfKind kinds.Local words = (seed : ℕ) × IsLocal seed words
IsOfKind kinds.Copy words = (seed : ℕ) × IsCopy seed words

-- one of some kind
abbrev pub IsScript : {A : Type 0} → List (String A) → Type 0
IsScript words = (kind : ScriptKind) × IsOfKind kind words
