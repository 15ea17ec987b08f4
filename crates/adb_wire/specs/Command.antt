-- The commands of packets and their words (protocol.txt).
use Rattle.std.specs.Prelude.{ℕ, List, [], ◌∷◌, Option, nat_eq, find}
use Rattle.adb_wire.specs.declared.command.Command.{Command}
use Rattle.adb_wire.specs.declared.command.Command.TheVariants.{Cnxn, Open, Okay, Wrte, Clse, Auth, Stls}

-- the word of a command
abbrev pub word_of : Command → ℕ
word_of Cnxn = 0x4e584e43
word_of Open = 0x4e45504f
word_of Okay = 0x59414b4f
word_of Wrte = 0x45545257
word_of Clse = 0x45534c43
word_of Auth = 0x48545541
word_of Stls = 0x534c5453

abbrev pub commands : List Command
commands = Cnxn ∷ Open ∷ Okay ∷ Wrte ∷ Clse ∷ Auth ∷ Stls ∷ []

-- the command of a word, if it is one
abbrev pub command_of : ℕ → Option Command
command_of word = find (λ c. nat_eq word (word_of c)) commands
