-- Headers: six little-endian words (protocol.txt), and what 24 bytes say.
use Rattle.std.specs.Prelude.{ℕ, ◌*◌, ◌^◌, ◌%◌, ◌<◌, ◌≤◌, List, [], ◌∷◌, drop, Option, Some, None, Result, Ok, Err, if◌then◌else◌, ◌==◌}
use Rattle.std.specs.Prelude.{not, nat_lt, bit_xor, sum}
use Rattle.std.specs.List.{flat_map, All}
use Rattle.byteorder.specs.Endian.{little_bytes, little_number}
use Rattle.adb_wire.specs.declared.command.Command.{Command}
use Rattle.adb_wire.specs.declared.headers.Head.{Head}
use Rattle.adb_wire.specs.declared.headers.HeadFault.{HeadFault}
use Rattle.adb_wire.specs.declared.headers.TheConstants.{MAX_PAYLOAD}
use Rattle.adb_wire.specs.declared.headers.HeadFault.TheVariants.{BadMagic, UnknownCommand, TooLong}
use Rattle.adb_wire.specs.Command.{word_of, command_of}

-- every byte is below 256
abbrev pub IsBytes : List ℕ → Type 0
IsBytes bytes = All (λ b. b < 256) bytes

-- the sum of the bytes modulo 2^32
abbrev pub byte_sum_of : List ℕ → ℕ
byte_sum_of bytes = sum bytes % 2 ^ 32

-- the magic word of a command's word: all bits are turned
abbrev pub magic_of : ℕ → ℕ
magic_of word = bit_xor word 0xffffffff

-- Its numbers are words, and its length is allowed.
pub record IsHead (head : Head) : Type 0 where
  pub arg0 : head.arg0 < 2 ^ 32
  pub arg1 : head.arg1 < 2 ^ 32
  pub size : head.length ≤ MAX_PAYLOAD
  pub check : head.check < 2 ^ 32

-- the words of a header
abbrev pub words_of : Head → List ℕ
words_of head = word_of head.command ∷ head.arg0 ∷ head.arg1 ∷ head.length ∷ head.check ∷ magic_of (word_of head.command) ∷ []

-- the 24 bytes of a header
abbrev pub header_bytes : Head → List ℕ
header_bytes head = flat_map (little_bytes 4) (words_of head)

-- the word at a place of the header that the bytes begin with
unfoldable pub word_at : ℕ → List ℕ → ℕ
word_at place bytes = little_number 4 (drop (4 * place) bytes)

-- A header with a right magic: its command has to be known, and then its length allowed.
abbrev pub head_of : Option Command → (word arg0 arg1 size check : ℕ) → Result Head HeadFault
head_of None word arg0 arg1 size check = Err (UnknownCommand word)
head_of (Some command) word arg0 arg1 size check =
    if nat_lt MAX_PAYLOAD size then Err (TooLong size)
    else Ok (record { command = command; arg0 = arg0; arg1 = arg1; length = size; check = check })

-- What the first 24 bytes say: the header, or its first fault.
abbrev pub head_at : List ℕ → Result Head HeadFault
head_at bytes =
    if not (word_at 5 bytes == magic_of (word_at 0 bytes)) then Err (BadMagic (word_at 0 bytes) (word_at 5 bytes))
    else head_of (command_of (word_at 0 bytes)) (word_at 0 bytes) (word_at 1 bytes) (word_at 2 bytes) (word_at 3 bytes) (word_at 4 bytes)
