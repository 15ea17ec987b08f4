-- A record as it is written: a head of at most eleven bytes, and a text.
use Rattle.std.specs.Prelude.{ℕ, List, [], ◌∷◌}
use Rattle.byteorder.specs.Endian.{little_bytes}
use Rattle.adb_capture.specs.declared.entry.Entry.{Entry}
use Rattle.adb_capture.specs.declared.entry.Entry.TheVariants.{Join, Enter, Read, End, Bound, Attach, Recv, Detach, Put, Send}
use Rattle.adb_capture.specs.Records.{cause_byte, plug_letter}

-- the bytes of an entry's text
abbrev pub text_of : Entry → List ℕ
text_of (Join client) = []
text_of (Enter client port) = []
text_of (Read client bytes) = bytes
text_of (End client cause) = []
text_of (Bound client port) = []
text_of (Attach link kind serial) = serial
text_of (Recv link bytes) = bytes
text_of (Detach link cause) = []
text_of (Put client bytes) = bytes
text_of (Send link bytes) = bytes

-- the data before the text
abbrev pub word_of : Entry → List ℕ
word_of (Join client) = []
word_of (Enter client port) = little_bytes 2 port
word_of (Read client bytes) = []
word_of (End client cause) = cause_byte cause ∷ []
word_of (Bound client port) = little_bytes 2 port
word_of (Attach link kind serial) = plug_letter kind ∷ []
word_of (Recv link bytes) = []
word_of (Detach link cause) = cause_byte cause ∷ []
word_of (Put client bytes) = []
word_of (Send link bytes) = []
