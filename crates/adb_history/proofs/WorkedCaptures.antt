-- Captures worked by hand: what is replayed of them, and why one is refused, are computed from the definitions.
use Rattle.std.specs.Prelude.{ℕ, ◌≡◌, List, [], ◌∷◌, ◌++◌, None, codes, zero, suc}
use Rattle.std.proofs.Common.{refl}
use Rattle.adb_request.specs.Meaning.{meaning}
use Rattle.adb_capture.specs.Records.{record_at}
use Rattle.adb_history.specs.Refusal.{refused_at}
use Rattle.adb_history.specs.Accepted.{accepted, replayed}
use Rattle.adb_history.specs.declared.refusal.Reason.TheVariants.{BadMagic, Truncated, NotDrawn, BadSerial, TooManyDevices}

-- the magic, ADBHUB1 and a newline
abbrev begins : List ℕ
begins = codes "ADBHUB1" ++ 10 ∷ []

-- a record of a kind and a number below 256, with fewer than 256 bytes of data
abbrev recorded : ℕ → ℕ → ℕ → List ℕ → List ℕ
recorded kind number size bytes = kind ∷ number ∷ 0 ∷ 0 ∷ 0 ∷ size ∷ 0 ∷ 0 ∷ 0 ∷ bytes

-- client 1 joins, and asks host:version
abbrev asks : List ℕ
asks = begins ++ recorded 74 1 0 [] ++ recorded 82 1 16 (codes "000Chost:version")

-- it is handed the answer
abbrev put : List ℕ
put = recorded 80 1 12 (codes "OKAY00040029")

empty_capture : replayed begins ≡ begins
empty_capture = refl

version_answered : replayed asks ≡ asks ++ put
unfolding record_at meaning
version_answered = refl

output_replays_to_itself : replayed (asks ++ put) ≡ asks ++ put
unfolding record_at meaning
output_replays_to_itself = refl

bad_magic : (accepted (codes "ADBHUB2")).refused ≡ refused_at 0 BadMagic
bad_magic = refl

truncated_capture : (accepted (begins ++ recorded 74 1 0 [] ++ codes "abcde")).refused ≡ refused_at 17 Truncated
unfolding record_at
truncated_capture = refl

number_not_drawn : (accepted (begins ++ recorded 82 2 0 [])).refused ≡ refused_at 8 NotDrawn
unfolding record_at
number_not_drawn = refl

bad_serial : (accepted (begins ++ recorded 65 1 1 (117 ∷ []))).refused ≡ refused_at 8 BadSerial
unfolding record_at
bad_serial = refl

-- what comes after a kill is not read, though it has no form
abbrev kill : List ℕ
kill = begins ++ recorded 74 1 0 [] ++ recorded 82 1 13 (codes "0009host:kill")

nothing_is_read_after_a_kill : replayed (kill ++ codes "abcde") ≡ kill ++ recorded 80 1 4 (codes "OKAY")
unfolding record_at meaning
nothing_is_read_after_a_kill = refl

a_kill_ends_well : (accepted (kill ++ codes "abcde")).refused ≡ None
unfolding record_at meaning
a_kill_ends_well = refl

-- so many devices are plugged in, each with the serial `e`
abbrev plugs : ℕ → List ℕ
plugs zero = []
plugs (suc k) = plugs k ++ recorded 65 (suc k) 2 (codes "ue")

one_device_too_many : (accepted (begins ++ plugs 129)).refused ≡ refused_at 1416 TooManyDevices
unfolding record_at
one_device_too_many = refl
