-- What a server's answer begins with, byte by byte (OVERVIEW.TXT, SERVICES.TXT).
use Rattle.std.specs.Prelude.{ℕ, suc, ◌+◌, ◌==◌, ◌||◌, ◌&&◌, not, nat_lt, nat_le, if◌then◌else◌, Bool, List, [], ◌∷◌, ◌++◌, length, take}
use Rattle.std.specs.Prelude.{drop, Option, Some, None}
use Rattle.std.specs.Prelude.{codes, bytes_eq}
use Rattle.std.specs.List.{list_all}
use Rattle.byteorder.specs.Endian.{little_number}
use Rattle.adb_outside.specs.declared.framer.Front.{Front}
use Rattle.adb_outside.specs.declared.framer.Front.TheVariants.{More, Bad, Whole}
use Rattle.adb_outside.specs.Framing.{offset_past}
use Rattle.adb_request.specs.Requests.{hex_number}
use Rattle.adb_remote_frames.specs.declared.frame.TheConstants.{EXIT, STDERR, STDOUT}
use Rattle.adb_remote_frames.specs.declared.packets.TheConstants.{MAX_OUTPUT_PACKET}
use Rattle.adb_remote_frames.specs.declared.head.Awaited.{Awaited}
use Rattle.adb_remote_frames.specs.declared.head.Awaited.TheVariants as awaited
use Rattle.adb_remote_frames.specs.declared.head.Head.{Head}
use Rattle.adb_remote_frames.specs.declared.head.Head.TheVariants.{Short, Stray, Says}

-- whether bytes are the first of a word
abbrev pub is_front : List ℕ → List ℕ → Bool
is_front front word = bytes_eq front (take (length front) word)

-- ---- the first bytes of a frame
-- a digit that strings are counted with: 0 to 9, a to f
abbrev pub is_lower_hex : ℕ → Bool
is_lower_hex byte = nat_le 48 byte && nat_le byte 57 || nat_le 97 byte && nat_le byte 102

abbrev pub says_behind : ℕ → Option ℕ → Head
says_behind before None = Stray
says_behind before (Some len) = Says (before + len)

-- the four digits of the length of a string, in a frame that has so many bytes beside the string
abbrev pub counted : ℕ → List ℕ → Head
counted before digits =
    if not (list_all is_lower_hex digits) then Stray
    else (if nat_lt (length digits) 4 then Short
    else says_behind before (hex_number digits))

-- in place of an OKAY: FAIL, and a string
abbrev pub status_head : List ℕ → Head
status_head front =
    if is_front front (codes "OKAY") || is_front front (codes "FAIL") then Short
    else (if not (is_front (codes "FAIL") front) then Stray
    else counted 8 (drop 4 front))

-- the length of a packet of output: with zeros for the bytes that are missing it is the least that can follow
abbrev pub output_head : List ℕ → Head
output_head digits =
    if nat_lt 4 (length digits) then Stray
    else (if nat_lt MAX_OUTPUT_PACKET (little_number 4 digits) then Stray
    else (if nat_lt (length digits) 4 then Short
    else Says (5 + little_number 4 digits)))

-- the length of a packet with a status is 1
abbrev pub exit_head : List ℕ → Head
exit_head digits =
    if not (is_front digits (1 ∷ 0 ∷ 0 ∷ 0 ∷ [])) then Stray
    else (if nat_lt (length digits) 4 then Short
    else Says 6)

-- output, error output, and a status are all that comes of a command
abbrev pub packet_head : List ℕ → Head
packet_head [] = Short
packet_head (id ∷ digits) =
    if id == STDOUT || id == STDERR then output_head digits
    else (if id == EXIT then exit_head digits
    else Stray)

abbrev pub head : Awaited → List ℕ → Head
head awaited.Status front = status_head front
head awaited.List front = counted 4 front
head awaited.Packet front = packet_head front

-- ---- what bytes begin with
-- a frame of so many bytes, of which so many are there
abbrev pub whole_of : ℕ → ℕ → Front ℕ
whole_of have len = if nat_lt have len then More else Whole len

-- what the first bytes up to a place say, or else what those behind it do
abbrev pub by_head : ℕ → ℕ → ℕ → Head → Front ℕ → Front ℕ
by_head offset place have Short further = further
by_head offset place have Stray further = Bad (offset_past offset place)
by_head offset place have (Says len) further = whole_of have len

abbrev pub found_behind : Awaited → ℕ → List ℕ → List ℕ → Front ℕ
found_behind kind offset before [] = More
found_behind kind offset before (byte ∷ bytes) =
    by_head offset (length before) (length before + suc (length bytes)) (head kind (before ++ byte ∷ []))
    (found_behind kind offset (before ++ byte ∷ []) bytes)

-- what bytes at an offset begin with: a whole frame, or the offset of the first byte after which none can follow those before it
abbrev pub found : Awaited → ℕ → List ℕ → Front ℕ
found kind offset bytes = found_behind kind offset [] bytes
