-- Every entry of a load has a record.
use Rattle.std.proofs.Common.{ℕ, ◌+◌, ◌*◌, ◌%◌, ◌^◌, ◌≡◌, ◌<◌, ◌≤◌, List, [], ◌∷◌, ◌++◌}
use Rattle.std.proofs.Common.{length, drop, refl, sym, ap, ◌∙◌, arith, lit<, lit≤, get_or, nat_lt, true, subst, Result, Ok, Err}
use Rattle.std.specs.Result.{IfOk}
use Rattle.std.specs.List.{flat_map, list_all, range_with_len}
use Rattle.std.specs.Prelude.{codes}
use Rattle.std.specs.Fmt.{decimal}
use Rattle.std.proofs.Math.Nat.{mod-lt}
use Rattle.std.proofs.lemmas.List.{length-append, length-take, length-drop, drop-append-le}
use Rattle.std.proofs.lemmas.List.Elements.{All-append, All-from_recursion, All-map, All-from_get_or, All-nil, All-take, All-drop}
use Rattle.std.proofs.lemmas.Fmt.{length-decimal-le, IsAscii-decimal}
use Rattle.std.proofs.lemmas.Bool.{ltb-true}
use Rattle.std.proofs.lemmas.List.Sums.{AllPass-from_list_all}
use Rattle.byteorder.specs.Endian.{little_bytes}
use Rattle.adb_outside.specs.Bytes.{AreBytes}
use Rattle.adb_outside.specs.declared.kinds.Kind.TheVariants.{Usb}
use Rattle.adb_outside.specs.declared.kinds.Cause.TheVariants.{Eof}
use Rattle.adb_capture.specs.declared.entry.Entry.TheVariants.{Join, Read, End, Attach, Recv}
use Rattle.adb_capture.specs.Records.{HasRecord}
use Rattle.adb_wire.specs.declared.command.Command.{Command}
use Rattle.adb_wire.specs.declared.command.Command.TheVariants.{Cnxn}
use Rattle.adb_wire.specs.Packet.{head_for}
use Rattle.adb_wire.specs.Header.{words_of}
use Rattle.adb_load.specs.declared.act.Piece.{Piece}
use Rattle.adb_load.specs.declared.act.Piece.TheVariants.{Whole, Head, Tail}
use Rattle.adb_load.specs.declared.numbers.TheConstants.{HEAD_LEN}
use Rattle.adb_load.specs.Acts.{IsShort, cycle, packet_of, greeting, asked_of, serial_of, link_of, piece_of}
use Rattle.adb_load.proofs.Cycles.{cycle_length}

-- ---- bytes
-- a byte of a number
byte_of : (n : ℕ) → n % 256 < 256
byte_of n = mod-lt n (lit< tt)

pub word_bytes : (word : ℕ) → AreBytes (little_bytes 4 word)
word_bytes word = All-from_recursion (λ b. b < 256) (little_bytes 4 word) (byte_of _, (byte_of _, (byte_of _, (byte_of _, tt))))

pub words_bytes : (words : List ℕ) → AreBytes (flat_map (little_bytes 4) words)
words_bytes [] = All-nil (λ b. b < 256)
words_bytes (word ∷ words) = All-append (λ b. b < 256) (little_bytes 4 word) (flat_map (little_bytes 4) words)
    (word_bytes word) (words_bytes words)

pub cycle_bytes : (shift from count : ℕ) → AreBytes (cycle shift from count)
cycle_bytes shift from count = All-map (λ b. b < 256) (λ i. (i + shift) % 251) (range_with_len from count)
    (λ k d within. omega (arith, mod-lt (get_or (range_with_len from count) k d + shift) {m = 251} (omega arith)))

-- a literal of bytes
pub literal_bytes : (text : List ℕ) → list_all (λ b. nat_lt b 256) text ≡ true → AreBytes text
literal_bytes text h k d within = ltb-true _ 256 (AllPass-from_list_all (λ b. nat_lt b 256) text h k d within)

pub decimal_bytes : (n : ℕ) → n < 2 ^ 64 → AreBytes (decimal n)
decimal_bytes n small = All-from_get_or (λ b. b < 256) (decimal n) 0 (λ i within. omega (arith, IsAscii-decimal n small i))

pub joined_bytes : (front back : List ℕ) → AreBytes front → AreBytes back → AreBytes (front ++ back)
joined_bytes front back = All-append (λ b. b < 256) front back

-- ---- the texts of a load
pub words_length : (words : List ℕ) → length (flat_map (little_bytes 4) words) ≡ 4 * length words
words_length [] = refl
words_length (word ∷ words) = omega (arith, words_length words)

pub packet_short : (command : Command) (arg0 arg1 : ℕ) (payload : List ℕ) → AreBytes payload → length payload ≤ 2 ^ 16
    → IsShort (packet_of command arg0 arg1 payload)
packet_short command arg0 arg1 payload are small = record {
  bytes = joined_bytes (flat_map (little_bytes 4) words) payload (words_bytes words) are;
  size = omega (arith, length-append (flat_map (little_bytes 4) words) payload, words_length words);
}
  where
    words : List ℕ
    words = words_of (head_for (record { command = command; arg0 = arg0; arg1 = arg1; payload = payload }) 0)

pub cycle_short : (shift from count : ℕ) → count < 2 ^ 16 → IsShort (cycle shift from count)
cycle_short shift from count small = record { bytes = cycle_bytes shift from count; size = omega (arith, cycle_length shift from count) }

pub piece_short : (piece : Piece) (bytes : List ℕ) → IsShort bytes → IsShort (piece_of piece bytes)
piece_short Whole bytes short = short
piece_short Head bytes short = record {
  bytes = All-take (λ b. b < 256) HEAD_LEN bytes short.bytes;
  size = omega (arith, short.size, length-take HEAD_LEN bytes);
}
piece_short Tail bytes short = record {
  bytes = All-drop (λ b. b < 256) HEAD_LEN bytes short.bytes;
  size = omega (arith, short.size, length-drop HEAD_LEN bytes);
}

pub greeting_short : IsShort greeting
greeting_short = packet_short Cnxn 0x01000001 65536 (codes "device::features=shell_v2;")
    (literal_bytes (codes "device::features=shell_v2;") refl) (lit≤ tt)

pub serial_short : (link : ℕ) → link < 2 ^ 32 → IsShort (serial_of link)
serial_short link small = record {
  bytes = joined_bytes (codes "gen-") (decimal link) (literal_bytes (codes "gen-") refl) (decimal_bytes link (omega arith));
  size = omega (arith, length-append (codes "gen-") (decimal link), length-decimal-le 10 link (omega arith) (omega arith) (omega arith));
}

link_small : (stream : ℕ) → link_of stream < 2 ^ 32
link_small stream = omega (arith, mod-lt stream {m = 8} (omega arith))

pub asked_short : (stream : ℕ) → IsShort (asked_of stream)
asked_short stream = record {
  bytes = joined_bytes (codes "0013host:transport-id:" ++ decimal link) (codes "0005echo:")
      (joined_bytes (codes "0013host:transport-id:") (decimal link) (literal_bytes (codes "0013host:transport-id:") refl)
      (decimal_bytes link (omega (arith, link_small stream))))
      (literal_bytes (codes "0005echo:") refl);
  size = omega (
    arith,
    length-append (codes "0013host:transport-id:" ++ decimal link) (codes "0005echo:"),
    length-append (codes "0013host:transport-id:") (decimal link),
    length-decimal-le 10 link (omega arith) (omega (arith, link_small stream)) (omega (arith, link_small stream)),
  );
}
  where
    link : ℕ
    link = link_of stream

-- ---- their records
pub join_has : (client : ℕ) → client < 2 ^ 32 → HasRecord (Join client)
join_has client small = record { owner = small; port = tt; bytes = All-nil (λ b. b < 256); size = omega arith }

pub read_has : (client : ℕ) (bytes : List ℕ) → client < 2 ^ 32 → IsShort bytes → HasRecord (Read client bytes)
read_has client bytes small short = record { owner = small; port = tt; bytes = short.bytes; size = omega (arith, short.size) }

pub end_has : (client : ℕ) → client < 2 ^ 32 → HasRecord (End client Eof)
end_has client small = record { owner = small; port = tt; bytes = literal_bytes (0 ∷ []) refl; size = omega arith }

pub attach_has : (link : ℕ) (serial : List ℕ) → link < 2 ^ 32 → IsShort serial → HasRecord (Attach link Usb serial)
attach_has link serial small short = record {
  owner = small;
  port = tt;
  bytes = joined_bytes (117 ∷ []) serial (literal_bytes (117 ∷ []) refl) short.bytes;
  size = omega (arith, short.size);
}

pub recv_has : (link : ℕ) (bytes : List ℕ) → link < 2 ^ 32 → IsShort bytes → HasRecord (Recv link bytes)
recv_has link bytes small short = record { owner = small; port = tt; bytes = short.bytes; size = omega (arith, short.size) }

-- the laws of entries
pub ruleset have_records = (join_has, read_has, end_has, attach_has, recv_has)

-- what a result is, is short
pub short_by : {E : Type 0} (r : Result (List ℕ) E) (text : List ℕ) → IsShort text → IfOk r (λ t. t ≡ text) → IfOk r IsShort
short_by (Ok t) text short is = subst IsShort (sym is) short
short_by (Err e) text short is = tt

-- what a result is, by an equation
pub is_by : {E : Type 0} (r : Result (List ℕ) E) (text other : List ℕ) → text ≡ other → IfOk r (λ t. t ≡ text) → IfOk r (λ t. t ≡ other)
is_by (Ok t) text other same is = is ∙ same
is_by (Err e) text other same is = tt

-- what comes behind the first piece of a packet, where that ends within the header
pub rest_is : (bytes payload front : List ℕ) → length front ≡ 24 → bytes ++ payload ≡ front ++ payload
    → drop HEAD_LEN bytes ++ payload ≡ drop HEAD_LEN (front ++ payload)
rest_is bytes payload front long same =
    sym (drop-append-le HEAD_LEN bytes payload
    (omega (arith, ap length same, length-append bytes payload, length-append front payload, long)))
    ∙ ap (drop HEAD_LEN) same
