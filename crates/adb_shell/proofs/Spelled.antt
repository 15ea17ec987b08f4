-- A packet and its bytes.
use Rattle.std.proofs.Common.{ℕ, ◌+◌, ◌≡◌, ◌≤◌, ◌<◌, List, [], ◌∷◌, ◌++◌, length, drop, sym, ◌∙◌, ap, arith}
use Rattle.std.proofs.lemmas.List.{length-drop}
use Rattle.std.proofs.lemmas.List.Elements.{All-tail}
use Rattle.std.proofs.lemmas.Bool.Decides.{nat_tests}
use Rattle.byteorder.specs.Endian.{little_number, little_bytes}
use Rattle.byteorder.specs.Numbers.{little_number-reads_back}
use Rattle.adb_outside.specs.declared.framer.Front.TheVariants.{Whole}
use Rattle.adb_outside.specs.Bytes.{AreBytes}
use Rattle.adb_outside.specs.Framing.{joined}
use Rattle.adb_outside.proofs.CutLaws.{frame_first}
use Rattle.adb_outside.proofs.Numbers.{number_again}
use Rattle.adb_shell.specs.declared.packet.ShellPacket.{ShellPacket}
use Rattle.adb_shell.specs.declared.format.ShellFormat.{ShellFormat}
use Rattle.adb_shell.specs.declared.format.TheConstants.{HEADER_BYTES, LAST_ID, MAX_SHELL_PAYLOAD}
use Rattle.adb_shell.specs.Packets.{IsPacket, spelling, front, front_with, packet_of, past, cut_from, id_of, length_of}
use Rattle.adb_shell.specs.Framed.{packets_are_framed, there, whole_there, with_fits}

with_packet : (offset id len there : ℕ) → id ≤ LAST_ID → len ≤ MAX_SHELL_PAYLOAD → HEADER_BYTES + len ≤ there
    → front_with offset id len there ≡ Whole (HEADER_BYTES + len)
with_packet offset id len there known short h = grind (arith, nat_tests)

-- a packet that was spelled is one
pub spelled_front : (from : ShellFormat) (packet : ShellPacket) → IsPacket packet
    → front from (spelling packet) ≡ Whole (length (spelling packet))
spelled_front from packet h =
    let len : length (spelling packet) ≡ HEADER_BYTES + length packet.bytes = omega arith in
    let said : length_of (spelling packet) ≡ length packet.bytes =
    little_number-reads_back 4 (length packet.bytes) packet.bytes (omega (arith, h.bytes)) in
    there (length (spelling packet))
    (front_with from.offset packet.id (length_of (spelling packet)) (length (spelling packet)))
    (omega (arith, len))
    ∙ (ap (λ k. front_with from.offset packet.id k (length (spelling packet))) said
    ∙ (with_packet from.offset packet.id (length packet.bytes) (length (spelling packet)) h.id h.bytes
    (omega (arith, len)) ∙ ap Whole (sym len)))

pub read_again : (from : ShellFormat) (packet : ShellPacket) (more : List ℕ) → IsPacket packet
    → cut_from from (spelling packet ++ more) ≡ joined (packet ∷ []) (cut_from (past from (spelling packet)) more)
read_again from packet more h = frame_first front packet_of past packets_are_framed from (spelling packet) more
    (spelled_front from packet h)

with_good : (offset id len there n : ℕ) → front_with offset id len there ≡ Whole n → (id ≤ LAST_ID) × (len ≤ MAX_SHELL_PAYLOAD)
with_good offset id len there n e = grind (arith, nat_tests)

-- a header and more spell a packet, where its length is that of the others
spelled_by : (from : ShellFormat) (bytes : List ℕ) → AreBytes bytes → HEADER_BYTES ≤ length bytes
    → length bytes ≡ HEADER_BYTES + length_of bytes
    → spelling (packet_of from bytes) ≡ bytes
spelled_by from [] are h e = absurd (omega (arith, h))
spelled_by from (id ∷ bytes) are h e =
    let said : length (drop 4 bytes) ≡ little_number 4 bytes = omega (arith, e, length-drop 4 bytes) in
    let tail_are = All-tail (λ byte. byte < 256) id bytes are in
    ap (λ k. id ∷ little_bytes 4 k ++ drop 4 bytes) said ∙ ap (λ tail. id ∷ tail) (number_again bytes tail_are (omega (arith, h)))

-- a whole packet is spelled by its bytes
pub spelled_again : (from : ShellFormat) (bytes : List ℕ) → AreBytes bytes → front from bytes ≡ Whole (length bytes)
    → (spelling (packet_of from bytes) ≡ bytes) × IsPacket (packet_of from bytes)
spelled_again from bytes are e =
    let len = length bytes in
    let h = whole_there len (front_with from.offset (id_of bytes) (length_of bytes) len) len e in
    let fits = with_fits from.offset (id_of bytes) (length_of bytes) len len h.1 in
    let good = with_good from.offset (id_of bytes) (length_of bytes) len len h.1 in
    (spelled_by from bytes are h.0 fits.0, record { id = good.0; bytes = omega (arith, good, fits, length-drop HEADER_BYTES bytes) })
