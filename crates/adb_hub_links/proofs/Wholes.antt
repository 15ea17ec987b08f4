-- A packet that came whole, or that a piece is, stands alone.
use Rattle.std.proofs.Common.{ℕ, ◌≡◌, ◌<◌, ◌≤◌, Bool, true, false, cond, List, [], ◌∷◌, ◌++◌, length, take, drop, None, Ok}
use Rattle.std.proofs.Common.{refl, sym, ◌∙◌, ap, arith, inl}
use Rattle.std.specs.Prelude.{◌&&◌, not}
use Rattle.std.proofs.lemmas.List.{append-nil, length-drop, length-take, take-append-drop}
use Rattle.std.proofs.lemmas.List.Elements.{All-drop}
use Rattle.adb_wire.specs.declared.headers.Head.{Head}
use Rattle.adb_wire.specs.declared.headers.TheConstants.{HEADER_LEN, MAX_PAYLOAD}
use Rattle.adb_wire.specs.declared.packets.Packet.{Packet}
use Rattle.adb_wire.specs.declared.format.PacketFormat.{PacketFormat}
use Rattle.adb_wire.specs.Header.{IsBytes, IsHead, header_bytes, head_at}
use Rattle.adb_wire.specs.Packet.{spelling}
use Rattle.adb_wire.specs.Format.{packet_len, packet_of, packet_under, packet_with, is_cnxn, has_sums}
use Rattle.adb_wire.specs.Cutting.{Begins}
use Rattle.adb_wire.specs.FormatLaws.{head_same}
use Rattle.adb_wire.specs.Deframing.{no_bytes}
use Rattle.adb_wire.proofs.HeaderLaws.{head_spelled, head_reads}
use Rattle.adb_wire.proofs.CuttingLaws.{behind_push, spells_cut}
use Rattle.adb_hub_links.specs.Whole.{IsWhole, IsPlain, StandsAlone, IsAlone, alone, is_plain}

-- it is not too long
pub whole_size : (head : Head) (bytes : List ℕ) → IsWhole head bytes → length (drop HEADER_LEN bytes) ≤ MAX_PAYLOAD
whole_size head bytes w = omega (arith, w.long, length-drop HEADER_LEN bytes, (head_reads bytes head w.read).short)

-- it is what its bytes spell
pub whole_packet : (head : Head) (bytes : List ℕ) → IsWhole head bytes → packet_under head (drop HEADER_LEN bytes) ≡ packet_of bytes
whole_packet head bytes w = ap (λ read. packet_with read (drop HEADER_LEN bytes)) (sym w.read)

left_true : (a b : Bool) → (a && b) ≡ true → a ≡ true
left_true true b is = refl
left_true false b is = absurd (let clash : false ≡ true = is in cc)

-- behind it no check words are looked at
no_sums : (carries cnxn sums : Bool) → (carries && not (cnxn && sums)) ≡ true
    → ◌≡◌ {A = PacketFormat} (cond cnxn (record { sums = sums }) (record { sums = false })) (record { sums = false })
no_sums carries false sums is = refl
no_sums carries true false is = refl
no_sums true true true is = absurd (let clash : false ≡ true = is in cc)
no_sums false true true is = absurd (let clash : false ≡ true = is in cc)

pub stands_alone : (head : Head) (bytes : List ℕ) → IsBytes bytes → IsWhole head bytes → is_plain head (drop HEADER_LEN bytes) ≡ true
    → StandsAlone bytes (packet_of bytes)
stands_alone head bytes are w plain =
    let payload : List ℕ = drop HEADER_LEN bytes in
    let p : Packet = packet_under head payload in
    let size : head.length ≡ length payload = omega (arith, w.long, length-drop HEADER_LEN bytes) in
    let read : IsHead head × (bytes ≡ header_bytes head ++ payload) = head_spelled bytes head (omega (arith, w.long)) are w.read in
    let spelled : bytes ≡ spelling p head.check =
    read.1 ∙ ap (λ (n : ℕ). header_bytes (record head { length = n }) ++ payload) size in
    let begins : Begins [] p bytes [] = record {
      check = head.check;
      packet = record {
        arg0 = read.0.arg0;
        arg1 = read.0.arg1;
        size = whole_size head bytes w;
        bytes = All-drop (λ b. b < 256) HEADER_LEN bytes are;
      };
      word = read.0.check;
      allowed = left_true _ _ plain;
      spelled = spelled ∙ sym (append-nil (spelling p head.check));
    } in
    spells_cut [] bytes (p ∷ []) [] None (([], begins, refl), inl (omega arith))
    ∙ (ap (λ (format : PacketFormat). record no_bytes { given = p ∷ []; reading = format })
    (sym (behind_push [] p) ∙ no_sums _ (is_cnxn head.command) (has_sums head.arg0) plain)
    ∙ ap (λ (q : Packet). record no_bytes { given = q ∷ [] }) (whole_packet head bytes w))

-- the packet of a piece that begins with that header
pub piece_alone : (head : Head) (bytes : List ℕ) (p : Packet) → IsBytes bytes → IsPlain head bytes
    → p ≡ packet_under head (drop HEADER_LEN bytes)
    → IsAlone bytes p
piece_alone head bytes p are plain is = record {
  stands = stands_alone head bytes are plain.whole plain.plain ∙ ap alone (sym (is ∙ whole_packet head bytes plain.whole));
  size = omega (arith, ap (λ (q : Packet). length q.payload) is, whole_size head bytes plain.whole);
}

-- its header is read of the first bytes alone
pub head_whole : (head : Head) (bytes : List ℕ) → head_at (take HEADER_LEN bytes) ≡ Ok head
    → length bytes ≡ packet_len head → IsWhole head bytes
head_whole head bytes read long = record {
  read =
      ap head_at (sym (take-append-drop HEADER_LEN bytes))
      ∙ (head_same (take HEADER_LEN bytes) (drop HEADER_LEN bytes) (omega (arith, length-take HEADER_LEN bytes, long)) ∙ read);
  long = long;
}
