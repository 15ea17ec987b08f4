-- What more bytes of a link make of the packets that it brought.
use Rattle.std.proofs.Common.{ℕ, ◌≡◌, Bool, true, false, cond, List, ◌∷◌, ◌++◌, length, Option, Some, None, is_some, refl, sym, ◌∙◌, ap}
use Rattle.std.proofs.Common.{subst}
use Rattle.std.proofs.Common.{arith}
use Rattle.std.proofs.lemmas.Bool.{eq-eqb}
use Rattle.std.specs.Prelude.{◌&&◌, ◌||◌, not}
use Rattle.adb_outside.specs.Framing.{Cut, joined}
use Rattle.adb_outside.proofs.FramingLaws.{cut_piece, fault_stays}
use Rattle.adb_wire.specs.Cutting.{cut_packets, framed}
use Rattle.adb_wire.specs.Format.{front_of, packet_of, format_after}
use Rattle.adb_wire.specs.FormatLaws.{packets_are_framed}
use Rattle.adb_wire.specs.declared.packets.Packet.{Packet}
use Rattle.adb_wire.specs.declared.format.PacketFault.{PacketFault}
use Rattle.adb_wire.specs.declared.format.PacketFormat.{PacketFormat}
use Rattle.adb_capture.specs.declared.entry.Entry.TheVariants.{Recv}
use Rattle.adb_history.specs.Rows.{Link}
use Rattle.adb_history.specs.Machine.{History, state, IsLegal}
use Rattle.adb_history.specs.Bytes.{is_lost, bytes_received, brought}
use Rattle.adb_history.proofs.Received.{ReadTie, framed_piece, received}
use Rattle.adb_laws_fifo_down.specs.Follows.{is_shut}

-- the bytes of a link that was not lost
received_on : (t : ℕ) (bytes : List ℕ) (older : History) → is_lost t older ≡ false
    → bytes_received t (Recv t bytes ∷ older) ≡ bytes_received t older ++ bytes
received_on t bytes older kept =
    ap (λ (c : Bool). cond (c && not (is_lost t older)) (bytes_received t older ++ bytes) (bytes_received t older)) (eq-eqb t t refl)
    ∙ ap (λ (c : Bool). cond (not c) (bytes_received t older ++ bytes) (bytes_received t older)) kept

received_off : (t : ℕ) (bytes : List ℕ) (older : History) → is_lost t older ≡ true
    → bytes_received t (Recv t bytes ∷ older) ≡ bytes_received t older
received_off t bytes older lost =
    ap (λ (c : Bool). cond (c && not (is_lost t older)) (bytes_received t older ++ bytes) (bytes_received t older)) (eq-eqb t t refl)
    ∙ ap (λ (c : Bool). cond (not c) (bytes_received t older ++ bytes) (bytes_received t older)) lost

-- what a link that lives brings by a piece, and whether it brings more
pub record BringsBy (t : ℕ) (bytes : List ℕ) (older : History) (link : Link) : Type 0 where
  pub before : is_shut t older ≡ false
  pub packets : brought t (Recv t bytes ∷ older) ≡ brought t older ++ (cut_packets (record { sums = link.sums }) (link.rest ++ bytes)).given
  pub shut : is_shut t (Recv t bytes ∷ older) ≡ is_some (cut_packets (record { sums = link.sums }) (link.rest ++ bytes)).fault

pub brings : (t : ℕ) (bytes : List ℕ) (older : History) (link : Link) → IsLegal older
    → (state older).links t ≡ Some link → BringsBy t bytes older link
brings t bytes older link legal is =
    let tie : ReadTie (is_lost t older) (Some link) (bytes_received t older) =
    subst (λ (o : Option Link). ReadTie (is_lost t older) o (bytes_received t older)) is ((received older legal).links t) in
    let all : framed (bytes_received t (Recv t bytes ∷ older))
    ≡ joined (framed (bytes_received t older)).given (cut_packets (record { sums = link.sums }) (link.rest ++ bytes)) =
    ap framed (received_on t bytes older tie.1) ∙ framed_piece (bytes_received t older) bytes link tie.0 in
    record {
      before = ap (λ (c : Bool). c || is_some (framed (bytes_received t older)).fault) tie.1 ∙ ap is_some tie.0.sound;
      packets = ap (λ (c : Cut PacketFormat Packet PacketFault). c.given) all;
      shut = ap (λ (c : Bool). c || is_some (framed (bytes_received t (Recv t bytes ∷ older))).fault) tie.1
          ∙ ap (λ (c : Cut PacketFormat Packet PacketFault). is_some c.fault) all;
    }

-- what any link brings by a piece: nothing where it brings no more
pub record BringsMore (t : ℕ) (bytes : List ℕ) (older : History) : Type 0 where
  pub none : is_shut t older ≡ true → (brought t (Recv t bytes ∷ older) ≡ brought t older) × (is_shut t (Recv t bytes ∷ older) ≡ true)
  pub some : is_shut t older ≡ false → (more : List Packet) × (brought t (Recv t bytes ∷ older) ≡ brought t older ++ more)

pub brings_more : (t : ℕ) (bytes : List ℕ) (older : History) → BringsMore t bytes older
brings_more t bytes older = record {
  none = λ shut. closed (is_lost t older) refl (framed (bytes_received t older)).fault refl shut;
  some = λ open_yet. opened (is_lost t older) refl (framed (bytes_received t older)).fault refl open_yet;
}
  where
    closed : (lost : Bool) → is_lost t older ≡ lost → (fault : Option PacketFault) → (framed (bytes_received t older)).fault ≡ fault
        → is_shut t older ≡ true → (brought t (Recv t bytes ∷ older) ≡ brought t older) × (is_shut t (Recv t bytes ∷ older) ≡ true)
    closed true e fault f shut = (
      ap (λ (x : List ℕ). (framed x).given) (received_off t bytes older e),
      ap (λ (c : Bool). c || is_some (framed (bytes_received t (Recv t bytes ∷ older))).fault) e,
    )
    closed false e None f shut =
        let clash : false ≡ true =
        sym (ap (λ (c : Bool). c || is_some (framed (bytes_received t older)).fault) e ∙ ap is_some f) ∙ shut in
        absurd (cc)
    closed false e (Some fault) f shut =
        let stays = fault_stays front_of (λ _ frame. packet_of frame)
        (λ format frame. format_after format (packet_of frame)) packets_are_framed
        (length (bytes_received t older)) (record { sums = false }) (bytes_received t older) bytes fault (omega arith) f in (
          ap (λ (x : List ℕ). (framed x).given) (received_on t bytes older e) ∙ stays.0,
          ap (λ (c : Bool). c || is_some (framed (bytes_received t (Recv t bytes ∷ older))).fault) e
              ∙ (ap (λ (x : List ℕ). is_some (framed x).fault) (received_on t bytes older e) ∙ ap is_some stays.1),
        )

    opened : (lost : Bool) → is_lost t older ≡ lost → (fault : Option PacketFault) → (framed (bytes_received t older)).fault ≡ fault
        → is_shut t older ≡ false → (more : List Packet) × (brought t (Recv t bytes ∷ older) ≡ brought t older ++ more)
    opened true e fault f open_yet =
        let clash : true ≡ false = sym (ap (λ (c : Bool). c || is_some (framed (bytes_received t older)).fault) e) ∙ open_yet in
        absurd (cc)
    opened false e (Some fault) f open_yet =
        let clash : true ≡ false =
        sym (ap (λ (c : Bool). c || is_some (framed (bytes_received t older)).fault) e ∙ ap is_some f) ∙ open_yet in
        absurd (cc)
    opened false e None f open_yet =
        let piece = cut_piece front_of (λ _ frame. packet_of frame)
        (λ format frame. format_after format (packet_of frame)) packets_are_framed
        (length (bytes_received t older)) (record { sums = false }) (bytes_received t older) bytes (omega arith) f in (
          _,
          ap (λ (x : List ℕ). (framed x).given) (received_on t bytes older e)
              ∙ ap (λ (c : Cut PacketFormat Packet PacketFault). c.given) piece,
        )
