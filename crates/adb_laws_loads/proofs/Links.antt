-- What the links of a load brought: whole packets, whose check words nobody looks at.
use Rattle.std.proofs.Common.{ℕ, ◌^◌, ◌≡◌, ◌<◌, ◌≤◌, Bool, true, false, cond, List, [], ◌∷◌, ◌++◌, length, reverse, None, refl, sym, ◌∙◌}
use Rattle.std.proofs.Common.{ap, subst, arith}
use Rattle.std.specs.Prelude.{nat_eq, not, ◌&&◌, if◌then◌else◌, codes}
use Rattle.std.specs.List.{flat_map}
use Rattle.std.proofs.lemmas.List.{append-nil, append_assoc, reverse-append, map-append, take-append-drop}
use Rattle.std.proofs.lemmas.List.FromFn.{length-map-range_with_len}
use Rattle.std.proofs.lemmas.List.Elements.{All-nil, All-cons}
use Rattle.std.proofs.lemmas.Grind.{flat_map-append}
use Rattle.adb_outside.specs.Framing.{Cut, joined}
use Rattle.adb_outside.proofs.FramingLaws.{cut_piece}
use Rattle.adb_wire.specs.declared.command.Command.{Command}
use Rattle.adb_wire.specs.declared.command.Command.TheVariants.{Cnxn, Okay, Wrte, Clse}
use Rattle.adb_wire.specs.declared.headers.TheConstants.{MAX_PAYLOAD}
use Rattle.adb_wire.specs.declared.packets.Packet.{Packet}
use Rattle.adb_wire.specs.declared.format.PacketFault.{PacketFault}
use Rattle.adb_wire.specs.declared.format.PacketFormat.{PacketFormat}
use Rattle.adb_wire.specs.Packet.{spelling}
use Rattle.adb_wire.specs.Format.{front_of}
use Rattle.adb_wire.specs.FormatLaws.{packets_are_framed}
use Rattle.adb_wire.specs.Cutting.{cut_packets, framed}
use Rattle.adb_wire.proofs.CuttingLaws.{item, after}
use Rattle.adb_laws_births.proofs.Framed.{plain, IsReadPlainly, IsReadEvent, spelled_cut}
use Rattle.adb_capture.specs.declared.entry.Entry.{Entry}
use Rattle.adb_capture.specs.declared.entry.Entry.TheVariants.{Recv}
use Rattle.adb_history.specs.Events.{due_to_link}
use Rattle.adb_history.specs.Machine.{History}
use Rattle.adb_history.specs.Bytes.{is_lost, bytes_received, brought}
use Rattle.adb_load.specs.declared.act.Act.{Act}
use Rattle.adb_load.specs.declared.act.Act.TheVariants.{Plug, Greet, Come, Ask, Accept, Write, Acknowledge, Answer, Leave, Close}
use Rattle.adb_load.specs.declared.act.Piece.TheVariants.{Whole, Head, Tail}
use Rattle.adb_load.specs.Acts.{client_of, link_of, remote_of, down_bytes, piece_of, entry_of, acts_from}
use Rattle.adb_load.specs.Load.{entries_of}

abbrev pub Cutting : Type 0
Cutting = Cut PacketFormat Packet PacketFault

-- ---- acts as a history
-- the history of some acts, with nothing handed out
abbrev pub past_of : List Act → History
past_of acts = reverse (entries_of acts)

pub past_then : (done acts : List Act) → past_of (done ++ acts) ≡ past_of acts ++ past_of done
past_then done acts = ap (reverse {A = Entry}) (map-append entry_of done acts) ∙ reverse-append (entries_of done) (entries_of acts)

-- ---- the packets of a load
-- what a device says first
abbrev pub greeting_packet : Packet
greeting_packet = record { command = Cnxn; arg0 = 0x01000001; arg1 = 65536; payload = codes "device::features=shell_v2;" }

-- a packet of a stream's device on that stream
abbrev pub packet_to : Command → (stream : ℕ) → List ℕ → Packet
packet_to command stream payload = record { command = command; arg0 = remote_of stream; arg1 = client_of stream; payload = payload }

-- a packet of one link, among those of another
abbrev pub on_link : (t link : ℕ) → Packet → List Packet
on_link t link p = if nat_eq link t then p ∷ [] else []

-- what an act brings on a link: the last piece of a packet brings it
abbrev pub packets_by : ℕ → Act → List Packet
packets_by t (Greet link) = on_link t link greeting_packet
packets_by t (Accept stream) = on_link t (link_of stream) (packet_to Okay stream [])
packets_by t (Acknowledge stream) = on_link t (link_of stream) (packet_to Okay stream [])
packets_by t (Answer stream from count Whole) = on_link t (link_of stream) (packet_to Wrte stream (down_bytes stream from count))
packets_by t (Answer stream from count Tail) = on_link t (link_of stream) (packet_to Wrte stream (down_bytes stream from count))
packets_by t (Close stream) = on_link t (link_of stream) (packet_to Clse stream [])
packets_by t _ = []

-- what some acts bring on a link
abbrev pub packets_on : ℕ → List Act → List Packet
packets_on t acts = flat_map (packets_by t) acts

pub packets_then : (t : ℕ) (done acts : List Act) → packets_on t (done ++ acts) ≡ packets_on t done ++ packets_on t acts
packets_then t done acts = flat_map-append (packets_by t) done acts

-- ---- how they are read
-- The numbers of an act are in the ranges of the words that spell them.
abbrev pub IsSpelled : Act → Type 0
IsSpelled (Accept stream) = remote_of stream < 2 ^ 32
IsSpelled (Acknowledge stream) = remote_of stream < 2 ^ 32
IsSpelled (Answer stream from count piece) = (remote_of stream < 2 ^ 32) × (count ≤ MAX_PAYLOAD)
IsSpelled (Close stream) = remote_of stream < 2 ^ 32
IsSpelled _ = Unit {0}

read_greeting : IsReadPlainly greeting_packet 0
read_greeting = record {
  head = record { arg0 = omega arith; arg1 = omega arith; size = omega arith; check = omega arith };
  carries = refl;
  after = refl;
}

read_bare : (stream : ℕ) → remote_of stream < 2 ^ 32 → IsReadPlainly (packet_to Okay stream []) 0
read_bare stream small = record {
  head = record { arg0 = small; arg1 = omega (arith, small); size = omega arith; check = omega arith };
  carries = refl;
  after = refl;
}

read_close : (stream : ℕ) → remote_of stream < 2 ^ 32 → IsReadPlainly (packet_to Clse stream []) 0
read_close stream small = record {
  head = record { arg0 = small; arg1 = omega (arith, small); size = omega arith; check = omega arith };
  carries = refl;
  after = refl;
}

read_write : (stream from count : ℕ) → remote_of stream < 2 ^ 32 → count ≤ MAX_PAYLOAD
    → IsReadPlainly (packet_to Wrte stream (down_bytes stream from count)) 0
read_write stream from count small short = record {
  head = record {
    arg0 = small;
    arg1 = omega (arith, small);
    size = subst (λ (n : ℕ). n ≤ MAX_PAYLOAD) (sym (length-map-range_with_len _ from count)) short;
    check = omega arith;
  };
  carries = refl;
  after = refl;
}

-- what is read of whole packets
abbrev pub read_whole : List Packet → Cutting
read_whole packets = record { given = packets; reading = plain; rest = []; fault = None }

one_packet : (p : Packet) → IsReadPlainly p 0 → cut_packets plain (spelling p 0) ≡ read_whole (p ∷ [])
one_packet p fits =
    ap (cut_packets plain) (sym (append-nil (spelling p 0)))
    ∙ spelled_cut 0 (due_to_link 0 p 0 ∷ []) (All-cons IsReadEvent (due_to_link 0 p 0) [] fits (All-nil IsReadEvent))

-- ---- what a link brought
-- A link was not lost, and what was received from it is these packets, and nothing else.
pub record HasBrought (t : ℕ) (packets : List Packet) (h : History) : Type 0 where
  pub kept : is_lost t h ≡ false
  pub cut : framed (bytes_received t h) ≡ read_whole packets

pub brought_is : (t : ℕ) (packets : List Packet) (h : History) → HasBrought t packets h → brought t h ≡ packets
brought_is t packets h has = ap (λ (c : Cutting). c.given) has.cut

pub brought_at_first : (t : ℕ) → HasBrought t [] []
brought_at_first t = record { kept = refl; cut = refl }

module _ (t : ℕ) (packets : List Packet) (h : History) (has : HasBrought t packets h) where
  abbrev received : List ℕ
  received = bytes_received t h

  received_more : (p : Packet) → IsReadPlainly p 0 → framed (received ++ spelling p 0) ≡ read_whole (packets ++ p ∷ [])
  received_more p fits =
      cut_piece front_of item after packets_are_framed (length received) plain received (spelling p 0) (omega arith)
      (ap (λ (c : Cutting). c.fault) has.cut)
      ∙ (ap (λ (c : Cutting). joined c.given (cut_packets c.reading (c.rest ++ spelling p 0))) has.cut
      ∙ ap (joined packets) (one_packet p fits))

  -- nothing came on the link
  same : (next : History) → is_lost t next ≡ is_lost t h → bytes_received t next ≡ bytes_received t h → HasBrought t (packets ++ []) next
  same next lost bytes = record { kept = lost ∙ has.kept; cut = ap framed bytes ∙ (has.cut ∙ ap read_whole (sym (append-nil packets))) }

  -- a packet came
  recv_whole : (link : ℕ) (p : Packet) → IsReadPlainly p 0 → HasBrought t (packets ++ on_link t link p) (Recv link (spelling p 0) ∷ h)
  recv_whole link p fits = record { kept = has.kept; cut = go (nat_eq link t) }
    where
      go : (here : Bool) → framed (cond (here && not (is_lost t h)) (received ++ spelling p 0) received)
          ≡ read_whole (packets ++ cond here (p ∷ []) [])
      go true = ap (λ (lost : Bool). framed (cond (not lost) (received ++ spelling p 0) received)) has.kept ∙ received_more p fits
      go false = has.cut ∙ ap read_whole (sym (append-nil packets))

  -- a packet came in two pieces
  recv_pieces : (link : ℕ) (p : Packet) (first second : List ℕ) → IsReadPlainly p 0 → first ++ second ≡ spelling p 0
      → HasBrought t (packets ++ on_link t link p) (Recv link second ∷ Recv link first ∷ h)
  recv_pieces link p first second fits is = record { kept = has.kept; cut = go (nat_eq link t) }
    where
      after_first : Bool → List ℕ
      after_first more = cond more (received ++ first) received

      both : (received ++ first) ++ second ≡ received ++ spelling p 0
      both = append_assoc received first second ∙ ap (λ (s : List ℕ). received ++ s) is

      after_both : Bool → List ℕ
      after_both more = cond more (after_first more ++ second) (after_first more)

      go : (here : Bool) → framed (after_both (here && not (is_lost t h))) ≡ read_whole (packets ++ cond here (p ∷ []) [])
      go true =
          ap (λ (lost : Bool). framed (after_both (not lost))) has.kept
          ∙ (ap framed both ∙ received_more p fits)
      go false = has.cut ∙ ap read_whole (sym (append-nil packets))

-- ---- act by act
-- An act that brings a whole packet, or nothing.
abbrev pub IsWhole : Act → Type 0
IsWhole (Answer stream from count Head) = ⊥
IsWhole (Answer stream from count Tail) = ⊥
IsWhole _ = Unit {0}

-- what a link brought after one more act
pub act_brings : (t : ℕ) (packets : List Packet) (h : History) (act : Act) → HasBrought t packets h → IsWhole act → IsSpelled act
    → HasBrought t (packets ++ packets_by t act) (entry_of act ∷ h)
act_brings t packets h (Plug link) has whole small = same t packets h has (entry_of (Plug link) ∷ h) refl refl
act_brings t packets h (Greet link) has whole small = recv_whole t packets h has link greeting_packet read_greeting
act_brings t packets h (Come stream) has whole small = same t packets h has (entry_of (Come stream) ∷ h) refl refl
act_brings t packets h (Ask stream) has whole small = same t packets h has (entry_of (Ask stream) ∷ h) refl refl
act_brings t packets h (Accept stream) has whole small =
    recv_whole t packets h has (link_of stream) (packet_to Okay stream []) (read_bare stream small)
act_brings t packets h (Write stream from count) has whole small = same t packets h has (entry_of (Write stream from count) ∷ h) refl refl
act_brings t packets h (Acknowledge stream) has whole small =
    recv_whole t packets h has (link_of stream) (packet_to Okay stream []) (read_bare stream small)
act_brings t packets h (Answer stream from count Whole) has whole small =
    recv_whole t packets h has (link_of stream) (packet_to Wrte stream (down_bytes stream from count))
    (read_write stream from count small.0 small.1)
act_brings t packets h (Answer stream from count Head) has whole small = absurd whole
act_brings t packets h (Answer stream from count Tail) has whole small = absurd whole
act_brings t packets h (Leave stream) has whole small = same t packets h has (entry_of (Leave stream) ∷ h) refl refl
act_brings t packets h (Close stream) has whole small =
    recv_whole t packets h has (link_of stream) (packet_to Clse stream []) (read_close stream small)

-- two pieces are the whole
pieces_join : (bytes : List ℕ) → piece_of Head bytes ++ piece_of Tail bytes ≡ bytes
pieces_join bytes = search (take-append-drop)

-- what it brought after both pieces of a packet
pub pieces_bring : (t : ℕ) (packets : List Packet) (h : History) (stream from count : ℕ) → HasBrought t packets h
    → remote_of stream < 2 ^ 32 → count ≤ MAX_PAYLOAD → HasBrought t (packets ++ packets_by t (Answer stream from count Tail))
    (entry_of (Answer stream from count Tail) ∷ entry_of (Answer stream from count Head) ∷ h)
pieces_bring t packets h stream from count has small short =
    recv_pieces t packets h has (link_of stream) p (piece_of Head (spelling p 0)) (piece_of Tail (spelling p 0))
    (read_write stream from count small short)
    (pieces_join (spelling p 0))
  where
    p : Packet
    p = packet_to Wrte stream (down_bytes stream from count)

-- ---- turn by turn
-- An act that begins a turn, with its numbers in the ranges of the words that spell them.
abbrev pub IsTurn : Act → Type 0
IsTurn (Plug link) = Unit {0}
IsTurn (Come stream) = remote_of stream < 2 ^ 32
IsTurn (Write stream from count) = remote_of stream < 2 ^ 32
IsTurn (Answer stream from count Whole) = (remote_of stream < 2 ^ 32) × (count ≤ MAX_PAYLOAD)
IsTurn (Answer stream from count Head) = (remote_of stream < 2 ^ 32) × (count ≤ MAX_PAYLOAD)
IsTurn (Leave stream) = Unit {0}
IsTurn (Close stream) = remote_of stream < 2 ^ 32
IsTurn _ = ⊥

-- what a link brought in some acts
abbrev pub BringsOn : (t : ℕ) → List Act → Type 0
BringsOn t acts = HasBrought t (packets_on t acts) (past_of acts)

-- what a link brought after the acts of one more turn
module _ (t : ℕ) (done : List Act) (has : BringsOn t done) where
  abbrev before : History
  before = past_of done

  -- after some acts that are all of a turn
  turned : (acts : List Act) (packets : List Packet) → HasBrought t packets (past_of acts ++ before)
      → packets ≡ packets_on t done ++ packets_on t acts
      → BringsOn t (done ++ acts)
  turned acts packets now is =
      let whole : HasBrought t (packets_on t (done ++ acts)) (past_of acts ++ before) =
      subst (λ (ps : List Packet). HasBrought t ps (past_of acts ++ before)) (is ∙ sym (packets_then t done acts)) now in
      subst (HasBrought t (packets_on t (done ++ acts))) (sym (past_then done acts)) whole

  one : (a : Act) → IsWhole a → IsSpelled a → BringsOn t (done ++ a ∷ [])
  one a whole small =
      turned (a ∷ []) (packets_on t done ++ packets_by t a) (act_brings t (packets_on t done) before a has whole small)
      (ap (λ (ps : List Packet). packets_on t done ++ ps) (sym (append-nil (packets_by t a))))

  two : (a b : Act) → IsWhole a → IsWhole b → IsSpelled a → IsSpelled b → BringsOn t (done ++ a ∷ b ∷ [])
  two a b whole_a whole_b small_a small_b =
      turned (a ∷ b ∷ []) ((packets_on t done ++ packets_by t a) ++ packets_by t b)
      (act_brings t _ (entry_of a ∷ before) b (act_brings t (packets_on t done) before a has whole_a small_a) whole_b small_b)
      (append_assoc (packets_on t done) (packets_by t a) (packets_by t b)
      ∙ ap (λ (ps : List Packet). packets_on t done ++ (packets_by t a ++ ps)) (sym (append-nil (packets_by t b))))

  pub turn_brings : (a : Act) → IsTurn a → BringsOn t (done ++ acts_from a)
  turn_brings (Plug link) is = two (Plug link) (Greet link) tt tt tt tt
  turn_brings (Come stream) is =
      turned (Come stream ∷ Ask stream ∷ Accept stream ∷ []) (((packets_on t done ++ []) ++ []) ++ packets_by t (Accept stream))
      (act_brings t _ (entry_of (Ask stream) ∷ entry_of (Come stream) ∷ before) (Accept stream)
      (act_brings t _ (entry_of (Come stream) ∷ before) (Ask stream)
      (act_brings t (packets_on t done) before (Come stream) has tt tt) tt tt) tt is)
      (ap (λ (ps : List Packet). (ps ++ []) ++ packets_by t (Accept stream)) (append-nil (packets_on t done))
      ∙ (ap (λ (ps : List Packet). ps ++ packets_by t (Accept stream)) (append-nil (packets_on t done))
      ∙ ap (λ (ps : List Packet). packets_on t done ++ ps) (sym (append-nil (packets_by t (Accept stream))))))
  turn_brings (Write stream from count) is = two (Write stream from count) (Acknowledge stream) tt tt tt is
  turn_brings (Answer stream from count Whole) is = one (Answer stream from count Whole) tt is
  turn_brings (Answer stream from count Head) is =
      let acts = Answer stream from count Head ∷ Answer stream from count Tail ∷ [] in
      turned acts (packets_on t done ++ packets_by t (Answer stream from count Tail))
      (pieces_bring t (packets_on t done) before stream from count has is.0 is.1)
      (ap (λ (ps : List Packet). packets_on t done ++ ps) (sym (append-nil (packets_by t (Answer stream from count Tail)))))
  turn_brings (Leave stream) is = one (Leave stream) tt tt
  turn_brings (Close stream) is = one (Close stream) tt is
  turn_brings _ is = absurd is
