-- What a link brought, when more comes: packets stay, and so does what they opened.
use Rattle.std.proofs.Common.{◌≡◌, ◌≢◌, ℕ, ◌^◌, ◌<◌, ◌≤◌, Bool, true, false, cond, All, List, [], ◌∷◌, ◌++◌, length, drop, Option, Some}
use Rattle.std.proofs.Common.{None, refl, sym}
use Rattle.std.proofs.Common.{ap, ◌∙◌, ◌⊎◌, inl, inr, arith, eqb}
use Rattle.std.specs.Prelude.{not, ◌&&◌, ◌==◌, nat_eq}
use Rattle.std.proofs.lemmas.Bool.{cases_lt}
use Rattle.std.proofs.lemmas.List.{append-nil, drop-append-le}
use Rattle.std.proofs.lemmas.List.Elements.{All-nil, All-cons, All-append, All-drop, All-contains}
use Rattle.std.proofs.Math.ListN.{drop_of_length-le}
use Rattle.adb_outside.specs.Framing.{Cut, joined}
use Rattle.adb_outside.proofs.FramingLaws.{cut_piece, fault_stays}
use Rattle.adb_wire.specs.Header.{IsBytes}
use Rattle.adb_wire.specs.Format.{front_of, packet_of, format_after}
use Rattle.adb_wire.specs.FormatLaws.{packets_are_framed}
use Rattle.adb_wire.specs.Cutting.{Spells, cut_packets, framed}
use Rattle.adb_wire.specs.declared.command.Command.{Command}
use Rattle.adb_wire.specs.declared.command.Command.TheVariants.{Cnxn, Open, Okay, Wrte, Clse, Auth, Stls}
use Rattle.adb_wire.specs.declared.packets.Packet.{Packet}
use Rattle.adb_wire.specs.declared.format.PacketFault.{PacketFault}
use Rattle.adb_wire.specs.declared.format.PacketFormat.{PacketFormat}
use Rattle.adb_wire.proofs.CuttingLaws.{parts_cut}
use Rattle.adb_stream.specs.declared.row.Stream.{Stream}
use Rattle.adb_capture.specs.declared.entry.Entry.{Entry}
use Rattle.adb_capture.specs.declared.entry.Entry.TheVariants.{Join, Enter, Read, End, Bound, Attach, Recv, Detach, Put, Send}
use Rattle.adb_history.specs.Links.{credit_word}
use Rattle.adb_history.specs.Machine.{History, IsLegal}
use Rattle.adb_history.specs.Bytes.{is_lost, bytes_received, brought}
use Rattle.adb_history.specs.Births.{Birth, since, Opening, is_between, opening_by, opening_in, opening_of, remote_in, remote_of}
use Rattle.adb_laws_births.specs.Openings.{opened_with, opening_stays, heard_remote}
use Rattle.adb_laws_births.specs.Born.{IsBornAs}

-- some packets come first among others
abbrev pub ComeFirst : List Packet → List Packet → Type 0
ComeFirst front all = (rest : List Packet) × (front ++ rest ≡ all)

pub come_first_same : (ps : List Packet) → ComeFirst ps ps
come_first_same ps = ([], append-nil ps)

-- ---- what the framing gives
abbrev Cutting : Type 0
Cutting = Cut PacketFormat Packet PacketFault

-- The packets of a front of some bytes come first.
pub framed_front : (x y : List ℕ) → ComeFirst (framed x).given (framed (x ++ y)).given
framed_front x y = go (framed x).fault refl
  where
    go : (fault : Option PacketFault) → (framed x).fault ≡ fault → ComeFirst (framed x).given (framed (x ++ y)).given
    go None sound =
        let more : Cutting = cut_packets (framed x).reading ((framed x).rest ++ y) in
        let whole : framed (x ++ y) ≡ joined (framed x).given more =
        cut_piece front_of (λ _ frame. packet_of frame) (λ format frame. format_after format (packet_of frame))
        packets_are_framed (length x)
        (record { sums = false }) x y (omega arith) sound in
        (more.given, sym (ap (λ (c : Cutting). c.given) whole))
    go (Some fault) broken =
        let stays = fault_stays front_of (λ _ frame. packet_of frame)
        (λ format frame. format_after format (packet_of frame)) packets_are_framed
        (length x) (record { sums = false }) x y fault (omega arith) broken in
        ([], append-nil (framed x).given ∙ sym stays.0)

-- A fault of a front stays.
pub framed_fault : (x y : List ℕ) (fault : PacketFault) → (framed x).fault ≡ Some fault → (framed (x ++ y)).fault ≡ Some fault
framed_fault x y fault broken =
    (fault_stays front_of (λ _ frame. packet_of frame) (λ format frame. format_after format (packet_of frame)) packets_are_framed (length x)
    (record { sums = false }) x y fault (omega arith) broken).1

-- What a link brought comes first in what it brought later.
pub brought_grows : (t : ℕ) (e : Entry) (older : History) → ComeFirst (brought t older) (brought t (e ∷ older))
brought_grows t (Recv n bytes) older = go (eqb n t && not (is_lost t older))
  where
    go : (b : Bool) → ComeFirst (brought t older) (framed (cond b (bytes_received t older ++ bytes) (bytes_received t older))).given
    go true = framed_front (bytes_received t older) bytes
    go false = come_first_same (brought t older)
brought_grows t (Join c) older = come_first_same (brought t older)
brought_grows t (Enter c port) older = come_first_same (brought t older)
brought_grows t (Read c bytes) older = come_first_same (brought t older)
brought_grows t (End c cause) older = come_first_same (brought t older)
brought_grows t (Bound c port) older = come_first_same (brought t older)
brought_grows t (Attach n kind serial) older = come_first_same (brought t older)
brought_grows t (Detach n cause) older = come_first_same (brought t older)
brought_grows t (Put c bytes) older = come_first_same (brought t older)
brought_grows t (Send n bytes) older = come_first_same (brought t older)

-- ---- openings
-- what opened a stream among some packets behind a place opens it among more
opening_first : (l n : ℕ) (front all : List Packet) (o : Opening) → ComeFirst front all → opening_in l (drop n front) ≡ Some o
    → (more : List Packet) × (opening_in l (drop n all) ≡ Some (opened_with more o))
opening_first l n front all o first is = go (cases_lt (length front) n)
  where
    go : (length front < n) ⊎ (n ≤ length front) → (more : List Packet) × (opening_in l (drop n all) ≡ Some (opened_with more o))
    go (inl past) =
        let none : None ≡ Some o = ap (opening_in l) (sym (drop_of_length-le front {i = n} (omega (arith, past)))) ∙ is in
        absurd (let clash : None ≡ Some o = none in cc)
    go (inr within) = (
      first.0,
      ap (λ (ps : List Packet). opening_in l (drop n ps)) (sym first.1)
          ∙ (ap (opening_in l) (drop-append-le n front first.0 within) ∙ opening_stays l (drop n front) first.0 o is),
    )

-- The opening of a stream stays, with more packets after it.
pub opening_grows : (l : ℕ) (b : Birth) (e : Entry) (older : History) (o : Opening) → opening_of l b older ≡ Some o
    → (more : List Packet) × (opening_of l b (e ∷ older) ≡ Some (opened_with more o))
opening_grows l b e older o is =
    opening_first l b.packets_before (brought b.link older) (brought b.link (e ∷ older)) o (brought_grows b.link e older) is

-- an id that the device told of a stream stays
pub remote_first : (l n : ℕ) (front all : List Packet) → ComeFirst front all → remote_in (opening_in l (drop n front)) ≢ 0
    → remote_in (opening_in l (drop n all)) ≡ remote_in (opening_in l (drop n front))
remote_first l n front all first known = go (opening_in l (drop n front)) refl
  where
    go : (o : Option Opening) → opening_in l (drop n front) ≡ o
        → remote_in (opening_in l (drop n all)) ≡ remote_in (opening_in l (drop n front))
    go None is = absurd (known (ap remote_in is))
    go (Some o) is = let later = opening_first l n front all o first is in ap remote_in later.1 ∙ sym (ap remote_in is)

pub remote_grows : (l : ℕ) (b : Birth) (e : Entry) (older : History) → remote_of l b older ≢ 0
    → remote_of l b (e ∷ older) ≡ remote_of l b older
remote_grows l b e older known =
    remote_first l b.packets_before (brought b.link older) (brought b.link (e ∷ older)) (brought_grows b.link e older) known

-- the id of a stream that lives and is open is what the whole history tells
pub remote_told : (h : History) (heard : ℕ → List Packet) (l : ℕ) (stream : Stream) (k : IsBornAs h heard l stream)
    → ComeFirst (heard k.birth.link) (brought k.birth.link h) → stream.part.remote ≢ 0 → remote_of l k.birth h ≡ stream.part.remote
remote_told h heard l stream k first known =
    let here : remote_in (opening_in l (drop k.birth.packets_before (heard k.birth.link))) ≡ stream.part.remote =
    heard_remote l stream.part.remote (drop k.birth.packets_before (heard k.birth.link)) k.heard_of in
    remote_first l k.birth.packets_before (heard k.birth.link) (brought k.birth.link h) first (λ none. known (sym here ∙ none)) ∙ here

-- ---- the numbers of packets
-- the arguments of a packet are words
pub record HasWords (p : Packet) : Type 0 where
  pub arg0 : p.arg0 < 2 ^ 32
  pub arg1 : p.arg1 < 2 ^ 32

spelled_words : (before : List Packet) (bytes : List ℕ) (ps : List Packet) (rest : List ℕ) → Spells before bytes ps rest → All HasWords ps
spelled_words before bytes [] rest h = All-nil HasWords
spelled_words before bytes (p ∷ ps) rest h =
    All-cons HasWords p ps (record { arg0 = h.1.packet.arg0; arg1 = h.1.packet.arg1 }) (spelled_words (before ++ p ∷ []) h.0 ps rest h.2)

received_bytes : (t : ℕ) (h : History) → IsLegal h → IsBytes (bytes_received t h)
received_bytes t [] legal = All-nil (λ b. b < 256)
received_bytes t (Recv n bytes ∷ older) legal = go (eqb n t && not (is_lost t older)) (received_bytes t older legal.0)
  where
    go : (b : Bool) → IsBytes (bytes_received t older) → IsBytes (cond b (bytes_received t older ++ bytes) (bytes_received t older))
    go true h = All-append (λ b. b < 256) (bytes_received t older) bytes h legal.1.bytes
    go false h = h
received_bytes t (Join c ∷ older) legal = received_bytes t older legal.0
received_bytes t (Enter c port ∷ older) legal = received_bytes t older legal.0
received_bytes t (Read c bytes ∷ older) legal = received_bytes t older legal.0
received_bytes t (End c cause ∷ older) legal = received_bytes t older legal.0
received_bytes t (Bound c port ∷ older) legal = received_bytes t older legal.0
received_bytes t (Attach n kind serial ∷ older) legal = received_bytes t older legal.0
received_bytes t (Detach n cause ∷ older) legal = received_bytes t older legal.0
received_bytes t (Put c bytes ∷ older) legal = received_bytes t older legal.0
received_bytes t (Send n bytes ∷ older) legal = received_bytes t older legal.0

-- The arguments of all packets that a link brought are words.
pub brought_words : (t : ℕ) (h : History) → IsLegal h → All HasWords (brought t h)
brought_words t h legal =
    let bytes : List ℕ = bytes_received t h in
    spelled_words [] bytes (framed bytes).given (framed bytes).rest (parts_cut bytes (received_bytes t h legal)).spelled

-- the id that opens a stream is one of them
opening_word : (l : ℕ) (ps : List Packet) → All HasWords ps → remote_in (opening_in l ps) < 2 ^ 32
opening_word l [] all = omega arith
opening_word l (p ∷ ps) all = by p.command (opening_word l ps (All-drop HasWords 1 (p ∷ ps) all))
  where
    here : HasWords p
    here = All-contains HasWords (p ∷ ps) p all (0, omega arith, refl)

    okay : (b : Bool) → remote_in (opening_in l ps) < 2 ^ 32
        → remote_in (cond b (Some (record { remote = p.arg0; word = credit_word p.payload; later = ps })) (opening_in l ps)) < 2 ^ 32
    okay true later = here.arg0
    okay false later = later

    closed : (b : Bool) → remote_in (opening_in l ps) < 2 ^ 32 → remote_in (cond b None (opening_in l ps)) < 2 ^ 32
    closed true later = omega arith
    closed false later = later

    by : (command : Command) → remote_in (opening_in l ps) < 2 ^ 32 → remote_in (opening_by command l p ps (opening_in l ps)) < 2 ^ 32
    by Okay later = okay (nat_eq p.arg1 l && not (p.arg0 == 0)) later
    by Clse later = closed (is_between 0 l p) later
    by Cnxn later = omega arith
    by Open later = later
    by Wrte later = later
    by Auth later = later
    by Stls later = later

-- The id that a device tells of a stream is a word.
pub remote_word : (l : ℕ) (b : Birth) (h : History) → IsLegal h → remote_of l b h < 2 ^ 32
remote_word l b h legal =
    opening_word l (since b h) (All-drop HasWords b.packets_before (brought b.link h) (brought_words b.link h legal))
