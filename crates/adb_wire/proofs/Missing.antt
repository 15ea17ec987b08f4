-- What a deframer holds begins with no whole packet, and how many bytes are missing to one.
use Rattle.std.proofs.Common.{ℕ, ◌≡◌, ◌≤◌, ◌<◌, List, [], ◌∷◌, ◌++◌, length, take, drop, Option, Some, None, Result, Ok, Err, IfSome, refl}
use Rattle.std.proofs.Common.{sym, ◌∙◌, ap, subst, arith, inl, inr}
use Rattle.std.proofs.lemmas.Bool.{cases_lt}
use Rattle.std.specs.List.{All}
use Rattle.std.proofs.lemmas.List.{length-append, length-take, length-drop, take-append-drop, append-nil}
use Rattle.std.proofs.lemmas.List.Elements.{All-nil, All-append, All-rest, All-head}
use Rattle.adb_outside.specs.declared.framer.Front.TheVariants.{More, Bad, Whole}
use Rattle.adb_outside.specs.Framing.{joined}
use Rattle.adb_outside.specs.Framing as framing
use Rattle.adb_outside.proofs.FramingLaws.{cut_open, cut_all}
use Rattle.adb_wire.specs.declared.headers.Head.{Head}
use Rattle.adb_wire.specs.declared.headers.HeadFault.{HeadFault}
use Rattle.adb_wire.specs.declared.headers.TheConstants.{HEADER_LEN, MAX_PAYLOAD}
use Rattle.adb_wire.specs.declared.packets.Packet.{Packet}
use Rattle.adb_wire.specs.declared.format.PacketFault.{PacketFault}
use Rattle.adb_wire.specs.declared.format.PacketFault.TheVariants.{Broken}
use Rattle.adb_wire.specs.declared.format.PacketFormat.{PacketFormat}
use Rattle.adb_wire.specs.Header.{head_at}
use Rattle.adb_wire.specs.Format.{sum_fault, payload_at, packet_len, whole_front, front_of, packet_with, packet_of}
use Rattle.adb_wire.specs.FormatLaws.{is_whole, head_same, front_short, front_headed, front_partial, short, broken, partial, full, shows}
use Rattle.adb_wire.specs.FormatLaws.{packets_are_framed}
use Rattle.adb_wire.specs.Cutting.{cut_packets}
use Rattle.adb_wire.specs.Slicing.{headed_len, need_of}
use Rattle.adb_wire.specs.Deframing.{Deframing, held_after, IsOpen, IsSound, Waits, Gives}
use Rattle.adb_wire.proofs.CuttingLaws.{item, after, cut_step, same_held}
use Rattle.adb_wire.proofs.HeaderLaws.{head_reads}
use Rattle.adb_wire.proofs.Slices.{slice_short, slice_headed}

-- The payload is not too long; no payload is.
abbrev IsSized : Packet → Type 0
IsSized p = length p.payload ≤ MAX_PAYLOAD

abbrev AreSized : List Packet → Type 0
AreSized packets = All IsSized packets

-- after a piece no packet is whole in what is held
pub held_open : (old : Deframing) (piece : List ℕ) (new : Deframing) → IsOpen old → new ≡ held_after old piece old.fault → IsOpen new
held_open old piece new open_before is = go old.fault refl is
  where
    go : (fault : Option PacketFault) → old.fault ≡ fault → new ≡ held_after old piece fault → IsOpen new
    go None e same none =
        let bytes : List ℕ = old.rest ++ piece in
        let cut = ap (λ (d : Deframing). front_of d.reading d.rest) same in
        cut ∙ cut_open front_of item after packets_are_framed (length bytes) old.reading bytes (omega arith)
        (sym (ap (λ (d : Deframing). d.fault) same) ∙ none)
    go (Some fault) e same none = ap (λ (d : Deframing). front_of d.reading d.rest) same
        ∙ open_before (sym (ap (λ (d : Deframing). d.fault) same) ∙ none)

-- the payload of a whole packet is not too long
packet_sized : (format : PacketFormat) (bytes : List ℕ) (n : ℕ) → front_of format bytes ≡ Whole n
    → length (packet_of (take n bytes)).payload ≤ MAX_PAYLOAD
packet_sized format bytes n whole =
    let w = is_whole format bytes n whole in
    let long : length (take n bytes) ≡ n = omega (arith, length-take n bytes, w.size, w.fits) in
    let read : head_at (take n bytes) ≡ Ok w.head =
    sym (head_same (take n bytes) (drop n bytes) (omega (arith, long, w.size))) ∙ (ap head_at (take-append-drop n bytes) ∙ w.read) in
    let payload : (packet_of (take n bytes)).payload ≡ drop HEADER_LEN (take n bytes) =
    ap (λ (r : Result Head HeadFault). (packet_with r (drop HEADER_LEN (take n bytes))).payload) read in
    omega (arith, ap (length {A = ℕ}) payload, length-drop HEADER_LEN (take n bytes), long, w.size, (head_reads bytes w.head w.read).short)

-- after a piece no payload is too long
held_sized : (old : Deframing) (piece : List ℕ) (new : Deframing) → AreSized old.given
    → new ≡ held_after old piece old.fault → AreSized new.given
held_sized old piece new sized is = go old.fault is
  where
    go : (fault : Option PacketFault) → new ≡ held_after old piece fault → AreSized new.given
    go None same =
        let bytes : List ℕ = old.rest ++ piece in
        let more = cut_all front_of item after packets_are_framed IsSized packet_sized (length bytes) old.reading bytes (omega arith) in
        subst AreSized (sym (ap (λ (d : Deframing). d.given) same)) (All-append IsSized old.given _ sized more)
    go (Some fault) same = subst AreSized (sym (ap (λ (d : Deframing). d.given) same)) sized

-- the same, as the framer says it
pub fed_sound : (old : Deframing) (piece : List ℕ) (new : Deframing) → IsSound old
    → framing.Takes front_of item after old piece new → IsSound new
fed_sound old piece new sound t =
    let is = t.held ∙ same_held old piece old.fault in
    record { sized = held_sized old piece new sound.sized is; opened = held_open old piece new sound.opened is }

-- and what is cut of them and a piece, without the packets before
pub fresh_sound : (old : Deframing) (piece : List ℕ) → IsSound old → old.fault ≡ None
    → IsSound (cut_packets old.reading (old.rest ++ piece))
fresh_sound old piece sound none =
    let fresh : Deframing = record old { given = [] } in
    let is : cut_packets old.reading (old.rest ++ piece) ≡ held_after fresh piece old.fault = sym (ap (held_after fresh piece) none) in
    record {
      sized = held_sized fresh piece (cut_packets old.reading (old.rest ++ piece)) (All-nil IsSized) is;
      opened = held_open fresh piece (cut_packets old.reading (old.rest ++ piece)) sound.opened is;
    }

-- after a packet was given too
pub given_sound : (old new : Deframing) (given : Option Packet) → IsSound old → Gives old new given → IsSound new × IfSome given IsSized
given_sound old new None sound g = (subst IsSound (sym g.none.1) sound, tt)
given_sound old new (Some p) sound g =
    let is : AreSized (p ∷ new.given) = subst AreSized (ap (λ (d : Deframing). d.given) g.some) sound.sized in (
      record {
        sized = All-rest IsSized p new.given _ refl is;
        opened = λ none. ap (λ (d : Deframing). front_of d.reading d.rest) (sym g.some)
            ∙ sound.opened (ap (λ (d : Deframing). d.fault) g.some ∙ none);
      },
      All-head IsSized p new.given is,
    )

-- no packet is whole where bytes are missing
pub some_missing : (format : PacketFormat) (rest : List ℕ) → front_of format rest ≡ More → 0 < need_of rest
some_missing format rest more = elim (shows format rest) [
  | short lt e ↦ omega (arith, lt, slice_short rest lt)
  | broken fault h e is ↦ absurd (let clash : Bad (Broken fault) ≡ More = sym is ∙ more in cc)
  | partial head h e lt is ↦ omega (arith, lt, slice_headed rest h ∙ ap headed_len e)
  | full head e long is ↦ absurd (settled (packet_len head) (sum_fault format head (payload_at head rest)) (sym is ∙ more))
]
  where
    settled : (n : ℕ) (fault : Option PacketFault) → whole_front n fault ≡ More → ⊥
    settled n None e = cc
    settled n (Some fault) e = cc

-- fewer bytes than are missing complete nothing
short_front : (format : PacketFormat) (rest piece : List ℕ) → front_of format rest ≡ More → length piece < need_of rest
    → front_of format (rest ++ piece) ≡ More
short_front format rest piece more few = elim (cases_lt (length rest) HEADER_LEN) [
  | inl lt ↦ front_short format (rest ++ piece) (omega (arith, length-append rest piece, few, slice_short rest lt))
  | inr le ↦ by_head (head_at rest) refl le
]
  where
    by_head : (read : Result Head HeadFault) → head_at rest ≡ read → HEADER_LEN ≤ length rest → front_of format (rest ++ piece) ≡ More
    by_head (Err fault) e le = absurd (let clash : Bad (Broken fault) ≡ More = sym (front_headed format rest (Err fault) le e) ∙ more in cc)
    by_head (Ok head) e le =
        front_partial format (rest ++ piece) head (omega (arith, le, length-append rest piece)) (head_same rest piece le ∙ e)
        (omega (arith, length-append rest piece, few, slice_headed rest le ∙ ap headed_len e))

pub short_waits : (held : Deframing) (piece : List ℕ) → IsOpen held → held.fault ≡ None
    → length piece < need_of held.rest → Waits held piece
short_waits held piece open_before none few =
    ap (joined held.given)
    (cut_step held.reading (held.rest ++ piece) More
    (short_front held.reading held.rest piece (open_before none) few))
    ∙ (ap (λ ps. record { given = ps; reading = held.reading; rest = held.rest ++ piece; fault = None }) (append-nil held.given)
    ∙ ap (λ (f : Option PacketFault).
    record { given = held.given; reading = held.reading; rest = held.rest ++ piece; fault = f }) (sym none))
