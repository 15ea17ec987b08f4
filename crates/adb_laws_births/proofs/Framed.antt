-- What is spelled for a link is framed to the packets that became due to it.
use Rattle.std.proofs.Common.{ℕ, ◌+◌, ◌≡◌, Bool, true, false, cond, All, List, [], ◌∷◌, ◌++◌, length, take, drop, Some, None, Ok, refl, ap}
use Rattle.std.proofs.Common.{◌∙◌, arith}
use Rattle.std.specs.Prelude.{nat_eq}
use Rattle.std.proofs.lemmas.List.{length-append, append_assoc, take_at, drop_at}
use Rattle.std.proofs.lemmas.List.Elements.{All-head, All-tail}
use Rattle.adb_outside.specs.declared.framer.Front.TheVariants.{Whole}
use Rattle.adb_outside.specs.Framing.{Cut, joined}
use Rattle.adb_wire.specs.declared.headers.Head.{Head}
use Rattle.adb_wire.specs.declared.headers.TheConstants.{HEADER_LEN}
use Rattle.adb_wire.specs.declared.packets.Packet.{Packet}
use Rattle.adb_wire.specs.declared.format.PacketFault.{PacketFault}
use Rattle.adb_wire.specs.declared.format.PacketFault.TheVariants.{BadSum}
use Rattle.adb_wire.specs.declared.format.PacketFormat.{PacketFormat}
use Rattle.adb_wire.specs.Header.{IsHead, byte_sum_of, header_bytes, head_at}
use Rattle.adb_wire.specs.Packet.{head_for, spelling}
use Rattle.adb_wire.specs.Format.{may_carry, payload_at, sum_fault, whole_front, front_of, packet_under, packet_with, packet_of}
use Rattle.adb_wire.specs.Format.{format_after}
use Rattle.adb_wire.specs.FormatLaws.{front_full}
use Rattle.adb_wire.specs.Cutting.{cut_packets}
use Rattle.adb_wire.proofs.HeaderLaws.{head_again}
use Rattle.adb_wire.proofs.CuttingLaws.{cut_step}
use Rattle.adb_history.specs.Events.{Event, due_to_client, due_to_link, ended, packets_to, spelled_to}

-- how a link reads that looks at no check words
abbrev pub plain : PacketFormat
plain = record { sums = false }

-- a packet that such a link reads, and goes on so
pub record IsReadPlainly (p : Packet) (check : ℕ) : Type 0 where
  pub head : IsHead (head_for p check)
  pub carries : may_carry false p.command check (byte_sum_of p.payload) ≡ true
  pub after : format_after plain p ≡ plain

abbrev Cutting : Type 0
Cutting = Cut PacketFormat Packet PacketFault

module _ (p : Packet) (check : ℕ) (more : List ℕ) (fits : IsReadPlainly p check) where
  abbrev head : Head
  head = head_for p check

  abbrev spelt : List ℕ
  spelt = spelling p check ++ more

  abbrev size : ℕ
  size = HEADER_LEN + length p.payload

  parts : spelt ≡ header_bytes head ++ (p.payload ++ more)
  parts = append_assoc (header_bytes head) p.payload more

  whole : length (spelling p check) ≡ size
  whole = length-append (header_bytes head) p.payload

  read : head_at spelt ≡ Ok head
  read = ap head_at parts ∙ head_again head (p.payload ++ more) fits.head

  payload : payload_at head spelt ≡ p.payload
  payload = ap (payload_at head) parts
      ∙ (ap (take (length p.payload)) (drop_at (header_bytes head) (p.payload ++ more) HEADER_LEN refl)
      ∙ take_at p.payload more (length p.payload) refl)

  sums : sum_fault plain head (payload_at head spelt) ≡ None
  sums = ap (sum_fault plain head) payload ∙ ap (λ (b : Bool). cond b None (Some (BadSum check (byte_sum_of p.payload)))) fits.carries

  front : front_of plain spelt ≡ Whole size
  front = front_full plain spelt head read (omega (arith, length-append (spelling p check) more, whole)) ∙ ap (whole_front size) sums

  packet : packet_of (take size spelt) ≡ p
  packet = ap packet_of (take_at (spelling p check) more size whole)
      ∙ (ap (λ r. packet_with r (drop HEADER_LEN (spelling p check))) (head_again head p.payload fits.head)
      ∙ ap (packet_under head) (drop_at (header_bytes head) p.payload HEADER_LEN refl))

  -- the first packet is cut off
  one_cut : cut_packets plain spelt ≡ joined (p ∷ []) (cut_packets plain more)
  one_cut =
      cut_step plain spelt (Whole size) front
      ∙ (ap (λ q. joined (q ∷ []) (cut_packets (format_after plain q) (drop size spelt))) packet
      ∙ (ap (λ f. joined (p ∷ []) (cut_packets f (drop size spelt))) fits.after
      ∙ ap (λ rest. joined (p ∷ []) (cut_packets plain rest)) (drop_at (spelling p check) more size whole)))

abbrev pub IsReadEvent : Event → Type 0
IsReadEvent (due_to_client client bytes) = Unit {0}
IsReadEvent (due_to_link link packet check) = IsReadPlainly packet check
IsReadEvent (ended stream ending) = Unit {0}

-- What is spelled for a link is framed to its packets, and nothing is left.
pub spelled_cut : (t : ℕ) (events : List Event) → All IsReadEvent events
    → cut_packets plain (spelled_to t events) ≡ record { given = packets_to t events; reading = plain; rest = []; fault = None }
spelled_cut t [] all = refl
spelled_cut t (due_to_client client bytes ∷ events) all = spelled_cut t events (All-tail IsReadEvent _ events all)
spelled_cut t (ended stream ending ∷ events) all = spelled_cut t events (All-tail IsReadEvent _ events all)
spelled_cut t (due_to_link link p check ∷ events) all =
    go (nat_eq link t) (All-head IsReadEvent _ events all) (spelled_cut t events (All-tail IsReadEvent _ events all))
  where
    left : List Packet → Cutting
    left ps = record { given = ps; reading = plain; rest = []; fault = None }

    go : (b : Bool) → IsReadPlainly p check → cut_packets plain (spelled_to t events) ≡ left (packets_to t events)
        → cut_packets plain (cond b (spelling p check ++ spelled_to t events) (spelled_to t events))
        ≡ left (cond b (p ∷ packets_to t events) (packets_to t events))
    go true here later = one_cut p check (spelled_to t events) here ∙ ap (joined (p ∷ [])) later
    go false here later = later
