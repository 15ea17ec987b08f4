-- The bytes of packets, with those of their answers, by what pays for them.
use Rattle.std.specs.Prelude.{ℕ, ◌+◌, ◌*◌, ◌≡◌, ◌≤◌, ◌&&◌, Bool, true, false, cond, nat_eq, All, List, [], ◌∷◌, ◌++◌, length}
use Rattle.std.proofs.Common.{refl, ap, arith, ◌∙◌}
use Rattle.std.proofs.lemmas.Bool.{eqb-true}
use Rattle.std.proofs.lemmas.List.{length-append}
use Rattle.std.proofs.lemmas.List.Elements.{All-head, All-tail}
use Rattle.adb_wire.specs.Header.{header_bytes}
use Rattle.adb_wire.specs.Packet.{spelling, head_for}
use Rattle.adb_wire.specs.declared.command.Command.{Command}
use Rattle.adb_wire.specs.declared.command.Command.TheVariants.{Wrte}
use Rattle.adb_wire.specs.declared.headers.Head.{Head}
use Rattle.adb_wire.specs.declared.packets.Packet.{Packet}
use Rattle.adb_history.specs.Events.{Event, due_to_client, due_to_link, ended, packets_to, spelled_to}
use Rattle.adb_history.specs.Births.{carried_in, count_from, is_open, is_wrte}
use Rattle.adb_laws_steps.specs.Tolls.{toll, tolls}
use Rattle.adb_laws_steps.specs.Owed.{answer_toll, answer_tolls}
use Rattle.adb_laws_steps.proofs.Parts.{total, part}

-- ---- weights of a packet
abbrev pub size : Packet → ℕ
size p = 24 + length p.payload

abbrev pub packet_toll : Packet → ℕ
packet_toll p = toll p.command p.payload

-- what its stream pays, a write for its bytes and an OPEN
abbrev pub stream_share : Packet → ℕ
stream_share p = cond (is_wrte p.command) (53 * length p.payload) 0 + cond (is_open p.command) (76 + length p.payload) 0

shared_by : (c : Command) (payload : List ℕ) → 24 + length payload + answer_toll c
    ≤ toll c payload + (cond (is_wrte c) (53 * length payload) 0 + cond (is_open c) (76 + length payload) 0)
shared_by Wrte [] = omega arith
shared_by _ _ = omega arith

-- all is paid
pub shared : (packets : List Packet) → total size (λ p. p.arg0) packets + answer_tolls packets
    ≤ total packet_toll (λ p. p.arg0) packets + total stream_share (λ p. p.arg0) packets
shared [] = omega arith
shared (p ∷ packets) =
    let here = shared_by p.command p.payload in
    let later = shared packets in
    omega (arith, here, later)

-- ---- what became due
length_header : (head : Head) → length (header_bytes head) ≡ 24
length_header head = refl

pub length_spelling : (p : Packet) (check : ℕ) → length (spelling p check) ≡ 24 + length p.payload
length_spelling p check = length-append (header_bytes (head_for p check)) p.payload
    ∙ ap (λ (n : ℕ). n + length p.payload) (length_header (head_for p check))

pub spelled_size : (t : ℕ) (events : List Event) → length (spelled_to t events) ≡ total size (λ p. p.arg0) (packets_to t events)
spelled_size t [] = refl
spelled_size t (due_to_client client bytes ∷ events) = spelled_size t events
spelled_size t (ended stream ending ∷ events) = spelled_size t events
spelled_size t (due_to_link link p check ∷ events) = go (nat_eq link t) (spelled_size t events)
  where
    go : (b : Bool) → length (spelled_to t events) ≡ total size (λ p. p.arg0) (packets_to t events)
        → length (cond b (spelling p check ++ spelled_to t events) (spelled_to t events))
        ≡ total size (λ p. p.arg0) (cond b (p ∷ packets_to t events) (packets_to t events))
    go true e =
        let both = length-append (spelling p check) (spelled_to t events) in
        let one = length_spelling p check in
        omega (arith, e, both, one)
    go false e = e

pub packet_tolls_within : (t : ℕ) (events : List Event) → total packet_toll (λ p. p.arg0) (packets_to t events) ≤ tolls events
packet_tolls_within t [] = omega arith
packet_tolls_within t (due_to_client client bytes ∷ events) = packet_tolls_within t events
packet_tolls_within t (ended stream ending ∷ events) = packet_tolls_within t events
packet_tolls_within t (due_to_link link p check ∷ events) = go (nat_eq link t) (packet_tolls_within t events)
  where
    go : (b : Bool) → total packet_toll (λ p. p.arg0) (packets_to t events) ≤ tolls events
        → total packet_toll (λ p. p.arg0) (cond b (p ∷ packets_to t events) (packets_to t events)) ≤ toll p.command p.payload + tolls events
    go true le = omega (arith, le)
    go false le = omega (arith, le)

-- ---- the share of one stream
-- an OPEN of a stream is at most so long
abbrev pub OpensWithin : (l most : ℕ) → Packet → Type 0
OpensWithin l most p = is_open p.command ≡ true → p.arg0 ≡ l → 76 + length p.payload ≤ most

pub share_without : (l : ℕ) (packets : List Packet) → count_from is_open l packets ≡ 0
    → part stream_share (λ p. p.arg0) l packets ≤ 53 * length (carried_in l packets)
share_without l [] none = omega arith
share_without l (p ∷ packets) none = go (is_wrte p.command) (is_open p.command) (nat_eq p.arg0 l) none (share_without l packets)
  where
    go : (a o m : Bool) → cond (o && m) (1 + count_from is_open l packets) (count_from is_open l packets) ≡ 0
        → (count_from is_open l packets ≡ 0 → part stream_share (λ p. p.arg0) l packets ≤ 53 * length (carried_in l packets))
        → cond m (cond a (53 * length p.payload) 0 + cond o (76 + length p.payload) 0) 0 + part stream_share (λ p. p.arg0) l packets
        ≤ 53 * length (cond (a && m) (p.payload ++ carried_in l packets) (carried_in l packets))
    go a true true none later = absurd (omega (arith, none))
    go true false true none later =
        let le = later none in let both = length-append p.payload (carried_in l packets) in omega (arith, le, both)
    go false false true none later = let le = later none in omega (arith, le)
    go true true false none later = let le = later none in omega (arith, le)
    go true false false none later = let le = later none in omega (arith, le)
    go false true false none later = let le = later none in omega (arith, le)
    go false false false none later = let le = later none in omega (arith, le)

pub share_within : (l most : ℕ) (packets : List Packet) → count_from is_open l packets ≤ 1 → All (OpensWithin l most) packets
    → part stream_share (λ p. p.arg0) l packets ≤ 53 * length (carried_in l packets) + most
share_within l most [] once all = omega arith
share_within l most (p ∷ packets) once all =
    go (is_wrte p.command) (is_open p.command) refl (nat_eq p.arg0 l) refl once (share_without l packets)
    (λ few. share_within l most packets few (All-tail (OpensWithin l most) p packets all))
  where
    go : (a o : Bool) → is_open p.command ≡ o → (m : Bool) → nat_eq p.arg0 l ≡ m
        → cond (o && m) (1 + count_from is_open l packets) (count_from is_open l packets) ≤ 1
        → (count_from is_open l packets ≡ 0 → part stream_share (λ p. p.arg0) l packets ≤ 53 * length (carried_in l packets))
        → (count_from is_open l packets ≤ 1 → part stream_share (λ p. p.arg0) l packets ≤ 53 * length (carried_in l packets) + most)
        → cond m (cond a (53 * length p.payload) 0 + cond o (76 + length p.payload) 0) 0 + part stream_share (λ p. p.arg0) l packets
        ≤ 53 * length (cond (a && m) (p.payload ++ carried_in l packets) (carried_in l packets)) + most
    go true true e true f once none later =
        let le = none (omega (arith, once)) in
        let here = All-head (OpensWithin l most) p packets all e (eqb-true p.arg0 l f) in
        let both = length-append p.payload (carried_in l packets) in
        omega (arith, le, here, both)
    go false true e true f once none later =
        let le = none (omega (arith, once)) in
        let here = All-head (OpensWithin l most) p packets all e (eqb-true p.arg0 l f) in
        omega (arith, le, here)
    go true false e true f once none later =
        let le = later once in let both = length-append p.payload (carried_in l packets) in omega (arith, le, both)
    go false false e true f once none later = let le = later once in omega (arith, le)
    go _ _ e _ f once none later = let le = later once in omega (arith, le)
