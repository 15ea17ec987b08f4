-- What packets take of the places.
use Rattle.std.proofs.Common.{ℕ, ◌+◌, ◌≡◌, ◌≢◌, ◌≤◌, Bool, true, false, List, [], ◌∷◌, length, suc, eqb, Option, Some, None, refl, sym, ◌∙◌}
use Rattle.std.proofs.Common.{ap, subst, cond, arith, ◌⊎◌, inl, inr}
use Rattle.std.specs.Prelude.{unwrap_or}
use Rattle.std.proofs.lemmas.Bool.{eq-eqb, ne_eqb, cases_eq}
use Rattle.adb_outside.specs.Tables.{at}
use Rattle.adb_wire.specs.declared.packets.Packet.{Packet}
use Rattle.adb_stream.specs.Stream.{of_link}
use Rattle.adb_stream.specs.declared.row.Stream.{Stream}
use Rattle.adb_history.specs.Rows.{State}
use Rattle.adb_history.specs.Events.{Made, quietly}
use Rattle.adb_history.specs.Packets.{at_stream}
use Rattle.adb_hub_rules.specs.declared.came.Came.{Came}
use Rattle.adb_hub_tables.specs.declared.tables.Tables.{Tables}
use Rattle.adb_hub_tables.specs.Places.{LinkRoom, ClientRoom, StaysOwned, IsProvided, Uses, Takes, TakesAll}
use Rattle.adb_hub_rules.specs.Came.{packet_of, packets_of, takes_slice, slices_of, slices_for, slices_in}
use Rattle.adb_hub_tables.proofs.Staying.{stays, owned_then, held_stays, held_then, read_stays, read_then}
use Rattle.adb_hub_tables.proofs.Using.{more_room, more_places}

-- what a rule takes of one client, a packet takes of it
module _ {link client a b : ℕ} {old new : Tables} (h : Uses link a client b old new) where
  pub takes_from : (slices : ℕ → ℕ) → a ≤ 1 → b ≤ slices client → Takes link 1 slices old new
  takes_from slices le enough = record {
    on_link = λ n room. h.on_link n (more_room (n + 1) (n + a) (at link old.links.entries) (omega (arith, le)) room);
    on_links = h.on_links;
    of_clients = λ n c room. of_client n c (cases_eq c client) room;
    counted = h.counted;
    tracked = h.tracked;
    owned = h.owned;
    held = h.held;
    read = h.read;
  }
    where
      of_client : (n c : ℕ) → ◌⊎◌ (c ≡ client) (c ≢ client) → ClientRoom (n + slices c) (at c old.clients.entries)
          → ClientRoom n (at c new.clients.entries)
      of_client n c (inl is) room =
          let here = subst (λ (q : ℕ). ClientRoom (n + slices q) (at q old.clients.entries)) is room in
          subst (λ (q : ℕ). ClientRoom n (at q new.clients.entries)) (sym is)
          (h.of_client n (more_places (n + slices client) (n + b) (at client old.clients.entries) (omega (arith, enough)) here))
      of_client n c (inr other) room = h.of_clients n c other (more_places (n + slices c) n (at c old.clients.entries) (omega arith) room)

-- a packet for a stream takes one slice of its client
pub one_slice : (stream : Stream) (row : Option Stream) → row ≡ Some stream → 1 ≤ slices_of true row stream.client
one_slice stream row is =
    let one : slices_of true row stream.client ≡ 1 =
    ap (λ r. slices_of true r stream.client) is ∙ ap (λ b. cond b 1 0) (eq-eqb stream.client stream.client refl) in
    omega (arith, one)

-- a stream that is found by its link
pub record IsFoundOn (link : ℕ) (row : Option Stream) (stream : Stream) : Type 0 where
  pub is : row ≡ Some stream
  pub on : stream.link ≡ link

pub found_on : (link : ℕ) (row : Option Stream) (stream : Stream) → of_link link row ≡ Some stream → IsFoundOn link row stream
found_on link None stream found = cc
found_on link (Some x) stream found = by_place (cases_eq x.link link)
  where
    by_place : ◌⊎◌ (x.link ≡ link) (x.link ≢ link) → IsFoundOn link (Some x) stream
    by_place (inl on) =
        let same : Some x ≡ Some stream = ap (λ b. cond b (Some x) None) (sym (eq-eqb x.link link on)) ∙ found in
        let it : x ≡ stream = ap (λ row. unwrap_or row x) same in
        record { is = same; on = ap (λ (s : Stream). s.link) (sym it) ∙ on }
    by_place (inr off) = let never : None ≡ Some stream = ap (λ b. cond b (Some x) None) (sym (ne_eqb x.link link off)) ∙ found in cc

pub at_found : (link : ℕ) (row : Option Stream) (stream : Stream) (rule : Stream → State → Made) (s : State) → IsFoundOn link row stream
    → rule stream s ≡ at_stream link row rule s
at_found link row stream rule s h =
    ap (λ b. cond b (rule stream s) (quietly s)) (sym (eq-eqb stream.link link h.on)) ∙ ap (λ r. at_stream link r rule s) (sym h.is)

-- ---- packets one after another
fewer_of : (b : Bool) (old new : Option Stream) (c : ℕ) → StaysOwned old new → slices_of b new c ≤ slices_of b old c
fewer_of false old new c owned = omega arith
fewer_of true old None c owned = omega arith
fewer_of true None (Some new) c owned = absurd owned
fewer_of true (Some old) (Some new) c owned =
    let same : slices_of true (Some new) c ≡ slices_of true (Some old) c = ap (λ (k : ℕ). cond (eqb k c) 1 0) owned.0 in
    omega (arith, same)

fewer_in : (packets : List Packet) (old new : List (ℕ × Stream)) (c : ℕ) → ((l : ℕ) → StaysOwned (at l old) (at l new))
    → slices_in packets new c ≤ slices_in packets old c
fewer_in [] old new c owned = omega arith
fewer_in (p ∷ packets) old new c owned =
    let first = fewer_of (takes_slice p.command) (at p.arg1 old) (at p.arg1 new) c (owned p.arg1) in
    omega (arith, first, fewer_in packets old new c owned)

-- the packets that are left, the next of them first
pub record Left (link total : ℕ) (first : ℕ → ℕ) (items : List Came) (old now : Tables) (came : Came) (rest : List Came) : Type 0 where
  pub takes : TakesAll link total (length items) first (slices_in (packets_of items) now.streams.streams) old now
  pub is : items ≡ came ∷ rest

module _ {link total : ℕ} {first : ℕ → ℕ} {items : List Came} {old now : Tables} {came : Came} {rest : List Came}
    (h : Left link total first items old now came rest) where
  count : length items ≡ suc (length rest)
  count = ap (length {A = Came}) h.is

  parts : (c : ℕ) → slices_in (packets_of items) now.streams.streams c
      ≡ slices_for (packet_of came) now.streams.streams c + slices_in (packets_of rest) now.streams.streams c
  parts c = ap (λ (all : List Came). slices_in (packets_of all) now.streams.streams c) h.is

  -- there is room for the next
  pub next_room : LinkRoom total (at link old.links.entries) → LinkRoom 1 (at link now.links.entries)
  next_room room =
      more_room (0 + length items) 1 (at link now.links.entries) (omega (arith, count))
      (h.takes.on_link 0 (more_room total (0 + total) (at link old.links.entries) (omega arith) room))

  pub next_places : ((c : ℕ) → ClientRoom (first c) (at c old.clients.entries)) → (c : ℕ)
      → ClientRoom (slices_for (packet_of came) now.streams.streams c) (at c now.clients.entries)
  next_places places c =
      more_places (0 + slices_in (packets_of items) now.streams.streams c)
      (slices_for (packet_of came) now.streams.streams c) (at c now.clients.entries)
      (omega (arith, parts c))
      (h.takes.of_clients 0 c
      (more_places (first c) (0 + first c) (at c old.clients.entries) (omega arith) (places c)))

  -- what is left after it
  pub takes_more : (new : Tables) → Takes link 1 (slices_for (packet_of came) now.streams.streams) now new
      → TakesAll link total (length rest) first (slices_in (packets_of rest) new.streams.streams) old new
  takes_more new k = record {
    on_link = λ n room. k.on_link (n + length rest)
        (more_room (n + length items) (n + length rest + 1) (at link now.links.entries) (omega (arith, count)) (h.takes.on_link n room));
    on_links = λ n l other room. k.on_links n l other (h.takes.on_links n l other room);
    of_clients = λ n c room.
        let fewer = fewer_in (packets_of rest) now.streams.streams new.streams.streams c k.owned in
        k.of_clients (n + slices_in (packets_of rest) new.streams.streams c) c
        (more_places (n + slices_in (packets_of items) now.streams.streams c)
        (n + slices_in (packets_of rest) new.streams.streams c + slices_for (packet_of came) now.streams.streams c)
        (at c now.clients.entries)
        (omega (arith, fewer, parts c)) (h.takes.of_clients n c room));
    counted = λ counted. k.counted (h.takes.counted counted);
    tracked = λ tracked. k.tracked (h.takes.tracked tracked);
    owned = λ l. owned_then (at l old.streams.streams) (at l now.streams.streams) (at l new.streams.streams) (h.takes.owned l) (k.owned l);
    held = λ c. held_then (at c old.clients.entries) (at c now.clients.entries) (at c new.clients.entries) (h.takes.held c) (k.held c);
    read = λ l. read_then (at l old.links.entries) (at l now.links.entries) (at l new.links.entries) (h.takes.read l) (k.read l);
  }

-- all are taken
pub takes_over : (link packets : ℕ) (slices : ℕ → ℕ) (old new : Tables)
    → TakesAll link packets 0 slices (λ _. 0) old new → Takes link packets slices old new
takes_over link packets slices old new h = record {
  on_link = λ n room. more_room (n + 0) n (at link new.links.entries) (omega arith) (h.on_link n room);
  on_links = h.on_links;
  of_clients = λ n c room. more_places (n + 0) n (at c new.clients.entries) (omega arith) (h.of_clients n c room);
  counted = h.counted;
  tracked = h.tracked;
  owned = h.owned;
  held = h.held;
  read = h.read;
}

-- a packet of which nothing is made takes nothing
pub takes_nothing : (link : ℕ) (slices : ℕ → ℕ) (t : Tables) → Takes link 1 slices t t
takes_nothing link slices t = record {
  on_link = λ n room. more_room (n + 1) n (at link t.links.entries) (omega arith) room;
  on_links = λ n l other room. room;
  of_clients = λ n c room. more_places (n + slices c) n (at c t.clients.entries) (omega arith) room;
  counted = λ counted. counted;
  tracked = λ tracked. tracked;
  owned = λ l. stays (at l t.streams.streams);
  held = λ c. held_stays (at c t.clients.entries);
  read = λ k. read_stays (at k t.links.entries);
}

-- what is provided stays so by packets for which there is room
pub provided_after : (link packets : ℕ) (slices : ℕ → ℕ) (old new : Tables) → Takes link packets slices old new → IsProvided old
    → LinkRoom packets (at link old.links.entries) × ((c : ℕ) → ClientRoom (slices c) (at c old.clients.entries)) → IsProvided new
provided_after link packets slices old new h provided (room, places) = record {
  links = λ k. on k (cases_eq k link);
  clients = λ c. h.of_clients 0 c (more_places (slices c) (0 + slices c) (at c old.clients.entries) (omega arith) (places c));
  counted = h.counted provided.counted;
  tracked = h.tracked provided.tracked;
}
  where
    on : (k : ℕ) → ◌⊎◌ (k ≡ link) (k ≢ link) → LinkRoom 0 (at k new.links.entries)
    on k (inl is) = subst (λ (q : ℕ). LinkRoom 0 (at q new.links.entries)) (sym is)
        (h.on_link 0 (more_room packets (0 + packets) (at link old.links.entries) (omega arith) room))
    on k (inr other) = h.on_links 0 k other (provided.links k)
