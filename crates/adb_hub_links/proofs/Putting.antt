-- Of one link something else came in.
use Rattle.std.proofs.Common.{ℕ, ◌≡◌, ◌≢◌, ◌⊎◌, inl, inr, List, Option, Some, None, refl, sym, ◌∙◌, ap, subst}
use Rattle.std.specs.Prelude.{option_map, option_and_then}
use Rattle.std.proofs.lemmas.Bool.{cases_eq, eq-eqb, ne_eqb}
use Rattle.adb_outside.specs.Tables.{at, change_row}
use Rattle.adb_stream.specs.declared.row.Stream.{Stream}
use Rattle.adb_wire.specs.Deframing.{Deframing}
use Rattle.adb_history.specs.Rows.{to_link}
use Rattle.adb_history.specs.Packets.{with_rest}
use Rattle.adb_hub_tables.specs.declared.ports.Port.{Port}
use Rattle.adb_hub_tables.specs.declared.tables.Tables.{Tables}
use Rattle.adb_hub_tables.specs.Tables.{link_row, state_of}
use Rattle.adb_hub_tables.specs.Tracked.{IsListedAt}
use Rattle.adb_hub_tables.specs.Places.{LinkRoom, ClientRoom, IsCountedAt, IsProvided, Uses, Takes}
use Rattle.adb_hub_tables.proofs.Staying.{owned_then, held_then, read_then}
use Rattle.adb_hub_tables.proofs.Using.{spares_of}
use Rattle.adb_hub_links.specs.Settling.{PutsIncoming, reading}

row_put : (incoming : Deframing) (port : Option Port)
    → option_map link_row (option_map (reading incoming) port) ≡ option_and_then (with_rest incoming.rest) (option_map link_row port)
row_put incoming None = refl
row_put incoming (Some port) = refl

room_put : (n : ℕ) (incoming : Deframing) (port : Option Port) → LinkRoom n port → LinkRoom n (option_map (reading incoming) port)
room_put n incoming None room = tt
room_put n incoming (Some port) room = room

counted_put : (k : ℕ) (streams : List (ℕ × Stream)) (incoming : Deframing) (port : Option Port) → IsCountedAt k streams port
    → IsCountedAt k streams (option_map (reading incoming) port)
counted_put k streams incoming None counted = tt
counted_put k streams incoming (Some port) counted = counted

module _ (link : ℕ) (incoming : Deframing) (old new : Tables) (h : PutsIncoming link incoming old new) where
  -- what is kept of each row is kept
  each_put : (P : ℕ → Option Port → Type 0) → ((port : Option Port) → P link port → P link (option_map (reading incoming) port)) → (k : ℕ)
      → P k (at k old.links.entries) → P k (at k new.links.entries)
  each_put P keeps k before = by_place (cases_eq k link)
    where
      by_place : (k ≡ link) ⊎ (k ≢ link) → P k (at k new.links.entries)
      by_place (inl is) =
          subst (λ (q : ℕ). P q (at q new.links.entries)) (sym is)
          (subst (P link) (sym h.here) (keeps (at link old.links.entries) (subst (λ (q : ℕ). P q (at q old.links.entries)) is before)))
      by_place (inr other) = subst (P k) (sym (h.apart k other)) before

  row_at : (k : ℕ) → option_map link_row (at k new.links.entries)
      ≡ change_row link (option_and_then (with_rest incoming.rest)) (λ q. option_map link_row (at q old.links.entries)) k
  row_at k = by_place (cases_eq link k)
    where
      by_place : (link ≡ k) ⊎ (link ≢ k) → option_map link_row (at k new.links.entries)
          ≡ change_row link (option_and_then (with_rest incoming.rest)) (λ q. option_map link_row (at q old.links.entries)) k
      by_place (inl is) = rw (eq-eqb link k is)
          (subst (λ (q : ℕ). option_map link_row (at q new.links.entries)
          ≡ option_and_then (with_rest incoming.rest) (option_map link_row (at q old.links.entries))) is
          (ap (option_map link_row) h.here ∙ row_put incoming (at link old.links.entries)))
      by_place (inr other) = rw (ne_eqb link k other) (ap (option_map link_row) (h.apart k (λ e. other (sym e))))

  pub put_state : state_of new ≡ to_link link (with_rest incoming.rest) (state_of old)
  put_state = ap state_of h.others ∙ (λ i. record (state_of old) { links = λ k. row_at k i })

  pub put_room : (n k : ℕ) → LinkRoom n (at k old.links.entries) → LinkRoom n (at k new.links.entries)
  put_room n k room = each_put (λ q. LinkRoom n) (room_put n incoming) k room

  pub put_places : (n c : ℕ) → ClientRoom n (at c old.clients.entries) → ClientRoom n (at c new.clients.entries)
  put_places n c room = subst (λ (t : Tables). ClientRoom n (at c t.clients.entries)) (sym h.others) room

  pub put_provided : IsProvided old → IsProvided new
  put_provided provided = record {
    links = λ k. put_room 0 k (provided.links k);
    clients = λ c. put_places 0 c (provided.clients c);
    counted = λ k.
        subst (λ (t : Tables). IsCountedAt k t.streams.streams (at k new.links.entries)) (sym h.others)
        (each_put (λ q. IsCountedAt q old.streams.streams) (counted_put link old.streams.streams incoming) k (provided.counted k));
    tracked = λ c. subst (λ (t : Tables). IsListedAt c t.trackers.keys (at c t.clients.entries)) (sym h.others) (provided.tracked c);
  }

-- what a rule that takes no places leaves behind packets
pub takes_then : {link packets : ℕ} {slices : ℕ → ℕ} {old middle new : Tables} → Takes link packets slices old middle
    → ((t c : ℕ) → Uses t 0 c 0 middle new) → Takes link packets slices old new
takes_then {link} {packets} {slices} {old} {middle} {new} h uses =
    let k = spares_of 0 0 middle new (uses 0 0) in
    record {
      on_link = λ n room. k.links n link (h.on_link n room);
      on_links = λ n q other room. k.links n q (h.on_links n q other room);
      of_clients = λ n c room. k.clients n c (h.of_clients n c room);
      counted = λ counted. k.counted (h.counted counted);
      tracked = λ tracked. k.tracked (h.tracked tracked);
      owned = λ l. owned_then (at l old.streams.streams) (at l middle.streams.streams) (at l new.streams.streams) (h.owned l) (k.owned l);
      held = λ c. held_then (at c old.clients.entries) (at c middle.clients.entries) (at c new.clients.entries) (h.held c) (k.held c);
      read = λ q. read_then (at q old.links.entries) (at q middle.links.entries) (at q new.links.entries) (h.read q) (k.read q);
    }
