-- One packet, and the stream that it names, are what the packets of a cut are, and the streams that those name.
use Rattle.std.proofs.Common.{ℕ, ◌+◌, ◌≡◌, ◌≢◌, Bool, true, false, List, [], ◌∷◌, Option, Some, None, ◌⊎◌, inl, inr, refl, sym, ◌∙◌, ap}
use Rattle.std.proofs.Common.{subst, arith}
use Rattle.std.proofs.lemmas.List.{append-nil}
use Rattle.std.specs.Prelude.{option_map, option_to_list}
use Rattle.std.proofs.lemmas.Bool.{cases_eq, eq-eqb, ne_eqb}
use Rattle.adb_outside.specs.Tables.{at}
use Rattle.adb_client.specs.Client.{SeenClient}
use Rattle.adb_link.specs.Linked.{Linked}
use Rattle.adb_stream.specs.declared.row.Stream.{Stream}
use Rattle.adb_wire.specs.declared.packets.Packet.{Packet}
use Rattle.adb_wire.specs.Deframing.{Deframing, no_bytes}
use Rattle.adb_history.specs.Rows.{State}
use Rattle.adb_history.specs.Events.{Event, then_also}
use Rattle.adb_history.specs.Packets.{faulty, treat, treat_all}
use Rattle.adb_hub_rules.specs.declared.came.Came.{Came}
use Rattle.adb_hub_rules.specs.Came.{packet_of, slices_of, slices_for, slices_in, takes_slice}
use Rattle.adb_hub_tables.specs.declared.ports.Port.{Port}
use Rattle.adb_hub_tables.specs.declared.tables.Tables.{Tables}
use Rattle.adb_hub_tables.specs.Tables.{state_of}
use Rattle.adb_hub_tables.specs.Tracked.{IsAmong}
use Rattle.adb_hub_tables.specs.Places.{ClientRoom, LinkRoom, Takes}
use Rattle.adb_hub_tables.specs.Widening.{WidensClients, WidensPort, WidensRow}
use Rattle.adb_hub_tables.specs.Endings.{logged}
use Rattle.adb_hub_tables.proofs.Reporting.{TellsSame, logged_then}
use Rattle.adb_hub_tables.proofs.Using.{more_places, more_room}
use Rattle.adb_hub_tables.proofs.Widening.{client_room}
use Rattle.adb_history.specs.Links.{maxdata_of}
use Rattle.adb_laws_resting.specs.Named.{granted}
use Rattle.adb_hub_links.specs.Counting.{fed_if, fed_client, fed_slices}
use Rattle.adb_hub_links.specs.Naming.{named_on, NamesAlso, AreNamedOn, AreNamedBefore}
use Rattle.adb_hub_links.specs.Reserving.{IsCutAt, all_writes}
use Rattle.adb_hub_links.specs.Settling.{CanSettle, reading}
use Rattle.adb_hub_links.specs.Whole.{IsFreshAt}
use Rattle.adb_hub_links.proofs.Namings.{same_id, names_more}
use Rattle.adb_hub_links.proofs.Settled.{Settling, no_fault, no_fault_told}

-- ---- the stream that it names
names_first : (named : Option ℕ) → NamesAlso named [] (option_to_list named)
names_first None = record { kept = λ l none. absurd none; added = λ l e. absurd cc; only = λ l none. absurd none }
names_first (Some k) = record {
  kept = λ l none. absurd none;
  added = λ l e. inl (same_id k l e);
  only = λ l there. elim there as (λ _. IsAmong l [] ⊎ (Some k ≡ Some l)) [
    | inl is ↦ inr (ap Some is)
    | inr none ↦ absurd none
  ];
}

pub named_one : (link : ℕ) (p : Packet) (streams : List (ℕ × Stream))
    → AreNamedOn link (p ∷ []) streams (option_to_list (named_on link p streams))
named_one link p streams =
    let none : AreNamedBefore link (p ∷ []) (p ∷ []) streams [] =
    record { live = λ l none. absurd none; all = λ l there live. inr there } in
    let one = names_more link streams none (names_first (named_on link p streams)) in
    record {
      live = one.live;
      all = λ l there live. elim (one.all l there live) as (λ _. IsAmong l (option_to_list (named_on link p streams))) [
        | inl among ↦ among
        | inr left ↦ absurd left
      ];
    }

-- ---- the slice that it makes due
pub slices_fed : (p : Packet) (streams : List (ℕ × Stream)) (c : ℕ) → fed_slices (fed_client p streams) c ≡ slices_in (p ∷ []) streams c
slices_fed p streams c = at_row (takes_slice p.command) (at p.arg1 streams)
  where
    at_row : (takes : Bool) (row : Option Stream) → fed_slices (fed_if takes row) c ≡ slices_of takes row c + 0
    at_row false row = refl
    at_row true None = refl
    at_row true (Some stream) = omega arith

pub served_fed : (client : ℕ) (old new : List (ℕ × SeenClient)) → ((c : ℕ) → ClientRoom 0 (at c old)) → WidensClients old new
    → ClientRoom 1 (at client new) → (c : ℕ) → ClientRoom (fed_slices (Some client) c) (at c new)
served_fed client old new room more here c = by_place (cases_eq client c)
  where
    by_place : (client ≡ c) ⊎ (client ≢ c) → ClientRoom (fed_slices (Some client) c) (at c new)
    by_place (inl is) = rw (eq-eqb client c is) (subst (λ (q : ℕ). ClientRoom 1 (at q new)) is here)
    by_place (inr other) = rw (ne_eqb client c other) (client_room 0 (at c old) (at c new) (more c) (room c))

-- ---- what the client of the stream holds is ready
pub cut_named : (credit : ℕ → ℕ) (maxdata id : ℕ) (streams : List (ℕ × Stream)) (clients : List (ℕ × SeenClient))
    → IsCutAt (credit id) maxdata (at id streams) clients → (l : ℕ) → IsAmong l (id ∷ [])
    → IsCutAt (credit l) maxdata (at l streams) clients
cut_named credit maxdata id streams clients cut l (inl same) = subst (λ (q : ℕ). IsCutAt (credit q) maxdata (at q streams) clients) same cut
cut_named credit maxdata id streams clients cut l (inr none) = absurd none

-- ---- on a link that holds nothing
-- what came in stays
fresh_put : (row : Option Port) → IsFreshAt row → row ≡ option_map (reading no_bytes) row
fresh_put None fresh = absurd fresh
fresh_put (Some port) fresh = ap (λ (d : Deframing). Some (reading d port)) fresh

pub fresh_widened : (old new : Option Port) → WidensRow WidensPort old new → IsFreshAt old → IsFreshAt new
fresh_widened None new h fresh = absurd fresh
fresh_widened (Some old) None h fresh = absurd h
fresh_widened (Some old) (Some new) h fresh = ap (λ (link : Linked). link.incoming) h.link ∙ fresh

-- ---- it is treated
module _ {link : ℕ} {came : Came} {ids : List ℕ} {old : Tables} (can : CanSettle link (came ∷ []) no_bytes ids old) where
  pub room_one : LinkRoom 1 (at link old.links.entries)
  room_one =
      let all = all_writes (granted (packet_of came ∷ [])) (maxdata_of link old.devices) ids old.streams.streams old.clients.entries in
      more_room (all + 1) 1 (at link old.links.entries) (omega arith) can.reserved.room

  pub places_one : (c : ℕ) → ClientRoom (slices_for (packet_of came) old.streams.streams c) (at c old.clients.entries)
  places_one c =
      let slices = slices_for (packet_of came) old.streams.streams c in
      more_places (slices + 0) slices (at c old.clients.entries) (omega arith) (can.reserved.clients c)

  pub settling_one : {new : Tables} → IsFreshAt (at link old.links.entries)
      → Takes link 1 (slices_for (packet_of came) old.streams.streams) old new
      → state_of new ≡ (treat link (packet_of came) (state_of old)).state → Settling link (came ∷ []) no_bytes ids old old new
  settling_one {new} fresh takes state = record {
    can = can;
    puts = record { others = refl; here = fresh_put (at link old.links.entries) fresh; apart = λ k other. refl };
    takes = subst (λ (slices : ℕ → ℕ). Takes link 1 slices old new) (λ i c. all c i) takes;
    state = state ∙ sym (no_fault (treated.links link) link treated);
  }
    where
      all : (c : ℕ) → slices_for (packet_of came) old.streams.streams c ≡ slices_in (packet_of came ∷ []) old.streams.streams c
      all c = omega arith

      treated : State
      treated = (treat link (packet_of came) (state_of old)).state

-- a packet alone tells the ends that it tells in a list of its own
pub one_told : (link : ℕ) (p : Packet) (s : State)
    → TellsSame (treat link p s).told (then_also (treat_all link (p ∷ []) s) (faulty link None)).told
one_told link p s = λ rows log.
    let treated = treat link p s in
    let all = treat_all link (p ∷ []) s in
    ap (λ (told : List Event). logged rows told log) (sym (append-nil treated.told))
    ∙ (no_fault_told (all.state.links link) link all.state rows (logged rows all.told log)
    ∙ sym (logged_then rows all.told (faulty link None all.state).told log))
