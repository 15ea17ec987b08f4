-- Where places are reserved and more is made ready, tables stay fit, and show the same state.
use Rattle.std.proofs.Common.{ℕ, ◌≡◌, ◌==◌, List, Option, Some, None, refl, sym, ◌∙◌, ap, subst, arith}
use Rattle.std.specs.Prelude.{option_map}
use Rattle.adb_outside.specs.Tables.{at}
use Rattle.adb_client.specs.Client.{SeenClient}
use Rattle.adb_link.specs.Linked.{Linked}
use Rattle.adb_wire.specs.declared.limits.TheConstants.{MIN_VERSION}
use Rattle.adb_stream.specs.declared.row.Stream.{Stream}
use Rattle.adb_capture.specs.declared.entry.Entry.{Entry}
use Rattle.adb_history.specs.Rows.{Client, State}
use Rattle.adb_history.specs.Machine.{step}
use Rattle.adb_hub_tables.specs.declared.ports.Port.{Port}
use Rattle.adb_hub_tables.specs.declared.tables.Tables.{Tables}
use Rattle.adb_hub_tables.specs.Tables.{client_row, link_row, state_of}
use Rattle.adb_hub_tables.specs.Tracked.{IsListedIn, IsListedAt}
use Rattle.adb_hub_tables.specs.Places.{LinkRoom, ClientRoom, kept_places, IsCountedAt, IsProvided}
use Rattle.adb_hub_tables.specs.Fit.{IsReadOutAt, IsFit, IsReached, Makes, Keeps}
use Rattle.adb_hub_tables.specs.Widening.{WidensClient, WidensPort, WidensRow, WidensClients, Widens}

-- ---- what stays as it was
pub same_client : (row : Option SeenClient) → WidensRow WidensClient row row
same_client None = tt
same_client (Some client) = record { row = refl; ready = omega arith; cuts = omega arith; spare = omega arith; places = omega arith }

pub same_port : (row : Option Port) → WidensRow WidensPort row row
same_port None = tt
same_port (Some port) = record { link = refl; kept = refl; spare = omega arith }

pub like_clients : (old new : List (ℕ × SeenClient)) → ((c : ℕ) → at c new ≡ at c old) → WidensClients old new
like_clients old new same c = subst (WidensRow WidensClient (at c old)) (sym (same c)) (same_client (at c old))

pub like_ports : (old new : List (ℕ × Port)) → ((k : ℕ) → at k new ≡ at k old) → (k : ℕ) → WidensRow WidensPort (at k old) (at k new)
like_ports old new same k = subst (WidensRow WidensPort (at k old)) (sym (same k)) (same_port (at k old))

-- ---- one after another
pub client_then : (old now new : Option SeenClient) → WidensRow WidensClient old now → WidensRow WidensClient now new
    → WidensRow WidensClient old new
client_then None None new h k = k
client_then None (Some now) new h k = absurd h
client_then (Some old) None new h k = absurd h
client_then (Some old) (Some now) None h k = absurd k
client_then (Some old) (Some now) (Some new) h k = record {
  row = k.row ∙ h.row;
  ready = omega (arith, h.ready, k.ready);
  cuts = omega (arith, h.cuts, k.cuts);
  spare = omega (arith, h.spare, k.spare);
  places = omega (arith, h.places, k.places);
}

pub clients_then : (old now new : List (ℕ × SeenClient)) → WidensClients old now → WidensClients now new → WidensClients old new
clients_then old now new h k = λ c. client_then (at c old) (at c now) (at c new) (h c) (k c)

-- ---- rows
client_shown : (old new : Option SeenClient) → WidensRow WidensClient old new → option_map client_row new ≡ option_map client_row old
client_shown None None h = refl
client_shown None (Some new) h = absurd h
client_shown (Some old) None h = absurd h
client_shown (Some old) (Some new) h = ap Some h.row

pub client_room : (n : ℕ) (old new : Option SeenClient) → WidensRow WidensClient old new → ClientRoom n old → ClientRoom n new
client_room n None None h room = tt
client_room n None (Some new) h room = absurd h
client_room n (Some old) None h room = absurd h
client_room n (Some old) (Some new) h room =
    let kept : kept_places new.about.phase ≡ kept_places old.about.phase = ap (λ (c : Client). kept_places c.about.phase) h.row in
    omega (arith, room, kept, h.places)

client_listed : (c : ℕ) (keys : List ℕ) (old new : Option SeenClient) → WidensRow WidensClient old new
    → IsListedAt c keys old → IsListedAt c keys new
client_listed c keys None None h listed = tt
client_listed c keys None (Some new) h listed = absurd h
client_listed c keys (Some old) None h listed = absurd h
client_listed c keys (Some old) (Some new) h listed = subst (λ (row : Client). IsListedIn row.about.phase c keys) (sym h.row) listed

port_shown : (old new : Option Port) → WidensRow WidensPort old new → option_map link_row new ≡ option_map link_row old
port_shown None None h = refl
port_shown None (Some new) h = absurd h
port_shown (Some old) None h = absurd h
port_shown (Some old) (Some new) h =
    ap (λ (link : Linked). Some (record { rest = link.incoming.rest; sums = link.version == MIN_VERSION; due = link.due })) h.link

port_room : (n : ℕ) (old new : Option Port) → WidensRow WidensPort old new → LinkRoom n old → LinkRoom n new
port_room n None None h room = tt
port_room n None (Some new) h room = absurd h
port_room n (Some old) None h room = absurd h
port_room n (Some old) (Some new) h room = omega (arith, room, h.spare, h.kept)

port_counted : (k : ℕ) (streams : List (ℕ × Stream)) (old new : Option Port) → WidensRow WidensPort old new → IsCountedAt k streams old
    → IsCountedAt k streams new
port_counted k streams None None h counted = tt
port_counted k streams None (Some new) h counted = absurd h
port_counted k streams (Some old) None h counted = absurd h
port_counted k streams (Some old) (Some new) h counted = omega (arith, counted, h.kept)

port_read : (old new : Option Port) → WidensRow WidensPort old new → IsReadOutAt old → IsReadOutAt new
port_read None None h read = tt
port_read None (Some new) h read = absurd h
port_read (Some old) None h read = absurd h
port_read (Some old) (Some new) h read = record {
  given = ap (λ (link : Linked). link.incoming.given) h.link ∙ read.given;
  sound = ap (λ (link : Linked). link.incoming.fault) h.link ∙ read.sound;
  sums = ap (λ (link : Linked). link.incoming.reading.sums) h.link
      ∙ (read.sums ∙ ap (λ (link : Linked). link.version == MIN_VERSION) (sym h.link));
}

-- ---- tables
module _ (old new : Tables) (h : Widens old new) where
  pub widened_state : state_of new ≡ state_of old
  widened_state = ap state_of h.others ∙ (λ i. record (state_of old) {
    clients = λ c. client_shown (at c old.clients.entries) (at c new.clients.entries) (h.clients c) i;
    links = λ k. port_shown (at k old.links.entries) (at k new.links.entries) (h.links k) i;
  })

  pub widened_provided : IsProvided old → IsProvided new
  widened_provided provided = record {
    links = λ k. port_room 0 (at k old.links.entries) (at k new.links.entries) (h.links k) (provided.links k);
    clients = λ c. client_room 0 (at c old.clients.entries) (at c new.clients.entries) (h.clients c) (provided.clients c);
    counted = λ k.
        subst (λ (t : Tables). IsCountedAt k t.streams.streams (at k new.links.entries)) (sym h.others)
        (port_counted k old.streams.streams (at k old.links.entries) (at k new.links.entries) (h.links k) (provided.counted k));
    tracked = λ c.
        subst (λ (t : Tables). IsListedAt c t.trackers.keys (at c new.clients.entries)) (sym h.others)
        (client_listed c old.trackers.keys (at c old.clients.entries) (at c new.clients.entries) (h.clients c) (provided.tracked c));
  }

pub widened : (old new : Tables) → IsFit old → Widens old new → Keeps old new
widened old new fit h = record {
  state = widened_state old new h;
  fit = record {
    provided = widened_provided old new h fit.provided;
    read_out = λ k. port_read (at k old.links.entries) (at k new.links.entries) (h.links k) (fit.read_out k);
  };
}

-- what is made then was made before
pub kept_then : (e : Entry) (old mid new : Tables) → Keeps old mid → Makes e mid new → Makes e old new
kept_then e old mid new kept made = record {
  state = made.state ∙ ap (λ (s : State). (step s e).state) kept.state;
  fit = made.fit;
}

pub still_reached : (old mid : Tables) → Keeps old mid → IsReached (state_of old) → IsReached (state_of mid)
still_reached old mid kept reached = subst IsReached (sym kept.state) reached
