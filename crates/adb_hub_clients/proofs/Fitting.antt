-- What stays fit for the next entry.
use Rattle.std.proofs.Common.{ℕ, ◌≡◌, ◌≢◌, ◌≤◌, length, Option, Some, None, refl, sym, ap, subst, arith, ◌⊎◌, inl, inr}
use Rattle.std.proofs.lemmas.Bool.{cases_eq}
use Rattle.adb_outside.specs.Tables.{at, Rows}
use Rattle.adb_client.specs.Client.{SeenClient}
use Rattle.adb_client.specs.declared.phase.Phase.{Phase}
use Rattle.adb_client.specs.declared.phase.Phase.TheVariants.{Asking, Opening, Streaming, Binding, Tracking, Closing, Gone}
use Rattle.adb_history.specs.Rows.{Client}
use Rattle.adb_hub_tables.specs.declared.tables.Tables.{Tables}
use Rattle.adb_hub_tables.specs.Tables.{state_of}
use Rattle.adb_hub_tables.specs.Places.{ClientRoom, kept_places, Uses}
use Rattle.adb_hub_tables.specs.Tracked.{clients_of}
use Rattle.adb_hub_tables.specs.Fit.{IsFit, IsReadOutAt}
use Rattle.adb_hub_tables.specs.Widening.{WidensClient, WidensRow, WidensClients, WidensLinks, Widens}
use Rattle.adb_hub_tables.proofs.Using.{provided_by}
use Rattle.adb_hub_tables.proofs.Widening.{widened, same_client, same_port}
use Rattle.adb_hub_clients.specs.Leaving.{Leaves, HasSlices, IsPlaced, HoldsAtLeast}
use Rattle.adb_hub_clients.specs.Asking.{CanHearAt}
use Rattle.adb_hub_clients.specs.declared.hearing.Heard.{Heard}

-- another table of the clients, whose rows have their places
pub clients_leave : (old new : Tables) (rows : Rows (Option Client)) → clients_of new.clients.entries ≡ rows
    → ((c : ℕ) → IsPlaced c old.trackers.keys (at c old.clients.entries)
    → IsPlaced c old.trackers.keys (at c new.clients.entries)) → IsFit old
    → Leaves (record (state_of old) { clients = rows }) (record old { clients = new.clients })
clients_leave old new rows is stay fit = record {
  state = ap (λ (rows : Rows (Option Client)). record (state_of old) { clients = rows }) is;
  fit = record {
    provided = record {
      links = fit.provided.links;
      clients = λ c. (placed c).room;
      counted = fit.provided.counted;
      tracked = λ c. (placed c).listed;
    };
    read_out = fit.read_out;
  };
}
  where
    placed : (c : ℕ) → IsPlaced c old.trackers.keys (at c new.clients.entries)
    placed c = stay c (record { room = fit.provided.clients c; listed = fit.provided.tracked c })

-- a rule that takes no places and touches no link
pub spares_fit : (old new : Tables) → ((t c : ℕ) → Uses t 0 c 0 old new) → new.links ≡ old.links → IsFit old → IsFit new
spares_fit old new uses links fit = record {
  provided = provided_by old new uses fit.provided;
  read_out = λ k. subst (λ (table : _). IsReadOutAt (at k table.entries)) (sym links) (fit.read_out k);
}

-- a rule that takes a place of a client which has it, and touches no link
pub takes_fit : (client : ℕ) (old new : Tables) → ((t : ℕ) → Uses t 0 client 1 old new) → new.links ≡ old.links
    → ClientRoom 1 (at client old.clients.entries) → IsFit old → IsFit new
takes_fit client old new uses links room fit = record {
  provided = record {
    links = λ k. (uses k).on_link 0 (fit.provided.links k);
    clients = λ c. places c (cases_eq c client);
    counted = (uses 0).counted fit.provided.counted;
    tracked = (uses 0).tracked fit.provided.tracked;
  };
  read_out = λ k. subst (λ (table : _). IsReadOutAt (at k table.entries)) (sym links) (fit.read_out k);
}
  where
    places : (c : ℕ) → ◌⊎◌ (c ≡ client) (c ≢ client) → ClientRoom 0 (at c new.clients.entries)
    places c (inl is) = subst (λ (q : ℕ). ClientRoom 0 (at q new.clients.entries)) (sym is) ((uses 0).of_client 0 room)
    places c (inr other) = (uses 0).of_clients 0 c other (fit.provided.clients c)

few_kept : (phase : Phase) → kept_places phase ≤ 1
few_kept Asking = omega arith
few_kept (Opening l) = omega arith
few_kept (Streaming l) = omega arith
few_kept Binding = omega arith
few_kept Tracking = omega arith
few_kept Closing = omega arith
few_kept Gone = omega arith

-- a client with two places has one to spare, whatever it waits for
pub one_spare : (client : Option SeenClient) → HasSlices 2 client → ClientRoom 1 client
one_spare None has = tt
one_spare (Some client) has = omega (arith, has, few_kept client.about.phase)

-- how many clients came is no matter of places
pub joined_fit : (t : Tables) (n : ℕ) → IsFit t → IsFit (record t { joined = n })
joined_fit t n fit = record {
  provided = record {
    links = fit.provided.links;
    clients = fit.provided.clients;
    counted = fit.provided.counted;
    tracked = fit.provided.tracked;
  };
  read_out = fit.read_out;
}

-- ---- where places are reserved and more is made ready
leaves_widened : (old new : Tables) → IsFit old → Widens old new → Leaves (state_of old) new
leaves_widened old new fit h = let kept = widened old new fit h in record { state = kept.state; fit = kept.fit }

-- of clients
pub clients_widen : (old new : Tables) → WidensClients old.clients.entries new.clients.entries → IsFit old
    → Leaves (state_of old) (record old { clients = new.clients })
clients_widen old new h fit =
    leaves_widened old (record old { clients = new.clients }) fit
    (record { clients = h; links = λ k. same_port (at k old.links.entries); others = refl })

-- of links
pub links_widen : (old new : Tables) → WidensLinks old.links.entries new.links.entries → IsFit old
    → Leaves (state_of old) (record old { links = new.links })
links_widen old new h fit =
    leaves_widened old (record old { links = new.links }) fit
    (record { clients = λ c. same_client (at c old.clients.entries); links = h; others = refl })

same_held : {old new : SeenClient} → WidensClient old new → length new.held ≡ length old.held
same_held h = ap (λ (c : Client). length c.held) h.row

pub still_holds : (n : ℕ) (old new : Option SeenClient) → WidensRow WidensClient old new → HoldsAtLeast n old → HoldsAtLeast n new
still_holds n None None h holds = tt
still_holds n None (Some new) h holds = absurd h
still_holds n (Some old) None h holds = absurd h
still_holds n (Some old) (Some new) h holds = omega (arith, holds, same_held h)

pub still_hears : (heard : Heard) (old new : Option SeenClient) → WidensRow WidensClient old new → CanHearAt heard old → CanHearAt heard new
still_hears heard None None h can = tt
still_hears heard None (Some new) h can = absurd h
still_hears heard (Some old) None h can = absurd h
still_hears heard (Some old) (Some new) h can = record {
  spare = omega (arith, can.spare, h.spare);
  used = omega (arith, can.used, same_held h);
}

-- a client that has places beside those that it keeps has them
pub has_slices : (n : ℕ) (client : Option SeenClient) → ClientRoom n client → HasSlices n client
has_slices n None room = tt
has_slices n (Some client) room = omega (arith, room)
