-- Places that are reserved, and what is made ready, and nothing else.
use Rattle.std.specs.Prelude.{ℕ, ◌≡◌, ◌≤◌, List, Option, Some, None}
use Rattle.adb_outside.specs.Tables.{at}
use Rattle.adb_client.specs.Client.{SeenClient}
use Rattle.adb_hub_tables.specs.declared.ports.Port.{Port}
use Rattle.adb_hub_tables.specs.declared.tables.Tables.{Tables}
use Rattle.adb_hub_tables.specs.Tables.{client_row}

-- A client has as many places as before, or more, and as much ready, or more, and is else as it was.
pub record WidensClient (old new : SeenClient) : Type 0 where
  pub row : client_row new ≡ client_row old
  pub ready : old.ready ≤ new.ready
  pub cuts : old.cuts ≤ new.cuts
  pub spare : old.spare ≤ new.spare
  pub places : old.places ≤ new.places

-- A link has as many places as before, or more, and is else as it was.
pub record WidensPort (old new : Port) : Type 0 where
  pub link : new.link ≡ record old.link { spare = new.link.spare }
  pub kept : new.kept ≡ old.kept
  pub spare : old.link.spare ≤ new.link.spare

abbrev pub WidensRow : {X : Type 0} → (X → X → Type 0) → Option X → Option X → Type 0
WidensRow R None None = Unit {0}
WidensRow R None (Some new) = ⊥
WidensRow R (Some old) None = ⊥
WidensRow R (Some old) (Some new) = R old new

abbrev pub WidensClients : (old new : List (ℕ × SeenClient)) → Type 0
WidensClients old new = (c : ℕ) → WidensRow WidensClient (at c old) (at c new)

abbrev pub WidensLinks : (old new : List (ℕ × Port)) → Type 0
WidensLinks old new = (k : ℕ) → WidensRow WidensPort (at k old) (at k new)

-- Clients and links do, and nothing else changes.
pub record Widens (old new : Tables) : Type 0 where
  pub clients : WidensClients old.clients.entries new.clients.entries
  pub links : WidensLinks old.links.entries new.links.entries
  pub others : new ≡ record old { clients = new.clients; links = new.links }
