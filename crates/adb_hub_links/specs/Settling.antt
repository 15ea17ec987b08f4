-- What packets of a link leave, and the up rule behind them.
use Rattle.std.specs.Prelude.{ℕ, ◌≡◌, ◌≢◌, List, ◌++◌, Some, option_map}
use Rattle.adb_outside.specs.Tables.{at}
use Rattle.adb_wire.specs.Deframing.{Deframing}
use Rattle.adb_history.specs.Rows.{State}
use Rattle.adb_history.specs.Events.{Made, then_also}
use Rattle.adb_history.specs.Packets.{receives_cut}
use Rattle.adb_history.specs.Machine.{ups}
use Rattle.adb_hub_tables.specs.declared.ports.Port.{Port}
use Rattle.adb_hub_tables.specs.declared.tables.Tables.{Tables}
use Rattle.adb_hub_tables.specs.Tables.{state_of}
use Rattle.adb_hub_tables.specs.Places.{IsProvided, StaysRead}
use Rattle.adb_hub_rules.specs.declared.came.Came.{Came}
use Rattle.adb_hub_rules.specs.Sweep.{CoversUp}
use Rattle.adb_laws_resting.specs.Named.{granted, AllStay, AreNamed}
use Rattle.adb_laws_resting.specs.Resting.{AllSized}
use Rattle.adb_hub_links.specs.Cutting.{cut_with}
use Rattle.adb_hub_links.specs.Reserving.{IsReserved}

-- a link with something else that came in
abbrev pub reading : Deframing → Port → Port
reading incoming port = record port { link = record port.link { incoming = incoming } }

-- Of one link something else came in.
pub record PutsIncoming (link : ℕ) (incoming : Deframing) (old new : Tables) : Type 0 where
  pub others : new ≡ record old { links = new.links }
  pub here : at link new.links.entries ≡ option_map (reading incoming) (at link old.links.entries)
  pub apart : (k : ℕ) → k ≢ link → at k new.links.entries ≡ at k old.links.entries

-- the state behind the packets of a link, and their fault
abbrev pub behind : ℕ → Deframing → State → State
behind link c s = (receives_cut link c s).state

-- what packets of a link make, and their fault, and the up rule behind them
abbrev pub settles : ℕ → Deframing → State → Made
settles link c s = then_also (receives_cut link c s) ups

-- Behind them no device takes more than the server, each stream that is still there is as it was but for its credit,
-- and only those may send that they name.
pub record LeavesNamed (link : ℕ) (c : Deframing) (s : State) : Type 0 where
  pub stays : AllStay (granted c.given) s (behind link c s)
  pub sized : AllSized (behind link c s)
  pub covers : (ids : List ℕ) → AreNamed c.given link s ids → CoversUp ids (behind link c s).drawn (behind link c s)

-- Packets of a link, and what is held behind them, can be settled without memory.
pub record CanSettle (link : ℕ) (came : List Came) (incoming : Deframing) (ids : List ℕ) (t : Tables) : Type 0 where
  pub provided : IsProvided t
  pub reserved : IsReserved link came ids t
  pub leaves : LeavesNamed link (cut_with incoming came) (state_of t)

-- The packets of a link were treated, and then their fault, the streams that they name went up, and this is held behind them.
pub record HasSettled (link : ℕ) (c incoming : Deframing) (old new : Tables) : Type 0 where
  pub state : state_of new ≡ (ups (behind link c (state_of old))).state
  pub provided : IsProvided new
  pub here : (port : Port) → at link new.links.entries ≡ Some port → port.link.incoming ≡ incoming
  pub apart : (k : ℕ) → k ≢ link → StaysRead (at k old.links.entries) (at k new.links.entries)

-- a link behind a piece that completes nothing
abbrev pub waiting : List ℕ → Port → Port
waiting piece port = reading (record port.link.incoming { rest = port.link.incoming.rest ++ piece }) port
