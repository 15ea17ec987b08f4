-- A packet that stands alone makes the step of its entry, on a link to which nothing was fed.
use Rattle.std.proofs.Common.{ℕ, ◌^◌, ◌≡◌, ◌<◌, List, Option, Some, None, refl, sym, ◌∙◌, ap}
use Rattle.adb_outside.specs.Tables.{at}
use Rattle.adb_wire.specs.declared.packets.Packet.{Packet}
use Rattle.adb_wire.specs.Header.{IsBytes}
use Rattle.adb_wire.specs.Deframing.{Deframing, no_bytes}
use Rattle.adb_capture.specs.declared.entry.Entry.TheVariants.{Recv}
use Rattle.adb_history.specs.Machine.{May, IsInRange}
use Rattle.adb_hub_tables.specs.declared.ports.Port.{Port}
use Rattle.adb_hub_tables.specs.declared.tables.Tables.{Tables}
use Rattle.adb_hub_tables.specs.Tables.{state_of}
use Rattle.adb_hub_tables.specs.Endings.{Log, Records, Tells}
use Rattle.adb_hub_tables.specs.Fit.{IsFit, IsReached, Makes}
use Rattle.adb_hub_links.specs.Cutting.{cut_of}
use Rattle.adb_hub_links.specs.Settling.{LeavesNamed, HasSettled, settles}
use Rattle.adb_hub_links.specs.Whole.{StandsAlone, IsFreshAt, alone}
use Rattle.adb_hub_links.proofs.Received.{Comes, piece_leaves, piece_made, piece_told}

-- its entry is in range
pub whole_in_range : (link : ℕ) (bytes : List ℕ) → link < 2 ^ 32 → IsBytes bytes → IsInRange (Recv link bytes)
whole_in_range link bytes number are = record { owner = number; port = tt; bytes = are }

-- A packet that stands alone came on a link that holds nothing.
pub record ComesAlone (link : ℕ) (bytes : List ℕ) (old : Tables) : Type 0 where
  pub port : Port
  pub comes : Comes link bytes old port
  pub fresh : port.link.incoming ≡ no_bytes

pub comes_alone : (link : ℕ) (bytes : List ℕ) (old : Tables) → IsFit old → IsReached (state_of old) → May (state_of old) (Recv link bytes)
    → IsInRange (Recv link bytes) → IsFreshAt (at link old.links.entries) → ComesAlone link bytes old
comes_alone link bytes old fit reached may range fresh = go (at link old.links.entries) refl fresh
  where
    go : (row : Option Port) → at link old.links.entries ≡ row → IsFreshAt row → ComesAlone link bytes old
    go None is fresh = absurd fresh
    go (Some port) is fresh = record {
      port = port;
      comes = record { fit = fit; reached = reached; may = may; range = range; here = is };
      fresh = fresh;
    }

module _ {link : ℕ} {bytes : List ℕ} {old : Tables} (h : ComesAlone link bytes old) {p : Packet} (stands : StandsAlone bytes p) where
  cut_here : alone p ≡ cut_of h.port.link.incoming bytes
  cut_here = sym stands ∙ ap (λ (d : Deframing). cut_of d bytes) (sym h.fresh)

  pub alone_leaves : LeavesNamed link (alone p) (state_of old)
  alone_leaves = piece_leaves h.comes cut_here

  pub alone_made : (new : Tables) → HasSettled link (alone p) no_bytes old new → Makes (Recv link bytes) old new
  alone_made new settled = piece_made h.comes cut_here refl new settled

  pub alone_told : {before after : Log} → Records (settles link (alone p) (state_of old)).told before old after
      → Tells (Recv link bytes) before old after
  alone_told records = piece_told h.comes cut_here records
