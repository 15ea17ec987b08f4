-- A client comes.
use Rattle.std.proofs.Common.{ℕ, ◌≡◌, ◌+◌, false, [], Option, Some, sym, ◌∙◌, ap, subst, arith}
use Rattle.adb_outside.specs.Tables.{Rows, Puts}
use Rattle.adb_client.specs.Client.{SeenClient, new_about}
use Rattle.adb_capture.specs.declared.entry.Entry.TheVariants.{Join}
use Rattle.adb_history.specs.Rows.{Client}
use Rattle.adb_history.specs.Reading.{comes}
use Rattle.adb_hub_tables.specs.declared.tables.Tables.{Tables}
use Rattle.adb_hub_tables.specs.Tables.{client_row, state_of}
use Rattle.adb_hub_tables.specs.Tracked.{IsListedAt}
use Rattle.adb_hub_tables.specs.Places.{ClientRoom}
use Rattle.adb_hub_tables.specs.Fit.{IsFit, IsReached, Makes}
use Rattle.adb_laws_resting.proofs.Reached.{sends_nothing}
use Rattle.adb_hub_tables.proofs.PutRows.{shown_put, holds_put}

-- a client that came just now
abbrev pub fresh : ℕ → SeenClient
fresh c = record { about = new_about c false; held = []; ready = 0; cuts = 0; due = []; spare = 0; places = 0 }

-- Its row is put under the next number.
pub record Comes (c : ℕ) (old new : Tables) : Type 0 where
  pub next : c ≡ old.joined + 1
  pub row : Puts c (Some (fresh c)) old.clients.entries new.clients.entries
  pub others : new ≡ record old { joined = c; clients = new.clients }

pub joined : (c : ℕ) (old new : Tables) → IsFit old → IsReached (state_of old) → Comes c old new → Makes (Join c) old new
joined c old new fit reached h = subst (Makes (Join c) old) (sym h.others) (record {
  state = state ∙ sym ((sends_nothing (state_of old) reached).join c);
  fit = record {
    provided = record {
      links = fit.provided.links;
      clients = holds_put (λ k row. ClientRoom 0 row) c (Some (fresh c)) old.clients.entries new.clients.entries
          (h.row, omega arith) fit.provided.clients;
      counted = fit.provided.counted;
      tracked = holds_put (λ k row. IsListedAt k old.trackers.keys row) c (Some (fresh c)) old.clients.entries new.clients.entries
          (h.row, tt) fit.provided.tracked;
    };
    read_out = fit.read_out;
  };
})
  where
    state : state_of (record old { joined = c; clients = new.clients }) ≡ comes false c (state_of old)
    state =
        ap (λ (rows : Rows (Option Client)). record (state_of old) { joined = c; clients = rows })
        (shown_put client_row c (fresh c) old.clients.entries new.clients.entries h.row)
        ∙ ap (λ (n : ℕ). record (comes false c (state_of old)) { joined = n }) h.next
