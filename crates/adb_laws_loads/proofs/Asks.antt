-- What the clients of a load ask: the device of their stream, and its service, at once.
use Rattle.std.proofs.Common.{ℕ, zero, suc, ◌+◌, ◌%◌, ◌≡◌, ◌<◌, ◌≤◌, true, false, List, [], ◌∷◌, Option, Some, Ok, refl, ◌∙◌, ap, subst}
use Rattle.std.proofs.Common.{arith}
use Rattle.std.specs.Prelude.{codes}
use Rattle.std.specs.Map.{values_of}
use Rattle.adb_outside.specs.Tables.{at, listed, listed_at}
use Rattle.adb_outside.specs.declared.kinds.Selector.TheVariants.{Id}
use Rattle.adb_registry.specs.Choice.{choice}
use Rattle.adb_registry.specs.Registry.{DeviceTable}
use Rattle.adb_registry.specs.declared.row.Row.{Row}
use Rattle.adb_forward.specs.declared.row.ForwardRow.{ForwardRow}
use Rattle.adb_reply.specs.declared.answer.Next.TheVariants.{Open}
use Rattle.adb_history.specs.Asking.{Asked, nothing_asked, asks_with}
use Rattle.adb_history.specs.Book.{device_of, devices_if}
use Rattle.adb_load.specs.declared.act.Act.{Act}
use Rattle.adb_load.specs.Acts.{link_of, asked_of}
use Rattle.adb_load.specs.Course.{Progress}
use Rattle.adb_laws_loads.proofs.Turns.{all_devices}
use Rattle.adb_laws_loads.proofs.Asking.{asked_connected}
use Rattle.adb_laws_loads.proofs.Links.{past_of}
use Rattle.adb_laws_loads.proofs.Online.{device_row, device_there}
use Rattle.adb_laws_loads.proofs.Runs.{HasLinks, HasRun}

-- ---- all devices
-- the table of the devices of a load, when all are plugged in
abbrev pub all_online : DeviceTable
all_online = record {
  drawn = 8;
  rows = (1, device_row 1) ∷ (2, device_row 2) ∷ (3, device_row 3) ∷ (4, device_row 4) ∷ (5, device_row 5)
      ∷ (6, device_row 6) ∷ (7, device_row 7)
      ∷ (8, device_row 8) ∷ [];
}

-- where so many rows are these, their table is of these
listed_online : (rows : ℕ → Option Row) (first k : ℕ) → ((t : ℕ) → first ≤ t → t < first + k → rows t ≡ Some (device_row t))
    → listed rows first k ≡ listed (λ t. Some (device_row t)) first k
listed_online rows first zero are = refl
listed_online rows first (suc k) are =
    ap (λ (o : Option Row). listed_at first o (listed rows (suc first) k)) (are first (omega arith) (omega arith))
    ∙ ap (λ (others : List (ℕ × Row)). (first, device_row first) ∷ others)
    (listed_online rows (suc first) k (λ t from below. are t (omega (arith, from)) (omega (arith, below))))

-- The devices of a load, when all are plugged in.
pub devices_online : (done : List Act) → HasLinks 8 done → devices_if false (past_of done) ≡ all_online
devices_online done has =
    ap (λ (n : ℕ). record { drawn = n; rows = listed (λ t. device_of t (past_of done)) 1 n }) has.online.counted
    ∙ ap (λ (rows : List (ℕ × Row)). record { drawn = 8; rows = rows })
    (listed_online (λ t. device_of t (past_of done)) 1 8
    (λ t from below. device_there t done (has.brings t) (has.online.there t (omega (arith, from)) (omega (arith, below)))))

-- The same how far the load may be.
pub run_online : (done : List Act) (p : Progress) → HasRun done p → all_devices ≤ p.plugged → devices_if false (past_of done) ≡ all_online
run_online done p run all =
    devices_online done (subst (λ (n : ℕ). HasLinks n done) (omega (arith, all, run.way.plugged)) run.links)

-- ---- a client's requests
-- A link's device is chosen by its number, and its row stands in the table.
record IsChosen (link : ℕ) : Type 0 where
  chosen : choice (values_of all_online.rows) (Id link) true ≡ Ok link
  there : at link all_online.rows ≡ Some (device_row link)

each_chosen : (link : ℕ) → link < 8 → IsChosen (link + 1)
each_chosen (suc (suc (suc (suc (suc (suc (suc (suc link)))))))) small = absurd (omega (arith, small))
each_chosen _ small = record { chosen = refl; there = refl }

-- What a client asked that selected a device and asked for its service: it was answered once, and its stream is to be opened.
abbrev pub asks_on : ℕ → Asked
asks_on link = record {
  replies = codes "OKAY";
  used = 32;
  rest = [];
  selected = Some link;
  next = Some (Open link (codes "echo:"));
}

-- A client that asked nothing before asks so, where all devices are plugged in.
pub client_asks : (forwards : List (ℕ × ForwardRow)) (stream : ℕ)
    → asks_with all_online forwards (asked_of stream) nothing_asked ≡ asks_on (link_of stream)
client_asks forwards stream =
    let is : IsChosen (link_of stream) = each_chosen (stream % 8) (omega arith) in
    asked_connected stream all_online forwards (device_row (link_of stream)) is.chosen is.there refl
