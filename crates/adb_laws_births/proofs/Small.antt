-- No device takes more than a packet has.
use Rattle.std.proofs.Common.{◌≡◌, ℕ, ◌≤◌, Bool, true, false, cond, List, [], ◌∷◌, Option, Some, None, refl, sym, subst, arith, eqb}
use Rattle.std.specs.Prelude.{option_map, unwrap_or, ◌||◌}
use Rattle.std.specs.List.{list_any}
use Rattle.adb_outside.specs.Tables.{at}
use Rattle.adb_outside.specs.declared.identity.Identity.{Identity}
use Rattle.adb_banner.specs.Banner.{identity_of}
use Rattle.adb_registry.specs.Row.{new_row, unauthorized_row}
use Rattle.adb_registry.specs.declared.row.Row.{Row}
use Rattle.adb_wire.specs.declared.headers.TheConstants.{MAX_PAYLOAD}
use Rattle.adb_wire.specs.declared.packets.Packet.{Packet}
use Rattle.adb_capture.specs.declared.entry.Entry.TheVariants.{Attach}
use Rattle.adb_history.specs.Links.{maxdata_of}
use Rattle.adb_history.specs.Machine.{History, state, IsLegal}
use Rattle.adb_history.specs.Bytes.{is_lost, brought}
use Rattle.adb_history.specs.Book.{plugged, is_login, is_broken, last_cnxn, row_with, row_by, device_of}
use Rattle.adb_history.proofs.Devices.{ShowsDevices, shows_devices}

-- how many payload bytes a device takes
abbrev takes : Option Row → ℕ
takes o = unwrap_or (option_map (λ row. row.maxdata) o) 0

plugged_takes : (t : ℕ) (h : History) → takes (plugged t h) ≡ 0
plugged_takes t [] = refl
plugged_takes t (Attach n kind serial ∷ older) = go (eqb n t) (plugged_takes t older)
  where
    go : (b : Bool) → takes (plugged t older) ≡ 0 → takes (cond b (Some (new_row t kind serial)) (plugged t older)) ≡ 0
    go true none = refl
    go false none = none
plugged_takes t (_ ∷ older) = plugged_takes t older

row_with_takes : (who : Option Identity) (p : Packet) (row : Row) → row.maxdata ≡ 0 → (row_with who p row).maxdata ≤ MAX_PAYLOAD
row_with_takes None p row none = omega (arith, none)
row_with_takes (Some identity) p row none = omega arith

row_by_takes : (last : Option Packet) (packets : List Packet) (row : Row) → row.maxdata ≡ 0
    → (row_by last packets row).maxdata ≤ MAX_PAYLOAD
row_by_takes (Some p) packets row none = row_with_takes (identity_of p.payload) p row none
row_by_takes None packets row none = go (list_any (λ p. is_login p.command) packets)
  where
    go : (b : Bool) → (cond b (unauthorized_row row) row).maxdata ≤ MAX_PAYLOAD
    go true = omega (arith, none)
    go false = omega (arith, none)

device_takes : (t : ℕ) (h : History) → takes (device_of t h) ≤ MAX_PAYLOAD
device_takes t h = go (is_lost t h || is_broken t h) (plugged t h) (plugged_takes t h)
  where
    go : (b : Bool) (o : Option Row) → takes o ≡ 0
        → takes (cond b None (option_map (row_by (last_cnxn (brought t h)) (brought t h)) o)) ≤ MAX_PAYLOAD
    go true o none = omega arith
    go false None none = omega arith
    go false (Some row) none = row_by_takes (last_cnxn (brought t h)) (brought t h) row none

-- In every state that a legal history leaves, no device takes more than a packet has.
pub all_small : (h : History) → IsLegal h → (t : ℕ) → maxdata_of t (state h).devices ≤ MAX_PAYLOAD
all_small h legal t = go (state h).stopped refl
  where
    shows : ShowsDevices (state h) h
    shows = shows_devices h legal

    go : (b : Bool) → (state h).stopped ≡ b → takes (at t (state h).devices.rows) ≤ MAX_PAYLOAD
    go true off = subst (λ (rows : List (ℕ × Row)). takes (at t rows) ≤ MAX_PAYLOAD) (sym (shows.gone off)) (omega arith)
    go false on = subst (λ (o : Option Row). takes o ≤ MAX_PAYLOAD) (sym (shows.rows on t)) (device_takes t h)
