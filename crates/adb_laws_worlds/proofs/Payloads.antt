-- A device that is connected takes payloads.
use Rattle.std.specs.Prelude.{ℕ, ◌≡◌, ◌≤◌, ◌&&◌, ◌||◌, Bool, true, false, cond, nat_lt, is_none, is_some, find, reverse, option_map}
use Rattle.std.specs.Prelude.{unwrap_or, All, List, []}
use Rattle.std.specs.Prelude.{◌∷◌}
use Rattle.std.specs.Prelude.{Option, Some, None}
use Rattle.std.proofs.Common.{refl, sym, ◌∙◌, ap, subst, arith, eqb}
use Rattle.std.specs.List.{list_any}
use Rattle.std.proofs.lemmas.Bool.Decides.{nat_tests}
use Rattle.std.proofs.lemmas.List.{reverse-append}
use Rattle.std.proofs.lemmas.List.Elements.{All-nil, All-cons, All-append, All-head, All-tail}
use Rattle.adb_outside.specs.Tables.{at}
use Rattle.adb_outside.specs.declared.identity.Identity.{Identity}
use Rattle.adb_outside.specs.declared.identity.State.TheVariants as device
use Rattle.adb_banner.specs.Banner.{identity_of}
use Rattle.adb_registry.specs.Row.{new_row, unauthorized_row}
use Rattle.adb_registry.specs.declared.row.Row.{Row}
use Rattle.adb_wire.specs.Cutting.{framed}
use Rattle.adb_wire.specs.Format.{is_cnxn}
use Rattle.adb_wire.specs.declared.packets.Packet.{Packet}
use Rattle.adb_capture.specs.declared.entry.Entry.TheVariants.{Attach}
use Rattle.adb_history.specs.Links.{is_connected_state, is_connected_row}
use Rattle.adb_history.specs.Machine.{History, state, IsLegal}
use Rattle.adb_history.specs.Bytes.{is_lost, bytes_received, brought}
use Rattle.adb_history.specs.Book.{plugged, is_login, is_refused, last_cnxn, row_with, row_by, device_of}
use Rattle.adb_history.specs.Packets.{least_version, least_maxdata}
use Rattle.adb_history.proofs.Devices.{ShowsDevices, shows_devices}
use Rattle.adb_laws_worlds.specs.Quiet.{TakePayloads}

-- ---- lists
pub all_reverse : (P : Packet → Type 0) (ps : List Packet) → All P ps → All P (reverse ps)
all_reverse P [] all = All-nil P
all_reverse P (p ∷ ps) all =
    subst (λ (qs : List Packet). All P qs) (sym (reverse-append (p ∷ []) ps))
    (All-append P (reverse ps) (p ∷ []) (all_reverse P ps (All-tail P p ps all)) (All-cons P p [] (All-head P p ps all) (All-nil P)))

pub found_holds : (test : Packet → Bool) (P : Packet → Type 0) (ps : List Packet) (p : Packet) → find test ps ≡ Some p
    → All P ps → P p × (test p ≡ true)
found_holds test P [] p is all = let clash : None ≡ Some p = is in cc
found_holds test P (q ∷ ps) p is all = go (test q) refl is (λ e. found_holds test P ps p e (All-tail P q ps all))
  where
    go : (b : Bool) → test q ≡ b → cond b (Some q) (find test ps) ≡ Some p
        → (find test ps ≡ Some p → P p × (test p ≡ true)) → P p × (test p ≡ true)
    go true e f later =
        let same : q ≡ p = cc in
        (subst P same (All-head P q ps all), ap test (sym same) ∙ e)
    go false e f later = later f

none_such : (test : Packet → Bool) (ps : List Packet) → list_any test ps ≡ false → All (λ p. test p ≡ false) ps
none_such test [] e = All-nil (λ p. test p ≡ false)
none_such test (p ∷ ps) e = go (test p) refl e (none_such test ps)
  where
    go : (b : Bool) → test p ≡ b → (b || list_any test ps) ≡ false → (list_any test ps ≡ false → All (λ p. test p ≡ false) ps)
        → All (λ p. test p ≡ false) (p ∷ ps)
    go true is f later = absurd (let clash : true ≡ false = f in cc)
    go false is f later = All-cons (λ p. test p ≡ false) p ps is (later f)

-- ---- rows
-- a device that is connected takes so many
abbrev Takes : Option Row → Type 0
Takes o = is_connected_row o ≡ true → least_maxdata ≤ unwrap_or (option_map (λ row. row.maxdata) o) 0

-- as it was plugged in it is not
pub plugged_off : (t : ℕ) (h : History) → (row : Row) → plugged t h ≡ Some row → row.state ≡ device.Offline
plugged_off t [] row is = let clash : None ≡ Some row = is in cc
plugged_off t (Attach n kind serial ∷ older) row is = go (eqb n t) is (plugged_off t older row)
  where
    go : (b : Bool) → cond b (Some (new_row t kind serial)) (plugged t older) ≡ Some row
        → (plugged t older ≡ Some row → row.state ≡ device.Offline)
        → row.state ≡ device.Offline
    go true e later = let same : new_row t kind serial ≡ row = cc in ap (λ (r : Row). r.state) (sym same)
    go false e later = later e
plugged_off t (_ ∷ older) row is = plugged_off t older row is

module _ (row : Row) (off : row.state ≡ device.Offline) where
  no : true ≡ false → ⊥
  no e = let clash = e in cc

  not_connected : is_connected_row (Some row) ≡ false
  not_connected = ap is_connected_state off

  -- nor is one that does not say who it is
  who_takes : (who : Option Identity) (p : Packet) → least_maxdata ≤ p.arg1 → Takes (Some (row_with who p row))
  who_takes None p enough on = absurd (no (sym on ∙ not_connected))
  who_takes (Some identity) p enough on = omega (arith, enough)

  by_takes : (last : Option Packet) (packets : List Packet) → ((p : Packet) → last ≡ Some p → least_maxdata ≤ p.arg1)
      → Takes (Some (row_by last packets row))
  by_takes (Some p) packets enough = who_takes (identity_of p.payload) p (enough p refl)
  by_takes None packets enough = go (list_any (λ p. is_login p.command) packets)
    where
      go : (b : Bool) → Takes (Some (cond b (unauthorized_row row) row))
      go true on = absurd (no (sym on))
      go false on = absurd (no (sym on ∙ not_connected))

-- the last CNXN of packets of which none is refused takes so many
enough_by : (ps : List Packet) → list_any is_refused ps ≡ false → (p : Packet) → last_cnxn ps ≡ Some p → least_maxdata ≤ p.arg1
enough_by ps none p is =
    let found = found_holds (λ p. is_cnxn p.command) (λ p. is_refused p ≡ false) (reverse ps) p is
    (all_reverse (λ p. is_refused p ≡ false) ps (none_such is_refused ps none)) in
    go (is_cnxn p.command) (nat_lt p.arg0 least_version) (nat_lt p.arg1 least_maxdata) refl
    (is_none (identity_of p.payload)) found.1 found.0
  where
    go : (a b c : Bool) → nat_lt p.arg1 least_maxdata ≡ c → (d : Bool) → a ≡ true → (a && (b || c || d)) ≡ false → least_maxdata ≤ p.arg1
    go true b false e d f g = grind (arith, nat_tests, e)
    go true true true e d f g = let clash : true ≡ false = g in cc
    go true false true e d f g = let clash : true ≡ false = g in cc
    go false b c e d f g = let clash : false ≡ true = f in cc

device_takes : (t : ℕ) (h : History) → Takes (device_of t h)
device_takes t h = go (is_lost t h) (list_any is_refused (brought t h)) refl (plugged t h) refl
    (is_some (framed (bytes_received t h)).fault)
  where
    none : Takes None
    none on = let clash : false ≡ true = on in cc

    go : (a b : Bool) → list_any is_refused (brought t h) ≡ b → (o : Option Row) → plugged t h ≡ o → (c : Bool)
        → Takes (cond (a || (c || b)) None (option_map (row_by (last_cnxn (brought t h)) (brought t h)) o))
    go false b e o f true = none
    go false false e (Some row) f false = by_takes row (plugged_off t h row f) (last_cnxn (brought t h)) (brought t h)
        (enough_by (brought t h) e)
    go _ _ e _ f _ = none

pub take_payloads : (h : History) → IsLegal h → TakePayloads h
take_payloads h legal t = go (state h).stopped refl
  where
    shows : ShowsDevices (state h) h
    shows = shows_devices h legal

    go : (b : Bool) → (state h).stopped ≡ b → Takes (at t (state h).devices.rows)
    go true off = subst (λ (rows : List (ℕ × Row)). Takes (at t rows)) (sym (shows.gone off)) (λ on. (let clash : false ≡ true = on in cc))
    go false on = subst (λ (o : Option Row). Takes o) (sym (shows.rows on t)) (device_takes t h)
