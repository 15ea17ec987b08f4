-- A server with one device: its streams are on the first link, and have no credit where the device takes none.
use Rattle.std.specs.Prelude.{ℕ, ◌^◌, ◌≡◌, ◌<◌, ◌≤◌, Bool, true, false, cond, List, [], ◌∷◌, Contains, option_map, ◌||◌, Option, Some, None}
use Rattle.std.proofs.Common.{zero, suc, refl, sym, ◌∙◌, ap, subst, arith, ◌⊎◌, inl, inr}
use Rattle.std.proofs.lemmas.Bool.{cases_lt, ne_eqb}
use Rattle.std.proofs.lemmas.List.Elements.{All-nil, All-contains}
use Rattle.adb_outside.specs.Tables.{at}
use Rattle.adb_registry.specs.Row.{new_row}
use Rattle.adb_registry.specs.declared.row.Row.{Row}
use Rattle.adb_wire.specs.declared.packets.Packet.{Packet}
use Rattle.adb_stream.specs.declared.row.Stream.{Stream}
use Rattle.adb_capture.specs.declared.entry.Entry.TheVariants.{Attach}
use Rattle.adb_history.specs.Book.{plugged, plugged_count, is_broken, last_cnxn, row_by, devices}
use Rattle.adb_history.specs.Bytes.{is_lost, brought}
use Rattle.adb_history.specs.Births.{Birth, born}
use Rattle.adb_history.specs.Links.{open_packet, is_connected, is_connected_row, is_credit, is_credit_row}
use Rattle.adb_history.specs.Machine.{History, state, IsLegal}
use Rattle.adb_history.proofs.Devices.{ShowsDevices, shows_devices}
use Rattle.adb_history.proofs.Growing.{IsWithin}
use Rattle.adb_history.specs.Tied.{came_count}
use Rattle.adb_history.proofs.OrderlyStates.{orderly}
use Rattle.adb_history.proofs.OutputEntries.{tied}
use Rattle.adb_laws_births.proofs.Asking.{asks_at_once}
use Rattle.adb_laws_fifo_down.proofs.BornNow.{born_when}
use Rattle.adb_daemon.specs.Device.{Setting}
use Rattle.adb_laws_model_device.specs.InTime.{AllPlain}
use Rattle.adb_laws_model_device.specs.Joined.{IsJoined}
use Rattle.adb_laws_worlds.specs.Credit.{HasOneDevice, LiveOnFirst}
use Rattle.adb_laws_worlds.proofs.Credit.{birth_credit, first_are_plain, no_credit_at, unborn}
use Rattle.adb_laws_worlds.proofs.Greeted.{greets_links}
use Rattle.adb_laws_worlds.proofs.Opening.{was_due}

-- ---- no device has the number 0
none_plugged : (h : History) → IsLegal h → plugged 0 h ≡ None
none_plugged [] legal = refl
none_plugged (Attach n kind serial ∷ older) legal =
    let number = legal.2.1 in
    ap (λ (b : Bool). cond b (Some (new_row 0 kind serial)) (plugged 0 older)) (ne_eqb n 0 (λ zeroth. omega (arith, number, zeroth)))
    ∙ none_plugged older legal.0
none_plugged (_ ∷ older) legal = none_plugged older legal.0

none_there : (h : History) → IsLegal h → at 0 (state h).devices.rows ≡ None
none_there h legal = go (state h).stopped refl
  where
    shows : ShowsDevices (state h) h
    shows = shows_devices h legal

    none_of : (b : Bool) (o : Option Row) → o ≡ None → cond b None (option_map (row_by (last_cnxn (brought 0 h)) (brought 0 h)) o) ≡ None
    none_of true o is = refl
    none_of false None is = refl
    none_of false (Some row) is = let clash : None ≡ Some row = sym is in cc

    go : (b : Bool) → (state h).stopped ≡ b → at 0 (state h).devices.rows ≡ None
    go true off = ap (λ (rows : List (ℕ × Row)). at 0 rows) (shows.gone off)
    go false on = shows.rows on 0 ∙ none_of (is_lost 0 h || is_broken 0 h) (plugged 0 h) (none_plugged h legal)

-- ---- streams that live
pub live_on_first : (h : History) → IsLegal h → HasOneDevice h → LiveOnFirst h
live_on_first h legal one l x live = go x.link refl
  where
    within : x.link ≤ plugged_count h
    within = (subst (λ (o : Option Stream). IsWithin (came_count h) (plugged_count h) o) live ((tied h legal).streams l)).1

    connected : is_connected x.link (state h).devices ≡ true
    connected = ((orderly h legal).stream l x live).connected

    go : (n : ℕ) → x.link ≡ n → x.link ≡ 1
    go zero e =
        let none : is_connected_row (at 0 (state h).devices.rows) ≡ false = ap is_connected_row (none_there h legal) in
        let some : is_connected_row (at 0 (state h).devices.rows) ≡ true =
        ap (λ (t : ℕ). is_connected t (state h).devices) (sym e) ∙ connected in
        absurd (let clash : true ≡ false = sym some ∙ none in cc)
    go (suc n) e = (let le = within in omega (arith, e, le, one))

-- ---- births
-- a stream is born on a link that was plugged in
born_within : (h : History) → IsLegal h → (l : ℕ) (b : Birth) → born l h ≡ Some b → b.link ≤ plugged_count h
born_within h legal l b is = go (cases_lt (plugged_count h) b.link)
  where
    go : (plugged_count h < b.link) ⊎ (b.link ≤ plugged_count h) → b.link ≤ plugged_count h
    go (inr le) = le
    go (inl above) =
        let due : Contains [] (open_packet b.credit l b.service) =
        subst (λ (ps : List Packet). Contains ps (open_packet b.credit l b.service)) ((greets_links h legal b.link).absent above)
        (was_due h (asks_at_once h legal) l b is) in
        absurd (All-contains (λ (p : Packet). ⊥) [] (open_packet b.credit l b.service) (All-nil (λ (p : Packet). ⊥)) due)

-- and has no credit on none
zero_plain : (h : History) → IsLegal h → (l : ℕ) (b : Birth) → born l h ≡ Some b → b.link ≡ 0 → b.credit ≡ false
zero_plain [] legal l b is own = absurd (unborn l b is)
zero_plain (e ∷ older) legal l b is own = elim (born_when l b e older is) [
  | inl was ↦ zero_plain older legal.0 l b was own
  | inr now ↦
      birth_credit e older b now.is
      ∙ (ap (λ (t : ℕ). is_credit t (devices older)) own
      ∙ no_credit_at older legal.0 0 (ap (λ (o : Option Row). is_credit_row o) (none_there older legal.0)))
]

pub all_plain_of_one : (setting : Setting) → setting.most < 2 ^ 32 → setting.credit ≡ false → (h : History) → IsLegal h → IsJoined setting h
    → HasOneDevice h → AllPlain h
all_plain_of_one setting short plain h legal joined one l b is = go b.link refl
  where
    within : b.link ≤ plugged_count h
    within = born_within h legal l b is

    go : (n : ℕ) → b.link ≡ n → b.credit ≡ false
    go zero e = zero_plain h legal l b is e
    go (suc n) e = first_are_plain setting short plain h legal joined l b is (let le = within in omega (arith, e, le, one))
