-- A server that the model device told who it is knows that device.
use Rattle.std.specs.Prelude.{ℕ, ◌+◌, ◌≡◌, ◌&&◌, ◌||◌, Bool, true, false, cond, is_some}
use Rattle.std.specs.Prelude.{is_none, List, [], ◌∷◌, ◌++◌, reverse, find, Some, None, option_map}
use Rattle.std.specs.Prelude.{nat_lt}
use Rattle.std.specs.List.{list_any}
use Rattle.std.proofs.Common.{refl, sym, ◌∙◌, ap, arith}
use Rattle.std.proofs.lemmas.List.{reverse-append}
use Rattle.adb_outside.specs.Tables.{listed, listed_at}
use Rattle.adb_outside.specs.declared.kinds.Kind.TheVariants.{Local}
use Rattle.adb_banner.specs.Banner.{identity_of, last_value}
use Rattle.adb_registry.specs.Row.{new_row}
use Rattle.adb_registry.specs.Registry.{DeviceTable}
use Rattle.adb_wire.specs.Format.{is_cnxn}
use Rattle.adb_wire.specs.declared.packets.Packet.{Packet}
use Rattle.adb_capture.specs.declared.entry.Entry.{Entry}
use Rattle.adb_history.specs.Book.{plugged, plugged_count, is_refused, is_broken, last_cnxn, row_by, device_of, devices, devices_if}
use Rattle.adb_history.specs.Book.{is_killed}
use Rattle.adb_history.specs.Bytes.{is_lost, brought}
use Rattle.adb_history.specs.Machine.{History}
use Rattle.adb_history.specs.Packets.{least_version, least_maxdata}
use Rattle.adb_daemon.specs.Device.{own_cnxn}
use Rattle.adb_laws_births.specs.Brought.{ComeFirst}
use Rattle.adb_laws_model_device.specs.Counts.{how_many}
use Rattle.adb_laws_model_device.specs.Rows.{is_cnxn_packet}
use Rattle.adb_laws_worlds.specs.Unbroken.{BringsSound}
use Rattle.adb_laws_answers.specs.Words.{serial}
use Rattle.adb_laws_answers.specs.Model.{model_devices, model_row, model_setting}
use Rattle.adb_world.specs.Parts.{IsGreeted}

-- ---- packets of which none is a CNXN
-- none of them is found from their end
find_behind : (q : Packet → Bool) (ps more : List Packet) → find q ps ≡ None → find q (ps ++ more) ≡ find q more
find_behind q [] more none = refl
find_behind q (p ∷ ps) more none = go (q p) refl none (find_behind q ps more)
  where
    go : (b : Bool) → q p ≡ b → cond b (Some p) (find q ps) ≡ None → (find q ps ≡ None → find q (ps ++ more) ≡ find q more)
        → cond (q p) (Some p) (find q (ps ++ more)) ≡ find q more
    go true is e later = absurd (let clash : Some p ≡ None = e in cc)
    go false is e later = ap (λ (b : Bool). cond b (Some p) (find q (ps ++ more))) is ∙ later e

head_none : (p : Packet) (ps : List Packet) → how_many is_cnxn_packet (p ∷ ps) ≡ 0
    → (is_cnxn p.command ≡ false) × (how_many is_cnxn_packet ps ≡ 0)
head_none p ps none = go (is_cnxn p.command) refl none
  where
    go : (b : Bool) → is_cnxn p.command ≡ b → cond b (1 + how_many is_cnxn_packet ps) (how_many is_cnxn_packet ps) ≡ 0
        → (is_cnxn p.command ≡ false) × (how_many is_cnxn_packet ps ≡ 0)
    go true is e = absurd (omega (arith, e))
    go false is e = (is, e)

last_none : (ps : List Packet) → how_many is_cnxn_packet ps ≡ 0 → last_cnxn ps ≡ None
last_none [] none = refl
last_none (p ∷ ps) none =
    let both = head_none p ps none in
    ap (find (λ (x : Packet). is_cnxn x.command)) (reverse-append (p ∷ []) ps)
    ∙ (find_behind (λ (x : Packet). is_cnxn x.command) (reverse ps) (p ∷ []) (last_none ps both.1)
    ∙ ap (λ (b : Bool). cond b (Some p) None) both.0)

none_refused : (ps : List Packet) → how_many is_cnxn_packet ps ≡ 0 → list_any is_refused ps ≡ false
none_refused [] none = refl
none_refused (p ∷ ps) none =
    let both = head_none p ps none in
    (λ i. (both.0 i
    && (nat_lt p.arg0 least_version || nat_lt p.arg1 least_maxdata || is_none (identity_of p.payload)))
    || none_refused ps both.1 i)

-- ---- the CNXN of the model device
abbrev cnxn : Packet
cnxn = (own_cnxn model_setting).packet

cnxn_taken : is_refused cnxn ≡ false
unfolding identity_of last_value
cnxn_taken = refl

-- ---- what it tells
module _ (h : History) (sound : BringsSound h) (here : is_lost 1 h ≡ false) (as_model : plugged 1 h ≡ Some (new_row 1 Local serial))
    (greeted : IsGreeted h) where
  rest_none : how_many is_cnxn_packet greeted.rest ≡ 0
  rest_none =
      let once = sound.once in
      let all : how_many is_cnxn_packet (brought 1 h) ≡ 1 + how_many is_cnxn_packet greeted.rest =
      ap (how_many is_cnxn_packet) greeted.is in
      omega (arith, once, all)

  unbroken : is_broken 1 h ≡ false
  unbroken =
      let all : is_broken 1 h ≡ list_any is_refused (cnxn ∷ greeted.rest) =
      λ i. is_some (sound.sound i) || list_any is_refused (greeted.is i) in
      let none : list_any is_refused (cnxn ∷ greeted.rest) ≡ false = λ i. cnxn_taken i || none_refused greeted.rest rest_none i in
      all ∙ none

  last : last_cnxn (brought 1 h) ≡ Some cnxn
  last =
      ap last_cnxn greeted.is
      ∙ (ap (find (λ (x : Packet). is_cnxn x.command)) (reverse-append (cnxn ∷ []) greeted.rest)
      ∙ find_behind (λ (x : Packet). is_cnxn x.command) (reverse greeted.rest) (cnxn ∷ []) (last_none greeted.rest rest_none))

  row : device_of 1 h ≡ Some model_row
  row =
      (λ i. cond (here i || unbroken i) None (option_map (row_by (last i) (brought 1 h)) (as_model i)))

  pub known_devices : plugged_count h ≡ 1 → is_killed h ≡ false → devices h ≡ model_devices
  unfolding model_devices
  known_devices one alive =
      let first : DeviceTable = record { drawn = 1; rows = listed (λ (t : ℕ). device_of t h) 1 1 } in
      let table : devices_if false h ≡ first = λ i. record { drawn = one i; rows = listed (λ (t : ℕ). device_of t h) 1 (one i) } in
      let rows : first ≡ model_devices = λ i. record { drawn = 1; rows = listed_at 1 (row i) [] } in
      ap (λ (b : Bool). devices_if b h) alive ∙ (table ∙ rows)

-- what came first comes first later
pub stays_greeted : (e : Entry) (older : History) → ComeFirst (brought 1 older) (brought 1 (e ∷ older))
    → IsGreeted older → IsGreeted (e ∷ older)
stays_greeted e older first greeted = record {
  rest = greeted.rest ++ first.0;
  is = sym first.1 ∙ ap (λ (ps : List Packet). ps ++ first.0) greeted.is;
}
