-- What the packets of a link make of its device, one after another, is what they say of it all together.
use Rattle.std.proofs.Common.{ℕ, ◌≡◌, Bool, true, false, cond, List, [], ◌∷◌, ◌++◌, Option, Some, None, is_some, refl, sym, ◌∙◌, ap, subst}
use Rattle.std.proofs.Common.{append_assoc}
use Rattle.std.proofs.lemmas.List.{append-nil, reverse-append}
use Rattle.std.proofs.lemmas.List.Folds.{list_any-append}
use Rattle.std.specs.Prelude.{nat_lt, ◌||◌, ◌&&◌, min, is_none, find, bytes_eq, codes}
use Rattle.std.specs.List.{list_any}
use Rattle.adb_outside.specs.Identity.{state_of_system}
use Rattle.adb_outside.specs.declared.identity.Identity.{Identity}
use Rattle.adb_outside.specs.declared.identity.State.{State as DeviceState}
use Rattle.adb_outside.specs.declared.identity.State.TheVariants as device
use Rattle.adb_banner.specs.Banner.{identity_of}
use Rattle.adb_registry.specs.Row.{online_row, unauthorized_row}
use Rattle.adb_registry.specs.declared.row.Row.{Row}
use Rattle.adb_wire.specs.Format.{is_cnxn}
use Rattle.adb_wire.specs.declared.command.Command.{Command}
use Rattle.adb_wire.specs.declared.command.Command.TheVariants.{Cnxn, Auth, Stls}
use Rattle.adb_wire.specs.declared.packets.Packet.{Packet}
use Rattle.adb_wire.specs.declared.limits.TheConstants.{VERSION}
use Rattle.adb_wire.specs.declared.headers.TheConstants.{MAX_PAYLOAD}
use Rattle.adb_history.specs.Packets.{least_version, least_maxdata}
use Rattle.adb_history.specs.Book.{is_refused, is_login, last_cnxn, row_with, row_by}

-- ---- one packet after another
-- a device that asks for what is not answered
abbrev pub row_waiting : DeviceState → Row → Row
row_waiting device.Offline row = unauthorized_row row
row_waiting _ row = row

abbrev pub row_connected : Option Identity → (version maxdata : ℕ) → Row → Option Row
row_connected None version maxdata row = None
row_connected (Some identity) version maxdata row = Some (online_row identity (min version VERSION) (min maxdata MAX_PAYLOAD) row)

abbrev pub row_cnxn : (version maxdata : ℕ) → List ℕ → Row → Option Row
row_cnxn version maxdata banner row =
    cond (nat_lt version least_version || nat_lt maxdata least_maxdata) None (row_connected (identity_of banner) version maxdata row)

abbrev pub row_hears : Command → Packet → Row → Option Row
row_hears Cnxn p row = row_cnxn p.arg0 p.arg1 p.payload row
row_hears Auth p row = Some (row_waiting row.state row)
row_hears Stls p row = Some (row_waiting row.state row)
row_hears _ p row = Some row

abbrev pub row_after : Packet → Option Row → Option Row
row_after p None = None
row_after p (Some row) = row_hears p.command p row

abbrev pub rows_after : List Packet → Option Row → Option Row
rows_after [] o = o
rows_after (p ∷ ps) o = rows_after ps (row_after p o)

pub rows_append : (ps qs : List Packet) (o : Option Row) → rows_after (ps ++ qs) o ≡ rows_after qs (rows_after ps o)
rows_append [] qs o = refl
rows_append (p ∷ ps) qs o = rows_append ps qs (row_after p o)

pub rows_none : (ps : List Packet) → rows_after ps None ≡ None
rows_none [] = refl
rows_none (p ∷ ps) = rows_none ps

-- ---- all together
-- the device of a link that brought these packets
abbrev pub device_by : List Packet → Row → Option Row
device_by packets row = cond (list_any is_refused packets) None (Some (row_by (last_cnxn packets) packets row))

any_more : (q : Packet → Bool) (ps : List Packet) (p : Packet) → list_any q (ps ++ p ∷ []) ≡ (list_any q ps || q p)
any_more q ps p = list_any-append q ps (p ∷ []) ∙ ap (λ (b : Bool). list_any q ps || b) (last (q p))
  where
    last : (b : Bool) → (b || false) ≡ b
    last true = refl
    last false = refl

last_more : (ps : List Packet) (p : Packet) → last_cnxn (ps ++ p ∷ []) ≡ cond (is_cnxn p.command) (Some p) (last_cnxn ps)
last_more ps p = ap (find (λ (p : Packet). is_cnxn p.command)) (reverse-append ps (p ∷ []))

-- a system never means that a device is offline
never_offline : (system : List ℕ) → (row : Row) → row.state ≡ state_of_system system → row_waiting row.state row ≡ row
never_offline system row is = go (bytes_eq system (codes "device")) (bytes_eq system (codes "bootloader"))
    (bytes_eq system (codes "recovery"))
    (bytes_eq system (codes "sideload")) (bytes_eq system (codes "rescue")) is
  where
    other : (s : DeviceState) → row.state ≡ s → row_waiting s row ≡ row → row_waiting row.state row ≡ row
    other s e h = ap (λ (x : DeviceState). row_waiting x row) e ∙ h

    go : (a b c d e : Bool) → row.state ≡ cond a device.Device
        (cond b device.Bootloader (cond c device.Recovery (cond d device.Sideload (cond e device.Rescue device.Host))))
        → row_waiting row.state row ≡ row
    go true b c d e is = other device.Device is refl
    go false true c d e is = other device.Bootloader is refl
    go false false true d e is = other device.Recovery is refl
    go false false false true e is = other device.Sideload is refl
    go false false false false true is = other device.Rescue is refl
    go false false false false false is = other device.Host is refl

-- the last CNXN of packets of which none is refused says who the device is
abbrev pub SaysWho : Option Packet → Type 0
SaysWho None = Unit {0}
SaysWho (Some p) = is_some (identity_of p.payload) ≡ true

-- what is known of packets that came one after another
pub record IsDevice (row : Row) (ps : List Packet) : Type 0 where
  pub same : rows_after ps (Some row) ≡ device_by ps row
  pub who : list_any is_refused ps ≡ false → SaysWho (last_cnxn ps)

-- ---- one more packet
module _ (row : Row) (offline : row.state ≡ device.Offline) (ps : List Packet) (p : Packet) where
  -- who was online is online again
  online_again : (o : Option Packet) (identity : Identity) (version maxdata : ℕ)
      → online_row identity version maxdata (row_by o ps row) ≡ online_row identity version maxdata row
  online_again None identity version maxdata = go (list_any (λ (p : Packet). is_login p.command) ps)
    where
      go : (b : Bool) → online_row identity version maxdata (cond b (unauthorized_row row) row) ≡ online_row identity version maxdata row
      go true = refl
      go false = refl
  online_again (Some q) identity version maxdata = go (identity_of q.payload)
    where
      go : (o : Option Identity) → online_row identity version maxdata (row_with o q row) ≡ online_row identity version maxdata row
      go None = refl
      go (Some i) = refl

  -- a CNXN
  more_cnxn : (bad : Bool) (o : Option Identity)
      → cond bad None (row_connected o p.arg0 p.arg1 (row_by (last_cnxn ps) ps row))
      ≡ cond (bad || is_none o) None (Some (row_with o p row))
  more_cnxn true o = refl
  more_cnxn false None = refl
  more_cnxn false (Some identity) =
      ap Some (online_again (last_cnxn ps) identity (min p.arg0 VERSION) (min p.arg1 MAX_PAYLOAD))

  -- an AUTH or STLS
  more_login : (o : Option Packet) → is_login p.command ≡ true → SaysWho o
      → row_waiting (row_by o ps row).state (row_by o ps row) ≡ row_by o (ps ++ p ∷ []) row
  more_login None login who = go (list_any (λ (p : Packet). is_login p.command) ps) (is_login p.command) login
      ∙ sym (ap (λ (b : Bool). cond b (unauthorized_row row) row) (any_more (λ (p : Packet). is_login p.command) ps p))
    where
      go : (before here : Bool) → here ≡ true → row_waiting (cond before (unauthorized_row row) row).state
          (cond before (unauthorized_row row) row)
          ≡ cond (before || here) (unauthorized_row row) row
      go true here e = refl
      go false true e = ap (λ (s : DeviceState). row_waiting s row) offline
      go false false e = let clash : false ≡ true = e in cc
  more_login (Some q) login who = go (identity_of q.payload) who
    where
      go : (o : Option Identity) → is_some o ≡ true → row_waiting (row_with o q row).state (row_with o q row) ≡ row_with o q row
      go None e = let clash : false ≡ true = e in cc
      go (Some identity) e = never_offline identity.system
          (online_row identity (min q.arg0 VERSION) (min q.arg1 MAX_PAYLOAD) row) refl

  -- a packet that says nothing of the device
  more_other : (o : Option Packet) → is_login p.command ≡ false → row_by o ps row ≡ row_by o (ps ++ p ∷ []) row
  more_other None other = go (list_any (λ (p : Packet). is_login p.command) ps) (is_login p.command) other
      ∙ sym (ap (λ (b : Bool). cond b (unauthorized_row row) row) (any_more (λ (p : Packet). is_login p.command) ps p))
    where
      go : (before here : Bool) → here ≡ false → cond before (unauthorized_row row) row ≡ cond (before || here) (unauthorized_row row) row
      go true here e = refl
      go false true e = let clash : true ≡ false = e in cc
      go false false e = refl
  more_other (Some q) other = refl

  -- whether a CNXN is refused
  abbrev refused_here : Bool
  refused_here = nat_lt p.arg0 least_version || nat_lt p.arg1 least_maxdata || is_none (identity_of p.payload)

  by_command : (command : Command) → p.command ≡ command → SaysWho (last_cnxn ps)
      → row_hears command p (row_by (last_cnxn ps) ps row)
      ≡ cond (is_cnxn command && refused_here) None (Some (row_by (cond (is_cnxn command) (Some p) (last_cnxn ps)) (ps ++ p ∷ []) row))
  by_command Cnxn e who = more_cnxn (nat_lt p.arg0 least_version || nat_lt p.arg1 least_maxdata) (identity_of p.payload)
  by_command Auth e who = ap Some (more_login (last_cnxn ps) (ap is_login e) who)
  by_command Stls e who = ap Some (more_login (last_cnxn ps) (ap is_login e) who)
  by_command _ e who = ap Some (more_other (last_cnxn ps) (ap is_login e))

  one_more : (refused : Bool) → (refused ≡ false → SaysWho (last_cnxn ps))
      → row_after p (cond refused None (Some (row_by (last_cnxn ps) ps row)))
      ≡ cond (refused || is_refused p) None (Some (row_by (cond (is_cnxn p.command) (Some p) (last_cnxn ps)) (ps ++ p ∷ []) row))
  one_more true who = refl
  one_more false who = by_command p.command refl (who refl)

  says_who : (cnxn refused none : Bool) → (cnxn && (refused || none)) ≡ false → (none ≡ false → is_some (identity_of p.payload) ≡ true)
      → SaysWho (last_cnxn ps) → SaysWho (cond cnxn (Some p) (last_cnxn ps))
  says_who true true none e some who = let clash : true ≡ false = e in cc
  says_who true false none e some who = some e
  says_who false refused none e some who = who

  some_of : (o : Option Identity) → is_none o ≡ false → is_some o ≡ true
  some_of None e = let clash : true ≡ false = e in cc
  some_of (Some identity) e = refl

  either_false : (a b : Bool) → (a || b) ≡ false → (a ≡ false) × (b ≡ false)
  either_false true b e = let clash : true ≡ false = e in cc
  either_false false b e = (refl, e)

  more_packets : IsDevice row ps → IsDevice row (ps ++ p ∷ [])
  more_packets known = record {
    same = rows_append ps (p ∷ []) (Some row)
        ∙ (ap (row_after p) known.same
        ∙ (one_more (list_any is_refused ps) known.who
        ∙ (sym (ap (λ (b : Bool). cond b None (Some (row_by (cond (is_cnxn p.command) (Some p) (last_cnxn ps)) (ps ++ p ∷ []) row)))
        (any_more is_refused ps p))
        ∙ sym (ap (λ (o : Option Packet). cond (list_any is_refused (ps ++ p ∷ [])) None
        (Some (row_by o (ps ++ p ∷ []) row))) (last_more ps p)))));
    who = λ e.
        let none = either_false (list_any is_refused ps) (is_refused p) (sym (any_more is_refused ps p) ∙ e) in
        subst (λ (o : Option Packet). SaysWho o) (sym (last_more ps p))
        (says_who (is_cnxn p.command) (nat_lt p.arg0 least_version || nat_lt p.arg1 least_maxdata) (is_none (identity_of p.payload)) none.1
        (some_of (identity_of p.payload)) (known.who none.0));
  }

-- any packets
pub all_packets : (row : Row) → row.state ≡ device.Offline → (ps qs : List Packet) → IsDevice row ps → IsDevice row (ps ++ qs)
all_packets row offline ps [] known = subst (λ (x : List Packet). IsDevice row x) (sym (append-nil ps)) known
all_packets row offline ps (q ∷ qs) known =
    subst (λ (x : List Packet). IsDevice row x) (append_assoc ps (q ∷ []) qs)
    (all_packets row offline (ps ++ q ∷ []) qs (more_packets row offline ps q known))

pub device_rows : (row : Row) → row.state ≡ device.Offline → (ps : List Packet) → rows_after ps (Some row) ≡ device_by ps row
device_rows row offline ps = (all_packets row offline [] ps (record { same = refl; who = λ e. tt })).same
