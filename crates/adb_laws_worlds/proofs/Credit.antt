-- A model device without credit in bytes has streams without it.
use Rattle.std.specs.Prelude.{ℕ, ◌^◌, ◌≡◌, ◌<◌, ◌||◌, Bool, true, false, cond, nat_lt, is_some, option_map, reverse, All, List, [], ◌∷◌}
use Rattle.std.specs.Prelude.{Option, Some, None}
use Rattle.std.proofs.Common.{zero, suc, refl, sym, ◌∙◌, ap, subst, eqb, inl, inr}
use Rattle.std.specs.List.{list_any}
use Rattle.std.proofs.lemmas.List.Elements.{All-nil, All-cons, All-head, All-tail}
use Rattle.adb_outside.specs.Tables.{at}
use Rattle.adb_outside.specs.declared.identity.Identity.{Identity}
use Rattle.adb_banner.specs.Banner.{identity_of, last_value}
use Rattle.adb_registry.specs.Row.{new_row, unauthorized_row}
use Rattle.adb_registry.specs.declared.row.Row.{Row}
use Rattle.adb_wire.specs.Cutting.{framed}
use Rattle.adb_wire.specs.Format.{is_cnxn}
use Rattle.adb_wire.specs.declared.packets.Packet.{Packet}
use Rattle.adb_capture.specs.declared.entry.Entry.{Entry}
use Rattle.adb_capture.specs.declared.entry.Entry.TheVariants.{Enter, Read, Attach}
use Rattle.adb_history.specs.Book.{plugged, is_login, is_refused, last_cnxn, row_with, row_by, device_of, devices, forwards, asked, newly}
use Rattle.adb_history.specs.Bytes.{is_lost, bytes_received, brought, sent}
use Rattle.adb_history.specs.Births.{Birth, births_at, born}
use Rattle.adb_history.specs.Links.{is_credit, is_credit_row, names_credit}
use Rattle.adb_history.specs.Machine.{History, state, IsLegal}
use Rattle.adb_history.specs.Streams.{stream_ids}
use Rattle.adb_history.proofs.Books.{all_books}
use Rattle.adb_history.proofs.Devices.{ShowsDevices, shows_devices}
use Rattle.adb_laws_fifo_down.proofs.BornNow.{born_when, by_request, by_forward}
use Rattle.adb_daemon.specs.Serving.{Sent}
use Rattle.adb_daemon.specs.Device.{Setting, identity_text, device_behind}
use Rattle.adb_laws_model_device.specs.Paired.{IsPaired}
use Rattle.adb_laws_model_device.specs.Joined.{IsJoined}
use Rattle.adb_laws_model_device.specs.Owed.{packets_of_sent, packets_owed}
use Rattle.adb_laws_model_device.proofs.Joined.{paired}
use Rattle.adb_laws_worlds.specs.Credit.{FirstArePlain}
use Rattle.adb_laws_worlds.proofs.Opening.{front_all}
use Rattle.adb_laws_worlds.proofs.Payloads.{all_reverse, found_holds}
use Rattle.adb_laws_worlds.proofs.Sends.{all_sent}

-- ---- who the device says that it is
-- a CNXN does not name credit
abbrev IsPlainCnxn : Packet → Type 0
IsPlainCnxn p = is_cnxn p.command ≡ true → names_credit (identity_of p.payload) ≡ false

-- nor does that of a device without it
own_is_plain : names_credit (identity_of (identity_text false)) ≡ false
unfolding identity_of last_value
own_is_plain = refl

plain_owed : (setting : Setting) → setting.credit ≡ false → (packets : List Packet) → All IsPlainCnxn (packets_owed setting packets)
plain_owed setting plain packets =
    go (device_behind setting packets).serving.made
    (all_sent (λ (one : Sent). IsPlainCnxn one.packet) (λ sums own host word e. absurd (no e)) (λ sums own host payload e. absurd (no e))
    (λ sums own host e. absurd (no e)) setting
    (λ e. ap (λ (c : Bool). names_credit (identity_of (identity_text c))) plain ∙ own_is_plain) packets)
  where
    no : false ≡ true → ⊥
    no e = let clash = e in cc

    go : (made : List Sent) → All (λ (one : Sent). IsPlainCnxn one.packet) made → All IsPlainCnxn (packets_of_sent made)
    go [] all = All-nil IsPlainCnxn
    go (one ∷ made) all =
        All-cons IsPlainCnxn one.packet (packets_of_sent made) (All-head (λ (one : Sent). IsPlainCnxn one.packet) one made all)
        (go made (All-tail (λ (one : Sent). IsPlainCnxn one.packet) one made all))

-- ---- so the row of its link has no credit
plugged_plain : (t : ℕ) (h : History) (row : Row) → plugged t h ≡ Some row → row.identity ≡ None
plugged_plain t [] row is = let clash : None ≡ Some row = is in cc
plugged_plain t (Attach n kind serial ∷ older) row is = go (eqb n t) is (plugged_plain t older row)
  where
    go : (b : Bool) → cond b (Some (new_row t kind serial)) (plugged t older) ≡ Some row
        → (plugged t older ≡ Some row → row.identity ≡ None)
        → row.identity ≡ None
    go true e later = let same : new_row t kind serial ≡ row = cc in ap (λ (r : Row). r.identity) (sym same)
    go false e later = later e
plugged_plain t (_ ∷ older) row is = plugged_plain t older row is

module _ (row : Row) (none : row.identity ≡ None) where
  with_plain : (who : Option Identity) (p : Packet) → names_credit who ≡ false → is_credit_row (Some (row_with who p row)) ≡ false
  with_plain None p plain = ap names_credit none
  with_plain (Some identity) p plain = plain

  by_plain : (last : Option Packet) (packets : List Packet) → ((p : Packet) → last ≡ Some p → names_credit (identity_of p.payload) ≡ false)
      → is_credit_row (Some (row_by last packets row)) ≡ false
  by_plain (Some p) packets plain = with_plain (identity_of p.payload) p (plain p refl)
  by_plain None packets plain = go (list_any (λ p. is_login p.command) packets)
    where
      go : (b : Bool) → is_credit_row (Some (cond b (unauthorized_row row) row)) ≡ false
      go true = ap names_credit none
      go false = ap names_credit none

device_plain : (t : ℕ) (h : History) → All IsPlainCnxn (brought t h) → is_credit_row (device_of t h) ≡ false
device_plain t h plain =
    go (is_lost t h || (is_some (framed (bytes_received t h)).fault || list_any is_refused (brought t h)))
    (plugged t h) refl
  where
    last : (p : Packet) → last_cnxn (brought t h) ≡ Some p → names_credit (identity_of p.payload) ≡ false
    last p is =
        let found = found_holds (λ p. is_cnxn p.command) IsPlainCnxn (reverse (brought t h)) p is
        (all_reverse IsPlainCnxn (brought t h) plain) in
        found.0 found.1

    go : (b : Bool) (o : Option Row) → plugged t h ≡ o
        → is_credit_row (cond b None (option_map (row_by (last_cnxn (brought t h)) (brought t h)) o)) ≡ false
    go true o is = refl
    go false None is = refl
    go false (Some row) is = by_plain row (plugged_plain t h row is) (last_cnxn (brought t h)) (brought t h) last

-- so no stream that is asked for on it has credit
pub no_credit_at : (h : History) → IsLegal h → (t : ℕ) → is_credit_row (at t (state h).devices.rows) ≡ false
    → is_credit t (devices h) ≡ false
no_credit_at h legal t none = ap (λ d. is_credit t d) (sym (all_books h legal).devices) ∙ none

no_credit : (h : History) → IsLegal h → (t : ℕ) → All IsPlainCnxn (brought t h) → is_credit t (devices h) ≡ false
no_credit h legal t plain = no_credit_at h legal t (go (state h).stopped refl)
  where
    shows : ShowsDevices (state h) h
    shows = shows_devices h legal

    go : (b : Bool) → (state h).stopped ≡ b → is_credit_row (at t (state h).devices.rows) ≡ false
    go true off = ap (λ (rows : List (ℕ × Row)). is_credit_row (at t rows)) (shows.gone off)
    go false on = ap (λ (o : Option Row). is_credit_row o) (shows.rows on t) ∙ device_plain t h plain

-- ---- births
-- a birth has the credit of its link as it is then
pub birth_credit : (e : Entry) (older : History) (b : Birth) → births_at e older ≡ b ∷ [] → b.credit ≡ is_credit b.link (devices older)
birth_credit (Read c bytes) older b is =
    let x = by_request c (asked c (Read c bytes ∷ older)).used older
    (newly (asked c older).next (asked c (Read c bytes ∷ older)).next) b is in
    ap (λ (y : Birth). y.credit) x.birth ∙ sym (ap (λ (y : Birth). is_credit y.link (devices older)) x.birth)
birth_credit (Enter c port) older b is =
    let x = by_forward c older (at port (forwards older)) b is in
    ap (λ (y : Birth). y.credit) x.birth ∙ sym (ap (λ (y : Birth). is_credit y.link (devices older)) x.birth)
birth_credit _ older b is = absurd (let clash : [] ≡ b ∷ [] = is in cc)

-- nothing is born yet
pub unborn : (l : ℕ) (b : Birth) → born l [] ≡ Some b → ⊥
unborn zero b e = let clash : None ≡ Some b = e in cc
unborn (suc j) b e = by (nat_lt j stream_ids) e
  where
    by : (t : Bool) → cond t None None ≡ Some b → ⊥
    by true f = let clash : None ≡ Some b = f in cc
    by false f = let clash : None ≡ Some b = f in cc

module _ (setting : Setting) (plain : setting.credit ≡ false) where
  -- what a paired link brought does not name credit
  plain_brought : (h : History) → IsPaired (packets_owed setting) h → All IsPlainCnxn (brought 1 h)
  plain_brought [] pairs = All-nil IsPlainCnxn
  plain_brought (e ∷ older) pairs =
      front_all IsPlainCnxn (brought 1 (e ∷ older)) pairs.1.0
      (subst (λ (ps : List Packet). All IsPlainCnxn ps) (sym pairs.1.1) (plain_owed setting plain (sent 1 older)))

  first_plain : (h : History) → IsLegal h → IsPaired (packets_owed setting) h → FirstArePlain h
  first_plain [] legal pairs l b is own = absurd (unborn l b is)
  first_plain (e ∷ older) legal pairs l b is own = elim (born_when l b e older is) [
    | inl was ↦ first_plain older legal.0 pairs.0 l b was own
    | inr now ↦
        birth_credit e older b now.is
        ∙ (ap (λ (t : ℕ). is_credit t (devices older)) own ∙ no_credit older legal.0 1 (plain_brought older pairs.0))
  ]

-- so the streams of a device without credit have none
pub first_are_plain : (setting : Setting) → setting.most < 2 ^ 32 → setting.credit ≡ false → (h : History) → IsLegal h
    → IsJoined setting h → FirstArePlain h
first_are_plain setting short plain h legal tied = first_plain setting plain h legal (paired setting short h legal tied)
