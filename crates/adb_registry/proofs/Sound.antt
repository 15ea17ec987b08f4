-- What every registry keeps, when a row is put, changed or removed.
use Rattle.std.proofs.Common.{ℕ, ◌≡◌, ◌≢◌, ◌≤◌, ◌<◌, ◌+◌, ◌^◌, ◌-◌, ◌==◌, ◌&&◌, nat_lt, nat_le, Bool, true, false, cond, List, length}
use Rattle.std.proofs.Common.{Option, Some, None, ◌⊎◌, inl, inr}
use Rattle.std.proofs.Common.{refl, sym, ◌∙◌, ap, subst, arith}
use Rattle.std.specs.Prelude.{option_map, is_some}
use Rattle.std.proofs.lemmas.Bool.{cases_eq}
use Rattle.std.proofs.lemmas.Bool.Decides.{nat_tests}
use Rattle.adb_outside.specs.Bytes.{is_graphic}
use Rattle.adb_outside.specs.Tables.{at, IsRising, Puts, change_at}
use Rattle.adb_outside.specs.Serial.{is_serial}
use Rattle.adb_outside.specs.declared.identity.Identity.{Identity}
use Rattle.adb_outside.specs.declared.kinds.Kind.{Kind}
use Rattle.adb_outside.specs.declared.serial.TheConstants.{MAX_SERIAL}
use Rattle.adb_outside.proofs.TableLaws.{puts_is}
use Rattle.adb_registry.specs.Row.{new_row, online_row, unauthorized_row}
use Rattle.adb_registry.specs.Registry.{DeviceTable, IsRowAt, IsSound, attach_refusal, changed}
use Rattle.adb_registry.specs.declared.registry.AttachError.TheVariants.{Numbers, Full, BadSerial}
use Rattle.adb_registry.specs.declared.row.Row.{Row}
use Rattle.adb_registry.specs.declared.registry.TheConstants.{MAX_DEVICES, MAX_FEATURES}

-- a serial is short
serial_le : (serial : List ℕ) → is_serial serial ≡ true → length serial ≤ MAX_SERIAL
serial_le serial is = go (nat_lt 0 (length serial)) (nat_le (length serial) MAX_SERIAL) refl is
  where
    go : (some short : Bool) → nat_le (length serial) MAX_SERIAL ≡ short → (some && short && is_graphic serial) ≡ true
        → length serial ≤ MAX_SERIAL
    go true true e h = grind (arith, nat_tests)
    go true false e h = let clash : false ≡ true = h in cc
    go false short e h = let clash : false ≡ true = h in cc

-- One row of sound devices is put or removed, and what is put may stand there.
pub record PutsRow (id : ℕ) (row : Option Row) (old new : DeviceTable) : Type 0 where
  pub sound : IsSound old
  pub drawn : (old.drawn ≤ new.drawn) × (new.drawn < 2 ^ 32)
  pub rises : IsRising new.rows
  pub few : length new.rows ≤ MAX_DEVICES
  pub puts : Puts id row old.rows new.rows
  pub stands : (r : Row) → row ≡ Some r → IsRowAt new.drawn id r

pub sound_puts : (id : ℕ) (row : Option Row) (old new : DeviceTable) → PutsRow id row old new → IsSound new
sound_puts id row old new h = record { drawn = h.drawn.1; rises = h.rises; few = h.few; each = λ q r is. go q r is (cases_eq q id) }
  where
    go : (q : ℕ) (r : Row) → at q new.rows ≡ Some r → (q ≡ id) ⊎ (q ≡ id → ⊥) → IsRowAt new.drawn q r
    go q r is (inl same) =
        let here : row ≡ Some r = sym h.puts.here ∙ (ap (λ (k : ℕ). at k new.rows) (sym same) ∙ is) in
        subst (λ (k : ℕ). IsRowAt new.drawn k r) (sym same) (h.stands r here)
    go q r is (inr apart) =
        let was = h.sound.each q r (sym (h.puts.others q apart) ∙ is) in
        let to : q ≤ new.drawn = omega (arith, was.to, h.drawn) in
        record {
          own = was.own;
          from = was.from;
          to = to;
          serial = was.serial;
          short = was.short;
          features = was.features;
          version = was.version;
          maxdata = was.maxdata;
        }

-- One row of sound devices is changed alone.
pub record ChangesAlone (id : ℕ) (f : Row → Row) (old new : DeviceTable) : Type 0 where
  pub sound : IsSound old
  pub drawn : new.drawn ≡ old.drawn
  pub rises : IsRising new.rows
  pub puts : Puts id (option_map f (at id old.rows)) old.rows new.rows

pub sound_changes : (id : ℕ) (f : Row → Row) (old new : DeviceTable) → ChangesAlone id f old new → length new.rows ≡ length old.rows
    → ((r : Row) → IsRowAt old.drawn id r → IsRowAt old.drawn id (f r)) → IsSound new
sound_changes id f old new h as_many stands =
    sound_puts id (option_map f (at id old.rows)) old new (record {
      sound = h.sound;
      drawn = (omega (arith, h.drawn), omega (arith, h.drawn, h.sound.drawn));
      rises = h.rises;
      few = omega (arith, as_many, h.sound.few);
      puts = h.puts;
      stands = λ r is. go (at id old.rows) refl r is;
    })
  where
    go : (o : Option Row) → at id old.rows ≡ o → (r : Row) → option_map f o ≡ Some r → IsRowAt new.drawn id r
    go None was r is = let clash : None ≡ Some r = is in cc
    go (Some row) was r is =
        let same : f row ≡ r = cc in
        let changed_row = subst (λ (k : Row). IsRowAt old.drawn id k) same (stands row (h.sound.each id row was)) in
        subst (λ (d : ℕ). IsRowAt d id r) (sym h.drawn) changed_row

-- What a row becomes may stand where it stood.
module _ {drawn id : ℕ} (row : Row) (is : IsRowAt drawn id row) where
  pub online_stands : (identity : Identity) (version maxdata : ℕ)
      → (length identity.features ≤ MAX_FEATURES) × (version < 2 ^ 32) × (maxdata < 2 ^ 32)
      → IsRowAt drawn id (online_row identity version maxdata row)
  online_stands identity version maxdata fits = record {
    own = is.own;
    from = is.from;
    to = is.to;
    serial = is.serial;
    short = is.short;
    features = fits.0;
    version = fits.1;
    maxdata = fits.2;
  }

  pub unauthorized_stands : IsRowAt drawn id (unauthorized_row row)
  unauthorized_stands = record {
    own = is.own;
    from = is.from;
    to = is.to;
    serial = is.serial;
    short = is.short;
    features = is.features;
    version = is.version;
    maxdata = is.maxdata;
  }

-- what is left is the devices with that row changed
pub changes_is : (id : ℕ) (f : Row → Row) (old new : DeviceTable) → ChangesAlone id f old new → new ≡ changed id f old
changes_is id f old new h =
    let row : Option Row = option_map f (at id old.rows) in
    let rows : new.rows ≡ change_at id f old.rows = puts_is id row old.rows new.rows h.sound.rises h.rises h.puts in
    λ i. record { drawn = h.drawn i; rows = rows i }

-- A row more: there was room.
pub one_more : (before : Option Row) (old new : ℕ) → new ≡ old + cond (is_some before) 0 1 → old < MAX_DEVICES → new ≤ MAX_DEVICES
one_more None old new grows room = omega arith
one_more (Some row) old new grows room = omega arith

-- A device that was just plugged in stands under its id.
pub new_row_at : (id : ℕ) (kind : Kind) (serial : List ℕ) (row : Row) → 0 < id → is_serial serial ≡ true
    → Some (new_row id kind serial) ≡ Some row → IsRowAt id id row
new_row_at id kind serial row from printed is =
    let same : new_row id kind serial ≡ row = cc in
    subst (λ (r : Row). IsRowAt id id r) same
    (record {
      own = refl;
      from = from;
      to = omega arith;
      serial = printed;
      short = serial_le serial printed;
      features = omega arith;
      version = omega arith;
      maxdata = omega arith;
    })

-- A device that is not refused gets an id and a place, and has a serial.
pub record IsTaken (devices : DeviceTable) (serial : List ℕ) : Type 0 where
  pub number : devices.drawn ≢ 2 ^ 32 - 1
  pub place : length devices.rows ≢ MAX_DEVICES
  pub graphic : is_serial serial ≡ true

pub not_refused : (devices : DeviceTable) (serial : List ℕ) → attach_refusal devices serial ≡ None → IsTaken devices serial
not_refused devices serial none = by_number (devices.drawn == 2 ^ 32 - 1) refl none
  where
    by_serial : (b : Bool) → is_serial serial ≡ b → cond b None (Some BadSerial) ≡ None → is_serial serial ≡ true
    by_serial true is none = is
    by_serial false is none = let clash : Some BadSerial ≡ None = none in cc

    by_place : devices.drawn ≢ 2 ^ 32 - 1 → (b : Bool) → (length devices.rows == MAX_DEVICES) ≡ b
        → cond b (Some Full) (cond (is_serial serial) None (Some BadSerial)) ≡ None → IsTaken devices serial
    by_place number true is none = let clash : Some Full ≡ None = none in cc
    by_place number false is none = record {
      number = number;
      place = grind (arith, nat_tests, is);
      graphic = by_serial (is_serial serial) refl none;
    }

    by_number : (b : Bool) → (devices.drawn == 2 ^ 32 - 1) ≡ b
        → cond b (Some Numbers)
        (cond (length devices.rows == MAX_DEVICES) (Some Full) (cond (is_serial serial) None (Some BadSerial)))
        ≡ None
        → IsTaken devices serial
    by_number true is none = let clash : Some Numbers ≡ None = none in cc
    by_number false is none = by_place (grind (arith, nat_tests, is)) (length devices.rows == MAX_DEVICES) refl none
