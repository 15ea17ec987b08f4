-- What a client of a load asks is of bytes: its requests, the replies to them, and the service that it opens.
use Rattle.std.proofs.Common.{ℕ, ◌+◌, ◌%◌, ◌<◌, Bool, true, false, List, refl, sym, subst, arith}
use Rattle.std.specs.Prelude.{Option, Some, None, codes, nat_lt, Result, Ok, Err}
use Rattle.std.specs.Fmt.{digits}
use Rattle.std.specs.Map.{values_of}
use Rattle.std.proofs.Math.Nat.{mod-lt}
use Rattle.adb_outside.specs.Bytes.{AreBytes}
use Rattle.adb_outside.specs.Tables.{at}
use Rattle.adb_outside.specs.declared.kinds.Selector.TheVariants.{Id}
use Rattle.adb_registry.specs.Registry.{DeviceTable}
use Rattle.adb_registry.specs.Choice.{choice}
use Rattle.adb_registry.specs.declared.row.Row.{Row}
use Rattle.adb_registry.specs.declared.choice.Refusal.{Refusal}
use Rattle.adb_registry.specs.declared.choice.Refusal.TheVariants as why
use Rattle.adb_forward.specs.declared.row.ForwardRow.{ForwardRow}
use Rattle.adb_reply.specs.Strings.{failed}
use Rattle.adb_reply.specs.Refusals.{refusal_text}
use Rattle.adb_history.specs.Asking.{nothing_asked, asks_with}
use Rattle.adb_load.specs.Acts.{asked_of, link_of}
use Rattle.adb_load.proofs.Records.{literal_bytes}
use Rattle.adb_laws_loads.proofs.Asking.{by_link, echo, served_if, served_at, chosen_by, asked_reads}
use Rattle.adb_laws_loads.proofs.Texts.{no_bytes}
use Rattle.adb_laws_loads.proofs.TextSteps.{HasAskedTexts}

-- the reply by which the selection of a link's device is refused
abbrev refusal_of : ℕ → Refusal → List ℕ
refusal_of t w = (failed (refusal_text (Id t) w)).bytes

-- where no device is on the link
abbrev NoneIsOfBytes : ℕ → Type 0
NoneIsOfBytes t = AreBytes (refusal_of t why.NoId)

none_bytes : (n : ℕ) → n < 8 → NoneIsOfBytes (n + 1)
unfolding digits
none_bytes = by_link NoneIsOfBytes (literal_bytes (refusal_of 1 why.NoId) refl) (literal_bytes (refusal_of 2 why.NoId) refl)
    (literal_bytes (refusal_of 3 why.NoId) refl) (literal_bytes (refusal_of 4 why.NoId) refl) (literal_bytes (refusal_of 5 why.NoId) refl)
    (literal_bytes (refusal_of 6 why.NoId) refl) (literal_bytes (refusal_of 7 why.NoId) refl) (literal_bytes (refusal_of 8 why.NoId) refl)

refusal_bytes : (t : ℕ) → NoneIsOfBytes t → (w : Refusal) → AreBytes (refusal_of t w)
refusal_bytes t none why.NoAny = literal_bytes (refusal_of t why.NoAny) refl
refusal_bytes t none why.ManyAny = literal_bytes (refusal_of t why.ManyAny) refl
refusal_bytes t none why.NoUsb = literal_bytes (refusal_of t why.NoUsb) refl
refusal_bytes t none why.ManyUsb = literal_bytes (refusal_of t why.ManyUsb) refl
refusal_bytes t none why.NoLocal = literal_bytes (refusal_of t why.NoLocal) refl
refusal_bytes t none why.ManyLocal = literal_bytes (refusal_of t why.ManyLocal) refl
refusal_bytes t none why.NoSerial = literal_bytes (refusal_of t why.NoSerial) refl
refusal_bytes t none why.ManySerial = literal_bytes (refusal_of t why.ManySerial) refl
refusal_bytes t none why.NoId = none
refusal_bytes t none why.Offline = literal_bytes (refusal_of t why.Offline) refl
refusal_bytes t none why.Unauthorized = literal_bytes (refusal_of t why.Unauthorized) refl

served_texts : (id : ℕ) (row : Option Row) → HasAskedTexts (served_at id row)
served_texts id None = record { replies = literal_bytes (served_at id None).replies refl; rest = no_bytes; next = tt }
served_texts id (Some row) = go (nat_lt row.maxdata 6)
  where
    go : (full : Bool) → HasAskedTexts (served_if id full)
    go true = record { replies = literal_bytes (served_if id true).replies refl; rest = no_bytes; next = tt }
    go false = record { replies = literal_bytes (served_if id false).replies refl; rest = no_bytes; next = literal_bytes echo refl }

chosen_texts : (t : ℕ) (devices : DeviceTable) (r : Result ℕ Refusal) → NoneIsOfBytes t → HasAskedTexts (chosen_by t devices r)
chosen_texts t devices (Ok id) none = served_texts id (at id devices.rows)
chosen_texts t devices (Err w) none = record { replies = refusal_bytes t none w; rest = literal_bytes (codes "0005echo:") refl; next = tt }

-- What a client of a load asks first is of bytes, whatever the devices are.
pub asked_texts : (stream : ℕ) (devices : DeviceTable) (forwards : List (ℕ × ForwardRow))
    → HasAskedTexts (asks_with devices forwards (asked_of stream) nothing_asked)
asked_texts stream devices forwards = subst HasAskedTexts (sym (asked_reads stream devices forwards))
    (chosen_texts (link_of stream) devices (choice (values_of devices.rows) (Id (link_of stream)) true)
    (none_bytes (stream % 8) (mod-lt stream {m = 8} (omega arith))))
