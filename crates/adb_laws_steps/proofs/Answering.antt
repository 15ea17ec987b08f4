-- What a model device that began with nothing has made behind its packets, and makes behind more.
use Rattle.std.specs.Prelude.{ℕ, ◌+◌, ◌≡◌, ◌≤◌, Bool, true, false, All, List, [], ◌∷◌, ◌++◌, length}
use Rattle.std.specs.Prelude.{Some, None}
use Rattle.std.specs.List.Sorted.{IsStrictlySortedBy}
use Rattle.std.proofs.Common.{refl, sym, subst, arith}
use Rattle.std.proofs.lemmas.List.{append-nil}
use Rattle.std.proofs.lemmas.List.Elements.{All-nil, All-cons}
use Rattle.adb_outside.specs.Tables.{at, IsRising}
use Rattle.adb_wire.specs.declared.packets.Packet.{Packet}
use Rattle.adb_device_streams.specs.Stream.{Row}
use Rattle.adb_daemon.specs.Streams.{over_at}
use Rattle.adb_daemon.proofs.Machines.{step_more}
use Rattle.adb_daemon.specs.Device.{Setting, Device, own_cnxn, identity_text, first_device, device_behind}
use Rattle.adb_laws_steps.specs.Owed.{answer_tolls, IsFine, AsksFor, row_tolls, DeviceAnswersAlone}
use Rattle.adb_laws_steps.proofs.Serving.{IsUndrawn, Stands, behind_stands}

identity_short : (credit : Bool) → length (identity_text credit) ≤ 106
identity_short true = let size : length (identity_text true) ≡ 106 = refl in omega (arith, size)
identity_short false = let size : length (identity_text false) ≡ 95 = refl in omega (arith, size)

abbrev any : ℕ → Bool
any l = true

first_stands : (setting : Setting) → Stands any [] 130 0 (first_device setting).serving
unfolding IsStrictlySortedBy
first_stands setting = record {
  rises = tt;
  fresh = λ own undrawn. (refl, refl);
  apart = λ own row is. refl;
  more = own_cnxn setting ∷ [];
  is = refl;
  fine = All-cons (IsFine (λ l. true ≡ true)) (own_cnxn setting) [] (record { worth = tt; host = λ e. cc })
      (All-nil (IsFine (λ l. true ≡ true)));
  cost = (let short = identity_short setting.credit in omega (arith, short));
}

all_any : (packets : List Packet) → All (AsksFor any) packets
all_any [] = All-nil (AsksFor any)
all_any (p ∷ packets) = All-cons (AsksFor any) p packets (λ e. refl) (all_any packets)

whole : (setting : Setting) (packets : List Packet) → Stands any [] (130 + answer_tolls packets) 0 (device_behind setting packets).serving
whole setting packets = behind_stands any [] 130 setting packets (first_device setting) (all_any packets) (first_stands setting)

-- no id has both a row that lives and one that has ended, and those that have one were drawn
pub rows_apart : (setting : Setting) (packets : List Packet) (own : ℕ) (row : Row)
    → at own (device_behind setting packets).serving.rows ≡ Some row
    → over_at own (device_behind setting packets).serving.ended ≡ None
rows_apart setting packets own row is = (whole setting packets).apart own row is

pub none_undrawn : (setting : Setting) (packets : List Packet) (own : ℕ) → IsUndrawn (device_behind setting packets).serving.drawn own
    → (at own (device_behind setting packets).serving.rows ≡ None) × (over_at own (device_behind setting packets).serving.ended ≡ None)
none_undrawn setting packets own undrawn = (whole setting packets).fresh own undrawn

-- its rows rise, and each of its packets is worth its answer
pub rows_rise : (setting : Setting) (packets : List Packet) → IsRising (device_behind setting packets).serving.rows
rows_rise setting packets = (whole setting packets).rises

pub all_worth : (setting : Setting) (packets : List Packet) → All (IsFine (λ l. true ≡ true)) (device_behind setting packets).serving.made
all_worth setting packets = subst (All (IsFine (λ l. true ≡ true))) (sym (whole setting packets).is) (whole setting packets).fine

-- ---- behind some packets
pub answers_alone : (setting : Setting) → DeviceAnswersAlone setting
answers_alone setting q front more all = record {
  made = stands.more;
  is = stands.is;
  tolls = (let cost = stands.cost in omega (arith, cost));
  fine = stands.fine;
}
  where
    begins : Stands q (device_behind setting front).serving.made (row_tolls q (device_behind setting front).serving.rows) 0
        (device_behind setting front).serving
    begins = record {
      rises = rows_rise setting front;
      fresh = none_undrawn setting front;
      apart = rows_apart setting front;
      more = [];
      is = sym (append-nil (device_behind setting front).serving.made);
      fine = All-nil (IsFine (λ l. q l ≡ true));
      cost = omega arith;
    }

    stands : Stands q (device_behind setting front).serving.made
        (row_tolls q (device_behind setting front).serving.rows + answer_tolls more) 0
        (device_behind setting (front ++ more)).serving
    stands =
        subst (λ (d : Device). Stands q (device_behind setting front).serving.made
        (row_tolls q (device_behind setting front).serving.rows + answer_tolls more) 0 d.serving)
        (sym (step_more setting (first_device setting) front more))
        (behind_stands q (device_behind setting front).serving.made (row_tolls q (device_behind setting front).serving.rows) setting more
        (device_behind setting front) all begins)
