-- A shelf whose row was lent.
use Rattle.std.proofs.Common.{ℕ, ◌≡◌, List, length, Option, Some, None, refl, sym, ◌∙◌, ap, subst, arith}
use Rattle.std.specs.Prelude.{IsSome}
use Rattle.std.specs.BTreeMap.{is_at}
use Rattle.std.specs.Map.{set_value}
use Rattle.std.specs.Ordering.{nat_cmp}
use Rattle.std.proofs.lemmas.List.{set-get_or}
use Rattle.adb_rows.specs.declared.shelf.Shelf.{Shelf}
use Rattle.adb_rows.specs.declared.slots.Slot.{Slot}
use Rattle.adb_rows.specs.Lending.{slot_at, with_row_in}
use Rattle.adb_rows.specs.Slots.{HasRowAt, IsSound, RisesFrom, count_of, row_at, rows_of, with_row_at}
use Rattle.adb_rows.proofs.Places.{row_there, set_there, stands_within}
use Rattle.adb_rows.proofs.Changes.{put_count, put_rises, write_is}

module _ {X : Type 0} where
  -- a shelf with the slots of a sound one
  pub still : (was now : Shelf X) → now.slots ≡ was.slots → now.live ≡ was.live → IsSound was → IsSound now
  still was now slots live sound = record {
    rises = subst (λ (s : _). RisesFrom 0 s.items) (sym slots) sound.rises;
    live = live ∙ sound.live ∙ ap (λ (s : _). length (rows_of s.items)) (sym slots);
  }

  pub still_has : (n place : ℕ) (was now : Shelf X) → now.slots ≡ was.slots → HasRowAt n was.slots.items place
      → HasRowAt n now.slots.items place
  still_has n place was now slots has = subst (λ (s : _). HasRowAt n s.items place) (sym slots) has

  counts_one : (row : Option X) → IsSome row → count_of row ≡ 1
  counts_one None clash = cc
  counts_one (Some x) some = refl

module _ {X : Type 0} (n place : ℕ) (shelf : Shelf X) (has : HasRowAt n shelf.slots.items place) where
  items_are : (row : Option X) → (with_row_in shelf place row).slots.items ≡ with_row_at place row shelf.slots.items
  items_are row = set_there place shelf.slots.items (record { number = 0; row = None }) row (stands_within n shelf.slots.items place has.0)

  row_is : (slot_at shelf place).row ≡ row_at place shelf.slots.items
  row_is = row_there place shelf.slots.items (record { number = 0; row = None }) (stands_within n shelf.slots.items place has.0)

  sound_with : (row : Option X) → count_of row ≡ count_of (row_at place shelf.slots.items) → IsSound shelf
      → IsSound (with_row_in shelf place row)
  sound_with row same sound = record {
    rises = subst (RisesFrom 0) (sym (items_are row)) (put_rises 0 shelf.slots.items place row sound.rises);
    live =
        let counted = put_count n shelf.slots.items place row has.0 in
        let shown = ap (λ (l : List (Slot X)). length (rows_of l)) (items_are row) in
        omega (arith, sound.live, counted, shown, same);
  }

  pub lent_sound : (w : X) → IsSound shelf → IsSound (with_row_in shelf place (Some w))
  lent_sound w = sound_with (Some w) (sym (counts_one (row_at place shelf.slots.items) has.1))

  pub unlent_sound : IsSound shelf → IsSound (with_row_in shelf place (slot_at shelf place).row)
  unlent_sound = sound_with (slot_at shelf place).row (ap count_of row_is)

  pub lent_rows : (w : X) → IsSound shelf
      → rows_of (with_row_in shelf place (Some w)).slots.items ≡ set_value (is_at (nat_cmp n)) (rows_of shelf.slots.items) w
  lent_rows w sound = ap rows_of (items_are (Some w)) ∙ written (row_at place shelf.slots.items) refl has.1
    where
      written : (row : Option X) → row_at place shelf.slots.items ≡ row → IsSome row
          → rows_of (with_row_at place (Some w) shelf.slots.items) ≡ set_value (is_at (nat_cmp n)) (rows_of shelf.slots.items) w
      written None is clash = cc
      written (Some old) is some = write_is 0 n shelf.slots.items place w old sound.rises has.0 is

  pub unlent_rows : rows_of (with_row_in shelf place (slot_at shelf place).row).slots.items ≡ rows_of shelf.slots.items
  unlent_rows = ap rows_of (set-get_or shelf.slots.items place (record { number = 0; row = None }))
