-- Fronts of packets, and the slices that they become.
use Rattle.std.proofs.Common.{ℕ, ◌≡◌, ◌≤◌, ◌+◌, ◌-◌, List, [], ◌∷◌, ◌++◌, length, Option, Some, None, Ok, sym, ◌∙◌, ap, subst, refl, arith}
use Rattle.std.proofs.lemmas.List.{length-append}
use Rattle.bytes.specs.Filled.{Filled}
use Rattle.adb_wire.specs.declared.headers.Head.{Head}
use Rattle.adb_wire.specs.declared.headers.TheConstants.{HEADER_LEN}
use Rattle.adb_wire.specs.Header.{head_at}
use Rattle.adb_wire.specs.Format.{packet_len}
use Rattle.adb_wire.specs.FormatLaws.{head_same}
use Rattle.adb_wire.specs.Slicing.{headed_len, slice_len, need_of, IsSlice, HasSliced}
use Rattle.adb_wire.proofs.Slices.{slice_headed, is_slice, goes_on}
use Rattle.adb_server_device_reader.specs.Packets.{IsFrontOf, IsAlone, held_of, Shares}

-- ---- a packet that gets memory of its own
pub front_begins : (head : Head) (held : List ℕ) (empty front : Filled) → HEADER_LEN ≡ length held
    → head_at held ≡ Ok head → empty.items ≡ []
    → packet_len head ≤ empty.spare → front.items ≡ empty.items ++ held → front.spare + length held ≡ empty.spare → IsFrontOf head front
front_begins head held empty front size read none room is left =
    let items : front.items ≡ held = is ∙ ap (λ (bs : List ℕ). bs ++ held) none in
    record {
      read = ap head_at items ∙ read;
      begun = omega (arith, size, ap length items);
      within = omega (arith, size, ap length items);
      room = omega (arith, room, left, ap length items);
    }

module _ (head : Head) (front : Filled) (h : IsFrontOf head front) where
  -- how long it is, and how much is missing to it
  pub front_slice : slice_len front.items ≡ packet_len head
  front_slice = slice_headed front.items h.begun ∙ ap headed_len h.read

  pub front_need : packet_len head - length front.items ≡ need_of front.items
  front_need = ap (λ (n : ℕ). n - length front.items) (sym front_slice)

  pub front_within : length front.items ≤ slice_len front.items
  front_within = omega (arith, h.within, front_slice)

  pub front_fits : (n : ℕ) → n ≤ need_of front.items → n ≤ front.spare
  front_fits n fits = omega (arith, fits, front_slice, h.room)

  pub front_grows : (more : List ℕ) (new : Filled) → length more ≤ need_of front.items → new.items ≡ front.items ++ more
      → new.spare + length more ≡ front.spare → IsFrontOf head new
  front_grows more new fits is left =
      let size : length new.items ≡ length front.items + length more = ap length is ∙ length-append front.items more in
      record {
        read = ap head_at is ∙ (head_same front.items more h.begun ∙ h.read);
        begun = omega (arith, size, h.begun);
        within = omega (arith, size, fits, front_slice, h.within);
        room = omega (arith, size, left, h.room);
      }

  -- where it is whole
  pub front_is_slice : need_of front.items ≡ 0 → IsSlice front.items
  front_is_slice none = is_slice front.items front_within none

  pub front_long : need_of front.items ≡ 0 → length front.items ≡ packet_len head
  front_long none = omega (arith, none, front_slice, h.within)

-- ---- packets and what the slicer holds
pub shares : (front : List ℕ) → length front ≤ slice_len front → need_of front ≡ 0 → Shares front [] front
shares front within none = record { given = refl; empty = refl; slice = is_slice front within none; stands = goes_on front within none }

-- What is held goes, and where it was whole it was the next slice.
abbrev pub Clears : List ℕ → List ℕ → Type 0
Clears old new = (fed : List ℕ) (gave : List (List ℕ)) → need_of old ≡ 0 → HasSliced fed gave old → HasSliced fed (gave ++ old ∷ []) new

pub clears : (own : Option (List ℕ)) (held new : List ℕ) → IsAlone own held → new ≡ [] → Clears held new → Clears (held_of own held) new
clears None held new alone none stands = stands
clears (Some front) held new alone none stands = λ fed gave whole h.
    subst (HasSliced fed (gave ++ front ∷ [])) (sym none) (goes_on front alone.1 whole fed gave h)
