-- How what is due to a client is kept.
use Rattle.std.specs.Prelude.{ℕ, ◌≡◌, ◌+◌, ◌*◌, ◌≤◌, ◌<◌, ◌^◌, List, [], ◌∷◌, ◌++◌, length, take, drop, All, sum_by}
use Rattle.std.specs.VecDeque.{deque_len, deque_capacity}
use Rattle.adb_client.specs.Output.{Outgoing}
use Rattle.adb_client.specs.declared.output.TheConstants.{MAX_SLICE}
use Rattle.adb_client.specs.declared.output.Output.TheInside.{Inside}
use Rattle.adb_client.specs.declared.slices.Slice.{Slice}

-- the own bytes, with each slice at its place among them
abbrev pub woven : List Slice → List ℕ → List ℕ
woven [] own = own
woven (slice ∷ slices) own = take slice.before own ++ (slice.bytes ++ woven slices (drop slice.before own))

-- how many own bytes stand before the last of the slices
abbrev pub own_before : List Slice → ℕ
own_before slices = sum_by (λ slice. slice.before) slices

-- how many bytes the slices hold
abbrev pub shared_len : List Slice → ℕ
shared_len slices = sum_by (λ slice. length slice.bytes) slices

abbrev pub outgoing : Inside → Outgoing
outgoing o = record { due = woven o.slices.items o.own.items; spare = o.spare; places = o.places }

-- No slice is empty, and the own bytes before the last one and the bytes of all are counted.
pub record IsCounted (slices : List Slice) (before shared : ℕ) : Type 0 where
  pub some : All (λ slice. 0 < length slice.bytes) slices
  pub own : before ≡ own_before slices
  pub bytes : shared ≡ shared_len slices

-- The own bytes before the slices are there; the reserved places lie behind the last own bytes, and behind the last slice, and the bytes of
-- all of these slices can be counted.
pub record IsQueue (o : Inside) : Type 0 where
  pub counted : IsCounted o.slices.items o.before o.shared
  pub within : o.before ≤ length o.own.items
  pub fits : o.shared + MAX_SLICE * o.places ≤ 2 ^ 63
  pub spare : o.spare ≤ o.own.spare
  pub room : deque_len o.slices + o.places ≤ deque_capacity o.slices
