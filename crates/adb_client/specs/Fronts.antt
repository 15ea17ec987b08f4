-- How the first bytes that are held are cut ahead.
use Rattle.std.specs.Prelude.{◌≡◌, ◌+◌, ◌≤◌, ◌<◌, ◌^◌, ◌++◌, length}
use Rattle.adb_client.specs.Input.{Ahead}
use Rattle.adb_client.specs.declared.fronts.Fronts.TheInside.{Inside}

-- the bytes of the first slice, and those of the second
abbrev pub ahead : Inside → Ahead
ahead i = record { bytes = i.first.bytes ++ i.second.bytes; ready = i.ready; cuts = i.cuts }

-- All can be counted; what is ready was cut ahead; nothing stands behind a first slice that is empty; and as long as
-- bytes of a slice are ready, there are
-- handles of it for the cuts.
pub record IsAhead (i : Inside) : Type 0 where
  pub bounded : length i.first.bytes + length i.second.bytes < 2 ^ 63
  pub ready : i.ready ≤ length i.first.bytes + length i.second.bytes
  pub order : length i.first.bytes ≡ 0 → length i.second.bytes ≡ 0
  pub first : 0 < i.ready → i.cuts ≤ i.first.handles
  pub second : length i.first.bytes < i.ready → i.cuts ≤ i.second.handles
