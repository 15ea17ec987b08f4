-- The packets that are due, in order.
use Rattle.std.specs.Prelude.{ℕ, ◌+◌, ◌*◌, ◌^◌, ◌≡◌, ◌<◌, ◌≤◌, List, length}
use Rattle.std.specs.List.{All, concat}
use Rattle.adb_wire.specs.declared.slicer.TheConstants.{MAX_PACKET}

-- due: the bytes that are still to be handed out; spare: how many packets more need no memory
pub record Queue : Type 0 where
  pub due : List ℕ
  pub spare : ℕ

-- No packet is empty, the bytes are counted, there are places for the packets and the spare ones, and the bytes of all of them can
-- be counted.
pub record IsBox (packets : List (List ℕ)) (owed spare used places : ℕ) : Type 0 where
  pub some : All (λ packet. 0 < length packet) packets
  pub counted : owed ≡ length (concat packets)
  pub placed : used + spare ≤ places
  pub countable : owed + MAX_PACKET * spare < 2 ^ 64
