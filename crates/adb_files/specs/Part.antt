-- The parts of the answers.
use Rattle.std.specs.Prelude.{ℕ, ◌≢◌, List, [], ◌++◌, All}
use Rattle.std.specs.List.{flat_map}
use Rattle.adb_files.specs.declared.part.Part.{Part}
use Rattle.adb_files.specs.declared.part.Part.TheVariants as parts

-- the bytes of a part that were not taken yet
abbrev pub part_bytes : Part → List ℕ
part_bytes (parts.Spelled queue) = queue.bytes
part_bytes (parts.Pull bytes) = bytes

-- the bytes of parts and those behind them
abbrev pub queued : List Part → List ℕ → List ℕ
queued parts last = flat_map part_bytes parts ++ last

-- something is left of each part
abbrev pub NoneIsEmpty : List Part → Type 0
NoneIsEmpty parts = All (λ part. part_bytes part ≢ []) parts
