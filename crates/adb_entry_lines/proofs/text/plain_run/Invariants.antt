use Rattle.std.proofs.Common.{◌≡◌, take}
use Rattle.std.specs.List.{flat_map}
use Rattle.adb_entry_lines.specs.Text.{escaped}
use Rattle.adb_entry_lines.proofs.text.plain_run.Given as goal

abbrev pub invariant-loop-byte : goal.invariant-loop-byte
invariant-loop-byte l = record {
  place : l.run ≡ l.byte-index;
  plain : flat_map escaped (take l.byte-index l.bytes) ≡ take l.byte-index l.bytes;
}
