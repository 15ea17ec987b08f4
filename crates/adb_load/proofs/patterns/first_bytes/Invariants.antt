use Rattle.std.proofs.Common.{◌≡◌}
use Rattle.adb_load.specs.Acts.{cycle}
use Rattle.adb_load.proofs.patterns.first_bytes.Given as goal

-- the bytes of the places so far
abbrev pub invariant-loop-place : goal.invariant-loop-place
invariant-loop-place l = l.bytes.items ≡ cycle 0 0 l.place
