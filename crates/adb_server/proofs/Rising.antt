-- Counts of faults over several calls.
use Rattle.std.proofs.Common.{ℕ, ◌≤◌, inl, inr, arith}
use Rattle.adb_outside.specs.Outside.{Rises}

-- A count that rose has risen since any earlier moment.
pub rises_since : (first then now : ℕ) → first ≤ then → Rises then now → Rises first now
rises_since first then now before (inl less) = inl (omega (arith, before, less))
rises_since first then now before (inr last) = inr last
