use Rattle.std.proofs.Common.{◌-◌, ◌≤◌, ◌≡◌, ◌≢◌, length, take}
use Rattle.std.specs.List.{AllWithin}
use Rattle.std.specs.declared.cmp.Ordering.TheVariants.{Less}
use Rattle.adb_files.specs.Paths.{path_cmp, inside}
use Rattle.adb_files.specs.Listing.{named, shown_in}
use Rattle.adb_files.proofs.listing.shown_in.Given as goal

abbrev pub invariant-loop-at : goal.invariant-loop-at
invariant-loop-at l = record {
  within : l.at ≤ length l.slots;
  others : AllWithin (λ entry. path_cmp entry.path (inside l.directory) ≢ Less) l.slots l.at (length l.slots);
  found : named l.found.entries ≡ shown_in l.directory (take l.at l.slots);
}

abbrev pub decreases-loop-at : goal.decreases-loop-at
decreases-loop-at l = length l.slots - l.at
