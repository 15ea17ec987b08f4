use Rattle.std.proofs.Common.{◌≡◌, map}
use Rattle.adb_banner.specs.Banner.{last_value}
use Rattle.adb_banner.proofs.identity.find_last.Given as goal

abbrev pub invariant-loop-part : goal.invariant-loop-part
invariant-loop-part l = l.found ≡ last_value l.key (map (λ part. part.now) l.yielded)
