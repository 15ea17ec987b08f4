-- What a set of ports is seen as.
use Rattle.std.specs.Prelude.{ℕ, Bool, List}
use Rattle.std.specs.List.{list_any}
use Rattle.std.specs.Ordering.{nat_cmp}
use Rattle.std.specs.BTreeMap.{is_at}

-- whether a port is among them
abbrev pub is_open : List ℕ → ℕ → Bool
is_open ports port = list_any (is_at (nat_cmp port)) ports
