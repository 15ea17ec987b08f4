-- Ids in rising order.
use Rattle.std.proofs.Common.{ℕ, ◌<◌, List, [], ◌∷◌, arith, inl, inr}
use Rattle.std.proofs.lemmas.Bool.Decides.{nat_tests}
use Rattle.std.specs.Ordering.{nat_cmp}
use Rattle.std.specs.List.Sorted.{IsStrictlySortedBy}
use Rattle.adb_hub_tables.specs.Tracked.{IsAmong}

-- ids behind the first are greater
pub above : (l q : ℕ) (ids : List ℕ) → IsStrictlySortedBy nat_cmp (l ∷ ids) → IsAmong q ids → l < q
unfolding IsStrictlySortedBy
above l q [] rises among = absurd among
above l q (x ∷ ids) rises (inl is) = grind (arith, nat_tests, rises.0.0, is)
above l q (x ∷ ids) rises (inr later) = above l q ids (rises.0.1, rises.1.1) later

pub rises_behind : (l : ℕ) (ids : List ℕ) → IsStrictlySortedBy nat_cmp (l ∷ ids) → IsStrictlySortedBy nat_cmp ids
unfolding IsStrictlySortedBy
rises_behind l ids rises = rises.1
