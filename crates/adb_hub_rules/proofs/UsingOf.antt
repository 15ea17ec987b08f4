-- What a rule for the stream of an id leaves of the places.
use Rattle.std.proofs.Common.{ℕ, ◌+◌, ◌≡◌, ◌≤◌, Option, Some, None, subst, arith}
use Rattle.adb_outside.specs.Tables.{at}
use Rattle.adb_stream.specs.declared.row.Stream.{Stream}
use Rattle.adb_hub_tables.specs.declared.tables.Tables.{Tables}
use Rattle.adb_hub_tables.specs.Places.{Uses}
use Rattle.adb_hub_rules.specs.Handing.{UsesOf}
use Rattle.adb_hub_tables.proofs.Using.{more_room, uses_then}

nothing_before : (k : ℕ) → 0 + k ≡ k
nothing_before k = omega arith

module _ {old new : Tables} where
  -- a rule that takes fewer places
  pub uses_more : {link client slices : ℕ} (a b : ℕ) → a ≤ b → Uses link a client slices old new → Uses link b client slices old new
  uses_more {link} a b le h = record {
    on_link = λ n room. h.on_link n (more_room (n + b) (n + a) (at link old.links.entries) (omega (arith, le)) room);
    on_links = h.on_links;
    of_client = h.of_client;
    of_clients = h.of_clients;
    counted = h.counted;
    tracked = h.tracked;
    owned = h.owned;
    held = h.held;
    read = h.read;
  }

  -- and one that takes none
  pub spares_of : (row : Option Stream) (k c : ℕ) → ((t c : ℕ) → Uses t 0 c 0 old new) → UsesOf row k c 0 old new
  spares_of None k c h = λ t. h t c
  spares_of (Some stream) k c h = uses_more 0 k (omega arith) (h stream.link c)

-- and one behind it
pub spared_then : (old middle new : Tables) (row : Option Stream) (k c : ℕ) → ((t c : ℕ) → Uses t 0 c 0 old middle)
    → UsesOf row k c 0 middle new → UsesOf row k c 0 old new
spared_then old middle new None k c h then = λ t. uses_then (h t c) (then t)
spared_then old middle new (Some stream) k c h then = subst (λ (q : ℕ). Uses stream.link q c 0 old new)
    (nothing_before k) (uses_then (h stream.link c) then)
