-- What rises in a stream: what was told of it and what its client holds are together what the client wrote.
use Rattle.std.specs.Prelude.{ℕ, ◌≡◌, ◌≤◌, List, ◌++◌, Some, None}
use Rattle.adb_outside.specs.Bytes.{IsPrefixOf}
use Rattle.adb_stream.specs.declared.row.Stream.{Stream}
use Rattle.adb_history.specs.Rows.{State}
use Rattle.adb_history.specs.Events.{Event, ending_in}
use Rattle.adb_history.specs.declared.ending.Ending.TheVariants.{ClientClosed}
use Rattle.adb_laws_fifo_up.specs.Seen.{Seen, Sees, IsOf}
use Rattle.adb_laws_fifo_up.specs.Climbing.{carried}

-- of a stream that was born, on this link, for this client, which wrote that much
pub record Rises (l t c : ℕ) (rest : List ℕ) (s : State) (w : List Event) : Type 0 where
  pub born : l ≤ s.drawn
  pub mine : (y : Stream) → s.streams l ≡ Some y → (y.link ≡ t) × (y.client ≡ c)
  pub only : (n : ℕ) (v : Seen) → Sees (s.clients n) v → IsOf l v.phase → n ≡ c
  pub held : (v : Seen) → Sees (s.clients c) v → IsOf l v.phase → (ending_in l w ≡ None) × (carried t l w ++ v.held ≡ rest)
  pub front : IsPrefixOf (carried t l w) rest
  pub whole : ending_in l w ≡ Some ClientClosed → carried t l w ≡ rest
