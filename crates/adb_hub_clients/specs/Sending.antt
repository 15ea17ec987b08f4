-- What is made ready before bytes go up a stream.
use Rattle.std.specs.Prelude.{ℕ, ◌≤◌, Bool, false, length, Option, Some, None}
use Rattle.adb_client.specs.Client.{SeenClient}
use Rattle.adb_stream.specs.declared.flow.Flow.{Flow}
use Rattle.adb_stream.specs.Flow.{can_send}
use Rattle.adb_stream.specs.declared.row.Stream.{Stream}
use Rattle.adb_hub_tables.specs.Ready.{IsCut, up_writes}

-- What a client holds can go up at once, in at most so many writes.
pub record IsPrepared (writes : ℕ) (flow : Flow) (maxdata : ℕ) (client : SeenClient) : Type 0 where
  pub cut : IsCut flow 0 maxdata client
  pub within : up_writes flow 0 maxdata (length client.held) ≤ writes

abbrev pub IsPreparedAt : ℕ → Flow → ℕ → Option SeenClient → Type 0
IsPreparedAt writes flow maxdata None = Unit {0}
IsPreparedAt writes flow maxdata (Some client) = IsPrepared writes flow maxdata client

-- whether a stream lets anything be sent now
abbrev pub can_send_at : Option Stream → Bool
can_send_at None = false
can_send_at (Some stream) = can_send stream.part.flow
