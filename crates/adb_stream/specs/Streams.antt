-- What contracts see of the streams that live.
use Rattle.std.specs.Prelude.{ℕ, ◌≡◌, ◌<◌, ◌^◌, List, Option, Some, None, IsSome}
use Rattle.adb_outside.specs.Tables.{at, IsRising, put_at}
use Rattle.adb_stream.specs.Stream.{with_part, of_link, IsStreamAt}
use Rattle.adb_stream.specs.declared.row.Part.{Part}
use Rattle.adb_stream.specs.declared.row.Stream.{Stream}

-- how many ids were drawn, and the streams that live by their ids
pub record StreamTable : Type 0 where
  pub drawn : ℕ
  pub streams : List (ℕ × Stream)

-- what the streams of every server keep
pub record IsSound (table : StreamTable) : Type 0 where
  pub drawn : table.drawn < 2 ^ 32
  pub rises : IsRising table.streams
  pub each : (id : ℕ) (stream : Stream) → at id table.streams ≡ Some stream → IsStreamAt table.drawn id stream

-- the stream of an id, if it is one of that link
abbrev pub found : ℕ → ℕ → List (ℕ × Stream) → Option Stream
found link id streams = of_link link (at id streams)

-- This is the least id of a stream of the link.
pub record IsFirstOf (link : ℕ) (streams : List (ℕ × Stream)) (id : ℕ) : Type 0 where
  pub here : IsSome (found link id streams)
  pub least : (q : ℕ) → q < id → found link q streams ≡ None

-- No stream is one of the link.
abbrev pub HasNoneOf : ℕ → List (ℕ × Stream) → Type 0
HasNoneOf link streams = (q : ℕ) → found link q streams ≡ None

-- the streams with another part of one of them, which stands at an id
abbrev pub put_part_at : ℕ → Part → Option Stream → List (ℕ × Stream) → List (ℕ × Stream)
put_part_at id part None streams = streams
put_part_at id part (Some stream) streams = put_at id (with_part part stream) streams

-- the table with another part of the stream of a link and an id
abbrev pub with_part_in : ℕ → ℕ → StreamTable → Part → StreamTable
with_part_in link id table part =
    record table { streams = put_part_at id part (found link id table.streams) table.streams }
