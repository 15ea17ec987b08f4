-- What an entry makes of the streams by which one may be born.
use Rattle.std.specs.Prelude.{ℕ, ◌+◌, ◌^◌, ◌≡◌, ◌≢◌, ◌<◌, ◌⊎◌, All, List, [], ◌∷◌, ◌++◌, Option, Some}
use Rattle.adb_outside.specs.Tables.{Rows, put_row}
use Rattle.adb_stream.specs.Flow.{new_flow}
use Rattle.adb_stream.specs.Stream.{new_stream}
use Rattle.adb_stream.specs.declared.row.Stream.{Stream}
use Rattle.adb_history.specs.Events.{Made, Event, due_to_link}
use Rattle.adb_history.specs.Links.{open_packet}
use Rattle.adb_history.specs.Streams.{stream_ids}
use Rattle.adb_history.specs.Births.{Birth}
use Rattle.adb_laws_births.specs.Going.{GoOn, IsFrom, Goes}

-- the streams with the one that is drawn for a birth
abbrev pub with_drawn : ℕ → Birth → Rows (Option Stream) → Rows (Option Stream)
with_drawn drawn b streams = put_row (drawn + 1) (Some (new_stream (drawn + 1) b.client b.link (new_flow b.credit))) streams

-- A rule draws a stream for a birth: the others go on, its device is asked for it, and all other packets are those of open streams.
pub record Draws (streams : Rows (Option Stream)) (drawn : ℕ) (b : Birth) (m : Made) : Type 0 where
  pub rows : GoOn (with_drawn drawn b streams) m.state.streams
  pub drawn_is : m.state.drawn ≡ drawn + 1
  pub first : List Event
  pub check : ℕ
  pub word : check < 2 ^ 32
  pub last : List Event
  pub told_is : m.told ≡ first ++ due_to_link b.link (open_packet b.credit (drawn + 1) b.service) check ∷ last
  pub before : All (IsFrom streams) first
  pub after : All (IsFrom (with_drawn drawn b streams)) last

-- a stream is drawn for a birth, unless no id is left
abbrev pub Opens : Rows (Option Stream) → ℕ → Birth → Made → Type 0
Opens streams drawn b m = ((drawn ≡ stream_ids) × Goes streams drawn m) ⊎ ((drawn ≢ stream_ids) × Draws streams drawn b m)

-- what a rule makes by which these streams are born: one, or none
abbrev pub Makes : Rows (Option Stream) → ℕ → List Birth → Made → Type 0
Makes streams drawn [] m = Goes streams drawn m
Makes streams drawn (b ∷ []) m = Opens streams drawn b m
Makes streams drawn (b ∷ c ∷ births) m = ⊥
