-- What is seen of a stream at its birth.
use Rattle.std.specs.Prelude.{None, ℕ, ◌≡◌, ◌+◌, ◌<◌, false, List, [], ◌∷◌, ◌++◌, length, Some}
use Rattle.adb_stream.specs.Flow.{new_flow}
use Rattle.adb_stream.specs.Stream.{new_stream}
use Rattle.adb_client.specs.declared.phase.Phase.TheVariants.{Opening}
use Rattle.adb_capture.specs.declared.entry.Entry.{Entry}
use Rattle.adb_history.specs.Machine.{History}
use Rattle.adb_history.specs.Streams.{stream_ids}
use Rattle.adb_history.specs.Births.{Birth, births, births_at}
use Rattle.adb_laws_fifo_down.specs.Line.{Line, View, seen}
use Rattle.adb_laws_fifo_down.specs.Life.{Cradle}
use Rattle.adb_laws_fifo_down.specs.Turns.{Turns}
use Rattle.adb_laws_fifo_down.specs.Follows.{PromiseOf}

-- a stream that was asked for just now, and its client waits for it
abbrev pub newborn : Line → Cradle → List ℕ → View
newborn b k due = record {
  stream = Some (seen (new_stream b.id b.client b.link (new_flow k.credit)));
  client = Some (record { phase = Opening b.id; forwarded = k.forwarded; due = due });
  output = k.replies;
  okays = [];
  ending = None;
}

-- What is to be shown of a promise: that it holds at the birth of a stream, and is kept at each turn after it.
pub record Lasts (P : PromiseOf) : Type 0 where
  pub begins : (b : Line) (k : Cradle) (out due : List ℕ) → k.replies ≡ out ++ due → P b k [] false out (newborn b k due)
  pub turns : (b : Line) (k : Cradle) → Turns b (P b k)

-- a stream is born by an entry
pub record IsBornNow (l : ℕ) (b : Birth) (e : Entry) (older : History) : Type 0 where
  pub number : l ≡ length (births older) + 1
  pub within : length (births older) < stream_ids
  pub is : births_at e older ≡ b ∷ []
