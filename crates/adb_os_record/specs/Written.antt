-- The bytes that go through a pipe to a sink.
use Rattle.std.specs.Prelude.{ℕ, ◌≡◌, Bool, true, false, List, ◌++◌, flat_map, Option, Some, None}
use Rattle.adb_outside.specs.Bytes.{IsPrefixOf}
use Rattle.adb_outside.specs.Outside.{Rises}
use Rattle.adb_pipe.specs.Ends.{PipeId}
use Rattle.adb_os_record.specs.declared.writing.Next.{Next}
use Rattle.adb_os_record.specs.declared.writing.Next.TheVariants.{More, Chunk, End}

-- a sink over a pipe: its pipe, the chunks that it put, and how often it failed
pub record PipeSinkView : Type 0 where
  pub pipe : PipeId
  pub put : List (List ℕ)
  pub faults : ℕ

-- the bytes of chunks, in order
abbrev pub joined : List (List ℕ) → List ℕ
joined chunks = flat_map (λ c. c) chunks

-- bytes, and the chunk that follows them, if it was taken
abbrev pub with_next : List ℕ → Next → List ℕ
with_next bytes More = bytes
with_next bytes (Chunk chunk) = bytes ++ chunk
with_next bytes End = bytes

-- the same of a batch that may go on
abbrev pub with_left : List ℕ → Option Next → List ℕ
with_left bytes None = bytes
with_left bytes (Some next) = with_next bytes next

-- A text was written to a sink after the bytes `had`, or a prefix of it if a write failed. The sink's count of faults was `first`.
pub record GoesOut (had : List ℕ) (first : ℕ) (torn : Bool) (written : Option (List ℕ)) (count : ℕ) (text : List ℕ) : Type 0 where
  pub growth : List ℕ
  pub is : written ≡ Some (had ++ growth)
  pub front : IsPrefixOf growth text
  pub whole : torn ≡ false → growth ≡ text
  pub rose : torn ≡ true → Rises first count
  pub stands : torn ≡ false → count ≡ first

-- A prefix of a text was written after the bytes `had`, and all of it if `whole`.
pub record Settles (had : List ℕ) (written : Option (List ℕ)) (whole : Bool) (text : List ℕ) : Type 0 where
  pub growth : List ℕ
  pub is : written ≡ Some (had ++ growth)
  pub front : IsPrefixOf growth text
  pub all : whole ≡ true → growth ≡ text
