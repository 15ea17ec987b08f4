-- The views of the two ends of a pipe, and the effect of each call on them.
use Rattle.std.specs.Prelude.{ℕ, ◌≡◌, Bool, true, false, List, [], ◌∷◌, ◌++◌, Option, Some, None, Result, Ok, Err, ⊤}
use Rattle.atomic_table.specs.Seated.{TableId}
use Rattle.atomic_table.specs.declared.badge.Badge.{Badge}
use Rattle.crossbeam_channel.specs.declared.flavors.array.Key.{Key}
use Rattle.adb_pipe.specs.declared.rule.Item.{Item}
use Rattle.adb_outside.specs.Outside.{counted_on}
use Rattle.adb_pipe.specs.declared.ends.NotPut.{NotPut}
use Rattle.adb_pipe.specs.declared.ends.NotPut.TheVariants.{Full, Refused}
use Rattle.adb_pipe.specs.declared.ends.Taken.{Taken}
use Rattle.adb_pipe.specs.declared.ends.Taken.TheVariants.{Chunk, End, Lost}

-- the identity of a pipe
pub record PipeId : Type 0 where
  pub table : TableId
  pub key : Badge (Key Item)

-- a finished output end: its pipe, and the chunks that were put
pub record EndView : Type 0 where
  pub pipe : PipeId
  pub put : List (List ℕ)

-- the output end: its pipe, how many items the pipe holds at most, the chunks that were put, and how many were refused
pub record OutView : Type 0 where
  pub pipe : PipeId
  pub room : ℕ
  pub put : List (List ℕ)
  pub refused : ℕ

-- the input end: its pipe, the chunks that were taken, whether the end mark was taken, and how many calls answered `Lost`
pub record InView : Type 0 where
  pub pipe : PipeId
  pub taken : List (List ℕ)
  pub ended : Bool
  pub lost : ℕ

-- the two ends of a new pipe
abbrev pub Begins : ℕ → OutView → InView → Type 0
Begins chunks out input =
    (out ≡ record { pipe = input.pipe; room = chunks; put = []; refused = 0 })
    × (input ≡ record { pipe = input.pipe; taken = []; ended = false; lost = 0 })

-- a chunk was put, or was refused and returned
abbrev pub Puts : OutView → List ℕ → Result ⊤ (List ℕ) → OutView → Type 0
Puts old chunk (Ok done) new = new ≡ record old { put = old.put ++ chunk ∷ [] }
Puts old chunk (Err back) new = (back ≡ chunk) × (new ≡ record old { refused = counted_on old.refused })

-- the same without waiting, or the pipe was full, and the chunk was returned
abbrev pub PutsNow : OutView → List ℕ → Result ⊤ NotPut → OutView → Type 0
PutsNow old chunk (Ok done) new = Puts old chunk (Ok done) new
PutsNow old chunk (Err (Full back)) new = (back ≡ chunk) × (new ≡ old)
PutsNow old chunk (Err (Refused back)) new = Puts old chunk (Err back) new

-- a chunk was taken, or the end mark, or nothing; nothing is taken after the end mark
abbrev pub Takes : InView → Taken → InView → Type 0
Takes old (Chunk bytes) new = (old.ended ≡ false) × (new ≡ record old { taken = old.taken ++ bytes ∷ [] })
Takes old End new = (old.ended ≡ false) × (new ≡ record old { ended = true })
Takes old Lost new = new ≡ record old { lost = counted_on old.lost }

-- the same without waiting, or the pipe held nothing
abbrev pub TakesNow : InView → Option Taken → InView → Type 0
TakesNow old (Some taken) new = Takes old taken new
TakesNow old None new = new ≡ old
