-- The rule of a pipe: the items that its channel holds, and the views of its two ends.
use Rattle.std.specs.Prelude.{ℕ, ◌≡◌, true, false, if◌then◌else◌, List, [], ◌∷◌, ◌++◌, map}
use Rattle.adb_pipe.specs.declared.rule.Item.{Item}
use Rattle.adb_pipe.specs.declared.rule.Item.TheVariants.{Chunk, End}
use Rattle.adb_pipe.specs.declared.rule.Passed.{Passed}
use Rattle.adb_pipe.specs.declared.rule.View.{View}
use Rattle.adb_pipe.specs.declared.rule.View.TheVariants.{Uncut, Putter, Taker, Both, Spent}

-- the items that passed an end: its chunks, and the end mark after them if it passed
abbrev pub items_of : Passed → List Item
items_of p = map Chunk p.chunks ++ (if p.ended then End ∷ [] else [])

-- The pipe is in order: the items that were put are those that were taken, followed by those that the channel holds. There are at most
-- two ends, and the output end is the first.
abbrev pub IsInOrder : List Item → List View → Type 0
IsInOrder items (Uncut ∷ []) = items ≡ []
IsInOrder items (Putter put ∷ Taker taken ∷ []) = items_of put ≡ items_of taken ++ items
IsInOrder items (Both b ∷ Spent ∷ []) = items_of b.put ≡ items_of b.taken ++ items
IsInOrder items _ = ⊥

-- no chunk and no end mark
abbrev pub nothing : Passed
nothing = record { chunks = []; ended = false }

-- the items that passed an end
abbrev pub passed : View → Passed
passed Uncut = nothing
passed (Putter put) = put
passed (Taker taken) = taken
passed (Both b) = b.put
passed Spent = nothing

-- no end mark passed an end
abbrev pub IsOpen : View → Type 0
IsOpen v = (passed v).ended ≡ false

-- the output end that put these chunks and no end mark
abbrev pub open_putter : List (List ℕ) → View
open_putter chunks = Putter (record { chunks = chunks; ended = false })

-- with one item more
abbrev pub with_item : Passed → Item → Passed
with_item p (Chunk bytes) = record p { chunks = p.chunks ++ bytes ∷ [] }
with_item p End = record p { ended = true }

-- the view of an end after one more item passed it
abbrev pub moved : View → Item → View
moved Uncut item = Uncut
moved (Putter put) item = Putter (with_item put item)
moved (Taker taken) item = Taker (with_item taken item)
moved (Both b) item = Both b
moved Spent item = Spent

-- the chunks among items
abbrev pub chunks_in : List Item → List (List ℕ)
chunks_in [] = []
chunks_in (Chunk bytes ∷ items) = bytes ∷ chunks_in items
chunks_in (End ∷ items) = chunks_in items

-- the item is a chunk
abbrev pub IsChunk : Item → Type 0
IsChunk (Chunk bytes) = Unit {0}
IsChunk End = ⊥

-- the bytes of a chunk
abbrev pub bytes_of : Item → List ℕ
bytes_of (Chunk bytes) = bytes
bytes_of End = []

-- both ends: the items that were put, and those that were taken
abbrev pub compared : View → View → View
compared v w = Both (record { put = passed v; taken = passed w })

-- the items that the channel holds, as both ends together know them
abbrev pub AreInOrder : View → List Item → Type 0
AreInOrder (Both b) items = items_of b.put ≡ items_of b.taken ++ items
AreInOrder _ items = Unit {0}
