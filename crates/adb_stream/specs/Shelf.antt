-- What a shelf has, as functions, and the streams that it shows.
use Rattle.std.specs.Prelude.{ℕ, ◌≡◌, ◌<◌, ◌^◌, List, [], ◌∷◌, Option, Some, None, false, if◌then◌else◌, unwrap_or, option_map}
use Rattle.std.specs.BTreeMap.{get}
use Rattle.std.specs.Ordering.{nat_cmp, ordering_then, is_eq}
use Rattle.std.specs.declared.cmp.Ordering.{Ordering}
use Rattle.slab.specs.Slab.{Slab, get as slot, with_value}
use Rattle.adb_outside.specs.Tables.{at, IsRising, Rows, put_row}
use Rattle.adb_stream.specs.Flow.{new_flow}
use Rattle.adb_stream.specs.Stream.{new_stream, with_part, of_link, IsStreamAt}
use Rattle.adb_stream.specs.Streams.{StreamTable}
use Rattle.adb_stream.specs.declared.row.Stream.{Stream}
use Rattle.adb_stream.specs.declared.row.Part.{Part}
use Rattle.adb_stream.specs.declared.shelf.Shelf.{Shelf}

-- the order of the index: links before ids
abbrev pub place_cmp : ℕ × ℕ → ℕ × ℕ → Ordering
place_cmp a b = ordering_then (nat_cmp a.0 b.0) (nat_cmp a.1 b.1)

-- the key of each id
abbrev pub keys_of : Shelf → Rows (Option ℕ)
keys_of shelf = λ id. at id shelf.keys.entries

-- the stream at each key
abbrev pub slots_of : Shelf → Rows (Option Stream)
slots_of shelf = λ key. slot shelf.rows key

-- the key of each link and id
abbrev pub index_of : Shelf → ℕ → Rows (Option ℕ)
index_of shelf = λ link id. get place_cmp shelf.index (link, id)

-- the stream of a key, where there is one
abbrev pub stream_of : Rows (Option Stream) → Option ℕ → Option Stream
stream_of slots None = None
stream_of slots (Some key) = slots key

-- an index with another key at a link and an id
abbrev pub put_place : ℕ → ℕ → Option ℕ → (ℕ → Rows (Option ℕ)) → ℕ → Rows (Option ℕ)
put_place link id key index = λ t l. if is_eq (place_cmp (link, id) (t, l)) then key else index t l

-- the slots without the stream of a key
abbrev pub emptied : Option ℕ → Rows (Option Stream) → Rows (Option Stream)
emptied None slots = slots
emptied (Some key) slots = put_row key None slots

-- the index without a stream
abbrev pub displaced : Option Stream → ℕ → (ℕ → Rows (Option ℕ)) → ℕ → Rows (Option ℕ)
displaced None id index = index
displaced (Some stream) id index = put_place stream.link id None index

-- the slab with another part of the stream at a key
abbrev pub put_part : Slab Stream → ℕ → Option Stream → Part → Slab Stream
put_part rows key None part = rows
put_part rows key (Some stream) part = with_value rows key (with_part part stream)

-- the shelf with another part of the stream at a key
abbrev pub with_part_at : Shelf → Option ℕ → Part → Shelf
with_part_at shelf None part = shelf
with_part_at shelf (Some key) part = record shelf { rows = put_part shelf.rows key (slot shelf.rows key) part }

-- the stream at a key that has one, and no table shows what stands for none
abbrev pub shown_at : Slab Stream → ℕ → Stream
shown_at rows key = unwrap_or (slot rows key) (new_stream 0 0 0 (new_flow false))

-- the streams of the keys
abbrev pub shown : Slab Stream → List (ℕ × ℕ) → List (ℕ × Stream)
shown rows [] = []
shown rows (entry ∷ entries) = (entry.0, shown_at rows entry.1) ∷ shown rows entries

-- the table that a shelf shows
abbrev pub table_of : ℕ → Shelf → StreamTable
table_of drawn shelf = record { drawn = drawn; streams = shown shelf.rows shelf.keys.entries }

-- the key, where it is one of a stream of the link
abbrev pub key_if : ℕ → ℕ → Option Stream → Option ℕ
key_if link key stream = option_map (λ _. key) (of_link link stream)

-- the key of a stream of the link
abbrev pub place_of : Rows (Option Stream) → ℕ → Option ℕ → Option ℕ
place_of slots link None = None
place_of slots link (Some key) = key_if link key (slots key)

-- The index has at a link and an id the key of the id, where its stream is one of the link.
abbrev pub IsFoundAt : Shelf → ℕ → ℕ → Type 0
IsFoundAt shelf link id = index_of shelf link id ≡ place_of (slots_of shelf) link (keys_of shelf id)

-- A key has the stream of its id.
pub record HasStream (drawn : ℕ) (slots : Rows (Option Stream)) (id key : ℕ) : Type 0 where
  pub stream : Stream
  pub is : slots key ≡ Some stream
  pub here : IsStreamAt drawn id stream

-- Each key has its stream, each stream its key, and the index the keys of the streams by their links; the ids rise.
pub record IsIndexed (drawn : ℕ) (shelf : Shelf) : Type 0 where
  pub fits : drawn < 2 ^ 32
  pub rows : (id key : ℕ) → keys_of shelf id ≡ Some key → HasStream drawn (slots_of shelf) id key
  pub held : (key : ℕ) (stream : Stream) → slots_of shelf key ≡ Some stream → keys_of shelf stream.id ≡ Some key
  pub finds : (link id : ℕ) → IsFoundAt shelf link id
  pub rises : IsRising shelf.keys.entries
