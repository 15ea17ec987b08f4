-- Streams of a server that live: none of them was closed, by either end.
use Rattle.std.specs.Prelude.{ℕ, ◌≡◌, ◌≢◌, false, Some}
use Rattle.adb_stream.specs.declared.row.Stream.{Stream}
use Rattle.adb_history.specs.Machine.{History, state}
use Rattle.adb_history.specs.Births.{Birth, Opening, born, opening_of, before_close, count_from, is_clse}
use Rattle.adb_history.specs.Lives.{packets_of}

-- No CLSE of a stream that lives became due.
abbrev pub SentNoClose : History → Type 0
SentNoClose h = (l : ℕ) (x : Stream) → (state h).streams l ≡ Some x → (t : ℕ) → count_from is_clse l (packets_of t h) ≡ 0

-- A stream was opened by the id that its row has, and no packet behind its opening closes it.
pub record IsUnclosed (h : History) (l : ℕ) (b : Birth) (x : Stream) : Type 0 where
  pub opening : Opening
  pub opened : opening_of l b h ≡ Some opening
  pub remote : opening.remote ≡ x.part.remote
  pub unclosed : before_close opening.remote l opening.later ≡ opening.later
  pub alive : x.part.orphan ≡ false

-- So is each open stream that lives.
abbrev pub HeardNoClose : History → Type 0
HeardNoClose h = (l : ℕ) (b : Birth) (x : Stream) → born l h ≡ Some b → (state h).streams l ≡ Some x
    → x.part.remote ≢ 0 → IsUnclosed h l b x
