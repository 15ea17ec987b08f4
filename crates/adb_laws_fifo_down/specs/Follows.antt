-- What is promised of a stream, of a whole history: from its birth on it holds of what is seen of the stream.
use Rattle.std.specs.Prelude.{ℕ, ◌≡◌, ◌≤◌, Bool, true, false, if◌then◌else◌, ◌||◌, is_some, List, [], length}
use Rattle.adb_wire.specs.Cutting.{framed}
use Rattle.adb_history.specs.Machine.{History, state, told}
use Rattle.adb_history.specs.Bytes.{is_lost, bytes_put, bytes_received, brought}
use Rattle.adb_history.specs.Book.{asked}
use Rattle.adb_history.specs.Births.{Birth, since}
use Rattle.adb_history.specs.Tied.{came_count}
use Rattle.adb_laws_fifo_down.specs.Line.{Line}
use Rattle.adb_laws_fifo_down.specs.Life.{Cradle}
use Rattle.adb_laws_fifo_down.specs.Turns.{Promise, Holds}

abbrev pub line : ℕ → Birth → Line
line l b = record { id = l; client = b.client; link = b.link; from = l }

-- a link brings no more packets: it was lost, or its bytes have a fault
abbrev pub is_shut : ℕ → History → Bool
is_shut t h = is_lost t h || is_some (framed (bytes_received t h)).fault

-- the replies to the requests of a stream's client, where it came by itself
abbrev pub replies_of : Birth → History → List ℕ
replies_of b h = if b.forwarded then [] else (asked b.client h).replies

-- what is promised of a stream by what was so at its birth
abbrev pub PromiseOf : Type 1
PromiseOf = Line → Cradle → Promise

pub record Follows (P : PromiseOf) (h : History) (l : ℕ) (b : Birth) : Type 0 where
  pub cradle : Cradle
  pub credit : cradle.credit ≡ b.credit
  pub forwarded : cradle.forwarded ≡ b.forwarded
  pub replies : cradle.replies ≡ replies_of b h
  -- its client asks no more
  pub asks_no_more : b.forwarded ≡ false → is_some (asked b.client h).next ≡ true
  pub came : b.client ≤ came_count h
  pub within : b.packets_before ≤ length (brought b.link h)
  pub holds : Holds (line l b) (P (line l b) cradle) (since b h) (is_shut b.link h) (bytes_put b.client h) (state h) (told h)
