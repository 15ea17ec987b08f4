-- What is kept of each stream that goes up.
use Rattle.std.specs.Prelude.{ℕ, ◌≡◌, ◌≤◌, length, Some}
use Rattle.adb_history.specs.declared.ending.Ending.TheVariants.{ClientClosed}
use Rattle.adb_history.specs.Machine.{History, state, told}
use Rattle.adb_history.specs.Bytes.{bytes_read}
use Rattle.adb_history.specs.Births.{Birth}
use Rattle.adb_history.specs.Lives.{ending_of, rest_of}
use Rattle.adb_history.specs.Fifo.{OfEachStream}
use Rattle.adb_history.specs.Causes.{IsDone}
use Rattle.adb_laws_fifo_up.specs.Rising.{Rises}

-- What was told of a stream and what its client holds are what the client wrote past its requests, as long as the stream lived.
pub record IsCarried (l : ℕ) (b : Birth) (h : History) : Type 0 where
  pub head : b.head ≤ length (bytes_read b.client h)
  pub rises : Rises l b.link b.client (rest_of l b h) (state h) (told h)

-- Of a stream whose client closed all was answered, or with credit all went up.
abbrev pub ClosedStreamsAreDone : History → Type 0
ClosedStreamsAreDone h = OfEachStream h (λ l b. ending_of l h ≡ Some ClientClosed → IsDone b.credit l b h)
