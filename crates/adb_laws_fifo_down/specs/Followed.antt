-- What is promised of each stream from its birth on: its life, and what its device is told of it.
use Rattle.std.specs.Prelude.{ℕ, ◌≡◌, ◌<◌, None}
use Rattle.adb_history.specs.Machine.{History, state}
use Rattle.adb_history.specs.Lives.{ending_of}
use Rattle.adb_history.specs.Fifo.{OfEachStream}
use Rattle.adb_laws_fifo_down.specs.Life.{Life}
use Rattle.adb_laws_fifo_down.specs.Window.{Window}
use Rattle.adb_laws_fifo_down.specs.Follows.{PromiseOf, Follows}

-- the life of each stream
abbrev pub LifeOf : PromiseOf
LifeOf b k = λ packets shut out v. Life b.id k packets shut out v

-- what is acknowledged of each stream
abbrev pub WindowOf : PromiseOf
WindowOf b k = λ packets shut out v. Window b.id k packets shut out v

-- each stream that was born has its life
abbrev pub HasLives : History → Type 0
HasLives h = OfEachStream h (λ l b. Follows LifeOf h l b)

-- each stream that was born keeps its window
abbrev pub HasWindows : History → Type 0
HasWindows h = OfEachStream h (λ l b. Follows WindowOf h l b)

-- no ending is told of a stream that was not born
abbrev pub EndsBornAlone : History → Type 0
EndsBornAlone h = (l : ℕ) → (state h).drawn < l → ending_of l h ≡ None
