-- What was handed to a client never changes and never is handed again.
use Rattle.std.specs.Prelude.{ℕ, ◌++◌}
use Rattle.adb_outside.specs.Bytes.{IsPrefixOf}
use Rattle.adb_history.specs.Machine.{History}
use Rattle.adb_history.specs.Bytes.{bytes_put}
use Rattle.adb_history.specs.Births.{handed_to}
use Rattle.adb_history.specs.Lives.{output_of}
use Rattle.adb_history.specs.Fifo.{OfEachStream}

-- What a client was handed for its stream stays, and more comes behind it.
abbrev pub StaysHanded : (newer older : History) → Type 0
StaysHanded newer older = OfEachStream older (λ l b. IsPrefixOf (handed_to l b older) (handed_to l b (newer ++ older)))

-- What was put to a client is a front of what became due to it: each byte of that goes out once.
abbrev pub PutsOnce : History → Type 0
PutsOnce h = (c : ℕ) → IsPrefixOf (bytes_put c h) (output_of c h)
