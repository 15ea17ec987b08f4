-- What the asking side writes for each request (SYNC.TXT).
use Rattle.std.specs.Prelude.{ℕ, List, ◌++◌, decimal}
use Rattle.adb_sync.specs.declared.ask.SyncAsk.TheVariants as asks
use Rattle.adb_sync.specs.Asks.{ask_bytes}
use Rattle.adb_sync.specs.Chunk.{chunk_bytes}

-- a SEND of the path and the mode in decimal, the bytes in chunks, and a DONE with the time
abbrev pub push_text : List ℕ → ℕ → ℕ → List ℕ → List ℕ
push_text path mode mtime bytes = ask_bytes (asks.Send path (decimal mode)) ++ (chunk_bytes bytes ++ ask_bytes (asks.Finish mtime))

abbrev pub pull_text : List ℕ → List ℕ
pull_text path = ask_bytes (asks.Recv path)

abbrev pub stat_text : List ℕ → List ℕ
stat_text path = ask_bytes (asks.Stat path)

abbrev pub list_text : List ℕ → List ℕ
list_text path = ask_bytes (asks.List path)
