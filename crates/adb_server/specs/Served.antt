-- How a server ended, what its note then holds, and what its door reported.
use Rattle.std.specs.Prelude.{ℕ, ◌≡◌, ◌≢◌, ◌⊎◌, Bool, true, false, List, ◌++◌, [], ◌∷◌, Option, Some, IfSome, Result, Ok, Err, codes}
use Rattle.std.specs.Prelude.{decimal}
use Rattle.adb_outside.specs.Sink.{TellsWrite}
use Rattle.adb_outside.specs.declared.sink.Wrote.{Wrote}
use Rattle.adb_outside.specs.declared.sink.Wrote.TheVariants.{All, Failed as Cut}
use Rattle.adb_connections.specs.declared.door.Arrival.{Arrival}
use Rattle.adb_connections.specs.declared.door.Arrival.TheVariants.{Closed}
use Rattle.adb_server.specs.declared.server.Served.{Served}
use Rattle.adb_server.specs.declared.server.Served.TheVariants.{Done, WriteFault, OutOfMemory, RecordFault, DoorFault}

-- the line that says where a server listens
unfoldable pub listening_line : ℕ → List ℕ
listening_line port = codes "adbhub: listening on 127.0.0.1:" ++ decimal port ++ codes "\n"

abbrev pub is_write_fault : Served → Bool
is_write_fault WriteFault = true
is_write_fault Done = false
is_write_fault OutOfMemory = false
is_write_fault RecordFault = false
is_write_fault DoorFault = false

abbrev pub is_write_fault_in : Result (Unit {0}) Served → Bool
is_write_fault_in (Ok done) = false
is_write_fault_in (Err served) = is_write_fault served

-- The line was written whole; or a write of it failed; or an allocation failed, and nothing was written.
abbrev pub HasAnnounced : ℕ → Result (Unit {0}) Served → Option (List ℕ) → Option (List ℕ) → Type 0
HasAnnounced port (Ok done) before after = TellsWrite before after (listening_line port) All
HasAnnounced port (Err WriteFault) before after = (taken : ℕ) × TellsWrite before after (listening_line port) (Cut taken)
HasAnnounced port (Err OutOfMemory) before after = after ≡ before
HasAnnounced port (Err served) before after = ⊥

-- This was written of the line that says where the server listens. Its port is the one that was asked for, if one was.
pub record TellsPort (wanted : ℕ) (wrote : Wrote) (before after : Option (List ℕ)) : Type 0 where
  pub port : ℕ
  pub some : port ≢ 0
  pub asked : wanted ≢ 0 → port ≡ wanted
  pub line : TellsWrite before after (listening_line port) wrote

-- A server that served has written where it listens, and nothing else. One that did not has written nothing, or a
-- part of that if the note failed.
abbrev pub Announces : ℕ → Served → Option (List ℕ) → Option (List ℕ) → Type 0
Announces asked Done before after = TellsPort asked All before after
Announces asked RecordFault before after = TellsPort asked All before after
Announces asked DoorFault before after = (after ≡ before) ⊎ TellsPort asked All before after
Announces asked OutOfMemory before after = (after ≡ before) ⊎ TellsPort asked All before after
Announces asked WriteFault before after = (taken : ℕ) × TellsPort asked (Cut taken) before after

-- The same with this port in the line.
abbrev pub AnnouncesAt : ℕ → Served → Option (List ℕ) → Option (List ℕ) → Type 0
AnnouncesAt port Done before after = TellsWrite before after (listening_line port) All
AnnouncesAt port RecordFault before after = TellsWrite before after (listening_line port) All
AnnouncesAt port DoorFault before after = (after ≡ before) ⊎ TellsWrite before after (listening_line port) All
AnnouncesAt port OutOfMemory before after = (after ≡ before) ⊎ TellsWrite before after (listening_line port) All
AnnouncesAt port WriteFault before after = (taken : ℕ) × TellsWrite before after (listening_line port) (Cut taken)

-- The line names the port that the yard shows, if it shows one.
abbrev pub NamesPort : Option ℕ → Served → Option (List ℕ) → Option (List ℕ) → Type 0
NamesPort shown served before after = (port : ℕ) → shown ≡ Some port → AnnouncesAt port served before after

-- The last answer of a door, if it reports its answers, is that no more connections come.
abbrev pub HasClosed : Option (List Arrival) → Type 0
HasClosed came = IfSome came (λ answers. (before : List Arrival) × (answers ≡ before ++ Closed ∷ []))
