-- What a model device makes of the packets of one stream of its host, and of those of echoes.
use Rattle.std.specs.Prelude.{ℕ, ◌≡◌, ◌⊎◌, ◌≤◌, ◌<◌, List, [], ◌∷◌, ◌++◌, Some}
use Rattle.adb_outside.specs.Tables.{at}
use Rattle.adb_wire.specs.declared.command.Command.{Command}
use Rattle.adb_wire.specs.declared.command.Command.TheVariants as commands
use Rattle.adb_wire.specs.declared.packets.Packet.{Packet}
use Rattle.adb_files.specs.Entries.{Entry}
use Rattle.adb_history.specs.Births.{count_from, is_open}
use Rattle.adb_device_streams.specs.Asked.{Kind, Echoes, service_of, name_of}
use Rattle.adb_device_streams.specs.Service.{Came, files_opened}
use Rattle.adb_device_streams.specs.Stream.{Row}
use Rattle.adb_daemon.specs.Device.{Setting, device_behind}
use Rattle.adb_daemon.specs.Serving.{Serving, Ended}
use Rattle.adb_daemon.specs.Streams.{over_at}
use Rattle.adb_laws_alone.specs.Payloads.{ComeInTurn, files_behind}

-- what holds of each packet, by its command
abbrev pub Every : (Command → Packet → Type 0) → List Packet → Type 0
Every Holds [] = Unit {0}
Every Holds (p ∷ ps) = Holds p.command p × Every Holds ps

-- a packet asks for no stream of such an id
abbrev pub AsksNone : (ℕ → Type 0) → Command → Packet → Type 0
AsksNone Such commands.Open p = Such p.arg0 → ⊥
AsksNone Such _ p = Unit {0}

-- a packet that asks for a stream, or writes something, does so for this id of the host
abbrev pub IsOfOne : ℕ → Command → Packet → Type 0
IsOfOne l commands.Open p = p.arg0 ≡ l
IsOfOne l commands.Wrte p = (p.payload ≡ []) ⊎ (p.arg0 ≡ l)
IsOfOne l _ p = Unit {0}

-- a packet that asks for a stream asks for an echo, and one that writes something does so for an id past another
abbrev pub IsOfEchoes : ℕ → Command → Packet → Type 0
IsOfEchoes d commands.Open p = service_of (name_of p.payload) ≡ Some Echoes
IsOfEchoes d commands.Wrte p = (p.payload ≡ []) ⊎ (d < p.arg0)
IsOfEchoes d _ p = Unit {0}

-- A service of a kind was opened over these files; each payload came over the files that those before it left; and
-- the files are those that it left.
pub record RanAs (first files : List Entry) (kind : Kind) (opened : List Entry) (past : List Came) : Type 0 where
  pub over : opened ≡ first
  pub turn : ComeInTurn kind (files_opened kind first) past
  pub left : files ≡ files_behind kind (files_opened kind first) past

abbrev pub RanAlone : (first files : List Entry) → Row → Type 0
RanAlone first files row = RanAs first files row.kind row.first row.past

-- Each row of an id of the host ran alone, be it live or one that has ended.
pub record AllRanAlone (l : ℕ) (first : List Entry) (s : Serving) : Type 0 where
  pub rows : (own : ℕ) (row : Row) → at own s.rows ≡ Some row → row.host ≡ l → RanAlone first s.files row
  pub ended : (own : ℕ) (e : Ended) → over_at own s.ended ≡ Some e → e.row.host ≡ l → RanAlone first s.files e.row

-- An id that was asked for once at most, behind packets that did not ask for it, ran alone where all packets since are of it.
abbrev pub OneRunsAlone : Setting → Type 0
OneRunsAlone setting = (l : ℕ) (before ps : List Packet) → Every (AsksNone (λ (host : ℕ). host ≡ l)) before → Every (IsOfOne l) ps
    → count_from is_open l ps ≤ 1
    → AllRanAlone l (device_behind setting before).serving.files (device_behind setting (before ++ ps)).serving

-- Echoes of ids that were not asked for before leave the files.
abbrev pub EchoesLeaveFiles : Setting → Type 0
EchoesLeaveFiles setting = (d : ℕ) (before ps : List Packet) → Every (AsksNone (λ (host : ℕ). d < host)) before → Every (IsOfEchoes d) ps
    → (device_behind setting (before ++ ps)).serving.files ≡ (device_behind setting before).serving.files
