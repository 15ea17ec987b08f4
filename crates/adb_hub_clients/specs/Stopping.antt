-- What a kill leaves.
use Rattle.std.specs.Prelude.{ℕ, ◌-◌, true, [], Option, Some, None}
use Rattle.adb_history.specs.Rows.{State}
use Rattle.adb_stream.specs.declared.row.Stream.{Stream}
use Rattle.adb_history.specs.declared.ending.Ending.TheVariants.{Stopped}
use Rattle.adb_history.specs.Losing.{only_client}
use Rattle.adb_hub_tables.specs.Endings.{Log, add_unless, ended_of}

-- of all that is kept one client alone
abbrev pub alone : ℕ → State → State
alone c s = record s {
  clients = only_client c s.clients;
  links = λ _. None;
  streams = λ _. None;
  devices = record s.devices { rows = [] };
  forwards = [];
  stopped = true;
}

-- a log with the end of a stream by a kill, where it lives
abbrev pub recorded_at : ℕ → Option Stream → Log → Log
recorded_at l None log = log
recorded_at l (Some stream) log = add_unless stream.part.orphan (ended_of l Stopped stream) log

-- how many streams are left behind one that may live
abbrev pub one_left : Option Stream → ℕ → ℕ
one_left None left = left
one_left (Some stream) left = left - 1
