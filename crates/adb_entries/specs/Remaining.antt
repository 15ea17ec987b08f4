-- How many hand-outs are still to come.
use Rattle.std.specs.Prelude.{ℕ, Option, Some, None, zero, suc}
use Rattle.adb_outside.specs.Tables.{at}
use Rattle.adb_capture.specs.declared.entry.Entry.{Entry}
use Rattle.adb_history.specs.Rows.{State}
use Rattle.adb_history.specs.Machine.{step}
use Rattle.adb_history.specs.Kept.{Kept}
use Rattle.adb_history.specs.Drained.{next_out, owed}

-- ---- the state that is held
abbrev pub shown : Kept → State
shown k = record {
  joined = k.joined;
  drawn = k.streams.drawn;
  clients = λ c. at c k.clients;
  links = λ t. at t k.links;
  streams = λ l. at l k.streams.streams;
  devices = k.devices;
  forwards = k.forwards;
  stopped = k.stopped;
}

-- ---- how many hand-outs it makes
abbrev pub one_more : Option Entry → (Entry → ℕ) → ℕ
one_more None others = 0
one_more (Some e) others = suc (others e)

-- of at most so many
abbrev pub outs : ℕ → State → ℕ
outs zero s = 0
outs (suc k) s = one_more (next_out s) (λ e. outs k (step s e).state)

abbrev pub all_outs : State → ℕ
all_outs s = outs (owed s) s

-- how many are still to come of what is held
abbrev pub remaining : Kept → ℕ
remaining holds = all_outs (shown holds)
