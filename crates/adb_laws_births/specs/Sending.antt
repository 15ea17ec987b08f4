-- The packets that become due: each is one of its link's own, and short.
use Rattle.std.specs.Prelude.{ℕ, ◌≡◌, ◌≤◌, ◌+◌, length, All}
use Rattle.adb_wire.specs.Header.{byte_sum_of}
use Rattle.adb_wire.specs.declared.command.Command.TheVariants.{Cnxn}
use Rattle.adb_wire.specs.declared.headers.TheConstants.{MAX_PAYLOAD}
use Rattle.adb_wire.specs.declared.packets.Packet.{Packet}
use Rattle.adb_history.specs.Events.{Event, due_to_client, due_to_link, ended}
use Rattle.adb_history.specs.Machine.{History}
use Rattle.adb_history.specs.Births.{Birth, is_open, count_from}
use Rattle.adb_history.specs.Fifo.{IsOwn}
use Rattle.adb_history.specs.Lives.{packets_of}
use Rattle.adb_laws_births.specs.Going.{IsShort}

-- A packet of a link's own, that is short; a CNXN has its sum.
pub record IsRight (h : History) (t : ℕ) (p : Packet) (check : ℕ) : Type 0 where
  pub own : IsOwn h t p.command p
  pub short : IsShort p check
  pub sum : p.command ≡ Cnxn → check ≡ byte_sum_of p.payload

abbrev pub IsRightEvent : History → Event → Type 0
IsRightEvent h (due_to_client client bytes) = Unit {0}
IsRightEvent h (due_to_link link packet check) = IsRight h link packet check
IsRightEvent h (ended stream ending) = Unit {0}

-- a birth whose service fits into a packet with its NUL
abbrev pub HasShortService : Birth → Type 0
HasShortService b = length b.service + 1 ≤ MAX_PAYLOAD

-- Each packet that became due to a link is one of its own, and a stream is asked for once.
pub record OwesOwn (h : History) : Type 0 where
  pub own : (t : ℕ) → All (λ p. IsOwn h t p.command p) (packets_of t h)
  pub once : (t l : ℕ) → count_from is_open l (packets_of t h) ≤ 1
