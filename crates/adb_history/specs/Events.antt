-- What the rules of the server make: what is kept then, and what they tell: what becomes due by them, and which streams end.
use Rattle.std.specs.Prelude.{ℕ, if◌then◌else◌, nat_eq, List, [], ◌∷◌, ◌++◌, Option, Some, None}
use Rattle.adb_wire.specs.declared.packets.Packet.{Packet}
use Rattle.adb_wire.specs.Packet.{spelling}
use Rattle.adb_history.specs.Rows.{State}
use Rattle.adb_history.specs.declared.ending.Ending.{Ending}

-- What a rule tells: bytes become due to a client; a packet becomes due to a link, with its check word; a stream ends.
pub data Event : Type 0 where
  due_to_client : (client : ℕ) (bytes : List ℕ) → Event
  due_to_link : (link : ℕ) (packet : Packet) (check : ℕ) → Event
  ended : (stream : ℕ) (ending : Ending) → Event

-- what a rule makes
pub record Made : Type 0 where
  pub state : State
  pub told : List Event

-- a state in which nothing was told
abbrev pub quietly : State → Made
quietly s = record { state = s; told = [] }

-- one rule after another
abbrev pub then_also : Made → (State → Made) → Made
then_also m rule = record { state = (rule m.state).state; told = m.told ++ (rule m.state).told }

-- ---- what some events tell, all together
abbrev pub bytes_for : ℕ → Event → List ℕ
bytes_for c (due_to_client client bytes) = if nat_eq client c then bytes else []
bytes_for c (due_to_link link packet check) = []
bytes_for c (ended stream ending) = []

-- what becomes due to a client
abbrev pub owed_to : ℕ → List Event → List ℕ
owed_to c [] = []
owed_to c (e ∷ events) = bytes_for c e ++ owed_to c events

-- the packets that become due to a link
abbrev pub packets_to : ℕ → List Event → List Packet
packets_to t [] = []
packets_to t (due_to_client client bytes ∷ events) = packets_to t events
packets_to t (due_to_link link packet check ∷ events) = if nat_eq link t then packet ∷ packets_to t events else packets_to t events
packets_to t (ended stream ending ∷ events) = packets_to t events

-- and their bytes
abbrev pub spelled_to : ℕ → List Event → List ℕ
spelled_to t [] = []
spelled_to t (due_to_client client bytes ∷ events) = spelled_to t events
spelled_to t (due_to_link link packet check ∷ events) = if nat_eq link t then spelling packet check
    ++ spelled_to t events else spelled_to t events
spelled_to t (ended stream ending ∷ events) = spelled_to t events

-- the first ending of a stream
abbrev pub ending_in : ℕ → List Event → Option Ending
ending_in l [] = None
ending_in l (due_to_client client bytes ∷ events) = ending_in l events
ending_in l (due_to_link link packet check ∷ events) = ending_in l events
ending_in l (ended stream ending ∷ events) = if nat_eq stream l then Some ending else ending_in l events
