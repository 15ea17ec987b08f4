-- What follows a request can be done: a service fits its OPEN, and the ends of a forward can be one.
use Rattle.std.specs.Prelude.{ℕ, ◌≡◌, ◌≤◌, ◌<◌, ◌^◌, true, is_some, List, length, All, Option, Some, None}
use Rattle.adb_outside.specs.Tables.{at}
use Rattle.adb_outside.specs.Bytes.{is_graphic}
use Rattle.adb_forward.specs.Forwards.{IsSpecification}
use Rattle.adb_forward.specs.declared.row.ForwardRow.{ForwardRow}
use Rattle.adb_outside.specs.declared.remote.TheConstants.{MAX_REMOTE}
use Rattle.adb_client.specs.declared.about.Want.{Want}
use Rattle.adb_reply.specs.declared.answer.Next.{Next}
use Rattle.adb_reply.specs.declared.answer.Next.TheVariants.{Open, Bind, Rebind}
use Rattle.adb_history.specs.Rows.{Client, State}
use Rattle.adb_history.specs.Asking.{asks_with}
use Rattle.adb_history.specs.Reading.{asked_before}

-- a remote end that can be one of a forward
pub record IsRemote (remote : List ℕ) : Type 0 where
  pub some : 0 < length remote
  pub short : length remote ≤ MAX_REMOTE
  pub graphic : is_graphic remote ≡ true

-- a service whose text a request has room for
abbrev pub IsService : List ℕ → Type 0
IsService service = length service < 2 ^ 16

-- a forward of a port that is there, and may lead to this remote end from now on
pub record IsRebound (local : ℕ) (remote : List ℕ) (forwards : List (ℕ × ForwardRow)) : Type 0 where
  pub specification : IsSpecification local remote
  pub there : is_some (at local forwards) ≡ true

-- What follows a request can be done, with these forwards. Where a listener is to be bound, its port is known only when it stands.
abbrev pub CanFollow : List (ℕ × ForwardRow) → Next → Type 0
CanFollow forwards (Open transport service) = IsService service
CanFollow forwards (Bind transport local remote chosen) = IsRemote remote
CanFollow forwards (Rebind transport local remote) = IsRebound local remote forwards
CanFollow forwards _ = Unit {0}

abbrev pub IsSoundNext : List (ℕ × ForwardRow) → Option Next → Type 0
IsSoundNext forwards None = Unit {0}
IsSoundNext forwards (Some next) = CanFollow forwards next

-- Each forward is one that can be.
abbrev pub AreForwards : List (ℕ × ForwardRow) → Type 0
AreForwards forwards = All (λ entry. IsSpecification entry.0 entry.1.remote) forwards

-- the forward that a client waits for can be one, where it waits for one
abbrev pub IsWanted : Option Want → Type 0
IsWanted None = Unit {0}
IsWanted (Some want) = IsRemote want.remote

-- What clients wait for, and what they may ask next, can be done.
pub record CanBeDone (s : State) : Type 0 where
  pub wanted : (c : ℕ) (client : Client) → s.clients c ≡ Some client → (want : Want) → client.about.want ≡ Some want → IsRemote want.remote
  pub forwards : AreForwards s.forwards
  pub follows : (client : Client) (bytes : List ℕ) → IsSoundNext s.forwards
      (asks_with s.devices s.forwards bytes (asked_before client)).next
