-- What a client that came by itself is answered, against its row: what holds at each time, also between the parts of a rule.
use Rattle.std.specs.Prelude.{ℕ, ◌≡◌, Bool, true, false, List, [], ◌++◌, Option, Some, None}
use Rattle.adb_outside.specs.Bytes.{IsPrefixOf}
use Rattle.adb_outside.specs.Tables.{Rows}
use Rattle.adb_registry.specs.Registry.{DeviceTable}
use Rattle.adb_client.specs.declared.phase.Phase.{Phase}
use Rattle.adb_client.specs.declared.phase.Phase.TheVariants.{Asking, Opening, Streaming, Binding, Tracking, Closing, Gone}
use Rattle.adb_reply.specs.declared.answer.Next.{Next}
use Rattle.adb_reply.specs.declared.answer.Next.TheVariants.{Track, Open, Bind}
use Rattle.adb_history.specs.Rows.{Client, State}
use Rattle.adb_history.specs.Events.{Event, owed_to}
use Rattle.adb_history.specs.Tracking.{tracked_list}
use Rattle.adb_history.specs.Machine.{History}
use Rattle.adb_history.specs.Bytes.{has_joined}
use Rattle.adb_history.specs.Book.{asked, bound_reply}
use Rattle.adb_history.specs.Answered.{lists_of, last_list}
use Rattle.adb_history.specs.Owned.{IsOwned}

-- What the entries say of a client: what follows its last request, the replies to its requests, what it was told of
-- its listener, the lists that it was
-- handed if it tracks, and the last of them.
pub record Heard : Type 0 where
  pub next : Option Next
  pub replies : List ℕ
  pub bound : List ℕ
  pub lists : Bool → List ℕ
  pub last : Bool → List ℕ

abbrev pub heard : ℕ → History → Heard
heard c h = record {
  next = (asked c h).next;
  replies = (asked c h).replies;
  bound = bound_reply c h;
  lists = λ long. lists_of long c h;
  last = λ long. last_list long c h;
}

-- what follows the replies, but where a stream was asked for
abbrev pub after_replies : Option Next → Heard → List ℕ
after_replies (Some (Bind transport local remote chosen)) r = r.bound
after_replies (Some (Track long)) r = r.lists long
after_replies _ r = []

abbrev pub asks_stream : Option Next → Bool
asks_stream (Some (Open transport service)) = true
asks_stream _ = false

abbrev pub asks_bind : Option Next → Bool
asks_bind (Some (Bind transport local remote chosen)) = true
asks_bind _ = false

-- ---- a client's row
-- a client that asks was told of no listener and of no list
pub record IsUnanswered (r : Heard) : Type 0 where
  pub next : r.next ≡ None
  pub bound : r.bound ≡ []
  pub lists : (long : Bool) → r.lists long ≡ []

-- a client that waits for a listener was told of none
pub record IsUnbound (r : Heard) : Type 0 where
  pub next : asks_bind r.next ≡ true
  pub bound : r.bound ≡ []

-- a tracker whose list is not stale has the present one
pub record IsTold (r : Heard) (devices : DeviceTable) (long mark : Bool) : Type 0 where
  pub next : r.next ≡ Some (Track long)
  pub present : mark ≡ false → r.last long ≡ tracked_list devices long

abbrev pub PhaseSays : Phase → Heard → DeviceTable → (long mark : Bool) → Type 0
PhaseSays Asking r devices long mark = IsUnanswered r
PhaseSays (Opening l) r devices long mark = asks_stream r.next ≡ true
PhaseSays (Streaming l) r devices long mark = asks_stream r.next ≡ true
PhaseSays Binding r devices long mark = IsUnbound r
PhaseSays Tracking r devices long mark = IsTold r devices long mark
PhaseSays Closing r devices long mark = Unit {0}
PhaseSays Gone r devices long mark = Unit {0}

abbrev pub RowSays : Heard → DeviceTable → Client → Type 0
RowSays r devices client = PhaseSays client.about.phase r devices client.about.long client.about.mark

abbrev pub RowsSay : ℕ → Heard → DeviceTable → Rows (Option Client) → Type 0
RowsSay c r devices clients = (client : Client) → clients c ≡ Some client → RowSays r devices client

-- ---- what became due to it
pub record Owes (r : Heard) (out : List ℕ) : Type 0 where
  pub begins : IsPrefixOf r.replies out
  pub all : asks_stream r.next ≡ false → out ≡ r.replies ++ after_replies r.next r

-- What a client is answered is what the entries say, with the devices that its list tells.
pub record Answers (c : ℕ) (r : Heard) (devices : DeviceTable) (s : State) (events : List Event) : Type 0 where
  pub owned : IsOwned s
  pub row : RowsSay c r devices s.clients
  pub owes : Owes r (owed_to c events)

-- of each client that came by itself
abbrev pub OfWhoJoined : (History → ℕ → Type 0) → History → Type 0
OfWhoJoined Holds h = (c : ℕ) → has_joined c h ≡ true → Holds h c

-- and of each number of which none came by itself
abbrev pub OfOthers : (History → ℕ → Type 0) → History → Type 0
OfOthers Holds h = (c : ℕ) → has_joined c h ≡ false → Holds h c
