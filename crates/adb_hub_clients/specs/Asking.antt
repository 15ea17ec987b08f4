-- What a client that asked was heard to ask, and what follows.
use Rattle.std.specs.Prelude.{Bool, true, false, ℕ, ◌+◌, ◌≤◌, ◌++◌, drop, length, Option, Some, None}
use Rattle.adb_wire.specs.declared.headers.TheConstants.{MAX_PAYLOAD}
use Rattle.adb_client.specs.Client.{SeenClient}
use Rattle.adb_reply.specs.declared.answer.Next.{Next}
use Rattle.adb_reply.specs.declared.answer.Next.TheVariants.{Open, Stop}
use Rattle.adb_history.specs.Rows.{Client, State, to_client}
use Rattle.adb_hub_clients.specs.declared.hearing.Heard.{Heard}

-- a client of which requests were heard: their replies are due, and the bytes past them are held
abbrev pub after_requests : Heard → Client → Option Client
after_requests heard c = Some (record c {
  about = record c.about { selected = heard.selected };
  held = drop heard.used c.held;
  due = c.due ++ heard.replies;
})

-- requests of a client were heard
abbrev pub hears : Heard → ℕ → State → State
hears heard c s = to_client c (after_requests heard) s

-- A client has places for the replies, and holds the requests.
pub record CanHear (heard : Heard) (client : SeenClient) : Type 0 where
  pub spare : length heard.replies ≤ client.spare
  pub used : heard.used ≤ length client.held

abbrev pub CanHearAt : Heard → Option SeenClient → Type 0
CanHearAt heard None = Unit {0}
CanHearAt heard (Some client) = CanHear heard client

-- A service fits in one packet, with a NUL.
abbrev pub FitsNext : Option Next → Type 0
FitsNext (Some (Open transport service)) = length service + 1 ≤ MAX_PAYLOAD
FitsNext _ = Unit {0}

-- whether the server stops
abbrev pub is_stop : Option Next → Bool
is_stop (Some Stop) = true
is_stop _ = false
