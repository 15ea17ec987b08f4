-- Which clients have a stream, and that each has one.
use Rattle.std.specs.Prelude.{ℕ, ◌≡◌, ◌≤◌, Bool, true, false, not, is_some, Some}
use Rattle.adb_history.specs.Rows.{Client}
use Rattle.adb_history.specs.Machine.{History, state}
use Rattle.adb_history.specs.Bytes.{has_joined}
use Rattle.adb_history.specs.Book.{asked}
use Rattle.adb_history.specs.Births.{Birth, born}
use Rattle.adb_history.specs.Tied.{came_count}

-- a client came by itself, asked for a stream and is asked no more; or it came through a forward
abbrev pub ByClient : Bool → ℕ → History → Type 0
ByClient false c h = (has_joined c h ≡ true) × (is_some (asked c h).next ≡ true)
ByClient true c h = has_joined c h ≡ false

-- how many bytes of a client come before those of its stream: those of its requests
abbrev pub head_by : Bool → ℕ → History → ℕ
head_by false c h = (asked c h).used
head_by true c h = 0

-- a birth is of a client that came, and its stream begins past the requests
pub record IsBirthOf (h : History) (b : Birth) : Type 0 where
  pub came : b.client ≤ came_count h
  pub client : ByClient b.forwarded b.client h
  pub head : b.head ≡ head_by b.forwarded b.client h

abbrev pub AreOfClients : History → Type 0
AreOfClients h = (l : ℕ) (b : Birth) → born l h ≡ Some b → IsBirthOf h b

-- a client has one stream at most
abbrev pub HasOneStreamEach : History → Type 0
HasOneStreamEach h = (l m : ℕ) (b c : Birth) → born l h ≡ Some b → born m h ≡ Some c → b.client ≡ c.client → l ≡ m

-- a client that lives is kept as it came: through a forward, or by itself
abbrev pub CameAsKept : History → Type 0
CameAsKept h = (c : ℕ) (client : Client) → (state h).clients c ≡ Some client → client.about.forwarded ≡ not (has_joined c h)
