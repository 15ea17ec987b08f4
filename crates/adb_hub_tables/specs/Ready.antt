-- What a client holds is ready to go up.
use Rattle.std.specs.Prelude.{ℕ, ◌+◌, ◌/◌, ◌≤◌, length, min, Option, Some, None}
use Rattle.adb_client.specs.Client.{SeenClient}
use Rattle.adb_stream.specs.declared.flow.Flow.{Flow}
use Rattle.adb_stream.specs.declared.flow.Flow.TheVariants.{One, Credit}

-- how many bytes at most, of so many that are held, behind credit for so many more
abbrev pub up_bytes : Flow → (more maxdata held : ℕ) → ℕ
up_bytes (One window) more maxdata held = min maxdata held
up_bytes (Credit credit) more maxdata held = min (credit.to_send + more) held

-- in how many writes at most
abbrev pub up_writes : Flow → (more maxdata held : ℕ) → ℕ
up_writes (One window) more maxdata held = 1
up_writes (Credit credit) more maxdata held = min (credit.to_send + more) held / maxdata + 1

-- Of what a client holds so much is ready, in so many pieces, as its stream may write behind credit for so many bytes more.
pub record IsCut (flow : Flow) (more maxdata : ℕ) (client : SeenClient) : Type 0 where
  pub bytes : up_bytes flow more maxdata (length client.held) ≤ client.ready
  pub pieces : up_writes flow more maxdata (length client.held) ≤ client.cuts

abbrev pub IsCutBehind : Flow → (more maxdata : ℕ) → Option SeenClient → Type 0
IsCutBehind flow more maxdata None = Unit {0}
IsCutBehind flow more maxdata (Some client) = IsCut flow more maxdata client

-- in how many writes it goes up at most
abbrev pub writes_behind : Flow → (more maxdata : ℕ) → Option SeenClient → ℕ
writes_behind flow more maxdata None = 0
writes_behind flow more maxdata (Some client) = up_writes flow more maxdata (length client.held)
