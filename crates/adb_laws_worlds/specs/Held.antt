-- What a server holds of its clients at rest.
use Rattle.std.specs.Prelude.{ℕ, ◌≡◌, ◌≢◌, [], Some}
use Rattle.adb_stream.specs.declared.row.Stream.{Stream}
use Rattle.adb_client.specs.declared.phase.Phase.TheVariants.{Asking}
use Rattle.adb_history.specs.Machine.{History, state}
use Rattle.adb_history.specs.Births.{Birth, born}
use Rattle.adb_history.specs.Rows.{Client}
use Rattle.adb_daemon.specs.Device.{Setting}
use Rattle.adb_laws_worlds.specs.Settled.{IsAtRest, IsSettled}

-- A stream was born, and has settled.
pub record HasSettled (setting : Setting) (h : History) (l : ℕ) (x : Stream) : Type 0 where
  pub birth : Birth
  pub is : born l h ≡ Some birth
  pub settled : IsSettled setting h l birth x

-- At rest each stream that lives has settled.
abbrev pub AllHaveSettled : Setting → History → Type 0
AllHaveSettled setting h = IsAtRest setting h → (l : ℕ) (x : Stream) → (state h).streams l ≡ Some x → HasSettled setting h l x

-- At rest nothing is held of a client but a request that is not whole yet.
abbrev pub HoldsNothing : Setting → History → Type 0
HoldsNothing setting h = IsAtRest setting h → (c : ℕ) (client : Client) → (state h).clients c ≡ Some client
    → client.about.phase ≢ Asking → client.held ≡ []
