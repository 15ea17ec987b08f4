-- One write each way (protocol.txt, OKAY and WRTE).
use Rattle.std.specs.Prelude.{ℕ, ◌≡◌, ◌<◌, Bool, false}
use Rattle.adb_stream.specs.declared.flow.Took.{Took}
use Rattle.adb_stream.specs.declared.flow.Took.TheVariants.{Accepted, AckNow, OutOfTurn}

-- whether a WRTE was sent that no OKAY has answered, and how many bytes of the other end's WRTE are still to be handed out
pub record OneWrite : Type 0 where
  pub outstanding : Bool
  pub to_hand : ℕ

-- nothing is outstanding, and nothing is to be handed out
abbrev pub new_window : OneWrite
new_window = record { outstanding = false; to_hand = 0 }

-- A WRTE of n bytes came: when each answer is given, and what the window is then.
abbrev pub WindowTakes : OneWrite → ℕ → OneWrite → Took → Type 0
WindowTakes old n new Accepted = (old.to_hand ≡ 0) × (0 < n) × (new ≡ record old { to_hand = n })
WindowTakes old n new AckNow = (old.to_hand ≡ 0) × (n ≡ 0) × (new ≡ old)
WindowTakes old n new OutOfTurn = (0 < old.to_hand) × (new ≡ old)
