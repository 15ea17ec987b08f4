-- A credit in bytes, where both ends of a link name the feature `hub_credit`: a rule of this project's own.
use Rattle.std.specs.Prelude.{ℕ, ◌≡◌, ◌+◌, ◌-◌, ◌<◌, ◌≤◌, ◌==◌, ◌||◌, nat_le, if◌then◌else◌}
use Rattle.adb_stream.specs.declared.credit.TheConstants.{CREDIT_WINDOW, CREDIT_STEP}
use Rattle.adb_stream.specs.declared.flow.Took.{Took}
use Rattle.adb_stream.specs.declared.flow.Took.TheVariants.{Accepted, AckNow, OutOfTurn}

-- How many bytes this end may send, and the other end; and of what came from there, how many are still to be handed
-- out, and how many were and are not given
-- back yet.
pub record ByteCredit : Type 0 where
  pub to_send : ℕ
  pub left : ℕ
  pub to_hand : ℕ
  pub gathered : ℕ

-- Each byte of the window is left to the other end, or to be handed out, or to be given back. Those to be given back
-- are fewer than a step, and none where
-- nothing is to be handed out.
pub record IsWhole (credit : ByteCredit) : Type 0 where
  pub window : credit.left + credit.to_hand + credit.gathered ≡ CREDIT_WINDOW
  pub few : credit.gathered < CREDIT_STEP
  pub none : credit.to_hand ≡ 0 → credit.gathered ≡ 0

-- nothing may be sent yet, and the other end may send the whole window
abbrev pub new_credit : ByteCredit
new_credit = record { to_send = 0; left = CREDIT_WINDOW; to_hand = 0; gathered = 0 }

-- A WRTE of n bytes came: when each answer is given, and what the credit is then.
abbrev pub CreditTakes : ByteCredit → ℕ → ByteCredit → Took → Type 0
CreditTakes old n new Accepted = (n ≤ old.left) × (new ≡ record old { left = old.left - n; to_hand = old.to_hand + n })
CreditTakes old n new AckNow = ⊥
CreditTakes old n new OutOfTurn = (old.left < n) × (new ≡ old)

-- how many of the gathered bytes are given back: all, where nothing is left to hand out or a step has gathered
abbrev pub given_back : ℕ → ℕ → ℕ
given_back to_hand gathered = if (to_hand == 0) || nat_le CREDIT_STEP gathered then gathered else 0
