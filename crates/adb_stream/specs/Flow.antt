-- What each end of a stream may send, and what it has taken: one write each way (protocol.txt, OKAY and WRTE), or a credit in bytes.
use Rattle.std.specs.Prelude.{ℕ, ◌+◌, ◌-◌, ◌^◌, ◌≡◌, ◌≤◌, Bool, true, false, not, nat_lt, if◌then◌else◌, min, Option, Some, None, unwrap_or}
use Rattle.adb_stream.specs.Window.{new_window}
use Rattle.adb_stream.specs.Credit.{ByteCredit, new_credit, given_back}
use Rattle.adb_stream.specs.declared.flow.Flow.{Flow}
use Rattle.adb_stream.specs.declared.flow.Flow.TheVariants.{One, Credit}

-- at first: one write each way, or a credit in bytes
abbrev pub new_flow : Bool → Flow
new_flow credit = if credit then Credit new_credit else One new_window

-- whether it is a credit in bytes
abbrev pub has_credit : Flow → Bool
has_credit (One window) = false
has_credit (Credit credit) = true

-- ---- sending
-- how many bytes may be sent now, where a write may have at most so many
abbrev pub may_send : Flow → ℕ → ℕ
may_send (One window) most = if window.outstanding then 0 else most
may_send (Credit credit) most = credit.to_send

-- whether a write with bytes may be sent now
abbrev pub can_send : Flow → Bool
can_send (One window) = not window.outstanding
can_send (Credit credit) = nat_lt 0 credit.to_send

-- whether no write waits for its OKAY
abbrev pub is_idle : Flow → Bool
is_idle (One window) = not window.outstanding
is_idle (Credit credit) = true

-- A write of so many bytes may be sent now.
abbrev pub LetsGo : Flow → ℕ → Type 0
LetsGo (One window) n = window.outstanding ≡ false
LetsGo (Credit credit) n = n ≤ credit.to_send

-- the flow after a write of so many bytes
abbrev pub wrote : ℕ → Flow → Flow
wrote n (One window) = One (record window { outstanding = true })
wrote n (Credit credit) = Credit (record credit { to_send = credit.to_send - n })

-- the credit with which the other end opens a stream: none without a credit word
abbrev pub first_credit : Option ℕ → Flow → Flow
first_credit word (One window) = One window
first_credit word (Credit credit) = Credit (record credit { to_send = unwrap_or word 0 })

-- an OKAY of an open stream: the write that is outstanding has ended, or there is more credit
abbrev pub acknowledged : Option ℕ → Flow → Flow
acknowledged word (One window) = One (record window { outstanding = false })
acknowledged None (Credit credit) = Credit credit
acknowledged (Some n) (Credit credit) = Credit (record credit { to_send = min (credit.to_send + n) (2 ^ 32 - 1) })

-- ---- taking
-- whether a write of so many bytes comes out of turn: bytes of the last one are still to be handed out, or there is no credit for it
abbrev pub is_out_of_turn : Flow → ℕ → Bool
is_out_of_turn (One window) n = nat_lt 0 window.to_hand
is_out_of_turn (Credit credit) n = nat_lt credit.left n

-- the flow after a write that was accepted
abbrev pub accepted : ℕ → Flow → Flow
accepted n (One window) = One (record window { to_hand = n })
accepted n (Credit credit) = Credit (record credit { left = credit.left - n; to_hand = credit.to_hand + n })

-- how many of the bytes that were accepted are still to be handed out
abbrev pub to_hand : Flow → ℕ
to_hand (One window) = window.to_hand
to_hand (Credit credit) = credit.to_hand

-- the credit that is given back when so many are left to be handed out
abbrev pub credit_back : ℕ → ByteCredit → ℕ
credit_back left credit = given_back left (credit.gathered + (credit.to_hand - left))

-- the same of a flow: one write each way gives no credit
abbrev pub flow_back : ℕ → Flow → ℕ
flow_back left (One window) = 0
flow_back left (Credit credit) = credit_back left credit

-- the flow when so many are left
abbrev pub handed_to : ℕ → Flow → Flow
handed_to left (One window) = One (record window { to_hand = left })
handed_to left (Credit credit) = Credit (record credit {
  left = credit.left + credit_back left credit;
  to_hand = left;
  gathered = credit.gathered + (credit.to_hand - left) - credit_back left credit;
})
