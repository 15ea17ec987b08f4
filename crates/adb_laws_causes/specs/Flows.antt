-- What the flow of a stream says of the bytes that its device wrote.
use Rattle.std.specs.Prelude.{ℕ, ◌≡◌, ◌+◌, ◌≤◌, Bool, true, false, if◌then◌else◌, List, [], ◌∷◌, ◌++◌, length, drop, Some, zero, suc}
use Rattle.adb_wire.specs.declared.packets.Packet.{Packet}
use Rattle.adb_stream.specs.declared.flow.Flow.{Flow}
use Rattle.adb_stream.specs.declared.flow.Flow.TheVariants.{One, Credit}
use Rattle.adb_stream.specs.declared.row.Stream.{Stream}
use Rattle.adb_history.specs.Machine.{History, state, IsLegal}
use Rattle.adb_history.specs.Rows.{Client}
use Rattle.adb_history.specs.Bytes.{bytes_read, brought}
use Rattle.adb_history.specs.Book.{asked}
use Rattle.adb_history.specs.Births.{Birth, born, since, opening_in, told_to, joined, handed_to, carried_in, count_from, is_wrte}
use Rattle.adb_history.specs.Lives.{output_of, packets_of}
use Rattle.adb_history.specs.Causes.{given_to, okays_after, has_closed_since}

-- One write each way: what is still to be handed out is what was written and was not handed. Credit: what is left is
-- what was given and was not written.
abbrev pub FlowIs : Flow → Bool → (written handed given : ℕ) → Type 0
FlowIs (One window) credit written handed given = (credit ≡ false) × (handed + window.to_hand ≡ written)
FlowIs (Credit c) credit written handed given = (credit ≡ true) × (c.left + written ≡ given)

-- how many writes of a flow wait for their OKAY
abbrev pub waiting : Flow → ℕ
waiting (One window) = if window.outstanding then 1 else 0
waiting (Credit credit) = 0

-- how many bytes became due to a client for its stream: an `OKAY`, if it came by itself, and what its device wrote
abbrev pub hears : (remote : ℕ) → Bool → (written : ℕ) → ℕ
hears zero forwarded written = 0
hears (suc n) forwarded written = (if forwarded then 0 else 4) + written

-- how many bytes become due to the client of a stream before its device opens it: the replies to its requests
abbrev pub start_of : Birth → History → ℕ
start_of b h = if b.forwarded then 0 else length (asked b.client h).replies

-- Each OKAY of the device came behind the write that it answers: at each time there are no more of them than writes had become due before.
abbrev pub IsTimely : ℕ → Birth → History → Type 0
IsTimely l b [] = Unit {0}
IsTimely l b (e ∷ older) = IsTimely l b older × (okays_after l b (e ∷ older) ≤ count_from is_wrte l (packets_of b.link older))

-- What a stream that lives and its client hold, as the history tells it.
pub record IsAsTold (h : History) (l : ℕ) (b : Birth) (x : Stream) (k : Client) : Type 0 where
  -- its link brought all packets that came before it
  pub before : b.packets_before ≤ length (brought b.link h)
  -- while its device has not opened it, no packet forbids that
  pub waits : x.part.remote ≡ 0 → (packets : List Packet) → opening_in l (since b h ++ packets) ≡ opening_in l packets
  pub forwarded : k.about.forwarded ≡ b.forwarded
  pub flow : FlowIs x.part.flow b.credit (length (joined (told_to l b h))) (length (handed_to l b h)) (given_to l b h)
  pub output : length (output_of b.client h) ≡ start_of b h + hears x.part.remote b.forwarded (length (joined (told_to l b h)))
  -- what its client wrote past its request went up, or is held
  pub head : b.head ≤ length (bytes_read b.client h)
  pub up : carried_in l (packets_of b.link h) ++ k.held ≡ drop b.head (bytes_read b.client h)
  pub writes : b.credit ≡ false → count_from is_wrte l (packets_of b.link h) ≤ okays_after l b h + waiting x.part.flow
  -- and exactly so, where no OKAY came too early
  pub exact : b.credit ≡ false → IsTimely l b h → okays_after l b h + waiting x.part.flow ≤ count_from is_wrte l (packets_of b.link h)
  pub closed : k.about.ended ≡ true → has_closed_since l b.client h ≡ true

-- Each stream that lives and its client hold what the history tells.
abbrev pub HoldsAsTold : History → Type 0
HoldsAsTold h = (l : ℕ) (b : Birth) (x : Stream) (k : Client) → born l h ≡ Some b → (state h).streams l ≡ Some x → x.part.orphan ≡ false
    → (state h).clients x.client ≡ Some k → IsAsTold h l b x k

-- so do those of every legal history
abbrev pub AllHoldAsTold : Type 0
AllHoldAsTold = (h : History) → IsLegal h → HoldsAsTold h

-- The flow of each stream that lives is as its device wrote and its client was handed.
abbrev pub HasFlows : History → Type 0
HasFlows h = (l : ℕ) (b : Birth) (x : Stream) → born l h ≡ Some b → (state h).streams l ≡ Some x → x.part.orphan ≡ false
    → FlowIs x.part.flow b.credit (length (joined (told_to l b h))) (length (handed_to l b h)) (given_to l b h)
