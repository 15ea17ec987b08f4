-- What a history leaves, in the words of its entries alone.
use Rattle.std.specs.Prelude.{ℕ, ◌+◌, ◌≡◌, nat_eq, if◌then◌else◌, not, ◌&&◌, List, [], ◌∷◌, ◌++◌, drop, Some, None}
use Rattle.adb_client.specs.declared.phase.Phase.TheVariants.{Asking, Binding}
use Rattle.adb_wire.specs.Cutting.{framed}
use Rattle.adb_capture.specs.declared.entry.Entry.TheVariants.{Join, Enter, Read}
use Rattle.adb_history.specs.Rows.{Client, Link}
use Rattle.adb_history.specs.Events.{spelled_to}
use Rattle.adb_history.specs.Machine.{History, state, told}
use Rattle.adb_history.specs.Bytes.{has_ended, bytes_put, bytes_received, bytes_sent}
use Rattle.adb_history.specs.Book.{book, devices, forwards, asked, is_killed}
use Rattle.adb_history.specs.Lives.{output_of}

-- the bytes that were read from a client before its input ended
abbrev pub bytes_asked : ℕ → History → List ℕ
bytes_asked c [] = []
bytes_asked c (Read n bytes ∷ older) = if nat_eq n c && not (has_ended c older) then bytes_asked c older ++ bytes else bytes_asked c older
bytes_asked c (_ ∷ older) = bytes_asked c older

-- What is due to a client that lives is its output past what was handed out.
abbrev pub DueIsPastPut : History → Type 0
DueIsPastPut h = (c : ℕ) (client : Client) → (state h).clients c ≡ Some client → output_of c h ≡ bytes_put c h ++ client.due

-- What is due to a link that lives is its output past what was handed out.
abbrev pub DueIsPastSent : History → Type 0
DueIsPastSent h = (t : ℕ) (link : Link) → (state h).links t ≡ Some link → spelled_to t (told h) ≡ bytes_sent t h ++ link.due

-- What a link that lives keeps of its input is what the cutting of all its bytes leaves, and it has no fault.
pub record IsReadAs (h : History) (t : ℕ) (link : Link) : Type 0 where
  pub rest : (framed (bytes_received t h)).rest ≡ link.rest
  pub sums : (framed (bytes_received t h)).reading.sums ≡ link.sums
  pub sound : (framed (bytes_received t h)).fault ≡ None

abbrev pub RestIsPastPackets : History → Type 0
RestIsPastPackets h = (t : ℕ) (link : Link) → (state h).links t ≡ Some link → IsReadAs h t link

-- What a client that asks has unread is what was read from it past its whole requests, and it selected what these say.
pub record IsAskedAs (h : History) (c : ℕ) (client : Client) : Type 0 where
  pub unread : client.held ≡ drop (asked c h).used (bytes_asked c h)
  pub rest : client.held ≡ (asked c h).rest
  pub selected : client.about.selected ≡ (asked c h).selected
  pub asks : (asked c h).next ≡ None

abbrev pub UnreadIsPastUsed : History → Type 0
UnreadIsPastUsed h = (c : ℕ) (client : Client) → (state h).clients c ≡ Some client → client.about.phase ≡ Asking → IsAskedAs h c client

-- The machine computes what the entries say: the devices, the forwards, the forward that a client waits for, and whether a kill stands.
pub record IsBookOf (h : History) : Type 0 where
  pub devices : (state h).devices ≡ devices h
  pub forwards : (state h).forwards ≡ forwards h
  pub waits : (c : ℕ) (client : Client) → (state h).clients c ≡ Some client → client.about.phase ≡ Binding
      → client.about.want ≡ (book h).waits c
  pub killed : (state h).stopped ≡ is_killed h

-- ---- numbers
-- how many clients came, and how many devices were plugged in
abbrev pub came_count : History → ℕ
came_count [] = 0
came_count (Join c ∷ older) = came_count older + 1
came_count (Enter c port ∷ older) = came_count older + 1
came_count (_ ∷ older) = came_count older
