-- The second promise: a stream ends only for a cause that the history has, at the very entry by which it ends.
use Rattle.std.specs.Prelude.{ℕ, ◌+◌, ◌≡◌, ◌≤◌, Bool, true, false, if◌then◌else◌, ◌&&◌, ◌||◌, not, nat_eq, nat_lt, List, [], ◌∷◌, ◌++◌}
use Rattle.std.specs.Prelude.{length, drop, Option, Some, None}
use Rattle.std.specs.Prelude.{is_some}
use Rattle.std.specs.List.{list_any}
use Rattle.adb_outside.specs.declared.kinds.Cause.{Cause}
use Rattle.adb_wire.specs.Cutting.{framed}
use Rattle.adb_wire.specs.Format.{is_cnxn}
use Rattle.adb_wire.specs.declared.packets.Packet.{Packet}
use Rattle.adb_stream.specs.declared.credit.TheConstants.{CREDIT_WINDOW}
use Rattle.adb_capture.specs.declared.entry.Entry.{Entry}
use Rattle.adb_capture.specs.declared.entry.Entry.TheVariants.{End, Recv, Detach}
use Rattle.adb_history.specs.Events.{ending_in}
use Rattle.adb_history.specs.declared.ending.Ending.{Ending}
use Rattle.adb_history.specs.declared.ending.Ending.TheVariants.{ClientClosed, PeerClosed, OutOfTurn, Lost, Broken, ClientFailed, Stopped}
use Rattle.adb_history.specs.Machine.{History, told_at}
use Rattle.adb_history.specs.Bytes.{is_orderly, bytes_received, brought}
use Rattle.adb_history.specs.Book.{is_refused, is_killed}
use Rattle.adb_history.specs.Births.{Birth, born, Opening, opening_of, remote_of, is_between, is_okay, is_wrte, is_close_of, told_to}
use Rattle.adb_history.specs.Births.{joined, handed_to, carried_in, count_from}
use Rattle.adb_history.specs.Fifo.{okays_in, okays_of, credit_of}
use Rattle.adb_history.specs.Lives.{packets_of, ending_of, rest_of}

-- the packets of a link that an entry made whole
abbrev pub brings : ℕ → Entry → History → List Packet
brings t e older = drop (length (brought t older)) (brought t (e ∷ older))

-- the device's id of a stream after one more packet: an OKAY from any id but 0 tells it once
abbrev pub remote_after : (remote l : ℕ) → Packet → ℕ
remote_after remote l p = if nat_eq remote 0 && is_okay p.command && nat_eq p.arg1 l then p.arg0 else remote

-- ---- what may end a stream
-- The device closes it: from its own id of the stream, or from id 0.
abbrev pub closes_in : (remote l : ℕ) → List Packet → Bool
closes_in remote l [] = false
closes_in remote l (p ∷ packets) = is_close_of remote l p || closes_in (remote_after remote l p) l packets

abbrev pub peer_closes : ℕ → Birth → Entry → History → Bool
peer_closes l b e older = closes_in (remote_of l b older) l (brings b.link e older)

-- whether a write behind so many written bytes is one too many: not all of them were handed out, or they are more
-- than the credit that was given
abbrev pub is_early : Bool → (written handed given size : ℕ) → Bool
is_early false written handed given size = nat_lt handed written
is_early true written handed given size = nat_lt given (written + size)

-- The device writes out of turn.
abbrev pub writes_early_in : Birth → (remote l written handed given : ℕ) → List Packet → Bool
writes_early_in b remote l written handed given [] = false
writes_early_in b remote l written handed given (p ∷ packets) =
    if is_wrte p.command && not (nat_eq remote 0) && is_between remote l p
    then is_early b.credit written handed given (length p.payload)
    || writes_early_in b remote l (written + length p.payload) handed given packets
    else writes_early_in b (remote_after remote l p) l written handed given packets

-- the credit that a device was given for a stream: a window, and the credit words that became due
abbrev pub given_to : ℕ → Birth → History → ℕ
given_to l b h = CREDIT_WINDOW + credit_of (okays_of l (packets_of b.link h))

abbrev pub writes_early : ℕ → Birth → Entry → History → Bool
writes_early l b e older =
    writes_early_in b (remote_of l b older) l (length (joined (told_to l b older))) (length (handed_to l b older)) (given_to l b older)
    (brings b.link e older)

-- Its link is lost, or its device says anew who it is.
abbrev pub detaches : ℕ → Entry → Bool
detaches t (Detach n cause) = nat_eq n t
detaches t _ = false

abbrev pub loses_link : Birth → Entry → History → Bool
loses_link b e older = detaches b.link e || list_any (λ p. is_cnxn p.command && not (is_refused p)) (brings b.link e older)

-- Its link is broken: by a fault of its bytes, or by a CNXN with which no device is taken.
abbrev pub breaks_link : Birth → Entry → History → Bool
breaks_link b e older =
    (is_some (framed (bytes_received b.link (e ∷ older))).fault && not (is_some (framed (bytes_received b.link older)).fault))
    || list_any is_refused (brings b.link e older)

-- The connection of its client fails, with this cause.
abbrev pub failure_of : ℕ → Entry → Option Cause
failure_of c (End n cause) = if nat_eq n c && not (is_orderly cause) then Some cause else None
failure_of c _ = None

-- The server is stopped: a kill stands now.
abbrev pub stops_now : Entry → History → Bool
stops_now e older = is_killed (e ∷ older) && not (is_killed older)

-- Whether anything but its client's orderly end ends a stream at an entry.
abbrev pub is_struck : ℕ → Birth → Entry → History → Bool
is_struck l b e older =
    peer_closes l b e older || writes_early l b e older || loses_link b e older || breaks_link b e older
    || is_some (failure_of b.client e) || stops_now e older

-- ---- its client closed
-- the OKAYs that the device sent after the opening
abbrev pub okays_behind : ℕ → Option Opening → ℕ
okays_behind l None = 0
okays_behind l (Some o) = okays_in o.remote l o.later

abbrev pub okays_after : ℕ → Birth → History → ℕ
okays_after l b h = okays_behind l (opening_of l b h)

-- the orderly end of a client's input
abbrev pub is_close_by : ℕ → Entry → Bool
is_close_by c (End n cause) = nat_eq n c && is_orderly cause
is_close_by c _ = false

-- whether a client closed when a stream had been born
abbrev pub has_closed_since : (l c : ℕ) → History → Bool
has_closed_since l c [] = false
has_closed_since l c (e ∷ older) = (is_some (born l older) && is_close_by c e) || has_closed_since l c older

-- an entry by which a client that ended may be done: its end, or what its device sends
abbrev pub may_finish : Birth → Entry → Bool
may_finish b (Recv n bytes) = nat_eq n b.link
may_finish b e = is_close_by b.client e

-- all writes were answered; or with credit, all bytes were written
abbrev pub IsDone : Bool → ℕ → Birth → History → Type 0
IsDone false l b h = count_from is_wrte l (packets_of b.link h) ≤ okays_after l b h
IsDone true l b h = carried_in l (packets_of b.link h) ≡ rest_of l b h

-- Its client closed after the birth, and all that it wrote went up.
pub record IsClosedByClient (l : ℕ) (b : Birth) (e : Entry) (older : History) : Type 0 where
  pub entry : may_finish b e ≡ true
  pub closed : has_closed_since l b.client (e ∷ older) ≡ true
  pub done : IsDone b.credit l b (e ∷ older)

-- ---- causes
-- the entry e stands in the history, right behind those of older
abbrev pub IsMoment : Entry → History → History → Type 0
IsMoment e older h = (newer : History) × (newer ++ e ∷ older ≡ h)

-- A stream that ends by an entry was born before it, did not end before it, and has this cause there.
pub record EndsFor (Cause : ℕ → Birth → Entry → History → Type 0) (l : ℕ) (e : Entry) (older : History) : Type 0 where
  pub birth : Birth
  pub is : born l older ≡ Some birth
  pub lived : ending_of l older ≡ None
  pub cause : Cause l birth e older

-- at each entry by which a stream ends so
abbrev pub WhereEnds : History → Ending → (ℕ → Birth → Entry → History → Type 0) → Type 0
WhereEnds h ending Cause =
    (l : ℕ) (e : Entry) (older : History) → IsMoment e older h → ending_in l (told_at e older) ≡ Some ending → EndsFor Cause l e older

-- A stream whose client closed: all that the client wrote had gone up.
abbrev pub EndsByClient : History → Type 0
EndsByClient h = WhereEnds h ClientClosed IsClosedByClient

-- A stream whose device closed.
abbrev pub EndsByPeer : History → Type 0
EndsByPeer h = WhereEnds h PeerClosed (λ l b e older. peer_closes l b e older ≡ true)

-- A stream whose device wrote out of turn.
abbrev pub EndsOutOfTurn : History → Type 0
EndsOutOfTurn h = WhereEnds h OutOfTurn (λ l b e older. writes_early l b e older ≡ true)

-- A stream whose link was lost.
abbrev pub EndsByLoss : History → Type 0
EndsByLoss h = WhereEnds h Lost (λ l b e older. loses_link b e older ≡ true)

-- A stream whose link was broken.
abbrev pub EndsByBreak : History → Type 0
EndsByBreak h = WhereEnds h Broken (λ l b e older. breaks_link b e older ≡ true)

-- A stream whose client's connection failed, for that cause.
abbrev pub EndsByFailure : History → Type 0
EndsByFailure h = (cause : Cause) → WhereEnds h (ClientFailed cause) (λ l b e older. failure_of b.client e ≡ Some cause)

-- A stream that ended when the server stopped.
abbrev pub EndsByStop : History → Type 0
EndsByStop h = WhereEnds h Stopped (λ l b e older. stops_now e older ≡ true)

-- At an entry that leaves a stream alive stands none of these but its client's end.
abbrev pub HasNoOtherCause : History → Type 0
HasNoOtherCause h = (l : ℕ) (b : Birth) (e : Entry) (older : History) → IsMoment e older h → born l older ≡ Some b
    → ending_of l (e ∷ older) ≡ None → is_struck l b e older ≡ false

pub record HasCauses (h : History) : Type 0 where
  pub by_client : EndsByClient h
  pub by_peer : EndsByPeer h
  pub out_of_turn : EndsOutOfTurn h
  pub lost : EndsByLoss h
  pub broken : EndsByBreak h
  pub failed : EndsByFailure h
  pub stopped : EndsByStop h
  pub no_other : HasNoOtherCause h
