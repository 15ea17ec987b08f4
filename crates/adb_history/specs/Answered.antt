-- The third promise: each whole request of a client is answered from what the server knew at its own entry, and nothing else is said.
use Rattle.std.specs.Prelude.{ℕ, ◌≡◌, ◌⊎◌, Bool, true, false, if◌then◌else◌, ◌&&◌, ◌||◌, not, nat_eq, List, [], ◌∷◌, ◌++◌, length, Option}
use Rattle.std.specs.Prelude.{Some, None, codes}
use Rattle.std.specs.Prelude.{is_some}
use Rattle.adb_outside.specs.Bytes.{IsPrefixOf}
use Rattle.adb_client.specs.declared.phase.Phase.TheVariants.{Tracking}
use Rattle.adb_reply.specs.Strings.{okay, failed}
use Rattle.adb_reply.specs.declared.answer.Next.{Next}
use Rattle.adb_reply.specs.declared.answer.Next.TheVariants.{Track, Open, Bind}
use Rattle.adb_capture.specs.declared.entry.Entry.TheVariants.{Read, Put}
use Rattle.adb_history.specs.Rows.{Client}
use Rattle.adb_history.specs.declared.ending.Ending.{Ending}
use Rattle.adb_history.specs.declared.ending.Ending.TheVariants.{PeerClosed, Lost, Broken}
use Rattle.adb_history.specs.Tracking.{tracked_list}
use Rattle.adb_history.specs.Machine.{History, state}
use Rattle.adb_history.specs.Bytes.{has_joined, has_failed, bytes_put}
use Rattle.adb_history.specs.Book.{asked, newly, devices, bound_reply}
use Rattle.adb_history.specs.Births.{Birth, born, opening_of, told_to, told_before_close, joined}
use Rattle.adb_history.specs.Lives.{output_of, ending_of, lived}

-- ---- the lists of a tracker
abbrev pub list_if : Bool → List ℕ → List ℕ → List ℕ
list_if true list lists = lists ++ list
list_if false list lists = lists

-- The lists that a tracker is handed after its reply: whenever it is handed bytes though all before had been handed
-- out, that is the list of that moment.
abbrev pub lists_of : Bool → ℕ → History → List ℕ
lists_of long c [] = []
lists_of long c (Put n bytes ∷ older) =
    list_if (nat_eq n c && nat_eq (length (bytes_put c older)) (length ((asked c older).replies ++ lists_of long c older)))
    (tracked_list (devices older) long) (lists_of long c older)
lists_of long c (_ ∷ older) = lists_of long c older

-- the last list that was due to a tracker: that of its reply, or of a later moment
abbrev pub reply_list : ℕ → Option Next → History → List ℕ → List ℕ
reply_list c (Some (Track long)) older last = tracked_list (devices older) long
reply_list c _ older last = last

abbrev pub last_list : Bool → ℕ → History → List ℕ
last_list long c [] = []
last_list long c (Put n bytes ∷ older) =
    if nat_eq n c && nat_eq (length (bytes_put c older)) (length ((asked c older).replies ++ lists_of long c older))
    then tracked_list (devices older) long else last_list long c older
last_list long c (Read n bytes ∷ older) =
    if nat_eq n c then reply_list c (newly (asked c older).next (asked c (Read n bytes ∷ older)).next) older (last_list long c older)
    else last_list long c older
last_list long c (_ ∷ older) = last_list long c older

-- ---- what follows the replies
-- a stream that never opened: its client is told so where its device or its link ended it
abbrev pub tells_closed : Option Ending → Bool
tells_closed (Some PeerClosed) = true
tells_closed (Some Lost) = true
tells_closed (Some Broken) = true
tells_closed _ = false

abbrev pub closed_reply : Bool → List ℕ
closed_reply true = (failed (codes "closed")).bytes
closed_reply false = []

-- whether a stream was opened while its client's connection had not failed
abbrev pub is_heard : ℕ → Birth → History → Bool
is_heard l b [] = false
is_heard l b (e ∷ older) =
    is_heard l b older || (is_some (opening_of l b (e ∷ older)) && not (is_some (opening_of l b older)) && not (has_failed b.client older))

-- what became due of all that a device wrote, by the end of its stream: all, while that lives; where the device's
-- close ended it, all before the close; where
-- another cause did, what it wrote while the stream lived, at least, and no more than all
abbrev pub FollowsUpTo : Option Ending → (told before_close while_alive bytes : List ℕ) → Type 0
FollowsUpTo None told before_close while_alive bytes = bytes ≡ told
FollowsUpTo (Some PeerClosed) told before_close while_alive bytes = bytes ≡ before_close
FollowsUpTo (Some ending) told before_close while_alive bytes = IsPrefixOf while_alive bytes × IsPrefixOf bytes told

-- what the device of a stream wrote to it, up to the stream's end
abbrev pub FollowsTold : History → ℕ → Birth → List ℕ → Type 0
FollowsTold h l b bytes =
    FollowsUpTo (ending_of l h) (joined (told_to l b h)) (joined (told_before_close l b h)) (joined (told_to l b (lived l h))) bytes

-- what follows the request for a stream: `OKAY` and what the device wrote, where the client heard that it is open;
-- else why it was not opened
abbrev pub FollowsOpen : Bool → History → ℕ → Birth → List ℕ → Type 0
FollowsOpen true h l b after = (bytes : List ℕ) × (after ≡ okay ++ bytes) × FollowsTold h l b bytes
FollowsOpen false h l b after = after ≡ closed_reply (tells_closed (ending_of l h))

-- a stream that a client asked for
pub record IsStreamOf (h : History) (c l : ℕ) (b : Birth) : Type 0 where
  pub is : born l h ≡ Some b
  pub client : b.client ≡ c

-- no stream was born for a client
abbrev pub IsStreamless : History → ℕ → Type 0
IsStreamless h c = (l : ℕ) (b : Birth) → IsStreamOf h c l b → ⊥

-- what follows the request for a stream; where no id was left, that
abbrev pub AnswersOpen : History → ℕ → List ℕ → Type 0
AnswersOpen h c after =
    ((l : ℕ) × (b : Birth) × IsStreamOf h c l b × FollowsOpen (is_heard l b h) h l b after)
    ⊎ (IsStreamless h c × (after ≡ (failed (codes "no stream ids left")).bytes))

-- whether nothing more follows the reply to a request
abbrev pub is_all : Option Next → Bool
is_all (Some (Bind transport local remote chosen)) = false
is_all (Some (Open transport service)) = false
is_all (Some (Track long)) = false
is_all _ = true

-- ---- a client that came by itself is answered
-- whether nothing is due to a client that tracks, and its list is not stale
abbrev pub IsUpToDate : Option Client → Type 0
IsUpToDate None = ⊥
IsUpToDate (Some client) = (client.about.phase ≡ Tracking) × (client.due ≡ []) × (client.about.mark ≡ false)

-- What was handed out is a front of what became due, and that begins with the replies to its whole requests, in order.
pub record RepliesFirst (h : History) (c : ℕ) : Type 0 where
  pub handed : IsPrefixOf (bytes_put c h) (output_of c h)
  pub begins : IsPrefixOf (asked c h).replies (output_of c h)

-- A forward whose port is to be bound is answered when its listener stands, or could not be made.
abbrev pub RepliesWhenBound : History → ℕ → Type 0
RepliesWhenBound h c = (transport local : ℕ) (remote : List ℕ) (chosen : Bool)
    → (asked c h).next ≡ Some (Bind transport local remote chosen)
    → output_of c h ≡ (asked c h).replies ++ bound_reply c h

-- what became due to a client behind its replies
pub record IsBehindReplies (h : History) (c : ℕ) (Behind : List ℕ → Type 0) : Type 0 where
  pub after : List ℕ
  pub output : output_of c h ≡ (asked c h).replies ++ after
  pub is : Behind after

-- A service is answered by its device, and then come the bytes that the device wrote, all that came by the end of the stream.
abbrev pub RepliesOfStream : History → ℕ → Type 0
RepliesOfStream h c = (transport : ℕ) (service : List ℕ) → (asked c h).next ≡ Some (Open transport service)
    → IsBehindReplies h c (AnswersOpen h c)

-- A tracker is handed lists, each that of the moment when its first byte was handed out.
abbrev pub ListsTracked : History → ℕ → Type 0
ListsTracked h c = (long : Bool) → (asked c h).next ≡ Some (Track long) → output_of c h ≡ (asked c h).replies ++ lists_of long c h

-- A tracker to which nothing is due has the present list.
abbrev pub HasPresentList : History → ℕ → Type 0
HasPresentList h c = (long : Bool) → (asked c h).next ≡ Some (Track long) → IsUpToDate ((state h).clients c)
    → last_list long c h ≡ tracked_list (devices h) long

-- Nothing more is said.
abbrev pub SaysNothingMore : History → ℕ → Type 0
SaysNothingMore h c = is_all (asked c h).next ≡ true → output_of c h ≡ (asked c h).replies

-- A client that came by itself is answered.
pub record IsAnsweredAt (h : History) (c : ℕ) : Type 0 where
  pub replies : RepliesFirst h c
  pub bound_reply : RepliesWhenBound h c
  pub stream_reply : RepliesOfStream h c
  pub tracked_lists : ListsTracked h c
  pub present_list : HasPresentList h c
  pub nothing_more : SaysNothingMore h c

-- What became due to a client that came through a forward is what the device wrote to its stream, and nothing else.
abbrev pub HasStreamAlone : History → ℕ → Type 0
HasStreamAlone h c =
    ((l : ℕ) × (b : Birth) × IsStreamOf h c l b × FollowsTold h l b (output_of c h)) ⊎ (IsStreamless h c × (output_of c h ≡ []))

pub record IsAnswered (h : History) : Type 0 where
  pub joined : (c : ℕ) → has_joined c h ≡ true → IsAnsweredAt h c
  pub entered : (c : ℕ) → has_joined c h ≡ false → HasStreamAlone h c
