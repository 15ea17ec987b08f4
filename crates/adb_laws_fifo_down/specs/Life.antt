-- The life of a stream, in what is seen of it: it waits for its device, or is an orphan, or is open, or is over; and
-- what became due to its client by then.
use Rattle.std.specs.Prelude.{ℕ, ◌≡◌, ◌≢◌, ◌⊎◌, Bool, true, false, List, ◌++◌, Option, Some, None, codes, zero, suc}
use Rattle.adb_outside.specs.Bytes.{IsPrefixOf}
use Rattle.adb_wire.specs.declared.packets.Packet.{Packet}
use Rattle.adb_client.specs.declared.phase.Phase.TheVariants.{Opening, Streaming, Closing}
use Rattle.adb_history.specs.declared.ending.Ending.{Ending}
use Rattle.adb_history.specs.declared.ending.Ending.TheVariants.{PeerClosed}
use Rattle.adb_history.specs.Births as birth
use Rattle.adb_history.specs.Births.{opening_in, told_in, before_close, joined}
use Rattle.adb_laws_fifo_down.specs.Line.{SeenStream, SeenClient, View, fail_bytes}

-- What was so when the stream was born: whether it has credit; whether its client came through a forward; and what
-- had become due to its client.
pub record Cradle : Type 0 where
  pub credit : Bool
  pub forwarded : Bool
  pub replies : List ℕ

abbrev pub okay_after : Bool → List ℕ → List ℕ
okay_after true replies = replies
okay_after false replies = replies ++ codes "OKAY"

-- what comes before the bytes of the stream
abbrev pub lead : Cradle → List ℕ
lead k = okay_after k.forwarded k.replies

-- the packets have neither opened nor closed the stream
abbrev pub IsPending : ℕ → List Packet → Type 0
IsPending l packets = (more : List Packet) → opening_in l (packets ++ more) ≡ opening_in l more

-- no packet opens it any more
abbrev pub IsSealed : ℕ → List Packet → Type 0
IsSealed l packets = (more : List Packet) → opening_in l (packets ++ more) ≡ None

-- it never opens
pub record NeverOpens (l : ℕ) (packets : List Packet) (shut : Bool) : Type 0 where
  pub unopened : opening_in l packets ≡ None
  pub for_good : (shut ≡ true) ⊎ IsSealed l packets

-- what became due to the client of a stream that never opens, while it waited: its replies, and where it came by
-- itself, that the stream is closed
abbrev pub unopened_output : Bool → List ℕ → List ℕ
unopened_output true replies = replies
unopened_output false replies = replies ++ fail_bytes

-- its device did not close it
abbrev pub IsNotByPeer : Option Ending → Type 0
IsNotByPeer ending = ending ≢ Some PeerClosed

-- what is seen of its client, and of its end
pub record Heard : Type 0 where
  pub client : Option SeenClient
  pub output : List ℕ
  pub ending : Option Ending

abbrev pub heard : View → Heard
heard v = record { client = v.client; output = v.output; ending = v.ending }

-- ---- while it lives
pub record IsWaiting (l : ℕ) (k : Cradle) (packets : List Packet) (y : Heard) : Type 0 where
  pub client : SeenClient
  pub here : y.client ≡ Some client
  pub phase : client.phase ≡ Opening l
  pub forwarded : client.forwarded ≡ k.forwarded
  pub output : y.output ≡ k.replies
  pub pending : IsPending l packets
  pub ending : y.ending ≡ None

-- its client was gone before its device opened it
pub record IsUnheard (k : Cradle) (output : List ℕ) (ending : Option Ending) : Type 0 where
  pub output_is : output ≡ k.replies
  pub not_by_peer : IsNotByPeer ending

pub record IsOrphaned (remote : ℕ) (k : Cradle) (y : Heard) : Type 0 where
  pub remote_is : remote ≡ 0
  pub gone : y.client ≡ None
  pub unheard : IsUnheard k y.output y.ending

pub record IsOpened (remote l : ℕ) (k : Cradle) (packets : List Packet) (y : Heard) : Type 0 where
  pub client : SeenClient
  pub here : y.client ≡ Some client
  pub phase : client.phase ≡ Streaming l
  pub opening : birth.Opening
  pub opened : opening_in l packets ≡ Some opening
  pub told_as : opening.remote ≡ remote
  pub output : y.output ≡ lead k ++ joined (told_in opening.remote l opening.later)
  pub unclosed : before_close opening.remote l opening.later ≡ opening.later
  pub ending : y.ending ≡ None

-- ---- when it is over
-- its device closed it, and all that it had written became due
pub record IsClosedAt (l : ℕ) (o : birth.Opening) (bytes : List ℕ) : Type 0 where
  pub whole : bytes ≡ joined (told_in o.remote l (before_close o.remote l o.later))
  pub closed : (more : List Packet) → before_close o.remote l (o.later ++ more) ≡ before_close o.remote l o.later

pub record WasOpen (l : ℕ) (k : Cradle) (packets : List Packet) (output : List ℕ) (ending : Option Ending) : Type 0 where
  pub opening : birth.Opening
  pub opened : opening_in l packets ≡ Some opening
  pub bytes : List ℕ
  pub output_is : output ≡ lead k ++ bytes
  pub front : IsPrefixOf bytes (joined (told_in opening.remote l opening.later))
  pub closed : ending ≡ Some PeerClosed → IsClosedAt l opening bytes

-- a client that is there is closing
abbrev pub IsDone : Option SeenClient → Type 0
IsDone client = (a : SeenClient) → client ≡ Some a → a.phase ≡ Closing

abbrev pub Story : ℕ → Cradle → List Packet → Bool → Heard → Type 0
Story l k packets shut y =
    (NeverOpens l packets shut × (y.output ≡ unopened_output k.forwarded k.replies))
    ⊎ (IsUnheard k y.output y.ending ⊎ WasOpen l k packets y.output y.ending)

-- ---- all
abbrev pub LivesAs : Bool → (remote l : ℕ) → Cradle → List Packet → Heard → Type 0
LivesAs true remote l k packets y = IsOrphaned remote k y
LivesAs false zero l k packets y = IsWaiting l k packets y
LivesAs false (suc r) l k packets y = IsOpened (suc r) l k packets y

abbrev pub LivesIn : Option SeenStream → ℕ → Cradle → List Packet → Bool → Heard → Type 0
LivesIn None l k packets shut y = IsDone y.client × Story l k packets shut y
LivesIn (Some x) l k packets shut y = LivesAs x.orphan x.remote l k packets y

-- what was handed out is a front of what became due, and what is due is the rest
abbrev pub TiedTo : Option SeenClient → (output out : List ℕ) → Type 0
TiedTo None output out = IsPrefixOf out output
TiedTo (Some a) output out = output ≡ out ++ a.due

pub record Life (l : ℕ) (k : Cradle) (packets : List Packet) (shut : Bool) (out : List ℕ) (v : View) : Type 0 where
  pub tied : TiedTo v.client v.output out
  pub lives : LivesIn v.stream l k packets shut (heard v)
