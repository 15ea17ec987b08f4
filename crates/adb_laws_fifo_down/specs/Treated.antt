-- What a packet of its link makes of what is seen of a stream (protocol.txt).
use Rattle.std.specs.Prelude.{ℕ, ◌+◌, ◌-◌, ◌==◌, Bool, true, false, if◌then◌else◌, ◌||◌, not, nat_eq, nat_lt, List, [], ◌∷◌, ◌++◌, length}
use Rattle.std.specs.Prelude.{Option, Some, None}
use Rattle.std.specs.Prelude.{codes}
use Rattle.adb_outside.specs.declared.identity.Identity.{Identity}
use Rattle.adb_banner.specs.Banner.{identity_of}
use Rattle.adb_wire.specs.declared.command.Command.{Command}
use Rattle.adb_wire.specs.declared.command.Command.TheVariants.{Cnxn, Open, Okay, Wrte, Clse, Auth, Stls}
use Rattle.adb_wire.specs.declared.packets.Packet.{Packet}
use Rattle.adb_client.specs.declared.phase.Phase.TheVariants.{Streaming}
use Rattle.adb_history.specs.declared.ending.Ending.{Ending}
use Rattle.adb_history.specs.declared.ending.Ending.TheVariants.{PeerClosed, OutOfTurn, Lost, Broken}
use Rattle.adb_history.specs.Links.{okay_packet}
use Rattle.adb_history.specs.Packets.{least_version, least_maxdata}
use Rattle.adb_laws_fifo_down.specs.Line.{Line, SeenStream, SeenClient, View, over}

-- ---- OKAY
-- the client hears that its stream is open, unless it came through a forward
abbrev pub hears_as : Bool → ℕ → SeenClient → View → View
hears_as true l a v = record v { client = Some (record a { phase = Streaming l }) }
hears_as false l a v = record v {
  client = Some (record a { phase = Streaming l; due = a.due ++ codes "OKAY" });
  output = v.output ++ codes "OKAY";
}

abbrev pub hears_open : ℕ → Option SeenClient → View → View
hears_open l None v = v
hears_open l (Some a) v = hears_as a.forwarded l a v

-- the first OKAY opens the stream; an orphan is closed
abbrev pub opened_as : Bool → (l remote : ℕ) → SeenStream → View → View
opened_as true l remote x v = record v { stream = None }
opened_as false l remote x v = hears_open l v.client (record v { stream = Some (record x { remote = remote }) })

abbrev pub after_okay : (l remote : ℕ) → SeenStream → View → View
after_okay l remote x v = if remote == 0 then v else (if x.remote == 0 then opened_as x.orphan l remote x v else v)

-- ---- WRTE
abbrev pub is_late : SeenStream → ℕ → Bool
is_late x n = if x.credit then nat_lt x.left n else nat_lt 0 x.to_hand

abbrev pub takes : ℕ → SeenStream → SeenStream
takes n x = if x.credit then record x { left = x.left - n; to_hand = x.to_hand + n } else record x { to_hand = n }

-- bytes become due to the client, if it is there
abbrev pub due_more : List ℕ → Option SeenClient → Option SeenClient
due_more bytes None = None
due_more bytes (Some a) = Some (record a { due = a.due ++ bytes })

-- a write is accepted; one without bytes is acknowledged at once where there is no credit
abbrev pub accepts_as : ℕ → List ℕ → SeenStream → View → View
accepts_as l [] x v = if x.credit then v else record v { okays = v.okays ++ okay_packet l x.remote ∷ [] }
accepts_as l (b ∷ payload) x v = record v {
  stream = Some (takes (length (b ∷ payload)) x);
  client = due_more (b ∷ payload) v.client;
  output = v.output ++ b ∷ payload;
}

abbrev pub after_write : (l remote : ℕ) → List ℕ → SeenStream → View → View
after_write l remote payload x v =
    if remote == 0 || not (remote == x.remote) then v
    else (if is_late x (length payload) then over x.orphan OutOfTurn v else accepts_as l payload x v)

-- ---- CLSE
abbrev pub after_close : ℕ → SeenStream → View → View
after_close remote x v = if remote == 0 || remote == x.remote then over x.orphan PeerClosed v else v

-- ---- CNXN
-- how the streams of a link end that says anew who it is
abbrev pub ending_by : Bool → Option Identity → Ending
ending_by true who = Broken
ending_by false None = Broken
ending_by false (Some identity) = Lost

abbrev pub cnxn_ending : Packet → Ending
cnxn_ending p = ending_by (nat_lt p.arg0 least_version || nat_lt p.arg1 least_maxdata) (identity_of p.payload)

-- ---- one packet
abbrev pub treated_as : ℕ → Command → Packet → SeenStream → View → View
treated_as l Cnxn p x v = over x.orphan (cnxn_ending p) v
treated_as l Okay p x v = if nat_eq p.arg1 l then after_okay l p.arg0 x v else v
treated_as l Wrte p x v = if nat_eq p.arg1 l then after_write l p.arg0 p.payload x v else v
treated_as l Clse p x v = if nat_eq p.arg1 l then after_close p.arg0 x v else v
treated_as l Open p x v = v
treated_as l Auth p x v = v
treated_as l Stls p x v = v

abbrev pub treated_on : Option SeenStream → ℕ → Packet → View → View
treated_on None l p v = v
treated_on (Some x) l p v = treated_as l p.command p x v

abbrev pub treated : Line → Packet → View → View
treated b p v = treated_on v.stream b.id p v
