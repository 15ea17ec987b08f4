-- What a link holds, and what becomes due on it.
use Rattle.std.specs.Prelude.{ℕ, ◌-◌, ◌≡◌, ◌≤◌, if◌then◌else◌, List, [], ◌++◌, length}
use Rattle.adb_wire.specs.declared.command.Command.{Command}
use Rattle.adb_wire.specs.declared.headers.Head.{Head}
use Rattle.adb_wire.specs.declared.headers.TheConstants.{MAX_PAYLOAD}
use Rattle.adb_wire.specs.declared.packets.Packet.{Packet}
use Rattle.adb_wire.specs.Packet.{spelling, check_of}
use Rattle.adb_wire.specs.Format.{is_cnxn}
use Rattle.adb_wire.specs.Cutting.{goes_with_sum}
use Rattle.adb_wire.specs.Deframing.{Deframing, no_bytes}

-- incoming: what its deframer holds; version: that of the last CNXN that was taken, 0 before the first; due: the bytes that are
-- still to be handed out; spare: how many packets more can be owed without memory
pub record Linked : Type 0 where
  pub incoming : Deframing
  pub version : ℕ
  pub due : List ℕ
  pub spare : ℕ

-- a link on which nothing happened
abbrev pub new_link : Linked
new_link = record { incoming = no_bytes; version = 0; due = []; spare = 0 }

-- the version after a packet with that command and first argument was taken: a CNXN says it
abbrev pub version_past : ℕ → Command → ℕ → ℕ
version_past version command arg0 = if is_cnxn command then arg0 else version

-- the link with a packet that is due next, with the check word that the link's version fixes now
abbrev pub owing : Linked → Packet → Linked
owing link p = record {
  incoming = link.incoming;
  version = link.version;
  due = link.due ++ spelling p (check_of (goes_with_sum link.version p) p);
  spare = link.spare;
}

-- the same, in a spare place
abbrev pub placing : Linked → Packet → Linked
placing link p = record {
  incoming = link.incoming;
  version = link.version;
  due = link.due ++ spelling p (check_of (goes_with_sum link.version p) p);
  spare = link.spare - 1;
}

-- A header tells the length of that payload, which is allowed.
pub record IsHeadOf (head : Head) (payload : List ℕ) : Type 0 where
  pub len : head.length ≡ length payload
  pub size : length payload ≤ MAX_PAYLOAD
