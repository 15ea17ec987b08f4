-- The link to the host (protocol.txt, CNXN).
use Rattle.std.specs.Prelude.{ℕ, ◌==◌, ◌&&◌, ◌||◌, min, nat_lt, if◌then◌else◌, Bool, List, length, Option, Some, None, codes}
use Rattle.byteorder.specs.Endian.{little_number}
use Rattle.adb_outside.specs.declared.identity.Identity.{Identity}
use Rattle.adb_banner.specs.Banner.{identity_of, is_feature}
use Rattle.adb_wire.specs.declared.headers.TheConstants.{MAX_PAYLOAD}
use Rattle.adb_wire.specs.declared.limits.TheConstants.{MIN_VERSION, MIN_MAXDATA}
use Rattle.adb_wire.specs.declared.packets.Packet.{Packet}
use Rattle.adb_wire.specs.Format.{has_sums}
use Rattle.adb_device_streams.specs.declared.link.Link.{Link}

-- the link to a host of an identity: the lesser of what both ends take, credit where both name it, and sums where the
-- host's version has them
abbrev pub link_to : ℕ → Bool → Packet → Option Identity → Option Link
link_to own_most has_credit cnxn None = None
link_to own_most has_credit cnxn (Some identity) = Some (record {
  most = min (min cnxn.arg1 MAX_PAYLOAD) own_most;
  credit = has_credit && is_feature identity.features (codes "hub_credit");
  sums = has_sums cnxn.arg0;
})

-- the link that a host's CNXN makes, where it is not refused
abbrev pub link_of : ℕ → Bool → Packet → Option Link
link_of own_most has_credit cnxn =
    if nat_lt cnxn.arg0 MIN_VERSION || nat_lt cnxn.arg1 MIN_MAXDATA then None
    else link_to own_most has_credit cnxn (identity_of cnxn.payload)

-- the credit word of an OKAY: its payload, where that has exactly four bytes
abbrev pub credit_word_in : List ℕ → Option ℕ
credit_word_in payload = if length payload == 4 then Some (little_number 4 payload) else None
