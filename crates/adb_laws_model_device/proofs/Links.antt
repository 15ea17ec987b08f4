-- What the link that a CNXN makes is like.
use Rattle.std.specs.Prelude.{ℕ, ◌≡◌, ◌≤◌, ◌&&◌, ◌||◌, if◌then◌else◌, nat_lt, is_none, Bool, true, false, Option, Some, None}
use Rattle.std.proofs.Common.{refl, sym, ◌∙◌, ap, arith}
use Rattle.adb_outside.specs.declared.identity.Identity.{Identity}
use Rattle.adb_banner.specs.Banner.{identity_of}
use Rattle.adb_wire.specs.declared.headers.TheConstants.{MAX_PAYLOAD}
use Rattle.adb_wire.specs.declared.packets.Packet.{Packet}
use Rattle.adb_wire.specs.Format.{is_cnxn}
use Rattle.adb_history.specs.Book.{is_refused}
use Rattle.adb_history.specs.Packets.{least_version, least_maxdata}
use Rattle.adb_device_streams.specs.Link.{link_of, link_to}
use Rattle.adb_device_streams.specs.declared.link.Link.{Link}

-- its writes fit into a packet
abbrev pub IsShort : Option Link → Type 0
IsShort None = Unit {0}
IsShort (Some link) = link.most ≤ MAX_PAYLOAD

pub link_short : (most : ℕ) (credit : Bool) (p : Packet) → IsShort (link_of most credit p)
link_short most credit p = unless _ (link_to most credit p (identity_of p.payload)) (by (identity_of p.payload))
  where
    by : (identity : Option Identity) → IsShort (link_to most credit p identity)
    by None = tt
    by (Some identity) = omega arith

    unless : (refused : Bool) (link : Option Link) → IsShort link → IsShort (if refused then None else link)
    unless true link short = tt
    unless false link short = short

-- a device without credit makes a link without it
pub link_plain : (most : ℕ) (p : Packet) (link : Link) → link_of most false p ≡ Some link → link.credit ≡ false
link_plain most p link is = by (identity_of p.payload) (unless _ (link_to most false p (identity_of p.payload)) is)
  where
    credit_in : Option Link → Bool
    credit_in None = false
    credit_in (Some x) = x.credit

    by : (identity : Option Identity) → link_to most false p identity ≡ Some link → link.credit ≡ false
    by None e = let clash : None ≡ Some link = e in cc
    by (Some identity) e = sym (ap (λ (x : Option Link). credit_in x) e)

    unless : (refused : Bool) (made : Option Link) → (if refused then None else made) ≡ Some link → made ≡ Some link
    unless true made e = let clash : None ≡ Some link = e in cc
    unless false made e = e

-- a device refuses what a server refuses
pub refuses_alike : (most : ℕ) (credit : Bool) (p : Packet) → is_cnxn p.command ≡ true → is_none (link_of most credit p) ≡ is_refused p
refuses_alike most credit p cnxn =
    by (nat_lt p.arg0 least_version) (nat_lt p.arg1 least_maxdata) (identity_of p.payload)
    ∙ sym (ap (λ b. b && (nat_lt p.arg0 least_version || nat_lt p.arg1 least_maxdata || is_none (identity_of p.payload))) cnxn)
  where
    by : (old small : Bool) (identity : Option Identity)
        → is_none (if old || small then None else link_to most credit p identity) ≡ (old || small || is_none identity)
    by false false None = refl
    by _ _ _ = refl
