-- Which link a model device has to its server.
use Rattle.std.specs.Prelude.{ℕ, ◌≡◌, ◌<◌, if◌then◌else◌, min, Bool, true, false, All, List, [], ◌∷◌, fold, Option, Some, None}
use Rattle.std.proofs.Common.{refl, sym, ◌∙◌, ap, subst, arith}
use Rattle.std.proofs.lemmas.List.Elements.{All-weaker, All-head, All-tail}
use Rattle.adb_outside.specs.declared.identity.Identity.{Identity}
use Rattle.adb_banner.specs.Banner.{identity_of}
use Rattle.adb_wire.specs.Format.{is_cnxn}
use Rattle.adb_wire.specs.declared.command.Command.{Command}
use Rattle.adb_wire.specs.declared.command.Command.TheVariants as commands
use Rattle.adb_wire.specs.declared.headers.TheConstants.{MAX_PAYLOAD}
use Rattle.adb_wire.specs.declared.packets.Packet.{Packet}
use Rattle.adb_history.specs.Links.{server_cnxn}
use Rattle.adb_history.specs.Machine.{History, IsLegal}
use Rattle.adb_history.specs.Bytes.{sent}
use Rattle.adb_history.specs.Fifo.{IsOwn}
use Rattle.adb_laws_births.proofs.Crossing.{no_crossing}
use Rattle.adb_device_streams.specs.Link.{link_of, link_to}
use Rattle.adb_device_streams.specs.declared.link.Link.{Link}
use Rattle.adb_daemon.specs.Device.{Device, Setting, step, treated, linked_to, served_on, first_device, device_behind}

-- a link is one that a CNXN among the packets made
abbrev IsMadeBy : (setting : Setting) (P : Packet → Type 0) → Option Link → Type 0
IsMadeBy setting P None = Unit {0}
IsMadeBy setting P (Some link) = (p : Packet) × (P p × ((is_cnxn p.command ≡ true) × (link_of setting.most setting.credit p ≡ Some link)))

module _ (setting : Setting) (P : Packet → Type 0) where
  step_made : (d : Device) (p : Packet) → P p → IsMadeBy setting P d.link → IsMadeBy setting P (step setting d p).link
  unfolding step
  step_made d p holds made = go d.refused
    where
      linked : is_cnxn p.command ≡ true → (link : Option Link) → link_of setting.most setting.credit p ≡ link
          → IsMadeBy setting P (linked_to link d).link
      linked e None is = made
      linked e (Some link) is = (p, (holds, (e, is)))

      on : (link : Option Link) → IsMadeBy setting P (served_on link p d).link
      on None = made
      on (Some link) = made

      by : (b : Bool) → is_cnxn p.command ≡ b
          → IsMadeBy setting P (if b then linked_to (link_of setting.most setting.credit p) d else served_on d.link p d).link
      by true e = linked e (link_of setting.most setting.credit p) refl
      by false e = on d.link

      go : (b : Bool) → IsMadeBy setting P (if b then d else treated setting p d).link
      go true = made
      go false = by (is_cnxn p.command) refl

  all_made : (packets : List Packet) → All P packets → (d : Device) → IsMadeBy setting P d.link
      → IsMadeBy setting P (fold (step setting) d packets).link
  all_made [] all d made = made
  all_made (p ∷ packets) all d made =
      all_made packets (All-tail P p packets all) (step setting d p) (step_made d p (All-head P p packets all) made)

  -- the link of a device behind packets
  pub made_link : (packets : List Packet) → All P packets → (link : Link) → (device_behind setting packets).link ≡ Some link
      → (p : Packet) × (P p × ((is_cnxn p.command ≡ true) × (link_of setting.most setting.credit p ≡ Some link)))
  made_link packets all link is =
      subst (λ (o : Option Link). IsMadeBy setting P o) is (all_made packets all (first_device setting) tt)

-- a write on a link has no more bytes than the lesser of both limits
link_most : (most : ℕ) (credit : Bool) (p : Packet) (link : Link) → link_of most credit p ≡ Some link
    → link.most ≡ min (min p.arg1 MAX_PAYLOAD) most
link_most most credit p link is = by (identity_of p.payload) (unless _ (link_to most credit p (identity_of p.payload)) is)
  where
    most_in : Option Link → ℕ
    most_in None = 0
    most_in (Some x) = x.most

    by : (identity : Option Identity) → link_to most credit p identity ≡ Some link → link.most ≡ min (min p.arg1 MAX_PAYLOAD) most
    by None e = let clash : None ≡ Some link = e in cc
    by (Some identity) e = sym (ap (λ (x : Option Link). most_in x) e)

    unless : (refused : Bool) (made : Option Link) → (if refused then None else made) ≡ Some link → made ≡ Some link
    unless true made e = let clash : None ≡ Some link = e in cc
    unless false made e = e

-- a CNXN is that of the server
abbrev IsServers : Packet → Type 0
IsServers p = is_cnxn p.command ≡ true → p ≡ server_cnxn

own_servers : (h : History) (t : ℕ) (p : Packet) (command : Command) → p.command ≡ command → IsOwn h t command p → IsServers p
own_servers h t p commands.Cnxn c own = λ e. own
own_servers h t p commands.Auth c own = absurd own
own_servers h t p commands.Stls c own = absurd own
own_servers h t p _ c own = λ e. absurd (let clash : false ≡ true = sym (ap is_cnxn c) ∙ e in cc)

-- so a device that takes bytes at all has a link to its server on which it may write
pub link_takes : (setting : Setting) (h : History) → IsLegal h → 0 < setting.most → (link : Link)
    → (device_behind setting (sent 1 h)).link ≡ Some link
    → 0 < link.most
link_takes setting h legal some link is =
    let made = made_link setting IsServers (sent 1 h)
    (All-weaker (λ p. IsOwn h 1 p.command p) IsServers (λ p own. own_servers h 1 p p.command refl own) (sent 1 h)
    ((no_crossing h legal).own 1)) link is in
    let most = link_most setting.most setting.credit made.0 link made.1.1.1 in
    let same : made.0.arg1 ≡ MAX_PAYLOAD = ap (λ (p : Packet). p.arg1) (made.1.0 made.1.1.0) in
    omega (arith, most, same, some)
