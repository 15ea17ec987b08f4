-- What a server sends is taken: its CNXN is not refused, and its bytes have no fault.
use Rattle.std.specs.Prelude.{ℕ, ◌≡◌, if◌then◌else◌, Bool, true, false, All, List, [], ◌∷◌, fold, is_some, Option, Some, None, Ok}
use Rattle.std.proofs.Common.{refl, sym, ◌∙◌, ap}
use Rattle.std.proofs.lemmas.List.Elements.{All-weaker, All-head, All-tail}
use Rattle.adb_banner.specs.Banner.{identity_of, last_value}
use Rattle.adb_wire.specs.Cutting.{framed}
use Rattle.adb_wire.specs.Format.{is_cnxn}
use Rattle.adb_wire.specs.declared.command.Command.{Command}
use Rattle.adb_wire.specs.declared.command.Command.TheVariants as commands
use Rattle.adb_wire.specs.declared.packets.Packet.{Packet}
use Rattle.adb_history.specs.Links.{server_cnxn}
use Rattle.adb_history.specs.Machine.{History, IsLegal}
use Rattle.adb_history.specs.Bytes.{bytes_sent, sent}
use Rattle.adb_history.specs.Fifo.{IsOwn}
use Rattle.adb_laws_births.proofs.Crossing.{no_crossing}
use Rattle.adb_laws_births.proofs.Sent.{all_packets}
use Rattle.adb_device_streams.specs.Link.{link_of}
use Rattle.adb_device_streams.specs.declared.link.Link.{Link}
use Rattle.adb_daemon.specs.Daemon.{verdict, answer_to}
use Rattle.adb_daemon.specs.Device.{Device, Setting, step, treated, linked_to, served_on, first_device, device_behind}

-- a CNXN is that of the server
abbrev IsServers : Packet → Type 0
IsServers p = is_cnxn p.command ≡ true → p ≡ server_cnxn

-- so are those that it sends
own_servers : (h : History) (t : ℕ) (p : Packet) (command : Command) → p.command ≡ command → IsOwn h t command p → IsServers p
own_servers h t p commands.Cnxn c own = λ e. own
own_servers h t p commands.Auth c own = absurd own
own_servers h t p commands.Stls c own = absurd own
own_servers h t p _ c own = λ e. absurd (let clash : false ≡ true = sym (ap is_cnxn c) ∙ e in cc)

-- the server's CNXN makes a link with any device
pub makes_link : (most : ℕ) (credit : Bool) → is_some (link_of most credit server_cnxn) ≡ true
unfolding identity_of last_value
makes_link most credit = refl

-- so no packet of the server is refused
step_takes : (setting : Setting) (d : Device) (p : Packet) → IsServers p → d.refused ≡ false → (step setting d p).refused ≡ false
unfolding step
step_takes setting d p own sound = ap (λ (b : Bool). (if b then d else treated setting p d).refused) sound ∙ by (is_cnxn p.command) refl
  where
    linked : (link : Option Link) → is_some link ≡ true → (linked_to link d).refused ≡ false
    linked None some = let clash : false ≡ true = some in cc
    linked (Some link) some = sound

    on : (link : Option Link) → (served_on link p d).refused ≡ false
    on None = sound
    on (Some link) = sound

    by : (b : Bool) → is_cnxn p.command ≡ b
        → (if b then linked_to (link_of setting.most setting.credit p) d else served_on d.link p d).refused ≡ false
    by true e = linked (link_of setting.most setting.credit p)
        (ap (λ (q : Packet). is_some (link_of setting.most setting.credit q)) (own e) ∙ makes_link setting.most setting.credit)
    by false e = on d.link

-- nor are all packets
all_taken : (setting : Setting) (packets : List Packet) → All IsServers packets → (d : Device) → d.refused ≡ false
    → (fold (step setting) d packets).refused ≡ false
all_taken setting [] own d sound = sound
all_taken setting (p ∷ packets) own d sound =
    all_taken setting packets (All-tail IsServers p packets own) (step setting d p)
    (step_takes setting d p (All-head IsServers p packets own) sound)

-- a device is never behind a refused CNXN of a server
pub never_refused : (setting : Setting) (t : ℕ) (h : History) → IsLegal h → (device_behind setting (sent t h)).refused ≡ false
never_refused setting t h legal =
    all_taken setting (sent t h)
    (All-weaker (λ p. IsOwn h t p.command p) IsServers (λ p own. own_servers h t p p.command refl own) (sent t h)
    ((no_crossing h legal).own t))
    (first_device setting) refl

-- and the bytes have no fault
pub taken : (setting : Setting) (h : History) (t : ℕ) → IsLegal h → answer_to setting (bytes_sent t h) ≡ Ok tt
taken setting h t legal =
    ap (λ refused. verdict refused (framed (bytes_sent t h)).fault) (never_refused setting t h legal)
    ∙ ap (verdict false) (all_packets h legal t)
