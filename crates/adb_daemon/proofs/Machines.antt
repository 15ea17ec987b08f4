-- What a packet leaves of the device.
use Rattle.std.specs.Prelude.{ℕ, ◌≡◌, Bool, true, false, if◌then◌else◌, List, [], ◌∷◌, ◌++◌, fold, Option, Some}
use Rattle.std.proofs.Common.{refl, sym, ◌∙◌, ap, subst}
use Rattle.adb_wire.specs.Format.{is_cnxn}
use Rattle.adb_wire.specs.declared.packets.Packet.{Packet}
use Rattle.adb_device_streams.specs.Link.{link_of}
use Rattle.adb_device_streams.specs.declared.link.Link.{Link}
use Rattle.adb_daemon.specs.Serving.{served}
use Rattle.adb_daemon.specs.Device.{Device, Setting, step, treated, linked_to, served_on}
use Rattle.adb_daemon.specs.Held.{Holds, view_of}
use Rattle.adb_daemon.specs.Behind.{Stands}
use Rattle.adb_daemon.specs.declared.services.Services.{Services}
use Rattle.adb_daemon.specs.declared.machine.Machine.{Machine}

module _ (setting : Setting) (d : Device) where
  -- a packet behind a refused CNXN, and another one
  pub step_refused : (p : Packet) → d.refused ≡ true → step setting d p ≡ d
  unfolding step
  step_refused p is = ap (λ (b : Bool). if b then d else treated setting p d) is

  pub step_open : (p : Packet) → d.refused ≡ false → step setting d p ≡ treated setting p d
  unfolding step
  step_open p is = ap (λ (b : Bool). if b then d else treated setting p d) is

  pub all_refused : (packets : List Packet) → d.refused ≡ true → fold (step setting) d packets ≡ d
  all_refused [] is = refl
  all_refused (p ∷ more) is = ap (λ (e : Device). fold (step setting) e more) (step_refused p is) ∙ all_refused more is

-- packets behind packets
pub step_more : (setting : Setting) (d : Device) (front more : List Packet)
    → fold (step setting) d (front ++ more) ≡ fold (step setting) (fold (step setting) d front) more
step_more setting d [] more = refl
step_more setting d (p ∷ front) more = step_more setting (step setting d p) front more

module _ (setting : Setting) (d : Device) (p : Packet) (taken : List ℕ) (machine : Machine) (h : Stands d taken machine) where
  -- a packet that speaks of a stream, on a link
  pub serves : (link : Link) (services : Services) → is_cnxn p.command ≡ false → machine.link ≡ Some link
      → Holds (served p.command link p d.serving) taken (view_of services)
      → Stands (treated setting p d) taken (record machine { services = services })
  serves link services other linked held =
      let on : d.link ≡ Some link = sym h.link ∙ linked in
      subst (λ (t : Bool). Stands (if t then linked_to (link_of setting.most setting.credit p) d else served_on d.link p d) taken
      (record machine { services = services }))
      (sym other) (subst (λ (l : Option Link). Stands (served_on l p d) taken (record machine { services = services })) (sym on)
      (record { link = h.link; refused = h.refused; holds = held }))

  pub passes : machine.refused ≡ true → Stands (step setting d p) taken machine
  passes is = subst (λ (e : Device). Stands e taken machine) (sym (step_refused setting d p (sym h.refused ∙ is))) h

  pub steps : (new : Machine) → machine.refused ≡ false → Stands (treated setting p d) taken new → Stands (step setting d p) taken new
  steps new is stands = subst (λ (e : Device). Stands e taken new) (sym (step_open setting d p (sym h.refused ∙ is))) stands
