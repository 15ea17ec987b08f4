-- Packets, treated one behind the other.
use Rattle.std.specs.Prelude.{ℕ, ◌≡◌, List, [], ◌∷◌, ◌++◌, fold, Some}
use Rattle.std.proofs.Common.{sym, ◌∙◌, ap, subst}
use Rattle.std.proofs.lemmas.List.{append_assoc}
use Rattle.adb_wire.specs.declared.packets.Packet.{Packet}
use Rattle.adb_wire.specs.Deframing.{Deframing, StandsFor, Gives}
use Rattle.adb_files.specs.Entries.{Entry}
use Rattle.adb_daemon.specs.Device.{Device, Setting, step}
use Rattle.adb_daemon.specs.Held.{CutFiles}
use Rattle.adb_daemon.specs.Behind.{Stands, setting_of}
use Rattle.adb_daemon.specs.Daemon.{Treating, TreatsFront}
use Rattle.adb_daemon.specs.declared.machine.Machine.{Machine}
use Rattle.adb_daemon.proofs.Machines.{step_more}

module _ (read : Deframing) (machine : Machine) (read' : Deframing) (machine' : Machine) (t : Treating read machine read' machine')
    (packet : Packet) (left : Deframing) (g : Gives read' left (Some packet)) where
  -- the packets that are there are those that were treated, this one, and those that are left
  given_is : read.given ≡ t.done ++ packet ∷ left.given
  given_is = t.is ∙ ap (λ (d : Deframing). t.done ++ d.given) g.some

  same_setting : (files : List Entry) → setting_of machine'.most machine'.credit files ≡ setting_of machine.most machine.credit files
  same_setting files = ap (λ n. setting_of n machine'.credit files) t.most ∙ ap (λ b. setting_of machine.most b files) t.credit

  -- the next packet was treated
  pub treats_next : (new : Machine) → ((files : List Entry) (d : Device) (taken : List ℕ) → Stands d taken machine'
      → Stands (step (setting_of machine'.most machine'.credit files) d packet) taken new)
      → (new.most ≡ machine'.most) × (new.credit ≡ machine'.credit) → Treating read machine left new
  treats_next new steps same = record {
    done = t.done ++ packet ∷ [];
    is = given_is ∙ sym (append_assoc t.done (packet ∷ []) left.given);
    reads = λ fed before stands.
        subst (λ (all : List Packet). StandsFor fed all left) (append_assoc before t.done (packet ∷ [])) (g.stands fed (before ++ t.done)
        (t.reads fed before stands));
    stands = λ files d taken stands.
        let setting = setting_of machine.most machine.credit files in
        subst (λ (e : Device). Stands e taken new) (sym (step_more setting d t.done (packet ∷ [])))
        (subst (λ (x : Setting). Stands (step x (fold (step setting) d t.done) packet) taken new) (same_setting files)
        (steps files (fold (step setting) d t.done) taken (t.stands files d taken stands)));
    most = same.0 ∙ t.most;
    credit = same.1 ∙ t.credit;
  }

  -- memory ran out at it
  pub stops_next : (new : Machine) → new.services.due.bytes ≡ machine'.services.due.bytes
      → ((d : Device) (taken : List ℕ) → Stands d taken machine' → CutFiles packet.command packet d.serving new.services.files)
      → (files : List Entry) (d : Device) (taken : List ℕ) → Stands d taken machine
      → TreatsFront (setting_of machine.most machine.credit files) d read.given taken new
  stops_next new due cut files d taken stands =
      let there = t.stands files d taken stands in
      let behind = fold (step (setting_of machine.most machine.credit files)) d t.done in
      record {
        front = t.done;
        packet = packet;
        rest = left.given;
        is = given_is;
        given_out = ap (λ (l : List ℕ). taken ++ l) due ∙ there.holds.due;
        files = cut behind taken there;
      }
