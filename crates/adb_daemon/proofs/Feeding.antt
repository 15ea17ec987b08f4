-- A piece that is fed.
use Rattle.std.specs.Prelude.{ℕ, ◌≡◌, ◌≢◌, ◌<◌, Bool, true, false, List, [], ◌∷◌, ◌++◌, fold, Option, Some, None, option_map, Result, Ok}
use Rattle.std.specs.Prelude.{Err}
use Rattle.std.proofs.Common.{refl, sym, ◌∙◌, ap, subst, inl}
use Rattle.std.proofs.lemmas.Bool.{true≢false}
use Rattle.std.proofs.lemmas.List.{append-nil, append_assoc}
use Rattle.std.proofs.lemmas.List.Elements.{All-append}
use Rattle.adb_wire.specs.declared.command.Command.{Command}
use Rattle.adb_wire.specs.declared.command.Command.TheVariants as commands
use Rattle.adb_wire.specs.declared.format.PacketFault.{PacketFault}
use Rattle.adb_wire.specs.declared.packets.Packet.{Packet}
use Rattle.adb_wire.specs.Header.{IsBytes}
use Rattle.adb_wire.specs.Cutting.{Cuts, parts_of, Continues}
use Rattle.adb_wire.specs.Deframing.{Deframing, StandsFor, Takes}
use Rattle.adb_wire.proofs.CuttingLaws.{parts_cut, continues, all_packets, first_fault}
use Rattle.adb_files.specs.Entries.{Entry}
use Rattle.adb_daemon.specs.declared.error.DaemonError.{DaemonError}
use Rattle.adb_daemon.specs.declared.error.DaemonError.TheVariants.{OutOfMemory, Broken, BadCnxn}
use Rattle.adb_daemon.specs.declared.daemon.Daemon.{Daemon}
use Rattle.adb_daemon.specs.declared.machine.Machine.{Machine}
use Rattle.adb_daemon.specs.Serving.{Serving, sent_bytes}
use Rattle.adb_daemon.specs.Device.{Device, Setting, step, first_device, device_behind}
use Rattle.adb_daemon.specs.Held.{CutFiles}
use Rattle.adb_daemon.specs.Behind.{Stands, setting_of}
use Rattle.adb_daemon.specs.Daemon.{CutsOff, HasDone, HasDoneFront, Answers, CutAt, Treats, TreatsFront, daemon_of, device_of, verdict}
use Rattle.adb_daemon.specs.Daemon.{error_of, ran_out, answer_to}
use Rattle.adb_daemon.proofs.Machines.{step_more, all_refused}

-- files as before are those behind a front of what a packet asks for
cut_none : (command : Command) (p : Packet) (s : Serving) (files : List Entry) → files ≡ s.files → CutFiles command p s files
cut_none commands.Cnxn p s files is = is
cut_none commands.Open p s files is = inl is
cut_none commands.Okay p s files is = is
cut_none commands.Wrte p s files is = inl is
cut_none commands.Clse p s files is = is
cut_none commands.Auth p s files is = is
cut_none commands.Stls p s files is = is

pub cut_at_none : (rest : List Packet) (s : Serving) (files : List Entry) → files ≡ s.files → CutAt rest s files
cut_at_none [] s files is = is
cut_at_none (p ∷ more) s files is = cut_none p.command p s files is

-- an answer that is not want of memory
pub ran_on : (result : Result (Unit {0}) DaemonError) → result ≢ Err OutOfMemory → ran_out result ≡ false
ran_on (Ok x) other = refl
ran_on (Err OutOfMemory) other = absurd (other refl)
ran_on (Err (Broken error)) other = refl
ran_on (Err BadCnxn) other = refl

-- whether a device is spent is told by itself
pub not_spent : (setting : Setting) (fed taken : List ℕ) (daemon : Daemon) (spent : Bool) → spent ≡ false → HasDone setting fed taken daemon
    → HasDone setting fed taken (record daemon { spent = spent })
not_spent setting fed taken daemon spent is h = record {
  cuts = h.cuts;
  reads = h.reads;
  none_left = h.none_left;
  stands = h.stands;
  most = h.most;
  credit = h.credit;
  whole = is;
}

pub spent_front : (setting : Setting) (fed taken : List ℕ) (daemon : Daemon) (spent : Bool) → HasDoneFront setting fed taken daemon
    → HasDoneFront setting fed taken (record daemon { spent = spent })
spent_front setting fed taken daemon spent h =
    record { front = h.front; rest = h.rest; is = h.is; given_out = h.given_out; files = h.files }

module _ (setting : Setting) (fed taken piece : List ℕ) (read : Deframing) (machine : Machine)
    (h : HasDone setting fed taken (daemon_of read machine)) where
  abbrev all : List ℕ
  all = fed ++ piece

  abbrev before : List Packet
  before = (parts_of fed).packets

  -- the device behind all bytes, where these packets come more
  behind_all : (others : List Packet) → (parts_of all).packets ≡ before ++ others
      → device_of setting all ≡ fold (step setting) (device_of setting fed) others
  behind_all others is =
      ap (λ (ps : List Packet). device_behind setting ps) is ∙ step_more setting (first_device setting) before others

  cut_all : IsBytes piece → Cuts all (parts_of all)
  cut_all bytes = parts_cut all (All-append (λ b. b < 256) fed piece h.cuts.in_range bytes)

  goes_on : IsBytes piece → Continues (parts_of fed) (parts_of all)
  goes_on bytes = continues fed piece (parts_of fed) (parts_of all) h.cuts (cut_all bytes)

  -- a CNXN was refused before
  pub refused_before : IsBytes piece → machine.refused ≡ true → Answers setting all taken (Err BadCnxn) (daemon_of read machine)
  refused_before bytes is =
      let on = goes_on bytes in
      let over : (device_of setting fed).refused ≡ true = sym h.stands.refused ∙ is in
      let same : device_of setting all ≡ device_of setting fed =
      behind_all on.others on.begins ∙ all_refused setting (device_of setting fed) on.others over in
      let still : (device_of setting all).refused ≡ true = ap (λ (d : Device). d.refused) same ∙ over in
      record {
        answer = sym (ap (λ (b : Bool). verdict b (parts_of all).fault) still);
        done = record {
          cuts = cut_all bytes;
          reads = λ open_still. absurd (true≢false (sym still ∙ open_still));
          none_left = h.none_left;
          stands = subst (λ (d : Device). Stands d taken machine) (sym same) h.stands;
          most = h.most;
          credit = h.credit;
          whole = h.whole;
        };
      }

  -- memory ran out as the piece was read
  pub read_none : IsBytes piece → (new : Deframing) → HasDoneFront setting all taken (daemon_of new machine)
  read_none bytes new =
      let on = goes_on bytes in
      record {
        front = before;
        rest = on.others;
        is = on.begins;
        given_out = h.stands.holds.due;
        files = cut_at_none on.others (device_of setting fed).serving machine.services.files h.stands.holds.files;
      }

  -- no packet of the piece was treated
  pub read_cut : IsBytes piece → CutsOff setting (parts_of fed).packets (parts_of all).packets machine.services.files
  read_cut bytes =
      let on = goes_on bytes in
      let none = append-nil before in
      record {
        more = [];
        rest = on.others;
        is = on.begins ∙ ap (λ (ps : List Packet). ps ++ on.others) (sym none);
        files = subst (λ (ps : List Packet). CutAt on.others (device_behind setting ps).serving machine.services.files) (sym none)
            (cut_at_none on.others (device_of setting fed).serving machine.services.files h.stands.holds.files);
      }

  module _ (bytes : IsBytes piece) (open_still : machine.refused ≡ false) (mid : Deframing) (takes : Takes read piece mid) where
    reads : StandsFor all before mid
    reads = takes.stands fed before (h.reads (sym h.stands.refused ∙ open_still))

    packets_are : (parts_of all).packets ≡ before ++ mid.given
    packets_are = all_packets all before mid (parts_of all) reads (cut_all bytes)

    same_setting : setting_of machine.most machine.credit setting.files ≡ setting
    same_setting = ap (λ n. setting_of n machine.credit setting.files) h.most ∙ ap (λ b. setting_of setting.most b setting.files) h.credit

    -- memory ran out at a packet
    pub treat_front : (new : Deframing) (machine' : Machine)
        → ((files : List Entry) (d : Device) (gone : List ℕ) → Stands d gone machine
        → TreatsFront (setting_of machine.most machine.credit files) d mid.given gone machine')
        → HasDoneFront setting all taken (daemon_of new machine')
    treat_front new machine' front =
        let t = subst (λ (s : Setting). TreatsFront s (device_of setting fed) mid.given taken machine') same_setting
        (front setting.files (device_of setting fed) taken h.stands) in
        let behind = step_more setting (first_device setting) before t.front in
        record {
          front = before ++ t.front;
          rest = t.packet ∷ t.rest;
          is = packets_are ∙ (ap (λ (ps : List Packet). before ++ ps) t.is ∙ sym (append_assoc before t.front (t.packet ∷ t.rest)));
          given_out = t.given_out ∙ ap (λ (d : Device). sent_bytes d.serving.made) (sym behind);
          files = subst (λ (d : Device). CutFiles t.packet.command t.packet d.serving machine'.services.files) (sym behind) t.files;
        }

    pub treat_cut : (machine' : Machine)
        → ((files : List Entry) (d : Device) (gone : List ℕ) → Stands d gone machine
        → TreatsFront (setting_of machine.most machine.credit files) d mid.given gone machine')
        → CutsOff setting (parts_of fed).packets (parts_of all).packets machine'.services.files
    treat_cut machine' front =
        let t = subst (λ (s : Setting). TreatsFront s (device_of setting fed) mid.given taken machine') same_setting
        (front setting.files (device_of setting fed) taken h.stands) in
        let behind = step_more setting (first_device setting) before t.front in
        record {
          more = t.front;
          rest = t.packet ∷ t.rest;
          is = packets_are ∙ (ap (λ (ps : List Packet). before ++ ps) t.is ∙ sym (append_assoc before t.front (t.packet ∷ t.rest)));
          files = subst (λ (d : Device). CutFiles t.packet.command t.packet d.serving machine'.services.files) (sym behind) t.files;
        }

    -- all packets were treated
    pub treat_whole : (new : Deframing) (machine' : Machine) → Treats mid machine new machine'
        → (result : Result (Unit {0}) DaemonError)
        → ((fault : Option PacketFault) → option_map error_of mid.fault ≡ option_map error_of fault
        → result ≡ verdict machine'.refused fault)
        → Answers setting all taken result (daemon_of new machine')
    treat_whole new machine' t result answer =
        let there = behind_all mid.given packets_are in
        let stands : Stands (device_of setting all) taken machine' = subst (λ (d : Device). Stands d taken machine') (sym there)
        (subst (λ (s : Setting). Stands (fold (step s) (device_of setting fed) mid.given) taken machine') same_setting
        (t.stands setting.files (device_of setting fed) taken h.stands)) in
        record {
          answer =
              answer (parts_of all).fault (ap (option_map error_of) (first_fault all before mid (parts_of all) reads (cut_all bytes)))
              ∙ ap (λ (b : Bool). verdict b (parts_of all).fault) stands.refused;
          done = record {
            cuts = cut_all bytes;
            reads = λ on. subst (λ (ps : List Packet). StandsFor all ps new) (sym packets_are) (t.reads all before reads);
            none_left = t.none_left;
            stands = stands;
            most = t.most ∙ h.most;
            credit = t.credit ∙ h.credit;
            whole = refl;
          };
        }

-- A refusal of a CNXN and a fault stay.
pub answer_stays : (setting : Setting) (fed more : List ℕ) (error : DaemonError) → IsBytes fed → IsBytes more
    → answer_to setting fed ≡ Err error
    → answer_to setting (fed ++ more) ≡ Err error
answer_stays setting fed more error bytes others is = go (device_of setting fed).refused refl (parts_of fed).fault refl
  where
    cuts : Cuts fed (parts_of fed)
    cuts = parts_cut fed bytes

    on : Continues (parts_of fed) (parts_of (fed ++ more))
    on = continues fed more (parts_of fed) (parts_of (fed ++ more)) cuts
        (parts_cut (fed ++ more) (All-append (λ b. b < 256) fed more bytes others))

    behind : device_of setting (fed ++ more) ≡ fold (step setting) (device_of setting fed) on.others
    behind = ap (λ (ps : List Packet). device_behind setting ps) on.begins
        ∙ step_more setting (first_device setting) (parts_of fed).packets on.others

    go : (refused : Bool) → (device_of setting fed).refused ≡ refused → (fault : Option PacketFault) → (parts_of fed).fault ≡ fault
        → answer_to setting (fed ++ more) ≡ Err error
    go true over fault read =
        let same = behind ∙ all_refused setting (device_of setting fed) on.others over in
        let still : (device_of setting (fed ++ more)).refused ≡ true = ap (λ (d : Device). d.refused) same ∙ over in
        ap (λ (b : Bool). verdict b (parts_of (fed ++ more)).fault) still
        ∙ (sym (ap (λ (b : Bool). verdict b (parts_of fed).fault) over) ∙ is)
    go false open_still (Some fault) read =
        let stays = on.stays fault read in
        ap (λ (ps : List Packet). verdict (device_behind setting ps).refused (parts_of (fed ++ more)).fault) stays.0
        ∙ (ap (verdict (device_of setting fed).refused) (stays.1 ∙ sym read) ∙ is)
    go false open_still None read =
        let fine : answer_to setting fed ≡ Ok tt = ap (λ (b : Bool). verdict b (parts_of fed).fault) open_still ∙ ap (verdict false) read in
        let clash : Ok tt ≡ Err error = sym fine ∙ is in
        cc
