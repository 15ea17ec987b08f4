-- The OPEN of an id that did not ask before is replied to.
use Rattle.std.specs.Prelude.{◌+◌, ◌≡◌, ◌≢◌, ◌≤◌, ◌||◌, if◌then◌else◌, Bool, false, cond, List, [], ◌∷◌, ◌++◌, Option, Some, None}
use Rattle.std.proofs.Common.{refl, ◌∙◌, ap, arith, inl, inr, append_assoc}
use Rattle.std.proofs.lemmas.Bool.{eq-eqb, ne_eqb}
use Rattle.adb_wire.specs.Format.{is_cnxn}
use Rattle.adb_wire.specs.declared.command.Command.{Command}
use Rattle.adb_wire.specs.declared.command.Command.TheVariants as commands
use Rattle.adb_wire.specs.declared.packets.Packet.{Packet}
use Rattle.adb_history.specs.Births.{count_from, is_open}
use Rattle.adb_device_streams.specs.Asked.{Kind}
use Rattle.adb_device_streams.specs.Link.{link_of}
use Rattle.adb_device_streams.specs.Stream.{clse}
use Rattle.adb_device_streams.specs.declared.link.Link.{Link}
use Rattle.adb_daemon.specs.Serving.{Serving, with_sum, is_taken, kind_for, open_as, served}
use Rattle.adb_daemon.specs.Device.{Device, Setting, step, linked_to, served_on, first_device, device_behind}
use Rattle.adb_daemon.proofs.Machines.{step_more, step_open}
use Rattle.adb_laws_model_device.specs.Counts.{how_many}
use Rattle.adb_laws_model_device.proofs.Counts.{many_append, many_front}
use Rattle.adb_laws_model_device.specs.Owed.{packets_of_sent, packets_owed}
use Rattle.adb_laws_model_device.specs.Rows.{is_close_between}
use Rattle.adb_laws_model_device.proofs.Opened.{answers_opens}
use Rattle.adb_laws_model_device.proofs.Owing.{sent_append, owed_grows}
use Rattle.adb_laws_worlds.specs.Opening.{IsRepliedTo, RepliesToOpens}
use Rattle.adb_laws_worlds.proofs.Unasked.{behind_unasked, none_taken}

module _ (setting : Setting) (front : List Packet) (p : Packet) (rest : List Packet) (link : Link)
    (sound : (device_behind setting front).refused ≡ false) (linked : (device_behind setting front).link ≡ Some link)
    (command : p.command ≡ commands.Open) (some : p.arg0 ≢ 0) (none : count_from is_open p.arg0 front ≡ 0) where
  free : is_taken p.arg0 (device_behind setting front).serving.rows ≡ false
  free = none_taken p.arg0 (device_behind setting front).serving (behind_unasked p.arg0 setting front none)

  -- what the packet makes, where the device knows no such service
  refuses : kind_for (device_behind setting front).serving.drawn p ≡ None
      → (step setting (device_behind setting front) p).serving ≡ open_as link p None (device_behind setting front).serving
  refuses unknown =
      let d : Device = device_behind setting front in
      let s : Serving = d.serving in
      ap (λ (x : Device). x.serving) (step_open setting d p sound)
      ∙ (ap (λ (c : Command).
      (if is_cnxn c then linked_to (link_of setting.most setting.credit p) d else served_on d.link p
      d).serving) command
      ∙ (ap (λ (x : Option Link). (served_on x p d).serving) linked
      ∙ (ap (λ (c : Command). served c link p s) command
      ∙ (ap (λ (b : Bool). if b || is_taken p.arg0 s.rows then s else open_as link p (kind_for s.drawn p) s) (ne_eqb p.arg0 0 some)
      ∙ (ap (λ (b : Bool). if b then s else open_as link p (kind_for s.drawn p) s) free
      ∙ ap (λ (k : Option Kind). open_as link p k s) unknown)))))

  -- so a CLSE from 0 is owed
  refused : kind_for (device_behind setting front).serving.drawn p ≡ None
      → 1 ≤ how_many (is_close_between 0 p.arg0) (packets_owed setting (front ++ p ∷ rest))
  refused unknown =
      let close : Packet = clse 0 p.arg0 in
      let now : packets_owed setting (front ++ p ∷ []) ≡ packets_owed setting front ++ close ∷ [] =
      ap (λ (d : Device). packets_of_sent d.serving.made) (step_more setting (first_device setting) front (p ∷ []))
      ∙ (ap (λ (s : Serving). packets_of_sent s.made) (refuses unknown)
      ∙ sent_append (device_behind setting front).serving.made (with_sum link.sums (clse 0 p.arg0) ∷ [])) in
      let one : how_many (is_close_between 0 p.arg0) (close ∷ []) ≡ 1 = ap (λ (b : Bool). cond b (1 + 0) 0) (eq-eqb p.arg0 p.arg0 refl) in
      let sum = many_append (is_close_between 0 p.arg0) (packets_owed setting front) (close ∷ []) in
      let same : how_many (is_close_between 0 p.arg0) (packets_owed setting (front ++ p ∷ []))
      ≡ how_many (is_close_between 0 p.arg0) (packets_owed setting front ++ close ∷ []) = ap (how_many (is_close_between 0 p.arg0)) now in
      let later = many_front (is_close_between 0 p.arg0) (packets_owed setting (front ++ p ∷ []))
      (packets_owed setting ((front ++ p ∷ []) ++ rest))
      (owed_grows setting (front ++ p ∷ []) rest) in
      let whole : how_many (is_close_between 0 p.arg0) (packets_owed setting ((front ++ p ∷ []) ++ rest))
      ≡ how_many (is_close_between 0 p.arg0) (packets_owed setting (front ++ p ∷ rest)) =
      ap (λ (ps : List Packet). how_many (is_close_between 0 p.arg0) (packets_owed setting ps)) (append_assoc front (p ∷ []) rest) in
      omega (arith, one, sum, same, later, whole)

  replied : IsRepliedTo setting p.arg0 (front ++ p ∷ rest)
  replied = go (kind_for (device_behind setting front).serving.drawn p) refl
    where
      go : (kind : Option Kind) → kind_for (device_behind setting front).serving.drawn p ≡ kind
          → IsRepliedTo setting p.arg0 (front ++ p ∷ rest)
      go None is = inr (refused is)
      go (Some kind) is =
          inl (
            (device_behind setting front).serving.drawn + 1,
            ((λ e. omega (arith, e)), (answers_opens setting front p rest link kind sound linked command some free is).okay),
          )

pub replies_to_opens : (setting : Setting) → RepliesToOpens setting
replies_to_opens setting front p rest link sound linked command some none = replied setting front p rest link sound linked command some none
