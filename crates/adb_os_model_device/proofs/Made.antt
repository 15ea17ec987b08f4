-- What a device says stays said, whatever follows.
use Rattle.std.specs.Prelude.{ℕ, ◌+◌, ◌≡◌, ◌||◌, if◌then◌else◌, ◌==◌, Bool, true, false, List, [], ◌∷◌, ◌++◌, fold, length, Option, Some}
use Rattle.std.specs.Prelude.{None}
use Rattle.std.proofs.Common.{refl, sym, ◌∙◌, ap}
use Rattle.std.proofs.lemmas.List.{append-nil, append_assoc}
use Rattle.std.proofs.lemmas.List.Concat.{flat_map-append}
use Rattle.adb_outside.specs.Bytes.{IsPrefixOf}
use Rattle.adb_outside.specs.Tables.{at}
use Rattle.adb_wire.specs.declared.command.Command.{Command}
use Rattle.adb_wire.specs.declared.command.Command.TheVariants as commands
use Rattle.adb_wire.specs.declared.packets.Packet.{Packet}
use Rattle.adb_wire.specs.Format.{is_cnxn}
use Rattle.adb_device_streams.specs.Asked.{Kind}
use Rattle.adb_device_streams.specs.Service.{came_over, files_fed, files_opened}
use Rattle.adb_device_streams.specs.Stream.{Row, opened, row_took, row_acked, row_written, is_done, okay, clse, opening_word}
use Rattle.adb_device_streams.specs.Link.{credit_word_in, link_of}
use Rattle.adb_device_streams.specs.declared.link.Link.{Link}
use Rattle.adb_daemon.specs.Serving.{Serving, Sent, with_sum, bytes_of, sent_bytes, owing, granted, sent_ack, sent_writes, sent_close}
use Rattle.adb_daemon.specs.Serving.{settled_as, settled}
use Rattle.adb_daemon.specs.Serving.{named, closable, is_taken, kind_for, credit_of, open_as, written_to, acked_to, closed_to, served}
use Rattle.adb_daemon.specs.Device.{Device, Setting, step, treated, linked_to, served_on, first_device, device_behind}
use Rattle.adb_daemon.specs.declared.daemon.Daemon.{Daemon}
use Rattle.adb_daemon.specs.Daemon.{HasDone, HasDoneFront, owed}
use Rattle.adb_os_model_device.specs.Running.{said_behind}

-- more becomes due behind what was
record Grew (before after : List Sent) : Type 0 where
  more : List Sent
  is : after ≡ before ++ more

same : (made : List Sent) → Grew made made
same made = record { more = []; is = sym (append-nil made) }

both : (a b c : List Sent) → Grew a b → Grew b c → Grew a c
both a b c first later = record {
  more = first.more ++ later.more;
  is = later.is ∙ ap (λ (l : List Sent). l ++ later.more) first.is ∙ append_assoc a first.more later.more;
}

settles : (link : Link) (own : ℕ) (row : Row) (s : Serving) → Grew s.made (settled link own row s).made
settles link own row s = go (is_done (row_written link.most row))
  where
    owes : Serving
    owes = owing (sent_writes link own row) s

    go : (t : Bool) → Grew s.made (settled_as t link own (row_written link.most row) owes).made
    go false = record { more = sent_writes link own row; is = refl }
    go true =
        both s.made owes.made (settled_as true link own (row_written link.most row) owes).made
        (record { more = sent_writes link own row; is = refl })
        (record { more = sent_close true link own (row_written link.most row).host; is = refl })

opens : (link : Link) (p : Packet) (asked : Option Kind) (s : Serving) → Grew s.made (open_as link p asked s).made
opens link p None s = record { more = with_sum link.sums (clse 0 p.arg0) ∷ []; is = refl }
opens link p (Some kind) s =
    let own : ℕ = s.drawn + 1 in
    let told : List Sent = with_sum link.sums (okay own p.arg0 (opening_word (credit_of link p))) ∷ [] in
    let next : Serving = record (granted own (credit_of link p) (owing told s)) { drawn = own; files = files_opened kind s.files } in
    both s.made next.made (open_as link p (Some kind) s).made (record { more = told; is = refl })
    (settles link own (opened p.arg0 kind s.files (credit_of link p)) next)

writes_to : (link : Link) (p : Packet) (found : Option Row) (s : Serving) → Grew s.made (written_to link p found s).made
writes_to link p None s = same s.made
writes_to link p (Some row) s =
    let came = came_over p.payload s.files in
    let told : List Sent = sent_ack link p.arg1 row.host row.flow (length p.payload) in
    let next : Serving = record (owing told s) { files = files_fed row.kind row.past came } in
    both s.made next.made (written_to link p (Some row) s).made (record { more = told; is = refl })
    (settles link p.arg1 (row_took came row) next)

acks_to : (link : Link) (p : Packet) (found : Option Row) (s : Serving) → Grew s.made (acked_to link p found s).made
acks_to link p None s = same s.made
acks_to link p (Some row) s =
    settles link p.arg1 (row_acked (credit_word_in p.payload) row) (granted p.arg1 (credit_word_in p.payload) s)

closes_to : (own : ℕ) (found : Option Row) (s : Serving) → Grew s.made (closed_to own found s).made
closes_to own None s = same s.made
closes_to own (Some row) s = same s.made

serves : (command : Command) (link : Link) (p : Packet) (s : Serving) → Grew s.made (served command link p s).made
serves commands.Open link p s = go (p.arg0 == 0 || is_taken p.arg0 s.rows)
  where
    go : (t : Bool) → Grew s.made (if t then s else open_as link p (kind_for s.drawn p) s).made
    go true = same s.made
    go false = opens link p (kind_for s.drawn p) s
serves commands.Wrte link p s = writes_to link p (named p.arg0 (at p.arg1 s.rows)) s
serves commands.Okay link p s = acks_to link p (named p.arg0 (at p.arg1 s.rows)) s
serves commands.Clse link p s = closes_to p.arg1 (closable p.arg0 (at p.arg1 s.rows)) s
serves commands.Cnxn link p s = same s.made
serves commands.Auth link p s = same s.made
serves commands.Stls link p s = same s.made

links : (link : Option Link) (d : Device) → Grew d.serving.made (linked_to link d).serving.made
links None d = same d.serving.made
links (Some link) d = same d.serving.made

serves_on : (link : Option Link) (p : Packet) (d : Device) → Grew d.serving.made (served_on link p d).serving.made
serves_on None p d = same d.serving.made
serves_on (Some link) p d = serves p.command link p d.serving

treats : (setting : Setting) (p : Packet) (d : Device) → Grew d.serving.made (treated setting p d).serving.made
treats setting p d = go (is_cnxn p.command)
  where
    go : (t : Bool)
        → Grew d.serving.made
        (if t then linked_to (link_of setting.most setting.credit p) d else served_on d.link p d).serving.made
    go true = links (link_of setting.most setting.credit p) d
    go false = serves_on d.link p d

steps : (setting : Setting) (d : Device) (p : Packet) → Grew d.serving.made (step setting d p).serving.made
unfolding step
steps setting d p = go d.refused
  where
    go : (t : Bool) → Grew d.serving.made (if t then d else treated setting p d).serving.made
    go true = same d.serving.made
    go false = treats setting p d

-- packets behind any device, and packets behind packets
all_step : (setting : Setting) (d : Device) (packets : List Packet) → Grew d.serving.made (fold (step setting) d packets).serving.made
all_step setting d [] = same d.serving.made
all_step setting d (p ∷ more) =
    both d.serving.made (step setting d p).serving.made (fold (step setting) d (p ∷ more)).serving.made (steps setting d p)
    (all_step setting (step setting d p) more)

behind : (setting : Setting) (d : Device) (front rest : List Packet)
    → Grew (fold (step setting) d front).serving.made (fold (step setting) d (front ++ rest)).serving.made
behind setting d [] rest = all_step setting d rest
behind setting d (p ∷ front) rest = behind setting (step setting d p) front rest

-- What went out is a front of what is said: where all was done,
pub done_front : (setting : Setting) (fed gone : List ℕ) (daemon : Daemon) → HasDone setting fed gone daemon
    → IsPrefixOf gone (said_behind setting fed)
done_front setting fed gone daemon done = (owed daemon, done.stands.holds.due)

-- and where memory ran out.
pub cut_front : (setting : Setting) (fed gone : List ℕ) (daemon : Daemon) → HasDoneFront setting fed gone daemon
    → IsPrefixOf gone (said_behind setting fed)
cut_front setting fed gone daemon h =
    let grew = behind setting (first_device setting) h.front h.rest in
    let later : List Sent = (device_behind setting h.front).serving.made in
    let now : sent_bytes (device_behind setting (h.front ++ h.rest)).serving.made ≡ sent_bytes later ++ sent_bytes grew.more =
    ap sent_bytes grew.is ∙ flat_map-append bytes_of later grew.more in (
      owed daemon ++ sent_bytes grew.more,
      sym (append_assoc gone (owed daemon) (sent_bytes grew.more)) ∙ ap (λ (l : List ℕ). l ++ sent_bytes grew.more) h.given_out ∙ sym now
          ∙ ap (λ (ps : List Packet). sent_bytes (device_behind setting ps).serving.made) (sym h.is),
    )
