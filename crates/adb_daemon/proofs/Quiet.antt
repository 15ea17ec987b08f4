-- Live streams have settled.
use Rattle.std.specs.Prelude.{ℕ, ◌≡◌, ◌+◌, ◌==◌, ◌||◌, if◌then◌else◌, Bool, true, false, List, [], ◌∷◌, length, fold, Option, Some, None}
use Rattle.std.proofs.Common.{refl, sym, ◌∙◌, ap, subst, ◌⊎◌, inl, inr}
use Rattle.std.proofs.lemmas.Bool.{cases_eq}
use Rattle.std.specs.List.Sorted.{IsStrictlySortedBy}
use Rattle.adb_outside.specs.Tables.{at, IsRising, put_at, without, Puts}
use Rattle.adb_outside.proofs.TableLaws.{puts_put_at, puts_without, put_at_rises, without_rises}
use Rattle.adb_wire.specs.Format.{is_cnxn}
use Rattle.adb_wire.specs.declared.command.Command.{Command}
use Rattle.adb_wire.specs.declared.command.Command.TheVariants as commands
use Rattle.adb_wire.specs.declared.packets.Packet.{Packet}
use Rattle.adb_device_streams.specs.Asked.{Kind}
use Rattle.adb_device_streams.specs.Service.{came_over, files_fed, files_opened}
use Rattle.adb_device_streams.specs.Stream.{Row, is_done, row_written, row_took, row_acked, opened, okay, opening_word}
use Rattle.adb_device_streams.specs.Link.{credit_word_in, link_of}
use Rattle.adb_device_streams.specs.declared.link.Link.{Link}
use Rattle.adb_daemon.specs.Serving.{Serving, with_sum, owing, granted, settled_as, settled}
use Rattle.adb_daemon.specs.Serving.{sent_writes, sent_ack, named, closable, is_taken, kind_for, credit_of}
use Rattle.adb_daemon.specs.Serving.{open_as, written_to, acked_to, closed_to, served}
use Rattle.adb_daemon.specs.Device.{Device, Setting, step, treated, linked_to, served_on, first_device, device_behind}
use Rattle.adb_daemon.specs.Streams.{HasSettled}
use Rattle.adb_daemon.proofs.Fronts.{none_goes}

-- all streams of a table have settled
record IsQuiet (most : ℕ) (rows : List (ℕ × Row)) : Type 0 where
  pub rises : IsRising rows
  pub each : (own : ℕ) (row : Row) → at own rows ≡ Some row → HasSettled most row

quiet_without : (most q : ℕ) (rows : List (ℕ × Row)) → IsQuiet most rows → IsQuiet most (without q rows)
quiet_without most q rows quiet =
    record { rises = without_rises q rows quiet.rises; each = λ own row is. go own row is (cases_eq own q) }
  where
    lost : Puts q None rows (without q rows)
    lost = puts_without q rows quiet.rises

    go : (own : ℕ) (row : Row) → at own (without q rows) ≡ Some row → (own ≡ q) ⊎ (own ≡ q → ⊥) → HasSettled most row
    go own row is (inl here) = let clash : None ≡ Some row = sym lost.here ∙ (ap (λ (k : ℕ). at k (without q rows)) (sym here) ∙ is) in cc
    go own row is (inr apart) = quiet.each own row (sym (lost.others own apart) ∙ is)

quiet_put : (most q : ℕ) (last : Row) (rows : List (ℕ × Row)) → HasSettled most last → IsQuiet most rows → IsQuiet most (put_at q last rows)
quiet_put most q last rows settled quiet =
    record { rises = put_at_rises q last rows quiet.rises; each = λ own row is. go own row is (cases_eq own q) }
  where
    puts : Puts q (Some last) rows (put_at q last rows)
    puts = puts_put_at q last rows

    go : (own : ℕ) (row : Row) → at own (put_at q last rows) ≡ Some row → (own ≡ q) ⊎ (own ≡ q → ⊥) → HasSettled most row
    go own row is (inl here) =
        let same : Some last ≡ Some row = sym puts.here ∙ (ap (λ (k : ℕ). at k (put_at q last rows)) (sym here) ∙ is) in
        let one : last ≡ row = cc in
        subst (HasSettled most) one settled
    go own row is (inr apart) = quiet.each own row (sym (puts.others own apart) ∙ is)

module _ (link : Link) (p : Packet) (s : Serving) (quiet : IsQuiet link.most s.rows) where
  -- a stream settles
  settles : (q : ℕ) (row : Row) → IsQuiet link.most (settled link q row s).rows
  settles q row = go (is_done (row_written link.most row)) refl
    where
      go : (t : Bool) → is_done (row_written link.most row) ≡ t
          → IsQuiet link.most (settled_as t link q (row_written link.most row) (owing (sent_writes link q row) s)).rows
      go true is = quiet_without link.most q s.rows quiet
      go false is =
          quiet_put link.most q (row_written link.most row) s.rows (record { none_goes = none_goes link.most row; goes_on = is }) quiet

module _ (link : Link) (p : Packet) (s : Serving) (quiet : IsQuiet link.most s.rows) where
  opens : (kind : Option Kind) → IsQuiet link.most (open_as link p kind s).rows
  opens None = quiet
  opens (Some kind) =
      let hello = with_sum link.sums (okay (s.drawn + 1) p.arg0 (opening_word (credit_of link p))) ∷ [] in
      settles link p
      (record (granted (s.drawn + 1) (credit_of link p) (owing hello s))
      { drawn = s.drawn + 1; files = files_opened kind s.files }) quiet
      (s.drawn + 1)
      (opened p.arg0 kind s.files (credit_of link p))

  opens_or_not : (t : Bool) → IsQuiet link.most (if t then s else open_as link p (kind_for s.drawn p) s).rows
  opens_or_not true = quiet
  opens_or_not false = opens (kind_for s.drawn p)

  writes_to : (found : Option Row) → IsQuiet link.most (written_to link p found s).rows
  writes_to None = quiet
  writes_to (Some row) =
      let came = came_over p.payload s.files in
      let ack = sent_ack link p.arg1 row.host row.flow (length p.payload) in
      settles link p (record (owing ack s) { files = files_fed row.kind row.past came }) quiet p.arg1 (row_took came row)

  acks_to : (found : Option Row) → IsQuiet link.most (acked_to link p found s).rows
  acks_to None = quiet
  acks_to (Some row) = settles link p (granted p.arg1 (credit_word_in p.payload) s) quiet p.arg1 (row_acked (credit_word_in p.payload) row)

  closes_to : (found : Option Row) → IsQuiet link.most (closed_to p.arg1 found s).rows
  closes_to None = quiet
  closes_to (Some row) = quiet_without link.most p.arg1 s.rows quiet

  serves : (command : Command) → IsQuiet link.most (served command link p s).rows
  serves commands.Open = opens_or_not (p.arg0 == 0 || is_taken p.arg0 s.rows)
  serves commands.Wrte = writes_to (named p.arg0 (at p.arg1 s.rows))
  serves commands.Okay = acks_to (named p.arg0 (at p.arg1 s.rows))
  serves commands.Clse = closes_to (closable p.arg0 (at p.arg1 s.rows))
  serves commands.Cnxn = quiet
  serves commands.Auth = quiet
  serves commands.Stls = quiet

-- the streams of a device have settled on its link
IsQuietOn : Device → Type 0
IsQuietOn d = (link : Link) → d.link ≡ Some link → IsQuiet link.most d.serving.rows

step_quiet : (setting : Setting) (d : Device) (p : Packet) → IsQuietOn d → IsQuietOn (step setting d p)
unfolding step IsQuietOn IsStrictlySortedBy
step_quiet setting d p quiet = go d.refused
  where
    linked : (o : Option Link) → IsQuietOn (linked_to o d)
    linked None = quiet
    linked (Some new) = λ link is. record { rises = tt; each = λ own row there. let clash : None ≡ Some row = there in cc }

    on : (o : Option Link) → d.link ≡ o → IsQuietOn (served_on o p d)
    on None is = quiet
    on (Some found) is = λ link there.
        let same : Some found ≡ Some link = sym is ∙ there in
        let one : link ≡ found = cc in
        subst (λ (l : Link). IsQuiet l.most (served p.command found p d.serving).rows) (sym one)
        (serves found p d.serving (quiet found is) p.command)

    by : (t : Bool) → IsQuietOn (if t then linked_to (link_of setting.most setting.credit p) d else served_on d.link p d)
    by true = linked (link_of setting.most setting.credit p)
    by false = on d.link refl

    go : (t : Bool) → IsQuietOn (if t then d else treated setting p d)
    go true = quiet
    go false = by (is_cnxn p.command)

all_quiet : (setting : Setting) (packets : List Packet) (d : Device) → IsQuietOn d → IsQuietOn (fold (step setting) d packets)
all_quiet setting [] d quiet = quiet
all_quiet setting (p ∷ more) d quiet = all_quiet setting more (step setting d p) (step_quiet setting d p quiet)

-- behind any packets
pub streams_settled : (setting : Setting) (packets : List Packet) (link : Link) (own : ℕ) (row : Row)
    → (device_behind setting packets).link ≡ Some link
    → at own (device_behind setting packets).serving.rows ≡ Some row → HasSettled link.most row
unfolding IsQuietOn
streams_settled setting packets link own row linked is =
    (all_quiet setting packets (first_device setting) (λ l none. let clash : None ≡ Some l = none in cc) link linked).each own row is
