-- What each packet of the host lets a model device owe.
use Rattle.std.specs.Prelude.{ℕ, ◌+◌, ◌≡◌, ◌≤◌, ◌==◌, ◌||◌, if◌then◌else◌, Bool, true, false}
use Rattle.std.specs.Prelude.{cond, List, [], ◌∷◌, ◌++◌, map, fold, length, Option, Some, None, nat_eq}
use Rattle.std.proofs.Common.{refl, sym, ◌∙◌, ap, arith, append_assoc}
use Rattle.std.proofs.lemmas.Bool.{eqb-true}
use Rattle.std.proofs.lemmas.List.{append-nil}
use Rattle.byteorder.specs.Endian.{little_bytes}
use Rattle.adb_wire.specs.Format.{is_cnxn}
use Rattle.adb_wire.specs.declared.command.Command.{Command}
use Rattle.adb_wire.specs.declared.command.Command.TheVariants as commands
use Rattle.adb_wire.specs.declared.packets.Packet.{Packet}
use Rattle.adb_stream.specs.declared.flow.Flow.{Flow}
use Rattle.adb_stream.specs.declared.flow.Flow.TheVariants as flows
use Rattle.adb_history.specs.Births.{count_from, is_wrte, is_open}
use Rattle.adb_device_streams.specs.Asked.{Kind}
use Rattle.adb_device_streams.specs.Service.{came_over, files_fed, files_opened}
use Rattle.adb_device_streams.specs.Stream.{Row, opened, row_took, row_acked, row_written, writes, is_done, okay, clse, wrte, opening_word}
use Rattle.adb_device_streams.specs.Link.{credit_word_in, link_of}
use Rattle.adb_device_streams.specs.declared.link.Link.{Link}
use Rattle.adb_outside.specs.Tables.{at}
use Rattle.adb_daemon.specs.Serving.{Serving, Sent, with_sum, owing, granted, sent_ack, sent_writes, sent_close, settled_as, settled, named}
use Rattle.adb_daemon.specs.Serving.{closable, is_taken}
use Rattle.adb_daemon.specs.Serving.{kind_for, credit_of, open_as, on_open, written_to, on_write, acked_to, on_okay, closed_to, on_close}
use Rattle.adb_daemon.specs.Serving.{served}
use Rattle.adb_daemon.specs.Device.{Device, Setting, step, treated, linked_to, served_on, first_device, device_behind}
use Rattle.adb_daemon.proofs.Machines.{step_more}
use Rattle.adb_laws_model_device.specs.Counts.{is_okay_to, okays_to}
use Rattle.adb_laws_model_device.proofs.Counts.{many_append, count_first, count_one}
use Rattle.adb_laws_model_device.specs.Owed.{packets_of_sent, packets_owed}
use Rattle.adb_laws_births.specs.Brought.{ComeFirst}

-- ---- counting
-- the packets of two lists are the packets of each
pub sent_append : (a b : List Sent) → packets_of_sent (a ++ b) ≡ packets_of_sent a ++ packets_of_sent b
sent_append [] b = refl
sent_append (one ∷ a) b = ap (λ (ps : List Packet). one.packet ∷ ps) (sent_append a b)

-- and so their OKAYs add up
pub okays_sent : (l : ℕ) (a b : List Sent) → okays_to l (packets_of_sent (a ++ b))
    ≡ okays_to l (packets_of_sent a) + okays_to l (packets_of_sent b)
okays_sent l a b = ap (okays_to l) (sent_append a b) ∙ many_append (is_okay_to l) (packets_of_sent a) (packets_of_sent b)

-- writes are no OKAYs
none_written : (l : ℕ) (sums : Bool) (own host : ℕ) (payloads : List (List ℕ))
    → okays_to l (packets_of_sent (map (λ payload. with_sum sums (wrte own host payload)) payloads)) ≡ 0
none_written l sums own host [] = refl
none_written l sums own host (payload ∷ more) = none_written l sums own host more

-- how many OPENs and writes of a stream a packet is
abbrev pub asks : ℕ → Packet → ℕ
asks l p = count_from is_open l (p ∷ []) + count_from is_wrte l (p ∷ [])

-- More became due, with so many OKAYs to a stream at most.
pub record Owes (l most : ℕ) (old new : List Sent) : Type 0 where
  pub more : List Sent
  pub is : new ≡ old ++ more
  pub few : okays_to l (packets_of_sent more) ≤ most

-- nothing more became due
pub owes_none : (l most : ℕ) (made : List Sent) → Owes l most made made
owes_none l most made = record { more = []; is = sym (append-nil made); few = omega arith }

-- a stream settled: its writes, and its CLSE
pub owes_settled : (l most : ℕ) (link : Link) (own : ℕ) (row : Row) (s : Serving) (old : List Sent) → Owes l most old s.made
    → Owes l most old (settled link own row s).made
owes_settled l most link own row s old o = go (is_done (row_written link.most row))
  where
    wrote : List Sent
    wrote = sent_writes link own row

    none : okays_to l (packets_of_sent (sent_writes link own row)) ≡ 0
    none = none_written l link.sums own row.host (writes link.most row)

    go : (b : Bool) → Owes l most old (settled_as b link own (row_written link.most row) (owing (sent_writes link own row) s)).made
    go false = record {
      more = o.more ++ sent_writes link own row;
      is = ap (λ (m : List Sent). m ++ sent_writes link own row) o.is ∙ append_assoc old o.more (sent_writes link own row);
      few = (let sum = okays_sent l o.more (sent_writes link own row) in let few = o.few in omega (arith, sum, few, none));
    }
    go true =
        let close = sent_close true link own (row_written link.most row).host in
        record {
          more = (o.more ++ sent_writes link own row) ++ close;
          is = ap (λ (m : List Sent). (m ++ sent_writes link own row) ++ close) o.is
              ∙ (ap (λ (m : List Sent). m ++ close) (append_assoc old o.more (sent_writes link own row))
              ∙ append_assoc old (o.more ++ sent_writes link own row) close);
          few = (
              let sum = okays_sent l o.more (sent_writes link own row) in
              let all = okays_sent l (o.more ++ sent_writes link own row) close in
              let few = o.few in
              omega (arith, sum, all, few, none));
        }

-- one OKAY to a host's id
one_okay : (l : ℕ) (sums : Bool) (own host : ℕ) (word : List ℕ) (most : ℕ) → (nat_eq host l ≡ true → 1 ≤ most)
    → okays_to l (packets_of_sent (with_sum sums (okay own host word) ∷ [])) ≤ most
one_okay l sums own host word most le = go (nat_eq host l) le
  where
    go : (b : Bool) → (b ≡ true → 1 ≤ most) → cond b (1 + 0) 0 ≤ most
    go true h = (let one = h refl in omega (arith, one))
    go false h = omega arith

-- what one packet on the link lets become due
module _ (l : ℕ) (link : Link) (p : Packet) (s : Serving) where
  open_asks : p.command ≡ commands.Open → nat_eq p.arg0 l ≡ true → 1 ≤ asks l p
  open_asks c e = (let one = count_one is_open l p (ap is_open c) (eqb-true p.arg0 l e) in omega (arith, one))

  write_asks : p.command ≡ commands.Wrte → nat_eq p.arg0 l ≡ true → 1 ≤ asks l p
  write_asks c e = (let one = count_one is_wrte l p (ap is_wrte c) (eqb-true p.arg0 l e) in omega (arith, one))

  pub owes_open : p.command ≡ commands.Open → Owes l (asks l p) s.made (on_open link p s).made
  owes_open c = go (p.arg0 == 0 || is_taken p.arg0 s.rows)
    where
      by : (kind : Option Kind) → Owes l (asks l p) s.made (open_as link p kind s).made
      by None = record { more = with_sum link.sums (clse 0 p.arg0) ∷ []; is = refl; few = omega arith }
      by (Some kind) =
          owes_settled l (asks l p) link (s.drawn + 1) (opened p.arg0 kind s.files (credit_of link p))
          (record (granted (s.drawn + 1) (credit_of link p)
          (owing (with_sum link.sums (okay (s.drawn + 1) p.arg0 (opening_word (credit_of link p))) ∷ []) s)) {
            drawn = s.drawn + 1;
            files = files_opened kind s.files;
          })
          s.made
          (record {
            more = with_sum link.sums (okay (s.drawn + 1) p.arg0 (opening_word (credit_of link p))) ∷ [];
            is = refl;
            few = one_okay l link.sums (s.drawn + 1) p.arg0 (opening_word (credit_of link p)) (asks l p) (open_asks c);
          })

      go : (b : Bool) → Owes l (asks l p) s.made (if b then s else open_as link p (kind_for s.drawn p) s).made
      go true = owes_none l (asks l p) s.made
      go false = by (kind_for s.drawn p)

  owes_write : p.command ≡ commands.Wrte → Owes l (asks l p) s.made (on_write link p s).made
  owes_write c = go (at p.arg1 s.rows)
    where
      acked : (flow : Flow) (host n : ℕ) → (nat_eq host l ≡ true → 1 ≤ asks l p)
          → okays_to l (packets_of_sent (sent_ack link p.arg1 host flow n)) ≤ asks l p
      acked (flows.One window) host n le = one_okay l link.sums p.arg1 host [] (asks l p) le
      acked (flows.Credit credit) host n le = by (n == 0)
        where
          by : (b : Bool)
              → okays_to l (packets_of_sent
              (if b then [] else with_sum link.sums (okay p.arg1 host (little_bytes 4 n)) ∷ [])) ≤ asks l p
          by true = omega arith
          by false = one_okay l link.sums p.arg1 host (little_bytes 4 n) (asks l p) le

      took : (row : Row) → (row.host == p.arg0) ≡ true → Owes l (asks l p) s.made (written_to link p (Some row) s).made
      took row same =
          owes_settled l (asks l p) link p.arg1 (row_took (came_over p.payload s.files) row)
          (record (owing (sent_ack link p.arg1 row.host row.flow (length p.payload)) s) {
            files = files_fed row.kind row.past (came_over p.payload s.files);
          })
          s.made
          (record {
            more = sent_ack link p.arg1 row.host row.flow (length p.payload);
            is = refl;
            few = acked row.flow row.host (length p.payload)
                (λ e. write_asks c (ap (λ n. nat_eq n l) (sym (eqb-true row.host p.arg0 same)) ∙ e));
          })

      at_row : (row : Row) (b : Bool) → (row.host == p.arg0) ≡ b
          → Owes l (asks l p) s.made (written_to link p (if b then Some row else None) s).made
      at_row row true e = took row e
      at_row row false e = owes_none l (asks l p) s.made

      go : (found : Option Row) → Owes l (asks l p) s.made (written_to link p (named p.arg0 found) s).made
      go None = owes_none l (asks l p) s.made
      go (Some row) = at_row row (row.host == p.arg0) refl

  owes_okay : Owes l (asks l p) s.made (on_okay link p s).made
  owes_okay = go (named p.arg0 (at p.arg1 s.rows))
    where
      go : (found : Option Row) → Owes l (asks l p) s.made (acked_to link p found s).made
      go None = owes_none l (asks l p) s.made
      go (Some row) = owes_settled l (asks l p) link p.arg1 (row_acked (credit_word_in p.payload) row)
          (granted p.arg1 (credit_word_in p.payload) s) s.made
          (owes_none l (asks l p) s.made)

  owes_close : Owes l (asks l p) s.made (on_close p s).made
  owes_close = go (closable p.arg0 (at p.arg1 s.rows))
    where
      go : (found : Option Row) → Owes l (asks l p) s.made (closed_to p.arg1 found s).made
      go None = owes_none l (asks l p) s.made
      go (Some row) = owes_none l (asks l p) s.made

  owes_served : (command : Command) → p.command ≡ command → Owes l (asks l p) s.made (served command link p s).made
  owes_served commands.Open c = owes_open c
  owes_served commands.Wrte c = owes_write c
  owes_served commands.Okay c = owes_okay
  owes_served commands.Clse c = owes_close
  owes_served _ c = owes_none l (asks l p) s.made

-- what one packet lets become due
pub owes_step : (l : ℕ) (setting : Setting) (d : Device) (p : Packet) → Owes l (asks l p) d.serving.made (step setting d p).serving.made
unfolding step
owes_step l setting d p = go d.refused
  where
    linked : (link : Option Link) → Owes l (asks l p) d.serving.made (linked_to link d).serving.made
    linked None = owes_none l (asks l p) d.serving.made
    linked (Some link) = owes_none l (asks l p) d.serving.made

    on : (link : Option Link) → Owes l (asks l p) d.serving.made (served_on link p d).serving.made
    on None = owes_none l (asks l p) d.serving.made
    on (Some link) = owes_served l link p d.serving p.command refl

    by : (b : Bool)
        → Owes l (asks l p) d.serving.made
        (if b then linked_to (link_of setting.most setting.credit p) d else served_on d.link p d).serving.made
    by true = linked (link_of setting.most setting.credit p)
    by false = on d.link

    go : (b : Bool) → Owes l (asks l p) d.serving.made (if b then d else treated setting p d).serving.made
    go true = owes_none l (asks l p) d.serving.made
    go false = by (is_cnxn p.command)

-- what all packets let become due
owes_all : (l : ℕ) (setting : Setting) (d : Device) (packets : List Packet)
    → Owes l (count_from is_open l packets + count_from is_wrte l packets) d.serving.made (fold (step setting) d packets).serving.made
owes_all l setting d [] = owes_none l 0 d.serving.made
owes_all l setting d (p ∷ packets) =
    let one = owes_step l setting d p in
    let rest = owes_all l setting (step setting d p) packets in
    record {
      more = one.more ++ rest.more;
      is = rest.is ∙ (ap (λ (m : List Sent). m ++ rest.more) one.is ∙ append_assoc d.serving.made one.more rest.more);
      few = (
          let sum = okays_sent l one.more rest.more in
          let opens = count_first is_open l p packets in
          let writes_due = count_first is_wrte l p packets in
          let few = one.few in
          let later = rest.few in
          omega (arith, sum, opens, writes_due, few, later));
    }

-- what a device owed it owes still
pub owed_grows : (setting : Setting) (packets more : List Packet)
    → ComeFirst (packets_owed setting packets) (packets_owed setting (packets ++ more))
owed_grows setting packets more =
    let later = owes_all 0 setting (device_behind setting packets) more in (
      packets_of_sent later.more,
      sym (sent_append (device_behind setting packets).serving.made later.more)
          ∙ ap packets_of_sent
          (sym later.is
          ∙ sym (ap (λ (d : Device). d.serving.made) (step_more setting (first_device setting) packets more))),
    )

-- to a stream it owes no more OKAYs than one for each OPEN and one for each write
pub owed_acks : (setting : Setting) (l : ℕ) (packets : List Packet)
    → okays_to l (packets_owed setting packets) ≤ count_from is_open l packets + count_from is_wrte l packets
owed_acks setting l packets =
    let all = owes_all l setting (first_device setting) packets in
    let sum : okays_to l (packets_owed setting packets)
    ≡ okays_to l (packets_of_sent (first_device setting).serving.made) + okays_to l (packets_of_sent all.more) =
    ap (λ (made : List Sent). okays_to l (packets_of_sent made)) all.is ∙ okays_sent l (first_device setting).serving.made all.more in
    let few = all.few in
    omega (arith, sum, few)
