-- The OKAYs for one stream, as packets come.
use Rattle.std.specs.Prelude.{ℕ, ◌≡◌, ◌<◌, ◌≤◌, ◌+◌, ◌==◌, ◌||◌, if◌then◌else◌, Bool, true, false, List, [], ◌∷◌, ◌++◌, length, map, fold}
use Rattle.std.specs.Prelude.{Option, Some, None}
use Rattle.std.proofs.Common.{refl, sym, ◌∙◌, ap, subst, arith, ◌⊎◌, inl, inr}
use Rattle.std.specs.List.Sorted.{IsStrictlySortedBy}
use Rattle.std.proofs.lemmas.Bool.{cases_eq, cases_lt, eq-eqb, ne_eqb}
use Rattle.std.proofs.lemmas.List.{append-nil}
use Rattle.std.proofs.lemmas.List.Concat.{flat_map-append}
use Rattle.byteorder.specs.Endian.{little_bytes}
use Rattle.adb_outside.specs.Tables.{at, IsRising, put_at, without}
use Rattle.adb_outside.proofs.TableLaws.{puts_put_at, puts_without, put_at_rises, without_rises}
use Rattle.adb_wire.specs.Format.{is_cnxn}
use Rattle.adb_wire.specs.declared.command.Command.{Command}
use Rattle.adb_wire.specs.declared.command.Command.TheVariants as commands
use Rattle.adb_wire.specs.declared.packets.Packet.{Packet}
use Rattle.adb_stream.specs.Flow.{has_credit, wrote, acknowledged}
use Rattle.adb_stream.specs.declared.flow.Flow.{Flow}
use Rattle.adb_stream.specs.declared.flow.Flow.TheVariants as flows
use Rattle.adb_files.specs.Entries.{Entry}
use Rattle.adb_device_streams.specs.Asked.{Kind}
use Rattle.adb_device_streams.specs.Service.{Came, came_over, files_fed, files_opened}
use Rattle.adb_device_streams.specs.Stream.{Row, opened, row_took, row_acked, row_past, row_past_all, row_written, writes, is_done}
use Rattle.adb_device_streams.specs.Stream.{first_flow}
use Rattle.adb_device_streams.specs.Stream.{wrte, okay, clse, opening_word}
use Rattle.adb_device_streams.specs.Link.{credit_word_in, link_of}
use Rattle.adb_device_streams.specs.declared.link.Link.{Link}
use Rattle.adb_daemon.specs.Serving.{Serving, Sent, Ended, with_sum, owing, granted, ended_at, sent_ack, sent_writes, sent_close}
use Rattle.adb_daemon.specs.Serving.{settled_as, settled, gone}
use Rattle.adb_daemon.specs.Serving.{named, closable, is_taken, kind_for, credit_of, open_as, on_open, written_to, on_write, acked_to}
use Rattle.adb_daemon.specs.Serving.{on_okay, closed_to}
use Rattle.adb_daemon.specs.Serving.{on_close, all_gone, served}
use Rattle.adb_daemon.specs.Device.{Device, Setting, step, treated, linked_to, served_on, first_device, device_behind}
use Rattle.adb_daemon.specs.Streams.{over_at, okay_of, okays_of, ack_for, acks_due, IsAcked}
use Rattle.adb_daemon.proofs.Standing.{other_over, own_over}
use Rattle.adb_daemon.proofs.Rules.{named_is, closable_is, or_over, all_over}

okays_more : (own : ℕ) (made more : List Sent) → okays_of own (made ++ more) ≡ okays_of own made ++ okays_of own more
okays_more own made more = flat_map-append (okay_of own) made more

same_okays : (own : ℕ) (made more : List Sent) → okays_of own more ≡ [] → okays_of own (made ++ more) ≡ okays_of own made
same_okays own made more none = okays_more own made more ∙ (ap (λ l. okays_of own made ++ l) none ∙ append-nil (okays_of own made))

acked_stays : (own : ℕ) (made more : List Sent) → okays_of own more ≡ [] → (row : Option Row) (over : Option Ended)
    → IsAcked own made row over
    → IsAcked own (made ++ more) row over
acked_stays own made more none (Some row) over acked = same_okays own made more none ∙ acked
acked_stays own made more none None (Some e) acked = same_okays own made more none ∙ acked
acked_stays own made more none None None acked = same_okays own made more none ∙ acked

-- writes are no OKAYs
writes_none : (own : ℕ) (sums : Bool) (q host : ℕ) (payloads : List (List ℕ))
    → okays_of own (map (λ payload. with_sum sums (wrte q host payload)) payloads) ≡ []
writes_none own sums q host [] = refl
writes_none own sums q host (payload ∷ more) = writes_none own sums q host more

-- a stream past its writes took what it took
past_due : (payloads : List (List ℕ)) (row : Row) → acks_due (has_credit (row_past_all payloads row).flow) (row_past_all payloads row).past
    ≡ acks_due (has_credit row.flow) row.past
past_due [] row = refl
past_due (payload ∷ more) row = past_due more (row_past payload row) ∙ go row.flow
  where
    go : (flow : Flow) → acks_due (has_credit (wrote (length payload) flow)) row.past ≡ acks_due (has_credit flow) row.past
    go (flows.One window) = refl
    go (flows.Credit credit) = refl

acked_due : (flow : Flow) (word : Option ℕ) (past : List Came)
    → acks_due (has_credit (acknowledged word flow)) past ≡ acks_due (has_credit flow) past
acked_due (flows.One window) word past = refl
acked_due (flows.Credit credit) None past = refl
acked_due (flows.Credit credit) (Some more) past = refl

-- the acknowledgement of a write, and that of an OPEN
own_ack : (own : ℕ) (link : Link) (host : ℕ) (flow : Flow) (n : ℕ)
    → okays_of own (sent_ack link own host flow n) ≡ ack_for (has_credit flow) n
own_ack own link host (flows.One window) n = ap (λ (t : Bool). (if t then [] ∷ [] else []) ++ []) (eq-eqb own own refl)
own_ack own link host (flows.Credit credit) n = go (n == 0)
  where
    go : (t : Bool) → okays_of own (if t then [] else with_sum link.sums (okay own host (little_bytes 4 n)) ∷ [])
        ≡ (if t then [] else little_bytes 4 n ∷ [])
    go true = refl
    go false = ap (λ (t : Bool). (if t then little_bytes 4 n ∷ [] else []) ++ []) (eq-eqb own own refl)

other_ack : (own : ℕ) (link : Link) (q host : ℕ) (flow : Flow) (n : ℕ) → (q ≡ own → ⊥) → okays_of own (sent_ack link q host flow n) ≡ []
other_ack own link q host (flows.One window) n apart = ap (λ (t : Bool). (if t then [] ∷ [] else []) ++ []) (ne_eqb q own apart)
other_ack own link q host (flows.Credit credit) n apart = go (n == 0)
  where
    go : (t : Bool) → okays_of own (if t then [] else with_sum link.sums (okay q host (little_bytes 4 n)) ∷ []) ≡ []
    go true = refl
    go false = ap (λ (t : Bool). (if t then little_bytes 4 n ∷ [] else []) ++ []) (ne_eqb q own apart)

first_due : (given : Option ℕ) → opening_word given ∷ [] ≡ acks_due (has_credit (first_flow given)) []
first_due None = refl
first_due (Some n) = refl

-- What is kept of one stream.
record IsHeard (own : ℕ) (s : Serving) : Type 0 where
  pub rises : IsRising s.rows
  pub fresh : s.drawn < own → (at own s.rows ≡ None) × (over_at own s.ended ≡ None)
  pub heard : IsAcked own s.made (at own s.rows) (over_at own s.ended)

heard_more : (own : ℕ) (s : Serving) (more : List Sent) (files : List Entry) → okays_of own more ≡ [] → IsHeard own s
    → IsHeard own (record (owing more s) { files = files })
heard_more own s more files none h =
    record { rises = h.rises; fresh = h.fresh; heard = acked_stays own s.made more none (at own s.rows) (over_at own s.ended) h.heard }

heard_granted : (own q : ℕ) (word : Option ℕ) (s : Serving) → IsHeard own s → IsHeard own (granted q word s)
heard_granted own q word s h = record { rises = h.rises; fresh = h.fresh; heard = h.heard }

module _ (own q : ℕ) (apart : q ≡ own → ⊥) (link : Link) (row : Row) (s : Serving) (h : IsHeard own s) where
  other_gone : (closed : Bool) (more : List Sent) → okays_of own more ≡ []
      → IsHeard own (record s { rows = without q s.rows; ended = ended_at closed (q, row) ∷ s.ended; made = s.made ++ more })
  other_gone closed more none =
      let same : at own (without q s.rows) ≡ at own s.rows = (puts_without q s.rows h.rises).others own (λ is. apart (sym is)) in
      let over = other_over own (ended_at closed (q, row)) s.ended apart in
      record {
        rises = without_rises q s.rows h.rises;
        fresh = λ above. (same ∙ (h.fresh above).0, over ∙ (h.fresh above).1);
        heard = subst (λ (r : Option Row). IsAcked own (s.made ++ more) r (over_at own (ended_at closed (q, row) ∷ s.ended))) (sym same)
            (subst (λ (e : Option Ended). IsAcked own (s.made ++ more) (at own s.rows) e) (sym over)
            (acked_stays own s.made more none (at own s.rows) (over_at own s.ended) h.heard));
      }

other_settles : (own q : ℕ) (apart : q ≡ own → ⊥) (link : Link) (row : Row) (s : Serving) → IsHeard own s
    → IsHeard own (settled link q row s)
other_settles own q apart link row s h = go (is_done (row_written link.most row))
  where
    none : okays_of own (sent_writes link q row) ≡ []
    none = writes_none own link.sums q row.host (writes link.most row)

    go : (t : Bool) → IsHeard own (settled_as t link q (row_written link.most row) (owing (sent_writes link q row) s))
    go false =
        let last = row_written link.most row in
        let same : at own (put_at q last s.rows) ≡ at own s.rows = (puts_put_at q last s.rows).others own (λ is. apart (sym is)) in
        record {
          rises = put_at_rises q last s.rows h.rises;
          fresh = λ above. (same ∙ (h.fresh above).0, (h.fresh above).1);
          heard = subst (λ (r : Option Row). IsAcked own (s.made ++ sent_writes link q row) r (over_at own s.ended)) (sym same)
              (acked_stays own s.made (sent_writes link q row) none (at own s.rows) (over_at own s.ended) h.heard);
        }
    go true =
        let last = row_written link.most row in
        let mid = heard_more own s (sent_writes link q row) s.files none h in
        other_gone own q apart link last (owing (sent_writes link q row) s) mid true (sent_close true link q last.host) refl

-- This stream, before it settles.
record IsReady (own : ℕ) (row : Row) (s : Serving) : Type 0 where
  pub rises : IsRising s.rows
  pub drawn : own ≤ s.drawn
  pub heard : okays_of own s.made ≡ acks_due (has_credit row.flow) row.past

own_gone : (own : ℕ) (row : Row) (closed : Bool) (s : Serving) → IsReady own row s → IsHeard own (gone closed own row s)
own_gone own row closed s r =
    let lost = puts_without own s.rows r.rises in
    record {
      rises = without_rises own s.rows r.rises;
      fresh = λ above. absurd (omega (arith, above, r.drawn));
      heard = subst (λ (o : Option Row). IsAcked own s.made o (over_at own (ended_at closed (own, row) ∷ s.ended))) (sym lost.here)
          (subst (λ (e : Option Ended). IsAcked own s.made None e) (sym (own_over own (ended_at closed (own, row)) s.ended refl)) r.heard);
    }

own_settles : (own : ℕ) (link : Link) (row : Row) (s : Serving) → IsReady own row s → IsHeard own (settled link own row s)
own_settles own link row s r = go (is_done (row_written link.most row))
  where
    heard : okays_of own (s.made ++ sent_writes link own row)
        ≡ acks_due (has_credit (row_written link.most row).flow) (row_written link.most row).past
    heard = same_okays own s.made (sent_writes link own row) (writes_none own link.sums own row.host (writes link.most row))
        ∙ (r.heard ∙ sym (past_due (writes link.most row) row))

    go : (t : Bool) → IsHeard own (settled_as t link own (row_written link.most row) (owing (sent_writes link own row) s))
    go false =
        let last = row_written link.most row in
        record {
          rises = put_at_rises own last s.rows r.rises;
          fresh = λ above. absurd (omega (arith, above, r.drawn));
          heard = subst (λ (o : Option Row). IsAcked own (s.made ++ sent_writes link own row) o (over_at own s.ended))
              (sym (puts_put_at own last s.rows).here)
              heard;
        }
    go true =
        let last = row_written link.most row in
        own_gone own last true (owing (sent_close true link own last.host) (owing (sent_writes link own row) s)) (record {
          rises = r.rises;
          drawn = r.drawn;
          heard = same_okays own (s.made ++ sent_writes link own row) (sent_close true link own last.host) refl ∙ heard;
        })

module _ (own : ℕ) (s : Serving) (h : IsHeard own s) where
  drawn : (row : Row) → at own s.rows ≡ Some row → own ≤ s.drawn
  drawn row is = go (cases_lt s.drawn own)
    where
      go : (s.drawn < own) ⊎ (own ≤ s.drawn) → own ≤ s.drawn
      go (inl above) = let clash : None ≡ Some row = sym (h.fresh above).0 ∙ is in cc
      go (inr within) = within

  ready : (row : Row) → at own s.rows ≡ Some row → IsReady own row s
  ready row is = record {
    rises = h.rises;
    drawn = drawn row is;
    heard = subst (λ (r : Option Row). IsAcked own s.made r (over_at own s.ended)) is h.heard;
  }

  okay_row : (link : Link) (p : Packet) (word : Option ℕ) (row : Row) → at p.arg1 s.rows ≡ Some row → (p.arg1 ≡ own) ⊎ (p.arg1 ≡ own → ⊥)
      → IsHeard own (settled link p.arg1 (row_acked word row) (granted p.arg1 word s))
  okay_row link p word row is (inl here) =
      let r = ready row (ap (λ (k : ℕ). at k s.rows) (sym here) ∙ is) in
      subst (λ (k : ℕ). IsHeard own (settled link k (row_acked word row) (granted k word s))) (sym here)
      (own_settles own link (row_acked word row) (granted own word s)
      (record { rises = r.rises; drawn = r.drawn; heard = r.heard ∙ sym (acked_due row.flow word row.past) }))
  okay_row link p word row is (inr apart) =
      other_settles own p.arg1 apart link (row_acked word row) (granted p.arg1 word s) (heard_granted own p.arg1 word s h)

  okays : (link : Link) (p : Packet) → IsHeard own (on_okay link p s)
  okays link p = go (named p.arg0 (at p.arg1 s.rows)) refl
    where
      go : (found : Option Row) → named p.arg0 (at p.arg1 s.rows) ≡ found → IsHeard own (acked_to link p found s)
      go None is = h
      go (Some row) is = okay_row link p (credit_word_in p.payload) row (named_is p.arg0 (at p.arg1 s.rows) row is) (cases_eq p.arg1 own)

  write_row : (link : Link) (p : Packet) (row : Row) → at p.arg1 s.rows ≡ Some row → (p.arg1 ≡ own) ⊎ (p.arg1 ≡ own → ⊥)
      → IsHeard own (written_to link p (Some row) s)
  write_row link p row is (inr apart) =
      let came = came_over p.payload s.files in
      let more = sent_ack link p.arg1 row.host row.flow (length p.payload) in
      other_settles own p.arg1 apart link (row_took came row) (record (owing more s) { files = files_fed row.kind row.past came })
      (heard_more own s more (files_fed row.kind row.past came) (other_ack own link p.arg1 row.host row.flow (length p.payload) apart) h)
  write_row link p row is (inl here) =
      let came = came_over p.payload s.files in
      let n = length p.payload in
      let files = files_fed row.kind row.past came in
      let r = ready row (ap (λ (k : ℕ). at k s.rows) (sym here) ∙ is) in
      subst (λ (k : ℕ). IsHeard own
      (settled link k (row_took came row)
      (record (owing (sent_ack link k row.host row.flow n) s) { files = files }))) (sym here)
      (own_settles own link (row_took came row) (record (owing (sent_ack link own row.host row.flow n) s) { files = files }) (record {
        rises = r.rises;
        drawn = r.drawn;
        heard = okays_more own s.made (sent_ack link own row.host row.flow n)
            ∙ (ap (λ l. l ++ okays_of own (sent_ack link own row.host row.flow n)) r.heard
            ∙ ap (λ l. acks_due (has_credit row.flow) row.past ++ l) (own_ack own link row.host row.flow n));
      }))

  writes_to : (link : Link) (p : Packet) → IsHeard own (on_write link p s)
  writes_to link p = go (named p.arg0 (at p.arg1 s.rows)) refl
    where
      go : (found : Option Row) → named p.arg0 (at p.arg1 s.rows) ≡ found → IsHeard own (written_to link p found s)
      go None is = h
      go (Some row) is = write_row link p row (named_is p.arg0 (at p.arg1 s.rows) row is) (cases_eq p.arg1 own)

  close_row : (link : Link) (p : Packet) (row : Row) → at p.arg1 s.rows ≡ Some row → (p.arg1 ≡ own) ⊎ (p.arg1 ≡ own → ⊥)
      → IsHeard own (closed_to p.arg1 (Some row) s)
  close_row link p row is (inl here) =
      subst (λ (k : ℕ). IsHeard own (closed_to k (Some row) s)) (sym here)
      (own_gone own row false s (ready row (ap (λ (k : ℕ). at k s.rows) (sym here) ∙ is)))
  close_row link p row is (inr apart) =
      subst (λ (made : List Sent). IsHeard own (record (closed_to p.arg1 (Some row) s) { made = made })) (append-nil s.made)
      (other_gone own p.arg1 apart link row s h false [] refl)

  closes_to : (link : Link) (p : Packet) → IsHeard own (on_close p s)
  closes_to link p = go (closable p.arg0 (at p.arg1 s.rows)) refl
    where
      go : (found : Option Row) → closable p.arg0 (at p.arg1 s.rows) ≡ found → IsHeard own (closed_to p.arg1 found s)
      go None is = h
      go (Some row) is = close_row link p row (closable_is p.arg0 (at p.arg1 s.rows) row is) (cases_eq p.arg1 own)

  opens : (link : Link) (p : Packet) (kind : Option Kind) → (s.drawn + 1 ≡ own) ⊎ (s.drawn + 1 ≡ own → ⊥)
      → IsHeard own (open_as link p kind s)
  opens link p None known = heard_more own s (with_sum link.sums (clse 0 p.arg0) ∷ []) s.files refl h
  opens link p (Some kind) (inr apart) =
      let given = credit_of link p in
      let hello = with_sum link.sums (okay (s.drawn + 1) p.arg0 (opening_word given)) ∷ [] in
      let none : okays_of own hello ≡ [] = ap (λ (t : Bool). (if t then opening_word given ∷ [] else []) ++ [])
      (ne_eqb (s.drawn + 1) own apart) in
      let mid = heard_more own s hello (files_opened kind s.files) none h in
      other_settles own (s.drawn + 1) apart link (opened p.arg0 kind s.files given)
      (record (granted (s.drawn + 1) given (owing hello s)) { drawn = s.drawn + 1; files = files_opened kind s.files })
      (record { rises = mid.rises; fresh = λ above. mid.fresh (omega (arith, above)); heard = mid.heard })
  opens link p (Some kind) (inl here) =
      let given = credit_of link p in
      let hello = with_sum link.sums (okay (s.drawn + 1) p.arg0 (opening_word given)) ∷ [] in
      let free = h.fresh (omega (arith, here)) in
      let none : okays_of own s.made ≡ [] = subst (λ (r : Option Row). IsAcked own s.made r None) free.0
      (subst (λ (e : Option Ended). IsAcked own s.made (at own s.rows) e) free.1 h.heard) in
      let first : okays_of own hello ≡ opening_word given ∷ [] =
      ap (λ (t : Bool). (if t then opening_word given ∷ [] else []) ++ []) (eq-eqb (s.drawn + 1) own here) in
      let row = opened p.arg0 kind s.files given in
      let mid = record (granted (s.drawn + 1) given (owing hello s)) { drawn = s.drawn + 1; files = files_opened kind s.files } in
      subst (λ (k : ℕ). IsHeard own (settled link k row mid)) (sym here) (own_settles own link row mid (record {
        rises = h.rises;
        drawn = omega (arith, here);
        heard = okays_more own s.made hello ∙ (ap (λ l. l ++ okays_of own hello) none ∙ (first ∙ first_due given));
      }))

  opens_or_not : (link : Link) (p : Packet) → IsHeard own (on_open link p s)
  opens_or_not link p = go (p.arg0 == 0 || is_taken p.arg0 s.rows)
    where
      go : (t : Bool) → IsHeard own (if t then s else open_as link p (kind_for s.drawn p) s)
      go true = h
      go false = opens link p (kind_for s.drawn p) (cases_eq (s.drawn + 1) own)

  serves : (command : Command) (link : Link) (p : Packet) → IsHeard own (served command link p s)
  serves commands.Open link p = opens_or_not link p
  serves commands.Wrte link p = writes_to link p
  serves commands.Okay link p = okays link p
  serves commands.Clse link p = closes_to link p
  serves commands.Cnxn link p = h
  serves commands.Auth link p = h
  serves commands.Stls link p = h

  all_end : IsHeard own (all_gone s)
  unfolding IsStrictlySortedBy
  all_end = record {
    rises = tt;
    fresh = λ above.
        let f = h.fresh above in
        (refl, all_over own s.rows s.ended ∙ (ap (λ (r : Option Row). or_over own r (over_at own s.ended)) f.0 ∙ f.1));
    heard = subst (λ (e : Option Ended). IsAcked own s.made None e) (sym (all_over own s.rows s.ended)) (go (at own s.rows) h.heard);
  }
    where
      go : (r : Option Row) → IsAcked own s.made r (over_at own s.ended) → IsAcked own s.made None (or_over own r (over_at own s.ended))
      go None w = w
      go (Some row) w = w

step_heard : (own : ℕ) (setting : Setting) (d : Device) (p : Packet) → IsHeard own d.serving → IsHeard own (step setting d p).serving
unfolding step
step_heard own setting d p h = go d.refused
  where
    linked : (link : Option Link) → IsHeard own (linked_to link d).serving
    linked None = h
    linked (Some link) = all_end own d.serving h

    on : (link : Option Link) → IsHeard own (served_on link p d).serving
    on None = h
    on (Some link) = serves own d.serving h p.command link p

    by : (t : Bool) → IsHeard own (if t then linked_to (link_of setting.most setting.credit p) d else served_on d.link p d).serving
    by true = linked (link_of setting.most setting.credit p)
    by false = on d.link

    go : (t : Bool) → IsHeard own (if t then d else treated setting p d).serving
    go true = h
    go false = by (is_cnxn p.command)

all_heard : (own : ℕ) (setting : Setting) (packets : List Packet) (d : Device) → IsHeard own d.serving
    → IsHeard own (fold (step setting) d packets).serving
all_heard own setting [] d h = h
all_heard own setting (p ∷ more) d h = all_heard own setting more (step setting d p) (step_heard own setting d p h)

-- behind any packets
pub all_acknowledged : (setting : Setting) (packets : List Packet) (own : ℕ)
    → IsAcked own (device_behind setting packets).serving.made (at own (device_behind setting packets).serving.rows)
    (over_at own (device_behind setting packets).serving.ended)
unfolding IsStrictlySortedBy
all_acknowledged setting packets own =
    (all_heard own setting packets (first_device setting) (record { rises = tt; fresh = λ above. (refl, refl); heard = refl })).heard
