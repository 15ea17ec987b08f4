-- A plain stream to which no OKAY came too early may write as much as it took OKAYs for.
use Rattle.std.specs.Prelude.{ℕ, ◌+◌, ◌≡◌, ◌<◌, ◌≤◌, ◌==◌, ◌||◌, if◌then◌else◌, Bool, true, false, List, [], ◌∷◌, ◌++◌, length, zero, suc}
use Rattle.std.specs.Prelude.{Option, Some, None}
use Rattle.std.proofs.Common.{refl, sym, ◌∙◌, ap, subst, arith, ◌⊎◌, inl, inr, append_assoc}
use Rattle.std.proofs.lemmas.Bool.{cases_eq, eq-eqb, ne_eqb}
use Rattle.std.proofs.lemmas.List.{append-nil}
use Rattle.std.specs.List.Sorted.{IsStrictlySortedBy}
use Rattle.adb_outside.specs.Tables.{at, IsRising, without}
use Rattle.adb_outside.proofs.TableLaws.{puts_put_at, puts_without}
use Rattle.adb_wire.specs.Format.{is_cnxn}
use Rattle.adb_wire.specs.declared.command.Command.{Command}
use Rattle.adb_wire.specs.declared.command.Command.TheVariants as commands
use Rattle.adb_wire.specs.declared.packets.Packet.{Packet}
use Rattle.adb_stream.specs.Flow.{wrote, acknowledged}
use Rattle.adb_stream.specs.declared.flow.Flow.{Flow}
use Rattle.adb_stream.specs.declared.flow.Flow.TheVariants as flows
use Rattle.adb_files.specs.Entries.{Entry}
use Rattle.adb_device_streams.specs.Asked.{Kind}
use Rattle.adb_device_streams.specs.Service.{came_over, files_fed, files_opened}
use Rattle.adb_device_streams.specs.Stream.{Row, opened, row_took, row_acked, row_past, row_past_all, row_written, first_flow, next_payload}
use Rattle.adb_device_streams.specs.Stream.{writes_at, writes}
use Rattle.adb_device_streams.specs.Stream.{unsent, is_done, okay, clse, opening_word}
use Rattle.adb_device_streams.specs.Link.{credit_word_in, link_of}
use Rattle.adb_device_streams.specs.declared.link.Link.{Link}
use Rattle.adb_daemon.specs.Serving.{Serving, Sent, with_sum, owing, granted, gone, sent_ack, sent_writes, sent_close, settled_as, settled}
use Rattle.adb_daemon.specs.Serving.{named, closable}
use Rattle.adb_daemon.specs.Serving.{is_taken, kind_for, credit_of, open_as, on_open, written_to, on_write, acked_to, on_okay, closed_to}
use Rattle.adb_daemon.specs.Serving.{on_close, served}
use Rattle.adb_daemon.specs.Device.{Device, Setting, step, treated, linked_to, served_on, first_device, device_behind}
use Rattle.adb_daemon.specs.Streams.{free_of, writes_of, acks_of, IsExact, ExactAt, IsAckedInTime}
use Rattle.adb_daemon.proofs.Standing.{IsOrderly, silent_writes, silent_close, own_count, writes_more}
use Rattle.adb_daemon.proofs.Rules.{named_is, silent_ack, drawn, step_orderly}
use Rattle.adb_daemon.proofs.Machines.{step_more}

-- ---- writes
module _ (most acks : ℕ) where
  -- a write more
  exact_one : (flow : Flow) (n count : ℕ) → IsExact count acks flow → IsExact (count + 1) acks (wrote n flow)
  exact_one (flows.One window) n count e = go window.outstanding e
    where
      go : (b : Bool) → acks ≤ count + free_of b → acks ≤ (count + 1) + 0
      go true le = omega (arith, le)
      go false le = omega (arith, le)
  exact_one (flows.Credit credit) n count e = tt

  exact_same : (flow : Flow) (count more : ℕ) → more ≡ count → IsExact count acks flow → IsExact more acks flow
  exact_same flow count more same e = subst (λ n. IsExact n acks flow) (sym same) e

  -- all the writes that the window lets go
  exact_at : (k : ℕ) (row : Row) (count : ℕ) → IsExact count acks row.flow
      → IsExact (count + length (writes_at k most row)) acks (row_past_all (writes_at k most row) row).flow
  exact_at zero row count e = exact_same row.flow count (count + 0) (omega arith) e
  exact_at (suc k) row count e = go (length (next_payload most row) == 0) (exact_at k (row_past (next_payload most row) row) (count + 1)
      (exact_one row.flow (length (next_payload most row)) count e))
    where
      go : (t : Bool) → IsExact ((count + 1) + length (writes_at k most (row_past (next_payload most row) row))) acks
          (row_past_all (writes_at k most (row_past (next_payload most row) row)) (row_past (next_payload most row) row)).flow
          → IsExact (count
          + length (if t then [] else next_payload most row
          ∷ writes_at k most (row_past (next_payload most row) row))) acks
          (row_past_all (if t then [] else next_payload most row ∷ writes_at k most (row_past (next_payload most row) row)) row).flow
      go true later = exact_same row.flow count (count + 0) (omega arith) e
      go false later =
          exact_same (row_past_all (writes_at k most (row_past (next_payload most row) row))
          (row_past (next_payload most row) row)).flow
          ((count + 1) + length (writes_at k most (row_past (next_payload most row) row)))
          (count + length (next_payload most row ∷ writes_at k most (row_past (next_payload most row) row))) (omega arith) later

  exact_written : (row : Row) (count : ℕ) → IsExact count acks row.flow
      → IsExact (count + length (writes most row)) acks (row_written most row).flow
  exact_written row count e = exact_at (length (unsent row)) row count e

-- ---- one stream
-- What is kept of a stream: it took no OKAY before it was drawn, and its window is exact.
record IsTight (own : ℕ) (s : Serving) : Type 0 where
  untaken : s.drawn < own → acks_of own s.acks ≡ 0
  exact : ExactAt own s.made s.acks (at own s.rows)

-- packets none of which is a write of it
exact_count : (own : ℕ) (made more : List Sent) (s : Serving) (row : Option Row) → writes_of own more ≡ 0 → ExactAt own made s.acks row
    → ExactAt own (made ++ more) s.acks row
exact_count own made more s None none e = tt
exact_count own made more s (Some row) none e =
    subst (λ n. IsExact n (acks_of own s.acks) row.flow) (let sum = writes_more own made more in omega (arith, sum, none)) e

module _ (own : ℕ) (s : Serving) where
  -- more became due that is no write of it
  owing_tight : (more : List Sent) (files : List Entry) → writes_of own more ≡ 0 → IsTight own s
      → IsTight own (record (owing more s) { files = files })
  owing_tight more files none t = record { untaken = t.untaken; exact = exact_count own s.made more s (at own s.rows) none t.exact }

  -- another stream took an OKAY
  other_granted : (q : ℕ) (word : Option ℕ) → (q ≡ own → ⊥) → IsTight own s → IsTight own (granted q word s)
  other_granted q word apart t =
      let same : acks_of own (granted q word s).acks ≡ acks_of own s.acks =
      ap (λ (b : Bool). (if b then 1 else 0) + acks_of own s.acks) (ne_eqb q own apart) ∙ omega arith in
      record { untaken = λ above. same ∙ t.untaken above; exact = go (at own s.rows) same t.exact }
    where
      go : (row : Option Row) → acks_of own (granted q word s).acks ≡ acks_of own s.acks → ExactAt own s.made s.acks row
          → ExactAt own s.made (granted q word s).acks row
      go None same e = tt
      go (Some row) same e = subst (λ n. IsExact (writes_of own s.made) n row.flow) (sym same) e

  -- another stream settles
  module _ (q : ℕ) (apart : q ≡ own → ⊥) (o : IsRising s.rows) (t : IsTight own s) (link : Link) (row : Row) where
    not_own : own ≡ q → ⊥
    not_own e = apart (sym e)

    abbrev after : List Sent
    after = s.made ++ sent_writes link q row

    exact_still : ExactAt own after s.acks (at own s.rows)
    exact_still = exact_count own s.made (sent_writes link q row) s (at own s.rows) (silent_writes own link q row apart).count t.exact

    other_tight : IsTight own (settled link q row s)
    other_tight = go (is_done (row_written link.most row))
      where
        go : (b : Bool) → IsTight own (settled_as b link q (row_written link.most row) (owing (sent_writes link q row) s))
        go false = record {
          untaken = t.untaken;
          exact = subst (λ (r : Option Row). ExactAt own after s.acks r)
              (sym ((puts_put_at q (row_written link.most row) s.rows).others own not_own)) exact_still;
        }
        go true = record {
          untaken = t.untaken;
          exact = subst (λ (r : Option Row). ExactAt own (after ++ sent_close true link q (row_written link.most row).host) s.acks r)
              (sym ((puts_without q s.rows o).others own not_own))
              (exact_count own after (sent_close true link q (row_written link.most row).host) s (at own s.rows)
              (silent_close own link q (row_written link.most row).host apart).count exact_still);
        }

  -- this stream settles
  module _ (o : IsRising s.rows) (below : own ≤ s.drawn) (link : Link) (row : Row)
      (e : IsExact (writes_of own s.made) (acks_of own s.acks) row.flow) where
    own_tight : IsTight own (settled link own row s)
    own_tight = go (is_done (row_written link.most row))
      where
        sum : writes_of own s.made + length (writes link.most row) ≡ writes_of own (s.made ++ sent_writes link own row)
        sum = ap (λ n. writes_of own s.made + n) (sym (own_count own link.sums own row.host (eq-eqb own own refl) (writes link.most row)))
            ∙ sym (writes_more own s.made (sent_writes link own row))

        go : (b : Bool) → IsTight own (settled_as b link own (row_written link.most row) (owing (sent_writes link own row) s))
        go false = record {
          untaken = λ above. absurd (omega (arith, above, below));
          exact = subst (λ (r : Option Row). ExactAt own (s.made ++ sent_writes link own row) s.acks r)
              (sym (puts_put_at own (row_written link.most row) s.rows).here)
              (subst (λ n. IsExact n (acks_of own s.acks) (row_written link.most row).flow) sum
              (exact_written link.most (acks_of own s.acks) row (writes_of own s.made) e));
        }
        go true = record {
          untaken = λ above. absurd (omega (arith, above, below));
          exact = subst (λ (r : Option Row).
              ExactAt own ((s.made ++ sent_writes link own row) ++ sent_close true link own (row_written link.most row).host) s.acks r)
              (sym (puts_without own s.rows o).here) tt;
        }

-- settling takes no OKAY
settled_acks : (link : Link) (q : ℕ) (row : Row) (s : Serving) → (settled link q row s).acks ≡ s.acks
settled_acks link q row s = go (is_done (row_written link.most row))
  where
    go : (b : Bool) → (settled_as b link q (row_written link.most row) (owing (sent_writes link q row) s)).acks ≡ s.acks
    go true = refl
    go false = refl

-- ---- packets
module _ (own : ℕ) (s : Serving) (o : IsOrderly own s) (t : IsTight own s) (link : Link) (p : Packet) where
  -- an OKAY that came to this stream in time, or to another
  okay_tight : acks_of own (on_okay link p s).acks ≤ 1 + writes_of own s.made → IsTight own (on_okay link p s)
  okay_tight = go (named p.arg0 (at p.arg1 s.rows)) refl
    where
      acked : (flow : Flow) (word : Option ℕ) (count acks : ℕ) → acks ≤ 1 + count → IsExact count acks (acknowledged word flow)
      acked (flows.One window) word count acks le = omega (arith, le)
      acked (flows.Credit credit) None count acks le = tt
      acked (flows.Credit credit) (Some more) count acks le = tt

      at_row : (row : Row) (word : Option ℕ) → at p.arg1 s.rows ≡ Some row → (p.arg1 ≡ own) ⊎ (p.arg1 ≡ own → ⊥)
          → acks_of own (settled link p.arg1 (row_acked word row) (granted p.arg1 word s)).acks ≤ 1 + writes_of own s.made
          → IsTight own (settled link p.arg1 (row_acked word row) (granted p.arg1 word s))
      at_row row word is (inr apart) timely = other_tight own (granted p.arg1 word s) p.arg1 apart o.rises
          (other_granted own s p.arg1 word apart t) link
          (row_acked word row)
      at_row row word is (inl here) timely =
          let below = drawn own s o row (ap (λ (k : ℕ). at k s.rows) (sym here) ∙ is) in
          let le : acks_of own (granted p.arg1 word s).acks ≤ 1 + writes_of own s.made =
          subst (λ acks. acks_of own acks ≤ 1 + writes_of own s.made)
          (settled_acks link p.arg1 (row_acked word row) (granted p.arg1 word s)) timely in
          subst (λ (k : ℕ). IsTight own (settled link k (row_acked word row) (granted p.arg1 word s))) (sym here)
          (own_tight own (granted p.arg1 word s) o.rises below link (row_acked word row)
          (acked row.flow word (writes_of own s.made) (acks_of own (granted p.arg1 word s).acks) le))

      go : (found : Option Row) → named p.arg0 (at p.arg1 s.rows) ≡ found
          → acks_of own (acked_to link p found s).acks ≤ 1 + writes_of own s.made
          → IsTight own (acked_to link p found s)
      go None is timely = t
      go (Some row) is timely = at_row row (credit_word_in p.payload) (named_is p.arg0 (at p.arg1 s.rows) row is)
          (cases_eq p.arg1 own) timely

  -- a WRTE, a CLSE and an OPEN
  write_tight : IsTight own (on_write link p s)
  write_tight = go (named p.arg0 (at p.arg1 s.rows)) refl
    where
      mid : Row → Serving
      mid row = record (owing (sent_ack link p.arg1 row.host row.flow (length p.payload)) s) {
        files = files_fed row.kind row.past (came_over p.payload s.files);
      }

      mid_tight : (row : Row) → IsTight own (mid row)
      mid_tight row = owing_tight own s (sent_ack link p.arg1 row.host row.flow (length p.payload))
          (files_fed row.kind row.past (came_over p.payload s.files))
          (silent_ack own link p.arg1 row.host row.flow (length p.payload)).count t

      at_row : (row : Row) → at p.arg1 s.rows ≡ Some row → (p.arg1 ≡ own) ⊎ (p.arg1 ≡ own → ⊥)
          → IsTight own (settled link p.arg1 (row_took (came_over p.payload s.files) row) (mid row))
      at_row row is (inr apart) = other_tight own (mid row) p.arg1 apart o.rises (mid_tight row) link
          (row_took (came_over p.payload s.files) row)
      at_row row is (inl here) =
          let mine = ap (λ (k : ℕ). at k s.rows) (sym here) ∙ is in
          subst (λ (k : ℕ). IsTight own (settled link k (row_took (came_over p.payload s.files) row) (mid row))) (sym here)
          (own_tight own (mid row) o.rises (drawn own s o row mine) link (row_took (came_over p.payload s.files) row)
          (subst (λ (r : Option Row). ExactAt own (mid row).made s.acks r) mine (mid_tight row).exact))

      go : (found : Option Row) → named p.arg0 (at p.arg1 s.rows) ≡ found → IsTight own (written_to link p found s)
      go None is = t
      go (Some row) is = at_row row (named_is p.arg0 (at p.arg1 s.rows) row is) (cases_eq p.arg1 own)

  close_tight : IsTight own (on_close p s)
  close_tight = go (closable p.arg0 (at p.arg1 s.rows)) refl
    where
      at_row : (row : Row) → (p.arg1 ≡ own) ⊎ (p.arg1 ≡ own → ⊥) → IsTight own (gone false p.arg1 row s)
      at_row row (inr apart) = record {
        untaken = t.untaken;
        exact = subst (λ (r : Option Row). ExactAt own s.made s.acks r)
            (sym ((puts_without p.arg1 s.rows o.rises).others own (λ e. apart (sym e)))) t.exact;
      }
      at_row row (inl here) = record {
        untaken = t.untaken;
        exact = subst (λ (k : ℕ). ExactAt own s.made s.acks (at own (without k s.rows))) (sym here)
            (subst (λ (r : Option Row). ExactAt own s.made s.acks r) (sym (puts_without own s.rows o.rises).here) tt);
      }

      go : (found : Option Row) → closable p.arg0 (at p.arg1 s.rows) ≡ found → IsTight own (closed_to p.arg1 found s)
      go None is = t
      go (Some row) is = at_row row (cases_eq p.arg1 own)

  open_tight : 0 < own → IsTight own (on_open link p s)
  open_tight some = go (p.arg0 == 0 || is_taken p.arg0 s.rows)
    where
      begun : Kind → Serving
      begun kind = record (granted (s.drawn + 1) (credit_of link p)
          (owing (with_sum link.sums (okay (s.drawn + 1) p.arg0 (opening_word (credit_of link p))) ∷ []) s)) {
            drawn = s.drawn + 1;
            files = files_opened kind s.files;
          }

      first : (credit : Option ℕ) (count acks : ℕ) → acks ≡ 1 → IsExact count acks (first_flow credit)
      first None count acks one = omega (arith, one)
      first (Some given) count acks one = tt

      new : (kind : Kind) → (s.drawn + 1 ≡ own) ⊎ (s.drawn + 1 ≡ own → ⊥)
          → IsTight own (settled link (s.drawn + 1) (opened p.arg0 kind s.files (credit_of link p)) (begun kind))
      new kind (inr apart) =
          let hello = with_sum link.sums (okay (s.drawn + 1) p.arg0 (opening_word (credit_of link p))) ∷ [] in
          let before = other_granted own (owing hello s) (s.drawn + 1) (credit_of link p) apart (owing_tight own s hello s.files refl t) in
          other_tight own (begun kind) (s.drawn + 1) apart o.rises
          (record { untaken = λ above. before.untaken (omega (arith, above)); exact = before.exact }) link
          (opened p.arg0 kind s.files (credit_of link p))
      new kind (inl here) =
          let one : acks_of own (begun kind).acks ≡ 1 =
          ap (λ (b : Bool). (if b then 1 else 0) + acks_of own s.acks) (eq-eqb (s.drawn + 1) own here)
          ∙ (let none = t.untaken (omega (arith, here)) in omega (arith, none)) in
          subst (λ (k : ℕ). IsTight own (settled link k (opened p.arg0 kind s.files (credit_of link p)) (begun kind))) (sym here)
          (own_tight own (begun kind) o.rises (omega (arith, here)) link (opened p.arg0 kind s.files (credit_of link p))
          (first (credit_of link p) (writes_of own (begun kind).made) (acks_of own (begun kind).acks) one))

      by : (kind : Option Kind) → IsTight own (open_as link p kind s)
      by None = owing_tight own s (with_sum link.sums (clse 0 p.arg0) ∷ []) s.files refl t
      by (Some kind) = new kind (cases_eq (s.drawn + 1) own)

      go : (b : Bool) → IsTight own (if b then s else open_as link p (kind_for s.drawn p) s)
      go true = t
      go false = by (kind_for s.drawn p)

module _ (own : ℕ) (some : 0 < own) where
  served_tight : (command : Command) (link : Link) (p : Packet) (s : Serving) → IsOrderly own s → IsTight own s
      → acks_of own (served command link p s).acks ≤ 1 + writes_of own s.made → IsTight own (served command link p s)
  served_tight commands.Open link p s o t timely = open_tight own s o t link p some
  served_tight commands.Wrte link p s o t timely = write_tight own s o t link p
  served_tight commands.Okay link p s o t timely = okay_tight own s o t link p timely
  served_tight commands.Clse link p s o t timely = close_tight own s o t link p
  served_tight commands.Cnxn link p s o t timely = t
  served_tight commands.Auth link p s o t timely = t
  served_tight commands.Stls link p s o t timely = t

  step_tight : (setting : Setting) (d : Device) (p : Packet) → IsOrderly own d.serving → IsTight own d.serving
      → acks_of own (step setting d p).serving.acks ≤ 1 + writes_of own d.serving.made → IsTight own (step setting d p).serving
  unfolding step
  step_tight setting d p o t = go d.refused
    where
      linked : (link : Option Link) → IsTight own (linked_to link d).serving
      linked None = t
      linked (Some link) = record { untaken = t.untaken; exact = tt }

      on : (link : Option Link) → acks_of own (served_on link p d).serving.acks ≤ 1 + writes_of own d.serving.made
          → IsTight own (served_on link p d).serving
      on None timely = t
      on (Some link) timely = served_tight p.command link p d.serving o t timely

      by : (b : Bool) → acks_of own (if b then linked_to (link_of setting.most setting.credit p) d else served_on d.link p d).serving.acks
          ≤ 1 + writes_of own d.serving.made
          → IsTight own (if b then linked_to (link_of setting.most setting.credit p) d else served_on d.link p d).serving
      by true timely = linked (link_of setting.most setting.credit p)
      by false timely = on d.link timely

      go : (b : Bool) → acks_of own (if b then d else treated setting p d).serving.acks ≤ 1 + writes_of own d.serving.made
          → IsTight own (if b then d else treated setting p d).serving
      go true timely = t
      go false timely = by (is_cnxn p.command) timely

  -- packets behind others, each of which came in time
  behind_tight : (setting : Setting) (done packets : List Packet) → IsOrderly own (device_behind setting done).serving
      → IsTight own (device_behind setting done).serving → IsAckedInTime setting own (done ++ packets)
      → IsTight own (device_behind setting (done ++ packets)).serving
  behind_tight setting done [] o t timely =
      subst (λ (ps : List Packet). IsTight own (device_behind setting ps).serving) (sym (append-nil done)) t
  behind_tight setting done (p ∷ packets) o t timely =
      let next : device_behind setting (done ++ p ∷ []) ≡ step setting (device_behind setting done) p =
      step_more setting (first_device setting) done (p ∷ []) in
      let mine = timely done p packets refl in
      let now = step_tight setting (device_behind setting done) p o t
      (subst (λ (d : Device). acks_of own d.serving.acks ≤ 1 + writes_of own (device_behind setting done).serving.made) next mine) in
      let orderly = step_orderly own some setting (device_behind setting done) p o in
      let all : (done ++ p ∷ []) ++ packets ≡ done ++ p ∷ packets = append_assoc done (p ∷ []) packets in
      subst (λ (ps : List Packet). IsTight own (device_behind setting ps).serving) all
      (behind_tight setting (done ++ p ∷ []) packets (subst (λ (d : Device). IsOrderly own d.serving) (sym next) orderly)
      (subst (λ (d : Device). IsTight own d.serving) (sym next) now)
      (subst (λ (ps : List Packet). IsAckedInTime setting own ps) (sym all) timely))

  pub windows_exact : (setting : Setting) (packets : List Packet) → IsAckedInTime setting own packets
      → ExactAt own (device_behind setting packets).serving.made (device_behind setting packets).serving.acks
      (at own (device_behind setting packets).serving.rows)
  unfolding IsStrictlySortedBy
  windows_exact setting packets timely =
      (behind_tight setting [] packets (record { rises = tt; fresh = λ above. (refl, refl); writes = (refl, refl, refl) })
      (record { untaken = λ above. refl; exact = tt }) timely).exact
