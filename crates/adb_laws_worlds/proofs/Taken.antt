-- How many OKAYs a stream of the device takes.
use Rattle.std.specs.Prelude.{ℕ, ◌+◌, ◌≡◌, ◌<◌, ◌≤◌, ◌==◌, ◌||◌, ◌&&◌, if◌then◌else◌, Bool, true, false, cond, List, [], ◌∷◌, fold, length}
use Rattle.std.specs.Prelude.{is_some, nat_eq, Option, Some, None}
use Rattle.std.proofs.Common.{refl, sym, ◌∙◌, ap, subst, arith, ◌⊎◌, inl, inr}
use Rattle.std.specs.List.Sorted.{IsStrictlySortedBy}
use Rattle.std.proofs.lemmas.Bool.{cases_eq, eq-eqb, ne_eqb, eqb-true}
use Rattle.adb_outside.specs.Tables.{at, IsRising, put_at, without}
use Rattle.adb_outside.proofs.TableLaws.{puts_put_at, puts_without, put_at_rises, without_rises}
use Rattle.adb_wire.specs.Format.{is_cnxn}
use Rattle.adb_wire.specs.declared.command.Command.{Command}
use Rattle.adb_wire.specs.declared.command.Command.TheVariants as commands
use Rattle.adb_wire.specs.declared.packets.Packet.{Packet}
use Rattle.adb_stream.specs.Flow.{has_credit}
use Rattle.adb_stream.specs.declared.flow.Flow.{Flow}
use Rattle.adb_stream.specs.declared.flow.Flow.TheVariants as flows
use Rattle.adb_history.specs.Births.{is_okay}
use Rattle.adb_history.specs.Fifo.{okays_in}
use Rattle.adb_device_streams.specs.Asked.{Kind}
use Rattle.adb_device_streams.specs.Service.{came_over, files_fed}
use Rattle.adb_device_streams.specs.Stream.{Row, opened, row_took, row_acked, row_past, row_past_all, row_written, writes, is_done, okay}
use Rattle.adb_device_streams.specs.Link.{credit_word_in, link_of}
use Rattle.adb_device_streams.specs.declared.link.Link.{Link}
use Rattle.adb_daemon.specs.Serving.{Serving, Ended, ended_at, Ack, owing, granted, sent_ack, sent_writes, settled_as, settled, named}
use Rattle.adb_daemon.specs.Serving.{closable, is_taken}
use Rattle.adb_daemon.specs.Serving.{kind_for, credit_of, open_as, on_open, written_to, on_write, acked_to, on_okay, closed_to, on_close}
use Rattle.adb_daemon.specs.Serving.{served}
use Rattle.adb_daemon.specs.Device.{Device, Setting, step, treated, linked_to, served_on, first_device, device_behind}
use Rattle.adb_daemon.specs.Streams.{acks_of, over_at}
use Rattle.adb_daemon.proofs.Rules.{named_is, closable_is, or_over, all_over}
use Rattle.adb_daemon.proofs.Owed.{written_host}
use Rattle.adb_laws_model_device.proofs.Tables.{put_found, left_found}
use Rattle.adb_laws_worlds.proofs.Drawing.{begun_by, drawn_for}

-- ---- flows
-- a write and an OKAY leave a flow with its credit in bytes, or without it
past_credit : (payload : List ℕ) (row : Row) → has_credit (row_past payload row).flow ≡ has_credit row.flow
past_credit payload row = go row.flow
  where
    go : (flow : Flow) → has_credit (row_past payload (record row { flow = flow })).flow ≡ has_credit flow
    go (flows.One window) = refl
    go (flows.Credit credit) = refl

all_credit : (payloads : List (List ℕ)) (row : Row) → has_credit (row_past_all payloads row).flow ≡ has_credit row.flow
all_credit [] row = refl
all_credit (payload ∷ more) row = all_credit more (row_past payload row) ∙ past_credit payload row

acked_credit : (word : Option ℕ) (row : Row) → has_credit (row_acked word row).flow ≡ has_credit row.flow
acked_credit word row = go row.flow word
  where
    go : (flow : Flow) (word : Option ℕ) → has_credit (row_acked word (record row { flow = flow })).flow ≡ has_credit flow
    go (flows.One window) word = refl
    go (flows.Credit credit) None = refl
    go (flows.Credit credit) (Some more) = refl

-- a stream is opened with credit where its link has it
opened_credit : (link : Link) (p : Packet) (kind : Kind) (s : Serving)
    → has_credit (opened p.arg0 kind s.files (credit_of link p)).flow ≡ link.credit
opened_credit link p kind s = go link.credit
  where
    go : (b : Bool) → has_credit (opened p.arg0 kind s.files (if b then Some p.arg1 else None)).flow ≡ b
    go true = refl
    go false = refl

-- ---- one OKAY
module _ (own : ℕ) where
  -- of another stream
  acks_other : (q : ℕ) (word : Option ℕ) (acks : List Ack) → (q ≡ own → ⊥)
      → acks_of own (record { own = q; word = word } ∷ acks) ≡ acks_of own acks
  acks_other q word acks apart = ap (λ (b : Bool). (if b then 1 else 0) + acks_of own acks) (ne_eqb q own apart) ∙ omega arith

  -- of this one
  acks_own : (q : ℕ) (word : Option ℕ) (acks : List Ack) → q ≡ own
      → acks_of own (record { own = q; word = word } ∷ acks) ≡ 1 + acks_of own acks
  acks_own q word acks here = ap (λ (b : Bool). (if b then 1 else 0) + acks_of own acks) (eq-eqb q own here)

-- ---- an id that was not drawn
module _ (own : ℕ) where
  -- it has no row, and took no OKAY
  pub record IsUntaken (s : Serving) : Type 0 where
    pub rises : IsRising s.rows
    pub fresh : s.drawn < own → (at own s.rows ≡ None) × (acks_of own s.acks ≡ 0)

  settled_untaken : (link : Link) (q : ℕ) (row : Row) (s : Serving) → IsRising s.rows
      → (s.drawn < own → (q ≡ own → ⊥) × ((at own s.rows ≡ None) × (acks_of own s.acks ≡ 0))) → IsUntaken (settled link q row s)
  settled_untaken link q row s rises fresh = go (is_done (row_written link.most row))
    where
      go : (b : Bool) → IsUntaken (settled_as b link q (row_written link.most row) (owing (sent_writes link q row) s))
      go false = record {
        rises = put_at_rises q (row_written link.most row) s.rows rises;
        fresh = λ above.
            let f = fresh above in
            ((puts_put_at q (row_written link.most row) s.rows).others own (λ e. f.0 (sym e)) ∙ f.1.0, f.1.1);
      }
      go true = record {
        rises = without_rises q s.rows rises;
        fresh = λ above. let f = fresh above in ((puts_without q s.rows rises).others own (λ e. f.0 (sym e)) ∙ f.1.0, f.1.1);
      }

  module _ (link : Link) (p : Packet) (s : Serving) (j : IsUntaken s) where
    -- a row that is there is another's
    apart_from : (row : Row) → at p.arg1 s.rows ≡ Some row → s.drawn < own → p.arg1 ≡ own → ⊥
    apart_from row is above e =
        let clash : None ≡ Some row = sym (j.fresh above).0 ∙ (ap (λ k. at k s.rows) (sym e) ∙ is) in
        cc

    untaken_open : IsUntaken (on_open link p s)
    untaken_open = go (p.arg0 == 0 || is_taken p.arg0 s.rows)
      where
        by : (kind : Option Kind) → IsUntaken (open_as link p kind s)
        by None = record { rises = j.rises; fresh = j.fresh }
        by (Some kind) =
            settled_untaken link (s.drawn + 1) (opened p.arg0 kind s.files (credit_of link p)) (begun_by link p kind s) j.rises
            (λ above.
            let f = j.fresh (omega (arith, above)) in
            let apart : s.drawn + 1 ≡ own → ⊥ = λ e. omega (arith, above, e) in
            (apart, (f.0, acks_other own (s.drawn + 1) (credit_of link p) s.acks apart ∙ f.1)))

        go : (b : Bool) → IsUntaken (if b then s else open_as link p (kind_for s.drawn p) s)
        go true = j
        go false = by (kind_for s.drawn p)

    untaken_write : IsUntaken (on_write link p s)
    untaken_write = go (named p.arg0 (at p.arg1 s.rows)) refl
      where
        go : (found : Option Row) → named p.arg0 (at p.arg1 s.rows) ≡ found → IsUntaken (written_to link p found s)
        go None is = j
        go (Some row) is =
            settled_untaken link p.arg1 (row_took (came_over p.payload s.files) row)
            (record (owing (sent_ack link p.arg1 row.host row.flow (length p.payload)) s) {
              files = files_fed row.kind row.past (came_over p.payload s.files);
            }) j.rises
            (λ above. let f = j.fresh above in (apart_from row (named_is p.arg0 (at p.arg1 s.rows) row is) above, (f.0, f.1)))

    untaken_okay : IsUntaken (on_okay link p s)
    untaken_okay = go (named p.arg0 (at p.arg1 s.rows)) refl
      where
        go : (found : Option Row) → named p.arg0 (at p.arg1 s.rows) ≡ found → IsUntaken (acked_to link p found s)
        go None is = j
        go (Some row) is =
            settled_untaken link p.arg1 (row_acked (credit_word_in p.payload) row) (granted p.arg1 (credit_word_in p.payload) s) j.rises
            (λ above.
            let f = j.fresh above in
            let apart = apart_from row (named_is p.arg0 (at p.arg1 s.rows) row is) above in
            (apart, (f.0, acks_other own p.arg1 (credit_word_in p.payload) s.acks apart ∙ f.1)))

    untaken_close : IsUntaken (on_close p s)
    untaken_close = go (closable p.arg0 (at p.arg1 s.rows)) refl
      where
        go : (found : Option Row) → closable p.arg0 (at p.arg1 s.rows) ≡ found → IsUntaken (closed_to p.arg1 found s)
        go None is = j
        go (Some row) is = record {
          rises = without_rises p.arg1 s.rows j.rises;
          fresh = λ above.
              let f = j.fresh above in
              let apart = apart_from row (closable_is p.arg0 (at p.arg1 s.rows) row is) above in
              ((puts_without p.arg1 s.rows j.rises).others own (λ e. apart (sym e)) ∙ f.0, f.1);
        }

    untaken_served : (command : Command) → IsUntaken (served command link p s)
    untaken_served commands.Open = untaken_open
    untaken_served commands.Wrte = untaken_write
    untaken_served commands.Okay = untaken_okay
    untaken_served commands.Clse = untaken_close
    untaken_served _ = j

  -- one packet
  step_untaken : (setting : Setting) (d : Device) (p : Packet) → IsUntaken d.serving → IsUntaken (step setting d p).serving
  unfolding step IsStrictlySortedBy
  step_untaken setting d p j = go d.refused
    where
      linked : (link : Option Link) → IsUntaken (linked_to link d).serving
      linked None = j
      linked (Some link) = record { rises = tt; fresh = λ above. (refl, (j.fresh above).1) }

      on : (link : Option Link) → IsUntaken (served_on link p d).serving
      on None = j
      on (Some link) = untaken_served link p d.serving j p.command

      by : (b : Bool) → IsUntaken (if b then linked_to (link_of setting.most setting.credit p) d else served_on d.link p d).serving
      by true = linked (link_of setting.most setting.credit p)
      by false = on d.link

      go : (b : Bool) → IsUntaken (if b then d else treated setting p d).serving
      go true = j
      go false = by (is_cnxn p.command)

  -- all packets
  all_untaken : (setting : Setting) (packets : List Packet) (d : Device) → IsUntaken d.serving
      → IsUntaken (fold (step setting) d packets).serving
  all_untaken setting [] d j = j
  all_untaken setting (p ∷ packets) d j = all_untaken setting packets (step setting d p) (step_untaken setting d p j)

  pub behind_untaken : (setting : Setting) (packets : List Packet) → IsUntaken (device_behind setting packets).serving
  unfolding IsStrictlySortedBy
  behind_untaken setting packets =
      all_untaken setting packets (first_device setting) (record { rises = tt; fresh = λ above. (refl, refl) })

-- ---- an id that was drawn for a host's id
module _ (own host : ℕ) (c : Bool) where
  -- how many OKAYs of both ids a packet is
  abbrev pub okays_one : Packet → ℕ
  okays_one p = okays_in host own (p ∷ [])

  okays_first : (p : Packet) (ps : List Packet) → okays_in host own (p ∷ ps) ≡ okays_one p + okays_in host own ps
  okays_first p ps = go (is_okay p.command && (nat_eq p.arg0 host && nat_eq p.arg1 own))
    where
      go : (b : Bool) → cond b (1 + okays_in host own ps) (okays_in host own ps) ≡ cond b (1 + 0) 0 + okays_in host own ps
      go true = omega arith
      go false = omega arith

  none_if : (p : Packet) → is_okay p.command ≡ false → okays_one p ≡ 0
  none_if p e = ap (λ (b : Bool). cond (b && (nat_eq p.arg0 host && nat_eq p.arg1 own)) (1 + 0) 0) e

  -- a packet is none, or it is one
  counted : (p : Packet) → (okays_one p ≡ 0) ⊎ ((p.arg0 ≡ host) × ((p.arg1 ≡ own) × (okays_one p ≡ 1)))
  counted p = go (is_okay p.command) (nat_eq p.arg0 host) refl (nat_eq p.arg1 own) refl
    where
      go : (a b : Bool) → nat_eq p.arg0 host ≡ b → (d : Bool) → nat_eq p.arg1 own ≡ d
          → (cond (a && (b && d)) (1 + 0) 0 ≡ 0) ⊎ ((p.arg0 ≡ host) × ((p.arg1 ≡ own) × (cond (a && (b && d)) (1 + 0) 0 ≡ 1)))
      go true true e true f = inr (eqb-true p.arg0 host e, (eqb-true p.arg1 own f, refl))
      go _ _ e _ f = inl refl

  -- an OKAY of both ids is one
  is_one : (p : Packet) → is_okay p.command ≡ true → p.arg0 ≡ host → p.arg1 ≡ own → okays_one p ≡ 1
  is_one p a e f =
      ap (λ (b : Bool). cond (b && (nat_eq p.arg0 host && nat_eq p.arg1 own)) (1 + 0) 0) a
      ∙ (ap (λ (b : Bool). cond (b && nat_eq p.arg1 own) (1 + 0) 0) (eq-eqb p.arg0 host e)
      ∙ ap (λ (b : Bool). cond b (1 + 0) 0) (eq-eqb p.arg1 own f))

  -- The row is for the host's id, with credit or without it, and took all OKAYs, of which there were so many behind its OPEN.
  pub record IsRowOf (n : ℕ) (acks : List Ack) (row : Row) : Type 0 where
    pub is_for : row.host ≡ host
    pub credit : has_credit row.flow ≡ c
    pub all : 1 + n ≤ acks_of own acks

  abbrev Lives : ℕ → List Ack → List (ℕ × Row) → Type 0
  Lives n acks rows = (row : Row) → at own rows ≡ Some row → IsRowOf n acks row

  -- more OKAYs were counted, and as many taken
  counted_more : (n m : ℕ) (acks more : List Ack) (row : Row) → (1 + n ≤ acks_of own acks → 1 + m ≤ acks_of own more)
      → IsRowOf n acks row → IsRowOf m more row
  counted_more n m acks more row le r = record { is_for = r.is_for; credit = r.credit; all = le r.all }

  -- one that has ended has credit as the row had it
  abbrev Overs : List Ended → Type 0
  Overs ended = (e : Ended) → over_at own ended ≡ Some e → has_credit e.row.flow ≡ c

  one_over : (closed : Bool) (q : ℕ) (row : Row) (ended : List Ended) → Overs ended → (q ≡ own → has_credit row.flow ≡ c)
      → Overs (ended_at closed (q, row) ∷ ended)
  one_over closed q row ended overs mine e is = go (q == own) refl is
    where
      go : (b : Bool) → (q == own) ≡ b → cond b (Some (ended_at closed (q, row))) (over_at own ended) ≡ Some e → has_credit e.row.flow ≡ c
      go true f found =
          let one : ended_at closed (q, row) ≡ e = cc in
          ap (λ (x : Ended). has_credit x.row.flow) (sym one) ∙ mine (eqb-true q own f)
      go false f found = overs e found

  pub record IsTaking (n : ℕ) (s : Serving) : Type 0 where
    pub rises : IsRising s.rows
    pub drawn : own ≤ s.drawn
    pub few : acks_of own s.acks ≤ 1 + n
    pub lives : Lives n s.acks s.rows
    pub overs : Overs s.ended

  -- no more OKAYs came
  still : (n more : ℕ) (s : Serving) → more ≡ 0 → IsTaking n s → IsTaking (n + more) s
  still n more s none j = subst (λ (k : ℕ). IsTaking k s) (let e : n ≡ n + more = omega (arith, none) in e) j

  -- a stream settles
  module _ (n : ℕ) (link : Link) (q : ℕ) (row : Row) (s : Serving) (rises : IsRising s.rows) (drawn : own ≤ s.drawn)
      (few : acks_of own s.acks ≤ 1 + n)
      (overs : Overs s.ended) (others : (own ≡ q → ⊥) → Lives n s.acks s.rows) (mine : q ≡ own → IsRowOf n s.acks row) where
    kept_lives : Lives n s.acks (put_at q (row_written link.most row) s.rows)
    kept_lives found is = elim (put_found q (row_written link.most row) s.rows own found is) [
      | inl here ↦
          let m = mine (sym here.0) in
          record {
            is_for = ap (λ (r : Row). r.host) (sym here.1) ∙ (written_host link.most row ∙ m.is_for);
            credit = ap (λ (r : Row). has_credit r.flow) (sym here.1) ∙ (all_credit (writes link.most row) row ∙ m.credit);
            all = m.all;
          }
      | inr there ↦ others there.0 found there.1
    ]

    lost_lives : Lives n s.acks (without q s.rows)
    lost_lives found is = let there = left_found q s.rows rises own found is in others there.0 found there.1

    settled_taking : IsTaking n (settled link q row s)
    settled_taking = go (is_done (row_written link.most row))
      where
        go : (b : Bool) → IsTaking n (settled_as b link q (row_written link.most row) (owing (sent_writes link q row) s))
        go false = record {
          rises = put_at_rises q (row_written link.most row) s.rows rises;
          drawn = drawn;
          few =
              few;
          lives = kept_lives;
          overs = overs;
        }
        go true = record {
          rises = without_rises q s.rows rises;
          drawn = drawn;
          few = few;
          lives = lost_lives;
          overs = one_over true q (row_written link.most row) s.ended overs
              (λ here. all_credit (writes link.most row) row ∙ (mine here).credit);
        }

  -- one packet on the link
  module _ (n : ℕ) (link : Link) (p : Packet) (s : Serving) (j : IsTaking n s) where
    -- the row that stands there
    row_here : (row : Row) → at p.arg1 s.rows ≡ Some row → p.arg1 ≡ own → IsRowOf n s.acks row
    row_here row is here = j.lives row (ap (λ k. at k s.rows) (sym here) ∙ is)

    taking_open : IsTaking n (on_open link p s)
    taking_open = go (p.arg0 == 0 || is_taken p.arg0 s.rows)
      where
        by : (kind : Option Kind) → IsTaking n (open_as link p kind s)
        by None = record { rises = j.rises; drawn = j.drawn; few = j.few; lives = j.lives; overs = j.overs }
        by (Some kind) =
            let old = j.drawn in
            let apart : s.drawn + 1 ≡ own → ⊥ = λ e. omega (arith, old, e) in
            let same = acks_other own (s.drawn + 1) (credit_of link p) s.acks apart in
            let few = j.few in
            settled_taking n link (s.drawn + 1) (opened p.arg0 kind s.files (credit_of link p))
            (begun_by link p kind s) j.rises (omega (arith, old))
            (omega (arith, few, same)) j.overs
            (λ e row is. counted_more n n s.acks (begun_by link p kind s).acks row (λ le. omega (arith, le, same))
            (j.lives row is)) (λ e. absurd (apart e))

        go : (b : Bool) → IsTaking n (if b then s else open_as link p (kind_for s.drawn p) s)
        go true = j
        go false = by (kind_for s.drawn p)

    taking_write : IsTaking n (on_write link p s)
    taking_write = go (named p.arg0 (at p.arg1 s.rows)) refl
      where
        go : (found : Option Row) → named p.arg0 (at p.arg1 s.rows) ≡ found → IsTaking n (written_to link p found s)
        go None is = j
        go (Some row) is =
            settled_taking n link p.arg1 (row_took (came_over p.payload s.files) row)
            (record (owing (sent_ack link p.arg1 row.host row.flow (length p.payload)) s) {
              files = files_fed row.kind row.past (came_over p.payload s.files);
            }) j.rises j.drawn j.few j.overs (λ e. j.lives)
            (λ here.
            let r = row_here row (named_is p.arg0 (at p.arg1 s.rows) row is) here in
            record { is_for = r.is_for; credit = r.credit; all = r.all })

    taking_close : IsTaking n (on_close p s)
    taking_close = go (closable p.arg0 (at p.arg1 s.rows)) refl
      where
        go : (found : Option Row) → closable p.arg0 (at p.arg1 s.rows) ≡ found → IsTaking n (closed_to p.arg1 found s)
        go None is = j
        go (Some row) is = record {
          rises = without_rises p.arg1 s.rows j.rises;
          drawn = j.drawn;
          few = j.few;
          lives = λ found here. j.lives found (left_found p.arg1 s.rows j.rises own found here).1;
          overs = one_over false p.arg1 row s.ended j.overs
              (λ here. (row_here row (closable_is p.arg0 (at p.arg1 s.rows) row is) here).credit);
        }

    -- an OKAY that finds no row is none of this stream, where its row lives
    missed : is_okay p.command ≡ true → named p.arg0 (at p.arg1 s.rows) ≡ None → (row : Row) → at own s.rows ≡ Some row → okays_one p ≡ 0
    missed okay none row is = elim (counted p) [
      | inl zeroth ↦ zeroth
      | inr one ↦
          let same : row.host ≡ p.arg0 = (j.lives row is).is_for ∙ sym one.0 in
          let hit : named p.arg0 (at p.arg1 s.rows) ≡ Some row =
          ap (named p.arg0) (ap (λ k. at k s.rows) one.1.0 ∙ is)
          ∙ ap (λ (b : Bool). if b then Some row else None) (eq-eqb row.host p.arg0 same) in
          absurd (let clash : None ≡ Some row = sym none ∙ hit in cc)
    ]

    -- the row that an OKAY finds is the sender's
    host_of : (row : Row) (found : Option Row) → named p.arg0 found ≡ Some row → row.host ≡ p.arg0
    host_of row None e = let clash : None ≡ Some row = e in cc
    host_of row (Some other) e = by (other.host == p.arg0) refl e
      where
        by : (b : Bool) → (other.host == p.arg0) ≡ b → (if b then Some other else None) ≡ Some row → row.host ≡ p.arg0
        by true f e = (let one : other ≡ row = cc in ap (λ (r : Row). r.host) (sym one) ∙ eqb-true other.host p.arg0 f)
        by false f e = let clash : None ≡ Some row = e in cc

    taking_okay : is_okay p.command ≡ true → IsTaking (n + okays_one p) (on_okay link p s)
    taking_okay okay = go (named p.arg0 (at p.arg1 s.rows)) refl
      where
        nowhere : named p.arg0 (at p.arg1 s.rows) ≡ None → IsTaking (n + okays_one p) s
        nowhere is = record {
          rises = j.rises;
          drawn = j.drawn;
          few = (let few = j.few in omega (arith, few));
          overs = j.overs;
          lives = λ row here.
              let none = missed okay is row here in
              counted_more n (n + okays_one p) s.acks s.acks row (λ le. omega (arith, le, none)) (j.lives row here);
        }

        at_row : (row : Row) → at p.arg1 s.rows ≡ Some row → row.host ≡ p.arg0 → (p.arg1 ≡ own) ⊎ (p.arg1 ≡ own → ⊥)
            → IsTaking (n + okays_one p) (acked_to link p (Some row) s)
        at_row row is sender (inl here) =
            let mine = row_here row is here in
            let one = is_one p okay (sym sender ∙ mine.is_for) here in
            let more = acks_own own p.arg1 (credit_word_in p.payload) s.acks here in
            let few = j.few in
            settled_taking (n + okays_one p) link p.arg1 (row_acked (credit_word_in p.payload) row)
            (granted p.arg1 (credit_word_in p.payload) s) j.rises
            j.drawn (omega (arith, few, more, one)) j.overs (λ apart. absurd (apart (sym here)))
            (λ e. record {
              is_for = mine.is_for;
              credit = acked_credit (credit_word_in p.payload) row ∙ mine.credit;
              all = (let le = mine.all in omega (arith, le, more, one));
            })
        at_row row is sender (inr apart) =
            let none : okays_one p ≡ 0 = elim (counted p) [ inl zeroth ↦ zeroth | inr one ↦ absurd (apart one.1.0) ] in
            let same = acks_other own p.arg1 (credit_word_in p.payload) s.acks apart in
            let few = j.few in
            settled_taking (n + okays_one p) link p.arg1 (row_acked (credit_word_in p.payload) row)
            (granted p.arg1 (credit_word_in p.payload) s) j.rises
            j.drawn (omega (arith, few, same)) j.overs
            (λ e found here.
            counted_more n (n + okays_one p) s.acks (granted p.arg1 (credit_word_in p.payload) s).acks found
            (λ le. omega (arith, le, same, none))
            (j.lives found here)) (λ e. absurd (apart e))

        go : (found : Option Row) → named p.arg0 (at p.arg1 s.rows) ≡ found → IsTaking (n + okays_one p) (acked_to link p found s)
        go None is = nowhere is
        go (Some row) is =
            at_row row (named_is p.arg0 (at p.arg1 s.rows) row is) (host_of row (at p.arg1 s.rows) is) (cases_eq p.arg1 own)

    taking_served : (command : Command) → p.command ≡ command → IsTaking (n + okays_one p) (served command link p s)
    taking_served commands.Open e = still n (okays_one p) (on_open link p s) (none_if p (ap is_okay e)) taking_open
    taking_served commands.Wrte e = still n (okays_one p) (on_write link p s) (none_if p (ap is_okay e)) taking_write
    taking_served commands.Okay e = taking_okay (ap is_okay e)
    taking_served commands.Clse e = still n (okays_one p) (on_close p s) (none_if p (ap is_okay e)) taking_close
    taking_served _ e = still n (okays_one p) s (none_if p (ap is_okay e)) j

  -- the device so far: it has a link, and where it refused no CNXN its stream took the OKAYs
  pub record IsSoFar (n : ℕ) (d : Device) : Type 0 where
    pub link : is_some d.link ≡ true
    pub serving : d.refused ≡ false → IsTaking n d.serving

  -- one packet
  step_taking : (setting : Setting) (n : ℕ) (p : Packet) (d : Device) → IsSoFar n d → IsSoFar (n + okays_one p) (step setting d p)
  unfolding step IsStrictlySortedBy
  step_taking setting n p d j = go d.refused refl
    where
      Next : Device → Type 0
      Next new = IsSoFar (n + okays_one p) new

      no : true ≡ false → ⊥
      no e = let clash = e in cc

      all_ended : (o : Option Row) → at own d.serving.rows ≡ o → IsTaking n d.serving → (e : Ended)
          → or_over own (at own d.serving.rows) (over_at own d.serving.ended) ≡ Some e → has_credit e.row.flow ≡ c
      all_ended None none old e is = old.overs e (sym (ap (λ (r : Option Row). or_over own r (over_at own d.serving.ended)) none) ∙ is)
      all_ended (Some row) there old e is =
          let found : Some (ended_at false (own, row)) ≡ Some e =
          sym (ap (λ (r : Option Row). or_over own r (over_at own d.serving.ended)) there) ∙ is in
          let one : ended_at false (own, row) ≡ e = cc in
          ap (λ (x : Ended). has_credit x.row.flow) (sym one) ∙ (old.lives row there).credit

      linked : (link : Option Link) → Next (linked_to link d)
      linked None = record { link = j.link; serving = λ sound. absurd (no sound) }
      linked (Some link) = record {
        link = refl;
        serving = λ sound.
            let old = j.serving sound in
            record {
              rises = tt;
              drawn = old.drawn;
              few = (let few = old.few in omega (arith, few));
              lives = λ row is. absurd (let clash : None ≡ Some row = is in cc);
              overs = λ e is. all_ended (at own d.serving.rows) refl old e (sym (all_over own d.serving.rows d.serving.ended) ∙ is);
            };
      }

      on : (link : Option Link) → is_some link ≡ true → Next (served_on link p d)
      on None some = absurd (no (sym some))
      on (Some link) some = record { link = j.link; serving = λ sound. taking_served n link p d.serving (j.serving sound) p.command refl }

      by : (b : Bool) → Next (if b then linked_to (link_of setting.most setting.credit p) d else served_on d.link p d)
      by true = linked (link_of setting.most setting.credit p)
      by false = on d.link j.link

      go : (b : Bool) → d.refused ≡ b → Next (if b then d else treated setting p d)
      go true e = record { link = j.link; serving = λ sound. absurd (no (sym e ∙ sound)) }
      go false e = by (is_cnxn p.command)

  -- all packets
  pub all_taking : (setting : Setting) (n : ℕ) (packets : List Packet) (d : Device) → IsSoFar n d
      → IsSoFar (n + okays_in host own packets) (fold (step setting) d packets)
  all_taking setting n [] d j = subst (λ (k : ℕ). IsSoFar k d) (let e : n ≡ n + 0 = omega arith in e) j
  all_taking setting n (p ∷ packets) d j =
      let first = okays_first p packets in
      subst (λ (k : ℕ). IsSoFar k (fold (step setting) (step setting d p) packets))
      (let e : (n + okays_one p) + okays_in host own packets ≡ n + okays_in host own (p ∷ packets) = omega (arith, first) in e)
      (all_taking setting (n + okays_one p) packets (step setting d p) (step_taking setting n p d j))

  -- the stream that was just drawn took its OPEN
  pub first_taking : (link : Link) (p : Packet) (kind : Kind) (s : Serving) → IsUntaken own s
      → over_at own s.ended ≡ None → s.drawn + 1 ≡ own
      → p.arg0 ≡ host → link.credit ≡ c → IsTaking 0 (drawn_for link p kind s)
  first_taking link p kind s j fresh number same credit =
      let none = (j.fresh (omega (arith, number))).1 in
      let one = acks_own own (s.drawn + 1) (credit_of link p) s.acks number in
      settled_taking 0 link (s.drawn + 1) (opened p.arg0 kind s.files (credit_of link p)) (begun_by link p kind s)
      j.rises (omega (arith, number))
      (omega (arith, none, one)) (λ e is. absurd (let clash : None ≡ Some e = sym fresh ∙ is in cc)) (λ apart. absurd (apart (sym number)))
      (λ e. record { is_for = same; credit = opened_credit link p kind s ∙ credit; all = omega (arith, none, one) })
