-- An OPEN is answered: the next id of the device stands for it, whatever follows.
use Rattle.std.specs.Prelude.{ℕ, ◌+◌, ◌≡◌, ◌≢◌, ◌<◌, ◌≤◌, ◌==◌, ◌||◌, ◌&&◌, if◌then◌else◌, Bool, true, false, cond, All, List, [], ◌∷◌}
use Rattle.std.specs.Prelude.{◌++◌, map, fold}
use Rattle.std.specs.Prelude.{length, nat_eq, Option, Some, None}
use Rattle.std.proofs.Common.{refl, sym, ◌∙◌, ap, subst, arith, ◌⊎◌, inl, inr}
use Rattle.std.specs.List.Sorted.{IsStrictlySortedBy}
use Rattle.std.proofs.lemmas.Bool.{cases_eq, eq-eqb, ne_eqb}
use Rattle.std.proofs.lemmas.List.Elements.{All-nil, All-cons, All-append}
use Rattle.byteorder.specs.Endian.{little_bytes}
use Rattle.adb_outside.specs.Tables.{at, IsRising, put_at, without}
use Rattle.adb_outside.proofs.TableLaws.{puts_put_at, puts_without, put_at_rises, without_rises}
use Rattle.adb_wire.specs.Format.{is_cnxn}
use Rattle.adb_wire.specs.declared.command.Command.{Command}
use Rattle.adb_wire.specs.declared.command.Command.TheVariants as commands
use Rattle.adb_wire.specs.declared.packets.Packet.{Packet}
use Rattle.adb_stream.specs.declared.flow.Flow.{Flow}
use Rattle.adb_stream.specs.declared.flow.Flow.TheVariants as flows
use Rattle.adb_files.specs.Entries.{Entry}
use Rattle.adb_history.specs.Births.{is_okay, is_between}
use Rattle.adb_history.specs.Fifo.{okays_in}
use Rattle.adb_device_streams.specs.Asked.{Kind}
use Rattle.adb_device_streams.specs.Service.{came_over, files_fed, files_opened}
use Rattle.adb_device_streams.specs.Stream.{Row, opened, row_took, row_acked, row_past, row_past_all}
use Rattle.adb_device_streams.specs.Stream.{row_written, writes, is_done, okay, clse, wrte, opening_word}
use Rattle.adb_device_streams.specs.Link.{credit_word_in, link_of}
use Rattle.adb_device_streams.specs.declared.link.Link.{Link}
use Rattle.adb_daemon.specs.Serving.{Serving, Sent, Ended, with_sum, owing, granted, ended_at}
use Rattle.adb_daemon.specs.Serving.{sent_ack, sent_writes, sent_close, settled_as, settled, named, closable}
use Rattle.adb_daemon.specs.Serving.{is_taken, kind_for, credit_of, open_as, on_open, written_to, on_write, acked_to, on_okay, closed_to}
use Rattle.adb_daemon.specs.Serving.{on_close, served}
use Rattle.adb_daemon.specs.Serving.{all_gone}
use Rattle.adb_daemon.specs.Device.{Device, Setting, step, treated, linked_to, served_on, first_device, device_behind}
use Rattle.adb_daemon.specs.Streams.{over_at, writes_of, okays_of, is_closed, is_write, is_close, Writes, IsAcked}
use Rattle.adb_daemon.specs.Streams.{is_okay as is_okay_of}
use Rattle.adb_daemon.proofs.Acks.{all_acknowledged}
use Rattle.adb_daemon.proofs.Machines.{step_more, step_open}
use Rattle.adb_daemon.proofs.Rules.{named_is, closable_is, or_over, all_over, step_orderly}
use Rattle.adb_daemon.proofs.Standing.{IsOrderly, other_over}
use Rattle.adb_laws_model_device.specs.Owed.{packets_of_sent}
use Rattle.adb_laws_model_device.specs.Opened.{IsFor, LivesFor, EndedFor, is_of_stream, GoesTo, AnswersOpens}

-- ---- an id that was not drawn
module _ (own : ℕ) (some : 0 < own) where
  -- packet by packet
  all_orderly : (setting : Setting) (packets : List Packet) (d : Device) → IsOrderly own d.serving
      → IsOrderly own (fold (step setting) d packets).serving
  all_orderly setting [] d o = o
  all_orderly setting (p ∷ packets) d o = all_orderly setting packets (step setting d p) (step_orderly own some setting d p o)

  -- each id is orderly behind any packets
  behind_orderly : (setting : Setting) (packets : List Packet) → IsOrderly own (device_behind setting packets).serving
  unfolding IsStrictlySortedBy
  behind_orderly setting packets =
      all_orderly setting packets (first_device setting) (record { rises = tt; fresh = λ above. (refl, refl); writes = (refl, refl, refl) })

-- what sends no OKAY, no write and no CLSE from an id sends nothing of a stream from it
none_goes : (own host : ℕ) (made : List Sent) → okays_of own made ≡ [] → writes_of own made ≡ 0
    → is_closed own made ≡ false → All (GoesTo own host) made
none_goes own host [] okays count closed = All-nil (GoesTo own host)
none_goes own host (one ∷ made) okays count closed =
    by one.packet.command refl (one.packet.arg0 == own) refl okays count closed (λ a b c. none_goes own host made a b c)
  where
    Rest : Type 0
    Rest = okays_of own made ≡ [] → writes_of own made ≡ 0 → is_closed own made ≡ false → All (GoesTo own host) made

    same : one.packet.arg0 ≡ own → (one.packet.arg0 == own) ≡ false → ⊥
    same e f = let clash : true ≡ false = sym (eq-eqb one.packet.arg0 own e) ∙ f in cc

    other : (c : Command) → one.packet.command ≡ c → is_of_stream c ≡ false → All (GoesTo own host) made
        → All (GoesTo own host) (one ∷ made)
    other c e none rest =
        All-cons (GoesTo own host) one made (λ is from. absurd (let clash : false ≡ true = sym (ap is_of_stream e ∙ none) ∙ is in cc)) rest

    apart : (one.packet.arg0 == own) ≡ false → All (GoesTo own host) made → All (GoesTo own host) (one ∷ made)
    apart f rest = All-cons (GoesTo own host) one made (λ is from. absurd (same from f)) rest

    no_more : {n : ℕ} → 0 + n ≡ 0 → n ≡ 0
    no_more {n} e = omega (arith, e)

    by : (c : Command) → one.packet.command ≡ c → (b : Bool) → (one.packet.arg0 == own) ≡ b
        → (if is_okay_of c && b then one.packet.payload ∷ [] else []) ++ okays_of own made ≡ []
        → (if is_write c && b then 1 else 0) + writes_of own made ≡ 0
        → ((is_close c && b) || is_closed own made) ≡ false → Rest → All (GoesTo own host) (one ∷ made)
    by commands.Okay e true f okays count closed rest = absurd (let clash : one.packet.payload ∷ okays_of own made ≡ [] = okays in cc)
    by commands.Wrte e true f okays count closed rest = absurd (omega (arith, count))
    by commands.Clse e true f okays count closed rest = absurd (let clash : true ≡ false = closed in cc)
    by commands.Open e b f okays count closed rest = other commands.Open e refl (rest okays (no_more count) closed)
    by commands.Cnxn e b f okays count closed rest = other commands.Cnxn e refl (rest okays (no_more count) closed)
    by commands.Auth e b f okays count closed rest = other commands.Auth e refl (rest okays (no_more count) closed)
    by commands.Stls e b f okays count closed rest = other commands.Stls e refl (rest okays (no_more count) closed)
    by _ e false f okays count closed rest = apart f (rest okays (no_more count) closed)

-- ---- an id that was drawn
module _ (own host : ℕ) (kind : Kind) (first : List Entry) where
  -- writes change nothing of what a row is for
  for_all : (payloads : List (List ℕ)) (row : Row) → IsFor host kind first row → IsFor host kind first (row_past_all payloads row)
  for_all [] row f = f
  for_all (payload ∷ more) row f = for_all more (row_past payload row) f

  -- the packets that a device sends, each from one id to another
  goes_writes : (sums : Bool) (q to : ℕ) (payloads : List (List ℕ)) → (q ≡ own → to ≡ host)
      → All (GoesTo own host) (map (λ payload. with_sum sums (wrte q to payload)) payloads)
  goes_writes sums q to [] right = All-nil (GoesTo own host)
  goes_writes sums q to (payload ∷ more) right =
      All-cons (GoesTo own host) (with_sum sums (wrte q to payload))
      (map (λ payload. with_sum sums (wrte q to payload)) more) (λ is from. right from)
      (goes_writes sums q to more right)

  goes_one : (one : Sent) → (one.packet.arg0 ≡ own → one.packet.arg1 ≡ host) → All (GoesTo own host) (one ∷ [])
  goes_one one right = All-cons (GoesTo own host) one [] (λ is from. right from) (All-nil (GoesTo own host))

  goes_ack : (link : Link) (q to : ℕ) (flow : Flow) (m : ℕ) → (q ≡ own → to ≡ host) → All (GoesTo own host) (sent_ack link q to flow m)
  goes_ack link q to (flows.One window) m right = goes_one (with_sum link.sums (okay q to [])) right
  goes_ack link q to (flows.Credit credit) m right = by (m == 0)
    where
      by : (b : Bool) → All (GoesTo own host) (if b then [] else with_sum link.sums (okay q to (little_bytes 4 m)) ∷ [])
      by true = All-nil (GoesTo own host)
      by false = goes_one (with_sum link.sums (okay q to (little_bytes 4 m))) right

  -- the row stands, or it has ended
  abbrev Stands : List (ℕ × Row) → List Ended → Type 0
  Stands rows ended = LivesFor own host kind first rows ⊎ EndedFor own host kind first rows ended

  -- it does so where nothing of the id changed
  stands_still : (rows new : List (ℕ × Row)) (ended over : List Ended) → at own new ≡ at own rows → over_at own over ≡ over_at own ended
      → Stands rows ended → Stands new over
  stands_still rows new ended over same_row same_over (inl here) =
      inl (record { row = here.row; is = same_row ∙ here.is; opened = here.opened })
  stands_still rows new ended over same_row same_over (inr e) =
      inr (record { gone = same_row ∙ e.gone; over = e.over; is = same_over ∙ e.is; opened = e.opened })

  -- an OKAY that is owed is owed still
  okays_more : (made more : List Sent) → 1 ≤ okays_in own host (packets_of_sent made)
      → 1 ≤ okays_in own host (packets_of_sent (made ++ more))
  okays_more [] more some = absurd (omega (arith, some))
  okays_more (one ∷ made) more some = go (is_okay one.packet.command && is_between own host one.packet) some (λ e. okays_more made more e)
    where
      go : (b : Bool) → 1 ≤ cond b (1 + okays_in own host (packets_of_sent made)) (okays_in own host (packets_of_sent made))
          → (1 ≤ okays_in own host (packets_of_sent made) → 1 ≤ okays_in own host (packets_of_sent (made ++ more)))
          → 1 ≤ cond b (1 + okays_in own host (packets_of_sent (made ++ more))) (okays_in own host (packets_of_sent (made ++ more)))
      go true e later = omega arith
      go false e later = later e

  -- what is served, where the id was drawn for the stream
  record IsOpened (s : Serving) : Type 0 where
    rises : IsRising s.rows
    drawn : own ≤ s.drawn
    stands : Stands s.rows s.ended
    okay : 1 ≤ okays_in own host (packets_of_sent s.made)
    named : All (GoesTo own host) s.made

  -- the same, but for what stands of the id that settles
  record IsReady (q : ℕ) (s : Serving) : Type 0 where
    rises : IsRising s.rows
    drawn : own ≤ s.drawn
    others : (own ≡ q → ⊥) → Stands s.rows s.ended
    okay : 1 ≤ okays_in own host (packets_of_sent s.made)
    named : All (GoesTo own host) s.made

  -- which is so where it stands
  ready : (q : ℕ) (s : Serving) → IsOpened s → IsReady q s
  ready q s j = record { rises = j.rises; drawn = j.drawn; others = λ apart. j.stands; okay = j.okay; named = j.named }

  -- more became due, and of the rows nothing changed
  owing_opened : (s new : Serving) (more : List Sent) → new.rows ≡ s.rows → new.ended ≡ s.ended → s.drawn ≤ new.drawn
      → new.made ≡ s.made ++ more
      → All (GoesTo own host) more → IsOpened s → IsOpened new
  owing_opened s new more rows ended drawn made goes j = record {
    rises = subst (λ (r : List (ℕ × Row)). IsRising r) (sym rows) j.rises;
    drawn = (let old = j.drawn in omega (arith, old, drawn));
    stands = subst (λ (r : List (ℕ × Row)). Stands r new.ended) (sym rows)
        (subst (λ (x : List Ended). Stands s.rows x) (sym ended) j.stands);
    okay = subst (λ (m : List Sent). 1 ≤ okays_in own host (packets_of_sent m)) (sym made) (okays_more s.made more j.okay);
    named = subst (λ (m : List Sent). All (GoesTo own host) m) (sym made) (All-append (GoesTo own host) s.made more j.named goes);
  }

  -- a stream settles, this one or another
  module _ (link : Link) (q : ℕ) (row : Row) (s : Serving) (j : IsReady q s) (mine : q ≡ own → IsFor host kind first row) where
    abbrev last : Row
    last = row_written link.most row

    last_for : q ≡ own → IsFor host kind first last
    last_for here = for_all (writes link.most row) row (mine here)

    abbrev wrote : List Sent
    wrote = s.made ++ sent_writes link q row

    goes : All (GoesTo own host) wrote
    goes = All-append (GoesTo own host) s.made (sent_writes link q row) j.named
        (goes_writes link.sums q row.host (writes link.most row) (λ here. (mine here).0))

    kept_stands : Stands (put_at q last s.rows) s.ended
    kept_stands = elim (cases_eq own q) [
      | inl here ↦ inl (record {
        row = last;
        is = ap (λ k. at k (put_at q last s.rows)) here ∙ (puts_put_at q last s.rows).here;
        opened = last_for (sym here);
      })
      | inr apart ↦ stands_still s.rows (put_at q last s.rows) s.ended s.ended
          ((puts_put_at q last s.rows).others own apart) refl (j.others apart)
    ]

    gone_stands : (closed : Bool) (lost : Row) → (q ≡ own → IsFor host kind first lost)
        → Stands (without q s.rows) (ended_at closed (q, lost) ∷ s.ended)
    gone_stands closed lost right = elim (cases_eq own q) [
      | inl here ↦
          inr (record {
            gone = ap (λ k. at k (without q s.rows)) here ∙ (puts_without q s.rows j.rises).here;
            over = ended_at closed (q, lost);
            is = ap (λ (b : Bool). cond b (Some (ended_at closed (q, lost))) (over_at own s.ended)) (eq-eqb q own (sym here));
            opened = right (sym here);
          })
      | inr apart ↦
          stands_still s.rows (without q s.rows) s.ended (ended_at closed (q, lost) ∷ s.ended)
          ((puts_without q s.rows j.rises).others own apart)
          (other_over own (ended_at closed (q, lost)) s.ended (λ e. apart (sym e))) (j.others apart)
    ]

    settled_opened : IsOpened (settled link q row s)
    settled_opened = go (is_done last)
      where
        go : (b : Bool) → IsOpened (settled_as b link q last (owing (sent_writes link q row) s))
        go false = record {
          rises = put_at_rises q last s.rows j.rises;
          drawn = j.drawn;
          stands = kept_stands;
          okay = okays_more s.made (sent_writes link q row) j.okay;
          named = goes;
        }
        go true = record {
          rises = without_rises q s.rows j.rises;
          drawn = j.drawn;
          stands = gone_stands true last last_for;
          okay = okays_more wrote (sent_close true link q last.host) (okays_more s.made (sent_writes link q row) j.okay);
          named = All-append (GoesTo own host) wrote (sent_close true link q last.host) goes
              (goes_one (with_sum link.sums (clse q last.host)) (λ here. (last_for here).0));
        }

  -- one packet on the link
  module _ (some : 0 < own) (link : Link) (p : Packet) (s : Serving) (j : IsOpened s) where
    -- the row that stands there is for it
    row_for : (row : Row) → at p.arg1 s.rows ≡ Some row → p.arg1 ≡ own → IsFor host kind first row
    row_for row is here = go j.stands
      where
        found : at own s.rows ≡ Some row
        found = ap (λ k. at k s.rows) (sym here) ∙ is

        go : Stands s.rows s.ended → IsFor host kind first row
        go (inl there) =
            let both : Some there.row ≡ Some row = sym there.is ∙ found in
            let same : there.row ≡ row = cc in
            subst (λ (r : Row). IsFor host kind first r) same there.opened
        go (inr e) = absurd (let clash : None ≡ Some row = sym e.gone ∙ found in cc)

    opened_open : IsOpened (on_open link p s)
    opened_open = go (p.arg0 == 0 || is_taken p.arg0 s.rows)
      where
        by : (asked : Option Kind) → IsOpened (open_as link p asked s)
        by None =
            owing_opened s (open_as link p None s) (with_sum link.sums (clse 0 p.arg0) ∷ []) refl refl (omega arith) refl
            (goes_one (with_sum link.sums (clse 0 p.arg0)) (λ e. omega (arith, some, e))) j
        by (Some new) =
            let hello = with_sum link.sums (okay (s.drawn + 1) p.arg0 (opening_word (credit_of link p))) ∷ [] in
            let given = granted (s.drawn + 1) (credit_of link p) (owing hello s) in
            let begun : Serving = record given { drawn = s.drawn + 1; files = files_opened new s.files } in
            settled_opened link (s.drawn + 1) (opened p.arg0 new s.files (credit_of link p)) begun
            (ready (s.drawn + 1) begun (owing_opened s begun hello refl refl (omega arith) refl
            (goes_one (with_sum link.sums (okay (s.drawn + 1) p.arg0 (opening_word (credit_of link p)))) (λ e. absurd (above e))) j))
            (λ e. absurd (above e))
          where
            above : s.drawn + 1 ≡ own → ⊥
            above e = (let old = j.drawn in omega (arith, old, e))

        go : (b : Bool) → IsOpened (if b then s else open_as link p (kind_for s.drawn p) s)
        go true = j
        go false = by (kind_for s.drawn p)

    opened_write : IsOpened (on_write link p s)
    opened_write = go (named p.arg0 (at p.arg1 s.rows)) refl
      where
        go : (found : Option Row) → named p.arg0 (at p.arg1 s.rows) ≡ found → IsOpened (written_to link p found s)
        go None is = j
        go (Some row) is =
            let right = row_for row (named_is p.arg0 (at p.arg1 s.rows) row is) in
            let ack = sent_ack link p.arg1 row.host row.flow (length p.payload) in
            let mid : Serving = record (owing ack s) { files = files_fed row.kind row.past (came_over p.payload s.files) } in
            settled_opened link p.arg1 (row_took (came_over p.payload s.files) row) mid
            (ready p.arg1 mid (owing_opened s mid ack refl refl (omega arith) refl
            (goes_ack link p.arg1 row.host row.flow (length p.payload) (λ here. (right here).0)) j)) right

    opened_okay : IsOpened (on_okay link p s)
    opened_okay = go (named p.arg0 (at p.arg1 s.rows)) refl
      where
        go : (found : Option Row) → named p.arg0 (at p.arg1 s.rows) ≡ found → IsOpened (acked_to link p found s)
        go None is = j
        go (Some row) is =
            let mid : Serving = granted p.arg1 (credit_word_in p.payload) s in
            settled_opened link p.arg1 (row_acked (credit_word_in p.payload) row) mid
            (record { rises = j.rises; drawn = j.drawn; others = λ apart. j.stands; okay = j.okay; named = j.named })
            (row_for row (named_is p.arg0 (at p.arg1 s.rows) row is))

    opened_close : IsOpened (on_close p s)
    opened_close = go (closable p.arg0 (at p.arg1 s.rows)) refl
      where
        go : (found : Option Row) → closable p.arg0 (at p.arg1 s.rows) ≡ found → IsOpened (closed_to p.arg1 found s)
        go None is = j
        go (Some row) is =
            let right = row_for row (closable_is p.arg0 (at p.arg1 s.rows) row is) in
            record {
              rises = without_rises p.arg1 s.rows j.rises;
              drawn = j.drawn;
              stands = gone_stands link p.arg1 row s (ready p.arg1 s j) right false row right;
              okay = j.okay;
              named = j.named;
            }

    opened_served : (command : Command) → IsOpened (served command link p s)
    opened_served commands.Open = opened_open
    opened_served commands.Wrte = opened_write
    opened_served commands.Okay = opened_okay
    opened_served commands.Clse = opened_close
    opened_served _ = j

  -- all streams end
  opened_gone : (s : Serving) → IsOpened s → IsOpened (all_gone s)
  unfolding IsStrictlySortedBy
  opened_gone s j = record {
    rises = tt;
    drawn = j.drawn;
    stands = inr (go j.stands);
    okay = j.okay;
    named = j.named;
  }
    where
      go : Stands s.rows s.ended → EndedFor own host kind first [] (all_gone s).ended
      go (inl there) = record {
        gone = refl;
        over = ended_at false (own, there.row);
        is = all_over own s.rows s.ended ∙ ap (λ (r : Option Row). or_over own r (over_at own s.ended)) there.is;
        opened = there.opened;
      }
      go (inr e) = record {
        gone = refl;
        over = e.over;
        is = all_over own s.rows s.ended ∙ (ap (λ (r : Option Row). or_over own r (over_at own s.ended)) e.gone ∙ e.is);
        opened = e.opened;
      }

  -- one packet
  step_opened : (setting : Setting) → 0 < own → (d : Device) (p : Packet) → IsOpened d.serving → IsOpened (step setting d p).serving
  unfolding step
  step_opened setting some d p j = go d.refused
    where
      linked : (link : Option Link) → IsOpened (linked_to link d).serving
      linked None = j
      linked (Some link) = opened_gone d.serving j

      on : (link : Option Link) → IsOpened (served_on link p d).serving
      on None = j
      on (Some link) = opened_served some link p d.serving j p.command

      by : (b : Bool) → IsOpened (if b then linked_to (link_of setting.most setting.credit p) d else served_on d.link p d).serving
      by true = linked (link_of setting.most setting.credit p)
      by false = on d.link

      go : (b : Bool) → IsOpened (if b then d else treated setting p d).serving
      go true = j
      go false = by (is_cnxn p.command)

  -- whatever follows
  all_opened : (setting : Setting) → 0 < own → (packets : List Packet) (d : Device) → IsOpened d.serving
      → IsOpened (fold (step setting) d packets).serving
  all_opened setting some [] d j = j
  all_opened setting some (p ∷ packets) d j = all_opened setting some packets (step setting d p) (step_opened setting some d p j)

-- ---- the OPEN
module _ (setting : Setting) (front : List Packet) (p : Packet) (link : Link) (kind : Kind) where
  abbrev d : Device
  d = device_behind setting front

  abbrev s : Serving
  s = d.serving

  abbrev own : ℕ
  own = s.drawn + 1

  -- the next id, which was not drawn before
  orderly : IsOrderly own s
  orderly = behind_orderly own (omega arith) setting front

  -- it has no row, and none that has ended
  fresh : (at own s.rows ≡ None) × (over_at own s.ended ≡ None)
  fresh = orderly.fresh (omega arith)

  -- and nothing of a stream was sent from it
  silent : All (GoesTo own p.arg0) s.made
  silent =
      let writes : Writes own s.made s.acks None None =
      subst (λ (r : Option Row). Writes own s.made s.acks r None) fresh.0
      (subst (λ (e : Option Ended). Writes own s.made s.acks (at own s.rows) e) fresh.1 orderly.writes) in
      let okays : IsAcked own s.made None None =
      subst (λ (r : Option Row). IsAcked own s.made r None) fresh.0
      (subst (λ (e : Option Ended). IsAcked own s.made (at own s.rows) e) fresh.1 (all_acknowledged setting front own)) in
      none_goes own p.arg0 s.made okays writes.2 writes.1

  -- what the OPEN makes due, what is served then, and the row
  abbrev hello : List Sent
  hello = with_sum link.sums (okay own p.arg0 (opening_word (credit_of link p))) ∷ []

  abbrev begun : Serving
  begun = record (granted own (credit_of link p) (owing hello s)) { drawn = own; files = files_opened kind s.files }

  abbrev row : Row
  row = opened p.arg0 kind s.files (credit_of link p)

  -- the OKAY is owed
  one_okay : 1 ≤ okays_in own p.arg0 (packets_of_sent (s.made ++ hello))
  one_okay = go s.made
    where
      here : is_between own p.arg0 (okay own p.arg0 (opening_word (credit_of link p))) ≡ true
      here = ap (λ (b : Bool). b && nat_eq p.arg0 p.arg0) (eq-eqb own own refl) ∙ eq-eqb p.arg0 p.arg0 refl

      go : (made : List Sent) → 1 ≤ okays_in own p.arg0 (packets_of_sent (made ++ hello))
      go [] = subst (λ (b : Bool). 1 ≤ cond b (1 + 0) 0) (sym here) (omega arith)
      go (one ∷ made) = by (is_okay one.packet.command && is_between own p.arg0 one.packet) (go made)
        where
          by : (b : Bool) → 1 ≤ okays_in own p.arg0 (packets_of_sent (made ++ hello))
              → 1 ≤ cond b (1 + okays_in own p.arg0 (packets_of_sent (made ++ hello)))
              (okays_in own p.arg0 (packets_of_sent (made ++ hello)))
          by true some = omega arith
          by false some = some

  -- the stream that was just opened
  begins : IsOpened own p.arg0 kind s.files (settled link own row begun)
  begins =
      settled_opened own p.arg0 kind s.files link own row begun
      (record {
        rises = orderly.rises;
        drawn = omega arith;
        others = λ apart. absurd (apart refl);
        okay = one_okay;
        named = All-append (GoesTo own p.arg0) s.made hello silent
            (goes_one own p.arg0 kind s.files (with_sum link.sums (okay own p.arg0 (opening_word (credit_of link p)))) (λ e. refl));
      }) (λ e. (refl, refl, refl))

  -- that is what the packet makes of it
  opens : d.refused ≡ false → d.link ≡ Some link → p.command ≡ commands.Open → p.arg0 ≢ 0
      → is_taken p.arg0 s.rows ≡ false → kind_for s.drawn p ≡ Some kind
      → (step setting d p).serving ≡ settled link own row begun
  opens sound linked command some free known =
      ap (λ (x : Device). x.serving) (step_open setting d p sound)
      ∙ (ap (λ (c : Command).
      (if is_cnxn c then linked_to (link_of setting.most setting.credit p) d else served_on d.link p
      d).serving) command
      ∙ (ap (λ (x : Option Link). (served_on x p d).serving) linked
      ∙ (ap (λ (c : Command). served c link p s) command
      ∙ (ap (λ (b : Bool). if b || is_taken p.arg0 s.rows then s else open_as link p (kind_for s.drawn p) s) (ne_eqb p.arg0 0 some)
      ∙ (ap (λ (b : Bool). if b then s else open_as link p (kind_for s.drawn p) s) free
      ∙ ap (λ (k : Option Kind). open_as link p k s) known)))))

-- so an OPEN is answered, whatever follows
pub answers_opens : (setting : Setting) → AnswersOpens setting
answers_opens setting front p rest link kind sound linked command some free known =
    let d : Device = device_behind setting front in
    let own : ℕ = d.serving.drawn + 1 in
    let begun = subst (λ (s : Serving). IsOpened own p.arg0 kind d.serving.files s)
    (sym (opens setting front p link kind sound linked command some free known))
    (begins setting front p link kind) in
    let all = all_opened own p.arg0 kind d.serving.files setting (omega arith) rest (step setting d p) begun in
    let last : IsOpened own p.arg0 kind d.serving.files (device_behind setting (front ++ p ∷ rest)).serving =
    subst (λ (x : Device). IsOpened own p.arg0 kind d.serving.files x.serving)
    (sym (step_more setting (first_device setting) front (p ∷ rest))) all in
    record { stands = last.stands; okay = last.okay; named = last.named }
