-- A live stream of a model device on a plain link had its OPEN and all its writes acknowledged.
use Rattle.std.specs.Prelude.{ℕ, ◌+◌, ◌≡◌, ◌≢◌, ◌≤◌, ◌==◌, ◌||◌, if◌then◌else◌, Bool, true}
use Rattle.std.specs.Prelude.{false, cond, List, [], ◌∷◌, fold, length, Option, Some, None}
use Rattle.std.proofs.Common.{refl, sym, ◌∙◌, ap, subst, arith, ◌⊎◌, inl, inr}
use Rattle.std.specs.List.Sorted.{IsStrictlySortedBy}
use Rattle.std.proofs.lemmas.Bool.{eq-eqb, eqb-true}
use Rattle.adb_outside.specs.Tables.{at, IsRising, put_at, without}
use Rattle.adb_outside.proofs.TableLaws.{without_rises}
use Rattle.adb_wire.specs.Format.{is_cnxn}
use Rattle.adb_wire.specs.declared.command.Command.{Command}
use Rattle.adb_wire.specs.declared.command.Command.TheVariants as commands
use Rattle.adb_wire.specs.declared.packets.Packet.{Packet}
use Rattle.adb_stream.specs.Flow.{wrote, acknowledged}
use Rattle.adb_stream.specs.declared.flow.Flow.{Flow}
use Rattle.adb_stream.specs.declared.flow.Flow.TheVariants as flows
use Rattle.adb_history.specs.Births.{count_from, is_wrte, is_open}
use Rattle.adb_device_streams.specs.Asked.{Kind}
use Rattle.adb_device_streams.specs.Service.{came_over, files_fed, files_opened}
use Rattle.adb_device_streams.specs.Stream.{Row, opened, row_took, row_acked, first_flow, row_past_all, row_written}
use Rattle.adb_device_streams.specs.Stream.{writes, is_done, okay, opening_word, row_past}
use Rattle.adb_device_streams.specs.Link.{credit_word_in, link_of}
use Rattle.adb_device_streams.specs.declared.link.Link.{Link}
use Rattle.adb_daemon.specs.Serving.{Serving, Sent, with_sum, owing, granted, gone, sent_ack, sent_writes, settled_as, settled, named}
use Rattle.adb_daemon.specs.Serving.{closable, is_taken}
use Rattle.adb_daemon.specs.Serving.{kind_for, credit_of, open_as, on_open, written_to, on_write, acked_to, on_okay, closed_to, on_close}
use Rattle.adb_daemon.specs.Serving.{served, all_gone}
use Rattle.adb_daemon.specs.Device.{Device, Setting, step, treated, linked_to, served_on, first_device}
use Rattle.adb_daemon.proofs.Rules.{named_is}
use Rattle.adb_daemon.proofs.Owed.{written_host}
use Rattle.adb_laws_model_device.specs.Counts.{okays_to}
use Rattle.adb_laws_model_device.specs.InTurn.{IsInTurn, AreInTurn}
use Rattle.adb_laws_model_device.proofs.Counts.{count_first, count_one, count_none, counted, count_at_most_one}
use Rattle.adb_laws_model_device.specs.Owed.{packets_of_sent}
use Rattle.adb_laws_model_device.specs.Rows.{LiveAreAcknowledged}
use Rattle.adb_laws_model_device.proofs.Links.{link_plain}
use Rattle.adb_laws_model_device.proofs.Tables.{put_found, left_found, settled_rises}
use Rattle.adb_laws_model_device.proofs.Owing.{Owes, asks, owes_none, owes_settled, owes_open, okays_sent}

-- a stream with one write each way, which stays so
abbrev IsOne : Flow → Type 0
IsOne (flows.One window) = Unit {0}
IsOne (flows.Credit credit) = ⊥

one_past : (flow : Flow) (n : ℕ) → IsOne flow → IsOne (wrote n flow)
one_past (flows.One window) n one = tt
one_past (flows.Credit credit) n one = one

one_acked : (flow : Flow) (word : Option ℕ) → IsOne flow → IsOne (acknowledged word flow)
one_acked (flows.One window) word one = tt
one_acked (flows.Credit credit) word one = absurd one

one_past_all : (payloads : List (List ℕ)) (row : Row) → IsOne row.flow → IsOne (row_past_all payloads row).flow
one_past_all [] row one = one
one_past_all (payload ∷ more) row one = one_past_all more (row_past payload row) (one_past row.flow (length payload) one)

module _ (l n : ℕ) where
  -- Where the stream has this row, its flow is that of a plain link, and so it is.
  abbrev Has : Type 0 → List (ℕ × Row) → Type 0
  Has Q rows = (row : Row) → at n rows ≡ Some row → row.host ≡ l → IsOne row.flow × Q

  -- a stream settled
  settled_has : (Q : Type 0) (link : Link) (q : ℕ) (row : Row) (s : Serving) → IsRising s.rows → (q ≢ n → Has Q s.rows)
      → (q ≡ n → row.host ≡ l → IsOne row.flow × Q) → Has Q (settled link q row s).rows
  settled_has Q link q row s rises others mine = go (is_done (row_written link.most row))
    where
      kept_one : Has Q (put_at q (row_written link.most row) s.rows)
      kept_one found is host = elim (put_found q (row_written link.most row) s.rows n found is) [
        | inl here ↦
            let old = mine (sym here.0) (sym (written_host link.most row) ∙ (ap (λ (r : Row). r.host) here.1 ∙ host)) in
            (subst (λ (r : Row). IsOne r.flow) here.1 (one_past_all (writes link.most row) row old.0), old.1)
        | inr there ↦ others (λ e. there.0 (sym e)) found there.1 host
      ]

      lost_one : Has Q (without q s.rows)
      lost_one found is host =
          let there = left_found q s.rows rises n found is in
          others (λ e. there.0 (sym e)) found there.1 host

      go : (b : Bool) → Has Q (settled_as b link q (row_written link.most row) (owing (sent_writes link q row) s)).rows
      go false = kept_one
      go true = lost_one

  -- OKAYs stay
  more_okays : (most : ℕ) (old new : List Sent) → Owes l most old new → okays_to l (packets_of_sent old) ≤ okays_to l (packets_of_sent new)
  more_okays most old new o =
      let sum : okays_to l (packets_of_sent new) ≡ okays_to l (packets_of_sent old) + okays_to l (packets_of_sent o.more) =
      ap (λ m. okays_to l (packets_of_sent m)) o.is ∙ okays_sent l old o.more in
      omega (arith, sum)

  -- so far so many OPENs and writes of it, and what is known of its row
  record IsAnsweredSoFar (opens wrtes : ℕ) (s : Serving) : Type 0 where
    rises : IsRising s.rows
    none : opens ≡ 0 → wrtes ≡ 0
    has : Has ((1 ≤ opens) × (1 + wrtes ≤ okays_to l (packets_of_sent s.made))) s.rows

  -- how many OPENs and writes of the stream a packet is
  abbrev opens_in : Packet → ℕ
  opens_in p = count_from is_open l (p ∷ [])

  abbrev writes_in : Packet → ℕ
  writes_in p = count_from is_wrte l (p ∷ [])

  -- one OKAY to it
  one_to : (sums : Bool) (own host : ℕ) (word : List ℕ) → host ≡ l
      → okays_to l (packets_of_sent (with_sum sums (okay own host word) ∷ [])) ≡ 1
  one_to sums own host word same = ap (λ b. cond b (1 + 0) 0) (eq-eqb host l same)

  -- an OPEN on a plain link
  opened_one : (link : Link) (p : Packet) → link.credit ≡ false → IsOne (first_flow (credit_of link p))
  opened_one link p plain = go link.credit plain
    where
      go : (b : Bool) → b ≡ false → IsOne (first_flow (if b then Some p.arg1 else None))
      go true e = let clash : true ≡ false = e in cc
      go false e = tt

  -- one packet on the link
  module _ (o w : ℕ) (link : Link) (plain : link.credit ≡ false) (p : Packet) (turn : IsInTurn l n o p) (s : Serving)
      (j : IsAnsweredSoFar o w s) where
    abbrev Before : Type 0
    Before = (1 ≤ o) × (1 + w ≤ okays_to l (packets_of_sent s.made))

    abbrev After : Serving → Type 0
    After new = (1 ≤ o + opens_in p) × (1 + (w + writes_in p) ≤ okays_to l (packets_of_sent new.made))

    abbrev Next : Serving → Type 0
    Next new = IsAnsweredSoFar (o + opens_in p) (w + writes_in p) new

    -- no write before the OPEN
    still_none : o + opens_in p ≡ 0 → w + writes_in p ≡ 0
    still_none e = go (counted is_wrte l p)
      where
        first : o ≡ 0
        first = omega (arith, e)

        go : (writes_in p ≡ 0) ⊎ ((is_wrte p.command ≡ true) × ((p.arg0 ≡ l) × (writes_in p ≡ 1))) → w + writes_in p ≡ 0
        go (inl zeroth) = (let old = j.none first in omega (arith, zeroth, old))
        go (inr one) = absurd (let some = (turn.wrte one.0 one.1.0).0 in omega (arith, some, first))

    -- what was known of a row holds still, where no write of it came
    carry : (most : ℕ) (new : Serving) → Owes l most s.made new.made → writes_in p ≡ 0 → Before → After new
    carry most new owes zeroth before =
        let more = more_okays most s.made new.made owes in
        let some = before.0 in
        let all = before.1 in
        (omega (arith, some), omega (arith, more, zeroth, all))

    same_rows : (most : ℕ) (new : Serving) → new.rows ≡ s.rows → Owes l most s.made new.made → writes_in p ≡ 0 → Next new
    same_rows most new rows owes zeroth = record {
      rises = subst (λ (r : List (ℕ × Row)). IsRising r) (sym rows) j.rises;
      none = still_none;
      has = λ row is host. let old = j.has row (ap (at n) (sym rows) ∙ is) host in (old.0, carry most new owes zeroth old.1);
    }

    answered_open : p.command ≡ commands.Open → Owes l (asks l p) s.made (on_open link p s).made → Next (on_open link p s)
    answered_open c = go (p.arg0 == 0 || is_taken p.arg0 s.rows)
      where
        zeroth : writes_in p ≡ 0
        zeroth = count_none is_wrte l p (ap is_wrte c)

        some : (kind : Kind) → Owes l (asks l p) s.made (open_as link p (Some kind) s).made → Next (open_as link p (Some kind) s)
        some kind owes =
            let hello = with_sum link.sums (okay (s.drawn + 1) p.arg0 (opening_word (credit_of link p))) ∷ [] in
            let given = granted (s.drawn + 1) (credit_of link p) (owing hello s) in
            let begun : Serving = record given { drawn = s.drawn + 1; files = files_opened kind s.files } in
            let row : Row = opened p.arg0 kind s.files (credit_of link p) in
            let later = owes_settled l 0 link (s.drawn + 1) row begun begun.made (owes_none l 0 begun.made) in
            record {
              rises = settled_rises link (s.drawn + 1) row begun j.rises;
              none = still_none;
              has = settled_has (After (open_as link p (Some kind) s)) link (s.drawn + 1) row begun j.rises
                  (λ apart found is host. let old = j.has found is host
                  in (old.0, carry (asks l p) (open_as link p (Some kind) s) owes zeroth old.1))
                  (λ e host. (
                    opened_one link p plain,
                    (let first = turn.asked (ap is_open c) host in
                        let none = j.none first in
                        let here = count_one is_open l p (ap is_open c) host in
                        let one = one_to link.sums (s.drawn + 1) p.arg0 (opening_word (credit_of link p)) host in
                        let sum = okays_sent l s.made hello in
                        let more = more_okays 0 begun.made (open_as link p (Some kind) s).made later in
                        (omega (arith, here), omega (arith, none, zeroth, one, sum, more))),
                  ));
            }

        by : (kind : Option Kind) → Owes l (asks l p) s.made (open_as link p kind s).made → Next (open_as link p kind s)
        by None owes = same_rows (asks l p) (open_as link p None s) refl owes zeroth
        by (Some kind) owes = some kind owes

        go : (b : Bool) → Owes l (asks l p) s.made (if b then s else open_as link p (kind_for s.drawn p) s).made
            → Next (if b then s else open_as link p (kind_for s.drawn p) s)
        go true owes = same_rows (asks l p) s refl owes zeroth
        go false owes = by (kind_for s.drawn p) owes

    answered_write : p.command ≡ commands.Wrte → Next (on_write link p s)
    answered_write c = go (named p.arg0 (at p.arg1 s.rows)) refl
      where
        silent : (o + opens_in p ≡ o)
        silent = (let none = count_none is_open l p (ap is_open c) in omega (arith, none))

        acked : (flow : Flow) (host m : ℕ) → IsOne flow → host ≡ l → okays_to l (packets_of_sent (sent_ack link p.arg1 host flow m)) ≡ 1
        acked (flows.One window) host m one same = one_to link.sums p.arg1 host [] same
        acked (flows.Credit credit) host m one same = absurd one

        -- a write that found no row
        nowhere : named p.arg0 (at p.arg1 s.rows) ≡ None → Next s
        nowhere is = record {
          rises = j.rises;
          none = still_none;
          has = λ row here host. let old = j.has row here host in (
            old.0,
            by row here host old.1 (counted is_wrte l p),
          );
        }
          where
            by : (row : Row) → at n s.rows ≡ Some row → row.host ≡ l → Before
                → (writes_in p ≡ 0) ⊎ ((is_wrte p.command ≡ true) × ((p.arg0 ≡ l) × (writes_in p ≡ 1))) → After s
            by row here host before (inl zeroth) = carry 0 s (owes_none l 0 s.made) zeroth before
            by row here host before (inr one) =
                let place = (turn.wrte one.0 one.1.0).1 in
                let found : at p.arg1 s.rows ≡ Some row = ap (λ k. at k s.rows) place ∙ here in
                let hit : named p.arg0 (at p.arg1 s.rows) ≡ Some row =
                ap (named p.arg0) found ∙ ap (λ (b : Bool). if b then Some row else None) (eq-eqb row.host p.arg0 (host ∙ sym one.1.0)) in
                let clash : None ≡ Some row = sym is ∙ hit in
                cc

        took : (row : Row) → named p.arg0 (at p.arg1 s.rows) ≡ Some row → row.host ≡ p.arg0 → Next (written_to link p (Some row) s)
        took row is same =
            let ack = sent_ack link p.arg1 row.host row.flow (length p.payload) in
            let mid : Serving = record (owing ack s) { files = files_fed row.kind row.past (came_over p.payload s.files) } in
            let next : Row = row_took (came_over p.payload s.files) row in
            let later = owes_settled l 0 link p.arg1 next mid mid.made (owes_none l 0 mid.made) in
            let sum = okays_sent l s.made ack in
            let more = more_okays 0 mid.made (written_to link p (Some row) s).made later in
            record {
              rises = settled_rises link p.arg1 next mid j.rises;
              none = still_none;
              has = settled_has (After (written_to link p (Some row) s)) link p.arg1 next mid j.rises
                  (λ apart found here host. let old = j.has found here host in (
                    old.0,
                    elim (counted is_wrte l p) [
                      | inl zeroth ↦
                          (let some = old.1.0 in let all = old.1.1
                          in (omega (arith, some), omega (arith, zeroth, all, sum, more)))
                      | inr one ↦ absurd (apart (turn.wrte one.0 one.1.0).1)
                    ],
                  ))
                  (λ e host.
                  let old = j.has row (ap (λ k. at k s.rows) (sym e) ∙ named_is p.arg0 (at p.arg1 s.rows) row is) host in
                  let one = acked row.flow row.host (length p.payload) old.0 host in (
                    old.0,
                    (let some = old.1.0 in
                        let all = old.1.1 in
                        let few = count_at_most_one is_wrte l p in
                        (omega (arith, some), omega (arith, all, one, sum, more, few))),
                  ));
            }

        host_of : (row : Row) (found : Option Row) → named p.arg0 found ≡ Some row → row.host ≡ p.arg0
        host_of row None e = let clash : None ≡ Some row = e in cc
        host_of row (Some other) e = by (other.host == p.arg0) refl e
          where
            by : (b : Bool) → (other.host == p.arg0) ≡ b → (if b then Some other else None) ≡ Some row → row.host ≡ p.arg0
            by true f e = (let one : other ≡ row = cc in ap (λ (r : Row). r.host) (sym one) ∙ eqb-true other.host p.arg0 f)
            by false f e = let clash : None ≡ Some row = e in cc

        go : (found : Option Row) → named p.arg0 (at p.arg1 s.rows) ≡ found → Next (written_to link p found s)
        go None is = nowhere is
        go (Some row) is = took row is (host_of row (at p.arg1 s.rows) is)

    answered_okay : p.command ≡ commands.Okay → Next (on_okay link p s)
    answered_okay c = go (named p.arg0 (at p.arg1 s.rows)) refl
      where
        zeroth : writes_in p ≡ 0
        zeroth = count_none is_wrte l p (ap is_wrte c)

        go : (found : Option Row) → named p.arg0 (at p.arg1 s.rows) ≡ found → Next (acked_to link p found s)
        go None is = same_rows 0 s refl (owes_none l 0 s.made) zeroth
        go (Some row) is =
            let mid : Serving = granted p.arg1 (credit_word_in p.payload) s in
            let next : Row = row_acked (credit_word_in p.payload) row in
            let later = owes_settled l 0 link p.arg1 next mid mid.made (owes_none l 0 mid.made) in
            record {
              rises = settled_rises link p.arg1 next mid j.rises;
              none = still_none;
              has = settled_has (After (acked_to link p (Some row) s)) link p.arg1 next mid j.rises
                  (λ apart found here host. let old = j.has found here host
                  in (old.0, carry 0 (acked_to link p (Some row) s) later zeroth old.1))
                  (λ e host.
                  let old = j.has row (ap (λ k. at k s.rows) (sym e) ∙ named_is p.arg0 (at p.arg1 s.rows) row is) host in
                  (one_acked row.flow (credit_word_in p.payload) old.0, carry 0 (acked_to link p (Some row) s) later zeroth old.1));
            }

    answered_close : p.command ≡ commands.Clse → Next (on_close p s)
    answered_close c = go (closable p.arg0 (at p.arg1 s.rows)) refl
      where
        zeroth : writes_in p ≡ 0
        zeroth = count_none is_wrte l p (ap is_wrte c)

        go : (found : Option Row) → closable p.arg0 (at p.arg1 s.rows) ≡ found → Next (closed_to p.arg1 found s)
        go None is = same_rows 0 s refl (owes_none l 0 s.made) zeroth
        go (Some row) is = record {
          rises = without_rises p.arg1 s.rows j.rises;
          none = still_none;
          has = λ found here host.
              let there = left_found p.arg1 s.rows j.rises n found here in
              let old = j.has found there.1 host in
              (old.0, carry 0 (gone false p.arg1 row s) (owes_none l 0 s.made) zeroth old.1);
        }

    answered_served : (command : Command) → p.command ≡ command → Next (served command link p s)
    answered_served commands.Open c = answered_open c (owes_open l link p s c)
    answered_served commands.Wrte c = answered_write c
    answered_served commands.Okay c = answered_okay c
    answered_served commands.Clse c = answered_close c
    answered_served _ c = same_rows 0 s refl (owes_none l 0 s.made) (count_none is_wrte l p (ap is_wrte c))

  -- ---- devices
  -- a link without credit, or none and no stream
  abbrev IsPlainLink : Option Link → List (ℕ × Row) → Type 0
  IsPlainLink None rows = rows ≡ []
  IsPlainLink (Some link) rows = link.credit ≡ false

  -- the device so far
  record IsSoFar (o w : ℕ) (d : Device) : Type 0 where
    link : IsPlainLink d.link d.serving.rows
    serving : d.refused ≡ false → IsAnsweredSoFar o w d.serving

  -- no row, and so nothing to know of one
  no_more : (o w : ℕ) (p : Packet) (s : Serving) → IsInTurn l n o p → IsRising s.rows → (o ≡ 0 → w ≡ 0) → s.rows ≡ []
      → IsAnsweredSoFar (o + opens_in p) (w + writes_in p) s
  no_more o w p s turn rises none empty = record {
    rises = rises;
    none = still;
    has = λ row is host. absurd (let clash : None ≡ Some row = sym (ap (at n) empty) ∙ is in cc);
  }
    where
      still : o + opens_in p ≡ 0 → w + writes_in p ≡ 0
      still e = by (counted is_wrte l p)
        where
          first : o ≡ 0
          first = omega (arith, e)

          by : (writes_in p ≡ 0) ⊎ ((is_wrte p.command ≡ true) × ((p.arg0 ≡ l) × (writes_in p ≡ 1))) → w + writes_in p ≡ 0
          by (inl zeroth) = (let old = none first in omega (arith, zeroth, old))
          by (inr one) = absurd (let some = (turn.wrte one.0 one.1.0).0 in omega (arith, some, first))

  -- an empty table rises
  rises_none : (rows : List (ℕ × Row)) → rows ≡ [] → IsRising rows
  unfolding IsStrictlySortedBy
  rises_none rows empty = subst (λ (r : List (ℕ × Row)). IsRising r) (sym empty) tt

  -- one packet
  step_answered : (setting : Setting) → setting.credit ≡ false → (o w : ℕ) (p : Packet) → IsInTurn l n o p → (d : Device) → IsSoFar o w d
      → IsSoFar (o + opens_in p) (w + writes_in p) (step setting d p)
  unfolding step
  step_answered setting plain o w p turn d j = go d.refused refl
    where
      Next : Device → Type 0
      Next new = IsSoFar (o + opens_in p) (w + writes_in p) new

      linked : d.refused ≡ false → (link : Option Link) → link_of setting.most setting.credit p ≡ link → Next (linked_to link d)
      linked sound None is = record { link = j.link; serving = λ e. absurd (let clash : true ≡ false = e in cc) }
      linked sound (Some link) is = record {
        link = link_plain setting.most p link (ap (λ b. link_of setting.most b p) (sym plain) ∙ is);
        serving = λ e. no_more o w p (all_gone d.serving) turn (rises_none [] refl) (j.serving sound).none refl;
      }

      on : d.refused ≡ false → (link : Option Link) → d.link ≡ link → IsPlainLink link d.serving.rows → Next (served_on link p d)
      on sound None is empty = record {
        link = j.link;
        serving = λ e. no_more o w p d.serving turn (j.serving sound).rises (j.serving sound).none empty;
      }
      on sound (Some link) is none = record {
        link = subst (λ (x : Option Link). IsPlainLink x (served p.command link p d.serving).rows) (sym is) none;
        serving = λ e. answered_served o w link none p turn d.serving (j.serving sound) p.command refl;
      }

      by : d.refused ≡ false → (b : Bool) → Next (if b then linked_to (link_of setting.most setting.credit p) d else served_on d.link p d)
      by sound true = linked sound (link_of setting.most setting.credit p) refl
      by sound false = on sound d.link refl j.link

      go : (b : Bool) → d.refused ≡ b → Next (if b then d else treated setting p d)
      go true e = record { link = j.link; serving = λ sound. absurd (let clash : true ≡ false = sym e ∙ sound in cc) }
      go false e = by e (is_cnxn p.command)

  -- all packets
  all_answered : (setting : Setting) → setting.credit ≡ false → (o w : ℕ) (packets : List Packet)
      → AreInTurn l n o packets → (d : Device) → IsSoFar o w d
      → IsSoFar (o + count_from is_open l packets) (w + count_from is_wrte l packets) (fold (step setting) d packets)
  all_answered setting plain o w [] turns d j =
      subst (λ (k : ℕ). IsSoFar k (w + 0) d) (let e : o ≡ o + 0 = omega arith in e)
      (subst (λ (k : ℕ). IsSoFar o k d) (let e : w ≡ w + 0 = omega arith in e) j)
  all_answered setting plain o w (p ∷ packets) turns d j =
      let later = all_answered setting plain (o + opens_in p) (w + writes_in p) packets turns.1 (step setting d p)
      (step_answered setting plain o w p turns.0 d j) in
      let opens = count_first is_open l p packets in
      let wrtes = count_first is_wrte l p packets in
      subst (λ (k : ℕ). IsSoFar k (w + count_from is_wrte l (p ∷ packets)) (fold (step setting) (step setting d p) packets))
      (let e : (o + opens_in p) + count_from is_open l packets ≡ o + count_from is_open l (p ∷ packets) = omega (arith, opens) in e)
      (subst (λ (k : ℕ). IsSoFar ((o + opens_in p) + count_from is_open l packets) k (fold (step setting) (step setting d p) packets))
      (let e : (w + writes_in p) + count_from is_wrte l packets ≡ w + count_from is_wrte l (p ∷ packets) = omega (arith, wrtes) in e) later)

-- so the OPEN and all writes of a live stream are acknowledged
pub live_is_acked : (setting : Setting) → setting.credit ≡ false → LiveAreAcknowledged setting
live_is_acked setting plain l n packets turns sound row is host =
    let all = all_answered l n setting plain 0 0 packets turns (first_device setting)
    (record {
      link = refl;
      serving = λ e. record {
        rises = rises_none l n [] refl;
        none = λ f. refl;
        has = λ found here same. absurd (let clash : None ≡ Some found = here in cc);
      };
    }) in
    let few = ((all.serving sound).has row is host).1.1 in
    omega (arith, few)
