-- What one stream wrote, as packets come.
use Rattle.std.specs.Prelude.{ℕ, ◌+◌, ◌≡◌, ◌<◌, ◌≤◌, ◌==◌, ◌&&◌, ◌||◌, if◌then◌else◌, Bool, true}
use Rattle.std.specs.Prelude.{false, cond, List, [], ◌∷◌, ◌++◌, length, map, Option, Some, None}
use Rattle.std.proofs.Common.{refl, sym, ◌∙◌, ap, subst, arith}
use Rattle.std.specs.List.{concat}
use Rattle.std.proofs.lemmas.Bool.{eq-eqb, ne_eqb, true≢false}
use Rattle.std.proofs.lemmas.List.{append-nil, append_assoc, length-append, nil_from_length}
use Rattle.std.proofs.lemmas.List.Concat.{flat_map-append}
use Rattle.std.proofs.lemmas.List.Folds.{list_any-append}
use borrow.Author.Tests.{true-eqb}
use Rattle.adb_outside.specs.Tables.{at, IsRising, put_at, without}
use Rattle.adb_outside.proofs.TableLaws.{puts_put_at, puts_without, put_at_rises, without_rises}
use Rattle.adb_device_streams.specs.Service.{service_answer}
use Rattle.adb_device_streams.specs.Stream.{Row, unsent, is_done, row_written, writes, wrte}
use Rattle.adb_device_streams.specs.declared.link.Link.{Link}
use Rattle.adb_daemon.specs.Serving.{Serving, Sent, Ack, Ended, with_sum, owing, ended_at, sent_writes, sent_close, settled_as, settled}
use Rattle.adb_daemon.specs.Serving.{gone}
use Rattle.adb_daemon.specs.Streams.{payload_of, written, closes, is_closed, over_at, writes_of, acks_of, words_of, IsWithin, KeepsWindow}
use Rattle.adb_daemon.specs.Streams.{WritesFront, IsOver}
use Rattle.adb_daemon.specs.Streams.{Writes}
use Rattle.adb_daemon.proofs.Windows.{within_more, within_written}
use Rattle.adb_stream.specs.Flow.{is_idle}
use Rattle.adb_stream.specs.declared.flow.Flow.{Flow}
use Rattle.adb_daemon.proofs.Fronts.{front_written, sent_written}

pub written_more : (own : ℕ) (made more : List Sent) → written own (made ++ more) ≡ written own made ++ written own more
written_more own made more = flat_map-append (payload_of own) made more

pub closed_more : (own : ℕ) (made more : List Sent) → is_closed own (made ++ more) ≡ (is_closed own made || is_closed own more)
closed_more own made more = list_any-append (closes own) made more

pub writes_more : (own : ℕ) (made more : List Sent) → writes_of own (made ++ more) ≡ writes_of own made + writes_of own more
writes_more own [] more = omega arith
writes_more own (one ∷ made) more = omega (arith, writes_more own made more)

module _ (own : ℕ) (sums : Bool) (q host : ℕ) where
  -- writes are no close; those of another stream are nothing to this one, and its own are what it wrote
  pub writes_open : (payloads : List (List ℕ)) → is_closed own (map (λ payload. with_sum sums (wrte q host payload)) payloads) ≡ false
  writes_open [] = refl
  writes_open (payload ∷ more) = writes_open more

  others_write : (q == own) ≡ false → (payloads : List (List ℕ))
      → written own (map (λ payload. with_sum sums (wrte q host payload)) payloads) ≡ []
  others_write is [] = refl
  others_write is (payload ∷ more) =
      ap (λ (t : Bool). (if t then payload else []) ++ written own (map (λ p. with_sum sums (wrte q host p)) more)) is
      ∙ others_write is more

  own_writes : (q == own) ≡ true → (payloads : List (List ℕ))
      → written own (map (λ payload. with_sum sums (wrte q host payload)) payloads) ≡ concat payloads
  own_writes is [] = refl
  own_writes is (payload ∷ more) =
      ap (λ (t : Bool). (if t then payload else []) ++ written own (map (λ p. with_sum sums (wrte q host p)) more)) is
      ∙ ap (λ l. payload ++ l) (own_writes is more)

  others_count : (q == own) ≡ false → (payloads : List (List ℕ))
      → writes_of own (map (λ payload. with_sum sums (wrte q host payload)) payloads) ≡ 0
  others_count is [] = refl
  others_count is (payload ∷ more) =
      ap (λ (t : Bool). (if t then 1 else 0) + writes_of own (map (λ p. with_sum sums (wrte q host p)) more)) is
      ∙ omega (arith, others_count is more)

  pub own_count : (q == own) ≡ true → (payloads : List (List ℕ))
      → writes_of own (map (λ payload. with_sum sums (wrte q host payload)) payloads) ≡ length payloads
  own_count is [] = refl
  own_count is (payload ∷ more) =
      ap (λ (t : Bool). (if t then 1 else 0) + writes_of own (map (λ p. with_sum sums (wrte q host p)) more)) is
      ∙ omega (arith, own_count is more)

-- What becomes due is nothing to a stream: it is neither a write nor a close of it.
pub record IsSilent (own : ℕ) (more : List Sent) : Type 0 where
  pub writes : written own more ≡ []
  pub count : writes_of own more ≡ 0
  pub closes : is_closed own more ≡ false

-- no write was made: the window is kept
pub window_stays : (own : ℕ) (made more : List Sent) (acks : List Ack) (flow : Flow) → written own more ≡ [] → writes_of own more ≡ 0
    → KeepsWindow own made acks flow → KeepsWindow own (made ++ more) acks flow
window_stays own made more acks flow none zeroth keeps =
    let text : length (written own made) ≡ length (written own (made ++ more)) = sym (ap length (written_more own made more)
    ∙ (ap (λ l. length (written own made ++ l)) none ∙ ap length (append-nil (written own made)))) in
    let count : writes_of own made ≡ writes_of own (made ++ more) = omega (arith, writes_more own made more, zeroth) in
    subst (λ n. IsWithin (writes_of own (made ++ more)) n (acks_of own acks) (words_of own acks) flow) text
    (subst (λ n. IsWithin n (length (written own made)) (acks_of own acks) (words_of own acks) flow) count keeps)

-- an OKAY more
pub window_ack : (own : ℕ) (made : List Sent) (ack : Ack) (acks : List Ack) (flow : Flow) → KeepsWindow own made acks flow
    → KeepsWindow own made (ack ∷ acks) flow
window_ack own made ack acks flow keeps =
    within_more flow (writes_of own made) (length (written own made)) (acks_of own acks) (words_of own acks) (acks_of own (ack ∷ acks))
    (words_of own (ack ∷ acks)) (omega arith) (omega arith) keeps

pub writes_ack : (own : ℕ) (made : List Sent) (ack : Ack) (acks : List Ack) (row : Option Row) (over : Option Ended)
    → Writes own made acks row over
    → Writes own made (ack ∷ acks) row over
writes_ack own made ack acks (Some row) over w = (w.0, w.1, window_ack own made ack acks row.flow w.2)
writes_ack own made ack acks None (Some e) w = (w.0, w.1, window_ack own made ack acks e.row.flow w.2)
writes_ack own made ack acks None None w = w

module _ (own : ℕ) (made more : List Sent) (s : IsSilent own more) where
  pub same_written : written own (made ++ more) ≡ written own made
  same_written = written_more own made more ∙ (ap (λ l. written own made ++ l) s.writes ∙ append-nil (written own made))

  or_false : (b : Bool) → (b || false) ≡ b
  or_false true = refl
  or_false false = refl

  pub same_closed : is_closed own (made ++ more) ≡ is_closed own made
  same_closed = closed_more own made more ∙ (ap (λ b. is_closed own made || b) s.closes ∙ or_false (is_closed own made))

  front_stays : (row : Row) → WritesFront own row made → WritesFront own row (made ++ more)
  front_stays row w = record { written = same_written ∙ w.written; front = w.front }

  pub same_window : (acks : List Ack) (flow : Flow) → KeepsWindow own made acks flow → KeepsWindow own (made ++ more) acks flow
  same_window acks flow keeps = window_stays own made more acks flow s.writes s.count keeps

  over_stays : (e : Ended) (acks : List Ack) → (e.own ≡ own) × IsOver e made × KeepsWindow own made acks e.row.flow
      → (e.own ≡ own) × IsOver e (made ++ more) × KeepsWindow own (made ++ more) acks e.row.flow
  over_stays e acks over = (
    over.0,
    record {
      writes = record {
        written = ap (λ (n : ℕ). written n (made ++ more)) over.0
            ∙ (same_written ∙ (ap (λ (n : ℕ). written n made) (sym over.0) ∙ over.1.writes.written));
        front = over.1.writes.front;
      };
      closed = ap (λ (n : ℕ). is_closed n (made ++ more)) over.0
          ∙ (same_closed ∙ (ap (λ (n : ℕ). is_closed n made) (sym over.0) ∙ over.1.closed));
      whole = over.1.whole;
    },
    same_window acks e.row.flow over.2,
  )

  pub writes_stay : (acks : List Ack) (row : Option Row) (over : Option Ended) → Writes own made acks row over
      → Writes own (made ++ more) acks row over
  writes_stay acks (Some row) over w = (front_stays row w.0, same_closed ∙ w.1, same_window acks row.flow w.2)
  writes_stay acks None (Some e) w = over_stays e acks w
  writes_stay acks None None w = (same_written ∙ w.0, same_closed ∙ w.1, omega (arith, writes_more own made more, s.count, w.2))

pub silent_none : (own : ℕ) → IsSilent own []
silent_none own = record { writes = refl; count = refl; closes = refl }

pub silent_both : (own : ℕ) (a b : List Sent) → IsSilent own a → IsSilent own b → IsSilent own (a ++ b)
silent_both own a b x y = record {
  writes = same_written own a b y ∙ x.writes;
  count = omega (arith, writes_more own a b, x.count, y.count);
  closes = same_closed own a b y ∙ x.closes;
}

pub silent_writes : (own : ℕ) (link : Link) (q : ℕ) (row : Row) → (q ≡ own → ⊥) → IsSilent own (sent_writes link q row)
silent_writes own link q row apart = record {
  writes = others_write own link.sums q row.host (ne_eqb q own apart) (writes link.most row);
  count = others_count own link.sums q row.host (ne_eqb q own apart) (writes link.most row);
  closes = writes_open own link.sums q row.host (writes link.most row);
}

pub silent_close : (own : ℕ) (link : Link) (q host : ℕ) → (q ≡ own → ⊥) → IsSilent own (sent_close true link q host)
silent_close own link q host apart = record { writes = refl; count = refl; closes = ap (λ (b : Bool). b || false) (ne_eqb q own apart) }

-- What is kept of one stream: the table is in order, ids that were not drawn have none, and what it wrote is a front of its answer.
pub record IsOrderly (own : ℕ) (s : Serving) : Type 0 where
  pub rises : IsRising s.rows
  pub fresh : s.drawn < own → (at own s.rows ≡ None) × (over_at own s.ended ≡ None)
  pub writes : Writes own s.made s.acks (at own s.rows) (over_at own s.ended)

-- a stream of another id ends: nothing of this one
pub other_over : (own : ℕ) (e : Ended) (ended : List Ended) → (e.own ≡ own → ⊥) → over_at own (e ∷ ended) ≡ over_at own ended
other_over own e ended apart = ap (λ (b : Bool). cond b (Some e) (over_at own ended)) (ne_eqb e.own own apart)

pub own_over : (own : ℕ) (e : Ended) (ended : List Ended) → e.own ≡ own → over_at own (e ∷ ended) ≡ Some e
own_over own e ended is = ap (λ (b : Bool). cond b (Some e) (over_at own ended)) (eq-eqb e.own own is)

module _ (own q : ℕ) (apart : q ≡ own → ⊥) where
  not_own : own ≡ q → ⊥
  not_own is = apart (sym is)

  -- a stream of another id changes or ends, and what becomes due is nothing to this one
  pub other_kept : (row : Row) (s : Serving) (more : List Sent) → IsOrderly own s → IsSilent own more
      → IsOrderly own (record s { rows = put_at q row s.rows; made = s.made ++ more })
  other_kept row s more o silent =
      let same : at own (put_at q row s.rows) ≡ at own s.rows = (puts_put_at q row s.rows).others own not_own in
      record {
        rises = put_at_rises q row s.rows o.rises;
        fresh = λ above. (same ∙ (o.fresh above).0, (o.fresh above).1);
        writes = subst (λ (r : Option Row). Writes own (s.made ++ more) s.acks r (over_at own s.ended)) (sym same)
            (writes_stay own s.made more silent s.acks (at own s.rows) (over_at own s.ended) o.writes);
      }

  pub other_gone : (row : Row) (closed : Bool) (s : Serving) (more : List Sent) → IsOrderly own s → IsSilent own more
      → IsOrderly own (record s { rows = without q s.rows; ended = ended_at closed (q, row) ∷ s.ended; made = s.made ++ more })
  other_gone row closed s more o silent =
      let same : at own (without q s.rows) ≡ at own s.rows = (puts_without q s.rows o.rises).others own not_own in
      let over = other_over own (ended_at closed (q, row)) s.ended apart in
      record {
        rises = without_rises q s.rows o.rises;
        fresh = λ above. (same ∙ (o.fresh above).0, over ∙ (o.fresh above).1);
        writes = subst
            (λ (r : Option Row). Writes own (s.made ++ more) s.acks r
            (over_at own (ended_at closed (q, row) ∷ s.ended))) (sym same)
            (subst (λ (e : Option Ended). Writes own (s.made ++ more) s.acks (at own s.rows) e) (sym over)
            (writes_stay own s.made more silent s.acks (at own s.rows) (over_at own s.ended) o.writes));
      }

  pub other_settles : (link : Link) (row : Row) (s : Serving) → IsOrderly own s → IsOrderly own (settled link q row s)
  other_settles link row s o = go (is_done (row_written link.most row))
    where
      last : Row
      last = row_written link.most row

      go : (t : Bool) → IsOrderly own (settled_as t link q (row_written link.most row) (owing (sent_writes link q row) s))
      go false = other_kept (row_written link.most row) s (sent_writes link q row) o (silent_writes own link q row apart)
      go true =
          subst (λ (made : List Sent). IsOrderly own (record s {
            rows = without q s.rows;
            ended = ended_at true (q, row_written link.most row) ∷ s.ended;
            made = made;
          }))
          (sym (append_assoc s.made (sent_writes link q row) (sent_close true link q (row_written link.most row).host)))
          (other_gone (row_written link.most row) true s
          (sent_writes link q row ++ sent_close true link q (row_written link.most row).host) o
          (silent_both own (sent_writes link q row) (sent_close true link q (row_written link.most row).host)
          (silent_writes own link q row apart)
          (silent_close own link q (row_written link.most row).host apart)))

-- This stream, before it settles: what it wrote, in a table in order.
pub record IsReady (own : ℕ) (row : Row) (s : Serving) : Type 0 where
  pub rises : IsRising s.rows
  pub drawn : own ≤ s.drawn
  pub writes : WritesFront own row s.made
  pub unclosed : is_closed own s.made ≡ false
  pub window : KeepsWindow own s.made s.acks row.flow

both_true : (a b : Bool) → (a && b) ≡ true → (a ≡ true) × (b ≡ true)
both_true true true e = (refl, refl)
both_true true false e = cc
both_true false b e = cc

module _ (own : ℕ) (link : Link) (row : Row) (s : Serving) (r : IsReady own row s) where
  abbrev last : Row
  last = row_written link.most row

  abbrev due : List Sent
  due = s.made ++ sent_writes link own row

  wrote : WritesFront own last due
  wrote = record {
    written = written_more own s.made (sent_writes link own row)
        ∙ (ap (λ l. l ++ written own (sent_writes link own row)) r.writes.written
        ∙ (ap (λ l. row.sent ++ l)
        (own_writes own link.sums own row.host (eq-eqb own own refl) (writes link.most row))
        ∙ sym (sent_written link.most row)));
    front = front_written link.most row r.writes.front;
  }

  open_still : is_closed own due ≡ false
  open_still = closed_more own s.made (sent_writes link own row)
      ∙ (ap (λ b. b || is_closed own (sent_writes link own row)) r.unclosed ∙ writes_open own link.sums own row.host (writes link.most row))

  within : KeepsWindow own due s.acks last.flow
  within =
      let n = length (writes link.most row) in
      let text : length (written own s.made) + length (concat (writes link.most row)) ≡ length (written own due) =
      sym (length-append (written own s.made) (concat (writes link.most row)))
      ∙ ap length (sym (written_more own s.made (sent_writes link own row)
      ∙ ap (λ l. written own s.made ++ l) (own_writes own link.sums own row.host (eq-eqb own own refl) (writes link.most row)))) in
      let count : writes_of own s.made + n ≡ writes_of own due =
      ap (λ k. writes_of own s.made + k) (sym (own_count own link.sums own row.host (eq-eqb own own refl) (writes link.most row)))
      ∙ sym (writes_more own s.made (sent_writes link own row)) in
      subst (λ k. IsWithin (writes_of own due) k (acks_of own s.acks) (words_of own s.acks) last.flow) text
      (subst (λ k. IsWithin k (length (written own s.made) + length (concat (writes link.most row)))
      (acks_of own s.acks) (words_of own s.acks) last.flow) count
      (within_written link.most (acks_of own s.acks) (words_of own s.acks) row (writes_of own s.made)
      (length (written own s.made)) r.window))

  -- this stream settles
  pub own_settles : IsOrderly own (settled link own row s)
  own_settles = go (is_done last) refl
    where
      go : (t : Bool) → is_done last ≡ t → IsOrderly own (settled_as t link own last (owing (sent_writes link own row) s))
      go false is = record {
        rises = put_at_rises own last s.rows r.rises;
        fresh = λ above. absurd (omega (arith, above, r.drawn));
        writes = subst (λ (o : Option Row). Writes own due s.acks o (over_at own s.ended)) (sym (puts_put_at own last s.rows).here)
            (wrote, open_still, within);
      }
      go true is =
          let done = both_true (service_answer last.kind last.first last.past).ended (length (unsent last) == 0 && is_idle last.flow) is in
          let none = both_true (length (unsent last) == 0) (is_idle last.flow) done.1 in
          let close = sent_close true link own last.host in
          let lost = puts_without own s.rows r.rises in
          record {
            rises = without_rises own s.rows r.rises;
            fresh = λ above. absurd (omega (arith, above, r.drawn));
            writes = subst
                (λ (o : Option Row). Writes own (due ++ close) s.acks o
                (over_at own (ended_at true (own, last) ∷ s.ended))) (sym lost.here)
                (subst (λ (e : Option Ended). Writes own (due ++ close) s.acks None e)
                (sym (own_over own (ended_at true (own, last)) s.ended refl)) (
                  refl,
                  record {
                    writes = record {
                      written = written_more own due close ∙ (append-nil (written own due) ∙ wrote.written);
                      front = wrote.front;
                    };
                    closed = closed_more own due close
                        ∙ (ap (λ b. b || is_closed own close) open_still ∙ ap (λ b. b || false) (eq-eqb own own refl));
                    whole = λ closed. record {
                      all = nil_from_length (unsent last) (true-eqb (length (unsent last)) 0 (sym none.0));
                      ended = done.0;
                    };
                  },
                  window_stays own due close s.acks last.flow refl refl within,
                ));
          }

-- this stream ends by the host
pub own_gone : (own : ℕ) (row : Row) (s : Serving) → IsReady own row s → IsOrderly own (gone false own row s)
own_gone own row s r =
    let lost = puts_without own s.rows r.rises in
    record {
      rises = without_rises own s.rows r.rises;
      fresh = λ above. absurd (omega (arith, above, r.drawn));
      writes = subst (λ (o : Option Row). Writes own s.made s.acks o (over_at own (ended_at false (own, row) ∷ s.ended))) (sym lost.here)
          (subst (λ (e : Option Ended). Writes own s.made s.acks None e) (sym (own_over own (ended_at false (own, row)) s.ended refl))
          (refl, record { writes = r.writes; closed = r.unclosed; whole = λ closed. absurd (true≢false (sym closed)) }, r.window));
    }
