-- What was told of the ends of streams, and the rows that change beside it.
use Rattle.std.proofs.Common.{◌≡◌, ◌≢◌, ℕ, ◌+◌, ◌<◌, Bool, true, false, cond, List, [], ◌∷◌, ◌++◌, Option, Some, None, refl, sym, ap, subst}
use Rattle.std.proofs.Common.{◌∙◌}
use Rattle.std.proofs.Common.{eqb, ◌⊎◌, inl, inr, arith}
use Rattle.std.specs.Prelude.{nat_eq, is_some, option_and_then}
use Rattle.std.specs.Option.{option_or}
use Rattle.std.proofs.lemmas.Bool.{eqb-true, eqb-false, eq-eqb, ne_eqb}
use Rattle.adb_outside.specs.Tables.{Rows, change_row, put_row}
use Rattle.adb_stream.specs.declared.row.Part.{Part}
use Rattle.adb_stream.specs.declared.row.Stream.{Stream}
use Rattle.adb_history.specs.Rows.{none_kept, with_stream_part}
use Rattle.adb_history.specs.Events.{Event, due_to_client, due_to_link, ended, ending_in}
use Rattle.adb_history.specs.declared.ending.Ending.{Ending}
use Rattle.adb_history.specs.Orderly.{IsDrawnOnly}
use Rattle.adb_history.proofs.Numbers.{change_drawn, put_drawn}
use Rattle.adb_laws_births.specs.Ending.{EndsAs, HasEnding}

-- ---- what was told
pub ending_append : (l : ℕ) (es fs : List Event) → ending_in l (es ++ fs) ≡ option_or (ending_in l es) (ending_in l fs)
ending_append l [] fs = refl
ending_append l (due_to_client client bytes ∷ es) fs = ending_append l es fs
ending_append l (due_to_link link packet check ∷ es) fs = ending_append l es fs
ending_append l (ended stream ending ∷ es) fs = go (nat_eq stream l) (ending_append l es fs)
  where
    go : (b : Bool) → ending_in l (es ++ fs) ≡ option_or (ending_in l es) (ending_in l fs)
        → cond b (Some ending) (ending_in l (es ++ fs)) ≡ option_or (cond b (Some ending) (ending_in l es)) (ending_in l fs)
    go true e = refl
    go false e = e

-- nothing more of it
pub told_none : (l : ℕ) (w told : List Event) → ending_in l told ≡ None → ending_in l (w ++ told) ≡ ending_in l w
told_none l w told none = ending_append l w told ∙ go (ending_in l w)
  where
    go : (o : Option Ending) → option_or o (ending_in l told) ≡ o
    go None = none
    go (Some ending) = refl

other_ended : (n l : ℕ) (ending : Ending) → n ≢ l → ending_in l (ended n ending ∷ []) ≡ None
other_ended n l ending apart = ap (λ (b : Bool). cond b (Some ending) None) (ne_eqb n l apart)

pub told_other : (n l : ℕ) (w : List Event) (ending : Ending) → n ≢ l → ending_in l (w ++ ended n ending ∷ []) ≡ ending_in l w
told_other n l w ending apart = told_none l w (ended n ending ∷ []) (other_ended n l ending apart)

-- its end
pub told_end : (l : ℕ) (w : List Event) (ending : Ending) → ending_in l (w ++ ended l ending ∷ []) ≡ option_or (ending_in l w) (Some ending)
told_end l w ending =
    ending_append l w (ended l ending ∷ [])
    ∙ ap (option_or (ending_in l w)) (ap (λ (b : Bool). cond b (Some ending) None) (eq-eqb l l refl))

pub some_told : (l : ℕ) (w : List Event) (ending : Ending) → is_some (ending_in l (w ++ ended l ending ∷ [])) ≡ true
some_told l w ending = ap is_some (told_end l w ending) ∙ go (ending_in l w)
  where
    go : (o : Option Ending) → is_some (option_or o (Some ending)) ≡ true
    go None = refl
    go (Some first) = refl

-- an orphan's end was told
pub orphan_told : (orphan : Bool) (e : Option Ending) → EndsAs orphan e → orphan ≡ true → is_some e ≡ true
orphan_told true e (cause, is) same = ap is_some is
orphan_told false e none same = let clash : false ≡ true = same in cc

-- ---- streams, and what was told of their ends
pub record Ends (drawn : ℕ) (streams : Rows (Option Stream)) (w : List Event) : Type 0 where
  pub rows : IsDrawnOnly drawn streams
  pub has : (l : ℕ) → HasEnding drawn l (streams l) (ending_in l w)

module _ {drawn : ℕ} {streams : Rows (Option Stream)} {w : List Event} (h : Ends drawn streams w) where
  -- nothing is told of any
  pub ends_quiet : (told : List Event) → ((l : ℕ) → ending_in l told ≡ None) → Ends drawn streams (w ++ told)
  ends_quiet told none = record {
    rows = h.rows;
    has = λ l. subst (HasEnding drawn l (streams l)) (sym (told_none l w told (none l))) (h.has l);
  }

  -- a stream that is kept was drawn
  lives : (l : ℕ) (stream : Stream) → streams l ≡ Some stream → (l ≡ 0) ⊎ (drawn < l) → ⊥
  lives l stream is (inl zeroth) = let clash : None ≡ Some stream = sym (ap streams zeroth ∙ h.rows.zero) ∙ is in cc
  lives l stream is (inr above) = let clash : None ≡ Some stream = sym (h.rows.above l above) ∙ is in cc

  -- one row changes, and what is told is of it alone
  module _ (n : ℕ) (stream : Stream) (v : List Event) (is : streams n ≡ Some stream)
      (other : (l : ℕ) → n ≢ l → ending_in l v ≡ ending_in l w) where
    one_changes : (f : Stream → Option Stream) → HasEnding drawn n (f stream) (ending_in n v)
        → Ends drawn (change_row n (option_and_then f) streams) v
    one_changes f here = record { rows = change_drawn drawn n f streams h.rows; has = λ l. go l (eqb n l) refl }
      where
        go : (l : ℕ) (b : Bool) → eqb n l ≡ b → HasEnding drawn l (cond b (option_and_then f (streams l)) (streams l)) (ending_in l v)
        go l true e =
            subst (λ (k : ℕ). HasEnding drawn k (option_and_then f (streams k)) (ending_in k v)) (eqb-true n l e)
            (subst (λ (o : Option Stream). HasEnding drawn n (option_and_then f o) (ending_in n v)) (sym is) here)
        go l false e = subst (HasEnding drawn l (streams l)) (sym (other l (eqb-false n l e))) (h.has l)

    -- it stays, with another part
    pub part_changes : (part : Part) → EndsAs part.orphan (ending_in n v)
        → Ends drawn (change_row n (option_and_then (with_stream_part part)) streams) v
    part_changes part ends = one_changes (with_stream_part part) (record {
      kept = λ x e. let one : record stream { part = part } ≡ x =
          cc in subst (λ (y : Stream). EndsAs y.part.orphan (ending_in n v)) one ends;
      gone = λ none some within. absurd (let clash : Some (record stream { part = part }) ≡ None = none in cc);
      undrawn = λ past. absurd (lives n stream is past);
    })

    -- it goes
    pub row_goes : is_some (ending_in n v) ≡ true → Ends drawn (change_row n (option_and_then none_kept) streams) v
    row_goes told = one_changes none_kept (record {
      kept = λ x e. absurd (let clash : None ≡ Some x = e in cc);
      gone = λ none some within. told;
      undrawn = λ past. absurd (lives n stream is past);
    })

  -- the next stream is drawn
  pub row_comes : (new : Stream) → new.part.orphan ≡ false → Ends (drawn + 1) (put_row (drawn + 1) (Some new) streams) w
  row_comes new owned = record { rows = put_drawn drawn (Some new) streams h.rows; has = λ l. go l (eqb (drawn + 1) l) refl }
    where
      above : (l : ℕ) → (l ≡ 0) ⊎ (drawn + 1 < l) → (l ≡ 0) ⊎ (drawn < l)
      above l (inl zeroth) = inl zeroth
      above l (inr past) = inr (omega (arith, past))

      go : (l : ℕ) (b : Bool) → eqb (drawn + 1) l ≡ b → HasEnding (drawn + 1) l (cond b (Some new) (streams l)) (ending_in l w)
      go l true e =
          let next = eqb-true (drawn + 1) l e in
          let none : ending_in l w ≡ None = (h.has l).undrawn (inr (omega (arith, next))) in
          record {
            kept = λ x f. let one : new ≡ x = cc in
                subst (λ (y : Stream). EndsAs y.part.orphan (ending_in l w)) one
                (subst (λ (b : Bool). EndsAs b (ending_in l w)) (sym owned) none);
            gone = λ gone some within. absurd (let clash : Some new ≡ None = gone in cc);
            undrawn = λ past. none;
          }
      go l false e = record {
        kept = (h.has l).kept;
        gone = λ none some within. (let apart = eqb-false (drawn + 1) l e in (h.has l).gone none some (omega (arith, within, apart)));
        undrawn = λ past. (h.has l).undrawn (above l past);
      }
