-- What a rule makes of the stream of a number: it goes on, or it ends for a cause.
use Rattle.std.proofs.Common.{◌≡◌, ℕ, Bool, true, false, cond, not, List, [], ◌∷◌, ◌++◌, Option, Some, None, refl, sym, ap, subst, ◌∙◌, eqb}
use Rattle.std.specs.Prelude.{option_and_then}
use Rattle.std.specs.Option.{option_or}
use Rattle.std.proofs.lemmas.Bool.{eqb-true}
use Rattle.adb_stream.specs.declared.row.Stream.{Stream}
use Rattle.adb_stream.specs.declared.row.Part.{Part}
use Rattle.adb_history.specs.Rows.{State, to_stream, none_kept, with_stream_part}
use Rattle.adb_history.specs.Events.{Made, Event, due_to_client, due_to_link, ended, then_also, ending_in}
use Rattle.adb_history.specs.declared.ending.Ending.{Ending}
use Rattle.adb_history.specs.Losing.{orphaned}

-- whether a stream lives: it has a row, which is no orphan
abbrev pub lives : Option Stream → Bool
lives None = false
lives (Some x) = not x.part.orphan

-- a row was there before, of the same client and link
pub record Was (before : Option Stream) (y : Stream) : Type 0 where
  pub old : Stream
  pub is : before ≡ Some old
  pub client : y.client ≡ old.client
  pub link : y.link ≡ old.link

-- why a stream of this client and this link ends so
abbrev pub Reason : Type 1
Reason = (client link : ℕ) → Ending → Type 0

-- a stream that lived ended, for a reason
pub record Ended (Why : Reason) (before after : Option Stream) (ending : Ending) : Type 0 where
  pub row : Stream
  pub is : before ≡ Some row
  pub alive : row.part.orphan ≡ false
  pub over : lives after ≡ false
  pub why : Why row.client row.link ending

-- the row of a stream before and after a rule, and what the rule told
pub record Fate (l : ℕ) (Why : Reason) (before after : Option Stream) (told : List Event) : Type 0 where
  pub was : (y : Stream) → after ≡ Some y → Was before y
  pub stays : ending_in l told ≡ None → lives after ≡ lives before
  pub ends : (ending : Ending) → ending_in l told ≡ Some ending → Ended Why before after ending

abbrev pub FateOf : ℕ → Reason → State → Made → Type 0
FateOf l Why s m = Fate l Why (s.streams l) (m.state.streams l) m.told

-- ---- endings in more events
pub ending_append : (l : ℕ) (a b : List Event) → ending_in l (a ++ b) ≡ option_or (ending_in l a) (ending_in l b)
ending_append l [] b = refl
ending_append l (due_to_client c bytes ∷ a) b = ending_append l a b
ending_append l (due_to_link t p check ∷ a) b = ending_append l a b
ending_append l (ended m y ∷ a) b = go (eqb m l) (ending_append l a b)
  where
    go : (here : Bool) → ending_in l (a ++ b) ≡ option_or (ending_in l a) (ending_in l b)
        → cond here (Some y) (ending_in l (a ++ b)) ≡ option_or (cond here (Some y) (ending_in l a)) (ending_in l b)
    go true later = refl
    go false later = later

pub or_none : (x z : Option Ending) → option_or x z ≡ None → (x ≡ None) × (z ≡ None)
or_none None z e = (refl, e)
or_none (Some y) z e = absurd (let clash : Some y ≡ None = e in cc)

pub none_some : (y : Ending) → None ≡ Some y → ⊥
none_some y e = cc

no_row : (y : Stream) → None ≡ Some y → ⊥
no_row y e = cc

pub is_false : (b : Bool) → not b ≡ true → b ≡ false
is_false true e = absurd (let clash : false ≡ true = e in cc)
is_false false e = refl

-- a stream that lives has a row
pub record Row (o : Option Stream) : Type 0 where
  pub row : Stream
  pub is : o ≡ Some row
  pub alive : row.part.orphan ≡ false

pub live_row : (o : Option Stream) → lives o ≡ true → Row o
live_row None e = absurd (let clash : false ≡ true = e in cc)
live_row (Some x) e = record { row = x; is = refl; alive = is_false x.part.orphan e }

pub row_lives : (o : Option Stream) (x : Stream) → o ≡ Some x → x.part.orphan ≡ false → lives o ≡ true
row_lives o x is alive = ap lives is ∙ ap not alive

module _ (l : ℕ) (Why : Reason) where
  pub fate_same : (o : Option Stream) (told : List Event) → ending_in l told ≡ None → Fate l Why o o told
  fate_same o told none = record {
    was = λ y is. record { old = y; is = is; client = refl; link = refl };
    stays = λ e. refl;
    ends = λ y e. absurd (none_some y (sym none ∙ e));
  }

  pub fate_retold : (o p : Option Stream) (a b : List Event) → ending_in l b ≡ ending_in l a → Fate l Why o p a → Fate l Why o p b
  fate_retold o p a b same h = record {
    was = h.was;
    stays = λ e. h.stays (sym same ∙ e);
    ends = λ y e. h.ends y (sym same ∙ e);
  }

  -- one rule after another
  pub fate_then : (o p q : Option Stream) (a b : List Event) → Fate l Why o p a → Fate l Why p q b → Fate l Why o q (a ++ b)
  fate_then o p q a b h k = record {
    was = λ y is. (let w = k.was y is in let v = h.was w.old w.is in
        record { old = v.old; is = v.is; client = w.client ∙ v.client; link = w.link ∙ v.link });
    stays = λ e. (let n = or_none (ending_in l a) (ending_in l b) (sym (ending_append l a b) ∙ e) in k.stays n.1 ∙ h.stays n.0);
    ends = λ y e. go y (ending_in l a) refl (sym (ending_append l a b) ∙ e);
  }
    where
      dead : lives p ≡ false → (x : Option Ending) → ending_in l b ≡ x → lives q ≡ false
      dead over None e = k.stays e ∙ over
      dead over (Some z) e =
          let x = k.ends z e in
          absurd (let clash : true ≡ false = sym (row_lives p x.row x.is x.alive) ∙ over in cc)

      go : (y : Ending) (x : Option Ending) → ending_in l a ≡ x → option_or x (ending_in l b) ≡ Some y → Ended Why o q y
      go y (Some z) is e =
          let same : z ≡ y = cc in
          let x = h.ends y (is ∙ ap Some same) in
          record { row = x.row; is = x.is; alive = x.alive; over = dead x.over (ending_in l b) refl; why = x.why }
      go y None is e =
          let x = k.ends y e in
          let w = h.was x.row x.is in
          let alive : not w.old.part.orphan ≡ true = sym (ap lives w.is) ∙ (sym (h.stays is) ∙ row_lives p x.row x.is x.alive) in
          record {
            row = w.old;
            is = w.is;
            alive = is_false w.old.part.orphan alive;
            over = x.over;
            why = subst (λ (n : ℕ). Why w.old.client n y) w.link (subst (λ (n : ℕ). Why n x.row.link y) w.client x.why);
          }

  pub then_fate : (s : State) (m : Made) (rule : State → Made) → FateOf l Why s m
      → FateOf l Why m.state (rule m.state) → FateOf l Why s (then_also m rule)
  then_fate s m rule h k = fate_then (s.streams l) (m.state.streams l) ((rule m.state).state.streams l) m.told (rule m.state).told h k

  -- ---- one row changes
  -- the part of a stream
  pub fate_part : (n : ℕ) (x : Stream) (part : Part) (s : State) → s.streams n ≡ Some x → part.orphan ≡ x.part.orphan
      → Fate l Why (s.streams l) ((to_stream n (with_stream_part part) s).streams l) []
  fate_part n x part s is same = go (eqb n l) refl
    where
      go : (b : Bool) → eqb n l ≡ b → Fate l Why (s.streams l)
          (cond b (option_and_then (with_stream_part part) (s.streams l)) (s.streams l)) []
      go false e = fate_same (s.streams l) [] refl
      go true e =
          let here : s.streams l ≡ Some x = ap s.streams (sym (eqb-true n l e)) ∙ is in
          subst (λ (o : Option Stream). Fate l Why o (option_and_then (with_stream_part part) o) []) (sym here) (record {
            was = λ y f. (let row : record x { part = part } ≡ y = cc in
                subst (Was (Some x)) row (record { old = x; is = refl; client = refl; link = refl }));
            stays = λ f. ap not same;
            ends = λ y f. absurd (none_some y f);
          })

  -- an orphan goes
  pub fate_orphan : (n : ℕ) (x : Stream) (s : State) → s.streams n ≡ Some x → x.part.orphan ≡ true
      → Fate l Why (s.streams l) ((to_stream n none_kept s).streams l) []
  fate_orphan n x s is orphan = go (eqb n l) refl
    where
      go : (b : Bool) → eqb n l ≡ b → Fate l Why (s.streams l) (cond b (option_and_then none_kept (s.streams l)) (s.streams l)) []
      go false e = fate_same (s.streams l) [] refl
      go true e =
          let here : s.streams l ≡ Some x = ap s.streams (sym (eqb-true n l e)) ∙ is in
          subst (λ (o : Option Stream). Fate l Why o (option_and_then none_kept o) []) (sym here) (record {
            was = λ y f. absurd (no_row y f);
            stays = λ f. sym (ap not orphan);
            ends = λ y f. absurd (none_some y f);
          })

  -- a stream that lived goes, and its end is told
  pub fate_goes : (n : ℕ) (ending : Ending) (x : Stream) (s : State) → (s.streams n ≡ Some x) × (x.part.orphan ≡ false)
      → (n ≡ l → Why x.client x.link ending)
      → Fate l Why (s.streams l) ((to_stream n none_kept s).streams l) (ended n ending ∷ [])
  fate_goes n ending x s is why = go (eqb n l) refl
    where
      go : (b : Bool) → eqb n l ≡ b → Fate l Why (s.streams l)
          (cond b (option_and_then none_kept (s.streams l)) (s.streams l)) (ended n ending ∷ [])
      go false e = fate_same (s.streams l) (ended n ending ∷ []) (ap (λ b. cond b (Some ending) None) e)
      go true e =
          let here : s.streams l ≡ Some x = ap s.streams (sym (eqb-true n l e)) ∙ is.0 in
          let told : ending_in l (ended n ending ∷ []) ≡ Some ending = ap (λ b. cond b (Some ending) None) e in
          subst (λ (o : Option Stream). Fate l Why o (option_and_then none_kept o) (ended n ending ∷ [])) (sym here) (record {
            was = λ y f. absurd (no_row y f);
            stays = λ f. absurd (none_some ending (sym f ∙ told));
            ends = λ y f. (let same : ending ≡ y = (let both : Some ending ≡ Some y = sym told ∙ f in cc) in
                subst (λ (z : Ending). Ended Why (Some x) None z) same
                (record { row = x; is = refl; alive = is.1; over = refl; why = why (eqb-true n l e) }));
          })

  -- a stream that its client left stays as an orphan, and its end is told
  pub fate_left : (n : ℕ) (ending : Ending) (x : Stream) (s : State)
      → (s.streams n ≡ Some x) × (x.part.orphan ≡ false) → Why x.client x.link ending
      → Fate l Why (s.streams l) ((to_stream n (with_stream_part (orphaned x.part)) s).streams l) (ended n ending ∷ [])
  fate_left n ending x s is why = go (eqb n l) refl
    where
      go : (b : Bool) → eqb n l ≡ b
          → Fate l Why (s.streams l)
          (cond b (option_and_then (with_stream_part (orphaned x.part)) (s.streams l)) (s.streams l))
          (ended n ending ∷ [])
      go false e = fate_same (s.streams l) (ended n ending ∷ []) (ap (λ b. cond b (Some ending) None) e)
      go true e =
          let here : s.streams l ≡ Some x = ap s.streams (sym (eqb-true n l e)) ∙ is.0 in
          let told : ending_in l (ended n ending ∷ []) ≡ Some ending = ap (λ b. cond b (Some ending) None) e in
          subst (λ (o : Option Stream). Fate l Why o (option_and_then (with_stream_part (orphaned x.part)) o)
          (ended n ending ∷ [])) (sym here) (record {
            was = λ y f. (let row : record x { part = orphaned x.part } ≡ y = cc in
                subst (Was (Some x)) row (record { old = x; is = refl; client = refl; link = refl }));
            stays = λ f. absurd (none_some ending (sym f ∙ told));
            ends = λ y f. (let same : ending ≡ y = (let both : Some ending ≡ Some y = sym told ∙ f in cc) in
                subst (λ (z : Ending). Ended Why (Some x) (Some (record x { part = orphaned x.part })) z) same
                (record { row = x; is = refl; alive = is.1; over = refl; why = why }));
          })
