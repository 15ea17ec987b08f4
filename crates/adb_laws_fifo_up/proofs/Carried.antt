-- In every legal history, what was told of a stream and what its client holds are what the client wrote, as long as the stream lived.
use Rattle.std.proofs.Common.{◌≡◌, ◌≢◌, ℕ, ◌≤◌, Bool, true, false, cond, List, [], ◌∷◌, ◌++◌, length, drop, Option, Some, None, refl}
use Rattle.std.proofs.Common.{sym, ap, subst, ◌∙◌, arith, ◌⊎◌, inl, inr, eqb, append_assoc}
use Rattle.std.proofs.lemmas.Bool.{cases_eq}
use Rattle.std.proofs.lemmas.List.{length-append, drop-append-le}
use Rattle.adb_client.specs.declared.phase.Phase.{Phase}
use Rattle.adb_client.specs.declared.phase.Phase.TheVariants.{Asking, Opening, Streaming}
use Rattle.adb_capture.specs.declared.entry.Entry.{Entry}
use Rattle.adb_capture.specs.declared.entry.Entry.TheVariants.{Join, Enter, Read, Recv}
use Rattle.adb_history.specs.Rows.{Client, State, new_client, to_client, with_held}
use Rattle.adb_history.specs.Events.{Made, Event, ending_in, quietly}
use Rattle.adb_history.specs.declared.ending.Ending.{Ending}
use Rattle.adb_history.specs.declared.ending.Ending.TheVariants.{ClientClosed}
use Rattle.adb_history.specs.Reading.{comes, comes_in_vain, reads_in, reads_from}
use Rattle.adb_history.specs.Machine.{rule, ups, History, state, told, told_at, IsLegal}
use Rattle.adb_history.specs.Bytes.{bytes_read}
use Rattle.adb_history.specs.Births.{Birth, born}
use Rattle.adb_history.specs.Lives.{ending_of, rest_of}
use Rattle.adb_history.specs.Owned.{IsOwned}
use Rattle.adb_history.proofs.Following.{changed_here, changed_other}
use Rattle.adb_history.proofs.OwnedStep.{all_owned}
use Rattle.adb_laws_fifo_up.specs.Seen.{Seen, seen, seen_in, Sees, IsOf}
use Rattle.adb_laws_fifo_up.specs.Climbing.{carried}
use Rattle.adb_laws_fifo_up.specs.Rising.{Rises}
use Rattle.adb_laws_births.proofs.Born.{all_births}
use Rattle.adb_laws_fifo_up.specs.Carrying.{IsCarried}
use Rattle.adb_laws_fifo_up.proofs.Seeing.{seen_phase, none_unseen}
use Rattle.adb_laws_fifo_up.proofs.BirthSteps.{IsNew, born_before, born_drawn}
use Rattle.adb_laws_fifo_up.proofs.Inputs.{read_here}
use Rattle.adb_laws_fifo_up.proofs.Lasts.{read_lasts, up_all_lives}
use Rattle.adb_laws_fifo_up.proofs.Lived.{IsNoRead, no_read, rest_ended, rest_before, rest_ends, rest_lives, rest_same}
use Rattle.adb_laws_fifo_up.proofs.RuleClimbs.{Begins, ReadsOf, ReadsIn, step_climbs}
use Rattle.adb_laws_fifo_up.proofs.Rises.{owned_waits, view, rises_climbs}
use Rattle.adb_laws_fifo_up.proofs.Born.{carried_new}

-- ---- who comes and who reads
module _ (l t c : ℕ) (rest : List ℕ) (s : State) (w : List Event) (h : Rises l t c rest s w) where
  comes_rises : (forwarded : Bool) (n : ℕ) → Rises l t c rest (comes forwarded n s) w
  comes_rises forwarded n = view l t c rest s (comes forwarded n s) w (omega arith) h.mine (λ k v see of. before k v of (eqb n k) see) h
    where
      before : (k : ℕ) (v : Seen) → IsOf l v.phase → (b : Bool)
          → Sees (cond b (Some (new_client forwarded n)) (s.clients k)) v → Sees (s.clients k) v
      before k v of true see = absurd (subst (IsOf l) (seen_phase Asking [] v see).0 of)
      before k v of false see = see

  vain_rises : Rises l t c rest (comes_in_vain s) w
  vain_rises = view l t c rest s (comes_in_vain s) w (omega arith) h.mine (λ k v see of. see) h

  -- a client that has not this stream, and keeps its phase
  row_rises : (n : ℕ) (f : Client → Option Client) (x y : Client) → s.clients n ≡ Some x → f x ≡ Some y → (IsOf l y.about.phase → ⊥)
      → Rises l t c rest (to_client n f s) w
  row_rises n f x y here now away = view l t c rest s (to_client n f s) w (omega arith) h.mine
      (λ k v see of. before k v of see (cases_eq n k)) h
    where
      before : (k : ℕ) (v : Seen) → IsOf l v.phase → Sees ((to_client n f s).clients k) v → (n ≡ k) ⊎ (n ≡ k → ⊥) → Sees (s.clients k) v
      before k v of see (inl same) =
          let row : (to_client n f s).clients n ≡ Some y = changed_here n f s.clients x here ∙ now in
          let see_here : Sees ((to_client n f s).clients n) v = subst (λ (i : ℕ). Sees ((to_client n f s).clients i) v) (sym same) see in
          let phase = (seen_phase y.about.phase y.held v (subst (λ (o : Option Client). Sees o v) row see_here)).0 in
          absurd (away (subst (IsOf l) phase of))
      before k v of see (inr apart) = subst (λ (o : Option Client). Sees o v) (changed_other n k f s.clients apart) see

  read_in_rises : (n : ℕ) (bytes : List ℕ) (x : Client) → s.clients n ≡ Some x → (IsOf l x.about.phase → ⊥)
      → (phase : Phase) → x.about.phase ≡ phase
      → ReadsIn (rises_climbs l t c rest) s w phase n bytes x
  read_in_rises n bytes x here away Asking e = row_rises n _ x _ here refl away
  read_in_rises n bytes x here away (Opening k) e = row_rises n _ x _ here refl away
  read_in_rises n bytes x here away (Streaming k) e = row_rises n _ x _ here refl away
  read_in_rises n bytes x here away _ e = h

  -- a client reads that has not this stream
  reads_rises : (n : ℕ) (bytes : List ℕ) → ((x : Client) → s.clients n ≡ Some x → IsOf l x.about.phase → ⊥)
      → ReadsOf (rises_climbs l t c rest) s w (s.clients n) n bytes
  reads_rises n bytes away = go (s.clients n) refl
    where
      go : (o : Option Client) → s.clients n ≡ o → ReadsOf (rises_climbs l t c rest) s w o n bytes
      go None is = h
      go (Some x) is = read_in_rises n bytes x is (away x is) x.about.phase refl

  -- the stream of a client, by its row
  row_seen : (n : ℕ) (x : Client) → s.clients n ≡ Some x → IsOf l x.about.phase
      → (v : Seen) × Sees (s.clients n) v × IsOf l v.phase × (v.held ≡ x.held)
  row_seen n x here of = go x.about.phase refl of
    where
      go : (phase : Phase) → x.about.phase ≡ phase → IsOf l phase → (v : Seen) × Sees (s.clients n) v × IsOf l v.phase × (v.held ≡ x.held)
      go (Opening k) e same = (
        record { phase = Opening k; held = x.held },
        ap seen here
            ∙ ap (λ (p : Phase). seen_in p x.held) e,
        same,
        refl,
      )
      go (Streaming k) e same = (
        record { phase = Streaming k; held = x.held },
        ap seen here
            ∙ ap (λ (p : Phase). seen_in p x.held) e,
        same,
        refl,
      )
      go _ e same = absurd same

  begins_rises : (e : Entry) → IsOwned s → IsNoRead c e → Begins (rises_climbs l t c rest) e s w
  begins_rises (Join n) owned none = comes_rises false n
  begins_rises (Enter n port) owned none = (comes_rises true n, vain_rises)
  begins_rises (Read n bytes) owned none =
      reads_rises n bytes (λ x here of. (let v = row_seen n x here of in none (h.only n v.0 v.1 v.2)))
  begins_rises (Recv k bytes) owned none = (h, owned, owned_waits)
  begins_rises _ owned none = h

  -- the client of the stream wrote more
  more_rises : (bytes : List ℕ) → ending_in l w ≡ None → ((x : Client) → s.clients c ≡ Some x → IsOf l x.about.phase → ⊥)
      → Rises l t c (rest ++ bytes) s w
  more_rises bytes lives away = record {
    born = h.born;
    mine = h.mine;
    only = h.only;
    held = λ v see of. absurd (none v see of (s.clients c) refl);
    front = (h.front.0 ++ bytes, sym (append_assoc (carried t l w) h.front.0 bytes) ∙ ap (λ y. y ++ bytes) h.front.1);
    whole = λ e. absurd (let clash : None ≡ Some ClientClosed = sym lives ∙ e in cc);
  }
    where
      none : (v : Seen) → Sees (s.clients c) v → IsOf l v.phase → (o : Option Client) → s.clients c ≡ o → ⊥
      none v see of None is = none_unseen v (subst (λ (o : Option Client). Sees o v) is see)
      none v see of (Some x) is =
          away x is (subst (IsOf l) (seen_phase x.about.phase x.held v (subst (λ (o : Option Client). Sees o v) is see)).0 of)

  -- and holds it
  held_rises : (bytes : List ℕ) (x : Client) → s.clients c ≡ Some x → IsOf l x.about.phase
      → Rises l t c (rest ++ bytes) (to_client c (with_held (x.held ++ bytes)) s) w
  held_rises bytes x here of = record {
    born = h.born;
    mine = h.mine;
    only = λ n v see of2. only n v see of2 (cases_eq c n);
    held = λ v see of2. (
      was.0,
      ap (λ y. carried t l w ++ y) (row v see)
          ∙ (sym (append_assoc (carried t l w) x.held bytes) ∙ ap (λ y. y ++ bytes) all),
    );
    front = (h.front.0 ++ bytes, sym (append_assoc (carried t l w) h.front.0 bytes) ∙ ap (λ y. y ++ bytes) h.front.1);
    whole = λ e. absurd (let clash : None ≡ Some ClientClosed = sym was.0 ∙ e in cc);
  }
    where
      mine : (v : Seen) × Sees (s.clients c) v × IsOf l v.phase × (v.held ≡ x.held)
      mine = row_seen c x here of

      was : (ending_in l w ≡ None) × (carried t l w ++ mine.0.held ≡ rest)
      was = h.held mine.0 mine.1 mine.2

      all : carried t l w ++ x.held ≡ rest
      all = ap (λ y. carried t l w ++ y) (sym mine.3) ∙ was.1

      row : (v : Seen) → Sees ((to_client c (with_held (x.held ++ bytes)) s).clients c) v → v.held ≡ x.held ++ bytes
      row v see = (seen_phase x.about.phase (x.held ++ bytes) v
          (subst (λ (o : Option Client). Sees o v) (changed_here c (with_held (x.held ++ bytes)) s.clients x here) see)).1

      only : (n : ℕ) (v : Seen) → Sees ((to_client c (with_held (x.held ++ bytes)) s).clients n) v → IsOf l v.phase
          → (c ≡ n) ⊎ (c ≡ n → ⊥) → n ≡ c
      only n v see of2 (inl same) = sym same
      only n v see of2 (inr apart) =
          h.only n v (subst (λ (o : Option Client). Sees o v) (changed_other c n (with_held (x.held ++ bytes)) s.clients apart) see) of2

-- ---- the step of a stream that was born before
read_by : (c : ℕ) (e : Entry) → IsNoRead c e ⊎ ((bytes : List ℕ) × (e ≡ Read c bytes))
read_by c (Read n bytes) = go (cases_eq n c)
  where
    go : (n ≡ c) ⊎ (n ≡ c → ⊥) → (n ≢ c) ⊎ ((more : List ℕ) × (Read n bytes ≡ Read c more))
    go (inl same) = inr (bytes, ap (λ k. Read k bytes) same)
    go (inr apart) = inl apart
read_by c _ = inl tt

module _ (l : ℕ) (b : Birth) (older : History) (h : IsCarried l b older) where
  -- its client does not read
  apart_carried : (e : Entry) → IsLegal (e ∷ older) → IsNoRead b.client e → IsCarried l b (e ∷ older)
  apart_carried e legal none = record {
    head = omega (arith, h.head, ap length (no_read b.client e older none));
    rises = subst (λ (r : List ℕ). Rises l b.link b.client r (state (e ∷ older)) (told (e ∷ older))) (sym (rest_same l b e older none))
        (step_climbs (rises_climbs l b.link b.client (rest_of l b older)) e (state older) (told older)
        (begins_rises l b.link b.client (rest_of l b older) (state older) (told older) h.rises e (all_owned older legal.0) none));
  }

  module _ (bytes : List ℕ) (legal : IsLegal (Read b.client bytes ∷ older)) where
    abbrev e : Entry
    e = Read b.client bytes

    head_more : b.head ≤ length (bytes_read b.client (Read b.client bytes ∷ older))
    head_more = omega (arith, h.head, ap length (read_here b.client bytes older), length-append (bytes_read b.client older) bytes)

    -- it has ended
    ended_carried : (ending : Ending) → ending_of l older ≡ Some ending → IsCarried l b (Read b.client bytes ∷ older)
    ended_carried ending is = record {
      head = head_more;
      rises = subst (λ (r : List ℕ). Rises l b.link b.client r (state (e ∷ older)) (told (e ∷ older)))
          (sym (rest_ended l b e older ending is))
          (step_climbs (rises_climbs l b.link b.client (rest_of l b older)) e (state older) (told older)
          (reads_rises l b.link b.client (rest_of l b older) (state older) (told older) h.rises b.client bytes away));
    }
      where
        away : (x : Client) → (state older).clients b.client ≡ Some x → IsOf l x.about.phase → ⊥
        away x here of =
            let v = row_seen l b.link b.client (rest_of l b older) (state older) (told older) h.rises b.client x here of in
            let clash : Some ending ≡ None = sym is ∙ (h.rises.held v.0 v.1 v.2).0 in
            cc

    -- it lives
    module _ (lives : ending_of l older ≡ None) where
      rest_more : rest_of l b older ++ bytes ≡ drop b.head (bytes_read b.client (Read b.client bytes ∷ older))
      rest_more = ap (λ y. y ++ bytes) (rest_before l b e older lives)
          ∙ (sym (drop-append-le b.head (bytes_read b.client older) bytes h.head) ∙ ap (drop b.head) (sym (read_here b.client bytes older)))

      -- and its client does not hold for it
      idle_carried : ((x : Client) → (state older).clients b.client ≡ Some x → IsOf l x.about.phase → ⊥)
          → IsCarried l b (Read b.client bytes ∷ older)
      idle_carried away = record { head = head_more; rises = go (ending_in l (told_at e older)) refl }
        where
          before : Rises l b.link b.client (rest_of l b older) (state (Read b.client bytes ∷ older)) (told (Read b.client bytes ∷ older))
          before = step_climbs (rises_climbs l b.link b.client (rest_of l b older)) e (state older) (told older)
              (reads_rises l b.link b.client (rest_of l b older) (state older) (told older) h.rises b.client bytes away)

          after : Rises l b.link b.client (rest_of l b older ++ bytes) (state (Read b.client bytes ∷ older))
              (told (Read b.client bytes ∷ older))
          after = step_climbs (rises_climbs l b.link b.client (rest_of l b older ++ bytes)) e (state older) (told older)
              (reads_rises l b.link b.client (rest_of l b older ++ bytes) (state older) (told older)
              (more_rises l b.link b.client (rest_of l b older) (state older) (told older) h.rises bytes lives away) b.client bytes away)

          go : (o : Option Ending) → ending_in l (told_at e older) ≡ o
              → Rises l b.link b.client (rest_of l b (e ∷ older)) (state (e ∷ older)) (told (e ∷ older))
          go None none = subst (λ (r : List ℕ). Rises l b.link b.client r (state (e ∷ older)) (told (e ∷ older)))
              (rest_more ∙ sym (rest_lives l b e older lives none)) after
          go (Some ending) now = subst (λ (r : List ℕ). Rises l b.link b.client r (state (e ∷ older)) (told (e ∷ older)))
              (rest_before l b e older lives ∙ sym (rest_ends l b e older ending lives now)) before

      -- and its client holds it
      held_carried : (x : Client) → (state older).clients b.client ≡ Some x → IsOf l x.about.phase
          → IsCarried l b (Read b.client bytes ∷ older)
      held_carried x here of = record {
        head = head_more;
        rises = subst (λ (r : List ℕ). Rises l b.link b.client r (state (e ∷ older)) (told (e ∷ older)))
            (rest_more ∙ sym (rest_lives l b e older lives none))
            (step_climbs (rises_climbs l b.link b.client (rest_of l b older ++ bytes)) e (state older) (told older) begins);
      }
        where
          taken : State
          taken = to_client b.client (with_held (x.held ++ bytes)) (state older)

          now : Rises l b.link b.client (rest_of l b older ++ bytes)
              (to_client b.client (with_held (x.held ++ bytes)) (state older)) (told older)
          now = held_rises l b.link b.client (rest_of l b older) (state older) (told older) h.rises bytes x here of

          by_phase : (phase : Phase) → IsOf l phase
              → ReadsIn (rises_climbs l b.link b.client (rest_of l b older ++ bytes)) (state older) (told older) phase b.client bytes x
          by_phase (Opening k) same = now
          by_phase (Streaming k) same = now
          by_phase _ same = absurd same

          begins : Begins (rises_climbs l b.link b.client (rest_of l b older ++ bytes)) (Read b.client bytes) (state older) (told older)
          begins = subst
              (λ (o : Option Client). ReadsOf (rises_climbs l b.link b.client (rest_of l b older ++ bytes))
              (state older) (told older) o b.client bytes)
              (sym here) (by_phase x.about.phase of)

          rule_is : (phase : Phase) → IsOf l phase
              → reads_in phase b.client bytes x (state older) ≡ quietly (to_client b.client (with_held (x.held ++ bytes)) (state older))
          rule_is (Opening k) same = refl
          rule_is (Streaming k) same = refl
          rule_is _ same = absurd same

          made : rule (Read b.client bytes) (state older) ≡ quietly (to_client b.client (with_held (x.held ++ bytes)) (state older))
          made = ap (λ (o : Option Client). reads_from o b.client bytes (state older)) here ∙ rule_is x.about.phase of

          none : ending_in l (told_at (Read b.client bytes) older) ≡ None
          none = ap (λ (m : Made). ending_in l (m.told ++ (ups m.state).told)) made
              ∙ up_all_lives (state older).drawn l (to_client b.client (with_held (x.held ++ bytes)) (state older))
              (read_lasts l b.client bytes older legal.0 x here of)

      live_carried : IsCarried l b (Read b.client bytes ∷ older)
      live_carried = go ((state older).clients b.client) refl
        where
          none : (x : Client) → (state older).clients b.client ≡ None → (state older).clients b.client ≡ Some x → ⊥
          none x is here = let clash : None ≡ Some x = sym is ∙ here in cc

          same_row : (x y : Client) → (state older).clients b.client ≡ Some x → (state older).clients b.client ≡ Some y → x ≡ y
          same_row x y is here = let both : Some x ≡ Some y = sym is ∙ here in cc

          by : (x : Client) → (state older).clients b.client ≡ Some x → (phase : Phase) → x.about.phase ≡ phase
              → IsCarried l b (Read b.client bytes ∷ older)
          by x is (Opening k) f = at (cases_eq k l)
            where
              at : (k ≡ l) ⊎ (k ≡ l → ⊥) → IsCarried l b (Read b.client bytes ∷ older)
              at (inl same) = held_carried x is (subst (IsOf l) (sym f) same)
              at (inr apart) =
                  idle_carried (λ y here of. apart
                  (subst (IsOf l) (ap (λ (z : Client). z.about.phase) (sym (same_row x y is here)) ∙ f) of))
          by x is (Streaming k) f = at (cases_eq k l)
            where
              at : (k ≡ l) ⊎ (k ≡ l → ⊥) → IsCarried l b (Read b.client bytes ∷ older)
              at (inl same) = held_carried x is (subst (IsOf l) (sym f) same)
              at (inr apart) =
                  idle_carried (λ y here of. apart
                  (subst (IsOf l) (ap (λ (z : Client). z.about.phase) (sym (same_row x y is here)) ∙ f) of))
          by x is _ f = idle_carried (λ y here of. subst (IsOf l) (ap (λ (z : Client). z.about.phase) (sym (same_row x y is here)) ∙ f) of)

          go : (o : Option Client) → (state older).clients b.client ≡ o → IsCarried l b (Read b.client bytes ∷ older)
          go None is = idle_carried (λ x here of. none x is here)
          go (Some x) is = by x is x.about.phase refl

    own_carried : IsCarried l b (Read b.client bytes ∷ older)
    own_carried = go (ending_of l older) refl
      where
        go : (o : Option Ending) → ending_of l older ≡ o → IsCarried l b (Read b.client bytes ∷ older)
        go None lives = live_carried lives
        go (Some ending) is = ended_carried ending is

  old_carried : (e : Entry) → IsLegal (e ∷ older) → IsCarried l b (e ∷ older)
  old_carried e legal = go (read_by b.client e)
    where
      go : IsNoRead b.client e ⊎ ((bytes : List ℕ) × (e ≡ Read b.client bytes)) → IsCarried l b (e ∷ older)
      go (inl none) = apart_carried e legal none
      go (inr own) = subst (λ (x : Entry). IsCarried l b (x ∷ older)) (sym own.1)
          (own_carried own.0 (subst (λ (x : Entry). IsLegal (x ∷ older)) own.1 legal))

-- ---- all streams
pub all_carried : (h : History) → IsLegal h → (l : ℕ) (b : Birth) → born l h ≡ Some b → IsCarried l b h
all_carried [] legal l b is = absurd (let drawn = born_drawn l b [] (all_births [] legal) is in omega (arith, drawn.0, drawn.1))
all_carried (e ∷ older) legal l b is = go (born_before l b e older is) (λ was. all_carried older legal.0 l b was)
  where
    go : (born l older ≡ Some b) ⊎ IsNew l b e older → (born l older ≡ Some b → IsCarried l b older) → IsCarried l b (e ∷ older)
    go (inl was) before = old_carried l b older (before was) e legal
    go (inr new) before = carried_new l b e older legal (all_births older legal.0, all_births (e ∷ older) legal) is new
