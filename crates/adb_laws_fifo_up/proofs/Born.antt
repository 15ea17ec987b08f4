-- A stream that is born: nothing of it went up, and its client holds what it wrote past its requests.
use Rattle.std.proofs.Common.{◌≡◌, ℕ, ◌+◌, ◌<◌, ◌≤◌, Bool, true, false, cond, List, [], ◌∷◌, ◌++◌, length, drop, Option, Some, None, refl}
use Rattle.std.proofs.Common.{sym, ap, subst, ◌∙◌, arith, ◌⊎◌, inl, inr, eqb}
use Rattle.std.proofs.lemmas.Bool.{eq-eqb, cases_eq}
use Rattle.adb_outside.specs.Tables.{Rows}
use Rattle.adb_stream.specs.declared.row.Stream.{Stream}
use Rattle.adb_client.specs.declared.phase.Phase.{Phase}
use Rattle.adb_client.specs.declared.phase.Phase.TheVariants.{Asking, Opening}
use Rattle.adb_capture.specs.declared.entry.Entry.{Entry}
use Rattle.adb_capture.specs.declared.entry.Entry.TheVariants.{Enter, Read}
use Rattle.adb_history.specs.Rows.{Client, new_client, to_client}
use Rattle.adb_history.specs.Events.{ending_in}
use Rattle.adb_history.specs.declared.ending.Ending.{Ending}
use Rattle.adb_history.specs.declared.ending.Ending.TheVariants.{ClientClosed}
use Rattle.adb_history.specs.Asking.{Asked, asks_with}
use Rattle.adb_history.specs.Reading.{comes, asked_before, has_asked}
use Rattle.adb_history.specs.Machine.{History, state, told, told_at, May, IsLegal}
use Rattle.adb_history.specs.Bytes.{bytes_read}
use Rattle.adb_history.specs.Book.{book, devices, forwards, asked, newly, asked_with, is_asking}
use Rattle.adb_history.specs.Births.{Birth, birth_by, births_at, born}
use Rattle.adb_history.specs.Lives.{ending_of, rest_of}
use Rattle.adb_history.specs.Fifo.{HasBirths}
use Rattle.adb_history.specs.Owned.{IsOwned}
use Rattle.adb_history.specs.Moves.{IsClientIn}
use Rattle.adb_history.proofs.Following.{changed_here, changed_other}
use Rattle.adb_history.proofs.Numbers.{counted}
use Rattle.adb_history.proofs.OwnedStep.{all_owned}
use Rattle.adb_history.proofs.Booked.{asks_now, asks_in}
use Rattle.adb_history.proofs.BookReads.{newly_same}
use Rattle.adb_history.proofs.BookTurns.{all_unheard}
use Rattle.adb_history.proofs.Books.{booked}
use Rattle.adb_laws_fifo_up.specs.Seen.{Seen, Sees, IsOf}
use Rattle.adb_laws_fifo_up.specs.Rising.{Rises}
use Rattle.adb_laws_fifo_up.specs.Carrying.{IsCarried}
use Rattle.adb_laws_fifo_up.proofs.Seeing.{seen_phase, none_unseen, ending_or}
use Rattle.adb_laws_fifo_up.proofs.BirthSteps.{Has, IsNew, none_in, born_by, born_drawn, new_above}
use Rattle.adb_laws_fifo_up.proofs.Inputs.{asked_is_read, ReadsOn, reads_on}
use Rattle.adb_laws_fifo_up.proofs.Lasts.{has_stream}
use Rattle.adb_laws_fifo_up.proofs.Lived.{ending_now, rest_lives}
use Rattle.adb_laws_fifo_up.proofs.RuleClimbs.{Begins, ReadsOf, ReadsIn, step_climbs}
use Rattle.adb_laws_fifo_up.proofs.Starts.{Starts, starts_climbs}
use Rattle.adb_laws_fifo_up.proofs.Unborn.{all_unborn}

-- ---- what is kept of a stream that was born
module _ (l : ℕ) (b : Birth) (h : History) (has : HasBirths h) (is : born l h ≡ Some b) where
  pub kept_mine : (y : Stream) → (state h).streams l ≡ Some y → (y.link ≡ b.link) × (y.client ≡ b.client)
  kept_mine y there =
      let kept = has.kept l y there in
      let same : kept.birth ≡ b = (let both : Some kept.birth ≡ Some b = sym kept.is ∙ is in cc) in
      (kept.link ∙ ap (λ (x : Birth). x.link) same, kept.client ∙ ap (λ (x : Birth). x.client) same)

  pub kept_only : IsOwned (state h) → (n : ℕ) (v : Seen) → Sees ((state h).clients n) v → IsOf l v.phase → n ≡ b.client
  kept_only owned n v see of = go ((state h).clients n) refl
    where
      go : (o : Option Client) → (state h).clients n ≡ o → n ≡ b.client
      go None e = absurd (none_unseen v (subst (λ (o : Option Client). Sees o v) e see))
      go (Some x) e =
          let phase = (seen_phase x.about.phase x.held v (subst (λ (o : Option Client). Sees o v) e see)).0 in
          let own = has_stream (state h) owned l n x e (subst (IsOf l) phase of) in
          sym own.client ∙ (kept_mine own.stream own.is).1

-- ---- before a stream is born
module _ (l c : ℕ) (rest : List ℕ) (older : History) (legal : IsLegal older) (above : (state older).drawn < l) where
  not_of : (n : ℕ) (v : Seen) → Sees ((state older).clients n) v → IsOf l v.phase → ⊥
  not_of n v see of = go ((state older).clients n) refl
    where
      go : (o : Option Client) → (state older).clients n ≡ o → ⊥
      go None e = none_unseen v (subst (λ (o : Option Client). Sees o v) e see)
      go (Some x) e =
          let phase = (seen_phase x.about.phase x.held v (subst (λ (o : Option Client). Sees o v) e see)).0 in
          let own = has_stream (state older) (all_owned older legal) l n x e (subst (IsOf l) phase of) in
          let clash : None ≡ Some own.stream = sym ((all_unborn older legal l).none above) ∙ own.is in
          cc

  -- who comes or reads has no stream yet
  start_with : (clients : Rows (Option Client)) → (joined : ℕ) → ((n : ℕ) (v : Seen) → Sees (clients n) v → IsOf l v.phase → ⊥)
      → ((v : Seen) → Sees (clients c) v → (v.phase ≡ Asking) ⊎ (v.phase ≡ Opening l) → v.held ≡ rest)
      → Starts l c rest (record (state older) { clients = clients; joined = joined }) (told older)
  start_with clients joined none held =
      let un = all_unborn older legal l in
      record {
        quiet = (un.silent above).carries;
        dry = un.dry above;
        not_closed = λ e. (let clash : None ≡ Some ClientClosed = sym (un.silent above).lives ∙ e in cc);
        none = λ _. un.none above;
        lives = λ _. (un.silent above).lives;
        unseen = λ _ n v see of. none n v see of;
        own = λ y e. absurd (let clash : None ≡ Some y = sym (un.none above) ∙ e in cc);
        waits = λ n v see of. absurd (none n v see of);
        held = held;
      }

-- a client that did not come yet wrote nothing
nothing_read : (older : History) → IsLegal older → (c : ℕ) → (state older).joined < c → bytes_read c older ≡ []
nothing_read older legal c above =
    let un = all_unheard older legal c (omega (arith, above, (counted older).joined)) in
    sym (asked_is_read c older un.ended) ∙ un.input

-- ---- it comes through a forward
module _ (l c port : ℕ) (older : History) (legal : IsLegal older) (above : (state older).drawn < l)
    (may : May (state older) (Enter c port)) where
  not_come : (v : Seen) → Sees ((state older).clients c) v → ⊥
  not_come v see = none_unseen v (subst (λ (o : Option Client). Sees o v)
      ((all_owned older legal).rows.clients.above c (omega (arith, may.1))) see)

  new_seen : (n : ℕ) (v : Seen) → Sees ((comes true c (state older)).clients n) v
      → Sees ((state older).clients n) v ⊎ ((v.phase ≡ Asking) × (v.held ≡ []))
  new_seen n v see = go (eqb c n) see
    where
      go : (x : Bool) → Sees (cond x (Some (new_client true c)) ((state older).clients n)) v
          → Sees ((state older).clients n) v ⊎ ((v.phase ≡ Asking) × (v.held ≡ []))
      go true h = inr (seen_phase Asking [] v h)
      go false h = inl h

  pub begins_enter : Begins (starts_climbs l c []) (Enter c port) (state older) (told older)
  begins_enter = (
    start_with l c [] older legal above (comes true c (state older)).clients ((state older).joined + 1)
        (λ n v see of. none v n of (new_seen n v see))
        (λ v see phase. held v (new_seen c v see)),
    start_with l c [] older legal above (state older).clients ((state older).joined + 1)
        (λ n v see of. not_of l c [] older legal above n v see of)
        (λ v see phase. absurd (not_come v see)),
  )
    where
      none : (v : Seen) (n : ℕ) → IsOf l v.phase → Sees ((state older).clients n) v ⊎ ((v.phase ≡ Asking) × (v.held ≡ [])) → ⊥
      none v n of (inl see) = not_of l c [] older legal above n v see of
      none v n of (inr new) = subst (IsOf l) new.0 of

      held : (v : Seen) → Sees ((state older).clients c) v ⊎ ((v.phase ≡ Asking) × (v.held ≡ [])) → v.held ≡ []
      held v (inl see) = absurd (not_come v see)
      held v (inr new) = new.1

-- ---- it is asked for
module _ (c : ℕ) (bytes : List ℕ) (older : History) (legal : IsLegal older) (on : (state older).stopped ≡ false) (b : Birth)
    (now : Has (births_at (Read c bytes) older) b) where
  -- its client asks
  asking : is_asking c older (book older) ≡ true
  asking = go (is_asking c older (book older)) refl
    where
      go : (x : Bool) → is_asking c older (book older) ≡ x → x ≡ true
      go true e = refl
      go false e =
          let same : asked c (Read c bytes ∷ older) ≡ asked c older =
          ap (λ (y : Bool). cond y
          (asked_with (is_asking c older (book older)) (devices older) (forwards older) bytes (asked c older))
          (asked c older))
          (eq-eqb c c refl)
          ∙ ap (λ (y : Bool). asked_with y (devices older) (forwards older) bytes (asked c older)) e in
          let none : newly (asked c older).next (asked c (Read c bytes ∷ older)).next ≡ None =
          ap (λ (q : Asked). newly (asked c older).next q.next) same ∙ newly_same (asked c older).next in
          absurd (none_in b (subst (λ o. Has (birth_by c (asked c (Read c bytes ∷ older)).used older o) b) none now))

  pub reader : IsClientIn (state older) c Asking
  reader = go ((state older).clients c) refl (((booked older legal).clients on c).asks ∙ asking)
    where
      by : (x : Client) → (state older).clients c ≡ Some x → (phase : Phase) → x.about.phase ≡ phase → asks_in x.about.phase ≡ true
          → IsClientIn (state older) c Asking
      by x is Asking e f = record { client = x; here = is; in_phase = e }
      by x is _ e f = absurd (let clash : false ≡ true = sym (ap asks_in e) ∙ f in cc)

      go : (o : Option Client) → (state older).clients c ≡ o → asks_now ((state older).clients c) ≡ true → IsClientIn (state older) c Asking
      go None is e = absurd (let clash : false ≡ true = sym (ap asks_now is) ∙ e in cc)
      go (Some x) is e = by x is x.about.phase refl (sym (ap asks_now is) ∙ e)

  pub reads : ReadsOn c bytes older reader.client
  reads = reads_on c bytes older legal on reader.client reader.here reader.in_phase

  -- what it asked with these bytes
  abbrev pub rest_read : List ℕ
  rest_read = drop (asked c (Read c bytes ∷ older)).used (bytes_read c (Read c bytes ∷ older))

  module _ (l : ℕ) (above : (state older).drawn < l) where
    abbrev q : Asked
    q = asks_with (state older).devices (state older).forwards bytes (asked_before reader.client)

    asked_seen : (n : ℕ) (v : Seen) → Sees ((to_client c (has_asked q) (state older)).clients n) v
        → ((c ≡ n → ⊥) × Sees ((state older).clients n) v) ⊎ ((v.phase ≡ Asking) × (v.held ≡ q.rest))
    asked_seen n v see = go (cases_eq c n)
      where
        row : (to_client c (has_asked q) (state older)).clients c ≡ has_asked q reader.client
        row = changed_here c (has_asked q) (state older).clients reader.client reader.here

        go : (c ≡ n) ⊎ (c ≡ n → ⊥) → ((c ≡ n → ⊥) × Sees ((state older).clients n) v) ⊎ ((v.phase ≡ Asking) × (v.held ≡ q.rest))
        go (inl same) =
            let here : Sees ((to_client c (has_asked q) (state older)).clients c) v =
            subst (λ (k : ℕ). Sees ((to_client c (has_asked q) (state older)).clients k) v) (sym same) see in
            let both = seen_phase reader.client.about.phase q.rest v (subst (λ (o : Option Client). Sees o v) row here) in
            inr (both.0 ∙ reader.in_phase, both.1)
        go (inr apart) =
            inl (
              apart,
              subst (λ (o : Option Client). Sees o v)
                  (changed_other c n (has_asked q) (state older).clients apart) see,
            )

    pub begins_read : Begins (starts_climbs l c rest_read) (Read c bytes) (state older) (told older)
    begins_read =
        subst (λ (o : Option Client). ReadsOf (starts_climbs l c rest_read) (state older) (told older) o c bytes) (sym reader.here)
        (subst (λ (p : Phase). ReadsIn (starts_climbs l c rest_read) (state older) (told older) p c bytes
        reader.client) (sym reader.in_phase)
        (start_with l c rest_read older legal above (to_client c (has_asked q) (state older)).clients (state older).joined
        (λ n v see of. none v n of (asked_seen n v see)) (λ v see phase. held v phase (asked_seen c v see))))
      where
        none : (v : Seen) (n : ℕ) → IsOf l v.phase → ((c ≡ n → ⊥) × Sees ((state older).clients n) v)
            ⊎ ((v.phase ≡ Asking) × (v.held ≡ q.rest)) → ⊥
        none v n of (inl see) = not_of l c rest_read older legal above n v see.1 of
        none v n of (inr new) = subst (IsOf l) new.0 of

        rest_is : q.rest ≡ rest_read
        rest_is = reads.rest ∙ reads.unused.rest

        held : (v : Seen) → (v.phase ≡ Asking) ⊎ (v.phase ≡ Opening l)
            → ((c ≡ c → ⊥) × Sees ((state older).clients c) v) ⊎ ((v.phase ≡ Asking) × (v.held ≡ q.rest)) → v.held ≡ rest_read
        held v phase (inr new) = new.1 ∙ rest_is
        held v phase (inl see) = absurd (see.0 refl)

-- ---- the step
module _ (l : ℕ) (b : Birth) (e : Entry) (older : History) (legal : IsLegal (e ∷ older)) (has : HasBirths (e ∷ older))
    (is : born l (e ∷ older) ≡ Some b)
    (above : (state older).drawn < l) where
  -- it has ended by this entry too, or not
  carried_from : b.head ≤ length (bytes_read b.client (e ∷ older)) → (rest : List ℕ) → rest ≡ drop b.head (bytes_read b.client (e ∷ older))
      → Starts l b.client rest (state (e ∷ older)) (told (e ∷ older)) → IsCarried l b (e ∷ older)
  carried_from head rest rest_is h = record { head = head; rises = rises (ending_in l (told_at e older)) refl }
    where
      before : ending_of l older ≡ None
      before = ((all_unborn older legal.0 l).silent above).lives

      all : ending_of l (e ∷ older) ≡ ending_or None (ending_in l (told_at e older))
      all = ending_now l e older ∙ ap (λ o. ending_or o (ending_in l (told_at e older))) before

      with_rest : (r : List ℕ)
          → ((v : Seen) → Sees ((state (e ∷ older)).clients b.client) v → IsOf l v.phase → ending_of l (e ∷ older) ≡ None → v.held ≡ r)
          → Rises l b.link b.client r (state (e ∷ older)) (told (e ∷ older))
      with_rest r held = record {
        born = (born_drawn l b (e ∷ older) has is).1;
        mine = kept_mine l b (e ∷ older) has is;
        only = kept_only l b (e ∷ older) has is (all_owned (e ∷ older) legal);
        held = λ v see of.
            let wait = h.waits b.client v see of in
            (wait.1, ap (λ x. x ++ v.held) (h.quiet b.link) ∙ held v see of wait.1);
        front = (r, ap (λ x. x ++ r) (h.quiet b.link));
        whole = λ f. absurd (h.not_closed f);
      }

      rises : (o : Option Ending) → ending_in l (told_at e older) ≡ o
          → Rises l b.link b.client (rest_of l b (e ∷ older)) (state (e ∷ older)) (told (e ∷ older))
      rises None none = with_rest (rest_of l b (e ∷ older)) (λ v see of lives.
          h.held v see (inr (h.waits b.client v see of).0) ∙ (rest_is ∙ sym (rest_lives l b e older before none)))
      rises (Some ending) now = with_rest (rest_of l b (e ∷ older)) (λ v see of lives.
          absurd (let clash : Some ending ≡ None = sym (all ∙ ap (ending_or None) now) ∙ lives in cc))

pub carried_new : (l : ℕ) (b : Birth) (e : Entry) (older : History) → IsLegal (e ∷ older) → HasBirths older × HasBirths (e ∷ older)
    → born l (e ∷ older) ≡ Some b → IsNew l b e older → IsCarried l b (e ∷ older)
carried_new l b (Enter c port) older legal has is new =
    let by = born_by (Enter c port) older b new.now in
    let above = new_above l b (Enter c port) older has.0 new in
    let none : bytes_read c older ≡ [] = nothing_read older legal.0 c (omega (arith, legal.2.1)) in
    carried_from l b (Enter c port) older legal has.1 is above (omega (arith, by.1)) []
    (sym (ap (λ n. drop n (bytes_read b.client older)) by.1 ∙ (ap (λ n. bytes_read n older) by.0 ∙ none)))
    (subst (λ (n : ℕ). Starts l n [] (state (Enter c port ∷ older)) (told (Enter c port ∷ older))) (sym by.0)
    (step_climbs (starts_climbs l c []) (Enter c port) (state older) (told older) (begins_enter l c port older legal.0 above legal.2)))
carried_new l b (Read c bytes) older legal has is new =
    let by = born_by (Read c bytes) older b new.now in
    let above = new_above l b (Read c bytes) older has.0 new in
    let on = reads c bytes older legal.0 legal.2.0 b new.now in
    let rest = rest_read c bytes older legal.0 legal.2.0 b new.now in
    let same : bytes_read b.client (Read c bytes ∷ older) ≡ bytes_read c (Read c bytes ∷ older) =
    ap (λ n. bytes_read n (Read c bytes ∷ older)) by.0 in
    carried_from l b (Read c bytes) older legal has.1 is above (omega (arith, by.1, on.unused.within, ap length same)) rest
    (ap (λ x. drop (asked c (Read c bytes ∷ older)).used x) (sym same)
    ∙ ap (λ n. drop n (bytes_read b.client (Read c bytes ∷ older))) (sym by.1))
    (subst (λ (n : ℕ). Starts l n rest (state (Read c bytes ∷ older)) (told (Read c bytes ∷ older))) (sym by.0)
    (step_climbs (starts_climbs l c rest) (Read c bytes) (state older) (told older)
    (begins_read c bytes older legal.0 legal.2.0 b new.now l above)))
carried_new l b e older legal has is new = absurd (born_by e older b new.now)
