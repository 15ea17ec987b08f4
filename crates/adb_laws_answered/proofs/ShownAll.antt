-- In every legal history it is known of each stream that a client asked for, whether its client heard that it is open.
use Rattle.std.proofs.Common.{◌≡◌, ℕ, ◌+◌, ◌<◌, zero, suc, min, Bool, true, false, cond, ◌||◌, List, [], ◌∷◌, length, Option, Some, None}
use Rattle.std.proofs.Common.{refl, sym, ap, subst}
use Rattle.std.proofs.Common.{◌∙◌, arith, eqb, inl, inr, ◌⊎◌}
use Rattle.std.proofs.lemmas.Bool.{eqb-true}
use Rattle.std.specs.Prelude.{slice_get}
use Rattle.adb_outside.specs.Tables.{at}
use Rattle.adb_forward.specs.declared.row.ForwardRow.{ForwardRow}
use Rattle.adb_reply.specs.declared.answer.Next.{Next}
use Rattle.adb_client.specs.declared.phase.Phase.TheVariants.{Asking}
use Rattle.adb_capture.specs.declared.entry.Entry.{Entry}
use Rattle.adb_capture.specs.declared.entry.Entry.TheVariants.{Join, Enter, Read, Bound}
use Rattle.adb_history.specs.Rows.{Client}
use Rattle.adb_history.specs.Links.{is_connected, is_credit}
use Rattle.adb_history.specs.Streams.{stream_ids}
use Rattle.adb_history.specs.Asking.{asks_with}
use Rattle.adb_history.specs.Reading.{asked_before}
use Rattle.adb_history.specs.Machine.{History, state, May, IsLegal}
use Rattle.adb_history.specs.Bytes.{has_joined, brought}
use Rattle.adb_history.specs.Book.{asked, newly, devices, forwards}
use Rattle.adb_history.specs.Births.{Birth, birth_by, birth_through, births_at, births, born}
use Rattle.adb_history.specs.Fifo.{HasBirths}
use Rattle.adb_history.specs.Tied.{came_count}
use Rattle.adb_history.proofs.Numbers.{counted}
use Rattle.adb_history.proofs.Booked.{said, asks_in, asks_now}
use Rattle.adb_history.proofs.Books.{booked}
use Rattle.adb_laws_births.proofs.Born.{all_births}
use Rattle.adb_laws_answered.specs.Heard.{Heard, asks_stream}
use Rattle.adb_laws_answered.specs.Served.{ServedIn}
use Rattle.adb_laws_answered.proofs.HeardAsks.{asks_asking, open_next, heard_now}
use Rattle.adb_laws_answered.proofs.BornLaws.{birth_of, born_either, IsBornNow, none_unborn}
use Rattle.adb_laws_answered.proofs.ServedAsks as asks
use Rattle.adb_laws_answered.proofs.ServedHistories.{IsOpen, stream_open, no_birth, none_at, silent_bound, silent_read, silent_idle}
use Rattle.adb_laws_answered.proofs.ServedHistories.{all_served}
use Rattle.adb_laws_answered.proofs.ShownHistories.{IsShownAt}
use Rattle.adb_laws_answered.proofs.ShownSteps.{shown_step}
use Rattle.adb_laws_answered.proofs.ShownBirths.{shown_birth}

-- the births through a forward
through_forward : (c : ℕ) (older : History) (o : Option ForwardRow) (k : ℕ) (b : Birth)
    → slice_get (birth_through c older o) k ≡ Some b → b.forwarded ≡ true
through_forward c older None k b e = absurd (none_at k b (birth_through c older None) refl e)
through_forward c older (Some row) k b e = go (is_connected row.transport (devices older)) k e
  where
    through : Option Birth → Bool
    through None = true
    through (Some b) = b.forwarded

    go : (connected : Bool) (k : ℕ) → slice_get (cond connected (record {
      client = c;
      link = row.transport;
      credit = is_credit row.transport (devices older);
      forwarded = true;
      service = row.remote;
      head = 0;
      packets_before = length (brought row.transport older);
    } ∷ []) []) k ≡ Some b → b.forwarded ≡ true
    go true zero e = ap through (sym e)
    go true (suc zero) e = absurd (let clash : None ≡ Some b = e in cc)
    go true (suc (suc k)) e = absurd (let clash : None ≡ Some b = e in cc)
    go false zero e = absurd (let clash : None ≡ Some b = e in cc)
    go false (suc k) e = absurd (let clash : None ≡ Some b = e in cc)

-- the one element of a list
record IsOnly (x b : Birth) (k : ℕ) : Type 0 where
  pub first : k ≡ 0
  pub same : x ≡ b

only : (x b : Birth) (k : ℕ) → slice_get (x ∷ []) k ≡ Some b → IsOnly x b k
only x b zero e = record { first = refl; same = (let both : Some x ≡ Some b = e in cc) }
only x b (suc zero) e = absurd (let clash : None ≡ Some b = e in cc)
only x b (suc (suc k)) e = absurd (let clash : None ≡ Some b = e in cc)

module _ (l : ℕ) (b : Birth) (older : History) (legal : IsLegal older) where
  -- ---- a stream that was born before
  module _ (came : has_joined b.client older ≡ true) (old : born l older ≡ Some b) where
    asked_stream : asks_stream (asked b.client older).next ≡ true
    asked_stream = go (asks_stream (asked b.client older).next) refl (all_served older legal b.client came)
      where
        go : (v : Bool) → asks_stream (asked b.client older).next ≡ v → ServedIn v b.client older
            → asks_stream (asked b.client older).next ≡ true
        go true e h = e
        go false e h = absurd (h l b old refl)

    -- its client asks no more
    own_replies : (bytes : List ℕ) → May (state older) (Read b.client bytes)
        → (asked b.client (Read b.client bytes ∷ older)).replies ≡ (asked b.client older).replies
    own_replies bytes may = go ((state older).clients b.client) refl
      where
        idle : (said b.client older).asking ≡ false → (asked b.client (Read b.client bytes ∷ older)).replies
            ≡ (asked b.client older).replies
        idle e = (silent_idle b.client older legal bytes may e).replies

        by : (client : Client) → (state older).clients b.client ≡ Some client → (v : Bool) → asks_in client.about.phase ≡ v
            → (asked b.client (Read b.client bytes ∷ older)).replies ≡ (asked b.client older).replies
        by client is true e =
            let none = open_next b.client older legal bytes may client is (asks_asking client.about.phase e) in
            absurd (let clash : true ≡ false = sym asked_stream ∙ ap asks_stream none in cc)
        by client is false e = idle (sym ((booked older legal).clients may.0 b.client).asks ∙ (ap asks_now is ∙ e))

        go : (o : Option Client) → (state older).clients b.client ≡ o
            → (asked b.client (Read b.client bytes ∷ older)).replies ≡ (asked b.client older).replies
        go None is = idle (sym ((booked older legal).clients may.0 b.client).asks ∙ ap asks_now is)
        go (Some client) is = by client is (asks_in client.about.phase) refl

    read_replies : (n : ℕ) (bytes : List ℕ) → May (state older) (Read n bytes) → (here : Bool) → eqb n b.client ≡ here
        → (asked b.client (Read n bytes ∷ older)).replies ≡ (asked b.client older).replies
    read_replies n bytes may false e = (silent_read b.client n bytes older e).replies
    read_replies n bytes may true e =
        subst (λ (m : ℕ). (asked b.client (Read m bytes ∷ older)).replies ≡ (asked b.client older).replies) (sym (eqb-true n b.client e))
        (own_replies bytes (subst (λ (m : ℕ). May (state older) (Read m bytes)) (eqb-true n b.client e) may))

    same_replies : (e : Entry) → May (state older) e → (asked b.client (e ∷ older)).replies ≡ (asked b.client older).replies
    same_replies (Read n bytes) may = read_replies n bytes may (eqb n b.client) refl
    same_replies (Bound n port) may = (silent_bound b.client n port older).replies
    same_replies _ may = refl

  came_before : (e : Entry) → May (state older) e → born l older ≡ Some b → has_joined b.client (e ∷ older) ≡ true
      → has_joined b.client older ≡ true
  came_before (Join n) may old came = go (eqb n b.client) refl came
    where
      go : (here : Bool) → eqb n b.client ≡ here → (here || has_joined b.client older) ≡ true → has_joined b.client older ≡ true
      go true e came =
          let above : came_count older < n = omega (arith, may.1, (counted older).joined) in
          absurd (none_unborn older legal n above l b old (sym (eqb-true n b.client e)))
      go false e came = came
  came_before _ may old came = came

  -- ---- a stream that is born now
  module _ (c : ℕ) (bytes : List ℕ) (may : May (state older) (Read c bytes)) (came : has_joined c older ≡ true)
      (drawn : (state older).drawn ≡ min (length (births older)) stream_ids)
      (new : IsBornNow l b (Read c bytes) older) (same : b.client ≡ c) where
    abbrev now : History
    now = Read c bytes ∷ older

    idle_shown : (said c older).asking ≡ false → IsShownAt l b (Read c bytes ∷ older)
    idle_shown e = absurd ((silent_idle c older legal bytes may e).none l b new same)

    asks_shown : (client : Client) → (state older).clients c ≡ Some client → client.about.phase ≡ Asking → (v : Bool)
        → asks_stream (asked c now).next ≡ v
        → IsShownAt l b (Read c bytes ∷ older)
    asks_shown client is asking false e = absurd (none_at new.place b (births_at (Read c bytes) older)
        (ap (λ (o : Option Next). birth_by c (asked c now).used older (newly o (asked c now).next))
        (open_next c older legal bytes may client is asking)
        ∙ no_birth c (asked c now).used older (asked c now).next e) new.is)
    asks_shown client is asking true e =
        let request : IsOpen (asks_with (state older).devices (state older).forwards bytes (asked_before client)).next =
        stream_open (asks_with (state older).devices (state older).forwards bytes (asked_before client)).next
        (ap (λ (r : Heard). asks_stream r.next) (sym (heard_now c older legal bytes may client is asking)) ∙ e) in
        let x : Birth = asks.birth c older legal bytes may client is asking request.transport request.service request.is in
        let one = only x b new.place (ap (λ (bs : List Birth). slice_get bs new.place)
        (sym (asks.births_now c older legal bytes may client is asking request.transport request.service request.is)) ∙ new.is) in
        let place : (state older).drawn + 1 ≡ l = omega (arith, drawn, new.stream, new.within, one.first) in
        let shown = shown_birth c older legal bytes may client is asking request.transport request.service request.is came drawn
        (λ full. omega (arith, full, drawn, new.within, one.first)) in
        subst (λ (k : ℕ). IsShownAt k b now) place (subst (λ (y : Birth). IsShownAt ((state older).drawn + 1) y now) one.same shown)

    read_shown : IsShownAt l b (Read c bytes ∷ older)
    read_shown = go ((state older).clients c) refl
      where
        by : (client : Client) → (state older).clients c ≡ Some client → (v : Bool) → asks_in client.about.phase ≡ v
            → IsShownAt l b (Read c bytes ∷ older)
        by client is true e = asks_shown client is (asks_asking client.about.phase e) (asks_stream (asked c now).next) refl
        by client is false e = idle_shown (sym ((booked older legal).clients may.0 c).asks ∙ (ap asks_now is ∙ e))

        go : (o : Option Client) → (state older).clients c ≡ o → IsShownAt l b (Read c bytes ∷ older)
        go None is = idle_shown (sym ((booked older legal).clients may.0 c).asks ∙ ap asks_now is)
        go (Some client) is = by client is (asks_in client.about.phase) refl

  new_shown : (e : Entry) → May (state older) e → HasBirths older → b.forwarded ≡ false
      → has_joined b.client (e ∷ older) ≡ true → IsBornNow l b e older
      → IsShownAt l b (e ∷ older)
  new_shown (Read n bytes) may births alone came new =
      let same : b.client ≡ n = birth_of (Read n bytes) older new.place b new.is in
      read_shown n bytes may (subst (λ (m : ℕ). has_joined m older ≡ true) same came) births.drawn new same
  new_shown (Enter n port) may births alone came new =
      let through = through_forward n older (at port (forwards older)) new.place b new.is in
      absurd (let clash : true ≡ false = sym through ∙ alone in cc)
  new_shown e may births alone came new = absurd (birth_of e older new.place b new.is)

entry_shown : (l : ℕ) (b : Birth) (e : Entry) (older : History) → IsLegal (e ∷ older)
    → (born l older ≡ Some b → has_joined b.client older ≡ true → IsShownAt l b older)
    → born l (e ∷ older) ≡ Some b → b.forwarded ≡ false → has_joined b.client (e ∷ older) ≡ true → IsShownAt l b (e ∷ older)
entry_shown l b e older legal before is alone came = go (born_either l b e older is)
  where
    go : (born l older ≡ Some b) ⊎ IsBornNow l b e older → IsShownAt l b (e ∷ older)
    go (inl old) =
        let joined = came_before l b older legal.0 e legal.2 old came in
        shown_step l b e older legal joined (same_replies l b older legal.0 joined old e legal.2) (before old joined)
    go (inr new) = new_shown l b older legal.0 e legal.2 (all_births older legal.0) alone came new

-- In every legal history it is known of each stream that a client asked for.
pub all_shown : (h : History) → IsLegal h → (l : ℕ) (b : Birth) → born l h ≡ Some b → b.forwarded ≡ false
    → has_joined b.client h ≡ true → IsShownAt l b h
all_shown [] legal l b is alone came = absurd (let clash : false ≡ true = came in cc)
all_shown (e ∷ older) legal l b is alone came =
    entry_shown l b e older legal (λ old joined. all_shown older legal.0 l b old alone joined) is alone came
