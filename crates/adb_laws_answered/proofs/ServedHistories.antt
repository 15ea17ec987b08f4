-- In every legal history a client that came by itself and asked for a stream is served by it.
use Rattle.std.proofs.Common.{◌≡◌, ◌≢◌, ℕ, ◌≤◌, ◌<◌, zero, suc, min, Bool, true, false, ◌||◌, List, [], ◌∷◌, ◌++◌, length, Option, Some}
use Rattle.std.proofs.Common.{None, refl, sym, ap}
use Rattle.std.proofs.Common.{subst, ◌∙◌}
use Rattle.std.proofs.Common.{append_assoc, arith, eqb, inl, inr, ◌⊎◌}
use Rattle.std.proofs.lemmas.Bool.{eqb-true, eqb-false}
use Rattle.std.specs.Prelude.{slice_get}
use Rattle.adb_client.specs.declared.about.Want.{Want}
use Rattle.adb_client.specs.declared.phase.Phase.TheVariants.{Asking}
use Rattle.adb_reply.specs.declared.answer.Next.{Next}
use Rattle.adb_reply.specs.declared.answer.Next.TheVariants as what
use Rattle.adb_capture.specs.declared.entry.Entry.{Entry}
use Rattle.adb_capture.specs.declared.entry.Entry.TheVariants.{Join, Enter, Read, Bound}
use Rattle.adb_history.specs.Rows.{Client}
use Rattle.adb_history.specs.Events.{Made, Event}
use Rattle.adb_history.specs.Streams.{stream_ids}
use Rattle.adb_history.specs.Asking.{Asked, asks_with}
use Rattle.adb_history.specs.Reading.{asked_before}
use Rattle.adb_history.specs.Machine.{History, state, told, rule, ups, May, IsLegal}
use Rattle.adb_history.specs.Bytes.{has_joined}
use Rattle.adb_history.specs.Book.{asked, newly, book, devices_if, bound_turn}
use Rattle.adb_history.specs.Births.{Birth, birth_by, births_at, births}
use Rattle.adb_history.specs.Fifo.{HasBirths}
use Rattle.adb_history.specs.Tied.{came_count}
use Rattle.adb_history.proofs.Numbers.{counted}
use Rattle.adb_history.proofs.Booked.{said, asks_in, asks_now}
use Rattle.adb_history.proofs.BookTurns.{all_unheard}
use Rattle.adb_history.proofs.BookReads.{newly_same}
use Rattle.adb_history.proofs.Books.{booked}
use Rattle.adb_laws_births.proofs.Born.{all_births}
use Rattle.adb_laws_answered.specs.Heard.{Heard, asks_stream}
use Rattle.adb_laws_answered.specs.Served.{IsDone, IsServed, no_ids_reply, HasNoStream, IsGiven, IsRefused, ServedIn}
use Rattle.adb_laws_answered.proofs.HeardEntries.{joined_below, heard_read}
use Rattle.adb_laws_answered.proofs.HeardAsks.{asks_asking, open_next, heard_now, heard_idle}
use Rattle.adb_laws_answered.proofs.HeardHistories.{all_answers}
use Rattle.adb_laws_answered.proofs.FreshMoves.{all_fresh}
use Rattle.adb_laws_answered.proofs.BornLaws.{IsBirthOf, birth_of, born_more, IsBornNow, still_none, none_unborn}
use Rattle.adb_laws_answered.proofs.ClientTurns.{another_comes, covers_all, client_kept, client_ups}
use Rattle.adb_laws_answered.proofs.ServedClients.{done_client, served_client}
use Rattle.adb_laws_answered.proofs.ServedAsks.{asks_stream_now}

-- a request for a stream
pub record IsOpen (next : Option Next) : Type 0 where
  pub transport : ℕ
  pub service : List ℕ
  pub is : next ≡ Some (what.Open transport service)

pub stream_open : (next : Option Next) → asks_stream next ≡ true → IsOpen next
stream_open (Some (what.Open t service)) e = record { transport = t; service = service; is = refl }
stream_open _ e = absurd (let clash : false ≡ true = e in cc)

pub no_birth : (c head : ℕ) (older : History) (next : Option Next) → asks_stream next ≡ false → birth_by c head older next ≡ []
no_birth c head older (Some (what.Open t service)) e = absurd (let clash : true ≡ false = e in cc)
no_birth c head older _ e = refl

pub none_at : (k : ℕ) (b : Birth) (bs : List Birth) → bs ≡ [] → slice_get bs k ≡ Some b → ⊥
none_at k b bs e is = nothing k (ap (λ (x : List Birth). slice_get x k) (sym e) ∙ is)
  where
    nothing : (k : ℕ) → slice_get (let none : List Birth = [] in none) k ≡ Some b → ⊥
    nothing zero is = cc
    nothing (suc k) is = cc

-- ---- an entry by which a client asks nothing
-- what the entries say of it stays, and no stream of it is born
pub record IsSilent (c : ℕ) (e : Entry) (older : History) : Type 0 where
  pub next : (asked c (e ∷ older)).next ≡ (asked c older).next
  pub replies : (asked c (e ∷ older)).replies ≡ (asked c older).replies
  pub none : (l : ℕ) (b : Birth) → IsBornNow l b e older → b.client ≢ c

-- an entry that has no births of it
pub apart_births : (c : ℕ) (e : Entry) (older : History) → ((n : ℕ) → IsBirthOf e n → n ≢ c) → (l : ℕ) (b : Birth)
    → IsBornNow l b e older → b.client ≢ c
apart_births c e older apart l b new = apart b.client (birth_of e older new.place b new.is)

silent_same : (c : ℕ) (e : Entry) (older : History) → (asked c (e ∷ older)).next ≡ (asked c older).next
    → (asked c (e ∷ older)).replies ≡ (asked c older).replies → ((n : ℕ) → IsBirthOf e n → n ≢ c) → IsSilent c e older
silent_same c e older next replies apart = record { next = next; replies = replies; none = apart_births c e older apart }

pub silent_bound : (c n port : ℕ) (older : History) → IsSilent c (Bound n port) older
silent_bound c n port older = record {
  next = ap (λ (q : Asked). q.next) (go ((book older).waits n));
  replies = ap (λ (q : Asked). q.replies) (go ((book older).waits n));
  none = apart_births c (Bound n port) older (λ m of. absurd of);
}
  where
    go : (o : Option Want) → (bound_turn n port (devices_if (book older).killed older) o (book older)).asked c ≡ asked c older
    go None = refl
    go (Some want) = refl

pub silent_read : (c n : ℕ) (bytes : List ℕ) (older : History) → eqb n c ≡ false → IsSilent c (Read n bytes) older
silent_read c n bytes older e = silent_same c (Read n bytes) older (ap (λ (r : Heard). r.next) (heard_read n c bytes older e))
    (ap (λ (r : Heard). r.replies) (heard_read n c bytes older e)) (λ m of same. eqb-false n c e (sym of ∙ same))

module _ (c : ℕ) (older : History) (legal : IsLegal older) where
  pub silent_idle : (bytes : List ℕ) → May (state older) (Read c bytes) → (said c older).asking ≡ false → IsSilent c (Read c bytes) older
  silent_idle bytes may idle =
      let same = heard_idle c older legal bytes may idle in
      let next : (asked c (Read c bytes ∷ older)).next ≡ (asked c older).next = ap (λ (r : Heard). r.next) same in
      record {
        next = next;
        replies = ap (λ (r : Heard). r.replies) same;
        none = λ l b new. absurd (none_at new.place b (births_at (Read c bytes) older)
            (ap (λ (o : Option Next). birth_by c (asked c (Read c bytes ∷ older)).used older (newly (asked c older).next o)) next
            ∙ ap (λ (o : Option Next). birth_by c (asked c (Read c bytes ∷ older)).used older o) (newly_same (asked c older).next)) new.is);
      }

module _ (c : ℕ) (older : History) (legal : IsLegal older) (came : has_joined c older ≡ true) where
  below : c ≤ (state older).joined
  below = let le = joined_below older legal c came in omega (arith, le, (counted older).joined)

  -- what is served stays
  silent_served : (e : Entry) → May (state older) e → IsSilent c e older → (b : Bool) → ServedIn b c older → ServedIn b c (e ∷ older)
  silent_served e may silent false none = still_none c e older silent.none none
  silent_served e may silent true (inl g) =
      let kept = client_kept (served_client c g.stream (asked c older).replies) (state older) (told older) e
      (another_comes c 0 (state older) e (below, omega arith) may) (covers_all e) may (g.heard, g.served) in
      inl (record {
        stream = g.stream;
        birth = g.birth;
        born = born_more g.stream g.birth e older g.born;
        client = g.client;
        alone = g.alone;
        heard = kept.0;
        served = subst (λ (x : List ℕ). IsServed kept.0 c g.stream x (state (e ∷ older)) (told (e ∷ older))) (sym silent.replies) kept.1;
      })
  silent_served e may silent true (inr r) =
      inr (record {
        none = still_none c e older silent.none r.none;
        done = subst (λ (x : List ℕ). IsDone c (x ++ no_ids_reply) (state (e ∷ older)) (told (e ∷ older))) (sym silent.replies)
            (client_kept (done_client c ((asked c older).replies ++ no_ids_reply)) (state older) (told older) e
            (another_comes c 0 (state older) e (below, omega arith) may) (covers_all e) may r.done);
      })

  abbrev Before : Type 0
  Before = ServedIn (asks_stream (asked c older).next) c older

  abbrev After_with : Entry → Type 0
  After_with e = ServedIn (asks_stream (asked c (e ∷ older)).next) c (e ∷ older)

  served_silent : (e : Entry) → May (state older) e → IsSilent c e older → Before → After_with e
  served_silent e may silent h =
      subst (λ (o : Option Next). ServedIn (asks_stream o) c (e ∷ older)) (sym silent.next)
      (silent_served e may silent (asks_stream (asked c older).next) h)

  -- ---- a client asks
  module _ (bytes : List ℕ) (may : May (state older) (Read c bytes)) (client : Client) (is : (state older).clients c ≡ Some client)
      (asking : client.about.phase ≡ Asking) (drawn : (state older).drawn ≡ min (length (births older)) stream_ids) where
    abbrev now : History
    now = Read c bytes ∷ older

    abbrev ruled : Made
    ruled = rule (Read c bytes) (state older)

    none_before : Before → HasNoStream c older
    none_before h = subst (λ (o : Option Next). ServedIn (asks_stream o) c older) (open_next c older legal bytes may client is asking) h

    -- the up rule behind it
    given_up : IsGiven c now (asked c now).replies ruled.state (told older ++ ruled.told)
        → IsGiven c now (asked c now).replies (state now) (told now)
    given_up g =
        let kept = client_ups (served_client c g.stream (asked c now).replies) ruled.state (told older ++ ruled.told) (g.heard, g.served) in
        record {
          stream = g.stream;
          birth = g.birth;
          born = g.born;
          client = g.client;
          alone = g.alone;
          heard = kept.0;
          served = subst (λ (v : List Event). IsServed kept.0 c g.stream (asked c now).replies (state now) v)
              (append_assoc (told older) ruled.told (ups ruled.state).told) kept.1;
        }

    refused_up : IsRefused c now (asked c now).replies ruled.state (told older ++ ruled.told)
        → IsRefused c now (asked c now).replies (state now) (told now)
    refused_up r = record {
      none = r.none;
      done = subst (λ (v : List Event). IsDone c ((asked c now).replies ++ no_ids_reply) (state now) v)
          (append_assoc (told older) ruled.told (ups ruled.state).told)
          (client_ups (done_client c ((asked c now).replies ++ no_ids_reply)) ruled.state (told older ++ ruled.told) r.done);
    }

    by_next : (b : Bool) → asks_stream (asked c now).next ≡ b → Before → ServedIn b c now
    by_next false e h = still_none c (Read c bytes) older (λ l b new. absurd (none_at new.place b (births_at (Read c bytes) older)
        (ap (λ (o : Option Next). birth_by c (asked c now).used older (newly o (asked c now).next))
        (open_next c older legal bytes may client is asking)
        ∙ no_birth c (asked c now).used older (asked c now).next e) new.is)) (none_before h)
    by_next true e h = go (asks_stream_now c older legal bytes may client is asking request.transport request.service request.is
        (all_answers older legal c came) (all_fresh older legal) came drawn (none_before h))
      where
        request : IsOpen (asks_with (state older).devices (state older).forwards bytes (asked_before client)).next
        request = stream_open (asks_with (state older).devices (state older).forwards bytes (asked_before client)).next
            (ap (λ (r : Heard). asks_stream r.next) (sym (heard_now c older legal bytes may client is asking)) ∙ e)

        go : IsGiven c now (asked c now).replies ruled.state (told older ++ ruled.told)
            ⊎ IsRefused c now (asked c now).replies ruled.state (told older ++ ruled.told) → ServedIn true c now
        go (inl g) = inl (given_up g)
        go (inr r) = inr (refused_up r)

    asks_served : Before → After_with (Read c bytes)
    asks_served h = by_next (asks_stream (asked c now).next) refl h

  module _ (bytes : List ℕ) (may : May (state older) (Read c bytes))
      (drawn : (state older).drawn ≡ min (length (births older)) stream_ids) where
    own_served : Before → After_with (Read c bytes)
    own_served h = go ((state older).clients c) refl
      where
        idle : (said c older).asking ≡ false → After_with (Read c bytes)
        idle e = served_silent (Read c bytes) may (silent_idle c older legal bytes may e) h

        by : (client : Client) → (state older).clients c ≡ Some client → (b : Bool) → asks_in client.about.phase ≡ b
            → After_with (Read c bytes)
        by client is true e = asks_served bytes may client is (asks_asking client.about.phase e) drawn h
        by client is false e = idle (sym ((booked older legal).clients may.0 c).asks ∙ (ap asks_now is ∙ e))

        go : (o : Option Client) → (state older).clients c ≡ o → After_with (Read c bytes)
        go None is = idle (sym ((booked older legal).clients may.0 c).asks ∙ ap asks_now is)
        go (Some client) is = by client is (asks_in client.about.phase) refl

  -- ---- all entries
  enter_apart : (n port : ℕ) → May (state older) (Enter n port) → (m : ℕ) → m ≡ n → m ≢ c
  enter_apart n port may m of same = let le = below in omega (arith, of, same, le, may.1)

  read_served : (n : ℕ) (bytes : List ℕ) → May (state older) (Read n bytes) → HasBirths older → (here : Bool) → eqb n c ≡ here → Before
      → After_with (Read n bytes)
  read_served n bytes may b false e h = served_silent (Read n bytes) may (silent_read c n bytes older e) h
  read_served n bytes may b true e h =
      subst (λ (m : ℕ). After_with (Read m bytes)) (sym (eqb-true n c e))
      (own_served bytes (subst (λ (m : ℕ). May (state older) (Read m bytes)) (eqb-true n c e) may) b.drawn h)

  served_entry : (e : Entry) → May (state older) e → HasBirths older → Before → After_with e
  served_entry (Enter n port) may b h = served_silent (Enter n port) may
      (silent_same c (Enter n port) older refl refl (enter_apart n port may)) h
  served_entry (Read n bytes) may b h = read_served n bytes may b (eqb n c) refl h
  served_entry (Bound n port) may b h = served_silent (Bound n port) may (silent_bound c n port older) h
  served_entry e may b h = served_silent e may (silent_same c e older refl refl (λ m of. absurd of)) h

-- ---- all histories
-- who comes has no stream yet
new_served : (c : ℕ) (older : History) → IsLegal older → May (state older) (Join c)
    → ServedIn (asks_stream (asked c (Join c ∷ older)).next) c (Join c ∷ older)
new_served c older legal may =
    let above : came_count older < c = omega (arith, may.1, (counted older).joined) in
    subst (λ (q : Asked). ServedIn (asks_stream q.next) c (Join c ∷ older)) (sym (all_unheard older legal c above).asked)
    (still_none c (Join c) older (apart_births c (Join c) older (λ m of. absurd of)) (none_unborn older legal c above))

-- In every legal history a client that came by itself and asked for a stream is served by it.
pub all_served : (h : History) → IsLegal h → (c : ℕ) → has_joined c h ≡ true → ServedIn (asks_stream (asked c h).next) c h
all_served [] legal c came = absurd (let clash : false ≡ true = came in cc)
all_served (Join n ∷ older) legal c came =
    go (eqb n c) refl came (λ before. all_served older legal.0 c before)
  where
    go : (here : Bool) → eqb n c ≡ here → (here || has_joined c older) ≡ true
        → (has_joined c older ≡ true → ServedIn (asks_stream (asked c older).next) c older)
        → ServedIn (asks_stream (asked c (Join n ∷ older)).next) c (Join n ∷ older)
    go true e came before =
        subst (λ (k : ℕ). ServedIn (asks_stream (asked c (Join k ∷ older)).next) c (Join k ∷ older)) (sym (eqb-true n c e))
        (new_served c older legal.0 (subst (λ (k : ℕ). May (state older) (Join k)) (eqb-true n c e) legal.2))
    go false e came before = served_entry c older legal.0 came (Join n) legal.2 (all_births older legal.0) (before came)
all_served (e ∷ older) legal c came =
    served_entry c older legal.0 came e legal.2 (all_births older legal.0)
    (all_served older legal.0 c came)
