-- In every legal history a client that did not come by itself is left out, or came through a forward and has a stream.
use Rattle.std.proofs.Common.{◌≡◌, ◌≢◌, ℕ, ◌+◌, Bool, true, false, cond, ◌&&◌, ◌||◌, not, List, [], ◌∷◌, ◌++◌, length, Option, Some, None}
use Rattle.std.proofs.Common.{refl}
use Rattle.std.proofs.Common.{sym, ap, subst, ◌∙◌, append_assoc, arith, eqb, inl, inr, ◌⊎◌, suc}
use Rattle.std.proofs.lemmas.Bool.{eqb-true, eqb-false, eq-eqb}
use Rattle.std.proofs.lemmas.List.{append-nil}
use Rattle.std.specs.Prelude.{option_and_then}
use Rattle.adb_outside.specs.Tables.{at}
use Rattle.adb_registry.specs.Registry.{DeviceTable}
use Rattle.adb_forward.specs.declared.row.ForwardRow.{ForwardRow}
use Rattle.adb_client.specs.declared.phase.Phase.TheVariants.{Closing}
use Rattle.adb_capture.specs.declared.entry.Entry.{Entry}
use Rattle.adb_capture.specs.declared.entry.Entry.TheVariants.{Join, Enter, Read, Attach}
use Rattle.adb_history.specs.Rows.{Client, State, to_client, none_kept}
use Rattle.adb_history.specs.Events.{Made, Event, quietly, owed_to}
use Rattle.adb_history.specs.Links.{is_connected, is_credit}
use Rattle.adb_history.specs.Streams.{stream_ids, asks_for, no_ids_left, opens}
use Rattle.adb_history.specs.Reading.{comes, comes_in_vain, enters_by}
use Rattle.adb_history.specs.Machine.{History, state, told, rule, ups, May, IsLegal}
use Rattle.adb_history.specs.Bytes.{has_joined, has_ended, brought}
use Rattle.adb_history.specs.Book.{asked, still_asks, devices, forwards}
use Rattle.adb_history.specs.Births.{Birth, birth_through, births_at, births}
use Rattle.adb_history.specs.Fifo.{HasBirths}
use Rattle.adb_history.specs.Owned.{IsOwned}
use Rattle.adb_history.proofs.RuleMoves as moves
use Rattle.adb_history.proofs.OwnedStep.{owned_moves, begins_owned, start_owned}
use Rattle.adb_history.proofs.Books.{all_books}
use Rattle.adb_laws_births.proofs.Born.{all_births}
use Rattle.adb_laws_answered.specs.Served.{IsDone, IsEntered, IsLeftOut}
use Rattle.adb_laws_answered.proofs.BornLaws.{IsBirthOf, born_more, born_now, IsBornNow, still_none, none_first}
use Rattle.adb_laws_answered.proofs.ClientTurns.{IsAnother, covers_all, client_kept, client_ups}
use Rattle.adb_laws_answered.proofs.ServedClients.{done_client}
use Rattle.adb_laws_answered.proofs.ServedHistories.{none_at, apart_births, silent_read, silent_idle}

-- left out, or with a stream
abbrev EnteredIn : ℕ → History → Type 0
EnteredIn c h = IsLeftOut c h ⊎ IsEntered c h

-- an entry by which no stream of a client is born
abbrev BearsNone : ℕ → Entry → History → Type 0
BearsNone c e older = (l : ℕ) (b : Birth) → IsBornNow l b e older → b.client ≢ c

module _ (c port : ℕ) (older : History) (legal : IsLegal older) (may : May (state older) (Enter c port)) (births_so : HasBirths older)
    (h : IsLeftOut c older) where
  abbrev s : State
  s = state older

  abbrev w : List Event
  w = told older

  abbrev now : History
  now = Enter c port ∷ older

  ruled_owned : IsOwned (rule (Enter c port) s).state
  ruled_owned = moves.rule_kept owned_moves (Enter c port) s w (begins_owned s h.done.owned (Enter c port) w may)

  -- what follows the rule, where the client is told nothing by it
  done_now : (m : Made) → rule (Enter c port) s ≡ m → ((client : Client) → m.state.clients c ≡ Some client → client.about.phase ≡ Closing)
      → m.told ≡ [] → BearsNone c (Enter c port) older → EnteredIn c now
  done_now m is row none bears_none =
      let ruled : Made = rule (Enter c port) s in
      let done : IsDone c [] ruled.state (w ++ ruled.told) = record {
        owned = ruled_owned;
        row = λ client at_c. row client (ap (λ (x : Made). x.state.clients c) (sym is) ∙ at_c);
        told = ap (λ (t : List Event). owed_to c (w ++ t)) (ap (λ (x : Made). x.told) is ∙ none)
            ∙ (ap (owed_to c) (append-nil w) ∙ h.done.told);
      } in
      inl (record {
        none = still_none c (Enter c port) older bears_none h.none;
        done = subst (λ (v : List Event). IsDone c [] (state now) v) (append_assoc w ruled.told (ups ruled.state).told)
            (client_ups (done_client c []) ruled.state (w ++ ruled.told) done);
      })

  same_forwards : forwards older ≡ s.forwards
  same_forwards = sym (all_books older legal).forwards

  same_devices : devices older ≡ s.devices
  same_devices = sym (all_books older legal).devices

  abbrev birth_of_row : ForwardRow → Birth
  birth_of_row row = record {
    client = c;
    link = row.transport;
    credit = is_credit row.transport (devices older);
    forwarded = true;
    service = row.remote;
    head = 0;
    packets_before = length (brought row.transport older);
  }

  births_through : (o : Option ForwardRow) → at port s.forwards ≡ o → births_at (Enter c port) older ≡ birth_through c older o
  births_through o is = ap (λ (o : Option ForwardRow). birth_through c older o)
      (ap (λ (f : List (ℕ × ForwardRow)). at port f) same_forwards ∙ is)

  births_now : (row : ForwardRow) → at port s.forwards ≡ Some row → (connected : Bool) → is_connected row.transport s.devices ≡ connected
      → births_at (Enter c port) older ≡ cond connected (birth_of_row row ∷ []) []
  births_now row is connected e =
      births_through (Some row) is
      ∙ ap (λ (b : Bool). cond b (birth_of_row row ∷ []) [])
      (ap (λ (d : DeviceTable). is_connected row.transport d) same_devices ∙ e)

  -- no birth, or no id for it
  without_birth : births_at (Enter c port) older ≡ [] → BearsNone c (Enter c port) older
  without_birth e l b new = absurd (none_at new.place b (births_at (Enter c port) older) e new.is)

  without_ids : s.drawn ≡ stream_ids → BearsNone c (Enter c port) older
  without_ids all l b new = absurd (omega (arith, births_so.drawn, all, new.within))

  -- the stream is drawn
  entered_now : (row : ForwardRow) → at port s.forwards ≡ Some row → is_connected row.transport s.devices ≡ true
      → s.drawn ≢ stream_ids → EnteredIn c now
  entered_now row is connected some = inr (record {
    stream = suc (length (births older));
    birth = birth_of_row row;
    born = born_now (birth_of_row row) [] (Enter c port) older (births_now row is true connected) (omega (arith, births_so.drawn, some));
    client = refl;
    forwarded = refl;
  })

  vain : rule (Enter c port) s ≡ quietly (comes_in_vain s) → births_at (Enter c port) older ≡ [] → EnteredIn c now
  vain is none = done_now (quietly (comes_in_vain s)) is h.done.row refl (without_birth none)

  by_ids : (row : ForwardRow) → at port s.forwards ≡ Some row → is_connected row.transport s.devices ≡ true
      → (b : Bool) → eqb s.drawn stream_ids ≡ b
      → EnteredIn c now
  by_ids row is connected false e = entered_now row is connected (eqb-false s.drawn stream_ids e)
  by_ids row is connected true e =
      let came : State = comes true c s in
      done_now (quietly (to_client c none_kept came))
      (ap (λ (o : Option ForwardRow). enters_by c o s) is
      ∙ (ap (λ (b : Bool). cond b (opens true c row.transport row.remote came) (quietly (comes_in_vain s))) connected
      ∙ ap (λ (b : Bool). cond b (no_ids_left true c came) (asks_for (s.drawn + 1) c row.transport row.remote came)) e))
      (λ client at_c. absurd (gone (came.clients c) client
      (sym (ap (λ (b : Bool). cond b (option_and_then none_kept (came.clients c)) (came.clients c)) (eq-eqb c c refl)) ∙ at_c))) refl
      (without_ids (eqb-true s.drawn stream_ids e))
    where
      gone : (o : Option Client) (client : Client) → option_and_then none_kept o ≡ Some client → ⊥
      gone None client e = let clash : None ≡ Some client = e in cc
      gone (Some x) client e = let clash : None ≡ Some client = e in cc

  enters_so : EnteredIn c now
  enters_so = go (at port s.forwards) refl
    where
      by : (row : ForwardRow) → at port s.forwards ≡ Some row → (b : Bool) → is_connected row.transport s.devices ≡ b → EnteredIn c now
      by row is true e = by_ids row is e (eqb s.drawn stream_ids) refl
      by row is false e = vain (ap (λ (o : Option ForwardRow). enters_by c o s) is
          ∙ ap (λ (b : Bool). cond b (opens true c row.transport row.remote (comes true c s)) (quietly (comes_in_vain s))) e)
          (births_now row is false e)

      go : (o : Option ForwardRow) → at port s.forwards ≡ o → EnteredIn c now
      go None is = vain (ap (λ (o : Option ForwardRow). enters_by c o s) is) (births_through None is)
      go (Some row) is = by row is (is_connected row.transport s.devices) refl

module _ (c : ℕ) (older : History) (legal : IsLegal older) where
  entered_by : (e : Entry) → May (state older) e → IsAnother c 0 e → BearsNone c e older → EnteredIn c older → EnteredIn c (e ∷ older)
  entered_by e may another bears_none (inl h) = inl (record {
    none = still_none c e older bears_none h.none;
    done = client_kept (done_client c []) (state older) (told older) e another (covers_all e) may h.done;
  })
  entered_by e may another bears_none (inr g) = inr (record {
    stream = g.stream;
    birth = g.birth;
    born = born_more g.stream g.birth e older g.born;
    client = g.client;
    forwarded = g.forwarded;
  })

  -- an entry by which no stream is born
  entered_more : (e : Entry) → May (state older) e → IsAnother c 0 e → ((n : ℕ) → IsBirthOf e n → ⊥)
      → EnteredIn c older → EnteredIn c (e ∷ older)
  entered_more e may another bears_none = entered_by e may another (apart_births c e older (λ n of. absurd (bears_none n of)))

  entered_join : (n : ℕ) (here : Bool) → eqb n c ≡ here → (here || has_joined c older) ≡ false → May (state older) (Join n)
      → (has_joined c older ≡ false → EnteredIn c older) → EnteredIn c (Join n ∷ older)
  entered_join n true e absent may before = absurd (let clash : true ≡ false = absent in cc)
  entered_join n false e absent may before = entered_more (Join n) may (eqb-false n c e) (λ m of. of) (before absent)

  entered_enter : (n port : ℕ) (here : Bool) → eqb n c ≡ here → May (state older) (Enter n port) → HasBirths older → EnteredIn c older
      → EnteredIn c (Enter n port ∷ older)
  entered_enter n port false e may b h =
      let apart = eqb-false n c e in
      entered_by (Enter n port) may apart (apart_births c (Enter n port) older (λ m of same. apart (sym of ∙ same))) h
  entered_enter n port true e may b (inl h) =
      subst (λ (k : ℕ). EnteredIn c (Enter k port ∷ older)) (sym (eqb-true n c e))
      (enters_so c port older legal (subst (λ (k : ℕ). May (state older) (Enter k port)) (eqb-true n c e) may) b h)
  entered_enter n port true e may b (inr g) = inr (record {
    stream = g.stream;
    birth = g.birth;
    born = born_more g.stream g.birth (Enter n port) older g.born;
    client = g.client;
    forwarded = g.forwarded;
  })

  -- what is read of who did not come by itself is no request
  read_bears : (n : ℕ) (bytes : List ℕ) (here : Bool) → eqb n c ≡ here → May (state older) (Read n bytes) → has_joined c older ≡ false
      → BearsNone c (Read n bytes) older
  read_bears n bytes false e may absent = (silent_read c n bytes older e).none
  read_bears n bytes true e may absent =
      subst (λ (m : ℕ). BearsNone c (Read m bytes) older) (sym (eqb-true n c e))
      (silent_idle c older legal bytes (subst (λ (m : ℕ). May (state older) (Read m bytes)) (eqb-true n c e) may)
      (ap (λ (joined : Bool). joined && not (has_ended c older) && still_asks (asked c older)) absent)).none

  entered_read : (n : ℕ) (bytes : List ℕ) → May (state older) (Read n bytes) → has_joined c older ≡ false → EnteredIn c older
      → EnteredIn c (Read n bytes ∷ older)
  entered_read n bytes may absent = entered_by (Read n bytes) may tt (read_bears n bytes (eqb n c) refl may absent)

-- In every legal history a client that did not come by itself is left out, or came through a forward and has a stream.
pub all_entered : (h : History) → IsLegal h → (c : ℕ) → has_joined c h ≡ false → IsLeftOut c h ⊎ IsEntered c h
all_entered [] legal c absent = inl (record {
  none = λ l b is. none_first c l b is;
  done = record { owned = start_owned; row = λ client is. absurd (let clash : None ≡ Some client = is in cc); told = refl };
})
all_entered (Join n ∷ older) legal c absent =
    entered_join c older legal.0 n (eqb n c) refl absent legal.2
    (λ before. all_entered older legal.0 c before)
all_entered (Enter n port ∷ older) legal c absent =
    entered_enter c older legal.0 n port (eqb n c) refl legal.2 (all_births older legal.0)
    (all_entered older legal.0 c absent)
all_entered (Read n bytes ∷ older) legal c absent = entered_read c older legal.0 n bytes legal.2 absent (all_entered older legal.0 c absent)
all_entered (Attach t kind serial ∷ older) legal c absent =
    entered_more c older legal.0 (Attach t kind serial) legal.2 (λ same. omega (arith, same, legal.2.1)) (λ m of. of)
    (all_entered older legal.0 c absent)
all_entered (e ∷ older) legal c absent = entered_more c older legal.0 e legal.2 tt (λ m of. of) (all_entered older legal.0 c absent)
