-- Which clients came through a forward.
use Rattle.std.proofs.Common.{◌≡◌, ℕ, ◌+◌, ◌<◌, drop, Bool, true, false, cond, List, [], ◌∷◌, ◌++◌, Option, Some, None, refl, sym, ap}
use Rattle.std.proofs.Common.{subst, ◌∙◌, eqb, arith}
use Rattle.std.specs.Prelude.{codes, option_and_then, option_map, not, ◌||◌}
use Rattle.std.proofs.lemmas.Bool.{eqb-true, eq-eqb}
use Rattle.adb_outside.specs.Tables.{Rows, change_row, put_row}
use Rattle.adb_stream.specs.declared.row.Stream.{Stream}
use Rattle.adb_client.specs.declared.phase.Phase.{Phase}
use Rattle.adb_client.specs.declared.phase.Phase.TheVariants.{Opening, Streaming, Binding, Tracking, Closing}
use Rattle.adb_reply.specs.Strings.{failed}
use Rattle.adb_capture.specs.declared.entry.Entry.{Entry}
use Rattle.adb_capture.specs.declared.entry.Entry.TheVariants.{Join, Enter, Read, Attach}
use Rattle.adb_history.specs.Rows.{Client, State, new_client, to_client, to_stream, none_kept, with_due, with_held, in_phase}
use Rattle.adb_history.specs.Events.{Event}
use Rattle.adb_history.specs.declared.ending.Ending.{Ending}
use Rattle.adb_history.specs.declared.ending.Ending.TheVariants.{Lost}
use Rattle.adb_history.specs.Links.{is_connected}
use Rattle.adb_history.specs.Clients.{closing_with, closing, closes}
use Rattle.adb_history.specs.Streams.{loses, client_loses, ends_row, all_end}
use Rattle.adb_history.specs.Tracking.{marked_in, marked}
use Rattle.adb_history.specs.Losing.{forgets, input_ended, only_client}
use Rattle.adb_history.specs.Packets.{streams_end_first}
use Rattle.adb_history.specs.Asking.{Asked, asks_with}
use Rattle.adb_history.specs.Reading.{tracks, awaits, asked_before, has_asked}
use Rattle.adb_history.specs.Handing.{unmarked, left_in, hands}
use Rattle.adb_history.specs.Machine.{History, state, IsLegal}
use Rattle.adb_history.specs.Bytes.{has_joined}
use Rattle.adb_history.specs.Moves.{Moves}
use Rattle.adb_history.specs.Tied.{came_count}
use Rattle.adb_history.proofs.StreamMoves.{all_end_kept}
use Rattle.adb_history.proofs.RuleMoves.{Begins, step_kept}
use Rattle.adb_history.proofs.OwnedStep.{ends_state, all_owned}
use Rattle.adb_history.proofs.BookTurns.{all_unheard}
use Rattle.adb_history.proofs.Numbers.{next_number}
use Rattle.adb_laws_births.specs.Single.{CameAsKept}

-- each client is one that came so
abbrev AsCame : (ℕ → Bool) → Rows (Option Client) → Type 0
AsCame f clients = (c : ℕ) (client : Client) → clients c ≡ Some client → client.about.forwarded ≡ f c

module _ (f : ℕ → Bool) where
  -- a change by which a client stays one that came so
  change_came : (n : ℕ) (g : Client → Option Client) (clients : Rows (Option Client))
      → ((a b : Client) → g a ≡ Some b → b.about.forwarded ≡ a.about.forwarded) → AsCame f clients
      → AsCame f (change_row n (option_and_then g) clients)
  change_came n g clients keeps h c client is = go (eqb n c) (clients c) refl is
    where
      go : (b : Bool) (o : Option Client) → clients c ≡ o → cond b (option_and_then g o) o ≡ Some client → client.about.forwarded ≡ f c
      go true None there e = absurd (let clash : None ≡ Some client = e in cc)
      go true (Some a) there e = keeps a client e ∙ h c a there
      go false o there e = h c client (there ∙ e)

  closing_keeps : (due : List ℕ) (a b : Client) → closing_with due a ≡ Some b → b.about.forwarded ≡ a.about.forwarded
  closing_keeps [] a b e = absurd (let clash : None ≡ Some b = e in cc)
  closing_keeps (x ∷ due) a b e =
      let next : Client = record a { about = record a.about { phase = Closing; mark = false; want = None }; held = []; due = x ∷ due } in
      let same : next ≡ b = cc in
      ap (λ (y : Client). y.about.forwarded) (sym same)

  left_keeps : (phase : Phase) (due : List ℕ) (a b : Client) → left_in phase due a ≡ Some b → b.about.forwarded ≡ a.about.forwarded
  left_keeps Closing due a b e = closing_keeps due (record a { due = due }) b e
  left_keeps _ due a b e = let same : record a { due = due } ≡ b = cc in ap (λ (y : Client). y.about.forwarded) (sym same)

  -- a change that is there for each client
  some_keeps : (g : Client → Client) → ((a : Client) → (g a).about.forwarded ≡ a.about.forwarded) → (a b : Client) → Some (g a) ≡ Some b
      → b.about.forwarded ≡ a.about.forwarded
  some_keeps g same a b e = let row : g a ≡ b = cc in ap (λ (y : Client). y.about.forwarded) (sym row) ∙ same a

  none_keeps : (a b : Client) → none_kept a ≡ Some b → b.about.forwarded ≡ a.about.forwarded
  none_keeps a b e = let clash : None ≡ Some b = e in cc

  marked_keeps : (phase : Phase) (a : Client) → (marked_in phase a).about.forwarded ≡ a.about.forwarded
  marked_keeps Tracking a = refl
  marked_keeps _ a = refl

  marks_came : (clients : Rows (Option Client)) → AsCame f clients → AsCame f (λ c. option_map marked (clients c))
  marks_came clients h c client is = go (clients c) refl is
    where
      go : (o : Option Client) → clients c ≡ o → option_map marked o ≡ Some client → client.about.forwarded ≡ f c
      go None there e = absurd (let clash : None ≡ Some client = e in cc)
      go (Some a) there e =
          let same : marked a ≡ client = cc in
          ap (λ (y : Client). y.about.forwarded) (sym same) ∙ (marked_keeps a.about.phase a ∙ h c a there)

  closes_came : (c : ℕ) (s : State) → AsCame f s.clients → AsCame f (closes c s).clients
  closes_came c s h = change_came c closing s.clients (λ a b e. closing_keeps a.due a b e) h

  due_came : (c : ℕ) (bytes : List ℕ) (clients : Rows (Option Client)) → AsCame f clients
      → AsCame f (change_row c (option_and_then (with_due bytes)) clients)
  due_came c bytes clients h =
      change_came c (with_due bytes) clients (some_keeps (λ a. record a { due = a.due ++ bytes }) (λ a. refl)) h

  loses_came : (forwarded : Bool) (phase : Phase) (c : ℕ) (s : State) → AsCame f s.clients
      → AsCame f (loses forwarded phase c s).state.clients
  loses_came forwarded (Streaming l) c s h = closes_came c s h
  loses_came true (Opening l) c s h = closes_came c s h
  loses_came false (Opening l) c s h =
      closes_came c (to_client c (with_due (failed (codes "closed")).bytes) s) (due_came c (failed (codes "closed")).bytes s.clients h)
  loses_came true _ c s h = h
  loses_came false _ c s h = h

  client_loses_came : (o : Option Client) (c : ℕ) (s : State) → AsCame f s.clients → AsCame f (client_loses o c s).state.clients
  client_loses_came None c s h = h
  client_loses_came (Some client) c s h = loses_came client.about.forwarded client.about.phase c s h

  ends_came : (l : ℕ) (ending : Ending) (stream : Stream) (s : State) (w : List Event) → s.streams l ≡ Some stream → AsCame f s.clients
      → AsCame f (ends_row l ending stream s).state.clients
  ends_came l ending stream s w is h =
      subst (λ (x : State). AsCame f x.clients) (sym (ends_state l ending stream s))
      (client_loses_came (s.clients stream.client) stream.client (to_stream l none_kept s) h)

  first_came : (b : Bool) (t : ℕ) (s : State) → AsCame f s.clients → AsCame f (streams_end_first b t s).state.clients
  first_came true t s h = all_end_kept {P = λ s w. AsCame f s.clients} ends_came t Lost s [] h
  first_came false t s h = h

  only_came : (c : ℕ) (clients : Rows (Option Client)) → AsCame f clients → AsCame f (only_client c clients)
  only_came c clients h n client is = go (eqb c n) is
    where
      go : (b : Bool) → cond b (clients n) None ≡ Some client → client.about.forwarded ≡ f n
      go true e = h n client e
      go false e = absurd (let clash : None ≡ Some client = e in cc)

  came_moves : Moves (λ s w. AsCame f s.clients)
  came_moves = record {
    owes = λ t p check s w of h. h;
    due = λ c bytes s w h. due_came c bytes s.clients h;
    closes = λ c client s w is free h. closes_came c s h;
    tracks = λ c client long s w is asking h. change_came c (tracks long) s.clients
        (some_keeps (λ a. record a { about = record a.about { phase = Tracking; long = long; mark = false }; held = [] }) (λ a. refl)) h;
    awaits = λ c client want s w is asking h. change_came c (awaits want) s.clients
        (some_keeps (λ a. record a { about = record a.about { phase = Binding; want = Some want }; held = [] }) (λ a. refl)) h;
    drops = λ c client s w is none h. change_came c none_kept s.clients none_keeps h;
    holds = λ c client bytes s w is has h. change_came c (with_held bytes) s.clients
        (some_keeps (λ a. record a { held = bytes }) (λ a. refl)) h;
    unmarks = λ c s w h. change_came c unmarked s.clients
        (some_keeps (λ a. record a { about = record a.about { mark = false } }) (λ a. refl)) h;
    input_ended = λ c s w h. change_came c input_ended s.clients
        (some_keeps (λ a. record a { about = record a.about { ended = true } }) (λ a. refl)) h;
    hands = λ c n client s w is fits h. change_came c (hands n) s.clients (λ a b e. left_keeps a.about.phase (drop n a.due) a b e) h;
    draws = λ c t client s w is asking ready h. change_came c (in_phase (Opening (s.drawn + 1))) s.clients
        (some_keeps (λ a. record a { about = record a.about { phase = Opening (s.drawn + 1) } }) (λ a. refl)) h;
    flows = λ l stream flow s w is like h. h;
    accepts = λ l payload stream s w is known turn h. due_came stream.client payload s.clients h;
    opens = λ l remote word stream s w is new h. change_came stream.client (in_phase (Streaming l)) s.clients
        (some_keeps (λ a. record a { about = record a.about { phase = Streaming l } }) (λ a. refl)) h;
    orphan_goes = λ l stream s w is orphan h. h;
    ends = ends_came;
    fails_open = λ c l failing s w at h. change_came c none_kept s.clients none_keeps h;
    fails_asked = λ c l failing s w at h. change_came c none_kept s.clients none_keeps h;
    links = λ t g s w h. h;
    link_ends = λ t ending s w h. marks_came (all_end t ending (forgets t s)).state.clients
        (all_end_kept {P = λ s w. AsCame f s.clients} ends_came t ending (forgets t s) [] h);
    online = λ t version maxdata identity s w h. marks_came (streams_end_first (is_connected t s.devices) t s).state.clients
        (first_came (is_connected t s.devices) t s h);
    unauthorized = λ t row s w is offline h. marks_came s.clients h;
    forwards = λ forwards s w led h. h;
    stops = λ c client s w is asking h. change_came c closing (only_client c s.clients)
        (λ a b e. closing_keeps a.due a b e) (only_came c s.clients h);
  }

  asked_came : (q : Asked) (c : ℕ) (clients : Rows (Option Client)) → AsCame f clients
      → AsCame f (change_row c (option_and_then (has_asked q)) clients)
  asked_came q c clients h = change_came c (has_asked q) clients
      (some_keeps (λ a. record a { about = record a.about { selected = q.selected }; held = q.rest }) (λ a. refl)) h

  -- a client comes now
  new_came : (forwarded : Bool) (c : ℕ) (clients : Rows (Option Client)) → forwarded ≡ f c → AsCame f clients
      → AsCame f (put_row c (Some (new_client forwarded c)) clients)
  new_came forwarded c clients same h n client is = go (eqb c n) refl is
    where
      go : (b : Bool) → eqb c n ≡ b → cond b (Some (new_client forwarded c)) (clients n) ≡ Some client → client.about.forwarded ≡ f n
      go true on e =
          let row : new_client forwarded c ≡ client = cc in
          ap (λ (y : Client). y.about.forwarded) (sym row) ∙ (same ∙ ap f (eqb-true c n on))
      go false off e = h n client e

-- whether a client came through a forward, as the entries say
abbrev entered : History → ℕ → Bool
entered h c = not (has_joined c h)

begins_came : (e : Entry) (older : History) → IsLegal (e ∷ older) → AsCame (entered older) (state older).clients
    → Begins (came_moves (entered (e ∷ older))) e (state older) []
begins_came (Join c) older legal h =
    new_came (entered (Join c ∷ older)) false c (state older).clients
    (sym (ap (λ (b : Bool). not (b || has_joined c older)) (eq-eqb c c refl))) later
  where
    later : AsCame (entered (Join c ∷ older)) (state older).clients
    later n client is = go (eqb c n) refl
      where
        go : (b : Bool) → eqb c n ≡ b → client.about.forwarded ≡ entered (Join c ∷ older) n
        go false apart = h n client is ∙ sym (ap (λ (b : Bool). not (b || has_joined n older)) apart)
        go true same =
            let above : n ≡ (state older).joined + 1 = sym (eqb-true c n same) ∙ legal.2.1 in
            let none : (state older).clients n ≡ None = (all_owned older legal.0).rows.clients.above n (omega (arith, above)) in
            absurd (let clash : None ≡ Some client = sym none ∙ is in cc)
begins_came (Enter c port) older legal h = (
  new_came (entered (Enter c port ∷ older)) true c (state older).clients
      (sym (ap not (all_unheard older legal.0 c (above c (next_number (Enter c port) older legal.2))).joined)) h,
  h,
)
  where
    above : (n : ℕ) → n ≡ came_count older + 1 → came_count older < n
    above n is = omega (arith, is)
begins_came (Read c bytes) older legal h = (
  h,
  λ client is asking. asked_came (entered (Read c bytes ∷ older))
      (asks_with (state older).devices (state older).forwards bytes (asked_before client)) c (state older).clients h,
)
begins_came (Attach t kind serial) older legal h = marks_came (entered (Attach t kind serial ∷ older)) (state older).clients h
begins_came _ older legal h = h

-- In every legal history a client that lives came through a forward, or by itself, as it is kept.
pub all_came : (h : History) → IsLegal h → CameAsKept h
all_came [] legal = λ c client is. absurd (let clash : None ≡ Some client = is in cc)
all_came (e ∷ older) legal =
    step_kept (came_moves (entered (e ∷ older))) e (state older) [] (begins_came e older legal (all_came older legal.0))
