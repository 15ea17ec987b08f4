-- A client wants a forward only while it waits for the listener.
use Rattle.std.proofs.Common.{ℕ, ◌+◌, ◌≡◌, Bool, true, false, cond, List, [], ◌∷◌, ◌++◌, drop, Option, Some, None, refl, sym, ◌∙◌, ap}
use Rattle.std.proofs.Common.{subst, eqb}
use Rattle.std.proofs.Common.{◌⊎◌, inl, inr}
use Rattle.std.specs.Prelude.{option_and_then, option_map, codes}
use Rattle.adb_outside.specs.Tables.{Rows, change_row}
use Rattle.adb_stream.specs.declared.row.Stream.{Stream}
use Rattle.adb_client.specs.declared.phase.Phase.{Phase}
use Rattle.adb_client.specs.declared.phase.Phase.TheVariants.{Asking, Opening, Streaming, Binding, Tracking, Closing}
use Rattle.adb_client.specs.declared.about.Want.{Want}
use Rattle.adb_capture.specs.declared.entry.Entry.{Entry}
use Rattle.adb_capture.specs.declared.entry.Entry.TheVariants.{Join, Enter, Read, Attach}
use Rattle.adb_reply.specs.Strings.{failed}
use Rattle.adb_history.specs.Rows.{Client, State, new_client, to_client, to_stream, none_kept, with_due, in_phase}
use Rattle.adb_history.specs.declared.ending.Ending.{Ending}
use Rattle.adb_history.specs.declared.ending.Ending.TheVariants.{Lost}
use Rattle.adb_history.specs.Links.{is_connected}
use Rattle.adb_history.specs.Clients.{closing, closing_with}
use Rattle.adb_history.specs.Streams.{loses, client_loses, ends_row, all_end}
use Rattle.adb_history.specs.Tracking.{marked, marked_in}
use Rattle.adb_history.specs.Losing.{forgets, only_client}
use Rattle.adb_history.specs.Packets.{streams_end_first}
use Rattle.adb_history.specs.Asking.{Asked, asks_with}
use Rattle.adb_history.specs.Reading.{asked_before, has_asked, tracks, awaits, comes}
use Rattle.adb_history.specs.Handing.{hands, left_in}
use Rattle.adb_history.specs.Machine.{History, state, May, IsLegal}
use Rattle.adb_history.specs.Moves.{Moves}
use Rattle.adb_history.specs.Orderly.{phase_for}
use Rattle.adb_history.specs.Owned.{IsOwned}
use Rattle.adb_history.proofs.StreamMoves.{all_end_kept}
use Rattle.adb_history.proofs.OwnedMoves.{client_of}
use Rattle.adb_history.proofs.OwnedStep.{ends_state, owned_moves, begins_owned, start_owned}
use Rattle.adb_history.proofs.RuleMoves.{Begins, step_kept}
use Rattle.adb_laws_resting.proofs.RestingRows.{before_change, before_put}
use Rattle.adb_history.proofs.Calm.{WasChanged}

-- what a client wants by its phase
abbrev pub WantsIn : Phase → Option Want → Type 0
WantsIn Binding want = Unit {0}
WantsIn _ want = want ≡ None

abbrev pub Wants : Client → Type 0
Wants x = WantsIn x.about.phase x.about.want

abbrev pub AllWant : Rows (Option Client) → Type 0
AllWant clients = (k : ℕ) (x : Client) → clients k ≡ Some x → Wants x

-- ---- a client changes
abbrev KeepsWant : ℕ → (Client → Option Client) → Rows (Option Client) → Type 0
KeepsWant c f clients = (old new : Client) → clients c ≡ Some old → f old ≡ Some new → Wants old → Wants new

change_wants : (c : ℕ) (f : Client → Option Client) (clients : Rows (Option Client)) → KeepsWant c f clients → AllWant clients
    → AllWant (change_row c (option_and_then f) clients)
change_wants c f clients keeps h k x is = by_row (before_change c f clients k x is)
  where
    by_row : ((c ≡ k) × WasChanged f (clients k) x) ⊎ (clients k ≡ Some x) → Wants x
    by_row (inl (same, was)) = keeps was.old x (ap clients same ∙ was.is) was.to (h k was.old was.is)
    by_row (inr row) = h k x row

made_wants : (made new : Client) → Some made ≡ Some new → Wants made → Wants new
made_wants made new e h = subst Wants (let same : made ≡ new = cc in same) h

-- what a client wants that is in this phase
wants_there : (phase : Phase) (client : Client) → client.about.phase ≡ phase → Wants client → WantsIn phase client.about.want
wants_there phase client is h = subst (λ (p : Phase). WantsIn p client.about.want) is h

same_wants : (c : ℕ) (f : Client → Client) (clients : Rows (Option Client))
    → ((x : Client) → ((f x).about.phase ≡ x.about.phase) × ((f x).about.want ≡ x.about.want)) → AllWant clients
    → AllWant (change_row c (option_and_then (λ x. Some (f x))) clients)
same_wants c f clients same h = change_wants c (λ x. Some (f x)) clients keeps h
  where
    keeps : KeepsWant c (λ x. Some (f x)) clients
    keeps old new is to wants =
        made_wants (f old) new to
        (subst (λ (p : Phase). WantsIn p (f old).about.want) (sym (same old).0) (subst (WantsIn old.about.phase) (sym (same old).1) wants))

due_wants : (c : ℕ) (bytes : List ℕ) (clients : Rows (Option Client)) → AllWant clients
    → AllWant (change_row c (option_and_then (with_due bytes)) clients)
due_wants c bytes clients h = same_wants c (λ x. record x { due = x.due ++ bytes }) clients (λ x. (refl, refl)) h

none_wants : (c : ℕ) (clients : Rows (Option Client)) → AllWant clients → AllWant (change_row c (option_and_then none_kept) clients)
none_wants c clients h = change_wants c none_kept clients (λ old new is to wants. absurd (let clash : None ≡ Some new = to in cc)) h

closing_with_wants : (due : List ℕ) (old new : Client) → closing_with due old ≡ Some new → Wants new
closing_with_wants [] old new to = absurd (let clash : None ≡ Some new = to in cc)
closing_with_wants (b ∷ due) old new to =
    made_wants (record old
    { about = record old.about { phase = Closing; mark = false; want = None }; held = []; due = b ∷ due }) new
    to refl

closes_wants : (c : ℕ) (clients : Rows (Option Client)) → AllWant clients → AllWant (change_row c (option_and_then closing) clients)
closes_wants c clients h = change_wants c closing clients (λ old new is to wants. closing_with_wants old.due old new to) h

hands_wants : (c n : ℕ) (clients : Rows (Option Client)) → AllWant clients → AllWant (change_row c (option_and_then (hands n)) clients)
hands_wants c n clients h = change_wants c (hands n) clients (λ old new is to wants. by_phase old new old.about.phase to wants) h
  where
    by_phase : (old new : Client) (phase : Phase) → left_in phase (drop n old.due) old ≡ Some new → Wants old → Wants new
    by_phase old new Closing to wants = closing_with_wants (drop n old.due) (record old { due = drop n old.due }) new to
    by_phase old new _ to wants = made_wants (record old { due = drop n old.due }) new to wants

-- a client that wants nothing goes on to another phase
module _ (c : ℕ) (clients : Rows (Option Client)) (client : Client) (is : clients c ≡ Some client) (none : client.about.want ≡ None)
    (h : AllWant clients) where
  none_before : (old : Client) → clients c ≡ Some old → old.about.want ≡ None
  none_before old e =
      let same : client ≡ old = (let both : Some client ≡ Some old = sym is ∙ e in cc)
      in ap (λ (x : Client). x.about.want) (sym same) ∙ none

  goes_wants : (f : Client → Client) → ((x : Client) → x.about.want ≡ None → Wants (f x))
      → AllWant (change_row c (option_and_then (λ x. Some (f x))) clients)
  goes_wants f wants =
      change_wants c (λ x. Some (f x)) clients (λ old new e to was. made_wants (f old) new to (wants old (none_before old e))) h

marks_wants : (clients : Rows (Option Client)) → AllWant clients → AllWant (λ c. option_map marked (clients c))
marks_wants clients h k x is = by_row (clients k) refl is
  where
    kept : (phase : Phase) (old : Client) → Wants old → Wants (marked_in phase old)
    kept Tracking old wants = wants
    kept _ old wants = wants

    by_row : (o : Option Client) → clients k ≡ o → option_map marked o ≡ Some x → Wants x
    by_row None there e = absurd (let clash : None ≡ Some x = e in cc)
    by_row (Some old) there e = made_wants (marked old) x e (kept old.about.phase old (h k old there))

only_wants : (c : ℕ) (clients : Rows (Option Client)) → AllWant clients → AllWant (only_client c clients)
only_wants c clients h k x is = by_test (eqb c k) is
  where
    by_test : (here : Bool) → cond here (clients k) None ≡ Some x → Wants x
    by_test true e = h k x e
    by_test false e = absurd (let clash : None ≡ Some x = e in cc)

-- ---- streams end
loses_wants : (forwarded : Bool) (phase : Phase) (c : ℕ) (s : State) → AllWant s.clients → AllWant (loses forwarded phase c s).state.clients
loses_wants forwarded (Streaming l) c s h = closes_wants c s.clients h
loses_wants true (Opening l) c s h = closes_wants c s.clients h
loses_wants false (Opening l) c s h =
    closes_wants c (to_client c (with_due (failed (codes "closed")).bytes) s).clients
    (due_wants c (failed (codes "closed")).bytes s.clients h)
loses_wants true _ c s h = h
loses_wants false _ c s h = h

client_loses_wants : (o : Option Client) (c : ℕ) (s : State) → AllWant s.clients → AllWant (client_loses o c s).state.clients
client_loses_wants None c s h = h
client_loses_wants (Some client) c s h = loses_wants client.about.forwarded client.about.phase c s h

ends_wants : (l : ℕ) (ending : Ending) (stream : Stream) (s : State) → AllWant s.clients
    → AllWant (ends_row l ending stream s).state.clients
ends_wants l ending stream s h =
    subst (λ (x : State). AllWant x.clients) (sym (ends_state l ending stream s))
    (client_loses_wants (s.clients stream.client) stream.client (to_stream l none_kept s) h)

all_end_wants : (t : ℕ) (ending : Ending) (s : State) → AllWant s.clients → AllWant (all_end t ending s).state.clients
all_end_wants t ending s h =
    all_end_kept {P = λ s w. AllWant s.clients} (λ l ending stream s w is now. ends_wants l ending stream s now) t ending s [] h

first_wants : (b : Bool) (t : ℕ) (s : State) → AllWant s.clients → AllWant (streams_end_first b t s).state.clients
first_wants true t s h = all_end_wants t Lost s h
first_wants false t s h = h

-- ---- moves
-- what each client wants, and which stream is whose
record IsWaited (s : State) : Type 0 where
  owned : IsOwned s
  wants : AllWant s.clients

module _ (s : State) (h : IsWaited s) where
  tracks_wants : (c : ℕ) (client : Client) (long : Bool) → s.clients c ≡ Some client → client.about.phase ≡ Asking
      → AllWant (to_client c (tracks long) s).clients
  tracks_wants c client long is asking =
      goes_wants c s.clients client is (wants_there Asking client asking (h.wants c client is)) h.wants
      (λ x. record x { about = record x.about { phase = Tracking; long = long; mark = false }; held = [] }) (λ x none. none)

  awaits_wants : (c : ℕ) (want : Want) → AllWant (to_client c (awaits want) s).clients
  awaits_wants c want = change_wants c (awaits want) s.clients
      (λ old new is to wants. made_wants
      (record old { about = record old.about { phase = Binding; want = Some want }; held = [] }) new to tt)
      h.wants

  draws_wants : (c l : ℕ) (client : Client) → s.clients c ≡ Some client → client.about.phase ≡ Asking
      → AllWant (to_client c (in_phase (Opening l)) s).clients
  draws_wants c l client is asking =
      goes_wants c s.clients client is (wants_there Asking client asking (h.wants c client is)) h.wants
      (λ x. record x { about = record x.about { phase = Opening l } }) (λ x none. none)

  opens_wants : (l : ℕ) (stream : Stream) → s.streams l ≡ Some stream → (stream.part.remote ≡ 0) × (stream.part.orphan ≡ false)
      → AllWant (to_client stream.client (in_phase (Streaming l)) s).clients
  opens_wants l stream is new =
      let of = client_of s l stream is new.1 h.owned in
      let opening : of.client.about.phase ≡ Opening l = of.phase ∙ ap (phase_for l) new.0 in
      goes_wants stream.client s.clients of.client of.is
      (wants_there (Opening l) of.client opening (h.wants stream.client of.client of.is)) h.wants
      (λ x. record x { about = record x.about { phase = Streaming l } }) (λ x none. none)

-- A client wants a forward only while it waits for the listener, through each move.
waited_moves : Moves (λ s w. IsWaited s)
waited_moves = record {
  owes = λ t p check s w of h. record { owned = owned_moves.owes t p check s w of h.owned; wants = h.wants };
  due = λ c bytes s w h. record { owned = owned_moves.due c bytes s w h.owned; wants = due_wants c bytes s.clients h.wants };
  closes = λ c x s w is free h. record { owned = owned_moves.closes c x s w is free h.owned; wants = closes_wants c s.clients h.wants };
  tracks = λ c x long s w is asking h.
      record {
        owned = owned_moves.tracks c x long s w is asking h.owned;
        wants =
            tracks_wants s h c x long is asking;
      };
  awaits = λ c x want s w is asking h.
      record { owned = owned_moves.awaits c x want s w is asking h.owned; wants = awaits_wants s h c want };
  drops = λ c x s w is none h. record { owned = owned_moves.drops c x s w is none h.owned; wants = none_wants c s.clients h.wants };
  holds = λ c x bytes s w is has h. record {
    owned = owned_moves.holds c x bytes s w is has h.owned;
    wants = same_wants c (λ x. record x { held = bytes }) s.clients (λ x. (refl, refl)) h.wants;
  };
  unmarks = λ c s w h. record {
    owned = owned_moves.unmarks c s w h.owned;
    wants = same_wants c (λ x. record x { about = record x.about { mark = false } }) s.clients (λ x. (refl, refl)) h.wants;
  };
  input_ended = λ c s w h. record {
    owned = owned_moves.input_ended c s w h.owned;
    wants = same_wants c (λ x. record x { about = record x.about { ended = true } }) s.clients (λ x. (refl, refl)) h.wants;
  };
  hands = λ c n x s w is fits h. record { owned = owned_moves.hands c n x s w is fits h.owned; wants = hands_wants c n s.clients h.wants };
  draws = λ c t x s w is asking ready h. record {
    owned = owned_moves.draws c t x s w is asking ready h.owned;
    wants = draws_wants s h c (s.drawn + 1) x is asking;
  };
  flows = λ l stream flow s w is like h. record { owned = owned_moves.flows l stream flow s w is like h.owned; wants = h.wants };
  accepts = λ l payload stream s w is known turn h. record {
    owned = owned_moves.accepts l payload stream s w is known turn h.owned;
    wants = due_wants stream.client payload s.clients h.wants;
  };
  opens = λ l remote word stream s w is new h. record {
    owned = owned_moves.opens l remote word stream s w is new h.owned;
    wants = opens_wants s h l stream is (new.0, new.1);
  };
  orphan_goes = λ l stream s w is orphan h. record { owned = owned_moves.orphan_goes l stream s w is orphan h.owned; wants = h.wants };
  ends = λ l ending stream s w is h. record {
    owned = owned_moves.ends l ending stream s w is h.owned;
    wants = ends_wants l ending stream s h.wants;
  };
  fails_open = λ c l failing s w at h. record {
    owned = owned_moves.fails_open c l failing s w at h.owned;
    wants = none_wants c s.clients h.wants;
  };
  fails_asked = λ c l failing s w at h. record {
    owned = owned_moves.fails_asked c l failing s w at h.owned;
    wants = none_wants c s.clients h.wants;
  };
  links = λ t f s w h. record { owned = owned_moves.links t f s w h.owned; wants = h.wants };
  link_ends = λ t ending s w h. record {
    owned = owned_moves.link_ends t ending s w h.owned;
    wants = marks_wants (all_end t ending (forgets t s)).state.clients (all_end_wants t ending (forgets t s) h.wants);
  };
  online = λ t version maxdata identity s w h. record {
    owned = owned_moves.online t version maxdata identity s w h.owned;
    wants = marks_wants (streams_end_first (is_connected t s.devices) t s).state.clients
        (first_wants (is_connected t s.devices) t s h.wants);
  };
  unauthorized = λ t row s w is offline h. record {
    owned = owned_moves.unauthorized t row s w is offline h.owned;
    wants = marks_wants s.clients h.wants;
  };
  forwards = λ forwards s w led h. record { owned = owned_moves.forwards forwards s w led h.owned; wants = h.wants };
  stops = λ c x s w is asking h. record {
    owned = owned_moves.stops c x s w is asking h.owned;
    wants = closes_wants c (only_client c s.clients) (only_wants c s.clients h.wants);
  };
}

-- ---- who comes
comes_wants : (forwarded : Bool) (c : ℕ) (s : State) → AllWant s.clients → AllWant (comes forwarded c s).clients
comes_wants forwarded c s h k x is = by_row (before_put c (new_client forwarded c) s.clients k x is)
  where
    by_row : ((c ≡ k) × (new_client forwarded c ≡ x)) ⊎ (s.clients k ≡ Some x) → Wants x
    by_row (inl (same, row)) = subst Wants row refl
    by_row (inr row) = h k x row

module _ (s : State) (h : IsWaited s) where
  begins_waited : (e : Entry) → May s e → Begins waited_moves e s []
  begins_waited (Join c) may = record { owned = begins_owned s h.owned (Join c) [] may; wants = comes_wants false c s h.wants }
  begins_waited (Enter c port) may =
      let b = begins_owned s h.owned (Enter c port) [] may in
      (record { owned = b.0; wants = comes_wants true c s h.wants }, record { owned = b.1; wants = h.wants })
  begins_waited (Attach t kind serial) may =
      record { owned = begins_owned s h.owned (Attach t kind serial) [] may; wants = marks_wants s.clients h.wants }
  begins_waited (Read c bytes) may = (
    h,
    λ client is asking. record {
      owned = (begins_owned s h.owned (Read c bytes) [] may).1 client is asking;
      wants = asked_wants c (asks_with s.devices s.forwards bytes (asked_before client));
    },
  )
    where
      asked_wants : (c : ℕ) (q : Asked) → AllWant (to_client c (has_asked q) s).clients
      asked_wants c q =
          same_wants c (λ x. record x { about = record x.about { selected = q.selected }; held = q.rest }) s.clients
          (λ x. (refl, refl)) h.wants
  begins_waited _ may = h

all_waited : (h : History) → IsLegal h → IsWaited (state h)
all_waited [] legal = record { owned = start_owned; wants = λ k x is. absurd (let clash : None ≡ Some x = is in cc) }
all_waited (e ∷ older) legal =
    step_kept waited_moves e (state older) [] (begins_waited (state older) (all_waited older legal.0) e legal.2)

-- In every state that a legal history leaves a client wants a forward only while it waits for the listener.
pub all_want : (h : History) → IsLegal h → AllWant (state h).clients
all_want h legal = (all_waited h legal).wants
