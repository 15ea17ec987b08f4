-- A client that asks keeps no whole request unread.
use Rattle.std.proofs.Common.{◌≡◌, ℕ, ◌+◌, ◌≤◌, zero, suc, Bool, true, false, cond, List, [], ◌∷◌, ◌++◌, length, take, drop, Option, Some}
use Rattle.std.proofs.Common.{None, refl}
use Rattle.std.proofs.Common.{sym, ap, subst, ◌∙◌, arith, ◌⊎◌, inl, inr, eqb, length-drop}
use Rattle.std.specs.Prelude.{option_and_then, option_map, codes}
use Rattle.std.proofs.lemmas.Bool.{eqb-true, eq-eqb, cases_eq}
use Rattle.adb_outside.specs.Tables.{Rows, change_row}
use Rattle.adb_registry.specs.Registry.{DeviceTable}
use Rattle.adb_forward.specs.declared.row.ForwardRow.{ForwardRow}
use Rattle.adb_request.specs.Requests.{request_at}
use Rattle.adb_request.specs.Meaning.{meaning}
use Rattle.adb_request.specs.declared.cutting.Found.{Found}
use Rattle.adb_request.specs.declared.cutting.Found.TheVariants.{More, Malformed, Whole}
use Rattle.adb_stream.specs.declared.row.Stream.{Stream}
use Rattle.adb_client.specs.declared.phase.Phase.{Phase}
use Rattle.adb_client.specs.declared.phase.Phase.TheVariants.{Asking, Opening, Streaming, Binding, Tracking, Closing}
use Rattle.adb_client.specs.declared.about.Want.{Want}
use Rattle.adb_capture.specs.declared.entry.Entry.{Entry}
use Rattle.adb_capture.specs.declared.entry.Entry.TheVariants.{Join, Enter, Read, Attach}
use Rattle.adb_reply.specs.Answer.{answer}
use Rattle.adb_reply.specs.Strings.{failed}
use Rattle.adb_reply.specs.declared.answer.Answer.{Answer}
use Rattle.adb_reply.specs.declared.answer.Next.{Next}
use Rattle.adb_reply.specs.declared.answer.Next.TheVariants.{Close, Select, Track, Open, Bind, Rebind, Unbind, UnbindAll, Stop}
use Rattle.adb_history.specs.Rows.{Client, State, new_client, to_client, to_stream, none_kept, with_due, with_held, in_phase}
use Rattle.adb_history.specs.declared.ending.Ending.{Ending}
use Rattle.adb_history.specs.declared.ending.Ending.TheVariants.{Lost}
use Rattle.adb_history.specs.Links.{is_connected}
use Rattle.adb_history.specs.Clients.{closing, closing_with}
use Rattle.adb_history.specs.Streams.{stream_ids, asks_for, no_ids_left, opens, loses, client_loses, ends_row, all_end}
use Rattle.adb_history.specs.Tracking.{marked, marked_in}
use Rattle.adb_history.specs.Losing.{forgets, only_client, input_ended}
use Rattle.adb_history.specs.Packets.{streams_end_first}
use Rattle.adb_history.specs.Asking.{Asked, replied, after_next, after_found, reads_on, asks_with}
use Rattle.adb_history.specs.Reading.{tracks, awaits, goes_on, asked_before, has_asked, asks, reads_in, reads_from, comes}
use Rattle.adb_history.specs.Handing.{hands, left_in, unmarked}
use Rattle.adb_history.specs.Machine.{History, state, rule}
use Rattle.adb_history.specs.Moves.{Moves, HasOne, serves}
use Rattle.adb_history.proofs.Following.{changed_here}
use Rattle.adb_history.proofs.StreamMoves.{all_end_kept, up_all_kept}
use Rattle.adb_history.proofs.ReadMoves.{goes_on_kept}
use Rattle.adb_history.proofs.RuleMoves.{rule_kept}
use Rattle.adb_history.proofs.Readiness.{IsAskedReady, asks_ready}
use Rattle.adb_history.proofs.OwnedStep.{ends_state}

-- each client that asks, but these, keeps no whole request
pub record UnreadBut (e : ℕ → Type 0) (clients : Rows (Option Client)) : Type 0 where
  pub more : (k : ℕ) (x : Client) → (e k → ⊥) → clients k ≡ Some x → x.about.phase ≡ Asking → request_at x.held ≡ More

-- a change by which none comes to ask, and what one that asks holds stays
abbrev Calm : Rows (Option Client) → ℕ → (Client → Option Client) → Type 0
Calm clients c f = (x y : Client) → clients c ≡ Some x → f x ≡ Some y → y.about.phase ≡ Asking
    → (x.about.phase ≡ Asking) × (y.held ≡ x.held)

unread_change : (e : ℕ → Type 0) (c : ℕ) (f : Client → Option Client) (clients : Rows (Option Client))
    → Calm clients c f → UnreadBut e clients
    → UnreadBut e (change_row c (option_and_then f) clients)
unread_change e c f clients calm h = record { more = λ k y apart is asks. go k y apart (eqb c k) refl (clients k) refl is asks }
  where
    go : (k : ℕ) (y : Client) → (e k → ⊥) → (b : Bool) → eqb c k ≡ b → (o : Option Client) → clients k ≡ o
        → cond b (option_and_then f o) o ≡ Some y
        → y.about.phase ≡ Asking → request_at y.held ≡ More
    go k y apart false same o is now asks = h.more k y apart (is ∙ now) asks
    go k y apart true same None is now asks = absurd (let clash : None ≡ Some y = now in cc)
    go k y apart true same (Some x) is now asks =
        let was = calm x y (ap clients (eqb-true c k same) ∙ is) now asks in
        ap request_at was.1 ∙ h.more k x apart is was.0

closing_asks : (due : List ℕ) (x y : Client) → closing_with due x ≡ Some y → y.about.phase ≡ Asking → ⊥
closing_asks [] x y e asks = let clash : None ≡ Some y = e in cc
closing_asks (b ∷ due) x y e asks =
    let z : Client = record x { about = record x.about { phase = Closing; mark = false; want = None }; held = []; due = b ∷ due } in
    let same : z ≡ y = cc in
    let clash : Closing ≡ Asking = ap (λ (k : Client). k.about.phase) same ∙ asks in
    cc

calm_closing : (clients : Rows (Option Client)) (c : ℕ) → Calm clients c closing
calm_closing clients c x y is e asks = absurd (closing_asks x.due x y e asks)

-- a change that keeps the phase and what is held
calm_same : (x y z : Client) → Some z ≡ Some y → (z.about.phase ≡ x.about.phase) × (z.held ≡ x.held) → y.about.phase ≡ Asking
    → (x.about.phase ≡ Asking) × (y.held ≡ x.held)
calm_same x y z e same asks =
    let row : z ≡ y = cc in
    (sym same.0 ∙ (ap (λ (k : Client). k.about.phase) row ∙ asks), ap (λ (k : Client). k.held) (sym row) ∙ same.1)

-- a change to a phase that does not ask
calm_other : (x y z : Client) → Some z ≡ Some y → (z.about.phase ≡ Asking → ⊥) → y.about.phase ≡ Asking
    → (x.about.phase ≡ Asking) × (y.held ≡ x.held)
calm_other x y z e not_asks asks = let row : z ≡ y = cc in absurd (not_asks (ap (λ (k : Client). k.about.phase) row ∙ asks))

calm_due : (clients : Rows (Option Client)) (c : ℕ) (bytes : List ℕ) → Calm clients c (with_due bytes)
calm_due clients c bytes x y is e asks = calm_same x y (record x { due = x.due ++ bytes }) e (refl, refl) asks

calm_none : (clients : Rows (Option Client)) (c : ℕ) → Calm clients c none_kept
calm_none clients c x y is e asks = absurd (let clash : None ≡ Some y = e in cc)

calm_held : (clients : Rows (Option Client)) (c : ℕ) (bytes : List ℕ) (client : Client) → clients c ≡ Some client
    → HasOne client.about.phase
    → Calm clients c (with_held bytes)
calm_held clients c bytes client here has x y is e asks =
    let same : client ≡ x = (let both : Some client ≡ Some x = sym here ∙ is in cc) in
    calm_other x y (record x { held = bytes }) e
    (λ f. (let one : HasOne x.about.phase = subst (λ (k : Client). HasOne k.about.phase) same has in subst HasOne f one)) asks

calm_phase : (clients : Rows (Option Client)) (c : ℕ) (phase : Phase) → (phase ≡ Asking → ⊥) → Calm clients c (in_phase phase)
calm_phase clients c phase other x y is e asks = calm_other x y (record x { about = record x.about { phase = phase } }) e other asks

no_opening : (l : ℕ) → Opening l ≡ Asking → ⊥
no_opening l e = cc

no_streaming : (l : ℕ) → Streaming l ≡ Asking → ⊥
no_streaming l e = cc

no_tracking : Tracking ≡ Asking → ⊥
no_tracking e = cc

no_binding : Binding ≡ Asking → ⊥
no_binding e = cc

calm_hands : (clients : Rows (Option Client)) (c n : ℕ) → Calm clients c (hands n)
calm_hands clients c n x y is e asks = go x.about.phase refl e
  where
    less : Client
    less = record x { due = drop n x.due }

    go : (phase : Phase) → x.about.phase ≡ phase → left_in phase (drop n x.due) x ≡ Some y → (x.about.phase ≡ Asking) × (y.held ≡ x.held)
    go Closing f g = absurd (closing_asks (drop n x.due) less y g asks)
    go _ f g = calm_same x y less g (refl, refl) asks

unread_closes : (e : ℕ → Type 0) (c : ℕ) (clients : Rows (Option Client)) → UnreadBut e clients
    → UnreadBut e (change_row c (option_and_then closing) clients)
unread_closes e c clients h = unread_change e c closing clients (calm_closing clients c) h

unread_due : (e : ℕ → Type 0) (c : ℕ) (bytes : List ℕ) (clients : Rows (Option Client)) → UnreadBut e clients
    → UnreadBut e (change_row c (option_and_then (with_due bytes)) clients)
unread_due e c bytes clients h = unread_change e c (with_due bytes) clients (calm_due clients c bytes) h

loses_unread : (e : ℕ → Type 0) (forwarded : Bool) (phase : Phase) (c : ℕ) (s : State) → UnreadBut e s.clients
    → UnreadBut e (loses forwarded phase c s).state.clients
loses_unread e forwarded (Streaming l) c s h = unread_closes e c s.clients h
loses_unread e true (Opening l) c s h = unread_closes e c s.clients h
loses_unread e false (Opening l) c s h =
    unread_closes e c (to_client c (with_due (failed (codes "closed")).bytes) s).clients
    (unread_due e c (failed (codes "closed")).bytes s.clients h)
loses_unread e true _ c s h = h
loses_unread e false _ c s h = h

client_loses_unread : (e : ℕ → Type 0) (o : Option Client) (c : ℕ) (s : State) → UnreadBut e s.clients
    → UnreadBut e (client_loses o c s).state.clients
client_loses_unread e None c s h = h
client_loses_unread e (Some client) c s h = loses_unread e client.about.forwarded client.about.phase c s h

ends_unread : (e : ℕ → Type 0) (l : ℕ) (ending : Ending) (stream : Stream) (s : State) → UnreadBut e s.clients
    → UnreadBut e (ends_row l ending stream s).state.clients
ends_unread e l ending stream s h =
    subst (λ (x : State). UnreadBut e x.clients) (sym (ends_state l ending stream s))
    (client_loses_unread e (s.clients stream.client) stream.client (to_stream l none_kept s) h)

marks_unread : (e : ℕ → Type 0) (clients : Rows (Option Client)) → UnreadBut e clients → UnreadBut e (λ c. option_map marked (clients c))
marks_unread e clients h = record { more = λ k y apart is asks. go k y apart (clients k) refl is asks }
  where
    one : (phase : Phase) (x : Client) → ((marked_in phase x).about.phase ≡ x.about.phase) × ((marked_in phase x).held ≡ x.held)
    one Tracking x = (refl, refl)
    one _ x = (refl, refl)

    go : (k : ℕ) (y : Client) → (e k → ⊥) → (o : Option Client) → clients k ≡ o → option_map marked o ≡ Some y → y.about.phase ≡ Asking
        → request_at y.held ≡ More
    go k y apart None is f asks = absurd (let clash : None ≡ Some y = f in cc)
    go k y apart (Some x) is f asks =
        let was = calm_same x y (marked x) f (one x.about.phase x) asks in
        ap request_at was.1 ∙ h.more k x apart is was.0

all_end_unread : (e : ℕ → Type 0) (t : ℕ) (ending : Ending) (s : State) → UnreadBut e s.clients
    → UnreadBut e (all_end t ending s).state.clients
all_end_unread e t ending s h =
    all_end_kept {P = λ s w. UnreadBut e s.clients} (λ l ending stream s w is now. ends_unread e l ending stream s now) t ending s [] h

first_unread : (e : ℕ → Type 0) (b : Bool) (t : ℕ) (s : State) → UnreadBut e s.clients → UnreadBut e (streams_end_first b t s).state.clients
first_unread e true t s h = all_end_unread e t Lost s h
first_unread e false t s h = h

only_unread : (e : ℕ → Type 0) (c : ℕ) (clients : Rows (Option Client)) → UnreadBut e clients → UnreadBut e (only_client c clients)
only_unread e c clients h = record { more = λ k y apart is asks. go k y apart (eqb c k) is asks }
  where
    go : (k : ℕ) (y : Client) → (e k → ⊥) → (b : Bool) → cond b (clients k) None ≡ Some y → y.about.phase ≡ Asking
        → request_at y.held ≡ More
    go k y apart true is asks = h.more k y apart is asks
    go k y apart false is asks = absurd (let clash : None ≡ Some y = is in cc)

-- A client that asks keeps no whole request, through each move.
pub unread_moves : (e : ℕ → Type 0) → Moves (λ s w. UnreadBut e s.clients)
unread_moves e = record {
  owes = λ t p check s w of h. h;
  due = λ c bytes s w h. unread_due e c bytes s.clients h;
  closes = λ c x s w is free h. unread_closes e c s.clients h;
  tracks = λ c x long s w is asking h. unread_change e c (tracks long) s.clients
      (λ x y is f asks. calm_other x y
      (record x { about = record x.about { phase = Tracking; long = long; mark = false }; held = [] }) f
      no_tracking asks) h;
  awaits = λ c x want s w is asking h. unread_change e c (awaits want) s.clients
      (λ x y is f asks. calm_other x y
      (record x { about = record x.about { phase = Binding; want = Some want }; held = [] }) f no_binding asks)
      h;
  drops = λ c x s w is none h. unread_change e c none_kept s.clients (calm_none s.clients c) h;
  holds = λ c x bytes s w is has h. unread_change e c (with_held bytes) s.clients (calm_held s.clients c bytes x is has) h;
  unmarks = λ c s w h. unread_change e c unmarked s.clients
      (λ x y is f asks. calm_same x y (record x { about = record x.about { mark = false } }) f (refl, refl) asks) h;
  input_ended = λ c s w h. unread_change e c input_ended s.clients
      (λ x y is f asks. calm_same x y (record x { about = record x.about { ended = true } }) f (refl, refl) asks) h;
  hands = λ c n x s w is fits h. unread_change e c (hands n) s.clients (calm_hands s.clients c n) h;
  draws = λ c t x s w is asking ready h. unread_change e c (in_phase (Opening (s.drawn + 1))) s.clients
      (calm_phase s.clients c (Opening (s.drawn + 1)) (no_opening (s.drawn + 1))) h;
  flows = λ l stream flow s w is like h. h;
  accepts = λ l payload stream s w is known turn h. unread_due e stream.client payload s.clients h;
  opens = λ l remote word stream s w is new h.
      unread_change e stream.client (in_phase (Streaming l)) s.clients
      (calm_phase s.clients stream.client (Streaming l) (no_streaming l)) h;
  orphan_goes = λ l stream s w is orphan h. h;
  ends = λ l ending stream s w is h. ends_unread e l ending stream s h;
  fails_open = λ c l failing s w at h. unread_change e c none_kept s.clients (calm_none s.clients c) h;
  fails_asked = λ c l failing s w at h. unread_change e c none_kept s.clients (calm_none s.clients c) h;
  links = λ t f s w h. h;
  link_ends = λ t ending s w h. marks_unread e (all_end t ending (forgets t s)).state.clients (all_end_unread e t ending (forgets t s) h);
  online = λ t version maxdata identity s w h.
      marks_unread e (streams_end_first (is_connected t s.devices) t s).state.clients (first_unread e (is_connected t s.devices) t s h);
  unauthorized = λ t row s w is offline h. marks_unread e s.clients h;
  forwards = λ forwards s w led h. h;
  stops = λ c x s w is asking h. unread_closes e c (only_client c s.clients) (only_unread e c s.clients h);
}

-- ---- what a client asked leaves no whole request, where a next one is read
none_left : (rest : List ℕ) → length rest ≤ 0 → request_at rest ≡ More
none_left [] fits = refl
none_left (b ∷ rest) fits = absurd (omega (arith, fits))

module _ (devices : DeviceTable) (forwards : List (ℕ × ForwardRow)) where
  abbrev Finishes : (Asked → Asked) → ℕ → Type 0
  Finishes others n = (q : Asked) → length q.rest ≤ n → q.next ≡ None → (others q).next ≡ None → request_at (others q).rest ≡ More

  module _ (reply : List ℕ) (size n : ℕ) (others : Asked → Asked) (later : Finishes others n) where
    next_finished : (next : Next) (q : Asked) → (length (drop size q.rest) ≤ n) × (q.next ≡ None)
        → (after_next next reply size others q).next ≡ None
        → request_at (after_next next reply size others q).rest ≡ More
    next_finished (Select id) q h e = later (record (replied reply size q) { selected = Some id }) h.0 h.1 e
    next_finished Close q h e = absurd (let clash : Some Close ≡ None = e in cc)
    next_finished (Track long) q h e = absurd (let clash : Some (Track long) ≡ None = e in cc)
    next_finished (Open t service) q h e = absurd (let clash : Some (Open t service) ≡ None = e in cc)
    next_finished (Bind t local remote chosen) q h e = absurd (let clash : Some (Bind t local remote chosen) ≡ None = e in cc)
    next_finished (Rebind t local remote) q h e = absurd (let clash : Some (Rebind t local remote) ≡ None = e in cc)
    next_finished (Unbind local) q h e = absurd (let clash : Some (Unbind local) ≡ None = e in cc)
    next_finished UnbindAll q h e = absurd (let clash : Some UnbindAll ≡ None = e in cc)
    next_finished Stop q h e = absurd (let clash : Some Stop ≡ None = e in cc)

  reads_finished : (n : ℕ) (q : Asked) → length q.rest ≤ n → q.next ≡ None → (reads_on devices forwards n q).next ≡ None
      → request_at (reads_on devices forwards n q).rest ≡ More
  reads_finished zero q fits none e = none_left q.rest fits
  reads_finished (suc n) q fits none e = go (request_at q.rest) refl (λ r g u v. reads_finished n r g u v) e
    where
      go : (f : Found) → request_at q.rest ≡ f
          → ((r : Asked) → length r.rest ≤ n → r.next ≡ None → (reads_on devices forwards n r).next ≡ None → request_at
          (reads_on devices forwards n r).rest ≡ More)
          → (after_found devices forwards f (reads_on devices forwards n) q).next ≡ None
          → request_at (after_found devices forwards f (reads_on devices forwards n) q).rest ≡ More
      go More is later e = is
      go Malformed is later e = absurd (let clash : Some Close ≡ None = e in cc)
      go (Whole len) is later e =
          let a : Answer = answer devices.rows forwards q.selected (meaning (take len (drop 4 q.rest))) in
          let shorter : length (drop (4 + len) q.rest) ≤ n = omega (arith, length-drop (4 + len) q.rest, fits) in
          next_finished a.bytes (4 + len) n (reads_on devices forwards n) later a.next q (shorter, none) e

  pub asks_finished : (bytes : List ℕ) (q : Asked) → q.next ≡ None → (asks_with devices forwards bytes q).next ≡ None
      → request_at (asks_with devices forwards bytes q).rest ≡ More
  asks_finished bytes q none e = reads_finished (length (q.rest ++ bytes)) (record q { rest = q.rest ++ bytes }) (omega arith) none e

-- ---- what follows a request, the client asks no more
abbrev NotAsking : ℕ → Rows (Option Client) → Type 0
NotAsking c clients = (y : Client) → clients c ≡ Some y → y.about.phase ≡ Asking → ⊥

module _ (c : ℕ) (clients : Rows (Option Client)) (x : Client) (is : clients c ≡ Some x) where
  closes_not : NotAsking c (change_row c (option_and_then closing) clients)
  closes_not y e asks = closing_asks x.due x y (sym (changed_here c closing clients x is) ∙ e) asks

  other_not : (f : Client → Option Client) (z : Client) → f x ≡ Some z → (z.about.phase ≡ Asking → ⊥)
      → NotAsking c (change_row c (option_and_then f) clients)
  other_not f z now other y e asks =
      let same : z ≡ y = (let both : Some z ≡ Some y = sym now ∙ (sym (changed_here c f clients x is) ∙ e) in cc) in
      other (ap (λ (k : Client). k.about.phase) same ∙ asks)

module _ (c : ℕ) (s : State) (x : Client) (is : s.clients c ≡ Some x) where
  opens_not : (t : ℕ) (service : List ℕ) → NotAsking c (opens false c t service s).state.clients
  opens_not t service = go (eqb s.drawn stream_ids)
    where
      go : (b : Bool) → NotAsking c (cond b (no_ids_left false c s) (asks_for (s.drawn + 1) c t service s)).state.clients
      go true = closes_not c (to_client c (with_due (failed (codes "no stream ids left")).bytes) s).clients
          (record x { due = x.due ++ (failed (codes "no stream ids left")).bytes })
          (changed_here c (with_due (failed (codes "no stream ids left")).bytes) s.clients x is)
      go false = other_not c s.clients x is (in_phase (Opening (s.drawn + 1)))
          (record x { about = record x.about { phase = Opening (s.drawn + 1) } }) refl
          (no_opening (s.drawn + 1))

  goes_on_not : (devices : DeviceTable) (next : Next) → IsAskedReady devices (Some next)
      → NotAsking c (goes_on (Some next) c s).state.clients
  goes_on_not devices (Select id) ready = absurd ready
  goes_on_not devices (Track long) ready =
      other_not c s.clients x is (tracks long)
      (record x { about = record x.about { phase = Tracking; long = long; mark = false }; held = [] }) refl
      no_tracking
  goes_on_not devices (Open t service) ready = opens_not t service
  goes_on_not devices (Bind t local remote chosen) ready =
      let want : Want = record { transport = t; local = local; remote = remote } in
      other_not c s.clients x is (awaits want)
      (record x { about = record x.about { phase = Binding; want = Some want }; held = [] }) refl no_binding
  goes_on_not devices Stop ready = closes_not c (only_client c s.clients) x (rw (eq-eqb c c refl) is)
  goes_on_not devices _ ready = closes_not c s.clients x is

-- ---- read
-- a client asked: each client that asks keeps no whole request then
asks_unread : (q : Asked) (c : ℕ) (client : Client) (s : State) → (s.clients c ≡ Some client) × (client.about.phase ≡ Asking)
    → IsAskedReady s.devices q.next × (q.next ≡ None → request_at q.rest ≡ More) → UnreadBut (λ _. ⊥) s.clients
    → UnreadBut (λ _. ⊥) (asks q c s).state.clients
asks_unread q c client s is asked h = record { more = λ k y apart e asks. all k y e asks (cases_eq c k) }
  where
    now : Client
    now = record client { about = record client.about { selected = q.selected }; held = q.rest; due = client.due ++ q.replies }

    owed : State
    owed = to_client c (with_due q.replies) (to_client c (has_asked q) s)

    here : (to_client c (with_due q.replies) (to_client c (has_asked q) s)).clients c ≡ Some now
    here =
        let taken : Client = record client { about = record client.about { selected = q.selected }; held = q.rest } in
        changed_here c (with_due q.replies) (to_client c (has_asked q) s).clients taken (changed_here c (has_asked q) s.clients client is.0)

    other : (k : ℕ) (y : Client) → (c ≡ k → ⊥) → (b : Bool) → eqb c k ≡ b
        → cond b (option_and_then (has_asked q) (s.clients k)) (s.clients k) ≡ Some y
        → y.about.phase ≡ Asking → request_at y.held ≡ More
    other k y apart true f e asks = absurd (apart (eqb-true c k f))
    other k y apart false f e asks = h.more k y (λ b. b) e asks

    but : UnreadBut (λ k. c ≡ k) (to_client c (has_asked q) s).clients
    but = record { more = λ k y apart e asks. other k y apart (eqb c k) refl e asks }

    others : UnreadBut (λ k. c ≡ k) (goes_on q.next c (to_client c (with_due q.replies) (to_client c (has_asked q) s))).state.clients
    others = goes_on_kept (unread_moves (λ k. c ≡ k)) (to_client c (with_due q.replies) (to_client c (has_asked q) s)) []
        (unread_due (λ k. c ≡ k) c q.replies (to_client c (has_asked q) s).clients but) q.next c
        (record { client = now; here = here; in_phase = is.1 }) asked.0

    at_c : (o : Option Next) → q.next ≡ o → (y : Client)
        → (goes_on o c (to_client c (with_due q.replies) (to_client c (has_asked q) s))).state.clients c ≡ Some y
        → y.about.phase ≡ Asking → request_at y.held ≡ More
    at_c None f y e asks =
        let same : now ≡ y = (let both : Some now ≡ Some y = sym here ∙ e in cc) in
        ap (λ (k : Client). request_at k.held) (sym same) ∙ asked.1 f
    at_c (Some next) f y e asks =
        absurd (goes_on_not c (to_client c (with_due q.replies) (to_client c (has_asked q) s)) now here s.devices next
        (subst (IsAskedReady s.devices) f asked.0) y e asks)

    all : (k : ℕ) (y : Client)
        → (goes_on q.next c (to_client c (with_due q.replies) (to_client c (has_asked q) s))).state.clients k ≡ Some y
        → y.about.phase ≡ Asking → (c ≡ k) ⊎ (c ≡ k → ⊥) → request_at y.held ≡ More
    all k y e asks (inr apart) = others.more k y apart e asks
    all k y e asks (inl same) =
        at_c q.next refl y
        (ap (goes_on q.next c (to_client c (with_due q.replies) (to_client c (has_asked q) s))).state.clients same
        ∙ e) asks

reads_unread : (c : ℕ) (bytes : List ℕ) (s : State) → UnreadBut (λ _. ⊥) s.clients
    → UnreadBut (λ _. ⊥) (rule (Read c bytes) s).state.clients
reads_unread c bytes s h = go (s.clients c) refl
  where
    in_phase_of : (client : Client) → s.clients c ≡ Some client → (phase : Phase) → client.about.phase ≡ phase
        → UnreadBut (λ _. ⊥) (reads_in phase c bytes client s).state.clients
    in_phase_of client is Asking asking =
        asks_unread (asks_with s.devices s.forwards bytes (asked_before client)) c client s (is, asking) (
          asks_ready s.devices s.forwards bytes (asked_before client) tt,
          asks_finished s.devices s.forwards bytes
              (asked_before client) refl,
        ) h
    in_phase_of client is (Opening l) e = unread_change (λ _. ⊥) c (with_held (client.held ++ bytes)) s.clients
        (calm_held s.clients c (client.held ++ bytes) client is (subst HasOne (sym e) tt)) h
    in_phase_of client is (Streaming l) e = unread_change (λ _. ⊥) c (with_held (client.held ++ bytes)) s.clients
        (calm_held s.clients c (client.held ++ bytes) client is (subst HasOne (sym e) tt)) h
    in_phase_of client is _ e = h

    go : (o : Option Client) → s.clients c ≡ o → UnreadBut (λ _. ⊥) (reads_from o c bytes s).state.clients
    go None is = h
    go (Some client) is = in_phase_of client is client.about.phase refl

-- ---- who comes
comes_unread : (forwarded : Bool) (c : ℕ) (s : State) → UnreadBut (λ _. ⊥) s.clients → UnreadBut (λ _. ⊥) (comes forwarded c s).clients
comes_unread forwarded c s h = record { more = λ k y apart is asks. go k y (eqb c k) is asks }
  where
    go : (k : ℕ) (y : Client) (b : Bool) → cond b (Some (new_client forwarded c)) (s.clients k) ≡ Some y
        → y.about.phase ≡ Asking → request_at y.held ≡ More
    go k y true is asks = let same : new_client forwarded c ≡ y = cc in ap (λ (x : Client). request_at x.held) (sym same)
    go k y false is asks = h.more k y (λ b. b) is asks

rule_unread : (e : Entry) (s : State) → UnreadBut (λ _. ⊥) s.clients → UnreadBut (λ _. ⊥) (rule e s).state.clients
rule_unread (Read c bytes) s h = reads_unread c bytes s h
rule_unread (Join c) s h = rule_kept (unread_moves (λ _. ⊥)) (Join c) s [] (comes_unread false c s h)
rule_unread (Enter c port) s h = rule_kept (unread_moves (λ _. ⊥)) (Enter c port) s [] (comes_unread true c s h, h)
rule_unread (Attach t kind serial) s h = rule_kept (unread_moves (λ _. ⊥)) (Attach t kind serial) s [] (marks_unread (λ _. ⊥) s.clients h)
rule_unread e s h = rule_kept (unread_moves (λ _. ⊥)) e s [] h

-- A client that asks keeps no whole request unread.
pub all_unread : (h : History) → UnreadBut (λ _. ⊥) (state h).clients
all_unread [] = record { more = λ k x apart is asks. absurd (let clash : None ≡ Some x = is in cc) }
all_unread (e ∷ older) =
    let ruled : State = (rule e (state older)).state in
    up_all_kept (serves (unread_moves (λ _. ⊥))) ruled [] (rule_unread e (state older) (all_unread older)) ruled.drawn
