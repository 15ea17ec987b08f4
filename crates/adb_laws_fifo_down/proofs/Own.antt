-- What is seen of a stream when it changes, when its client changes, and when it ends.
use Rattle.std.proofs.Common.{ℕ, ◌≡◌, Bool, true, false, cond, List, [], ◌∷◌, ◌++◌, Option, Some, None, refl, sym, ◌∙◌, ap, subst, eqb}
use Rattle.std.proofs.Common.{codes}
use Rattle.std.proofs.lemmas.Bool.{eq-eqb}
use Rattle.std.proofs.lemmas.List.{append-nil}
use Rattle.std.specs.Prelude.{option_map}
use Rattle.adb_stream.specs.declared.row.Stream.{Stream}
use Rattle.adb_stream.specs.declared.row.Part.{Part}
use Rattle.adb_client.specs.declared.phase.Phase.{Phase}
use Rattle.adb_client.specs.declared.phase.Phase.TheVariants.{Opening, Streaming}
use Rattle.adb_reply.specs.Strings.{failed}
use Rattle.adb_history.specs.Rows.{Client, State, to_client, to_stream, none_kept, with_due, with_stream_part}
use Rattle.adb_history.specs.Events.{Made, Event, due_to_client, ended}
use Rattle.adb_history.specs.declared.ending.Ending.{Ending}
use Rattle.adb_history.specs.Clients.{owe_client, closes, closes_with, closing, closing_with}
use Rattle.adb_history.specs.Streams.{loses, client_loses, tells_end, ends_row}
use Rattle.adb_history.specs.Moves.{After}
use Rattle.adb_history.proofs.Following.{after_quietly, changed_here, changed_none}
use Rattle.adb_laws_fifo_down.specs.Line.{Line, SeenStream, SeenClient, View, view, seen, seen_client, Shows, first_of, tells, closing_seen}
use Rattle.adb_laws_fifo_down.specs.Line.{loss, lost_by, ended_as, over}
use Rattle.adb_laws_fifo_down.specs.Treated.{due_more}
use Rattle.adb_laws_fifo_down.proofs.Shown.{view_told, apart_change, first_none}
use Rattle.adb_laws_fifo_down.proofs.Others.{after_next, part_keeps, none_keeps}

-- ---- what is seen
abbrev pub with_stream : Option SeenStream → View → View
with_stream o v = record v { stream = o }

abbrev pub with_client : Option SeenClient → View → View
with_client o v = record v { client = o }

abbrev pub with_ending : Option Ending → View → View
with_ending o v = record v { ending = o }

-- a client that is owed bytes
abbrev pub owed_more : List ℕ → SeenClient → View → View
owed_more bytes a v = record v { client = Some (record a { due = a.due ++ bytes }); output = v.output ++ bytes }

module _ (b : Line) where
  -- the row that is seen
  pub client_seen : (v : View) (s : State) (w : List Event) (o : Option Client) → Shows b v s w
      → s.clients b.client ≡ o → v.client ≡ option_map seen_client o
  client_seen v s w o h is = ap (λ (u : View). u.client) (sym h.1) ∙ ap (option_map seen_client) is

  pub stream_seen : (v : View) (s : State) (w : List Event) (o : Option Stream) → Shows b v s w → s.streams b.id ≡ o
      → v.stream ≡ option_map seen o
  stream_seen v s w o h is = ap (λ (u : View). u.stream) (sym h.1) ∙ ap (option_map seen) is

  -- the stream changes
  pub own_stream : (v : View) (f : Stream → Option Stream) (x : Stream) (s : State) (w : List Event) → s.streams b.id ≡ Some x
      → ((x y : Stream) → f x ≡ Some y → (y.client ≡ x.client) × (y.link ≡ x.link)) → Shows b v s w
      → Shows b (with_stream (option_map seen (f x)) v) (to_stream b.id f s) w
  own_stream v f x s w is keeps h = (
    apart_change b s.drawn b.id f s.streams keeps h.0,
    ap (λ (o : Option Stream). with_stream (option_map seen o) (view b s w)) (changed_here b.id f s.streams x is)
        ∙ ap (with_stream (option_map seen (f x))) h.1,
  )

  pub own_part : (v : View) (part : Part) (x : Stream) (s : State) (w : List Event) → s.streams b.id ≡ Some x → Shows b v s w
      → Shows b (with_stream (Some (seen (record x { part = part }))) v) (to_stream b.id (with_stream_part part) s) w
  own_part v part x s w is h = own_stream v (with_stream_part part) x s w is (part_keeps part) h

  -- its client changes
  pub own_client : (v : View) (f : Client → Option Client) (a : Client) (s : State) (w : List Event)
      → s.clients b.client ≡ Some a → Shows b v s w
      → Shows b (with_client (option_map seen_client (f a)) v) (to_client b.client f s) w
  own_client v f a s w is h = (
    h.0,
    ap (λ (o : Option Client). with_client (option_map seen_client o) (view b s w)) (changed_here b.client f s.clients a is)
        ∙ ap (with_client (option_map seen_client (f a))) h.1,
  )

  -- what is told of them
  pub told_due : (bytes : List ℕ) (u : View) → tells b (due_to_client b.client bytes) u ≡ record u { output = u.output ++ bytes }
  told_due bytes u =
      let output : u.output ++ cond (eqb b.client b.client) bytes [] ≡ u.output ++ bytes =
      ap (λ (x : Bool). u.output ++ cond x bytes []) (eq-eqb b.client b.client refl) in
      let okays : u.okays ++ [] ≡ u.okays = append-nil u.okays in
      let ending : first_of u.ending None ≡ u.ending = first_none u.ending in
      λ i. record u { output = output i; okays = okays i; ending = ending i }

  told_ended : (ending : Ending) (u : View) → tells b (ended b.id ending) u ≡ with_ending (first_of u.ending (Some ending)) u
  told_ended ending u =
      let output : u.output ++ [] ≡ u.output = append-nil u.output in
      let okays : u.okays ++ [] ≡ u.okays = append-nil u.okays in
      let end : first_of u.ending (cond (eqb b.id b.id) (Some ending) None) ≡ first_of u.ending (Some ending) =
      ap (λ (x : Bool). first_of u.ending (cond x (Some ending) None)) (eq-eqb b.id b.id refl) in
      λ i. record u { output = output i; okays = okays i; ending = end i }

  pub own_due : (v : View) (bytes : List ℕ) (a : Client) (s : State) (w : List Event) → s.clients b.client ≡ Some a → Shows b v s w
      → After (Shows b (owed_more bytes (seen_client a) v)) w (owe_client b.client bytes s)
  own_due v bytes a s w is h =
      let changed = own_client v (with_due bytes) a s w is h in
      let u : View = with_client (Some (seen_client (record a { due = a.due ++ bytes }))) v in
      let said : Event = due_to_client b.client bytes in
      (changed.0, view_told b (to_client b.client (with_due bytes) s) w said ∙ (ap (tells b said) changed.1 ∙ told_due bytes u))

  pub own_no_client : (v : View) (f : Client → Option Client) (s : State) (w : List Event) → s.clients b.client ≡ None → Shows b v s w
      → Shows b v (to_client b.client f s) w
  own_no_client v f s w is h = (
    h.0,
    ap (λ (o : Option Client). with_client (option_map seen_client o) (view b s w))
        (changed_none b.client f s.clients is ∙ sym is) ∙ h.1,
  )

  -- bytes are owed to the client, whether it is there or not
  pub own_owes : (v : View) (bytes : List ℕ) (o : Option Client) (s : State) (w : List Event) → s.clients b.client ≡ o → Shows b v s w
      → After (Shows b (record v { client = due_more bytes (option_map seen_client o); output = v.output ++ bytes }))
      w (owe_client b.client bytes s)
  own_owes v bytes (Some a) s w is h = own_due v bytes a s w is h
  own_owes v bytes None s w is h =
      let kept = own_no_client v (with_due bytes) s w is h in
      let said : Event = due_to_client b.client bytes in (
        kept.0,
        view_told b (to_client b.client (with_due bytes) s) w said ∙ (ap (tells b said) kept.1 ∙ (told_due bytes v
            ∙ ap (λ (o : Option SeenClient). record v { client = o; output = v.output ++ bytes }) (client_seen v s w None h is))),
      )

  pub own_told_end : (v : View) (ending : Ending) (s : State) (w : List Event) → Shows b v s w
      → Shows b (with_ending (first_of v.ending (Some ending)) v) s (w ++ ended b.id ending ∷ [])
  own_told_end v ending s w h = (h.0, view_told b s w (ended b.id ending) ∙ (ap (tells b (ended b.id ending)) h.1 ∙ told_ended ending v))

  -- ---- it ends
  pub closing_is : (due : List ℕ) (a : Client) → option_map seen_client (closing_with due a) ≡ closing_seen due (seen_client a)
  closing_is [] a = refl
  closing_is (x ∷ due) a = refl

  pub own_closes : (v : View) (a : Client) (s : State) (w : List Event) → s.clients b.client ≡ Some a → Shows b v s w
      → Shows b (with_client (closing_seen a.due (seen_client a)) v) (closes b.client s) w
  own_closes v a s w is h =
      subst (λ (o : Option SeenClient). Shows b (with_client o v) (closes b.client s) w) (closing_is a.due a)
      (own_client v closing a s w is h)

  own_closes_with : (v : View) (bytes : List ℕ) (a : Client) (s : State) (w : List Event) → s.clients b.client ≡ Some a → Shows b v s w
      → After (Shows b (with_client (closing_seen (a.due ++ bytes) (record (seen_client a) { due = a.due ++ bytes }))
      (record v { output = v.output ++ bytes })))
      w (closes_with b.client bytes s)
  own_closes_with v bytes a s w is h =
      let owed : Made = owe_client b.client bytes s in
      own_closes (owed_more bytes (seen_client a) v) (record a { due = a.due ++ bytes }) owed.state (w ++ owed.told)
      (changed_here b.client (with_due bytes) s.clients a is) (own_due v bytes a s w is h)

  own_loses : (v : View) (forwarded : Bool) (phase : Phase) (a : Client) (s : State) (w : List Event)
      → s.clients b.client ≡ Some a → Shows b v s w
      → After (Shows b (loss forwarded phase (seen_client a) v)) w (loses forwarded phase b.client s)
  own_loses v forwarded (Streaming l) a s w is h = after_quietly (Shows b _) w (closes b.client s) (own_closes v a s w is h)
  own_loses v true (Opening l) a s w is h = after_quietly (Shows b _) w (closes b.client s) (own_closes v a s w is h)
  own_loses v false (Opening l) a s w is h = own_closes_with v (failed (codes "closed")).bytes a s w is h
  own_loses v true _ a s w is h = after_quietly (Shows b v) w s h
  own_loses v false _ a s w is h = after_quietly (Shows b v) w s h

  own_client_loses : (v : View) (o : Option Client) (s : State) (w : List Event) → s.clients b.client ≡ o → Shows b v s w
      → After (Shows b (lost_by (option_map seen_client o) v)) w (client_loses o b.client s)
  own_client_loses v None s w is h = after_quietly (Shows b v) w s h
  own_client_loses v (Some a) s w is h = own_loses v a.about.forwarded a.about.phase a s w is h

  own_tells_end : (v : View) (orphan : Bool) (ending : Ending) (s : State) (w : List Event) → Shows b v s w
      → After (Shows b (with_ending (ended_as orphan ending v.ending) v)) w (tells_end orphan b.id ending s)
  own_tells_end v true ending s w h = after_quietly (Shows b v) w s h
  own_tells_end v false ending s w h = own_told_end v ending s w h

  pub own_ends : (v : View) (ending : Ending) (x : Stream) (s : State) (w : List Event) → s.streams b.id ≡ Some x → Shows b v s w
      → After (Shows b (over x.part.orphan ending v)) w (ends_row b.id ending x s)
  own_ends v ending x s w is h =
      let gone : State = to_stream b.id none_kept s in
      let told : Made = tells_end x.part.orphan b.id ending gone in
      let u : View = with_ending (ended_as x.part.orphan ending v.ending) (with_stream None v) in
      after_next (Shows b u) (Shows b (over x.part.orphan ending v)) w told (λ s. client_loses (s.clients x.client) x.client s)
      (own_tells_end (with_stream None v) x.part.orphan ending gone w (own_stream v none_kept x s w is none_keeps h))
      (λ y now. loses_client u told.state y now)
    where
      loses_client : (u : View) (s : State) (w : List Event) → Shows b u s w
          → After (Shows b (lost_by u.client u)) w (client_loses (s.clients x.client) x.client s)
      loses_client u s w now =
          subst (λ (n : ℕ). After (Shows b (lost_by u.client u)) w (client_loses (s.clients n) n s)) (sym (h.0.client x is))
          (subst (λ (o : Option SeenClient). After (Shows b (lost_by o u)) w (client_loses (s.clients b.client) b.client s))
          (sym (client_seen u s w (s.clients b.client) now refl)) (own_client_loses u (s.clients b.client) s w refl now))
