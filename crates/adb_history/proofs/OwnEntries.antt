-- What the entries of one client make: they change its row alone, and a stream that they begin is its own.
use Rattle.std.proofs.Common.{ℕ, ◌+◌, ◌≡◌, Bool, true, false, cond, List, [], ◌∷◌, ◌++◌, Option, Some, None, refl, sym, ◌∙◌, ap, subst, eqb}
use Rattle.std.proofs.Common.{codes}
use Rattle.std.proofs.Common.{inl, inr, ◌⊎◌}
use Rattle.std.proofs.lemmas.Bool.{eqb-true, eq-eqb}
use Rattle.std.specs.Prelude.{option_and_then, ◌==◌}
use Rattle.adb_outside.specs.Tables.{without, change_row}
use Rattle.adb_outside.specs.declared.kinds.Cause.{Cause}
use Rattle.adb_outside.specs.declared.kinds.Cause.TheVariants.{Eof, Fault, Starved, NoThread}
use Rattle.adb_forward.specs.declared.row.ForwardRow.{ForwardRow}
use Rattle.adb_stream.specs.Flow.{new_flow}
use Rattle.adb_stream.specs.Stream.{new_stream}
use Rattle.adb_stream.specs.declared.row.Stream.{Stream}
use Rattle.adb_client.specs.declared.phase.Phase.{Phase}
use Rattle.adb_client.specs.declared.phase.Phase.TheVariants.{Asking, Opening, Streaming, Binding, Tracking, Closing, Gone}
use Rattle.adb_client.specs.declared.about.Want.{Want}
use Rattle.adb_reply.specs.Strings.{failed}
use Rattle.adb_reply.specs.declared.answer.Next.{Next}
use Rattle.adb_reply.specs.declared.answer.Next.TheVariants as what
use Rattle.adb_history.specs.Rows.{Client, State, to_client, none_kept, with_due, in_phase, with_stream_part}
use Rattle.adb_history.specs.Events.{Made, quietly, then_also}
use Rattle.adb_history.specs.Links.{is_credit}
use Rattle.adb_history.specs.Clients.{owe_client, closing_with, closing, closes, closes_with}
use Rattle.adb_history.specs.Streams.{stream_ids, draw, asks_for, no_ids_left, opens}
use Rattle.adb_history.specs.Forwarding.{put_forward}
use Rattle.adb_history.specs.Losing.{orphaned, stream_fails, stream_of, client_fails, input_ended, input_ends, client_ends}
use Rattle.adb_history.specs.Reading.{tracks, awaits, goes_on}
use Rattle.adb_history.specs.Book.{kills}
use Rattle.adb_history.proofs.Asked.{EndsReading}
use Rattle.adb_history.proofs.Waiting.{is_waiting, NoneWaits, AreFree}

-- a stream that was there, of the same client; or one of a client that waits no more
abbrev pub OwnStream : ℕ → State → Made → ℕ → Stream → Type 0
OwnStream c s m l stream =
    ((a : Stream) × (s.streams l ≡ Some a) × (stream.client ≡ a.client)) ⊎ ((stream.client ≡ c) × NoneWaits (m.state.clients c))

pub record Owns (c : ℕ) (s : State) (m : Made) : Type 0 where
  pub others : (k : ℕ) → eqb c k ≡ false → m.state.clients k ≡ s.clients k
  pub streams : (l : ℕ) (stream : Stream) → m.state.streams l ≡ Some stream → OwnStream c s m l stream
  pub own : NoneWaits (s.clients c) → NoneWaits (m.state.clients c)

pub owns_free : (c : ℕ) (s : State) (m : Made) → Owns c s m → AreFree s → AreFree m.state
owns_free c s m h free l stream is = go (h.streams l stream is)
  where
    at_client : (k : ℕ) (here : Bool) → eqb c k ≡ here → NoneWaits (s.clients k) → NoneWaits (m.state.clients k)
    at_client k true e none =
        subst (λ (n : ℕ). NoneWaits (m.state.clients n)) (eqb-true c k e)
        (h.own (subst (λ (n : ℕ). NoneWaits (s.clients n)) (sym (eqb-true c k e)) none))
    at_client k false e none = subst NoneWaits (sym (h.others k e)) none

    go : OwnStream c s m l stream → NoneWaits (m.state.clients stream.client)
    go (inl (a, was, same)) = subst (λ (k : ℕ). NoneWaits (m.state.clients k)) (sym same)
        (at_client a.client (eqb c a.client) refl (free l a was))
    go (inr (same, none)) = subst (λ (k : ℕ). NoneWaits (m.state.clients k)) (sym same) none

module _ (c : ℕ) where
  pub owns_then : (s : State) (m : Made) (rule : State → Made) → Owns c s m → Owns c m.state (rule m.state) → Owns c s (then_also m rule)
  owns_then s m rule h i = record {
    others = λ k e. i.others k e ∙ h.others k e;
    streams = λ l stream is. go l stream (i.streams l stream is);
    own = λ none. i.own (h.own none);
  }
    where
      before : (l : ℕ) (stream a : Stream) → stream.client ≡ a.client → OwnStream c s m l a → OwnStream c s (then_also m rule) l stream
      before l stream a same (inl (b, was, is)) = inl (b, was, same ∙ is)
      before l stream a same (inr (is, none)) = inr (same ∙ is, i.own none)

      go : (l : ℕ) (stream : Stream) → OwnStream c m.state (rule m.state) l stream → OwnStream c s (then_also m rule) l stream
      go l stream (inl (a, was, same)) = before l stream a same (h.streams l a was)
      go l stream (inr (is, none)) = inr (is, none)

  pub owns_over : (s next : State) (m : Made) → Owns c s (quietly next) → Owns c next m → Owns c s m
  owns_over s next m h i = owns_then s (quietly next) (λ _. m) h i

  -- the rows stay
  pub owns_all : (s : State) (m : Made) → m.state.clients ≡ s.clients → m.state.streams ≡ s.streams → Owns c s m
  owns_all s m clients streams = record {
    others = λ k e. ap (λ (rows : ℕ → Option Client). rows k) clients;
    streams = λ l stream is. inl (stream, ap (λ (rows : ℕ → Option Stream). rows l) (sym streams) ∙ is, refl);
    own = λ none. subst (λ (rows : ℕ → Option Client). NoneWaits (rows c)) (sym clients) none;
  }

  -- the row of a client that is there
  pub own_row : (f : Client → Option Client) (rows : ℕ → Option Client)
      → change_row c (option_and_then f) rows c ≡ option_and_then f (rows c)
  own_row f rows = ap (λ (b : Bool). cond b (option_and_then f (rows c)) (rows c)) (eq-eqb c c refl)

  pub none_none : NoneWaits None
  none_none a e = let clash : None ≡ Some a = e in cc

  pub none_of : (o : Option Client) (b : Client) → o ≡ Some b → is_waiting b.about.phase ≡ false → NoneWaits o
  none_of o b is none a e =
      let same : b ≡ a = let both : Some b ≡ Some a = sym is ∙ e in cc in
      subst (λ (x : Client). is_waiting x.about.phase ≡ false) same none

  none_changed : (f : Client → Option Client) (o : Option Client) → ((a : Client) → o ≡ Some a → NoneWaits (f a))
      → NoneWaits (option_and_then f o)
  none_changed f None at = none_none
  none_changed f (Some a) at = at a refl

  pub owns_to_client : (f : Client → Option Client) (s : State)
      → (NoneWaits (s.clients c) → (a : Client) → s.clients c ≡ Some a → NoneWaits (f a))
      → Owns c s (quietly (to_client c f s))
  owns_to_client f s at = record {
    others = λ k e. ap (λ (b : Bool). cond b (option_and_then f (s.clients k)) (s.clients k)) e;
    streams = λ l stream is. inl (stream, is, refl);
    own = λ none. subst NoneWaits (sym (own_row f s.clients)) (none_changed f (s.clients c) (at none));
  }

  none_closing : (due : List ℕ) (a : Client) → NoneWaits (closing_with due a)
  none_closing [] a = none_none
  none_closing (b ∷ due) a = none_of (closing_with (b ∷ due) a) (record a {
    about = record a.about { phase = Closing; mark = false; want = None };
    held = [];
    due = b ∷ due;
  }) refl refl

  -- ---- a client closes
  pub owns_closes : (s : State) → Owns c s (quietly (closes c s))
  owns_closes s = owns_to_client closing s (λ none a e. none_closing a.due a)

  pub closed_row : (s : State) → NoneWaits ((closes c s).clients c)
  closed_row s = subst NoneWaits (sym (own_row closing s.clients)) (none_changed closing (s.clients c) (λ a e. none_closing a.due a))

  pub owns_owe_client : (bytes : List ℕ) (s : State) → Owns c s (owe_client c bytes s)
  owns_owe_client bytes s = owns_then s (quietly (to_client c (with_due bytes) s))
      (λ x. record { state = x; told = (owe_client c bytes s).told })
      (owns_to_client (with_due bytes) s
      (λ none a e. none_of (with_due bytes a) (record a { due = a.due ++ bytes }) refl (none a e)))
      (owns_all (to_client c (with_due bytes) s) (owe_client c bytes s) refl refl)

  pub owns_closes_with : (bytes : List ℕ) (s : State) → Owns c s (closes_with c bytes s)
  owns_closes_with bytes s =
      let m = owe_client c bytes s in
      owns_then s m (λ x. quietly (closes c x)) (owns_owe_client bytes s) (owns_closes m.state)

  pub closed_with_row : (bytes : List ℕ) (s : State) → NoneWaits ((closes_with c bytes s).state.clients c)
  closed_with_row bytes s = closed_row (owe_client c bytes s).state

  -- ---- a stream begins
  opening_row : (l : ℕ) (s : State) → NoneWaits ((to_client c (in_phase (Opening l)) s).clients c)
  opening_row l s = subst NoneWaits (sym (own_row (in_phase (Opening l)) s.clients)) (none_changed (in_phase (Opening l)) (s.clients c)
      (λ a e. none_of (in_phase (Opening l) a) (record a { about = record a.about { phase = Opening l } }) refl refl))

  owns_asks_for : (l t : ℕ) (service : List ℕ) (s : State) → l ≡ s.drawn + 1 → Owns c s (asks_for l c t service s)
  owns_asks_for l t service s is = record {
    others = λ k e. ap (λ (b : Bool). cond b (option_and_then (in_phase (Opening l)) (s.clients k)) (s.clients k)) e;
    streams = λ n stream e. go n (eqb (s.drawn + 1) n) stream e;
    own = λ none. opening_row l (draw (is_credit t s.devices) c t s);
  }
    where
      go : (n : ℕ) (here : Bool) (stream : Stream)
          → cond here (Some (new_stream (s.drawn + 1) c t (new_flow (is_credit t s.devices)))) (s.streams n) ≡ Some stream
          → OwnStream c s (asks_for l c t service s) n stream
      go n true stream e =
          let same : new_stream (s.drawn + 1) c t (new_flow (is_credit t s.devices)) ≡ stream =
          let both : Some (new_stream (s.drawn + 1) c t (new_flow (is_credit t s.devices))) ≡ Some stream = e in cc in
          inr (sym (ap (λ (x : Stream). x.client) same), opening_row l (draw (is_credit t s.devices) c t s))
      go n false stream e = inl (stream, e, refl)

  gone_row : (s : State) → NoneWaits ((to_client c none_kept s).clients c)
  gone_row s = subst NoneWaits (sym (own_row none_kept s.clients)) (none_changed none_kept (s.clients c) (λ a e. none_none))

  owns_no_ids : (forwarded : Bool) (s : State) → Owns c s (no_ids_left forwarded c s)
  owns_no_ids true s = owns_to_client none_kept s (λ none a e. none_none)
  owns_no_ids false s = owns_closes_with (failed (codes "no stream ids left")).bytes s

  no_ids_row : (forwarded : Bool) (s : State) → NoneWaits ((no_ids_left forwarded c s).state.clients c)
  no_ids_row true s = gone_row s
  no_ids_row false s = closed_with_row (failed (codes "no stream ids left")).bytes s

  pub owns_opens : (forwarded : Bool) (t : ℕ) (service : List ℕ) (s : State) → Owns c s (opens forwarded c t service s)
  owns_opens forwarded t service s = go (s.drawn == stream_ids)
    where
      go : (none : Bool) → Owns c s (cond none (no_ids_left forwarded c s) (asks_for (s.drawn + 1) c t service s))
      go true = owns_no_ids forwarded s
      go false = owns_asks_for (s.drawn + 1) t service s refl

  pub opened_row : (forwarded : Bool) (t : ℕ) (service : List ℕ) (s : State) → NoneWaits ((opens forwarded c t service s).state.clients c)
  opened_row forwarded t service s = go (s.drawn == stream_ids)
    where
      go : (none : Bool) → NoneWaits ((cond none (no_ids_left forwarded c s) (asks_for (s.drawn + 1) c t service s)).state.clients c)
      go true = no_ids_row forwarded s
      go false = opening_row (s.drawn + 1) (draw (is_credit t s.devices) c t s)

  -- ---- its input ends
  pub owns_stream_fails : (phase : Phase) (cause : Cause) (o : Option Stream) (s : State) → Owns c s (stream_fails phase cause o s)
  owns_stream_fails (Streaming l) cause (Some stream) s = record {
    others = λ k e. refl;
    streams = λ n x e. go n (eqb l n)
        (s.streams n) x refl e;
    own = λ none. none;
  }
    where
      go : (n : ℕ) (here : Bool) (o : Option Stream) (x : Stream) → s.streams n ≡ o → cond here (option_and_then none_kept o) o ≡ Some x
          → OwnStream c s (stream_fails (Streaming l) cause (Some stream) s) n x
      go n true None x was e = let clash : None ≡ Some x = e in cc
      go n true (Some a) x was e = let clash : None ≡ Some x = e in cc
      go n false o x was e = inl (x, was ∙ e, refl)
  owns_stream_fails (Streaming l) cause None s = owns_all s (quietly s) refl refl
  owns_stream_fails (Opening l) cause (Some stream) s = record {
    others = λ k e. refl;
    streams = λ n x e. go n (eqb l n)
        (s.streams n) x refl e;
    own = λ none. none;
  }
    where
      go : (n : ℕ) (here : Bool) (o : Option Stream) (x : Stream) → s.streams n ≡ o
          → cond here (option_and_then (with_stream_part (orphaned stream.part)) o) o ≡ Some x
          → OwnStream c s (stream_fails (Opening l) cause (Some stream) s) n x
      go n true None x was e = let clash : None ≡ Some x = e in cc
      go n true (Some a) x was e =
          let same : record a { part = orphaned stream.part } ≡ x =
          let both : Some (record a { part = orphaned stream.part }) ≡ Some x = e in cc in
          inl (a, was, sym (ap (λ (y : Stream). y.client) same))
      go n false o x was e = inl (x, was ∙ e, refl)
  owns_stream_fails (Opening l) cause None s = owns_all s (quietly s) refl refl
  owns_stream_fails Asking cause o s = owns_all s (quietly s) refl refl
  owns_stream_fails Binding cause o s = owns_all s (quietly s) refl refl
  owns_stream_fails Tracking cause o s = owns_all s (quietly s) refl refl
  owns_stream_fails Closing cause o s = owns_all s (quietly s) refl refl
  owns_stream_fails Gone cause o s = owns_all s (quietly s) refl refl

  fails_clients : (phase : Phase) (cause : Cause) (o : Option Stream) (s : State) → (stream_fails phase cause o s).state.clients ≡ s.clients
  fails_clients (Streaming l) cause (Some stream) s = refl
  fails_clients (Streaming l) cause None s = refl
  fails_clients (Opening l) cause (Some stream) s = refl
  fails_clients (Opening l) cause None s = refl
  fails_clients _ cause o s = refl

  owns_fails : (cause : Cause) (client : Client) (s : State) → Owns c s (client_fails c cause client s)
  owns_fails cause client s =
      let gone = to_client c none_kept s in
      let stream = stream_of client.about.phase s.streams in
      owns_over s gone (stream_fails client.about.phase cause stream gone) (owns_to_client none_kept s (λ none a e. none_none))
      (owns_stream_fails client.about.phase cause stream gone)

  failed_row : (cause : Cause) (client : Client) (s : State) → NoneWaits ((client_fails c cause client s).state.clients c)
  failed_row cause client s =
      let gone = to_client c none_kept s in
      let same = fails_clients client.about.phase cause (stream_of client.about.phase s.streams) gone in
      subst (λ (rows : ℕ → Option Client). NoneWaits (rows c)) (sym same) (gone_row s)

  input_row : (phase : Phase) (client : Client) (s : State) → s.clients c ≡ Some client → client.about.phase ≡ phase
      → NoneWaits ((input_ends phase c s).clients c)
  input_row (Opening l) client s is e = ended_row (ap is_waiting e)
    where
      ended_row : is_waiting client.about.phase ≡ false → NoneWaits ((to_client c input_ended s).clients c)
      ended_row none = none_of ((to_client c input_ended s).clients c) (record client { about = record client.about { ended = true } })
          (own_row input_ended s.clients ∙ ap (option_and_then input_ended) is) none
  input_row (Streaming l) client s is e =
      none_of ((to_client c input_ended s).clients c) (record client { about = record client.about { ended = true } })
      (own_row input_ended s.clients ∙ ap (option_and_then input_ended) is) (ap is_waiting e)
  input_row Closing client s is e = none_of (s.clients c) client is (ap is_waiting e)
  input_row Gone client s is e = none_of (s.clients c) client is (ap is_waiting e)
  input_row _ client s is e = closed_row s

  owns_input : (phase : Phase) (s : State) → Owns c s (quietly (input_ends phase c s))
  owns_input (Opening l) s = owns_to_client input_ended s
      (λ none a e. none_of (input_ended a) (record a { about = record a.about { ended = true } }) refl (none a e))
  owns_input (Streaming l) s = owns_to_client input_ended s
      (λ none a e. none_of (input_ended a) (record a { about = record a.about { ended = true } }) refl (none a e))
  owns_input Closing s = owns_all s (quietly s) refl refl
  owns_input Gone s = owns_all s (quietly s) refl refl
  owns_input _ s = owns_closes s

  pub owns_ends : (cause : Cause) (o : Option Client) (s : State) → Owns c s (client_ends c cause o s)
  owns_ends cause None s = owns_all s (quietly s) refl refl
  owns_ends Eof (Some client) s = owns_input client.about.phase s
  owns_ends Fault (Some client) s = owns_fails Fault client s
  owns_ends Starved (Some client) s = owns_fails Starved client s
  owns_ends NoThread (Some client) s = owns_fails NoThread client s

  -- a client whose input ended waits no more
  pub ended_waits : (cause : Cause) (o : Option Client) (s : State) → s.clients c ≡ o
      → NoneWaits ((client_ends c cause o s).state.clients c)
  ended_waits cause None s is = subst NoneWaits (sym is) none_none
  ended_waits Eof (Some client) s is = input_row client.about.phase client s is refl
  ended_waits Fault (Some client) s is = failed_row Fault client s
  ended_waits Starved (Some client) s is = failed_row Starved client s
  ended_waits NoThread (Some client) s is = failed_row NoThread client s

  -- ---- what follows its last request
  owns_forwards : (forwards : List (ℕ × ForwardRow)) (s : State) → Owns c s (quietly (closes c (record s { forwards = forwards })))
  owns_forwards forwards s =
      let next = record s { forwards = forwards } in
      owns_over s next (quietly (closes c next)) (owns_all s (quietly next) refl refl) (owns_closes next)

  -- A client that asked is left so: it goes on to ask, or it waits for the listener of a forward, or it waits no more.
  abbrev pub LeftRow : Option Next → Client → Option Client → Type 0
  LeftRow None a o = o ≡ Some a
  LeftRow (Some (what.Bind transport local remote chosen)) a o = o
      ≡ awaits (record { transport = transport; local = local; remote = remote }) a
  LeftRow (Some _) a o = NoneWaits o

  waiting_clash : {X : Type 0} (s : State) (a : Client) → s.clients c ≡ Some a → a.about.phase ≡ Asking → NoneWaits (s.clients c) → X
  waiting_clash s a is asking none = let clash : true ≡ false =
      sym (ap is_waiting asking) ∙ none a is in absurd (let no_way : ⊥ = cc in no_way)

  pub owns_goes_on : (next : Option Next) (a : Client) (s : State) → s.clients c ≡ Some a → a.about.phase ≡ Asking
      → EndsReading next → kills next ≡ false
      → Owns c s (goes_on next c s) × LeftRow next a ((goes_on next c s).state.clients c)
  owns_goes_on None a s is asking ends on = (owns_all s (quietly s) refl refl, is)
  owns_goes_on (Some what.Close) a s is asking ends on = (owns_closes s, closed_row s)
  owns_goes_on (Some (what.Select id)) a s is asking ends on = absurd ends
  owns_goes_on (Some (what.Track long)) a s is asking ends on = (
    owns_to_client (tracks long) s (λ none b e. tracking b),
    subst NoneWaits (sym (own_row (tracks long) s.clients ∙ ap (option_and_then (tracks long)) is)) (tracking a),
  )
    where
      tracking : (b : Client) → NoneWaits (tracks long b)
      tracking b = none_of (tracks long b)
          (record b { about = record b.about { phase = Tracking; long = long; mark = false }; held = [] }) refl refl
  owns_goes_on (Some (what.Open transport service)) a s is asking ends on =
      (owns_opens false transport service s, opened_row false transport service s)
  owns_goes_on (Some (what.Bind transport local remote chosen)) a s is asking ends on =
      let want : Want = record { transport = transport; local = local; remote = remote } in (
        owns_to_client (awaits want) s (λ none b e. waiting_clash s a is asking none),
        own_row (awaits want) s.clients ∙ ap (option_and_then (awaits want)) is,
      )
  owns_goes_on (Some (what.Rebind transport local remote)) a s is asking ends on = (
    owns_forwards (put_forward local transport remote s.devices s.forwards) s,
    closed_row (record s { forwards = put_forward local transport remote s.devices s.forwards }),
  )
  owns_goes_on (Some (what.Unbind local)) a s is asking ends on =
      (owns_forwards (without local s.forwards) s, closed_row (record s { forwards = without local s.forwards }))
  owns_goes_on (Some what.UnbindAll) a s is asking ends on = (owns_forwards [] s, closed_row (record s { forwards = [] }))
  owns_goes_on (Some what.Stop) a s is asking ends on = let clash : true ≡ false = on in cc
