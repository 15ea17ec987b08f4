-- What serving leaves of clients that wait, which ask or wait for a listener: a stream has none of them.
use Rattle.std.proofs.Common.{ℕ, ◌≡◌, Bool, true, false, cond, List, [], ◌∷◌, drop, length, Option, Some, None, refl, sym, ◌∙◌, ap, subst}
use Rattle.std.proofs.Common.{eqb, ◌⊎◌, inl, inr}
use Rattle.std.specs.Prelude.{codes, option_map, option_and_then}
use Rattle.std.proofs.lemmas.Bool.{eqb-true}
use Rattle.adb_stream.specs.declared.row.Stream.{Stream}
use Rattle.adb_stream.specs.Flow.{first_credit, accepted}
use Rattle.adb_client.specs.declared.phase.Phase.{Phase}
use Rattle.adb_client.specs.declared.phase.Phase.TheVariants.{Asking, Opening, Streaming, Binding, Closing}
use Rattle.adb_reply.specs.Strings.{failed}
use Rattle.adb_history.specs.Rows.{Client, Link, State, to_client, to_stream, none_kept, with_due, with_held, in_phase, with_stream_part}
use Rattle.adb_history.specs.Events.{Made, Event, quietly, then_also}
use Rattle.adb_history.specs.declared.ending.Ending.TheVariants.{Lost}
use Rattle.adb_history.specs.Links.{is_connected}
use Rattle.adb_history.specs.Clients.{closing_with, closing}
use Rattle.adb_history.specs.Streams.{loses, client_loses, tells_end, all_end}
use Rattle.adb_history.specs.Flow.{with_flow, up_all}
use Rattle.adb_history.specs.Tracking.{marked_in, marked, mark_all}
use Rattle.adb_history.specs.Losing.{forgets}
use Rattle.adb_history.specs.Packets.{with_remote, streams_end_first, receives}
use Rattle.adb_history.specs.Handing.{unmarked, left_in, hands, puts_to}
use Rattle.adb_history.specs.Machine.{unplugs_on}
use Rattle.adb_history.specs.Moves.{After, Serves}
use Rattle.adb_history.proofs.Following.{after_then}
use Rattle.adb_history.proofs.StreamMoves.{EndsKept, all_end_kept, up_all_kept}
use Rattle.adb_history.proofs.PacketMoves.{receives_kept}
use Rattle.adb_history.proofs.RuleMoves.{puts_kept, unplugs_kept}

-- a client that asks, or waits for the listener of a forward
abbrev pub is_waiting : Phase → Bool
is_waiting Asking = true
is_waiting Binding = true
is_waiting _ = false

-- a client keeps its phase, or waits neither before nor afterwards
abbrev pub PhaseStep : Phase → Phase → Type 0
PhaseStep before after = ((is_waiting before ≡ false) × (is_waiting after ≡ false)) ⊎ (after ≡ before)

abbrev pub WaitStep : Option Client → Option Client → Type 0
WaitStep None None = Unit {0}
WaitStep None (Some b) = ⊥
WaitStep (Some a) None = is_waiting a.about.phase ≡ false
WaitStep (Some a) (Some b) = PhaseStep a.about.phase b.about.phase

abbrev pub StreamStep : Option Stream → Option Stream → Type 0
StreamStep None None = Unit {0}
StreamStep None (Some b) = ⊥
StreamStep (Some a) None = Unit {0}
StreamStep (Some a) (Some b) = b.client ≡ a.client

wait_same : (o : Option Client) → WaitStep o o
wait_same None = tt
wait_same (Some a) = inr refl

phase_then : (a b c : Phase) → PhaseStep a b → PhaseStep b c → PhaseStep a c
phase_then a b c (inl h) (inl i) = inl (h.0, i.1)
phase_then a b c (inl h) (inr e) = inl (h.0, ap is_waiting e ∙ h.1)
phase_then a b c (inr e) (inl i) = inl (sym (ap is_waiting e) ∙ i.0, i.1)
phase_then a b c (inr e) (inr f) = inr (f ∙ e)

pub none_after : (a b : Phase) → PhaseStep a b → is_waiting a ≡ false → is_waiting b ≡ false
none_after a b (inl h) e = h.1
none_after a b (inr f) e = ap is_waiting f ∙ e

none_before : (a b : Phase) → PhaseStep a b → is_waiting b ≡ false → is_waiting a ≡ false
none_before a b (inl h) e = h.0
none_before a b (inr f) e = sym (ap is_waiting f) ∙ e

pub wait_then : (o p q : Option Client) → WaitStep o p → WaitStep p q → WaitStep o q
wait_then None None None h i = tt
wait_then None None (Some c) h i = absurd i
wait_then None (Some b) q h i = absurd h
wait_then (Some a) None None h i = h
wait_then (Some a) None (Some c) h i = absurd i
wait_then (Some a) (Some b) None h i = none_before a.about.phase b.about.phase h i
wait_then (Some a) (Some b) (Some c) h i = phase_then a.about.phase b.about.phase c.about.phase h i

pub stream_same : (o : Option Stream) → StreamStep o o
stream_same None = tt
stream_same (Some a) = refl

stream_then : (o p q : Option Stream) → StreamStep o p → StreamStep p q → StreamStep o q
stream_then None None None h i = tt
stream_then None None (Some c) h i = absurd i
stream_then None (Some b) q h i = absurd h
stream_then (Some a) None None h i = tt
stream_then (Some a) None (Some c) h i = absurd i
stream_then (Some a) (Some b) None h i = tt
stream_then (Some a) (Some b) (Some c) h i = i ∙ h

-- Clients that wait go on to wait, and no other one begins to; streams stay those of their clients, or go.
pub record Leaves (s : State) (m : Made) : Type 0 where
  pub clients : (c : ℕ) → WaitStep (s.clients c) (m.state.clients c)
  pub streams : (l : ℕ) → StreamStep (s.streams l) (m.state.streams l)

pub leaves_all : (s : State) (m : Made) → m.state.clients ≡ s.clients → m.state.streams ≡ s.streams → Leaves s m
leaves_all s m clients streams = record {
  clients = λ c. subst (λ (o : Option Client). WaitStep (s.clients c) o)
      (sym (ap (λ (rows : ℕ → Option Client). rows c) clients)) (wait_same (s.clients c));
  streams = λ l. subst (λ (o : Option Stream). StreamStep (s.streams l) o) (sym (ap (λ (rows : ℕ → Option Stream). rows l) streams))
      (stream_same (s.streams l));
}

pub leaves_same : (s : State) → Leaves s (quietly s)
leaves_same s = leaves_all s (quietly s) refl refl

pub leaves_then : (s : State) (m : Made) (rule : State → Made) → Leaves s m → Leaves m.state (rule m.state) → Leaves s (then_also m rule)
leaves_then s m rule h i = record {
  clients = λ c. wait_then (s.clients c) (m.state.clients c) ((rule m.state).state.clients c) (h.clients c) (i.clients c);
  streams = λ l. stream_then (s.streams l) (m.state.streams l) ((rule m.state).state.streams l) (h.streams l) (i.streams l);
}

pub leaves_over : (s next : State) (m : Made) → Leaves s (quietly next) → Leaves next m → Leaves s m
leaves_over s next m h i = leaves_then s (quietly next) (λ _. m) h i

-- ---- no stream has a client that waits
abbrev pub NoneWaits : Option Client → Type 0
NoneWaits o = (a : Client) → o ≡ Some a → is_waiting a.about.phase ≡ false

abbrev pub AreFree : State → Type 0
AreFree s = (l : ℕ) (stream : Stream) → s.streams l ≡ Some stream → NoneWaits (s.clients stream.client)

pub none_waits_after : (o p : Option Client) → WaitStep o p → NoneWaits o → NoneWaits p
none_waits_after None None h free a e = let clash : None ≡ Some a = e in cc
none_waits_after None (Some b) h free a e = absurd h
none_waits_after (Some x) None h free a e = let clash : None ≡ Some a = e in cc
none_waits_after (Some x) (Some b) h free a e =
    let same : b ≡ a = let both : Some b ≡ Some a = e in cc in
    subst (λ (y : Client). is_waiting y.about.phase ≡ false) same (none_after x.about.phase b.about.phase h (free x refl))

-- the client of a stream that stays is that of a stream before
pub stream_before : (o p : Option Stream) (b : Stream) → StreamStep o p → p ≡ Some b → (a : Stream) × (o ≡ Some a) × (b.client ≡ a.client)
stream_before None None b h e = let clash : None ≡ Some b = e in cc
stream_before None (Some x) b h e = absurd h
stream_before (Some a) None b h e = let clash : None ≡ Some b = e in cc
stream_before (Some a) (Some x) b h e =
    let same : x ≡ b = let both : Some x ≡ Some b = e in cc in
    (a, refl, sym (ap (λ (y : Stream). y.client) same) ∙ h)

pub free_after : (s : State) (m : Made) → Leaves s m → AreFree s → AreFree m.state
free_after s m h free l stream is =
    let before = stream_before (s.streams l) (m.state.streams l) stream (h.streams l) is in
    subst (λ (c : ℕ). NoneWaits (m.state.clients c)) (sym before.2)
    (none_waits_after (s.clients before.0.client) (m.state.clients before.0.client) (h.clients before.0.client) (free l before.0 before.1))

-- ---- rows
leaves_to_client : (c : ℕ) (f : Client → Option Client) (s : State) → ((a : Client) → s.clients c ≡ Some a → WaitStep (Some a) (f a))
    → Leaves s (quietly (to_client c f s))
leaves_to_client c f s at = record { clients = λ k. go k (eqb c k) refl (s.clients k) refl; streams = λ l. stream_same (s.streams l) }
  where
    go : (k : ℕ) (here : Bool) → eqb c k ≡ here → (o : Option Client) → s.clients k ≡ o → WaitStep o (cond here (option_and_then f o) o)
    go k true e None is = tt
    go k true e (Some a) is = at a (ap s.clients (eqb-true c k e) ∙ is)
    go k false e o is = wait_same o

leaves_to_stream : (l : ℕ) (f : Stream → Option Stream) (s : State) → ((a : Stream) → StreamStep (Some a) (f a))
    → Leaves s (quietly (to_stream l f s))
leaves_to_stream l f s at = record { clients = λ c. wait_same (s.clients c); streams = λ k. go (eqb l k) (s.streams k) }
  where
    go : (here : Bool) (o : Option Stream) → StreamStep o (cond here (option_and_then f o) o)
    go true None = tt
    go true (Some a) = at a
    go false o = stream_same o

wait_closing : (due : List ℕ) (a : Client) → is_waiting a.about.phase ≡ false → WaitStep (Some a) (closing_with due a)
wait_closing [] a e = e
wait_closing (b ∷ due) a e = inl (e, refl)

wait_left : (phase : Phase) (n : ℕ) (a : Client) → a.about.phase ≡ phase → WaitStep (Some a) (left_in phase (drop n a.due) a)
wait_left Closing n a e = wait_closing (drop n a.due) (record a { due = drop n a.due }) (ap is_waiting e)
wait_left _ n a e = inr refl

wait_marked : (phase : Phase) (a : Client) → a.about.phase ≡ phase → WaitStep (Some a) (Some (marked_in phase a))
wait_marked Asking a e = inr refl
wait_marked _ a e = inr refl

pub leaves_mark_all : (s : State) → Leaves s (quietly (mark_all s))
leaves_mark_all s = record { clients = λ c. go (s.clients c); streams = λ l. stream_same (s.streams l) }
  where
    go : (o : Option Client) → WaitStep o (option_map marked o)
    go None = tt
    go (Some a) = wait_marked a.about.phase a refl

-- ---- what serving leaves of a state
module _ (s0 : State) (free : AreFree s0) where
  abbrev L : State → List Event → Type 0
  L s w = Leaves s0 (quietly s)

  client_steps : (c : ℕ) (f : Client → Option Client) (s : State) → Leaves s0 (quietly s)
      → ((a : Client) → s.clients c ≡ Some a → WaitStep (Some a) (f a))
      → Leaves s0 (quietly (to_client c f s))
  client_steps c f s h at = leaves_over s0 s (quietly (to_client c f s)) h (leaves_to_client c f s at)

  stream_steps : (l : ℕ) (f : Stream → Option Stream) (s : State) → Leaves s0 (quietly s) → ((a : Stream) → StreamStep (Some a) (f a))
      → Leaves s0 (quietly (to_stream l f s))
  stream_steps l f s h at = leaves_over s0 s (quietly (to_stream l f s)) h (leaves_to_stream l f s at)

  closing_steps : (c : ℕ) (s : State) → NoneWaits (s.clients c) → Leaves s0 (quietly s) → Leaves s0 (quietly (to_client c closing s))
  closing_steps c s none h = client_steps c closing s h (λ a e. wait_closing a.due a (none a e))

  loses_left : (forwarded : Bool) (phase : Phase) (c : ℕ) (s : State)
      → (is_waiting phase ≡ false → NoneWaits (s.clients c)) → Leaves s0 (quietly s)
      → Leaves s0 (quietly (loses forwarded phase c s).state)
  loses_left forwarded (Streaming l) c s none h = closing_steps c s (none refl) h
  loses_left true (Opening l) c s none h = closing_steps c s (none refl) h
  loses_left false (Opening l) c s none h =
      let bytes : List ℕ = (failed (codes "closed")).bytes in
      let told : State = to_client c (with_due bytes) s in
      let owed : Leaves s (quietly told) = leaves_to_client c (with_due bytes) s (λ a e. inr refl) in
      closing_steps c told (none_waits_after (s.clients c) (told.clients c) (owed.clients c) (none refl))
      (leaves_over s0 s (quietly told) h owed)
  loses_left forwarded _ c s none h = h

  client_loses_left : (o : Option Client) (c : ℕ) (s : State) → s.clients c ≡ o → Leaves s0 (quietly s)
      → Leaves s0 (quietly (client_loses o c s).state)
  client_loses_left None c s is h = h
  client_loses_left (Some client) c s is h = loses_left client.about.forwarded client.about.phase c s
      (λ none a e. let same : client ≡ a = let both : Some client ≡ Some a = sym is ∙ e in cc in
      subst (λ (x : Client). is_waiting x.about.phase ≡ false) same none) h

  ends_left : EndsKept L
  ends_left l ending stream s w is h =
      let made : Made = tells_end stream.part.orphan l ending (to_stream l none_kept s) in
      after_then L w made (λ s. client_loses (s.clients stream.client) stream.client s) (tells stream.part.orphan)
      (λ v now. client_loses_left (made.state.clients stream.client) stream.client made.state refl now)
    where
      tells : (orphan : Bool) → After L w (tells_end orphan l ending (to_stream l none_kept s))
      tells true = stream_steps l none_kept s h (λ a. tt)
      tells false = stream_steps l none_kept s h (λ a. tt)

  first_left : (b : Bool) (t : ℕ) (s : State) (w : List Event) → L s w → After L w (streams_end_first b t s)
  first_left true t s w h = all_end_kept ends_left t Lost s w h
  first_left false t s w h = h

  serving : Serves L
  serving = record {
    owes = λ t p check s w of h. record { clients = h.clients; streams = h.streams };
    due = λ c bytes s w h. client_steps c (with_due bytes) s h (λ a e. inr refl);
    holds = λ c client bytes s w is has h. client_steps c (with_held bytes) s h (λ a e. inr refl);
    unmarks = λ c s w h. client_steps c unmarked s h (λ a e. inr refl);
    hands = λ c n client s w is fits h. client_steps c (hands n) s h (λ a e. wait_left a.about.phase n a refl);
    flows = λ l stream flow s w is like h. stream_steps l (with_stream_part (with_flow flow stream.part)) s h (λ a. refl);
    accepts = λ l payload stream s w is known turn h.
        let part = with_flow (accepted (length payload) stream.part.flow) stream.part in
        client_steps stream.client (with_due payload) (to_stream l (with_stream_part part) s)
        (stream_steps l (with_stream_part part) s h (λ a. refl))
        (λ a e. inr refl);
    opens = λ l remote word stream s w is new h.
        let part = with_remote remote (with_flow (first_credit word stream.part.flow) stream.part) in
        client_steps stream.client (in_phase (Streaming l)) (to_stream l (with_stream_part part) s)
        (stream_steps l (with_stream_part part) s h (λ a. refl))
        (λ a e. inl (free_after s0 (quietly s) h free l stream is a e, refl));
    orphan_goes = λ l stream s w is orphan h. stream_steps l none_kept s h (λ a. tt);
    ends = ends_left;
    links = λ t f s w h. record { clients = h.clients; streams = h.streams };
    link_ends = λ t ending s w h.
        let gone : Made = all_end t ending (forgets t s) in
        leaves_over s0 gone.state (quietly (mark_all gone.state))
        (all_end_kept ends_left t ending (forgets t s) w (record { clients = h.clients; streams = h.streams }))
        (leaves_mark_all gone.state);
    online = λ t version maxdata identity s w h.
        let first : State = (streams_end_first (is_connected t s.devices) t s).state in
        let all = leaves_over s0 first (quietly (mark_all first)) (first_left (is_connected t s.devices) t s w h) (leaves_mark_all first) in
        record { clients = all.clients; streams = all.streams };
    unauthorized = λ t row s w is offline h.
        let all = leaves_over s0 s (quietly (mark_all s)) h (leaves_mark_all s) in
        record { clients = all.clients; streams = all.streams };
  }

  start : L s0 []
  start = leaves_all s0 (quietly s0) refl refl

  made_left : (m : Made) → Leaves s0 (quietly m.state) → Leaves s0 m
  made_left m h = record { clients = h.clients; streams = h.streams }

  pub leaves_up_all : (n : ℕ) → Leaves s0 (up_all n s0)
  leaves_up_all n = made_left (up_all n s0) (up_all_kept serving s0 [] start n)

  pub leaves_receives : (t : ℕ) (bytes : List ℕ) → Leaves s0 (receives t bytes s0)
  leaves_receives t bytes = made_left (receives t bytes s0) (receives_kept serving s0 [] start t bytes)

  pub leaves_unplugs : (o : Option Link) (t : ℕ) → Leaves s0 (unplugs_on o t s0)
  leaves_unplugs o t = made_left (unplugs_on o t s0) (unplugs_kept serving s0 [] start o t)

  pub leaves_puts : (o : Option Client) (c n : ℕ) → Leaves s0 (puts_to o c n s0)
  leaves_puts o c n = made_left (puts_to o c n s0) (puts_kept serving s0 [] start o c n)
