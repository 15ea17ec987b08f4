-- What the up rule makes of what is seen of a stream: it stays, or the stream is closed for its client.
use Rattle.std.proofs.Common.{ℕ, ◌≡◌, ◌≢◌, zero, suc, Bool, true, false, List, [], ◌∷◌, length, drop, Option, Some, None, refl, sym, ◌∙◌}
use Rattle.std.proofs.Common.{ap, subst}
use Rattle.std.proofs.Common.{inl, inr, ◌⊎◌}
use Rattle.std.proofs.lemmas.Bool.{eqb-true, cases_eq}
use Rattle.adb_stream.specs.declared.flow.Flow.{Flow}
use Rattle.adb_stream.specs.declared.flow.Flow.TheVariants.{One, Credit}
use Rattle.adb_stream.specs.declared.row.Stream.{Stream}
use Rattle.adb_stream.specs.declared.row.Part.{Part}
use Rattle.adb_stream.specs.Flow.{wrote}
use Rattle.adb_client.specs.declared.phase.Phase.{Phase}
use Rattle.adb_client.specs.declared.phase.Phase.TheVariants.{Streaming}
use Rattle.adb_history.specs.Rows.{Client, State, to_stream, with_stream_part}
use Rattle.adb_history.specs.Events.{Made, Event, quietly}
use Rattle.adb_history.specs.declared.ending.Ending.{Ending}
use Rattle.adb_history.specs.declared.ending.Ending.TheVariants.{ClientClosed}
use Rattle.adb_history.specs.Links.{write_packet, maxdata_of}
use Rattle.adb_history.specs.Flow.{payloads, total, with_flow, goes_up, all_go_up, flow_after, noted, is_over, closes_if, sends_up}
use Rattle.adb_history.specs.Flow.{is_streaming}
use Rattle.adb_history.specs.Flow.{up_client, up_stream}
use Rattle.adb_history.specs.Flow.{up, up_all}
use Rattle.adb_history.specs.Moves.{After}
use Rattle.adb_history.proofs.Following.{after_quietly, after_then, after_if}
use Rattle.adb_laws_fifo_down.specs.Line.{Line, SeenStream, SeenClient, View, seen, seen_client, loss, lost_by, over, Shows, IsOpenIn}
use Rattle.adb_laws_fifo_down.proofs.Shown.{shows_owe_link, shows_same, shows_stream}
use Rattle.adb_laws_fifo_down.proofs.Others.{after_next, part_keeps, shows_ends_telling}
use Rattle.adb_laws_fifo_down.proofs.Own.{client_seen, stream_seen}
use Rattle.adb_laws_fifo_down.proofs.OwnPackets.{own_same, own_ends_telling}

-- ---- a stream that ended is there no more
loss_gone : (forwarded : Bool) (phase : Phase) (a : SeenClient) (v : View) → v.stream ≡ None → (loss forwarded phase a v).stream ≡ None
loss_gone forwarded (Streaming l) a v none = none
loss_gone true _ a v none = none
loss_gone false _ a v none = none

lost_gone : (o : Option SeenClient) (v : View) → v.stream ≡ None → (lost_by o v).stream ≡ None
lost_gone None v none = none
lost_gone (Some a) v none = loss_gone a.forwarded a.phase a v none

pub over_gone : (orphan : Bool) (ending : Ending) (v : View) → (over orphan ending v).stream ≡ None
over_gone orphan ending v = lost_gone v.client _ refl

-- ---- what is seen of a flow stays through its writes
seen_after : (x : Stream) (payloads : List (List ℕ)) (flow : Flow)
    → seen (record x { part = with_flow (flow_after payloads flow) x.part }) ≡ seen (record x { part = with_flow flow x.part })
seen_after x [] flow = refl
seen_after x (payload ∷ payloads) (One window) = seen_after x payloads (wrote (length payload) (One window))
seen_after x (payload ∷ payloads) (Credit credit) = seen_after x payloads (wrote (length payload) (Credit credit))

streaming_is : (l : ℕ) (phase : Phase) → is_streaming l phase ≡ true → phase ≡ Streaming l
streaming_is l (Streaming k) e = ap Streaming (eqb-true k l e)
streaming_is l _ e = absurd (cc)

module _ (b : Line) where
  module _ (v : View) where
    shows_go_up : (l : ℕ) (x : Stream) (payloads : List (List ℕ)) (s : State) (w : List Event) → Shows b v s w
        → After (Shows b v) w (all_go_up l x payloads s)
    shows_go_up l x [] s w h = after_quietly (Shows b v) w s h
    shows_go_up l x (payload ∷ payloads) s w h =
        after_then (Shows b v) w (goes_up l x payload s) (all_go_up l x payloads)
        (shows_owe_link b v x.link (write_packet l x.part.remote payload) s w refl h)
        (λ u now. shows_go_up l x payloads (goes_up l x payload s).state u now)

    shows_closes_if : (c : Bool) (k : ℕ) (o : Option Stream) (s : State) (w : List Event) → k ≢ b.id → s.streams k ≡ o → Shows b v s w
        → After (Shows b v) w (closes_if c k o s)
    shows_closes_if c k None s w other is h = after_quietly (Shows b v) w s h
    shows_closes_if false k (Some x) s w other is h = after_quietly (Shows b v) w s h
    shows_closes_if true k (Some x) s w other is h = shows_ends_telling b v s w h k ClientClosed x is other

    -- ---- another stream
    shows_sends_up : (k : ℕ) (x : Stream) (a : Client) (payloads : List (List ℕ)) (s : State) (w : List Event) → k ≢ b.id → Shows b v s w
        → After (Shows b v) w (sends_up k x a payloads s)
    shows_sends_up k x a payloads s w other h =
        let part : Part = with_flow (flow_after payloads x.part.flow) x.part in
        let held : List ℕ = drop (total payloads) a.held in
        let now : State = noted k x a.held payloads s in
        let sent : Made = all_go_up k x payloads now in
        after_then (Shows b v) w sent (λ s. closes_if (is_over a.about.ended held (flow_after payloads x.part.flow)) k (s.streams k) s)
        (shows_go_up k x payloads now w
        (shows_same b v x.client (λ c. record c { held = held }) (to_stream k (with_stream_part part) s) w
        (λ c. refl)
        (shows_stream b v k (with_stream_part part) s w other (part_keeps part) h)))
        (λ u kept. shows_closes_if (is_over a.about.ended held (flow_after payloads x.part.flow)) k
        (sent.state.streams k) sent.state u other refl kept)

    shows_up_client : (k : ℕ) (x : Stream) (o : Option Client) (s : State) (w : List Event) → k ≢ b.id → Shows b v s w
        → After (Shows b v) w (up_client k x o s)
    shows_up_client k x None s w other h = after_quietly (Shows b v) w s h
    shows_up_client k x (Some a) s w other h =
        let sent : List (List ℕ) = payloads x.part.flow (maxdata_of x.link s.devices) a.held in
        after_if (Shows b v) w (is_streaming k a.about.phase) (sends_up k x a sent s) (quietly s)
        (λ e. shows_sends_up k x a sent s w other h)
        (λ e. after_quietly (Shows b v) w s h)

    shows_up : (k : ℕ) (o : Option Stream) (s : State) (w : List Event) → k ≢ b.id → Shows b v s w → After (Shows b v) w (up_stream k o s)
    shows_up k None s w other h = after_quietly (Shows b v) w s h
    shows_up k (Some x) s w other h = shows_up_client k x (s.clients x.client) s w other h

  module _ (v : View) where
    -- it stays, or is closed for its client
    abbrev pub Upped : State → List Event → Type 0
    Upped s w = Shows b v s w ⊎ ((y : IsOpenIn b v) × Shows b (over y.row.orphan ClientClosed v) s w)

    -- ---- its own stream
    own_closes_if : (y : IsOpenIn b v) (c : Bool) (o : Option Stream) (s : State) (w : List Event) → s.streams b.id ≡ o → Shows b v s w
        → After Upped w (closes_if c b.id o s)
    own_closes_if y c None s w is h = after_quietly Upped w s (inl h)
    own_closes_if y false (Some x) s w is h = after_quietly Upped w s (inl h)
    own_closes_if y true (Some x) s w is h =
        let row : y.row ≡ seen x = let same : Some y.row ≡ Some (seen x) = sym y.stream ∙ stream_seen b v s w (Some x) h is in cc in
        inr (
          y,
          subst (λ (z : SeenStream). After (Shows b (over z.orphan ClientClosed v)) w (closes_if true b.id (Some x) s)) (sym row)
              (own_ends_telling b v x s w is h ClientClosed),
        )

    own_sends_up : (x : Stream) (a : Client) (payloads : List (List ℕ)) (s : State) (w : List Event) → IsOpenIn b v
        → s.streams b.id ≡ Some x → Shows b v s w
        → After Upped w (sends_up b.id x a payloads s)
    own_sends_up x a payloads s w y is h =
        let part : Part = with_flow (flow_after payloads x.part.flow) x.part in
        let held : List ℕ = drop (total payloads) a.held in
        let now : State = noted b.id x a.held payloads s in
        let sent : Made = all_go_up b.id x payloads now in
        after_next (Shows b v) Upped w sent
        (λ s. closes_if (is_over a.about.ended held (flow_after payloads x.part.flow)) b.id (s.streams b.id) s)
        (shows_go_up v b.id x payloads now w
        (shows_same b v x.client (λ c. record c { held = held }) (to_stream b.id (with_stream_part part) s) w
        (λ c. refl)
        (own_same b v part x s w is (seen_after x payloads x.part.flow) h)))
        (λ u kept. own_closes_if y (is_over a.about.ended held (flow_after payloads x.part.flow))
        (sent.state.streams b.id) sent.state u refl kept)

    own_up_client : (x : Stream) (o : Option Client) (s : State) (w : List Event) → s.streams b.id ≡ Some x
        → s.clients b.client ≡ o → Shows b v s w
        → After Upped w (up_client b.id x o s)
    own_up_client x None s w is here h = after_quietly Upped w s (inl h)
    own_up_client x (Some a) s w is here h =
        let sent : List (List ℕ) = payloads x.part.flow (maxdata_of x.link s.devices) a.held in
        after_if Upped w (is_streaming b.id a.about.phase) (sends_up b.id x a sent s) (quietly s)
        (λ e. own_sends_up x a sent s w (record {
          row = seen x;
          client = seen_client a;
          stream = stream_seen b v s w (Some x) h is;
          here = client_seen b v s w (Some a) h here;
          phase = streaming_is b.id a.about.phase e;
        }) is h)
        (λ e. after_quietly Upped w s (inl h))

    own_up : (o : Option Stream) (s : State) (w : List Event) → s.streams b.id ≡ o → Shows b v s w → After Upped w (up_stream b.id o s)
    own_up None s w is h = after_quietly Upped w s (inl h)
    own_up (Some x) s w is h =
        subst (λ (n : ℕ). After Upped w (up_client b.id x (s.clients n) s)) (sym (h.0.client x is))
        (own_up_client x (s.clients b.client) s w is refl h)

    -- ---- one stream after another
    gone_up : (u : View) (o : Option Stream) (s : State) (w : List Event) → u.stream ≡ None → s.streams b.id ≡ o → Shows b u s w
        → After (Shows b u) w (up_stream b.id o s)
    gone_up u None s w none is h = after_quietly (Shows b u) w s h
    gone_up u (Some x) s w none is h =
        absurd (let clash : None ≡ Some (seen x) = sym none ∙ stream_seen b u s w (Some x) h is in cc)

    up_one : (k : ℕ) (s : State) (w : List Event) → Upped s w → (k ≡ b.id) ⊎ (k ≢ b.id) → After Upped w (up k s)
    up_one k s w (inl h) (inl same) = subst (λ (n : ℕ). After Upped w (up n s)) (sym same) (own_up (s.streams b.id) s w refl h)
    up_one k s w (inl h) (inr other) = inl (shows_up v k (s.streams k) s w other h)
    up_one k s w (inr (y, h)) (inl same) =
        let u : View = over y.row.orphan ClientClosed v in
        inr (
          y,
          subst (λ (n : ℕ). After (Shows b u) w (up n s)) (sym same)
              (gone_up u (s.streams b.id) s w (over_gone y.row.orphan ClientClosed v) refl h),
        )
    up_one k s w (inr (y, h)) (inr other) = inr (y, shows_up (over y.row.orphan ClientClosed v) k (s.streams k) s w other h)

    pub shows_ups : (n : ℕ) (s : State) (w : List Event) → Shows b v s w → After Upped w (up_all n s)
    shows_ups zero s w h = after_quietly Upped w s (inl h)
    shows_ups (suc n) s w h =
        after_then Upped w (up_all n s) (up (suc n)) (shows_ups n s w h)
        (λ u now. up_one (suc n) (up_all n s).state u now (cases_eq (suc n) b.id))
