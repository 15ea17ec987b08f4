-- What each move keeps, the rules of streams keep: they are asked for, they send, and they end.
use Rattle.std.proofs.Common.{◌≡◌, ℕ, ◌+◌, zero, suc, Bool, true, false, List, [], ◌∷◌, ◌++◌, length, drop, Option, Some, None, refl, sym}
use Rattle.std.proofs.Common.{ap, subst, ◌∙◌}
use Rattle.std.proofs.Common.{arith, inl, inr, eqb}
use Rattle.std.specs.Prelude.{codes, is_some, nat_eq}
use Rattle.std.proofs.lemmas.Bool.{eq-eqb, eqb-true}
use Rattle.adb_wire.specs.declared.packets.Packet.{Packet}
use Rattle.adb_stream.specs.declared.flow.Flow.{Flow}
use Rattle.adb_stream.specs.declared.flow.Flow.TheVariants.{One, Credit}
use Rattle.adb_stream.specs.declared.row.Stream.{Stream}
use Rattle.adb_stream.specs.Flow.{wrote}
use Rattle.adb_client.specs.declared.phase.Phase.{Phase}
use Rattle.adb_client.specs.declared.phase.Phase.TheVariants.{Asking, Streaming}
use Rattle.adb_reply.specs.Strings.{failed}
use Rattle.adb_history.specs.Rows.{Client, State, to_client, to_stream, with_due, with_stream_part, none_kept, with_held}
use Rattle.adb_history.specs.Events.{Made, Event, quietly}
use Rattle.adb_history.specs.declared.ending.Ending.{Ending}
use Rattle.adb_history.specs.declared.ending.Ending.TheVariants.{ClientClosed}
use Rattle.adb_history.specs.Links.{owe_link, open_packet, close_packet, write_packet, check_on, wants_sums, is_credit, maxdata_of}
use Rattle.adb_history.specs.Clients.{closes_with}
use Rattle.adb_history.specs.Streams.{stream_ids, asks_for, no_ids_left, opens, ends_row, ends_telling, ends_if_of, ends_of, all_end}
use Rattle.adb_history.specs.Flow.{with_flow, flow_after, payloads, total, noted, goes_up, all_go_up, is_over, closes_if, sends_up}
use Rattle.adb_history.specs.Flow.{is_streaming, up_client}
use Rattle.adb_history.specs.Flow.{up_stream, up, up_all}
use Rattle.adb_history.specs.Losing.{stream_of}
use Rattle.adb_history.specs.Moves.{IsClientIn, After, Serves, IsOfStream, IsFree, HasOne, IsLike, IsReady, draws_now}
use Rattle.adb_history.proofs.Following.{after_quietly, after_then, after_if, changed_here}
use Rattle.adb_history.specs.Turns.{HasOpen, Scope, EndsSo, Turns, everywhere, Serving, serving}
use Rattle.adb_history.proofs.AllMoves.{all_served}

-- a client that asks has no stream
pub asks_free : (phase : Phase) → phase ≡ Asking → IsFree phase
asks_free phase asking = subst IsFree (sym asking) tt

pub asks_streamless : (phase : Phase) (streams : ℕ → Option Stream) → phase ≡ Asking → stream_of phase streams ≡ None
asks_streamless phase streams asking = ap (λ p. stream_of p streams) asking

-- ---- a flow after writes
like_same : (flow : Flow) → IsLike flow flow
like_same flow = record { credit = refl; left = omega arith; sound = λ h. h }

like_then : (a b c : Flow) → IsLike a b → IsLike b c → IsLike a c
like_then a b c h k = record { credit = k.credit ∙ h.credit; left = omega (arith, h.left, k.left); sound = λ x. k.sound (h.sound x) }

like_wrote : (n : ℕ) (flow : Flow) → IsLike flow (wrote n flow)
like_wrote n (One window) = record { credit = refl; left = omega arith; sound = λ h. h }
like_wrote n (Credit credit) =
    record {
      credit = refl;
      left = omega arith;
      sound = λ h. record { window = h.window; few = h.few; none = h.none };
    }

pub like_after : (payloads : List (List ℕ)) (flow : Flow) → IsLike flow (flow_after payloads flow)
like_after [] flow = like_same flow
like_after (payload ∷ payloads) flow =
    like_then flow (wrote (length payload) flow) (flow_after payloads (wrote (length payload) flow)) (like_wrote (length payload) flow)
    (like_after payloads (wrote (length payload) flow))

-- what is to be shown of the end of one stream
abbrev pub EndsKept : (State → List Event → Type 0) → Type 0
EndsKept P =
    (l : ℕ) (ending : Ending) (stream : Stream) (s : State) (w : List Event) → s.streams l ≡ Some stream → P s w
    → After P w (ends_row l ending stream s)

-- What the end of a stream keeps, the end of all streams of a link keeps.
module _ {P : State → List Event → Type 0} (ends : EndsKept P) where
  ends_of_kept : (t n : ℕ) (ending : Ending) (s : State) (w : List Event) → P s w → After P w (ends_of t n ending s)
  ends_of_kept t zero ending s w h = after_quietly P w s h
  ends_of_kept t (suc n) ending s w h =
      after_then P w (ends_of t n ending s) (λ s. ends_if_of t (suc n) ending (s.streams (suc n)) s) (ends_of_kept t n ending s w h)
      (λ v now. go (ends_of t n ending s).state v ((ends_of t n ending s).state.streams (suc n)) refl now)
    where
      go : (s : State) (v : List Event) (o : Option Stream) → s.streams (suc n) ≡ o → P s v → After P v (ends_if_of t (suc n) ending o s)
      go s v None is h = after_quietly P v s h
      go s v (Some stream) is h =
          after_if P v (nat_eq stream.link t) (ends_row (suc n) ending stream s) (quietly s) (λ e. ends (suc n) ending stream s v is h)
          (λ e. after_quietly P v s h)

  pub all_end_kept : (t : ℕ) (ending : Ending) (s : State) (w : List Event) → P s w → After P w (all_end t ending s)
  all_end_kept t ending s w h = ends_of_kept t s.drawn ending s w h

-- a client that has a stream open
streaming_at : (l : ℕ) (phase : Phase) → is_streaming l phase ≡ true → phase ≡ Streaming l
streaming_at l (Streaming k) e = ap Streaming (eqb-true k l e)
streaming_at l _ e = absurd (let clash : false ≡ true = e in cc)

-- writes change no client, and no stream
go_up_clients : (l : ℕ) (stream : Stream) (payloads : List (List ℕ)) (s : State) → (all_go_up l stream payloads s).state.clients ≡ s.clients
go_up_clients l stream [] s = refl
go_up_clients l stream (payload ∷ payloads) s = go_up_clients l stream payloads (goes_up l stream payload s).state

go_up_streams : (l : ℕ) (stream : Stream) (payloads : List (List ℕ)) (s : State) → (all_go_up l stream payloads s).state.streams ≡ s.streams
go_up_streams l stream [] s = refl
go_up_streams l stream (payload ∷ payloads) s = go_up_streams l stream payloads (goes_up l stream payload s).state

module _ {scope : Scope} {asker : ℕ} {P : State → List Event → Type 0} (k : Serving scope asker P) where
  module _ (s : State) (w : List Event) (h : P s w) where
    -- a packet of a stream that lives becomes due
    pub owes_kept : (t : ℕ) (p : Packet) → IsOfStream s.streams p → After P w (owe_link t p s)
    owes_kept t p of = k.owes t p (check_on (wants_sums (s.links t)) p) s w of h

  module _ (s : State) (w : List Event) (h : P s w) where
    -- ---- stream end
    pub ends_telling_kept : (l : ℕ) (ending : Ending) (stream : Stream) → s.streams l ≡ Some stream
        → EndsSo scope.reaches s.clients l ending stream
        → After P w (ends_telling l ending stream s)
    ends_telling_kept l ending stream is so =
        let p : Packet = close_packet l stream.part.remote in
        after_then P w (owe_link stream.link p s) (ends_row l ending stream) (owes_kept s w h stream.link p (inr (inl (ap is_some is))))
        (λ v now. k.ends l ending stream (owe_link stream.link p s).state v is so now)

  -- ---- the up rule
  go_up_kept : (s : State) (w : List Event) → P s w → (l : ℕ) (stream : Stream) (payloads : List (List ℕ)) → is_some (s.streams l) ≡ true
      → After P w (all_go_up l stream payloads s)
  go_up_kept s w h l stream [] alive = after_quietly P w s h
  go_up_kept s w h l stream (payload ∷ payloads) alive =
      after_then P w (goes_up l stream payload s) (all_go_up l stream payloads)
      (owes_kept s w h stream.link (write_packet l stream.part.remote payload) (inr (inl alive)))
      (λ v now. go_up_kept (goes_up l stream payload s).state v now l stream payloads alive)

  module _ (s : State) (w : List Event) (h : P s w) where
    closes_if_kept : (over : Bool) (l : ℕ) (o : Option Stream) → s.streams l ≡ o
        → ((stream : Stream) → s.streams l ≡ Some stream → HasOpen s.clients stream.client l) → After P w (closes_if over l o s)
    closes_if_kept over l None is open_for = after_quietly P w s h
    closes_if_kept false l (Some stream) is open_for = after_quietly P w s h
    closes_if_kept true l (Some stream) is open_for = ends_telling_kept s w h l ClientClosed stream is (inr (inr (open_for stream is)))

    noted_kept : (l : ℕ) (stream : Stream) (client : Client) (payloads : List (List ℕ)) → s.streams l ≡ Some stream
        → s.clients stream.client ≡ Some client
        → HasOne client.about.phase → P (noted l stream client.held payloads s) w
    noted_kept l stream client payloads is here has =
        let flow : Flow = flow_after payloads stream.part.flow in
        k.holds stream.client client (drop (total payloads) client.held)
        (to_stream l (with_stream_part (with_flow flow stream.part)) s) w here has
        (k.flows l stream flow s w is (like_after payloads stream.part.flow) h)

  module _ (s : State) (w : List Event) (h : P s w) where
    sends_up_kept : (l : ℕ) (stream : Stream) (client : Client) (payloads : List (List ℕ)) → s.streams l ≡ Some stream
        → s.clients stream.client ≡ Some client
        → client.about.phase ≡ Streaming l → After P w (sends_up l stream client payloads s)
    sends_up_kept l stream client payloads is here streaming =
        let now : State = noted l stream client.held payloads s in
        let part = with_flow (flow_after payloads stream.part.flow) stream.part in
        let there : now.streams l ≡ with_stream_part part stream = changed_here l (with_stream_part part) s.streams stream is in
        let sent : Made = all_go_up l stream payloads now in
        let over : Bool = is_over client.about.ended (drop (total payloads) client.held) (flow_after payloads stream.part.flow) in
        after_then P w sent (λ s. closes_if over l (s.streams l) s)
        (go_up_kept now w (noted_kept s w h l stream client payloads is here (subst HasOne (sym streaming) tt)) l
        stream payloads (ap is_some there))
        (λ v kept. closes_if_kept sent.state v kept over l (sent.state.streams l) refl (λ other at_l. open_at other at_l there))
      where
        held : List ℕ
        held = drop (total payloads) client.held

        open_at : (other : Stream) → (all_go_up l stream payloads (noted l stream client.held payloads s)).state.streams l ≡ Some other
            → (noted l stream client.held payloads s).streams l
            ≡ with_stream_part (with_flow (flow_after payloads stream.part.flow) stream.part) stream
            → HasOpen (all_go_up l stream payloads (noted l stream client.held payloads s)).state.clients other.client l
        open_at other at_l there =
            let now : State = noted l stream client.held payloads s in
            let part = with_flow (flow_after payloads stream.part.flow) stream.part in
            let both : Some (record stream { part = part }) ≡ Some other =
            sym there ∙ (ap (λ streams. streams l) (sym (go_up_streams l stream payloads now)) ∙ at_l) in
            let same : record stream { part = part } ≡ other = cc in
            let owner : stream.client ≡ other.client = ap (λ (x : Stream). x.client) same in
            let row : now.clients stream.client ≡ Some (record client { held = held }) =
            changed_here stream.client (with_held held) s.clients client here in
            let is_open : HasOpen now.clients stream.client l = (record client { held = held }, row, streaming) in
            subst (λ clients. HasOpen clients other.client l) (sym (go_up_clients l stream payloads now))
            (subst (λ (c : ℕ). HasOpen now.clients c l) owner is_open)

    up_client_kept : (l : ℕ) (stream : Stream) (o : Option Client) → s.streams l ≡ Some stream → s.clients stream.client ≡ o
        → After P w (up_client l stream o s)
    up_client_kept l stream None is here = after_quietly P w s h
    up_client_kept l stream (Some client) is here =
        let sent : List (List ℕ) = payloads stream.part.flow (maxdata_of stream.link s.devices) client.held in
        after_if P w (is_streaming l client.about.phase) (sends_up l stream client sent s) (quietly s)
        (λ e. sends_up_kept l stream client sent is here (streaming_at l client.about.phase e)) (λ e. after_quietly P w s h)

    up_kept : (l : ℕ) (o : Option Stream) → s.streams l ≡ o → After P w (up_stream l o s)
    up_kept l None is = after_quietly P w s h
    up_kept l (Some stream) is = up_client_kept l stream (s.clients stream.client) is refl

  -- the up rule, for every stream
  pub up_all_turns : (s : State) (w : List Event) → P s w → (n : ℕ) → After P w (up_all n s)
  up_all_turns s w h zero = after_quietly P w s h
  up_all_turns s w h (suc n) =
      let before : Made = up_all n s in
      after_then P w before (up (suc n)) (up_all_turns s w h n)
      (λ v now. up_kept before.state v now (suc n) (before.state.streams (suc n)) refl)

-- ---- what a client asks for
module _ {scope : Scope} {asker : ℕ} {P : State → List Event → Type 0} (k : Turns scope asker P) where
  module _ (s : State) (w : List Event) (h : P s w) where
    pub closes_with_kept : (bytes : List ℕ) (client : Client) → s.clients asker ≡ Some client → IsFree client.about.phase
        → After P w (closes_with asker bytes s)
    closes_with_kept bytes client is free =
        k.closes asker (record client { due = client.due ++ bytes }) (to_client asker (with_due bytes) s) (w ++ _ ∷ [])
        (changed_here asker (with_due bytes) s.clients client is) free (k.replies bytes s w h)

  module _ (s : State) (w : List Event) (h : P s w) where
    -- ---- service
    asks_for_kept : (t : ℕ) (service : List ℕ) → IsClientIn s asker Asking → IsReady t s.devices
        → After P w (asks_for (s.drawn + 1) asker t service s)
    asks_for_kept t service x ready =
        let drawn : State = draws_now asker t s in
        let alive : is_some (drawn.streams (s.drawn + 1)) ≡ true = rw (eq-eqb (s.drawn + 1) (s.drawn + 1) refl) refl in
        owes_kept (serving k) drawn w (k.draws t x.client s w x.here x.in_phase ready h) t
        (open_packet (is_credit t s.devices) (s.drawn + 1) service) (inr (inl alive))

    no_ids_kept : (forwarded : Bool) → IsClientIn s asker Asking → After P w (no_ids_left forwarded asker s)
    no_ids_kept true x =
        after_quietly P w (to_client asker none_kept s)
        (k.drops asker x.client s w x.here (asks_streamless x.client.about.phase s.streams x.in_phase) h)
    no_ids_kept false x =
        closes_with_kept s w h (failed (codes "no stream ids left")).bytes x.client x.here (asks_free x.client.about.phase x.in_phase)

    pub service_kept : (forwarded : Bool) (t : ℕ) (service : List ℕ) → IsClientIn s asker Asking → IsReady t s.devices
        → After P w (opens forwarded asker t service s)
    service_kept forwarded t service x ready =
        after_if P w (eqb s.drawn stream_ids) (no_ids_left forwarded asker s) (asks_for (s.drawn + 1) asker t service s)
        (λ e. no_ids_kept forwarded x) (λ e. asks_for_kept t service x ready)

-- the up rule, whatever it touches
pub up_all_kept : {P : State → List Event → Type 0} → Serves P → (s : State) (w : List Event) → P s w → (n : ℕ) → After P w (up_all n s)
up_all_kept k = up_all_turns (all_served k everywhere 0)
