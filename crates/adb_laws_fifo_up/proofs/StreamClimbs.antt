-- What each move keeps, the rules of streams keep, and the packets of a device.
use Rattle.std.proofs.Common.{◌≡◌, ◌≢◌, ℕ, ◌+◌, zero, suc, Bool, true, false, cond, not, ◌||◌, List, [], ◌∷◌, length, Option, Some, None}
use Rattle.std.proofs.Common.{refl}
use Rattle.std.proofs.Common.{sym, ap, subst, ◌∙◌, eqb}
use Rattle.std.specs.Prelude.{nat_eq, nat_lt}
use Rattle.std.proofs.lemmas.Bool.{eqb-true, eqb-false}
use Rattle.std.proofs.lemmas.List.{append-nil}
use Rattle.adb_outside.specs.Tables.{at}
use Rattle.adb_outside.specs.declared.identity.Identity.{Identity}
use Rattle.adb_outside.specs.declared.identity.State.{State as DeviceState}
use Rattle.adb_outside.specs.declared.identity.State.TheVariants.{Offline}
use Rattle.adb_banner.specs.Banner.{identity_of}
use Rattle.adb_registry.specs.declared.row.Row.{Row}
use Rattle.adb_wire.specs.declared.command.Command.{Command}
use Rattle.adb_wire.specs.declared.command.Command.TheVariants.{Cnxn, Open, Okay, Wrte, Clse, Auth, Stls}
use Rattle.adb_wire.specs.declared.packets.Packet.{Packet}
use Rattle.adb_wire.specs.declared.format.PacketFault.{PacketFault}
use Rattle.adb_stream.specs.declared.flow.Flow.{Flow}
use Rattle.adb_stream.specs.declared.flow.Flow.TheVariants.{One, Credit}
use Rattle.adb_stream.specs.declared.row.Part.{Part}
use Rattle.adb_stream.specs.declared.row.Stream.{Stream}
use Rattle.adb_stream.specs.Flow.{is_out_of_turn, accepted, has_credit}
use Rattle.adb_client.specs.declared.phase.Phase.TheVariants.{Asking}
use Rattle.adb_history.specs.Rows.{Client, Link, State, to_stream, with_stream_part}
use Rattle.adb_history.specs.Events.{Made, Event, quietly}
use Rattle.adb_history.specs.declared.ending.Ending.{Ending}
use Rattle.adb_history.specs.declared.ending.Ending.TheVariants.{PeerClosed, OutOfTurn, Lost, Broken, ClientClosed}
use Rattle.adb_history.specs.Links.{close_packet, okay_packet, open_packet, credit_word, owe_link, is_connected, is_credit, maxdata_of}
use Rattle.adb_history.specs.Clients.{owe_client}
use Rattle.adb_history.specs.Streams.{stream_ids, asks_for, no_ids_left, opens, ends_row, ends_telling, ends_if_of, ends_of, all_end}
use Rattle.adb_history.specs.Flow.{with_flow, payloads, sends_up, is_streaming, up_client, up_stream, up, up_all}
use Rattle.adb_history.specs.Tracking.{mark_all}
use Rattle.adb_history.specs.Losing.{forgets, link_ends}
use Rattle.adb_history.specs.Packets.{least_version, least_maxdata, streams_end_first, goes_online, connects, cnxn, unauthorized_from}
use Rattle.adb_history.specs.Packets.{unauthorized, refuses_open}
use Rattle.adb_history.specs.Packets.{at_stream, orphan_opened, okay_open, okay_first, takes_okay}
use Rattle.adb_history.specs.Packets.{accepts_none, accepts, takes_write, takes_close, treat_open, treat_any, treat_on, treat, faulty_on}
use Rattle.adb_history.specs.Moves.{After, IsClientIn, draws_now}
use Rattle.adb_history.proofs.Following.{after_quietly, after_then, after_if}
use Rattle.adb_history.proofs.Sweep.{Sending, sent}
use Rattle.adb_laws_fifo_up.specs.Climbing.{Aside, IsOther, IsLevel, may_send, Climbs}
use Rattle.adb_laws_fifo_up.proofs.Asides.{aside_same, aside_then, aside_owe, aside_owe_client, aside_no_ids, aside_marks, aside_else}
use Rattle.adb_laws_fifo_up.proofs.Ends.{ends_goes, telling_goes, orphan_goes}

-- a cause that is not the client's close
not_peer : PeerClosed ≢ ClientClosed
not_peer e = cc

not_turn : OutOfTurn ≢ ClientClosed
not_turn e = cc

not_broken : Broken ≢ ClientClosed
not_broken e = cc

pub not_lost : Lost ≢ ClientClosed
not_lost e = cc

pub level_taken : (n : ℕ) (part : Part) → IsLevel part (with_flow (accepted n part.flow) part)
level_taken n part = go part.flow refl
  where
    go : (flow : Flow) → part.flow ≡ flow → IsLevel part (with_flow (accepted n part.flow) part)
    go (One window) e = record {
      credit = ap (λ (f : Flow). has_credit (accepted n f)) e ∙ sym (ap has_credit e);
      room = ap (λ (f : Flow). may_send (accepted n f)) e ∙ sym (ap may_send e);
      remote = refl;
    }
    go (Credit credit) e = record {
      credit = ap (λ (f : Flow). has_credit (accepted n f)) e ∙ sym (ap has_credit e);
      room = ap (λ (f : Flow). may_send (accepted n f)) e ∙ sym (ap may_send e);
      remote = refl;
    }

-- ---- the up rule
-- what is to be shown of a stream that sends
abbrev pub SendsKept : (State → List Event → Type 0) → ℕ → Type 0
SendsKept P l = (s : State) (w : List Event) (x : Sending l s) → P s w → After P w (sends_up l x.stream x.client (sent l s x) s)

-- the up rule makes nothing, or what a stream sends
pub up_is : (Q : Made → Type 0) (l : ℕ) (s : State) → Q (quietly s)
    → ((x : Sending l s) → Q (sends_up l x.stream x.client (sent l s x) s)) → Q (up l s)
up_is Q l s stays sends = at_stream (s.streams l) refl
  where
    test : (stream : Stream) (client : Client) (b : Bool)
        → (b ≡ true → Q (sends_up l stream client (payloads stream.part.flow (maxdata_of stream.link s.devices) client.held) s))
        → Q (cond b (sends_up l stream client (payloads stream.part.flow (maxdata_of stream.link s.devices) client.held) s) (quietly s))
    test stream client true yes_ = yes_ refl
    test stream client false yes_ = stays

    at_client : (stream : Stream) → s.streams l ≡ Some stream → (o : Option Client) → s.clients stream.client ≡ o
        → Q (up_client l stream o s)
    at_client stream is None here = stays
    at_client stream is (Some client) here = test stream client (is_streaming l client.about.phase)
        (λ e. sends (record { stream = stream; client = client; there = is; here = here; streaming = e }))

    at_stream : (o : Option Stream) → s.streams l ≡ o → Q (up_stream l o s)
    at_stream None is = stays
    at_stream (Some stream) is = at_client stream is (s.clients stream.client) refl

module _ {P : State → List Event → Type 0} where
  up_all_sends : ((l : ℕ) → SendsKept P l) → (s : State) (w : List Event) → P s w → (n : ℕ) → After P w (up_all n s)
  up_all_sends sends s w h zero = after_quietly P w s h
  up_all_sends sends s w h (suc n) =
      let before : Made = up_all n s in
      after_then P w before (up (suc n)) (up_all_sends sends s w h n) (λ v now. up_is (After P v) (suc n) before.state
      (after_quietly P v before.state now) (λ x. sends (suc n) before.state v x now))

module _ {Hears : State → ℕ → Type 0} {P : State → List Event → Type 0} (k : Climbs Hears P) where
  pub quiet_climbs : (s next : State) (w : List Event) → Aside s (quietly next) → P s w → P next w
  quiet_climbs s next w off h = subst (λ (v : List Event). P next v) (append-nil w) (k.aside s (quietly next) w off h)

  module _ (s : State) (w : List Event) (h : P s w) where
    -- ---- service
    pub service_climbs : (forwarded : Bool) (c t : ℕ) (service : List ℕ) → IsClientIn s c Asking → After P w (opens forwarded c t service s)
    service_climbs forwarded c t service x =
        after_if P w (eqb s.drawn stream_ids) (no_ids_left forwarded c s) (asks_for (s.drawn + 1) c t service s)
        (λ e. k.aside s (no_ids_left forwarded c s) w (aside_no_ids forwarded c s) h)
        (λ e. k.aside (draws_now c t s) (asks_for (s.drawn + 1) c t service s) w
        (aside_owe t (open_packet (is_credit t s.devices) (s.drawn + 1) service) (draws_now c t s)
        (refl, λ e. absurd (let clash : false ≡ true = e in cc)))
        (k.draws c t x.client s w x.here x.in_phase h))

  -- ---- all streams of a link end
  module _ (ending : Ending) (other : ending ≢ ClientClosed) where
    ends_of_climbs : (t n : ℕ) (s : State) (w : List Event) → P s w → After P w (ends_of t n ending s)
    ends_of_climbs t zero s w h = after_quietly P w s h
    ends_of_climbs t (suc n) s w h =
        after_then P w (ends_of t n ending s) (λ s. ends_if_of t (suc n) ending (s.streams (suc n)) s) (ends_of_climbs t n s w h)
        (λ v now. go (ends_of t n ending s).state v ((ends_of t n ending s).state.streams (suc n)) refl now)
      where
        go : (s : State) (v : List Event) (o : Option Stream) → s.streams (suc n) ≡ o → P s v → After P v (ends_if_of t (suc n) ending o s)
        go s v None is h = after_quietly P v s h
        go s v (Some stream) is h =
            after_if P v (nat_eq stream.link t) (ends_row (suc n) ending stream s) (quietly s)
            (λ e. k.goes (suc n) s (ends_row (suc n) ending stream s) v (ends_goes IsOther (suc n) stream s is ending other) h)
            (λ e. after_quietly P v s h)

    all_end_climbs : (t : ℕ) (s : State) (w : List Event) → P s w → After P w (all_end t ending s)
    all_end_climbs t s w h = ends_of_climbs t s.drawn s w h

    pub link_ends_climbs : (t : ℕ) (s : State) (w : List Event) → P s w → After P w (link_ends t ending s)
    link_ends_climbs t s w h =
        let forgot : State = forgets t s in
        let ended_all : Made = all_end t ending forgot in
        after_then P w ended_all (λ s. quietly (mark_all s))
        (all_end_climbs t forgot w (quiet_climbs s forgot w (aside_else s forgot refl refl refl) h))
        (λ v now. k.aside ended_all.state (quietly (mark_all ended_all.state)) v (aside_marks ended_all.state) now)

  -- ---- CNXN, AUTH and STLS
  aside_marked : (s next : State) → Aside s (quietly next) → Aside s (quietly (mark_all next))
  aside_marked s next off = aside_then s (quietly next) (λ s. quietly (mark_all s)) off (aside_marks next)

  aside_online : (t version maxdata : ℕ) (identity : Identity) (s : State) → Aside s (quietly (goes_online t version maxdata identity s))
  aside_online t version maxdata identity s = aside_marked s _ (aside_else s _ refl refl refl)

  aside_unauthorized : (t : ℕ) (state : DeviceState) (s : State) → Aside s (quietly (unauthorized_from t state s))
  aside_unauthorized t Offline s = aside_marked s _ (aside_else s _ refl refl refl)
  aside_unauthorized t _ s = aside_same s

  module _ (s : State) (w : List Event) (h : P s w) where
    first_climbs : (b : Bool) (t : ℕ) → After P w (streams_end_first b t s)
    first_climbs true t = all_end_climbs Lost not_lost t s w h
    first_climbs false t = after_quietly P w s h

    connects_climbs : (t version maxdata : ℕ) (who : Option Identity) → After P w (connects t version maxdata who s)
    connects_climbs t version maxdata None = link_ends_climbs Broken not_broken t s w h
    connects_climbs t version maxdata (Some identity) =
        let first : Made = streams_end_first (is_connected t s.devices) t s in
        after_then P w first (λ s. quietly (goes_online t version maxdata identity s)) (first_climbs (is_connected t s.devices) t)
        (λ v now. k.aside first.state (quietly (goes_online t version maxdata identity first.state)) v
        (aside_online t version maxdata identity first.state) now)

    cnxn_climbs : (t version maxdata : ℕ) (banner : List ℕ) → After P w (cnxn t version maxdata banner s)
    cnxn_climbs t version maxdata banner =
        after_if P w (nat_lt version least_version || nat_lt maxdata least_maxdata) (link_ends t Broken s)
        (connects t version maxdata (identity_of banner) s)
        (λ e. link_ends_climbs Broken not_broken t s w h) (λ e. connects_climbs t version maxdata (identity_of banner))

    unauthorized_climbs : (t : ℕ) (o : Option Row) → After P w (unauthorized t o s)
    unauthorized_climbs t None = after_quietly P w s h
    unauthorized_climbs t (Some row) =
        k.aside s (quietly (unauthorized_from t row.state s)) w (aside_unauthorized t row.state s) h

    -- ---- OPEN
    refuses_climbs : (t id : ℕ) → After P w (refuses_open t id s)
    refuses_climbs t id =
        after_if P w (eqb id 0) (quietly s) (owe_link t (close_packet 0 id) s) (λ e. after_quietly P w s h)
        (λ e. k.aside s (owe_link t (close_packet 0 id) s) w (aside_owe t (close_packet 0 id) s (refl, λ f. refl)) h)

    at_stream_climbs : (t l : ℕ) (o : Option Stream) (rule : Stream → State → Made) → s.streams l ≡ o
        → ((stream : Stream) → s.streams l ≡ Some stream → After P w (rule stream s)) → After P w (at_stream t o rule s)
    at_stream_climbs t l None rule is keeps = after_quietly P w s h
    at_stream_climbs t l (Some stream) rule is keeps =
        after_if P w (nat_eq stream.link t) (rule stream s) (quietly s) (λ e. keeps stream is) (λ e. after_quietly P w s h)

    -- ---- OKAY
    module _ (l remote : ℕ) (word : Option ℕ) (stream : Stream) (is : s.streams l ≡ Some stream) (hears : Hears s l) where
      first_okay_climbs : (orphan : Bool) → (stream.part.remote ≡ 0) × (stream.part.orphan ≡ orphan) × (remote ≢ 0)
          → After P w (okay_first orphan l remote word stream s)
      first_okay_climbs true new = k.goes l s (orphan_opened l remote stream s) w (orphan_goes l remote stream s is) h
      first_okay_climbs false new = k.opens l remote word stream s w is new hears h

      okay_climbs : After P w (takes_okay l remote word stream s)
      okay_climbs =
          let first : Made = okay_first stream.part.orphan l remote word stream s in
          let open_again : Made = okay_open l word stream s in
          let later : Made = cond (eqb remote stream.part.remote) open_again (quietly s) in
          after_if P w (eqb remote 0) (quietly s) (cond (eqb stream.part.remote 0) first later) (λ e. after_quietly P w s h)
          (λ some. after_if P w (eqb stream.part.remote 0) first later
          (λ e. first_okay_climbs stream.part.orphan (eqb-true stream.part.remote 0 e, refl, eqb-false remote 0 some))
          (λ e. after_if P w (eqb remote stream.part.remote) open_again (quietly s)
          (λ f. after_quietly P w open_again.state (k.acks l word stream s w is hears h)) (λ f. after_quietly P w s h)))

    -- ---- WRTE
    none_climbs : (flow : Flow) (l : ℕ) (stream : Stream) → After P w (accepts_none flow l stream s)
    none_climbs (One window) l stream =
        let p : Packet = okay_packet l stream.part.remote in
        k.aside s (owe_link stream.link p s) w (aside_owe stream.link p s (refl, λ e. absurd (let clash : false ≡ true = e in cc))) h
    none_climbs (Credit credit) l stream = after_quietly P w s h

    accepts_climbs : (l : ℕ) (payload : List ℕ) (stream : Stream) → s.streams l ≡ Some stream → After P w (accepts l payload stream s)
    accepts_climbs l [] stream is = none_climbs stream.part.flow l stream
    accepts_climbs l (b ∷ payload) stream is =
        let part : Part = with_flow (accepted (length (b ∷ payload)) stream.part.flow) stream.part in
        let taken : State = to_stream l (with_stream_part part) s in
        k.aside taken (owe_client stream.client (b ∷ payload) taken) w (aside_owe_client stream.client (b ∷ payload) taken)
        (k.parts l stream part s w is (level_taken (length (b ∷ payload)) stream.part) h)

    write_climbs : (l remote : ℕ) (payload : List ℕ) (stream : Stream) → s.streams l ≡ Some stream
        → After P w (takes_write l remote payload stream s)
    write_climbs l remote payload stream is =
        let late : Made = ends_telling l OutOfTurn stream s in
        let taken : Made = accepts l payload stream s in
        let out : Bool = is_out_of_turn stream.part.flow (length payload) in
        after_if P w (eqb remote 0 || not (eqb remote stream.part.remote)) (quietly s) (cond out late taken) (λ e. after_quietly P w s h)
        (λ known. after_if P w out late taken
        (λ e. k.goes l s late w (telling_goes IsOther l OutOfTurn stream s is not_turn) h)
        (λ turn. accepts_climbs l payload stream is))

    -- ---- CLSE
    close_climbs : (l remote : ℕ) (stream : Stream) → s.streams l ≡ Some stream → After P w (takes_close l remote stream s)
    close_climbs l remote stream is =
        after_if P w (eqb remote 0 || eqb remote stream.part.remote) (ends_row l PeerClosed stream s) (quietly s)
        (λ e. k.goes l s (ends_row l PeerClosed stream s) w (ends_goes IsOther l stream s is PeerClosed not_peer) h)
        (λ e. after_quietly P w s h)

    -- ---- one packet, of which an OKAY is heard
    treat_open_climbs : (t : ℕ) (command : Command) (p : Packet) → (command ≡ Okay → Hears s p.arg1) → After P w (treat_open t command p s)
    treat_open_climbs t Open p hears = refuses_climbs t p.arg0
    treat_open_climbs t Okay p hears =
        at_stream_climbs t p.arg1 (s.streams p.arg1) (takes_okay p.arg1 p.arg0 (credit_word p.payload)) refl
        (λ stream is. okay_climbs p.arg1 p.arg0 (credit_word p.payload) stream is (hears refl))
    treat_open_climbs t Wrte p hears =
        at_stream_climbs t p.arg1 (s.streams p.arg1) (takes_write p.arg1 p.arg0 p.payload) refl
        (λ stream is. write_climbs p.arg1 p.arg0 p.payload stream is)
    treat_open_climbs t Clse p hears =
        at_stream_climbs t p.arg1 (s.streams p.arg1) (takes_close p.arg1 p.arg0) refl (λ stream is. close_climbs p.arg1 p.arg0 stream is)
    treat_open_climbs t _ p hears = after_quietly P w s h

    connected_climbs : (t : ℕ) (command : Command) (p : Packet) → (command ≡ Okay → Hears s p.arg1)
        → After P w (cond (is_connected t s.devices) (treat_open t command p s) (quietly s))
    connected_climbs t command p hears =
        after_if P w (is_connected t s.devices) (treat_open t command p s) (quietly s)
        (λ e. treat_open_climbs t command p hears) (λ e. after_quietly P w s h)

    treat_any_climbs : (t : ℕ) (command : Command) (p : Packet) → (command ≡ Okay → Hears s p.arg1) → After P w (treat_any t command p s)
    treat_any_climbs t Cnxn p hears = cnxn_climbs t p.arg0 p.arg1 p.payload
    treat_any_climbs t Auth p hears = unauthorized_climbs t (at t s.devices.rows)
    treat_any_climbs t Stls p hears = unauthorized_climbs t (at t s.devices.rows)
    treat_any_climbs t Open p hears = connected_climbs t Open p hears
    treat_any_climbs t Okay p hears = connected_climbs t Okay p hears
    treat_any_climbs t Wrte p hears = connected_climbs t Wrte p hears
    treat_any_climbs t Clse p hears = connected_climbs t Clse p hears

    treat_on_climbs : (o : Option Link) (t : ℕ) (p : Packet) → (p.command ≡ Okay → Hears s p.arg1) → After P w (treat_on o t p s)
    treat_on_climbs None t p hears = after_quietly P w s h
    treat_on_climbs (Some link) t p hears = treat_any_climbs t p.command p hears

    pub treat_climbs : (t : ℕ) (p : Packet) → (p.command ≡ Okay → Hears s p.arg1) → After P w (treat t p s)
    treat_climbs t p hears = treat_on_climbs (s.links t) t p hears

    pub faulty_climbs : (o : Option Link) (t : ℕ) (fault : Option PacketFault) → After P w (faulty_on o t fault s)
    faulty_climbs None t fault = after_quietly P w s h
    faulty_climbs (Some link) t None = after_quietly P w s h
    faulty_climbs (Some link) t (Some fault) = link_ends_climbs Broken not_broken t s w h

  pub up_all_climbs : (s : State) (w : List Event) → P s w → (n : ℕ) → After P w (up_all n s)
  up_all_climbs s w h n = up_all_sends k.sends s w h n
