-- What is seen of a stream stays through the packets to other streams, and through those of other links.
use Rattle.std.proofs.Common.{ℕ, ◌≡◌, ◌≢◌, Bool, true, false, cond, List, [], ◌∷◌, length, Option, Some, None, refl, eqb}
use Rattle.std.proofs.Common.{codes}
use Rattle.std.proofs.lemmas.Bool.{eqb-true, ne_eqb}
use Rattle.std.specs.Prelude.{◌||◌, not, nat_lt}
use Rattle.adb_outside.specs.Tables.{at}
use Rattle.adb_outside.specs.declared.identity.Identity.{Identity}
use Rattle.adb_outside.specs.declared.identity.State.{State as DeviceState}
use Rattle.adb_outside.specs.declared.identity.State.TheVariants.{Offline}
use Rattle.adb_banner.specs.Banner.{identity_of}
use Rattle.adb_registry.specs.Row.{unauthorized_row}
use Rattle.adb_registry.specs.Registry.{changed}
use Rattle.adb_registry.specs.declared.row.Row.{Row}
use Rattle.adb_wire.specs.declared.command.Command.{Command}
use Rattle.adb_wire.specs.declared.command.Command.TheVariants.{Cnxn, Open, Okay, Wrte, Clse, Auth, Stls}
use Rattle.adb_wire.specs.declared.packets.Packet.{Packet}
use Rattle.adb_wire.specs.declared.format.PacketFault.{PacketFault}
use Rattle.adb_stream.specs.declared.flow.Flow.{Flow}
use Rattle.adb_stream.specs.declared.flow.Flow.TheVariants.{One, Credit}
use Rattle.adb_stream.specs.declared.row.Stream.{Stream}
use Rattle.adb_stream.specs.Flow.{first_credit, acknowledged, is_out_of_turn, accepted}
use Rattle.adb_client.specs.declared.phase.Phase.TheVariants.{Streaming}
use Rattle.adb_history.specs.Rows.{Client, Link, State, to_client, to_stream, none_kept, in_phase, with_stream_part}
use Rattle.adb_history.specs.Events.{Made, Event, quietly}
use Rattle.adb_history.specs.declared.ending.Ending.TheVariants.{PeerClosed, OutOfTurn, Lost, Broken}
use Rattle.adb_history.specs.Links.{close_packet, okay_packet, credit_word, owe_link, is_connected}
use Rattle.adb_history.specs.Clients.{owe_client}
use Rattle.adb_history.specs.Streams.{ends_row, ends_telling}
use Rattle.adb_history.specs.Flow.{with_flow}
use Rattle.adb_history.specs.Losing.{link_ends}
use Rattle.adb_history.specs.Packets.{least_version, least_maxdata, streams_end_first, goes_online, connects, cnxn, unauthorized_from}
use Rattle.adb_history.specs.Packets.{unauthorized}
use Rattle.adb_history.specs.Packets.{refuses_open}
use Rattle.adb_history.specs.Packets.{at_stream, with_remote, hears_okay, opened, okay_open, okay_first, takes_okay}
use Rattle.adb_history.specs.Packets.{accepts_none, accepts, takes_write, takes_close, treat_open, treat_any, treat_on, faulty_on}
use Rattle.adb_history.specs.Moves.{After}
use Rattle.adb_history.proofs.Following.{after_quietly, after_then, after_if}
use Rattle.adb_laws_fifo_down.specs.Line.{Line, View, Shows}
use Rattle.adb_laws_fifo_down.proofs.Shown.{no_okay, shows_owe_link, shows_client, shows_owe_client, shows_mark_all, shows_stream}
use Rattle.adb_laws_fifo_down.proofs.Others.{IsElsewhere, elsewhere, part_keeps, none_keeps, shows_ends, shows_ends_telling, shows_all_end}
use Rattle.adb_laws_fifo_down.proofs.Others.{shows_link_ends}

module _ (b : Line) (v : View) where
  -- ---- packets to another stream
  module _ (k : ℕ) (other : k ≢ b.id) (x : Stream) where
    shows_hears : (o : Option Client) (s : State) (w : List Event) → x.client ≢ b.client → Shows b v s w
        → After (Shows b v) w (hears_okay o x.client s)
    shows_hears None s w apart h = after_quietly (Shows b v) w s h
    shows_hears (Some a) s w apart h =
        after_if (Shows b v) w a.about.forwarded (quietly s) (owe_client x.client (codes "OKAY") s) (λ e. after_quietly (Shows b v) w s h)
        (λ e. shows_owe_client b v x.client (codes "OKAY") s w apart h)

    module _ (s : State) (w : List Event) (h : Shows b v s w) (is : s.streams k ≡ Some x) where
      shows_opened : (remote : ℕ) (word : Option ℕ) → After (Shows b v) w (opened k remote word x s)
      shows_opened remote word =
          let apart : x.client ≢ b.client = h.0.others k x is other in
          let heard : Made = hears_okay (s.clients x.client) x.client s in
          let part = with_remote remote (with_flow (first_credit word x.part.flow) x.part) in
          after_then (Shows b v) w heard
          (λ s. quietly (to_client x.client (in_phase (Streaming k)) (to_stream k (with_stream_part part) s)))
          (shows_hears (s.clients x.client) s w apart h)
          (λ u now. after_quietly (Shows b v) u
          (to_client x.client (in_phase (Streaming k)) (to_stream k (with_stream_part part) heard.state))
          (shows_client b v x.client (in_phase (Streaming k)) (to_stream k (with_stream_part part) heard.state) u apart
          (shows_stream b v k (with_stream_part part) heard.state u other (part_keeps part) now)))

      shows_first : (orphan : Bool) (remote : ℕ) (word : Option ℕ) → After (Shows b v) w (okay_first orphan k remote word x s)
      shows_first true remote word =
          shows_owe_link b v x.link (close_packet k remote) (to_stream k none_kept s) w refl
          (shows_stream b v k none_kept s w other none_keeps h)
      shows_first false remote word = shows_opened remote word

      shows_okay_open : (word : Option ℕ) → After (Shows b v) w (okay_open k word x s)
      shows_okay_open word =
          let part = with_flow (acknowledged word x.part.flow) x.part in
          after_quietly (Shows b v) w (to_stream k (with_stream_part part) s)
          (shows_stream b v k (with_stream_part part) s w other (part_keeps part) h)

      shows_okay : (remote : ℕ) (word : Option ℕ) → After (Shows b v) w (takes_okay k remote word x s)
      shows_okay remote word =
          let first : Made = okay_first x.part.orphan k remote word x s in
          let later : Made = cond (eqb remote x.part.remote) (okay_open k word x s) (quietly s) in
          after_if (Shows b v) w (eqb remote 0) (quietly s) (cond (eqb x.part.remote 0) first later) (λ e. after_quietly (Shows b v) w s h)
          (λ e. after_if (Shows b v) w (eqb x.part.remote 0) first later (λ f. shows_first x.part.orphan remote word)
          (λ f. after_if (Shows b v) w (eqb remote x.part.remote) (okay_open k word x s) (quietly s) (λ g. shows_okay_open word)
          (λ g. after_quietly (Shows b v) w s h)))

      shows_none : (flow : Flow) → After (Shows b v) w (accepts_none flow k x s)
      shows_none (One window) =
          shows_owe_link b v x.link (okay_packet k x.part.remote) s w (no_okay b (okay_packet k x.part.remote) (ne_eqb k b.id other)) h
      shows_none (Credit credit) = after_quietly (Shows b v) w s h

      shows_accepts : (payload : List ℕ) → After (Shows b v) w (accepts k payload x s)
      shows_accepts [] = shows_none x.part.flow
      shows_accepts (d ∷ payload) =
          let part = with_flow (accepted (length (d ∷ payload)) x.part.flow) x.part in
          shows_owe_client b v x.client (d ∷ payload) (to_stream k (with_stream_part part) s) w (h.0.others k x is other)
          (shows_stream b v k (with_stream_part part) s w other (part_keeps part) h)

      shows_write : (remote : ℕ) (payload : List ℕ) → After (Shows b v) w (takes_write k remote payload x s)
      shows_write remote payload =
          let late : Made = ends_telling k OutOfTurn x s in
          let taken : Made = accepts k payload x s in
          after_if (Shows b v) w (eqb remote 0 || not (eqb remote x.part.remote)) (quietly s)
          (cond (is_out_of_turn x.part.flow (length payload)) late taken)
          (λ e. after_quietly (Shows b v) w s h)
          (λ e. after_if (Shows b v) w (is_out_of_turn x.part.flow (length payload)) late taken
          (λ f. shows_ends_telling b v s w h k OutOfTurn x is other)
          (λ f. shows_accepts payload))

      shows_close : (remote : ℕ) → After (Shows b v) w (takes_close k remote x s)
      shows_close remote =
          after_if (Shows b v) w (eqb remote 0 || eqb remote x.part.remote) (ends_row k PeerClosed x s) (quietly s)
          (λ e. shows_ends b v s w h k PeerClosed x is other) (λ e. after_quietly (Shows b v) w s h)

  -- ---- packets that are of no stream
  module _ (s : State) (w : List Event) (h : Shows b v s w) where
    pub shows_refuses : (t id : ℕ) → After (Shows b v) w (refuses_open t id s)
    shows_refuses t id =
        after_if (Shows b v) w (eqb id 0) (quietly s) (owe_link t (close_packet 0 id) s) (λ e. after_quietly (Shows b v) w s h)
        (λ e. shows_owe_link b v t (close_packet 0 id) s w refl h)

    pub shows_unauthorized : (t : ℕ) (o : Option Row) → After (Shows b v) w (unauthorized t o s)
    shows_unauthorized t None = after_quietly (Shows b v) w s h
    shows_unauthorized t (Some row) = after_quietly (Shows b v) w (unauthorized_from t row.state s) (go row.state)
      where
        go : (state : DeviceState) → Shows b v (unauthorized_from t state s) w
        go Offline = shows_mark_all b v (record s { devices = changed t unauthorized_row s.devices }) w h
        go _ = h

    pub shows_online : (t version maxdata : ℕ) (identity : Identity) → Shows b v (goes_online t version maxdata identity s) w
    shows_online t version maxdata identity = shows_mark_all b v s w h

  module _ (t : ℕ) (s : State) (w : List Event) (h : Shows b v s w) where
    shows_at : (k : ℕ) (o : Option Stream) (rule : Stream → State → Made) → s.streams k ≡ o
        → ((x : Stream) → s.streams k ≡ Some x → x.link ≡ t → After (Shows b v) w (rule x s)) → After (Shows b v) w (at_stream t o rule s)
    shows_at k None rule is keeps = after_quietly (Shows b v) w s h
    shows_at k (Some x) rule is keeps =
        after_if (Shows b v) w (eqb x.link t) (rule x s) (quietly s) (λ e. keeps x is (eqb-true x.link t e))
        (λ e. after_quietly (Shows b v) w s h)

    -- a packet that concerns another stream
    pub shows_treat_open : (command : Command) (p : Packet) → ((x : Stream) → s.streams p.arg1 ≡ Some x → x.link ≡ t → p.arg1 ≢ b.id)
        → After (Shows b v) w (treat_open t command p s)
    shows_treat_open Open p other = shows_refuses s w h t p.arg0
    shows_treat_open Okay p other = shows_at p.arg1 (s.streams p.arg1) (takes_okay p.arg1 p.arg0 (credit_word p.payload)) refl
        (λ x is on. shows_okay p.arg1 (other x is on) x s w h is p.arg0 (credit_word p.payload))
    shows_treat_open Wrte p other = shows_at p.arg1 (s.streams p.arg1) (takes_write p.arg1 p.arg0 p.payload) refl
        (λ x is on. shows_write p.arg1 (other x is on) x s w h is p.arg0 p.payload)
    shows_treat_open Clse p other = shows_at p.arg1 (s.streams p.arg1) (takes_close p.arg1 p.arg0) refl
        (λ x is on. shows_close p.arg1 (other x is on) x s w h is p.arg0)
    shows_treat_open _ p other = after_quietly (Shows b v) w s h

  -- ---- a link of which the stream is none
  module _ (t : ℕ) (apart : IsElsewhere b v t) where
    shows_connects : (version maxdata : ℕ) (who : Option Identity) (s : State) (w : List Event) → Shows b v s w
        → After (Shows b v) w (connects t version maxdata who s)
    shows_connects version maxdata None s w h = shows_link_ends b v t apart Broken s w h
    shows_connects version maxdata (Some identity) s w h =
        let first : Made = streams_end_first (is_connected t s.devices) t s in
        after_then (Shows b v) w first (λ s. quietly (goes_online t version maxdata identity s)) (by (is_connected t s.devices))
        (λ u now. after_quietly (Shows b v) u (goes_online t version maxdata identity first.state)
        (shows_online first.state u now t version maxdata identity))
      where
        by : (c : Bool) → After (Shows b v) w (streams_end_first c t s)
        by true = shows_all_end b v t apart Lost s w h
        by false = after_quietly (Shows b v) w s h

    module _ (s : State) (w : List Event) (h : Shows b v s w) where
      shows_cnxn : (version maxdata : ℕ) (banner : List ℕ) → After (Shows b v) w (cnxn t version maxdata banner s)
      shows_cnxn version maxdata banner =
          after_if (Shows b v) w (nat_lt version least_version || nat_lt maxdata least_maxdata) (link_ends t Broken s)
          (connects t version maxdata (identity_of banner) s)
          (λ e. shows_link_ends b v t apart Broken s w h) (λ e. shows_connects version maxdata (identity_of banner) s w h)

      shows_if_connected : (command : Command) (p : Packet) → After (Shows b v) w
          (cond (is_connected t s.devices) (treat_open t command p s) (quietly s))
      shows_if_connected command p =
          after_if (Shows b v) w (is_connected t s.devices) (treat_open t command p s) (quietly s)
          (λ e. shows_treat_open t s w h command p (λ x is on. elsewhere b v t p.arg1 x s w apart h is on))
          (λ e. after_quietly (Shows b v) w s h)

      shows_treat_any : (command : Command) (p : Packet) → After (Shows b v) w (treat_any t command p s)
      shows_treat_any Cnxn p = shows_cnxn p.arg0 p.arg1 p.payload
      shows_treat_any Auth p = shows_unauthorized s w h t (at t s.devices.rows)
      shows_treat_any Stls p = shows_unauthorized s w h t (at t s.devices.rows)
      shows_treat_any Open p = shows_if_connected Open p
      shows_treat_any Okay p = shows_if_connected Okay p
      shows_treat_any Wrte p = shows_if_connected Wrte p
      shows_treat_any Clse p = shows_if_connected Clse p

      pub shows_treat_on : (o : Option Link) (p : Packet) → After (Shows b v) w (treat_on o t p s)
      shows_treat_on None p = after_quietly (Shows b v) w s h
      shows_treat_on (Some link) p = shows_treat_any p.command p

      pub shows_faulty : (o : Option Link) (fault : Option PacketFault) → After (Shows b v) w (faulty_on o t fault s)
      shows_faulty None fault = after_quietly (Shows b v) w s h
      shows_faulty (Some link) None = after_quietly (Shows b v) w s h
      shows_faulty (Some link) (Some fault) = shows_link_ends b v t apart Broken s w h
