-- What each move keeps, the packets of a device keep.
use Rattle.std.proofs.Common.{◌≡◌, ◌≢◌, ℕ, Bool, true, false, cond, not, ◌||◌, List, [], ◌∷◌, ◌++◌, length, Option, Some, None, refl, ap}
use Rattle.std.proofs.Common.{subst, arith}
use Rattle.std.proofs.Common.{inl, inr, eqb}
use Rattle.std.specs.Prelude.{codes, is_some, nat_eq, nat_lt}
use Rattle.std.proofs.lemmas.Bool.{eqb-true, eqb-false}
use Rattle.adb_outside.specs.Tables.{at}
use Rattle.adb_outside.specs.Framing.{Cut}
use Rattle.adb_outside.specs.declared.identity.Identity.{Identity}
use Rattle.adb_outside.specs.declared.identity.State.{State as DeviceState}
use Rattle.adb_outside.specs.declared.identity.State.TheVariants.{Offline}
use Rattle.adb_banner.specs.Banner.{identity_of}
use Rattle.adb_registry.specs.declared.row.Row.{Row}
use Rattle.adb_wire.specs.Cutting.{cut_packets}
use Rattle.adb_wire.specs.declared.command.Command.{Command}
use Rattle.adb_wire.specs.declared.command.Command.TheVariants.{Cnxn, Open, Okay, Wrte, Clse, Auth, Stls}
use Rattle.adb_wire.specs.declared.packets.Packet.{Packet}
use Rattle.adb_wire.specs.declared.format.PacketFault.{PacketFault}
use Rattle.adb_wire.specs.declared.format.PacketFormat.{PacketFormat}
use Rattle.adb_stream.specs.declared.flow.Flow.{Flow}
use Rattle.adb_stream.specs.declared.flow.Flow.TheVariants.{One, Credit}
use Rattle.adb_stream.specs.declared.row.Stream.{Stream}
use Rattle.adb_stream.specs.Flow.{acknowledged, is_out_of_turn}
use Rattle.adb_history.specs.Rows.{Client, Link, State, to_link, to_stream, with_stream_part}
use Rattle.adb_history.specs.Events.{Made, Event, quietly}
use Rattle.adb_history.specs.declared.ending.Ending.TheVariants.{PeerClosed, OutOfTurn, Broken}
use Rattle.adb_history.specs.Links.{close_packet, okay_packet, credit_word, owe_link, is_connected}
use Rattle.adb_history.specs.Clients.{owe_client}
use Rattle.adb_history.specs.Streams.{ends_row, ends_telling}
use Rattle.adb_history.specs.Flow.{with_flow}
use Rattle.adb_history.specs.Losing.{link_ends}
use Rattle.adb_history.specs.Packets.{least_version, least_maxdata, connects, cnxn, unauthorized_from, unauthorized, refuses_open}
use Rattle.adb_history.specs.Packets.{at_stream, hears_okay}
use Rattle.adb_history.specs.Packets.{orphan_opened, okay_open, okay_first, takes_okay, accepts_none, accepts, takes_write, takes_close}
use Rattle.adb_history.specs.Packets.{treat_open}
use Rattle.adb_history.specs.Packets.{treat_any, treat_on, treat, treat_all, faulty_on, faulty, with_rest, receives_cut, receives_on}
use Rattle.adb_history.specs.Packets.{receives}
use Rattle.adb_history.specs.Moves.{After, Serves, IsLike}
use Rattle.adb_history.proofs.Following.{after_quietly, after_then, after_if}
use Rattle.adb_history.proofs.StreamMoves.{owes_kept, ends_telling_kept}
use Rattle.adb_history.specs.Turns.{Scope, names_stream, Allows, everywhere, Serving}
use Rattle.adb_history.proofs.AllMoves.{all_served}

pub like_acknowledged : (word : Option ℕ) (flow : Flow) → IsLike flow (acknowledged word flow)
like_acknowledged word (One window) = record { credit = refl; left = omega arith; sound = λ h. h }
like_acknowledged None (Credit credit) = record { credit = refl; left = omega arith; sound = λ h. h }
like_acknowledged (Some n) (Credit credit) =
    record { credit = refl; left = omega arith; sound = λ h. record { window = h.window; few = h.few; none = h.none } }

-- what the test of a write says where it passes
pub always : (b : Bool) → (b || not b) ≡ false → ⊥
always true e = cc
always false e = cc

pub written_to : (remote own : ℕ) → (eqb remote 0 || not (eqb remote own)) ≡ false → own ≢ 0
written_to remote own e is = always (eqb remote 0) (subst (λ (n : ℕ). (eqb remote 0 || not (eqb remote n)) ≡ false) is e)

pub hears_streams : (o : Option Client) (c : ℕ) (s : State) → (hears_okay o c s).state.streams ≡ s.streams
hears_streams None c s = refl
hears_streams (Some client) c s = go client.about.forwarded
  where
    go : (b : Bool) → (cond b (quietly s) (owe_client c (codes "OKAY") s)).state.streams ≡ s.streams
    go true = refl
    go false = refl

module _ {scope : Scope} {asker : ℕ} {P : State → List Event → Type 0} (k : Serving scope asker P) where
  module _ (s : State) (w : List Event) (h : P s w) where
    -- ---- CNXN, AUTH and STLS
    connects_kept : (t version maxdata : ℕ) (who : Option Identity) → scope.renews t × scope.cuts t
        → After P w (connects t version maxdata who s)
    connects_kept t version maxdata None may = k.link_ends t Broken s w (refl, may.1) h
    connects_kept t version maxdata (Some identity) may = k.online t version maxdata identity s w may.0 h

    cnxn_kept : (t version maxdata : ℕ) (banner : List ℕ) → scope.renews t × scope.cuts t → After P w (cnxn t version maxdata banner s)
    cnxn_kept t version maxdata banner may =
        after_if P w (nat_lt version least_version || nat_lt maxdata least_maxdata) (link_ends t Broken s)
        (connects t version maxdata (identity_of banner) s)
        (λ e. k.link_ends t Broken s w (refl, may.1) h) (λ e. connects_kept t version maxdata (identity_of banner) may)

    unauthorized_kept : (t : ℕ) (o : Option Row) → at t s.devices.rows ≡ o → After P w (unauthorized t o s)
    unauthorized_kept t None is = after_quietly P w s h
    unauthorized_kept t (Some row) is = after_quietly P w (unauthorized_from t row.state s) (go row.state refl)
      where
        go : (state : DeviceState) → row.state ≡ state → P (unauthorized_from t state s) w
        go Offline e = k.unauthorized t row s w is e h
        go _ e = h

    -- ---- OPEN
    refuses_kept : (t id : ℕ) → After P w (refuses_open t id s)
    refuses_kept t id =
        after_if P w (eqb id 0) (quietly s) (owe_link t (close_packet 0 id) s) (λ e. after_quietly P w s h)
        (λ e. owes_kept k s w h t (close_packet 0 id) (inl refl))

    at_stream_kept : (t l : ℕ) (o : Option Stream) (rule : Stream → State → Made) → s.streams l ≡ o
        → ((stream : Stream) → s.streams l ≡ Some stream → After P w (rule stream s)) → After P w (at_stream t o rule s)
    at_stream_kept t l None rule is keeps = after_quietly P w s h
    at_stream_kept t l (Some stream) rule is keeps =
        after_if P w (nat_eq stream.link t) (rule stream s) (quietly s) (λ e. keeps stream is) (λ e. after_quietly P w s h)

    -- ---- OKAY
    pub orphan_kept : (l remote : ℕ) (stream : Stream) → s.streams l ≡ Some stream → stream.part.orphan ≡ true
        → After P w (orphan_opened l remote stream s)
    orphan_kept l remote stream is orphan =
        let p : Packet = close_packet l remote in
        let owed : Made = owe_link stream.link p s in
        k.orphan_goes l stream owed.state (w ++ owed.told) is orphan (owes_kept k s w h stream.link p (inr (inl (ap is_some is))))

    first_kept : (orphan : Bool) (l remote : ℕ) (word : Option ℕ) (stream : Stream) → s.streams l ≡ Some stream → scope.reaches l
        → (stream.part.remote ≡ 0) × (stream.part.orphan ≡ orphan) × (remote ≢ 0) → After P w (okay_first orphan l remote word stream s)
    first_kept true l remote word stream is may new = orphan_kept l remote stream is new.1
    first_kept false l remote word stream is may new =
        k.opened l remote word stream s w is (record { new = new.0; owned = new.1; by = new.2 }) may h

    pub okay_open_kept : (l : ℕ) (word : Option ℕ) (stream : Stream) → s.streams l ≡ Some stream → After P w (okay_open l word stream s)
    okay_open_kept l word stream is =
        let flow : Flow = acknowledged word stream.part.flow in
        after_quietly P w (to_stream l (with_stream_part (with_flow flow stream.part)) s)
        (k.flows l stream flow s w is (like_acknowledged word stream.part.flow) h)

    okay_kept : (l remote : ℕ) (word : Option ℕ) (stream : Stream) → s.streams l ≡ Some stream → scope.reaches l
        → After P w (takes_okay l remote word stream s)
    okay_kept l remote word stream is may =
        let first : Made = okay_first stream.part.orphan l remote word stream s in
        let open_again : Made = okay_open l word stream s in
        let later : Made = cond (eqb remote stream.part.remote) open_again (quietly s) in
        after_if P w (eqb remote 0) (quietly s) (cond (eqb stream.part.remote 0) first later) (λ e. after_quietly P w s h)
        (λ some. after_if P w (eqb stream.part.remote 0) first later
        (λ e. first_kept stream.part.orphan l remote word stream is may (eqb-true stream.part.remote 0 e, refl, eqb-false remote 0 some))
        (λ e. after_if P w (eqb remote stream.part.remote) open_again (quietly s)
        (λ e. okay_open_kept l word stream is) (λ e. after_quietly P w s h)))

    -- ---- WRTE
    accepts_none_kept : (flow : Flow) (l : ℕ) (stream : Stream) → s.streams l ≡ Some stream → After P w (accepts_none flow l stream s)
    accepts_none_kept (One window) l stream is = owes_kept k s w h stream.link (okay_packet l stream.part.remote)
        (inr (inl (ap is_some is)))
    accepts_none_kept (Credit credit) l stream is = after_quietly P w s h

    accepts_kept : (l : ℕ) (payload : List ℕ) (stream : Stream) → s.streams l ≡ Some stream → stream.part.remote ≢ 0
        → is_out_of_turn stream.part.flow (length payload) ≡ false → After P w (accepts l payload stream s)
    accepts_kept l [] stream is known turn = accepts_none_kept stream.part.flow l stream is
    accepts_kept l (b ∷ payload) stream is known turn = k.accepts l (b ∷ payload) stream s w is known turn h

    write_kept : (l remote : ℕ) (payload : List ℕ) (stream : Stream) → s.streams l ≡ Some stream
        → After P w (takes_write l remote payload stream s)
    write_kept l remote payload stream is =
        let late : Made = ends_telling l OutOfTurn stream s in
        let taken : Made = accepts l payload stream s in
        let out : Bool = is_out_of_turn stream.part.flow (length payload) in
        after_if P w (eqb remote 0 || not (eqb remote stream.part.remote)) (quietly s) (cond out late taken) (λ e. after_quietly P w s h)
        (λ known. after_if P w out late taken
        (λ e. ends_telling_kept k s w h l OutOfTurn stream is
        (inr (inl (written_to remote stream.part.remote known))))
        (λ turn. accepts_kept l payload stream is (written_to remote stream.part.remote known) turn))

    -- ---- CLSE
    close_kept : (l remote : ℕ) (stream : Stream) → s.streams l ≡ Some stream → scope.reaches l → After P w (takes_close l remote stream s)
    close_kept l remote stream is may =
        after_if P w (eqb remote 0 || eqb remote stream.part.remote) (ends_row l PeerClosed stream s) (quietly s)
        (λ e. k.ends l PeerClosed stream s w is (inl (refl, may)) h)
        (λ e. after_quietly P w s h)

    -- ---- one packet
    treat_open_kept : (t : ℕ) (command : Command) (p : Packet) → (names_stream command ≡ true → scope.reaches p.arg1)
        → After P w (treat_open t command p s)
    treat_open_kept t Open p may = refuses_kept t p.arg0
    treat_open_kept t Okay p may =
        at_stream_kept t p.arg1 (s.streams p.arg1) (takes_okay p.arg1 p.arg0 (credit_word p.payload)) refl
        (λ stream is. okay_kept p.arg1 p.arg0 (credit_word p.payload) stream is (may refl))
    treat_open_kept t Wrte p may =
        at_stream_kept t p.arg1 (s.streams p.arg1) (takes_write p.arg1 p.arg0 p.payload) refl
        (λ stream is. write_kept p.arg1 p.arg0 p.payload stream is)
    treat_open_kept t Clse p may =
        at_stream_kept t p.arg1 (s.streams p.arg1) (takes_close p.arg1 p.arg0) refl
        (λ stream is. close_kept p.arg1 p.arg0 stream is (may refl))
    treat_open_kept t _ p may = after_quietly P w s h

    if_connected_kept : (t : ℕ) (command : Command) (p : Packet) → (names_stream command ≡ true → scope.reaches p.arg1)
        → After P w (cond (is_connected t s.devices) (treat_open t command p s) (quietly s))
    if_connected_kept t command p may =
        after_if P w (is_connected t s.devices) (treat_open t command p s) (quietly s)
        (λ e. treat_open_kept t command p may) (λ e. after_quietly P w s h)

    treat_any_kept : (t : ℕ) (command : Command) (p : Packet) → Allows scope t command p → After P w (treat_any t command p s)
    treat_any_kept t Cnxn p may = cnxn_kept t p.arg0 p.arg1 p.payload (may.renews refl, may.cuts refl)
    treat_any_kept t Auth p may = unauthorized_kept t (at t s.devices.rows) refl
    treat_any_kept t Stls p may = unauthorized_kept t (at t s.devices.rows) refl
    treat_any_kept t Open p may = if_connected_kept t Open p may.reaches
    treat_any_kept t Okay p may = if_connected_kept t Okay p may.reaches
    treat_any_kept t Wrte p may = if_connected_kept t Wrte p may.reaches
    treat_any_kept t Clse p may = if_connected_kept t Clse p may.reaches

    pub treat_on_turns : (o : Option Link) (t : ℕ) (p : Packet) → Allows scope t p.command p → After P w (treat_on o t p s)
    treat_on_turns None t p may = after_quietly P w s h
    treat_on_turns (Some link) t p may = treat_any_kept t p.command p may

  treat_all_kept : (s : State) (w : List Event) → P s w → (t : ℕ) (packets : List Packet) → ((p : Packet) → Allows scope t p.command p)
      → After P w (treat_all t packets s)
  treat_all_kept s w h t [] may = after_quietly P w s h
  treat_all_kept s w h t (p ∷ packets) may =
      after_then P w (treat t p s) (treat_all t packets) (treat_on_turns s w h (s.links t) t p (may p))
      (λ v now. treat_all_kept (treat t p s).state v now t packets may)

  module _ (s : State) (w : List Event) (h : P s w) where
    -- ---- receive
    pub faulty_kept : (o : Option Link) (t : ℕ) (fault : Option PacketFault) → scope.cuts t → After P w (faulty_on o t fault s)
    faulty_kept None t fault may = after_quietly P w s h
    faulty_kept (Some link) t None may = after_quietly P w s h
    faulty_kept (Some link) t (Some fault) may = k.link_ends t Broken s w (refl, may) h

  module _ (s : State) (w : List Event) (h : P s w) where
    receives_cut_kept : (t : ℕ) (c : Cut PacketFormat Packet PacketFault) → ((p : Packet) → Allows scope t p.command p) × scope.cuts t
        → After P w (receives_cut t c s)
    receives_cut_kept t c may =
        let taken : State = to_link t (with_rest c.rest) s in
        after_then P w (treat_all t c.given taken) (faulty t c.fault)
        (treat_all_kept taken w (k.links t (λ link. record link { rest = c.rest }) s w h) t c.given may.0)
        (λ v now. faulty_kept (treat_all t c.given taken).state v now ((treat_all t c.given taken).state.links t) t c.fault may.1)

    receives_on_kept : (o : Option Link) (t : ℕ) (bytes : List ℕ) → ((p : Packet) → Allows scope t p.command p) × scope.cuts t
        → After P w (receives_on o t bytes s)
    receives_on_kept None t bytes may = after_quietly P w s h
    receives_on_kept (Some link) t bytes may =
        receives_cut_kept t (cut_packets (record { sums = link.sums }) (link.rest ++ bytes)) may

    pub receives_turns : (t : ℕ) (bytes : List ℕ) → ((p : Packet) → Allows scope t p.command p) × scope.cuts t
        → After P w (receives t bytes s)
    receives_turns t bytes may = receives_on_kept (s.links t) t bytes may

-- ---- whatever a packet touches
pub allows_all : (t : ℕ) (p : Packet) → Allows everywhere t p.command p
allows_all t p = record { reaches = λ e. tt; renews = λ e. tt; cuts = λ e. tt }

module _ {P : State → List Event → Type 0} (k : Serves P) (s : State) (w : List Event) (h : P s w) where
  pub treat_on_kept : (o : Option Link) (t : ℕ) (p : Packet) → After P w (treat_on o t p s)
  treat_on_kept o t p = treat_on_turns (all_served k everywhere 0) s w h o t p (allows_all t p)

  pub receives_kept : (t : ℕ) (bytes : List ℕ) → After P w (receives t bytes s)
  receives_kept t bytes = receives_turns (all_served k everywhere 0) s w h t bytes (allows_all t, tt)
