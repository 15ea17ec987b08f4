-- What each move keeps, the requests of the client keep that alone is answered, the listeners that stand for it, and the ends of all.
use Rattle.std.proofs.Common.{◌≡◌, ℕ, Bool, false, cond, All, List, [], ◌∷◌, ◌++◌, length, Option, Some, None, refl, sym, ap, subst, ◌∙◌}
use Rattle.std.proofs.Common.{inl, inr, eqb}
use Rattle.std.proofs.Common.{append_assoc}
use Rattle.std.specs.Prelude.{codes, is_some, is_none}
use Rattle.std.proofs.lemmas.List.Elements.{All-nil}
use Rattle.adb_outside.specs.Tables.{at, without}
use Rattle.adb_outside.proofs.TableLaws.{All-put_at, All-without}
use Rattle.adb_outside.specs.declared.kinds.Cause.{Cause}
use Rattle.adb_outside.specs.declared.kinds.Cause.TheVariants.{Eof, Fault, Starved, NoThread}
use Rattle.adb_registry.specs.Registry.{DeviceTable}
use Rattle.adb_registry.specs.declared.row.Row.{Row}
use Rattle.adb_forward.specs.Forwards.{forward_row}
use Rattle.adb_forward.specs.declared.row.ForwardRow.{ForwardRow}
use Rattle.adb_forward.specs.declared.table.TheConstants.{MAX_FORWARDS}
use Rattle.adb_wire.specs.declared.packets.Packet.{Packet}
use Rattle.adb_stream.specs.declared.row.Stream.{Stream}
use Rattle.adb_client.specs.declared.phase.Phase.{Phase}
use Rattle.adb_client.specs.declared.phase.Phase.TheVariants.{Asking, Opening, Streaming, Binding, Closing, Gone}
use Rattle.adb_client.specs.declared.about.Want.{Want}
use Rattle.adb_reply.specs.Strings.{failed}
use Rattle.adb_reply.specs.Refusals.{no_transport}
use Rattle.adb_reply.specs.declared.answer.Next.{Next}
use Rattle.adb_reply.specs.declared.answer.Next.TheVariants.{Close, Select, Track, Open, Bind, Rebind, Unbind, UnbindAll, Stop}
use Rattle.adb_history.specs.Rows.{Client, State, to_client, to_stream, none_kept, with_due, with_held}
use Rattle.adb_history.specs.Events.{Made, Event, quietly, ended}
use Rattle.adb_history.specs.declared.ending.Ending.TheVariants.{ClientFailed}
use Rattle.adb_history.specs.Links.{owe_link, close_packet}
use Rattle.adb_history.specs.Clients.{owe_client, closes}
use Rattle.adb_history.specs.Forwarding.{Binding as Bound, forwards_with, put_forward, told_port, is_unbound, bound_by}
use Rattle.adb_history.specs.Asking.{Asked, asks_with}
use Rattle.adb_history.specs.Losing.{stream_fails, stream_of, input_ends, client_ends}
use Rattle.adb_history.specs.Reading.{tracks, awaits, goes_on, asked_before, has_asked, asks, reads_in, bound_for, bound_in, bound_at}
use Rattle.adb_history.specs.Moves.{IsClientIn, After, Moves, IsFree, HasOne, IsLed}
use Rattle.adb_history.proofs.Following.{after_quietly, after_then, changed_here}
use Rattle.adb_history.proofs.StreamMoves.{asks_free, owes_kept, closes_with_kept, service_kept}
use Rattle.adb_history.proofs.Readiness.{IsAskedReady, asks_ready}
use Rattle.adb_history.specs.Bytes.{is_orderly}
use Rattle.adb_history.specs.Turns.{Scope, Turns, everywhere, serving}
use Rattle.adb_history.proofs.AllMoves.{all_moves}

-- ---- each forward leads to a device, after a change
pub led_put : (local transport : ℕ) (remote : List ℕ) (devices : DeviceTable) (forwards : List (ℕ × ForwardRow))
    → All (IsLed devices) forwards → All (IsLed devices) (put_forward local transport remote devices forwards)
led_put local transport remote devices forwards all = go (at transport devices.rows) refl
  where
    go : (o : Option Row) → at transport devices.rows ≡ o → All (IsLed devices) (forwards_with local transport remote o forwards)
    go None is = all
    go (Some row) is = All-put_at (IsLed devices) forwards local (forward_row local transport row.serial remote) (ap is_some is) all

pub led_bound : (want : Want) (port : ℕ) (devices : DeviceTable) (forwards : List (ℕ × ForwardRow))
    → All (IsLed devices) forwards → All (IsLed devices) (bound_by want port devices forwards).forwards
led_bound want port devices forwards all =
    go (is_unbound want.local port forwards) (is_none (at want.transport devices.rows)) (eqb (length forwards) MAX_FORWARDS)
  where
    go : (taken gone full : Bool) → All (IsLed devices)
        (cond {A = Bound} taken (record { reply = (failed (codes "cannot bind listener")).bytes; forwards = forwards })
        (cond {A = Bound} gone (record { reply = (failed no_transport).bytes; forwards = forwards })
        (cond {A = Bound} full (record { reply = (failed (codes "too many forwards")).bytes; forwards = forwards })
        (record {
          reply = codes "OKAYOKAY" ++ told_port want.local port;
          forwards = put_forward port want.transport want.remote devices forwards;
        })))).forwards
    go false false false = led_put port want.transport want.remote devices forwards all
    go _ _ _ = all

module _ {scope : Scope} {asker : ℕ} {P : State → List Event → Type 0} (k : Turns scope asker P) where
  module _ (s : State) (w : List Event) (h : P s w) where
    -- ---- what follows a request
    pub goes_on_turns : (next : Option Next) → IsClientIn s asker Asking → IsAskedReady s.devices next × scope.stops
        → After P w (goes_on next asker s)
    goes_on_turns None x ready = after_quietly P w s h
    goes_on_turns (Some Close) x ready =
        after_quietly P w (closes asker s) (k.closes asker x.client s w x.here (asks_free x.client.about.phase x.in_phase) h)
    goes_on_turns (Some (Select id)) x ready = absurd ready.0
    goes_on_turns (Some (Track long)) x ready =
        after_quietly P w (to_client asker (tracks long) s) (k.tracks x.client long s w x.here x.in_phase h)
    goes_on_turns (Some (Open t service)) x ready = service_kept k s w h false t service x (inr ready.0)
    goes_on_turns (Some (Bind transport local remote chosen)) x ready =
        let want : Want = record { transport = transport; local = local; remote = remote } in
        after_quietly P w (to_client asker (awaits want) s) (k.awaits x.client want s w x.here x.in_phase h)
    goes_on_turns (Some (Rebind transport local remote)) x ready =
        let forwards : List (ℕ × ForwardRow) = put_forward local transport remote s.devices s.forwards in
        let now : State = record s { forwards = forwards } in
        after_quietly P w (closes asker now) (k.closes asker x.client now w x.here (asks_free x.client.about.phase x.in_phase)
        (k.forwards forwards s w (led_put local transport remote s.devices s.forwards) h))
    goes_on_turns (Some (Unbind local)) x ready =
        let forwards : List (ℕ × ForwardRow) = without local s.forwards in
        let now : State = record s { forwards = forwards } in
        after_quietly P w (closes asker now) (k.closes asker x.client now w x.here (asks_free x.client.about.phase x.in_phase)
        (k.forwards forwards s w (All-without (IsLed s.devices) local s.forwards) h))
    goes_on_turns (Some UnbindAll) x ready =
        let now : State = record s { forwards = [] } in
        after_quietly P w (closes asker now)
        (k.closes asker x.client now w x.here (asks_free x.client.about.phase x.in_phase)
        (k.forwards [] s w (λ all. All-nil (IsLed s.devices)) h))
    goes_on_turns (Some Stop) x ready = k.stops x.client s w ready.1 x.here x.in_phase h

  module _ (s : State) (w : List Event) where
    pub asks_kept : (q : Asked) → IsClientIn s asker Asking → IsAskedReady s.devices q.next × scope.stops
        → P (to_client asker (has_asked q) s) w
        → After P w (asks q asker s)
    asks_kept q x ready h =
        let now : State = to_client asker (has_asked q) s in
        let taken : Client = record x.client { about = record x.client.about { selected = q.selected }; held = q.rest } in
        let owed : Made = owe_client asker q.replies now in
        let here : owed.state.clients asker ≡ Some (record taken { due = taken.due ++ q.replies }) =
        changed_here asker (with_due q.replies) now.clients taken (changed_here asker (has_asked q) s.clients x.client x.here) in
        after_then P w owed (goes_on q.next asker) (k.replies q.replies now w h)
        (λ v kept. goes_on_turns owed.state v kept q.next
        (record { client = record taken { due = taken.due ++ q.replies }; here = here; in_phase = x.in_phase }) ready)

  module _ (s : State) (w : List Event) (h : P s w) where
    -- ---- read
    pub reads_in_kept : (phase : Phase) (bytes : List ℕ) (x : IsClientIn s asker phase) → scope.stops
        → (x.client.about.phase ≡ Asking
        → P (to_client asker (has_asked (asks_with s.devices s.forwards bytes (asked_before x.client))) s) w)
        → After P w (reads_in phase asker bytes x.client s)
    reads_in_kept Asking bytes x may asked =
        let q : Asked = asks_with s.devices s.forwards bytes (asked_before x.client) in
        asks_kept s w q x (asks_ready s.devices s.forwards bytes (asked_before x.client) tt, may) (asked x.in_phase)
    reads_in_kept (Opening l) bytes x may asked =
        after_quietly P w (to_client asker (with_held (x.client.held ++ bytes)) s)
        (k.holds asker x.client (x.client.held ++ bytes) s w x.here (subst HasOne (sym x.in_phase) tt) h)
    reads_in_kept (Streaming l) bytes x may asked =
        after_quietly P w (to_client asker (with_held (x.client.held ++ bytes)) s)
        (k.holds asker x.client (x.client.held ++ bytes) s w x.here (subst HasOne (sym x.in_phase) tt) h)
    reads_in_kept _ bytes x may asked = after_quietly P w s h

    -- ---- bound
    bound_for_kept : (want : Option Want) (port : ℕ) → IsClientIn s asker Binding → After P w (bound_for want asker port s)
    bound_for_kept None port x = after_quietly P w s h
    bound_for_kept (Some want) port x =
        let b : Bound = bound_by want port s.devices s.forwards in
        closes_with_kept k (record s { forwards = b.forwards }) w
        (k.forwards b.forwards s w (led_bound want port s.devices s.forwards) h) b.reply x.client x.here
        (subst IsFree (sym x.in_phase) tt)

    bound_in_kept : (phase : Phase) (want : Option Want) (port : ℕ) → IsClientIn s asker phase
        → After P w (bound_in phase want asker port s)
    bound_in_kept Binding want port x = bound_for_kept want port x
    bound_in_kept _ want port x = after_quietly P w s h

    pub bound_kept : (o : Option Client) (port : ℕ) → s.clients asker ≡ o → After P w (bound_at o asker port s)
    bound_kept None port is = after_quietly P w s h
    bound_kept (Some client) port is = bound_in_kept client.about.phase client.about.want port
        (record { client = client; here = is; in_phase = refl })

    -- ---- client end
    drops_kept : (c : ℕ) (client : Client) → s.clients c ≡ Some client → stream_of client.about.phase s.streams ≡ None
        → After P w (quietly (to_client c none_kept s))
    drops_kept c client is none = after_quietly P w (to_client c none_kept s) (k.drops c client s w is none h)

    fails_open_kept : (c l : ℕ) (cause : Cause) (o : Option Stream) → IsClientIn s c (Streaming l) → s.streams l ≡ o
        → After P w (stream_fails (Streaming l) cause o (to_client c none_kept s))
    fails_open_kept c l cause None x at_l = drops_kept c x.client x.here (ap (λ p. stream_of p s.streams) x.in_phase ∙ at_l)
    fails_open_kept c l cause (Some stream) x at_l =
        let p : Packet = close_packet l stream.part.remote in
        let owed : Made = owe_link stream.link p s in
        let gone : Made = owe_link stream.link p (to_stream l none_kept (to_client c none_kept s)) in
        subst (λ (v : List Event). P gone.state v) (append_assoc w owed.told (ended l (ClientFailed cause) ∷ []))
        (k.fails_open c l (record { cause = cause; client = x.client; stream = stream }) owed.state (w ++ owed.told)
        (x.here, x.in_phase, at_l)
        (owes_kept (serving k) s w h stream.link p (inr (inl (ap is_some at_l)))))

    fails_asked_kept : (c l : ℕ) (cause : Cause) (o : Option Stream) → scope.fails c → IsClientIn s c (Opening l) → s.streams l ≡ o
        → After P w (stream_fails (Opening l) cause o (to_client c none_kept s))
    fails_asked_kept c l cause None may x at_l = drops_kept c x.client x.here (ap (λ p. stream_of p s.streams) x.in_phase ∙ at_l)
    fails_asked_kept c l cause (Some stream) may x at_l =
        k.fails_asked c l (record { cause = cause; client = x.client; stream = stream }) s w may (x.here, x.in_phase, at_l) h

    fails_in_kept : (phase : Phase) (c : ℕ) (cause : Cause) → scope.fails c → IsClientIn s c phase
        → After P w (stream_fails phase cause (stream_of phase s.streams) (to_client c none_kept s))
    fails_in_kept (Streaming l) c cause may x = fails_open_kept c l cause (s.streams l) x refl
    fails_in_kept (Opening l) c cause may x = fails_asked_kept c l cause (s.streams l) may x refl
    fails_in_kept _ c cause may x = drops_kept c x.client x.here (ap (λ p. stream_of p s.streams) x.in_phase)

    input_kept : (phase : Phase) (c : ℕ) → IsClientIn s c phase → P (input_ends phase c s) w
    input_kept (Opening l) c x = k.input_ended c s w h
    input_kept (Streaming l) c x = k.input_ended c s w h
    input_kept Closing c x = h
    input_kept Gone c x = h
    input_kept _ c x = k.closes c x.client s w x.here (subst IsFree (sym x.in_phase) tt) h

    pub client_ends_kept : (c : ℕ) (cause : Cause) (o : Option Client) → (is_orderly cause ≡ false → scope.fails c) → s.clients c ≡ o
        → After P w (client_ends c cause o s)
    client_ends_kept c cause None may is = after_quietly P w s h
    client_ends_kept c Eof (Some client) may is =
        after_quietly P w (input_ends client.about.phase c s)
        (input_kept client.about.phase c (record { client = client; here = is; in_phase = refl }))
    client_ends_kept c Fault (Some client) may is = fails_in_kept client.about.phase c Fault (may refl)
        (record { client = client; here = is; in_phase = refl })
    client_ends_kept c Starved (Some client) may is = fails_in_kept client.about.phase c Starved (may refl)
        (record { client = client; here = is; in_phase = refl })
    client_ends_kept c NoThread (Some client) may is = fails_in_kept client.about.phase c NoThread (may refl)
        (record { client = client; here = is; in_phase = refl })

-- what follows a request, whatever it touches
pub goes_on_kept : {P : State → List Event → Type 0} → Moves P → (s : State) (w : List Event) → P s w → (next : Option Next) (c : ℕ)
    → IsClientIn s c Asking → IsAskedReady s.devices next → After P w (goes_on next c s)
goes_on_kept k s w h next c x ready = goes_on_turns (all_moves k everywhere c) s w h next x (ready, tt)
