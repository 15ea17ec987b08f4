-- What each change of a row keeps, each move keeps.
use Rattle.std.proofs.Common.{◌≡◌, ℕ, zero, suc, Bool, true, false, cond, List, [], ◌∷◌, ◌++◌, Option, Some, None, sym, subst, append_assoc}
use Rattle.std.specs.Prelude.{codes}
use Rattle.std.proofs.lemmas.List.{append-nil}
use Rattle.adb_outside.specs.declared.identity.Identity.{Identity}
use Rattle.adb_registry.specs.Registry.{detached}
use Rattle.adb_registry.specs.declared.row.Row.{Row}
use Rattle.adb_forward.specs.declared.row.ForwardRow.{ForwardRow}
use Rattle.adb_wire.specs.declared.packets.Packet.{Packet}
use Rattle.adb_wire.specs.Packet.{spelling}
use Rattle.adb_stream.specs.declared.row.Stream.{Stream}
use Rattle.adb_client.specs.declared.phase.Phase.{Phase}
use Rattle.adb_client.specs.declared.phase.Phase.TheVariants.{Opening, Streaming}
use Rattle.adb_reply.specs.Strings.{failed}
use Rattle.adb_history.specs.Rows.{Client, Link, State, to_client, to_link, to_stream, none_kept, with_due, with_held, with_link_due}
use Rattle.adb_history.specs.Rows.{with_stream_part}
use Rattle.adb_history.specs.Events.{Made, Event, quietly, due_to_client, due_to_link, ended}
use Rattle.adb_history.specs.declared.ending.Ending.{Ending}
use Rattle.adb_history.specs.declared.ending.Ending.TheVariants.{Lost, Stopped, ClientFailed}
use Rattle.adb_history.specs.Links.{is_connected, is_credit}
use Rattle.adb_history.specs.Clients.{closes, closes_with, closing}
use Rattle.adb_history.specs.Streams.{draw, loses, client_loses, tells_end, ends_row, all_end}
use Rattle.adb_history.specs.Flow.{with_flow}
use Rattle.adb_history.specs.Tracking.{mark_all}
use Rattle.adb_history.specs.Forwarding.{forwards_without}
use Rattle.adb_history.specs.Losing.{forgets, link_ends, input_ended, tells_stop, all_stop, only_client}
use Rattle.adb_history.specs.Packets.{streams_end_first, goes_online}
use Rattle.adb_history.specs.Reading.{tracks, awaits}
use Rattle.adb_history.specs.Handing.{hands, unmarked}
use Rattle.adb_history.specs.Moves.{After, Moves, IsOfStream, connects_now}
use Rattle.adb_history.proofs.Following.{after_quietly, after_then}
use Rattle.adb_history.proofs.StreamMoves.{all_end_kept}

-- what a kill leaves but the client that asked for it
abbrev pub stopped_state : ℕ → State → State
stopped_state c s = record s {
  clients = only_client c s.clients;
  links = λ _. None;
  streams = λ _. None;
  devices = record s.devices { rows = [] };
  forwards = [];
  stopped = true;
}

-- What each change of a row keeps, of a state and what was told until then.
pub record Plain (P : State → List Event → Type 0) : Type 0 where
  pub tells_link : (t : ℕ) (p : Packet) (check : ℕ) (s : State) (w : List Event) → IsOfStream s.streams p → P s w
      → P s (w ++ due_to_link t p check ∷ [])
  pub tells_client : (c : ℕ) (bytes : List ℕ) (s : State) (w : List Event) → P s w → P s (w ++ due_to_client c bytes ∷ [])
  pub tells_end : (l : ℕ) (ending : Ending) (s : State) (w : List Event) → P s w → P s (w ++ ended l ending ∷ [])
  pub client : (c : ℕ) (f : Client → Option Client) (s : State) (w : List Event) → P s w → P (to_client c f s) w
  pub link : (t : ℕ) (f : Link → Option Link) (s : State) (w : List Event) → P s w → P (to_link t f s) w
  pub stream : (l : ℕ) (f : Stream → Option Stream) (s : State) (w : List Event) → P s w → P (to_stream l f s) w
  pub draws : (credit : Bool) (c t : ℕ) (s : State) (w : List Event) → P s w → P (draw credit c t s) w
  pub marks : (s : State) (w : List Event) → P s w → P (mark_all s) w
  pub devices : (rows : List (ℕ × Row)) (s : State) (w : List Event) → P s w → P (record s { devices = record s.devices { rows = rows } }) w
  pub forwards : (forwards : List (ℕ × ForwardRow)) (s : State) (w : List Event) → P s w → P (record s { forwards = forwards }) w
  pub kills : (c : ℕ) (s : State) (w : List Event) → P s w → P (stopped_state c s) w

module _ {P : State → List Event → Type 0} (k : Plain P) where
  owes_plain : (t : ℕ) (p : Packet) (check : ℕ) (s : State) (w : List Event) → IsOfStream s.streams p → P s w
      → P (to_link t (with_link_due (spelling p check)) s) (w ++ due_to_link t p check ∷ [])
  owes_plain t p check s w of h = k.link t (with_link_due (spelling p check)) s (w ++ due_to_link t p check ∷ [])
      (k.tells_link t p check s w of h)

  due_plain : (c : ℕ) (bytes : List ℕ) (s : State) (w : List Event) → P s w
      → P (to_client c (with_due bytes) s) (w ++ due_to_client c bytes ∷ [])
  due_plain c bytes s w h = k.client c (with_due bytes) s (w ++ due_to_client c bytes ∷ []) (k.tells_client c bytes s w h)

  closes_with_plain : (c : ℕ) (bytes : List ℕ) (s : State) (w : List Event) → P s w → After P w (closes_with c bytes s)
  closes_with_plain c bytes s w h = k.client c closing (to_client c (with_due bytes) s)
      (w ++ due_to_client c bytes ∷ []) (due_plain c bytes s w h)

  loses_plain : (forwarded : Bool) (phase : Phase) (c : ℕ) (s : State) (w : List Event) → P s w → After P w (loses forwarded phase c s)
  loses_plain forwarded (Streaming l) c s w h = after_quietly P w (closes c s) (k.client c closing s w h)
  loses_plain true (Opening l) c s w h = after_quietly P w (closes c s) (k.client c closing s w h)
  loses_plain false (Opening l) c s w h = closes_with_plain c (failed (codes "closed")).bytes s w h
  loses_plain true _ c s w h = after_quietly P w s h
  loses_plain false _ c s w h = after_quietly P w s h

  client_loses_plain : (o : Option Client) (c : ℕ) (s : State) (w : List Event) → P s w → After P w (client_loses o c s)
  client_loses_plain None c s w h = after_quietly P w s h
  client_loses_plain (Some client) c s w h = loses_plain client.about.forwarded client.about.phase c s w h

  tells_end_plain : (orphan : Bool) (l : ℕ) (ending : Ending) (s : State) (w : List Event) → P s w → After P w (tells_end orphan l ending s)
  tells_end_plain true l ending s w h = after_quietly P w s h
  tells_end_plain false l ending s w h = k.tells_end l ending s w h

  ends_plain : (l : ℕ) (ending : Ending) (stream : Stream) (s : State) (w : List Event) → s.streams l ≡ Some stream → P s w
      → After P w (ends_row l ending stream s)
  ends_plain l ending stream s w is h =
      let gone : State = to_stream l none_kept s in
      let told : Made = tells_end stream.part.orphan l ending gone in
      after_then P w told (λ s. client_loses (s.clients stream.client) stream.client s)
      (tells_end_plain stream.part.orphan l ending gone w (k.stream l none_kept s w h))
      (λ v now. client_loses_plain (told.state.clients stream.client) stream.client told.state v now)

  link_ends_plain : (t : ℕ) (ending : Ending) (s : State) (w : List Event) → P s w → After P w (link_ends t ending s)
  link_ends_plain t ending s w h =
      let forgot : State = forgets t s in
      let kept : P forgot w = k.link t none_kept (record s { devices = detached t s.devices; forwards = forwards_without t s.forwards }) w
      (k.forwards (forwards_without t s.forwards) (record s { devices = detached t s.devices }) w
      (k.devices (detached t s.devices).rows s w h)) in
      after_then P w (all_end t ending forgot) (λ s. quietly (mark_all s)) (all_end_kept ends_plain t ending forgot w kept)
      (λ v now. after_quietly P v (mark_all (all_end t ending forgot).state) (k.marks (all_end t ending forgot).state v now))

  ends_first_plain : (b : Bool) (t : ℕ) (s : State) (w : List Event) → P s w → After P w (streams_end_first b t s)
  ends_first_plain true t s w h = all_end_kept ends_plain t Lost s w h
  ends_first_plain false t s w h = after_quietly P w s h

  online_plain : (t version maxdata : ℕ) (identity : Identity) (s : State) (w : List Event) → P s w
      → After P w (connects_now t version maxdata identity s)
  online_plain t version maxdata identity s w h =
      let first : Made = streams_end_first (is_connected t s.devices) t s in
      after_then P w first (λ s. quietly (goes_online t version maxdata identity s)) (ends_first_plain (is_connected t s.devices) t s w h)
      (λ v now. after_quietly P v (goes_online t version maxdata identity first.state)
      (k.marks _ v (k.link t _ _ v (k.devices _ first.state v now))))

  all_stop_plain : (n : ℕ) (streams : ℕ → Option Stream) (s : State) (w : List Event) → P s w → P s (w ++ all_stop n streams)
  all_stop_plain zero streams s w h = subst (λ (v : List Event). P s v) (sym (append-nil w)) h
  all_stop_plain (suc n) streams s w h =
      subst (λ (v : List Event). P s v) (append_assoc w (all_stop n streams) (tells_stop (suc n) (streams (suc n))))
      (one (streams (suc n)) (w ++ all_stop n streams) (all_stop_plain n streams s w h))
    where
      told : (b : Bool) (v : List Event) → P s v → P s (v ++ cond b [] (ended (suc n) Stopped ∷ []))
      told true v now = subst (λ (u : List Event). P s u) (sym (append-nil v)) now
      told false v now = k.tells_end (suc n) Stopped s v now

      one : (o : Option Stream) (v : List Event) → P s v → P s (v ++ tells_stop (suc n) o)
      one None v now = subst (λ (u : List Event). P s u) (sym (append-nil v)) now
      one (Some stream) v now = told stream.part.orphan v now

  -- What each change of a row keeps, each move keeps.
  pub plain_moves : Moves P
  plain_moves = record {
    owes = owes_plain;
    due = due_plain;
    closes = λ c client s w is free h. k.client c closing s w h;
    tracks = λ c client long s w is asking h. k.client c (tracks long) s w h;
    awaits = λ c client want s w is asking h. k.client c (awaits want) s w h;
    drops = λ c client s w is none h. k.client c none_kept s w h;
    holds = λ c client bytes s w is has h. k.client c (with_held bytes) s w h;
    unmarks = λ c s w h. k.client c unmarked s w h;
    input_ended = λ c s w h. k.client c input_ended s w h;
    hands = λ c n client s w is fits h. k.client c (hands n) s w h;
    draws = λ c t client s w is asking ready h. k.client c _ _ w (k.draws (is_credit t s.devices) c t s w h);
    flows = λ l stream flow s w is like h. k.stream l (with_stream_part (with_flow flow stream.part)) s w h;
    accepts = λ l payload stream s w is known turn h. due_plain stream.client payload _ w (k.stream l _ s w h);
    opens = λ l remote word stream s w is new h. k.client stream.client _ _ w (k.stream l _ s w h);
    orphan_goes = λ l stream s w is orphan h. k.stream l none_kept s w h;
    ends = ends_plain;
    fails_open = λ c l failing s w at h. k.stream l none_kept _ _
        (k.client c none_kept s _ (k.tells_end l (ClientFailed failing.cause) s w h));
    fails_asked = λ c l failing s w at h. k.stream l _ _ _ (k.client c none_kept s _ (k.tells_end l (ClientFailed failing.cause) s w h));
    links = λ t f s w h. k.link t (λ link. Some (f link)) s w h;
    link_ends = link_ends_plain;
    online = online_plain;
    unauthorized = λ t row s w is offline h. k.marks _ w (k.devices _ s w h);
    forwards = λ forwards s w led h. k.forwards forwards s w h;
    stops = λ c client s w is asking h.
        k.client c closing (stopped_state c s) (w ++ all_stop s.drawn s.streams) (k.kills c s _ (all_stop_plain s.drawn s.streams s w h));
  }
