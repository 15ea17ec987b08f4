-- Rules by which a stream goes, or is an orphan from now on.
use Rattle.std.proofs.Common.{◌≡◌, ◌≢◌, ℕ, Bool, true, false, List, [], ◌∷◌, ◌++◌, Option, Some, None, refl, sym, ap, subst, ◌∙◌, ◌⊎◌, inl}
use Rattle.std.proofs.Common.{inr}
use Rattle.std.specs.Prelude.{codes}
use Rattle.adb_outside.specs.declared.kinds.Cause.{Cause}
use Rattle.adb_wire.specs.declared.packets.Packet.{Packet}
use Rattle.adb_stream.specs.declared.row.Stream.{Stream}
use Rattle.adb_client.specs.declared.phase.Phase.{Phase}
use Rattle.adb_client.specs.declared.phase.Phase.TheVariants.{Asking, Opening, Streaming, Binding, Tracking, Closing, Gone}
use Rattle.adb_reply.specs.Strings.{failed}
use Rattle.adb_history.specs.Rows.{Client, State, to_client, to_stream, none_kept, with_stream_part}
use Rattle.adb_history.specs.Events.{Made, Event, due_to_client, due_to_link, ended, quietly, then_also}
use Rattle.adb_history.specs.declared.ending.Ending.{Ending}
use Rattle.adb_history.specs.declared.ending.Ending.TheVariants.{ClientFailed, ClientClosed}
use Rattle.adb_history.specs.Links.{close_packet, owe_link}
use Rattle.adb_history.specs.Births.{is_wrte}
use Rattle.adb_history.specs.Clients.{owe_client, closing, closes}
use Rattle.adb_history.specs.Streams.{loses, client_loses, tells_end, ends_row, ends_telling}
use Rattle.adb_history.specs.Losing.{orphaned, stream_fails}
use Rattle.adb_history.specs.Packets.{orphan_opened}
use Rattle.adb_history.proofs.Following.{changed_here, changed_none, changed_other}
use Rattle.adb_laws_fifo_up.specs.Seen.{Seen, seen, seen_in, Sees, IsOf}
use Rattle.adb_laws_fifo_up.specs.Climbing.{IsAside, IsEndOf, Are, Aside, Goes, IsOther}
use Rattle.adb_laws_fifo_up.proofs.Seeing.{dims, closing_unseen, none_unseen, seen_phase, are_append, are_weaker}
use Rattle.adb_laws_fifo_up.proofs.Asides.{aside_same, aside_closes, aside_closes_with}

-- ---- a client loses its stream
-- what a client that closes sees of itself: nothing
closed_unseen : (c : ℕ) (s : State) (v : Seen) → Sees ((closes c s).clients c) v → ⊥
closed_unseen c s v h = go (s.clients c) refl
  where
    go : (o : Option Client) → s.clients c ≡ o → ⊥
    go None is =
        none_unseen v (subst (λ (o : Option Client). Sees o v) (changed_none c closing s.clients is) h)
    go (Some x) is = closing_unseen x.due x v (subst (λ (o : Option Client). Sees o v) (changed_here c closing s.clients x is) h)

-- it has no stream then
abbrev HasLeft : ℕ → Made → Type 0
HasLeft c m = (k : ℕ) (v : Seen) → Sees (m.state.clients c) v → IsOf k v.phase → ⊥

module _ (s : State) (c : ℕ) (x : Client) (is : s.clients c ≡ Some x) where
  stays_left : (x.about.phase ≡ Asking) ⊎ (seen (Some x) ≡ None) → HasLeft c (quietly s)
  stays_left (inl asks) k v h of =
      let phase = (seen_phase x.about.phase x.held v (subst (λ (o : Option Client). Sees o v) is h)).0 in
      subst (IsOf k) (phase ∙ asks) of
  stays_left (inr none) k v h of =
      let clash : None ≡ Some v = sym none ∙ subst (λ (o : Option Client). Sees o v) is h in cc

  unseen : (phase : Phase) → x.about.phase ≡ phase → seen_in phase x.held ≡ None → seen (Some x) ≡ None
  unseen phase e none = ap (λ (p : Phase). seen_in p x.held) e ∙ none

  loses_left : (forwarded : Bool) (phase : Phase) → x.about.phase ≡ phase → HasLeft c (loses forwarded phase c s)
  loses_left forwarded (Streaming l) e k v h of = closed_unseen c s v h
  loses_left true (Opening l) e k v h of = closed_unseen c s v h
  loses_left false (Opening l) e k v h of = closed_unseen c (owe_client c (failed (codes "closed")).bytes s).state v h
  loses_left true Asking e k v h of = stays_left (inl e) k v h of
  loses_left false Asking e k v h of = stays_left (inl e) k v h of
  loses_left true Binding e k v h of = stays_left (inr (unseen Binding e refl)) k v h of
  loses_left false Binding e k v h of = stays_left (inr (unseen Binding e refl)) k v h of
  loses_left true Tracking e k v h of = stays_left (inr (unseen Tracking e refl)) k v h of
  loses_left false Tracking e k v h of = stays_left (inr (unseen Tracking e refl)) k v h of
  loses_left true Closing e k v h of = stays_left (inr (unseen Closing e refl)) k v h of
  loses_left false Closing e k v h of = stays_left (inr (unseen Closing e refl)) k v h of
  loses_left true Gone e k v h of = stays_left (inr (unseen Gone e refl)) k v h of
  loses_left false Gone e k v h of = stays_left (inr (unseen Gone e refl)) k v h of

client_left : (o : Option Client) (c : ℕ) (s : State) → s.clients c ≡ o → HasLeft c (client_loses o c s)
client_left None c s is k v h of = none_unseen v (subst (λ (o : Option Client). Sees o v) is h)
client_left (Some x) c s is k v h of = loses_left s c x is x.about.forwarded x.about.phase refl k v h of

aside_loses : (forwarded : Bool) (phase : Phase) (c : ℕ) (s : State) → Aside s (loses forwarded phase c s)
aside_loses true (Streaming l) c s = aside_closes c s
aside_loses false (Streaming l) c s = aside_closes c s
aside_loses true (Opening l) c s = aside_closes c s
aside_loses false (Opening l) c s = aside_closes_with c (failed (codes "closed")).bytes s
aside_loses _ _ c s = aside_same s

aside_client_loses : (o : Option Client) (c : ℕ) (s : State) → Aside s (client_loses o c s)
aside_client_loses None c s = aside_same s
aside_client_loses (Some x) c s = aside_loses x.about.forwarded x.about.phase c s

-- ---- stream end
aside_end : (Such : Ending → Type 0) (k : ℕ) (e : Event) → IsAside e → IsEndOf Such k e
aside_end Such k (due_to_client client bytes) h = tt
aside_end Such k (due_to_link link packet check) h = (h.0, λ e. inl (h.1 e))
aside_end Such k (ended stream ending) h = absurd h

module _ (Such : Ending → Type 0) (k : ℕ) (stream : Stream) (s : State) (is : s.streams k ≡ Some stream) where
  abbrev lost : Made
  lost = client_loses (s.clients stream.client) stream.client (to_stream k none_kept s)

  no_row : lost.state.streams k ≡ None
  no_row = (aside_client_loses (s.clients stream.client) stream.client (to_stream k none_kept s)).streams k
      ∙ changed_here k none_kept s.streams stream is

  -- what becomes of the client when its stream is gone, behind what is told of the end
  lost_goes : (u : List Event) → Are (IsEndOf Such k) u → Goes Such k s (record { state = lost.state; told = u ++ lost.told })
  lost_goes u told = record {
    stream = stream;
    is = is;
    drawn = off.drawn;
    others = λ l apart. off.streams l ∙ changed_other k l none_kept s.streams (λ e. apart (sym e));
    row = λ y e. absurd (let clash : None ≡ Some y = sym no_row ∙ e in cc);
    client = stream.client;
    his = inl refl;
    clients = off.clients;
    left = inr (λ v see of. client_left (s.clients stream.client) stream.client (to_stream k none_kept s) refl k v see of);
    told = are_append (IsEndOf Such k) u _ told (are_weaker IsAside (IsEndOf Such k) (aside_end Such k) _ off.told);
    shut = λ e. no_row;
  }
    where
      off : Aside (to_stream k none_kept s) (client_loses (s.clients stream.client) stream.client (to_stream k none_kept s))
      off = aside_client_loses (s.clients stream.client) stream.client (to_stream k none_kept s)

  pub ends_goes : (ending : Ending) → Such ending → Goes Such k s (ends_row k ending stream s)
  ends_goes ending other = go stream.part.orphan
    where
      go : (b : Bool)
          → Goes Such k s
          (then_also (tells_end b k ending (to_stream k none_kept s))
          (λ s. client_loses (s.clients stream.client) stream.client s))
      go true = lost_goes [] tt
      go false = lost_goes (ended k ending ∷ []) ((refl, other), tt)

-- the device is told first
module _ (Such : Ending → Type 0) where
  owed_goes : (k t : ℕ) (p : Packet) (s : State) (m : Made) → (is_wrte p.command ≡ false) × (p.arg0 ≡ k)
      → Goes Such k (owe_link t p s).state m
      → m.state.streams k ≡ None → Goes Such k s (record { state = m.state; told = (owe_link t p s).told ++ m.told })
  owed_goes k t p s m none h row = record {
    stream = h.stream;
    is = h.is;
    drawn = h.drawn;
    others = h.others;
    row = h.row;
    client = h.client;
    his = h.his;
    clients = h.clients;
    left = h.left;
    told = ((none.0, λ e. inr none.1), h.told);
    shut = λ e. row;
  }

  pub no_row_of : (k : ℕ) (ending : Ending) (stream : Stream) (s : State) → s.streams k ≡ Some stream
      → (ends_row k ending stream s).state.streams k ≡ None
  no_row_of k ending stream s is = go stream.part.orphan
    where
      go : (b : Bool)
          → (then_also (tells_end b k ending (to_stream k none_kept s))
          (λ s. client_loses (s.clients stream.client) stream.client s)).state.streams k ≡ None
      go true = no_row Such k stream s is
      go false = no_row Such k stream s is

  pub telling_goes : (k : ℕ) (ending : Ending) (stream : Stream) (s : State) → s.streams k ≡ Some stream → Such ending
      → Goes Such k s (ends_telling k ending stream s)
  telling_goes k ending stream s is such =
      let p : Packet = close_packet k stream.part.remote in
      let owed : State = (owe_link stream.link p s).state in
      owed_goes k stream.link p s (ends_row k ending stream owed) (refl, refl) (ends_goes Such k stream owed is ending such)
      (no_row_of k ending stream owed is)

-- its client has no stream then
pub telling_left : (k n : ℕ) (ending : Ending) (stream : Stream) (s : State) (v : Seen)
    → Sees ((ends_telling k ending stream s).state.clients stream.client) v → IsOf n v.phase → ⊥
telling_left k n ending stream s v h of = go stream.part.orphan h
  where
    gone : State
    gone = to_stream k none_kept (owe_link stream.link (close_packet k stream.part.remote) s).state

    go : (b : Bool)
        → Sees ((then_also (tells_end b k ending gone)
        (λ s. client_loses (s.clients stream.client) stream.client s)).state.clients stream.client) v → ⊥
    go true see = client_left (s.clients stream.client) stream.client gone refl n v see of
    go false see = client_left (s.clients stream.client) stream.client gone refl n v see of

-- ---- client end
not_closed : (cause : Cause) → ClientFailed cause ≢ ClientClosed
not_closed cause e = cc

module _ (k c : ℕ) (cause : Cause) (x : Client) (stream : Stream) (s : State) (here : s.clients c ≡ Some x)
    (there : s.streams k ≡ Some stream) where
  gone_client : (v : Seen) → Sees ((to_client c none_kept s).clients c) v → IsOf k v.phase → ⊥
  gone_client v see of = none_unseen v (subst (λ (o : Option Client). Sees o v) (changed_here c none_kept s.clients x here) see)

  seen_before : (n : ℕ) (v : Seen) → Sees ((to_client c none_kept s).clients n) v → Sees (s.clients n) v
  seen_before n v see = dims s.clients c none_kept (λ y u is h. absurd (none_unseen u h)) n v see

  pub open_fails_goes : x.about.phase ≡ Streaming k → Goes IsOther k s
      (stream_fails (Streaming k) cause (Some stream) (to_client c none_kept s))
  open_fails_goes open_ = record {
    stream = stream;
    is = there;
    drawn = refl;
    others = λ l apart. changed_other k l none_kept s.streams (λ e. apart (sym e));
    row = λ y e. absurd (let clash : None ≡ Some y = sym (changed_here k none_kept s.streams stream there) ∙ e in cc);
    client = c;
    his = inr (record { phase = Streaming k; held = x.held }, ap seen here ∙ ap (λ (p : Phase). seen_in p x.held) open_, refl);
    clients = seen_before;
    left = inr gone_client;
    told = ((refl, λ e. inr refl), ((refl, not_closed cause), tt));
    shut = λ e. changed_here k none_kept s.streams stream there;
  }

  pub asked_fails_goes : x.about.phase ≡ Opening k → Goes IsOther k s
      (stream_fails (Opening k) cause (Some stream) (to_client c none_kept s))
  asked_fails_goes asked = record {
    stream = stream;
    is = there;
    drawn = refl;
    others = λ l apart. changed_other k l (with_stream_part (orphaned stream.part)) s.streams (λ e. apart (sym e));
    row = λ y e.
        let same : record stream { part = orphaned stream.part } ≡ y =
        (let both : Some (record stream { part = orphaned stream.part }) ≡ Some y =
        sym (changed_here k (with_stream_part (orphaned stream.part)) s.streams stream there) ∙ e in cc) in (
          ap (λ (z : Stream). z.link) (sym same),
          ap (λ (z : Stream). z.client) (sym same),
          ap (λ (z : Stream). z.part.flow) (sym same),
          ap (λ (z : Stream). z.part.remote) (sym same),
        );
    client = c;
    his = inr (record { phase = Opening k; held = x.held }, ap seen here ∙ ap (λ (p : Phase). seen_in p x.held) asked, refl);
    clients = seen_before;
    left = inr gone_client;
    told = ((refl, not_closed cause), tt);
    shut = λ e. absurd (let clash : false ≡ true = e in cc);
  }

pub orphan_goes : (k remote : ℕ) (stream : Stream) (s : State) → s.streams k ≡ Some stream
    → Goes IsOther k s (orphan_opened k remote stream s)
orphan_goes k remote stream s is = record {
  stream = stream;
  is = is;
  drawn = refl;
  others = λ l apart. changed_other k l none_kept s.streams (λ e. apart (sym e));
  row = λ y e. absurd (let clash : None ≡ Some y = sym (changed_here k none_kept s.streams stream is) ∙ e in cc);
  client = stream.client;
  his = inl refl;
  clients = λ c v see. see;
  left = inl refl;
  told = ((refl, λ e. inr refl), tt);
  shut = λ e. changed_here k none_kept s.streams stream is;
}
