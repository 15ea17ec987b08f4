-- What was told of a stream and what its client holds stay together what the client wrote, through each move.
use Rattle.std.proofs.Common.{◌≡◌, ◌≢◌, ℕ, ◌+◌, ◌≤◌, Bool, false, cond, List, [], ◌++◌, drop, Some, None, refl, sym, ap, subst, ◌∙◌}
use Rattle.std.proofs.Common.{arith, ◌⊎◌, inl, inr, append_assoc}
use Rattle.std.proofs.lemmas.Bool.{eq-eqb, cases_eq}
use Rattle.std.proofs.lemmas.List.{append-nil}
use Rattle.adb_outside.specs.Bytes.{IsPrefixOf}
use Rattle.adb_stream.specs.declared.row.Part.{Part}
use Rattle.adb_stream.specs.declared.row.Stream.{Stream}
use Rattle.adb_client.specs.declared.phase.Phase.{Phase}
use Rattle.adb_client.specs.declared.phase.Phase.TheVariants.{Opening, Streaming}
use Rattle.adb_history.specs.Rows.{Client, State, to_stream, with_stream_part}
use Rattle.adb_history.specs.Events.{Made, Event, ending_in}
use Rattle.adb_history.specs.declared.ending.Ending.TheVariants.{ClientClosed}
use Rattle.adb_history.specs.Flow.{total, sends_up}
use Rattle.adb_history.specs.Losing.{stops}
use Rattle.adb_history.specs.Links.{maxdata_of}
use Rattle.adb_history.specs.Births.{joined}
use Rattle.adb_history.specs.Owned.{IsOwned}
use Rattle.adb_history.specs.Orderly.{phase_for}
use Rattle.adb_history.specs.Moves.{After, draws_now}
use Rattle.adb_history.proofs.OwnedMoves.{client_of}
use Rattle.adb_history.proofs.Sweep.{Sending, sent}
use Rattle.adb_laws_fifo_up.specs.Seen.{Seen, seen, seen_in, Sees, IsOf}
use Rattle.adb_laws_fifo_up.specs.Climbing.{carried, Silent, IsOther, Goes, Climbs}
use Rattle.adb_laws_fifo_up.specs.Rising.{Rises}
use Rattle.adb_laws_fifo_up.proofs.Seeing.{silent_aside, silent_end, silent_up, end_carries, end_such, ending_split, ending_none}
use Rattle.adb_laws_fifo_up.proofs.Seeing.{carried_append, carried_none}
use Rattle.adb_laws_fifo_up.proofs.Opened.{NowIn, phase_seen, draws_other, part_row, Opens, opens_made}
use Rattle.adb_laws_fifo_up.proofs.SendsUp.{streaming_is, payloads_join, IsLeft, Sends, sends_made}
use Rattle.adb_laws_fifo_up.proofs.Stops.{stops_carries, stops_other, stops_unseen}

-- a stream that its device has not opened has a client that waits for it
abbrev pub Waits : State → ℕ → Type 0
Waits s k = (stream : Stream) → s.streams k ≡ Some stream → (stream.part.remote ≡ 0) × (stream.part.orphan ≡ false)
    → (x : Client) → s.clients stream.client ≡ Some x → x.about.phase ≡ Opening k

pub owned_waits : (s : State) → IsOwned s → (k : ℕ) → Waits s k
owned_waits s owned k stream is new x here =
    let of = client_of s k stream is new.1 owned in
    let same : of.client ≡ x = (let both : Some of.client ≡ Some x = sym of.is ∙ here in cc) in
    sym (ap (λ (y : Client). y.about.phase) same) ∙ (of.phase ∙ ap (phase_for k) new.0)

module _ (l t c : ℕ) (rest : List ℕ) where
  -- nothing is told
  pub view : (s next : State) (w : List Event) → s.drawn ≤ next.drawn
      → ((y : Stream) → next.streams l ≡ Some y → (y.link ≡ t) × (y.client ≡ c))
      → ((n : ℕ) (v : Seen) → Sees (next.clients n) v → IsOf l v.phase → Sees (s.clients n) v) → Rises l t c rest s w
      → Rises l t c rest next w
  view s next w drawn mine seen_before h = record {
    born = omega (arith, h.born, drawn);
    mine = mine;
    only = λ n v see of. h.only n v (seen_before n v see of) of;
    held = λ v see of. h.held v (seen_before c v see of) of;
    front = h.front;
    whole = h.whole;
  }

  -- what is told is not of it
  told_aside : (s : State) (w u : List Event) → Silent l u → Rises l t c rest s w → Rises l t c rest s (w ++ u)
  told_aside s w u silent h =
      let same : carried t l (w ++ u) ≡ carried t l w = carried_none t l w u (silent.carries t) in
      record {
        born = h.born;
        mine = h.mine;
        only = h.only;
        held = λ v see of. (
          ending_none l w u (h.held v see of).0 silent.lives,
          ap (λ x. x ++ v.held) same ∙ (h.held v see of).1,
        );
        front = subst (λ x. IsPrefixOf x rest) (sym same) h.front;
        whole = λ e. same ∙ closed (ending_split l w u ClientClosed e);
      }
    where
      closed : (ending_in l w ≡ Some ClientClosed) ⊎ (ending_in l u ≡ Some ClientClosed) → carried t l w ≡ rest
      closed (inl e) = h.whole e
      closed (inr e) = absurd (let clash : None ≡ Some ClientClosed = sym silent.lives ∙ e in cc)

  same_rows : (s next : State) → ((m : ℕ) → next.streams m ≡ s.streams m)
      → ((y : Stream) → s.streams l ≡ Some y → (y.link ≡ t) × (y.client ≡ c))
      → (y : Stream) → next.streams l ≡ Some y → (y.link ≡ t) × (y.client ≡ c)
  same_rows s next same mine y e = mine y (sym (same l) ∙ e)

  part_mine : (k : ℕ) (stream : Stream) (part : Part) (s : State) → s.streams k ≡ Some stream
      → ((y : Stream) → s.streams l ≡ Some y → (y.link ≡ t) × (y.client ≡ c))
      → (y : Stream) → (to_stream k (with_stream_part part) s).streams l ≡ Some y → (y.link ≡ t) × (y.client ≡ c)
  part_mine k stream part s is mine y e =
      let before = part_row l k stream part s y is e in
      let was = mine before.0 before.1 in
      (before.2 ∙ was.0, before.3 ∙ was.1)

  part_rises : (k : ℕ) (stream : Stream) (part : Part) (s : State) (w : List Event) → s.streams k ≡ Some stream → Rises l t c rest s w
      → Rises l t c rest (to_stream k (with_stream_part part) s) w
  part_rises k stream part s w is h =
      view s (to_stream k (with_stream_part part) s) w (omega arith) (part_mine k stream part s is h.mine) (λ n v see of. see) h

  -- ---- draws
  draws_rises : (n t2 : ℕ) (s : State) (w : List Event) → Rises l t c rest s w → Rises l t c rest (draws_now n t2 s) w
  draws_rises n t2 s w h =
      view s (draws_now n t2 s) w (omega arith)
      (λ y e. h.mine y (sym (draws_other l n t2 s (λ f. omega (arith, f, h.born))) ∙ e))
      (λ m v see of. before m v of (phase_seen s.clients n (Opening (s.drawn + 1)) m v see)) h
    where
      before : (m : ℕ) (v : Seen) → IsOf l v.phase → Sees (s.clients m) v
          ⊎ ((m ≡ n) × NowIn s.clients n (Opening (s.drawn + 1)) v) → Sees (s.clients m) v
      before m v of (inl see) = see
      before m v of (inr now) =
          let same : s.drawn + 1 ≡ l = subst (IsOf l) now.1.phase_now of in
          absurd (omega (arith, same, h.born))

  -- ---- opens
  opens_rises : (k : ℕ) (stream : Stream) (s : State) (m : Made) (w : List Event) → s.streams k ≡ Some stream
      → ((x : Client) → s.clients stream.client ≡ Some x → x.about.phase ≡ Opening k) → Opens k stream s m → Rises l t c rest s w
      → Rises l t c rest m.state (w ++ m.told)
  opens_rises k stream s m w is waits o h =
      told_aside m.state w m.told (silent_aside l m.told o.told) (record {
        born = omega (arith, h.born, o.drawn);
        mine = λ y e. (let before = o.row l y e in let was = h.mine before.0 before.1 in (before.2 ∙ was.0, before.3 ∙ was.1));
        only = λ n v see of. only n v of (o.clients n v see);
        held = λ v see of. held v of (o.clients c v see);
        front = h.front;
        whole = h.whole;
      })
    where
      -- what its client held when it waited
      waited : (v : Seen) → IsOf l v.phase → NowIn s.clients stream.client (Streaming k) v
          → (k ≡ l) × (u : Seen) × Sees (s.clients stream.client) u × IsOf l u.phase × (u.held ≡ v.held)
      waited v of now =
          let same : k ≡ l = subst (IsOf l) now.phase_now of in
          let u : Seen = record { phase = Opening k; held = now.client.held } in
          (same, u, ap seen now.was ∙ ap (λ (p : Phase). seen_in p now.client.held) (waits now.client now.was), same, sym now.held)

      only : (n : ℕ) (v : Seen) → IsOf l v.phase → Sees (s.clients n) v
          ⊎ ((n ≡ stream.client) × NowIn s.clients stream.client (Streaming k) v) → n ≡ c
      only n v of (inl see) = h.only n v see of
      only n v of (inr now) = let u = waited v of now.1 in now.0 ∙ h.only stream.client u.1 u.2 u.3

      held : (v : Seen) → IsOf l v.phase → Sees (s.clients c) v ⊎ ((c ≡ stream.client) × NowIn s.clients stream.client (Streaming k) v)
          → (ending_in l w ≡ None) × (carried t l w ++ v.held ≡ rest)
      held v of (inl see) = h.held v see of
      held v of (inr now) =
          let u = waited v of now.1 in
          let was = h.held u.1 (subst (λ (n : ℕ). Sees (s.clients n) u.1) (sym now.0) u.2) u.3 in
          (was.0, ap (λ x. carried t l w ++ x) (sym u.4) ∙ was.1)

  -- ---- goes
  gone_rises : (s : State) (m : Made) (w : List Event) → Goes IsOther l s m → Rises l t c rest s w → Rises l t c rest m.state (w ++ m.told)
  gone_rises s m w g h = record {
    born = omega (arith, h.born, g.drawn);
    mine = λ y e. (let row = g.row y e in let was = h.mine g.stream g.is in (row.0 ∙ was.0, row.1 ∙ was.1));
    only = λ n v see of. h.only n v (g.clients n v see) of;
    held = λ v see of. held v see of g.left;
    front = subst (λ x. IsPrefixOf x rest) (sym same) h.front;
    whole = λ e. same ∙ closed (ending_split l w m.told ClientClosed e);
  }
    where
      same : carried t l (w ++ m.told) ≡ carried t l w
      same = carried_none t l w m.told (end_carries IsOther l t m.told g.told)

      closed : (ending_in l w ≡ Some ClientClosed) ⊎ (ending_in l m.told ≡ Some ClientClosed) → carried t l w ≡ rest
      closed (inl e) = h.whole e
      closed (inr e) = absurd (end_such IsOther l m.told ClientClosed g.told e refl)

      his : (g.client ≡ g.stream.client) ⊎ ((v : Seen) × Sees (s.clients g.client) v × IsOf l v.phase) → g.client ≡ c
      his (inl e) = e ∙ (h.mine g.stream g.is).1
      his (inr u) = h.only g.client u.0 u.1 u.2

      held : (v : Seen) → Sees (m.state.clients c) v → IsOf l v.phase
          → (ending_in l m.told ≡ None) ⊎ ((v : Seen) → Sees (m.state.clients g.client) v → IsOf l v.phase → ⊥)
          → (ending_in l (w ++ m.told) ≡ None) × (carried t l (w ++ m.told) ++ v.held ≡ rest)
      held v see of (inl none) =
          let was = h.held v (g.clients c v see) of in
          (ending_none l w m.told was.0 none, ap (λ x. x ++ v.held) same ∙ was.1)
      held v see of (inr left) = absurd (left v (subst (λ (n : ℕ). Sees (m.state.clients n) v) (sym (his g.his)) see) of)

  other_rises : (k : ℕ) (s : State) (m : Made) (w : List Event) → l ≢ k → Goes IsOther k s m → Rises l t c rest s w
      → Rises l t c rest m.state (w ++ m.told)
  other_rises k s m w apart g h =
      told_aside m.state w m.told (silent_end IsOther k l apart m.told g.told)
      (view s m.state w (omega (arith, g.drawn)) (λ y e. h.mine y (sym (g.others l apart) ∙ e)) (λ n v see of. g.clients n v see) h)

  -- ---- sends
  sent_rises : (s : State) (x : Sending l s) (m : Made) (w : List Event) → Sends l s x m → Rises l t c rest s w
      → Rises l t c rest m.state (w ++ m.told)
  sent_rises s x m w o h = record {
    born = omega (arith, h.born, o.drawn);
    mine = λ y e. (let row = o.row y e in (row.0 ∙ mine.0, row.1 ∙ mine.1));
    only = λ n v see of. only n v of (o.clients n v see);
    held = λ v see of. held v see of o.fate;
    front = (left, all);
    whole = λ e. whole e o.fate;
  }
    where
      left : List ℕ
      left = drop (total (sent l s x)) x.client.held

      mine : (x.stream.link ≡ t) × (x.stream.client ≡ c)
      mine = h.mine x.stream x.there

      before : (ending_in l w ≡ None) × (carried t l w ++ x.client.held ≡ rest)
      before = h.held (record { phase = Streaming l; held = x.client.held })
          (ap (λ (n : ℕ). seen (s.clients n)) (sym mine.1)
          ∙ (ap seen x.here ∙ ap (λ (p : Phase). seen_in p x.client.held) (streaming_is l x.client.about.phase x.streaming))) refl

      carries : carried t l (w ++ m.told) ≡ carried t l w ++ joined (sent l s x)
      carries = carried_append t l w m.told ∙ ap (λ y. carried t l w ++ y)
          (o.carries t ∙ ap (λ (b : Bool). cond b (joined (sent l s x)) []) (eq-eqb x.stream.link t mine.0))

      all : carried t l (w ++ m.told) ++ left ≡ rest
      all = ap (λ y. y ++ left) carries
          ∙ (append_assoc (carried t l w) (joined (sent l s x)) left
          ∙ (ap (λ y. carried t l w ++ y) (payloads_join x.stream.part.flow (maxdata_of x.stream.link s.devices) x.client.held) ∙ before.1))

      only : (n : ℕ) (v : Seen) → IsOf l v.phase → Sees (s.clients n) v ⊎ ((n ≡ x.stream.client) × (v.phase ≡ Streaming l)) → n ≡ c
      only n v of (inl see) = h.only n v see of
      only n v of (inr now) = now.0 ∙ mine.1

      at_client : (v : Seen) → Sees (m.state.clients c) v → Sees (m.state.clients x.stream.client) v
      at_client v see = subst (λ (n : ℕ). Sees (m.state.clients n) v) (sym mine.1) see

      held : (v : Seen) → Sees (m.state.clients c) v → IsOf l v.phase → IsLeft l s x m
          → (ending_in l (w ++ m.told) ≡ None) × (carried t l (w ++ m.told) ++ v.held ≡ rest)
      held v see of (inl goes_on) = (
        ending_none l w m.told before.0 goes_on.0,
        ap (λ y. carried t l (w ++ m.told) ++ y) (goes_on.1 v (at_client v see)) ∙ all,
      )
      held v see of (inr over) = absurd (over.1 v (at_client v see) of)

      whole : ending_in l (w ++ m.told) ≡ Some ClientClosed → IsLeft l s x m → carried t l (w ++ m.told) ≡ rest
      whole e (inl goes_on) = absurd (let clash : None ≡ Some ClientClosed = sym (ending_none l w m.told before.0 goes_on.0) ∙ e in cc)
      whole e (inr over) = sym (append-nil (carried t l (w ++ m.told))) ∙ (ap (λ y. carried t l (w ++ m.told) ++ y) (sym over.0) ∙ all)

  unsent_rises : (k : ℕ) (s : State) (x : Sending k s) (m : Made) (w : List Event) → l ≢ k → Sends k s x m → Rises l t c rest s w
      → Rises l t c rest m.state (w ++ m.told)
  unsent_rises k s x m w apart o h =
      told_aside m.state w m.told (silent_up k l apart m.told o.told)
      (view s m.state w (omega (arith, o.drawn)) (λ y e. h.mine y (sym (o.others l apart) ∙ e))
      (λ n v see of. before n v of (o.clients n v see)) h)
    where
      before : (n : ℕ) (v : Seen) → IsOf l v.phase → Sees (s.clients n) v
          ⊎ ((n ≡ x.stream.client) × (v.phase ≡ Streaming k)) → Sees (s.clients n) v
      before n v of (inl see) = see
      before n v of (inr now) = absurd (apart (sym (subst (IsOf l) now.1 of)))

  -- ---- all moves
  pub rises_climbs : Climbs Waits (Rises l t c rest)
  rises_climbs = record {
    aside = λ s m w off h. told_aside m.state w m.told (silent_aside l m.told off.told)
        (view s m.state w (omega (arith, off.drawn)) (same_rows s m.state off.streams h.mine) (λ n v see of. off.clients n v see) h);
    draws = λ n t2 x s w here asks h. draws_rises n t2 s w h;
    parts = λ k stream part s w is level h. part_rises k stream part s w is h;
    acks = λ k word stream s w is hears h. part_rises k stream _ s w is h;
    opens = λ k remote word stream s w is new hears h.
        opens_rises k stream s _ w is (λ x here. hears stream is (new.0, new.1) x here) (opens_made k remote word stream s is) h;
    goes = λ k s m w g h. goes k s m w g h (cases_eq k l);
    stops = λ n s w h. record {
      born = h.born;
      mine = λ y e. absurd (let clash : None ≡ Some y = e in cc);
      only = λ m v see of. absurd (stops_unseen n s m v see);
      held = λ v see of. absurd (stops_unseen n s c v see);
      front = subst (λ x. IsPrefixOf x rest) (sym (carried_none t l w _ (stops_carries n s t l))) h.front;
      whole = λ e. carried_none t l w _ (stops_carries n s t l) ∙ stopped n s w h (ending_split l w _ ClientClosed e);
    };
    sends = λ k s w x h. sends k s x w h (cases_eq k l);
  }
    where
      goes : (k : ℕ) (s : State) (m : Made) (w : List Event) → Goes IsOther k s m → Rises l t c rest s w → (k ≡ l) ⊎ (k ≡ l → ⊥)
          → Rises l t c rest m.state (w ++ m.told)
      goes k s m w g h (inl same) = gone_rises s m w (subst (λ (n : ℕ). Goes IsOther n s m) same g) h
      goes k s m w g h (inr apart) = other_rises k s m w (λ e. apart (sym e)) g h

      stopped : (n : ℕ) (s : State) (w : List Event) → Rises l t c rest s w
          → (ending_in l w ≡ Some ClientClosed) ⊎ (ending_in l (stops n s).told ≡ Some ClientClosed) → carried t l w ≡ rest
      stopped n s w h (inl e) = h.whole e
      stopped n s w h (inr e) = absurd (stops_other n s l e)

      sends : (k : ℕ) (s : State) (x : Sending k s) (w : List Event) → Rises l t c rest s w → (k ≡ l) ⊎ (k ≡ l → ⊥)
          → After (Rises l t c rest) w (sends_up k x.stream x.client (sent k s x) s)
      sends k s x w h (inr apart) = unsent_rises k s x _ w (λ e. apart (sym e)) (sends_made k s x) h
      sends k s x w h (inl same) =
          subst (λ (i : ℕ). (z : Sending i s) → After (Rises l t c rest) w
          (sends_up i z.stream z.client (sent i s z) s)) (sym same)
          (λ z. sent_rises s z _ w (sends_made l s z) h) x
