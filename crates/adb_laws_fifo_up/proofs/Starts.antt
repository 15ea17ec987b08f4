-- While no OKAY is heard, nothing goes up a stream that is born, and its client holds what is its own.
use Rattle.std.proofs.Common.{◌≡◌, ◌≢◌, ℕ, ◌+◌, ◌<◌, List, [], ◌++◌, Option, Some, None, refl, sym, ap, subst, ◌∙◌}
use Rattle.std.proofs.Common.{arith, ◌⊎◌, inl, inr}
use Rattle.std.proofs.lemmas.Bool.{eq-eqb, cases_eq}
use Rattle.adb_stream.specs.Flow.{new_flow}
use Rattle.adb_stream.specs.Stream.{new_stream}
use Rattle.adb_stream.specs.declared.row.Part.{Part}
use Rattle.adb_stream.specs.declared.row.Stream.{Stream}
use Rattle.adb_client.specs.declared.phase.Phase.{Phase}
use Rattle.adb_client.specs.declared.phase.Phase.TheVariants.{Asking, Opening, Streaming}
use Rattle.adb_history.specs.Rows.{Client, State, to_stream, with_stream_part}
use Rattle.adb_history.specs.Events.{Made, Event, ending_in}
use Rattle.adb_history.specs.declared.ending.Ending.TheVariants.{ClientClosed}
use Rattle.adb_history.specs.Links.{is_credit}
use Rattle.adb_history.specs.Flow.{sends_up}
use Rattle.adb_history.specs.Losing.{stops}
use Rattle.adb_history.specs.Moves.{After, draws_now}
use Rattle.adb_history.proofs.Sweep.{Sending, sent}
use Rattle.adb_laws_fifo_up.specs.Seen.{Seen, seen, seen_in, Sees, IsOf}
use Rattle.adb_laws_fifo_up.specs.Climbing.{carried, Are, Silent, IsOther, Goes, Climbs}
use Rattle.adb_laws_fifo_up.proofs.Seeing.{are_append, silent_aside, silent_end, silent_up, end_carries, end_such, ending_split}
use Rattle.adb_laws_fifo_up.proofs.Seeing.{ending_none, carried_none}
use Rattle.adb_laws_fifo_up.proofs.Shutting.{IsDry, aside_are_dry, end_are_dry, up_are_dry}
use Rattle.adb_laws_fifo_up.proofs.Opened.{NowIn, phase_seen, draws_other, part_row}
use Rattle.adb_laws_fifo_up.proofs.SendsUp.{streaming_is, Sends, sends_made}
use Rattle.adb_laws_fifo_up.proofs.Stops.{stops_dry, stops_carries, stops_other, stops_above, stops_unseen}

pub record Starts (l c : ℕ) (rest : List ℕ) (s : State) (w : List Event) : Type 0 where
  pub quiet : (t : ℕ) → carried t l w ≡ []
  pub dry : Are (IsDry l) w
  pub not_closed : ending_in l w ≡ Some ClientClosed → ⊥
  pub none : s.drawn < l → s.streams l ≡ None
  pub lives : s.drawn < l → ending_in l w ≡ None
  pub unseen : s.drawn < l → (n : ℕ) (v : Seen) → Sees (s.clients n) v → IsOf l v.phase → ⊥
  pub own : (y : Stream) → s.streams l ≡ Some y → (n : ℕ) (v : Seen) → Sees (s.clients n) v → IsOf l v.phase → n ≡ y.client
  pub waits : (n : ℕ) (v : Seen) → Sees (s.clients n) v → IsOf l v.phase → (v.phase ≡ Opening l) × (ending_in l w ≡ None)
  pub held : (v : Seen) → Sees (s.clients c) v → (v.phase ≡ Asking) ⊎ (v.phase ≡ Opening l) → v.held ≡ rest

-- no OKAY is heard
abbrev pub Deaf : State → ℕ → Type 0
Deaf s k = ⊥

-- a client that asks, or waits for this stream
abbrev Awaits : ℕ → Phase → Type 0
Awaits l phase = IsOf l phase ⊎ (phase ≡ Asking)

module _ (l c : ℕ) (rest : List ℕ) where
  -- nothing is told, and no client comes to ask or to wait
  view : (s next : State) (w : List Event) → next.drawn ≡ s.drawn
      → ((y : Stream) → next.streams l ≡ Some y → (x : Stream) × (s.streams l ≡ Some x) × (y.client ≡ x.client))
      → ((n : ℕ) (v : Seen) → Sees (next.clients n) v → Awaits l v.phase → Sees (s.clients n) v) → Starts l c rest s w
      → Starts l c rest next w
  view s next w drawn row before h = record {
    quiet = h.quiet;
    dry = h.dry;
    not_closed = h.not_closed;
    none = λ above. none (h.none (omega (arith, above, drawn))) (next.streams l) refl;
    lives = λ above. h.lives (omega (arith, above, drawn));
    unseen = λ above n v see of. h.unseen (omega (arith, above, drawn)) n v (before n v see (inl of)) of;
    own = λ y e n v see of. (let x = row y e in h.own x.0 x.1 n v (before n v see (inl of)) of ∙ sym x.2);
    waits = λ n v see of. h.waits n v (before n v see (inl of)) of;
    held = λ v see phase. h.held v (before c v see (awaits v phase)) phase;
  }
    where
      none : s.streams l ≡ None → (o : Option Stream) → next.streams l ≡ o → next.streams l ≡ None
      none is None e = e
      none is (Some y) e = (let x = row y e in let clash : None ≡ Some x.0 = sym is ∙ x.1 in cc)

      awaits : (v : Seen) → (v.phase ≡ Asking) ⊎ (v.phase ≡ Opening l) → Awaits l v.phase
      awaits v (inl asks) = inr asks
      awaits v (inr opening) = inl (subst (IsOf l) (sym opening) refl)

  told_aside : (s : State) (w u : List Event) → Silent l u → Are (IsDry l) u → Starts l c rest s w → Starts l c rest s (w ++ u)
  told_aside s w u silent dry h = record {
    quiet = λ t. carried_none t l w u (silent.carries t) ∙ h.quiet t;
    dry = are_append (IsDry l) w u h.dry dry;
    not_closed = λ e. closed (ending_split l w u ClientClosed e);
    none = h.none;
    lives = λ above. ending_none l w u (h.lives above) silent.lives;
    unseen = h.unseen;
    own = h.own;
    waits = λ n v see of. ((h.waits n v see of).0, ending_none l w u (h.waits n v see of).1 silent.lives);
    held = h.held;
  }
    where
      closed : (ending_in l w ≡ Some ClientClosed) ⊎ (ending_in l u ≡ Some ClientClosed) → ⊥
      closed (inl e) = h.not_closed e
      closed (inr e) = let clash : None ≡ Some ClientClosed = sym silent.lives ∙ e in cc

  part_starts : (k : ℕ) (stream : Stream) (part : Part) (s : State) (w : List Event) → s.streams k ≡ Some stream → Starts l c rest s w
      → Starts l c rest (to_stream k (with_stream_part part) s) w
  part_starts k stream part s w is h = view s (to_stream k (with_stream_part part) s) w refl
      (λ y e. (let x = part_row l k stream part s y is e in (x.0, x.1, x.3))) (λ n v see of. see) h

  -- ---- draws
  draws_starts : (n t : ℕ) (x : Client) (s : State) (w : List Event) → s.clients n ≡ Some x → x.about.phase ≡ Asking → Starts l c rest s w
      → Starts l c rest (draws_now n t s) w
  draws_starts n t x s w here asks h = record {
    quiet = h.quiet;
    dry = h.dry;
    not_closed = h.not_closed;
    none = λ above. draws_other l n t s (λ e. omega (arith, above, e)) ∙ h.none (omega (arith, above));
    lives = λ above. h.lives (omega (arith, above));
    unseen = λ above m v see of. unseen above m v of (before m v see);
    own = λ y e m v see of. own y m v of (before m v see) (cases_eq (s.drawn + 1) l) e;
    waits = λ m v see of. waits m v of (before m v see);
    held = λ v see phase. held v phase (before c v see);
  }
    where
      before : (m : ℕ) (v : Seen) → Sees ((draws_now n t s).clients m) v
          → Sees (s.clients m) v ⊎ ((m ≡ n) × NowIn s.clients n (Opening (s.drawn + 1)) v)
      before m v see = phase_seen s.clients n (Opening (s.drawn + 1)) m v see

      unseen : (s.drawn + 1 < l) → (m : ℕ) (v : Seen) → IsOf l v.phase
          → Sees (s.clients m) v ⊎ ((m ≡ n) × NowIn s.clients n (Opening (s.drawn + 1)) v) → ⊥
      unseen above m v of (inl see) = h.unseen (omega (arith, above)) m v see of
      unseen above m v of (inr now) = (let same : s.drawn + 1 ≡ l = subst (IsOf l) now.1.phase_now of in omega (arith, same, above))

      new_row : (y : Stream) → s.drawn + 1 ≡ l → (draws_now n t s).streams l ≡ Some y → n ≡ y.client
      new_row y same e =
          let made : Stream = new_stream (s.drawn + 1) n t (new_flow (is_credit t s.devices)) in
          let row : (draws_now n t s).streams l ≡ Some made = rw (eq-eqb (s.drawn + 1) l same) refl in
          let both : Some made ≡ Some y = sym row ∙ e in
          let is : made ≡ y = cc in
          ap (λ (z : Stream). z.client) is

      own : (y : Stream) (m : ℕ) (v : Seen) → IsOf l v.phase
          → Sees (s.clients m) v ⊎ ((m ≡ n) × NowIn s.clients n (Opening (s.drawn + 1)) v)
          → (s.drawn + 1 ≡ l) ⊎ (s.drawn + 1 ≡ l → ⊥) → (draws_now n t s).streams l ≡ Some y → m ≡ y.client
      own y m v of (inl see) (inl same) e = absurd (h.unseen (omega (arith, same)) m v see of)
      own y m v of (inl see) (inr apart) e = h.own y (sym (draws_other l n t s apart) ∙ e) m v see of
      own y m v of (inr now) (inl same) e = now.0 ∙ new_row y same e
      own y m v of (inr now) (inr apart) e = absurd (apart (subst (IsOf l) now.1.phase_now of))

      waits : (m : ℕ) (v : Seen) → IsOf l v.phase → Sees (s.clients m) v ⊎ ((m ≡ n) × NowIn s.clients n (Opening (s.drawn + 1)) v)
          → (v.phase ≡ Opening l) × (ending_in l w ≡ None)
      waits m v of (inl see) = h.waits m v see of
      waits m v of (inr now) =
          let same : s.drawn + 1 ≡ l = subst (IsOf l) now.1.phase_now of in
          (now.1.phase_now ∙ ap Opening same, h.lives (omega (arith, same)))

      held : (v : Seen) → (v.phase ≡ Asking) ⊎ (v.phase ≡ Opening l)
          → Sees (s.clients c) v ⊎ ((c ≡ n) × NowIn s.clients n (Opening (s.drawn + 1)) v)
          → v.held ≡ rest
      held v phase (inl see) = h.held v see phase
      held v phase (inr now) =
          let same : now.1.client ≡ x = (let both : Some now.1.client ≡ Some x = sym now.1.was ∙ here in cc) in
          let u : Seen = record { phase = Asking; held = now.1.client.held } in
          let see : Sees (s.clients c) u =
          ap (λ (k : ℕ). seen (s.clients k)) now.0 ∙ (ap seen now.1.was ∙ ap (λ (p : Phase). seen_in p now.1.client.held)
          (ap (λ (y : Client). y.about.phase) same ∙ asks)) in
          now.1.held ∙ h.held u see (inl refl)

  -- ---- goes
  gone_starts : (s : State) (m : Made) (w : List Event) → Goes IsOther l s m → Starts l c rest s w → Starts l c rest m.state (w ++ m.told)
  gone_starts s m w g h = record {
    quiet = λ t. carried_none t l w m.told (end_carries IsOther l t m.told g.told) ∙ h.quiet t;
    dry = are_append (IsDry l) w m.told h.dry (end_are_dry IsOther l l m.told g.told);
    not_closed = λ e. closed (ending_split l w m.told ClientClosed e);
    none = λ above. absurd (drawn above);
    lives = λ above. absurd (drawn above);
    unseen = λ above n v see of. drawn above;
    own = λ y e n v see of. (h.own g.stream g.is n v (g.clients n v see) of ∙ sym (g.row y e).1);
    waits = λ n v see of. (
      (h.waits n v (g.clients n v see) of).0,
      ending_none l w m.told (h.waits n v (g.clients n v see) of).1
          (stays n v see of g.left),
    );
    held = λ v see phase. h.held v (g.clients c v see) phase;
  }
    where
      drawn : m.state.drawn < l → ⊥
      drawn above = let clash : None ≡ Some g.stream = sym (h.none (omega (arith, above, g.drawn))) ∙ g.is in cc

      closed : (ending_in l w ≡ Some ClientClosed) ⊎ (ending_in l m.told ≡ Some ClientClosed) → ⊥
      closed (inl e) = h.not_closed e
      closed (inr e) = end_such IsOther l m.told ClientClosed g.told e refl

      his : (g.client ≡ g.stream.client) ⊎ ((v : Seen) × Sees (s.clients g.client) v × IsOf l v.phase) → g.client ≡ g.stream.client
      his (inl e) = e
      his (inr u) = h.own g.stream g.is g.client u.0 u.1 u.2

      stays : (n : ℕ) (v : Seen) → Sees (m.state.clients n) v → IsOf l v.phase
          → (ending_in l m.told ≡ None) ⊎ ((v : Seen) → Sees (m.state.clients g.client) v → IsOf l v.phase → ⊥) → ending_in l m.told ≡ None
      stays n v see of (inl none) = none
      stays n v see of (inr left) =
          let same : n ≡ g.client = h.own g.stream g.is n v (g.clients n v see) of ∙ sym (his g.his) in
          absurd (left v (subst (λ (k : ℕ). Sees (m.state.clients k) v) same see) of)

  other_starts : (k : ℕ) (s : State) (m : Made) (w : List Event) → l ≢ k → Goes IsOther k s m → Starts l c rest s w
      → Starts l c rest m.state (w ++ m.told)
  other_starts k s m w apart g h =
      told_aside m.state w m.told (silent_end IsOther k l apart m.told g.told) (end_are_dry IsOther k l m.told g.told)
      (view s m.state w g.drawn (λ y e. (y, sym (g.others l apart) ∙ e, refl)) (λ n v see of. g.clients n v see) h)

  -- ---- sends
  unsent_starts : (k : ℕ) (s : State) (x : Sending k s) (m : Made) (w : List Event) → l ≢ k → Sends k s x m → Starts l c rest s w
      → Starts l c rest m.state (w ++ m.told)
  unsent_starts k s x m w apart o h =
      told_aside m.state w m.told (silent_up k l apart m.told o.told) (up_are_dry k l apart m.told o.told)
      (view s m.state w o.drawn (λ y e. (y, sym (o.others l apart) ∙ e, refl)) (λ n v see of. before n v of (o.clients n v see)) h)
    where
      not_asking : Streaming k ≡ Asking → ⊥
      not_asking e = cc

      before : (n : ℕ) (v : Seen) → Awaits l v.phase → Sees (s.clients n) v
          ⊎ ((n ≡ x.stream.client) × (v.phase ≡ Streaming k)) → Sees (s.clients n) v
      before n v of (inl see) = see
      before n v (inl of) (inr now) = absurd (apart (sym (subst (IsOf l) now.1 of)))
      before n v (inr asks) (inr now) = absurd (not_asking (sym now.1 ∙ asks))

  -- it is not open
  not_sending : (s : State) (x : Sending l s) (w : List Event) → Starts l c rest s w → ⊥
  not_sending s x w h =
      let v : Seen = record { phase = Streaming l; held = x.client.held } in
      let see : Sees (s.clients x.stream.client) v =
      ap seen x.here ∙ ap (λ (p : Phase). seen_in p x.client.held) (streaming_is l x.client.about.phase x.streaming) in
      let clash : Streaming l ≡ Opening l = (h.waits x.stream.client v see refl).0 in
      cc

  -- ---- all moves
  pub starts_climbs : Climbs Deaf (Starts l c rest)
  starts_climbs = record {
    aside = λ s m w off h. told_aside m.state w m.told (silent_aside l m.told off.told) (aside_are_dry l m.told off.told)
        (view s m.state w off.drawn (λ y e. (y, sym (off.streams l) ∙ e, refl)) (λ n v see of. off.clients n v see) h);
    draws = λ n t x s w here asks h. draws_starts n t x s w here asks h;
    parts = λ k stream part s w is level h. part_starts k stream part s w is h;
    acks = λ k word stream s w is hears h. absurd hears;
    opens = λ k remote word stream s w is new hears h. absurd hears;
    goes = λ k s m w g h. goes k s m w g h (cases_eq k l);
    stops = λ n s w h. record {
      quiet = λ t. carried_none t l w _ (stops_carries n s t l) ∙ h.quiet t;
      dry = are_append (IsDry l) w _ h.dry (stops_dry n s l);
      not_closed = λ e. stopped n s w h (ending_split l w _ ClientClosed e);
      none = λ above. refl;
      lives = λ above. ending_none l w _ (h.lives above) (stops_above n s l above);
      unseen = λ above m v see of. stops_unseen n s m v see;
      own = λ y e. absurd (let clash : None ≡ Some y = e in cc);
      waits = λ m v see of. absurd (stops_unseen n s m v see);
      held = λ v see phase. absurd (stops_unseen n s c v see);
    };
    sends = λ k s w x h. sends k s x w h (cases_eq k l);
  }
    where
      goes : (k : ℕ) (s : State) (m : Made) (w : List Event) → Goes IsOther k s m → Starts l c rest s w → (k ≡ l) ⊎ (k ≡ l → ⊥)
          → Starts l c rest m.state (w ++ m.told)
      goes k s m w g h (inl same) = gone_starts s m w (subst (λ (n : ℕ). Goes IsOther n s m) same g) h
      goes k s m w g h (inr apart) = other_starts k s m w (λ e. apart (sym e)) g h

      stopped : (n : ℕ) (s : State) (w : List Event) → Starts l c rest s w
          → (ending_in l w ≡ Some ClientClosed) ⊎ (ending_in l (stops n s).told ≡ Some ClientClosed) → ⊥
      stopped n s w h (inl e) = h.not_closed e
      stopped n s w h (inr e) = stops_other n s l e

      sends : (k : ℕ) (s : State) (x : Sending k s) (w : List Event) → Starts l c rest s w → (k ≡ l) ⊎ (k ≡ l → ⊥)
          → After (Starts l c rest) w (sends_up k x.stream x.client (sent k s x) s)
      sends k s x w h (inr apart) = unsent_starts k s x _ w (λ e. apart (sym e)) (sends_made k s x) h
      sends k s x w h (inl same) = absurd (not_sending s (subst (λ (n : ℕ). Sending n s) same x) w h)
