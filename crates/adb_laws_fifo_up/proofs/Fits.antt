-- What goes up a stream, and what it may send more, fits within what its device allowed, through each move but an OKAY to it.
use Rattle.std.proofs.Common.{not, ◌≡◌, ◌≢◌, ℕ, ◌+◌, ◌-◌, ◌≤◌, zero, suc, Bool, true, false, cond, List, [], ◌∷◌, ◌++◌, length, drop}
use Rattle.std.proofs.Common.{Option, Some, None}
use Rattle.std.proofs.Common.{refl, sym, ap, subst, ◌∙◌, arith, ◌⊎◌, inl, inr, eqb}
use Rattle.std.proofs.lemmas.Bool.{eq-eqb, cases_eq}
use Rattle.std.proofs.lemmas.List.{length-append, length-take}
use Rattle.adb_wire.specs.declared.packets.Packet.{Packet}
use Rattle.adb_stream.specs.Window.{OneWrite}
use Rattle.adb_stream.specs.Credit.{ByteCredit}
use Rattle.adb_stream.specs.declared.flow.Flow.{Flow}
use Rattle.adb_stream.specs.declared.flow.Flow.TheVariants.{One, Credit}
use Rattle.adb_stream.specs.declared.row.Part.{Part}
use Rattle.adb_stream.specs.declared.row.Stream.{Stream}
use Rattle.adb_stream.specs.Flow.{is_idle, has_credit}
use Rattle.adb_client.specs.declared.phase.Phase.{Phase}
use Rattle.adb_client.specs.declared.phase.Phase.TheVariants.{Opening, Streaming}
use Rattle.adb_history.specs.Rows.{State, to_stream, with_stream_part}
use Rattle.adb_history.specs.Events.{Made, Event, ending_in, packets_to}
use Rattle.adb_history.specs.declared.ending.Ending.TheVariants.{ClientClosed}
use Rattle.adb_history.specs.Links.{maxdata_of}
use Rattle.adb_history.specs.Flow.{write_len, write_before, writes, payloads, total, flow_after, sends_up}
use Rattle.adb_history.specs.Losing.{stops}
use Rattle.adb_history.specs.Births.{Opening as DeviceOpening, opening_in, joined, count_from, is_wrte}
use Rattle.adb_history.specs.Moves.{After, draws_now}
use Rattle.adb_history.proofs.Following.{changed_here, changed_other}
use Rattle.adb_history.proofs.StreamMoves.{like_after}
use Rattle.adb_history.proofs.Sweep.{Sending, sent}
use Rattle.adb_laws_fifo_up.specs.Seen.{Seen, seen, seen_in, Sees}
use Rattle.adb_laws_fifo_up.specs.Climbing.{carried, Are, may_send, IsLevel, IsRowOf, IsOther, Goes, Climbs}
use Rattle.adb_laws_fifo_up.proofs.Seeing.{carried_append, packets_append, ending_split, end_such, silent_open, silent_aside, silent_end}
use Rattle.adb_laws_fifo_up.proofs.Seeing.{silent_up}
use Rattle.adb_laws_fifo_up.proofs.Shutting.{IsDry, count_append, count_dry, carried_dry, aside_are_dry, end_are_dry, up_are_dry}
use Rattle.adb_laws_fifo_up.proofs.Opened.{NowIn, phase_seen, draws_other, Opens, opens_made}
use Rattle.adb_laws_fifo_up.proofs.Openings.{allowed, IsOpenEnded}
use Rattle.adb_laws_fifo_up.proofs.SendsUp.{streaming_is, IsLeft, Sends, sends_made}
use Rattle.adb_laws_fifo_up.proofs.Stops.{stops_dry, stops_other}

-- ---- how much writes take
spent : Bool → List (List ℕ) → ℕ
spent false ps = length ps
spent true ps = total ps

total_joined : (ps : List (List ℕ)) → length (joined ps) ≡ total ps
total_joined [] = refl
total_joined (p ∷ ps) = omega (arith, length-append p (joined ps), total_joined ps)

after_credit : (ps : List (List ℕ)) (credit : ByteCredit) → may_send (flow_after ps (Credit credit)) ≡ credit.to_send - total ps
after_credit [] credit = omega arith
after_credit (p ∷ ps) credit = omega (arith, after_credit ps (record credit { to_send = credit.to_send - length p }))

writes_within : (k maxdata credit : ℕ) (held : List ℕ) → total (writes k maxdata credit held) ≤ credit
writes_within zero maxdata credit held = omega arith
writes_within (suc k) maxdata credit held = go (write_len maxdata credit held) refl
    (λ n. writes_within k maxdata (credit - n) (drop n held))
  where
    go : (n : ℕ) → write_len maxdata credit held ≡ n → ((n : ℕ) → total (writes k maxdata (credit - n) (drop n held)) ≤ credit - n)
        → total (write_before n held (writes k maxdata (credit - n) (drop n held))) ≤ credit
    go zero e ih = omega arith
    go (suc n) e ih = omega (arith, e, ih (suc n), length-take (suc n) held)

one_within : (window : OneWrite) (maxdata : ℕ) (held : List ℕ) (b : Bool) → window.outstanding ≡ b
    → length (cond b [] (writes 1 maxdata maxdata held)) + may_send (flow_after (cond b [] (writes 1 maxdata maxdata held)) (One window))
    ≤ may_send (One window)
one_within window maxdata held true e = omega arith
one_within window maxdata held false e = go (write_len maxdata maxdata held)
  where
    one : may_send (One window) ≡ 1
    one = ap (λ (b : Bool). cond b 0 1) e

    go : (n : ℕ) → length (write_before n held []) + may_send (flow_after (write_before n held []) (One window)) ≤ may_send (One window)
    go zero = omega arith
    go (suc n) = omega (arith, one)

fits_send : (credit : Bool) (flow : Flow) (maxdata : ℕ) (held : List ℕ) → has_credit flow ≡ credit
    → spent credit (payloads flow maxdata held) + may_send (flow_after (payloads flow maxdata held) flow) ≤ may_send flow
unfolding spent
fits_send false (One window) maxdata held e = one_within window maxdata held window.outstanding refl
fits_send true (One window) maxdata held e = let clash : false ≡ true = e in cc
fits_send false (Credit credit) maxdata held e = let clash : true ≡ false = e in cc
fits_send true (Credit credit) maxdata held e =
    let ps : List (List ℕ) = writes (length held) maxdata credit.to_send held in
    omega (arith, after_credit ps credit, writes_within (length held) maxdata credit.to_send held)

-- where no write waits, one more may go up
idle_room : (flow : Flow) → has_credit flow ≡ false → is_idle flow ≡ true → may_send flow ≡ 1
idle_room (One window) one idle = go window.outstanding refl idle
  where
    go : (b : Bool) → window.outstanding ≡ b → not b ≡ true → may_send (One window) ≡ 1
    go true e f = let clash : false ≡ true = f in cc
    go false e f = ap (λ (x : Bool). cond x 0 1) e
idle_room (Credit credit) one idle = let clash : true ≡ false = one in cc

-- ---- how much went up
abbrev pub used : Bool → (t l : ℕ) → List Event → ℕ
used false t l w = count_from is_wrte l (packets_to t w)
used true t l w = length (carried t l w)

used_dry : (credit : Bool) (t l : ℕ) (w u : List Event) → Are (IsDry l) u → used credit t l (w ++ u) ≡ used credit t l w
used_dry false t l w u dry = count_dry t l w u dry
used_dry true t l w u dry = ap length (carried_dry t l w u dry)

-- Of a stream that its device has not opened nothing went up, and it may still be opened; of an open one what went
-- up, and what it may send, is allowed.
abbrev pub RoomAt : Bool → ℕ → List Packet → (went room remote : ℕ) → Type 0
RoomAt credit l ps went room zero = IsOpenEnded l ps × (went ≡ 0)
RoomAt credit l ps went room (suc r) =
    (o : DeviceOpening) × (opening_in l ps ≡ Some o) × (o.remote ≡ suc r) × (went + room ≤ allowed credit l (Some o))

pub record IsRoom (t l : ℕ) (credit : Bool) (ps : List Packet) (went : ℕ) (y : Stream) : Type 0 where
  pub link : y.link ≡ t
  pub flow : has_credit y.part.flow ≡ credit
  pub room : RoomAt credit l ps went (may_send y.part.flow) y.part.remote

-- with one write at a time each write was answered
abbrev pub IsAnsweredAll : Bool → (went may : ℕ) → Type 0
IsAnsweredAll false went may = went + 1 ≤ may
IsAnsweredAll true went may = Unit {0}

pub answered_more : (credit : Bool) (went next may more : ℕ) → next ≡ went → may ≤ more
    → IsAnsweredAll credit went may → IsAnsweredAll credit next more
answered_more false went next may more same fits h = omega (arith, same, fits, h)
answered_more true went next may more same fits h = tt

-- the packets are those that the link of the stream brought since its birth
pub record Fits (l t : ℕ) (credit : Bool) (ps : List Packet) (s : State) (w : List Event) : Type 0 where
  pub born : l ≤ s.drawn
  pub within : used credit t l w ≤ allowed credit l (opening_in l ps)
  pub row : (y : Stream) → s.streams l ≡ Some y → IsRoom t l credit ps (used credit t l w) y
  pub open_row : (n : ℕ) (v : Seen) → Sees (s.clients n) v → v.phase ≡ Streaming l → (y : Stream) → s.streams l ≡ Some y → y.part.remote ≢ 0
  pub done : ending_in l w ≡ Some ClientClosed → (s.streams l ≡ None)
      × IsAnsweredAll credit (used credit t l w) (allowed credit l (opening_in l ps))

-- an OKAY to another stream
abbrev pub Others : ℕ → State → ℕ → Type 0
Others l s k = k ≢ l

module _ (l t : ℕ) (credit : Bool) (ps : List Packet) where
  -- a row that may send as much
  like_room : (went next : ℕ) (x y : Stream) → next ≡ went → y.link ≡ x.link → IsLevel x.part y.part
      → IsRoom t l credit ps went x → IsRoom t l credit ps next y
  like_room went next x y same link level h = record {
    link = link ∙ h.link;
    flow = level.credit ∙ h.flow;
    room = subst (λ (n : ℕ). RoomAt credit l ps n (may_send y.part.flow) y.part.remote) (sym same)
        (subst (λ (n : ℕ). RoomAt credit l ps went n y.part.remote) (sym level.room)
        (subst (λ (n : ℕ). RoomAt credit l ps went (may_send x.part.flow) n) (sym level.remote) h.room));
  }

  -- nothing of it is told
  pub told_dry : (s : State) (w u : List Event) → Are (IsDry l) u → (ending_in l u ≡ Some ClientClosed → ⊥) → Fits l t credit ps s w
      → Fits l t credit ps s (w ++ u)
  told_dry s w u dry other h =
      let same : used credit t l (w ++ u) ≡ used credit t l w = used_dry credit t l w u dry in
      record {
        born = h.born;
        within = omega (arith, h.within, same);
        row = λ y e. subst (λ (n : ℕ). IsRoom t l credit ps n y) (sym same) (h.row y e);
        open_row = h.open_row;
        done = λ e. done same (ending_split l w u ClientClosed e);
      }
    where
      done : used credit t l (w ++ u) ≡ used credit t l w → (ending_in l w ≡ Some ClientClosed) ⊎ (ending_in l u ≡ Some ClientClosed)
          → (s.streams l ≡ None) × IsAnsweredAll credit (used credit t l (w ++ u)) (allowed credit l (opening_in l ps))
      done same (inl e) = (
        (h.done e).0,
        answered_more credit (used credit t l w) (used credit t l (w ++ u)) (allowed credit l (opening_in l ps))
            (allowed credit l (opening_in l ps)) same (omega arith) (h.done e).1,
      )
      done same (inr e) = absurd (other e)

  -- nothing is told, and its row stays, or goes
  view : (s next : State) (w : List Event) → s.drawn ≤ next.drawn
      → ((y : Stream) → next.streams l ≡ Some y → (x : Stream) × (s.streams l ≡ Some x) × (y.link ≡ x.link) × IsLevel x.part y.part)
      → ((n : ℕ) (v : Seen) → Sees (next.clients n) v → v.phase ≡ Streaming l → Sees (s.clients n) v)
      → Fits l t credit ps s w → Fits l t credit ps next w
  view s next w drawn row before h = record {
    born = omega (arith, h.born, drawn);
    within = h.within;
    row = λ y e. (let x = row y e in like_room (used credit t l w) (used credit t l w) x.0 y refl x.2 x.3 (h.row x.0 x.1));
    open_row = λ n v see phase y e none. (let x = row y e in h.open_row n v (before n v see phase) phase x.0 x.1 (sym x.3.remote ∙ none));
    done = λ e. (none_now (next.streams l) refl (h.done e).0, (h.done e).1);
  }
    where
      none_now : (o : Option Stream) → next.streams l ≡ o → s.streams l ≡ None → next.streams l ≡ None
      none_now None e none = e
      none_now (Some y) e none = (let x = row y e in let clash : None ≡ Some x.0 = sym none ∙ x.1 in cc)

  -- its rows stay, and who has it open had it open
  pub rows_fit : (s next : State) (w : List Event) → next.drawn ≡ s.drawn → next.streams ≡ s.streams
      → ((n : ℕ) (v : Seen) → Sees (next.clients n) v → v.phase ≡ Streaming l → (u : Seen) × Sees (s.clients n) u × (u.phase ≡ Streaming l))
      → Fits l t credit ps s w → Fits l t credit ps next w
  rows_fit s next w drawn rows before h = record {
    born = omega (arith, h.born, drawn);
    within = h.within;
    row = λ y e. h.row y (sym (ap (λ r. r l) rows) ∙ e);
    open_row = λ n v see phase y e. (let u = before n v see phase in h.open_row n u.0 u.1 u.2 y (sym (ap (λ r. r l) rows) ∙ e));
    done = λ e. (ap (λ r. r l) rows ∙ (h.done e).0, (h.done e).1);
  }

  same_level : (part : Part) → IsLevel part part
  same_level part = record { credit = refl; room = refl; remote = refl }

  -- its row stays
  stays : (s next : State) → next.streams l ≡ s.streams l → (y : Stream) → next.streams l ≡ Some y
      → (x : Stream) × (s.streams l ≡ Some x) × (y.link ≡ x.link) × IsLevel x.part y.part
  stays s next same y e = (y, sym same ∙ e, refl, same_level y.part)

  part_row : (k : ℕ) (stream : Stream) (part : Part) (s : State) → s.streams k ≡ Some stream → ((k ≡ l) → IsLevel stream.part part)
      → (y : Stream) → (to_stream k (with_stream_part part) s).streams l ≡ Some y
      → (x : Stream) × (s.streams l ≡ Some x) × (y.link ≡ x.link) × IsLevel x.part y.part
  part_row k stream part s is level y e = go (cases_eq k l)
    where
      go : (k ≡ l) ⊎ (k ≡ l → ⊥) → (x : Stream) × (s.streams l ≡ Some x) × (y.link ≡ x.link) × IsLevel x.part y.part
      go (inl same) =
          let row : record stream { part = part } ≡ y = (let both : Some (record stream { part = part }) ≡ Some y =
          sym (changed_here k (with_stream_part part) s.streams stream is)
          ∙ (ap (to_stream k (with_stream_part part) s).streams same ∙ e) in cc) in (
            stream,
            ap s.streams (sym same) ∙ is,
            ap (λ (z : Stream). z.link) (sym row),
            subst
                (λ (z : Stream). IsLevel stream.part z.part) row (level same),
          )
      go (inr apart) = stays s (to_stream k (with_stream_part part) s) (changed_other k l (with_stream_part part) s.streams apart) y e

  part_fits : (k : ℕ) (stream : Stream) (part : Part) (s : State) (w : List Event) → s.streams k ≡ Some stream
      → ((k ≡ l) → IsLevel stream.part part)
      → Fits l t credit ps s w → Fits l t credit ps (to_stream k (with_stream_part part) s) w
  part_fits k stream part s w is level h =
      view s (to_stream k (with_stream_part part) s) w (omega arith) (part_row k stream part s is level) (λ n v see phase. see) h

  draws_fits : (n t2 : ℕ) (s : State) (w : List Event) → Fits l t credit ps s w → Fits l t credit ps (draws_now n t2 s) w
  draws_fits n t2 s w h =
      view s (draws_now n t2 s) w (omega arith) (stays s (draws_now n t2 s) (draws_other l n t2 s (λ f. omega (arith, f, h.born))))
      (λ m v see phase. before m v phase (phase_seen s.clients n (Opening (s.drawn + 1)) m v see)) h
    where
      not_open : (k m : ℕ) → Opening k ≡ Streaming m → ⊥
      not_open k m e = cc

      before : (m : ℕ) (v : Seen) → v.phase ≡ Streaming l → Sees (s.clients m) v ⊎ ((m ≡ n) × NowIn s.clients n (Opening (s.drawn + 1)) v)
          → Sees (s.clients m) v
      before m v phase (inl see) = see
      before m v phase (inr now) = absurd (not_open (s.drawn + 1) l (sym now.1.phase_now ∙ phase))

  opens_fits : (k : ℕ) (stream : Stream) (s : State) (m : Made) (w : List Event) → k ≢ l → Opens k stream s m → Fits l t credit ps s w
      → Fits l t credit ps m.state (w ++ m.told)
  opens_fits k stream s m w apart o h =
      told_dry m.state w m.told (aside_are_dry l m.told o.told) (silent_open l m.told (silent_aside l m.told o.told))
      (view s m.state w (omega (arith, o.drawn)) (stays s m.state (o.others l (λ e. apart (sym e))))
      (λ n v see phase. before n v phase (o.clients n v see)) h)
    where
      same_stream : Streaming k ≡ Streaming l → k ≡ l
      same_stream e = cc

      before : (n : ℕ) (v : Seen) → v.phase ≡ Streaming l → Sees (s.clients n) v
          ⊎ ((n ≡ stream.client) × NowIn s.clients stream.client (Streaming k) v)
          → Sees (s.clients n) v
      before n v phase (inl see) = see
      before n v phase (inr now) = absurd (apart (same_stream (sym now.1.phase_now ∙ phase)))

  pub gone_fits : (s : State) (m : Made) (w : List Event) → Goes IsOther l s m → Fits l t credit ps s w
      → Fits l t credit ps m.state (w ++ m.told)
  gone_fits s m w g h =
      told_dry m.state w m.told (end_are_dry IsOther l l m.told g.told) (λ e. end_such IsOther l m.told ClientClosed g.told e refl)
      (view s m.state w (omega (arith, g.drawn)) (λ y e. row y (g.row y e)) (λ n v see phase. g.clients n v see) h)
    where
      row : (y : Stream) → IsRowOf g.stream y → (x : Stream) × (s.streams l ≡ Some x) × (y.link ≡ x.link) × IsLevel x.part y.part
      row y same = (g.stream, g.is, same.0, record { credit = ap has_credit same.2; room = ap may_send same.2; remote = same.3 })

  other_fits : (k : ℕ) (s : State) (m : Made) (w : List Event) → l ≢ k → Goes IsOther k s m → Fits l t credit ps s w
      → Fits l t credit ps m.state (w ++ m.told)
  other_fits k s m w apart g h =
      told_dry m.state w m.told (end_are_dry IsOther k l m.told g.told) (silent_open l m.told (silent_end IsOther k l apart m.told g.told))
      (view s m.state w (omega (arith, g.drawn)) (stays s m.state (g.others l apart)) (λ n v see phase. g.clients n v see) h)

  -- ---- sends
  sent_fits : (s : State) (x : Sending l s) (m : Made) (w : List Event) → Sends l s x m → Fits l t credit ps s w
      → Fits l t credit ps m.state (w ++ m.told)
  unfolding spent
  sent_fits s x m w o h = by x.stream.part.remote refl mine.room
    where
      mine : IsRoom t l credit ps (used credit t l w) x.stream
      mine = h.row x.stream x.there

      after : Flow
      after = flow_after (sent l s x) x.stream.part.flow

      link : eqb x.stream.link t ≡ true
      link = eq-eqb x.stream.link t mine.link

      sum : (c : Bool) → used c t l (w ++ m.told) ≡ used c t l w + spent c (sent l s x)
      sum false = ap (count_from is_wrte l) (packets_append t w m.told)
          ∙ (count_append is_wrte l (packets_to t w) (packets_to t m.told)
          ∙ ap (λ n. count_from is_wrte l (packets_to t w) + n) (o.counts t ∙ ap (λ (b : Bool). cond b (length (sent l s x)) 0) link))
      sum true = ap length (carried_append t l w m.told
          ∙ ap (λ y. carried t l w ++ y) (o.carries t ∙ ap (λ (b : Bool). cond b (joined (sent l s x)) []) link))
          ∙ omega (arith, length-append (carried t l w) (joined (sent l s x)), total_joined (sent l s x))

      fits : spent credit (sent l s x) + may_send (flow_after (sent l s x) x.stream.part.flow) ≤ may_send x.stream.part.flow
      fits = fits_send credit x.stream.part.flow (maxdata_of x.stream.link s.devices) x.client.held mine.flow

      open_now : (v : Seen) → Sees (s.clients x.stream.client) v → v.phase ≡ Streaming l → x.stream.part.remote ≢ 0
      open_now v see phase = h.open_row x.stream.client v see phase x.stream x.there

      see : Sees (s.clients x.stream.client) (record { phase = Streaming l; held = x.client.held })
      see = ap seen x.here ∙ ap (λ (p : Phase). seen_in p x.client.held) (streaming_is l x.client.about.phase x.streaming)

      clients : (n : ℕ) (v : Seen) → v.phase ≡ Streaming l → (y : Stream) → m.state.streams l ≡ Some y → y.part.remote ≢ 0
      clients n v phase y e none =
          open_now (record { phase = Streaming l; held = x.client.held }) see refl (sym (o.row y e).3 ∙ none)

      answered : (c : Bool) → has_credit x.stream.part.flow ≡ c
          → is_idle (flow_after (sent l s x) x.stream.part.flow) ≡ true → (went may : ℕ)
          → went + may_send (flow_after (sent l s x) x.stream.part.flow) ≤ may → IsAnsweredAll c went may
      answered false one idle went may within =
          omega (
            arith,
            within,
            idle_room (flow_after (sent l s x) x.stream.part.flow)
                ((like_after (sent l s x) x.stream.part.flow).credit ∙ one) idle,
          )
      answered true one idle went may within = tt

      done : (p : DeviceOpening) × (opening_in l ps ≡ Some p) × (p.remote ≡ x.stream.part.remote)
          × (used credit t l w + may_send x.stream.part.flow ≤ allowed credit l (Some p))
          → (ending_in l w ≡ Some ClientClosed) ⊎ (ending_in l m.told ≡ Some ClientClosed) → IsLeft l s x m
          → (m.state.streams l ≡ None) × IsAnsweredAll credit (used credit t l (w ++ m.told)) (allowed credit l (opening_in l ps))
      done at (inl e) fate = absurd (let clash : None ≡ Some x.stream = sym (h.done e).0 ∙ x.there in cc)
      done at (inr e) (inl goes_on) = absurd (let clash : None ≡ Some ClientClosed = sym goes_on.0 ∙ e in cc)
      done at (inr e) (inr over) = (
        over.2,
        answered credit mine.flow over.3 (used credit t l (w ++ m.told)) (allowed credit l (opening_in l ps))
            (omega (arith, sum credit, fits, at.3, ap (allowed credit l) at.1)),
      )

      by : (remote : ℕ) → x.stream.part.remote ≡ remote → RoomAt credit l ps (used credit t l w)
          (may_send x.stream.part.flow) x.stream.part.remote
          → Fits l t credit ps m.state (w ++ m.told)
      by zero none room = absurd (open_now (record { phase = Streaming l; held = x.client.held }) see refl none)
      by (suc r) is room = record {
        born = omega (arith, h.born, o.drawn);
        within = omega (arith, sum credit, fits, at.3, ap (allowed credit l) at.1);
        row = λ y e.
            let same = o.row y e in
            record {
              link = same.0 ∙ mine.link;
              flow = ap has_credit same.2 ∙ ((like_after (sent l s x) x.stream.part.flow).credit ∙ mine.flow);
              room = subst (λ (n : ℕ). RoomAt credit l ps (used credit t l (w ++ m.told)) (may_send y.part.flow) n) (sym (same.3 ∙ is))
                  (at.0, at.1, at.2, omega (arith, sum credit, fits, at.3, ap may_send same.2));
            };
        open_row = λ n v see2 phase y e. clients n v phase y e;
        done = λ e. done (at.0, at.1, at.2 ∙ sym is, at.3) (ending_split l w m.told ClientClosed e) o.fate;
      }
        where
          at : (p : DeviceOpening) × (opening_in l ps ≡ Some p) × (p.remote ≡ suc r)
              × (used credit t l w + may_send x.stream.part.flow ≤ allowed credit l (Some p))
          at = subst (λ (n : ℕ). RoomAt credit l ps (used credit t l w) (may_send x.stream.part.flow) n) is room

  unsent_fits : (k : ℕ) (s : State) (x : Sending k s) (m : Made) (w : List Event) → l ≢ k → Sends k s x m → Fits l t credit ps s w
      → Fits l t credit ps m.state (w ++ m.told)
  unsent_fits k s x m w apart o h =
      told_dry m.state w m.told (up_are_dry k l apart m.told o.told) (silent_open l m.told (silent_up k l apart m.told o.told))
      (view s m.state w (omega (arith, o.drawn)) (stays s m.state (o.others l apart))
      (λ n v see phase. before n v phase (o.clients n v see)) h)
    where
      same_stream : Streaming k ≡ Streaming l → k ≡ l
      same_stream e = cc

      before : (n : ℕ) (v : Seen) → v.phase ≡ Streaming l → Sees (s.clients n) v
          ⊎ ((n ≡ x.stream.client) × (v.phase ≡ Streaming k)) → Sees (s.clients n) v
      before n v phase (inl see) = see
      before n v phase (inr now) = absurd (apart (sym (same_stream (sym now.1 ∙ phase))))

  -- ---- all moves
  pub fits_climbs : Climbs (Others l) (Fits l t credit ps)
  fits_climbs = record {
    aside = λ s m w off h. told_dry m.state w m.told (aside_are_dry l m.told off.told)
        (silent_open l m.told (silent_aside l m.told off.told))
        (view s m.state w (omega (arith, off.drawn)) (stays s m.state (off.streams l)) (λ n v see phase. off.clients n v see) h);
    draws = λ n t2 x s w here asks h. draws_fits n t2 s w h;
    parts = λ k stream part s w is level h. part_fits k stream part s w is (λ same. level) h;
    acks = λ k word stream s w is apart h. part_fits k stream _ s w is (λ same. absurd (apart same)) h;
    opens = λ k remote word stream s w is new apart h. opens_fits k stream s _ w apart (opens_made k remote word stream s is) h;
    goes = λ k s m w g h. goes k s m w g h (cases_eq k l);
    stops = λ n s w h. told_dry (stops n s).state w (stops n s).told (stops_dry n s l) (stops_other n s l) (record {
      born = h.born;
      within = h.within;
      row = λ y e. absurd (let clash : None ≡ Some y = e in cc);
      open_row = λ k v see phase y e. absurd (let clash : None ≡ Some y = e in cc);
      done = λ e. (refl, (h.done e).1);
    });
    sends = λ k s w x h. sends k s x w h (cases_eq k l);
  }
    where
      goes : (k : ℕ) (s : State) (m : Made) (w : List Event) → Goes IsOther k s m → Fits l t credit ps s w → (k ≡ l) ⊎ (k ≡ l → ⊥)
          → Fits l t credit ps m.state (w ++ m.told)
      goes k s m w g h (inl same) = gone_fits s m w (subst (λ (n : ℕ). Goes IsOther n s m) same g) h
      goes k s m w g h (inr apart) = other_fits k s m w (λ e. apart (sym e)) g h

      sends : (k : ℕ) (s : State) (x : Sending k s) (w : List Event) → Fits l t credit ps s w → (k ≡ l) ⊎ (k ≡ l → ⊥)
          → After (Fits l t credit ps) w (sends_up k x.stream x.client (sent k s x) s)
      sends k s x w h (inr apart) = unsent_fits k s x _ w (λ e. apart (sym e)) (sends_made k s x) h
      sends k s x w h (inl same) =
          subst (λ (i : ℕ). (z : Sending i s) → After (Fits l t credit ps) w
          (sends_up i z.stream z.client (sent i s z) s)) (sym same)
          (λ z. sent_fits s z _ w (sends_made l s z) h) x
