-- What the up rule for all streams makes of one, and of its client.
use Rattle.std.proofs.Common.{◌≡◌, ◌≢◌, ◌≤◌, ◌<◌, ◌+◌, ℕ, zero, suc, Bool, true, false, cond, List, [], ◌∷◌, ◌++◌, length, take, drop}
use Rattle.std.proofs.Common.{Option, Some}
use Rattle.std.proofs.Common.{None, refl, sym, ap, subst, ◌∙◌}
use Rattle.std.proofs.Common.{arith, ◌⊎◌, inl, inr}
use Rattle.std.specs.Option.{option_or}
use Rattle.std.proofs.lemmas.List.{append-nil}
use Rattle.std.proofs.lemmas.Bool.{cases_eq}
use Rattle.adb_stream.specs.declared.row.Part.{Part}
use Rattle.adb_stream.specs.declared.row.Stream.{Stream}
use Rattle.adb_stream.specs.Flow.{has_credit}
use Rattle.adb_client.specs.declared.phase.Phase.{Phase}
use Rattle.adb_client.specs.declared.phase.Phase.TheVariants.{Streaming}
use Rattle.adb_history.specs.Rows.{Client, State, to_stream, with_held, with_stream_part}
use Rattle.adb_history.specs.Events.{Made, Event, quietly, then_also, owed_to, packets_to, ending_in}
use Rattle.adb_history.specs.declared.ending.Ending.TheVariants.{ClientClosed}
use Rattle.adb_history.specs.Links.{write_packet, owe_link, maxdata_of}
use Rattle.adb_history.specs.Streams.{ends_telling}
use Rattle.adb_history.specs.Flow.{payloads, total, with_flow, goes_up, all_go_up, flow_after, noted, is_over, closes_if}
use Rattle.adb_history.specs.Flow.{sends_up, is_streaming, up_client, up_stream, up, up_all}
use Rattle.adb_history.specs.Births.{joined, is_wrte, carried_in, count_from}
use Rattle.adb_history.specs.Fifo.{okays_of, credit_of}
use Rattle.adb_history.proofs.Following.{changed_here, changed_other}
use Rattle.adb_history.proofs.Growing.{owed_append}
use Rattle.adb_laws_causes.proofs.StreamFates.{up_all_fate}
use Rattle.adb_laws_causes.proofs.Silent.{AreSilent, write_silent}
use Rattle.adb_laws_causes.proofs.Untouched.{Untouched, Apart, apart_fate, u_then, u_if, u_quiet, u_owe, u_stream, u_client, u_telling}
use Rattle.adb_laws_causes.proofs.UntouchedEntries.{Pair, has_still}
use Rattle.adb_laws_causes.specs.Flows.{waiting}
use Rattle.adb_history.specs.Streams.{loses, client_loses, tells_end}
use Rattle.adb_history.specs.Links.{close_packet, check_on, wants_sums}
use Rattle.adb_history.specs.Events.{due_to_link, ended}
use Rattle.adb_history.specs.Rows.{none_kept}
use Rattle.adb_laws_causes.proofs.Fates.{ending_append}
use Rattle.adb_laws_causes.proofs.Runs.{alive_told}
use Rattle.adb_laws_causes.proofs.StreamFates.{telling_fate, gone_here}
use Rattle.adb_laws_causes.proofs.Turning.{ended_told}
use Rattle.adb_laws_causes.proofs.Silent.{Tally, tally_silent, tally_append}
use Rattle.adb_laws_causes.proofs.UpEffects.{joined_payloads, waiting_payloads, go_streams, go_clients, go_owed, go_carried, go_writes}
use Rattle.adb_laws_causes.proofs.UpEffects.{go_credits}

-- ---- other streams
module _ (l c : ℕ) (n : ℕ) (other : n ≢ l) where
  u_go : (z : Stream) (ps : List (List ℕ)) (s : State) → Untouched l c s (all_go_up n z ps s)
  u_go z [] s = u_quiet l c s
  u_go z (p ∷ ps) s = u_then l c s (goes_up n z p s) (all_go_up n z ps)
      (u_owe l c z.link (write_packet n z.part.remote p) s (write_silent l n z.part.remote p other)) (u_go z ps (goes_up n z p s).state)

  u_closes : (over : Bool) (o : Option Stream) (s : State) → s.streams n ≡ o → Apart l c s → Untouched l c s (closes_if over n o s)
  u_closes over None s is h = u_quiet l c s
  u_closes false (Some z) s is h = u_quiet l c s
  u_closes true (Some z) s is h = u_telling l c n ClientClosed z s (other, h.alone n z is other)

  u_sends : (z : Stream) (client : Client) (ps : List (List ℕ)) (s : State) → s.streams n ≡ Some z → Apart l c s
      → Untouched l c s (sends_up n z client ps s)
  u_sends z client ps s is h =
      let left = noted n z client.held ps s in
      let sent = all_go_up n z ps left in
      let over = is_over client.about.ended (drop (total ps) client.held) (flow_after ps z.part.flow) in
      let first = u_stream l c n (with_stream_part (with_flow (flow_after ps z.part.flow) z.part)) s other in
      let second = u_client l c z.client (with_held (drop (total ps) client.held)) s (h.alone n z is other) in
      let noted_u : Untouched l c s (quietly left) = record { row = first.row; client = second.client; owed = refl; silent = tt } in
      let apart : Apart l c sent.state = apart_sent sent.state (go_rows ps left) in
      let go : Untouched l c left sent = u_go z ps left in
      u_then l c s sent (λ s. closes_if over n (s.streams n) s)
      (record {
        row = go.row ∙ noted_u.row;
        client = λ k e has. go.client k (noted_u.client k e has) has;
        owed =
            go.owed;
        silent = go.silent;
      })
      (u_closes over (sent.state.streams n) sent.state refl apart)
    where
      part : Part
      part = with_flow (flow_after ps z.part.flow) z.part

      go_rows : (ps : List (List ℕ)) (r : State) → (all_go_up n z ps r).state.streams ≡ r.streams
      go_rows [] r = refl
      go_rows (p ∷ ps) r = go_rows ps (goes_up n z p r).state

      apart_sent : (r : State) → r.streams ≡ (noted n z client.held ps s).streams → Apart l c r
      apart_sent r same = record { alone = λ m y at far. one m y (ap (λ streams. streams m) (sym same) ∙ at) far (cases_eq n m) }
        where
          one : (m : ℕ) (y : Stream) → (noted n z client.held ps s).streams m ≡ Some y → m ≢ l → (n ≡ m) ⊎ (n ≡ m → ⊥) → y.client ≢ c
          one m y at far (inl here) =
              let row : record z { part = part } ≡ y = (let both : Some (record z { part = part }) ≡ Some y =
              sym (changed_here n (with_stream_part part) s.streams z is) ∙ (ap (noted n z client.held ps s).streams here ∙ at) in cc) in
              λ e. h.alone n z is other (ap (λ (w : Stream). w.client) row ∙ e)
          one m y at far (inr apart) = h.alone m y (sym (changed_other n m (with_stream_part part) s.streams apart) ∙ at) far

  pub u_up : (s : State) → Apart l c s → Untouched l c s (up n s)
  u_up s h = at_stream (s.streams n) refl
    where
      at_client : (z : Stream) → s.streams n ≡ Some z → (o : Option Client) → Untouched l c s (up_client n z o s)
      at_client z is None = u_quiet l c s
      at_client z is (Some client) =
          let ps = payloads z.part.flow (maxdata_of z.link s.devices) client.held in
          u_if l c s (is_streaming n client.about.phase) (sends_up n z client ps s) (quietly s)
          (λ e. u_sends z client ps s is h) (λ e. u_quiet l c s)

      at_stream : (o : Option Stream) → s.streams n ≡ o → Untouched l c s (up_stream n o s)
      at_stream None is = u_quiet l c s
      at_stream (Some z) is = at_client z is (s.clients z.client)

-- ---- the stream itself
-- what goes up of a client
pub record Sends (x : Stream) (k : Client) (sent : List (List ℕ)) : Type 0 where
  pub front : joined sent ≡ take (total sent) k.held
  pub waits : has_credit x.part.flow ≡ false → length sent + waiting x.part.flow ≡ waiting (flow_after sent x.part.flow)

-- the stream goes on with what is left
abbrev pub GoesOnWith : ℕ → Stream → Client → List (List ℕ) → State → Type 0
GoesOnWith l x k sent s =
    (s.streams l ≡ Some (record x { part = with_flow (flow_after sent x.part.flow) x.part }))
    × (s.clients x.client ≡ Some (record k { held = drop (total sent) k.held }))

-- or it is over, and ends
abbrev pub EndsWith : ℕ → Stream → Client → List (List ℕ) → Made → Type 0
EndsWith l x k sent m =
    (is_over k.about.ended (drop (total sent) k.held) (flow_after sent x.part.flow) ≡ true) × (ending_in l m.told ≡ Some ClientClosed)
    × (m.state.streams l ≡ None)

pub record UpEffect (l : ℕ) (x : Stream) (k : Client) (m : Made) : Type 0 where
  pub sent : List (List ℕ)
  pub sends : Sends x k sent
  pub tally : Tally l x.link m.told (joined sent) (length sent) 0
  pub owed : owed_to x.client m.told ≡ []
  pub after : GoesOnWith l x k sent m.state ⊎ EndsWith l x k sent m

-- the end of a client that has its stream open tells it nothing
loses_quiet : (l c n : ℕ) (forwarded : Bool) (phase : Phase) (s : State) → is_streaming l phase ≡ true
    → (owed_to c (loses forwarded phase n s).told ≡ []) × AreSilent l (loses forwarded phase n s).told
loses_quiet l c n true (Streaming k) s e = (refl, tt)
loses_quiet l c n false (Streaming k) s e = (refl, tt)
loses_quiet l c n f _ s e = absurd (let clash : false ≡ true = e in cc)

module _ (l : ℕ) (s : State) (x : Stream) (h : Pair l x s) where
  -- it sends nothing
  up_none : UpEffect l x h.client (quietly s)
  up_none = record {
    sent = [];
    sends = record { front = refl; waits = λ e. omega arith };
    tally = record { bytes = refl; count = refl; given = refl };
    owed = refl;
    after = inl (h.is, h.here);
  }

-- the end of a stream whose client has it open tells the client nothing
telling_quiet : (l c : ℕ) (y : Stream) (now : State) (k : Client) → y.part.orphan ≡ false → now.clients y.client ≡ Some k
    → is_streaming l k.about.phase ≡ true
    → (owed_to c (ends_telling l ClientClosed y now).told ≡ []) × AreSilent l (ends_telling l ClientClosed y now).told
telling_quiet l c y now k alive here streaming =
    subst (λ (orphan : Bool). Quiet
    (then_also (tells_end orphan l ClientClosed gone) (λ s. client_loses (s.clients y.client) y.client s)))
    (sym alive)
    (subst (λ (o : Option Client). Quiet (record {
      state = (client_loses o y.client gone).state;
      told = ended l ClientClosed ∷
          (client_loses o y.client gone).told;
    }))
    (sym here) (both (loses_quiet l c y.client k.about.forwarded k.about.phase gone streaming)))
  where
    gone : State
    gone = to_stream l none_kept (owe_link y.link (close_packet l y.part.remote) now).state

    Quiet : Made → Type 0
    Quiet m = (owed_to c (due_to_link y.link (close_packet l y.part.remote) (check_on (wants_sums (now.links y.link))
        (close_packet l y.part.remote)) ∷ m.told) ≡ [])
        × AreSilent l
        (due_to_link y.link (close_packet l y.part.remote)
        (check_on (wants_sums (now.links y.link)) (close_packet l y.part.remote)) ∷ m.told)

    both : (owed_to c (loses k.about.forwarded k.about.phase y.client gone).told ≡ [])
        × AreSilent l (loses k.about.forwarded k.about.phase y.client gone).told
        → Quiet (record {
          state = (loses k.about.forwarded k.about.phase y.client gone).state;
          told = ended l ClientClosed ∷ (loses k.about.forwarded k.about.phase y.client gone).told;
        })
    both q = (q.0, (record { write = refl; credit = refl }, q.1))

module _ (l : ℕ) (s : State) (x : Stream) (h : Pair l x s) (streaming : is_streaming l h.client.about.phase ≡ true) where
  own_sends : Sends x h.client (payloads x.part.flow (maxdata_of x.link s.devices) h.client.held)
  own_sends = record {
    front = joined_payloads x.part.flow (maxdata_of x.link s.devices) h.client.held;
    waits = λ e. waiting_payloads x.part.flow (maxdata_of x.link s.devices) h.client.held e;
  }

module _ (l : ℕ) (s : State) (x : Stream) (h : Pair l x s) (ps : List (List ℕ)) (sends : Sends x h.client ps) where
  abbrev part : Part
  part = with_flow (flow_after ps x.part.flow) x.part

  abbrev left : State
  left = noted l x h.client.held ps s

  abbrev sent : Made
  sent = all_go_up l x ps (noted l x h.client.held ps s)

  row_left : (all_go_up l x ps (noted l x h.client.held ps s)).state.streams l
      ≡ Some (record x { part = with_flow (flow_after ps x.part.flow) x.part })
  row_left = ap (λ streams. streams l) (go_streams l x ps left) ∙ changed_here l (with_stream_part part) s.streams x h.is

  client_left_is : (all_go_up l x ps (noted l x h.client.held ps s)).state.clients x.client
      ≡ Some (record h.client { held = drop (total ps) h.client.held })
  client_left_is = ap (λ clients. clients x.client) (go_clients l x ps left)
      ∙ changed_here x.client (with_held (drop (total ps) h.client.held)) s.clients h.client h.here

  -- what is left of it goes on
  goes_effect : UpEffect l x h.client (then_also sent (λ s. quietly s))
  goes_effect = record {
    sent = ps;
    sends = sends;
    tally = record {
      bytes = ap (λ w. carried_in l (packets_to x.link w)) (append-nil sent.told) ∙ go_carried l x ps left;
      count = ap (λ w. count_from is_wrte l (packets_to x.link w)) (append-nil sent.told) ∙ go_writes l x ps left;
      given = ap (λ w. credit_of (okays_of l (packets_to x.link w))) (append-nil sent.told) ∙ go_credits l x ps left;
    };
    owed = ap (owed_to x.client) (append-nil sent.told) ∙ go_owed l x x.client ps left;
    after = inl (row_left, client_left_is);
  }

  -- it is over
  ends_effect : is_streaming l h.client.about.phase ≡ true → is_over h.client.about.ended
      (drop (total ps) h.client.held) (flow_after ps x.part.flow) ≡ true
      → UpEffect l x h.client
      (then_also sent
      (λ r. ends_telling l ClientClosed (record x { part = with_flow (flow_after ps x.part.flow) x.part }) r))
  ends_effect streaming over =
      let y = record x { part = part } in
      let now = sent.state in
      let m = ends_telling l ClientClosed y now in
      let q = telling_quiet l x.client y now (record h.client { held = drop (total ps) h.client.held }) h.alive client_left_is streaming in
      let none : m.state.streams l ≡ None = gone_here l l ClientClosed y
      (owe_link y.link (close_packet l y.part.remote) now).state row_left refl in
      let told : ending_in l m.told ≡ Some ClientClosed =
      ended_told l now m y ClientClosed (row_left, h.alive)
      (telling_fate l (λ c k z. z ≡ ClientClosed) l ClientClosed y now row_left (λ same. refl)) none in
      let both = tally_append l x.link sent.told m.told (joined ps) [] (length ps) 0 0 0
      (record { bytes = go_carried l x ps left; count = go_writes l x ps left; given = go_credits l x ps left })
      (tally_silent l x.link m.told q.1) in
      record {
        sent = ps;
        sends = sends;
        tally = record { bytes = both.bytes ∙ append-nil (joined ps); count = both.count ∙ omega arith; given = both.given };
        owed = owed_append x.client sent.told m.told ∙ (ap (λ w. w ++ owed_to x.client m.told) (go_owed l x x.client ps left) ∙ q.0);
        after = inr (
          over,
          ending_append l sent.told m.told ∙
              (ap (λ o. option_or o (ending_in l m.told)) (none_told sent.told go_none) ∙ told),
          none,
        );
      }
    where
      none_told : (w : List Event) → ending_in l w ≡ None → ending_in l w ≡ None
      none_told w e = e

      go_none : ending_in l (all_go_up l x ps (noted l x h.client.held ps s)).told ≡ None
      go_none = no_endings ps (noted l x h.client.held ps s)
        where
          no_endings : (qs : List (List ℕ)) (r : State) → ending_in l (all_go_up l x qs r).told ≡ None
          no_endings [] r = refl
          no_endings (p ∷ qs) r = no_endings qs (goes_up l x p r).state

  sends_effect : is_streaming l h.client.about.phase ≡ true → UpEffect l x h.client (sends_up l x h.client ps s)
  sends_effect streaming = go (is_over h.client.about.ended (drop (total ps) h.client.held) (flow_after ps x.part.flow)) refl
    where
      Result : Bool → Option Stream → Type 0
      Result over o =
          UpEffect l x h.client
          (record {
            state = (closes_if over l o sent.state).state;
            told =
                sent.told ++ (closes_if over l o sent.state).told;
          })

      go : (b : Bool) → is_over h.client.about.ended (drop (total ps) h.client.held) (flow_after ps x.part.flow) ≡ b
          → Result b (sent.state.streams l)
      go false e = subst (Result false) (sym row_left) goes_effect
      go true e = subst (Result true) (sym row_left) (ends_effect streaming e)

-- the up rule for the stream
own_up : (l : ℕ) (s : State) (x : Stream) (h : Pair l x s) → UpEffect l x h.client (up l s)
own_up l s x h =
    subst (λ (o : Option Stream). UpEffect l x h.client (up_stream l o s)) (sym h.is)
    (subst (λ (o : Option Client). UpEffect l x h.client (up_client l x o s)) (sym h.here) (go (is_streaming l h.client.about.phase) refl))
  where
    ps : List (List ℕ)
    ps = payloads x.part.flow (maxdata_of x.link s.devices) h.client.held

    go : (b : Bool) → is_streaming l h.client.about.phase ≡ b
        → UpEffect l x h.client
        (cond b (sends_up l x h.client (payloads x.part.flow (maxdata_of x.link s.devices) h.client.held) s)
        (quietly s))
    go false e = up_none l s x h
    go true e = sends_effect l s x h ps (own_sends l s x h e) e

-- ---- and all of them
pub up_apart : (l c k : ℕ) (s : State) → Apart l c s → Apart l c (up_all k s).state
up_apart l c k s h = apart_fate l c (λ client link y. Unit {0}) s (up_all k s)
    (λ n. up_all_fate n (λ client link y. Unit {0}) k s (λ client link. tt)) h

-- of others than a stream
pub u_ups : (l c k : ℕ) (s : State) → Apart l c s → ((n : ℕ) → n < k → suc n ≢ l) → Untouched l c s (up_all k s)
u_ups l c zero s h others = u_quiet l c s
u_ups l c (suc k) s h others =
    u_then l c s (up_all k s) (up (suc k)) (u_ups l c k s h (λ n less. others n (omega (arith, less))))
    (u_up l c (suc k) (others k (omega arith)) (up_all k s).state (up_apart l c k s h))

module _ (l : ℕ) (x : Stream) (s : State) (h : Pair l x s) (apart : Apart l x.client s) where
  -- in its turn
  turn_up : (k : ℕ) → suc k ≡ l → UpEffect l x h.client (up_all (suc k) s)
  turn_up k same = subst (λ (n : ℕ). UpEffect l x h.client (then_also (up_all k s) (up n))) (sym same) here
    where
      u : Untouched l x.client s (up_all k s)
      u = u_ups l x.client k s apart (λ n less e. omega (arith, less, e, same))

      now : Pair l x (up_all k s).state
      now = record {
        is = u.row ∙ h.is;
        alive = h.alive;
        client = h.client;
        here = u.client h.client h.here (has_still h.client.about.phase l x.part.remote h.phase);
        phase = h.phase;
      }

      here : UpEffect l x h.client (then_also (up_all k s) (up l))
      here =
          let e = own_up l (up_all k s).state x now in
          let m = up_all k s in
          let n = up l m.state in
          let both = tally_append l x.link m.told n.told [] (joined e.sent) 0 (length e.sent) 0 0
          (tally_silent l x.link m.told u.silent) e.tally in
          record {
            sent = e.sent;
            sends = e.sends;
            tally = record { bytes = both.bytes; count = both.count ∙ omega arith; given = both.given };
            owed = owed_append x.client m.told n.told ∙ (ap (λ w. w ++ owed_to x.client n.told) u.owed ∙ e.owed);
            after = after e.sent e.after;
          }
        where
          none : ending_in l (up_all k s).told ≡ None
          none = alive_told l (λ client link y. Unit {0}) s (up_all k s) x
              (up_all_fate l (λ client link y. Unit {0}) k s (λ client link. tt)) (now.is, h.alive)

          after : (ws : List (List ℕ)) → GoesOnWith l x h.client ws (up l (up_all k s).state).state
              ⊎ EndsWith l x h.client ws (up l (up_all k s).state)
              → GoesOnWith l x h.client ws (up l (up_all k s).state).state ⊎ EndsWith l x h.client ws (then_also (up_all k s) (up l))
          after ws (inl goes) = inl goes
          after ws (inr ends) = inr (
            ends.0,
            ending_append l (up_all k s).told (up l (up_all k s).state).told
                ∙ (ap (λ o. option_or o (ending_in l (up l (up_all k s).state).told)) none ∙ ends.1),
            ends.2,
          )

  -- behind its turn
  more_up : (k : ℕ) → suc k ≢ l → UpEffect l x h.client (up_all k s) → UpEffect l x h.client (up_all (suc k) s)
  more_up k other e =
      let m = up_all k s in
      let u = u_up l x.client (suc k) other m.state (up_apart l x.client k s apart) in
      let n = up (suc k) m.state in
      let both = tally_append l x.link m.told n.told (joined e.sent) [] (length e.sent) 0 0 0 e.tally
      (tally_silent l x.link n.told u.silent) in
      record {
        sent = e.sent;
        sends = e.sends;
        tally = record { bytes = both.bytes ∙ append-nil (joined e.sent); count = both.count ∙ omega arith; given = both.given };
        owed = owed_append x.client m.told n.told ∙ (ap (λ w. w ++ owed_to x.client n.told) e.owed ∙ u.owed);
        after = after u e.after;
      }
    where
      after : Untouched l x.client (up_all k s).state (up (suc k) (up_all k s).state)
          → GoesOnWith l x h.client e.sent (up_all k s).state ⊎ EndsWith l x h.client e.sent (up_all k s)
          → GoesOnWith l x h.client e.sent (up_all (suc k) s).state ⊎ EndsWith l x h.client e.sent (up_all (suc k) s)
      after u (inl goes) = inl (
        u.row ∙ goes.0,
        u.client (record h.client { held = drop (total e.sent) h.client.held }) goes.1
            (has_still h.client.about.phase l x.part.remote h.phase),
      )
      after u (inr ends) = inr (
        ends.0,
        ending_append l (up_all k s).told (up (suc k) (up_all k s).state).told
            ∙ ap (λ o. option_or o (ending_in l (up (suc k) (up_all k s).state).told)) ends.1,
        u.row ∙ ends.2,
      )

  pub up_run : (k : ℕ) → (0 < l) × (l ≤ k) → UpEffect l x h.client (up_all k s)
  up_run zero within = absurd (omega (arith, within.0, within.1))
  up_run (suc k) within = go (cases_eq (suc k) l) (λ less. up_run k (within.0, less))
    where
      go : (suc k ≡ l) ⊎ (suc k ≡ l → ⊥) → (l ≤ k → UpEffect l x h.client (up_all k s)) → UpEffect l x h.client (up_all (suc k) s)
      go (inl same) before = turn_up k same
      go (inr other) before = more_up k other (before (omega (arith, within.1, other)))
