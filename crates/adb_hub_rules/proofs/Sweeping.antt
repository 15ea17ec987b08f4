-- What the up rule for one stream leaves of what it needs for another.
use Rattle.std.proofs.Common.{ℕ, ◌≡◌, ◌≢◌, ◌≤◌, List, [], ◌∷◌, Bool, true, false, Option, Some, None, refl, sym, ◌∙◌, ap, subst, cond}
use Rattle.std.proofs.Common.{arith, ◌⊎◌, inl, inr, length, drop}
use Rattle.std.specs.Prelude.{option_map, option_and_then}
use Rattle.std.proofs.lemmas.Bool.{ne_eqb, eq-eqb, cases_eq}
use Rattle.std.proofs.lemmas.Bool.Decides.{nat_tests}
use Rattle.adb_outside.specs.Tables.{Rows, at}
use Rattle.adb_client.specs.Client.{SeenClient}
use Rattle.adb_client.specs.declared.phase.Phase.{Phase}
use Rattle.adb_client.specs.declared.phase.Phase.TheVariants.{Asking, Opening, Streaming, Binding, Tracking, Closing, Gone}
use Rattle.adb_stream.specs.Stream.{with_part}
use Rattle.adb_stream.specs.declared.flow.Flow.{Flow}
use Rattle.adb_stream.specs.declared.row.Stream.{Stream}
use Rattle.adb_history.specs.Rows.{Client, State, to_stream, none_kept, with_held, with_stream_part}
use Rattle.adb_history.specs.declared.ending.Ending.{Ending}
use Rattle.adb_history.specs.declared.ending.Ending.TheVariants.{ClientClosed}
use Rattle.adb_history.specs.Links.{maxdata_of, close_packet, owe_link}
use Rattle.adb_history.specs.Clients.{closing, closing_with, closes}
use Rattle.adb_history.specs.Streams.{loses, client_loses, ends_telling}
use Rattle.adb_history.specs.Flow.{payloads, total, with_flow, all_go_up, flow_after, noted, is_over, closes_if, sends_up, is_streaming}
use Rattle.adb_hub_tables.specs.declared.tables.Tables.{Tables}
use Rattle.adb_hub_tables.specs.Tables.{client_row, state_of}
use Rattle.adb_hub_rules.specs.Handing.{HasRoom}
use Rattle.adb_hub_rules.specs.Up.{IsCutFor, IsCutOf, writes_for, writes_of, writes_up, held_at, all_unsent, CanCutAll, is_for, has_stream}
use Rattle.adb_hub_rules.specs.Up.{has_open, StaysReady, IsReadyUp, IsReadyToSend}
use Rattle.adb_hub_tables.specs.Ready.{IsCut, up_writes}
use Rattle.adb_hub_tables.proofs.Closings.{telling_is}
use Rattle.adb_hub_tables.proofs.Using.{more_room}
use Rattle.adb_hub_rules.proofs.WritesUp.{few_writes, few_bytes}
use Rattle.adb_hub_rules.proofs.GoingUp.{IsNot, Opens, changed_here, goes_clients, goes_streams, goes_devices, stream_then, client_then}

-- ---- what is ready
streams_it : (l : ℕ) (phase : Phase) → is_streaming l phase ≡ true → phase ≡ Streaming l
streams_it l Asking is = absurd (subst IsNot is tt)
streams_it l (Opening k) is = absurd (subst IsNot is tt)
streams_it l (Streaming k) is = ap Streaming (grind (arith, nat_tests, is))
streams_it l Binding is = absurd (subst IsNot is tt)
streams_it l Tracking is = absurd (subst IsNot is tt)
streams_it l Closing is = absurd (subst IsNot is tt)
streams_it l Gone is = absurd (subst IsNot is tt)

pub for_it : (l : ℕ) (phase : Phase) → is_streaming l phase ≡ true → is_for l phase ≡ true
for_it l phase is = ap (is_for l) (streams_it l phase is) ∙ eq-eqb l l refl

enough_cut : (flow : Flow) (m : ℕ) (seen : SeenClient) → IsCut flow 0 m seen → CanCutAll (payloads flow m seen.held) (Some seen)
enough_cut flow m seen cut = (omega (arith, few_bytes flow m seen.held, cut.bytes), omega (arith, few_writes flow m seen.held, cut.pieces))

can_all : (l : ℕ) (flow : Flow) (m : ℕ) (row : Option SeenClient) → has_open l row ≡ true → IsCutFor l flow m row
    → CanCutAll (payloads flow m (held_at row)) row
can_all l flow m None is cut = tt
can_all l flow m (Some seen) is cut = enough_cut flow m seen (cut (for_it l seen.about.phase is))

few_for : (l : ℕ) (flow : Flow) (m : ℕ) (row : Option SeenClient) → has_open l row ≡ true
    → length (payloads flow m (held_at row)) ≤ writes_for l flow m row
few_for l flow m None is = absurd (subst IsNot is tt)
few_for l flow m (Some seen) is =
    let writes : writes_for l flow m (Some seen) ≡ up_writes flow 0 m (length seen.held) =
    ap (λ b. cond b (up_writes flow 0 m (length seen.held)) 0) (for_it l seen.about.phase is) in
    omega (arith, writes, few_writes flow m seen.held)

module _ (l : ℕ) (stream : Stream) (t : Tables) (here : at l t.streams.streams ≡ Some stream)
    (open_here : has_open l (at stream.client t.clients.entries) ≡ true) where
  pub fewer_writes : length (all_unsent stream t) ≤ writes_of l (Some stream) t
  fewer_writes = few_for l stream.part.flow (maxdata_of stream.link t.devices) (at stream.client t.clients.entries) open_here

  -- what the rule needs its writes need
  pub ready_to_send : IsReadyUp l t → IsReadyToSend stream t
  ready_to_send ready = record {
    cut = can_all l stream.part.flow (maxdata_of stream.link t.devices) (at stream.client t.clients.entries) open_here
        (subst (λ row. IsCutOf l row t) here ready.cut);
    room = more_room (writes_of l (Some stream) t) _ (at stream.link t.links.entries) fewer_writes
        (subst (λ row. HasRoom (writes_of l row t) row t) here ready.room);
  }

-- ---- another stream
-- whether the client of a row that is shown has a stream
abbrev pub stream_of_row : ℕ → Option Client → Bool
stream_of_row l None = false
stream_of_row l (Some client) = is_for l client.about.phase

stream_shown : (l : ℕ) (row : Option SeenClient) → has_stream l row ≡ stream_of_row l (option_map client_row row)
stream_shown l None = refl
stream_shown l (Some seen) = refl

stream_stays : (l : ℕ) (held : List ℕ) (row : Option Client) → stream_of_row l (option_and_then (with_held held) row) ≡ stream_of_row l row
stream_stays l held None = refl
stream_stays l held (Some row) = refl

-- What a rule that concerns the stream of a client leaves of another stream.
pub record LeavesBe (l client : ℕ) (old new : Tables) : Type 0 where
  pub stream : at l new.streams.streams ≡ at l old.streams.streams
  pub devices : new.devices ≡ old.devices
  pub others : (c : ℕ) → c ≢ client → at c new.clients.entries ≡ at c old.clients.entries
  pub before : has_stream l (at client old.clients.entries) ≡ false
  pub behind : has_stream l (at client new.clients.entries) ≡ false

cut_closed : (l : ℕ) (flow : Flow) (m : ℕ) (row : Option SeenClient) → has_stream l row ≡ false → IsCutFor l flow m row
cut_closed l flow m None is = tt
cut_closed l flow m (Some seen) is = λ here. absurd (subst IsNot (sym is ∙ here) tt)

no_writes : (l : ℕ) (flow : Flow) (m : ℕ) (row : Option SeenClient) → has_stream l row ≡ false → writes_for l flow m row ≡ 0
no_writes l flow m None is = refl
no_writes l flow m (Some seen) is = ap (λ b. cond b (up_writes flow 0 m (length seen.held)) 0) is

pub stays_ready : (l client : ℕ) (old new : Tables) → LeavesBe l client old new → StaysReady l old new
stays_ready l client old new h = record {
  cut = λ cut. subst (λ row. IsCutOf l row new) (sym h.stream) (cut_of (at l old.streams.streams) cut);
  writes = subst (λ row. writes_of l row new ≤ writes_up l old) (sym h.stream) (writes (at l old.streams.streams));
}
  where
    maxdata : (stream : Stream) → maxdata_of stream.link new.devices ≡ maxdata_of stream.link old.devices
    maxdata stream = ap (maxdata_of stream.link) h.devices

    cut_of : (row : Option Stream) → IsCutOf l row old → IsCutOf l row new
    cut_of None cut = tt
    cut_of (Some stream) cut = by_client (cases_eq stream.client client)
      where
        by_client : ◌⊎◌ (stream.client ≡ client) (stream.client ≢ client)
            → IsCutFor l stream.part.flow (maxdata_of stream.link new.devices) (at stream.client new.clients.entries)
        by_client (inl is) = cut_closed l stream.part.flow (maxdata_of stream.link new.devices) (at stream.client new.clients.entries)
            (ap (λ (c : ℕ). has_stream l (at c new.clients.entries)) is ∙ h.behind)
        by_client (inr other) =
            subst (λ (m : ℕ). IsCutFor l stream.part.flow m (at stream.client new.clients.entries)) (sym (maxdata stream))
            (subst (IsCutFor l stream.part.flow (maxdata_of stream.link old.devices)) (sym (h.others stream.client other)) cut)

    writes : (row : Option Stream) → writes_of l row new ≤ writes_of l row old
    writes None = omega arith
    writes (Some stream) = by_client (cases_eq stream.client client)
      where
        by_client : ◌⊎◌ (stream.client ≡ client) (stream.client ≢ client) → writes_of l (Some stream) new ≤ writes_of l (Some stream) old
        by_client (inl is) =
            let none : writes_of l (Some stream) new ≡ 0 =
            no_writes l stream.part.flow (maxdata_of stream.link new.devices) (at stream.client new.clients.entries)
            (ap (λ (c : ℕ). has_stream l (at c new.clients.entries)) is ∙ h.behind) in
            omega (arith, none)
        by_client (inr other) =
            let same : writes_of l (Some stream) new ≡ writes_of l (Some stream) old =
            ap (λ (m : ℕ). writes_for l stream.part.flow m (at stream.client new.clients.entries)) (maxdata stream)
            ∙ ap (writes_for l stream.part.flow (maxdata_of stream.link old.devices)) (h.others stream.client other) in
            omega (arith, same)

-- ---- and what the rule leaves
-- What a rule for the stream of an id and its client leaves of the states.
pub record KeepsBeside (id client : ℕ) (old new : State) : Type 0 where
  pub clients : (c : ℕ) → c ≢ client → new.clients c ≡ old.clients c
  pub streams : (l : ℕ) → l ≢ id → new.streams l ≡ old.streams l
  pub devices : new.devices ≡ old.devices
  pub closed : (l : ℕ) → l ≢ id → stream_of_row l (new.clients client) ≡ false

other_stream : (l id : ℕ) (phase : Phase) → l ≢ id → is_streaming id phase ≡ true → is_for l phase ≡ false
other_stream l id phase other is = ap (is_for l) (streams_it id phase is) ∙ ne_eqb id l (λ e. other (sym e))

closed_now : (l : ℕ) (row : Option Client) → stream_of_row l (option_and_then closing row) ≡ false
closed_now l None = refl
closed_now l (Some row) = by_due row.due
  where
    by_due : (due : List ℕ) → stream_of_row l (closing_with due row) ≡ false
    by_due [] = refl
    by_due (b ∷ due) = refl

-- a client with an open stream is closing when that ends
loses_is : (id c : ℕ) (row : Client) (s : State) → is_streaming id row.about.phase ≡ true → (client_loses (Some row) c s).state ≡ closes c s
loses_is id c row s is = ap (λ phase. (loses row.about.forwarded phase c s).state) (streams_it id row.about.phase is)
    ∙ by_way row.about.forwarded
  where
    by_way : (forwarded : Bool) → (loses forwarded (Streaming id) c s).state ≡ closes c s
    by_way true = refl
    by_way false = refl

module _ (id : ℕ) (stream : Stream) (client : Client) (s : State) (streaming : is_streaming id client.about.phase ≡ true) where
  ends_beside : (ending : Ending) → s.clients stream.client ≡ Some client
      → KeepsBeside id stream.client s (ends_telling id ending stream s).state
  ends_beside ending owner = record {
    clients = λ c other. ap (λ (s : State). s.clients c) is
        ∙ ap (λ b. cond b (option_and_then closing (s.clients c)) (s.clients c)) (ne_eqb stream.client c (λ e. other (sym e)));
    streams = λ l other. ap (λ (s : State). s.streams l) is
        ∙ ap (λ b. cond b (option_and_then (none_kept {A = Stream}) (s.streams l)) (s.streams l)) (ne_eqb id l (λ e. other (sym e)));
    devices = ap (λ (s : State). s.devices) is;
    closed = λ l other. ap (λ (s : State). stream_of_row l (s.clients stream.client)) is
        ∙ (ap (stream_of_row l) (changed_here stream.client closing s.clients) ∙ closed_now l (s.clients stream.client));
  }
    where
      told : State
      told = (owe_link stream.link (close_packet id stream.part.remote) (to_stream id none_kept s)).state

      is : (ends_telling id ending stream s).state ≡ closes stream.client told
      is = sym (telling_is id ending stream s)
          ∙ (ap (λ (row : Option Client). (client_loses row stream.client told).state) owner
          ∙ loses_is id stream.client client told streaming)

beside_then : {id client : ℕ} {first second third : State} → KeepsBeside id client first second → KeepsBeside id client second third
    → KeepsBeside id client first third
beside_then h k = record {
  clients = λ c other. k.clients c other ∙ h.clients c other;
  streams = λ l other. k.streams l other ∙ h.streams l other;
  devices = k.devices ∙ h.devices;
  closed = k.closed;
}

module _ (id : ℕ) (stream : Stream) (client : Client) (s : State) (streaming : is_streaming id client.about.phase ≡ true)
    (here : s.streams id ≡ Some stream) (owner : s.clients stream.client ≡ Some client) (ps : List (List ℕ)) where
  abbrev sent : State
  sent = (all_go_up id stream ps (noted id stream client.held ps s)).state

  sent_beside : KeepsBeside id stream.client s sent
  sent_beside = record {
    clients = λ c other. ap (λ (rows : Rows (Option Client)). rows c) (goes_clients id stream ps (noted id stream client.held ps s))
        ∙ ap (λ b. cond b (option_and_then (with_held (drop (total ps) client.held)) (s.clients c)) (s.clients c))
        (ne_eqb stream.client c (λ e. other (sym e)));
    streams = λ l other. ap (λ (rows : Rows (Option Stream)). rows l) (goes_streams id stream ps (noted id stream client.held ps s))
        ∙ ap (λ b. cond b
        (option_and_then (with_stream_part (with_flow (flow_after ps stream.part.flow) stream.part))
        (s.streams l)) (s.streams l))
        (ne_eqb id l (λ e. other (sym e)));
    devices = goes_devices id stream ps (noted id stream client.held ps s);
    closed = λ l other. ap (stream_of_row l) (client_then id stream ps client.held s)
        ∙ (stream_stays l (drop (total ps) client.held) (s.clients stream.client)
        ∙ (ap (stream_of_row l) owner ∙ other_stream l id client.about.phase other streaming));
  }

  pub sends_beside : KeepsBeside id stream.client s (sends_up id stream client ps s).state
  sends_beside = subst (λ (row : Option Stream). KeepsBeside id stream.client s
      (closes_if (is_over client.about.ended (drop (total ps) client.held) (flow_after ps stream.part.flow)) id row sent).state)
      (sym (stream_then id stream ps client.held s here))
      (by_end (is_over client.about.ended (drop (total ps) client.held) (flow_after ps stream.part.flow)))
    where
      by_end : (b : Bool) → KeepsBeside id stream.client s
          (closes_if b id (Some (with_part (with_flow (flow_after ps stream.part.flow) stream.part) stream)) sent).state
      by_end false = sent_beside
      by_end true = beside_then sent_beside (ends_beside id (with_part (with_flow (flow_after ps stream.part.flow) stream.part) stream)
          (record client { held = drop (total ps) client.held }) sent streaming ClientClosed
          (client_then id stream ps client.held s ∙ ap (option_and_then (with_held (drop (total ps) client.held))) owner))

module _ (id : ℕ) (stream : Stream) (old new : Tables) (here : at id old.streams.streams ≡ Some stream)
    (row : Opens id (at stream.client old.clients.entries))
    (others : (c : ℕ) → c ≢ stream.client → at c new.clients.entries ≡ at c old.clients.entries) where
  beside : (ps : List (List ℕ)) → state_of new ≡ (sends_up id stream (client_row row.seen) ps (state_of old)).state
      → KeepsBeside id stream.client (state_of old) (state_of new)
  beside ps is = subst (KeepsBeside id stream.client (state_of old)) (sym is)
      (sends_beside id stream (client_row row.seen) (state_of old) row.streams here (ap (option_map client_row) row.is) ps)

  pub same_devices : (ps : List (List ℕ))
      → state_of new ≡ (sends_up id stream (client_row row.seen) ps (state_of old)).state → new.devices ≡ old.devices
  same_devices ps is = (beside ps is).devices

  pub leaves_be : (ps : List (List ℕ)) → state_of new ≡ (sends_up id stream (client_row row.seen) ps (state_of old)).state
      → (l : ℕ) → l ≢ id → StaysReady l old new
  leaves_be ps is l other = stays_ready l stream.client old new (record {
    stream = (beside ps is).streams l other;
    devices = (beside ps is).devices;
    others = others;
    before = ap (has_stream l) row.is ∙ other_stream l id row.seen.about.phase other row.streams;
    behind = stream_shown l (at stream.client new.clients.entries) ∙ (beside ps is).closed l other;
  })
