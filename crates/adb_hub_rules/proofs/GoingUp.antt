-- What a client holds goes up: the writes, the rows after them, and the end.
use Rattle.std.proofs.Common.{ℕ, ◌+◌, ◌-◌, ◌≡◌, ◌≢◌, List, [], ◌∷◌, Bool, true, false, Option, Some, None, refl, sym, ◌∙◌, ap, subst, cond}
use Rattle.std.proofs.Common.{arith, ◌⊎◌, inl, inr, length, drop}
use Rattle.std.specs.Prelude.{option_map, option_and_then, unwrap_or}
use Rattle.std.proofs.lemmas.Bool.{ne_eqb, eq-eqb, cases_eq}
use Rattle.adb_outside.specs.Tables.{Rows, at, change_row}
use Rattle.adb_client.specs.Client.{SeenClient}
use Rattle.adb_stream.specs.Stream.{with_part}
use Rattle.adb_stream.specs.declared.flow.Flow.{Flow}
use Rattle.adb_stream.specs.declared.row.Stream.{Stream}
use Rattle.adb_history.specs.Rows.{Client, State, to_client, to_stream, with_held, with_stream_part}
use Rattle.adb_history.specs.Events.{Made, quietly, then_also}
use Rattle.adb_history.specs.Links.{maxdata_of}
use Rattle.adb_history.specs.Flow.{payloads, total, with_flow, goes_up, all_go_up, flow_after, noted, is_over, closes_if, sends_up}
use Rattle.adb_history.specs.Flow.{is_streaming, up_client, up_stream, up}
use Rattle.adb_hub_tables.specs.declared.tables.Tables.{Tables}
use Rattle.adb_hub_tables.specs.Tables.{client_row, state_of}
use Rattle.adb_hub_tables.specs.Places.{Uses}
use Rattle.adb_hub_rules.specs.Up.{held_at, unsent, all_unsent, all_written, all_sent, has_open, Sends}
use Rattle.adb_hub_tables.proofs.Using.{uses_then}

-- a row that is put back as it was
pub same_rows : {A : Type 0} (n : ℕ) (f : A → Option A) (rows : Rows (Option A)) → option_and_then f (rows n) ≡ rows n
    → change_row n (option_and_then f) rows ≡ rows
same_rows {A} n f rows same i k = at_place k i
  where
    at_place : (k : ℕ) → change_row n (option_and_then f) rows k ≡ rows k
    at_place k = by_place (cases_eq n k)
      where
        by_place : ◌⊎◌ (n ≡ k) (n ≢ k) → change_row n (option_and_then f) rows k ≡ rows k
        by_place (inl here) = ap (λ b. cond b (option_and_then f (rows k)) (rows k)) (eq-eqb n k here)
            ∙ (ap (λ (q : ℕ). option_and_then f (rows q)) (sym here) ∙ (same ∙ ap rows here))
        by_place (inr other) = ap (λ b. cond b (option_and_then f (rows k)) (rows k)) (ne_eqb n k other)

-- what stands where a row is changed
pub changed_here : {A : Type 0} (n : ℕ) (f : A → Option A) (rows : Rows (Option A))
    → change_row n (option_and_then f) rows n ≡ option_and_then f (rows n)
changed_here n f rows = ap (λ b. cond b (option_and_then f (rows n)) (rows n)) (eq-eqb n n refl)

-- what was held is held
held_again : (row : Option SeenClient) → option_and_then (with_held (drop 0 (held_at row)))
    (option_map client_row row) ≡ option_map client_row row
held_again None = refl
held_again (Some row) = refl

-- a rule that takes no place behind another
pub then_spared : {link a c : ℕ} {old middle new : Tables} → Uses link a c 0 old middle → Uses link 0 c 0 middle new
    → Uses link a c 0 old new
then_spared {link} {a} {c} {old} {middle} {new} h k = subst (λ (n : ℕ). Uses link n c 0 old new) (no_more a) (uses_then h k)
  where
    no_more : (n : ℕ) → n + 0 ≡ n
    no_more n = omega arith

module _ (l : ℕ) (stream : Stream) where
  -- ---- writes change links alone
  pub goes_clients : (ps : List (List ℕ)) (s : State) → (all_go_up l stream ps s).state.clients ≡ s.clients
  goes_clients [] s = refl
  goes_clients (p ∷ ps) s = goes_clients ps (goes_up l stream p s).state

  pub goes_streams : (ps : List (List ℕ)) (s : State) → (all_go_up l stream ps s).state.streams ≡ s.streams
  goes_streams [] s = refl
  goes_streams (p ∷ ps) s = goes_streams ps (goes_up l stream p s).state

  pub goes_devices : (ps : List (List ℕ)) (s : State) → (all_go_up l stream ps s).state.devices ≡ s.devices
  goes_devices [] s = refl
  goes_devices (p ∷ ps) s = goes_devices ps (goes_up l stream p s).state

  goes_behind : (f : Stream → Option Stream) (ps : List (List ℕ)) (s : State)
      → to_stream l f (all_go_up l stream ps s).state ≡ (all_go_up l stream ps (to_stream l f s)).state
  goes_behind f [] s = refl
  goes_behind f (p ∷ ps) s = goes_behind f ps (goes_up l stream p s).state

  -- the flow is noted before the writes, or behind them
  pub noted_is : (ps : List (List ℕ)) (held : List ℕ) (s : State) (flow : Flow) → flow ≡ flow_after ps stream.part.flow
      → to_stream l (with_stream_part (with_flow flow stream.part)) (all_written l stream ps held s)
      ≡ (all_go_up l stream ps (noted l stream held ps s)).state
  noted_is ps held s flow is =
      goes_behind (with_stream_part (with_flow flow stream.part)) ps (to_client stream.client (with_held (drop (total ps) held)) s)
      ∙ ap (λ (flow : Flow). (all_go_up l stream ps (to_client stream.client (with_held (drop (total ps) held))
      (to_stream l (with_stream_part (with_flow flow stream.part)) s))).state) is

  -- ---- all writes were made
  module _ (m : ℕ) (old new : Flow × Tables) (h : Sends l stream m old new) (all : unsent stream m new ≡ []) where
    pub sent_all : state_of new.1 ≡ all_sent l stream m old
    sent_all =
        let held = held_at (at stream.client new.1.clients.entries) in
        sym (ap (λ (rows : Rows (Option Client)). record (state_of new.1) { clients = rows })
        (same_rows stream.client (with_held (drop 0 held)) (state_of new.1).clients (held_again (at stream.client new.1.clients.entries))))
        ∙ (ap (λ payloads. all_written l stream payloads held (state_of new.1)) (sym all) ∙ h.state)

    pub flow_all : new.0 ≡ flow_after (unsent stream m old) old.0
    flow_all = ap (λ payloads. flow_after payloads new.0) (sym all) ∙ h.flow

    pub uses_all : (c : ℕ) → Uses stream.link (length (unsent stream m old)) c 0 old.1 new.1
    uses_all c =
        subst (λ (n : ℕ). Uses stream.link n c 0 old.1 new.1)
        (none_left (length (unsent stream m old)) (length (unsent stream m new)) (ap length all))
        (h.uses c)
      where
        none_left : (x y : ℕ) → y ≡ 0 → x - y ≡ x
        none_left x y none = omega (arith, none)

  -- ---- the rows after the writes
  module _ (ps : List (List ℕ)) (held : List ℕ) (s : State) where
    abbrev sent : State
    sent = (all_go_up l stream ps (noted l stream held ps s)).state

    pub stream_then : s.streams l ≡ Some stream → sent.streams l
        ≡ Some (with_part (with_flow (flow_after ps stream.part.flow) stream.part) stream)
    stream_then here =
        ap (λ (rows : Rows (Option Stream)). rows l) (goes_streams ps (noted l stream held ps s))
        ∙ (changed_here l (with_stream_part (with_flow (flow_after ps stream.part.flow) stream.part)) s.streams
        ∙ ap (option_and_then (with_stream_part (with_flow (flow_after ps stream.part.flow) stream.part))) here)

    pub client_then : sent.clients stream.client ≡ option_and_then (with_held (drop (total ps) held)) (s.clients stream.client)
    client_then =
        ap (λ (rows : Rows (Option Client)). rows stream.client) (goes_clients ps (noted l stream held ps s))
        ∙ changed_here stream.client (with_held (drop (total ps) held)) s.clients

  -- and the end
  pub close_then : (ps : List (List ℕ)) (client row : Client) (s middle : State) → s.streams l ≡ Some stream
      → (middle ≡ (all_go_up l stream ps (noted l stream client.held ps s)).state)
      × (row ≡ record client { held = drop (total ps) client.held })
      → (let after = with_part (with_flow (flow_after ps stream.part.flow) stream.part) stream in
      then_also (all_go_up l stream ps (noted l stream client.held ps s))
      (λ _. closes_if (is_over row.about.ended row.held after.part.flow) l (Some after) middle))
      ≡ sends_up l stream client ps s
  close_then ps client row s middle here (is, same) =
      ap (λ (s : State). written_then (closes_if (is_over row.about.ended row.held after.part.flow) l (Some after) s)) is
      ∙ (ap (λ (row : Client). written_then
      (closes_if (is_over row.about.ended row.held after.part.flow) l (Some after) written.state)) same
      ∙ ap (λ (then : Option Stream). written_then
      (closes_if (is_over client.about.ended (drop (total ps) client.held) after.part.flow) l then
      written.state))
      (sym (stream_then ps client.held s here)))
    where
      after : Stream
      after = with_part (with_flow (flow_after ps stream.part.flow) stream.part) stream

      written : Made
      written = all_go_up l stream ps (noted l stream client.held ps s)

      written_then : Made → Made
      written_then last = then_also written (λ _. last)

  -- the rule of an open stream
  pub open_up : (client : Client) (s : State) → s.streams l ≡ Some stream → s.clients stream.client ≡ Some client
      → is_streaming l client.about.phase ≡ true
      → sends_up l stream client (payloads stream.part.flow (maxdata_of stream.link s.devices) client.held) s ≡ up l s
  open_up client s here owner streaming =
      ap (λ b. cond b (sends_up l stream client (payloads stream.part.flow (maxdata_of stream.link s.devices) client.held) s) (quietly s))
      (sym streaming)
      ∙ (ap (λ (row : Option Client). up_client l stream row s) (sym owner)
      ∙ ap (λ (row : Option Stream). up_stream l row s) (sym here))

-- ---- rows that are shown
-- A row shows another.
pub record Shows (row : Option SeenClient) (client : Client) : Type 0 where
  pub seen : SeenClient
  pub is : row ≡ Some seen
  pub same : client_row seen ≡ client

abbrev Stands : {A : Type 0} → Option A → Type 0
Stands None = ⊥
Stands (Some row) = Unit {0}

pub shown : (row : Option SeenClient) (client : Client) → option_map client_row row ≡ Some client → Shows row client
shown None client is = absurd (subst (Stands {A = Client}) (sym is) tt)
shown (Some seen) client is = record { seen = seen; is = refl; same = ap (λ (row : Option Client). unwrap_or row client) is }

-- A client has a stream open.
pub record Opens (l : ℕ) (row : Option SeenClient) : Type 0 where
  pub seen : SeenClient
  pub is : row ≡ Some seen
  pub streams : is_streaming l seen.about.phase ≡ true

abbrev pub IsNot : Bool → Type 0
IsNot true = ⊥
IsNot false = Unit {0}

pub opens : (l : ℕ) (row : Option SeenClient) → has_open l row ≡ true → Opens l row
opens l None is = absurd (subst IsNot is tt)
opens l (Some seen) is = record { seen = seen; is = refl; streams = is }

-- ---- the tables after the writes
-- the client of a row that is shown has a stream open
abbrev pub open_in : ℕ → Option Client → Bool
open_in l None = false
open_in l (Some client) = is_streaming l client.about.phase

pub open_shown : (l : ℕ) (row : Option SeenClient) → has_open l row ≡ open_in l (option_map client_row row)
open_shown l None = refl
open_shown l (Some seen) = refl

pub held_open : (l : ℕ) (held : List ℕ) (row : Option Client) → open_in l (option_and_then (with_held held) row) ≡ open_in l row
held_open l held None = refl
held_open l held (Some row) = refl

module _ (l : ℕ) (stream : Stream) (old middle : Tables)
    (state : state_of middle ≡ (all_go_up l stream (all_unsent stream old)
    (noted l stream (held_at (at stream.client old.clients.entries)) (all_unsent stream old) (state_of old))).state) where
  abbrev held : List ℕ
  held = held_at (at stream.client old.clients.entries)

  abbrev then_flow : Flow → Stream
  then_flow flow = with_part (with_flow flow stream.part) stream

  -- what is left of a client's row
  abbrev left_of : SeenClient → Client
  left_of seen = record (client_row seen) { held = drop (total (all_unsent stream old)) seen.held }

  pub middle_stream : (flow : Flow) → flow ≡ flow_after (all_unsent stream old) stream.part.flow → at l old.streams.streams ≡ Some stream
      → at l middle.streams.streams ≡ Some (then_flow flow)
  middle_stream flow is here =
      ap (λ (s : State). s.streams l) state
      ∙ (stream_then l stream (all_unsent stream old) held (state_of old) here ∙ ap (λ (flow : Flow). Some (then_flow flow)) (sym is))

  pub middle_client : option_map client_row (at stream.client middle.clients.entries)
      ≡ option_and_then (with_held (drop (total (all_unsent stream old)) held))
      (option_map client_row (at stream.client old.clients.entries))
  middle_client = ap (λ (s : State). s.clients stream.client) state ∙ client_then l stream (all_unsent stream old) held (state_of old)

  pub middle_open : has_open l (at stream.client old.clients.entries) ≡ true → has_open l (at stream.client middle.clients.entries) ≡ true
  middle_open is = open_shown l (at stream.client middle.clients.entries)
      ∙ (ap (open_in l) middle_client
      ∙ (held_open l (drop (total (all_unsent stream old)) held) (option_map client_row (at stream.client old.clients.entries))
      ∙ (sym (open_shown l (at stream.client old.clients.entries)) ∙ is)))

  -- what holds of the writes and the end behind them holds of the rule
  pub sent_up : (seen : SeenClient) (flow : Flow) (P : Made → Type 0) → at l old.streams.streams ≡ Some stream
      → (at stream.client old.clients.entries ≡ Some seen) × (flow ≡ flow_after (all_unsent stream old) stream.part.flow)
      → ((row : SeenClient) → at stream.client middle.clients.entries ≡ Some row
      → P (then_also (all_go_up l stream (all_unsent stream old) (noted l stream seen.held (all_unsent stream old) (state_of old)))
      (λ _. closes_if (is_over row.about.ended row.held flow) l (Some (then_flow flow)) (state_of middle))))
      → P (sends_up l stream (client_row seen) (all_unsent stream old) (state_of old))
  sent_up seen flow P here (owner, is) closes =
      at_row (shown (at stream.client middle.clients.entries) (left_of seen) (middle_client ∙ is_row))
    where
      is_row : option_and_then (with_held (drop (total (all_unsent stream old)) held))
          (option_map client_row (at stream.client old.clients.entries))
          ≡ Some (left_of seen)
      is_row =
          ap (λ (row : Option SeenClient). option_and_then
          (with_held (drop (total (all_unsent stream old)) (held_at row))) (option_map client_row row))
          owner

      written : Made
      written = all_go_up l stream (all_unsent stream old) (noted l stream seen.held (all_unsent stream old) (state_of old))

      state_is : state_of middle ≡ written.state
      state_is = state ∙ ap (λ (row : Option SeenClient). (all_go_up l stream (all_unsent stream old)
          (noted l stream (held_at row) (all_unsent stream old) (state_of old))).state) owner

      at_row : Shows (at stream.client middle.clients.entries) (left_of seen)
          → P (sends_up l stream (client_row seen) (all_unsent stream old) (state_of old))
      at_row shows =
          let row = shows.seen in
          subst P
          (ap (λ (flow : Flow). then_also written
          (λ _. closes_if (is_over row.about.ended row.held flow) l (Some (then_flow flow))
          (state_of middle))) is
          ∙ close_then l stream (all_unsent stream old) (client_row seen) (client_row row) (state_of old)
          (state_of middle) here (state_is, shows.same))
          (closes row shows.is)

-- the rule for a stream that its client has open
pub up_is : (l : ℕ) (stream : Stream) (old : Tables) → at l old.streams.streams ≡ Some stream
    → (row : Opens l (at stream.client old.clients.entries))
    → sends_up l stream (client_row row.seen) (all_unsent stream old) (state_of old) ≡ up l (state_of old)
up_is l stream old here row =
    let payloads_of = λ (seen : Option SeenClient). payloads stream.part.flow (maxdata_of stream.link old.devices) (held_at seen) in
    ap (λ (seen : Option SeenClient). sends_up l stream (client_row row.seen) (payloads_of seen) (state_of old)) row.is
    ∙ open_up l stream (client_row row.seen) (state_of old) here (ap (option_map client_row) row.is) row.streams
