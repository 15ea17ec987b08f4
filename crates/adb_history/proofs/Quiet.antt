-- At rest no stream may send, and the up rule changes nothing.
use Rattle.std.proofs.Common.{◌≡◌, ◌≢◌, ℕ, ◌<◌, ◌≤◌, zero, suc, Bool, true, false, cond, List, [], ◌∷◌, ◌++◌, drop, Option, Some, None}
use Rattle.std.proofs.Common.{refl, sym, ap}
use Rattle.std.proofs.Common.{subst, ◌∙◌, arith, ◌⊎◌, inl, inr, eqb}
use Rattle.std.specs.Prelude.{option_and_then}
use Rattle.std.proofs.lemmas.Bool.{eqb-true, cases_eq}
use Rattle.adb_outside.specs.Tables.{Rows, change_row}
use Rattle.adb_registry.specs.Registry.{DeviceTable}
use Rattle.adb_stream.specs.declared.row.Part.{Part}
use Rattle.adb_stream.specs.declared.row.Stream.{Stream}
use Rattle.adb_client.specs.declared.phase.Phase.{Phase}
use Rattle.adb_client.specs.declared.phase.Phase.TheVariants.{Streaming, Closing}
use Rattle.adb_history.specs.Rows.{Client, Link, State, to_stream, none_kept, with_held, with_stream_part}
use Rattle.adb_history.specs.Events.{Made, quietly, then_also}
use Rattle.adb_history.specs.Links.{maxdata_of}
use Rattle.adb_history.specs.Clients.{closing, closing_with, closes}
use Rattle.adb_history.specs.Flow.{payloads, total, flow_after, with_flow, noted, is_over, closes_if, sends_up, is_streaming, up_client}
use Rattle.adb_history.specs.Flow.{up_stream, up, up_all}
use Rattle.adb_history.proofs.Following.{changed_here, changed_other}
use Rattle.adb_history.proofs.Writes.{payloads_done}
use Rattle.adb_history.proofs.Sweep.{Sending, sent, left, over, up_to}

-- a stream may send nothing, and is not over
pub record IsCalm (devices : DeviceTable) (client : Client) (stream : Stream) : Type 0 where
  pub nothing : payloads stream.part.flow (maxdata_of stream.link devices) client.held ≡ []
  pub goes_on : is_over client.about.ended client.held stream.part.flow ≡ false

-- of the stream of a number
pub record IsCalmAt (l : ℕ) (s : State) : Type 0 where
  pub calm : (x : Sending l s) → IsCalm s.devices x.client x.stream

-- ---- after the up rule for a stream it is calm
module _ (l : ℕ) (s : State) where
  sends_calm : (x : Sending l s) (links : Rows (Option Link)) → over l s x ≡ false → IsCalmAt l (record (left l s x) { links = links })
  sends_calm x links e = record { calm = calm }
    where
      part : Part
      part = with_flow (flow_after (sent l s x) x.stream.part.flow) x.stream.part

      stream : Stream
      stream = record x.stream { part = part }

      client : Client
      client = record x.client { held = drop (total (sent l s x)) x.client.held }

      there : (left l s x).streams l ≡ Some stream
      there = changed_here l (with_stream_part part) s.streams x.stream x.there

      here : (left l s x).clients x.stream.client ≡ Some client
      here = changed_here x.stream.client (with_held (drop (total (sent l s x)) x.client.held)) s.clients x.client x.here

      done : IsCalm s.devices client stream
      done = record { nothing = payloads_done x.stream.part.flow (maxdata_of x.stream.link s.devices) x.client.held; goes_on = e }

      calm : (y : Sending l (record (left l s x) { links = links })) → IsCalm s.devices y.client y.stream
      calm y =
          let same : stream ≡ y.stream = (let both : Some stream ≡ Some y.stream = sym there ∙ y.there in cc) in
          let row : client ≡ y.client =
          (let both : Some client ≡ Some y.client = sym here ∙ (ap (λ (z : Stream). (left l s x).clients z.client) same ∙ y.here) in cc) in
          subst (λ (z : Client). IsCalm s.devices z y.stream) row (subst (λ (z : Stream). IsCalm s.devices client z) same done)

  ends_calm : (x : Sending l s) (links : Rows (Option Link))
      → IsCalmAt l (record (closes x.stream.client (to_stream l none_kept (left l s x))) { links = links })
  ends_calm x links = record { calm = λ y. absurd (none y) }
    where
      part : Part
      part = with_flow (flow_after (sent l s x) x.stream.part.flow) x.stream.part

      there : (left l s x).streams l ≡ Some (record x.stream { part = part })
      there = changed_here l (with_stream_part part) s.streams x.stream x.there

      gone : (to_stream l none_kept (left l s x)).streams l ≡ None
      gone = changed_here l none_kept (left l s x).streams (record x.stream { part = part }) there

      none : (y : Sending l (record (closes x.stream.client (to_stream l none_kept (left l s x))) { links = links })) → ⊥
      none y = let clash : None ≡ Some y.stream = sym gone ∙ y.there in cc

  pub up_calms : IsCalmAt l (up l s).state
  up_calms = up_to (IsCalmAt l) l s (record {
    stays = λ idle. record { calm = λ x. absurd (idle x) };
    sends = λ x links e. sends_calm x links e;
    ends = λ x links e. ends_calm x links;
  })

-- ---- and each other stays so
pub other_phase : (l m : ℕ) (phase : Phase) → l ≢ m → is_streaming l phase ≡ true → is_streaming m phase ≡ true → ⊥
other_phase l m (Streaming k) apart e f = apart (sym (eqb-true k l e) ∙ eqb-true k m f)
other_phase l m _ apart e f = let clash : false ≡ true = e in cc

pub closing_idle : (due : List ℕ) (x y : Client) (m : ℕ) → closing_with due x ≡ Some y → is_streaming m y.about.phase ≡ true → ⊥
closing_idle [] x y m e f = let clash : None ≡ Some y = e in cc
closing_idle (b ∷ due) x y m e f =
    let z : Client = record x { about = record x.about { phase = Closing; mark = false; want = None }; held = []; due = b ∷ due } in
    let same : z ≡ y = cc in
    let clash : false ≡ true = ap (λ (k : Client). is_streaming m k.about.phase) same ∙ f in
    cc

module _ (l m : ℕ) (s : State) (apart : l ≢ m) (h : IsCalmAt m s) where
  sends_other : (x : Sending l s) (links : Rows (Option Link)) → IsCalmAt m (record (left l s x) { links = links })
  sends_other x links = record { calm = λ y. go y (cases_eq x.stream.client y.stream.client) }
    where
      part : Part
      part = with_flow (flow_after (sent l s x) x.stream.part.flow) x.stream.part

      held : List ℕ
      held = drop (total (sent l s x)) x.client.held

      here : (left l s x).clients x.stream.client ≡ Some (record x.client { held = drop (total (sent l s x)) x.client.held })
      here = changed_here x.stream.client (with_held (drop (total (sent l s x)) x.client.held)) s.clients x.client x.here

      go : (y : Sending m (record (left l s x) { links = links }))
          → (x.stream.client ≡ y.stream.client) ⊎ (x.stream.client ≡ y.stream.client → ⊥)
          → IsCalm s.devices y.client y.stream
      go y (inl same) =
          let row : record x.client { held = drop (total (sent l s x)) x.client.held } ≡ y.client =
          (let both : Some (record x.client { held = drop (total (sent l s x)) x.client.held }) ≡ Some y.client = sym here ∙
          (ap (left l s x).clients same ∙ y.here) in cc) in
          absurd (other_phase l m x.client.about.phase apart x.streaming
          (ap (λ (k : Client). is_streaming m k.about.phase) row ∙ y.streaming))
      go y (inr other) = h.calm (record {
        stream = y.stream;
        client = y.client;
        there = sym (changed_other l m (with_stream_part part) s.streams apart) ∙ y.there;
        here = sym (changed_other x.stream.client y.stream.client (with_held held) s.clients other) ∙ y.here;
        streaming = y.streaming;
      })

  ends_other : (x : Sending l s) (links : Rows (Option Link))
      → IsCalmAt m (record (closes x.stream.client (to_stream l none_kept (left l s x))) { links = links })
  ends_other x links = record { calm = λ y. go y (cases_eq x.stream.client y.stream.client) }
    where
      part : Part
      part = with_flow (flow_after (sent l s x) x.stream.part.flow) x.stream.part

      held : List ℕ
      held = drop (total (sent l s x)) x.client.held

      client : Client
      client = record x.client { held = drop (total (sent l s x)) x.client.held }

      here : (left l s x).clients x.stream.client ≡ Some client
      here = changed_here x.stream.client (with_held (drop (total (sent l s x)) x.client.held)) s.clients x.client x.here

      closed : (closes x.stream.client (to_stream l none_kept (left l s x))).clients x.stream.client ≡ closing client
      closed = changed_here x.stream.client closing (left l s x).clients client here

      go : (y : Sending m (record (closes x.stream.client (to_stream l none_kept (left l s x))) { links = links }))
          → (x.stream.client ≡ y.stream.client) ⊎ (x.stream.client ≡ y.stream.client → ⊥) → IsCalm s.devices y.client y.stream
      go y (inl same) =
          absurd (closing_idle client.due client y.client m
          (sym closed ∙ (ap (closes x.stream.client (to_stream l none_kept (left l s x))).clients same ∙ y.here)) y.streaming)
      go y (inr other) = h.calm (record {
        stream = y.stream;
        client = y.client;
        there = sym (changed_other l m (with_stream_part part) s.streams apart)
            ∙ (sym (changed_other l m none_kept (left l s x).streams apart) ∙ y.there);
        here = sym (changed_other x.stream.client y.stream.client (with_held held) s.clients other)
            ∙ (sym (changed_other x.stream.client y.stream.client closing (left l s x).clients other) ∙ y.here);
        streaming = y.streaming;
      })

  pub up_calm : IsCalmAt m (up l s).state
  up_calm = up_to (IsCalmAt m) l s (record {
    stays = λ idle. h;
    sends = λ x links e. sends_other x links;
    ends = λ x links e. ends_other x links;
  })

-- After the up rule for the streams 1 to k each of them is calm.
pub up_all_calms : (k : ℕ) (s : State) (m : ℕ) → 0 < m → m ≤ k → IsCalmAt m (up_all k s).state
up_all_calms zero s m some within = absurd (omega (arith, some, within))
up_all_calms (suc k) s m some within = go (cases_eq (suc k) m) (λ less. up_all_calms k s m some less)
  where
    go : (suc k ≡ m) ⊎ (suc k ≡ m → ⊥) → (m ≤ k → IsCalmAt m (up_all k s).state) → IsCalmAt m (up (suc k) (up_all k s).state).state
    go (inl same) ih = subst (λ (n : ℕ). IsCalmAt n (up (suc k) (up_all k s).state).state) same (up_calms (suc k) (up_all k s).state)
    go (inr apart) ih = up_calm (suc k) m (up_all k s).state apart (ih (omega (arith, within, apart)))

up_drawn : (l : ℕ) (s : State) → (up l s).state.drawn ≡ s.drawn
up_drawn l s = up_to (λ t. t.drawn ≡ s.drawn) l s (record { stays = λ idle. refl; sends = λ x links e. refl; ends = λ x links e. refl })

pub up_all_drawn : (k : ℕ) (s : State) → (up_all k s).state.drawn ≡ s.drawn
up_all_drawn zero s = refl
up_all_drawn (suc k) s = up_drawn (suc k) (up_all k s).state ∙ up_all_drawn k s

-- a row that is changed to itself
pub same_rows : {A : Type 0} (rows : Rows (Option A)) (n : ℕ) (f : A → Option A) (row : A) → rows n ≡ Some row → f row ≡ Some row
    → change_row n (option_and_then f) rows ≡ rows
same_rows rows n f row is same = λ i k. one k (eqb n k) refl i
  where
    one : (k : ℕ) (b : Bool) → eqb n k ≡ b → cond b (option_and_then f (rows k)) (rows k) ≡ rows k
    one k false e = refl
    one k true e = let there : rows k ≡ Some row = ap rows (sym (eqb-true n k e)) ∙ is in ap (option_and_then f) there ∙ (same ∙ sym there)

-- ---- the up rule changes nothing of a stream that is calm
module _ (l : ℕ) (s : State) (x : Sending l s) (calm : IsCalm s.devices x.client x.stream) where
  same_streams : change_row l (option_and_then (with_stream_part (with_flow x.stream.part.flow x.stream.part))) s.streams ≡ s.streams
  same_streams = same_rows s.streams l (with_stream_part (with_flow x.stream.part.flow x.stream.part)) x.stream x.there refl

  same_clients : change_row x.stream.client (option_and_then (with_held x.client.held)) s.clients ≡ s.clients
  same_clients = same_rows s.clients x.stream.client (with_held x.client.held) x.client x.here refl

  same_noted : noted l x.stream x.client.held [] s ≡ s
  same_noted = λ i. record s { clients = same_clients i; streams = same_streams i }

  sends_nothing : sends_up l x.stream x.client [] s ≡ quietly s
  sends_nothing =
      ap (λ (m : State). then_also (quietly m)
      (λ s. closes_if (is_over x.client.about.ended x.client.held x.stream.part.flow) l (s.streams l) s))
      same_noted
      ∙ (ap (λ b. then_also (quietly s) (λ s. closes_if b l (s.streams l) s)) calm.goes_on
      ∙ go (s.streams l))
    where
      go : (o : Option Stream) → record { state = (closes_if false l o s).state; told = [] ++ (closes_if false l o s).told } ≡ quietly s
      go None = refl
      go (Some y) = refl

up_still : (l : ℕ) (s : State) → IsCalmAt l s → up l s ≡ quietly s
up_still l s h = at_stream (s.streams l) refl
  where
    at_client : (stream : Stream) → s.streams l ≡ Some stream → (o : Option Client) → s.clients stream.client ≡ o
        → up_client l stream o s ≡ quietly s
    at_client stream there None e = refl
    at_client stream there (Some client) e = test (is_streaming l client.about.phase) refl
      where
        test : (b : Bool) → is_streaming l client.about.phase ≡ b
            → cond b (sends_up l stream client
            (payloads stream.part.flow (maxdata_of stream.link s.devices) client.held) s) (quietly s)
            ≡ quietly s
        test false is = refl
        test true is =
            let x : Sending l s = record { stream = stream; client = client; there = there; here = e; streaming = is } in
            let calm : IsCalm s.devices client stream = h.calm x in
            ap (λ ps. sends_up l stream client ps s) calm.nothing ∙ sends_nothing l s x calm

    at_stream : (o : Option Stream) → s.streams l ≡ o → up_stream l o s ≡ quietly s
    at_stream None e = refl
    at_stream (Some stream) e = at_client stream e (s.clients stream.client) refl

-- Where each stream is calm, the up rule changes nothing.
pub all_still : (k : ℕ) (s : State) → ((m : ℕ) → 0 < m → IsCalmAt m s) → up_all k s ≡ quietly s
all_still zero s calm = refl
all_still (suc k) s calm = ap (λ (m : Made). then_also m (up (suc k))) (all_still k s calm)
    ∙ ap (λ (m : Made). then_also (quietly s) (λ t. m))
    (up_still (suc k) s (calm (suc k) (omega arith)))
