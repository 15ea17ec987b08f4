-- Changes of rows by which no stream may send that could not send before.
use Rattle.std.proofs.Common.{ℕ, ◌+◌, ◌≡◌, ◌≢◌, ◌-◌, zero, suc, Bool, true, false, cond, ◌&&◌, List, [], ◌∷◌, ◌++◌, length, drop, Option}
use Rattle.std.proofs.Common.{Some, None, refl, sym}
use Rattle.std.proofs.Common.{◌∙◌, ap, subst, arith, ◌⊎◌, inl, inr}
use Rattle.std.specs.Prelude.{option_and_then, option_map}
use Rattle.std.proofs.lemmas.Bool.{ne_eqb, eq-eqb, cases_eq}
use Rattle.adb_outside.specs.Tables.{Rows, change_row, put_row}
use Rattle.adb_registry.specs.Registry.{DeviceTable}
use Rattle.adb_stream.specs.Flow.{new_flow, is_idle}
use Rattle.adb_stream.specs.Stream.{new_stream}
use Rattle.adb_stream.specs.declared.flow.Flow.{Flow}
use Rattle.adb_stream.specs.declared.flow.Flow.TheVariants.{One, Credit}
use Rattle.adb_stream.specs.declared.row.Stream.{Stream}
use Rattle.adb_client.specs.declared.phase.Phase.{Phase}
use Rattle.adb_client.specs.declared.phase.Phase.TheVariants.{Streaming, Tracking, Closing}
use Rattle.adb_history.specs.Rows.{Client, State, new_client, to_client, to_stream, none_kept, with_due}
use Rattle.adb_history.specs.Links.{maxdata_of}
use Rattle.adb_history.specs.Clients.{closing, closing_with, closes}
use Rattle.adb_history.specs.Streams.{draw}
use Rattle.adb_history.specs.Flow.{payloads, writes, write_len, write_before, is_over, is_streaming}
use Rattle.adb_history.specs.Tracking.{mark_all, marked, marked_in}
use Rattle.adb_history.specs.Reading.{comes}
use Rattle.adb_history.specs.Machine.{History, state, IsLegal}
use Rattle.adb_laws_resting.specs.Resting.{is_open_phase, has_open_stream}
use Rattle.adb_history.proofs.Quiet.{IsCalm, IsCalmAt}
use Rattle.adb_history.proofs.OrderlyStates.{orderly, rests_calm}
use Rattle.adb_history.proofs.Calm.{WasChanged, over_same, was_changed}

-- the stream of a number may send nothing, nor its end; and so of each number
abbrev pub CalmAt : ℕ → State → Type 0
CalmAt m s = (stream : Stream) (client : Client) → s.streams m ≡ Some stream → s.clients stream.client ≡ Some client
    → is_streaming m client.about.phase ≡ true → IsCalm s.devices client stream

abbrev pub AllCalm : State → Type 0
AllCalm s = (m : ℕ) → CalmAt m s

pub calm_is : (m : ℕ) (s : State) → CalmAt m s → IsCalmAt m s
calm_is m s h = record { calm = λ x. h x.stream x.client x.there x.here x.streaming }

-- at rest each stream is calm
pub all_calm : (h : History) → IsLegal h → AllCalm (state h)
all_calm h legal zero stream client there here streaming =
    absurd (let clash : None ≡ Some stream = sym (orderly h legal).streams.zero ∙ there in cc)
all_calm h legal (suc m) stream client there here streaming =
    (rests_calm h legal (suc m) (omega arith)).calm
    (record { stream = stream; client = client; there = there; here = here; streaming = streaming })

-- ---- what a row was
-- a row after a change was changed, or was there before
pub before_change : {A : Type 0} (n : ℕ) (f : A → Option A) (rows : Rows (Option A)) (q : ℕ) (new : A)
    → change_row n (option_and_then f) rows q ≡ Some new → ((n ≡ q) × WasChanged f (rows q) new) ⊎ (rows q ≡ Some new)
before_change n f rows q new is = by_place (cases_eq n q)
  where
    by_place : ◌⊎◌ (n ≡ q) (n ≢ q) → ((n ≡ q) × WasChanged f (rows q) new) ⊎ (rows q ≡ Some new)
    by_place (inl same) =
        inl (
          same,
          was_changed f (rows q) new
              (sym (ap (λ b. cond b (option_and_then f (rows q)) (rows q)) (eq-eqb n q same)) ∙ is),
        )
    by_place (inr other) = inr (sym (ap (λ b. cond b (option_and_then f (rows q)) (rows q)) (ne_eqb n q other)) ∙ is)

pub here_change : {A : Type 0} (n : ℕ) (f : A → Option A) (rows : Rows (Option A)) (new : A)
    → change_row n (option_and_then f) rows n ≡ Some new → WasChanged f (rows n) new
here_change n f rows new is =
    was_changed f (rows n) new (sym (ap (λ b. cond b (option_and_then f (rows n)) (rows n)) (eq-eqb n n refl)) ∙ is)

-- a row after one was put is that one, or was there before
pub before_put : {A : Type 0} (n : ℕ) (row : A) (rows : Rows (Option A)) (q : ℕ) (new : A)
    → put_row n (Some row) rows q ≡ Some new → ((n ≡ q) × (row ≡ new)) ⊎ (rows q ≡ Some new)
before_put n row rows q new is = by_place (cases_eq n q)
  where
    by_place : ◌⊎◌ (n ≡ q) (n ≢ q) → ((n ≡ q) × (row ≡ new)) ⊎ (rows q ≡ Some new)
    by_place (inl same) =
        let both : Some row ≡ Some new = sym (ap (λ b. cond b (Some row) (rows q)) (eq-eqb n q same))
        ∙ is in inl (same, (let e = both in cc))
    by_place (inr other) = inr (sym (ap (λ b. cond b (Some row) (rows q)) (ne_eqb n q other)) ∙ is)

-- ---- a client changes
-- a client that has its stream open had it open, and holds what it held
pub record SendsSame (m : ℕ) (old new : Client) : Type 0 where
  pub streaming : is_streaming m old.about.phase ≡ true
  pub held : new.held ≡ old.held
  pub ended : new.about.ended ≡ old.about.ended

module _ {m : ℕ} {old new : Client} (same : SendsSame m old new) where
  same_calm : (devices : DeviceTable) (stream : Stream) → IsCalm devices old stream → IsCalm devices new stream
  same_calm devices stream h = record {
    nothing = ap (payloads stream.part.flow (maxdata_of stream.link devices)) same.held ∙ h.nothing;
    goes_on = ap (λ held. is_over new.about.ended held stream.part.flow) same.held
        ∙ (ap (λ ended. is_over ended old.held stream.part.flow) same.ended ∙ h.goes_on);
  }

-- what a change of a client leaves as it was
abbrev pub KeepsSending : (m c : ℕ) → (Client → Option Client) → State → Type 0
KeepsSending m c f s = (old new : Client) → s.clients c ≡ Some old → f old ≡ Some new
    → is_streaming m new.about.phase ≡ true → SendsSame m old new

pub client_calm : (m c : ℕ) (f : Client → Option Client) (s : State) → KeepsSending m c f s → CalmAt m s → CalmAt m (to_client c f s)
client_calm m c f s keeps h stream client there here streaming = by_row (before_change c f s.clients stream.client client here)
  where
    by_row : ((c ≡ stream.client) × WasChanged f (s.clients stream.client) client)
        ⊎ (s.clients stream.client ≡ Some client) → IsCalm s.devices client stream
    by_row (inl (same, was)) =
        let kept = keeps was.old client (ap s.clients same ∙ was.is) was.to streaming in
        same_calm kept s.devices stream (h stream was.old there was.is kept.streaming)
    by_row (inr row) = h stream client there row streaming

-- a change by which a client stays where it is, and holds what it held
pub record StaysSame (old new : Client) : Type 0 where
  pub phase : new.about.phase ≡ old.about.phase
  pub held : new.held ≡ old.held
  pub ended : new.about.ended ≡ old.about.ended

pub stays_calm : (c : ℕ) (g : Client → Client) (s : State) → ((y : Client) → StaysSame y (g y)) → AllCalm s
    → AllCalm (to_client c (λ y. Some (g y)) s)
stays_calm c g s same h m = client_calm m c (λ y. Some (g y)) s keeps (h m)
  where
    keeps : KeepsSending m c (λ y. Some (g y)) s
    keeps old new is to streaming =
        let made : g old ≡ new = cc in
        record {
          streaming = ap (is_streaming m) (sym (same old).phase) ∙ (ap (λ (y : Client). is_streaming m y.about.phase) made ∙ streaming);
          held = ap (λ (y : Client). y.held) (sym made) ∙ (same old).held;
          ended = ap (λ (y : Client). y.about.ended) (sym made) ∙ (same old).ended;
        }

pub due_calm : (c : ℕ) (bytes : List ℕ) (s : State) → AllCalm s → AllCalm (to_client c (with_due bytes) s)
due_calm c bytes s h = stays_calm c (λ y. record y { due = y.due ++ bytes }) s (λ y. record { phase = refl; held = refl; ended = refl }) h

-- a client that has no stream open, and stays where it is
open_phase : (m : ℕ) (phase : Phase) → is_streaming m phase ≡ true → is_open_phase phase ≡ true
open_phase m (Streaming l) is = refl
open_phase m _ is = absurd (let clash : false ≡ true = is in cc)

pub unopened_calm : (c : ℕ) (g : Client → Client) (s : State) → ((y : Client) → (g y).about.phase ≡ y.about.phase)
    → has_open_stream (s.clients c) ≡ false → AllCalm s → AllCalm (to_client c (λ y. Some (g y)) s)
unopened_calm c g s same unopened h m = client_calm m c (λ y. Some (g y)) s keeps (h m)
  where
    keeps : KeepsSending m c (λ y. Some (g y)) s
    keeps old new is to streaming =
        let made : g old ≡ new = cc in
        let was : is_streaming m old.about.phase ≡ true =
        ap (is_streaming m) (sym (same old)) ∙ (ap (λ (y : Client). is_streaming m y.about.phase) made ∙ streaming) in
        absurd (let clash : false ≡ true = sym unopened ∙ (ap has_open_stream is ∙ open_phase m old.about.phase was) in cc)

-- a client that has no stream open then
abbrev pub NeverStreams : (Client → Option Client) → Type 0
NeverStreams f = (m : ℕ) (old new : Client) → f old ≡ Some new → is_streaming m new.about.phase ≡ true → ⊥

pub idle_calm : (c : ℕ) (f : Client → Option Client) (s : State) → NeverStreams f → AllCalm s → AllCalm (to_client c f s)
idle_calm c f s never h m = client_calm m c f s (λ old new is to streaming. absurd (never m old new to streaming)) (h m)

pub closing_idle : (due : List ℕ) (m : ℕ) (old new : Client) → closing_with due old ≡ Some new → is_streaming m new.about.phase ≡ true → ⊥
closing_idle [] m old new is streaming = let clash : None ≡ Some new = is in cc
closing_idle (b ∷ due) m old new is streaming =
    let made : record old
    { about = record old.about { phase = Closing; mark = false; want = None }; held = []; due = b ∷ due } ≡ new =
    cc in
    let clash : false ≡ true = ap (λ (x : Client). is_streaming m x.about.phase) made ∙ streaming in
    cc

pub closes_calm : (c : ℕ) (s : State) → AllCalm s → AllCalm (closes c s)
closes_calm c s h = idle_calm c closing s (λ m old new. closing_idle old.due m old new) h

pub dropped_calm : (c : ℕ) (s : State) → AllCalm s → AllCalm (to_client c none_kept s)
dropped_calm c s h = idle_calm c none_kept s (λ m old new is streaming. let clash : None ≡ Some new = is in cc) h

-- ---- a client comes
pub comes_calm : (forwarded : Bool) (c : ℕ) (s : State) → AllCalm s → AllCalm (comes forwarded c s)
comes_calm forwarded c s h m stream client there here streaming =
    by_row (before_put c (new_client forwarded c) s.clients stream.client client here)
  where
    by_row : ((c ≡ stream.client) × (new_client forwarded c ≡ client)) ⊎ (s.clients stream.client ≡ Some client)
        → IsCalm s.devices client stream
    by_row (inl (same, row)) = absurd (let clash : false ≡ true = ap (λ (y : Client). is_streaming m y.about.phase) row ∙ streaming in cc)
    by_row (inr row) = h m stream client there row streaming

-- ---- the list of the devices is stale
marked_same : (m : ℕ) (phase : Phase) (c : Client) → c.about.phase ≡ phase → is_streaming m (marked_in phase c).about.phase ≡ true
    → SendsSame m c (marked_in phase c)
marked_same m Tracking c is streaming = record { streaming = streaming; held = refl; ended = refl }
marked_same m _ c is streaming = record { streaming = streaming; held = refl; ended = refl }

pub marks_calm : (s : State) → AllCalm s → AllCalm (mark_all s)
marks_calm s h m stream client there here streaming = by_row (s.clients stream.client) refl here
  where
    by_row : (o : Option Client) → s.clients stream.client ≡ o → option_map marked o ≡ Some client → IsCalm s.devices client stream
    by_row None is e = absurd (let clash : None ≡ Some client = e in cc)
    by_row (Some old) is e =
        let row : marked old ≡ client = cc in
        let kept = marked_same m old.about.phase old refl (ap (λ (y : Client). is_streaming m y.about.phase) row ∙ streaming) in
        subst (λ (y : Client). IsCalm s.devices y stream) row
        (same_calm kept s.devices stream (h m stream old there is kept.streaming))

-- ---- a stream changes
-- a flow that lets the same be sent
pub record LetsSame (old new : Flow) : Type 0 where
  pub payloads : (maxdata : ℕ) (held : List ℕ) → payloads new maxdata held ≡ payloads old maxdata held
  pub idle : is_idle new ≡ is_idle old

pub record PassesSame (old new : Stream) : Type 0 where
  pub client : new.client ≡ old.client
  pub link : new.link ≡ old.link
  pub flow : LetsSame old.part.flow new.part.flow

abbrev pub KeepsPassing : ℕ → (Stream → Option Stream) → State → Type 0
KeepsPassing l f s = (old new : Stream) → s.streams l ≡ Some old → f old ≡ Some new → PassesSame old new

pub stream_calm : (l : ℕ) (f : Stream → Option Stream) (s : State) → KeepsPassing l f s → AllCalm s → AllCalm (to_stream l f s)
stream_calm l f s keeps h m stream client there here streaming = by_row (before_change l f s.streams m stream there)
  where
    by_row : ((l ≡ m) × WasChanged f (s.streams m) stream) ⊎ (s.streams m ≡ Some stream) → IsCalm s.devices client stream
    by_row (inl (same, was)) =
        let kept = keeps was.old stream (ap s.streams same ∙ was.is) was.to in
        let old = h m was.old client was.is (ap s.clients (sym kept.client) ∙ here) streaming in
        record {
          nothing = kept.flow.payloads (maxdata_of stream.link s.devices) client.held
              ∙ (ap (λ t. payloads was.old.part.flow (maxdata_of t s.devices) client.held) kept.link ∙ old.nothing);
          goes_on = over_same was.old.part.flow stream.part.flow kept.flow.idle client.about.ended client.held ∙ old.goes_on;
        }
    by_row (inr row) = h m stream client row here streaming

pub gone_calm : (l : ℕ) (s : State) → AllCalm s → AllCalm (to_stream l none_kept s)
gone_calm l s h = stream_calm l none_kept s (λ old new is to. absurd (let clash : None ≡ Some new = to in cc)) h

-- a stream is drawn for a client that has none open
pub draws_calm : (credit : Bool) (c t : ℕ) (s : State)
    → ((m : ℕ) (client : Client) → s.clients c ≡ Some client → is_streaming m client.about.phase ≡ true → ⊥)
    → AllCalm s → AllCalm (draw credit c t s)
draws_calm credit c t s none h m stream client there here streaming =
    by_row (before_put (s.drawn + 1) (new_stream (s.drawn + 1) c t (new_flow credit)) s.streams m stream there)
  where
    by_row : ((s.drawn + 1 ≡ m) × (new_stream (s.drawn + 1) c t (new_flow credit) ≡ stream)) ⊎ (s.streams m ≡ Some stream)
        → IsCalm s.devices client stream
    by_row (inl (same, row)) = absurd (none m client (ap (λ (y : Stream). s.clients y.client) row ∙ here) streaming)
    by_row (inr row) = h m stream client row here streaming

-- ---- the devices change
-- of a device that takes no payload nothing may be sent
nothing_long : (k maxdata credit : ℕ) (held : List ℕ) → maxdata ≡ 0 → writes k maxdata credit held ≡ []
nothing_long zero maxdata credit held is = refl
nothing_long (suc k) maxdata credit held is =
    ap (λ n. write_before n held (writes k maxdata (credit - n) (drop n held))) (none is)
  where
    none : maxdata ≡ 0 → write_len maxdata credit held ≡ 0
    none is = omega (arith, is)

nothing_to : (flow : Flow) (maxdata : ℕ) (held : List ℕ) → maxdata ≡ 0 → payloads flow maxdata held ≡ []
nothing_to (One window) maxdata held is = by_test window.outstanding
  where
    by_test : (b : Bool) → cond b [] (writes 1 maxdata maxdata held) ≡ []
    by_test true = refl
    by_test false = nothing_long 1 maxdata maxdata held is
nothing_to (Credit credit) maxdata held is = nothing_long (length held) maxdata credit.to_send held is

-- each device takes what it took, or nothing
abbrev pub TakesNoMore : DeviceTable → DeviceTable → Type 0
TakesNoMore old new = (t : ℕ) → (maxdata_of t new ≡ maxdata_of t old) ⊎ (maxdata_of t new ≡ 0)

pub devices_calm : (devices : DeviceTable) (s : State) → TakesNoMore s.devices devices → AllCalm s
    → AllCalm (record s { devices = devices })
devices_calm devices s fewer h m stream client there here streaming = by_link (h m stream client there here streaming) (fewer stream.link)
  where
    by_link : IsCalm s.devices client stream → (maxdata_of stream.link devices ≡ maxdata_of stream.link s.devices)
        ⊎ (maxdata_of stream.link devices ≡ 0)
        → IsCalm devices client stream
    by_link old (inl same) =
        record {
          nothing = ap (λ n. payloads stream.part.flow n client.held) same ∙ old.nothing;
          goes_on =
              old.goes_on;
        }
    by_link old (inr none) =
        record { nothing = nothing_to stream.part.flow (maxdata_of stream.link devices) client.held none; goes_on = old.goes_on }
