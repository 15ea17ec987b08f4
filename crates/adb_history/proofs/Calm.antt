-- Where no stream may send, the up rule makes nothing, and hand-outs leave it so.
use Rattle.std.proofs.Common.{ℕ, ◌++◌, ◌&&◌, ◌≡◌, ◌≢◌, Bool, true, false, cond, List, [], ◌∷◌, length, drop, min, Option, Some, None, refl}
use Rattle.std.proofs.Common.{sym, ◌∙◌}
use Rattle.std.proofs.Common.{ap, subst, zero, suc, eqb, ◌⊎◌, inl, inr}
use Rattle.std.specs.Prelude.{option_and_then}
use Rattle.std.proofs.lemmas.Bool.{ne_eqb, eq-eqb, cases_eq}
use Rattle.adb_outside.specs.Tables.{Rows, change_row}
use Rattle.adb_registry.specs.Registry.{DeviceTable}
use Rattle.adb_stream.specs.declared.flow.Flow.{Flow}
use Rattle.adb_stream.specs.declared.flow.Flow.TheVariants.{One, Credit}
use Rattle.adb_stream.specs.declared.row.Stream.{Stream}
use Rattle.adb_stream.specs.Flow.{to_hand, credit_back, handed_to, is_idle}
use Rattle.adb_client.specs.declared.phase.Phase.{Phase}
use Rattle.adb_client.specs.declared.phase.Phase.TheVariants.{Streaming, Closing}
use Rattle.adb_history.specs.Rows.{Client, State, to_client, to_stream, with_due, with_stream_part}
use Rattle.adb_history.specs.Events.{quietly}
use Rattle.adb_history.specs.Links.{maxdata_of}
use Rattle.adb_history.specs.Clients.{closing_with}
use Rattle.adb_history.specs.Handing.{unmarked, lists_first, left_in, hands, tells_credit, tells_handed}
use Rattle.adb_history.specs.Handing.{stream_hands, stream_left, client_left, takes_of, puts_to, puts, sends}
use Rattle.adb_history.specs.Tracking.{offered}
use Rattle.adb_history.specs.Flow.{payloads, is_over, is_streaming, up_all, with_flow}
use Rattle.adb_history.proofs.Quiet as quiet
use Rattle.adb_history.proofs.Quiet.{all_still}

-- what a stream that is open may send: nothing, nor its end
abbrev pub SendsNothing : DeviceTable → Stream → Client → Type 0
SendsNothing devices stream client = quiet.IsCalm devices client stream

-- no stream may send
abbrev pub IsCalm : State → Type 0
IsCalm s = (l : ℕ) (stream : Stream) (client : Client) → s.streams l ≡ Some stream → s.clients stream.client ≡ Some client
    → is_streaming l client.about.phase ≡ true → SendsNothing s.devices stream client

-- the up rule makes nothing
pub calm_ups : (k : ℕ) (s : State) → IsCalm s → up_all k s ≡ quietly s
calm_ups k s calm = all_still k s (λ m some. record { calm = λ x. calm m x.stream x.client x.there x.here x.streaming })

-- ---- hand-outs
-- a client that changed and has its stream open has as before what is sent of it
pub record SendsSame (l : ℕ) (old new : Client) : Type 0 where
  pub streaming : is_streaming l old.about.phase ≡ true
  pub held : new.held ≡ old.held
  pub ended : new.about.ended ≡ old.about.ended

-- a row that a change leaves was there before
before_change : {A : Type 0} (rows : Rows (Option A)) (n q : ℕ) (f : A → Option A) (new : A)
    → change_row n (option_and_then f) rows q ≡ Some new
    → (q ≢ n → ⊥) ⊎ (rows q ≡ Some new)
before_change rows n q f new is = by_place (cases_eq n q)
  where
    by_place : ◌⊎◌ (n ≡ q) (n ≢ q) → (q ≢ n → ⊥) ⊎ (rows q ≡ Some new)
    by_place (inl here) = inl (λ other. other (sym here))
    by_place (inr other) = inr (sym (ap (λ b. cond b (option_and_then f (rows q)) (rows q)) (ne_eqb n q other)) ∙ is)

-- what a row was that a change made
pub record WasChanged {A : Type 0} (f : A → Option A) (before : Option A) (new : A) : Type 0 where
  pub old : A
  pub is : before ≡ Some old
  pub to : f old ≡ Some new

pub was_changed : {A : Type 0} (f : A → Option A) (before : Option A) (new : A) → option_and_then f before ≡ Some new
    → WasChanged f before new
was_changed f None new is = absurd (let clash : None ≡ Some new = is in cc)
was_changed f (Some old) new is = record { old = old; is = refl; to = is }

pub calm_to_client : (c : ℕ) (f : Client → Option Client) (s : State)
    → ((l : ℕ) (old new : Client) → f old ≡ Some new → is_streaming l new.about.phase ≡ true → SendsSame l old new)
    → IsCalm s → IsCalm (to_client c f s)
calm_to_client c f s keeps calm l stream client is here streaming = by_place (cases_eq c stream.client)
  where
    by_row : WasChanged f (s.clients stream.client) client → SendsNothing s.devices stream client
    by_row was =
        let same = keeps l was.old client was.to streaming in
        let old = calm l stream was.old is was.is same.streaming in
        record {
          nothing = ap (payloads stream.part.flow (maxdata_of stream.link s.devices)) same.held ∙ old.nothing;
          goes_on = ap (λ held. is_over client.about.ended held stream.part.flow) same.held
              ∙ (ap (λ ended. is_over ended was.old.held stream.part.flow) same.ended ∙ old.goes_on);
        }

    by_place : ◌⊎◌ (c ≡ stream.client) (c ≢ stream.client) → SendsNothing s.devices stream client
    by_place (inl same) = by_row (was_changed f (s.clients stream.client) client
        (sym (ap (λ b. cond b (option_and_then f (s.clients stream.client)) (s.clients stream.client))
        (eq-eqb c stream.client same)) ∙ here))
    by_place (inr other) = calm l stream client is
        (sym (ap (λ b. cond b (option_and_then f (s.clients stream.client)) (s.clients stream.client))
        (ne_eqb c stream.client other)) ∙ here) streaming

-- a flow that lets the same be sent
pub record LetsSame (old new : Flow) : Type 0 where
  pub payloads : (maxdata : ℕ) (held : List ℕ) → payloads new maxdata held ≡ payloads old maxdata held
  pub over : (ended : Bool) (held : List ℕ) → is_over ended held new ≡ is_over ended held old

pub over_same : (old new : Flow) → is_idle new ≡ is_idle old → (ended : Bool) (held : List ℕ)
    → is_over ended held new ≡ is_over ended held old
over_same old new same ended [] = ap (λ b. ended && b) same
over_same old new same ended (b ∷ held) = refl

pub lets_same : (left : ℕ) (flow : Flow) → LetsSame flow (handed_to left flow)
lets_same left (One window) = record { payloads = λ m held. refl; over = over_same (One window) (handed_to left (One window)) refl }
lets_same left (Credit credit) =
    record { payloads = λ m held. refl; over = over_same (Credit credit) (handed_to left (Credit credit)) refl }

pub calm_to_stream : (l : ℕ) (stream : Stream) (flow : Flow) (s : State) → s.streams l ≡ Some stream → LetsSame stream.part.flow flow
    → IsCalm s → IsCalm (to_stream l (with_stream_part (with_flow flow stream.part)) s)
calm_to_stream l stream flow s is same calm k new client there here streaming = by_place (cases_eq l k)
  where
    by_row : WasChanged (with_stream_part (with_flow flow stream.part)) (s.streams k) new → l ≡ k → SendsNothing s.devices new client
    by_row was equal =
        let old_is : was.old ≡ stream = (let both : Some was.old ≡ Some stream = sym was.is ∙ (ap s.streams (sym equal) ∙ is) in cc) in
        let made : new ≡ record was.old { part = with_flow flow stream.part } =
        (let both : Some new ≡ Some (record was.old { part = with_flow flow stream.part }) = sym was.to in cc) in
        let shaped : new ≡ record stream { part = with_flow flow stream.part } = made
        ∙ ap (λ (x : Stream). record x { part = with_flow flow stream.part }) old_is in
        let row : s.clients stream.client ≡ Some client = ap (λ (x : Stream). s.clients x.client) (sym shaped) ∙ here in
        let old = calm l stream client is row (ap (λ n. is_streaming n client.about.phase) equal ∙ streaming) in
        subst (λ (x : Stream). SendsNothing s.devices x client) (sym shaped) (record {
          nothing = same.payloads (maxdata_of stream.link s.devices) client.held ∙ old.nothing;
          goes_on = same.over client.about.ended client.held ∙ old.goes_on;
        })

    by_place : ◌⊎◌ (l ≡ k) (l ≢ k) → SendsNothing s.devices new client
    by_place (inl equal) = by_row (was_changed (with_stream_part (with_flow flow stream.part)) (s.streams k) new
        (sym (ap (λ b. cond b (option_and_then (with_stream_part (with_flow flow stream.part)) (s.streams k))
        (s.streams k)) (eq-eqb l k equal)) ∙ there)) equal
    by_place (inr other) = calm k new client
        (sym (ap (λ b. cond b (option_and_then (with_stream_part (with_flow flow stream.part)) (s.streams k))
        (s.streams k)) (ne_eqb l k other)) ∙ there)
        here streaming

-- what the device is told changes its link alone
calm_credit : (n l : ℕ) (stream : Stream) (s : State) → IsCalm s → IsCalm (tells_credit n l stream s).state
calm_credit zero l stream s calm = calm
calm_credit (suc n) l stream s calm = calm

calm_tells : (flow : Flow) (left l : ℕ) (stream : Stream) (s : State) → IsCalm s → IsCalm (tells_handed flow left l stream s).state
calm_tells (One window) zero l stream s calm = calm
calm_tells (One window) (suc left) l stream s calm = calm
calm_tells (Credit credit) left l stream s calm = calm_credit (credit_back left credit) l stream s calm

calm_hands : (left l : ℕ) (stream : Stream) (s : State) → s.streams l ≡ Some stream → IsCalm s → IsCalm (stream_hands left l stream s).state
calm_hands left l stream s is calm = by_test (eqb left (to_hand stream.part.flow))
  where
    by_test : (same : Bool) → IsCalm (cond same (quietly s) (tells_handed stream.part.flow left l stream
        (to_stream l (with_stream_part (with_flow (handed_to left stream.part.flow) stream.part)) s))).state
    by_test true = calm
    by_test false = calm_tells stream.part.flow left l stream
        (to_stream l (with_stream_part (with_flow (handed_to left stream.part.flow) stream.part)) s)
        (calm_to_stream l stream (handed_to left stream.part.flow) s is (lets_same left stream.part.flow) calm)

calm_left : (due l : ℕ) (o : Option Stream) (s : State) → s.streams l ≡ o → IsCalm s → IsCalm (stream_left due l o s).state
calm_left due l None s is calm = calm
calm_left due l (Some stream) s is calm = calm_hands (min (to_hand stream.part.flow) due) l stream s is calm

calm_client_left : (phase : Phase) (due : ℕ) (s : State) → IsCalm s → IsCalm (client_left phase due s).state
calm_client_left (Streaming l) due s calm = calm_left due l (s.streams l) s refl calm
calm_client_left _ due s calm = calm

-- a client that is handed some of what is due sends what it did, or is closing
closing_sends : (l : ℕ) (due : List ℕ) (old new : Client) → closing_with due old ≡ Some new
    → is_streaming l new.about.phase ≡ true → SendsSame l old new
closing_sends l [] old new is streaming = absurd (let clash : None ≡ Some new = is in cc)
closing_sends l (b ∷ due) old new is streaming =
    let made : record old
    { about = record old.about { phase = Closing; mark = false; want = None }; held = []; due = b ∷ due } ≡ new =
    cc in
    absurd (let clash : false ≡ true = ap (λ (x : Client). is_streaming l x.about.phase) made ∙ streaming in cc)

left_sends : (l n : ℕ) (phase : Phase) (old new : Client) → old.about.phase ≡ phase → left_in phase (drop n old.due) old ≡ Some new
    → is_streaming l new.about.phase ≡ true → SendsSame l old new
left_sends l n phase old new is made streaming = by_phase phase made
  where
    kept : Some (record old { due = drop n old.due }) ≡ Some new → SendsSame l old new
    kept same =
        let row : record old { due = drop n old.due } ≡ new = cc in
        record {
          streaming = ap (λ (x : Client). is_streaming l x.about.phase) row ∙ streaming;
          held = ap (λ (x : Client). x.held) (sym row);
          ended = ap (λ (x : Client). x.about.ended) (sym row);
        }

    by_phase : (phase : Phase) → left_in phase (drop n old.due) old ≡ Some new → SendsSame l old new
    by_phase Closing same =
        let x = closing_sends l (drop n old.due) (record old { due = drop n old.due }) new same streaming in
        record { streaming = x.streaming; held = x.held; ended = x.ended }
    by_phase _ same = kept same

calm_takes : (c n : ℕ) (o : Option Client) (s : State) → IsCalm s → IsCalm (takes_of c n o s).state
calm_takes c n None s calm = calm
calm_takes c n (Some client) s calm = calm_client_left client.about.phase (length (drop n client.due)) (to_client c (hands n) s)
    (calm_to_client c (hands n) s (λ l old new made streaming. left_sends l n old.about.phase old new refl made streaming) calm)

due_sends : (l : ℕ) (bytes : List ℕ) (old new : Client) → with_due bytes old ≡ Some new
    → is_streaming l new.about.phase ≡ true → SendsSame l old new
due_sends l bytes old new made streaming =
    let row : record old { due = old.due ++ bytes } ≡ new = cc in
    record {
      streaming = ap (λ (x : Client). is_streaming l x.about.phase) row ∙ streaming;
      held = ap (λ (x : Client). x.held) (sym row);
      ended = ap (λ (x : Client). x.about.ended) (sym row);
    }

unmarked_sends : (l : ℕ) (old new : Client) → unmarked old ≡ Some new → is_streaming l new.about.phase ≡ true → SendsSame l old new
unmarked_sends l old new made streaming =
    let row : record old { about = record old.about { mark = false } } ≡ new = cc in
    record {
      streaming = ap (λ (x : Client). is_streaming l x.about.phase) row ∙ streaming;
      held = ap (λ (x : Client). x.held) (sym row);
      ended = ap (λ (x : Client). x.about.ended) (sym row);
    }

calm_lists : (c : ℕ) (due : List ℕ) (client : Client) (s : State) → IsCalm s → IsCalm (lists_first c due client s).state
calm_lists c (b ∷ due) client s calm = calm
calm_lists c [] client s calm =
    calm_to_client c (with_due (offered s.devices client)) (to_client c unmarked s)
    (λ l old new. due_sends l (offered s.devices client) old new)
    (calm_to_client c unmarked s unmarked_sends calm)

pub calm_puts : (c n : ℕ) (s : State) → IsCalm s → IsCalm (puts c n s).state
calm_puts c n s calm = by_row (s.clients c)
  where
    by_row : (o : Option Client) → IsCalm (puts_to o c n s).state
    by_row None = calm
    by_row (Some client) =
        let listed : State = (lists_first c client.due client s).state in
        calm_takes c n (listed.clients c) listed (calm_lists c client.due client s calm)

pub calm_sends : (t n : ℕ) (s : State) → IsCalm s → IsCalm (sends t n s)
calm_sends t n s calm = calm
