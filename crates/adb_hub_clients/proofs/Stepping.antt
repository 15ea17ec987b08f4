-- The step of what comes from a client, and of a client that comes through a forward.
use Rattle.std.proofs.Common.{ℕ, ◌+◌, ◌≡◌, ◌++◌, List, [], Bool, true, false, Option, Some, None, refl, sym, ◌∙◌, ap, subst, cond, eqb}
use Rattle.std.proofs.Common.{arith, ◌⊎◌}
use Rattle.std.proofs.Common.{inl, inr}
use Rattle.std.specs.Prelude.{option_and_then, Result, Ok, Err, OnOk}
use Rattle.std.proofs.lemmas.Bool.{eqb-true}
use Rattle.adb_outside.specs.Tables.{at, change_row}
use Rattle.adb_client.specs.declared.phase.Phase.{Phase}
use Rattle.adb_client.specs.declared.phase.Phase.TheVariants.{Asking, Opening, Streaming, Binding, Tracking, Closing, Gone}
use Rattle.adb_capture.specs.declared.entry.Entry.{Entry}
use Rattle.adb_capture.specs.declared.entry.Entry.TheVariants.{Read}
use Rattle.adb_history.specs.Rows.{Client, State, to_client, with_held}
use Rattle.adb_history.specs.Flow.{up}
use Rattle.adb_history.specs.Asking.{asks_with}
use Rattle.adb_history.specs.Reading.{asked_before, asks, reads_in, reads_from, reads}
use Rattle.adb_history.specs.Events.{Made}
use Rattle.adb_history.specs.Machine.{step, ups}
use Rattle.adb_hub_tables.proofs.Reporting.{TellsSame}
use Rattle.adb_hub_rules.proofs.Rests.{rule_tells, quiet_rule_tells}
use Rattle.adb_history.specs.Orderly.{IsOrderly}
use Rattle.adb_history.proofs.OrderlyStates.{orderly}
use Rattle.adb_laws_resting.specs.Resting.{SendsNothingBy, GoesUpAlone, AllSized, has_open_stream, is_open_phase}
use Rattle.adb_laws_resting.specs.Wanted.{CanBeDone}
use Rattle.adb_laws_resting.proofs.RestingSteps.{all_send_nothing}
use Rattle.adb_laws_resting.proofs.RestingOpen.{goes_up_alone}
use Rattle.adb_laws_resting.proofs.RestingDevices.{sized}
use Rattle.adb_laws_resting.proofs.WantedReads.{none_at_zero}
use Rattle.adb_laws_resting.proofs.WantedStates.{can_be_done}
use Rattle.adb_hub_tables.specs.declared.tables.Tables.{Tables}
use Rattle.adb_hub_tables.specs.Tables.{state_of, phase_in}
use Rattle.adb_hub_tables.specs.Fit.{IsReached, Makes, Keeps}
use Rattle.adb_hub_clients.specs.Leaving.{Leaves}
use Rattle.adb_hub_clients.specs.Taking.{takes_in, holding}

-- ---- what is known of a state that a legal history leaves
pub sends_nothing : (s : State) → IsReached s → SendsNothingBy s
sends_nothing s h = subst SendsNothingBy (sym h.is) (all_send_nothing h.history h.legal)

pub goes_alone : (s : State) → IsReached s → GoesUpAlone s
goes_alone s h = subst GoesUpAlone (sym h.is) (goes_up_alone h.history h.legal)

pub all_sized : (s : State) → IsReached s → AllSized s
all_sized s h = subst AllSized (sym h.is) (sized h.history)

can_all_be_done : (s : State) → IsReached s → CanBeDone s
can_all_be_done s h = subst CanBeDone (sym h.is) (can_be_done h.history h.legal)

pub no_forward_at_zero : (s : State) → IsReached s → at 0 s.forwards ≡ None
no_forward_at_zero s h = none_at_zero s.forwards (can_all_be_done s h).forwards

in_order : (s : State) → IsReached s → IsOrderly s
in_order s h = subst IsOrderly (sym h.is) (orderly h.history h.legal)

pub no_client_yet : (s : State) → IsReached s → (c : ℕ) → c ≡ s.joined + 1 → s.clients c ≡ None
no_client_yet s h c is = (in_order s h).clients.above c (omega (arith, is))

-- ---- from a rule to the step
pub makes : (e : Entry) (old new : Tables) (made : State) → made ≡ (step (state_of old) e).state → Leaves made new → Makes e old new
makes e old new made is leaves = record { state = leaves.state ∙ is; fit = leaves.fit }

pub keeps : (old new : Tables) → Leaves (state_of old) new → Keeps old new
keeps old new leaves = record { state = leaves.state; fit = leaves.fit }

-- what holds, holds at Ok
pub on_ok : {T E : Type 0} (r : Result T E) (P : Type 0) → P → OnOk r P
on_ok (Ok x) P p = p
on_ok (Err e) P p = tt

-- ---- a client, by its phase
pub record HasPhase (s : State) (c : ℕ) (phase : Phase) : Type 0 where
  pub row : Client
  pub here : s.clients c ≡ Some row
  pub is : row.about.phase ≡ phase

-- whether a client in this phase may be gone
abbrev is_gone : Phase → Bool
is_gone Gone = true
is_gone _ = false

has_phase : (s : State) (c : ℕ) (phase : Phase) (found : Option Client) → s.clients c ≡ found → phase_in found ≡ phase
    → is_gone phase ≡ false
    → HasPhase s c phase
has_phase s c phase None here is there = let clash : true ≡ false = ap is_gone is ∙ there in cc
has_phase s c phase (Some row) here is there = record { row = row; here = here; is = is }

-- whether nothing is read of a client in this phase
abbrev is_deaf : Phase → Bool
is_deaf Binding = true
is_deaf Tracking = true
is_deaf Closing = true
is_deaf Gone = true
is_deaf _ = false

pub deaf_of : (phase : Phase) → ◌⊎◌ (phase ≡ Binding) (◌⊎◌ (phase ≡ Tracking) (◌⊎◌ (phase ≡ Closing) (phase ≡ Gone))) → is_deaf phase ≡ true
deaf_of phase (inl is) = ap is_deaf is
deaf_of phase (inr (inl is)) = ap is_deaf is
deaf_of phase (inr (inr (inl is))) = ap is_deaf is
deaf_of phase (inr (inr (inr is))) = ap is_deaf is

module _ (s : State) (c : ℕ) (bytes : List ℕ) where
  -- what comes of a client in a phase
  reads_as : {phase : Phase} (h : HasPhase s c phase) → reads c bytes s ≡ reads_in phase c bytes h.row s
  reads_as h = ap (λ (found : Option Client). reads_from found c bytes s) h.here
      ∙ ap (λ (phase : Phase). reads_in phase c bytes h.row s) h.is

  reads_by : {phase : Phase} (h : HasPhase s c phase) → (reads c bytes s).state ≡ (reads_in phase c bytes h.row s).state
  reads_by h = ap (λ (m : Made). m.state) (reads_as h)

  -- a piece more is held
  holds_more : (row : Client) → s.clients c ≡ Some row → takes_in c bytes s ≡ to_client c (with_held (row.held ++ bytes)) s
  holds_more row here i = record s { clients = λ k. at_place k i }
    where
      by_test : (k : ℕ) (b : Bool) → (b ≡ true → s.clients k ≡ Some row)
          → cond b (option_and_then (holding bytes) (s.clients k)) (s.clients k)
          ≡ cond b (option_and_then (with_held (row.held ++ bytes)) (s.clients k)) (s.clients k)
      by_test k true same =
          subst (λ (found : Option Client). option_and_then (holding bytes) found ≡ option_and_then (with_held (row.held ++ bytes)) found)
          (sym (same refl)) refl
      by_test k false same = refl

      at_place : (k : ℕ) → change_row c (option_and_then (holding bytes)) s.clients k
          ≡ change_row c (option_and_then (with_held (row.held ++ bytes))) s.clients k
      at_place k = by_test k (eqb c k) (λ same. ap s.clients (sym (eqb-true c k same)) ∙ here)

  -- the step of what comes from a client, in a state that a legal history leaves
  module _ (reached : IsReached s) where
    rule_alone : {phase : Phase} (found : Option Client) → s.clients c ≡ found → phase_in found ≡ phase → is_open_phase phase ≡ false
        → (reads c bytes s).state ≡ (step s (Read c bytes)).state
    rule_alone None here is closed = sym ((sends_nothing s reached).read c bytes (ap has_open_stream here))
    rule_alone (Some row) here is closed =
        sym ((sends_nothing s reached).read c bytes (ap has_open_stream here ∙ (ap is_open_phase is ∙ closed)))

    pub asking_step : phase_in (s.clients c) ≡ Asking → (row : Client) → s.clients c ≡ Some row
        → (asks (asks_with s.devices s.forwards bytes (asked_before row)) c s).state ≡ (step s (Read c bytes)).state
    asking_step is row here =
        let phase : row.about.phase ≡ Asking = ap phase_in (sym here) ∙ is in
        sym (reads_by {phase = Asking} (record { row = row; here = here; is = phase }))
        ∙ rule_alone {phase = Asking} (s.clients c) refl is refl

    -- and what it tells
    rests_alone : {phase : Phase} (found : Option Client) → s.clients c ≡ found → phase_in found ≡ phase → is_open_phase phase ≡ false
        → TellsSame (reads c bytes s).told (step s (Read c bytes)).told
    rests_alone found here is closed = rule_tells (Read c bytes) s (sym (rule_alone found here is closed))

    pub asking_tells : phase_in (s.clients c) ≡ Asking → (row : Client) → s.clients c ≡ Some row
        → TellsSame (asks (asks_with s.devices s.forwards bytes (asked_before row)) c s).told (step s (Read c bytes)).told
    asking_tells is row here =
        let phase : row.about.phase ≡ Asking = ap phase_in (sym here) ∙ is in
        let same = reads_as {phase = Asking} (record { row = row; here = here; is = phase }) in
        subst (λ (m : Made). TellsSame m.told (step s (Read c bytes)).told) same (rests_alone {phase = Asking} (s.clients c) refl is refl)

    pub opening_tells : (l : ℕ) → phase_in (s.clients c) ≡ Opening l → TellsSame [] (step s (Read c bytes)).told
    opening_tells l is =
        let h = has_phase s c (Opening l) (s.clients c) refl is refl in
        subst (λ (m : Made). TellsSame m.told (step s (Read c bytes)).told) (reads_as h)
        (rests_alone {phase = Opening l} (s.clients c) refl is refl)

    pub streaming_tells : (l : ℕ) → phase_in (s.clients c) ≡ Streaming l
        → TellsSame (up l (takes_in c bytes s)).told (step s (Read c bytes)).told
    streaming_tells l is =
        let h = has_phase s c (Streaming l) (s.clients c) refl is refl in
        let quiet : TellsSame [] (reads c bytes s).told = subst (λ (m : Made). TellsSame [] m.told) (sym (reads_as h)) (λ rows log. refl) in
        let goes = (goes_alone s reached).read_by c l bytes (record { client = h.row; here = h.here; in_phase = h.is }) in
        let same : ups (reads c bytes s).state ≡ up l (takes_in c bytes s) =
        goes ∙ ap (up l) (reads_by h ∙ sym (holds_more h.row h.here)) in
        subst (λ (m : Made). TellsSame m.told (step s (Read c bytes)).told) same (quiet_rule_tells (Read c bytes) s quiet)

    pub asking_row : phase_in (s.clients c) ≡ Asking → HasPhase s c Asking
    asking_row is = has_phase s c Asking (s.clients c) refl is refl

    pub opening_step : (l : ℕ) → phase_in (s.clients c) ≡ Opening l → takes_in c bytes s ≡ (step s (Read c bytes)).state
    opening_step l is =
        let h = has_phase s c (Opening l) (s.clients c) refl is refl in
        holds_more h.row h.here ∙ (sym (reads_by h) ∙ rule_alone {phase = Opening l} (s.clients c) refl is refl)

    pub streaming_step : (l : ℕ) → phase_in (s.clients c) ≡ Streaming l → (up l (takes_in c bytes s)).state ≡ (step s (Read c bytes)).state
    streaming_step l is =
        let h = has_phase s c (Streaming l) (s.clients c) refl is refl in
        ap (λ (then : State). (up l then).state) (holds_more h.row h.here ∙ sym (reads_by h))
        ∙ sym ((goes_alone s reached).read c l bytes (record { client = h.row; here = h.here; in_phase = h.is }))

    deaf_row : (phase : Phase) (row : Client) → is_deaf phase ≡ true → (reads_in phase c bytes row s).state ≡ s
    deaf_row Asking row deaf = let clash : true ≡ false = sym deaf in cc
    deaf_row (Opening l) row deaf = let clash : true ≡ false = sym deaf in cc
    deaf_row (Streaming l) row deaf = let clash : true ≡ false = sym deaf in cc
    deaf_row Binding row deaf = refl
    deaf_row Tracking row deaf = refl
    deaf_row Closing row deaf = refl
    deaf_row Gone row deaf = refl

    closed_phase : (phase : Phase) → is_deaf phase ≡ true → is_open_phase phase ≡ false
    closed_phase Asking deaf = refl
    closed_phase (Opening l) deaf = refl
    closed_phase (Streaming l) deaf = let clash : true ≡ false = sym deaf in cc
    closed_phase Binding deaf = refl
    closed_phase Tracking deaf = refl
    closed_phase Closing deaf = refl
    closed_phase Gone deaf = refl

    unread : (found : Option Client) → is_deaf (phase_in found) ≡ true → (reads_from found c bytes s).state ≡ s
    unread None deaf = refl
    unread (Some row) deaf = deaf_row row.about.phase row deaf

    deaf_told : (phase : Phase) (row : Client) → is_deaf phase ≡ true → TellsSame [] (reads_in phase c bytes row s).told
    deaf_told Asking row deaf = absurd (let clash : true ≡ false = sym deaf in cc)
    deaf_told (Opening l) row deaf = λ rows log. refl
    deaf_told (Streaming l) row deaf = λ rows log. refl
    deaf_told Binding row deaf = λ rows log. refl
    deaf_told Tracking row deaf = λ rows log. refl
    deaf_told Closing row deaf = λ rows log. refl
    deaf_told Gone row deaf = λ rows log. refl

    unread_told : (found : Option Client) → is_deaf (phase_in found) ≡ true → TellsSame [] (reads_from found c bytes s).told
    unread_told None deaf = λ rows log. refl
    unread_told (Some row) deaf = deaf_told row.about.phase row deaf

    pub deaf_tells : (phase : Phase) → phase_in (s.clients c) ≡ phase → is_deaf phase ≡ true → TellsSame [] (step s (Read c bytes)).told
    deaf_tells phase is deaf = λ rows log.
        unread_told (s.clients c) (ap is_deaf is ∙ deaf) rows log
        ∙ rests_alone {phase = phase} (s.clients c) refl is (closed_phase phase deaf) rows log

    -- nothing is read of a client that waits, tracks, closes or is gone
    pub deaf_step : (phase : Phase) → phase_in (s.clients c) ≡ phase → is_deaf phase ≡ true → s ≡ (step s (Read c bytes)).state
    deaf_step phase is deaf =
        sym (unread (s.clients c) (ap is_deaf is ∙ deaf)) ∙ rule_alone {phase = phase} (s.clients c) refl is (closed_phase phase deaf)
