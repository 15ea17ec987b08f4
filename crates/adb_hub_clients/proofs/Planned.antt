-- What a client asks is answered.
use Rattle.std.proofs.Common.{ℕ, ◌≡◌, ◌≤◌, ◌++◌, arith, List, [], drop, length, Bool, true, false, Option, Some, None, refl, sym, ◌∙◌, ap}
use Rattle.std.proofs.Common.{subst, cond}
use Rattle.std.proofs.Common.{eqb}
use Rattle.std.specs.Prelude.{option_map, option_and_then}
use Rattle.std.proofs.lemmas.Bool.{eqb-true, eq-eqb}
use Rattle.std.proofs.lemmas.List.{drop_all}
use Rattle.adb_outside.specs.Tables.{Rows, at, change_row}
use Rattle.adb_stream.specs.declared.row.Stream.{Stream}
use Rattle.adb_client.specs.Client.{SeenClient}
use Rattle.adb_history.specs.Rows.{Client, State, to_client, with_due}
use Rattle.adb_history.specs.Events.{then_also}
use Rattle.adb_history.specs.Clients.{owe_client}
use Rattle.adb_history.specs.Asking.{Asked, reads_on, asks_with}
use Rattle.adb_history.specs.Reading.{asked_before, has_asked, asks, goes_on}
use Rattle.adb_hub_clients.specs.Plan.{asking, asked_by}
use Rattle.adb_hub_clients.specs.declared.plan.Plan.{Plan}
use Rattle.adb_laws_resting.specs.Wanted.{IsSoundNext}
use Rattle.adb_laws_resting.proofs.WantedReads.{sound_next}
use Rattle.adb_hub_tables.specs.declared.tables.Tables.{Tables}
use Rattle.adb_hub_tables.specs.Tables.{client_row, state_of}
use Rattle.adb_hub_tables.specs.Endings.{Log, logged}
use Rattle.adb_hub_tables.proofs.Reporting.{TellsSame}
use Rattle.adb_hub_rules.specs.Up.{IsSized}
use Rattle.adb_hub_clients.specs.Leaving.{HoldsAtLeast}
use Rattle.adb_hub_clients.specs.Taking.{takes_in, holding}
use Rattle.adb_hub_clients.specs.Asking.{after_requests, hears, FitsNext}
use Rattle.adb_hub_clients.specs.Planning.{PlansAt, PlansWhole, answered, answers}
use Rattle.adb_hub_clients.specs.declared.hearing.Heard.{Heard}
use Rattle.adb_hub_clients.proofs.Answering.{next_fits}

-- the requests of a plan
abbrev pub heard_of : Plan → Heard
heard_of plan = record { replies = plan.replies; used = plan.used; selected = plan.selected }

-- what is heard of a plan is what a client asked and is told
heard_is : (plan : Plan) (c : ℕ) (row : Client) (s : State) → s.clients c ≡ Some row
    → hears (heard_of plan) c s ≡ (owe_client c plan.replies (to_client c (has_asked (asked_by plan row.held)) s)).state
heard_is plan c row s here i = record s { clients = λ k. at_place k i }
  where
    q : Asked
    q = asked_by plan row.held

    by_row : (found : Option Client) → found ≡ Some row
        → option_and_then (after_requests (heard_of plan)) found
        ≡ option_and_then (with_due plan.replies) (option_and_then (has_asked (asked_by plan row.held)) found)
    by_row found is =
        subst (λ (found : Option Client). option_and_then (after_requests (heard_of plan)) found
        ≡ option_and_then (with_due plan.replies) (option_and_then (has_asked (asked_by plan row.held)) found)) (sym is) refl

    by_test : (k : ℕ) (b : Bool) → ((b ≡ true) → s.clients k ≡ Some row)
        → cond b (option_and_then (after_requests (heard_of plan)) (s.clients k)) (s.clients k)
        ≡ cond b (option_and_then (with_due plan.replies)
        (cond b (option_and_then (has_asked (asked_by plan row.held)) (s.clients k)) (s.clients k)))
        (cond b (option_and_then (has_asked (asked_by plan row.held)) (s.clients k)) (s.clients k))
    by_test k true same = by_row (s.clients k) (same refl)
    by_test k false same = refl

    at_place : (k : ℕ) → change_row c (option_and_then (after_requests (heard_of plan))) s.clients k
        ≡ change_row c (option_and_then (with_due plan.replies))
        (change_row c (option_and_then (has_asked (asked_by plan row.held))) s.clients) k
    at_place k = by_test k (eqb c k) (λ same. ap s.clients (sym (eqb-true c k same)) ∙ here)

-- a client that is there, as its table has it
seen_row : (c : ℕ) (t : Tables) (row : Client) (found : Option SeenClient) → option_map client_row found ≡ Some row
    → (plan : Plan) → PlansAt t found (Some plan)
    → asked_by plan row.held ≡ reads_on t.devices t.forwards (length row.held) (asking row.held row.about.selected)
seen_row c t row None is plan plans = absurd plans
seen_row c t row (Some client) is plan plans =
    let same : client_row client ≡ row = ap or_row is in
    subst (λ (row : Client). asked_by plan row.held ≡ reads_on t.devices t.forwards (length row.held)
    (asking row.held row.about.selected)) same plans.asked
  where
    or_row : Option Client → Client
    or_row None = row
    or_row (Some row) = row

-- what follows the requests of a plan is what follows all that is held
pub planned : (plan : Plan) (c : ℕ) (row : Client) (t : Tables) → PlansAt t (at c t.clients.entries) (Some plan)
    → (state_of t).clients c ≡ Some row
    → (goes_on plan.next c (hears (heard_of plan) c (state_of t))).state ≡ answered c row (state_of t)
planned plan c row t plans here =
    ap (λ (s : State). (goes_on plan.next c s).state) (heard_is plan c row (state_of t) here)
    ∙ ap (λ (q : Asked). (asks q c (state_of t)).state) (seen_row c t row (at c t.clients.entries) here plan plans)

-- and tells the same ends
pub planned_tells : (plan : Plan) (c : ℕ) (row : Client) (t : Tables) → PlansAt t (at c t.clients.entries) (Some plan)
    → (state_of t).clients c ≡ Some row
    → TellsSame (goes_on plan.next c (hears (heard_of plan) c (state_of t))).told (answers c row (state_of t)).told
planned_tells plan c row t plans here = λ rows log.
    ap (λ (s : State). logged rows (goes_on plan.next c s).told log) (heard_is plan c row (state_of t) here)
    ∙ ap (λ (q : Asked). logged rows (asks q c (state_of t)).told log) (seen_row c t row (at c t.clients.entries) here plan plans)

-- what follows a plan fits in a packet
pub plan_fits : (plan : Plan) (c : ℕ) (t : Tables) → PlansAt t (at c t.clients.entries) (Some plan) → IsSized t → FitsNext plan.next
plan_fits plan c t plans sized = by_row (at c t.clients.entries) plans
  where
    by_row : (found : Option SeenClient) → PlansAt t found (Some plan) → FitsNext plan.next
    by_row None plans = absurd plans
    by_row (Some client) plans =
        subst (λ (q : Asked). FitsNext q.next) (sym plans.asked)
        (next_fits t.devices sized t.forwards (length client.held) (asking client.held client.about.selected) tt)

-- what follows a plan can be done
pub plan_follows : (plan : Plan) (c : ℕ) (t : Tables) → PlansAt t (at c t.clients.entries) (Some plan) → at 0 t.forwards ≡ None
    → IsSoundNext t.forwards plan.next
plan_follows plan c t plans none = by_row (at c t.clients.entries) plans
  where
    by_row : (found : Option SeenClient) → PlansAt t found (Some plan) → IsSoundNext t.forwards plan.next
    by_row None plans = absurd plans
    by_row (Some client) plans =
        subst (λ (q : Asked). IsSoundNext t.forwards q.next) (sym plans.asked)
        (sound_next t.devices t.forwards none (length client.held) (asking client.held client.about.selected) tt)

-- the requests of a plan are held
pub plan_within : (plan : Plan) (t : Tables) (found : Option SeenClient) → PlansAt t found (Some plan) → HoldsAtLeast plan.used found
plan_within plan t None plans = tt
plan_within plan t (Some client) plans = plans.within

-- ---- a piece that is a whole request
-- nothing of what is held is asked then
pub none_held : (found : Option SeenClient) → HoldsAtLeast 0 found
none_held None = tt
none_held (Some client) = omega arith

module _ (plan : Plan) (c : ℕ) (piece : List ℕ) (t : Tables) (plans : PlansWhole t (at c t.clients.entries) piece plan) where
  pub whole_fits : IsSized t → FitsNext plan.next
  whole_fits sized = by_row (at c t.clients.entries) plans
    where
      by_row : (found : Option SeenClient) → PlansWhole t found piece plan → FitsNext plan.next
      by_row None plans = absurd plans
      by_row (Some client) plans =
          subst (λ (q : Asked). FitsNext q.next) (sym plans.asked.asked)
          (next_fits t.devices sized t.forwards (length piece) (asking piece client.about.selected) tt)

  pub whole_follows : at 0 t.forwards ≡ None → IsSoundNext t.forwards plan.next
  whole_follows none = by_row (at c t.clients.entries) plans
    where
      by_row : (found : Option SeenClient) → PlansWhole t found piece plan → IsSoundNext t.forwards plan.next
      by_row None plans = absurd plans
      by_row (Some client) plans =
          subst (λ (q : Asked). IsSoundNext t.forwards q.next) (sym plans.asked.asked)
          (sound_next t.devices t.forwards none (length piece) (asking piece client.about.selected) tt)

  -- what is asked, with other bytes past it, and another count of them
  abbrev asked_past : List ℕ → ℕ → Asked
  asked_past rest used = record { replies = plan.replies; used = used; rest = rest; selected = plan.selected; next = plan.next }

  -- what follows it is what follows the piece
  pub planned_whole : (row : Client) → (state_of t).clients c ≡ Some row
      → (goes_on plan.next c (hears (heard_of (record plan { used = 0 })) c (state_of t))).state
      ≡ (asks (asks_with t.devices t.forwards piece (asked_before row)) c (state_of t)).state
  planned_whole row here = by_row (at c t.clients.entries) here plans
    where
      or_row : Option Client → Client
      or_row None = row
      or_row (Some row) = row

      by_row : (found : Option SeenClient) → option_map client_row found ≡ Some row → PlansWhole t found piece plan
          → (goes_on plan.next c (hears (heard_of (record plan { used = 0 })) c (state_of t))).state
          ≡ (asks (asks_with t.devices t.forwards piece (asked_before row)) c (state_of t)).state
      by_row None is plans = absurd plans
      by_row (Some client) is plans =
          let same : client_row client ≡ row = ap or_row is in
          let none : row.held ≡ [] = sym (ap (λ (row : Client). row.held) same) ∙ plans.none in
          let past : drop plan.used piece ≡ [] = drop_all plan.used piece (omega (arith, plans.asked.all)) in
          let reads : asks_with t.devices t.forwards piece (asked_before row) ≡ asked_past [] plan.used =
          ap (λ held. reads_on t.devices t.forwards (length (held ++ piece)) (record (asked_before row) { rest = held ++ piece })) none
          ∙ (ap (λ (row : Client). reads_on t.devices t.forwards (length piece) (asking piece row.about.selected)) (sym same)
          ∙ (sym plans.asked.asked ∙ ap (λ rest. asked_past rest plan.used) past)) in
          ap (λ (s : State). (goes_on plan.next c s).state) (heard_is (record plan { used = 0 }) c row (state_of t) here)
          ∙ (ap (λ rest. (asks (asked_past rest 0) c (state_of t)).state) none
          ∙ sym (ap (λ (q : Asked). (asks q c (state_of t)).state) reads))

  -- and tells the same ends
  pub whole_tells : (row : Client) → (state_of t).clients c ≡ Some row
      → TellsSame (goes_on plan.next c (hears (heard_of (record plan { used = 0 })) c (state_of t))).told
      (asks (asks_with t.devices t.forwards piece (asked_before row)) c (state_of t)).told
  whole_tells row here = λ rows log. by_row rows log (at c t.clients.entries) here plans
    where
      or_row : Option Client → Client
      or_row None = row
      or_row (Some row) = row

      by_row : (rows : Rows (Option Stream)) (log : Log) (found : Option SeenClient)
          → option_map client_row found ≡ Some row → PlansWhole t found piece plan
          → logged rows (goes_on plan.next c (hears (heard_of (record plan { used = 0 })) c (state_of t))).told log
          ≡ logged rows (asks (asks_with t.devices t.forwards piece (asked_before row)) c (state_of t)).told log
      by_row rows log None is plans = absurd plans
      by_row rows log (Some client) is plans =
          let same : client_row client ≡ row = ap or_row is in
          let none : row.held ≡ [] = sym (ap (λ (row : Client). row.held) same) ∙ plans.none in
          let past : drop plan.used piece ≡ [] = drop_all plan.used piece (omega (arith, plans.asked.all)) in
          let reads : asks_with t.devices t.forwards piece (asked_before row) ≡ asked_past [] plan.used =
          ap (λ held. reads_on t.devices t.forwards (length (held ++ piece)) (record (asked_before row) { rest = held ++ piece })) none
          ∙ (ap (λ (row : Client). reads_on t.devices t.forwards (length piece) (asking piece row.about.selected)) (sym same)
          ∙ (sym plans.asked.asked ∙ ap (λ rest. asked_past rest plan.used) past)) in
          ap (λ (s : State). logged rows (goes_on plan.next c s).told log) (heard_is (record plan { used = 0 }) c row (state_of t) here)
          ∙ (ap (λ rest. logged rows (asks (asked_past rest 0) c (state_of t)).told log) none
          ∙ sym (ap (λ (q : Asked). logged rows (asks q c (state_of t)).told log) reads))

-- ---- a piece that is held before
-- what is asked replaces what was held
pub asks_anew : (q : Asked) (c : ℕ) (piece : List ℕ) (s : State) → asks q c (takes_in c piece s) ≡ asks q c s
asks_anew q c piece s =
    ap (λ (then : State). then_also (owe_client c q.replies then) (goes_on q.next c))
    (λ i. record s { clients = λ k. by_test (eqb c k) (s.clients k) i })
  where
    by_row : (row : Option Client) → option_and_then (has_asked q) (option_and_then (holding piece) row) ≡ option_and_then (has_asked q) row
    by_row None = refl
    by_row (Some row) = refl

    by_test : (b : Bool) (row : Option Client)
        → cond b (option_and_then (has_asked q) (cond b (option_and_then (holding piece) row) row))
        (cond b (option_and_then (holding piece) row) row)
        ≡ cond b (option_and_then (has_asked q) row) row
    by_test true row = by_row row
    by_test false row = refl

-- the row of a client that holds a piece more
pub holding_row : (c : ℕ) (piece : List ℕ) (s : State) (row : Client) → s.clients c ≡ Some row
    → (takes_in c piece s).clients c ≡ Some (record row { held = row.held ++ piece })
holding_row c piece s row here =
    ap (λ b. cond b (option_and_then (holding piece) (s.clients c)) (s.clients c)) (eq-eqb c c refl)
    ∙ ap (option_and_then (holding piece)) here

-- what is held of a client is the same in a state that is the same
abbrev holds_in : ℕ → Option Client → Type 0
holds_in n None = Unit {0}
holds_in n (Some row) = n ≤ length row.held

pub holds_same : (n c : ℕ) (old new : Tables) → state_of new ≡ state_of old → HoldsAtLeast n (at c old.clients.entries)
    → HoldsAtLeast n (at c new.clients.entries)
holds_same n c old new same holds =
    back (at c new.clients.entries)
    (subst (holds_in n) (sym (ap (λ (s : State). s.clients c) same)) (forth (at c old.clients.entries) holds))
  where
    forth : (found : Option SeenClient) → HoldsAtLeast n found → holds_in n (option_map client_row found)
    forth None holds = tt
    forth (Some client) holds = holds

    back : (found : Option SeenClient) → holds_in n (option_map client_row found) → HoldsAtLeast n found
    back None holds = tt
    back (Some client) holds = holds
