-- Clients that come through forwards.
use Rattle.std.proofs.Common.{ℕ, ◌+◌, ◌-◌, ◌≡◌, ◌≢◌, ◌≤◌, ◌++◌, List, [], ◌∷◌, length, true, Option, Some, None, Result, Ok, Err}
use Rattle.std.proofs.Common.{sym, ◌∙◌, ap, subst, cond, arith, ◌⊎◌, inl, inr}
use Rattle.std.specs.Prelude.{OnOk, IfSome, option_and_then}
use Rattle.std.specs.BTreeMap.{is_at}
use Rattle.std.specs.Ordering.{nat_cmp}
use Rattle.std.proofs.lemmas.Bool.{cases_eq, eq-eqb, ne_eqb}
use Rattle.std.proofs.lemmas.List.{length-append}
use Rattle.std.proofs.lemmas.List.Elements.{All-weaker}
use Rattle.std.proofs.lemmas.Map.Entries.{All-lookup}
use Rattle.adb_outside.specs.Tables.{at, put_row, change_row}
use Rattle.adb_wire.specs.declared.headers.TheConstants.{MAX_PAYLOAD}
use Rattle.adb_forward.specs.Forwards.{IsForwardTable, IsRow}
use Rattle.adb_forward.specs.declared.row.ForwardRow.{ForwardRow}
use Rattle.adb_outside.specs.declared.remote.TheConstants.{MAX_REMOTE}
use Rattle.adb_history.specs.Rows.{Client, State, to_client, none_kept, new_client}
use Rattle.adb_history.specs.Streams.{opens}
use Rattle.adb_history.specs.Reading.{comes, comes_in_vain, enters_by}
use Rattle.adb_hub_tables.specs.declared.tables.Tables.{Tables}
use Rattle.adb_hub_clients.specs.Leaving.{Leaves}
use Rattle.adb_hub_clients.specs.declared.entering.Way.{Way}
use Rattle.adb_hub_clients.specs.Entering.{Leads}

-- ---- the way of a forward

-- the OPEN of a forward is no long packet
pub short_open : (table : List (ℕ × ForwardRow)) → IsForwardTable table → (port : ℕ) (row : ForwardRow) → at port table ≡ Some row
    → (payload : List ℕ) → payload ≡ row.remote ++ 0 ∷ [] → length payload ≤ MAX_PAYLOAD
short_open table sound port row here payload is =
    let each = All-weaker (λ (e : ℕ × ForwardRow). IsRow e.0 e.1) (λ (e : ℕ × ForwardRow). length e.1.remote ≤ MAX_REMOTE)
    (λ e h. h.specification.short) table sound.rows in
    let short : IfSome (Some row) (λ (row : ForwardRow). length row.remote ≤ MAX_REMOTE) =
    subst (λ (found : Option ForwardRow). IfSome found (λ row. length row.remote ≤ MAX_REMOTE)) here
    (All-lookup (λ (row : ForwardRow). length row.remote ≤ MAX_REMOTE) (is_at (nat_cmp port)) table each) in
    within row.remote short payload is
  where
    within : (remote : List ℕ) → length remote ≤ MAX_REMOTE → (payload : List ℕ) → payload ≡ remote ++ 0 ∷ [] → length payload ≤ MAX_PAYLOAD
    within remote short payload is = let n = ap length is ∙ length-append remote (0 ∷ []) in omega (arith, short, n)

-- a forward that leads to its device is one by which a stream is asked for
pub enters_with : {E : Type 0} (result : Result (Unit {0}) E) (way : Way) (row : Option ForwardRow) (c : ℕ) (s : State) (new : Tables)
    → Leads (Some way) row s.devices
    → OnOk result ((service : List ℕ) → way.payload ≡ service ++ 0 ∷ [] → Leaves (opens true c way.link service (comes true c s)).state new)
    → OnOk result (Leaves (enters_by c row s).state new)
enters_with result way None c s new leads opened = absurd leads
enters_with (Err error) way (Some row) c s new leads opened = tt
enters_with (Ok done) way (Some row) c s new leads opened =
    subst (λ b. Leaves
    (cond b (opens true c row.transport row.remote (comes true c s))
    (record { state = comes_in_vain s; told = [] })).state new)
    (sym leads.connected)
    (subst (λ (link : ℕ). Leaves (opens true c link row.remote (comes true c s)).state new) leads.link (opened row.remote leads.payload))

-- ---- a client that came goes again
pub comes_back : (c : ℕ) (s old : State) → s.clients c ≡ None → c ≡ s.joined + 1 → old ≡ comes true c s
    → record (to_client c none_kept old) { joined = c - 1 } ≡ s
comes_back c s old fresh next came =
    ap (λ (then : State). record (to_client c none_kept then) { joined = c - 1 }) came
    ∙ (λ i. record s { joined = last i; clients = λ k. at_place k i })
  where
    last : c - 1 ≡ s.joined
    last = omega (arith, next)

    at_place : (k : ℕ) → change_row c (option_and_then (none_kept {A = Client}))
        (put_row c (Some (new_client true c)) s.clients) k ≡ s.clients k
    at_place k = by_place (cases_eq c k)
      where
        by_place : ◌⊎◌ (c ≡ k) (c ≢ k)
            → change_row c (option_and_then (none_kept {A = Client})) (put_row c (Some (new_client true c)) s.clients) k ≡ s.clients k
        by_place (inl is) =
            ap (λ b. cond b (option_and_then (none_kept {A = Client}) (cond b (Some (new_client true c)) (s.clients k)))
            (cond b (Some (new_client true c)) (s.clients k)))
            (eq-eqb c k is)
            ∙ (sym fresh ∙ ap s.clients is)
        by_place (inr other) =
            ap (λ b. cond b (option_and_then (none_kept {A = Client}) (cond b (Some (new_client true c)) (s.clients k)))
            (cond b (Some (new_client true c)) (s.clients k)))
            (ne_eqb c k other)
