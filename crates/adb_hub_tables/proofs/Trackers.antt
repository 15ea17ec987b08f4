-- All clients that track are marked.
use Rattle.std.proofs.Common.{ℕ, ◌≡◌, List, [], ◌∷◌, Option, Some, None, refl, sym, ◌∙◌, ap, cond, eqb, true, false, Bool, ◌⊎◌, inl, inr}
use Rattle.std.specs.Prelude.{option_map}
use Rattle.std.proofs.lemmas.Bool.{eq-eqb}
use Rattle.adb_outside.specs.Tables.{at, Rows, change_row}
use Rattle.adb_client.specs.Client.{SeenClient}
use Rattle.adb_client.specs.declared.phase.Phase.{Phase}
use Rattle.adb_client.specs.declared.phase.Phase.TheVariants.{Asking, Opening, Streaming, Binding, Tracking, Closing, Gone}
use Rattle.adb_history.specs.Rows.{Client}
use Rattle.adb_history.specs.Tracking.{marked_in, marked}
use Rattle.adb_hub_tables.specs.Tables.{client_row}
use Rattle.adb_hub_tables.specs.Tracked.{clients_of, marked_each, IsAmong, IsListedIn, IsListedAt}

same_phase : (phase : Phase) (c : Client) → (marked_in phase c).about.phase ≡ c.about.phase
same_phase Asking c = refl
same_phase (Opening l) c = refl
same_phase (Streaming l) c = refl
same_phase Binding c = refl
same_phase Tracking c = refl
same_phase Closing c = refl
same_phase Gone c = refl

again : (phase : Phase) (c : Client) → marked_in phase (marked_in phase c) ≡ marked_in phase c
again Asking c = refl
again (Opening l) c = refl
again (Streaming l) c = refl
again Binding c = refl
again Tracking c = refl
again Closing c = refl
again Gone c = refl

twice : (row : Option Client) → option_map marked (option_map marked row) ≡ option_map marked row
twice None = refl
twice (Some c) = ap Some (ap (λ phase. marked_in phase (marked c)) (same_phase c.about.phase c) ∙ again c.about.phase c)

-- the row at a number after another is marked
moved : (k c : ℕ) (rows : Rows (Option Client)) → option_map marked (rows c) ≡ rows c → change_row k (option_map marked) rows c ≡ rows c
moved k c rows same = by_place (eqb k c)
  where
    by_place : (b : Bool) → cond b (option_map marked (rows c)) (rows c) ≡ rows c
    by_place true = same
    by_place false = refl

unmoved : (keys : List ℕ) (rows : Rows (Option Client)) (c : ℕ) → option_map marked (rows c) ≡ rows c → marked_each keys rows c ≡ rows c
unmoved [] rows c same = refl
unmoved (k ∷ keys) rows c same =
    let here = moved k c rows same in
    unmoved keys (change_row k (option_map marked) rows) c (ap (option_map marked) here ∙ (same ∙ sym here)) ∙ here

-- and of one that is marked already or then
then_marked : (k c : ℕ) (rows : Rows (Option Client)) → option_map marked (change_row k (option_map marked) rows c)
    ≡ option_map marked (rows c)
then_marked k c rows = by_place (eqb k c)
  where
    by_place : (b : Bool) → option_map marked (cond b (option_map marked (rows c)) (rows c)) ≡ option_map marked (rows c)
    by_place true = twice (rows c)
    by_place false = refl

listed_marked : (keys : List ℕ) (rows : Rows (Option Client)) (c : ℕ) → IsAmong c keys
    → marked_each keys rows c ≡ option_map marked (rows c)
listed_marked [] rows c there = absurd there
listed_marked (k ∷ keys) rows c (inl is) =
    let here : change_row k (option_map marked) rows c ≡ option_map marked (rows c) =
    ap (λ b. cond b (option_map marked (rows c)) (rows c)) (eq-eqb k c is) in
    unmoved keys (change_row k (option_map marked) rows) c (then_marked k c rows ∙ sym here) ∙ here
listed_marked (k ∷ keys) rows c (inr later) = listed_marked keys (change_row k (option_map marked) rows) c later ∙ then_marked k c rows

-- a client that does not track has no mark to get
spared : (keys : List ℕ) (c : ℕ) (phase : Phase) (client : Client) → IsListedIn phase c keys
    → ◌⊎◌ (IsAmong c keys) (marked_in phase client ≡ client)
spared keys c Asking client listed = inr refl
spared keys c (Opening l) client listed = inr refl
spared keys c (Streaming l) client listed = inr refl
spared keys c Binding client listed = inr refl
spared keys c Tracking client listed = inl listed
spared keys c Closing client listed = inr refl
spared keys c Gone client listed = inr refl

pub all_marked : (keys : List ℕ) (clients : List (ℕ × SeenClient)) → ((c : ℕ) → IsListedAt c keys (at c clients))
    → marked_each keys (clients_of clients) ≡ (λ c. option_map marked (clients_of clients c))
all_marked keys clients listed i c = at_row c (at c clients) refl (listed c) i
  where
    at_row : (c : ℕ) (row : Option SeenClient) → at c clients ≡ row → IsListedAt c keys row
        → marked_each keys (clients_of clients) c ≡ option_map marked (clients_of clients c)
    at_row c None is listed =
        let none : clients_of clients c ≡ None = ap (option_map client_row) is in
        let same : option_map marked (clients_of clients c) ≡ clients_of clients c = ap (option_map marked) none ∙ sym none in
        unmoved keys (clients_of clients) c same ∙ sym same
    at_row c (Some client) is listed = by_list (spared keys c client.about.phase (client_row client) listed)
      where
        by_list : ◌⊎◌ (IsAmong c keys) (marked_in client.about.phase (client_row client) ≡ client_row client)
            → marked_each keys (clients_of clients) c ≡ option_map marked (clients_of clients c)
        by_list (inl among) = listed_marked keys (clients_of clients) c among
        by_list (inr plain) =
            let some : clients_of clients c ≡ Some (client_row client) = ap (option_map client_row) is in
            let same : option_map marked (clients_of clients c) ≡ clients_of clients c =
            ap (option_map marked) some ∙ (ap Some plain ∙ sym some) in
            unmoved keys (clients_of clients) c same ∙ sym same
