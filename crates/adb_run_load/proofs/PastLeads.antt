-- What came down is counted, entry by entry.
use Rattle.std.proofs.Common.{ℕ, ◌+◌, ◌-◌, ◌≡◌, ◌≢◌, ◌≤◌, ◌<◌, ◌⊎◌, inl, inr, true, false, cond, eqb, List, []}
use Rattle.std.proofs.Common.{◌∷◌, ◌++◌, length, refl, sym, ◌∙◌, ap, subst, arith}
use Rattle.std.proofs.lemmas.Bool.{eq-eqb, ne_eqb}
use Rattle.std.proofs.lemmas.Bool.Decides.{eqb_tells}
use Rattle.std.proofs.lemmas.List.{length-append}
use Rattle.adb_outside.specs.Tables.{at}
use Rattle.adb_capture.specs.declared.entry.Entry.{Entry}
use Rattle.adb_capture.specs.declared.entry.Entry.TheVariants.{Join, Enter, Put}
use Rattle.adb_history.specs.Machine.{History, IsLegal}
use Rattle.adb_history.specs.Bytes.{bytes_put}
use Rattle.adb_history.specs.Tied.{came_count}
use Rattle.adb_history.proofs.Numbers.{next_number}
use Rattle.adb_laws_loads.specs.Totals.{sum_to, past_leads, lead_len}
use Rattle.adb_run_load.specs.Totals.{told}
use Rattle.adb_run_load.specs.Counted.{IsDown, Comes, Hands, AddsDown, lead_at}
use Rattle.adb_run_load.specs.declared.down.Down.{Down}
use Rattle.adb_run_load.proofs.Sums.{told_more, sum_grown, sum_longer}
use Rattle.adb_run_load.proofs.Drawn.{client_came}

none_past : (bytes : List ℕ) → bytes ≡ [] → length bytes - lead_len ≡ 0
none_past bytes none = ap (λ (b : List ℕ). length b - lead_len) none

all_left : (bytes : List ℕ) → bytes ≡ [] → lead_len ≡ lead_len - length bytes
all_left bytes none = sym (ap (λ (b : List ℕ). lead_len - length b) none)

-- a client came
module _ (h : History) (c : ℕ) (old new : Down) (d : IsDown h old) (next : c ≡ came_count h + 1) (comes : Comes c old new) where
  total : new.total ≡ told (sum_to (λ c. length (bytes_put c h) - lead_len) (came_count h + 1))
  total =
      let first : bytes_put (came_count h + 1) h ≡ [] = d.later (came_count h + 1) (omega arith) in
      comes.total ∙ (d.total
      ∙ ap told (sym
      (sum_longer (λ c. length (bytes_put c h) - lead_len) (came_count h)
      (none_past (bytes_put (came_count h + 1) h) first))))

  leads : (q : ℕ) → 0 < q → q ≤ came_count h + 1 → lead_at (at q new.leads.entries) ≡ lead_len - length (bytes_put q h)
  leads q positive within = go (eqb_tells q c)
    where
      go : ((eqb q c ≡ true) × (q ≡ c)) ⊎ ((eqb q c ≡ false) × (q ≢ c))
          → lead_at (at q new.leads.entries) ≡ lead_len - length (bytes_put q h)
      go (inl same) =
          let none : bytes_put q h ≡ [] = d.later q (omega (arith, same.1, next)) in
          ap (λ (n : ℕ). lead_at (at n new.leads.entries)) same.1 ∙ (ap lead_at comes.leads.here ∙ all_left (bytes_put q h) none)
      go (inr other) = ap lead_at (comes.leads.others q other.1) ∙ d.leads q positive (omega (arith, within, next, other.1))

  later : (q : ℕ) → came_count h + 1 < q → bytes_put q h ≡ []
  later q past = d.later q (omega (arith, past))

  joined_down : IsDown (Join c ∷ h) new
  joined_down = record { total = total; leads = leads; later = later }

  entered_down : (port : ℕ) → IsDown (Enter c port ∷ h) new
  entered_down port = record { total = total; leads = leads; later = later }

-- bytes were put to a client
module _ (h : History) (c : ℕ) (bytes : List ℕ) (old new : Down) (d : IsDown h old) (came : (0 < c) × (c ≤ came_count h))
    (hands : Hands c (length bytes) old new) where
  put_here : (q : ℕ) → q ≡ c → bytes_put q (Put c bytes ∷ h) ≡ bytes_put q h ++ bytes
  put_here q same = ap (λ b. cond b (bytes_put q h ++ bytes) (bytes_put q h)) (eq-eqb c q (sym same))

  put_other : (q : ℕ) → q ≢ c → bytes_put q (Put c bytes ∷ h) ≡ bytes_put q h
  put_other q other = ap (λ b. cond b (bytes_put q h ++ bytes) (bytes_put q h)) (ne_eqb c q (λ same. other (sym same)))

  size_here : (q : ℕ) → q ≡ c → length (bytes_put q (Put c bytes ∷ h)) ≡ length (bytes_put q h) + length bytes
  size_here q same = ap length (put_here q same) ∙ length-append (bytes_put q h) bytes

  lead : lead_at (at c old.leads.entries) ≡ lead_len - length (bytes_put c h)
  lead = d.leads c came.0 came.1

  put_total : new.total ≡ told (past_leads (Put c bytes ∷ h))
  put_total =
      let size = size_here c refl in
      let delta = length bytes - lead_at (at c old.leads.entries) in
      let here : length (bytes_put c (Put c bytes ∷ h)) - lead_len ≡ length (bytes_put c h) - lead_len + delta =
      omega (arith, size, lead) in
      let grown = sum_grown (λ q. length (bytes_put q h) - lead_len) (λ q. length (bytes_put q (Put c bytes ∷ h)) - lead_len)
      c delta (came_count h) came.0 came.1
      (λ q other. ap (λ (b : List ℕ). length b - lead_len) (put_other q other)) here in
      hands.total ∙ (ap (λ n. told (n + delta)) d.total ∙ (told_more (past_leads h) delta ∙ ap told (sym grown)))

  put_leads : (q : ℕ) → 0 < q → q ≤ came_count h → lead_at (at q new.leads.entries) ≡ lead_len - length (bytes_put q (Put c bytes ∷ h))
  put_leads q positive within = go (eqb_tells q c)
    where
      go : ((eqb q c ≡ true) × (q ≡ c)) ⊎ ((eqb q c ≡ false) × (q ≢ c))
          → lead_at (at q new.leads.entries) ≡ lead_len - length (bytes_put q (Put c bytes ∷ h))
      go (inl same) =
          subst (λ (n : ℕ). lead_at (at n new.leads.entries) ≡ lead_len - length (bytes_put n (Put c bytes ∷ h))) (sym same.1) at_c
        where
          at_c : lead_at (at c new.leads.entries) ≡ lead_len - length (bytes_put c (Put c bytes ∷ h))
          at_c = let size = size_here c refl in omega (arith, size, lead, hands.here)
      go (inr other) =
          ap lead_at (hands.others q other.1)
          ∙ (d.leads q positive within ∙ ap (λ (b : List ℕ). lead_len - length b) (sym (put_other q other.1)))

  put_down : IsDown (Put c bytes ∷ h) new
  put_down = record {
    total = put_total;
    leads = put_leads;
    later = λ q past. put_other q (λ same. omega (arith, past, came.1, same)) ∙ d.later q past;
  }

-- any entry
pub down_added : (e : Entry) (h : History) (old new : Down) → IsLegal (e ∷ h) → IsDown h old → AddsDown e old new → IsDown (e ∷ h) new
down_added (Join c) h old new legal d adds = joined_down h c old new d (next_number (Join c) h legal.2) adds
down_added (Enter c port) h old new legal d adds = entered_down h c old new d (next_number (Enter c port) h legal.2) adds port
down_added (Put c bytes) h old new legal d adds = put_down h c bytes old new d (client_came c bytes h legal) adds
down_added e h old new legal d adds =
    subst (λ (x : Down). IsDown (e ∷ h) x) (sym adds) (record { total = d.total; leads = d.leads; later = d.later })
