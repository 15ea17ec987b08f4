-- Who is handed something came before.
use Rattle.std.proofs.Common.{ℕ, ◌≡◌, ◌≤◌, ◌<◌, ◌⊎◌, inl, inr, true, false, leb, List, ◌∷◌, Option, Some, None, refl, sym, ◌∙◌, subst}
use Rattle.std.proofs.Common.{arith, zero, suc}
use Rattle.std.proofs.lemmas.Bool.Decides.{leb_tells}
use Rattle.adb_capture.specs.declared.entry.Entry.TheVariants.{Put, Send}
use Rattle.adb_history.specs.Rows.{Client, Link}
use Rattle.adb_history.specs.Machine.{History, state, IsLegal, MayPut, MaySend}
use Rattle.adb_history.specs.Orderly.{IsDrawnOnly}
use Rattle.adb_history.specs.Book.{plugged_count}
use Rattle.adb_history.specs.Tied.{came_count}
use Rattle.adb_history.proofs.Numbers.{counted}
use Rattle.adb_history.proofs.OrderlyStates.{orderly}

nobody : {A : Type 0} {row : A} → None ≡ Some row → ⊥
nobody e = cc

drawn_there : {A : Type 0} (drawn n : ℕ) (rows : ℕ → Option A) (row : A) → IsDrawnOnly drawn rows → rows n ≡ Some row
    → (0 < n) × (n ≤ drawn)
drawn_there drawn zero rows row only there = absurd (nobody (sym only.zero ∙ there))
drawn_there drawn (suc n) rows row only there = (omega arith, go (leb_tells (suc n) drawn))
  where
    go : ((leb (suc n) drawn ≡ true) × (suc n ≤ drawn)) ⊎ ((leb (suc n) drawn ≡ false) × (drawn < suc n)) → suc n ≤ drawn
    go (inl fits) = fits.1
    go (inr past) = absurd (nobody (sym (only.above (suc n) past.1) ∙ there))

-- who is put something to
pub client_came : (c : ℕ) (bytes : List ℕ) (h : History) → IsLegal (Put c bytes ∷ h) → (0 < c) × (c ≤ came_count h)
client_came c bytes h legal = go ((state h).clients c) refl legal.2
  where
    go : (row : Option Client) → (state h).clients c ≡ row → MayPut (state h) row bytes → (0 < c) × (c ≤ came_count h)
    go None there may = absurd may
    go (Some client) there may =
        subst (λ (n : ℕ). (0 < c) × (c ≤ n)) (counted h).joined
        (drawn_there (state h).joined c (state h).clients client (orderly h legal.0).clients there)

-- where something is sent to
pub link_came : (t : ℕ) (bytes : List ℕ) (h : History) → IsLegal (Send t bytes ∷ h) → (0 < t) × (t ≤ plugged_count h)
link_came t bytes h legal = go ((state h).links t) refl legal.2
  where
    go : (row : Option Link) → (state h).links t ≡ row → MaySend row bytes → (0 < t) × (t ≤ plugged_count h)
    go None there may = absurd may
    go (Some link) there may =
        subst (λ (n : ℕ). (0 < t) × (t ≤ n)) (counted h).plugged
        (drawn_there (state h).devices.drawn t (state h).links link (orderly h legal.0).links there)
