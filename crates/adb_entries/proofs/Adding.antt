-- What handing out adds to a history.
use Rattle.std.proofs.Common.{ℕ, ◌≡◌, List, [], ◌∷◌, ◌++◌, Option, Some, None, refl, sym, ◌∙◌, ap, zero, suc}
use Rattle.std.proofs.lemmas.List.{append_assoc}
use Rattle.adb_capture.specs.declared.entry.Entry.{Entry}
use Rattle.adb_history.specs.Machine.{History, state}
use Rattle.adb_history.specs.Drained.{or_stay, drain, drained_after, drained_from, next_out, owed}

-- What follows a drained history is put before it, newest first.
pub drain_adds : (k : ℕ) (h : History) → (more : History) × (drain k h ≡ more ++ h)
drain_adds zero h = ([], refl)
drain_adds (suc k) h = go (next_out (state h)) (λ e. drain_adds k (e ∷ h))
  where
    go : (o : Option Entry) → ((e : Entry) → (more : History) × (drain k (e ∷ h) ≡ more ++ e ∷ h))
        → (more : History) × (or_stay o h (λ e. drain k (e ∷ h)) ≡ more ++ h)
    go None others = ([], refl)
    go (Some e) others = let m = others e in (m.0 ++ e ∷ [], m.1 ∙ sym (append_assoc m.0 (e ∷ []) h))

pub drained_adds : (h : History) (inputs : List Entry) → (more : History) × (drained_from h inputs ≡ more ++ h)
drained_adds h [] = ([], refl)
drained_adds h (e ∷ inputs) =
    let first = drain_adds (owed (state (e ∷ h))) (e ∷ h) in
    let others = drained_adds (drained_after h e) inputs in (
      others.0 ++ (first.0 ++ e ∷ []),
      others.1 ∙ (ap (λ g. others.0 ++ g) (first.1 ∙ sym (append_assoc first.0 (e ∷ []) h))
          ∙ sym (append_assoc others.0 (first.0 ++ e ∷ []) h)),
    )
