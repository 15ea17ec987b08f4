-- Draining ends with nothing due, and a hand-out is one turn of it.
use Rattle.std.proofs.Common.{ℕ, ◌≡◌, ◌≤◌, ◌<◌, ◌∷◌, length, take, Option, Some, None, refl, sym, ◌∙◌, ap, subst, arith, zero, suc}
use Rattle.std.specs.Option.{option_or}
use Rattle.adb_capture.specs.declared.entry.Entry.{Entry}
use Rattle.adb_history.specs.declared.hand_out.TheConstants.{MAX_HAND_OUT}
use Rattle.adb_history.specs.Rows.{State}
use Rattle.adb_history.specs.Events.{Made}
use Rattle.adb_history.specs.Tracking.{offered}
use Rattle.adb_history.specs.Machine.{History, state, step, rule, ups}
use Rattle.adb_history.specs.Drained.{first_send, first_put, next_out, owed, or_stay, drain, drain_all}
use Rattle.adb_history.proofs.HandOuts.{IsSend, IsPut, sends_first, puts_first, hand_out_less}
use Rattle.adb_history.proofs.Calm.{IsCalm, calm_ups, calm_puts, calm_sends}

-- a hand-out where no stream may send leaves it so, and less due
pub record HandsOut (s : State) (e : Entry) : Type 0 where
  pub calm : IsCalm (step s e).state
  pub less : owed (step s e).state < owed s

calm_rule : (s : State) (e : Entry) → next_out s ≡ Some e → IsCalm s → IsCalm (rule e s).state
calm_rule s e is calm = by_send (first_send s.links 1 s.devices.drawn) refl is
  where
    sent : IsSend s e 1 s.devices.drawn → IsCalm (rule e s).state
    sent r = subst (λ (x : Entry). IsCalm (rule x s).state) (sym r.entry) (calm_sends r.link (length (take MAX_HAND_OUT r.row.due)) s calm)

    put : IsPut s e 1 s.joined → IsCalm (rule e s).state
    put r = subst (λ (x : Entry). IsCalm (rule x s).state) (sym r.entry)
        (calm_puts r.client (length (take MAX_HAND_OUT (offered s.devices r.row))) s calm)

    by_send : (o : Option Entry) → first_send s.links 1 s.devices.drawn ≡ o
        → option_or o (first_put s.devices s.clients 1 s.joined) ≡ Some e
        → IsCalm (rule e s).state
    by_send None none found = put (puts_first s e 1 s.joined found)
    by_send (Some x) first found = sent (sends_first s e 1 s.devices.drawn (first ∙ found))

pub hands_out : (s : State) (e : Entry) → next_out s ≡ Some e → IsCalm s → HandsOut s e
hands_out s e is calm =
    let after : State = (rule e s).state in
    let still = calm_rule s e is calm in
    let same : (ups after).state ≡ after = ap (λ (m : Made). m.state) (calm_ups after.drawn after still) in
    record {
      calm = subst IsCalm (sym same) still;
      less = subst (λ (x : State). owed x < owed s) (sym same) (hand_out_less s e is);
    }

-- draining as often as bytes are owed ends with nothing due, and no stream may send then
pub drained_rests : (k : ℕ) (h : History) → IsCalm (state h) → owed (state h) ≤ k
    → (next_out (state (drain k h)) ≡ None) × IsCalm (state (drain k h))
drained_rests zero h calm le = (go (next_out (state h)) refl, calm)
  where
    go : (o : Option Entry) → next_out (state h) ≡ o → next_out (state h) ≡ None
    go None e = e
    go (Some x) e = absurd (omega (arith, (hands_out (state h) x e calm).less))
drained_rests (suc k) h calm le = go (next_out (state h)) refl (λ x. drained_rests k (x ∷ h))
  where
    go : (o : Option Entry) → next_out (state h) ≡ o
        → ((x : Entry) → IsCalm (state (x ∷ h)) → owed (state (x ∷ h)) ≤ k
        → (next_out (state (drain k (x ∷ h))) ≡ None) × IsCalm (state (drain k (x ∷ h))))
        → (next_out (state (or_stay o h (λ x. drain k (x ∷ h)))) ≡ None) × IsCalm (state (or_stay o h (λ x. drain k (x ∷ h))))
    go None e more = (e, calm)
    go (Some x) e more = let out = hands_out (state h) x e calm in more x out.calm (omega (arith, out.less))

-- more turns than that change nothing
pub drained_enough : (k m : ℕ) (h : History) → IsCalm (state h) → owed (state h) ≤ k → owed (state h) ≤ m → drain k h ≡ drain m h
drained_enough zero zero h calm le le2 = refl
drained_enough zero (suc m) h calm le le2 = go (next_out (state h)) refl
  where
    go : (o : Option Entry) → next_out (state h) ≡ o → h ≡ or_stay o h (λ x. drain m (x ∷ h))
    go None e = refl
    go (Some x) e = absurd (omega (arith, (hands_out (state h) x e calm).less))
drained_enough (suc k) zero h calm le le2 = go (next_out (state h)) refl
  where
    go : (o : Option Entry) → next_out (state h) ≡ o → or_stay o h (λ x. drain k (x ∷ h)) ≡ h
    go None e = refl
    go (Some x) e = absurd (omega (arith, (hands_out (state h) x e calm).less))
drained_enough (suc k) (suc m) h calm le le2 = go (next_out (state h)) refl (λ x. drained_enough k m (x ∷ h))
  where
    go : (o : Option Entry) → next_out (state h) ≡ o
        → ((x : Entry) → IsCalm (state (x ∷ h)) → owed (state (x ∷ h)) ≤ k → owed (state (x ∷ h)) ≤ m → drain k (x ∷ h) ≡ drain m (x ∷ h))
        → or_stay o h (λ x. drain k (x ∷ h)) ≡ or_stay o h (λ x. drain m (x ∷ h))
    go None e more = refl
    go (Some x) e more = let out = hands_out (state h) x e calm in more x out.calm (omega (arith, out.less)) (omega (arith, out.less))

-- a hand-out is one turn
pub drain_all_step : (h : History) (e : Entry) → IsCalm (state h) → next_out (state h) ≡ Some e → drain_all h ≡ drain_all (e ∷ h)
drain_all_step h e calm is = go (owed (state h)) refl
  where
    out : HandsOut (state h) e
    out = hands_out (state h) e is calm

    go : (k : ℕ) → owed (state h) ≡ k → drain k h ≡ drain_all (e ∷ h)
    go zero same = absurd (omega (arith, out.less))
    go (suc k) same = ap (λ o. or_stay o h (λ x. drain k (x ∷ h))) is
        ∙ drained_enough k (owed (state (e ∷ h))) (e ∷ h) out.calm (omega (arith, out.less, same)) (omega arith)

-- nothing is due: no turn
pub drain_all_over : (h : History) → next_out (state h) ≡ None → drain_all h ≡ h
drain_all_over h is = go (owed (state h))
  where
    go : (k : ℕ) → drain k h ≡ h
    go zero = refl
    go (suc k) = ap (λ o. or_stay o h (λ x. drain k (x ∷ h))) is
