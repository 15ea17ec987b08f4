-- Each hand-out makes those that are still to come one less.
use Rattle.std.proofs.Common.{ℕ, ◌+◌, ◌≡◌, ◌<◌, ◌∷◌, length, Option, Some, None, Result, Ok, Err, sym, ◌∙◌, ap, arith, zero, suc}
use Rattle.std.specs.Prelude.{IfOk, IfSome}
use Rattle.adb_outside.proofs.TableLaws.{shows}
use Rattle.adb_capture.specs.declared.entry.Entry.{Entry}
use Rattle.adb_history.specs.Rows.{State}
use Rattle.adb_history.specs.Machine.{History, state, IsLegal}
use Rattle.adb_history.specs.Kept.{Kept, kept, IsLawful}
use Rattle.adb_history.specs.Drained.{next_out, owed, or_stay, drain, drain_all, put_to, send_on}
use Rattle.adb_history.specs.Orderly.{IsOrderly}
use Rattle.adb_history.specs.Settling.{IsDrainedFrom}
use Rattle.adb_history.proofs.OrderlyStates.{orderly}
use Rattle.adb_entries.specs.Machine.{HandsNext, IsHeld, Puts, Sends}
use Rattle.adb_entries.specs.Remaining.{shown, one_more, outs, all_outs, remaining}

shown_kept : (s : State) → IsOrderly s → shown (kept s) ≡ s
shown_kept s ok = λ i. record {
  joined = s.joined;
  drawn = s.drawn;
  clients = λ c. shows s.clients s.joined ok.clients.zero ok.clients.above c i;
  links = λ t. shows s.links s.devices.drawn ok.links.zero ok.links.above t i;
  streams = λ l. shows s.streams s.drawn ok.streams.zero ok.streams.above l i;
  devices = s.devices;
  forwards = s.forwards;
  stopped = s.stopped;
}

remaining_is : (holds : Kept) (h : History) → IsLawful holds h → remaining holds ≡ all_outs (state h)
remaining_is holds h lawful = ap remaining lawful.seen ∙ ap all_outs (shown_kept (state h) (orderly h lawful.legal))

-- each is an entry more of the drained history
outs_added : (k : ℕ) (h : History) → length (drain k h) ≡ outs k (state h) + length h
outs_added zero h = omega arith
outs_added (suc k) h = go (next_out (state h)) (λ e. outs_added k (e ∷ h))
  where
    go : (o : Option Entry) → ((e : Entry) → length (drain k (e ∷ h)) ≡ outs k (state (e ∷ h)) + length (e ∷ h))
        → length (or_stay o h (λ e. drain k (e ∷ h))) ≡ one_more o (λ e. outs k (state (e ∷ h))) + length h
    go None others = omega arith
    go (Some e) others = omega (arith, others e)

-- A hand-out was made.
hands_fewer : ((h : History) → IsLegal h → IsDrainedFrom h) → (holds new : Kept) (h : History) (e : Entry) → IsLawful holds h
    → HandsNext h (Some e) new → remaining new < remaining holds
hands_fewer drains holds new h e lawful hands =
    let same : length (drain_all h) ≡ length (drain_all (e ∷ h)) = ap length ((drains h lawful.legal).next e (sym hands.0)) in
    omega (
      arith,
      same,
      outs_added (owed (state h)) h,
      outs_added (owed (state (e ∷ h))) (e ∷ h),
      remaining_is holds h lawful,
      remaining_is new (e ∷ h) hands.1,
    )

-- A hand-out to the owner that comes next was made, or memory ran out.
module _ (drains : (h : History) → IsLegal h → IsDrainedFrom h) (holds new : Kept) (held : IsHeld holds) (n : ℕ) where
  pub fewer_sent : ((h : History) → IsLawful holds h → next_out (state h) ≡ send_on n ((state h).links n))
      → {E : Type 0} (result : Result (Option Entry) E)
      → IfOk result (λ out. (h : History) → IsLawful holds h → Sends n h out holds new)
      → IfOk result (λ out. IfSome out (λ _. remaining new < remaining holds))
  fewer_sent next (Ok None) sends = tt
  fewer_sent next (Ok (Some e)) sends =
      let made = sends held.0 held.1 in hands_fewer drains holds new held.0 e held.1 (made.0 ∙ sym (next held.0 held.1), made.1)
  fewer_sent next (Err why) sends = tt

  pub fewer_put : ((h : History) → IsLawful holds h → next_out (state h) ≡ put_to (state h).devices n ((state h).clients n)) → {E : Type 0}
      (result : Result (Option Entry) E)
      → IfOk result (λ out. (h : History) → IsLawful holds h → Puts n h out holds new)
      → IfOk result (λ out. IfSome out (λ _. remaining new < remaining holds))
  fewer_put next (Ok None) puts = tt
  fewer_put next (Ok (Some e)) puts =
      let made = puts held.0 held.1 in hands_fewer drains holds new held.0 e held.1 (made.0 ∙ sym (next held.0 held.1), made.1)
  fewer_put next (Err why) puts = tt
