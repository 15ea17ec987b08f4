-- What the replay of an entry leaves.
use Rattle.std.proofs.Common.{ℕ, ◌≡◌, Bool, true, false, cond, ◌∷◌, None, Result, Ok, Err, refl, sym, ◌∙◌, ap, subst, ◌⊎◌, inl, inr}
use Rattle.std.specs.Prelude.{not}
use Rattle.adb_capture.specs.declared.entry.Entry.{Entry}
use Rattle.adb_capture.specs.declared.entry.Entry.TheVariants.{Put, Send}
use Rattle.adb_history.specs.Machine.{History, state, IsLegal}
use Rattle.adb_history.specs.Kept.{Kept, IsLawful}
use Rattle.adb_history.specs.Drained.{drain_all, drained_after}
use Rattle.adb_history.specs.Accepted.{refusal_of, is_input}
use Rattle.adb_entries.specs.Machine.{Applies}
use Rattle.adb_replay.specs.Stop.{stop_at}
use Rattle.adb_replay.specs.Keeping.{Out, KeepsEntry, IsLoss}
use Rattle.adb_replay.specs.Replay.{IsDrained, IsFrontOf, Drains, DrainsTo, ReplaysEntry, EntryGives, IsReached, history_after}
use Rattle.adb_entries.specs.declared.refused.Refused as machine
use Rattle.adb_entries.specs.declared.refused.Refused.TheVariants as refused
use Rattle.adb_replay.specs.declared.stop.Stop.{Stop}
use Rattle.adb_replay.specs.declared.stop.Stop.TheVariants.{ReadFault, WriteFault, OutOfMemory, Refused}
use Rattle.adb_replay.proofs.Drains.{entry_kept, loses, goes_on, drain_front}

-- an entry that is no hand-out
input_of : (e : Entry) → not (is_input e) ≡ false → is_input e ≡ true
input_of e hand = flip (is_input e) hand
  where
    flip : (b : Bool) → not b ≡ false → b ≡ true
    flip true e = refl
    flip false e = cc

-- a hand-out that was recorded is passed over
passed : (e : Entry) (h : History) → not (is_input e) ≡ true → (refusal_of (state h) e ≡ None) × (history_after e h ≡ h)
passed (Put n bytes) h hand = (refl, refl)
passed (Send n bytes) h hand = (refl, refl)
passed _ h hand = cc

module _ (offset : ℕ) (e : Entry) (h : History) where
  pub passed_over : (holds : Kept) (out : Out) → not (is_input e) ≡ true → IsDrained holds h → ReplaysEntry (Ok tt) offset e h out out holds
  passed_over holds out hand drained =
      let p = passed e h hand in
      record {
        whole = h;
        on = record { legal = drained.lawful.legal; kept = λ had k. k };
        gives = (p.0, sym p.1, drained);
      }

  -- an entry was not made
  pub not_made : (new : Kept) (out : Out) (why : machine.Refused) → IsLegal h → Applies h e (Err why) new
      → ReplaysEntry (Err (stop_at offset why)) offset e h out out new
  not_made new out (refused.Because reason) legal a =
      record { whole = h; on = record { legal = legal; kept = λ had k. k }; gives = (record { at = refl; because = a }, refl) }
  not_made new out refused.OutOfMemory legal a = record { whole = h; on = record { legal = legal; kept = λ had k. k }; gives = inl refl }

  -- An entry was made.
  pub record Made (now : Kept) : Type 0 where
    pub none : refusal_of (state h) e ≡ None
    pub lawful : IsLawful now (e ∷ h)
    pub input : is_input e ≡ true
    pub after : history_after e h ≡ drain_all (e ∷ h)

  pub made : (now : Kept) → not (is_input e) ≡ false → Applies h e (Ok tt) now → Made now
  made now hand a =
      let input = input_of e hand in
      record {
        none = a.0;
        lawful = subst (λ (b : Bool). IsLawful now (cond b (e ∷ h) h)) input a.1;
        input = input;
        after = ap (λ b. cond b (drained_after h e) h) input;
      }

  -- how far it came
  made_reached : (now : Kept) → Made now → (whole : History) → IsFrontOf whole (drain_all (e ∷ h)) → IsReached e h whole
  made_reached now m whole front = inr (m.none, m.input, front)

  gives_part : (why : Stop) (whole : History) (new : Kept) → IsLoss (Err why) → IsReached e h whole
      → EntryGives (Err why) offset e h whole new
  gives_part ReadFault whole new loss reached = absurd loss
  gives_part WriteFault whole new loss reached = reached
  gives_part OutOfMemory whole new loss reached = reached
  gives_part (Refused why) whole new loss reached = absurd loss

  -- it was not kept
  pub not_kept : (now : Kept) (before after : Out) (why : Stop) → Made now → IsLoss (Err why) → KeepsEntry (Err why) e before after
      → ReplaysEntry (Err why) offset e h before after now
  not_kept now before after why m loss keeps =
      let l = loses why e h m.lawful.legal loss keeps in
      record { whole = l.whole; on = l.on; gives = gives_part why l.whole now loss (reached l.whole l.at) }
    where
      reached : (whole : History) → (whole ≡ h) ⊎ (whole ≡ e ∷ h) → IsReached e h whole
      reached whole (inl same) = inl same
      reached whole (inr same) = made_reached now m whole
          (subst (λ (w : History). IsFrontOf w (drain_all (e ∷ h))) (sym same) (drain_front (e ∷ h)))

  -- it was kept, and what was due then was handed out, or a part of it
  pub kept_and_drained : (now new : Kept) (mid : Out) {before after : Out} (result : Result (Unit {0}) Stop)
      → Made now → KeepsEntry (Ok tt) e before mid
      → IsLoss result → Drains result (e ∷ h) mid after new → ReplaysEntry result offset e h before after new
  kept_and_drained now new mid {before} {after} result m keeps loss d = record {
    whole = d.whole;
    on = goes_on {now = e ∷ h} {mid = mid} (λ had k. entry_kept e h had keeps k) d.on;
    gives = go result loss d.to;
  }
    where
      go : (r : Result (Unit {0}) Stop) → IsLoss r → DrainsTo r (e ∷ h) d.whole new → EntryGives r offset e h d.whole new
      go (Ok done) l to = (m.none, to.0 ∙ sym m.after, to.1)
      go (Err why) l to = gives_part why d.whole new l (made_reached now m d.whole to)
