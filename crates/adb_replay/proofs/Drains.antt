-- Handing out all that is due.
use Rattle.std.proofs.Common.{ℕ, ◌≡◌, List, [], ◌∷◌, ◌++◌, reverse, Option, Some, None, Result, Ok, Err, refl, sym, ◌∙◌, ap, subst, ◌⊎◌}
use Rattle.std.proofs.Common.{inl}
use Rattle.std.proofs.Common.{inr}
use Rattle.std.proofs.lemmas.List.{append_assoc, append-nil, reverse-append}
use Rattle.adb_capture.specs.Records.{record_of, records_of, magic}
use Rattle.adb_capture.specs.declared.entry.Entry.{Entry}
use Rattle.adb_history.specs.Machine.{History, state, IsLegal}
use Rattle.adb_history.specs.Kept.{Kept, IsLawful}
use Rattle.adb_history.specs.Drained.{owed, drain_all}
use Rattle.adb_history.specs.Settling.{IsDrainedFrom}
use Rattle.adb_entries.specs.Machine.{HandsNext}
use Rattle.adb_replay.specs.Keeping.{Out, Keeps, KeepsEntry, LosesRest, IsLoss}
use Rattle.adb_replay.specs.Replay.{written_of, capture_of, IsFrontOf, GoesOn, Drains}
use Rattle.adb_replay.specs.declared.stop.Stop.{Stop}
use Rattle.adb_replay.specs.declared.stop.Stop.TheVariants.{ReadFault, WriteFault, OutOfMemory, Refused}
use Rattle.adb_entries.proofs.Adding.{drain_adds}

-- an entry more
pub written_more : (e : Entry) (h : History) → written_of (e ∷ h) ≡ written_of h ++ record_of e
written_more e h = ap records_of (reverse-append (e ∷ []) h) ∙ two (reverse h)
  where
    two : (es : List Entry) → records_of (es ++ e ∷ []) ≡ records_of es ++ record_of e
    two [] = append-nil (record_of e)
    two (f ∷ es) = ap (λ bytes. record_of f ++ bytes) (two es) ∙ sym (append_assoc (record_of f) (records_of es) (record_of e))

pub capture_more : (e : Entry) (h : History) → capture_of h ++ record_of e ≡ capture_of (e ∷ h)
capture_more e h = append_assoc magic (written_of h) (record_of e) ∙ ap (λ bytes. magic ++ bytes) (sym (written_more e h))

pub entry_kept : (e : Entry) (h : History) (had : List ℕ) {before after : Out} → KeepsEntry (Ok tt) e before after
    → Keeps had (capture_of h) before
    → Keeps had (capture_of (e ∷ h)) after
entry_kept e h had {after = after} keeps k = subst (λ (t : List ℕ). Keeps had t after) (capture_more e h) (keeps had (capture_of h) k)

-- What an entry that was not kept leaves: the history without it, or with it, where a front of its record may have gone out.
pub record Loses (why : Stop) (e : Entry) (h : History) (before after : Out) : Type 0 where
  pub whole : History
  pub at : (whole ≡ h) ⊎ (whole ≡ e ∷ h)
  pub on : GoesOn (Err why) h whole before after

pub loses : (why : Stop) (e : Entry) (h : History) {before after : Out} → IsLegal (e ∷ h) → IsLoss (Err why)
    → KeepsEntry (Err why) e before after
    → Loses why e h before after
loses ReadFault e h {after = after} legal loss keeps = absurd loss
loses WriteFault e h {after = after} legal loss keeps = record {
  whole = e ∷ h;
  at = inr refl;
  on = record {
    legal = legal;
    kept = λ had k. subst (λ (t : List ℕ). LosesRest had t after) (capture_more e h)
        (keeps had (capture_of h) k);
  };
}
loses OutOfMemory e h {after = after} legal loss keeps = record {
  whole = h;
  at = inl refl;
  on = record { legal = legal.0; kept = λ had k. keeps had (capture_of h) k };
}
loses (Refused why) e h {after = after} legal loss keeps = absurd loss

-- what was kept up to a history, and on from there
pub goes_on : {result : Result (Unit {0}) Stop} {h now whole : History} {before mid after : Out}
    → ((had : List ℕ) → Keeps had (capture_of h) before → Keeps had (capture_of now) mid)
    → GoesOn result now whole mid after → GoesOn result h whole before after
goes_on first on = record { legal = on.legal; kept = λ had k. on.kept had (first had k) }

-- what hand-outs add to a history
pub drain_front : (h : History) → IsFrontOf h (drain_all h)
drain_front h = let more = drain_adds (owed (state h)) h in record { more = more.0; is = more.1 }

-- ---- How far handing out has come: the history now, which ends where all hand-outs end.
pub record Draining (h : History) (before now : Out) (holds : Kept) : Type 0 where
  pub done : History
  pub lawful : IsLawful holds done
  pub ends : drain_all h ≡ drain_all done
  pub kept : (had : List ℕ) → Keeps had (capture_of h) before → Keeps had (capture_of done) now

pub draining_first : (h : History) (out : Out) (holds : Kept) → IsLawful holds h → Draining h out out holds
draining_first h out holds lawful = record { done = h; lawful = lawful; ends = refl; kept = λ had k. k }

-- a machine made its next hand-out
abbrev pub Hands : Kept → Option Entry → Kept → Type 0
Hands holds out new = (h : History) → IsLawful holds h → HandsNext h out new

-- no memory for it
pub draining_stopped : {h : History} {before now : Out} {holds : Kept} (new : Kept) → Draining h before now holds
    → Drains (Err OutOfMemory) h before now new
draining_stopped new d = record {
  whole = d.done;
  on = record { legal = d.lawful.legal; kept = d.kept };
  to = subst (λ (all : History). IsFrontOf d.done all) (sym d.ends) (drain_front d.done);
}

-- there is none
pub draining_over : {h : History} {before now : Out} {holds : Kept} (new : Kept)
    → ((h : History) → IsLegal h → IsDrainedFrom h) → Hands holds None new
    → Draining h before now holds → Drains (Ok tt) h before now new
draining_over {h} new drains hands d =
    let n = hands d.done d.lawful in
    let same : drain_all h ≡ d.done = d.ends ∙ (drains d.done d.lawful.legal).over (sym n.0) in
    record {
      whole = d.done;
      on = record { legal = d.lawful.legal; kept = d.kept };
      to = (sym same, record { lawful = n.1; rests = sym n.0 });
    }

-- a hand-out, and what is held and kept before it and after it
pub record HandOut : Type 0 where
  pub held : Kept
  pub kept : Out
  pub entry : Entry
  pub held_then : Kept
  pub kept_then : Out

module _ (h : History) (before : Out) (out : HandOut) (drains : (h : History) → IsLegal h → IsDrainedFrom h)
    (hands : Hands out.held (Some out.entry) out.held_then) (d : Draining h before out.kept out.held) where
  n : HandsNext d.done (Some out.entry) out.held_then
  n = hands d.done d.lawful

  next : drain_all h ≡ drain_all (out.entry ∷ d.done)
  next = d.ends ∙ (drains d.done d.lawful.legal).next out.entry (sym n.0)

  -- it was kept
  pub draining_on : KeepsEntry (Ok tt) out.entry out.kept out.kept_then → Draining h before out.kept_then out.held_then
  draining_on keeps = record {
    done = out.entry ∷ d.done;
    lawful = n.1;
    ends = next;
    kept = λ had k. entry_kept out.entry d.done had keeps (d.kept had k);
  }

  part : (whole : History) → (whole ≡ d.done) ⊎ (whole ≡ out.entry ∷ d.done) → IsFrontOf whole (drain_all h)
  part whole (inl same) = subst (λ (w : History). IsFrontOf w (drain_all h)) (sym same)
      (subst (λ (all : History). IsFrontOf d.done all) (sym d.ends) (drain_front d.done))
  part whole (inr same) = subst (λ (w : History). IsFrontOf w (drain_all h)) (sym same)
      (subst (λ (all : History). IsFrontOf (out.entry ∷ d.done) all) (sym next) (drain_front (out.entry ∷ d.done)))

  -- it was not kept
  pub draining_lost : (why : Stop) → IsLoss (Err why) → KeepsEntry (Err why) out.entry out.kept out.kept_then
      → Drains (Err why) h before out.kept_then out.held_then
  draining_lost why loss keeps =
      let l = loses why out.entry d.done n.1.legal loss keeps in
      record {
        whole = l.whole;
        on = goes_on {now = d.done} d.kept l.on;
        to = part l.whole l.at;
      }

-- what a loop of hand-outs keeps
pub record HandingOut (start now : Kept) (before after : Out) (counted : Type 0) : Type 0 where
  pub draining : (h : History) → IsLawful start h → Draining h before after now
  pub counts : counted
