-- What went out of the lines that were kept, and how a run ends then.
use Rattle.std.proofs.Common.{ℕ, ◌≡◌, ◌⊎◌, inl, inr, List, [], ◌++◌, Option, Some, Result, Ok, Err}
use Rattle.std.proofs.Common.{refl, sym, ◌∙◌, ap, subst}
use Rattle.std.proofs.lemmas.List.{append-nil}
use Rattle.adb_history.specs.Machine.{History, IsLegal}
use Rattle.adb_check.specs.Formed.{Formed, history_of}
use Rattle.adb_check.specs.declared.capture.Judgement.{Judgement}
use Rattle.adb_check.specs.declared.capture.Judgement.TheVariants as judged
use Rattle.adb_check.specs.declared.verdict.Rule.{Rule}
use Rattle.adb_outside.specs.Outside.{Rises, Counts}
use Rattle.adb_replay.specs.Keeping.{Out, Keeps, HasFront, CountsReads, is_write_fault}
use Rattle.adb_replay.specs.declared.stop.Stop.{Stop}
use Rattle.adb_replay.specs.declared.stop.Stop.TheVariants as stop
use Rattle.adb_entry_lines.specs.declared.payload.Payloads.{Payloads}
use Rattle.adb_explain.specs.Explaining.{Begins, IsText, KeepsAll, KeepsFirst, Writes, WritesFirst, WritesPart, EndsAs, WritesBy}
use Rattle.adb_explain.specs.Lines.{lines}
use Rattle.adb_explain.specs.Stopping.{EndsIn}
use Rattle.adb_explain.specs.declared.status.Status.{Status}
use Rattle.adb_explain.specs.declared.status.Status.TheVariants as status

-- what is the same in an option is the same
pub same_some : {A : Type 0} (x y : A) → Some x ≡ Some y → x ≡ y
same_some x y e = cc

-- ---- nothing was read
begins_none : (all : History) → Begins [] all
begins_none all = record { later = all; is = sym (append-nil all); legal = tt }

pub kept_none : (payloads : Payloads) (all : History) (had : List ℕ) (out : Out) → out.0 ≡ Some had → out.1 ≡ []
    → KeepsFirst payloads all had out
kept_none payloads all had out has none = record {
  earlier = [];
  begins = begins_none all;
  kept = record { growth = []; is = has ∙ ap Some (sym (append-nil had)); whole = none };
}

pub written_none : (payloads : Payloads) (all : History) (had : List ℕ) (written : Option (List ℕ)) → written ≡ Some had
    → WritesFirst payloads all had written
written_none payloads all had written has = record { earlier = []; begins = begins_none all; is = has ∙ ap Some (sym (append-nil had)) }

-- ---- what was gathered goes out
module _ (payloads : Payloads) (f : Formed) (had : List ℕ) (out : Out) (written : Option (List ℕ)) where
  -- all lines of a legal history are a text
  text_all : IsLegal (history_of f) → IsText payloads (history_of f) (lines payloads (history_of f))
  text_all legal = inl (history_of f, record { later = []; is = refl; legal = legal }, refl)

  -- what the sink had lost it has still
  still : (text : List ℕ) → (out.1 ≡ [] → written ≡ out.0) → HasFront had text out.0 × (out.1 ≡ []) → HasFront had text written
  still text nothing lost = subst (λ (w : Option (List ℕ)). HasFront had text w) (sym (nothing lost.1)) lost.0

  -- It went out.
  pub written_all : (result : Result Judgement Stop) → KeepsAll result payloads f had out
      → ((text : List ℕ) → Keeps had text out → written ≡ Some (had ++ text)) → (out.1 ≡ [] → written ≡ out.0)
      → Writes result payloads f had written
  written_all (Ok (judged.Legal entries)) k goes nothing = goes _ k
  written_all (Ok (judged.Illegal place rule)) k goes nothing = record { bad = k.bad; is = goes _ k.kept }
  written_all (Err stop.ReadFault) k goes nothing = record { earlier = k.earlier; begins = k.begins; is = goes _ k.kept }
  written_all (Err stop.WriteFault) k goes nothing = record { text = k.text; is = k.is; front = still k.text nothing k.lost }
  written_all (Err stop.OutOfMemory) k goes nothing = record { earlier = k.earlier; begins = k.begins; is = goes _ k.kept }
  written_all (Err (stop.Refused why)) k goes nothing = goes _ k

  -- The sink failed over it.
  pub written_part : (result : Result Judgement Stop) (left : Option (List ℕ)) → KeepsAll result payloads f had out → EndsAs result f left
      → ((text : List ℕ) → Keeps had text out → HasFront had text written) → (out.1 ≡ [] → written ≡ out.0)
      → WritesPart payloads (history_of f) had written
  written_part (Ok (judged.Legal entries)) left k ends goes nothing = record { text = _; is = text_all ends.1; front = goes _ k }
  written_part (Ok (judged.Illegal place rule)) left k ends goes nothing =
      record { text = _; is = inr (place, rule, k.bad, refl); front = goes _ k.kept }
  written_part (Err stop.ReadFault) left k ends goes nothing =
      record { text = _; is = inl (k.earlier, k.begins, refl); front = goes _ k.kept }
  written_part (Err stop.WriteFault) left k ends goes nothing = record { text = k.text; is = k.is; front = still k.text nothing k.lost }
  written_part (Err stop.OutOfMemory) left k ends goes nothing =
      record { text = _; is = inl (k.earlier, k.begins, refl); front = goes _ k.kept }
  written_part (Err (stop.Refused why)) left k ends goes nothing = record { text = _; is = text_all ends.1; front = goes _ k }

  -- ---- the status of a run
  whole_front : (text : List ℕ) → written ≡ Some (had ++ text) → HasFront had text written
  whole_front text is = record { growth = text; is = is; front = ([], append-nil text) }

  -- whatever went out is a prefix of a text
  part_of : (result : Result Judgement Stop) (left : Option (List ℕ)) → Writes result payloads f had written → EndsAs result f left
      → WritesPart payloads (history_of f) had written
  part_of (Ok (judged.Legal entries)) left w ends = record { text = _; is = text_all ends.1; front = whole_front _ w }
  part_of (Ok (judged.Illegal place rule)) left w ends =
      record { text = _; is = inr (place, rule, w.bad, refl); front = whole_front _ w.is }
  part_of (Err stop.ReadFault) left w ends = record { text = _; is = inl (w.earlier, w.begins, refl); front = whole_front _ w.is }
  part_of (Err stop.WriteFault) left w ends = w
  part_of (Err stop.OutOfMemory) left w ends = record { text = _; is = inl (w.earlier, w.begins, refl); front = whole_front _ w.is }
  part_of (Err (stop.Refused why)) left w ends = record { text = _; is = text_all ends.1; front = whole_front _ w }

  pub run_done : (entries : ℕ) (left : Option (List ℕ)) → Writes (Ok (judged.Legal entries)) payloads f had written
      → EndsAs (Ok (judged.Legal entries)) f left → WritesBy status.Done payloads f left had written
  run_done entries left w ends = (ends.0, ends.1, ends.3, w)

  pub run_illegal : (place : ℕ) (rule : Rule) (left : Option (List ℕ)) (said : Status) → (said ≡ status.Illegal) ⊎
      (said ≡ status.WriteFault)
      → Writes (Ok (judged.Illegal place rule)) payloads f had written → EndsAs (Ok (judged.Illegal place rule)) f left
      → WritesBy said payloads f left had written
  run_illegal place rule left said (inl own) w ends =
      subst (λ (s : Status). WritesBy s payloads f left had written) (sym own) (place, rule, w)
  run_illegal place rule left said (inr other) w ends =
      subst (λ (s : Status). WritesBy s payloads f left had written) (sym other) (part_of (Ok (judged.Illegal place rule)) left w ends)

  pub run_stopped : (why : Stop) (left : Option (List ℕ)) (said : Status) → EndsIn why said → Writes (Err why) payloads f had written
      → EndsAs (Err why) f left → WritesBy said payloads f left had written
  run_stopped why left status.Done ends_in w ends = absurd ends_in
  run_stopped why left status.Usage ends_in w ends = absurd ends_in
  run_stopped why left status.ReadFault ends_in w ends = subst (λ (s : Stop). Writes (Err s) payloads f had written) ends_in w
  run_stopped why left status.WriteFault ends_in w ends = part_of (Err why) left w ends
  run_stopped why left status.BadCapture ends_in w ends =
      let so = subst (λ (s : Stop). EndsAs (Err s) f left) ends_in.1 ends in
      (ends_in.0, so.0, so.1, subst (λ (s : Stop). Writes (Err s) payloads f had written) ends_in.1 w)
  run_stopped why left status.Illegal ends_in w ends = absurd ends_in
  run_stopped stop.ReadFault left status.OutOfMemory ends_in w ends = absurd ends_in
  run_stopped stop.WriteFault left status.OutOfMemory ends_in w ends = absurd ends_in
  run_stopped stop.OutOfMemory left status.OutOfMemory ends_in w ends = w
  run_stopped (stop.Refused why) left status.OutOfMemory ends_in w ends =
      record { earlier = history_of f; begins = record { later = []; is = refl; legal = ends.1 }; is = w }

-- ---- counts of faults
pub read_counted : {A : Type 0} (steady : A → Type 0) (faults : A → ℕ) (old new : A) (why : Stop) → why ≡ stop.ReadFault
    → CountsReads (Err why) (Counts steady faults old new) → Rises (faults old) (faults new)
read_counted steady faults old new why is counts =
    (subst (λ (s : Stop). CountsReads (Err s) (Counts steady faults old new)) is counts).fault refl

pub write_counted : {A : Type 0} (steady : A → Type 0) (faults : A → ℕ) (old new : A) (why : Stop) → why ≡ stop.WriteFault
    → Counts steady faults old new (is_write_fault (Err why)) → Rises (faults old) (faults new)
write_counted steady faults old new why is counts =
    (subst (λ (s : Stop). Counts steady faults old new (is_write_fault (Err s))) is counts).fault refl
