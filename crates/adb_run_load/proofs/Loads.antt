-- How far a load came.
use Rattle.std.proofs.Common.{ℕ, ◌+◌, ◌≡◌, true, cond, List, [], ◌∷◌, ◌++◌, Option, Some, None, Result, Ok, Err, refl, sym, ◌∙◌, ap, subst}
use Rattle.std.proofs.Common.{Bool}
use Rattle.std.specs.Prelude.{OnErr}
use Rattle.std.proofs.lemmas.List.{append_assoc}
use Rattle.adb_capture.specs.declared.entry.Entry.{Entry}
use Rattle.adb_history.specs.Machine.{History, state, IsLegal}
use Rattle.adb_history.specs.Accepted.{is_input}
use Rattle.adb_history.specs.Kept.{Kept, IsLawful}
use Rattle.adb_history.specs.Drained.{owed, drain_all, drained_after, drained_from}
use Rattle.adb_history.specs.Settling.{IsDrainedFrom}
use Rattle.adb_load.specs.declared.act.Act.{Act}
use Rattle.adb_load.specs.declared.act.Act.TheVariants.{Plug, Greet, Come, Ask, Accept, Write, Acknowledge, Answer, Leave, Close}
use Rattle.adb_load.specs.Acts.{entry_of}
use Rattle.adb_load.specs.Course.{start}
use Rattle.adb_load.specs.Load.{load, entries_of, acts_ahead, GivesFirst}
use Rattle.adb_laws_loads.specs.Taken.{IsTaken}
use Rattle.adb_entries.specs.Machine.{Applies, HandsNext}
use Rattle.adb_entries.proofs.Adding.{drain_adds, drained_adds}
use Rattle.adb_run_load.specs.Counted.{IsCount}
use Rattle.adb_run_load.specs.Fronts.{HoldsFront, StandsForFront, IsReady}
use Rattle.adb_run_load.specs.declared.count.Count.{Count}

-- ---- answers
pub on_err : {A E X : Type 0} (result : Result A E) → X → OnErr result X
on_err (Ok value) x = tt
on_err (Err why) x = x

pub given_first : {E : Type 0} (before after : List Entry) (result : Result (Option Entry) E) (given : Option Entry) (e : Entry)
    → GivesFirst before after result → result ≡ Ok given → given ≡ Some e → before ≡ e ∷ after
given_first before after (Ok None) given e gives is some = absurd (let clash : None ≡ Some e = cc in cc)
given_first before after (Ok (Some f)) given e gives is some = let first : f ≡ e = cc in gives ∙ ap (λ (x : Entry). x ∷ after) first
given_first before after (Err why) given e gives is some = absurd (let clash : Err why ≡ Ok given = is in cc)

-- ---- fronts
pub whole_front : (h : History) (holds : Kept) → IsLawful holds h → HoldsFront h holds
whole_front h holds lawful = record { history = h; later = []; is = refl; lawful = lawful }

-- what handing out adds comes later
pub before_draining : (h : History) (holds : Kept) → IsLawful holds h → HoldsFront (drain_all h) holds
before_draining h holds lawful =
    let more = drain_adds (owed (state h)) h in
    record { history = h; later = more.0; is = sym more.1; lawful = lawful }

-- and so does what further entries add
pub then_more : (h : History) (inputs : List Entry) (holds : Kept) → HoldsFront h holds → HoldsFront (drained_from h inputs) holds
then_more h inputs holds front =
    let more = drained_adds h inputs in
    record {
      history = front.history;
      later = more.0 ++ front.later;
      is = append_assoc more.0 front.later front.history ∙ (ap (λ (x : History). more.0 ++ x) front.is ∙ sym more.1);
      lawful = front.lawful;
    }

-- entries come in two parts
pub drained_parts : (h : History) (first others : List Entry)
    → drained_from h (first ++ others) ≡ drained_from (drained_from h first) others
drained_parts h [] others = refl
drained_parts h (e ∷ first) others = drained_parts (drained_after h e) first others

-- ---- handing out
-- How far it has come: the history now, which ends where all hand-outs end.
pub record Draining (h : History) (holds : Kept) (count : Count) : Type 0 where
  pub done : History
  pub lawful : IsLawful holds done
  pub counted : IsCount done count
  pub ends : drain_all h ≡ drain_all done

pub draining_first : (h : History) (holds : Kept) (count : Count) → IsLawful holds h → IsCount h count → Draining h holds count
draining_first h holds count lawful counted = record { done = h; lawful = lawful; counted = counted; ends = refl }

-- what a loop of hand-outs keeps
abbrev pub HandingOut : Kept → Count → Kept → Count → Type 0
HandingOut start count_start holds count = (h : History) → IsLawful start h → IsCount h count_start → Draining h holds count

-- a hub made its next hand-out
abbrev pub Hands : Kept → Option Entry → Kept → Type 0
Hands holds out new = (h : History) → IsLawful holds h → HandsNext h out new

module _ (drains : (h : History) → IsLegal h → IsDrainedFrom h) {h : History} {holds : Kept} {count : Count}
    (d : Draining h holds count) where
  -- no memory for it
  pub draining_stopped : HoldsFront (drain_all h) holds
  draining_stopped = subst (λ (whole : History). HoldsFront whole holds) (sym d.ends) (before_draining d.done holds d.lawful)

  -- there is none
  pub draining_over : (new : Kept) → Hands holds None new → IsLawful new (drain_all h) × IsCount (drain_all h) count
  draining_over new hands =
      let n = hands d.done d.lawful in
      let same : drain_all h ≡ d.done = d.ends ∙ (drains d.done d.lawful.legal).over (sym n.0) in
      (subst (λ (x : History). IsLawful new x) (sym same) n.1, subst (λ (x : History). IsCount x count) (sym same) d.counted)

  -- it was made, and counted
  pub draining_on : (e : Entry) (new : Kept) (count_new : Count) → Hands holds (Some e) new
      → ((h : History) → IsLegal (e ∷ h) → IsCount h count → IsCount (e ∷ h) count_new) → Draining h new count_new
  draining_on e new count_new hands counts =
      let n = hands d.done d.lawful in record {
        done = e ∷ d.done;
        lawful = n.1;
        counted = counts d.done n.1.legal d.counted;
        ends = d.ends ∙ (drains d.done d.lawful.legal).next e (sym n.0);
      }

  -- it was made, and not counted
  pub draining_lost : (e : Entry) (new : Kept) → Hands holds (Some e) new → HoldsFront (drain_all h) new
  draining_lost e new hands =
      let n = hands d.done d.lawful in
      subst (λ (whole : History). HoldsFront whole new) (sym (d.ends ∙ (drains d.done d.lawful.legal).next e (sym n.0)))
      (before_draining (e ∷ d.done) new n.1)

-- ---- an entry
-- it was made
pub entry_made : (h : History) (e : Entry) (new : Kept) → is_input e ≡ true → Applies h e (Ok tt) new → IsLawful new (e ∷ h)
entry_made h e new input applied = subst (λ (b : Bool). IsLawful new (cond b (e ∷ h) h)) input applied.1

-- ---- a load
-- no entry of a load is a hand-out
input_of : (act : Act) → is_input (entry_of act) ≡ true
input_of (Plug link) = refl
input_of (Greet link) = refl
input_of (Come stream) = refl
input_of (Ask stream) = refl
input_of (Accept stream) = refl
input_of (Write stream from count) = refl
input_of (Acknowledge stream) = refl
input_of (Answer stream from count piece) = refl
input_of (Leave stream) = refl
input_of (Close stream) = refl

input_in : (acts : List Act) (front rest : List Entry) (e : Entry) → entries_of acts ≡ front ++ e ∷ rest → is_input e ≡ true
input_in [] [] rest e is = absurd (let clash : [] ≡ e ∷ rest = is in cc)
input_in [] (f ∷ front) rest e is = absurd (let clash : [] ≡ f ∷ (front ++ e ∷ rest) = is in cc)
input_in (act ∷ acts) [] rest e is = let same : entry_of act ≡ e = cc in subst (λ (x : Entry). is_input x ≡ true) same (input_of act)
input_in (act ∷ acts) (f ∷ front) rest e is = let others : entries_of acts ≡ front ++ e ∷ rest = cc in input_in acts front rest e others

-- each entry of a load may come when it comes
abbrev pub AreAccepted : Type 0
AreAccepted = (seed streams : ℕ) (front rest : List Entry) (e : Entry) → load seed streams ≡ front ++ e ∷ rest
    → IsLegal (drained_from [] front)
    → IsTaken (drained_from [] front) e

-- How far a load has come: the entries that were made, and those that are still to come.
pub record Running (seed streams : ℕ) (ahead : List Entry) (holds : Kept) (count : Count) : Type 0 where
  pub inputs : List Entry
  pub is : load seed streams ≡ inputs ++ ahead
  pub lawful : IsLawful holds (drained_from [] inputs)
  pub counted : IsCount (drained_from [] inputs) count

module _ {seed streams : ℕ} {ahead : List Entry} {holds : Kept} {count : Count} (r : Running seed streams ahead holds count) where
  whole_is : drained_from [] (load seed streams) ≡ drained_from (drained_from [] r.inputs) ahead
  whole_is = ap (drained_from []) r.is ∙ drained_parts [] r.inputs ahead

  -- memory ran out before the next entry
  pub running_stopped : StandsForFront (load seed streams) holds
  running_stopped = subst (λ (whole : History). HoldsFront whole holds) (sym whole_is)
      (then_more (drained_from [] r.inputs) ahead holds (whole_front (drained_from [] r.inputs) holds r.lawful))

  module _ (e : Entry) (rest : List Entry) (first : ahead ≡ e ∷ rest) where
    split : load seed streams ≡ r.inputs ++ e ∷ rest
    split = r.is ∙ ap (λ (x : List Entry). r.inputs ++ x) first

    -- the next one may come
    pub running_taken : AreAccepted → IsTaken (drained_from [] r.inputs) e
    running_taken accepted = accepted seed streams r.inputs rest e split r.lawful.legal

    pub running_ready : AreAccepted → IsReady e holds count
    running_ready accepted = record {
      history = drained_from [] r.inputs;
      lawful = r.lawful;
      counted = r.counted;
      taken = running_taken accepted;
      input = input_in (acts_ahead (start seed streams)) r.inputs rest e split;
    }

    -- it was made
    pub running_on : (new : Kept) (count_new : Count)
        → IsLawful new (drained_after (drained_from [] r.inputs) e) × IsCount (drained_after (drained_from [] r.inputs) e) count_new
        → Running seed streams rest new count_new
    running_on new count_new reached =
        let same : drained_from [] (r.inputs ++ e ∷ []) ≡ drained_after (drained_from [] r.inputs) e =
        drained_parts [] r.inputs (e ∷ []) in record {
          inputs = r.inputs ++ e ∷ [];
          is = split ∙ sym (append_assoc r.inputs (e ∷ []) rest);
          lawful = subst (λ (x : History). IsLawful new x) (sym same) reached.0;
          counted = subst (λ (x : History). IsCount x count_new) (sym same) reached.1;
        }

    -- memory ran out on it
    pub running_lost : (new : Kept) → HoldsFront (drained_after (drained_from [] r.inputs) e) new → StandsForFront (load seed streams) new
    running_lost new front = subst (λ (whole : History). HoldsFront whole new)
        (sym (whole_is ∙ ap (drained_from (drained_from [] r.inputs)) first))
        (then_more (drained_after (drained_from [] r.inputs) e) rest new front)
