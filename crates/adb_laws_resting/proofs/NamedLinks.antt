-- A link that lives behind more bytes keeps what their packets left.
use Rattle.std.proofs.Common.{ℕ, ◌≡◌, Bool, true, false, List, ◌∷◌, ◌++◌, Option, Some, None, is_some, refl, sym, ◌∙◌, ap, subst}
use Rattle.std.proofs.lemmas.Bool.{eq-eqb}
use Rattle.std.specs.Prelude.{cond, not, ◌&&◌}
use Rattle.adb_outside.specs.Framing.{joined}
use Rattle.adb_wire.specs.Cutting.{framed}
use Rattle.adb_capture.specs.declared.entry.Entry.TheVariants.{Recv}
use Rattle.adb_history.specs.Rows.{Link, State}
use Rattle.adb_history.specs.Events.{spelled_to}
use Rattle.adb_history.specs.Machine.{History, state, rule, ups, IsLegal}
use Rattle.adb_history.specs.Bytes.{is_lost, bytes_received}
use Rattle.adb_history.specs.Book.{plugged_count}
use Rattle.adb_history.specs.Tied.{came_count, IsReadAs}
use Rattle.adb_history.proofs.Growing.{RowStep, LinkStays, Keeps}
use Rattle.adb_history.proofs.GrowingRules.{keeps_up_all}
use Rattle.adb_history.proofs.OutputEntries.{tied_rule, tied}
use Rattle.adb_history.proofs.Received.{ReadTie, framed_piece, received, all_rest_past_packets}
use Rattle.adb_laws_resting.specs.Named.{KeepsCut, KeepsRest, cut_behind}

-- what the up rule leaves of a link that lives
record IsLeft (before : Link) (after : Option Link) : Type 0 where
  link : Link
  is : after ≡ Some link
  rest : link.rest ≡ before.rest
  sums : link.sums ≡ before.sums

module _ (before : Link) (told : List ℕ) where
  left : (o p : Option Link) → o ≡ Some before → RowStep LinkStays o p told → is_some p ≡ is_some o → IsLeft before p
  left None p is step lives = absurd (let clash : None ≡ Some before = is in cc)
  left (Some a) None is step lives = absurd (let clash : false ≡ true = lives in cc)
  left (Some a) (Some b) is step lives =
      let same : a ≡ before = cc in
      subst (λ (x : Link). IsLeft x (Some b)) same (record { link = b; is = refl; rest = step.rest; sums = step.sums })

module _ (h : History) (t : ℕ) (bytes : List ℕ) (legal : IsLegal (Recv t bytes ∷ h)) where
  abbrev ruled : State
  ruled = (rule (Recv t bytes) (state h)).state

  ups_keep : Keeps (came_count (Recv t bytes ∷ h)) (plugged_count (Recv t bytes ∷ h)) ruled (ups ruled)
  ups_keep = keeps_up_all (came_count (Recv t bytes ∷ h)) (plugged_count (Recv t bytes ∷ h)) ruled.drawn ruled
      (tied_rule h (tied h legal.0) (Recv t bytes) legal.2).streams

  end_of : (now : Link) → ruled.links t ≡ Some now → IsLeft now ((state (Recv t bytes ∷ h)).links t)
  end_of now there =
      left now (spelled_to t (ups ruled).told) (ruled.links t) ((state (Recv t bytes ∷ h)).links t) there
      (ups_keep.links t) (ups_keep.linked t)

  module _ (link : Link) (here : (state h).links t ≡ Some link) where
    before : ReadTie (is_lost t h) (Some link) (bytes_received t h)
    before = subst (λ (o : Option Link). ReadTie (is_lost t h) o (bytes_received t h)) here ((received h legal.0).links t)

    more : bytes_received t (Recv t bytes ∷ h) ≡ bytes_received t h ++ bytes
    more = ap (λ (b : Bool). cond (b && not (is_lost t h)) (bytes_received t h ++ bytes) (bytes_received t h)) (eq-eqb t t refl)
        ∙ ap (λ (b : Bool). cond (not b) (bytes_received t h ++ bytes) (bytes_received t h)) before.1

    whole : framed (bytes_received t (Recv t bytes ∷ h)) ≡ joined (framed (bytes_received t h)).given (cut_behind link bytes)
    whole = ap framed more ∙ framed_piece (bytes_received t h) bytes link before.0

    kept : (now : Link) → ruled.links t ≡ Some now → KeepsCut (cut_behind link bytes) now
    kept now there =
        let end : IsLeft now ((state (Recv t bytes ∷ h)).links t) = end_of now there in
        let read : IsReadAs (Recv t bytes ∷ h) t end.link = all_rest_past_packets (Recv t bytes ∷ h) legal t end.link end.is in
        record {
          sums = sym end.sums ∙ (sym read.sums ∙ ap (λ c. c.reading.sums) whole);
          rest = sym end.rest ∙ (sym read.rest ∙ ap (λ c. c.rest) whole);
        }

pub keeps_rest : (h : History) (t : ℕ) (bytes : List ℕ) → IsLegal (Recv t bytes ∷ h) → (link : Link) → (state h).links t ≡ Some link
    → KeepsRest t bytes link (state h)
keeps_rest h t bytes legal link here = kept h t bytes legal link here
