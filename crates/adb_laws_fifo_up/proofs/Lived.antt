-- What a client wrote as long as its stream lived, entry after entry.
use Rattle.std.proofs.Common.{◌≡◌, ◌≢◌, ℕ, Bool, true, false, cond, [], ◌∷◌, ◌++◌, drop, Option, Some, None, refl, sym, ap, ◌∙◌}
use Rattle.std.specs.Prelude.{is_some}
use Rattle.std.proofs.lemmas.Bool.{ne_eqb}
use Rattle.adb_capture.specs.declared.entry.Entry.{Entry}
use Rattle.adb_capture.specs.declared.entry.Entry.TheVariants.{Read}
use Rattle.adb_history.specs.Events.{ending_in}
use Rattle.adb_history.specs.declared.ending.Ending.{Ending}
use Rattle.adb_history.specs.Machine.{History, told_at, told}
use Rattle.adb_history.specs.Bytes.{bytes_read}
use Rattle.adb_history.specs.Births.{Birth}
use Rattle.adb_history.specs.Lives.{ending_of, lived, rest_of}
use Rattle.adb_laws_fifo_up.proofs.Seeing.{ending_or, ending_append}

-- what an entry told of the end of a stream
pub ending_now : (l : ℕ) (e : Entry) (older : History) → ending_of l (e ∷ older)
    ≡ ending_or (ending_of l older) (ending_in l (told_at e older))
ending_now l e older = ending_append l (told older) (told_at e older)

-- of a stream that did not end, all is its life
pub lived_all : (l : ℕ) (h : History) → ending_of l h ≡ None → lived l h ≡ h
lived_all l [] none = refl
lived_all l (e ∷ older) none = go (ending_of l older) (ending_in l (told_at e older)) (sym (ending_now l e older) ∙ none)
  where
    go : (before now : Option Ending) → ending_or before now ≡ None
        → cond (is_some before) (lived l older) (cond (is_some now) older (e ∷ older)) ≡ e ∷ older
    go None None f = refl
    go None (Some ending) f = let clash : Some ending ≡ None = f in cc
    go (Some ending) now f = let clash : Some ending ≡ None = f in cc

-- an entry by which a client does not write
abbrev pub IsNoRead : ℕ → Entry → Type 0
IsNoRead c (Read n bytes) = n ≢ c
IsNoRead c _ = Unit {0}

pub no_read : (c : ℕ) (e : Entry) (older : History) → IsNoRead c e → bytes_read c (e ∷ older) ≡ bytes_read c older
no_read c (Read n bytes) older apart = ap (λ (b : Bool). cond b (bytes_read c older ++ bytes) (bytes_read c older)) (ne_eqb n c apart)
no_read c _ older h = refl

module _ (l : ℕ) (b : Birth) (e : Entry) (older : History) where
  -- a stream that ended before
  pub rest_ended : (ending : Ending) → ending_of l older ≡ Some ending → rest_of l b (e ∷ older) ≡ rest_of l b older
  rest_ended ending is =
      ap (λ (o : Option Ending). drop b.head
      (bytes_read b.client (cond (is_some o) (lived l older) (cond (is_some (ending_in l (told_at e older))) older (e ∷ older)))))
      is

  -- a stream that lived until now
  rest_cases : ending_of l older ≡ None
      → rest_of l b (e ∷ older) ≡ drop b.head (bytes_read b.client (cond (is_some (ending_in l (told_at e older))) older (e ∷ older)))
  rest_cases none =
      ap (λ (o : Option Ending). drop b.head
      (bytes_read b.client (cond (is_some o) (lived l older) (cond (is_some (ending_in l (told_at e older))) older (e ∷ older)))))
      none

  pub rest_before : ending_of l older ≡ None → rest_of l b older ≡ drop b.head (bytes_read b.client older)
  rest_before none = ap (λ (h : History). drop b.head (bytes_read b.client h)) (lived_all l older none)

  -- it ends now, or lives on
  pub rest_ends : (ending : Ending) → ending_of l older ≡ None → ending_in l (told_at e older) ≡ Some ending
      → rest_of l b (e ∷ older) ≡ drop b.head (bytes_read b.client older)
  rest_ends ending none now =
      rest_cases none ∙ ap (λ (o : Option Ending). drop b.head (bytes_read b.client (cond (is_some o) older (e ∷ older)))) now

  pub rest_lives : ending_of l older ≡ None → ending_in l (told_at e older) ≡ None
      → rest_of l b (e ∷ older) ≡ drop b.head (bytes_read b.client (e ∷ older))
  rest_lives none now =
      rest_cases none ∙ ap (λ (o : Option Ending). drop b.head (bytes_read b.client (cond (is_some o) older (e ∷ older)))) now

  -- an entry by which its client does not write
  pub rest_same : IsNoRead b.client e → rest_of l b (e ∷ older) ≡ rest_of l b older
  rest_same h = go (ending_of l older) refl
    where
      same : (x : Bool) → bytes_read b.client (cond x older (e ∷ older)) ≡ bytes_read b.client older
      same true = refl
      same false = no_read b.client e older h

      go : (o : Option Ending) → ending_of l older ≡ o → rest_of l b (e ∷ older) ≡ rest_of l b older
      go None none = rest_cases none ∙ (ap (drop b.head) (same (is_some (ending_in l (told_at e older)))) ∙ sym (rest_before none))
      go (Some ending) is = rest_ended ending is
