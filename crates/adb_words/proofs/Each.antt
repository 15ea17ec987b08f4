-- Texts that are read one by one.
use Rattle.std.proofs.Common.{ℕ, ◌≡◌, ◌<◌, ◌≤◌, ◌+◌, zero, suc, List, [], ◌∷◌, ◌++◌, drop, length, Option, Some, None}
use Rattle.std.proofs.Common.{option_map, option_and_then, refl, sym, ◌∙◌, ap}
use Rattle.std.proofs.Common.{append_assoc, append-nil, le_of_suc-le-suc}
use Rattle.std.specs.Prelude.{slice_index_or}
use Rattle.std.specs.Borrow.{Bor}
use Rattle.std.proofs.lemmas.List.{at_drop_more, at_drop_all}
use native.Mathlib.Omega.{arith}
use Rattle.adb_words.specs.Serve.{each_of}
use Rattle.adb_words.specs.Found.{texts_in}

abbrev nowhere : Bor (List ℕ)
nowhere = record { ref_ptr = (0, 0); now = [] }

no_more : {A : Type 0} (o : Option A) → option_and_then (λ x. option_map (λ xs. x ∷ xs) None) o ≡ None
no_more None = refl
no_more (Some x) = refl

-- where one of them can't be read, none are
pub each_stops : {A : Type 0} (read : List ℕ → Option A) (texts : List (Bor (List ℕ))) (i : ℕ) → i < length texts
    → read (slice_index_or texts i (record { ref_ptr = (0, 0); now = [] })).now ≡ None → each_of read (texts_in texts) ≡ None
each_stops read [] i lt e = absurd (omega arith)
each_stops read (text ∷ texts) zero lt e = ap (λ o. option_and_then (λ x. option_map (λ xs. x ∷ xs) (each_of read (texts_in texts))) o) e
each_stops read (text ∷ texts) (suc i) lt e =
    ap (λ o. option_and_then (λ x. option_map (λ xs. x ∷ xs) o) (read text.now)) (each_stops read texts i (le_of_suc-le-suc lt) e)
    ∙ no_more (read text.now)

-- what all texts are, by those that were read, and those from a place on
abbrev pub EachFrom : {A : Type 0} → (List ℕ → Option A) → List (Bor (List ℕ)) → ℕ → List A → Type 0
EachFrom read texts i items = each_of read (texts_in texts) ≡ option_map (λ more. items ++ more) (each_of read (texts_in (drop i texts)))

none_read : {A : Type 0} (o : Option (List A)) → o ≡ option_map (λ more. [] ++ more) o
none_read None = refl
none_read (Some more) = refl

pub each_begins : {A : Type 0} (read : List ℕ → Option A) (texts : List (Bor (List ℕ))) (items : List A) → items ≡ []
    → EachFrom read texts 0 items
each_begins read texts items e =
    none_read (each_of read (texts_in texts)) ∙ ap (λ front. option_map (λ more. front ++ more) (each_of read (texts_in texts))) (sym e)

one_more : {A : Type 0} (items : List A) (x : A) (o : Option (List A))
    → option_map (λ more. items ++ more) (option_map (λ xs. x ∷ xs) o) ≡ option_map (λ more. (items ++ x ∷ []) ++ more) o
one_more items x None = refl
one_more items x (Some more) = ap Some (sym (append_assoc items (x ∷ []) more))

pub each_goes : {A : Type 0} (read : List ℕ → Option A) (texts : List (Bor (List ℕ))) (i : ℕ) (x : A)
    (items more : List A) → i < length texts
    → EachFrom read texts i items → read (slice_index_or texts i (record { ref_ptr = (0, 0); now = [] })).now ≡ Some x
    → more ≡ items ++ x ∷ []
    → EachFrom read texts (i + 1) more
each_goes read texts i x items more lt from e added =
    from
    ∙ (ap (option_map (λ ys. items ++ ys)) (at_drop_more (λ ts. each_of read (texts_in ts)) texts i nowhere lt
    ∙ ap (λ o. option_and_then (λ y. option_map (λ ys. y ∷ ys) (each_of read (texts_in (drop (i + 1) texts)))) o) e)
    ∙ (one_more items x (each_of read (texts_in (drop (i + 1) texts)))
    ∙ ap (λ front. option_map (λ ys. front ++ ys) (each_of read (texts_in (drop (i + 1) texts)))) (sym added)))

pub each_ends : {A : Type 0} (read : List ℕ → Option A) (texts : List (Bor (List ℕ))) (i : ℕ) (items : List A) → length texts ≤ i
    → EachFrom read texts i items → each_of read (texts_in texts) ≡ Some items
each_ends read texts i items le from =
    from ∙ (ap (option_map (λ ys. items ++ ys)) (at_drop_all (λ ts. each_of read (texts_in ts)) texts i le) ∙ ap Some (append-nil items))
