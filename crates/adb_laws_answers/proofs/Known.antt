-- A service that the model device knows is asked for by its own text.
use Rattle.std.specs.Prelude.{ℕ, ◌≡◌, ◌&&◌, Bool, true, false, cond, is_some, nat_eq, List, [], ◌∷◌, length, take, drop, codes, Option}
use Rattle.std.specs.Prelude.{Some, None, bytes_eq}
use Rattle.std.specs.Cmp.Lexicographic.{pointwise}
use Rattle.std.specs.List.{starts_with}
use Rattle.std.proofs.Common.{refl, sym, ◌∙◌, ap, ◌⊎◌, inl, inr, suc}
use Rattle.std.proofs.lemmas.Bool.{eqb-true}
use Rattle.adb_request.specs.Meaning.{meaning}
use Rattle.adb_request.specs.declared.request.Request.TheVariants.{Service}
use Rattle.adb_device_streams.specs.Asked.{Kind, Echoes, Syncs, Shells, service_of, shell_with}

-- a choice that gives something, by its test or behind it
tested : {A : Type 0} (t : Bool) (one others : Option A) → is_some (cond t one others) ≡ true → (t ≡ true) ⊎ (is_some others ≡ true)
tested true one others some = inl refl
tested false one others some = inr some

both_first : (a b : Bool) → (a && b) ≡ true → a ≡ true
both_first true b e = refl
both_first false b e = e

-- a text begins with a byte
abbrev BeginsWith : ℕ → List ℕ → Type 0
BeginsWith b text = (rest : List ℕ) × (text ≡ b ∷ rest)

by_text : (b : ℕ) (word text : List ℕ) → bytes_eq text (b ∷ word) ≡ true → BeginsWith b text
by_text b word [] e = absurd (let clash : false ≡ true = e in cc)
by_text b word (x ∷ rest) e = (rest, ap (λ (y : ℕ). y ∷ rest) (eqb-true x b (both_first (nat_eq x b) (bytes_eq rest word) e)))

by_front : (b : ℕ) (word text : List ℕ) → pointwise nat_eq (b ∷ word) (take (suc (length word)) text) ≡ true → BeginsWith b text
by_front b word [] e = absurd (let clash : false ≡ true = e in cc)
by_front b word (x ∷ rest) e =
    (rest, ap (λ (y : ℕ). y ∷ rest) (sym (eqb-true b x (both_first (nat_eq b x) (pointwise nat_eq word (take (length word) rest)) e))))

pub begins_known : (text : List ℕ) → is_some (service_of text) ≡ true → BeginsWith 101 text ⊎ BeginsWith 115 text
begins_known text known = echo (tested (bytes_eq text (codes "echo:")) (Some Echoes) behind_echo known)
  where
    nothing : Option Kind
    nothing = None

    behind_shell : Option Kind
    behind_shell = cond (starts_with nat_eq text (codes "shell,")) (shell_with (drop 6 text)) nothing

    behind_sync : Option Kind
    behind_sync = cond (starts_with nat_eq text (codes "shell:")) (Some (Shells false (drop 6 text))) behind_shell

    behind_echo : Option Kind
    behind_echo = cond (bytes_eq text (codes "sync:")) (Some Syncs) behind_sync

    words : (starts_with nat_eq text (codes "shell,") ≡ true) ⊎ (is_some nothing ≡ true) → BeginsWith 101 text ⊎ BeginsWith 115 text
    words (inl e) = inr (by_front 115 (codes "hell,") text e)
    words (inr e) = absurd (let clash : false ≡ true = e in cc)

    shell : (starts_with nat_eq text (codes "shell:") ≡ true) ⊎ (is_some behind_shell ≡ true) → BeginsWith 101 text ⊎ BeginsWith 115 text
    shell (inl e) = inr (by_front 115 (codes "hell:") text e)
    shell (inr e) = words (tested (starts_with nat_eq text (codes "shell,")) (shell_with (drop 6 text)) nothing e)

    sync : (bytes_eq text (codes "sync:") ≡ true) ⊎ (is_some behind_sync ≡ true) → BeginsWith 101 text ⊎ BeginsWith 115 text
    sync (inl e) = inr (by_text 115 (codes "ync:") text e)
    sync (inr e) = shell (tested (starts_with nat_eq text (codes "shell:")) (Some (Shells false (drop 6 text))) behind_shell e)

    echo : (bytes_eq text (codes "echo:") ≡ true) ⊎ (is_some behind_echo ≡ true) → BeginsWith 101 text ⊎ BeginsWith 115 text
    echo (inl e) = inl (by_text 101 (codes "cho:") text e)
    echo (inr e) = sync (tested (bytes_eq text (codes "sync:")) (Some Syncs) behind_sync e)

-- the two bytes stand before no request of the host
e_means : (rest : List ℕ) → meaning (101 ∷ rest) ≡ Service (101 ∷ rest)
unfolding meaning
e_means rest = refl

s_means : (rest : List ℕ) → meaning (115 ∷ rest) ≡ Service (115 ∷ rest)
unfolding meaning
s_means rest = refl

pub means_service : (text : List ℕ) → is_some (service_of text) ≡ true → meaning text ≡ Service text
means_service text known = go (begins_known text known)
  where
    go : BeginsWith 101 text ⊎ BeginsWith 115 text → meaning text ≡ Service text
    go (inl (rest, is)) = ap meaning is ∙ (e_means rest ∙ ap Service (sym is))
    go (inr (rest, is)) = ap meaning is ∙ (s_means rest ∙ ap Service (sym is))
