-- The first stray byte, place by place.
use Rattle.std.proofs.Common.{ℕ, suc, ◌+◌, ◌≡◌, ◌<◌, ◌≤◌, min, List, [], ◌∷◌, ◌++◌, length, take, drop, Bool, true, false, Option, Some}
use Rattle.std.proofs.Common.{None, sym, ◌∙◌, ap, arith}
use Rattle.std.specs.Prelude.{get_or, if◌then◌else◌}
use Rattle.std.proofs.Math.Seq.{take-suc, drop-cons}
use Rattle.std.proofs.lemmas.List.{get_or-take, length-take, drop_all}
use Rattle.adb_sync_client.specs.declared.kind.AnswerKind.{AnswerKind}
use Rattle.adb_sync_client.specs.Expected.{may_begin, stray_behind, stray_in}

pub stray_next : (kind : AnswerKind) (bytes : List ℕ) (i : ℕ) → i < min 8 (length bytes)
    → stray_behind kind (take i bytes) (drop i (take 8 bytes))
    ≡ (if may_begin kind (take (suc i) bytes) then stray_behind kind (take (suc i) bytes) (drop (suc i) (take 8 bytes)) else Some i)
stray_next kind bytes i within =
    let head = take 8 bytes in
    let byte = get_or head i 0 in
    let rest = drop (suc i) head in
    let cut : drop i head ≡ byte ∷ rest = drop-cons head i 0 (omega (arith, within, length-take 8 bytes)) in
    let grown : take (suc i) bytes ≡ take i bytes ++ byte ∷ [] =
    take-suc bytes i 0 (omega (arith, within)) ∙ ap (λ b. take i bytes ++ b ∷ []) (sym (get_or-take 8 bytes i 0 (omega (arith, within)))) in
    let size : length (take i bytes) ≡ i = omega (arith, within, length-take i bytes) in
    ap (stray_behind kind (take i bytes)) cut
    ∙ (λ j. if may_begin kind (sym grown j) then stray_behind kind (sym grown j) rest else Some (size j))

-- no byte before a place is stray
abbrev pub ClearUpTo : AnswerKind → List ℕ → ℕ → Type 0
ClearUpTo kind bytes i = stray_in kind bytes ≡ stray_behind kind (take i bytes) (drop i (take 8 bytes))

one_on : (i : ℕ) → suc i ≡ i + 1
one_on i = omega arith

at_next : (kind : AnswerKind) (bytes : List ℕ) (i : ℕ) → may_begin kind (take (suc i) bytes) ≡ may_begin kind (take (i + 1) bytes)
at_next kind bytes i = ap (λ k. may_begin kind (take k bytes)) (one_on i)

-- the next one is or is not, and where none is left none is
pub stray_here : (kind : AnswerKind) (bytes : List ℕ) (i : ℕ) → i < min 8 (length bytes) → ClearUpTo kind bytes i
    → may_begin kind (take (i + 1) bytes) ≡ false
    → Some i ≡ stray_in kind bytes
stray_here kind bytes i within clear stray =
    let on : ℕ → List ℕ → Bool → Option ℕ = λ i bytes may. if may then stray_behind kind (take (suc i) bytes)
    (drop (suc i) (take 8 bytes)) else Some i in
    sym (clear ∙ stray_next kind bytes i within ∙ ap (on i bytes) (at_next kind bytes i ∙ stray))

pub clear_on : (kind : AnswerKind) (bytes : List ℕ) (i : ℕ) → i < min 8 (length bytes) → ClearUpTo kind bytes i
    → may_begin kind (take (i + 1) bytes) ≡ true
    → ClearUpTo kind bytes (i + 1)
clear_on kind bytes i within clear sound =
    let on : ℕ → List ℕ → Bool → Option ℕ = λ i bytes may. if may then stray_behind kind (take (suc i) bytes)
    (drop (suc i) (take 8 bytes)) else Some i in
    clear ∙ (stray_next kind bytes i within ∙ (ap (on i bytes) (at_next kind bytes i ∙ sound)
    ∙ ap (λ k. stray_behind kind (take k bytes) (drop k (take 8 bytes))) (one_on i)))

pub all_clear : (kind : AnswerKind) (bytes : List ℕ) (i : ℕ) → min 8 (length bytes) ≤ i → ClearUpTo kind bytes i
    → None ≡ stray_in kind bytes
all_clear kind bytes i past clear =
    sym (clear ∙ ap (stray_behind kind (take i bytes)) (drop_all i (take 8 bytes) (omega (arith, past, length-take 8 bytes))))
