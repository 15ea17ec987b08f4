-- Output in packets.
use Rattle.std.specs.Prelude.{ℕ, ◌≡◌, ◌≢◌, ◌≤◌, ◌==◌, min, cond, Bool, true, false, List, [], ◌++◌, length, take, drop, refl, zero, suc}
use Rattle.std.proofs.Common.{◌∙◌, ap, sym, arith}
use Rattle.std.proofs.lemmas.Bool.{eq-eqb, ne_eqb}
use Rattle.std.proofs.lemmas.List.{length-drop, take_min, drop_min}
use Rattle.adb_shell_service.specs.declared.output.TheConstants.{MAX_OUTPUT}
use Rattle.adb_shell_service.specs.Output.{packet_bytes, output_at, output_bytes}

-- output where bytes are left, and none where none are
with_more : ℕ → List ℕ → List ℕ → Bool → List ℕ
with_more id bytes more none = cond none [] (packet_bytes id (take MAX_OUTPUT bytes) ++ more)

-- no more packets than bytes are needed
enough : (k m id : ℕ) (bytes : List ℕ) → length bytes ≤ k → length bytes ≤ m → output_at k id bytes ≡ output_at m id bytes
unfolding with_more
enough zero zero id bytes h g = refl
enough zero (suc m) id bytes h g =
    sym (ap (with_more id bytes (output_at m id (drop MAX_OUTPUT bytes))) (eq-eqb (length bytes) 0 (omega arith)))
enough (suc k) zero id bytes h g = ap (with_more id bytes (output_at k id (drop MAX_OUTPUT bytes))) (eq-eqb (length bytes) 0 (omega arith))
enough (suc k) (suc m) id bytes h g = go (length bytes == 0)
    (enough k m id (drop MAX_OUTPUT bytes) (omega (arith, h, length-drop MAX_OUTPUT bytes))
    (omega (arith, g, length-drop MAX_OUTPUT bytes)))
  where
    go : (t : Bool) → output_at k id (drop MAX_OUTPUT bytes) ≡ output_at m id (drop MAX_OUTPUT bytes)
        → cond t [] (packet_bytes id (take MAX_OUTPUT bytes) ++ output_at k id (drop MAX_OUTPUT bytes)) ≡ cond t []
        (packet_bytes id (take MAX_OUTPUT bytes) ++ output_at m id (drop MAX_OUTPUT bytes))
    go true e = refl
    go false e = ap (λ (rest : List ℕ). packet_bytes id (take MAX_OUTPUT bytes) ++ rest) e

-- a packet comes off
pub output_more : (id : ℕ) (bytes : List ℕ) → length bytes ≢ 0
    → output_bytes id bytes ≡ packet_bytes id (take (min MAX_OUTPUT (length bytes)) bytes)
    ++ output_bytes id (drop (min MAX_OUTPUT (length bytes)) bytes)
unfolding with_more
output_more id bytes some =
    enough (length bytes) (suc (length bytes)) id bytes (omega arith) (omega arith)
    ∙ (ap (with_more id bytes (output_at (length bytes) id (drop MAX_OUTPUT bytes))) (ne_eqb (length bytes) 0 some)
    ∙ (ap (λ (rest : List ℕ). packet_bytes id (take MAX_OUTPUT bytes) ++ rest)
    (enough (length bytes) (length (drop MAX_OUTPUT bytes)) id (drop MAX_OUTPUT bytes)
    (omega (arith, length-drop MAX_OUTPUT bytes)) (omega arith))
    ∙ (ap (λ (front : List ℕ). packet_bytes id front ++ output_bytes id (drop MAX_OUTPUT bytes)) (sym (take_min MAX_OUTPUT bytes))
    ∙ ap (λ (rest : List ℕ). packet_bytes id (take (min MAX_OUTPUT (length bytes)) bytes) ++ output_bytes id rest)
    (sym (drop_min MAX_OUTPUT bytes)))))

-- the same of bytes that are cut so
pub output_cut : (id : ℕ) (bytes first others : List ℕ) → length bytes ≢ 0 → first ≡ take (min MAX_OUTPUT (length bytes)) bytes
    → others ≡ drop (min MAX_OUTPUT (length bytes)) bytes → output_bytes id bytes ≡ packet_bytes id first ++ output_bytes id others
output_cut id bytes first others some front back =
    output_more id bytes some
    ∙ (ap (λ (f : List ℕ). packet_bytes id f ++ output_bytes id (drop (min MAX_OUTPUT (length bytes)) bytes)) (sym front)
    ∙ ap (λ (o : List ℕ). packet_bytes id first ++ output_bytes id o) (sym back))
