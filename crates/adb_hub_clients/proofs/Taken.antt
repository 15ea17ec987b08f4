-- A piece that is held, and goes again.
use Rattle.std.proofs.Common.{ℕ, ◌-◌, ◌≡◌, ◌++◌, List, length, take, Bool, true, false, Option, Some, None, refl, ◌∙◌, ap, cond, eqb}
use Rattle.std.proofs.Common.{arith}
use Rattle.std.specs.Prelude.{option_and_then}
use Rattle.std.proofs.lemmas.List.{length-append}
use Rattle.std.proofs.Math.Seq.{take-append_seam}
use Rattle.adb_outside.specs.Tables.{change_row}
use Rattle.adb_history.specs.Rows.{Client, State}
use Rattle.adb_hub_clients.specs.Taking.{holding, takes_in, without_last}

front_back : (held piece : List ℕ) (n : ℕ) → length piece ≡ n → take (length (held ++ piece) - n) (held ++ piece) ≡ held
front_back held piece n is =
    let k : length (held ++ piece) - n ≡ length held = let m = length-append held piece in omega (arith, m, is) in
    ap (λ (k : ℕ). take k (held ++ piece)) k ∙ take-append_seam held piece

same_row : (piece : List ℕ) (n : ℕ) → length piece ≡ n → (row : Option Client)
    → option_and_then (without_last n) (option_and_then (holding piece) row) ≡ row
same_row piece n is None = refl
same_row piece n is (Some row) = ap (λ (held : List ℕ). Some (record row { held = held })) (front_back row.held piece n is)

-- a piece that was held and is held no more leaves no trace
pub held_no_more : (c n : ℕ) (piece : List ℕ) (s old : State) → length piece ≡ n → old ≡ takes_in c piece s
    → record old { clients = change_row c (option_and_then (without_last n)) old.clients } ≡ s
held_no_more c n piece s old is held =
    ap (λ (then : State). record then { clients = change_row c (option_and_then (without_last n)) then.clients }) held
    ∙ (λ i. record s { clients = λ k. by_test (eqb c k) (s.clients k) i })
  where
    by_test : (b : Bool) (row : Option Client)
        → cond b (option_and_then (without_last n) (cond b (option_and_then (holding piece) row) row))
        (cond b (option_and_then (holding piece) row) row) ≡ row
    by_test true row = same_row piece n is row
    by_test false row = refl
