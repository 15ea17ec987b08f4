-- Bytes that are held and bytes that are still to come.
use Rattle.std.proofs.Common.{ℕ, ◌+◌, ◌-◌, ◌≡◌, ◌≤◌, List, ◌++◌, length, take, drop, Option, Some, sym, ◌∙◌, ap, arith}
use Rattle.std.specs.Prelude.{option_map}
use Rattle.std.specs.List.{copy_within}
use Rattle.std.proofs.lemmas.List.{append_assoc, take-append-drop, take-take, length-take-le, length-drop, drop-append-le}
use Rattle.std.proofs.lemmas.List.Edits.{take-paste}
use Rattle.std.proofs.lemmas.Slice.{between_is}
use lib.Seq.{take-add}
use Rattle.adb_outside.specs.Source.{Takes}

-- the first bytes that were to come are held now
pub keeps_more : (old held chunk coming : List ℕ) (after : Option (List ℕ)) (n : ℕ) → held ≡ old ++ take n chunk
    → Takes coming after chunk n
    → option_map (λ rest. held ++ rest) after ≡ Some (old ++ coming)
keeps_more old held chunk coming after n is t =
    ap (λ a. option_map (λ (rest : List ℕ). held ++ rest) a) t.rest
    ∙ ap Some (ap (λ h. h ++ drop n coming) (is ∙ ap (λ k. old ++ k) t.front)
    ∙ (append_assoc old (take n coming) (drop n coming) ∙ ap (λ k. old ++ k) (take-append-drop n coming)))

-- what lies between two places lies at the front, once it was moved there
pub moved : (bytes : List ℕ) (start end : ℕ) → start ≤ end → end ≤ length bytes
    → take (0 + (end - start)) (copy_within bytes start end 0) ≡ drop start (take end bytes)
moved bytes start end ordered within =
    take-paste bytes 0 (drop start bytes) (end - start) (omega arith) (omega (arith, ordered, within, length-drop start bytes))
    ∙ between_is bytes start end

-- the first bytes of a place behind those that are held are held too
pub held_more : (bytes : List ℕ) (start end n room : ℕ) → start ≤ end → end ≤ length bytes → n ≤ room
    → drop start (take (end + n) bytes) ≡ drop start (take end bytes) ++ take n (take (end + room - end) (drop end bytes))
held_more bytes start end n room ordered within few =
    ap (drop start) (take-add end n bytes)
    ∙ (drop-append-le start (take end bytes) (take n (drop end bytes)) (omega (arith, ordered, length-take-le end bytes within))
    ∙ ap (λ more. drop start (take end bytes) ++ more) (sym (take-take n (end + room - end) (drop end bytes) (omega (arith, few)))))
