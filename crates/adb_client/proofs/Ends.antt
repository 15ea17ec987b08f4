-- Lists that end alike: the handles of a front.
use Rattle.std.proofs.Common.{◌≡◌, ℕ, ◌-◌, ◌<◌, ◌≤◌, List, [], ◌++◌, length, take, drop, zero, suc, All, Option, Some, None, IfSome, refl}
use Rattle.std.proofs.Common.{ap, ◌∙◌, arith, append_assoc, length-append, take-append-drop}
use Rattle.std.specs.Option.{option_to_list}
use Rattle.std.specs.Prelude.{unwrap_or}
use Rattle.std.proofs.Math.Seq.{drop-append_seam}
use Rattle.std.proofs.lemmas.List.Elements.{All-pop, All-weaker}
use Rattle.adb_client.specs.Input.{EndsWith}

-- what ends with a list ends with less of it
pub ends_less : (n : ℕ) (end all : List ℕ) → EndsWith end all → EndsWith (drop n end) all
ends_less n end all h = record {
  start = h.start ++ take n end;
  is = append_assoc h.start (take n end) (drop n end) ∙ (ap (λ (l : List ℕ). h.start ++ l) (take-append-drop n end) ∙ h.is);
}

-- the last bytes of a handle are the front
pub ends_drop : (end all : List ℕ) → EndsWith end all → drop (length all - length end) all ≡ end
ends_drop end all h =
    let n : length all - length end ≡ length h.start = omega (arith, length-append h.start end, ap length h.is) in
    rw (n, ← h.is) (drop-append_seam h.start end)

-- one of the handles was taken, and the front became shorter
pub ends_all : (n : ℕ) (front : List ℕ) (all rest : List (List ℕ)) (one : Option (List ℕ))
    → all ≡ rest ++ option_to_list one → All (EndsWith front) all
    → All (EndsWith (drop n front)) rest
ends_all n front all rest one is ends =
    All-weaker (EndsWith front) (EndsWith (drop n front)) (ends_less n front) rest (All-pop (EndsWith front) all rest one is ends).0

-- what is made of the handle that was taken, where there is one if anything is
pub piece_is : (n : ℕ) (front : List ℕ) (one : Option (List ℕ)) → IfSome one (EndsWith front) → (one ≡ None → n ≡ 0)
    → take n (drop (length (unwrap_or one []) - length front) (unwrap_or one [])) ≡ take n front
piece_is n front None ends some = let e : n ≡ 0 = some refl in rw e refl
piece_is n front (Some handle) ends some = ap (take n) (ends_drop front handle ends)

-- the front became shorter
pub ends_shorter : (n : ℕ) (front : List ℕ) (handles : List (List ℕ)) → All (EndsWith front) handles → All (EndsWith (drop n front)) handles
ends_shorter n front = All-weaker (EndsWith front) (EndsWith (drop n front)) (ends_less n front)

pub one_at_most : (one : Option (List ℕ)) → length (option_to_list one) ≤ 1
one_at_most None = omega arith
one_at_most (Some x) = omega arith

-- where there is no handle, nothing is ready
pub nothing_ready : (n ready cuts handles : ℕ) → n ≤ ready → 0 < cuts → handles ≡ 0 → (0 < ready → cuts ≤ handles) → n ≡ 0
nothing_ready n zero cuts handles h some none all = omega arith
nothing_ready n (suc ready) cuts handles h some none all = absurd (omega (arith, all (omega arith)))
