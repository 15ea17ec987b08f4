-- A text is filled from own bytes with slices among them.
use Rattle.std.proofs.Common.{◌≡◌, ℕ, ◌+◌, ◌-◌, ◌≤◌, ◌<◌, List, ◌∷◌, ◌++◌, length, take, drop, get_or, sym, ap, ◌∙◌, arith, append-nil}
use Rattle.std.proofs.lemmas.List.{drop_more, drop_all, length-drop}
use Rattle.adb_client.specs.Slices.{woven, own_before}
use Rattle.adb_client.specs.declared.slices.Slice.{Slice}
use Rattle.adb_client.proofs.Seams.{take_behind, filled_short, filled_next}
use Rattle.adb_client.proofs.Weaving.{before_more}

-- Some slices and the own bytes before them were looked at: the text with what is left gives what all gives.
pub record IsFilling (slices : List Slice) (own : List ℕ) (max i : ℕ) (text left : List ℕ) : Type 0 where
  pub short : length text ≤ max
  pub within : own_before (drop i slices) ≤ length left
  pub all : take max (text ++ woven (drop i slices) left) ≡ take max (woven slices own)

module _ (slices : List Slice) (own : List ℕ) (max i : ℕ) (text left : List ℕ) (f : IsFilling slices own max i text left) where
  -- a text that is full is done
  pub filled_up : max ≤ length text → text ≡ take max (woven slices own)
  filled_up full =
      let none : max - length text ≡ 0 = omega (arith, full) in
      let whole : take max (text ++ woven (drop i slices) left) ≡ text ++ take (max - length text) (woven (drop i slices) left) =
      take_behind text (woven (drop i slices) left) max f.short
      in
      sym (append-nil text) ∙ (ap (λ (m : ℕ). text ++ take m (woven (drop i slices) left)) (sym none) ∙ (sym whole ∙ f.all))

  -- behind the last slice the own bytes that are left follow
  pub filled_all : length slices ≤ i → text ++ take (max - length text) left ≡ take max (woven slices own)
  filled_all last =
      sym (take_behind text left max f.short)
      ∙ (ap (λ (l : List Slice). take max (text ++ woven l left)) (sym (drop_all i slices last)) ∙ f.all)

  module _ (slice : Slice) (here : i < length slices) (is : slice ≡ get_or slices i slice) where
    next : drop i slices ≡ slice ∷ drop (i + 1) slices
    next = drop_more slices i slice here ∙ ap (λ (s : Slice). s ∷ drop (i + 1) slices) (sym is)

    -- the own bytes before the next slice are there
    pub own_there : (slice.before ≤ length left) × (own_before (drop (i + 1) slices) ≤ length (drop slice.before left))
    own_there =
        let split = ap own_before next ∙ before_more slice (drop (i + 1) slices) in
        (omega (arith, f.within, split), omega (arith, f.within, split, length-drop slice.before left))

    abbrev pub with_own : List ℕ
    with_own = text ++ take (max - length text) (take slice.before left)

    -- the own bytes before the next slice follow, and then the slice
    pub filled_more : IsFilling slices own max (i + 1) (with_own ++ take (max - length with_own) slice.bytes) (drop slice.before left)
    filled_more =
        let rest = woven (drop (i + 1) slices) (drop slice.before left) in
        let short = filled_short text (take slice.before left) max f.short in
        record {
          short = filled_short with_own slice.bytes max short;
          within = own_there.1;
          all =
              filled_next with_own slice.bytes rest max short
              ∙ (filled_next text (take slice.before left) (slice.bytes ++ rest) max f.short
              ∙ (ap (λ (l : List Slice). take max (text ++ woven l left)) (sym next) ∙ f.all));
        }
