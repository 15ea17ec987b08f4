-- Pieces one behind the other: their bytes when one comes, goes or is cut.
use Rattle.std.proofs.Common.{◌≡◌, ℕ, ◌+◌, ◌-◌, ◌≤◌, ◌<◌, min, List, [], ◌∷◌, ◌++◌, length, take, drop, get_or, refl, sym, ap, ◌∙◌, arith}
use Rattle.std.proofs.Common.{append_assoc, append-nil, length-append, length-take, take-take}
use Rattle.std.proofs.Math.Seq.{take-append_seam, take-append-add, take-length, drop-append-add, drop-drop}
use Rattle.std.proofs.lemmas.List.{take_min, drop-append-le, drop_all, drop_more}
use Rattle.std.proofs.lemmas.List.Folds.{concat-append}
use Rattle.std.specs.List.{concat}
use Rattle.adb_client.specs.Tail.{Keeps, Goes}
use Rattle.adb_client.proofs.Seams.{take_some}

-- a piece more behind
pub concat_last : (xs : List (List ℕ)) (x : List ℕ) → concat (xs ++ x ∷ []) ≡ concat xs ++ x
concat_last xs x = concat-append xs (x ∷ []) ∙ ap (λ (l : List ℕ). concat xs ++ l) (append-nil x)

-- a piece behind, of which some is left off
module _ (whole front piece : List ℕ) (n len : ℕ) (is : whole ≡ front ++ piece) (counted : len ≡ length whole) where
  pub before_it : len ≡ length front + length piece
  before_it = counted ∙ (ap length is ∙ length-append front piece)

  place : len - length piece ≡ length front
  place = omega (arith, before_it)

  -- it goes
  pub goes_whole : n ≤ len - length piece → Keeps n whole front (len - length piece)
  goes_whole enough = record {
    enough = enough;
    kept = sym (ap (λ (k : ℕ). take k whole) place ∙ (ap (take (length front)) is ∙ take-append_seam front piece));
    len = place;
  }

  -- so much of it stays
  pub stays_in_part : (new : List ℕ) → n < len → len - length piece < n
      → new ≡ front ++ take (n - (len - length piece)) piece → Keeps n whole new n
  stays_in_part new less more now =
      let left = n - (len - length piece) in
      let sum : n ≡ length front + left = omega (arith, more, place) in
      record {
        enough = omega arith;
        kept = now ∙ sym (ap (λ (k : ℕ). take k whole) sum ∙ (ap (take (length front + left)) is ∙ take-append-add front piece left));
        len = omega (arith, less, more, place, before_it, ap length now, length-append front (take left piece), length-take left piece);
      }

-- The first bytes of some are kept, no fewer than are to stay.
pub keeps_more : (n m : ℕ) (whole old new : List ℕ) (left now : ℕ) → Keeps m whole old left → Keeps n old new now → m ≤ n → n < left
    → Keeps m whole new now
keeps_more n m whole old new left now k more within less =
    let fewer : now ≤ left = omega (arith, more.len, ap length more.kept, length-take now old, k.len) in
    record {
      enough = omega (arith, within, more.enough);
      kept = more.kept ∙ (ap (take now) k.kept ∙ take-take now left whole fewer);
      len = more.len;
    }

pub keeps_all : (n len : ℕ) (whole : List ℕ) → len ≡ length whole → Keeps (min len n) whole whole len
keeps_all n len whole counted = record {
  enough = omega arith;
  kept = sym (ap (λ (k : ℕ). take k whole) counted ∙ take-length whole);
  len = counted;
}

-- those that were to stay
module _ (n len : ℕ) (whole now : List ℕ) (left : ℕ) (counted : len ≡ length whole)
    (k : Keeps (min len n) whole now left) (done : left ≤ n) where
  pub kept_len : left ≡ min len n
  kept_len = omega (arith, k.enough, k.len, ap length k.kept, length-take left whole, counted, done)

  pub kept_first : now ≡ take n whole
  kept_first =
      let some : left ≡ min n (length whole) = omega (arith, kept_len, counted) in
      k.kept ∙ (ap (λ (m : ℕ). take m whole) some ∙ take_min n whole)

-- a piece in front, of which some goes
module _ (whole piece rest : List ℕ) (n : ℕ) (is : whole ≡ piece ++ rest) where
  pub goes_first : length piece ≤ n → n ≤ length whole → Goes n whole rest (n - length piece)
  goes_first less within = record {
    gone = length piece;
    is = omega (arith, less);
    rest = sym (ap (drop (length piece)) is ∙ all);
    some = omega (arith, within, ap length is, length-append piece rest);
  }
    where
      none : length piece + 0 ≡ length piece
      none = omega arith

      all : drop (length piece) (piece ++ rest) ≡ rest
      all = ap (λ (k : ℕ). drop k (piece ++ rest)) (sym none) ∙ drop-append-add piece rest 0

  pub goes_in_part : (new : List ℕ) → n < length piece → new ≡ drop n piece ++ rest → Goes n whole new 0
  goes_in_part new less now = record {
    gone = n;
    is = omega arith;
    rest = now ∙ sym (ap (drop n) is ∙ drop-append-le n piece rest (omega (arith, less)));
    some = omega arith;
  }

-- A front of the bytes went, and a part of the rest.
pub goes_on : (n : ℕ) (whole old new : List ℕ) (left now : ℕ) → Goes n whole old left → Goes left old new now → Goes n whole new now
goes_on n whole old new left now g more = record {
  gone = g.gone + more.gone;
  is = omega (arith, g.is, more.is);
  rest = more.rest ∙ (ap (drop more.gone) g.rest ∙ drop-drop more.gone g.gone whole);
  some = more.some;
}

pub goes_none : (n : ℕ) (whole : List ℕ) → n ≤ length whole → Goes n whole whole n
goes_none n whole within = record { gone = 0; is = omega arith; rest = refl; some = within }

pub went : (n : ℕ) (whole now : List ℕ) → Goes n whole now 0 → now ≡ drop n whole
went n whole now g =
    let all : g.gone ≡ n = omega (arith, g.is) in
    g.rest ∙ ap (λ (k : ℕ). drop k whole) all

-- Some pieces were copied: those that are left have what is still to be copied.
pub record IsCopied (pieces : List (List ℕ)) (before : List ℕ) (n i : ℕ) (now : List ℕ) (left : ℕ) : Type 0 where
  pub within : left ≤ length (concat (drop i pieces))
  pub all : now ++ take left (concat (drop i pieces)) ≡ before ++ take n (concat pieces)

module _ (pieces : List (List ℕ)) (before : List ℕ) (n i : ℕ) (now : List ℕ) (left : ℕ) (c : IsCopied pieces before n i now left) where
  -- behind the last piece nothing is
  pub copied_all : length pieces ≤ i → now ≡ before ++ take n (concat pieces)
  copied_all last =
      let none : drop i pieces ≡ [] = drop_all i pieces last in
      let zero : left ≡ 0 = omega (arith, c.within, ap (λ (l : List (List ℕ)). length (concat l)) none) in
      sym (append-nil now)
      ∙ (ap (λ (k : ℕ). now ++ take k (concat (drop i pieces))) (sym zero) ∙ c.all)

  -- a piece more is copied
  pub copied_more : (piece : List ℕ) (some : ℕ) → i < length pieces → piece ≡ get_or pieces i piece → some ≡ min left (length piece)
      → IsCopied pieces before n (i + 1) (now ++ take some piece) (left - some)
  copied_more piece some here is most =
      let next : drop i pieces ≡ piece ∷ drop (i + 1) pieces =
      drop_more pieces i piece here ∙ ap (λ (s : List ℕ). s ∷ drop (i + 1) pieces) (sym is)
      in
      let rest = concat (drop (i + 1) pieces) in
      let split : concat (drop i pieces) ≡ piece ++ rest = ap concat next in
      record {
        within = omega (arith, c.within, ap length split, length-append piece rest, most);
        all =
            append_assoc now (take some piece) (take (left - some) rest)
            ∙ (ap (λ (l : List ℕ). now ++ l) (take_some piece rest left some most)
            ∙ (ap (λ (l : List ℕ). now ++ take left l) (sym split) ∙ c.all));
      }
