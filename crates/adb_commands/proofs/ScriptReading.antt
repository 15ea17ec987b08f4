-- A script is read piece by piece.
use Rattle.std.proofs.Common.{ℕ, ◌-◌, ◌≡◌, ◌<◌, ◌≤◌, ◌⊎◌, inl, inr, Bool, true, false, List, [], ◌++◌, length, take, drop}
use Rattle.std.proofs.Common.{Option, Some, Result, Ok, Err, refl, sym, ◌∙◌, ap, arith, append_assoc}
use Rattle.std.proofs.lemmas.List.{length-append, length-take, take-append-drop}
use Rattle.adb_outside.specs.Source.{TellsRead}
use Rattle.adb_outside.specs.declared.source.Got.TheVariants.{Bytes}
use Rattle.adb_commands.specs.ScriptInput.{PieceBy, TakesPiece, Grows, ReadsPiece, IsRead, ReadsFront}
use Rattle.adb_commands.specs.declared.script_input.TheConstants.{MAX_SCRIPT_READ}
use Rattle.adb_commands.specs.declared.script_stop.ScriptStop.{ScriptStop}
use Rattle.adb_commands.specs.declared.script_stop.ScriptStop.TheVariants as stop

-- ---- one piece
-- some bytes came, and stand behind the script
module _ (before after : Option (List ℕ)) (old new into : List ℕ) (n most : ℕ) (some : 0 < n) (within : n ≤ most)
    (tells : TellsRead before after into (Bytes n)) where
  taken_piece : (result : Result Bool ScriptStop)
      → ((coming : List ℕ) → take n into ≡ take n coming → PieceBy result (take n coming) (drop n coming) old new most)
      → (coming : List ℕ) → before ≡ Some coming → TakesPiece result coming after old new most
  taken_piece result by coming is =
      let t = tells coming is in
      record {
        taken = take n coming;
        rest = drop n coming;
        is = sym (take-append-drop n coming);
        left = t.rest;
        few = omega (arith, length-take n coming, within);
        by = by coming t.front;
      }

  pub piece_read : n ≤ length into → new ≡ old ++ take n into → ReadsPiece before after old new most (Ok true)
  piece_read fits pushed = record {
    told = taken_piece (Ok true) (λ coming front. pushed ∙ ap (λ b. old ++ b) front);
    grows = (
      omega (arith, ap (length {A = ℕ}) pushed, length-append old (take n into), length-take n into, some, fits),
      omega (arith, ap (length {A = ℕ}) pushed, length-append old (take n into), length-take n into, within),
    );
  }

  -- memory for them is wanting
  pub piece_lost : ReadsPiece before after old new most (Err stop.OutOfMemory)
  piece_lost = record { told = taken_piece (Err stop.OutOfMemory) (λ coming front. tt); grows = tt }

-- no more may be read
pub no_piece : (before : Option (List ℕ)) (script : List ℕ) (most : ℕ) → most ≡ 0 → ReadsPiece before before script script most (Ok false)
no_piece before script most none = record {
  told = λ coming is. record { taken = []; rest = coming; is = refl; left = is; few = omega arith; by = (refl, inr none) };
  grows = refl;
}

-- more might have been read
module _ (coming : List ℕ) (after : Option (List ℕ)) (old new : List ℕ) (least most : ℕ) (some : 0 < least) (less : least ≤ most) where
  by_more : (result : Result Bool ScriptStop) (taken rest : List ℕ) → PieceBy result taken rest old new least
      → PieceBy result taken rest old new most
  by_more (Ok true) taken rest by = by
  by_more (Ok false) taken rest by = go by.1
    where
      go : (rest ≡ []) ⊎ (least ≡ 0) → (taken ≡ []) × ((rest ≡ []) ⊎ (most ≡ 0))
      go (inl none) = (by.0, inl none)
      go (inr none) = absurd (omega (arith, some, none))
  by_more (Err why) taken rest by = tt

  grows_more : (result : Result Bool ScriptStop) → Grows result old new least → Grows result old new most
  grows_more (Ok true) g = (g.0, omega (arith, g.1, less))
  grows_more (Ok false) g = g
  grows_more (Err why) g = tt

  takes_more : (result : Result Bool ScriptStop) → TakesPiece result coming after old new least
      → TakesPiece result coming after old new most
  takes_more result t = record {
    taken = t.taken;
    rest = t.rest;
    is = t.is;
    left = t.left;
    few = omega (arith, t.few, less);
    by = by_more result t.taken t.rest t.by;
  }

pub piece_of_more : (before after : Option (List ℕ)) (old new : List ℕ) (least most : ℕ)
    (result : Result Bool ScriptStop) → 0 < least → least ≤ most
    → ReadsPiece before after old new least result → ReadsPiece before after old new most result
piece_of_more before after old new least most result some less piece = record {
  told = λ coming is. takes_more coming after old new least most some less result (piece.told coming is);
  grows = grows_more [] after old new least most some less result piece.grows;
}

-- ---- piece by piece
-- what was read of what was to come, and what is left of that
pub record ReadsUpTo (script coming : List ℕ) (now : Option (List ℕ)) : Type 0 where
  pub rest : List ℕ
  pub is : coming ≡ script ++ rest
  pub left : now ≡ Some rest

abbrev pub ReadSo : Option (List ℕ) → Option (List ℕ) → List ℕ → Type 0
ReadSo before now script = (coming : List ℕ) → before ≡ Some coming → ReadsUpTo script coming now

pub read_none : (before : Option (List ℕ)) → ReadSo before before []
read_none before = λ coming is. record { rest = coming; is = refl; left = is }

module _ (before now after : Option (List ℕ)) (script new : List ℕ) (so : ReadSo before now script) where
  abbrev Piece : Result Bool ScriptStop → Type 0
  Piece result = ReadsPiece now after script new (MAX_SCRIPT_READ - length script) result

  -- what was to come is what was read, a piece, and the rest
  behind : (coming taken rest more : List ℕ) → coming ≡ script ++ more → more ≡ taken ++ rest → coming ≡ (script ++ taken) ++ rest
  behind coming taken rest more first second = first ∙ (ap (λ b. script ++ b) second ∙ sym (append_assoc script taken rest))

  pub read_on : Piece (Ok true) → ReadSo before after new
  read_on piece = λ coming is.
      let h = so coming is in
      let t = piece.told h.rest h.left in
      record { rest = t.rest; is = behind coming t.taken t.rest h.rest h.is t.is ∙ ap (λ b. b ++ t.rest) (sym t.by); left = t.left }

  -- nothing is left, or no more may be read
  pub read_end : length script ≤ MAX_SCRIPT_READ → Piece (Ok false) → (coming : List ℕ) → before ≡ Some coming → IsRead new coming after
  read_end few piece coming is = record {
    rest = t.rest;
    is = h.is ∙ (ap (λ b. script ++ b) all ∙ ap (λ b. b ++ t.rest) (sym piece.grows));
    left = t.left;
    whole = whole t.by.1;
  }
    where
      h : ReadsUpTo script coming now
      h = so coming is

      t : TakesPiece (Ok false) h.rest after script new (MAX_SCRIPT_READ - length script)
      t = piece.told h.rest h.left

      all : h.rest ≡ t.rest
      all = t.is ∙ ap (λ b. b ++ t.rest) t.by.0

      whole : (t.rest ≡ []) ⊎ (MAX_SCRIPT_READ - length script ≡ 0) → (t.rest ≡ []) ⊎ (length new ≡ MAX_SCRIPT_READ)
      whole (inl none) = inl none
      whole (inr none) = inr (omega (arith, none, few, ap (length {A = ℕ}) piece.grows))

  -- what was read is within the bound, however the last piece ended
  pub read_within : (result : Result Bool ScriptStop) → length script ≤ MAX_SCRIPT_READ → Piece result
      → (coming : List ℕ) → before ≡ Some coming
      → ReadsFront coming after
  read_within result few piece = λ coming is.
      let h = so coming is in
      let t = piece.told h.rest h.left in
      record {
        front = script ++ t.taken;
        rest = t.rest;
        is = behind coming t.taken t.rest h.rest h.is t.is;
        left = t.left;
        few = omega (arith, few, t.few, length-append script t.taken);
      }
