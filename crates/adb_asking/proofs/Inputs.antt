-- A source is read to its end, piece by piece.
use Rattle.std.proofs.Common.{ℕ, ◌+◌, ◌≡◌, ◌<◌, ◌≤◌, true, false, List, [], ◌++◌, length, take, drop, Option, Some, Ok, Err, refl, sym, ◌∙◌}
use Rattle.std.proofs.Common.{ap, arith, append_assoc}
use Rattle.std.proofs.lemmas.List.{append-nil, length-append, length-take, take-append-drop}
use Rattle.adb_outside.specs.Source.{TellsRead}
use Rattle.adb_outside.specs.declared.source.Got.TheVariants.{Bytes}
use Rattle.adb_asking.specs.declared.input.TheConstants.{MAX_INPUT}
use Rattle.adb_asking.specs.Input.{ReadsBy, ReadsOn, ReadsPiece}
use Rattle.adb_asking.specs.declared.input.InputError.{InputError}
use Rattle.adb_asking.specs.declared.input.InputError.TheVariants.{ReadFault, TooLarge, OutOfMemory}

-- what was to come is what was read, and what is left
abbrev pub ReadSo : Option (List ℕ) → Option (List ℕ) → List ℕ → Type 0
ReadSo before now text = (coming : List ℕ) → before ≡ Some coming → ReadsOn coming now [] text

pub read_none : (before : Option (List ℕ)) → ReadSo before before []
read_none before = λ coming is. record { rest = coming; left_is = is; same = refl }

module _ (before now after : Option (List ℕ)) (text more : List ℕ) (so : ReadSo before now text) where
  pub read_on : ((coming : List ℕ) → now ≡ Some coming → ReadsOn coming after text more) → ReadSo before after more
  read_on piece = λ coming is.
      let h = so coming is in
      let n = piece h.rest h.left_is in
      record { rest = n.rest; left_is = n.left_is; same = h.same ∙ n.same }

  pub read_all : ((coming : List ℕ) → now ≡ Some coming → (coming ≡ []) × (after ≡ Some [])) → (coming : List ℕ) → before ≡ Some coming
      → (text ≡ coming) × (after ≡ Some [])
  read_all end = λ coming is.
      let h = so coming is in
      let e = end h.rest h.left_is in
      (sym (h.same ∙ (ap (λ r. text ++ r) e.0 ∙ append-nil text)), e.1)

  pub read_past : ((coming : List ℕ) → now ≡ Some coming → MAX_INPUT < length text + length coming)
      → (coming : List ℕ) → before ≡ Some coming
      → MAX_INPUT < length coming
  read_past past = λ coming is.
      let h = so coming is in
      let less = past h.rest h.left_is in
      omega (arith, less, ap (length {A = ℕ}) h.same, length-append text h.rest)

  -- nothing was left
  pub read_end : ReadsPiece now after text more (Ok false) → (coming : List ℕ) → before ≡ Some coming → (more ≡ coming) × (after ≡ Some [])
  read_end piece = λ coming is. let all = read_all piece.told coming is in (piece.grows ∙ all.0, all.1)

  -- there was no piece
  pub read_stopped : (e : InputError) → ReadsPiece now after text more (Err e) → (coming : List ℕ) → before ≡ Some coming
      → ReadsBy coming after (Err e)
  read_stopped ReadFault piece = λ coming is. tt
  read_stopped TooLarge piece = read_past piece.told
  read_stopped OutOfMemory piece = λ coming is. tt

pub piece_read : (before after : Option (List ℕ)) (old new into : List ℕ) (n : ℕ) → 0 < n → n ≤ length into → new ≡ old ++ take n into
    → TellsRead before after into (Bytes n) → ReadsPiece before after old new (Ok true)
piece_read before after old new into n some fits pushed tells = record {
  told = λ coming is.
      let t = tells coming is in
      let whole : take n into ++ drop n coming ≡ coming = ap (λ b. b ++ drop n coming) t.front ∙ take-append-drop n coming in
      record {
        rest = drop n coming;
        left_is = t.rest;
        same = sym (ap (λ b. b ++ drop n coming) pushed ∙ (append_assoc old (take n into) (drop n coming) ∙ ap (λ b. old ++ b) whole));
      };
  grows = omega (arith, ap (length {A = ℕ}) pushed, length-append old (take n into), length-take n into, some, fits);
}
