-- A piece may be taken part by part.
use Rattle.std.proofs.Common.{ℕ, ◌+◌, ◌-◌, ◌≡◌, ◌≤◌, ◌<◌, List, [], ◌∷◌, ◌++◌, length, take, drop, Option, Some, None, refl, sym, ◌∙◌, ap}
use Rattle.std.proofs.Common.{subst, arith, zero, suc}
use Rattle.std.proofs.lemmas.List.{length-drop, length-take, take-append-le, drop-append-le, drop-drop, take-take, take-append-drop}
use Rattle.std.proofs.lemmas.List.{append_assoc, append-nil}
use Rattle.std.proofs.Math.Seq.{take-length}
use Rattle.adb_outside.specs.declared.framer.Front.{Front}
use Rattle.adb_outside.specs.declared.framer.Front.TheVariants.{More, Bad, Whole}
use Rattle.adb_outside.specs.Framing.{Cut, uncut, joined, cut_by, cut, fault_of, IsFraming}
use Rattle.adb_outside.specs.Further.{further_at, further}
use Rattle.adb_outside.proofs.FramingLaws.{cut_first, cut_piece}
use Rattle.adb_outside.proofs.Framers.{stops}

-- a front's front is a front
pub fronts_then : {V : Type 0} (a b c : List V) → take (length a) b ≡ a → take (length b) c ≡ b → take (length a) c ≡ a
fronts_then a b c h k =
    let within : length a ≤ length b = omega (arith, ap length h, length-take (length a) b) in
    sym (take-take (length a) (length b) c within) ∙ (ap (take (length a)) k ∙ h)

-- nothing is behind all
pub none_behind : (from : ℕ) (xs : List ℕ) → length xs ≤ from → drop from xs ≡ []
none_behind zero [] le = refl
none_behind zero (x ∷ xs) le = absurd (omega (arith, le))
none_behind (suc from) [] le = refl
none_behind (suc from) (x ∷ xs) le = none_behind from xs (omega (arith, le))

-- a part, and what is behind it
pub part_then : (from n : ℕ) (xs : List ℕ) → take ((from + n) - from) (drop from xs) ++ drop (from + n) xs ≡ drop from xs
part_then from n xs =
    let same : (from + n) - from ≡ n = omega arith in
    ap (λ k. take k (drop from xs) ++ drop (from + n) xs) same
    ∙ (ap (λ d. take n (drop from xs) ++ d) (sym (drop-drop n from xs)) ∙ take-append-drop n (drop from xs))

module _ {S V F : Type 0} (find : S → List ℕ → Front F) (item : S → List ℕ → V) (after : S → List ℕ → S)
    (laws : IsFraming find item after) where
  abbrev cut_here : S → List ℕ → Cut S V F
  cut_here = cut find item after

  drop_all : (xs : List ℕ) → drop (length xs) xs ≡ []
  drop_all [] = refl
  drop_all (x ∷ xs) = drop_all xs

  -- bytes that are one whole frame
  pub cut_alone : (s : S) (frame : List ℕ) → find s frame ≡ Whole (length frame)
      → cut_here s frame ≡ joined (item s frame ∷ []) (uncut (after s frame) [] None)
  cut_alone s frame is =
      cut_first find item after laws s frame
      ∙ (ap (λ f. cut_by find item after s frame f cut_here) is
      ∙ (ap (λ b. joined (item s b ∷ []) (cut_here (after s b) (drop (length frame) frame))) (take-length frame)
      ∙ ap (λ b. joined (item s frame ∷ []) (cut_here (after s frame) b)) (drop_all frame)))

  -- where a fault came, what follows stands behind it
  pub fault_holds : (k : ℕ) (s : S) (x y : List ℕ) (fault : F) → length x ≤ k → (cut_here s x).fault ≡ Some fault
      → cut_here s (x ++ y) ≡ record (cut_here s x) { rest = (cut_here s x).rest ++ y }
  fault_holds k s [] y fault h e = cc
  fault_holds zero s (b ∷ x) y fault h e = absurd (omega (arith, h))
  fault_holds (suc k) s (b ∷ x) y fault h e =
      subst (λ (c : Cut S V F). c.fault ≡ Some fault → cut_here s ((b ∷ x) ++ y) ≡ record c { rest = c.rest ++ y })
      (sym (cut_first find item after laws s (b ∷ x)))
      (go (find s (b ∷ x)) refl (λ t c. fault_holds k t c y fault)) e
    where
      go : (f : Front F) → find s (b ∷ x) ≡ f
          → ((t : S) (c : List ℕ) → length c ≤ k → (cut_here t c).fault ≡ Some fault
          → cut_here t (c ++ y) ≡ record (cut_here t c) { rest = (cut_here t c).rest ++ y })
          → (let c = cut_by find item after s (b ∷ x) f cut_here in c.fault ≡ Some fault
          → cut_here s ((b ∷ x) ++ y) ≡ record c { rest = c.rest ++ y })
      go More is others e = cc
      go (Bad other) is others e =
          cut_first find item after laws s ((b ∷ x) ++ y)
          ∙ ap (λ f. cut_by find item after s ((b ∷ x) ++ y) f cut_here) (laws.bad s (b ∷ x) y other is)
      go (Whole n) is others e =
          let fits = laws.fits s (b ∷ x) n is in
          let t : take n ((b ∷ x) ++ y) ≡ take n (b ∷ x) = take-append-le n (b ∷ x) y fits.1 in
          let d : drop n ((b ∷ x) ++ y) ≡ drop n (b ∷ x) ++ y = drop-append-le n (b ∷ x) y fits.1 in
          let more = others (after s (take n (b ∷ x))) (drop n (b ∷ x)) (omega (arith, fits, length-drop n (b ∷ x))) e in
          cut_first find item after laws s ((b ∷ x) ++ y)
          ∙ (ap (λ f. cut_by find item after s ((b ∷ x) ++ y) f cut_here) (laws.whole s (b ∷ x) y n is)
          ∙ (ap (λ z. joined (item s z ∷ []) (cut_here (after s z) (drop n ((b ∷ x) ++ y)))) t
          ∙ (ap (λ z. joined (item s (take n (b ∷ x)) ∷ []) (cut_here (after s (take n (b ∷ x))) z)) d
          ∙ ap (joined (item s (take n (b ∷ x)) ∷ [])) more)))

  -- more bytes are taken behind some
  pub further_then : (c : Cut S V F) (x y : List ℕ)
      → further find item after (further_at find item after c x c.fault) y ≡ further_at find item after c (x ++ y) c.fault
  further_then c x [] = ap (λ b. further_at find item after c b c.fault) (sym (append-nil x))
  further_then c x (b ∷ y) = by_fault c.fault refl
    where
      all : List ℕ
      all = x ++ b ∷ y

      of_cut : (k : Cut S V F) (fault : Option F) → k.fault ≡ fault → cut_here c.reading (c.rest ++ x) ≡ k
          → further_at find item after (joined c.given k) (b ∷ y) fault ≡ joined c.given (cut_here c.reading (c.rest ++ all))
      of_cut k None none is =
          let piece = cut_piece find item after laws (length (c.rest ++ x)) c.reading (c.rest ++ x) (b ∷ y) (omega arith)
          (ap (λ (k : Cut S V F). k.fault) is ∙ none) in
          let whole : cut_here c.reading (c.rest ++ all) ≡ joined k.given (cut_here k.reading (k.rest ++ b ∷ y)) =
          ap (cut_here c.reading) (sym (append_assoc c.rest x (b ∷ y)))
          ∙ (piece ∙ ap (λ (k : Cut S V F). joined k.given (cut_here k.reading (k.rest ++ b ∷ y))) is) in
          ap (λ vs. record (cut_here k.reading (k.rest ++ b ∷ y)) { given = vs })
          (append_assoc c.given k.given (cut_here k.reading (k.rest ++ b ∷ y)).given)
          ∙ ap (joined c.given) (sym whole)
      of_cut k (Some fault) some is =
          let holds = fault_holds (length (c.rest ++ x)) c.reading (c.rest ++ x) (b ∷ y) fault (omega arith)
          (ap (λ (k : Cut S V F). k.fault) is ∙ some) in
          let whole : cut_here c.reading (c.rest ++ all) ≡ record k { rest = k.rest ++ b ∷ y } =
          ap (cut_here c.reading) (sym (append_assoc c.rest x (b ∷ y)))
          ∙ (holds ∙ ap (λ (k : Cut S V F). record k { rest = k.rest ++ b ∷ y }) is) in
          ap (joined c.given) (sym whole)

      by_fault : (fault : Option F) → c.fault ≡ fault
          → further find item after (further_at find item after c x fault) (b ∷ y) ≡ further_at find item after c all fault
      by_fault None none = of_cut (cut_here c.reading (c.rest ++ x)) (cut_here c.reading (c.rest ++ x)).fault refl refl
      by_fault (Some fault) some =
          ap (further_at find item after (record c { rest = c.rest ++ x }) (b ∷ y)) some
          ∙ ap (λ bs. record c { rest = bs }) (append_assoc c.rest x (b ∷ y))

  -- a piece that is left is taken part by part
  pub further_part : (c : Cut S V F) (x y : List ℕ) → 0 < length x
      → further find item after (further_at find item after c x c.fault) y ≡ further find item after c (x ++ y)
  further_part c [] y some = absurd (omega (arith, some))
  further_part c (b ∷ x) y some = further_then c (b ∷ x) y

  -- bytes that begin with no whole frame stand behind the frames before them
  pub stands_behind : (before : List V) (s : S) (bytes : List ℕ) (f : Front F) → find s bytes ≡ f → ((n : ℕ) → f ≡ Whole n → ⊥)
      → record { given = before; reading = s; rest = bytes; fault = fault_of f } ≡ joined before (cut_here s bytes)
  stands_behind before s bytes f is none =
      ap (λ vs. record { given = vs; reading = s; rest = bytes; fault = fault_of f }) (sym (append-nil before))
      ∙ ap (joined before) (sym (stops find item after laws s bytes f is none))

  -- bytes that are gathered, and a piece behind them, part by part
  pub gathered_then : (before : List V) (s : S) (held x y piece : List ℕ) → x ++ y ≡ piece
      → further find item after (joined before (cut_here s (held ++ x))) y ≡ joined before (cut_here s (held ++ piece))
  gathered_then before s held x y piece all =
      further_then (record { given = before; reading = s; rest = held; fault = None }) x y
      ∙ ap (λ b. joined before (cut_here s (held ++ b))) all
