-- Bytes may be cut piece by piece.
use Rattle.std.proofs.Common.{ℕ, ◌≡◌, ◌≤◌, List, [], ◌∷◌, ◌++◌, length, take, drop, Some, None, refl, sym, ◌∙◌, ap, subst, arith, zero, suc}
use Rattle.std.proofs.lemmas.List.{length-drop, take-append-le, drop-append-le, append_assoc}
use Rattle.std.specs.List.{All}
use Rattle.std.proofs.lemmas.List.Elements.{All-nil, All-cons}
use Rattle.adb_outside.specs.declared.framer.Front.{Front}
use Rattle.adb_outside.specs.declared.framer.Front.TheVariants.{More, Bad, Whole}
use Rattle.adb_outside.specs.Framing.{Cut, uncut, joined, cut_by, cut_at, cut, IsFraming, Stands, held_after, Takes}

module _ {S V F : Type 0} (find : S → List ℕ → Front F) (item : S → List ℕ → V) (after : S → List ℕ → S)
    (laws : IsFraming find item after) where
  abbrev at : ℕ → S → List ℕ → Cut S V F
  at = cut_at find item after

  nothing_there : (k : ℕ) (s : S) → at (suc k) s [] ≡ uncut s [] None
  nothing_there k s = ap (λ f. cut_by find item after s [] f (at k)) (laws.empty s)

  -- more turns than bytes change nothing
  pub enough : (k m : ℕ) (s : S) (bytes : List ℕ) → length bytes ≤ k → length bytes ≤ m → at k s bytes ≡ at m s bytes
  enough zero zero s bytes h i = refl
  enough zero (suc m) s [] h i = sym (nothing_there m s)
  enough zero (suc m) s (x ∷ bytes) h i = absurd (omega (arith, h))
  enough (suc k) zero s [] h i = nothing_there k s
  enough (suc k) zero s (x ∷ bytes) h i = absurd (omega (arith, i))
  enough (suc k) (suc m) s bytes h i = go (find s bytes) refl (λ t c. enough k m t c)
    where
      go : (f : Front F) → find s bytes ≡ f → ((t : S) (c : List ℕ) → length c ≤ k → length c ≤ m → at k t c ≡ at m t c)
          → cut_by find item after s bytes f (at k) ≡ cut_by find item after s bytes f (at m)
      go More e others = refl
      go (Bad fault) e others = refl
      go (Whole n) e others =
          let fits = laws.fits s bytes n e in
          ap (joined (item s (take n bytes) ∷ []))
          (others (after s (take n bytes)) (drop n bytes) (omega (arith, fits, length-drop n bytes))
          (omega (arith, fits, length-drop n bytes)))

  -- a cut by its first front
  pub cut_first : (s : S) (bytes : List ℕ) → cut find item after s bytes
      ≡ cut_by find item after s bytes (find s bytes) (cut find item after)
  cut_first s [] = ap (λ f. cut_by find item after s [] f (cut find item after)) (sym (laws.empty s))
  cut_first s (b ∷ bytes) = go (find s (b ∷ bytes)) refl
    where
      go : (f : Front F) → find s (b ∷ bytes) ≡ f → cut_by find item after s (b ∷ bytes) f (at (length bytes))
          ≡ cut_by find item after s (b ∷ bytes) f
          (cut find item after)
      go More e = refl
      go (Bad fault) e = refl
      go (Whole n) e =
          let fits = laws.fits s (b ∷ bytes) n e in
          ap (joined (item s (take n (b ∷ bytes)) ∷ []))
          (enough (length bytes) (length (drop n (b ∷ bytes))) (after s (take n (b ∷ bytes))) (drop n (b ∷ bytes))
          (omega (arith, fits, length-drop n (b ∷ bytes))) (omega arith))

  -- Where no fault came, what was left over begins with no whole frame.
  pub cut_open : (k : ℕ) (s : S) (bytes : List ℕ) → length bytes ≤ k → (cut find item after s bytes).fault ≡ None
      → find (cut find item after s bytes).reading (cut find item after s bytes).rest ≡ More
  cut_open k s [] h none = laws.empty s
  cut_open zero s (b ∷ bytes) h none = absurd (omega (arith, h))
  cut_open (suc k) s (b ∷ bytes) h none =
      subst (λ (c : Cut S V F). c.fault ≡ None → find c.reading c.rest ≡ More) (sym (cut_first s (b ∷ bytes)))
      (go (find s (b ∷ bytes)) refl (λ t c. cut_open k t c)) none
    where
      go : (f : Front F) → find s (b ∷ bytes) ≡ f
          → ((t : S) (c : List ℕ) → length c ≤ k → (cut find item after t c).fault ≡ None
          → find (cut find item after t c).reading (cut find item after t c).rest ≡ More)
          → (cut_by find item after s (b ∷ bytes) f (cut find item after)).fault ≡ None
          → find (cut_by find item after s (b ∷ bytes) f (cut find item after)).reading
          (cut_by find item after s (b ∷ bytes) f (cut find item after)).rest ≡ More
      go More e others sound = e
      go (Bad fault) e others sound = cc
      go (Whole n) e others sound =
          let fits = laws.fits s (b ∷ bytes) n e in
          others (after s (take n (b ∷ bytes))) (drop n (b ∷ bytes)) (omega (arith, fits, length-drop n (b ∷ bytes))) sound

  -- What holds of each whole frame's item holds of all that are cut.
  pub cut_all : (P : V → Type 0) → ((s : S) (bytes : List ℕ) (n : ℕ) → find s bytes ≡ Whole n → P (item s (take n bytes)))
      → (k : ℕ) (s : S) (bytes : List ℕ) → length bytes ≤ k → All P (cut find item after s bytes).given
  cut_all P each k s [] h = All-nil P
  cut_all P each zero s (b ∷ bytes) h = absurd (omega (arith, h))
  cut_all P each (suc k) s (b ∷ bytes) h =
      subst (λ (c : Cut S V F). All P c.given) (sym (cut_first s (b ∷ bytes))) (go (find s (b ∷ bytes)) refl (λ t c. cut_all P each k t c))
    where
      go : (f : Front F) → find s (b ∷ bytes) ≡ f → ((t : S) (c : List ℕ) → length c ≤ k → All P (cut find item after t c).given)
          → All P (cut_by find item after s (b ∷ bytes) f (cut find item after)).given
      go More e others = All-nil P
      go (Bad fault) e others = All-nil P
      go (Whole n) e others =
          let fits = laws.fits s (b ∷ bytes) n e in
          let rest = (cut find item after (after s (take n (b ∷ bytes))) (drop n (b ∷ bytes))).given in
          let behind : All P rest = others (after s (take n (b ∷ bytes))) (drop n (b ∷ bytes))
          (omega (arith, fits, length-drop n (b ∷ bytes))) in
          All-cons P (item s (take n (b ∷ bytes))) rest (each s (b ∷ bytes) n e) behind

  -- A piece that follows is cut with what was left over.
  pub cut_piece : (k : ℕ) (s : S) (x y : List ℕ) → length x ≤ k → (cut find item after s x).fault ≡ None
      → cut find item after s (x ++ y) ≡ joined (cut find item after s x).given
      (cut find item after (cut find item after s x).reading ((cut find item after s x).rest ++ y))
  cut_piece k s [] y h ok = refl
  cut_piece zero s (b ∷ x) y h ok = absurd (omega (arith, h))
  cut_piece (suc k) s (b ∷ x) y h ok =
      subst (λ (c : Cut S V F). c.fault ≡ None → cut find item after s ((b ∷ x) ++ y)
      ≡ joined c.given (cut find item after c.reading (c.rest ++ y)))
      (sym (cut_first s (b ∷ x)))
      (go (find s (b ∷ x)) refl (λ t c. cut_piece k t c y)) ok
    where
      go : (f : Front F) → find s (b ∷ x) ≡ f
          → ((t : S) (c : List ℕ) → length c ≤ k → (cut find item after t c).fault ≡ None
          → cut find item after t (c ++ y) ≡ joined (cut find item after t c).given
          (cut find item after (cut find item after t c).reading ((cut find item after t c).rest ++ y)))
          → (cut_by find item after s (b ∷ x) f (cut find item after)).fault ≡ None
          → cut find item after s ((b ∷ x) ++ y) ≡ joined (cut_by find item after s (b ∷ x) f (cut find item after)).given
          (cut find item after (cut_by find item after s (b ∷ x) f (cut find item after)).reading
          ((cut_by find item after s (b ∷ x) f (cut find item after)).rest ++ y))
      go More e others none = refl
      go (Bad fault) e others none = cc
      go (Whole n) e others none =
          let fits = laws.fits s (b ∷ x) n e in
          let w : find s ((b ∷ x) ++ y) ≡ Whole n = laws.whole s (b ∷ x) y n e in
          let t : take n ((b ∷ x) ++ y) ≡ take n (b ∷ x) = take-append-le n (b ∷ x) y fits.1 in
          let d : drop n ((b ∷ x) ++ y) ≡ drop n (b ∷ x) ++ y = drop-append-le n (b ∷ x) y fits.1 in
          cut_first s ((b ∷ x) ++ y)
          ∙ (ap (λ f. cut_by find item after s ((b ∷ x) ++ y) f (cut find item after)) w
          ∙ (ap (λ z. joined (item s z ∷ []) (cut find item after (after s z) (drop n ((b ∷ x) ++ y)))) t
          ∙ (ap (λ z. joined (item s (take n (b ∷ x)) ∷ []) (cut find item after (after s (take n (b ∷ x))) z)) d
          ∙ ap (joined (item s (take n (b ∷ x)) ∷ []))
          (others (after s (take n (b ∷ x))) (drop n (b ∷ x)) (omega (arith, fits, length-drop n (b ∷ x)))
          none))))

  -- Where a fault came, what follows changes nothing.
  pub fault_stays : (k : ℕ) (s : S) (x y : List ℕ) (fault : F) → length x ≤ k → (cut find item after s x).fault ≡ Some fault
      → ((cut find item after s (x ++ y)).given ≡ (cut find item after s x).given) × ((cut find item after s (x ++ y)).fault ≡ Some fault)
  fault_stays k s [] y fault h e = cc
  fault_stays zero s (b ∷ x) y fault h e = absurd (omega (arith, h))
  fault_stays (suc k) s (b ∷ x) y fault h e =
      subst (λ (c : Cut S V F). c.fault ≡ Some fault → ((cut find item after s ((b ∷ x) ++ y)).given ≡ c.given)
      × ((cut find item after s ((b ∷ x) ++ y)).fault ≡ Some fault)) (sym (cut_first s (b ∷ x)))
      (go (find s (b ∷ x)) refl (λ t c. fault_stays k t c y fault)) e
    where
      go : (f : Front F) → find s (b ∷ x) ≡ f
          → ((t : S) (c : List ℕ) → length c ≤ k → (cut find item after t c).fault ≡ Some fault
          → ((cut find item after t (c ++ y)).given ≡ (cut find item after t c).given)
          × ((cut find item after t (c ++ y)).fault ≡ Some fault))
          → (cut_by find item after s (b ∷ x) f (cut find item after)).fault ≡ Some fault
          → ((cut find item after s ((b ∷ x) ++ y)).given ≡ (cut_by find item after s (b ∷ x) f (cut find item after)).given)
          × ((cut find item after s ((b ∷ x) ++ y)).fault ≡ Some fault)
      go More is others e = cc
      go (Bad other) is others e =
          let w : find s ((b ∷ x) ++ y) ≡ Bad other = laws.bad s (b ∷ x) y other is in
          let c : cut find item after s ((b ∷ x) ++ y) ≡ uncut s ((b ∷ x) ++ y) (Some other) = cut_first s ((b ∷ x) ++ y)
          ∙ ap (λ f. cut_by find item after s ((b ∷ x) ++ y) f (cut find item after)) w in
          (ap (λ (k : Cut S V F). k.given) c, ap (λ (k : Cut S V F). k.fault) c ∙ e)
      go (Whole n) is others e =
          let fits = laws.fits s (b ∷ x) n is in
          let w : find s ((b ∷ x) ++ y) ≡ Whole n = laws.whole s (b ∷ x) y n is in
          let t : take n ((b ∷ x) ++ y) ≡ take n (b ∷ x) = take-append-le n (b ∷ x) y fits.1 in
          let d : drop n ((b ∷ x) ++ y) ≡ drop n (b ∷ x) ++ y = drop-append-le n (b ∷ x) y fits.1 in
          let more = others (after s (take n (b ∷ x))) (drop n (b ∷ x)) (omega (arith, fits, length-drop n (b ∷ x))) e in
          let c : cut find item after s ((b ∷ x) ++ y) ≡ joined (item s (take n (b ∷ x)) ∷ [])
          (cut find item after (after s (take n (b ∷ x))) (drop n (b ∷ x) ++ y)) =
          cut_first s ((b ∷ x) ++ y)
          ∙ (ap (λ f. cut_by find item after s ((b ∷ x) ++ y) f (cut find item after)) w
          ∙ (ap (λ z. joined (item s z ∷ []) (cut find item after (after s z) (drop n ((b ∷ x) ++ y)))) t
          ∙ ap (λ z. joined (item s (take n (b ∷ x)) ∷ []) (cut find item after (after s (take n (b ∷ x))) z)) d)) in
          (ap (λ (k : Cut S V F). k.given) c ∙ ap (λ vs. item s (take n (b ∷ x)) ∷ vs) more.0, ap (λ (k : Cut S V F). k.fault) c ∙ more.1)

  -- What stands for some bytes stands, with a piece taken, for these and the piece.
  pub stands_feeds : (start : S) (fed : List ℕ) (taken : List V) (old : Cut S V F) (piece : List ℕ) (new : Cut S V F)
      → Stands find item after start fed taken old → old.fault ≡ None
      → new ≡ joined old.given (cut find item after old.reading (old.rest ++ piece))
      → Stands find item after start (fed ++ piece) taken new
  stands_feeds start fed taken old piece new h sound is =
      let at_rest = h.open_rest sound in
      let c : cut find item after start (fed ++ piece) ≡ joined (taken ++ old.given) (cut find item after old.reading (old.rest ++ piece)) =
      cut_piece (length fed) start fed piece (omega arith) (h.fault ∙ sound)
      ∙ (ap (λ vs. joined vs
      (cut find item after (cut find item after start fed).reading
      ((cut find item after start fed).rest ++ piece))) h.frames
      ∙ (ap (λ s. joined (taken ++ old.given) (cut find item after s ((cut find item after start fed).rest ++ piece))) at_rest.1
      ∙ ap (λ b. joined (taken ++ old.given) (cut find item after old.reading (b ++ piece))) at_rest.0)) in
      record {
        frames = ap (λ (k : Cut S V F). k.given) c
            ∙ (append_assoc taken old.given (cut find item after old.reading (old.rest ++ piece)).given
            ∙ ap (λ (k : Cut S V F). taken ++ k.given) (sym is));
        fault = ap (λ (k : Cut S V F). k.fault) c ∙ ap (λ (k : Cut S V F). k.fault) (sym is);
        open_rest = λ _. (
          ap (λ (k : Cut S V F). k.rest) c ∙ ap (λ (k : Cut S V F). k.rest) (sym is),
          ap (λ (k : Cut S V F). k.reading) c
              ∙ ap (λ (k : Cut S V F). k.reading) (sym is),
        );
      }

  -- What has a fault stands for all that follows too.
  pub stands_faulted : (start : S) (fed : List ℕ) (taken : List V) (old : Cut S V F) (piece : List ℕ) (fault : F)
      → Stands find item after start fed taken old → old.fault ≡ Some fault → Stands find item after start (fed ++ piece) taken old
  stands_faulted start fed taken old piece fault h is =
      let more = fault_stays (length fed) start fed piece fault (omega arith) (h.fault ∙ is) in
      record {
        frames = more.0 ∙ h.frames;
        fault = more.1 ∙ sym is;
        open_rest = λ none. let clash : Some fault ≡ None = sym is ∙ none in cc;
      }

  -- A piece was taken where there was no fault.
  pub takes_piece : (old : Cut S V F) (piece : List ℕ) (new : Cut S V F) → old.fault ≡ None
      → new ≡ joined old.given (cut find item after old.reading (old.rest ++ piece))
      → Takes find item after old piece new
  takes_piece old piece new sound is = record {
    held = is ∙ ap (held_after find item after old piece) (sym sound);
    stands = λ start fed taken h. stands_feeds start fed taken old piece new h sound is;
    first_fault = λ start fed taken h. sym (stands_feeds start fed taken old piece new h sound is).fault;
  }

  -- Where there was a fault all stays.
  pub takes_nothing : (old : Cut S V F) (piece : List ℕ) (fault : F) → old.fault ≡ Some fault → Takes find item after old piece old
  takes_nothing old piece fault is = record {
    held = sym (ap (held_after find item after old piece) is);
    stands = λ start fed taken h. stands_faulted start fed taken old piece fault h is;
    first_fault = λ start fed taken h. sym (stands_faulted start fed taken old piece fault h is).fault;
  }
