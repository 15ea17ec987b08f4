-- A sum over packets, by the ids that they name; and a sum over streams, by their clients.
use Rattle.std.specs.Prelude.{ℕ, ◌+◌, ◌≡◌, ◌≢◌, ◌≤◌, ◌<◌, zero, suc, Bool, cond, nat_eq, All, List, [], ◌∷◌, ◌++◌}
use Rattle.std.proofs.Common.{refl, sym, ap, subst, arith, ◌⊎◌, inl, inr}
use Rattle.std.proofs.lemmas.Bool.{eq-eqb, ne_eqb}
use Rattle.std.proofs.lemmas.List.Elements.{All-head, All-tail}
use Rattle.adb_wire.specs.declared.packets.Packet.{Packet}
use Rattle.adb_laws_steps.specs.Sums.{sum_to}
use Rattle.adb_laws_steps.proofs.Sums.{sum_within, sum_less}

module _ (weight key : Packet → ℕ) where
  abbrev pub total : List Packet → ℕ
  total [] = 0
  total (p ∷ packets) = weight p + total packets

  -- what the packets of one id have
  abbrev pub part : ℕ → List Packet → ℕ
  part l [] = 0
  part l (p ∷ packets) = cond (nat_eq (key p) l) (weight p) 0 + part l packets

  pub total_append : (front rest : List Packet) → total (front ++ rest) ≡ total front + total rest
  total_append [] rest = omega arith
  total_append (p ∷ front) rest = let e = total_append front rest in omega (arith, e)

  pub part_append : (l : ℕ) (front rest : List Packet) → part l (front ++ rest) ≡ part l front + part l rest
  part_append l [] rest = omega arith
  part_append l (p ∷ front) rest = let e = part_append l front rest in omega (arith, e)

  -- a packet without weight, or of an id up to this
  abbrev pub IsWithin : ℕ → Packet → Type 0
  IsWithin n p = (weight p ≡ 0) ⊎ ((0 < key p) × (key p ≤ n))

  more_parts : (n : ℕ) (p : Packet) (packets : List Packet) → sum_to (λ l. part l packets) n ≤ sum_to (λ l. part l (p ∷ packets)) n
  more_parts n p packets = sum_within (λ l. part l packets) (λ l. part l (p ∷ packets)) n (λ l some le. omega arith)

  pub covered : (n : ℕ) (packets : List Packet) → All (IsWithin n) packets → total packets ≤ sum_to (λ l. part l packets) n
  covered n [] all = omega arith
  covered n (p ∷ packets) all = go (All-head (IsWithin n) p packets all) (covered n packets (All-tail (IsWithin n) p packets all))
    where
      go : IsWithin n p → total packets ≤ sum_to (λ l. part l packets) n → weight p + total packets ≤ sum_to (λ l. part l (p ∷ packets)) n
      go (inl none) le = let more = more_parts n p packets in omega (arith, none, le, more)
      go (inr in_range) le =
          let here : part (key p) packets + weight p ≤ part (key p) (p ∷ packets) =
          (let e = ap (λ (b : Bool). cond b (weight p) 0) (eq-eqb (key p) (key p) refl) in omega (arith, e)) in
          let less = sum_less (λ l. part l (p ∷ packets)) (λ l. part l packets) (key p) (weight p) n others here in_range.0 in_range.1 in
          omega (arith, le, less)
        where
          others : (l : ℕ) → l ≢ key p → part l packets ≡ part l (p ∷ packets)
          others l other =
              let e = ap (λ (b : Bool). cond b (weight p) 0) (ne_eqb (key p) l (λ same. other (sym same))) in
              omega (arith, e)

-- ---- each of these has one of those, no two the same
module _ (Of : ℕ → ℕ → Type 0) (apart : (l k c : ℕ) → Of l c → Of k c → l ≡ k) where
  pub record HasOf (f g : ℕ → ℕ) (m l : ℕ) : Type 0 where
    pub c : ℕ
    pub is : Of l c
    pub some : 0 < c
    pub within : c ≤ m
    pub le : f l ≤ g c

  pub spread : (f g : ℕ → ℕ) (n m : ℕ) → ((l : ℕ) → 0 < l → l ≤ n → (f l ≡ 0) ⊎ HasOf f g m l) → sum_to f n ≤ sum_to g m
  spread f g zero m each = omega arith
  spread f g (suc n) m each =
      go (each (suc n) (omega arith) (omega arith)) (λ g more. spread f g n m more) (λ l some le. each l some (omega (arith, le)))
    where
      go : (f (suc n) ≡ 0) ⊎ HasOf f g m (suc n)
          → ((g : ℕ → ℕ) → ((l : ℕ) → 0 < l → l ≤ n → (f l ≡ 0) ⊎ HasOf f g m l) → sum_to f n ≤ sum_to g m)
          → ((l : ℕ) → 0 < l → l ≤ n → (f l ≡ 0) ⊎ HasOf f g m l)
          → f (suc n) + sum_to f n ≤ sum_to g m
      go (inl none) below rest = let le = below g rest in omega (arith, none, le)
      go (inr one) below rest =
          let le = below left spared in
          let less = sum_less g left one.c (g one.c) m others (let e = gone in omega (arith, e)) one.some one.within in
          let here = one.le in
          omega (arith, le, less, here)
        where
          left : ℕ → ℕ
          left = λ c. cond (nat_eq one.c c) 0 (g c)

          gone : left one.c ≡ 0
          gone = ap (λ (b : Bool). cond b 0 (g one.c)) (eq-eqb one.c one.c refl)

          others : (c : ℕ) → c ≢ one.c → left c ≡ g c
          others c other = ap (λ (b : Bool). cond b 0 (g c)) (ne_eqb one.c c (λ same. other (sym same)))

          spare : (l : ℕ) → l ≤ n → (f l ≡ 0) ⊎ HasOf f g m l → (f l ≡ 0) ⊎ HasOf f left m l
          spare l le (inl none) = inl none
          spare l le (inr x) =
              let other : x.c ≢ one.c =
              λ same. (let two : l ≡ suc n = apart l (suc n) one.c (subst (λ (c : ℕ). Of l c) same x.is) one.is
              in omega (arith, two, le)) in
              let e = others x.c other in
              let much = x.le in
              inr (record { c = x.c; is = x.is; some = x.some; within = x.within; le = omega (arith, e, much) })

          spared : (l : ℕ) → 0 < l → l ≤ n → (f l ≡ 0) ⊎ HasOf f left m l
          spared l some le = spare l le (rest l some le)
