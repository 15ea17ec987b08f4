-- How the counts of packets add up over lists.
use Rattle.std.specs.Prelude.{ℕ, ◌+◌, ◌≡◌, ◌≤◌, ◌&&◌, Bool, true, false, cond, nat_eq, List, [], ◌∷◌, ◌++◌, drop}
use Rattle.std.proofs.Common.{zero, suc, refl, ap, ◌∙◌, subst, arith, ◌⊎◌, inl, inr}
use Rattle.std.proofs.lemmas.Bool.{eq-eqb, eqb-true}
use Rattle.adb_wire.specs.declared.command.Command.{Command}
use Rattle.adb_wire.specs.declared.packets.Packet.{Packet}
use Rattle.adb_history.specs.Births.{count_from}
use Rattle.adb_laws_births.specs.Brought.{ComeFirst}
use Rattle.adb_laws_births.proofs.Once.{count_append}
use Rattle.adb_laws_model_device.specs.Counts.{how_many}

-- ---- how many packets pass a test
module _ (is_such : Packet → Bool) where
  -- those of a list are those of its front and those of the rest
  pub many_append : (front rest : List Packet) → how_many is_such (front ++ rest) ≡ how_many is_such front + how_many is_such rest
  many_append [] rest = omega arith
  many_append (p ∷ front) rest = go (is_such p) (many_append front rest)
    where
      go : (b : Bool) → how_many is_such (front ++ rest) ≡ how_many is_such front + how_many is_such rest
          → cond b (1 + how_many is_such (front ++ rest)) (how_many is_such (front ++ rest))
          ≡ cond b (1 + how_many is_such front) (how_many is_such front) + how_many is_such rest
      go true e = omega (arith, e)
      go false e = e

  -- those of a list are those of its first and those of the rest
  pub many_first : (p : Packet) (ps : List Packet) → how_many is_such (p ∷ ps) ≡ how_many is_such (p ∷ []) + how_many is_such ps
  many_first p ps = many_append (p ∷ []) ps

  -- a front has no more
  pub many_more : (front rest : List Packet) → how_many is_such front ≤ how_many is_such (front ++ rest)
  many_more front rest = (let sum = many_append front rest in omega (arith, sum))

  pub many_front : (front all : List Packet) → ComeFirst front all → how_many is_such front ≤ how_many is_such all
  many_front front all first = subst (λ (ps : List Packet). how_many is_such front ≤ how_many is_such ps) first.1 (many_more front first.0)

  -- nor has what follows
  pub many_tail : (p : Packet) (ps : List Packet) → how_many is_such ps ≤ how_many is_such (p ∷ ps)
  many_tail p ps = (let sum = many_first p ps in omega (arith, sum))

  pub many_drop : (n : ℕ) (ps : List Packet) → how_many is_such (drop n ps) ≤ how_many is_such ps
  many_drop zero ps = omega arith
  many_drop (suc n) [] = omega arith
  many_drop (suc n) (p ∷ ps) = (let later = many_drop n ps in let one = many_tail p ps in omega (arith, later, one))

-- ---- how many packets of a command come from a stream
module _ (is_such : Command → Bool) (l : ℕ) where
  -- those of a list are those of its first and those of the rest
  pub count_first : (p : Packet) (ps : List Packet) → count_from is_such l (p ∷ ps)
      ≡ count_from is_such l (p ∷ []) + count_from is_such l ps
  count_first p ps = count_append is_such l (p ∷ []) ps

  -- a front has no more
  pub count_more : (front rest : List Packet) → count_from is_such l front ≤ count_from is_such l (front ++ rest)
  count_more front rest = (let sum = count_append is_such l front rest in omega (arith, sum))

  pub count_front : (front all : List Packet) → ComeFirst front all → count_from is_such l front ≤ count_from is_such l all
  count_front front all first = subst (λ (ps : List Packet). count_from is_such l front ≤ count_from is_such l ps)
      first.1 (count_more front first.0)

  -- one packet counts one, or nothing
  pub count_one : (p : Packet) → is_such p.command ≡ true → p.arg0 ≡ l → count_from is_such l (p ∷ []) ≡ 1
  count_one p e f = ap (λ b. cond (b && nat_eq p.arg0 l) (1 + 0) 0) e ∙ ap (λ b. cond b (1 + 0) 0) (eq-eqb p.arg0 l f)

  pub count_none : (p : Packet) → is_such p.command ≡ false → count_from is_such l (p ∷ []) ≡ 0
  count_none p e = ap (λ b. cond (b && nat_eq p.arg0 l) (1 + 0) 0) e

  pub counted : (p : Packet) → (count_from is_such l (p ∷ []) ≡ 0)
      ⊎ ((is_such p.command ≡ true) × ((p.arg0 ≡ l) × (count_from is_such l (p ∷ []) ≡ 1)))
  counted p = go (is_such p.command) refl (nat_eq p.arg0 l) refl
    where
      go : (a : Bool) → is_such p.command ≡ a → (b : Bool) → nat_eq p.arg0 l ≡ b → (count_from is_such l (p ∷ []) ≡ 0)
          ⊎ ((is_such p.command ≡ true) × ((p.arg0 ≡ l) × (count_from is_such l (p ∷ []) ≡ 1)))
      go true e true f = inr (e, (eqb-true p.arg0 l f, count_one p e (eqb-true p.arg0 l f)))
      go true e false f = inl (ap (λ a. cond (a && nat_eq p.arg0 l) (1 + 0) 0) e ∙ ap (λ b. cond b (1 + 0) 0) f)
      go false e b f = inl (count_none p e)

  pub count_at_most_one : (p : Packet) → count_from is_such l (p ∷ []) ≤ 1
  count_at_most_one p = elim (counted p) [
    | inl zeroth ↦ omega (arith, zeroth)
    | inr one ↦ (let is_one = one.1.1 in omega (arith, is_one))
  ]
