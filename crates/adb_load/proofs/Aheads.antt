-- What is to come of a load does not depend on the bound on its turns, and a turn takes its acts off the front.
use Rattle.std.proofs.Common.{ℕ, zero, suc, ◌≡◌, ◌<◌, ◌≤◌, inl, inr, List, [], ◌++◌, refl, sym, ap, ◌∙◌, subst, arith}
use Rattle.std.specs.Prelude.{Option, Some, None, IsSome}
use Rattle.adb_load.specs.declared.act.Act.{Act}
use Rattle.adb_load.specs.Acts.{acts_due}
use Rattle.adb_load.specs.Course.{Progress, Turn, turn, stopped, turns_left}
use Rattle.adb_load.specs.Load.{acts_of_turns, acts_ahead, ahead, IsOver}
use Rattle.adb_load.proofs.Turns.{Goes, turn_goes}

-- where the load is over nothing comes, in however many turns
over_stays : (turns : ℕ) (p : Progress) → turn p ≡ stopped p → acts_of_turns turns p ≡ []
unfolding acts_of_turns
over_stays zero p over = refl
over_stays (suc turns) p over = ap (λ (t : Turn). acts_due t.act ++ acts_of_turns turns t.after) over ∙ over_stays turns p over

-- two bounds bring the same
enough : (m n : ℕ) (p : Progress) → turns_left p ≤ m → turns_left p ≤ n → acts_of_turns m p ≡ acts_of_turns n p
unfolding acts_of_turns
enough zero n p low high = go (turn_goes p)
  where
    go : Goes p (turn p) → [] ≡ acts_of_turns n p
    go (inl over) = sym (over_stays n p over)
    go (inr brings) = absurd (omega (arith, brings.fewer, low))
enough (suc m) zero p low high = go (turn_goes p)
  where
    go : Goes p (turn p) → acts_of_turns (suc m) p ≡ []
    go (inl over) = over_stays (suc m) p over
    go (inr brings) = absurd (omega (arith, brings.fewer, high))
enough (suc m) (suc n) p low high =
    go (turn_goes p) (λ fewer. enough m n (turn p).after (omega (arith, fewer, low)) (omega (arith, fewer, high)))
  where
    go : Goes p (turn p) → (turns_left (turn p).after < turns_left p → acts_of_turns m (turn p).after ≡ acts_of_turns n (turn p).after)
        → acts_of_turns (suc m) p ≡ acts_of_turns (suc n) p
    go (inl over) rest = over_stays (suc m) p over ∙ sym (over_stays (suc n) p over)
    go (inr brings) rest = ap (λ acts. acts_due (turn p).act ++ acts) (rest brings.fewer)

-- what is to come is what a turn brings and what is to come then
pub turn_ahead : (p : Progress) → ahead None p ≡ ahead (turn p).act (turn p).after
unfolding acts_of_turns acts_ahead
turn_ahead p = go (turn_goes p)
  where
    first : (turns : ℕ) → turns_left p ≡ turns → turns_left (turn p).after < turns_left p
        → acts_of_turns turns p ≡ acts_due (turn p).act ++ acts_of_turns (turns_left (turn p).after) (turn p).after
    first zero is fewer = absurd (omega (arith, is, fewer))
    first (suc turns) is fewer = ap (λ acts. acts_due (turn p).act ++ acts)
        (enough turns _ (turn p).after (omega (arith, is, fewer)) (omega arith))

    go : Goes p (turn p) → ahead None p ≡ ahead (turn p).act (turn p).after
    go (inl over) = sym (ap (λ (t : Turn). ahead t.act t.after) over)
    go (inr brings) = first (turns_left p) refl brings.fewer

-- a turn that brings nothing shows that nothing is to come
pub turn_over : (p : Progress) → IsOver (turn p).act (ahead (turn p).act (turn p).after)
unfolding acts_ahead
turn_over p = go (turn_goes p)
  where
    some : (act : Option Act) (acts : List Act) → IsSome act → IsOver act acts
    some None acts h = grind (arith, h)
    some (Some act) acts h = tt

    go : Goes p (turn p) → IsOver (turn p).act (ahead (turn p).act (turn p).after)
    go (inl over) = rw over (over_stays (turns_left p) p over)
    go (inr brings) = some (turn p).act _ brings.some

-- both of what a turn was found to bring
pub same_ahead : (act due : Option Act) (after p : Progress) → due ≡ None
    → record { act = act; after = after } ≡ turn p → ahead act after ≡ ahead due p
same_ahead act due after p none is =
    ap (λ (t : Turn). ahead t.act t.after) is ∙ sym (turn_ahead p) ∙ ap (λ (d : Option Act). ahead d p) (sym none)

pub is_over : (act : Option Act) (after p : Progress) → record { act = act; after = after } ≡ turn p → IsOver act (ahead act after)
is_over act after p is = subst (λ (t : Turn). IsOver t.act (ahead t.act t.after)) (sym is) (turn_over p)
