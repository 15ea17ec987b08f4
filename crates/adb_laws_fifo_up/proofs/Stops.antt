-- A kill: every stream ends, and no client is left that asks or has one.
use Rattle.std.proofs.Common.{◌≡◌, ℕ, ◌≤◌, ◌<◌, zero, suc, Bool, true, false, cond, List, [], ◌∷◌, Option, Some, None, refl, sym, ap}
use Rattle.std.proofs.Common.{◌∙◌, arith, eqb}
use Rattle.std.specs.Prelude.{option_and_then}
use Rattle.std.proofs.lemmas.Bool.{ne_eqb}
use Rattle.adb_outside.specs.Tables.{Rows}
use Rattle.adb_stream.specs.declared.row.Stream.{Stream}
use Rattle.adb_history.specs.Rows.{Client, State}
use Rattle.adb_history.specs.Events.{Event, due_to_client, due_to_link, ended, ending_in}
use Rattle.adb_history.specs.declared.ending.Ending.TheVariants.{ClientClosed, Stopped}
use Rattle.adb_history.specs.Clients.{closing}
use Rattle.adb_history.specs.Losing.{tells_stop, all_stop, stops}
use Rattle.adb_laws_fifo_up.specs.Seen.{Seen, Sees}
use Rattle.adb_laws_fifo_up.specs.Climbing.{carried, Are, is_shut}
use Rattle.adb_laws_fifo_up.proofs.Shutting.{IsDry}
use Rattle.adb_laws_fifo_up.proofs.Seeing.{none_unseen, closing_unseen, are_append, are_weaker}

-- the end of one of the streams 1 to n by a kill
abbrev IsStop : ℕ → Event → Type 0
IsStop n (due_to_client client bytes) = ⊥
IsStop n (due_to_link link packet check) = ⊥
IsStop n (ended stream ending) = (stream ≤ n) × (ending ≡ Stopped)

one_more : (n : ℕ) (e : Event) → IsStop n e → IsStop (suc n) e
one_more n (due_to_client client bytes) h = h
one_more n (due_to_link link packet check) h = h
one_more n (ended stream ending) h = (omega (arith, h.0), h.1)

are_stops : (n : ℕ) (streams : Rows (Option Stream)) → Are (IsStop n) (all_stop n streams)
are_stops zero streams = tt
are_stops (suc n) streams =
    are_append (IsStop (suc n)) (all_stop n streams) (tells_stop (suc n) (streams (suc n)))
    (are_weaker (IsStop n) (IsStop (suc n)) (one_more n) (all_stop n streams) (are_stops n streams)) (one (streams (suc n)))
  where
    told : (b : Bool) → Are (IsStop (suc n)) (cond b [] (ended (suc n) Stopped ∷ []))
    told true = tt
    told false = ((omega arith, refl), tt)

    one : (o : Option Stream) → Are (IsStop (suc n)) (tells_stop (suc n) o)
    one None = tt
    one (Some stream) = told stream.part.orphan

carries_nothing : (t l n : ℕ) (u : List Event) → Are (IsStop n) u → carried t l u ≡ []
carries_nothing t l n [] h = refl
carries_nothing t l n (due_to_client client bytes ∷ u) h = absurd h.0
carries_nothing t l n (due_to_link link packet check ∷ u) h = absurd h.0
carries_nothing t l n (ended stream ending ∷ u) h = carries_nothing t l n u h.1

only_stops : (l n : ℕ) (u : List Event) → Are (IsStop n) u → ending_in l u ≡ Some ClientClosed → ⊥
only_stops l n [] h e = let clash : None ≡ Some ClientClosed = e in cc
only_stops l n (due_to_client client bytes ∷ u) h e = absurd h.0
only_stops l n (due_to_link link packet check ∷ u) h e = absurd h.0
only_stops l n (ended stream ending ∷ u) h e = go (eqb stream l) e (λ f. only_stops l n u h.1 f)
  where
    go : (b : Bool) → cond b (Some ending) (ending_in l u) ≡ Some ClientClosed → (ending_in l u ≡ Some ClientClosed → ⊥) → ⊥
    go true f later =
        let same : ending ≡ ClientClosed = (let both : Some ending ≡ Some ClientClosed = f in cc) in
        let clash : Stopped ≡ ClientClosed = sym h.0.1 ∙ same in
        cc
    go false f later = later f

not_stopped : (l n : ℕ) (u : List Event) → n < l → Are (IsStop n) u → ending_in l u ≡ None
not_stopped l n [] above h = refl
not_stopped l n (due_to_client client bytes ∷ u) above h = absurd h.0
not_stopped l n (due_to_link link packet check ∷ u) above h = absurd h.0
not_stopped l n (ended stream ending ∷ u) above h =
    ap (λ (b : Bool). cond b (Some ending) (ending_in l u)) (ne_eqb stream l (λ e. omega (arith, e, above, h.0.0)))
    ∙ not_stopped l n u above h.1

stops_are_dry : (l n : ℕ) (e : Event) → IsStop n e → IsDry l e
stops_are_dry l n (due_to_client client bytes) h = tt
stops_are_dry l n (due_to_link link packet check) h = absurd h
stops_are_dry l n (ended stream ending) h = tt

none_shut : (l n : ℕ) (u : List Event) → Are (IsStop n) u → is_shut l u ≡ false
none_shut l n [] h = refl
none_shut l n (due_to_client client bytes ∷ u) h = absurd h.0
none_shut l n (due_to_link link packet check ∷ u) h = absurd h.0
none_shut l n (ended stream ending ∷ u) h = none_shut l n u h.1

module _ (c : ℕ) (s : State) where
  pub stops_dry : (l : ℕ) → Are (IsDry l) (stops c s).told
  stops_dry l = are_weaker (IsStop s.drawn) (IsDry l) (stops_are_dry l s.drawn) (all_stop s.drawn s.streams) (are_stops s.drawn s.streams)

  pub stops_not_shut : (l : ℕ) → is_shut l (stops c s).told ≡ false
  stops_not_shut l = none_shut l s.drawn (all_stop s.drawn s.streams) (are_stops s.drawn s.streams)

  pub stops_carries : (t l : ℕ) → carried t l (stops c s).told ≡ []
  stops_carries t l = carries_nothing t l s.drawn (all_stop s.drawn s.streams) (are_stops s.drawn s.streams)

  pub stops_other : (l : ℕ) → ending_in l (stops c s).told ≡ Some ClientClosed → ⊥
  stops_other l e = only_stops l s.drawn (all_stop s.drawn s.streams) (are_stops s.drawn s.streams) e

  pub stops_above : (l : ℕ) → s.drawn < l → ending_in l (stops c s).told ≡ None
  stops_above l above = not_stopped l s.drawn (all_stop s.drawn s.streams) above (are_stops s.drawn s.streams)

  pub stops_unseen : (n : ℕ) (v : Seen) → Sees ((stops c s).state.clients n) v → ⊥
  stops_unseen n v see = go (eqb c n) refl see
    where
      closed : (o : Option Client) → Sees (option_and_then closing o) v → ⊥
      closed None h = none_unseen v h
      closed (Some x) h = closing_unseen x.due x v h

      go : (b : Bool) → eqb c n ≡ b → Sees (cond b (option_and_then closing (cond b (s.clients n) None)) (cond b (s.clients n) None)) v → ⊥
      go true e h = closed (s.clients n) h
      go false e h = none_unseen v h
