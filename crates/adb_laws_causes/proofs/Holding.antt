-- In every legal history each stream that lives and its client hold what the history tells.
use Rattle.adb_history.specs.Rows.{Client}
use Rattle.adb_history.specs.Events.{ending_in}
use Rattle.adb_history.specs.declared.ending.Ending.{Ending}
use Rattle.adb_history.specs.Births.{births_at, born, Birth}
use Rattle.adb_history.specs.Fifo.{HasBirths}
use Rattle.std.specs.Prelude.{slice_get}
use Rattle.adb_laws_births.proofs.Born.{all_births}
use Rattle.adb_laws_causes.proofs.StreamSteps.{ups_hold}
use Rattle.std.proofs.Common.{◌≡◌, ◌≢◌, ◌≤◌, ◌<◌, ◌+◌, ℕ, suc, true, false, [], ◌∷◌, Option, Some, None, refl, sym, ap, subst, ◌∙◌, arith}
use Rattle.std.proofs.Common.{◌⊎◌, inl, inr}
use Rattle.adb_stream.specs.declared.row.Stream.{Stream}
use Rattle.adb_capture.specs.declared.entry.Entry.{Entry}
use Rattle.adb_capture.specs.declared.entry.Entry.TheVariants.{Enter, Read}
use Rattle.adb_history.specs.Machine.{rule, ups, History, state, IsLegal}
use Rattle.adb_laws_causes.specs.Flows.{IsAsTold, HoldsAsTold}
use Rattle.adb_laws_causes.proofs.UntouchedEntries.{pair_of}
use Rattle.std.specs.Option.{option_or}
use Rattle.adb_history.proofs.LinkMoves.{all_linked}
use Rattle.adb_laws_causes.proofs.Fates.{lives, FateOf, row_lives, ending_append, live_row}
use Rattle.adb_laws_causes.proofs.Runs.{alive_told}
use Rattle.adb_laws_causes.proofs.RuleSteps.{Standing}
use Rattle.adb_history.specs.Owned.{IsOwned}
use Rattle.adb_laws_causes.proofs.StreamFates.{up_all_fate}
use Rattle.adb_laws_causes.proofs.RuleFates.{WhyBy, draws, drawn_row, rule_fate}
use Rattle.adb_laws_causes.proofs.Lives.{WhyStep, step_fate, kinds}
use Rattle.adb_laws_causes.proofs.Newborn.{Newborn}
use Rattle.adb_history.specs.Machine.{step}
use Rattle.adb_laws_causes.proofs.Newborn.{born_stays, born_new, newborn_ruled}
use Rattle.adb_laws_causes.proofs.NewbornEntries.{read_newborn, enter_newborn}
use Rattle.adb_laws_causes.proofs.StreamSteps.{ruled}
use Rattle.adb_laws_causes.proofs.Fates.{Was}
use Rattle.adb_laws_causes.specs.Flows.{IsAsTold, HoldsAsTold}
use Rattle.adb_laws_causes.proofs.Lives.{kinds, step_fate}

-- ---- a stream that was born before
module _ (e : Entry) (older : History) (legal : IsLegal (e ∷ older)) (has : HasBirths older) (holds : HoldsAsTold older) where
  old_holds : (l : ℕ) (b : Birth) (y : Stream) (k : Client) → (draws e ≡ true → l ≢ (state older).drawn + 1) → born l (e ∷ older) ≡ Some b
      → ((state (e ∷ older)).streams l ≡ Some y) × (y.part.orphan ≡ false) × ((state (e ∷ older)).clients y.client ≡ Some k)
      → (0 < l) × (l ≤ (state (e ∷ older)).drawn) → IsAsTold (e ∷ older) l b y k
  old_holds l b y k other birth is within = go (fate.was y is.0)
    where
      owned : IsOwned (state older)
      owned = (all_linked older legal.0).owned

      fate : FateOf l (WhyStep e ((rule e (state older)).state.stopped ≡ true)) (state older) (step (state older) e)
      fate = step_fate l e older legal other

      alive_before : lives ((state older).streams l) ≡ true
      alive_before = sym (fate.stays (alive_told l (WhyStep e ((rule e (state older)).state.stopped
          ≡ true)) (state older) (step (state older) e) y fate (is.0, is.1)))
          ∙ row_lives ((state (e ∷ older)).streams l) y is.0 is.1

      rule_alive : lives ((rule e (state older)).state.streams l) ≡ true
      rule_alive = one ((ending_in l (rule e (state older)).told)) refl
        where
          first : FateOf l (WhyBy e ((rule e (state older)).state.stopped ≡ true)) (state older) (rule e (state older))
          first = rule_fate l (state older) owned e other

          over : (z : Ending) → ending_in l (rule e (state older)).told ≡ Some z → ⊥
          over z f =
              let told : ending_in l (step (state older) e).told ≡ Some z =
              ending_append l (rule e (state older)).told (ups (rule e (state older)).state).told
              ∙ ap (λ o. option_or o (ending_in l (ups (rule e (state older)).state).told)) f in
              let clash : true ≡ false = sym (row_lives ((state (e ∷ older)).streams l) y is.0 is.1) ∙ (fate.ends z told).over in
              cc

          one : (o : Option Ending) → ending_in l (rule e (state older)).told ≡ o → lives ((rule e (state older)).state.streams l) ≡ true
          one None f = first.stays f ∙ alive_before
          one (Some z) f = absurd (over z f)

      go : Was ((state older).streams l) y → IsAsTold (e ∷ older) l b y k
      go w =
          let x = live_row ((state older).streams l) alive_before in
          let kept = has.kept l x.row x.is in
          let same : kept.birth ≡ b = (let both : Some kept.birth ≡ Some b = sym (born_stays l e older kept.birth kept.is) ∙ birth in cc) in
          let pair = pair_of l x.row (state older) owned x.is x.alive in
          let t : Standing e older l b x.row = subst (λ (c : Birth). Standing e older l c x.row) same (record {
            legal = legal;
            born_now = kept.is;
            pair = pair;
            client = kept.client;
            link = kept.link;
            remote = sym kept.remote;
            holds = holds l kept.birth x.row pair.client kept.is x.is x.alive pair.here;
          }) in
          ups_hold e older l b legal (ruled older l b x.row (t.client, t.link) e t rule_alive) within y k is

-- ---- a stream that is born by the entry
born_by : (e : Entry) (older : History) (l : ℕ) (b : Birth) → IsLegal (e ∷ older) → (draws e ≡ true) × (l ≡ (state older).drawn + 1)
    → slice_get (births_at e older) 0 ≡ Some b → (z : Stream) → (rule e (state older)).state.streams l ≡ Some z → Newborn e older l b
born_by (Read c bytes) older l b legal new birth z is =
    read_newborn c bytes older legal l new.1 b z is ((all_linked older legal.0).owned.rows.streams.above l (omega (arith, new.1))) birth
born_by (Enter n port) older l b legal new birth z is =
    enter_newborn n port older legal l new.1 b z is ((all_linked older legal.0).owned.rows.streams.above l (omega (arith, new.1))) birth
born_by _ older l b legal new birth z is = absurd (let clash : false ≡ true = new.0 in cc)

module _ (e : Entry) (older : History) (legal : IsLegal (e ∷ older)) where
  newborn_holds : HasBirths older → (l : ℕ) (b : Birth) (y : Stream) (k : Client) → (draws e ≡ true) × (l ≡ (state older).drawn + 1)
      → born l (e ∷ older) ≡ Some b → ((state (e ∷ older)).streams l ≡ Some y) × (y.part.orphan ≡ false)
      × ((state (e ∷ older)).clients y.client ≡ Some k)
      → (0 < l) × (l ≤ (state (e ∷ older)).drawn) → IsAsTold (e ∷ older) l b y k
  newborn_holds has l b y k new birth is within =
      let m = rule e (state older) in
      let w = (up_all_fate l (λ client link z. Unit {0}) m.state.drawn m.state (λ client link. tt)).was y is.0 in
      let next : l ≡ suc (state older).drawn = omega (arith, new.1) in
      let first = born_new (state older).drawn e older b has refl (subst (λ (i : ℕ). born i (e ∷ older) ≡ Some b) next birth) in
      ups_hold e older l b legal (newborn_ruled e older l b legal (born_by e older l b legal new first w.old w.is)) within y k is

-- ---- all histories
pub all_hold : (h : History) → IsLegal h → HoldsAsTold h
all_hold [] legal l b y k birth is alive here = absurd (let clash : None ≡ Some y = is in cc)
all_hold (e ∷ older) legal l b y k birth is alive here =
    go (kinds e l (state older).drawn) (all_hold older legal.0)
  where
    within : (0 < l) × (l ≤ (state (e ∷ older)).drawn)
    within = drawn_row (state (e ∷ older)).drawn l (state (e ∷ older)).streams (all_linked (e ∷ older) legal).owned.rows.streams y is

    go : ((draws e ≡ true) × (l ≡ (state older).drawn + 1)) ⊎ (draws e ≡ true → l ≢ (state older).drawn + 1) → HoldsAsTold older
        → IsAsTold (e ∷ older) l b y k
    go (inl new) holds = newborn_holds e older legal (all_births older legal.0) l b y k new birth (is, alive, here) within
    go (inr other) holds = old_holds e older legal (all_births older legal.0) holds l b y k other birth (is, alive, here) within
