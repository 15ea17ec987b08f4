-- A stream that was drawn lives until its end is told.
use Rattle.std.proofs.Common.{◌≡◌, ◌≢◌, ◌≤◌, ◌<◌, ◌+◌, ℕ, Bool, true, false, cond, List, [], ◌∷◌, length, min, Option, Some, None, refl}
use Rattle.std.proofs.Common.{sym, ap, subst, ◌∙◌}
use Rattle.std.proofs.Common.{arith, ◌⊎◌, inl, inr, length-append}
use Rattle.std.specs.Option.{option_or}
use Rattle.std.proofs.lemmas.Bool.{cases_eq}
use Rattle.adb_outside.specs.Tables.{at}
use Rattle.adb_forward.specs.declared.row.ForwardRow.{ForwardRow}
use Rattle.adb_reply.specs.declared.answer.Next.{Next}
use Rattle.adb_reply.specs.declared.answer.Next.TheVariants.{Close}
use Rattle.adb_capture.specs.declared.entry.Entry.{Entry}
use Rattle.adb_capture.specs.declared.entry.Entry.TheVariants.{Enter, Read}
use Rattle.adb_stream.specs.declared.row.Stream.{Stream}
use Rattle.adb_history.specs.Rows.{State}
use Rattle.adb_history.specs.Events.{Event, ending_in}
use Rattle.adb_history.specs.declared.ending.Ending.{Ending}
use Rattle.adb_history.specs.declared.ending.Ending.TheVariants.{ClientClosed}
use Rattle.adb_history.specs.Links.{is_connected}
use Rattle.adb_history.specs.Streams.{stream_ids}
use Rattle.adb_history.specs.Machine.{rule, ups, step, History, state, told_at, told, IsLegal}
use Rattle.adb_history.specs.Book.{asked, newly, devices, forwards}
use Rattle.adb_history.specs.Births.{Birth, birth_by, birth_through, births_at, births}
use Rattle.adb_history.specs.Lives.{ending_of}
use Rattle.adb_history.specs.Fifo.{HasBirths}
use Rattle.adb_history.proofs.LinkMoves.{all_linked}
use Rattle.adb_history.proofs.Quiet.{up_all_drawn}
use Rattle.adb_laws_births.proofs.Born.{all_births}
use Rattle.adb_laws_causes.proofs.Fates.{lives, Reason, Fate, FateOf, then_fate, ending_append, or_none, none_some, row_lives}
use Rattle.adb_laws_causes.proofs.StreamFates.{up_all_fate}
use Rattle.adb_laws_causes.proofs.RuleFates.{WhyBy, draws, drawn_row, rule_fate}
use Rattle.adb_laws_causes.proofs.Goings.{goes_fate}
use Rattle.adb_laws_causes.proofs.Fresh.{rule_fresh}

-- ---- how many streams an entry draws
request_few : (c head : ℕ) (older : History) (next : Option Next) → length (birth_by c head older next) ≤ 1
request_few c head older (Some Close) = omega arith
request_few c head older _ = omega arith

through_few : (c : ℕ) (older : History) (o : Option ForwardRow) → length (birth_through c older o) ≤ 1
through_few c older None = omega arith
through_few c older (Some row) = go (is_connected row.transport (devices older)) _
  where
    go : (b : Bool) (x : Birth) → length (cond b (x ∷ []) []) ≤ 1
    go true x = omega arith
    go false x = omega arith

births_few : (e : Entry) (older : History) → length (births_at e older) ≤ cond (draws e) 1 0
births_few (Read c bytes) older =
    request_few c (asked c (Read c bytes ∷ older)).used older (newly (asked c older).next (asked c (Read c bytes ∷ older)).next)
births_few (Enter c port) older = through_few c older (at port (forwards older))
births_few _ older = omega arith

min_grows : (a b n : ℕ) → (min a n ≤ min (a + b) n) × (min (a + b) n ≤ min a n + b)
min_grows a b n = (omega arith, omega arith)

-- how many streams were drawn before and after an entry
pub record DrawnBy (e : Entry) (before after : ℕ) : Type 0 where
  pub grows : before ≤ after
  pub few : after ≤ before + cond (draws e) 1 0

pub drawn_grows : (e : Entry) (older : History) → HasBirths (e ∷ older) → HasBirths older
    → DrawnBy e (state older).drawn (state (e ∷ older)).drawn
drawn_grows e older new old =
    let all : length (births (e ∷ older)) ≡ length (births older) + length (births_at e older) =
    length-append (births older) (births_at e older) in
    let now : (state (e ∷ older)).drawn ≡ min (length (births older) + length (births_at e older)) stream_ids =
    new.drawn ∙ ap (λ n. min n stream_ids) all in
    let bounds = min_grows (length (births older)) (length (births_at e older)) stream_ids in
    record {
      grows = omega (arith, now, old.drawn, bounds.0);
      few = omega (arith, now, old.drawn, bounds.1, births_few e older);
    }

-- ---- a step
-- what an entry may end, by its rule or by the up rule
abbrev pub WhyStep : Entry → Type 0 → Reason
WhyStep e kill = λ client link ending. WhyBy e kill client link ending ⊎ (ending ≡ ClientClosed)

weaker : (l : ℕ) (Why More : Reason) (o p : Option Stream) (events : List Event) → ((c t : ℕ) (y : Ending) → Why c t y → More c t y)
    → Fate l Why o p events → Fate l More o p events
weaker l Why More o p events more h = record {
  was = h.was;
  stays = h.stays;
  ends = λ y e. (let x = h.ends y e in
      record { row = x.row; is = x.is; alive = x.alive; over = x.over; why = more x.row.client x.row.link y x.why });
}

module _ (l : ℕ) (e : Entry) (older : History) (legal : IsLegal (e ∷ older)) where
  abbrev s : State
  s = state older

  abbrev Why : Reason
  Why = WhyStep e ((rule e (state older)).state.stopped ≡ true)

  pub step_fate : (draws e ≡ true → l ≢ (state older).drawn + 1)
      → FateOf l (WhyStep e ((rule e (state older)).state.stopped ≡ true)) (state older) (step (state older) e)
  step_fate other =
      let m = rule e s in
      let ruled = rule_fate l s (all_linked older legal.0).owned e other in
      then_fate l Why s m ups
      (weaker l (WhyBy e (m.state.stopped ≡ true)) Why (s.streams l) (m.state.streams l) m.told (λ c t y h. inl h) ruled)
      (up_all_fate l Why m.state.drawn m.state (λ c t. inr refl))

  -- a stream that the entry draws
  pub fresh_told : (draws e ≡ true) × (l ≡ (state older).drawn + 1) → ending_in l (told_at e older) ≡ None
  fresh_told is =
      let m = rule e s in
      let rows = (all_linked older legal.0).owned.rows.streams in
      let fresh = rule_fresh l s is.1 (rows.above l (omega (arith, is.1))) e is.0 in
      let up = goes_fate l m.state fresh.goes m.state.drawn in
      ending_append l m.told (ups m.state).told
      ∙ (ap (λ o. option_or o (ending_in l (ups m.state).told)) fresh.told ∙ none (ending_in l (ups m.state).told) refl up)
    where
      none : (o : Option Ending) → ending_in l (ups (rule e (state older)).state).told ≡ o
          → FateOf l (λ c t y. ⊥) (rule e (state older)).state (ups (rule e (state older)).state)
          → ending_in l (ups (rule e (state older)).state).told ≡ None
      none None e f = e
      none (Some y) e f = absurd (f.ends y e).why

  fresh_lives : (draws e ≡ true) × (l ≡ (state older).drawn + 1) → l ≤ (state (e ∷ older)).drawn
      → lives ((state (e ∷ older)).streams l) ≡ true
  fresh_lives is within =
      let m = rule e s in
      let rows = (all_linked older legal.0).owned.rows.streams in
      let fresh = rule_fresh l s is.1 (rows.above l (omega (arith, is.1))) e is.0 in
      let up = goes_fate l m.state fresh.goes m.state.drawn in
      let same : (state (e ∷ older)).drawn ≡ m.state.drawn = up_all_drawn m.state.drawn m.state in
      stays (ending_in l (ups m.state).told) refl up ∙ fresh.alive (omega (arith, within, same))
    where
      stays : (o : Option Ending) → ending_in l (ups (rule e (state older)).state).told ≡ o
          → FateOf l (λ c t y. ⊥) (rule e (state older)).state (ups (rule e (state older)).state)
          → lives ((ups (rule e (state older)).state).state.streams l) ≡ lives ((rule e (state older)).state.streams l)
      stays None e f = f.stays e
      stays (Some y) e f = absurd (f.ends y e).why

-- ---- all histories
-- A stream that was drawn lives until its end is told; no end of another is.
pub record IsLived (h : History) (l : ℕ) : Type 0 where
  pub over : (y : Ending) → ending_of l h ≡ Some y → (lives ((state h).streams l) ≡ false) × (l ≤ (state h).drawn)
  pub runs : ending_of l h ≡ None → (0 < l) × (l ≤ (state h).drawn) → lives ((state h).streams l) ≡ true

-- the number of a stream that an entry draws, or of another
pub kinds : (e : Entry) (l drawn : ℕ) → ((draws e ≡ true) × (l ≡ drawn + 1)) ⊎ (draws e ≡ true → l ≢ drawn + 1)
kinds e l drawn = go (draws e) refl (cases_eq l (drawn + 1))
  where
    go : (b : Bool) → draws e ≡ b → (l ≡ drawn + 1) ⊎ (l ≡ drawn + 1 → ⊥)
        → ((draws e ≡ true) × (l ≡ drawn + 1)) ⊎ (draws e ≡ true → l ≢ drawn + 1)
    go true is (inl same) = inl (is, same)
    go b is (inr apart) = inr (λ f. apart)
    go false is (inl same) = inr (λ f. absurd (let clash : false ≡ true = sym is ∙ f in cc))

module _ (l : ℕ) (e : Entry) (older : History) (legal : IsLegal (e ∷ older))
    (drawn : DrawnBy e (state older).drawn (state (e ∷ older)).drawn)
    (before : IsLived older l) where
  new_lived : (draws e ≡ true) × (l ≡ (state older).drawn + 1) → IsLived (e ∷ older) l
  new_lived is = record {
    over = λ y f. absurd (over y (ending_in l (told older)) refl (sym (ending_append l (told older) (told_at e older)) ∙ f));
    runs = λ f within. fresh_lives l e older legal is within.1;
  }
    where
      over : (y : Ending) (o : Option Ending) → ending_in l (told older) ≡ o → option_or o (ending_in l (told_at e older)) ≡ Some y → ⊥
      over y (Some z) f g = omega (arith, (before.over z f).1, is.1)
      over y None f g = none_some y (sym (fresh_told l e older legal is) ∙ g)

  old_lived : (draws e ≡ true → l ≢ (state older).drawn + 1) → IsLived (e ∷ older) l
  old_lived other = record {
    over = λ y f. over y (ending_in l (told older)) refl (sym (ending_append l (told older) (told_at e older)) ∙ f);
    runs = λ f within. (let none = or_none (ending_in l (told older)) (ending_in l (told_at e older)) (sym (ending_append l (told older)
        (told_at e older)) ∙ f) in
        fate.stays none.1 ∙ before.runs none.0 (within.0, drawn_before (draws e) refl within.1));
  }
    where
      fate : FateOf l (WhyStep e ((rule e (state older)).state.stopped ≡ true)) (state older) (step (state older) e)
      fate = step_fate l e older legal other

      drawn_before : (b : Bool) → draws e ≡ b → l ≤ (state (e ∷ older)).drawn → l ≤ (state older).drawn
      drawn_before true f within =
          let few = subst (λ (b : Bool). (state (e ∷ older)).drawn ≤ (state older).drawn + cond b 1 0) f drawn.few in
          let apart = other f in
          omega (arith, few, within, apart)
      drawn_before false f within =
          let few = subst (λ (b : Bool). (state (e ∷ older)).drawn ≤ (state older).drawn + cond b 1 0) f drawn.few in
          omega (arith, few, within)

      dead : lives ((state older).streams l) ≡ false → (o : Option Ending) → ending_in l (told_at e older) ≡ o
          → lives ((state (e ∷ older)).streams l) ≡ false
      dead gone None f = fate.stays f ∙ gone
      dead gone (Some y) f =
          let x = fate.ends y f in
          absurd (let clash : true ≡ false = sym (row_lives ((state older).streams l) x.row x.is x.alive) ∙ gone in cc)

      over : (y : Ending) (o : Option Ending) → ending_in l (told older) ≡ o → option_or o (ending_in l (told_at e older)) ≡ Some y
          → (lives ((state (e ∷ older)).streams l) ≡ false) × (l ≤ (state (e ∷ older)).drawn)
      over y (Some z) f g =
          let was = before.over z f in
          (dead was.0 (ending_in l (told_at e older)) refl, omega (arith, was.1, drawn.grows))
      over y None f g =
          let x = fate.ends y g in
          let le = (drawn_row (state older).drawn l (state older).streams (all_linked older legal.0).owned.rows.streams x.row x.is).1 in
          (x.over, omega (arith, le, drawn.grows))

pub lived : (h : History) → IsLegal h → (l : ℕ) → IsLived h l
lived [] legal l = record {
  over = λ y f. absurd (none_some y f);
  runs = λ f within. absurd (omega (arith, within.0, within.1));
}
lived (e ∷ older) legal l =
    go (kinds e l (state older).drawn) (lived older legal.0 l)
  where
    go : ((draws e ≡ true) × (l ≡ (state older).drawn + 1)) ⊎ (draws e ≡ true → l ≢ (state older).drawn + 1)
        → IsLived older l → IsLived (e ∷ older) l
    go (inl is) before = new_lived l e older legal (drawn_grows e older (all_births (e ∷ older) legal) (all_births older legal.0)) before is
    go (inr other) before =
        old_lived l e older legal (drawn_grows e older (all_births (e ∷ older) legal) (all_births older legal.0))
        before other
