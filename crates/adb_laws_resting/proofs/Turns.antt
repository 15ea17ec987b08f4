-- What a rule that takes no places makes, by which nothing goes up.
use Rattle.std.proofs.Common.{ℕ, ◌≡◌, true, false, refl, List, length, Option, Some, None, sym, ◌∙◌, subst, is_some}
use Rattle.adb_outside.specs.declared.kinds.Cause.{Cause}
use Rattle.adb_capture.specs.declared.entry.Entry.{Entry}
use Rattle.adb_capture.specs.declared.entry.Entry.TheVariants.{Send, Detach}
use Rattle.adb_laws_resting.specs.Resting.{StepIsRule}
use Rattle.adb_history.specs.Rows.{Link, State}
use Rattle.adb_history.specs.declared.ending.Ending.TheVariants.{Lost}
use Rattle.adb_history.specs.Handing.{sends}
use Rattle.adb_history.specs.Losing.{link_ends}
use Rattle.adb_history.specs.Machine.{rule, unplugs_on}
use Rattle.adb_hub_tables.specs.declared.tables.Tables.{Tables}
use Rattle.adb_hub_tables.specs.Tables.{state_of}
use Rattle.adb_hub_tables.specs.Places.{Uses}
use Rattle.adb_hub_tables.specs.Fit.{IsFit, IsReached, Makes}
use Rattle.adb_hub_tables.proofs.Using.{provided_by}
use Rattle.adb_laws_resting.proofs.Reached.{within, sends_nothing}
use Rattle.adb_laws_resting.proofs.Fitting.{SumsStay, made_by}
use Rattle.adb_laws_resting.proofs.Summing.{sums_sends, sums_link_ends}

-- The rule of an entry was made, and took no places.
pub record Rules (e : Entry) (old new : Tables) : Type 0 where
  pub uses : (t c : ℕ) → Uses t 0 c 0 old new
  pub state : state_of new ≡ (rule e (state_of old)).state
  pub sums : (k : ℕ) → SumsStay ((state_of old).links k) ((rule e (state_of old)).state.links k)
  pub rests : StepIsRule e (state_of old)

pub rule_made : (e : Entry) (old new : Tables) → IsFit old → Rules e old new → Makes e old new
rule_made e old new fit h = made_by e old new fit (record {
  provided = provided_by old new h.uses fit.provided;
  read = (h.uses 0 0).read;
  state = h.state ∙ sym h.rests;
  sums = λ k. subst (λ (s : State). SumsStay ((state_of old).links k) (s.links k)) (sym h.rests) (h.sums k);
})

module _ (old new : Tables) (fit : IsFit old) (reached : IsReached (state_of old)) (uses : (t c : ℕ) → Uses t 0 c 0 old new) where
  abbrev s : State
  s = state_of old

  -- bytes are handed out to a link
  pub sent : (t : ℕ) (bytes : List ℕ) → state_of new ≡ sends t (length bytes) s → Makes (Send t bytes) old new
  sent t bytes state = rule_made (Send t bytes) old new fit (record {
    uses = uses;
    state = state;
    sums = sums_sends t (length bytes) s;
    rests = (sends_nothing s reached).send t bytes;
  })

  -- a link is unplugged
  pub unplugged : (t : ℕ) → is_some (s.links t) ≡ true → state_of new ≡ (link_ends t Lost s).state → (cause : Cause)
      → Makes (Detach t cause) old new
  unplugged t there state cause = rule_made (Detach t cause) old new fit (record {
    uses = uses;
    state = state ∙ ends (s.links t) there;
    sums = λ k. subst (λ (next : State). SumsStay (s.links k) (next.links k)) (ends (s.links t) there)
        (sums_link_ends s (within s reached) t Lost k);
    rests = (sends_nothing s reached).detach t cause;
  })
    where
      ends : (row : Option Link) → is_some row ≡ true → (link_ends t Lost s).state ≡ (unplugs_on row t s).state
      ends None there = let clash : false ≡ true = there in cc
      ends (Some link) there = refl

-- and where it is not there nothing is made
pub none_unplugged : (old : Tables) → IsFit old → IsReached (state_of old) → (t : ℕ)
    → is_some ((state_of old).links t) ≡ false → (cause : Cause)
    → Makes (Detach t cause) old old
none_unplugged old fit reached t gone cause = record {
  state = stays ((state_of old).links t) gone ∙ sym ((sends_nothing (state_of old) reached).detach t cause);
  fit = fit;
}
  where
    stays : (row : Option Link) → is_some row ≡ false → state_of old ≡ (unplugs_on row t (state_of old)).state
    stays None gone = refl
    stays (Some link) gone = let clash : true ≡ false = gone in cc
