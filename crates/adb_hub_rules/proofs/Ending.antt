-- All streams of a link end, one after another.
use Rattle.std.proofs.Common.{ℕ, ◌≡◌, ◌≢◌, ◌≤◌, ◌<◌, Bool, true, false, Option, Some, None, refl, sym, ◌∙◌, ap, cond, eqb, zero, suc, arith}
use Rattle.std.proofs.Common.{◌⊎◌, inl, inr, []}
use Rattle.std.proofs.lemmas.Bool.{ne_eqb, eq-eqb, cases_eq}
use Rattle.std.specs.Prelude.{option_and_then, IsSome, is_some}
use Rattle.adb_stream.specs.Stream.{of_link}
use Rattle.adb_stream.specs.declared.row.Stream.{Stream}
use Rattle.adb_client.specs.declared.phase.Phase.{Phase}
use Rattle.adb_client.specs.declared.phase.Phase.TheVariants.{Asking, Opening, Streaming, Binding, Tracking, Closing, Gone}
use Rattle.adb_history.specs.Rows.{Client, State, to_stream, none_kept}
use Rattle.adb_history.specs.Events.{Made, quietly, then_also}
use Rattle.adb_history.specs.declared.ending.Ending.{Ending}
use Rattle.adb_history.specs.Streams.{loses, client_loses, tells_end, ends_row, ends_if_of, ends_of, all_end}
use Rattle.adb_hub_tables.specs.Endings.{logged}
use Rattle.adb_hub_rules.proofs.Making.{made_then_none, made_assoc}
use Rattle.adb_hub_tables.proofs.Reporting.{TellsSame, logged_then}
use Rattle.adb_history.proofs.OwnedStep.{tells_end_state as told_state}

-- ---- what a stream's end leaves of the others
loses_streams : (forwarded : Bool) (phase : Phase) (c : ℕ) (s : State)
    → ((loses forwarded phase c s).state.streams ≡ s.streams) × ((loses forwarded phase c s).state.drawn ≡ s.drawn)
loses_streams forwarded (Streaming l) c s = (refl, refl)
loses_streams true (Opening l) c s = (refl, refl)
loses_streams false (Opening l) c s = (refl, refl)
loses_streams forwarded Asking c s = (refl, refl)
loses_streams forwarded Binding c s = (refl, refl)
loses_streams forwarded Tracking c s = (refl, refl)
loses_streams forwarded Closing c s = (refl, refl)
loses_streams forwarded Gone c s = (refl, refl)

client_streams : (row : Option Client) (c : ℕ) (s : State) → ((client_loses row c s).state.streams ≡ s.streams)
    × ((client_loses row c s).state.drawn ≡ s.drawn)
client_streams None c s = (refl, refl)
client_streams (Some client) c s = loses_streams client.about.forwarded client.about.phase c s

pub row_streams : (l : ℕ) (ending : Ending) (stream : Stream) (s : State)
    → ((ends_row l ending stream s).state.streams ≡ (to_stream l none_kept s).streams)
    × ((ends_row l ending stream s).state.drawn ≡ s.drawn)
row_streams l ending stream s =
    let told = (tells_end stream.part.orphan l ending (to_stream l none_kept s)).state in
    let kept = told_state stream.part.orphan l ending (to_stream l none_kept s) in
    let rest = client_streams (told.clients stream.client) stream.client told in
    (rest.0 ∙ ap (λ (t : State). t.streams) kept, rest.1 ∙ ap (λ (t : State). t.drawn) kept)

-- by a stream's end its row goes
pub row_gone : (l : ℕ) (stream : Stream) (s : State) → s.streams l ≡ Some stream → (to_stream l none_kept s).streams l ≡ None
row_gone l stream s here =
    ap (λ b. cond b (option_and_then (none_kept {A = Stream}) (s.streams l)) (s.streams l)) (eq-eqb l l refl)
    ∙ ap (option_and_then (none_kept {A = Stream})) here

-- ---- what a stream's end tells
loses_none : (forwarded : Bool) (phase : Phase) (c : ℕ) (s : State) → TellsSame [] (loses forwarded phase c s).told
loses_none forwarded (Streaming l) c s = λ rows log. refl
loses_none true (Opening l) c s = λ rows log. refl
loses_none false (Opening l) c s = λ rows log. refl
loses_none forwarded Asking c s = λ rows log. refl
loses_none forwarded Binding c s = λ rows log. refl
loses_none forwarded Tracking c s = λ rows log. refl
loses_none forwarded Closing c s = λ rows log. refl
loses_none forwarded Gone c s = λ rows log. refl

client_none : (row : Option Client) (c : ℕ) (s : State) → TellsSame [] (client_loses row c s).told
client_none None c s = λ rows log. refl
client_none (Some client) c s = loses_none client.about.forwarded client.about.phase c s

-- of its client no end is told
pub row_tells : (l : ℕ) (ending : Ending) (stream : Stream) (s : State)
    → TellsSame (tells_end stream.part.orphan l ending (to_stream l none_kept s)).told (ends_row l ending stream s).told
row_tells l ending stream s = λ rows log.
    let made = tells_end stream.part.orphan l ending (to_stream l none_kept s) in
    let rest = client_loses (made.state.clients stream.client) stream.client made.state in
    client_none (made.state.clients stream.client) stream.client made.state rows (logged rows made.told log)
    ∙ sym (logged_then rows made.told rest.told log)

-- ---- no stream of a link among the first
abbrev IsNoneTo : ℕ → ℕ → State → Type 0
IsNoneTo t m s = (j : ℕ) → j ≤ m → of_link t (s.streams j) ≡ None

never : (stream : Stream) → Some stream ≡ None → ⊥
never stream none = cc

no_some : (row : Option Stream) → row ≡ None → IsSome row → ⊥
no_some row none some = let clash : false ≡ true = ap is_some (sym none) ∙ some in cc

quiet_at : (t l : ℕ) (ending : Ending) (row : Option Stream) (s : State) → of_link t row ≡ None → ends_if_of t l ending row s ≡ quietly s
quiet_at t l ending None s none = refl
quiet_at t l ending (Some stream) s none = by_test (eqb stream.link t) none
  where
    by_test : (b : Bool) → cond b (Some stream) None ≡ None → cond b (ends_row l ending stream s) (quietly s) ≡ quietly s
    by_test true none = absurd (never stream none)
    by_test false none = refl

quiet_to : (t m : ℕ) (ending : Ending) (s : State) → IsNoneTo t m s → ends_of t m ending s ≡ quietly s
quiet_to t zero ending s none = refl
quiet_to t (suc m) ending s none =
    ap (λ (before : Made). then_also before (λ s. ends_if_of t (suc m) ending (s.streams (suc m)) s))
    (quiet_to t m ending s (λ j le. none j (omega (arith, le))))
    ∙ ap (λ (last : Made). then_also (quietly s) (λ _. last)) (quiet_at t (suc m) ending (s.streams (suc m)) s (none (suc m) (omega arith)))

-- ---- the first stream of a link
pub record IsFirst (t id : ℕ) (s : State) (stream : Stream) : Type 0 where
  pub is : s.streams id ≡ Some stream
  pub on : stream.link ≡ t
  pub some : 0 < id
  pub least : (j : ℕ) → j < id → of_link t (s.streams j) ≡ None

module _ (t id : ℕ) (ending : Ending) (s : State) (stream : Stream) (h : IsFirst t id s stream) where
  abbrev pub after : State
  after = (ends_row id ending stream s).state

  gone_here : after.streams id ≡ None
  gone_here = ap (λ rows. rows id) (row_streams id ending stream s).0 ∙ row_gone id stream s h.is

  same_there : (j : ℕ) → j < id → after.streams j ≡ s.streams j
  same_there j below = ap (λ rows. rows j) (row_streams id ending stream s).0
      ∙ ap (λ b. cond b (option_and_then (none_kept {A = Stream}) (s.streams j)) (s.streams j)) (ne_eqb id j (λ e. omega (arith, below, e)))

  -- it ends first, and then the others
  first_ends : (n : ℕ) → id ≤ n → then_also (ends_row id ending stream s) (ends_of t n ending) ≡ ends_of t n ending s
  first_ends zero le = absurd (omega (arith, le, h.some))
  first_ends (suc m) le = by_place (cases_eq id (suc m)) (first_ends m)
    where
      by_place : ◌⊎◌ (id ≡ suc m) (id ≢ suc m)
          → (id ≤ m → then_also (ends_row id ending stream s) (ends_of t m ending) ≡ ends_of t m ending s)
          → then_also (ends_row id ending stream s) (ends_of t (suc m) ending) ≡ ends_of t (suc m) ending s
      by_place (inl here) before =
          let left : then_also (ends_row id ending stream s) (ends_of t (suc m) ending) ≡ then_also (ends_row id ending stream s) quietly =
          ap (λ (rest : Made). then_also (ends_row id ending stream s) (λ _. rest))
          (quiet_to t (suc m) ending after (λ j le. none_after j le)) in
          let quiet : ends_of t m ending s ≡ quietly s = quiet_to t m ending s (λ j le. h.least j (omega (arith, le, here))) in
          let there : s.streams (suc m) ≡ Some stream = ap s.streams (sym here) ∙ h.is in
          let right : ends_of t (suc m) ending s ≡ ends_row id ending stream s =
          ap (λ (first : Made). then_also first (λ s. ends_if_of t (suc m) ending (s.streams (suc m)) s)) quiet
          ∙ (ap (λ row. ends_if_of t (suc m) ending row s) there
          ∙ (ap (λ b. cond b (ends_row (suc m) ending stream s) (quietly s)) (eq-eqb stream.link t h.on)
          ∙ ap (λ k. ends_row k ending stream s) (sym here))) in
          left ∙ (made_then_none (ends_row id ending stream s) ∙ sym right)
        where
          none_after : (j : ℕ) → j ≤ suc m → of_link t (after.streams j) ≡ None
          none_after j le = by_j (cases_eq j id)
            where
              by_j : ◌⊎◌ (j ≡ id) (j ≢ id) → of_link t (after.streams j) ≡ None
              by_j (inl is) = ap (λ k. of_link t (after.streams k)) is ∙ ap (of_link t) gone_here
              by_j (inr other) = ap (of_link t) (same_there j (omega (arith, le, here, other))) ∙ h.least j (omega (arith, le, here, other))
      by_place (inr other) before =
          sym (made_assoc (ends_row id ending stream s) (ends_of t m ending) (λ s. ends_if_of t (suc m) ending (s.streams (suc m)) s))
          ∙ ap (λ (first : Made). then_also first (λ s. ends_if_of t (suc m) ending (s.streams (suc m)) s))
          (before (omega (arith, le, other)))

  pub first_of_all : id ≤ s.drawn → then_also (ends_row id ending stream s) (all_end t ending) ≡ all_end t ending s
  first_of_all le =
      ap (λ n. then_also (ends_row id ending stream s) (λ _. ends_of t n ending after))
      (row_streams id ending stream s).1 ∙ first_ends s.drawn le

-- where a link has no stream nothing ends
pub none_ends : (t : ℕ) (ending : Ending) (s : State) → ((j : ℕ) → of_link t (s.streams j) ≡ None) → all_end t ending s ≡ quietly s
none_ends t ending s none = quiet_to t s.drawn ending s (λ j le. none j)

-- a stream that is found by its link has it
pub its_link : (t : ℕ) (stream : Stream) (row : Option Stream) → row ≡ Some stream → IsSome (of_link t row) → stream.link ≡ t
its_link t stream row is found = by_place (cases_eq stream.link t)
  where
    by_place : ◌⊎◌ (stream.link ≡ t) (stream.link ≢ t) → stream.link ≡ t
    by_place (inl on) = on
    by_place (inr off) =
        let none : of_link t row ≡ None = ap (of_link t) is ∙ ap (λ b. cond b (Some stream) None) (ne_eqb stream.link t off) in
        absurd (no_some (of_link t row) none found)
