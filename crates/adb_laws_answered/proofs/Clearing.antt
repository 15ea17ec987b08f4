-- No stream of a link outlives the end of all its streams.
use Rattle.std.proofs.Common.{◌≡◌, ◌≢◌, ℕ, ◌≤◌, ◌<◌, zero, suc, Bool, true, false, cond, Option, Some, None, refl, sym, ap, subst, ◌∙◌, eqb}
use Rattle.std.proofs.Common.{arith, inl, inr}
use Rattle.std.proofs.Common.{◌⊎◌}
use Rattle.std.specs.Prelude.{option_and_then, nat_eq}
use Rattle.std.proofs.lemmas.Bool.{eq-eqb, ne_eqb, cases_eq}
use Rattle.adb_outside.specs.Tables.{Rows, change_row}
use Rattle.adb_outside.specs.declared.identity.Identity.{Identity}
use Rattle.adb_stream.specs.declared.row.Stream.{Stream}
use Rattle.adb_history.specs.Rows.{Link, State, to_stream, none_kept}
use Rattle.adb_history.specs.Events.{quietly}
use Rattle.adb_history.specs.declared.ending.Ending.{Ending}
use Rattle.adb_history.specs.declared.ending.Ending.TheVariants.{Lost}
use Rattle.adb_history.specs.Links.{is_connected}
use Rattle.adb_history.specs.Streams.{ends_row, ends_if_of, ends_of, all_end}
use Rattle.adb_history.specs.Losing.{forgets, link_ends}
use Rattle.adb_history.specs.Packets.{with_sums, streams_end_first}
use Rattle.adb_history.specs.Moves.{connects_now}
use Rattle.adb_wire.specs.Format.{has_sums}
use Rattle.adb_history.proofs.OwnedStep.{ends_state, client_loses_frame}

-- a stream that ends changes no link
pub ends_links : (k : ℕ) (ending : Ending) (stream : Stream) (s : State) → (ends_row k ending stream s).state.links ≡ s.links
ends_links k ending stream s =
    ap (λ (x : State). x.links)
    (ends_state k ending stream s ∙ client_loses_frame (s.clients stream.client) stream.client
    (to_stream k none_kept s))

-- a link that is gone stays so
pub link_stays : (n t : ℕ) (f : Link → Option Link) (links : Rows (Option Link)) → links t ≡ None
    → change_row n (option_and_then f) links t ≡ None
link_stays n t f links none = go (eqb n t) (links t) none
  where
    go : (b : Bool) (o : Option Link) → o ≡ None → cond b (option_and_then f o) o ≡ None
    go true o e = ap (option_and_then f) e
    go false o e = e

module _ (l : ℕ) where
  -- a stream that ends is one row
  pub ends_streams : (k : ℕ) (ending : Ending) (stream : Stream) (s : State)
      → (ends_row k ending stream s).state.streams l ≡ change_row k (option_and_then none_kept) s.streams l
  ends_streams k ending stream s = ap (λ (x : State). x.streams l)
      (ends_state k ending stream s ∙ client_loses_frame (s.clients stream.client) stream.client (to_stream k none_kept s))

  pub none_of : (o : Option Stream) → option_and_then none_kept o ≡ None
  none_of None = refl
  none_of (Some y) = refl

  if_none : (t k : ℕ) (ending : Ending) (o : Option Stream) (s : State) → s.streams l ≡ None
      → (ends_if_of t k ending o s).state.streams l ≡ None
  if_none t k ending None s none = none
  if_none t k ending (Some stream) s none = go (nat_eq stream.link t)
    where
      row : (b : Bool) → cond b (option_and_then none_kept (s.streams l)) (s.streams l) ≡ None
      row true = none_of (s.streams l)
      row false = none

      go : (b : Bool) → (cond b (ends_row k ending stream s) (quietly s)).state.streams l ≡ None
      go true = ends_streams k ending stream s ∙ row (eqb k l)
      go false = none

  if_other : (t k : ℕ) (ending : Ending) (o : Option Stream) (s : State) → k ≢ l → (ends_if_of t k ending o s).state.streams l ≡ s.streams l
  if_other t k ending None s apart = refl
  if_other t k ending (Some stream) s apart = go (nat_eq stream.link t)
    where
      go : (b : Bool) → (cond b (ends_row k ending stream s) (quietly s)).state.streams l ≡ s.streams l
      go true = ends_streams k ending stream s
          ∙ ap (λ (b : Bool). cond b (option_and_then none_kept (s.streams l)) (s.streams l)) (ne_eqb k l apart)
      go false = refl

  if_here : (t : ℕ) (ending : Ending) (o : Option Stream) (s : State) → s.streams l ≡ o → ((y : Stream) → o ≡ Some y → y.link ≡ t)
      → (ends_if_of t l ending o s).state.streams l ≡ None
  if_here t ending None s is on = is
  if_here t ending (Some stream) s is on =
      ap (λ (b : Bool). (cond b (ends_row l ending stream s) (quietly s)).state.streams l) (eq-eqb stream.link t (on stream refl))
      ∙ (ends_streams l ending stream s
      ∙ (ap (λ (b : Bool). cond b (option_and_then none_kept (s.streams l)) (s.streams l)) (eq-eqb l l refl) ∙ none_of (s.streams l)))

  -- ---- the streams 1 to n
  none_stays : (t n : ℕ) (ending : Ending) (s : State) → s.streams l ≡ None → (ends_of t n ending s).state.streams l ≡ None
  none_stays t zero ending s none = none
  none_stays t (suc n) ending s none =
      if_none t (suc n) ending ((ends_of t n ending s).state.streams (suc n)) (ends_of t n ending s).state (none_stays t n ending s none)

  row_stays : (t n : ℕ) (ending : Ending) (s : State) → n < l → (ends_of t n ending s).state.streams l ≡ s.streams l
  row_stays t zero ending s lt = refl
  row_stays t (suc n) ending s lt =
      if_other t (suc n) ending ((ends_of t n ending s).state.streams (suc n)) (ends_of t n ending s).state (λ e. omega (arith, e, lt))
      ∙ row_stays t n ending s (omega (arith, lt))

  cleared : (t n : ℕ) (ending : Ending) (s : State) → 0 < l → l ≤ n → ((y : Stream) → s.streams l ≡ Some y → y.link ≡ t)
      → (ends_of t n ending s).state.streams l ≡ None
  cleared t zero ending s some le on = absurd (omega (arith, some, le))
  cleared t (suc n) ending s some le on = go (λ less. cleared t n ending s some less on) (cases_eq (suc n) l)
    where
      m : State
      m = (ends_of t n ending s).state

      go : (l ≤ n → (ends_of t n ending s).state.streams l ≡ None) → (suc n ≡ l) ⊎ (suc n ≡ l → ⊥)
          → (ends_if_of t (suc n) ending ((ends_of t n ending s).state.streams (suc n)) (ends_of t n ending s).state).state.streams l ≡ None
      go before (inr apart) = if_none t (suc n) ending ((ends_of t n ending s).state.streams (suc n)) (ends_of t n ending s).state
          (before (omega (arith, le, less apart)))
        where
          less : (suc n ≡ l → ⊥) → suc n ≢ l
          less apart = apart
      go before (inl same) =
          subst (λ (k : ℕ).
          (ends_if_of t k ending ((ends_of t n ending s).state.streams k)
          (ends_of t n ending s).state).state.streams l ≡ None) (sym same)
          (if_here t ending ((ends_of t n ending s).state.streams l) (ends_of t n ending s).state refl
          (λ y is. on y (sym (row_stays t n ending s (omega (arith, same))) ∙ is)))

  -- where its stream is of the link, or is gone, it is gone then
  pub all_cleared : (t : ℕ) (ending : Ending) (s : State) → s.streams 0 ≡ None → l ≤ s.drawn
      → ((y : Stream) → s.streams l ≡ Some y → y.link ≡ t)
      → (all_end t ending s).state.streams l ≡ None
  all_cleared t ending s zeroth le on = go (cases_eq l 0)
    where
      go : (l ≡ 0) ⊎ (l ≡ 0 → ⊥) → (ends_of t s.drawn ending s).state.streams l ≡ None
      go (inl same) = none_stays t s.drawn ending s (ap s.streams same ∙ zeroth)
      go (inr apart) = cleared t s.drawn ending s (omega (arith, apart)) le on

  pub link_ends_cleared : (t : ℕ) (ending : Ending) (s : State) → s.streams 0 ≡ None → l ≤ s.drawn
      → ((y : Stream) → s.streams l ≡ Some y → y.link ≡ t)
      → (link_ends t ending s).state.streams l ≡ None
  link_ends_cleared t ending s zeroth le on = all_cleared t ending (forgets t s) zeroth le on

  pub online_cleared : (t version maxdata : ℕ) (identity : Identity) (s : State) → s.streams 0 ≡ None → l ≤ s.drawn
      → ((y : Stream) → s.streams l ≡ Some y → (y.link ≡ t) × (is_connected t s.devices ≡ true))
      → (connects_now t version maxdata identity s).state.streams l ≡ None
  online_cleared t version maxdata identity s zeroth le on = go (is_connected t s.devices) refl (s.streams l) refl
    where
      go : (b : Bool) → is_connected t s.devices ≡ b → (o : Option Stream) → s.streams l ≡ o
          → (streams_end_first b t s).state.streams l ≡ None
      go true e o is = all_cleared t Lost s zeroth le (λ y at_l. (on y at_l).0)
      go false e None is = is
      go false e (Some y) is = absurd (let clash : true ≡ false = sym (on y is).1 ∙ e in cc)

-- a link that is gone stays so when a device says who it is
pub online_links : (t version maxdata : ℕ) (identity : Identity) (s : State) → s.links t ≡ None
    → (connects_now t version maxdata identity s).state.links t ≡ None
online_links t version maxdata identity s none = link_stays t t (with_sums (has_sums version)) first.links (same (is_connected t s.devices))
  where
    first : State
    first = (streams_end_first (is_connected t s.devices) t s).state

    ends : (n : ℕ) → (ends_of t n Lost s).state.links t ≡ None
    ends zero = none
    ends (suc n) = go (ends n) ((ends_of t n Lost s).state.streams (suc n))
      where
        by : (b : Bool) (stream : Stream) → (ends_of t n Lost s).state.links t ≡ None
            → (cond b (ends_row (suc n) Lost stream (ends_of t n Lost s).state) (quietly (ends_of t n Lost s).state)).state.links t ≡ None
        by true stream e = ap (λ (f : ℕ → Option Link). f t) (ends_links (suc n) Lost stream (ends_of t n Lost s).state) ∙ e
        by false stream e = e

        go : (ends_of t n Lost s).state.links t ≡ None → (o : Option Stream)
            → (ends_if_of t (suc n) Lost o (ends_of t n Lost s).state).state.links t ≡ None
        go e None = e
        go e (Some stream) = by (nat_eq stream.link t) stream e

    same : (b : Bool) → (streams_end_first b t s).state.links t ≡ None
    same true = ends s.drawn
    same false = none
