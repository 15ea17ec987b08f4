-- What the parts of a rule cost: the tolls of what they tell, against the CLSEs of the streams that live.
use Rattle.std.specs.Prelude.{ℕ, ◌+◌, ◌*◌, ◌≡◌, ◌≢◌, ◌≤◌, ◌<◌, Bool, cond, List, [], ◌∷◌, ◌++◌, Option, Some, None}
use Rattle.std.specs.Prelude.{option_and_then}
use Rattle.std.proofs.Common.{refl, sym, ap, subst, arith, ◌∙◌, ◌⊎◌, inl, inr}
use Rattle.std.proofs.lemmas.Bool.{cases_eq, eq-eqb, cases_lt}
use Rattle.adb_outside.specs.Tables.{Rows, change_row}
use Rattle.adb_wire.specs.declared.packets.Packet.{Packet}
use Rattle.adb_stream.specs.declared.row.Stream.{Stream}
use Rattle.adb_history.specs.Rows.{State, to_stream, none_kept}
use Rattle.adb_history.specs.Events.{Made, Event, due_to_client, due_to_link, ended, quietly, then_also}
use Rattle.adb_history.specs.Links.{owe_link}
use Rattle.adb_history.specs.Orderly.{IsDrawnOnly}
use Rattle.adb_history.proofs.Following.{changed_other, changed_none}
use Rattle.adb_laws_steps.specs.Tolls.{toll, tolls, close_toll, close_tolls}
use Rattle.adb_laws_steps.proofs.Sums.{sum_more, sum_less}

-- no stream lives under a number that was not drawn
abbrev pub InRange : State → Type 0
InRange s = IsDrawnOnly s.drawn s.streams

-- what the streams that live have still to cost
abbrev pub still : State → ℕ
still s = close_tolls s.streams s.drawn

pub tolls_append : (v w : List Event) → tolls (v ++ w) ≡ tolls v + tolls w
tolls_append [] w = omega arith
tolls_append (due_to_client client bytes ∷ v) w = tolls_append v w
tolls_append (due_to_link link p check ∷ v) w = let e = tolls_append v w in omega (arith, e)
tolls_append (ended stream ending ∷ v) w = tolls_append v w

-- A part of a rule costs so much, where so much is left over: a stream that is drawn pays its CLSE.
pub record Costs (n left : ℕ) (s : State) (m : Made) : Type 0 where
  pub range : InRange m.state
  pub cost : tolls m.told + still m.state + 24 * s.drawn + left ≤ n + still s + 24 * m.state.drawn

-- A change that tells nothing leaves so much over.
pub record Quiets (left : ℕ) (s later : State) : Type 0 where
  pub range : InRange later
  pub cost : still later + 24 * s.drawn + left ≤ still s + 24 * later.drawn

pub costs_quiet : (s : State) → InRange s → Costs 0 0 s (quietly s)
costs_quiet s range = record { range = range; cost = omega arith }

-- nothing changes of the streams
pub costs_aside : (n : ℕ) (s : State) (m : Made) → InRange s → m.state.streams ≡ s.streams → m.state.drawn ≡ s.drawn
    → tolls m.told ≤ n → Costs n 0 s m
costs_aside n s m range streams drawn le =
    let same : still m.state ≡ still s =
    ap (λ (r : Rows (Option Stream)). close_tolls r m.state.drawn) streams ∙ ap (λ (k : ℕ). close_tolls s.streams k) drawn in record {
      range = subst (λ (r : Rows (Option Stream)). IsDrawnOnly m.state.drawn r) (sym streams)
          (subst (λ (k : ℕ). IsDrawnOnly k s.streams) (sym drawn) range);
      cost = omega (arith, same, drawn, le);
    }

-- one part after another
pub costs_then : (a b k l : ℕ) (s : State) (m : Made) (rule : State → Made) → Costs a k s m
    → (InRange m.state → Costs b l m.state (rule m.state))
    → Costs (a + b) (k + l) s (then_also m rule)
costs_then a b k l s m rule first next =
    let second = next first.range in
    let all = tolls_append m.told (rule m.state).told in
    record { range = second.range; cost = omega (arith, first.cost, second.cost, all) }

-- a quiet change before
pub costs_after : (n k l : ℕ) (s later : State) (m : Made) → Quiets k s later → (InRange later → Costs n l later m) → Costs n (k + l) s m
costs_after n k l s later m quiet next =
    let second = next quiet.range in
    record { range = second.range; cost = omega (arith, quiet.cost, second.cost) }

-- more than enough
pub costs_within : (a b k l : ℕ) (s : State) (m : Made) → a + l ≤ b + k → Costs a k s m → Costs b l s m
costs_within a b k l s m le c = record { range = c.range; cost = omega (arith, c.cost, le) }

-- ---- rows
module _ (s : State) (range : InRange s) where
  others_kept : (l : ℕ) (f : Stream → Option Stream) (k : ℕ) → k ≢ l
      → close_toll (change_row l (option_and_then f) s.streams k) ≡ close_toll (s.streams k)
  others_kept l f k other = ap close_toll (changed_other l k f s.streams (λ e. other (sym e)))

  row_less : (f : Stream → Option Stream) (row : Option Stream) → close_toll (option_and_then f row) ≤ close_toll row
  row_less f None = omega arith
  row_less f (Some x) = go (f x)
    where
      go : (o : Option Stream) → close_toll o ≤ 24
      go None = omega arith
      go (Some y) = omega arith

  in_range : (l : ℕ) (f : Stream → Option Stream) → InRange (to_stream l f s)
  in_range l f = record { above = λ n past. none n (range.above n past); zero = none 0 range.zero }
    where
      none : (n : ℕ) → s.streams n ≡ None → change_row l (option_and_then f) s.streams n ≡ None
      none n is = go (cases_eq l n)
        where
          go : (l ≡ n) ⊎ (l ≢ n) → change_row l (option_and_then f) s.streams n ≡ None
          go (inl same) = subst (λ (k : ℕ). change_row k (option_and_then f) s.streams n ≡ None) (sym same) (changed_none n f s.streams is)
          go (inr other) = changed_other l n f s.streams other ∙ is

  here_row : (l : ℕ) (f : Stream → Option Stream) → change_row l (option_and_then f) s.streams l ≡ option_and_then f (s.streams l)
  here_row l f = ap (λ (b : Bool). cond b (option_and_then f (s.streams l)) (s.streams l)) (eq-eqb l l refl)

  -- one row changes
  pub quiets_row : (l : ℕ) (f : Stream → Option Stream) → Quiets 0 s (to_stream l f s)
  quiets_row l f =
      let here : close_toll (change_row l (option_and_then f) s.streams l) ≤ close_toll (s.streams l) + 0 =
      (let e = ap close_toll (here_row l f) in let le = row_less f (s.streams l) in omega (arith, e, le)) in
      let less = sum_more (λ k. close_toll (s.streams k)) (λ k. close_toll (change_row l (option_and_then f) s.streams k)) l 0 s.drawn
      (others_kept l f) here in
      record { range = in_range l f; cost = omega (arith, less) }

  -- one row goes: its CLSE is left over
  pub quiets_gone : (l : ℕ) (x : Stream) → s.streams l ≡ Some x → Quiets 24 s (to_stream l none_kept s)
  quiets_gone l x is =
      let here : close_toll (change_row l (option_and_then none_kept) s.streams l) + 24 ≤ close_toll (s.streams l) =
      (let e = ap close_toll (here_row l none_kept ∙ ap (option_and_then none_kept) is) in
      let old = ap close_toll is in omega (arith, e, old)) in
      let less = sum_less (λ k. close_toll (s.streams k))
      (λ k. close_toll (change_row l (option_and_then none_kept) s.streams k)) l 24 s.drawn
      (others_kept l none_kept) here (some (cases_eq l 0)) (within (cases_lt s.drawn l)) in
      record { range = in_range l none_kept; cost = omega (arith, less) }
    where
      some : (l ≡ 0) ⊎ (l ≢ 0) → 0 < l
      some (inl e) = absurd (let clash : None ≡ Some x = sym range.zero ∙ (ap s.streams (sym e) ∙ is) in cc)
      some (inr other) = omega (arith, other)

      within : (s.drawn < l) ⊎ (l ≤ s.drawn) → l ≤ s.drawn
      within (inl past) = absurd (let clash : None ≡ Some x = sym (range.above l past) ∙ is in cc)
      within (inr le) = le

  -- a packet becomes due
  pub costs_owe : (t : ℕ) (p : Packet) → Costs (toll p.command p.payload) 0 s (owe_link t p s)
  costs_owe t p = costs_aside (toll p.command p.payload) s (owe_link t p s) range refl refl (omega arith)
