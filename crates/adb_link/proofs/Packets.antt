-- What is left of one packet that is due, and of all of them.
use Rattle.std.proofs.Common.{◌≡◌, ℕ, ◌+◌, ◌-◌, ◌<◌, ◌≤◌, min, List, [], ◌∷◌, ◌++◌, length, take, drop, refl, sym, ap, ◌∙◌, arith, inl, inr}
use Rattle.std.specs.List.{concat}
use Rattle.std.proofs.lemmas.Bool.{cases_lt}
use Rattle.std.proofs.lemmas.List.{length-append, length-take, length-drop, drop-append-le, drop_at, drop-drop, drop-take, append-nil}
use Rattle.std.proofs.lemmas.List.Elements.{All-rest, All-push}
use Rattle.std.proofs.lemmas.List.Folds.{concat-append}
use Rattle.adb_wire.specs.declared.slicer.TheConstants.{MAX_PACKET}
use Rattle.adb_link.specs.Outgoing.{left_of, IsHeld}
use Rattle.adb_link.specs.Outbox.{IsBox}

start_len : (start : List ℕ) (from to : ℕ) (payload : List ℕ) → IsHeld start from to payload
    → length (take (to - from) (drop from start)) ≡ to - from
start_len start from to payload h =
    omega (arith, length-take (to - from) (drop from start), length-drop from start, h.long, h.ordered, h.within)

pub left_len : (start : List ℕ) (from to : ℕ) (payload : List ℕ) → IsHeld start from to payload
    → length (left_of start from to payload) ≡ (to - from) + length payload
left_len start from to payload h =
    length-append (take (to - from) (drop from start)) payload ∙ ap (λ n. n + length payload) (start_len start from to payload h)

-- bytes behind a list's end are those of the next
drop_beyond : (x y : List ℕ) (n : ℕ) → length x ≤ n → drop n (x ++ y) ≡ drop (n - length x) y
drop_beyond x y n le =
    let split : length x + (n - length x) ≡ n = omega (arith, le) in
    ap (λ k. drop k (x ++ y)) (sym split)
    ∙ (sym (drop-drop (n - length x) (length x) (x ++ y))
    ∙ ap (drop (n - length x)) (drop_at x y (length x) refl))

-- what is left after bytes were handed out, of the start first
pub left_after : (start : List ℕ) (from to : ℕ) (payload : List ℕ) (n of_start : ℕ) → IsHeld start from to payload
    → of_start ≡ min n (to - from)
    → left_of start (from + of_start) to (drop (n - of_start) payload) ≡ drop n (left_of start from to payload)
left_after start from to payload n of_start h is = elim (cases_lt (to - from) n) [
  | inl beyond ↦
      let all : of_start ≡ to - from = omega (arith, is, beyond) in
      let none : to - (from + of_start) ≡ 0 = omega (arith, all, h.ordered) in
      ap (λ k. take k (drop (from + of_start) start) ++ drop (n - of_start) payload) none
      ∙ (ap (λ k. drop (n - k) payload) (all ∙ sym size) ∙ sym (drop_beyond part payload n (omega (arith, size, beyond))))
  | inr within ↦
      let all : of_start ≡ n = omega (arith, is, within) in
      let rest : n - of_start ≡ 0 = omega (arith, all) in
      let room : n + (to - (from + n)) ≡ to - from = omega (arith, within) in
      let moved : take (to - (from + n)) (drop (from + n) start) ≡ drop n part =
      ap (take (to - (from + n))) (sym (drop-drop n from start))
      ∙ (sym (drop-take n (to - (from + n)) (drop from start)) ∙ ap (λ k. drop n (take k (drop from start))) room) in
      ap (λ k. left_of start (from + of_start) to (drop k payload)) rest
      ∙ (ap (λ k. left_of start (from + k) to payload) all
      ∙ (ap (λ b. b ++ payload) moved ∙ sym (drop-append-le n part payload (omega (arith, size, within)))))
]
  where
    part : List ℕ
    part = take (to - from) (drop from start)

    size : length part ≡ to - from
    size = start_len start from to payload h

-- ---- all of them
pub concat_push : (packets : List (List ℕ)) (packet : List ℕ) → concat (packets ++ packet ∷ []) ≡ concat packets ++ packet
concat_push packets packet = concat-append packets (packet ∷ []) ∙ ap (λ b. concat packets ++ b) (append-nil packet)

-- one more is due, in a spare place
pub box_push : (packets : List (List ℕ)) (owed spare used places : ℕ) (packet : List ℕ) → IsBox packets owed spare used places
    → 0 < spare → 0 < length packet → length packet ≤ MAX_PACKET
    → IsBox (packets ++ packet ∷ []) (owed + length packet) (spare - 1) (used + 1) places
box_push packets owed spare used places packet b place some fits = record {
  some = All-push (λ p. 0 < length p) packets packet b.some some;
  counted = omega (arith, b.counted, ap (length {A = ℕ}) (concat_push packets packet), length-append (concat packets) packet);
  placed = omega (arith, b.placed, place);
  countable = omega (arith, b.countable, place, fits);
}

-- The first one went: the packets, the bytes and the used places that are left.
pub record Popped (packets : List (List ℕ)) (owed used : ℕ) : Type 0 where
  pub packet : List ℕ
  pub rest : List (List ℕ)
  pub is : packets ≡ packet ∷ rest
  pub left : ℕ
  pub gone : left ≡ owed - length packet
  pub less : ℕ
  pub fewer : less + 1 ≡ used

pub box_popped : (packets : List (List ℕ)) (owed spare used places : ℕ) → IsBox packets owed spare used places
    → (popped : Popped packets owed used) → IsBox popped.rest popped.left spare popped.less places
box_popped packets owed spare used places b popped =
    let size = b.counted ∙ (ap (λ ps. length (concat ps)) popped.is ∙ length-append popped.packet (concat popped.rest)) in
    record {
      some = All-rest (λ p. 0 < length p) popped.packet popped.rest packets popped.is b.some;
      counted = omega (arith, popped.gone, size);
      placed = omega (arith, b.placed, popped.fewer);
      countable = omega (arith, b.countable, popped.gone);
    }
