-- Entries one behind the other, and what is said of each of them.
use Rattle.std.proofs.Common.{ℕ, ◌+◌, ◌≡◌, ◌≤◌, Bool, true, false, List, [], ◌∷◌, ◌++◌, reverse, Option, Some, None, refl, sym, ap, ◌∙◌}
use Rattle.std.proofs.Common.{subst, arith, inl, inr}
use Rattle.std.specs.Prelude.{◌==◌, if◌then◌else◌, option_to_list}
use Rattle.std.proofs.lemmas.List.{append-nil, append_assoc, reverse-append}
use Rattle.std.proofs.lemmas.List.Elements.{All-nil, All-append}
use Rattle.std.proofs.lemmas.Bool.{eqb-true}
use Rattle.adb_outside.specs.Outside.{Rises, TellsOneMore}
use Rattle.adb_capture.specs.declared.entry.Entry.{Entry}
use Rattle.adb_history.specs.Machine.{History}
use Rattle.adb_server_client_reader.specs.Forwards.{AreAnswered, IsAnswered, RisesBy, TellsMore, asked_at, asked_ports, left_waiting}
use Rattle.adb_server_client_reader.specs.Forwards.{unbound}
use Rattle.adb_server_client_reader.specs.Reading.{AreTurns, IsOfReader, Shown}

-- the history behind an entry and those that follow it
behind : (e : Entry) (xs : List Entry) (h : History) → reverse (e ∷ xs) ++ h ≡ reverse xs ++ e ∷ h
behind e xs h = ap (λ (g : List Entry). g ++ h) (reverse-append (e ∷ []) xs) ∙ append_assoc (reverse xs) (e ∷ []) h

asked_more : (h : History) (xs ys : List Entry) → asked_ports h (xs ++ ys) ≡ asked_ports h xs ++ asked_ports (reverse xs ++ h) ys
asked_more h [] ys = refl
asked_more h (e ∷ xs) ys =
    ap (λ (ps : List (ℕ × ℕ)). asked_at e h ++ ps) (asked_more (e ∷ h) xs ys)
    ∙ sym (append_assoc (asked_at e h) (asked_ports (e ∷ h) xs) (asked_ports (reverse xs ++ e ∷ h) ys))
    ∙ ap (λ (k : History). asked_at e h ++ asked_ports (e ∷ h) xs ++ asked_ports k ys) (sym (behind e xs h))

next_more : (c : ℕ) (waits : Option ℕ) (xs ys : List Entry) → IsAnswered c waits xs → IsAnswered c waits (xs ++ ys)
next_more c None xs ys is = tt
next_more c (Some asked) [] ys is = absurd is
next_more c (Some asked) (e ∷ xs) ys is = is

answered_more : (c : ℕ) (h : History) (xs ys : List Entry) → AreAnswered c h xs → AreAnswered c (reverse xs ++ h) ys
    → AreAnswered c h (xs ++ ys)
answered_more c h [] ys p q = q
answered_more c h (e ∷ xs) ys p q = (
  next_more c (left_waiting e h) xs ys p.0,
  answered_more c (e ∷ h) xs ys p.1 (subst (λ (k : History). AreAnswered c k ys) (behind e xs h) q),
)

unbound_more : (xs ys : List Entry) → unbound (xs ++ ys) ≡ unbound xs + unbound ys
unbound_more [] ys = omega arith
unbound_more (e ∷ xs) ys = omega (arith, unbound_more xs ys)

rises_more : (n m a b d : ℕ) → RisesBy n a b → RisesBy m b d → b ≤ d → RisesBy (n + m) a d
rises_more n m a b d (inl x) (inl y) le = inl (omega arith)
rises_more n m a b d (inl x) (inr y) le = inr y
rises_more n m a b d (inr x) y le = inr (omega arith)

-- a port of 0 says that the count rose
pub rises_unless : (port before after : ℕ) → (port ≡ 0 → Rises before after) → before ≤ after
    → RisesBy (0 + ((if port == 0 then 1 else 0) + 0)) before after
rises_unless port before after rise le = go (port == 0) refl
  where
    go : (b : Bool) → (port == 0) ≡ b → RisesBy (0 + ((if b then 1 else 0) + 0)) before after
    go true is = elim (rise (eqb-true port 0 is)) [ inl less ↦ inl (omega arith) | inr last ↦ inr (omega arith) ]
    go false is = inl (omega arith)

tells_none : {A : Type 0} (told : Option (List A)) → TellsMore told [] told
tells_none None = tt
tells_none (Some told) = (told, refl, sym (append-nil told))

pub tells_after : {A : Type 0} (a b d : Option (List A)) (xs ys : List A) → TellsMore a xs b → TellsMore b ys d → TellsMore a (xs ++ ys) d
tells_after a b None xs ys p q = tt
tells_after {A = A} a b (Some after) xs ys p q =
    let before : TellsMore a xs (Some q.0) = subst (λ (t : Option (List A)). TellsMore a xs t) q.1 p in
    (before.0, before.1, q.2 ∙ ap (λ (t : List A). t ++ ys) before.2 ∙ append_assoc before.0 xs ys)

pub tells_one : {A : Type 0} (before : Option (List A)) (answer : A) (after : Option (List A)) → TellsOneMore before answer after
    → TellsMore before (answer ∷ []) after
tells_one before answer None is = tt
tells_one before answer (Some after) is = is

pub tells_same : {A : Type 0} (before after : Option (List A)) → after ≡ before → TellsMore before [] after
tells_same {A = A} before after same = subst (λ (t : Option (List A)). TellsMore before [] t) (sym same) (tells_none before)

-- no turn
pub turns_none : (c : ℕ) (h : History) (refused : Option (ℕ × ℕ)) (first now : Shown)
    → TellsMore first.answered (option_to_list refused) now.answered
    → first.bind_faults ≤ now.bind_faults → AreTurns c h [] refused first now
turns_none c h refused first now pairs le = record {
  mine = All-nil (IsOfReader c);
  answered = tt;
  pairs = pairs;
  failed = inl (omega (arith, le));
}

-- turns behind others
pub turns_more : (c : ℕ) (h : History) (xs ys : List Entry) (refused : Option (ℕ × ℕ)) (first mid now : Shown)
    → AreTurns c h xs None first mid
    → AreTurns c (reverse xs ++ h) ys refused mid now → mid.bind_faults ≤ now.bind_faults → AreTurns c h (xs ++ ys) refused first now
turns_more c h xs ys refused first mid now p q le =
    let front : List (ℕ × ℕ) = asked_ports h xs in
    let back : List (ℕ × ℕ) = asked_ports (reverse xs ++ h) ys in
    let last : List (ℕ × ℕ) = option_to_list refused in
    record {
      mine = All-append (IsOfReader c) xs ys p.mine q.mine;
      answered = answered_more c h xs ys p.answered q.answered;
      pairs = subst (λ (ps : List (ℕ × ℕ)). TellsMore first.answered ps now.answered)
          (ap (λ (ps : List (ℕ × ℕ)). ps ++ (back ++ last)) (append-nil front) ∙ sym (append_assoc front back last)
          ∙ ap (λ (ps : List (ℕ × ℕ)). ps ++ last) (sym (asked_more h xs ys)))
          (tells_after first.answered mid.answered now.answered (front ++ []) (back ++ last) p.pairs q.pairs);
      failed = subst (λ n. RisesBy n first.bind_faults now.bind_faults) (sym (unbound_more xs ys))
          (rises_more (unbound xs) (unbound ys) first.bind_faults mid.bind_faults now.bind_faults p.failed q.failed le);
    }
