-- What is read means, answer by answer and piece by piece, what the bytes mean.
use Rattle.std.proofs.Common.{ℕ, ◌≡◌, List, ◌++◌, Option, Some, None, length, Result, sym, refl, ◌∙◌, ap, append_assoc, arith}
use Rattle.adb_outside.specs.Framing.{Cut, cut, held_after, joined, answer_of}
use Rattle.adb_outside.specs.declared.framer.FeedError.{FeedError}
use Rattle.adb_outside.specs.declared.framer.FeedError.TheVariants.{Fault}
use Rattle.adb_outside.proofs.FramingLaws.{cut_piece, fault_stays}
use Rattle.adb_sync.specs.declared.answer.SyncAnswer.{SyncAnswer}
use Rattle.adb_sync_client.specs.declared.expected.Expected.{Expected}
use Rattle.adb_sync_client.specs.Expected.{expected_front, expected_answer, past_expected}
use Rattle.adb_sync_client.specs.Framed.{expected_are_framed}
use Rattle.adb_sync_client.specs.Values.{ended_or, meant}
use Rattle.adb_sync_client.specs.Reading.{Read, MeansSame, Gathers, Continues, with_more, meaning, meaning_with}

abbrev pub Held : Type 0
Held = Cut Expected SyncAnswer ℕ

pub same_on : (a b c : Read) → MeansSame a b → MeansSame b c → MeansSame a c
same_on a b c h k = record { now = k.now ∙ h.now; later = λ more. k.later more ∙ h.later more }

-- ---- pieces
abbrev cut_from : Expected → List ℕ → Held
cut_from = cut expected_front expected_answer past_expected

abbrev after_piece : Held → List ℕ → Held
after_piece held piece = held_after expected_front expected_answer past_expected held piece held.fault

-- the answers and the fault that are held are the same
record IsHeldAlike (a b : Held) : Type 0 where
  given : a.given ≡ b.given
  fault : a.fault ≡ b.fault

-- two pieces are one
two_pieces : (given : List SyncAnswer) (reading : Expected) (rest : List ℕ) (fault : Option ℕ) (x y : List ℕ)
    → let held : Held = record { given = given; reading = reading; rest = rest; fault = fault } in
    IsHeldAlike (after_piece (after_piece held x) y) (after_piece held (x ++ y))
two_pieces given reading rest (Some fault) x y = record { given = refl; fault = refl }
two_pieces given reading rest None x y = go (cut_from reading (rest ++ x)).fault refl
  where
    go : (fault : Option ℕ) → (cut_from reading (rest ++ x)).fault ≡ fault
        → let k = cut_from reading (rest ++ x) in
        IsHeldAlike (held_after expected_front expected_answer past_expected (joined given k) y fault)
        (joined given (cut_from reading (rest ++ (x ++ y))))
    go None is =
        let k = cut_from reading (rest ++ x) in
        let whole = ap (cut_from reading) (sym (append_assoc rest x y))
        ∙ cut_piece expected_front expected_answer past_expected expected_are_framed (length (rest ++ x)) reading
        (rest ++ x) y (omega arith) is in
        record {
          given = append_assoc given k.given (cut_from k.reading (k.rest ++ y)).given ∙ ap (λ (c : Held). given ++ c.given) (sym whole);
          fault = ap (λ (c : Held). c.fault) (sym whole);
        }
    go (Some fault) is =
        let stays = fault_stays expected_front expected_answer past_expected expected_are_framed (length (rest ++ x)) reading (rest ++ x) y
        fault (omega arith) is in
        let one = ap (cut_from reading) (append_assoc rest x y) in
        record {
          given = ap (λ l. given ++ l) (sym stays.0 ∙ ap (λ (c : Held). c.given) one);
          fault = is ∙ (sym stays.1 ∙ ap (λ (c : Held). c.fault) one);
        }

means_alike : (r : Read) (a b : Held) → IsHeldAlike a b → meaning (record r { cut = a }) ≡ meaning (record r { cut = b })
means_alike r a b h = λ i. ended_or r.next r.said (meant r.said (h.given i) (h.fault i))

pub more_on : (r : Read) (x y : List ℕ) → meaning_with (with_more r x) y ≡ meaning_with r (x ++ y)
more_on r x y =
    means_alike r (after_piece (after_piece r.cut x) y) (after_piece r.cut (x ++ y))
    (two_pieces r.cut.given r.cut.reading r.cut.rest r.cut.fault x y)

same_fault : (a b : Option ℕ) → ◌≡◌ {A = Result (Unit {0}) (FeedError ℕ)} (answer_of Fault a) (answer_of Fault b) → a ≡ b
same_fault None None e = refl
same_fault None (Some b) e = cc
same_fault (Some a) None e = cc
same_fault (Some a) (Some b) e = let same : a ≡ b = cc in ap Some same

-- a piece that was cut, and then told
pub continues : (old : Read) (piece : List ℕ) (told : Option ℕ) (cut : Held) (new : Read) → cut ≡ after_piece old.cut piece
    → answer_of Fault told ≡ answer_of Fault cut.fault → Gathers (record old { cut = cut }) new
    → new.cut.fault ≡ cut.fault → Continues old piece told new
continues old piece told cut new is answer gathers stays = record {
  now = gathers.same.now ∙ ap (λ (k : Held). meaning (record old { cut = k })) is;
  later = λ more. gathers.same.later more ∙ (ap (λ (k : Held). meaning_with (record old { cut = k }) more) is ∙ more_on old piece more);
  none_held = gathers.none_held;
  fault = λ _. stays ∙ sym (same_fault told cut.fault answer);
}
