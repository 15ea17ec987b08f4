-- The record of a hall of one thread after the workers of a client.
use Rattle.std.proofs.Common.{ℕ, ◌≡◌, Bool, true, List, [], ◌∷◌, ◌++◌, Option, Some, None, refl, sym, ◌∙◌, ap, subst, inl, inr}
use Rattle.std.specs.Prelude.{is_some}
use Rattle.adb_outside.specs.Memory.{MemoryOutput}
use Rattle.adb_capture.specs.declared.entry.Entry.{Entry}
use Rattle.adb_capture.specs.declared.entry.Entry.TheVariants.{Join}
use Rattle.adb_server_log.specs.declared.error.DeskError.{DeskError}
use Rattle.adb_desk.specs.declared.act.Half.TheVariants as half
use Rattle.adb_server_hall.specs.Telling.{Telling, Entered, Overs}
use Rattle.adb_server_hall.proofs.Made.{tells_more}
use Rattle.adb_desk.specs.Desk.{or_stopped}
use Rattle.adb_server_hall.specs.Made.{Tells}
use Rattle.adb_server_client_reader.specs.Reading.{Done, Holds, Reads, Seen, Shown, all_of}
use Rattle.adb_server_writers.specs.Writing.{Written, outlet, side_of}
use Rattle.adb_examples.specs.Served.{Served}

same_of : {A : Type 0} (a b : A) → Some a ≡ Some b → a ≡ b
same_of a b both = let same : a ≡ b = cc in same

open_not_shut : (shut : Option DeskError) → shut ≡ None → is_some shut ≡ true → ⊥
open_not_shut None is set = cc
open_not_shut (Some error) is set = cc

-- what the reader made
abbrev pub made_by : (c : ℕ) (es : List Entry) (coming : List ℕ) (first : Shown) (now : Seen) → Done c es coming first now → List Entry
made_by c es coming first now done = all_of c done.made done.cut done.ended

-- After the reader the hall tells what the reader made, unless it is shut.
pub read_on : (c : ℕ) (es : List Entry) (coming : List ℕ) (first : Shown) (now : Seen) (t : Telling) (done : Done c es coming first now)
    → now.tells ≡ Some t → t.shut ≡ None → Tells t (es ++ made_by c es coming first now done)
read_on c es coming first now t done tells going =
    let made : List Entry = made_by c es coming first now done in
    let holds : Holds t (es ++ made) =
    subst (λ (u : Telling). Holds u (es ++ made)) (same_of done.hall t (sym done.tells_now ∙ tells)) done.holds in
    elim holds.held [
      | inl lawful ↦ record { told = holds.told; lawful = lawful }
      | inr shut ↦ absurd (open_not_shut t.shut going shut)
    ]

-- After the writer the record and the port are as they should be.
pub written_out : (es reads : List Entry) (c : ℕ) (t : Telling) (was starved gone closed : Bool) (before after : MemoryOutput)
    → Written (side_of half.Client c) ((es ++ Join c ∷ []) ++ reads) (Some t) was starved (outlet before.faults (Some before.out) gone)
    (outlet after.faults (Some after.out) closed) → Served es c t.told before after
written_out es reads c t was starved gone closed before after w = record {
  reads = reads;
  pieces = w.pieces;
  last = w.last;
  record_is = ap (λ (u : Telling). u.told) (same_of t w.now w.is) ∙ w.stands.told ∙ ap (λ (xs : List Entry). Some (xs ++ w.last)) w.made;
  got = w.front;
  lost = w.lost;
  pieces_are = w.handed;
  port_got = same_of after.out (before.out ++ w.front) (w.wrote before.out refl);
  all = elim w.why [
    | inl whole ↦ inl whole.0.none
    | inr failed ↦ inr failed.rises
  ];
}

none_shut : (shut : Option DeskError) (stopped : Bool) → None ≡ or_stopped shut stopped → shut ≡ None
none_shut (Some error) stopped over = cc
none_shut None stopped over = refl

-- `over` said of a hall that it goes on, and left it as it was.
pub goes_on : (a b : Telling) (answer : Option DeskError) → Overs answer a b → answer ≡ or_stopped b.shut b.hub.stopped
goes_on a b answer over = subst (λ (t : Telling). answer ≡ or_stopped t.shut t.hub.stopped) (sym over.same) over.told

-- What a client's two workers did over a hall of one thread, of the clauses of the calls in turn. The hall tells `a` before the client joins, `b`
-- after that, `t` after its reader, and `w` after its writer.
pub serves : (es : List Entry) (c : ℕ) (a b t w : Telling) (first now : Seen) (coming : List ℕ) (was starved gone closed : Bool)
    (before after : MemoryOutput) → Tells a es → Entered (Join c) a b → first.tells ≡ Some b → first.left ≡ Some coming → Reads c first now
    → now.tells ≡ Some t → None ≡ or_stopped t.shut t.hub.stopped
    → ((u : Telling) (xs : List Entry) → Some t ≡ Some u → Tells u xs
    → Written (side_of half.Client c) xs (Some w) was starved (outlet before.faults (Some before.out) gone)
    (outlet after.faults (Some after.out) closed))
    → Served es c w.told before after
serves es c a b t w first now coming was starved gone closed before after tells joined first_tells left reads now_tells over writes =
    let done = reads b (es ++ Join c ∷ []) coming first_tells (tells_more (Join c) a b es tells joined) left in
    let told = read_on c (es ++ Join c ∷ []) coming first.shown now t done now_tells (none_shut t.shut t.hub.stopped over) in
    written_out es (made_by c (es ++ Join c ∷ []) coming first.shown now done) c w was starved gone closed before after
    (writes t ((es ++ Join c ∷ []) ++ made_by c (es ++ Join c ∷ []) coming first.shown now done) refl told)
