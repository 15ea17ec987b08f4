-- What a note has where its writes failed or did not.
use Rattle.std.proofs.Common.{ℕ, ◌≡◌, ◌≢◌, Bool, true, List, [], ◌++◌, take, drop, Option, Some, refl, sym, subst, arith, inl, inr}
use Rattle.std.proofs.lemmas.List.{append-nil, take-append-drop}
use Rattle.adb_outside.specs.Outside.{Rises, Counted}
use Rattle.adb_outside.specs.Bytes.{IsPrefixOf}
use Rattle.adb_outside.specs.Sink.{gone_out, TellsWrite, is_failed_write}
use Rattle.adb_outside.specs.declared.sink.Wrote.{Wrote}
use Rattle.adb_outside.specs.declared.sink.Wrote.TheVariants.{All, Failed}
use Rattle.adb_top.specs.Notes.{out_of_memory_line, write_fault_line, IsJust, IsLine, IsLineOr, HasTried, HasFailed, NotesBy, RisesTwice}
use Rattle.adb_top.specs.declared.status.Status.{Status}
use Rattle.adb_top.specs.declared.status.Status.TheVariants.{Done, WriteFault, OutOfMemory}

-- what went out of a piece is a front of it
gone_front : (piece : List ℕ) (wrote : Wrote) → IsPrefixOf (gone_out piece wrote) piece
gone_front piece All = ([], append-nil piece)
gone_front piece (Failed taken) = (drop taken piece, take-append-drop taken piece)

-- The line of a status that is no WriteFault went out.
pub line_said : (status : Status) (line had : List ℕ) (after : Option (List ℕ)) (hand : Status → List ℕ → Type 0) (rose again : Type 0)
    → IsLine status line → status ≢ WriteFault → after ≡ Some (had ++ line) → NotesBy status hand rose again had after
line_said Done line had after hand rose again own other is = absurd own
line_said WriteFault line had after hand rose again own other is = absurd (other refl)
line_said _ line had after hand rose again own other is = record { line = line; own = own; is = is }

-- The line of WriteFault was tried.
last_told : (had : List ℕ) (last : Wrote) (after : Option (List ℕ)) (rose : Type 0) → (is_failed_write last ≡ true → rose)
    → after ≡ Some (had ++ gone_out write_fault_line last) → HasTried rose had after
last_told had All after rose fault is = record { last = write_fault_line; whole = inl refl; is = is }
last_told had (Failed taken) after rose fault is = record {
  last = take taken write_fault_line;
  whole = inr (fault refl, gone_front write_fault_line (Failed taken));
  is = is;
}

-- A line was cut, and the line of WriteFault was tried.
pub line_cut : {mid after : Option (List ℕ)} (status : Status) (line had : List ℕ) (taken : ℕ) (last : Wrote) {again : Type 0}
    → IsLine status line → status ≢ WriteFault → mid ≡ Some (had ++ take taken line) → TellsWrite mid after write_fault_line last
    → (is_failed_write last ≡ true → again) → HasFailed (IsJust status line) again had after
line_cut {after = after} status line had taken last {again = again} own other first second fault = record {
  status = status;
  other = other;
  line = line;
  own = own;
  comes = (refl, refl);
  cut = take taken line;
  front = gone_front line (Failed taken);
  tried = last_told (had ++ take taken line) last after again fault (second (had ++ take taken line) first);
}

-- The line of WriteFault was tried alone.
pub last_tried : (hand : Status → List ℕ → Type 0) (had : List ℕ) (last : Wrote) (after : Option (List ℕ)) (rose again : Type 0)
    → hand WriteFault write_fault_line → (is_failed_write last ≡ true → rose) → after ≡ Some (had ++ gone_out write_fault_line last)
    → NotesBy WriteFault hand rose again had after
last_tried hand had last after rose again comes fault is = inl (comes, last_told had last after rose fault is)

-- The count of calls that failed rose over one more, too.
pub rises_on : {a b c : Type 0} {x y z : ℕ} {failed : Bool} → Counted a b x y true → Counted b c y z failed → Rises x z
rises_on {x = x} {y = y} {z = z} first second = go (first.fault refl)
  where
    go : Rises x y → Rises x z
    go (inl less) = inl (omega (arith, less, second.count))
    go (inr last) = grind (arith, last, first.count, second.count)

-- It rose over the first, and again over one more that failed too.
pub rises_twice : {a b c : Type 0} {x y z : ℕ} {failed : Bool} → Counted a b x y true → Counted b c y z failed
    → failed ≡ true → RisesTwice x z
rises_twice {y = y} first second e = record { mid = y; first = first.fault refl; again = second.fault e }

-- ---- which line is at hand
-- a line that may be at hand may be so too by what allows more
pub notes_as : (hand other : Status → List ℕ → Type 0) → ((s : Status) (line : List ℕ) → hand s line → other s line)
    → (status : Status) (rose again : Type 0) (had : List ℕ) (after : Option (List ℕ)) → NotesBy status hand rose again had after
    → NotesBy status other rose again had after
notes_as hand other on WriteFault rose again had after (inl n) = inl (on WriteFault write_fault_line n.0, n.1)
notes_as hand other on WriteFault rose again had after (inr n) = inr (
  n.0,
  record {
    status = n.1.status;
    other = n.1.other;
    line = n.1.line;
    own = n.1.own;
    comes = on n.1.status n.1.line n.1.comes;
    cut = n.1.cut;
    front = n.1.front;
    tried = n.1.tried;
  },
)
notes_as hand other on _ rose again had after n = n

-- the line that alone is at hand may be at hand
pub notes_of : (status : Status) (line : List ℕ) (hand : Status → List ℕ → Type 0) → hand status line
    → (ended : Status) (rose again : Type 0) (had : List ℕ)
    (after : Option (List ℕ)) → NotesBy ended (IsJust status line) rose again had after → NotesBy ended hand rose again had after
notes_of status line hand comes ended rose again had after n = notes_as (IsJust status line) hand
    (λ s l is. subst (λ (t : Status). hand t l) (sym is.0) (subst (λ (k : List ℕ). hand status k) (sym is.1) comes))
    ended rose again had after n

-- ---- a line that is made in memory of its own
pub made_said : (own : Status) (line text : List ℕ) → text ≡ line
    → (ended : Status) (rose again : Type 0) (had : List ℕ) (after : Option (List ℕ))
    → NotesBy ended (IsJust own text) rose again had after → NotesBy ended (IsLineOr own line) rose again had after
made_said own line text same ended rose again had after n = notes_of own text (IsLineOr own line) (inl (refl, same))
    ended rose again had after n

-- there was no memory for it
pub made_starved : (own : Status) (line : List ℕ) (ended : Status) (rose again : Type 0) (had : List ℕ) (after : Option (List ℕ))
    → NotesBy ended (IsJust OutOfMemory out_of_memory_line) rose again had after → NotesBy ended (IsLineOr own line) rose again had after
made_starved own line ended rose again had after n =
    notes_of OutOfMemory out_of_memory_line (IsLineOr own line) (inr (refl, refl)) ended rose again had after n
