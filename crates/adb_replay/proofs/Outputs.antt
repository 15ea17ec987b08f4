-- What is kept goes out in pieces.
use Rattle.std.proofs.Common.{ℕ, ◌≡◌, List, [], ◌++◌, take, drop, Option, Some, Result, Ok, Err, sym, refl, ◌∙◌, ap}
use Rattle.std.proofs.lemmas.List.{append_assoc, append-nil, take-append-drop}
use Rattle.adb_replay.specs.Keeping.{Out, Keeps, HasFront, KeepsMore, WritesOut, IsWriteEnd}
use Rattle.adb_replay.specs.declared.stop.Stop.{Stop}
use Rattle.adb_replay.specs.declared.stop.Stop.TheVariants.{ReadFault, WriteFault, OutOfMemory, Refused}

-- nothing is gathered
pub all_out : (had text : List ℕ) (out : Out) → out.1 ≡ [] → Keeps had text out → out.0 ≡ Some (had ++ text)
all_out had text out none k =
    let all : k.growth ≡ text = sym (append-nil k.growth) ∙ (ap (λ g. k.growth ++ g) (sym none) ∙ k.whole) in
    k.is ∙ ap (λ g. Some (had ++ g)) all

-- what was gathered went out
pub goes_out : (had text : List ℕ) (before : Out) (written : Option (List ℕ)) → Keeps had text before
    → ((out : List ℕ) → before.0 ≡ Some out → written ≡ Some (out ++ before.1)) → written ≡ Some (had ++ text)
goes_out had text before written k told = told (had ++ k.growth) k.is
    ∙ ap Some (append_assoc had k.growth before.1 ∙ ap (λ t. had ++ t) k.whole)

-- a front of it did
pub goes_out_in_part : (had text : List ℕ) (taken : ℕ) (before : Out) (written : Option (List ℕ)) → Keeps had text before
    → ((out : List ℕ) → before.0 ≡ Some out → written ≡ Some (out ++ take taken before.1)) → HasFront had text written
goes_out_in_part had text taken before written k told = record {
  growth = k.growth ++ take taken before.1;
  is = told (had ++ k.growth) k.is ∙ ap Some (append_assoc had k.growth (take taken before.1));
  front = (
    drop taken before.1,
    append_assoc k.growth (take taken before.1) (drop taken before.1)
        ∙ (ap (λ g. k.growth ++ g) (take-append-drop taken before.1) ∙ k.whole),
  );
}

-- what went out wholly is kept with nothing gathered
pub kept_out : (had text : List ℕ) (out : Out) → out.0 ≡ Some (had ++ text) → out.1 ≡ [] → Keeps had text out
kept_out had text out is none = record { growth = text; is = is; whole = ap (λ g. text ++ g) none ∙ append-nil text }

-- ---- two writes, one behind the other
module _ (had text gathered end : List ℕ) (written : Option (List ℕ)) (k : Keeps had text (written, gathered ++ end)) where
  -- the front of a text that ends with what is gathered
  abbrev pub front : List ℕ
  front = k.growth ++ gathered

  pub front_kept : Keeps had front (written, gathered)
  front_kept = record { growth = k.growth; is = k.is; whole = refl }

  front_is : front ++ end ≡ text
  front_is = append_assoc k.growth gathered end ∙ k.whole

  -- it went out, and the end is still to come
  pub end_kept : (mid : Option (List ℕ)) → mid ≡ Some (had ++ front) → Keeps had text (mid, end)
  end_kept mid is = record { growth = front; is = is; whole = front_is }

  -- a front of it went out
  pub front_cut : (mid : Option (List ℕ)) → HasFront had front mid → HasFront had text mid
  front_cut mid f = record {
    growth = f.growth;
    is = f.is;
    front = (f.front.0 ++ end, sym (append_assoc f.growth f.front.0 end) ∙ (ap (λ t. t ++ end) f.front.1 ∙ front_is));
  }

-- nothing is left of a text that went out, or a front of it did
pub kept_or_cut : (had text piece : List ℕ) (after : Out) (result : Result (Unit {0}) Stop) → IsWriteEnd result
    → WritesOut result had (text ++ piece) after.0 → after.1 ≡ [] → KeepsMore result had text piece after
kept_or_cut had text piece after (Ok done) e w none = kept_out had (text ++ piece) after w none
kept_or_cut had text piece after (Err ReadFault) e w none = e
kept_or_cut had text piece after (Err WriteFault) e w none = (w, none)
kept_or_cut had text piece after (Err OutOfMemory) e w none = absurd e
kept_or_cut had text piece after (Err (Refused why)) e w none = e

-- a write failed
pub write_fault_of : (why : Stop) → IsWriteEnd (Err why) → why ≡ WriteFault
write_fault_of ReadFault e = absurd e
write_fault_of WriteFault e = refl
write_fault_of OutOfMemory e = absurd e
write_fault_of (Refused why) e = absurd e
