-- The capture of a load is taken whole by a server that replays it.
use Rattle.std.proofs.Common.{ℕ, ◌+◌, ◌^◌, ◌≡◌, ◌<◌, ◌≤◌, true, false, List, [], ◌∷◌, ◌++◌, length, drop, refl, ◌∙◌, ap, arith}
use Rattle.std.specs.Prelude.{None}
use Rattle.std.proofs.lemmas.List.{take_at, drop_at, length-append}
use Rattle.adb_outside.specs.Framing.{Cut, joined, cut_by, cut}
use Rattle.adb_outside.proofs.FramingLaws.{cut_first}
use Rattle.adb_capture.specs.declared.entry.Entry.{Entry}
use Rattle.adb_capture.specs.declared.entry.Entry.TheVariants.{Put, Send}
use Rattle.adb_capture.specs.declared.error.FormFault.{FormFault}
use Rattle.adb_capture.specs.declared.limits.TheConstants.{MAX_CAPTURE}
use Rattle.adb_capture.specs.Records.{HasRecord, magic, record_of, records_of, record_at, entry_in, offset_after}
use Rattle.adb_capture.proofs.Fronts.{framing}
use Rattle.adb_capture.proofs.Spellings.{spelled_whole, spelled_again}
use Rattle.adb_history.specs.Machine.{History, state}
use Rattle.adb_history.specs.Book.{is_killed}
use Rattle.adb_history.specs.Drained.{drained_after}
use Rattle.adb_history.specs.Accepted.{Accepted, accepted, accept_from, accept_cut, accept_by}
use Rattle.adb_history.specs.Accepted.{unless_stopped, with_input, ends_with, end_of, is_input, refusal_of}
use Rattle.adb_load.specs.Course.{start, turns_left}
use Rattle.adb_load.specs.Load.{acts_ahead, load}
use Rattle.adb_laws_loads.proofs.Inputs.{SameCame, same_refl, came_onto}
use Rattle.adb_laws_loads.proofs.Taking.{AllMayCome, Wants, taken, stopped_is}
use Rattle.adb_laws_loads.proofs.Following.{turns_follow, load_follows}
use Rattle.adb_laws_loads.proofs.Legal.{IsFine, IsFew, in_range, has_port, few_first, after_same, after_fine, fine_at_first, load_few}

-- ---- records
abbrev AllHaveRecords : List Entry → Type 0
AllHaveRecords [] = Unit {0}
AllHaveRecords (e ∷ inputs) = HasRecord e × AllHaveRecords inputs

all_records : (inputs : List Entry) (g : History) → AllMayCome inputs g → IsFew (came_onto inputs g) → AllHaveRecords inputs
all_records [] g may few = tt
all_records (e ∷ inputs) g may few =
    let range = in_range g e may.0.wants may.0.bytes (few_first inputs (e ∷ g) few) in (
      record { owner = range.owner; port = has_port g e may.0.wants; bytes = range.bytes; size = may.0.size },
      all_records inputs (e ∷ g) may.1 few,
    )

-- entries with the offsets of their records
abbrev placed : ℕ → List Entry → List (ℕ × Entry)
placed offset [] = []
placed offset (e ∷ inputs) = (offset, e) ∷ placed (offset + length (record_of e)) inputs

-- all was cut to these
record IsCutTo (c : Cut ℕ (ℕ × Entry) FormFault) (all : List (ℕ × Entry)) : Type 0 where
  pub given : c.given ≡ all
  pub rest : c.rest ≡ []
  pub fault : c.fault ≡ None

abbrev cut_all : ℕ → List ℕ → Cut ℕ (ℕ × Entry) FormFault
cut_all offset bytes = cut record_at entry_in offset_after offset bytes

cut_record : (e : Entry) (offset : ℕ) (rest : List ℕ) → HasRecord e → offset + length (record_of e) ≤ MAX_CAPTURE
    → cut_all offset (record_of e ++ rest) ≡ joined ((offset, e) ∷ []) (cut_all (offset + length (record_of e)) rest)
cut_record e offset rest has near =
    cut_first record_at entry_in offset_after framing offset bytes
    ∙ (ap (λ front. cut_by record_at entry_in offset_after offset bytes front (cut record_at entry_in offset_after))
    (spelled_whole offset e rest has near)
    ∙ (ap (λ first. joined (entry_in offset first ∷ []) (cut_all (offset_after offset first) (drop n bytes)))
    (take_at (record_of e) rest n refl)
    ∙ (ap (λ more. joined (entry_in offset (record_of e) ∷ []) (cut_all (offset + n) more)) (drop_at (record_of e) rest n refl)
    ∙ ap (λ item. joined (item ∷ []) (cut_all (offset + n) rest)) (spelled_again offset e has))))
  where
    n : ℕ
    n = length (record_of e)

    bytes : List ℕ
    bytes = record_of e ++ rest

cut_records : (inputs : List Entry) (offset : ℕ) → AllHaveRecords inputs → offset + length (records_of inputs) ≤ MAX_CAPTURE
    → IsCutTo (cut_all offset (records_of inputs)) (placed offset inputs)
cut_records [] offset have near = record { given = refl; rest = refl; fault = refl }
cut_records (e ∷ inputs) offset have near =
    let size = length-append (record_of e) (records_of inputs) in
    let first = cut_record e offset (records_of inputs) have.0 (omega (arith, size, near)) in
    let others = cut_records inputs (offset + length (record_of e)) have.1 (omega (arith, size, near)) in
    record {
      given = ap (λ (c : Cut ℕ (ℕ × Entry) FormFault). c.given) first ∙ ap (λ given. (offset, e) ∷ given) others.given;
      rest = ap (λ (c : Cut ℕ (ℕ × Entry) FormFault). c.rest) first ∙ others.rest;
      fault = ap (λ (c : Cut ℕ (ℕ × Entry) FormFault). c.fault) first ∙ others.fault;
    }

-- ---- what is accepted
abbrev given_whole : List Entry → Accepted
given_whole inputs = record { inputs = inputs; refused = None }

wanted_input : (g : History) (e : Entry) → Wants g e → is_input e ≡ true
wanted_input g (Put c bytes) wants = absurd wants
wanted_input g (Send t bytes) wants = absurd wants
wanted_input g _ wants = refl

accept_all : (inputs : List Entry) (offset : ℕ) (h g : History) → SameCame h g → IsFine h → AllMayCome inputs g → IsFew (came_onto inputs g)
    → is_killed (came_onto inputs g) ≡ false → accept_from (placed offset inputs) None h ≡ given_whole inputs
accept_all [] offset h g same fine may few killed = ap (λ b. unless_stopped b (ends_with None)) (stopped_is h g fine.legal same killed)
accept_all (e ∷ inputs) offset h g same fine may few killed =
    let is = taken h g e fine.legal same may.0 in
    ap (λ b. unless_stopped b (accept_by (refusal_of (state h) e) (is_input e) h offset e others)) is.1
    ∙ (ap (λ why. accept_by why (is_input e) h offset e others) is.0
    ∙ (ap (λ b. accept_by None b h offset e others) (wanted_input g e may.0.wants)
    ∙ ap (with_input e) (accept_all inputs next (drained_after h e) (e ∷ g) (after_same h g e same)
    (after_fine h g e same fine may.0 (few_first inputs (e ∷ g) few)) may.1 few killed)))
  where
    next : ℕ
    next = offset + length (record_of e)

    others : History → Accepted
    others = accept_from (placed next inputs) None

accept_whole : (c : Cut ℕ (ℕ × Entry) FormFault) (all : List (ℕ × Entry)) (h : History) → IsCutTo c all
    → accept_cut c h ≡ accept_from all None h
accept_whole c all h is =
    ap (λ given. accept_from given (end_of c.fault c.rest c.reading) h) is.given
    ∙ (ap (λ fault. accept_from all (end_of fault c.rest c.reading) h) is.fault
    ∙ ap (λ rest. accept_from all (end_of None rest c.reading) h) is.rest)

load_lives : (seed streams : ℕ) → is_killed (came_onto (load seed streams) []) ≡ false
unfolding acts_ahead
load_lives seed streams = (turns_follow seed streams (turns_left (start seed streams))).stands.killed

-- A server that replays the capture of a load is given all of it.
pub load_accepted : (seed streams : ℕ) → streams < 2 ^ 32 → length (magic ++ records_of (load seed streams)) ≤ MAX_CAPTURE
    → accepted (magic ++ records_of (load seed streams)) ≡ given_whole (load seed streams)
load_accepted seed streams few near =
    accept_whole (cut_all 8 (records_of inputs)) (placed 8 inputs) []
    (cut_records inputs 8 (all_records inputs [] (load_follows seed streams) (load_few seed streams few)) (omega (arith, near)))
    ∙ accept_all inputs 8 [] [] (same_refl []) fine_at_first (load_follows seed streams) (load_few seed streams few)
    (load_lives seed streams)
  where
    inputs : List Entry
    inputs = load seed streams
