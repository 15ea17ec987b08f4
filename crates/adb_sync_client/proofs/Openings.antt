-- What an answer begins with: its id, the number behind it, and which heads may begin one.
use Rattle.std.proofs.Common.{ℕ, zero, suc, ◌+◌, ◌-◌, ◌≡◌, ◌<◌, ◌≤◌, ◌⊎◌, inl, inr, Bool, true, false, List, [], ◌∷◌, ◌++◌, length, take}
use Rattle.std.proofs.Common.{drop, Some, None}
use Rattle.std.proofs.Common.{min, replicate, slice_index, sym, refl, ◌∙◌, ap, append_assoc, arith}
use Rattle.std.specs.Prelude.{if◌then◌else◌, ◌||◌, nat_le, codes}
use Rattle.std.proofs.lemmas.Bool.Decides.{nat_tests}
use Rattle.std.proofs.lemmas.List.{get_or-drop, length-append}
use Rattle.std.proofs.lemmas.List.{append-nil, take-append-le, take-take, take_all}
use Rattle.std.proofs.lemmas.List.Elements.{All-nil, All-cons}
use Rattle.std.proofs.lemmas.Bool.{and_parts, and_from}
use Rattle.std.proofs.lemmas.Slice.Eq.{bytes_eq-Decides}
use Rattle.byteorder.specs.Endian.{little_from}
use Rattle.byteorder.specs.Numbers.{little_from-take}
use Rattle.adb_outside.specs.Bytes.{AreBytes}
use Rattle.adb_sync.specs.declared.answer_id.AnswerId.{AnswerId}
use Rattle.adb_sync.specs.declared.answer_id.AnswerId.TheVariants as ids
use Rattle.adb_sync.specs.declared.layout.TheConstants.{MAX_CHUNK}
use Rattle.adb_sync.specs.Messages.{number_at, head_number, chunk_limit, limit_fault}
use Rattle.adb_sync.specs.Answers.{answer_layout}
use Rattle.adb_sync.proofs.AnswerCuts.{letters}
use Rattle.adb_sync_client.specs.declared.kind.AnswerKind.{AnswerKind}
use Rattle.adb_sync_client.specs.declared.kind.AnswerKind.TheVariants as kinds
use Rattle.adb_sync_client.specs.Expected.{begins, begins_chunk, goes_on, may_begin, stray_behind}

-- ---- numbers
-- a byte at a place is none where none is there
index_le : (x y : List ℕ) (i : ℕ) → slice_index x i ≤ slice_index (x ++ y) i
index_le [] y i = omega arith
index_le (byte ∷ x) y zero = omega arith
index_le (byte ∷ x) y (suc i) = index_le x y i

index_zeros : (x : List ℕ) (k i : ℕ) → slice_index (x ++ replicate k 0) i ≡ slice_index x i
index_zeros [] zero i = refl
index_zeros [] (suc k) zero = refl
index_zeros [] (suc k) (suc i) = index_zeros [] k i
index_zeros (byte ∷ x) k zero = refl
index_zeros (byte ∷ x) k (suc i) = index_zeros x k i

-- a number behind so many bytes, from its place in all of them
number_from : (j n i : ℕ) (x : List ℕ) → little_from i n (drop j x) ≡ little_from (j + i) n x
number_from j zero i x = refl
number_from j (suc n) i x =
    let next : j + suc i ≡ suc (j + i) = omega arith in
    rw (get_or-drop j x i 0, number_from j n (suc i) x, next) refl

from_le : (n i : ℕ) (x y : List ℕ) → little_from i n x ≤ little_from i n (x ++ y)
from_le zero i x y = omega arith
from_le (suc n) i x y = omega (arith, index_le x y i, from_le n (suc i) x y)

from_zeros : (n i k : ℕ) (x : List ℕ) → little_from i n (x ++ replicate k 0) ≡ little_from i n x
from_zeros zero i k x = refl
from_zeros (suc n) i k x = rw (index_zeros x k i, from_zeros n (suc i) k x) refl

-- more bytes make a number no less, and zeros leave it
number_le : (j : ℕ) (x y : List ℕ) → number_at j x ≤ number_at j (x ++ y)
number_le j x y = omega (arith, number_from j 4 0 x, number_from j 4 0 (x ++ y), from_le 4 (j + 0) x y)

pub number_zeros : (j k : ℕ) (x : List ℕ) → number_at j (x ++ replicate k 0) ≡ number_at j x
number_zeros j k x = number_from j 4 0 (x ++ replicate k 0) ∙ (from_zeros 4 (j + 0) k x ∙ sym (number_from j 4 0 x))

pub number_taken : (x : List ℕ) → number_at 4 (take 8 x) ≡ number_at 4 x
number_taken x = number_from 4 4 0 (take 8 x) ∙ (little_from-take 4 4 8 x (omega arith) ∙ sym (number_from 4 4 0 x))

-- ---- heads
or_left : (a b : Bool) → a ≡ true → (a || b) ≡ true
or_left a b h = ap (λ t. t || b) h

or_right : (a b : Bool) → b ≡ true → (a || b) ≡ true
or_right true b h = refl
or_right false b h = h

or_cases : (a b : Bool) → (a || b) ≡ true → (a ≡ true) ⊎ (b ≡ true)
or_cases true b h = inl refl
or_cases false b h = inr h

or_less : (a b c d : Bool) → (a ≡ true → c ≡ true) → (b ≡ true → d ≡ true) → (a || b) ≡ true → (c || d) ≡ true
or_less true b c d f g h = or_left c d (f refl)
or_less false b c d f g h = or_right c d (g h)

pub begins_front : (name head : List ℕ) → begins name head ≡ true → take (min (length head) 4) head ≡ take (min (length head) 4) name
begins_front name head h = (bytes_eq-Decides (take (min (length head) 4) head) (take (min (length head) 4) name)).0 h

-- what begins with an id begins with it in fewer bytes
begins_less : (name x y : List ℕ) → begins name (x ++ y) ≡ true → begins name x ≡ true
begins_less name x y h =
    let n = min (length x) 4 in
    let m = min (length (x ++ y)) 4 in
    let low : n ≤ m = omega (arith, length-append x y) in
    let same = begins_front name (x ++ y) h in
    (bytes_eq-Decides (take n x) (take n name)).1
    (sym (take-append-le n x y (omega arith))
    ∙ (sym (take-take n m (x ++ y) low) ∙ (ap (take n) same ∙ take-take n m name low)))

pub begins_long : (name bytes : List ℕ) → 4 ≤ length bytes → length name ≡ 4 → take 4 bytes ≡ name → begins name bytes ≡ true
begins_long name bytes long four is =
    let at : min (length bytes) 4 ≡ 4 = omega (arith, long) in
    (bytes_eq-Decides (take (min (length bytes) 4) bytes) (take (min (length bytes) 4) name)).1
    (ap (λ k. take k bytes) at ∙ (is ∙ (sym (take_all 4 name (omega (arith, four))) ∙ ap (λ k. take k name) (sym at))))

le_less : (a b most : ℕ) → a ≤ b → nat_le b most ≡ true → nat_le a most ≡ true
le_less a b most h e = grind (arith, nat_tests)

chunk_less : (x y : List ℕ) → begins_chunk (x ++ y) ≡ true → begins_chunk x ≡ true
chunk_less x y h =
    let parts = and_parts (begins (codes "DATA") (x ++ y)) (nat_le (number_at 4 (x ++ y)) MAX_CHUNK) h in
    and_from (begins (codes "DATA") x) (nat_le (number_at 4 x) MAX_CHUNK) (begins_less (codes "DATA") x y parts.0)
    (le_less (number_at 4 x) (number_at 4 (x ++ y)) MAX_CHUNK (number_le 4 x y) parts.1)

goes_less : (kind : AnswerKind) (x y : List ℕ) → goes_on kind (x ++ y) ≡ true → goes_on kind x ≡ true
goes_less kinds.Push x y h = begins_less (codes "OKAY") x y h
goes_less kinds.Pull x y h =
    or_less (begins_chunk (x ++ y)) (begins (codes "DONE") (x ++ y)) (begins_chunk x) (begins (codes "DONE") x)
    (chunk_less x y) (begins_less (codes "DONE") x y) h
goes_less kinds.Stat x y h = begins_less (codes "STAT") x y h
goes_less kinds.List x y h =
    or_less (begins (codes "DENT") (x ++ y)) (begins (codes "DONE") (x ++ y)) (begins (codes "DENT") x) (begins (codes "DONE") x)
    (begins_less (codes "DENT") x y) (begins_less (codes "DONE") x y) h

may_less : (kind : AnswerKind) (x y : List ℕ) → may_begin kind (x ++ y) ≡ true → may_begin kind x ≡ true
may_less kind x y h =
    or_less (goes_on kind (x ++ y)) (begins (codes "FAIL") (x ++ y)) (goes_on kind x) (begins (codes "FAIL") x)
    (goes_less kind x y) (begins_less (codes "FAIL") x y) h

-- bytes with which an answer may begin have no stray byte, and the other way round
pub clear_of_begins : (kind : AnswerKind) (before bytes : List ℕ) → may_begin kind (before ++ bytes) ≡ true
    → stray_behind kind before bytes ≡ None
clear_of_begins kind before [] h = refl
clear_of_begins kind before (byte ∷ bytes) h =
    let grown = before ++ byte ∷ [] in
    let all : may_begin kind (grown ++ bytes) ≡ true = ap (may_begin kind) (append_assoc before (byte ∷ []) bytes) ∙ h in
    ap (λ t. if t then stray_behind kind grown bytes else Some (length before)) (may_less kind grown bytes all)
    ∙ clear_of_begins kind grown bytes all

pub begins_of_clear : (kind : AnswerKind) (before bytes : List ℕ) → may_begin kind before ≡ true → stray_behind kind before bytes ≡ None
    → may_begin kind (before ++ bytes) ≡ true
begins_of_clear kind before [] h clear = ap (may_begin kind) (append-nil before) ∙ h
begins_of_clear kind before (byte ∷ bytes) h clear = go (may_begin kind grown) refl clear (begins_of_clear kind grown bytes)
  where
    grown : List ℕ
    grown = before ++ byte ∷ []

    go : (t : Bool) → may_begin kind grown ≡ t → (if t then stray_behind kind grown bytes else Some (length before)) ≡ None
        → (may_begin kind grown ≡ true → stray_behind kind grown bytes ≡ None → may_begin kind (grown ++ bytes) ≡ true)
        → may_begin kind (before ++ byte ∷ bytes) ≡ true
    go true is on more = ap (may_begin kind) (sym (append_assoc before (byte ∷ []) bytes)) ∙ more is on
    go false is on more = absurd (cc)

pub nothing_begins : (kind : AnswerKind) → may_begin kind [] ≡ true
nothing_begins kinds.Push = refl
nothing_begins kinds.Pull = refl
nothing_begins kinds.Stat = refl
nothing_begins kinds.List = refl

-- ---- ids
pub four_letters : (id : AnswerId) → length (letters id) ≡ 4
four_letters ids.Stat = refl
four_letters ids.Dent = refl
four_letters ids.Data = refl
four_letters ids.Done = refl
four_letters ids.Okay = refl
four_letters ids.Fail = refl

four_bytes : (a b c d : ℕ) → a < 256 → b < 256 → c < 256 → d < 256 → AreBytes (a ∷ b ∷ c ∷ d ∷ [])
four_bytes a b c d ha hb hc hd =
    let P : ℕ → Type 0 = λ byte. byte < 256 in
    All-cons P a (b ∷ c ∷ d ∷ []) ha (All-cons P b (c ∷ d ∷ []) hb (All-cons P c (d ∷ []) hc (All-cons P d [] hd (All-nil P))))

pub letter_bytes : (id : AnswerId) → AreBytes (letters id)
letter_bytes ids.Stat = four_bytes 83 84 65 84 (omega arith) (omega arith) (omega arith) (omega arith)
letter_bytes ids.Dent = four_bytes 68 69 78 84 (omega arith) (omega arith) (omega arith) (omega arith)
letter_bytes ids.Data = four_bytes 68 65 84 65 (omega arith) (omega arith) (omega arith) (omega arith)
letter_bytes ids.Done = four_bytes 68 79 78 69 (omega arith) (omega arith) (omega arith) (omega arith)
letter_bytes ids.Okay = four_bytes 79 75 65 89 (omega arith) (omega arith) (omega arith) (omega arith)
letter_bytes ids.Fail = four_bytes 70 65 73 76 (omega arith) (omega arith) (omega arith) (omega arith)

-- The id of an answer of a kind, and a number that may stand behind it: whatever has both may begin an answer.
pub record Opening (kind : AnswerKind) (list : Bool) (number : ℕ) : Type 0 where
  pub id : AnswerId
  pub small : (rest : List ℕ) → number_at 0 rest ≡ number → limit_fault (answer_layout list id).limit
      (head_number (answer_layout list id) rest) ≡ None
  pub again : (other : List ℕ) → begins (letters id) other ≡ true → number_at 4 other ≡ number → may_begin kind other ≡ true

pub record Opens (kind : AnswerKind) (list : Bool) (head : List ℕ) : Type 0 where
  pub opening : Opening kind list (number_at 4 head)
  pub here : begins (letters opening.id) head ≡ true

-- an id whose number has no limit
free : (kind : AnswerKind) (list : Bool) (head : List ℕ) (id : AnswerId)
    → ((rest : List ℕ) → limit_fault (answer_layout list id).limit (head_number (answer_layout list id) rest) ≡ None)
    → ((other : List ℕ) → begins (letters id) other ≡ true → may_begin kind other ≡ true)
    → begins (letters id) head ≡ true → Opens kind list head
free kind list head id small again here = record {
  opening = record { id = id; small = λ rest same. small rest; again = λ other is same. again other is };
  here = here;
}

within_limit : (n : ℕ) → nat_le n MAX_CHUNK ≡ true → limit_fault chunk_limit n ≡ None
within_limit n h = grind (arith, nat_tests)

chunk_opens : (list : Bool) (head : List ℕ) → begins_chunk head ≡ true → Opens kinds.Pull list head
chunk_opens list head h =
    let parts = and_parts (begins (codes "DATA") head) (nat_le (number_at 4 head) MAX_CHUNK) h in
    record {
      opening = record {
        id = ids.Data;
        small = λ rest same. within_limit (number_at 0 rest) (ap (λ n. nat_le n MAX_CHUNK) same ∙ parts.1);
        again = λ other is same.
            or_left (goes_on kinds.Pull other) (begins (codes "FAIL") other) (or_left (begins_chunk other) (begins (codes "DONE") other)
            (and_from (begins (codes "DATA") other) (nat_le (number_at 4 other) MAX_CHUNK) is
            (ap (λ n. nat_le n MAX_CHUNK) same ∙ parts.1)));
      };
      here = parts.0;
    }

pub opens : (kind : AnswerKind) (list : Bool) (head : List ℕ) → may_begin kind head ≡ true → Opens kind list head
opens kind list head h = by kind (or_cases (goes_on kind head) (begins (codes "FAIL") head) h)
  where
    fails : (kind : AnswerKind) → begins (codes "FAIL") head ≡ true → Opens kind list head
    fails kind is = free kind list head ids.Fail (λ rest. refl)
        (λ other is. or_right (goes_on kind other) (begins (codes "FAIL") other) is) is

    goes : (kind : AnswerKind) (id : AnswerId)
        → ((rest : List ℕ) → limit_fault (answer_layout list id).limit (head_number (answer_layout list id) rest) ≡ None)
        → ((other : List ℕ) → begins (letters id) other ≡ true → goes_on kind other ≡ true)
        → begins (letters id) head ≡ true → Opens kind list head
    goes kind id small again is =
        free kind list head id small (λ other is. or_left (goes_on kind other) (begins (codes "FAIL") other) (again other is)) is

    pulls : (begins_chunk head ≡ true) ⊎ (begins (codes "DONE") head ≡ true) → Opens kinds.Pull list head
    pulls (inl is) = chunk_opens list head is
    pulls (inr is) = goes kinds.Pull ids.Done (λ rest. refl) (λ other is. or_right (begins_chunk other) (begins (codes "DONE") other) is) is

    lists : (begins (codes "DENT") head ≡ true) ⊎ (begins (codes "DONE") head ≡ true) → Opens kinds.List list head
    lists (inl is) = goes kinds.List ids.Dent (λ rest. refl)
        (λ other is. or_left (begins (codes "DENT") other) (begins (codes "DONE") other) is) is
    lists (inr is) = goes kinds.List ids.Done (λ rest. refl)
        (λ other is. or_right (begins (codes "DENT") other) (begins (codes "DONE") other) is) is

    by : (kind : AnswerKind) → (goes_on kind head ≡ true) ⊎ (begins (codes "FAIL") head ≡ true) → Opens kind list head
    by kind (inr is) = fails kind is
    by kinds.Push (inl is) = goes kinds.Push ids.Okay (λ rest. refl) (λ other is. is) is
    by kinds.Stat (inl is) = goes kinds.Stat ids.Stat (λ rest. refl) (λ other is. is) is
    by kinds.Pull (inl is) = pulls (or_cases (begins_chunk head) (begins (codes "DONE") head) is)
    by kinds.List (inl is) = lists (or_cases (begins (codes "DENT") head) (begins (codes "DONE") head) is)
