-- A message and its bytes.
use Rattle.std.proofs.Common.{ℕ, ◌+◌, ◌*◌, ◌^◌, ◌≡◌, ◌≤◌, ◌<◌, cond, Bool, true, List, ◌++◌, length, drop, Option, Some, None, refl, ◌∙◌}
use Rattle.std.proofs.Common.{ap, arith}
use Rattle.std.proofs.lemmas.List.{length-drop}
use Rattle.std.specs.Str.{bytes_eq}
use Rattle.std.proofs.lemmas.Bool.Decides.{nat_tests}
use Rattle.std.proofs.lemmas.Slice.Eq.{bytes_eq-Decides}
use Rattle.byteorder.specs.Endian.{little_bytes}
use Rattle.byteorder.specs.Numbers.{little_from-lt, little_number-reads_back}
use Rattle.adb_outside.specs.Bytes.{AreBytes}
use Rattle.adb_outside.proofs.ByteLaws.{byte_at}
use Rattle.adb_outside.proofs.CutLaws.{bytes_after}
use Rattle.adb_outside.proofs.Numbers.{number_again}
use Rattle.adb_sync.specs.declared.error.SyncRule.{SyncRule}
use Rattle.adb_sync.specs.declared.layout.Limit.{Limit}
use Rattle.adb_sync.specs.Messages.{number_at, numbers, limit_fault, comma_fault, last_comma}
use Rattle.adb_sync.specs.Framed.{IsBehind}

-- a number has 32 bits
pub number_fits : (i : ℕ) (bytes : List ℕ) → AreBytes bytes → number_at i bytes < 2 ^ 32
number_fits i bytes are = little_from-lt 0 4 (drop i bytes) (byte_at (drop i bytes) (bytes_after i bytes are))

-- a number that is the length of the bytes behind it
pub counted_again : (bytes : List ℕ) → AreBytes bytes → length bytes ≡ 4 + number_at 0 bytes
    → little_bytes 4 (length (drop 4 bytes)) ++ drop 4 bytes ≡ bytes
counted_again bytes are len =
    let same : length (drop 4 bytes) ≡ number_at 0 bytes = omega (arith, len, length-drop 4 bytes) in
    ap (λ k. little_bytes 4 k ++ drop 4 bytes) same ∙ number_again bytes are (omega (arith, len))

-- an id that is found is the one or one of the others
pub is_one : {K : Type 0} (letters : K → List ℕ) (bytes : List ℕ) (k j : K) (o : Option K) → (o ≡ Some j → bytes ≡ letters j)
    → cond (bytes_eq bytes (letters k)) (Some k) o ≡ Some j → bytes ≡ letters j
is_one letters bytes k j o others e = grind (arith, bytes_eq-Decides)

-- a number within its limit breaks nothing, and one that breaks nothing is within it
pub within : (most n : ℕ) (rule : SyncRule) → n ≤ most → limit_fault (Some (record { most = most; rule = rule })) n ≡ None
within most n rule h = grind (arith, nat_tests)

pub is_within : (most n : ℕ) (rule : SyncRule) → limit_fault (Some (record { most = most; rule = rule })) n ≡ None → n ≤ most
is_within most n rule e = grind (arith, nat_tests)

-- numbers alone
pub numbers_behind : (count : ℕ) (rest : List ℕ) → length rest ≡ 4 * count → IsBehind (numbers count) rest
numbers_behind count rest len = record { head = omega (arith, len); number = refl; size = omega (arith, len); body = refl }

-- a text behind its length
pub text_behind : (limit : Option Limit) (comma : Bool) (text : List ℕ) → length text < 2 ^ 32 → limit_fault limit (length text) ≡ None
    → cond comma (comma_fault (last_comma text)) None ≡ None
    → IsBehind (record { head = 4; limit = limit; counted = true; comma = comma }) (little_bytes 4 (length text) ++ text)
text_behind limit comma text short good whole =
    let count : number_at 0 (little_bytes 4 (length text) ++ text) ≡ length text =
    little_number-reads_back 4 (length text) text (omega (arith, short)) in
    record { head = omega arith; number = ap (limit_fault limit) count ∙ good; size = omega (arith, count); body = whole }
