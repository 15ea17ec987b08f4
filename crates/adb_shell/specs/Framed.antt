-- What the bytes begin with stays so, whatever follows: packets are a format.
use Rattle.std.specs.Prelude.{ℕ, ◌+◌, ◌≡◌, ◌≤◌, ◌<◌, nat_lt, cond, List, [], ◌++◌, length, take, drop, refl}
use Rattle.std.proofs.Common.{◌∙◌, ap, sym, arith}
use Rattle.std.proofs.lemmas.List.{length-append, length-drop, length-take, drop-append-le, get_or_append_left, take-append-drop}
use Rattle.std.proofs.lemmas.Bool.Decides.{nat_tests}
use Rattle.byteorder.specs.Endian.{little_number}
use Rattle.byteorder.specs.Numbers.{little_from-append}
use Rattle.adb_outside.specs.declared.framer.Front.{Front}
use Rattle.adb_outside.specs.declared.framer.Front.TheVariants.{More, Bad, Whole}
use Rattle.adb_outside.specs.Framing.{IsFraming}
use Rattle.adb_shell.specs.declared.packet.ShellFault.{ShellFault}
use Rattle.adb_shell.specs.declared.format.ShellFormat.{ShellFormat}
use Rattle.adb_shell.specs.declared.format.TheConstants.{HEADER_BYTES}
use Rattle.adb_shell.specs.Packets.{front, front_with, packet_of, past, id_of, length_of}

-- a header and so many bytes, and more of them
with_bad : (offset id len there more : ℕ) (fault : ShellFault) → there ≤ more → front_with offset id len there ≡ Bad fault
    → front_with offset id len more ≡ Bad fault
with_bad offset id len there more fault h e = grind (arith, nat_tests)

with_whole : (offset id len there more n : ℕ) → there ≤ more → front_with offset id len there ≡ Whole n
    → front_with offset id len more ≡ Whole n
with_whole offset id len there more n h e = grind (arith, nat_tests)

-- a packet is its header and the bytes that the header says
pub with_fits : (offset id len there n : ℕ) → front_with offset id len there ≡ Whole n → (n ≡ HEADER_BYTES + len) × (n ≤ there)
with_fits offset id len there n e = grind (arith, nat_tests)

with_alone : (offset id len there n : ℕ) → front_with offset id len there ≡ Whole n → front_with offset id len n ≡ Whole n
with_alone offset id len there n e = grind (arith, nat_tests)

-- where something is told, the header is there
bad_there : (len : ℕ) (told : Front ShellFault) (fault : ShellFault) → cond (nat_lt len HEADER_BYTES) More told ≡ Bad fault
    → (HEADER_BYTES ≤ len) × (told ≡ Bad fault)
bad_there len told fault e = grind (arith, nat_tests)

pub whole_there : (len : ℕ) (told : Front ShellFault) (n : ℕ) → cond (nat_lt len HEADER_BYTES) More told ≡ Whole n
    → (HEADER_BYTES ≤ len) × (told ≡ Whole n)
whole_there len told n e = grind (arith, nat_tests)

pub there : (len : ℕ) (told : Front ShellFault) → HEADER_BYTES ≤ len → cond (nat_lt len HEADER_BYTES) More told ≡ told
there len told h = grind (arith, nat_tests)

-- a header is the same whatever follows it
front_there : (s : ShellFormat) (x y : List ℕ) → HEADER_BYTES ≤ length x
    → front s (x ++ y) ≡ front_with s.offset (id_of x) (length_of x) (length x + length y)
front_there s x y h =
    let len : length (x ++ y) ≡ length x + length y = length-append x y in
    let id : id_of (x ++ y) ≡ id_of x = get_or_append_left x y 0 0 (omega (arith, h)) in
    let tail : length_of (x ++ y) ≡ length_of x =
    ap (little_number 4) (drop-append-le 1 x y (omega (arith, h)))
    ∙ little_from-append 4 (drop 1 x) y (omega (arith, h, length-drop 1 x)) in
    there (length (x ++ y)) (front_with s.offset (id_of (x ++ y)) (length_of (x ++ y)) (length (x ++ y))) (omega (arith, h, len))
    ∙ (ap (λ k. front_with s.offset k (length_of (x ++ y)) (length (x ++ y))) id
    ∙ (ap (λ k. front_with s.offset (id_of x) k (length (x ++ y))) tail
    ∙ ap (front_with s.offset (id_of x) (length_of x)) len))

empty_more : (s : ShellFormat) → front s [] ≡ More
empty_more s = refl

bad_stays : (s : ShellFormat) (x y : List ℕ) (fault : ShellFault) → front s x ≡ Bad fault → front s (x ++ y) ≡ Bad fault
bad_stays s x y fault e =
    let h = bad_there (length x) (front_with s.offset (id_of x) (length_of x) (length x)) fault e in
    front_there s x y h.0 ∙ with_bad s.offset (id_of x) (length_of x) (length x) (length x + length y) fault (omega arith) h.1

whole_stays : (s : ShellFormat) (x y : List ℕ) (n : ℕ) → front s x ≡ Whole n → front s (x ++ y) ≡ Whole n
whole_stays s x y n e =
    let h = whole_there (length x) (front_with s.offset (id_of x) (length_of x) (length x)) n e in
    front_there s x y h.0 ∙ with_whole s.offset (id_of x) (length_of x) (length x) (length x + length y) n (omega arith) h.1

whole_fits : (s : ShellFormat) (x : List ℕ) (n : ℕ) → front s x ≡ Whole n → (0 < n) × (n ≤ length x)
whole_fits s x n e =
    let h = whole_there (length x) (front_with s.offset (id_of x) (length_of x) (length x)) n e in
    let f = with_fits s.offset (id_of x) (length_of x) (length x) n h.1 in
    (omega (arith, f), f.1)

whole_alone : (s : ShellFormat) (x : List ℕ) (n : ℕ) → front s x ≡ Whole n → front s (take n x) ≡ Whole n
whole_alone s x n e =
    let fits = whole_fits s x n e in
    let h = whole_there (length x) (front_with s.offset (id_of x) (length_of x) (length x)) n e in
    let f = with_fits s.offset (id_of x) (length_of x) (length x) n h.1 in
    let p = take n x in
    let len : length p ≡ n = omega (arith, length-take n x, fits) in
    let header : HEADER_BYTES ≤ length p = omega (arith, len, f) in
    let split : front s (p ++ drop n x) ≡ Whole n = ap (front s) (take-append-drop n x) ∙ e in
    let w : front_with s.offset (id_of p) (length_of p) (length p + length (drop n x)) ≡ Whole n =
    sym (front_there s p (drop n x) header) ∙ split in
    there (length p) (front_with s.offset (id_of p) (length_of p) (length p)) header
    ∙ (ap (front_with s.offset (id_of p) (length_of p)) len ∙ with_alone s.offset (id_of p) (length_of p)
    (length p + length (drop n x)) n w)

pub packets_are_framed : IsFraming front packet_of past
packets_are_framed =
    record { empty = empty_more; bad = bad_stays; whole = whole_stays; fits = whole_fits; alone = whole_alone }
