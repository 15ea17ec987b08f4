-- What the bytes begin with stays so, whatever follows: frames are a format.
use Rattle.std.specs.Prelude.{ℕ, zero, suc, ◌==◌, ◌||◌, not, bytes_eq, ◌+◌, ◌-◌, ◌≡◌, ◌≤◌, ◌<◌, nat_lt, cond, Bool, true, false, List, []}
use Rattle.std.specs.Prelude.{◌∷◌, ◌++◌, length, take, drop, refl, Option, Some, None}
use Rattle.std.specs.Prelude.{codes}
use Rattle.adb_remote_frames.specs.declared.frame.TheConstants.{EXIT, STDERR, STDOUT}
use Rattle.adb_remote_frames.specs.declared.packets.TheConstants.{MAX_OUTPUT_PACKET}
use Rattle.std.proofs.lemmas.Slice.Eq.{bytes_eq-Decides}
use Rattle.std.specs.List.{list_all}
use Rattle.std.proofs.Common.{ap, arith}
use Rattle.std.proofs.lemmas.List.{length-append, length-take, length-drop}
use Rattle.std.proofs.lemmas.Bool.Decides.{nat_tests}
use Rattle.byteorder.specs.Endian.{little_number}
use Rattle.adb_outside.specs.declared.framer.Front.{Front}
use Rattle.adb_outside.specs.declared.framer.Front.TheVariants.{Bad, Whole}
use Rattle.adb_outside.specs.Framing.{IsFraming}
use Rattle.adb_request.specs.Requests.{hex_number}
use Rattle.adb_remote_frames.specs.declared.head.Awaited.{Awaited}
use Rattle.adb_remote_frames.specs.declared.head.Awaited.TheVariants as awaited
use Rattle.adb_remote_frames.specs.declared.head.Head.{Head}
use Rattle.adb_remote_frames.specs.declared.head.Head.TheVariants.{Short, Stray, Says}
use Rattle.adb_remote_frames.specs.Heads.{is_front, is_lower_hex, says_behind, counted, status_head, output_head, exit_head, packet_head}
use Rattle.adb_remote_frames.specs.Heads.{head, whole_of, by_head, found_behind}
use Rattle.adb_remote_frames.specs.Frames.{frame_at, frame_of, past_frame}

says_same : (a b : ℕ) → Says a ≡ Says b → a ≡ b
says_same a b e = cc

not_false : (b : Bool) → not b ≡ false → b ≡ true
not_false true e = refl
not_false false e = cc

-- the first bytes of a word are no more than it has
fronts_fit : (front word : List ℕ) → is_front front word ≡ true → length front ≤ length word
fronts_fit front word is =
    let same : front ≡ take (length front) word = (bytes_eq-Decides front (take (length front) word)).0 is in
    omega (arith, ap (length {A = ℕ}) same, length-take (length front) word)

-- ---- a head says no fewer bytes than it has, and some
pub record IsSaid (front : List ℕ) (n : ℕ) : Type 0 where
  pub some : 0 < n
  pub within : length front ≤ n

past_short : (b : Bool) (further : Head) (n : ℕ) → cond b Short further ≡ Says n → (b ≡ false) × (further ≡ Says n)
past_short true further n e = cc
past_short false further n e = (refl, e)

past_stray : (b : Bool) (further : Head) (n : ℕ) → cond b Stray further ≡ Says n → (b ≡ false) × (further ≡ Says n)
past_stray true further n e = cc
past_stray false further n e = (refl, e)

digits_said : (before : ℕ) (digits : List ℕ) (n : ℕ) → says_behind before (hex_number digits) ≡ Says n → (length digits ≡ 4) × (before ≤ n)
digits_said before [] n e = cc
digits_said before (a ∷ []) n e = cc
digits_said before (a ∷ b ∷ []) n e = cc
digits_said before (a ∷ b ∷ c ∷ []) n e = cc
digits_said before (a ∷ b ∷ c ∷ d ∷ []) n e = (refl, go (hex_number (a ∷ b ∷ c ∷ d ∷ [])) e)
  where
    go : (number : Option ℕ) → says_behind before number ≡ Says n → before ≤ n
    go None e = cc
    go (Some len) e = let same : before + len ≡ n = cc in omega (arith, same)
digits_said before (a ∷ b ∷ c ∷ d ∷ e ∷ more) n is = cc

counted_said : (before : ℕ) (digits : List ℕ) (n : ℕ) → counted before digits ≡ Says n → (length digits ≡ 4) × (before ≤ n)
counted_said before digits n e =
    let lower = past_stray (not (list_all is_lower_hex digits)) _ n e in
    let long = past_short (nat_lt (length digits) 4) _ n lower.1 in
    digits_said before digits n long.1

status_said : (front : List ℕ) (n : ℕ) → status_head front ≡ Says n → IsSaid front n
status_said front n e =
    let open_yet = past_short (is_front front (codes "OKAY") || is_front front (codes "FAIL")) _ n e in
    let fail = past_stray (not (is_front (codes "FAIL") front)) _ n open_yet.1 in
    let said = counted_said 8 (drop 4 front) n fail.1 in
    record { some = omega (arith, said.1); within = omega (arith, said, length-drop 4 front) }

list_said : (front : List ℕ) (n : ℕ) → counted 4 front ≡ Says n → IsSaid front n
list_said front n e = let said = counted_said 4 front n e in record { some = omega (arith, said.1); within = omega (arith, said) }

output_said : (digits : List ℕ) (n : ℕ) → output_head digits ≡ Says n → (length digits ≤ 4) × (5 ≤ n)
output_said digits n e =
    let long = past_stray (nat_lt 4 (length digits)) _ n e in
    let most = past_stray (nat_lt MAX_OUTPUT_PACKET (little_number 4 digits)) _ n long.1 in
    let there = past_short (nat_lt (length digits) 4) _ n most.1 in
    let same : 5 + little_number 4 digits ≡ n = says_same (5 + little_number 4 digits) n there.1 in
    (grind (arith, nat_tests, long.0), omega (arith, same))

exit_said : (digits : List ℕ) (n : ℕ) → exit_head digits ≡ Says n → (length digits ≤ 4) × (5 ≤ n)
exit_said digits n e =
    let one = past_stray (not (is_front digits (1 ∷ 0 ∷ 0 ∷ 0 ∷ []))) _ n e in
    let there = past_short (nat_lt (length digits) 4) _ n one.1 in
    let same : 6 ≡ n = says_same 6 n there.1 in
    (fronts_fit digits (1 ∷ 0 ∷ 0 ∷ 0 ∷ []) (not_false _ one.0), omega (arith, same))

packet_said : (front : List ℕ) (n : ℕ) → packet_head front ≡ Says n → IsSaid front n
packet_said [] n e = cc
packet_said (id ∷ digits) n e = of_output (id == STDOUT || id == STDERR) e
  where
    said : (length digits ≤ 4) × (5 ≤ n) → IsSaid (id ∷ digits) n
    said h = record { some = omega (arith, h); within = omega (arith, h) }

    of_exit : (b : Bool) → cond b (exit_head digits) Stray ≡ Says n → IsSaid (id ∷ digits) n
    of_exit true e = said (exit_said digits n e)
    of_exit false e = cc

    of_output : (b : Bool) → cond b (output_head digits) (cond (id == EXIT) (exit_head digits) Stray) ≡ Says n → IsSaid (id ∷ digits) n
    of_output true e = said (output_said digits n e)
    of_output false e = of_exit (id == EXIT) e

head_said : (kind : Awaited) (front : List ℕ) (n : ℕ) → head kind front ≡ Says n → IsSaid front n
head_said awaited.Status front n e = status_said front n e
head_said awaited.List front n e = list_said front n e
head_said awaited.Packet front n e = packet_said front n e

-- ---- what is found
whole_fits : (have len n : ℕ) → whole_of have len ≡ Whole n → (len ≡ n) × (n ≤ have)
whole_fits have len n e = grind (arith, nat_tests)

whole_on : (have more len n : ℕ) → have ≤ more → whole_of have len ≡ Whole n → whole_of more len ≡ Whole n
whole_on have more len n h e = grind (arith, nat_tests)

whole_alone : (have len n : ℕ) → n ≤ have → len ≡ n → whole_of have len ≡ Whole n
whole_alone have len n h e = grind (arith, nat_tests)

never_bad : (have len fault : ℕ) → whole_of have len ≡ Bad fault → ⊥
never_bad have len fault e = grind (arith, nat_tests)

one_more : (before : List ℕ) (byte : ℕ) → length (before ++ byte ∷ []) ≡ length before + 1
one_more before byte = omega (arith, length-append before (byte ∷ []))

module _ (kind : Awaited) (offset : ℕ) where
  abbrev behind : List ℕ → List ℕ → Front ℕ
  behind before bytes = found_behind kind offset before bytes

  bad_stays : (before x y : List ℕ) (fault : ℕ) → behind before x ≡ Bad fault → behind before (x ++ y) ≡ Bad fault
  bad_stays before [] y fault e = cc
  bad_stays before (byte ∷ x) y fault e = go (head kind (before ++ byte ∷ [])) e (bad_stays (before ++ byte ∷ []) x y fault)
    where
      go : (h : Head) → by_head offset (length before) (length before + suc (length x)) h (behind (before ++ byte ∷ []) x) ≡ Bad fault
          → (behind (before ++ byte ∷ []) x ≡ Bad fault → behind (before ++ byte ∷ []) (x ++ y) ≡ Bad fault)
          → by_head offset (length before) (length before + suc (length (x ++ y))) h (behind (before ++ byte ∷ []) (x ++ y)) ≡ Bad fault
      go Short e others = others e
      go Stray e others = e
      go (Says len) e others = absurd (never_bad (length before + suc (length x)) len fault e)

  found_fits : (before x : List ℕ) (n : ℕ) → behind before x ≡ Whole n → (length before < n) × (n ≤ length before + length x)
  found_fits before [] n e = cc
  found_fits before (byte ∷ x) n e = go (head kind (before ++ byte ∷ [])) refl e (found_fits (before ++ byte ∷ []) x n)
    where
      go : (h : Head) → head kind (before ++ byte ∷ []) ≡ h
          → by_head offset (length before) (length before + suc (length x)) h (behind (before ++ byte ∷ []) x) ≡ Whole n
          → (behind (before ++ byte ∷ []) x ≡ Whole n → (length (before ++ byte ∷ []) < n) × (n ≤ length (before ++ byte ∷ []) + length x))
          → (length before < n) × (n ≤ length before + suc (length x))
      go Short is e others = let h = others e in (omega (arith, h, one_more before byte), omega (arith, h, one_more before byte))
      go Stray is e others = cc
      go (Says len) is e others =
          let fits = whole_fits (length before + suc (length x)) len n e in
          let said = head_said kind (before ++ byte ∷ []) len is in
          (omega (arith, fits, said.within, one_more before byte), fits.1)

  whole_stays : (before x y : List ℕ) (n : ℕ) → behind before x ≡ Whole n → behind before (x ++ y) ≡ Whole n
  whole_stays before [] y n e = cc
  whole_stays before (byte ∷ x) y n e = go (head kind (before ++ byte ∷ [])) e (whole_stays (before ++ byte ∷ []) x y n)
    where
      go : (h : Head) → by_head offset (length before) (length before + suc (length x)) h (behind (before ++ byte ∷ []) x) ≡ Whole n
          → (behind (before ++ byte ∷ []) x ≡ Whole n → behind (before ++ byte ∷ []) (x ++ y) ≡ Whole n)
          → by_head offset (length before) (length before + suc (length (x ++ y))) h (behind (before ++ byte ∷ []) (x ++ y)) ≡ Whole n
      go Short e others = others e
      go Stray e others = cc
      go (Says len) e others =
          whole_on (length before + suc (length x)) (length before + suc (length (x ++ y))) len n (omega (arith, length-append x y)) e

  found_alone : (before x : List ℕ) (m n : ℕ) → length before + m ≡ n → behind before x ≡ Whole n → behind before (take m x) ≡ Whole n
  found_alone before [] m n size e = cc
  found_alone before (byte ∷ x) zero n size e = absurd (let fits = found_fits before (byte ∷ x) n e in omega (arith, fits, size))
  found_alone before (byte ∷ x) (suc m) n size e = go (head kind (before ++ byte ∷ [])) e
      (found_alone (before ++ byte ∷ []) x m n (omega (arith, size, one_more before byte)))
    where
      go : (h : Head) → by_head offset (length before) (length before + suc (length x)) h (behind (before ++ byte ∷ []) x) ≡ Whole n
          → (behind (before ++ byte ∷ []) x ≡ Whole n → behind (before ++ byte ∷ []) (take m x) ≡ Whole n)
          → by_head offset (length before) (length before + suc (length (take m x))) h (behind (before ++ byte ∷ []) (take m x)) ≡ Whole n
      go Short e others = others e
      go Stray e others = cc
      go (Says len) e others =
          let fits = whole_fits (length before + suc (length x)) len n e in
          whole_alone (length before + suc (length (take m x))) len n (omega (arith, fits, size, length-take m x)) fits.0

pub frames_are_framed : IsFraming frame_at frame_of past_frame
frames_are_framed = record {
  empty = λ place. refl;
  bad = λ place x y fault e. bad_stays place.awaited place.offset [] x y fault e;
  whole = λ place x y n e. whole_stays place.awaited place.offset [] x y n e;
  fits = λ place x n e. let h = found_fits place.awaited place.offset [] x n e in (omega (arith, h), omega (arith, h));
  alone = λ place x n e. found_alone place.awaited place.offset [] x n n (omega arith) e;
}
