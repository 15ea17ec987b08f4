-- A header that was written is read, and one that is read is written so.
use Rattle.std.proofs.Common.{ℕ, zero, suc, ◌+◌, ◌*◌, ◌^◌, ◌≡◌, ◌≤◌, ◌<◌, Bool, true, false, cond, eqb, not, nat_lt, List, [], ◌∷◌, ◌++◌}
use Rattle.std.proofs.Common.{length, drop, get_or}
use Rattle.std.proofs.Common.{Option, Some, None, Result, Ok, Err, refl, sym, ◌∙◌, ap, subst, arith, find}
use Rattle.std.specs.List.{flat_map}
use Rattle.std.specs.Result.{IfOk}
use Rattle.std.proofs.lemmas.Bool.{ltb-false, le-ltb, eq-eqb, eqb-true}
use Rattle.std.proofs.lemmas.List.{length-drop, drop_at, drop-drop, drop_all, append-nil}
use Rattle.std.proofs.lemmas.List.Elements.{All-drop}
use Rattle.std.proofs.lemmas.Nat.{le_bytes_4}
use Rattle.byteorder.specs.Endian.{little_bytes, little_number}
use Rattle.byteorder.specs.Numbers.{little_number-reads_back}
use Rattle.adb_wire.specs.declared.command.Command.{Command}
use Rattle.adb_wire.specs.declared.command.Command.TheVariants.{Cnxn, Open, Okay, Wrte, Clse, Auth, Stls}
use Rattle.adb_wire.specs.declared.headers.Head.{Head}
use Rattle.adb_wire.specs.declared.headers.HeadFault.{HeadFault}
use Rattle.adb_wire.specs.declared.headers.TheConstants.{HEADER_LEN, MAX_PAYLOAD}
use Rattle.adb_wire.specs.declared.headers.HeadFault.TheVariants.{BadMagic, TooLong}
use Rattle.adb_wire.specs.Command.{word_of, command_of, commands}
use Rattle.adb_wire.specs.Header.{IsBytes, IsHead, word_at, header_bytes, head_at, head_of, magic_of}

-- ---- the table of commands
-- A command's word stands for it, and is a word; so is its magic.
record IsCoded (c : Command) : Type 0 where
  pub again : command_of (word_of c) ≡ Some c
  pub word : word_of c < 2 ^ 32
  pub magic : magic_of (word_of c) < 2 ^ 32

coded : (c : Command) → IsCoded c
coded Cnxn = record { again = refl; word = omega arith; magic = omega arith }
coded Open = record { again = refl; word = omega arith; magic = omega arith }
coded Okay = record { again = refl; word = omega arith; magic = omega arith }
coded Wrte = record { again = refl; word = omega arith; magic = omega arith }
coded Clse = record { again = refl; word = omega arith; magic = omega arith }
coded Auth = record { again = refl; word = omega arith; magic = omega arith }
coded Stls = record { again = refl; word = omega arith; magic = omega arith }

found_word : (word : ℕ) (cs : List Command) (c : Command) → find (λ d. eqb word (word_of d)) cs ≡ Some c → word ≡ word_of c
found_word word [] c e = absurd cc
found_word word (d ∷ cs) c e = go (eqb word (word_of d)) refl e (found_word word cs c)
  where
    found : Option Command
    found = find (λ d. eqb word (word_of d)) cs

    go : (b : Bool) → eqb word (word_of d) ≡ b → cond b (Some d) found ≡ Some c → (found ≡ Some c → word ≡ word_of c) → word ≡ word_of c
    go true is e others = let same : d ≡ c = cc in eqb-true word (word_of d) is ∙ ap word_of same
    go false is e others = others e

pub command_word : (word : ℕ) (c : Command) → command_of word ≡ Some c → word ≡ word_of c
command_word word c e = found_word word commands c e

-- ---- one word
-- a word that was written is read
pub word_again : (front : List ℕ) (word place : ℕ) (rest : List ℕ) → length front ≡ 4 * place → word < 2 ^ 32
    → word_at place (front ++ (little_bytes 4 word ++ rest)) ≡ word
unfolding word_at
word_again front word place rest len lt =
    rw (drop_at front (little_bytes 4 word ++ rest) (4 * place) len) (little_number-reads_back 4 word rest lt)

-- the first word, and what is behind it
word_off : (bytes : List ℕ) → 4 ≤ length bytes → IsBytes bytes → bytes ≡ little_bytes 4 (little_number 4 bytes) ++ drop 4 bytes
word_off [] h fits = absurd (omega (arith, h))
word_off (a ∷ []) h fits = absurd (omega (arith, h))
word_off (a ∷ b ∷ []) h fits = absurd (omega (arith, h))
word_off (a ∷ b ∷ c ∷ []) h fits = absurd (omega (arith, h))
word_off (a ∷ b ∷ c ∷ d ∷ rest) h fits =
    let a_fits : a < 256 = fits 0 0 (omega arith) in
    let b_fits : b < 256 = fits 1 0 (omega arith) in
    let c_fits : c < 256 = fits 2 0 (omega arith) in
    let d_fits : d < 256 = fits 3 0 (omega arith) in
    let bytes : List ℕ = a ∷ b ∷ c ∷ d ∷ [] in
    ap (λ front. front ++ rest)
    (sym (le_bytes_4 bytes (little_number 4 bytes) refl (small a b c d a_fits b_fits c_fits d_fits)
    (omega arith)))
  where
    small : (a b c d : ℕ) → a < 256 → b < 256 → c < 256 → d < 256 → (i : ℕ) → get_or (a ∷ b ∷ c ∷ d ∷ []) i 0 < 256
    small a b c d p q r s zero = p
    small a b c d p q r s (suc zero) = q
    small a b c d p q r s (suc (suc zero)) = r
    small a b c d p q r s (suc (suc (suc zero))) = s
    small a b c d p q r s (suc (suc (suc (suc i)))) = omega arith

pub word_fits : (place : ℕ) (bytes : List ℕ) → 4 * place + 4 ≤ length bytes → IsBytes bytes → word_at place bytes < 2 ^ 32
unfolding word_at
word_fits place bytes h fits =
    let small = All-drop (λ b. b < 256) (4 * place) bytes fits in
    let len = length-drop (4 * place) bytes in
    omega (arith, small 0 0 (omega arith), small 1 0 (omega arith), small 2 0 (omega arith), small 3 0 (omega arith))

-- a word that is read at a place stands there, and what is behind it
pub word_stands : (place word : ℕ) (bytes : List ℕ) → 4 * place + 4 ≤ length bytes → IsBytes bytes → word_at place bytes ≡ word
    → drop (4 * place) bytes ≡ little_bytes 4 word ++ drop (4 * place + 4) bytes
unfolding word_at
word_stands place word bytes h fits e =
    let from = drop (4 * place) bytes in
    word_off from (omega (arith, length-drop (4 * place) bytes)) (All-drop (λ b. b < 256) (4 * place) bytes fits)
    ∙ (ap (λ rest. little_bytes 4 (little_number 4 from) ++ rest) (drop-drop 4 (4 * place) bytes)
    ∙ ap (λ w. little_bytes 4 w ++ drop (4 * place + 4) bytes) e)

-- ---- the header
-- what is read of a header
pub record Reads (bytes : List ℕ) (head : Head) : Type 0 where
  pub command : word_at 0 bytes ≡ word_of head.command
  pub arg0 : word_at 1 bytes ≡ head.arg0
  pub arg1 : word_at 2 bytes ≡ head.arg1
  pub size : word_at 3 bytes ≡ head.length
  pub check : word_at 4 bytes ≡ head.check
  pub magic : word_at 5 bytes ≡ magic_of (word_of head.command)
  pub short : head.length ≤ MAX_PAYLOAD

reads_head : (bytes : List ℕ) (head : Head) → Reads bytes head → head_at bytes ≡ Ok head
reads_head bytes head r =
    let right : eqb (word_at 5 bytes) (magic_of (word_at 0 bytes)) ≡ true =
    eq-eqb (word_at 5 bytes) (magic_of (word_at 0 bytes)) (r.magic ∙ ap magic_of (sym r.command)) in
    let known : command_of (word_at 0 bytes) ≡ Some head.command = ap command_of r.command ∙ (coded head.command).again in
    let short : nat_lt MAX_PAYLOAD (word_at 3 bytes) ≡ false = le-ltb MAX_PAYLOAD (word_at 3 bytes) (omega (arith, r.size, r.short)) in
    rw (right, known, short, r.arg0, r.arg1, r.size, r.check) refl

-- a header that was written is read, whatever follows
pub head_again : (head : Head) (more : List ℕ) → IsHead head → head_at (header_bytes head ++ more) ≡ Ok head
head_again head more fits = reads_head (header_bytes head ++ more) head (record {
  command = word_again [] word 0 (spelled (head.arg0 ∷ head.arg1 ∷ head.length ∷ head.check ∷ magic ∷ []) ++ more) refl is.word;
  arg0 = word_again (spelled (word ∷ [])) head.arg0 1 (spelled (head.arg1 ∷ head.length ∷ head.check ∷ magic ∷ []) ++ more) refl fits.arg0;
  arg1 = word_again (spelled (word ∷ head.arg0 ∷ [])) head.arg1 2 (spelled (head.length ∷ head.check ∷ magic ∷ []) ++ more) refl fits.arg1;
  size = word_again (spelled (word ∷ head.arg0 ∷ head.arg1 ∷ [])) head.length 3
      (spelled (head.check ∷ magic ∷ []) ++ more) refl (omega (arith, fits.size));
  check = word_again (spelled (word ∷ head.arg0 ∷ head.arg1 ∷ head.length ∷ [])) head.check 4
      (spelled (magic ∷ []) ++ more) refl fits.check;
  magic = word_again (spelled (word ∷ head.arg0 ∷ head.arg1 ∷ head.length ∷ head.check ∷ [])) magic 5 more refl is.magic;
  short = fits.size;
})
  where
    word : ℕ
    word = word_of head.command

    magic : ℕ
    magic = magic_of word

    is : IsCoded head.command
    is = coded head.command

    spelled : List ℕ → List ℕ
    spelled words = flat_map (little_bytes 4) words

pub head_reads : (bytes : List ℕ) (head : Head) → head_at bytes ≡ Ok head → Reads bytes head
head_reads bytes head e = by_magic (eqb (word_at 5 bytes) (magic_of (word_at 0 bytes))) refl e
  where
    read : Command → Head
    read c = record { command = c; arg0 = word_at 1 bytes; arg1 = word_at 2 bytes; length = word_at 3 bytes; check = word_at 4 bytes }

    by_size : (c : Command) → word_at 5 bytes ≡ magic_of (word_at 0 bytes) → command_of (word_at 0 bytes) ≡ Some c
        → (b : Bool) → nat_lt MAX_PAYLOAD (word_at 3 bytes) ≡ b
        → cond b (Err (TooLong (word_at 3 bytes))) (Ok (read c)) ≡ Ok head → Reads bytes head
    by_size c magic known true is e = absurd cc
    by_size c magic known false is e =
        let same : read c ≡ head = cc in
        let word : word_at 0 bytes ≡ word_of head.command = command_word (word_at 0 bytes) c known
        ∙ ap (λ (h : Head). word_of h.command) same in
        record {
          command = word;
          arg0 = ap (λ (h : Head). h.arg0) same;
          arg1 = ap (λ (h : Head). h.arg1) same;
          size = ap (λ (h : Head). h.length) same;
          check = ap (λ (h : Head). h.check) same;
          magic = magic ∙ ap magic_of word;
          short = subst (λ (h : Head). h.length ≤ MAX_PAYLOAD) same (ltb-false MAX_PAYLOAD (word_at 3 bytes) is);
        }

    headed : Option Command → Result Head HeadFault
    headed o = head_of o (word_at 0 bytes) (word_at 1 bytes) (word_at 2 bytes) (word_at 3 bytes) (word_at 4 bytes)

    by_command : word_at 5 bytes ≡ magic_of (word_at 0 bytes) → (o : Option Command)
        → command_of (word_at 0 bytes) ≡ o → headed o ≡ Ok head → Reads bytes head
    by_command magic None known e = absurd cc
    by_command magic (Some c) known e = by_size c magic known (nat_lt MAX_PAYLOAD (word_at 3 bytes)) refl e

    by_magic : (b : Bool) → eqb (word_at 5 bytes) (magic_of (word_at 0 bytes)) ≡ b
        → cond (not b) (Err (BadMagic (word_at 0 bytes) (word_at 5 bytes))) (headed (command_of (word_at 0 bytes)))
        ≡ Ok head → Reads bytes head
    by_magic false is e = absurd cc
    by_magic true is e = by_command (eqb-true (word_at 5 bytes) (magic_of (word_at 0 bytes)) is) (command_of (word_at 0 bytes)) refl e

-- a header that is read is written so
pub head_spelled : (bytes : List ℕ) (head : Head) → HEADER_LEN ≤ length bytes → IsBytes bytes → head_at bytes ≡ Ok head
    → IsHead head × (bytes ≡ header_bytes head ++ drop HEADER_LEN bytes)
head_spelled bytes head h fits e =
    let r = head_reads bytes head e in
    let s0 : bytes ≡ word (word_of head.command) ++ drop 4 bytes = word_stands 0 _ bytes (omega arith) fits r.command in
    let s1 : drop 4 bytes ≡ word head.arg0 ++ drop 8 bytes = word_stands 1 _ bytes (omega arith) fits r.arg0 in
    let s2 : drop 8 bytes ≡ word head.arg1 ++ drop 12 bytes = word_stands 2 _ bytes (omega arith) fits r.arg1 in
    let s3 : drop 12 bytes ≡ word head.length ++ drop 16 bytes = word_stands 3 _ bytes (omega arith) fits r.size in
    let s4 : drop 16 bytes ≡ word head.check ++ drop 20 bytes = word_stands 4 _ bytes (omega arith) fits r.check in
    let s5 : drop 20 bytes ≡ word (magic_of (word_of head.command)) ++ drop HEADER_LEN bytes =
    word_stands 5 _ bytes (omega arith) fits r.magic in (
      record {
        arg0 = omega (arith, r.arg0, word_fits 1 bytes (omega arith) fits);
        arg1 = omega (arith, r.arg1, word_fits 2 bytes (omega arith) fits);
        size = r.short;
        check = omega (arith, r.check, word_fits 4 bytes (omega arith) fits);
      },
      s0 ∙ behind (word_of head.command)
          (s1 ∙ behind head.arg0 (s2 ∙ behind head.arg1 (s3 ∙ behind head.length (s4 ∙ behind head.check s5)))),
    )
  where
    word : ℕ → List ℕ
    word n = little_bytes 4 n

    behind : (n : ℕ) {x y : List ℕ} → x ≡ y → word n ++ x ≡ word n ++ y
    behind n same = ap (λ rest. word n ++ rest) same

pub read_spelled : (bytes : List ℕ) (read : Result Head HeadFault) → length bytes ≡ HEADER_LEN → IsBytes bytes → read ≡ head_at bytes
    → IfOk read (λ head. bytes ≡ header_bytes head)
read_spelled bytes (Err fault) len fits e = tt
read_spelled bytes (Ok head) len fits e =
    (head_spelled bytes head (omega arith) fits (sym e)).1
    ∙ (ap (λ rest. header_bytes head ++ rest) (drop_all HEADER_LEN bytes (omega arith)) ∙ append-nil (header_bytes head))
