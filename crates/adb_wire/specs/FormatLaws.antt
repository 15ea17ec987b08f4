-- Packets are framed: a front that is a whole packet or a fault stays so, whatever follows.
use Rattle.std.proofs.Common.{ℕ, ◌+◌, ◌*◌, ◌≡◌, ◌≢◌, ◌≤◌, ◌<◌, Bool, cond, List, ◌++◌, length, take, drop, Option, Some, None, Result, Ok}
use Rattle.std.proofs.Common.{Err, refl, sym, ◌∙◌, ap, arith, inl, inr}
use Rattle.std.proofs.lemmas.Bool.{cases_lt, lt-ltb, le-ltb}
use Rattle.std.proofs.lemmas.List.{length-append, length-drop, length-take, take-append-le, drop-append-le, take-append-drop}
use Rattle.byteorder.specs.Numbers.{little_from-append}
use Rattle.adb_outside.specs.declared.framer.Front.{Front}
use Rattle.adb_outside.specs.declared.framer.Front.TheVariants.{More, Bad, Whole}
use Rattle.adb_outside.specs.Framing.{IsFraming}
use Rattle.adb_wire.specs.declared.headers.Head.{Head}
use Rattle.adb_wire.specs.declared.headers.HeadFault.{HeadFault}
use Rattle.adb_wire.specs.declared.headers.TheConstants.{HEADER_LEN}
use Rattle.adb_wire.specs.declared.format.PacketFault.{PacketFault}
use Rattle.adb_wire.specs.declared.format.PacketFault.TheVariants.{Broken}
use Rattle.adb_wire.specs.declared.format.PacketFormat.{PacketFormat}
use Rattle.adb_wire.specs.Header.{word_at, head_at}
use Rattle.adb_wire.specs.Format.{payload_at, sum_fault, whole_front, packet_len, front_under, headed_front, front_of, packet_of}
use Rattle.adb_wire.specs.Format.{format_after}

-- the words of a header do not depend on what follows
pub word_same : (place : ℕ) (x y : List ℕ) → 4 * place + 4 ≤ length x → word_at place (x ++ y) ≡ word_at place x
unfolding word_at
word_same place x y h =
    rw (drop-append-le (4 * place) x y (omega arith))
    (little_from-append 4 (drop (4 * place) x) y (omega (arith, length-drop (4 * place) x)))

pub head_same : (x y : List ℕ) → HEADER_LEN ≤ length x → head_at (x ++ y) ≡ head_at x
head_same x y h =
    rw (
      word_same 0 x y (omega arith),
      word_same 1 x y (omega arith),
      word_same 2 x y (omega arith),
      word_same 3 x y (omega arith),
      word_same 4 x y (omega arith),
      word_same 5 x y (omega arith),
    ) refl

pub payload_same : (head : Head) (x y : List ℕ) → packet_len head ≤ length x → payload_at head (x ++ y) ≡ payload_at head x
payload_same head x y h =
    ap (take head.length) (drop-append-le HEADER_LEN x y (omega arith))
    ∙ take-append-le head.length (drop HEADER_LEN x) y (omega (arith, length-drop HEADER_LEN x))

-- ---- what a front is, case by case
pub front_short : (format : PacketFormat) (bytes : List ℕ) → length bytes < HEADER_LEN → front_of format bytes ≡ More
front_short format bytes h = rw (lt-ltb (length bytes) HEADER_LEN h) refl

pub front_headed : (format : PacketFormat) (bytes : List ℕ) (read : Result Head HeadFault) → HEADER_LEN ≤ length bytes
    → head_at bytes ≡ read
    → front_of format bytes ≡ headed_front format bytes read
front_headed format bytes read h e =
    ap (λ (b : Bool). cond b More (headed_front format bytes (head_at bytes))) (le-ltb (length bytes) HEADER_LEN h)
    ∙ ap (headed_front format bytes) e

pub front_partial : (format : PacketFormat) (bytes : List ℕ) (head : Head) → HEADER_LEN ≤ length bytes → head_at bytes ≡ Ok head
    → length bytes < packet_len head → front_of format bytes ≡ More
front_partial format bytes head h e short =
    front_headed format bytes (Ok head) h e
    ∙ ap (λ (b : Bool). cond b More (front_under format bytes head)) (lt-ltb (length bytes) (packet_len head) short)

pub front_full : (format : PacketFormat) (bytes : List ℕ) (head : Head) → head_at bytes ≡ Ok head → packet_len head ≤ length bytes
    → front_of format bytes ≡ front_under format bytes head
front_full format bytes head e long =
    front_headed format bytes (Ok head) (omega arith) e
    ∙ ap (λ (b : Bool). cond b More (front_under format bytes head)) (le-ltb (length bytes) (packet_len head) long)

-- the cases of a front
pub data Shows (format : PacketFormat) (bytes : List ℕ) (front : Front PacketFault) : Type 0 where
  short : length bytes < HEADER_LEN → front ≡ More → Shows format bytes front
  broken : (fault : HeadFault) → HEADER_LEN ≤ length bytes → head_at bytes ≡ Err fault → front ≡ Bad (Broken fault)
      → Shows format bytes front
  partial : (head : Head) → HEADER_LEN ≤ length bytes → head_at bytes ≡ Ok head → length bytes < packet_len head
      → front ≡ More → Shows format bytes front
  full : (head : Head) → head_at bytes ≡ Ok head → packet_len head ≤ length bytes
      → front ≡ front_under format bytes head → Shows format bytes front

pub shows : (format : PacketFormat) (bytes : List ℕ) → Shows format bytes (front_of format bytes)
shows format bytes = elim (cases_lt (length bytes) HEADER_LEN) [
  | inl lt ↦ short lt (front_short format bytes lt)
  | inr le ↦ by_head (head_at bytes) refl le
]
  where
    by_size : (head : Head) → HEADER_LEN ≤ length bytes → head_at bytes ≡ Ok head → Shows format bytes (front_of format bytes)
    by_size head h e = elim (cases_lt (length bytes) (packet_len head)) [
      | inl lt ↦ partial head h e lt (front_partial format bytes head h e lt)
      | inr le ↦ full head e le (front_full format bytes head e le)
    ]

    by_head : (read : Result Head HeadFault) → head_at bytes ≡ read → HEADER_LEN ≤ length bytes → Shows format bytes (front_of format bytes)
    by_head (Err fault) e h = broken fault h e (front_headed format bytes (Err fault) h e)
    by_head (Ok head) e h = by_size head h e

-- ---- the laws
pub full_same : (format : PacketFormat) (x y : List ℕ) (head : Head) → head_at x ≡ Ok head → packet_len head ≤ length x
    → front_of format (x ++ y) ≡ front_of format x
full_same format x y head e long =
    front_full format (x ++ y) head (head_same x y (omega arith) ∙ e) (omega (arith, length-append x y))
    ∙ (ap (λ p. whole_front (packet_len head) (sum_fault format head p)) (payload_same head x y long)
    ∙ sym (front_full format x head e long))

-- what is settled stays
pub settled : (format : PacketFormat) (x y : List ℕ) → front_of format x ≢ More → front_of format (x ++ y) ≡ front_of format x
settled format x y apart = elim (shows format x) [
  | short lt e ↦ absurd (apart e)
  | broken fault h e is ↦ front_headed format (x ++ y) (Err fault) (omega (arith, length-append x y)) (head_same x y h ∙ e) ∙ sym is
  | partial head h e lt is ↦ absurd (apart is)
  | full head e long is ↦ full_same format x y head e long
]

-- a whole packet
pub record IsWhole (format : PacketFormat) (bytes : List ℕ) (n : ℕ) : Type 0 where
  pub head : Head
  pub read : head_at bytes ≡ Ok head
  pub size : n ≡ packet_len head
  pub fits : packet_len head ≤ length bytes
  pub sums : sum_fault format head (payload_at head bytes) ≡ None

pub is_whole : (format : PacketFormat) (bytes : List ℕ) (n : ℕ) → front_of format bytes ≡ Whole n → IsWhole format bytes n
is_whole format bytes n whole = elim (shows format bytes) [
  | short lt e ↦ absurd (let clash : More ≡ Whole n = sym e ∙ whole in cc)
  | broken fault h e is ↦ absurd (let clash : Bad (Broken fault) ≡ Whole n = sym is ∙ whole in cc)
  | partial head h e lt is ↦ absurd (let clash : More ≡ Whole n = sym is ∙ whole in cc)
  | full head e long is ↦ by_fault head e long (sum_fault format head (payload_at head bytes)) refl (sym is ∙ whole)
]
  where
    by_fault : (head : Head) → head_at bytes ≡ Ok head → packet_len head ≤ length bytes → (fault : Option PacketFault)
        → sum_fault format head (payload_at head bytes) ≡ fault → whole_front (packet_len head) fault ≡ Whole n → IsWhole format bytes n
    by_fault head e long None f is = record { head = head; read = e; size = cc; fits = long; sums = f }
    by_fault head e long (Some fault) f is = absurd cc

alone : (format : PacketFormat) (x : List ℕ) (n : ℕ) → front_of format x ≡ Whole n → front_of format (take n x) ≡ Whole n
alone format x n whole =
    let w = is_whole format x n whole in
    let len : length (take n x) ≡ n = omega (arith, length-take n x, w.size, w.fits) in
    let parts : take n x ++ drop n x ≡ x = take-append-drop n x in
    let read : head_at (take n x) ≡ Ok w.head = sym (head_same (take n x) (drop n x) (omega (arith, len, w.size)))
    ∙ (ap head_at parts ∙ w.read) in
    sym (full_same format (take n x) (drop n x) w.head read (omega (arith, len, w.size))) ∙ (ap (front_of format) parts ∙ whole)

fits : (format : PacketFormat) (x : List ℕ) (n : ℕ) → front_of format x ≡ Whole n → (0 < n) × (n ≤ length x)
fits format x n whole = let w = is_whole format x n whole in (omega (arith, w.size), omega (arith, w.size, w.fits))

apart_bad : {F : Type 0} (front : Front F) (fault : F) → front ≡ Bad fault → front ≢ More
apart_bad front fault e m = let clash : Bad fault ≡ More = sym e ∙ m in cc

apart_whole : {F : Type 0} (front : Front F) (n : ℕ) → front ≡ Whole n → front ≢ More
apart_whole front n e m = let clash : Whole n ≡ More = sym e ∙ m in cc

pub packets_are_framed : IsFraming front_of (λ _ frame. packet_of frame) (λ format frame. format_after format (packet_of frame))
packets_are_framed = record {
  empty = λ format. refl;
  bad = λ format x y fault e. settled format x y (apart_bad (front_of format x) fault e) ∙ e;
  whole = λ format x y n e. settled format x y (apart_whole (front_of format x) n e) ∙ e;
  fits = fits;
  alone = alone;
}
