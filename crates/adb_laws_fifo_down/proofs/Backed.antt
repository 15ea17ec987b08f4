-- What more bytes that were handed out, and more writes that were told, make of what is acknowledged.
use Rattle.std.proofs.Common.{ℕ, ◌+◌, ◌-◌, ◌≡◌, ◌≢◌, ◌≤◌, suc, Bool, true, false, cond, List, [], ◌∷◌, ◌++◌, length, Option, Some, None}
use Rattle.std.proofs.Common.{refl, sym, ◌∙◌, ap}
use Rattle.std.proofs.Common.{subst}
use Rattle.std.proofs.Common.{arith}
use Rattle.std.specs.Prelude.{nat_le}
use Rattle.std.proofs.lemmas.Bool.{leb-true, leb-false}
use Rattle.std.proofs.lemmas.List.{length-append}
use Rattle.std.proofs.lemmas.List.Elements.{All-nil}
use Rattle.byteorder.specs.Endian.{little_bytes, little_number}
use Rattle.adb_wire.specs.declared.packets.Packet.{Packet}
use Rattle.adb_history.specs.Links.{credit_word, credit_packet}
use Rattle.adb_history.specs.Births as birth
use Rattle.adb_history.specs.Births.{opening_in, told_in, joined}
use Rattle.adb_history.specs.Fifo.{whole_within, credit_of}
use Rattle.adb_laws_fifo_down.specs.Window.{IsBackedBy, IsBacked}
use Rattle.adb_laws_fifo_down.proofs.Openings.{opening_stays, told_append}

-- ---- whole writes
-- more bytes have no fewer of them whole
pub whole_more : (n m : ℕ) (told : List (List ℕ)) → n ≤ m → whole_within n told ≤ whole_within m told
whole_more n m [] le = omega arith
whole_more n m (p ∷ told) le =
    by (nat_le (length p) n) (nat_le (length p) m) refl refl
    (λ a b. whole_more (n - length p) (m - length p) told (omega (arith, le, a, b)))
  where
    by : (c d : Bool) → nat_le (length p) n ≡ c → nat_le (length p) m ≡ d
        → (length p ≤ n → length p ≤ m → whole_within (n - length p) told ≤ whole_within (m - length p) told)
        → cond c (1 + whole_within (n - length p) told) 0 ≤ cond d (1 + whole_within (m - length p) told) 0
    by false d e f rest = omega arith
    by true true e f rest = let le = rest (leb-true (length p) n e) (leb-true (length p) m f) in omega (arith, le)
    by true false e f rest = absurd (omega (arith, leb-true (length p) n e, leb-false (length p) m f, le))

-- more writes have no fewer of them whole
pub whole_longer : (n : ℕ) (told more : List (List ℕ)) → whole_within n told ≤ whole_within n (told ++ more)
whole_longer n [] more = omega arith
whole_longer n (p ∷ told) more = by (nat_le (length p) n) (whole_longer (n - length p) told more)
  where
    by : (c : Bool) → whole_within (n - length p) told ≤ whole_within (n - length p) (told ++ more)
        → cond c (1 + whole_within (n - length p) told) 0 ≤ cond c (1 + whole_within (n - length p) (told ++ more)) 0
    by true le = omega (arith, le)
    by false le = omega arith

-- all of them are whole in all their bytes
pub all_whole : (told : List (List ℕ)) → whole_within (length (joined told)) told ≡ length told
all_whole [] = refl
all_whole (p ∷ told) =
    let sum : length (joined (p ∷ told)) ≡ length p + length (joined told) = length-append p (joined told) in
    by (nat_le (length p) (length (joined (p ∷ told)))) refl sum
    (ap (λ (n : ℕ). whole_within n told) (minus (length (joined (p ∷ told))) (length p) (length (joined told)) sum) ∙ all_whole told)
  where
    minus : (a b c : ℕ) → a ≡ b + c → a - b ≡ c
    minus a b c e = omega (arith, e)

    by : (c : Bool) → nat_le (length p) (length (joined (p ∷ told))) ≡ c → length (joined (p ∷ told)) ≡ length p + length (joined told)
        → whole_within (length (joined (p ∷ told)) - length p) told ≡ length told
        → cond c (1 + whole_within (length (joined (p ∷ told)) - length p) told) 0 ≡ suc (length told)
    by true e sum rest = omega (arith, rest)
    by false e sum rest = absurd (omega (arith, leb-false (length p) (length (joined (p ∷ told))) e, sum))

-- ---- what is backed
pub backed_handed : (credit : Bool) (told : List (List ℕ)) (okays : List Packet) (n m : ℕ) → n ≤ m → IsBackedBy credit told okays n
    → IsBackedBy credit told okays m
backed_handed false told okays n m le h = omega (arith, h, whole_more n m told le)
backed_handed true told okays n m le h = record { words = h.words; within = omega (arith, h.within, le) }

pub backed_told : (credit : Bool) (told more : List (List ℕ)) (okays : List Packet) (n : ℕ) → IsBackedBy credit told okays n
    → IsBackedBy credit (told ++ more) okays n
backed_told false told more okays n h = omega (arith, h, whole_longer n told more)
backed_told true told more okays n h = record { words = h.words; within = h.within }

-- nothing is acknowledged yet
pub backed_none : (credit : Bool) (told : List (List ℕ)) (n : ℕ) → IsBackedBy credit told [] n
backed_none false told n = omega arith
backed_none true told n = record { words = All-nil _; within = omega arith }

pub unbacked : (o : Option birth.Opening) (l : ℕ) (credit : Bool) (okays : List Packet) (n : ℕ) → okays ≡ [] → IsBacked o l credit okays n
unbacked None l credit okays n none = none
unbacked (Some o) l credit okays n none =
    subst (λ (ps : List Packet). IsBackedBy credit (told_in o.remote l o.later) ps n) (sym none)
    (backed_none credit (told_in o.remote l o.later) n)

-- with more bytes handed out
pub backed_more : (o : Option birth.Opening) (l : ℕ) (credit : Bool) (okays : List Packet) (n m : ℕ) → n ≤ m → IsBacked o l credit okays n
    → IsBacked o l credit okays m
backed_more None l credit okays n m le h = h
backed_more (Some o) l credit okays n m le h = backed_handed credit (told_in o.remote l o.later) okays n m le h

-- with one more packet
pub backed_goes : (l : ℕ) (packets : List Packet) (p : Packet) (credit : Bool) (okays : List Packet) (n : ℕ)
    → IsBacked (opening_in l packets) l credit okays n → IsBacked (opening_in l (packets ++ p ∷ [])) l credit okays n
backed_goes l packets p credit okays n h = by (opening_in l packets) refl h
  where
    by : (o : Option birth.Opening) → opening_in l packets ≡ o → IsBacked o l credit okays n
        → IsBacked (opening_in l (packets ++ p ∷ [])) l credit okays n
    by None e none = unbacked (opening_in l (packets ++ p ∷ [])) l credit okays n none
    by (Some o) e backed =
        subst (λ (x : Option birth.Opening). IsBacked x l credit okays n) (sym (opening_stays l packets (p ∷ []) o e))
        (subst (λ (told : List (List ℕ)). IsBackedBy credit told okays n) (sym (told_append o.remote l o.later (p ∷ [])))
        (backed_told credit (told_in o.remote l o.later) (told_in o.remote l (p ∷ [])) okays n backed))

-- ---- credit
pub credit_append : (ps qs : List Packet) → credit_of (ps ++ qs) ≡ credit_of ps + credit_of qs
credit_append [] qs = omega arith
credit_append (p ∷ ps) qs = omega (arith, credit_append ps qs)

word_is : (n : ℕ) → credit_word (little_bytes 4 n) ≡ Some (little_number 4 (little_bytes 4 n))
word_is n = refl

-- a credit word gives no more than it was made of
number_within : (n : ℕ) → little_number 4 (little_bytes 4 n) ≤ n
number_within n = omega arith

pub credit_given : (l remote n : ℕ) → credit_of (credit_packet l remote n ∷ []) ≤ n
credit_given l remote n = omega (arith, number_within n)

pub credit_said : (l remote n : ℕ) → credit_word (credit_packet l remote n).payload ≢ None
credit_said l remote n e = let clash : Some (little_number 4 (little_bytes 4 n)) ≡ None = sym (word_is n) ∙ e in cc
