-- Packets that are no writes of a stream and give it no credit.
use Rattle.std.proofs.Common.{◌≡◌, ◌≢◌, ◌+◌, ℕ, Bool, true, false, cond, ◌&&◌, List, [], ◌∷◌, ◌++◌, refl, sym, ap, ◌∙◌, eqb, arith}
use Rattle.std.proofs.Common.{append_assoc}
use Rattle.std.specs.Prelude.{nat_eq, unwrap_or}
use Rattle.std.proofs.lemmas.Bool.{ne_eqb}
use Rattle.adb_wire.specs.declared.packets.Packet.{Packet}
use Rattle.adb_history.specs.Events.{Event, due_to_client, due_to_link, ended, packets_to}
use Rattle.adb_history.specs.Links.{credit_word, okay_packet, credit_packet, write_packet}
use Rattle.adb_history.specs.Births.{is_wrte, is_okay, carried_in, count_from}
use Rattle.adb_history.specs.Fifo.{okays_of, credit_of}

-- a packet that is no write of a stream, and gives it no credit
pub record IsSilent (l : ℕ) (p : Packet) : Type 0 where
  pub write : (is_wrte p.command && nat_eq p.arg0 l) ≡ false
  pub credit : cond (is_okay p.command && nat_eq p.arg0 l) (unwrap_or (credit_word p.payload) 0) 0 ≡ 0

-- no event tells another one
abbrev pub AreSilent : ℕ → List Event → Type 0
AreSilent l [] = Unit {0}
AreSilent l (due_to_client client bytes ∷ events) = AreSilent l events
AreSilent l (due_to_link link packet check ∷ events) = IsSilent l packet × AreSilent l events
AreSilent l (ended stream ending ∷ events) = AreSilent l events

pub silent_append : (l : ℕ) (a b : List Event) → AreSilent l a → AreSilent l b → AreSilent l (a ++ b)
silent_append l [] b h k = k
silent_append l (due_to_client client bytes ∷ a) b h k = silent_append l a b h k
silent_append l (due_to_link link packet check ∷ a) b h k = (h.0, silent_append l a b h.1 k)
silent_append l (ended stream ending ∷ a) b h k = silent_append l a b h k

-- packets of other streams
pub okay_silent : (l n remote : ℕ) → IsSilent l (okay_packet n remote)
okay_silent l n remote = record { write = refl; credit = go (nat_eq n l) }
  where
    go : (b : Bool) → cond b (unwrap_or (credit_word []) 0) 0 ≡ 0
    go true = refl
    go false = refl

pub credit_silent : (l n remote credit : ℕ) → n ≢ l → IsSilent l (credit_packet n remote credit)
credit_silent l n remote credit apart = record {
  write = refl;
  credit = ap (λ b. cond b (unwrap_or (credit_word (credit_packet n remote credit).payload) 0) 0) (ne_eqb n l apart);
}

pub write_silent : (l n remote : ℕ) (payload : List ℕ) → n ≢ l → IsSilent l (write_packet n remote payload)
write_silent l n remote payload apart = record { write = ne_eqb n l apart; credit = refl }

-- ---- what they do not carry
module _ (l t : ℕ) where
  pub silent_carried : (w : List Event) → AreSilent l w → carried_in l (packets_to t w) ≡ []
  silent_carried [] h = refl
  silent_carried (due_to_client client bytes ∷ w) h = silent_carried w h
  silent_carried (ended stream ending ∷ w) h = silent_carried w h
  silent_carried (due_to_link link p check ∷ w) h = go (eqb link t) (silent_carried w h.1)
    where
      go : (b : Bool) → carried_in l (packets_to t w) ≡ [] → carried_in l (cond b (p ∷ packets_to t w) (packets_to t w)) ≡ []
      go true rest = ap (λ b. cond b (p.payload ++ carried_in l (packets_to t w)) (carried_in l (packets_to t w))) h.0.write ∙ rest
      go false rest = rest

  pub silent_writes : (w : List Event) → AreSilent l w → count_from is_wrte l (packets_to t w) ≡ 0
  silent_writes [] h = refl
  silent_writes (due_to_client client bytes ∷ w) h = silent_writes w h
  silent_writes (ended stream ending ∷ w) h = silent_writes w h
  silent_writes (due_to_link link p check ∷ w) h = go (eqb link t) (silent_writes w h.1)
    where
      go : (b : Bool) → count_from is_wrte l (packets_to t w) ≡ 0 → count_from is_wrte l (cond b (p ∷ packets_to t w) (packets_to t w)) ≡ 0
      go true rest = ap (λ b. cond b (1 + count_from is_wrte l (packets_to t w)) (count_from is_wrte l (packets_to t w))) h.0.write ∙ rest
      go false rest = rest

  pub silent_credits : (w : List Event) → AreSilent l w → credit_of (okays_of l (packets_to t w)) ≡ 0
  silent_credits [] h = refl
  silent_credits (due_to_client client bytes ∷ w) h = silent_credits w h
  silent_credits (ended stream ending ∷ w) h = silent_credits w h
  silent_credits (due_to_link link p check ∷ w) h = go (eqb link t) (silent_credits w h.1)
    where
      one : (c : Bool) → cond c (unwrap_or (credit_word p.payload) 0) 0 ≡ 0 → credit_of (okays_of l (packets_to t w)) ≡ 0
          → credit_of (cond c (p ∷ okays_of l (packets_to t w)) (okays_of l (packets_to t w))) ≡ 0
      one true e rest = omega (arith, e, rest)
      one false e rest = rest

      go : (b : Bool) → credit_of (okays_of l (packets_to t w)) ≡ 0
          → credit_of (okays_of l (cond b (p ∷ packets_to t w) (packets_to t w))) ≡ 0
      go true rest = one (is_okay p.command && nat_eq p.arg0 l) h.0.credit rest
      go false rest = rest

-- ---- what events tell of a stream to a link: the bytes and the writes that go up, and the credit that is given back
pub record Tally (l t : ℕ) (w : List Event) (carried : List ℕ) (writes credits : ℕ) : Type 0 where
  pub bytes : carried_in l (packets_to t w) ≡ carried
  pub count : count_from is_wrte l (packets_to t w) ≡ writes
  pub given : credit_of (okays_of l (packets_to t w)) ≡ credits

pub tally_silent : (l t : ℕ) (w : List Event) → AreSilent l w → Tally l t w [] 0 0
tally_silent l t w h = record { bytes = silent_carried l t w h; count = silent_writes l t w h; given = silent_credits l t w h }

packets_append : (t : ℕ) (a b : List Event) → packets_to t (a ++ b) ≡ packets_to t a ++ packets_to t b
packets_append t [] b = refl
packets_append t (due_to_client client bytes ∷ a) b = packets_append t a b
packets_append t (ended stream ending ∷ a) b = packets_append t a b
packets_append t (due_to_link link p check ∷ a) b = go (eqb link t) (packets_append t a b)
  where
    go : (c : Bool) → packets_to t (a ++ b) ≡ packets_to t a ++ packets_to t b
        → cond c (p ∷ packets_to t (a ++ b)) (packets_to t (a ++ b)) ≡ cond c (p ∷ packets_to t a) (packets_to t a) ++ packets_to t b
    go true e = ap (λ (ps : List Packet). p ∷ ps) e
    go false e = e

module _ (l : ℕ) where
  carried_append : (a b : List Packet) → carried_in l (a ++ b) ≡ carried_in l a ++ carried_in l b
  carried_append [] b = refl
  carried_append (p ∷ a) b = go (is_wrte p.command && nat_eq p.arg0 l) (carried_append a b)
    where
      go : (c : Bool) → carried_in l (a ++ b) ≡ carried_in l a ++ carried_in l b
          → cond c (p.payload ++ carried_in l (a ++ b)) (carried_in l (a ++ b))
          ≡ cond c (p.payload ++ carried_in l a) (carried_in l a) ++ carried_in l b
      go true e = ap (λ bytes. p.payload ++ bytes) e ∙ sym (append_assoc p.payload (carried_in l a) (carried_in l b))
      go false e = e

  count_append : (a b : List Packet) → count_from is_wrte l (a ++ b) ≡ count_from is_wrte l a + count_from is_wrte l b
  count_append [] b = omega arith
  count_append (p ∷ a) b = go (is_wrte p.command && nat_eq p.arg0 l) (count_append a b)
    where
      go : (c : Bool) → count_from is_wrte l (a ++ b) ≡ count_from is_wrte l a + count_from is_wrte l b
          → cond c (1 + count_from is_wrte l (a ++ b)) (count_from is_wrte l (a ++ b))
          ≡ cond c (1 + count_from is_wrte l a) (count_from is_wrte l a) + count_from is_wrte l b
      go true e = omega (arith, e)
      go false e = e

  credits_append : (a b : List Packet) → credit_of (okays_of l (a ++ b)) ≡ credit_of (okays_of l a) + credit_of (okays_of l b)
  credits_append [] b = omega arith
  credits_append (p ∷ a) b = go (is_okay p.command && nat_eq p.arg0 l) (credits_append a b)
    where
      go : (c : Bool) → credit_of (okays_of l (a ++ b)) ≡ credit_of (okays_of l a) + credit_of (okays_of l b)
          → credit_of (cond c (p ∷ okays_of l (a ++ b)) (okays_of l (a ++ b)))
          ≡ credit_of (cond c (p ∷ okays_of l a) (okays_of l a)) + credit_of (okays_of l b)
      go true e = omega (arith, e)
      go false e = e

module _ (l t : ℕ) (a b : List Event) where
  pub tally_append : (c d : List ℕ) (m n i j : ℕ) → Tally l t a c m i → Tally l t b d n j → Tally l t (a ++ b) (c ++ d) (m + n) (i + j)
  tally_append c d m n i j h k = record {
    bytes = ap (carried_in l) (packets_append t a b) ∙ (carried_append l (packets_to t a) (packets_to t b)
        ∙ (ap (λ x. x ++ carried_in l (packets_to t b)) h.bytes ∙ ap (λ x. c ++ x) k.bytes));
    count =
        let both : count_from is_wrte l (packets_to t (a ++ b))
        ≡ count_from is_wrte l (packets_to t a) + count_from is_wrte l (packets_to t b) =
        ap (count_from is_wrte l) (packets_append t a b) ∙ count_append l (packets_to t a) (packets_to t b) in
        omega (arith, both, h.count, k.count);
    given =
        let both : credit_of (okays_of l (packets_to t (a ++ b)))
        ≡ credit_of (okays_of l (packets_to t a)) + credit_of (okays_of l (packets_to t b)) =
        ap (λ ps. credit_of (okays_of l ps)) (packets_append t a b) ∙ credits_append l (packets_to t a) (packets_to t b) in
        omega (arith, both, h.given, k.given);
  }
