-- The server acknowledges no write of the device before it comes.
use Rattle.std.proofs.Common.{◌≡◌, ℕ, ◌+◌, ◌-◌, ◌≤◌, ◌<◌, Bool, true, false, cond}
use Rattle.std.proofs.Common.{List, [], ◌∷◌, ◌++◌, length, Option, Some, None, refl, sym, ap}
use Rattle.std.proofs.Common.{subst, ◌∙◌, arith, ◌⊎◌, inl, inr, append_assoc}
use Rattle.std.specs.Prelude.{◌&&◌, not, nat_eq, nat_le, ◌==◌, All}
use Rattle.std.proofs.lemmas.Bool.{eqb-true, cases_lt}
use Rattle.std.proofs.lemmas.List.{length-append}
use Rattle.std.proofs.lemmas.List.Elements.{All-head, All-tail}
use Rattle.adb_wire.specs.declared.command.Command.{Command}
use Rattle.adb_wire.specs.declared.command.Command.TheVariants.{Cnxn, Okay, Clse}
use Rattle.adb_wire.specs.declared.packets.Packet.{Packet}
use Rattle.adb_capture.specs.declared.entry.Entry.{Entry}
use Rattle.adb_history.specs.Links.{credit_word}
use Rattle.adb_history.specs.Machine.{History, IsLegal}
use Rattle.adb_history.specs.Bytes.{brought, sent}
use Rattle.adb_history.specs.Births.{Birth, Opening, born, since, opening_by, opening_in}
use Rattle.adb_history.specs.Births.{opening_of, is_between, count_from, is_okay, is_wrte, told_in, told_after}
use Rattle.adb_history.specs.Births.{told_to, handed_to}
use Rattle.adb_history.specs.Fifo.{okays_of, whole_within, IsOwn, IsWithinDown}
use Rattle.adb_laws_births.specs.Brought.{ComeFirst}
use Rattle.adb_laws_births.specs.Births.{born_stays}
use Rattle.adb_laws_births.proofs.Crossing.{no_crossing}
use Rattle.adb_laws_births.proofs.Laws.{goes_on_so}
use Rattle.adb_laws_fifo_down.proofs.Acknowledged.{keeps_down_window}
use Rattle.adb_laws_model_device.specs.Counts.{is_wrte_to, writes_to}
use Rattle.adb_laws_model_device.specs.Devices.{RemoteEnd, IsPlain}
use Rattle.adb_laws_model_device.specs.Paired.{IsPaired}
use Rattle.adb_laws_model_device.specs.InTime.{AllPlain, IsToldInTime}
use Rattle.adb_laws_model_device.proofs.Counts.{many_front, many_tail, many_drop, count_more}

-- ---- counting
-- as many as are listed
counts_listed : (l : ℕ) (ps : List Packet) → count_from is_okay l ps ≡ length (okays_of l ps)
counts_listed l [] = refl
counts_listed l (p ∷ ps) = go (is_okay p.command && nat_eq p.arg0 l) (counts_listed l ps)
  where
    go : (b : Bool) → count_from is_okay l ps ≡ length (okays_of l ps)
        → cond b (1 + count_from is_okay l ps) (count_from is_okay l ps) ≡ length (cond b (p ∷ okays_of l ps) (okays_of l ps))
    go true e = omega (arith, e)
    go false e = e

-- no more payloads lie within some bytes than there are
pub within_all : (n : ℕ) (payloads : List (List ℕ)) → whole_within n payloads ≤ length payloads
within_all n [] = omega arith
within_all n (payload ∷ payloads) = go (nat_le (length payload) n) (within_all (n - length payload) payloads)
  where
    go : (b : Bool) → whole_within (n - length payload) payloads ≤ length payloads
        → cond b (1 + whole_within (n - length payload) payloads) 0 ≤ length (payload ∷ payloads)
    go true le = omega (arith, le)
    go false le = omega arith

-- ---- what was told to a stream was written to it
-- what one id told are some of all writes
told_from : (r l : ℕ) (ps : List Packet) → length (told_in r l ps) ≤ writes_to l ps
told_from r l [] = omega arith
told_from r l (p ∷ ps) = go (is_wrte p.command) (nat_eq p.arg0 r) (nat_eq p.arg1 l) (told_from r l ps)
  where
    go : (a b c : Bool) → length (told_in r l ps) ≤ writes_to l ps
        → length (cond (a && (b && c)) (p.payload ∷ told_in r l ps) (told_in r l ps)) ≤ cond (a && c) (1 + writes_to l ps) (writes_to l ps)
    go true true true le = omega (arith, le)
    go true false true le = omega (arith, le)
    go _ _ _ le = le

-- what the opening device told, too
opened_told : (l : ℕ) (ps : List Packet) (o : Opening) → opening_in l ps ≡ Some o → length (told_in o.remote l o.later) ≤ writes_to l ps
opened_told l [] o is = absurd (let clash : None ≡ Some o = is in cc)
opened_told l (p ∷ ps) o is = by p.command is (opened_told l ps o)
  where
    Later : Type 0
    Later = opening_in l ps ≡ Some o → length (told_in o.remote l o.later) ≤ writes_to l ps

    other : opening_in l ps ≡ Some o → Later → length (told_in o.remote l o.later) ≤ writes_to l (p ∷ ps)
    other e later = (let one = later e in let more = many_tail (is_wrte_to l) p ps in omega (arith, one, more))

    okay : (b : Bool) → cond b (Some (record { remote = p.arg0; word = credit_word p.payload; later = ps }))
        (opening_in l ps) ≡ Some o → Later
        → length (told_in o.remote l o.later) ≤ writes_to l (p ∷ ps)
    okay true e later =
        let same : record { remote = p.arg0; word = credit_word p.payload; later = ps } ≡ o = cc in
        subst (λ (x : Opening). length (told_in x.remote l x.later) ≤ writes_to l (p ∷ ps)) same
        (let one = told_from p.arg0 l ps in let more = many_tail (is_wrte_to l) p ps in omega (arith, one, more))
    okay false e later = other e later

    closed : (b : Bool) → cond b None (opening_in l ps) ≡ Some o → Later → length (told_in o.remote l o.later) ≤ writes_to l (p ∷ ps)
    closed true e later = absurd (let clash : None ≡ Some o = e in cc)
    closed false e later = other e later

    by : (command : Command) → opening_by command l p ps (opening_in l ps) ≡ Some o → Later
        → length (told_in o.remote l o.later) ≤ writes_to l (p ∷ ps)
    by Okay e later = okay (nat_eq p.arg1 l && not (p.arg0 == 0)) e later
    by Clse e later = closed (is_between 0 l p) e later
    by Cnxn e later = absurd (let clash : None ≡ Some o = e in cc)
    by _ e later = other e later

-- and so all that was told of a stream
pub told_within : (l : ℕ) (b : Birth) (h : History) → length (told_to l b h) ≤ writes_to l (brought b.link h)
told_within l b h = go (opening_of l b h) refl
  where
    go : (o : Option Opening) → opening_of l b h ≡ o → length (told_after l o) ≤ writes_to l (brought b.link h)
    go None e = omega arith
    go (Some o) e =
        let one = opened_told l (since b h) o e in
        let fewer = many_drop (is_wrte_to l) b.packets_before (brought b.link h) in
        omega (arith, one, fewer)

-- ---- an OKAY is one of a stream that was born on its link
-- a stream was born on the first link
record HasOwner (h : History) (l : ℕ) : Type 0 where
  birth : Birth
  is : born l h ≡ Some birth
  link : birth.link ≡ 1

-- where an OKAY of a stream was sent, the stream was born there
okay_owner : (h : History) (l : ℕ) (ps : List Packet) → All (λ p. IsOwn h 1 p.command p) ps → (count_from is_okay l ps ≡ 0) ⊎ HasOwner h l
okay_owner h l [] own = inl refl
okay_owner h l (p ∷ ps) own =
    by p.command refl (All-head (λ q. IsOwn h 1 q.command q) p ps own) (okay_owner h l ps (All-tail (λ q. IsOwn h 1 q.command q) p ps own))
  where
    Goal : Type 0
    Goal = (cond (is_okay p.command && nat_eq p.arg0 l) (1 + count_from is_okay l ps) (count_from is_okay l ps) ≡ 0) ⊎ HasOwner h l

    other : is_okay p.command ≡ false → (count_from is_okay l ps ≡ 0) ⊎ HasOwner h l → Goal
    other e (inl none) = inl (ap (λ b. cond (b && nat_eq p.arg0 l) (1 + count_from is_okay l ps) (count_from is_okay l ps)) e ∙ none)
    other e (inr owner) = inr owner

    at : (b : Bool) → nat_eq p.arg0 l ≡ b → p.command ≡ Okay → IsOwn h 1 p.command p → (count_from is_okay l ps ≡ 0) ⊎ HasOwner h l → Goal
    at true e command one later =
        let of = subst (λ (c : Command). IsOwn h 1 c p) command one in
        inr (record { birth = of.birth; is = ap (λ n. born n h) (sym (eqb-true p.arg0 l e)) ∙ of.is; link = of.link })
    at false e command one (inr owner) = inr owner
    at false e command one (inl none) =
        inl (ap (λ c. cond (is_okay c && nat_eq p.arg0 l) (1 + count_from is_okay l ps) (count_from is_okay l ps)) command
        ∙ (ap (λ b. cond b (1 + count_from is_okay l ps) (count_from is_okay l ps)) e ∙ none))

    by : (c : Command) → p.command ≡ c → IsOwn h 1 p.command p → (count_from is_okay l ps ≡ 0) ⊎ HasOwner h l → Goal
    by Okay e one later = at (nat_eq p.arg0 l) refl e one later
    by _ e one later = other (ap is_okay e) later

-- ---- lists
-- a list that has a front and another front, of which the first is no longer, begins with both
longer_front : (xs ys more rest : List Packet) → xs ++ more ≡ ys ++ rest → length xs ≤ length ys → (mid : List Packet) × (xs ++ mid ≡ ys)
longer_front [] ys more rest e le = (ys, refl)
longer_front (x ∷ xs) [] more rest e le = absurd (omega (arith, le))
longer_front (x ∷ xs) (y ∷ ys) more rest e le =
    let head : x ≡ y = cc in
    let tail : xs ++ more ≡ ys ++ rest = cc in
    let mid = longer_front xs ys more rest tail (omega (arith, le)) in
    (mid.0, ap (λ (l : List Packet). x ∷ l) mid.1 ∙ ap (λ (z : Packet). z ∷ ys) head)

module _ (owes : RemoteEnd) (plain : IsPlain owes) where
  -- what the server acknowledged was brought, and so was written before
  acked : (e : Entry) (older : History) → IsLegal (e ∷ older)
      → ComeFirst (brought 1 (e ∷ older)) (owes (sent 1 older)) → AllPlain (e ∷ older) → (l : ℕ)
      → count_from is_okay l (sent 1 (e ∷ older)) ≤ writes_to l (owes (sent 1 older))
  acked e older legal first all l = go (okay_owner (e ∷ older) l (sent 1 (e ∷ older)) ((no_crossing (e ∷ older) legal).own 1))
    where
      go : (count_from is_okay l (sent 1 (e ∷ older)) ≡ 0) ⊎ HasOwner (e ∷ older) l
          → count_from is_okay l (sent 1 (e ∷ older)) ≤ writes_to l (owes (sent 1 older))
      go (inl none) = omega (arith, none)
      go (inr o) =
          let window = subst (λ (c : Bool). IsWithinDown c l o.birth (e ∷ older)) (all l o.birth o.is)
          (keeps_down_window (e ∷ older) legal l o.birth o.is) in
          let few = within_all (length (handed_to l o.birth (e ∷ older))) (told_to l o.birth (e ∷ older)) in
          let told = told_within l o.birth (e ∷ older) in
          let mine : writes_to l (brought o.birth.link (e ∷ older)) ≡ writes_to l (brought 1 (e ∷ older)) =
          ap (λ t. writes_to l (brought t (e ∷ older))) o.link in
          let sends : length (okays_of l (sent o.birth.link (e ∷ older))) ≡ count_from is_okay l (sent 1 (e ∷ older)) =
          ap (λ t. length (okays_of l (sent t (e ∷ older)))) o.link ∙ sym (counts_listed l (sent 1 (e ∷ older))) in
          let before = many_front (is_wrte_to l) (brought 1 (e ∷ older)) (owes (sent 1 older)) first in
          omega (arith, window, few, told, mine, sends, before)

  -- streams without credit were without it before
  older_plain : (e : Entry) (older : History) → AllPlain (e ∷ older) → AllPlain older
  older_plain e older all l b is = all l b (born_stays l e older b is)

  -- so each OKAY that is sent comes behind the write that it answers
  pub told_in_time : (h : History) → IsLegal h → IsPaired owes h → AllPlain h → IsToldInTime owes (sent 1 h)
  told_in_time [] legal paired all l front p rest is = absurd (none front is)
    where
      none : (front : List Packet) → front ++ p ∷ rest ≡ [] → ⊥
      none [] e = let clash : p ∷ rest ≡ [] = e in cc
      none (q ∷ front) e = let clash : q ∷ (front ++ p ∷ rest) ≡ [] = e in cc
  told_in_time (e ∷ older) legal paired all l front p rest is =
      go (cases_lt (length front) (length (sent 1 older))) (told_in_time older legal.0 paired.0 (older_plain e older all))
    where
      more : ComeFirst (sent 1 older) (sent 1 (e ∷ older))
      more = (goes_on_so e older).sends 1

      before : front ++ p ∷ rest ≡ sent 1 older ++ more.0
      before = is ∙ sym more.1

      with_p : (front ++ p ∷ []) ++ rest ≡ front ++ p ∷ rest
      with_p = append_assoc front (p ∷ []) rest

      go : (length front < length (sent 1 older)) ⊎ (length (sent 1 older) ≤ length front) → IsToldInTime owes (sent 1 older)
          → count_from is_okay l (front ++ p ∷ []) ≤ writes_to l (owes front)
      go (inl within) so_far =
          let mid = longer_front (front ++ p ∷ []) (sent 1 older) rest more.0 (with_p ∙ before)
          (let n = length-append front (p ∷ []) in omega (arith, within, n)) in
          so_far l front p mid.0 (sym (append_assoc front (p ∷ []) mid.0) ∙ mid.1)
      go (inr past) so_far =
          let mid = longer_front (sent 1 older) front more.0 (p ∷ rest) (sym before) past in
          let few : count_from is_okay l (front ++ p ∷ []) ≤ count_from is_okay l (sent 1 (e ∷ older)) =
          subst (λ (ps : List Packet). count_from is_okay l (front ++ p ∷ []) ≤ count_from is_okay l ps) (with_p ∙ is)
          (count_more is_okay l (front ++ p ∷ []) rest) in
          let acks = acked e older legal paired.1 all l in
          let grown = many_front (is_wrte_to l) (owes (sent 1 older)) (owes front)
          (subst (λ (ps : List Packet). ComeFirst (owes (sent 1 older)) (owes ps)) mid.1 (plain.grows (sent 1 older) mid.0)) in
          omega (arith, few, acks, grown)
