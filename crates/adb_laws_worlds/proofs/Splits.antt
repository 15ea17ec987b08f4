-- The OKAY by which a device opens a stream, among the packets that its link brought.
use Rattle.std.specs.Prelude.{ℕ, ◌+◌, ◌≡◌, ◌≢◌, ◌≤◌, ◌==◌, ◌&&◌, ◌||◌, not, Bool, true, false, cond, nat_eq, All, List, [], ◌∷◌, ◌++◌, Some}
use Rattle.std.specs.Prelude.{None}
use Rattle.std.proofs.Common.{refl, sym, ◌∙◌, ap, subst, arith}
use Rattle.std.specs.List.{list_any}
use Rattle.std.proofs.lemmas.Bool.{eq-eqb, eqb-true}
use Rattle.std.proofs.lemmas.List.Elements.{All-nil, All-cons, All-head, All-tail}
use Rattle.adb_wire.specs.declared.command.Command.{Command}
use Rattle.adb_wire.specs.declared.command.Command.TheVariants.{Cnxn, Okay, Clse}
use Rattle.adb_wire.specs.declared.packets.Packet.{Packet}
use Rattle.adb_history.specs.Links.{credit_word}
use Rattle.adb_history.specs.Births.{Opening, opening_by, opening_in, is_between, before_close, is_okay, is_clse, count_from}
use Rattle.adb_history.specs.Fifo.{okays_in}
use Rattle.adb_daemon.specs.Serving.{Sent}
use Rattle.adb_daemon.specs.Streams.{closes, is_close, is_of, EndsAtClose}
use Rattle.adb_laws_model_device.specs.Counts.{how_many}
use Rattle.adb_laws_model_device.specs.Owed.{packets_of_sent}
use Rattle.adb_laws_model_device.specs.Rows.{is_close_between}

-- ---- openings
-- The OKAY that opens a stream stands before the packets behind the opening.
pub record IsOpening (l : ℕ) (ps : List Packet) (o : Opening) : Type 0 where
  pub front : List Packet
  pub okay : Packet
  pub is : ps ≡ front ++ okay ∷ o.later
  pub command : okay.command ≡ Okay
  pub from : okay.arg0 ≡ o.remote
  pub to : okay.arg1 ≡ l
  pub some : o.remote ≢ 0
  pub first : okays_in o.remote l front ≡ 0

pub opening_split : (l : ℕ) (ps : List Packet) (o : Opening) → opening_in l ps ≡ Some o → IsOpening l ps o
opening_split l [] o is = absurd (let clash : None ≡ Some o = is in cc)
opening_split l (p ∷ ps) o is = by p.command refl is (λ e. opening_split l ps o e)
  where
    Later : Type 0
    Later = opening_in l ps ≡ Some o → IsOpening l ps o

    -- a packet that is no OKAY of the stream's two ids
    other : opening_in l ps ≡ Some o → ((r : ℕ) → r ≢ 0 → (is_okay p.command && is_between r l p) ≡ false) → Later → IsOpening l (p ∷ ps) o
    other e none later =
        let x = later e in
        record {
          front = p ∷ x.front;
          okay = x.okay;
          is = ap (λ (qs : List Packet). p ∷ qs) x.is;
          command = x.command;
          from = x.from;
          to = x.to;
          some = x.some;
          first = ap (λ (b : Bool). cond b (1 + okays_in o.remote l x.front) (okays_in o.remote l x.front))
              (none o.remote x.some) ∙ x.first;
        }

    not_okay : is_okay p.command ≡ false → (r : ℕ) → r ≢ 0 → (is_okay p.command && is_between r l p) ≡ false
    not_okay e r some = ap (λ (b : Bool). b && is_between r l p) e

    not_to : nat_eq p.arg1 l ≡ false → (r : ℕ) → r ≢ 0 → (is_okay p.command && is_between r l p) ≡ false
    not_to e r some = go (is_okay p.command) (nat_eq p.arg0 r) (nat_eq p.arg1 l) e
      where
        go : (a b c : Bool) → c ≡ false → (a && (b && c)) ≡ false
        go true true c f = f
        go true false c f = refl
        go false b c f = refl

    not_from : (p.arg0 == 0) ≡ true → (r : ℕ) → r ≢ 0 → (is_okay p.command && is_between r l p) ≡ false
    not_from e r some = go (is_okay p.command) (nat_eq p.arg0 r) refl
      where
        go : (a b : Bool) → nat_eq p.arg0 r ≡ b → (a && (b && nat_eq p.arg1 l)) ≡ false
        go true true f = absurd (some (sym (eqb-true p.arg0 r f) ∙ eqb-true p.arg0 0 e))
        go true false f = refl
        go false b f = refl

    okay : (c : Bool) → nat_eq p.arg1 l ≡ c → (z : Bool) → (p.arg0 == 0) ≡ z → p.command ≡ Okay
        → cond (c && not z) (Some (record { remote = p.arg0; word = credit_word p.payload; later = ps })) (opening_in l ps) ≡ Some o
        → Later → IsOpening l (p ∷ ps) o
    okay true here false e k f later =
        let same : record { remote = p.arg0; word = credit_word p.payload; later = ps } ≡ o = cc in
        subst (λ (x : Opening). IsOpening l (p ∷ ps) x) same
        (record {
          front = [];
          okay = p;
          is = refl;
          command = k;
          from = refl;
          to = eqb-true p.arg1 l here;
          some = λ zeroth. (let clash : true ≡ false = sym (eq-eqb p.arg0 0 zeroth) ∙ e in cc);
          first = refl;
        })
    okay true here true e k f later = other f (not_from e) later
    okay false here z e k f later = other f (not_to here) later

    closed : (b : Bool) → is_okay p.command ≡ false → cond b None (opening_in l ps) ≡ Some o → Later → IsOpening l (p ∷ ps) o
    closed true e f later = absurd (let clash : None ≡ Some o = f in cc)
    closed false e f later = other f (not_okay e) later

    by : (command : Command) → p.command ≡ command → opening_by command l p ps (opening_in l ps) ≡ Some o → Later → IsOpening l (p ∷ ps) o
    by Okay k f later = okay (nat_eq p.arg1 l) refl (p.arg0 == 0) refl k f later
    by Clse k f later = closed (is_between 0 l p) (ap is_okay k) f later
    by Cnxn k f later = absurd (let clash : None ≡ Some o = f in cc)
    by _ k f later = other f (not_okay (ap is_okay k)) later

-- OKAYs add up
pub okays_append : (n l : ℕ) (xs ys : List Packet) → okays_in n l (xs ++ ys) ≡ okays_in n l xs + okays_in n l ys
okays_append n l [] ys = omega arith
okays_append n l (p ∷ xs) ys = go (is_okay p.command && is_between n l p) (okays_append n l xs ys)
  where
    go : (b : Bool) → okays_in n l (xs ++ ys) ≡ okays_in n l xs + okays_in n l ys
        → cond b (1 + okays_in n l (xs ++ ys)) (okays_in n l (xs ++ ys)) ≡ cond b (1 + okays_in n l xs) (okays_in n l xs) + okays_in n l ys
    go true e = omega (arith, e)
    go false e = e

-- an OKAY of both ids among packets is one at least
pub okay_counts : (n l : ℕ) (front : List Packet) (p : Packet) (rest : List Packet) → p.command ≡ Okay → p.arg0 ≡ n → p.arg1 ≡ l
    → 1 ≤ okays_in n l (front ++ p ∷ rest)
okay_counts n l [] p rest c e f =
    subst (λ (b : Bool). 1 ≤ cond b (1 + okays_in n l rest) (okays_in n l rest))
    (sym (ap (λ (k : Command). is_okay k && (nat_eq p.arg0 n && nat_eq p.arg1 l)) c
    ∙ (ap (λ (b : Bool). b && nat_eq p.arg1 l) (eq-eqb p.arg0 n e) ∙ eq-eqb p.arg1 l f))) (omega arith)
okay_counts n l (q ∷ front) p rest c e f = go (is_okay q.command && is_between n l q) (okay_counts n l front p rest c e f)
  where
    go : (b : Bool) → 1 ≤ okays_in n l (front ++ p ∷ rest)
        → 1 ≤ cond b (1 + okays_in n l (front ++ p ∷ rest)) (okays_in n l (front ++ p ∷ rest))
    go true some = omega arith
    go false some = some

-- what holds of all packets holds of one among them
pub at_split : (P : Packet → Type 0) (front : List Packet) (p : Packet) (rest : List Packet) → All P (front ++ p ∷ rest) → P p
at_split P [] p rest all = All-head P p rest all
at_split P (q ∷ front) p rest all = at_split P front p rest (All-tail P q (front ++ p ∷ rest) all)

-- ---- closes
-- packets of which none closes a stream have no CLSE of both ids
pub unclosed_none : (n l : ℕ) (ps : List Packet) → before_close n l ps ≡ ps → how_many (is_close_between n l) ps ≡ 0
unclosed_none n l [] e = refl
unclosed_none n l (p ∷ ps) e = go (is_clse p.command) (is_between 0 l p) (is_between n l p) e (unclosed_none n l ps)
  where
    tail : p ∷ before_close n l ps ≡ p ∷ ps → before_close n l ps ≡ ps
    tail f = cc

    go : (a b c : Bool) → cond (a && (b || c)) [] (p ∷ before_close n l ps) ≡ p ∷ ps
        → (before_close n l ps ≡ ps → how_many (is_close_between n l) ps ≡ 0)
        → cond (a && c) (1 + how_many (is_close_between n l) ps) (how_many (is_close_between n l) ps) ≡ 0
    go true true c f later = absurd (let clash : [] ≡ p ∷ ps = f in cc)
    go true false true f later = absurd (let clash : [] ≡ p ∷ ps = f in cc)
    go true false false f later = later (tail f)
    go false b c f later = later (tail f)

-- the two tests of a CLSE are one
closes_alike : (c : Command) → is_clse c ≡ is_close c
closes_alike Clse = refl
closes_alike _ = refl

-- where one is of a stream, some are
some_of : (n : ℕ) (made : List Sent) (front : List Packet) (p : Packet) (rest : List Packet)
    → packets_of_sent made ≡ front ++ p ∷ rest → p.arg0 ≡ n
    → list_any (is_of n) made ≡ true
some_of n [] [] p rest is from = let clash : [] ≡ p ∷ rest = is in cc
some_of n [] (q ∷ front) p rest is from = let clash : [] ≡ q ∷ (front ++ p ∷ rest) = is in cc
some_of n (one ∷ made) [] p rest is from =
    let head : one.packet ≡ p = cc in
    ap (λ (b : Bool). b || list_any (is_of n) made) (eq-eqb one.packet.arg0 n (ap (λ (x : Packet). x.arg0) head ∙ from))
some_of n (one ∷ made) (q ∷ front) p rest is from = go (is_of n one) (some_of n made front p rest tail from)
  where
    tail : packets_of_sent made ≡ front ++ p ∷ rest
    tail = (let whole : one.packet ∷ packets_of_sent made ≡ q ∷ (front ++ p ∷ rest) = is in cc)

    go : (b : Bool) → list_any (is_of n) made ≡ true → (b || list_any (is_of n) made) ≡ true
    go true e = refl
    go false e = e

-- Before a packet of a stream stands no CLSE of it.
pub none_before : (n l : ℕ) (made : List Sent) (front : List Packet) (p : Packet) (rest : List Packet) → EndsAtClose n made
    → packets_of_sent made ≡ front ++ p ∷ rest → p.arg0 ≡ n → how_many (is_close_between n l) front ≡ 0
none_before n l made [] p rest ends is from = refl
none_before n l [] (q ∷ front) p rest ends is from = absurd (let clash : [] ≡ q ∷ (front ++ p ∷ rest) = is in cc)
none_before n l (one ∷ made) (q ∷ front) p rest ends is from =
    go (is_clse q.command) refl (nat_eq q.arg0 n) refl (nat_eq q.arg1 l) (none_before n l made front p rest ends.1 tail from)
  where
    whole : one.packet ∷ packets_of_sent made ≡ q ∷ (front ++ p ∷ rest)
    whole = is

    head : one.packet ≡ q
    head = (let all : one.packet ∷ packets_of_sent made ≡ q ∷ (front ++ p ∷ rest) = is in cc)

    tail : packets_of_sent made ≡ front ++ p ∷ rest
    tail = (let all : one.packet ∷ packets_of_sent made ≡ q ∷ (front ++ p ∷ rest) = is in cc)

    closing : is_clse q.command ≡ true → q.arg0 ≡ n → closes n one ≡ true
    closing c e =
        ap (λ (b : Bool). b && (one.packet.arg0 == n))
        (sym (closes_alike one.packet.command) ∙ (ap (λ (x : Packet). is_clse x.command) head ∙ c))
        ∙ eq-eqb one.packet.arg0 n (ap (λ (x : Packet). x.arg0) head ∙ e)

    clash_of : closes n one ≡ true → ⊥
    clash_of e = (let clash : true ≡ false = sym (some_of n made front p rest tail from) ∙ ends.0 e in cc)

    go : (a : Bool) → is_clse q.command ≡ a → (b : Bool) → nat_eq q.arg0 n ≡ b → (c : Bool) → how_many (is_close_between n l) front ≡ 0
        → cond (a && (b && c)) (1 + how_many (is_close_between n l) front) (how_many (is_close_between n l) front) ≡ 0
    go true e true f c none = absurd (clash_of (closing e (eqb-true q.arg0 n f)))
    go true e false f c none = none
    go false e b f c none = none

-- ---- counts
-- of packets of which none is such, each is another
pub none_from : (is_such : Command → Bool) (l : ℕ) (ps : List Packet) → count_from is_such l ps ≡ 0
    → All (λ p. is_such p.command ≡ true → p.arg0 ≢ l) ps
none_from is_such l [] none = All-nil (λ p. is_such p.command ≡ true → p.arg0 ≢ l)
none_from is_such l (p ∷ ps) none = go (is_such p.command) refl (nat_eq p.arg0 l) refl none (none_from is_such l ps)
  where
    Is : Packet → Type 0
    Is q = is_such q.command ≡ true → q.arg0 ≢ l

    some : (n : ℕ) → 1 + n ≡ 0 → ⊥
    some n e = omega (arith, e)

    no : true ≡ false → ⊥
    no e = let clash = e in cc

    go : (a : Bool) → is_such p.command ≡ a → (b : Bool) → nat_eq p.arg0 l ≡ b
        → cond (a && b) (1 + count_from is_such l ps) (count_from is_such l ps) ≡ 0
        → (count_from is_such l ps ≡ 0 → All (λ p. is_such p.command ≡ true → p.arg0 ≢ l) ps)
        → All (λ p. is_such p.command ≡ true → p.arg0 ≢ l) (p ∷ ps)
    go true e true f g later = absurd (some (count_from is_such l ps) g)
    go true e false f g later = All-cons Is p ps (λ such same. no (sym (eq-eqb p.arg0 l same) ∙ f)) (later g)
    go false e b f g later = All-cons Is p ps (λ such. absurd (no (sym such ∙ e))) (later g)

-- where no packet is such there are none
pub none_many : (is_such : Packet → Bool) (ps : List Packet) → All (λ p. is_such p ≡ false) ps → how_many is_such ps ≡ 0
none_many is_such [] all = refl
none_many is_such (p ∷ ps) all =
    ap (λ (b : Bool). cond b (1 + how_many is_such ps) (how_many is_such ps)) (All-head (λ p. is_such p ≡ false) p ps all)
    ∙ none_many is_such ps (All-tail (λ p. is_such p ≡ false) p ps all)
