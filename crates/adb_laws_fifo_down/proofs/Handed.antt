-- A client is handed what the device of its stream wrote.
use Rattle.std.proofs.Common.{ℕ, ◌+◌, ◌≡◌, ◌≤◌, ◌<◌, zero, suc, Bool, true, false, cond, List, [], ◌∷◌, ◌++◌, length, drop, Option, Some}
use Rattle.std.proofs.Common.{None, is_some, refl}
use Rattle.std.proofs.Common.{sym, ◌∙◌, ap, subst}
use Rattle.std.proofs.Common.{arith, append_assoc, inl, inr, ◌⊎◌, codes}
use Rattle.std.proofs.Math.Seq.{drop-append_seam}
use Rattle.std.proofs.lemmas.Bool.{cases_lt}
use Rattle.std.proofs.lemmas.List.{append-nil, length-append, drop-append-le}
use Rattle.adb_outside.specs.Bytes.{IsPrefixOf}
use Rattle.adb_history.specs.Machine.{History, IsLegal}
use Rattle.adb_history.specs.Bytes.{bytes_put}
use Rattle.adb_history.specs.Book.{asked}
use Rattle.adb_history.specs.Births.{Birth, Opening, since, opening_in, opening_of, told_in, told_after, told_to, told_before}
use Rattle.adb_history.specs.Births.{told_before_close}
use Rattle.adb_history.specs.Births.{before_close, joined, lead_of, handed_to}
use Rattle.adb_history.specs.declared.ending.Ending.TheVariants.{PeerClosed}
use Rattle.adb_history.specs.Fifo.{HandsTold, HandsWholeTold}
use Rattle.adb_laws_fifo_down.specs.Line.{Line, SeenStream, View}
use Rattle.adb_laws_fifo_down.specs.Turns.{Turns}
use Rattle.adb_laws_fifo_down.specs.Life.{Cradle, okay_after, lead, heard, IsUnheard, IsClosedAt, Story, LivesAs, LivesIn, Life}
use Rattle.adb_laws_fifo_down.specs.Followed.{LifeOf, HasLives}
use Rattle.adb_laws_fifo_down.specs.Follows.{is_shut, replies_of, Follows}
use Rattle.adb_laws_fifo_down.specs.Begins.{Lasts}
use Rattle.adb_laws_fifo_down.proofs.Openings.{pending_now}
use Rattle.adb_laws_fifo_down.proofs.Lives.{any_front, life_served, life_closes, life_breaks, life_stops, life_fails, life_hands}
use Rattle.adb_laws_fifo_down.proofs.Lives.{life_shuts}
use Rattle.adb_laws_fifo_down.proofs.LifePackets.{life_treats}
use Rattle.adb_laws_fifo_down.proofs.Followed.{follows}

pub life_turns : (b : Line) (k : Cradle) → Turns b (LifeOf b k)
life_turns b k = record {
  served = λ packets shut out v h. life_served b.id k packets shut out v h;
  closes = λ packets shut out v y h. life_closes b.id k packets shut out v b y refl h;
  fails = λ packets shut out v cause a here h. life_fails b.id k packets shut out v cause a here h;
  stops = λ packets shut out v ending stop h. life_stops b.id k packets shut out v ending stop h;
  hands = λ packets shut out v a bytes here front h. life_hands b.id k packets shut out bytes v a b refl here front h;
  treats = λ packets out v p h. life_treats b.id k packets out v p h;
  shuts = λ packets shut out v h. life_shuts b.id k packets shut out v h;
  breaks = λ packets out v x ending there which h. life_breaks b.id k packets true out v x ending refl there which h;
}

pub life_lasts : Lasts LifeOf
life_lasts = record {
  begins = λ b k out due put. record {
    tied = put;
    lives = record {
      client = _;
      here = refl;
      phase = refl;
      forwarded = refl;
      output = refl;
      pending = λ more. refl;
      ending = refl;
    };
  };
  turns = life_turns;
}

-- ---- past what comes first
drop_past : {A : Type 0} (n : ℕ) (xs : List A) → length xs ≤ n → drop n xs ≡ []
drop_past zero [] le = refl
drop_past (suc n) [] le = refl
drop_past zero (x ∷ xs) le = absurd (omega (arith, le))
drop_past (suc n) (x ∷ xs) le = drop_past n xs (omega (arith, le))

pub past_lead : (put first bytes : List ℕ) → IsPrefixOf put (first ++ bytes) → IsPrefixOf (drop (length first) put) bytes
past_lead put first bytes (rest, is) = go (cases_lt (length put) (length first))
  where
    go : (length put < length first) ⊎ (length first ≤ length put) → IsPrefixOf (drop (length first) put) bytes
    go (inl lt) = (bytes, ap (λ (x : List ℕ). x ++ bytes) (drop_past (length first) put (omega (arith, lt))))
    go (inr le) = (
      rest,
      sym (drop-append-le (length first) put rest le) ∙ (ap (drop (length first)) is ∙ drop-append_seam first bytes),
    )

nothing_past : (n : ℕ) (put replies : List ℕ) → IsPrefixOf put replies → length replies ≤ n → drop n put ≡ []
nothing_past n put replies (rest, is) le = drop_past n put (omega (arith, ap length is, length-append put rest, le))

-- so many bytes come before those of a stream
pub lead_is : (k : Cradle) (b : Birth) (h : History) → k.forwarded ≡ b.forwarded → k.replies ≡ replies_of b h
    → length (lead k) ≡ lead_of b h
lead_is k b h forwarded_is replies_are = by b.forwarded forwarded_is replies_are
  where
    by : (forwarded : Bool) → k.forwarded ≡ forwarded → k.replies ≡ cond forwarded [] (asked b.client h).replies
        → length (okay_after k.forwarded k.replies) ≡ cond forwarded 0 (length (asked b.client h).replies + 4)
    by true e g = ap (λ (c : Bool). length (okay_after c k.replies)) e ∙ ap length g
    by false e g =
        ap (λ (c : Bool). length (okay_after c k.replies)) e
        ∙ (ap (λ (x : List ℕ). length (x ++ codes "OKAY")) g ∙ length-append (asked b.client h).replies (codes "OKAY"))

-- ---- what was handed to the client of a stream
module _ (l : ℕ) (b : Birth) (h : History) (f : Follows LifeOf h l b) where
  abbrev life : Life l f.cradle (since b h) (is_shut b.link h) (bytes_put b.client h) f.holds.seen
  life = f.holds.keeps

  pub put_front : IsPrefixOf (bytes_put b.client h) f.holds.seen.output
  put_front = any_front f.holds.seen.client f.holds.seen.output (bytes_put b.client h) life.tied

  -- so many bytes come first
  lead_length : length (lead f.cradle) ≡ lead_of b h
  lead_length = lead_is f.cradle b h f.forwarded f.replies

  replies_within : length f.cradle.replies ≤ lead_of b h
  replies_within = by b.forwarded f.replies
    where
      by : (forwarded : Bool) → f.cradle.replies ≡ cond forwarded [] (asked b.client h).replies
          → length f.cradle.replies ≤ cond forwarded 0 (length (asked b.client h).replies + 4)
      by true g = omega (arith, ap length g)
      by false g = omega (arith, ap length g)

  -- what became due past that, where the stream was opened
  pub record IsTold (o : Opening) : Type 0 where
    pub bytes : List ℕ
    pub handed : IsPrefixOf (drop (lead_of b h) (bytes_put b.client h)) bytes
    pub front : IsPrefixOf bytes (joined (told_in o.remote l o.later))

  told_part : (o : Opening) (bytes : List ℕ) → f.holds.seen.output ≡ lead f.cradle ++ bytes
      → IsPrefixOf bytes (joined (told_in o.remote l o.later)) → IsTold o
  told_part o bytes output front = record {
    bytes = bytes;
    handed = subst (λ (n : ℕ). IsPrefixOf (drop n (bytes_put b.client h)) bytes) lead_length
        (past_lead (bytes_put b.client h) (lead f.cradle) bytes (subst (IsPrefixOf (bytes_put b.client h)) output put_front));
    front = front;
  }

  unheard_told : (o : Opening) → IsUnheard f.cradle f.holds.seen.output f.holds.seen.ending → IsTold o
  unheard_told o unheard =
      let none : drop (lead_of b h) (bytes_put b.client h) ≡ [] =
      nothing_past (lead_of b h) (bytes_put b.client h) f.cradle.replies
      (subst (IsPrefixOf (bytes_put b.client h)) unheard.output_is put_front)
      replies_within in record {
        bytes = [];
        handed = subst (λ (x : List ℕ). IsPrefixOf x []) (sym none) ([], refl);
        front = (joined (told_in o.remote l o.later), refl);
      }

  pub told_of : (o : Opening) → opening_in l (since b h) ≡ Some o → IsTold o
  told_of o is = by f.holds.seen.stream life.lives
    where
      same : (p : Opening) → opening_in l (since b h) ≡ Some p → p ≡ o
      same p e = let both : Some p ≡ Some o = sym e ∙ is in cc

      alive : (orphan : Bool) (remote : ℕ) → LivesAs orphan remote l f.cradle (since b h) (heard f.holds.seen) → IsTold o
      alive true remote i = unheard_told o i.unheard
      alive false zero i = absurd (let clash : None ≡ Some o = sym (pending_now l (since b h) i.pending) ∙ is in cc)
      alive false (suc r) i =
          subst IsTold (same i.opening i.opened)
          (told_part i.opening (joined (told_in i.opening.remote l i.opening.later)) i.output
          ([], append-nil (joined (told_in i.opening.remote l i.opening.later))))

      over : Story l f.cradle (since b h) (is_shut b.link h) (heard f.holds.seen) → IsTold o
      over (inl never) = absurd (let clash : None ≡ Some o = sym never.0.unopened ∙ is in cc)
      over (inr (inl unheard)) = unheard_told o unheard
      over (inr (inr i)) = subst IsTold (same i.opening i.opened) (told_part i.opening i.bytes i.output_is i.front)

      by : (x : Option SeenStream) → LivesIn x l f.cradle (since b h) (is_shut b.link h) (heard f.holds.seen) → IsTold o
      by None i = over i.1
      by (Some x) i = alive x.orphan x.remote i

  handed_is_told : IsPrefixOf (handed_to l b h) (joined (told_to l b h))
  handed_is_told = by (opening_of l b h) refl
    where
      front_then : (x y z : List ℕ) → IsPrefixOf x y → IsPrefixOf y z → IsPrefixOf x z
      front_then x y z (r, e) (q, g) = (r ++ q, sym (append_assoc x r q) ∙ (ap (λ (u : List ℕ). u ++ q) e ∙ g))

      by : (o : Option Opening) → opening_of l b h ≡ o
          → IsPrefixOf (cond (is_some o) (drop (lead_of b h) (bytes_put b.client h)) []) (joined (told_after l o))
      by None e = ([], refl)
      by (Some o) e =
          let t = told_of o e in
          front_then (drop (lead_of b h) (bytes_put b.client h)) t.bytes (joined (told_in o.remote l o.later)) t.handed t.front

  -- ---- all of it
  module _ (by_peer : f.holds.seen.ending ≡ Some PeerClosed) (all : bytes_put b.client h ≡ f.holds.seen.output) where
    -- what its device had written when it closed
    whole_of : (o : Opening) → opening_in l (since b h) ≡ Some o
        → drop (lead_of b h) (bytes_put b.client h) ≡ joined (told_in o.remote l (before_close o.remote l o.later))
    whole_of o is = by f.holds.seen.stream life.lives
      where
        same : (p : Opening) → opening_in l (since b h) ≡ Some p → p ≡ o
        same p e = let both : Some p ≡ Some o = sym e ∙ is in cc

        fresh : f.holds.seen.ending ≡ None → ⊥
        fresh e = let clash : None ≡ Some PeerClosed = sym e ∙ by_peer in cc

        alive : (orphan : Bool) (remote : ℕ) → LivesAs orphan remote l f.cradle (since b h) (heard f.holds.seen)
            → drop (lead_of b h) (bytes_put b.client h) ≡ joined (told_in o.remote l (before_close o.remote l o.later))
        alive true remote i = absurd (i.unheard.not_by_peer by_peer)
        alive false zero i = absurd (fresh i.ending)
        alive false (suc r) i = absurd (fresh i.ending)

        closed : (p : Opening) (bytes : List ℕ) → f.holds.seen.output ≡ lead f.cradle ++ bytes → IsClosedAt l p bytes
            → drop (lead_of b h) (bytes_put b.client h) ≡ joined (told_in p.remote l (before_close p.remote l p.later))
        closed p bytes output c =
            ap (λ (n : ℕ). drop n (bytes_put b.client h)) (sym lead_length)
            ∙ (ap (drop (length (lead f.cradle))) (all ∙ output) ∙ (drop-append_seam (lead f.cradle) bytes ∙ c.whole))

        over : Story l f.cradle (since b h) (is_shut b.link h) (heard f.holds.seen)
            → drop (lead_of b h) (bytes_put b.client h) ≡ joined (told_in o.remote l (before_close o.remote l o.later))
        over (inl never) = absurd (let clash : None ≡ Some o = sym never.0.unopened ∙ is in cc)
        over (inr (inl unheard)) = absurd (unheard.not_by_peer by_peer)
        over (inr (inr i)) =
            subst (λ (p : Opening). drop (lead_of b h) (bytes_put b.client h)
            ≡ joined (told_in p.remote l (before_close p.remote l p.later)))
            (same i.opening i.opened) (closed i.opening i.bytes i.output_is (i.closed by_peer))

        by : (x : Option SeenStream) → LivesIn x l f.cradle (since b h) (is_shut b.link h) (heard f.holds.seen)
            → drop (lead_of b h) (bytes_put b.client h) ≡ joined (told_in o.remote l (before_close o.remote l o.later))
        by None i = over i.1
        by (Some x) i = alive x.orphan x.remote i

    pub handed_whole : handed_to l b h ≡ joined (told_before_close l b h)
    handed_whole = by (opening_of l b h) refl
      where
        by : (o : Option Opening) → opening_of l b h ≡ o
            → cond (is_some o) (drop (lead_of b h) (bytes_put b.client h)) [] ≡ joined (told_before l o)
        by None e = refl
        by (Some o) e = whole_of o e

-- Each client is handed what the device of its stream wrote, in order and once.
pub hands_told : (h : History) → IsLegal h → HandsTold h
hands_told h legal l b is = handed_is_told l b h (follows life_lasts h legal l b is)

-- And all of it, where the device closed and the client was handed all that became due to it.
pub hands_whole_told : (h : History) → IsLegal h → HandsWholeTold h
hands_whole_told h legal l b is by_peer all =
    let f = follows life_lasts h legal l b is in
    let seen = f.holds.shows.1 in
    handed_whole l b h f (sym (ap (λ (v : View). v.ending) seen) ∙ by_peer) (all ∙ ap (λ (v : View). v.output) seen)

-- Each stream that was born has its life.
pub has_lives : (h : History) → IsLegal h → HasLives h
has_lives h legal l b is = follows life_lasts h legal l b is
