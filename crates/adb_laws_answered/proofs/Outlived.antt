-- What a device wrote while its stream lived became due.
use Rattle.std.proofs.Common.{◌≡◌, ℕ, ◌<◌, ◌≤◌, zero, suc, Bool, true, false, cond, List, [], ◌∷◌, ◌++◌, length, drop, Option, Some, None}
use Rattle.std.proofs.Common.{is_some}
use Rattle.std.proofs.Common.{refl, sym, ap, subst, ◌∙◌, append_assoc, arith, inl, inr, ◌⊎◌}
use Rattle.std.proofs.lemmas.List.{append-nil, append_cancel_left, length-append}
use Rattle.std.specs.Prelude.{option_map}
use Rattle.adb_outside.specs.Bytes.{IsPrefixOf}
use Rattle.adb_outside.specs.Tables.{at}
use Rattle.adb_reply.specs.Strings.{okay}
use Rattle.adb_wire.specs.declared.packets.Packet.{Packet}
use Rattle.adb_stream.specs.declared.row.Stream.{Stream}
use Rattle.adb_capture.specs.declared.entry.Entry.{Entry}
use Rattle.adb_capture.specs.declared.entry.Entry.TheVariants.{Enter, Read}
use Rattle.adb_history.specs.Events.{owed_to, ending_in}
use Rattle.adb_history.specs.declared.ending.Ending.{Ending}
use Rattle.adb_history.specs.declared.ending.Ending.TheVariants.{ClientFailed}
use Rattle.adb_history.specs.Asking.{Asked}
use Rattle.adb_history.specs.Machine.{History, state, told, told_at, IsLegal}
use Rattle.adb_history.specs.Bytes.{brought}
use Rattle.adb_history.specs.Book.{asked, newly, forwards}
use Rattle.adb_history.specs.Births.{Birth, births_at, born, since, opening_in, told_to, told_after, joined}
use Rattle.adb_history.specs.Lives.{output_of, ending_of, lived}
use Rattle.adb_laws_births.specs.Ending.{EndsAs}
use Rattle.adb_laws_births.proofs.Born.{all_births}
use Rattle.adb_laws_births.proofs.Ending.{ending_append}
use Rattle.adb_laws_births.proofs.Endings.{all_endings}
use Rattle.adb_laws_fifo_down.specs.Line.{SeenStream, View, seen}
use Rattle.adb_laws_fifo_down.specs.Life.{Cradle, okay_after, lead, unopened_output, LivesAs, LivesIn, heard}
use Rattle.adb_laws_fifo_down.specs.Follows.{Follows, is_shut, replies_of}
use Rattle.adb_laws_fifo_down.specs.Followed.{LifeOf}
use Rattle.adb_laws_fifo_down.specs.Begins.{IsBornNow}
use Rattle.adb_laws_fifo_down.proofs.BornNow.{born_when, by_request, by_forward}
use Rattle.adb_laws_fifo_down.proofs.Followed.{asked_fixed}
use Rattle.adb_laws_fifo_down.proofs.Handed.{has_lives}
use Rattle.adb_laws_answered.proofs.BornLaws.{none_first}
use Rattle.adb_laws_answered.proofs.HeardMoves.{prefix_more}
use Rattle.adb_laws_answered.proofs.HeardLaws.{grows}
use Rattle.adb_laws_answered.proofs.ShownClients.{opened_not_closed}

-- what comes before the bytes of a stream
abbrev pub first_of : Birth → History → List ℕ
first_of b h = okay_after b.forwarded (replies_of b h)

pub lead_first : (l : ℕ) (b : Birth) (h : History) (f : Follows LifeOf h l b) → lead f.cradle ≡ first_of b h
lead_first l b h f = ap (λ (x : Bool). okay_after x f.cradle.replies) f.forwarded ∙ ap (okay_after b.forwarded) f.replies

-- nothing is told, or it is behind what comes first
abbrev pub IsDueBehind : (first told output : List ℕ) → Type 0
IsDueBehind first told output = (told ≡ []) ⊎ IsPrefixOf (first ++ told) output

-- ---- a stream that lives
module _ (h : History) (legal : IsLegal h) (l : ℕ) (b : Birth) (is : born l h ≡ Some b) (lives : ending_of l h ≡ None) where
  f : Follows LifeOf h l b
  f = has_lives h legal l b is

  alive : (orphan : Bool) (remote : ℕ) → EndsAs orphan (ending_of l h) → LivesAs orphan remote l f.cradle (since b h) (heard f.holds.seen)
      → IsDueBehind (first_of b h) (joined (told_to l b h)) (output_of b.client h)
  alive true remote ended i = absurd (let clash : Some (ClientFailed ended.0) ≡ None = sym ended.1 ∙ lives in cc)
  alive false zero none i =
      inl (ap (λ o. joined (told_after l o)) (ap (opening_in l) (sym (append-nil (since b h))) ∙ i.pending []))
  alive false (suc r) none i =
      let told_is : joined (told_to l b h) ≡ joined (told_after l (Some i.opening)) = ap (λ o. joined (told_after l o)) i.opened in
      let output_is : output_of b.client h ≡ first_of b h ++ joined (told_to l b h) =
      ap (λ (x : View). x.output) f.holds.shows.1
      ∙ (i.output ∙ (ap (λ (x : List ℕ). x ++ joined (told_after l (Some i.opening))) (lead_first l b h f)
      ∙ ap (λ (x : List ℕ). first_of b h ++ x) (sym told_is))) in
      inr ([], append-nil (first_of b h ++ joined (told_to l b h)) ∙ sym output_is)

  due_alive : IsDueBehind (first_of b h) (joined (told_to l b h)) (output_of b.client h)
  due_alive = by ((state h).streams l) refl
      (subst (λ (o : Option SeenStream). LivesIn o l f.cradle (since b h) (is_shut b.link h) (heard f.holds.seen))
      (sym (ap (λ (x : View). x.stream) f.holds.shows.1)) f.holds.keeps.lives)
    where
      id : (n : ℕ) → born n h ≡ Some b → 0 < n
      id zero e = absurd (let clash : None ≡ Some b = e in cc)
      id (suc n) e = omega arith

      by : (row : Option Stream) → (state h).streams l ≡ row
          → LivesIn (option_map seen row) l f.cradle (since b h) (is_shut b.link h) (heard f.holds.seen)
          → IsDueBehind (first_of b h) (joined (told_to l b h)) (output_of b.client h)
      by None gone i =
          let clash : false ≡ true = sym (ap is_some lives) ∙ (all_endings h legal l).gone gone (id l is)
          f.holds.shows.0.born in absurd (cc)
      by (Some stream) kept i = alive stream.part.orphan stream.part.remote ((all_endings h legal l).kept stream kept) i

-- ---- it goes on
module _ (e : Entry) (older : History) (legal : IsLegal older) (l : ℕ) (b : Birth) (was : born l older ≡ Some b) where
  same_first : first_of b older ≡ first_of b (e ∷ older)
  same_first = ap (okay_after b.forwarded) (by b.forwarded refl)
    where
      f : Follows LifeOf older l b
      f = has_lives older legal l b was

      by : (forwarded : Bool) → b.forwarded ≡ forwarded
          → cond forwarded [] (asked b.client older).replies ≡ cond forwarded [] (asked b.client (e ∷ older)).replies
      by true own = refl
      by false own = sym (ap (λ (q : Asked). q.replies) (asked_fixed e older b.client (f.asks_no_more own)))

  due_on : (told : List ℕ) → IsDueBehind (first_of b older) told (output_of b.client older)
      → IsDueBehind (first_of b (e ∷ older)) told (output_of b.client (e ∷ older))
  due_on told (inl none) = inl none
  due_on told (inr front) =
      inr (subst (λ (x : List ℕ). IsPrefixOf (x ++ told) (output_of b.client (e ∷ older))) same_first
      (subst (IsPrefixOf (first_of b older ++ told)) (sym (grows b.client e older))
      (prefix_more (first_of b older ++ told) (output_of b.client older) (owed_to b.client (told_at e older)) front)))

-- ---- it is born
drop_all : (xs : List Packet) → drop (length xs) xs ≡ []
drop_all [] = refl
drop_all (x ∷ xs) = drop_all xs

-- at its birth its link has brought nothing of it
born_behind : (l : ℕ) (b : Birth) (e : Entry) (older : History) → births_at e older ≡ b ∷ []
    → b.packets_before ≡ length (brought b.link older)
born_behind l b (Read c bytes) older is =
    let by = by_request c (asked c (Read c bytes ∷ older)).used older
    (newly (asked c older).next (asked c (Read c bytes ∷ older)).next) b is in
    ap (λ (x : Birth). x.packets_before) by.birth ∙ ap (λ (t : ℕ). length (brought t older)) (sym (ap (λ (x : Birth). x.link) by.birth))
born_behind l b (Enter c port) older is =
    let by = by_forward c older (at port (forwards older)) b is in
    ap (λ (x : Birth). x.packets_before) by.birth ∙ ap (λ (t : ℕ). length (brought t older)) (sym (ap (λ (x : Birth). x.link) by.birth))
born_behind l b _ older is = absurd (let clash : [] ≡ b ∷ [] = is in cc)

nothing_told : (l : ℕ) (b : Birth) (e : Entry) (older : History) → IsBornNow l b e older → joined (told_to l b older) ≡ []
nothing_told l b e older now =
    ap (λ (packets : List Packet). joined (told_after l (opening_in l packets)))
    (ap (λ (n : ℕ). drop n (brought b.link older)) (born_behind l b e older now.is) ∙ drop_all (brought b.link older))

unended : (l : ℕ) (b : Birth) (e : Entry) (older : History) → IsLegal older → IsBornNow l b e older → ending_of l older ≡ None
unended l b e older legal now =
    (all_endings older legal l).undrawn (inr (omega (arith, (all_births older legal).drawn, now.number, now.within)))

-- What a device wrote while its stream lived became due behind what comes first.
pub was_due : (h : History) → IsLegal h → (l : ℕ) (b : Birth) → born l h ≡ Some b
    → IsDueBehind (first_of b h) (joined (told_to l b (lived l h))) (output_of b.client h)
was_due [] legal l b is = absurd (none_first b.client l b is refl)
was_due (e ∷ older) legal l b is = go (ending_of l older) refl (ending_in l (told_at e older)) refl (born_when l b e older is)
    (λ was. was_due older legal.0 l b was)
  where
    go : (before : Option Ending) → ending_of l older ≡ before → (now : Option Ending) → ending_in l (told_at e older) ≡ now
        → (born l older ≡ Some b) ⊎ IsBornNow l b e older
        → (born l older ≡ Some b → IsDueBehind (first_of b older) (joined (told_to l b (lived l older))) (output_of b.client older))
        → IsDueBehind (first_of b (e ∷ older)) (joined (told_to l b (cond (is_some (ending_of l older)) (lived l older)
        (cond (is_some (ending_in l (told_at e older))) older (e ∷ older))))) (output_of b.client (e ∷ older))
    go (Some x) ended now at_now (inr new) rest = absurd (let clash : None ≡ Some x = sym (unended l b e older legal.0 new) ∙ ended in cc)
    go (Some x) ended now at_now (inl was) rest =
        rw ended (due_on e older legal.0 l b was (joined (told_to l b (lived l older))) (rest was))
    go None none (Some y) ended (inl was) rest =
        rw none (rw ended (due_on e older legal.0 l b was (joined (told_to l b older)) (due_alive older legal.0 l b was none)))
    go None none (Some y) ended (inr new) rest = rw none (rw ended (inl (nothing_told l b e older new)))
    go None none None still born_so rest = rw none (rw still (due_alive (e ∷ older) legal l b is lives))
      where
        lives : ending_of l (e ∷ older) ≡ None
        lives = ending_append l (told older) (told_at e older) ∙ (rw none still)

-- ---- what that is for what became due
-- where nothing came behind the replies, nothing had been written
pub none_alive : (k : Cradle) (told output : List ℕ) → IsDueBehind (lead k) told output
    → (output ≡ k.replies) ⊎ (output ≡ unopened_output k.forwarded k.replies) → told ≡ []
none_alive k told output (inl none) which = none
none_alive k told output (inr (rest, is)) which = by k.forwarded refl which
  where
    empty : (xs : List ℕ) → length xs ≤ 0 → xs ≡ []
    empty [] le = refl
    empty (x ∷ xs) le = absurd (omega (arith, le))

    by : (forwarded : Bool) → k.forwarded ≡ forwarded → (output ≡ k.replies) ⊎ (output ≡ unopened_output k.forwarded k.replies) → told ≡ []
    by true e which =
        let front : (k.replies ++ told) ++ rest ≡ output = ap (λ (x : Bool). (okay_after x k.replies ++ told) ++ rest) (sym e) ∙ is in
        empty told (short front which)
      where
        short : (k.replies ++ told) ++ rest ≡ output → (output ≡ k.replies)
            ⊎ (output ≡ unopened_output k.forwarded k.replies) → length told ≤ 0
        short front (inl out) =
            omega (arith, ap length (front ∙ out), length-append (k.replies ++ told) rest, length-append k.replies told)
        short front (inr out) =
            omega (
              arith,
              ap length (front ∙ (out ∙ ap (λ (x : Bool). unopened_output x k.replies) e)),
              length-append (k.replies ++ told) rest,
              length-append k.replies told,
            )
    by false e (inl out) =
        let front : (k.replies ++ (okay ++ told)) ++ rest ≡ output =
        ap (λ (x : List ℕ). x ++ rest) (sym (append_assoc k.replies okay told))
        ∙ (ap (λ (x : Bool). (okay_after x k.replies ++ told) ++ rest) (sym e) ∙ is) in
        absurd (opened_not_closed k.replies told rest false (front ∙ (out ∙ sym (append-nil k.replies))))
    by false e (inr out) =
        let front : (k.replies ++ (okay ++ told)) ++ rest ≡ output =
        ap (λ (x : List ℕ). x ++ rest) (sym (append_assoc k.replies okay told))
        ∙ (ap (λ (x : Bool). (okay_after x k.replies ++ told) ++ rest) (sym e) ∙ is) in
        absurd (opened_not_closed k.replies told rest true (front ∙ (out ∙ ap (λ (x : Bool). unopened_output x k.replies) e)))

pub past_alive : (k : Cradle) (told output bytes : List ℕ) → IsDueBehind (lead k) told output
    → output ≡ lead k ++ bytes → IsPrefixOf told bytes
past_alive k told output bytes (inl none) is = (bytes, ap (λ (x : List ℕ). x ++ bytes) none)
past_alive k told output bytes (inr (rest, front)) is =
    (rest, append_cancel_left (lead k) (told ++ rest) bytes (sym (append_assoc (lead k) told rest) ∙ (front ∙ is)))
