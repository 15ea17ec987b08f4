-- A byte that was handed was written.
use Rattle.std.proofs.Common.{◌≡◌, ℕ, ◌+◌, zero, suc, Bool, true, false, cond, List, [], ◌∷◌, ◌++◌, length, drop, Option, Some, None, refl}
use Rattle.std.proofs.Common.{sym, ap, subst}
use Rattle.std.proofs.Common.{◌∙◌, ◌⊎◌, inl, inr, arith, eqb}
use Rattle.std.specs.Prelude.{◌&&◌, not, ◌==◌, nat_eq, slice_get}
use Rattle.std.proofs.lemmas.Bool.{eqb-true}
use Rattle.std.proofs.lemmas.List.{length-append}
use Rattle.adb_outside.specs.Bytes.{IsPrefixOf}
use Rattle.adb_wire.specs.declared.command.Command.{Command}
use Rattle.adb_wire.specs.declared.command.Command.TheVariants.{Cnxn, Okay, Wrte, Clse}
use Rattle.adb_wire.specs.declared.packets.Packet.{Packet}
use Rattle.adb_history.specs.Links.{credit_word}
use Rattle.adb_history.specs.Machine.{History}
use Rattle.adb_history.specs.Bytes.{brought}
use Rattle.adb_history.specs.Births.{Birth, since, Opening, opening_by, opening_in, opening_of, is_between, is_wrte, remote_in}
use Rattle.adb_history.specs.Births.{told_in, told_to, told_after, joined, handed_to}
use Rattle.adb_history.specs.Fifo.{HandsTold}
use Rattle.adb_headline.specs.Written.{IsWritten, HandsWritten}

-- ---- elements of lists
get_front : {X : Type 0} (xs ys : List X) (k : ℕ) (x : X) → slice_get xs k ≡ Some x → slice_get (xs ++ ys) k ≡ Some x
get_front {X} [] ys k x is = absurd (let clash : None ≡ Some x = is in cc)
get_front {X} (y ∷ xs) ys zero x is = is
get_front {X} (y ∷ xs) ys (suc k) x is = get_front xs ys k x is

get_behind : {X : Type 0} (xs ys : List X) (k n : ℕ) → length xs + k ≡ n → slice_get (xs ++ ys) n ≡ slice_get ys k
get_behind {X} [] ys k n is = ap (slice_get ys) (omega (arith, is))
get_behind {X} (x ∷ xs) ys k zero is = absurd (omega (arith, is))
get_behind {X} (x ∷ xs) ys k (suc n) is = get_behind xs ys k n (omega (arith, is))

-- what is behind a place stands at the place that is so much later
get_dropped : {X : Type 0} (n k m : ℕ) (xs : List X) (x : X) → n + k ≡ m → slice_get (drop n xs) k ≡ Some x → slice_get xs m ≡ Some x
get_dropped {X} zero k m xs x so is = ap (slice_get xs) (omega (arith, so)) ∙ is
get_dropped {X} (suc n) k m [] x so is = absurd (let clash : None ≡ Some x = is in cc)
get_dropped {X} (suc n) k zero (y ∷ xs) x so is = absurd (omega (arith, so))
get_dropped {X} (suc n) k (suc m) (y ∷ xs) x so is = get_dropped n k m xs x (omega (arith, so)) is

record IsIn (front behind : List ℕ) (k x : ℕ) : Type 0 where
  pub place : ℕ
  pub is : slice_get behind place ≡ Some x
  pub order : length front + place ≡ k

get_either : (xs ys : List ℕ) (k x : ℕ) → slice_get (xs ++ ys) k ≡ Some x → (slice_get xs k ≡ Some x) ⊎ IsIn xs ys k x
get_either [] ys k x is = inr (record { place = k; is = is; order = omega arith })
get_either (y ∷ xs) ys zero x is = inl is
get_either (y ∷ xs) ys (suc k) x is = go (get_either xs ys k x is)
  where
    go : (slice_get xs k ≡ Some x) ⊎ IsIn xs ys k x → (slice_get (y ∷ xs) (suc k) ≡ Some x) ⊎ IsIn (y ∷ xs) ys (suc k) x
    go (inl here) = inl here
    go (inr later) = inr (record { place = later.place; is = later.is; order = omega (arith, later.order) })

-- ---- a byte among the writes of some packets
record WrittenIn (remote l : ℕ) (ps : List Packet) (many byte : ℕ) : Type 0 where
  pub number : ℕ
  pub write : Packet
  pub came : slice_get ps number ≡ Some write
  pub command : write.command ≡ Wrte
  pub from : write.arg0 ≡ remote
  pub to : write.arg1 ≡ l
  pub before : List (List ℕ)
  pub behind : List (List ℕ)
  pub told : told_in remote l ps ≡ before ++ write.payload ∷ behind
  pub place : ℕ
  pub here : slice_get write.payload place ≡ Some byte
  pub order : length (joined before) + place ≡ many

wrte_is : (command : Command) → is_wrte command ≡ true → command ≡ Wrte
wrte_is Wrte e = refl
wrte_is _ e = absurd (let clash : false ≡ true = e in cc)

both : (a b : Bool) → (a && b) ≡ true → (a ≡ true) × (b ≡ true)
both true b e = (refl, e)
both false b e = absurd (let clash : false ≡ true = e in cc)

module _ (remote l : ℕ) (p : Packet) (ps : List Packet) where
  passed : (many byte : ℕ) → (is_wrte p.command && is_between remote l p) ≡ false → WrittenIn remote l ps many byte
      → WrittenIn remote l (p ∷ ps) many byte
  passed many byte off w = record {
    number = suc w.number;
    write = w.write;
    came = w.came;
    command = w.command;
    from = w.from;
    to = w.to;
    before = w.before;
    behind = w.behind;
    told = ap (λ (x : Bool). cond x (p.payload ∷ told_in remote l ps) (told_in remote l ps)) off ∙ w.told;
    place = w.place;
    here = w.here;
    order = w.order;
  }

  module _ (on : (is_wrte p.command && is_between remote l p) ≡ true) (many byte : ℕ) where
    told_first : told_in remote l (p ∷ ps) ≡ p.payload ∷ told_in remote l ps
    told_first = ap (λ (x : Bool). cond x (p.payload ∷ told_in remote l ps) (told_in remote l ps)) on

    behind_it : (place : ℕ) → length p.payload + place ≡ many → WrittenIn remote l ps place byte → WrittenIn remote l (p ∷ ps) many byte
    behind_it place order w = record {
      number = suc w.number;
      write = w.write;
      came = w.came;
      command = w.command;
      from = w.from;
      to = w.to;
      before = p.payload ∷ w.before;
      behind = w.behind;
      told = told_first ∙ ap (λ (x : List (List ℕ)). p.payload ∷ x) w.told;
      place = w.place;
      here = w.here;
      order = omega (arith, w.order, order, length-append p.payload (joined w.before));
    }

    in_it : slice_get p.payload many ≡ Some byte → WrittenIn remote l (p ∷ ps) many byte
    in_it here =
        let parts = both (is_wrte p.command) (is_between remote l p) on in
        let ids = both (eqb p.arg0 remote) (eqb p.arg1 l) parts.1 in
        record {
          number = 0;
          write = p;
          came = refl;
          command = wrte_is p.command parts.0;
          from = eqb-true p.arg0 remote ids.0;
          to = eqb-true p.arg1 l ids.1;
          before = [];
          behind = told_in remote l ps;
          told = told_first;
          place = many;
          here = here;
          order = omega arith;
        }

-- the byte of each number
abbrev AllWrittenIn : (remote l : ℕ) → List Packet → Type 0
AllWrittenIn remote l ps = (many byte : ℕ) → slice_get (joined (told_in remote l ps)) many ≡ Some byte → WrittenIn remote l ps many byte

written_in : (remote l : ℕ) (ps : List Packet) → AllWrittenIn remote l ps
written_in remote l [] many byte is = absurd (let clash : None ≡ Some byte = is in cc)
written_in remote l (p ∷ ps) many byte is = go (is_wrte p.command && is_between remote l p) refl is (written_in remote l ps)
  where
    go : (own : Bool) → (is_wrte p.command && is_between remote l p) ≡ own
        → slice_get (joined (cond own (p.payload ∷ told_in remote l ps) (told_in remote l ps))) many ≡ Some byte
        → AllWrittenIn remote l ps → WrittenIn remote l (p ∷ ps) many byte
    go false off at later = passed remote l p ps many byte off (later many byte at)
    go true on at later = split (get_either p.payload (joined (told_in remote l ps)) many byte at)
      where
        split : (slice_get p.payload many ≡ Some byte) ⊎ IsIn p.payload (joined (told_in remote l ps)) many byte
            → WrittenIn remote l (p ∷ ps) many byte
        split (inl here) = in_it remote l p ps on many byte here
        split (inr x) = behind_it remote l p ps on many byte x.place x.order (later x.place byte x.is)

-- ---- what follows an opening
-- The packets behind the opening are the last ones.
opening_last : (l : ℕ) (ps : List Packet) (o : Opening) → opening_in l ps ≡ Some o → (front : List Packet) × (front ++ o.later ≡ ps)
opening_last l [] o is = absurd (let clash : None ≡ Some o = is in cc)
opening_last l (p ∷ ps) o is = by p.command is (opening_last l ps o)
  where
    Last : Type 0
    Last = (front : List Packet) × (front ++ o.later ≡ p ∷ ps)

    Later : Type 0
    Later = opening_in l ps ≡ Some o → (front : List Packet) × (front ++ o.later ≡ ps)

    past : Later → opening_in l ps ≡ Some o → Last
    past later e = let x = later e in (p ∷ x.0, ap (λ (y : List Packet). p ∷ y) x.1)

    okay : (b : Bool) → cond b (Some (record { remote = p.arg0; word = credit_word p.payload; later = ps }))
        (opening_in l ps) ≡ Some o → Later → Last
    okay true e later =
        let same : record { remote = p.arg0; word = credit_word p.payload; later = ps } ≡ o = cc in
        (p ∷ [], ap (λ (x : Opening). p ∷ x.later) (sym same))
    okay false e later = past later e

    closed : (b : Bool) → cond b None (opening_in l ps) ≡ Some o → Later → Last
    closed true e later = absurd (let clash : None ≡ Some o = e in cc)
    closed false e later = past later e

    by : (command : Command) → opening_by command l p ps (opening_in l ps) ≡ Some o → Later → Last
    by Okay e later = okay (nat_eq p.arg1 l && not (p.arg0 == 0)) e later
    by Clse e later = closed (is_between 0 l p) e later
    by Cnxn e later = absurd (let clash : None ≡ Some o = e in cc)
    by _ e later = past later e

-- ---- what a client was handed
module _ (h : History) (l : ℕ) (b : Birth) (many byte : ℕ) where
  written_since : (o : Opening) → opening_of l b h ≡ Some o → WrittenIn o.remote l o.later many byte → IsWritten h l b many byte
  written_since o is w =
      let last = opening_last l (since b h) o is in
      let behind = length last.0 + w.number in
      let among : slice_get (since b h) behind ≡ Some w.write =
      ap (λ (ps : List Packet). slice_get ps behind) (sym last.1) ∙ (get_behind last.0 o.later w.number behind refl ∙ w.came) in
      record {
        number = b.packets_before + behind;
        write = w.write;
        is = record {
          came = get_dropped b.packets_before behind (b.packets_before + behind) (brought b.link h) w.write refl among;
          after = omega arith;
          command = w.command;
          from = w.from ∙ ap remote_in (sym is);
          to = w.to;
        };
        before = w.before;
        behind = w.behind;
        told = ap (told_after l) is ∙ w.told;
        place = w.place;
        here = w.here;
        order = w.order;
      }

  told_is_written : slice_get (joined (told_to l b h)) many ≡ Some byte → IsWritten h l b many byte
  told_is_written = go (opening_of l b h) refl
    where
      go : (o : Option Opening) → opening_of l b h ≡ o → slice_get (joined (told_after l o)) many ≡ Some byte → IsWritten h l b many byte
      go None is at = absurd (let clash : None ≡ Some byte = at in cc)
      go (Some o) is at = written_since o is (written_in o.remote l o.later many byte at)

  handed_is_written : IsPrefixOf (handed_to l b h) (joined (told_to l b h))
      → slice_get (handed_to l b h) many ≡ Some byte → IsWritten h l b many byte
  handed_is_written front at = told_is_written
      (subst (λ (x : List ℕ). slice_get x many ≡ Some byte) front.1 (get_front (handed_to l b h) front.0 many byte at))

pub hands_written : (h : History) → HandsTold h → HandsWritten h
hands_written h told l b is many byte at = handed_is_written h l b many byte (told l b is) at
