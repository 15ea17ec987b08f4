-- A stream whose client neither ended nor stopped the server ends by its device or its link alone; and what was read
-- of the client while it lived.
use Rattle.std.proofs.Common.{◌≡◌, ℕ, zero, suc, Bool, true, false, cond, not, ◌&&◌, ◌||◌, List, [], ◌∷◌, ◌++◌, drop}
use Rattle.std.proofs.Common.{Some, None, is_some, refl, sym, ap, subst, ◌∙◌, arith, append_assoc, ◌⊎◌, inl, inr}
use Rattle.std.specs.Prelude.{nat_eq}
use Rattle.std.proofs.lemmas.Bool.{eq-eqb}
use Rattle.std.proofs.lemmas.List.{append-nil}
use Rattle.adb_outside.specs.Bytes.{IsPrefixOf}
use Rattle.adb_capture.specs.declared.entry.Entry.{Entry}
use Rattle.adb_capture.specs.declared.entry.Entry.TheVariants.{Join, Enter, Read, End, Bound, Attach, Recv, Detach, Put, Send}
use Rattle.adb_history.specs.Births.{Birth, born}
use Rattle.adb_history.specs.Book.{is_killed}
use Rattle.adb_history.specs.Bytes.{bytes_read, has_ended, has_failed, is_orderly}
use Rattle.adb_history.specs.Causes.{has_closed_since, is_close_by}
use Rattle.adb_history.specs.Events.{ending_in}
use Rattle.adb_history.specs.declared.ending.Ending.{Ending}
use Rattle.adb_history.specs.declared.ending.Ending.TheVariants.{ClientClosed, PeerClosed, OutOfTurn, Lost, Broken, ClientFailed, Stopped}
use Rattle.adb_history.specs.Lives.{ending_of, lived}
use Rattle.adb_history.specs.Machine.{rule, History, state, told, told_at, IsLegal}
use Rattle.adb_history.proofs.Books.{all_books}
use Rattle.adb_laws_births.specs.Births.{born_stays}
use Rattle.adb_laws_births.proofs.Born.{all_births}
use Rattle.adb_laws_births.proofs.Endings.{all_endings}
use Rattle.adb_laws_causes.proofs.ClosedByClient.{all_by_client}
use Rattle.adb_laws_causes.proofs.Endings.{EndsAt, ends_at, stopped_after}
use Rattle.adb_laws_causes.proofs.Lives.{WhyStep}
use Rattle.adb_laws_causes.proofs.Holding.{all_hold}
use Rattle.adb_laws_causes.proofs.PacketFates.{OfLink}
use Rattle.adb_laws_fifo_down.specs.Begins.{IsBornNow}
use Rattle.adb_laws_fifo_down.proofs.BornNow.{born_when}
use Rattle.adb_laws_fifo_up.proofs.Seeing.{ending_split}

-- ---- what was so before
or_before : (a b : Bool) → (a || b) ≡ false → b ≡ false
or_before true b e = absurd (let clash : true ≡ false = e in cc)
or_before false b e = e

ended_before : (c : ℕ) (e : Entry) (older : History) → has_ended c (e ∷ older) ≡ false → has_ended c older ≡ false
ended_before c (End n cause) older none = or_before (nat_eq n c) (has_ended c older) none
ended_before c _ older none = none

killed_before : (e : Entry) (older : History) → IsLegal (e ∷ older) → is_killed (e ∷ older) ≡ false → is_killed older ≡ false
killed_before (Put c bytes) older legal none = none
killed_before (Send t bytes) older legal none = none
killed_before _ older legal none = sym (all_books older legal.0).killed ∙ legal.2.0

-- a connection that failed has ended
pub unfailed : (c : ℕ) (h : History) → has_ended c h ≡ false → has_failed c h ≡ false
unfailed c [] none = refl
unfailed c (End n cause ∷ older) none = go (nat_eq n c) (not (is_orderly cause)) (has_ended c older) none (unfailed c older)
  where
    go : (a b f : Bool) → (a || f) ≡ false → (f ≡ false → has_failed c older ≡ false) → ((a && b) || has_failed c older) ≡ false
    go true b f e later = absurd (let clash : true ≡ false = e in cc)
    go false b f e later = later e
unfailed c (_ ∷ older) none = unfailed c older none

-- a client that did not end did not close
no_close : (c : ℕ) (e : Entry) (older : History) → has_ended c (e ∷ older) ≡ false → is_close_by c e ≡ false
no_close c (End n cause) older none = go (nat_eq n c) (has_ended c older) none
  where
    go : (a f : Bool) → (a || f) ≡ false → (a && is_orderly cause) ≡ false
    go true f e = absurd (let clash : true ≡ false = e in cc)
    go false f e = refl
no_close c _ older none = refl

unclosed : (l c : ℕ) (h : History) → has_ended c h ≡ false → has_closed_since l c h ≡ false
unclosed l c [] none = refl
unclosed l c (e ∷ older) none =
    go (is_some (born l older)) (is_close_by c e) (no_close c e older none) (unclosed l c older (ended_before c e older none))
  where
    go : (a b : Bool) → b ≡ false → has_closed_since l c older ≡ false → ((a && b) || has_closed_since l c older) ≡ false
    go true true e f = absurd (let clash : true ≡ false = e in cc)
    go false true e f = f
    go true false e f = f
    go false false e f = f

-- ---- endings
-- one by its device or its link
abbrev pub IsByLink : Ending → Type 0
IsByLink PeerClosed = Unit {0}
IsByLink OutOfTurn = Unit {0}
IsByLink Lost = Unit {0}
IsByLink Broken = Unit {0}
IsByLink ClientClosed = ⊥
IsByLink (ClientFailed cause) = ⊥
IsByLink Stopped = ⊥

-- the entry by which it ends
module _ (l : ℕ) (b : Birth) (e : Entry) (older : History) (legal : IsLegal (e ∷ older)) (birth : born l (e ∷ older) ≡ Some b)
    (here : has_ended b.client (e ∷ older) ≡ false) (killed : is_killed (e ∷ older) ≡ false) (y : Ending)
    (told_so : ending_in l (told_at e older) ≡ Some y) where
  x : EndsAt l e older y
  x = ends_at l e older y legal told_so

  same : x.kept.birth ≡ b
  same = (let both : Some x.kept.birth ≡ Some b = sym (born_stays l e older x.kept.birth x.kept.is) ∙ birth in cc)

  its_client : x.row.client ≡ b.client
  its_client = x.kept.client ∙ ap (λ (a : Birth). a.client) same

  -- not by its client's close
  not_closed : y ≡ ClientClosed → ⊥
  not_closed is =
      let f = all_by_client all_hold (e ∷ older) legal l e older ([], refl) (told_so ∙ ap Some is) in
      let one : f.birth ≡ b = (let both : Some f.birth ≡ Some b = sym (born_stays l e older f.birth f.is) ∙ birth in cc) in
      let closed : has_closed_since l b.client (e ∷ older) ≡ true =
      ap (λ (a : Birth). has_closed_since l a.client (e ∷ older)) (sym one) ∙ f.cause.closed in
      let clash : true ≡ false = sym closed ∙ unclosed l b.client (e ∷ older) here in
      cc

  -- nor by a kill
  not_stopped : (rule e (state older)).state.stopped ≡ true → ⊥
  not_stopped is =
      let clash : true ≡ false = sym is ∙ (sym (stopped_after e older) ∙ ((all_books (e ∷ older) legal).killed ∙ killed)) in
      cc

  pub by_link : IsByLink y
  by_link = go y refl e here x.why
    where
      go : (z : Ending) → y ≡ z → (e' : Entry) → has_ended b.client (e' ∷ older) ≡ false
          → WhyStep e' ((rule e (state older)).state.stopped ≡ true) x.row.client x.row.link y → IsByLink z
      go PeerClosed is e' none why = tt
      go OutOfTurn is e' none why = tt
      go Lost is e' none why = tt
      go Broken is e' none why = tt
      go ClientClosed is e' none why = absurd (not_closed is)
      go z is e' none (inr closed) = absurd (not_closed closed)
      go Stopped is (Read n bytes) none (inl why) = absurd (not_stopped why.1)
      go (ClientFailed cause) is (Read n bytes) none (inl why) = absurd (not_stopped why.1)
      go (ClientFailed cause) is (End n k) none (inl why) =
          absurd (let clash : true ≡ false =
          sym (ap (λ (t : Bool). t || has_ended b.client older) (eq-eqb n b.client (sym why.1 ∙ its_client))) ∙ none in cc)
      go Stopped is (End n k) none (inl why) = absurd (let clash : Stopped ≡ ClientFailed k = sym is ∙ why.0 in cc)
      go (ClientFailed cause) is (Recv t bytes) none (inl why) =
          absurd (subst (λ (z : Ending). OfLink t x.row.client x.row.link z) is why)
      go Stopped is (Recv t bytes) none (inl why) =
          absurd (subst (λ (z : Ending). OfLink t x.row.client x.row.link z) is why)
      go (ClientFailed cause) is (Detach t k) none (inl why) = absurd (let clash : ClientFailed cause ≡ Lost = sym is ∙ why.0 in cc)
      go Stopped is (Detach t k) none (inl why) = absurd (let clash : Stopped ≡ Lost = sym is ∙ why.0 in cc)
      go z is (Join n) none (inl why) = absurd why
      go z is (Enter n port) none (inl why) = absurd why
      go z is (Bound n port) none (inl why) = absurd why
      go z is (Attach t kind serial) none (inl why) = absurd why
      go z is (Put n bytes) none (inl why) = absurd why
      go z is (Send t bytes) none (inl why) = absurd why

pub ends_by_link : (h : History) → IsLegal h → (l : ℕ) (b : Birth) → born l h ≡ Some b → has_ended b.client h ≡ false → is_killed h ≡ false
    → (y : Ending) → ending_of l h ≡ Some y → IsByLink y
ends_by_link [] legal l b birth here killed y ended = absurd (let clash : None ≡ Some y = ended in cc)
ends_by_link (e ∷ older) legal l b birth here killed y ended =
    go (ending_split l (told older) (told_at e older) y ended)
    (λ was over. ends_by_link older legal.0 l b was (ended_before b.client e older here) (killed_before e older legal killed) y over)
  where
    was_born : ending_of l older ≡ Some y → born l older ≡ Some b
    was_born over = by (born_when l b e older birth)
      where
        by : (born l older ≡ Some b) ⊎ IsBornNow l b e older → born l older ≡ Some b
        by (inl was) = was
        by (inr now) =
            let drawn = (all_births older legal.0).drawn in
            let number = now.number in
            let none : ending_of l older ≡ None = (all_endings older legal.0 l).undrawn (inr (omega (arith, drawn, number))) in
            absurd (let clash : None ≡ Some y = sym none ∙ over in cc)

    go : (ending_of l older ≡ Some y) ⊎ (ending_in l (told_at e older) ≡ Some y)
        → (born l older ≡ Some b → ending_of l older ≡ Some y → IsByLink y) → IsByLink y
    go (inl over) before = before (was_born over) over
    go (inr now) before = by_link l b e older legal birth here killed y now

-- ---- while it lived
front_of_front : (a b c : List ℕ) → IsPrefixOf a b → IsPrefixOf b c → IsPrefixOf a c
front_of_front a b c (x, is) (y, too) = (x ++ y, sym (append_assoc a x y) ∙ (ap (λ (z : List ℕ). z ++ y) is ∙ too))

read_more : (c : ℕ) (e : Entry) (older : History) → IsPrefixOf (bytes_read c older) (bytes_read c (e ∷ older))
read_more c (Read n bytes) older = go (nat_eq n c)
  where
    go : (b : Bool) → IsPrefixOf (bytes_read c older) (cond b (bytes_read c older ++ bytes) (bytes_read c older))
    go true = (bytes, refl)
    go false = ([], append-nil (bytes_read c older))
read_more c _ older = ([], append-nil (bytes_read c older))

lived_front : (l c : ℕ) (h : History) → IsPrefixOf (bytes_read c (lived l h)) (bytes_read c h)
lived_front l c [] = ([], refl)
lived_front l c (e ∷ older) =
    go (is_some (ending_of l older)) (is_some (ending_in l (told_at e older)))
    (front_of_front (bytes_read c (lived l older)) (bytes_read c older) (bytes_read c (e ∷ older))
    (lived_front l c older) (read_more c e older))
  where
    go : (a b : Bool) → IsPrefixOf (bytes_read c (lived l older)) (bytes_read c (e ∷ older))
        → IsPrefixOf (bytes_read c (cond a (lived l older) (cond b older (e ∷ older)))) (bytes_read c (e ∷ older))
    go true b f = f
    go false true f = read_more c e older
    go false false f = ([], append-nil (bytes_read c (e ∷ older)))

pub drop_front : (n : ℕ) (a b : List ℕ) → IsPrefixOf a b → IsPrefixOf (drop n a) (drop n b)
drop_front n a b (rest, is) = subst (λ (x : List ℕ). IsPrefixOf (drop n a) (drop n x)) is (go n a)
  where
    go : (n : ℕ) (a : List ℕ) → IsPrefixOf (drop n a) (drop n (a ++ rest))
    go zero a = (rest, refl)
    go (suc n) [] = (drop (suc n) rest, refl)
    go (suc n) (x ∷ a) = go n a

-- what was read past its requests while it lived is a front of all that was
pub rest_front : (l : ℕ) (b : Birth) (h : History) → IsPrefixOf (drop b.head (bytes_read b.client (lived l h)))
    (drop b.head (bytes_read b.client h))
rest_front l b h = drop_front b.head (bytes_read b.client (lived l h)) (bytes_read b.client h) (lived_front l b.client h)
