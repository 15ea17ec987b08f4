-- A client has one stream at most: it is asked no more after it asked for one, and one that came through a forward asks for none.
use Rattle.std.proofs.Common.{◌≡◌, ◌≢◌, ℕ, ◌+◌, ◌≤◌, zero, suc, Bool, true, false, cond, List, [], ◌∷◌, ◌++◌, length, Option, Some, None}
use Rattle.std.proofs.Common.{refl}
use Rattle.std.proofs.Common.{sym, ap, subst, ◌∙◌, ◌⊎◌, inl, inr, eqb, arith}
use Rattle.std.specs.Prelude.{◌&&◌, ◌||◌, not, is_some, is_none, nat_lt, slice_get}
use Rattle.std.proofs.lemmas.Bool.{eqb-true, eq-eqb, ne_eqb}
use Rattle.std.proofs.lemmas.List.{append-nil}
use Rattle.adb_outside.specs.Tables.{at}
use Rattle.adb_registry.specs.Registry.{DeviceTable}
use Rattle.adb_forward.specs.declared.row.ForwardRow.{ForwardRow}
use Rattle.adb_client.specs.declared.about.Want.{Want}
use Rattle.adb_reply.specs.declared.answer.Next.{Next}
use Rattle.adb_reply.specs.declared.answer.Next.TheVariants as what
use Rattle.adb_capture.specs.declared.entry.Entry.{Entry}
use Rattle.adb_capture.specs.declared.entry.Entry.TheVariants.{Join, Enter, Read, Bound}
use Rattle.adb_history.specs.Links.{is_connected, is_credit}
use Rattle.adb_history.specs.Streams.{stream_ids}
use Rattle.adb_history.specs.Asking.{Asked}
use Rattle.adb_history.specs.Machine.{History, state, IsLegal}
use Rattle.adb_history.specs.Bytes.{has_joined, has_ended, brought}
use Rattle.adb_history.specs.Book.{Book, book, devices, devices_if, forwards, asked, asked_with, newly, is_asking, still_asks, bound_turn}
use Rattle.adb_history.specs.Births.{Birth, birth_by, birth_through, births_at, births, born}
use Rattle.adb_history.specs.Tied.{came_count}
use Rattle.adb_history.proofs.BookReads.{and_parts, and_false as not_both}
use Rattle.adb_history.proofs.BookTurns.{all_unheard}
use Rattle.adb_history.proofs.Numbers.{counted, next_number}
use Rattle.adb_laws_births.specs.Single.{ByClient, head_by, IsBirthOf, HasOneStreamEach}
use Rattle.adb_laws_births.specs.Laws.{DrawsBy}
use Rattle.adb_laws_births.proofs.Laws.{draws_at_most_one}

-- ---- a client that asks no more
asked_bound : (n port : ℕ) (d : DeviceTable) (o : Option Want) (b : Book) → (bound_turn n port d o b).asked ≡ b.asked
asked_bound n port d None b = refl
asked_bound n port d (Some want) b = refl

none_off : (o : Option Next) → is_some o ≡ true → is_none o ≡ false
none_off None e = let clash : false ≡ true = e in cc
none_off (Some next) e = refl

pub asked_stays : (c : ℕ) (e : Entry) (older : History) → is_some (asked c older).next ≡ true → asked c (e ∷ older) ≡ asked c older
asked_stays c (Read n bytes) older done = go (eqb n c) refl
  where
    d : DeviceTable
    d = devices_if (book older).killed older

    go : (b : Bool) → eqb n c ≡ b
        → cond b (asked_with (is_asking n older (book older)) (devices_if (book older).killed older)
        (book older).forwards bytes (asked n older))
        (asked c older) ≡ asked c older
    go true same =
        let one : n ≡ c = eqb-true n c same in
        let off : still_asks (asked n older) ≡ false = ap (λ (k : ℕ). still_asks (asked k older)) one
        ∙ none_off (asked c older).next done in
        let asks : is_asking n older (book older) ≡ false =
        ap (λ (b : Bool). has_joined n older && not (has_ended n older) && b) off
        ∙ not_both (has_joined n older) (not (has_ended n older)) in
        ap (λ (b : Bool). asked_with b (devices_if (book older).killed older) (book older).forwards bytes (asked n older)) asks
        ∙ ap (λ (k : ℕ). asked k older) one
    go false apart = refl
asked_stays c (Bound n port) older done =
    ap (λ (rows : ℕ → Asked). rows c) (asked_bound n port (devices_if (book older).killed older) ((book older).waits n) (book older))
asked_stays c _ older done = refl

-- ---- what a birth says of its client
joined_stays : (c : ℕ) (e : Entry) (older : History) → IsLegal (e ∷ older) → c ≤ came_count older
    → has_joined c (e ∷ older) ≡ has_joined c older
joined_stays c (Join n) older legal came =
    ap (λ (b : Bool). b || has_joined c older) (ne_eqb n c (λ same. omega (arith, same, came, next_number (Join n) older legal.2)))
joined_stays c _ older legal came = refl

pub came_more : (e : Entry) (older : History) → came_count older ≤ came_count (e ∷ older)
came_more (Join n) older = omega arith
came_more _ older = omega arith

birth_stays : (e : Entry) (older : History) (b : Birth) → IsLegal (e ∷ older) → IsBirthOf older b → IsBirthOf (e ∷ older) b
birth_stays e older b legal h = record {
  came = omega (arith, h.came, came_more e older);
  client = go b.forwarded h.client;
  head = h.head ∙ sym (same_head b.forwarded h.client);
}
  where
    joined : has_joined b.client (e ∷ older) ≡ has_joined b.client older
    joined = joined_stays b.client e older legal h.came

    same_head : (forwarded : Bool) → ByClient forwarded b.client older
        → head_by forwarded b.client (e ∷ older) ≡ head_by forwarded b.client older
    same_head true none = refl
    same_head false by = ap (λ (q : Asked). q.used) (asked_stays b.client e older by.1)

    go : (forwarded : Bool) → ByClient forwarded b.client older → ByClient forwarded b.client (e ∷ older)
    go true none = joined ∙ none
    go false by = (joined ∙ by.0, ap (λ (q : Asked). is_some q.next) (asked_stays b.client e older by.1) ∙ by.1)

-- ---- the birth of an entry
-- a birth is of a client that asked for none before, or that comes now
pub record IsFirstOf (e : Entry) (older : History) (b : Birth) : Type 0 where
  pub is : IsBirthOf (e ∷ older) b
  pub first : (x : Birth) → IsBirthOf older x → x.client ≢ b.client

still_from : (before after : Option Next) → is_some (newly before after) ≡ true → (before ≡ None) × (is_some after ≡ true)
still_from None after e = (refl, e)
still_from (Some next) after e = let clash : false ≡ true = e in cc

module _ (c : ℕ) (bytes : List ℕ) (older : History) (legal : IsLegal (Read c bytes ∷ older)) where
  abbrev after : Asked
  after = asked c (Read c bytes ∷ older)

  module _ (new : is_some (newly (asked c older).next (asked c (Read c bytes ∷ older)).next) ≡ true) where
    parts : ((asked c older).next ≡ None) × (is_some (asked c (Read c bytes ∷ older)).next ≡ true)
    parts = still_from (asked c older).next (asked c (Read c bytes ∷ older)).next new

    asking : is_asking c older (book older) ≡ true
    asking = go (is_asking c older (book older)) refl
      where
        go : (b : Bool) → is_asking c older (book older) ≡ b → b ≡ true
        go true e = refl
        go false e =
            let same : asked c (Read c bytes ∷ older) ≡ asked c older =
            ap (λ (x : Bool). cond x
            (asked_with (is_asking c older (book older)) (devices older) (forwards older) bytes (asked c older))
            (asked c older))
            (eq-eqb c c refl)
            ∙ ap (λ (b : Bool). asked_with b (devices older) (forwards older) bytes (asked c older)) e in
            let clash : true ≡ false = sym parts.1 ∙ (ap (λ (q : Asked). is_some q.next) same ∙ ap is_some parts.0) in
            cc

    joined : has_joined c older ≡ true
    joined = (and_parts (has_joined c older) (not (has_ended c older)) (still_asks (asked c older)) asking).0

    read_first : (b : Birth) → (b.client ≡ c) × (b.forwarded ≡ false) × (b.head ≡ (asked c (Read c bytes ∷ older)).used)
        → IsFirstOf (Read c bytes) older b
    read_first b (client, forwarded, head) = record {
      is = record {
        came = omega (arith, client, legal.2.1.1, (counted older).joined);
        client = subst (λ (f : Bool). ByClient f b.client (Read c bytes ∷ older)) (sym forwarded)
            (subst (λ (k : ℕ). ByClient false k (Read c bytes ∷ older)) (sym client) (joined, parts.1));
        head = subst (λ (f : Bool). b.head ≡ head_by f b.client (Read c bytes ∷ older)) (sym forwarded)
            (subst (λ (k : ℕ). b.head ≡ (asked k (Read c bytes ∷ older)).used) (sym client) head);
      };
      first = λ x of same. clashes x.forwarded (same ∙ client) of.client;
    }
      where
        clashes : (f : Bool) → {k : ℕ} → k ≡ c → ByClient f k older → ⊥
        clashes true {k} same none = let clash : false ≡ true = sym none ∙ (ap (λ (n : ℕ). has_joined n older) same ∙ joined) in cc
        clashes false {k} same by =
            let clash : true ≡ false = sym by.1 ∙ (ap (λ (n : ℕ). is_some (asked n older).next) same ∙ ap is_some parts.0) in cc

  by_first : (next : Option Next) (b : Birth)
      → (is_some next ≡ true → is_some (newly (asked c older).next (asked c (Read c bytes ∷ older)).next) ≡ true)
      → birth_by c (asked c (Read c bytes ∷ older)).used older next ≡ b ∷ [] → IsFirstOf (Read c bytes) older b
  by_first (Some (what.Open t service)) b new is =
      let here : Birth = record {
        client = c;
        link = t;
        credit = is_credit t (devices older);
        forwarded = false;
        service = service;
        head = (asked c (Read c bytes ∷ older)).used;
        packets_before = length (brought t older);
      } in
      let both : here ∷ [] ≡ b ∷ [] = is in
      let same : here ≡ b = cc in
      read_first (new refl) b
      (ap (λ (x : Birth). x.client) (sym same), ap (λ (x : Birth). x.forwarded) (sym same), ap (λ (x : Birth). x.head) (sym same))
  by_first _ b new is = absurd (let clash : [] ≡ b ∷ [] = is in cc)

through_first : (c port : ℕ) (older : History) (o : Option ForwardRow) (b : Birth) → IsLegal (Enter c port ∷ older)
    → birth_through c older o ≡ b ∷ []
    → IsFirstOf (Enter c port) older b
through_first c port older None b legal is = absurd (let clash : [] ≡ b ∷ [] = is in cc)
through_first c port older (Some row) b legal is = go (is_connected row.transport (devices older)) is
  where
    here : Birth
    here = record {
      client = c;
      link = row.transport;
      credit = is_credit row.transport (devices older);
      forwarded = true;
      service = row.remote;
      head = 0;
      packets_before = length (brought row.transport older);
    }

    number : c ≡ came_count older + 1
    number = next_number (Enter c port) older legal.2

    mine : IsFirstOf (Enter c port) older here
    mine = record {
      is = record { came = omega (arith, number); client = (all_unheard older legal.0 c (omega (arith, number))).joined; head = refl };
      first = λ x of same. omega (arith, of.came, same, number);
    }

    go : (x : Bool) → cond x (here ∷ []) [] ≡ b ∷ [] → IsFirstOf (Enter c port) older b
    go true e = let same : here ≡ b = cc in subst (IsFirstOf (Enter c port) older) same mine
    go false e = absurd (let clash : [] ≡ b ∷ [] = e in cc)

entry_first : (e : Entry) (older : History) (b : Birth) → IsLegal (e ∷ older) → births_at e older ≡ b ∷ [] → IsFirstOf e older b
entry_first (Read c bytes) older b legal is =
    by_first c bytes older legal (newly (asked c older).next (asked c (Read c bytes ∷ older)).next) b (λ some. some) is
entry_first (Enter c port) older b legal is = through_first c port older (at port (forwards older)) b legal is
entry_first _ older b legal is = absurd (let clash : [] ≡ b ∷ [] = is in cc)

-- ---- all births
-- what stands at a place with one more
slice_split : {X : Type 0} (xs : List X) (y : X) (i : ℕ) (b : X) → slice_get (xs ++ y ∷ []) i ≡ Some b
    → (slice_get xs i ≡ Some b) ⊎ ((i ≡ length xs) × (y ≡ b))
slice_split {X} [] y zero b is = inr (refl, cc)
slice_split {X} [] y (suc i) b is = absurd (let clash : None ≡ Some b = is in cc)
slice_split {X} (x ∷ xs) y zero b is = inl is
slice_split {X} (x ∷ xs) y (suc i) b is = go (slice_split xs y i b is)
  where
    go : (slice_get xs i ≡ Some b) ⊎ ((i ≡ length xs) × (y ≡ b)) → (slice_get xs i ≡ Some b) ⊎ ((suc i ≡ suc (length xs)) × (y ≡ b))
    go (inl here) = inl here
    go (inr last) = inr (ap suc last.0, last.1)

record AreApart (h : History) (bs : List Birth) : Type 0 where
  pub each : (i : ℕ) (b : Birth) → slice_get bs i ≡ Some b → IsBirthOf h b
  pub apart : (i j : ℕ) (b c : Birth) → slice_get bs i ≡ Some b → slice_get bs j ≡ Some c → b.client ≡ c.client → i ≡ j

module _ (e : Entry) (older : History) (legal : IsLegal (e ∷ older)) (h : AreApart older (births older)) where
  abbrev bs : List Birth
  bs = births older

  none_more : births_at e older ≡ [] → AreApart (e ∷ older) (births (e ∷ older))
  none_more none =
      subst (AreApart (e ∷ older)) (sym (ap (λ (x : List Birth). births older ++ x) none ∙ append-nil (births older)))
      (record { each = λ i b is. birth_stays e older b legal (h.each i b is); apart = h.apart })

  one_more : (x : Birth) → births_at e older ≡ x ∷ [] → AreApart (e ∷ older) (births (e ∷ older))
  one_more x is =
      subst (AreApart (e ∷ older)) (sym (ap (λ (y : List Birth). births older ++ y) is))
      (record {
        each = λ i b at_i. each b (slice_split bs x i b at_i);
        apart = λ i j b c at_i at_j same. apart b c (slice_split bs x i b at_i) (slice_split bs x j c at_j) same;
      })
    where
      new : IsFirstOf e older x
      new = entry_first e older x legal is

      each : {i : ℕ} (b : Birth) → (slice_get (births older) i ≡ Some b) ⊎ ((i ≡ length (births older)) × (x ≡ b)) → IsBirthOf (e ∷ older) b
      each {i} b (inl here) = birth_stays e older b legal (h.each i b here)
      each {i} b (inr last) = subst (IsBirthOf (e ∷ older)) last.1 new.is

      apart : {i j : ℕ} (b c : Birth) → (slice_get (births older) i ≡ Some b) ⊎ ((i ≡ length (births older)) × (x ≡ b))
          → (slice_get (births older) j ≡ Some c) ⊎ ((j ≡ length (births older)) × (x ≡ c)) → b.client ≡ c.client → i ≡ j
      apart {i} {j} b c (inl here) (inl there) same = h.apart i j b c here there same
      apart {i} {j} b c (inl here) (inr there) same =
          absurd (new.first b (h.each i b here) (same ∙ ap (λ (y : Birth). y.client) (sym there.1)))
      apart {i} {j} b c (inr here) (inl there) same =
          absurd (new.first c (h.each j c there) (sym same ∙ ap (λ (y : Birth). y.client) (sym here.1)))
      apart {i} {j} b c (inr here) (inr there) same = here.0 ∙ sym there.0

  by_count : (more : List Birth) → births_at e older ≡ more → DrawsBy (state older).drawn (state (e ∷ older)).drawn more
      → AreApart (e ∷ older) (births (e ∷ older))
  by_count [] is number = none_more is
  by_count (x ∷ []) is number = one_more x is
  by_count (x ∷ y ∷ more) is number = absurd number

all_apart : (h : History) → IsLegal h → AreApart h (births h)
all_apart [] legal = record {
  each = λ i b is. absurd (let clash : None ≡ Some b = is in cc);
  apart = λ i j b c is at same. absurd (let clash : None ≡ Some b = is in cc);
}
all_apart (e ∷ older) legal = by_count e older legal (all_apart older legal.0) (births_at e older) refl
    (draws_at_most_one e older legal).number

-- the place of a birth
born_place : (l : ℕ) (h : History) (b : Birth) → born l h ≡ Some b → (k : ℕ) × (l ≡ suc k) × (slice_get (births h) k ≡ Some b)
born_place zero h b is = absurd (let clash : None ≡ Some b = is in cc)
born_place (suc k) h b is = (k, refl, go (nat_lt k stream_ids) is)
  where
    go : (c : Bool) → cond c (slice_get (births h) k) None ≡ Some b → slice_get (births h) k ≡ Some b
    go true here = here
    go false here = absurd (let clash : None ≡ Some b = here in cc)

-- In every legal history a birth is of a client that came by itself and is asked no more, or that came through a forward.
pub births_of : (h : History) → IsLegal h → (l : ℕ) (b : Birth) → born l h ≡ Some b → IsBirthOf h b
births_of h legal l b is = let p = born_place l h b is in (all_apart h legal).each p.0 b p.2

-- And a client has one stream at most.
pub one_stream_each : (h : History) → IsLegal h → HasOneStreamEach h
one_stream_each h legal l m b c is at same =
    let p = born_place l h b is in
    let q = born_place m h c at in
    p.1 ∙ (ap suc ((all_apart h legal).apart p.0 q.0 b c p.2 q.2 same) ∙ sym q.1)
