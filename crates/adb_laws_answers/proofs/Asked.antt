-- A client that asked for a stream has one.
use Rattle.std.proofs.Common.{◌≡◌, ◌≢◌, ◌≤◌, ◌<◌, ℕ, zero, suc, Bool, false, cond, List}
use Rattle.std.proofs.Common.{[], ◌∷◌, ◌++◌, length, Option, Some, None, is_some, refl, sym, ap, subst}
use Rattle.std.proofs.Common.{◌∙◌, arith, ◌⊎◌, inl, inr}
use Rattle.std.specs.Prelude.{slice_get}
use Rattle.std.proofs.lemmas.Bool.{cases_eq, ne_eqb, lt-ltb}
use Rattle.adb_reply.specs.declared.answer.Next.{Next}
use Rattle.adb_reply.specs.declared.answer.Next.TheVariants.{Open}
use Rattle.adb_client.specs.declared.about.Want.{Want}
use Rattle.adb_capture.specs.declared.entry.Entry.{Entry}
use Rattle.adb_capture.specs.declared.entry.Entry.TheVariants.{Read, Bound, Recv, Put, Send}
use Rattle.adb_history.specs.Asking.{Asked}
use Rattle.adb_history.specs.Births.{Birth, birth_by, births, births_at, born}
use Rattle.adb_history.specs.Book.{book, asked, newly, devices, bound_turn, asked_with, is_asking, forwards}
use Rattle.adb_history.specs.Bytes.{brought}
use Rattle.adb_history.specs.Links.{is_credit}
use Rattle.adb_history.specs.Machine.{History}
use Rattle.adb_history.specs.Streams.{stream_ids}
use Rattle.adb_laws_fifo_down.proofs.Followed.{asked_fixed}

-- ---- places
slice_front : {X : Type 0} (xs ys : List X) (k : ℕ) (x : X) → slice_get xs k ≡ Some x → slice_get (xs ++ ys) k ≡ Some x
slice_front {X} [] ys k x is = absurd (let clash : None ≡ Some x = is in cc)
slice_front {X} (y ∷ xs) ys zero x is = is
slice_front {X} (y ∷ xs) ys (suc k) x is = slice_front xs ys k x is

slice_next : {X : Type 0} (xs : List X) (y : X) → slice_get (xs ++ y ∷ []) (length xs) ≡ Some y
slice_next {X} [] y = refl
slice_next {X} (x ∷ xs) y = slice_next xs y

pub slice_below : {X : Type 0} (xs : List X) (k : ℕ) (x : X) → slice_get xs k ≡ Some x → k < length xs
slice_below {X} [] k x is = absurd (let clash : None ≡ Some x = is in cc)
slice_below {X} (y ∷ xs) zero x is = omega arith
slice_below {X} (y ∷ xs) (suc k) x is = (let less = slice_below xs k x is in omega (arith, less))

-- ---- what a client asked
-- only what is read of it changes that
asked_same : (e : Entry) (older : History) (c : ℕ) → ((bytes : List ℕ) → e ≡ Read c bytes → ⊥) → asked c (e ∷ older) ≡ asked c older
asked_same (Read n bytes) older c other = go (cases_eq n c)
  where
    go : (n ≡ c) ⊎ (n ≢ c) → asked c (Read n bytes ∷ older) ≡ asked c older
    go (inl same) = absurd (other bytes (ap (λ (m : ℕ). Read m bytes) same))
    go (inr apart) =
        ap (λ (b : Bool). cond b
        (asked_with (is_asking n older (book older)) (devices older) (forwards older) bytes (asked n older))
        (asked c older))
        (ne_eqb n c apart)
asked_same (Bound n port) older c other = go ((book older).waits n)
  where
    go : (want : Option Want) → (bound_turn n port (devices older) want (book older)).asked c ≡ asked c older
    go None = refl
    go (Some want) = refl
asked_same _ older c other = refl

-- The stream that a client asked for, by its place among the births.
pub record IsBornFor (h : History) (c t : ℕ) (service : List ℕ) : Type 0 where
  pub place : ℕ
  pub birth : Birth
  pub is : slice_get (births h) place ≡ Some birth
  pub client : birth.client ≡ c
  pub link : birth.link ≡ t
  pub alone : birth.forwarded ≡ false
  pub service_is : birth.service ≡ service
  pub head : birth.head ≡ (asked c h).used

module _ (e : Entry) (older : History) (c t : ℕ) (service : List ℕ) where
  -- it stays
  later : asked c (e ∷ older) ≡ asked c older → IsBornFor older c t service → IsBornFor (e ∷ older) c t service
  later same b = record {
    place = b.place;
    birth = b.birth;
    is = slice_front (births older) (births_at e older) b.place b.birth b.is;
    client = b.client;
    link = b.link;
    alone = b.alone;
    service_is = b.service_is;
    head = b.head ∙ ap (λ (q : Asked). q.used) (sym same);
  }

-- it is born
module _ (bytes : List ℕ) (older : History) (c t : ℕ) (service : List ℕ) (before : (asked c older).next ≡ None)
    (next : (asked c (Read c bytes ∷ older)).next ≡ Some (Open t service)) where
  abbrev here : Birth
  here = record {
    client = c;
    link = t;
    credit = is_credit t (devices older);
    forwarded = false;
    service = service;
    head = (asked c (Read c bytes ∷ older)).used;
    packets_before = length (brought t older);
  }

  bears : births_at (Read c bytes) older ≡ here ∷ []
  bears =
      ap (λ (o : Option Next). birth_by c (asked c (Read c bytes ∷ older)).used older
      (newly o (asked c (Read c bytes ∷ older)).next)) before
      ∙ ap (λ (o : Option Next). birth_by c (asked c (Read c bytes ∷ older)).used older o) next

  born_here : IsBornFor (Read c bytes ∷ older) c t service
  born_here = record {
    place = length (births older);
    birth = here;
    is = ap (λ (bs : List Birth). slice_get (births older ++ bs) (length (births older))) bears ∙ slice_next (births older) here;
    client = refl;
    link = refl;
    alone = refl;
    service_is = refl;
    head = refl;
  }

-- an entry is one that is read of the client, or another
read_or : (e : Entry) (c : ℕ) → ((bytes : List ℕ) × (e ≡ Read c bytes)) ⊎ ((bytes : List ℕ) → e ≡ Read c bytes → ⊥)
read_or (Read n bytes) c = go (cases_eq n c)
  where
    client_of : Entry → ℕ
    client_of (Read m more) = m
    client_of _ = 0

    go : (n ≡ c) ⊎ (n ≢ c) → ((more : List ℕ) × (Read n bytes ≡ Read c more)) ⊎ ((more : List ℕ) → Read n bytes ≡ Read c more → ⊥)
    go (inl same) = inl (bytes, ap (λ (m : ℕ). Read m bytes) same)
    go (inr other) = inr (λ more same. other (ap client_of same))
read_or (Recv t bytes) c = inr (λ more same. cc)
read_or (Put n bytes) c = inr (λ more same. cc)
read_or (Send t bytes) c = inr (λ more same. cc)
read_or _ c = inr (λ bytes same. cc)

pub born_for : (h : History) (c t : ℕ) (service : List ℕ) → (asked c h).next ≡ Some (Open t service) → IsBornFor h c t service
born_for [] c t service next = absurd (let clash : None ≡ Some (Open t service) = next in cc)
born_for (e ∷ older) c t service next = go (asked c older).next refl (λ before. born_for older c t service before)
  where
    fresh : (asked c older).next ≡ None → ((bytes : List ℕ) × (e ≡ Read c bytes)) ⊎ ((bytes : List ℕ) → e ≡ Read c bytes → ⊥)
        → IsBornFor (e ∷ older) c t service
    fresh none (inl (bytes, is)) =
        subst (λ (x : Entry). IsBornFor (x ∷ older) c t service) (sym is)
        (born_here bytes older c t service none (subst (λ (x : Entry). (asked c (x ∷ older)).next ≡ Some (Open t service)) is next))
    fresh none (inr other) =
        absurd (let clash : None ≡ Some (Open t service) =
        sym none ∙ (ap (λ (q : Asked). q.next) (sym (asked_same e older c other)) ∙ next) in cc)

    go : (o : Option Next) → (asked c older).next ≡ o → ((asked c older).next ≡ Some (Open t service) → IsBornFor older c t service)
        → IsBornFor (e ∷ older) c t service
    go None is before = fresh is (read_or e c)
    go (Some x) is before =
        let same : asked c (e ∷ older) ≡ asked c older = asked_fixed e older c (ap is_some is) in
        later e older c t service same (before (ap (λ (q : Asked). q.next) (sym same) ∙ next))

-- where an id is left for each
pub born_as : (h : History) (place : ℕ) (b : Birth) → slice_get (births h) place ≡ Some b
    → length (births h) ≤ stream_ids → born (suc place) h ≡ Some b
born_as h place b is ids =
    let below = slice_below (births h) place b is in
    ap (λ (t : Bool). cond t (slice_get (births h) place) None) (lt-ltb place stream_ids (omega (arith, below, ids))) ∙ is
