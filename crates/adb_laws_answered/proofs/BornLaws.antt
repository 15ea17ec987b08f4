-- The births of a history, in their order: which stays, which is new, and whose they are.
use Rattle.std.proofs.Common.{◌≡◌, ◌≢◌, ℕ, ◌+◌, ◌≤◌, ◌<◌, zero, suc, Bool, true, false, cond, List, [], ◌∷◌, ◌++◌, length, Option, Some}
use Rattle.std.proofs.Common.{None, refl, sym, ap}
use Rattle.std.proofs.Common.{◌∙◌}
use Rattle.std.proofs.Common.{arith, inl, inr, ◌⊎◌}
use Rattle.std.proofs.lemmas.Bool.{lt-ltb, ltb-true}
use Rattle.std.specs.Prelude.{slice_get, nat_lt}
use Rattle.adb_outside.specs.Tables.{at}
use Rattle.adb_forward.specs.declared.row.ForwardRow.{ForwardRow}
use Rattle.adb_reply.specs.declared.answer.Next.{Next}
use Rattle.adb_reply.specs.declared.answer.Next.TheVariants as what
use Rattle.adb_capture.specs.declared.entry.Entry.{Entry}
use Rattle.adb_capture.specs.declared.entry.Entry.TheVariants.{Join, Enter, Read}
use Rattle.adb_history.specs.Links.{is_connected, is_credit}
use Rattle.adb_history.specs.Bytes.{brought}
use Rattle.adb_history.specs.Streams.{stream_ids}
use Rattle.adb_history.specs.Machine.{History, state, May, IsLegal}
use Rattle.adb_history.specs.Book.{asked, newly, devices, forwards}
use Rattle.adb_history.specs.Births.{Birth, birth_by, birth_through, births_at, births, born}
use Rattle.adb_history.specs.Tied.{came_count}
use Rattle.adb_history.proofs.Numbers.{counted}
use Rattle.adb_laws_answered.specs.Served.{HasNoStream}

-- ---- places in a list
pub get_front : {X : Type 0} (xs ys : List X) (k : ℕ) (x : X) → slice_get xs k ≡ Some x → slice_get (xs ++ ys) k ≡ Some x
get_front [] ys k x e = absurd (nothing k e)
  where
    nothing : {X : Type 0} {x : X} (k : ℕ) → slice_get [] k ≡ Some x → ⊥
    nothing zero e = cc
    nothing (suc k) e = cc
get_front (y ∷ xs) ys zero x e = e
get_front (y ∷ xs) ys (suc k) x e = get_front xs ys k x e

pub get_seam : {X : Type 0} (xs ys : List X) (x : X) → slice_get (xs ++ x ∷ ys) (length xs) ≡ Some x
get_seam [] ys x = refl
get_seam (y ∷ xs) ys x = get_seam xs ys x

-- an element of two lists one after the other is of the first, or of the second
pub record IsBehind {X : Type 0} (xs ys : List X) (k : ℕ) (x : X) : Type 0 where
  pub place : ℕ
  pub behind : k ≡ length xs + place
  pub is : slice_get ys place ≡ Some x

pub get_either : {X : Type 0} (xs ys : List X) (k : ℕ) (x : X) → slice_get (xs ++ ys) k ≡ Some x
    → (slice_get xs k ≡ Some x) ⊎ IsBehind xs ys k x
get_either [] ys k x e = inr (record { place = k; behind = omega arith; is = e })
get_either (y ∷ xs) ys zero x e = inl e
get_either (y ∷ xs) ys (suc k) x e = go (get_either xs ys k x e)
  where
    go : (slice_get xs k ≡ Some x) ⊎ IsBehind xs ys k x → (slice_get (y ∷ xs) (suc k) ≡ Some x) ⊎ IsBehind (y ∷ xs) ys (suc k) x
    go (inl there) = inl there
    go (inr b) = inr (record { place = b.place; behind = omega (arith, b.behind); is = b.is })

-- ---- births
nothing : (k : ℕ) (b : Birth) → slice_get (let none : List Birth = [] in none) k ≡ Some b → ⊥
nothing zero b e = cc
nothing (suc k) b e = cc

-- the births of an entry are of its own client
by_client : (c head : ℕ) (older : History) (next : Option Next) (k : ℕ) (b : Birth)
    → slice_get (birth_by c head older next) k ≡ Some b → b.client ≡ c
by_client c head older (Some (what.Open t service)) zero b e = ap client_of (sym e)
  where
    client_of : Option Birth → ℕ
    client_of None = c
    client_of (Some b) = b.client
by_client c head older (Some (what.Open t service)) (suc zero) b e = absurd (let clash : None ≡ Some b = e in cc)
by_client c head older (Some (what.Open t service)) (suc (suc k)) b e = absurd (let clash : None ≡ Some b = e in cc)
by_client c head older _ k b e = absurd (nothing k b e)

through_client : (c : ℕ) (older : History) (o : Option ForwardRow) (k : ℕ) (b : Birth)
    → slice_get (birth_through c older o) k ≡ Some b → b.client ≡ c
through_client c older None k b e = absurd (nothing k b e)
through_client c older (Some row) k b e = go (is_connected row.transport (devices older)) k e
  where
    client_of : Option Birth → ℕ
    client_of None = c
    client_of (Some b) = b.client

    go : (connected : Bool) (k : ℕ) → slice_get (cond connected (record {
      client = c;
      link = row.transport;
      credit = is_credit row.transport (devices older);
      forwarded = true;
      service = row.remote;
      head = 0;
      packets_before = length (brought row.transport older);
    } ∷ []) []) k ≡ Some b → b.client ≡ c
    go true zero e = ap client_of (sym e)
    go true (suc zero) e = absurd (let clash : None ≡ Some b = e in cc)
    go true (suc (suc k)) e = absurd (let clash : None ≡ Some b = e in cc)
    go false k e = absurd (nothing k b e)

-- whose births an entry has
abbrev pub IsBirthOf : Entry → ℕ → Type 0
IsBirthOf (Read c bytes) n = n ≡ c
IsBirthOf (Enter c port) n = n ≡ c
IsBirthOf _ n = ⊥

pub birth_of : (e : Entry) (older : History) (k : ℕ) (b : Birth) → slice_get (births_at e older) k ≡ Some b → IsBirthOf e b.client
birth_of (Read c bytes) older k b e = by_client c (asked c (Read c bytes ∷ older)).used older
    (newly (asked c older).next (asked c (Read c bytes ∷ older)).next) k b e
birth_of (Enter c port) older k b e = through_client c older (at port (forwards older)) k b e
birth_of _ older k b e = nothing k b e

came_more : (e : Entry) (older : History) → came_count older ≤ came_count (e ∷ older)
came_more (Join c) older = omega arith
came_more _ older = omega arith

birth_came : (e : Entry) (older : History) (n : ℕ) → May (state older) e → IsBirthOf e n → n ≤ came_count (e ∷ older)
birth_came (Read c bytes) older n may of = omega (arith, of, may.1.1, (counted older).joined)
birth_came (Enter c port) older n may of = omega (arith, of, may.1, (counted older).joined)
birth_came _ older n may of = absurd of

-- the client of a birth came
pub births_came : (h : History) → IsLegal h → (k : ℕ) (b : Birth) → slice_get (births h) k ≡ Some b → b.client ≤ came_count h
births_came [] legal k b e = absurd (nothing k b e)
births_came (e ∷ older) legal k b is = go (λ old. births_came older legal.0 k b old) (get_either (births older) (births_at e older) k b is)
  where
    go : (slice_get (births older) k ≡ Some b → b.client ≤ came_count older)
        → (slice_get (births older) k ≡ Some b) ⊎ IsBehind (births older) (births_at e older) k b → b.client ≤ came_count (e ∷ older)
    go before (inl old) = let le = before old in let more = came_more e older in omega (arith, le, more)
    go before (inr new) = birth_came e older b.client legal.2 (birth_of e older new.place b new.is)

-- ---- streams
-- a stream that was born stays so
pub born_more : (l : ℕ) (b : Birth) (e : Entry) (older : History) → born l older ≡ Some b → born l (e ∷ older) ≡ Some b
born_more zero b e older is = absurd (let clash : None ≡ Some b = is in cc)
born_more (suc k) b e older is = go (nat_lt k stream_ids) is
  where
    go : (within : Bool) → cond within (slice_get (births older) k) None ≡ Some b
        → cond within (slice_get (births (e ∷ older)) k) None ≡ Some b
    go true is = get_front (births older) (births_at e older) k b is
    go false is = absurd (let clash : None ≡ Some b = is in cc)

-- the birth of an entry is the next stream, while there are ids
pub born_now : (b : Birth) (rest : List Birth) (e : Entry) (older : History) → births_at e older ≡ b ∷ rest
    → length (births older) < stream_ids
    → born (suc (length (births older))) (e ∷ older) ≡ Some b
born_now b rest e older is within =
    ap (λ (x : Bool). cond x (slice_get (births older ++ births_at e older) (length (births older))) None)
    (lt-ltb (length (births older)) stream_ids within)
    ∙ (ap (λ (x : List Birth). slice_get (births older ++ x) (length (births older))) is ∙ get_seam (births older) rest b)

-- a stream that is born was born before, or is a birth of this entry within the ids
pub record IsBornNow (l : ℕ) (b : Birth) (e : Entry) (older : History) : Type 0 where
  pub place : ℕ
  pub stream : l ≡ suc (length (births older) + place)
  pub within : length (births older) + place < stream_ids
  pub is : slice_get (births_at e older) place ≡ Some b

pub born_either : (l : ℕ) (b : Birth) (e : Entry) (older : History) → born l (e ∷ older) ≡ Some b
    → (born l older ≡ Some b) ⊎ IsBornNow l b e older
born_either zero b e older is = absurd (let clash : None ≡ Some b = is in cc)
born_either (suc k) b e older is = go (nat_lt k stream_ids) refl is
  where
    split : (slice_get (births older) k ≡ Some b) ⊎ IsBehind (births older) (births_at e older) k b → nat_lt k stream_ids ≡ true
        → (cond true (slice_get (births older) k) None ≡ Some b) ⊎ IsBornNow (suc k) b e older
    split (inl old) within = inl old
    split (inr new) within =
        let lt = ltb-true k stream_ids within in inr (record {
          place = new.place;
          stream = omega (arith, new.behind);
          within = omega
              (arith, lt, new.behind);
          is = new.is;
        })

    go : (within : Bool) → nat_lt k stream_ids ≡ within → cond within (slice_get (births (e ∷ older)) k) None ≡ Some b
        → (cond within (slice_get (births older) k) None ≡ Some b) ⊎ IsBornNow (suc k) b e older
    go true e is = split (get_either (births older) _ k b is) e
    go false e is = absurd (let clash : None ≡ Some b = is in cc)

-- ---- clients without a stream
-- an entry that bears no stream of this client
pub still_none : (c : ℕ) (e : Entry) (older : History) → ((l : ℕ) (b : Birth) → IsBornNow l b e older → b.client ≢ c) → HasNoStream c older
    → HasNoStream c (e ∷ older)
still_none c e older new h l b is = go (born_either l b e older is)
  where
    go : (born l older ≡ Some b) ⊎ IsBornNow l b e older → b.client ≢ c
    go (inl old) = h l b old
    go (inr now) = new l b now

-- nobody has a stream at first
pub none_first : (c l : ℕ) (b : Birth) → born l [] ≡ Some b → b.client ≢ c
none_first c zero b is = absurd (let clash : None ≡ Some b = is in cc)
none_first c (suc k) b is = absurd (go (nat_lt k stream_ids) is)
  where
    go : (within : Bool) → cond within (slice_get (let none : List Birth = [] in none) k) None ≡ Some b → ⊥
    go true is = nothing k b is
    go false is = let clash : None ≡ Some b = is in cc

-- who did not come yet has no stream
pub none_unborn : (h : History) → IsLegal h → (c : ℕ) → came_count h < c → HasNoStream c h
none_unborn h legal c lt = λ l b is. at l b is
  where
    of_birth : (k : ℕ) (b : Birth) (within : Bool) → cond within (slice_get (births h) k) None ≡ Some b → b.client ≢ c
    of_birth k b true is same = let le = births_came h legal k b is in omega (arith, le, lt, same)
    of_birth k b false is same = absurd (let clash : None ≡ Some b = is in cc)

    at : (l : ℕ) (b : Birth) → born l h ≡ Some b → b.client ≢ c
    at zero b is = absurd (let clash : None ≡ Some b = is in cc)
    at (suc k) b is = of_birth k b (nat_lt k stream_ids) is
