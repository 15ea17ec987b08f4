-- The streams of a history are those of the one before it, and perhaps one more.
use Rattle.std.proofs.Common.{◌≡◌, ℕ, ◌<◌, ◌≤◌, zero, suc, Bool, true, false, cond, List, [], ◌∷◌, ◌++◌, length, Option, Some, None, refl}
use Rattle.std.proofs.Common.{sym, subst}
use Rattle.std.proofs.Common.{ap, arith, ◌⊎◌, inl, inr}
use Rattle.std.specs.Prelude.{slice_get, nat_lt}
use Rattle.std.proofs.lemmas.Option.{slice_get_within}
use Rattle.std.proofs.lemmas.Bool.Decides.{nat_tests}
use Rattle.adb_outside.specs.Tables.{at}
use Rattle.adb_forward.specs.declared.row.ForwardRow.{ForwardRow}
use Rattle.adb_reply.specs.declared.answer.Next.{Next}
use Rattle.adb_reply.specs.declared.answer.Next.TheVariants as what
use Rattle.adb_capture.specs.declared.entry.Entry.{Entry}
use Rattle.adb_capture.specs.declared.entry.Entry.TheVariants.{Enter, Read}
use Rattle.adb_history.specs.Links.{is_connected, is_credit}
use Rattle.adb_history.specs.Streams.{stream_ids}
use Rattle.adb_history.specs.Machine.{History, state}
use Rattle.adb_history.specs.Bytes.{brought}
use Rattle.adb_history.specs.Book.{asked, newly, devices, forwards}
use Rattle.adb_history.specs.Births.{Birth, birth_by, birth_through, births_at, births, born}
use Rattle.adb_history.specs.Fifo.{HasBirths}

-- ---- a list that grows
abbrev pub Has : {X : Type 0} → List X → X → Type 0
Has xs x = (i : ℕ) × (slice_get xs i ≡ Some x)

get_grown : {X : Type 0} (xs ys : List X) (k : ℕ) (x : X) → slice_get (xs ++ ys) k ≡ Some x
    → (slice_get xs k ≡ Some x) ⊎ ((length xs ≤ k) × Has ys x)
get_grown [] ys k x e = inr (omega arith, (k, e))
get_grown (y ∷ xs) ys zero x e = inl e
get_grown (y ∷ xs) ys (suc k) x e = go (get_grown xs ys k x e)
  where
    go : (slice_get xs k ≡ Some x) ⊎ ((length xs ≤ k) × Has ys x) → (slice_get xs k ≡ Some x) ⊎ ((suc (length xs) ≤ suc k) × Has ys x)
    go (inl f) = inl f
    go (inr f) = inr (omega (arith, f.0), f.1)

pub get_more : {X : Type 0} (xs ys : List X) (k : ℕ) (x : X) → slice_get xs k ≡ Some x → slice_get (xs ++ ys) k ≡ Some x
get_more [] ys k x e = let clash : None ≡ Some x = e in cc
get_more (y ∷ xs) ys zero x e = e
get_more (y ∷ xs) ys (suc k) x e = get_more xs ys k x e

-- ---- births
-- a stream that is born now was not born before
pub record IsNew (l : ℕ) (b : Birth) (e : Entry) (older : History) : Type 0 where
  pub above : length (births older) < l
  pub now : Has (births_at e older) b

pub born_before : (l : ℕ) (b : Birth) (e : Entry) (older : History) → born l (e ∷ older) ≡ Some b
    → (born l older ≡ Some b) ⊎ IsNew l b e older
born_before zero b e older is = let clash : None ≡ Some b = is in cc
born_before (suc k) b e older is = go (nat_lt k stream_ids) is
  where
    go : (x : Bool) → cond x (slice_get (births older ++ births_at e older) k) None ≡ Some b
        → (cond x (slice_get (births older) k) None ≡ Some b) ⊎ IsNew (suc k) b e older
    go false f = let clash : None ≡ Some b = f in cc
    go true f = by (get_grown (births older) (births_at e older) k b f)
      where
        by : (slice_get (births older) k ≡ Some b) ⊎ ((length (births older) ≤ k) × Has (births_at e older) b)
            → (slice_get (births older) k ≡ Some b) ⊎ IsNew (suc k) b e older
        by (inl g) = inl g
        by (inr g) = inr (record { above = omega (arith, g.0); now = g.1 })

within_ids : (k : ℕ) (x : Bool) → nat_lt k stream_ids ≡ x → x ≡ true → k < stream_ids
within_ids k true e f = grind (arith, nat_tests)
within_ids k false e f = let clash : false ≡ true = f in cc

-- a stream that was born has a number that was drawn
pub born_drawn : (l : ℕ) (b : Birth) (h : History) → HasBirths h → born l h ≡ Some b → (0 < l) × (l ≤ (state h).drawn)
born_drawn zero b h has is = let clash : None ≡ Some b = is in cc
born_drawn (suc k) b h has is = go (nat_lt k stream_ids) refl is
  where
    go : (x : Bool) → nat_lt k stream_ids ≡ x → cond x (slice_get (births h) k) None ≡ Some b → (0 < suc k) × (suc k ≤ (state h).drawn)
    go false e f = let clash : None ≡ Some b = f in cc
    go true e f =
        let some : k < length (births h) = slice_get_within (births h) k b f in
        let ids : k < stream_ids = within_ids k true e refl in
        (omega arith, omega (arith, some, ids, has.drawn))

-- and one that is born now has not
pub new_above : (l : ℕ) (b : Birth) (e : Entry) (older : History) → HasBirths older → IsNew l b e older → (state older).drawn < l
new_above l b e older has new = omega (arith, new.above, has.drawn)

-- ---- by which entry
-- who comes or reads is the client of the stream, and what it read before is not the stream's
abbrev pub IsBornBy : Entry → History → Birth → Type 0
IsBornBy (Enter c port) older b = (b.client ≡ c) × (b.head ≡ 0) × (b.packets_before ≡ length (brought b.link older))
IsBornBy (Read c bytes) older b =
    (b.client ≡ c) × (b.head ≡ (asked c (Read c bytes ∷ older)).used) × (b.packets_before ≡ length (brought b.link older))
IsBornBy _ older b = ⊥

pub none_in : {X : Type 0} (x : X) → Has [] x → ⊥
none_in x h = let clash : None ≡ Some x = h.1 in cc

one_in : {X : Type 0} (y x : X) → Has (y ∷ []) x → y ≡ x
one_in {X} y x h = go h.0 h.1
  where
    go : (i : ℕ) → slice_get (y ∷ []) i ≡ Some x → y ≡ x
    go zero e = cc
    go (suc i) e = let clash : None ≡ Some x = e in cc

before_of : (older : History) (a b : Birth) → a ≡ b → a.packets_before ≡ length (brought a.link older)
    → b.packets_before ≡ length (brought b.link older)
before_of older a b same is = subst (λ (x : Birth). x.packets_before ≡ length (brought x.link older)) same is

by_read : (c head : ℕ) (older : History) (next : Option Next) (b : Birth) → Has (birth_by c head older next) b
    → (b.client ≡ c) × (b.head ≡ head) × (b.packets_before ≡ length (brought b.link older))
by_read c head older (Some (what.Open transport service)) b h =
    let same = one_in _ b h in
    (sym (ap (λ (x : Birth). x.client) same), sym (ap (λ (x : Birth). x.head) same), before_of older _ b same refl)
by_read c head older _ b h = absurd (none_in b h)

by_enter : (c : ℕ) (older : History) (o : Option ForwardRow) (b : Birth) → Has (birth_through c older o) b
    → (b.client ≡ c) × (b.head ≡ 0) × (b.packets_before ≡ length (brought b.link older))
by_enter c older None b h = absurd (none_in b h)
by_enter c older (Some row) b h = go (is_connected row.transport (devices older)) h
  where
    go : (x : Bool) → Has (cond x (record {
      client = c;
      link = row.transport;
      credit = is_credit row.transport (devices older);
      forwarded = true;
      service = row.remote;
      head = 0;
      packets_before = length (brought row.transport older);
    } ∷ []) []) b → (b.client ≡ c) × (b.head ≡ 0) × (b.packets_before ≡ length (brought b.link older))
    go true g = let same = one_in _ b g in
        (sym (ap (λ (y : Birth). y.client) same), sym (ap (λ (y : Birth). y.head) same), before_of older _ b same refl)
    go false g = absurd (none_in b g)

pub born_by : (e : Entry) (older : History) (b : Birth) → Has (births_at e older) b → IsBornBy e older b
born_by (Read c bytes) older b h =
    by_read c (asked c (Read c bytes ∷ older)).used older (newly (asked c older).next (asked c (Read c bytes ∷ older)).next) b h
born_by (Enter c port) older b h = by_enter c older (at port (forwards older)) b h
born_by _ older b h = none_in b h
