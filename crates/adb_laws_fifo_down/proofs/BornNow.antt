-- By which entry a stream is born, and what the machine makes of that entry.
use Rattle.std.proofs.Common.{ℕ, ◌+◌, ◌≡◌, ◌≤◌, ◌<◌, zero, suc, Bool, true, false, cond, List, [], ◌∷◌, ◌++◌, length, Option, Some, None}
use Rattle.std.proofs.Common.{refl, ◌∙◌}
use Rattle.std.proofs.Common.{ap, subst, arith, inl, inr, ◌⊎◌}
use Rattle.std.proofs.lemmas.Bool.{ltb-true}
use Rattle.std.specs.Prelude.{slice_get, nat_lt}
use Rattle.adb_outside.specs.Tables.{at}
use Rattle.adb_forward.specs.declared.row.ForwardRow.{ForwardRow}
use Rattle.adb_reply.specs.declared.answer.Next.{Next}
use Rattle.adb_reply.specs.declared.answer.Next.TheVariants as what
use Rattle.adb_capture.specs.declared.entry.Entry.{Entry}
use Rattle.adb_capture.specs.declared.entry.Entry.TheVariants.{Enter, Read}
use Rattle.adb_history.specs.Links.{is_connected, is_credit}
use Rattle.adb_history.specs.Streams.{stream_ids}
use Rattle.adb_history.specs.Machine.{History}
use Rattle.adb_history.specs.Bytes.{brought}
use Rattle.adb_history.specs.Book.{asked, newly, devices, forwards}
use Rattle.adb_history.specs.Births.{Birth, birth_by, birth_through, births_at, births, born}
use Rattle.adb_laws_fifo_down.specs.Begins.{IsBornNow}

-- ---- one place of a list that grows
slice_append : {A : Type 0} (xs ys : List A) (j : ℕ) (x : A) → slice_get (xs ++ ys) j ≡ Some x
    → (slice_get xs j ≡ Some x) ⊎ ((i : ℕ) × (j ≡ length xs + i) × (slice_get ys i ≡ Some x))
slice_append [] ys j x e = inr (j, omega arith, e)
slice_append (y ∷ xs) ys zero x e = inl e
slice_append (y ∷ xs) ys (suc j) x e = go (slice_append xs ys j x e)
  where
    go : (slice_get xs j ≡ Some x) ⊎ ((i : ℕ) × (j ≡ length xs + i) × (slice_get ys i ≡ Some x))
        → (slice_get xs j ≡ Some x) ⊎ ((i : ℕ) × (suc j ≡ suc (length xs) + i) × (slice_get ys i ≡ Some x))
    go (inl f) = inl f
    go (inr (i, f, g)) = inr (i, omega (arith, f), g)

-- ---- an entry bears no more than one
abbrev IsFew : List Birth → Type 0
IsFew bs = length bs ≤ 1

by_few : (c head : ℕ) (older : History) (next : Option Next) → IsFew (birth_by c head older next)
by_few c head older (Some (what.Open transport service)) = omega arith
by_few c head older _ = omega arith

through_few : (c : ℕ) (older : History) (o : Option ForwardRow) → IsFew (birth_through c older o)
through_few c older None = omega arith
through_few c older (Some row) = by (is_connected row.transport (devices older))
  where
    by : (connected : Bool) → IsFew (cond connected (record {
      client = c;
      link = row.transport;
      credit = is_credit row.transport (devices older);
      forwarded = true;
      service = row.remote;
      head = 0;
      packets_before = length (brought row.transport older);
    } ∷ []) [])
    by true = omega arith
    by false = omega arith

few : (e : Entry) (older : History) → IsFew (births_at e older)
few (Read c bytes) older =
    by_few c (asked c (Read c bytes ∷ older)).used older (newly (asked c older).next (asked c (Read c bytes ∷ older)).next)
few (Enter c port) older = through_few c older (at port (forwards older))
few _ older = omega arith

only_one : {A : Type 0} (xs : List A) (i : ℕ) (x : A) → length xs ≤ 1 → slice_get xs i ≡ Some x → (i ≡ 0) × (xs ≡ x ∷ [])
only_one [] i x le e = absurd (let clash : None ≡ Some x = e in cc)
only_one (y ∷ []) zero x le e = let same : y ≡ x = cc in (refl, ap (λ z. z ∷ []) same)
only_one (y ∷ []) (suc i) x le e = absurd (let clash : None ≡ Some x = e in cc)
only_one (y ∷ z ∷ xs) i x le e = absurd (omega (arith, le))

-- A stream was born before, or by this entry.
pub born_when : (l : ℕ) (b : Birth) (e : Entry) (older : History) → born l (e ∷ older) ≡ Some b
    → (born l older ≡ Some b) ⊎ IsBornNow l b e older
born_when zero b e older is = absurd (let clash : None ≡ Some b = is in cc)
born_when (suc j) b e older is = by (nat_lt j stream_ids) refl is
  where
    here : nat_lt j stream_ids ≡ true
        → (slice_get (births older) j ≡ Some b) ⊎ ((i : ℕ) × (j ≡ length (births older) + i) × (slice_get (births_at e older) i ≡ Some b))
        → (cond true (slice_get (births older) j) None ≡ Some b) ⊎ IsBornNow (suc j) b e older
    here lt (inl f) = inl f
    here lt (inr (i, f, g)) =
        let one = only_one (births_at e older) i b (few e older) g in
        inr (record {
          number = omega (arith, f, one.0);
          within = subst (λ (n : ℕ). n < stream_ids)
              (f ∙ (ap (λ (i : ℕ). length (births older) + i) one.0 ∙ plus_zero (length (births older))))
              (ltb-true j stream_ids lt);
          is = one.1;
        })
      where
        plus_zero : (n : ℕ) → n + 0 ≡ n
        plus_zero n = omega arith

    by : (lt : Bool) → nat_lt j stream_ids ≡ lt → cond lt (slice_get (births older ++ births_at e older) j) None ≡ Some b
        → (cond lt (slice_get (births older) j) None ≡ Some b) ⊎ IsBornNow (suc j) b e older
    by true lt f = here lt (slice_append (births older) (births_at e older) j b f)
    by false lt f = absurd (let clash : None ≡ Some b = f in cc)

-- ---- which entry it was
-- a birth by a request
pub record IsBy (c head : ℕ) (older : History) (next : Option Next) (b : Birth) : Type 0 where
  pub transport : ℕ
  pub service : List ℕ
  pub opens : next ≡ Some (what.Open transport service)
  pub birth : b ≡ record {
    client = c;
    link = transport;
    credit = is_credit transport (devices older);
    forwarded = false;
    service = service;
    head = head;
    packets_before = length (brought transport older);
  }

no_births : (b : Birth) → [] ≡ b ∷ [] → ⊥
no_births b e = let clash : [] ≡ b ∷ [] = e in cc

pub by_request : (c head : ℕ) (older : History) (next : Option Next) (b : Birth) → birth_by c head older next ≡ b ∷ []
    → IsBy c head older next b
by_request c head older (Some (what.Open transport service)) b e =
    record { transport = transport; service = service; opens = refl; birth = (let both : _ ≡ b ∷ [] = e in cc) }
by_request c head older _ b e = absurd (no_births b e)

-- a birth through a forward
pub record IsThrough (c : ℕ) (older : History) (o : Option ForwardRow) (b : Birth) : Type 0 where
  pub row : ForwardRow
  pub is : o ≡ Some row
  pub connected : is_connected row.transport (devices older) ≡ true
  pub birth : b ≡ record {
    client = c;
    link = row.transport;
    credit = is_credit row.transport (devices older);
    forwarded = true;
    service = row.remote;
    head = 0;
    packets_before = length (brought row.transport older);
  }

pub by_forward : (c : ℕ) (older : History) (o : Option ForwardRow) (b : Birth) → birth_through c older o ≡ b ∷ [] → IsThrough c older o b
by_forward c older None b e = absurd (no_births b e)
by_forward c older (Some row) b e = by (is_connected row.transport (devices older)) refl e
  where
    by : (connected : Bool) → is_connected row.transport (devices older) ≡ connected → cond connected (record {
      client = c;
      link = row.transport;
      credit = is_credit row.transport (devices older);
      forwarded = true;
      service = row.remote;
      head = 0;
      packets_before = length (brought row.transport older);
    } ∷ []) [] ≡ b ∷ [] → IsThrough c older (Some row) b
    by true f g = record { row = row; is = refl; connected = f; birth = (let both : _ ≡ b ∷ [] = g in cc) }
    by false f g = absurd (no_births b g)

-- a next that is newly there
pub newly_is : (before after : Option Next) (next : Next) → newly before after ≡ Some next → (before ≡ None) × (after ≡ Some next)
newly_is None after next e = (refl, e)
newly_is (Some old) after next e = absurd (let clash : None ≡ Some next = e in cc)
