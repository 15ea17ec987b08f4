-- Births in their order: those that came stay, and the next one has the next number.
use Rattle.std.proofs.Common.{◌≡◌, ℕ, ◌<◌, zero, suc, Bool, true, false, cond, List, [], ◌∷◌, ◌++◌, length, Option, Some, None, refl, ap}
use Rattle.std.proofs.Common.{subst, ◌∙◌}
use Rattle.std.specs.Prelude.{nat_lt, slice_get}
use Rattle.std.proofs.lemmas.Bool.{lt-ltb}
use Rattle.adb_forward.specs.declared.row.ForwardRow.{ForwardRow}
use Rattle.adb_outside.specs.Tables.{at}
use Rattle.adb_reply.specs.declared.answer.Next.{Next}
use Rattle.adb_reply.specs.declared.answer.Next.TheVariants as what
use Rattle.adb_capture.specs.declared.entry.Entry.{Entry}
use Rattle.adb_capture.specs.declared.entry.Entry.TheVariants.{Join, Enter, Read, End, Bound, Attach, Recv, Detach, Put, Send}
use Rattle.adb_history.specs.Links.{is_connected, is_credit}
use Rattle.adb_history.specs.Streams.{stream_ids}
use Rattle.adb_history.specs.Machine.{History}
use Rattle.adb_history.specs.Bytes.{brought}
use Rattle.adb_history.specs.Book.{asked, newly, devices, forwards}
use Rattle.adb_history.specs.Births.{Birth, birth_by, birth_through, births_at, births, born}

slice_front : {X : Type 0} (xs ys : List X) (k : ℕ) (x : X) → slice_get xs k ≡ Some x → slice_get (xs ++ ys) k ≡ Some x
slice_front {X} [] ys k x is = absurd (let clash : None ≡ Some x = is in cc)
slice_front {X} (y ∷ xs) ys zero x is = is
slice_front {X} (y ∷ xs) ys (suc k) x is = slice_front xs ys k x is

slice_next : {X : Type 0} (xs : List X) (y : X) → slice_get (xs ++ y ∷ []) (length xs) ≡ Some y
slice_next {X} [] y = refl
slice_next {X} (x ∷ xs) y = slice_next xs y

-- A birth stays.
pub born_stays : (l : ℕ) (e : Entry) (older : History) (b : Birth) → born l older ≡ Some b → born l (e ∷ older) ≡ Some b
born_stays zero e older b is = absurd (let clash : None ≡ Some b = is in cc)
born_stays (suc k) e older b is = go (nat_lt k stream_ids) is
  where
    go : (in_ : Bool) → cond in_ (slice_get (births older) k) None ≡ Some b
        → cond in_ (slice_get (births older ++ births_at e older) k) None ≡ Some b
    go true e_is = slice_front (births older) (births_at e older) k b e_is
    go false e_is = absurd (let clash : None ≡ Some b = e_is in cc)

-- The next birth has the next number.
pub born_next : (e : Entry) (older : History) (b : Birth) → births_at e older ≡ b ∷ [] → length (births older) < stream_ids
    → born (suc (length (births older))) (e ∷ older) ≡ Some b
born_next e older b is room =
    ap (λ (x : Bool). cond x (slice_get (births older ++ births_at e older) (length (births older))) None)
    (lt-ltb (length (births older)) stream_ids room)
    ∙ (ap (λ (bs : List Birth). slice_get (births older ++ bs) (length (births older))) is ∙ slice_next (births older) b)

-- ---- where a birth stands
through_place : (c : ℕ) (older : History) (o : Option ForwardRow) (b : Birth) → birth_through c older o ≡ b ∷ []
    → b.packets_before ≡ length (brought b.link older)
through_place c older None b is = absurd (let clash : [] ≡ b ∷ [] = is in cc)
through_place c older (Some row) b is = go (is_connected row.transport (devices older)) is
  where
    here : Birth
    here = record {
      client = c;
      link = row.transport;
      credit = is_credit row.transport (devices older);
      forwarded = true;
      service = row.remote;
      head = 0;
      packets_before = length (brought row.transport older);
    }

    go : (x : Bool) → cond x (here ∷ []) [] ≡ b ∷ [] → b.packets_before ≡ length (brought b.link older)
    go true e = let same : here ≡ b = cc in subst (λ (x : Birth). x.packets_before ≡ length (brought x.link older)) same refl
    go false e = absurd (let clash : [] ≡ b ∷ [] = e in cc)

by_place : (c head : ℕ) (older : History) (next : Option Next) (b : Birth) → birth_by c head older next ≡ b ∷ []
    → b.packets_before ≡ length (brought b.link older)
by_place c head older (Some (what.Open t service)) b is =
    let here : Birth = record {
      client = c;
      link = t;
      credit = is_credit t (devices older);
      forwarded = false;
      service = service;
      head = head;
      packets_before = length (brought t older);
    } in
    let both : here ∷ [] ≡ b ∷ [] = is in
    let same : here ≡ b = cc in
    subst (λ (x : Birth). x.packets_before ≡ length (brought x.link older)) same refl
by_place c head older None b is = absurd (let clash : [] ≡ b ∷ [] = is in cc)
by_place c head older (Some what.Close) b is = absurd (let clash : [] ≡ b ∷ [] = is in cc)
by_place c head older (Some (what.Select id)) b is = absurd (let clash : [] ≡ b ∷ [] = is in cc)
by_place c head older (Some (what.Track long)) b is = absurd (let clash : [] ≡ b ∷ [] = is in cc)
by_place c head older (Some (what.Bind t local remote chosen)) b is = absurd (let clash : [] ≡ b ∷ [] = is in cc)
by_place c head older (Some (what.Rebind t local remote)) b is = absurd (let clash : [] ≡ b ∷ [] = is in cc)
by_place c head older (Some (what.Unbind local)) b is = absurd (let clash : [] ≡ b ∷ [] = is in cc)
by_place c head older (Some what.UnbindAll) b is = absurd (let clash : [] ≡ b ∷ [] = is in cc)
by_place c head older (Some what.Stop) b is = absurd (let clash : [] ≡ b ∷ [] = is in cc)

-- A birth counts the packets that its link brought before.
pub birth_place : (e : Entry) (older : History) (b : Birth) → births_at e older ≡ b ∷ [] → b.packets_before ≡ length (brought b.link older)
birth_place (Read c bytes) older b is =
    by_place c (asked c (Read c bytes ∷ older)).used older (newly (asked c older).next (asked c (Read c bytes ∷ older)).next) b is
birth_place (Enter c port) older b is = through_place c older (at port (forwards older)) b is
birth_place (Join c) older b is = absurd (let clash : [] ≡ b ∷ [] = is in cc)
birth_place (End c cause) older b is = absurd (let clash : [] ≡ b ∷ [] = is in cc)
birth_place (Bound c port) older b is = absurd (let clash : [] ≡ b ∷ [] = is in cc)
birth_place (Attach t kind serial) older b is = absurd (let clash : [] ≡ b ∷ [] = is in cc)
birth_place (Recv t bytes) older b is = absurd (let clash : [] ≡ b ∷ [] = is in cc)
birth_place (Detach t cause) older b is = absurd (let clash : [] ≡ b ∷ [] = is in cc)
birth_place (Put c bytes) older b is = absurd (let clash : [] ≡ b ∷ [] = is in cc)
birth_place (Send t bytes) older b is = absurd (let clash : [] ≡ b ∷ [] = is in cc)
