-- The clients of streams, and what these carry.
use Rattle.std.specs.Prelude.{ℕ, ◌+◌, ◌≡◌, ◌≢◌, ◌≤◌, ◌<◌, ◌&&◌, zero, suc, Bool, true, false, cond, nat_eq, nat_lt, is_some, All, List, []}
use Rattle.std.specs.Prelude.{◌∷◌, ◌++◌}
use Rattle.std.specs.Prelude.{length, Option, Some, None, slice_get}
use Rattle.std.proofs.Common.{refl, sym, ap, subst, arith, ◌∙◌, ◌⊎◌, inl, inr}
use Rattle.std.proofs.lemmas.Bool.{cases_eq, eqb-true}
use Rattle.std.proofs.lemmas.List.{length-append, length-drop}
use Rattle.std.proofs.lemmas.List.Elements.{All-nil, All-cons, All-append, All-weaker, All-head, All-tail}
use Rattle.adb_outside.specs.Bytes.{IsPrefixOf}
use Rattle.adb_wire.specs.declared.command.Command.{Command}
use Rattle.adb_wire.specs.declared.command.Command.TheVariants.{Cnxn, Open, Okay, Wrte, Clse, Auth, Stls}
use Rattle.adb_wire.specs.declared.packets.Packet.{Packet}
use Rattle.adb_reply.specs.declared.answer.Next.{Next}
use Rattle.adb_reply.specs.declared.answer.Next.TheVariants as what
use Rattle.adb_capture.specs.declared.entry.Entry.{Entry}
use Rattle.adb_capture.specs.declared.entry.Entry.TheVariants.{Enter, Read}
use Rattle.adb_history.specs.Book.{asked, devices, newly}
use Rattle.adb_history.specs.Links.{is_credit}
use Rattle.adb_history.specs.Births.{Birth, birth_by, births, births_at, born, carried_in, is_wrte}
use Rattle.adb_history.specs.Bytes.{bytes_read, brought}
use Rattle.adb_history.specs.Fifo.{IsOwn, OfEachStream}
use Rattle.adb_history.specs.Lives.{ending_of, lived, packets_of, rest_of}
use Rattle.adb_history.specs.Events.{ending_in}
use Rattle.adb_history.specs.Machine.{History, told_at, IsLegal}
use Rattle.adb_history.specs.Streams.{stream_ids}
use Rattle.adb_laws_births.proofs.Crossing.{owes_own}
use Rattle.adb_laws_births.proofs.Single.{asked_stays, one_stream_each}
use Rattle.adb_laws_fifo_up.specs.Carrying.{IsCarried}
use Rattle.adb_laws_steps.specs.Steps.{NoneEnters}

-- ---- births
-- A birth is of a client that came by itself, and asked for this service.
pub record IsAskedFor (h : History) (b : Birth) : Type 0 where
  pub some : 0 < b.client
  pub next : (asked b.client h).next ≡ Some (what.Open b.link b.service)
  pub head : b.head ≡ (asked b.client h).used

asked_for_stays : (e : Entry) (older : History) (b : Birth) → IsAskedFor older b → IsAskedFor (e ∷ older) b
asked_for_stays e older b a =
    let same = asked_stays b.client e older (ap is_some a.next) in record {
      some = a.some;
      next = ap (λ q. q.next) same ∙ a.next;
      head = a.head ∙ sym (ap (λ q. q.used) same);
    }

asked_now : (c : ℕ) (bytes : List ℕ) (older : History) → 0 < c → (before after : Option Next)
    → (asked c (Read c bytes ∷ older)).next ≡ after
    → All (IsAskedFor (Read c bytes ∷ older)) (birth_by c (asked c (Read c bytes ∷ older)).used older (newly before after))
asked_now c bytes older some None (Some (what.Open t service)) is =
    let b : Birth = record {
      client = c;
      link = t;
      credit = is_credit t (devices older);
      forwarded = false;
      service = service;
      head = (asked c (Read c bytes ∷ older)).used;
      packets_before = length (brought t older);
    } in
    All-cons (IsAskedFor (Read c bytes ∷ older)) b [] (record { some = some; next = is; head = refl })
    (All-nil (IsAskedFor (Read c bytes ∷ older)))
asked_now c bytes older some _ _ is = All-nil (IsAskedFor (Read c bytes ∷ older))

all_stay : (e : Entry) (older : History) → All (IsAskedFor older) (births older) → All (IsAskedFor (e ∷ older)) (births older)
all_stay e older all = All-weaker (IsAskedFor older) (IsAskedFor (e ∷ older)) (λ b a. asked_for_stays e older b a) (births older) all

none_born : (e : Entry) (older : History) → births_at e older ≡ [] → All (IsAskedFor older) (births older)
    → All (IsAskedFor (e ∷ older)) (births (e ∷ older))
none_born e older none all =
    All-append (IsAskedFor (e ∷ older)) (births older) (births_at e older) (all_stay e older all)
    (subst (λ (bs : List Birth). All (IsAskedFor (e ∷ older)) bs) (sym none) (All-nil (IsAskedFor (e ∷ older))))

pub all_asked_for : (h : History) → IsLegal h → NoneEnters h → All (IsAskedFor h) (births h)
all_asked_for [] legal none = All-nil (IsAskedFor [])
all_asked_for (Read c bytes ∷ older) legal none =
    All-append (IsAskedFor (Read c bytes ∷ older)) (births older) (births_at (Read c bytes) older)
    (all_stay (Read c bytes) older (all_asked_for older legal.0 none))
    (asked_now c bytes older legal.2.1.0 (asked c older).next (asked c (Read c bytes ∷ older)).next refl)
all_asked_for (Enter c port ∷ older) legal none = absurd none
all_asked_for (e ∷ older) legal none = none_born e older refl (all_asked_for older legal.0 none)

all_at : (P : Birth → Type 0) (bs : List Birth) (k : ℕ) (b : Birth) → All P bs → slice_get bs k ≡ Some b → P b
all_at P [] k b all is = absurd (let clash : None ≡ Some b = is in cc)
all_at P (x ∷ bs) zero b all is = (let same : x ≡ b = cc in subst P same (All-head P x bs all))
all_at P (x ∷ bs) (suc k) b all is = all_at P bs k b (All-tail P x bs all) is

pub asked_for : (h : History) → All (IsAskedFor h) (births h) → (l : ℕ) (b : Birth) → born l h ≡ Some b → IsAskedFor h b
asked_for h all zero b is = absurd (let clash : None ≡ Some b = is in cc)
asked_for h all (suc k) b is = go (nat_lt k stream_ids) is
  where
    go : (x : Bool) → cond x (slice_get (births h) k) None ≡ Some b → IsAskedFor h b
    go true e = all_at (IsAskedFor h) (births h) k b all e
    go false e = absurd (let clash : None ≡ Some b = e in cc)

-- ---- what a stream carries was read of its client past its requests
read_more : (c : ℕ) (e : Entry) (older : History) → length (bytes_read c older) ≤ length (bytes_read c (e ∷ older))
read_more c (Read n bytes) older = go (nat_eq n c)
  where
    go : (b : Bool) → length (bytes_read c older) ≤ length (cond b (bytes_read c older ++ bytes) (bytes_read c older))
    go true = let sum = length-append (bytes_read c older) bytes in omega (arith, sum)
    go false = omega arith
read_more c _ older = omega arith

lived_read : (l c : ℕ) (h : History) → length (bytes_read c (lived l h)) ≤ length (bytes_read c h)
lived_read l c [] = omega arith
lived_read l c (e ∷ older) = go (lived_read l c older) (is_some (ending_of l older)) (is_some (ending_in l (told_at e older)))
  where
    more : length (bytes_read c older) ≤ length (bytes_read c (e ∷ older))
    more = read_more c e older

    go : length (bytes_read c (lived l older)) ≤ length (bytes_read c older)
        → (a b : Bool) → length (bytes_read c (cond a (lived l older) (cond b older (e ∷ older)))) ≤ length (bytes_read c (e ∷ older))
    go le true b = (let one = more in omega (arith, le, one))
    go le false true = more
    go le false false = omega arith

module _ (h : History) (legal : IsLegal h) where
  -- a stream of another link carries nothing on this one
  none_carried : (l : ℕ) (b : Birth) → born l h ≡ Some b → b.link ≢ 1 → (ps : List Packet)
      → All (λ p. IsOwn h 1 p.command p) ps → carried_in l ps ≡ []
  none_carried l b birth other [] own = refl
  none_carried l b birth other (p ∷ ps) own =
      go p.command refl (All-head (λ p. IsOwn h 1 p.command p) p ps own) (nat_eq p.arg0 l) refl
      (none_carried l b birth other ps (All-tail (λ p. IsOwn h 1 p.command p) p ps own))
    where
      skip : (c : Command) → p.command ≡ c → is_wrte c ≡ false → (m : Bool) → carried_in l ps ≡ []
          → cond (is_wrte p.command && m) (p.payload ++ carried_in l ps) (carried_in l ps) ≡ []
      skip c e lacks m none = ap (λ (b : Bool). cond (b && m) (p.payload ++ carried_in l ps) (carried_in l ps))
          (ap is_wrte e ∙ lacks) ∙ none

      go : (c : Command) → p.command ≡ c → IsOwn h 1 c p → (m : Bool) → nat_eq p.arg0 l ≡ m → carried_in l ps ≡ []
          → cond (is_wrte p.command && m) (p.payload ++ carried_in l ps) (carried_in l ps) ≡ []
      go Wrte e of true f none =
          let found : Some of.birth ≡ Some b = sym of.is ∙ (ap (λ (n : ℕ). born n h) (eqb-true p.arg0 l f) ∙ birth) in
          let same : of.birth ≡ b = cc in
          absurd (other (sym (ap (λ (x : Birth). x.link) same) ∙ of.link))
      go Wrte e of false f none = ap (λ (c : Command). cond (is_wrte c && false) (p.payload ++ carried_in l ps) (carried_in l ps)) e ∙ none
      go Open e of m f none = skip Open e refl m none
      go Okay e of m f none = skip Okay e refl m none
      go Clse e of m f none = skip Clse e refl m none
      go Cnxn e of m f none = skip Cnxn e refl m none
      go Auth e of m f none = absurd of
      go Stls e of m f none = absurd of

  module _ (carried : OfEachStream h (λ l b. IsCarried l b h)) where
    pub carried_within : (l : ℕ) (b : Birth) → born l h ≡ Some b
        → length (carried_in l (packets_of 1 h)) + b.head ≤ length (bytes_read b.client h)
    carried_within l b birth = go (cases_eq b.link 1)
      where
        is : IsCarried l b h
        is = carried l b birth

        head : b.head ≤ length (bytes_read b.client h)
        head = is.head

        go : (b.link ≡ 1) ⊎ (b.link ≢ 1) → length (carried_in l (packets_of 1 h)) + b.head ≤ length (bytes_read b.client h)
        go (inr other) =
            let none = ap (length {A = ℕ}) (none_carried l b birth other (packets_of 1 h) ((owes_own h legal).own 1)) in
            let le = head in
            omega (arith, none, le)
        go (inl same) =
            let front : IsPrefixOf (carried_in l (packets_of 1 h)) (rest_of l b h) =
            subst (λ (t : ℕ). IsPrefixOf (carried_in l (packets_of t h)) (rest_of l b h)) same is.rises.front in
            let both : length (carried_in l (packets_of 1 h)) + length front.0 ≡ length (rest_of l b h) =
            sym (length-append (carried_in l (packets_of 1 h)) front.0) ∙ ap length front.1 in
            let rest = length-drop b.head (bytes_read b.client (lived l h)) in
            let less = lived_read l b.client h in
            let le = head in
            omega (arith, both, rest, less, le)

    abbrev pub OfClient : ℕ → ℕ → Type 0
    OfClient l c = (b : Birth) × (born l h ≡ Some b) × (b.client ≡ c)

    pub apart : (l k c : ℕ) → OfClient l c → OfClient k c → l ≡ k
    apart l k c x y = one_stream_each h legal l k x.0 y.0 x.1 y.1 (x.2 ∙ sym y.2)
