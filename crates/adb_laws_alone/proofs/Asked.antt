-- What streams asked for, with one packet more.
use Rattle.std.specs.Prelude.{ℕ, ◌+◌, ◌≡◌, ◌≢◌, ◌==◌, ◌⊎◌, ◌≤◌, ◌<◌, ◌&&◌, nat_eq, Bool, true, false, cond, List, [], ◌∷◌, ◌++◌}
use Rattle.std.proofs.Common.{refl, sym, ◌∙◌, ap, subst, arith, inl, inr, append_assoc}
use Rattle.std.specs.List.{AllByRecursion}
use Rattle.std.proofs.lemmas.Bool.{cases_eq, eq-eqb, ne_eqb}
use Rattle.std.proofs.lemmas.List.{append-nil}
use Rattle.adb_wire.specs.declared.command.Command.{Command}
use Rattle.adb_wire.specs.declared.command.Command.TheVariants as commands
use Rattle.adb_wire.specs.declared.packets.Packet.{Packet}
use Rattle.adb_history.specs.Births.{count_from, is_open}
use Rattle.adb_device_streams.specs.Asked.{Kind}
use Rattle.adb_device_streams.specs.Stream.{Row}
use Rattle.adb_laws_alone.specs.Calls.{Ask, Call, asks_of}
use Rattle.adb_laws_alone.specs.Together.{HasAsked, IsAskedIn, IsOfLater, IsOpenFor, IsOpenedFor, WasWritten}
use Rattle.adb_laws_alone.proofs.Through.{asks_both, asks_other, asks_own, calls_of}

-- ---- how often a stream was asked for
pub count_both : (l : ℕ) (xs ys : List Packet) → count_from is_open l (xs ++ ys) ≡ count_from is_open l xs + count_from is_open l ys
count_both l [] ys = omega arith
count_both l (x ∷ xs) ys = go (is_open x.command && nat_eq x.arg0 l) (count_both l xs ys)
  where
    go : (b : Bool) → count_from is_open l (xs ++ ys) ≡ count_from is_open l xs + count_from is_open l ys
        → cond b (1 + count_from is_open l (xs ++ ys)) (count_from is_open l (xs ++ ys))
        ≡ cond b (1 + count_from is_open l xs) (count_from is_open l xs) + count_from is_open l ys
    go true both = omega (arith, both)
    go false both = both

pub count_first : (p : Packet) (ps : List Packet) → p.command ≡ commands.Open
    → count_from is_open p.arg0 (p ∷ ps) ≡ 1 + count_from is_open p.arg0 ps
count_first p ps asks =
    ap (λ (b : Bool). cond b (1 + count_from is_open p.arg0 ps) (count_from is_open p.arg0 ps))
    (λ i. is_open (asks i) && eq-eqb p.arg0 p.arg0 refl i)

pub count_last : (done : List Packet) (p : Packet) → p.command ≡ commands.Open → 1 ≤ count_from is_open p.arg0 (done ++ p ∷ [])
count_last done p asks = let both = count_both p.arg0 done (p ∷ []) in let here = count_first p [] asks in omega (arith, both, here)

-- with one packet more that was asked no less
pub count_more : (l : ℕ) (done : List Packet) (p : Packet) → count_from is_open l done ≤ count_from is_open l (done ++ p ∷ [])
count_more l [] p = omega arith
count_more l (x ∷ done) p = go (is_open x.command && nat_eq x.arg0 l) (count_more l done p)
  where
    go : (b : Bool) → count_from is_open l done ≤ count_from is_open l (done ++ p ∷ [])
        → cond b (1 + count_from is_open l done) (count_from is_open l done)
        ≤ cond b (1 + count_from is_open l (done ++ p ∷ [])) (count_from is_open l (done ++ p ∷ []))
    go true le = omega (arith, le)
    go false le = le

pub asked_more : (d : ℕ) (done : List Packet) (p : Packet) (calls : List Call) → AllByRecursion (IsAskedIn d done) calls
    → AllByRecursion (IsAskedIn d (done ++ p ∷ [])) calls
asked_more d done p [] all = tt
asked_more d done p (call ∷ calls) all = (
  (all.0.0, (let more = count_more call.caller done p in let once = all.0.1 in omega (arith, more, once))),
  asked_more d done p calls all.1,
)

pub asked_both : (d : ℕ) (ps : List Packet) (xs ys : List Call) → AllByRecursion (IsAskedIn d ps) xs → AllByRecursion (IsAskedIn d ps) ys
    → AllByRecursion (IsAskedIn d ps) (xs ++ ys)
asked_both d ps [] ys left right = right
asked_both d ps (x ∷ xs) ys left right = (left.0, asked_both d ps xs ys left.1 right)

pub asked_own : (d : ℕ) (ps : List Packet) (l : ℕ) (asks : List Ask) → d < l → 1 ≤ count_from is_open l ps
    → AllByRecursion (IsAskedIn d ps) (calls_of l asks)
asked_own d ps l [] past once = tt
asked_own d ps l (ask ∷ asks) past once = ((past, once), asked_own d ps l asks past once)

-- a stream that was not asked for has no calls
pub none_of : (d l : ℕ) (ps : List Packet) (calls : List Call) → AllByRecursion (IsAskedIn d ps) calls
    → count_from is_open l ps ≡ 0 → asks_of l calls ≡ []
none_of d l ps [] all none = refl
none_of d l ps (call ∷ calls) all none = go (cases_eq call.caller l) (none_of d l ps calls all.1 none)
  where
    go : (call.caller ≡ l) ⊎ (call.caller ≡ l → ⊥) → asks_of l calls ≡ []
        → cond (call.caller == l) (call.ask ∷ []) [] ++ asks_of l calls ≡ []
    go (inl same) more =
        let once = all.0.1 in
        let counts : count_from is_open call.caller ps ≡ 0 = ap (λ (n : ℕ). count_from is_open n ps) same ∙ none in
        absurd (omega (arith, once, counts))
    go (inr other) more =
        ap (λ (t : Bool). cond t (call.ask ∷ []) [] ++ asks_of l calls) (ne_eqb call.caller l other) ∙ more

-- ---- what a stream asked for, with one packet more
pub opened_more : (l : ℕ) (kind : Kind) (done : List Packet) (p : Packet) → IsOpenedFor l kind done → IsOpenedFor l kind (done ++ p ∷ [])
opened_more l kind [] p opened = absurd opened
opened_more l kind (x ∷ done) p (inl here) = inl here
opened_more l kind (x ∷ done) p (inr later) = inr (opened_more l kind done p later)

pub opened_last : (l : ℕ) (kind : Kind) (done : List Packet) (p : Packet) → IsOpenFor l kind p → IsOpenedFor l kind (done ++ p ∷ [])
opened_last l kind [] p opens = inl opens
opened_last l kind (x ∷ done) p opens = inr (opened_last l kind done p opens)

-- the asks of a list of calls with those of one stream more
pub asks_mine : (l : ℕ) (calls : List Call) (asks : List Ask) → asks_of l (calls ++ calls_of l asks) ≡ asks_of l calls ++ asks
asks_mine l calls asks = asks_both l calls (calls_of l asks) ∙ ap (λ (more : List Ask). asks_of l calls ++ more) (asks_own l asks)

pub asks_apart : (l m : ℕ) (calls : List Call) (asks : List Ask) → l ≢ m → asks_of m (calls ++ calls_of l asks) ≡ asks_of m calls
asks_apart l m calls asks other =
    asks_both m calls (calls_of l asks)
    ∙ (ap (λ (more : List Ask). asks_of m calls ++ more) (asks_other l m asks other) ∙ append-nil (asks_of m calls))

module _ (rows : List Packet → List (ℕ × Row)) where
  written_more : (l : ℕ) (done : List Packet) (came : List ℕ) (p : Packet) → WasWritten rows l done came
      → WasWritten rows l (done ++ p ∷ []) came
  written_more l done came p w = record {
    front = w.front;
    packet = w.packet;
    rest = w.rest ++ p ∷ [];
    is = ap (λ (ps : List Packet). ps ++ p ∷ []) w.is ∙ append_assoc w.front (w.packet ∷ w.rest) (p ∷ []);
    writes = w.writes;
    of = w.of;
    row = w.row;
    live = w.live;
    host = w.host;
    came_is = w.came_is;
  }

  abbrev pub Asks : ℕ → List Packet → List Ask → Type 0
  Asks l done asks = (asks ≡ []) ⊎ HasAsked rows l done asks

  from_more : (l : ℕ) (done : List Packet) (came : List ℕ) (p : Packet) → (came ≡ []) ⊎ WasWritten rows l done came
      → (came ≡ []) ⊎ WasWritten rows l (done ++ p ∷ []) came
  from_more l done came p (inl none) = inl none
  from_more l done came p (inr w) = inr (written_more l done came p w)

  pub asks_more : (l : ℕ) (done : List Packet) (asks : List Ask) (p : Packet) → Asks l done asks → Asks l (done ++ p ∷ []) asks
  asks_more l done asks p (inl none) = inl none
  asks_more l done asks p (inr h) = inr (record {
    kind = h.kind;
    opened = opened_more l h.kind done p h.opened;
    came = h.came;
    from = from_more l done h.came p h.from;
    first = h.first;
  })

  -- one stream asked for more, and each other one as before
  pub asks_with : (d l : ℕ) (done : List Packet) (p : Packet) (calls : List Call) (asks : List Ask)
      → ((m : ℕ) → d < m → Asks m done (asks_of m calls)) → HasAsked rows l (done ++ p ∷ []) (asks_of l calls ++ asks)
      → (m : ℕ) → d < m → Asks m (done ++ p ∷ []) (asks_of m (calls ++ calls_of l asks))
  asks_with d l done p calls asks before mine m late = go (cases_eq l m)
    where
      go : (l ≡ m) ⊎ (l ≡ m → ⊥) → Asks m (done ++ p ∷ []) (asks_of m (calls ++ calls_of l asks))
      go (inl same) =
          subst (λ (k : ℕ). Asks k (done ++ p ∷ []) (asks_of k (calls ++ calls_of l asks))) same
          (subst (Asks l (done ++ p ∷ [])) (sym (asks_mine l calls asks)) (inr mine))
      go (inr other) =
          subst (Asks m (done ++ p ∷ [])) (sym (asks_apart l m calls asks other)) (asks_more m done (asks_of m calls) p (before m late))

-- a stream that is asked for once was not asked for before
pub fresh_by : (d : ℕ) (p : Packet) (ps done : List Packet) → IsOfLater d p.command p
    → ((l : ℕ) → d < l → count_from is_open l (done ++ p ∷ ps) ≤ 1)
    → p.command ≡ commands.Open → count_from is_open p.arg0 done ≡ 0
fresh_by d p ps done of once asks =
    let past : d < p.arg0 = subst (λ (c : Command). IsOfLater d c p) asks of in
    let most = once p.arg0 past in
    let both = count_both p.arg0 done (p ∷ ps) in
    let here = count_first p ps asks in
    omega (arith, most, both, here)
