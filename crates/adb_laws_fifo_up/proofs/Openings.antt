-- How a device opens a stream, packet after packet, and how much it allows then.
use Rattle.std.proofs.Common.{◌≡◌, ◌≢◌, ℕ, ◌+◌, ◌≤◌, Bool, true, false, cond, not, List, [], ◌∷◌, ◌++◌, Option, Some, None, refl, ap, ◌∙◌}
use Rattle.std.proofs.Common.{arith, ◌⊎◌, inl, inr, eqb, append_assoc}
use Rattle.std.specs.Prelude.{◌&&◌, unwrap_or}
use Rattle.std.proofs.lemmas.Bool.{eqb-true, eqb-false, eq-eqb, ne_eqb}
use Rattle.adb_wire.specs.declared.command.Command.{Command}
use Rattle.adb_wire.specs.declared.command.Command.TheVariants.{Cnxn, Open, Okay, Wrte, Clse, Auth, Stls}
use Rattle.adb_wire.specs.declared.packets.Packet.{Packet}
use Rattle.adb_history.specs.Links.{credit_word}
use Rattle.adb_history.specs.Births.{Opening, is_between, opening_by, opening_in, is_okay}
use Rattle.adb_history.specs.Fifo.{okays_in, credit_in, allowed_writes, allowed_bytes}

-- how much a device allowed: writes, or bytes on a credit link
abbrev pub allowed : Bool → ℕ → Option Opening → ℕ
allowed false l o = allowed_writes l o
allowed true l o = allowed_bytes l o

-- ---- an opening stays, and what comes later is behind it
by_more : (command : Command) (l : ℕ) (p : Packet) (ps qs : List Packet) (o : Opening)
    → opening_by command l p ps (opening_in l ps) ≡ Some o
    → (opening_in l ps ≡ Some o → opening_in l (ps ++ qs) ≡ Some (record o { later = o.later ++ qs }))
    → opening_by command l p (ps ++ qs) (opening_in l (ps ++ qs)) ≡ Some (record o { later = o.later ++ qs })
by_more Okay l p ps qs o e rest = go (eqb p.arg1 l && not (eqb p.arg0 0)) e
  where
    go : (b : Bool) → cond b (Some (record { remote = p.arg0; word = credit_word p.payload; later = ps })) (opening_in l ps) ≡ Some o
        → cond b (Some (record { remote = p.arg0; word = credit_word p.payload; later = ps ++ qs })) (opening_in l (ps ++ qs))
        ≡ Some (record o { later = o.later ++ qs })
    go true f =
        let same : record { remote = p.arg0; word = credit_word p.payload; later = ps } ≡ o = cc in
        ap (λ (x : Opening). Some (record x { later = x.later ++ qs })) same
    go false f = rest f
by_more Clse l p ps qs o e rest = go (is_between 0 l p) e
  where
    go : (b : Bool) → cond b None (opening_in l ps) ≡ Some o
        → cond b None (opening_in l (ps ++ qs)) ≡ Some (record o { later = o.later ++ qs })
    go true f = let clash : None ≡ Some o = f in cc
    go false f = rest f
by_more Cnxn l p ps qs o e rest = let clash : None ≡ Some o = e in cc
by_more _ l p ps qs o e rest = rest e

pub opening_more : (l : ℕ) (ps qs : List Packet) (o : Opening) → opening_in l ps ≡ Some o
    → opening_in l (ps ++ qs) ≡ Some (record o { later = o.later ++ qs })
opening_more l [] qs o e = let clash : None ≡ Some o = e in cc
opening_more l (p ∷ ps) qs o e = by_more p.command l p ps qs o e (opening_more l ps qs o)

-- ---- a stream that may still be opened
-- Nothing in these packets opens it, nor keeps it from being opened.
abbrev pub IsOpenEnded : ℕ → List Packet → Type 0
IsOpenEnded l ps = (qs : List Packet) → opening_in l (ps ++ qs) ≡ opening_in l qs

abbrev pub Passes : ℕ → Packet → Type 0
Passes l p = (later : List Packet) (others : Option Opening) → opening_by p.command l p later others ≡ others

pub ended_more : (l : ℕ) (ps : List Packet) (p : Packet) → IsOpenEnded l ps → Passes l p → IsOpenEnded l (ps ++ p ∷ [])
ended_more l ps p h passes qs =
    ap (opening_in l) (append_assoc ps (p ∷ []) qs) ∙ (h (p ∷ qs) ∙ passes qs (opening_in l qs))

-- the first OKAY opens it
pub record Hears (l : ℕ) (p : Packet) : Type 0 where
  pub command : p.command ≡ Okay
  pub stream : p.arg1 ≡ l
  pub remote : p.arg0 ≢ 0

pub first_heard : (l : ℕ) (ps : List Packet) (p : Packet) → IsOpenEnded l ps → Hears l p
    → opening_in l (ps ++ p ∷ []) ≡ Some (record { remote = p.arg0; word = credit_word p.payload; later = [] })
first_heard l ps p h okay =
    h (p ∷ []) ∙ (ap (λ (c : Command). opening_by c l p [] None) okay.command
    ∙ rw (eq-eqb p.arg1 l okay.stream, ne_eqb p.arg0 0 okay.remote) refl)

-- a CNXN, and a CLSE from id 0, keep it from being opened
pub record Closes (l : ℕ) (p : Packet) : Type 0 where
  pub command : p.command ≡ Clse
  pub stream : p.arg1 ≡ l
  pub remote : p.arg0 ≡ 0

abbrev pub Kind : ℕ → Packet → Type 0
Kind l p = Hears l p ⊎ (((p.command ≡ Cnxn) ⊎ Closes l p) ⊎ Passes l p)

pub kind : (l : ℕ) (p : Packet) → Kind l p
kind l p = by p.command refl
  where
    plain : (c : Command) → p.command ≡ c
        → ((later : List Packet) (others : Option Opening) → opening_by c l p later others ≡ others) → Kind l p
    plain c e passes = inr (inr (λ later others. ap (λ (x : Command). opening_by x l p later others) e ∙ passes later others))

    okay : (a b : Bool) → eqb p.arg1 l ≡ a → eqb p.arg0 0 ≡ b → p.command ≡ Okay → Kind l p
    okay true false e f is = inl (record { command = is; stream = eqb-true p.arg1 l e; remote = eqb-false p.arg0 0 f })
    okay true true e f is = plain Okay is (λ later others. rw (e, f) refl)
    okay false b e f is = plain Okay is (λ later others. rw e refl)

    close : (a b : Bool) → eqb p.arg0 0 ≡ a → eqb p.arg1 l ≡ b → p.command ≡ Clse → Kind l p
    close true true e f is = inr (inl (inr (record { command = is; stream = eqb-true p.arg1 l f; remote = eqb-true p.arg0 0 e })))
    close true false e f is = plain Clse is (λ later others. rw (e, f) refl)
    close false b e f is = plain Clse is (λ later others. rw e refl)

    by : (c : Command) → p.command ≡ c → Kind l p
    by Okay e = okay (eqb p.arg1 l) (eqb p.arg0 0) refl refl e
    by Clse e = close (eqb p.arg0 0) (eqb p.arg1 l) refl refl e
    by Cnxn e = inr (inl (inl e))
    by Open e = plain Open e (λ later others. refl)
    by Wrte e = plain Wrte e (λ later others. refl)
    by Auth e = plain Auth e (λ later others. refl)
    by Stls e = plain Stls e (λ later others. refl)

-- ---- how much is allowed
okays_append : (remote l : ℕ) (ps qs : List Packet) → okays_in remote l (ps ++ qs) ≡ okays_in remote l ps + okays_in remote l qs
okays_append remote l [] qs = omega arith
okays_append remote l (p ∷ ps) qs = go (is_okay p.command && is_between remote l p) (okays_append remote l ps qs)
  where
    go : (b : Bool) → okays_in remote l (ps ++ qs) ≡ okays_in remote l ps + okays_in remote l qs
        → cond b (1 + okays_in remote l (ps ++ qs)) (okays_in remote l (ps ++ qs))
        ≡ cond b (1 + okays_in remote l ps) (okays_in remote l ps) + okays_in remote l qs
    go true e = omega (arith, e)
    go false e = e

credit_append : (remote l : ℕ) (ps qs : List Packet) → credit_in remote l (ps ++ qs) ≡ credit_in remote l ps + credit_in remote l qs
credit_append remote l [] qs = omega arith
credit_append remote l (p ∷ ps) qs = go (is_okay p.command && is_between remote l p)
    (unwrap_or (credit_word p.payload) 0) (credit_append remote l ps qs)
  where
    go : (b : Bool) (n : ℕ) → credit_in remote l (ps ++ qs) ≡ credit_in remote l ps + credit_in remote l qs
        → cond b (n + credit_in remote l (ps ++ qs)) (credit_in remote l (ps ++ qs))
        ≡ cond b (n + credit_in remote l ps) (credit_in remote l ps) + credit_in remote l qs
    go true n e = omega (arith, e)
    go false n e = e

pub later_allows : (credit : Bool) (l : ℕ) (o : Opening) (qs : List Packet)
    → allowed credit l (Some o) ≤ allowed credit l (Some (record o { later = o.later ++ qs }))
later_allows false l o qs = omega (arith, okays_append o.remote l o.later qs)
later_allows true l o qs = omega (arith, credit_append o.remote l o.later qs)

pub more_allows : (credit : Bool) (l : ℕ) (ps qs : List Packet)
    → allowed credit l (opening_in l ps) ≤ allowed credit l (opening_in l (ps ++ qs))
more_allows credit l ps qs = go (opening_in l ps) refl
  where
    none : (credit : Bool) → allowed credit l None ≡ 0
    none true = refl
    none false = refl

    go : (o : Option Opening) → opening_in l ps ≡ o → allowed credit l (opening_in l ps) ≤ allowed credit l (opening_in l (ps ++ qs))
    go None e = omega (arith, ap (allowed credit l) e, none credit)
    go (Some o) e = omega (arith, ap (allowed credit l) e, ap (allowed credit l) (opening_more l ps qs o e), later_allows credit l o qs)

-- one more write by an OKAY, or so many bytes
abbrev pub gives : Bool → Packet → ℕ
gives false p = 1
gives true p = unwrap_or (credit_word p.payload) 0

pub okay_allows : (credit : Bool) (l : ℕ) (o : Opening) (p : Packet) → p.command ≡ Okay → p.arg0 ≡ o.remote → p.arg1 ≡ l
    → allowed credit l (Some (record o { later = o.later ++ p ∷ [] })) ≡ allowed credit l (Some o) + gives credit p
okay_allows credit l o p okay remote stream = go credit
  where
    test : (is_okay p.command && is_between o.remote l p) ≡ true
    test = rw (ap is_okay okay) (rw (eq-eqb p.arg0 o.remote remote, eq-eqb p.arg1 l stream) refl)

    one : okays_in o.remote l (p ∷ []) ≡ 1
    one = ap (λ (b : Bool). cond b 1 0) test

    word : credit_in o.remote l (p ∷ []) ≡ unwrap_or (credit_word p.payload) 0 + 0
    word = ap (λ (b : Bool). cond b (unwrap_or (credit_word p.payload) 0 + 0) 0) test

    go : (credit : Bool) → allowed credit l (Some (record o { later = o.later ++ p ∷ [] })) ≡ allowed credit l (Some o) + gives credit p
    go false = omega (arith, okays_append o.remote l o.later (p ∷ []), one)
    go true = omega (arith, credit_append o.remote l o.later (p ∷ []), word)

-- an OKAY that opens a stream
pub first_allows : (credit : Bool) (l : ℕ) (p : Packet)
    → allowed credit l (Some (record { remote = p.arg0; word = credit_word p.payload; later = [] })) ≡ gives credit p
first_allows false l p = omega arith
first_allows true l p = omega arith
