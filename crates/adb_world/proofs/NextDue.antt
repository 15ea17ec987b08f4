-- The session to which something is handed next, where nothing is due on the link.
use Rattle.std.specs.Prelude.{ℕ, ◌+◌, ◌≡◌, ◌≢◌, ◌≤◌, ◌<◌, Bool, is_some, true, false, zero, suc, List, [], ◌∷◌, take, Option, Some, None}
use Rattle.std.specs.Prelude.{option_and_then}
use Rattle.std.specs.Option.{option_or}
use Rattle.std.proofs.Common.{refl, sym, ◌∙◌, ap, subst, arith, ◌⊎◌, inl, inr}
use Rattle.std.proofs.lemmas.Bool.{cases_eq, cases_lt}
use Rattle.adb_outside.specs.Tables.{Rows, at}
use Rattle.adb_registry.specs.Registry.{DeviceTable}
use Rattle.adb_capture.specs.declared.entry.Entry.{Entry}
use Rattle.adb_capture.specs.declared.entry.Entry.TheVariants.{Put}
use Rattle.adb_capture.specs.declared.entry.Owner.TheVariants as owner
use Rattle.adb_history.specs.declared.hand_out.TheConstants.{MAX_HAND_OUT}
use Rattle.adb_history.specs.Drained.{first_put, first_send, next_out, put_of, put_to, send_on}
use Rattle.adb_history.specs.Kept.{IsLawful}
use Rattle.adb_history.specs.Machine.{History, state}
use Rattle.adb_history.specs.Rows.{Client, Link}
use Rattle.adb_history.specs.Tracking.{offered}
use Rattle.adb_history.proofs.Numbers.{counted}
use Rattle.adb_history.proofs.OrderlyStates.{orderly}
use Rattle.adb_hub.specs.Answers.{due_on, offered_to}
use Rattle.adb_hub_hand_outs.specs.NextDue.{entry_of, owner_of}
use Rattle.adb_world.specs.Calls.{HasNone}
use Rattle.adb_world.specs.Parts.{Holds, IsKeptAt, IsOver, IsRunning, Moves}
use Rattle.adb_world.specs.Settled.{Goes, IsOwed, NoneDown, NoneHanded}
use Rattle.adb_world.specs.declared.parts.Parts.{Parts}
use Rattle.adb_world.specs.declared.session.Session.{Session}
use Rattle.adb_world.proofs.Counted.{IsThere, there}
use Rattle.adb_world.proofs.Going.{AllStay, behind_none, puts_step, runs_on, runs_still, to_hand_out}

-- ---- what is offered to a client
none_offered : (devices : DeviceTable) (n : ℕ) (row : Option Client) → put_to devices n row ≡ None → HasNone (offered_to devices row)
none_offered devices n None none = tt
none_offered devices n (Some client) none = go (offered devices client) none
  where
    go : (due : List ℕ) → put_of n due ≡ None → due ≡ []
    go [] e = refl
    go (b ∷ due) e = absurd (let clash : Some (Put n (take MAX_HAND_OUT (b ∷ due))) ≡ None = e in cc)

no_put : (devices : DeviceTable) (n : ℕ) (row : Option Client) → HasNone (offered_to devices row) → put_to devices n row ≡ None
no_put devices n None none = refl
no_put devices n (Some client) none = ap (put_of n) none

no_send : (t : ℕ) (row : Option Link) → HasNone (due_on row) → send_on t row ≡ None
no_send t None none = refl
no_send t (Some link) none = ap (λ (due : List ℕ). send_on t (Some (record link { due = due }))) none

-- where no client is handed anything next nothing is offered to any
none_put : (devices : DeviceTable) (clients : Rows (Option Client)) (k c n : ℕ) → first_put devices clients c k ≡ None → c ≤ n → n < c + k
    → put_to devices n (clients n) ≡ None
none_put devices clients zero c n none low high = absurd (omega (arith, low, high))
none_put devices clients (suc k) c n none low high =
    go (put_to devices c (clients c)) refl none (cases_eq c n)
    (λ later other. none_put devices clients k (suc c) n later (omega (arith, low, other)) (omega (arith, high)))
  where
    go : (o : Option Entry) → put_to devices c (clients c) ≡ o
        → option_or o (first_put devices clients (suc c) k) ≡ None → (c ≡ n) ⊎ (c ≢ n)
        → (first_put devices clients (suc c) k ≡ None → c ≢ n → put_to devices n (clients n) ≡ None) → put_to devices n (clients n) ≡ None
    go (Some e) is none which rest = absurd (let clash : Some e ≡ None = none in cc)
    go None is none (inl same) rest = subst (λ (m : ℕ). put_to devices m (clients m) ≡ None) same is
    go None is none (inr other) rest = rest none other

-- who is handed something next of the clients is no link
put_owner : (devices : DeviceTable) (clients : Rows (Option Client)) (k c t : ℕ)
    → option_and_then owner_of (first_put devices clients c k) ≡ Some (owner.Link t) → ⊥
put_owner devices clients zero c t e = let clash : None ≡ Some (owner.Link t) = e in cc
put_owner devices clients (suc k) c t e = by_row (clients c) e (put_owner devices clients k (suc c) t)
  where
    by_due : (due : List ℕ)
        → option_and_then owner_of (option_or (put_of c due) (first_put devices clients (suc c) k))
        ≡ Some (owner.Link t)
        → (option_and_then owner_of (first_put devices clients (suc c) k) ≡ Some (owner.Link t) → ⊥) → ⊥
    by_due [] found later = later found
    by_due (b ∷ due) found later = let clash : Some (owner.Client c) ≡ Some (owner.Link t) = found in cc

    by_row : (row : Option Client) → option_and_then owner_of
        (option_or (put_to devices c row) (first_put devices clients (suc c) k)) ≡ Some (owner.Link t)
        → (option_and_then owner_of (first_put devices clients (suc c) k) ≡ Some (owner.Link t) → ⊥) → ⊥
    by_row None found later = later found
    by_row (Some client) found later = by_due (offered devices client) found later

module _ (parts : Parts) (runs : IsRunning parts) (down : NoneDown parts) where
  -- next is one of the clients
  next_put : (h : History) → Holds h parts → next_out (state h) ≡ first_put (state h).devices (state h).clients 1 (state h).joined
  next_put h holds = ap (λ (o : Option Entry). option_or o (first_put (state h).devices (state h).clients 1 (state h).joined)) none_sent
    where
      one : (state h).devices.drawn ≡ 1
      one = let counts = (counted h).plugged in let single = holds.one in omega (arith, counts, single)

      none_sent : first_send (state h).links 1 (state h).devices.drawn ≡ None
      none_sent =
          ap (first_send (state h).links 1) one
          ∙ ap (λ (o : Option Entry). option_or o None) (no_send 1 ((state h).links 1) (down h holds))

  joined : (h : History) → Holds h parts → (state h).joined ≡ parts.given
  joined h holds = let counts = (counted h).joined in let came = holds.came in omega (arith, counts, came)

  all_none : (h : History) → Holds h parts → next_out (state h) ≡ None → (c : ℕ) (session : Session) → 0 < c
      → at c parts.sessions.entries ≡ Some session → HasNone (offered_to (state h).devices ((state h).clients c))
  all_none h holds none c session past is =
      let kept = (subst (IsKeptAt parts.given h c) is (holds.sessions c)).0 in
      let drawn = joined h holds in
      let within = kept.1 in
      none_offered (state h).devices c ((state h).clients c)
      (none_put (state h).devices (state h).clients (state h).joined 1 c (sym (next_put h holds) ∙ none)
      (omega (arith, past)) (omega (arith, within, drawn)))

  pub none_owed : ((h : History) → IsLawful parts.hub h → next_out (state h) ≡ entry_of None (state h)) → NoneHanded 0 parts
  none_owed entry h holds c session past is = all_none h holds (entry h holds.lawful) c session past is

  pub no_link : (t : ℕ) → ((h : History) → IsLawful parts.hub h → Some (owner.Link t) ≡ option_and_then owner_of (next_out (state h))) → ⊥
  no_link t named =
      let h = runs.history in
      put_owner (state h).devices (state h).clients (state h).joined 1 t
      (ap (option_and_then owner_of) (sym (next_put h runs.holds)) ∙ sym (named h runs.holds.lawful))

  module _ (n : ℕ) (named : (h : History) → IsLawful parts.hub h → Some (owner.Client n) ≡ option_and_then owner_of (next_out (state h)))
      (entry : (h : History) → IsLawful parts.hub h → next_out (state h) ≡ entry_of (Some (owner.Client n)) (state h)) where
    nothing : (h : History) → IsLawful parts.hub h → put_to (state h).devices n ((state h).clients n) ≡ None → ⊥
    nothing h lawful none =
        let clash : Some (owner.Client n) ≡ None = named h lawful ∙ ap (option_and_then owner_of) (entry h lawful ∙ none) in cc

    pub is_owed : IsOwed n parts
    is_owed h holds none = nothing h holds.lawful (no_put (state h).devices n ((state h).clients n) none)

    pub is_there : is_some (at n parts.sessions.entries) ≡ true
    is_there = go ((state h).clients n) refl
      where
        h : History
        h = runs.history

        drawn : (client : Client) → (state h).clients n ≡ Some client → (m : ℕ) → m ≡ n → (0 < m) × (m ≤ parts.given)
        drawn client is zero same =
            absurd (let clash : None ≡ Some client = sym (orderly h runs.holds.lawful.legal).clients.zero
            ∙ (ap (state h).clients same ∙ is) in cc)
        drawn client is (suc m) same = (omega arith, by (cases_lt (state h).joined (suc m)))
          where
            by : ((state h).joined < suc m) ⊎ (suc m ≤ (state h).joined) → suc m ≤ parts.given
            by (inl past) =
                absurd (let clash : None ≡ Some client =
                sym ((orderly h runs.holds.lawful.legal).clients.above (suc m) past) ∙ (ap (state h).clients same ∙ is) in cc)
            by (inr le) = let all = joined h runs.holds in omega (arith, le, all)

        go : (o : Option Client) → (state h).clients n ≡ o → is_some (at n parts.sessions.entries) ≡ true
        go None is = absurd (nothing h runs.holds.lawful (ap (put_to (state h).devices n) is))
        go (Some client) is = by (there h parts runs.holds n within.0 within.1)
          where
            within : (0 < n) × (n ≤ parts.given)
            within = drawn client is n refl

            by : IsThere h parts n ⊎ IsOver parts.given h n → is_some (at n parts.sessions.entries) ≡ true
            by (inl t) = ap is_some t.is
            by (inr over) = absurd (let clash : None ≡ Some client = sym over.gone ∙ is in cc)

-- ---- what is due to that session is handed to it
pub hands_next : AllStay → (old mid new : Parts) (runs : IsRunning old) (max n : ℕ) (moved : Bool) → mid ≡ old
    → is_some (at n old.sessions.entries) ≡ true → IsOwed n old
    → ((h : History) → Holds h mid → Moves (λ (x : List ℕ). Put n x) max (to_hand_out mid h n) moved h mid new)
    → Goes (NoneHanded 0) moved old new
hands_next stays old mid new runs max n true same there owed moves =
    behind_none old mid new same
    (runs_on stays (λ (x : List ℕ). Put n x) max (λ (h : History). to_hand_out mid h n) mid new (runs_still old mid same runs)
    (puts_step n mid (subst (λ (p : Parts). is_some (at n p.sessions.entries) ≡ true) (sym same) there)) moves)
hands_next stays old mid new runs max n false same there owed moves =
    absurd (owed runs.history runs.holds (moves runs.history (subst (Holds runs.history) (sym same) runs.holds)).1)
