-- The opening of a stream, when more packets come.
use Rattle.std.proofs.Common.{◌≡◌, ℕ, zero, suc, Bool, true, false, cond, List, [], ◌∷◌, ◌++◌, Option, Some, None, sym, ap, subst, ◌∙◌}
use Rattle.std.proofs.Common.{append_assoc, arith}
use Rattle.std.proofs.lemmas.Bool.{eq-eqb, ne_eqb}
use Rattle.std.specs.Prelude.{nat_eq, ◌==◌, not, ◌&&◌}
use Rattle.std.proofs.lemmas.List.{append-nil}
use Rattle.adb_wire.specs.declared.command.Command.{Command}
use Rattle.adb_wire.specs.declared.command.Command.TheVariants.{Cnxn, Open, Okay, Wrte, Clse, Auth, Stls}
use Rattle.adb_wire.specs.declared.packets.Packet.{Packet}
use Rattle.adb_history.specs.Links.{credit_word}
use Rattle.adb_history.specs.Births.{Opening, is_between, opening_by, opening_in, remote_in}

-- an opening with more packets after it
abbrev pub opened_with : List Packet → Opening → Opening
opened_with more o = record o { later = o.later ++ more }

-- What opens a stream stays its opening, whatever comes.
pub opening_stays : (l : ℕ) (ps more : List Packet) (o : Opening) → opening_in l ps ≡ Some o
    → opening_in l (ps ++ more) ≡ Some (opened_with more o)
opening_stays l [] more o is = absurd (let clash : None ≡ Some o = is in cc)
opening_stays l (p ∷ ps) more o is = by p.command is (λ e. opening_stays l ps more o e)
  where
    Later : Type 0
    Later = opening_in l ps ≡ Some o → opening_in l (ps ++ more) ≡ Some (opened_with more o)

    okay : (b : Bool) → cond b (Some (record { remote = p.arg0; word = credit_word p.payload; later = ps }))
        (opening_in l ps) ≡ Some o → Later
        → cond b (Some (record { remote = p.arg0; word = credit_word p.payload; later = ps ++ more }))
        (opening_in l (ps ++ more)) ≡ Some (opened_with more o)
    okay true e later =
        let same : record { remote = p.arg0; word = credit_word p.payload; later = ps } ≡ o = cc in
        ap (λ (x : Opening). Some (opened_with more x)) same
    okay false e later = later e

    closed : (b : Bool) → cond b None (opening_in l ps) ≡ Some o → Later
        → cond b None (opening_in l (ps ++ more)) ≡ Some (opened_with more o)
    closed true e later = absurd (let clash : None ≡ Some o = e in cc)
    closed false e later = later e

    by : (command : Command) → opening_by command l p ps (opening_in l ps) ≡ Some o → Later
        → opening_by command l p (ps ++ more) (opening_in l (ps ++ more)) ≡ Some (opened_with more o)
    by Okay e later = okay (nat_eq p.arg1 l && not (p.arg0 == 0)) e later
    by Clse e later = closed (is_between 0 l p) e later
    by Cnxn e later = absurd (let clash : None ≡ Some o = e in cc)
    by Open e later = later e
    by Wrte e later = later e
    by Auth e later = later e
    by Stls e later = later e

-- ---- what was heard of a stream
-- a packet says nothing of the opening of a stream
abbrev pub Skips : ℕ → Packet → Type 0
Skips l p = (later : List Packet) (others : Option Opening) → opening_by p.command l p later others ≡ others

-- a packet opens a stream, by that id
pub record OpensBy (l : ℕ) (p : Packet) (remote : ℕ) : Type 0 where
  pub okay : p.command ≡ Okay
  pub to : p.arg1 ≡ l
  pub from : p.arg0 ≡ remote

-- packets opened a stream, by that id
pub record OpenedBy (l : ℕ) (ps : List Packet) (remote : ℕ) : Type 0 where
  pub opening : Opening
  pub is : opening_in l ps ≡ Some opening
  pub remote_is : opening.remote ≡ remote

-- What packets said of a stream: nothing yet, where its device's id is not known; else its opening.
abbrev pub IsHeard : ℕ → ℕ → List Packet → Type 0
IsHeard l zero ps = (later : List Packet) → opening_in l (ps ++ later) ≡ opening_in l later
IsHeard l (suc remote) ps = OpenedBy l ps (suc remote)

pub heard_remote : (l remote : ℕ) (ps : List Packet) → IsHeard l remote ps → remote_in (opening_in l ps) ≡ remote
heard_remote l zero ps h = ap remote_in (ap (opening_in l) (sym (append-nil ps)) ∙ h [])
heard_remote l (suc remote) ps h = ap remote_in h.is ∙ h.remote_is

-- What packets add to what was said of a stream.
abbrev pub Hears : (l : ℕ) → List Packet → (before after : ℕ) → Type 0
Hears l more before after = (ps : List Packet) → IsHeard l before ps → IsHeard l after (ps ++ more)

pub hears_nothing : (l remote : ℕ) → Hears l [] remote remote
hears_nothing l zero ps h = λ later. ap (λ (x : List Packet). opening_in l (x ++ later)) (append-nil ps) ∙ h later
hears_nothing l (suc remote) ps h =
    record { opening = h.opening; is = ap (opening_in l) (append-nil ps) ∙ h.is; remote_is = h.remote_is }

pub hears_then : (l : ℕ) (first second : List Packet) (a b c : ℕ) → Hears l first a b → Hears l second b c → Hears l (first ++ second) a c
hears_then l first second a b c h k ps heard =
    subst (IsHeard l c) (append_assoc ps first second) (k (ps ++ first) (h ps heard))

-- an open stream stays so
pub hears_open : (l : ℕ) (more : List Packet) (remote : ℕ) → Hears l more (suc remote) (suc remote)
hears_open l more remote ps h = record {
  opening = opened_with more h.opening;
  is = opening_stays l ps more h.opening h.is;
  remote_is = h.remote_is;
}

-- a packet that says nothing of it
pub hears_other : (l : ℕ) (p : Packet) (remote : ℕ) → Skips l p → Hears l (p ∷ []) remote remote
hears_other l p zero skips =
    λ ps h later. ap (opening_in l) (append_assoc ps (p ∷ []) later) ∙ (h (p ∷ later) ∙ skips later (opening_in l later))
hears_other l p (suc remote) skips = hears_open l (p ∷ []) remote

-- the packet that opens it
pub hears_opening : (l : ℕ) (p : Packet) (remote : ℕ) → OpensBy l p (suc remote) → Hears l (p ∷ []) 0 (suc remote)
hears_opening l p remote o ps h = record {
  opening = record { remote = p.arg0; word = credit_word p.payload; later = [] };
  is = h (p ∷ []) ∙ by p.command o.okay;
  remote_is = o.from;
}
  where
    some : suc remote ≡ 0 → ⊥
    some e = omega (arith, e)

    test : (nat_eq p.arg1 l && not (p.arg0 == 0)) ≡ true
    test = ap (λ (b : Bool). b && not (p.arg0 == 0)) (eq-eqb p.arg1 l o.to) ∙ ap not (ne_eqb p.arg0 0 (λ none. some (sym o.from ∙ none)))

    by : (command : Command) → command ≡ Okay
        → opening_by command l p [] None ≡ Some (record { remote = p.arg0; word = credit_word p.payload; later = [] })
    by Okay e = ap (λ (b : Bool). cond b (Some (record { remote = p.arg0; word = credit_word p.payload; later = [] })) None) test
    by Clse e = absurd (let clash : Clse ≡ Okay = e in cc)
    by Cnxn e = absurd (let clash : Cnxn ≡ Okay = e in cc)
    by Open e = absurd (let clash : Open ≡ Okay = e in cc)
    by Wrte e = absurd (let clash : Wrte ≡ Okay = e in cc)
    by Auth e = absurd (let clash : Auth ≡ Okay = e in cc)
    by Stls e = absurd (let clash : Stls ≡ Okay = e in cc)
