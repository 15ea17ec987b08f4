-- What one more packet makes of the opening of a stream, and of what was told to it.
use Rattle.std.proofs.Common.{ℕ, ◌≡◌, Bool, true, false, cond, List, [], ◌∷◌, ◌++◌, Some, None, refl, sym, ◌∙◌, ap, subst, eqb}
use Rattle.std.proofs.Common.{append_assoc}
use Rattle.std.proofs.lemmas.List.{append-nil}
use Rattle.std.specs.Prelude.{◌&&◌, not}
use Rattle.adb_outside.specs.Bytes.{IsPrefixOf}
use Rattle.adb_wire.specs.declared.command.Command.{Command}
use Rattle.adb_wire.specs.declared.command.Command.TheVariants.{Cnxn, Okay, Clse}
use Rattle.adb_wire.specs.declared.packets.Packet.{Packet}
use Rattle.adb_history.specs.Links.{credit_word}
use Rattle.adb_history.specs.Births.{Opening, opening_by, opening_in, told_in, before_close, is_close_of, is_between, is_wrte, joined}
use Rattle.adb_laws_fifo_down.specs.Life.{IsPending, IsSealed}

abbrev pub later_too : List Packet → Opening → Opening
later_too more o = record o { later = o.later ++ more }

-- an opening stays, with the packets after it
pub opening_stays : (l : ℕ) (packets more : List Packet) (o : Opening) → opening_in l packets ≡ Some o
    → opening_in l (packets ++ more) ≡ Some (later_too more o)
opening_stays l [] more o e = absurd (let clash : None ≡ Some o = e in cc)
opening_stays l (p ∷ packets) more o e = by p.command e (λ f. opening_stays l packets more o f)
  where
    okay : (c : Bool) → cond c (Some (record { remote = p.arg0; word = credit_word p.payload; later = packets }))
        (opening_in l packets) ≡ Some o
        → (opening_in l packets ≡ Some o → opening_in l (packets ++ more) ≡ Some (later_too more o))
        → cond c (Some (record { remote = p.arg0; word = credit_word p.payload; later = packets ++ more })) (opening_in l (packets ++ more))
        ≡ Some (later_too more o)
    okay true e rest =
        let same : record { remote = p.arg0; word = credit_word p.payload; later = packets } ≡ o =
        let both : Some (record { remote = p.arg0; word = credit_word p.payload; later = packets }) ≡ Some o = e in cc in
        ap (λ (x : Opening). Some (later_too more x)) same
    okay false e rest = rest e

    close : (c : Bool) → cond c None (opening_in l packets) ≡ Some o → (opening_in l packets ≡ Some o
        → opening_in l (packets ++ more) ≡ Some (later_too more o))
        → cond c None (opening_in l (packets ++ more)) ≡ Some (later_too more o)
    close true e rest = absurd (let clash : None ≡ Some o = e in cc)
    close false e rest = rest e

    by : (c : Command) → opening_by c l p packets (opening_in l packets) ≡ Some o
        → (opening_in l packets ≡ Some o → opening_in l (packets ++ more) ≡ Some (later_too more o))
        → opening_by c l p (packets ++ more) (opening_in l (packets ++ more)) ≡ Some (later_too more o)
    by Okay e rest = okay (eqb p.arg1 l && not (eqb p.arg0 0)) e rest
    by Clse e rest = close (is_between 0 l p) e rest
    by Cnxn e rest = absurd (let clash : None ≡ Some o = e in cc)
    by _ e rest = rest e

-- ---- a packet that neither opens nor closes, and one that closes
pub pending_on : (l : ℕ) (packets : List Packet) (p : Packet) → IsPending l packets
    → ((more : List Packet) → opening_in l (p ∷ more) ≡ opening_in l more)
    → IsPending l (packets ++ p ∷ [])
pending_on l packets p h passes more = ap (opening_in l) (append_assoc packets (p ∷ []) more) ∙ (h (p ∷ more) ∙ passes more)

pub sealed_by : (l : ℕ) (packets : List Packet) (p : Packet) → IsPending l packets → ((more : List Packet) → opening_in l (p ∷ more) ≡ None)
    → IsSealed l (packets ++ p ∷ [])
sealed_by l packets p h seals more = ap (opening_in l) (append_assoc packets (p ∷ []) more) ∙ (h (p ∷ more) ∙ seals more)

pub sealed_on : (l : ℕ) (packets more : List Packet) → IsSealed l packets → IsSealed l (packets ++ more)
sealed_on l packets more h others = ap (opening_in l) (append_assoc packets more others) ∙ h (more ++ others)

pub sealed_now : (l : ℕ) (packets : List Packet) → IsSealed l packets → opening_in l packets ≡ None
sealed_now l packets h = ap (opening_in l) (sym (append-nil packets)) ∙ h []

pub pending_now : (l : ℕ) (packets : List Packet) → IsPending l packets → opening_in l packets ≡ None
pending_now l packets h = ap (opening_in l) (sym (append-nil packets)) ∙ h []

pub opened_by : (l : ℕ) (packets : List Packet) (p : Packet) (o : Opening) → IsPending l packets → opening_in l (p ∷ []) ≡ Some o
    → opening_in l (packets ++ p ∷ []) ≡ Some o
opened_by l packets p o h is = h (p ∷ []) ∙ is

-- ---- what was told
told_one : (here : Bool) (payload : List ℕ) (xs ys zs : List (List ℕ)) → xs ≡ ys ++ zs
    → cond here (payload ∷ xs) xs ≡ cond here (payload ∷ ys) ys ++ zs
told_one true payload xs ys zs e = ap (λ (us : List (List ℕ)). payload ∷ us) e
told_one false payload xs ys zs e = e

pub told_append : (remote l : ℕ) (packets more : List Packet)
    → told_in remote l (packets ++ more) ≡ told_in remote l packets ++ told_in remote l more
told_append remote l [] more = refl
told_append remote l (p ∷ packets) more =
    told_one (is_wrte p.command && is_between remote l p) p.payload (told_in remote l (packets ++ more))
    (told_in remote l packets) (told_in remote l more)
    (told_append remote l packets more)

pub joined_append : (xs ys : List (List ℕ)) → joined (xs ++ ys) ≡ joined xs ++ joined ys
joined_append [] ys = refl
joined_append (x ∷ xs) ys = ap (λ (zs : List ℕ). x ++ zs) (joined_append xs ys) ∙ sym (append_assoc x (joined xs) (joined ys))

pub told_more : (remote l : ℕ) (packets more : List Packet)
    → joined (told_in remote l (packets ++ more)) ≡ joined (told_in remote l packets) ++ joined (told_in remote l more)
told_more remote l packets more =
    ap joined (told_append remote l packets more) ∙ joined_append (told_in remote l packets) (told_in remote l more)

pub front_more : (bytes whole more : List ℕ) → IsPrefixOf bytes whole → IsPrefixOf bytes (whole ++ more)
front_more bytes whole more (rest, is) = (rest ++ more, sym (append_assoc bytes rest more) ∙ ap (λ (x : List ℕ). x ++ more) is)

pub front_later : (remote l : ℕ) (packets more : List Packet) (bytes : List ℕ) → IsPrefixOf bytes (joined (told_in remote l packets))
    → IsPrefixOf bytes (joined (told_in remote l (packets ++ more)))
front_later remote l packets more bytes h =
    subst (IsPrefixOf bytes) (sym (told_more remote l packets more))
    (front_more bytes (joined (told_in remote l packets)) (joined (told_in remote l more)) h)

-- ---- what comes before a close
pub unclosed_on : (remote l : ℕ) (packets more : List Packet) → before_close remote l packets ≡ packets
    → before_close remote l (packets ++ more) ≡ packets ++ before_close remote l more
unclosed_on remote l [] more e = refl
unclosed_on remote l (p ∷ packets) more e = by (is_close_of remote l p) e (λ f. unclosed_on remote l packets more f)
  where
    by : (c : Bool) → cond c [] (p ∷ before_close remote l packets) ≡ p ∷ packets
        → (before_close remote l packets ≡ packets → before_close remote l (packets ++ more) ≡ packets ++ before_close remote l more)
        → cond c [] (p ∷ before_close remote l (packets ++ more)) ≡ p ∷ (packets ++ before_close remote l more)
    by true e rest = absurd (let clash : [] ≡ p ∷ packets = e in cc)
    by false e rest = ap (λ (xs : List Packet). p ∷ xs) (rest (cc))
