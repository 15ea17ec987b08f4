-- What an entry leaves of what the history tells of a stream.
use Rattle.std.proofs.Common.{◌≡◌, ◌-◌, ℕ, Bool, true, false, cond, not, ◌&&◌, ◌||◌, List, [], ◌∷◌, ◌++◌, length, drop, Option, Some, None}
use Rattle.std.proofs.Common.{refl, sym}
use Rattle.std.proofs.Common.{ap, ◌∙◌, eqb}
use Rattle.std.proofs.Common.{length-drop}
use Rattle.std.specs.Prelude.{nat_eq, is_some}
use Rattle.std.proofs.Math.Bool.{or-true}
use Rattle.std.proofs.lemmas.Bool.{eqb-true, eq-eqb, ne_eqb}
use Rattle.adb_wire.specs.declared.command.Command.{Command}
use Rattle.adb_wire.specs.declared.command.Command.TheVariants.{Cnxn, Okay, Clse}
use Rattle.adb_wire.specs.declared.packets.Packet.{Packet}
use Rattle.adb_client.specs.declared.phase.Phase.{Phase}
use Rattle.adb_client.specs.declared.phase.Phase.TheVariants.{Opening, Streaming}
use Rattle.adb_client.specs.declared.about.Want.{Want}
use Rattle.adb_capture.specs.declared.entry.Entry.{Entry}
use Rattle.adb_capture.specs.declared.entry.Entry.TheVariants.{Read, Bound, Recv, Put}
use Rattle.adb_history.specs.Rows.{Client}
use Rattle.adb_history.specs.Links.{credit_word}
use Rattle.adb_history.specs.Machine.{History, state, IsLegal}
use Rattle.adb_history.specs.Bytes.{is_lost, bytes_read, bytes_put, bytes_received}
use Rattle.adb_history.specs.Book.{book, asked, is_asking, asked_with, bound_turn, devices_if}
use Rattle.adb_history.specs.Births.{Birth, born, Opening as FirstOkay, opening_by, opening_in, opening_of, remote_in, remote_of, since}
use Rattle.adb_history.specs.Births.{is_between}
use Rattle.adb_history.specs.Births.{lead_of, handed_to}
use Rattle.adb_history.specs.Causes.{has_closed_since, is_close_by}
use Rattle.adb_history.specs.Moves.{HasOne}
use Rattle.adb_history.proofs.Books.{booked}
use Rattle.adb_history.proofs.Booked.{asks_in, asks_now}
use Rattle.adb_laws_causes.proofs.UntouchedEntries.{IsFar}

-- ---- the opening
pub opened_some : (l : ℕ) (packets : List Packet) (o : FirstOkay) → opening_in l packets ≡ Some o → nat_eq o.remote 0 ≡ false
opened_some l [] o is = absurd (let clash : None ≡ Some o = is in cc)
opened_some l (p ∷ packets) o is = go p.command is (opened_some l packets o)
  where
    here : (b : Bool) → eqb p.arg0 0 ≡ b → (a : Bool)
        → cond (a && not b) (Some (record { remote = p.arg0; word = credit_word p.payload; later = packets }))
        (opening_in l packets) ≡ Some o
        → (opening_in l packets ≡ Some o → nat_eq o.remote 0 ≡ false) → nat_eq o.remote 0 ≡ false
    here false e true f ih =
        let row : record { remote = p.arg0; word = credit_word p.payload; later = packets } ≡ o = cc in
        ap (λ (x : FirstOkay). nat_eq x.remote 0) (sym row) ∙ e
    here false e false f ih = ih f
    here true e true f ih = ih f
    here true e false f ih = ih f

    close : (b : Bool) → cond b None (opening_in l packets) ≡ Some o
        → (opening_in l packets ≡ Some o → nat_eq o.remote 0 ≡ false) → nat_eq o.remote 0 ≡ false
    close true e ih = absurd (let clash : None ≡ Some o = e in cc)
    close false e ih = ih e

    go : (command : Command) → opening_by command l p packets (opening_in l packets) ≡ Some o
        → (opening_in l packets ≡ Some o → nat_eq o.remote 0 ≡ false)
        → nat_eq o.remote 0 ≡ false
    go Okay e ih = here (eqb p.arg0 0) refl (nat_eq p.arg1 l) e ih
    go Clse e ih = close (is_between 0 l p) e ih
    go Cnxn e ih = absurd (let clash : None ≡ Some o = e in cc)
    go _ e ih = ih e

-- how many bytes were handed to the client of a stream whose device told this id
pub handed_is : (l : ℕ) (b : Birth) (h : History) (r : ℕ) → remote_of l b h ≡ r
    → length (handed_to l b h) ≡ cond (nat_eq r 0) 0 (length (bytes_put b.client h) - lead_of b h)
handed_is l b h r is = go (opening_of l b h) refl
  where
    go : (o : Option FirstOkay) → opening_of l b h ≡ o → length (handed_to l b h)
        ≡ cond (nat_eq r 0) 0 (length (bytes_put b.client h) - lead_of b h)
    go None e =
        let none : r ≡ 0 = sym is ∙ ap remote_in e in
        ap (λ o. length (cond (is_some o) (drop (lead_of b h) (bytes_put b.client h)) [])) e
        ∙ sym (ap (λ c. cond c 0 (length (bytes_put b.client h) - lead_of b h)) (eq-eqb r 0 none))
    go (Some o) e =
        let own : o.remote ≡ r = sym (ap remote_in e) ∙ is in
        ap (λ o. length (cond (is_some o) (drop (lead_of b h) (bytes_put b.client h)) [])) e
        ∙ (length-drop (lead_of b h) (bytes_put b.client h)
        ∙ sym (ap (λ c. cond c 0 (length (bytes_put b.client h) - lead_of b h))
        (ap (λ n. nat_eq n 0) (sym own) ∙ opened_some l (since b h) o e)))

-- ---- what a client asked
idle_in : (phase : Phase) → HasOne phase → asks_in phase ≡ false
idle_in (Opening l) has = refl
idle_in (Streaming l) has = refl
idle_in _ has = absurd has

-- of a client that has a stream no further request is read
not_asking : (c : ℕ) (k : Client) (older : History) → IsLegal older → (state older).stopped ≡ false
    → (state older).clients c ≡ Some k → HasOne k.about.phase
    → is_asking c older (book older) ≡ false
not_asking c k older legal on here has =
    sym (sym (ap asks_now here ∙ idle_in k.about.phase has) ∙ ((booked older legal).clients on c).asks)

pub asked_same : (e : Entry) (c : ℕ) (k : Client) (older : History) → IsLegal (e ∷ older)
    → (state older).clients c ≡ Some k → HasOne k.about.phase
    → asked c (e ∷ older) ≡ asked c older
asked_same (Read n bytes) c k older legal here has = go (eqb n c) refl
  where
    mine : n ≡ c → asked_with (is_asking n older (book older)) (devices_if (book older).killed older)
        (book older).forwards bytes ((book older).asked n)
        ≡ asked n older
    mine same =
        ap (λ b. asked_with b (devices_if (book older).killed older) (book older).forwards bytes ((book older).asked n))
        (not_asking n k older legal.0 legal.2.0 (ap (state older).clients same ∙ here) has)

    go : (b : Bool) → eqb n c ≡ b
        → cond b (asked_with (is_asking n older (book older)) (devices_if (book older).killed older)
        (book older).forwards bytes ((book older).asked n))
        ((book older).asked c) ≡ (book older).asked c
    go false e = refl
    go true e = mine (eqb-true n c e) ∙ ap (book older).asked (eqb-true n c e)
asked_same (Bound n port) c k older legal here has = go ((book older).waits n)
  where
    go : (o : Option Want) → (bound_turn n port (devices_if (book older).killed older) o (book older)).asked c ≡ (book older).asked c
    go None = refl
    go (Some want) = refl
asked_same _ c k older legal here has = refl

-- ---- what an entry does not change
pub record SameBytes (e : Entry) (older : History) (c t : ℕ) : Type 0 where
  pub received : bytes_received t (e ∷ older) ≡ bytes_received t older
  pub read : bytes_read c (e ∷ older) ≡ bytes_read c older
  pub put : bytes_put c (e ∷ older) ≡ bytes_put c older

pub far_bytes : (e : Entry) (older : History) (c t : ℕ) → IsFar c t e → SameBytes e older c t
far_bytes (Recv n bytes) older c t far = record {
  received = ap (λ b. cond (b && not (is_lost t older)) (bytes_received t older ++ bytes) (bytes_received t older)) (ne_eqb n t far);
  read = refl;
  put = refl;
}
far_bytes (Read n bytes) older c t far =
    record { received = refl; read = ap (λ b. cond b (bytes_read c older ++ bytes) (bytes_read c older)) (ne_eqb n c far); put = refl }
far_bytes (Put n bytes) older c t far =
    record { received = refl; read = refl; put = ap (λ b. cond b (bytes_put c older ++ bytes) (bytes_put c older)) (ne_eqb n c far) }
far_bytes _ older c t far = record { received = refl; read = refl; put = refl }

-- a client that closed before has closed
pub closed_before : (l c : ℕ) (e : Entry) (older : History) → has_closed_since l c older ≡ true → has_closed_since l c (e ∷ older) ≡ true
closed_before l c e older closed = ap (λ b. (is_some (born l older) && is_close_by c e) || b) closed
    ∙ or-true (is_some (born l older) && is_close_by c e)
