-- Clients that ask: they came by themselves, their input goes on, and all that became due to them are the replies.
use Rattle.std.proofs.Common.{◌≡◌, ◌≢◌, ℕ, Bool, true, false, cond, not, ◌||◌, List, ◌∷◌, ◌++◌, length, Option, Some, None, refl, sym, ap}
use Rattle.std.proofs.Common.{subst, ◌∙◌}
use Rattle.std.specs.Prelude.{nat_eq}
use Rattle.std.proofs.lemmas.Bool.{eq-eqb, ne_eqb}
use Rattle.adb_client.specs.declared.phase.Phase.{Phase}
use Rattle.adb_client.specs.declared.phase.Phase.TheVariants.{Asking}
use Rattle.adb_client.specs.declared.about.Want.{Want}
use Rattle.adb_capture.specs.declared.entry.Entry.{Entry}
use Rattle.adb_capture.specs.declared.entry.Entry.TheVariants.{Join, Read, End, Bound}
use Rattle.adb_history.specs.Rows.{Client}
use Rattle.adb_history.specs.Asking.{Asked, asks_with}
use Rattle.adb_history.specs.Machine.{History, state, IsLegal}
use Rattle.adb_history.specs.Bytes.{has_joined, has_ended}
use Rattle.adb_history.specs.Book.{book, asked, is_asking, asked_with, bound_turn, devices_if, still_asks}
use Rattle.adb_history.specs.Births.{joined}
use Rattle.adb_history.specs.Lives.{output_of}
use Rattle.adb_history.proofs.Books.{booked, all_books}
use Rattle.adb_history.specs.Reading.{asked_before, asks}
use Rattle.adb_history.specs.Tied.{bytes_asked}
use Rattle.adb_history.proofs.Booked.{said, asks_in, asks_now, SameAsked}
use Rattle.adb_registry.specs.Registry.{DeviceTable}
use Rattle.adb_history.proofs.Waiting.{is_waiting}
use Rattle.adb_history.proofs.Asked.{behind, Unused, asks_unused}
use Rattle.adb_history.proofs.BookReads.{none_next, and_parts, asked_all}

-- a client that asks, as it is told
pub record AsksAsTold (h : History) (c : ℕ) (k : Client) : Type 0 where
  pub forwarded : k.about.forwarded ≡ false
  pub ended : k.about.ended ≡ false
  pub output : length (output_of c h) ≡ length (asked c h).replies

abbrev pub AllAsk : History → Type 0
AllAsk h = (c : ℕ) (k : Client) → (state h).clients c ≡ Some k → k.about.phase ≡ Asking → AsksAsTold h c k

-- ---- what asks was asking before
-- the book says of a client that asks that it does
pub is_said : (h : History) → IsLegal h → (c : ℕ) (k : Client) → (state h).clients c ≡ Some k → k.about.phase ≡ Asking
    → (said c h).asking ≡ true
is_said h legal c k here asks = go (state h).stopped refl
  where
    go : (b : Bool) → (state h).stopped ≡ b → (said c h).asking ≡ true
    go true off = absurd (let clash : true ≡ false = sym (ap is_waiting asks) ∙ (booked h legal).idle off c k here in cc)
    go false on = sym ((booked h legal).clients on c).asks ∙ (ap asks_now here ∙ ap asks_in asks)

-- a row that asks
pub record AskingRow (o : Option Client) : Type 0 where
  pub client : Client
  pub is : o ≡ Some client
  pub asks : client.about.phase ≡ Asking

pub asking_row : (o : Option Client) → asks_now o ≡ true → AskingRow o
asking_row None e = absurd (let clash : false ≡ true = e in cc)
asking_row (Some k) e = record { client = k; is = refl; asks = go k.about.phase refl e }
  where
    go : (phase : Phase) → k.about.phase ≡ phase → asks_in phase ≡ true → k.about.phase ≡ Asking
    go Asking is f = is
    go _ is f = absurd (let clash : false ≡ true = f in cc)

or_false : (a b : Bool) → not (a || b) ≡ true → not b ≡ true
or_false true b e = absurd (let clash : false ≡ true = e in cc)
or_false false b e = e

-- one that asks after an entry by which it did not come
pub joined_before : (e : Entry) (older : History) (c : ℕ) → (e ≢ Join c) → has_joined c (e ∷ older) ≡ true → has_joined c older ≡ true
joined_before (Join n) older c other joined = ap (λ b. b || has_joined c older) (sym (ne_eqb n c (λ same. other (ap Join same)))) ∙ joined
joined_before _ older c other joined = joined

pub not_ended_before : (e : Entry) (older : History) (c : ℕ) → not (has_ended c (e ∷ older)) ≡ true → not (has_ended c older) ≡ true
not_ended_before (End n cause) older c on = or_false (nat_eq n c) (has_ended c older) on
not_ended_before _ older c on = on

-- what it asked before, by entries that are not its own
pub asked_before_is : (e : Entry) (older : History) (c : ℕ) → ((bytes : List ℕ) → e ≢ Read c bytes) → asked c (e ∷ older) ≡ asked c older
asked_before_is (Read n bytes) older c other = ap (λ b. cond b
    (asked_with (is_asking n older (book older)) (devices_if (book older).killed older) (book older).forwards bytes ((book older).asked n))
    ((book older).asked c))
    (ne_eqb n c (λ same. other bytes (ap (λ i. Read i bytes) same)))
asked_before_is (Bound n port) older c other = go ((book older).waits n)
  where
    go : (o : Option Want) → (bound_turn n port (devices_if (book older).killed older) o (book older)).asked c ≡ (book older).asked c
    go None = refl
    go (Some want) = refl
asked_before_is _ older c other = refl

-- ---- what a client that asks reads
module _ (c : ℕ) (bytes : List ℕ) (older : History) (legal : IsLegal (Read c bytes ∷ older)) where
  module _ (k : Client) (here : (state older).clients c ≡ Some k) (asking : k.about.phase ≡ Asking) where
    abbrev pub now_said : Asked
    now_said = asks_with (state older).devices (state older).forwards bytes (asked_before k)

    pub was_said : (said c older).asking ≡ true
    was_said = is_said older legal.0 c k here asking

    pub same_said : SameAsked (said c older) k
    same_said = ((booked older legal.0).clients legal.2.0 c).same k here asking

    pub parts : (has_joined c older ≡ true) × (not (has_ended c older) ≡ true) × (still_asks (asked c older) ≡ true)
    parts = and_parts (has_joined c older) (not (has_ended c older)) (still_asks (asked c older)) was_said

    pub open_before : (asked c older).next ≡ None
    open_before = none_next (asked c older).next parts.2

    -- what it asked is what it asked before and what it asks now
    pub asked_now : asked c (Read c bytes ∷ older) ≡ behind (asked c older) now_said
    asked_now =
        let books = all_books older legal.0 in
        ap (λ b. cond b
        (asked_with (is_asking c older (book older)) (devices_if (book older).killed older)
        (book older).forwards bytes ((book older).asked c))
        ((book older).asked c)) (eq-eqb c c refl)
        ∙ (ap (λ b. asked_with b (devices_if (book older).killed older) (book older).forwards bytes ((book older).asked c)) was_said
        ∙ (ap (λ (d : DeviceTable). asks_with d (book older).forwards bytes (asked c older)) (sym books.devices)
        ∙ (ap (λ f. asks_with (state older).devices f bytes (asked c older)) (sym books.forwards)
        ∙ asked_all c bytes k (state older) (asked c older) here asking same_said.rest same_said.selected open_before)))

    -- the bytes that were read of it, past its requests
    pub unused_now : Unused (bytes_asked c older ++ bytes) (asked c (Read c bytes ∷ older))
    unused_now =
        let books = all_books older legal.0 in
        subst (Unused (bytes_asked c older ++ bytes))
        (sym (asked_now
        ∙ sym (asked_all c bytes k (state older) (asked c older) here asking same_said.rest same_said.selected
        open_before)))
        (asks_unused (state older).devices (state older).forwards (bytes_asked c older) bytes (asked c older) same_said.unused)
