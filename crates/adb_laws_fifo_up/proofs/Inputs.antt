-- What a client wrote past its requests, when its stream is born.
use Rattle.std.proofs.Common.{◌≡◌, ℕ, Bool, true, false, cond, List, [], ◌∷◌, ◌++◌, Some, refl, sym, ap, subst, ◌∙◌, eqb}
use Rattle.std.specs.Prelude.{◌&&◌, ◌||◌, not}
use Rattle.std.proofs.lemmas.Bool.{eq-eqb}
use Rattle.adb_registry.specs.Registry.{DeviceTable}
use Rattle.adb_forward.specs.declared.row.ForwardRow.{ForwardRow}
use Rattle.adb_client.specs.declared.phase.Phase.TheVariants.{Asking}
use Rattle.adb_capture.specs.declared.entry.Entry.TheVariants.{Read, End}
use Rattle.adb_history.specs.Rows.{Client}
use Rattle.adb_history.specs.Asking.{Asked, asks_with}
use Rattle.adb_history.specs.Reading.{asked_before}
use Rattle.adb_history.specs.Machine.{History, state, IsLegal}
use Rattle.adb_history.specs.Bytes.{has_joined, has_ended, bytes_read}
use Rattle.adb_history.specs.Book.{book, devices, forwards, asked, asked_with, is_asking, still_asks}
use Rattle.adb_history.specs.Tied.{bytes_asked, IsBookOf}
use Rattle.adb_history.proofs.Asked.{Unused, asks_unused}
use Rattle.adb_history.proofs.Booked.{said, asks_now, asks_in, SameAsked, IsAs}
use Rattle.adb_history.proofs.BookReads.{none_next, and_parts, asked_all}
use Rattle.adb_history.proofs.Books.{booked, all_books}

or_none : (a b : Bool) → (a || b) ≡ false → b ≡ false
or_none true b e = let clash : true ≡ false = e in cc
or_none false b e = e

-- before its input ended, all that was read from a client is what it asked with
pub asked_is_read : (c : ℕ) (h : History) → has_ended c h ≡ false → bytes_asked c h ≡ bytes_read c h
asked_is_read c [] e = refl
asked_is_read c (Read n bytes ∷ older) e = go (eqb n c) (asked_is_read c older e)
  where
    go : (b : Bool) → bytes_asked c older ≡ bytes_read c older
        → cond (b && not (has_ended c older)) (bytes_asked c older ++ bytes) (bytes_asked c older)
        ≡ cond b (bytes_read c older ++ bytes) (bytes_read c older)
    go true same =
        ap (λ (x : Bool). cond (not x) (bytes_asked c older ++ bytes) (bytes_asked c older)) e ∙ ap (λ x. x ++ bytes) same
    go false same = same
asked_is_read c (End n cause ∷ older) e = asked_is_read c older (or_none (eqb n c) (has_ended c older) e)
asked_is_read c (_ ∷ older) e = asked_is_read c older e

not_true : (b : Bool) → not b ≡ true → b ≡ false
not_true true e = let clash : false ≡ true = e in cc
not_true false e = refl

pub read_here : (c : ℕ) (bytes : List ℕ) (older : History) → bytes_read c (Read c bytes ∷ older) ≡ bytes_read c older ++ bytes
read_here c bytes older = rw (eq-eqb c c refl) refl

-- A client that asks, and reads: what it has unread then is what was read from it past its whole requests.
pub record ReadsOn (c : ℕ) (bytes : List ℕ) (older : History) (x : Client) : Type 0 where
  pub unused : Unused (bytes_read c (Read c bytes ∷ older)) (asked c (Read c bytes ∷ older))
  pub rest : (asks_with (state older).devices (state older).forwards bytes (asked_before x)).rest ≡ (asked c (Read c bytes ∷ older)).rest

module _ (c : ℕ) (bytes : List ℕ) (older : History) (legal : IsLegal older) (on : (state older).stopped ≡ false)
    (x : Client) (here : (state older).clients c ≡ Some x) (asks : x.about.phase ≡ Asking) where
  pub reads_on : ReadsOn c bytes older x
  reads_on = record {
    unused = subst (λ (q : Asked). Unused (bytes_read c (Read c bytes ∷ older)) q) (sym now)
        (subst (λ (y : List ℕ). Unused y (asks_with (devices older) (forwards older) bytes (asked c older))) (sym input)
        (asks_unused (devices older) (forwards older) (bytes_asked c older) bytes (asked c older) as_said.unused));
    rest = sym (ap (λ (q : Asked). q.rest) (now
        ∙ (ap (λ (d : DeviceTable). asks_with d (forwards older) bytes (asked c older)) (sym books.devices)
        ∙ (ap (λ (f : List (ℕ × ForwardRow)). asks_with (state older).devices f bytes (asked c older)) (sym books.forwards)
        ∙ asked_all c bytes x (state older) (asked c older) here asks as_said.rest as_said.selected
        (none_next (asked c older).next parts.2)))));
  }
    where
      books : IsBookOf older
      books = all_books older legal

      as_is : IsAs ((state older).clients c) (said c older)
      as_is = (booked older legal).clients on c

      as_said : SameAsked (said c older) x
      as_said = as_is.same x here asks

      asking : (said c older).asking ≡ true
      asking = sym as_is.asks ∙ (ap asks_now here ∙ ap asks_in asks)

      parts : (has_joined c older ≡ true) × (not (has_ended c older) ≡ true) × (still_asks (asked c older) ≡ true)
      parts = and_parts (has_joined c older) (not (has_ended c older)) (still_asks (asked c older)) asking

      now : asked c (Read c bytes ∷ older) ≡ asks_with (devices older) (forwards older) bytes (asked c older)
      now = ap (λ (b : Bool). cond b
          (asked_with (is_asking c older (book older)) (devices older) (forwards older) bytes (asked c older))
          (asked c older))
          (eq-eqb c c refl)
          ∙ ap (λ (b : Bool). asked_with b (devices older) (forwards older) bytes (asked c older)) asking

      input : bytes_read c (Read c bytes ∷ older) ≡ bytes_asked c older ++ bytes
      input = read_here c bytes older ∙ ap (λ y. y ++ bytes) (sym (asked_is_read c older (not_true (has_ended c older) parts.1)))
