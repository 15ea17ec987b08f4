-- A stream that is gone asks for nothing more.
use Rattle.std.specs.Prelude.{ℕ, ◌+◌, ◌≡◌, ◌≢◌, ◌≤◌, ◌<◌, ◌&&◌, Bool, true, false, cond, is_some, nat_eq, List, [], ◌∷◌, ◌++◌, Option, None}
use Rattle.std.specs.Prelude.{option_and_then}
use Rattle.std.proofs.Common.{refl, sym, ◌∙◌, ap, arith, inl, inr}
use Rattle.std.proofs.lemmas.Bool.{ne_eqb}
use Rattle.adb_outside.specs.Tables.{Rows, change_row}
use Rattle.adb_wire.specs.declared.command.Command.{Command}
use Rattle.adb_wire.specs.declared.packets.Packet.{Packet}
use Rattle.adb_capture.specs.declared.entry.Entry.{Entry}
use Rattle.adb_capture.specs.declared.entry.Entry.TheVariants.{Join, Enter, Read, Attach}
use Rattle.adb_stream.specs.declared.row.Stream.{Stream}
use Rattle.adb_history.specs.Births.{count_from}
use Rattle.adb_history.specs.Events.{Event, due_to_client, due_to_link, ended, packets_to}
use Rattle.adb_history.specs.Lives.{packets_of}
use Rattle.adb_history.specs.Machine.{History, state, told, told_at}
use Rattle.adb_history.specs.Moves.{IsOfStream}
use Rattle.adb_history.specs.Rows.{State}
use Rattle.adb_history.proofs.PlainMoves.{Plain, plain_moves}
use Rattle.adb_history.proofs.RuleMoves.{Begins, step_kept}
use Rattle.adb_laws_births.proofs.Once.{count_append, packets_append}
use Rattle.adb_laws_steps.specs.Owed.{asks}

-- A stream was drawn and is gone, and nothing that was told asks for it, or goes on with it.
pub record IsUnsent (l : ℕ) (s : State) (w : List Event) : Type 0 where
  pub gone : s.streams l ≡ None
  pub drawn : l ≤ s.drawn
  pub unasked : count_from asks l (packets_to 1 w) ≡ 0

-- Behind more entries it is gone still, and as much asks for it as before.
pub record StaysUnsent (l : ℕ) (h g : History) : Type 0 where
  pub gone : (state g).streams l ≡ None
  pub drawn : l ≤ (state g).drawn
  pub asked : count_from asks l (packets_of 1 g) ≡ count_from asks l (packets_of 1 h)

module _ (l : ℕ) (some : 0 < l) where
  row_gone : (rows : Rows (Option Stream)) (k : ℕ) (f : Stream → Option Stream) → rows l ≡ None
      → change_row k (option_and_then f) rows l ≡ None
  row_gone rows k f none = go (nat_eq k l)
    where
      go : (b : Bool) → cond b (option_and_then f (rows l)) (rows l) ≡ None
      go true = ap (option_and_then f) none
      go false = none

  and_no : (b : Bool) → (b && false) ≡ false
  and_no true = refl
  and_no false = refl

  -- a packet that is not of a stream
  apart : (p : Packet) → p.arg0 ≢ l → (asks p.command && nat_eq p.arg0 l) ≡ false
  apart p other = ap (λ (b : Bool). asks p.command && b) (ne_eqb p.arg0 l other) ∙ and_no (asks p.command)

  told_unasked : (w : List Event) (e : Event) → count_from asks l (packets_to 1 w) ≡ 0 → count_from asks l (packets_to 1 (e ∷ [])) ≡ 0
      → count_from asks l (packets_to 1 (w ++ e ∷ [])) ≡ 0
  told_unasked w e before now =
      let all : count_from asks l (packets_to 1 (w ++ e ∷ []))
      ≡ count_from asks l (packets_to 1 w) + count_from asks l (packets_to 1 (e ∷ [])) =
      ap (count_from asks l) (packets_append 1 w (e ∷ [])) ∙ count_append asks l (packets_to 1 w) (packets_to 1 (e ∷ [])) in
      omega (arith, all, before, now)

  -- a packet of no stream, or of one that lives, or a CNXN, is none of this one
  no_such : (s : State) (p : Packet) → s.streams l ≡ None → IsOfStream s.streams p
      → (asks p.command && nat_eq p.arg0 l) ≡ false
  no_such s p gone (inl zeroth) = apart p (λ same. omega (arith, same, zeroth, some))
  no_such s p gone (inr (inl lives)) = apart p (λ same.
      let clash : false ≡ true = sym (ap is_some (ap s.streams same ∙ gone)) ∙ lives in cc)
  no_such s p gone (inr (inr cnxn)) =
      ap (λ (c : Command). asks c && nat_eq p.arg0 l) cnxn

  unsent_plain : Plain (IsUnsent l)
  unsent_plain = record {
    tells_link = λ t p check s w of h. record {
      gone = h.gone;
      drawn = h.drawn;
      unasked = told_unasked w (due_to_link t p check) h.unasked (asks_link (nat_eq t 1) p (no_such s p h.gone of));
    };
    tells_client = λ c bytes s w h. record {
      gone = h.gone;
      drawn = h.drawn;
      unasked = told_unasked w (due_to_client c bytes) h.unasked refl;
    };
    tells_end = λ k ending s w h. record {
      gone = h.gone;
      drawn = h.drawn;
      unasked = told_unasked w (ended k ending) h.unasked refl;
    };
    client = λ c f s w h. record { gone = h.gone; drawn = h.drawn; unasked = h.unasked };
    link = λ t f s w h. record { gone = h.gone; drawn = h.drawn; unasked = h.unasked };
    stream = λ k f s w h. record { gone = row_gone s.streams k f h.gone; drawn = h.drawn; unasked = h.unasked };
    draws = λ credit c t s w h. record {
      gone = (let le = h.drawn in put_gone (s.drawn + 1) s.streams _ (λ same. omega (arith, same, le)) h.gone);
      drawn = (let le = h.drawn in omega (arith, le));
      unasked = h.unasked;
    };
    marks = λ s w h. record { gone = h.gone; drawn = h.drawn; unasked = h.unasked };
    devices = λ rows s w h. record { gone = h.gone; drawn = h.drawn; unasked = h.unasked };
    forwards = λ forwards s w h. record { gone = h.gone; drawn = h.drawn; unasked = h.unasked };
    kills = λ c s w h. record { gone = refl; drawn = h.drawn; unasked = h.unasked };
  }
    where
      asks_link : (b : Bool) (p : Packet) → (asks p.command && nat_eq p.arg0 l) ≡ false → count_from asks l (cond b (p ∷ []) []) ≡ 0
      asks_link true p off = ap (λ (c : Bool). cond c (1 + 0) 0) off
      asks_link false p off = refl

      put_gone : (n : ℕ) (rows : Rows (Option Stream)) (row : Option Stream) → n ≢ l → rows l ≡ None → cond (nat_eq n l) row (rows l) ≡ None
      put_gone n rows row other gone = ap (λ (b : Bool). cond b row (rows l)) (ne_eqb n l other) ∙ gone

  begins : (e : Entry) (s : State) (w : List Event) → IsUnsent l s w → Begins (plain_moves unsent_plain) e s w
  begins (Join c) s w h = record { gone = h.gone; drawn = h.drawn; unasked = h.unasked }
  begins (Enter c port) s w h = (
    record { gone = h.gone; drawn = h.drawn; unasked = h.unasked },
    record { gone = h.gone; drawn = h.drawn; unasked = h.unasked },
  )
  begins (Attach t kind serial) s w h = record { gone = h.gone; drawn = h.drawn; unasked = h.unasked }
  begins (Read c bytes) s w h = (h, λ client is asking. record { gone = h.gone; drawn = h.drawn; unasked = h.unasked })
  begins _ s w h = h

  -- what is behind an entry
  one_unsent : (e : Entry) (older : History) → (state older).streams l ≡ None → l ≤ (state older).drawn
      → IsUnsent l (state (e ∷ older)) (told_at e older)
  one_unsent e older gone le =
      step_kept (plain_moves unsent_plain) e (state older) []
      (begins e (state older) [] (record { gone = gone; drawn = le; unasked = refl }))

  pub all_unsent : (more h : History) → (state h).streams l ≡ None → l ≤ (state h).drawn → StaysUnsent l h (more ++ h)
  all_unsent [] h gone le = record { gone = gone; drawn = le; asked = refl }
  all_unsent (e ∷ more) h gone le =
      let before = all_unsent more h gone le in
      let now = one_unsent e (more ++ h) before.gone before.drawn in
      record {
        gone = now.gone;
        drawn = now.drawn;
        asked = (
            let all : count_from asks l (packets_of 1 (e ∷ (more ++ h)))
            ≡ count_from asks l (packets_of 1 (more ++ h)) + count_from asks l (packets_to 1 (told_at e (more ++ h))) =
            ap (count_from asks l) (packets_append 1 (told (more ++ h)) (told_at e (more ++ h)))
            ∙ count_append asks l (packets_of 1 (more ++ h)) (packets_to 1 (told_at e (more ++ h))) in
            let none = now.unasked in
            let old = before.asked in
            omega (arith, all, none, old));
      }
