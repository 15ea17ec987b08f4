-- The OPEN of each stream becomes due by the very entry by which it is born.
use Rattle.std.proofs.Common.{◌≡◌, ℕ, ◌+◌, ◌<◌, zero, suc, Bool, true, false, cond, List, [], ◌∷◌, ◌++◌, length, Some, None, refl, sym, ap}
use Rattle.std.proofs.Common.{subst}
use Rattle.std.proofs.Common.{◌∙◌, inl, inr, arith}
use Rattle.std.specs.Prelude.{nat_lt, slice_get, Contains}
use Rattle.std.proofs.lemmas.Bool.{eq-eqb}
use Rattle.std.proofs.lemmas.Bool.Decides.{nat_tests}
use Rattle.std.proofs.lemmas.List.{append-nil}
use Rattle.std.proofs.lemmas.List.Elements.{Contains-append_right}
use Rattle.adb_wire.specs.declared.packets.Packet.{Packet}
use Rattle.adb_capture.specs.declared.entry.Entry.{Entry}
use Rattle.adb_capture.specs.declared.entry.Entry.TheVariants.{Enter, Read}
use Rattle.adb_history.specs.Rows.{State}
use Rattle.adb_history.specs.Events.{Event, due_to_link, packets_to}
use Rattle.adb_history.specs.Links.{open_packet}
use Rattle.adb_history.specs.Streams.{stream_ids}
use Rattle.adb_history.specs.Machine.{History, state, rule, ups, step, told_at, IsLegal}
use Rattle.adb_history.specs.Births.{Birth, births_at, births, born}
use Rattle.adb_history.specs.Opened.{AsksFor, AsksAtOnce}
use Rattle.adb_laws_births.specs.Drawing.{Draws, Makes}
use Rattle.adb_laws_births.specs.Born.{AreBorn}
use Rattle.adb_laws_births.proofs.Drawing.{makes_goes, reads_make, enters_make}
use Rattle.adb_laws_births.proofs.Born.{goes_ups, all_born}
use Rattle.adb_laws_births.proofs.Once.{packets_append}

-- what stands in a list with one element more, and stood nowhere before, is the last one
slice_last : {X : Type 0} (xs : List X) (y x : X) (k : ℕ) → slice_get xs k ≡ None
    → slice_get (xs ++ y ∷ []) k ≡ Some x → (k ≡ length xs) × (y ≡ x)
slice_last {X} [] y x zero none is = (refl, cc)
slice_last {X} [] y x (suc k) none is = absurd (let clash : None ≡ Some x = is in cc)
slice_last {X} (z ∷ xs) y x zero none is = absurd (let clash : Some z ≡ None = none in cc)
slice_last {X} (z ∷ xs) y x (suc k) none is = let later = slice_last xs y x k none is in (ap suc later.0, later.1)

-- a packet that became due among others
due_among : (t : ℕ) (p : Packet) (check : ℕ) (first last : List Event) → Contains (packets_to t (first ++ due_to_link t p check ∷ last)) p
due_among t p check first last =
    subst (λ (ps : List Packet). Contains ps p) (sym (packets_append t first (due_to_link t p check ∷ last)))
    (Contains-append_right (packets_to t first) (packets_to t (due_to_link t p check ∷ last)) p
    (rw (eq-eqb t t refl) (0, omega arith, refl)))

-- ---- an entry
module _ (e : Entry) (older : History) where
  abbrev s : State
  s = state older

  -- no stream is born
  same_born : births_at e older ≡ [] → (l : ℕ) → born l (e ∷ older) ≡ born l older
  same_born none zero = refl
  same_born none (suc k) = ap (λ (bs : List Birth). cond (nat_lt k stream_ids) (slice_get bs k) None)
      (ap (λ (bs : List Birth). births older ++ bs) none ∙ append-nil (births older))

  pub none_asked : births_at e older ≡ [] → AsksFor e older
  none_asked none l b before now =
      absurd (let clash : None ≡ Some b = sym before ∙ (sym (same_born none l) ∙ now) in cc)

  -- the stream that is born has the next number
  next_born : (x b : Birth) (l : ℕ) → births_at e older ≡ x ∷ [] → born l older ≡ None → born l (e ∷ older) ≡ Some b
      → (l ≡ suc (length (births older))) × (x ≡ b) × (length (births older) < stream_ids)
  next_born x b zero at_e before now = absurd (let clash : None ≡ Some b = now in cc)
  next_born x b (suc k) at_e before now = go (nat_lt k stream_ids) refl before now
    where
      go : (c : Bool) → nat_lt k stream_ids ≡ c → cond c (slice_get (births older) k) None ≡ None
          → cond c (slice_get (births older ++ births_at e older) k) None ≡ Some b
          → (suc k ≡ suc (length (births older))) × (x ≡ b) × (length (births older) < stream_ids)
      go false off none is = absurd (let clash : None ≡ Some b = is in cc)
      go true on none is =
          let last = slice_last (births older) x b k none (ap (λ (bs : List Birth). slice_get (births older ++ bs) k) (sym at_e) ∙ is) in
          let within : k < stream_ids = grind (arith, nat_tests) in
          (ap suc last.0, last.1, omega (arith, within, last.0))

  module _ (has : AreBorn older) (x : Birth) (at_e : births_at e older ≡ x ∷ []) where
    drawn_asked : Draws s.streams s.drawn x (step s e)
        → Contains (packets_to x.link (told_at e older)) (open_packet x.credit (s.drawn + 1) x.service)
    drawn_asked d =
        let p : Packet = open_packet x.credit (s.drawn + 1) x.service in
        subst (λ (w : List Event). Contains (packets_to x.link w) p) (sym d.told_is) (due_among x.link p d.check d.first d.last)

    opens_asked : Makes s.streams s.drawn (x ∷ []) (step s e) → AsksFor e older
    opens_asked (inl full) l b before now =
        let new = next_born x b l at_e before now in absurd (omega (arith, full.0, has.drawn, new.2))
    opens_asked (inr some) l b before now =
        let new = next_born x b l at_e before now in
        let number : s.drawn + 1 ≡ l = omega (arith, has.drawn, new.0, new.2) in
        subst (λ (y : Birth). Contains (packets_to y.link (told_at e older)) (open_packet y.credit l y.service)) new.1
        (subst (λ (n : ℕ). Contains (packets_to x.link (told_at e older)) (open_packet x.credit n x.service)) number (drawn_asked some.1))

  pub makes_asked : AreBorn older → (bs : List Birth) → births_at e older ≡ bs → Makes s.streams s.drawn bs (step s e) → AsksFor e older
  makes_asked has [] is h = none_asked is
  makes_asked has (x ∷ []) is h = opens_asked has x is h
  makes_asked has (x ∷ y ∷ bs) is h = absurd h

-- ---- all entries
rule_asked : (e : Entry) (older : History) → IsLegal (e ∷ older)
    → Makes (state older).streams (state older).drawn (births_at e older) (rule e (state older)) → AsksFor e older
rule_asked e older l h = makes_asked e older (all_born older l.0) (births_at e older) refl
    (makes_goes (state older).streams (state older).drawn (births_at e older) (rule e (state older)) ups h (goes_ups older l.0 e l))

asks_for_its : (e : Entry) (older : History) → IsLegal (e ∷ older) → AsksFor e older
asks_for_its (Read c bytes) older l =
    rule_asked (Read c bytes) older l (reads_make older l.0 c bytes l.2 ((state older).clients c) refl)
asks_for_its (Enter c port) older l = rule_asked (Enter c port) older l (enters_make older l.0 c port)
asks_for_its e older l = none_asked e older refl

-- In every legal history each stream is asked for at once.
pub asks_at_once : (h : History) → IsLegal h → AsksAtOnce h
asks_at_once [] legal = tt
asks_at_once (e ∷ older) legal = (asks_at_once older legal.0, asks_for_its e older legal)
