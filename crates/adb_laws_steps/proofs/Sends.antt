-- What the packets of the streams of a link cost.
use Rattle.std.specs.Prelude.{ℕ, ◌+◌, ◌*◌, ◌≡◌, ◌≤◌, ◌<◌, zero, suc, Bool, true, false, cond, nat_lt, min, All, List, [], ◌∷◌, ◌++◌, length}
use Rattle.std.specs.Prelude.{Option, Some, None, slice_get}
use Rattle.std.proofs.Common.{refl, sym, ap, arith, ◌∙◌, inl, inr}
use Rattle.std.proofs.lemmas.Bool.{lt-ltb}
use Rattle.std.proofs.lemmas.List.{length-append}
use Rattle.std.proofs.lemmas.List.Elements.{All-nil, All-cons, All-head, All-tail}
use Rattle.adb_wire.specs.declared.command.Command.{Command}
use Rattle.adb_wire.specs.declared.command.Command.TheVariants.{Cnxn, Open, Okay, Wrte, Clse, Auth, Stls}
use Rattle.adb_wire.specs.declared.packets.Packet.{Packet}
use Rattle.adb_history.specs.Births.{Birth, births, born, carried_in, is_open, is_wrte}
use Rattle.adb_history.specs.Fifo.{HasBirths, IsOwn}
use Rattle.adb_history.specs.Lives.{packets_of}
use Rattle.adb_history.specs.Machine.{History, state, IsLegal}
use Rattle.adb_history.specs.Streams.{stream_ids}
use Rattle.adb_laws_births.proofs.Born.{all_births}
use Rattle.adb_laws_births.proofs.Crossing.{owes_own}
use Rattle.adb_laws_fifo_up.proofs.BirthSteps.{born_drawn}
use Rattle.adb_laws_steps.proofs.Parts.{part, IsWithin}
use Rattle.adb_laws_steps.proofs.Sizes.{stream_share, OpensWithin, share_within}

-- a stream whose number was drawn was born
pub record WasBorn (l : ℕ) (h : History) : Type 0 where
  pub birth : Birth
  pub is : born l h ≡ Some birth

-- what stands in a list is found
none_past : (bs : List Birth) (k : ℕ) → k < length bs → slice_get bs k ≡ None → ⊥
none_past [] k less is = omega (arith, less)
none_past (b ∷ bs) zero less is = let clash : Some b ≡ None = is in cc
none_past (b ∷ bs) (suc k) less is = none_past bs k (omega (arith, less)) is

pub was_born : (l : ℕ) (h : History) → HasBirths h → 0 < l → l ≤ (state h).drawn → WasBorn l h
was_born zero h has some le = absurd (omega (arith, some))
was_born (suc k) h has some le = go (slice_get (births h) k) refl
  where
    few : suc k ≤ min (length (births h)) stream_ids
    few = let drawn = has.drawn in omega (arith, le, drawn)

    test : nat_lt k stream_ids ≡ true
    test = lt-ltb k stream_ids (omega (arith, few))

    go : (o : Option Birth) → slice_get (births h) k ≡ o → WasBorn (suc k) h
    go None is = absurd (none_past (births h) k (omega (arith, few)) is)
    go (Some b) is = record { birth = b; is = ap (λ (x : Bool). cond x (slice_get (births h) k) None) test ∙ is }

module _ (h : History) (legal : IsLegal h) where
  pub own : All (λ p. IsOwn h 1 p.command p) (packets_of 1 h)
  own = (owes_own h legal).own 1

  pub drawn_for : (l : ℕ) (b : Birth) → born l h ≡ Some b → (0 < l) × (l ≤ (state h).drawn)
  drawn_for l b is = born_drawn l b h (all_births h legal) is

  -- what has a share is of a stream that was drawn
  pub all_within : (ps : List Packet) → All (λ p. IsOwn h 1 p.command p) ps → All (IsWithin stream_share (λ p. p.arg0) (state h).drawn) ps
  all_within [] all = All-nil (IsWithin stream_share (λ p. p.arg0) (state h).drawn)
  all_within (p ∷ ps) all =
      All-cons (IsWithin stream_share (λ p. p.arg0) (state h).drawn) p ps
      (go p.command refl (All-head (λ p. IsOwn h 1 p.command p) p ps all))
      (all_within ps (All-tail (λ p. IsOwn h 1 p.command p) p ps all))
    where
      none : (c : Command) → p.command ≡ c → cond (is_wrte c) (53 * length p.payload) 0 + cond (is_open c) (76 + length p.payload) 0 ≡ 0
          → stream_share p ≡ 0
      none c e zeroth =
          ap (λ (k : Command). cond (is_wrte k) (53 * length p.payload) 0
          + cond (is_open k) (76 + length p.payload) 0) e ∙ zeroth

      go : (c : Command) → p.command ≡ c → IsOwn h 1 c p → IsWithin stream_share (λ p. p.arg0) (state h).drawn p
      go Open e of = inr (drawn_for p.arg0 of.birth of.is)
      go Wrte e of = inr (drawn_for p.arg0 of.birth of.is)
      go Okay e of = inl (none Okay e refl)
      go Clse e of = inl (none Clse e refl)
      go Cnxn e of = inl (none Cnxn e refl)
      go Auth e of = absurd of
      go Stls e of = absurd of

  -- the OPEN of a stream has its service and a NUL
  opens_within : (l : ℕ) (b : Birth) → born l h ≡ Some b → (ps : List Packet) → All (λ p. IsOwn h 1 p.command p) ps
      → All (OpensWithin l (77 + length b.service)) ps
  opens_within l b birth [] all = All-nil (OpensWithin l (77 + length b.service))
  opens_within l b birth (p ∷ ps) all =
      All-cons (OpensWithin l (77 + length b.service)) p ps (go p.command refl (All-head (λ p. IsOwn h 1 p.command p) p ps all))
      (opens_within l b birth ps (All-tail (λ p. IsOwn h 1 p.command p) p ps all))
    where
      clash : (c : Command) → p.command ≡ c → is_open c ≡ false → OpensWithin l (77 + length b.service) p
      clash c e lacks is from = absurd (let x : true ≡ false = sym is ∙ (ap is_open e ∙ lacks) in cc)

      go : (c : Command) → p.command ≡ c → IsOwn h 1 c p → OpensWithin l (77 + length b.service) p
      go Open e of is from =
          let found : Some of.birth ≡ Some b = sym of.is ∙ (ap (λ (n : ℕ). born n h) from ∙ birth) in
          let same : of.birth ≡ b = cc in
          let payload : length p.payload ≡ length b.service + 1 =
          ap (λ (q : Packet). length q.payload) of.packet
          ∙ (ap (λ (c : Birth). length (c.service ++ 0 ∷ [])) same ∙ length-append b.service (0 ∷ [])) in
          omega (arith, payload)
      go Wrte e of is from = clash Wrte e refl is from
      go Okay e of is from = clash Okay e refl is from
      go Clse e of is from = clash Clse e refl is from
      go Cnxn e of is from = clash Cnxn e refl is from
      go Auth e of is from = absurd of
      go Stls e of is from = absurd of

  -- a stream pays its share
  pub share_now : (l : ℕ) (b : Birth) → born l h ≡ Some b
      → part stream_share (λ p. p.arg0) l (packets_of 1 h) ≤ 53 * length (carried_in l (packets_of 1 h)) + (77 + length b.service)
  share_now l b is =
      share_within l (77 + length b.service) (packets_of 1 h) ((owes_own h legal).once 1 l) (opens_within l b is (packets_of 1 h) own)
