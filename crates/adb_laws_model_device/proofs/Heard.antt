-- An open stream has heard all OKAYs that its device sent it.
use Rattle.std.proofs.Common.{◌≡◌, ◌≢◌, ℕ, ◌+◌, ◌≤◌, zero, suc, Bool, true, false, cond, List}
use Rattle.std.proofs.Common.{[], ◌∷◌, length, take, drop, Some, None, refl, sym, ap}
use Rattle.std.proofs.Common.{subst, ◌∙◌, arith, ◌⊎◌, inl, inr}
use Rattle.std.specs.Prelude.{◌&&◌, not, nat_eq, nat_lt, ◌==◌, All, slice_get}
use Rattle.std.proofs.lemmas.Bool.{eqb-true, eq-eqb}
use Rattle.std.proofs.lemmas.List.{length-append, take-append-le, take-append-drop}
use Rattle.std.proofs.lemmas.List.Elements.{All-head, All-tail}
use Rattle.adb_wire.specs.declared.command.Command.{Command}
use Rattle.adb_wire.specs.declared.command.Command.TheVariants.{Cnxn, Open, Okay, Wrte, Clse, Auth, Stls}
use Rattle.adb_wire.specs.declared.packets.Packet.{Packet}
use Rattle.adb_capture.specs.declared.entry.Entry.{Entry}
use Rattle.adb_history.specs.Links.{credit_word}
use Rattle.adb_history.specs.Streams.{stream_ids}
use Rattle.adb_history.specs.Machine.{History, IsLegal}
use Rattle.adb_history.specs.Bytes.{brought, sent}
use Rattle.adb_history.specs.Births.{Birth, Opening, births, born, opening_by, opening_in, is_between, count_from, is_okay, is_wrte}
use Rattle.adb_history.specs.Births.{is_open}
use Rattle.adb_history.specs.Fifo.{okays_in, IsOwn}
use Rattle.adb_laws_births.specs.Births.{birth_place}
use Rattle.adb_laws_births.specs.Brought.{ComeFirst, brought_grows}
use Rattle.adb_laws_births.proofs.Crossing.{no_crossing}
use Rattle.adb_laws_fifo_down.specs.Begins.{IsBornNow}
use Rattle.adb_laws_fifo_down.proofs.BornNow.{born_when}
use Rattle.adb_laws_model_device.specs.Counts.{is_okay_to, okays_to}
use Rattle.adb_laws_model_device.specs.Devices.{RemoteEnd, IsPlain}
use Rattle.adb_laws_model_device.specs.Paired.{IsPaired}
use Rattle.adb_laws_model_device.proofs.Counts.{many_more, many_front}

-- ---- all OKAYs behind the opening are the device's own
module _ (l r : ℕ) where
  -- an OKAY to the stream comes from this id
  abbrev From : Packet → Type 0
  From p = is_okay p.command ≡ true → p.arg1 ≡ l → p.arg0 ≡ r

  -- OKAYs that all come from one id are those of it
  all_from : (ps : List Packet) → All From ps → okays_to l ps ≤ okays_in r l ps
  all_from [] from = omega arith
  all_from (p ∷ ps) from = go (is_okay p.command) refl (nat_eq p.arg1 l) refl (all_from ps (All-tail From p ps from))
    where
      go : (a : Bool) → is_okay p.command ≡ a → (c : Bool) → nat_eq p.arg1 l ≡ c → okays_to l ps ≤ okays_in r l ps
          → cond (a && c) (1 + okays_to l ps) (okays_to l ps) ≤ cond (a && (nat_eq p.arg0 r && c)) (1 + okays_in r l ps) (okays_in r l ps)
      go true e true f le =
          let same : nat_eq p.arg0 r ≡ true = eq-eqb p.arg0 r (All-head From p ps from e (eqb-true p.arg1 l f)) in
          subst (λ (b : Bool). 1 + okays_to l ps ≤ cond (b && true) (1 + okays_in r l ps) (okays_in r l ps)) (sym same) (omega (arith, le))
      go true e false f le = and_no (nat_eq p.arg0 r)
        where
          and_no : (b : Bool) → okays_to l ps ≤ cond (b && false) (1 + okays_in r l ps) (okays_in r l ps)
          and_no true = le
          and_no false = le
      go false e c f le = le

  -- where all OKAYs come from one id, an open stream heard all of them
  pub opened_hears : r ≢ 0 → (ps : List Packet) → All From ps → (o : Opening) → opening_in l ps ≡ Some o
      → okays_to l ps ≤ 1 + okays_in o.remote l o.later
  opened_hears some [] from o is = omega arith
  opened_hears some (p ∷ ps) from o is =
      by p.command refl is (λ e. opened_hears some ps (All-tail From p ps from) o e)
    where
      Later : Type 0
      Later = opening_in l ps ≡ Some o → okays_to l ps ≤ 1 + okays_in o.remote l o.later

      other : is_okay p.command ≡ false → opening_in l ps ≡ Some o → Later → okays_to l (p ∷ ps) ≤ 1 + okays_in o.remote l o.later
      other e f later =
          subst (λ (b : Bool). cond (b && nat_eq p.arg1 l) (1 + okays_to l ps) (okays_to l ps)
          ≤ 1 + okays_in o.remote l o.later) (sym e) (later f)

      okay : (c : Bool) → nat_eq p.arg1 l ≡ c → (z : Bool) → (p.arg0 == 0) ≡ z → p.command ≡ Okay
          → cond (c && not z) (Some (record { remote = p.arg0; word = credit_word p.payload; later = ps })) (opening_in l ps) ≡ Some o
          → Later → okays_to l (p ∷ ps) ≤ 1 + okays_in o.remote l o.later
      okay true here false e k f later =
          let same : record { remote = p.arg0; word = credit_word p.payload; later = ps } ≡ o = cc in
          let own : p.arg0 ≡ r = All-head From p ps from (ap is_okay k) (eqb-true p.arg1 l here) in
          let one : okays_to l (p ∷ ps) ≡ 1 + okays_to l ps =
          ap (λ c. cond (is_okay c && nat_eq p.arg1 l) (1 + okays_to l ps) (okays_to l ps)) k
          ∙ ap (λ b. cond b (1 + okays_to l ps) (okays_to l ps)) here in
          subst (λ (x : Opening). okays_to l (p ∷ ps) ≤ 1 + okays_in x.remote l x.later) same
          (subst (λ (n : ℕ). okays_to l (p ∷ ps) ≤ 1 + okays_in n l ps) (sym own)
          (let few = all_from ps (All-tail From p ps from) in omega (arith, one, few)))
      okay true here true e k f later =
          absurd (some (sym (All-head From p ps from (ap is_okay k) (eqb-true p.arg1 l here)) ∙ eqb-true p.arg0 0 e))
      okay false here z e k f later =
          let one : okays_to l (p ∷ ps) ≡ okays_to l ps =
          ap (λ c. cond (is_okay c && nat_eq p.arg1 l) (1 + okays_to l ps) (okays_to l ps)) k
          ∙ ap (λ b. cond b (1 + okays_to l ps) (okays_to l ps)) here in
          (let rest = later f in omega (arith, one, rest))

      closed : (b : Bool) → is_okay p.command ≡ false → cond b None (opening_in l ps) ≡ Some o → Later
          → okays_to l (p ∷ ps) ≤ 1 + okays_in o.remote l o.later
      closed true e f later = absurd (let clash : None ≡ Some o = f in cc)
      closed false e f later = other e f later

      by : (command : Command) → p.command ≡ command → opening_by command l p ps (opening_in l ps) ≡ Some o → Later
          → okays_to l (p ∷ ps) ≤ 1 + okays_in o.remote l o.later
      by Okay k f later = okay (nat_eq p.arg1 l) refl (p.arg0 == 0) refl k f later
      by Clse k f later = closed (is_between 0 l p) (ap is_okay k) f later
      by Cnxn k f later = absurd (let clash : None ≡ Some o = f in cc)
      by _ k f later = other (ap is_okay k) f later

-- ---- nothing is sent of a stream that is not born
module _ (h : History) (l : ℕ) (unborn : born l h ≡ None) where
  -- an OPEN or a write is one of a stream that was born
  has_birth : (p : Packet) → (is_open p.command ≡ true) ⊎ (is_wrte p.command ≡ true) → IsOwn h 1 p.command p
      → (b : Birth) × (born p.arg0 h ≡ Some b)
  has_birth p such own = by p.command refl such own
    where
      no : (c : Command) → is_open c ≡ false → is_wrte c ≡ false → (is_open c ≡ true) ⊎ (is_wrte c ≡ true) → ⊥
      no c e f (inl g) = let clash : false ≡ true = sym e ∙ g in cc
      no c e f (inr g) = let clash : false ≡ true = sym f ∙ g in cc

      by : (c : Command) → p.command ≡ c → (is_open c ≡ true) ⊎ (is_wrte c ≡ true) → IsOwn h 1 c p → (b : Birth) × (born p.arg0 h ≡ Some b)
      by Open k s own = (own.birth, own.is)
      by Wrte k s own = (own.birth, own.is)
      by Okay k s own = absurd (no Okay refl refl s)
      by Clse k s own = absurd (no Clse refl refl s)
      by Cnxn k s own = absurd (no Cnxn refl refl s)
      by Auth k s own = absurd (no Auth refl refl s)
      by Stls k s own = absurd (no Stls refl refl s)

  -- so nothing such was sent of a stream that is not born
  none_such : (is_such : Command → Bool) → ((c : Command) → is_such c ≡ true → (is_open c ≡ true) ⊎ (is_wrte c ≡ true)) → (ps : List Packet)
      → All (λ p. IsOwn h 1 p.command p) ps → count_from is_such l ps ≡ 0
  none_such is_such either [] own = refl
  none_such is_such either (p ∷ ps) own =
      go (is_such p.command) refl (nat_eq p.arg0 l) refl (none_such is_such either ps (All-tail (λ q. IsOwn h 1 q.command q) p ps own))
    where
      go : (a : Bool) → is_such p.command ≡ a → (c : Bool) → nat_eq p.arg0 l ≡ c → count_from is_such l ps ≡ 0
          → cond (a && c) (1 + count_from is_such l ps) (count_from is_such l ps) ≡ 0
      go true e true f none =
          let b = has_birth p (either p.command e) (All-head (λ q. IsOwn h 1 q.command q) p ps own) in
          absurd (let clash : None ≡ Some b.0 = sym unborn ∙ (ap (λ n. born n h) (sym (eqb-true p.arg0 l f)) ∙ b.1) in cc)
      go true e false f none = none
      go false e c f none = none

-- ---- before its birth
-- nothing stands at the end of a list
past_end : {X : Type 0} (xs : List X) → slice_get xs (length xs) ≡ None
past_end {X} [] = refl
past_end {X} (x ∷ xs) = past_end xs

-- a stream that is born now was not born before
unborn_yet : (l : ℕ) (b : Birth) (e : Entry) (older : History) → IsBornNow l b e older → born l older ≡ None
unborn_yet l b e older now =
    subst (λ (n : ℕ). born n older ≡ None) (sym (now.number ∙ next (length (births older))))
    (go (nat_lt (length (births older)) stream_ids))
  where
    next : (n : ℕ) → n + 1 ≡ suc n
    next n = omega arith

    go : (t : Bool) → cond t (slice_get (births older) (length (births older))) None ≡ None
    go true = past_end (births older)
    go false = refl

-- what its link brought before a stream was born holds no OKAY to it
pub record IsPlaced (h : History) (l : ℕ) (b : Birth) : Type 0 where
  pub within : b.packets_before ≤ length (brought 1 h)
  pub none : okays_to l (take b.packets_before (brought 1 h)) ≡ 0

none_le : (n : ℕ) → n ≤ 0 → n ≡ 0
none_le n le = omega (arith, le)

module _ (owes : RemoteEnd) (plain : IsPlain owes) where
  -- a device acknowledges no stream that was not asked for
  pub placed : (h : History) → IsLegal h → IsPaired owes h → (l : ℕ) (b : Birth) → born l h ≡ Some b → b.link ≡ 1 → IsPlaced h l b
  placed [] legal paired l b is own = absurd (none l is)
    where
      by : (t : Bool) → cond t None None ≡ Some b → ⊥
      by true f = let clash : None ≡ Some b = f in cc
      by false f = let clash : None ≡ Some b = f in cc

      none : (l : ℕ) → born l [] ≡ Some b → ⊥
      none zero e = let clash : None ≡ Some b = e in cc
      none (suc j) e = by (nat_lt j stream_ids) e
  placed (e ∷ older) legal paired l b is own = go (born_when l b e older is) (λ was. placed older legal.0 paired.0 l b was own)
    where
      grown : ComeFirst (brought 1 older) (brought 1 (e ∷ older))
      grown = brought_grows 1 e older

      longer : length (brought 1 older) ≤ length (brought 1 (e ∷ older))
      longer = (let n = ap length grown.1 in let m = length-append (brought 1 older) grown.0 in omega (arith, n, m))

      same : b.packets_before ≤ length (brought 1 older) → take b.packets_before (brought 1 (e ∷ older))
          ≡ take b.packets_before (brought 1 older)
      same le = ap (take b.packets_before) (sym grown.1) ∙ take-append-le b.packets_before (brought 1 older) grown.0 le

      go : (born l older ≡ Some b) ⊎ IsBornNow l b e older → (born l older ≡ Some b → IsPlaced older l b) → IsPlaced (e ∷ older) l b
      go (inl was) before =
          let p = before was in
          record { within = (let le = p.within in omega (arith, le, longer)); none = ap (okays_to l) (same p.within) ∙ p.none }
      go (inr now) before =
          let place : b.packets_before ≡ length (brought 1 older) = birth_place e older b now.is ∙ ap (λ t. length (brought t older)) own in
          let unborn = unborn_yet l b e older now in
          let owned = (no_crossing older legal.0).own 1 in
          let opens = none_such older l unborn is_open (λ c s. inl s) (sent 1 older) owned in
          let writes = none_such older l unborn is_wrte (λ c s. inr s) (sent 1 older) owned in
          let acks = plain.acks l (sent 1 older) in
          let few = many_front (is_okay_to l) (brought 1 (e ∷ older)) (owes (sent 1 older)) paired.1 in
          let front : okays_to l (take b.packets_before (brought 1 (e ∷ older))) ≤ okays_to l (brought 1 (e ∷ older)) =
          subst (λ (ps : List Packet). okays_to l (take b.packets_before (brought 1 (e ∷ older))) ≤ okays_to l ps)
          (take-append-drop b.packets_before (brought 1 (e ∷ older)))
          (many_more (is_okay_to l) (take b.packets_before (brought 1 (e ∷ older))) (drop b.packets_before (brought 1 (e ∷ older)))) in
          record {
            within = omega (arith, place, longer);
            none = none_le (okays_to l (take b.packets_before (brought 1 (e ∷ older)))) (omega (arith, front, few, acks, opens, writes));
          }
