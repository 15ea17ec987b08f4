-- What a server sends of a stream comes in its turn: its OPEN first, once, and its writes to the id that the device told.
use Rattle.std.specs.Prelude.{ℕ, ◌+◌, ◌≡◌, ◌≢◌, ◌≤◌, ◌&&◌, Bool, true, false, cond, All, List, [], ◌∷◌, ◌++◌, nat_eq, Option, Some, None}
use Rattle.std.proofs.Common.{zero, suc, refl, sym, ◌∙◌, ap, subst, arith, ◌⊎◌, inl, inr}
use Rattle.std.proofs.lemmas.Bool.{eqb-true}
use Rattle.std.proofs.lemmas.List.Elements.{All-nil, All-cons, All-head, All-tail}
use Rattle.adb_wire.specs.declared.command.Command.{Command}
use Rattle.adb_wire.specs.declared.command.Command.TheVariants.{Wrte}
use Rattle.adb_wire.specs.declared.packets.Packet.{Packet}
use Rattle.adb_history.specs.Events.{packets_to}
use Rattle.adb_history.specs.Machine.{History, IsLegal, told, told_at}
use Rattle.adb_history.specs.Bytes.{brought, sent}
use Rattle.adb_history.specs.Births.{Birth, Opening, born, since, opening_of, remote_in, remote_of, count_from, is_wrte, is_open}
use Rattle.adb_history.specs.Fifo.{IsOwn}
use Rattle.adb_history.specs.Lives.{packets_of}
use Rattle.adb_laws_births.proofs.Once.{packets_append, count_append}
use Rattle.adb_laws_births.proofs.Crossing.{no_crossing, owes_own}
use Rattle.adb_laws_births.proofs.Laws.{sends_first}
use Rattle.adb_laws_model_device.specs.Counts.{is_okay_to, okays_to}
use Rattle.adb_laws_model_device.specs.Devices.{RemoteEnd, IsPlain}
use Rattle.adb_laws_model_device.specs.Paired.{IsPaired}
use Rattle.adb_laws_model_device.specs.InTurn.{AreInTurn, SentInTurn}
use Rattle.adb_laws_model_device.proofs.Counts.{many_front, many_drop, count_first, count_one, counted}
use Rattle.adb_laws_model_device.proofs.Timely.{opening_counts}

module _ (l : ℕ) where
  -- how many OPENs of the stream a packet is
  abbrev opens_in : Packet → ℕ
  opens_in p = count_from is_open l (p ∷ [])

  -- Writes come behind an OPEN, where there were so many before.
  abbrev Behind : ℕ → List Packet → Type 0
  Behind o [] = Unit {0}
  Behind o (p ∷ ps) = (is_wrte p.command ≡ true → p.arg0 ≡ l → 1 ≤ o) × Behind (o + opens_in p) ps

  -- behind an OPEN all may come
  behind_some : (ps : List Packet) (o : ℕ) → 1 ≤ o → Behind o ps
  behind_some [] o some = tt
  behind_some (p ∷ ps) o some = (λ e f. some, behind_some ps (o + opens_in p) (omega (arith, some)))

  -- two lists, one behind the other
  behind_append : (xs ys : List Packet) (o : ℕ) → Behind o xs → Behind (o + count_from is_open l xs) ys → Behind o (xs ++ ys)
  behind_append [] ys o first second = subst (λ (k : ℕ). Behind k ys) (let e : o + 0 ≡ o = omega arith in e) second
  behind_append (p ∷ xs) ys o first second =
      let sum = count_first is_open l p xs in (
        first.0,
        behind_append xs ys (o + opens_in p) first.1
            (subst (λ (k : ℕ). Behind k ys)
            (let e : o + count_from is_open l (p ∷ xs) ≡ (o + opens_in p) + count_from is_open l xs = omega (arith, sum) in e) second),
      )

  -- a front
  behind_front : (xs ys : List Packet) (o : ℕ) → Behind o (xs ++ ys) → Behind o xs
  behind_front [] ys o all = tt
  behind_front (p ∷ xs) ys o all = (all.0, behind_front xs ys (o + opens_in p) all.1)

  -- where there is no write nothing has to come before
  behind_none : (ps : List Packet) (o : ℕ) → count_from is_wrte l ps ≡ 0 → Behind o ps
  behind_none [] o none = tt
  behind_none (p ∷ ps) o none =
      let sum = count_first is_wrte l p ps in (
        λ e f. absurd (let one = count_one is_wrte l p e f in omega (arith, none, sum, one)),
        behind_none ps (o + opens_in p) (omega (arith, none, sum)),
      )

  -- where there is a write there is an OPEN
  opened_first : (ps : List Packet) (o : ℕ) → Behind o ps → 1 ≤ count_from is_wrte l ps → 1 ≤ o + count_from is_open l ps
  opened_first [] o behind some = absurd (omega (arith, some))
  opened_first (p ∷ ps) o behind some = go (counted is_wrte l p) (λ rest. opened_first ps (o + opens_in p) behind.1 rest)
    where
      go : (count_from is_wrte l (p ∷ []) ≡ 0) ⊎ ((is_wrte p.command ≡ true) × ((p.arg0 ≡ l) × (count_from is_wrte l (p ∷ []) ≡ 1)))
          → (1 ≤ count_from is_wrte l ps → 1 ≤ (o + opens_in p) + count_from is_open l ps) → 1 ≤ o + count_from is_open l (p ∷ ps)
      go (inl zeroth) later =
          let writes = count_first is_wrte l p ps in
          let opens = count_first is_open l p ps in
          let rest = later (omega (arith, some, writes, zeroth)) in
          omega (arith, rest, opens)
      go (inr one) later = (let before = behind.0 one.0 one.1.0 in omega (arith, before))

  -- and so too where there is one of the two
  asked_first : (ps : List Packet) → Behind 0 ps → 1 ≤ count_from is_open l ps + count_from is_wrte l ps → 1 ≤ count_from is_open l ps
  asked_first ps behind some = go (count_from is_wrte l ps) refl
    where
      go : (n : ℕ) → count_from is_wrte l ps ≡ n → 1 ≤ count_from is_open l ps
      go zero is = omega (arith, some, is)
      go (suc n) is = (let first = opened_first ps 0 behind (omega (arith, is)) in omega (arith, first))

  -- ---- a write is one of a stream whose device told its id
  -- a stream of the first link whose device told its id
  record HasTold (h : History) : Type 0 where
    birth : Birth
    link : birth.link ≡ 1
    told : remote_of l birth h ≢ 0

  -- where a write of a stream is due, its device told its id
  write_told : (h : History) (ps : List Packet) → All (λ p. IsOwn h 1 p.command p) ps → (count_from is_wrte l ps ≡ 0) ⊎ HasTold h
  write_told h [] own = inl refl
  write_told h (p ∷ ps) own =
      by p.command refl (All-head (λ q. IsOwn h 1 q.command q) p ps own) (write_told h ps (All-tail (λ q. IsOwn h 1 q.command q) p ps own))
    where
      Goal : Type 0
      Goal = (cond (is_wrte p.command && nat_eq p.arg0 l) (1 + count_from is_wrte l ps) (count_from is_wrte l ps) ≡ 0) ⊎ HasTold h

      other : is_wrte p.command ≡ false → (count_from is_wrte l ps ≡ 0) ⊎ HasTold h → Goal
      other e (inl none) = inl (ap (λ b. cond (b && nat_eq p.arg0 l) (1 + count_from is_wrte l ps) (count_from is_wrte l ps)) e ∙ none)
      other e (inr owner) = inr owner

      at : (b : Bool) → nat_eq p.arg0 l ≡ b → p.command ≡ Wrte → IsOwn h 1 p.command p → (count_from is_wrte l ps ≡ 0) ⊎ HasTold h → Goal
      at true e command one later =
          let of = subst (λ (c : Command). IsOwn h 1 c p) command one in
          inr (record {
            birth = of.birth;
            link = of.link;
            told =
                subst (λ (n : ℕ). remote_of n of.birth h ≢ 0) (eqb-true p.arg0 l e) of.told;
          })
      at false e command one (inr owner) = inr owner
      at false e command one (inl none) =
          inl (ap (λ c. cond (is_wrte c && nat_eq p.arg0 l) (1 + count_from is_wrte l ps) (count_from is_wrte l ps)) command
          ∙ (ap (λ b. cond b (1 + count_from is_wrte l ps) (count_from is_wrte l ps)) e ∙ none))

      by : (c : Command) → p.command ≡ c → IsOwn h 1 p.command p → (count_from is_wrte l ps ≡ 0) ⊎ HasTold h → Goal
      by Wrte e one later = at (nat_eq p.arg0 l) refl e one later
      by _ e one later = other (ap is_wrte e) later

  -- so an OKAY to it was brought
  told_okay : (h : History) → HasTold h → 1 ≤ okays_to l (brought 1 h)
  told_okay h x = subst (λ (t : ℕ). 1 ≤ okays_to l (brought t h)) x.link (go (opening_of l x.birth h) refl)
    where
      go : (o : Option Opening) → opening_of l x.birth h ≡ o → 1 ≤ okays_to l (brought x.birth.link h)
      go None e = absurd (x.told (ap remote_in e))
      go (Some o) e =
          let counts = opening_counts l (since x.birth h) o e in
          let fewer = many_drop (is_okay_to l) x.birth.packets_before (brought x.birth.link h) in
          omega (arith, counts, fewer)

  module _ (owes : RemoteEnd) (plain : IsPlain owes) where
    -- what becomes due of a stream comes behind its OPEN
    due_behind : (h : History) → IsLegal h → IsPaired owes h → Behind 0 (packets_of 1 h)
    due_behind [] legal paired = tt
    due_behind (e ∷ older) legal paired =
        go (write_told (e ∷ older) (packets_of 1 (e ∷ older)) ((owes_own (e ∷ older) legal).own 1)) (due_behind older legal.0 paired.0)
      where
        go : (count_from is_wrte l (packets_of 1 (e ∷ older)) ≡ 0) ⊎ HasTold (e ∷ older)
            → Behind 0 (packets_of 1 older) → Behind 0 (packets_of 1 (e ∷ older))
        go (inl none) before = behind_none (packets_of 1 (e ∷ older)) 0 none
        go (inr x) before =
            let first = (sends_first older legal.0 1).first in
            let okay = told_okay (e ∷ older) x in
            let brought_less = many_front (is_okay_to l) (brought 1 (e ∷ older)) (owes (sent 1 older)) paired.1 in
            let acks = plain.acks l (sent 1 older) in
            let grown : count_from is_open l (packets_of 1 older) ≡ count_from is_open l (sent 1 older) + count_from is_open l first.0 =
            ap (count_from is_open l) (sym first.1) ∙ count_append is_open l (sent 1 older) first.0 in
            let front = behind_front (sent 1 older) first.0 0 (subst (λ (ps : List Packet). Behind 0 ps) (sym first.1) before) in
            let asked = asked_first (sent 1 older) front (omega (arith, okay, brought_less, acks)) in
            subst (λ (ps : List Packet). Behind 0 ps) (sym (packets_append 1 (told older) (told_at e older)))
            (behind_append (packets_of 1 older) (packets_to 1 (told_at e older)) 0 before
            (behind_some (packets_to 1 (told_at e older)) (0 + count_from is_open l (packets_of 1 older)) (omega (arith, asked, grown))))

  -- ---- in turn
  -- a write of the stream goes to this id
  abbrev Names : ℕ → Packet → Type 0
  Names n p = is_wrte p.command ≡ true → p.arg0 ≡ l → p.arg1 ≡ n

  -- writes behind one OPEN, all to one id, come in their turn
  in_turn : (n : ℕ) (ps : List Packet) (o : ℕ) → Behind o ps → All (Names n) ps → o + count_from is_open l ps ≤ 1 → AreInTurn l n o ps
  in_turn n [] o behind names once = tt
  in_turn n (p ∷ ps) o behind names once =
      let sum = count_first is_open l p ps in (
        record {
          asked = λ e f.
              let one = count_one is_open l p e f in
              omega (arith, once, sum, one);
          wrte = λ e f. (behind.0 e f, All-head (Names n) p ps names e f);
        },
        in_turn n ps (o + opens_in p) behind.1 (All-tail (Names n) p ps names) (omega (arith, once, sum)),
      )

  -- the writes of a stream go to the id that its device told
  names_remote : (h : History) (b : Birth) → born l h ≡ Some b → (ps : List Packet)
      → All (λ p. IsOwn h 1 p.command p) ps → All (Names (remote_of l b h)) ps
  names_remote h b is [] own = All-nil (Names (remote_of l b h))
  names_remote h b is (p ∷ ps) own =
      All-cons (Names (remote_of l b h)) p ps
      (λ e f. by p.command refl e f (All-head (λ q. IsOwn h 1 q.command q) p ps own))
      (names_remote h b is ps (All-tail (λ q. IsOwn h 1 q.command q) p ps own))
    where
      by : (c : Command) → p.command ≡ c → is_wrte p.command ≡ true → p.arg0 ≡ l → IsOwn h 1 p.command p → p.arg1 ≡ remote_of l b h
      by Wrte k e f one =
          let of = subst (λ (c : Command). IsOwn h 1 c p) k one in
          let found : Some of.birth ≡ Some b = sym of.is ∙ (ap (λ n. born n h) f ∙ is) in
          let same : of.birth ≡ b = cc in
          of.remote ∙ (ap (λ n. remote_of n of.birth h) f ∙ ap (λ (x : Birth). remote_of l x h) same)
      by _ k e f one = let clash : false ≡ true = sym (ap is_wrte k) ∙ e in cc

-- so what was sent of each stream came in its turn
pub sent_in_turn : (owes : RemoteEnd) → IsPlain owes → (h : History) → IsLegal h → IsPaired owes h → SentInTurn h
sent_in_turn owes plain h legal paired l b is =
    let first = (sends_first h legal 1).first in
    let crossing = no_crossing h legal in
    in_turn l (remote_of l b h) (sent 1 h) 0
    (behind_front l (sent 1 h) first.0 0
    (subst (λ (ps : List Packet). Behind l 0 ps) (sym first.1) (due_behind l owes plain h legal paired)))
    (names_remote l h b is (sent 1 h) (crossing.own 1))
    (let once = crossing.once 1 l in omega (arith, once))
