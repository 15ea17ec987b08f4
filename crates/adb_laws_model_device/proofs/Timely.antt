-- A device on a plain link acknowledges no write before it comes.
use Rattle.std.proofs.Common.{◌≡◌, ℕ, ◌+◌, ◌≤◌, Bool, true, false, cond, not, List, [], ◌∷◌, Option, Some, None, refl, sym, ap, subst}
use Rattle.std.proofs.Common.{◌∙◌, arith}
use Rattle.std.specs.Prelude.{◌&&◌, nat_eq, ◌==◌}
use Rattle.adb_wire.specs.declared.command.Command.{Command}
use Rattle.adb_wire.specs.declared.command.Command.TheVariants.{Cnxn, Okay, Clse}
use Rattle.adb_wire.specs.declared.packets.Packet.{Packet}
use Rattle.adb_capture.specs.declared.entry.Entry.{Entry}
use Rattle.adb_history.specs.Links.{credit_word}
use Rattle.adb_history.specs.Machine.{History, IsLegal}
use Rattle.adb_history.specs.Bytes.{brought, sent}
use Rattle.adb_history.specs.Lives.{packets_of}
use Rattle.adb_history.specs.Births.{Birth, Opening, since, opening_by, opening_in, opening_of, is_between, count_from, is_okay, is_wrte}
use Rattle.adb_history.specs.Fifo.{okays_in}
use Rattle.adb_history.specs.Causes.{okays_behind, okays_after}
use Rattle.adb_laws_births.specs.Brought.{ComeFirst}
use Rattle.adb_laws_births.proofs.Crossing.{no_crossing}
use Rattle.adb_laws_births.proofs.Laws.{sends_first}
use Rattle.adb_laws_causes.specs.Flows.{IsTimely}
use Rattle.adb_laws_model_device.specs.Counts.{is_okay_to, okays_to}
use Rattle.adb_laws_model_device.specs.Devices.{RemoteEnd, IsPlain}
use Rattle.adb_laws_model_device.specs.Paired.{IsPaired}
use Rattle.adb_laws_model_device.proofs.Counts.{many_front, many_tail, many_drop, count_front}

-- ---- the opening of a stream is one OKAY to it, and those after it are others
-- the OKAYs of one id are some of all
okays_from : (r l : ℕ) (ps : List Packet) → okays_in r l ps ≤ okays_to l ps
okays_from r l [] = omega arith
okays_from r l (p ∷ ps) = go (is_okay p.command) (nat_eq p.arg0 r) (nat_eq p.arg1 l) (okays_from r l ps)
  where
    go : (a b c : Bool) → okays_in r l ps ≤ okays_to l ps
        → cond (a && (b && c)) (1 + okays_in r l ps) (okays_in r l ps) ≤ cond (a && c) (1 + okays_to l ps) (okays_to l ps)
    go true true true le = omega (arith, le)
    go true false true le = omega (arith, le)
    go _ _ _ le = le

-- so with its opening a stream heard no more OKAYs than came to it
pub opening_counts : (l : ℕ) (ps : List Packet) (o : Opening) → opening_in l ps ≡ Some o → 1 + okays_in o.remote l o.later ≤ okays_to l ps
opening_counts l [] o is = absurd (let clash : None ≡ Some o = is in cc)
opening_counts l (p ∷ ps) o is = by p.command refl is (opening_counts l ps o)
  where
    Later : Type 0
    Later = opening_in l ps ≡ Some o → 1 + okays_in o.remote l o.later ≤ okays_to l ps

    other : opening_in l ps ≡ Some o → Later → 1 + okays_in o.remote l o.later ≤ okays_to l (p ∷ ps)
    other e later = (let one = later e in let more = many_tail (is_okay_to l) p ps in omega (arith, one, more))

    okay : (c z : Bool) → nat_eq p.arg1 l ≡ c
        → cond (c && not z) (Some (record { remote = p.arg0; word = credit_word p.payload; later = ps })) (opening_in l ps) ≡ Some o
        → p.command ≡ Okay → Later → 1 + okays_in o.remote l o.later ≤ okays_to l (p ∷ ps)
    okay true false here e command later =
        let same : record { remote = p.arg0; word = credit_word p.payload; later = ps } ≡ o = cc in
        let one : okays_to l (p ∷ ps) ≡ 1 + okays_to l ps =
        ap (λ k. cond (is_okay k && nat_eq p.arg1 l) (1 + okays_to l ps) (okays_to l ps)) command
        ∙ ap (λ b. cond b (1 + okays_to l ps) (okays_to l ps)) here in
        subst (λ (x : Opening). 1 + okays_in x.remote l x.later ≤ okays_to l (p ∷ ps)) same
        (let more = okays_from p.arg0 l ps in omega (arith, one, more))
    okay true true here e command later = other e later
    okay false z here e command later = other e later

    closed : (b : Bool) → cond b None (opening_in l ps) ≡ Some o → Later → 1 + okays_in o.remote l o.later ≤ okays_to l (p ∷ ps)
    closed true e later = absurd (let clash : None ≡ Some o = e in cc)
    closed false e later = other e later

    by : (command : Command) → p.command ≡ command → opening_by command l p ps (opening_in l ps) ≡ Some o → Later
        → 1 + okays_in o.remote l o.later ≤ okays_to l (p ∷ ps)
    by Okay k e later = okay (nat_eq p.arg1 l) (p.arg0 == 0) refl e k later
    by Clse k e later = closed (is_between 0 l p) e later
    by Cnxn k e later = absurd (let clash : None ≡ Some o = e in cc)
    by _ k e later = other e later

-- the OKAYs after the opening of a stream are fewer than those that its link brought
after_within : (l : ℕ) (b : Birth) (h : History) (most : ℕ) → okays_to l (brought b.link h) ≤ 1 + most → okays_after l b h ≤ most
after_within l b h most within = go (opening_of l b h) refl
  where
    go : (o : Option Opening) → opening_of l b h ≡ o → okays_behind l o ≤ most
    go None e = omega arith
    go (Some o) e =
        let counts = opening_counts l (since b h) o e in
        let fewer = many_drop (is_okay_to l) b.packets_before (brought b.link h) in
        omega (arith, counts, fewer, within)

-- ---- in time
module _ (owes : RemoteEnd) (plain : IsPlain owes) where
  -- what an entry brings answers what was sent before
  in_time : (e : Entry) (older : History) → IsLegal older → ComeFirst (brought 1 (e ∷ older)) (owes (sent 1 older))
      → (l : ℕ) (b : Birth) → b.link ≡ 1
      → okays_after l b (e ∷ older) ≤ count_from is_wrte l (packets_of b.link older)
  in_time e older legal first l b own =
      after_within l b (e ∷ older) (count_from is_wrte l (packets_of b.link older))
      (subst (λ (t : ℕ). okays_to l (brought t (e ∷ older)) ≤ 1 + count_from is_wrte l (packets_of t older)) (sym own)
      (let few = many_front (is_okay_to l) (brought 1 (e ∷ older)) (owes (sent 1 older)) first in
      let acks = plain.acks l (sent 1 older) in
      let one = (no_crossing older legal).once 1 l in
      let due = count_front is_wrte l (sent 1 older) (packets_of 1 older) (sends_first older legal 1).first in
      omega (arith, few, acks, one, due)))

  -- and so does what each entry brought
  pub timely : (h : History) → IsLegal h → IsPaired owes h → (l : ℕ) (b : Birth) → b.link ≡ 1 → IsTimely l b h
  timely [] legal paired l b own = tt
  timely (e ∷ older) legal paired l b own =
      (timely older legal.0 paired.0 l b own, in_time e older legal.0 paired.1 l b own)
