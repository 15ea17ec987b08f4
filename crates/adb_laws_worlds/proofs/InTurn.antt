-- No stream of a model device ends by a write out of turn.
use Rattle.std.specs.Prelude.{ℕ, ◌+◌, ◌-◌, ◌^◌, ◌≡◌, ◌≢◌, ◌<◌, ◌≤◌, ◌&&◌, ◌||◌, not, Bool, true, false, cond, nat_eq, nat_lt, nat_le, List}
use Rattle.std.specs.Prelude.{[], ◌∷◌, ◌++◌}
use Rattle.std.specs.Prelude.{length, drop}
use Rattle.std.specs.Prelude.{Some}
use Rattle.std.proofs.Common.{refl, sym, ◌∙◌, ap, subst, arith}
use Rattle.std.proofs.Math.Seq.{drop-append_seam}
use Rattle.std.proofs.lemmas.Bool.Decides.{nat_tests}
use Rattle.std.proofs.lemmas.List.{length-append}
use Rattle.adb_wire.specs.declared.packets.Packet.{Packet}
use Rattle.adb_history.specs.Births.{Birth, born, remote_of, told_to, joined, handed_to, count_from, is_okay, is_wrte, is_between}
use Rattle.adb_history.specs.Bytes.{brought, sent}
use Rattle.adb_history.specs.Causes.{brings, remote_after, is_early, writes_early_in, writes_early, given_to}
use Rattle.adb_history.specs.declared.ending.Ending.TheVariants.{OutOfTurn}
use Rattle.adb_history.specs.Fifo.{whole_within, okays_of, IsWithinDown}
use Rattle.adb_history.specs.Lives.{ending_of}
use Rattle.adb_history.specs.Machine.{History, IsLegal}
use Rattle.adb_laws_births.specs.Brought.{brought_grows}
use Rattle.adb_laws_births.proofs.Crossing.{no_crossing}
use Rattle.adb_laws_causes.proofs.Endings.{time_of}
use Rattle.adb_laws_causes.proofs.Holding.{all_hold}
use Rattle.adb_laws_causes.proofs.LinkEnds.{all_out_of_turn}
use Rattle.adb_laws_fifo_down.proofs.Acknowledged.{keeps_down_window}
use Rattle.adb_daemon.specs.Device.{Setting}
use Rattle.adb_laws_model_device.specs.Counts.{is_wrte_to, writes_to}
use Rattle.adb_laws_model_device.specs.Paired.{IsPaired}
use Rattle.adb_laws_model_device.proofs.Counts.{many_append, many_front}
use Rattle.adb_laws_model_device.proofs.Told.{told_within, within_all}
use Rattle.adb_laws_model_device.specs.Joined.{IsJoined}
use Rattle.adb_laws_model_device.specs.Owed.{packets_owed}
use Rattle.adb_laws_model_device.proofs.Joined.{paired}
use Rattle.adb_laws_model_device.proofs.Sound.{never_refused}
use Rattle.adb_laws_worlds.specs.InTurn.{AllInTurn}
use Rattle.adb_laws_worlds.proofs.Allowed.{writes_as_allowed}
use Rattle.adb_laws_worlds.proofs.Credit.{first_are_plain}
use Rattle.adb_laws_worlds.proofs.Settled.{counts_listed}
use Rattle.adb_laws_worlds.proofs.Unbroken.{EndsNow, ends_now, joined_at, birth_stays}

-- ---- packets in which one write of a stream stands at most
module _ (b : Birth) (plain : b.credit ≡ false) (l : ℕ) where
  -- a write of the stream is one to its id
  tail_less : (p : Packet) (ps : List Packet) → writes_to l ps ≤ writes_to l (p ∷ ps)
  tail_less p ps = go (is_wrte_to l p)
    where
      go : (c : Bool) → writes_to l ps ≤ cond c (1 + writes_to l ps) (writes_to l ps)
      go true = omega arith
      go false = omega arith

  counts : (p : Packet) (ps : List Packet) (remote : ℕ) → (is_wrte p.command && (not (nat_eq remote 0) && is_between remote l p)) ≡ true
      → writes_to l (p ∷ ps) ≡ 1 + writes_to l ps
  counts p ps remote e = go (is_wrte p.command) (not (nat_eq remote 0)) (nat_eq p.arg0 remote) (nat_eq p.arg1 l) e
    where
      go : (a z f t : Bool) → (a && (z && (f && t))) ≡ true → cond (a && t) (1 + writes_to l ps) (writes_to l ps) ≡ 1 + writes_to l ps
      go true true true true e = refl
      go _ _ _ _ e = let clash : false ≡ true = e in cc

  regroup : (a z t : Bool) → ((a && z) && t) ≡ (a && (z && t))
  regroup true z t = refl
  regroup false z t = refl

  -- none is early where there is none, or one behind bytes that were all handed out
  not_early : (ps : List Packet) (remote written handed given : ℕ) → writes_to l ps ≤ 1 → (1 ≤ writes_to l ps → written ≤ handed)
      → writes_early_in b remote l written handed given ps ≡ false
  not_early [] remote written handed given few all = refl
  not_early (p ∷ ps) remote written handed given few all =
      go (is_wrte p.command && not (nat_eq remote 0) && is_between remote l p) refl
      (λ w r. not_early ps r w handed given)
    where
      Rest : Type 0
      Rest = (w r : ℕ) → writes_to l ps ≤ 1 → (1 ≤ writes_to l ps → w ≤ handed) → writes_early_in b r l w handed given ps ≡ false

      less : writes_to l ps ≤ writes_to l (p ∷ ps)
      less = tail_less p ps

      in_time : written ≤ handed → is_early b.credit written handed given (length p.payload) ≡ false
      in_time le = ap (λ (c : Bool). is_early c written handed given (length p.payload)) plain ∙ not_less le
        where
          not_less : written ≤ handed → nat_lt handed written ≡ false
          not_less le = grind (arith, nat_tests, le)

      go : (t : Bool) → (is_wrte p.command && not (nat_eq remote 0) && is_between remote l p) ≡ t
          → ((w r : ℕ) → writes_to l ps ≤ 1 → (1 ≤ writes_to l ps → w ≤ handed) → writes_early_in b r l w handed given ps ≡ false)
          → cond t (is_early b.credit written handed given (length p.payload)
          || writes_early_in b remote l (written + length p.payload) handed given ps)
          (writes_early_in b (remote_after remote l p) l written handed given ps) ≡ false
      go true e rest =
          let one : writes_to l (p ∷ ps) ≡ 1 + writes_to l ps =
          counts p ps remote (sym (regroup (is_wrte p.command) (not (nat_eq remote 0)) (is_between remote l p)) ∙ e) in
          let none : writes_to l ps ≤ 0 = omega (arith, one, few) in
          ap (λ (c : Bool). c || writes_early_in b remote l (written + length p.payload) handed given ps)
          (in_time (all (omega (arith, one))))
          ∙ rest (written + length p.payload) remote (omega (arith, none)) (λ some. absurd (omega (arith, none, some)))
      go false e rest =
          let fewer = less in
          rest written (remote_after remote l p) (omega (arith, few, fewer)) (λ some. all (omega (arith, some, fewer)))

-- ---- payloads that all lie within some bytes are no longer than these
joined_within : (n : ℕ) (payloads : List (List ℕ)) → length payloads ≤ whole_within n payloads → length (joined payloads) ≤ n
joined_within n [] le = omega arith
joined_within n (payload ∷ payloads) le = go (nat_le (length payload) n) refl le (joined_within (n - length payload) payloads)
  where
    go : (t : Bool) → nat_le (length payload) n ≡ t → length (payload ∷ payloads)
        ≤ cond t (1 + whole_within (n - length payload) payloads) 0
        → (length payloads ≤ whole_within (n - length payload) payloads → length (joined payloads) ≤ n - length payload)
        → length (payload ++ joined payloads) ≤ n
    go true e le later =
        let fits : length payload ≤ n = grind (arith, nat_tests, e) in
        let rest = later (omega (arith, le)) in
        let sum = length-append payload (joined payloads) in
        omega (arith, fits, rest, sum)
    go false e le later = absurd (omega (arith, le))

module _ (setting : Setting) (short : setting.most < 2 ^ 32) (plain : setting.credit ≡ false) (h : History) (legal : IsLegal h)
    (tied : IsJoined setting h) (l : ℕ) (b : Birth) (birth : born l h ≡ Some b) (own : b.link ≡ 1) where
  pub in_turn : ending_of l h ≢ Some OutOfTurn
  in_turn is = clash
    where
      x : EndsNow l OutOfTurn h
      x = ends_now l OutOfTurn h is

      time : IsLegal (x.entry ∷ x.older)
      time = time_of h legal x.entry x.older x.moment

      then_tied : IsJoined setting (x.entry ∷ x.older)
      then_tied = joined_at setting x.moment.0 (x.entry ∷ x.older) (subst (λ (k : History). IsJoined setting k) (sym x.moment.1) tied)

      pairs : IsPaired (packets_owed setting) (x.entry ∷ x.older)
      pairs = paired setting short (x.entry ∷ x.older) time then_tied

      at_most : (c : Birth) → born l x.older ≡ Some c → c.link ≡ 1
          → (writes_to l (brings 1 x.entry x.older) ≤ 1)
          × (1 ≤ writes_to l (brings 1 x.entry x.older) → length (joined (told_to l c x.older)) ≤ length (handed_to l c x.older))
      at_most c was first =
          let allowed = writes_as_allowed setting plain l (sent 1 x.older) ((no_crossing x.older time.0).once 1 l)
          (never_refused setting 1 x.older time.0) in
          let front = many_front (is_wrte_to l) (brought 1 (x.entry ∷ x.older)) (packets_owed setting (sent 1 x.older)) pairs.1 in
          let grown = brought_grows 1 x.entry x.older in
          let sum = many_append (is_wrte_to l) (brought 1 x.older) grown.0 in
          let whole : writes_to l (brought 1 x.older ++ grown.0) ≡ writes_to l (brought 1 (x.entry ∷ x.older)) = ap (writes_to l) grown.1 in
          let new : writes_to l (brings 1 x.entry x.older) ≡ writes_to l grown.0 =
          ap (writes_to l) (ap (drop (length (brought 1 x.older))) (sym grown.1) ∙ drop-append_seam (brought 1 x.older) grown.0) in
          let told = told_within l c x.older in
          let told_first : writes_to l (brought c.link x.older) ≡ writes_to l (brought 1 x.older) =
          ap (λ (t : ℕ). writes_to l (brought t x.older)) first in
          let credit = first_are_plain setting short plain x.older time.0 then_tied.0 l c was first in
          let window : length (okays_of l (sent c.link x.older)) ≤ whole_within (length (handed_to l c x.older)) (told_to l c x.older) =
          subst (λ (k : Bool). IsWithinDown k l c x.older) credit (keeps_down_window x.older time.0 l c was) in
          let okays : length (okays_of l (sent c.link x.older)) ≡ count_from is_okay l (sent 1 x.older) =
          ap (λ (t : ℕ). length (okays_of l (sent t x.older))) first ∙ sym (counts_listed l (sent 1 x.older)) in
          let inside = within_all (length (handed_to l c x.older)) (told_to l c x.older) in (
            omega (arith, allowed, front, sum, whole, new, told, told_first, window, okays, inside),
            (λ some. joined_within (length (handed_to l c x.older)) (told_to l c x.older)
                (omega (arith, some, allowed, front, sum, whole, new, told, told_first, window, okays, inside))),
          )

      clash : ⊥
      clash =
          let by = all_out_of_turn all_hold h legal l x.entry x.older x.moment x.says in
          let mine : by.birth ≡ b = birth_stays l b x.entry x.older x.moment.0 by.birth
          (subst (λ (k : History). born l k ≡ Some b) (sym x.moment.1) birth) by.is in
          let first : by.birth.link ≡ 1 = ap (λ (c : Birth). c.link) mine ∙ own in
          let credit = first_are_plain setting short plain x.older time.0 then_tied.0 l by.birth by.is first in
          let few = at_most by.birth by.is first in
          let none : writes_early l by.birth x.entry x.older ≡ false =
          ap (λ (t : ℕ). writes_early_in by.birth (remote_of l by.birth x.older) l (length (joined (told_to l by.birth x.older)))
          (length (handed_to l by.birth x.older)) (given_to l by.birth x.older) (brings t x.entry x.older)) first
          ∙ not_early by.birth credit l (brings 1 x.entry x.older) (remote_of l by.birth x.older)
          (length (joined (told_to l by.birth x.older)))
          (length (handed_to l by.birth x.older)) (given_to l by.birth x.older) few.0 few.1 in
          let both : true ≡ false = sym by.cause ∙ none in
          cc

pub all_in_turn : (setting : Setting) → setting.most < 2 ^ 32 → setting.credit ≡ false → (h : History) → IsLegal h
    → IsJoined setting h → AllInTurn h
all_in_turn setting short plain h legal tied l b birth own = in_turn setting short plain h legal tied l b birth own
