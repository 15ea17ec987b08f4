-- What a device is told that its client was handed, it was.
use Rattle.std.proofs.Common.{ℕ, ◌≡◌, Bool, true, false, cond, List, [], ◌∷◌, ◌++◌, length, drop, Option, Some, None, is_some, refl, sym}
use Rattle.std.proofs.Common.{◌∙◌, ap, subst, arith}
use Rattle.std.specs.Prelude.{All}
use Rattle.std.proofs.lemmas.List.{length-append}
use Rattle.std.proofs.lemmas.List.Elements.{All-head, All-tail, All-cons, All-nil}
use Rattle.adb_stream.specs.Flow.{new_flow, to_hand}
use Rattle.adb_wire.specs.declared.packets.Packet.{Packet}
use Rattle.adb_history.specs.Machine.{History, IsLegal}
use Rattle.adb_history.specs.Bytes.{bytes_put, sent}
use Rattle.adb_history.specs.Births.{Birth, Opening, since, opening_of, opening_in, told_in, told_after, told_to, lead_of, handed_to}
use Rattle.adb_history.specs.Lives.{packets_of}
use Rattle.adb_history.specs.Fifo.{okays_of, IsWithinDown, KeepsDownWindow}
use Rattle.adb_laws_fifo_down.specs.Line.{Line, View, gathered_of}
use Rattle.adb_laws_fifo_down.specs.Turns.{Turns}
use Rattle.adb_laws_fifo_down.specs.Life.{Cradle}
use Rattle.adb_laws_fifo_down.specs.Window.{handed_past, IsBackedBy, IsBacked}
use Rattle.adb_laws_fifo_down.specs.Followed.{WindowOf, HasWindows}
use Rattle.adb_laws_fifo_down.specs.Follows.{Follows}
use Rattle.adb_laws_fifo_down.specs.Begins.{Lasts}
use Rattle.adb_laws_births.specs.Brought.{ComeFirst}
use Rattle.adb_laws_births.proofs.Laws.{sends_first}
use Rattle.adb_laws_fifo_down.proofs.Shown.{okays_append}
use Rattle.adb_laws_fifo_down.proofs.Followed.{follows}
use Rattle.adb_laws_fifo_down.proofs.Handed.{life_turns, life_lasts, lead_is}
use Rattle.adb_laws_fifo_down.proofs.Backed.{backed_none, credit_append}
use Rattle.adb_laws_fifo_down.proofs.Windows.{HasWord}
use Rattle.adb_laws_fifo_down.proofs.WindowTurns.{window_over, window_fails, window_hands}
use Rattle.adb_laws_fifo_down.proofs.WindowPackets.{window_treats}
use Rattle.adb_history.proofs.Linking.{credit_new as new_credit_is}
use Rattle.adb_history.proofs.OwnedRules.{fresh_new as nothing_to_hand}

window_turns : (b : Line) (k : Cradle) → Turns b (WindowOf b k)
window_turns b k =
    let life = life_turns b k in record {
      served = λ packets shut out v w. life.served packets shut out v w.life;
      closes = λ packets shut out v y w. window_over b.id k packets shut out v y.row.orphan _
          (life.closes packets shut out v y w.life) w.backed;
      fails = λ packets shut out v cause a here w. window_fails b.id k packets shut out v w a here cause
          (life.fails packets shut out v cause a here w.life);
      stops = λ packets shut out v ending stop w.
          record { life = life.stops packets shut out v ending stop w.life; backed = w.backed; flow = tt };
      hands = λ packets shut out v a bytes here front w.
          window_hands b.id k packets shut out bytes v w a here front b refl (life.hands packets shut out v a bytes here front w.life);
      treats = λ packets out v p w. window_treats b.id k packets out v p w (life.treats packets out v p w.life);
      shuts = λ packets shut out v w. record { life = life.shuts packets shut out v w.life; backed = w.backed; flow = w.flow };
      breaks = λ packets out v x ending there which w.
          window_over b.id k packets true out v x.orphan ending (life.breaks packets out v x ending there which w.life) w.backed;
    }

nothing_gathered : (credit : Bool) → gathered_of (new_flow credit) ≡ 0
nothing_gathered true = refl
nothing_gathered false = refl

window_lasts : Lasts WindowOf
window_lasts = record {
  begins = λ b k out due put. record {
    life = life_lasts.begins b k out due put;
    backed = refl;
    flow = (new_credit_is k.credit, record { none = refl; to_hand = nothing_to_hand k.credit; gathered = nothing_gathered k.credit });
  };
  turns = window_turns;
}

-- ---- of what is acknowledged, the first that was sent
words_front : (ps qs : List Packet) → All HasWord (ps ++ qs) → All HasWord ps
words_front [] qs all = All-nil HasWord
words_front (p ∷ ps) qs all =
    All-cons HasWord p ps (All-head HasWord p (ps ++ qs) all) (words_front ps qs (All-tail HasWord p (ps ++ qs) all))

backed_front : (credit : Bool) (writes : List (List ℕ)) (ps qs : List Packet) (handed : ℕ) → IsBackedBy credit writes (ps ++ qs) handed
    → IsBackedBy credit writes ps handed
backed_front false writes ps qs handed h = omega (arith, h, length-append ps qs)
backed_front true writes ps qs handed h =
    record { words = words_front ps qs h.words; within = omega (arith, h.within, credit_append ps qs) }

no_front : (ps qs : List Packet) → ps ++ qs ≡ [] → ps ≡ []
no_front [] qs e = refl
no_front (p ∷ ps) qs e = absurd (let clash : p ∷ (ps ++ qs) ≡ [] = e in cc)

module _ (l : ℕ) (b : Birth) (h : History) (f : Follows WindowOf h l b) (sends : ComeFirst (sent b.link h) (packets_of b.link h)) where
  okays_are : okays_of l (sent b.link h) ++ okays_of l sends.0 ≡ f.holds.seen.okays
  okays_are = sym (okays_append l (sent b.link h) sends.0) ∙ (ap (okays_of l) sends.1 ∙ ap (λ (v : View). v.okays) f.holds.shows.1)

  backed : IsBacked (opening_in l (since b h)) l f.cradle.credit (okays_of l (sent b.link h) ++ okays_of l sends.0)
      (handed_past f.cradle (bytes_put b.client h))
  backed = subst
      (λ (ps : List Packet). IsBacked (opening_in l (since b h)) l f.cradle.credit ps
      (handed_past f.cradle (bytes_put b.client h))) (sym okays_are)
      f.holds.keeps.backed

  handed_is : handed_past f.cradle (bytes_put b.client h) ≡ length (drop (lead_of b h) (bytes_put b.client h))
  handed_is = ap (λ (n : ℕ). length (drop n (bytes_put b.client h))) (lead_is f.cradle b h f.forwarded f.replies)

  sent_backed : (o : Option Opening) → IsBacked o l f.cradle.credit (okays_of l (sent b.link h) ++ okays_of l sends.0)
      (handed_past f.cradle (bytes_put b.client h))
      → IsBackedBy f.cradle.credit (told_after l o) (okays_of l (sent b.link h))
      (length (cond (is_some o) (drop (lead_of b h) (bytes_put b.client h)) []))
  sent_backed None none =
      subst (λ (ps : List Packet). IsBackedBy f.cradle.credit [] ps 0)
      (sym (no_front (okays_of l (sent b.link h)) (okays_of l sends.0) none))
      (backed_none f.cradle.credit [] 0)
  sent_backed (Some o) all =
      subst (λ (n : ℕ). IsBackedBy f.cradle.credit (told_in o.remote l o.later) (okays_of l (sent b.link h)) n) handed_is
      (backed_front f.cradle.credit (told_in o.remote l o.later) (okays_of l (sent b.link h)) (okays_of l sends.0)
      (handed_past f.cradle (bytes_put b.client h)) all)

  by_credit : (credit : Bool) → IsBackedBy credit (told_to l b h) (okays_of l (sent b.link h))
      (length (handed_to l b h)) → IsWithinDown credit l b h
  by_credit false i = i
  by_credit true i = i

  within : IsWithinDown b.credit l b h
  within =
      by_credit b.credit
      (subst (λ (c : Bool). IsBackedBy c (told_to l b h) (okays_of l (sent b.link h)) (length (handed_to l b h))) f.credit
      (sent_backed (opening_of l b h) backed))

-- What a device is told that its client was handed, it was.
pub keeps_down_window : (h : History) → IsLegal h → KeepsDownWindow h
keeps_down_window h legal l b is = within l b h (follows window_lasts h legal l b is) (sends_first h legal b.link).first

-- Each stream keeps its window: with one write each way, what was acknowledged and what waits to be handed out are what was told.
pub has_windows : (h : History) → IsLegal h → HasWindows h
has_windows h legal l b is = follows window_lasts h legal l b is
