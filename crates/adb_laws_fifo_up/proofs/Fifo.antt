-- What is sent of a stream is a front of what was told of it.
use Rattle.std.proofs.Common.{◌≡◌, ℕ, ◌<◌, ◌≤◌, zero, suc, Bool, true, false, List, [], ◌∷◌, ◌++◌, length, get_or, refl, sym, ap, subst}
use Rattle.std.proofs.Common.{◌∙◌}
use Rattle.std.proofs.Common.{append_assoc, arith, eqb, ◌+◌, Option, Some, None}
use Rattle.std.specs.Prelude.{◌&&◌, Contains}
use Rattle.std.proofs.lemmas.Bool.{eq-eqb}
use Rattle.std.proofs.lemmas.List.{append-nil, length-append}
use Rattle.adb_outside.specs.Bytes.{IsPrefixOf}
use Rattle.adb_wire.specs.declared.packets.Packet.{Packet}
use Rattle.adb_history.specs.Links.{close_packet}
use Rattle.adb_history.specs.Machine.{History, told, IsLegal}
use Rattle.adb_history.specs.Bytes.{sent}
use Rattle.adb_history.specs.Births.{Opening, Birth, carried_in, count_from, is_clse, is_wrte, opening_of, remote_of}
use Rattle.adb_history.specs.Lives.{packets_of, rest_of, carried_of}
use Rattle.adb_history.specs.Fifo.{allowed_writes, CarriesRest, CarriesWholeRest, KeepsUpWindow, IsWithinUp}
use Rattle.adb_history.specs.Causes.{okays_behind, IsDone}
use Rattle.adb_laws_fifo_up.specs.Climbing.{carried}
use Rattle.adb_laws_births.specs.Brought.{ComeFirst}
use Rattle.adb_laws_births.proofs.Born.{all_births}
use Rattle.adb_laws_births.proofs.Laws.{sends_first}
use Rattle.adb_laws_fifo_up.specs.Carrying.{ClosedStreamsAreDone}
use Rattle.adb_laws_fifo_up.proofs.Seeing.{carried_in_append}
use Rattle.adb_laws_fifo_up.proofs.BirthSteps.{born_drawn}
use Rattle.adb_laws_fifo_up.proofs.Shutting.{count_append, has_close, IsLast, last_split, or_left, or_right}
use Rattle.adb_laws_fifo_up.proofs.Shuts.{all_shut}
use Rattle.adb_laws_fifo_up.proofs.Openings.{allowed}
use Rattle.adb_laws_fifo_up.proofs.Fits.{used, IsAnsweredAll}
use Rattle.adb_laws_fifo_up.proofs.Windowed.{all_fit}
use Rattle.adb_laws_fifo_up.proofs.Carried.{all_carried}

-- a front of a front
front_then : (a x b y all : List ℕ) → a ++ x ≡ b → b ++ y ≡ all → IsPrefixOf a all
front_then a x b y all e f = (x ++ y, sym (append_assoc a x y) ∙ (ap (λ z. z ++ y) e ∙ f))

pub up : (h : History) → IsLegal h → CarriesRest h
up h legal l b is =
    let rises = (all_carried h legal l b is).rises in
    let sent_front = (sends_first h legal b.link).first in
    front_then (carried_of l b h) (carried_in l sent_front.0) (carried_in l (packets_of b.link h)) rises.front.0 (rest_of l b h)
    (sym (carried_in_append l (sent b.link h) sent_front.0) ∙ ap (carried_in l) sent_front.1) rises.front.1

-- ---- all of it, where the client closed
-- a packet that closes a stream closes it wherever it stands
close_at : (l k : ℕ) (ps : List Packet) (p : Packet) → is_clse p.command ≡ true → p.arg0 ≡ l → k < length ps
    → get_or ps k p ≡ p → has_close l ps ≡ true
close_at l k [] p closes own within is = absurd (omega (arith, within))
close_at l zero (q ∷ ps) p closes own within is = or_left (is_clse q.command && eqb q.arg0 l) (has_close l ps)
    (rw (ap (λ (r : Packet). is_clse r.command) is ∙ closes) (eq-eqb q.arg0 l (ap (λ (r : Packet). r.arg0) is ∙ own)))
close_at l (suc k) (q ∷ ps) p closes own within is =
    or_right (is_clse q.command && eqb q.arg0 l) (has_close l ps) (close_at l k ps p closes own (omega (arith, within)) is)

close_in : (l : ℕ) (ps : List Packet) (p : Packet) → is_clse p.command ≡ true → p.arg0 ≡ l → Contains ps p → has_close l ps ≡ true
close_in l ps p closes own has = close_at l has.0 ps p closes own has.1 has.2

pub up_whole : (h : History) → IsLegal h → CarriesWholeRest h
up_whole h legal l b is ends closed =
    let rises = (all_carried h legal l b is).rises in
    let drawn = born_drawn l b h (all_births h legal) is in
    let sent_front = (sends_first h legal b.link).first in
    let last : IsLast l (sent b.link h ++ sent_front.0) = subst (IsLast l) (sym sent_front.1) ((all_shut l drawn.0 h legal).last b.link) in
    let none : carried_in l sent_front.0 ≡ [] =
    last_split l (sent b.link h) sent_front.0 last (close_in l (sent b.link h) (close_packet l (remote_of l b h)) refl refl closed) in
    sym (append-nil (carried_of l b h)) ∙ (ap (λ y. carried_of l b h ++ y) (sym none)
    ∙ (sym (carried_in_append l (sent b.link h) sent_front.0) ∙ (ap (carried_in l) sent_front.1 ∙ rises.whole ends)))

-- ---- within what the device allowed
count_front : (l : ℕ) (ps qs all : List Packet) → ps ++ qs ≡ all → count_from is_wrte l ps ≤ count_from is_wrte l all
count_front l ps qs all e = omega (arith, sym (ap (count_from is_wrte l) e), count_append is_wrte l ps qs)

carried_front : (l : ℕ) (ps qs all : List Packet) → ps ++ qs ≡ all → length (carried_in l ps) ≤ length (carried_in l all)
carried_front l ps qs all e =
    omega (
      arith,
      sym (ap (λ xs. length (carried_in l xs)) e),
      ap length (carried_in_append l ps qs),
      length-append
          (carried_in l ps) (carried_in l qs),
    )

within_up : (credit : Bool) (l : ℕ) (b : Birth) (h : History) → ComeFirst (sent b.link h) (packets_of b.link h)
    → used credit b.link l (told h) ≤ allowed credit l (opening_of l b h) → IsWithinUp credit l b h
within_up false l b h first fits = omega (arith, fits, count_front l (sent b.link h) first.0 (packets_of b.link h) first.1)
within_up true l b h first fits = omega (arith, fits, carried_front l (sent b.link h) first.0 (packets_of b.link h) first.1)

pub up_window : (h : History) → IsLegal h → KeepsUpWindow h
up_window h legal l b is = within_up b.credit l b h (sends_first h legal b.link).first (all_fit h legal l b is).fits.within

-- ---- a stream whose client closed
answered : (went l : ℕ) (o : Option Opening) → went + 1 ≤ allowed_writes l o → went ≤ okays_behind l o
answered went l None fits = omega (arith, fits)
answered went l (Some o) fits = omega (arith, fits)

is_done : (credit : Bool) (l : ℕ) (b : Birth) (h : History) → IsAnsweredAll credit (used credit b.link l (told h))
    (allowed credit l (opening_of l b h))
    → carried b.link l (told h) ≡ rest_of l b h → IsDone credit l b h
is_done false l b h fits all = answered (used false b.link l (told h)) l (opening_of l b h) fits
is_done true l b h fits all = all

pub closed_done : (h : History) → IsLegal h → ClosedStreamsAreDone h
closed_done h legal l b is ends = is_done b.credit l b h ((all_fit h legal l b is).fits.done ends).1
    ((all_carried h legal l b is).rises.whole ends)
