-- Each packet that is sent stands on the link of its own stream.
use Rattle.std.proofs.Common.{ℕ, ◌≡◌, Bool, true, false, cond, All, List, [], ◌∷◌, ◌++◌, length, refl, sym, ap, subst, arith, eqb}
use Rattle.std.specs.Prelude.{nat_eq}
use Rattle.std.proofs.lemmas.Bool.{eqb-true}
use Rattle.std.proofs.lemmas.List.{take_at}
use Rattle.std.proofs.lemmas.List.Elements.{All-nil, All-cons, All-take, All-head, All-tail}
use Rattle.adb_wire.specs.declared.packets.Packet.{Packet}
use Rattle.adb_history.specs.Events.{Event, due_to_client, due_to_link, ended, packets_to}
use Rattle.adb_history.specs.Machine.{History, told, IsLegal}
use Rattle.adb_history.specs.Bytes.{sent}
use Rattle.adb_history.specs.Births.{is_open, count_from}
use Rattle.adb_history.specs.Fifo.{IsOwn, HasNoCrossing}
use Rattle.adb_history.specs.Lives.{packets_of}
use Rattle.adb_laws_births.specs.Brought.{ComeFirst}
use Rattle.adb_laws_births.specs.Sending.{IsRightEvent, OwesOwn}
use Rattle.adb_laws_births.proofs.Once.{count_append, all_once}
use Rattle.adb_laws_births.proofs.Sent.{all_right, sent_packets_first}

-- each packet of right events is its link's own
own_events : (h : History) (t : ℕ) (events : List Event) → All (IsRightEvent h) events
    → All (λ p. IsOwn h t p.command p) (packets_to t events)
own_events h t [] all = All-nil (λ p. IsOwn h t p.command p)
own_events h t (due_to_client client bytes ∷ events) all = own_events h t events (All-tail (IsRightEvent h) _ events all)
own_events h t (ended stream ending ∷ events) all = own_events h t events (All-tail (IsRightEvent h) _ events all)
own_events h t (due_to_link link p check ∷ events) all =
    go (nat_eq link t) refl (own_events h t events (All-tail (IsRightEvent h) _ events all))
  where
    here : (eqb link t) ≡ true → IsOwn h t p.command p
    here e = subst (λ (n : ℕ). IsOwn h n p.command p) (eqb-true link t e) (All-head (IsRightEvent h) _ events all).own

    go : (b : Bool) → nat_eq link t ≡ b → All (λ p. IsOwn h t p.command p) (packets_to t events)
        → All (λ p. IsOwn h t p.command p) (cond b (p ∷ packets_to t events) (packets_to t events))
    go true e later = All-cons (λ p. IsOwn h t p.command p) p (packets_to t events) (here e) later
    go false e later = later

-- Each packet that became due to a link is its own, and a stream is asked for once.
pub owes_own : (h : History) → IsLegal h → OwesOwn h
owes_own h legal = record { own = λ t. own_events h t (told h) (all_right h legal); once = (all_once h legal).once }

-- what holds of all packets holds of the first
all_first : (P : Packet → Type 0) (front all : List Packet) → ComeFirst front all → All P all → All P front
all_first P front all first h =
    let whole : All P (front ++ first.0) = subst (All P) (sym first.1) h in
    subst (All P) (take_at front first.0 (length front) refl) (All-take P (length front) (front ++ first.0) whole)

-- In every legal history no packet of a stream goes to another link or another stream.
pub no_crossing : (h : History) → IsLegal h → HasNoCrossing h
no_crossing h legal =
    let owes = owes_own h legal in
    record {
      own = λ t. all_first (λ p. IsOwn h t p.command p) (sent t h) (packets_of t h) (sent_packets_first h legal t) (owes.own t);
      once = λ t l.
          let first = sent_packets_first h legal t in
          let whole = ap (count_from is_open l) first.1 in
          omega (arith, whole, count_append is_open l (sent t h) first.0, owes.once t l);
    }
