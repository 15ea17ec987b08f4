-- Which stream of the server an id of its model device is for.
use Rattle.std.specs.Prelude.{ℕ, ◌+◌, ◌≡◌, ◌<◌, ◌≤◌, ◌==◌, ◌&&◌, if◌then◌else◌, Bool, true, false, cond, nat_eq, All, List, [], ◌∷◌, ◌++◌}
use Rattle.std.specs.Prelude.{Option, None}
use Rattle.std.proofs.Common.{refl, sym, ◌∙◌, ap, subst, arith, ◌⊎◌, inl, inr}
use Rattle.std.proofs.lemmas.Bool.{cases_lt, eqb-true}
use Rattle.std.proofs.lemmas.List.Elements.{All-nil, All-cons, All-head, All-tail}
use Rattle.adb_outside.specs.Tables.{at}
use Rattle.adb_wire.specs.declared.command.Command.{Command}
use Rattle.adb_wire.specs.declared.command.Command.TheVariants as commands
use Rattle.adb_wire.specs.declared.packets.Packet.{Packet}
use Rattle.adb_history.specs.Births.{is_okay}
use Rattle.adb_history.specs.Fifo.{okays_in}
use Rattle.adb_device_streams.specs.Stream.{Row}
use Rattle.adb_daemon.specs.Serving.{Sent, Ended}
use Rattle.adb_daemon.specs.Device.{Setting, device_behind}
use Rattle.adb_daemon.specs.Streams.{over_at, okays_of, IsAcked}
use Rattle.adb_daemon.specs.Streams.{is_okay as is_okay_of}
use Rattle.adb_daemon.proofs.Acks.{all_acknowledged}
use Rattle.adb_laws_model_device.specs.Owed.{packets_of_sent, packets_owed}
use Rattle.adb_laws_model_device.specs.Opened.{is_of_stream, GoesTo}
use Rattle.adb_laws_worlds.specs.Asked.{WasAsked}
use Rattle.adb_laws_worlds.proofs.Asked.{was_asked}
use Rattle.adb_laws_worlds.proofs.Order.{behind_orderly}

-- ---- an id that was not drawn
module _ (own : ℕ) (some : 0 < own) where
  -- what sends no OKAY from an id sends none to any other id
  none_in : (l : ℕ) (made : List Sent) → okays_of own made ≡ [] → okays_in own l (packets_of_sent made) ≡ 0
  none_in l [] none = refl
  none_in l (one ∷ made) none = by one.packet.command (one.packet.arg0 == own) (nat_eq one.packet.arg1 l) none (none_in l made)
    where
      by : (c : Command) (a b : Bool) → (if is_okay_of c && a then one.packet.payload ∷ [] else []) ++ okays_of own made ≡ []
          → (okays_of own made ≡ [] → okays_in own l (packets_of_sent made) ≡ 0)
          → cond (is_okay c && (a && b)) (1 + okays_in own l (packets_of_sent made)) (okays_in own l (packets_of_sent made)) ≡ 0
      by commands.Okay true b e later = absurd (let clash : one.packet.payload ∷ okays_of own made ≡ [] = e in cc)
      by _ _ b e later = later e

  -- so an id that sends an OKAY was drawn
  pub drawn_if_acked : (setting : Setting) (packets : List Packet) (l : ℕ) → 1 ≤ okays_in own l (packets_owed setting packets)
      → own ≤ (device_behind setting packets).serving.drawn
  drawn_if_acked setting packets l sends = go (cases_lt (device_behind setting packets).serving.drawn own)
    where
      silent : (at own (device_behind setting packets).serving.rows ≡ None)
          × (over_at own (device_behind setting packets).serving.ended ≡ None)
          → okays_of own (device_behind setting packets).serving.made ≡ []
      silent fresh =
          subst (λ (r : Option Row). IsAcked own (device_behind setting packets).serving.made r None) fresh.0
          (subst (λ (e : Option Ended). IsAcked own (device_behind setting packets).serving.made
          (at own (device_behind setting packets).serving.rows) e)
          fresh.1
          (all_acknowledged setting packets own))

      go : ((device_behind setting packets).serving.drawn < own) ⊎ (own ≤ (device_behind setting packets).serving.drawn)
          → own ≤ (device_behind setting packets).serving.drawn
      go (inl above) =
          let none = none_in l (device_behind setting packets).serving.made
          (silent ((behind_orderly own some setting packets).fresh above)) in
          absurd (omega (arith, none, sends))
      go (inr le) = le

-- ---- what is sent from an id goes to one
module _ (own host : ℕ) where
  -- a packet of a stream from this id goes to that one
  abbrev pub Goes : Packet → Type 0
  Goes p = is_of_stream p.command ≡ true → p.arg0 ≡ own → p.arg1 ≡ host

  pub all_go : (made : List Sent) → All (GoesTo own host) made → All Goes (packets_of_sent made)
  all_go [] all = All-nil Goes
  all_go (one ∷ made) all =
      All-cons Goes one.packet (packets_of_sent made) (All-head (GoesTo own host) one made all)
      (all_go made (All-tail (GoesTo own host) one made all))

  -- where an OKAY goes to an id, it is that one
  pub okay_to : (l : ℕ) (ps : List Packet) → All Goes ps → 1 ≤ okays_in own l ps → l ≡ host
  okay_to l [] all some = absurd (omega (arith, some))
  okay_to l (p ∷ ps) all some =
      by p.command refl (nat_eq p.arg0 own) refl (nat_eq p.arg1 l) refl some (λ s. okay_to l ps (All-tail Goes p ps all) s)
    where
      here : p.command ≡ commands.Okay → p.arg0 ≡ own → p.arg1 ≡ l → l ≡ host
      here c e f = sym f ∙ All-head Goes p ps all (ap is_of_stream c) e

      by : (c : Command) → p.command ≡ c → (a : Bool) → nat_eq p.arg0 own ≡ a → (b : Bool) → nat_eq p.arg1 l ≡ b
          → 1 ≤ cond (is_okay c && (a && b)) (1 + okays_in own l ps) (okays_in own l ps) → (1 ≤ okays_in own l ps → l ≡ host) → l ≡ host
      by commands.Okay c true e true f s later = here c (eqb-true p.arg0 own e) (eqb-true p.arg1 l f)
      by _ c _ e _ f s later = later s

-- An id from which an OKAY goes to an id of the host was drawn for that one.
pub record IsAskedFor (setting : Setting) (own l : ℕ) (packets : List Packet) : Type 0 where
  pub asked : WasAsked setting own packets
  pub host : asked.by.asking.arg0 ≡ l

pub asked_for : (setting : Setting) (own l : ℕ) (packets : List Packet) → 0 < own → (device_behind setting packets).refused ≡ false
    → 1 ≤ okays_in own l (packets_owed setting packets) → IsAskedFor setting own l packets
asked_for setting own l packets some sound sends =
    let w = was_asked setting packets own some sound (drawn_if_acked own some setting packets l sends) in
    record {
      asked = w;
      host = sym (okay_to own w.by.asking.arg0 l (packets_owed setting packets)
          (all_go own w.by.asking.arg0 (device_behind setting packets).serving.made w.opened.named) sends);
    }
