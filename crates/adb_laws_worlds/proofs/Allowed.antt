-- A model device without credit in bytes makes one write to a stream, and one more for each OKAY of it.
use Rattle.std.specs.Prelude.{ℕ, ◌+◌, ◌≡◌, ◌≢◌, ◌<◌, ◌≤◌, ◌&&◌, Bool, true, false, cond, nat_eq, All, List, [], ◌∷◌, Option, Some, None}
use Rattle.std.proofs.Common.{zero, suc, refl, sym, ◌∙◌, ap, subst, arith, inl, inr}
use Rattle.std.proofs.lemmas.Bool.{cases_lt, eqb-true}
use Rattle.std.proofs.lemmas.List.Elements.{All-nil, All-cons, All-head, All-tail}
use Rattle.adb_outside.specs.Tables.{at}
use Rattle.adb_wire.specs.declared.command.Command.{Command}
use Rattle.adb_wire.specs.declared.command.Command.TheVariants as commands
use Rattle.adb_wire.specs.declared.packets.Packet.{Packet}
use Rattle.adb_stream.specs.Flow.{has_credit}
use Rattle.adb_stream.specs.declared.flow.Flow.{Flow}
use Rattle.adb_stream.specs.declared.flow.Flow.TheVariants as flows
use Rattle.adb_history.specs.Births.{count_from, is_okay, is_wrte, is_clse, is_open}
use Rattle.adb_history.specs.Fifo.{okays_in}
use Rattle.adb_device_streams.specs.Stream.{Row}
use Rattle.adb_device_streams.specs.Link.{link_of}
use Rattle.adb_daemon.specs.Serving.{Sent, Ended}
use Rattle.adb_daemon.specs.Device.{Setting, device_behind}
use Rattle.adb_daemon.specs.Streams.{over_at, acks_of, writes_of, IsWithin, Writes}
use Rattle.adb_daemon.proofs.Rules.{streams_write}
use Rattle.adb_laws_model_device.specs.Counts.{writes_to}
use Rattle.adb_laws_model_device.specs.Opened.{is_of_stream, GoesTo, ComesFrom, HasOneId}
use Rattle.adb_laws_model_device.specs.Owed.{packets_of_sent, packets_owed}
use Rattle.adb_laws_model_device.proofs.Hosts.{one_id}
use Rattle.adb_laws_model_device.proofs.Links.{link_plain}
use Rattle.adb_laws_worlds.specs.Asked.{WasAsked}
use Rattle.adb_laws_worlds.specs.InTurn.{WritesAsAllowed}
use Rattle.adb_laws_worlds.proofs.Asked.{was_asked}
use Rattle.adb_laws_worlds.proofs.InTime.{okays_some, writes_within, rest_counts}
use Rattle.adb_laws_worlds.proofs.Linked.{made_link}
use Rattle.adb_laws_worlds.proofs.Order.{behind_orderly}

-- ---- one stream
-- a window of one write lets no more writes go than OKAYs came
one_within : (flow : Flow) (count bytes acks words : ℕ) → has_credit flow ≡ false → IsWithin count bytes acks words flow → count ≤ acks
one_within (flows.One window) count bytes acks words plain within = omega (arith, within)
one_within (flows.Credit credit) count bytes acks words plain within = let clash : true ≡ false = plain in cc

-- so it is of each id, whether its stream lives or has ended
few_writes : (setting : Setting) (packets : List Packet) (own : ℕ) → 0 < own
    → ((row : Row) → at own (device_behind setting packets).serving.rows ≡ Some row → has_credit row.flow ≡ false)
    → ((e : Ended) → over_at own (device_behind setting packets).serving.ended ≡ Some e → has_credit e.row.flow ≡ false)
    → writes_of own (device_behind setting packets).serving.made ≤ acks_of own (device_behind setting packets).serving.acks
few_writes setting packets own some lives overs =
    go (at own (device_behind setting packets).serving.rows) refl (over_at own (device_behind setting packets).serving.ended) refl
    (streams_write own some setting packets)
  where
    go : (o : Option Row) → at own (device_behind setting packets).serving.rows ≡ o
        → (x : Option Ended) → over_at own (device_behind setting packets).serving.ended ≡ x
        → Writes own (device_behind setting packets).serving.made (device_behind setting packets).serving.acks o x
        → writes_of own (device_behind setting packets).serving.made ≤ acks_of own (device_behind setting packets).serving.acks
    go (Some row) is x over writes =
        one_within row.flow (writes_of own (device_behind setting packets).serving.made) _
        (acks_of own (device_behind setting packets).serving.acks) _
        (lives row is) writes.2
    go None is (Some e) over writes =
        one_within e.row.flow (writes_of own (device_behind setting packets).serving.made) _
        (acks_of own (device_behind setting packets).serving.acks) _
        (overs e over) writes.2
    go None is None over writes = (let none = writes.2 in omega (arith, none))

-- ---- the one id of a host's id
module _ (own l : ℕ) where
  -- a write to the host's id is one from this one, and so goes to where all from this one go
  write_to : (host : ℕ) (made : List Sent) → All (GoesTo own host) made → All (ComesFrom l own) made
      → 1 ≤ writes_to l (packets_of_sent made) → l ≡ host
  write_to host [] goes comes some = absurd (omega (arith, some))
  write_to host (one ∷ made) goes comes some =
      by one.packet.command refl (nat_eq one.packet.arg1 l) refl some
      (λ s. write_to host made (All-tail (GoesTo own host) one made goes) (All-tail (ComesFrom l own) one made comes) s)
    where
      here : one.packet.command ≡ commands.Wrte → one.packet.arg1 ≡ l → l ≡ host
      here c to = elim (All-head (ComesFrom l own) one made comes (ap is_of_stream c) to) [
        | inl from ↦ sym to ∙ All-head (GoesTo own host) one made goes (ap is_of_stream c) from
        | inr close ↦ absurd (let clash : false ≡ true = sym (ap is_clse c) ∙ close.0 in cc)
      ]

      by : (c : Command) → one.packet.command ≡ c → (b : Bool) → nat_eq one.packet.arg1 l ≡ b
          → 1 ≤ cond (is_wrte c && b) (1 + writes_to l (packets_of_sent made)) (writes_to l (packets_of_sent made))
          → (1 ≤ writes_to l (packets_of_sent made) → l ≡ host) → l ≡ host
      by commands.Wrte c true e s later = here c (eqb-true one.packet.arg1 l e)
      by _ c _ e s later = later s

module _ (setting : Setting) (plain : setting.credit ≡ false) (l : ℕ) (packets : List Packet) (once : count_from is_open l packets ≤ 1)
    (sound : (device_behind setting packets).refused ≡ false) where
  one : HasOneId l (device_behind setting packets).serving
  one = one_id l setting packets once

  within : writes_to l (packets_owed setting packets) ≤ writes_of one.id (device_behind setting packets).serving.made
  within = writes_within one.id l (device_behind setting packets).serving.made one.sent

  some_id : 0 < one.id
  some_id = go one.id one.some
    where
      go : (n : ℕ) → n ≢ 0 → 0 < n
      go zero none = absurd (none refl)
      go (suc n) none = omega arith

  -- an id that was not drawn wrote nothing
  undrawn : (device_behind setting packets).serving.drawn < one.id → writes_of one.id (device_behind setting packets).serving.made ≡ 0
  undrawn above =
      let o = behind_orderly one.id some_id setting packets in
      let fresh = o.fresh above in
      let writes : Writes one.id (device_behind setting packets).serving.made (device_behind setting packets).serving.acks None None =
      subst (λ (r : Option Row). Writes one.id (device_behind setting packets).serving.made
      (device_behind setting packets).serving.acks r None) fresh.0
      (subst (λ (e : Option Ended). Writes one.id (device_behind setting packets).serving.made (device_behind setting packets).serving.acks
      (at one.id (device_behind setting packets).serving.rows) e) fresh.1 o.writes) in
      writes.2

  -- one that was drawn wrote within its window
  drawn : WasAsked setting one.id packets → writes_to l (packets_owed setting packets) ≤ 1 + count_from is_okay l packets
  drawn w = go (writes_to l (packets_owed setting packets)) refl
    where
      every : (ps : List Packet) → All (λ (p : Packet). Unit {0}) ps
      every [] = All-nil (λ (p : Packet). Unit {0})
      every (p ∷ ps) = All-cons (λ (p : Packet). Unit {0}) p ps tt (every ps)

      no_credit : w.by.link.credit ≡ false
      no_credit =
          let made = made_link setting (λ (p : Packet). Unit {0}) w.by.front (every w.by.front) w.by.link w.by.linked in
          link_plain setting.most made.0 w.by.link (ap (λ (c : Bool). link_of setting.most c made.0) (sym plain) ∙ made.1.1.1)

      go : (n : ℕ) → writes_to l (packets_owed setting packets) ≡ n
          → writes_to l (packets_owed setting packets) ≤ 1 + count_from is_okay l packets
      go zero none = omega (arith, none)
      go (suc n) some =
          let host : l ≡ w.by.asking.arg0 = write_to one.id l w.by.asking.arg0
          (device_behind setting packets).serving.made w.opened.named one.sent
          (omega (arith, some)) in
          let few = few_writes setting packets one.id some_id (λ row is. w.credit row is ∙ no_credit) (λ e is. w.over e is ∙ no_credit) in
          let acks : acks_of one.id (device_behind setting packets).serving.acks ≤ 1 + okays_in l one.id w.by.rest =
          subst (λ (k : ℕ). acks_of one.id (device_behind setting packets).serving.acks
          ≤ 1 + okays_in k one.id w.by.rest) (sym host) w.few in
          let okays = okays_some one.id l w.by.rest in
          let last : count_from is_okay l w.by.rest ≤ count_from is_okay l packets =
          subst (λ (ps : List Packet). count_from is_okay l w.by.rest ≤ count_from is_okay l ps) w.by.is
          (rest_counts l w.by.front w.by.asking w.by.rest) in
          let all = within in
          omega (arith, all, few, acks, okays, last)

  allowed : writes_to l (packets_owed setting packets) ≤ 1 + count_from is_okay l packets
  allowed = elim (cases_lt (device_behind setting packets).serving.drawn one.id) [
    | inl above ↦ (let none = undrawn above in let all = within in omega (arith, none, all))
    | inr reached ↦ drawn (was_asked setting packets one.id some_id sound reached)
  ]

pub writes_as_allowed : (setting : Setting) → setting.credit ≡ false → WritesAsAllowed setting
writes_as_allowed setting plain l packets once sound = allowed setting plain l packets once sound
