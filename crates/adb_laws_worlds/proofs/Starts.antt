-- What a stream of the device sends begins with its OKAY.
use Rattle.std.specs.Prelude.{ℕ, ◌+◌, ◌≡◌, ◌≤◌, ◌==◌, ◌&&◌, if◌then◌else◌, Bool, true, false, cond, nat_eq, All, List, [], ◌∷◌, ◌++◌}
use Rattle.std.specs.Prelude.{length, Option, None}
use Rattle.std.proofs.Common.{refl, sym, ◌∙◌, ap, subst, arith}
use Rattle.std.proofs.lemmas.Bool.{eq-eqb, eqb-true}
use Rattle.std.proofs.lemmas.List.Elements.{All-head, All-tail}
use Rattle.adb_outside.specs.Tables.{at}
use Rattle.adb_wire.specs.declared.command.Command.{Command}
use Rattle.adb_wire.specs.declared.command.Command.TheVariants as commands
use Rattle.adb_wire.specs.declared.packets.Packet.{Packet}
use Rattle.adb_history.specs.Births.{is_okay, is_wrte, is_between, told_in, joined}
use Rattle.adb_history.specs.Fifo.{okays_in}
use Rattle.adb_device_streams.specs.Stream.{Row, okay}
use Rattle.adb_daemon.specs.Serving.{Sent, Ended}
use Rattle.adb_daemon.specs.Device.{Setting, device_behind}
use Rattle.adb_daemon.specs.Streams.{writes_of, written, is_write, Writes}
use Rattle.adb_laws_model_device.specs.Counts.{okays_to}
use Rattle.adb_laws_model_device.specs.Owed.{packets_of_sent}
use Rattle.adb_laws_model_device.specs.Opened.{is_of_stream, GoesTo}
use Rattle.adb_laws_worlds.proofs.Order.{behind_orderly}

module _ (own host : ℕ) where
  -- writes of the device are told, where all of them go to the host's id
  pub writes_told : (made : List Sent) → All (GoesTo own host) made → writes_of own made ≤ length (told_in own host (packets_of_sent made))
  writes_told [] all = omega arith
  writes_told (one ∷ made) all =
      by one.packet.command refl (one.packet.arg0 == own) refl (nat_eq one.packet.arg1 host) refl
      (writes_told made (All-tail (GoesTo own host) one made all))
    where
      to : one.packet.command ≡ commands.Wrte → (one.packet.arg0 == own) ≡ true → nat_eq one.packet.arg1 host ≡ true
      to c e = eq-eqb one.packet.arg1 host (All-head (GoesTo own host) one made all (ap is_of_stream c) (eqb-true one.packet.arg0 own e))

      by : (c : Command) → one.packet.command ≡ c → (a : Bool) → (one.packet.arg0 == own) ≡ a → (b : Bool) → nat_eq one.packet.arg1 host ≡ b
          → writes_of own made ≤ length (told_in own host (packets_of_sent made))
          → (if is_write c && a then 1 else 0) + writes_of own made
          ≤ length (cond (is_wrte c && (a && b)) (one.packet.payload ∷ told_in own host (packets_of_sent made))
          (told_in own host (packets_of_sent made)))
      by commands.Wrte c true e false f le = absurd (let clash : true ≡ false = sym (to c e) ∙ f in cc)
      by _ c _ e _ f le = omega (arith, le)

  -- and so are their bytes
  pub bytes_told : (made : List Sent) → All (GoesTo own host) made → written own made ≡ joined (told_in own host (packets_of_sent made))
  bytes_told [] all = refl
  bytes_told (one ∷ made) all =
      by one.packet.command refl (one.packet.arg0 == own) refl (nat_eq one.packet.arg1 host) refl
      (bytes_told made (All-tail (GoesTo own host) one made all))
    where
      to : one.packet.command ≡ commands.Wrte → (one.packet.arg0 == own) ≡ true → nat_eq one.packet.arg1 host ≡ true
      to c e = eq-eqb one.packet.arg1 host (All-head (GoesTo own host) one made all (ap is_of_stream c) (eqb-true one.packet.arg0 own e))

      by : (c : Command) → one.packet.command ≡ c → (a : Bool) → (one.packet.arg0 == own) ≡ a → (b : Bool) → nat_eq one.packet.arg1 host ≡ b
          → written own made ≡ joined (told_in own host (packets_of_sent made))
          → (if is_write c && a then one.packet.payload else []) ++ written own made
          ≡ joined (cond (is_wrte c && (a && b)) (one.packet.payload ∷ told_in own host (packets_of_sent made))
          (told_in own host (packets_of_sent made)))
      by commands.Wrte c true e true f same = ap (λ (bytes : List ℕ). one.packet.payload ++ bytes) same
      by commands.Wrte c true e false f same = absurd (let clash : true ≡ false = sym (to c e) ∙ f in cc)
      by _ c _ e b f same = same

  -- what is told behind packets in which nothing is told is all that is told
  pub told_behind : (xs ys : List Packet) → length (told_in own host xs) ≡ 0 → told_in own host (xs ++ ys) ≡ told_in own host ys
  told_behind [] ys none = refl
  told_behind (p ∷ xs) ys none = go (is_wrte p.command && is_between own host p) none (told_behind xs ys)
    where
      go : (b : Bool) → length (cond b (p.payload ∷ told_in own host xs) (told_in own host xs)) ≡ 0
          → (length (told_in own host xs) ≡ 0 → told_in own host (xs ++ ys) ≡ told_in own host ys)
          → cond b (p.payload ∷ told_in own host (xs ++ ys)) (told_in own host (xs ++ ys)) ≡ told_in own host ys
      go true e later = absurd (omega (arith, e))
      go false e later = later e

  -- what is told is written
  pub told_written : (made : List Sent) → length (told_in own host (packets_of_sent made)) ≤ writes_of own made
  told_written [] = omega arith
  told_written (one ∷ made) = by one.packet.command (one.packet.arg0 == own) (nat_eq one.packet.arg1 host) (told_written made)
    where
      by : (c : Command) (a b : Bool) → length (told_in own host (packets_of_sent made)) ≤ writes_of own made
          → length (cond (is_wrte c && (a && b)) (one.packet.payload ∷ told_in own host (packets_of_sent made))
          (told_in own host (packets_of_sent made)))
          ≤ (if is_write c && a then 1 else 0) + writes_of own made
      by commands.Wrte true true le = omega (arith, le)
      by _ _ _ le = omega (arith, le)

  -- OKAYs of both ids are some of those to the host's
  pub okays_among : (ps : List Packet) → okays_in own host ps ≤ okays_to host ps
  okays_among [] = omega arith
  okays_among (p ∷ ps) = go (is_okay p.command) (nat_eq p.arg0 own) (nat_eq p.arg1 host) (okays_among ps)
    where
      go : (a b c : Bool) → okays_in own host ps ≤ okays_to host ps
          → cond (a && (b && c)) (1 + okays_in own host ps) (okays_in own host ps) ≤ cond (a && c) (1 + okays_to host ps) (okays_to host ps)
      go true true true le = omega (arith, le)
      go true false true le = omega (arith, le)
      go _ _ _ le = le

  -- A list that begins so, and a front of it without an OKAY of both ids: nothing is told in it, where nothing is told before that OKAY.
  pub none_told : (before : List Packet) (word : List ℕ) (after front rest : List Packet)
      → before ++ okay own host word ∷ after ≡ front ++ rest
      → okays_in own host front ≡ 0 → length (told_in own host before) ≡ 0 → length (told_in own host front) ≡ 0
  none_told before word after [] rest is none silent = refl
  none_told [] word after (p ∷ front) rest is none silent =
      let whole : okay own host word ∷ after ≡ p ∷ (front ++ rest) = is in
      let head : okay own host word ≡ p = cc in
      let one : (is_okay p.command && is_between own host p) ≡ true =
      ap (λ (q : Packet). is_okay q.command && is_between own host q) (sym head)
      ∙ (ap (λ (b : Bool). b && nat_eq host host) (eq-eqb own own refl) ∙ eq-eqb host host refl) in
      let counts : okays_in own host (p ∷ front) ≡ 1 + okays_in own host front =
      ap (λ (b : Bool). cond b (1 + okays_in own host front) (okays_in own host front)) one in
      absurd (omega (arith, none, counts))
  none_told (q ∷ before) word after (p ∷ front) rest is none silent =
      go (is_okay p.command && is_between own host p) (is_wrte q.command && is_between own host q) refl none silent
      (none_told before word after front rest tail)
    where
      whole : q ∷ (before ++ okay own host word ∷ after) ≡ p ∷ (front ++ rest)
      whole = is

      head : q ≡ p
      head = (let all : q ∷ (before ++ okay own host word ∷ after) ≡ p ∷ (front ++ rest) = is in cc)

      tail : before ++ okay own host word ∷ after ≡ front ++ rest
      tail = (let all : q ∷ (before ++ okay own host word ∷ after) ≡ p ∷ (front ++ rest) = is in cc)

      go : (a b : Bool) → (is_wrte q.command && is_between own host q) ≡ b
          → cond a (1 + okays_in own host front) (okays_in own host front) ≡ 0
          → length (cond b (q.payload ∷ told_in own host before) (told_in own host before)) ≡ 0
          → (okays_in own host front ≡ 0 → length (told_in own host before) ≡ 0 → length (told_in own host front) ≡ 0)
          → length (told_in own host (p ∷ front)) ≡ 0
      go true b e none silent later = absurd (omega (arith, none))
      go false true e none silent later = absurd (omega (arith, silent))
      go false false e none silent later =
          ap (λ (c : Bool). length (cond c (p.payload ∷ told_in own host front) (told_in own host front)))
          (ap (λ (x : Packet). is_wrte x.command && is_between own host x) (sym head) ∙ e) ∙ later none silent

-- an id that was not drawn wrote nothing
pub none_written : (setting : Setting) (packets : List Packet) (own : ℕ) → (device_behind setting packets).serving.drawn + 1 ≡ own
    → writes_of own (device_behind setting packets).serving.made ≡ 0
none_written setting packets own number =
    let o = behind_orderly own (omega (arith, number)) setting packets in
    let fresh = o.fresh (omega (arith, number)) in
    let writes : Writes own (device_behind setting packets).serving.made (device_behind setting packets).serving.acks None None =
    subst (λ (r : Option Row). Writes own (device_behind setting packets).serving.made
    (device_behind setting packets).serving.acks r None) fresh.0
    (subst (λ (e : Option Ended). Writes own (device_behind setting packets).serving.made (device_behind setting packets).serving.acks
    (at own (device_behind setting packets).serving.rows) e) fresh.1 o.writes) in
    writes.2
