-- The OKAYs of a server come to each stream of its model device in time.
use Rattle.std.specs.Prelude.{ℕ, ◌+◌, ◌^◌, ◌≡◌, ◌<◌, ◌≤◌, ◌==◌, ◌&&◌, if◌then◌else◌, Bool, true, false, cond, nat_eq, All, List, [], ◌∷◌}
use Rattle.std.specs.Prelude.{◌++◌}
use Rattle.std.proofs.Common.{refl, sym, ◌∙◌, ap, subst, arith, ◌⊎◌, inl, inr, append_assoc}
use Rattle.std.proofs.lemmas.Bool.{cases_lt, eq-eqb, eqb-true}
use Rattle.std.proofs.lemmas.List.Elements.{All-nil, All-cons, All-head, All-tail}
use Rattle.adb_wire.specs.declared.command.Command.{Command}
use Rattle.adb_wire.specs.declared.command.Command.TheVariants as commands
use Rattle.adb_wire.specs.declared.packets.Packet.{Packet}
use Rattle.adb_history.specs.Bytes.{sent}
use Rattle.adb_history.specs.Births.{is_okay, is_wrte, is_clse, is_open, count_from}
use Rattle.adb_history.specs.Fifo.{okays_in}
use Rattle.adb_history.specs.Machine.{History, IsLegal}
use Rattle.adb_laws_births.proofs.Once.{count_append}
use Rattle.adb_laws_births.proofs.Crossing.{no_crossing}
use Rattle.adb_daemon.specs.Serving.{Sent}
use Rattle.adb_daemon.specs.Device.{Device, Setting, first_device, device_behind}
use Rattle.adb_daemon.specs.Streams.{writes_of, is_write, acks_of}
use Rattle.adb_daemon.proofs.Machines.{all_refused, step_more}
use Rattle.adb_laws_model_device.specs.Counts.{writes_to}
use Rattle.adb_laws_model_device.specs.InTime.{AllPlain, IsToldInTime}
use Rattle.adb_laws_model_device.specs.Paired.{IsPaired}
use Rattle.adb_laws_model_device.proofs.Counts.{count_first, count_more}
use Rattle.adb_laws_model_device.proofs.Told.{told_in_time}
use Rattle.adb_laws_model_device.specs.Owed.{packets_of_sent, packets_owed}
use Rattle.adb_laws_model_device.specs.Opened.{is_of_stream, ComesFrom}
use Rattle.adb_laws_model_device.specs.Joined.{IsJoined}
use Rattle.adb_laws_model_device.proofs.Hosts.{one_id}
use Rattle.adb_laws_model_device.proofs.Joined.{paired}
use Rattle.adb_laws_model_device.proofs.Owing.{owes_step}
use Rattle.adb_laws_model_device.proofs.Plain.{model_is_plain}
use Rattle.adb_laws_model_device.proofs.Sound.{never_refused}
use Rattle.adb_laws_worlds.specs.Asked.{WasAsked}
use Rattle.adb_laws_worlds.specs.InTime.{AllAckedInTime}
use Rattle.adb_laws_worlds.proofs.Taken.{behind_untaken}
use Rattle.adb_laws_worlds.proofs.Asked.{was_asked}

-- ---- lists
-- what holds of all of a list holds of all of a front
pub all_front : (P : Sent → Type 0) (xs ys : List Sent) → All P (xs ++ ys) → All P xs
all_front P [] ys all = All-nil P
all_front P (x ∷ xs) ys all = All-cons P x xs (All-head P x (xs ++ ys) all) (all_front P xs ys (All-tail P x (xs ++ ys) all))

-- what stands last in a list is some of it
pub rest_counts : (l : ℕ) (front : List Packet) (p : Packet) (rest : List Packet)
    → count_from is_okay l rest ≤ count_from is_okay l (front ++ p ∷ rest)
rest_counts l front p rest =
    let sum = count_append is_okay l front (p ∷ rest) in
    let first = count_first is_okay l p rest in
    omega (arith, sum, first)

-- an OKAY is one command
okay_command : (c : Command) → is_okay c ≡ true → c ≡ commands.Okay
okay_command commands.Okay e = refl
okay_command _ e = let clash : false ≡ true = e in cc

module _ (own host : ℕ) where
  -- OKAYs of both ids are some of the OKAYs from the host's
  pub okays_some : (ps : List Packet) → okays_in host own ps ≤ count_from is_okay host ps
  okays_some [] = omega arith
  okays_some (p ∷ ps) = go (is_okay p.command) (nat_eq p.arg0 host) (nat_eq p.arg1 own) (okays_some ps)
    where
      go : (a b c : Bool) → okays_in host own ps ≤ count_from is_okay host ps
          → cond (a && (b && c)) (1 + okays_in host own ps) (okays_in host own ps)
          ≤ cond (a && b) (1 + count_from is_okay host ps) (count_from is_okay host ps)
      go true true true le = omega (arith, le)
      go true true false le = omega (arith, le)
      go true false c le = le
      go false b c le = le

  -- an OKAY of both ids tells that the one id from which all is sent to the host's is this one
  pub id_is : (id : ℕ) (made : List Sent) → All (ComesFrom host id) made → 1 ≤ okays_in own host (packets_of_sent made) → own ≡ id
  id_is id [] all some = absurd (omega (arith, some))
  id_is id (one ∷ made) all some =
      go (is_okay one.packet.command) refl (nat_eq one.packet.arg0 own) refl (nat_eq one.packet.arg1 host) refl some
      (λ s. id_is id made (All-tail (ComesFrom host id) one made all) s)
    where
      from : one.packet.command ≡ commands.Okay → one.packet.arg0 ≡ own → one.packet.arg1 ≡ host → own ≡ id
      from c e f = elim (All-head (ComesFrom host id) one made all (ap is_of_stream c) f) [
        | inl same ↦ sym e ∙ same
        | inr close ↦ absurd (let clash : false ≡ true = sym (ap is_clse c) ∙ close.0 in cc)
      ]

      go : (a : Bool) → is_okay one.packet.command ≡ a → (b : Bool) → nat_eq one.packet.arg0 own ≡ b → (c : Bool)
          → nat_eq one.packet.arg1 host ≡ c
          → 1 ≤ cond (a && (b && c)) (1 + okays_in own host (packets_of_sent made)) (okays_in own host (packets_of_sent made))
          → (1 ≤ okays_in own host (packets_of_sent made) → own ≡ id) → own ≡ id
      go true e true f true g s later =
          from (okay_command one.packet.command e) (eqb-true one.packet.arg0 own f) (eqb-true one.packet.arg1 host g)
      go _ e _ f _ g s later = later s

  -- where all that is sent to the host's id comes from this one, the writes to it are this stream's
  pub writes_within : (made : List Sent) → All (ComesFrom host own) made → writes_to host (packets_of_sent made) ≤ writes_of own made
  writes_within [] all = omega arith
  writes_within (one ∷ made) all =
      by one.packet.command refl (nat_eq one.packet.arg1 host) refl (one.packet.arg0 == own) refl
      (writes_within made (All-tail (ComesFrom host own) one made all))
    where
      from : one.packet.command ≡ commands.Wrte → one.packet.arg1 ≡ host → one.packet.arg0 ≡ own
      from c to = elim (All-head (ComesFrom host own) one made all (ap is_of_stream c) to) [
        | inl same ↦ same
        | inr close ↦ absurd (let clash : false ≡ true = sym (ap is_clse c) ∙ close.0 in cc)
      ]

      by : (c : Command) → one.packet.command ≡ c → (a : Bool) → nat_eq one.packet.arg1 host ≡ a → (b : Bool) → (one.packet.arg0 == own) ≡ b
          → writes_to host (packets_of_sent made) ≤ writes_of own made
          → cond (is_wrte c && a) (1 + writes_to host (packets_of_sent made)) (writes_to host (packets_of_sent made))
          ≤ (if is_write c && b then 1 else 0) + writes_of own made
      by commands.Wrte e true f false g le =
          absurd (let clash : true ≡ false = sym (eq-eqb one.packet.arg0 own (from e (eqb-true one.packet.arg1 host f))) ∙ g in cc)
      by commands.Wrte e false f true g le = omega (arith, le)
      by _ e _ f _ g le = omega (arith, le)

-- a device that refused nothing had refused nothing before
pub sound_before : (setting : Setting) (front rest : List Packet) → (device_behind setting (front ++ rest)).refused ≡ false
    → (device_behind setting front).refused ≡ false
sound_before setting front rest sound = go (device_behind setting front).refused refl
  where
    go : (b : Bool) → (device_behind setting front).refused ≡ b → (device_behind setting front).refused ≡ false
    go false e = e
    go true e =
        let stays : device_behind setting (front ++ rest) ≡ device_behind setting front =
        step_more setting (first_device setting) front rest ∙ all_refused setting (device_behind setting front) rest e in
        let kept : (device_behind setting (front ++ rest)).refused ≡ true = ap (λ (d : Device). d.refused) stays ∙ e in
        absurd (let clash : false ≡ true = sym sound ∙ kept in cc)

module _ (setting : Setting) (h : History) (legal : IsLegal h) (pairs : IsPaired (packets_owed setting) h) (plain : AllPlain h) where
  timely : IsToldInTime (packets_owed setting) (sent 1 h)
  timely = told_in_time (packets_owed setting) (model_is_plain setting) h legal pairs plain

  module _ (own : ℕ) (some : 0 < own) (front : List Packet) (p : Packet) (rest : List Packet) (is : front ++ p ∷ rest ≡ sent 1 h) where
    whole : (front ++ p ∷ []) ++ rest ≡ sent 1 h
    whole = append_assoc front (p ∷ []) rest ∙ is

    -- what was owed behind the packets before is a front of what is owed
    grown : (l : ℕ) → (more : List Sent)
        × ((device_behind setting (front ++ p ∷ [])).serving.made ≡ (device_behind setting front).serving.made ++ more)
    grown l =
        let one = owes_step l setting (device_behind setting front) p in
        (one.more, ap (λ (d : Device). d.serving.made) (step_more setting (first_device setting) front (p ∷ [])) ∙ one.is)

    -- where the id was drawn
    drawn_in_time : WasAsked setting own (front ++ p ∷ [])
        → acks_of own (device_behind setting (front ++ p ∷ [])).serving.acks ≤ 1 + writes_of own (device_behind setting front).serving.made
    drawn_in_time w =
        let once : count_from is_open w.by.asking.arg0 (front ++ p ∷ []) ≤ 1 =
        (let all = (no_crossing h legal).once 1 w.by.asking.arg0 in
        let fewer = count_more is_open w.by.asking.arg0 (front ++ p ∷ []) rest in
        let same : count_from is_open w.by.asking.arg0 ((front ++ p ∷ []) ++ rest) ≡ count_from is_open w.by.asking.arg0 (sent 1 h) =
        ap (count_from is_open w.by.asking.arg0) whole in
        omega (arith, all, fewer, same)) in
        let one = one_id w.by.asking.arg0 setting (front ++ p ∷ []) once in
        let same : own ≡ one.id = id_is own w.by.asking.arg0 one.id
        (device_behind setting (front ++ p ∷ [])).serving.made one.sent w.opened.okay in
        let mine : All (ComesFrom w.by.asking.arg0 own) (device_behind setting (front ++ p ∷ [])).serving.made =
        subst (λ (n : ℕ). All (ComesFrom w.by.asking.arg0 n) (device_behind setting (front ++ p ∷ [])).serving.made) (sym same) one.sent in
        let more = grown w.by.asking.arg0 in
        let before : All (ComesFrom w.by.asking.arg0 own) (device_behind setting front).serving.made =
        all_front (ComesFrom w.by.asking.arg0 own) (device_behind setting front).serving.made more.0
        (subst (λ (made : List Sent). All (ComesFrom w.by.asking.arg0 own) made) more.1 mine) in
        let writes = writes_within own w.by.asking.arg0 (device_behind setting front).serving.made before in
        let acked = timely w.by.asking.arg0 front p rest is in
        let few = w.few in
        let some_of = okays_some own w.by.asking.arg0 w.by.rest in
        let last : count_from is_okay w.by.asking.arg0 w.by.rest ≤ count_from is_okay w.by.asking.arg0 (front ++ p ∷ []) =
        subst (λ (ps : List Packet). count_from is_okay w.by.asking.arg0 w.by.rest ≤ count_from is_okay w.by.asking.arg0 ps) w.by.is
        (rest_counts w.by.asking.arg0 w.by.front w.by.asking w.by.rest) in
        omega (arith, few, some_of, last, acked, writes)

    -- no OKAY comes to the stream before the write that it answers
    in_time : acks_of own (device_behind setting (front ++ p ∷ [])).serving.acks
        ≤ 1 + writes_of own (device_behind setting front).serving.made
    in_time = go (cases_lt (device_behind setting (front ++ p ∷ [])).serving.drawn own)
      where
        sound : (device_behind setting (front ++ p ∷ [])).refused ≡ false
        sound = sound_before setting (front ++ p ∷ []) rest
            (subst (λ (ps : List Packet). (device_behind setting ps).refused ≡ false) (sym whole) (never_refused setting 1 h legal))

        go : ((device_behind setting (front ++ p ∷ [])).serving.drawn < own)
            ⊎ (own ≤ (device_behind setting (front ++ p ∷ [])).serving.drawn)
            → acks_of own (device_behind setting (front ++ p ∷ [])).serving.acks
            ≤ 1 + writes_of own (device_behind setting front).serving.made
        go (inl above) = (let none = ((behind_untaken own setting (front ++ p ∷ [])).fresh above).1 in omega (arith, none))
        go (inr reached) = drawn_in_time (was_asked setting (front ++ p ∷ []) own some sound reached)

-- so in a joined history all come in time
pub acked_in_time : (setting : Setting) → setting.most < 2 ^ 32 → (h : History) → IsLegal h → IsJoined setting h
    → AllPlain h → AllAckedInTime setting h
acked_in_time setting word h legal joined plain own some front p rest is =
    in_time setting h legal (paired setting word h legal joined) plain own some front p rest is
