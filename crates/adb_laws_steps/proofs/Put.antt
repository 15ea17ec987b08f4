-- At rest a client whose input did not end was put all that the device wrote to its stream.
use Rattle.std.specs.Prelude.{ℕ, ◌+◌, ◌≡◌, ◌≤◌, ◌<◌, ◌&&◌, Bool, true, cond, nat_eq, All, List, [], ◌∷◌, ◌++◌, length, drop, codes}
use Rattle.std.specs.Prelude.{Option, Some, None}
use Rattle.std.proofs.Common.{refl, sym, ap, subst, arith, ◌∙◌, ◌⊎◌, inl, inr}
use Rattle.std.proofs.lemmas.Bool.{cases_eq, cases_lt, eqb-true}
use Rattle.std.proofs.lemmas.List.{length-append}
use Rattle.std.proofs.lemmas.List.Elements.{All-head, All-tail}
use Rattle.adb_outside.specs.Tables.{at}
use Rattle.adb_wire.specs.declared.packets.Packet.{Packet}
use Rattle.adb_reply.specs.declared.answer.Next.TheVariants.{Open}
use Rattle.adb_history.specs.Births.{count_from, is_okay, is_open}
use Rattle.adb_history.specs.Book.{asked}
use Rattle.adb_history.specs.Bytes.{bytes_put, bytes_read, sent}
use Rattle.adb_history.specs.Fifo.{okays_in}
use Rattle.adb_history.specs.Machine.{History, IsLegal}
use Rattle.adb_laws_births.proofs.Crossing.{no_crossing}
use Rattle.adb_laws_births.proofs.Single.{one_stream_each}
use Rattle.adb_device_streams.specs.Service.{service_answer}
use Rattle.adb_device_streams.specs.Stream.{Row, unsent}
use Rattle.adb_daemon.specs.Device.{Setting, device_behind}
use Rattle.adb_daemon.specs.Serving.{Ended, Sent}
use Rattle.adb_daemon.specs.Streams.{Writes, WritesFront, over_at, written}
use Rattle.adb_laws_model_device.specs.Opened.{EndedFor, HasOneId, LivesFor}
use Rattle.adb_laws_model_device.specs.Owed.{packets_owed, packets_of_sent}
use Rattle.adb_laws_model_device.proofs.Sound.{never_refused}
use Rattle.adb_laws_worlds.specs.Asked.{AllWereAsked, WasAsked}
use Rattle.adb_laws_answers.specs.Answers.{ClientsAreAnswered, HasEndedAs, IsAnswered}
use Rattle.adb_laws_steps.specs.Receives.{writes_to}
use Rattle.adb_laws_steps.specs.Steps.{WritesWerePut}
use Rattle.adb_laws_steps.proofs.Clients.{all_asked_for, asked_for}
use Rattle.adb_laws_steps.proofs.Serving.{IsUndrawn}
use Rattle.adb_laws_steps.proofs.Answering.{none_undrawn, rows_apart}
use Rattle.adb_laws_steps.proofs.Written.{part_is, part_written, OkaysFrom, okays_from}

-- what a row wrote is no more than its service answered
front_short : (own : ℕ) (row : Row) (made : List Sent) → WritesFront own row made
    → length (written own made) ≤ length (service_answer row.kind row.first row.past).bytes
front_short own row made w =
    let same = ap (length {A = ℕ}) w.written in
    let all : length row.sent + length (unsent row) ≡ length (service_answer row.kind row.first row.past).bytes =
    sym (length-append row.sent (unsent row)) ∙ ap length w.front in
    omega (arith, same, all)

-- an OKAY to a stream comes from its one id
okay_names : (own l id : ℕ) (packets : List Packet) → All (OkaysFrom l id) packets → 1 ≤ okays_in own l packets → own ≡ id
okay_names own l id [] all some = absurd (omega (arith, some))
okay_names own l id (p ∷ packets) all some =
    go (is_okay p.command) refl (nat_eq p.arg0 own) refl (nat_eq p.arg1 l) refl some
    (λ more. okay_names own l id packets (All-tail (OkaysFrom l id) p packets all) more)
  where
    go : (a : Bool) → is_okay p.command ≡ a → (m : Bool) → nat_eq p.arg0 own ≡ m → (n : Bool) → nat_eq p.arg1 l ≡ n
        → 1 ≤ cond (a && (m && n)) (1 + okays_in own l packets) (okays_in own l packets)
        → (1 ≤ okays_in own l packets → own ≡ id) → own ≡ id
    go true e true f true g some later =
        sym (eqb-true p.arg0 own f) ∙ All-head (OkaysFrom l id) p packets all e (eqb-true p.arg1 l g)
    go _ e _ f _ g some later = later some

-- what the laws below say of the device
pub record DeviceLaws (setting : Setting) : Type 0 where
  pub ids : (l : ℕ) (packets : List Packet) → count_from is_open l packets ≤ 1 → HasOneId l (device_behind setting packets).serving
  pub write : (packets : List Packet) (own : ℕ) → 0 < own
      → Writes own (device_behind setting packets).serving.made (device_behind setting packets).serving.acks
      (at own (device_behind setting packets).serving.rows) (over_at own (device_behind setting packets).serving.ended)
  pub were_asked : AllWereAsked setting

module _ (setting : Setting) (laws : DeviceLaws setting) (h : History) (legal : IsLegal h) where
  -- an id that has ended was drawn
  over_drawn : (own : ℕ) (e : Ended) → over_at own (device_behind setting (sent 1 h)).serving.ended ≡ Some e
      → (0 < own) × (own ≤ (device_behind setting (sent 1 h)).serving.drawn)
  over_drawn own e is = (some (cases_eq own 0), within (cases_lt (device_behind setting (sent 1 h)).serving.drawn own))
    where
      undrawn : IsUndrawn (device_behind setting (sent 1 h)).serving.drawn own → ⊥
      undrawn u = let clash : None ≡ Some e = sym (none_undrawn setting (sent 1 h) own u).1 ∙ is in cc

      some : (own ≡ 0) ⊎ (own ≡ 0 → ⊥) → 0 < own
      some (inl e) = absurd (undrawn (inl e))
      some (inr other) = omega (arith, other)

      within : ((device_behind setting (sent 1 h)).serving.drawn < own) ⊎ (own ≤ (device_behind setting (sent 1 h)).serving.drawn)
          → own ≤ (device_behind setting (sent 1 h)).serving.drawn
      within (inl past) = absurd (undrawn (inr past))
      within (inr le) = le

  module _ (l : ℕ) where
    id : HasOneId l (device_behind setting (sent 1 h)).serving
    id = laws.ids l (sent 1 h) ((no_crossing h legal).once 1 l)

    positive : 0 < id.id
    positive = let some = id.some in omega (arith, some)

    -- a row of the stream that lives
    live_wrote : (own : ℕ) (row : Row) → at own (device_behind setting (sent 1 h)).serving.rows ≡ Some row → row.host ≡ l
        → length (written id.id (device_behind setting (sent 1 h)).serving.made) ≤ length (service_answer row.kind row.first row.past).bytes
    live_wrote own row is host =
        let same : own ≡ id.id = id.rows own row is host in
        let there : at id.id (device_behind setting (sent 1 h)).serving.rows ≡ Some row =
        ap (λ (n : ℕ). at n (device_behind setting (sent 1 h)).serving.rows) (sym same) ∙ is in
        let w = subst
        (λ (o : Option Row). Writes id.id (device_behind setting (sent 1 h)).serving.made
        (device_behind setting (sent 1 h)).serving.acks o
        (over_at id.id (device_behind setting (sent 1 h)).serving.ended)) there (laws.write (sent 1 h) id.id positive) in
        front_short id.id row (device_behind setting (sent 1 h)).serving.made w.0

    -- one that has ended
    module _ (own : ℕ) (e : Ended) (is : over_at own (device_behind setting (sent 1 h)).serving.ended ≡ Some e)
        (host : e.row.host ≡ l) where
      drawn : (0 < own) × (own ≤ (device_behind setting (sent 1 h)).serving.drawn)
      drawn = over_drawn own e is

      was : WasAsked setting own (sent 1 h)
      was = laws.were_asked (sent 1 h) own drawn.0 (never_refused setting 1 h legal) drawn.1

      gone : at own (device_behind setting (sent 1 h)).serving.rows ≡ None
      gone = go (at own (device_behind setting (sent 1 h)).serving.rows) refl
        where
          go : (o : Option Row) → at own (device_behind setting (sent 1 h)).serving.rows ≡ o
              → at own (device_behind setting (sent 1 h)).serving.rows ≡ None
          go None there = there
          go (Some row) there = absurd (let clash : None ≡ Some e = sym (rows_apart setting (sent 1 h) own row there) ∙ is in cc)

      asked_by : was.by.asking.arg0 ≡ l
      asked_by = go was.opened.stands
        where
          go : LivesFor own was.by.asking.arg0 was.by.kind (device_behind setting was.by.front).serving.files
              (device_behind setting (sent 1 h)).serving.rows
              ⊎ EndedFor own was.by.asking.arg0 was.by.kind (device_behind setting was.by.front).serving.files
              (device_behind setting (sent 1 h)).serving.rows (device_behind setting (sent 1 h)).serving.ended
              → was.by.asking.arg0 ≡ l
          go (inl lives) = absurd (let clash : None ≡ Some lives.row = sym gone ∙ lives.is in cc)
          go (inr x) =
              let both : Some x.over ≡ Some e = sym x.is ∙ is in
              let one : x.over ≡ e = cc in
              sym x.opened.0 ∙ (ap (λ (y : Ended). y.row.host) one ∙ host)

      same_id : own ≡ id.id
      same_id =
          okay_names own l id.id (packets_of_sent (device_behind setting (sent 1 h)).serving.made)
          (okays_from l id.id (device_behind setting (sent 1 h)).serving.made id.sent)
          (subst (λ (n : ℕ). 1 ≤ okays_in own n (packets_of_sent (device_behind setting (sent 1 h)).serving.made)) asked_by was.opened.okay)

      over_wrote : length (written id.id (device_behind setting (sent 1 h)).serving.made)
          ≤ length (service_answer e.row.kind e.row.first e.row.past).bytes
      over_wrote =
          let w = subst (λ (o : Option Ended). Writes own (device_behind setting (sent 1 h)).serving.made
          (device_behind setting (sent 1 h)).serving.acks None o) is
          (subst (λ (o : Option Row). Writes own (device_behind setting (sent 1 h)).serving.made
          (device_behind setting (sent 1 h)).serving.acks o
          (over_at own (device_behind setting (sent 1 h)).serving.ended)) gone (laws.write (sent 1 h) own drawn.0)) in
          let few = front_short e.own e.row (device_behind setting (sent 1 h)).serving.made w.1.writes in
          let same = ap (λ (n : ℕ). length (written n (device_behind setting (sent 1 h)).serving.made)) w.0 in
          let mine = ap (λ (n : ℕ). length (written n (device_behind setting (sent 1 h)).serving.made)) same_id in
          omega (arith, few, same, mine)

  -- a client that was answered was put all that was written to its stream
  pub answered_put : (c : ℕ) (service text before put : List ℕ)
      → (a : IsAnswered (device_behind setting (sent 1 h)).serving h c service text before put)
      → writes_to a.number (packets_owed setting (sent 1 h)) ≤ length put
  answered_put c service text before put a =
      let mine = part_written a.number (id a.number).id (device_behind setting (sent 1 h)).serving.made (id a.number).sent in
      let same = part_is a.number (packets_of_sent (device_behind setting (sent 1 h)).serving.made) in
      let few = wrote a.served.there in
      let whole : length put ≡ length before + length (service_answer a.row.kind a.row.first a.row.past).bytes =
      ap length a.put_as ∙ length-append before (service_answer a.row.kind a.row.first a.row.past).bytes in
      omega (arith, mine, same, few, whole)
    where
      wrote : (at a.served.own (device_behind setting (sent 1 h)).serving.rows ≡ Some a.row)
          ⊎ HasEndedAs a.served.own a.row (device_behind setting (sent 1 h)).serving.ended
          → length (written (id a.number).id (device_behind setting (sent 1 h)).serving.made)
          ≤ length (service_answer a.row.kind a.row.first a.row.past).bytes
      wrote (inl live) = live_wrote a.number a.served.own a.row live a.served.host
      wrote (inr e) =
          subst (λ (row : Row). length (written (id a.number).id (device_behind setting (sent 1 h)).serving.made)
          ≤ length (service_answer row.kind row.first row.past).bytes) e.row_is
          (over_wrote a.number a.served.own e.over e.is (ap (λ (row : Row). row.host) e.row_is ∙ a.served.host))

pub writes_put : (setting : Setting) (laws : DeviceLaws setting) (h : History) → IsLegal h
    → ClientsAreAnswered setting h → WritesWerePut setting h
writes_put setting laws h legal answered rest here killed few none l b birth link known open_yet =
    let for_it = asked_for h (all_asked_for h legal none) l b birth in
    let next : (asked b.client h).next ≡ Some (Open 1 b.service) =
    for_it.next ∙ ap (λ (t : ℕ). Some (Open t b.service)) link in
    let a = answered rest here killed few b.client b.service (record { next = next; known = known; here = open_yet }) in
    let same : a.number ≡ l = one_stream_each h legal a.number l a.birth b a.is birth a.client in
    subst (λ (n : ℕ). writes_to n (packets_owed setting (sent 1 h)) ≤ length (bytes_put b.client h)) same
    (answered_put setting laws h legal b.client b.service (drop (asked b.client h).used (bytes_read b.client h))
    ((asked b.client h).replies ++ codes "OKAY") (bytes_put b.client h) a)
