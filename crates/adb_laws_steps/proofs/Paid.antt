-- All that moves from a time at which nothing is on its way to the next is paid by the clients.
use Rattle.std.specs.Prelude.{ℕ, ◌+◌, ◌*◌, ◌≡◌, ◌≤◌, ◌<◌, zero, suc, Bool, true, false, cond, is_some, All, List, [], ◌∷◌, ◌++◌, length}
use Rattle.std.specs.Prelude.{Option, Some, None}
use Rattle.std.proofs.Common.{refl, sym, ap, arith, ◌∙◌, ◌⊎◌, inl, inr}
use Rattle.std.proofs.lemmas.List.{length-append}
use Rattle.std.proofs.lemmas.List.Elements.{All-nil, All-cons, All-head, All-tail}
use Rattle.adb_wire.specs.declared.packets.Packet.{Packet}
use Rattle.adb_stream.specs.declared.row.Stream.{Stream}
use Rattle.adb_history.specs.Births.{count_from, is_open, is_wrte}
use Rattle.adb_history.specs.Bytes.{bytes_put, bytes_read, bytes_received, bytes_sent, has_ended, sent}
use Rattle.adb_history.specs.Book.{asked}
use Rattle.adb_history.specs.Events.{spelled_to}
use Rattle.adb_history.specs.Fifo.{OfEachStream}
use Rattle.adb_history.specs.Lives.{packets_of}
use Rattle.adb_history.specs.Machine.{History, IsLegal, state, told}
use Rattle.adb_history.specs.Tied.{came_count}
use Rattle.adb_laws_births.proofs.Born.{all_births}
use Rattle.adb_laws_births.proofs.Crossing.{no_crossing}
use Rattle.adb_laws_births.proofs.Sent.{sent_first}
use Rattle.adb_laws_fifo_up.specs.Carrying.{IsCarried}
use Rattle.adb_laws_fifo_up.proofs.BirthSteps.{born_drawn}
use Rattle.adb_daemon.specs.Serving.{Sent, sent_bytes}
use Rattle.adb_daemon.specs.Device.{Setting, device_behind}
use Rattle.adb_laws_model_device.specs.Opened.{HasOneId}
use Rattle.adb_laws_model_device.specs.Owed.{packets_of_sent}
use Rattle.adb_laws_steps.specs.Moved.{moved, handled, of_here, on_link}
use Rattle.adb_laws_steps.specs.Owed.{answer_tolls, row_tolls, sent_tolls, IsFine}
use Rattle.adb_laws_steps.specs.Receives.{write_len}
use Rattle.adb_laws_steps.specs.Steps.{ClientsPay, Settles, pays, stream_pays}
use Rattle.adb_laws_steps.specs.Sums.{sum_to}
use Rattle.adb_laws_steps.specs.Tolls.{BringWorth, close_tolls, puts_made, tolls}
use Rattle.adb_laws_steps.proofs.Costs.{tolls_append}
use Rattle.adb_laws_steps.proofs.Moved.{handled_here, moves_counted, plugged_same, put_here, puts_within}
use Rattle.adb_laws_steps.proofs.Parts.{total, total_append, part, IsWithin, covered}
use Rattle.adb_laws_steps.proofs.Receives.{bytes_append, made_size}
use Rattle.adb_laws_steps.proofs.Answering.{rows_rise}
use Rattle.adb_laws_steps.proofs.Sizes.{size, stream_share, shared, spelled_size, packet_tolls_within}
use Rattle.adb_laws_steps.proofs.Streams.{alone, costs, due_now, due_since, legal_before, made_now, more_drawn, q, shares_in, streams_paid}
use Rattle.adb_laws_steps.proofs.Streams.{told_since}
use Rattle.adb_laws_steps.proofs.Tolls.{tolls_paid}
use Rattle.adb_laws_steps.proofs.Watched.{closes_kept, is_watched, keeps, rows_kept}
use Rattle.adb_laws_steps.proofs.Written.{total_written}

-- ---- sums
three_sums : (a b : ℕ → ℕ) (c : ℕ → ℕ) (n : ℕ) → sum_to (λ l. a l + 25 * b l + 2 * c l) n ≡ sum_to a n + 25 * sum_to b n + 2 * sum_to c n
three_sums a b c zero = refl
three_sums a b c (suc n) = let below = three_sums a b c n in omega (arith, below)

module _ (before h : History) where
  both_pay : (n : ℕ) → sum_to (λ c. of_here before c (handled c h)) n + 28 * sum_to (λ c. of_here before c (length (bytes_put c h))) n
      + sum_to (λ c. of_here before c
      (stream_pays (asked c h).next (asked c h).used (length (bytes_read c h)) + 25 * length (bytes_put c h))) n
      ≤ sum_to (λ c. of_here before c (pays c h)) n
  both_pay zero = omega arith
  both_pay (suc n) = let below = both_pay n in let one = go (has_ended (suc n) before) in omega (arith, below, one)
    where
      go : (b : Bool) → cond b 0 (handled (suc n) h) + 28 * cond b 0 (length (bytes_put (suc n) h))
          + cond b 0 (stream_pays (asked (suc n) h).next (asked (suc n) h).used (length (bytes_read (suc n) h)) + 25
          * length (bytes_put (suc n) h))
          ≤ cond b 0 (pays (suc n) h)
      go true = omega arith
      go false = omega arith

-- a write goes to an id that is watched
writes_in : (q : ℕ → Bool) (n : ℕ) → ((l : ℕ) → q l ≡ true → (0 < l) × (l ≤ n)) → (made : List Sent) → All (IsFine (λ l. q l ≡ true)) made
    → All (IsWithin write_len (λ p. p.arg1) n) (packets_of_sent made)
writes_in q n within [] fine = All-nil (IsWithin write_len (λ p. p.arg1) n)
writes_in q n within (one ∷ made) fine =
    All-cons (IsWithin write_len (λ p. p.arg1) n) one.packet (packets_of_sent made) (go (is_wrte one.packet.command) refl)
    (writes_in q n within made (All-tail (IsFine (λ l. q l ≡ true)) one made fine))
  where
    go : (w : Bool) → is_wrte one.packet.command ≡ w → IsWithin write_len (λ p. p.arg1) n one.packet
    go false e = inl (ap (λ (b : Bool). cond b (length one.packet.payload) 0) e)
    go true e = inr (within one.packet.arg1 ((All-head (IsFine (λ l. q l ≡ true)) one made fine).host e))

module _ (setting : Setting) (before more : History) (s : Settles setting before more) (worth : BringWorth (more ++ before))
    (carried : OfEachStream (more ++ before) (λ l b. IsCarried l b (more ++ before)))
    (ids : (l : ℕ) (packets : List Packet) → count_from is_open l packets ≤ 1 → HasOneId l (device_behind setting packets).serving) where
  legal_old : IsLegal before
  legal_old = legal_before more before s.legal

  more_now : (state before).drawn ≤ (state (more ++ before)).drawn
  more_now = more_drawn more before s.legal

  -- a stream that is watched was drawn
  watched_drawn : (l : ℕ) → q setting before more s l ≡ true → (0 < l) × (l ≤ (state (more ++ before)).drawn)
  watched_drawn l on = go (is_watched before (state (more ++ before)).drawn l on)
    where
      lives : (o : Option Stream) → (state before).streams l ≡ o → is_some o ≡ true → (0 < l) × (l ≤ (state (more ++ before)).drawn)
      lives None e there = absurd (let clash : false ≡ true = there in cc)
      lives (Some x) e there =
          let kept = (all_births before legal_old).kept l x e in
          let in_range = born_drawn l kept.birth before (all_births before legal_old) kept.is in
          let le = in_range.1 in
          let grown = more_now in
          (in_range.0, omega (arith, le, grown))

      go : (is_some ((state before).streams l) ≡ true) ⊎ (((state before).drawn < l) × (l ≤ (state (more ++ before)).drawn))
          → (0 < l) × (l ≤ (state (more ++ before)).drawn)
      go (inl there) = lives ((state before).streams l) refl there
      go (inr past) = let less = past.0 in (omega (arith, less), past.1)

  -- ---- what the server sent since
  sent_size : length (bytes_sent 1 (more ++ before))
      ≤ length (bytes_sent 1 before) + total size (λ p. p.arg0) (due_since setting before more s)
  sent_size =
      let first = sent_first (more ++ before) s.legal 1 in
      let all : length (bytes_sent 1 (more ++ before)) + length first.0 ≡ length (spelled_to 1 (told (more ++ before))) =
      sym (length-append (bytes_sent 1 (more ++ before)) first.0) ∙ ap length first.1 in
      let now = spelled_size 1 (told (more ++ before)) in
      let old = spelled_size 1 (told before) in
      let whole = ap (length {A = ℕ}) s.due_before in
      let both : total size (λ p. p.arg0) (packets_of 1 (more ++ before))
      ≡ total size (λ p. p.arg0) (packets_of 1 before) + total size (λ p. p.arg0) (due_since setting before more s) =
      ap (total size (λ p. p.arg0)) (due_now setting before more s)
      ∙ total_append size (λ p. p.arg0) (packets_of 1 before) (due_since setting before more s) in
      omega (arith, all, now, old, whole, both)

  -- ---- what its device sent since
  taken_size : length (bytes_received 1 (more ++ before)) ≡ length (bytes_received 1 before)
      + length (sent_bytes (alone setting before more s).made)
  taken_size =
      let now : length (bytes_received 1 (more ++ before)) ≡ length
      (sent_bytes (device_behind setting (sent 1 (more ++ before))).serving.made) =
      ap (length {A = ℕ}) s.taken_now in
      let old : length (bytes_received 1 before) ≡ length (sent_bytes (device_behind setting (sent 1 before)).serving.made) =
      ap (length {A = ℕ}) s.taken_before in
      let made : length (sent_bytes (device_behind setting (sent 1 (more ++ before))).serving.made)
      ≡ length (sent_bytes (device_behind setting (sent 1 before)).serving.made) + length (sent_bytes (alone setting before more s).made) =
      ap (λ (made : List Sent). length (sent_bytes made)) (made_now setting before more s)
      ∙ bytes_append (device_behind setting (sent 1 before)).serving.made (alone setting before more s).made in
      omega (arith, now, old, made)

  rows_paid : row_tolls (q setting before more s) (device_behind setting (sent 1 before)).serving.rows
      ≤ sum_to (λ l. keeps (q setting before more s) l) (state (more ++ before)).drawn
  rows_paid =
      rows_kept (q setting before more s) (state (more ++ before)).drawn (device_behind setting (sent 1 before)).serving.rows
      (rows_rise setting (sent 1 before))
      (λ l. let one = ids l (sent 1 before) ((no_crossing before legal_old).once 1 l)
      in (one.id, λ own row is host. one.rows own row is host))
      (λ own row is on. watched_drawn row.host on)

  -- ---- tolls of the server
  tolls_since : tolls (told_since more before).0 + 28 * sum_to (λ c. length (bytes_put c before)) (came_count before)
      ≤ sum_to (λ l. keeps (q setting before more s) l) (state (more ++ before)).drawn
      + 28 * sum_to (λ c. length (bytes_put c (more ++ before))) (came_count before)
  tolls_since =
      let paid = tolls_paid before more s.legal worth in
      let same = plugged_same before more s.steps in
      let puts : puts_made (more ++ before) + sum_to (λ c. length (bytes_put c before)) (came_count before)
      ≤ puts_made before + sum_to (λ c. length (bytes_put c (more ++ before))) (came_count before) =
      puts_within before s.here more s.legal s.steps in
      let kept : close_tolls (state before).streams (state before).drawn + 24 * (state (more ++ before)).drawn
      ≤ sum_to (λ l. keeps (q setting before more s) l) (state (more ++ before)).drawn + 24 * (state before).drawn =
      closes_kept before (state (more ++ before)).drawn more_now in
      let all : tolls (told (more ++ before)) ≡ tolls (told before) + tolls (told_since more before).0 =
      ap tolls (told_since more before).1 ∙ tolls_append (told before) (told_since more before).0 in
      omega (arith, paid, same, puts, kept, all)

  link_paid : on_link (more ++ before) + 28 * sum_to (λ c. length (bytes_put c before)) (came_count before)
      ≤ on_link before + 28 * sum_to (λ c. length (bytes_put c (more ++ before))) (came_count before)
      + sum_to (costs setting before more s) (state (more ++ before)).drawn
  link_paid =
      let up = made_size (λ l. q setting before more s l ≡ true) (alone setting before more s).made (alone setting before more s).fine in
      let owed : sent_tolls (alone setting before more s).made ≤ answer_tolls (due_since setting before more s)
      + row_tolls (q setting before more s) (device_behind setting (sent 1 before)).serving.rows = (alone setting before more s).tolls in
      let both = shared (due_since setting before more s) in
      let tolled = packet_tolls_within 1 (told_since more before).0 in
      let shares : total stream_share (λ p. p.arg0) (due_since setting before more s)
      ≤ sum_to (λ l. part stream_share (λ p. p.arg0) l (due_since setting before more s)) (state (more ++ before)).drawn =
      covered stream_share (λ p. p.arg0) (state (more ++ before)).drawn (due_since setting before more s)
      (shares_in setting before more s) in
      let written = total_written (packets_of_sent (alone setting before more s).made) in
      let writes : total write_len (λ p. p.arg1) (packets_of_sent (alone setting before more s).made)
      ≤ sum_to (λ l. part write_len (λ p. p.arg1) l (packets_of_sent (alone setting before more s).made)) (state (more ++ before)).drawn =
      covered write_len (λ p. p.arg1) (state (more ++ before)).drawn (packets_of_sent (alone setting before more s).made)
      (writes_in (q setting before more s) (state (more ++ before)).drawn watched_drawn (alone setting before more s).made
      (alone setting before more s).fine) in
      let sums : sum_to (costs setting before more s) (state (more ++ before)).drawn
      ≡ sum_to (λ l. part stream_share (λ p. p.arg0) l (due_since setting before more s)) (state (more ++ before)).drawn
      + 25 * sum_to (λ l. part write_len (λ p. p.arg1) l (packets_of_sent (alone setting before more s).made))
      (state (more ++ before)).drawn
      + 2 * sum_to (λ l. keeps (q setting before more s) l) (state (more ++ before)).drawn =
      three_sums (λ l. part stream_share (λ p. p.arg0) l (due_since setting before more s))
      (λ l. part write_len (λ p. p.arg1) l (packets_of_sent (alone setting before more s).made)) (λ l. keeps (q setting before more s) l)
      (state (more ++ before)).drawn in
      let down = sent_size in
      let taken = taken_size in
      let rows = rows_paid in
      let tolls = tolls_since in
      omega (arith, up, owed, both, tolled, shares, written, writes, sums, down, taken, rows, tolls)

  pub clients_pay : ClientsPay before more
  clients_pay =
      let moves : moved more + sum_to (λ c. handled c before) (came_count before) + on_link before
      ≤ sum_to (λ c. handled c (more ++ before)) (came_count before) + on_link (more ++ before) =
      moves_counted before s.here more s.legal s.steps in
      let link = link_paid in
      let streams : sum_to (costs setting before more s) (state (more ++ before)).drawn
      ≤ sum_to (λ c. of_here before c
      (stream_pays (asked c (more ++ before)).next (asked c (more ++ before)).used
      (length (bytes_read c (more ++ before)))
      + 25 * length (bytes_put c (more ++ before)))) (came_count before) =
      streams_paid setting before more s carried in
      let mine = handled_here before more s.steps (came_count before) in
      let put = put_here before more s.steps (came_count before) in
      let pay = both_pay before (more ++ before) (came_count before) in
      omega (arith, moves, link, streams, mine, put, pay)
