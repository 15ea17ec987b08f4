-- What each stream costs from a time at which nothing is on its way to the next.
use Rattle.std.specs.Prelude.{ℕ, ◌+◌, ◌*◌, ◌≡◌, ◌≤◌, ◌<◌, ◌&&◌, Bool, true, false, cond, nat_eq, is_some, All, List, [], ◌∷◌, ◌++◌, length}
use Rattle.std.specs.Prelude.{Option, Some, None}
use Rattle.std.proofs.Common.{refl, sym, ap, subst, arith, ◌∙◌, ◌⊎◌, inl, inr, append_assoc}
use Rattle.std.proofs.lemmas.Bool.{eq-eqb, eqb-true}
use Rattle.std.proofs.lemmas.List.{append-nil, length-append}
use Rattle.std.proofs.lemmas.List.Elements.{All-nil, All-cons, All-head, All-tail}
use Rattle.adb_wire.specs.declared.command.Command.{Command}
use Rattle.adb_wire.specs.declared.command.Command.TheVariants.{Cnxn, Open, Okay, Wrte, Clse, Auth, Stls}
use Rattle.adb_wire.specs.declared.packets.Packet.{Packet}
use Rattle.adb_reply.specs.declared.answer.Next.{Next}
use Rattle.adb_stream.specs.declared.row.Stream.{Stream}
use Rattle.adb_history.specs.Births.{Birth, births, births_at, born, carried_in, count_from, is_open, is_wrte}
use Rattle.adb_history.specs.Book.{asked}
use Rattle.adb_history.specs.Bytes.{bytes_put, bytes_read, has_ended, sent}
use Rattle.adb_history.specs.Events.{Event, packets_to}
use Rattle.adb_history.specs.Fifo.{IsOwn, OfEachStream}
use Rattle.adb_history.specs.Lives.{packets_of}
use Rattle.adb_history.specs.Machine.{History, IsLegal, state, told, told_at}
use Rattle.adb_history.specs.Tied.{came_count}
use Rattle.adb_laws_births.proofs.Born.{all_births}
use Rattle.adb_laws_births.proofs.Once.{count_append, packets_append}
use Rattle.adb_laws_births.proofs.Single.{births_of}
use Rattle.adb_laws_causes.proofs.Newborn.{born_stays}
use Rattle.adb_laws_fifo_up.specs.Carrying.{IsCarried}
use Rattle.adb_daemon.specs.Serving.{Sent}
use Rattle.adb_daemon.specs.Device.{Setting, device_behind}
use Rattle.adb_laws_model_device.specs.Owed.{packets_owed, packets_of_sent}
use Rattle.adb_laws_model_device.proofs.Owing.{sent_append}
use Rattle.adb_laws_steps.specs.Moved.{of_here}
use Rattle.adb_laws_steps.specs.Owed.{asks, IsFine, AsksFor, AnswersAlone}
use Rattle.adb_laws_steps.specs.Receives.{write_len}
use Rattle.adb_laws_steps.specs.Steps.{Settles, stream_pays}
use Rattle.adb_laws_steps.specs.Sums.{sum_to}
use Rattle.adb_laws_steps.proofs.Clients.{OfClient, all_asked_for, apart, asked_for, carried_within}
use Rattle.adb_laws_steps.proofs.Moved.{came_same}
use Rattle.adb_laws_steps.proofs.Parts.{part, part_append, IsWithin, HasOf, spread}
use Rattle.adb_laws_steps.proofs.Sends.{all_within, drawn_for, own, share_now, was_born}
use Rattle.adb_laws_steps.proofs.Answering.{answers_alone}
use Rattle.adb_laws_steps.proofs.Sizes.{stream_share}
use Rattle.adb_laws_steps.proofs.Tolls.{all_behind}
use Rattle.adb_laws_steps.proofs.Unsent.{all_unsent}
use Rattle.adb_laws_steps.proofs.Watched.{watched, keeps, is_watched, unwatched_gone}
use Rattle.adb_laws_steps.proofs.Written.{part_is}

-- ---- what stands behind more entries
pub legal_before : (more before : History) → IsLegal (more ++ before) → IsLegal before
legal_before [] before legal = legal
legal_before (e ∷ more) before legal = legal_before more before legal.0

pub told_since : (more before : History) → (w : List Event) × (told (more ++ before) ≡ told before ++ w)
told_since [] before = ([], sym (append-nil (told before)))
told_since (e ∷ more) before =
    let older = told_since more before in (
      older.0 ++ told_at e (more ++ before),
      ap (λ (x : List Event). x ++ told_at e (more ++ before)) older.1 ∙ append_assoc (told before) older.0 (told_at e (more ++ before)),
    )

born_behind : (l : ℕ) (b : Birth) (more before : History) → born l before ≡ Some b → born l (more ++ before) ≡ Some b
born_behind l b [] before is = is
born_behind l b (e ∷ more) before is = born_stays l e (more ++ before) b (born_behind l b more before is)

more_births : (more before : History) → length (births before) ≤ length (births (more ++ before))
more_births [] before = omega arith
more_births (e ∷ more) before = go (births (e ∷ (more ++ before))) (births_at e (more ++ before)) refl (more_births more before)
  where
    go : (all : List Birth) (now : List Birth) → all ≡ births (more ++ before) ++ now
        → length (births before) ≤ length (births (more ++ before))
        → length (births before) ≤ length all
    go all now is le = let long = ap (length {A = Birth}) is in let sum =
        length-append (births (more ++ before)) now in omega (arith, le, long, sum)

pub more_drawn : (more before : History) → IsLegal (more ++ before) → (state before).drawn ≤ (state (more ++ before)).drawn
more_drawn more before legal =
    let old = (all_births before (legal_before more before legal)).drawn in
    let new = (all_births (more ++ before) legal).drawn in
    let le = more_births more before in
    omega (arith, old, new, le)

-- ---- packets that ask for streams that are watched
asked_none : (l : ℕ) (p : Packet) (ps : List Packet) → count_from asks l (p ∷ ps) ≡ 0 → count_from asks l ps ≡ 0
asked_none l p ps none = go (asks p.command && nat_eq p.arg0 l) none
  where
    go : (b : Bool) → cond b (1 + count_from asks l ps) (count_from asks l ps) ≡ 0 → count_from asks l ps ≡ 0
    go true e = absurd (omega (arith, e))
    go false e = e

asks_once : (p : Packet) (ps : List Packet) → asks p.command ≡ true → count_from asks p.arg0 (p ∷ ps) ≡ 0 → ⊥
asks_once p ps on none =
    let test : (asks p.command && nat_eq p.arg0 p.arg0) ≡ true = (λ i. on i && eq-eqb p.arg0 p.arg0 refl i) in
    let counts : 1 + count_from asks p.arg0 ps ≡ 0 =
    sym (ap (λ (b : Bool). cond b (1 + count_from asks p.arg0 ps) (count_from asks p.arg0 ps)) test) ∙ none in
    omega (arith, counts)

-- a packet that asks is of a stream that was born
own_drawn : (h : History) (legal : IsLegal h) (c : Command) (p : Packet) → IsOwn h 1 c p → asks c ≡ true
    → (0 < p.arg0) × (p.arg0 ≤ (state h).drawn)
own_drawn h legal Cnxn p of on = absurd (let clash : false ≡ true = on in cc)
own_drawn h legal Clse p of on = absurd (let clash : false ≡ true = on in cc)
own_drawn h legal Auth p of on = absurd of
own_drawn h legal Stls p of on = absurd of
own_drawn h legal _ p of on = drawn_for h legal p.arg0 of.birth of.is

module _ (h : History) (legal : IsLegal h) (q : ℕ → Bool) where
  all_watched : (ps : List Packet) → All (λ p. IsOwn h 1 p.command p) ps
      → ((l : ℕ) → 0 < l → l ≤ (state h).drawn → q l ≡ false → count_from asks l ps ≡ 0) → All (AsksFor q) ps
  all_watched [] all none = All-nil (AsksFor q)
  all_watched (p ∷ ps) all none =
      All-cons (AsksFor q) p ps here
      (all_watched ps (All-tail (λ p. IsOwn h 1 p.command p) p ps all) (λ l some le off. asked_none l p ps (none l some le off)))
    where
      here : asks p.command ≡ true → q p.arg0 ≡ true
      here on = go (q p.arg0) refl
        where
          drawn : (0 < p.arg0) × (p.arg0 ≤ (state h).drawn)
          drawn = own_drawn h legal p.command p (All-head (λ p. IsOwn h 1 p.command p) p ps all) on

          go : (b : Bool) → q p.arg0 ≡ b → q p.arg0 ≡ true
          go true e = e
          go false e = absurd (asks_once p ps on (none p.arg0 drawn.0 drawn.1 e))

-- what asks for nothing has no share
unasked_share : (l : ℕ) (ps : List Packet) → count_from asks l ps ≡ 0 → part stream_share (λ p. p.arg0) l ps ≡ 0
unasked_share l [] none = refl
unasked_share l (p ∷ ps) none = go p.command refl (nat_eq p.arg0 l) refl none (unasked_share l ps (asked_none l p ps none))
  where
    clash : (c : Command) → p.command ≡ c → asks c ≡ true → nat_eq p.arg0 l ≡ true → count_from asks l (p ∷ ps) ≡ 0 → ⊥
    clash c e on same none =
        let test : (asks p.command && nat_eq p.arg0 l) ≡ true = (λ i. (ap asks e ∙ on) i && same i) in
        let counts : 1 + count_from asks l ps ≡ 0 =
        sym (ap (λ (b : Bool). cond b (1 + count_from asks l ps) (count_from asks l ps)) test) ∙ none in
        omega (arith, counts)

    free : (c : Command) → p.command ≡ c → (m : Bool) → cond (is_wrte c) (53 * length p.payload) 0
        + cond (is_open c) (76 + length p.payload) 0 ≡ 0
        → part stream_share (λ p. p.arg0) l ps ≡ 0
        → cond m (cond (is_wrte p.command) (53 * length p.payload) 0 + cond (is_open p.command) (76 + length p.payload) 0) 0
        + part stream_share (λ p. p.arg0) l ps ≡ 0
    free c e m zeroth later = by m
      where
        by : (m : Bool) → cond m (cond (is_wrte p.command) (53 * length p.payload) 0 + cond (is_open p.command) (76 + length p.payload) 0) 0
            + part stream_share (λ p. p.arg0) l ps ≡ 0
        by true =
            let same = ap (λ (k : Command). cond (is_wrte k) (53 * length p.payload) 0 + cond (is_open k) (76 + length p.payload) 0) e in
            omega (arith, same, zeroth, later)
        by false = omega (arith, later)

    go : (c : Command) → p.command ≡ c → (m : Bool) → nat_eq p.arg0 l ≡ m → count_from asks l (p ∷ ps) ≡ 0
        → part stream_share (λ p. p.arg0) l ps ≡ 0
        → cond m (cond (is_wrte p.command) (53 * length p.payload) 0 + cond (is_open p.command) (76 + length p.payload) 0) 0
        + part stream_share (λ p. p.arg0) l ps ≡ 0
    go Open e true f none later = absurd (clash Open e refl f none)
    go Open e false f none later = omega (arith, later)
    go Wrte e true f none later = absurd (clash Wrte e refl f none)
    go Wrte e false f none later = omega (arith, later)
    go Okay e m f none later = free Okay e m refl later
    go Clse e m f none later = free Clse e m refl later
    go Cnxn e m f none later = free Cnxn e m refl later
    go Auth e m f none later = free Auth e m refl later
    go Stls e m f none later = free Stls e m refl later

-- no write goes to an id that is not watched
unwatched_writes : (q : ℕ → Bool) (l : ℕ) (made : List Sent) → All (IsFine (λ l. q l ≡ true)) made → q l ≡ false
    → part write_len (λ p. p.arg1) l (packets_of_sent made) ≡ 0
unwatched_writes q l [] fine off = refl
unwatched_writes q l (one ∷ made) fine off =
    go (nat_eq one.packet.arg1 l) refl (is_wrte one.packet.command) refl
    (unwatched_writes q l made (All-tail (IsFine (λ l. q l ≡ true)) one made fine) off)
  where
    go : (m : Bool) → nat_eq one.packet.arg1 l ≡ m → (w : Bool) → is_wrte one.packet.command ≡ w
        → part write_len (λ p. p.arg1) l (packets_of_sent made) ≡ 0
        → cond m (cond (is_wrte one.packet.command) (length one.packet.payload) 0) 0
        + part write_len (λ p. p.arg1) l (packets_of_sent made) ≡ 0
    go false f w e later = omega (arith, later)
    go true f false e later = let len = ap (λ (b : Bool). cond b (length one.packet.payload) 0) e in omega (arith, len, later)
    go true f true e later =
        absurd (let clash : true ≡ false =
        sym ((All-head (IsFine (λ l. q l ≡ true)) one made fine).host e) ∙ (ap q (eqb-true one.packet.arg1 l f) ∙ off) in cc)

module _ (setting : Setting) (before more : History) (s : Settles setting before more) where
  abbrev pub now : History
  now = more ++ before

  abbrev pub q : ℕ → Bool
  q = watched before (state (more ++ before)).drawn

  legal_old : IsLegal before
  legal_old = legal_before more before s.legal

  -- what became due to the device since
  abbrev pub due_since : List Packet
  due_since = packets_to 1 (told_since more before).0

  pub due_now : packets_of 1 (more ++ before) ≡ packets_of 1 before ++ due_since
  due_now = ap (packets_to 1) (told_since more before).1 ∙ packets_append 1 (told before) (told_since more before).0

  pub sent_both : sent 1 before ++ due_since ≡ sent 1 (more ++ before)
  sent_both = ap (λ (ps : List Packet). ps ++ due_since) s.sent_before ∙ (sym due_now ∙ sym s.sent_now)

  pub own_since : All (λ p. IsOwn (more ++ before) 1 p.command p) due_since
  own_since =
      all_behind (λ p. IsOwn (more ++ before) 1 p.command p) (packets_of 1 before) due_since
      (subst (λ (ps : List Packet). All (λ p. IsOwn (more ++ before) 1 p.command p) ps) due_now (own (more ++ before) s.legal))

  -- a stream that is not watched asks for nothing since
  unasked : (l : ℕ) → 0 < l → l ≤ (state (more ++ before)).drawn → q l ≡ false → count_from asks l due_since ≡ 0
  unasked l some le off =
      let gone = unwatched_gone before (state (more ++ before)).drawn l le off in
      let same = (all_unsent l some more before gone.0 gone.1).asked in
      let both : count_from asks l (packets_of 1 (more ++ before)) ≡ count_from asks l (packets_of 1 before) + count_from asks l due_since =
      ap (count_from asks l) due_now ∙ count_append asks l (packets_of 1 before) due_since in
      omega (arith, same, both)

  pub shares_in : All (IsWithin stream_share (λ p. p.arg0) (state (more ++ before)).drawn) due_since
  shares_in = all_within (more ++ before) s.legal due_since own_since

  -- what the device made since
  pub alone : AnswersAlone q due_since (device_behind setting (sent 1 before)).serving
      (device_behind setting (sent 1 before ++ due_since)).serving
  alone = answers_alone setting q (sent 1 before) due_since (all_watched (more ++ before) s.legal q due_since own_since unasked)

  pub made_now : (device_behind setting (sent 1 (more ++ before))).serving.made
      ≡ (device_behind setting (sent 1 before)).serving.made ++ alone.made
  made_now = ap (λ (ps : List Packet). (device_behind setting ps).serving.made) (sym sent_both) ∙ alone.is

  -- ---- a stream that is watched
  module _ (l : ℕ) (b : Birth) (is : born l (more ++ before) ≡ Some b) (on : q l ≡ true) where
    client_here : has_ended b.client before ≡ false
    client_here = go (is_watched before (state (more ++ before)).drawn l on)
      where
        lives : (o : Option Stream) → (state before).streams l ≡ o → is_some o ≡ true → has_ended b.client before ≡ false
        lives None e there = absurd (let clash : false ≡ true = there in cc)
        lives (Some x) e there =
            let kept = (all_births before legal_old).kept l x e in
            let both : Some kept.birth ≡ Some b = sym (born_behind l kept.birth more before kept.is) ∙ is in
            let same : kept.birth ≡ b = cc in
            subst (λ (c : ℕ). has_ended c before ≡ false) (kept.client ∙ ap (λ (a : Birth). a.client) same) (s.live l x e)

        go : (is_some ((state before).streams l) ≡ true) ⊎ (((state before).drawn < l) × (l ≤ (state (more ++ before)).drawn))
            → has_ended b.client before ≡ false
        go (inl there) = lives ((state before).streams l) refl there
        go (inr past) = s.fresh l b is past.0

    share : part stream_share (λ p. p.arg0) l due_since ≤ 53 * length (carried_in l (packets_of 1 (more ++ before)))
        + (77 + length b.service)
    share =
        let all = share_now (more ++ before) s.legal l b is in
        let both : part stream_share (λ p. p.arg0) l (packets_of 1 (more ++ before))
        ≡ part stream_share (λ p. p.arg0) l (packets_of 1 before) + part stream_share (λ p. p.arg0) l due_since =
        ap (part stream_share (λ p. p.arg0) l) due_now ∙ part_append stream_share (λ p. p.arg0) l (packets_of 1 before) due_since in
        omega (arith, all, both)

    wrote : part write_len (λ p. p.arg1) l (packets_of_sent alone.made) ≤ length (bytes_put b.client (more ++ before))
    wrote =
        let put = s.put l b is client_here in
        let named = part_is l (packets_owed setting (sent 1 (more ++ before))) in
        let both : part write_len (λ p. p.arg1) l (packets_owed setting (sent 1 (more ++ before)))
        ≡ part write_len (λ p. p.arg1) l (packets_of_sent (device_behind setting (sent 1 before)).serving.made)
        + part write_len (λ p. p.arg1) l (packets_of_sent alone.made) =
        ap (λ (made : List Sent). part write_len (λ p. p.arg1) l (packets_of_sent made)) made_now
        ∙ (ap (part write_len (λ p. p.arg1) l) (sent_append (device_behind setting (sent 1 before)).serving.made alone.made)
        ∙ part_append write_len (λ p. p.arg1) l (packets_of_sent (device_behind setting (sent 1 before)).serving.made)
        (packets_of_sent alone.made)) in
        omega (arith, put, named, both)

  -- ---- each stream
  abbrev pub costs : ℕ → ℕ
  costs l = part stream_share (λ p. p.arg0) l due_since + 25 * part write_len (λ p. p.arg1) l (packets_of_sent alone.made) + 2 * keeps q l

  abbrev pub client_pays : ℕ → ℕ
  client_pays c =
      of_here before c (stream_pays (asked c (more ++ before)).next (asked c (more ++ before)).used (length (bytes_read c (more ++ before)))
      + 25 * length (bytes_put c (more ++ before)))

  module _ (carried : OfEachStream (more ++ before) (λ l b. IsCarried l b (more ++ before))) where
    unwatched_free : (l : ℕ) → 0 < l → l ≤ (state (more ++ before)).drawn → q l ≡ false → costs l ≡ 0
    unwatched_free l some le off =
        let share = unasked_share l due_since (unasked l some le off) in
        let writes = unwatched_writes q l alone.made alone.fine off in
        let keep : keeps q l ≡ 0 = ap (λ (b : Bool). cond b 24 0) off in
        omega (arith, share, writes, keep)

    watched_paid : (l : ℕ) (b : Birth) → born l (more ++ before) ≡ Some b → q l ≡ true → costs l ≤ client_pays b.client
    watched_paid l b is on =
        let for_it = asked_for (more ++ before) (all_asked_for (more ++ before) s.legal s.none) l b is in
        let head = for_it.head in
        let within = carried_within (more ++ before) s.legal carried l b is in
        let first = share l b is on in
        let second = wrote l b is on in
        let keep : keeps q l ≡ 24 = ap (λ (b : Bool). cond b 24 0) on in
        let pays : client_pays b.client
        ≡ stream_pays (asked b.client (more ++ before)).next (asked b.client (more ++ before)).used
        (length (bytes_read b.client (more ++ before)))
        + 25 * length (bytes_put b.client (more ++ before)) =
        ap (λ (t : Bool). cond t 0 (stream_pays (asked b.client (more ++ before)).next (asked b.client (more ++ before)).used
        (length (bytes_read b.client (more ++ before))) + 25 * length (bytes_put b.client (more ++ before)))) (client_here l b is on) in
        let asks_it =
        ap (λ (o : Option Next). stream_pays o (asked b.client (more ++ before)).used
        (length (bytes_read b.client (more ++ before))))
        for_it.next in
        omega (arith, head, within, first, second, keep, pays, asks_it)

    each : (l : ℕ) → 0 < l → l ≤ (state (more ++ before)).drawn
        → (costs l ≡ 0) ⊎ HasOf (OfClient (more ++ before) s.legal carried) (apart (more ++ before) s.legal carried) costs client_pays
        (came_count before) l
    each l some le = go (q l) refl
      where
        go : (b : Bool) → q l ≡ b
            → (costs l ≡ 0) ⊎ HasOf (OfClient (more ++ before) s.legal carried) (apart (more ++ before) s.legal carried) costs client_pays
            (came_count before) l
        go false off = inl (unwatched_free l some le off)
        go true on =
            let w = was_born l (more ++ before) (all_births (more ++ before) s.legal) some le in
            let came = (births_of (more ++ before) s.legal l w.birth w.is).came in
            let same = came_same before more s.steps in
            inr (record {
              c = w.birth.client;
              is = (w.birth, w.is, refl);
              some = (asked_for (more ++ before) (all_asked_for (more ++ before) s.legal s.none) l w.birth w.is).some;
              within = omega (arith, came, same);
              le = watched_paid l w.birth w.is on;
            })

    pub streams_paid : sum_to costs (state (more ++ before)).drawn ≤ sum_to client_pays (came_count before)
    streams_paid =
        spread (OfClient (more ++ before) s.legal carried) (apart (more ++ before) s.legal carried) costs client_pays
        (state (more ++ before)).drawn (came_count before) each
