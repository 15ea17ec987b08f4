-- Sessions that begin where nothing is on its way: what they asked for by the time at which a step failed.
use Rattle.std.specs.Prelude.{ℕ, ◌+◌, ◌≡◌, ◌==◌, ◌≤◌, ◌<◌, ◌&&◌, Bool, true, false, cond, is_some, suc, List, [], ◌∷◌, ◌++◌, length, drop}
use Rattle.std.specs.Prelude.{Some}
use Rattle.std.specs.List.{AllByRecursion}
use Rattle.std.proofs.Common.{refl, sym, ◌∙◌, ap, subst, arith, ◌⊎◌, inl, inr, append_assoc}
use Rattle.std.proofs.lemmas.Bool.{cases_eq, cases_lt, eq-eqb, ne_eqb, true≢false}
use Rattle.std.proofs.lemmas.List.{take-append-drop}
use Rattle.adb_outside.specs.Bytes.{IsPrefixOf}
use Rattle.adb_outside.specs.Tables.{at}
use Rattle.adb_capture.specs.declared.entry.Entry.TheVariants.{Send}
use Rattle.adb_wire.specs.declared.command.Command.{Command}
use Rattle.adb_wire.specs.declared.command.Command.TheVariants.{Cnxn, Open, Okay, Wrte, Clse, Auth, Stls}
use Rattle.adb_wire.specs.declared.packets.Packet.{Packet}
use Rattle.adb_files.specs.Entries.{Entry as File}
use Rattle.adb_history.specs.Asking.{Asked, nothing_asked, asks_with}
use Rattle.adb_history.specs.Births.{Birth, births, born, carried_in, count_from, is_open, is_wrte, remote_of}
use Rattle.adb_history.specs.Book.{asked}
use Rattle.adb_history.specs.Bytes.{bytes_read, sent}
use Rattle.adb_history.specs.Fifo.{IsOpenOf}
use Rattle.adb_history.specs.Lives.{rest_of}
use Rattle.adb_history.specs.Machine.{History, state}
use Rattle.adb_history.specs.Streams.{stream_ids}
use Rattle.adb_history.specs.Tied.{came_count}
use Rattle.adb_laws_answers.proofs.Asked.{IsBornFor, born_as, born_for}
use Rattle.adb_laws_answers.proofs.Ends.{drop_front, rest_front}
use Rattle.adb_laws_births.proofs.Born.{all_births}
use Rattle.adb_laws_births.proofs.Crossing.{no_crossing}
use Rattle.adb_laws_births.proofs.Once.{count_append}
use Rattle.adb_laws_births.proofs.Single.{one_stream_each}
use Rattle.adb_laws_causes.proofs.Others.{born_within}
use Rattle.adb_laws_fifo_up.proofs.Seeing.{carried_in_append}
use Rattle.adb_device_streams.specs.Asked.{Kind, name_of, service_of}
use Rattle.adb_device_streams.specs.Service.{bytes_in}
use Rattle.adb_daemon.specs.Daemon.{CutsOff, files_of}
use Rattle.adb_daemon.specs.Device.{Device, device_behind, first_device}
use Rattle.adb_daemon.proofs.Machines.{all_refused, step_more}
use Rattle.adb_laws_alone.specs.Alone.{AsksNone, Every}
use Rattle.adb_laws_alone.specs.Calls.{AreFirst, Ask, Call, asks_in, asks_of}
use Rattle.adb_laws_alone.specs.Together.{HasAsked, IsAskedIn, IsOfLater, IsOpenedFor, RanInPart, RunInPart, WasWritten, rows_after}
use Rattle.adb_laws_alone.proofs.Through.{IsNamed, asks_first, asks_renamed, files_renamed, first_of_first, renamed}
use Rattle.adb_laws_model_device.specs.Owed.{packets_owed}
use Rattle.adb_laws_model_device.proofs.Came.{took_carried}
use Rattle.adb_laws_model_device.proofs.Joined.{paired}
use Rattle.adb_laws_model_device.proofs.Plain.{model_is_plain}
use Rattle.adb_laws_model_device.proofs.Sound.{never_refused}
use Rattle.adb_laws_model_device.specs.InTurn.{AreInTurn}
use Rattle.adb_laws_model_device.proofs.Turns.{sent_in_turn}
use Rattle.adb_laws_answers.specs.Asked.{HasOpened, Opens}
use Rattle.adb_laws_answers.specs.Model.{model_devices, model_setting}
use Rattle.adb_laws_answers.specs.Sessions.{HasAsked as Asks}
use Rattle.adb_laws_answers.specs.Words.{requests_for, words_of}
use Rattle.adb_laws_worlds.proofs.Told.{named_service}
use Rattle.adb_world.specs.Parts.{Holds}
use Rattle.adb_world.specs.Session.{text_of}
use Rattle.adb_world.specs.Settled.{IsAtEase}
use Rattle.adb_world.specs.Stopped.{Fails, HasStopped, IsCutAt}
use Rattle.adb_world.specs.Together.{AreAskedInPart, IsUnwritten}
use Rattle.adb_world.specs.declared.parts.Parts.{Parts}
use Rattle.adb_world.specs.declared.session.Session.{Session}
use Rattle.adb_world.proofs.Answered.{few_done}
use Rattle.adb_world.proofs.Later.{AloneLaws, AreUnbegun, IsLater, IsSameLater, all_sent_past, asks_now}
use Rattle.adb_world.proofs.Later.{files_old, fresh, later_of, legal, sent_since, stood, told_of}
use Rattle.adb_world.proofs.OneStream.{IsPast, asked_of_birth, asks_none, every_past}
use Rattle.adb_world.proofs.Stopping.{cut_before, cut_held, cut_is, later_sent}
use Rattle.adb_world.proofs.Together.{IsBorn, client_is, client_of, found_open, same_tests}

-- ---- packets in turn
turns_front : (l n o : ℕ) (xs ys : List Packet) → AreInTurn l n o (xs ++ ys) → AreInTurn l n o xs
turns_front l n o [] ys turns = tt
turns_front l n o (x ∷ xs) ys turns = (turns.0, turns_front l n (o + count_from is_open l (x ∷ [])) xs ys turns.1)

turn_at : (l n o : ℕ) (xs : List Packet) (p : Packet) (ys : List Packet) → AreInTurn l n o (xs ++ p ∷ ys)
    → is_wrte p.command ≡ true → p.arg0 ≡ l → p.arg1 ≡ n
turn_at l n o [] p ys turns writes of = (turns.0.wrte writes of).1
turn_at l n o (x ∷ xs) p ys turns writes of = turn_at l n (o + count_from is_open l (x ∷ [])) xs p ys turns.1 writes of

-- a device that refuses a CNXN refuses it still
front_unrefused : (xs ys : List Packet) → (device_behind model_setting (xs ++ ys)).refused ≡ false
    → (device_behind model_setting xs).refused ≡ false
front_unrefused xs ys none = go (device_behind model_setting xs).refused refl
  where
    go : (b : Bool) → (device_behind model_setting xs).refused ≡ b → (device_behind model_setting xs).refused ≡ false
    go false is = is
    go true is =
        let all : device_behind model_setting (xs ++ ys) ≡ device_behind model_setting xs =
        step_more model_setting (first_device model_setting) xs ys ∙ all_refused model_setting (device_behind model_setting xs) ys is in
        absurd (true≢false (sym is ∙ (ap (λ (d : Device). d.refused) (sym all) ∙ none)))

prefix_of_prefix : (a b c : List ℕ) → IsPrefixOf a b → IsPrefixOf b c → IsPrefixOf a c
prefix_of_prefix a b c (x, is) (y, too) = (x ++ y, sym (append_assoc a x y) ∙ (ap (λ (z : List ℕ). z ++ y) is ∙ too))

-- each OPEN of a stream asks for one kind
abbrev AsksKind : ℕ → Kind → Command → Packet → Type 0
AsksKind l kind Open p = p.arg0 ≡ l → service_of (name_of p.payload) ≡ Some kind
AsksKind l kind _ p = Unit {0}

kind_is : (l : ℕ) (kind other : Kind) (ps : List Packet) → IsOpenedFor l other ps → Every (AsksKind l kind) ps → other ≡ kind
kind_is l kind other [] opened every = absurd opened
kind_is l kind other (p ∷ ps) (inl here) every =
    let asks : AsksKind l kind Open p = subst (λ (c : Command). AsksKind l kind c p) here.0 every.0 in
    let both : Some other ≡ Some kind = sym here.1.1 ∙ asks here.1.0 in
    cc
kind_is l kind other (p ∷ ps) (inr more) every = kind_is l kind other ps more every.1

-- What is known of the stream of a session.
record IsOfSession (b : Birth) (session : Session) : Type 0 where
  service : b.service ≡ session.service
  head : b.head ≡ length (requests_for session.service)
  link : b.link ≡ 1

module _ (laws : AloneLaws) (in_part : RunInPart model_setting) (old : Parts) (ease : IsAtEase old)
    (begun : AreUnbegun old) (more : History)
    (later : IsLater old ease.runs.history more) (files : List File)
    (cut : CutsOff model_setting (sent 1 ease.runs.history) (sent 1 (more ++ ease.runs.history)) files) where
  abbrev h : History
  h = ease.runs.history

  abbrev now : History
  now = more ++ ease.runs.history

  abbrev d : ℕ
  d = (state ease.runs.history).drawn

  abbrev ps : List Packet
  ps = cut.more ++ cut.rest

  since_is : (sent_since laws old ease begun more later).0 ≡ cut.more ++ cut.rest
  since_is =
      cut_is model_setting files (sent 1 h) (sent_since laws old ease begun more later).0 (sent 1 now)
      (sent_since laws old ease begun more later).1 cut

  past : Every (IsPast (more ++ ease.runs.history) (state ease.runs.history).drawn) (cut.more ++ cut.rest)
  past = subst (Every (IsPast now d)) since_is (all_sent_past laws old ease begun more later)

  all_is : sent 1 h ++ (cut.more ++ cut.rest) ≡ sent 1 now
  all_is = sym (cut.is ∙ append_assoc (sent 1 h) cut.more cut.rest)

  of_later : Every (IsOfLater (state ease.runs.history).drawn) (cut.more ++ cut.rest)
  of_later = every_past now d (IsOfLater d) follows ps past
    where
      follows : (p : Packet) (command : Command) → IsPast (more ++ ease.runs.history) (state ease.runs.history).drawn command p
          → IsOfLater (state ease.runs.history).drawn command p
      follows p Open x = x.0
      follows p Wrte (inl none) = inl none
      follows p Wrte (inr x) = inr x.0
      follows p Okay x = tt
      follows p Clse x = tt
      follows p Cnxn x = tt
      follows p Auth x = tt
      follows p Stls x = tt

  none_late : Every (AsksNone (λ (host : ℕ). (state ease.runs.history).drawn < host)) (sent 1 ease.runs.history)
  none_late =
      asks_none h (λ (host : ℕ). d < host)
      (λ l b was late. (
      let within = (born_within l h b was).1 in
      let drawn = (all_births h (legal laws old ease begun more later)).drawn in
      omega (arith, within, drawn, late)))
      (sent 1 h) ((no_crossing h (legal laws old ease begun more later)).own 1)

  once : (l : ℕ) → (state ease.runs.history).drawn < l → count_from is_open l (cut.more ++ cut.rest) ≤ 1
  once l late =
      let all = (no_crossing now later.legal).once 1 l in
      let both : count_from is_open l (sent 1 now) ≡ count_from is_open l (sent 1 h) + count_from is_open l ps =
      ap (count_from is_open l) (sym all_is) ∙ count_append is_open l (sent 1 h) ps in
      omega (arith, all, both)

  ran : RanInPart (rows_after model_setting (sent 1 ease.runs.history)) (state ease.runs.history).drawn
      (stood laws old ease begun more later)
      (cut.more ++ cut.rest) files
  ran = in_part d (sent 1 h) cut.more cut.rest files none_late of_later once cut.files

  abbrev calls : List Call
  calls = renamed (client_of (more ++ ease.runs.history)) ran.calls

  -- ---- each call is one of a session that had written nothing
  call_born : (call : Call) → IsAskedIn (state ease.runs.history).drawn (cut.more ++ cut.rest) call
      → IsBorn (more ++ ease.runs.history) call.caller
  call_born call asked = found_open now d call.caller ps past asked.1

  fresh_of : (l : ℕ) (b : IsBorn (more ++ ease.runs.history) l) → (state ease.runs.history).drawn < l
      → IsUnwritten (client_of (more ++ ease.runs.history) l) old.sessions.entries
  fresh_of l b late =
      let f = fresh laws old ease begun more later l b.birth b.is late in
      subst (λ (n : ℕ). IsUnwritten n old.sessions.entries) (sym (client_is now l b.birth b.is))
      (record { session = f.session; is = f.is; unwritten = f.unwritten })

  only_in : (cs : List Call) → AllByRecursion (IsAskedIn (state ease.runs.history).drawn (cut.more ++ cut.rest)) cs
      → AllByRecursion (λ (call : Call). IsUnwritten call.caller old.sessions.entries) (renamed (client_of (more ++ ease.runs.history)) cs)
  only_in [] all = tt
  only_in (call ∷ cs) all = (fresh_of call.caller (call_born call all.0) all.0.0, only_in cs all.1)

  -- ---- births
  few : length (births (more ++ ease.runs.history)) ≤ stream_ids
  few =
      let born = (asks_now laws old ease begun more later).births in
      let done = few_done (λ (c : ℕ). asked c now) (came_count now) in
      let came = later.came in
      let given = ease.runs.holds.few in
      omega (arith, born, done, came, given)

  -- the stream of a session was asked for with its service, behind its requests
  of_session : (n : ℕ) (session : Session) → at n old.sessions.entries ≡ Some session → (l : ℕ) (b : Birth)
      → born l (more ++ ease.runs.history) ≡ Some b
      → b.client ≡ n → IsOfSession b session
  of_session n session is l b was client = by (cases_lt (length q.front) (length (requests_for session.service)))
    where
      kept : IsSameLater (more ++ ease.runs.history) n session
      kept = later.told n session is

      q : Asks (bytes_read n (more ++ ease.runs.history)) (asked n (more ++ ease.runs.history))
      q = (asks_now laws old ease begun more later).clients n

      words : kept.now.words ≡ words_of session.service (text_of kept.now)
      words = kept.told.words ∙ ap (λ (s : List ℕ). words_of s (text_of kept.now)) kept.same.0

      front : IsPrefixOf q.front (words_of session.service (text_of kept.now))
      front =
          prefix_of_prefix q.front (bytes_read n now) (words_of session.service (text_of kept.now)) q.first (
            drop kept.now.written kept.now.words,
            ap (λ (x : List ℕ). x ++ drop kept.now.written kept.now.words) kept.told.read
                ∙ (take-append-drop kept.now.written kept.now.words ∙ words),
          )

      opens : Opens session.service q.front (asks_with model_devices [] q.front nothing_asked)
      opens = laws.requests session.service (text_of kept.now) q.front (told_of laws old ease begun more later n session is).known front

      asked_it : is_some (asked n (more ++ ease.runs.history)).next ≡ true
      asked_it =
          subst (λ (c : ℕ). is_some (asked c now).next ≡ true) client
          (asked_of_birth now later.legal later.sessions (asks_now laws old ease begun more later) l b was).asked_it

      made : HasOpened session.service (asked n (more ++ ease.runs.history)) → IsOfSession b session
      made opened = record {
        service = ap (λ (x : Birth). x.service) same ∙ x.service_is;
        head = ap (λ (x : Birth). x.head) same ∙ (x.head ∙ opened.used);
        link = ap (λ (x : Birth). x.link) same ∙ x.link;
      }
        where
          x : IsBornFor (more ++ ease.runs.history) n 1 session.service
          x = born_for now n 1 session.service opened.next

          place : born (suc x.place) (more ++ ease.runs.history) ≡ Some x.birth
          place = born_as now x.place x.birth x.is few

          number : l ≡ suc x.place
          number = one_stream_each now later.legal l (suc x.place) b x.birth was place (client ∙ sym x.client)

          same : b ≡ x.birth
          same = let both : Some b ≡ Some x.birth = sym was ∙ (ap (λ (k : ℕ). born k now) number ∙ place) in cc

      by : (length q.front < length (requests_for session.service))
          ⊎ (length (requests_for session.service) ≤ length q.front) → IsOfSession b session
      by (inl less) =
          absurd (true≢false (sym asked_it ∙ ap is_some (ap (λ (a : Asked). a.next) q.asked ∙ opens.asks less)))
      by (inr le) = made (subst (HasOpened session.service) (sym q.asked) (opens.opened le))

  -- ---- each such session
  module _ (n : ℕ) (u : IsUnwritten n old.sessions.entries) (kind : Kind) (known : service_of u.session.service ≡ Some kind) where
    -- its stream, if it asked for one
    record Mine (l : ℕ) : Type 0 where
      born_as : IsBorn (more ++ ease.runs.history) l
      late : (state ease.runs.history).drawn < l
      named : client_of (more ++ ease.runs.history) l ≡ n

    some_of : (cs : List Call) → AllByRecursion (IsAskedIn (state ease.runs.history).drawn (cut.more ++ cut.rest)) cs
        → (asks_of n (renamed (client_of (more ++ ease.runs.history)) cs) ≡ []) ⊎ ((l : ℕ) × Mine l)
    some_of [] all = inl refl
    some_of (call ∷ cs) all = go (cases_eq (client_of now call.caller) n) (some_of cs all.1)
      where
        go : (client_of (more ++ ease.runs.history) call.caller ≡ n) ⊎ (client_of (more ++ ease.runs.history) call.caller ≡ n → ⊥)
            → (asks_of n (renamed (client_of (more ++ ease.runs.history)) cs) ≡ []) ⊎ ((l : ℕ) × Mine l)
            → (cond (client_of (more ++ ease.runs.history) call.caller == n) (call.ask ∷ []) []
            ++ asks_of n (renamed (client_of (more ++ ease.runs.history)) cs) ≡ []) ⊎ ((l : ℕ) × Mine l)
        go (inl same) rest = inr (call.caller, record { born_as = call_born call all.0; late = all.0.0; named = same })
        go (inr other) (inl none) =
            inl (ap (λ (t : Bool). cond t (call.ask ∷ []) [] ++ asks_of n (renamed (client_of now) cs))
            (ne_eqb (client_of now call.caller) n other) ∙ none)
        go (inr other) (inr mine) = inr mine

    module _ (l : ℕ) (mine : Mine l) where
      abbrev b : Birth
      b = mine.born_as.birth

      was : born l (more ++ ease.runs.history) ≡ Some mine.born_as.birth
      was = mine.born_as.is

      client : mine.born_as.birth.client ≡ n
      client = sym (client_is now l b was) ∙ mine.named

      its : IsOfSession mine.born_as.birth u.session
      its = of_session n u.session u.is l b was client

      -- the calls of its stream are its calls
      named_in : (cs : List Call) → AllByRecursion (IsAskedIn (state ease.runs.history).drawn (cut.more ++ cut.rest)) cs
          → AllByRecursion (IsNamed (client_of (more ++ ease.runs.history)) n l) cs
      named_in [] all = tt
      named_in (call ∷ cs) all = (one (call_born call all.0), named_in cs all.1)
        where
          one : IsBorn (more ++ ease.runs.history) call.caller
              → (client_of (more ++ ease.runs.history) call.caller == n) ≡ (call.caller == l)
          one x =
              same_tests (client_of now call.caller) n call.caller l
              (λ same. one_stream_each now later.legal call.caller l x.birth b x.is was
              (sym (client_is now call.caller x.birth x.is) ∙ (same ∙ sym client)))
              (λ same. client_is now call.caller b (ap (λ (k : ℕ). born k now) same ∙ was) ∙ client)

      -- its kind
      asks_kind : Every (AsksKind l kind) (cut.more ++ cut.rest)
      asks_kind = every_past now d (AsksKind l kind) follows ps past
        where
          opens : (p : Packet) → IsOpenOf (more ++ ease.runs.history) 1 p → p.arg0 ≡ l → service_of (name_of p.payload) ≡ Some kind
          opens p own same =
              let both : Some own.birth ≡ Some b = sym own.is ∙ (ap (λ (k : ℕ). born k now) same ∙ was) in
              let one : own.birth ≡ b = cc in
              ap (λ (x : List ℕ). service_of (name_of x)) (ap (λ (q : Packet). q.payload) own.packet)
              ∙ (ap service_of (named_service own.birth.service ∙ (ap (λ (x : Birth). x.service) one ∙ its.service)) ∙ known)

          follows : (p : Packet) (command : Command) → IsPast (more ++ ease.runs.history)
              (state ease.runs.history).drawn command p → AsksKind l kind command p
          follows p Open x = opens p x.1
          follows p Wrte x = tt
          follows p Okay x = tt
          follows p Clse x = tt
          follows p Cnxn x = tt
          follows p Auth x = tt
          follows p Stls x = tt

      -- all that was sent of it is a prefix of its text
      carried_text : IsPrefixOf (carried_in l (sent 1 (more ++ ease.runs.history))) (text_of u.session)
      carried_text =
          prefix_of_prefix (carried_in l (sent 1 now)) (rest_of l b now) (text_of u.session)
          (subst (λ (t : ℕ). IsPrefixOf (carried_in l (sent t now)) (rest_of l b now)) its.link (laws.carried now later.legal l b was))
          (prefix_of_prefix (rest_of l b now) (drop b.head (bytes_read b.client now)) (text_of u.session) (rest_front l b now) read)
        where
          kept : IsSameLater (more ++ ease.runs.history) n u.session
          kept = later.told n u.session u.is

          bytes : IsPrefixOf (bytes_read n (more ++ ease.runs.history)) u.session.words
          bytes = (
            drop kept.now.written kept.now.words,
            ap (λ (x : List ℕ). x ++ drop kept.now.written kept.now.words) kept.told.read
                ∙ (take-append-drop kept.now.written kept.now.words ∙ kept.same.1),
          )

          read : IsPrefixOf
              (drop mine.born_as.birth.head (bytes_read mine.born_as.birth.client (more ++ ease.runs.history)))
              (text_of u.session)
          read =
              subst (λ (k : ℕ). IsPrefixOf (drop k (bytes_read b.client now)) (text_of u.session)) (sym its.head)
              (subst (λ (c : ℕ). IsPrefixOf (drop (length (requests_for u.session.service)) (bytes_read c now))
              (text_of u.session)) (sym client)
              (drop_front (length (requests_for u.session.service)) (bytes_read n now) u.session.words bytes))

      -- and so is what came for it
      came_text : (came : List ℕ) → (came ≡ []) ⊎ WasWritten (rows_after model_setting (sent 1 ease.runs.history)) l
          (cut.more ++ cut.rest) came
          → IsPrefixOf came (text_of u.session)
      came_text came (inl none) = (text_of u.session, ap (λ (x : List ℕ). x ++ text_of u.session) none)
      came_text came (inr w) = prefix_of_prefix came (carried_in l (sent 1 now)) (text_of u.session)
          (carried_in l w.rest, whole) carried_text
        where
          split : sent 1 (more ++ ease.runs.history) ≡ (sent 1 ease.runs.history ++ w.front) ++ w.packet ∷ w.rest
          split =
              sym all_is
              ∙ (ap (λ (qs : List Packet). sent 1 h ++ qs) w.is ∙ sym (append_assoc (sent 1 h) w.front (w.packet ∷ w.rest)))

          turns : AreInTurn l (remote_of l b (more ++ ease.runs.history)) 0 ((sent 1 ease.runs.history ++ w.front) ++ w.packet ∷ w.rest)
          turns =
              subst (AreInTurn l (remote_of l b now) 0) split
              (sent_in_turn (packets_owed model_setting) (model_is_plain model_setting) now later.legal
              (paired model_setting (omega arith) now later.legal later.joined) l b was)

          writes : is_wrte w.packet.command ≡ true
          writes = ap is_wrte w.writes

          to : w.packet.arg1 ≡ remote_of l b (more ++ ease.runs.history)
          to = turn_at l (remote_of l b now) 0 (sent 1 h ++ w.front) w.packet w.rest turns writes w.of

          sound : (device_behind model_setting (sent 1 ease.runs.history ++ w.front)).refused ≡ false
          sound =
              front_unrefused (sent 1 h ++ w.front) (w.packet ∷ w.rest)
              (subst (λ (qs : List Packet). (device_behind model_setting qs).refused ≡ false) split
              (never_refused model_setting 1 now later.legal))

          took : bytes_in w.row.past ≡ carried_in l (sent 1 ease.runs.history ++ w.front)
          took =
              (took_carried model_setting l (remote_of l b now) (sent 1 h ++ w.front)
              (turns_front l (remote_of l b now) 0 (sent 1 h ++ w.front) (w.packet ∷ w.rest) turns) sound).live w.row
              (ap (λ (k : ℕ). at k (rows_after model_setting (sent 1 h) w.front)) (sym to) ∙ w.live) w.host

          carries : carried_in l (w.packet ∷ w.rest) ≡ w.packet.payload ++ carried_in l w.rest
          carries =
              ap (λ (t : Bool). cond t (w.packet.payload ++ carried_in l w.rest) (carried_in l w.rest))
              (λ i. writes i && eq-eqb w.packet.arg0 l w.of i)

          whole : came ++ carried_in l w.rest ≡ carried_in l (sent 1 (more ++ ease.runs.history))
          whole =
              ap (λ (x : List ℕ). x ++ carried_in l w.rest) (w.came_is ∙ ap (λ (x : List ℕ). x ++ w.packet.payload) took)
              ∙ (append_assoc (carried_in l (sent 1 h ++ w.front)) w.packet.payload (carried_in l w.rest)
              ∙ (ap (λ (x : List ℕ). carried_in l (sent 1 h ++ w.front) ++ x) (sym carries)
              ∙ (sym (carried_in_append l (sent 1 h ++ w.front) (w.packet ∷ w.rest)) ∙ ap (carried_in l) (sym split))))

      mine_first : AreFirst (asks_of n calls) (asks_in kind (text_of u.session))
      mine_first =
          subst (λ (asks : List Ask). AreFirst asks (asks_in kind (text_of u.session)))
          (sym (asks_renamed (client_of now) n l ran.calls (named_in ran.calls ran.asked))) (by (ran.asks l mine.late))
        where
          by : (asks_of l ran.calls ≡ [])
              ⊎ HasAsked (rows_after model_setting (sent 1 ease.runs.history)) l (cut.more ++ cut.rest) (asks_of l ran.calls)
              → AreFirst (asks_of l ran.calls) (asks_in kind (text_of u.session))
          by (inl none) = (asks_in kind (text_of u.session), ap (λ (asks : List Ask). asks ++ asks_in kind (text_of u.session)) none)
          by (inr x) =
              first_of_first (asks_of l ran.calls) (asks_in kind x.came) (asks_in kind (text_of u.session))
              (subst (λ (k : Kind). AreFirst (asks_of l ran.calls) (asks_in k x.came))
              (kind_is l kind x.kind ps x.opened asks_kind) x.first)
              (asks_first kind x.came (text_of u.session) (came_text x.came x.from))

    session_first : AreFirst (asks_of n calls) (asks_in kind (text_of u.session))
    session_first = by (some_of ran.calls ran.asked)
      where
        by : (asks_of n calls ≡ []) ⊎ ((l : ℕ) × Mine l) → AreFirst (asks_of n calls) (asks_in kind (text_of u.session))
        by (inl none) = (asks_in kind (text_of u.session), ap (λ (asks : List Ask). asks ++ asks_in kind (text_of u.session)) none)
        by (inr (l, mine)) = mine_first l mine

  pub asked_in_part : AreAskedInPart (files_of old.device) files old.sessions.entries
  asked_in_part =
      subst (λ (fs : List File). AreAskedInPart fs files old.sessions.entries) (sym (files_old laws old ease begun more later)) (record {
        calls = calls;
        left_files = ran.left ∙ sym (files_renamed (client_of now) (stood laws old ease begun more later) ran.calls);
        asked = λ n u kind known. session_first n u kind known;
        only = only_in ran.calls ran.asked;
      })

-- ---- parts in which a step failed
pub stopped_in_part : AloneLaws → RunInPart model_setting → (old new : Parts) → IsAtEase old → AreUnbegun old → HasStopped old new
    → AreAskedInPart (files_of old.device) (files_of new.device) old.sessions.entries
stopped_in_part laws in_part old new ease begun stopped = by stopped.fails
  where
    holds : Holds ((stopped.goes.grows ease.runs.history ease.runs.holds).more ++ ease.runs.history) stopped.mid
    holds = (stopped.goes.grows ease.runs.history ease.runs.holds).holds

    later : IsLater old ease.runs.history (stopped.goes.grows ease.runs.history ease.runs.holds).more
    later = later_of old stopped.mid ease stopped.goes

    since : (ps : List Packet) × (sent 1 ease.runs.history ++ ps
        ≡ sent 1 ((stopped.goes.grows ease.runs.history ease.runs.holds).more ++ ease.runs.history))
    since = sent_since laws old ease begun (stopped.goes.grows ease.runs.history ease.runs.holds).more
        (later_of old stopped.mid ease stopped.goes)

    by : Fails stopped.mid new → AreAskedInPart (files_of old.device) (files_of new.device) old.sessions.entries
    by (inl same) =
        asked_in_part laws in_part old ease begun (stopped.goes.grows ease.runs.history ease.runs.holds).more later (files_of new.device)
        (cut_before model_setting (files_of new.device) (sent 1 ease.runs.history) since.0
        (sent 1 ((stopped.goes.grows ease.runs.history ease.runs.holds).more ++ ease.runs.history))
        (sent 1 ((stopped.goes.grows ease.runs.history ease.runs.holds).more ++ ease.runs.history)) since.1
        (cut_held ((stopped.goes.grows ease.runs.history ease.runs.holds).more ++ ease.runs.history) stopped.mid
        (files_of new.device) holds same))
    by (inr cut) = fed (cut ((stopped.goes.grows ease.runs.history ease.runs.holds).more ++ ease.runs.history) holds)
      where
        fed : IsCutAt ((stopped.goes.grows ease.runs.history ease.runs.holds).more ++ ease.runs.history) (files_of new.device)
            → AreAskedInPart (files_of old.device) (files_of new.device) old.sessions.entries
        fed k =
            asked_in_part laws in_part old ease begun (Send 1 k.piece ∷ (stopped.goes.grows ease.runs.history ease.runs.holds).more)
            (later_sent old ease.runs.history (stopped.goes.grows ease.runs.history ease.runs.holds).more stopped.mid
            k.piece holds k.lawful.legal later)
            (files_of new.device)
            (cut_before model_setting (files_of new.device) (sent 1 ease.runs.history) since.0
            (sent 1 ((stopped.goes.grows ease.runs.history ease.runs.holds).more ++ ease.runs.history))
            (sent 1 (Send 1 k.piece ∷ (stopped.goes.grows ease.runs.history ease.runs.holds).more ++ ease.runs.history)) since.1 k.cut)
