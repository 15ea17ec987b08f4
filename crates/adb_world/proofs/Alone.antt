-- Sessions that begin where nothing is on its way: what one alone is answered, and which files it leaves.
use Rattle.std.specs.Prelude.{ℕ, ◌+◌, ◌≡◌, ◌≢◌, ◌≤◌, ◌<◌, true, false, is_some, suc}
use Rattle.std.specs.Prelude.{List, [], ◌∷◌, ◌++◌, Option, Some, None, codes}
use Rattle.std.proofs.Common.{refl, sym, ◌∙◌, ap, subst, arith, ◌⊎◌, inl, inr}
use Rattle.std.proofs.lemmas.Bool.{cases_eq}
use Rattle.adb_outside.specs.Tables.{at}
use Rattle.adb_wire.specs.declared.command.Command.{Command}
use Rattle.adb_wire.specs.declared.command.Command.TheVariants.{Cnxn, Open, Okay, Wrte, Clse, Auth, Stls}
use Rattle.adb_wire.specs.declared.packets.Packet.{Packet}
use Rattle.adb_files.specs.Entries.{Entry as File}
use Rattle.adb_history.specs.Births.{Birth, born, count_from, is_open}
use Rattle.adb_history.specs.Book.{asked}
use Rattle.adb_history.specs.Bytes.{sent}
use Rattle.adb_history.specs.Fifo.{IsOpenOf}
use Rattle.adb_history.specs.Machine.{History, IsLegal, state}
use Rattle.adb_laws_births.proofs.Born.{all_births}
use Rattle.adb_laws_births.proofs.Crossing.{no_crossing}
use Rattle.adb_laws_births.proofs.Once.{count_append}
use Rattle.adb_laws_births.proofs.Single.{one_stream_each}
use Rattle.adb_laws_causes.proofs.Others.{born_within}
use Rattle.adb_device_streams.specs.Asked.{Echoes, service_of, name_of}
use Rattle.adb_device_streams.specs.Service.{files_opened, service_answer}
use Rattle.adb_device_streams.specs.Stream.{Row}
use Rattle.adb_shell_service.specs.Service.{Answer}
use Rattle.adb_daemon.specs.Daemon.{files_of}
use Rattle.adb_daemon.specs.Device.{device_behind}
use Rattle.adb_laws_alone.specs.Alone.{AllRanAlone, AsksNone, Every, IsOfEchoes, IsOfOne, RanAlone}
use Rattle.adb_laws_answers.specs.Answers.{HasEndedAs}
use Rattle.adb_laws_answers.proofs.Asked.{born_for, born_as}
use Rattle.adb_laws_answers.specs.Model.{model_setting}
use Rattle.adb_laws_answers.specs.Sessions.{AsksForServices}
use Rattle.adb_world.specs.Answered.{AreEchoes, IsAnsweredAlone, IsEcho, IsNewAlone, text_over}
use Rattle.adb_world.specs.Parts.{Holds, IsGreeted, IsKeptAt, IsSame}
use Rattle.adb_world.specs.Session.{left_of, text_of}
use Rattle.adb_world.specs.Settled.{GoesOn, IsAtEase, Rests}
use Rattle.adb_world.specs.declared.parts.Parts.{Parts}
use Rattle.adb_world.specs.declared.session.Session.{Session}
use Rattle.adb_world.proofs.Answered.{IsToldAnswer, few_births, has_opened, served_by, told_answer}
use Rattle.adb_world.proofs.Files.{files_behind as files_sent}
use Rattle.adb_world.proofs.Greeted.{stays_greeted}
use Rattle.adb_world.proofs.Later.{AloneLaws, AreUnbegun, IsFresh, IsLater, later_of}
use Rattle.adb_world.proofs.Later.{all_sent_past as all_later_past, fresh as is_fresh, has_asked as had_asked, sent_since as sent_later}
use Rattle.adb_world.proofs.Later.{unasked as was_unasked}
use Rattle.adb_world.proofs.OneStream.{IsPast, IsWhole}
use Rattle.adb_world.proofs.OneStream.{asked_of_birth, asks_none, born_behind, every_past, is_whole}

-- where one begins alone, and where all that begin are echoes
pub alone_begun : (n : ℕ) (parts : Parts) → IsNewAlone n parts.sessions.entries → AreUnbegun parts
alone_begun n parts alone c session is = go (cases_eq c n)
  where
    go : (c ≡ n) ⊎ (c ≢ n) → (left_of session ≡ []) ⊎ (session.written ≡ 0)
    go (inr other) = inl (alone.others c session other is)
    go (inl same) =
        let both : Some alone.session ≡ Some session =
        sym alone.is ∙ (ap (λ (k : ℕ). at k parts.sessions.entries) (sym same) ∙ is) in
        let one : alone.session ≡ session = cc in
        inr (ap (λ (s : Session). s.written) (sym one) ∙ alone.unwritten)

pub echoes_begun : (parts : Parts) → AreEchoes parts.sessions.entries → AreUnbegun parts
echoes_begun parts echoes c session is = go (echoes c session is)
  where
    go : (left_of session ≡ []) ⊎ IsEcho session → (left_of session ≡ []) ⊎ (session.written ≡ 0)
    go (inl none) = inl none
    go (inr echo) = inr echo.0

module _ (laws : AloneLaws) (old new : Parts) (ease : IsAtEase old) (goes : GoesOn old new) (rests : Rests new)
    (begun : AreUnbegun old) where
  abbrev pub h : History
  h = ease.runs.history

  abbrev pub more : History
  more = (goes.grows ease.runs.history ease.runs.holds).more

  abbrev pub now : History
  now = (goes.grows ease.runs.history ease.runs.holds).more ++ ease.runs.history

  pub holds : Holds h old
  holds = ease.runs.holds

  pub holds_now : Holds now new
  holds_now = (goes.grows ease.runs.history ease.runs.holds).holds

  pub legal : IsLegal h
  legal = holds.lawful.legal

  pub legal_now : IsLegal now
  legal_now = holds_now.lawful.legal

  is_later : IsLater old ease.runs.history more
  is_later = later_of old new ease goes

  pub asks : AsksForServices h
  asks = laws.asks h legal holds.asks

  pub asks_now : AsksForServices now
  asks_now = laws.asks now legal_now holds_now.asks

  pub greeted_now : IsGreeted now
  greeted_now = go more
    where
      go : (es : History) → IsGreeted (es ++ h)
      go [] = ease.runs.greeted
      go (e ∷ es) = stays_greeted e (es ++ h) ((laws.stays e (es ++ h)).brings 1) (go es)

  -- ---- sessions
  pub kept_now : (c : ℕ) (session : Session) → at c new.sessions.entries ≡ Some session → IsKeptAt new.given now c (Some session)
  kept_now c session is = subst (IsKeptAt new.given now c) is (holds_now.sessions c)

  pub words_now : (c : ℕ) (session : Session) → at c new.sessions.entries ≡ Some session → left_of session ≡ []
  words_now c session is = rests.written c session (kept_now c session is).0.0 is

  pub unasked : (c : ℕ) (session : Session) → at c old.sessions.entries ≡ Some session → session.written ≡ 0
      → is_some (asked c h).next ≡ false
  unasked = was_unasked laws old ease begun more is_later

  has_asked : (c : ℕ) (session : Session) → at c old.sessions.entries ≡ Some session → left_of session ≡ []
      → is_some (asked c h).next ≡ true
  has_asked = had_asked laws old ease begun more is_later

  pub not_both : (c : ℕ) → is_some (asked c h).next ≡ false → is_some (asked c h).next ≡ true → ⊥
  not_both c off on = let clash : false ≡ true = sym off ∙ on in cc

  -- the same session now
  same_now : (c : ℕ) (session : Session) → at c old.sessions.entries ≡ Some session
      → (later : Session) × ((at c new.sessions.entries ≡ Some later) × IsSame (Some session) (Some later))
  same_now c session is =
      go (at c new.sessions.entries) refl (subst (λ (o : Option Session). IsSame o (at c new.sessions.entries)) is (goes.same c))
    where
      go : (o : Option Session) → at c new.sessions.entries ≡ o → IsSame (Some session) o
          → (later : Session) × ((at c new.sessions.entries ≡ Some later) × IsSame (Some session) (Some later))
      go None found same = absurd same
      go (Some later) found same = (later, (found, same))

  -- ---- streams
  pub fresh : (l : ℕ) (b : Birth) → born l now ≡ Some b → (state h).drawn < l → IsFresh old b
  fresh = is_fresh laws old ease begun more (later_of old new ease goes)

  -- ---- the device
  abbrev pub sent_since : (ps : List Packet) × (sent 1 h ++ ps ≡ sent 1 now)
  sent_since = sent_later laws old ease begun more (later_of old new ease goes)

  pub all_sent_past : Every (IsPast now (state h).drawn) sent_since.0
  all_sent_past = all_later_past laws old ease begun more (later_of old new ease goes)

  abbrev pub stood : List File
  stood = (served_by h).files

  pub files_old : files_of old.device ≡ stood
  files_old = files_sent h old.device holds.done

  pub files_now : files_of new.device ≡ (served_by now).files
  files_now = files_sent now new.device holds_now.done

  -- ---- one session alone
  module _ (n : ℕ) (alone : IsNewAlone n old.sessions.entries) (session : Session) (is : at n new.sessions.entries ≡ Some session) where
    a : IsToldAnswer now n session
    a =
        told_answer laws.rest now new holds_now greeted_now asks_now rests laws.requests laws.answered n session (kept_now n session is)
        (words_now n session is)

    unborn : (b : Birth) → born a.number h ≡ Some b → ⊥
    unborn b was =
        let both : Some b ≡ Some a.birth = sym (born_behind a.number b more h was) ∙ a.is in
        let same : b ≡ a.birth = cc in
        let client : b.client ≡ n = ap (λ (x : Birth). x.client) same ∙ a.client in
        not_both n (unasked n alone.session alone.is alone.unwritten)
        (subst (λ (c : ℕ). is_some (asked c h).next ≡ true) client (asked_of_birth h legal holds.asks asks a.number b was).asked_it)

    before : Every (AsksNone (λ (host : ℕ). host ≡ a.number)) (sent 1 h)
    before =
        asks_none h (λ (host : ℕ). host ≡ a.number) (λ l b was same. unborn b (subst (λ (k : ℕ). born k h ≡ Some b) same was)) (sent 1 h)
        ((no_crossing h legal).own 1)

    -- each stream that was born since is its
    mine : (l : ℕ) (b : Birth) → born l now ≡ Some b → (state h).drawn < l → l ≡ a.number
    mine l b was late = go (cases_eq b.client n)
      where
        f : IsFresh old b
        f = fresh l b was late

        go : (b.client ≡ n) ⊎ (b.client ≢ n) → l ≡ a.number
        go (inl same) = one_stream_each now legal_now l a.number b a.birth was a.is (same ∙ sym a.client)
        go (inr other) =
            absurd (not_both b.client (unasked b.client f.session f.is f.unwritten)
            (has_asked b.client f.session f.is (alone.others b.client f.session other f.is)))

    of_one : Every (IsOfOne a.number) sent_since.0
    of_one = every_past now (state h).drawn (IsOfOne a.number) follows sent_since.0 all_sent_past
      where
        follows : (p : Packet) (command : Command) → IsPast now (state h).drawn command p → IsOfOne a.number command p
        follows p Open x = mine p.arg0 x.1.birth x.1.is x.0
        follows p Wrte (inl none) = inl none
        follows p Wrte (inr x) = inr (mine p.arg0 x.1.birth x.1.is x.0)
        follows p Okay x = tt
        follows p Clse x = tt
        follows p Cnxn x = tt
        follows p Auth x = tt
        follows p Stls x = tt

    once : count_from is_open a.number sent_since.0 ≤ 1
    once =
        let all = (no_crossing now legal_now).once 1 a.number in
        let both : count_from is_open a.number (sent 1 now) ≡ count_from is_open a.number (sent 1 h)
        + count_from is_open a.number sent_since.0 =
        ap (count_from is_open a.number) (sym sent_since.1) ∙ count_append is_open a.number (sent 1 h) sent_since.0 in
        omega (arith, all, both)

    ran : AllRanAlone a.number stood (served_by now)
    ran =
        subst (λ (ps : List Packet). AllRanAlone a.number stood (device_behind model_setting ps).serving) sent_since.1
        (laws.alone a.number (sent 1 h) sent_since.0 before of_one once)

    row_ran : RanAlone stood (served_by now).files a.row
    row_ran = go a.served.there
      where
        go : (at a.served.own (served_by now).rows ≡ Some a.row) ⊎ HasEndedAs a.served.own a.row (served_by now).ended
            → RanAlone stood (served_by now).files a.row
        go (inl live) = ran.rows a.served.own a.row live a.served.host
        go (inr e) =
            subst (λ (row : Row). RanAlone stood (served_by now).files row) e.row_is
            (ran.ended a.served.own e.over e.is (ap (λ (row : Row). row.host) e.row_is ∙ a.served.host))

    whole : IsWhole a.row.kind a.row.first (files_opened a.row.kind stood) a.row.past (text_of session)
    whole =
        is_whole laws.payloads a.row.kind a.row.first (files_opened a.row.kind stood) a.row.past (text_of session) row_ran.turn a.came

    over_first : IsAnsweredAlone session stood (files_of new.device)
    over_first = record {
      kind = a.row.kind;
      asked = a.asked;
      got = a.put_as
          ∙ ap (λ (x : Answer). codes "OKAYOKAY" ++ x.bytes) (whole.answer
          ∙ ap (λ (files : List File). service_answer a.row.kind files (text_over a.row.kind (text_of session) stood ∷ [])) row_ran.over);
      left_files = files_now ∙ (row_ran.left ∙ whole.files);
    }

    pub answered_alone : IsAnsweredAlone session (files_of old.device) (files_of new.device)
    answered_alone = subst (λ (files : List File). IsAnsweredAlone session files (files_of new.device)) (sym files_old) over_first

  -- ---- echoes
  module _ (echoes : AreEchoes old.sessions.entries) where
    asks_echo : (p : Packet) → (state h).drawn < p.arg0 → (own : IsOpenOf now 1 p) → service_of (name_of p.payload) ≡ Some Echoes
    asks_echo p late own = go (echoes own.birth.client f.session f.is)
      where
        f : IsFresh old own.birth
        f = fresh p.arg0 own.birth own.is late

        named : own.birth.service ≡ codes "echo:" → service_of (name_of p.payload) ≡ Some Echoes
        named service =
            ap (λ (payload : List ℕ). service_of (name_of payload))
            (ap (λ (x : Packet). x.payload) own.packet ∙ ap (λ (x : List ℕ). x ++ 0 ∷ []) service)

        asked_for : f.session.service ≡ codes "echo:" → own.birth.service ≡ codes "echo:"
        asked_for service =
            let later = same_now own.birth.client f.session f.is in
            let ids = few_births now new holds_now asks_now in
            let q = has_opened now own.birth.client later.0 (kept_now own.birth.client later.0 later.1.0).1
            (words_now own.birth.client later.0 later.1.0) laws.requests (asks_now.clients own.birth.client) in
            let x = born_for now own.birth.client 1 later.0.service q.next in
            let place = born_as now x.place x.birth x.is ids in
            let number : p.arg0 ≡ suc x.place =
            one_stream_each now legal_now p.arg0 (suc x.place) own.birth x.birth own.is place (sym x.client) in
            let both : Some own.birth ≡ Some x.birth = sym own.is ∙ (ap (λ (k : ℕ). born k now) number ∙ place) in
            let same : own.birth ≡ x.birth = cc in
            ap (λ (b : Birth). b.service) same ∙ (x.service_is ∙ (later.1.1.0 ∙ service))

        go : (left_of f.session ≡ []) ⊎ IsEcho f.session → service_of (name_of p.payload) ≡ Some Echoes
        go (inl none) =
            absurd (not_both own.birth.client (unasked own.birth.client f.session f.is f.unwritten)
            (has_asked own.birth.client f.session f.is none))
        go (inr echo) = named (asked_for echo.1)

    of_echoes : Every (IsOfEchoes (state h).drawn) sent_since.0
    of_echoes = every_past now (state h).drawn (IsOfEchoes (state h).drawn) follows sent_since.0 all_sent_past
      where
        follows : (p : Packet) (command : Command) → IsPast now (state h).drawn command p → IsOfEchoes (state h).drawn command p
        follows p Open x = asks_echo p x.0 x.1
        follows p Wrte (inl none) = inl none
        follows p Wrte (inr x) = inr x.0
        follows p Okay x = tt
        follows p Clse x = tt
        follows p Cnxn x = tt
        follows p Auth x = tt
        follows p Stls x = tt

    none_late : Every (AsksNone (λ (host : ℕ). (state h).drawn < host)) (sent 1 h)
    none_late =
        asks_none h (λ (host : ℕ). (state h).drawn < host)
        (λ l b was late.
        (let within = (born_within l h b was).1 in let drawn =
        (all_births h legal).drawn in omega (arith, within, drawn, late)))
        (sent 1 h) ((no_crossing h legal).own 1)

    pub echoes_left : files_of new.device ≡ files_of old.device
    echoes_left =
        files_now
        ∙ (ap (λ (ps : List Packet). (device_behind model_setting ps).serving.files) (sym sent_since.1)
        ∙ (laws.echoes (state h).drawn (sent 1 h) sent_since.0 none_late of_echoes ∙ sym files_old))
