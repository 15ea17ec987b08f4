-- A history that goes on where nothing was on its way: what is sent then.
use Rattle.std.specs.Prelude.{ℕ, ◌+◌, ◌≡◌, ◌≤◌, ◌<◌, Bool, true, false, is_some, suc, List, [], ◌∷◌, ◌++◌, length, take, drop, Option, Some}
use Rattle.std.specs.Prelude.{None}
use Rattle.std.proofs.Common.{refl, sym, ◌∙◌, ap, subst, arith, ◌⊎◌, inl, inr}
use Rattle.std.proofs.lemmas.List.{length-append, length-drop}
use Rattle.adb_outside.specs.Tables.{at}
use Rattle.adb_wire.specs.declared.packets.Packet.{Packet}
use Rattle.adb_files.specs.Entries.{Entry as File}
use Rattle.adb_history.specs.Asking.{Asked, nothing_asked, asks_with}
use Rattle.adb_history.specs.Births.{Birth, born}
use Rattle.adb_history.specs.Book.{asked}
use Rattle.adb_history.specs.Bytes.{bytes_read, sent}
use Rattle.adb_history.specs.Fifo.{CarriesRest}
use Rattle.adb_history.specs.Lives.{lived, packets_of, rest_of}
use Rattle.adb_history.specs.Machine.{History, IsLegal, state}
use Rattle.adb_history.specs.Orderly.{HasOwner}
use Rattle.adb_history.specs.Rows.{Client}
use Rattle.adb_history.specs.Tied.{came_count}
use Rattle.adb_history.proofs.Books.{all_books}
use Rattle.adb_history.proofs.OrderlyStates.{orderly}
use Rattle.adb_laws_births.proofs.Born.{all_births}
use Rattle.adb_laws_births.proofs.Single.{one_stream_each}
use Rattle.adb_laws_causes.proofs.Others.{born_within}
use Rattle.adb_daemon.specs.Daemon.{files_of}
use Rattle.adb_laws_alone.specs.Alone.{EchoesLeaveFiles, Every, OneRunsAlone}
use Rattle.adb_laws_answers.proofs.Asked.{born_as}
use Rattle.adb_laws_model_device.specs.Joined.{IsJoined}
use Rattle.adb_request.specs.Requests.{hex_digits}
use Rattle.adb_laws_answers.specs.Words.{requests_for, selects, words_of}
use Rattle.adb_laws_answers.specs.Model.{model_devices, model_setting}
use Rattle.adb_laws_answers.specs.Asked.{Opens}
use Rattle.adb_laws_answers.specs.Sessions.{AsksForServices, IsOfSessions}
use Rattle.adb_laws_worlds.specs.Unbroken.{BringsSound}
use Rattle.adb_world.specs.Parts.{Holds, IsKeptAt, IsOver, IsRunning, IsSame}
use Rattle.adb_world.specs.Session.{IsTold, left_of, text_of}
use Rattle.adb_world.specs.Settled.{GoesOn, GrowsFrom, IsAtEase}
use Rattle.adb_world.specs.declared.parts.Parts.{Parts}
use Rattle.adb_world.specs.declared.session.Session.{Session}
use Rattle.adb_world.proofs.Answered.{AreAnswered, all_read, few_births, served_by}
use Rattle.adb_world.proofs.Counted.{IsThere, RequestsOpen, asks_as_written, there}
use Rattle.adb_world.proofs.Devices.{devices_of}
use Rattle.adb_world.proofs.Ended.{IsIdleState, idle_state}
use Rattle.adb_world.proofs.Files.{files_behind as files_sent}
use Rattle.adb_world.proofs.Going.{AllStay}
use Rattle.adb_world.proofs.OneStream.{PayloadLaws, HasAskedForIt, IsPast, all_past, asked_born, asked_of_birth, born_behind}
use Rattle.adb_world.proofs.Rest.{Laws}
use Rattle.adb_world.proofs.SentAll.{all_sent}
use Rattle.adb_world.proofs.Since.{ReadNoMore, since, quiet_since, own_since}
use Rattle.adb_world.proofs.Unread.{lived_read}
use Rattle.adb_world.proofs.Written.{still_all}

-- ---- a world that settles
pub record AloneLaws : Type 0 where
  pub rest : Laws
  pub carried : (h : History) → IsLegal h → CarriesRest h
  pub stays : AllStay
  pub asks : (h : History) → IsLegal h → IsOfSessions h → AsksForServices h
  pub sound : (parts : Parts) (runs : IsRunning parts) → BringsSound runs.history
  pub requests : RequestsOpen
  pub answered : AreAnswered
  pub payloads : PayloadLaws
  pub alone : OneRunsAlone model_setting
  pub echoes : EchoesLeaveFiles model_setting

-- Sessions that have not written all their words have written nothing.
abbrev pub AreUnbegun : Parts → Type 0
AreUnbegun parts = (c : ℕ) (session : Session) → at c parts.sessions.entries ≡ Some session → (left_of session ≡ []) ⊎ (session.written ≡ 0)

-- A session kept before is kept, under the history that goes on.
pub record IsSameLater (g : History) (c : ℕ) (session : Session) : Type 0 where
  pub now : Session
  pub same : IsSame (Some session) (Some now)
  pub told : IsTold g c now

-- A history goes on, with the same sessions.
pub record IsLater (old : Parts) (h more : History) : Type 0 where
  pub legal : IsLegal (more ++ h)
  pub sessions : IsOfSessions (more ++ h)
  pub joined : IsJoined model_setting (more ++ h)
  pub came : came_count (more ++ h) ≡ old.given
  pub told : (c : ℕ) (session : Session) → at c old.sessions.entries ≡ Some session → IsSameLater (more ++ h) c session

-- The client of a stream is that of a session that had written nothing.
pub record IsFresh (old : Parts) (b : Birth) : Type 0 where
  pub session : Session
  pub is : at b.client old.sessions.entries ≡ Some session
  pub unwritten : session.written ≡ 0

module _ (laws : AloneLaws) (old : Parts) (ease : IsAtEase old) (begun : AreUnbegun old) (more : History)
    (later : IsLater old ease.runs.history more) where
  abbrev pub h : History
  h = ease.runs.history

  abbrev pub now : History
  now = more ++ ease.runs.history

  pub holds : Holds h old
  holds = ease.runs.holds

  pub legal : IsLegal h
  legal = holds.lawful.legal

  pub asks : AsksForServices h
  asks = laws.asks h legal holds.asks

  pub asks_now : AsksForServices now
  asks_now = laws.asks now later.legal later.sessions

  pub told_of : (c : ℕ) (session : Session) → at c old.sessions.entries ≡ Some session → IsTold h c session
  told_of c session is = (subst (IsKeptAt old.given h c) is (holds.sessions c)).1

  -- a session that has written nothing asked for nothing, and one that has written all asked for its service
  pub unasked : (c : ℕ) (session : Session) → at c old.sessions.entries ≡ Some session → session.written ≡ 0
      → is_some (asked c h).next ≡ false
  unasked c session is zeroth =
      ap is_some (ap (λ (q : Asked). q.next) (asks.clients c).asked ∙ opens.asks (omega (arith, none, long)))
    where
      nothing : bytes_read c h ≡ []
      nothing = (told_of c session is).read ∙ ap (λ (n : ℕ). take n session.words) zeroth

      empty : (a b : List ℕ) → a ++ b ≡ [] → a ≡ []
      empty [] b e = refl
      empty (x ∷ a) b e = absurd (let clash : x ∷ (a ++ b) ≡ [] = e in cc)

      front_none : (asks.clients c).front ≡ []
      front_none = empty (asks.clients c).front (asks.clients c).first.0 ((asks.clients c).first.1 ∙ nothing)

      opens : Opens session.service (asks.clients c).front (asks_with model_devices [] (asks.clients c).front nothing_asked)
      opens =
          laws.requests session.service (text_of session) (asks.clients c).front (told_of c session is).known
          (words_of session.service (text_of session), ap (λ (x : List ℕ). x ++ words_of session.service (text_of session)) front_none)

      none : length (asks.clients c).front ≡ 0
      none = ap length front_none

      long : length (requests_for session.service) ≡ 26 + length (hex_digits (length session.service) ++ session.service)
      long = length-append selects (hex_digits (length session.service) ++ session.service)

  pub has_asked : (c : ℕ) (session : Session) → at c old.sessions.entries ≡ Some session → left_of session ≡ []
      → is_some (asked c h).next ≡ true
  has_asked c session is none = asks_as_written laws.requests h legal c session (asks.clients c) (told_of c session is) none

  pub not_both : (c : ℕ) → is_some (asked c h).next ≡ false → is_some (asked c h).next ≡ true → ⊥
  not_both c off on = let clash : false ≡ true = sym off ∙ on in cc

  -- ---- streams
  -- a client that had asked has its stream since then
  born_before : (l : ℕ) (b : Birth) → born l now ≡ Some b → is_some (asked b.client h).next ≡ true → l ≤ (state h).drawn
  born_before l b is done =
      let x = asked_born laws.requests h asks b.client done in
      let was = born_as h x.1.place x.1.birth x.1.is (few_births h old holds asks) in
      let same : l ≡ suc x.1.place =
      one_stream_each now later.legal l (suc x.1.place) b x.1.birth is
      (born_behind (suc x.1.place) x.1.birth more h was) (sym x.1.client) in
      let within = (born_within (suc x.1.place) h x.1.birth was).1 in
      let drawn = (all_births h legal).drawn in
      omega (arith, same, within, drawn)

  -- a stream that was born since is that of a session that had written nothing
  pub fresh : (l : ℕ) (b : Birth) → born l now ≡ Some b → (state h).drawn < l → IsFresh old b
  fresh l b is past = go (there h old holds b.client by.some (omega (arith, came, count)))
    where
      by : HasAskedForIt now b
      by = asked_of_birth now later.legal later.sessions asks_now l b is

      came : b.client ≤ came_count now
      came = by.came

      count : came_count now ≡ old.given
      count = later.came

      late : is_some (asked b.client h).next ≡ true → ⊥
      late done = let le = born_before l b is done in omega (arith, le, past)

      go : IsThere h old b.client ⊎ IsOver old.given h b.client → IsFresh old b
      go (inr over) = absurd (late (asks.ended b.client over.ended))
      go (inl t) = by_words (begun b.client t.session t.is)
        where
          by_words : (left_of t.session ≡ []) ⊎ (t.session.written ≡ 0) → IsFresh old b
          by_words (inl none) = absurd (late (has_asked b.client t.session t.is none))
          by_words (inr zeroth) = record { session = t.session; is = t.is; unwritten = zeroth }

  -- no more is read for streams that live
  pub idle : IsIdleState (state h)
  idle = idle_state h old.hub _ _ ease.runs.holds.lawful ease.calm

  pub same_read : (c : ℕ) (session : Session) → at c old.sessions.entries ≡ Some session → left_of session ≡ []
      → bytes_read c now ≡ bytes_read c h
  same_read c session is none =
      let x = later.told c session is in
      let all : left_of x.now ≡ [] = still_all c session x.now h more (told_of c session is) x.told x.same.1 none in
      all_read now c x.now x.told all ∙ (x.same.1 ∙ sym (all_read h c session (told_of c session is) none))

  pub read : ReadNoMore h now
  read l b x live is = go (there h old holds b.client by.some (omega (arith, came, count)))
    where
      by : HasAskedForIt h b
      by = asked_of_birth h legal holds.asks asks l b is

      came : b.client ≤ came_count h
      came = by.came

      count : came_count h ≡ old.given
      count = holds.came

      owned : (o : Bool) → HasOwner o (state h) l x → (client : Client) × ((state h).clients x.client ≡ Some client)
      owned false owner = (owner.client, owner.is)
      owned true owner = absurd ((idle.streams l x live).opened owner.0)

      of_client : x.client ≡ b.client
      of_client =
          let kept = (all_births h legal).kept l x live in
          let both : Some kept.birth ≡ Some b = sym kept.is ∙ is in
          let same : kept.birth ≡ b = cc in
          kept.client ∙ ap (λ (a : Birth). a.client) same

      go : IsThere h old b.client ⊎ IsOver old.given h b.client → length (rest_of l b now) ≤ length (drop b.head (bytes_read b.client h))
      go (inr over) =
          let owner = owned x.part.orphan ((orderly h legal).stream l x live).owner in
          absurd (let clash : None ≡ Some owner.0 =
          sym over.gone ∙ (ap (state h).clients (sym of_client) ∙ owner.1) in cc)
      go (inl t) = by_words (begun b.client t.session t.is)
        where
          by_words : (left_of t.session ≡ []) ⊎ (t.session.written ≡ 0)
              → length (rest_of l b now) ≤ length (drop b.head (bytes_read b.client h))
          by_words (inr zeroth) = absurd (not_both b.client (unasked b.client t.session t.is zeroth) by.asked_it)
          by_words (inl none) =
              let lives = lived_read l b.client now in
              let same : length (bytes_read b.client now) ≡ length (bytes_read b.client h) =
              ap length (same_read b.client t.session t.is none) in
              let long = length-drop b.head (bytes_read b.client (lived l now)) in
              let before = length-drop b.head (bytes_read b.client h) in
              omega (arith, lives, same, long, before)

  -- ---- the device
  pub known : (state h).devices ≡ model_devices
  known = (all_books h legal).devices ∙ devices_of old ease.runs (laws.sound old ease.runs) (laws.asks h legal holds.asks) h holds

  pub whole_link : sent 1 h ≡ packets_of 1 h
  whole_link = all_sent h old.hub ease.runs.holds.lawful known ease.calm.link

  abbrev pub sent_since : (ps : List Packet) × (sent 1 h ++ ps ≡ sent 1 now)
  sent_since = since laws.carried laws.stays h more legal later.legal idle whole_link read

  pub all_sent_past : Every (IsPast now (state h).drawn) sent_since.0
  all_sent_past =
      all_past now (state h).drawn sent_since.0 (own_since laws.carried laws.stays h more legal later.legal idle whole_link read)
      (quiet_since laws.carried laws.stays h more legal later.legal idle whole_link read)

  abbrev pub stood : List File
  stood = (served_by h).files

  pub files_old : files_of old.device ≡ stood
  files_old = files_sent h old.device holds.done

-- parts that went on by steps
pub later_of : (old new : Parts) (ease : IsAtEase old) (goes : GoesOn old new)
    → IsLater old ease.runs.history (goes.grows ease.runs.history ease.runs.holds).more
later_of old new ease goes = record {
  legal = grown.holds.lawful.legal;
  sessions = grown.holds.asks;
  joined = grown.holds.joined;
  came = grown.holds.came ∙ goes.given;
  told = told;
}
  where
    grown : GrowsFrom goes.steps ease.runs.history new
    grown = goes.grows ease.runs.history ease.runs.holds

    told : (c : ℕ) (session : Session) → at c old.sessions.entries ≡ Some session
        → IsSameLater ((goes.grows ease.runs.history ease.runs.holds).more ++ ease.runs.history) c session
    told c session is =
        go (at c new.sessions.entries) refl
        (subst (λ (o : Option Session). IsSame o (at c new.sessions.entries)) is (goes.same c))
      where
        go : (o : Option Session) → at c new.sessions.entries ≡ o → IsSame (Some session) o
            → IsSameLater ((goes.grows ease.runs.history ease.runs.holds).more ++ ease.runs.history) c session
        go None found same = absurd same
        go (Some now) found same = record {
          now = now;
          same = same;
          told = (subst (IsKeptAt new.given ((goes.grows ease.runs.history ease.runs.holds).more ++ ease.runs.history) c) found
              ((goes.grows ease.runs.history ease.runs.holds).holds.sessions c)).1;
        }
