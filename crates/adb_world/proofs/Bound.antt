-- From a time at which nothing is on its way, the steps to one at which no step is possible are few.
use Rattle.std.specs.Prelude.{ℕ, ◌+◌, ◌*◌, ◌^◌, ◌≡◌, ◌≤◌, ◌<◌, Bool, true, false, cond, is_some, suc, List, [], ◌∷◌, ◌++◌, length, Option}
use Rattle.std.specs.Prelude.{Some, None}
use Rattle.std.proofs.Common.{refl, sym, ◌∙◌, ap, subst, arith, ◌⊎◌, inl, inr}
use Rattle.std.proofs.lemmas.List.{append-nil, length-append}
use Rattle.adb_outside.specs.Tables.{at}
use Rattle.adb_outside.specs.declared.kinds.Cause.TheVariants.{Eof}
use Rattle.adb_outside.proofs.TableLaws.{at_head, at_tail}
use Rattle.adb_request.specs.Requests.{hex_digits}
use Rattle.adb_reply.specs.declared.answer.Next.{Next}
use Rattle.adb_reply.specs.declared.answer.Next.TheVariants.{Open}
use Rattle.adb_capture.specs.declared.entry.Entry.TheVariants.{Join, Read, End, Attach, Recv, Put, Send}
use Rattle.adb_stream.specs.declared.row.Stream.{Stream}
use Rattle.adb_history.specs.Births.{Birth, born}
use Rattle.adb_history.specs.Book.{asked}
use Rattle.adb_history.specs.Bytes.{bytes_put, bytes_read, bytes_received, bytes_sent, has_ended, sent}
use Rattle.adb_history.specs.Machine.{History, IsLegal, state}
use Rattle.adb_history.specs.Orderly.{HasOwner}
use Rattle.adb_history.specs.Rows.{Client}
use Rattle.adb_history.specs.Tied.{came_count}
use Rattle.adb_history.proofs.Books.{all_books}
use Rattle.adb_history.proofs.OrderlyStates.{orderly}
use Rattle.adb_laws_births.proofs.Born.{all_births}
use Rattle.adb_laws_births.proofs.Single.{one_stream_each}
use Rattle.adb_laws_causes.proofs.Others.{born_within}
use Rattle.adb_device_streams.specs.Asked.{service_of}
use Rattle.adb_daemon.specs.Daemon.{owed}
use Rattle.adb_daemon.specs.Device.{Setting}
use Rattle.adb_laws_answers.proofs.Asked.{born_as}
use Rattle.adb_laws_model_device.specs.Joined.{IsJoined}
use Rattle.adb_laws_model_device.specs.Owed.{bytes_owed, packets_owed}
use Rattle.adb_laws_answers.specs.Words.{requests_for, selects}
use Rattle.adb_laws_answers.specs.Model.{model_devices, model_setting}
use Rattle.adb_laws_answers.specs.Sessions.{AsksForServices, IsOfSessions}
use Rattle.adb_laws_steps.specs.Moved.{AreSteps, moved, of_here}
use Rattle.adb_laws_steps.specs.Receives.{writes_to}
use Rattle.adb_laws_steps.specs.Steps.{ClientsPay, NoneEnters, Settles, WritesWerePut, pays, stream_pays}
use Rattle.adb_laws_steps.specs.Sums.{sum_to}
use Rattle.adb_laws_steps.proofs.Clients.{all_asked_for, asked_for}
use Rattle.adb_laws_steps.proofs.Moved.{ended_same}
use Rattle.adb_laws_steps.proofs.Sums.{sum_more, sum_none, sum_within}
use Rattle.adb_laws_worlds.specs.Credit.{HasOneDevice}
use Rattle.adb_laws_worlds.specs.Settled as worlds
use Rattle.adb_laws_worlds.specs.Unbroken.{BringsSound}
use Rattle.adb_world.specs.Parts.{Holds, IsGreeted, IsKeptAt, IsOver, IsRunning}
use Rattle.adb_world.specs.Session.{IsTold, left_of, text_of}
use Rattle.adb_world.specs.Settled.{GoesOn, HasMade, IsAtEase, Rests}
use Rattle.adb_world.specs.Steps.{bytes_of_all, most_steps}
use Rattle.adb_world.specs.declared.parts.Parts.{Parts}
use Rattle.adb_world.specs.declared.session.Session.{Session}
use Rattle.adb_world.proofs.Answered.{all_read, few_births, has_opened}
use Rattle.adb_world.proofs.Counted.{IsThere, RequestsOpen, asks_as_written, there}
use Rattle.adb_world.proofs.Devices.{devices_of}
use Rattle.adb_world.proofs.Ended.{IsIdleState, idle_state}
use Rattle.adb_world.proofs.Entries.{all_owed}
use Rattle.adb_world.proofs.Going.{AllStay}
use Rattle.adb_world.proofs.Greeted.{stays_greeted}
use Rattle.adb_world.proofs.OneStream.{HasAskedForIt, asked_born, asked_of_birth, born_behind}
use Rattle.adb_world.proofs.Rest.{Laws, at_rest}
use Rattle.adb_world.proofs.SentAll.{all_bytes, all_sent}

-- ---- sessions enter by no forward
sessions_join : (h : History) → IsOfSessions h → NoneEnters h
sessions_join [] sessions = tt
sessions_join (Read c bytes ∷ older) sessions = sessions_join older sessions.0
sessions_join (Join c ∷ older) sessions = sessions_join older sessions
sessions_join (End c Eof ∷ older) sessions = sessions_join older sessions.0
sessions_join (Attach t kind serial ∷ older) sessions = sessions_join older sessions
sessions_join (Recv t bytes ∷ older) sessions = sessions_join older sessions
sessions_join (Put c bytes ∷ older) sessions = sessions_join older sessions
sessions_join (Send t bytes ∷ older) sessions = sessions_join older sessions
sessions_join (_ ∷ older) sessions = absurd sessions

-- ---- what sessions pay
abbrev session_pays : Session → ℕ
session_pays session = 155 + 2 * length session.service + 54 * length (text_of session) + 54 * length session.got

abbrev paid_at : Option Session → ℕ
paid_at None = 0
paid_at (Some session) = session_pays session

abbrev all_pay : List (ℕ × Session) → ℕ
all_pay [] = 0
all_pay (e ∷ entries) = session_pays e.1 + all_pay entries

-- by their numbers no more than all together
by_number : (entries : List (ℕ × Session)) (n : ℕ) → sum_to (λ c. paid_at (at c entries)) n ≤ all_pay entries
by_number [] n = let none = sum_none (λ c. paid_at (at c [])) n (λ k. refl) in omega (arith, none)
by_number (e ∷ entries) n =
    let below = by_number entries n in
    let here : paid_at (at e.0 (e ∷ entries)) ≤ paid_at (at e.0 entries) + session_pays e.1 =
    (let is = ap paid_at (at_head e entries) in omega (arith, is)) in
    let more = sum_more (λ c. paid_at (at c entries)) (λ c. paid_at (at c (e ∷ entries))) e.0 (session_pays e.1) n
    (λ k other. ap paid_at (at_tail k e entries other)) here in
    omega (arith, below, more)

all_within : (entries : List (ℕ × Session)) → all_pay entries ≤ 64 * bytes_of_all entries + 1024 * length entries
all_within [] = omega arith
all_within (e ∷ entries) = let below = all_within entries in omega (arith, below)

-- ---- what a client asked to open
abbrev link_in : Option Next → ℕ
link_in (Some (Open t service)) = t
link_in _ = 0

abbrev service_in : Option Next → List ℕ
service_in (Some (Open t service)) = service
service_in _ = []

length_requests : (service : List ℕ) → length (requests_for service) ≡ 30 + length service
length_requests service =
    let first : length (requests_for service) ≡ 26 + length (hex_digits (length service) ++ service) =
    length-append selects (hex_digits (length service) ++ service) in
    let second = length-append (hex_digits (length service)) service in
    let digits : length (hex_digits (length service)) ≡ 4 = refl in
    omega (arith, first, second, digits)

pub record StepLaws : Type 0 where
  pub rest : Laws
  pub stays : AllStay
  pub asks : (h : History) → IsLegal h → IsOfSessions h → AsksForServices h
  pub sound : (parts : Parts) (runs : IsRunning parts) → BringsSound runs.history
  pub requests : RequestsOpen
  pub put : (setting : Setting) (history : History) → setting.most < 2 ^ 32 → 0 < setting.most → setting.credit ≡ false → IsLegal history
      → IsJoined setting history → HasOneDevice history → WritesWerePut setting history
  pub pay : (setting : Setting) (before more : History) → Settles setting before more → ClientsPay before more
  pub move : (before more : History) → AreSteps before more → length more ≤ moved more

module _ (laws : StepLaws) (old new : Parts) (ease : IsAtEase old) (goes : GoesOn old new) (rests : Rests new) where
  abbrev h : History
  h = ease.runs.history

  abbrev more : History
  more = (goes.grows ease.runs.history ease.runs.holds).more

  abbrev now : History
  now = (goes.grows ease.runs.history ease.runs.holds).more ++ ease.runs.history

  holds : Holds h old
  holds = ease.runs.holds

  holds_now : Holds now new
  holds_now = (goes.grows ease.runs.history ease.runs.holds).holds

  steps : AreSteps h more
  steps = (goes.grows ease.runs.history ease.runs.holds).moves

  legal : IsLegal h
  legal = holds.lawful.legal

  legal_now : IsLegal now
  legal_now = holds_now.lawful.legal

  asks : AsksForServices h
  asks = laws.asks h legal holds.asks

  asks_now : AsksForServices now
  asks_now = laws.asks now legal_now holds_now.asks

  none_now : NoneEnters now
  none_now = sessions_join now holds_now.asks

  greeted_now : IsGreeted now
  greeted_now = go more
    where
      go : (es : History) → IsGreeted (es ++ h)
      go [] = ease.runs.greeted
      go (e ∷ es) = stays_greeted e (es ++ h) ((laws.stays e (es ++ h)).brings 1) (go es)

  at_rest_now : worlds.IsAtRest model_setting now
  at_rest_now = at_rest laws.rest now new holds_now greeted_now asks_now rests (asks_as_written laws.requests)

  -- ---- sessions
  written_now : (c : ℕ) (session : Session) → at c new.sessions.entries ≡ Some session → IsTold now c session × (left_of session ≡ [])
  written_now c session is =
      let kept : IsKeptAt new.given now c (Some session) = subst (IsKeptAt new.given now c) is (holds_now.sessions c) in
      (kept.1, rests.written c session kept.0.0 is)

  came : came_count now ≡ came_count h
  came = holds_now.came ∙ (goes.given ∙ sym holds.came)

  -- a client whose input had not ended is that of a session
  there_now : (c : ℕ) → 0 < c → c ≤ came_count now → has_ended c h ≡ false → IsThere now new c
  there_now c some le open_yet = go (there now new holds_now c some (let all = holds_now.came in omega (arith, le, all)))
    where
      go : IsThere now new c ⊎ IsOver new.given now c → IsThere now new c
      go (inl t) = t
      go (inr over) =
          absurd (let clash : true ≡ false = sym over.ended ∙ (ended_same h c more steps ∙ open_yet) in cc)

  -- ---- streams
  born_before : (l : ℕ) (b : Birth) → born l now ≡ Some b → is_some (asked b.client h).next ≡ true → l ≤ (state h).drawn
  born_before l b is done =
      let x = asked_born laws.requests h asks b.client done in
      let was = born_as h x.1.place x.1.birth x.1.is (few_births h old holds asks) in
      let same : l ≡ suc x.1.place =
      one_stream_each now legal_now l (suc x.1.place) b x.1.birth is (born_behind (suc x.1.place) x.1.birth more h was) (sym x.1.client) in
      let within = (born_within (suc x.1.place) h x.1.birth was).1 in
      let drawn = (all_births h legal).drawn in
      omega (arith, same, within, drawn)

  fresh : (l : ℕ) (b : Birth) → born l now ≡ Some b → (state h).drawn < l → has_ended b.client h ≡ false
  fresh l b is past =
      go (there h old holds b.client by.some
      (let le = by.came in let same = came in let all = holds.came in omega (arith, le, same, all)))
    where
      by : HasAskedForIt now b
      by = asked_of_birth now legal_now holds_now.asks asks_now l b is

      go : IsThere h old b.client ⊎ IsOver old.given h b.client → has_ended b.client h ≡ false
      go (inl t) = t.told.alive
      go (inr over) = absurd (let le = born_before l b is (asks.ended b.client over.ended) in omega (arith, le, past))

  idle : IsIdleState (state h)
  idle = idle_state h old.hub _ _ ease.runs.holds.lawful ease.calm

  live : (l : ℕ) (x : Stream) → (state h).streams l ≡ Some x → has_ended x.client h ≡ false
  live l x is = go (there h old holds kept_birth.client by.some (let le = by.came in let all = holds.came in omega (arith, le, all)))
    where
      kept_birth : Birth
      kept_birth = ((all_births h legal).kept l x is).birth

      of_client : x.client ≡ kept_birth.client
      of_client = ((all_births h legal).kept l x is).client

      by : HasAskedForIt h kept_birth
      by = asked_of_birth h legal holds.asks asks l kept_birth ((all_births h legal).kept l x is).is

      owned : (o : Bool) → HasOwner o (state h) l x → (client : Client) × ((state h).clients x.client ≡ Some client)
      owned false owner = (owner.client, owner.is)
      owned true owner = absurd ((idle.streams l x is).opened owner.0)

      go : IsThere h old kept_birth.client ⊎ IsOver old.given h kept_birth.client → has_ended x.client h ≡ false
      go (inl t) = ap (λ (c : ℕ). has_ended c h) of_client ∙ t.told.alive
      go (inr over) =
          let owner = owned x.part.orphan ((orderly h legal).stream l x is).owner in
          absurd (let clash : None ≡ Some owner.0 =
          sym over.gone ∙ (ap (state h).clients (sym of_client) ∙ owner.1) in cc)

  -- what its device wrote to the stream of a client whose input had not ended was put
  put : (l : ℕ) (b : Birth) → born l now ≡ Some b → has_ended b.client h ≡ false
      → writes_to l (packets_owed model_setting (sent 1 now)) ≤ length (bytes_put b.client now)
  put l b is open_yet =
      let by = asked_of_birth now legal_now holds_now.asks asks_now l b is in
      let t = there_now b.client by.some by.came open_yet in
      let w = written_now b.client t.session t.is in
      let q = has_opened now b.client t.session w.0 w.1 laws.requests (asks_now.clients b.client) in
      let a = asked_for now (all_asked_for now legal_now none_now) l b is in
      let link : b.link ≡ 1 = ap link_in (sym a.next ∙ q.next) in
      let service : b.service ≡ t.session.service = ap service_in (sym a.next ∙ q.next) in
      laws.put model_setting now (omega arith) (omega arith) refl legal_now holds_now.joined (let one = holds_now.one in omega (arith, one))
      at_rest_now holds_now.here asks_now.killed (few_births now new holds_now asks_now) none_now l b is link
      (ap (λ (x : List ℕ). is_some (service_of x)) service ∙ w.0.known.known)
      (ended_same h b.client more steps ∙ open_yet)

  -- ---- the link
  known : (state h).devices ≡ model_devices
  known = (all_books h legal).devices ∙ devices_of old ease.runs (laws.sound old ease.runs) (laws.asks h legal holds.asks) h holds

  taken : (g : History) (parts : Parts) → Holds g parts → owed parts.device ≡ []
      → bytes_received 1 g ≡ bytes_owed model_setting (bytes_sent 1 g)
  taken g parts held none =
      sym (append-nil (bytes_received 1 g))
      ∙ (ap (λ (due : List ℕ). bytes_received 1 g ++ due) (sym none)
      ∙ all_owed (bytes_sent 1 g) (bytes_received 1 g) parts.device held.done)

  settles : Settles model_setting h more
  settles = record {
    short = omega arith;
    legal = legal_now;
    joined = holds_now.joined;
    one = (let one = holds.one in omega (arith, one));
    here = holds.here;
    none = none_now;
    steps = steps;
    due_before = sym (all_bytes h old.hub ease.runs.holds.lawful known ease.calm.link);
    sent_before = all_sent h old.hub ease.runs.holds.lawful known ease.calm.link;
    sent_now = at_rest_now.still.sent_all;
    taken_before = taken h old holds ease.calm.device;
    taken_now = taken now new holds_now rests.up;
    live = live;
    fresh = fresh;
    put = put;
  }

  -- ---- clients
  session_paid : (c : ℕ) (session : Session) → at c new.sessions.entries ≡ Some session → pays c now ≤ session_pays session
  session_paid c session is =
      let w = written_now c session is in
      let q = has_opened now c session w.0 w.1 laws.requests (asks_now.clients c) in
      let read = ap (length {A = ℕ}) (all_read now c session w.0 w.1) in
      let words : length session.words ≡ length (requests_for session.service) + length (text_of session) =
      ap length w.0.words ∙ length-append (requests_for session.service) (text_of session) in
      let requests = length_requests session.service in
      let got = ap (length {A = ℕ}) w.0.put in
      let stream = ap (λ (o : Option Next). stream_pays o (asked c now).used (length (bytes_read c now))) q.next in
      let used = q.used in
      omega (arith, read, words, requests, got, stream, used)

  client_paid : (c : ℕ) → 0 < c → c ≤ came_count h → of_here h c (pays c now) ≤ paid_at (at c new.sessions.entries)
  client_paid c some le = go (has_ended c h) refl
    where
      go : (b : Bool) → has_ended c h ≡ b → cond b 0 (pays c now) ≤ paid_at (at c new.sessions.entries)
      go true ended = omega arith
      go false open_yet =
          let t = there_now c some (let same = came in omega (arith, le, same)) open_yet in
          let here = ap paid_at t.is in
          let paid = session_paid c t.session t.is in
          omega (arith, here, paid)

  few : length more ≤ most_steps new.sessions.entries
  few =
      let moves = laws.move h more steps in
      let pay = laws.pay model_setting h more settles in
      let clients = sum_within (λ c. of_here h c (pays c now)) (λ c. paid_at (at c new.sessions.entries)) (came_count h)
      (λ c some le. client_paid c some le) in
      let numbers = by_number new.sessions.entries (came_count h) in
      let all = all_within new.sessions.entries in
      omega (arith, moves, pay, clients, numbers, all)

  few_steps : goes.steps ≤ most_steps new.sessions.entries
  few_steps =
      let all = few in
      let count = (goes.grows ease.runs.history ease.runs.holds).counted in
      omega (arith, all, count)

pub makes_few_steps : StepLaws → (old new : Parts) → IsAtEase old → (n : ℕ) → HasMade n old new → Rests new
    → n ≤ most_steps new.sessions.entries
makes_few_steps laws old new ease n made rests =
    let few = few_steps laws old new ease made.goes rests in
    let count = made.counted in
    omega (arith, few, count)
