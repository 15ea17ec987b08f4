-- Where no step is possible, each session was answered.
use Rattle.std.specs.Prelude.{ℕ, ◌+◌, ◌^◌, ◌≡◌, ◌≤◌, ◌<◌, Bool, true, false, if◌then◌else◌, is_some, zero, suc, List, [], ◌++◌, length}
use Rattle.std.specs.Prelude.{take, drop, codes, Some}
use Rattle.std.proofs.Common.{refl, sym, ◌∙◌, ap, subst, arith, ◌⊎◌, inl, inr}
use Rattle.std.proofs.lemmas.Bool.{cases_lt}
use Rattle.std.proofs.lemmas.List.{append-nil, take-append-drop, length-append}
use Rattle.adb_history.specs.Asking.{Asked, nothing_asked, asks_with}
use Rattle.adb_history.specs.Births.{births}
use Rattle.adb_history.specs.Book.{asked}
use Rattle.adb_history.specs.Bytes.{bytes_put, bytes_read, sent}
use Rattle.adb_history.specs.Machine.{History, IsLegal}
use Rattle.adb_history.specs.Streams.{stream_ids}
use Rattle.adb_history.specs.Tied.{came_count}
use Rattle.adb_daemon.specs.Device.{Setting, device_behind}
use Rattle.adb_daemon.specs.Serving.{Serving}
use Rattle.adb_laws_model_device.specs.Joined.{IsJoined}
use Rattle.adb_laws_worlds.specs.Credit.{HasOneDevice}
use Rattle.adb_laws_answers.specs.Answers as answers
use Rattle.adb_laws_answers.specs.Answers.{ClientsAreAnswered}
use Rattle.adb_laws_answers.specs.Words.{requests_for, words_of}
use Rattle.adb_laws_answers.specs.Model.{model_devices, model_setting}
use Rattle.adb_laws_answers.specs.Asked.{Opens, HasOpened}
use Rattle.adb_laws_answers.specs.Sessions.{HasAsked, AsksForServices, done_among}
use Rattle.adb_world.specs.Answered.{IsAnswered}
use Rattle.adb_world.specs.Parts.{Holds, IsGreeted, IsKeptAt}
use Rattle.adb_world.specs.Session.{IsTold, left_of, text_of}
use Rattle.adb_world.specs.Settled.{Each, Rests}
use Rattle.adb_world.specs.declared.parts.Parts.{Parts}
use Rattle.adb_world.specs.declared.session.Session.{Session}
use Rattle.adb_world.proofs.Counted.{RequestsOpen, asks_as_written}
use Rattle.adb_world.proofs.Rest.{Laws, at_rest, one_device}

-- no more clients are done than came
pub few_done : (what : ℕ → Asked) (k : ℕ) → done_among what k ≤ k
few_done what zero = omega arith
few_done what (suc k) = go (is_some (what (suc k)).next) (few_done what k)
  where
    go : (b : Bool) → done_among what k ≤ k → (if b then 1 else 0) + done_among what k ≤ suc k
    go true few = omega (arith, few)
    go false few = omega (arith, few)

pub few_births : (h : History) (parts : Parts) → Holds h parts → AsksForServices h → length (births h) ≤ stream_ids
few_births h parts holds asks =
    let born = asks.births in
    let few = few_done (λ (c : ℕ). asked c h) (came_count h) in
    let came = holds.came in
    let given = holds.few in
    omega (arith, born, few, came, given)

-- ---- a session that wrote all its words
module _ (h : History) (c : ℕ) (session : Session) (told : IsTold h c session) (none : left_of session ≡ []) where
  pub all_read : bytes_read c h ≡ session.words
  all_read =
      told.read
      ∙ (sym (append-nil (take session.written session.words))
      ∙ (ap (λ (x : List ℕ). take session.written session.words ++ x) (sym none) ∙ take-append-drop session.written session.words))

  -- asked for its service
  pub has_opened : RequestsOpen → HasAsked (bytes_read c h) (asked c h) → HasOpened session.service (asked c h)
  has_opened requests asks = go (cases_lt (length asks.front) (length (requests_for session.service)))
    where
      whole : bytes_read c h ≡ words_of session.service (text_of session)
      whole = all_read ∙ told.words

      opens : Opens session.service asks.front (asks_with model_devices [] asks.front nothing_asked)
      opens = requests session.service (text_of session) asks.front told.known (asks.first.0, asks.first.1 ∙ whole)

      go : (length asks.front < length (requests_for session.service)) ⊎ (length (requests_for session.service) ≤ length asks.front)
          → HasOpened session.service (asked c h)
      go (inr le) = subst (HasOpened session.service) (sym asks.asked) (opens.opened le)
      go (inl less) =
          let all : asks.front ≡ words_of session.service (text_of session) =
          asks.all (ap (λ (q : Asked). q.next) asks.asked ∙ opens.asks less) ∙ whole in
          let long : length asks.front ≡ length (requests_for session.service) + length (text_of session) =
          ap length all ∙ length-append (requests_for session.service) (text_of session) in
          absurd (omega (arith, less, long))

-- what holds of the clients of a server and its model device
abbrev pub AreAnswered : Type 0
AreAnswered = (setting : Setting) (history : History) → setting.most < 2 ^ 32 → 0 < setting.most → setting.credit ≡ false → IsLegal history
    → IsJoined setting history → HasOneDevice history → ClientsAreAnswered setting history

-- what the device serves
abbrev pub served_by : History → Serving
served_by h = (device_behind model_setting (sent 1 h)).serving

-- the client of a session was answered
abbrev pub IsToldAnswer : History → ℕ → Session → Type 0
IsToldAnswer h c session = answers.IsAnswered (served_by h) h c session.service (text_of session) (codes "OKAYOKAY") session.got

as_answered : (h : History) (c : ℕ) (session : Session) → IsToldAnswer h c session → IsAnswered session
as_answered h c session a =
    record { kind = a.row.kind; asked = a.asked; first = a.row.first; past = a.row.past; came = a.came; got = a.put_as }

module _ (laws : Laws) (h : History) (parts : Parts) (holds : Holds h parts) (greeted : IsGreeted h)
    (asks : AsksForServices h) (rests : Rests parts)
    (requests : RequestsOpen) (answered : AreAnswered) where
  -- what the client of a session was answered
  pub told_answer : (c : ℕ) (session : Session) → IsKeptAt parts.given h c (Some session) → left_of session ≡ [] → IsToldAnswer h c session
  told_answer c session kept none =
      let told = kept.1 in
      let q : HasOpened session.service (asked c h) = has_opened h c session told none requests (asks.clients c) in
      let one : answers.IsAnswered (served_by h) h c session.service (drop (asked c h).used (bytes_read c h))
      ((asked c h).replies ++ codes "OKAY")
      (bytes_put c h) =
      answered model_setting h (omega arith) (omega arith) refl holds.lawful.legal holds.joined
      (one_device laws h parts holds greeted asks rests (asks_as_written requests))
      (at_rest laws h parts holds greeted asks rests (asks_as_written requests)) holds.here asks.killed
      (few_births h parts holds asks) c session.service
      (record { next = q.next; known = told.known.known; here = told.alive }) in
      let text : drop (asked c h).used (bytes_read c h) ≡ text_of session =
      ap (λ (n : ℕ). drop n (bytes_read c h)) q.used ∙ ap (drop (length (requests_for session.service))) (all_read h c session told none) in
      let before : (asked c h).replies ++ codes "OKAY" ≡ codes "OKAYOKAY" = ap (λ (x : List ℕ). x ++ codes "OKAY") q.replies in
      subst (λ (x : List ℕ). answers.IsAnswered (served_by h) h c session.service (text_of session) (codes "OKAYOKAY") x) told.put
      (subst (λ (x : List ℕ). answers.IsAnswered (served_by h) h c session.service (text_of session) x (bytes_put c h)) before
      (subst (λ (x : List ℕ).
      answers.IsAnswered (served_by h) h c session.service x ((asked c h).replies ++ codes "OKAY") (bytes_put c h)) text one))

  pub all_answered : Each parts.sessions.entries IsAnswered
  all_answered c session is =
      let kept : IsKeptAt parts.given h c (Some session) = subst (IsKeptAt parts.given h c) is (holds.sessions c) in
      as_answered h c session (told_answer c session kept (rests.written c session kept.0.0 is))
