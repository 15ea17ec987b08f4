-- As many clients and streams were drawn as sessions were given.
use Rattle.std.specs.Prelude.{ℕ, ◌+◌, ◌≡◌, ◌≤◌, ◌<◌, Bool, true, false, if◌then◌else◌, is_some, zero, suc, List, [], ◌++◌, length, take}
use Rattle.std.specs.Prelude.{Option, Some, None}
use Rattle.std.proofs.Common.{refl, sym, ◌∙◌, ap, arith, ◌⊎◌, inl, inr}
use Rattle.std.proofs.lemmas.List.{append-nil, take-append-drop, length-append}
use Rattle.adb_outside.specs.Bytes.{IsPrefixOf}
use Rattle.adb_outside.specs.Tables.{at}
use Rattle.adb_reply.specs.declared.answer.Next.{Next}
use Rattle.adb_reply.specs.declared.answer.Next.TheVariants.{Open}
use Rattle.adb_history.specs.Asking.{Asked, nothing_asked, asks_with}
use Rattle.adb_history.specs.Book.{asked}
use Rattle.adb_history.specs.Births.{births}
use Rattle.adb_history.specs.Bytes.{bytes_read}
use Rattle.adb_history.specs.Kept.{Kept}
use Rattle.adb_history.specs.Machine.{History, state, IsLegal}
use Rattle.adb_history.proofs.Numbers.{counted}
use Rattle.adb_laws_births.proofs.Born.{all_born}
use Rattle.adb_laws_answers.specs.Words.{IsKnown, requests_for, words_of}
use Rattle.adb_laws_answers.specs.Model.{model_devices}
use Rattle.adb_laws_answers.specs.Asked.{Opens}
use Rattle.adb_laws_answers.specs.Sessions.{HasAsked, AsksForServices, done_among}
use Rattle.adb_world.specs.Parts.{Holds, IsKeptAt, IsOver}
use Rattle.adb_world.specs.Session.{IsTold, left_of, text_of}
use Rattle.adb_world.specs.Settled.{Each, IsCounted}
use Rattle.adb_world.specs.World.{view_of}
use Rattle.adb_world.specs.declared.parts.Parts.{Parts}
use Rattle.adb_world.specs.declared.session.Session.{Session}

abbrev pub one_when : Bool → ℕ
one_when b = if b then 1 else 0

all_done : (what : ℕ → Asked) (k : ℕ) → ((c : ℕ) → 0 < c → c ≤ k → is_some (what c).next ≡ true) → done_among what k ≡ k
all_done what zero done = refl
all_done what (suc k) done =
    let here : one_when (is_some (what (suc k)).next) ≡ 1 = ap one_when (done (suc k) (omega arith) (omega arith)) in
    let rest = all_done what k (λ c some le. done c some (omega (arith, le))) in
    omega (arith, here, rest)

-- what a server asked that reads the words of a session
abbrev pub AsksAsWritten : Type 0
AsksAsWritten = (h : History) → IsLegal h → (c : ℕ) (session : Session) → HasAsked (bytes_read c h) (asked c h)
    → IsTold h c session → left_of session ≡ [] → is_some (asked c h).next ≡ true

-- what the requests of a session open
abbrev pub RequestsOpen : Type 0
RequestsOpen = (service text front : List ℕ) → IsKnown service → IsPrefixOf front (words_of service text)
    → Opens service front (asks_with model_devices [] front nothing_asked)

-- A session that wrote all its words asked for its service.
pub asks_as_written : RequestsOpen → AsksAsWritten
asks_as_written opens h legal c session asks told none = go (asked c h).next refl
  where
    all : bytes_read c h ≡ words_of session.service (text_of session)
    all =
        told.read
        ∙ (sym (append-nil (take session.written session.words))
        ∙ (ap (λ (x : List ℕ). take session.written session.words ++ x) (sym none)
        ∙ (take-append-drop session.written session.words ∙ told.words)))

    go : (o : Option Next) → (asked c h).next ≡ o → is_some (asked c h).next ≡ true
    go (Some next) is = ap is_some is
    go None is =
        let whole : asks.front ≡ words_of session.service (text_of session) = asks.all is ∙ all in
        let long : length asks.front ≡ length (requests_for session.service) + length (text_of session) =
        ap length whole ∙ length-append (requests_for session.service) (text_of session) in
        let done = (opens session.service (text_of session) asks.front told.known
        ([], append-nil asks.front ∙ whole)).opened (omega (arith, long)) in
        let clash : None ≡ Some (Open 1 session.service) = sym is ∙ (ap (λ (q : Asked). q.next) asks.asked ∙ done.next) in cc

-- The session of a number is kept.
pub record IsThere (h : History) (parts : Parts) (c : ℕ) : Type 0 where
  pub session : Session
  pub is : at c parts.sessions.entries ≡ Some session
  pub told : IsTold h c session

-- the client of a number that was drawn is that of a session, or is over
pub there : (h : History) (parts : Parts) → Holds h parts → (c : ℕ) → 0 < c → c ≤ parts.given → IsThere h parts c ⊎ IsOver parts.given h c
there h parts holds c some le = go (at c parts.sessions.entries) refl (holds.sessions c)
  where
    go : (o : Option Session) → at c parts.sessions.entries ≡ o → IsKeptAt parts.given h c o → IsThere h parts c ⊎ IsOver parts.given h c
    go None is (inl (inl zeroth)) = absurd (omega (arith, zeroth, some))
    go None is (inl (inr past)) = absurd (omega (arith, past, le))
    go None is (inr over) = inr over
    go (Some session) is k = inl (record { session = session; is = is; told = k.1 })

module _ (h : History) (parts : Parts) (holds : Holds h parts) (asks : AsksForServices h)
    (words : Each parts.sessions.entries (λ (session : Session). left_of session ≡ [])) (written : AsksAsWritten) where
  -- each session asked for its service
  pub session_done : (c : ℕ) → 0 < c → c ≤ parts.given → is_some (asked c h).next ≡ true
  session_done c some le = go (there h parts holds c some le)
    where
      go : IsThere h parts c ⊎ IsOver parts.given h c → is_some (asked c h).next ≡ true
      go (inl t) = written h holds.lawful.legal c t.session (asks.clients c) t.told (words c t.session t.is)
      go (inr over) = asks.ended c over.ended

  pub is_counted : IsCounted (view_of parts false true)
  is_counted = record {
    clients = ap (λ (k : Kept). k.joined) holds.lawful.seen ∙ ((counted h).joined ∙ holds.came);
    streams = ap (λ (k : Kept). k.streams.drawn) holds.lawful.seen ∙ drawn;
  }
    where
      born_all : length (births h) ≡ parts.given
      born_all =
          asks.births
          ∙ (ap (done_among (λ (c : ℕ). asked c h)) holds.came ∙ all_done (λ (c : ℕ). asked c h) parts.given session_done)

      drawn : (state h).drawn ≡ parts.given
      drawn =
          let all = (all_born h holds.lawful.legal).drawn in
          let few = holds.few in
          let born = born_all in
          omega (arith, all, few, born)
