-- A world in which nothing can move, and in which nothing is left to be moved.
use Rattle.std.specs.Prelude.{ℕ, ◌≡◌, ◌≢◌, ◌<◌, ◌≤◌, ◌⊎◌, Bool, true, false, List, [], ◌∷◌, ◌++◌, length, Some}
use Rattle.adb_outside.specs.Tables.{at}
use Rattle.adb_outside.specs.declared.kinds.Cause.TheVariants.{Eof}
use Rattle.adb_capture.specs.declared.entry.Entry.TheVariants.{End as Ends}
use Rattle.adb_stream.specs.declared.row.Stream.{Stream}
use Rattle.adb_stream.specs.Flow.{is_idle, to_hand}
use Rattle.adb_history.specs.Rows.{Client, Link}
use Rattle.adb_history.specs.Kept.{Kept, IsLawful}
use Rattle.adb_history.specs.Machine.{History, state}
use Rattle.adb_hub.specs.Answers.{due_on, offered_to}
use Rattle.adb_daemon.specs.Daemon.{owed}
use Rattle.adb_laws_steps.specs.Moved.{AreSteps}
use Rattle.adb_world.specs.Session.{left_of}
use Rattle.adb_world.specs.Calls.{HasNone}
use Rattle.adb_world.specs.Parts.{Holds, IsRunning, AreSame, Drops}
use Rattle.adb_world.specs.World.{End, View, ends_of}
use Rattle.adb_world.specs.declared.session.Session.{Session}
use Rattle.adb_world.specs.declared.parts.Parts.{Parts}

-- what holds of each row of a table
abbrev pub Each : {X : Type 0} → List (ℕ × X) → (X → Type 0) → Type 0
Each {X} table P = (n : ℕ) (row : X) → at n table ≡ Some row → P row

-- a live stream of the hub is open and has its end at the device; at both ends no write is outstanding, nothing
-- accepted is still to be handed to the client,
-- and nothing that the service answered is still to be written
pub record IsAtRest (ends : List (ℕ × End)) (stream : Stream) : Type 0 where
  pub opened : stream.part.remote ≢ 0
  pub answered : is_idle stream.part.flow ≡ true
  pub handed : to_hand stream.part.flow ≡ 0
  pub far : End
  pub there : at stream.part.remote ends ≡ Some far
  pub host : far.host ≡ stream.id
  pub spoken : far.idle ≡ true
  pub written : far.left ≡ []

-- Nothing is due on the link or to a client, and the device owes nothing; each live stream is at rest at both ends;
-- and nothing is held of a client, to be
-- sent up.
pub record IsCalm (hub : Kept) (owes : List ℕ) (ends : List (ℕ × End)) : Type 0 where
  pub link : Each hub.links (λ (link : Link). link.due ≡ [])
  pub clients : Each hub.clients (λ (client : Client). client.due ≡ [])
  pub device : owes ≡ []
  pub up : Each hub.clients (λ (client : Client). client.held ≡ [])
  pub streams : Each hub.streams.streams (IsAtRest ends)

-- Nothing is on its way, and each session has written all its words.
pub record IsSettled (world : View) : Type 0 where
  pub calm : IsCalm world.hub world.owed world.ends
  pub words : Each world.sessions (λ (session : Session). left_of session ≡ [])

-- the hub drew as many clients, and as many streams, as sessions were given
pub record IsCounted (world : View) : Type 0 where
  pub clients : world.hub.joined ≡ world.given
  pub streams : world.hub.streams.drawn ≡ world.given

-- ---- between the calls of a world
-- Parts run, and nothing is on its way.
pub record IsAtEase (parts : Parts) : Type 0 where
  pub runs : IsRunning parts
  pub calm : IsCalm parts.hub (owed parts.device) (ends_of parts.device)

-- Parts run, nothing is on its way, and each session has written all its words.
pub record IsDone (parts : Parts) : Type 0 where
  pub ease : IsAtEase parts
  pub words : Each parts.sessions.entries (λ (session : Session). left_of session ≡ [])

-- each session has written all its words, or nothing
abbrev pub AreWhole : List (ℕ × Session) → Type 0
AreWhole sessions = Each sessions (λ (session : Session). (left_of session ≡ []) ⊎ (session.written ≡ 0))

-- A world that is not spent runs and is calm, and each session has written all its words or nothing. Where it has settled all is written.
abbrev pub IsSound : (spent settled : Bool) → Parts → Type 0
IsSound true settled parts = Unit {0}
IsSound false true parts = IsDone parts
IsSound false false parts = IsAtEase parts × AreWhole parts.sessions.entries

-- ---- where no step is possible
-- nothing is due on the link
abbrev pub NoneDown : Parts → Type 0
NoneDown parts = (h : History) → Holds h parts → HasNone (due_on ((state h).links 1))

-- the device owes nothing
abbrev pub NoneUp : Parts → Type 0
NoneUp parts = owed parts.device ≡ []

-- nothing is due to the sessions behind a number
abbrev pub NoneHanded : ℕ → Parts → Type 0
NoneHanded after parts = (h : History) → Holds h parts → (c : ℕ) (session : Session) → after < c
    → at c parts.sessions.entries ≡ Some session
    → HasNone (offered_to (state h).devices ((state h).clients c))

-- something is due to the session of a number
abbrev pub IsOwed : ℕ → Parts → Type 0
IsOwed number parts = (h : History) → Holds h parts → HasNone (offered_to (state h).devices ((state h).clients number)) → ⊥

-- they have written all their words
abbrev pub NoneWritten : ℕ → Parts → Type 0
NoneWritten after parts = (c : ℕ) (session : Session) → after < c → at c parts.sessions.entries ≡ Some session → left_of session ≡ []

-- the sessions up to a number have written all their words
abbrev pub HaveWritten : ℕ → Parts → Type 0
HaveWritten wrote parts = (c : ℕ) (session : Session) → 0 < c → c ≤ wrote → at c parts.sessions.entries ≡ Some session
    → left_of session ≡ []

-- no step is possible
pub record Rests (parts : Parts) : Type 0 where
  pub down : NoneDown parts
  pub up : NoneUp parts
  pub handed : NoneHanded 0 parts
  pub written : NoneWritten 0 parts

-- The parts hold a history that goes on behind another, by so many steps.
pub record GrowsFrom (steps : ℕ) (h : History) (new : Parts) : Type 0 where
  pub more : History
  pub moves : AreSteps h more
  pub counted : length more ≡ steps
  pub holds : Holds (more ++ h) new

-- The parts go on running, with the same sessions; so many steps were made.
pub record GoesOn (old new : Parts) : Type 0 where
  pub runs : IsRunning new
  pub steps : ℕ
  pub grows : (h : History) → Holds h old → GrowsFrom steps h new
  pub same : AreSame old.sessions.entries new.sessions.entries
  pub given : new.given ≡ old.given

-- So many steps were made.
pub record HasMade (n : ℕ) (old new : Parts) : Type 0 where
  pub goes : GoesOn old new
  pub counted : goes.steps ≡ n

-- A hub holds a history that goes on, by so many moves, behind one that it held before.
pub record HasMoved (steps : ℕ) (old new : Kept) : Type 0 where
  pub before : History
  pub held : IsLawful old before
  pub more : History
  pub moves : AreSteps before more
  pub counted : length more ≡ steps
  pub holds : IsLawful new (more ++ before)

-- A step was made; or none of its kind was possible, and nothing has changed.
abbrev pub Goes : (Parts → Type 0) → Bool → Parts → Parts → Type 0
Goes Nothing true old new = HasMade 1 old new
Goes Nothing false old new = (new ≡ old) × Nothing old

-- where nothing more is said of the steps that were not possible
abbrev pub Anything : Parts → Type 0
Anything parts = Unit {0}

-- ---- a session ends
-- The client of a session ended, the session was dropped, and all settled.
pub record HasEnded (number : ℕ) (old mid new : Parts) : Type 0 where
  pub dropped : Drops number old mid
  pub ends : (h : History) → Holds h old → Holds (Ends number Eof ∷ h) mid
  pub goes : GoesOn mid new
  pub done : IsDone new
