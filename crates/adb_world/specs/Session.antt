-- Sessions: what they have still to write, and how they change.
use Rattle.std.specs.Prelude.{ℕ, ◌+◌, ◌≡◌, ◌≤◌, false, List, [], ◌++◌, length, take, drop, option_map}
use Rattle.adb_outside.specs.Tables.{at, Puts}
use Rattle.adb_history.specs.Machine.{History}
use Rattle.adb_history.specs.Bytes.{bytes_read, bytes_put, has_ended}
use Rattle.adb_laws_answers.specs.Words.{IsKnown, requests_for, words_of}
use Rattle.adb_world.specs.declared.session.Session.{Session}

-- what it has not written yet, and the text that it writes behind its requests
abbrev pub left_of : Session → List ℕ
left_of session = drop session.written session.words

abbrev pub text_of : Session → List ℕ
text_of session = drop (length (requests_for session.service)) session.words

-- a session that has written nothing
abbrev pub new_session : List ℕ → List ℕ → Session
new_session service text = record { service = service; words = words_of service text; written = 0; got = [] }

-- it was handed some bytes, and it wrote so many more
abbrev pub handed : List ℕ → Session → Session
handed piece session = record session { got = session.got ++ piece }

abbrev pub wrote : ℕ → Session → Session
wrote n session = record session { written = session.written + n }

-- The session at a number changes, where there is one, and no other does.
abbrev pub Changes : ℕ → (Session → Session) → List (ℕ × Session) → List (ℕ × Session) → Type 0
Changes number change old new = Puts number (option_map change (at number old)) old new

-- A session of a client wrote a front of its words, which are those of its service and its text, and keeps what was
-- put to that client, which did not end.
pub record IsTold (h : History) (c : ℕ) (session : Session) : Type 0 where
  pub known : IsKnown session.service
  pub words : session.words ≡ words_of session.service (text_of session)
  pub within : session.written ≤ length session.words
  pub read : bytes_read c h ≡ take session.written session.words
  pub put : bytes_put c h ≡ session.got
  pub alive : has_ended c h ≡ false

-- A session that has written nothing, of a known service and any text.
pub record IsNew (session : Session) : Type 0 where
  pub text : List ℕ
  pub known : IsKnown session.service
  pub is : session ≡ new_session session.service text
