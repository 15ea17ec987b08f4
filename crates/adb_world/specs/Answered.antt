-- What sessions were handed.
use Rattle.std.specs.Prelude.{ℕ, ◌≡◌, ◌≢◌, ◌⊎◌, List, [], ◌∷◌, ◌++◌, drop, Some, codes}
use Rattle.adb_outside.specs.Tables.{at}
use Rattle.adb_files.specs.Entries.{Entry}
use Rattle.adb_device_streams.specs.Asked.{Kind, service_of}
use Rattle.adb_device_streams.specs.Service.{Came, bytes_in, came_over, files_fed, files_opened, service_answer}
use Rattle.adb_laws_answers.specs.Answers.{CameOf}
use Rattle.adb_world.specs.declared.session.TheConstants.{REPLIES}
use Rattle.adb_world.specs.Session.{left_of, text_of}
use Rattle.adb_world.specs.Settled.{Each}
use Rattle.adb_world.specs.declared.session.Session.{Session}

-- A session was handed the replies to its requests, and all that its service answers to its whole text.
pub record IsAnswered (session : Session) : Type 0 where
  pub kind : Kind
  pub asked : service_of session.service ≡ Some kind
  pub first : List Entry
  pub past : List Came
  pub came : CameOf (service_answer kind first past).ended (bytes_in past) (text_of session)
  pub got : session.got ≡ codes "OKAYOKAY" ++ (service_answer kind first past).bytes

-- what a session was handed behind the replies to its requests
abbrev pub answer_of : Session → List ℕ
answer_of session = drop REPLIES session.got

-- what a service makes of a whole text that comes at once, over some files
abbrev pub text_over : Kind → List ℕ → List Entry → Came
text_over kind text files = came_over text (files_opened kind files)

-- A session that ran alone was answered over the files before it, and left these.
pub record IsAnsweredAlone (session : Session) (files left : List Entry) : Type 0 where
  pub kind : Kind
  pub asked : service_of session.service ≡ Some kind
  pub got : session.got ≡ codes "OKAYOKAY" ++ (service_answer kind files (text_over kind (text_of session) files ∷ [])).bytes
  pub left_files : left ≡ files_fed kind [] (text_over kind (text_of session) files)

-- A session has written nothing, and each other one all its words.
pub record IsNewAlone (n : ℕ) (sessions : List (ℕ × Session)) : Type 0 where
  pub session : Session
  pub is : at n sessions ≡ Some session
  pub unwritten : session.written ≡ 0
  pub others : (c : ℕ) (other : Session) → c ≢ n → at c sessions ≡ Some other → left_of other ≡ []

-- each session has written all its words; or it has written nothing, and asks for an echo, which changes no file
abbrev pub IsEcho : Session → Type 0
IsEcho session = (session.written ≡ 0) × (session.service ≡ codes "echo:")

abbrev pub AreEchoes : List (ℕ × Session) → Type 0
AreEchoes sessions = Each sessions (λ (session : Session). (left_of session ≡ []) ⊎ IsEcho session)
