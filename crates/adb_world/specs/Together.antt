-- Sessions that ran side by side: all their commands and whole sync requests, in one order.
use Rattle.std.specs.Prelude.{ℕ, ◌≡◌, List, ◌++◌, Some, codes}
use Rattle.std.specs.List.{AllByRecursion}
use Rattle.adb_outside.specs.Tables.{at}
use Rattle.adb_files.specs.Entries.{Entry}
use Rattle.adb_device_streams.specs.Asked.{Kind, service_of}
use Rattle.adb_laws_alone.specs.Calls.{AreFirst, Call, answer_in, asks_in, asks_of, files_after}
use Rattle.adb_world.specs.Session.{text_of}
use Rattle.adb_world.specs.declared.session.Session.{Session}

-- The session of a number has written nothing.
pub record IsUnwritten (n : ℕ) (sessions : List (ℕ × Session)) : Type 0 where
  pub session : Session
  pub is : at n sessions ≡ Some session
  pub unwritten : session.written ≡ 0

-- A session was answered through calls over some files: it asked for what its service asks for of its whole text, and
-- was handed the replies to its
-- requests and the answer of its service.
pub record IsAnsweredThrough (files : List Entry) (calls : List Call) (n : ℕ) (session : Session) : Type 0 where
  pub kind : Kind
  pub asked : service_of session.service ≡ Some kind
  pub asks : asks_of n calls ≡ asks_in kind (text_of session)
  pub got : session.got ≡ codes "OKAYOKAY" ++ answer_in n kind (text_of session) files calls

-- All calls of the sessions that had written nothing, in one order, lead from some files to those that are left, and
-- each of these sessions was answered
-- through them. The calls are named by the numbers of the sessions.
pub record AreAnsweredTogether (files left : List Entry) (old new : List (ℕ × Session)) : Type 0 where
  pub calls : List Call
  pub left_files : left ≡ files_after files calls
  pub answered : (n : ℕ) (session : Session) → IsUnwritten n old → at n new ≡ Some session → IsAnsweredThrough files calls n session
  pub only : AllByRecursion (λ (call : Call). IsUnwritten call.caller old) calls

-- ---- an allocation failure
-- A session asked in calls for a prefix of what its service asks for of its whole text.
abbrev pub IsAskedInPart : List Call → ℕ → Session → Type 0
IsAskedInPart calls n session =
    (kind : Kind) → service_of session.service ≡ Some kind → AreFirst (asks_of n calls) (asks_in kind (text_of session))

-- Whole calls of the sessions that had written nothing, in one order, lead from some files to those that are left,
-- and each of these sessions asked for a
-- prefix of what it asks for. The calls are named by the numbers of the sessions.
pub record AreAskedInPart (files left : List Entry) (old : List (ℕ × Session)) : Type 0 where
  pub calls : List Call
  pub left_files : left ≡ files_after files calls
  pub asked : (n : ℕ) (u : IsUnwritten n old) → IsAskedInPart calls n u.session
  pub only : AllByRecursion (λ (call : Call). IsUnwritten call.caller old) calls
