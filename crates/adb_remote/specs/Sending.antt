-- What is written to a port.
use Rattle.std.specs.Prelude.{ℕ, ◌≡◌, ◌≢◌, ◌≤◌, Bool, List, ◌++◌, Option, Some, Result, Ok, Err, ⊤}
use Rattle.adb_outside.specs.Bytes.{IsPrefixOf}
use Rattle.adb_outside.specs.Outside.{Rises}
use Rattle.adb_remote_words.specs.declared.remote.Remote.{Remote}
use Rattle.adb_remote_words.specs.declared.remote.RemoteError.{RemoteError}
use Rattle.adb_remote_words.specs.declared.remote.RemoteError.TheVariants as errors
use Rattle.adb_remote_words.specs.Words.{words_to}
use Rattle.adb_remote.specs.declared.sending.SendError.{SendError}
use Rattle.adb_remote.specs.declared.sending.SendError.TheVariants.{PortFault, OutOfMemory}

abbrev pub remote_error : SendError → RemoteError
remote_error PortFault = errors.PortFault
remote_error OutOfMemory = errors.OutOfMemory

-- the half of a port that is written to: its count of faults, the bytes that went out, where it tells them, and whether it is closed
pub record Outlet : Type 0 where
  pub faults : ℕ
  pub written : Option (List ℕ)
  pub closed : Bool

abbrev pub seen : {A : Type 0} → (A → ℕ) → (A → Option (List ℕ)) → (A → Bool) → A → Outlet
seen faults written closed output = record { faults = faults output; written = written output; closed = closed output }

-- A front of a text went out behind other bytes, all of it where the call was done.
pub record WentOut (text out : List ℕ) (after : Option (List ℕ)) (answer : Result ⊤ SendError) : Type 0 where
  pub said : List ℕ
  pub after_is : after ≡ Some (out ++ said)
  pub part : IsPrefixOf said text
  pub whole : answer ≡ Ok tt → said ≡ text

-- A text was written to a port. A call fails only where a write did, and never over a port that doesn't.
pub record Sends {A : Type 0} (steady : A → Type 0) (view : A → Outlet) (text : List ℕ) (old new : A)
    (answer : Result ⊤ SendError) : Type 0 where
  pub told : (out : List ℕ) → (view old).written ≡ Some out → WentOut text out (view new).written answer
  pub count : (view old).faults ≤ (view new).faults
  pub fault : answer ≡ Err PortFault → Rises (view old).faults (view new).faults
  pub keeps : steady old → steady new
  pub never : steady old → answer ≢ Err PortFault
  pub closed : (view new).closed ≡ (view old).closed

-- The words of a job behind one number, up to another, were written.
pub record SaysTo {A : Type 0} (steady : A → Type 0) (view : A → Outlet) (job : Remote) (on : Option (List ℕ)) (from to : ℕ) (old new : A)
    (answer : Result ⊤ SendError) : Type 0 where
  pub text : List ℕ
  pub same : from ≤ to → words_to job on from ++ text ≡ words_to job on to
  pub sends : Sends steady view text old new answer

-- The first of a text were written, and these are left.
pub record SendsPart {A : Type 0} (steady : A → Type 0) (view : A → Outlet) (text left : List ℕ) (old new : A) : Type 0 where
  pub gone : List ℕ
  pub all : gone ++ left ≡ text
  pub sends : Sends steady view gone old new (Ok tt)

-- A text was written but for what is left, unless a call failed.
abbrev pub SendsSome : {A : Type 0} (steady : A → Type 0) (view : A → Outlet) (text left : List ℕ) (old new : A)
    → Result ⊤ SendError → Type 0
SendsSome steady view text left old new (Ok done) = SendsPart steady view text left old new
SendsSome steady view text left old new (Err error) = Sends steady view text old new (Err error)
