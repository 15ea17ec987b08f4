-- What a hall tells, and what its calls do to it.
use Rattle.std.specs.Prelude.{ℕ, ◌≡◌, ◌<◌, ◌≤◌, Bool, true, false, List, [], ◌∷◌, length, option_map, is_some, Option, Some, None, Result}
use Rattle.std.specs.Prelude.{Ok, Err, ◌⊎◌, ⊤}
use Rattle.adb_outside.specs.declared.kinds.Cause.{Cause}
use Rattle.adb_capture.specs.declared.entry.Entry.{Entry}
use Rattle.adb_capture.specs.declared.entry.Entry.TheVariants.{End, Detach}
use Rattle.adb_capture.specs.declared.entry.Owner.{Owner}
use Rattle.adb_capture.specs.declared.entry.Owner.TheVariants.{Client, Link}
use Rattle.adb_history.specs.Rows.{State}
use Rattle.adb_history.specs.Machine.{History, state}
use Rattle.adb_history.specs.Kept.{Kept, IsLawful}
use Rattle.adb_hub.specs.declared.error.HubError.{HubError}
use Rattle.adb_hub.specs.declared.error.HubError.TheVariants.{OutOfMemory, NoClient, NoLink}
use Rattle.adb_hub.specs.declared.answers.Room.{Room}
use Rattle.adb_hub.specs.declared.answers.Room.TheVariants.{Bytes as Space}
use Rattle.adb_hub.specs.declared.answers.Handed.{Handed}
use Rattle.adb_hub.specs.declared.answers.Handed.TheVariants.{Bytes, Nothing, Done}
use Rattle.adb_hub.specs.Refusal.{refusal}
use Rattle.adb_hub.specs.Answers.{HandsOut}
use Rattle.adb_server_log.specs.declared.error.DeskError.{DeskError}
use Rattle.adb_server_log.specs.declared.error.DeskError.TheVariants.{Hub, Halted}
use Rattle.adb_server_log.specs.Log.{grown, or_given, shut_with}
use Rattle.adb_desk.specs.declared.act.Progress.{Progress}
use Rattle.adb_desk.specs.declared.act.Piece.{Piece}
use Rattle.adb_desk.specs.declared.act.Piece.TheVariants.{All, Front}
use Rattle.adb_desk.specs.Acts.{progress_at}
use Rattle.adb_desk.specs.Desk.{DeskView, desk_refusal, has_forward, is_drawn_by, or_given_by, or_stopped, room_at}

-- what a hall tells: what its hub holds, the entries that its recorder tells, and the answer with which it is shut
pub record Telling : Type 0 where
  pub hub : Kept
  pub told : Option (List Entry)
  pub shut : Option DeskError

-- what a hall tells of its desk
abbrev pub telling_of : DeskView → Telling
telling_of d = record { hub = d.hub; told = d.log.told; shut = shut_with d.log }

-- A hall that tells before a call tells after it, and this holds of the two.
abbrev pub Where : Option Telling → (Telling → Telling → Type 0) → Option Telling → Type 0
Where None P after = ⊤
Where (Some a) P None = ⊥
Where (Some a) P (Some b) = P a b

-- ---- an entry
-- An entry was made and kept: the hub held a history, and holds it with this entry.
pub record Entered (e : Entry) (a b : Telling) : Type 0 where
  pub going : a.shut ≡ None
  pub steps : (h : History) → IsLawful a.hub h → (desk_refusal e (state h) ≡ None) × IsLawful b.hub (e ∷ h)
  pub told : b.told ≡ option_map (grown e) a.told

-- Nothing changed: the hall is shut; or it is not, and an allocation failed or the entry is refused.
pub record Refuses (e : Entry) (error : DeskError) (a b : Telling) : Type 0 where
  pub same : b ≡ a
  pub why : (a.shut ≡ Some error)
      ⊎ ((a.shut ≡ None) × ((error ≡ Hub OutOfMemory) ⊎ ((h : History) → IsLawful a.hub h → desk_refusal e (state h) ≡ Some error)))

-- The recorder refused the entry, and shut the hall. What is told is as before.
pub record Broken (error : DeskError) (a b : Telling) : Type 0 where
  pub going : a.shut ≡ None
  pub told : b.told ≡ a.told
  pub shut : b.shut ≡ Some error

abbrev pub Fails : Entry → DeskError → Telling → Telling → Type 0
Fails e error a b = Refuses e error a b ⊎ Broken error a b

-- An entry of a client or of a link was made, and the answer is the state after it; or the entry was not made.
abbrev pub Submits : Entry → Result Progress DeskError → Telling → Telling → Type 0
Submits e (Ok progress) a b = Entered e a b × ((h : History) → IsLawful a.hub h → progress ≡ progress_at e (state (e ∷ h)))
Submits e (Err error) a b = Fails e error a b

-- the entry by which a client's input or a device's connection ends
abbrev pub ends_of : Owner → Cause → Entry
ends_of (Client c) cause = End c cause
ends_of (Link t) cause = Detach t cause

-- A number was drawn; or none was.
abbrev pub Draws : {P : Type 0} → (ℕ → Entry) → (P → ℕ) → Result P DeskError → Telling → Telling → Type 0
Draws e number (Ok passes) a b = Entered (e (number passes)) a b
Draws e number (Err error) a b = Fails (e 0) error a b

-- ---- hand-outs
abbrev pub told_with : (List ℕ → Entry) → Handed → Option (List Entry) → Option (List Entry)
told_with e (Bytes bytes) told = option_map (grown (e bytes)) told
told_with e Nothing told = told
told_with e Done told = told

-- The first bytes were handed out, and that was kept; or there were none.
pub record HandsAt (e : List ℕ → Entry) (max : ℕ) (all : State → Option (List ℕ)) (given : Handed) (a b : Telling) : Type 0 where
  pub going : a.shut ≡ None
  pub steps : (h : History) → IsLawful a.hub h → (refusal (e []) (state h) ≡ None) × HandsOut e max (all (state h)) given h a.hub b.hub
  pub told : b.told ≡ told_with e given a.told

abbrev pub Hands : (List ℕ → Entry) → ℕ → (State → Option (List ℕ)) → Result Handed DeskError → Telling → Telling → Type 0
Hands e max all (Ok given) a b = HandsAt e max all given a b
Hands e max all (Err error) a b = Fails (e []) error a b

-- The same with at most `max` bytes: as many as the hall chose.
pub record HandsFront (e : List ℕ → Entry) (max : ℕ) (all : State → Option (List ℕ))
    (answer : Result Handed DeskError) (a b : Telling) : Type 0 where
  pub most : ℕ
  pub some : 0 < most
  pub within : most ≤ max
  pub hands : Hands e most all answer a b

-- as many as are asked for, or no more than the hall chose
abbrev pub HandsPiece : Piece → (List ℕ → Entry) → ℕ → (State → Option (List ℕ)) → Result Handed DeskError → Telling → Telling → Type 0
HandsPiece All e max all answer a b = Hands e max all answer a b
HandsPiece Front e max all answer a b = HandsFront e max all answer a b

-- ---- questions
-- the error of a number that was never drawn
abbrev pub undrawn : Owner → HubError
undrawn (Client c) = NoClient c
undrawn (Link t) = NoLink t

-- the room of a client or of the device of a link; of a number that was never drawn it is refused
abbrev pub drawn_room : Bool → Option DeskError → Room → HubError → Result Room DeskError
drawn_room true shut room error = or_given_by shut room
drawn_room false (Some why) room error = Err why
drawn_room false None room error = Err (Hub error)

pub record Rooms (owner : Owner) (answer : Result Room DeskError) (a b : Telling) : Type 0 where
  pub same : b ≡ a
  pub told : (h : History) → IsLawful a.hub h
      → answer ≡ drawn_room (is_drawn_by owner a.hub) a.shut (room_at owner (state h)) (undrawn owner)

-- whether there is a forward of a local port; a hall that is shut gives its answer
pub record Forwards (port : ℕ) (answer : Result Bool DeskError) (a b : Telling) : Type 0 where
  pub same : b ≡ a
  pub told : (h : History) → IsLawful a.hub h → answer ≡ or_given_by a.shut (has_forward port (state h))

-- the answer with which the hall is shut, or Stopped if a kill was made
pub record Overs (answer : Option DeskError) (a b : Telling) : Type 0 where
  pub same : b ≡ a
  pub told : answer ≡ or_stopped a.shut a.hub.stopped

-- The hall is shut: by this call, if it was not.
pub record Halts (a b : Telling) : Type 0 where
  pub hub : b.hub ≡ a.hub
  pub told : b.told ≡ a.told
  pub shut : b.shut ≡ Some (or_given a.shut Halted)

-- This is so of what a hall tells, if it tells.
abbrev pub IsAt : Option Telling → (Telling → Type 0) → Type 0
IsAt None P = ⊤
IsAt (Some t) P = P t

-- The hall is shut, if it tells.
abbrev pub IsShutAt : Option Telling → Type 0
IsShutAt None = ⊤
IsShutAt (Some t) = is_some t.shut ≡ true

-- ---- what holds of an answer also where nothing is told
-- Room for bytes is not empty.
abbrev pub IsSomeRoom : Result Room DeskError → Type 0
IsSomeRoom (Ok (Space n)) = 0 < n
IsSomeRoom (Ok room) = ⊤
IsSomeRoom (Err error) = ⊤

-- The same of the answer to an act.
abbrev pub IsSomeProgress : Result Progress DeskError → Type 0
IsSomeProgress (Ok progress) = IsSomeRoom (Ok progress.room)
IsSomeProgress (Err error) = ⊤

-- What is handed out has a byte, and no more bytes than were asked for.
abbrev pub IsSomeHanded : ℕ → Result Handed DeskError → Type 0
IsSomeHanded max (Ok (Bytes bytes)) = (0 < length bytes) × (length bytes ≤ max)
IsSomeHanded max (Ok given) = ⊤
IsSomeHanded max (Err error) = ⊤
