-- What a client's reader does, over a hall that shows its entries and a port that shows its bytes.
use Rattle.std.specs.Prelude.{ℕ, ◌≡◌, ◌≤◌, ◌<◌, ◌⊎◌, ⊤, Bool, true, false, is_some, List, [], ◌∷◌, ◌++◌, All, length, reverse, Option, Some}
use Rattle.std.specs.Prelude.{None, IfSome}
use Rattle.std.specs.Prelude.{option_to_list}
use Rattle.adb_outside.specs.Outside.{Rises}
use Rattle.adb_outside.specs.declared.kinds.Cause.{Cause}
use Rattle.adb_outside.specs.declared.kinds.Cause.TheVariants.{Eof, Fault, Starved, NoThread}
use Rattle.adb_capture.specs.declared.entry.Entry.{Entry}
use Rattle.adb_capture.specs.declared.entry.Entry.TheVariants.{Read, Bound, End}
use Rattle.adb_history.specs.Rows.{State}
use Rattle.adb_history.specs.Machine.{History, state}
use Rattle.adb_history.specs.Kept.{IsLawful}
use Rattle.adb_hub.specs.declared.answers.Room.{Room}
use Rattle.adb_hub.specs.declared.answers.Room.TheVariants.{Bytes as Space, Shut, Later}
use Rattle.adb_hub.specs.Answers.{room_of}
use Rattle.adb_server_log.specs.declared.error.DeskError.{DeskError}
use Rattle.adb_desk.specs.declared.act.Progress.{Progress}
use Rattle.adb_desk.specs.Acts.{client_progress}
use Rattle.adb_desk.specs.Desk.{desk_refusal}
use Rattle.adb_server_hall.specs.Telling.{Telling}
use Rattle.adb_server_hall.specs.Made.{IsStopped, Tells, bytes_in}
use Rattle.adb_server_client_reader.specs.declared.next.Next.{Next}
use Rattle.adb_server_client_reader.specs.declared.next.Next.TheVariants.{Go, Stop}
use Rattle.adb_server_client_reader.specs.Forwards.{AreAnswered, RisesBy, TellsMore, asked_ports, left_waiting, unbound}

-- ---- what a reader's surroundings show at one time
-- the counts of faults of its port and of its binder, the answers of the binder, and whether an allocation for its pass failed
pub record Shown : Type 0 where
  pub port_faults : ℕ
  pub answered : Option (List (ℕ × ℕ))
  pub bind_faults : ℕ
  pub starved : Bool

-- this, what its hall shows, and the bytes that are left in its port
pub record Seen : Type 0 where
  pub tells : Option Telling
  pub left : Option (List ℕ)
  pub shown : Shown

abbrev pub seen : Option Telling → Option (List ℕ) → ℕ → Option (List (ℕ × ℕ)) → ℕ → Bool → Seen
seen tells left port_faults answered bind_faults starved = record {
  tells = tells;
  left = left;
  shown = record { port_faults = port_faults; answered = answered; bind_faults = bind_faults; starved = starved };
}

-- ---- entries
abbrev pub IsOfReader : ℕ → Entry → Type 0
IsOfReader c (Read d bytes) = d ≡ c
IsOfReader c (Bound d port) = d ≡ c
IsOfReader c _ = ⊥

abbrev pub read_of : ℕ → Option (List ℕ) → List Entry
read_of c None = []
read_of c (Some piece) = Read c piece ∷ []

abbrev pub end_of : ℕ → Option Cause → List Entry
end_of c None = []
end_of c (Some cause) = End c cause ∷ []

-- whole turns; then a piece, where the hall refused a call after it; then the end of the input, where that was made
abbrev pub all_of : ℕ → List Entry → Option (List ℕ) → Option Cause → List Entry
all_of c made cut ended = made ++ (read_of c cut ++ end_of c ended)

-- The hall shows these entries. Its hub holds them, or its recorder refused one and so shut it.
pub record Holds (t : Telling) (entries : List Entry) : Type 0 where
  pub told : t.told ≡ Some entries
  pub held : IsLawful t.hub (reverse entries) ⊎ (is_some t.shut ≡ true)

-- Whole turns after a history: reads of one client, each that leaves it waiting followed at once by its Bound. The
-- binder was asked for just
-- these ports, and maybe for one more that the hall refused; its count rose for each that could not be bound.
pub record AreTurns (c : ℕ) (h : History) (made : List Entry) (refused : Option (ℕ × ℕ)) (first now : Shown) : Type 0 where
  pub mine : All (IsOfReader c) made
  pub answered : AreAnswered c h made
  pub pairs : TellsMore first.answered (asked_ports h made ++ option_to_list refused) now.answered
  pub failed : RisesBy (unbound made) first.bind_faults now.bind_faults

-- ---- while a reader goes on
-- The entries made so far are whole turns, and read what was taken of the port. No read and no allocation failed.
pub record SoFar (c : ℕ) (entries : List Entry) (coming : List ℕ) (first : Shown) (now : Seen) : Type 0 where
  pub hall : Telling
  pub made : List Entry
  pub rest : List ℕ
  pub tells_now : now.tells ≡ Some hall
  pub tells : Tells hall (entries ++ made)
  pub turns : AreTurns c (reverse entries) made None first now.shown
  pub left_now : now.left ≡ Some rest
  pub taken : coming ≡ bytes_in made ++ rest
  pub unfailed : now.shown.port_faults ≡ first.port_faults
  pub memory : now.shown.starved ≡ first.starved

-- ---- when it is done
-- The hall is shut, or a kill was made.
abbrev pub IsOver : Telling → Type 0
IsOver t = (is_some t.shut ≡ true) ⊎ (t.hub.stopped ≡ true)

-- No allocation failed, unless the hall is shut.
abbrev pub IsSpared : Shown → Shown → Telling → Type 0
IsSpared first now t = (now.starved ≡ first.starved) ⊎ (is_some t.shut ≡ true)

-- The input was ended by this cause; or it was not, since the hall refused that: the client is read no more, the hall
-- is shut, or a kill was made.
abbrev pub IsEnd : ℕ → History → Telling → Cause → Option Cause → Type 0
IsEnd c h t cause ended = (ended ≡ Some cause) ⊎ ((ended ≡ None) × ((room_of ((state h).clients c) ≡ Shut) ⊎ IsOver t))

-- why an input is ended: the port is at its end and no read failed, a read failed, or an allocation failed and no read did
abbrev pub EndsBy : List ℕ → Shown → Shown → Telling → Cause → Type 0
EndsBy rest first now t Eof = (rest ≡ []) × (now.port_faults ≡ first.port_faults) × IsSpared first now t
EndsBy rest first now t Fault = Rises first.port_faults now.port_faults × IsSpared first now t
EndsBy rest first now t Starved = (now.starved ≡ true) × (now.port_faults ≡ first.port_faults)
EndsBy rest first now t NoThread = ⊥

-- The input was to be ended.
pub record Ends (c : ℕ) (h : History) (t : Telling) (rest : List ℕ) (first now : Shown) (ended : Option Cause) : Type 0 where
  pub cause : Cause
  pub by : EndsBy rest first now t cause
  pub end : IsEnd c h t cause ended

-- The input goes on: the client is read no more or has no room for now, the hall is shut, or a kill was made. No read failed.
pub record Rests (c : ℕ) (h : History) (t : Telling) (first now : Shown) (ended : Option Cause) : Type 0 where
  pub none : ended ≡ None
  pub unfailed : now.port_faults ≡ first.port_faults
  pub memory : IsSpared first now t
  pub why : (room_of ((state h).clients c) ≡ Shut) ⊎ (room_of ((state h).clients c) ≡ Later) ⊎ IsOver t

-- the port that a Bound would have answered, which the hall refused
abbrev pub IsRefusedBehind : ℕ → History → Option (List ℕ) → ℕ → Type 0
IsRefusedBehind c h cut asked = (piece : List ℕ) × (cut ≡ Some piece) × (left_waiting (Read c piece) h ≡ Some asked)

-- The entries made are whole turns, maybe a piece after which the hall refused a call, and at most one end. They read what was taken of the
-- port except one piece that the hall refused.
pub record Done (c : ℕ) (entries : List Entry) (coming : List ℕ) (first : Shown) (now : Seen) : Type 0 where
  pub hall : Telling
  pub made : List Entry
  pub cut : Option (List ℕ)
  pub ended : Option Cause
  pub dropped : List ℕ
  pub refused : Option (ℕ × ℕ)
  pub rest : List ℕ
  pub tells_now : now.tells ≡ Some hall
  pub holds : Holds hall (entries ++ all_of c made cut ended)
  pub turns : AreTurns c (reverse entries) made refused first now.shown
  pub cut_off : IfSome cut (λ (piece : List ℕ). IsStopped hall now.shown.starved)
  pub behind : IfSome refused (λ (pair : ℕ × ℕ). IsRefusedBehind c (reverse (entries ++ made)) cut pair.0)
  pub left_now : now.left ≡ Some rest
  pub taken : coming ≡ bytes_in (all_of c made cut ended) ++ dropped ++ rest
  pub lost : (dropped ≡ []) ⊎ IsStopped hall now.shown.starved
  pub why : Rests c (reverse (entries ++ all_of c made cut ended)) hall first now.shown ended
      ⊎ Ends c (reverse (entries ++ all_of c made cut ended)) hall rest first now.shown ended

-- ---- what each step of a reader does
-- A piece of this length is refused only after a kill.
abbrev pub Fits : ℕ → ℕ → State → Type 0
Fits c n s = (piece : List ℕ) → length piece ≤ n → (error : DeskError) → desk_refusal (Read c piece) s ≡ Some error → s.stopped ≡ true

-- what is known of the room for what is read next, where it is known
abbrev pub Knows : Option ℕ → ℕ → State → Type 0
Knows None c s = ⊤
Knows (Some n) c s = Fits c n s

-- It goes on, and knows this of the room.
pub record Goes (room : Option ℕ) (c : ℕ) (entries : List Entry) (coming : List ℕ) (first : Shown) (now : Seen) : Type 0 where
  pub so_far : SoFar c entries coming first now
  pub knows : Knows room c (state (reverse (entries ++ so_far.made)))

abbrev pub Turned : Next → ℕ → List Entry → List ℕ → Shown → Seen → Type 0
Turned (Go room) c entries coming first now = Goes room c entries coming first now
Turned Stop c entries coming first now = Done c entries coming first now

-- A reader began where its hall showed legal entries and its port the bytes to come.
abbrev pub Reads : ℕ → Seen → Seen → Type 0
Reads c first now = (a : Telling) (entries : List Entry) (coming : List ℕ)
    → first.tells ≡ Some a → Tells a entries → first.left ≡ Some coming → Done c entries coming first.shown now

-- So a turn began, and this was known of the room.
abbrev pub Turns : Option ℕ → Next → ℕ → Seen → Seen → Type 0
Turns room next c first now = (a : Telling) (entries : List Entry) (coming : List ℕ)
    → first.tells ≡ Some a → Tells a entries → first.left ≡ Some coming → Knows room c (state (reverse entries))
    → Turned next c entries coming first.shown now

-- It had taken a piece of the port, and handed it in.
abbrev pub HandsIn : List ℕ → Next → ℕ → Seen → Seen → Type 0
HandsIn piece next c first now = (a : Telling) (entries : List Entry) (coming rest : List ℕ)
    → first.tells ≡ Some a → Tells a entries → now.left ≡ Some rest → coming ≡ piece ++ rest
    → Fits c (length piece) (state (reverse entries))
    → Turned next c entries coming first.shown now

-- It had handed in a piece, had the answer to it, and bound the port that its client waited for then.
abbrev pub Settles : Progress → Next → ℕ → Seen → Seen → Type 0
Settles progress next c first now = (a : Telling) (entries : List Entry) (piece coming rest : List ℕ)
    → first.tells ≡ Some a → Tells a (entries ++ Read c piece ∷ []) → progress ≡ client_progress c (state (Read c piece ∷ reverse entries))
    → now.left ≡ Some rest → coming ≡ piece ++ rest → Turned next c entries coming first.shown now

-- The input was ended for this cause, or the hall refused that. An allocation for that entry fails only if the hall is shut.
pub record Finished (c : ℕ) (cause : Cause) (entries : List Entry) (tells : Option Telling) (was starved : Bool) : Type 0 where
  pub hall : Telling
  pub ended : Option Cause
  pub tells_now : tells ≡ Some hall
  pub holds : Holds hall (entries ++ end_of c ended)
  pub end : IsEnd c (reverse (entries ++ end_of c ended)) hall cause ended
  pub memory : (starved ≡ was) ⊎ (is_some hall.shut ≡ true)

-- It ended the input.
abbrev pub Finishes : Cause → ℕ → Bool → Bool → Option Telling → Option Telling → Type 0
Finishes cause c was starved before after = (a : Telling) (entries : List Entry)
    → before ≡ Some a → Holds a entries → Finished c cause entries after was starved

-- what a refused call makes of the hall: the input is ended after an allocation failure
abbrev pub GivesUp : Bool → ℕ → Bool → Bool → Option Telling → Option Telling → Type 0
GivesUp true c was starved before after = Finishes Starved c was starved before after
GivesUp false c was starved before after = (after ≡ before) × (starved ≡ was)

-- the next turn, by the room that an answer names
abbrev pub next_of : Room → Next
next_of (Space n) = Go (Some n)
next_of Later = Go None
next_of Shut = Stop

-- The room that is known is not empty.
abbrev pub IsSome : Option ℕ → Type 0
IsSome None = ⊤
IsSome (Some n) = 0 < n

abbrev pub IsSomeNext : Next → Type 0
IsSomeNext (Go room) = IsSome room
IsSomeNext Stop = ⊤
