-- What is known where a hall gives room or refuses a call.
use Rattle.std.proofs.Common.{ℕ, ◌+◌, ◌-◌, ◌≡◌, ◌<◌, ◌≤◌, Bool, true, false, List, [], ◌∷◌, ◌++◌, length, reverse, Option, Some, None}
use Rattle.std.proofs.Common.{Result, Ok}
use Rattle.std.proofs.Common.{Err, refl, sym, ap, ◌∙◌, subst, arith, inl, inr}
use Rattle.std.specs.Prelude.{◌⊎◌, ◌||◌, ◌&&◌, is_some, nat_lt, nat_le, if◌then◌else◌}
use Rattle.std.proofs.lemmas.List.{append_assoc, reverse-append}
use Rattle.std.proofs.lemmas.Bool.Decides.{nat_tests}
use Rattle.adb_outside.specs.declared.kinds.Cause.{Cause}
use Rattle.adb_capture.specs.declared.entry.Entry.{Entry}
use Rattle.adb_capture.specs.declared.entry.Entry.TheVariants.{Read, Bound, End}
use Rattle.adb_capture.specs.declared.entry.Owner.TheVariants as owner
use Rattle.adb_client.specs.declared.phase.Phase.{Phase}
use Rattle.adb_client.specs.declared.phase.Phase.TheVariants.{Asking, Opening, Streaming, Binding, Tracking, Closing, Gone as PhaseGone}
use Rattle.adb_history.specs.Rows.{Client, State}
use Rattle.adb_history.specs.Machine.{History, state, IsLegal}
use Rattle.adb_history.specs.Kept.{Kept, IsLawful}
use Rattle.adb_history.specs.Accepted.{is_drawn}
use Rattle.adb_history.specs.Held.{held_of}
use Rattle.adb_history.proofs.OrderlyStates.{orderly}
use Rattle.adb_hub.specs.declared.error.HubError.{HubError}
use Rattle.adb_hub.specs.declared.error.HubError.TheVariants.{NoClient, OutOfMemory}
use Rattle.adb_hub.specs.declared.answers.Room.{Room}
use Rattle.adb_hub.specs.declared.answers.Room.TheVariants.{Bytes as Space, Shut, Later}
use Rattle.adb_hub.specs.declared.hub.TheConstants.{MAX_HELD, MAX_DUE_TO_CLIENT}
use Rattle.adb_hub.specs.Refusal.{unless_stopped, unless_drawn}
use Rattle.adb_hub.specs.Answers.{port_of, room_in, room_of, room_past}
use Rattle.adb_server_log.specs.declared.error.DeskError.{DeskError}
use Rattle.adb_server_log.specs.declared.error.DeskError.TheVariants.{Halted, RecordFault, Hub, Later as Wait}
use Rattle.adb_server_log.specs.Pass.{PassView}
use Rattle.adb_desk.specs.declared.act.Progress.{Progress}
use Rattle.adb_desk.specs.Desk.{desk_refusal, or_later}
use Rattle.adb_server_hall.specs.Telling.{Entered, Fails, Rooms, Telling, drawn_room}
use Rattle.adb_server_hall.specs.Passes.{after_error, after_room, after_submit, is_starved}
use Rattle.adb_server_hall.specs.Made.{Tells}
use Rattle.adb_server_hall.proofs.Made.{tells_more}
use Rattle.adb_server_client_reader.specs.Reading.{Fits, Holds, IsOver}

-- ---- histories
pub newest : (entries : List Entry) (e : Entry) → reverse (entries ++ e ∷ []) ≡ e ∷ reverse entries
newest entries e = reverse-append entries (e ∷ [])

pub newest_two : (entries : List Entry) (e f : Entry) → reverse (entries ++ e ∷ f ∷ []) ≡ f ∷ reverse (entries ++ e ∷ [])
newest_two entries e f = ap reverse (sym (append_assoc entries (e ∷ []) (f ∷ []))) ∙ newest (entries ++ e ∷ []) f

pub lawful_with : (a : Telling) (entries : List Entry) (e : Entry) → Tells a (entries ++ e ∷ []) → IsLawful a.hub (e ∷ reverse entries)
lawful_with a entries e tells = subst (λ (h : History). IsLawful a.hub h) (newest entries e) tells.lawful

pub held_of_tells : (a : Telling) (entries : List Entry) → Tells a entries → Holds a entries
held_of_tells a entries tells = record { told = tells.told; held = inl tells.lawful }

stopped_by : (hub : Kept) (h : History) → IsLawful hub h → (state h).stopped ≡ true → hub.stopped ≡ true
stopped_by hub h lawful stopped = ap (λ (k : Kept). k.stopped) lawful.seen ∙ stopped

drawn_by : (hub : Kept) (h : History) (c : ℕ) → IsLawful hub h → is_drawn hub.joined c ≡ is_drawn (state h).joined c
drawn_by hub h c lawful = ap (λ (k : Kept). is_drawn k.joined c) lawful.seen

not_drawn : (drawn n : ℕ) → is_drawn drawn n ≡ false → (n ≡ 0) ⊎ (drawn < n)
not_drawn drawn n is = go (nat_lt 0 n) (nat_le n drawn) refl refl is
  where
    go : (some within : Bool) → nat_lt 0 n ≡ some → nat_le n drawn ≡ within → (some && within) ≡ false → (n ≡ 0) ⊎ (drawn < n)
    go false within first second none = inl (grind (arith, nat_tests))
    go true false first second none = inr (grind (arith, nat_tests))
    go true true first second none = cc

-- nobody stands at a number that was not drawn
undrawn : (h : History) → IsLegal h → (c : ℕ) → is_drawn (state h).joined c ≡ false → (state h).clients c ≡ None
undrawn h legal c is =
    let kept = (orderly h legal).clients in
    elim (not_drawn (state h).joined c is) [
      | inl none ↦ subst (λ (n : ℕ). (state h).clients n ≡ None) (sym none) kept.zero
      | inr above ↦ kept.above c above
    ]

-- ---- room
rooms_by : (drawn : Bool) (shut : Option DeskError) (room r : Room) (error : HubError) → Ok r ≡ drawn_room drawn shut room error
    → (drawn ≡ true) × (shut ≡ None) × (room ≡ r)
rooms_by true None room r error is = (refl, refl, (let same : room ≡ r = cc in same))
rooms_by true (Some why) room r error is = cc
rooms_by false None room r error is = cc
rooms_by false (Some why) room r error is = cc

no_room_by : (drawn : Bool) (shut : Option DeskError) (room : Room) (why : DeskError) (error : HubError)
    → Err why ≡ drawn_room drawn shut room error
    → (is_some shut ≡ true) ⊎ (drawn ≡ false)
no_room_by true None room why error is = cc
no_room_by true (Some other) room why error is = inl refl
no_room_by false None room why error is = inr refl
no_room_by false (Some other) room why error is = inl refl

-- why a client is read no more, or has no room for now
pub room_told : (c : ℕ) (r : Room) (a b : Telling) (entries : List Entry) → Tells a entries → Rooms (owner.Client c) (Ok r) a b
    → room_of ((state (reverse entries)).clients c) ≡ r
room_told c r a b entries tells rooms =
    (rooms_by (is_drawn a.hub.joined c) a.shut (room_of ((state (reverse entries)).clients c)) r (NoClient c)
    (rooms.told (reverse entries) tells.lawful)).2

not_starved : (shut : Option DeskError) (drawn : Bool) (room : Room) (c : ℕ) (error : DeskError)
    → Err error ≡ drawn_room drawn shut room (NoClient c)
    → (is_some shut ≡ true) ⊎ (is_starved error ≡ false)
not_starved (Some why) drawn room c error is = inl refl
not_starved None true room c error is = cc
not_starved None false room c error is = inr (let same : error ≡ Hub (NoClient c) = cc in ap is_starved same)

-- The refusal is no allocation failure, unless the hall is shut.
pub room_fed : (c : ℕ) (error : DeskError) (a b : Telling) (entries : List Entry) → Tells a entries → Rooms (owner.Client c) (Err error) a b
    → (is_some a.shut ≡ true) ⊎ (is_starved error ≡ false)
room_fed c error a b entries tells rooms =
    not_starved a.shut (is_drawn a.hub.joined c) (room_of ((state (reverse entries)).clients c)) c error
    (rooms.told (reverse entries) tells.lawful)

-- Why the hall refused to answer with the room.
pub room_refused : (c : ℕ) (error : DeskError) (a b : Telling) (entries : List Entry) → Tells a entries
    → Rooms (owner.Client c) (Err error) a b
    → (room_of ((state (reverse entries)).clients c) ≡ Shut) ⊎ (is_some a.shut ≡ true)
room_refused c error a b entries tells rooms =
    let room : Room = room_of ((state (reverse entries)).clients c) in
    elim (no_room_by (is_drawn a.hub.joined c) a.shut room error (NoClient c) (rooms.told (reverse entries) tells.lawful)) [
      | inl shut ↦ inr shut
      | inr other ↦ inl (ap room_of (undrawn (reverse entries) tells.lawful.legal c
          (sym (drawn_by a.hub (reverse entries) c tells.lawful) ∙ other)))
    ]

past_fits : (held n m : ℕ) → room_past held ≡ Space m → n ≤ m → nat_lt MAX_HELD (held + n) ≡ false
past_fits held n m is le = go (nat_le MAX_HELD held) refl is
  where
    go : (b : Bool) → nat_le MAX_HELD held ≡ b → (if b then Later else Space (MAX_HELD - held)) ≡ Space m
        → nat_lt MAX_HELD (held + n) ≡ false
    go true test room = cc
    go false test room = let same : MAX_HELD - held ≡ m = cc in grind (arith, nat_tests)

ended_fits : (ended : Bool) (held n m : ℕ) → (if ended then Shut else room_past held) ≡ Space m → n ≤ m → nat_lt MAX_HELD (held + n) ≡ false
ended_fits true held n m is le = cc
ended_fits false held n m is le = past_fits held n m is le

asking_fits : (ended much : Bool) (held n m : ℕ) → (if ended then Shut else (if much then Later else room_past held)) ≡ Space m → n ≤ m
    → nat_lt MAX_HELD (held + n) ≡ false
asking_fits true much held n m is le = cc
asking_fits false true held n m is le = cc
asking_fits false false held n m is le = past_fits held n m is le

phase_fits : (phase : Phase) (client : Client) (n m : ℕ) → room_in phase client ≡ Space m → n ≤ m
    → nat_lt MAX_HELD (length client.held + n) ≡ false
phase_fits Asking client n m is le =
    asking_fits client.about.ended (nat_lt MAX_DUE_TO_CLIENT (length client.due)) (length client.held) n m is le
phase_fits (Opening l) client n m is le = ended_fits client.about.ended (length client.held) n m is le
phase_fits (Streaming l) client n m is le = ended_fits client.about.ended (length client.held) n m is le
phase_fits Binding client n m is le = ended_fits client.about.ended (length client.held) n m is le
phase_fits Tracking client n m is le = ended_fits client.about.ended (length client.held) n m is le
phase_fits Closing client n m is le = cc
phase_fits PhaseGone client n m is le = cc

row_fits : (row : Option Client) (n m : ℕ) → room_of row ≡ Space m → n ≤ m → nat_lt MAX_HELD (held_of row + n) ≡ false
row_fits None n m is le = cc
row_fits (Some client) n m is le = phase_fits client.about.phase client n m is le

-- why an entry of a client is refused
refused_by : (stopped drawn late : Bool) (c : ℕ) (error : DeskError) → late ≡ false
    → or_later (unless_stopped stopped (unless_drawn drawn (NoClient c))) late ≡ Some error → (stopped ≡ true) ⊎ (drawn ≡ false)
refused_by true drawn late c error none is = inl refl
refused_by false false late c error none is = inr refl
refused_by false true true c error none is = cc
refused_by false true false c error none is = cc

-- A piece is refused only after a kill where there is room for it.
pub fits_of : (c m : ℕ) (h : History) → IsLegal h → room_of ((state h).clients c) ≡ Space m → Fits c m (state h)
fits_of c m h legal room piece short error is =
    let s : State = state h in
    elim (refused_by s.stopped (is_drawn s.joined c) (nat_lt MAX_HELD (held_of (s.clients c) + length piece)) c error
    (row_fits (s.clients c) (length piece) m room short) is) [
      | inl stopped ↦ stopped
      | inr other ↦ let clash : Shut ≡ Space m = sym (ap room_of (undrawn h legal c other)) ∙ room in cc
    ]

-- ---- entries
open_not_shut : (shut : Option DeskError) → shut ≡ None → is_some shut ≡ true → ⊥
open_not_shut None is set = cc
open_not_shut (Some error) is set = cc

-- an entry was made: it is told, and held
pub holds_more : (e : Entry) (a b : Telling) (entries : List Entry) → Holds a entries → Entered e a b → Tells b (entries ++ e ∷ [])
holds_more e a b entries holds made = elim holds.held [
  | inl lawful ↦ tells_more e a b entries (record { told = holds.told; lawful = lawful }) made
  | inr shut ↦ absurd (open_not_shut a.shut made.going shut)
]

refused_why : (e : Entry) (error : DeskError) (a : Telling) (entries : List Entry) → Holds a entries
    → (error ≡ Hub OutOfMemory → is_some a.shut ≡ true) → a.shut ≡ None
    → ((error ≡ Hub OutOfMemory) ⊎ ((h : History) → IsLawful a.hub h → desk_refusal e (state h) ≡ Some error))
    → IsOver a ⊎ (IsLawful a.hub (reverse entries) × (desk_refusal e (state (reverse entries)) ≡ Some error))
refused_why e error a entries holds spared going (inl none) = inl (inl (spared none))
refused_why e error a entries holds spared going (inr refuses) = elim holds.held [
  | inl lawful ↦ inr (lawful, refuses (reverse entries) lawful)
  | inr shut ↦ absurd (open_not_shut a.shut going shut)
]

-- An entry was refused: nothing is told of it.
pub still_holds : (e : Entry) (error : DeskError) (a b : Telling) (entries : List Entry) → Holds a entries
    → Fails e error a b → Holds b entries
still_holds e error a b entries holds (inl refuses) = subst (λ (t : Telling). Holds t entries) (sym refuses.same) holds
still_holds e error a b entries holds (inr broken) = record { told = broken.told ∙ holds.told; held = inr (ap is_some broken.shut) }

-- An entry was refused: the hall is shut or a kill was made, or its hub refuses the entry.
pub refused : (e : Entry) (error : DeskError) (a b : Telling) (entries : List Entry) → Holds a entries → Fails e error a b
    → (error ≡ Hub OutOfMemory → is_some b.shut ≡ true)
    → IsOver b ⊎ (IsLawful b.hub (reverse entries) × (desk_refusal e (state (reverse entries)) ≡ Some error))
refused e error a b entries holds (inl refuses) spared =
    subst
    (λ (t : Telling). IsOver t ⊎ (IsLawful t.hub (reverse entries) × (desk_refusal e (state (reverse entries)) ≡ Some error)))
    (sym refuses.same) (elim refuses.why [
      | inl shut ↦ inl (inl (ap is_some shut))
      | inr other ↦
          refused_why e error a entries holds
          (λ (hungry : error ≡ Hub OutOfMemory). sym (ap (λ (t : Telling). is_some t.shut) refuses.same) ∙ spared hungry) other.0 other.1
    ])
refused e error a b entries holds (inr broken) spared = inl (inl (ap is_some broken.shut))

-- An entry of a client is refused by its hub after a kill, or where nobody stands there.
pub client_refused : (c : ℕ) (error : DeskError) (hub : Kept) (h : History) → IsLawful hub h
    → or_later (unless_stopped (state h).stopped (unless_drawn (is_drawn (state h).joined c) (NoClient c))) false ≡ Some error
    → (hub.stopped ≡ true) ⊎ ((state h).clients c ≡ None)
client_refused c error hub h lawful is =
    elim (refused_by (state h).stopped (is_drawn (state h).joined c) false c error refl is) [
      | inl stopped ↦ inl (stopped_by hub h lawful stopped)
      | inr other ↦ inr (undrawn h lawful.legal c other)
    ]

-- A piece that fits was refused.
pub piece_refused : (c : ℕ) (piece : List ℕ) (error : DeskError) (a b : Telling) (entries : List Entry) → Holds a entries
    → Fits c (length piece) (state (reverse entries)) → Fails (Read c piece) error a b → (error ≡ Hub OutOfMemory → is_some b.shut ≡ true)
    → IsOver b
piece_refused c piece error a b entries holds fits fails spared = elim (refused (Read c piece) error a b entries holds fails spared) [
  | inl over ↦ over
  | inr other ↦ inr (stopped_by b.hub (reverse entries) other.0 (fits piece (omega arith) error other.1))
]

waits_there : (row : Option Client) (asked : ℕ) → port_of row ≡ Some asked → row ≡ None → ⊥
waits_there None asked is none = cc
waits_there (Some client) asked is none = cc

-- The Bound of a client that waits was refused.
pub bound_refused : (c port asked : ℕ) (error : DeskError) (a b : Telling) (entries : List Entry) → Holds a entries
    → port_of ((state (reverse entries)).clients c) ≡ Some asked → Fails (Bound c port) error a b
    → (error ≡ Hub OutOfMemory → is_some b.shut ≡ true) → IsOver b
bound_refused c port asked error a b entries holds waits fails spared =
    elim (refused (Bound c port) error a b entries holds fails spared) [
      | inl over ↦ over
      | inr other ↦ elim (client_refused c error b.hub (reverse entries) other.0 other.1) [
        | inl stopped ↦ inr stopped
        | inr none ↦ absurd (waits_there ((state (reverse entries)).clients c) asked waits none)
      ]
    ]

-- The End of a client was refused.
pub end_refused : (c : ℕ) (cause : Cause) (error : DeskError) (a b : Telling) (entries : List Entry) → Holds a entries
    → Fails (End c cause) error a b → (error ≡ Hub OutOfMemory → is_some b.shut ≡ true)
    → (room_of ((state (reverse entries)).clients c) ≡ Shut) ⊎ IsOver b
end_refused c cause error a b entries holds fails spared = elim (refused (End c cause) error a b entries holds fails spared) [
  | inl over ↦ inr over
  | inr other ↦ elim (client_refused c error b.hub (reverse entries) other.0 other.1) [
    | inl stopped ↦ inr (inr stopped)
    | inr none ↦ inl (ap room_of none)
  ]
]

-- ---- passes
or_true : (b c : Bool) → c ≡ true → (b || c) ≡ true
or_true true c is = refl
or_true false c is = is

or_left : (b c : Bool) → b ≡ true → (b || c) ≡ true
or_left true c is = refl
or_left false c is = cc

or_false : (b c : Bool) → c ≡ false → (b || c) ≡ b
or_false true c is = refl
or_false false c is = is

error_hungry : (p : PassView) (error : DeskError) → is_starved error ≡ true → (after_error p error).starved ≡ true
error_hungry p Halted is = cc
error_hungry p RecordFault is = cc
error_hungry p Wait is = cc
error_hungry p (Hub error) is = or_true p.starved (is_starved (Hub error)) is

error_memory : (p : PassView) (error : DeskError) → is_starved error ≡ false → (after_error p error).starved ≡ p.starved
error_memory p Halted is = or_false p.starved false refl
error_memory p RecordFault is = or_false p.starved false refl
error_memory p Wait is = refl
error_memory p (Hub error) is = or_false p.starved (is_starved (Hub error)) is

-- A call that met an allocation failure leaves that in its pass, and no other call does.
pub hungry_by : (p q : PassView) (error : DeskError) → q ≡ after_error p error → is_starved error ≡ true → q.starved ≡ true
hungry_by p q error same is = ap (λ (x : PassView). x.starved) same ∙ error_hungry p error is

pub memory_by : (p q : PassView) (error : DeskError) → q ≡ after_error p error → is_starved error ≡ false → q.starved ≡ p.starved
memory_by p q error same is = ap (λ (x : PassView). x.starved) same ∙ error_memory p error is

pub told_memory : (p q : PassView) (n : ℕ) (progress : Progress) → q ≡ after_submit p n (Ok progress) → q.starved ≡ p.starved
told_memory p q n progress same = ap (λ (x : PassView). x.starved) same ∙ or_false p.starved false refl

pub room_memory : (p q : PassView) (room : Room) → q ≡ after_room p (Ok room) → q.starved ≡ p.starved
room_memory p q (Space n) same = ap (λ (x : PassView). x.starved) same
room_memory p q Later same = ap (λ (x : PassView). x.starved) same
room_memory p q Shut same = ap (λ (x : PassView). x.starved) same ∙ or_false p.starved false refl

pub error_cases : (error : DeskError) → (error ≡ Hub OutOfMemory) ⊎ (is_starved error ≡ false)
error_cases (Hub OutOfMemory) = inl refl
error_cases error = inr refl

-- An error that is no allocation failure is none.
pub spared_by : {A : Type 0} (error : DeskError) → is_starved error ≡ false → error ≡ Hub OutOfMemory → A
spared_by error fed hungry = absurd (let clash : true ≡ false = sym (ap is_starved hungry) ∙ fed in cc)

-- A pass after an act is starved as before, or the act met an allocation failure.
pub submit_memory : (p q : PassView) (n : ℕ) (r : Result Progress DeskError) → q ≡ after_submit p n r
    → (q.starved ≡ p.starved) ⊎ (r ≡ Err (Hub OutOfMemory))
submit_memory p q n (Ok progress) same = inl (told_memory p q n progress same)
submit_memory p q n (Err error) same = elim (error_cases error) [
  | inl hungry ↦ inr (ap Err hungry)
  | inr fed ↦ inl (memory_by p q error same fed)
]

error_starved : (p : PassView) (error : DeskError) → p.starved ≡ true → (after_error p error).starved ≡ true
error_starved p Halted is = or_left p.starved false is
error_starved p RecordFault is = or_left p.starved false is
error_starved p Wait is = is
error_starved p (Hub error) is = or_left p.starved (is_starved (Hub error)) is

-- A pass that is starved stays so.
pub submit_starved : (p q : PassView) (n : ℕ) (r : Result Progress DeskError) → q ≡ after_submit p n r → p.starved ≡ true → q.starved ≡ true
submit_starved p q n (Ok told) same is = ap (λ (x : PassView). x.starved) same ∙ or_left p.starved false is
submit_starved p q n (Err error) same is = ap (λ (x : PassView). x.starved) same ∙ error_starved p error is

error_number : (p : PassView) (error : DeskError) → (after_error p error).number ≡ p.number
error_number p Halted = refl
error_number p RecordFault = refl
error_number p Wait = refl
error_number p (Hub error) = refl

pub submit_number : (p q : PassView) (n : ℕ) (r : Result Progress DeskError) → q ≡ after_submit p n r → q.number ≡ p.number
submit_number p q n (Ok told) same = ap (λ (x : PassView). x.number) same
submit_number p q n (Err error) same = ap (λ (x : PassView). x.number) same ∙ error_number p error

pub room_number : (p q : PassView) (r : Result Room DeskError) → q ≡ after_room p r → q.number ≡ p.number
room_number p q (Ok (Space n)) same = ap (λ (x : PassView). x.number) same
room_number p q (Ok Later) same = ap (λ (x : PassView). x.number) same
room_number p q (Ok Shut) same = ap (λ (x : PassView). x.number) same
room_number p q (Err error) same = ap (λ (x : PassView). x.number) same ∙ error_number p error
