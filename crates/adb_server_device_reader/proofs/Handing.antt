-- What calls of a hall do when pieces are handed in and a link's input is ended.
use Rattle.std.proofs.Common.{ℕ, ◌≡◌, Bool, true, false, List, [], ◌∷◌, ◌++◌, length, Option, Some, None, Result, Ok, Err}
use Rattle.std.proofs.Common.{refl, sym, ap, ◌∙◌, subst, ◌⊎◌, inl, inr, zero, suc, arith}
use Rattle.std.specs.Prelude.{◌||◌, nat_lt, if◌then◌else◌, reverse, is_some}
use Rattle.std.proofs.lemmas.Bool.{cases_lt}
use Rattle.std.proofs.lemmas.Bool.Decides.{nat_tests}
use Rattle.std.proofs.lemmas.List.{append-nil, reverse-append}
use Rattle.adb_outside.specs.declared.kinds.Cause.{Cause}
use Rattle.adb_capture.specs.declared.entry.Entry.{Entry}
use Rattle.adb_capture.specs.declared.entry.Entry.TheVariants.{Recv, Detach}
use Rattle.adb_capture.specs.declared.entry.Owner.TheVariants as owner
use Rattle.adb_capture.specs.declared.limits.TheConstants.{MAX_DATA}
use Rattle.adb_history.specs.Rows.{Link, State}
use Rattle.adb_history.specs.Machine.{History, state, IsLegal}
use Rattle.adb_history.specs.Kept.{Kept, IsLawful}
use Rattle.adb_history.specs.Accepted.{is_drawn}
use Rattle.adb_history.proofs.OrderlyStates.{orderly}
use Rattle.adb_hub.specs.declared.error.HubError.{HubError}
use Rattle.adb_hub.specs.declared.error.HubError.TheVariants.{OutOfMemory, NoLink}
use Rattle.adb_hub.specs.declared.answers.Life.{Life}
use Rattle.adb_hub.specs.declared.answers.Life.TheVariants.{Live, Gone}
use Rattle.adb_hub.specs.declared.answers.Room.{Room}
use Rattle.adb_hub.specs.declared.answers.Room.TheVariants as room
use Rattle.adb_hub.specs.Refusal.{unless_stopped, unless_drawn}
use Rattle.adb_hub.specs.Answers.{due_allowed, life_of, link_room_in, link_room_of, open_streams}
use Rattle.adb_server_log.specs.declared.error.DeskError.{DeskError}
use Rattle.adb_server_log.specs.declared.error.DeskError.TheVariants.{Halted, RecordFault, Hub, Later}
use Rattle.adb_server_log.specs.Pass.{PassView}
use Rattle.adb_desk.specs.declared.act.Progress.{Progress}
use Rattle.adb_desk.specs.Desk.{desk_refusal, or_later}
use Rattle.adb_server_hall.specs.Telling.{Telling, Where, Entered, Fails, IsShutAt, Rooms, Submits, drawn_room}
use Rattle.adb_server_hall.specs.Passes.{after_error, after_room, after_submit, is_starved}
use Rattle.adb_server_hall.proofs.Made.{where_some, tells_more}
use Rattle.adb_server_device_reader.specs.Handing.{Stands, IsGone, IsOver, IsSpared, Finished, GivesUp, Answered, Handed, Waited}
use Rattle.adb_server_device_reader.specs.Handing.{is_live, link_life, may_follow}

-- ---- passes
error_number : (p : PassView) (error : DeskError) → (after_error p error).number ≡ p.number
error_number p Halted = refl
error_number p RecordFault = refl
error_number p (Hub error) = refl
error_number p Later = refl

pub same_number : (p : PassView) (n : ℕ) (result : Result Progress DeskError) → (after_submit p n result).number ≡ p.number
same_number p n (Ok _) = refl
same_number p n (Err error) = error_number p error

or_left : (a b : Bool) → a ≡ true → (a || b) ≡ true
or_left a b is = rw is refl

or_right : (a b : Bool) → b ≡ true → (a || b) ≡ true
or_right true b is = refl
or_right false b is = is

or_false : (a b : Bool) → b ≡ false → (a || b) ≡ a
or_false true b is = refl
or_false false b is = is

error_keeps : (p : PassView) (error : DeskError) → p.starved ≡ true → (after_error p error).starved ≡ true
error_keeps p Halted is = or_left p.starved _ is
error_keeps p RecordFault is = or_left p.starved _ is
error_keeps p (Hub error) is = or_left p.starved _ is
error_keeps p Later is = is

-- a pass that is starved stays so
pub still_starved : (p : PassView) (n : ℕ) (result : Result Progress DeskError) → p.starved ≡ true
    → (after_submit p n result).starved ≡ true
still_starved p n (Ok _) is = or_left p.starved _ is
still_starved p n (Err error) is = error_keeps p error is

-- a pass of which a call met an allocation failure is starved, and no other call makes it so
hungry_by : (p : PassView) (error : DeskError) → is_starved error ≡ true → (after_error p error).starved ≡ true
hungry_by p Halted is = cc
hungry_by p RecordFault is = cc
hungry_by p (Hub error) is = or_right p.starved (is_starved (Hub error)) is
hungry_by p Later is = cc

memory_by : (p : PassView) (error : DeskError) → is_starved error ≡ false → (after_error p error).starved ≡ p.starved
memory_by p Halted is = or_false p.starved false refl
memory_by p RecordFault is = or_false p.starved false refl
memory_by p (Hub error) is = or_false p.starved (is_starved (Hub error)) is
memory_by p Later is = refl

error_cases : (error : DeskError) → (error ≡ Hub OutOfMemory) ⊎ (is_starved error ≡ false)
error_cases (Hub OutOfMemory) = inl refl
error_cases error = inr refl

submit_memory : (p : PassView) (n : ℕ) (result : Result Progress DeskError)
    → ((after_submit p n result).starved ≡ p.starved) ⊎ (result ≡ Err (Hub OutOfMemory))
submit_memory p n (Ok _) = inl (or_false p.starved false refl)
submit_memory p n (Err error) = elim (error_cases error) [
  | inl hungry ↦ inr (ap Err hungry)
  | inr fed ↦ inl (memory_by p error fed)
]

-- ---- what a hall shows
abbrev pub stands_as : (xs ys : List Entry) (tells : Option Telling) → xs ≡ ys → Stands xs tells → Stands ys tells
stands_as xs ys tells same s = record {
  now = s.now;
  tells_now = s.tells_now;
  told = s.told ∙ ap Some same;
  held = subst (λ (es : List Entry). IsLawful s.now.hub (reverse es) ⊎ (is_some s.now.shut ≡ true)) same s.held;
}

-- a hall that is not shut holds what it shows
lawful_of : (entries : List Entry) (a : Telling) → IsLawful a.hub (reverse entries) ⊎ (is_some a.shut ≡ true)
    → a.shut ≡ None → IsLawful a.hub (reverse entries)
lawful_of entries a (inl lawful) going = lawful
lawful_of entries a (inr shut) going = absurd (let clash : true ≡ false = sym shut ∙ ap is_some going in cc)

-- an entry was made
entered_stands : (e : Entry) (entries : List Entry) (old new : Option Telling) (s : Stands entries old) (b : Telling)
    → new ≡ Some b → Entered e s.now b
    → Stands (entries ++ e ∷ []) new
entered_stands e entries old new s b is made =
    let lawful = lawful_of entries s.now s.held made.going in
    let more = tells_more e s.now b entries (record { told = s.told; lawful = lawful }) made in
    record { now = b; tells_now = is; told = more.told; held = inl more.lawful }

-- nothing is kept of a link that was not drawn
not_drawn : (h : History) (t : ℕ) → IsLegal h → is_drawn (state h).devices.drawn t ≡ false → link_life t (state h) ≡ Gone
not_drawn h t legal undrawn = ap life_of (go t undrawn)
  where
    go : (n : ℕ) → is_drawn (state h).devices.drawn n ≡ false → (state h).links n ≡ None
    go zero undrawn = (orderly h legal).links.zero
    go (suc n) undrawn = elim (cases_lt (state h).devices.drawn (suc n)) [
      | inl above ↦ (orderly h legal).links.above (suc n) above
      | inr within ↦ absurd (grind (arith, nat_tests))
    ]

refusal_by : (stopped drawn : Bool) (t : ℕ) (error : DeskError)
    → or_later (unless_stopped stopped (unless_drawn drawn (NoLink t))) false ≡ Some error
    → (stopped ≡ true) ⊎ (drawn ≡ false)
refusal_by true drawn t error e = inl refl
refusal_by false false t error e = inr refl
refusal_by false true t error e = absurd (let clash : None ≡ Some error = e in cc)

-- the hub refuses an entry of a link only after a kill, or where the link is not there
abbrev IsOfLink : ℕ → Entry → Type 0
IsOfLink t e = (s : State)
    → desk_refusal e s ≡ or_later (unless_stopped s.stopped (unless_drawn (is_drawn s.devices.drawn t) (NoLink t)))
    false

refused_by : (t : ℕ) (e : Entry) (error : DeskError) (hub : Kept) (h : History) → IsOfLink t e → IsLawful hub h
    → desk_refusal e (state h) ≡ Some error
    → (hub.stopped ≡ true) ⊎ (link_life t (state h) ≡ Gone)
refused_by t e error hub h of_link lawful is =
    elim (refusal_by (state h).stopped (is_drawn (state h).devices.drawn t) t error (sym (of_link (state h)) ∙ is)) [
      | inl stopped ↦ inl (ap (λ (k : Kept). k.stopped) lawful.seen ∙ stopped)
      | inr undrawn ↦ inr (not_drawn h t lawful.legal undrawn)
    ]

-- a hall that an entry did not change, or shut
record Unmade (t : ℕ) (entries : List Entry) (b : Telling) : Type 0 where
  pub told : b.told ≡ Some entries
  pub held : IsLawful b.hub (reverse entries) ⊎ (is_some b.shut ≡ true)
  pub why : IsGone t entries ⊎ IsOver b

-- the hall shows these entries and no more
abbrev pub stands_at : (entries : List Entry) (new : Option Telling) (b : Telling) → new ≡ Some b → b.told ≡ Some entries
    → IsLawful b.hub (reverse entries) ⊎ (is_some b.shut ≡ true) → Stands (entries ++ []) new
stands_at entries new b is told held =
    stands_as entries (entries ++ []) new (sym (append-nil entries)) (record { now = b; tells_now = is; told = told; held = held })

why_by : (t : ℕ) (e : Entry) (error : DeskError) (entries : List Entry) (a : Telling) → IsOfLink t e
    → (error ≡ Hub OutOfMemory → is_some a.shut ≡ true) → IsLawful a.hub (reverse entries) ⊎ (is_some a.shut ≡ true)
    → (a.shut ≡ Some error)
    ⊎ ((a.shut ≡ None) × ((error ≡ Hub OutOfMemory) ⊎ ((h : History) → IsLawful a.hub h → desk_refusal e (state h) ≡ Some error)))
    → IsGone t entries ⊎ IsOver a
why_by t e error entries a of_link spared held (inl shut) = inr (inl (ap is_some shut))
why_by t e error entries a of_link spared held (inr (going, inl hungry)) = inr (inl (spared hungry))
why_by t e error entries a of_link spared held (inr (going, inr refused)) =
    let lawful = lawful_of entries a held going in
    elim (refused_by t e error a.hub (reverse entries) of_link lawful (refused (reverse entries) lawful)) [
      | inl stopped ↦ inr (inr stopped)
      | inr gone ↦ inl gone
    ]

-- an entry was refused: the hall shows what it showed
still_told : (e : Entry) (error : DeskError) (entries : List Entry) (a b : Telling) → a.told ≡ Some entries → Fails e error a b
    → b.told ≡ Some entries
still_told e error entries a b told (inl refused) = ap (λ (x : Telling). x.told) refused.same ∙ told
still_told e error entries a b told (inr broken) = broken.told ∙ told

still_held : (e : Entry) (error : DeskError) (entries : List Entry) (a b : Telling)
    → IsLawful a.hub (reverse entries) ⊎ (is_some a.shut ≡ true)
    → Fails e error a b → IsLawful b.hub (reverse entries) ⊎ (is_some b.shut ≡ true)
still_held e error entries a b held (inl refused) =
    subst (λ (x : Telling). IsLawful x.hub (reverse entries) ⊎ (is_some x.shut ≡ true)) (sym refused.same) held
still_held e error entries a b held (inr broken) = inr (ap is_some broken.shut)

unmade_why : (t : ℕ) (e : Entry) (error : DeskError) (entries : List Entry) (a b : Telling)
    → IsLawful a.hub (reverse entries) ⊎ (is_some a.shut ≡ true) → IsOfLink t e → (error ≡ Hub OutOfMemory → is_some b.shut ≡ true)
    → Fails e error a b → IsGone t entries ⊎ IsOver b
unmade_why t e error entries a b held of_link spared (inl refused) =
    subst (λ (x : Telling). IsGone t entries ⊎ IsOver x) (sym refused.same) (why_by t e error entries a of_link
    (λ (hungry : error ≡ Hub OutOfMemory). sym (ap (λ (x : Telling). is_some x.shut) refused.same) ∙ spared hungry) held refused.why)
unmade_why t e error entries a b held of_link spared (inr broken) = inr (inl (ap is_some broken.shut))

unmade : (t : ℕ) (e : Entry) (error : DeskError) (entries : List Entry) (old : Option Telling) (s : Stands entries old) (b : Telling)
    → IsOfLink t e → (error ≡ Hub OutOfMemory → is_some b.shut ≡ true) → Fails e error s.now b → Unmade t entries b
unmade t e error entries old s b of_link spared fails = record {
  told = still_told e error entries s.now b s.told fails;
  held = still_held e error entries s.now b s.held fails;
  why = unmade_why t e error entries s.now b s.held of_link spared fails;
}

-- ---- an input is ended
finished_by : (t : ℕ) (cause : Cause) (result : Result Progress DeskError) (entries : List Entry)
    (old new : Option Telling) (s : Stands entries old)
    (b : Telling) (was starved : Bool) → new ≡ Some b → (result ≡ Err (Hub OutOfMemory) → is_some b.shut ≡ true)
    → Submits (Detach t cause) result s.now b → IsSpared was starved b → Finished t cause entries was starved new
unfolding entered_stands
finished_by t cause (Ok _) entries old new s b was starved is spared lives memory = record {
  last = Detach t cause ∷ [];
  hall = entered_stands (Detach t cause) entries old new s b is lives.0;
  end = inl refl;
  memory = memory;
}
finished_by t cause (Err error) entries old new s b was starved is spared fails memory =
    let u = unmade t (Detach t cause) error entries old s b (λ s. refl)
    (λ (hungry : error ≡ Hub OutOfMemory). spared (ap Err hungry)) fails in
    record {
      last = [];
      hall = stands_at entries new b is u.told u.held;
      end = inr (refl, u.why);
      memory = memory;
    }

pub finished : (t : ℕ) (cause : Cause) (result : Result Progress DeskError) (entries : List Entry)
    (old new : Option Telling) (p q : PassView)
    → q ≡ after_submit p 0 result → (result ≡ Err (Hub OutOfMemory) → IsShutAt new) → Where old (Submits (Detach t cause) result) new
    → Stands entries old → Finished t cause entries p.starved q.starved new
finished t cause result entries old new p q pass spared told s =
    let w = where_some _ old new s.now s.tells_now told in
    let shut : result ≡ Err (Hub OutOfMemory) → is_some w.0.shut ≡ true = rw w.1 at spared in
    finished_by t cause result entries old new s w.0 p.starved q.starved w.1 shut w.2 (elim (submit_memory p 0 result) [
      | inl same ↦ inl (ap (λ (x : PassView). x.starved) pass ∙ same)
      | inr hungry ↦ inr (shut hungry)
    ])

-- ---- a piece is handed in
gone : (t : ℕ) (piece : List ℕ) (was starved : Bool) (entries : List Entry) (progress : Progress) (old new : Option Telling)
    → Where old (Submits (Recv t piece) (Ok progress)) new → progress.life ≡ Gone → Stands entries old → starved ≡ was
    → Handed false t piece entries was starved new
gone t piece was starved entries progress old new told over s memory =
    let w = where_some _ old new s.now s.tells_now told in
    let lawful = lawful_of entries s.now s.held w.2.0.going in
    let is_gone : IsGone t (entries ++ Recv t piece ∷ []) =
    ap (λ (h : History). link_life t (state h)) (reverse-append entries (Recv t piece ∷ []))
    ∙ sym (ap (λ (x : Progress). x.life) (w.2.1 (reverse entries) lawful)) ∙ over in
    let stands = entered_stands (Recv t piece) entries old new s w.0 w.1 w.2.0 in
    inl (record {
      hall = stands_at (entries ++ Recv t piece ∷ []) new stands.now stands.tells_now stands.told stands.held;
      stays = record { none = refl; memory = inl memory; why = inl is_gone };
    })

refused : (t : ℕ) (piece : List ℕ) (error : DeskError) (hungry : Bool) (entries : List Entry)
    (old mid new : Option Telling) (p q : PassView) (n : ℕ)
    (starved : Bool) → is_starved error ≡ hungry → q ≡ after_submit p n (Err error) → Where old (Submits (Recv t piece) (Err error)) mid
    → Stands entries old → (q.starved ≡ true → starved ≡ true) → (Stands entries mid → GivesUp hungry t entries q.starved starved mid new)
    → Handed false t piece entries p.starved starved new
refused t piece error true entries old mid new p q n starved test pass told s keeps ends =
    let w = where_some _ old mid s.now s.tells_now told in
    let x =
    ends (record {
      now = w.0;
      tells_now = w.1;
      told = still_told (Recv t piece) error entries s.now w.0 s.told w.2;
      held = still_held (Recv t piece) error entries s.now w.0 s.held w.2;
    }) in
    let first : q.starved ≡ true = ap (λ (x : PassView). x.starved) pass ∙ hungry_by p error test in
    inr (record { last = x.last; breaks = record { hall = x.hall; why = inr (record { memory = keeps first; end = x.end }) } })
refused t piece error false entries old mid new p q n starved test pass told s keeps ends =
    let w = where_some _ old mid s.now s.tells_now told in
    let u = unmade t (Recv t piece) error entries old s w.0 (λ s. refl)
    (λ (hungry : error ≡ Hub OutOfMemory). absurd (let clash : true ≡ false = sym (ap is_starved hungry) ∙ test in cc)) w.2 in
    let same = ends (record { now = w.0; tells_now = w.1; told = u.told; held = u.held }) in
    inr (record {
      last = [];
      breaks = record {
        hall = stands_at entries new w.0 (same.0 ∙ w.1) u.told u.held;
        why = inl (record {
          none = refl;
          memory = inl (same.1 ∙ ap (λ (x : PassView). x.starved) pass ∙ memory_by p error test);
          why = u.why;
        });
      };
    })

-- ---- what a piece was answered with
module _ {before : PassView} {piece : List ℕ} {entries : List Entry} {answer : Result Progress DeskError}
    {now : PassView} {tells : Option Telling}
    (a : Answered before piece entries answer now tells) where
  told_memory : (progress : Progress) → answer ≡ Ok progress → now.starved ≡ before.starved
  told_memory progress is =
      ap (λ (x : PassView). x.starved) a.pass
      ∙ ap (λ (r : Result Progress DeskError). (after_submit before (length piece) r).starved) is ∙ or_false before.starved false refl

  answered_by : (progress : Progress) (life : Life) → progress.life ≡ life → answer ≡ Ok progress
      → Handed (is_live life) before.number piece entries before.starved now.starved tells
  answered_by progress Live on is =
      let w = where_some _ a.tells_before tells a.stood.now a.stood.tells_now (rw is at a.told) in
      (entered_stands (Recv before.number piece) entries a.tells_before tells a.stood w.0 w.1 w.2.0, told_memory progress is)
  answered_by progress Gone over is =
      gone before.number piece before.starved now.starved entries progress a.tells_before tells (rw is at a.told) over a.stood
      (told_memory progress is)

  pub answered_ok : (progress : Progress) → answer ≡ Ok progress
      → Handed (is_live progress.life) before.number piece entries before.starved now.starved tells
  answered_ok progress is = answered_by progress progress.life refl is

  pub answered_no : (error : DeskError) (starved : Bool) (new : Option Telling) → answer ≡ Err error → (now.starved ≡ true → starved ≡ true)
      → (Stands entries tells → GivesUp (is_starved error) now.number entries now.starved starved tells new)
      → Handed false before.number piece entries before.starved starved new
  answered_no error starved new is keeps ends =
      let pass : now ≡ after_submit before (length piece) (Err error) = rw is at a.pass in
      let same : now.number ≡ before.number = ap (λ (x : PassView). x.number) pass ∙ same_number before (length piece) (Err error) in
      refused before.number piece error (is_starved error) entries a.tells_before tells new before now (length piece) starved refl pass
      (rw is at a.told) a.stood keeps
      (λ (s : Stands entries tells). subst (λ (t : ℕ). GivesUp (is_starved error) t entries now.starved starved tells new) same (ends s))

-- ---- room
-- only a link that is gone is shut
much_open : (much : Bool) → (if much then room.Later else room.Bytes MAX_DATA) ≡ room.Shut → ⊥
much_open true is = cc
much_open false is = cc

room_gone : (streams : ℕ) (row : Option Link) → link_room_in streams row ≡ room.Shut → life_of row ≡ Gone
room_gone streams None is = refl
room_gone streams (Some link) is = absurd (much_open (nat_lt (due_allowed streams) (length link.due)) is)

shut_room : (drawn : Bool) (shut : Option DeskError) (r : Room) (error : HubError)
    → Ok room.Shut ≡ drawn_room drawn shut r error → r ≡ room.Shut
shut_room true None r error is = cc
shut_room true (Some why) r error is = cc
shut_room false None r error is = cc
shut_room false (Some why) r error is = cc

no_room : (drawn : Bool) (shut : Option DeskError) (r : Room) (why : DeskError) (error : HubError) → Err why ≡ drawn_room drawn shut r error
    → (is_some shut ≡ true) ⊎ ((drawn ≡ false) × (why ≡ Hub error))
no_room true None r why error is = cc
no_room true (Some e) r why error is = inl refl
no_room false None r why error is = inr (refl, let same : why ≡ Hub error = cc in same)
no_room false (Some e) r why error is = inl refl

-- a hall that was asked for the room of a link shows what it showed
asked_now : (t : ℕ) (answer : Result Room DeskError) (old new : Option Telling) (a : Telling) → old ≡ Some a
    → Where old (Rooms (owner.Link t) answer) new → (new ≡ Some a) × Rooms (owner.Link t) answer a a
asked_now t answer old new a is told =
    let w = where_some _ old new a is told in
    (w.1 ∙ ap Some w.2.same, subst (λ (b : Telling). Rooms (owner.Link t) answer a b) w.2.same w.2)

still_stands : (entries : List Entry) (old new : Option Telling) (s : Stands entries old) → new ≡ Some s.now → Stands entries new
still_stands entries old new s is = record { now = s.now; tells_now = is; told = s.told; held = s.held }

-- why there is no more room
gone_by : (t : ℕ) (entries : List Entry) (a : Telling) → IsLawful a.hub (reverse entries) ⊎ (is_some a.shut ≡ true)
    → Rooms (owner.Link t) (Ok room.Shut) a a → IsGone t entries ⊎ IsOver a
gone_by t entries a (inr shut) asked = inr (inl shut)
gone_by t entries a (inl lawful) asked =
    let s = state (reverse entries) in
    inl (room_gone (open_streams s) (s.links t) (shut_room _ a.shut (link_room_of t s) (NoLink t) (asked.told (reverse entries) lawful)))

-- A refusal is that of a hall that is shut, or of a number that was not drawn.
record NoRoom (t : ℕ) (entries : List Entry) (a : Telling) (was starved : Bool) : Type 0 where
  pub memory : IsSpared was starved a
  pub why : IsGone t entries ⊎ IsOver a

no_room_by : (t : ℕ) (error : DeskError) (entries : List Entry) (a : Telling) (p : PassView)
    → IsLawful a.hub (reverse entries) ⊎ (is_some a.shut ≡ true) → Rooms (owner.Link t) (Err error) a a
    → NoRoom t entries a p.starved (after_error p error).starved
no_room_by t error entries a p (inr shut) asked = record { memory = inr shut; why = inr (inl shut) }
no_room_by t error entries a p (inl lawful) asked =
    let h = reverse entries in
    elim (no_room _ a.shut (link_room_of t (state h)) error (NoLink t) (asked.told h lawful)) [
      | inl shut ↦ record { memory = inr shut; why = inr (inl shut) }
      | inr undrawn ↦ record {
        memory = inl (memory_by p error (ap is_starved undrawn.1));
        why = inl (not_drawn h t lawful.legal (sym (ap (λ (k : Kept). is_drawn k.devices.drawn t) lawful.seen) ∙ undrawn.0));
      }
    ]

room_keeps : (p : PassView) (q : PassView) → q ≡ p → q.starved ≡ p.starved
room_keeps p q is = ap (λ (x : PassView). x.starved) is

pub room_number : (p q : PassView) (answer : Result Room DeskError) → q ≡ after_room p answer → q.number ≡ p.number
room_number p q (Ok (room.Bytes n)) is = ap (λ (x : PassView). x.number) is
room_number p q (Ok room.Later) is = ap (λ (x : PassView). x.number) is
room_number p q (Ok room.Shut) is = ap (λ (x : PassView). x.number) is
room_number p q (Err error) is = ap (λ (x : PassView). x.number) is ∙ error_number p error

-- the reader has waited
pub waited : (t : ℕ) (answer : Result Room DeskError) (entries : List Entry) (old new : Option Telling)
    (p q : PassView) → q ≡ after_room p answer
    → Where old (Rooms (owner.Link t) answer) new → Stands entries old → Waited (may_follow answer) t entries p.starved q.starved new
waited t (Ok (room.Bytes n)) entries old new p q pass told s =
    (still_stands entries old new s (asked_now t _ old new s.now s.tells_now told).0, room_keeps p q pass)
waited t (Ok room.Later) entries old new p q pass told s =
    (still_stands entries old new s (asked_now t _ old new s.now s.tells_now told).0, room_keeps p q pass)
waited t (Ok room.Shut) entries old new p q pass told s =
    let asked = asked_now t _ old new s.now s.tells_now told in
    record {
      hall = stands_at entries new s.now asked.0 s.told s.held;
      stays = record {
        none = refl;
        memory = inl (ap (λ (x : PassView). x.starved) pass ∙ or_false p.starved false refl);
        why = gone_by t entries s.now s.held asked.1;
      };
    }
waited t (Err error) entries old new p q pass told s =
    let asked = asked_now t _ old new s.now s.tells_now told in
    let none = no_room_by t error entries s.now p s.held asked.1 in
    record {
      hall = stands_at entries new s.now asked.0 s.told s.held;
      stays = record {
        none = refl;
        memory = subst (λ (b : Bool). IsSpared p.starved b s.now) (sym (ap (λ (x : PassView). x.starved) pass)) none.memory;
        why = none.why;
      };
    }
