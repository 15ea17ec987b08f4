-- What each answer of a hall makes of a turn.
use Rattle.std.proofs.Common.{ℕ, ◌≡◌, ◌≤◌, true, List, [], ◌∷◌, ◌++◌, length, reverse, Option, Some, None, Ok, Err}
use Rattle.std.proofs.Common.{sym, ap, ◌∙◌, subst, arith, inl, inr}
use Rattle.std.proofs.lemmas.List.{append_assoc}
use Rattle.adb_outside.specs.Outside.{Rises, TellsOneMore}
use Rattle.adb_capture.specs.declared.entry.Entry.{Entry}
use Rattle.adb_capture.specs.declared.entry.Entry.TheVariants.{Read, Bound}
use Rattle.adb_capture.specs.declared.entry.Owner.TheVariants as owner
use Rattle.adb_history.specs.Rows.{State}
use Rattle.adb_history.specs.Machine.{History, state}
use Rattle.adb_hub.specs.declared.answers.Room.{Room}
use Rattle.adb_hub.specs.declared.answers.Room.TheVariants.{Bytes as Space, Later, Shut}
use Rattle.adb_hub.specs.Answers.{port_of, room_of}
use Rattle.adb_server_log.specs.declared.error.DeskError.{DeskError}
use Rattle.adb_server_log.specs.Pass.{PassView}
use Rattle.adb_desk.specs.declared.act.Progress.{Progress}
use Rattle.adb_desk.specs.Acts.{client_progress}
use Rattle.adb_server_hall.specs.Telling.{Entered, Fails, Rooms, Submits, Telling}
use Rattle.adb_server_hall.specs.Passes.{after_error, is_starved}
use Rattle.adb_server_hall.specs.Made.{Tells}
use Rattle.adb_server_hall.proofs.Made.{tells_more}
use Rattle.adb_server_client_reader.specs.Forwards.{left_waiting}
use Rattle.adb_server_client_reader.specs.Reading.{Done, Fits, GivesUp, Seen, Shown, SoFar, Turned, next_of}
use Rattle.adb_server_client_reader.proofs.Walks.{tells_one}
use Rattle.adb_server_client_reader.proofs.Refusals.{bound_refused, fits_of, held_of_tells, hungry_by, memory_by, newest, newest_two}
use Rattle.adb_server_client_reader.proofs.Refusals.{piece_refused}
use Rattle.adb_server_client_reader.proofs.Refusals.{room_fed, room_refused, spared_by, still_holds}
use Rattle.adb_server_client_reader.proofs.Turning.{bound_whole, done_cut, done_dropped, done_gone, done_quiet, gave_up, read_whole}

-- ---- a piece was handed in
-- It was refused; after an allocation failure the input was to be ended.
pub handed_refused : (c : ℕ) (entries : List Entry) (piece coming rest : List ℕ) (first : Shown) (now : Seen)
    (error : DeskError) (a b : Telling)
    (mid : Option Telling) (p q : PassView) → mid ≡ Some b → Tells a entries → Fits c (length piece) (state (reverse entries))
    → Fails (Read c piece) error a b → q ≡ after_error p error → p.starved ≡ first.starved
    → GivesUp (is_starved error) c q.starved now.shown.starved mid now.tells → (q.starved ≡ true → now.shown.starved ≡ true)
    → now.shown.port_faults ≡ first.port_faults → now.left ≡ Some rest → coming ≡ piece ++ rest → now.shown.answered ≡ first.answered
    → first.bind_faults ≤ now.shown.bind_faults → Done c entries coming first now
handed_refused c entries piece coming rest first now error a b mid p q tells told fits fails same memory ends keeps
    unfailed left is answered le =
    let holds = held_of_tells a entries told in
    done_dropped c entries piece coming rest first now
    (gave_up c entries first now b mid q.starved (is_starved error) tells
    (still_holds (Read c piece) error a b entries holds fails) ends unfailed
    (λ hungry. keeps (hungry_by p q error same hungry))
    (λ fed. (
      memory_by p q error same fed ∙ memory,
      piece_refused c piece error a b entries holds fits fails
          (spared_by error fed),
    ))) left is
    answered le

-- ---- what follows whole turns
pub next_turn : (c : ℕ) (entries : List Entry) (coming : List ℕ) (first : Shown) (now : Seen)
    (x : SoFar c entries coming first now) (room : Room) → room ≡ room_of ((state (reverse (entries ++ x.made))).clients c)
    → Turned (next_of room) c entries coming first now
next_turn c entries coming first now x (Space n) is =
    record { so_far = x; knows = fits_of c n (reverse (entries ++ x.made)) x.tells.lawful.legal (sym is) }
next_turn c entries coming first now x Later is = record { so_far = x; knows = tt }
next_turn c entries coming first now x Shut is = done_gone c entries coming first now x (sym is)

-- ---- the answer to a piece names what its client waits for
-- It waits for nothing.
pub settled_idle : (c : ℕ) (entries : List Entry) (piece coming rest : List ℕ) (first : Shown) (now : Seen) (progress : Progress)
    (a : Telling) → now.tells ≡ Some a → Tells a (entries ++ Read c piece ∷ [])
    → progress ≡ client_progress c (state (Read c piece ∷ reverse entries)) → progress.wants ≡ None → now.left ≡ Some rest
    → coming ≡ piece ++ rest → now.shown.answered ≡ first.answered → first.bind_faults ≤ now.shown.bind_faults
    → now.shown.port_faults ≡ first.port_faults → now.shown.starved ≡ first.starved
    → Turned (next_of progress.room) c entries coming first now
settled_idle c entries piece coming rest first now progress a tells told says none left is same le unfailed memory =
    next_turn c entries coming first now
    (read_whole c entries piece coming rest first now a tells told (sym (ap (λ (p : Progress). p.wants) says) ∙ none)
    left is same le unfailed memory)
    progress.room
    (ap (λ (p : Progress). p.room) says ∙ ap (λ (h : History). room_of ((state h).clients c)) (sym (newest entries (Read c piece))))

-- The port that it waits for was asked of the binder.
pub record Asked (c : ℕ) (entries : List Entry) (piece coming rest : List ℕ) (asked port : ℕ) (first : Shown)
    (now : Seen) (a : Telling) : Type 0 where
  pub told : Tells a (entries ++ Read c piece ∷ [])
  pub waits : left_waiting (Read c piece) (reverse entries) ≡ Some asked
  pub pair : TellsOneMore first.answered (asked, port) now.shown.answered
  pub rise : port ≡ 0 → Rises first.bind_faults now.shown.bind_faults
  pub less : first.bind_faults ≤ now.shown.bind_faults
  pub left : now.left ≡ Some rest
  pub taken : coming ≡ piece ++ rest
  pub unfailed : now.shown.port_faults ≡ first.port_faults

pub asks : (c : ℕ) (entries : List Entry) (piece coming rest : List ℕ) (asked port : ℕ) (first : Shown) (now : Seen)
    (progress : Progress) (a : Telling)
    → Tells a (entries ++ Read c piece ∷ []) → progress ≡ client_progress c (state (Read c piece ∷ reverse entries))
    → progress.wants ≡ Some asked → TellsOneMore first.answered (asked, port) now.shown.answered
    → (port ≡ 0 → Rises first.bind_faults now.shown.bind_faults) → first.bind_faults ≤ now.shown.bind_faults → now.left ≡ Some rest
    → coming ≡ piece ++ rest → now.shown.port_faults ≡ first.port_faults → Asked c entries piece coming rest asked port first now a
asks c entries piece coming rest asked port first now progress a told says wants pair rise less left taken unfailed = record {
  told = told;
  waits = sym (ap (λ (p : Progress). p.wants) says) ∙ wants;
  pair = pair;
  rise = rise;
  less = less;
  left = left;
  taken = taken;
  unfailed = unfailed;
}

module _ {c : ℕ} {entries : List Entry} {piece coming rest : List ℕ} {asked port : ℕ} {first : Shown} {now : Seen} {a : Telling}
    (x : Asked c entries piece coming rest asked port first now a) where
  with_bound : (b : Telling) → Entered (Bound c port) a b → Tells b (entries ++ Read c piece ∷ Bound c port ∷ [])
  with_bound b made =
      subst (λ (es : List Entry). Tells b es) (append_assoc entries (Read c piece ∷ []) (Bound c port ∷ []))
      (tells_more (Bound c port) a b (entries ++ Read c piece ∷ []) x.told made)

  -- It was bound.
  pub settled_bound : (progress : Progress) (b : Telling) → now.tells ≡ Some b → Submits (Bound c port) (Ok progress) a b
      → now.shown.starved ≡ first.starved → Turned (next_of progress.room) c entries coming first now
  settled_bound progress b tells bound memory =
      next_turn c entries coming first now
      (bound_whole c entries piece coming rest first now asked port b tells (with_bound b bound.0) x.waits x.left
      x.taken x.pair x.rise x.less
      x.unfailed memory)
      progress.room
      (ap (λ (p : Progress). p.room) (bound.1 (reverse (entries ++ Read c piece ∷ [])) x.told.lawful)
      ∙ ap (λ (h : History). room_of ((state h).clients c)) (sym (newest_two entries (Read c piece) (Bound c port))))

  -- The Bound was refused; after an allocation failure the input was to be ended.
  pub settled_refused : (error : DeskError) (b : Telling) (mid : Option Telling) (p q : PassView) → mid ≡ Some b
      → Fails (Bound c port) error a b
      → q ≡ after_error p error → p.starved ≡ first.starved → GivesUp (is_starved error) c q.starved now.shown.starved mid now.tells
      → (q.starved ≡ true → now.shown.starved ≡ true) → Done c entries coming first now
  settled_refused error b mid p q tells fails same memory ends keeps =
      let all : List Entry = entries ++ Read c piece ∷ [] in
      let holds = held_of_tells a all x.told in
      let waits : port_of ((state (reverse all)).clients c) ≡ Some asked =
      subst (λ (h : History). port_of ((state h).clients c) ≡ Some asked) (sym (newest entries (Read c piece))) x.waits in
      done_cut c entries piece coming rest first now (Some (asked, port))
      (gave_up c all first now b mid q.starved (is_starved error) tells
      (still_holds (Bound c port) error a b all holds fails) ends x.unfailed
      (λ hungry. keeps (hungry_by p q error same hungry))
      (λ fed. (
        memory_by p q error same fed ∙ memory,
        bound_refused c port asked error a b all holds waits fails
            (spared_by error fed),
      ))) x.left
      x.taken (tells_one first.answered (asked, port) now.shown.answered x.pair) x.less x.waits

-- ---- room
-- The hall refused to answer with the room.
pub asked_refused : (c : ℕ) (entries : List Entry) (coming : List ℕ) (first : Shown) (now : Seen) (error : DeskError)
    (a b : Telling) (p q : PassView)
    → now.tells ≡ Some b → Tells a entries → Rooms (owner.Client c) (Err error) a b → q ≡ after_error p error → p.starved ≡ first.starved
    → now.left ≡ Some coming → now.shown.answered ≡ first.answered → first.bind_faults ≤ now.shown.bind_faults
    → now.shown.port_faults ≡ first.port_faults → now.shown.starved ≡ q.starved → Done c entries coming first now
asked_refused c entries coming first now error a b p q tells told rooms same memory left answered le unfailed noted =
    done_quiet c entries coming first now a (tells ∙ ap Some rooms.same) (held_of_tells a entries told) left answered le unfailed
    (elim (room_fed c error a b entries told rooms) [
      | inl shut ↦ inr shut
      | inr fed ↦ inl (noted ∙ memory_by p q error same fed ∙ memory)
    ])
    (elim (room_refused c error a b entries told rooms) [
      | inl gone ↦ inl gone
      | inr shut ↦ inr (inr (inl shut))
    ])

pub fits_less : (c n m : ℕ) (s : State) → Fits c m s → n ≤ m → Fits c n s
fits_less c n m s fits le piece short = fits piece (omega arith)
