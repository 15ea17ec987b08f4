-- What a desk hands out has a byte, and room for bytes is not empty: there is a history of which that is so.
use Rattle.std.proofs.Common.{ℕ, ◌-◌, ◌≡◌, ◌<◌, Bool, true, false, List, [], ◌∷◌, length, Option, Some, None, Result, Ok, Err, refl, sym}
use Rattle.std.proofs.Common.{subst, arith}
use Rattle.std.specs.Prelude.{◌≢◌, is_none, nat_le, nat_lt, if◌then◌else◌}
use Rattle.std.proofs.lemmas.Bool.Decides.{nat_tests}
use Rattle.adb_client.specs.declared.phase.Phase.{Phase}
use Rattle.adb_client.specs.declared.phase.Phase.TheVariants as phase
use Rattle.adb_capture.specs.declared.entry.Entry.{Entry}
use Rattle.adb_capture.specs.declared.entry.Entry.TheVariants.{Join, Enter, Read, End, Bound, Attach, Recv, Detach, Put, Send}
use Rattle.adb_capture.specs.declared.entry.Owner.{Owner}
use Rattle.adb_capture.specs.declared.entry.Owner.TheVariants as owner
use Rattle.adb_capture.specs.declared.limits.TheConstants.{MAX_DATA}
use Rattle.adb_history.specs.Rows.{Client, Link, State}
use Rattle.adb_history.specs.Machine.{History, state}
use Rattle.adb_history.specs.Kept.{Kept, IsLawful}
use Rattle.adb_hub.specs.declared.answers.Handed.{Handed}
use Rattle.adb_hub.specs.declared.answers.Handed.TheVariants.{Bytes, Nothing, Done}
use Rattle.adb_hub.specs.declared.answers.Room.{Room}
use Rattle.adb_hub.specs.declared.answers.Room.TheVariants as room
use Rattle.adb_hub.specs.declared.hub.TheConstants.{MAX_HELD, MAX_DUE_TO_CLIENT}
use Rattle.adb_hub.specs.Answers.{HandsOut, due_allowed, link_room_in, open_streams, room_in, room_of, room_past}
use Rattle.adb_server_log.specs.declared.error.DeskError.{DeskError}
use Rattle.adb_server_log.specs.Log.{shut_with}
use Rattle.adb_desk.specs.Desk as desk
use Rattle.adb_desk.specs.Desk.{DeskView, or_given_by, room_at}
use Rattle.adb_desk.specs.Sound.{IsSound}
use Rattle.adb_desk.specs.declared.act.Progress.{Progress}
use Rattle.adb_desk.specs.Acts.{progress_at}
use Rattle.adb_desk.specs.Acts as acts
use Rattle.adb_desk.proofs.Staying.{is_whole}
use Rattle.adb_server_hall.specs.Telling.{IsSomeHanded, IsSomeProgress, IsSomeRoom}

-- the history of a desk that is not shut, which its hub holds
held_by : (d : DeskView) → (sound : IsSound d) → shut_with d.log ≡ None → IsLawful d.hub sound.history
held_by d sound going = sound.lawful (is_whole d.log going)

not_empty : (bytes : List ℕ) → bytes ≢ [] → 0 < length bytes
not_empty [] some = absurd (some refl)
not_empty (b ∷ bytes) some = omega arith

some_handed : (e : List ℕ → Entry) (max : ℕ) (all : Option (List ℕ)) (bytes : List ℕ) (h : History) (old new : Kept)
    → HandsOut e max all (Bytes bytes) h old new → 0 < length bytes
some_handed e max (Some all) bytes h old new gives = not_empty bytes gives.1
some_handed e max None bytes h old new gives = absurd gives

pub hands_some : (e : List ℕ → Entry) (max : ℕ) (all : State → Option (List ℕ)) (answer : Result Handed DeskError) (d after : DeskView)
    → IsSound d → desk.Hands d e max all answer after → IsSomeHanded max answer
hands_some e max all (Ok (Bytes bytes)) d after sound gives = (
  some_handed e max (all (state sound.history)) bytes sound.history d.hub after.hub
      (gives.steps sound.history (held_by d sound gives.going)).1,
  gives.within.0,
)
hands_some e max all (Ok Nothing) d after sound gives = tt
hands_some e max all (Ok Done) d after sound gives = tt
hands_some e max all (Err error) d after sound gives = tt

-- ---- room
past_some : (held : ℕ) (full : Bool) → nat_le MAX_HELD held ≡ full
    → IsSomeRoom (Ok (if full then room.Later else room.Bytes (MAX_HELD - held)))
past_some held true is = tt
past_some held false is = grind (arith, nat_tests)

asking_some : (much : Bool) (held : ℕ) → IsSomeRoom (Ok (if much then room.Later else room_past held))
asking_some true held = tt
asking_some false held = past_some held (nat_le MAX_HELD held) refl

ended_some : (ended : Bool) (r : Room) → IsSomeRoom (Ok r) → IsSomeRoom (Ok (if ended then room.Shut else r))
ended_some true r some = tt
ended_some false r some = some

held_some : (client : Client) → IsSomeRoom (Ok (if client.about.ended then room.Shut else room_past (length client.held)))
held_some client = ended_some client.about.ended _ (past_some (length client.held) (nat_le MAX_HELD (length client.held)) refl)

in_some : (phase : Phase) (client : Client) → IsSomeRoom (Ok (room_in phase client))
in_some phase.Closing client = tt
in_some phase.Gone client = tt
in_some phase.Asking client =
    ended_some client.about.ended _ (asking_some (nat_lt MAX_DUE_TO_CLIENT (length client.due)) (length client.held))
in_some (phase.Opening l) client = held_some client
in_some (phase.Streaming l) client = held_some client
in_some phase.Tracking client = held_some client
in_some phase.Binding client = held_some client

client_some : (row : Option Client) → IsSomeRoom (Ok (room_of row))
client_some None = tt
client_some (Some client) = in_some client.about.phase client

much_some : (much : Bool) → IsSomeRoom (Ok (if much then room.Later else room.Bytes MAX_DATA))
much_some true = tt
much_some false = omega arith

link_some : (streams : ℕ) (row : Option Link) → IsSomeRoom (Ok (link_room_in streams row))
link_some streams None = tt
link_some streams (Some link) = much_some (nat_lt (due_allowed streams) (length link.due))

room_some : (owner : Owner) (s : State) → IsSomeRoom (Ok (room_at owner s))
room_some (owner.Client c) s = client_some (s.clients c)
room_some (owner.Link t) s = link_some (open_streams s) (s.links t)

given_some : (shut : Option DeskError) (r : Room) (answer : Result Room DeskError)
    → is_none shut ≡ true → answer ≡ or_given_by shut r → IsSomeRoom (Ok r) → IsSomeRoom answer
given_some (Some error) r answer going same some = cc
given_some None r answer going same some = subst IsSomeRoom (sym same) some

none_by : (shut : Option DeskError) → is_none shut ≡ true → shut ≡ None
none_by None going = refl
none_by (Some error) going = cc

pub rooms_some : (owner : Owner) (answer : Result Room DeskError) (d : DeskView) → IsSound d → is_none (shut_with d.log) ≡ true
    → ((h : History) → IsLawful d.hub h → answer ≡ or_given_by (shut_with d.log) (room_at owner (state h))) → IsSomeRoom answer
rooms_some owner answer d sound going told = given_some (shut_with d.log) (room_at owner (state sound.history)) answer going
    (told sound.history (held_by d sound (none_by (shut_with d.log) going))) (room_some owner (state sound.history))

-- ---- after an act
some_at : (e : Entry) (s : State) → IsSomeRoom (Ok (progress_at e s).room)
some_at (Join c) s = room_some (owner.Client c) s
some_at (Enter c port) s = room_some (owner.Client c) s
some_at (Read c bytes) s = room_some (owner.Client c) s
some_at (End c cause) s = room_some (owner.Client c) s
some_at (Bound c port) s = room_some (owner.Client c) s
some_at (Put c bytes) s = room_some (owner.Client c) s
some_at (Attach t kind serial) s = room_some (owner.Link t) s
some_at (Recv t bytes) s = room_some (owner.Link t) s
some_at (Detach t cause) s = room_some (owner.Link t) s
some_at (Send t bytes) s = room_some (owner.Link t) s

pub submit_some : (e : Entry) (answer : Result Progress DeskError) (d after : DeskView)
    → IsSound d → acts.Submits d e answer after → IsSomeProgress answer
submit_some e (Ok progress) d after sound did =
    subst (λ (p : Progress). IsSomeRoom (Ok p.room)) (sym (did.1 sound.history (held_by d sound did.0.going)))
    (some_at e (state (e ∷ sound.history)))
submit_some e (Err error) d after sound did = tt
