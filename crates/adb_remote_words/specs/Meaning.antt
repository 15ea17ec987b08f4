-- What the bytes of an answer mean.
use Rattle.std.specs.Prelude.{ℕ, zero, suc, ◌+◌, ◌==◌, if◌then◌else◌, Bool, true, false, List, [], ◌∷◌, ◌++◌, take, drop, slice_index}
use Rattle.std.specs.Prelude.{Option, Some, None, bytes_eq}
use Rattle.std.specs.List.{list_any, slice_split}
use Rattle.adb_outside.specs.declared.framer.Front.{Front}
use Rattle.adb_outside.specs.declared.framer.Front.TheVariants as fronts
use Rattle.adb_outside.specs.Framing.{Cut, offset_past}
use Rattle.adb_sync_client.specs.declared.step.Step.{Step}
use Rattle.adb_sync_client.specs.declared.step.Step.TheVariants.{More, Done, Refused, BadAnswer}
use Rattle.adb_sync_client.specs.Values.{push_value, pull_value}
use Rattle.adb_remote_frames.specs.declared.frame.TheConstants.{EXIT, STDERR, STDOUT}
use Rattle.adb_remote_frames.specs.declared.frame.Frame.{Frame}
use Rattle.adb_remote_frames.specs.declared.frame.Frame.TheVariants as frames
use Rattle.adb_remote_frames.specs.declared.head.Awaited.TheVariants as awaited
use Rattle.adb_remote_frames.specs.declared.place.Place.{Place}
use Rattle.adb_remote_frames.specs.Heads.{found}
use Rattle.adb_remote_frames.specs.Frames.{frames_from}
use Rattle.adb_remote_words.specs.declared.remote.Remote.{Remote}
use Rattle.adb_remote_words.specs.declared.remote.Remote.TheVariants.{Devices, Push, Pull, Shell, Wait}
use Rattle.adb_remote_words.specs.declared.remote.Outcome.{Outcome}
use Rattle.adb_remote_words.specs.declared.remote.Outcome.TheVariants.{Listed, Pushed, Pulled, Ran, Ready}
use Rattle.adb_remote_words.specs.declared.told.Told.{Told}
use Rattle.adb_remote_words.specs.declared.reading.TheConstants.{MAX_ANSWER}
use Rattle.adb_remote_words.specs.Words.{begins_okay, requests}

abbrev pub is_more : Step Outcome → Bool
is_more More = true
is_more (Done outcome) = false
is_more (Refused text) = false
is_more (BadAnswer offset) = false

-- what is decided, or else what follows
abbrev pub or_further : Step Outcome → Step Outcome → Step Outcome
or_further More further = further
or_further (Done outcome) further = Done outcome
or_further (Refused text) further = Refused text
or_further (BadAnswer offset) further = BadAnswer offset

-- what no further frame means: a fault, where there is one
abbrev pub unended : Option ℕ → Step Outcome
unended None = More
unended (Some offset) = BadAnswer offset

-- ---- lists, and the packets of a command
-- the line of a device in a state
abbrev pub line_of : List ℕ → List ℕ → List ℕ
line_of serial state = (serial ++ 9 ∷ []) ++ state

-- whether a list has a line
abbrev pub has_line : List ℕ → List ℕ → Bool
has_line line list = list_any (λ other. bytes_eq other line) (slice_split (λ byte. byte == 10) list)

abbrev pub nothing_told : Told
nothing_told = record { out = []; err = [] }

-- what a list means to who waits for one with a line
abbrev pub waiting_step : List ℕ → List ℕ → List ℕ → Step Outcome
waiting_step serial state list = if has_line (line_of serial state) list then Done Ready else More

-- who does not wait wants the first list
abbrev pub list_step : Remote → List ℕ → Step Outcome
list_step (Wait serial state) list = waiting_step serial state list
list_step _ list = Done (Listed list)

-- a command ends with its status
abbrev pub packet_step : Told → ℕ → List ℕ → Step Outcome
packet_step told id bytes = if id == EXIT then Done (Ran told.out told.err (slice_index bytes 0)) else More

-- what a frame means behind what was told
abbrev pub frame_step : Remote → Told → Frame → Step Outcome
frame_step job told (frames.Fail text) = More
frame_step job told (frames.List list) = list_step job list
frame_step job told (frames.Packet id bytes) = packet_step told id bytes

-- with one frame more: output and error output are joined
abbrev pub told_with : Told → Frame → Told
told_with told (frames.Fail text) = told
told_with told (frames.List list) = told
told_with told (frames.Packet id bytes) = record {
  out = told.out ++ (if id == STDOUT then bytes else []);
  err = told.err ++ (if id == STDERR then bytes else []);
}

-- what frames mean, and what stands behind them
abbrev pub meant : Remote → Told → List Frame → Step Outcome → Step Outcome
meant job told [] behind = behind
meant job told (frame ∷ others) behind = or_further (frame_step job told frame) (meant job (told_with told frame) others behind)

-- what bytes mean that are cut into frames
abbrev pub frames_step : Remote → Told → Cut Place Frame ℕ → Step Outcome
frames_step job told c = meant job told c.given (unended c.fault)

-- ---- all of an answer
-- what the bytes behind two OKAYs mean that are the answer to a request for a file
abbrev pub sync_step : {A : Type 0} → (A → Outcome) → Step A → Step Outcome
sync_step f More = More
sync_step f (Done value) = Done (f value)
sync_step f (Refused text) = Refused text
sync_step f (BadAnswer offset) = BadAnswer (offset_past offset 8)

-- what the bytes behind the OKAYs mean
abbrev pub body_step : Remote → List ℕ → Step Outcome
body_step Devices bytes = frames_step Devices nothing_told (frames_from (record { awaited = awaited.List; offset = 4 }) bytes)
body_step (Wait serial state) bytes = frames_step (Wait serial state) nothing_told
    (frames_from (record { awaited = awaited.List; offset = 4 }) bytes)
body_step (Shell command) bytes = frames_step (Shell command) nothing_told
    (frames_from (record { awaited = awaited.Packet; offset = 8 }) bytes)
body_step (Push path mtime text) bytes = sync_step (λ done. Pushed) (push_value bytes)
body_step (Pull path) bytes = sync_step Pulled (pull_value bytes)

-- what stands in place of an OKAY: a FAIL and its string
abbrev pub refused_by : {A : Type 0} → List ℕ → Front ℕ → Step A
refused_by bytes fronts.More = More
refused_by bytes (fronts.Bad offset) = BadAnswer offset
refused_by bytes (fronts.Whole len) = Refused (drop 8 (take len bytes))

abbrev pub refusal : {A : Type 0} → ℕ → List ℕ → Step A
refusal offset bytes = refused_by bytes (found awaited.Status offset bytes)

-- what bytes at an offset mean where so many OKAYs are still to come before what means something else
abbrev pub opened : ℕ → ℕ → (List ℕ → Step Outcome) → List ℕ → Step Outcome
opened offset zero further bytes = further bytes
opened offset (suc n) further bytes =
    if begins_okay bytes then opened (offset + 4) n further (drop 4 bytes) else refusal offset bytes

-- what the bytes of an answer mean
abbrev pub answer_step : Remote → List ℕ → Step Outcome
answer_step job bytes = opened 0 (requests job) (body_step job) bytes

-- the same where a byte follows those that are looked at
abbrev pub limited_at : Bool → Step Outcome → Step Outcome
limited_at false step = step
limited_at true step = or_further step (BadAnswer MAX_ANSWER)
