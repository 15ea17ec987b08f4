-- The frames of a server's answer.
use Rattle.std.specs.Prelude.{ℕ, List, length, drop, slice_index}
use Rattle.adb_outside.specs.declared.framer.Front.{Front}
use Rattle.adb_outside.specs.Framing.{Cut, cut, offset_past}
use Rattle.adb_remote_frames.specs.declared.frame.Frame.{Frame}
use Rattle.adb_remote_frames.specs.declared.frame.Frame.TheVariants as frames
use Rattle.adb_remote_frames.specs.declared.head.Awaited.{Awaited}
use Rattle.adb_remote_frames.specs.declared.head.Awaited.TheVariants as awaited
use Rattle.adb_remote_frames.specs.declared.place.Place.{Place}
use Rattle.adb_remote_frames.specs.Heads.{found}

-- what bytes at a place begin with
abbrev pub frame_at : Place → List ℕ → Front ℕ
frame_at place bytes = found place.awaited place.offset bytes

abbrev pub frame_in : Awaited → List ℕ → Frame
frame_in awaited.Status bytes = frames.Fail (drop 8 bytes)
frame_in awaited.List bytes = frames.List (drop 4 bytes)
frame_in awaited.Packet bytes = frames.Packet (slice_index bytes 0) (drop 5 bytes)

-- the frame of its whole bytes
abbrev pub frame_of : Place → List ℕ → Frame
frame_of place bytes = frame_in place.awaited bytes

-- the place behind a frame
abbrev pub past_frame : Place → List ℕ → Place
past_frame place bytes = record { awaited = place.awaited; offset = offset_past place.offset (length bytes) }

-- all the frames of bytes at a place, the bytes behind them, and the fault there
abbrev pub frames_from : Place → List ℕ → Cut Place Frame ℕ
frames_from = cut frame_at frame_of past_frame
