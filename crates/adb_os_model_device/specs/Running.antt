-- What a model device between two pipes does with their ends.
use Rattle.std.specs.Prelude.{ℕ, ◌≡◌, ◌⊎◌, true, false, List, ◌++◌, Err}
use Rattle.std.specs.List.{concat}
use Rattle.adb_outside.specs.Outside.{counted_on}
use Rattle.adb_outside.specs.Bytes.{IsPrefixOf}
use Rattle.adb_pipe.specs.Ends.{InView, OutView}
use Rattle.adb_daemon.specs.declared.error.DaemonError.{DaemonError}
use Rattle.adb_daemon.specs.declared.error.DaemonError.TheVariants.{OutOfMemory, Broken, BadCnxn}
use Rattle.adb_daemon.specs.declared.daemon.Daemon.{Daemon}
use Rattle.adb_daemon.specs.Serving.{sent_bytes}
use Rattle.adb_daemon.specs.Device.{Setting}
use Rattle.adb_daemon.specs.Daemon.{HasDone, HasDoneFront, answer_to, device_of}
use Rattle.adb_os_model_device.specs.declared.running.DeviceEnd.{DeviceEnd}
use Rattle.adb_os_model_device.specs.declared.running.DeviceEnd.TheVariants.{End, Lost, Refused, Error}

-- all that a device says that was fed these bytes
abbrev pub said_behind : Setting → List ℕ → List ℕ
said_behind setting fed = sent_bytes (device_of setting fed).serving.made

-- the ends of the pipes behind more chunks
abbrev pub with_taken : List (List ℕ) → InView → InView
with_taken chunks input = record input { taken = input.taken ++ chunks }

abbrev pub with_put : List (List ℕ) → OutView → OutView
with_put chunks output = record output { put = output.put ++ chunks }

-- what the end of a device leaves of them: the end mark was taken, nothing was taken, or a chunk was refused
abbrev pub input_at : DeviceEnd → InView → InView
input_at End input = record input { ended = true }
input_at Lost input = record input { lost = counted_on input.lost }
input_at (Refused chunk) input = input
input_at (Error error) input = input

abbrev pub output_at : DeviceEnd → OutView → OutView
output_at End output = output
output_at Lost output = output
output_at (Refused chunk) output = record output { refused = counted_on output.refused }
output_at (Error error) output = output

-- A device has an error: the answer to the bytes that it was fed is this one, or memory ran out at them or before more is said.
abbrev pub HasFailed : Setting → List ℕ → List ℕ → DaemonError → Daemon → Type 0
HasFailed setting fed gone OutOfMemory daemon = HasDone setting fed gone daemon ⊎ HasDoneFront setting fed gone daemon
HasFailed setting fed gone (Broken error) daemon = HasDone setting fed gone daemon × (answer_to setting fed ≡ Err (Broken error))
HasFailed setting fed gone BadCnxn daemon = HasDone setting fed gone daemon × (answer_to setting fed ≡ Err BadCnxn)

-- A device that was fed these bytes has ended, and of what it says these went out: all of it where its input ended,
-- and all but the chunk that was refused.
abbrev pub HasEnded : Setting → List ℕ → List ℕ → DeviceEnd → Daemon → Type 0
HasEnded setting fed gone End daemon = HasDone setting fed gone daemon × (gone ≡ said_behind setting fed)
HasEnded setting fed gone Lost daemon = HasDone setting fed gone daemon × (gone ≡ said_behind setting fed)
HasEnded setting fed gone (Refused chunk) daemon = HasDone setting fed gone daemon × (gone ++ chunk ≡ said_behind setting fed)
HasEnded setting fed gone (Error error) daemon = HasFailed setting fed gone error daemon

-- In some turns these chunks were taken and fed in order, and these put.
pub record GoesOn (before : Daemon) (input : InView) (output : OutView) (after : Daemon) (input' : InView)
    (output' : OutView) : Type 0 where
  pub taken : List (List ℕ)
  pub put : List (List ℕ)
  pub input_is : input' ≡ with_taken taken input
  pub output_is : output' ≡ with_put put output
  pub does : (setting : Setting) (fed gone : List ℕ) → HasDone setting fed gone before
      → HasDone setting (fed ++ concat taken) (gone ++ concat put) after

-- A device ran until this end. These chunks were taken and fed in order; the chunks that were put are, joined, a
-- front of what a device says that is fed them.
pub record Runs (before : Daemon) (input : InView) (output : OutView) (after : Daemon) (end : DeviceEnd)
    (input' : InView) (output' : OutView)
    : Type 0 where
  pub taken : List (List ℕ)
  pub put : List (List ℕ)
  pub input_is : input' ≡ input_at end (with_taken taken input)
  pub output_is : output' ≡ output_at end (with_put put output)
  pub ends_once : end ≡ End → input.ended ≡ false
  pub front : (setting : Setting) (fed gone : List ℕ) → HasDone setting fed gone before
      → IsPrefixOf (gone ++ concat put) (said_behind setting (fed ++ concat taken))
  pub ends : (setting : Setting) (fed gone : List ℕ) → HasDone setting fed gone before
      → HasEnded setting (fed ++ concat taken) (gone ++ concat put) end after
