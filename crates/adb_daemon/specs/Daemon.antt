-- What a model device has done with all the bytes that it was fed, and with all that was taken of what it owes.
use Rattle.std.specs.Prelude.{ℕ, ◌≡◌, Bool, true, false, List, [], ◌∷◌, ◌++◌, fold, Option, Some, None, Result, Ok, Err}
use Rattle.adb_wire.specs.declared.format.PacketFault.{PacketFault}
use Rattle.adb_wire.specs.declared.format.PacketFault.TheVariants as faults
use Rattle.adb_wire.specs.declared.deframer.WireError.{WireError}
use Rattle.adb_wire.specs.declared.deframer.WireError.TheVariants as errors
use Rattle.adb_wire.specs.declared.packets.Packet.{Packet}
use Rattle.adb_wire.specs.Cutting.{Cuts, parts_of}
use Rattle.adb_wire.specs.Deframing.{Deframing, StandsFor}
use Rattle.adb_files.specs.Entries.{Entry}
use Rattle.adb_daemon.specs.declared.error.DaemonError.{DaemonError}
use Rattle.adb_daemon.specs.declared.error.DaemonError.TheVariants.{OutOfMemory, Broken, BadCnxn}
use Rattle.adb_daemon.specs.declared.daemon.Daemon.{Daemon}
use Rattle.adb_daemon.specs.declared.machine.Machine.{Machine}
use Rattle.adb_daemon.specs.Serving.{Serving, sent_bytes}
use Rattle.adb_daemon.specs.Device.{Device, Setting, step, device_behind}
use Rattle.adb_daemon.specs.Held.{CutFiles}
use Rattle.adb_daemon.specs.Behind.{Stands, setting_in}

-- a device that is not spent
abbrev pub daemon_of : Deframing → Machine → Daemon
daemon_of deframing machine = record { deframer = deframing; machine = machine; spent = false }

-- what it owes that was not taken yet, and its files
abbrev pub owed : Daemon → List ℕ
owed daemon = daemon.machine.services.due.bytes

abbrev pub files_of : Daemon → List Entry
files_of daemon = daemon.machine.services.files

-- the device behind all bytes that were fed
abbrev pub device_of : Setting → List ℕ → Device
device_of setting fed = device_behind setting (parts_of fed).packets

-- the error of a fault of the bytes
abbrev pub error_of : PacketFault → WireError
error_of (faults.Broken head) = errors.Broken head
error_of (faults.BadSum said is) = errors.BadSum said is

-- what feeding answers: the refusal of a CNXN, or else the fault of the bytes
abbrev pub verdict : Bool → Option PacketFault → Result (Unit {0}) DaemonError
verdict true fault = Err BadCnxn
verdict false None = Ok tt
verdict false (Some fault) = Err (Broken (error_of fault))

-- whether memory ran out
abbrev pub ran_out : Result (Unit {0}) DaemonError → Bool
ran_out (Ok x) = false
ran_out (Err OutOfMemory) = true
ran_out (Err (Broken error)) = false
ran_out (Err BadCnxn) = false

abbrev pub answer_to : Setting → List ℕ → Result (Unit {0}) DaemonError
answer_to setting fed = verdict (device_of setting fed).refused (parts_of fed).fault

-- A device was fed these bytes, and of what it owes these were taken: what was taken and what is out are the bytes of
-- all that became due, and its files are
-- those of the definition.
pub record HasDone (setting : Setting) (fed taken : List ℕ) (daemon : Daemon) : Type 0 where
  pub cuts : Cuts fed (parts_of fed)
  pub reads : (device_of setting fed).refused ≡ false → StandsFor fed (parts_of fed).packets daemon.deframer
  pub none_left : daemon.deframer.given ≡ []
  pub stands : Stands (device_of setting fed) taken daemon.machine
  pub most : daemon.machine.most ≡ setting.most
  pub credit : daemon.machine.credit ≡ setting.credit
  pub whole : daemon.spent ≡ false

-- A piece was taken: the answer is that to all bytes, and all that they ask for was done.
pub record Answers (setting : Setting) (fed taken : List ℕ) (result : Result (Unit {0}) DaemonError) (daemon : Daemon) : Type 0 where
  pub answer : result ≡ answer_to setting fed
  pub done : HasDone setting fed taken daemon

-- Memory ran out at the first of these packets, or before it.
abbrev pub CutAt : List Packet → Serving → List Entry → Type 0
CutAt [] serving files = files ≡ serving.files
CutAt (packet ∷ rest) serving files = CutFiles packet.command packet serving files

-- Memory ran out: what was taken and what is out are the bytes of all that became due behind a front of the packets,
-- and the files are those behind it, or
-- behind a front of what the next packet asks for.
pub record HasDoneFront (setting : Setting) (fed taken : List ℕ) (daemon : Daemon) : Type 0 where
  pub front : List Packet
  pub rest : List Packet
  pub is : (parts_of fed).packets ≡ front ++ rest
  pub given_out : taken ++ owed daemon ≡ sent_bytes (device_behind setting front).serving.made
  pub files : CutAt rest (device_behind setting front).serving (files_of daemon)

-- Memory ran out as more packets came: some more of them were treated, and the files are those after them, or after a
-- prefix of what the next one asks for.
pub record CutsOff (setting : Setting) (before all : List Packet) (left : List Entry) : Type 0 where
  pub more : List Packet
  pub rest : List Packet
  pub is : all ≡ (before ++ more) ++ rest
  pub files : CutAt rest (device_behind setting (before ++ more)).serving left

-- Packets were treated up to one at which memory ran out.
pub record TreatsFront (setting : Setting) (d : Device) (packets : List Packet) (taken : List ℕ) (machine : Machine) : Type 0 where
  pub front : List Packet
  pub packet : Packet
  pub rest : List Packet
  pub is : packets ≡ front ++ packet ∷ rest
  pub given_out : taken ++ machine.services.due.bytes ≡ sent_bytes (fold (step setting) d front).serving.made
  pub files : CutFiles packet.command packet (fold (step setting) d front).serving machine.services.files

-- All packets that were there were treated.
pub record Treats (deframing : Deframing) (machine : Machine) (deframing' : Deframing) (machine' : Machine) : Type 0 where
  pub none_left : deframing'.given ≡ []
  pub reads : (fed : List ℕ) (before : List Packet) → StandsFor fed before deframing → StandsFor fed (before ++ deframing.given) deframing'
  pub stands : (files : List Entry) (d : Device) (taken : List ℕ) → Stands d taken machine
      → Stands (fold (step (setting_in machine files)) d deframing.given) taken machine'
  pub most : machine'.most ≡ machine.most
  pub credit : machine'.credit ≡ machine.credit

-- Of the packets that were there these were treated.
pub record Treating (deframing : Deframing) (machine : Machine) (deframing' : Deframing) (machine' : Machine) : Type 0 where
  pub done : List Packet
  pub is : deframing.given ≡ done ++ deframing'.given
  pub reads : (fed : List ℕ) (before : List Packet) → StandsFor fed before deframing → StandsFor fed (before ++ done) deframing'
  pub stands : (files : List Entry) (d : Device) (taken : List ℕ) → Stands d taken machine
      → Stands (fold (step (setting_in machine files)) d done) taken machine'
  pub most : machine'.most ≡ machine.most
  pub credit : machine'.credit ≡ machine.credit
