-- Which OPEN of its host an id of a model device stands for, and how many OKAYs its stream took.
use Rattle.std.specs.Prelude.{ℕ, ◌+◌, ◌≡◌, ◌≢◌, ◌<◌, ◌≤◌, true, false, is_some, List, ◌∷◌, ◌++◌, Some}
use Rattle.adb_outside.specs.Tables.{at}
use Rattle.adb_wire.specs.declared.command.Command.TheVariants as commands
use Rattle.adb_wire.specs.declared.packets.Packet.{Packet}
use Rattle.adb_stream.specs.Flow.{has_credit}
use Rattle.adb_history.specs.Fifo.{okays_in}
use Rattle.adb_device_streams.specs.Asked.{Kind, service_of, name_of}
use Rattle.adb_device_streams.specs.Stream.{Row, okay}
use Rattle.adb_device_streams.specs.declared.link.Link.{Link}
use Rattle.adb_daemon.specs.Serving.{Ended}
use Rattle.adb_daemon.specs.Device.{Setting, device_behind}
use Rattle.adb_daemon.specs.Streams.{acks_of, over_at}
use Rattle.adb_laws_model_device.specs.Owed.{packets_owed}
use Rattle.adb_laws_model_device.specs.Opened.{WasOpened}

-- An id of the device was drawn by this OPEN of the host, on this link, for a service of this kind.
pub record IsDrawnBy (setting : Setting) (own : ℕ) (packets : List Packet) : Type 0 where
  pub front : List Packet
  pub asking : Packet
  pub rest : List Packet
  pub is : front ++ asking ∷ rest ≡ packets
  pub command : asking.command ≡ commands.Open
  pub some : asking.arg0 ≢ 0
  pub number : (device_behind setting front).serving.drawn + 1 ≡ own
  pub link : Link
  pub linked : (device_behind setting front).link ≡ Some link
  pub kind : Kind
  pub known : service_of (name_of asking.payload) ≡ Some kind

-- What its stream is then: it was opened for the host's id, and its OKAY was owed before all else of it. It took its
-- OPEN for an OKAY, and of the OKAYs of
-- both ids behind it no more than came; while its row lives, all of them; and it has credit in bytes where its link had it.
pub record WasAsked (setting : Setting) (own : ℕ) (packets : List Packet) : Type 0 where
  pub by : IsDrawnBy setting own packets
  pub opened : WasOpened own by.asking.arg0 by.kind (device_behind setting by.front).serving.files (device_behind setting packets).serving
  pub word : List ℕ
  pub more : List Packet
  pub first : packets_owed setting packets ≡ packets_owed setting by.front ++ okay own by.asking.arg0 word ∷ more
  pub linked : is_some (device_behind setting packets).link ≡ true
  pub few : acks_of own (device_behind setting packets).serving.acks ≤ 1 + okays_in by.asking.arg0 own by.rest
  pub all : (row : Row) → at own (device_behind setting packets).serving.rows ≡ Some row
      → 1 + okays_in by.asking.arg0 own by.rest ≤ acks_of own (device_behind setting packets).serving.acks
  pub credit : (row : Row) → at own (device_behind setting packets).serving.rows ≡ Some row → has_credit row.flow ≡ by.link.credit
  pub over : (e : Ended) → over_at own (device_behind setting packets).serving.ended ≡ Some e → has_credit e.row.flow ≡ by.link.credit

-- Each id that a device drew was drawn by an OPEN of its host.
abbrev pub AllWereAsked : Setting → Type 0
AllWereAsked setting = (packets : List Packet) (own : ℕ) → 0 < own → (device_behind setting packets).refused ≡ false
    → own ≤ (device_behind setting packets).serving.drawn → WasAsked setting own packets
