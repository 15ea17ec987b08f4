use Rattle.std.specs.Prelude.{length}
use Rattle.adb_device_streams.specs.Due.{Grows}
use Rattle.adb_device_streams.specs.Service.{out_of}
use Rattle.adb_device_streams.specs.Stream.{Row, StandsFor}
use Rattle.adb_device_streams.proofs.Windows.{Writing}
use Rattle.adb_device_streams.proofs.writes.push_writes.Given as goal

abbrev pub invariant-loop-payload : goal.invariant-loop-payload
invariant-loop-payload l = record {
  writes : (row : Row) → StandsFor row l.initial.stream
      → Writing l.outgoing row l.initial.due.bytes (record { stream = l.stream; due = l.due.bytes });
  grows : Grows l.initial.due.bytes l.due.bytes;
}

abbrev pub decreases-loop-payload : goal.decreases-loop-payload
decreases-loop-payload l = length (out_of l.stream.service)
