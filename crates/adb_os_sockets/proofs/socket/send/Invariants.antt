use Rattle.std.proofs.Common.{◌≡◌, ◌<◌, ◌++◌, length}
use Rattle.adb_os_sockets.proofs.socket.send.Given as goal

abbrev pub invariant-loop : goal.invariant-loop
invariant-loop l = l.taken < length (l.start ++ l.rest)
