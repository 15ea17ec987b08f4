use Rattle.std.proofs.lemmas.List.{take_rest}
use Rattle.adb_os_sockets.proofs.Parts.{left_of}
use Rattle.adb_os_sockets.proofs.socket.left.Goals as goal

pub returns : goal.returns
returns c = rw (c.new.ensures, c.new-2.ensures, c.min.ensures, c.saturating_sub.ensures, take_rest, take_rest)
    (left_of c.args.start.now c.args.rest.now c.args.taken)
