-- Why a stream ended, in words.
use Rattle.std.specs.Prelude.{ℕ, List, codes}
use Rattle.adb_outside.specs.declared.kinds.Cause.TheVariants.{Eof, Fault, Starved, NoThread}
use Rattle.adb_history.specs.declared.ending.Ending.{Ending}
use Rattle.adb_history.specs.declared.ending.Ending.TheVariants.{ClientClosed, PeerClosed, OutOfTurn, Lost, Broken, ClientFailed, Stopped}

abbrev pub ending_text : Ending → List ℕ
ending_text ClientClosed = codes "closed by its client"
ending_text PeerClosed = codes "closed by its device"
ending_text OutOfTurn = codes "its device wrote out of turn"
ending_text Lost = codes "its device was disconnected"
ending_text Broken = codes "its device broke the protocol"
ending_text (ClientFailed Eof) = codes "its client was closed"
ending_text (ClientFailed Fault) = codes "the connection to its client failed"
ending_text (ClientFailed Starved) = codes "the server ran out of memory for its client"
ending_text (ClientFailed NoThread) = codes "the server had no thread for its client"
ending_text Stopped = codes "the server was stopped"
