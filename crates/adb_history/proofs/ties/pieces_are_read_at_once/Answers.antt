use Rattle.adb_history.proofs.Pieces.{asks_pieces}
use Rattle.adb_history.proofs.ties.pieces_are_read_at_once.Goals as goal

pub returns : goal.returns
returns c = asks_pieces
