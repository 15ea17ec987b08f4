use Rattle.adb_history.proofs.Books.{all_books}
use Rattle.adb_history.proofs.ties.state_is_as_told.Goals as goal

pub returns : goal.returns
returns c = all_books
