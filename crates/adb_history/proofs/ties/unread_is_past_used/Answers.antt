use Rattle.adb_history.proofs.Books.{all_unread}
use Rattle.adb_history.proofs.ties.unread_is_past_used.Goals as goal

pub returns : goal.returns
returns c = all_unread
