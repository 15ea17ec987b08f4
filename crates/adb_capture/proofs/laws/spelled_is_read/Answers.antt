use Rattle.adb_capture.proofs.Spellings.{spelled_whole, spelled_again}
use Rattle.adb_capture.proofs.laws.spelled_is_read.Goals as goal

pub returns : goal.returns
returns c = record { whole = spelled_whole; entry = spelled_again }
