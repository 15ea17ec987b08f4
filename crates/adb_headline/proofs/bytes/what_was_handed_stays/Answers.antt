use Rattle.adb_headline.proofs.Handed.{stays_handed}
use Rattle.adb_headline.proofs.bytes.what_was_handed_stays.Goals as goal

pub returns : goal.returns
returns c = stays_handed
