use Rattle.adb_laws_answered.proofs.HeardLaws.{handed_front}
use Rattle.adb_headline.proofs.bytes.puts_once.Goals as goal

pub returns : goal.returns
returns c = handed_front
