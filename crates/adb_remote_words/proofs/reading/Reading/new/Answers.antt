use Rattle.adb_remote_words.proofs.Readings.{reading_none}
use Rattle.adb_remote_words.proofs.reading.Reading.new.Goals as goal

pub returns : goal.returns
returns c =
    reading_none c.args.job.now c.new.result c.requests.result c.in_ok-new.field-0 c.new.ensures c.requests.ensures c.in_ok-new.ensures
