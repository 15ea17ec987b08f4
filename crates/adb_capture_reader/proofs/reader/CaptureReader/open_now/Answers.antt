use Rattle.std.proofs.Common.{rules}
use Rattle.adb_capture_reader.proofs.Giving.{magic_taken}
use Rattle.adb_capture_reader.proofs.reader.CaptureReader.open_now.Goals as goal

pub returns-in_ok-take_magic-clause-ahead : goal.returns-in_ok-take_magic-clause-ahead
returns-in_ok-take_magic-clause-ahead g c = λ coming told.
    magic_taken c.args.self.now coming c.take_magic.new.held _ (search rules) (search rules)
