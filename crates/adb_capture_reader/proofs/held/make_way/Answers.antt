use Rattle.std.proofs.Common.{◌+◌, ◌-◌, take, ◌∙◌, ap}
use Rattle.adb_capture_reader.proofs.Keeping.{moved}
use Rattle.adb_capture_reader.proofs.held.make_way.Goals as goal

pub returns-clause-same : goal.returns-clause-same
returns-clause-same c =
    ap (λ bytes. take (0 + (c.args.end - c.args.start)) bytes) c.copy_within.ensures.items
    ∙ moved c.args.buffer.now.items c.args.start c.args.end c.requires.ordered c.requires.within
