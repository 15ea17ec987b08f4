use Rattle.std.proofs.Common.{◌∙◌}
use Rattle.adb_copying.proofs.Lines.{kept_shown}
use Rattle.adb_copying.proofs.shown.ShownTree.lines.Goals as goal

pub returns : goal.returns
returns c files is = c.in_ok-lines.ensures ∙ kept_shown c.args.self.now.files files is
