use Rattle.adb_words.specs.Tools.{serial_layout}
use Rattle.adb_words.specs.Apps.{serial_app}
use Rattle.adb_words.proofs.ByLayout.{layout_taken, layout_refused}
use Rattle.adb_words.proofs.Tools.{of_serial}
use Rattle.adb_words.proofs.tool_matches.serial_matches.Goals as goal

pub returns-clause-ok : goal.returns-clause-ok
returns-clause-ok c =
    layout_taken serial_layout (serial_app c.args.name.now) (of_serial c.args.name.now) c.args.words.now _ c.given_of.result c.in-Ok.ensures
    c.given_of.ensures.found c.given_of.ensures.taken

pub returns-clause-refused : goal.returns-clause-refused
returns-clause-refused c = λ is.
    layout_refused serial_layout (serial_app c.args.name.now) (of_serial c.args.name.now) c.args.words.now _ c.in-Ok.ensures
    (c.given_of.ensures.refused is)
