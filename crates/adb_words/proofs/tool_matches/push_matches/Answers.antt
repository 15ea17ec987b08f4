use Rattle.adb_words.specs.Tools.{push_layout}
use Rattle.adb_words.specs.Apps.{push_app}
use Rattle.adb_words.proofs.ByLayout.{layout_taken, layout_refused}
use Rattle.adb_words.proofs.Tools.{of_push}
use Rattle.adb_words.proofs.tool_matches.push_matches.Goals as goal

pub returns-clause-ok : goal.returns-clause-ok
returns-clause-ok c =
    layout_taken push_layout push_app of_push c.args.words.now _ c.given_of.result c.in-Ok.ensures
    c.given_of.ensures.found c.given_of.ensures.taken

pub returns-clause-refused : goal.returns-clause-refused
returns-clause-refused c = λ is.
    layout_refused push_layout push_app of_push c.args.words.now _ c.in-Ok.ensures
    (c.given_of.ensures.refused is)
