use Rattle.adb_words.specs.Serve.{serve_layout}
use Rattle.adb_words.specs.Apps.{serve_app}
use Rattle.adb_words.proofs.ByLayout.{layout_taken, layout_refused}
use Rattle.adb_words.proofs.Serves.{of_serve}
use Rattle.adb_words.proofs.serve.serve_matches.Goals as goal

pub returns-clause-ok : goal.returns-clause-ok
returns-clause-ok c =
    layout_taken serve_layout serve_app of_serve c.args.words.now _ c.given_of.result c.in-Ok.ensures
    c.given_of.ensures.found c.given_of.ensures.taken

pub returns-clause-refused : goal.returns-clause-refused
returns-clause-refused c = λ is.
    layout_refused serve_layout serve_app of_serve c.args.words.now _ c.in-Ok.ensures
    (c.given_of.ensures.refused is)
