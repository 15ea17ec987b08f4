use Rattle.std.proofs.Common.{Err, ap, sym, ◌∙◌, option_and_then}
use Rattle.adb_words.specs.declared.command.WordsError.TheVariants.{Usage}
use Rattle.adb_words.specs.Serve.{served}
use Rattle.adb_words.specs.Words.{texts}
use Rattle.adb_words.proofs.Plain.{same_error}
use Rattle.adb_words.proofs.Serves.{serve_found, served_as}
use Rattle.adb_words.proofs.serve.read_behind.Goals as goal

pub returns-in-Ok-clause-ok : goal.returns-in-Ok-clause-ok
returns-in-Ok-clause-ok c =
    served_as (serve_found (texts c.args.words.now) c.in-Ok.matches c.in-Ok.ensures.ok) c.serve_in.result c.serve_in.ensures.ok

pub returns-in-Ok-clause-usage : goal.returns-in-Ok-clause-usage
returns-in-Ok-clause-usage c = λ is. sym (serve_found (texts c.args.words.now) c.in-Ok.matches c.in-Ok.ensures.ok)
    ∙ c.serve_in.ensures.usage is

pub returns-in-Err-clause-usage : goal.returns-in-Err-clause-usage
returns-in-Err-clause-usage c = λ is.
    ap (option_and_then served) (c.in-Err.ensures.refused (ap Err (same_error c.in-Err.error Usage is)))
