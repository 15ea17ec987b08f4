use Rattle.std.proofs.Common.{Err, ap, ◌∙◌, ok_or, option_and_then}
use Rattle.adb_words.specs.declared.command.WordsError.TheVariants.{Usage}
use Rattle.adb_words.specs.Given.{given_in}
use Rattle.adb_words.specs.Tools.{called, layout_named}
use Rattle.adb_words.specs.Words.{texts}
use Rattle.adb_words.proofs.Plain.{refusal}
use Rattle.adb_words.proofs.Tools.{call_found}
use Rattle.adb_words.proofs.tool.read_named.Goals as goal

pub returns-in-Ok : goal.returns-in-Ok
returns-in-Ok c = λ some. c.call_in.ensures some
    ∙ ap (λ o. ok_or o Usage) (call_found c.args.name.now (texts c.args.words.now) c.in-Ok.matches c.in-Ok.ensures.ok)

pub returns-in-Err : goal.returns-in-Err
returns-in-Err c =
    let name = c.args.name.now in
    let words = texts c.args.words.now in
    refusal c.in-Err.error (option_and_then (called name) (given_in (layout_named name) words))
    (λ is. ap (option_and_then (called name)) (c.in-Err.ensures.refused (ap Err is)))
