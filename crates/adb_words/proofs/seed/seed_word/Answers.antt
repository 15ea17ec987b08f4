use Rattle.std.proofs.Common.{Err, ap, subst, ◌≡◌, ◌≢◌, ◌⊎◌, false, []}
use Rattle.clap.specs.Words.{App, fault_of}
use Rattle.adb_words.specs.declared.command.WordsError.TheVariants.{Usage}
use Rattle.adb_words.specs.Apps.{seed_app}
use Rattle.adb_words.specs.Words.{are_operands, texts}
use Rattle.adb_words.proofs.Plain.{refused_texts, same_error}
use Rattle.adb_words.proofs.Seeds.{seed_refused, seed_found, seed_given, never_refused}
use Rattle.adb_words.proofs.seed.seed_word.Goals as goal

pub returns-in-Ok-operands_of-clause-ok : goal.returns-in-Ok-operands_of-clause-ok
returns-in-Ok-operands_of-clause-ok c =
    let m = c.in-Ok-operands_of.matches in
    let found = seed_found c.args.name.now c.args.words.now _ m c.in-Ok.ensures c.in-Ok-operands_of.ensures.found
    c.in-Ok-operands_of.ensures.taken in
    seed_given (texts c.args.words.now) found.seed c.seed_in.result found.is (c.seed_in.ensures found.seed found.found)

pub returns-in-Ok-operands_of-clause-refused : goal.returns-in-Ok-operands_of-clause-refused
returns-in-Ok-operands_of-clause-refused c = λ is.
    let m = c.in-Ok-operands_of.matches in
    let found = seed_found c.args.name.now c.args.words.now _ m c.in-Ok.ensures c.in-Ok-operands_of.ensures.found
    c.in-Ok-operands_of.ensures.taken in
    absurd (never_refused found.seed Usage c.seed_in.result (c.seed_in.ensures found.seed found.found) is)

pub returns-in-Err-clause-refused : goal.returns-in-Err-clause-refused
returns-in-Err-clause-refused c = λ is.
    let words = texts c.args.words.now in
    seed_refused c.args.name.now words (refused_texts c.args.words.now (fault_of (seed_app c.args.name.now) words)
    (subst (λ (app : App). (are_operands c.args.words.now ≡ false) ⊎ (fault_of app words ≢ [])) c.in-Ok.ensures
    (c.in-Err.ensures.refused (ap Err (same_error c.in-Err.error Usage is)))))
