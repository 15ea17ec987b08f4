use Rattle.std.proofs.Common.{Err, ap, subst, ◌≡◌, ◌≢◌, ◌⊎◌, false, []}
use Rattle.clap.specs.Words.{App, fault_of, found_of}
use Rattle.adb_words.specs.declared.command.WordsError.TheVariants.{Usage}
use Rattle.adb_words.specs.Apps.{gen_app}
use Rattle.adb_words.specs.Words.{are_operands, texts}
use Rattle.adb_words.proofs.Plain.{refused_texts, same_error}
use Rattle.adb_words.proofs.Loads.{load_refused, load_found, load_given, never_refused}
use Rattle.adb_words.proofs.load.load_words.Goals as goal

pub returns-in-Ok-operands_of-clause-ok : goal.returns-in-Ok-operands_of-clause-ok
returns-in-Ok-operands_of-clause-ok c =
    let m = c.in-Ok-operands_of.matches in
    let load = load_found c.args.words.now _ m c.in-Ok.ensures c.in-Ok-operands_of.ensures.found c.in-Ok-operands_of.ensures.taken in
    load_given (texts c.args.words.now) (found_of m) load c.load_in.result
    (c.load_in.ensures load.seed load.streams load.seed_found load.streams_found)

pub returns-in-Ok-operands_of-clause-refused : goal.returns-in-Ok-operands_of-clause-refused
returns-in-Ok-operands_of-clause-refused c = λ is.
    let m = c.in-Ok-operands_of.matches in
    let load = load_found c.args.words.now _ m c.in-Ok.ensures c.in-Ok-operands_of.ensures.found c.in-Ok-operands_of.ensures.taken in
    absurd (never_refused load.seed load.streams Usage c.load_in.result
    (c.load_in.ensures load.seed load.streams load.seed_found load.streams_found) is)

pub returns-in-Err-clause-refused : goal.returns-in-Err-clause-refused
returns-in-Err-clause-refused c = λ is.
    let words = texts c.args.words.now in
    load_refused words (refused_texts c.args.words.now (fault_of gen_app words)
    (subst (λ (app : App). (are_operands c.args.words.now ≡ false) ⊎ (fault_of app words ≢ [])) c.in-Ok.ensures
    (c.in-Err.ensures.refused (ap Err (same_error c.in-Err.error Usage is)))))
