use Rattle.std.proofs.Common.{Err, ok_or, sym, ◌∙◌, ap, subst, ◌≡◌, ◌≢◌, ◌⊎◌, false, []}
use Rattle.clap.specs.Words.{App, fault_of}
use Rattle.adb_words.specs.declared.command.WordsError.TheVariants.{Usage}
use Rattle.adb_words.specs.Apps.{app_named}
use Rattle.adb_words.specs.Words.{are_operands, bare_of, texts}
use Rattle.adb_words.proofs.Plain.{all_texts, refusal, refused_texts}
use Rattle.adb_words.proofs.Bare.{bare_taken, bare_refused}
use Rattle.adb_words.proofs.words.read_bare.Goals as goal

pub returns-in-Ok : goal.returns-in-Ok
returns-in-Ok c = λ some.
    let words = texts c.args.words.now in
    let fault = ap (λ (app : App). fault_of app words) (sym c.named_command.ensures) in
    ap (λ ws. ok_or (bare_of c.args.command ws) Usage)
    (sym (bare_taken c.args.name.now words (sym (all_texts c.args.words.now) ∙ c.in-Ok.ensures.taken.0) (fault ∙ c.in-Ok.ensures.taken.1)))

pub returns-in-Err : goal.returns-in-Err
returns-in-Err c =
    let words = texts c.args.words.now in
    refusal c.in-Err.error (bare_of c.args.command words) (λ is. bare_refused c.args.name.now c.args.command words
    (refused_texts c.args.words.now (fault_of (app_named c.args.name.now) words)
    (subst (λ (app : App). (are_operands c.args.words.now ≡ false) ⊎ (fault_of app words ≢ [])) c.named_command.ensures
    (c.in-Err.ensures.refused (ap Err is)))))
