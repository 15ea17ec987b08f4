use Rattle.std.proofs.Common.{◌∙◌, ap, Ok, Err, refl}
use Rattle.adb_words.specs.declared.command.Command.{Command}
use Rattle.adb_words.specs.declared.command.Command.TheVariants.{Replay, Check, Gen, Local, Copy}
use Rattle.adb_words.specs.declared.command.WordsError.{WordsError}
use Rattle.adb_commands.specs.declared.script_kind.ScriptKind.TheVariants as kinds
use Rattle.adb_commands.proofs.Words.{words_named, none_named}
use Rattle.adb_commands.proofs.command.run_command.Goals as goal

pub returns-in-Ok-Replay-clause-leaves : goal.returns-in-Ok-Replay-clause-leaves
returns-in-Ok-Replay-clause-leaves g c = (
  words_named _ c.read_words.result Replay c.read_words.ensures.command
      (c.in-Ok-Replay.is ∙ ap (λ (command : Command). Ok command) c.in-Ok-Replay.field-0-is),
  c.replay.ensures.replays,
)

pub returns-in-Ok-Check-clause-leaves : goal.returns-in-Ok-Check-clause-leaves
returns-in-Ok-Check-clause-leaves g c = (
  words_named _ c.read_words.result Check c.read_words.ensures.command
      (c.in-Ok-Check.is ∙ ap (λ (command : Command). Ok command) c.in-Ok-Check.field-0-is),
  record { judges = c.check.ensures.judges; writes = c.check.ensures.line },
)

pub returns-in-Ok-Gen-clause-leaves : goal.returns-in-Ok-Gen-clause-leaves
returns-in-Ok-Gen-clause-leaves g c = (
  c.in-Ok-Gen.seed,
  c.in-Ok-Gen.streams,
  words_named _ c.read_words.result (Gen c.in-Ok-Gen.seed c.in-Ok-Gen.streams) c.read_words.ensures.command
      (c.in-Ok-Gen.is ∙ ap (λ (command : Command). Ok command) c.in-Ok-Gen.field-0-is),
  record { unread = refl; writes = c.generate.ensures.writes },
)

pub returns-in-Ok-Local-clause-leaves : goal.returns-in-Ok-Local-clause-leaves
returns-in-Ok-Local-clause-leaves g c = (
  kinds.Local,
  (
    c.in-Ok-Local.seed,
    words_named _ c.read_words.result (Local c.in-Ok-Local.seed) c.read_words.ensures.command
        (c.in-Ok-Local.is ∙ ap (λ (command : Command). Ok command) c.in-Ok-Local.field-0-is),
  ),
  record {
    refuses = c.answer.ensures.refuses;
    writes = c.answer.ensures.writes;
    whole = c.answer.ensures.whole;
    within = c.answer.ensures.within;
    unwritten = c.answer.ensures.unwritten;
  },
)

pub returns-in-Ok-Copy-clause-leaves : goal.returns-in-Ok-Copy-clause-leaves
returns-in-Ok-Copy-clause-leaves g c = (
  kinds.Copy,
  (
    c.in-Ok-Copy.seed,
    words_named _ c.read_words.result (Copy c.in-Ok-Copy.seed) c.read_words.ensures.command
        (c.in-Ok-Copy.is ∙ ap (λ (command : Command). Ok command) c.in-Ok-Copy.field-0-is),
  ),
  record {
    refuses = c.answer-in-Ok-Copy.ensures.refuses;
    writes = c.answer-in-Ok-Copy.ensures.writes;
    whole = c.answer-in-Ok-Copy.ensures.whole;
    within = c.answer-in-Ok-Copy.ensures.within;
    unwritten = c.answer-in-Ok-Copy.ensures.unwritten;
  },
)

pub returns-in-Err-Usage-clause-leaves : goal.returns-in-Err-Usage-clause-leaves
returns-in-Err-Usage-clause-leaves g c = (
  none_named _ c.read_words.result c.read_words.ensures.command
      (c.in-Err-Usage.is ∙ ap (λ (error : WordsError). Err error) c.in-Err-Usage.field-0-is),
  (refl, refl),
)

pub returns-in-Err-OutOfMemory-clause-leaves : goal.returns-in-Err-OutOfMemory-clause-leaves
returns-in-Err-OutOfMemory-clause-leaves g c = (
  c.read_words.ensures.named (c.in-Err-OutOfMemory.is ∙ ap (λ (error : WordsError). Err error) c.in-Err-OutOfMemory.field-0-is),
  (refl, refl),
)
