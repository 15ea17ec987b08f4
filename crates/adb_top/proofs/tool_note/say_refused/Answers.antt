use Rattle.std.proofs.Common.{◌∙◌}
use Rattle.adb_top.proofs.Lines.{made_said, made_starved}
use Rattle.adb_top.proofs.tool_note.say_refused.Goals as goal

pub returns-in-Ok-clause-told : goal.returns-in-Ok-clause-told
returns-in-Ok-clause-told g c = λ had has.
    made_said _ _ c.as_slice.result.now (c.as_slice.ensures ∙ c.in-Ok.ensures.line) c.say.result _ _ had _ (c.say.ensures.told had has)

pub returns-in-Err-clause-told : goal.returns-in-Err-clause-told
returns-in-Err-clause-told g c = λ had has. made_starved _ _ c.say_out_of_memory.result _ _ had _ (c.say_out_of_memory.ensures.told had has)
