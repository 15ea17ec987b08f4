use Rattle.std.proofs.Common.{◌∙◌}
use Rattle.adb_words.proofs.Names.{any_named}
use Rattle.adb_words.proofs.given.is_one_of.Goals as goal

pub returns : goal.returns
returns c = c.has_name.ensures ∙ any_named c.args.names.now c.args.text.now
