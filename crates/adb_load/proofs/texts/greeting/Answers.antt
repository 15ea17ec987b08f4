use Rattle.std.proofs.Common.{rules}
use Rattle.adb_load.specs.Acts.{greeting}
use Rattle.adb_load.proofs.Records.{short_by, greeting_short}
use Rattle.adb_load.proofs.texts.greeting.Goals as goal

pub returns-clause-short : goal.returns-clause-short
returns-clause-short c = short_by c.joined.result greeting greeting_short (search rules)
