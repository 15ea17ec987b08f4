use Rattle.adb_laws_worlds.proofs.Opening.{all_are_open}
use Rattle.adb_laws_worlds.proofs.together.streams_are_open_at_rest.Goals as goal

pub returns : goal.returns
returns c = λ setting history short legal joined. all_are_open setting short history legal joined
