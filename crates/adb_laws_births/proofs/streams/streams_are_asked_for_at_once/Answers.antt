use Rattle.adb_laws_births.proofs.Asking.{asks_at_once}
use Rattle.adb_laws_births.proofs.streams.streams_are_asked_for_at_once.Goals as goal

pub returns : goal.returns
returns c = asks_at_once
