use Rattle.adb_laws_worlds.proofs.Unbroken.{all_outlive_link}
use Rattle.adb_laws_worlds.proofs.together.streams_outlive_a_link_that_stays.Goals as goal

pub returns : goal.returns
returns c = λ setting history short legal joined. all_outlive_link setting short history legal joined
