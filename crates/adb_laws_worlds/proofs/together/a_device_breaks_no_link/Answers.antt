use Rattle.adb_laws_worlds.proofs.Unbroken.{brings_sound}
use Rattle.adb_laws_worlds.proofs.together.a_device_breaks_no_link.Goals as goal

pub returns : goal.returns
returns c = λ setting history short legal joined. brings_sound setting short history legal joined
