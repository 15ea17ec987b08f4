use Rattle.adb_sync.proofs.Commas.{last_byte_is, last_byte_within}
use Rattle.adb_sync.proofs.comma.last_comma_of.Goals as goal

pub returns : goal.returns
returns c =
    record { place = last_byte_is _ _ c.rfind_byte.ensures; within = last_byte_within _ _ c.rfind_byte.ensures }
