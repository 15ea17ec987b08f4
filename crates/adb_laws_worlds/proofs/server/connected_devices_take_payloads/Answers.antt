use Rattle.adb_laws_worlds.proofs.Payloads.{take_payloads}
use Rattle.adb_laws_worlds.proofs.server.connected_devices_take_payloads.Goals as goal

pub returns : goal.returns
returns c = take_payloads
