use Rattle.adb_laws_resting.proofs.RestingDevices.{sized}
use Rattle.adb_laws_resting.proofs.resting.no_device_takes_more.Goals as goal

pub returns : goal.returns
returns c = λ h legal t. sized h t
