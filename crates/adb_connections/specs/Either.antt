-- What a device of one of two kinds tells.
use Rattle.adb_connections.specs.declared.either.EitherIn.{EitherIn}
use Rattle.adb_connections.specs.declared.either.EitherIn.TheVariants as input
use Rattle.adb_connections.specs.declared.either.EitherOut.{EitherOut}
use Rattle.adb_connections.specs.declared.either.EitherOut.TheVariants as output

-- a value that devices of either kind have
abbrev pub of_in : {A B R : Type 0} → (A → R) → (B → R) → EitherIn A B → R
of_in first second (input.First device) = first device
of_in first second (input.Second device) = second device

-- a property of devices of either kind
abbrev pub holds_in : {A B : Type 0} → (A → Type 0) → (B → Type 0) → EitherIn A B → Type 0
holds_in first second (input.First device) = first device
holds_in first second (input.Second device) = second device

-- the same of what devices are sent
abbrev pub of_out : {A B R : Type 0} → (A → R) → (B → R) → EitherOut A B → R
of_out first second (output.First device) = first device
of_out first second (output.Second device) = second device

abbrev pub holds_out : {A B : Type 0} → (A → Type 0) → (B → Type 0) → EitherOut A B → Type 0
holds_out first second (output.First device) = first device
holds_out first second (output.Second device) = second device
