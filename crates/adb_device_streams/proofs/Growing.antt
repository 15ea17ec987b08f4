-- What is due, as more of it becomes due.
use Rattle.std.specs.Prelude.{ℕ, List, ◌++◌}
use Rattle.std.proofs.Common.{◌∙◌, ap}
use Rattle.std.proofs.lemmas.List.{append_assoc}
use Rattle.adb_device_streams.specs.Due.{Grows}

pub grows_on : (x y z : List ℕ) → Grows x y → Grows y z → Grows x z
grows_on x y z a b = record { more = a.more ++ b.more; is = b.is ∙ (ap (λ l. l ++ b.more) a.is ∙ append_assoc x a.more b.more) }
