-- Rules, one after another.
use Rattle.std.proofs.Common.{◌≡◌, ◌++◌, append_assoc}
use Rattle.std.proofs.lemmas.List.{append-nil}
use Rattle.adb_history.specs.Rows.{State}
use Rattle.adb_history.specs.Events.{Made, quietly, then_also}

pub made_then_none : (m : Made) → then_also m quietly ≡ m
made_then_none m = λ i. record { state = m.state; told = append-nil m.told i }

pub made_assoc : (m : Made) (f g : State → Made) → then_also (then_also m f) g ≡ then_also m (λ s. then_also (f s) g)
made_assoc m f g = λ i. record {
  state = (g (f m.state).state).state;
  told = append_assoc m.told (f m.state).told (g (f m.state).state).told i;
}
