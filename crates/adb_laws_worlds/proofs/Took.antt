-- The services of a model device take no more than their clients wrote.
use Rattle.std.specs.Prelude.{ℕ, ◌^◌, ◌<◌, List, ◌++◌}
use Rattle.std.proofs.Common.{sym, ◌∙◌, ap, subst, append_assoc}
use Rattle.adb_outside.specs.Bytes.{IsPrefixOf}
use Rattle.adb_history.specs.Births.{carried_in}
use Rattle.adb_history.specs.Bytes.{sent}
use Rattle.adb_history.specs.Lives.{rest_of}
use Rattle.adb_history.specs.Machine.{History, IsLegal}
use Rattle.adb_laws_fifo_up.proofs.Fifo.{up as carries_rest}
use Rattle.adb_daemon.specs.Device.{Setting}
use Rattle.adb_laws_model_device.specs.Joined.{IsJoined}
use Rattle.adb_laws_model_device.proofs.Came.{takes_carried}
use Rattle.adb_laws_worlds.specs.Took.{AllTookWritten}

-- a front of a front is a front
front_of_front : (a b c : List ℕ) → IsPrefixOf a b → IsPrefixOf b c → IsPrefixOf a c
front_of_front a b c (x, first) (y, second) = (x ++ y, sym (append_assoc a x y) ∙ (ap (λ (bytes : List ℕ). bytes ++ y) first ∙ second))

pub all_took_written : (setting : Setting) → setting.most < 2 ^ 32 → (h : History) → IsLegal h → IsJoined setting h
    → AllTookWritten setting h
all_took_written setting short h legal tied l b birth own =
    let took = takes_carried setting short h legal tied l b birth in
    let up : IsPrefixOf (carried_in l (sent 1 h)) (rest_of l b h) =
    subst (λ (t : ℕ). IsPrefixOf (carried_in l (sent t h)) (rest_of l b h)) own (carries_rest h legal l b birth) in
    record {
      live = λ row is host. subst (λ (bytes : List ℕ). IsPrefixOf bytes (rest_of l b h)) (sym (took.live row is host)) up;
      over = λ e is host. front_of_front _ (carried_in l (sent 1 h)) (rest_of l b h) (took.over e is host) up;
    }
