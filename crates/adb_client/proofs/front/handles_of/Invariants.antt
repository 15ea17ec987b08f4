use Rattle.std.proofs.Common.{◌≡◌, All, vec_len}
use Rattle.adb_client.specs.Input.{EndsWith}
use Rattle.adb_client.proofs.front.handles_of.Given as goal

abbrev pub invariant-loop : goal.invariant-loop
invariant-loop l = All (EndsWith l.front) l.handles.items × (vec_len l.handles ≡ l.counter)
