use Rattle.std.proofs.Common.{◌≡◌, ◌++◌, map, take}
use Rattle.adb_registry.specs.Lists.{model_byte}
use Rattle.adb_registry.specs.declared.lists.TheConstants.{MAX_VALUE}
use Rattle.adb_registry.proofs.lists.push_model.Given as goal

abbrev pub invariant-loop-byte : goal.invariant-loop-byte
invariant-loop-byte l = l.list.items ≡ l.initial.list.items ++ map model_byte (take l.byte-index (take MAX_VALUE l.model))
