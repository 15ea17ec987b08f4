-- What bytes that are handed out are seen as.
use Rattle.std.specs.Prelude.{ℕ, List, ◌++◌}
use Rattle.adb_outside.specs.declared.hand_out.Store.{Store}
use Rattle.adb_outside.specs.declared.hand_out.Store.TheVariants.{Own, Shared, Framed}

-- the bytes of a text, those that are shared, or those behind a start
abbrev pub stored : Store → List ℕ
stored (Own text) = text
stored (Shared bytes) = bytes
stored (Framed start bytes) = start ++ bytes
