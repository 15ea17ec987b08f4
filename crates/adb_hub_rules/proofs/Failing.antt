-- How clients end.
use Rattle.std.proofs.Common.{ℕ, ◌≡◌, false, Option, Some, None, refl}
use Rattle.std.specs.Prelude.{is_some}
use Rattle.adb_outside.specs.declared.kinds.Cause.{Cause}
use Rattle.adb_history.specs.Rows.{Client, State}
use Rattle.adb_history.specs.Losing.{client_ends}

-- of a client that is gone nothing fails
pub none_fails : (c : ℕ) (cause : Cause) (row : Option Client) (s : State) → is_some row ≡ false → s ≡ (client_ends c cause row s).state
none_fails c cause None s none = refl
none_fails c cause (Some client) s none = cc
