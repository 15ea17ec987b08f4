-- Bytes that come from a client.
use Rattle.std.specs.Prelude.{ℕ, ◌-◌, List, ◌++◌, length, take, Option, Some}
use Rattle.adb_history.specs.Rows.{Client, State, to_client}

-- a client that holds a piece more
abbrev pub holding : List ℕ → Client → Option Client
holding piece c = Some (record c { held = c.held ++ piece })

-- a piece more is held of a client
abbrev pub takes_in : ℕ → List ℕ → State → State
takes_in c piece s = to_client c (holding piece) s

-- a client that no longer holds the last of its bytes
abbrev pub without_last : ℕ → Client → Option Client
without_last n c = Some (record c { held = take (length c.held - n) c.held })
