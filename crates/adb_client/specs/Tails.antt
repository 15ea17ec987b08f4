-- How what is held behind a front is kept.
use Rattle.std.specs.Prelude.{ℕ, ◌≡◌, ◌+◌, ◌<◌, ◌^◌, ◌++◌, List, length}
use Rattle.std.specs.List.{concat}
use Rattle.adb_client.specs.declared.tail.Tail.TheInside.{Inside}

-- the bytes of the pieces, and those that are gathered
abbrev pub bytes_of : Inside → List ℕ
bytes_of t = concat t.pieces.items ++ t.gathered

-- The bytes in pieces are counted, and all can be.
pub record IsTail (t : Inside) : Type 0 where
  pub counted : t.in_pieces ≡ length (concat t.pieces.items)
  pub bounded : t.in_pieces + length t.gathered < 2 ^ 63
