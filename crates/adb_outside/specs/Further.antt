-- What is cut of a further piece, also behind a fault.
use Rattle.std.specs.Prelude.{ℕ, List, [], ◌∷◌, ◌++◌, Option, Some, None}
use Rattle.adb_outside.specs.declared.framer.Front.{Front}
use Rattle.adb_outside.specs.declared.behind.Behind.{Behind}
use Rattle.adb_outside.specs.Framing.{Cut, joined, cut}

-- frames, and what stands behind them
abbrev pub cut_of : {S V F : Type 0} → List V → Behind S F → Cut S V F
cut_of given behind = record { given = given; reading = behind.format; rest = behind.held; fault = behind.fault }

module _ {S V F : Type 0} (find : S → List ℕ → Front F) (item : S → List ℕ → V) (after : S → List ℕ → S) where
  -- what is held behind more bytes: where there is a fault, no more is cut
  abbrev pub further_at : Cut S V F → List ℕ → Option F → Cut S V F
  further_at held piece None = joined held.given (cut find item after held.reading (held.rest ++ piece))
  further_at held piece (Some fault) = record held { rest = held.rest ++ piece }

  -- what is held behind a piece, of which nothing is made where it has no bytes
  abbrev pub further : Cut S V F → List ℕ → Cut S V F
  further held [] = held
  further held (b ∷ piece) = further_at held (b ∷ piece) held.fault
