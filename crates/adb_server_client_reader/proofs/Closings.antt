-- Listeners that are closed one after the other.
use Rattle.std.proofs.Common.{ℕ, ◌≡◌, false, List, [], ◌∷◌, ◌++◌, Option, Some, None, Ok, Result, ap, ◌∙◌, inl, inr}
use Rattle.std.specs.Prelude.{Bool}
use Rattle.std.proofs.lemmas.List.Elements.{All-nil, All-cons, All-append}
use Rattle.adb_history.specs.Rows.{State}
use Rattle.adb_history.specs.Machine.{state}
use Rattle.adb_server_log.specs.declared.error.DeskError.{DeskError}
use Rattle.adb_desk.specs.Desk.{has_forward, or_given_by}
use Rattle.adb_binder.specs.Binder.{Closes}
use Rattle.adb_server_hall.specs.Telling.{Forwards, Telling, Where}
use Rattle.adb_server_hall.proofs.Made.{where_some}
use Rattle.adb_server_client_reader.specs.Closing.{ClosesUnused, IsUnused, Spares, Stays}
use Rattle.adb_server_client_reader.proofs.Walks.{tells_after, tells_one, tells_same}

-- ---- the hall
pub stays : (before after : Option Telling) (port : ℕ) (answer : Result Bool DeskError) → Where before (Forwards port answer) after
    → Stays before after
stays before after port answer did t is =
    let w = where_some _ before after t is did in
    w.1 ∙ ap Some w.2.same

pub stays_more : (a b d : Option Telling) → Stays a b → Stays b d → Stays a d
stays_more a b d p q t is = q t (p t is)

-- ---- the binder
closes_none : (s : State) (before after : Option (List ℕ)) → after ≡ before → ClosesUnused s before after
closes_none s before after same = record { ports = []; more = tells_same before after same; unused = All-nil (IsUnused s) }

pub spares_none : (tells : Option Telling) (before after : Option (List ℕ)) → after ≡ before → Spares tells before after
spares_none tells before after same t h is lawful = closes_none (state h) before after same

closes_one : (s : State) (before : Option (List ℕ)) (port : ℕ) (after : Option (List ℕ)) → Closes before port after
    → IsUnused s port → ClosesUnused s before after
closes_one s before port after (inl same) unused = closes_none s before after same
closes_one s before port after (inr one) unused = record {
  ports = port ∷ [];
  more = tells_one before port after one;
  unused = All-cons (IsUnused s) port [] unused (All-nil (IsUnused s));
}

-- the answer that there is no forward, of a hall that is not shut
answered_unused : (shut : Option DeskError) (has : Bool) → Ok false ≡ or_given_by shut has → has ≡ false
answered_unused None has is = cc
answered_unused (Some error) has is = cc

-- The hall answered that the port has no forward, and its listener was closed.
pub spares_one : (before after : Option Telling) (port : ℕ) (old mid new : Option (List ℕ)) → Where before (Forwards port (Ok false)) after
    → mid ≡ old → Closes mid port new → Spares before old new
spares_one before after port old mid new did same closes t h is lawful =
    let w = where_some _ before after t is did in
    closes_one (state h) old port new (rw same at closes) (answered_unused t.shut (has_forward port (state h)) (w.2.told h lawful))

pub spares_more : (first mid : Option Telling) (a b d : Option (List ℕ)) → Stays first mid → Spares first a b → Spares mid b d
    → Spares first a d
spares_more first mid a b d stays p q t h is lawful =
    let x = p t h is lawful in
    let y = q t h (stays t is) lawful in
    record {
      ports = x.ports ++ y.ports;
      more = tells_after a b d x.ports y.ports x.more y.more;
      unused = All-append (IsUnused (state h)) x.ports y.ports x.unused y.unused;
    }
