use Rattle.std.proofs.Common.{◌≡◌, Option, Some, None, refl, sym, subst}
use Rattle.adb_client.specs.declared.about.Want.{Want}
use Rattle.adb_history.specs.Rows.{Client, State}
use Rattle.adb_laws_resting.specs.Wanted.{CanBeDone}
use Rattle.adb_laws_resting.proofs.WantedStates.{can_be_done}
use Rattle.adb_hub_tables.specs.Tables.{state_of}
use Rattle.adb_hub_clients.specs.Binding.{IsWanted, WantsForward}
use Rattle.adb_hub_clients.proofs.bounds.bound.Goals as goal

wants : (s : State) (c : _) → CanBeDone s → WantsForward (s.clients c)
wants s c can = by_row (s.clients c) refl
  where
    by_want : (client : Client) → s.clients c ≡ Some client → (want : Option Want) → client.about.want ≡ want → IsWanted want
    by_want client here None is = tt
    by_want client here (Some want) is = can.wanted c client here want is

    by_row : (row : Option Client) → s.clients c ≡ row → WantsForward row
    by_row None here = tt
    by_row (Some client) here = by_want client here client.about.want refl

pub bind_client-requires-clause-wants : goal.bind_client-requires-clause-wants
bind_client-requires-clause-wants c =
    let reached = c.requires.reached in
    wants (state_of c.args.tables.now) c.args.client
    (subst CanBeDone (sym reached.is) (can_be_done reached.history reached.legal))
