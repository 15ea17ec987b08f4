-- What a door reports that closed.
use Rattle.std.proofs.Common.{List, Option, Some, None}
use Rattle.adb_outside.specs.Outside.{TellsOneMore}
use Rattle.adb_connections.specs.declared.door.Arrival.{Arrival}
use Rattle.adb_connections.specs.declared.door.Arrival.TheVariants as came
use Rattle.adb_server_hall.specs.Telling.{Telling}
use Rattle.adb_server_client_reader.specs.declared.admitting.Admitted.{Admitted}
use Rattle.adb_server_client_reader.specs.declared.admitting.Admitted.TheVariants.{Closed}
use Rattle.adb_server_client_reader.specs.Admitting.{ComesBy, IsAdmission}
use Rattle.adb_server.specs.Served.{HasClosed}

closed_by : (I O X Z E M K : Type 0) (arrival : Arrival) (before after : Option (List Arrival))
    → ComesBy {I = I} {O = O} {X = X} {Z = Z} {E = E} {M = M} {K = K} arrival Closed → TellsOneMore before arrival after → HasClosed after
closed_by I O X Z E M K arrival before None comes told = tt
closed_by I O X Z E M K came.Closed before (Some answers) comes (told, was, is) = (told, is)
closed_by I O X Z E M K came.Failed before (Some answers) comes told = absurd comes
closed_by I O X Z E M K came.Port before (Some answers) comes told = absurd comes
closed_by I O X Z E M K came.Device before (Some answers) comes told = absurd comes
closed_by I O X Z E M K (came.Forward port) before (Some answers) comes told = absurd comes

-- A door that admitted nobody since it is closed reported that last.
pub closed_last : {I O X Z E M K : Type 0} (a b : Option Telling) (before after : Option (List Arrival))
    → IsAdmission {I = I} {O = O} {X = X} {Z = Z} {E = E} {M = M} {K = K} Closed a b before after → HasClosed after
closed_last {I = I} {O = O} {X = X} {Z = Z} {E = E} {M = M} {K = K} a b before after is =
    closed_by I O X Z E M K is.arrival before after is.comes is.asked
