-- Forwards of local ports, and the listeners that wait for theirs (SERVICES.TXT, `<host-prefix>:forward`).
use Rattle.std.specs.Prelude.{ℕ, ◌==◌, Bool, if◌then◌else◌, ◌&&◌, ◌||◌, not, List, [], ◌++◌, length, Option, Some, None, codes, decimal}
use Rattle.std.specs.Prelude.{is_some, is_none, filter}
use Rattle.adb_outside.specs.Tables.{at, put_at}
use Rattle.adb_registry.specs.Registry.{DeviceTable}
use Rattle.adb_registry.specs.declared.row.Row.{Row}
use Rattle.adb_forward.specs.Forwards.{forward_row}
use Rattle.adb_forward.specs.declared.row.ForwardRow.{ForwardRow}
use Rattle.adb_forward.specs.declared.table.TheConstants.{MAX_FORWARDS}
use Rattle.adb_client.specs.declared.about.Want.{Want}
use Rattle.adb_reply.specs.Strings.{string, failed}
use Rattle.adb_reply.specs.Refusals.{no_transport}

-- the forwards with one more, or another one at its port; a device that is gone gives none
abbrev pub forwards_with : (local transport : ℕ) → List ℕ → Option Row → List (ℕ × ForwardRow) → List (ℕ × ForwardRow)
forwards_with local transport remote None forwards = forwards
forwards_with local transport remote (Some row) forwards = put_at local (forward_row local transport row.serial remote) forwards

abbrev pub put_forward : (local transport : ℕ) → List ℕ → DeviceTable → List (ℕ × ForwardRow) → List (ℕ × ForwardRow)
put_forward local transport remote devices forwards = forwards_with local transport remote (at transport devices.rows) forwards

-- the forwards of other transports
abbrev pub forwards_without : ℕ → List (ℕ × ForwardRow) → List (ℕ × ForwardRow)
forwards_without transport forwards = filter (λ entry. not (entry.1.transport == transport)) forwards

-- what becomes of the forward that a client wants
pub record Binding : Type 0 where
  pub reply : List ℕ
  pub forwards : List (ℕ × ForwardRow)

-- the port of a listener that was left to choose it is told
abbrev pub told_port : (asked port : ℕ) → List ℕ
told_port asked port = if asked == 0 then string (decimal port) else []

-- whether a listener that stands at a port, or none at 0, cannot serve who asked for a port
abbrev pub is_unbound : (asked port : ℕ) → List (ℕ × ForwardRow) → Bool
is_unbound asked port forwards = (port == 0) || (not (asked == 0) && not (asked == port)) || is_some (at port forwards)

-- Bound: what a client is told whose listener stands at a port, or could not be made, and the forwards then.
abbrev pub bound_by : Want → ℕ → DeviceTable → List (ℕ × ForwardRow) → Binding
bound_by want port devices forwards =
    if is_unbound want.local port forwards then record { reply = (failed (codes "cannot bind listener")).bytes; forwards = forwards }
    else (if is_none (at want.transport devices.rows) then record { reply = (failed no_transport).bytes; forwards = forwards }
    else (if length forwards == MAX_FORWARDS then record { reply = (failed (codes "too many forwards")).bytes; forwards = forwards }
    else record {
      reply = codes "OKAYOKAY" ++ told_port want.local port;
      forwards = put_forward port want.transport want.remote devices forwards;
    }))
