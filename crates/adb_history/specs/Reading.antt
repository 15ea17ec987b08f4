-- Bytes that come from clients, listeners that stand, and clients that come.
use Rattle.std.specs.Prelude.{ℕ, ◌+◌, Bool, true, false, if◌then◌else◌, List, [], ◌++◌, Option, Some, None}
use Rattle.adb_outside.specs.Tables.{at, put_row, without}
use Rattle.adb_outside.specs.declared.kinds.Kind.{Kind}
use Rattle.adb_registry.specs.Registry.{attached}
use Rattle.adb_forward.specs.declared.row.ForwardRow.{ForwardRow}
use Rattle.adb_client.specs.declared.phase.Phase.{Phase}
use Rattle.adb_client.specs.declared.phase.Phase.TheVariants.{Asking, Opening, Streaming, Binding, Tracking}
use Rattle.adb_client.specs.declared.about.Want.{Want}
use Rattle.adb_reply.specs.declared.answer.Next.{Next}
use Rattle.adb_reply.specs.declared.answer.Next.TheVariants as what
use Rattle.adb_history.specs.Rows.{Client, State, new_client, new_link, to_client, with_held}
use Rattle.adb_history.specs.Events.{Made, quietly, then_also}
use Rattle.adb_history.specs.Links.{server_cnxn, owe_link, is_connected}
use Rattle.adb_history.specs.Clients.{owe_client, closes, closes_with}
use Rattle.adb_history.specs.Streams.{opens}
use Rattle.adb_history.specs.Tracking.{mark_all}
use Rattle.adb_history.specs.Forwarding.{Binding as Bound, bound_by, put_forward}
use Rattle.adb_history.specs.Asking.{Asked, asks_with}
use Rattle.adb_history.specs.Losing.{stops}

-- ---- join, and enter
abbrev pub comes : Bool → ℕ → State → State
comes forwarded c s = record s { joined = s.joined + 1; clients = put_row c (Some (new_client forwarded c)) s.clients }

-- a client came through a forward that leads nowhere: it is gone at once
abbrev pub comes_in_vain : State → State
comes_in_vain s = record s { joined = s.joined + 1 }

abbrev pub enters_by : ℕ → Option ForwardRow → State → Made
enters_by c None s = quietly (comes_in_vain s)
enters_by c (Some row) s =
    if is_connected row.transport s.devices then opens true c row.transport row.remote (comes true c s)
    else quietly (comes_in_vain s)

-- enter
abbrev pub enters : ℕ → ℕ → State → Made
enters c port s = enters_by c (at port s.forwards) s

-- ---- attach
abbrev pub plugs_in : ℕ → Kind → List ℕ → State → Made
plugs_in t kind serial s =
    owe_link t server_cnxn (mark_all (record s { devices = attached kind serial s.devices; links = put_row t (Some new_link) s.links }))

-- ---- read
-- a client tracks the list of the devices from now on
abbrev pub tracks : Bool → Client → Option Client
tracks long c = Some (record c { about = record c.about { phase = Tracking; long = long; mark = false }; held = [] })

-- a client waits for the listener of a forward
abbrev pub awaits : Want → Client → Option Client
awaits want c = Some (record c { about = record c.about { phase = Binding; want = Some want }; held = [] })

-- what follows the last request of a client, when its reply is due
abbrev pub goes_on : Option Next → ℕ → State → Made
goes_on None c s = quietly s
goes_on (Some what.Close) c s = quietly (closes c s)
goes_on (Some (what.Select id)) c s = quietly s
goes_on (Some (what.Track long)) c s = quietly (to_client c (tracks long) s)
goes_on (Some (what.Open transport service)) c s = opens false c transport service s
goes_on (Some (what.Bind transport local remote chosen)) c s =
    quietly (to_client c (awaits (record { transport = transport; local = local; remote = remote })) s)
goes_on (Some (what.Rebind transport local remote)) c s =
    quietly (closes c (record s { forwards = put_forward local transport remote s.devices s.forwards }))
goes_on (Some (what.Unbind local)) c s = quietly (closes c (record s { forwards = without local s.forwards }))
goes_on (Some what.UnbindAll) c s = quietly (closes c (record s { forwards = [] }))
goes_on (Some what.Stop) c s = stops c s

-- what a client asked before the bytes that come now
abbrev pub asked_before : Client → Asked
asked_before c = record { replies = []; used = 0; rest = c.held; selected = c.about.selected; next = None }

abbrev pub has_asked : Asked → Client → Option Client
has_asked q c = Some (record c { about = record c.about { selected = q.selected }; held = q.rest })

-- a client asked: the replies become due
abbrev pub asks : Asked → ℕ → State → Made
asks q c s = then_also (owe_client c q.replies (to_client c (has_asked q) s)) (goes_on q.next c)

abbrev pub reads_in : Phase → ℕ → List ℕ → Client → State → Made
reads_in Asking c bytes client s = asks (asks_with s.devices s.forwards bytes (asked_before client)) c s
reads_in (Opening l) c bytes client s = quietly (to_client c (with_held (client.held ++ bytes)) s)
reads_in (Streaming l) c bytes client s = quietly (to_client c (with_held (client.held ++ bytes)) s)
reads_in _ c bytes client s = quietly s

abbrev pub reads_from : Option Client → ℕ → List ℕ → State → Made
reads_from None c bytes s = quietly s
reads_from (Some client) c bytes s = reads_in client.about.phase c bytes client s

-- read
abbrev pub reads : ℕ → List ℕ → State → Made
reads c bytes s = reads_from (s.clients c) c bytes s

-- ---- bound
abbrev pub bound_to : ℕ → Bound → State → Made
bound_to c b s = closes_with c b.reply (record s { forwards = b.forwards })

abbrev pub bound_for : Option Want → ℕ → ℕ → State → Made
bound_for None c port s = quietly s
bound_for (Some want) c port s = bound_to c (bound_by want port s.devices s.forwards) s

abbrev pub bound_in : Phase → Option Want → ℕ → ℕ → State → Made
bound_in Binding want c port s = bound_for want c port s
bound_in _ want c port s = quietly s

abbrev pub bound_at : Option Client → ℕ → ℕ → State → Made
bound_at None c port s = quietly s
bound_at (Some client) c port s = bound_in client.about.phase client.about.want c port s

-- bound: the listener of a client stands at a port, or could not be made
abbrev pub bound : ℕ → ℕ → State → Made
bound c port s = bound_at (s.clients c) c port s
