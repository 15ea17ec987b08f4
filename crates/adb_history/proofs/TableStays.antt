-- Which rules leave the devices, the links and the stop as they are.
use Rattle.std.proofs.Common.{ℕ, ◌≡◌, ◌≤◌, Bool, true, false, cond, List, [], ◌++◌, length, drop, Option, Some, None, is_some, refl, sym}
use Rattle.std.proofs.Common.{◌∙◌, ap, eqb}
use Rattle.std.specs.Prelude.{option_and_then}
use Rattle.adb_outside.specs.Tables.{at, without}
use Rattle.adb_registry.specs.Registry.{DeviceTable}
use Rattle.adb_forward.specs.declared.row.ForwardRow.{ForwardRow}
use Rattle.adb_client.specs.declared.phase.Phase.{Phase}
use Rattle.adb_client.specs.declared.phase.Phase.TheVariants.{Asking, Opening, Streaming, Binding}
use Rattle.adb_client.specs.declared.about.Want.{Want}
use Rattle.adb_reply.specs.declared.answer.Next.{Next}
use Rattle.adb_reply.specs.declared.answer.Next.TheVariants as what
use Rattle.adb_history.specs.Rows.{Client, Link, State, to_client, with_held}
use Rattle.adb_history.specs.Events.{Made, quietly}
use Rattle.adb_history.specs.Links.{is_connected}
use Rattle.adb_history.specs.Clients.{owe_client, closes, closes_with}
use Rattle.adb_history.specs.Streams.{opens}
use Rattle.adb_history.specs.Forwarding.{Binding as Bound, bound_by, put_forward}
use Rattle.adb_history.specs.Asking.{Asked, asks_with}
use Rattle.adb_history.specs.Reading.{comes, comes_in_vain, enters_by, tracks, awaits, goes_on, asked_before, has_asked, asks, reads_in}
use Rattle.adb_history.specs.Reading.{bound_to}
use Rattle.adb_history.specs.Reading.{bound_for, bound_in, bound_at}
use Rattle.adb_history.specs.Handing.{lists_first, hands, client_left, takes_of, puts_to, link_hands, sends}
use Rattle.adb_history.specs.Book.{kills}
use Rattle.adb_history.proofs.Growing.{AreWithin, Keeps}
use Rattle.adb_history.proofs.GrowingRules.{keeps_closes, keeps_closes_with, keeps_opens}
use Rattle.adb_history.proofs.GrowingPackets.{keeps_lists_first, keeps_client_left}
use Rattle.adb_history.proofs.Changes.{HasRowsWithin}
use Rattle.adb_history.proofs.AnswersWithin.{NextWithin, asks_within, row_within}
use Rattle.adb_history.proofs.OutputEntries.{connected_is}

-- The devices stay, and the links that live.
pub record StaysTables (s : State) (m : Made) : Type 0 where
  pub devices : m.state.devices ≡ s.devices
  pub stopped : m.state.stopped ≡ s.stopped
  pub linked : (t : ℕ) → is_some (m.state.links t) ≡ is_some (s.links t)

-- All are gone.
pub record IsStopped (s : State) (m : Made) : Type 0 where
  pub rows : m.state.devices.rows ≡ []
  pub drawn : m.state.devices.drawn ≡ s.devices.drawn
  pub links : (t : ℕ) → m.state.links t ≡ None
  pub forwards : m.state.forwards ≡ []
  pub stopped : m.state.stopped ≡ true

pub tables_keep : (came plugged : ℕ) (s : State) (m : Made) → Keeps came plugged s m → StaysTables s m
tables_keep came plugged s m h = record { devices = h.devices; stopped = h.stopped; linked = h.linked }

pub tables_then : (s next : State) (m : Made) → StaysTables s (quietly next) → StaysTables next m → StaysTables s m
tables_then s next m h i = record {
  devices = i.devices ∙ h.devices;
  stopped = i.stopped ∙ h.stopped;
  linked = λ t. i.linked t ∙ h.linked t;
}

-- a state with the same tables
pub tables_same : (s next : State) → next.devices ≡ s.devices → next.stopped ≡ s.stopped → next.links ≡ s.links
    → StaysTables s (quietly next)
tables_same s next devices stopped links =
    record { devices = devices; stopped = stopped; linked = λ t. ap (λ (l : ℕ → Option Link). is_some (l t)) links }

-- by whether a kill was asked for
abbrev pub AskTables : Bool → State → Made → Type 0
AskTables false s m = StaysTables s m
AskTables true s m = IsStopped s m

module _ (came plugged c : ℕ) where
  forward_tables : (forwards : List (ℕ × ForwardRow)) (s : State) → StaysTables s (quietly (closes c (record s { forwards = forwards })))
  forward_tables forwards s =
      let next = record s { forwards = forwards } in
      tables_then s next (quietly (closes c next)) (tables_same s next refl refl refl)
      (tables_keep came plugged next (quietly (closes c next)) (keeps_closes came plugged c next))

  goes_on_tables : (next : Option Next) (s : State) → c ≤ came → NextWithin plugged next → AskTables (kills next) s (goes_on next c s)
  goes_on_tables None s le within = tables_same s s refl refl refl
  goes_on_tables (Some what.Close) s le within = tables_keep came plugged s (quietly (closes c s)) (keeps_closes came plugged c s)
  goes_on_tables (Some (what.Select id)) s le within = tables_same s s refl refl refl
  goes_on_tables (Some (what.Track long)) s le within = tables_same s (to_client c (tracks long) s) refl refl refl
  goes_on_tables (Some (what.Open transport service)) s le within =
      tables_keep came plugged s (opens false c transport service s) (keeps_opens came plugged false c transport service s le within)
  goes_on_tables (Some (what.Bind transport local remote chosen)) s le within =
      tables_same s (to_client c (awaits (record { transport = transport; local = local; remote = remote })) s) refl refl refl
  goes_on_tables (Some (what.Rebind transport local remote)) s le within =
      forward_tables (put_forward local transport remote s.devices s.forwards) s
  goes_on_tables (Some (what.Unbind local)) s le within = forward_tables (without local s.forwards) s
  goes_on_tables (Some what.UnbindAll) s le within = forward_tables [] s
  goes_on_tables (Some what.Stop) s le within =
      record { rows = refl; drawn = refl; links = λ t. refl; forwards = refl; stopped = refl }

  asks_after : (stop : Bool) (s next : State) (m : Made) → StaysTables s (quietly next) → AskTables stop next m → AskTables stop s m
  asks_after false s next m h i = tables_then s next m h i
  asks_after true s next m h i =
      record {
        rows = i.rows;
        drawn = i.drawn ∙ ap (λ (d : DeviceTable). d.drawn) h.devices;
        links =
            i.links;
        forwards = i.forwards;
        stopped = i.stopped;
      }

  only_state : (stop : Bool) (s : State) (m n : Made) → m.state ≡ n.state → AskTables stop s m → AskTables stop s n
  only_state false s m n e h = record {
    devices = sym (ap (λ (x : State). x.devices) e) ∙ h.devices;
    stopped = sym (ap (λ (x : State). x.stopped) e) ∙ h.stopped;
    linked = λ t. sym (ap (λ (x : State). is_some (x.links t)) e) ∙ h.linked t;
  }
  only_state true s m n e h = record {
    rows = sym (ap (λ (x : State). x.devices.rows) e) ∙ h.rows;
    drawn = sym (ap (λ (x : State). x.devices.drawn) e) ∙ h.drawn;
    links = λ t. sym (ap (λ (x : State). x.links t) e) ∙ h.links t;
    forwards = sym (ap (λ (x : State). x.forwards) e) ∙ h.forwards;
    stopped = sym (ap (λ (x : State). x.stopped) e) ∙ h.stopped;
  }

  pub asks_tables : (q : Asked) (s : State) → c ≤ came → NextWithin plugged q.next → AskTables (kills q.next) s (asks q c s)
  asks_tables q s le within =
      let told = owe_client c q.replies (to_client c (has_asked q) s) in
      only_state (kills q.next) s (goes_on q.next c told.state) (asks q c s) refl
      (asks_after (kills q.next) s told.state (goes_on q.next c told.state) (tables_same s told.state refl refl refl)
      (goes_on_tables q.next told.state le within))

  -- whether a client asks for a kill with these bytes
  abbrev pub asks_kill : Phase → List ℕ → Client → State → Bool
  asks_kill Asking bytes client s = kills (asks_with s.devices s.forwards bytes (asked_before client)).next
  asks_kill _ bytes client s = false

  pub reads_in_tables : (phase : Phase) (bytes : List ℕ) (client : Client) (s : State) → c ≤ came → HasRowsWithin plugged s.devices
      → AskTables (asks_kill phase bytes client s) s (reads_in phase c bytes client s)
  reads_in_tables Asking bytes client s le within =
      asks_tables (asks_with s.devices s.forwards bytes (asked_before client)) s le
      (asks_within plugged s.devices within s.forwards bytes (asked_before client) tt)
  reads_in_tables (Opening l) bytes client s le within = tables_same s (to_client c (with_held (client.held ++ bytes)) s) refl refl refl
  reads_in_tables (Streaming l) bytes client s le within = tables_same s (to_client c (with_held (client.held ++ bytes)) s) refl refl refl
  reads_in_tables _ bytes client s le within = tables_same s s refl refl refl

  -- ---- bound
  bound_to_tables : (b : Bound) (s : State) → c ≤ came → StaysTables s (bound_to c b s)
  bound_to_tables b s le =
      let next = record s { forwards = b.forwards } in
      tables_then s next (bound_to c b s) (tables_same s next refl refl refl)
      (tables_keep came plugged next (closes_with c b.reply next) (keeps_closes_with came plugged c b.reply next le))

  bound_for_tables : (want : Option Want) (port : ℕ) (s : State) → c ≤ came → StaysTables s (bound_for want c port s)
  bound_for_tables None port s le = tables_same s s refl refl refl
  bound_for_tables (Some want) port s le = bound_to_tables (bound_by want port s.devices s.forwards) s le

  bound_in_tables : (phase : Phase) (want : Option Want) (port : ℕ) (s : State) → c ≤ came → StaysTables s (bound_in phase want c port s)
  bound_in_tables Binding want port s le = bound_for_tables want port s le
  bound_in_tables _ want port s le = tables_same s s refl refl refl

  pub bound_tables : (o : Option Client) (port : ℕ) (s : State) → c ≤ came → StaysTables s (bound_at o c port s)
  bound_tables None port s le = tables_same s s refl refl refl
  bound_tables (Some client) port s le = bound_in_tables client.about.phase client.about.want port s le

  -- ---- hand-outs
  takes_tables : (n : ℕ) (o : Option Client) (s : State) → AreWithin came plugged s.streams → StaysTables s (takes_of c n o s)
  takes_tables n None s all = tables_same s s refl refl refl
  takes_tables n (Some client) s all =
      let next = to_client c (hands n) s in
      let m = client_left client.about.phase (length (drop n client.due)) next in
      tables_then s next m (tables_same s next refl refl refl)
      (tables_keep came plugged next m (keeps_client_left came plugged client.about.phase (length (drop n client.due)) next all))

  pub puts_tables : (n : ℕ) (o : Option Client) (s : State) → c ≤ came → AreWithin came plugged s.streams → StaysTables s (puts_to o c n s)
  puts_tables n None s le all = tables_same s s refl refl refl
  puts_tables n (Some client) s le all =
      let m = lists_first c client.due client s in
      let keeps = keeps_lists_first came plugged c client.due client s le in
      let first = tables_keep came plugged s m keeps in
      let second = takes_tables n (m.state.clients c) m.state (keeps.streams all) in
      record {
        devices = second.devices ∙ first.devices;
        stopped = second.stopped ∙ first.stopped;
        linked = λ t. second.linked t ∙ first.linked t;
      }

pub sends_tables : (t n : ℕ) (s : State) → StaysTables s (quietly (sends t n s))
sends_tables t n s = record { devices = refl; stopped = refl; linked = λ k. there (eqb t k) (s.links k) }
  where
    there : (here : Bool) (o : Option Link) → is_some (cond here (option_and_then (link_hands n) o) o) ≡ is_some o
    there true None = refl
    there true (Some link) = refl
    there false o = refl

pub enters_tables : (came plugged c : ℕ) (o : Option ForwardRow) (s : State) → c ≤ came
    → HasRowsWithin plugged s.devices → StaysTables s (enters_by c o s)
enters_tables came plugged c None s le within = tables_same s (comes_in_vain s) refl refl refl
enters_tables came plugged c (Some row) s le within = go (is_connected row.transport s.devices) refl
  where
    next : State
    next = comes true c s

    go : (connected : Bool) → is_connected row.transport s.devices ≡ connected
        → StaysTables s (cond connected (opens true c row.transport row.remote next) (quietly (comes_in_vain s)))
    go false e = tables_same s (comes_in_vain s) refl refl refl
    go true e =
        let m = opens true c row.transport row.remote next in
        tables_then s next m (tables_same s next refl refl refl)
        (tables_keep came plugged next m (keeps_opens came plugged true c row.transport row.remote next le
        (row_within plugged row.transport s.devices within (connected_is (at row.transport s.devices.rows) e))))
