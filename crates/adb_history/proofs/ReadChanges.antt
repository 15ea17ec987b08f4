-- What becomes of the rows when bytes are read from a client: those of other clients stay, and what is due grows by what is told.
use Rattle.std.proofs.Common.{ℕ, ◌≡◌, ◌≤◌, Bool, true, false, cond, List, [], ◌∷◌, ◌++◌, Option, Some, None, refl, sym, subst}
use Rattle.std.proofs.Common.{eqb, zero, suc}
use Rattle.std.proofs.lemmas.List.{append-nil}
use Rattle.std.specs.Prelude.{option_and_then}
use Rattle.std.specs.List.Sorted.{IsStrictlySortedBy}
use Rattle.adb_outside.specs.Tables.{IsRising, without, Rows}
use Rattle.adb_registry.specs.declared.row.Row.{Row}
use Rattle.adb_forward.specs.declared.row.ForwardRow.{ForwardRow}
use Rattle.adb_stream.specs.declared.row.Stream.{Stream}
use Rattle.adb_client.specs.declared.phase.Phase.{Phase}
use Rattle.adb_client.specs.declared.phase.Phase.TheVariants.{Asking, Opening, Streaming, Binding}
use Rattle.adb_client.specs.declared.about.Want.{Want}
use Rattle.adb_reply.specs.declared.answer.Next.{Next}
use Rattle.adb_reply.specs.declared.answer.Next.TheVariants as what
use Rattle.adb_history.specs.Rows.{Client, State, to_client, with_held}
use Rattle.adb_history.specs.Events.{Made, Event, quietly, then_also, owed_to, spelled_to, ended}
use Rattle.adb_history.specs.declared.ending.Ending.TheVariants.{Stopped}
use Rattle.adb_history.specs.Clients.{owe_client, closes, closes_with}
use Rattle.adb_history.specs.Streams.{opens}
use Rattle.adb_history.specs.Forwarding.{Binding as Bound, bound_by, put_forward}
use Rattle.adb_history.specs.Asking.{Asked, asks_with}
use Rattle.adb_history.specs.Losing.{tells_stop, all_stop, only_client, stops}
use Rattle.adb_history.specs.Reading.{tracks, awaits, goes_on, asked_before, has_asked, asks, reads_in, reads_from, bound_to, bound_for}
use Rattle.adb_history.specs.Reading.{bound_in, bound_at}
use Rattle.adb_history.proofs.Growing.{RowStep, row_same, row_goes, ClientStays, client_same, LinkStays, link_same, ClientOwes, client_then}
use Rattle.adb_history.proofs.Growing.{Chain, joins_due, owed_append, spelled_append, both_none}
use Rattle.adb_history.proofs.Growing.{Keeps, keeps_all, keeps_owe_client}
use Rattle.adb_history.proofs.GrowingRules.{keeps_closes, keeps_closes_with, keeps_opens}
use Rattle.adb_history.proofs.Changes.{HasRowsWithin, Fate, Stay, LinkStay, link_stay_on, Changes, changes_then, changes_weaker}
use Rattle.adb_history.proofs.Changes.{changes_keeps, stays_then, changes_tables}
use Rattle.adb_history.proofs.AnswersWithin.{NextWithin, asks_within}

-- A client that was read from is owed what is told; another one stays.
pub record ReadBy (here : Bool) (a b : Client) (told : List ℕ) : Type 0 where
  pub due : b.due ≡ a.due ++ told
  pub others : here ≡ false → ClientStays a b told

abbrev pub ReadOn : ℕ → Fate Client
ReadOn c k a b told = ReadBy (eqb c k) a b told

module _ (came plugged c : ℕ) where
  abbrev reads_on : ℕ → Chain Client
  reads_on n = record {
    first = ReadOn c n;
    next = ReadOn c n;
    both = ReadOn c n;
    follows = λ x y z t u h i. record {
      due = joins_due x.due y.due z.due t u h.due i.due;
      others = λ e. client_then x y z t u (h.others e) (i.others e);
    };
  }

  pub reads_then : (s : State) (m : Made) (rule : State → Made) → Changes came plugged (ReadOn c) LinkStay s m
      → Changes came plugged (ReadOn c) LinkStay m.state (rule m.state) → Changes came plugged (ReadOn c) LinkStay s (then_also m rule)
  reads_then s m rule h i =
      changes_then came plugged reads_on link_stay_on s m rule h i

  read_stays : (s : State) (m : Made) → Changes came plugged Stay LinkStay s m → Changes came plugged (ReadOn c) LinkStay s m
  read_stays s m h = changes_weaker came plugged Stay (ReadOn c) LinkStay LinkStay
      (λ n a b t i. record { due = i.due; others = λ e. i }) (λ n a b t i. i) s m h

  pub read_keeps : (s : State) (m : Made) → Keeps came plugged s m → Changes came plugged (ReadOn c) LinkStay s m
  read_keeps s m h = read_stays s m (changes_keeps came plugged s m h)

  -- the client's own row changes
  read_to_client : (f : Client → Option Client) (s : State) → ((a : Client) → RowStep ClientOwes (Some a) (f a) [])
      → Changes came plugged (ReadOn c) LinkStay s (quietly (to_client c f s))
  read_to_client f s at = record {
    clients = λ k. go (eqb c k) (s.clients k);
    links = λ t. row_same LinkStays link_same (s.links t);
    told = record { clients = λ c lt. refl; links = λ t lt. refl };
    streams = λ h. h;
    rows = λ h. h;
    joined = refl;
    drawn = refl;
  }
    where
      row : (a : Client) (o : Option Client) → RowStep ClientOwes (Some a) o [] → RowStep (ReadBy true) (Some a) o []
      row a None h = tt
      row a (Some b) h = record { due = h; others = λ e. cc }

      go : (here : Bool) (o : Option Client) → RowStep (ReadBy here) o (cond here (option_and_then f o) o) []
      go true None = tt
      go true (Some a) = row a (f a) (at a)
      go false None = tt
      go false (Some a) = record { due = sym (append-nil a.due); others = λ e. client_same a }

  -- ---- kill
  stops_told : (k : ℕ) (streams : Rows (Option Stream)) → ((n : ℕ) → owed_to n (all_stop k streams) ≡ [])
      × ((t : ℕ) → spelled_to t (all_stop k streams) ≡ [])
  stops_told zero streams = (λ n. refl, λ t. refl)
  stops_told (suc k) streams =
      let before = stops_told k streams in
      let last = one (streams (suc k)) in (
        λ n. both_none (owed_to n (all_stop k streams)) (owed_to n (tells_stop (suc k) (streams (suc k))))
            (owed_to n (all_stop (suc k) streams))
            (owed_append n (all_stop k streams) (tells_stop (suc k) (streams (suc k)))) (before.0 n) (last.0 n),
        λ t. both_none (spelled_to t (all_stop k streams)) (spelled_to t (tells_stop (suc k) (streams (suc k))))
            (spelled_to t (all_stop (suc k) streams))
            (spelled_append t (all_stop k streams) (tells_stop (suc k) (streams (suc k)))) (before.1 t) (last.1 t),
      )
    where
      one : (o : Option Stream) → ((n : ℕ) → owed_to n (tells_stop (suc k) o) ≡ []) × ((t : ℕ) → spelled_to t (tells_stop (suc k) o) ≡ [])
      one None = (λ n. refl, λ t. refl)
      one (Some stream) = orphaned stream.part.orphan
        where
          orphaned : (orphan : Bool) → ((n : ℕ) → owed_to n (cond orphan [] (ended (suc k) Stopped ∷ [])) ≡ [])
              × ((t : ℕ) → spelled_to t (cond orphan [] (ended (suc k) Stopped ∷ [])) ≡ [])
          orphaned true = (λ n. refl, λ t. refl)
          orphaned false = (λ n. refl, λ t. refl)

  abbrev emptied : State → State
  emptied s = record s {
    clients = only_client c s.clients;
    links = λ _. None;
    streams = λ _. None;
    devices = record s.devices { rows = [] };
    forwards = [];
    stopped = true;
  }

  none_rise : IsRising (let rows : List (ℕ × Row) = [] in rows)
  unfolding IsStrictlySortedBy
  none_rise = tt

  empties : (s : State) → Changes came plugged (ReadOn c) LinkStay s (quietly (emptied s))
  empties s = record {
    clients = λ k. go (eqb c k) (s.clients k);
    links = λ t. row_goes LinkStays (s.links t) [];
    told = record { clients = λ c lt. refl; links = λ t lt. refl };
    streams = λ h l. tt;
    rows = λ h. record { rises = none_rise; above = λ t lt. refl };
    joined = refl;
    drawn = refl;
  }
    where
      go : (here : Bool) (o : Option Client) → RowStep (ReadBy here) o (cond here o None) []
      go true None = tt
      go true (Some a) = record { due = sym (append-nil a.due); others = λ e. client_same a }
      go false None = tt
      go false (Some a) = tt

  -- what is told that is due to nobody
  read_told : (told : List Event) (s : State) → ((n : ℕ) → owed_to n told ≡ []) → ((t : ℕ) → spelled_to t told ≡ [])
      → Changes came plugged (ReadOn c) LinkStay s (record { state = s; told = told })
  read_told told s none links_none =
      let same = read_keeps s (quietly s) (keeps_all came plugged s) in
      record {
        clients = λ k. subst (λ (x : List ℕ). RowStep (ReadOn c k) (s.clients k) (s.clients k) x) (sym (none k)) (same.clients k);
        links = λ t. subst (λ (x : List ℕ). RowStep LinkStays (s.links t) (s.links t) x) (sym (links_none t)) (same.links t);
        told = record { clients = λ k lt. none k; links = λ t lt. links_none t };
        streams = λ h. h;
        rows = λ h. h;
        joined = refl;
        drawn = refl;
      }

  pub read_stops : (s : State) → Changes came plugged (ReadOn c) LinkStay s (stops c s)
  read_stops s =
      let events = all_stop s.drawn s.streams in
      let quiet = stops_told s.drawn s.streams in
      reads_then s (quietly (closes c (emptied s))) (λ x. record { state = x; told = events })
      (reads_then s (quietly (emptied s)) (λ x. quietly (closes c x)) (empties s)
      (read_keeps (emptied s) (quietly (closes c (emptied s))) (keeps_closes came plugged c (emptied s))))
      (read_told events (closes c (emptied s)) quiet.0 quiet.1)

  -- ---- what follows the last request
  read_forwards : (forwards : List (ℕ × ForwardRow)) (s : State)
      → Changes came plugged (ReadOn c) LinkStay s (quietly (closes c (record s { forwards = forwards })))
  read_forwards forwards s =
      let next = record s { forwards = forwards } in
      reads_then s (quietly next) (λ x. quietly (closes c x))
      (read_stays s (quietly next) (changes_tables came plugged s.devices forwards s.stopped s refl (λ h. h)))
      (read_keeps next (quietly (closes c next)) (keeps_closes came plugged c next))

  pub read_goes_on : (next : Option Next) (s : State) → c ≤ came → NextWithin plugged next
      → Changes came plugged (ReadOn c) LinkStay s (goes_on next c s)
  read_goes_on None s le within = read_keeps s (quietly s) (keeps_all came plugged s)
  read_goes_on (Some what.Close) s le within = read_keeps s (quietly (closes c s)) (keeps_closes came plugged c s)
  read_goes_on (Some (what.Select id)) s le within = read_keeps s (quietly s) (keeps_all came plugged s)
  read_goes_on (Some (what.Track long)) s le within = read_to_client (tracks long) s (λ a. sym (append-nil a.due))
  read_goes_on (Some (what.Open transport service)) s le within =
      read_keeps s (opens false c transport service s) (keeps_opens came plugged false c transport service s le within)
  read_goes_on (Some (what.Bind transport local remote chosen)) s le within =
      read_to_client (awaits (record { transport = transport; local = local; remote = remote })) s (λ a. sym (append-nil a.due))
  read_goes_on (Some (what.Rebind transport local remote)) s le within =
      read_forwards (put_forward local transport remote s.devices s.forwards) s
  read_goes_on (Some (what.Unbind local)) s le within = read_forwards (without local s.forwards) s
  read_goes_on (Some what.UnbindAll) s le within = read_forwards [] s
  read_goes_on (Some what.Stop) s le within = read_stops s

  pub read_asks : (q : Asked) (s : State) → c ≤ came → NextWithin plugged q.next → Changes came plugged (ReadOn c) LinkStay s (asks q c s)
  read_asks q s le within =
      let next = to_client c (has_asked q) s in
      let told = owe_client c q.replies next in
      reads_then s told (goes_on q.next c)
      (reads_then s (quietly next) (λ x. owe_client c q.replies x) (read_to_client (has_asked q) s (λ a. sym (append-nil a.due)))
      (read_keeps next told (keeps_owe_client came plugged c q.replies next le)))
      (read_goes_on q.next told.state le within)

  -- ---- read
  read_held : (bytes : List ℕ) (client : Client) (s : State)
      → Changes came plugged (ReadOn c) LinkStay s (quietly (to_client c (with_held (client.held ++ bytes)) s))
  read_held bytes client s = read_to_client (with_held (client.held ++ bytes)) s (λ a. sym (append-nil a.due))

  read_in : (phase : Phase) (bytes : List ℕ) (client : Client) (s : State) → c ≤ came → HasRowsWithin plugged s.devices
      → Changes came plugged (ReadOn c) LinkStay s (reads_in phase c bytes client s)
  read_in Asking bytes client s le within =
      read_asks (asks_with s.devices s.forwards bytes (asked_before client)) s le
      (asks_within plugged s.devices within s.forwards bytes (asked_before client) tt)
  read_in (Opening l) bytes client s le within = read_held bytes client s
  read_in (Streaming l) bytes client s le within = read_held bytes client s
  read_in _ bytes client s le within = read_keeps s (quietly s) (keeps_all came plugged s)

  pub read_from : (o : Option Client) (bytes : List ℕ) (s : State) → c ≤ came → HasRowsWithin plugged s.devices
      → Changes came plugged (ReadOn c) LinkStay s (reads_from o c bytes s)
  read_from None bytes s le within = read_keeps s (quietly s) (keeps_all came plugged s)
  read_from (Some client) bytes s le within = read_in client.about.phase bytes client s le within

-- ---- bound
module _ (came plugged : ℕ) where
  changes_bound_to : (c : ℕ) (b : Bound) (s : State) → c ≤ came → Changes came plugged Stay LinkStay s (bound_to c b s)
  changes_bound_to c b s le =
      let next = record s { forwards = b.forwards } in
      stays_then came plugged s (quietly next) (λ x. closes_with c b.reply x)
      (changes_tables came plugged s.devices b.forwards s.stopped s refl (λ h. h))
      (changes_keeps came plugged next (closes_with c b.reply next) (keeps_closes_with came plugged c b.reply next le))

  changes_bound_for : (want : Option Want) (c port : ℕ) (s : State) → c ≤ came
      → Changes came plugged Stay LinkStay s (bound_for want c port s)
  changes_bound_for None c port s le = changes_keeps came plugged s (quietly s) (keeps_all came plugged s)
  changes_bound_for (Some want) c port s le = changes_bound_to c (bound_by want port s.devices s.forwards) s le

  changes_bound_in : (phase : Phase) (want : Option Want) (c port : ℕ) (s : State) → c ≤ came
      → Changes came plugged Stay LinkStay s (bound_in phase want c port s)
  changes_bound_in Binding want c port s le = changes_bound_for want c port s le
  changes_bound_in _ want c port s le = changes_keeps came plugged s (quietly s) (keeps_all came plugged s)

  pub changes_bound : (o : Option Client) (c port : ℕ) (s : State) → c ≤ came → Changes came plugged Stay LinkStay s (bound_at o c port s)
  changes_bound None c port s le = changes_keeps came plugged s (quietly s) (keeps_all came plugged s)
  changes_bound (Some client) c port s le = changes_bound_in client.about.phase client.about.want c port s le
