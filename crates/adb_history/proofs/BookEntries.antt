-- What each entry makes of a state is what it says of a history.
use Rattle.std.proofs.Common.{ℕ, ◌+◌, ◌≡◌, ◌≢◌, ◌≤◌, ◌<◌, Bool, true, false, cond, List, [], ◌∷◌, ◌++◌, length, drop, Option, Some, None}
use Rattle.std.proofs.Common.{is_some}
use Rattle.std.proofs.Common.{refl, sym, ◌∙◌, ap, subst, arith, eqb, inl, inr, ◌⊎◌}
use Rattle.std.proofs.lemmas.Bool.{eqb-true, ne_eqb, cases_eq}
use Rattle.std.proofs.lemmas.List.Elements.{All-weaker}
use Rattle.std.specs.Prelude.{◌&&◌, ◌||◌, not}
use Rattle.adb_outside.specs.Tables.{at, put_row, put_at}
use Rattle.adb_outside.specs.declared.kinds.Cause.{Cause}
use Rattle.adb_outside.specs.declared.kinds.Kind.{Kind}
use Rattle.adb_outside.proofs.TableLaws.{puts_put_at}
use Rattle.adb_registry.specs.Registry.{DeviceTable, attached}
use Rattle.adb_registry.specs.Row.{new_row}
use Rattle.adb_registry.specs.declared.row.Row.{Row}
use Rattle.adb_forward.specs.declared.row.ForwardRow.{ForwardRow}
use Rattle.adb_wire.specs.Cutting.{cut_packets}
use Rattle.adb_stream.specs.declared.row.Stream.{Stream}
use Rattle.adb_capture.specs.declared.entry.Entry.{Entry}
use Rattle.adb_capture.specs.declared.entry.Entry.TheVariants.{Join, Enter, Attach, Recv, Detach, Put, Send}
use Rattle.adb_history.specs.Rows.{Client, Link, State, new_client, new_link, to_client}
use Rattle.adb_history.specs.declared.ending.Ending.TheVariants as ending
use Rattle.adb_history.specs.Events.{quietly, owed_to}
use Rattle.adb_history.specs.Links.{server_cnxn, is_connected}
use Rattle.adb_history.specs.Streams.{opens}
use Rattle.adb_history.specs.Tracking.{mark_all}
use Rattle.adb_history.specs.Asking.{Asked, nothing_asked}
use Rattle.adb_history.specs.Losing.{link_ends}
use Rattle.adb_history.specs.Packets.{receives_on, receives}
use Rattle.adb_history.specs.Reading.{comes, comes_in_vain, enters_by, enters, plugs_in}
use Rattle.adb_history.specs.Handing.{lists_first, hands, takes_of, puts_to, puts, sends}
use Rattle.adb_history.specs.Machine.{unplugs_on, unplugs, rule, History, state, May, MayPut, IsLegal}
use Rattle.adb_history.specs.Bytes.{has_joined, has_ended}
use Rattle.adb_history.specs.Book.{plugged_count, devices_if, book, asked, still_asks, led_by}
use Rattle.adb_history.specs.Tied.{bytes_asked, came_count}
use Rattle.adb_history.proofs.Growing.{RowStep, IsWithin, AreWithin, keeps_over, keeps_owe_link}
use Rattle.adb_history.proofs.GrowingRules.{keeps_up_all, keeps_opens}
use Rattle.adb_history.proofs.GrowingPackets.{keeps_mark_all, keeps_lists_first, keeps_client_left}
use Rattle.adb_history.proofs.LinkChanges.{changes_link_ends}
use Rattle.adb_history.proofs.AnswersWithin.{row_within}
use Rattle.adb_history.proofs.OutputEntries.{IsTied, tied_rule, tied, row_below, connected_is}
use Rattle.adb_history.proofs.Received.{received}
use Rattle.adb_history.proofs.DeviceTurns.{IsGood, turns_link_ends, turns_cut}
use Rattle.adb_history.proofs.TableStays.{puts_tables}
use Rattle.adb_history.proofs.Devices.{ShowsDevices, shows_devices, shows_rule, all_devices}
use Rattle.adb_history.proofs.Waiting.{NoneWaits, AreFree, Leaves, leaves_all, leaves_over, free_after, none_waits_after, leaves_mark_all}
use Rattle.adb_history.proofs.Waiting.{leaves_receives, leaves_unplugs, leaves_puts}
use Rattle.adb_history.proofs.Asked.{Unused}
use Rattle.adb_history.proofs.OwnEntries.{Owns, owns_free, owns_opens, opened_row}
use Rattle.adb_history.proofs.ForwardTurns.{AreLed, Leads, leads_link_ends, leads_cut, led_after, led_filter}
use Rattle.adb_history.proofs.Booked.{Said, said, SameAsked, IsAs, Holds, holds, holds_same, idle_is}
use Rattle.adb_history.proofs.Booked.{is_stays, holds_receives, holds_puts}
use Rattle.adb_history.proofs.BookTurns.{IsUnheard, all_unheard, IsBooked, booked_still, still_keeps}

-- ---- hand-outs
takes_forwards : (came plugged c n : ℕ) (o : Option Client) (s : State) → AreWithin came plugged s.streams
    → (takes_of c n o s).state.forwards ≡ s.forwards
takes_forwards came plugged c n None s all = refl
takes_forwards came plugged c n (Some client) s all =
    (keeps_client_left came plugged client.about.phase (length (drop n client.due)) (to_client c (hands n) s) all).forwards

puts_forwards : (came plugged c n : ℕ) (o : Option Client) (s : State) → c ≤ came → AreWithin came plugged s.streams
    → (puts_to o c n s).state.forwards ≡ s.forwards
puts_forwards came plugged c n None s le all = refl
puts_forwards came plugged c n (Some client) s le all =
    let m = lists_first c client.due client s in
    let keeps = keeps_lists_first came plugged c client.due client s le in
    takes_forwards came plugged c n (m.state.clients c) m.state (keeps.streams all) ∙ keeps.forwards

-- ---- a device more
led_attached : (kind : Kind) (serial : List ℕ) (devices : DeviceTable) (forwards : List (ℕ × ForwardRow)) → AreLed devices forwards
    → AreLed (attached kind serial devices) forwards
led_attached kind serial devices forwards led =
    All-weaker (λ (entry : ℕ × ForwardRow). is_some (at entry.1.transport devices.rows) ≡ true)
    (λ (entry : ℕ × ForwardRow). is_some (at entry.1.transport (put_at id row devices.rows)) ≡ true)
    (λ entry e. there entry.1.transport e (cases_eq entry.1.transport id)) forwards led
  where
    id : ℕ
    id = devices.drawn + 1

    row : Row
    row = new_row id kind serial

    there : (k : ℕ) → is_some (at k devices.rows) ≡ true → (k ≡ id) ⊎ (k ≡ id → ⊥) → is_some (at k (put_at id row devices.rows)) ≡ true
    there k e (inl same) = ap (λ (n : ℕ). is_some (at n (put_at id row devices.rows))) same
        ∙ ap is_some (puts_put_at id row devices.rows).here
    there k e (inr apart) = ap is_some ((puts_put_at id row devices.rows).others k apart) ∙ e

module _ (older : History) (legal : IsLegal older) (b : IsBooked (state older) older) where
  abbrev s : State
  s = state older

  abbrev came : ℕ
  came = came_count older

  abbrev links : ℕ
  links = plugged_count older

  tie : IsTied older
  tie = tied older legal

  shows : ShowsDevices s older
  shows = shows_devices older legal

  un : (c : ℕ) → came < c → IsUnheard older c
  un = all_unheard older legal

  -- ---- put, send and attach
  below : (c : ℕ) (o : Option Client) (bytes : List ℕ) → s.clients c ≡ o → MayPut s o bytes → c ≤ came
  below c None bytes is may = absurd may
  below c (Some client) bytes is may = row_below came c (s.clients c) client (tie.unborn c) is

  pub booked_put : (c : ℕ) (bytes : List ℕ) → May s (Put c bytes) → IsBooked (puts c (length bytes) s).state (Put c bytes ∷ older)
  booked_put c bytes may =
      let m = puts c (length bytes) s in
      let le = below c (s.clients c) bytes refl may in
      let tables = puts_tables came links c (length bytes) (s.clients c) s le tie.streams in
      booked_still s m older (Put c bytes ∷ older) b (record {
        stopped = tables.stopped;
        forwards = puts_forwards came links c (length bytes) (s.clients c) s le tie.streams;
        led = λ led. subst (λ (d : DeviceTable). AreLed d s.forwards) (sym tables.devices) led;
        holds = holds_puts came links c (length bytes) (s.clients c) s le tie.streams;
        leaves = leaves_puts s b.free (s.clients c) c (length bytes);
      }) refl refl (λ k. refl)

  pub booked_send : (t : ℕ) (bytes : List ℕ) → IsBooked (sends t (length bytes) s) (Send t bytes ∷ older)
  booked_send t bytes =
      let m = quietly (sends t (length bytes) s) in
      booked_still s m older (Send t bytes ∷ older) b (record {
        stopped = refl;
        forwards = refl;
        led = λ led. led;
        holds = λ c. holds_same (s.clients c);
        leaves = leaves_all s m refl refl;
      }) refl refl (λ k. refl)

  pub booked_attach : (n : ℕ) (kind : Kind) (serial : List ℕ) → May s (Attach n kind serial)
      → IsBooked (plugs_in n kind serial s).state (Attach n kind serial ∷ older)
  booked_attach n kind serial may =
      let next = record s { devices = attached kind serial s.devices; links = put_row n (Some new_link) s.links } in
      let m = plugs_in n kind serial s in
      let keeps = keeps_over came (links + 1) next (mark_all next) m (keeps_mark_all came (links + 1) next)
      (keeps_owe_link came (links + 1) n server_cnxn (mark_all next) (omega (arith, may.1, tie.drawn))) in
      booked_still next m (Attach n kind serial ∷ older) (Attach n kind serial ∷ older)
      (booked_still s (quietly next) older (Attach n kind serial ∷ older) b (record {
        stopped = refl;
        forwards = refl;
        led = λ led. led_attached kind serial s.devices s.forwards led;
        holds = λ c. holds_same (s.clients c);
        leaves = leaves_all s (quietly next) refl refl;
      }) refl refl (λ k. refl))
      (still_keeps came (links + 1) next m keeps
      (leaves_over next (mark_all next) m (leaves_mark_all next) (leaves_all (mark_all next) m refl refl))) refl refl (λ k. refl)

  -- ---- a link
  -- the devices of the state after the rule of an entry
  rule_devices : (e : Entry) → IsLegal (e ∷ older) → (rule e s).state.devices ≡ devices_if (rule e s).state.stopped (e ∷ older)
  rule_devices e l =
      let m = rule e s in
      let after = tied_rule older tie e l.2 in
      let keeps = keeps_up_all (came_count (e ∷ older)) (plugged_count (e ∷ older)) m.state.drawn m.state after.streams in
      sym keeps.devices ∙ (all_devices (e ∷ older) l ∙ ap (λ (x : Bool). devices_if x (e ∷ older)) keeps.stopped)

  -- What the rule of an entry of a link leaves, and what the book says behind it.
  record LinkTurn (t : ℕ) (e : Entry) : Type 0 where
    stopped : (rule e s).state.stopped ≡ s.stopped
    others : (k : ℕ) → k ≢ t → at k (rule e s).state.devices.rows ≡ at k s.devices.rows
    leads : Leads t s (rule e s)
    holds : (k : ℕ) → RowStep Holds (s.clients k) ((rule e s).state.clients k) []
    leaves : Leaves s (rule e s)
    killed : (book (e ∷ older)).killed ≡ (book older).killed
    forwards : (book (e ∷ older)).forwards ≡ led_by (devices_if (book older).killed (e ∷ older)) (book older).forwards
    same : (k : ℕ) → said k (e ∷ older) ≡ said k older

  booked_link : (t : ℕ) (e : Entry) → IsLegal (e ∷ older) → s.stopped ≡ false → LinkTurn t e → IsBooked (rule e s).state (e ∷ older)
  booked_link t e l on turn =
      let m = rule e s in
      let after = (shows_rule older tie (received older legal) shows e l.2).linked in
      let led = led_after t s m shows.linked after turn.others (b.led on) turn.leads in
      let devices : m.state.devices ≡ devices_if (book older).killed (e ∷ older) =
      rule_devices e l ∙ ap (λ (x : Bool). devices_if x (e ∷ older)) (turn.stopped ∙ b.killed) in
      record {
        killed = turn.stopped ∙ (b.killed ∙ sym turn.killed);
        forwards = led ∙ (ap (λ (d : DeviceTable). led_by d s.forwards) devices
            ∙ (ap (led_by (devices_if (book older).killed (e ∷ older))) b.forwards ∙ sym turn.forwards));
        led = λ still. subst (λ (f : List (ℕ × ForwardRow)). AreLed m.state.devices f) (sym led) (led_filter m.state.devices s.forwards);
        clients = λ still c. subst (λ (r : Said). IsAs (m.state.clients c) r) (sym (turn.same c))
            (is_stays (s.clients c) (m.state.clients c) (said c older) (turn.leaves.clients c) (turn.holds c) (b.clients on c));
        idle = λ off c. none_waits_after (s.clients c) (m.state.clients c) (turn.leaves.clients c) (b.idle (sym turn.stopped ∙ off) c);
        free = free_after s m turn.leaves b.free;
      }

  pub booked_recv : (t : ℕ) (bytes : List ℕ) → IsLegal (Recv t bytes ∷ older) → IsBooked (receives t bytes s).state (Recv t bytes ∷ older)
  booked_recv t bytes l =
      booked_link t (Recv t bytes) l l.2.0 (record {
        stopped = stopped (s.links t);
        others = others (s.links t);
        leads = leads (s.links t);
        holds = holds_receives came links (s.links t) t bytes s le tie.streams;
        leaves = leaves_receives s b.free t bytes;
        killed = refl;
        forwards = refl;
        same = λ k. refl;
      })
    where
      le : t ≤ links
      le = omega (arith, l.2.1.1, tie.drawn)

      good : IsGood came links s
      good = record { streams = tie.streams; rows = tie.rows; linked = shows.linked }

      stopped : (o : Option Link) → (receives_on o t bytes s).state.stopped ≡ s.stopped
      stopped None = refl
      stopped (Some link) = (turns_cut came links t (cut_packets (record { sums = link.sums }) (link.rest ++ bytes)) s good le).stopped

      others : (o : Option Link) (k : ℕ) → k ≢ t → at k (receives_on o t bytes s).state.devices.rows ≡ at k s.devices.rows
      others None k apart = refl
      others (Some link) k apart =
          (turns_cut came links t (cut_packets (record { sums = link.sums }) (link.rest ++ bytes)) s good le).others k
          apart

      leads : (o : Option Link) → Leads t s (receives_on o t bytes s)
      leads None = inl (refl, refl)
      leads (Some link) = leads_cut came links t (cut_packets (record { sums = link.sums }) (link.rest ++ bytes)) s le tie.streams

  pub booked_detach : (t : ℕ) (cause : Cause) → IsLegal (Detach t cause ∷ older) → IsBooked (unplugs t s).state (Detach t cause ∷ older)
  booked_detach t cause l =
      booked_link t (Detach t cause) l l.2.0 (record {
        stopped = stopped (s.links t);
        others = others (s.links t);
        leads = leads (s.links t);
        holds = held (s.links t);
        leaves = leaves_unplugs s b.free (s.links t) t;
        killed = refl;
        forwards = refl;
        same = λ k. refl;
      })
    where
      good : IsGood came links s
      good = record { streams = tie.streams; rows = tie.rows; linked = shows.linked }

      stopped : (o : Option Link) → (unplugs_on o t s).state.stopped ≡ s.stopped
      stopped None = refl
      stopped (Some link) = (turns_link_ends came links t ending.Lost s good).stopped

      others : (o : Option Link) (k : ℕ) → k ≢ t → at k (unplugs_on o t s).state.devices.rows ≡ at k s.devices.rows
      others None k apart = refl
      others (Some link) k apart = (turns_link_ends came links t ending.Lost s good).others k apart

      leads : (o : Option Link) → Leads t s (unplugs_on o t s)
      leads None = inl (refl, refl)
      leads (Some link) = leads_link_ends came links t ending.Lost s tie.streams

      held : (o : Option Link) (k : ℕ) → RowStep Holds (s.clients k) ((unplugs_on o t s).state.clients k) []
      held None k = holds_same (s.clients k)
      held (Some link) k = holds (s.clients k) ((link_ends t ending.Lost s).state.clients k) (owed_to k (link_ends t ending.Lost s).told)
          ((changes_link_ends came links t ending.Lost s tie.streams).clients k)

  -- ---- join, and enter
  apart_streams : (forwarded : Bool) (n : ℕ) → n ≡ s.joined + 1 → (l : ℕ) (stream : Stream)
      → s.streams l ≡ Some stream → stream.client ≤ came
  apart_streams forwarded n is l stream e = (subst (λ (o : Option Stream). IsWithin came links o) e (tie.streams l)).0

  free_comes : (forwarded : Bool) (n : ℕ) → n ≡ s.joined + 1 → AreFree (comes forwarded n s)
  free_comes forwarded n is l stream e =
      let le = apart_streams forwarded n is l stream e in
      subst NoneWaits (sym (ap (λ (x : Bool). cond x (Some (new_client forwarded n)) (s.clients stream.client))
      (ne_eqb n stream.client (λ same. omega (arith, le, is, same, tie.joined))))) (b.free l stream e)

  abbrev said_joined : ℕ → Bool → Said
  said_joined c here = record {
    asking = (here || has_joined c older) && not (has_ended c older) && still_asks (asked c older);
    asked = asked c older;
    input = bytes_asked c older;
    waits = (book older).waits c;
  }

  pub booked_join : (n : ℕ) → May s (Join n) → IsBooked (comes false n s) (Join n ∷ older)
  booked_join n may = record {
    killed = b.killed;
    forwards = b.forwards;
    led = b.led;
    clients = λ on c. go c (eqb n c) refl (b.clients on c);
    idle = λ off c. let clash : true ≡ false = sym off ∙ may.0 in cc;
    free = free_comes false n may.1;
  }
    where
      new : (c : ℕ) → IsUnheard older c → IsAs (Some (new_client false n)) (said_joined c true)
      new c u = record {
        asks = sym (ap (λ (x : Bool). not x && still_asks (asked c older)) u.ended ∙ ap (λ (q : Asked). still_asks q) u.asked);
        waits = sym u.waits;
        same = λ a e f.
            let row : new_client false n ≡ a = let both : Some (new_client false n) ≡ Some a = e in cc in
            subst (λ (x : Client). SameAsked (said_joined c true) x) row (record {
              rest = sym (ap (λ (q : Asked). q.rest) u.asked);
              selected = sym (ap (λ (q : Asked). q.selected) u.asked);
              unused = subst (λ (q : Asked). Unused (bytes_asked c older) q) (sym u.asked)
                  (subst (λ (x : List ℕ). Unused x nothing_asked) (sym u.input) (record { within = omega arith; rest = refl }));
            });
      }

      go : (c : ℕ) (here : Bool) → eqb n c ≡ here → IsAs (s.clients c) (said c older)
          → IsAs (cond here (Some (new_client false n)) (s.clients c)) (said_joined c here)
      go c true e is = new c (un c (omega (arith, eqb-true n c e, may.1, tie.joined)))
      go c false e is = is

  booked_in_vain : (n port : ℕ) → May s (Enter n port) → IsBooked (comes_in_vain s) (Enter n port ∷ older)
  booked_in_vain n port may =
      record { killed = b.killed; forwards = b.forwards; led = b.led; clients = b.clients; idle = b.idle; free = b.free }

  booked_opens : (n port : ℕ) (row : ForwardRow) → May s (Enter n port) → is_connected row.transport s.devices ≡ true
      → IsBooked (opens true n row.transport row.remote (comes true n s)).state (Enter n port ∷ older)
  booked_opens n port row may connected =
      let next = comes true n s in
      let m = opens true n row.transport row.remote next in
      let keeps = keeps_opens (came + 1) links true n row.transport row.remote next (omega (arith, may.1, tie.joined))
      (row_within links row.transport s.devices tie.rows (connected_is (at row.transport s.devices.rows) connected)) in
      let owns = owns_opens n true row.transport row.remote next in
      record {
        killed = keeps.stopped ∙ b.killed;
        forwards = keeps.forwards ∙ b.forwards;
        led = λ on. subst (λ (d : DeviceTable). AreLed d m.state.forwards) (sym keeps.devices)
            (subst (λ (f : List (ℕ × ForwardRow)). AreLed s.devices f) (sym keeps.forwards) (b.led may.0));
        clients = λ on c. go c (eqb n c) refl owns;
        idle = λ off c. let clash : true ≡ false = sym off ∙ (keeps.stopped ∙ may.0) in cc;
        free = owns_free n next m owns (free_comes true n may.1);
      }
    where
      go : (c : ℕ) (here : Bool) → eqb n c ≡ here → Owns n (comes true n s) (opens true n row.transport row.remote (comes true n s))
          → IsAs ((opens true n row.transport row.remote (comes true n s)).state.clients c) (said c older)
      go c true e owns =
          let u = un c (omega (arith, eqb-true n c e, may.1, tie.joined)) in
          idle_is ((opens true n row.transport row.remote (comes true n s)).state.clients c) (said c older)
          (subst (λ (k : ℕ). NoneWaits ((opens true n row.transport row.remote (comes true n s)).state.clients k)) (eqb-true n c e)
          (opened_row n true row.transport row.remote (comes true n s)))
          (ap (λ (x : Bool). x && not (has_ended c older) && still_asks (asked c older)) u.joined) u.waits
      go c false e owns =
          subst (λ (o : Option Client). IsAs o (said c older))
          (sym (owns.others c e ∙ ap (λ (x : Bool). cond x (Some (new_client true n)) (s.clients c)) e)) (b.clients may.0 c)

  pub booked_enter : (n port : ℕ) → May s (Enter n port) → IsBooked (enters n port s).state (Enter n port ∷ older)
  booked_enter n port may = go (at port s.forwards)
    where
      by : (row : ForwardRow) (connected : Bool) → is_connected row.transport s.devices ≡ connected
          → IsBooked (cond connected (opens true n row.transport row.remote (comes true n s))
          (quietly (comes_in_vain s))).state (Enter n port ∷ older)
      by row true e = booked_opens n port row may e
      by row false e = booked_in_vain n port may

      go : (o : Option ForwardRow) → IsBooked (enters_by n o s).state (Enter n port ∷ older)
      go None = booked_in_vain n port may
      go (Some row) = by row (is_connected row.transport s.devices) refl
