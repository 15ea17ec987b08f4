-- The devices that the server knows are those that the bytes of the links tell.
use Rattle.std.proofs.Common.{ℕ, ◌+◌, ◌≡◌, ◌≤◌, Bool, true, false, cond, List, [], ◌∷◌, ◌++◌, length, Option, Some, None, is_some, refl}
use Rattle.std.proofs.Common.{sym, ◌∙◌, ap}
use Rattle.std.proofs.Common.{subst, arith, eqb, inl, inr, ◌⊎◌}
use Rattle.std.proofs.lemmas.Bool.{eqb-true, eqb-false, eq-eqb, ne_eqb, cases_eq}
use Rattle.std.proofs.lemmas.List.Folds.{list_any-append}
use Rattle.std.specs.Prelude.{◌||◌, ◌&&◌, not, option_map}
use Rattle.std.specs.List.{list_any}
use Rattle.adb_outside.specs.Tables.{at, listed, put_row, Puts, put_at}
use Rattle.adb_outside.specs.Framing.{Cut, joined}
use Rattle.adb_outside.proofs.TableLaws.{same_table, puts_put_at}
use Rattle.adb_outside.proofs.FramingLaws.{fault_stays}
use Rattle.adb_outside.specs.declared.kinds.Cause.{Cause}
use Rattle.adb_outside.specs.declared.kinds.Kind.{Kind}
use Rattle.adb_outside.specs.declared.identity.State.TheVariants as device
use Rattle.adb_registry.specs.Row.{new_row}
use Rattle.adb_registry.specs.Registry.{DeviceTable, attached}
use Rattle.adb_registry.specs.declared.row.Row.{Row}
use Rattle.adb_wire.specs.Cutting.{cut_packets, framed}
use Rattle.adb_wire.specs.Format.{front_of, packet_of, format_after}
use Rattle.adb_wire.specs.FormatLaws.{packets_are_framed}
use Rattle.adb_wire.specs.declared.packets.Packet.{Packet}
use Rattle.adb_wire.specs.declared.format.PacketFault.{PacketFault}
use Rattle.adb_wire.specs.declared.format.PacketFormat.{PacketFormat}
use Rattle.adb_capture.specs.declared.entry.Entry.{Entry}
use Rattle.adb_capture.specs.declared.entry.Entry.TheVariants.{Join, Enter, Read, End, Bound, Attach, Recv, Detach, Put, Send}
use Rattle.adb_history.specs.Rows.{Client, Link, State, new_link}
use Rattle.adb_history.specs.declared.ending.Ending.TheVariants as ending
use Rattle.adb_history.specs.Events.{Made, quietly}
use Rattle.adb_history.specs.Links.{server_cnxn}
use Rattle.adb_history.specs.Tracking.{mark_all}
use Rattle.adb_history.specs.Losing.{link_ends, client_ends}
use Rattle.adb_history.specs.Packets.{receives_cut, receives_on}
use Rattle.adb_history.specs.Reading.{comes, enters, plugs_in, reads_from, reads, bound}
use Rattle.adb_history.specs.Handing.{puts, sends}
use Rattle.adb_history.specs.Machine.{unplugs_on, rule, ups, History, state, May, MayPut, IsLegal}
use Rattle.adb_history.specs.Bytes.{is_lost, bytes_received}
use Rattle.adb_history.specs.Book.{plugged, plugged_count, is_refused, last_cnxn, row_by, device_of, devices_if}
use Rattle.adb_history.specs.Tied.{came_count}
use Rattle.adb_history.proofs.Growing.{Keeps, keeps_over, keeps_owe_link}
use Rattle.adb_history.proofs.GrowingRules.{keeps_up_all, keeps_client_ends}
use Rattle.adb_history.proofs.GrowingPackets.{keeps_mark_all}
use Rattle.adb_history.proofs.OutputEntries.{IsTied, tied_rule, tied, row_below}
use Rattle.adb_history.proofs.Received.{ReadsAs, ReadTie, framed_piece, IsReceived, received}
use Rattle.adb_history.proofs.DeviceRows.{rows_after, rows_append, device_by, device_rows}
use Rattle.adb_history.proofs.DeviceTurns.{AreLinked, Turns, IsGood, turns_link_ends, turns_cut}
use Rattle.adb_history.proofs.TableStays.{StaysTables, IsStopped, tables_keep, tables_same, AskTables, asks_kill, reads_in_tables}
use Rattle.adb_history.proofs.TableStays.{bound_tables}
use Rattle.adb_history.proofs.TableStays.{puts_tables, sends_tables, enters_tables}

abbrev Cutting : Type 0
Cutting = Cut PacketFormat Packet PacketFault

-- the device of a link that brought bytes that are cut so, and was plugged in so
abbrev device_from : Bool → Cutting → Option Row → Option Row
device_from gone c o = cond (gone || (is_some c.fault || list_any is_refused c.given)) None
    (option_map (row_by (last_cnxn c.given) c.given) o)

-- ---- more bytes
no_row : (b : Bool) (f : Row → Row) → cond b None (option_map f None) ≡ None
no_row true f = refl
no_row false f = refl

-- a link that is broken, or was not plugged in, stays so
broken_stays : (received bytes : List ℕ) (o : Option Row) → device_from false (framed received) o ≡ None
    → device_from false (framed (received ++ bytes)) o ≡ None
broken_stays received bytes None e =
    no_row (is_some (framed (received ++ bytes)).fault || list_any is_refused (framed (received ++ bytes)).given)
    (row_by (last_cnxn (framed (received ++ bytes)).given) (framed (received ++ bytes)).given)
broken_stays received bytes (Some row) e = go (framed received).fault refl e
  where
    item : PacketFormat → List ℕ → Packet
    item _ frame = packet_of frame

    at_fault : (c : Cutting) (fault : PacketFault) → c.fault ≡ Some fault → device_from false c (Some row) ≡ None
    at_fault c fault is = ap (λ (o : Option PacketFault). cond (is_some o || list_any is_refused c.given) None
        (Some (row_by (last_cnxn c.given) c.given row))) is

    by_packets : (refused : Bool) (c : Cutting) (more : Cutting) → list_any is_refused c.given ≡ refused → c.fault ≡ None
        → cond refused None (Some (row_by (last_cnxn c.given) c.given row)) ≡ None
        → device_from false (joined c.given more) (Some row) ≡ None
    by_packets true c more is sound e =
        let all : list_any is_refused (c.given ++ more.given) ≡ true =
        list_any-append is_refused c.given more.given ∙ ap (λ (b : Bool). b || list_any is_refused more.given) is in
        either (is_some more.fault) (list_any is_refused (c.given ++ more.given)) all
      where
        either : (a b : Bool) → b ≡ true
            → cond (a || b) None (Some (row_by (last_cnxn (c.given ++ more.given)) (c.given ++ more.given) row)) ≡ None
        either true b e = refl
        either false true e = refl
        either false false e = let clash : false ≡ true = e in cc
    by_packets false c more is sound e = let clash : Some (row_by (last_cnxn c.given) c.given row) ≡ None = e in cc

    go : (fault : Option PacketFault) → (framed received).fault ≡ fault → device_from false (framed received) (Some row) ≡ None
        → device_from false (framed (received ++ bytes)) (Some row) ≡ None
    go (Some fault) is e =
        let stays = fault_stays front_of (λ _ frame. packet_of frame)
        (λ format frame. format_after format (packet_of frame)) packets_are_framed
        (length received) (record { sums = false }) received bytes fault (omega arith) is in
        at_fault (framed (received ++ bytes)) fault stays.1
    go None is e =
        let link : Link = record { rest = (framed received).rest; sums = (framed received).reading.sums; due = [] } in
        let whole = framed_piece received bytes link (record { rest = refl; sums = refl; sound = is }) in
        let more = cut_packets (record { sums = link.sums }) (link.rest ++ bytes) in
        subst (λ (c : Cutting). device_from false c (Some row) ≡ None) (sym whole)
        (by_packets (list_any is_refused (framed received).given) (framed received) more refl is
        (sym (ap (λ (o : Option PacketFault). cond (is_some o || list_any is_refused (framed received).given) None
        (Some (row_by (last_cnxn (framed received).given) (framed received).given row))) is) ∙ e))

-- what more packets make of a link that is sound
sound_more : (received bytes : List ℕ) (link : Link) (row : Row) → ReadsAs received link → row.state ≡ device.Offline
    → cond (is_some (cut_packets (record { sums = link.sums }) (link.rest ++ bytes)).fault) None
    (rows_after (cut_packets (record { sums = link.sums }) (link.rest ++ bytes)).given (device_from false (framed received) (Some row)))
    ≡ device_from false (framed (received ++ bytes)) (Some row)
sound_more received bytes link row t offline =
    ap (λ (o : Option Row). cond (is_some c.fault) None (rows_after c.given o))
    (before ∙ sym (device_rows row offline (framed received).given))
    ∙ (ap (cond (is_some c.fault) None) (sym (rows_append (framed received).given c.given (Some row)) ∙ device_rows row offline
    ((framed received).given ++ c.given))
    ∙ (both (is_some c.fault) ∙ ap (λ (x : Cutting). device_from false x (Some row)) (sym (framed_piece received bytes link t))))
  where
    c : Cutting
    c = cut_packets (record { sums = link.sums }) (link.rest ++ bytes)

    before : device_from false (framed received) (Some row) ≡ device_by (framed received).given row
    before = ap (λ (o : Option PacketFault). cond (is_some o || list_any is_refused (framed received).given) None
        (Some (row_by (last_cnxn (framed received).given) (framed received).given row))) t.sound

    both : (fault : Bool) → cond fault None (device_by ((framed received).given ++ c.given) row)
        ≡ cond (fault || list_any is_refused ((framed received).given ++ c.given)) None
        (Some (row_by (last_cnxn ((framed received).given ++ c.given)) ((framed received).given ++ c.given) row))
    both true = refl
    both false = refl

-- ---- plugging in
plugged_offline : (t : ℕ) (h : History) (row : Row) → plugged t h ≡ Some row → row.state ≡ device.Offline
plugged_offline t [] row e = let clash : None ≡ Some row = e in cc
plugged_offline t (Attach n kind serial ∷ older) row e = go (eqb n t) e (λ f. plugged_offline t older row f)
  where
    go : (here : Bool) → cond here (Some (new_row t kind serial)) (plugged t older) ≡ Some row
        → (plugged t older ≡ Some row → row.state ≡ device.Offline)
        → row.state ≡ device.Offline
    go true f rest = let same : new_row t kind serial ≡ row = let both : Some (new_row t kind serial) ≡ Some row = f in cc in
        sym (ap (λ (r : Row). r.state) same)
    go false f rest = rest f
plugged_offline t (_ ∷ older) row e = plugged_offline t older row e

plugged_zero : (h : History) → IsLegal h → plugged 0 h ≡ None
plugged_zero [] l = refl
plugged_zero (Attach n kind serial ∷ older) l =
    ap (λ (b : Bool). cond b (Some (new_row 0 kind serial)) (plugged 0 older)) (ne_eqb n 0 (λ e. omega (arith, e, l.2.1)))
    ∙ plugged_zero older l.0
plugged_zero (_ ∷ older) l = plugged_zero older l.0

-- ---- a state
-- the devices of a state are those of a history; after a stop there is none
pub record ShowsDevices (s : State) (h : History) : Type 0 where
  pub rows : s.stopped ≡ false → (t : ℕ) → at t s.devices.rows ≡ device_of t h
  pub linked : AreLinked s
  pub gone : s.stopped ≡ true → s.devices.rows ≡ []

shows_stays : (s : State) (m : Made) (h next : History) → ((t : ℕ) → device_of t next ≡ device_of t h) → ShowsDevices s h → StaysTables s m
    → ShowsDevices m.state next
shows_stays s m h next same shows stays = record {
  rows = λ on t. ap (λ (d : DeviceTable). at t d.rows) stays.devices ∙ (shows.rows (sym stays.stopped ∙ on) t ∙ sym (same t));
  linked = λ t. stays.linked t ∙ (shows.linked t ∙ sym (ap (λ (d : DeviceTable). is_some (at t d.rows)) stays.devices));
  gone = λ off. ap (λ (d : DeviceTable). d.rows) stays.devices ∙ shows.gone (sym stays.stopped ∙ off);
}

shows_stopped : (s : State) (m : Made) (next : History) → IsStopped s m → ShowsDevices m.state next
shows_stopped s m next stopped = record {
  rows = λ on. let clash : true ≡ false = sym stopped.stopped ∙ on in cc;
  linked = λ t. ap is_some (stopped.links t) ∙ sym (ap (λ (rows : List (ℕ × Row)). is_some (at t rows)) stopped.rows);
  gone = λ off. stopped.rows;
}

module _ (older : History) (tie : IsTied older) (got : IsReceived older) (shows : ShowsDevices (state older) older) where
  abbrev s : State
  s = state older

  good : IsGood (came_count older) (plugged_count older) s
  good = record { streams = tie.streams; rows = tie.rows; linked = shows.linked }

  -- ---- attach
  attach_shows : (n : ℕ) (kind : Kind) (serial : List ℕ) → May s (Attach n kind serial)
      → ShowsDevices (plugs_in n kind serial s).state (Attach n kind serial ∷ older)
  attach_shows n kind serial may = shows_stays next (plugs_in n kind serial s) (Attach n kind serial ∷ older)
      (Attach n kind serial ∷ older) (λ t. refl) first
      (tables_keep (came_count older) (plugged_count older + 1) next (plugs_in n kind serial s) keeps)
    where
      next : State
      next = record s { devices = attached kind serial s.devices; links = put_row n (Some new_link) s.links }

      keeps : Keeps (came_count older) (plugged_count older + 1) next (plugs_in n kind serial s)
      keeps = keeps_over (came_count older) (plugged_count older + 1) next (mark_all next) (plugs_in n kind serial s)
          (keeps_mark_all (came_count older) (plugged_count older + 1) next)
          (keeps_owe_link (came_count older) (plugged_count older + 1) n server_cnxn (mark_all next) (omega (arith, may.1, tie.drawn)))

      row : Row
      row = new_row (s.devices.drawn + 1) kind serial

      puts : Puts (s.devices.drawn + 1) (Some row) s.devices.rows (put_at (s.devices.drawn + 1) row s.devices.rows)
      puts = puts_put_at (s.devices.drawn + 1) row s.devices.rows

      fresh : (t : ℕ) → n ≡ t → (is_lost t older ≡ false) × (bytes_received t older ≡ [])
      fresh t same = got.fresh t (omega (arith, same, may.1, tie.drawn))

      here : (t : ℕ) → n ≡ t → Some row ≡ device_from (is_lost t older) (framed (bytes_received t older)) (Some (new_row t kind serial))
      here t same =
          ap (λ (k : ℕ). Some (new_row k kind serial)) (sym may.1 ∙ same)
          ∙ (sym (ap (λ (x : List ℕ). device_from false (framed x) (Some (new_row t kind serial))) (fresh t same).1)
          ∙ sym (ap (λ (b : Bool). device_from b (framed (bytes_received t older)) (Some (new_row t kind serial))) (fresh t same).0))

      rows : (on : s.stopped ≡ false) (t : ℕ) (same : Bool) → eqb n t ≡ same → at t (put_at (s.devices.drawn + 1) row s.devices.rows)
          ≡ device_from (is_lost t older) (framed (bytes_received t older)) (cond same (Some (new_row t kind serial)) (plugged t older))
      rows on t true e =
          let is : n ≡ t = eqb-true n t e in
          ap (λ (k : ℕ). at k (put_at (s.devices.drawn + 1) row s.devices.rows)) (sym is ∙ may.1) ∙ (puts.here ∙ here t is)
      rows on t false e = puts.others t (λ same. eqb-false n t e (may.1 ∙ sym same)) ∙ shows.rows on t

      there : (t : ℕ) (same : Bool) → eqb n t ≡ same
          → is_some (cond same (Some new_link) (s.links t)) ≡ is_some (at t (put_at (s.devices.drawn + 1) row s.devices.rows))
      there t true e =
          let is : n ≡ t = eqb-true n t e in
          sym (ap is_some (ap (λ (k : ℕ). at k (put_at (s.devices.drawn + 1) row s.devices.rows)) (sym is ∙ may.1) ∙ puts.here))
      there t false e = shows.linked t ∙ sym (ap is_some (puts.others t (λ same. eqb-false n t e (may.1 ∙ sym same))))

      first : ShowsDevices next (Attach n kind serial ∷ older)
      first = record {
        rows = λ on t. rows on t (eqb n t) refl;
        linked = λ t. there t (eqb n t) refl;
        gone = λ off. let clash : true ≡ false = sym off ∙ may.0 in cc;
      }

  -- ---- a link's row turned
  turned : (n : ℕ) (row : Option Row) (m : Made) (next : History) → Turns n row s m → s.stopped ≡ false → row ≡ device_of n next
      → ((t : ℕ) → eqb n t ≡ false → device_of t next ≡ device_of t older) → ShowsDevices m.state next
  turned n row m next turns on is others = record {
    rows = λ still t. go t (cases_eq t n);
    linked = turns.linked;
    gone = λ off. let clash : true ≡ false = sym off ∙ (turns.stopped ∙ on) in cc;
  }
    where
      go : (t : ℕ) → (t ≡ n) ⊎ (t ≡ n → ⊥) → at t m.state.devices.rows ≡ device_of t next
      go t (inl same) = ap (λ (k : ℕ). at k m.state.devices.rows) same ∙ (turns.here ∙ (is ∙ sym (ap (λ (k : ℕ). device_of k next) same)))
      go t (inr apart) = turns.others t apart ∙ (shows.rows on t ∙ sym (others t (ne_eqb n t (λ e. apart (sym e)))))

  -- a device that is there was plugged in
  plugged_row : (gone : Bool) (c : Cutting) (o : Option Row) → is_some (device_from gone c o) ≡ true → is_some o ≡ true
  plugged_row gone c None e =
      ap is_some (sym
      (no_row (gone || (is_some c.fault || list_any is_refused c.given)) (row_by (last_cnxn c.given) c.given))) ∙ e
  plugged_row gone c (Some row) e = refl

  -- ---- receive
  recv_here : (n : ℕ) (bytes : List ℕ) → device_of n (Recv n bytes ∷ older)
      ≡ device_from (is_lost n older)
      (framed (cond (not (is_lost n older)) (bytes_received n older ++ bytes) (bytes_received n older)))
      (plugged n older)
  recv_here n bytes = ap (λ (b : Bool). device_from (is_lost n older)
      (framed (cond (b && not (is_lost n older)) (bytes_received n older ++ bytes) (bytes_received n older)))
      (plugged n older)) (eq-eqb n n refl)

  recv_apart : (n t : ℕ) (bytes : List ℕ) → eqb n t ≡ false → device_of t (Recv n bytes ∷ older) ≡ device_of t older
  recv_apart n t bytes e = ap (λ (b : Bool). device_from (is_lost t older)
      (framed (cond (b && not (is_lost t older)) (bytes_received t older ++ bytes) (bytes_received t older))) (plugged t older)) e

  recv_gone : (n : ℕ) (bytes : List ℕ) (gone : Bool) → device_from gone (framed (bytes_received n older)) (plugged n older) ≡ None
      → device_from gone (framed (cond (not gone) (bytes_received n older ++ bytes) (bytes_received n older))) (plugged n older) ≡ None
  recv_gone n bytes true e = refl
  recv_gone n bytes false e = broken_stays (bytes_received n older) bytes (plugged n older) e

  recv_live : (n : ℕ) (bytes : List ℕ) (link : Link) (gone : Bool) (o : Option Row) → plugged n older ≡ o → gone ≡ false
      → ReadsAs (bytes_received n older) link → is_some o ≡ true
      → cond (is_some (cut_packets (record { sums = link.sums }) (link.rest ++ bytes)).fault) None
      (rows_after (cut_packets (record { sums = link.sums }) (link.rest ++ bytes)).given
      (device_from gone (framed (bytes_received n older)) o))
      ≡ device_from gone (framed (cond (not gone) (bytes_received n older ++ bytes) (bytes_received n older))) o
  recv_live n bytes link gone None is on reads some = let clash : false ≡ true = some in cc
  recv_live n bytes link true (Some row) is on reads some = let clash : true ≡ false = on in cc
  recv_live n bytes link false (Some row) is on reads some =
      sound_more (bytes_received n older) bytes link row reads (plugged_offline n older row is)

  recv_shows : (n : ℕ) (bytes : List ℕ) (o : Option Link) → s.links n ≡ o → May s (Recv n bytes)
      → ShowsDevices (receives_on o n bytes s).state (Recv n bytes ∷ older)
  recv_shows n bytes None is may =
      let none : at n s.devices.rows ≡ None = go (at n s.devices.rows) (sym (shows.linked n) ∙ ap is_some is) in
      turned n None (quietly s) (Recv n bytes ∷ older)
      (record { here = none; others = λ k apart. refl; linked = shows.linked; stopped = refl }) may.0
      (sym (recv_here n bytes ∙ recv_gone n bytes (is_lost n older) (sym (shows.rows may.0 n) ∙ none))) (λ t e. recv_apart n t bytes e)
    where
      go : (o : Option Row) → is_some o ≡ false → o ≡ None
      go None e = refl
      go (Some row) e = let clash : true ≡ false = e in cc
  recv_shows n bytes (Some link) is may =
      let c = cut_packets (record { sums = link.sums }) (link.rest ++ bytes) in
      let read = subst (λ (o : Option Link). ReadTie (is_lost n older) o (bytes_received n older)) is (got.links n) in
      let some : is_some (plugged n older) ≡ true = plugged_row (is_lost n older) (framed (bytes_received n older)) (plugged n older)
      (sym (ap is_some (shows.rows may.0 n)) ∙ (sym (shows.linked n) ∙ ap is_some is)) in
      turned n (cond (is_some c.fault) None (rows_after c.given (at n s.devices.rows))) (receives_cut n c s) (Recv n bytes ∷ older)
      (turns_cut (came_count older) (plugged_count older) n c s good (omega (arith, may.1.1, tie.drawn))) may.0
      (ap (λ (o : Option Row). cond (is_some c.fault) None (rows_after c.given o)) (shows.rows may.0 n)
      ∙ (recv_live n bytes link (is_lost n older) (plugged n older) refl read.1 read.0 some
      ∙ sym (recv_here n bytes))) (λ t e. recv_apart n t bytes e)

  -- ---- detach
  detach_shows : (n : ℕ) (cause : Cause) (o : Option Link) → s.links n ≡ o → May s (Detach n cause)
      → ShowsDevices (unplugs_on o n s).state (Detach n cause ∷ older)
  detach_shows n cause o is may = go o is
    where
      gone : None ≡ device_of n (Detach n cause ∷ older)
      gone = sym (ap
          (λ (b : Bool). device_from (b || is_lost n older) (framed (bytes_received n older)) (plugged n older))
          (eq-eqb n n refl))

      apart : (t : ℕ) → eqb n t ≡ false → device_of t (Detach n cause ∷ older) ≡ device_of t older
      apart t e = ap (λ (b : Bool). device_from (b || is_lost t older) (framed (bytes_received t older)) (plugged t older)) e

      none : (o : Option Row) → is_some o ≡ false → o ≡ None
      none None e = refl
      none (Some row) e = let clash : true ≡ false = e in cc

      go : (o : Option Link) → s.links n ≡ o → ShowsDevices (unplugs_on o n s).state (Detach n cause ∷ older)
      go None is = turned n None (quietly s) (Detach n cause ∷ older)
          (record {
            here = none (at n s.devices.rows) (sym (shows.linked n) ∙ ap is_some is);
            others =
                λ k apart. refl;
            linked = shows.linked;
            stopped = refl;
          })
          may.0 gone apart
      go (Some link) is = turned n None (link_ends n ending.Lost s) (Detach n cause ∷ older)
          (turns_link_ends (came_count older) (plugged_count older) n ending.Lost s good) may.0 gone apart

  -- ---- the other entries
  ask_shows : (stop : Bool) (m : Made) (next : History) → ((t : ℕ) → device_of t next ≡ device_of t older)
      → AskTables stop s m → ShowsDevices m.state next
  ask_shows false m next same h = shows_stays s m older next same shows h
  ask_shows true m next same h = shows_stopped s m next h

  read_shows : (c : ℕ) (bytes : List ℕ) (o : Option Client) → May s (Read c bytes)
      → ShowsDevices (reads_from o c bytes s).state (Read c bytes ∷ older)
  read_shows c bytes None may = shows_stays s (quietly s) older (Read c bytes ∷ older) (λ t. refl) shows (tables_same s s refl refl refl)
  read_shows c bytes (Some client) may =
      ask_shows (asks_kill (came_count older) (plugged_count older) c client.about.phase bytes client s)
      (reads_from (Some client) c bytes s) (Read c bytes ∷ older) (λ t. refl)
      (reads_in_tables (came_count older) (plugged_count older) c client.about.phase bytes client s
      (omega (arith, may.1.1, tie.joined)) tie.rows)

  put_below : (c : ℕ) (o : Option Client) (bytes : List ℕ) → s.clients c ≡ o → MayPut s o bytes → c ≤ came_count older
  put_below c None bytes is may = absurd may
  put_below c (Some client) bytes is may = row_below (came_count older) c (s.clients c) client (tie.unborn c) is

  pub shows_rule : (e : Entry) → May s e → ShowsDevices (rule e s).state (e ∷ older)
  shows_rule (Join c) may = shows_stays s (quietly (comes false c s)) older (Join c ∷ older) (λ t. refl) shows
      (tables_same s (comes false c s) refl refl refl)
  shows_rule (Enter c port) may = shows_stays s (enters c port s) older (Enter c port ∷ older) (λ t. refl) shows
      (enters_tables (came_count older + 1) (plugged_count older) c (at port s.forwards) s (omega (arith, may.1, tie.joined)) tie.rows)
  shows_rule (Read c bytes) may = read_shows c bytes (s.clients c) may
  shows_rule (End c cause) may = shows_stays s (client_ends c cause (s.clients c) s) older (End c cause ∷ older) (λ t. refl) shows
      (tables_keep (came_count older) (plugged_count older) s (client_ends c cause (s.clients c) s)
      (keeps_client_ends (came_count older) (plugged_count older) c cause (s.clients c) s tie.streams))
  shows_rule (Bound c port) may = shows_stays s (bound c port s) older (Bound c port ∷ older) (λ t. refl) shows
      (bound_tables (came_count older) (plugged_count older) c (s.clients c) port s (omega (arith, may.1.1, tie.joined)))
  shows_rule (Attach n kind serial) may = attach_shows n kind serial may
  shows_rule (Recv n bytes) may = recv_shows n bytes (s.links n) refl may
  shows_rule (Detach n cause) may = detach_shows n cause (s.links n) refl may
  shows_rule (Put c bytes) may = shows_stays s (puts c (length bytes) s) older (Put c bytes ∷ older) (λ t. refl) shows
      (puts_tables (came_count older) (plugged_count older) c (length bytes) (s.clients c) s
      (put_below c (s.clients c) bytes refl may) tie.streams)
  shows_rule (Send n bytes) may = shows_stays s (quietly (sends n (length bytes) s)) older (Send n bytes ∷ older) (λ t. refl) shows
      (sends_tables n (length bytes) s)

  pub shows_step : (e : Entry) → May s e → ShowsDevices (state (e ∷ older)) (e ∷ older)
  shows_step e may =
      let m = rule e s in
      let after = tied_rule older tie e may in
      shows_stays m.state (ups m.state) (e ∷ older) (e ∷ older) (λ t. refl) (shows_rule e may)
      (tables_keep (came_count (e ∷ older)) (plugged_count (e ∷ older)) m.state (ups m.state)
      (keeps_up_all (came_count (e ∷ older)) (plugged_count (e ∷ older)) m.state.drawn m.state after.streams))

-- Every legal history's state shows its devices.
pub shows_devices : (h : History) → IsLegal h → ShowsDevices (state h) h
shows_devices [] l = record { rows = λ on t. sym (device_none t); linked = λ t. refl; gone = λ off. refl }
  where
    device_none : (t : ℕ) → device_of t [] ≡ None
    device_none t = refl
shows_devices (e ∷ older) l = shows_step older (tied older l.0) (received older l.0) (shows_devices older l.0) e l.2

-- The devices are those of the links, or none after a stop.
pub all_devices : (h : History) → IsLegal h → (state h).devices ≡ devices_if (state h).stopped h
all_devices h l = go (state h).stopped refl
  where
    tie : IsTied h
    tie = tied h l

    shows : ShowsDevices (state h) h
    shows = shows_devices h l

    table : (d : DeviceTable) (drawn : ℕ) (rows : List (ℕ × Row)) → d.drawn ≡ drawn → d.rows ≡ rows
        → d ≡ record { drawn = drawn; rows = rows }
    table d drawn rows e f = λ i. record { drawn = e i; rows = f i }

    go : (stopped : Bool) → (state h).stopped ≡ stopped → (state h).devices ≡ devices_if stopped h
    go true off = table (state h).devices (plugged_count h) [] tie.drawn (shows.gone off)
    go false on = table (state h).devices (plugged_count h) (listed (λ t. device_of t h) 1 (plugged_count h)) tie.drawn
        (same_table (state h).devices.rows (λ t. device_of t h) (plugged_count h) tie.rows.rises
        (ap (λ (o : Option Row). device_from (is_lost 0 h) (framed (bytes_received 0 h)) o) (plugged_zero h l)
        ∙ no_row (is_lost 0 h || (is_some (framed (bytes_received 0 h)).fault || list_any is_refused (framed (bytes_received 0 h)).given))
        (row_by (last_cnxn (framed (bytes_received 0 h)).given) (framed (bytes_received 0 h)).given))
        (λ n lt. sym (shows.rows on n) ∙ tie.rows.above n lt) (shows.rows on))
