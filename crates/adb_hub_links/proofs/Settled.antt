-- All that packets of a link leave, and the up rule behind them.
use Rattle.std.proofs.Common.{ℕ, ◌+◌, ◌≡◌, ◌≤◌, cond, Bool, true, List, [], length, Option, Some, None, refl, sym, ◌∙◌, ap, subst, arith}
use Rattle.std.specs.Prelude.{option_map, is_some}
use Rattle.std.proofs.lemmas.Bool.{eq-eqb}
use Rattle.adb_outside.specs.Tables.{at}
use Rattle.adb_stream.specs.Stream.{of_link}
use Rattle.adb_stream.specs.declared.row.Stream.{Stream}
use Rattle.adb_wire.specs.Deframing.{Deframing}
use Rattle.adb_wire.specs.declared.headers.TheConstants.{MAX_PAYLOAD}
use Rattle.adb_history.specs.Rows.{Link, State}
use Rattle.adb_history.specs.Events.{then_also}
use Rattle.adb_history.specs.Flow.{up_all}
use Rattle.adb_history.specs.Links.{maxdata_of}
use Rattle.adb_history.specs.Machine.{ups}
use Rattle.adb_history.specs.Packets.{faulty, faulty_on, treat_all}
use Rattle.adb_hub_rules.specs.declared.came.Came.{Came}
use Rattle.adb_hub_tables.specs.declared.ports.Port.{Port}
use Rattle.adb_hub_tables.specs.declared.tables.Tables.{Tables}
use Rattle.adb_hub_rules.specs.Came.{packets_of, slices_in}
use Rattle.adb_hub_tables.specs.Tables.{state_of}
use Rattle.adb_hub_tables.specs.Endings.{Log, Records, Reports}
use Rattle.adb_hub_tables.proofs.Reporting.{TellsSame, records_same, reports_then}
use Rattle.adb_hub_tables.specs.Places.{LinkRoom, ClientRoom, StaysHeld, StaysRead, IsProvided, Takes}
use Rattle.adb_hub_rules.specs.Sweep.{CoversUp, IsReadyEach, UsesEach, writes_on}
use Rattle.adb_hub_rules.specs.Up.{IsSized}
use Rattle.adb_hub_tables.proofs.Staying.{read_then}
use Rattle.adb_hub_rules.proofs.Taking.{provided_after}
use Rattle.adb_hub_tables.proofs.Using.{more_room}
use Rattle.adb_laws_resting.specs.Named.{granted, AllStay, AreNamed}
use Rattle.adb_hub_links.specs.Cutting.{cut_with}
use Rattle.adb_hub_links.specs.Reserving.{all_writes, IsReserved}
use Rattle.adb_hub_links.specs.Settling.{PutsIncoming, reading, behind, CanSettle, HasSettled, settles}
use Rattle.adb_hub_links.proofs.Putting.{put_state, put_room, put_provided}
use Rattle.adb_hub_links.proofs.Readying.{ready_behind}

-- where no byte was wrong nothing changes
pub no_fault : (o : Option Link) (link : ℕ) (s : State) → (faulty_on o link None s).state ≡ s
no_fault None link s = refl
no_fault (Some row) link s = refl

pub no_fault_told : (o : Option Link) (link : ℕ) (s : State) → TellsSame [] (faulty_on o link None s).told
no_fault_told None link s = λ rows log. refl
no_fault_told (Some row) link s = λ rows log. refl

-- What came in was put in its place, and then packets were treated.
pub record Settling (link : ℕ) (came : List Came) (incoming : Deframing) (ids : List ℕ) (old middle new : Tables) : Type 0 where
  pub can : CanSettle link came incoming ids old
  pub puts : PutsIncoming link incoming old middle
  pub takes : Takes link (length came) (slices_in (packets_of came) middle.streams.streams) middle new
  pub state : state_of new ≡ (then_also (treat_all link (packets_of came) (state_of middle)) (faulty link incoming.fault)).state

module _ {link : ℕ} {packets : List Came} {ids : List ℕ} {old : Tables} (reserved : IsReserved link packets ids old) where
  -- the ids are those that the packets name
  are_named : AreNamed (packets_of packets) link (state_of old) ids
  are_named = record {
    live = λ l there. lives (at l old.streams.streams) (reserved.named.live l there);
    all = λ l stream there is on. reserved.named.all l there (found_on l stream is on);
  }
    where
      lives : (row : Option Stream) → is_some (of_link link row) ≡ true → is_some row ≡ true
      lives None e = e
      lives (Some stream) e = refl

      found_on : (l : ℕ) (stream : Stream) → at l old.streams.streams ≡ Some stream → stream.link ≡ link
          → is_some (of_link link (at l old.streams.streams)) ≡ true
      found_on l stream is on =
          ap (λ (row : Option Stream). is_some (of_link link row)) is
          ∙ ap (λ (b : Bool). is_some (cond b (Some stream) None)) (eq-eqb stream.link link on)

  -- before packets there is room for them, also where something else came in
  module _ {incoming : Deframing} {middle : Tables} (puts : PutsIncoming link incoming old middle) where
    pub room_put : LinkRoom (length packets) (at link middle.links.entries)
    room_put =
        let all = all_writes (granted (packets_of packets)) (maxdata_of link old.devices) ids old.streams.streams old.clients.entries in
        put_room link incoming old middle puts (length packets) link
        (more_room (all + length packets) (length packets) (at link old.links.entries) (omega arith) reserved.room)

    pub places_put : (c : ℕ) → ClientRoom (slices_in (packets_of packets) middle.streams.streams c) (at c middle.clients.entries)
    places_put c =
        subst (λ (t : Tables). ClientRoom (slices_in (packets_of packets) t.streams.streams c) (at c t.clients.entries)) (sym puts.others)
        (reserved.clients c)

module _ {link : ℕ} {came : List Came} {incoming : Deframing} {ids : List ℕ} {old middle new : Tables}
    (h : Settling link came incoming ids old middle new) where
  behind_is : state_of new ≡ behind link (cut_with incoming came) (state_of old)
  behind_is =
      h.state ∙ ap (λ (s : State). (then_also (treat_all link (packets_of came) s) (faulty link incoming.fault)).state)
      (put_state link incoming old middle h.puts)

  pub provided_behind : IsProvided new
  provided_behind =
      provided_after link (length came) (slices_in (packets_of came) middle.streams.streams) middle new h.takes
      (put_provided link incoming old middle h.puts h.can.provided) (room_put h.can.reserved h.puts, places_put h.can.reserved h.puts)

  pub sized_behind : IsSized new
  sized_behind = subst (λ (s : State). (t : ℕ) → maxdata_of t s.devices ≤ MAX_PAYLOAD) (sym behind_is) h.can.leaves.sized

  pub ready_each : IsReadyEach ids new
  ready_each =
      ready_behind h.can.reserved (record {
        stays = subst (AllStay (granted (packets_of came)) (state_of old)) (sym behind_is) h.can.leaves.stays;
        held = λ c. subst (λ (t : Tables). StaysHeld (at c t.clients.entries) (at c new.clients.entries)) h.puts.others (h.takes.held c);
      })
      (let all = all_writes (granted (packets_of came)) (maxdata_of link old.devices) ids old.streams.streams old.clients.entries in
      h.takes.on_link all (put_room link incoming old middle h.puts (all + length came) link h.can.reserved.room))
      provided_behind.links

  read_is : (before : Option Port) (port : Port) → StaysRead (option_map (reading incoming) before) (Some port)
      → port.link.incoming ≡ incoming
  read_is None port read = absurd read
  read_is (Some before) port read = read

  -- behind the up rule
  module _ (last : Tables) (uses : UsesEach ids new last) where
    reads : (k : ℕ) → StaysRead (at k middle.links.entries) (at k last.links.entries)
    reads k = read_then (at k middle.links.entries) (at k new.links.entries) (at k last.links.entries) (h.takes.read k) (uses.read k)

    pub settled : ((k : ℕ) → CoversUp ids k (state_of new) → state_of last ≡ (up_all k (state_of new)).state)
        → HasSettled link (cut_with incoming came) incoming old last
    settled all = record {
      state =
          all new.streams.drawn
          (subst (λ (s : State). CoversUp ids s.drawn s) (sym behind_is) (h.can.leaves.covers ids (are_named h.can.reserved)))
          ∙ ap (λ (s : State). (ups s).state) behind_is;
      provided = record {
        links = λ k. uses.links 0 k
            (more_room (writes_on k ids new) (0 + writes_on k ids new) (at k new.links.entries) (omega arith)
            (ready_each.room k));
        clients = λ c. uses.clients 0 c (provided_behind.clients c);
        counted = uses.counted provided_behind.counted;
        tracked = uses.tracked provided_behind.tracked;
      };
      here = λ port is.
          read_is (at link old.links.entries) port
          (subst (λ (row : Option Port). StaysRead row (Some port)) h.puts.here
          (subst (StaysRead (at link middle.links.entries)) is (reads link)));
      apart = λ k other. subst (λ (row : Option Port). StaysRead row (at k last.links.entries)) (h.puts.apart k other) (reads k);
    }

    -- what the log records
    pub settled_told : {before middle_log after : Log}
        → Reports (then_also (treat_all link (packets_of came) (state_of middle)) (faulty link incoming.fault)).told
        before middle middle_log new
        → ((k : ℕ) → CoversUp ids k (state_of new) → Reports (up_all k (state_of new)).told middle_log new after last)
        → Records (settles link (cut_with incoming came) (state_of old)).told before old after
    settled_told {before} {middle_log} {after} treated all =
        let s = put_state link incoming old middle h.puts in
        let received = subst (λ (s : State). Reports (then_also (treat_all link (packets_of came) s) (faulty link incoming.fault)).told
        before middle middle_log new)
        s treated in
        let goes_up = all new.streams.drawn
        (subst (λ (s : State). CoversUp ids s.drawn s) (sym behind_is) (h.can.leaves.covers ids (are_named h.can.reserved))) in
        let up = subst (λ (s : State). Reports (ups s).told middle_log new after last) behind_is goes_up in
        records_same {old = old} {new = middle} (λ l. ap (λ (t : Tables). at l t.streams.streams) h.puts.others)
        (reports_then received up).log
