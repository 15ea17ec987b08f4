-- What the packets of a link make of the devices: the row of its device changes as they say, and all others stay.
use Rattle.std.proofs.Common.{ℕ, ◌≡◌, ◌≢◌, ◌≤◌, Bool, true, false, cond, List, [], ◌∷◌, Option, Some, None, is_some, refl, sym, ◌∙◌, ap}
use Rattle.std.proofs.Common.{subst, eqb}
use Rattle.std.proofs.Common.{inl, inr, ◌⊎◌}
use Rattle.std.proofs.lemmas.Bool.{eqb-false, eq-eqb, ne_eqb, cases_eq}
use Rattle.std.specs.Prelude.{nat_lt, ◌||◌, option_and_then, option_map, min}
use Rattle.adb_outside.specs.Tables.{at, Puts, set_at}
use Rattle.adb_outside.proofs.TableLaws.{puts_set_at}
use Rattle.adb_outside.specs.Framing.{Cut}
use Rattle.adb_outside.specs.declared.identity.Identity.{Identity}
use Rattle.adb_outside.specs.declared.identity.State.{State as DeviceState}
use Rattle.adb_outside.specs.declared.identity.State.TheVariants as device
use Rattle.adb_banner.specs.Banner.{identity_of}
use Rattle.adb_registry.specs.Row.{online_row, unauthorized_row}
use Rattle.adb_registry.specs.Registry.{DeviceTable}
use Rattle.adb_registry.specs.declared.row.Row.{Row}
use Rattle.adb_wire.specs.Format.{has_sums}
use Rattle.adb_wire.specs.declared.command.Command.{Command}
use Rattle.adb_wire.specs.declared.command.Command.TheVariants.{Cnxn, Open, Okay, Wrte, Clse, Auth, Stls}
use Rattle.adb_wire.specs.declared.packets.Packet.{Packet}
use Rattle.adb_wire.specs.declared.format.PacketFault.{PacketFault}
use Rattle.adb_wire.specs.declared.format.PacketFormat.{PacketFormat}
use Rattle.adb_wire.specs.declared.limits.TheConstants.{VERSION}
use Rattle.adb_wire.specs.declared.headers.TheConstants.{MAX_PAYLOAD}
use Rattle.adb_history.specs.Rows.{Link, State, to_link, none_kept}
use Rattle.adb_history.specs.Events.{Made, quietly, then_also}
use Rattle.adb_history.specs.declared.ending.Ending.{Ending}
use Rattle.adb_history.specs.declared.ending.Ending.TheVariants.{Lost, Broken}
use Rattle.adb_history.specs.Links.{is_connected}
use Rattle.adb_history.specs.Streams.{all_end}
use Rattle.adb_history.specs.Tracking.{mark_all}
use Rattle.adb_history.specs.Losing.{forgets, link_ends}
use Rattle.adb_history.specs.Packets.{least_version, least_maxdata, with_sums, goes_online, streams_end_first, connects, cnxn}
use Rattle.adb_history.specs.Packets.{unauthorized_from, unauthorized}
use Rattle.adb_history.specs.Packets.{treat_open, treat_any, treat_on, treat, treat_all, faulty_on, with_rest, receives_cut}
use Rattle.adb_history.proofs.Growing.{AreWithin, Keeps, keeps_all}
use Rattle.adb_history.proofs.GrowingRules.{keeps_all_end}
use Rattle.adb_history.proofs.GrowingPackets.{keeps_treat_open, keeps_mark_all}
use Rattle.adb_history.proofs.Changes.{HasRowsWithin}
use Rattle.adb_history.proofs.LinkChanges.{hears_all, hears_on}
use Rattle.adb_history.proofs.DeviceRows.{row_waiting, row_connected, row_cnxn, row_hears, row_after, rows_after}

-- a link lives exactly where its device has a row
abbrev pub AreLinked : State → Type 0
AreLinked s = (t : ℕ) → is_some (s.links t) ≡ is_some (at t s.devices.rows)

-- One device has this row then, or none; all others stay.
pub record Turns (t : ℕ) (row : Option Row) (s : State) (m : Made) : Type 0 where
  pub here : at t m.state.devices.rows ≡ row
  pub others : (k : ℕ) → k ≢ t → at k m.state.devices.rows ≡ at k s.devices.rows
  pub linked : AreLinked m.state
  pub stopped : m.state.stopped ≡ s.stopped

pub turns_then : (t : ℕ) (row next : Option Row) (s : State) (m : Made) (rule : State → Made) → Turns t row s m
    → Turns t next m.state (rule m.state)
    → Turns t next s (then_also m rule)
turns_then t row next s m rule h i = record {
  here = i.here;
  others = λ k apart. i.others k apart ∙ h.others k apart;
  linked = i.linked;
  stopped = i.stopped ∙ h.stopped;
}

-- what is to be known of a state
pub record IsGood (came plugged : ℕ) (s : State) : Type 0 where
  pub streams : AreWithin came plugged s.streams
  pub rows : HasRowsWithin plugged s.devices
  pub linked : AreLinked s

module _ (came plugged t : ℕ) where
  -- a quiet rule
  pub turns_keeps : (s : State) (m : Made) → AreLinked s → Keeps came plugged s m → Turns t (at t s.devices.rows) s m
  turns_keeps s m linked h = record {
    here = ap (λ (d : DeviceTable). at t d.rows) h.devices;
    others = λ k apart. ap (λ (d : DeviceTable). at k d.rows) h.devices;
    linked = λ k. h.linked k ∙ (linked k ∙ sym (ap (λ (d : DeviceTable). is_some (at k d.rows)) h.devices));
    stopped = h.stopped;
  }

  -- the row of one is set, and its link stays or goes with it
  turns_set : (row : Option Row) (links : ℕ → Option Link) (s next : State) → IsGood came plugged s
      → next.devices.rows ≡ set_at t row s.devices.rows → next.stopped ≡ s.stopped
      → is_some (next.links t) ≡ is_some row → ((k : ℕ) → k ≢ t → is_some (next.links k) ≡ is_some (s.links k))
      → Turns t row s (quietly next)
  turns_set row links s next good is stopped here others = record {
    here = ap (at t) is ∙ puts.here;
    others = λ k apart. ap (at k) is ∙ puts.others k apart;
    linked = λ k. go k (cases_eq k t);
    stopped = stopped;
  }
    where
      puts : Puts t row s.devices.rows (set_at t row s.devices.rows)
      puts = puts_set_at t row s.devices.rows good.rows.rises

      go : (k : ℕ) → (k ≡ t) ⊎ (k ≡ t → ⊥) → is_some (next.links k) ≡ is_some (at k next.devices.rows)
      go k (inl same) =
          ap (λ (n : ℕ). is_some (next.links n)) same
          ∙ (here ∙ sym (ap (λ (n : ℕ). is_some (at n next.devices.rows)) same ∙ ap is_some (ap (at t) is ∙ puts.here)))
      go k (inr apart) = others k apart ∙ (good.linked k ∙ sym (ap is_some (ap (at k) is ∙ puts.others k apart)))

  -- ---- a link ends
  here_or : (k : ℕ) → eqb t k ≡ false → k ≢ t
  here_or k e = λ same. eqb-false t k e (sym same)

  apart_from : (k : ℕ) → k ≢ t → eqb t k ≡ false
  apart_from k apart = ne_eqb t k (λ same. apart (sym same))

  turns_forgets : (s : State) → IsGood came plugged s → Turns t None s (quietly (forgets t s))
  turns_forgets s good = turns_set None s.links s (forgets t s) good refl refl
      (ap (λ (b : Bool). is_some (cond b (option_and_then none_kept (s.links t)) (s.links t))) (eq-eqb t t refl) ∙ gone (s.links t))
      (λ k apart. ap (λ (b : Bool). is_some (cond b (option_and_then none_kept (s.links k)) (s.links k))) (apart_from k apart))
    where
      gone : (o : Option Link) → is_some (option_and_then none_kept o) ≡ false
      gone None = refl
      gone (Some link) = refl

  pub turns_link_ends : (ending : Ending) (s : State) → IsGood came plugged s → Turns t None s (link_ends t ending s)
  turns_link_ends ending s good =
      let gone = forgets t s in
      let m = all_end t ending gone in
      let first = turns_forgets s good in
      let second = turns_keeps gone m first.linked (keeps_all_end came plugged t ending gone good.streams) in
      let third = turns_keeps m.state (quietly (mark_all m.state)) second.linked (keeps_mark_all came plugged m.state) in
      record {
        here = third.here ∙ (second.here ∙ first.here);
        others = λ k apart. third.others k apart ∙ (second.others k apart ∙ first.others k apart);
        linked = third.linked;
        stopped = third.stopped ∙ (second.stopped ∙ first.stopped);
      }

  -- ---- CNXN
  turns_online : (version maxdata : ℕ) (identity : Identity) (row : Row) (s : State) → IsGood came plugged s
      → at t s.devices.rows ≡ Some row
      → Turns t (row_connected (Some identity) version maxdata row) s (quietly (goes_online t version maxdata identity s))
  turns_online version maxdata identity row s good is =
      turns_set (Some (turn row)) s.links s (goes_online t version maxdata identity s) good
      (ap (λ (o : Option Row). set_at t (option_map turn o) s.devices.rows) is) refl
      (ap (λ (b : Bool). is_some (cond b (option_and_then (with_sums (has_sums version)) (s.links t)) (s.links t))) (eq-eqb t t refl)
      ∙ (there (s.links t) ∙ (good.linked t ∙ ap is_some is)))
      (λ k apart. ap
      (λ (b : Bool). is_some (cond b (option_and_then (with_sums (has_sums version)) (s.links k)) (s.links k)))
      (apart_from k apart))
    where
      turn : Row → Row
      turn = online_row identity (min version VERSION) (min maxdata MAX_PAYLOAD)

      there : (o : Option Link) → is_some (option_and_then (with_sums (has_sums version)) o) ≡ is_some o
      there None = refl
      there (Some link) = refl

  turns_connects : (version maxdata : ℕ) (o : Option Identity) (row : Row) (s : State) → IsGood came plugged s
      → at t s.devices.rows ≡ Some row
      → Turns t (row_connected o version maxdata row) s (connects t version maxdata o s)
  turns_connects version maxdata None row s good is = turns_link_ends Broken s good
  turns_connects version maxdata (Some identity) row s good is = go (is_connected t s.devices)
    where
      after : (m : Made) → Keeps came plugged s m
          → Turns t (row_connected (Some identity) version maxdata row) s
          (then_also m (λ s. quietly (goes_online t version maxdata identity s)))
      after m keeps =
          let first = turns_keeps s m good.linked keeps in
          turns_then t (at t s.devices.rows) (row_connected (Some identity) version maxdata row) s m
          (λ s. quietly (goes_online t version maxdata identity s)) first
          (turns_online version maxdata identity row m.state (record {
            streams = keeps.streams good.streams;
            rows = subst (λ (d : DeviceTable). HasRowsWithin plugged d) (sym keeps.devices) good.rows;
            linked = first.linked;
          }) (first.here ∙ is))

      go : (connected : Bool) → Turns t (row_connected (Some identity) version maxdata row) s
          (then_also (streams_end_first connected t s) (λ s. quietly (goes_online t version maxdata identity s)))
      go true = after (all_end t Lost s) (keeps_all_end came plugged t Lost s good.streams)
      go false = after (quietly s) (keeps_all came plugged s)

  turns_cnxn : (version maxdata : ℕ) (banner : List ℕ) (row : Row) (s : State) → IsGood came plugged s → at t s.devices.rows ≡ Some row
      → Turns t (row_cnxn version maxdata banner row) s (cnxn t version maxdata banner s)
  turns_cnxn version maxdata banner row s good is = go (nat_lt version least_version || nat_lt maxdata least_maxdata)
    where
      go : (bad : Bool) → Turns t (cond bad None (row_connected (identity_of banner) version maxdata row)) s
          (cond bad (link_ends t Broken s) (connects t version maxdata (identity_of banner) s))
      go true = turns_link_ends Broken s good
      go false = turns_connects version maxdata (identity_of banner) row s good is

  -- ---- AUTH and STLS
  turns_still : (row : Row) (s : State) (m : Made) → AreLinked s → at t s.devices.rows ≡ Some row
      → Keeps came plugged s m → Turns t (Some row) s m
  turns_still row s m linked is keeps =
      let same = turns_keeps s m linked keeps in
      record { here = same.here ∙ is; others = same.others; linked = same.linked; stopped = same.stopped }

  turns_waiting : (state : DeviceState) (row : Row) (s : State) → IsGood came plugged s → at t s.devices.rows ≡ Some row
      → Turns t (Some (row_waiting state row)) s (quietly (unauthorized_from t state s))
  turns_waiting device.Offline row s good is =
      turns_set (Some (unauthorized_row row)) s.links s (unauthorized_from t device.Offline s) good
      (ap (λ (o : Option Row). set_at t (option_map unauthorized_row o) s.devices.rows) is) refl
      (good.linked t ∙ ap is_some is) (λ k apart. refl)
  turns_waiting _ row s good is = turns_still row s (quietly s) good.linked is (keeps_all came plugged s)

  turns_unauthorized : (o : Option Row) (row : Row) (s : State) → IsGood came plugged s → at t s.devices.rows ≡ Some row → o ≡ Some row
      → Turns t (Some (row_waiting row.state row)) s (unauthorized t o s)
  turns_unauthorized None row s good is e = let clash : None ≡ Some row = e in cc
  turns_unauthorized (Some other) row s good is e =
      let same : other ≡ row = let both : Some other ≡ Some row = e in cc in
      subst (λ (r : Row). Turns t (Some (row_waiting r.state r)) s (unauthorized t (Some other) s)) same
      (turns_waiting other.state other s good (is ∙ sym e))

  -- ---- a packet
  turns_open : (command : Command) (p : Packet) (row : Row) (s : State) → IsGood came plugged s → t ≤ plugged
      → at t s.devices.rows ≡ Some row
      → Turns t (Some row) s (cond (is_connected t s.devices) (treat_open t command p s) (quietly s))
  turns_open command p row s good le is = go (is_connected t s.devices)
    where
      go : (connected : Bool) → Turns t (Some row) s (cond connected (treat_open t command p s) (quietly s))
      go true = turns_still row s (treat_open t command p s) good.linked is (keeps_treat_open came plugged t command p s le good.streams)
      go false = turns_still row s (quietly s) good.linked is (keeps_all came plugged s)

  turns_any : (command : Command) (p : Packet) (row : Row) (s : State) → IsGood came plugged s → t ≤ plugged
      → at t s.devices.rows ≡ Some row
      → Turns t (row_hears command p row) s (treat_any t command p s)
  turns_any Cnxn p row s good le is = turns_cnxn p.arg0 p.arg1 p.payload row s good is
  turns_any Auth p row s good le is = turns_unauthorized (at t s.devices.rows) row s good is is
  turns_any Stls p row s good le is = turns_unauthorized (at t s.devices.rows) row s good is is
  turns_any Open p row s good le is = turns_open Open p row s good le is
  turns_any Okay p row s good le is = turns_open Okay p row s good le is
  turns_any Wrte p row s good le is = turns_open Wrte p row s good le is
  turns_any Clse p row s good le is = turns_open Clse p row s good le is

  both_there : {X Y : Type 0} (a : Option X) (b : Option Y) → is_some a ≡ is_some b → a ≡ None → b ≡ None
  both_there None None e f = refl
  both_there None (Some y) e f = let clash : false ≡ true = e in cc
  both_there {X} (Some x) b e f = let clash : Some x ≡ None = f in cc

  turns_on : (o : Option Link) (row : Option Row) (p : Packet) (s : State) → s.links t ≡ o → at t s.devices.rows ≡ row
      → IsGood came plugged s → t ≤ plugged
      → Turns t (row_after p row) s (treat_on o t p s)
  turns_on None None p s is e good le =
      let same = turns_keeps s (quietly s) good.linked (keeps_all came plugged s) in
      record { here = same.here ∙ e; others = same.others; linked = same.linked; stopped = same.stopped }
  turns_on None (Some row) p s is e good le =
      let clash : false ≡ true = ap is_some (sym is) ∙ (good.linked t ∙ ap is_some e) in cc
  turns_on (Some link) None p s is e good le =
      let clash : true ≡ false = ap is_some (sym is) ∙ (good.linked t ∙ ap is_some e) in cc
  turns_on (Some link) (Some row) p s is e good le = turns_any p.command p row s good le e

  -- the packets of a link, one after another
  pub turns_all : (packets : List Packet) (s : State) → IsGood came plugged s → t ≤ plugged
      → Turns t (rows_after packets (at t s.devices.rows)) s (treat_all t packets s)
  turns_all [] s good le = turns_keeps s (quietly s) good.linked (keeps_all came plugged s)
  turns_all (p ∷ packets) s good le =
      let m = treat t p s in
      let row = row_after p (at t s.devices.rows) in
      let first = turns_on (s.links t) (at t s.devices.rows) p s refl refl good le in
      let changes = hears_on came plugged (s.links t) t p s refl le good.streams in
      let second = turns_all packets m.state
      (record { streams = changes.streams good.streams; rows = changes.rows good.rows; linked = first.linked }) le
      in
      turns_then t row (rows_after packets row) s m (treat_all t packets) first
      (subst (λ (o : Option Row). Turns t (rows_after packets o) m.state (treat_all t packets m.state)) first.here second)

  -- a fault
  pub turns_faulty : (o : Option Link) (fault : Option PacketFault) (s : State) → s.links t ≡ o → IsGood came plugged s
      → Turns t (cond (is_some fault) None (at t s.devices.rows)) s (faulty_on o t fault s)
  turns_faulty None fault s is good =
      let same = turns_keeps s (quietly s) good.linked (keeps_all came plugged s) in
      let gone : at t s.devices.rows ≡ None = both_there (s.links t) (at t s.devices.rows) (good.linked t) is in
      record {
        here = gone ∙ sym (go (is_some fault) (at t s.devices.rows) gone);
        others = same.others;
        linked =
            same.linked;
        stopped = same.stopped;
      }
    where
      go : (b : Bool) (o : Option Row) → o ≡ None → cond b None o ≡ None
      go true o e = refl
      go false o e = e
  turns_faulty (Some link) None s is good = turns_keeps s (quietly s) good.linked (keeps_all came plugged s)
  turns_faulty (Some link) (Some fault) s is good = turns_link_ends Broken s good

  -- bytes are received
  pub turns_cut : (c : Cut PacketFormat Packet PacketFault) (s : State) → IsGood came plugged s → t ≤ plugged
      → Turns t (cond (is_some c.fault) None (rows_after c.given (at t s.devices.rows))) s (receives_cut t c s)
  turns_cut c s good le =
      let m = treat_all t c.given rested in
      let first = turns_all c.given rested (record { streams = good.streams; rows = good.rows; linked = linked }) le in
      let changes = hears_all came plugged t c.given rested le good.streams in
      let second = turns_faulty (m.state.links t) c.fault m.state refl
      (record { streams = changes.streams good.streams; rows = changes.rows good.rows; linked = first.linked }) in
      record {
        here = second.here ∙ ap (cond (is_some c.fault) None) first.here;
        others = λ k apart. second.others k apart ∙ first.others k apart;
        linked = second.linked;
        stopped = second.stopped ∙ first.stopped;
      }
    where
      rested : State
      rested = to_link t (with_rest c.rest) s

      there : (here : Bool) (o : Option Link) → is_some (cond here (option_and_then (with_rest c.rest) o) o) ≡ is_some o
      there true None = refl
      there true (Some link) = refl
      there false o = refl

      linked : AreLinked rested
      linked k = there (eqb t k) (s.links k) ∙ good.linked k
