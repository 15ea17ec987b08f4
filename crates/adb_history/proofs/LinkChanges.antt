-- What the packets of a link make of the rows: the link is gone, or keeps what it has and wants check words by its last CNXN.
use Rattle.std.proofs.Common.{ℕ, ◌≡◌, ◌≤◌, Bool, true, false, cond, List, [], ◌∷◌, ◌++◌, Option, Some, None, refl, sym, ◌∙◌, ap, subst, eqb}
use Rattle.std.proofs.lemmas.Bool.{eqb-true, eq-eqb}
use Rattle.std.proofs.lemmas.List.{append-nil}
use Rattle.std.specs.Prelude.{nat_lt, ◌||◌, option_and_then, min}
use Rattle.adb_outside.specs.Tables.{at}
use Rattle.adb_outside.specs.declared.identity.Identity.{Identity}
use Rattle.adb_outside.specs.declared.identity.State.{State as DeviceState}
use Rattle.adb_outside.specs.declared.identity.State.TheVariants as device
use Rattle.adb_banner.specs.Banner.{identity_of}
use Rattle.adb_registry.specs.Row.{online_row, unauthorized_row}
use Rattle.adb_registry.specs.Registry.{DeviceTable, changed, detached}
use Rattle.adb_registry.specs.declared.row.Row.{Row}
use Rattle.adb_wire.specs.Format.{is_cnxn, has_sums}
use Rattle.adb_wire.specs.declared.command.Command.{Command}
use Rattle.adb_wire.specs.declared.command.Command.TheVariants.{Cnxn, Open, Okay, Wrte, Clse, Auth, Stls}
use Rattle.adb_wire.specs.declared.packets.Packet.{Packet}
use Rattle.adb_wire.specs.declared.format.PacketFault.{PacketFault}
use Rattle.adb_wire.specs.declared.limits.TheConstants.{VERSION}
use Rattle.adb_wire.specs.declared.headers.TheConstants.{MAX_PAYLOAD}
use Rattle.adb_history.specs.Rows.{Link, State, to_link, none_kept}
use Rattle.adb_history.specs.Events.{Made, quietly, spelled_to}
use Rattle.adb_history.specs.declared.ending.Ending.{Ending}
use Rattle.adb_history.specs.declared.ending.Ending.TheVariants.{Lost, Broken}
use Rattle.adb_history.specs.Links.{is_connected}
use Rattle.adb_history.specs.Streams.{all_end}
use Rattle.adb_history.specs.Tracking.{mark_all}
use Rattle.adb_history.specs.Forwarding.{forwards_without}
use Rattle.adb_history.specs.Losing.{forgets, link_ends}
use Rattle.adb_history.specs.Packets.{least_version, least_maxdata, with_sums, goes_online, streams_end_first, connects, cnxn}
use Rattle.adb_history.specs.Packets.{unauthorized_from, unauthorized}
use Rattle.adb_history.specs.Packets.{treat_open, treat_any, treat_on, treat, treat_all, faulty_on}
use Rattle.adb_history.proofs.Growing.{RowStep, row_same, row_goes, row_none, row_weaker, ClientStays, client_same, LinkStays, link_same}
use Rattle.adb_history.proofs.Growing.{AreWithin}
use Rattle.adb_history.proofs.Growing.{Chain, joins_due, keeps_all}
use Rattle.adb_history.proofs.GrowingRules.{keeps_all_end}
use Rattle.adb_history.proofs.GrowingPackets.{keeps_treat_open, keeps_mark_all}
use Rattle.adb_history.proofs.Changes.{within_changed, within_detached, Fate, Stay, LinkStay, stay_on}
use Rattle.adb_history.proofs.Changes.{Changes, changes_then, changes_weaker, changes_keeps, stays_then, changes_tables}

-- whether check words are wanted after a packet
abbrev pub sums_by : Command → ℕ → Bool → Bool
sums_by command version sums = cond (is_cnxn command) (has_sums version) sums

-- and after packets
abbrev pub sums_after : List Packet → Bool → Bool
sums_after [] sums = sums
sums_after (p ∷ ps) sums = sums_after ps (sums_by p.command p.arg0 sums)

-- A link that stays has what it had; the one that a packet came from wants check words by it.
pub record Hears (here : Bool) (command : Command) (version : ℕ) (a b : Link) (told : List ℕ) : Type 0 where
  pub due : b.due ≡ a.due ++ told
  pub rest : b.rest ≡ a.rest
  pub sums : b.sums ≡ cond here (sums_by command version a.sums) a.sums

pub record HearsAll (here : Bool) (packets : List Packet) (a b : Link) (told : List ℕ) : Type 0 where
  pub due : b.due ≡ a.due ++ told
  pub rest : b.rest ≡ a.rest
  pub sums : b.sums ≡ cond here (sums_after packets a.sums) a.sums

abbrev pub HearsOn : ℕ → Command → ℕ → Fate Link
HearsOn t command version k a b told = Hears (eqb t k) command version a b told

abbrev pub HearsAllOn : ℕ → List Packet → Fate Link
HearsAllOn t packets k a b told = HearsAll (eqb t k) packets a b told

-- a CNXN is heard behind what leaves the links, and before it
abbrev stays_and_hears : (t version : ℕ) → ℕ → Chain Link
stays_and_hears t version n = record {
  first = LinkStay n;
  next = HearsOn t Cnxn version n;
  both = HearsOn t Cnxn version n;
  follows = λ a b c u v h i. record {
    due = joins_due a.due b.due c.due u v h.due i.due;
    rest = i.rest ∙ h.rest;
    sums = i.sums ∙ ap (λ (x : Bool). cond (eqb t n) (has_sums version) x) h.sums;
  };
}

abbrev hears_and_stays : (t version : ℕ) → ℕ → Chain Link
hears_and_stays t version n = record {
  first = HearsOn t Cnxn version n;
  next = LinkStay n;
  both = HearsOn t Cnxn version n;
  follows = λ a b c u v h i. record {
    due = joins_due a.due b.due c.due u v h.due i.due;
    rest = i.rest ∙ h.rest;
    sums = i.sums ∙ h.sums;
  };
}

module _ (came plugged : ℕ) where
  -- ---- a link ends
  no_link : (t : ℕ) (s : State) → Changes came plugged Stay LinkStay s (quietly (to_link t none_kept s))
  no_link t s = record {
    clients = λ c. row_same ClientStays client_same (s.clients c);
    links = λ k. go (eqb t k) (s.links k);
    told = record { clients = λ c lt. refl; links = λ t lt. refl };
    streams = λ h. h;
    rows = λ h. h;
    joined = refl;
    drawn = refl;
  }
    where
      go : (here : Bool) (o : Option Link) → RowStep LinkStays o (cond here (option_and_then none_kept o) o) []
      go true None = tt
      go true (Some a) = tt
      go false o = row_same LinkStays link_same o

  changes_forgets : (t : ℕ) (s : State) → Changes came plugged Stay LinkStay s (quietly (forgets t s))
  changes_forgets t s =
      let tables = record s { devices = detached t s.devices; forwards = forwards_without t s.forwards } in
      stays_then came plugged s (quietly tables) (λ s. quietly (to_link t none_kept s))
      (changes_tables came plugged (detached t s.devices) (forwards_without t s.forwards) s.stopped s refl
      (within_detached plugged t s.devices))
      (no_link t tables)

  pub changes_link_ends : (t : ℕ) (ending : Ending) (s : State) → AreWithin came plugged s.streams
      → Changes came plugged Stay LinkStay s (link_ends t ending s)
  changes_link_ends t ending s all =
      let gone = forgets t s in
      let m = all_end t ending gone in
      stays_then came plugged s m (λ s. quietly (mark_all s))
      (stays_then came plugged s (quietly gone) (λ _. m) (changes_forgets t s)
      (changes_keeps came plugged gone m (keeps_all_end came plugged t ending gone all)))
      (changes_keeps came plugged m.state (quietly (mark_all m.state)) (keeps_mark_all came plugged m.state))

  no_row : (o : Option Link) → cond true (option_and_then none_kept o) o ≡ None
  no_row None = refl
  no_row (Some link) = refl

  gone_after : (t : ℕ) (s : State) (m : Made) → s.links t ≡ None → Changes came plugged Stay LinkStay s m → m.state.links t ≡ None
  gone_after t s m e h = row_none LinkStays (s.links t) (m.state.links t) (spelled_to t m.told) e (h.links t)

  pub link_ends_gone : (t : ℕ) (ending : Ending) (s : State) → AreWithin came plugged s.streams
      → (link_ends t ending s).state.links t ≡ None
  link_ends_gone t ending s all =
      let gone = forgets t s in
      let m = all_end t ending gone in
      let here : gone.links t ≡ None = ap (λ (b : Bool). cond b (option_and_then none_kept (s.links t)) (s.links t))
      (eq-eqb t t refl) ∙ no_row (s.links t) in
      gone_after t gone m here (changes_keeps came plugged gone m (keeps_all_end came plugged t ending gone all))

  -- ---- a packet
  -- a link that is gone afterwards hears nothing
  hears_gone : (t : ℕ) (command : Command) (version : ℕ) (s : State) (m : Made) → m.state.links t ≡ None
      → Changes came plugged Stay LinkStay s m
      → Changes came plugged Stay (HearsOn t command version) s m
  hears_gone t command version s m none h = record {
    clients = h.clients;
    links = λ k. go k (eqb t k) refl (h.links k);
    told = h.told;
    streams = h.streams;
    rows = h.rows;
    joined = h.joined;
    drawn = h.drawn;
  }
    where
      go : (k : ℕ) (here : Bool) → eqb t k ≡ here → RowStep LinkStays (s.links k) (m.state.links k) (spelled_to k m.told)
          → RowStep (Hears here command version) (s.links k) (m.state.links k) (spelled_to k m.told)
      go k true e i =
          let gone : m.state.links k ≡ None = ap m.state.links (sym (eqb-true t k e)) ∙ none in
          subst (λ (o : Option Link). RowStep (Hears true command version) (s.links k) o (spelled_to k m.told)) (sym gone)
          (row_goes (Hears true command version) (s.links k) (spelled_to k m.told))
      go k false e i = row_weaker LinkStays (Hears false command version)
          (λ a b u j. record { due = j.due; rest = j.rest; sums = j.sums }) (s.links k) (m.state.links k) (spelled_to k m.told) i

  -- a packet that is no CNXN changes no link
  hears_other : (t : ℕ) (command : Command) (version : ℕ) → is_cnxn command ≡ false → (s : State) (m : Made)
      → Changes came plugged Stay LinkStay s m
      → Changes came plugged Stay (HearsOn t command version) s m
  hears_other t command version other s m h =
      changes_weaker came plugged Stay Stay LinkStay (HearsOn t command version) (λ n a b u i. i)
      (λ n a b u i. record { due = i.due; rest = i.rest; sums = i.sums ∙ go (eqb t n) a.sums }) s m h
    where
      go : (here sums : Bool) → sums ≡ cond here (sums_by command version sums) sums
      go true sums = sym (ap (λ (b : Bool). cond b (has_sums version) sums) other)
      go false sums = refl

  hears_online : (t version maxdata : ℕ) (identity : Identity) (s : State)
      → Changes came plugged Stay (HearsOn t Cnxn version) s (quietly (goes_online t version maxdata identity s))
  hears_online t version maxdata identity s =
      changes_then came plugged stay_on (stays_and_hears t version) s (quietly tables)
      (λ x. quietly (mark_all (to_link t (with_sums (has_sums version)) x)))
      (changes_tables came plugged devices s.forwards s.stopped s refl (within_changed plugged t row s.devices))
      (changes_then came plugged stay_on (hears_and_stays t version) tables (quietly heard) (λ x. quietly (mark_all x)) hears
      (changes_keeps came plugged heard (quietly (mark_all heard)) (keeps_mark_all came plugged heard)))
    where
      row : Row → Row
      row = online_row identity (min version VERSION) (min maxdata MAX_PAYLOAD)

      devices : DeviceTable
      devices = changed t row s.devices

      tables : State
      tables = record s { devices = devices }

      heard : State
      heard = to_link t (with_sums (has_sums version)) tables

      at_link : (here : Bool) (o : Option Link)
          → RowStep (Hears here Cnxn version) o (cond here (option_and_then (with_sums (has_sums version)) o) o) []
      at_link true None = tt
      at_link false None = tt
      at_link true (Some a) = record { due = sym (append-nil a.due); rest = refl; sums = refl }
      at_link false (Some a) = record { due = sym (append-nil a.due); rest = refl; sums = refl }

      hears : Changes came plugged Stay (HearsOn t Cnxn version) tables (quietly heard)
      hears = record {
        clients = λ c. row_same ClientStays client_same (tables.clients c);
        links = λ k. at_link (eqb t k) (tables.links k);
        told = record { clients = λ c lt. refl; links = λ t lt. refl };
        streams = λ h. h;
        rows = λ h. h;
        joined = refl;
        drawn = refl;
      }

  hears_connects : (t version maxdata : ℕ) (o : Option Identity) (s : State) → AreWithin came plugged s.streams
      → Changes came plugged Stay (HearsOn t Cnxn version) s (connects t version maxdata o s)
  hears_connects t version maxdata None s all =
      hears_gone t Cnxn version s (link_ends t Broken s) (link_ends_gone t Broken s all) (changes_link_ends t Broken s all)
  hears_connects t version maxdata (Some identity) s all =
      changes_then came plugged stay_on (stays_and_hears t version) s ended
      (λ x. quietly (goes_online t version maxdata identity x)) (first (is_connected t s.devices))
      (hears_online t version maxdata identity ended.state)
    where
      ended : Made
      ended = streams_end_first (is_connected t s.devices) t s

      first : (connected : Bool) → Changes came plugged Stay LinkStay s (streams_end_first connected t s)
      first true = changes_keeps came plugged s (all_end t Lost s) (keeps_all_end came plugged t Lost s all)
      first false = changes_keeps came plugged s (quietly s) (keeps_all came plugged s)

  hears_cnxn : (t version maxdata : ℕ) (banner : List ℕ) (s : State) → AreWithin came plugged s.streams
      → Changes came plugged Stay (HearsOn t Cnxn version) s (cnxn t version maxdata banner s)
  hears_cnxn t version maxdata banner s all = go (nat_lt version least_version || nat_lt maxdata least_maxdata)
    where
      go : (refused : Bool) → Changes came plugged Stay (HearsOn t Cnxn version) s
          (cond refused (link_ends t Broken s) (connects t version maxdata (identity_of banner) s))
      go true = hears_gone t Cnxn version s (link_ends t Broken s) (link_ends_gone t Broken s all) (changes_link_ends t Broken s all)
      go false = hears_connects t version maxdata (identity_of banner) s all

  changes_unauthorized_from : (t : ℕ) (state : DeviceState) (s : State)
      → Changes came plugged Stay LinkStay s (quietly (unauthorized_from t state s))
  changes_unauthorized_from t device.Offline s =
      let tables = record s { devices = changed t unauthorized_row s.devices } in
      stays_then came plugged s (quietly tables) (λ x. quietly (mark_all x))
      (changes_tables came plugged (changed t unauthorized_row s.devices) s.forwards s.stopped s refl
      (within_changed plugged t unauthorized_row s.devices))
      (changes_keeps came plugged tables (quietly (mark_all tables)) (keeps_mark_all came plugged tables))
  changes_unauthorized_from t _ s = changes_keeps came plugged s (quietly s) (keeps_all came plugged s)

  changes_unauthorized : (t : ℕ) (o : Option Row) (s : State) → Changes came plugged Stay LinkStay s (unauthorized t o s)
  changes_unauthorized t None s = changes_keeps came plugged s (quietly s) (keeps_all came plugged s)
  changes_unauthorized t (Some row) s = changes_unauthorized_from t row.state s

  hears_open : (t : ℕ) (command : Command) (p : Packet) (s : State) → is_cnxn command ≡ false → t ≤ plugged
      → AreWithin came plugged s.streams
      → Changes came plugged Stay (HearsOn t command p.arg0) s (cond (is_connected t s.devices) (treat_open t command p s) (quietly s))
  hears_open t command p s other le all = go (is_connected t s.devices)
    where
      go : (connected : Bool) → Changes came plugged Stay (HearsOn t command p.arg0) s
          (cond connected (treat_open t command p s) (quietly s))
      go true = hears_other t command p.arg0 other s (treat_open t command p s)
          (changes_keeps came plugged s (treat_open t command p s) (keeps_treat_open came plugged t command p s le all))
      go false = hears_other t command p.arg0 other s (quietly s) (changes_keeps came plugged s (quietly s) (keeps_all came plugged s))

  hears_any : (t : ℕ) (command : Command) (p : Packet) (s : State) → t ≤ plugged → AreWithin came plugged s.streams
      → Changes came plugged Stay (HearsOn t command p.arg0) s (treat_any t command p s)
  hears_any t Cnxn p s le all = hears_cnxn t p.arg0 p.arg1 p.payload s all
  hears_any t Auth p s le all = hears_other t Auth p.arg0 refl s (unauthorized t (at t s.devices.rows) s)
      (changes_unauthorized t (at t s.devices.rows) s)
  hears_any t Stls p s le all = hears_other t Stls p.arg0 refl s (unauthorized t (at t s.devices.rows) s)
      (changes_unauthorized t (at t s.devices.rows) s)
  hears_any t Open p s le all = hears_open t Open p s refl le all
  hears_any t Okay p s le all = hears_open t Okay p s refl le all
  hears_any t Wrte p s le all = hears_open t Wrte p s refl le all
  hears_any t Clse p s le all = hears_open t Clse p s refl le all

  pub hears_on : (o : Option Link) (t : ℕ) (p : Packet) (s : State) → s.links t ≡ o → t ≤ plugged → AreWithin came plugged s.streams
      → Changes came plugged Stay (HearsOn t p.command p.arg0) s (treat_on o t p s)
  hears_on None t p s e le all = hears_gone t p.command p.arg0 s (quietly s) e
      (changes_keeps came plugged s (quietly s) (keeps_all came plugged s))
  hears_on (Some link) t p s e le all = hears_any t p.command p s le all

  hears_none : (t : ℕ) (s : State) → Changes came plugged Stay (HearsAllOn t []) s (quietly s)
  hears_none t s = changes_weaker came plugged Stay Stay LinkStay (HearsAllOn t []) (λ n a b u i. i)
      (λ n a b u i. record { due = i.due; rest = i.rest; sums = i.sums ∙ go (eqb t n) a.sums }) s (quietly s)
      (changes_keeps came plugged s (quietly s) (keeps_all came plugged s))
    where
      go : (here sums : Bool) → sums ≡ cond here sums sums
      go true sums = refl
      go false sums = refl

  -- the packets of a link, one after another
  pub hears_all : (t : ℕ) (packets : List Packet) (s : State) → t ≤ plugged → AreWithin came plugged s.streams
      → Changes came plugged Stay (HearsAllOn t packets) s (treat_all t packets s)
  hears_all t [] s le all = hears_none t s
  hears_all t (p ∷ packets) s le all =
      let first = hears_on (s.links t) t p s refl le all in
      changes_then came plugged stay_on (λ n. record {
        first = HearsOn t p.command p.arg0 n;
        next = HearsAllOn t packets n;
        both = HearsAllOn t (p ∷ packets) n;
        follows = λ a b c u v h i. record {
          due = joins_due a.due b.due c.due u v h.due i.due;
          rest = i.rest ∙ h.rest;
          sums = then_sums (eqb t n) a.sums b.sums c.sums h.sums i.sums;
        };
      }) s (treat t p s) (treat_all t packets) first
      (hears_all t packets (treat t p s).state le (first.streams all))
    where
      then_sums : (here x y z : Bool) → y ≡ cond here (sums_by p.command p.arg0 x) x → z ≡ cond here (sums_after packets y) y
          → z ≡ cond here (sums_after packets (sums_by p.command p.arg0 x)) x
      then_sums true x y z e f = f ∙ ap (sums_after packets) e
      then_sums false x y z e f = f ∙ e

  -- ---- a fault
  pub changes_faulty : (o : Option Link) (t : ℕ) (fault : Option PacketFault) (s : State) → AreWithin came plugged s.streams
      → Changes came plugged Stay LinkStay s (faulty_on o t fault s)
  changes_faulty None t fault s all = changes_keeps came plugged s (quietly s) (keeps_all came plugged s)
  changes_faulty (Some link) t None s all = changes_keeps came plugged s (quietly s) (keeps_all came plugged s)
  changes_faulty (Some link) t (Some fault) s all = changes_link_ends t Broken s all

  -- a link that stays had no fault
  pub faulty_gone : (o : Option Link) (t : ℕ) (fault : PacketFault) (s : State) → s.links t ≡ o → AreWithin came plugged s.streams
      → (faulty_on o t (Some fault) s).state.links t ≡ None
  faulty_gone None t fault s e all = e
  faulty_gone (Some link) t fault s e all = link_ends_gone t Broken s all
