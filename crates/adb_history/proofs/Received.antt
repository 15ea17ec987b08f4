-- What a link that lives keeps of its input is what the cutting of all its bytes leaves.
use Rattle.std.proofs.Common.{ℕ, ◌+◌, ◌≡◌, ◌≤◌, ◌<◌, Bool, true, false, cond, List, [], ◌∷◌, ◌++◌, length, take, drop, Option, Some, None}
use Rattle.std.proofs.Common.{refl, sym}
use Rattle.std.proofs.Common.{◌∙◌, ap, subst, arith, eqb, zero, suc}
use Rattle.std.proofs.lemmas.Bool.{eqb-true, ne_eqb, eq-eqb}
use Rattle.std.specs.Prelude.{option_and_then, ◌&&◌, ◌||◌, not}
use Rattle.adb_outside.specs.Framing.{Cut, joined, cut_by, cut_at}
use Rattle.adb_outside.specs.declared.framer.Front.{Front}
use Rattle.adb_outside.specs.declared.framer.Front.TheVariants.{More, Bad, Whole}
use Rattle.adb_outside.proofs.FramingLaws.{cut_piece}
use Rattle.adb_outside.specs.Tables.{put_row}
use Rattle.adb_wire.specs.Cutting.{cut_packets, framed}
use Rattle.adb_wire.specs.Format.{is_cnxn, has_sums, front_of, packet_of, format_after}
use Rattle.adb_wire.specs.FormatLaws.{packets_are_framed}
use Rattle.adb_wire.specs.declared.packets.Packet.{Packet}
use Rattle.adb_wire.specs.declared.format.PacketFault.{PacketFault}
use Rattle.adb_wire.specs.declared.format.PacketFormat.{PacketFormat}
use Rattle.adb_outside.specs.declared.kinds.Kind.{Kind}
use Rattle.adb_registry.specs.Registry.{attached}
use Rattle.adb_capture.specs.declared.entry.Entry.{Entry}
use Rattle.adb_capture.specs.declared.entry.Entry.TheVariants.{Join, Enter, Read, End, Bound, Attach, Recv, Detach, Put, Send}
use Rattle.adb_history.specs.Rows.{Client, Link, State, new_link, to_client, to_link}
use Rattle.adb_history.specs.Events.{Made, quietly, spelled_to}
use Rattle.adb_history.specs.Packets.{treat_all, faulty, with_rest, receives_cut, receives_on, receives}
use Rattle.adb_history.specs.Machine.{rule, ups, History, state, May, IsLegal}
use Rattle.adb_history.specs.Bytes.{is_lost, bytes_received}
use Rattle.adb_history.specs.Tied.{RestIsPastPackets}
use Rattle.adb_outside.specs.declared.kinds.Cause.{Cause}
use Rattle.adb_outside.specs.Tables.{at}
use Rattle.adb_forward.specs.declared.row.ForwardRow.{ForwardRow}
use Rattle.adb_history.specs.declared.ending.Ending.TheVariants as ending
use Rattle.adb_history.specs.Links.{server_cnxn, is_connected}
use Rattle.adb_history.specs.Streams.{opens}
use Rattle.adb_history.specs.Tracking.{mark_all}
use Rattle.adb_history.specs.Losing.{link_ends, client_ends}
use Rattle.adb_history.specs.Reading.{comes, comes_in_vain, enters_by, enters, plugs_in, reads, bound}
use Rattle.adb_history.specs.Handing.{lists_first, hands, client_left, takes_of, puts_to, puts, link_hands, sends}
use Rattle.adb_history.specs.Machine.{unplugs_on, MayPut}
use Rattle.adb_history.specs.Book.{plugged_count}
use Rattle.adb_history.specs.Tied.{came_count}
use Rattle.adb_history.proofs.Growing.{RowStep, row_then, LinkStays, AreWithin, Keeps, keeps_over, keeps_owe_link}
use Rattle.adb_history.proofs.GrowingRules.{keeps_up_all, keeps_client_ends, keeps_opens}
use Rattle.adb_history.proofs.GrowingPackets.{keeps_mark_all, keeps_lists_first, keeps_client_left}
use Rattle.adb_history.proofs.Changes.{HasRowsWithin, Stay, Changes}
use Rattle.adb_history.proofs.AnswersWithin.{row_within}
use Rattle.adb_history.proofs.ReadChanges.{read_from, changes_bound}
use Rattle.adb_history.proofs.OutputEntries.{IsTied, tied_rule, tied, connected_is, row_below}
use Rattle.adb_history.proofs.LinkChanges.{sums_by, sums_after, HearsAll, HearsAllOn, hears_all, changes_faulty, faulty_gone}
use Rattle.adb_history.proofs.LinkChanges.{changes_link_ends, link_ends_gone}

abbrev Cutting : Type 0
Cutting = Cut PacketFormat Packet PacketFault

-- check words are wanted behind packets by the last CNXN of them
reading_at : (k : ℕ) (format : PacketFormat) (bytes : List ℕ)
    → (cut_at front_of (λ _ frame. packet_of frame) (λ format frame. format_after format (packet_of frame)) k format bytes).reading.sums
    ≡ sums_after (cut_at front_of (λ _ frame. packet_of frame) (λ format frame. format_after format (packet_of frame))
    k format bytes).given format.sums
reading_at zero format bytes = refl
reading_at (suc k) format bytes = go (front_of format bytes) (λ f b. reading_at k f b)
  where
    others : PacketFormat → List ℕ → Cutting
    others = cut_at front_of (λ _ frame. packet_of frame) (λ format frame. format_after format (packet_of frame)) k

    next : (p : Packet) → (format_after format p).sums ≡ sums_by p.command p.arg0 format.sums
    next p = by (is_cnxn p.command)
      where
        by : (b : Bool) → (cond b (record { sums = has_sums p.arg0 }) format).sums ≡ cond b (has_sums p.arg0) format.sums
        by true = refl
        by false = refl

    go : (front : Front PacketFault) → ((f : PacketFormat) (b : List ℕ) → (others f b).reading.sums ≡ sums_after (others f b).given f.sums)
        → (cut_by front_of (λ _ frame. packet_of frame) (λ format frame. format_after format (packet_of frame)) format
        bytes front others).reading.sums
        ≡ sums_after (cut_by front_of (λ _ frame. packet_of frame)
        (λ format frame. format_after format (packet_of frame)) format bytes front others).given format.sums
    go More rest = refl
    go (Bad fault) rest = refl
    go (Whole n) rest =
        let p = packet_of (take n bytes) in
        rest (format_after format p) (drop n bytes) ∙ ap (sums_after (others (format_after format p) (drop n bytes)).given) (next p)

reading_is : (format : PacketFormat) (bytes : List ℕ) → (cut_packets format bytes).reading.sums
    ≡ sums_after (cut_packets format bytes).given format.sums
reading_is format bytes = reading_at (length bytes) format bytes

-- ---- one link
-- what a link keeps of its input is what the cutting of its bytes leaves
pub record ReadsAs (received : List ℕ) (link : Link) : Type 0 where
  pub rest : (framed received).rest ≡ link.rest
  pub sums : (framed received).reading.sums ≡ link.sums
  pub sound : (framed received).fault ≡ None

-- a link that lives was not lost
abbrev pub ReadTie : Bool → Option Link → List ℕ → Type 0
ReadTie lost None received = Unit {0}
ReadTie lost (Some link) received = ReadsAs received link × (lost ≡ false)

-- what the cutting leaves of bytes and more bytes
pub framed_piece : (received bytes : List ℕ) (link : Link) → ReadsAs received link
    → framed (received ++ bytes) ≡ joined (framed received).given (cut_packets (record { sums = link.sums }) (link.rest ++ bytes))
framed_piece received bytes link t =
    let item = λ (_ : PacketFormat) (frame : List ℕ). packet_of frame in
    let after = λ (format : PacketFormat) (frame : List ℕ). format_after format (packet_of frame) in
    cut_piece front_of item after packets_are_framed (length received) (record { sums = false }) received bytes (omega arith) t.sound
    ∙ (ap (λ (b : Bool). joined (framed received).given (cut_packets (record { sums = b }) ((framed received).rest ++ bytes))) t.sums
    ∙ ap (λ (x : List ℕ). joined (framed received).given (cut_packets (record { sums = link.sums }) (x ++ bytes))) t.rest)

-- a link goes on to hold what it held
pub record Holds (a b : Link) (told : List ℕ) : Type 0 where
  pub rest : b.rest ≡ a.rest
  pub sums : b.sums ≡ a.sums

pub holds : (o p : Option Link) (t : List ℕ) → RowStep LinkStays o p t → RowStep Holds o p []
holds None None t h = tt
holds None (Some b) t h = absurd h
holds (Some a) None t h = tt
holds (Some a) (Some b) t h = record { rest = h.rest; sums = h.sums }

pub tie_holds : (lost : Bool) (o p : Option Link) (received : List ℕ) → ReadTie lost o received → RowStep Holds o p []
    → ReadTie lost p received
tie_holds lost None None received t h = tt
tie_holds lost None (Some b) received t h = absurd h
tie_holds lost (Some a) None received t h = tt
tie_holds lost (Some a) (Some b) received t h =
    (record { rest = t.0.rest ∙ sym h.rest; sums = t.0.sums ∙ sym h.sums; sound = t.0.sound }, t.1)

-- ---- bytes are received
module _ (came plugged t : ℕ) (received bytes : List ℕ) where
  -- the packets are treated
  treated_tie : (link : Link) (c : Cutting) (o : Option Link) (told : List ℕ)
      → c ≡ cut_packets (record { sums = link.sums }) (link.rest ++ bytes)
      → ReadsAs received link → c.fault ≡ None → RowStep (HearsAll true c.given) (Some (record link { rest = c.rest })) o told
      → ReadTie false o (received ++ bytes)
  treated_tie link c None told is t sound h = tt
  treated_tie link c (Some b) told is t sound h =
      let whole : framed (received ++ bytes) ≡ joined (framed received).given c =
      framed_piece received bytes link t ∙ ap (joined (framed received).given) (sym is) in
      let read : c.reading.sums ≡ sums_after c.given link.sums =
      subst (λ (x : Cutting). x.reading.sums ≡ sums_after x.given link.sums) (sym is)
      (reading_is (record { sums = link.sums }) (link.rest ++ bytes)) in (
        record {
          rest = ap (λ (x : Cutting). x.rest) whole ∙ sym h.rest;
          sums = ap (λ (x : Cutting). x.reading.sums) whole ∙ (read ∙ sym h.sums);
          sound = ap (λ (x : Cutting). x.fault) whole ∙ sound;
        },
        refl,
      )

  -- and then their fault
  faulty_tie : (fault : Option PacketFault) (s : State) → AreWithin came plugged s.streams
      → (fault ≡ None → ReadTie false (s.links t) (received ++ bytes))
      → ReadTie false ((faulty t fault s).state.links t) (received ++ bytes)
  faulty_tie None s all h = tie_holds false (s.links t) ((faulty t None s).state.links t) (received ++ bytes) (h refl)
      (holds (s.links t) ((faulty t None s).state.links t) (spelled_to t (faulty t None s).told)
      ((changes_faulty came plugged (s.links t) t None s all).links t))
  faulty_tie (Some fault) s all h =
      subst (λ (o : Option Link). ReadTie false o (received ++ bytes)) (sym (faulty_gone came plugged (s.links t) t fault s refl all)) tt

  cut_tie : (link : Link) (s : State) → s.links t ≡ Some link → ReadsAs received link → t ≤ plugged → AreWithin came plugged s.streams
      → ReadTie false
      ((receives_cut t (cut_packets (record { sums = link.sums }) (link.rest ++ bytes)) s).state.links t)
      (received ++ bytes)
  cut_tie link s is tie le all =
      let c = cut_packets (record { sums = link.sums }) (link.rest ++ bytes) in
      let rested = to_link t (with_rest c.rest) s in
      let treated = treat_all t c.given rested in
      let hears = hears_all came plugged t c.given rested le all in
      let row : rested.links t ≡ Some (record link { rest = c.rest }) =
      ap (λ (b : Bool). cond b (option_and_then (with_rest c.rest) (s.links t)) (s.links t)) (eq-eqb t t refl)
      ∙ ap (option_and_then (with_rest c.rest)) is in
      let step : RowStep (HearsAll true c.given) (Some (record link { rest = c.rest })) (treated.state.links t)
      (spelled_to t treated.told) =
      subst (λ (o : Option Link). RowStep (HearsAll true c.given) o (treated.state.links t) (spelled_to t treated.told)) row
      (subst (λ (b : Bool). RowStep (HearsAll b c.given) (rested.links t) (treated.state.links t)
      (spelled_to t treated.told)) (eq-eqb t t refl)
      (hears.links t)) in
      faulty_tie c.fault treated.state (hears.streams all)
      (λ sound. treated_tie link c (treated.state.links t) (spelled_to t treated.told) refl tie sound step)

  receives_tie : (lost : Bool) (o : Option Link) (s : State) → s.links t ≡ o → ReadTie lost o received → t ≤ plugged
      → AreWithin came plugged s.streams
      → ReadTie lost ((receives_on o t bytes s).state.links t) (cond (not lost) (received ++ bytes) received)
  receives_tie lost None s is tie le all =
      subst (λ (o : Option Link). ReadTie lost o (cond (not lost) (received ++ bytes) received)) (sym is) tt
  receives_tie lost (Some link) s is tie le all =
      subst (λ (b : Bool). ReadTie b ((receives_cut t (cut_packets (record { sums = link.sums }) (link.rest ++ bytes)) s).state.links t)
      (cond (not b) (received ++ bytes) received)) (sym tie.1) (cut_tie link s is tie.0 le all)

-- ---- the other entries
-- a rule that leaves all links as they are
unheard : (o : Option Link) → RowStep Holds o o []
unheard None = tt
unheard (Some a) = record { rest = refl; sums = refl }

holds_then : (o p q : Option Link) → RowStep Holds o p [] → RowStep Holds p q [] → RowStep Holds o q []
holds_then o p q h i = row_then (record {
  first = Holds;
  next = Holds;
  both = Holds;
  follows = λ a b c t u h i. record { rest = i.rest ∙ h.rest; sums = i.sums ∙ h.sums };
}) o p q [] [] h i

module _ (came plugged : ℕ) (s : State) (all : AreWithin came plugged s.streams) (rows : HasRowsWithin plugged s.devices) where
  kept : (m : Made) → Keeps came plugged s m → (t : ℕ) → RowStep Holds (s.links t) (m.state.links t) []
  kept m h t = holds (s.links t) (m.state.links t) (spelled_to t m.told) (h.links t)

  holds_puts : (c n : ℕ) (o : Option Client) → c ≤ came → (t : ℕ) → RowStep Holds (s.links t) ((puts_to o c n s).state.links t) []
  holds_puts c n None le t = unheard (s.links t)
  holds_puts c n (Some client) le t =
      let m = lists_first c client.due client s in
      let first = keeps_lists_first came plugged c client.due client s le in
      holds_then (s.links t) (m.state.links t) ((takes_of c n (m.state.clients c) m.state).state.links t) (kept m first t)
      (takes (m.state.clients c) m.state (first.streams all))
    where
      takes : (o : Option Client) (x : State) → AreWithin came plugged x.streams
          → RowStep Holds (x.links t) ((takes_of c n o x).state.links t) []
      takes None x within = unheard (x.links t)
      takes (Some client) x within =
          let next = to_client c (hands n) x in
          let m = client_left client.about.phase (length (drop n client.due)) next in
          holds (x.links t) (m.state.links t) (spelled_to t m.told)
          ((keeps_client_left came plugged client.about.phase (length (drop n client.due)) next within).links t)

  holds_sends : (n k : ℕ) (t : ℕ) → RowStep Holds (s.links t) ((sends n k s).links t) []
  holds_sends n k t = go (eqb n t) (s.links t)
    where
      go : (here : Bool) (o : Option Link) → RowStep Holds o (cond here (option_and_then (link_hands k) o) o) []
      go true None = tt
      go true (Some a) = record { rest = refl; sums = refl }
      go false o = unheard o

  -- the packets of another link
  holds_others : (n : ℕ) (bytes : List ℕ) (o : Option Link) → n ≤ plugged → (t : ℕ) → eqb n t ≡ false
      → RowStep Holds (s.links t) ((receives_on o n bytes s).state.links t) []
  holds_others n bytes None le t apart = unheard (s.links t)
  holds_others n bytes (Some link) le t apart =
      holds_then (s.links t) (treated.state.links t) ((faulty n c.fault treated.state).state.links t)
      (holds_then (s.links t) (rested.links t) (treated.state.links t) (first (eqb n t) apart (s.links t))
      (second (eqb n t) apart (rested.links t) (treated.state.links t)
      (spelled_to t treated.told) (hears.links t)))
      (holds (treated.state.links t) ((faulty n c.fault treated.state).state.links t) (spelled_to t (faulty n c.fault treated.state).told)
      ((changes_faulty came plugged (treated.state.links n) n c.fault treated.state (hears.streams all)).links t))
    where
      c : Cutting
      c = cut_packets (record { sums = link.sums }) (link.rest ++ bytes)

      rested : State
      rested = to_link n (with_rest c.rest) s

      treated : Made
      treated = treat_all n c.given rested

      hears : Changes came plugged Stay (HearsAllOn n c.given) rested treated
      hears = hears_all came plugged n c.given rested le all

      first : (here : Bool) → here ≡ false → (o : Option Link) → RowStep Holds o (cond here (option_and_then (with_rest c.rest) o) o) []
      first true e o = let clash : true ≡ false = e in cc
      first false e o = unheard o

      second : (here : Bool) → here ≡ false → (o p : Option Link) (told : List ℕ)
          → RowStep (HearsAll here c.given) o p told → RowStep Holds o p []
      second true e o p told h = let clash : true ≡ false = e in cc
      second false e None None told h = tt
      second false e None (Some b) told h = absurd h
      second false e (Some a) None told h = tt
      second false e (Some a) (Some b) told h = record { rest = h.rest; sums = h.sums }

-- ---- all histories
pub record IsReceived (h : History) : Type 0 where
  pub links : (t : ℕ) → ReadTie (is_lost t h) ((state h).links t) (bytes_received t h)
  pub fresh : (t : ℕ) → plugged_count h < t → (is_lost t h ≡ false) × (bytes_received t h ≡ [])

-- after the rule of an entry
abbrev ReceivedAfter : Entry → History → ℕ → Type 0
ReceivedAfter e older t = ReadTie (is_lost t (e ∷ older)) ((rule e (state older)).state.links t) (bytes_received t (e ∷ older))

module _ (older : History) (tie : IsTied older) (h : IsReceived older) where
  abbrev s : State
  s = state older

  same_tie : (m : Made) → ((t : ℕ) → RowStep Holds (s.links t) (m.state.links t) []) → (t : ℕ)
      → ReadTie (is_lost t older) (m.state.links t) (bytes_received t older)
  same_tie m holds t = tie_holds (is_lost t older) (s.links t) (m.state.links t) (bytes_received t older) (h.links t) (holds t)

  quiet_tie : (m : Made) → Keeps (came_count older) (plugged_count older) s m → (t : ℕ)
      → ReadTie (is_lost t older) (m.state.links t) (bytes_received t older)
  quiet_tie m keeps t = same_tie m (λ t. kept (came_count older) (plugged_count older) s tie.streams tie.rows m keeps t) t

  enter_tie : (c port : ℕ) (o : Option ForwardRow) → May s (Enter c port) → (t : ℕ)
      → RowStep Holds (s.links t) ((enters_by c o s).state.links t) []
  enter_tie c port None may t = unheard (s.links t)
  enter_tie c port (Some row) may t = go (is_connected row.transport s.devices) refl
    where
      came : State
      came = comes true c s

      go : (connected : Bool) → is_connected row.transport s.devices ≡ connected
          → RowStep Holds (s.links t)
          ((cond connected (opens true c row.transport row.remote came) (quietly (comes_in_vain s))).state.links
          t) []
      go false e = unheard (s.links t)
      go true e =
          let m = opens true c row.transport row.remote came in
          holds (s.links t) (m.state.links t) (spelled_to t m.told)
          ((keeps_opens (came_count older + 1) (plugged_count older) true c row.transport row.remote came (omega (arith, may.1, tie.joined))
          (row_within (plugged_count older) row.transport s.devices tie.rows (connected_is (at row.transport s.devices.rows) e))).links t)

  attach_tie : (n : ℕ) (kind : Kind) (serial : List ℕ) → May s (Attach n kind serial) → (t : ℕ)
      → ReceivedAfter (Attach n kind serial) older t
  attach_tie n kind serial may t =
      let m = plugs_in n kind serial s in
      let next = record s { devices = attached kind serial s.devices; links = put_row n (Some new_link) s.links } in
      let keeps = keeps_over (came_count older) (plugged_count older + 1) next (mark_all next) m
      (keeps_mark_all (came_count older) (plugged_count older + 1) next)
      (keeps_owe_link (came_count older) (plugged_count older + 1) n server_cnxn (mark_all next) (omega (arith, may.1, tie.drawn))) in
      tie_holds (is_lost t older) (next.links t) (m.state.links t) (bytes_received t older) (here (eqb n t) refl)
      (holds (next.links t) (m.state.links t) (spelled_to t m.told) (keeps.links t))
    where
      here : (same : Bool) → eqb n t ≡ same → ReadTie (is_lost t older) (cond same (Some new_link) (s.links t)) (bytes_received t older)
      here false e = h.links t
      here true e =
          let fresh = h.fresh t (omega (arith, eqb-true n t e, may.1, tie.drawn)) in
          (subst (λ (x : List ℕ). ReadsAs x new_link) (sym fresh.1) (record { rest = refl; sums = refl; sound = refl }), fresh.0)

  recv_tie : (n : ℕ) (bytes : List ℕ) → May s (Recv n bytes) → (t : ℕ) → ReceivedAfter (Recv n bytes) older t
  recv_tie n bytes may t = go (eqb n t) refl
    where
      below : n ≤ plugged_count older
      below = omega (arith, may.1.1, tie.drawn)

      go : (here : Bool) → eqb n t ≡ here → ReadTie (is_lost t older) ((receives n bytes s).state.links t)
          (cond (here && not (is_lost t older)) (bytes_received t older ++ bytes) (bytes_received t older))
      go false e = tie_holds (is_lost t older) (s.links t) ((receives n bytes s).state.links t) (bytes_received t older) (h.links t)
          (holds_others (came_count older) (plugged_count older) s tie.streams tie.rows n bytes (s.links n) below t e)
      go true e =
          subst (λ (k : ℕ). ReadTie (is_lost k older) ((receives n bytes s).state.links k)
          (cond (not (is_lost k older)) (bytes_received k older ++ bytes) (bytes_received k older))) (eqb-true n t e)
          (receives_tie (came_count older) (plugged_count older) n (bytes_received n older) bytes (is_lost n older) (s.links n) s refl
          (h.links n) below tie.streams)

  detach_tie : (n : ℕ) (cause : Cause) → (t : ℕ) → ReceivedAfter (Detach n cause) older t
  detach_tie n cause t = go (eqb n t) refl (s.links n) refl
    where
      go : (here : Bool) → eqb n t ≡ here → (o : Option Link) → s.links n ≡ o
          → ReadTie (here || is_lost t older) ((unplugs_on o n s).state.links t) (bytes_received t older)
      go false e None is = h.links t
      go false e (Some link) is = same_tie (link_ends n ending.Lost s)
          (λ t. holds (s.links t) ((link_ends n ending.Lost s).state.links t) (spelled_to t (link_ends n ending.Lost s).told)
          ((changes_link_ends (came_count older) (plugged_count older) n ending.Lost s tie.streams).links t)) t
      go true e None is = subst (λ (o : Option Link). ReadTie true o (bytes_received t older))
          (sym (ap s.links (sym (eqb-true n t e)) ∙ is)) tt
      go true e (Some link) is =
          let gone : (link_ends n ending.Lost s).state.links t ≡ None =
          ap (link_ends n ending.Lost s).state.links (sym (eqb-true n t e))
          ∙ link_ends_gone (came_count older) (plugged_count older) n ending.Lost s tie.streams in
          subst (λ (o : Option Link). ReadTie true o (bytes_received t older)) (sym gone) tt

  below_came : (c : ℕ) (o : Option Client) (bytes : List ℕ) → s.clients c ≡ o → MayPut s o bytes → c ≤ came_count older
  below_came c None bytes is may = absurd may
  below_came c (Some client) bytes is may = row_below (came_count older) c (s.clients c) client (tie.unborn c) is

  received_rule : (e : Entry) → May s e → (t : ℕ) → ReceivedAfter e older t
  received_rule (Join c) may t = h.links t
  received_rule (Enter c port) may t = same_tie (enters c port s) (λ t. enter_tie c port (at port s.forwards) may t) t
  received_rule (Read c bytes) may t = same_tie (reads c bytes s)
      (λ t. holds (s.links t) ((reads c bytes s).state.links t) (spelled_to t (reads c bytes s).told)
      ((read_from (came_count older) (plugged_count older) c (s.clients c) bytes s
      (omega (arith, may.1.1, tie.joined)) tie.rows).links t)) t
  received_rule (End c cause) may t = quiet_tie (client_ends c cause (s.clients c) s)
      (keeps_client_ends (came_count older) (plugged_count older) c cause (s.clients c) s tie.streams) t
  received_rule (Bound c port) may t = same_tie (bound c port s)
      (λ t. holds (s.links t) ((bound c port s).state.links t) (spelled_to t (bound c port s).told)
      ((changes_bound (came_count older) (plugged_count older) (s.clients c) c port s (omega (arith, may.1.1, tie.joined))).links t)) t
  received_rule (Attach n kind serial) may t = attach_tie n kind serial may t
  received_rule (Recv n bytes) may t = recv_tie n bytes may t
  received_rule (Detach n cause) may t = detach_tie n cause t
  received_rule (Put c bytes) may t = same_tie (puts c (length bytes) s)
      (λ t. holds_puts (came_count older) (plugged_count older) s tie.streams tie.rows c (length bytes) (s.clients c)
      (below_came c (s.clients c) bytes refl may) t) t
  received_rule (Send n bytes) may t = same_tie (quietly (sends n (length bytes) s))
      (λ t. holds_sends (came_count older) (plugged_count older) s tie.streams tie.rows n (length bytes) t) t

  -- a link that was not plugged in has nothing
  fresh_rule : (e : Entry) → May s e → (t : ℕ) → plugged_count (e ∷ older) < t
      → (is_lost t (e ∷ older) ≡ false) × (bytes_received t (e ∷ older) ≡ [])
  fresh_rule (Attach n kind serial) may t lt = h.fresh t (omega (arith, lt))
  fresh_rule (Recv n bytes) may t lt =
      let before = h.fresh t lt in (
        before.0,
        ap (λ (b : Bool). cond (b && not (is_lost t older)) (bytes_received t older ++ bytes) (bytes_received t older))
            (ne_eqb n t (λ e. omega (arith, lt, e, may.1.1, tie.drawn))) ∙ before.1,
      )
  fresh_rule (Detach n cause) may t lt =
      let before = h.fresh t lt in
      (ap (λ (b : Bool). b || is_lost t older) (ne_eqb n t (λ e. omega (arith, lt, e, may.1.1, tie.drawn))) ∙ before.0, before.1)
  fresh_rule _ may t lt = h.fresh t lt

  received_step : (e : Entry) → May s e → IsReceived (e ∷ older)
  received_step e may = record {
    links = λ t.
        let m = rule e s in
        let after = tied_rule older tie e may in
        tie_holds (is_lost t (e ∷ older)) (m.state.links t) ((ups m.state).state.links t)
        (bytes_received t (e ∷ older)) (received_rule e may t)
        (holds (m.state.links t) ((ups m.state).state.links t) (spelled_to t (ups m.state).told)
        ((keeps_up_all (came_count (e ∷ older)) (plugged_count (e ∷ older)) m.state.drawn m.state after.streams).links t));
    fresh = fresh_rule e may;
  }

pub received : (h : History) → IsLegal h → IsReceived h
received [] l = record { links = λ t. tt; fresh = λ t lt. (refl, refl) }
received (e ∷ older) l = received_step older (tied older l.0) (received older l.0) e l.2

pub all_rest_past_packets : (h : History) → IsLegal h → RestIsPastPackets h
all_rest_past_packets h l t link is =
    let t = (subst (λ (o : Option Link). ReadTie (is_lost t h) o (bytes_received t h)) is ((received h l).links t)).0 in
    record { rest = t.rest; sums = t.sums; sound = t.sound }
