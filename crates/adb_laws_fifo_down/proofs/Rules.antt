-- What each turn of what is seen of a stream keeps, each rule keeps.
use Rattle.std.proofs.Common.{ℕ, ◌≡◌, Bool, true, false, List, [], ◌∷◌, ◌++◌, Option, Some, None, is_some, refl, sym, ◌∙◌, ap}
use Rattle.std.proofs.Common.{subst, append_assoc, inl, inr, ◌⊎◌}
use Rattle.std.proofs.lemmas.List.{append-nil}
use Rattle.adb_outside.specs.Tables.{at}
use Rattle.adb_outside.specs.Framing.{Cut}
use Rattle.adb_outside.specs.declared.kinds.Cause.{Cause}
use Rattle.adb_outside.specs.declared.kinds.Cause.TheVariants.{Eof, Fault, Starved, NoThread}
use Rattle.adb_wire.specs.declared.packets.Packet.{Packet}
use Rattle.adb_wire.specs.declared.format.PacketFault.{PacketFault}
use Rattle.adb_wire.specs.declared.format.PacketFormat.{PacketFormat}
use Rattle.adb_stream.specs.declared.row.Stream.{Stream}
use Rattle.adb_history.specs.Rows.{Client, Link, State, to_link}
use Rattle.adb_history.specs.Events.{Made, Event, quietly}
use Rattle.adb_history.specs.declared.ending.Ending.{Ending}
use Rattle.adb_history.specs.declared.ending.Ending.TheVariants.{ClientClosed, Lost, Broken}
use Rattle.adb_history.specs.Links.{is_connected}
use Rattle.adb_history.specs.Losing.{link_ends, input_ends, client_ends}
use Rattle.adb_history.specs.Packets.{treat, treat_all, faulty, faulty_on, with_rest, receives_cut}
use Rattle.adb_history.specs.Machine.{unplugs_on, ups}
use Rattle.adb_history.specs.Linked.{IsLinked}
use Rattle.adb_history.specs.Moves.{After, serves}
use Rattle.adb_history.proofs.Following.{after_quietly}
use Rattle.adb_history.proofs.PacketMoves.{treat_on_kept}
use Rattle.adb_history.proofs.LinkMoves.{linked_moves}
use Rattle.adb_history.proofs.OutputEntries.{connected_is}
use Rattle.adb_laws_fifo_down.specs.Line.{Line, SeenStream, View, seen_client, over, Shows}
use Rattle.adb_laws_fifo_down.specs.Treated.{treated_on, treated}
use Rattle.adb_laws_fifo_down.specs.Turned.{IsInLine}
use Rattle.adb_laws_fifo_down.specs.Turns.{Promise, Turns, Holds}
use Rattle.adb_laws_fifo_down.proofs.Others.{after_next, shows_link_ends}
use Rattle.adb_laws_fifo_down.proofs.OtherPackets.{shows_treat_on}
use Rattle.adb_laws_fifo_down.proofs.Own.{client_seen}
use Rattle.adb_laws_fifo_down.proofs.OwnPackets.{IsReal, IsUp, own_row, own_treat, own_link_ends}
use Rattle.adb_laws_fifo_down.proofs.OwnTurns.{own_input_ends, own_fails}
use Rattle.adb_laws_fifo_down.proofs.Ups.{Upped, shows_ups}

module _ {b : Line} {P : Promise} (k : Turns b P) where
  -- what stays in view stays promised
  pub held_by : (packets : List Packet) (shut : Bool) (out : List ℕ) (v : View) (w : List Event) (m : Made)
      → P packets shut out v → After (Shows b v) w m
      → After (Holds b P packets shut out) w m
  held_by packets shut out v w m keeps h = record { seen = v; shows = h; keeps = keeps }

  -- ---- the up rule
  pub holds_ups : (packets : List Packet) (shut : Bool) (out : List ℕ) (s : State) (w : List Event) → Holds b P packets shut out s w
      → After (Holds b P packets shut out) w (ups s)
  holds_ups packets shut out s w h = by (shows_ups b h.seen s.drawn s w h.shows)
    where
      by : After (Upped b h.seen) w (ups s) → After (Holds b P packets shut out) w (ups s)
      by (inl now) = record { seen = h.seen; shows = now; keeps = h.keeps }
      by (inr (y, now)) =
          record { seen = over y.row.orphan ClientClosed h.seen; shows = now; keeps = k.closes packets shut out h.seen y h.keeps }

  -- ---- its link
  module _ (real : IsReal b) where
    -- the link of a stream that lives is up
    up_link : (x : Stream) (v : View) (s : State) (w : List Event) → s.streams b.id ≡ Some x → IsLinked s → Shows b v s w → IsUp b s
    up_link x v s w there linked h =
        let connected : is_connected b.link s.devices ≡ true =
        subst (λ (t : ℕ). is_connected t s.devices ≡ true) (h.0.link x there) (linked.on b.id x there).connected in
        record { link = linked.rows.linked b.link ∙ connected_is (at b.link s.devices.rows) connected; connected = connected }

    holds_treat : (packets : List Packet) (out : List ℕ) (p : Packet) (s : State) (w : List Event) → IsLinked s
        → Holds b P packets false out s w
        → After (Holds b P (packets ++ p ∷ []) false out) w (treat b.link p s)
    holds_treat packets out p s w linked h =
        record {
          seen = treated b p h.seen;
          shows = by h.seen.stream refl;
          keeps =
              k.treats packets out h.seen p h.keeps;
        }
      where
        by : (o : Option SeenStream) → h.seen.stream ≡ o → After (Shows b (treated b p h.seen)) w (treat b.link p s)
        by None none =
            subst (λ (v : View). After (Shows b v) w (treat b.link p s))
            (sym (ap (λ (o : Option SeenStream). treated_on o b.id p h.seen) none))
            (shows_treat_on b h.seen b.link (inr none) s w h.shows (s.links b.link) p)
        by (Some x) there =
            let row = own_row b h.seen x s w there h.shows in
            own_treat b h.seen x there real s w (up_link row.0 h.seen s w row.1 linked h.shows) h.shows p

    holds_treat_all : (given packets : List Packet) (out : List ℕ) (s : State) (w : List Event) → IsLinked s
        → Holds b P packets false out s w
        → After (Holds b P (packets ++ given) false out) w (treat_all b.link given s)
    holds_treat_all [] packets out s w linked h =
        subst (λ (ps : List Packet). After (Holds b P ps false out) w (quietly s)) (sym (append-nil packets))
        (after_quietly (Holds b P packets false out) w s h)
    holds_treat_all (p ∷ given) packets out s w linked h =
        let first : Made = treat b.link p s in
        subst (λ (ps : List Packet). After (Holds b P ps false out) w (treat_all b.link (p ∷ given) s))
        (append_assoc packets (p ∷ []) given)
        (after_next (Holds b P (packets ++ p ∷ []) false out) (Holds b P ((packets ++ p ∷ []) ++ given) false out) w
        first (treat_all b.link given)
        (holds_treat packets out p s w linked h)
        (λ u now. holds_treat_all given (packets ++ p ∷ []) out first.state u
        (treat_on_kept (serves linked_moves) s w linked (s.links b.link) b.link p) now))

    -- it is Lost, or Broken
    holds_lost : (packets : List Packet) (shut : Bool) (out : List ℕ) (ending : Ending) (s : State) (w : List Event)
        → (ending ≡ Lost) ⊎ (ending ≡ Broken)
        → Holds b P packets shut out s w → After (Holds b P packets true out) w (link_ends b.link ending s)
    holds_lost packets shut out ending s w which h = by h.seen.stream refl
      where
        closed : P packets true out h.seen
        closed = k.shuts packets shut out h.seen h.keeps

        by : (o : Option SeenStream) → h.seen.stream ≡ o → After (Holds b P packets true out) w (link_ends b.link ending s)
        by None none = held_by packets true out h.seen w _ closed (shows_link_ends b h.seen b.link (inr none) ending s w h.shows)
        by (Some x) there = held_by packets true out (over x.orphan ending h.seen) w _
            (k.breaks packets out h.seen x ending there which closed)
            (own_link_ends b h.seen x there ending s w real h.shows)

    holds_faulty : (packets : List Packet) (out : List ℕ) (o : Option Link) (fault : Option PacketFault) (s : State) (w : List Event)
        → Holds b P packets false out s w → After (Holds b P packets (is_some fault) out) w (faulty_on o b.link fault s)
    holds_faulty packets out None None s w h = after_quietly (Holds b P packets false out) w s h
    holds_faulty packets out (Some link) None s w h = after_quietly (Holds b P packets false out) w s h
    holds_faulty packets out None (Some fault) s w h =
        after_quietly (Holds b P packets true out) w s
        (record { seen = h.seen; shows = h.shows; keeps = k.shuts packets false out h.seen h.keeps })
    holds_faulty packets out (Some link) (Some fault) s w h = holds_lost packets false out Broken s w (inr refl) h

    -- the bytes of its link
    pub holds_cut : (packets : List Packet) (out : List ℕ) (c : Cut PacketFormat Packet PacketFault) (s : State)
        (w : List Event) → IsLinked s
        → Holds b P packets false out s w → After (Holds b P (packets ++ c.given) (is_some c.fault) out) w (receives_cut b.link c s)
    holds_cut packets out c s w linked h =
        let taken : State = to_link b.link (with_rest c.rest) s in
        let treated_all : Made = treat_all b.link c.given taken in
        after_next (Holds b P (packets ++ c.given) false out) (Holds b P (packets ++ c.given) (is_some c.fault) out) w
        treated_all (faulty b.link c.fault)
        (holds_treat_all c.given packets out taken w (linked_moves.links b.link (λ link. record link { rest = c.rest }) s w linked)
        (record { seen = h.seen; shows = h.shows; keeps = h.keeps }))
        (λ u now. holds_faulty (packets ++ c.given) out (treated_all.state.links b.link) c.fault treated_all.state u now)

    pub holds_unplugs : (packets : List Packet) (shut : Bool) (out : List ℕ) (o : Option Link) (s : State)
        (w : List Event) → Holds b P packets shut out s w
        → After (Holds b P packets true out) w (unplugs_on o b.link s)
    holds_unplugs packets shut out None s w h =
        after_quietly (Holds b P packets true out) w s
        (record { seen = h.seen; shows = h.shows; keeps = k.shuts packets shut out h.seen h.keeps })
    holds_unplugs packets shut out (Some link) s w h = holds_lost packets shut out Lost s w (inl refl) h

  -- packets that come while the stream is gone
  pub more_packets : (more packets : List Packet) (out : List ℕ) (v : View) → v.stream ≡ None → P packets false out v
      → P (packets ++ more) false out v
  more_packets [] packets out v none h = subst (λ (ps : List Packet). P ps false out v) (sym (append-nil packets)) h
  more_packets (p ∷ more) packets out v none h =
      subst (λ (ps : List Packet). P ps false out v) (append_assoc packets (p ∷ []) more)
      (more_packets more (packets ++ p ∷ []) out v none
      (subst (λ (u : View). P (packets ++ p ∷ []) false out u)
      (ap (λ (o : Option SeenStream). treated_on o b.id p v) none) (k.treats packets out v p h)))

  -- ---- the end of its client
  module _ (packets : List Packet) (shut : Bool) (out : List ℕ) where
    pub holds_ends : (cause : Cause) (o : Option Client) (s : State) (w : List Event) → s.clients b.client ≡ o
        → Holds b P packets shut out s w
        → After (Holds b P packets shut out) w (client_ends b.client cause o s)
    holds_ends cause None s w is h = after_quietly (Holds b P packets shut out) w s h
    holds_ends cause (Some a) s w is h = by cause
      where
        here : h.seen.client ≡ Some (seen_client a)
        here = client_seen b h.seen s w (Some a) h.shows is

        in_line : IsInLine b.id a.about.phase
        in_line = k.served packets shut out h.seen h.keeps (seen_client a) here

        fails : (cause : Cause) → After (Holds b P packets shut out) w (Rattle.adb_history.specs.Losing.client_fails b.client cause a s)
        fails cause = held_by packets shut out _ w _ (k.fails packets shut out h.seen cause (seen_client a) here h.keeps)
            (own_fails b h.seen cause a s w is h.shows in_line)

        by : (cause : Cause) → After (Holds b P packets shut out) w (client_ends b.client cause (Some a) s)
        by Eof = after_quietly (Holds b P packets shut out) w (input_ends a.about.phase b.client s)
            (record { seen = h.seen; shows = own_input_ends b h.seen s w h.shows a.about.phase in_line; keeps = h.keeps })
        by Fault = fails Fault
        by Starved = fails Starved
        by NoThread = fails NoThread
