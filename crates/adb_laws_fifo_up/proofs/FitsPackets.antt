-- What goes up a stream fits within what its device allowed, packet after packet of its link.
use Rattle.std.proofs.Common.{◌≡◌, ◌≢◌, ℕ, ◌+◌, ◌<◌, ◌≤◌, zero, suc, Bool, true, false, cond, ◌||◌, not, List, [], ◌∷◌, ◌++◌, Option, Some}
use Rattle.std.proofs.Common.{None, refl}
use Rattle.std.proofs.Common.{sym, ap, subst, ◌∙◌, arith, ◌⊎◌, inl, inr, eqb, append_assoc}
use Rattle.std.specs.Prelude.{nat_eq, unwrap_or, ◌&&◌}
use Rattle.std.proofs.lemmas.Bool.{eqb-true, eqb-false, eq-eqb, ne_eqb}
use Rattle.std.proofs.lemmas.List.{append-nil}
use Rattle.adb_outside.specs.Framing.{Cut}
use Rattle.adb_wire.specs.declared.command.Command.{Command}
use Rattle.adb_wire.specs.declared.command.Command.TheVariants.{Cnxn, Okay, Clse}
use Rattle.adb_wire.specs.declared.packets.Packet.{Packet}
use Rattle.adb_wire.specs.declared.format.PacketFault.{PacketFault}
use Rattle.adb_wire.specs.declared.format.PacketFormat.{PacketFormat}
use Rattle.adb_stream.specs.declared.flow.Flow.{Flow}
use Rattle.adb_stream.specs.declared.flow.Flow.TheVariants.{One, Credit}
use Rattle.adb_stream.specs.declared.row.Part.{Part}
use Rattle.adb_stream.specs.declared.row.Stream.{Stream}
use Rattle.adb_stream.specs.Flow.{first_credit, acknowledged, has_credit}
use Rattle.adb_history.specs.Rows.{State, to_link, to_stream, none_kept, with_stream_part}
use Rattle.adb_history.specs.Events.{Made, Event, ending_in, quietly}
use Rattle.adb_history.specs.declared.ending.Ending.TheVariants.{ClientClosed, PeerClosed}
use Rattle.adb_history.specs.Links.{credit_word, is_connected}
use Rattle.adb_history.specs.Streams.{ends_row}
use Rattle.adb_history.specs.Flow.{with_flow}
use Rattle.adb_history.specs.Packets.{cnxn, at_stream, opened, orphan_opened}
use Rattle.adb_history.specs.Packets.{okay_open, okay_first, takes_okay, takes_close, treat_open, treat_any, treat, treat_all}
use Rattle.adb_history.specs.Packets.{faulty, with_rest, receives_cut}
use Rattle.adb_history.specs.Births.{opening_by, opening_in}
use Rattle.adb_history.specs.Linked.{IsLinked}
use Rattle.adb_history.specs.Moves.{After}
use Rattle.adb_history.proofs.Following.{after_quietly, after_then, after_if, changed_here}
use Rattle.adb_history.proofs.LinkMoves.{linked_moves, credit_first as first_credited}
use Rattle.adb_laws_fifo_up.specs.Climbing.{may_send}
use Rattle.adb_laws_fifo_up.proofs.Seeing.{silent_open, silent_aside}
use Rattle.adb_laws_fifo_up.proofs.Shutting.{aside_are_dry}
use Rattle.adb_laws_fifo_up.proofs.Ends.{no_row_of, orphan_goes}
use Rattle.adb_laws_fifo_up.proofs.Opened.{opened_row, opens_made}
use Rattle.adb_laws_fifo_up.proofs.OwnedPackets.{treat_linked}
use Rattle.adb_laws_fifo_up.proofs.Openings.{opening_more, IsOpenEnded, Passes, ended_more, first_heard, Closes, Kind, kind, later_allows}
use Rattle.adb_laws_fifo_up.proofs.Openings.{more_allows}
use Rattle.adb_laws_fifo_up.proofs.Openings.{allowed, gives, okay_allows, first_allows}
use Rattle.adb_laws_fifo_up.proofs.StreamClimbs.{treat_climbs, faulty_climbs}
use Rattle.adb_laws_fifo_up.proofs.RuleClimbs.{rest_climbs}
use Rattle.adb_laws_fifo_up.proofs.Treated.{Any, cnxn_cleared, connected, link_there, any_treated, none_comes, to_stream_or, okay_treated}
use Rattle.adb_laws_fifo_up.proofs.Fits.{used, RoomAt, IsRoom, answered_more, Fits, fits_climbs, told_dry, gone_fits}

-- ---- how much an OKAY gives
acknowledged_room : (credit : Bool) (flow : Flow) (p : Packet) → has_credit flow ≡ credit
    → may_send (acknowledged (credit_word p.payload) flow) ≤ may_send flow + gives credit p
acknowledged_room false (One window) p e = omega arith
acknowledged_room true (One window) p e = let clash : false ≡ true = e in cc
acknowledged_room false (Credit credit) p e = let clash : true ≡ false = e in cc
acknowledged_room true (Credit credit) p e = go (credit_word p.payload)
  where
    go : (word : Option ℕ) → may_send (acknowledged word (Credit credit)) ≤ credit.to_send + unwrap_or word 0
    go None = omega arith
    go (Some n) = omega arith

acknowledged_credit : (word : Option ℕ) (flow : Flow) → has_credit (acknowledged word flow) ≡ has_credit flow
acknowledged_credit word (One window) = refl
acknowledged_credit None (Credit credit) = refl
acknowledged_credit (Some n) (Credit credit) = refl

first_room : (credit : Bool) (flow : Flow) (p : Packet) → has_credit flow ≡ credit
    → may_send (first_credit (credit_word p.payload) flow) ≤ gives credit p
first_room false (One window) p e = go window.outstanding
  where
    go : (b : Bool) → cond b 0 1 ≤ 1
    go true = omega arith
    go false = omega arith
first_room true (One window) p e = let clash : false ≡ true = e in cc
first_room false (Credit credit) p e = let clash : true ≡ false = e in cc
first_room true (Credit credit) p e = omega arith

module _ (l t : ℕ) (credit : Bool) (ps : List Packet) where
  -- ---- packets that leave the stream as it is
  more_room : (went room : ℕ) (qs : List Packet) (remote : ℕ) → (remote ≡ 0 → IsOpenEnded l (ps ++ qs))
      → RoomAt credit l ps went room remote
      → RoomAt credit l (ps ++ qs) went room remote
  more_room went room qs zero passes h = (passes refl, h.1)
  more_room went room qs (suc r) passes h = (
    record h.0 { later = h.0.later ++ qs },
    opening_more l ps qs h.0 h.1,
    h.2,
    omega (arith, h.3, later_allows credit l h.0 qs),
  )

  pub more_fits : (qs : List Packet) (s : State) (w : List Event)
      → ((y : Stream) → s.streams l ≡ Some y → y.part.remote ≡ 0 → IsOpenEnded l (ps ++ qs))
      → Fits l t credit ps s w → Fits l t credit (ps ++ qs) s w
  more_fits qs s w passes h = record {
    born = h.born;
    within = omega (arith, h.within, more_allows credit l ps qs);
    row = λ y e. (let was = h.row y e in record {
      link = was.link;
      flow = was.flow;
      room = more_room (used credit t l w) (may_send y.part.flow) qs y.part.remote (passes y e) was.room;
    });
    open_row = h.open_row;
    done = λ e. (
      (h.done e).0,
      answered_more credit (used credit t l w) (used credit t l w) (allowed credit l (opening_in l ps))
          (allowed credit l (opening_in l (ps ++ qs))) refl (more_allows credit l ps qs) (h.done e).1,
    );
  }

  -- one packet
  ended_at : (y : Stream) (w : List Event) (p : Packet) → IsRoom t l credit ps (used credit t l w) y → Passes l p → y.part.remote ≡ 0
      → IsOpenEnded l (ps ++ p ∷ [])
  ended_at y w p room passes none =
      ended_more l ps p (subst (λ (n : ℕ). RoomAt credit l ps (used credit t l w) (may_send y.part.flow) n) none room.room).0 passes

  -- ---- a packet of another link
  other_link : (n : ℕ) (p : Packet) (s : State) (w : List Event) → n ≢ t → Fits l t credit ps s w
      → After (Fits l t credit ps) w (treat n p s)
  other_link n p s w apart h = go (to_stream_or l p)
    where
      quiet : After (Fits l t credit ps) w (quietly s)
      quiet = after_quietly (Fits l t credit ps) w s h

      on : (o : Option Stream) → s.streams l ≡ o → After (Fits l t credit ps) w
          (at_stream n o (takes_okay l p.arg0 (credit_word p.payload)) s)
      on None e = quiet
      on (Some y) e =
          let off : nat_eq y.link n ≡ false = ne_eqb y.link n (λ f. apart (sym f ∙ (h.row y e).link)) in
          subst (λ (b : Bool). After (Fits l t credit ps) w
          (cond b (takes_okay l p.arg0 (credit_word p.payload) y s) (quietly s))) (sym off) quiet

      go : ((p.command ≡ Okay) × (p.arg1 ≡ l)) ⊎ (p.command ≡ Okay → p.arg1 ≢ l) → After (Fits l t credit ps) w (treat n p s)
      go (inl okay) = okay_treated (After (Fits l t credit ps) w) n l p s okay (λ e. quiet) (on (s.streams l) refl)
      go (inr not_me) = treat_climbs (fits_climbs l t credit ps) s w h n p not_me

  -- ---- an OKAY to it
  module _ (p : Packet) (s : State) (w : List Event) (h : Fits l t credit ps s w) (okay : (p.command ≡ Okay) × (p.arg1 ≡ l)) where
    -- its stream is gone, or stays as it is
    stays_fits : ((y : Stream) → s.streams l ≡ Some y → y.part.remote ≡ 0 → Passes l p)
        → After (Fits l t credit (ps ++ p ∷ [])) w (quietly s)
    stays_fits passes = after_quietly (Fits l t credit (ps ++ p ∷ [])) w s
        (more_fits (p ∷ []) s w (λ y e none. ended_at y w p (h.row y e) (passes y e none) none) h)

    module _ (y : Stream) (there : s.streams l ≡ Some y) where
      mine : IsRoom t l credit ps (used credit t l w) y
      mine = h.row y there

      not_done : ending_in l w ≡ Some ClientClosed → ⊥
      not_done e = let clash : None ≡ Some y = sym (h.done e).0 ∙ there in cc

      same_row : (z : Stream) → s.streams l ≡ Some z → z ≡ y
      same_row z e = let both : Some z ≡ Some y = sym e ∙ there in cc

      -- from id 0
      none_passes : p.arg0 ≡ 0 → Passes l p
      none_passes none later others =
          ap (λ (c : Command). opening_by c l p later others) okay.0
          ∙ rw (eq-eqb p.arg0 0 none) (go (eqb p.arg1 l))
        where
          go : (b : Bool)
              → cond (b && not true) (Some (record { remote = p.arg0; word = credit_word p.payload; later = later }))
              others ≡ others
          go true = refl
          go false = refl

      -- an orphan
      orphan_fits : After (Fits l t credit (ps ++ p ∷ [])) w (orphan_opened l p.arg0 y s)
      orphan_fits =
          let m : Made = orphan_opened l p.arg0 y s in
          let gone : m.state.streams l ≡ None = changed_here l none_kept s.streams y there in
          more_fits (p ∷ []) m.state (w ++ m.told) (λ z e none. absurd (let clash : None ≡ Some z = sym gone ∙ e in cc))
          (gone_fits l t credit ps s m w (orphan_goes l p.arg0 y s there) h)

      -- the first one
      module _ (none : y.part.remote ≡ 0) (some : p.arg0 ≢ 0) where
        nothing : IsOpenEnded l ps × (used credit t l w ≡ 0)
        nothing = subst (λ (n : ℕ). RoomAt credit l ps (used credit t l w) (may_send y.part.flow) n) none mine.room

        part_of : (z : Stream) → (opened l p.arg0 (credit_word p.payload) y s).state.streams l ≡ Some z → z.part.remote ≡ p.arg0
        part_of z e = ap (λ (x : Part). x.remote) (opened_row l p.arg0 (credit_word p.payload) y s z there e).1

        room_at : (n room : ℕ) → p.arg0 ≡ n → room ≤ gives credit p → RoomAt credit l (ps ++ p ∷ []) (used credit t l w) room n
        room_at zero room e fits = absurd (some e)
        room_at (suc r) room e fits = (
          record { remote = p.arg0; word = credit_word p.payload; later = [] },
          first_heard l ps p nothing.0 (record { command = okay.0; stream = okay.1; remote = some }),
          e,
          omega (arith, nothing.1, fits, first_allows credit l p),
        )

        opened_room : (z : Stream) → (opened l p.arg0 (credit_word p.payload) y s).state.streams l ≡ Some z
            → IsRoom t l credit (ps ++ p ∷ []) (used credit t l w) z
        opened_room z e =
            let row = opened_row l p.arg0 (credit_word p.payload) y s z there e in
            let fits : may_send z.part.flow ≤ gives credit p =
            omega (arith, first_room credit y.part.flow p mine.flow, ap (λ (x : Part). may_send x.flow) row.1) in
            record {
              link = row.0 ∙ mine.link;
              flow = ap (λ (x : Part). has_credit x.flow) row.1 ∙ (first_credited (credit_word p.payload) y.part.flow ∙ mine.flow);
              room = subst (λ (n : ℕ). RoomAt credit l (ps ++ p ∷ []) (used credit t l w) (may_send z.part.flow) n) (sym (part_of z e))
                  (room_at p.arg0 (may_send z.part.flow) refl fits);
            }

        opened_fits : After (Fits l t credit (ps ++ p ∷ [])) w (opened l p.arg0 (credit_word p.payload) y s)
        opened_fits =
            let m : Made = opened l p.arg0 (credit_word p.payload) y s in
            let o = opens_made l p.arg0 (credit_word p.payload) y s there in
            told_dry l t credit (ps ++ p ∷ []) m.state w m.told (aside_are_dry l m.told o.told)
            (silent_open l m.told (silent_aside l m.told o.told)) (record {
              born = omega (arith, h.born, o.drawn);
              within = omega (arith, nothing.1);
              row = opened_room;
              open_row = λ n v see phase z e f. some (sym (part_of z e) ∙ f);
              done = λ e. absurd (not_done e);
            })

        first_fits : (orphan : Bool) → After (Fits l t credit (ps ++ p ∷ [])) w (okay_first orphan l p.arg0 (credit_word p.payload) y s)
        first_fits true = orphan_fits
        first_fits false = opened_fits

      -- a later one
      acked_room : (remote : ℕ) → y.part.remote ≡ remote → p.arg0 ≡ y.part.remote → y.part.remote ≢ 0
          → RoomAt credit l ps (used credit t l w) (may_send y.part.flow) remote
          → RoomAt credit l (ps ++ p ∷ []) (used credit t l w) (may_send (acknowledged (credit_word p.payload) y.part.flow)) remote
      acked_room zero is from some room = absurd (some is)
      acked_room (suc r) is from some room = (
        record room.0 { later = room.0.later ++ p ∷ [] },
        opening_more l ps (p ∷ []) room.0 room.1,
        room.2,
        omega (
          arith,
          room.3,
          acknowledged_room credit y.part.flow p mine.flow,
          okay_allows credit l room.0 p okay.0
              (from ∙ (is ∙ sym room.2)) okay.1,
        ),
      )

      acked_fits : p.arg0 ≡ y.part.remote → y.part.remote ≢ 0
          → After (Fits l t credit (ps ++ p ∷ [])) w (okay_open l (credit_word p.payload) y s)
      acked_fits from some = after_quietly (Fits l t credit (ps ++ p ∷ [])) w _ (record {
        born = h.born;
        within = omega (arith, h.within, more_allows credit l ps (p ∷ []));
        row = λ z e. subst (λ (x : Stream). IsRoom t l credit (ps ++ p ∷ []) (used credit t l w) x) (row z e) (record {
          link = mine.link;
          flow = acknowledged_credit (credit_word p.payload) y.part.flow ∙ mine.flow;
          room = acked_room y.part.remote refl from some mine.room;
        });
        open_row = λ n v see phase z e f. some (ap (λ (x : Stream). x.part.remote) (row z e) ∙ f);
        done = λ e. absurd (not_done e);
      })
        where
          row : (z : Stream)
              → (to_stream l (with_stream_part (with_flow (acknowledged (credit_word p.payload) y.part.flow) y.part))
              s).streams l ≡ Some z
              → record y { part = with_flow (acknowledged (credit_word p.payload) y.part.flow) y.part } ≡ z
          row z e =
              let both : Some (record y { part = with_flow (acknowledged (credit_word p.payload) y.part.flow) y.part }) ≡ Some z =
              sym (changed_here l
              (with_stream_part (with_flow (acknowledged (credit_word p.payload) y.part.flow) y.part)) s.streams
              y there) ∙ e in
              cc

      taken_fits : After (Fits l t credit (ps ++ p ∷ [])) w (takes_okay l p.arg0 (credit_word p.payload) y s)
      taken_fits =
          let first : Made = okay_first y.part.orphan l p.arg0 (credit_word p.payload) y s in
          let open_again : Made = okay_open l (credit_word p.payload) y s in
          let later : Made = cond (eqb p.arg0 y.part.remote) open_again (quietly s) in
          after_if (Fits l t credit (ps ++ p ∷ [])) w (eqb p.arg0 0) (quietly s) (cond (eqb y.part.remote 0) first later)
          (λ e. stays_fits (λ z f none. none_passes (eqb-true p.arg0 0 e)))
          (λ some. after_if (Fits l t credit (ps ++ p ∷ [])) w (eqb y.part.remote 0) first later
          (λ e. first_fits (eqb-true y.part.remote 0 e) (eqb-false p.arg0 0 some) y.part.orphan)
          (λ known. after_if (Fits l t credit (ps ++ p ∷ [])) w (eqb p.arg0 y.part.remote) open_again (quietly s)
          (λ e. acked_fits (eqb-true p.arg0 y.part.remote e) (eqb-false y.part.remote 0 known))
          (λ e. stays_fits
          (λ z f none. absurd
          (eqb-false y.part.remote 0 known
          (ap (λ (x : Stream). x.part.remote) (sym (same_row z f)) ∙ none))))))

    heard_fits : (o : Option Stream) → s.streams l ≡ o
        → After (Fits l t credit (ps ++ p ∷ [])) w (at_stream t o (takes_okay l p.arg0 (credit_word p.payload)) s)
    heard_fits None e = stays_fits (λ y f none. absurd (let clash : None ≡ Some y = sym e ∙ f in cc))
    heard_fits (Some y) e =
        subst (λ (b : Bool). After (Fits l t credit (ps ++ p ∷ [])) w
        (cond b (takes_okay l p.arg0 (credit_word p.payload) y s) (quietly s)))
        (sym (eq-eqb y.link t (h.row y e).link)) (taken_fits y e)

  -- ---- a packet of its link
  module _ (p : Packet) (s : State) (w : List Event) (h : Fits l t credit ps s w) (linked : IsLinked s) (some : 0 < l) where
    okay_fits : (p.command ≡ Okay) × (p.arg1 ≡ l) → After (Fits l t credit (ps ++ p ∷ [])) w (treat t p s)
    okay_fits okay = okay_treated (After (Fits l t credit (ps ++ p ∷ [])) w) t l p s okay
        (λ nothing. stays_fits p s w h okay (λ y e none. absurd (gone nothing y e))) (heard_fits p s w h okay (s.streams l) refl)
      where
        gone : (s.links t ≡ None) ⊎ (is_connected t s.devices ≡ false) → (y : Stream) → s.streams l ≡ Some y → ⊥
        gone (inl none) y e =
            let there = link_there s linked l t y e (h.row y e).link (s.links t) refl in
            let clash : None ≡ Some there.0 = sym none ∙ there.1 in
            cc
        gone (inr off) y e = let clash : true ≡ false = sym (connected s linked l t y e (h.row y e).link) ∙ off in cc

    -- one that keeps it from being opened has ended it
    not_cnxn : (z : Stream) → (treat t p s).state.streams l ≡ Some z → z.link ≡ t → p.command ≡ Cnxn → ⊥
    not_cnxn z e link is = go (s.streams l) refl
      where
        go : (o : Option Stream) → s.streams l ≡ o → ⊥
        go None none = let clash : None ≡ Some z = sym (none_comes l t p s (some, h.born) none) ∙ e in cc
        go (Some y) there =
            let on = connected s linked l t y there (h.row y there).link in
            let same : treat t p s ≡ treat_any t Cnxn p s =
            any_treated s linked l t y there (h.row y there).link p ∙ ap (λ (c : Command). treat_any t c p s) is in
            cnxn_cleared t p.arg0 p.arg1 l p.payload s z on (some, h.born) (subst (λ (m : Made). m.state.streams l ≡ Some z) same e) link

    not_closes : (z : Stream) → (treat t p s).state.streams l ≡ Some z → Closes l p → ⊥
    not_closes z e close = go (s.streams l) refl
      where
        go : (o : Option Stream) → s.streams l ≡ o → ⊥
        go None none = let clash : None ≡ Some z = sym (none_comes l t p s (some, h.born) none) ∙ e in cc
        go (Some y) there =
            let on = connected s linked l t y there (h.row y there).link in
            let same : treat t p s ≡ ends_row l PeerClosed y s =
            any_treated s linked l t y there (h.row y there).link p
            ∙ (ap (λ (c : Command). treat_any t c p s) close.command
            ∙ (ap (λ (b : Bool). cond b (treat_open t Clse p s) (quietly s)) on
            ∙ (ap (λ (n : ℕ). at_stream t (s.streams n) (takes_close n p.arg0) s) close.stream
            ∙ (ap (λ (o : Option Stream). at_stream t o (takes_close l p.arg0) s) there
            ∙ (ap (λ (b : Bool). cond b (takes_close l p.arg0 y s) (quietly s)) (eq-eqb y.link t (h.row y there).link)
            ∙ ap (λ (b : Bool). cond (b || eqb p.arg0 y.part.remote) (ends_row l PeerClosed y s) (quietly s))
            (eq-eqb p.arg0 0 close.remote)))))) in
            let clash : None ≡ Some z = sym (no_row_of Any l PeerClosed y s there)
            ∙ subst (λ (m : Made). m.state.streams l ≡ Some z) same e in
            cc

    other_fits : (p.command ≡ Okay → p.arg1 ≢ l) → After (Fits l t credit (ps ++ p ∷ [])) w (treat t p s)
    other_fits not_me = more_fits (p ∷ []) (treat t p s).state (w ++ (treat t p s).told) passes now
      where
        now : Fits l t credit ps (treat t p s).state (w ++ (treat t p s).told)
        now = treat_climbs (fits_climbs l t credit ps) s w h t p not_me

        passes : (z : Stream) → (treat t p s).state.streams l ≡ Some z → z.part.remote ≡ 0 → IsOpenEnded l (ps ++ p ∷ [])
        passes z e none = by (kind l p)
          where
            by : Kind l p → IsOpenEnded l (ps ++ p ∷ [])
            by (inl hears) = absurd (not_me hears.command hears.stream)
            by (inr (inl (inl cnxn))) = absurd (not_cnxn z e (now.row z e).link cnxn)
            by (inr (inl (inr close))) = absurd (not_closes z e close)
            by (inr (inr pass)) = ended_at z (w ++ (treat t p s).told) p (now.row z e) pass none

    pub packet_fits : After (Fits l t credit (ps ++ p ∷ [])) w (treat t p s)
    packet_fits = go (to_stream_or l p)
      where
        go : ((p.command ≡ Okay) × (p.arg1 ≡ l)) ⊎ (p.command ≡ Okay → p.arg1 ≢ l) → After (Fits l t credit (ps ++ p ∷ [])) w (treat t p s)
        go (inl okay) = okay_fits okay
        go (inr not_me) = other_fits not_me

-- ---- the packets of a link
module _ (l t : ℕ) (credit : Bool) (some : 0 < l) where
  all_fits : (packets ps : List Packet) (s : State) (w : List Event) → IsLinked s → Fits l t credit ps s w
      → After (Fits l t credit (ps ++ packets)) w (treat_all t packets s)
  all_fits [] ps s w linked h = after_quietly (Fits l t credit (ps ++ [])) w s
      (subst (λ (qs : List Packet). Fits l t credit qs s w) (sym (append-nil ps)) h)
  all_fits (p ∷ packets) ps s w linked h =
      let m : Made = treat t p s in
      let rest : Fits l t credit ((ps ++ p ∷ []) ++ packets) (treat_all t packets m.state).state
      ((w ++ m.told) ++ (treat_all t packets m.state).told) =
      all_fits packets (ps ++ p ∷ []) m.state (w ++ m.told) (treat_linked t p s linked) (packet_fits l t credit ps p s w h linked some) in
      subst (λ (v : List Event). Fits l t credit (ps ++ p ∷ packets) (treat_all t packets m.state).state v)
      (append_assoc w m.told (treat_all t packets m.state).told)
      (subst (λ (qs : List Packet). Fits l t credit qs (treat_all t packets m.state).state
      ((w ++ m.told) ++ (treat_all t packets m.state).told))
      (append_assoc ps (p ∷ []) packets) rest)

  all_other : (n : ℕ) (packets ps : List Packet) (s : State) (w : List Event) → n ≢ t → Fits l t credit ps s w
      → After (Fits l t credit ps) w (treat_all n packets s)
  all_other n [] ps s w apart h = after_quietly (Fits l t credit ps) w s h
  all_other n (p ∷ packets) ps s w apart h =
      after_then (Fits l t credit ps) w (treat n p s) (treat_all n packets) (other_link l t credit ps n p s w apart h)
      (λ v now. all_other n packets ps (treat n p s).state v apart now)

  rest_linked : (n : ℕ) (rest : List ℕ) (s : State) (w : List Event) → IsLinked s → IsLinked (to_link n (with_rest rest) s)
  rest_linked n rest s w linked = linked_moves.links n (λ link. record link { rest = rest }) s w linked

  pub cut_fits : (c : Cut PacketFormat Packet PacketFault) (ps : List Packet) (s : State) (w : List Event)
      → IsLinked s → Fits l t credit ps s w
      → After (Fits l t credit (ps ++ c.given)) w (receives_cut t c s)
  cut_fits c ps s w linked h =
      let taken : State = to_link t (with_rest c.rest) s in
      after_then (Fits l t credit (ps ++ c.given)) w (treat_all t c.given taken) (faulty t c.fault)
      (all_fits c.given ps taken w (rest_linked t c.rest s w linked) (rest_climbs (fits_climbs l t credit ps) t c.rest s w h))
      (λ v now. faulty_climbs (fits_climbs l t credit (ps ++ c.given)) (treat_all t c.given taken).state v now
      ((treat_all t c.given taken).state.links t) t c.fault)

  pub cut_other : (n : ℕ) (c : Cut PacketFormat Packet PacketFault) (ps : List Packet) (s : State) (w : List Event)
      → n ≢ t → Fits l t credit ps s w
      → After (Fits l t credit ps) w (receives_cut n c s)
  cut_other n c ps s w apart h =
      let taken : State = to_link n (with_rest c.rest) s in
      after_then (Fits l t credit ps) w (treat_all n c.given taken) (faulty n c.fault)
      (all_other n c.given ps taken w apart (rest_climbs (fits_climbs l t credit ps) n c.rest s w h))
      (λ v now. faulty_climbs (fits_climbs l t credit ps) (treat_all n c.given taken).state v now
      ((treat_all n c.given taken).state.links n) n c.fault)

  -- a link that is gone has no stream
  pub gone_link : (qs ps : List Packet) (s : State) (w : List Event) → IsLinked s → s.links t ≡ None
      → Fits l t credit ps s w → Fits l t credit (ps ++ qs) s w
  gone_link qs ps s w linked none h = more_fits l t credit ps qs s w (λ y e zero. absurd (no_row y e)) h
    where
      no_row : (y : Stream) → s.streams l ≡ Some y → ⊥
      no_row y e =
          let there = link_there s linked l t y e (h.row y e).link (s.links t) refl in
          let clash : None ≡ Some there.0 = sym none ∙ there.1 in
          cc
