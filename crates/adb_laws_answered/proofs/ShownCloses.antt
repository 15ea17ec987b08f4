-- A CLSE of a stream, and a CNXN of its link: the stream is as the packets say.
use Rattle.std.proofs.Common.{◌≡◌, ◌≢◌, ℕ, Bool, true, false, cond, ◌&&◌, ◌||◌, List, [], ◌∷◌, ◌++◌, Option, Some, None, is_some, refl, sym}
use Rattle.std.proofs.Common.{ap, subst}
use Rattle.std.proofs.Common.{◌∙◌, eqb, inl, inr}
use Rattle.std.proofs.lemmas.Bool.{ne_eqb, eqb-true, eqb-false, eq-eqb}
use Rattle.std.specs.Prelude.{nat_eq, nat_lt, option_and_then}
use Rattle.adb_outside.specs.declared.identity.Identity.{Identity}
use Rattle.adb_banner.specs.Banner.{identity_of}
use Rattle.adb_wire.specs.declared.command.Command.{Command}
use Rattle.adb_wire.specs.declared.command.Command.TheVariants.{Cnxn, Clse}
use Rattle.adb_wire.specs.declared.packets.Packet.{Packet}
use Rattle.adb_stream.specs.declared.row.Stream.{Stream}
use Rattle.adb_history.specs.Rows.{Link, State, none_kept}
use Rattle.adb_history.specs.Events.{Made, Event, quietly}
use Rattle.adb_history.specs.declared.ending.Ending.TheVariants.{Broken, PeerClosed}
use Rattle.adb_history.specs.Links.{is_connected}
use Rattle.adb_history.specs.Streams.{ends_row}
use Rattle.adb_history.specs.Losing.{link_ends}
use Rattle.adb_history.specs.Packets.{least_version, least_maxdata, connects, at_stream, takes_close, treat_any, treat_on, treat}
use Rattle.adb_history.specs.Births.{is_between, Opening as FirstOkay, opening_by, opening_in, remote_in}
use Rattle.adb_history.specs.Moves.{connects_now}
use Rattle.adb_history.specs.Owned.{OwnerIn}
use Rattle.adb_history.specs.Linked.{IsLinked}
use Rattle.adb_history.proofs.Following.{after_quietly}
use Rattle.adb_laws_answered.specs.Shown.{Seen, seen, seals_by, sealed_in, Subject, WillNotOpen, IsShown}
use Rattle.adb_laws_answered.proofs.Clearing.{none_of, ends_streams, link_ends_cleared, online_cleared, online_links}
use Rattle.adb_laws_answered.proofs.Openings.{remote_sealed, seen_pending, seen_one}
use Rattle.adb_laws_answered.proofs.ServedMoves.{phase_waiting}
use Rattle.adb_laws_answered.proofs.ShownMoves.{shown_client}
use Rattle.adb_laws_answered.proofs.ShownEnds.{ends_shown, link_ends_cut, online_shown}
use Rattle.adb_laws_answered.proofs.ShownPackets.{seen_on, gone_more, gone_reason, told_more, sealed_more, still_none, pardon, restore}
use Rattle.adb_laws_answered.proofs.ShownPackets.{live_link, no_link}

module _ (x : Subject) where
  -- a stream that waits has been told no id
  pub waiting_none : (ps : List Packet) (s : State) (w : List Event) (y : Stream) → s.streams x.stream ≡ Some y
      → IsShown false x (seen x.stream ps) s w
      → remote_in (opening_in x.stream ps) ≡ 0
  waiting_none ps s w y is h = sym (h.own y is).remote ∙ go y.part.orphan refl
    where
      go : (b : Bool) → y.part.orphan ≡ b → y.part.remote ≡ 0
      go true e = (subst (λ (b : Bool). OwnerIn b s.clients x.stream y) e (h.owned.owned.stream x.stream y is).owner).0
      go false e = phase_waiting x.stream x.stream y.part.remote
          (shown_client false x (seen x.stream ps) x.stream y s w is e (h.own y is).client h)

  -- a packet that seals what is pending
  abbrev Seals : Packet → Type 0
  Seals p = sealed_in x.stream (p ∷ []) ≡ true

  -- The row of a stream goes by a packet that seals it where it is pending: then it is as the packets say.
  module _ (ps : List Packet) (p : Packet) where
    sealed_shown : (heard : Bool) (y : Stream) (s next : State) (w v : List Event) → s.streams x.stream ≡ Some y
        → (remote_in (opening_in x.stream ps) ≡ 0 → Seals p) → IsShown heard x (seen x.stream ps) s w → next.streams x.stream ≡ None
        → IsShown heard (record x { failed = true }) (seen x.stream ps) next v → IsShown heard x (seen x.stream (ps ++ p ∷ [])) next v
    sealed_shown heard y s next w v is seals h none after =
        restore x heard (seen x.stream ps) (seen x.stream (ps ++ p ∷ [])) next v none (told_more x ps (p ∷ []))
        (λ e. (let seal = sealed heard h e in (inl seal.0, λ f. inl seal.1))) after
      where
        sealed : (c : Bool) → IsShown c x (seen x.stream ps) s w → c ≡ false
            → (sealed_in x.stream (ps ++ p ∷ []) ≡ true) × (remote_in (opening_in x.stream (ps ++ p ∷ [])) ≡ 0)
        sealed true h e = absurd (let clash : true ≡ false = e in cc)
        sealed false h e =
            let zeroth = waiting_none ps s w y is h in
            let same = seen_pending x.stream ps (p ∷ []) zeroth ((h.own y is).pending zeroth) in (
              ap (λ (a : Seen). a.sealed) same ∙ seals zeroth,
              ap (λ (a : Seen). a.remote) same
                  ∙ remote_sealed x.stream (p ∷ []) [] (seals zeroth),
            )

  -- ---- CLSE
  module _ (p : Packet) (command : p.command ≡ Clse) (names : p.arg1 ≡ x.stream) where
    close_seals : eqb p.arg0 0 ≡ true → Seals p
    close_seals zeroth = ap (λ (c : Command). seals_by c x.stream p false) command
        ∙ (ap (λ (b : Bool). cond (b && nat_eq p.arg1 x.stream) true false) zeroth
        ∙ ap (λ (b : Bool). cond b true false) (eq-eqb p.arg1 x.stream names))

    close_one : eqb p.arg0 0 ≡ false → (opening_in x.stream (p ∷ []) ≡ None) × (sealed_in x.stream (p ∷ []) ≡ false)
    close_one some = (
      ap (λ (c : Command). opening_by c x.stream p [] None) command ∙ both (is_between 0 x.stream p),
      ap (λ (c : Command). seals_by c x.stream p false) command ∙ ap (λ (b : Bool). cond (b && nat_eq p.arg1 x.stream) true false) some,
    )
      where
        both : (b : Bool) → cond {A = Option FirstOkay} b None None ≡ None
        both true = refl
        both false = refl

    pub close_none : (o : Option Link) (t : ℕ) (s : State) → s.streams x.stream ≡ None → treat_on o t p s ≡ quietly s
    close_none None t s none = refl
    close_none (Some link) t s none =
        ap (λ (c : Command). treat_any t c p s) command
        ∙ (ap (λ (o : Option Stream). cond (is_connected t s.devices) (at_stream t o (takes_close p.arg1 p.arg0) s) (quietly s))
        (ap s.streams names ∙ none) ∙ either (is_connected t s.devices))
      where
        either : (b : Bool) → cond b (quietly s) (quietly s) ≡ quietly s
        either true = refl
        either false = refl

    pub close_apart : (o : Option Link) (t : ℕ) (s : State) (y : Stream) → s.streams x.stream ≡ Some y → y.link ≢ t
        → treat_on o t p s ≡ quietly s
    close_apart None t s y is apart = refl
    close_apart (Some link) t s y is apart =
        ap (λ (c : Command). treat_any t c p s) command
        ∙ (ap (λ (o : Option Stream). cond (is_connected t s.devices) (at_stream t o (takes_close p.arg1 p.arg0) s)
        (quietly s)) (ap s.streams names ∙ is)
        ∙ (ap (λ (b : Bool). cond (is_connected t s.devices) (cond b (takes_close p.arg1 p.arg0 y s) (quietly s))
        (quietly s)) (ne_eqb y.link t apart)
        ∙ either (is_connected t s.devices)))
      where
        either : (b : Bool) → cond b (quietly s) (quietly s) ≡ quietly s
        either true = refl
        either false = refl

    close_is : (o : Option Link) (t : ℕ) (s : State) (y : Stream) → s.streams x.stream ≡ Some y → y.link ≡ t → is_some o ≡ true
        → is_connected t s.devices ≡ true
        → treat_on o t p s ≡ takes_close x.stream p.arg0 y s
    close_is None t s y is link there connected = absurd (let clash : false ≡ true = there in cc)
    close_is (Some l) t s y is link there connected =
        ap (λ (c : Command). treat_any t c p s) command
        ∙ (ap (λ (b : Bool). cond b (at_stream t (s.streams p.arg1) (takes_close p.arg1 p.arg0) s) (quietly s)) connected
        ∙ (ap (λ (n : ℕ). at_stream t (s.streams n) (takes_close n p.arg0) s) names
        ∙ (ap (λ (o : Option Stream). at_stream t o (takes_close x.stream p.arg0) s) is
        ∙ ap (λ (b : Bool). cond b (takes_close x.stream p.arg0 y s) (quietly s)) (eq-eqb y.link t link))))

    module _ (ps : List Packet) (s : State) (w : List Event) (y : Stream) (is : s.streams x.stream ≡ Some y) (heard : Bool)
        (h : IsShown heard x (seen x.stream ps) s w) where
      abbrev Shows : Made → Type 0
      Shows m = IsShown heard x (seen x.stream (ps ++ p ∷ [])) m.state (w ++ m.told)

      -- from id 0, or from the device's own id
      seals_so : (a b : Bool) → eqb p.arg0 0 ≡ a → eqb p.arg0 y.part.remote ≡ b → (a || b) ≡ true
          → remote_in (opening_in x.stream ps) ≡ 0 → Seals p
      seals_so true b e f or zeroth = close_seals e
      seals_so false true e f or zeroth =
          let same : p.arg0 ≡ 0 = eqb-true p.arg0 y.part.remote f ∙ ((h.own y is).remote ∙ zeroth) in
          absurd (eqb-false p.arg0 0 e same)
      seals_so false false e f or zeroth = absurd (let clash : false ≡ true = or in cc)

      closes_shown : (b : Bool) → (eqb p.arg0 0 || eqb p.arg0 y.part.remote) ≡ b
          → Shows (cond b (ends_row x.stream PeerClosed y s) (quietly s))
      closes_shown true e =
          let m : Made = ends_row x.stream PeerClosed y s in
          sealed_shown ps p heard y s m.state w (w ++ m.told) is
          (seals_so (eqb p.arg0 0) (eqb p.arg0 y.part.remote) refl refl e) h
          (ends_streams x.stream x.stream PeerClosed y s
          ∙ (ap (λ (b : Bool). cond b (option_and_then none_kept (s.streams x.stream)) (s.streams x.stream)) (eq-eqb x.stream x.stream refl)
          ∙ none_of x.stream (s.streams x.stream)))
          (ends_shown heard (record x { failed = true }) (seen x.stream ps) x.stream PeerClosed y s w is
          (pardon x heard (seen x.stream ps) s w h)
          (λ here quiet owned. inr (inr refl)))
      closes_shown false e = after_quietly (λ s w. IsShown heard x (seen x.stream (ps ++ p ∷ [])) s w) w s
          (seen_on x heard (seen x.stream ps) (seen x.stream (ps ++ p ∷ [])) s w (seen_one x.stream ps p (close_one (first e))) h)
        where
          first : (eqb p.arg0 0 || eqb p.arg0 y.part.remote) ≡ false → eqb p.arg0 0 ≡ false
          first e = go (eqb p.arg0 0) e
            where
              go : (a : Bool) → (a || eqb p.arg0 y.part.remote) ≡ false → a ≡ false
              go true e = e
              go false e = refl

    pub close_here : (ps : List Packet) (s : State) (w : List Event) → IsLinked s → (heard : Bool) → IsShown heard x (seen x.stream ps) s w
        → IsShown heard x (seen x.stream (ps ++ p ∷ [])) (treat x.link p s).state (w ++ (treat x.link p s).told)
    close_here ps s w linked heard h = go (s.streams x.stream) refl
      where
        go : (o : Option Stream) → s.streams x.stream ≡ o → IsShown heard x (seen x.stream (ps ++ p ∷ [])) (treat x.link p s).state (w ++
            (treat x.link p s).told)
        go None is = subst (λ (m : Made). IsShown heard x (seen x.stream (ps ++ p ∷ [])) m.state (w ++ m.told))
            (sym (close_none (s.links x.link) x.link s is))
            (after_quietly (λ s w. IsShown heard x (seen x.stream (ps ++ p ∷ [])) s w) w s (gone_more x heard ps (p ∷ []) s w is h))
        go (Some y) is =
            let link = (h.own y is).link in
            let live = live_link x y s linked is link in
            subst (λ (m : Made). IsShown heard x (seen x.stream (ps ++ p ∷ [])) m.state (w ++ m.told))
            (sym (close_is (s.links x.link) x.link s y is link live.1 live.0))
            (closes_shown ps s w y is heard h (eqb p.arg0 0 || eqb p.arg0 y.part.remote) refl)

  -- ---- CNXN
  module _ (p : Packet) (command : p.command ≡ Cnxn) where
    renews_seals : Seals p
    renews_seals = ap (λ (c : Command). seals_by c x.stream p false) command

    module _ (ps : List Packet) (s : State) (w : List Event) (linked : IsLinked s) (heard : Bool)
        (h : IsShown heard x (seen x.stream ps) s w) where
      -- its row goes, whatever the CNXN says
      gone_then : (m : Made) → m.state.streams x.stream ≡ None → (s.links x.link ≡ None → m.state.links x.link ≡ None)
          → IsShown heard (record x { failed = true }) (seen x.stream ps) m.state (w ++ m.told)
          → IsShown heard x (seen x.stream (ps ++ p ∷ [])) m.state (w ++ m.told)
      gone_then m none links after = go (s.streams x.stream) refl
        where
          moved : WillNotOpen x (sealed_in x.stream (ps ++ p ∷ [])) s → WillNotOpen x (sealed_in x.stream (ps ++ p ∷ [])) m.state
          moved (inl sealed) = inl sealed
          moved (inr (inl gone)) = inr (inl (gone.0, links gone.1))
          moved (inr (inr failed)) = inr (inr failed)

          go : (o : Option Stream) → s.streams x.stream ≡ o → IsShown heard x (seen x.stream (ps ++ p ∷ [])) m.state (w ++ m.told)
          go (Some y) is = sealed_shown ps p heard y s m.state w (w ++ m.told) is (λ e. renews_seals) h none after
          go None is = restore x heard (seen x.stream ps) (seen x.stream (ps ++ p ∷ [])) m.state (w ++ m.told) none
              (told_more x ps (p ∷ []))
              (λ e. (let why = gone_reason x heard (seen x.stream ps) s w is h e in
              (moved (sealed_more x ps (p ∷ []) s why), still_none x ps (p ∷ []) s why))) after

      on_link : (y : Stream) → s.streams x.stream ≡ Some y → y.link ≡ x.link
      on_link y is = (h.own y is).link

      breaks : IsShown heard x (seen x.stream (ps ++ p ∷ [])) (link_ends x.link Broken s).state (w ++ (link_ends x.link Broken s).told)
      breaks =
          let after = link_ends_cut heard (record x { failed = true }) (seen x.stream ps) x.link Broken s w
          (λ same. inr refl) (pardon x heard
          (seen x.stream ps) s w h) in
          gone_then (link_ends x.link Broken s) (link_ends_cleared x.stream x.link Broken s h.owned.rows.streams.zero h.drawn on_link)
          (λ e. after.1 refl) after.0

      renews : (identity : Identity) → IsShown heard x (seen x.stream (ps ++ p ∷ [])) (connects_now x.link p.arg0 p.arg1 identity s).state
          (w ++ (connects_now x.link p.arg0 p.arg1 identity s).told)
      renews identity = gone_then (connects_now x.link p.arg0 p.arg1 identity s)
          (online_cleared x.stream x.link p.arg0 p.arg1 identity s h.owned.rows.streams.zero h.drawn
          (λ y is. (on_link y is, (live_link x y s linked is (on_link y is)).0)))
          (λ e. online_links x.link p.arg0 p.arg1 identity s e)
          (online_shown heard (record x { failed = true }) (seen x.stream ps) x.link p.arg0 p.arg1 identity s w (λ e. refl)
          (pardon x heard (seen x.stream ps) s w h))

      connects_shown : (who : Option Identity) → IsShown heard x (seen x.stream (ps ++ p ∷ [])) (connects x.link p.arg0 p.arg1 who s).state
          (w ++ (connects x.link p.arg0 p.arg1 who s).told)
      connects_shown None = breaks
      connects_shown (Some identity) = renews identity

      cnxn_shown : (b : Bool) → IsShown heard x (seen x.stream (ps ++ p ∷ []))
          (cond b (link_ends x.link Broken s) (connects x.link p.arg0 p.arg1 (identity_of p.payload) s)).state
          (w ++ (cond b (link_ends x.link Broken s) (connects x.link p.arg0 p.arg1 (identity_of p.payload) s)).told)
      cnxn_shown true = breaks
      cnxn_shown false = connects_shown (identity_of p.payload)

      on_shown : (o : Option Link) → s.links x.link ≡ o
          → IsShown heard x (seen x.stream (ps ++ p ∷ [])) (treat_on o x.link p s).state (w ++ (treat_on o x.link p s).told)
      on_shown None is = after_quietly (λ s w. IsShown heard x (seen x.stream (ps ++ p ∷ [])) s w) w s
          (gone_more x heard ps (p ∷ []) s w (no_link x heard (seen x.stream ps) s w linked is h) h)
      on_shown (Some link) is =
          subst (λ (m : Made). IsShown heard x (seen x.stream (ps ++ p ∷ [])) m.state (w ++ m.told))
          (sym (ap (λ (c : Command). treat_any x.link c p s) command))
          (cnxn_shown (nat_lt p.arg0 least_version || nat_lt p.arg1 least_maxdata))

      pub cnxn_here : IsShown heard x (seen x.stream (ps ++ p ∷ [])) (treat x.link p s).state (w ++ (treat x.link p s).told)
      cnxn_here = on_shown (s.links x.link) refl
