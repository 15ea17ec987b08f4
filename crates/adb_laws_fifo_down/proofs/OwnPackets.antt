-- What the packets of its link make of what is seen of a stream.
use Rattle.std.proofs.Common.{ℕ, ◌≡◌, ◌≢◌, ◌≤◌, ◌<◌, zero, suc, Bool, true, false, cond, List, [], ◌∷◌, ◌++◌, length, Option, Some, None}
use Rattle.std.proofs.Common.{is_some, refl, sym}
use Rattle.std.proofs.Common.{◌∙◌, ap}
use Rattle.std.proofs.Common.{subst, eqb, arith, inl, inr, ◌⊎◌, codes}
use Rattle.std.proofs.lemmas.Bool.{eqb-true, eq-eqb, eqb-false, cases_eq}
use Rattle.std.specs.Prelude.{◌||◌, ◌&&◌, not, nat_lt, option_map}
use Rattle.adb_outside.specs.Tables.{at}
use Rattle.adb_outside.specs.declared.identity.Identity.{Identity}
use Rattle.adb_banner.specs.Banner.{identity_of}
use Rattle.adb_wire.specs.declared.command.Command.{Command}
use Rattle.adb_wire.specs.declared.command.Command.TheVariants.{Cnxn, Open, Okay, Wrte, Clse, Auth, Stls}
use Rattle.adb_wire.specs.declared.packets.Packet.{Packet}
use Rattle.adb_stream.specs.declared.flow.Flow.{Flow}
use Rattle.adb_stream.specs.declared.flow.Flow.TheVariants.{One, Credit}
use Rattle.adb_stream.specs.declared.row.Stream.{Stream}
use Rattle.adb_stream.specs.declared.row.Part.{Part}
use Rattle.adb_stream.specs.Flow.{first_credit, acknowledged, is_out_of_turn, accepted}
use Rattle.adb_client.specs.declared.phase.Phase.TheVariants.{Streaming}
use Rattle.adb_history.specs.Rows.{Client, Link, State, to_client, to_stream, none_kept, in_phase, with_due, with_stream_part}
use Rattle.adb_history.specs.Events.{Made, Event, quietly, then_also, due_to_link}
use Rattle.adb_history.specs.declared.ending.Ending.{Ending}
use Rattle.adb_history.specs.declared.ending.Ending.TheVariants.{PeerClosed, OutOfTurn, Lost, Broken}
use Rattle.adb_history.specs.Links.{close_packet, okay_packet, credit_word, owe_link, is_connected, check_on, wants_sums}
use Rattle.adb_history.specs.Clients.{owe_client}
use Rattle.adb_history.specs.Streams.{ends_row, ends_telling, ends_if_of, ends_of, all_end}
use Rattle.adb_history.specs.Flow.{with_flow}
use Rattle.adb_history.specs.Tracking.{mark_all}
use Rattle.adb_history.specs.Losing.{forgets, link_ends}
use Rattle.adb_history.specs.Packets.{least_version, least_maxdata, streams_end_first, goes_online, connects, cnxn, at_stream, with_remote}
use Rattle.adb_history.specs.Packets.{hears_okay, okay_open, okay_first, takes_okay}
use Rattle.adb_history.specs.Packets.{accepts_none, accepts, takes_write, takes_close, treat_open, treat_any, treat_on, treat}
use Rattle.adb_history.specs.Births.{is_okay}
use Rattle.adb_history.specs.Fifo.{okays_of}
use Rattle.adb_history.specs.Moves.{After}
use Rattle.adb_history.proofs.Following.{after_quietly, after_then, after_if, changed_here}
use Rattle.adb_laws_fifo_down.specs.Line.{Line, SeenStream, SeenClient, View, seen, seen_client, Shows, first_of, tells, over}
use Rattle.adb_laws_fifo_down.specs.Treated.{hears_as, hears_open, opened_as, after_okay, is_late, takes, due_more, accepts_as, after_write}
use Rattle.adb_laws_fifo_down.specs.Treated.{after_close, ending_by}
use Rattle.adb_laws_fifo_down.specs.Treated.{cnxn_ending, treated_as, treated_on, treated}
use Rattle.adb_laws_fifo_down.proofs.Shown.{view_told, first_none, shows_owe_link, shows_mark_all}
use Rattle.adb_laws_fifo_down.proofs.Others.{after_next, none_keeps, shows_ends_if}
use Rattle.adb_laws_fifo_down.proofs.OtherPackets.{shows_refuses, shows_unauthorized, shows_online, shows_treat_open}
use Rattle.adb_laws_fifo_down.proofs.Own.{with_stream, owed_more, client_seen, stream_seen, own_stream, own_part, own_client, own_no_client}
use Rattle.adb_laws_fifo_down.proofs.Own.{own_due, own_owes}
use Rattle.adb_laws_fifo_down.proofs.Own.{own_ends}
use Rattle.std.proofs.lemmas.List.{append-nil}

-- a stream that was drawn
pub record IsReal (b : Line) : Type 0 where
  pub some : 0 < b.id
  pub from : b.from ≡ b.id

module _ (b : Line) where
  -- by a test
  pub shows_if : (w : List Event) (c : Bool) (u v : View) (m n : Made) → (c ≡ true → After (Shows b u) w m)
      → (c ≡ false → After (Shows b v) w n)
      → After (Shows b (cond c u v)) w (cond c m n)
  shows_if w true u v m n one other = one refl
  shows_if w false u v m n one other = other refl

  -- ---- a flow that is seen as before
  row_again : (o : Option SeenStream) (v : View) → v.stream ≡ o → with_stream o v ≡ v
  row_again o v e = ap (λ (x : Option SeenStream). with_stream x v) (sym e)

  pub own_same : (v : View) (part : Part) (x : Stream) (s : State) (w : List Event) → s.streams b.id ≡ Some x
      → seen (record x { part = part }) ≡ seen x
      → Shows b v s w → Shows b v (to_stream b.id (with_stream_part part) s) w
  own_same v part x s w is same h =
      subst (λ (u : View). Shows b u (to_stream b.id (with_stream_part part) s) w)
      (ap (λ (y : SeenStream). with_stream (Some y) v) same ∙ row_again (Some (seen x)) v (stream_seen b v s w (Some x) h is))
      (own_part b v part x s w is h)

  -- ---- what is owed for the stream
  -- an OKAY becomes due to its link
  pub own_okay : (v : View) (x : Stream) (p : Packet) (s : State) (w : List Event) → x.link ≡ b.link
      → okays_of b.id (p ∷ []) ≡ p ∷ [] → Shows b v s w
      → After (Shows b (record v { okays = v.okays ++ p ∷ [] })) w (owe_link x.link p s)
  own_okay v x p s w on is h = (h.0, view_told b s w said ∙ (ap (tells b said) h.1 ∙ told))
    where
      said : Event
      said = due_to_link x.link p (check_on (wants_sums (s.links x.link)) p)

      told : tells b (due_to_link x.link p (check_on (wants_sums (s.links x.link)) p)) v ≡ record v { okays = v.okays ++ p ∷ [] }
      told =
          let output : v.output ++ [] ≡ v.output = append-nil v.output in
          let okays : v.okays ++ okays_of b.id (cond (eqb x.link b.link) (p ∷ []) []) ≡ v.okays ++ p ∷ [] =
          ap (λ (c : Bool). v.okays ++ okays_of b.id (cond c (p ∷ []) [])) (eq-eqb x.link b.link on)
          ∙ ap (λ (ps : List Packet). v.okays ++ ps) is in
          let ending : first_of v.ending None ≡ v.ending = first_none v.ending in
          λ i. record v { output = output i; okays = okays i; ending = ending i }

  pub okay_counts : (p : Packet) → is_okay p.command ≡ true → p.arg0 ≡ b.id → okays_of b.id (p ∷ []) ≡ p ∷ []
  okay_counts p is same =
      ap (λ (c : Bool). cond (c && eqb p.arg0 b.id) (p ∷ []) []) is ∙ ap (λ (c : Bool). cond c (p ∷ []) []) (eq-eqb p.arg0 b.id same)

  -- ---- OKAY
  -- the stream is open, and its client sends from now on
  module _ (remote : ℕ) (word : Option ℕ) (x : Stream) where
    abbrev now_part : Part
    now_part = with_remote remote (with_flow (first_credit word x.part.flow) x.part)

    abbrev now_open : State → State
    now_open s = to_client b.client (in_phase (Streaming b.id)) (to_stream b.id (with_stream_part now_part) s)

    seen_open : seen (record x { part = now_part }) ≡ record (seen x) { remote = remote }
    seen_open = by x.part.flow
      where
        by : (flow : Flow) → seen (record x { part = with_remote remote (with_flow (first_credit word flow) x.part) })
            ≡ record (seen (record x { part = with_flow flow x.part })) { remote = remote }
        by (One window) = refl
        by (Credit credit) = refl

    row_opens : (u : View) (s : State) (w : List Event) → s.streams b.id ≡ Some x → Shows b u s w
        → Shows b (with_stream (Some (record (seen x) { remote = remote })) u) (to_stream b.id (with_stream_part now_part) s) w
    row_opens u s w there h =
        subst (λ (y : SeenStream). Shows b (with_stream (Some y) u) (to_stream b.id (with_stream_part now_part) s) w) seen_open
        (own_part b u now_part x s w there h)

    opens_for : (u : View) (a : Client) (s : State) (w : List Event) → s.clients b.client ≡ Some a → s.streams b.id ≡ Some x → Shows b u s w
        → Shows b (record u {
          stream = Some (record (seen x) { remote = remote });
          client =
              Some (record (seen_client a) { phase = Streaming b.id });
        })
        (now_open s) w
    opens_for u a s w is there h =
        own_client b (with_stream (Some (record (seen x) { remote = remote })) u) (in_phase (Streaming b.id)) a
        (to_stream b.id (with_stream_part now_part) s) w is (row_opens u s w there h)

    own_opened : (v : View) (o : Option Client) (s : State) (w : List Event) → s.clients b.client ≡ o
        → s.streams b.id ≡ Some x → Shows b v s w
        → After (Shows b (hears_open b.id (option_map seen_client o) (record v { stream = Some (record (seen x) { remote = remote }) }))) w
        (then_also (hears_okay o b.client s) (λ s. quietly (now_open s)))
    own_opened v None s w is there h =
        after_quietly (Shows b _) w (now_open s)
        (own_no_client b (with_stream (Some (record (seen x) { remote = remote })) v) (in_phase (Streaming b.id))
        (to_stream b.id (with_stream_part now_part) s) w is (row_opens v s w there h))
    own_opened v (Some a) s w is there h = by a.about.forwarded
      where
        by : (forwarded : Bool)
            → After (Shows b
            (hears_as forwarded b.id (seen_client a)
            (record v { stream = Some (record (seen x) { remote = remote }) }))) w
            (then_also (cond forwarded (quietly s) (owe_client b.client (codes "OKAY") s)) (λ s. quietly (now_open s)))
        by true = after_quietly (Shows b _) w (now_open s) (opens_for v a s w is there h)
        by false =
            let owed : Made = owe_client b.client (codes "OKAY") s in
            after_next (Shows b (owed_more (codes "OKAY") (seen_client a) v)) (Shows b _) w owed (λ s. quietly (now_open s))
            (own_due b v (codes "OKAY") a s w is h)
            (λ y now. after_quietly (Shows b _) y (now_open owed.state) (opens_for (owed_more (codes "OKAY") (seen_client a) v)
            (record a { due = a.due ++ codes "OKAY" }) owed.state y
            (changed_here b.client (with_due (codes "OKAY")) s.clients a is) there now))

  module _ (v : View) (x : Stream) (s : State) (w : List Event) (there : s.streams b.id ≡ Some x) (h : Shows b v s w) where
    own_first : (orphan : Bool) (remote : ℕ) (word : Option ℕ) → After (Shows b (opened_as orphan b.id remote (seen x) v)) w
        (okay_first orphan b.id remote word x s)
    own_first true remote word =
        shows_owe_link b (with_stream None v) x.link (close_packet b.id remote) (to_stream b.id none_kept s) w refl
        (own_stream b v none_kept x s w there none_keeps h)
    own_first false remote word =
        let put : View = record v { stream = Some (record (seen x) { remote = remote }) } in
        subst (λ (n : ℕ). After (Shows b (hears_open b.id v.client put)) w (then_also (hears_okay (s.clients n) n s)
        (λ s. quietly (to_client n (in_phase (Streaming b.id)) (to_stream b.id (with_stream_part (now_part remote word x)) s)))))
        (sym (h.0.client x there))
        (subst (λ (o : Option SeenClient). After (Shows b (hears_open b.id o put)) w (then_also (hears_okay (s.clients b.client) b.client s)
        (λ s. quietly (now_open remote word x s))))
        (sym (client_seen b v s w (s.clients b.client) h refl)) (own_opened remote word x v (s.clients b.client) s w refl there h))

    own_again : (remote : ℕ) (word : Option ℕ) → After (Shows b v) w (okay_open b.id word x s)
    own_again remote word =
        let part : Part = with_flow (acknowledged word x.part.flow) x.part in
        after_quietly (Shows b v) w (to_stream b.id (with_stream_part part) s) (own_same v part x s w there (by word x.part.flow) h)
      where
        by : (word : Option ℕ) (flow : Flow)
            → seen (record x { part = with_flow (acknowledged word flow) x.part }) ≡ seen (record x { part = with_flow flow x.part })
        by word (One window) = refl
        by None (Credit credit) = refl
        by (Some n) (Credit credit) = refl

    own_takes_okay : (remote : ℕ) (word : Option ℕ) → After (Shows b (after_okay b.id remote (seen x) v)) w
        (takes_okay b.id remote word x s)
    own_takes_okay remote word =
        let first : Made = okay_first x.part.orphan b.id remote word x s in
        let later : Made = cond (eqb remote x.part.remote) (okay_open b.id word x s) (quietly s) in
        let opening : View = opened_as x.part.orphan b.id remote (seen x) v in
        shows_if w (eqb remote 0) v (cond (eqb x.part.remote 0) opening v) (quietly s) (cond (eqb x.part.remote 0) first later)
        (λ e. after_quietly (Shows b v) w s h)
        (λ e. shows_if w (eqb x.part.remote 0) opening v first later (λ f. own_first x.part.orphan remote word)
        (λ f. after_if (Shows b v) w (eqb remote x.part.remote) (okay_open b.id word x s) (quietly s) (λ g. own_again remote word)
        (λ g. after_quietly (Shows b v) w s h)))

    -- ---- WRTE
    pub own_ends_telling : (ending : Ending) → After (Shows b (over x.part.orphan ending v)) w (ends_telling b.id ending x s)
    own_ends_telling ending =
        let owed : Made = owe_link x.link (close_packet b.id x.part.remote) s in
        after_next (Shows b v) (Shows b (over x.part.orphan ending v)) w owed (ends_row b.id ending x)
        (shows_owe_link b v x.link (close_packet b.id x.part.remote) s w refl h) (λ y now. own_ends b v ending x owed.state y there now)

    own_accepts_none : (flow : Flow)
        → After (Shows b (accepts_as b.id [] (seen (record x { part = with_flow flow x.part })) v)) w
        (accepts_none flow b.id x s)
    own_accepts_none (One window) =
        own_okay v x (okay_packet b.id x.part.remote) s w (h.0.link x there) (okay_counts (okay_packet b.id x.part.remote) refl refl) h
    own_accepts_none (Credit credit) = after_quietly (Shows b v) w s h

    taken_seen : (n : ℕ) (flow : Flow)
        → seen (record x { part = with_flow (accepted n flow) x.part }) ≡ takes n (seen (record x { part = with_flow flow x.part }))
    taken_seen n (One window) = refl
    taken_seen n (Credit credit) = refl

    late_is : (n : ℕ) (flow : Flow) → is_out_of_turn flow n ≡ is_late (seen (record x { part = with_flow flow x.part })) n
    late_is n (One window) = refl
    late_is n (Credit credit) = refl

    own_accepts : (payload : List ℕ) → After (Shows b (accepts_as b.id payload (seen x) v)) w (accepts b.id payload x s)
    own_accepts [] = own_accepts_none x.part.flow
    own_accepts (d ∷ payload) =
        let bytes : List ℕ = d ∷ payload in
        let part : Part = with_flow (accepted (length bytes) x.part.flow) x.part in
        let taken : State = to_stream b.id (with_stream_part part) s in
        let put : View = with_stream (Some (takes (length bytes) (seen x))) v in
        let made : View = record put { client = due_more bytes v.client; output = v.output ++ bytes } in
        subst (λ (n : ℕ). After (Shows b made) w (owe_client n bytes taken)) (sym (h.0.client x there))
        (subst (λ (o : Option SeenClient). After (Shows b (record put { client = due_more bytes o; output = v.output ++ bytes })) w
        (owe_client b.client bytes taken))
        (sym (client_seen b v s w (s.clients b.client) h refl))
        (own_owes b put bytes (s.clients b.client) taken w refl
        (subst (λ (y : SeenStream). Shows b (with_stream (Some y) v) taken w) (taken_seen (length bytes) x.part.flow)
        (own_part b v part x s w there h))))

    own_takes_write : (remote : ℕ) (payload : List ℕ) → After (Shows b (after_write b.id remote payload (seen x) v)) w
        (takes_write b.id remote payload x s)
    own_takes_write remote payload =
        let late : Made = ends_telling b.id OutOfTurn x s in
        let taken : Made = accepts b.id payload x s in
        let ends : View = over x.part.orphan OutOfTurn v in
        let goes : View = accepts_as b.id payload (seen x) v in
        shows_if w (eqb remote 0 || not (eqb remote x.part.remote)) v (cond (is_late (seen x) (length payload)) ends goes) (quietly s)
        (cond (is_out_of_turn x.part.flow (length payload)) late taken)
        (λ e. after_quietly (Shows b v) w s h)
        (λ e. subst (λ (c : Bool). After (Shows b (cond c ends goes)) w (cond (is_out_of_turn x.part.flow (length payload)) late taken))
        (late_is (length payload) x.part.flow)
        (shows_if w (is_out_of_turn x.part.flow (length payload)) ends goes late taken
        (λ f. own_ends_telling OutOfTurn) (λ f. own_accepts payload)))

    -- ---- CLSE
    own_takes_close : (remote : ℕ) → After (Shows b (after_close remote (seen x) v)) w (takes_close b.id remote x s)
    own_takes_close remote =
        shows_if w (eqb remote 0 || eqb remote x.part.remote) (over x.part.orphan PeerClosed v) v (ends_row b.id PeerClosed x s) (quietly s)
        (λ e. own_ends b v PeerClosed x s w there h) (λ e. after_quietly (Shows b v) w s h)

  -- ---- the streams of its link end
  -- the row that is seen
  pub own_row : (v : View) (x : SeenStream) (s : State) (w : List Event) → v.stream ≡ Some x → Shows b v s w
      → (y : Stream) × (s.streams b.id ≡ Some y) × (seen y ≡ x)
  own_row v x s w there h = go (s.streams b.id) refl
    where
      shown : option_map seen (s.streams b.id) ≡ Some x
      shown = ap (λ (u : View). u.stream) h.1 ∙ there

      go : (o : Option Stream) → s.streams b.id ≡ o → (y : Stream) × (s.streams b.id ≡ Some y) × (seen y ≡ x)
      go None is = absurd (let clash : None ≡ Some x = sym (ap (option_map seen) is) ∙ shown in cc)
      go (Some y) is = (y, is, (let same : Some (seen y) ≡ Some x = sym (ap (option_map seen) is) ∙ shown in cc))

  module _ (v : View) (x : SeenStream) (there : v.stream ≡ Some x) (ending : Ending) where
    -- that of the line is one of those that ended, or is not yet
    record Ended (n : ℕ) (s : State) (w : List Event) : Type 0 where
      later : n < b.id → Shows b v s w
      ended : b.id ≤ n → Shows b (over x.orphan ending v) s w

    own_ends_if : (s : State) (w : List Event) → Shows b v s w
        → After (Shows b (over x.orphan ending v)) w (ends_if_of b.link b.id ending (s.streams b.id) s)
    own_ends_if s w h = go (own_row v x s w there h)
      where
        go : (y : Stream) × (s.streams b.id ≡ Some y) × (seen y ≡ x) → After (Shows b (over x.orphan ending v)) w
            (ends_if_of b.link b.id ending (s.streams b.id) s)
        go (y, is, same) =
            subst (λ (o : Option Stream). After (Shows b (over x.orphan ending v)) w (ends_if_of b.link b.id ending o s)) (sym is)
            (subst (λ (c : Bool). After (Shows b (over x.orphan ending v)) w (cond c (ends_row b.id ending y s) (quietly s)))
            (sym (eq-eqb y.link b.link (h.0.link y is)))
            (subst (λ (z : SeenStream). After (Shows b (over z.orphan ending v)) w (ends_row b.id ending y s)) same
            (own_ends b v ending y s w is h)))

    ends_one : (n : ℕ) (s : State) (w : List Event) → Ended n s w
        → ((suc n ≡ b.id) ⊎ (suc n ≢ b.id)) → After (Ended (suc n)) w (ends_if_of b.link (suc n) ending (s.streams (suc n)) s)
    ends_one n s w h (inl same) =
        let now : After (Shows b (over x.orphan ending v)) w (ends_if_of b.link (suc n) ending (s.streams (suc n)) s) =
        subst (λ (k : ℕ). After (Shows b (over x.orphan ending v)) w (ends_if_of b.link k ending (s.streams k) s)) (sym same)
        (own_ends_if s w (h.later (omega (arith, same)))) in
        record { later = λ lt. absurd (omega (arith, lt, same)); ended = λ le. now }
    ends_one n s w h (inr other) = record {
      later = λ lt. shows_ends_if b v b.link (suc n) ending s w (s.streams (suc n)) refl (h.later (omega (arith, lt))) (λ y is on. other);
      ended = λ le. shows_ends_if b (over x.orphan ending v) b.link (suc n) ending s w (s.streams (suc n)) refl
          (h.ended (omega (arith, le, other))) (λ y is on. other);
    }

    ends_all : (n : ℕ) (s : State) (w : List Event) → 0 < b.id → Shows b v s w → After (Ended n) w (ends_of b.link n ending s)
    ends_all zero s w some h =
        after_quietly (Ended zero) w s (record { later = λ lt. h; ended = λ le. absurd (omega (arith, le, some)) })
    ends_all (suc n) s w some h =
        after_next (Ended n) (Ended (suc n)) w (ends_of b.link n ending s)
        (λ s. ends_if_of b.link (suc n) ending (s.streams (suc n)) s) (ends_all n s w some h)
        (λ u now. ends_one n (ends_of b.link n ending s).state u now (cases_eq (suc n) b.id))

    pub own_all_end : (s : State) (w : List Event) → IsReal b → Shows b v s w
        → After (Shows b (over x.orphan ending v)) w (all_end b.link ending s)
    own_all_end s w real h = (ends_all s.drawn s w real.some h).ended (omega (arith, h.0.born, real.from))

    pub own_link_ends : (s : State) (w : List Event) → IsReal b → Shows b v s w
        → After (Shows b (over x.orphan ending v)) w (link_ends b.link ending s)
    own_link_ends s w real h =
        let ended_all : Made = all_end b.link ending (forgets b.link s) in
        after_then (Shows b (over x.orphan ending v)) w ended_all (λ s. quietly (mark_all s)) (own_all_end (forgets b.link s) w real h)
        (λ u now. after_quietly (Shows b (over x.orphan ending v)) u (mark_all ended_all.state) (shows_mark_all b (over x.orphan ending v)
        ended_all.state u now))

  -- ---- CNXN
  -- the link of a stream that is there is there, and connected
  pub record IsUp (s : State) : Type 0 where
    pub link : is_some (s.links b.link) ≡ true
    pub connected : is_connected b.link s.devices ≡ true

  module _ (v : View) (x : SeenStream) (there : v.stream ≡ Some x) (real : IsReal b) (s : State) (w : List Event)
      (up : IsUp s) (h : Shows b v s w) where
    own_connects : (version maxdata : ℕ) (who : Option Identity) → After (Shows b (over x.orphan (ending_by false who) v)) w
        (connects b.link version maxdata who s)
    own_connects version maxdata None = own_link_ends v x there Broken s w real h
    own_connects version maxdata (Some identity) =
        subst (λ (c : Bool). After (Shows b (over x.orphan Lost v)) w (then_also (streams_end_first c b.link s)
        (λ s. quietly (goes_online b.link version maxdata identity s)))) (sym up.connected)
        (after_then (Shows b (over x.orphan Lost v)) w (all_end b.link Lost s)
        (λ s. quietly (goes_online b.link version maxdata identity s))
        (own_all_end v x there Lost s w real h)
        (λ u now. after_quietly (Shows b (over x.orphan Lost v)) u
        (goes_online b.link version maxdata identity (all_end b.link Lost s).state)
        (shows_online b (over x.orphan Lost v) (all_end b.link Lost s).state u now b.link version maxdata identity)))

    own_cnxn : (p : Packet) → After (Shows b (over x.orphan (cnxn_ending p) v)) w (cnxn b.link p.arg0 p.arg1 p.payload s)
    own_cnxn p = by (nat_lt p.arg0 least_version || nat_lt p.arg1 least_maxdata)
      where
        by : (c : Bool) → After (Shows b (over x.orphan (ending_by c (identity_of p.payload)) v)) w
            (cond c (link_ends b.link Broken s) (connects b.link p.arg0 p.arg1 (identity_of p.payload) s))
        by true = own_link_ends v x there Broken s w real h
        by false = own_connects p.arg0 p.arg1 (identity_of p.payload)

    -- ---- one packet
    own_at : (k : ℕ) (u : View) (rule : ℕ → Stream → State → Made)
        → ((y : Stream) → s.streams b.id ≡ Some y → seen y ≡ x → After (Shows b u) w (rule b.id y s))
        → (k ≢ b.id → After (Shows b v) w (at_stream b.link (s.streams k) (rule k) s))
        → After (Shows b (cond (eqb k b.id) u v)) w (at_stream b.link (s.streams k) (rule k) s)
    own_at k u rule own others = by (eqb k b.id) refl
      where
        mine : (y : Stream) × (s.streams b.id ≡ Some y) × (seen y ≡ x)
            → After (Shows b u) w (at_stream b.link (s.streams b.id) (rule b.id) s)
        mine (y, is, same) =
            subst (λ (o : Option Stream). After (Shows b u) w (at_stream b.link o (rule b.id) s)) (sym is)
            (subst (λ (c : Bool). After (Shows b u) w (cond c (rule b.id y s) (quietly s)))
            (sym (eq-eqb y.link b.link (h.0.link y is))) (own y is same))

        by : (here : Bool) → eqb k b.id ≡ here → After (Shows b (cond here u v)) w (at_stream b.link (s.streams k) (rule k) s)
        by true e = subst (λ (n : ℕ). After (Shows b u) w (at_stream b.link (s.streams n) (rule n) s)) (sym (eqb-true k b.id e))
            (mine (own_row v x s w there h))
        by false e = others (eqb-false k b.id e)

    own_treat_open : (command : Command) (p : Packet) → command ≢ Cnxn
        → After (Shows b (treated_as b.id command p x v)) w (treat_open b.link command p s)
    own_treat_open Open p no_cnxn = shows_refuses b v s w h b.link p.arg0
    own_treat_open Okay p no_cnxn =
        own_at p.arg1 (after_okay b.id p.arg0 x v) (λ k. takes_okay k p.arg0 (credit_word p.payload))
        (λ y is same. subst
        (λ (z : SeenStream). After (Shows b (after_okay b.id p.arg0 z v)) w
        (takes_okay b.id p.arg0 (credit_word p.payload) y s)) same
        (own_takes_okay v y s w is h p.arg0 (credit_word p.payload)))
        (λ other. shows_treat_open b v b.link s w h Okay p (λ y is on. other))
    own_treat_open Wrte p no_cnxn =
        own_at p.arg1 (after_write b.id p.arg0 p.payload x v) (λ k. takes_write k p.arg0 p.payload)
        (λ y is same. subst
        (λ (z : SeenStream). After (Shows b (after_write b.id p.arg0 p.payload z v)) w
        (takes_write b.id p.arg0 p.payload y s)) same
        (own_takes_write v y s w is h p.arg0 p.payload))
        (λ other. shows_treat_open b v b.link s w h Wrte p (λ y is on. other))
    own_treat_open Clse p no_cnxn =
        own_at p.arg1 (after_close p.arg0 x v) (λ k. takes_close k p.arg0)
        (λ y is same. subst (λ (z : SeenStream). After (Shows b (after_close p.arg0 z v)) w (takes_close b.id p.arg0 y s)) same
        (own_takes_close v y s w is h p.arg0))
        (λ other. shows_treat_open b v b.link s w h Clse p (λ y is on. other))
    own_treat_open Auth p no_cnxn = after_quietly (Shows b v) w s h
    own_treat_open Stls p no_cnxn = after_quietly (Shows b v) w s h
    own_treat_open Cnxn p no_cnxn = absurd (no_cnxn refl)

    own_if_connected : (command : Command) (p : Packet) → command ≢ Cnxn
        → After (Shows b (treated_as b.id command p x v)) w
        (cond (is_connected b.link s.devices) (treat_open b.link command p s) (quietly s))
    own_if_connected command p no_cnxn =
        subst (λ (c : Bool). After (Shows b (treated_as b.id command p x v)) w (cond c (treat_open b.link command p s) (quietly s)))
        (sym up.connected) (own_treat_open command p no_cnxn)

    own_treat_any : (command : Command) (p : Packet) → After (Shows b (treated_as b.id command p x v)) w (treat_any b.link command p s)
    own_treat_any Cnxn p = own_cnxn p
    own_treat_any Auth p = shows_unauthorized b v s w h b.link (at b.link s.devices.rows)
    own_treat_any Stls p = shows_unauthorized b v s w h b.link (at b.link s.devices.rows)
    own_treat_any Open p = own_if_connected Open p (λ e. cc)
    own_treat_any Okay p = own_if_connected Okay p (λ e. cc)
    own_treat_any Wrte p = own_if_connected Wrte p (λ e. cc)
    own_treat_any Clse p = own_if_connected Clse p (λ e. cc)

    own_treat_on : (o : Option Link) (p : Packet) → s.links b.link ≡ o
        → After (Shows b (treated_as b.id p.command p x v)) w (treat_on o b.link p s)
    own_treat_on None p is = absurd (let clash : false ≡ true = sym (ap is_some is) ∙ up.link in cc)
    own_treat_on (Some link) p is = own_treat_any p.command p

    pub own_treat : (p : Packet) → After (Shows b (treated b p v)) w (treat b.link p s)
    own_treat p =
        subst (λ (o : Option SeenStream). After (Shows b (treated_on o b.id p v)) w (treat b.link p s)) (sym there)
        (own_treat_on (s.links b.link) p refl)
