-- What the hand-outs to its client make of what is seen of a stream.
use Rattle.std.proofs.Common.{ℕ, ◌≡◌, ◌≢◌, zero, suc, List, [], ◌∷◌, ◌++◌, length, drop, min, Option, Some, None, refl, sym, ◌∙◌, ap}
use Rattle.std.proofs.Common.{subst, eqb}
use Rattle.std.specs.Prelude.{option_map}
use Rattle.adb_wire.specs.declared.packets.Packet.{Packet}
use Rattle.adb_stream.specs.declared.flow.Flow.{Flow}
use Rattle.adb_stream.specs.declared.flow.Flow.TheVariants.{One, Credit}
use Rattle.adb_stream.specs.declared.row.Stream.{Stream}
use Rattle.adb_stream.specs.declared.row.Part.{Part}
use Rattle.adb_stream.specs.Flow.{to_hand, credit_back, handed_to}
use Rattle.adb_client.specs.declared.phase.Phase.{Phase}
use Rattle.adb_client.specs.declared.phase.Phase.TheVariants.{Opening, Streaming, Closing}
use Rattle.adb_history.specs.Rows.{Client, State, to_client, to_stream, with_stream_part}
use Rattle.adb_history.specs.Events.{Event, quietly, then_also}
use Rattle.adb_history.specs.Links.{okay_packet, credit_packet}
use Rattle.adb_history.specs.Flow.{with_flow}
use Rattle.adb_history.specs.Handing.{lists_first, left_in, hands, tells_credit, tells_handed, stream_hands, stream_left}
use Rattle.adb_history.specs.Handing.{client_left}
use Rattle.adb_history.specs.Handing.{takes_of, puts_to}
use Rattle.adb_history.specs.Moves.{After}
use Rattle.adb_history.proofs.Following.{after_quietly}
use Rattle.adb_laws_fifo_down.specs.Line.{Line, SeenStream, SeenClient, View, seen, seen_client, Shows, closing_seen}
use Rattle.adb_laws_fifo_down.specs.Turned.{IsInLine, row_left, credit_told, left_told, stream_left_as, row_handed, handed_in, handed_out}
use Rattle.adb_laws_fifo_down.proofs.Own.{with_stream, with_client, own_part, own_client, closing_is}
use Rattle.adb_laws_fifo_down.proofs.OwnPackets.{shows_if, own_okay, okay_counts}

-- what was due before is nothing to a client that closes
closing_any : (due old : List ℕ) (a : SeenClient) → closing_seen due (record a { due = old }) ≡ closing_seen due a
closing_any [] old a = refl
closing_any (d ∷ due) old a = refl

module _ (b : Line) where
  -- ---- its stream has less to hand out
  module _ (v : View) (x : Stream) (s : State) (w : List Event) (there : s.streams b.id ≡ Some x) (h : Shows b v s w) where
    own_tells_credit : (u : View) (back : ℕ) (y : SeenStream) (s : State) → y.remote ≡ x.part.remote → Shows b u s w
        → After (Shows b (credit_told back b.id y u)) w (tells_credit back b.id x s)
    own_tells_credit u zero y s same now = after_quietly (Shows b u) w s now
    own_tells_credit u (suc n) y s same now =
        let p : Packet = credit_packet b.id x.part.remote (suc n) in
        subst (λ (r : ℕ). After (Shows b (record u { okays = u.okays ++ credit_packet b.id r (suc n) ∷ [] })) w
        (tells_credit (suc n) b.id x s)) (sym same)
        (own_okay b u x p s w (h.0.link x there) (okay_counts b p refl refl) now)

    -- a flow of which so many bytes are left
    row_less : (left : ℕ) (flow : Flow)
        → seen (record x { part = with_flow (handed_to left flow) x.part })
        ≡ row_left left (seen (record x { part = with_flow flow x.part }))
    row_less left (One window) = refl
    row_less left (Credit credit) = refl

    tells_left : (u : View) (left : ℕ) (flow : Flow) (s : State) → Shows b u s w
        → After (Shows b
        (left_told (seen (record x { part = with_flow flow x.part })).credit left b.id
        (seen (record x { part = with_flow flow x.part })) u)) w
        (tells_handed flow left b.id x s)
    tells_left u zero (One window) s now =
        let p : Packet = okay_packet b.id x.part.remote in
        own_okay b u x p s w (h.0.link x there) (okay_counts b p refl refl) now
    tells_left u (suc left) (One window) s now = after_quietly (Shows b u) w s now
    tells_left u left (Credit credit) s now = own_tells_credit u (credit_back left credit)
        (seen (record x { part = with_flow (Credit credit) x.part }))
        s refl now

    own_left : (left : ℕ) → After (Shows b (stream_left_as left b.id (seen x) v)) w (stream_hands left b.id x s)
    own_left left =
        let part : Part = with_flow (handed_to left x.part.flow) x.part in
        let less : State = to_stream b.id (with_stream_part part) s in
        let row : View = record v { stream = Some (row_left left (seen x)) } in
        shows_if b w (eqb left (to_hand x.part.flow)) v (left_told (seen x).credit left b.id (seen x) row) (quietly s)
        (tells_handed x.part.flow left b.id x less)
        (λ e. after_quietly (Shows b v) w s h)
        (λ e. tells_left row left x.part.flow less
        (subst (λ (y : SeenStream). Shows b (with_stream (Some y) v) less w) (row_less left x.part.flow) (own_part b v part x s w there h)))

  own_row_left : (v : View) (due : ℕ) (o : Option Stream) (s : State) (w : List Event) → s.streams b.id ≡ o → Shows b v s w
      → After (Shows b (row_handed due b.id (option_map seen o) v)) w (stream_left due b.id o s)
  own_row_left v due None s w there h = after_quietly (Shows b v) w s h
  own_row_left v due (Some x) s w there h = own_left v x s w there h (min (to_hand x.part.flow) due)

  -- ---- bytes are handed out to it
  module _ (v : View) (n : ℕ) (a : Client) (s : State) (w : List Event) (is : s.clients b.client ≡ Some a) (h : Shows b v s w) where
    handed : (phase : Phase) → a.about.phase ≡ phase
        → Shows b (with_client (option_map seen_client (left_in phase (drop n a.due) a)) v) (to_client b.client (hands n) s) w
    handed phase e =
        subst (λ (p : Phase). Shows b (with_client (option_map seen_client (left_in p (drop n a.due) a)) v)
        (to_client b.client (hands n) s) w) e
        (own_client b v (hands n) a s w is h)

    by_phase : (phase : Phase) → a.about.phase ≡ phase → IsInLine b.id phase
        → After (Shows b (handed_in phase b.id n (seen_client a) v)) w
        (client_left phase (length (drop n a.due)) (to_client b.client (hands n) s))
    by_phase (Streaming k) e same =
        let now : State = to_client b.client (hands n) s in
        let u : View = with_client (Some (record (seen_client a) { due = drop n a.due })) v in
        subst (λ (l : ℕ). After (Shows b (row_handed (length (drop n a.due)) b.id v.stream u)) w
        (stream_left (length (drop n a.due)) l (s.streams l) now))
        (sym same)
        (subst (λ (o : Option SeenStream). After (Shows b (row_handed (length (drop n a.due)) b.id o u)) w
        (stream_left (length (drop n a.due)) b.id (s.streams b.id) now))
        (ap (λ (y : View). y.stream) h.1)
        (own_row_left u (length (drop n a.due)) (s.streams b.id) now w refl (handed (Streaming k) e)))
    by_phase (Opening k) e same = after_quietly (Shows b (handed_in (Opening k) b.id n (seen_client a) v)) w
        (to_client b.client (hands n) s)
        (handed (Opening k) e)
    by_phase Closing e i =
        let d : List ℕ = drop n a.due in
        after_quietly (Shows b (handed_in Closing b.id n (seen_client a) v)) w (to_client b.client (hands n) s)
        (subst (λ (o : Option SeenClient). Shows b (with_client o v) (to_client b.client (hands n) s) w)
        (closing_is b d (record a { due = d }) ∙ closing_any d d (seen_client a)) (handed Closing e))
    by_phase _ e i = absurd i

    takes : (o : Option Client) → s.clients b.client ≡ o → IsInLine b.id a.about.phase
        → After (Shows b (handed_out b n (seen_client a) v)) w (takes_of b.client n o s)
    takes None none i = absurd (let clash : None ≡ Some a = sym none ∙ is in cc)
    takes (Some c) here i =
        let same : a ≡ c = let both : Some a ≡ Some c = sym is ∙ here in cc in
        subst (λ (c : Client). After (Shows b (handed_out b n (seen_client a) v)) w (takes_of b.client n (Some c) s)) same
        (by_phase a.about.phase refl i)

    pub own_puts : a.due ≢ [] → IsInLine b.id a.about.phase → After (Shows b (handed_out b n (seen_client a) v)) w
        (puts_to (Some a) b.client n s)
    own_puts some i = by a.due some
      where
        by : (due : List ℕ) → due ≢ [] → After (Shows b (handed_out b n (seen_client a) v)) w
            (then_also (lists_first b.client due a s) (λ s. takes_of b.client n (s.clients b.client) s))
        by [] none = absurd (none refl)
        by (d ∷ due) more = takes (s.clients b.client) refl i
