-- What each move keeps, the rule of each entry keeps, and the up rule after it.
use Rattle.std.proofs.Common.{◌≡◌, ℕ, zero, suc, true, false, List, [], ◌∷◌, ◌++◌, length, drop, min, Option, Some, None, refl, sym, ap}
use Rattle.std.proofs.Common.{◌∙◌}
use Rattle.std.specs.Prelude.{nat_eq}
use Rattle.std.proofs.lemmas.Bool.{eq-eqb}
use Rattle.adb_outside.specs.Tables.{at, without}
use Rattle.adb_outside.specs.Framing.{Cut}
use Rattle.adb_outside.specs.declared.kinds.Cause.{Cause}
use Rattle.adb_outside.specs.declared.kinds.Cause.TheVariants.{Eof, Fault, Starved, NoThread}
use Rattle.adb_outside.specs.declared.kinds.Kind.{Kind}
use Rattle.adb_forward.specs.declared.row.ForwardRow.{ForwardRow}
use Rattle.adb_wire.specs.Cutting.{cut_packets}
use Rattle.adb_wire.specs.declared.packets.Packet.{Packet}
use Rattle.adb_wire.specs.declared.format.PacketFault.{PacketFault}
use Rattle.adb_wire.specs.declared.format.PacketFormat.{PacketFormat}
use Rattle.adb_stream.specs.declared.flow.Flow.{Flow}
use Rattle.adb_stream.specs.declared.flow.Flow.TheVariants.{One, Credit}
use Rattle.adb_stream.specs.declared.row.Part.{Part}
use Rattle.adb_stream.specs.declared.row.Stream.{Stream}
use Rattle.adb_stream.specs.Flow.{to_hand, credit_back, handed_to, has_credit}
use Rattle.adb_client.specs.declared.phase.Phase.{Phase}
use Rattle.adb_client.specs.declared.phase.Phase.TheVariants.{Asking, Opening, Streaming, Binding}
use Rattle.adb_client.specs.declared.about.Want.{Want}
use Rattle.adb_reply.specs.declared.answer.Next.{Next}
use Rattle.adb_reply.specs.declared.answer.Next.TheVariants.{Close, Select, Track, Open, Bind, Rebind, Unbind, UnbindAll, Stop}
use Rattle.adb_capture.specs.declared.entry.Entry.{Entry}
use Rattle.adb_capture.specs.declared.entry.Entry.TheVariants.{Join, Enter, Read, End, Bound, Attach, Recv, Detach, Put, Send}
use Rattle.adb_history.specs.Rows.{Client, Link, State, new_client, to_client, to_link, to_stream, none_kept, with_due, with_held}
use Rattle.adb_history.specs.Rows.{with_stream_part}
use Rattle.adb_history.specs.Events.{Made, Event, quietly}
use Rattle.adb_history.specs.declared.ending.Ending.TheVariants.{Lost}
use Rattle.adb_history.specs.Links.{server_cnxn, okay_packet, credit_packet, owe_link, is_connected}
use Rattle.adb_history.specs.Clients.{owe_client, closes, closes_with}
use Rattle.adb_history.specs.Streams.{opens}
use Rattle.adb_history.specs.Flow.{with_flow}
use Rattle.adb_history.specs.Tracking.{mark_all, offered}
use Rattle.adb_history.specs.Forwarding.{Binding as BoundBy, bound_by, put_forward}
use Rattle.adb_history.specs.Asking.{Asked, asks_with}
use Rattle.adb_history.specs.Losing.{stream_fails, stream_of, client_ends, input_ends}
use Rattle.adb_history.specs.Packets.{treat, treat_all, faulty, with_rest, receives_cut, receives_on}
use Rattle.adb_history.specs.Reading.{comes, comes_in_vain, enters_by, tracks, awaits, goes_on, asked_before, has_asked, asks, reads_in}
use Rattle.adb_history.specs.Reading.{reads_from}
use Rattle.adb_history.specs.Reading.{bound_for, bound_in, bound_at, bound}
use Rattle.adb_history.specs.Handing.{unmarked, lists_first, hands, tells_credit, tells_handed, stream_hands, stream_left}
use Rattle.adb_history.specs.Handing.{client_left, takes_of, puts_to, sends}
use Rattle.adb_history.specs.Machine.{unplugs_on, rule, ups, step}
use Rattle.adb_history.specs.Moves.{After, IsClientIn, plugged_in}
use Rattle.adb_history.specs.Owned.{IsOwned}
use Rattle.adb_history.proofs.OwnedStep.{owned_moves}
use Rattle.adb_history.proofs.Following.{after_quietly, after_then, after_if, changed_here}
use Rattle.adb_laws_fifo_up.specs.Climbing.{Aside, IsLevel, may_send, Climbs}
use Rattle.adb_laws_fifo_up.proofs.Asides.{aside_same, aside_then, aside_owe, aside_owe_client, aside_closes, aside_closes_with}
use Rattle.adb_laws_fifo_up.proofs.Asides.{aside_drops, aside_tracks}
use Rattle.adb_laws_fifo_up.proofs.Asides.{aside_awaits, aside_input, aside_hands, aside_unmarks, aside_marks, aside_else}
use Rattle.adb_laws_fifo_up.proofs.OwnedPackets.{treat_owned}
use Rattle.adb_laws_fifo_up.proofs.Ends.{open_fails_goes, asked_fails_goes}
use Rattle.adb_laws_fifo_up.proofs.StreamClimbs.{quiet_climbs, service_climbs, link_ends_climbs, not_lost, treat_climbs, faulty_climbs}
use Rattle.adb_laws_fifo_up.proofs.StreamClimbs.{up_all_climbs}

-- ---- bound
aside_bound_for : (want : Option Want) (c port : ℕ) (s : State) → Aside s (bound_for want c port s)
aside_bound_for None c port s = aside_same s
aside_bound_for (Some want) c port s =
    let b : BoundBy = bound_by want port s.devices s.forwards in
    let next : State = record s { forwards = b.forwards } in
    aside_then s (quietly next) (λ s. closes_with c b.reply s) (aside_else s next refl refl refl) (aside_closes_with c b.reply next)

aside_bound_in : (phase : Phase) (want : Option Want) (c port : ℕ) (s : State) → Aside s (bound_in phase want c port s)
aside_bound_in Binding want c port s = aside_bound_for want c port s
aside_bound_in _ want c port s = aside_same s

aside_bound : (o : Option Client) (c port : ℕ) (s : State) → Aside s (bound_at o c port s)
aside_bound None c port s = aside_same s
aside_bound (Some x) c port s = aside_bound_in x.about.phase x.about.want c port s

-- the forwards change, and the client is closing
aside_turns : (c : ℕ) (s next : State) → Aside s (quietly next) → Aside s (quietly (closes c next))
aside_turns c s next off = aside_then s (quietly next) (λ s. quietly (closes c s)) off (aside_closes c next)

-- ---- put
aside_lists : (c : ℕ) (due : List ℕ) (client : Client) (s : State) → Aside s (lists_first c due client s)
aside_lists c [] client s =
    let next : State = to_client c unmarked s in
    aside_then s (quietly next) (λ _. owe_client c (offered s.devices client) next) (aside_unmarks c s)
    (aside_owe_client c (offered s.devices client) next)
aside_lists c (b ∷ due) client s = aside_same s

aside_credit : (back l : ℕ) (stream : Stream) (s : State) → Aside s (tells_credit back l stream s)
aside_credit zero l stream s = aside_same s
aside_credit (suc n) l stream s =
    aside_owe stream.link (credit_packet l stream.part.remote (suc n)) s (refl, λ e. absurd (let clash : false ≡ true = e in cc))

aside_handed : (flow : Flow) (left l : ℕ) (stream : Stream) (s : State) → Aside s (tells_handed flow left l stream s)
aside_handed (One window) zero l stream s =
    aside_owe stream.link (okay_packet l stream.part.remote) s (refl, λ e. absurd (let clash : false ≡ true = e in cc))
aside_handed (One window) (suc left) l stream s = aside_same s
aside_handed (Credit credit) left l stream s = aside_credit (credit_back left credit) l stream s

level_handed : (left : ℕ) (part : Part) → IsLevel part (with_flow (handed_to left part.flow) part)
level_handed left part = go part.flow refl
  where
    go : (flow : Flow) → part.flow ≡ flow → IsLevel part (with_flow (handed_to left part.flow) part)
    go (One window) e = record {
      credit = ap (λ (f : Flow). has_credit (handed_to left f)) e ∙ sym (ap has_credit e);
      room = ap (λ (f : Flow). may_send (handed_to left f)) e ∙ sym (ap may_send e);
      remote = refl;
    }
    go (Credit credit) e = record {
      credit = ap (λ (f : Flow). has_credit (handed_to left f)) e ∙ sym (ap has_credit e);
      room = ap (λ (f : Flow). may_send (handed_to left f)) e ∙ sym (ap may_send e);
      remote = refl;
    }

module _ {Hears : State → ℕ → Type 0} {P : State → List Event → Type 0} (k : Climbs Hears P) where
  module _ (s : State) (w : List Event) (h : P s w) where
    -- ---- what follows a request
    goes_on_climbs : (next : Option Next) (c : ℕ) → IsClientIn s c Asking → After P w (goes_on next c s)
    goes_on_climbs None c x = after_quietly P w s h
    goes_on_climbs (Some Close) c x = k.aside s (quietly (closes c s)) w (aside_closes c s) h
    goes_on_climbs (Some (Select id)) c x = after_quietly P w s h
    goes_on_climbs (Some (Track long)) c x = k.aside s (quietly (to_client c (tracks long) s)) w (aside_tracks c long s) h
    goes_on_climbs (Some (Open t service)) c x = service_climbs k s w h false c t service x
    goes_on_climbs (Some (Bind transport local remote chosen)) c x =
        let want : Want = record { transport = transport; local = local; remote = remote } in
        k.aside s (quietly (to_client c (awaits want) s)) w (aside_awaits c want s) h
    goes_on_climbs (Some (Rebind transport local remote)) c x =
        let next : State = record s { forwards = put_forward local transport remote s.devices s.forwards } in
        k.aside s (quietly (closes c next)) w (aside_turns c s next (aside_else s next refl refl refl)) h
    goes_on_climbs (Some (Unbind local)) c x =
        let next : State = record s { forwards = without local s.forwards } in
        k.aside s (quietly (closes c next)) w (aside_turns c s next (aside_else s next refl refl refl)) h
    goes_on_climbs (Some UnbindAll) c x =
        let next : State = record s { forwards = [] } in
        k.aside s (quietly (closes c next)) w (aside_turns c s next (aside_else s next refl refl refl)) h
    goes_on_climbs (Some Stop) c x = k.stops c s w h

  module _ (s : State) (w : List Event) where
    asks_climbs : (q : Asked) (c : ℕ) → IsClientIn s c Asking → P (to_client c (has_asked q) s) w → After P w (asks q c s)
    asks_climbs q c x h =
        let now : State = to_client c (has_asked q) s in
        let taken : Client = record x.client { about = record x.client.about { selected = q.selected }; held = q.rest } in
        let owed : Made = owe_client c q.replies now in
        let here : owed.state.clients c ≡ Some (record taken { due = taken.due ++ q.replies }) =
        changed_here c (with_due q.replies) now.clients taken (changed_here c (has_asked q) s.clients x.client x.here) in
        after_then P w owed (goes_on q.next c) (k.aside now owed w (aside_owe_client c q.replies now) h)
        (λ v kept. goes_on_climbs owed.state v kept q.next c
        (record { client = record taken { due = taken.due ++ q.replies }; here = here; in_phase = x.in_phase }))

    -- what is to be shown before a read: that it holds with what is read
    abbrev pub ReadsIn : Phase → ℕ → List ℕ → Client → Type 0
    ReadsIn Asking c bytes x = P (to_client c (has_asked (asks_with s.devices s.forwards bytes (asked_before x))) s) w
    ReadsIn (Opening l) c bytes x = P (to_client c (with_held (x.held ++ bytes)) s) w
    ReadsIn (Streaming l) c bytes x = P (to_client c (with_held (x.held ++ bytes)) s) w
    ReadsIn _ c bytes x = P s w

    abbrev pub ReadsOf : Option Client → ℕ → List ℕ → Type 0
    ReadsOf None c bytes = P s w
    ReadsOf (Some x) c bytes = ReadsIn x.about.phase c bytes x

    reads_in_climbs : (phase : Phase) (c : ℕ) (bytes : List ℕ) (x : IsClientIn s c phase) → ReadsIn phase c bytes x.client
        → After P w (reads_in phase c bytes x.client s)
    reads_in_climbs Asking c bytes x h = asks_climbs (asks_with s.devices s.forwards bytes (asked_before x.client)) c x h
    reads_in_climbs (Opening l) c bytes x h = after_quietly P w (to_client c (with_held (x.client.held ++ bytes)) s) h
    reads_in_climbs (Streaming l) c bytes x h = after_quietly P w (to_client c (with_held (x.client.held ++ bytes)) s) h
    reads_in_climbs _ c bytes x h = after_quietly P w s h

    reads_climbs : (o : Option Client) (c : ℕ) (bytes : List ℕ) → s.clients c ≡ o → ReadsOf o c bytes → After P w (reads_from o c bytes s)
    reads_climbs None c bytes is h = after_quietly P w s h
    reads_climbs (Some x) c bytes is h = reads_in_climbs x.about.phase c bytes (record { client = x; here = is; in_phase = refl }) h

  module _ (s : State) (w : List Event) (h : P s w) where
    -- ---- client end
    fails_climbs : (phase : Phase) (c : ℕ) (cause : Cause) → IsClientIn s c phase
        → After P w (stream_fails phase cause (stream_of phase s.streams) (to_client c none_kept s))
    fails_climbs (Streaming l) c cause x = go (s.streams l) refl
      where
        go : (o : Option Stream) → s.streams l ≡ o → After P w (stream_fails (Streaming l) cause o (to_client c none_kept s))
        go None is = k.aside s (quietly (to_client c none_kept s)) w (aside_drops c s) h
        go (Some stream) is = k.goes l s (stream_fails (Streaming l) cause (Some stream) (to_client c none_kept s)) w
            (open_fails_goes l c cause x.client stream s x.here is x.in_phase) h
    fails_climbs (Opening l) c cause x = go (s.streams l) refl
      where
        go : (o : Option Stream) → s.streams l ≡ o → After P w (stream_fails (Opening l) cause o (to_client c none_kept s))
        go None is = k.aside s (quietly (to_client c none_kept s)) w (aside_drops c s) h
        go (Some stream) is = k.goes l s (stream_fails (Opening l) cause (Some stream) (to_client c none_kept s)) w
            (asked_fails_goes l c cause x.client stream s x.here is x.in_phase) h
    fails_climbs _ c cause x = k.aside s (quietly (to_client c none_kept s)) w (aside_drops c s) h

    client_ends_climbs : (c : ℕ) (cause : Cause) (o : Option Client) → s.clients c ≡ o → After P w (client_ends c cause o s)
    client_ends_climbs c cause None is = after_quietly P w s h
    client_ends_climbs c Eof (Some x) is = k.aside s (quietly (input_ends x.about.phase c s)) w (aside_input x.about.phase c s) h
    client_ends_climbs c Fault (Some x) is = fails_climbs x.about.phase c Fault (record { client = x; here = is; in_phase = refl })
    client_ends_climbs c Starved (Some x) is = fails_climbs x.about.phase c Starved (record { client = x; here = is; in_phase = refl })
    client_ends_climbs c NoThread (Some x) is = fails_climbs x.about.phase c NoThread (record { client = x; here = is; in_phase = refl })

    -- ---- put
    stream_hands_climbs : (left l : ℕ) (stream : Stream) → s.streams l ≡ Some stream → After P w (stream_hands left l stream s)
    stream_hands_climbs left l stream is =
        let part : Part = with_flow (handed_to left stream.part.flow) stream.part in
        let less : State = to_stream l (with_stream_part part) s in
        let told : Made = tells_handed stream.part.flow left l stream less in
        after_if P w (nat_eq left (to_hand stream.part.flow)) (quietly s) told (λ e. after_quietly P w s h)
        (λ e. k.aside less told w (aside_handed stream.part.flow left l stream less)
        (k.parts l stream part s w is (level_handed left stream.part) h))

    stream_left_climbs : (due l : ℕ) (o : Option Stream) → s.streams l ≡ o → After P w (stream_left due l o s)
    stream_left_climbs due l None is = after_quietly P w s h
    stream_left_climbs due l (Some stream) is = stream_hands_climbs (min (to_hand stream.part.flow) due) l stream is

    client_left_climbs : (phase : Phase) (due : ℕ) → After P w (client_left phase due s)
    client_left_climbs (Streaming l) due = stream_left_climbs due l (s.streams l) refl
    client_left_climbs _ due = after_quietly P w s h

  module _ (s : State) (w : List Event) (h : P s w) where
    takes_climbs : (c n : ℕ) (o : Option Client) → After P w (takes_of c n o s)
    takes_climbs c n None = after_quietly P w s h
    takes_climbs c n (Some x) =
        let handed : State = to_client c (hands n) s in
        client_left_climbs handed w (quiet_climbs k s handed w (aside_hands c n s) h) x.about.phase (length (drop n x.due))

  module _ (s : State) (w : List Event) (h : P s w) where
    puts_climbs : (o : Option Client) (c n : ℕ) → After P w (puts_to o c n s)
    puts_climbs None c n = after_quietly P w s h
    puts_climbs (Some x) c n =
        let listed : Made = lists_first c x.due x s in
        after_then P w listed (λ s. takes_of c n (s.clients c) s) (k.aside s listed w (aside_lists c x.due x s) h)
        (λ v now. takes_climbs listed.state v now c n (listed.state.clients c))

    unplugs_climbs : (o : Option Link) (t : ℕ) → After P w (unplugs_on o t s)
    unplugs_climbs None t = after_quietly P w s h
    unplugs_climbs (Some link) t = link_ends_climbs k Lost not_lost t s w h

  -- ---- receive
  -- where clients and streams keep each other, an OKAY is heard
  abbrev pub HearsAll : Type 0
  HearsAll = (s : State) → IsOwned s → (l : ℕ) → Hears s l

  treat_all_climbs : HearsAll → (s : State) (w : List Event) → P s w → IsOwned s → (t : ℕ) (packets : List Packet)
      → After P w (treat_all t packets s)
  treat_all_climbs all s w h owned t [] = after_quietly P w s h
  treat_all_climbs all s w h owned t (p ∷ packets) =
      after_then P w (treat t p s) (treat_all t packets) (treat_climbs k s w h t p (λ e. all s owned p.arg1))
      (λ v now. treat_all_climbs all (treat t p s).state v now (treat_owned t p s owned) t packets)

  -- the bytes past the packets are kept first
  pub rest_climbs : (t : ℕ) (rest : List ℕ) (s : State) (w : List Event) → P s w → P (to_link t (with_rest rest) s) w
  rest_climbs t rest s w h =
      let taken : State = to_link t (with_rest rest) s in
      quiet_climbs k s taken w (aside_else s taken refl refl refl) h

  receives_climbs : HearsAll → (s : State) (w : List Event) → P s w → IsOwned s → (o : Option Link) (t : ℕ) (bytes : List ℕ)
      → After P w (receives_on o t bytes s)
  receives_climbs all s w h owned None t bytes = after_quietly P w s h
  receives_climbs all s w h owned (Some link) t bytes = cut (cut_packets (record { sums = link.sums }) (link.rest ++ bytes))
    where
      cut : (c : Cut PacketFormat Packet PacketFault) → After P w (receives_cut t c s)
      cut c =
          let taken : State = to_link t (with_rest c.rest) s in
          after_then P w (treat_all t c.given taken) (faulty t c.fault)
          (treat_all_climbs all taken w (rest_climbs t c.rest s w h)
          (owned_moves.links t (λ link. record link { rest = c.rest }) s w owned) t c.given)
          (λ v now. faulty_climbs k (treat_all t c.given taken).state v now ((treat_all t c.given taken).state.links t) t c.fault)

  -- ---- who comes
  enters_climbs : (o : Option ForwardRow) (c : ℕ) (s : State) (w : List Event) → P (comes true c s) w
      → P (comes_in_vain s) w → After P w (enters_by c o s)
  enters_climbs None c s w here vain = after_quietly P w (comes_in_vain s) vain
  enters_climbs (Some row) c s w here vain =
      let now : State = comes true c s in
      let is : now.clients c ≡ Some (new_client true c) = rw (eq-eqb c c refl) refl in
      after_if P w (is_connected row.transport s.devices) (opens true c row.transport row.remote now) (quietly (comes_in_vain s))
      (λ e. service_climbs k now w here true c row.transport row.remote (record { client = new_client true c; here = is; in_phase = refl }))
      (λ e. after_quietly P w (comes_in_vain s) vain)

  aside_plugged : (t : ℕ) (kind : Kind) (serial : List ℕ) (s : State) → Aside s (quietly (plugged_in t kind serial s))
  aside_plugged t kind serial s =
      aside_then s (quietly _) (λ s. quietly (mark_all s)) (aside_else s _ refl refl refl) (aside_marks _)

  -- What is to be shown before the rule of an entry: that it holds with who comes, and with what is read.
  abbrev pub Begins : Entry → State → List Event → Type 0
  Begins (Join c) s w = P (comes false c s) w
  Begins (Enter c port) s w = P (comes true c s) w × P (comes_in_vain s) w
  Begins (Read c bytes) s w = ReadsOf s w (s.clients c) c bytes
  Begins (Recv t bytes) s w = P s w × IsOwned s × HearsAll
  Begins _ s w = P s w

  pub rule_climbs : (e : Entry) (s : State) (w : List Event) → Begins e s w → After P w (rule e s)
  rule_climbs (Join c) s w h = after_quietly P w (comes false c s) h
  rule_climbs (Enter c port) s w h = enters_climbs (at port s.forwards) c s w h.0 h.1
  rule_climbs (Attach t kind serial) s w h =
      let now : State = plugged_in t kind serial s in
      k.aside now (owe_link t server_cnxn now) w (aside_owe t server_cnxn now (refl, λ e. absurd (let clash : false ≡ true = e in cc)))
      (quiet_climbs k s now w (aside_plugged t kind serial s) h)
  rule_climbs (Read c bytes) s w h = reads_climbs s w (s.clients c) c bytes refl h
  rule_climbs (End c cause) s w h = client_ends_climbs s w h c cause (s.clients c) refl
  rule_climbs (Bound c port) s w h = k.aside s (bound c port s) w (aside_bound (s.clients c) c port s) h
  rule_climbs (Recv t bytes) s w h = receives_climbs h.2 s w h.0 h.1 (s.links t) t bytes
  rule_climbs (Detach t cause) s w h = unplugs_climbs s w h (s.links t) t
  rule_climbs (Put c bytes) s w h = puts_climbs s w h (s.clients c) c (length bytes)
  rule_climbs (Send t bytes) s w h =
      let next : State = sends t (length bytes) s in
      k.aside s (quietly next) w (aside_else s next refl refl refl) h

  pub step_climbs : (e : Entry) (s : State) (w : List Event) → Begins e s w → After P w (step s e)
  step_climbs e s w h =
      after_then P w (rule e s) ups (rule_climbs e s w h) (λ v now. up_all_climbs k (rule e s).state v now (rule e s).state.drawn)
