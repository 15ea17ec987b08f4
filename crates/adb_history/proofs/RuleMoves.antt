-- What each move keeps, handing out keeps, and the rule of each entry, where one client alone is answered, or whatever it touches.
use Rattle.std.proofs.Common.{◌≡◌, ℕ, ◌+◌, ◌-◌, ◌≤◌, ◌<◌, zero, suc, Bool, true, false, cond, ◌||◌, List, [], ◌∷◌, length, drop, min}
use Rattle.std.proofs.Common.{Option, Some, None, refl}
use Rattle.std.proofs.Common.{sym, ap, subst, ◌∙◌, arith, inl, inr, eqb}
use Rattle.std.specs.Prelude.{is_some, nat_eq, nat_le}
use Rattle.std.proofs.lemmas.Bool.{eqb-true, eq-eqb}
use Rattle.std.proofs.lemmas.Bool.Decides.{nat_tests}
use Rattle.adb_stream.specs.Credit.{given_back}
use Rattle.adb_stream.specs.declared.credit.TheConstants.{CREDIT_STEP}
use Rattle.adb_stream.specs.declared.flow.Flow.{Flow}
use Rattle.adb_stream.specs.declared.flow.Flow.TheVariants.{One, Credit}
use Rattle.adb_stream.specs.declared.row.Stream.{Stream}
use Rattle.adb_stream.specs.Flow.{to_hand, credit_back, handed_to}
use Rattle.adb_client.specs.declared.phase.Phase.{Phase}
use Rattle.adb_client.specs.declared.phase.Phase.TheVariants.{Asking, Opening, Streaming, Binding, Tracking, Closing, Gone}
use Rattle.adb_capture.specs.declared.entry.Entry.{Entry}
use Rattle.adb_capture.specs.declared.entry.Entry.TheVariants.{Join, Enter, Read, End, Bound, Attach, Recv, Detach, Put, Send}
use Rattle.adb_outside.specs.Tables.{at}
use Rattle.adb_forward.specs.declared.row.ForwardRow.{ForwardRow}
use Rattle.adb_history.specs.Rows.{new_client, Client, Link, State, to_client, to_stream, with_stream_part}
use Rattle.adb_history.specs.Events.{Made, Event, quietly}
use Rattle.adb_history.specs.declared.ending.Ending.TheVariants.{Lost}
use Rattle.adb_history.specs.Links.{okay_packet, credit_packet, server_cnxn, is_connected}
use Rattle.adb_history.specs.Streams.{opens}
use Rattle.adb_history.specs.Flow.{with_flow}
use Rattle.adb_history.specs.Tracking.{offered}
use Rattle.adb_history.specs.Handing.{unmarked, lists_first, hands, tells_credit, tells_handed, stream_left, client_left, takes_of, puts_to}
use Rattle.adb_history.specs.Handing.{sends}
use Rattle.adb_history.specs.Asking.{asks_with}
use Rattle.adb_history.specs.Reading.{asked_before, has_asked, reads_from, comes, comes_in_vain, enters_by}
use Rattle.adb_history.specs.Machine.{unplugs_on, rule, ups, step}
use Rattle.adb_history.specs.Moves.{IsClientIn, After, Moves, Serves, IsLike, plugged_in}
use Rattle.adb_history.proofs.Following.{after_quietly, after_then, after_if, changed_here}
use Rattle.adb_history.proofs.StreamMoves.{owes_kept, service_kept, up_all_turns}
use Rattle.adb_history.proofs.PacketMoves.{receives_turns, allows_all}
use Rattle.adb_history.proofs.ReadMoves.{reads_in_kept, bound_kept, client_ends_kept}
use Rattle.adb_wire.specs.declared.packets.Packet.{Packet}
use Rattle.adb_history.specs.Bytes.{is_orderly}
use Rattle.adb_history.specs.Turns.{Scope, Allows, Turns, everywhere, Serving, serving}
use Rattle.adb_history.proofs.AllMoves.{all_served, all_moves}

-- ---- a flow after so many bytes are left to be handed out
pub back_within : (left g : ℕ) → given_back left g ≤ g
back_within left g = go ((eqb left 0) || nat_le CREDIT_STEP g)
  where
    go : (b : Bool) → cond b g 0 ≤ g
    go true = omega arith
    go false = omega arith

pub back_few : (left g : ℕ) → g - given_back left g < CREDIT_STEP
back_few left g = go (eqb left 0) (nat_le CREDIT_STEP g) refl
  where
    go : (a b : Bool) → nat_le CREDIT_STEP g ≡ b → g - cond (a || b) g 0 < CREDIT_STEP
    go true b is = omega arith
    go false true is = omega arith
    go false false is = grind (arith, nat_tests)

pub back_all : (left g : ℕ) → left ≡ 0 → g - given_back left g ≡ 0
back_all left g none = subst (λ (n : ℕ). g - given_back n g ≡ 0) (sym none) (omega arith)

pub like_handed : (left : ℕ) (flow : Flow) → left ≤ to_hand flow → IsLike flow (handed_to left flow)
like_handed left (One window) h = record { credit = refl; left = h; sound = λ x. x }
like_handed left (Credit credit) h =
    let g : ℕ = credit.gathered + (credit.to_hand - left) in
    record {
      credit = refl;
      left = h;
      sound = λ x. record {
        window = omega (arith, x.window, h, back_within left (credit.gathered + (credit.to_hand - left)));
        few = back_few left (credit.gathered + (credit.to_hand - left));
        none = λ none. back_all left (credit.gathered + (credit.to_hand - left)) none;
      };
    }

pub left_now : (left : ℕ) (flow : Flow) → to_hand (handed_to left flow) ≡ left
left_now left (One window) = refl
left_now left (Credit credit) = refl

-- the stream of a client, by its phase
pub same_stream : (phase : Phase) (l m : ℕ) → phase ≡ Streaming l → phase ≡ Streaming m → l ≡ m
same_stream phase l m e f = let g : Streaming l ≡ Streaming m = sym e ∙ f in cc

module _ {scope : Scope} {asker : ℕ} {P : State → List Event → Type 0} (k : Serving scope asker P) where
  module _ (s : State) (w : List Event) (h : P s w) where
    -- ---- put
    lists_first_kept : (due : List ℕ) (client : Client) → After P w (lists_first asker due client s)
    lists_first_kept [] client = k.replies (offered s.devices client) (to_client asker unmarked s) w (k.unmarks s w h)
    lists_first_kept (b ∷ due) client = after_quietly P w s h

    tells_credit_kept : (back l : ℕ) (stream : Stream) → is_some (s.streams l) ≡ true → After P w (tells_credit back l stream s)
    tells_credit_kept zero l stream alive = after_quietly P w s h
    tells_credit_kept (suc n) l stream alive = owes_kept k s w h stream.link (credit_packet l stream.part.remote (suc n)) (inr (inl alive))

    tells_handed_kept : (flow : Flow) (left l : ℕ) (stream : Stream) → is_some (s.streams l) ≡ true
        → After P w (tells_handed flow left l stream s)
    tells_handed_kept (One window) zero l stream alive = owes_kept k s w h stream.link (okay_packet l stream.part.remote) (inr (inl alive))
    tells_handed_kept (One window) (suc left) l stream alive = after_quietly P w s h
    tells_handed_kept (Credit credit) left l stream alive = tells_credit_kept (credit_back left credit) l stream alive

    -- so many bytes are handed to a client, of whose stream so many are left
    hands_kept : (c n : ℕ) (client : Client) → s.clients c ≡ Some client
        → ((l : ℕ) (stream : Stream) → client.about.phase ≡ Streaming l → s.streams l ≡ Some stream
        → to_hand stream.part.flow ≤ length (drop n client.due))
        → After P w (quietly (to_client c (hands n) s))
    hands_kept c n client is fits = after_quietly P w (to_client c (hands n) s) (k.hands c n client s w is fits h)

  -- so many bytes are handed to the client of a stream
  module _ (s : State) (w : List Event) (h : P s w) (c n l : ℕ) (x : IsClientIn s c (Streaming l)) where
    less_kept : (left : ℕ) (stream : Stream) → s.streams l ≡ Some stream
        → (left ≤ to_hand stream.part.flow) × (left ≤ length (drop n x.client.due))
        → After P w (tells_handed stream.part.flow left l stream
        (to_stream l (with_stream_part (with_flow (handed_to left stream.part.flow) stream.part)) (to_client c (hands n) s)))
    less_kept left stream at_l fits =
        let flow : Flow = handed_to left stream.part.flow in
        let part = with_flow flow stream.part in
        let less : State = to_stream l (with_stream_part part) s in
        let here : less.streams l ≡ with_stream_part part stream = changed_here l (with_stream_part part) s.streams stream at_l in
        let now : P less w = k.flows l stream flow s w at_l (like_handed left stream.part.flow fits.0) h in
        tells_handed_kept (to_client c (hands n) less) w
        (k.hands c n x.client less w x.here (λ m other in_m at_m. within m other in_m at_m here) now) stream.part.flow
        left l stream (ap is_some here)
      where
        within : (m : ℕ) (other : Stream) → x.client.about.phase ≡ Streaming m
            → (to_stream l (with_stream_part (with_flow (handed_to left stream.part.flow) stream.part)) s).streams m ≡ Some other
            → (to_stream l (with_stream_part (with_flow (handed_to left stream.part.flow) stream.part)) s).streams l
            ≡ with_stream_part (with_flow (handed_to left stream.part.flow) stream.part) stream
            → to_hand other.part.flow ≤ length (drop n x.client.due)
        within m other in_m at_m here =
            let rows = (to_stream l (with_stream_part (with_flow (handed_to left stream.part.flow) stream.part)) s).streams in
            let e : l ≡ m = same_stream x.client.about.phase l m x.in_phase in_m in
            let same : with_stream_part (with_flow (handed_to left stream.part.flow) stream.part) stream
            ≡ Some other = sym here ∙ (ap rows e ∙ at_m) in
            let row : record stream { part = with_flow (handed_to left stream.part.flow) stream.part } ≡ other = cc in
            let hand : to_hand (handed_to left stream.part.flow) ≡ to_hand other.part.flow = ap (λ (y : Stream). to_hand y.part.flow) row in
            omega (arith, hand, left_now left stream.part.flow, fits.1)

    stream_left_kept : (o : Option Stream) → s.streams l ≡ o
        → After P w (stream_left (length (drop n x.client.due)) l o (to_client c (hands n) s))
    stream_left_kept None at_l =
        hands_kept s w h c n x.client x.here (λ m other in_m at_m. absurd (none m other in_m at_m))
      where
        none : (m : ℕ) (other : Stream) → x.client.about.phase ≡ Streaming m → s.streams m ≡ Some other → ⊥
        none m other in_m at_m =
            let e : l ≡ m = same_stream x.client.about.phase l m x.in_phase in_m in
            let clash : None ≡ Some other = sym at_l ∙ (ap s.streams e ∙ at_m) in
            cc
    stream_left_kept (Some stream) at_l =
        let due : ℕ = length (drop n x.client.due) in
        let left : ℕ = min (to_hand stream.part.flow) due in
        let handed : State = to_client c (hands n) s in
        let less : Made = tells_handed stream.part.flow left l stream
        (to_stream l (with_stream_part (with_flow (handed_to left stream.part.flow) stream.part)) handed) in
        after_if P w (nat_eq left (to_hand stream.part.flow)) (quietly handed) less
        (λ e. hands_kept s w h c n x.client x.here
        (λ m other in_m at_m. same m other in_m at_m (eqb-true left (to_hand stream.part.flow) e)))
        (λ e. less_kept left stream at_l (omega arith, omega arith))
      where
        same : (m : ℕ) (other : Stream) → x.client.about.phase ≡ Streaming m → s.streams m ≡ Some other
            → min (to_hand stream.part.flow) (length (drop n x.client.due)) ≡ to_hand stream.part.flow
            → to_hand other.part.flow ≤ length (drop n x.client.due)
        same m other in_m at_m is_all =
            let e : l ≡ m = same_stream x.client.about.phase l m x.in_phase in_m in
            let both : Some stream ≡ Some other = sym at_l ∙ (ap s.streams e ∙ at_m) in
            let row : stream ≡ other = cc in
            let hand : to_hand stream.part.flow ≡ to_hand other.part.flow = ap (λ (y : Stream). to_hand y.part.flow) row in
            omega (arith, hand, is_all)

  module _ (s : State) (w : List Event) (h : P s w) where
    client_left_kept : (phase : Phase) (c n : ℕ) (x : IsClientIn s c phase)
        → After P w (client_left phase (length (drop n x.client.due)) (to_client c (hands n) s))
    client_left_kept (Streaming l) c n x = stream_left_kept s w h c n l x (s.streams l) refl
    client_left_kept Asking c n x =
        hands_kept s w h c n x.client x.here (λ l y e f. absurd (let g : Asking ≡ Streaming l = sym x.in_phase ∙ e in cc))
    client_left_kept (Opening m) c n x =
        hands_kept s w h c n x.client x.here (λ l y e f. absurd (let g : Opening m ≡ Streaming l = sym x.in_phase ∙ e in cc))
    client_left_kept Binding c n x =
        hands_kept s w h c n x.client x.here (λ l y e f. absurd (let g : Binding ≡ Streaming l = sym x.in_phase ∙ e in cc))
    client_left_kept Tracking c n x =
        hands_kept s w h c n x.client x.here (λ l y e f. absurd (let g : Tracking ≡ Streaming l = sym x.in_phase ∙ e in cc))
    client_left_kept Closing c n x =
        hands_kept s w h c n x.client x.here (λ l y e f. absurd (let g : Closing ≡ Streaming l = sym x.in_phase ∙ e in cc))
    client_left_kept Gone c n x =
        hands_kept s w h c n x.client x.here (λ l y e f. absurd (let g : Gone ≡ Streaming l = sym x.in_phase ∙ e in cc))

    pub takes_turns : (c n : ℕ) (o : Option Client) → s.clients c ≡ o → After P w (takes_of c n o s)
    takes_turns c n None is = after_quietly P w s h
    takes_turns c n (Some client) is = client_left_kept client.about.phase c n (record { client = client; here = is; in_phase = refl })

  module _ (s : State) (w : List Event) (h : P s w) where
    pub puts_turns : (o : Option Client) (n : ℕ) → After P w (puts_to o asker n s)
    puts_turns None n = after_quietly P w s h
    puts_turns (Some client) n =
        let listed : Made = lists_first asker client.due client s in
        after_then P w listed (λ s. takes_of asker n (s.clients asker) s) (lists_first_kept s w h client.due client)
        (λ v now. takes_turns listed.state v now asker n (listed.state.clients asker) refl)

    -- ---- entries
    pub unplugs_turns : (o : Option Link) (t : ℕ) → scope.cuts t → After P w (unplugs_on o t s)
    unplugs_turns None t may = after_quietly P w s h
    unplugs_turns (Some link) t may = k.link_ends t Lost s w (refl, may) h

-- What is to be shown before the rule of an entry: that it holds with who comes; of a client that asks, that it holds with what is read.
abbrev pub BeginsWith : (State → List Event → Type 0) → Entry → State → List Event → Type 0
BeginsWith P (Join c) s w = P (comes false c s) w
BeginsWith P (Enter c port) s w = P (comes true c s) w × P (comes_in_vain s) w
BeginsWith P (Attach t kind serial) s w = P (plugged_in t kind serial s) w
BeginsWith P (Read c bytes) s w = P s w × ((client : Client) → s.clients c ≡ Some client → client.about.phase ≡ Asking
    → P (to_client c (has_asked (asks_with s.devices s.forwards bytes (asked_before client))) s) w)
BeginsWith P _ s w = P s w

module _ {scope : Scope} {asker : ℕ} {P : State → List Event → Type 0} (k : Turns scope asker P) where
  module _ (s : State) (w : List Event) (h : P s w) where
    reads_kept : (o : Option Client) (bytes : List ℕ) → scope.stops → s.clients asker ≡ o
        → ((client : Client) → s.clients asker ≡ Some client → client.about.phase ≡ Asking
        → P (to_client asker (has_asked (asks_with s.devices s.forwards bytes (asked_before client))) s) w)
        → After P w (reads_from o asker bytes s)
    reads_kept None bytes may is asked = after_quietly P w s h
    reads_kept (Some client) bytes may is asked =
        reads_in_kept k s w h client.about.phase bytes (record { client = client; here = is; in_phase = refl }) may (asked client is)

  -- ---- who comes
  enters_kept : (o : Option ForwardRow) (s : State) (w : List Event) → P (comes true asker s) w → P (comes_in_vain s) w
      → After P w (enters_by asker o s)
  enters_kept None s w here vain = after_quietly P w (comes_in_vain s) vain
  enters_kept (Some row) s w here vain =
      let now : State = comes true asker s in
      let is : now.clients asker ≡ Some (new_client true asker) = rw (eq-eqb asker asker refl) refl in
      after_if P w (is_connected row.transport s.devices) (opens true asker row.transport row.remote now) (quietly (comes_in_vain s))
      (λ e. service_kept k now w here true row.transport row.remote
      (record { client = new_client true asker; here = is; in_phase = refl }) (inl e)) (λ e. after_quietly P w (comes_in_vain s) vain)

  -- the rule of an entry is one of the asker, or of no client that is answered at once
  abbrev pub IsBy : Entry → Type 0
  IsBy (Enter c port) = c ≡ asker
  IsBy (Read c bytes) = (c ≡ asker) × scope.stops
  IsBy (Bound c port) = c ≡ asker
  IsBy (Put c bytes) = c ≡ asker
  IsBy (End c cause) = is_orderly cause ≡ false → scope.fails c
  IsBy (Recv t bytes) = ((p : Packet) → Allows scope t p.command p) × scope.cuts t
  IsBy (Detach t cause) = scope.cuts t
  IsBy _ = Unit {0}

  pub rule_turns : (e : Entry) (s : State) (w : List Event) → IsBy e → BeginsWith P e s w → After P w (rule e s)
  rule_turns (Join c) s w by h = after_quietly P w (comes false c s) h
  rule_turns (Enter c port) s w by h =
      subst (λ (n : ℕ). BeginsWith P (Enter n port) s w → After P w (rule (Enter n port) s)) (sym by)
      (λ h. enters_kept (at port s.forwards) s w h.0 h.1) h
  rule_turns (Attach t kind serial) s w by h = owes_kept (serving k) (plugged_in t kind serial s) w h t server_cnxn (inr (inr refl))
  rule_turns (Read c bytes) s w by h =
      subst (λ (n : ℕ). BeginsWith P (Read n bytes) s w → After P w (rule (Read n bytes) s)) (sym by.0)
      (λ h. reads_kept s w h.0 (s.clients asker) bytes by.1 refl h.1) h
  rule_turns (End c cause) s w by h = client_ends_kept k s w h c cause (s.clients c) by refl
  rule_turns (Bound c port) s w by h =
      subst (λ (n : ℕ). After P w (rule (Bound n port) s)) (sym by) (bound_kept k s w h (s.clients asker) port refl)
  rule_turns (Recv t bytes) s w by h = receives_turns (serving k) s w h t bytes by
  rule_turns (Detach t cause) s w by h = unplugs_turns (serving k) s w h (s.links t) t by
  rule_turns (Put c bytes) s w by h =
      subst (λ (n : ℕ). After P w (rule (Put n bytes) s)) (sym by) (puts_turns (serving k) s w h (s.clients asker) (length bytes))
  rule_turns (Send t bytes) s w by h =
      after_quietly P w (sends t (length bytes) s) (k.links t (λ link. record link { due = drop (length bytes) link.due }) s w h)

  pub step_turns : (e : Entry) (s : State) (w : List Event) → IsBy e → BeginsWith P e s w → After P w (step s e)
  step_turns e s w by h =
      after_then P w (rule e s) ups (rule_turns e s w by h)
      (λ v now. up_all_turns (serving k) (rule e s).state v now (rule e s).state.drawn)

-- ---- whatever they touch
module _ {P : State → List Event → Type 0} (k : Serves P) (s : State) (w : List Event) (h : P s w) where
  pub puts_kept : (o : Option Client) (c n : ℕ) → After P w (puts_to o c n s)
  puts_kept o c n = puts_turns (all_served k everywhere c) s w h o n

  pub unplugs_kept : (o : Option Link) (t : ℕ) → After P w (unplugs_on o t s)
  unplugs_kept o t = unplugs_turns (all_served k everywhere 0) s w h o t tt

module _ {P : State → List Event → Type 0} (k : Moves P) where
  abbrev pub Begins : Entry → State → List Event → Type 0
  Begins e s w = BeginsWith P e s w

  -- who is answered by the rule of an entry
  abbrev asker_of : Entry → ℕ
  asker_of (Enter c port) = c
  asker_of (Read c bytes) = c
  asker_of (Bound c port) = c
  asker_of (Put c bytes) = c
  asker_of _ = 0

  is_by : (e : Entry) → IsBy (all_moves k everywhere (asker_of e)) e
  is_by (Enter c port) = refl
  is_by (Read c bytes) = (refl, tt)
  is_by (Bound c port) = refl
  is_by (Put c bytes) = refl
  is_by (End c cause) = λ e. tt
  is_by (Recv t bytes) = (allows_all t, tt)
  is_by _ = tt

  pub rule_kept : (e : Entry) (s : State) (w : List Event) → Begins e s w → After P w (rule e s)
  rule_kept e s w h = rule_turns (all_moves k everywhere (asker_of e)) e s w (is_by e) h

  pub step_kept : (e : Entry) (s : State) (w : List Event) → Begins e s w → After P w (step s e)
  step_kept e s w h = step_turns (all_moves k everywhere (asker_of e)) e s w (is_by e) h
