-- The up rule, hand-outs, and what clients and links do that are there: the streams that are left go on.
use Rattle.std.proofs.Common.{◌≡◌, ◌≢◌, ℕ, zero, suc, Bool, true, false, List, [], ◌∷◌, length, drop, Option, Some, None, refl, sym, ap}
use Rattle.std.proofs.Common.{subst, ◌∙◌, arith}
use Rattle.std.proofs.Common.{◌≤◌, ◌-◌, cond}
use Rattle.std.specs.Prelude.{nat_eq, min, option_and_then}
use Rattle.std.proofs.lemmas.Bool.{eqb-true}
use Rattle.std.proofs.lemmas.List.{length-take}
use Rattle.std.proofs.lemmas.List.Elements.{All-nil}
use Rattle.adb_registry.specs.Registry.{DeviceTable}
use Rattle.adb_wire.specs.declared.headers.TheConstants.{MAX_PAYLOAD}
use Rattle.adb_outside.specs.Tables.{Rows, change_row}
use Rattle.adb_outside.specs.declared.kinds.Cause.{Cause}
use Rattle.adb_outside.specs.declared.kinds.Cause.TheVariants.{Eof, Fault, Starved, NoThread}
use Rattle.adb_wire.specs.declared.packets.Packet.{Packet}
use Rattle.adb_wire.specs.declared.format.PacketFault.{PacketFault}
use Rattle.adb_stream.specs.Stream.{with_part}
use Rattle.adb_stream.specs.declared.flow.Flow.{Flow}
use Rattle.adb_stream.specs.declared.flow.Flow.TheVariants.{One, Credit}
use Rattle.adb_stream.specs.declared.row.Part.{Part}
use Rattle.adb_stream.specs.declared.row.Stream.{Stream}
use Rattle.adb_stream.specs.Flow.{to_hand, credit_back, handed_to, has_credit}
use Rattle.adb_client.specs.declared.about.Want.{Want}
use Rattle.adb_client.specs.declared.phase.Phase.{Phase}
use Rattle.adb_client.specs.declared.phase.Phase.TheVariants.{Opening, Streaming, Binding, Closing, Gone}
use Rattle.adb_history.specs.Rows.{Client, Link, State, to_client, to_stream, none_kept, with_stream_part}
use Rattle.adb_history.specs.Events.{Made, quietly, due_to_client, due_to_link, ended}
use Rattle.adb_history.specs.declared.ending.Ending.TheVariants.{ClientClosed, ClientFailed, Lost, Broken}
use Rattle.adb_history.specs.Links.{wants_sums, owe_link, write_packet, close_packet, okay_packet, credit_packet, maxdata_of}
use Rattle.adb_history.specs.Flow.{write_len, write_before, writes}
use Rattle.adb_history.specs.Flow.{with_flow, flow_after, payloads, total, noted, goes_up, all_go_up, is_over, closes_if, sends_up}
use Rattle.adb_history.specs.Flow.{is_streaming, up_client, up_stream, up, up_all}
use Rattle.adb_history.specs.Tracking.{offered}
use Rattle.adb_history.specs.Losing.{orphaned, stream_fails, stream_of, client_fails, input_ends, client_ends}
use Rattle.adb_history.specs.Packets.{faulty_on}
use Rattle.adb_history.specs.Reading.{bound_for, bound_in, bound_at}
use Rattle.adb_history.specs.Forwarding.{bound_by}
use Rattle.adb_history.specs.Handing.{unmarked, lists_first, hands, tells_credit, tells_handed, stream_hands, stream_left}
use Rattle.adb_history.specs.Handing.{client_left, takes_of, puts_to}
use Rattle.adb_history.specs.Machine.{unplugs_on}
use Rattle.adb_history.specs.Owned.{OwnerIn, StreamOf, HoldsIn, IsOwned}
use Rattle.adb_history.specs.Orderly.{phase_for}
use Rattle.adb_history.specs.Moves.{serves}
use Rattle.adb_history.proofs.Following.{changed_here}
use Rattle.adb_history.proofs.Growing.{AreWithin}
use Rattle.adb_history.proofs.GrowingRules.{keeps_up_all}
use Rattle.adb_history.proofs.StreamMoves.{like_after, up_all_kept}
use Rattle.adb_history.proofs.OwnedStep.{owned_moves}
use Rattle.adb_laws_births.specs.Going.{IsFrom, Goes, GoOn}
use Rattle.adb_laws_births.proofs.Going.{go_on_same, go_on_gone, go_on_part, goes_quiet, goes_then, goes_if, one_from, check_short}
use Rattle.adb_laws_births.proofs.Going.{IsOpenAt, of_row}
use Rattle.adb_laws_births.proofs.Going.{goes_owe_client, goes_owe_link}
use Rattle.adb_laws_births.proofs.GoingEnds.{goes_ends_telling, goes_link_ends}

-- ---- the stream of a client
same_phase : (l remote : ℕ) → Streaming l ≡ phase_for l remote → remote ≢ 0
same_phase l zero e none = let clash : Streaming l ≡ Opening l = e in cc
same_phase l (suc remote) e none = cc

-- what stands in one place is one
pub one_row : {A : Type 0} (o : Option A) (x y : A) → o ≡ Some x → o ≡ Some y → x ≡ y
one_row o x y is at = let both : Some x ≡ Some y = sym is ∙ at in cc

-- the stream that a client has open is open
pub open_known : (s : State) → IsOwned s → (c l : ℕ) (client : Client) (stream : Stream) → s.clients c ≡ Some client
    → client.about.phase ≡ Streaming l → s.streams l ≡ Some stream → stream.part.remote ≢ 0
open_known s h c l client stream is in_ at_l =
    let own : StreamOf s.streams c l = subst (λ (p : Phase). HoldsIn p s.streams c client) in_ (h.owned.client c client is).holds in
    let same : own.stream ≡ stream = one_row (s.streams l) own.stream stream own.is at_l in
    let owned : stream.part.orphan ≡ false = ap (λ (x : Stream). x.part.orphan) (sym same) ∙ own.owned in
    let to : stream.client ≡ c = ap (λ (x : Stream). x.client) (sym same) ∙ own.client in
    let of = subst (λ (b : Bool). OwnerIn b s.clients l stream) owned (h.owned.stream l stream at_l).owner in
    let here : s.clients c ≡ Some of.client = subst (λ (k : ℕ). s.clients k ≡ Some of.client) to of.is in
    let one : client ≡ of.client = one_row (s.clients c) client of.client is here in
    same_phase l stream.part.remote (sym in_ ∙ (ap (λ (x : Client). x.about.phase) one ∙ of.phase))

streaming_is : (l : ℕ) (phase : Phase) → is_streaming l phase ≡ true → phase ≡ Streaming l
streaming_is l (Streaming k) e = ap (λ (n : ℕ). Streaming n) (eqb-true k l e)
streaming_is l _ e = absurd (let clash : false ≡ true = e in cc)

-- the stream with another flow is there
open_part : (rows : Rows (Option Stream)) (l : ℕ) (stream : Stream) (flow : Flow) → rows l ≡ Some stream → stream.part.remote ≢ 0
    → IsOpenAt (change_row l (option_and_then (with_stream_part (with_flow flow stream.part))) rows) l stream
open_part rows l stream flow is known = record {
  row = with_part (with_flow flow stream.part) stream;
  is = changed_here l (with_stream_part (with_flow flow stream.part)) rows stream is;
  link = refl;
  remote = refl;
  known = known;
}

-- ---- the up rule
-- writes that are not too long
abbrev AreShort : List (List ℕ) → Type 0
AreShort [] = Unit {0}
AreShort (payload ∷ payloads) = (length payload ≤ MAX_PAYLOAD) × AreShort payloads

writes_short : (k maxdata credit : ℕ) (held : List ℕ) → maxdata ≤ MAX_PAYLOAD → AreShort (writes k maxdata credit held)
writes_short zero maxdata credit held small = tt
writes_short (suc k) maxdata credit held small =
    let n : ℕ = write_len maxdata credit held in
    go n (omega arith) (writes k maxdata (credit - n) (drop n held)) (writes_short k maxdata (credit - n) (drop n held) small)
  where
    go : (n : ℕ) → n ≤ maxdata → (others : List (List ℕ)) → AreShort others → AreShort (write_before n held others)
    go zero within others short = tt
    go (suc n) within others short = (omega (arith, length-take (suc n) held, within, small), short)

payloads_short : (flow : Flow) (maxdata : ℕ) (held : List ℕ) → maxdata ≤ MAX_PAYLOAD → AreShort (payloads flow maxdata held)
payloads_short (One window) maxdata held small = go window.outstanding
  where
    go : (b : Bool) → AreShort (cond b [] (writes 1 maxdata maxdata held))
    go true = tt
    go false = writes_short 1 maxdata maxdata held small
payloads_short (Credit credit) maxdata held small = writes_short (length held) maxdata credit.to_send held small

go_up_goes : (l : ℕ) (stream : Stream) (payloads : List (List ℕ)) (s : State) → AreShort payloads → IsOpenAt s.streams l stream
    → Goes s.streams s.drawn (all_go_up l stream payloads s)
go_up_goes l stream [] s short at = goes_quiet s
go_up_goes l stream (payload ∷ payloads) s short at =
    goes_then s.streams s.drawn (goes_up l stream payload s) (all_go_up l stream payloads)
    (goes_owe_link l stream (write_packet l stream.part.remote payload) s at (record { from = refl; to = refl; of = tt; size = short.0 }))
    (go_up_goes l stream payloads (goes_up l stream payload s).state short.1 at)

goes_closes_if : (over : Bool) (l : ℕ) (o : Option Stream) (s : State) → s.streams l ≡ o
    → ((stream : Stream) → s.streams l ≡ Some stream → stream.part.remote ≢ 0) → Goes s.streams s.drawn (closes_if over l o s)
goes_closes_if over l None s is known = goes_quiet s
goes_closes_if false l (Some stream) s is known = goes_quiet s
goes_closes_if true l (Some stream) s is known = goes_ends_telling l ClientClosed stream s is (known stream is)

goes_sends_up : (l : ℕ) (stream : Stream) (client : Client) (payloads : List (List ℕ)) (s : State) → s.streams l ≡ Some stream
    → (stream.part.remote ≢ 0) × AreShort payloads → Goes s.streams s.drawn (sends_up l stream client payloads s)
goes_sends_up l stream client payloads s is known =
    let flow : Flow = flow_after payloads stream.part.flow in
    let now : State = noted l stream client.held payloads s in
    let sent : Made = all_go_up l stream payloads now in
    let over : Bool = is_over client.about.ended (drop (total payloads) client.held) flow in
    let at : IsOpenAt now.streams l stream = open_part s.streams l stream flow is known.0 in
    let up : Goes now.streams now.drawn sent = go_up_goes l stream payloads now known.1 at in
    let rows : GoOn s.streams now.streams =
    go_on_part s.streams l stream (with_flow flow stream.part) is (refl, (like_after payloads stream.part.flow).credit) in
    let first : Goes s.streams s.drawn (quietly now) = record { rows = rows; drawn_is = refl; told = All-nil (IsFrom s.streams) } in
    goes_then s.streams s.drawn sent (λ s. closes_if over l (s.streams l) s)
    (goes_then s.streams s.drawn (quietly now) (λ _. sent) first up)
    (goes_closes_if over l (sent.state.streams l) sent.state refl (λ x there. still x there at up))
  where
    still : (x : Stream) → (all_go_up l stream payloads (noted l stream client.held payloads s)).state.streams l ≡ Some x
        → IsOpenAt (noted l stream client.held payloads s).streams l stream
        → Goes (noted l stream client.held payloads s).streams (noted l stream client.held payloads s).drawn
        (all_go_up l stream payloads (noted l stream client.held payloads s)) → x.part.remote ≢ 0
    still x there at up none =
        let was = up.rows l x there in
        let same : at.row ≡ was.stream = (let both : Some at.row ≡ Some was.stream = sym at.is ∙ was.is in cc) in
        at.known (sym at.remote ∙ (ap (λ (y : Stream). y.part.remote) same ∙ (sym was.same.remote ∙ none)))

-- what the up rule finds: clients and streams keep each other, and no device takes more than a packet has
pub record CanRise (s : State) : Type 0 where
  pub owned : IsOwned s
  pub came : ℕ
  pub plugged : ℕ
  pub within : AreWithin came plugged s.streams
  pub small : (t : ℕ) → maxdata_of t s.devices ≤ MAX_PAYLOAD

abbrev AllSmall : DeviceTable → Type 0
AllSmall devices = (t : ℕ) → maxdata_of t devices ≤ MAX_PAYLOAD

goes_up_client : (l : ℕ) (stream : Stream) (o : Option Client) (s : State) → IsOwned s × AllSmall s.devices → s.streams l ≡ Some stream
    → s.clients stream.client ≡ o → Goes s.streams s.drawn (up_client l stream o s)
goes_up_client l stream None s h is here = goes_quiet s
goes_up_client l stream (Some client) s h is here =
    let maxdata : ℕ = maxdata_of stream.link s.devices in
    let sent : List (List ℕ) = payloads stream.part.flow maxdata client.held in
    goes_if s.streams s.drawn (is_streaming l client.about.phase) (sends_up l stream client sent s) (quietly s)
    (λ e. goes_sends_up l stream client sent s is (
      open_known s h.0 stream.client l client stream here (streaming_is l client.about.phase e) is,
      payloads_short stream.part.flow maxdata client.held (h.1 stream.link),
    ))
    (λ e. goes_quiet s)

goes_up_stream : (l : ℕ) (o : Option Stream) (s : State) → IsOwned s × AllSmall s.devices → s.streams l ≡ o
    → Goes s.streams s.drawn (up_stream l o s)
goes_up_stream l None s h is = goes_quiet s
goes_up_stream l (Some stream) s h is = goes_up_client l stream (s.clients stream.client) s h is refl

pub goes_up_all : (n : ℕ) (s : State) → CanRise s → Goes s.streams s.drawn (up_all n s)
goes_up_all zero s h = goes_quiet s
goes_up_all (suc n) s h =
    let before : Made = up_all n s in
    let same : before.state.devices ≡ s.devices = (keeps_up_all h.came h.plugged n s h.within).devices in
    goes_then s.streams s.drawn before (up (suc n)) (goes_up_all n s h)
    (goes_up_stream (suc n) (before.state.streams (suc n)) before.state
    (up_all_kept (serves owned_moves) s [] h.owned n, subst AllSmall (sym same) h.small) refl)

-- ---- put
goes_tells_credit : (back l : ℕ) (stream : Stream) (s : State) → IsOpenAt s.streams l stream
    → Goes s.streams s.drawn (tells_credit back l stream s)
goes_tells_credit zero l stream s at = goes_quiet s
goes_tells_credit (suc n) l stream s at =
    goes_owe_link l stream (credit_packet l stream.part.remote (suc n)) s at
    (record { from = refl; to = refl; of = tt; size = omega arith })

goes_tells_handed : (flow : Flow) (left l : ℕ) (stream : Stream) (s : State) → IsOpenAt s.streams l stream
    → Goes s.streams s.drawn (tells_handed flow left l stream s)
goes_tells_handed (One window) zero l stream s at =
    goes_owe_link l stream (okay_packet l stream.part.remote) s at (record { from = refl; to = refl; of = tt; size = omega arith })
goes_tells_handed (One window) (suc left) l stream s at = goes_quiet s
goes_tells_handed (Credit credit) left l stream s at = goes_tells_credit (credit_back left credit) l stream s at

credit_handed : (left : ℕ) (flow : Flow) → has_credit (handed_to left flow) ≡ has_credit flow
credit_handed left (One window) = refl
credit_handed left (Credit credit) = refl

goes_stream_hands : (left l : ℕ) (stream : Stream) (s : State) → s.streams l ≡ Some stream → stream.part.remote ≢ 0
    → Goes s.streams s.drawn (stream_hands left l stream s)
goes_stream_hands left l stream s is known =
    let part : Part = with_flow (handed_to left stream.part.flow) stream.part in
    let now : State = to_stream l (with_stream_part part) s in
    let told : Made = tells_handed stream.part.flow left l stream now in
    let first : Goes s.streams s.drawn (quietly now) = record {
      rows = go_on_part s.streams l stream part is (refl, credit_handed left stream.part.flow);
      drawn_is = refl;
      told = All-nil (IsFrom s.streams);
    } in
    goes_if s.streams s.drawn (nat_eq left (to_hand stream.part.flow)) (quietly s) told (λ e. goes_quiet s)
    (λ e. goes_then s.streams s.drawn (quietly now) (λ _. told) first
    (goes_tells_handed stream.part.flow left l stream now (open_part s.streams l stream (handed_to left stream.part.flow) is known)))

goes_stream_left : (due l : ℕ) (o : Option Stream) (s : State) → s.streams l ≡ o
    → ((stream : Stream) → s.streams l ≡ Some stream → stream.part.remote ≢ 0) → Goes s.streams s.drawn (stream_left due l o s)
goes_stream_left due l None s is known = goes_quiet s
goes_stream_left due l (Some stream) s is known = goes_stream_hands (min (to_hand stream.part.flow) due) l stream s is (known stream is)

goes_client_left : (phase : Phase) (due : ℕ) (s : State)
    → ((l : ℕ) (stream : Stream) → phase ≡ Streaming l → s.streams l ≡ Some stream → stream.part.remote ≢ 0)
    → Goes s.streams s.drawn (client_left phase due s)
goes_client_left (Streaming l) due s known = goes_stream_left due l (s.streams l) s refl (λ stream is. known l stream refl is)
goes_client_left _ due s known = goes_quiet s

goes_takes_of : (c n : ℕ) (o : Option Client) (s : State) → IsOwned s → s.clients c ≡ o → Goes s.streams s.drawn (takes_of c n o s)
goes_takes_of c n None s h is = goes_quiet s
goes_takes_of c n (Some client) s h is =
    goes_client_left client.about.phase (length (drop n client.due)) (to_client c (hands n) s)
    (λ l stream in_ at_l. open_known s h c l client stream is in_ at_l)

owned_lists : (c : ℕ) (due : List ℕ) (client : Client) (s : State) → IsOwned s → IsOwned (lists_first c due client s).state
owned_lists c [] client s h =
    owned_moves.due c (offered s.devices client) (to_client c unmarked s) [] (owned_moves.unmarks c s [] h)
owned_lists c (b ∷ due) client s h = h

goes_lists_first : (c : ℕ) (due : List ℕ) (client : Client) (s : State) → Goes s.streams s.drawn (lists_first c due client s)
goes_lists_first c [] client s = goes_owe_client c (offered s.devices client) (to_client c unmarked s)
goes_lists_first c (b ∷ due) client s = goes_quiet s

pub goes_puts : (c n : ℕ) (o : Option Client) (s : State) → IsOwned s → Goes s.streams s.drawn (puts_to o c n s)
goes_puts c n None s h = goes_quiet s
goes_puts c n (Some client) s h =
    let listed : Made = lists_first c client.due client s in
    goes_then s.streams s.drawn listed (λ s. takes_of c n (s.clients c) s) (goes_lists_first c client.due client s)
    (goes_takes_of c n (listed.state.clients c) listed.state (owned_lists c client.due client s h) refl)

-- ---- client end
goes_fails_open : (l : ℕ) (cause : Cause) (stream : Stream) (s : State) → s.streams l ≡ Some stream → stream.part.remote ≢ 0
    → Goes s.streams s.drawn (stream_fails (Streaming l) cause (Some stream) s)
goes_fails_open l cause stream s is known =
    let p : Packet = close_packet l stream.part.remote in
    let told : Made = owe_link stream.link p (to_stream l none_kept s) in
    goes_then s.streams s.drawn told (λ s. record { state = s; told = ended l (ClientFailed cause) ∷ [] })
    (record {
      rows = go_on_gone s.streams l;
      drawn_is = refl;
      told = one_from s.streams (due_to_link stream.link p _) (
        of_row s.streams l stream p
            (record { row = stream; is = is; link = refl; remote = refl; known = known })
            (record { from = refl; to = refl; of = tt; size = omega arith }),
        record { size = omega arith; word = check_short (wants_sums (s.links stream.link)) p },
      );
    })
    (record { rows = go_on_same told.state.streams; drawn_is = refl; told = one_from told.state.streams (ended l (ClientFailed cause)) tt })

goes_fails_asked : (l : ℕ) (cause : Cause) (stream : Stream) (s : State) → s.streams l ≡ Some stream
    → Goes s.streams s.drawn (stream_fails (Opening l) cause (Some stream) s)
goes_fails_asked l cause stream s is = record {
  rows = go_on_part s.streams l stream (orphaned stream.part) is (refl, refl);
  drawn_is = refl;
  told = one_from s.streams (ended l (ClientFailed cause)) tt;
}

goes_stream_fails : (phase : Phase) (cause : Cause) (o : Option Stream) (s : State) → stream_of phase s.streams ≡ o
    → ((l : ℕ) (stream : Stream) → phase ≡ Streaming l → s.streams l ≡ Some stream → stream.part.remote ≢ 0)
    → Goes s.streams s.drawn (stream_fails phase cause o s)
goes_stream_fails (Streaming l) cause (Some stream) s is known = goes_fails_open l cause stream s is (known l stream refl is)
goes_stream_fails (Opening l) cause (Some stream) s is known = goes_fails_asked l cause stream s is
goes_stream_fails _ cause _ s is known = goes_quiet s

goes_client_fails : (c : ℕ) (cause : Cause) (client : Client) (s : State) → IsOwned s → s.clients c ≡ Some client
    → Goes s.streams s.drawn (client_fails c cause client s)
goes_client_fails c cause client s h is =
    goes_stream_fails client.about.phase cause (stream_of client.about.phase s.streams) (to_client c none_kept s) refl
    (λ l stream in_ at_l. open_known s h c l client stream is in_ at_l)

goes_input_ends : (phase : Phase) (c : ℕ) (s : State) → Goes s.streams s.drawn (quietly (input_ends phase c s))
goes_input_ends Closing c s = goes_quiet s
goes_input_ends Gone c s = goes_quiet s
goes_input_ends _ c s = record { rows = go_on_same s.streams; drawn_is = refl; told = All-nil (IsFrom s.streams) }

pub goes_client_ends : (c : ℕ) (cause : Cause) (o : Option Client) (s : State) → IsOwned s → s.clients c ≡ o
    → Goes s.streams s.drawn (client_ends c cause o s)
goes_client_ends c cause None s h is = goes_quiet s
goes_client_ends c Eof (Some client) s h is = goes_input_ends client.about.phase c s
goes_client_ends c Fault (Some client) s h is = goes_client_fails c Fault client s h is
goes_client_ends c Starved (Some client) s h is = goes_client_fails c Starved client s h is
goes_client_ends c NoThread (Some client) s h is = goes_client_fails c NoThread client s h is

-- ---- bound, and detach
goes_bound_for : (want : Option Want) (c port : ℕ) (s : State) → Goes s.streams s.drawn (bound_for want c port s)
goes_bound_for None c port s = goes_quiet s
goes_bound_for (Some want) c port s = record {
  rows = go_on_same s.streams;
  drawn_is = refl;
  told = one_from s.streams (due_to_client c (bound_by want port s.devices s.forwards).reply) tt;
}

goes_bound_in : (phase : Phase) (want : Option Want) (c port : ℕ) (s : State) → Goes s.streams s.drawn (bound_in phase want c port s)
goes_bound_in Binding want c port s = goes_bound_for want c port s
goes_bound_in _ want c port s = goes_quiet s

pub goes_bound : (o : Option Client) (c port : ℕ) (s : State) → Goes s.streams s.drawn (bound_at o c port s)
goes_bound None c port s = goes_quiet s
goes_bound (Some client) c port s = goes_bound_in client.about.phase client.about.want c port s

pub goes_unplugs : (o : Option Link) (t : ℕ) (s : State) → Goes s.streams s.drawn (unplugs_on o t s)
goes_unplugs None t s = goes_quiet s
goes_unplugs (Some link) t s = goes_link_ends t Lost s

pub goes_faulty : (o : Option Link) (t : ℕ) (fault : Option PacketFault) (s : State) → Goes s.streams s.drawn (faulty_on o t fault s)
goes_faulty None t fault s = goes_quiet s
goes_faulty (Some link) t None s = goes_quiet s
goes_faulty (Some link) t (Some fault) s = goes_link_ends t Broken s
