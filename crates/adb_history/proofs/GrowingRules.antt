-- The rules that bring no client or link, and leave the tables: how clients close, streams begin and end, and what they hold goes up.
use Rattle.std.proofs.Common.{ℕ, ◌+◌, ◌≡◌, ◌≢◌, ◌≤◌, Bool, true, false, cond, List, [], ◌∷◌, drop, Option, Some, None, refl, sym, ◌∙◌}
use Rattle.std.proofs.Common.{subst, zero}
use Rattle.std.proofs.Common.{suc, eqb, codes}
use Rattle.std.proofs.lemmas.List.{append-nil}
use Rattle.std.specs.Prelude.{◌==◌}
use Rattle.adb_outside.specs.declared.kinds.Cause.{Cause}
use Rattle.adb_outside.specs.declared.kinds.Cause.TheVariants.{Eof, Fault, Starved, NoThread}
use Rattle.adb_stream.specs.declared.row.Stream.{Stream}
use Rattle.adb_stream.specs.Flow.{new_flow}
use Rattle.adb_stream.specs.Stream.{new_stream}
use Rattle.adb_client.specs.declared.phase.Phase.{Phase}
use Rattle.adb_client.specs.declared.phase.Phase.TheVariants.{Asking, Opening, Streaming, Binding, Closing, Gone}
use Rattle.adb_reply.specs.Strings.{failed}
use Rattle.adb_history.specs.Rows.{Client, State, to_client, to_stream, none_kept, with_held, in_phase, with_stream_part}
use Rattle.adb_history.specs.Events.{ended, quietly}
use Rattle.adb_history.specs.declared.ending.Ending.{Ending}
use Rattle.adb_history.specs.declared.ending.Ending.TheVariants.{ClientClosed, ClientFailed}
use Rattle.adb_history.specs.Links.{open_packet, close_packet, write_packet, owe_link, is_credit, maxdata_of}
use Rattle.adb_history.specs.Clients.{owe_client, closing_with, closing, closes, closes_with}
use Rattle.adb_history.specs.Streams.{stream_ids, draw, asks_for, no_ids_left, opens, loses, client_loses, tells_end, ends_row}
use Rattle.adb_history.specs.Streams.{ends_telling}
use Rattle.adb_history.specs.Streams.{ends_if_of, ends_of, all_end}
use Rattle.adb_history.specs.Flow.{payloads, total, with_flow, goes_up, all_go_up, flow_after, noted, is_over, closes_if, sends_up}
use Rattle.adb_history.specs.Flow.{is_streaming}
use Rattle.adb_history.specs.Flow.{up_client, up_stream, up, up_all}
use Rattle.adb_history.specs.Losing.{orphaned, stream_fails, stream_of, client_fails, input_ended, input_ends, client_ends}
use Rattle.adb_history.proofs.Growing.{RowStep, row_same, ClientStays, client_same, LinkStays, link_same, IsWithin, AreWithin}
use Rattle.adb_history.proofs.Growing.{Keeps, keeps_all, keeps_then, keeps_over, keeps_to_client, keeps_owe_client, keeps_owe_link}
use Rattle.adb_history.proofs.Growing.{keeps_part}
use Rattle.adb_history.proofs.Growing.{keeps_no_stream, keeps_told_end}

-- a client that neither asks nor waits for a listener afterwards
pub stays_other : (a b : Client) → b.due ≡ a.due → b.about.phase ≢ Asking → b.about.phase ≢ Binding → ClientStays a b []
stays_other a b due asks binds =
    record { due = due ∙ sym (append-nil a.due); asks = λ e. absurd (asks e); binds = λ e. absurd (binds e) }

pub stays_closing : (due : List ℕ) (a : Client) → a.due ≡ due → RowStep ClientStays (Some a) (closing_with due a) []
stays_closing [] a e = tt
stays_closing (b ∷ due) a e =
    stays_other a
    (record { about = record a.about { phase = Closing; mark = false; want = None }; held = []; due = b ∷ due })
    (sym e) (λ e. cc) (λ e. cc)

module _ (came plugged : ℕ) where
  -- ---- clients
  pub keeps_closes : (c : ℕ) (s : State) → Keeps came plugged s (quietly (closes c s))
  keeps_closes c s = keeps_to_client came plugged c closing s (λ a e. stays_closing a.due a refl)

  pub keeps_closes_with : (c : ℕ) (bytes : List ℕ) (s : State) → c ≤ came → Keeps came plugged s (closes_with c bytes s)
  keeps_closes_with c bytes s le =
      keeps_then came plugged s (owe_client c bytes s) (λ s. quietly (closes c s)) (keeps_owe_client came plugged c bytes s le)
      (keeps_closes c (owe_client c bytes s).state)

  pub keeps_gone : (c : ℕ) (s : State) → Keeps came plugged s (quietly (to_client c none_kept s))
  keeps_gone c s = keeps_to_client came plugged c none_kept s (λ a e. tt)

  -- a client that goes on to a phase of its stream
  pub keeps_phase : (phase : Phase) (c : ℕ) (s : State) → phase ≢ Asking → phase ≢ Binding
      → Keeps came plugged s (quietly (to_client c (in_phase phase) s))
  keeps_phase phase c s asks binds =
      keeps_to_client came plugged c (in_phase phase) s
      (λ a e. stays_other a (record a { about = record a.about { phase = phase } }) refl asks binds)

  -- what a client holds changes that does not ask
  pub keeps_held : (held : List ℕ) (c : ℕ) (s : State)
      → ((a : Client) → s.clients c ≡ Some a → (a.about.phase ≢ Asking) × (a.about.phase ≢ Binding))
      → Keeps came plugged s (quietly (to_client c (with_held held) s))
  keeps_held held c s at =
      keeps_to_client came plugged c (with_held held) s
      (λ a e. let phase = at a e in stays_other a (record a { held = held }) refl phase.0 phase.1)

  -- ---- streams begin
  keeps_draw : (credit : Bool) (c t : ℕ) (s : State) → c ≤ came → t ≤ plugged → Keeps came plugged s (quietly (draw credit c t s))
  keeps_draw credit c t s below_c below_t = record {
    clients = λ c. row_same ClientStays client_same (s.clients c);
    links = λ t. row_same LinkStays link_same (s.links t);
    told = record { clients = λ c lt. refl; links = λ t lt. refl };
    streams = λ within l. go (eqb (s.drawn + 1) l) (s.streams l) (within l);
    joined = refl;
    devices = refl;
    forwards = refl;
    stopped = refl;
    linked = λ t. refl;
  }
    where
      go : (here : Bool) (o : Option Stream) → IsWithin came plugged o
          → IsWithin came plugged (cond here (Some (new_stream (s.drawn + 1) c t (new_flow credit))) o)
      go true o h = (below_c, below_t)
      go false o h = h

  keeps_asks_for : (l c t : ℕ) (service : List ℕ) (s : State) → c ≤ came → t ≤ plugged → Keeps came plugged s (asks_for l c t service s)
  keeps_asks_for l c t service s below_c below_t =
      let credit = is_credit t s.devices in
      let drawn = draw credit c t s in
      let waiting = to_client c (in_phase (Opening l)) drawn in
      keeps_over came plugged s drawn (owe_link t (open_packet credit l service) waiting) (keeps_draw credit c t s below_c below_t)
      (keeps_over came plugged drawn waiting (owe_link t (open_packet credit l service) waiting)
      (keeps_phase (Opening l) c drawn (λ e. cc) (λ e. cc))
      (keeps_owe_link came plugged t (open_packet credit l service) waiting below_t))

  keeps_no_ids_left : (forwarded : Bool) (c : ℕ) (s : State) → c ≤ came → Keeps came plugged s (no_ids_left forwarded c s)
  keeps_no_ids_left true c s le = keeps_gone c s
  keeps_no_ids_left false c s le = keeps_closes_with c (failed (codes "no stream ids left")).bytes s le

  pub keeps_opens : (forwarded : Bool) (c t : ℕ) (service : List ℕ) (s : State) → c ≤ came → t ≤ plugged
      → Keeps came plugged s (opens forwarded c t service s)
  keeps_opens forwarded c t service s below_c below_t = go (s.drawn == stream_ids)
    where
      go : (none : Bool) → Keeps came plugged s (cond none (no_ids_left forwarded c s) (asks_for (s.drawn + 1) c t service s))
      go true = keeps_no_ids_left forwarded c s below_c
      go false = keeps_asks_for (s.drawn + 1) c t service s below_c below_t

  -- ---- streams end
  keeps_loses : (forwarded : Bool) (phase : Phase) (c : ℕ) (s : State) → c ≤ came → Keeps came plugged s (loses forwarded phase c s)
  keeps_loses forwarded (Streaming l) c s le = keeps_closes c s
  keeps_loses true (Opening l) c s le = keeps_closes c s
  keeps_loses false (Opening l) c s le = keeps_closes_with c (failed (codes "closed")).bytes s le
  keeps_loses forwarded _ c s le = keeps_all came plugged s

  keeps_client_loses : (o : Option Client) (c : ℕ) (s : State) → c ≤ came → Keeps came plugged s (client_loses o c s)
  keeps_client_loses None c s le = keeps_all came plugged s
  keeps_client_loses (Some client) c s le = keeps_loses client.about.forwarded client.about.phase c s le

  keeps_tells_end : (orphan : Bool) (l : ℕ) (ending : Ending) (s : State) → Keeps came plugged s (tells_end orphan l ending s)
  keeps_tells_end true l ending s = keeps_all came plugged s
  keeps_tells_end false l ending s = keeps_told_end came plugged l ending s

  pub keeps_ends_row : (l : ℕ) (ending : Ending) (stream : Stream) (s : State) → stream.client ≤ came
      → Keeps came plugged s (ends_row l ending stream s)
  keeps_ends_row l ending stream s le =
      let gone = to_stream l none_kept s in
      let tells = tells_end stream.part.orphan l ending gone in
      keeps_then came plugged s tells (λ s. client_loses (s.clients stream.client) stream.client s)
      (keeps_over came plugged s gone tells (keeps_no_stream came plugged l s) (keeps_tells_end stream.part.orphan l ending gone))
      (keeps_client_loses (tells.state.clients stream.client) stream.client tells.state le)

  pub keeps_ends_telling : (l : ℕ) (ending : Ending) (stream : Stream) (s : State) → IsWithin came plugged (Some stream)
      → Keeps came plugged s (ends_telling l ending stream s)
  keeps_ends_telling l ending stream s within =
      let told = owe_link stream.link (close_packet l stream.part.remote) s in
      keeps_then came plugged s told (ends_row l ending stream)
      (keeps_owe_link came plugged stream.link (close_packet l stream.part.remote) s within.1)
      (keeps_ends_row l ending stream told.state within.0)

  keeps_ends_if_of : (t l : ℕ) (ending : Ending) (o : Option Stream) (s : State) → IsWithin came plugged o
      → Keeps came plugged s (ends_if_of t l ending o s)
  keeps_ends_if_of t l ending None s within = keeps_all came plugged s
  keeps_ends_if_of t l ending (Some stream) s within = go (eqb stream.link t)
    where
      go : (here : Bool) → Keeps came plugged s (cond here (ends_row l ending stream s) (quietly s))
      go true = keeps_ends_row l ending stream s within.0
      go false = keeps_all came plugged s

  pub keeps_ends_of : (t k : ℕ) (ending : Ending) (s : State) → AreWithin came plugged s.streams
      → Keeps came plugged s (ends_of t k ending s)
  keeps_ends_of t zero ending s within = keeps_all came plugged s
  keeps_ends_of t (suc k) ending s within =
      let before = keeps_ends_of t k ending s within in
      let m = ends_of t k ending s in
      keeps_then came plugged s m (λ s. ends_if_of t (suc k) ending (s.streams (suc k)) s) before
      (keeps_ends_if_of t (suc k) ending (m.state.streams (suc k)) m.state (before.streams within (suc k)))

  pub keeps_all_end : (t : ℕ) (ending : Ending) (s : State) → AreWithin came plugged s.streams → Keeps came plugged s (all_end t ending s)
  keeps_all_end t ending s within = keeps_ends_of t s.drawn ending s within

  -- ---- the up rule
  keeps_all_go_up : (l : ℕ) (stream : Stream) (payloads : List (List ℕ)) (s : State) → stream.link ≤ plugged
      → Keeps came plugged s (all_go_up l stream payloads s)
  keeps_all_go_up l stream [] s le = keeps_all came plugged s
  keeps_all_go_up l stream (payload ∷ payloads) s le =
      keeps_then came plugged s (goes_up l stream payload s) (all_go_up l stream payloads)
      (keeps_owe_link came plugged stream.link (write_packet l stream.part.remote payload) s le)
      (keeps_all_go_up l stream payloads (goes_up l stream payload s).state le)

  keeps_noted : (l : ℕ) (stream : Stream) (held : List ℕ) (payloads : List (List ℕ)) (s : State)
      → ((a : Client) → s.clients stream.client ≡ Some a → (a.about.phase ≢ Asking) × (a.about.phase ≢ Binding))
      → Keeps came plugged s (quietly (noted l stream held payloads s))
  keeps_noted l stream held payloads s at =
      let part = with_flow (flow_after payloads stream.part.flow) stream.part in
      keeps_over came plugged s (to_stream l (with_stream_part part) s) (quietly (noted l stream held payloads s))
      (keeps_part came plugged l part s)
      (keeps_held (drop (total payloads) held) stream.client (to_stream l (with_stream_part part) s) at)

  keeps_closes_if : (over : Bool) (l : ℕ) (o : Option Stream) (s : State) → IsWithin came plugged o
      → Keeps came plugged s (closes_if over l o s)
  keeps_closes_if over l None s within = keeps_all came plugged s
  keeps_closes_if false l (Some stream) s within = keeps_all came plugged s
  keeps_closes_if true l (Some stream) s within = keeps_ends_telling l ClientClosed stream s within

  keeps_sends_up : (l : ℕ) (stream : Stream) (client : Client) (payloads : List (List ℕ)) (s : State) → IsWithin came plugged (Some stream)
      → ((a : Client) → s.clients stream.client ≡ Some a → (a.about.phase ≢ Asking) × (a.about.phase ≢ Binding))
      → AreWithin came plugged s.streams → Keeps came plugged s (sends_up l stream client payloads s)
  keeps_sends_up l stream client payloads s within at all =
      let next = noted l stream client.held payloads s in
      let m = all_go_up l stream payloads next in
      let over = is_over client.about.ended (drop (total payloads) client.held) (flow_after payloads stream.part.flow) in
      let first : Keeps came plugged s m = keeps_over came plugged s next m (keeps_noted l stream client.held payloads s at)
      (keeps_all_go_up l stream payloads next within.1) in
      keeps_then came plugged s m (λ s. closes_if over l (s.streams l) s) first
      (keeps_closes_if over l (m.state.streams l) m.state (first.streams all l))

  streaming_only : (l : ℕ) (phase : Phase) → is_streaming l phase ≡ true → (phase ≢ Asking) × (phase ≢ Binding)
  streaming_only l (Streaming k) e = (λ e. cc, λ e. cc)
  streaming_only l _ e = let clash : false ≡ true = e in cc

  pub same_client : (o : Option Client) (a b : Client) → o ≡ Some a → o ≡ Some b → a ≡ b
  same_client o a b e f = let same : Some a ≡ Some b = sym e ∙ f in cc

  keeps_up_client : (l : ℕ) (stream : Stream) (o : Option Client) (s : State) → s.clients stream.client ≡ o
      → IsWithin came plugged (Some stream)
      → AreWithin came plugged s.streams → Keeps came plugged s (up_client l stream o s)
  keeps_up_client l stream None s is within all = keeps_all came plugged s
  keeps_up_client l stream (Some client) s is within all = go (is_streaming l client.about.phase) refl
    where
      sending : List (List ℕ)
      sending = payloads stream.part.flow (maxdata_of stream.link s.devices) client.held

      go : (here : Bool) → is_streaming l client.about.phase ≡ here
          → Keeps came plugged s (cond here (sends_up l stream client sending s) (quietly s))
      go true e = keeps_sends_up l stream client sending s within
          (λ a f. subst (λ (x : Client). (x.about.phase ≢ Asking) × (x.about.phase ≢ Binding))
          (same_client (s.clients stream.client) client a is f)
          (streaming_only l client.about.phase e)) all
      go false e = keeps_all came plugged s

  keeps_up_stream : (l : ℕ) (o : Option Stream) (s : State) → IsWithin came plugged o → AreWithin came plugged s.streams
      → Keeps came plugged s (up_stream l o s)
  keeps_up_stream l None s within all = keeps_all came plugged s
  keeps_up_stream l (Some stream) s within all = keeps_up_client l stream (s.clients stream.client) s refl within all

  pub keeps_up_all : (k : ℕ) (s : State) → AreWithin came plugged s.streams → Keeps came plugged s (up_all k s)
  keeps_up_all zero s all = keeps_all came plugged s
  keeps_up_all (suc k) s all =
      let before = keeps_up_all k s all in
      let m = up_all k s in
      keeps_then came plugged s m (up (suc k)) before
      (keeps_up_stream (suc k) (m.state.streams (suc k)) m.state (before.streams all (suc k)) (before.streams all))

  -- ---- client end
  keeps_stream_fails : (phase : Phase) (cause : Cause) (o : Option Stream) (s : State) → IsWithin came plugged o
      → Keeps came plugged s (stream_fails phase cause o s)
  keeps_stream_fails (Streaming l) cause (Some stream) s within =
      let gone = to_stream l none_kept s in
      let m = owe_link stream.link (close_packet l stream.part.remote) gone in
      keeps_then came plugged s m (λ s. record { state = s; told = ended l (ClientFailed cause) ∷ [] })
      (keeps_over came plugged s gone m (keeps_no_stream came plugged l s)
      (keeps_owe_link came plugged stream.link (close_packet l stream.part.remote) gone within.1))
      (keeps_told_end came plugged l (ClientFailed cause) m.state)
  keeps_stream_fails (Opening l) cause (Some stream) s within =
      let left = to_stream l (with_stream_part (orphaned stream.part)) s in
      keeps_over came plugged s left (record { state = left; told = ended l (ClientFailed cause) ∷ [] })
      (keeps_part came plugged l (orphaned stream.part) s) (keeps_told_end came plugged l (ClientFailed cause) left)
  keeps_stream_fails _ cause _ s within = keeps_all came plugged s

  within_stream_of : (phase : Phase) (streams : ℕ → Option Stream) → AreWithin came plugged streams
      → IsWithin came plugged (stream_of phase streams)
  within_stream_of (Streaming l) streams all = all l
  within_stream_of (Opening l) streams all = all l
  within_stream_of _ streams all = tt

  keeps_client_fails : (c : ℕ) (cause : Cause) (client : Client) (s : State) → AreWithin came plugged s.streams
      → Keeps came plugged s (client_fails c cause client s)
  keeps_client_fails c cause client s all =
      let gone = to_client c none_kept s in
      let stream = stream_of client.about.phase s.streams in
      keeps_over came plugged s gone (stream_fails client.about.phase cause stream gone) (keeps_gone c s)
      (keeps_stream_fails client.about.phase cause stream gone (within_stream_of client.about.phase s.streams all))

  keeps_input_ended : (c : ℕ) (s : State) → Keeps came plugged s (quietly (to_client c input_ended s))
  keeps_input_ended c s = keeps_to_client came plugged c input_ended s
      (λ a e. record {
        due = sym (append-nil a.due);
        asks = λ e. record { phase = e; held = refl; selected = refl };
        binds = λ e. record { phase = e; want = refl };
      })

  keeps_input_ends : (phase : Phase) (c : ℕ) (s : State) → Keeps came plugged s (quietly (input_ends phase c s))
  keeps_input_ends (Opening l) c s = keeps_input_ended c s
  keeps_input_ends (Streaming l) c s = keeps_input_ended c s
  keeps_input_ends Closing c s = keeps_all came plugged s
  keeps_input_ends Gone c s = keeps_all came plugged s
  keeps_input_ends _ c s = keeps_closes c s

  pub keeps_client_ends : (c : ℕ) (cause : Cause) (o : Option Client) (s : State) → AreWithin came plugged s.streams
      → Keeps came plugged s (client_ends c cause o s)
  keeps_client_ends c cause None s all = keeps_all came plugged s
  keeps_client_ends c Eof (Some client) s all = keeps_input_ends client.about.phase c s
  keeps_client_ends c Fault (Some client) s all = keeps_client_fails c Fault client s all
  keeps_client_ends c Starved (Some client) s all = keeps_client_fails c Starved client s all
  keeps_client_ends c NoThread (Some client) s all = keeps_client_fails c NoThread client s all
