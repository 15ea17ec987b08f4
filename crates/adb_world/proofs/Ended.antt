-- The client of a session ends where nothing is on its way: it is gone at once.
use Rattle.std.specs.Prelude.{ℕ, ◌≡◌, ◌≢◌, ◌≤◌, ◌||◌, Bool, true, false, is_some, zero, suc, nat_eq, List, [], ◌∷◌, drop, Option, Some}
use Rattle.std.specs.Prelude.{None}
use Rattle.std.proofs.Common.{refl, sym, ◌∙◌, ap, subst, ◌⊎◌, inl, inr}
use Rattle.std.proofs.lemmas.Bool.{cases_eq, eq-eqb, ne_eqb}
use Rattle.adb_outside.specs.Tables.{at, Puts}
use Rattle.adb_outside.specs.declared.kinds.Cause.TheVariants.{Eof}
use Rattle.adb_stream.specs.Flow.{is_idle}
use Rattle.adb_stream.specs.declared.flow.Flow.{Flow}
use Rattle.adb_stream.specs.declared.row.Stream.{Stream}
use Rattle.adb_client.specs.declared.phase.Phase.{Phase}
use Rattle.adb_client.specs.declared.phase.Phase.TheVariants.{Asking, Opening, Streaming, Binding, Tracking, Closing, Gone}
use Rattle.adb_capture.specs.declared.entry.Entry.TheVariants.{End}
use Rattle.adb_history.specs.Book.{asked}
use Rattle.adb_history.specs.Bytes.{bytes_received, bytes_sent, has_ended}
use Rattle.adb_history.specs.Clients.{closes, closing, closing_with}
use Rattle.adb_history.specs.Flow.{payloads, total, flow_after, is_over, is_streaming, up}
use Rattle.adb_history.specs.Kept.{Kept, IsLawful}
use Rattle.adb_history.specs.Links.{maxdata_of}
use Rattle.adb_history.specs.Losing.{client_ends, input_ended, input_ends}
use Rattle.adb_history.specs.Machine.{History, IsLegal, rule, state}
use Rattle.adb_history.specs.Orderly.{HasStream, HasClient, HasOwner, IsQuiet, IsResting, phase_for}
use Rattle.adb_history.specs.Rows.{Client, State, to_client, to_stream, none_kept, with_held}
use Rattle.adb_history.proofs.Following.{changed_here}
use Rattle.adb_history.proofs.OrderlyStates.{orderly}
use Rattle.adb_history.proofs.Sweep.{Sending, sent, left, over, up_to}
use Rattle.adb_daemon.specs.Daemon.{HasDone}
use Rattle.adb_laws_resting.specs.Resting.{SendsNothingBy, GoesUpAlone, has_open_stream, is_open_phase}
use Rattle.adb_laws_answers.specs.Model.{model_setting}
use Rattle.adb_world.specs.Parts.{Holds, IsKeptAt, most_sessions}
use Rattle.adb_world.specs.Settled.{IsCalm}
use Rattle.adb_world.specs.World.{End as FarEnd}
use Rattle.adb_world.specs.declared.parts.Parts.{Parts}
use Rattle.adb_world.specs.declared.session.Session.{Session}
use Rattle.adb_world.proofs.Counted.{IsThere}
use Rattle.adb_world.proofs.Entries.{comes_first}
use Rattle.adb_world.proofs.Gone.{gone_end, none_stays}
use Rattle.adb_world.proofs.Shows.{clients_show, streams_show}

-- Nothing is due to a client, and nothing is held of it.
pub record HasNothing (client : Client) : Type 0 where
  pub due : client.due ≡ []
  pub held : client.held ≡ []

-- A stream is open, and no write of it waits.
pub record IsIdle (x : Stream) : Type 0 where
  pub opened : x.part.remote ≢ 0
  pub idle : is_idle x.part.flow ≡ true

-- Clients have nothing, and streams are idle.
pub record IsIdleState (s : State) : Type 0 where
  pub clients : (c : ℕ) (client : Client) → s.clients c ≡ Some client → HasNothing client
  pub streams : (l : ℕ) (x : Stream) → s.streams l ≡ Some x → IsIdle x

closed_none : (client row : Client) → client.due ≡ [] → closing_with client.due row ≡ None
closed_none client row none = ap (λ (due : List ℕ). closing_with due row) none

-- the client of a stream that is not open is no client of an open one
asks_none : (l : ℕ) (remote : ℕ) → Opening l ≡ phase_for l remote → remote ≡ 0
asks_none l zero is = refl
asks_none l (suc remote) is = absurd (let clash : Opening l ≡ Streaming l = is in cc)

none_sent : (flow : Flow) (m : ℕ) (held : List ℕ) → payloads flow m held ≡ [] → held ≡ [] → is_idle flow ≡ true
    → is_over true (drop (total (payloads flow m held)) held) (flow_after (payloads flow m held) flow) ≡ true
none_sent flow m held nothing none idle =
    ap (λ (ps : List (List ℕ)). is_over true (drop (total ps) held) (flow_after ps flow)) nothing
    ∙ (ap (λ (x : List ℕ). is_over true x flow) none ∙ idle)

module _ (h : History) (legal : IsLegal h) (c : ℕ) (nothing : SendsNothingBy (state h))
    (alone : GoesUpAlone (state h)) (idle : IsIdleState (state h)) where
  -- ---- a client without an open stream
  closes_now : (client : Client) → (state h).clients c ≡ Some client → (closes c (state h)).clients c ≡ None
  closes_now client is =
      changed_here c closing (state h).clients client is ∙ closed_none client client (idle.clients c client is).due

  by_rule : has_open_stream ((state h).clients c) ≡ false → (rule (End c Eof) (state h)).state.clients c ≡ None
      → (state (End c Eof ∷ h)).clients c ≡ None
  by_rule shut none = ap (λ (s : State). s.clients c) (nothing.ended c Eof shut) ∙ none

  rule_on : (client : Client) (phase : Phase) → (state h).clients c ≡ Some client → client.about.phase ≡ phase
      → (rule (End c Eof) (state h)).state ≡ input_ends phase c (state h)
  rule_on client phase is in_phase =
      ap (λ (o : Option Client). (client_ends c Eof o (state h)).state) is ∙ ap (λ (p : Phase). input_ends p c (state h)) in_phase

  shut : (client : Client) (phase : Phase) → (state h).clients c ≡ Some client → client.about.phase ≡ phase → is_open_phase phase ≡ false
      → has_open_stream ((state h).clients c) ≡ false
  shut client phase is in_phase e = ap has_open_stream is ∙ (ap is_open_phase in_phase ∙ e)

  -- ---- a client with an open stream
  module _ (l : ℕ) (client : Client) (is : (state h).clients c ≡ Some client) (in_phase : client.about.phase ≡ Streaming l)
      (has : HasStream (state h) c l) (quiet : IsQuiet (state h) client has.stream) where
    here : (to_client c input_ended (state h)).clients c ≡ Some (record client { about = record client.about { ended = true } })
    here = changed_here c input_ended (state h).clients client is

    streaming : is_streaming l client.about.phase ≡ true
    streaming = ap (is_streaming l) in_phase ∙ eq-eqb l l refl

    sending : Sending l (to_client c input_ended (state h))
    sending = record {
      stream = has.stream;
      client = record client { about = record client.about { ended = true } };
      there = has.is;
      here = ap (to_client c input_ended (state h)).clients has.client ∙ here;
      streaming = streaming;
    }

    same_stream : (x : Sending l (to_client c input_ended (state h))) → has.stream ≡ x.stream
    same_stream x = let both : Some has.stream ≡ Some x.stream = sym has.is ∙ x.there in cc

    same_row : (x : Sending l (to_client c input_ended (state h)))
        → record client { about = record client.about { ended = true } } ≡ x.client
    same_row x =
        let to : c ≡ x.stream.client = sym has.client ∙ ap (λ (y : Stream). y.client) (same_stream x) in
        let both : Some (record client { about = record client.about { ended = true } }) ≡ Some x.client =
        sym here ∙ (ap (to_client c input_ended (state h)).clients to ∙ x.here) in cc

    abbrev over_of : Stream → Client → Bool
    over_of y k =
        is_over k.about.ended (drop (total (payloads y.part.flow (maxdata_of y.link (state h).devices) k.held)) k.held)
        (flow_after (payloads y.part.flow (maxdata_of y.link (state h).devices) k.held) y.part.flow)

    all_over : (x : Sending l (to_client c input_ended (state h))) → over l (to_client c input_ended (state h)) x ≡ true
    all_over x =
        let same : over_of has.stream (record client { about = record client.about { ended = true } }) ≡ over_of x.stream x.client =
        λ i. over_of (same_stream x i) (same_row x i) in
        sym same
        ∙ none_sent has.stream.part.flow (maxdata_of has.stream.link (state h).devices) client.held quiet.nothing
        (idle.clients c client is).held
        (idle.streams l has.stream has.is).idle

    ended : (x : Sending l (to_client c input_ended (state h)))
        → (closes x.stream.client (to_stream l none_kept (left l (to_client c input_ended (state h)) x))).clients c ≡ None
    ended x =
        let held = drop (total (sent l (to_client c input_ended (state h)) x)) x.client.held in
        let kept : (left l (to_client c input_ended (state h)) x).clients x.stream.client ≡ Some (record x.client { held = held }) =
        changed_here x.stream.client (with_held held) (to_client c input_ended (state h)).clients x.client x.here in
        let none : x.client.due ≡ [] = sym (ap (λ (k : Client). k.due) (same_row x)) ∙ (idle.clients c client is).due in
        let gone : (closes x.stream.client
        (to_stream l none_kept (left l (to_client c input_ended (state h)) x))).clients x.stream.client ≡ None =
        changed_here x.stream.client closing (left l (to_client c input_ended (state h)) x).clients (record x.client { held = held }) kept
        ∙ closed_none x.client (record x.client { held = held }) none in
        let to : x.stream.client ≡ c = sym (ap (λ (y : Stream). y.client) (same_stream x)) ∙ has.client in
        subst (λ (k : ℕ).
        (closes x.stream.client (to_stream l none_kept (left l (to_client c input_ended (state h)) x))).clients
        k ≡ None) to gone

    up_none : (up l (to_client c input_ended (state h))).state.clients c ≡ None
    up_none = up_to (λ (s : State). s.clients c ≡ None) l (to_client c input_ended (state h)) (record {
      stays = λ none. absurd (none sending);
      sends = λ x links e. absurd (let clash : false ≡ true = sym e ∙ all_over x in cc);
      ends = λ x links e. ended x;
    })

    streaming_gone : (state (End c Eof ∷ h)).clients c ≡ None
    streaming_gone =
        ap (λ (s : State). s.clients c) (alone.ended c l (record { client = client; here = is; in_phase = in_phase }))
        ∙ (ap (λ (s : State). (up l s).state.clients c) (rule_on client (Streaming l) is in_phase) ∙ up_none)

  -- ---- every client
  asked_gone : (l : ℕ) → HasStream (state h) c l → (client : Client) → (state h).clients c ≡ Some client
      → client.about.phase ≡ Opening l → ⊥
  asked_gone l has client is in_phase = (idle.streams l has.stream has.is).opened remote
    where
      owner : HasClient (state h) l has.stream
      owner = subst (λ (b : Bool). HasOwner b (state h) l has.stream) has.owned ((orderly h legal).stream l has.stream has.is).owner

      same : client ≡ owner.client
      same = let both : Some client ≡ Some owner.client = sym is ∙ (ap (state h).clients (sym has.client) ∙ owner.is) in cc

      remote : has.stream.part.remote ≡ 0
      remote = asks_none l has.stream.part.remote (sym in_phase ∙ (ap (λ (k : Client). k.about.phase) same ∙ owner.phase))

  -- the input of a client ends that has no open stream
  shuts : (client : Client) → (state h).clients c ≡ Some client → (phase : Phase) → client.about.phase ≡ phase → is_open_phase phase ≡ false
      → input_ends phase c (state h) ≡ closes c (state h) → (state (End c Eof ∷ h)).clients c ≡ None
  shuts client is phase in_phase e closed =
      by_rule (shut client phase is in_phase e)
      (ap (λ (s : State). s.clients c) (rule_on client phase is in_phase ∙ closed) ∙ closes_now client is)

  by_phase : (client : Client) → (state h).clients c ≡ Some client → (phase : Phase) → client.about.phase ≡ phase
      → IsResting phase (state h) c client
      → (state (End c Eof ∷ h)).clients c ≡ None
  by_phase client is Asking in_phase rests = shuts client is Asking in_phase refl refl
  by_phase client is Binding in_phase rests = shuts client is Binding in_phase refl refl
  by_phase client is Tracking in_phase rests = shuts client is Tracking in_phase refl refl
  by_phase client is (Opening l) in_phase rests = absurd (asked_gone l rests client is in_phase)
  by_phase client is (Streaming l) in_phase rests = streaming_gone l client is in_phase rests.0 (rests.1 rests.0.stream rests.0.is)
  by_phase client is Closing in_phase rests = absurd (rests.1 (idle.clients c client is).due)
  by_phase client is Gone in_phase rests = absurd rests

  pub ends_gone : (state (End c Eof ∷ h)).clients c ≡ None
  ends_gone = by_row ((state h).clients c) refl
    where
      by_row : (o : Option Client) → (state h).clients c ≡ o → (state (End c Eof ∷ h)).clients c ≡ None
      by_row None is =
          by_rule (ap has_open_stream is) (ap (λ (o : Option Client). (client_ends c Eof o (state h)).state.clients c) is ∙ is)
      by_row (Some client) is =
          by_phase client is client.about.phase refl ((orderly h legal).client c client is).rests

-- what is calm is idle
pub idle_state : (h : History) (hub : Kept) (owes : List ℕ) (ends : List (ℕ × FarEnd)) → IsLawful hub h
    → IsCalm hub owes ends → IsIdleState (state h)
idle_state h hub owes ends lawful calm = record {
  clients = λ c client is. (
      let shown = clients_show h hub lawful c ∙ is in record { due = calm.clients c client shown; held = calm.up c client shown });
  streams = λ l x is.
      (let rests = calm.streams l x (streams_show h hub lawful l ∙ is)
      in record { opened = rests.opened; idle = rests.answered });
}

pub kept_session : (h : History) (parts : Parts) → Holds h parts → (c : ℕ)
    → is_some (at c parts.sessions.entries) ≡ true → IsThere h parts c
kept_session h parts holds c some = go (at c parts.sessions.entries) refl some (holds.sessions c)
  where
    go : (o : Option Session) → at c parts.sessions.entries ≡ o → is_some o ≡ true → IsKeptAt parts.given h c o → IsThere h parts c
    go None is e k = absurd (let clash : false ≡ true = e in cc)
    go (Some session) is e k = record { session = session; is = is; told = k.1 }

-- ---- what an end leaves
module _ (h : History) (parts : Parts) (holds : Holds h parts) (c : ℕ) (session : Session) (is : at c parts.sessions.entries ≡ Some session)
    (gone : (state (End c Eof ∷ h)).clients c ≡ None) where
  over_now : (new : List (ℕ × Session)) → Puts c None parts.sessions.entries new → (d : ℕ)
      → IsKeptAt parts.given (End c Eof ∷ h) d (at d new)
  over_now new puts d = go (cases_eq d c)
    where
      drawn : IsKeptAt parts.given h c (Some session)
      drawn = subst (IsKeptAt parts.given h c) is (holds.sessions c)

      or_true : (b : Bool) → (b || true) ≡ true
      or_true true = refl
      or_true false = refl

      other_at : c ≢ d → (o : Option Session) → IsKeptAt parts.given h d o → IsKeptAt parts.given (End c Eof ∷ h) d o
      other_at other None k =
          none_stays parts.given d (End c Eof) h (λ e. ap (λ (b : Bool). nat_eq c d || b) e ∙ or_true (nat_eq c d))
          (λ none. gone_end h d none c Eof) k
      other_at other (Some s) (number, told) = (
        number,
        record {
          known = told.known;
          words = told.words;
          within = told.within;
          read = told.read;
          put = told.put;
          alive = ap (λ (b : Bool). b || has_ended d h) (ne_eqb c d other) ∙ told.alive;
        },
      )

      go : (d ≡ c) ⊎ (d ≢ c) → IsKeptAt parts.given (End c Eof ∷ h) d (at d new)
      go (inl same) =
          subst (λ (k : ℕ). IsKeptAt parts.given (End c Eof ∷ h) k (at k new)) (sym same)
          (subst (IsKeptAt parts.given (End c Eof ∷ h) c) (sym puts.here)
          (inr (record { drawn = drawn.0; ended = ap (λ (b : Bool). b || has_ended c h) (eq-eqb c c refl); gone = gone })))
      go (inr other) =
          subst (IsKeptAt parts.given (End c Eof ∷ h) d) (sym (puts.others d other))
          (other_at (λ same. other (sym same)) (at d parts.sessions.entries) (holds.sessions d))

  pub ended_by : (hub : Kept) (new : Parts) → is_some (asked c h).next ≡ true → IsLawful hub (End c Eof ∷ h) → new.hub ≡ hub
      → new.device ≡ parts.device → new.given ≡ parts.given → Puts c None parts.sessions.entries new.sessions.entries
      → Holds (End c Eof ∷ h) new
  ended_by hub new done lawful hub_is device_is given_is puts = record {
    lawful = subst (λ (k : Kept). IsLawful k (End c Eof ∷ h)) (sym hub_is) lawful;
    done = subst (HasDone model_setting (bytes_sent 1 h) (bytes_received 1 h)) (sym device_is) holds.done;
    joined = (holds.joined, comes_first h parts holds);
    here = holds.here;
    plugged_as = holds.plugged_as;
    one = holds.one;
    asks = (holds.asks, done);
    came = holds.came ∙ sym given_is;
    few = subst (λ (g : ℕ). g ≤ most_sessions) (sym given_is) holds.few;
    sessions =
        subst (λ (g : ℕ). (k : ℕ) → IsKeptAt g (End c Eof ∷ h) k (at k new.sessions.entries)) (sym given_is)
        (over_now new.sessions.entries puts);
  }
