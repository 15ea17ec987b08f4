-- Rules of clients by which no stream may send that could not send before.
use Rattle.std.proofs.Common.{ℕ, ◌+◌, ◌≡◌, ◌≢◌, Bool, true, false, cond, List, [], ◌++◌, Option, Some, None, refl, sym, ◌∙◌, ap, subst}
use Rattle.std.specs.Prelude.{◌==◌, codes}
use Rattle.adb_outside.specs.Tables.{without}
use Rattle.adb_outside.specs.declared.kinds.Cause.{Cause}
use Rattle.adb_outside.specs.declared.kinds.Cause.TheVariants.{Eof, Fault, Starved, NoThread}
use Rattle.adb_forward.specs.declared.row.ForwardRow.{ForwardRow}
use Rattle.adb_stream.specs.declared.row.Stream.{Stream}
use Rattle.adb_client.specs.declared.phase.Phase.{Phase}
use Rattle.adb_client.specs.declared.phase.Phase.TheVariants.{Asking, Opening, Streaming, Binding, Tracking, Closing, Gone}
use Rattle.adb_client.specs.declared.about.Want.{Want}
use Rattle.adb_reply.specs.Strings.{failed}
use Rattle.adb_reply.specs.declared.answer.Next.{Next}
use Rattle.adb_reply.specs.declared.answer.Next.TheVariants as what
use Rattle.adb_history.specs.Rows.{Client, State, to_client, to_stream, none_kept, in_phase, with_due, with_stream_part}
use Rattle.adb_history.specs.Events.{quietly}
use Rattle.adb_history.specs.Links.{is_connected, is_credit}
use Rattle.adb_history.specs.Clients.{closes_with}
use Rattle.adb_history.specs.Streams.{stream_ids, asks_for, no_ids_left, opens}
use Rattle.adb_history.specs.Flow.{is_streaming}
use Rattle.adb_history.specs.Forwarding.{bound_by, put_forward}
use Rattle.adb_history.specs.Asking.{Asked, asks_with}
use Rattle.adb_history.specs.Losing.{orphaned, stream_fails, stream_of, client_fails, input_ends, client_ends, only_client, stops}
use Rattle.adb_history.specs.Reading.{comes, comes_in_vain, enters_by, tracks, awaits, goes_on, asked_before, has_asked, asks, reads_in}
use Rattle.adb_history.specs.Reading.{reads_from}
use Rattle.adb_history.specs.Reading.{bound_for, bound_in, bound_at}
use Rattle.adb_laws_resting.specs.Resting.{has_open_stream, is_open_phase}
use Rattle.adb_laws_resting.proofs.RestingRows.{AllCalm, here_change, LetsSame, KeepsPassing, NeverStreams, idle_calm, closes_calm}
use Rattle.adb_laws_resting.proofs.RestingRows.{dropped_calm, due_calm}
use Rattle.adb_laws_resting.proofs.RestingRows.{unopened_calm, comes_calm, stream_calm, gone_calm, draws_calm}

pub closes_with_calm : (c : ℕ) (bytes : List ℕ) (s : State) → AllCalm s → AllCalm (closes_with c bytes s).state
closes_with_calm c bytes s h = closes_calm c (to_client c (with_due bytes) s) (due_calm c bytes s h)

-- ---- a stream is asked for
opening_idle : (l : ℕ) → NeverStreams (in_phase (Opening l))
opening_idle l m old new is streaming =
    let made : record old { about = record old.about { phase = Opening l } } ≡ new = cc in
    let clash : false ≡ true = ap (λ (y : Client). is_streaming m y.about.phase) made ∙ streaming in
    cc

asks_for_calm : (l c t : ℕ) (service : List ℕ) (s : State) → AllCalm s → AllCalm (asks_for l c t service s).state
asks_for_calm l c t service s h = draws_calm (is_credit t s.devices) c t (to_client c (in_phase (Opening l)) s) none
    (idle_calm c (in_phase (Opening l)) s (opening_idle l) h)
  where
    none : (m : ℕ) (client : Client) → (to_client c (in_phase (Opening l)) s).clients c ≡ Some client
        → is_streaming m client.about.phase ≡ true → ⊥
    none m client is streaming = let was = here_change c (in_phase (Opening l)) s.clients client is
        in opening_idle l m was.old client was.to streaming

no_ids_calm : (forwarded : Bool) (c : ℕ) (s : State) → AllCalm s → AllCalm (no_ids_left forwarded c s).state
no_ids_calm true c s h = dropped_calm c s h
no_ids_calm false c s h = closes_with_calm c (failed (codes "no stream ids left")).bytes s h

opens_calm : (forwarded : Bool) (c t : ℕ) (service : List ℕ) (s : State) → AllCalm s → AllCalm (opens forwarded c t service s).state
opens_calm forwarded c t service s h = by_test (s.drawn == stream_ids)
  where
    by_test : (b : Bool) → AllCalm (cond b (no_ids_left forwarded c s) (asks_for (s.drawn + 1) c t service s)).state
    by_test true = no_ids_calm forwarded c s h
    by_test false = asks_for_calm (s.drawn + 1) c t service s h

-- ---- enter
pub enters_calm : (o : Option ForwardRow) (c : ℕ) (s : State) → AllCalm s → AllCalm (enters_by c o s).state
enters_calm None c s h = h
enters_calm (Some row) c s h = by_test (is_connected row.transport s.devices)
  where
    by_test : (b : Bool) → AllCalm (cond b (opens true c row.transport row.remote (comes true c s)) (quietly (comes_in_vain s))).state
    by_test true = opens_calm true c row.transport row.remote (comes true c s) (comes_calm true c s h)
    by_test false = h

-- ---- read
tracks_idle : (long : Bool) → NeverStreams (tracks long)
tracks_idle long m old new is streaming =
    let made : record old { about = record old.about { phase = Tracking; long = long; mark = false }; held = [] } ≡ new = cc in
    let clash : false ≡ true = ap (λ (y : Client). is_streaming m y.about.phase) made ∙ streaming in
    cc

awaits_idle : (want : Want) → NeverStreams (awaits want)
awaits_idle want m old new is streaming =
    let made : record old { about = record old.about { phase = Binding; want = Some want }; held = [] } ≡ new = cc in
    let clash : false ≡ true = ap (λ (y : Client). is_streaming m y.about.phase) made ∙ streaming in
    cc

stops_calm : (c : ℕ) (s : State) → AllCalm (stops c s).state
stops_calm c s =
    closes_calm c
    (record s { clients = only_client c s.clients; streams = λ _. None; devices = record s.devices { rows = [] } })
    (λ m stream client there here streaming. absurd (let clash : None ≡ Some stream = there in cc))

goes_on_calm : (next : Option Next) (c : ℕ) (s : State) → AllCalm s → AllCalm (goes_on next c s).state
goes_on_calm None c s h = h
goes_on_calm (Some what.Close) c s h = closes_calm c s h
goes_on_calm (Some (what.Select id)) c s h = h
goes_on_calm (Some (what.Track long)) c s h = idle_calm c (tracks long) s (tracks_idle long) h
goes_on_calm (Some (what.Open transport service)) c s h = opens_calm false c transport service s h
goes_on_calm (Some (what.Bind transport local remote chosen)) c s h =
    let want : Want = record { transport = transport; local = local; remote = remote } in
    idle_calm c (awaits want) s (awaits_idle want) h
goes_on_calm (Some (what.Rebind transport local remote)) c s h =
    closes_calm c (record s { forwards = put_forward local transport remote s.devices s.forwards }) h
goes_on_calm (Some (what.Unbind local)) c s h = closes_calm c (record s { forwards = without local s.forwards }) h
goes_on_calm (Some what.UnbindAll) c s h = closes_calm c (record s { forwards = [] }) h
goes_on_calm (Some what.Stop) c s h = stops_calm c s

module _ (c : ℕ) (s : State) (unopened : has_open_stream (s.clients c) ≡ false) (h : AllCalm s) where
  asks_calm : (q : Asked) → AllCalm (asks q c s).state
  asks_calm q =
      let asked : State = to_client c (has_asked q) s in
      goes_on_calm q.next c (to_client c (with_due q.replies) asked) (due_calm c q.replies asked
      (unopened_calm c (λ y. record y { about = record y.about { selected = q.selected }; held = q.rest }) s (λ y. refl) unopened h))

  reads_in_calm : (phase : Phase) (bytes : List ℕ) (client : Client) → is_open_phase phase ≡ false
      → AllCalm (reads_in phase c bytes client s).state
  reads_in_calm Asking bytes client e = asks_calm (asks_with s.devices s.forwards bytes (asked_before client))
  reads_in_calm (Opening l) bytes client e = unopened_calm c (λ y. record y { held = client.held ++ bytes }) s (λ y. refl) unopened h
  reads_in_calm (Streaming l) bytes client e = absurd (let clash : true ≡ false = e in cc)
  reads_in_calm _ bytes client e = h

  pub reads_calm : (bytes : List ℕ) → AllCalm (reads_from (s.clients c) c bytes s).state
  reads_calm bytes = by_row (s.clients c) unopened
    where
      by_row : (o : Option Client) → has_open_stream o ≡ false → AllCalm (reads_from o c bytes s).state
      by_row None e = h
      by_row (Some client) e = reads_in_calm client.about.phase bytes client e

  input_ends_calm : (phase : Phase) → is_open_phase phase ≡ false → AllCalm (input_ends phase c s)
  input_ends_calm (Opening l) e = unopened_calm c (λ y. record y { about = record y.about { ended = true } }) s (λ y. refl) unopened h
  input_ends_calm (Streaming l) e = absurd (let clash : true ≡ false = e in cc)
  input_ends_calm Closing e = h
  input_ends_calm Gone e = h
  input_ends_calm _ e = closes_calm c s h

  pub eof_calm : AllCalm (client_ends c Eof (s.clients c) s).state
  eof_calm = by_row (s.clients c) unopened
    where
      by_row : (o : Option Client) → has_open_stream o ≡ false → AllCalm (client_ends c Eof o s).state
      by_row None e = h
      by_row (Some client) e = input_ends_calm client.about.phase e

-- ---- bound
bound_for_calm : (want : Option Want) (c port : ℕ) (s : State) → AllCalm s → AllCalm (bound_for want c port s).state
bound_for_calm None c port s h = h
bound_for_calm (Some want) c port s h =
    let b = bound_by want port s.devices s.forwards in closes_with_calm c b.reply (record s { forwards = b.forwards }) h

bound_in_calm : (phase : Phase) (want : Option Want) (c port : ℕ) (s : State) → AllCalm s → AllCalm (bound_in phase want c port s).state
bound_in_calm Binding want c port s h = bound_for_calm want c port s h
bound_in_calm _ want c port s h = h

pub bound_calm : (o : Option Client) (c port : ℕ) (s : State) → AllCalm s → AllCalm (bound_at o c port s).state
bound_calm None c port s h = h
bound_calm (Some client) c port s h = bound_in_calm client.about.phase client.about.want c port s h

-- ---- client end
orphaned_calm : (l : ℕ) (stream : Stream) (s : State) → s.streams l ≡ Some stream → AllCalm s
    → AllCalm (to_stream l (with_stream_part (orphaned stream.part)) s)
orphaned_calm l stream s is h = stream_calm l (with_stream_part (orphaned stream.part)) s keeps h
  where
    keeps : KeepsPassing l (with_stream_part (orphaned stream.part)) s
    keeps old new there to =
        let row : stream ≡ old = (let both : Some stream ≡ Some old = sym is ∙ there in cc) in
        let made : record old { part = orphaned stream.part } ≡ new = cc in
        let flow : old.part.flow ≡ new.part.flow = ap (λ (y : Stream). y.part.flow) (sym row) ∙ ap (λ (y : Stream). y.part.flow) made in
        record {
          client = ap (λ (y : Stream). y.client) (sym made);
          link = ap (λ (y : Stream). y.link) (sym made);
          flow = subst (λ f. LetsSame old.part.flow f) flow (record { payloads = λ m held. refl; idle = refl });
        }

stream_fails_calm : (phase : Phase) (cause : Cause) (s : State) → AllCalm s
    → AllCalm (stream_fails phase cause (stream_of phase s.streams) s).state
stream_fails_calm (Streaming l) cause s h = by_row (s.streams l)
  where
    by_row : (o : Option Stream) → AllCalm (stream_fails (Streaming l) cause o s).state
    by_row None = h
    by_row (Some stream) = gone_calm l s h
stream_fails_calm (Opening l) cause s h = by_row (s.streams l) refl
  where
    by_row : (o : Option Stream) → s.streams l ≡ o → AllCalm (stream_fails (Opening l) cause o s).state
    by_row None is = h
    by_row (Some stream) is = orphaned_calm l stream s is h
stream_fails_calm _ cause s h = h

client_fails_calm : (c : ℕ) (cause : Cause) (client : Client) (s : State) → AllCalm s → AllCalm (client_fails c cause client s).state
client_fails_calm c cause client s h = stream_fails_calm client.about.phase cause (to_client c none_kept s) (dropped_calm c s h)

pub fails_calm : (c : ℕ) (cause : Cause) (o : Option Client) (s : State) → cause ≢ Eof → AllCalm s → AllCalm (client_ends c cause o s).state
fails_calm c cause None s other h = h
fails_calm c Eof (Some client) s other h = absurd (other refl)
fails_calm c Fault (Some client) s other h = client_fails_calm c Fault client s h
fails_calm c Starved (Some client) s other h = client_fails_calm c Starved client s h
fails_calm c NoThread (Some client) s other h = client_fails_calm c NoThread client s h
