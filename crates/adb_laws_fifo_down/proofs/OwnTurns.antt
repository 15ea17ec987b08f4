-- What the entries of its client, and the hand-outs to it, make of what is seen of a stream.
use Rattle.std.proofs.Common.{ℕ, ◌≡◌, ◌≢◌, zero, suc, Bool, true, false, cond, List, [], ◌∷◌, ◌++◌, Option, Some, None, refl, sym, ◌∙◌, ap}
use Rattle.std.proofs.Common.{subst, eqb, inl, inr}
use Rattle.std.proofs.lemmas.Bool.{ne_eqb}
use Rattle.std.proofs.lemmas.List.{append-nil}
use Rattle.std.specs.Prelude.{option_map, option_and_then}
use Rattle.adb_outside.specs.Tables.{Rows}
use Rattle.adb_outside.specs.declared.kinds.Cause.{Cause}
use Rattle.adb_wire.specs.declared.packets.Packet.{Packet}
use Rattle.adb_stream.specs.declared.row.Stream.{Stream}
use Rattle.adb_client.specs.declared.phase.Phase.{Phase}
use Rattle.adb_client.specs.declared.phase.Phase.TheVariants.{Opening, Streaming, Closing}
use Rattle.adb_history.specs.Rows.{Client, State, to_client, to_stream, none_kept, with_held, with_stream_part}
use Rattle.adb_history.specs.Events.{Made, Event, ended, owed_to, packets_to, ending_in}
use Rattle.adb_history.specs.declared.ending.Ending.{Ending}
use Rattle.adb_history.specs.declared.ending.Ending.TheVariants.{ClientFailed, Stopped}
use Rattle.adb_history.specs.Links.{owe_link, close_packet}
use Rattle.adb_history.specs.Clients.{closing}
use Rattle.adb_history.specs.Losing.{orphaned, stream_fails, stream_of, client_fails, input_ends, tells_stop, all_stop, only_client, stops}
use Rattle.adb_history.specs.Reading.{reads_in, bound_in}
use Rattle.adb_history.specs.Fifo.{okays_of}
use Rattle.adb_history.specs.Moves.{After}
use Rattle.adb_history.proofs.Following.{after_quietly}
use Rattle.adb_history.proofs.Growing.{owed_append}
use Rattle.adb_laws_fifo_down.specs.Line.{Line, SeenStream, View, view, seen, seen_client, Shows, first_of}
use Rattle.adb_laws_fifo_down.specs.Turned.{IsInLine, IsStop, row_fails, failed_by, killed}
use Rattle.adb_laws_fifo_down.proofs.Shown.{packets_append, ending_append, shows_owe_link, shows_same}
use Rattle.adb_laws_fifo_down.proofs.Others.{after_next, none_keeps}
use Rattle.adb_laws_fifo_down.proofs.Own.{with_stream, with_client, own_stream, own_part, own_client, own_told_end}

module _ (b : Line) (v : View) where
  module _ (s : State) (w : List Event) (h : Shows b v s w) where
    -- ---- it is read, its input ends, a listener stands
    pub own_reads : (a : Client) (bytes : List ℕ) → IsInLine b.id a.about.phase
        → After (Shows b v) w (reads_in a.about.phase b.client bytes a s)
    own_reads a bytes in_line = by a.about.phase in_line
      where
        held : Shows b v (to_client b.client (with_held (a.held ++ bytes)) s) w
        held = shows_same b v b.client (λ c. record c { held = a.held ++ bytes }) s w (λ c. refl) h

        by : (phase : Phase) → IsInLine b.id phase → After (Shows b v) w (reads_in phase b.client bytes a s)
        by (Opening l) i = after_quietly (Shows b v) w (to_client b.client (with_held (a.held ++ bytes)) s) held
        by (Streaming l) i = after_quietly (Shows b v) w (to_client b.client (with_held (a.held ++ bytes)) s) held
        by Closing i = after_quietly (Shows b v) w s h
        by _ i = absurd i

    pub own_input_ends : (phase : Phase) → IsInLine b.id phase → Shows b v (input_ends phase b.client s) w
    own_input_ends (Opening l) i = shows_same b v b.client (λ c. record c { about = record c.about { ended = true } }) s w (λ c. refl) h
    own_input_ends (Streaming l) i = shows_same b v b.client (λ c. record c { about = record c.about { ended = true } }) s w (λ c. refl) h
    own_input_ends Closing i = h
    own_input_ends _ i = absurd i

    pub own_bound : (a : Client) (port : ℕ) → IsInLine b.id a.about.phase
        → After (Shows b v) w (bound_in a.about.phase a.about.want b.client port s)
    own_bound a port in_line = by a.about.phase in_line
      where
        by : (phase : Phase) → IsInLine b.id phase → After (Shows b v) w (bound_in phase a.about.want b.client port s)
        by (Opening l) i = after_quietly (Shows b v) w s h
        by (Streaming l) i = after_quietly (Shows b v) w s h
        by Closing i = after_quietly (Shows b v) w s h
        by _ i = absurd i

  -- ---- it fails
  module _ (cause : Cause) (a : Client) (s : State) (w : List Event) (is : s.clients b.client ≡ Some a) (h : Shows b v s w) where
    abbrev gone : State
    gone = to_client b.client none_kept s

    gone_shows : Shows b (with_client None v) gone w
    gone_shows = own_client b v none_kept a s w is h

    open_fails : (o : Option Stream) → s.streams b.id ≡ o
        → After (Shows b (row_fails (Streaming b.id) (ClientFailed cause) (option_map seen o) v)) w
        (stream_fails (Streaming b.id) cause o gone)
    open_fails None there = after_quietly (Shows b (with_client None v)) w gone gone_shows
    open_fails (Some x) there =
        let none : View = with_stream None (with_client None v) in
        let left : State = to_stream b.id none_kept gone in
        let owed : Made = owe_link x.link (close_packet b.id x.part.remote) left in
        after_next (Shows b none) (Shows b (row_fails (Streaming b.id) (ClientFailed cause) (Some (seen x)) v)) w owed
        (λ s. record { state = s; told = ended b.id (ClientFailed cause) ∷ [] })
        (shows_owe_link b none x.link (close_packet b.id x.part.remote) left w refl (own_stream b (with_client None v)
        none_kept x gone w there none_keeps gone_shows))
        (λ u now. own_told_end b none (ClientFailed cause) owed.state u now)

    asked_fails : (o : Option Stream) → s.streams b.id ≡ o
        → After (Shows b (row_fails (Opening b.id) (ClientFailed cause) (option_map seen o) v)) w (stream_fails (Opening b.id) cause o gone)
    asked_fails None there = after_quietly (Shows b (with_client None v)) w gone gone_shows
    asked_fails (Some x) there =
        let left : State = to_stream b.id (with_stream_part (orphaned x.part)) gone in
        let u : View = with_stream (Some (seen (record x { part = orphaned x.part }))) (with_client None v) in
        own_told_end b u (ClientFailed cause) left w (own_part b (with_client None v) (orphaned x.part) x gone w there gone_shows)

    by_phase : (phase : Phase) → IsInLine b.id phase
        → After (Shows b (row_fails phase (ClientFailed cause) (option_map seen (s.streams b.id)) v)) w
        (stream_fails phase cause (stream_of phase s.streams) gone)
    by_phase (Streaming l) same =
        subst (λ (k : ℕ). After (Shows b (row_fails (Streaming k) (ClientFailed cause) (option_map seen (s.streams b.id)) v)) w
        (stream_fails (Streaming k) cause (s.streams k) gone)) (sym same) (open_fails (s.streams b.id) refl)
    by_phase (Opening l) same =
        subst (λ (k : ℕ). After (Shows b (row_fails (Opening k) (ClientFailed cause) (option_map seen (s.streams b.id)) v)) w
        (stream_fails (Opening k) cause (s.streams k) gone)) (sym same) (asked_fails (s.streams b.id) refl)
    by_phase Closing i = after_quietly (Shows b (with_client None v)) w gone gone_shows
    by_phase _ i = absurd i

    pub own_fails : IsInLine b.id a.about.phase → After (Shows b (failed_by cause (seen_client a) v)) w (client_fails b.client cause a s)
    own_fails in_line =
        subst (λ (o : Option SeenStream). After (Shows b (row_fails a.about.phase (ClientFailed cause) o v)) w
        (client_fails b.client cause a s))
        (ap (λ (u : View). u.stream) h.1) (by_phase a.about.phase in_line)

  -- ---- the server stops
  -- what is told then is that streams Stopped
  record TellsStops (events : List Event) : Type 0 where
    bytes : owed_to b.client events ≡ []
    packets : packets_to b.link events ≡ []
    ending : IsStop (ending_in b.id events)

  one_stop : (k : ℕ) (o : Option Stream) → TellsStops (tells_stop k o)
  one_stop k None = record { bytes = refl; packets = refl; ending = inl refl }
  one_stop k (Some x) = by x.part.orphan
    where
      told : (here : Bool) → IsStop (cond here (Some Stopped) None)
      told true = inr refl
      told false = inl refl

      by : (c : Bool) → TellsStops (cond c [] (ended k Stopped ∷ []))
      by true = record { bytes = refl; packets = refl; ending = inl refl }
      by false = record { bytes = refl; packets = refl; ending = told (eqb k b.id) }

  first_stop : (e f : Option Ending) → IsStop e → IsStop f → IsStop (first_of e f)
  first_stop None f i j = j
  first_stop (Some x) f i j = i

  both_stop : (es fs : List Event) → TellsStops es → TellsStops fs → TellsStops (es ++ fs)
  both_stop es fs h i = record {
    bytes = owed_append b.client es fs ∙ (ap (λ (x : List ℕ). x ++ owed_to b.client fs) h.bytes ∙ i.bytes);
    packets = packets_append b.link es fs ∙ (ap (λ (x : List Packet). x ++ packets_to b.link fs) h.packets ∙ i.packets);
    ending = subst IsStop (sym (ending_append b.id es fs)) (first_stop (ending_in b.id es) (ending_in b.id fs) h.ending i.ending);
  }

  all_stops : (n : ℕ) (streams : Rows (Option Stream)) → TellsStops (all_stop n streams)
  all_stops zero streams = record { bytes = refl; packets = refl; ending = inl refl }
  all_stops (suc n) streams = both_stop (all_stop n streams) (tells_stop (suc n) (streams (suc n)))
      (all_stops n streams) (one_stop (suc n) (streams (suc n)))

  -- another client asked for it
  pub record IsStopped (ending : Option Ending) (s : State) (w : List Event) : Type 0 where
    pub is : IsStop ending
    pub shows : Shows b (killed ending v) s w

  pub own_stops : (n : ℕ) (s : State) (w : List Event) → n ≢ b.client → Shows b v s w
      → After (IsStopped (ending_in b.id (all_stop s.drawn s.streams))) w (stops n s)
  own_stops n s w other h = record {
    is = told.ending;
    shows = (
      record {
        others = λ k x is. absurd (let clash : None ≡ Some x = is in cc);
        client = λ x is. absurd (let clash : None ≡ Some x = is in cc);
        link = λ x is. absurd (let clash : None ≡ Some x = is in cc);
        born = h.0.born;
      },
      same ∙ ap (killed (ending_in b.id events)) h.1,
    );
  }
    where
      events : List Event
      events = all_stop s.drawn s.streams

      told : TellsStops (all_stop s.drawn s.streams)
      told = all_stops s.drawn s.streams

      none_left : option_map seen_client
          (cond (eqb n b.client) (option_and_then closing (only_client n s.clients b.client))
          (only_client n s.clients b.client))
          ≡ None
      none_left = ap (λ (c : Bool). option_map seen_client
          (cond c (option_and_then closing (cond c (s.clients b.client) None)) (cond c (s.clients b.client) None)))
          (ne_eqb n b.client other)

      same : view b (stops n s).state (w ++ all_stop s.drawn s.streams) ≡ killed (ending_in b.id (all_stop s.drawn s.streams)) (view b s w)
      same =
          let output : owed_to b.client (w ++ all_stop s.drawn s.streams) ≡ owed_to b.client w =
          owed_append b.client w (all_stop s.drawn s.streams)
          ∙ (ap (λ (x : List ℕ). owed_to b.client w ++ x) told.bytes ∙ append-nil (owed_to b.client w)) in
          let packets : packets_to b.link (w ++ all_stop s.drawn s.streams) ≡ packets_to b.link w =
          packets_append b.link w (all_stop s.drawn s.streams)
          ∙ (ap (λ (x : List Packet). packets_to b.link w ++ x) told.packets ∙ append-nil (packets_to b.link w)) in
          let ending = ending_append b.id w (all_stop s.drawn s.streams) in
          λ i. record {
            stream = None;
            client = none_left i;
            output = output i;
            okays = okays_of b.id (packets i);
            ending = ending i;
          }
