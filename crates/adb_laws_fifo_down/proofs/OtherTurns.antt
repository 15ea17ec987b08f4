-- What is seen of a stream stays through the entries of other clients and of who comes, but for a kill.
use Rattle.std.proofs.Common.{ℕ, ◌≡◌, ◌≢◌, zero, suc, Bool, true, false, cond, List, [], ◌∷◌, ◌++◌, length, drop, min, Option, Some, None}
use Rattle.std.proofs.Common.{refl, sym, ◌∙◌, ap}
use Rattle.std.proofs.Common.{subst, eqb, inl, inr, ◌⊎◌}
use Rattle.std.proofs.lemmas.Bool.{ne_eqb}
use Rattle.std.specs.Prelude.{option_map}
use Rattle.adb_outside.specs.Tables.{put_row}
use Rattle.adb_outside.specs.declared.kinds.Kind.{Kind}
use Rattle.adb_registry.specs.Registry.{attached}
use Rattle.adb_forward.specs.declared.row.ForwardRow.{ForwardRow}
use Rattle.adb_stream.specs.declared.flow.Flow.{Flow}
use Rattle.adb_stream.specs.declared.flow.Flow.TheVariants.{One, Credit}
use Rattle.adb_stream.specs.declared.row.Stream.{Stream}
use Rattle.adb_stream.specs.declared.row.Part.{Part}
use Rattle.adb_stream.specs.Flow.{handed_to, credit_back, to_hand}
use Rattle.adb_client.specs.declared.phase.Phase.{Phase}
use Rattle.adb_client.specs.declared.phase.Phase.TheVariants.{Asking, Opening, Streaming}
use Rattle.adb_reply.specs.declared.answer.Next.TheVariants as what
use Rattle.adb_history.specs.Rows.{Client, State, new_client, new_link, to_client, to_stream, with_due, with_held, with_stream_part}
use Rattle.adb_history.specs.Events.{Made, Event, quietly, then_also}
use Rattle.adb_history.specs.Links.{server_cnxn, okay_packet, credit_packet, is_connected}
use Rattle.adb_history.specs.Streams.{opens}
use Rattle.adb_history.specs.Flow.{with_flow}
use Rattle.adb_history.specs.Tracking.{offered, mark_all}
use Rattle.adb_history.specs.Asking.{asks_with}
use Rattle.adb_history.specs.Reading.{comes, comes_in_vain, enters_by, plugs_in, asked_before, reads_in}
use Rattle.adb_history.specs.Handing.{unmarked, lists_first, hands, tells_credit, tells_handed, stream_hands, stream_left}
use Rattle.adb_history.specs.Handing.{client_left}
use Rattle.adb_history.specs.Handing.{takes_of, puts_to}
use Rattle.adb_history.specs.Owned.{HoldsIn, IsOwned}
use Rattle.adb_history.specs.Moves.{After}
use Rattle.adb_history.proofs.Following.{after_quietly, after_then, after_if, changed_here}
use Rattle.adb_laws_fifo_down.specs.Line.{Line, View, view, seen_client, Shows}
use Rattle.adb_laws_fifo_down.proofs.Shown.{no_okay, shows_owe_link, shows_client, shows_owe_client, shows_mark_all, shows_stream}
use Rattle.adb_laws_fifo_down.proofs.Others.{IsElse, IsUndrawn, UndrawnBy, part_keeps, shows_opens, shows_asks}

module _ (b : Line) (v : View) where
  -- the stream of another client is another
  pub else_of : (n : ℕ) (a : Client) (s : State) (w : List Event) → IsOwned s → Shows b v s w → n ≢ b.client
      → s.clients n ≡ Some a → IsElse b a
  else_of n a s w owned h other is = record { stream = λ l e same. by a.about.phase l refl e same ((owned.owned.client n a is).holds) }
    where
      clash : (l : ℕ) → l ≡ b.id → Rattle.adb_history.specs.Owned.StreamOf s.streams n l → ⊥
      clash l same own = other (sym own.client ∙ h.0.client own.stream (ap s.streams (sym same) ∙ own.is))

      by : (phase : Phase) (l : ℕ) → a.about.phase ≡ phase → (a.about.phase ≡ Opening l) ⊎ (a.about.phase ≡ Streaming l) → l ≡ b.id
          → HoldsIn a.about.phase s.streams n a → ⊥
      by phase l e (inl opening) same holds = clash l same (subst (λ (p : Phase). HoldsIn p s.streams n a) opening holds)
      by phase l e (inr streaming) same holds = clash l same (subst (λ (p : Phase). HoldsIn p s.streams n a) streaming holds)

  -- ---- bytes are handed out to another client
  module _ (k : ℕ) (other : k ≢ b.id) (x : Stream) where
    shows_tells_credit : (back : ℕ) (s : State) (w : List Event) → Shows b v s w → After (Shows b v) w (tells_credit back k x s)
    shows_tells_credit zero s w h = after_quietly (Shows b v) w s h
    shows_tells_credit (suc n) s w h =
        let p = credit_packet k x.part.remote (suc n) in
        shows_owe_link b v x.link p s w (no_okay b p (ne_eqb k b.id other)) h

    shows_tells_handed : (flow : Flow) (left : ℕ) (s : State) (w : List Event) → Shows b v s w
        → After (Shows b v) w (tells_handed flow left k x s)
    shows_tells_handed (One window) zero s w h =
        let p = okay_packet k x.part.remote in
        shows_owe_link b v x.link p s w (no_okay b p (ne_eqb k b.id other)) h
    shows_tells_handed (One window) (suc left) s w h = after_quietly (Shows b v) w s h
    shows_tells_handed (Credit credit) left s w h = shows_tells_credit (credit_back left credit) s w h

    shows_hands : (left : ℕ) (s : State) (w : List Event) → Shows b v s w → After (Shows b v) w (stream_hands left k x s)
    shows_hands left s w h =
        let part : Part = with_flow (handed_to left x.part.flow) x.part in
        after_if (Shows b v) w (eqb left (to_hand x.part.flow)) (quietly s)
        (tells_handed x.part.flow left k x (to_stream k (with_stream_part part) s))
        (λ e. after_quietly (Shows b v) w s h)
        (λ e. shows_tells_handed x.part.flow left (to_stream k (with_stream_part part) s) w
        (shows_stream b v k (with_stream_part part) s w other
        (part_keeps part) h))

  shows_left : (due k : ℕ) (o : Option Stream) (s : State) (w : List Event) → k ≢ b.id → Shows b v s w
      → After (Shows b v) w (stream_left due k o s)
  shows_left due k None s w other h = after_quietly (Shows b v) w s h
  shows_left due k (Some x) s w other h = shows_hands k other x (min (to_hand x.part.flow) due) s w h

  shows_client_left : (phase : Phase) (due : ℕ) (s : State) (w : List Event) → ((k : ℕ) → phase ≡ Streaming k → k ≢ b.id) → Shows b v s w
      → After (Shows b v) w (client_left phase due s)
  shows_client_left (Streaming k) due s w other h = shows_left due k (s.streams k) s w (other k refl) h
  shows_client_left _ due s w other h = after_quietly (Shows b v) w s h

  module _ (n : ℕ) (other : n ≢ b.client) (count : ℕ) where
    shows_takes : (o : Option Client) (s : State) (w : List Event)
        → ((a : Client) → o ≡ Some a → (k : ℕ) → a.about.phase ≡ Streaming k → k ≢ b.id)
        → Shows b v s w → After (Shows b v) w (takes_of n count o s)
    shows_takes None s w apart h = after_quietly (Shows b v) w s h
    shows_takes (Some a) s w apart h =
        shows_client_left a.about.phase (length (drop count a.due)) (to_client n (hands count) s) w (apart a refl)
        (shows_client b v n (hands count) s w other h)

    pub shows_puts : (a : Client) (s : State) (w : List Event) → s.clients n ≡ Some a → IsElse b a → Shows b v s w
        → After (Shows b v) w (puts_to (Some a) n count s)
    shows_puts a s w is apart h = by a.due
      where
        phase_of : (o : Option Client) (c : Client) → o ≡ Some c → (x : Client) → o ≡ Some x → x.about.phase ≡ c.about.phase
        phase_of o c e x f = let same : Some x ≡ Some c = sym f ∙ e in (let y : x ≡ c = cc in ap (λ (z : Client). z.about.phase) y)

        by : (due : List ℕ) → After (Shows b v) w (then_also (lists_first n due a s) (λ s. takes_of n count (s.clients n) s))
        by [] =
            let first : Made = lists_first n [] a s in
            let row : Client = record a { about = record a.about { mark = false } } in
            let now : first.state.clients n ≡ Some (record row { due = row.due ++ offered s.devices a }) =
            changed_here n (with_due (offered s.devices a)) (to_client n unmarked s).clients row (changed_here n unmarked s.clients a is) in
            after_then (Shows b v) w first (λ s. takes_of n count (s.clients n) s)
            (shows_owe_client b v n (offered s.devices a) (to_client n unmarked s) w other (shows_client b v n unmarked s w other h))
            (λ u kept. shows_takes (first.state.clients n) first.state u
            (λ x f k e. apart.stream k
            (inr (sym (phase_of (first.state.clients n) (record row { due = row.due ++ offered s.devices a })
            now x f) ∙ e))) kept)
        by (d ∷ due) =
            after_then (Shows b v) w (quietly s) (λ s. takes_of n count (s.clients n) s) (after_quietly (Shows b v) w s h)
            (λ u kept. shows_takes (s.clients n) s u (λ x f k e. apart.stream k (inr (sym (phase_of (s.clients n) a is x f) ∙ e))) kept)

  -- ---- who comes
  module _ (s : State) (w : List Event) (h : Shows b v s w) where
    pub shows_comes : (forwarded : Bool) (n : ℕ) → n ≢ b.client → Shows b v (comes forwarded n s) w
    shows_comes forwarded n other = (
      h.0,
      ap (λ (c : Bool). record (view b s w)
          { client = option_map seen_client (cond c (Some (new_client forwarded n)) (s.clients b.client)) })
          (ne_eqb n b.client other) ∙ h.1,
    )

    pub shows_enters : (o : Option ForwardRow) (n : ℕ) → n ≢ b.client
        → ((row : ForwardRow) → o ≡ Some row → is_connected row.transport s.devices ≡ true → IsUndrawn b s)
        → After (Shows b v) w (enters_by n o s)
    shows_enters None n other fresh = after_quietly (Shows b v) w (comes_in_vain s) h
    shows_enters (Some row) n other fresh =
        after_if (Shows b v) w (is_connected row.transport s.devices)
        (opens true n row.transport row.remote (comes true n s)) (quietly (comes_in_vain s))
        (λ e. shows_opens b v (comes true n s) w (shows_comes true n other) true n row.transport row.remote other (fresh row refl e))
        (λ e. after_quietly (Shows b v) w (comes_in_vain s) h)

    pub shows_plugs_in : (t : ℕ) (kind : Kind) (serial : List ℕ) → After (Shows b v) w (plugs_in t kind serial s)
    shows_plugs_in t kind serial =
        let plugged : State = record s { devices = attached kind serial s.devices; links = put_row t (Some new_link) s.links } in
        shows_owe_link b v t server_cnxn (mark_all plugged) w refl (shows_mark_all b v plugged w h)

    -- another client asks, and does not stop the server
    pub shows_reads_in : (phase : Phase) (n : ℕ) (bytes : List ℕ) (a : Client) → n ≢ b.client
        → (phase ≡ Asking → (asks_with s.devices s.forwards bytes (asked_before a)).next ≢ Some what.Stop)
        → (phase ≡ Asking → UndrawnBy b s (asks_with s.devices s.forwards bytes (asked_before a)).next)
        → After (Shows b v) w (reads_in phase n bytes a s)
    shows_reads_in Asking n bytes a other goes fresh = shows_asks b v s w h n other
        (asks_with s.devices s.forwards bytes (asked_before a)) (goes refl)
        (fresh refl)
    shows_reads_in (Opening l) n bytes a other goes fresh =
        after_quietly (Shows b v) w (to_client n (with_held (a.held ++ bytes)) s)
        (shows_client b v n (with_held (a.held ++ bytes)) s w other h)
    shows_reads_in (Streaming l) n bytes a other goes fresh =
        after_quietly (Shows b v) w (to_client n (with_held (a.held ++ bytes)) s)
        (shows_client b v n (with_held (a.held ++ bytes)) s w other h)
    shows_reads_in _ n bytes a other goes fresh = after_quietly (Shows b v) w s h
