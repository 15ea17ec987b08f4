-- No ending is told of a stream that was not born.
use Rattle.std.proofs.Common.{ℕ, ◌+◌, ◌≡◌, ◌≢◌, ◌≤◌, ◌<◌, zero, suc, Bool, true, false, cond, List, [], ◌∷◌, length, Option, Some, None}
use Rattle.std.proofs.Common.{refl, sym, ◌∙◌, ap}
use Rattle.std.proofs.Common.{subst}
use Rattle.std.proofs.Common.{eqb, arith, inl, inr}
use Rattle.std.proofs.lemmas.Bool.{ne_eqb}
use Rattle.adb_outside.specs.Tables.{Rows, at}
use Rattle.adb_forward.specs.declared.row.ForwardRow.{ForwardRow}
use Rattle.adb_stream.specs.declared.row.Stream.{Stream}
use Rattle.adb_client.specs.declared.phase.Phase.{Phase}
use Rattle.adb_client.specs.declared.phase.Phase.TheVariants.{Asking, Opening, Streaming, Binding, Tracking, Closing, Gone}
use Rattle.adb_reply.specs.declared.answer.Next.{Next}
use Rattle.adb_reply.specs.declared.answer.Next.TheVariants as what
use Rattle.adb_capture.specs.declared.entry.Entry.{Entry}
use Rattle.adb_capture.specs.declared.entry.Entry.TheVariants.{Join, Enter, Read, End, Bound, Attach, Recv, Detach, Put, Send}
use Rattle.adb_history.specs.Rows.{Client, State, to_client}
use Rattle.adb_history.specs.Events.{Made, Event, quietly, ended, ending_in}
use Rattle.adb_history.specs.declared.ending.Ending.{Ending}
use Rattle.adb_history.specs.declared.ending.Ending.TheVariants.{Stopped}
use Rattle.adb_history.specs.Clients.{owe_client}
use Rattle.adb_history.specs.Streams.{stream_ids, no_ids_left, asks_for, opens}
use Rattle.adb_history.specs.Asking.{Asked, asks_with}
use Rattle.adb_history.specs.Links.{is_connected}
use Rattle.adb_history.specs.Losing.{tells_stop, all_stop, stops}
use Rattle.adb_history.specs.Reading.{comes, comes_in_vain, asked_before, has_asked, enters_by, goes_on, asks, reads_in, reads_from}
use Rattle.adb_history.specs.Handing.{puts_to, sends}
use Rattle.adb_history.specs.Machine.{rule, ups, History, state, told, May, MayPut, IsLegal}
use Rattle.adb_history.specs.Book.{kills}
use Rattle.adb_history.specs.Owned.{IsOwned}
use Rattle.adb_history.specs.Moves.{After}
use Rattle.adb_history.proofs.Following.{after_quietly}
use Rattle.adb_history.proofs.Quiet.{up_all_drawn}
use Rattle.adb_history.proofs.PlainMoves.{Plain, plain_moves}
use Rattle.adb_history.proofs.RuleMoves.{Begins, step_kept}
use Rattle.adb_history.proofs.LinkMoves.{all_linked}
use Rattle.adb_laws_fifo_down.specs.Line.{Line, View, view, Shows, first_of}
use Rattle.adb_laws_fifo_down.specs.Followed.{EndsBornAlone}
use Rattle.adb_laws_fifo_down.specs.Turned.{killed}
use Rattle.adb_laws_fifo_down.proofs.Shown.{ending_append, shows_client, shows_owe_client}
use Rattle.adb_laws_fifo_down.proofs.Others.{after_next, UndrawnBy, shows_client_ends, shows_bound, shows_goes_on}
use Rattle.adb_laws_fifo_down.proofs.OwnTurns.{IsStopped, own_stops}
use Rattle.adb_laws_fifo_down.proofs.OtherTurns.{else_of, shows_puts, shows_comes, shows_enters, shows_plugs_in, shows_reads_in}
use Rattle.adb_laws_fifo_down.proofs.OtherLinks.{shows_receives, shows_unplugs}
use Rattle.adb_laws_fifo_down.proofs.Ups.{Upped, shows_ups}
use Rattle.adb_laws_fifo_down.proofs.Entries.{kill_is, no_kill}

-- ---- streams are drawn, and none is drawn back
drawn_plain : (n : ℕ) → Plain (λ s w. n ≤ s.drawn)
drawn_plain n = record {
  tells_link = λ t p check s w of h. h;
  tells_client = λ c bytes s w h. h;
  tells_end = λ l ending s w h. h;
  client = λ c f s w h. h;
  link = λ t f s w h. h;
  stream = λ l f s w h. h;
  draws = λ credit c t s w h. omega (arith, h);
  marks = λ s w h. h;
  devices = λ rows s w h. h;
  forwards = λ forwards s w h. h;
  kills = λ c s w h. h;
}

begins_drawn : (e : Entry) (s : State) (w : List Event) → Begins (plain_moves (drawn_plain s.drawn)) e s w
begins_drawn (Enter c port) s w = (omega arith, omega arith)
begins_drawn (Read c bytes) s w = (omega arith, λ client is asking. omega arith)
begins_drawn _ s w = omega arith

pub drawn_more : (e : Entry) (older : History) → (state older).drawn ≤ (state (e ∷ older)).drawn
drawn_more e older = step_kept (plain_moves (drawn_plain (state older).drawn)) e (state older) [] (begins_drawn e (state older) [])

-- ---- a stream that was not born
abbrev unborn : ℕ → Line
unborn l = record { id = l; client = 0; link = 0; from = 0 }

record IsUnborn (l : ℕ) (s : State) (w : List Event) : Type 0 where
  seen : View
  shows : Shows (unborn l) seen s w
  stream : seen.stream ≡ None
  ending : seen.ending ≡ None

-- a stop ends none of it
stop_none : (l n : ℕ) (streams : Rows (Option Stream)) → n < l → ending_in l (all_stop n streams) ≡ None
stop_none l zero streams lt = refl
stop_none l (suc n) streams lt =
    ending_append l (all_stop n streams) (tells_stop (suc n) (streams (suc n)))
    ∙ (ap (λ (o : Option Ending). first_of o (ending_in l (tells_stop (suc n) (streams (suc n)))))
    (stop_none l n streams (omega (arith, lt)))
    ∙ one (streams (suc n)))
  where
    told : (c : Bool) → ending_in l (cond c [] (ended (suc n) Stopped ∷ [])) ≡ None
    told true = refl
    told false = ap (λ (b : Bool). cond b (Some Stopped) None) (ne_eqb (suc n) l (λ e. omega (arith, lt, e)))

    one : (o : Option Stream) → ending_in l (tells_stop (suc n) o) ≡ None
    one None = refl
    one (Some x) = told x.part.orphan

module _ (l : ℕ) where
  unborn_by : (w : List Event) (m : Made) (s : State) (h : IsUnborn l s w) → After (Shows (unborn l) h.seen) w m → After (IsUnborn l) w m
  unborn_by w m s h now = record { seen = h.seen; shows = now; stream = h.stream; ending = h.ending }

  unborn_ups : (s : State) (w : List Event) → IsUnborn l s w → After (IsUnborn l) w (ups s)
  unborn_ups s w h = by (shows_ups (unborn l) h.seen s.drawn s w h.shows)
    where
      by : After (Upped (unborn l) h.seen) w (ups s) → After (IsUnborn l) w (ups s)
      by (inl now) = unborn_by w (ups s) s h now
      by (inr (y, now)) = absurd (let clash : None ≡ Some y.row = sym h.stream ∙ y.stream in cc)

  -- ---- what follows a request
  unborn_goes_on : (next : Option Next) (n : ℕ) (s : State) (w : List Event) → n ≢ 0 → s.drawn < l
      → UndrawnBy (unborn l) s next → IsUnborn l s w
      → After (IsUnborn l) w (goes_on next n s)
  unborn_goes_on next n s w other lt fresh h = by (kills next) refl
    where
      by : (c : Bool) → kills next ≡ c → After (IsUnborn l) w (goes_on next n s)
      by false e = unborn_by w (goes_on next n s) s h (shows_goes_on (unborn l) h.seen s w h.shows n other next (no_kill next e) fresh)
      by true e =
          let stop : After (IsStopped (unborn l) h.seen (ending_in l (all_stop s.drawn s.streams))) w (stops n s) =
          own_stops (unborn l) h.seen n s w other h.shows in
          subst (λ (o : Option Next). After (IsUnborn l) w (goes_on o n s)) (sym (kill_is next e)) (record {
            seen = killed (ending_in l (all_stop s.drawn s.streams)) h.seen;
            shows = stop.shows;
            stream = refl;
            ending = ap (λ (o : Option Ending). first_of o (ending_in l (all_stop s.drawn s.streams))) h.ending
                ∙ stop_none l s.drawn s.streams lt;
          })

  unborn_asks : (q : Asked) (n : ℕ) (s : State) (w : List Event) → n ≢ 0 → s.drawn < l → UndrawnBy (unborn l) s q.next → IsUnborn l s w
      → After (IsUnborn l) w (asks q n s)
  unborn_asks q n s w other lt fresh h =
      let asked : State = to_client n (has_asked q) s in
      let owed : Made = owe_client n q.replies asked in
      after_next (IsUnborn l) (IsUnborn l) w owed (goes_on q.next n)
      (unborn_by w owed s h
      (shows_owe_client (unborn l) h.seen n q.replies asked w other
      (shows_client (unborn l) h.seen n (has_asked q) s w other h.shows)))
      (λ u now. unborn_goes_on q.next n owed.state u other lt fresh now)

  unborn_unread : (phase : Phase) (n : ℕ) (bytes : List ℕ) (a : Client) (s : State) (w : List Event) → n ≢ 0
      → phase ≢ Asking → IsUnborn l s w
      → After (IsUnborn l) w (reads_in phase n bytes a s)
  unborn_unread phase n bytes a s w other no_asking h =
      unborn_by w (reads_in phase n bytes a s) s h
      (shows_reads_in (unborn l) h.seen s w h.shows phase n bytes a other (λ e. absurd (no_asking e)) (λ e. absurd (no_asking e)))

  -- a stream that is drawn is another
  asks_drawn : (q : Asked) (n t : ℕ) (service : List ℕ) (s : State) → q.next ≡ Some (what.Open t service) → eqb s.drawn stream_ids ≡ false
      → (asks q n s).state.drawn ≡ s.drawn + 1
  asks_drawn q n t service s next ids =
      let owed : Made = owe_client n q.replies (to_client n (has_asked q) s) in
      ap (λ (o : Option Next). (goes_on o n owed.state).state.drawn) next
      ∙ ap (λ (b : Bool). (cond b (no_ids_left false n owed.state) (asks_for (s.drawn + 1) n t service owed.state)).state.drawn) ids

  unborn_reads_in : (phase : Phase) (n : ℕ) (bytes : List ℕ) (a : Client) (s : State) (w : List Event) → n ≢ 0 → s.drawn < l
      → (reads_in phase n bytes a s).state.drawn < l → IsUnborn l s w → After (IsUnborn l) w (reads_in phase n bytes a s)
  unborn_reads_in Asking n bytes a s w other lt after h =
      let q : Asked = asks_with s.devices s.forwards bytes (asked_before a) in
      unborn_asks q n s w other lt (λ t service next ids same. omega (arith, after, same, asks_drawn q n t service s next ids)) h
  unborn_reads_in (Opening m) n bytes a s w other lt after h = unborn_unread (Opening m) n bytes a s w other (λ e. cc) h
  unborn_reads_in (Streaming m) n bytes a s w other lt after h = unborn_unread (Streaming m) n bytes a s w other (λ e. cc) h
  unborn_reads_in Binding n bytes a s w other lt after h = unborn_unread Binding n bytes a s w other (λ e. cc) h
  unborn_reads_in Tracking n bytes a s w other lt after h = unborn_unread Tracking n bytes a s w other (λ e. cc) h
  unborn_reads_in Closing n bytes a s w other lt after h = unborn_unread Closing n bytes a s w other (λ e. cc) h
  unborn_reads_in Gone n bytes a s w other lt after h = unborn_unread Gone n bytes a s w other (λ e. cc) h

  unborn_reads : (o : Option Client) (n : ℕ) (bytes : List ℕ) (s : State) (w : List Event) → n ≢ 0 → s.drawn < l
      → (reads_from o n bytes s).state.drawn < l
      → IsUnborn l s w → After (IsUnborn l) w (reads_from o n bytes s)
  unborn_reads None n bytes s w other lt after h = after_quietly (IsUnborn l) w s h
  unborn_reads (Some a) n bytes s w other lt after h = unborn_reads_in a.about.phase n bytes a s w other lt after h

  enters_drawn : (o : Option ForwardRow) (row : ForwardRow) (n : ℕ) (s : State) → o ≡ Some row → is_connected row.transport s.devices ≡ true
      → eqb s.drawn stream_ids ≡ false → (enters_by n o s).state.drawn ≡ s.drawn + 1
  enters_drawn o row n s is on ids =
      ap (λ (o : Option ForwardRow). (enters_by n o s).state.drawn) is
      ∙ (ap (λ (b : Bool). (cond b (opens true n row.transport row.remote (comes true n s)) (quietly (comes_in_vain s))).state.drawn) on
      ∙ ap (λ (b : Bool).
      (cond b (no_ids_left true n (comes true n s))
      (asks_for (s.drawn + 1) n row.transport row.remote (comes true n s))).state.drawn) ids)

  -- ---- any entry
  unborn_puts : (o : Option Client) (n count : ℕ) (s : State) (w : List Event) → IsOwned s → s.clients n ≡ o → n ≢ 0 → IsUnborn l s w
      → After (IsUnborn l) w (puts_to o n count s)
  unborn_puts None n count s w owned is other h = after_quietly (IsUnborn l) w s h
  unborn_puts (Some a) n count s w owned is other h =
      unborn_by w (puts_to (Some a) n count s) s h
      (shows_puts (unborn l) h.seen n other count a s w is (else_of (unborn l) h.seen n a s w owned h.shows other is) h.shows)

  may_put_some : (n : ℕ) (o : Option Client) (bytes : List ℕ) (s : State) → IsOwned s → s.clients n ≡ o → MayPut s o bytes → n ≢ 0
  may_put_some n None bytes s owned is may same = absurd may
  may_put_some n (Some a) bytes s owned is may same =
      let clash : None ≡ Some a = sym owned.rows.clients.zero ∙ (ap s.clients (sym same) ∙ is) in
      cc

  unborn_rule : (e : Entry) (s : State) (w : List Event) → IsOwned s → May s e → s.drawn < l → (rule e s).state.drawn < l → IsUnborn l s w
      → After (IsUnborn l) w (rule e s)
  unborn_rule (Join n) s w owned may lt after h =
      after_quietly (IsUnborn l) w (comes false n s)
      (record {
        seen = h.seen;
        shows = shows_comes (unborn l) h.seen s w h.shows false n (λ same. omega (arith, may.1, same));
        stream = h.stream;
        ending = h.ending;
      })
  unborn_rule (Enter n port) s w owned may lt after h =
      unborn_by w (rule (Enter n port) s) s h
      (shows_enters (unborn l) h.seen s w h.shows (at port s.forwards) n (λ same. omega (arith, may.1, same))
      (λ row is on ids same. omega (arith, after, same, enters_drawn (at port s.forwards) row n s is on ids)))
  unborn_rule (Read n bytes) s w owned may lt after h =
      unborn_reads (s.clients n) n bytes s w (λ same. omega (arith, may.1.0, same)) lt after h
  unborn_rule (End n cause) s w owned may lt after h =
      let other : n ≢ 0 = λ same. omega (arith, may.1.0, same) in
      unborn_by w (rule (End n cause) s) s h
      (shows_client_ends (unborn l) h.seen s w h.shows n other cause (s.clients n)
      (λ a is. else_of (unborn l) h.seen n a s w owned h.shows other is))
  unborn_rule (Bound n port) s w owned may lt after h =
      unborn_by w (rule (Bound n port) s) s h
      (shows_bound (unborn l) h.seen s w h.shows n (λ same. omega (arith, may.1.0, same)) (s.clients n) port)
  unborn_rule (Attach t kind serial) s w owned may lt after h =
      unborn_by w (rule (Attach t kind serial) s) s h (shows_plugs_in (unborn l) h.seen s w h.shows t kind serial)
  unborn_rule (Recv t bytes) s w owned may lt after h =
      unborn_by w (rule (Recv t bytes) s) s h (shows_receives (unborn l) h.seen t (inr h.stream) (s.links t) bytes s w h.shows)
  unborn_rule (Detach t cause) s w owned may lt after h =
      unborn_by w (rule (Detach t cause) s) s h (shows_unplugs (unborn l) h.seen t (inr h.stream) (s.links t) s w h.shows)
  unborn_rule (Put n bytes) s w owned may lt after h =
      unborn_puts (s.clients n) n (length bytes) s w owned refl (may_put_some n (s.clients n) bytes s owned refl may) h
  unborn_rule (Send t bytes) s w owned may lt after h =
      after_quietly (IsUnborn l) w (sends t (length bytes) s)
      (record { seen = h.seen; shows = h.shows; stream = h.stream; ending = h.ending })

-- ---- at all times
unborn_at : (h : History) → IsLegal h → (l : ℕ) → (state h).drawn < l → IsUnborn l (state h) (told h)
unborn_at [] legal l lt = record {
  seen = view (unborn l) (state []) [];
  shows = (
    record {
      others = λ k x is. absurd (let clash : None ≡ Some x = is in cc);
      client = λ x is. absurd (let clash : None ≡ Some x = is in cc);
      link = λ x is. absurd (let clash : None ≡ Some x = is in cc);
      born = omega arith;
    },
    refl,
  );
  stream = refl;
  ending = refl;
}
unborn_at (e ∷ older) legal l lt =
    let ruled : State = (rule e (state older)).state in
    let same : (state (e ∷ older)).drawn ≡ ruled.drawn = up_all_drawn ruled.drawn ruled in
    let before : (state older).drawn < l = omega (arith, lt, drawn_more e older) in
    after_next (IsUnborn l) (IsUnborn l) (told older) (rule e (state older)) ups
    (unborn_rule l e (state older) (told older) (all_linked older legal.0).owned legal.2 before
    (omega (arith, lt, same)) (unborn_at older legal.0 l before))
    (λ u now. unborn_ups l ruled u now)

pub ends_born : (h : History) → IsLegal h → EndsBornAlone h
ends_born h legal l lt =
    let u = unborn_at h legal l lt in
    ap (λ (v : View). v.ending) u.shows.1 ∙ u.ending
