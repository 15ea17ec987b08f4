-- What each turn of what is seen of a stream keeps, each entry after its birth keeps.
use Rattle.std.proofs.Common.{◌+◌, arith, ◌≤◌, ℕ, ◌≡◌, ◌≢◌, Bool, true, false, cond, List, [], ◌∷◌, ◌++◌, length, Option, Some, None, refl}
use Rattle.std.proofs.Common.{sym, ◌∙◌, ap, subst}
use Rattle.std.proofs.Common.{eqb, inl, inr, ◌⊎◌}
use Rattle.std.proofs.lemmas.Bool.{eqb-true, eq-eqb, cases_eq}
use Rattle.adb_outside.specs.Bytes.{IsPrefixOf}
use Rattle.adb_outside.specs.Tables.{at}
use Rattle.adb_outside.specs.declared.kinds.Cause.{Cause}
use Rattle.adb_wire.specs.declared.packets.Packet.{Packet}
use Rattle.adb_client.specs.declared.phase.Phase.{Phase}
use Rattle.adb_client.specs.declared.phase.Phase.TheVariants.{Asking, Opening, Streaming, Binding, Tracking, Closing, Gone}
use Rattle.adb_reply.specs.declared.answer.Next.{Next}
use Rattle.adb_reply.specs.declared.answer.Next.TheVariants as what
use Rattle.adb_history.specs.Rows.{Client, State, to_client}
use Rattle.adb_history.specs.Events.{Made, Event, ending_in}
use Rattle.adb_history.specs.Clients.{owe_client}
use Rattle.adb_history.specs.Tracking.{list_if_stale, due_or, offered}
use Rattle.adb_history.specs.Asking.{Asked, asks_with}
use Rattle.adb_history.specs.Losing.{all_stop, client_ends, stops}
use Rattle.adb_history.specs.Reading.{comes, enters_by, asked_before, has_asked, goes_on, asks, reads_in, reads_from, bound_at}
use Rattle.adb_history.specs.Handing.{puts_to}
use Rattle.adb_history.specs.Machine.{IsSomeOf, MayPut}
use Rattle.adb_history.specs.Book.{kills}
use Rattle.adb_history.specs.Births.{Birth}
use Rattle.adb_history.specs.Owned.{IsOwned}
use Rattle.adb_history.specs.Moves.{After}
use Rattle.adb_history.proofs.Following.{after_quietly}
use Rattle.adb_laws_fifo_down.specs.Line.{seen_client, Shows}
use Rattle.adb_laws_fifo_down.specs.Turned.{IsInLine, killed}
use Rattle.adb_laws_fifo_down.specs.Turns.{Promise, Turns, Holds}
use Rattle.adb_laws_fifo_down.specs.Follows.{line}
use Rattle.adb_laws_fifo_down.proofs.Shown.{shows_client, shows_owe_client}
use Rattle.adb_laws_fifo_down.proofs.Others.{after_next, shows_goes_on, shows_client_ends, shows_bound}
use Rattle.adb_laws_fifo_down.proofs.Own.{client_seen}
use Rattle.adb_laws_fifo_down.proofs.OwnTurns.{IsStopped, own_reads, own_bound, own_stops}
use Rattle.adb_laws_fifo_down.proofs.OwnHands.{own_puts}
use Rattle.adb_laws_fifo_down.proofs.OtherTurns.{else_of, shows_puts, shows_comes, shows_enters, shows_reads_in}
use Rattle.adb_laws_fifo_down.proofs.Rules.{held_by, holds_ends}

-- ---- whether what follows a request is a kill
pub kill_is : (next : Option Next) → kills next ≡ true → next ≡ Some what.Stop
kill_is (Some what.Stop) e = refl
kill_is _ e = absurd (cc)

pub no_kill : (next : Option Next) → kills next ≡ false → next ≢ Some what.Stop
no_kill next e is = let clash : true ≡ false = sym (ap kills is) ∙ e in cc

-- ---- what may be put to a client of a stream
in_line_no_tracker : (l : ℕ) (phase : Phase) → IsInLine l phase → phase ≢ Tracking
in_line_no_tracker l (Opening k) i e = cc
in_line_no_tracker l (Streaming k) i e = cc
in_line_no_tracker l Closing i e = cc
in_line_no_tracker l _ i e = absurd i

pub due_itself : (due : List ℕ) → due_or due [] ≡ due
due_itself [] = refl
due_itself (d ∷ due) = refl

pub not_empty : (bytes due : List ℕ) → bytes ≢ [] → IsPrefixOf bytes due → due ≢ []
not_empty [] due some front e = absurd (some refl)
not_empty (d ∷ bytes) due some (rest, is) e = let clash : d ∷ (bytes ++ rest) ≡ [] = is ∙ e in cc

-- what is drawn next is none that was drawn
later : (l drawn : ℕ) → l ≤ drawn → drawn + 1 ≢ l
later l drawn le e = omega (arith, le, e)

module _ (l : ℕ) (b : Birth) {P : Promise} (k : Turns (line l b) P) where
  -- what was asked by another client
  module _ (packets : List Packet) (shut : Bool) (out : List ℕ) (n : ℕ) (other : n ≢ b.client) where
    holds_goes_on : (next : Option Next) (s : State) (w : List Event) → Holds (line l b) P packets shut out s w
        → After (Holds (line l b) P packets shut out) w (goes_on next n s)
    holds_goes_on next s w h = by (kills next) refl
      where
        by : (c : Bool) → kills next ≡ c → After (Holds (line l b) P packets shut out) w (goes_on next n s)
        by false e = held_by k packets shut out h.seen w (goes_on next n s) h.keeps
            (shows_goes_on (line l b) h.seen s w h.shows n other next
            (no_kill next e) (λ t service f ids. later l s.drawn h.shows.0.born))
        by true e =
            let stop : After (IsStopped (line l b) h.seen (ending_in l (all_stop s.drawn s.streams))) w (stops n s) = own_stops (line l b)
            h.seen n s w other h.shows in
            subst (λ (o : Option Next). After (Holds (line l b) P packets shut out) w (goes_on o n s)) (sym (kill_is next e)) (record {
              seen = killed (ending_in l (all_stop s.drawn s.streams)) h.seen;
              shows = stop.shows;
              keeps = k.stops packets shut out h.seen (ending_in l (all_stop s.drawn s.streams)) stop.is h.keeps;
            })

    holds_asks : (q : Asked) (s : State) (w : List Event) → Holds (line l b) P packets shut out s w
        → After (Holds (line l b) P packets shut out) w (asks q n s)
    holds_asks q s w h =
        let asked : State = to_client n (has_asked q) s in
        let owed : Made = owe_client n q.replies asked in
        after_next (Holds (line l b) P packets shut out) (Holds (line l b) P packets shut out) w owed (goes_on q.next n)
        (held_by k packets shut out h.seen w owed h.keeps
        (shows_owe_client (line l b) h.seen n q.replies asked w other (shows_client (line l b) h.seen n (has_asked q) s w other h.shows)))
        (λ u now. holds_goes_on q.next owed.state u now)

    holds_unread : (phase : Phase) (bytes : List ℕ) (a : Client) (s : State) (w : List Event) → phase ≢ Asking
        → Holds (line l b) P packets shut out s w
        → After (Holds (line l b) P packets shut out) w (reads_in phase n bytes a s)
    holds_unread phase bytes a s w no_asking h =
        held_by k packets shut out h.seen w (reads_in phase n bytes a s) h.keeps
        (shows_reads_in (line l b) h.seen s w h.shows phase n bytes a other (λ e. absurd (no_asking e)) (λ e. absurd (no_asking e)))

    holds_reads_in : (phase : Phase) (bytes : List ℕ) (a : Client) (s : State) (w : List Event) → Holds (line l b) P packets shut out s w
        → After (Holds (line l b) P packets shut out) w (reads_in phase n bytes a s)
    holds_reads_in Asking bytes a s w h = holds_asks (asks_with s.devices s.forwards bytes (asked_before a)) s w h
    holds_reads_in (Opening m) bytes a s w h = holds_unread (Opening m) bytes a s w (λ e. cc) h
    holds_reads_in (Streaming m) bytes a s w h = holds_unread (Streaming m) bytes a s w (λ e. cc) h
    holds_reads_in Binding bytes a s w h = holds_unread Binding bytes a s w (λ e. cc) h
    holds_reads_in Tracking bytes a s w h = holds_unread Tracking bytes a s w (λ e. cc) h
    holds_reads_in Closing bytes a s w h = holds_unread Closing bytes a s w (λ e. cc) h
    holds_reads_in Gone bytes a s w h = holds_unread Gone bytes a s w (λ e. cc) h

  -- ---- the entries of clients
  module _ (packets : List Packet) (shut : Bool) (out : List ℕ) (s : State) (w : List Event)
      (h : Holds (line l b) P packets shut out s w) where
    -- the client of the stream
    in_line : (a : Client) → s.clients b.client ≡ Some a → IsInLine l a.about.phase
    in_line a is = k.served packets shut out h.seen h.keeps (seen_client a) (client_seen (line l b) h.seen s w (Some a) h.shows is)

    kept : (m : Made) → After (Shows (line l b) h.seen) w m → After (Holds (line l b) P packets shut out) w m
    kept m shows = held_by k packets shut out h.seen w m h.keeps shows

    own_read : (o : Option Client) (bytes : List ℕ) → s.clients b.client ≡ o
        → After (Holds (line l b) P packets shut out) w (reads_from o b.client bytes s)
    own_read None bytes is = after_quietly (Holds (line l b) P packets shut out) w s h
    own_read (Some a) bytes is = kept (reads_in a.about.phase b.client bytes a s)
        (own_reads (line l b) h.seen s w h.shows a bytes (in_line a is))

    other_read : (n : ℕ) (o : Option Client) (bytes : List ℕ) → n ≢ b.client
        → After (Holds (line l b) P packets shut out) w (reads_from o n bytes s)
    other_read n None bytes other = after_quietly (Holds (line l b) P packets shut out) w s h
    other_read n (Some a) bytes other = holds_reads_in packets shut out n other a.about.phase bytes a s w h

    pub read_holds : (n : ℕ) (bytes : List ℕ) → After (Holds (line l b) P packets shut out) w (reads_from (s.clients n) n bytes s)
    read_holds n bytes = by (cases_eq n b.client)
      where
        by : (n ≡ b.client) ⊎ (n ≢ b.client) → After (Holds (line l b) P packets shut out) w (reads_from (s.clients n) n bytes s)
        by (inl same) =
            subst (λ (m : ℕ). After (Holds (line l b) P packets shut out) w (reads_from (s.clients m) m bytes s)) (sym same)
            (own_read (s.clients b.client) bytes refl)
        by (inr other) = other_read n (s.clients n) bytes other

    pub end_holds : (n : ℕ) (cause : Cause) → IsOwned s → After (Holds (line l b) P packets shut out) w
        (client_ends n cause (s.clients n) s)
    end_holds n cause owned = by (cases_eq n b.client)
      where
        by : (n ≡ b.client) ⊎ (n ≢ b.client) → After (Holds (line l b) P packets shut out) w (client_ends n cause (s.clients n) s)
        by (inl same) =
            subst (λ (m : ℕ). After (Holds (line l b) P packets shut out) w (client_ends m cause (s.clients m) s)) (sym same)
            (holds_ends k packets shut out cause (s.clients b.client) s w refl h)
        by (inr other) = kept (client_ends n cause (s.clients n) s)
            (shows_client_ends (line l b) h.seen s w h.shows n other cause (s.clients n)
            (λ a is. else_of (line l b) h.seen n a s w owned h.shows other is))

    own_bound_at : (o : Option Client) (port : ℕ) → s.clients b.client ≡ o
        → After (Holds (line l b) P packets shut out) w (bound_at o b.client port s)
    own_bound_at None port is = after_quietly (Holds (line l b) P packets shut out) w s h
    own_bound_at (Some a) port is = kept (bound_at (Some a) b.client port s) (own_bound (line l b) h.seen s w h.shows a port (in_line a is))

    pub bound_holds : (n port : ℕ) → After (Holds (line l b) P packets shut out) w (bound_at (s.clients n) n port s)
    bound_holds n port = by (cases_eq n b.client)
      where
        by : (n ≡ b.client) ⊎ (n ≢ b.client) → After (Holds (line l b) P packets shut out) w (bound_at (s.clients n) n port s)
        by (inl same) =
            subst (λ (m : ℕ). After (Holds (line l b) P packets shut out) w (bound_at (s.clients m) m port s)) (sym same)
            (own_bound_at (s.clients b.client) port refl)
        by (inr other) = kept (bound_at (s.clients n) n port s) (shows_bound (line l b) h.seen s w h.shows n other (s.clients n) port)

    -- ---- hand-outs to clients
    -- what may be put to the client of a stream is due to it
    due_of : (a : Client) (bytes : List ℕ) → IsOwned s → s.clients b.client ≡ Some a
        → IsSomeOf bytes (offered s.devices a) → IsSomeOf bytes a.due
    due_of a bytes owned is may = record { some = may.some; front = subst (IsPrefixOf bytes) (by a.about.mark refl) may.front }
      where
        by : (mark : Bool) → a.about.mark ≡ mark → offered s.devices a ≡ a.due
        by true e = absurd (in_line_no_tracker l a.about.phase (in_line a is) ((owned.owned.client b.client a is).mark e))
        by false e = ap (λ (c : Bool). due_or a.due (list_if_stale s.devices c a.about.long)) e ∙ due_itself a.due

    own_put : (o : Option Client) (bytes : List ℕ) → IsOwned s → s.clients b.client ≡ o → MayPut s o bytes
        → After (Holds (line l b) P packets shut (out ++ bytes)) w (puts_to o b.client (length bytes) s)
    own_put None bytes owned is may = absurd may
    own_put (Some a) bytes owned is may =
        let due : IsSomeOf bytes a.due = due_of a bytes owned is may in
        record {
          seen = _;
          shows = own_puts (line l b) h.seen (length bytes) a s w is h.shows (not_empty bytes a.due due.some due.front) (in_line a is);
          keeps = k.hands packets shut out h.seen (seen_client a) bytes
              (client_seen (line l b) h.seen s w (Some a) h.shows is) due.front h.keeps;
        }

    other_put : (n : ℕ) (o : Option Client) (count : ℕ) → IsOwned s → s.clients n ≡ o → n ≢ b.client
        → After (Holds (line l b) P packets shut out) w (puts_to o n count s)
    other_put n None count owned is other = after_quietly (Holds (line l b) P packets shut out) w s h
    other_put n (Some a) count owned is other = kept (puts_to (Some a) n count s)
        (shows_puts (line l b) h.seen n other count a s w is (else_of (line l b) h.seen n a s w owned h.shows other is) h.shows)

    pub put_holds : (n : ℕ) (bytes : List ℕ) → IsOwned s → MayPut s (s.clients n) bytes
        → After (Holds (line l b) P packets shut (cond (eqb n b.client) (out ++ bytes) out)) w (puts_to (s.clients n) n (length bytes) s)
    put_holds n bytes owned may = by (eqb n b.client) refl
      where
        by : (c : Bool) → eqb n b.client ≡ c
            → After (Holds (line l b) P packets shut (cond c (out ++ bytes) out)) w (puts_to (s.clients n) n (length bytes) s)
        by true e =
            let same : n ≡ b.client = eqb-true n b.client e in
            subst (λ (m : ℕ). After (Holds (line l b) P packets shut (out ++ bytes)) w
            (puts_to (s.clients m) m (length bytes) s)) (sym same)
            (own_put (s.clients b.client) bytes owned refl (subst (λ (m : ℕ). MayPut s (s.clients m) bytes) same may))
        by false e = other_put n (s.clients n) (length bytes) owned refl
            (λ same. let clash : true ≡ false = sym (eq-eqb n b.client same) ∙ e in cc)

    pub come_holds : (n : ℕ) → n ≢ b.client → Holds (line l b) P packets shut out (comes false n s) w
    come_holds n other = record { seen = h.seen; shows = shows_comes (line l b) h.seen s w h.shows false n other; keeps = h.keeps }

    pub enter_holds : (n port : ℕ) → n ≢ b.client → After (Holds (line l b) P packets shut out) w (enters_by n (at port s.forwards) s)
    enter_holds n port other = kept (enters_by n (at port s.forwards) s)
        (shows_enters (line l b) h.seen s w h.shows (at port s.forwards) n other
        (λ row f on ids. later l s.drawn h.shows.0.born))
