-- A client that asks came by itself, and was told the replies to its whole requests.
use Rattle.std.proofs.Common.{ℕ, ◌+◌, ◌≡◌, ◌≢◌, ◌<◌, Bool, true, false, cond, List, [], ◌∷◌, ◌++◌, length, drop, Option, Some, None, refl}
use Rattle.std.proofs.Common.{sym, ◌∙◌, ap, subst, arith, inl, inr, ◌⊎◌}
use Rattle.std.proofs.lemmas.Bool.{ne_eqb, eq-eqb, cases_eq}
use Rattle.std.proofs.lemmas.List.{append-nil}
use Rattle.std.specs.Prelude.{◌&&◌, not, option_map}
use Rattle.adb_outside.specs.Bytes.{IsPrefixOf}
use Rattle.adb_outside.specs.declared.kinds.Cause.{Cause}
use Rattle.adb_registry.specs.Registry.{DeviceTable}
use Rattle.adb_forward.specs.declared.row.ForwardRow.{ForwardRow}
use Rattle.adb_stream.specs.declared.row.Stream.{Stream}
use Rattle.adb_client.specs.declared.phase.Phase.{Phase}
use Rattle.adb_client.specs.declared.phase.Phase.TheVariants.{Asking, Tracking}
use Rattle.adb_reply.specs.declared.answer.Next.{Next}
use Rattle.adb_reply.specs.declared.answer.Next.TheVariants as what
use Rattle.adb_capture.specs.declared.entry.Entry.TheVariants.{Read}
use Rattle.adb_history.specs.Rows.{Client, State, new_client, to_client}
use Rattle.adb_history.specs.Events.{Made, Event, then_also}
use Rattle.adb_history.specs.Clients.{owe_client}
use Rattle.adb_history.specs.Tracking.{list_if_stale, due_or, offered}
use Rattle.adb_history.specs.Asking.{Asked, asks_with}
use Rattle.adb_history.specs.Losing.{client_ends}
use Rattle.adb_history.specs.Reading.{comes, asked_before, has_asked, goes_on, asks, reads_in, reads_from, bound_in, bound_at}
use Rattle.adb_history.specs.Handing.{lists_first, left_in, hands, client_left, takes_of, puts_to}
use Rattle.adb_history.specs.Machine.{ups, History, state, told, MayPut, IsLegal}
use Rattle.adb_history.specs.Book.{book, asked, devices, forwards, asked_with, is_asking}
use Rattle.adb_history.specs.Owned.{IsOwned}
use Rattle.adb_history.specs.Tied.{came_count}
use Rattle.adb_history.specs.Linked.{IsLinked}
use Rattle.adb_history.specs.Moves.{After}
use Rattle.adb_history.proofs.Following.{after_quietly, changed_here}
use Rattle.adb_history.proofs.Asked.{behind, asks_behind}
use Rattle.adb_history.proofs.Numbers.{counted}
use Rattle.adb_history.proofs.LinkMoves.{all_linked}
use Rattle.adb_history.proofs.Books.{booked, all_books, all_unread}
use Rattle.adb_history.proofs.Booked.{asks_in, asks_now}
use Rattle.adb_history.proofs.BookTurns.{all_unheard}
use Rattle.adb_history.proofs.OutputEntries.{tied}
use Rattle.adb_laws_fifo_down.specs.Line.{Line, SeenClient, View, view, seen, seen_client, Shows}
use Rattle.adb_laws_fifo_down.proofs.Others.{after_next, shows_client_ends, shows_bound}
use Rattle.adb_laws_fifo_down.proofs.Own.{with_client, owed_more, client_seen, own_client, own_due}
use Rattle.adb_laws_fifo_down.proofs.OtherTurns.{else_of, shows_puts, shows_reads_in}
use Rattle.adb_laws_fifo_down.proofs.Ups.{Upped, shows_ups}
use Rattle.adb_laws_fifo_down.proofs.Entries.{due_itself, not_empty}
use Rattle.adb_laws_fifo_down.proofs.Begun.{of_older}

-- a client, and no stream of it
abbrev pub alone : ℕ → Line
alone c = record { id = 0; client = c; link = 0; from = 0 }

-- A client asks: it has no stream, it came by itself, and it was told these replies.
pub record AsksAs (c : ℕ) (replies : List ℕ) (s : State) (w : List Event) : Type 0 where
  pub seen : View
  pub shows : Shows (alone c) seen s w
  pub stream : seen.stream ≡ None
  pub due : List ℕ
  pub client : seen.client ≡ Some (record { phase = Asking; forwarded = false; due = due })
  pub output : seen.output ≡ replies

module _ (c : ℕ) (replies : List ℕ) where
  asks_by : (w : List Event) (m : Made) (s : State) (h : AsksAs c replies s w) → After (Shows (alone c) h.seen) w m
      → After (AsksAs c replies) w m
  asks_by w m s h now = record { seen = h.seen; shows = now; stream = h.stream; due = h.due; client = h.client; output = h.output }

  -- the row of the client
  pub asking_row : (o : Option Client) (s : State) (w : List Event) (h : AsksAs c replies s w) → s.clients c ≡ o
      → (a : Client) × (o ≡ Some a) × (seen_client a ≡ record { phase = Asking; forwarded = false; due = h.due })
  asking_row None s w h is =
      let row : SeenClient = record { phase = Asking; forwarded = false; due = h.due } in
      let clash : None ≡ Some row = sym (client_seen (alone c) h.seen s w None h.shows is) ∙ h.client in
      absurd (cc)
  asking_row (Some a) s w h is =
      let row : SeenClient = record { phase = Asking; forwarded = false; due = h.due } in
      let both : Some (seen_client a) ≡ Some row = sym (client_seen (alone c) h.seen s w (Some a) h.shows is) ∙ h.client in
      (a, refl, cc)

  -- the up rule does nothing to it
  pub asks_ups : (s : State) (w : List Event) → AsksAs c replies s w → After (AsksAs c replies) w (ups s)
  asks_ups s w h = by (shows_ups (alone c) h.seen s.drawn s w h.shows)
    where
      by : After (Upped (alone c) h.seen) w (ups s) → After (AsksAs c replies) w (ups s)
      by (inl now) = asks_by w (ups s) s h now
      by (inr (y, now)) = absurd (let clash : None ≡ Some y.row = sym h.stream ∙ y.stream in cc)

  -- ---- bytes are handed out to it
  asks_puts : (o : Option Client) (bytes : List ℕ) (s : State) (w : List Event) → IsOwned s → s.clients c ≡ o
      → MayPut s o bytes → AsksAs c replies s w
      → After (AsksAs c replies) w (puts_to o c (length bytes) s)
  asks_puts None bytes s w owned is may h = absurd may
  asks_puts (Some a) bytes s w owned is may h = by a.due some_due
    where
      asks : a.about.phase ≡ Asking
      asks =
          let row = asking_row (s.clients c) s w h refl in
          let same : row.0 ≡ a = (let both : Some row.0 ≡ Some a = sym row.1 ∙ is in cc) in
          sym (ap (λ (x : Client). x.about.phase) same) ∙ ap (λ (x : SeenClient). x.phase) row.2

      forwarded : a.about.forwarded ≡ false
      forwarded =
          let row = asking_row (s.clients c) s w h refl in
          let same : row.0 ≡ a = (let both : Some row.0 ≡ Some a = sym row.1 ∙ is in cc) in
          sym (ap (λ (x : Client). x.about.forwarded) same) ∙ ap (λ (x : SeenClient). x.forwarded) row.2

      no_mark : (mark : Bool) → a.about.mark ≡ mark → offered s.devices a ≡ a.due
      no_mark true e =
          let clash : Asking ≡ Tracking = sym asks ∙ (owned.owned.client c a is).mark e in
          absurd (cc)
      no_mark false e = ap (λ (m : Bool). due_or a.due (list_if_stale s.devices m a.about.long)) e ∙ due_itself a.due

      some_due : a.due ≢ []
      some_due = not_empty bytes a.due may.some (subst (IsPrefixOf bytes) (no_mark a.about.mark refl) may.front)

      handed : AsksAs c replies (to_client c (hands (length bytes)) s) w
      handed = record {
        seen = with_client (Some (seen_client (record a { due = drop (length bytes) a.due }))) h.seen;
        shows = subst
            (λ (p : Phase). Shows (alone c)
            (with_client (option_map seen_client (left_in p (drop (length bytes) a.due) a)) h.seen)
            (to_client c (hands (length bytes)) s) w) asks (own_client (alone c) h.seen (hands (length bytes)) a s w is h.shows);
        stream = h.stream;
        due = drop (length bytes) a.due;
        client = λ i. Some (record { phase = asks i; forwarded = forwarded i; due = drop (length bytes) a.due });
        output = h.output;
      }

      takes : (o : Option Client) → s.clients c ≡ o → After (AsksAs c replies) w (takes_of c (length bytes) o s)
      takes None none = absurd (let clash : None ≡ Some a = sym none ∙ is in cc)
      takes (Some x) here =
          let same : a ≡ x = (let both : Some a ≡ Some x = sym is ∙ here in cc) in
          subst (λ (x : Client). After (AsksAs c replies) w (client_left x.about.phase (length (drop (length bytes) x.due))
          (to_client c (hands (length bytes)) s))) same
          (subst (λ (p : Phase). After (AsksAs c replies) w
          (client_left p (length (drop (length bytes) a.due)) (to_client c (hands (length bytes)) s)))
          (sym asks)
          (after_quietly (AsksAs c replies) w (to_client c (hands (length bytes)) s) handed))

      by : (due : List ℕ) → due ≢ [] → After (AsksAs c replies) w
          (then_also (lists_first c due a s) (λ s. takes_of c (length bytes) (s.clients c) s))
      by [] none = absurd (none refl)
      by (d ∷ due) some = takes (s.clients c) refl

-- ---- what a client asks
-- what it asked, with what is read from it
pub asked_then : (c : ℕ) (bytes : List ℕ) (older : History)
    → asked c (Read c bytes ∷ older) ≡ asked_with (is_asking c older (book older)) (devices older) (forwards older) bytes (asked c older)
asked_then c bytes older =
    let q = asked_with (is_asking c older (book older)) (devices older) (forwards older) bytes (asked c older) in
    ap (λ (b : Bool). cond b q (asked c older)) (eq-eqb c c refl)

pub asked_other : (n c : ℕ) (bytes : List ℕ) (older : History) → n ≢ c → asked c (Read n bytes ∷ older) ≡ asked c older
asked_other n c bytes older other =
    let q = asked_with (is_asking n older (book older)) (devices older) (forwards older) bytes (asked n older) in
    ap (λ (b : Bool). cond b q (asked c older)) (ne_eqb n c other)

-- the client is there, and asks
asks_row : (o : Option Client) → asks_now o ≡ true → (a : Client) × (o ≡ Some a) × (a.about.phase ≡ Asking)
asks_row None e = absurd (let clash : false ≡ true = e in cc)
asks_row (Some a) e = (a, refl, by a.about.phase e)
  where
    by : (phase : Phase) → asks_in phase ≡ true → phase ≡ Asking
    by Asking e = refl
    by _ e = absurd (cc)

-- a client that asks, and what it asks with more bytes
pub record AsksBehind (c : ℕ) (bytes : List ℕ) (older : History) : Type 0 where
  pub client : Client
  pub is : (state older).clients c ≡ Some client
  pub phase : client.about.phase ≡ Asking
  pub behind_it : asked c (Read c bytes ∷ older)
      ≡ behind (asked c older) (asks_with (state older).devices (state older).forwards bytes (asked_before client))

pub asks_behind_it : (c : ℕ) (bytes : List ℕ) (older : History) → IsLegal older → (state older).stopped ≡ false
    → is_asking c older (book older) ≡ true
    → AsksBehind c bytes older
asks_behind_it c bytes older legal on asking = record { client = a; is = row.1; phase = row.2; behind_it = same }
  where
    row : (a : Client) × ((state older).clients c ≡ Some a) × (a.about.phase ≡ Asking)
    row = asks_row ((state older).clients c) (((booked older legal).clients on c).asks ∙ asking)

    a : Client
    a = row.0

    kept : asked c older ≡ behind (asked c older) (asked_before row.0)
    kept =
        let said = all_unread older legal c row.0 row.1 row.2 in
        let replies : (asked c older).replies ≡ (asked c older).replies ++ [] = sym (append-nil (asked c older).replies) in
        let used : (asked c older).used ≡ (asked c older).used + 0 = omega arith in
        λ i. record {
          replies = replies i;
          used = used i;
          rest = sym said.rest i;
          selected = sym said.selected i;
          next = said.asks i;
        }

    same : asked c (Read c bytes ∷ older)
        ≡ behind (asked c older) (asks_with (state older).devices (state older).forwards bytes (asked_before row.0))
    same =
        let books = all_books older legal in
        asked_then c bytes older
        ∙ (ap (λ (b : Bool). asked_with b (devices older) (forwards older) bytes (asked c older)) asking
        ∙ (ap (λ (d : DeviceTable). asks_with d (forwards older) bytes (asked c older)) (sym books.devices)
        ∙ (ap (λ (f : List (ℕ × ForwardRow)). asks_with (state older).devices f bytes (asked c older)) (sym books.forwards)
        ∙ (ap (asks_with (state older).devices (state older).forwards bytes) kept
        ∙ asks_behind (state older).devices (state older).forwards (asked c older) bytes (asked_before row.0)))))

-- ---- one entry
-- the two halves of what a client is asked to be
pub asking_parts : (joined ended asks : Bool) → (joined && not ended && asks) ≡ true → (joined ≡ true) × (ended ≡ false) × (asks ≡ true)
asking_parts true false true e = (refl, refl, refl)
asking_parts _ _ _ e = absurd (cc)

module _ (c : ℕ) (older : History) (legal : IsLegal older) where
  linked : IsLinked (state older)
  linked = all_linked older legal

  -- it comes
  pub comes_asking : c ≡ (state older).joined + 1 → AsksAs c (asked c older).replies (comes false c (state older)) (told older)
  comes_asking is = record {
    seen = view (alone c) (comes false c (state older)) (told older);
    shows = (
      record {
        others = λ k x there other. of_older (state older) c k x linked.owned (omega (arith, is)) there;
        client = λ x there. absurd (none x there);
        link = λ x there. absurd (none x there);
        born = omega arith;
      },
      refl,
    );
    stream = ap (option_map seen) linked.owned.rows.streams.zero;
    due = [];
    client = ap (λ (b : Bool). option_map seen_client (cond b (Some (new_client false c)) ((state older).clients c))) (eq-eqb c c refl);
    output = (tied older legal).told.clients c above ∙ sym (ap (λ (q : Asked). q.replies) (all_unheard older legal c above).asked);
  }
    where
      above : came_count older < c
      above = omega (arith, is, (counted older).joined)

      none : (x : Stream) → (state older).streams 0 ≡ Some x → ⊥
      none x there = let clash : None ≡ Some x = sym linked.owned.rows.streams.zero ∙ there in cc

  module _ (replies : List ℕ) (h : AsksAs c replies (state older) (told older)) where
    pub stays : (m : Made) → After (Shows (alone c) h.seen) (told older) m → After (AsksAs c replies) (told older) m
    stays m now = asks_by c replies (told older) m (state older) h now

    -- another client asks, and does not stop the server
    pub other_asks : (n : ℕ) (bytes : List ℕ) (o : Option Client) → n ≢ c
        → ((a : Client) → o ≡ Some a → a.about.phase ≡ Asking
        → (asks_with (state older).devices (state older).forwards bytes (asked_before a)).next ≢ Some what.Stop)
        → After (AsksAs c replies) (told older) (reads_from o n bytes (state older))
    other_asks n bytes None other goes = after_quietly (AsksAs c replies) (told older) (state older) h
    other_asks n bytes (Some a) other goes = stays (reads_from (Some a) n bytes (state older))
        (shows_reads_in (alone c) h.seen (state older) (told older) h.shows a.about.phase n bytes a other (λ e. goes a refl e)
        (λ e t service f ids g. omega (arith, g)))

    pub other_ends : (n : ℕ) (cause : Cause) → n ≢ c → After (AsksAs c replies) (told older)
        (client_ends n cause ((state older).clients n) (state older))
    other_ends n cause other = stays (client_ends n cause ((state older).clients n) (state older))
        (shows_client_ends (alone c) h.seen (state older) (told older) h.shows n other cause ((state older).clients n)
        (λ a is. else_of (alone c) h.seen n a (state older) (told older) linked.owned h.shows other is))

    pub bound_asking : (n port : ℕ) → After (AsksAs c replies) (told older) (bound_at ((state older).clients n) n port (state older))
    bound_asking n port = by (cases_eq n c)
      where
        own : (o : Option Client) → (state older).clients c ≡ o → After (AsksAs c replies) (told older) (bound_at o c port (state older))
        own o is =
            let row = asking_row c replies o (state older) (told older) h is in
            subst (λ (o : Option Client). After (AsksAs c replies) (told older) (bound_at o c port (state older))) (sym row.1)
            (subst (λ (p : Phase). After (AsksAs c replies) (told older) (bound_in p row.0.about.want c port (state older)))
            (sym (ap (λ (x : SeenClient). x.phase) row.2)) (after_quietly (AsksAs c replies) (told older) (state older) h))

        by : (n ≡ c) ⊎ (n ≢ c) → After (AsksAs c replies) (told older) (bound_at ((state older).clients n) n port (state older))
        by (inl same) =
            subst (λ (m : ℕ). After (AsksAs c replies) (told older) (bound_at ((state older).clients m) m port (state older))) (sym same)
            (own ((state older).clients c) refl)
        by (inr other) = stays (bound_at ((state older).clients n) n port (state older))
            (shows_bound (alone c) h.seen (state older) (told older) h.shows n other ((state older).clients n) port)

    pub put_asking : (n : ℕ) (bytes : List ℕ) → MayPut (state older) ((state older).clients n) bytes
        → After (AsksAs c replies) (told older) (puts_to ((state older).clients n) n (length bytes) (state older))
    put_asking n bytes may = by (cases_eq n c)
      where
        other_puts : (o : Option Client) → (state older).clients n ≡ o → n ≢ c
            → After (AsksAs c replies) (told older) (puts_to o n (length bytes) (state older))
        other_puts None is other = after_quietly (AsksAs c replies) (told older) (state older) h
        other_puts (Some a) is other = stays (puts_to (Some a) n (length bytes) (state older))
            (shows_puts (alone c) h.seen n other (length bytes) a (state older) (told older) is
            (else_of (alone c) h.seen n a (state older) (told older) linked.owned h.shows other is) h.shows)

        by : (n ≡ c) ⊎ (n ≢ c) → After (AsksAs c replies) (told older) (puts_to ((state older).clients n) n (length bytes) (state older))
        by (inl same) =
            subst (λ (m : ℕ). After (AsksAs c replies) (told older)
            (puts_to ((state older).clients m) m (length bytes) (state older))) (sym same)
            (asks_puts c replies ((state older).clients c) bytes (state older) (told older) linked.owned refl
            (subst (λ (m : ℕ). MayPut (state older) ((state older).clients m) bytes) same may) h)
        by (inr other) = other_puts ((state older).clients n) refl other

    -- ---- it asks more
    abbrev machine_asks : Client → List ℕ → Asked
    machine_asks a bytes = asks_with (state older).devices (state older).forwards bytes (asked_before a)

    pub asks_more : (a : Client) (bytes : List ℕ) → (state older).clients c ≡ Some a → (machine_asks a bytes).next ≡ None
        → After (AsksAs c (replies ++ (machine_asks a bytes).replies)) (told older) (reads_from (Some a) c bytes (state older))
    asks_more a bytes is goes =
        let q : Asked = machine_asks a bytes in
        subst (λ (p : Phase). After (AsksAs c (replies ++ q.replies)) (told older) (reads_in p c bytes a (state older))) (sym phase)
        (after_next (AsksAs c (replies ++ q.replies)) (AsksAs c (replies ++ q.replies)) (told older) owed (goes_on q.next c) told_more
        (λ u now. subst (λ (o : Option Next). After (AsksAs c (replies ++ q.replies)) u (goes_on o c owed.state)) (sym goes)
        (after_quietly (AsksAs c (replies ++ q.replies)) u owed.state now)))
      where
        row : seen_client a ≡ record { phase = Asking; forwarded = false; due = h.due }
        row =
            let r = asking_row c replies (Some a) (state older) (told older) h is in
            let same : r.0 ≡ a = (let both : Some r.0 ≡ Some a = sym r.1 in cc) in
            sym (ap seen_client same) ∙ r.2

        phase : a.about.phase ≡ Asking
        phase = ap (λ (x : SeenClient). x.phase) row

        owed : Made
        owed = owe_client c (machine_asks a bytes).replies (to_client c (has_asked (machine_asks a bytes)) (state older))

        new_row : Client
        new_row = record a { about = record a.about { selected = (machine_asks a bytes).selected }; held = (machine_asks a bytes).rest }

        told_more : After (AsksAs c (replies ++ (machine_asks a bytes).replies)) (told older)
            (owe_client c (machine_asks a bytes).replies (to_client c (has_asked (machine_asks a bytes)) (state older)))
        told_more =
            let q : Asked = machine_asks a bytes in
            let u : View = with_client (Some (seen_client a)) h.seen in record {
              seen = owed_more q.replies (seen_client a) u;
              shows = own_due (alone c) u q.replies
                  (record a { about = record a.about { selected = q.selected }; held = q.rest })
                  (to_client c (has_asked q) (state older)) (told older) (changed_here c (has_asked q) (state older).clients a is)
                  (own_client (alone c) h.seen (has_asked q) a (state older) (told older) is h.shows);
              stream = h.stream;
              due = a.due ++ q.replies;
              client = ap (λ (x : SeenClient). Some (record x { due = a.due ++ q.replies })) row;
              output = ap (λ (x : List ℕ). x ++ q.replies) h.output;
            }
