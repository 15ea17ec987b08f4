-- Requests and clients that come through a forward: which stream is born by them.
use Rattle.std.proofs.Common.{◌≡◌, ℕ, ◌+◌, zero, suc, Bool, true, false, cond, All, List, [], ◌∷◌, ◌++◌, Option, Some, None, refl, sym, ap}
use Rattle.std.proofs.Common.{subst, ◌∙◌, inl}
use Rattle.std.proofs.Common.{inr, eqb, append_assoc}
use Rattle.std.specs.Prelude.{not, length}
use Rattle.std.proofs.lemmas.Bool.{eqb-true, eqb-false, eq-eqb}
use Rattle.std.proofs.lemmas.List.Elements.{All-nil, All-weaker, All-append}
use Rattle.adb_outside.specs.Tables.{Rows, at}
use Rattle.adb_registry.specs.Registry.{DeviceTable}
use Rattle.adb_forward.specs.declared.row.ForwardRow.{ForwardRow}
use Rattle.adb_stream.specs.declared.row.Stream.{Stream}
use Rattle.adb_client.specs.declared.phase.Phase.{Phase}
use Rattle.adb_client.specs.declared.phase.Phase.TheVariants.{Asking, Opening, Streaming}
use Rattle.adb_reply.specs.declared.answer.Next.{Next}
use Rattle.adb_reply.specs.declared.answer.Next.TheVariants as what
use Rattle.adb_reply.specs.Strings.{failed}
use Rattle.std.specs.Prelude.{codes}
use Rattle.adb_capture.specs.declared.entry.Entry.TheVariants.{Enter, Read}
use Rattle.adb_history.specs.Rows.{Client, State, to_client, with_held}
use Rattle.adb_history.specs.Events.{Made, Event, quietly, then_also, due_to_client, ended}
use Rattle.adb_history.specs.declared.ending.Ending.TheVariants.{Stopped}
use Rattle.adb_history.specs.Links.{wants_sums, check_on, open_packet, is_connected, is_credit}
use Rattle.adb_history.specs.Clients.{owe_client}
use Rattle.adb_history.specs.Streams.{stream_ids, no_ids_left, asks_for, opens}
use Rattle.adb_history.specs.Losing.{tells_stop, all_stop, stops}
use Rattle.adb_history.specs.Asking.{Asked, asks_with}
use Rattle.adb_history.specs.Reading.{comes, comes_in_vain, enters_by, goes_on, asked_before, has_asked, asks, reads_in, reads_from}
use Rattle.adb_history.specs.Machine.{History, state, May, IsLegal}
use Rattle.adb_history.specs.Book.{book, devices, forwards, asked, asked_with, newly, is_asking, still_asks}
use Rattle.adb_history.specs.Bytes.{has_joined, has_ended, brought}
use Rattle.adb_history.specs.Births.{Birth, birth_by, birth_through, births_at}
use Rattle.adb_history.specs.Tied.{IsBookOf}
use Rattle.adb_history.proofs.Asked.{behind}
use Rattle.adb_history.proofs.Booked.{asks_in, asks_now, said, SameAsked, IsAs}
use Rattle.adb_history.proofs.BookReads.{none_next, newly_same, and_parts, asked_all}
use Rattle.adb_history.proofs.Books.{booked, all_books}
use Rattle.adb_laws_births.specs.Going.{GoOn, IsFrom, Goes}
use Rattle.adb_laws_births.specs.Drawing.{with_drawn, Draws, Opens, Makes}
use Rattle.adb_laws_births.proofs.Going.{go_on_same, go_on_then, goes_quiet, goes_then, from_before, check_short, one_from}
use Rattle.adb_laws_births.proofs.GoingEnds.{goes_closes_with}

-- ---- one rule after another
-- what was told before
goes_after : (streams : Rows (Option Stream)) (drawn : ℕ) (told : List Event) (m : Made) → All (IsFrom streams) told → Goes streams drawn m
    → Goes streams drawn (record { state = m.state; told = told ++ m.told })
goes_after streams drawn told m from h =
    record { rows = h.rows; drawn_is = h.drawn_is; told = All-append (IsFrom streams) told m.told from h.told }

draws_after : (streams : Rows (Option Stream)) (drawn : ℕ) (b : Birth) (told : List Event) (m : Made) → All (IsFrom streams) told
    → Draws streams drawn b m → Draws streams drawn b (record { state = m.state; told = told ++ m.told })
draws_after streams drawn b told m from h = record {
  rows = h.rows;
  drawn_is = h.drawn_is;
  first = told ++ h.first;
  check = h.check;
  word = h.word;
  last = h.last;
  told_is = ap (λ (x : List Event). told ++ x) h.told_is ∙ sym (append_assoc told h.first _);
  before = All-append (IsFrom streams) told h.first from h.before;
  after = h.after;
}

makes_after : (streams : Rows (Option Stream)) (drawn : ℕ) (bs : List Birth) (told : List Event) (m : Made) → All (IsFrom streams) told
    → Makes streams drawn bs m → Makes streams drawn bs (record { state = m.state; told = told ++ m.told })
makes_after streams drawn [] told m from h = goes_after streams drawn told m from h
makes_after streams drawn (b ∷ []) told m from (inl full) = inl (full.0, goes_after streams drawn told m from full.1)
makes_after streams drawn (b ∷ []) told m from (inr some) = inr (some.0, draws_after streams drawn b told m from some.1)
makes_after streams drawn (b ∷ c ∷ bs) told m from h = absurd h

-- and what is made then
draws_goes : (streams : Rows (Option Stream)) (drawn : ℕ) (b : Birth) (m : Made) (rule : State → Made) → Draws streams drawn b m
    → Goes m.state.streams m.state.drawn (rule m.state) → Draws streams drawn b (then_also m rule)
draws_goes streams drawn b m rule h k = record {
  rows = go_on_then (with_drawn drawn b streams) m.state.streams (rule m.state).state.streams h.rows k.rows;
  drawn_is = k.drawn_is ∙ h.drawn_is;
  first = h.first;
  check = h.check;
  word = h.word;
  last = h.last ++ (rule m.state).told;
  told_is = ap (λ (x : List Event). x ++ (rule m.state).told) h.told_is ∙ append_assoc h.first (_ ∷ h.last) (rule m.state).told;
  before = h.before;
  after = All-append (IsFrom (with_drawn drawn b streams)) h.last (rule m.state).told h.after
      (All-weaker (IsFrom m.state.streams) (IsFrom (with_drawn drawn b streams))
      (from_before (with_drawn drawn b streams) m.state.streams h.rows)
      (rule m.state).told k.told);
}

pub makes_goes : (streams : Rows (Option Stream)) (drawn : ℕ) (bs : List Birth) (m : Made) (rule : State → Made) → Makes streams drawn bs m
    → Goes m.state.streams m.state.drawn (rule m.state) → Makes streams drawn bs (then_also m rule)
makes_goes streams drawn [] m rule h k = goes_then streams drawn m rule h k
makes_goes streams drawn (b ∷ []) m rule (inl full) k = inl (full.0, goes_then streams drawn m rule full.1 k)
makes_goes streams drawn (b ∷ []) m rule (inr some) k = inr (some.0, draws_goes streams drawn b m rule some.1 k)
makes_goes streams drawn (b ∷ c ∷ bs) m rule h k = absurd h

-- ---- service
goes_no_ids : (forwarded : Bool) (c : ℕ) (s : State) → Goes s.streams s.drawn (no_ids_left forwarded c s)
goes_no_ids true c s = record { rows = go_on_same s.streams; drawn_is = refl; told = All-nil (IsFrom s.streams) }
goes_no_ids false c s = goes_closes_with c (failed (codes "no stream ids left")).bytes s

draws_asks : (b : Birth) (s : State) → b.credit ≡ is_credit b.link s.devices
    → Draws s.streams s.drawn b (asks_for (s.drawn + 1) b.client b.link b.service s)
draws_asks b s credit =
    subst (λ (x : Bool). Draws s.streams s.drawn (record b { credit = x })
    (asks_for (s.drawn + 1) b.client b.link b.service s)) (sym credit) (record {
      rows = go_on_same (asks_for (s.drawn + 1) b.client b.link b.service s).state.streams;
      drawn_is = refl;
      first = [];
      check = check_on (wants_sums (s.links b.link)) (open_packet (is_credit b.link s.devices) (s.drawn + 1) b.service);
      word = check_short (wants_sums (s.links b.link)) (open_packet (is_credit b.link s.devices) (s.drawn + 1) b.service);
      last = [];
      told_is = refl;
      before = All-nil (IsFrom s.streams);
      after = All-nil (IsFrom (with_drawn s.drawn (record b { credit = is_credit b.link s.devices }) s.streams));
    })

opens_makes : (b : Birth) (s : State) → b.credit ≡ is_credit b.link s.devices
    → Opens s.streams s.drawn b (opens b.forwarded b.client b.link b.service s)
opens_makes b s credit = go (eqb s.drawn stream_ids) refl
  where
    go : (x : Bool) → eqb s.drawn stream_ids ≡ x → Opens s.streams s.drawn b
        (cond x (no_ids_left b.forwarded b.client s) (asks_for (s.drawn + 1) b.client b.link b.service s))
    go true e = inl (eqb-true s.drawn stream_ids e, goes_no_ids b.forwarded b.client s)
    go false e = inr (eqb-false s.drawn stream_ids e, draws_asks b s credit)

-- ---- kill
tells_from : (l : ℕ) (o : Option Stream) (streams : Rows (Option Stream)) → All (IsFrom streams) (tells_stop l o)
tells_from l None streams = All-nil (IsFrom streams)
tells_from l (Some stream) streams = go stream.part.orphan
  where
    go : (b : Bool) → All (IsFrom streams) (cond b [] (ended l Stopped ∷ []))
    go true = All-nil (IsFrom streams)
    go false = one_from streams (ended l Stopped) tt

stops_from : (k : ℕ) (rows streams : Rows (Option Stream)) → All (IsFrom streams) (all_stop k rows)
stops_from zero rows streams = All-nil (IsFrom streams)
stops_from (suc k) rows streams =
    All-append (IsFrom streams) (all_stop k rows) (tells_stop (suc k) (rows (suc k))) (stops_from k rows streams)
    (tells_from (suc k) (rows (suc k)) streams)

goes_stops : (c : ℕ) (s : State) → Goes s.streams s.drawn (stops c s)
goes_stops c s = record {
  rows = λ l b is. absurd (let clash : None ≡ Some b = is in cc);
  drawn_is = refl;
  told = stops_from s.drawn s.streams s.streams;
}

-- ---- read
pub goes_as : (s next : State) → next.streams ≡ s.streams → next.drawn ≡ s.drawn → Goes s.streams s.drawn (quietly next)
goes_as s next same drawn = record {
  rows = subst (λ (x : Rows (Option Stream)). GoOn s.streams x) (sym same) (go_on_same s.streams);
  drawn_is = drawn;
  told = All-nil (IsFrom s.streams);
}

goes_on_makes : (next : Option Next) (c used : ℕ) (older : History) (s : State) → devices older ≡ s.devices
    → Makes s.streams s.drawn (birth_by c used older next) (goes_on next c s)
goes_on_makes None c used older s same = goes_quiet s
goes_on_makes (Some (what.Select id)) c used older s same = goes_quiet s
goes_on_makes (Some (what.Open t service)) c used older s same = opens_makes _ s (ap (is_credit t) same)
goes_on_makes (Some what.Stop) c used older s same = goes_stops c s
goes_on_makes _ c used older s same = goes_as s _ refl refl

module _ (older : History) (legal : IsLegal older) where
  abbrev s : State
  s = state older

  books : IsBookOf older
  books = all_books older legal

  module _ (c : ℕ) (bytes : List ℕ) (may : May s (Read c bytes)) where
    -- what follows a request of these bytes
    abbrev pub read_next : Option Next
    read_next = newly (asked c older).next (asked c (Read c bytes ∷ older)).next

    is_as : IsAs (s.clients c) (said c older)
    is_as = (booked older legal).clients may.0 c

    -- what it asked with these bytes, as the entries say
    asked_now : (asking : Bool) → (said c older).asking ≡ asking
        → asked c (Read c bytes ∷ older) ≡ asked_with asking s.devices s.forwards bytes (asked c older)
    asked_now asking is =
        ap (λ (b : Bool). cond b
        (asked_with (is_asking c older (book older)) (devices older) (forwards older) bytes (asked c older))
        (asked c older))
        (eq-eqb c c refl)
        ∙ (ap (λ (b : Bool). asked_with b (devices older) (forwards older) bytes (asked c older)) is
        ∙ (ap (λ (d : DeviceTable). asked_with asking d (forwards older) bytes (asked c older)) (sym books.devices)
        ∙ ap (λ (f : List (ℕ × ForwardRow)). asked_with asking s.devices f bytes (asked c older)) (sym books.forwards)))

    -- nothing follows of a client that does not ask
    pub idle_next : asks_now (s.clients c) ≡ false → read_next ≡ None
    idle_next none =
        ap (λ (q : Asked). newly (asked c older).next q.next) (asked_now false (sym is_as.asks ∙ none)) ∙ newly_same (asked c older).next

    module _ (client : Client) (is : s.clients c ≡ Some client) (asking : client.about.phase ≡ Asking) where
      abbrev pub asks_now_with : Asked
      asks_now_with = asks_with s.devices s.forwards bytes (asked_before client)

      asks_on : (said c older).asking ≡ true
      asks_on = sym is_as.asks ∙ (ap asks_now is ∙ ap asks_in asking)

      open_next : (asked c older).next ≡ None
      open_next = none_next (asked c older).next
          (and_parts (has_joined c older) (not (has_ended c older)) (still_asks (asked c older)) asks_on).2

      same_asked : SameAsked (said c older) client
      same_asked = is_as.same client is asking

      -- what it asked before, and then what it asks with these bytes
      pub asked_is : asked c (Read c bytes ∷ older) ≡ behind (asked c older) asks_now_with
      asked_is = asked_now true asks_on ∙ asked_all c bytes client s (asked c older) is asking same_asked.rest same_asked.selected open_next

      pub asking_next : read_next ≡ asks_now_with.next
      asking_next = ap (λ (q : Asked). newly (asked c older).next q.next) asked_is
          ∙ ap (λ (n : Option Next). newly n asks_now_with.next) open_next

    abbrev used : ℕ
    used = (asked c (Read c bytes ∷ older)).used

    quiet_makes : (m : Made) → asks_now (s.clients c) ≡ false → Goes s.streams s.drawn m
        → Makes s.streams s.drawn (births_at (Read c bytes) older) m
    quiet_makes m none goes =
        subst (λ (n : Option Next). Makes s.streams s.drawn (birth_by c used older n) m) (sym (idle_next none)) goes

    asks_makes : (client : Client) → s.clients c ≡ Some client → client.about.phase ≡ Asking
        → Makes s.streams s.drawn (births_at (Read c bytes) older) (asks (asks_with s.devices s.forwards bytes (asked_before client)) c s)
    asks_makes client is asking =
        let q : Asked = asks_with s.devices s.forwards bytes (asked_before client) in
        let owed : Made = owe_client c q.replies (to_client c (has_asked q) s) in
        subst (λ (n : Option Next). Makes s.streams s.drawn (birth_by c used older n) (asks q c s)) (sym (asking_next client is asking))
        (makes_after s.streams s.drawn (birth_by c used older q.next) owed.told (goes_on q.next c owed.state)
        (one_from s.streams (due_to_client c q.replies) tt)
        (goes_on_makes q.next c used older owed.state (sym books.devices)))

    reads_in_makes : (phase : Phase) (client : Client) → s.clients c ≡ Some client → client.about.phase ≡ phase
        → Makes s.streams s.drawn (births_at (Read c bytes) older) (reads_in phase c bytes client s)
    reads_in_makes Asking client is e = asks_makes client is e
    reads_in_makes (Opening l) client is e =
        quiet_makes (quietly (to_client c (with_held (client.held ++ bytes)) s)) (ap asks_now is ∙ ap asks_in e) (goes_as s _ refl refl)
    reads_in_makes (Streaming l) client is e =
        quiet_makes (quietly (to_client c (with_held (client.held ++ bytes)) s)) (ap asks_now is ∙ ap asks_in e) (goes_as s _ refl refl)
    reads_in_makes _ client is e = quiet_makes (quietly s) (ap asks_now is ∙ ap asks_in e) (goes_quiet s)

    -- which stream is born by bytes that are read
    pub reads_make : (o : Option Client) → s.clients c ≡ o → Makes s.streams s.drawn (births_at (Read c bytes) older)
        (reads_from o c bytes s)
    reads_make None is = quiet_makes (quietly s) (ap asks_now is) (goes_quiet s)
    reads_make (Some client) is = reads_in_makes client.about.phase client is refl

  -- ---- enter
  abbrev through : ℕ → ForwardRow → Birth
  through c row = record {
    client = c;
    link = row.transport;
    credit = is_credit row.transport (devices older);
    forwarded = true;
    service = row.remote;
    head = 0;
    packets_before = length (brought row.transport older);
  }

  through_makes : (c : ℕ) (row : ForwardRow) → Makes s.streams s.drawn (birth_through c older (Some row)) (enters_by c (Some row) s)
  through_makes c row =
      subst (λ (d : DeviceTable). Makes s.streams s.drawn (birth_through c older (Some row))
      (cond (is_connected row.transport d) (opens true c row.transport row.remote (comes true c s))
      (quietly (comes_in_vain s)))) (sym books.devices)
      (go (is_connected row.transport (devices older)) refl)
    where
      go : (b : Bool) → is_connected row.transport (devices older) ≡ b
          → Makes s.streams s.drawn (cond b (through c row ∷ []) [])
          (cond b (opens true c row.transport row.remote (comes true c s)) (quietly (comes_in_vain s)))
      go true e = opens_makes (through c row) (comes true c s) (ap (is_credit row.transport) (sym books.devices))
      go false e = goes_as s (comes_in_vain s) refl refl

  -- which stream is born by a client that comes through a forward
  pub enters_make : (c port : ℕ) → Makes s.streams s.drawn (births_at (Enter c port) older) (enters_by c (at port s.forwards) s)
  enters_make c port =
      subst (λ (f : List (ℕ × ForwardRow)). Makes s.streams s.drawn (births_at (Enter c port) older)
      (enters_by c (at port f) s)) (sym books.forwards)
      (go (at port (forwards older)))
    where
      go : (o : Option ForwardRow) → Makes s.streams s.drawn (birth_through c older o) (enters_by c o s)
      go None = goes_as s (comes_in_vain s) refl refl
      go (Some row) = through_makes c row
