-- The entries by which a stream is born.
use Rattle.adb_reply.specs.declared.answer.Next.{Next}
use Rattle.adb_forward.specs.declared.row.ForwardRow.{ForwardRow}
use Rattle.adb_stream.specs.Stream.{new_stream}
use Rattle.adb_stream.specs.Flow.{new_flow}
use Rattle.adb_history.specs.Rows.{new_client, in_phase, Client, State, to_client}
use Rattle.adb_history.specs.Events.{due_to_client, Made, owed_to, quietly}
use Rattle.adb_history.specs.Links.{is_credit, is_connected}
use Rattle.adb_history.specs.Streams.{stream_ids, asks_for, no_ids_left, opens}
use Rattle.adb_history.specs.Reading.{enters_by, enters, comes, comes_in_vain, goes_on, reads_in, reads_from, reads, has_asked}
use Rattle.adb_history.specs.Book.{newly, devices, forwards, asked}
use Rattle.adb_history.specs.Births.{birth_by, birth_through, births_at, Birth}
use Rattle.adb_history.specs.Tied.{bytes_asked, came_count}
use Rattle.std.specs.Prelude.{slice_get, nat_eq}
use Rattle.adb_outside.specs.Tables.{at}
use Rattle.adb_laws_causes.proofs.Silent.{AreSilent}
use Rattle.adb_laws_causes.proofs.AsksSteps.{all_ask}
use Rattle.std.proofs.Common.{◌≡◌, ◌<◌, ◌+◌, ℕ, Bool, true, false, cond, not, ◌&&◌, ◌||◌, List, [], ◌∷◌, ◌++◌, length, drop, Option, Some}
use Rattle.std.proofs.Common.{None, refl}
use Rattle.std.proofs.Common.{sym, ap, subst, ◌∙◌, eqb, arith, length-append}
use Rattle.std.proofs.lemmas.Bool.{eq-eqb}
use Rattle.adb_client.specs.declared.phase.Phase.{Phase}
use Rattle.adb_client.specs.declared.phase.Phase.TheVariants.{Asking, Opening, Streaming, Binding, Tracking, Closing, Gone}
use Rattle.adb_stream.specs.declared.row.Stream.{Stream}
use Rattle.adb_capture.specs.declared.entry.Entry.TheVariants.{Enter, Read, End}
use Rattle.adb_history.specs.Asking.{Asked}
use Rattle.adb_history.specs.Machine.{History, state, IsLegal}
use Rattle.adb_history.specs.Bytes.{bytes_read, brought, has_ended}
use Rattle.adb_history.specs.Lives.{output_of}
use Rattle.adb_history.proofs.Books.{all_books}
use Rattle.std.proofs.lemmas.List.{append-nil}
use Rattle.adb_history.proofs.Following.{changed_here}
use Rattle.adb_history.proofs.OutputEntries.{tied}
use Rattle.adb_history.proofs.Booked.{said, SameAsked}
use Rattle.adb_registry.specs.Registry.{DeviceTable}
use Rattle.adb_history.proofs.BookReads.{replied_is, replied_row}
use Rattle.adb_history.proofs.BookTurns.{all_unheard}
use Rattle.adb_history.specs.Clients.{owe_client}
use Rattle.adb_laws_causes.proofs.Asks.{AsksAsTold, now_said, same_said, parts, open_before, asked_now, unused_now}
use Rattle.adb_reply.specs.declared.answer.Next.TheVariants as what
use Rattle.adb_laws_causes.proofs.Newborn.{Newborn}
use Rattle.adb_laws_causes.proofs.Fates.{is_false as not_true}

-- ---- a service is asked for
-- a stream is drawn by what follows a request
record Drew (n : ℕ) (next : Option Next) (s : State) : Type 0 where
  transport : ℕ
  service : List ℕ
  is : next ≡ Some (what.Open transport service)
  made : goes_on next n s ≡ asks_for (s.drawn + 1) n transport service s

module _ (l : ℕ) (s : State) (none : s.streams l ≡ None) where
  still_none : (m : Made) (y : Stream) → m.state.streams l ≡ s.streams l → m.state.streams l ≡ Some y → ⊥
  still_none m y same is = let clash : None ≡ Some y = sym none ∙ (sym same ∙ is) in cc

  opens_drew : (forwarded : Bool) (n t : ℕ) (service : List ℕ) (y : Stream) → (opens forwarded n t service s).state.streams l ≡ Some y
      → opens forwarded n t service s ≡ asks_for (s.drawn + 1) n t service s
  opens_drew forwarded n t service y is = go (eqb s.drawn stream_ids) is
    where
      ids : (b : Bool) → (no_ids_left b n s).state.streams l ≡ Some y → ⊥
      ids true f = still_none (no_ids_left true n s) y refl f
      ids false f = still_none (no_ids_left false n s) y refl f

      go : (b : Bool) → (cond b (no_ids_left forwarded n s) (asks_for (s.drawn + 1) n t service s)).state.streams l ≡ Some y
          → cond b (no_ids_left forwarded n s) (asks_for (s.drawn + 1) n t service s) ≡ asks_for (s.drawn + 1) n t service s
      go false f = refl
      go true f = absurd (ids forwarded f)

  drew_next : (next : Option Next) (n : ℕ) (y : Stream) → (goes_on next n s).state.streams l ≡ Some y → Drew n next s
  drew_next None n y is = absurd (still_none (goes_on None n s) y refl is)
  drew_next (Some what.Close) n y is = absurd (still_none (goes_on (Some what.Close) n s) y refl is)
  drew_next (Some (what.Select id)) n y is = absurd (still_none (goes_on (Some (what.Select id)) n s) y refl is)
  drew_next (Some (what.Track long)) n y is = absurd (still_none (goes_on (Some (what.Track long)) n s) y refl is)
  drew_next (Some (what.Open t service)) n y is =
      record { transport = t; service = service; is = refl; made = opens_drew false n t service y is }
  drew_next (Some (what.Bind transport local remote chosen)) n y is =
      absurd (still_none (goes_on (Some (what.Bind transport local remote chosen)) n s) y refl is)
  drew_next (Some (what.Rebind transport local remote)) n y is =
      absurd (still_none (goes_on (Some (what.Rebind transport local remote)) n s) y refl is)
  drew_next (Some (what.Unbind local)) n y is = absurd (still_none (goes_on (Some (what.Unbind local)) n s) y refl is)
  drew_next (Some what.UnbindAll) n y is = absurd (still_none (goes_on (Some what.UnbindAll) n s) y refl is)
  drew_next (Some what.Stop) n y is = absurd (let clash : None ≡ Some y = is in cc)

-- what is left then
drawn_row_is : (l n t : ℕ) (service : List ℕ) (s : State) → l ≡ s.drawn + 1
    → (asks_for (s.drawn + 1) n t service s).state.streams l ≡ Some (new_stream l n t (new_flow (is_credit t s.devices)))
drawn_row_is l n t service s next =
    ap (λ b. cond b (Some (new_stream (s.drawn + 1) n t (new_flow (is_credit t s.devices)))) (s.streams l))
    (eq-eqb (s.drawn + 1) l (sym next))
    ∙ ap (λ i. Some (new_stream i n t (new_flow (is_credit t s.devices)))) (sym next)

drawn_client_is : (n t : ℕ) (service : List ℕ) (s : State) (k : Client) → s.clients n ≡ Some k
    → (asks_for (s.drawn + 1) n t service s).state.clients n ≡ Some (record k { about = record k.about { phase = Opening (s.drawn + 1) } })
drawn_client_is n t service s k is = changed_here n (in_phase (Opening (s.drawn + 1))) s.clients k is

-- ---- the bytes of a client whose input goes on
asked_read : (c : ℕ) (h : History) → has_ended c h ≡ false → bytes_asked c h ≡ bytes_read c h
asked_read c [] on = refl
asked_read c (Read n bytes ∷ older) on = go (nat_eq n c) (asked_read c older on)
  where
    go : (b : Bool) → bytes_asked c older ≡ bytes_read c older
        → cond (b && not (has_ended c older)) (bytes_asked c older ++ bytes) (bytes_asked c older)
        ≡ cond b (bytes_read c older ++ bytes) (bytes_read c older)
    go true e = ap (λ x. cond (not x) (bytes_asked c older ++ bytes) (bytes_asked c older)) on ∙ ap (λ w. w ++ bytes) e
    go false e = e
asked_read c (End n cause ∷ older) on = asked_read c older (right (nat_eq n c) (has_ended c older) on)
  where
    right : (a b : Bool) → (a || b) ≡ false → b ≡ false
    right true b e = absurd (let clash : true ≡ false = e in cc)
    right false b e = e
asked_read c (_ ∷ older) on = asked_read c older on

-- ---- by a request
module _ (c : ℕ) (bytes : List ℕ) (older : History) (legal : IsLegal (Read c bytes ∷ older)) (l : ℕ)
    (next : l ≡ (state older).drawn + 1) where
  module _ (k0 : Client) (here : (state older).clients c ≡ Some k0) (asks : k0.about.phase ≡ Asking) where
    abbrev p : Asked
    p = now_said c bytes older legal k0 here asks

    abbrev s1 : State
    s1 = (owe_client c p.replies (to_client c (has_asked p) (state older))).state

    abbrev q : SameAsked (said c older) k0
    q = same_said c bytes older legal k0 here asks

    abbrev row0 : Client
    row0 = replied_row c bytes k0 (state older) (asked c older) here asks q.rest q.selected (open_before c bytes older legal k0 here asks)

    row_here : s1.clients c ≡ Some row0
    row_here = replied_is c bytes k0 (state older) (asked c older) here asks q.rest q.selected
        (open_before c bytes older legal k0 here asks)

    -- its birth
    birth_is : (b : Birth) (d : Drew c p.next s1) → slice_get (births_at (Read c bytes) older) 0 ≡ Some b
        → record {
          client = c;
          link = d.transport;
          credit = is_credit d.transport (devices older);
          forwarded = false;
          service = d.service;
          head = (asked c (Read c bytes ∷ older)).used;
          packets_before = length (brought d.transport older);
        } ≡ b
    birth_is b d is =
        let asked_next : newly (asked c older).next (asked c (Read c bytes ∷ older)).next ≡ Some (what.Open d.transport d.service) =
        ap (λ x. newly x (asked c (Read c bytes ∷ older)).next) (open_before c bytes older legal k0 here asks)
        ∙ (ap (λ (a : Asked). a.next) (asked_now c bytes older legal k0 here asks) ∙ d.is) in
        let both : Some (record {
          client = c;
          link = d.transport;
          credit = is_credit d.transport (devices older);
          forwarded = false;
          service = d.service;
          head = (asked c (Read c bytes ∷ older)).used;
          packets_before = length (brought d.transport older);
        }) ≡ Some b = sym (ap (λ x. slice_get (birth_by c (asked c (Read c bytes ∷ older)).used older x) 0) asked_next) ∙ is in
        cc

    input_is : bytes_asked c older ++ bytes ≡ bytes_read c (Read c bytes ∷ older)
    input_is =
        let on = not_true (has_ended c older) (parts c bytes older legal k0 here asks).1 in
        ap (λ w. w ++ bytes) (asked_read c older on)
        ∙ sym (ap (λ b. cond b (bytes_read c older ++ bytes) (bytes_read c older)) (eq-eqb c c refl))

    request_newborn : (b : Birth) → AsksAsTold older c k0 → Drew c p.next s1 → slice_get (births_at (Read c bytes) older) 0 ≡ Some b
        → Newborn (Read c bytes) older l b
    request_newborn b t d is = subst (Newborn (Read c bytes) older l) (birth_is b d is) (record {
      client = record row0 { about = record row0.about { phase = Opening ((state older).drawn + 1) } };
      is = ap (λ (m : Made). m.state.streams l) made ∙ (drawn_row_is l c d.transport d.service s1 next
          ∙ ap (λ (x : DeviceTable). Some (new_stream l c d.transport (new_flow (is_credit d.transport x))))
          (all_books older legal.0).devices);
      here = ap (λ (m : Made). m.state.clients c) made ∙ drawn_client_is c d.transport d.service s1 row0 row_here;
      silent = subst (λ (m : Made). AreSilent l m.told) (sym made) (record { write = refl; credit = refl }, tt);
      output =
          let told : length (owed_to c (reads c bytes (state older)).told) ≡ length p.replies =
          ap (λ (m : Made). length (owed_to c m.told)) made
          ∙ (ap (λ b. length (cond b p.replies [] ++ [])) (eq-eqb c c refl) ∙ ap length (append-nil p.replies)) in
          let replies : length (asked c (Read c bytes ∷ older)).replies ≡ length (asked c older).replies + length p.replies =
          ap (λ (a : Asked). length a.replies) (asked_now c bytes older legal k0 here asks)
          ∙ length-append (asked c older).replies p.replies in
          omega (arith, told, replies, t.output);
      forwarded = t.forwarded;
      input = t.ended;
      before = refl;
      received = refl;
      head = (let size : length (bytes_asked c older ++ bytes) ≡ length (bytes_read c (Read c bytes ∷ older)) = ap length input_is in
          let within = (unused_now c bytes older legal k0 here asks).within in omega (arith, size, within));
      held = ap (λ (a : Asked). a.rest) (sym (asked_now c bytes older legal k0 here asks))
          ∙ ((unused_now c bytes older legal k0 here asks).rest ∙ ap (drop (asked c (Read c bytes ∷ older)).used) input_is);
      above = omega (arith, next);
    })
      where
        made : reads c bytes (state older) ≡ record {
          state = (asks_for ((state older).drawn + 1) c d.transport d.service s1).state;
          told = due_to_client c p.replies ∷ (asks_for ((state older).drawn + 1) c d.transport d.service s1).told;
        }
        made = ap (λ o. reads_from o c bytes (state older)) here
            ∙ (ap (λ phase. reads_in phase c bytes k0 (state older)) asks
            ∙ ap (λ (m : Made). record { state = m.state; told = due_to_client c p.replies ∷ m.told }) d.made)

  pub read_newborn : (b : Birth) (y : Stream) → (reads c bytes (state older)).state.streams l ≡ Some y → (state older).streams l ≡ None
      → slice_get (births_at (Read c bytes) older) 0 ≡ Some b → Newborn (Read c bytes) older l b
  read_newborn b y is none birth = go ((state older).clients c) refl is
    where
      still : (m : Made) → m.state.streams l ≡ (state older).streams l → m.state.streams l ≡ Some y → ⊥
      still m same f = let clash : None ≡ Some y = sym none ∙ (sym same ∙ f) in cc

      phases : (k0 : Client) → (state older).clients c ≡ Some k0 → (phase : Phase) → k0.about.phase ≡ phase
          → (reads_in phase c bytes k0 (state older)).state.streams l ≡ Some y → Newborn (Read c bytes) older l b
      phases k0 here Asking e f =
          request_newborn k0 here e b (all_ask older legal.0 c k0 here e) (drew_next l (s1 k0 here e) none
          (now_said c bytes older legal k0 here e).next c y f) birth
      phases k0 here (Opening i) e f = absurd (still (reads_in (Opening i) c bytes k0 (state older)) refl f)
      phases k0 here (Streaming i) e f = absurd (still (reads_in (Streaming i) c bytes k0 (state older)) refl f)
      phases k0 here Binding e f = absurd (still (reads_in Binding c bytes k0 (state older)) refl f)
      phases k0 here Tracking e f = absurd (still (reads_in Tracking c bytes k0 (state older)) refl f)
      phases k0 here Closing e f = absurd (still (reads_in Closing c bytes k0 (state older)) refl f)
      phases k0 here Gone e f = absurd (still (reads_in Gone c bytes k0 (state older)) refl f)

      go : (o : Option Client) → (state older).clients c ≡ o
          → (reads_from o c bytes (state older)).state.streams l ≡ Some y → Newborn (Read c bytes) older l b
      go None e f = absurd (still (quietly (state older)) refl f)
      go (Some k0) e f = phases k0 e k0.about.phase refl f

-- ---- by a client that comes through a forward
module _ (n port : ℕ) (older : History) (legal : IsLegal (Enter n port ∷ older)) (l : ℕ) (next : l ≡ (state older).drawn + 1) where
  abbrev came : State
  came = comes true n (state older)

  -- its birth
  through_is : (b : Birth) (row : ForwardRow) → at port (state older).forwards ≡ Some row
      → is_connected row.transport (state older).devices ≡ true
      → slice_get (births_at (Enter n port) older) 0 ≡ Some b
      → record {
        client = n;
        link = row.transport;
        credit = is_credit row.transport (devices older);
        forwarded = true;
        service = row.remote;
        head = 0;
        packets_before = length (brought row.transport older);
      } ≡ b
  through_is b row found on is =
      let books = all_books older legal.0 in
      let same : birth_through n older (at port (forwards older)) ≡ birth_through n older (Some row) =
      ap (λ f. birth_through n older (at port f)) (sym books.forwards) ∙ ap (birth_through n older) found in
      let connected : is_connected row.transport (devices older) ≡ true = ap (is_connected row.transport) (sym books.devices) ∙ on in
      let b0 : Birth = record {
        client = n;
        link = row.transport;
        credit = is_credit row.transport (devices older);
        forwarded = true;
        service = row.remote;
        head = 0;
        packets_before = length (brought row.transport older);
      } in
      let both : Some b0 ≡ Some b =
      sym (ap (λ xs. slice_get xs 0) same ∙ ap (λ c. slice_get (cond c (b0 ∷ []) []) 0) connected) ∙ is in
      cc

  through_newborn : (b : Birth) (row : ForwardRow) → at port (state older).forwards ≡ Some row
      → is_connected row.transport (state older).devices ≡ true
      → slice_get (births_at (Enter n port) older) 0 ≡ Some b
      → enters n port (state older) ≡ asks_for ((state older).drawn + 1) n row.transport row.remote (comes true n (state older))
      → Newborn (Enter n port) older l b
  through_newborn b row found on birth made =
      let t = tied older legal.0 in
      let fresh : came_count older < n = omega (arith, legal.2.1, t.joined) in
      let unheard = all_unheard older legal.0 n fresh in
      let unread : bytes_read n older ≡ [] = sym (asked_read n older unheard.ended) ∙ unheard.input in
      let here : came.clients n ≡ Some (new_client true n) =
      ap (λ c. cond c (Some (new_client true n)) ((state older).clients n)) (eq-eqb n n refl) in
      let silent_out : length (output_of n older) ≡ 0 = ap length (t.told.clients n fresh) in
      let silent_now : length (owed_to n (enters n port (state older)).told) ≡ 0 = ap (λ (m : Made). length (owed_to n m.told)) made in
      subst (Newborn (Enter n port) older l) (through_is b row found on birth) (record {
        client = record (new_client true n) { about = record (new_client true n).about { phase = Opening ((state older).drawn + 1) } };
        is = ap (λ (m : Made). m.state.streams l) made ∙ (drawn_row_is l n row.transport row.remote came next
            ∙ ap (λ (x : DeviceTable). Some (new_stream l n row.transport (new_flow (is_credit row.transport x))))
            (all_books older legal.0).devices);
        here = ap (λ (m : Made). m.state.clients n) made ∙ drawn_client_is n row.transport row.remote came (new_client true n) here;
        silent = subst (λ (m : Made). AreSilent l m.told) (sym made) (record { write = refl; credit = refl }, tt);
        output = omega (arith, silent_out, silent_now);
        forwarded = refl;
        input = refl;
        before = refl;
        received = refl;
        head = omega arith;
        held = sym unread;
        above = omega (arith, next);
      })

  pub enter_newborn : (b : Birth) (y : Stream) → (enters n port (state older)).state.streams l ≡ Some y → (state older).streams l ≡ None
      → slice_get (births_at (Enter n port) older) 0 ≡ Some b → Newborn (Enter n port) older l b
  enter_newborn b y is none birth = go (at port (state older).forwards) refl is
    where
      still : (m : Made) → m.state.streams l ≡ (state older).streams l → m.state.streams l ≡ Some y → ⊥
      still m same f = let clash : None ≡ Some y = sym none ∙ (sym same ∙ f) in cc

      joined_row : (row : ForwardRow) → at port (state older).forwards ≡ Some row → (c : Bool)
          → is_connected row.transport (state older).devices ≡ c
          → (cond c (opens true n row.transport row.remote came) (quietly (comes_in_vain (state older)))).state.streams l ≡ Some y
          → Newborn (Enter n port) older l b
      joined_row row found false e f = absurd (still (quietly (comes_in_vain (state older))) refl f)
      joined_row row found true e f =
          let opened = opens_drew l came none true n row.transport row.remote y f in
          through_newborn b row found e birth (ap (λ o. enters_by n o (state older)) found
          ∙ (ap (λ c. cond c (opens true n row.transport row.remote came) (quietly (comes_in_vain (state older)))) e ∙ opened))

      go : (o : Option ForwardRow) → at port (state older).forwards ≡ o → (enters_by n o (state older)).state.streams l ≡ Some y
          → Newborn (Enter n port) older l b
      go None e f = absurd (still (quietly (comes_in_vain (state older))) refl f)
      go (Some row) e f = joined_row row e (is_connected row.transport (state older).devices) refl f
