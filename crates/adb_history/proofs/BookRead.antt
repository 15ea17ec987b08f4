-- Bytes that are read from a client: the server keeps what the entries say.
use Rattle.std.proofs.Common.{ℕ, ◌≡◌, ◌≤◌, ◌<◌, Bool, true, false, cond, List, ◌∷◌, ◌++◌, Option, Some, None, refl, sym, ◌∙◌, ap, subst}
use Rattle.std.proofs.Common.{arith, eqb}
use Rattle.std.proofs.lemmas.Bool.{eq-eqb}
use Rattle.std.specs.Prelude.{◌&&◌, ◌||◌, not, option_and_then}
use Rattle.adb_registry.specs.Registry.{DeviceTable}
use Rattle.adb_forward.specs.declared.row.ForwardRow.{ForwardRow}
use Rattle.adb_client.specs.declared.phase.Phase.{Phase}
use Rattle.adb_client.specs.declared.phase.Phase.TheVariants.{Asking, Opening, Streaming}
use Rattle.adb_client.specs.declared.about.Want.{Want}
use Rattle.adb_reply.specs.declared.answer.Next.{Next}
use Rattle.adb_reply.specs.declared.answer.Next.TheVariants as what
use Rattle.adb_capture.specs.declared.entry.Entry.TheVariants.{Read}
use Rattle.adb_history.specs.Rows.{Client, State, to_client, with_held}
use Rattle.adb_history.specs.Events.{Made, quietly}
use Rattle.adb_history.specs.Asking.{Asked, asks_with}
use Rattle.adb_history.specs.Losing.{stops}
use Rattle.adb_history.specs.Reading.{goes_on, asked_before, asks, reads_in, reads_from, reads}
use Rattle.adb_history.specs.Machine.{History, state, May, IsLegal}
use Rattle.adb_history.specs.Bytes.{has_joined, has_ended}
use Rattle.adb_history.specs.Book.{plugged_count, devices_if, book, asked, still_asks, newly, forwards_by, kills, wanted_by, asked_with}
use Rattle.adb_history.specs.Book.{read_turn, reads_turn}
use Rattle.adb_history.specs.Tied.{bytes_asked, came_count}
use Rattle.adb_history.proofs.AnswersWithin.{NextWithin, asks_within}
use Rattle.adb_history.proofs.OutputEntries.{IsTied, tied}
use Rattle.adb_history.proofs.TableStays.{StaysTables, IsStopped, tables_same, AskTables, asks_tables}
use Rattle.adb_history.proofs.Devices.{ShowsDevices, shows_devices}
use Rattle.adb_history.proofs.Waiting.{NoneWaits}
use Rattle.adb_history.proofs.Asked.{behind}
use Rattle.adb_history.proofs.OwnEntries.{Owns, owns_all, own_row, none_of, owns_to_client}
use Rattle.adb_history.proofs.ForwardTurns.{AreLed}
use Rattle.adb_history.proofs.Booked.{Said, said, asks_in, asks_now, wants_in, SameAsked, IsAs}
use Rattle.adb_history.proofs.BookReads.{led_next, goes_on_forwards, none_next, newly_same, and_parts, asked_all, replied_state, owns_asks}
use Rattle.adb_history.proofs.BookReads.{asks_is}
use Rattle.adb_history.proofs.BookReads.{stopped_idle}
use Rattle.adb_history.specs.Book.{Book}
use Rattle.adb_history.proofs.BookTurns.{IsUnheard, all_unheard, IsBooked}
use Rattle.adb_history.proofs.BookClients.{is_other, booked_owns, devices_now}

or_false : (x : Bool) → (x || false) ≡ x
or_false true = refl
or_false false = refl

kills_is : (next : Option Next) → kills next ≡ true → next ≡ Some what.Stop
kills_is (Some what.Stop) e = refl
kills_is _ e = let clash : false ≡ true = e in cc

-- a client that holds more, and does not ask
other_held : (client : Client) (held : List ℕ) (r : Said) → asks_in client.about.phase ≡ false → IsAs (Some client) r
    → IsAs (Some (record client { held = held })) r
other_held client held r none h = record {
  asks = h.asks;
  waits = h.waits;
  same = λ a e f.
      let row : record client { held = held } ≡ a = let both : Some (record client { held = held }) ≡ Some a = e in cc in
      let clash : true ≡ false = sym (ap asks_in f) ∙ (ap (λ (x : Client). asks_in x.about.phase) (sym row) ∙ none) in cc;
}

module _ (older : History) (legal : IsLegal older) (b : IsBooked (state older) older) where
  abbrev s : State
  s = state older

  abbrev came : ℕ
  came = came_count older

  abbrev links : ℕ
  links = plugged_count older

  tie : IsTied older
  tie = tied older legal

  shows : ShowsDevices s older
  shows = shows_devices older legal

  un : (c : ℕ) → came < c → IsUnheard older c
  un = all_unheard older legal

  -- what the entries say of a client after these bytes were read from it, or from another
  abbrev said_read : List ℕ → ℕ → Bool → Book → Said
  said_read bytes c here x = record {
    asking = has_joined c older && not (has_ended c older) && still_asks (x.asked c);
    asked = x.asked c;
    input = cond (here && not (has_ended c older)) (bytes_asked c older ++ bytes) (bytes_asked c older);
    waits = x.waits c;
  }

  module _ (n : ℕ) (bytes : List ℕ) (may : May s (Read n bytes)) where
    le : n ≤ came
    le = omega (arith, may.1.1, tie.joined)

    apart_said : (x : Book) (q : Asked) (next : Option Next) (d : DeviceTable) → x ≡ read_turn n d q next (book older)
        → book (Read n bytes ∷ older) ≡ x → (c : ℕ) → eqb n c ≡ false → said c (Read n bytes ∷ older) ≡ said c older
    apart_said x q next d is same c e =
        ap (said_read bytes c (eqb n c)) (same ∙ is)
        ∙ ap (λ (here : Bool). record {
          asking = has_joined c older && not (has_ended c older) && still_asks (cond here q (asked c older));
          asked = cond here q (asked c older);
          input = cond (here && not (has_ended c older)) (bytes_asked c older ++ bytes) (bytes_asked c older);
          waits = cond here (wanted_by next ((book older).waits n)) ((book older).waits c);
        }) e

    -- ---- a client that does not ask
    read_other : (m : Made) → Owns n s m → StaysTables s m → m.state.forwards ≡ s.forwards → asks_now (m.state.clients n) ≡ false
        → (said n older).asking ≡ false → IsAs (m.state.clients n) (said n older) → IsBooked m.state (Read n bytes ∷ older)
    read_other m owns tables forwards none idle is =
        booked_owns older legal b n m (Read n bytes ∷ older) may.0 (record {
          stopped = tables.stopped;
          devices = tables.devices;
          owns = owns;
          killed = ap (λ (x : Book). x.killed) same ∙ or_false (book older).killed;
          forwards = forwards ∙ (b.forwards ∙ sym (ap (λ (x : Book). x.forwards) same));
          led = subst (λ (f : List (ℕ × ForwardRow)). AreLed s.devices f) (sym forwards) (b.led may.0);
          here = is_other (m.state.clients n) (said n older) (said n (Read n bytes ∷ older)) none (ap (λ (r : Said). r.asking) here)
              (ap (λ (r : Said). r.waits) here) is;
          others = apart_said (read_turn n d (asked n older) None (book older)) (asked n older) None d refl same;
        })
      where
        d : DeviceTable
        d = devices_if (book older).killed older

        same : book (Read n bytes ∷ older) ≡ read_turn n d (asked n older) None (book older)
        same = ap (λ (x : Bool). reads_turn n d (asked_with x d (book older).forwards bytes (asked n older)) (book older)) idle
            ∙ ap (λ (x : Option Next). read_turn n d (asked n older) x (book older)) (newly_same (asked n older).next)

        here : said n (Read n bytes ∷ older) ≡ record (said n older) {
          input = cond (eqb n n && not (has_ended n older)) (bytes_asked n older ++ bytes) (bytes_asked n older);
        }
        here = ap (said_read bytes n (eqb n n)) same
            ∙ ap (λ (x : Bool). record {
              asking = has_joined n older && not (has_ended n older) && still_asks (cond x (asked n older) (asked n older));
              asked = cond x (asked n older) (asked n older);
              input = cond (eqb n n && not (has_ended n older)) (bytes_asked n older ++ bytes) (bytes_asked n older);
              waits = cond x ((book older).waits n) ((book older).waits n);
            }) (eq-eqb n n refl)

    -- ---- a client that asks
    module _ (client : Client) (is : s.clients n ≡ Some client) (asking : client.about.phase ≡ Asking) where
      as_before : IsAs (Some client) (said n older)
      as_before = subst (λ (o : Option Client). IsAs o (said n older)) is (b.clients may.0 n)

      asks_on : (said n older).asking ≡ true
      asks_on = sym as_before.asks ∙ ap asks_in asking

      parts : (has_joined n older ≡ true) × (not (has_ended n older) ≡ true) × (still_asks (asked n older) ≡ true)
      parts = and_parts (has_joined n older) (not (has_ended n older)) (still_asks (asked n older)) asks_on

      open_next : (asked n older).next ≡ None
      open_next = none_next (asked n older).next parts.2

      same_asked : SameAsked (said n older) client
      same_asked = as_before.same client refl asking

      abbrev p : Asked
      p = asks_with s.devices s.forwards bytes (asked_before client)

      abbrev q : Asked
      q = asks_with s.devices s.forwards bytes (asked n older)

      all : q ≡ behind (asked n older) p
      all = asked_all n bytes client s (asked n older) is asking same_asked.rest same_asked.selected open_next

      same : book (Read n bytes ∷ older) ≡ read_turn n s.devices q p.next (book older)
      same =
          ap (λ (x : Bool). reads_turn n (devices_if (book older).killed older)
          (asked_with x (devices_if (book older).killed older) (book older).forwards bytes (asked n older)) (book older)) asks_on
          ∙ (ap (λ (d : DeviceTable). reads_turn n d (asks_with d (book older).forwards bytes (asked n older))
          (book older)) (sym (devices_now older legal b))
          ∙ (ap (λ (f : List (ℕ × ForwardRow)). reads_turn n s.devices (asks_with s.devices f bytes (asked n older))
          (book older)) (sym b.forwards)
          ∙ ap (λ (x : Option Next). read_turn n s.devices q x (book older))
          (ap (λ (x : Option Next). newly x q.next) open_next ∙ ap (λ (x : Asked). x.next) all)))

      within : NextWithin links p.next
      within = asks_within links s.devices tie.rows s.forwards bytes (asked_before client) tt

      waits_none : (book older).waits n ≡ None
      waits_none = sym as_before.waits ∙ ap (λ (x : Phase). wants_in x client.about.want) asking

      here : said n (Read n bytes ∷ older) ≡ record {
        asking = still_asks q;
        asked = q;
        input = bytes_asked n older ++ bytes;
        waits = wanted_by p.next None;
      }
      here = ap (said_read bytes n (eqb n n)) same
          ∙ (ap (λ (x : Bool). record {
            asking = has_joined n older && not (has_ended n older) && still_asks (cond x q (asked n older));
            asked = cond x q (asked n older);
            input = cond (x && not (has_ended n older)) (bytes_asked n older ++ bytes) (bytes_asked n older);
            waits = cond x (wanted_by p.next ((book older).waits n)) ((book older).waits n);
          }) (eq-eqb n n refl)
          ∙ (ap (λ (x : Bool). record {
            asking = x && not (has_ended n older) && still_asks q;
            asked = q;
            input = cond (not (has_ended n older)) (bytes_asked n older ++ bytes) (bytes_asked n older);
            waits = wanted_by p.next ((book older).waits n);
          }) parts.0
          ∙ (ap (λ (x : Bool). record {
            asking = x && still_asks q;
            asked = q;
            input = cond x (bytes_asked n older ++ bytes) (bytes_asked n older);
            waits = wanted_by p.next ((book older).waits n);
          }) parts.1
          ∙ ap (λ (x : Option Want). record {
            asking = still_asks q;
            asked = q;
            input = bytes_asked n older ++ bytes;
            waits = wanted_by p.next x;
          }) waits_none)))

      read_on : kills p.next ≡ false → IsBooked (asks p n s).state (Read n bytes ∷ older)
      read_on on =
          let m = asks p n s in
          let tables : StaysTables s m = subst (λ (x : Bool). AskTables x s m) on (asks_tables came links n p s le within) in
          let forwards : m.state.forwards ≡ forwards_by p.next s.devices s.forwards =
          goes_on_forwards came links n p.next (replied_state n bytes client s
          (asked n older) is asking same_asked.rest same_asked.selected open_next) le within in
          booked_owns older legal b n m (Read n bytes ∷ older) may.0 (record {
            stopped = tables.stopped;
            devices = tables.devices;
            owns = owns_asks n bytes client s (asked n older) is asking same_asked.rest same_asked.selected open_next on;
            killed = ap (λ (x : Book). x.killed) same ∙ (ap (λ (x : Bool). (book older).killed || x) on ∙ or_false (book older).killed);
            forwards = forwards ∙ (ap (forwards_by p.next s.devices) b.forwards ∙ sym (ap (λ (x : Book). x.forwards) same));
            led = subst (λ (f : List (ℕ × ForwardRow)). AreLed s.devices f) (sym forwards)
                (led_next p.next s.devices s.forwards (b.led may.0));
            here = subst (λ (r : Said). IsAs (m.state.clients n) r) (sym here)
                (asks_is n bytes client s (asked n older) is asking same_asked.rest same_asked.selected open_next
                (record { asking = still_asks q; asked = q; input = bytes_asked n older ++ bytes; waits = wanted_by p.next None })
                (bytes_asked n older) on same_asked.unused refl refl refl refl);
            others = apart_said (read_turn n s.devices q p.next (book older)) q p.next s.devices refl same;
          })

      read_kill : kills p.next ≡ true → IsBooked (asks p n s).state (Read n bytes ∷ older)
      read_kill off =
          let stop = kills_is p.next off in
          let m = asks p n s in
          let gone : IsStopped s m = subst (λ (x : Bool). AskTables x s m) off (asks_tables came links n p s le within) in
          let left = replied_state n bytes client s (asked n older) is asking same_asked.rest same_asked.selected open_next in
          let state : m.state ≡ (stops n left).state = ap (λ (x : Option Next). (goes_on x n left).state) stop in
          record {
            killed = gone.stopped
                ∙ sym (ap (λ (x : Book). x.killed) same
                ∙ (ap (λ (x : Bool). (book older).killed || x) off ∙ or_true (book older).killed));
            forwards = gone.forwards
                ∙ sym (ap (λ (x : Book). x.forwards) same ∙ ap
                (λ (x : Option Next). forwards_by x s.devices (book older).forwards) stop);
            led = λ on. let clash : true ≡ false = sym gone.stopped ∙ on in cc;
            clients = λ on c. let clash : true ≡ false = sym gone.stopped ∙ on in cc;
            idle = λ x c. subst (λ (y : State). NoneWaits (y.clients c)) (sym state)
                (stopped_idle n bytes client s (asked n older) is asking same_asked.rest same_asked.selected open_next c);
            free = λ l stream e. let clash : None ≡ Some stream = sym (ap (λ (y : State). y.streams l) state) ∙ e in cc;
          }
        where
          or_true : (x : Bool) → (x || true) ≡ true
          or_true true = refl
          or_true false = refl

      read_asking : IsBooked (asks p n s).state (Read n bytes ∷ older)
      read_asking = go (kills p.next) refl
        where
          go : (x : Bool) → kills p.next ≡ x → IsBooked (asks p n s).state (Read n bytes ∷ older)
          go true e = read_kill e
          go false e = read_on e

    pub booked_read : IsBooked (reads n bytes s).state (Read n bytes ∷ older)
    booked_read = go (s.clients n) refl
      where
        quiet : asks_now (s.clients n) ≡ false → IsBooked s (Read n bytes ∷ older)
        quiet none = read_other (quietly s) (owns_all n s (quietly s) refl refl) (tables_same s s refl refl refl) refl none
            (sym (b.clients may.0 n).asks ∙ none) (b.clients may.0 n)

        held : (client : Client) → s.clients n ≡ Some client → asks_in client.about.phase ≡ false
            → IsBooked (to_client n (with_held (client.held ++ bytes)) s) (Read n bytes ∷ older)
        held client is none =
            let next = to_client n (with_held (client.held ++ bytes)) s in
            let row : next.clients n ≡ Some (record client { held = client.held ++ bytes }) =
            own_row n (with_held (client.held ++ bytes)) s.clients ∙ ap (option_and_then (with_held (client.held ++ bytes))) is in
            read_other (quietly next)
            (owns_to_client n (with_held (client.held ++ bytes)) s
            (λ idle a e. none_of n (with_held (client.held ++ bytes) a) (record a { held = client.held ++ bytes }) refl (idle a e)))
            (tables_same s next refl refl refl) refl (ap asks_now row ∙ none) (sym (b.clients may.0 n).asks ∙ (ap asks_now is ∙ none))
            (subst (λ (o : Option Client). IsAs o (said n older)) (sym row)
            (other_held client (client.held ++ bytes) (said n older) none
            (subst (λ (o : Option Client). IsAs o (said n older)) is (b.clients may.0 n))))

        by : (client : Client) → s.clients n ≡ Some client → (phase : Phase) → client.about.phase ≡ phase
            → IsBooked (reads_in phase n bytes client s).state (Read n bytes ∷ older)
        by client is Asking e = read_asking client is e
        by client is (Opening l) e = held client is (ap asks_in e)
        by client is (Streaming l) e = held client is (ap asks_in e)
        by client is _ e = quiet (ap asks_now is ∙ ap asks_in e)

        go : (o : Option Client) → s.clients n ≡ o → IsBooked (reads_from o n bytes s).state (Read n bytes ∷ older)
        go None is = quiet (ap asks_now is)
        go (Some client) is = by client is client.about.phase refl
