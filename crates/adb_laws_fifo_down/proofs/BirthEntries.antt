-- What is promised of a stream at its birth.
use Rattle.std.proofs.Common.{ℕ, ◌+◌, ◌≡◌, ◌≢◌, ◌<◌, Bool, true, false, cond, List, [], ◌∷◌, ◌++◌, length, drop, Option, Some, None}
use Rattle.std.proofs.Common.{is_some, refl}
use Rattle.std.proofs.Common.{sym, ◌∙◌, ap, subst, eqb, arith, append_assoc, inl, inr}
use Rattle.std.proofs.lemmas.Bool.{ne_eqb, eq-eqb}
use Rattle.std.proofs.lemmas.List.{append-nil}
use Rattle.std.specs.Prelude.{◌||◌}
use Rattle.adb_outside.specs.Tables.{at}
use Rattle.adb_forward.specs.declared.row.ForwardRow.{ForwardRow}
use Rattle.adb_wire.specs.Cutting.{framed}
use Rattle.adb_wire.specs.declared.packets.Packet.{Packet}
use Rattle.adb_client.specs.declared.phase.Phase.{Phase}
use Rattle.adb_client.specs.declared.phase.Phase.TheVariants.{Asking, Opening, Streaming}
use Rattle.adb_reply.specs.declared.answer.Next.{Next}
use Rattle.adb_reply.specs.declared.answer.Next.TheVariants as what
use Rattle.adb_capture.specs.declared.entry.Entry.{Entry}
use Rattle.adb_capture.specs.declared.entry.Entry.TheVariants.{Enter, Read}
use Rattle.adb_history.specs.Rows.{Client, Link, State, new_client, to_client, with_due}
use Rattle.adb_history.specs.Events.{Made, Event, quietly, then_also, owed_to, packets_to, ending_in}
use Rattle.adb_history.specs.Links.{is_connected, is_credit}
use Rattle.adb_history.specs.Clients.{owe_client}
use Rattle.adb_history.specs.Streams.{stream_ids, asks_for, no_ids_left, opens}
use Rattle.adb_history.specs.Asking.{Asked, asks_with}
use Rattle.adb_history.specs.Reading.{comes, comes_in_vain, enters_by, asked_before, has_asked, goes_on, asks, reads_in, reads_from}
use Rattle.adb_history.specs.Machine.{rule, ups, History, state, told, IsLegal}
use Rattle.adb_history.specs.Bytes.{is_lost, bytes_put, bytes_received, brought}
use Rattle.adb_history.specs.Book.{book, asked, devices, forwards, asked_with, is_asking}
use Rattle.adb_history.specs.Births.{Birth, since}
use Rattle.adb_history.specs.Linked.{IsLinked}
use Rattle.adb_history.specs.Tied.{came_count}
use Rattle.adb_history.specs.Fifo.{okays_of}
use Rattle.adb_history.specs.Moves.{After}
use Rattle.adb_history.proofs.Following.{changed_here}
use Rattle.adb_history.proofs.Growing.{owed_append}
use Rattle.adb_history.proofs.Numbers.{counted}
use Rattle.adb_history.proofs.LinkMoves.{all_linked}
use Rattle.adb_history.proofs.Books.{all_books}
use Rattle.adb_history.proofs.OutputEntries.{connected_is, tied, all_due_past_put}
use Rattle.adb_history.proofs.Received.{ReadTie, received}
use Rattle.adb_laws_fifo_down.specs.Line.{Line, SeenStream, SeenClient, View, seen, seen_client, Shows}
use Rattle.adb_laws_fifo_down.specs.Life.{Cradle}
use Rattle.adb_laws_fifo_down.specs.Turns.{Holds}
use Rattle.adb_laws_fifo_down.specs.Follows.{line, is_shut, PromiseOf, Follows}
use Rattle.adb_laws_fifo_down.specs.Begins.{newborn, Lasts}
use Rattle.adb_laws_fifo_down.proofs.Shown.{packets_append, ending_append, first_none}
use Rattle.adb_laws_fifo_down.proofs.Others.{after_next}
use Rattle.adb_laws_fifo_down.proofs.Own.{client_seen}
use Rattle.adb_laws_fifo_down.proofs.OwnPackets.{own_row}
use Rattle.adb_laws_fifo_down.proofs.Ups.{Upped, shows_ups}
use Rattle.adb_laws_fifo_down.proofs.Askers.{AsksAs, alone, asked_then, AsksBehind, asks_behind_it}
use Rattle.adb_laws_fifo_down.proofs.Asking.{asking_at}
use Rattle.adb_laws_fifo_down.proofs.Begun.{of_another, of_older, new_row, drawn_shows}

drop_all : {A : Type 0} (xs : List A) → drop (length xs) xs ≡ []
drop_all [] = refl
drop_all (x ∷ xs) = drop_all xs

-- the link of a stream that lives brings more
not_shut : (h : History) → IsLegal h → (l : ℕ) (b : Birth) (v : View) (x : SeenStream) → v.stream ≡ Some x
    → Shows (line l b) v (state h) (told h)
    → is_shut b.link h ≡ false
not_shut h legal l b v x there shows = by ((state h).links b.link) refl
  where
    linked : IsLinked (state h)
    linked = all_linked h legal

    alive : is_some ((state h).links b.link) ≡ true
    alive =
        let row = own_row (line l b) v x (state h) (told h) there shows in
        let on = linked.on l row.0 row.1 in
        subst (λ (t : ℕ). is_some ((state h).links t) ≡ true) (shows.0.link row.0 row.1)
        (linked.rows.linked row.0.link ∙ connected_is (at row.0.link (state h).devices.rows) on.connected)

    by : (o : Option Link) → (state h).links b.link ≡ o → is_shut b.link h ≡ false
    by None none = absurd (let clash : false ≡ true = sym (ap is_some none) ∙ alive in cc)
    by (Some link) is =
        let tie : ReadTie (is_lost b.link h) (Some link) (bytes_received b.link h) =
        subst (λ (o : Option Link). ReadTie (is_lost b.link h) o (bytes_received b.link h)) is ((received h legal).links b.link) in
        ap (λ (c : Bool). c || is_some (framed (bytes_received b.link h)).fault) tie.1 ∙ ap is_some tie.0.sound

module _ {P : PromiseOf} (lasts : Lasts P) where
  -- what is promised of a newborn stream, which the up rule leaves as it is
  born_holds : (l : ℕ) (b : Birth) (e : Entry) (older : History) (k : Cradle) (due : List ℕ) → IsLegal (e ∷ older)
      → k.replies ≡ bytes_put b.client (e ∷ older) ++ due → since b (e ∷ older) ≡ []
      → After (Shows (line l b) (newborn (line l b) k due)) (told older) (rule e (state older))
      → Holds (line l b) (P (line l b) k) (since b (e ∷ older)) (is_shut b.link (e ∷ older))
      (bytes_put b.client (e ∷ older)) (state (e ∷ older))
      (told (e ∷ older))
  born_holds l b e older k due legal put none shows = record { seen = born; shows = now; keeps = promised }
    where
      born : View
      born = newborn (line l b) k due

      still : (s : State) (w : List Event) → Upped (line l b) (newborn (line l b) k due) s w
          → Shows (line l b) (newborn (line l b) k due) s w
      still s w (inl h) = h
      still s w (inr (y, h)) =
          let waits : SeenClient = record { phase = Opening l; forwarded = k.forwarded; due = due } in
          let same : waits ≡ y.client = (let both : Some waits ≡ Some y.client = y.here in cc) in
          let clash : Opening l ≡ Streaming l = ap (λ (a : SeenClient). a.phase) same ∙ y.phase in
          absurd (cc)

      now : Shows (line l b) (newborn (line l b) k due) (state (e ∷ older)) (told (e ∷ older))
      now =
          after_next (Shows (line l b) (newborn (line l b) k due)) (Shows (line l b) (newborn (line l b) k due)) (told older)
          (rule e (state older)) ups shows
          (λ u h. still (ups (rule e (state older)).state).state (u ++ (ups (rule e (state older)).state).told)
          (shows_ups (line l b) (newborn (line l b) k due) (rule e (state older)).state.drawn (rule e (state older)).state u h))

      promised : P (line l b) k (since b (e ∷ older)) (is_shut b.link (e ∷ older)) (bytes_put b.client (e ∷ older))
          (newborn (line l b) k due)
      promised =
          subst (λ (shut : Bool). P (line l b) k (since b (e ∷ older)) shut (bytes_put b.client (e ∷ older)) (newborn (line l b) k due))
          (sym (not_shut (e ∷ older) legal l b (newborn (line l b) k due) _ refl now))
          (subst (λ (ps : List Packet). P (line l b) k ps false (bytes_put b.client (e ∷ older)) (newborn (line l b) k due)) (sym none)
          (lasts.begins (line l b) k (bytes_put b.client (e ∷ older)) due put))

-- ---- what a client asks
-- a request is whole only now, of a client that asks
pub record NowAsks (c : ℕ) (bytes : List ℕ) (older : History) (next : Next) : Type 0 where
  asking : is_asking c older (book older) ≡ true
  before : (asked c older).next ≡ None
  after : (asked_with true (devices older) (forwards older) bytes (asked c older)).next ≡ Some next
  same : asked c (Read c bytes ∷ older) ≡ asks_with (devices older) (forwards older) bytes (asked c older)

pub now_asks : (c : ℕ) (bytes : List ℕ) (older : History) (next : Next) → (asked c older).next ≡ None
    → (asked c (Read c bytes ∷ older)).next ≡ Some next
    → NowAsks c bytes older next
now_asks c bytes older next before after = by (is_asking c older (book older)) refl (asked_then c bytes older)
  where
    by : (asking : Bool) → is_asking c older (book older) ≡ asking
        → asked c (Read c bytes ∷ older) ≡ asked_with asking (devices older) (forwards older) bytes (asked c older)
        → NowAsks c bytes older next
    by true e now = record { asking = e; before = before; after = ap (λ (q : Asked). q.next) (sym now) ∙ after; same = now }
    by false e now =
        let clash : None ≡ Some next = sym before ∙ (ap (λ (q : Asked). q.next) (sym now) ∙ after) in
        absurd (cc)

-- ---- the birth by a request
-- a request that opens a stream, by what the machine makes of it
opened_made : (c t : ℕ) (service : List ℕ) (q : Asked) (s : State) → eqb s.drawn stream_ids ≡ false → q.next ≡ Some (what.Open t service)
    → asks q c s ≡ then_also (owe_client c q.replies (to_client c (has_asked q) s)) (asks_for (s.drawn + 1) c t service)
opened_made c t service q s ids next =
    let owed : Made = owe_client c q.replies (to_client c (has_asked q) s) in
    ap (λ (o : Option Next). then_also owed (goes_on o c)) next
    ∙ ap (λ (b : Bool). then_also owed (λ x. cond b (no_ids_left false c x) (asks_for (s.drawn + 1) c t service x))) ids

-- the birth of a stream by the request of a client
abbrev pub asked_birth : (c t : ℕ) (service : List ℕ) (head : ℕ) → History → Birth
asked_birth c t service head older = record {
  client = c;
  link = t;
  credit = is_credit t (devices older);
  forwarded = false;
  service = service;
  head = head;
  packets_before = length (brought t older);
}

-- what had not been told of a stream that was not born
pub record IsUnborn (l t : ℕ) (w : List Event) : Type 0 where
  pub okays : okays_of l (packets_to t w) ≡ []
  pub ending : ending_in l w ≡ None

module _ {P : PromiseOf} (lasts : Lasts P) (c : ℕ) (bytes : List ℕ) (older : History)
    (legal : IsLegal (Read c bytes ∷ older)) (t : ℕ) (service : List ℕ) where
  pub read_born : (head : ℕ) → NowAsks c bytes older (what.Open t service) → (state older).drawn ≢ stream_ids
      → IsUnborn ((state older).drawn + 1) t (told older)
      → Follows P (Read c bytes ∷ older) ((state older).drawn + 1) (asked_birth c t service head older)
  read_born head now ids unborn = record {
    cradle = cradle;
    credit = ap (is_credit t) (all_books older legal.0).devices;
    forwarded = refl;
    replies = refl;
    asks_no_more = λ e. ap is_some (ap (λ (q : Asked). q.next) now.same ∙ now.after);
    came = omega (arith, legal.2.1.1, (counted older).joined);
    within = omega arith;
    holds = born_holds lasts ((state older).drawn + 1) b (Read c bytes) older cradle due legal put
        (drop_all (brought t older)) shows;
  }
    where
      b : Birth
      b = asked_birth c t service head older

      by : AsksBehind c bytes older
      by = asks_behind_it c bytes older legal.0 legal.2.0 now.asking

      asks_it : AsksAs c (asked c older).replies (state older) (told older)
      asks_it = asking_at older legal.0 legal.2.0 c now.asking

      q : Asked
      q = asks_with (state older).devices (state older).forwards bytes (asked_before by.client)

      due : List ℕ
      due = by.client.due ++ q.replies

      cradle : Cradle
      cradle = record {
        credit = is_credit t (state older).devices;
        forwarded = false;
        replies = (asked c (Read c bytes ∷ older)).replies;
      }

      told_as : (asked c older).replies ≡ owed_to c (told older)
      told_as = sym (ap (λ (v : View). v.output) asks_it.shows.1 ∙ asks_it.output)

      said : (asked c (Read c bytes ∷ older)).replies ≡ (asked c older).replies ++ q.replies
      said = ap (λ (x : Asked). x.replies) by.behind_it

      put : (asked c (Read c bytes ∷ older)).replies ≡ bytes_put c older ++ (by.client.due ++ q.replies)
      put =
          said
          ∙ (ap (λ (x : List ℕ). x ++ q.replies) (told_as ∙ all_due_past_put older legal.0 c by.client by.is)
          ∙ append_assoc (bytes_put c older) by.client.due q.replies)

      by_itself : by.client.about.forwarded ≡ false
      by_itself =
          let row : SeenClient = record { phase = Asking; forwarded = false; due = asks_it.due } in
          let same : seen_client by.client ≡ row =
          (let both : Some (seen_client by.client) ≡ Some row =
          sym (client_seen (alone c) asks_it.seen (state older) (told older) (Some by.client) asks_it.shows by.is)
          ∙ asks_it.client in cc) in
          ap (λ (a : SeenClient). a.forwarded) same

      opens_it : q.next ≡ Some (what.Open t service)
      opens_it = sym (ap (λ (x : Asked). x.next) by.behind_it) ∙ (ap (λ (x : Asked). x.next) now.same ∙ now.after)

      owed : Made
      owed = owe_client c q.replies (to_client c (has_asked q) (state older))

      row_now : Client
      row_now = record by.client {
        about = record by.client.about { selected = q.selected };
        held = q.rest;
        due = by.client.due ++ q.replies;
      }

      here : owed.state.clients c ≡ Some row_now
      here = changed_here c (with_due q.replies) (to_client c (has_asked q) (state older)).clients
          (record by.client { about = record by.client.about { selected = q.selected }; held = q.rest })
          (changed_here c (has_asked q) (state older).clients by.client by.is)

      rule_is : rule (Read c bytes) (state older) ≡ then_also owed (asks_for ((state older).drawn + 1) c t service)
      rule_is =
          ap (λ (o : Option Client). reads_from o c bytes (state older)) by.is
          ∙ (ap (λ (p : Phase). reads_in p c bytes by.client (state older)) by.phase
          ∙ opened_made c t service q (state older) (ne_eqb (state older).drawn stream_ids ids) opens_it)

      born_line : Line
      born_line = line ((state older).drawn + 1) b

      drawn_view : View
      drawn_view = record {
        stream = Some (seen (new_row c t service owed.state));
        client = Some (record (seen_client row_now) { phase = Opening ((state older).drawn + 1) });
        output = owed_to c (told older ++ owed.told);
        okays = okays_of ((state older).drawn + 1) (packets_to t (told older ++ owed.told));
        ending = ending_in ((state older).drawn + 1) (told older ++ owed.told);
      }

      same_view : drawn_view ≡ newborn born_line cradle due
      same_view =
          let output : owed_to c (told older ++ owed.told) ≡ cradle.replies =
          owed_append c (told older) owed.told
          ∙ (ap (λ (x : Bool). owed_to c (told older) ++ (cond x q.replies [] ++ [])) (eq-eqb c c refl)
          ∙ (ap (λ (x : List ℕ). owed_to c (told older) ++ x) (append-nil q.replies)
          ∙ (ap (λ (x : List ℕ). x ++ q.replies) (sym told_as) ∙ sym said))) in
          let okays : okays_of ((state older).drawn + 1) (packets_to t (told older ++ owed.told)) ≡ [] =
          ap (okays_of ((state older).drawn + 1))
          (packets_append t (told older) owed.told ∙ append-nil (packets_to t (told older))) ∙ unborn.okays in
          let ending : ending_in ((state older).drawn + 1) (told older ++ owed.told) ≡ None =
          ending_append ((state older).drawn + 1) (told older) owed.told
          ∙ (first_none (ending_in ((state older).drawn + 1) (told older)) ∙ unborn.ending) in
          λ i. record {
            stream = Some (seen (new_row c t service owed.state));
            client = Some (record { phase = Opening ((state older).drawn + 1); forwarded = by_itself i; due = due });
            output = output i;
            okays = okays i;
            ending = ending i;
          }

      shows : After (Shows (line ((state older).drawn + 1) (asked_birth c t service head older))
          (newborn (line ((state older).drawn + 1) (asked_birth c t service head older)) cradle due)) (told older)
          (rule (Read c bytes) (state older))
      shows =
          subst (λ (m : Made). After (Shows born_line (newborn born_line cradle due)) (told older) m) (sym rule_is)
          (subst (λ (v : View). After (Shows born_line v) (told older)
          (then_also owed (asks_for ((state older).drawn + 1) c t service))) same_view
          (subst (λ (u : List Event). Shows born_line drawn_view (asks_for ((state older).drawn + 1) c t service owed.state).state u)
          (append_assoc (told older) owed.told (asks_for ((state older).drawn + 1) c t service owed.state).told)
          (drawn_shows c t service owed.state row_now (told older ++ owed.told) here
          (λ k x there. of_another (state older) c by.client k x (all_linked older legal.0).owned by.is by.phase there))))

-- ---- the birth through a forward
abbrev pub entered_birth : ℕ → ForwardRow → History → Birth
entered_birth c row older = record {
  client = c;
  link = row.transport;
  credit = is_credit row.transport (devices older);
  forwarded = true;
  service = row.remote;
  head = 0;
  packets_before = length (brought row.transport older);
}

module _ {P : PromiseOf} (lasts : Lasts P) (c port : ℕ) (older : History) (legal : IsLegal (Enter c port ∷ older)) (row : ForwardRow) where
  pub enter_born : at port (forwards older) ≡ Some row → is_connected row.transport (devices older) ≡ true
      → (state older).drawn ≢ stream_ids
      → IsUnborn ((state older).drawn + 1) row.transport (told older)
      → Follows P (Enter c port ∷ older) ((state older).drawn + 1) (entered_birth c row older)
  enter_born is connected ids unborn = record {
    cradle = cradle;
    credit = ap (is_credit row.transport) (all_books older legal.0).devices;
    forwarded = refl;
    replies = refl;
    asks_no_more = λ e. absurd (let clash : true ≡ false = e in cc);
    came = omega (arith, legal.2.1, (counted older).joined);
    within = omega arith;
    holds = born_holds lasts ((state older).drawn + 1) b (Enter c port) older cradle [] legal put
        (drop_all (brought row.transport older)) shows;
  }
    where
      b : Birth
      b = entered_birth c row older

      cradle : Cradle
      cradle = record { credit = is_credit row.transport (state older).devices; forwarded = true; replies = [] }

      above : came_count older < c
      above = omega (arith, legal.2.1, (counted older).joined)

      put : [] ≡ bytes_put c older ++ []
      put = sym (append-nil (bytes_put c older) ∙ (tied older legal.0).unput c above)

      came_state : State
      came_state = comes true c (state older)

      here : (comes true c (state older)).clients c ≡ Some (new_client true c)
      here = ap (λ (x : Bool). cond x (Some (new_client true c)) ((state older).clients c)) (eq-eqb c c refl)

      rule_is : rule (Enter c port) (state older) ≡ asks_for ((state older).drawn + 1) c row.transport row.remote
          (comes true c (state older))
      rule_is =
          let books = all_books older legal.0 in
          ap (λ (o : Option ForwardRow). enters_by c o (state older)) (ap (at port) books.forwards ∙ is)
          ∙ (ap (λ (x : Bool). cond x (opens true c row.transport row.remote (comes true c (state older)))
          (quietly (comes_in_vain (state older))))
          (ap (is_connected row.transport) books.devices ∙ connected)
          ∙ ap (λ (x : Bool). cond x (no_ids_left true c (comes true c (state older)))
          (asks_for ((state older).drawn + 1) c row.transport row.remote (comes true c (state older))))
          (ne_eqb (state older).drawn stream_ids ids))

      born_line : Line
      born_line = line ((state older).drawn + 1) b

      drawn_view : View
      drawn_view = record {
        stream = Some (seen (new_row c row.transport row.remote came_state));
        client = Some (record (seen_client (new_client true c)) { phase = Opening ((state older).drawn + 1) });
        output = owed_to c (told older);
        okays = okays_of ((state older).drawn + 1) (packets_to row.transport (told older));
        ending = ending_in ((state older).drawn + 1) (told older);
      }

      same_view : drawn_view ≡ newborn born_line cradle []
      same_view =
          let output : owed_to c (told older) ≡ [] = (tied older legal.0).told.clients c above in
          λ i. record {
            stream = Some (seen (new_row c row.transport row.remote came_state));
            client = Some (record { phase = Opening ((state older).drawn + 1); forwarded = true; due = [] });
            output = output i;
            okays = unborn.okays i;
            ending = unborn.ending i;
          }

      shows : After (Shows (line ((state older).drawn + 1) (entered_birth c row older))
          (newborn (line ((state older).drawn + 1) (entered_birth c row older)) cradle [])) (told older)
          (rule (Enter c port) (state older))
      shows =
          subst (λ (m : Made). After (Shows born_line (newborn born_line cradle [])) (told older) m) (sym rule_is)
          (subst (λ (v : View). After (Shows born_line v) (told older)
          (asks_for ((state older).drawn + 1) c row.transport row.remote (comes true c (state older)))) same_view
          (drawn_shows c row.transport row.remote came_state (new_client true c) (told older) here
          (λ k x there. of_older (state older) c k x (all_linked older legal.0).owned (omega (arith, legal.2.1)) there)))
