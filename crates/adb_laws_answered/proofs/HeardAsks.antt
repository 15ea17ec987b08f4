-- A client that asks reads: what it is answered is what the entries say.
use Rattle.std.proofs.Common.{◌≡◌, ℕ, ◌+◌, Bool, true, false, cond, List, [], ◌∷◌, ◌++◌, Option, Some, None, refl, sym, ap, subst, ◌∙◌}
use Rattle.std.proofs.Common.{append_assoc, arith, eqb}
use Rattle.std.specs.Prelude.{codes, not, ◌==◌, option_and_then}
use Rattle.std.proofs.lemmas.Bool.{eq-eqb}
use Rattle.std.proofs.lemmas.List.{append-nil}
use Rattle.adb_outside.specs.Bytes.{IsPrefixOf}
use Rattle.adb_outside.specs.Tables.{Rows, change_row}
use Rattle.adb_registry.specs.Registry.{DeviceTable}
use Rattle.adb_forward.specs.declared.row.ForwardRow.{ForwardRow}
use Rattle.adb_client.specs.declared.phase.Phase.{Phase}
use Rattle.adb_client.specs.declared.phase.Phase.TheVariants.{Asking, Opening, Streaming, Binding, Tracking}
use Rattle.adb_client.specs.declared.about.Want.{Want}
use Rattle.adb_reply.specs.Strings.{failed}
use Rattle.adb_reply.specs.declared.answer.Next.{Next}
use Rattle.adb_reply.specs.declared.answer.Next.TheVariants as what
use Rattle.adb_capture.specs.declared.entry.Entry.TheVariants.{Read}
use Rattle.adb_history.specs.Rows.{Client, State, to_client, with_due, with_held, in_phase}
use Rattle.adb_history.specs.Events.{Made, Event, owed_to}
use Rattle.adb_history.specs.Clients.{closing, closes_with}
use Rattle.adb_history.specs.Streams.{stream_ids, asks_for, opens}
use Rattle.adb_history.specs.Tracking.{tracked_list}
use Rattle.adb_history.specs.Asking.{Asked, asks_with}
use Rattle.adb_history.specs.Losing.{only_client, stops}
use Rattle.adb_history.specs.Reading.{tracks, awaits, goes_on, asked_before, asks, reads_in, reads_from}
use Rattle.adb_history.specs.Machine.{History, state, told, rule, May, IsLegal}
use Rattle.adb_history.specs.Bytes.{has_joined, has_ended}
use Rattle.adb_history.specs.Book.{book, asked, devices_if, newly, asked_with, still_asks}
use Rattle.adb_history.specs.Answered.{lists_of, last_list, reply_list}
use Rattle.adb_history.specs.Moves.{After, HasOne}
use Rattle.adb_history.specs.Owned.{IsOwned}
use Rattle.adb_history.proofs.Following.{after_quietly}
use Rattle.adb_history.proofs.RuleMoves as moves
use Rattle.adb_history.proofs.Growing.{owed_append}
use Rattle.adb_history.proofs.Asked.{behind, EndsReading, asks_ends}
use Rattle.adb_history.proofs.OwnedStep.{owned_moves, begins_owned}
use Rattle.adb_history.proofs.Booked.{said, asks_in, asks_now, SameAsked, IsAs}
use Rattle.adb_history.proofs.BookTurns.{IsBooked}
use Rattle.adb_history.proofs.BookClients.{devices_now}
use Rattle.adb_history.proofs.BookReads.{none_next, newly_same, and_parts, asked_all, replied_state, replied_row, replied_is}
use Rattle.adb_history.proofs.Books.{booked}
use Rattle.adb_history.specs.Turns.{everywhere, Turns}
use Rattle.adb_laws_answered.specs.Heard.{Heard, heard, after_replies, asks_stream, asks_bind, IsUnanswered, PhaseSays, RowSays, RowsSay}
use Rattle.adb_laws_answered.specs.Heard.{Owes, Answers}
use Rattle.adb_laws_answered.proofs.HeardMoves.{says_closing}
use Rattle.adb_laws_answered.proofs.ToldOthers.{all_stop_owed}
use Rattle.adb_laws_answered.proofs.HeardRules.{answers_turns}

-- ---- its own row
module _ (c : ℕ) (r : Heard) (d : DeviceTable) where
  -- what is left of it says so, whatever it was
  pub rows_own : (f : Client → Option Client) (clients : Rows (Option Client)) → ((x y : Client) → f x ≡ Some y → RowSays r d y)
      → RowsSay c r d (change_row c (option_and_then f) clients)
  rows_own f clients says y is =
      go (clients c)
      (sym (ap (λ (b : Bool). cond b (option_and_then f (clients c)) (clients c)) (eq-eqb c c refl)) ∙ is)
    where
      go : (o : Option Client) → option_and_then f o ≡ Some y → RowSays r d y
      go None e = absurd (let clash : None ≡ Some y = e in cc)
      go (Some x) e = says x y e

  pub rows_closed : (clients : Rows (Option Client)) → RowsSay c r d (change_row c (option_and_then closing) clients)
  rows_closed clients = rows_own closing clients (λ x y e. says_closing r d x.due x y e)

-- ---- what follows its last request
-- what the entries say of a client whose last request is whole only now
pub record IsNewlyAsked (r : Heard) (next : Option Next) (devices : DeviceTable) : Type 0 where
  pub is : r.next ≡ next
  pub bound : r.bound ≡ []
  pub lists : (long : Bool) → r.lists long ≡ []
  pub last : (long : Bool) → next ≡ Some (what.Track long) → r.last long ≡ tracked_list devices long

-- what follows leaves its row so, and makes nothing due but to who asked for a stream
pub record IsAfterAsking (c : ℕ) (r : Heard) (m : Made) : Type 0 where
  pub row : RowsSay c r m.state.devices m.state.clients
  pub owed : asks_stream r.next ≡ false → owed_to c m.told ≡ []

module _ (c : ℕ) (r : Heard) (left : State) where
  opens_after : (t : ℕ) (service : List ℕ) → r.next ≡ Some (what.Open t service) → IsAfterAsking c r (opens false c t service left)
  opens_after t service next = record {
    row = row (left.drawn == stream_ids);
    owed = λ other. absurd (let clash : true ≡ false = sym (ap asks_stream next) ∙ other in cc);
  }
    where
      id : ℕ
      id = left.drawn + 1

      row : (b : Bool)
          → RowsSay c r
          (cond b (closes_with c (failed (codes "no stream ids left")).bytes left)
          (asks_for (left.drawn + 1) c t service left)).state.devices
          (cond b (closes_with c (failed (codes "no stream ids left")).bytes left)
          (asks_for (left.drawn + 1) c t service left)).state.clients
      row true = rows_closed c r left.devices (to_client c (with_due (failed (codes "no stream ids left")).bytes) left).clients
      row false = rows_own c r left.devices (in_phase (Opening (left.drawn + 1))) left.clients
          (λ x y e. (let same : record x { about = record x.about { phase = Opening (left.drawn + 1) } } ≡ y = cc in
          subst (λ (z : Client). RowSays r left.devices z) same (ap asks_stream next)))

  pub goes_on_after : (next : Option Next) (client : Client) → left.clients c ≡ Some client → client.about.phase ≡ Asking → EndsReading next
      → IsNewlyAsked r next left.devices → IsAfterAsking c r (goes_on next c left)
  goes_on_after None client here asking ends n = record { row = row; owed = λ other. refl }
    where
      row : RowsSay c r left.devices left.clients
      row y is =
          let same : client ≡ y = (let both : Some client ≡ Some y = sym here ∙ is in cc) in
          subst (λ (x : Client). RowSays r left.devices x) same
          (subst (λ (p : Phase). PhaseSays p r left.devices client.about.long client.about.mark) (sym asking)
          (record { next = n.is; bound = n.bound; lists = n.lists }))
  goes_on_after (Some what.Close) client here asking ends n =
      record { row = rows_closed c r left.devices left.clients; owed = λ other. refl }
  goes_on_after (Some (what.Select id)) client here asking ends n = absurd ends
  goes_on_after (Some (what.Track long)) client here asking ends n = record {
    row = rows_own c r left.devices (tracks long) left.clients
        (λ x y e. (let same : record x { about = record x.about { phase = Tracking; long = long; mark = false }; held = [] } ≡ y = cc in
        subst (λ (z : Client). RowSays r left.devices z) same (record { next = n.is; present = λ m. n.last long refl })));
    owed = λ other. refl;
  }
  goes_on_after (Some (what.Open t service)) client here asking ends n = opens_after t service n.is
  goes_on_after (Some (what.Bind transport local remote chosen)) client here asking ends n = record {
    row = rows_own c r left.devices (awaits (record { transport = transport; local = local; remote = remote })) left.clients
        (λ x y e. says transport local remote n.is n.bound x y e);
    owed = λ other. refl;
  }
    where
      says : (transport local : ℕ) (remote : List ℕ) → r.next ≡ Some (what.Bind transport local remote chosen) → r.bound ≡ []
          → (x y : Client) → awaits (record { transport = transport; local = local; remote = remote }) x ≡ Some y → RowSays r left.devices y
      says transport local remote is bound x y e =
          let want : Want = record { transport = transport; local = local; remote = remote } in
          let same : record x { about = record x.about { phase = Binding; want = Some want }; held = [] } ≡ y = cc in
          subst (λ (z : Client). RowSays r left.devices z) same (record { next = ap asks_bind is; bound = bound })
  goes_on_after (Some (what.Rebind transport local remote)) client here asking ends n =
      record { row = rows_closed c r left.devices left.clients; owed = λ other. refl }
  goes_on_after (Some (what.Unbind local)) client here asking ends n =
      record { row = rows_closed c r left.devices left.clients; owed = λ other. refl }
  goes_on_after (Some what.UnbindAll) client here asking ends n =
      record { row = rows_closed c r left.devices left.clients; owed = λ other. refl }
  goes_on_after (Some what.Stop) client here asking ends n = record {
    row = rows_closed c r (stops c left).state.devices (only_client c left.clients);
    owed = λ other. all_stop_owed c left.drawn left.streams;
  }

-- nothing is due behind the replies yet
pub after_none : (r : Heard) (next : Option Next) (devices : DeviceTable) → IsNewlyAsked r next devices → after_replies next r ≡ []
after_none r (Some (what.Track long)) devices n = n.lists long
after_none r (Some (what.Bind transport local remote chosen)) devices n = n.bound
after_none r _ devices n = refl

-- what became due with the replies
module _ (r next : Heard) (out replies more : List ℕ) where
  pub owes_replies : (d : DeviceTable) → Owes r out → r.next ≡ None → next.replies ≡ r.replies ++ replies → IsNewlyAsked next next.next d
      → (asks_stream next.next ≡ false → more ≡ []) → Owes next (out ++ (replies ++ more))
  owes_replies d h none replied new quiet = record {
    begins = subst (λ (x : List ℕ). IsPrefixOf x (out ++ (replies ++ more))) (sym so_far) (more, append_assoc out replies more);
    all = λ other. ap (λ x. out ++ (replies ++ x)) (quiet other)
        ∙ (ap (λ x. out ++ x) (append-nil replies)
        ∙ (sym so_far ∙ (sym (append-nil next.replies) ∙ ap (λ x. next.replies ++ x) (sym (after_none next next.next d new)))));
  }
    where
      before : out ≡ r.replies
      before = h.all (ap asks_stream none) ∙ (ap (λ (o : Option Next). r.replies ++ after_replies o r) none ∙ append-nil r.replies)

      so_far : next.replies ≡ out ++ replies
      so_far = replied ∙ ap (λ x. x ++ replies) (sym before)

-- a phase in which a client asks
pub asks_asking : (phase : Phase) → asks_in phase ≡ true → phase ≡ Asking
asks_asking Asking e = refl
asks_asking _ e = absurd (let clash : false ≡ true = e in cc)

-- ---- read
module _ (c : ℕ) (older : History) (legal : IsLegal older) (bytes : List ℕ) (may : May (state older) (Read c bytes)) where
  abbrev s : State
  s = state older

  abbrev w : List Event
  w = told older

  books : IsBooked s older
  books = booked older legal

  -- what the entries say of a client that asked so much
  said_so : Asked → Bool → Heard
  said_so q here = record {
    next = (cond here q (asked c older)).next;
    replies = (cond here q (asked c older)).replies;
    bound = (book older).bound c;
    lists = λ long. lists_of long c older;
    last = λ long. cond here (reply_list c (newly (asked c older).next (cond here q (asked c older)).next) older (last_list long c older))
        (last_list long c older);
  }

  -- a client that does not ask says nothing by it
  pub heard_idle : (said c older).asking ≡ false → heard c (Read c bytes ∷ older) ≡ heard c older
  unfolding said_so
  heard_idle idle =
      ap (λ (x : Bool). said_so
      (asked_with x (devices_if (book older).killed older) (book older).forwards bytes (asked c older))
      (eqb c c)) idle ∙ go (eqb c c)
    where
      go : (here : Bool) → said_so (asked c older) here ≡ heard c older
      go false = refl
      go true = ap (λ (x : Option Next). record (heard c older) { last = λ long. reply_list c x older (last_list long c older) })
          (newly_same (asked c older).next)

  -- a client that asks
  module _ (client : Client) (is : s.clients c ≡ Some client) (asking : client.about.phase ≡ Asking) where
    as_before : IsAs (Some client) (said c older)
    as_before = subst (λ (o : Option Client). IsAs o (said c older)) is (books.clients may.0 c)

    asks_on : (said c older).asking ≡ true
    asks_on = sym as_before.asks ∙ ap asks_in asking

    pub open_next : (asked c older).next ≡ None
    open_next = none_next (asked c older).next
        (and_parts (has_joined c older) (not (has_ended c older)) (still_asks (asked c older)) asks_on).2

    same_asked : SameAsked (said c older) client
    same_asked = as_before.same client refl asking

    abbrev p : Asked
    p = asks_with s.devices s.forwards bytes (asked_before client)

    all : asks_with s.devices s.forwards bytes (asked c older) ≡ behind (asked c older) p
    all = asked_all c bytes client s (asked c older) is asking same_asked.rest same_asked.selected open_next

    -- what the entries say of it then
    abbrev now : Heard
    now = record {
      next = p.next;
      replies = (asked c older).replies ++ p.replies;
      bound = (book older).bound c;
      lists = λ long. lists_of long c older;
      last = λ long. reply_list c p.next older (last_list long c older);
    }

    abbrev behind_so : Option Next → Asked → Heard
    behind_so before q = record {
      next = q.next;
      replies = q.replies;
      bound = (book older).bound c;
      lists = λ long. lists_of long c older;
      last = λ long. reply_list c (newly before q.next) older (last_list long c older);
    }

    pub heard_now : heard c (Read c bytes ∷ older) ≡ now
    unfolding said_so
    heard_now =
        ap (λ (x : Bool). said_so
        (asked_with x (devices_if (book older).killed older) (book older).forwards bytes (asked c older))
        (eqb c c)) asks_on
        ∙ (ap (λ (d : DeviceTable). said_so (asks_with d (book older).forwards bytes (asked c older)) (eqb c c))
        (sym (devices_now older legal books))
        ∙ (ap (λ (f : List (ℕ × ForwardRow)). said_so (asks_with s.devices f bytes (asked c older)) (eqb c c)) (sym books.forwards)
        ∙ (ap (λ (here : Bool). said_so (asks_with s.devices s.forwards bytes (asked c older)) here) (eq-eqb c c refl)
        ∙ (ap (behind_so (asked c older).next) all ∙ ap (λ (o : Option Next). behind_so o (behind (asked c older) p)) open_next))))

    pub made_is : rule (Read c bytes) s ≡ asks p c s
    made_is = ap (λ (o : Option Client). reads_from o c bytes s) is ∙ ap (λ (x : Phase). reads_in x c bytes client s) asking

    module _ (h : Answers c (heard c older) s.devices s w) where
      before : IsUnanswered (heard c older)
      before = subst (λ (x : Phase). PhaseSays x (heard c older) s.devices client.about.long client.about.mark) asking (h.row client is)

      newly_now : IsNewlyAsked now p.next s.devices
      newly_now = record {
        is = refl;
        bound = before.bound;
        lists = before.lists;
        last = λ long e. ap (λ (o : Option Next). reply_list c o older (last_list long c older)) e
            ∙ ap (λ (d : DeviceTable). tracked_list d long) (sym (devices_now older legal books));
      }

      after : IsAfterAsking c now
          (goes_on p.next c
          (replied_state c bytes client s (asked c older) is asking same_asked.rest same_asked.selected open_next))
      after = goes_on_after c now
          (replied_state c bytes client s (asked c older) is asking same_asked.rest same_asked.selected open_next)
          p.next
          (replied_row c bytes client s (asked c older) is asking same_asked.rest same_asked.selected open_next)
          (replied_is c bytes client s (asked c older) is asking same_asked.rest same_asked.selected open_next) asking
          (asks_ends s.devices s.forwards bytes (asked_before client) tt) newly_now

      went : Made
      went = goes_on p.next c (replied_state c bytes client s (asked c older) is asking same_asked.rest same_asked.selected open_next)

      out_is : owed_to c (w ++ (asks p c s).told) ≡ owed_to c w ++ (p.replies ++ owed_to c went.told)
      unfolding went
      out_is = owed_append c w (asks p c s).told
          ∙ ap (λ (b : Bool). owed_to c w ++ (cond b p.replies [] ++ owed_to c went.told)) (eq-eqb c c refl)

      asks_answers : Answers c now (asks p c s).state.devices (asks p c s).state (w ++ (asks p c s).told)
      unfolding went
      asks_answers = record {
        owned = subst (λ (m : Made). IsOwned m.state) made_is
            (moves.rule_kept owned_moves (Read c bytes) s w (begins_owned s h.owned (Read c bytes) w may));
        row = after.row;
        owes = subst (λ (x : List ℕ). Owes now x) (sym out_is)
            (owes_replies (heard c older) now (owed_to c w) p.replies (owed_to c went.told) s.devices h.owes open_next
            refl newly_now after.owed);
      }

      pub asking_answers : Answers c (heard c (Read c bytes ∷ older)) (rule (Read c bytes) s).state.devices (rule (Read c bytes) s).state
          (w ++ (rule (Read c bytes) s).told)
      asking_answers = subst (λ (m : Made). Answers c (heard c (Read c bytes ∷ older)) m.state.devices m.state (w ++ m.told)) (sym made_is)
          (subst (λ (r : Heard). Answers c r (asks p c s).state.devices (asks p c s).state (w ++ (asks p c s).told))
          (sym heard_now) asks_answers)

  -- ---- a client that does not ask, or is gone
  turns : Turns everywhere (c + 1) (λ x v. Answers c (heard c older) x.devices x v)
  turns = answers_turns (c + 1) c (heard c older) (λ e. omega (arith, e))

  module _ (h : Answers c (heard c older) s.devices s w) where
    idle_same : (said c older).asking ≡ false → After (λ x v. Answers c (heard c older) x.devices x v) w (rule (Read c bytes) s)
        → After (λ x v. Answers c (heard c (Read c bytes ∷ older)) x.devices x v) w (rule (Read c bytes) s)
    idle_same idle answers = subst (λ (r : Heard). After (λ x v. Answers c r x.devices x v) w (rule (Read c bytes) s))
        (sym (heard_idle idle)) answers

    -- a client in another phase holds more, or nothing changes
    holds_more : (phase : Phase) (client : Client) → s.clients c ≡ Some client → client.about.phase ≡ phase → asks_in phase ≡ false
        → After (λ x v. Answers c (heard c older) x.devices x v) w (reads_in phase c bytes client s)
    holds_more Asking client is e idle = absurd (let clash : true ≡ false = idle in cc)
    holds_more (Opening l) client is e idle =
        after_quietly (λ x v. Answers c (heard c older) x.devices x v) w (to_client c (with_held (client.held ++ bytes)) s)
        (turns.holds c client (client.held ++ bytes) s w is (subst HasOne (sym e) tt) h)
    holds_more (Streaming l) client is e idle =
        after_quietly (λ x v. Answers c (heard c older) x.devices x v) w (to_client c (with_held (client.held ++ bytes)) s)
        (turns.holds c client (client.held ++ bytes) s w is (subst HasOne (sym e) tt) h)
    holds_more _ client is e idle = after_quietly (λ x v. Answers c (heard c older) x.devices x v) w s h

    pub own_read_answers : After (λ x v. Answers c (heard c (Read c bytes ∷ older)) x.devices x v) w (rule (Read c bytes) s)
    own_read_answers = go (s.clients c) refl
      where
        in_phase_of : (client : Client) → s.clients c ≡ Some client → (b : Bool) → asks_in client.about.phase ≡ b
            → After (λ x v. Answers c (heard c (Read c bytes ∷ older)) x.devices x v) w (rule (Read c bytes) s)
        in_phase_of client is true asking = asking_answers client is (asks_asking client.about.phase asking) h
        in_phase_of client is false idle =
            idle_same (sym (books.clients may.0 c).asks ∙ (ap asks_now is ∙ idle))
            (subst (λ (m : Made). After (λ x v. Answers c (heard c older) x.devices x v) w m)
            (sym (ap (λ (o : Option Client). reads_from o c bytes s) is))
            (holds_more client.about.phase client is refl idle))

        go : (o : Option Client) → s.clients c ≡ o
            → After (λ x v. Answers c (heard c (Read c bytes ∷ older)) x.devices x v) w (rule (Read c bytes) s)
        go None is =
            idle_same (sym (books.clients may.0 c).asks ∙ ap asks_now is)
            (subst (λ (m : Made). After (λ x v. Answers c (heard c older) x.devices x v) w m)
            (sym (ap (λ (o : Option Client). reads_from o c bytes s) is))
            (after_quietly (λ x v. Answers c (heard c older) x.devices x v) w s h))
        go (Some client) is = in_phase_of client is (asks_in client.about.phase) refl
