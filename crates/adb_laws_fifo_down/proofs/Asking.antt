-- At all times a client that asks came by itself, and was told the replies to its whole requests.
use Rattle.std.proofs.Common.{ℕ, ◌+◌, ◌≡◌, ◌≢◌, ◌≤◌, Bool, true, false, List, [], ◌∷◌, ◌++◌, length, Option, Some, None, is_none, refl}
use Rattle.std.proofs.Common.{sym, ◌∙◌, ap, subst, eqb, arith, inl, inr, ◌⊎◌}
use Rattle.std.proofs.lemmas.Bool.{eqb-true, eq-eqb, cases_eq}
use Rattle.std.specs.Prelude.{◌&&◌, ◌||◌, not}
use Rattle.adb_outside.specs.Tables.{at}
use Rattle.adb_outside.specs.declared.kinds.Cause.{Cause}
use Rattle.adb_client.specs.declared.phase.Phase.{Phase}
use Rattle.adb_client.specs.declared.phase.Phase.TheVariants.{Asking}
use Rattle.adb_reply.specs.declared.answer.Next.{Next}
use Rattle.adb_reply.specs.declared.answer.Next.TheVariants as what
use Rattle.adb_capture.specs.declared.entry.Entry.{Entry}
use Rattle.adb_capture.specs.declared.entry.Entry.TheVariants.{Join, Enter, Read, End, Bound, Attach, Recv, Detach, Put, Send}
use Rattle.adb_client.specs.declared.about.Want.{Want}
use Rattle.adb_history.specs.Rows.{Client, State, to_client}
use Rattle.adb_history.specs.Events.{Made}
use Rattle.adb_history.specs.Clients.{owe_client}
use Rattle.adb_history.specs.Asking.{Asked, asks_with}
use Rattle.adb_history.specs.Losing.{client_ends, stops}
use Rattle.adb_history.specs.Reading.{comes, plugs_in, asked_before, has_asked, goes_on, asks, reads_in, reads_from}
use Rattle.adb_history.specs.Packets.{receives_on}
use Rattle.adb_history.specs.Handing.{sends}
use Rattle.adb_history.specs.Machine.{unplugs_on, rule, ups, History, state, told, May, IsLegal}
use Rattle.adb_history.specs.Bytes.{has_joined, has_ended}
use Rattle.adb_history.specs.Book.{book, asked, devices, forwards, asked_with, is_asking, still_asks, bound_turn}
use Rattle.adb_history.specs.Moves.{After}
use Rattle.adb_history.proofs.Following.{after_quietly}
use Rattle.adb_history.proofs.GrowingRules.{keeps_up_all}
use Rattle.adb_history.proofs.LinkMoves.{all_linked}
use Rattle.adb_history.proofs.Books.{all_books}
use Rattle.adb_history.proofs.BookReads.{none_next}
use Rattle.adb_history.proofs.OutputEntries.{row_below}
use Rattle.adb_laws_fifo_down.specs.Line.{Shows}
use Rattle.adb_laws_fifo_down.proofs.Others.{after_next}
use Rattle.adb_laws_fifo_down.proofs.OtherTurns.{shows_comes, shows_enters, shows_plugs_in}
use Rattle.adb_laws_fifo_down.proofs.OtherLinks.{shows_receives, shows_unplugs}
use Rattle.adb_laws_fifo_down.proofs.Askers.{AsksAs, alone, asking_row, asks_ups, asked_then, asked_other, asks_behind_it, asking_parts}
use Rattle.adb_laws_fifo_down.proofs.Askers.{comes_asking, stays, other_asks, other_ends, bound_asking, put_asking, asks_more}

-- ---- at all times
-- whether a client asks, by what is said of it
abbrev IsAsker : ℕ → History → Type 0
IsAsker c h = is_asking c h (book h) ≡ true

-- the server stops where another client asks for it
stopped_by : (n : ℕ) (bytes : List ℕ) (older : History) (a : Client) → (state older).clients n ≡ Some a → a.about.phase ≡ Asking
    → (asks_with (state older).devices (state older).forwards bytes (asked_before a)).next ≡ Some what.Stop
    → (state (Read n bytes ∷ older)).stopped ≡ true
stopped_by n bytes older a is phase stop =
    let q : Asked = asks_with (state older).devices (state older).forwards bytes (asked_before a) in
    let s1 : State = (owe_client n q.replies (to_client n (has_asked q) (state older))).state in
    let same : (rule (Read n bytes) (state older)).state ≡ (stops n s1).state =
    ap (λ (o : Option Client). (reads_from o n bytes (state older)).state) is
    ∙ (ap (λ (p : Phase). (reads_in p n bytes a (state older)).state) phase ∙ ap (λ (o : Option Next). (goes_on o n s1).state) stop) in
    ap (λ (x : State). (ups x).state.stopped) same ∙ (keeps_up_all 0 0 s1.drawn (stops n s1).state (λ l. tt)).stopped

module _ (c : ℕ) (older : History) (legal : IsLegal older)
    (before : (state older).stopped ≡ false → IsAsker c older → AsksAs c (asked c older).replies (state older) (told older)) where
  abbrev s : State
  s = state older

  -- a client is there that asks
  there_is : AsksAs c (asked c older).replies (state older) (told older) → c ≤ (state older).joined
  there_is h = by ((state older).clients c) refl
    where
      by : (o : Option Client) → (state older).clients c ≡ o → c ≤ (state older).joined
      by o is =
          let row = asking_row c (asked c older).replies o (state older) (told older) h is in
          row_below (state older).joined c ((state older).clients c) row.0
          (λ lt. (all_linked older legal).owned.rows.clients.above c lt) (is ∙ row.1)

  read_asking : (n : ℕ) (bytes : List ℕ) → (state older).stopped ≡ false
      → (state (Read n bytes ∷ older)).stopped ≡ false → IsAsker c (Read n bytes ∷ older)
      → After (AsksAs c (asked c (Read n bytes ∷ older)).replies) (told older) (rule (Read n bytes) (state older))
  read_asking n bytes on going asks = by (cases_eq n c)
    where
      own : IsAsker c (Read c bytes ∷ older) → (asking : Bool) → is_asking c older (book older) ≡ asking
          → After (AsksAs c (asked c (Read c bytes ∷ older)).replies) (told older) (rule (Read c bytes) (state older))
      own now false e =
          let same : asked c (Read c bytes ∷ older) ≡ asked c older =
          asked_then c bytes older ∙ ap (λ (b : Bool). asked_with b (devices older) (forwards older) bytes (asked c older)) e in
          let clash : true ≡ false =
          sym now ∙ (ap (λ (q : Asked). has_joined c older && not (has_ended c older) && still_asks q) same ∙ e) in
          absurd (cc)
      own now true e =
          let by = asks_behind_it c bytes older legal on e in
          let q : Asked = asks_with (state older).devices (state older).forwards bytes (asked_before by.client) in
          let parts = asking_parts (has_joined c older) (has_ended c older) (still_asks (asked c (Read c bytes ∷ older))) now in
          let none : q.next ≡ None =
          none_next q.next (sym (ap (λ (x : Asked). is_none x.next) by.behind_it) ∙ parts.2) in
          subst (λ (x : List ℕ). After (AsksAs c x) (told older) (rule (Read c bytes) (state older)))
          (sym (ap (λ (x : Asked). x.replies) by.behind_it))
          (subst (λ (o : Option Client). After (AsksAs c ((asked c older).replies ++ q.replies)) (told older)
          (reads_from o c bytes (state older))) (sym by.is)
          (asks_more c older legal (asked c older).replies (before on e) by.client bytes by.is none))

      goes : n ≢ c → (a : Client) → (state older).clients n ≡ Some a → a.about.phase ≡ Asking
          → (asks_with (state older).devices (state older).forwards bytes (asked_before a)).next ≢ Some what.Stop
      goes other a is phase stop =
          let clash : false ≡ true = sym going ∙ stopped_by n bytes older a is phase stop in
          cc

      by : (n ≡ c) ⊎ (n ≢ c) → After (AsksAs c (asked c (Read n bytes ∷ older)).replies) (told older) (rule (Read n bytes) (state older))
      by (inl same) =
          subst (λ (m : ℕ). After (AsksAs c (asked c (Read m bytes ∷ older)).replies) (told older)
          (rule (Read m bytes) (state older))) (sym same)
          (own (subst (λ (m : ℕ). IsAsker c (Read m bytes ∷ older)) same asks) (is_asking c older (book older)) refl)
      by (inr other) =
          let stays : asked c (Read n bytes ∷ older) ≡ asked c older = asked_other n c bytes older other in
          let asking : IsAsker c older =
          sym (ap (λ (q : Asked). has_joined c older && not (has_ended c older) && still_asks q) stays) ∙ asks in
          subst (λ (x : List ℕ). After (AsksAs c x) (told older) (rule (Read n bytes) (state older)))
          (sym (ap (λ (x : Asked). x.replies) stays))
          (other_asks c older legal (asked c older).replies (before on asking) n bytes ((state older).clients n) other
          (λ a is phase. goes other a is phase))

  join_asking : (n : ℕ) → n ≡ (state older).joined + 1 → (state older).stopped ≡ false → IsAsker c (Join n ∷ older)
      → AsksAs c (asked c older).replies (comes false n (state older)) (told older)
  join_asking n is on asks = by (eqb n c) refl
    where
      by : (b : Bool) → eqb n c ≡ b → AsksAs c (asked c older).replies (comes false n (state older)) (told older)
      by true e =
          let same : n ≡ c = eqb-true n c e in
          subst (λ (m : ℕ). AsksAs c (asked c older).replies (comes false m (state older)) (told older)) (sym same)
          (comes_asking c older legal (sym same ∙ is))
      by false e =
          let h = before on
          (sym (ap (λ (b : Bool). (b || has_joined c older) && not (has_ended c older)
          && still_asks (asked c older)) e) ∙ asks) in record {
            seen = h.seen;
            shows = shows_comes (alone c) h.seen (state older) (told older) h.shows false n
                (λ same. let clash : true ≡ false = sym (eq-eqb n c same) ∙ e in cc);
            stream = h.stream;
            due = h.due;
            client = h.client;
            output = h.output;
          }

  end_asking : (n : ℕ) (cause : Cause) → (state older).stopped ≡ false → IsAsker c (End n cause ∷ older)
      → After (AsksAs c (asked c older).replies) (told older) (client_ends n cause ((state older).clients n) (state older))
  end_asking n cause on asks = by (eqb n c) refl
    where
      by : (b : Bool) → eqb n c ≡ b → After (AsksAs c (asked c older).replies) (told older)
          (client_ends n cause ((state older).clients n) (state older))
      by true e =
          let parts = asking_parts (has_joined c older) (eqb n c || has_ended c older) (still_asks (asked c older)) asks in
          let clash : true ≡ false = sym (ap (λ (b : Bool). b || has_ended c older) e) ∙ parts.1 in
          absurd (cc)
      by false e =
          other_ends c older legal (asked c older).replies
          (before on (sym
          (ap (λ (b : Bool). has_joined c older && not (b || has_ended c older) && still_asks (asked c older))
          e) ∙ asks)) n cause
          (λ same. let clash : true ≡ false = sym (eq-eqb n c same) ∙ e in cc)

  -- what is said of a client stays where a listener stands
  bound_same : (n port : ℕ) → asked c (Bound n port ∷ older) ≡ asked c older
  bound_same n port = by ((book older).waits n)
    where
      by : (want : Option Want) → (bound_turn n port (devices older) want (book older)).asked c ≡ asked c older
      by None = refl
      by (Some want) = refl

  -- a link goes on, or goes
  link_asking : (m : Made)
      → ((h : AsksAs c (asked c older).replies (state older) (told older))
      → After (Shows (alone c) h.seen) (told older) m)
      → (state older).stopped ≡ false → IsAsker c older → After (AsksAs c (asked c older).replies) (told older) m
  link_asking m shows on asks = let h = before on asks in stays c older legal (asked c older).replies h m (shows h)

  rule_asking : (e : Entry) → May (state older) e → (state (e ∷ older)).stopped ≡ false
      → (state older).stopped ≡ false → IsAsker c (e ∷ older)
      → After (AsksAs c (asked c (e ∷ older)).replies) (told older) (rule e (state older))
  rule_asking (Join n) may going on asks =
      after_quietly (AsksAs c (asked c older).replies) (told older) (comes false n (state older)) (join_asking n may.1 on asks)
  rule_asking (Enter n port) may going on asks =
      let there = there_is (before on asks) in
      link_asking (rule (Enter n port) (state older))
      (λ h. shows_enters (alone c) h.seen (state older) (told older) h.shows (at port (state older).forwards) n
      (λ same. omega (arith, may.1, same, there))
      (λ row f on ids g. omega (arith, g)))
      on asks
  rule_asking (Read n bytes) may going on asks = read_asking n bytes on going asks
  rule_asking (End n cause) may going on asks = end_asking n cause on asks
  rule_asking (Bound n port) may going on asks =
      let same = bound_same n port in
      let asking : IsAsker c older = sym (ap (λ (q : Asked). has_joined c older && not (has_ended c older) && still_asks q) same) ∙ asks in
      subst (λ (x : List ℕ). After (AsksAs c x) (told older) (rule (Bound n port) (state older))) (sym (ap (λ (q : Asked). q.replies) same))
      (bound_asking c older legal (asked c older).replies (before on asking) n port)
  rule_asking (Attach t kind serial) may going on asks = link_asking (plugs_in t kind serial (state older))
      (λ h. shows_plugs_in (alone c) h.seen (state older) (told older) h.shows t kind serial) on asks
  rule_asking (Recv t bytes) may going on asks = link_asking (receives_on ((state older).links t) t bytes (state older))
      (λ h. shows_receives (alone c) h.seen t (inr h.stream) ((state older).links t) bytes (state older) (told older) h.shows) on asks
  rule_asking (Detach t cause) may going on asks = link_asking (unplugs_on ((state older).links t) t (state older))
      (λ h. shows_unplugs (alone c) h.seen t (inr h.stream) ((state older).links t) (state older) (told older) h.shows) on asks
  rule_asking (Put n bytes) may going on asks = put_asking c older legal (asked c older).replies (before on asks) n bytes may
  rule_asking (Send t bytes) may going on asks =
      let h = before on asks in
      after_quietly (AsksAs c (asked c older).replies) (told older) (sends t (length bytes) (state older)) (record {
        seen = h.seen;
        shows = h.shows;
        stream = h.stream;
        due = h.due;
        client = h.client;
        output = h.output;
      })

-- whether the server stopped before
still_on : (e : Entry) (older : History) → IsLegal (e ∷ older) → (state (e ∷ older)).stopped ≡ false → (state older).stopped ≡ false
still_on (Put c bytes) older legal going = (all_books older legal.0).killed ∙ (sym (all_books (Put c bytes ∷ older) legal).killed ∙ going)
still_on (Send t bytes) older legal going = (all_books older legal.0).killed ∙ (sym (all_books (Send t bytes ∷ older) legal).killed ∙ going)
still_on _ older legal going = legal.2.0

-- A client that asks came by itself, has no stream, and was told the replies to its whole requests.
pub asking_at : (h : History) → IsLegal h → (state h).stopped ≡ false → (c : ℕ) → is_asking c h (book h) ≡ true
    → AsksAs c (asked c h).replies (state h) (told h)
asking_at [] legal on c asks = absurd (let clash : false ≡ true = asks in cc)
asking_at (e ∷ older) legal going c asks =
    let on = still_on e older legal going in
    after_next (AsksAs c (asked c (e ∷ older)).replies) (AsksAs c (asked c (e ∷ older)).replies) (told older) (rule e (state older)) ups
    (rule_asking c older legal.0 (λ on asks. asking_at older legal.0 on c asks) e legal.2 going on asks)
    (λ u now. asks_ups c (asked c (e ∷ older)).replies (rule e (state older)).state u now)
