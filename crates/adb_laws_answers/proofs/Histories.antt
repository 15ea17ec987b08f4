-- Histories of sessions ask for services, entry by entry.
use Rattle.std.specs.Prelude.{ℕ, ◌+◌, ◌≡◌, ◌≢◌, ◌≤◌, ◌<◌, ◌&&◌, ◌||◌, not, Bool, true, false, cond, is_some, is_none, nat_eq, List, [], ◌∷◌}
use Rattle.std.specs.Prelude.{◌++◌, length, codes}
use Rattle.std.specs.Prelude.{if◌then◌else◌, Option, Some, None}
use Rattle.std.proofs.Common.{refl, sym, ◌∙◌, ap, subst, arith, ◌⊎◌, inl, inr, zero, suc, add-one, append_assoc}
use Rattle.std.proofs.lemmas.Bool.{cases_lt, cases_eq, eq-eqb, ne_eqb}
use Rattle.std.proofs.lemmas.List.{length-append, append-nil}
use Rattle.adb_outside.specs.Bytes.{IsPrefixOf}
use Rattle.adb_outside.specs.Tables.{put_row}
use Rattle.adb_outside.specs.declared.kinds.Cause.TheVariants.{Eof}
use Rattle.adb_registry.specs.Registry.{DeviceTable}
use Rattle.adb_forward.specs.declared.row.ForwardRow.{ForwardRow}
use Rattle.adb_reply.specs.declared.answer.Next.{Next}
use Rattle.adb_reply.specs.declared.answer.Next.TheVariants.{Open}
use Rattle.adb_capture.specs.declared.entry.Entry.TheVariants.{Join, Read, End, Attach, Recv, Put, Send}
use Rattle.adb_history.specs.Asking.{Asked, nothing_asked, asks_with}
use Rattle.adb_history.specs.Bytes.{has_joined, has_ended, bytes_read}
use Rattle.adb_history.specs.Births.{births, births_at, birth_by}
use Rattle.adb_history.specs.Book.{book, asked, devices, forwards, is_killed, is_asking, asked_with, newly, kills, forwards_by, led_by}
use Rattle.adb_history.specs.Book.{devices_if}
use Rattle.adb_history.specs.Machine.{History, IsLegal}
use Rattle.adb_history.specs.Tied.{came_count}
use Rattle.adb_history.proofs.Numbers.{counted, next_number}
use Rattle.adb_history.proofs.Pieces.{asks_pieces}
use Rattle.adb_laws_answers.specs.Words.{IsOfSession, requests_for, words_of}
use Rattle.adb_laws_answers.specs.Model.{model_devices}
use Rattle.adb_laws_answers.specs.Asked.{Opens}
use Rattle.adb_laws_answers.specs.Sessions.{IsOfSessions, HasAsked, AsksForServices, done_among}
use Rattle.adb_laws_answers.proofs.Leading.{leads}
use Rattle.adb_laws_answers.proofs.Reading.{SpelledIsRead, opens_service}

-- ---- counting
abbrev one_if : Option Next → ℕ
one_if next = if is_some next then 1 else 0

done_same : (f g : ℕ → Asked) (k : ℕ) → ((c : ℕ) → c ≤ k → g c ≡ f c) → done_among g k ≡ done_among f k
done_same f g zero same = refl
done_same f g (suc k) same =
    let here : g (suc k) ≡ f (suc k) = same (suc k) (omega arith) in
    let rest = done_same f g k (λ c le. same c (omega (arith, le))) in
    (λ i. one_if (here i).next + rest i)

-- one client's asking changes
done_put : (f : ℕ → Asked) (c : ℕ) (q : Asked) (k : ℕ) → 0 < c → c ≤ k
    → done_among (put_row c q f) k + one_if (f c).next ≡ done_among f k + one_if q.next
done_put f c q zero some le = absurd (omega (arith, some, le))
done_put f c q (suc k) some le = go (cases_eq c (suc k)) (λ below. done_put f c q k some below)
  where
    go : (c ≡ suc k) ⊎ (c ≢ suc k) → (c ≤ k → done_among (put_row c q f) k + one_if (f c).next ≡ done_among f k + one_if q.next)
        → one_if (put_row c q f (suc k)).next + done_among (put_row c q f) k + one_if (f c).next
        ≡ one_if (f (suc k)).next + done_among f k + one_if q.next
    go (inl is) later =
        let here : put_row c q f (suc k) ≡ q = ap (λ (b : Bool). cond b q (f (suc k))) (eq-eqb c (suc k) is) in
        let rest : done_among (put_row c q f) k ≡ done_among f k =
        done_same f (put_row c q f) k
        (λ d below. ap (λ (b : Bool). cond b q (f d)) (ne_eqb c d (λ same. omega (arith, same, is, below)))) in
        let old : one_if (f c).next ≡ one_if (f (suc k)).next = ap (λ (d : ℕ). one_if (f d).next) is in
        let new : one_if (put_row c q f (suc k)).next ≡ one_if q.next = ap (λ (x : Asked). one_if x.next) here in
        omega (arith, new, rest, old)
    go (inr other) later =
        let here : put_row c q f (suc k) ≡ f (suc k) = ap (λ (b : Bool). cond b q (f (suc k))) (ne_eqb c (suc k) other) in
        let new : one_if (put_row c q f (suc k)).next ≡ one_if (f (suc k)).next = ap (λ (x : Asked). one_if x.next) here in
        let rest = later (omega (arith, le, other)) in
        omega (arith, new, rest)

-- ---- what follows what a session asked
-- nothing, or its service
abbrev pub IsDone : Option Next → Type 0
IsDone next = (next ≡ None) ⊎ ((service : List ℕ) × (next ≡ Some (Open 1 service)))

no_kill : (next : Option Next) → IsDone next → kills next ≡ false
no_kill next (inl none) = ap kills none
no_kill next (inr (service, is)) = ap kills is

same_forwards : (next : Option Next) → IsDone next → (devices : DeviceTable) (all : List (ℕ × ForwardRow))
    → forwards_by next devices all ≡ all
same_forwards next (inl none) devices all = ap (λ (x : Option Next). forwards_by x devices all) none
same_forwards next (inr (service, is)) devices all = ap (λ (x : Option Next). forwards_by x devices all) is

one_birth : (c head : ℕ) (older : History) (next : Option Next) → IsDone next → length (birth_by c head older next) ≡ one_if next
one_birth c head older next (inl none) = ap (λ (x : Option Next). length (birth_by c head older x)) none ∙ sym (ap one_if none)
one_birth c head older next (inr (service, is)) = ap (λ (x : Option Next). length (birth_by c head older x)) is ∙ sym (ap one_if is)

front_of_front : (a b c : List ℕ) → IsPrefixOf a b → IsPrefixOf b c → IsPrefixOf a c
front_of_front a b c (x, is) (y, too) = (x ++ y, sym (append_assoc a x y) ∙ (ap (λ (z : List ℕ). z ++ y) is ∙ too))

or_true : (b : Bool) → (b || true) ≡ true
or_true true = refl
or_true false = refl

-- a client that ended asked for what no request follows
asks_on : (ended : Bool) (next : Option Next) → (ended ≡ true → is_some next ≡ true) → (true && not ended && is_none next) ≡ is_none next
asks_on false next done = refl
asks_on true (Some next) done = refl
asks_on true None done = absurd (let clash : false ≡ true = done refl in cc)

some_next : (next : Option Next) → is_some next ≡ true → is_none next ≡ false
some_next None some = absurd (let clash : false ≡ true = some in cc)
some_next (Some next) some = refl

module _ (spelled : SpelledIsRead) where
  -- what a front of the words of a session asks is nothing more, or its service
  done_by : (bytes front : List ℕ) → IsOfSession bytes → IsPrefixOf front bytes
      → IsDone (asks_with model_devices [] front nothing_asked).next
  done_by bytes front session first = go (cases_lt (length front) (length (requests_for session.service)))
    where
      opens : Opens session.service front (asks_with model_devices [] front nothing_asked)
      opens = opens_service model_devices leads spelled session.service session.text front session.known
          (front_of_front front bytes (words_of session.service session.text) first session.front)

      go : (length front < length (requests_for session.service)) ⊎ (length (requests_for session.service) ≤ length front)
          → IsDone (asks_with model_devices [] front nothing_asked).next
      go (inl less) = inl (opens.asks less)
      go (inr le) = inr (session.service, (opens.opened le).next)

  pub done : (bytes : List ℕ) (q : Asked) → HasAsked bytes q → IsDone q.next
  done bytes q h = subst (λ (x : Asked). IsDone x.next) (sym h.asked) (done_by bytes h.front h.session h.first)

  -- a client that read nothing asked nothing
  nothing_yet : (bytes : List ℕ) (q : Asked) → bytes ≡ [] → HasAsked bytes q → q ≡ nothing_asked
  nothing_yet bytes q none h = h.asked ∙ ap (λ (x : List ℕ). asks_with model_devices [] x nothing_asked)
      (empty h.front h.first.0 (h.first.1 ∙ none))
    where
      empty : (a b : List ℕ) → a ++ b ≡ [] → a ≡ []
      empty [] b is = refl
      empty (x ∷ a) b is = absurd (let clash : x ∷ (a ++ b) ≡ [] = is in cc)

  -- ---- a client reads more
  more_asked : (bytes piece : List ℕ) (q : Asked) → HasAsked bytes q → IsOfSession (bytes ++ piece) → (b : Bool) → is_none q.next ≡ b
      → HasAsked (bytes ++ piece) (asked_with b model_devices [] piece q)
  more_asked bytes piece q h session true free = record {
    session = session;
    front = bytes ++ piece;
    first = ([], append-nil (bytes ++ piece));
    asked = at_once;
    all = λ _. refl;
  }
    where
      none_of : (next : Option Next) → is_none next ≡ true → next ≡ None
      none_of None e = refl
      none_of (Some next) e = absurd (let clash : false ≡ true = e in cc)

      none : q.next ≡ None
      none = none_of q.next free

      whole : q ≡ asks_with model_devices [] bytes nothing_asked
      whole = h.asked ∙ ap (λ (x : List ℕ). asks_with model_devices [] x nothing_asked) (h.all none)

      at_once : asks_with model_devices [] piece q ≡ asks_with model_devices [] (bytes ++ piece) nothing_asked
      at_once =
          ap (asks_with model_devices [] piece) whole
          ∙ asks_pieces model_devices [] bytes piece nothing_asked (sym (ap (λ (x : Asked). x.next) whole) ∙ none)
  more_asked bytes piece q h session false closed = record {
    session = session;
    front = h.front;
    first = front_of_front h.front bytes (bytes ++ piece) h.first (piece, refl);
    asked = h.asked;
    all = λ none. absurd (let clash : true ≡ false = sym (ap is_none none) ∙ closed in cc);
  }

  -- what follows only now is what follows
  newly_done : (before after : Option Next) → IsDone after → IsDone (newly before after)
  newly_done None after d = d
  newly_done (Some next) after d = inl refl

  newly_one : (before after : Option Next) (b : Bool) → is_none before ≡ b → (b ≡ false → after ≡ before)
      → one_if (newly before after) + one_if before ≡ one_if after
  newly_one None after b is same = omega arith
  newly_one (Some next) after b is same =
      let e : after ≡ Some next = same (sym is) in
      let one : one_if after ≡ 1 = ap one_if e in
      omega (arith, one)

  module _ (older : History) (legal : IsLegal older) (a : AsksForServices older) (known : devices older ≡ model_devices) where
    module _ (c : ℕ) (piece : List ℕ) (some : 0 < c) (came : c ≤ came_count older)
        (session : IsOfSession (bytes_read c (Read c piece ∷ older))) where
      abbrev h : History
      h = Read c piece ∷ older

      here : nat_eq c c ≡ true
      here = eq-eqb c c refl

      -- what the client asks now
      abbrev q : Asked
      q = asked c older

      abbrev asked_now : Asked
      asked_now = asked_with (is_asking c older (book older)) (devices older) (forwards older) piece q

      asks : is_asking c older (book older) ≡ is_none q.next
      asks = (λ i. a.joined c some came i && not (has_ended c older) && is_none q.next) ∙ asks_on (has_ended c older) q.next (a.ended c)

      now : asked_now ≡ asked_with (is_none q.next) model_devices [] piece q
      now = (λ i. asked_with (asks i) (known i) (a.forwards i) piece q)

      read_here : bytes_read c h ≡ bytes_read c older ++ piece
      read_here = ap (λ (b : Bool). cond b (bytes_read c older ++ piece) (bytes_read c older)) here

      has_now : HasAsked (bytes_read c older ++ piece) asked_now
      has_now = subst (HasAsked (bytes_read c older ++ piece)) (sym now)
          (more_asked (bytes_read c older) piece q (a.clients c) (subst IsOfSession read_here session) (is_none q.next) refl)

      clients_now : (d : ℕ) → HasAsked (bytes_read d h) (asked d h)
      clients_now d = go (cases_eq c d)
        where
          go : (c ≡ d) ⊎ (c ≢ d) → HasAsked (bytes_read d h) (asked d h)
          go (inl is) = subst (λ (k : ℕ). HasAsked (bytes_read k h) (asked k h)) is
              (subst (λ (b : Bool). HasAsked (cond b (bytes_read c older ++ piece) (bytes_read c older))
              (cond b asked_now q)) (sym here) has_now)
          go (inr other) =
              subst (λ (b : Bool). HasAsked (cond b (bytes_read d older ++ piece) (bytes_read d older)) (cond b asked_now (asked d older)))
              (sym (ne_eqb c d other)) (a.clients d)

      abbrev next_now : Option Next
      next_now = newly q.next asked_now.next

      done_now : IsDone next_now
      done_now = newly_done q.next asked_now.next (done (bytes_read c older ++ piece) asked_now has_now)

      kept : is_none q.next ≡ false → asked_now.next ≡ q.next
      kept closed = ap (λ (x : Asked). x.next) (now ∙ ap (λ (b : Bool). asked_with b model_devices [] piece q) closed)

      here_asked : asked c h ≡ asked_now
      here_asked = ap (λ (b : Bool). cond b asked_now q) here

      ended_now : (d : ℕ) → has_ended d older ≡ true → is_some (asked d h).next ≡ true
      ended_now d ended = go (cases_eq c d)
        where
          go : (c ≡ d) ⊎ (c ≢ d) → is_some (asked d h).next ≡ true
          go (inl is) =
              let done : is_some q.next ≡ true = a.ended c (subst (λ (k : ℕ). has_ended k older ≡ true) (sym is) ended) in
              subst (λ (k : ℕ). is_some (asked k h).next ≡ true) is
              (ap (λ (x : Asked). is_some x.next) here_asked ∙ (ap is_some (kept (some_next q.next done)) ∙ done))
          go (inr other) =
              ap (λ (b : Bool). is_some (cond b asked_now (asked d older)).next) (ne_eqb c d other) ∙ a.ended d ended

      born_now : length (births_at (Read c piece) older) ≡ one_if next_now
      born_now =
          ap (λ (x : Asked). length (birth_by c x.used older (newly q.next x.next))) here_asked
          ∙ one_birth c asked_now.used older next_now done_now

      births_now : length (births h) ≡ done_among (λ d. asked d h) (came_count h)
      births_now =
          let put : done_among (λ d. asked d h) (came_count h) + one_if q.next
          ≡ done_among (λ d. asked d older) (came_count older) + one_if asked_now.next =
          done_put (λ d. asked d older) c asked_now (came_count older) some came in
          let newer : one_if next_now + one_if q.next ≡ one_if asked_now.next =
          newly_one q.next asked_now.next (is_none q.next) refl kept in
          let old : length (births older) ≡ done_among (λ d. asked d older) (came_count older) = a.births in
          let all : length (births h) ≡ length (births older) + length (births_at (Read c piece) older) =
          length-append (births older) (births_at (Read c piece) older) in
          let born : length (births_at (Read c piece) older) ≡ one_if next_now = born_now in
          omega (arith, put, newer, old, all, born)

      read_asks : AsksForServices h
      read_asks = record {
        killed = (λ i. a.killed i || no_kill next_now done_now i);
        forwards = same_forwards next_now done_now (devices older) (forwards older) ∙ a.forwards;
        clients = clients_now;
        unread = λ d past. (
            let other : c ≢ d = λ same. omega (arith, same, past, came) in
            ap (λ (b : Bool). cond b (bytes_read d older ++ piece) (bytes_read d older)) (ne_eqb c d other) ∙ a.unread d past);
        joined = a.joined;
        ended = ended_now;
        births = births_now;
      }

  join_asks : (older : History) (c : ℕ) → c ≡ came_count older + 1 → AsksForServices older → AsksForServices (Join c ∷ older)
  join_asks older c number a = record {
    killed = a.killed;
    forwards = a.forwards;
    clients = a.clients;
    unread = λ d past. a.unread d (omega (arith, past));
    joined = λ d some le. joined d some (cases_lt (came_count older) d) le;
    ended = a.ended;
    births = (
        let last = came_count older + 1 in
        let none : asked last older ≡ nothing_asked =
        nothing_yet (bytes_read last older) (asked last older) (a.unread last (omega arith)) (a.clients last) in
        let fresh : one_if (asked (suc (came_count older)) older).next ≡ 0 =
        ap (λ (k : ℕ). one_if (asked k older).next) (sym (add-one (came_count older))) ∙ ap (λ (x : Asked). one_if x.next) none in
        let counts : done_among (λ d. asked d older) (came_count older + 1) ≡ done_among (λ d. asked d older) (suc (came_count older)) =
        ap (done_among (λ d. asked d older)) (add-one (came_count older)) in
        let old : length (births older) ≡ done_among (λ d. asked d older) (came_count older) = a.births in
        let all : length (births (Join c ∷ older)) ≡ length (births older) = ap length (append-nil (births older)) in
        omega (arith, fresh, counts, old, all));
  }
    where
      joined : (d : ℕ) → 0 < d → (came_count older < d) ⊎ (d ≤ came_count older) → d ≤ came_count older + 1
          → (nat_eq c d || has_joined d older) ≡ true
      joined d some (inl past) le = ap (λ (b : Bool). b || has_joined d older) (eq-eqb c d (omega (arith, number, past, le)))
      joined d some (inr below) le = ap (λ (b : Bool). nat_eq c d || b) (a.joined d some below) ∙ or_true (nat_eq c d)

  end_asks : (older : History) (c : ℕ) → is_some (asked c older).next ≡ true → AsksForServices older → AsksForServices (End c Eof ∷ older)
  end_asks older c done a = record {
    killed = a.killed;
    forwards = a.forwards;
    clients = a.clients;
    unread = a.unread;
    joined = a.joined;
    ended = λ d. ended d (cases_eq c d);
    births = ap length (append-nil (births older)) ∙ a.births;
  }
    where
      ended : (d : ℕ) → (c ≡ d) ⊎ (c ≢ d) → (nat_eq c d || has_ended d older) ≡ true → is_some (asked d older).next ≡ true
      ended d (inl is) e = subst (λ (k : ℕ). is_some (asked k older).next ≡ true) is done
      ended d (inr other) e = a.ended d (sym (ap (λ (b : Bool). b || has_ended d older) (ne_eqb c d other)) ∙ e)

  pub asks_for_services : (h : History) → IsLegal h → IsOfSessions h → AsksForServices h
  asks_for_services [] legal of = record {
    killed = refl;
    forwards = refl;
    clients = λ c. record {
      session = record {
        service = codes "echo:";
        text = [];
        known = record { known = refl; short = omega arith };
        front = (words_of (codes "echo:") [], refl);
      };
      front = [];
      first = ([], refl);
      asked = refl;
      all = λ _. refl;
    };
    unread = λ c past. refl;
    joined = λ c some le. absurd (omega (arith, some, le));
    ended = λ c e. absurd (let clash : false ≡ true = e in cc);
    births = refl;
  }
  asks_for_services (Join c ∷ older) legal of =
      join_asks older c (next_number (Join c) older legal.2) (asks_for_services older legal.0 of)
  asks_for_services (Read c piece ∷ older) legal of =
      let came = counted older in
      let drawn = legal.2.1 in
      read_asks older legal.0 (asks_for_services older legal.0 of.0) of.1 c piece drawn.0 (omega (arith, came.joined, drawn.1)) of.2
  asks_for_services (End c Eof ∷ older) legal of = end_asks older c of.1 (asks_for_services older legal.0 of.0)
  asks_for_services (Attach t kind serial ∷ older) legal of = quiet older (asks_for_services older legal.0 of)
    where
      quiet : (older : History) → AsksForServices older → AsksForServices (Attach t kind serial ∷ older)
      quiet older a = record {
        killed = a.killed;
        forwards = a.forwards;
        clients = a.clients;
        unread = a.unread;
        joined = a.joined;
        ended = a.ended;
        births = ap length (append-nil (births older)) ∙ a.births;
      }
  asks_for_services (Recv t bytes ∷ older) legal of = quiet older (asks_for_services older legal.0 of)
    where
      quiet : (older : History) → AsksForServices older → AsksForServices (Recv t bytes ∷ older)
      quiet older a = record {
        killed = a.killed;
        forwards = ap (led_by (devices_if (is_killed older) (Recv t bytes ∷ older))) a.forwards;
        clients = a.clients;
        unread = a.unread;
        joined = a.joined;
        ended = a.ended;
        births = ap length (append-nil (births older)) ∙ a.births;
      }
  asks_for_services (Put c bytes ∷ older) legal of = quiet older (asks_for_services older legal.0 of)
    where
      quiet : (older : History) → AsksForServices older → AsksForServices (Put c bytes ∷ older)
      quiet older a = record {
        killed = a.killed;
        forwards = a.forwards;
        clients = a.clients;
        unread = a.unread;
        joined = a.joined;
        ended = a.ended;
        births = ap length (append-nil (births older)) ∙ a.births;
      }
  asks_for_services (Send t bytes ∷ older) legal of = quiet older (asks_for_services older legal.0 of)
    where
      quiet : (older : History) → AsksForServices older → AsksForServices (Send t bytes ∷ older)
      quiet older a = record {
        killed = a.killed;
        forwards = a.forwards;
        clients = a.clients;
        unread = a.unread;
        joined = a.joined;
        ended = a.ended;
        births = ap length (append-nil (births older)) ∙ a.births;
      }
  asks_for_services (_ ∷ older) legal of = absurd of
