-- A stream that lives on had no failing client, and no kill.
use Rattle.std.proofs.Common.{◌≡◌, ◌+◌, ℕ, zero, suc, Bool, true, false, cond, not, ◌&&◌, ◌||◌, List, ◌∷◌, Option, Some, None, refl, sym}
use Rattle.std.proofs.Common.{ap}
use Rattle.std.proofs.Common.{◌∙◌, ◌⊎◌, inl, inr, arith, eqb}
use Rattle.std.specs.Prelude.{is_some}
use Rattle.std.specs.List.{list_any}
use Rattle.std.proofs.Math.Bool.{and-not_self}
use Rattle.std.proofs.lemmas.Bool.{eqb-true, eq-eqb}
use Rattle.adb_outside.specs.Tables.{at}
use Rattle.adb_outside.specs.declared.kinds.Cause.{Cause}
use Rattle.adb_outside.specs.declared.kinds.Cause.TheVariants.{Eof, Fault, Starved, NoThread}
use Rattle.adb_stream.specs.declared.row.Stream.{Stream}
use Rattle.adb_client.specs.declared.phase.Phase.{Phase}
use Rattle.adb_client.specs.declared.phase.Phase.TheVariants.{Asking, Opening, Streaming}
use Rattle.adb_client.specs.declared.about.Want.{Want}
use Rattle.adb_reply.specs.declared.answer.Next.{Next}
use Rattle.adb_reply.specs.declared.answer.Next.TheVariants.{Open, Stop}
use Rattle.adb_capture.specs.declared.entry.Entry.{Entry}
use Rattle.adb_capture.specs.declared.entry.Entry.TheVariants.{Read, End, Bound}
use Rattle.adb_history.specs.Rows.{Client, State, to_client, none_kept}
use Rattle.adb_history.specs.Events.{Made, ending_in}
use Rattle.adb_history.specs.declared.ending.Ending.TheVariants.{ClientFailed}
use Rattle.adb_history.specs.Clients.{owe_client}
use Rattle.adb_history.specs.Streams.{stream_ids, asks_for, no_ids_left, opens}
use Rattle.adb_history.specs.Losing.{stream_fails, stream_of, client_ends}
use Rattle.adb_history.specs.Asking.{asks_with}
use Rattle.adb_history.specs.Reading.{goes_on, asked_before, has_asked, reads_in, reads_from, reads}
use Rattle.adb_history.specs.Machine.{History, state, told_at, told, IsLegal}
use Rattle.adb_history.specs.Bytes.{is_orderly}
use Rattle.adb_history.specs.Book.{book, bound_turn, devices_if, is_killed}
use Rattle.adb_history.specs.Births.{Birth, born}
use Rattle.adb_history.specs.Lives.{ending_of}
use Rattle.adb_history.specs.Orderly.{phase_for}
use Rattle.adb_history.specs.Owned.{ClientOf}
use Rattle.adb_history.specs.Causes.{brings, failure_of}
use Rattle.adb_history.specs.Causes.{stops_now, is_struck, HasNoOtherCause}
use Rattle.adb_history.proofs.Books.{all_books}
use Rattle.adb_history.proofs.LinkMoves.{all_linked}
use Rattle.adb_history.proofs.OwnedMoves.{client_of}
use Rattle.adb_laws_causes.specs.Flows.{HasFlows, AllHoldAsTold}
use Rattle.adb_laws_causes.proofs.Middle.{holds_flows}
use Rattle.adb_laws_causes.proofs.Fates.{lives, ending_append, or_none, none_some, row_lives}
use Rattle.adb_laws_causes.proofs.RuleFates.{drawn_row, rule_fate}
use Rattle.adb_laws_causes.proofs.Runs.{says_anew}
use Rattle.adb_laws_causes.proofs.Endings.{time_of, stopped_after}
use Rattle.adb_laws_causes.proofs.Others.{Alive, alive_at, unstruck, rule_none, link_quiet, not_detached}

-- ---- its client did not fail
module _ (phase : Phase) (c l : ℕ) where
  -- the failure of the client of a stream is told
  fails_told : (remote : ℕ) (cause : Cause) (s : State) → (x : Stream) → s.streams l ≡ Some x → phase ≡ phase_for l remote
      → ending_in l (stream_fails phase cause (stream_of phase s.streams) (to_client c none_kept s)).told ≡ Some (ClientFailed cause)
  fails_told zero cause s x is in_phase =
      ap (λ p. ending_in l (stream_fails p cause (stream_of p s.streams) (to_client c none_kept s)).told) in_phase
      ∙ (ap (λ o. ending_in l (stream_fails (Opening l) cause o (to_client c none_kept s)).told) is
      ∙ ap (λ b. cond b (Some (ClientFailed cause)) None) (eq-eqb l l refl))
  fails_told (suc n) cause s x is in_phase =
      ap (λ p. ending_in l (stream_fails p cause (stream_of p s.streams) (to_client c none_kept s)).told) in_phase
      ∙ (ap (λ o. ending_in l (stream_fails (Streaming l) cause o (to_client c none_kept s)).told) is
      ∙ ap (λ b. cond b (Some (ClientFailed cause)) None) (eq-eqb l l refl))

pub end_told : (c l : ℕ) (cause : Cause) (s : State) (x : Stream) → s.streams l ≡ Some x
    → (k : ClientOf s.clients l x) → s.clients c ≡ Some k.client
    → is_orderly cause ≡ false → ending_in l (client_ends c cause (Some k.client) s).told ≡ Some (ClientFailed cause)
end_told c l Fault s x is k here e = fails_told k.client.about.phase c l x.part.remote Fault s x is k.phase
end_told c l Starved s x is k here e = fails_told k.client.about.phase c l x.part.remote Starved s x is k.phase
end_told c l NoThread s x is k here e = fails_told k.client.about.phase c l x.part.remote NoThread s x is k.phase
end_told c l Eof s x is k here e = absurd (let clash : true ≡ false = e in cc)

module _ (l : ℕ) (b : Birth) (older : History) (a : Alive l b older) (legal : IsLegal older) where
  not_failed : (e : Entry) → ending_in l (told_at e older) ≡ None → is_some (failure_of b.client e) ≡ false
  not_failed (End n cause) none = go (eqb n b.client) (is_orderly cause) refl refl
    where
      falls : n ≡ b.client → is_orderly cause ≡ false → ⊥
      falls same bad =
          let k = client_of (state older) l a.row a.is a.alive (all_linked older legal).owned in
          let here : (state older).clients n ≡ Some k.client = ap (state older).clients (same ∙ sym a.client) ∙ k.is in
          let told = end_told n l cause (state older) a.row a.is k here bad in
          none_some (ClientFailed cause)
          (sym (ap (λ o. ending_in l (client_ends n cause o (state older)).told) (sym here)
          ∙ rule_none l b older a (End n cause) none) ∙ told)

      go : (c orderly : Bool) → eqb n b.client ≡ c → is_orderly cause ≡ orderly
          → is_some (cond (c && not orderly) (Some cause) None) ≡ false
      go true false e f = absurd (falls (eqb-true n b.client e) f)
      go true true e f = refl
      go false orderly e f = refl
  not_failed _ none = refl

-- ---- the server was not stopped
-- a kill is made with all streams, or not at all
module _ (l : ℕ) where
  abbrev pub Kills : State → Made → Type 0
  Kills s m = (m.state.stopped ≡ s.stopped) ⊎ (m.state.streams l ≡ None)

  opens_kills : (forwarded : Bool) (c t : ℕ) (service : List ℕ) (s : State) → Kills s (opens forwarded c t service s)
  opens_kills forwarded c t service s = go (eqb s.drawn stream_ids)
    where
      ids : (b : Bool) → Kills s (no_ids_left b c s)
      ids true = inl refl
      ids false = inl refl

      go : (b : Bool) → Kills s (cond b (no_ids_left forwarded c s) (asks_for (s.drawn + 1) c t service s))
      go true = ids forwarded
      go false = inl refl

  goes_on_kills : (next : Option Next) (c : ℕ) (s : State) → Kills s (goes_on next c s)
  goes_on_kills (Some (Open t service)) c s = opens_kills false c t service s
  goes_on_kills (Some Stop) c s = inr refl
  goes_on_kills _ c s = inl refl

  reads_in_kills : (phase : Phase) (c : ℕ) (bytes : List ℕ) (client : Client) (s : State) → Kills s (reads_in phase c bytes client s)
  reads_in_kills Asking c bytes client s =
      let q = asks_with s.devices s.forwards bytes (asked_before client) in
      goes_on_kills q.next c (owe_client c q.replies (to_client c (has_asked q) s)).state
  reads_in_kills _ c bytes client s = inl refl

  pub reads_kills : (o : Option Client) (c : ℕ) (bytes : List ℕ) (s : State) → Kills s (reads_from o c bytes s)
  reads_kills None c bytes s = inl refl
  reads_kills (Some client) c bytes s = reads_in_kills client.about.phase c bytes client s

-- a listener makes no kill
pub bound_killed : (c port : ℕ) (older : History) (o : Option Want)
    → (bound_turn c port (devices_if (book older).killed older) o (book older)).killed ≡ (book older).killed
bound_killed c port older None = refl
bound_killed c port older (Some want) = refl

module _ (l : ℕ) (b : Birth) (older : History) (a : Alive l b older) where
  same_kill : (e : Entry) → is_killed (e ∷ older) ≡ is_killed older → stops_now e older ≡ false
  same_kill e same = ap (λ k. k && not (is_killed older)) same ∙ and-not_self (is_killed older)

  not_stopped : (e : Entry) → IsLegal (e ∷ older) → ending_in l (told_at e older) ≡ None → stops_now e older ≡ false
  not_stopped (Read c bytes) time none = go (is_killed (Read c bytes ∷ older)) refl
    where
      on : lives ((reads c bytes (state older)).state.streams l) ≡ true
      on =
          let owned = (all_linked older time.0).owned in
          let within = drawn_row (state older).drawn l (state older).streams owned.rows.streams a.row a.is in
          let fate = rule_fate l (state older) owned (Read c bytes) (λ e. λ next. omega (arith, within.1, next)) in
          fate.stays (rule_none l b older a (Read c bytes) none) ∙ row_lives ((state older).streams l) a.row a.is a.alive

      falls : is_killed (Read c bytes ∷ older) ≡ true → ⊥
      falls killed =
          let after : (reads c bytes (state older)).state.stopped ≡ true =
          sym (stopped_after (Read c bytes) older) ∙ ((all_books (Read c bytes ∷ older) time).killed ∙ killed) in
          kind after (reads_kills l ((state older).clients c) c bytes (state older))
        where
          kind : (reads c bytes (state older)).state.stopped ≡ true → Kills l (state older) (reads c bytes (state older)) → ⊥
          kind after (inl same) = let clash : true ≡ false = sym after ∙ (same ∙ time.2.0) in cc
          kind after (inr gone) = let clash : true ≡ false = sym on ∙ ap lives gone in cc

      go : (k : Bool) → is_killed (Read c bytes ∷ older) ≡ k → (k && not (is_killed older)) ≡ false
      go false e = refl
      go true e = absurd (falls e)
  not_stopped (Bound c port) time none = same_kill (Bound c port) (bound_killed c port older ((book older).waits c))
  not_stopped e time none = same_kill e refl

-- ---- all of these
not_struck : (l : ℕ) (b : Birth) (e : Entry) (older : History) → IsLegal (e ∷ older) × HasFlows older × (born l older ≡ Some b)
    → (ending_of l older ≡ None) × (ending_in l (told_at e older) ≡ None) → is_struck l b e older ≡ false
not_struck l b e older at none =
    let legal = at.0.0 in
    let a = alive_at l b older legal at.2 none.0 in
    let quiet = link_quiet l b older a e (at.0, at.1, at.2) none.1 in
    unstruck l b e older (record {
      peer = quiet.peer;
      turn = quiet.turn;
      lost = ap (λ d. d || list_any says_anew (brings b.link e older)) (not_detached l b older a e legal none.1) ∙ quiet.anew;
      broken = quiet.broken;
      failed = not_failed l b older a legal e none.1;
      stopped = not_stopped l b older a e at.0 none.1;
    })

pub all_other : AllHoldAsTold → (h : History) → IsLegal h → HasNoOtherCause h
all_other holds h legal l b e older moment is none =
    let time = time_of h legal e older moment in
    not_struck l b e older (time, holds_flows older time.0 (holds older time.0), is)
    (or_none (ending_in l (told older)) (ending_in l (told_at e older)) (sym (ending_append l (told older) (told_at e older)) ∙ none))
