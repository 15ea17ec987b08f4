-- A client whose connection failed is told nothing more.
use Rattle.std.proofs.Common.{◌≡◌, ℕ, ◌≤◌, ◌<◌, Bool, true, false, cond, not, ◌&&◌, ◌||◌, List, [], ◌∷◌, ◌++◌, Option, Some, None, refl}
use Rattle.std.proofs.Common.{sym, ap, subst, ◌∙◌}
use Rattle.std.proofs.Common.{eqb}
use Rattle.std.proofs.Common.{append_assoc, arith}
use Rattle.std.proofs.lemmas.Bool.{eqb-true, eq-eqb}
use Rattle.std.specs.Prelude.{option_and_then}
use Rattle.adb_outside.specs.declared.kinds.Cause.{Cause}
use Rattle.adb_outside.specs.declared.kinds.Cause.TheVariants.{Eof, Fault, Starved, NoThread}
use Rattle.adb_stream.specs.declared.row.Stream.{Stream}
use Rattle.adb_client.specs.declared.phase.Phase.{Phase}
use Rattle.adb_client.specs.declared.phase.Phase.TheVariants.{Opening, Streaming}
use Rattle.adb_capture.specs.declared.entry.Entry.{Entry}
use Rattle.adb_capture.specs.declared.entry.Entry.TheVariants.{Join, End}
use Rattle.adb_history.specs.Rows.{Client, State, to_client, none_kept}
use Rattle.adb_history.specs.Events.{Made, Event, owed_to}
use Rattle.adb_history.specs.Losing.{stream_fails, stream_of, client_ends}
use Rattle.adb_history.specs.Machine.{History, state, told, rule, ups, May, IsLegal}
use Rattle.adb_history.specs.Bytes.{has_joined, has_ended, has_failed, is_orderly}
use Rattle.adb_history.specs.Tied.{came_count}
use Rattle.adb_history.specs.Owned.{IsOwned}
use Rattle.adb_history.proofs.RuleMoves as moves
use Rattle.adb_history.proofs.Numbers.{counted}
use Rattle.adb_history.proofs.OwnedStep.{owned_moves, all_owned}
use Rattle.adb_history.proofs.BookTurns.{all_unheard}
use Rattle.adb_laws_answered.specs.Served.{IsDone}
use Rattle.adb_laws_answered.proofs.HeardEntries.{joined_below}
use Rattle.adb_laws_answered.proofs.ClientTurns.{another_comes, covers_all, client_kept, client_ups}
use Rattle.adb_laws_answered.proofs.ServedClients.{done_client}

-- who failed has ended
failed_ended : (c : ℕ) (h : History) → has_failed c h ≡ true → has_ended c h ≡ true
failed_ended c [] e = e
failed_ended c (End n cause ∷ older) e = go (eqb n c) (not (is_orderly cause)) (has_failed c older) refl e (failed_ended c older)
  where
    go : (a b f : Bool) → has_failed c older ≡ f → ((a && b) || f) ≡ true → (has_failed c older ≡ true → has_ended c older ≡ true)
        → (a || has_ended c older) ≡ true
    go true b f is e h = refl
    go false b f is e h = h (is ∙ e)
failed_ended c (_ ∷ older) e = failed_ended c older e

-- ---- its row goes
fails_clients : (p : Phase) (cause : Cause) (o : Option Stream) (s : State) → (stream_fails p cause o s).state.clients ≡ s.clients
fails_clients (Streaming l) cause (Some stream) s = refl
fails_clients (Streaming l) cause None s = refl
fails_clients (Opening l) cause (Some stream) s = refl
fails_clients (Opening l) cause None s = refl
fails_clients _ cause o s = refl

none_row : (o : Option Client) → option_and_then none_kept o ≡ None
none_row None = refl
none_row (Some y) = refl

fails_none : (c : ℕ) (cause : Cause) (x : Client) (s : State)
    → (stream_fails x.about.phase cause (stream_of x.about.phase s.streams) (to_client c none_kept s)).state.clients c ≡ None
fails_none c cause x s = ap (λ (f : ℕ → Option Client). f c)
    (fails_clients x.about.phase cause (stream_of x.about.phase s.streams) (to_client c none_kept s))
    ∙ (ap (λ (b : Bool). cond b (option_and_then none_kept (s.clients c)) (s.clients c)) (eq-eqb c c refl) ∙ none_row (s.clients c))

ended_none : (c : ℕ) (cause : Cause) (o : Option Client) (s : State) → s.clients c ≡ o → is_orderly cause ≡ false
    → (client_ends c cause o s).state.clients c ≡ None
ended_none c cause None s is e = is
ended_none c Eof (Some x) s is e = absurd (let clash : true ≡ false = e in cc)
ended_none c Fault (Some x) s is e = fails_none c Fault x s
ended_none c Starved (Some x) s is e = fails_none c Starved x s
ended_none c NoThread (Some x) s is e = fails_none c NoThread x s

-- ---- all histories
-- what became due to a client that failed, and no more will
abbrev pub HasFailed : ℕ → History → Type 0
HasFailed c h = (out : List ℕ) × IsDone c out (state h) (told h)

module _ (c : ℕ) (older : History) (legal : IsLegal older) (came : has_joined c older ≡ true) where
  below : c ≤ (state older).joined
  below = let le = joined_below older legal c came in omega (arith, le, (counted older).joined)

  failed_stays : (e : Entry) → May (state older) e → HasFailed c older → HasFailed c (e ∷ older)
  failed_stays e may (out, h) = (
    out,
    client_kept (done_client c out) (state older) (told older) e
        (another_comes c 0 (state older) e (below, omega arith) may) (covers_all e) may h,
  )

  failed_now : (cause : Cause) → is_orderly cause ≡ false → HasFailed c (End c cause ∷ older)
  failed_now cause orderly =
      let s : State = state older in
      let m : Made = rule (End c cause) s in
      let none = ended_none c cause (s.clients c) s refl orderly in
      let owned : IsOwned m.state = moves.rule_kept owned_moves (End c cause) s (told older) (all_owned older legal) in
      let out : List ℕ = owed_to c (told older ++ m.told) in
      let done : IsDone c out m.state (told older ++ m.told) =
      record { owned = owned; row = λ client is. absurd (let clash : None ≡ Some client = sym none ∙ is in cc); told = refl } in (
        out,
        subst (λ (v : List Event). IsDone c out (state (End c cause ∷ older)) v) (append_assoc (told older) m.told (ups m.state).told)
            (client_ups (done_client c out) m.state (told older ++ m.told) done),
      )

  failed_end : (n : ℕ) (cause : Cause) → May (state older) (End n cause) → (has_failed c older ≡ true → HasFailed c older)
      → (a b f : Bool) → eqb n c ≡ a → is_orderly cause ≡ b → has_failed c older ≡ f → ((a && not b) || f) ≡ true
      → HasFailed c (End n cause ∷ older)
  failed_end n cause may before a b true same orderly is e = failed_stays (End n cause) may (before is)
  failed_end n cause may before true false false same orderly is e =
      subst (λ (k : ℕ). HasFailed c (End k cause ∷ older)) (sym (eqb-true n c same)) (failed_now cause orderly)
  failed_end n cause may before true true false same orderly is e = absurd (let clash : false ≡ true = e in cc)
  failed_end n cause may before false b false same orderly is e = absurd (let clash : false ≡ true = e in cc)

pub all_failed : (h : History) → IsLegal h → (c : ℕ) → has_joined c h ≡ true → has_failed c h ≡ true → HasFailed c h
all_failed [] legal c came e = absurd (let clash : false ≡ true = e in cc)
all_failed (End n cause ∷ older) legal c came e =
    failed_end c older legal.0 came n cause legal.2 (λ f. all_failed older legal.0 c came f) (eqb n c)
    (is_orderly cause) (has_failed c older) refl refl refl e
all_failed (Join n ∷ older) legal c came e = go (eqb n c) refl came (λ before. all_failed older legal.0 c before e)
  where
    unheard : n ≡ c → ⊥
    unheard same =
        let above : came_count older < c = omega (arith, same, legal.2.1, (counted older).joined) in
        let clash : true ≡ false = sym (failed_ended c older e) ∙ (all_unheard older legal.0 c above).ended in
        cc

    go : (b : Bool) → eqb n c ≡ b → (b || has_joined c older) ≡ true → (has_joined c older ≡ true → HasFailed c older)
        → HasFailed c (Join n ∷ older)
    go true f came before = absurd (unheard (eqb-true n c f))
    go false f came before = failed_stays c older legal.0 came (Join n) legal.2 (before came)
all_failed (x ∷ older) legal c came e = failed_stays c older legal.0 came x legal.2 (all_failed older legal.0 c came e)
