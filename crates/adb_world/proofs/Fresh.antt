-- A client that did not come was put nothing; and a session that joins.
use Rattle.std.specs.Prelude.{ℕ, ◌+◌, ◌≡◌, ◌≢◌, ◌≤◌, ◌<◌, ◌||◌, Bool, false, cond, List, [], ◌∷◌, ◌++◌, length, take, drop, Option, Some}
use Rattle.std.specs.Prelude.{None}
use Rattle.std.proofs.Common.{refl, sym, ◌∙◌, ap, subst, arith, ◌⊎◌, inl, inr}
use Rattle.std.proofs.lemmas.Bool.{cases_eq, ne_eqb}
use Rattle.std.proofs.Math.Seq.{drop-append_seam}
use Rattle.adb_outside.specs.Tables.{at, Puts}
use Rattle.adb_capture.specs.declared.entry.Entry.TheVariants.{Join, Enter, End, Put}
use Rattle.adb_history.specs.Bytes.{bytes_put, bytes_sent, bytes_received, has_ended}
use Rattle.adb_history.specs.Kept.{Kept, IsLawful}
use Rattle.adb_history.specs.Machine.{History, state, IsLegal, MayPut}
use Rattle.adb_history.specs.Rows.{Client}
use Rattle.adb_history.specs.Tied.{came_count}
use Rattle.adb_history.proofs.Numbers.{counted, all_drawn}
use Rattle.adb_daemon.specs.Daemon.{HasDone}
use Rattle.adb_laws_answers.specs.Words.{requests_for, words_of}
use Rattle.adb_laws_answers.specs.Model.{model_setting}
use Rattle.adb_laws_answers.specs.Sessions.{AsksForServices}
use Rattle.adb_world.specs.Parts.{Holds, most_sessions, IsKeptAt}
use Rattle.adb_world.specs.Session.{IsTold, IsNew}
use Rattle.adb_world.specs.declared.parts.Parts.{Parts}
use Rattle.adb_world.specs.declared.session.Session.{Session}
use Rattle.adb_world.proofs.Entries.{comes_first}
use Rattle.adb_world.proofs.Gone.{gone_join}

pub none_put : (h : History) → IsLegal h → (c : ℕ) → came_count h < c → bytes_put c h ≡ []
none_put [] legal c past = refl
none_put (Put n piece ∷ older) legal c past =
    ap (λ (b : Bool). cond b (bytes_put c older ++ piece) (bytes_put c older)) (ne_eqb n c other) ∙ none_put older legal.0 c past
  where
    gone : (state older).clients c ≡ None
    gone = let counts = (counted older).joined in (all_drawn older legal.0).clients.above c (omega (arith, counts, past))

    nobody : (o : Option Client) → o ≡ None → MayPut (state older) o piece → ⊥
    nobody None is may = may
    nobody (Some client) is may = let clash : Some client ≡ None = is in cc

    other : n ≡ c → ⊥
    other same = nobody ((state older).clients n) (ap (state older).clients same ∙ gone) legal.2
none_put (Join n ∷ older) legal c past = none_put older legal.0 c (omega (arith, past))
none_put (Enter n port ∷ older) legal c past = none_put older legal.0 c (omega (arith, past))
none_put (_ ∷ older) legal c past = none_put older legal.0 c past

pub none_ended : (h : History) → IsLegal h → (c : ℕ) → came_count h < c → has_ended c h ≡ false
none_ended [] legal c past = refl
none_ended (End n cause ∷ older) legal c past =
    ap (λ (b : Bool). b || has_ended c older) (ne_eqb n c other) ∙ none_ended older legal.0 c past
  where
    other : n ≡ c → ⊥
    other same = let counts = (counted older).joined in let drawn = legal.2.1.1 in omega (arith, counts, drawn, same, past)
none_ended (Join n ∷ older) legal c past = none_ended older legal.0 c (omega (arith, past))
none_ended (Enter n port ∷ older) legal c past = none_ended older legal.0 c (omega (arith, past))
none_ended (_ ∷ older) legal c past = none_ended older legal.0 c past

-- ---- a session joins
-- the text of a session that has written nothing is its own
own_text : (service text : List ℕ) → drop (length (requests_for service)) (words_of service text) ≡ text
own_text service text = drop-append_seam (requests_for service) text

module _ (h : History) (parts : Parts) (holds : Holds h parts) (asks : AsksForServices h) (session : Session) (fresh : IsNew session) where
  abbrev number : ℕ
  number = parts.given + 1

  unwritten : session.written ≡ 0
  unwritten = ap (λ (s : Session). s.written) fresh.is

  told_new : IsTold (Join number ∷ h) number session
  told_new = record {
    known = fresh.known;
    words =
        ap (λ (s : Session). s.words) fresh.is
        ∙ ap (words_of session.service)
        (sym (ap (λ (s : Session). drop (length (requests_for session.service)) s.words) fresh.is ∙ own_text session.service fresh.text));
    within = omega (arith, unwritten);
    read = (
        let came = holds.came in
        asks.unread number (omega (arith, came)) ∙ sym (ap (λ (n : ℕ). take n session.words) unwritten));
    put = (
        let came = holds.came in
        none_put h holds.lawful.legal number (omega (arith, came)) ∙ sym (ap (λ (s : Session). s.got) fresh.is));
    alive = (let came = holds.came in none_ended h holds.lawful.legal number (omega (arith, came)));
  }

  pub joined_by : (hub : Kept) (new : Parts) → parts.given < most_sessions → IsLawful hub (Join number ∷ h) → new.hub ≡ hub
      → new.device ≡ parts.device → new.given ≡ number
      → Puts number (Some session) parts.sessions.entries new.sessions.entries → Holds (Join number ∷ h) new
  joined_by hub new room lawful hub_is device_is given_is puts = record {
    lawful = subst (λ (k : Kept). IsLawful k (Join number ∷ h)) (sym hub_is) lawful;
    done = subst (HasDone model_setting (bytes_sent 1 h) (bytes_received 1 h)) (sym device_is) holds.done;
    joined = (holds.joined, comes_first h parts holds);
    here = holds.here;
    plugged_as = holds.plugged_as;
    one = holds.one;
    asks = holds.asks;
    came = ap (λ (n : ℕ). n + 1) holds.came ∙ sym given_is;
    few = subst (λ (g : ℕ). g ≤ most_sessions) (sym given_is) (omega (arith, room));
    sessions = subst (λ (g : ℕ). (k : ℕ) → IsKeptAt g (Join number ∷ h) k (at k new.sessions.entries)) (sym given_is) kept;
  }
    where
      old_at : (c : ℕ) → c ≢ number → (o : Option Session) → IsKeptAt parts.given h c o → IsKeptAt number (Join number ∷ h) c o
      old_at c other None (inl (inl zeroth)) = inl (inl zeroth)
      old_at c other None (inl (inr past)) = inl (inr (omega (arith, past, other)))
      old_at c other None (inr over) =
          inr (record {
            drawn = (over.drawn.0, (let le = over.drawn.1 in omega (arith, le)));
            ended = over.ended;
            gone = gone_join h c over.gone number (λ same. other (sym same));
          })
      old_at c other (Some s) (drawn, told) = (
        (drawn.0, (let le = drawn.1 in omega (arith, le))),
        record { known = told.known; words = told.words; within = told.within; read = told.read; put = told.put; alive = told.alive },
      )

      kept : (c : ℕ) → IsKeptAt number (Join number ∷ h) c (at c new.sessions.entries)
      kept c = go (cases_eq c number)
        where
          go : (c ≡ number) ⊎ (c ≢ number) → IsKeptAt number (Join number ∷ h) c (at c new.sessions.entries)
          go (inl is) =
              subst (λ (k : ℕ). IsKeptAt number (Join number ∷ h) k (at k new.sessions.entries)) (sym is)
              (subst (IsKeptAt number (Join number ∷ h) number) (sym puts.here) ((omega arith, omega arith), told_new))
          go (inr other) =
              subst (IsKeptAt number (Join number ∷ h) c) (sym (puts.others c other))
              (old_at c other (at c parts.sessions.entries) (holds.sessions c))
