-- A session of the file service that runs alone and is dropped then: what it is answered, and what it leaves.
use Rattle.std.specs.Prelude.{ℕ, ◌+◌, ◌≡◌, ◌≢◌, true, is_some, List, [], ◌∷◌, ◌++◌, length, drop, take, Option, Some, None, codes}
use Rattle.std.specs.Prelude.{option_map}
use Rattle.std.specs.List.{AllByRecursion}
use Rattle.std.proofs.Common.{refl, sym, ◌∙◌, ap, subst, arith, ◌⊎◌, inl, inr}
use Rattle.std.proofs.lemmas.Bool.{cases_eq}
use Rattle.std.proofs.Math.Seq.{drop-append_seam}
use Rattle.adb_outside.specs.Tables.{at}
use Rattle.adb_outside.proofs.TableLaws.{puts_put_at}
use Rattle.adb_files.specs.Entries.{Entry}
use Rattle.adb_files.specs.Requests.{Request, requests_in}
use Rattle.adb_files.specs.Served.{Served, serve_all, served}
use Rattle.std.proofs.lemmas.List.{length-append, take_all}
use Rattle.adb_laws_alone.specs.Calls.{AreFirst, Call, asks_of, files_after}
use Rattle.adb_laws_alone.proofs.Through.{asks_for, calls_of, calls_own, served_first}
use Rattle.adb_request.specs.Requests.{hex_digits}
use Rattle.adb_device_streams.specs.Asked.{Kind, Syncs, service_of}
use Rattle.adb_device_streams.specs.Service.{files_fed, service_answer}
use Rattle.adb_laws_answers.specs.Words.{IsKnown, requests_for, selects}
use Rattle.adb_world.specs.Answered.{IsAnsweredAlone, IsNewAlone, answer_of, text_over}
use Rattle.adb_world.specs.Parts.{Adds, AreSame, AreSameBut, IsKeptAt, IsSame}
use Rattle.adb_world.specs.Session.{left_of, new_session, text_of}
use Rattle.adb_world.specs.Settled.{Each, IsAtEase, IsDone}
use Rattle.adb_world.specs.Stopped.{IsServedInPart}
use Rattle.adb_world.specs.Together.{AreAskedInPart, IsUnwritten}
use Rattle.adb_world.specs.declared.parts.Parts.{Parts}
use Rattle.adb_world.specs.declared.session.Session.{Session}

-- the file service is known
pub sync_known : IsKnown (codes "sync:")
sync_known = record { known = refl; short = omega arith }

-- what a service makes of a text at once: its answer, and the files that it leaves
record Made : Type 0 where
  answer : List ℕ
  files : List Entry

abbrev made_of : Kind → List Entry → List ℕ → Made
made_of kind files text = record {
  answer = (service_answer kind files (text_over kind text files ∷ [])).bytes;
  files = files_fed kind [] (text_over kind text files);
}

abbrev by_sync : Served → Made
by_sync s = record { answer = s.answer; files = s.files }

sync_made : (files : List Entry) (ask : List ℕ) → made_of Syncs files ask ≡ by_sync (served files ask)
sync_made files ask = refl

-- the session of a number, which was started and stays the same
record IsFound (number : ℕ) (ask : List ℕ) (sessions : List (ℕ × Session)) : Type 0 where
  session : Session
  is : at number sessions ≡ Some session
  same : IsSame (Some (new_session (codes "sync:") ask)) (Some session)

module _ (number : ℕ) (ask : List ℕ) (old mid after : Parts) (adds : Adds number (new_session (codes "sync:") ask) old mid)
    (same : AreSame mid.sessions.entries after.sessions.entries) where
  abbrev started : Session
  started = new_session (codes "sync:") ask

  here : at number mid.sessions.entries ≡ Some started
  here = ap (at number) adds.sessions ∙ (puts_put_at number started old.sessions.entries).here

  others : (c : ℕ) → c ≢ number → at c mid.sessions.entries ≡ at c old.sessions.entries
  others c apart = ap (at c) adds.sessions ∙ (puts_put_at number started old.sessions.entries).others c apart

  found : IsFound number ask after.sessions.entries
  found = go (at number after.sessions.entries) refl
      (subst (λ (o : Option Session). IsSame o (at number after.sessions.entries)) here (same number))
    where
      go : (o : Option Session) → at number after.sessions.entries ≡ o → IsSame (Some started) o → IsFound number ask after.sessions.entries
      go None is kept = absurd kept
      go (Some session) is kept = record { session = session; is = is; same = kept }

  pub there_after : is_some (at number after.sessions.entries) ≡ true
  there_after = ap is_some found.is

  -- it begins alone, where the others had written all
  pub new_alone : Each old.sessions.entries (λ (session : Session). left_of session ≡ []) → IsNewAlone number mid.sessions.entries
  new_alone words = record {
    session = started;
    is = here;
    unwritten = refl;
    others = λ c other apart is. words c other (sym (others c apart) ∙ is);
  }

  -- its answer, and the files that it leaves
  module _ (left : List Entry) (files : List Entry)
      (alone : (session : Session) → at number after.sessions.entries ≡ Some session → IsAnsweredAlone session files left) where
    answered : IsAnsweredAlone found.session files left
    answered = alone found.session found.is

    kind : answered.kind ≡ Syncs
    kind =
        let both : Some answered.kind ≡ Some Syncs = sym answered.asked ∙ ap service_of found.same.0 in
        cc

    text : text_of found.session ≡ ask
    text =
        (λ i. drop (length (requests_for (found.same.0 i))) (found.same.1 i)) ∙ drop-append_seam (requests_for (codes "sync:")) ask

    made : made_of answered.kind files (text_of found.session) ≡ by_sync (served files ask)
    made = (λ i. made_of (kind i) files (text i)) ∙ sync_made files ask

    pub is_answer : (answer : List ℕ) → Some answer ≡ option_map answer_of (at number after.sessions.entries)
        → answer ≡ (served files ask).answer
    is_answer answer is =
        let both : Some answer ≡ Some (answer_of found.session) = is ∙ ap (option_map answer_of) found.is in
        let one : answer ≡ answer_of found.session = cc in
        one
        ∙ (ap (drop 8) answered.got
        ∙ (drop-append_seam (codes "OKAYOKAY")
        (service_answer answered.kind files (text_over answered.kind (text_of found.session) files ∷ [])).bytes
        ∙ ap (λ (m : Made). m.answer) made))

    pub is_left : left ≡ (served files ask).files
    is_left = answered.left_files ∙ ap (λ (m : Made). m.files) made

  -- the others are the same, and it is there neither before nor afterwards
  pub all_same : (ease : IsAtEase old) → number ≡ old.given + 1 → (new : Parts)
      → AreSameBut number after.sessions.entries new.sessions.entries → AreSame old.sessions.entries new.sessions.entries
  all_same ease number_is new but c = go (cases_eq c number)
    where
      none_before : (o : Option Session) → at number old.sessions.entries ≡ o → IsKeptAt old.given ease.runs.history number o
          → at number old.sessions.entries ≡ None
      none_before None is kept = is
      none_before (Some session) is kept = (let within = kept.0.1 in absurd (omega (arith, within, number_is)))

      then_same : (a b d : Option Session) → IsSame a b → IsSame b d → IsSame a d
      then_same None None None first second = tt
      then_same (Some a) (Some b) (Some d) first second = (second.0 ∙ first.0, second.1 ∙ first.1)
      then_same None None (Some d) first second = absurd second
      then_same None (Some b) d first second = absurd first
      then_same (Some a) None d first second = absurd first
      then_same (Some a) (Some b) None first second = absurd second

      go : (c ≡ number) ⊎ (c ≢ number) → IsSame (at c old.sessions.entries) (at c new.sessions.entries)
      go (inl is) =
          subst (λ (k : ℕ). IsSame (at k old.sessions.entries) (at k new.sessions.entries)) (sym is)
          (subst (λ (o : Option Session). IsSame o (at number new.sessions.entries))
          (sym (none_before (at number old.sessions.entries) refl (ease.runs.holds.sessions number)))
          (subst (λ (o : Option Session). IsSame None o) (sym but.here) tt))
      go (inr apart) =
          then_same (at c old.sessions.entries) (at c after.sessions.entries) (at c new.sessions.entries)
          (subst (λ (o : Option Session). IsSame o (at c after.sessions.entries)) (others c apart) (same c)) (but.others c apart)

  -- what it asked for by the time at which a step failed: a prefix of its requests was served
  pub in_part : IsDone old → (files left : List Entry) → AreAskedInPart files left mid.sessions.entries → IsServedInPart files left ask
  in_part done files left part = (
    first.0,
    part.left_files ∙ (ap (files_after files) (calls_own number part.calls (only part.calls part.only)) ∙ first.1),
  )
    where
      unwritten : IsUnwritten number mid.sessions.entries
      unwritten = record { session = started; is = here; unwritten = refl }

      -- a session that has written all has written something
      some_words : (c : ℕ) (session : Session) → at c old.sessions.entries ≡ Some session → session.written ≡ 0 → ⊥
      some_words c session is none =
          let told = (subst (IsKeptAt old.given done.ease.runs.history c) is (done.ease.runs.holds.sessions c)).1 in
          let all : session.words ≡ [] = sym (ap (λ (n : ℕ). drop n session.words) none) ∙ done.words c session is in
          let long = length-append (requests_for session.service) (text_of session) in
          let first = length-append selects (hex_digits (length session.service) ++ session.service) in
          let same : 0 ≡ length (requests_for session.service ++ text_of session) = ap length (sym all ∙ told.words) in
          omega (arith, long, first, same)

      one : (c : ℕ) → IsUnwritten c mid.sessions.entries → c ≡ number
      one c u = go (cases_eq c number)
        where
          go : (c ≡ number) ⊎ (c ≢ number) → c ≡ number
          go (inl same) = same
          go (inr apart) = absurd (some_words c u.session (sym (others c apart) ∙ u.is) u.unwritten)

      only : (calls : List Call) → AllByRecursion (λ (call : Call). IsUnwritten call.caller mid.sessions.entries) calls
          → AllByRecursion (λ (call : Call). call.caller ≡ number) calls
      only [] all = tt
      only (call ∷ calls) all = (one call.caller all.0, only calls all.1)

      asked : AreFirst (asks_of number part.calls) (asks_for (requests_in ask))
      asked =
          subst (λ (text : List ℕ). AreFirst (asks_of number part.calls) (asks_for (requests_in text)))
          (drop-append_seam (requests_for (codes "sync:")) ask)
          (part.asked number unwritten Syncs refl)

      first : (k : ℕ)
          × (files_after files (calls_of number (asks_of number part.calls))
          ≡ (serve_all files (take k (requests_in ask))).files)
      first = served_first number files (requests_in ask) (asks_of number part.calls) asked

-- all requests are a prefix of them
pub all_served : (files left : List Entry) (ask : List ℕ) → left ≡ (served files ask).files → IsServedInPart files left ask
all_served files left ask is =
    let requests = requests_in ask in
    (length requests, is ∙ ap (λ (rs : List Request). (serve_all files rs).files) (sym (take_all (length requests) requests (omega arith))))
