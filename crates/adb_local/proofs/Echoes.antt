-- The streams of an echo, from their start until each got back what it sent.
use Rattle.std.specs.Prelude.{ℕ, ◌+◌, ◌≡◌, ◌≢◌, ◌<◌, List, [], length, drop, Some, None, codes, option_map}
use Rattle.std.proofs.Common.{refl, sym, ◌∙◌, ap, subst, arith, ◌⊎◌, inl, inr}
use Rattle.std.proofs.lemmas.Bool.{cases_eq}
use Rattle.std.proofs.Math.Seq.{drop-append_seam}
use Rattle.adb_outside.specs.Tables.{at}
use Rattle.adb_outside.proofs.TableLaws.{puts_put_at}
use Rattle.adb_device_streams.specs.Asked.{Kind, Echoes, service_of}
use Rattle.adb_device_streams.specs.Service.{bytes_in, service_answer}
use Rattle.adb_laws_answers.specs.Words.{requests_for}
use Rattle.adb_script.specs.Lines as lines
use Rattle.adb_script.specs.Pattern.{pattern}
use Rattle.adb_laws_answers.specs.Answers.{CameOf}
use Rattle.adb_world.specs.Answered.{AreEchoes, IsAnswered, answer_of}
use Rattle.adb_world.specs.Parts.{AreSame, IsSame}
use Rattle.adb_world.specs.Session.{text_of}
use Rattle.adb_world.specs.Settled.{Each}
use Rattle.adb_world.specs.World.{HasStarted, View}
use Rattle.adb_world.specs.declared.session.Session.{Session}
use Rattle.adb_local.specs.Running.{RunsLine}
use Rattle.adb_local.specs.Streams.{AreEchoed, IsOfStream, IsStarting, stream_session}
use Rattle.adb_local.proofs.Alone.{IsFinished}
use Rattle.adb_local.proofs.Exchanges.{same_kept}
use Rattle.adb_local.proofs.InPart.{echoes_in_part}
use Rattle.adb_files.specs.Entries.{Entry}
use Rattle.adb_world.specs.Together.{AreAskedInPart}

-- no stream was started
pub starts_none : (size : ℕ) (world : View) → world.sessions ≡ [] → IsStarting 0 size world world
starts_none size world none = record {
  each = λ stream less. absurd (omega (arith, less));
  only = λ c session is. absurd (let clash : None ≡ Some session = sym (ap (at c) none) ∙ is in cc);
  given = omega arith;
  files = refl;
}

-- one more was started
pub starts_one : (k size : ℕ) (old mid new : View) → IsStarting k size old mid → HasStarted (mid.given + 1) (stream_session size k) mid new
    → IsStarting (k + 1) size old new
starts_one k size old mid new starting started = record {
  each = λ stream less. each stream less (cases_eq stream k);
  only = λ c session is. only c session is (cases_eq c (mid.given + 1));
  given = (let given = starting.given in let one = started.given in omega (arith, given, one));
  files = started.files ∙ starting.files;
}
  where
    here : at (mid.given + 1) new.sessions ≡ Some (stream_session size k)
    here = ap (at (mid.given + 1)) started.sessions ∙ (puts_put_at (mid.given + 1) (stream_session size k) mid.sessions).here

    others : (c : ℕ) → c ≢ mid.given + 1 → at c new.sessions ≡ at c mid.sessions
    others c apart = ap (at c) started.sessions ∙ (puts_put_at (mid.given + 1) (stream_session size k) mid.sessions).others c apart

    each : (stream : ℕ) → stream < k + 1 → (stream ≡ k) ⊎ (stream ≢ k)
        → at (old.given + 1 + stream) new.sessions ≡ Some (stream_session size stream)
    each stream less (inl is) =
        let given = starting.given in
        let number : old.given + 1 + stream ≡ mid.given + 1 = omega (arith, given, is) in
        ap (λ (n : ℕ). at n new.sessions) number ∙ (here ∙ ap (λ (n : ℕ). Some (stream_session size n)) (sym is))
    each stream less (inr apart) =
        let given = starting.given in
        others (old.given + 1 + stream) (λ same. omega (arith, same, given, less, apart))
        ∙ starting.each stream (omega (arith, less, apart))

    only : (c : ℕ) (session : Session) → at c new.sessions ≡ Some session → (c ≡ mid.given + 1) ⊎ (c ≢ mid.given + 1)
        → IsOfStream size session
    only c session is (inl same) =
        let both : Some (stream_session size k) ≡ Some session = sym here ∙ (ap (λ (n : ℕ). at n new.sessions) (sym same) ∙ is) in
        record { stream = k; is = (let e : stream_session size k ≡ session = cc in sym e) }
    only c session is (inr apart) = starting.only c session (sym (others c apart) ∙ is)

-- such sessions change no file
pub are_echoes : (k size : ℕ) (old new : View) → IsStarting k size old new → AreEchoes new.sessions
are_echoes k size old new starting c session is =
    let same = (starting.only c session is).is in
    inr (ap (λ (s : Session). s.written) same, ap (λ (s : Session). s.service) same)

-- ---- each got back what it sent
came_all : (session : Session) (bytes : List ℕ) (answered : IsAnswered session) → session.service ≡ codes "echo:" → text_of session ≡ bytes
    → answer_of session ≡ bytes
came_all session bytes answered service text =
    let same : Some answered.kind ≡ Some Echoes = sym answered.asked ∙ ap service_of service in
    let kind : answered.kind ≡ Echoes = cc in
    let came : bytes_in answered.past ≡ text_of session =
    subst (λ (k : Kind). CameOf (service_answer k answered.first answered.past).ended (bytes_in answered.past)
    (text_of session)) kind answered.came in
    ap (drop 8) answered.got
    ∙ (drop-append_seam (codes "OKAYOKAY") (service_answer answered.kind answered.first answered.past).bytes
    ∙ (ap (λ (k : Kind). (service_answer k answered.first answered.past).bytes) kind ∙ (came ∙ text)))

module _ (k size : ℕ) (old mid : View) (sessions : List (ℕ × Session)) (starting : IsStarting k size old mid)
    (same : AreSame mid.sessions sessions)
    (answered : Each sessions IsAnswered) where
  pub are_echoed : AreEchoed (old.given + 1) k size sessions
  are_echoed stream less = ap (option_map answer_of) there ∙ ap Some (came_all now (pattern stream size) (answered n now there) kept.0 text)
    where
      n : ℕ
      n = old.given + 1 + stream

      found : (now : Session) × ((at n sessions ≡ Some now) × IsSame (Some (stream_session size stream)) (Some now))
      found = same_kept n (stream_session size stream) mid.sessions sessions (starting.each stream less) same

      now : Session
      now = found.0

      there : at n sessions ≡ Some now
      there = found.1.0

      kept : IsSame (Some (stream_session size stream)) (Some now)
      kept = found.1.1

      text : text_of now ≡ pattern stream size
      text =
          (λ i. drop (length (requests_for (kept.0 i))) (kept.1 i)) ∙ drop-append_seam (requests_for (codes "echo:")) (pattern stream size)

-- ---- the world behind them
pub echo_runs : (number k size : ℕ) (old mid after new : View) → IsStarting k size old mid
    → (AreEchoes mid.sessions → after.files ≡ mid.files) → after.given ≡ mid.given → IsFinished after new
    → RunsLine number (lines.Echoes k size) old new
echo_runs number k size old mid after new starting files given finished = record {
  idle = record { rests = finished.rests; empty = finished.empty; calm = finished.calm; counted = finished.counted };
  files = finished.files ∙ (files (are_echoes k size old mid starting) ∙ starting.files);
  given = finished.given ∙ (given ∙ starting.given);
}

-- they change no file, also if a step fails
pub echoes_kept : (k size : ℕ) (old mid after : View) → IsStarting k size old mid → (AreEchoes mid.sessions → after.files ≡ mid.files)
    → after.files ≡ old.files
echoes_kept k size old mid after starting files = files (are_echoes k size old mid starting) ∙ starting.files

pub echoes_stop : (k size : ℕ) (old mid : View) (left : List Entry) → IsStarting k size old mid → AreAskedInPart mid.files left mid.sessions
    → left ≡ old.files
echoes_stop k size old mid left starting part =
    echoes_in_part mid.files left mid.sessions
    (λ c session is. ap (λ (s : Session). s.service) (starting.only c session is).is) part ∙ starting.files
