-- Lines that ran in part.
use Rattle.std.specs.Prelude.{ℕ, ◌≡◌, ◌≢◌, ◌⊎◌, cond, Bool, List, [], ◌∷◌, ◌++◌, Some, None, codes}
use Rattle.std.specs.List.{AllByRecursion}
use Rattle.std.proofs.Common.{refl, sym, ◌∙◌, ap, subst, inl, inr}
use Rattle.std.proofs.lemmas.Bool.{cases_eq, eq-eqb}
use Rattle.std.proofs.Math.Seq.{drop-append_seam}
use Rattle.adb_outside.specs.Tables.{at, put_at}
use Rattle.adb_outside.proofs.TableLaws.{puts_put_at}
use Rattle.adb_files.specs.Entries.{Entry}
use Rattle.adb_files.specs.Requests.{requests_in}
use Rattle.adb_device_streams.specs.Asked.{Echoes, Syncs, service_of}
use Rattle.adb_laws_alone.specs.Calls as calls
use Rattle.adb_laws_alone.specs.Calls.{AreFirst, Ask, Call, asks_in, asks_of, files_after, files_past}
use Rattle.adb_laws_alone.proofs.Through.{calls_of, calls_own, served_first}
use Rattle.adb_laws_answers.specs.Words.{requests_for}
use Rattle.adb_shell_service.specs.Commands.{files_left, words_of}
use Rattle.adb_script.specs.Answers as script
use Rattle.adb_script.specs.Answers.{exchange}
use Rattle.adb_script.specs.Lines as lines
use Rattle.adb_script.specs.Lines.{Asked, Asks, Line, Lists, Pulls, Pushes, Runs, Stats}
use Rattle.adb_world.specs.Session.{new_session}
use Rattle.adb_world.specs.Stopped.{IsServedInPart}
use Rattle.adb_world.specs.Together.{AreAskedInPart, IsUnwritten}
use Rattle.adb_world.specs.declared.session.Session.{Session}
use Rattle.adb_world.proofs.Synced.{all_served}
use Rattle.adb_local.specs.Running.{IsAskedInPart, IsLineInPart, IsRunInPart}
use Rattle.adb_local.proofs.Exchanges.{asks_kind, kind_of}

-- ---- nothing of a line ran, or all of it
pub none_asked : (number : ℕ) (asked : Asked) (files left : List Entry) → left ≡ files → IsAskedInPart number asked files left
none_asked number (Pushes path size) files left same = (0, same)
none_asked number (Pulls path) files left same = (0, same)
none_asked number (Stats path) files left same = (0, same)
none_asked number (Lists path) files left same = (0, same)
none_asked number (Runs command) files left same = inl same

pub all_asked : (number : ℕ) (asked : Asked) (files left : List Entry) → left ≡ (exchange files number asked).files
    → IsAskedInPart number asked files left
all_asked number (Pushes path size) files left is = all_served files left (script.text_of number (Pushes path size)) is
all_asked number (Pulls path) files left is = all_served files left (script.text_of number (Pulls path)) is
all_asked number (Stats path) files left is = all_served files left (script.text_of number (Stats path)) is
all_asked number (Lists path) files left is = all_served files left (script.text_of number (Lists path)) is
all_asked number (Runs command) files left is = inr is

none_of_line : (number : ℕ) (line : Line) (files left : List Entry) → left ≡ files → IsLineInPart number line files left
none_of_line number (Asks asked) files left same = none_asked number asked files left same
none_of_line number (lines.Echoes streams size) files left same = same

-- no line ran
pub none_ran : (number : ℕ) (rest : List Line) (files left : List Entry) → left ≡ files → IsRunInPart number rest files left
none_ran number [] files left same = same
none_ran number (line ∷ more) files left same = inl (none_of_line number line files left same)

-- ---- a session that is alone in its world
module _ (number n : ℕ) (asked : Asked) (files left : List Entry) (sessions : List (ℕ × Session))
    (is : sessions ≡ put_at n (new_session (script.service_of asked) (script.text_of number asked)) [])
    (part : AreAskedInPart files left sessions) where
  abbrev session : Session
  session = new_session (script.service_of asked) (script.text_of number asked)

  here : at n sessions ≡ Some (new_session (script.service_of asked) (script.text_of number asked))
  here = ap (at n) is ∙ (puts_put_at n session []).here

  one : (c : ℕ) → IsUnwritten c sessions → c ≡ n
  one c u = go (cases_eq c n)
    where
      go : (c ≡ n) ⊎ (c ≢ n) → c ≡ n
      go (inl same) = same
      go (inr apart) =
          absurd (let clash : None ≡ Some u.session = sym ((puts_put_at n session []).others c apart) ∙ (sym (ap (at c) is) ∙ u.is) in cc)

  only : (cs : List Call) → AllByRecursion (λ (call : Call). IsUnwritten call.caller sessions) cs
      → AllByRecursion (λ (call : Call). call.caller ≡ n) cs
  only [] all = tt
  only (call ∷ cs) all = (one call.caller all.0, only cs all.1)

  own : part.calls ≡ calls_of n (asks_of n part.calls)
  own = calls_own n part.calls (only part.calls part.only)

  first : AreFirst (asks_of n part.calls) (asks_in (kind_of asked) (script.text_of number asked))
  first =
      subst (λ (text : List ℕ). AreFirst (asks_of n part.calls) (asks_in (kind_of asked) text))
      (drop-append_seam (requests_for (script.service_of asked)) (script.text_of number asked))
      (part.asked n (record { session = session; is = here; unwritten = refl }) (kind_of asked) (asks_kind asked))

  synced : (text : List ℕ) → AreFirst (asks_of n part.calls) (asks_in Syncs text) → IsServedInPart files left text
  synced text some =
      let served = served_first n files (requests_in text) (asks_of n part.calls) some in
      (served.0, part.left_files ∙ (ap (files_after files) own ∙ served.1))

  ran : (command : List ℕ) → AreFirst (asks_of n part.calls) (calls.Runs command ∷ [])
      → (left ≡ files) ⊎ (left ≡ files_left files (words_of command))
  ran command some = go (asks_of n part.calls) refl some.1
    where
      go : (asks : List Ask) → asks_of n part.calls ≡ asks → asks ++ some.0 ≡ calls.Runs command ∷ []
          → (left ≡ files) ⊎ (left ≡ files_left files (words_of command))
      go [] none all = inl (part.left_files ∙ ap (files_after files) (own ∙ ap (calls_of n) none))
      go (ask ∷ []) these all =
          let same : ask ≡ calls.Runs command = cc in
          inr (part.left_files
          ∙ (ap (files_after files) (own ∙ ap (calls_of n) these) ∙ ap (files_past files) same))
      go (ask ∷ another ∷ more) these all = absurd (cc)

  pub session_in_part : IsAskedInPart number asked files left
  session_in_part = by asked first
    where
      by : (a : Asked) → AreFirst (asks_of n part.calls) (asks_in (kind_of a) (script.text_of number a)) → IsAskedInPart number a files left
      by (Pushes path size) some = synced (script.text_of number (Pushes path size)) some
      by (Pulls path) some = synced (script.text_of number (Pulls path)) some
      by (Stats path) some = synced (script.text_of number (Stats path)) some
      by (Lists path) some = synced (script.text_of number (Lists path)) some
      by (Runs command) some = ran command some

-- ---- echoes
-- they ask for nothing
pub echoes_in_part : (files left : List Entry) (sessions : List (ℕ × Session))
    → ((c : ℕ) (session : Session) → at c sessions ≡ Some session → session.service ≡ codes "echo:")
    → AreAskedInPart files left sessions → left ≡ files
echoes_in_part files left sessions echoes part = go part.calls refl
  where
    go : (cs : List Call) → part.calls ≡ cs → left ≡ files
    go [] none = part.left_files ∙ ap (files_after files) none
    go (call ∷ cs) these =
        let u : IsUnwritten call.caller sessions =
        (subst (AllByRecursion (λ (x : Call). IsUnwritten x.caller sessions)) these part.only).0 in
        let first = part.asked call.caller u Echoes (ap service_of (echoes call.caller u.session u.is)) in
        let some : asks_of call.caller part.calls ≡ call.ask ∷ asks_of call.caller cs =
        ap (asks_of call.caller) these
        ∙ ap (λ (t : Bool). cond t (call.ask ∷ []) [] ++ asks_of call.caller cs) (eq-eqb call.caller call.caller refl) in
        let clash : call.ask ∷ (asks_of call.caller cs ++ first.0) ≡ [] = sym (ap (λ (asks : List Ask). asks ++ first.0) some) ∙ first.1 in
        absurd (cc)
