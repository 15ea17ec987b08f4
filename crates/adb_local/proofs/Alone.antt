-- The line of one session: what is printed, and the world behind it.
use Rattle.std.specs.Prelude.{ℕ, ◌+◌, ◌≡◌, true, is_some, List, [], Some, option_map}
use Rattle.std.proofs.Common.{refl, ◌∙◌, ap, subst}
use Rattle.adb_outside.specs.Tables.{at, put_at}
use Rattle.adb_outside.proofs.TableLaws.{puts_put_at}
use Rattle.adb_files.specs.Entries.{Entry}
use Rattle.adb_script.specs.Answers as script
use Rattle.adb_script.specs.Answers.{line_answer, printed}
use Rattle.adb_script.specs.Lines.{Asked, Asks}
use Rattle.adb_world.specs.Answered.{IsAnsweredAlone, IsNewAlone, answer_of}
use Rattle.adb_world.specs.Parts.{AreSame, IsSame}
use Rattle.adb_world.specs.Session.{new_session}
use Rattle.adb_world.specs.Settled.{IsCounted, IsSettled}
use Rattle.adb_world.specs.World.{HasStarted, View}
use Rattle.adb_world.specs.declared.session.Session.{Session}
use Rattle.adb_local.specs.Running.{IsAskedInPart, IsIdle, RunsLine}
use Rattle.adb_local.proofs.InPart.{all_asked, session_in_part}
use Rattle.adb_world.specs.Together.{AreAskedInPart}
use Rattle.adb_local.proofs.Exchanges.{IsExchanged, is_exchanged, only_new, same_kept}

-- What finishing leaves of a world: it keeps no session, and its files and numbers stand.
pub record IsFinished (after new : View) : Type 0 where
  pub empty : new.sessions ≡ []
  pub calm : IsSettled new
  pub counted : IsCounted new
  pub given : new.given ≡ after.given
  pub files : new.files ≡ after.files
  pub rests : new.settled ≡ true

module _ (number : ℕ) (asked : Asked) (old mid after : View) (idle : IsIdle old)
    (started : HasStarted (old.given + 1) (new_session (script.service_of asked) (script.text_of number asked)) old mid)
    (same : AreSame mid.sessions after.sessions) where
  abbrev session : Session
  session = new_session (script.service_of asked) (script.text_of number asked)

  sessions : mid.sessions ≡ put_at (old.given + 1) session []
  sessions = started.sessions ∙ ap (λ (table : List (ℕ × Session)). put_at (old.given + 1) session table) idle.empty

  here : at (old.given + 1) mid.sessions ≡ Some session
  here = ap (at (old.given + 1)) sessions ∙ (puts_put_at (old.given + 1) session []).here

  found : (now : Session) × ((at (old.given + 1) after.sessions ≡ Some now) × IsSame (Some session) (Some now))
  found = same_kept (old.given + 1) session mid.sessions after.sessions here same

  pub there : is_some (at (old.given + 1) after.sessions) ≡ true
  there = ap is_some found.1.0

  module _ (alone : (n : ℕ) (later : Session) → IsNewAlone n mid.sessions → at n after.sessions ≡ Some later
      → IsAnsweredAlone later mid.files after.files) where
    exchanged : IsExchanged number asked found.0 old.files after.files
    exchanged =
        is_exchanged number asked found.0 old.files after.files found.1.1
        (subst (λ (files : List Entry). IsAnsweredAlone found.0 files after.files) started.files
        (alone (old.given + 1) found.0 (only_new (old.given + 1) session mid.sessions sessions refl) found.1.0))

    pub text_is : (text : List ℕ) → Some text ≡ option_map (λ (s : Session). printed asked (answer_of s))
        (at (old.given + 1) after.sessions)
        → text ≡ (line_answer old.files number (Asks asked)).text
    text_is text is =
        let both : Some text ≡ Some (printed asked (answer_of found.0)) =
        is ∙ ap (option_map (λ (s : Session). printed asked (answer_of s))) found.1.0 in
        let one : text ≡ printed asked (answer_of found.0) = cc in
        one ∙ ap (printed asked) exchanged.answer

    pub left_in_part : (left : List Entry) → left ≡ after.files → IsAskedInPart number asked old.files left
    left_in_part left same = all_asked number asked old.files left (same ∙ exchanged.left_files)

    pub line_runs : (new : View) → after.given ≡ mid.given → IsFinished after new → RunsLine number (Asks asked) old new
    line_runs new given finished = record {
      idle = record { rests = finished.rests; empty = finished.empty; calm = finished.calm; counted = finished.counted };
      files = finished.files ∙ exchanged.left_files;
      given = finished.given ∙ (given ∙ started.given);
    }

-- a step failed before all had settled
pub settles_in_part : (number : ℕ) (asked : Asked) (old mid : View) (left : List Entry) → IsIdle old
    → HasStarted (old.given + 1) (new_session (script.service_of asked) (script.text_of number asked)) old mid
    → AreAskedInPart mid.files left mid.sessions → IsAskedInPart number asked old.files left
settles_in_part number asked old mid left idle started part =
    session_in_part number (old.given + 1) asked old.files left mid.sessions
    (started.sessions ∙ ap (put_at (old.given + 1) (new_session (script.service_of asked) (script.text_of number asked))) idle.empty)
    (subst (λ (files : List Entry). AreAskedInPart files left mid.sessions) started.files part)
