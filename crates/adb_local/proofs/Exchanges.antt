-- What a session that ran alone was handed, and what it left, is what its line makes of the files.
use Rattle.std.specs.Prelude.{ℕ, ◌≡◌, ◌≤◌, Bool, true, nat_lt, if◌then◌else◌, is_some, List, [], ◌∷◌, ◌++◌, length, drop, Option, Some}
use Rattle.std.specs.Prelude.{None, codes}
use Rattle.std.proofs.Common.{refl, sym, ◌∙◌, ap, subst, arith}
use Rattle.std.proofs.lemmas.Bool.{lt-ltb}
use Rattle.std.proofs.lemmas.List.{length-append}
use Rattle.std.proofs.Math.Seq.{drop-append_seam}
use Rattle.adb_outside.specs.Tables.{at, put_at}
use Rattle.adb_outside.proofs.TableLaws.{puts_put_at}
use Rattle.adb_files.specs.Entries.{Entry}
use Rattle.adb_device_streams.specs.Asked.{Kind, Syncs, Shells, service_of, shell_cut}
use Rattle.adb_device_streams.specs.Service.{service_answer, files_fed}
use Rattle.adb_laws_answers.specs.Words.{requests_for, words_of}
use Rattle.adb_script.specs.Answers as script
use Rattle.adb_script.specs.Answers.{Exchange, exchange}
use Rattle.adb_script.specs.Lines.{Asked, Pushes, Pulls, Stats, Lists, Runs}
use Rattle.adb_world.specs.Answered.{IsAnsweredAlone, IsNewAlone, answer_of, text_over}
use Rattle.adb_world.specs.Parts.{AreSame, IsSame}
use Rattle.adb_world.specs.Session.{new_session, text_of}
use Rattle.adb_world.specs.declared.session.Session.{Session}
use Rattle.adb_local.specs.Running.{MayAsk}

-- the service of what a session is asked
abbrev pub kind_of : Asked → Kind
kind_of (Pushes path size) = Syncs
kind_of (Pulls path) = Syncs
kind_of (Stats path) = Syncs
kind_of (Lists path) = Syncs
kind_of (Runs command) = Shells true command

-- the colon behind the two words of a shell
colon_within : (command : List ℕ) → nat_lt 6 (length (codes "v2,raw:" ++ command)) ≡ true
colon_within command =
    let long = length-append (codes "v2,raw:") command in lt-ltb 6 (length (codes "v2,raw:" ++ command)) (omega (arith, long))

shell_kind : (command : List ℕ) → service_of (codes "shell,v2,raw:" ++ command) ≡ Some (Shells true command)
shell_kind command = ap (λ (b : Bool). shell_cut (codes "v2,raw:" ++ command) (if b then Some 6 else None)) (colon_within command)

pub asks_kind : (asked : Asked) → service_of (script.service_of asked) ≡ Some (kind_of asked)
asks_kind (Pushes path size) = refl
asks_kind (Pulls path) = refl
asks_kind (Stats path) = refl
asks_kind (Lists path) = refl
asks_kind (Runs command) = shell_kind command

pub is_known : (asked : Asked) → is_some (service_of (script.service_of asked)) ≡ true
is_known asked = ap is_some (asks_kind asked)

pub is_short : (asked : Asked) → MayAsk asked → length (script.service_of asked) ≤ 1024
is_short (Pushes path size) may = omega arith
is_short (Pulls path) may = omega arith
is_short (Stats path) may = omega arith
is_short (Lists path) may = omega arith
is_short (Runs command) may = let long = length-append (codes "shell,v2,raw:") command in omega (arith, may, long)

-- what the service makes of a text at once is the exchange of the line
abbrev made_of : Kind → List Entry → List ℕ → Exchange
made_of kind files text = record {
  files = files_fed kind [] (text_over kind text files);
  answer = (service_answer kind files (text_over kind text files ∷ [])).bytes;
}

exchanged : (asked : Asked) (number : ℕ) (files : List Entry)
    → made_of (kind_of asked) files (script.text_of number asked) ≡ exchange files number asked
exchanged (Pushes path size) number files = refl
exchanged (Pulls path) number files = refl
exchanged (Stats path) number files = refl
exchanged (Lists path) number files = refl
exchanged (Runs command) number files = refl

-- A session was handed what its line makes of the files, and left these.
pub record IsExchanged (number : ℕ) (asked : Asked) (session : Session) (files left : List Entry) : Type 0 where
  pub answer : answer_of session ≡ (exchange files number asked).answer
  pub left_files : left ≡ (exchange files number asked).files

module _ (number : ℕ) (asked : Asked) (session : Session) (files left : List Entry) where
  started : Session
  started = new_session (script.service_of asked) (script.text_of number asked)

  text_is : session.service ≡ script.service_of asked → session.words ≡ words_of (script.service_of asked) (script.text_of number asked)
      → text_of session ≡ script.text_of number asked
  text_is service words =
      (λ i. drop (length (requests_for (service i))) (words i))
      ∙ drop-append_seam (requests_for (script.service_of asked)) (script.text_of number asked)

  alone_exchanged : session.service ≡ script.service_of asked → text_of session ≡ script.text_of number asked
      → IsAnsweredAlone session files left
      → IsExchanged number asked session files left
  alone_exchanged service text alone =
      let same : Some alone.kind ≡ Some (kind_of asked) = sym alone.asked ∙ (ap service_of service ∙ asks_kind asked) in
      let kind : alone.kind ≡ kind_of asked = cc in
      let made : made_of alone.kind files (text_of session) ≡ exchange files number asked =
      (λ i. made_of (kind i) files (text i)) ∙ exchanged asked number files in
      record {
        answer =
            ap (drop 8) alone.got
            ∙ (drop-append_seam (codes "OKAYOKAY")
            (service_answer alone.kind files (text_over alone.kind (text_of session) files ∷ [])).bytes
            ∙ ap (λ (e : Exchange). e.answer) made);
        left_files = alone.left_files ∙ ap (λ (e : Exchange). e.files) made;
      }

  pub is_exchanged : IsSame (Some (new_session (script.service_of asked) (script.text_of number asked))) (Some session)
      → IsAnsweredAlone session files left → IsExchanged number asked session files left
  is_exchanged same alone = alone_exchanged same.0 (text_is same.0 same.1) alone

-- ---- a table of one session
pub only_new : (n : ℕ) (session : Session) (sessions : List (ℕ × Session)) → sessions ≡ put_at n session []
    → session.written ≡ 0 → IsNewAlone n sessions
only_new n session sessions is unwritten = record {
  session = session;
  is = ap (at n) is ∙ (puts_put_at n session []).here;
  unwritten = unwritten;
  others = λ c other apart there. absurd
      (let clash : None ≡ Some other = sym ((puts_put_at n session []).others c apart)
      ∙ (sym (ap (at c) is) ∙ there) in cc);
}

-- the session of a number, which stays the same
pub same_kept : (n : ℕ) (session : Session) (old new : List (ℕ × Session)) → at n old ≡ Some session → AreSame old new
    → (now : Session) × ((at n new ≡ Some now) × IsSame (Some session) (Some now))
same_kept n session old new is same = go (at n new) refl (subst (λ (o : Option Session). IsSame o (at n new)) is (same n))
  where
    go : (o : Option Session) → at n new ≡ o → IsSame (Some session) o
        → (now : Session) × ((at n new ≡ Some now) × IsSame (Some session) (Some now))
    go None there kept = absurd kept
    go (Some now) there kept = (now, (there, kept))
