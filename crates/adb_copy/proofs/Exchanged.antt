-- A file was sent in a session of its own, and the answer was read.
use Rattle.std.proofs.Common.{ℕ, ◌^◌, ◌≡◌, ◌<◌, true, List, [], ◌∷◌, Result, Ok, Err, sym, ◌∙◌, ap, subst, arith}
use Rattle.std.specs.Prelude.{OnOk, ⊤}
use Rattle.adb_files.specs.Entries.{Entry}
use Rattle.adb_files.specs.Served.{served}
use Rattle.adb_sync_client.specs.declared.step.Step.TheVariants as steps
use Rattle.adb_sync_client.specs.Texts.{push_text}
use Rattle.adb_sync_client.specs.Values.{push_value}
use Rattle.adb_world.specs.World.{View}
use Rattle.adb_copy.specs.declared.error.CopyError.{CopyError}
use Rattle.adb_copy.specs.declared.error.CopyError.TheVariants as errors
use Rattle.adb_copy.specs.Pushing.{FilesPushed, Pushes}
use Rattle.adb_copy.specs.Trees.{HasAnswered, IsCopied, all_pushed, refused_at}
use Rattle.adb_copy.specs.Worlds.{Syncs}
use Rattle.adb_copy.proofs.Sent.{is_sent, sent}
use Rattle.adb_copy.proofs.Steps.{on_ok}

given : {A : Type 0} (result : Result ⊤ CopyError) → A → OnOk result A
given (Ok done) is = is
given (Err error) is = tt

module _ (old new : View) (entry : Entry) (copied : IsCopied entry) (time : entry.file.mtime < 2 ^ 32) where
  pub is_answered : HasAnswered (push_value (sent old.files entry copied time).answer)
  is_answered = (is_sent old.files entry copied time).ended

  -- the text that was asked and the answer that was heard are those of the file
  pub heard_is : (ask asked answer heard : List ℕ) → ask ≡ push_text entry.path entry.file.mode entry.file.mtime
      entry.file.bytes → asked ≡ ask
      → answer ≡ (served old.files asked).answer → heard ≡ answer → heard ≡ (sent old.files entry copied time).answer
  heard_is ask asked answer heard text same told again =
      again ∙ (told ∙ ap (λ (bytes : List ℕ). (served old.files bytes).answer) (same ∙ text))

  -- the world served it
  pub record Exchanged (answer : List ℕ) : Type 0 where
    pub answer_is : answer ≡ (sent old.files entry copied time).answer
    pub files : new.files ≡ (sent old.files entry copied time).files
    pub syncs : Syncs 1 old new
    pub unspent : old.spent ≡ true → ⊥

  -- what the answer was read as
  pub record IsRead (answer : List ℕ) (result : Result ⊤ CopyError) : Type 0 where
    pub ok : OnOk result (push_value answer ≡ steps.Done tt)
    pub refused : (at text : List ℕ) → result ≡ Err (errors.Refused at text) → (at ≡ entry.path) × (push_value answer ≡ steps.Refused text)

  pub pushes_one : (answer : List ℕ) (result : Result ⊤ CopyError) → Exchanged answer → IsRead answer result
      → Pushes (entry ∷ []) result old new
  pushes_one answer result exchanged read =
      let own = is_sent old.files entry copied time in
      let value : push_value answer ≡ push_value (sent old.files entry copied time).answer = ap push_value exchanged.answer_is in
      record {
        ok = on_ok result (λ done. own.stored (sym value ∙ done) ∙ ap all_pushed (sym exchanged.files)) read.ok;
        syncs = given result exchanged.syncs;
        refused = λ at text is.
            let told = read.refused at text is in
            own.refused text (sym value ∙ told.1)
            ∙ (ap (λ (files : List Entry). refused_at files entry.path text) (sym exchanged.files)
            ∙ ap (λ (path : List ℕ). refused_at new.files path text) (sym told.0));
        part = λ whole left. (
          subst (λ (files : List Entry). FilesPushed (entry ∷ []) old.files files) (sym exchanged.files) own.first,
          record { sessions = 1; few = omega arith; syncs = exchanged.syncs },
        );
        stays = λ is. absurd (exchanged.unspent is);
        files = subst (λ (files : List Entry). FilesPushed (entry ∷ []) old.files files) (sym exchanged.files) own.first;
      }
