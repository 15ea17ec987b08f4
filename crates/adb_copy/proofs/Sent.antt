-- What a device makes of the SEND of one file, and what its answer means.
use Rattle.std.proofs.Common.{ℕ, zero, suc, ◌^◌, ◌≡◌, ◌<◌, List, [], ◌∷◌, length, take, Option, Some, None, refl, sym, ◌∙◌, ap, subst}
use Rattle.std.specs.Prelude.{decimal}
use Rattle.std.proofs.Math.Seq.{take-nil}
use Rattle.adb_files.specs.declared.file.FileError.{FileError}
use Rattle.adb_files.specs.Entries.{Entry}
use Rattle.adb_files.specs.Files.{put_refusal, refusal_text}
use Rattle.adb_files.specs.Requests.{Request, Sends, requests_in}
use Rattle.adb_files.specs.Served.{Served, send_by, serve_all, served}
use Rattle.adb_script.proofs.Requests.{push_refused, push_requests, push_served}
use Rattle.adb_world.specs.Stopped.{IsServedInPart}
use Rattle.adb_sync_client.specs.declared.step.Step.TheVariants as steps
use Rattle.adb_sync_client.specs.Texts.{push_text}
use Rattle.adb_sync_client.specs.Values.{push_value}
use Rattle.adb_copy.specs.Trees.{HasAnswered, IsCopied, all_pushed, pushed, pushed_by, refused_at}
use Rattle.adb_copy.specs.Pushing.{FilesPushed}

module _ (files : List Entry) (entry : Entry) (copied : IsCopied entry) (time : entry.file.mtime < 2 ^ 32) where
  abbrev pub sent : Served
  sent = served files (push_text entry.path entry.file.mode entry.file.mtime entry.file.bytes)

  abbrev by : Option FileError → Served
  by refusal = send_by files entry.path entry.file refusal

  pub sent_by : sent ≡ by (put_refusal files entry.path (length entry.file.bytes))
  sent_by = push_served entry.file.mode copied.1 copied.2 files entry.path entry.file.bytes entry.file.mtime copied.0 time

  -- it is answered, and where the answer is Okay it is stored, else refused with that text
  pub record IsSent (served : Served) : Type 0 where
    pub ended : HasAnswered (push_value served.answer)
    pub stored : push_value served.answer ≡ steps.Done tt → pushed files (entry ∷ []) ≡ all_pushed served.files
    pub refused : (text : List ℕ) → push_value served.answer ≡ steps.Refused text
        → pushed files (entry ∷ []) ≡ refused_at served.files entry.path text
    pub first : FilesPushed (entry ∷ []) files served.files

  is_by : (refusal : Option FileError) → pushed files (entry ∷ [])
      ≡ pushed_by refusal files entry (λ stored. pushed stored []) → IsSent (by refusal)
  is_by None is = record {
    ended = tt;
    stored = λ e. is;
    refused = λ text e. absurd (cc);
    first = record { done = entry ∷ []; left = []; split = refl; stored = is };
  }
  is_by (Some refusal) is = record {
    ended = subst HasAnswered (sym (push_refused refusal)) tt;
    stored = λ e. let clash = sym (push_refused refusal) ∙ e in absurd (cc);
    refused = λ text e. let both = sym (push_refused refusal) ∙ e in let same : refusal_text refusal ≡ text = cc in
        is ∙ ap (refused_at files entry.path) same;
    first = record { done = []; left = entry ∷ []; split = refl; stored = refl };
  }

  pub is_sent : IsSent sent
  is_sent = subst IsSent (sym sent_by) (is_by (put_refusal files entry.path (length entry.file.bytes)) refl)

  -- a prefix of what is sent is nothing, or all of it
  pub sent_in_part : (left : List Entry) → IsServedInPart files left
      (push_text entry.path entry.file.mode entry.file.mtime entry.file.bytes)
      → FilesPushed (entry ∷ []) files left
  sent_in_part left (k, is) = go k is
    where
      send : Request
      send = Sends entry.path (decimal entry.file.mode) entry.file.bytes entry.file.mtime

      requests : requests_in (push_text entry.path entry.file.mode entry.file.mtime entry.file.bytes)
          ≡ Sends entry.path (decimal entry.file.mode) entry.file.bytes entry.file.mtime ∷ []
      requests = push_requests entry.file.mode copied.1 copied.2 entry.path entry.file.bytes entry.file.mtime copied.0 time

      go : (n : ℕ) → left
          ≡ (serve_all files
          (take n (requests_in (push_text entry.path entry.file.mode entry.file.mtime entry.file.bytes)))).files
          → FilesPushed (entry ∷ []) files left
      go zero same = record { done = []; left = entry ∷ []; split = refl; stored = ap all_pushed (sym same) }
      go (suc n) same =
          let all : take (suc n) (requests_in (push_text entry.path entry.file.mode entry.file.mtime entry.file.bytes))
          ≡ requests_in (push_text entry.path entry.file.mode entry.file.mtime entry.file.bytes) =
          ap (take (suc n)) requests ∙ (ap (λ (rs : List Request). send ∷ rs) (take-nil n) ∙ sym requests) in
          subst (FilesPushed (entry ∷ []) files) (sym (same ∙ ap (λ (rs : List Request). (serve_all files rs).files) all)) is_sent.first
