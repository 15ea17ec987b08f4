-- What a sync service answers to payloads, over the files that stand when each of them comes.
use Rattle.std.specs.Prelude.{ℕ, ◌≡◌, cond, Bool, true, false, List, [], ◌∷◌, ◌++◌, length, take, drop, refl, Result, Ok, Err, OnErr}
use Rattle.std.proofs.Common.{◌∙◌, ap, sym, arith}
use Rattle.std.specs.Io.{StartsWith}
use Rattle.std.proofs.Transfers.{starts_with_of_append}
use Rattle.std.proofs.lemmas.Bool.{true≢false}
use Rattle.std.proofs.lemmas.List.{append-nil, append_assoc, take_all}
use Rattle.std.proofs.Math.Seq.{drop-append_seam, take-append_seam}
use Rattle.adb_files.specs.Entries.{Entry}
use Rattle.adb_files.specs.Requests.{Request, requests_in}
use Rattle.adb_files.specs.Served.{Served, serve_all}
use Rattle.adb_files.specs.Service.{Service, Feeds, FeedsFront}
use Rattle.adb_files.proofs.Serving.{serve_all-ended, serve_all-more}
use Rattle.adb_shell_service.specs.Service.{Answer}
use Rattle.adb_device_streams.specs.Asked.{Kind, Echoes, Syncs, Shells}
use Rattle.adb_device_streams.specs.Service.{Came, bytes_in, completed_by, served_by, sync_more, sync_answer, sync_files, files_fed}
use Rattle.adb_device_streams.specs.Service.{HasAnswered, HasFrontOfFiles}
use Rattle.adb_device_streams.specs.declared.service.Service.TheVariants as services

-- the requests that a piece completes are those that it adds
completed : (before piece : List ℕ) (requests : List Request) → requests_in (before ++ piece) ≡ requests_in before ++ requests
    → completed_by before piece ≡ requests
completed before piece requests is =
    ap (drop (length (requests_in before))) is ∙ drop-append_seam (requests_in before) requests

-- more of an answer, where it goes on, and where it has ended
more_on : (answer : Answer) (served : Served) → answer.ended ≡ false
    → sync_more answer served ≡ record { bytes = answer.bytes ++ served.answer; ended = served.ended }
more_on answer served on = ap (λ t. cond t answer (record { bytes = answer.bytes ++ served.answer; ended = served.ended })) on

more_over : (answer : Answer) (served : Served) → answer.ended ≡ true → sync_more answer served ≡ answer
more_over answer served over = ap (λ t. cond t answer (record { bytes = answer.bytes ++ served.answer; ended = served.ended })) over

-- what follows the answer to a front of requests in that to all
record Follows (all front : List ℕ) : Type 0 where
  pub rest : List ℕ
  pub is : all ≡ front ++ rest

front_of_all : (files : List Entry) (front back : List Request)
    → Follows (serve_all files (front ++ back)).answer (serve_all files front).answer
front_of_all files front back = go (serve_all files front).ended refl
  where
    go : (t : Bool) → (serve_all files front).ended ≡ t → Follows (serve_all files (front ++ back)).answer (serve_all files front).answer
    go true over = record {
      rest = [];
      is = ap (λ (s : Served). s.answer) (serve_all-ended front back files over) ∙ sym (append-nil (serve_all files front).answer);
    }
    go false on =
        record { rest = (serve_all (serve_all files front).files back).answer; is = (serve_all-more front back files on).answer }

module _ (first : List Entry) (past : List Came) (taken : List ℕ) (came : Came) where
  -- what a service that goes on answers to a payload that completes requests
  answers_on : (requests : List Request) → (sync_answer past).ended ≡ false
      → requests_in (bytes_in past ++ came.bytes) ≡ requests_in (bytes_in past) ++ requests
      → sync_answer (came ∷ past)
      ≡ record { bytes = (sync_answer past).bytes ++ (serve_all came.files requests).answer; ended = (serve_all came.files requests).ended }
  answers_on requests on is =
      more_on (sync_answer past) (served_by past came) on
      ∙ ap (λ (rs : List Request).
      record {
        bytes = (sync_answer past).bytes ++ (serve_all came.files rs).answer;
        ended =
            (serve_all came.files rs).ended;
      })
      (completed (bytes_in past) came.bytes requests is)

  -- the files that it leaves
  files_on : (requests : List Request) → (sync_answer past).ended ≡ false
      → requests_in (bytes_in past ++ came.bytes) ≡ requests_in (bytes_in past) ++ requests
      → sync_files (sync_answer past).ended came.files (served_by past came) ≡ (serve_all came.files requests).files
  files_on requests on is =
      ap (λ t. cond t came.files (served_by past came).files) on
      ∙ ap (λ (rs : List Request). (serve_all came.files rs).files) (completed (bytes_in past) came.bytes requests is)

  -- a payload was taken by a service that goes on
  pub synced_on : (old new : Service) (files : List Entry) → old.ended ≡ false → HasAnswered Syncs first past taken (services.Sync old)
      → Feeds (bytes_in past) came.bytes old new came.files files
      → HasAnswered Syncs first (came ∷ past) taken (services.Sync new) × (files ≡ files_fed Syncs past came)
  synced_on old new files on has feeds =
      let goes : (sync_answer past).ended ≡ false = sym has.ends ∙ on in
      let answer = answers_on feeds.requests goes feeds.is in
      let more = (serve_all came.files feeds.requests).answer in (
        record {
          holds = feeds.stands;
          given_out =
              ap (λ (o : List ℕ). taken ++ o) feeds.serves.answer
              ∙ (sym (append_assoc taken old.out more)
              ∙ (ap (λ (o : List ℕ). o ++ more) has.given_out ∙ sym (ap (λ (a : Answer). a.bytes) answer)));
          ends = feeds.serves.ends ∙ sym (ap (λ (a : Answer). a.ended) answer);
        },
        feeds.serves.files ∙ sym (files_on feeds.requests goes feeds.is),
      )

  -- a service that has ended dropped it
  pub synced_over : (old : Service) → old.ended ≡ true → HasAnswered Syncs first past taken (services.Sync old)
      → HasAnswered Syncs first (came ∷ past) taken (services.Sync old) × (came.files ≡ files_fed Syncs past came)
  synced_over old over has =
      let ended : (sync_answer past).ended ≡ true = sym has.ends ∙ over in
      let answer = more_over (sync_answer past) (served_by past came) ended in (
        record {
          holds = record {
            reads = λ on. absurd (true≢false (sym over ∙ on));
            sound = λ on. absurd (true≢false (sym over ∙ on));
            keeps = λ on. absurd (true≢false (sym over ∙ on));
          };
          given_out = has.given_out ∙ ap (λ (a : Answer). a.bytes) (sym answer);
          ends = has.ends ∙ ap (λ (a : Answer). a.ended) (sym answer);
        },
        sym (ap (λ t. cond t came.files (served_by past came).files) ended),
      )

  -- the files after a prefix of the requests, if the service goes on, and if it has ended
  files_up_to : (ended : Bool) → (sync_answer past).ended ≡ ended → (k : ℕ)
      → sync_files (sync_answer past).ended came.files (serve_all came.files (take k (completed_by (bytes_in past) came.bytes)))
      ≡ sync_files ended came.files (serve_all came.files (take k (completed_by (bytes_in past) came.bytes)))
  files_up_to ended is k =
      ap (λ (t : Bool). sync_files t came.files (serve_all came.files (take k (completed_by (bytes_in past) came.bytes)))) is

  -- memory ran out in a service that goes on
  pub front_on : (old new : Service) (files : List Entry) → old.ended ≡ false → HasAnswered Syncs first past taken (services.Sync old)
      → FeedsFront (bytes_in past) came.bytes old new came.files files
      → StartsWith (sync_answer (came ∷ past)).bytes (taken ++ new.out) × HasFrontOfFiles Syncs past came files
  front_on old new files on has feeds =
      let goes : (sync_answer past).ended ≡ false = sym has.ends ∙ on in
      let front = feeds.front in
      let done = front.whole ++ front.last in
      let whole : feeds.requests ≡ done ++ front.back = front.is ∙ sym (append_assoc front.whole front.last front.back) in
      let told = (serve_all came.files front.whole).answer ++ front.said in
      let follows = front_of_all came.files done front.back in
      let base = (sync_answer past).bytes in
      let behind : taken ++ new.out ≡ base ++ told =
      ap (λ (o : List ℕ). taken ++ o) front.answer
      ∙ (sym (append_assoc taken old.out told) ∙ ap (λ (o : List ℕ). o ++ told) has.given_out) in
      let all : (serve_all came.files feeds.requests).answer ≡ told ++ (front.unsaid ++ follows.rest) =
      ap (λ (rs : List Request). (serve_all came.files rs).answer) whole
      ∙ (follows.is ∙ (ap (λ (o : List ℕ). o ++ follows.rest) front.within ∙ append_assoc told front.unsaid follows.rest)) in (
        starts_with_of_append (sync_answer (came ∷ past)).bytes (taken ++ new.out) (front.unsaid ++ follows.rest)
            (ap (λ (a : Answer). a.bytes) (answers_on feeds.requests goes feeds.is)
            ∙ (ap (λ (o : List ℕ). base ++ o) all
            ∙ (sym (append_assoc base told (front.unsaid ++ follows.rest))
            ∙ ap (λ (o : List ℕ). o ++ (front.unsaid ++ follows.rest)) (sym behind)))),
        (
          length done,
          front.files
              ∙ (ap (λ (rs : List Request). (serve_all came.files rs).files)
              (sym (ap (take (length done)) (completed (bytes_in past) came.bytes feeds.requests feeds.is ∙ whole)
              ∙ take-append_seam done front.back))
              ∙ sym (files_up_to false goes (length done))),
        ),
      )

  -- a service that is spent changed nothing
  pub front_over : (old : Service) → old.ended ≡ true → HasAnswered Syncs first past taken (services.Sync old)
      → StartsWith (sync_answer (came ∷ past)).bytes (taken ++ old.out) × HasFrontOfFiles Syncs past came came.files
  front_over old over has =
      let answer = more_over (sync_answer past) (served_by past came) (sym has.ends ∙ over) in (
        starts_with_of_append (sync_answer (came ∷ past)).bytes (taken ++ old.out) []
            (ap (λ (a : Answer). a.bytes) answer ∙ (sym has.given_out ∙ sym (append-nil (taken ++ old.out)))),
        (0, sym (files_up_to true (sym has.ends ∙ over) 0)),
      )

-- The files that a payload leaves are those behind all the sync requests that it makes whole.
pub whole_front : (kind : Kind) (past : List Came) (came : Came) (files : List Entry)
    → files ≡ files_fed kind past came → HasFrontOfFiles kind past came files
whole_front Echoes past came files is = is
whole_front (Shells packets command) past came files is = is
whole_front Syncs past came files is =
    (length requests, is ∙ ap (λ (rs : List Request). sync_files (sync_answer past).ended came.files (serve_all came.files rs)) (sym all))
  where
    requests : List Request
    requests = completed_by (bytes_in past) came.bytes

    all : take (length requests) requests ≡ requests
    all = take_all (length requests) requests (omega arith)

-- what holds at an error, where it holds at all
pub at_err : {T E : Type 0} (P : Type 0) (result : Result T E) → P → OnErr result P
at_err P (Ok x) p = tt
at_err P (Err e) p = p
