use Rattle.std.proofs.Common.{ℕ, ◌≡◌, ◌∙◌, ap, sym, subst, take, List}
use Rattle.adb_files.specs.Requests.{requests_in}
use Rattle.adb_sync_client.specs.declared.step.Step.{Step}
use Rattle.adb_sync_client.specs.Texts.{pull_text}
use Rattle.adb_sync_client.specs.Values.{pull_value}
use Rattle.adb_files.specs.Served.{serve_all, served}
use Rattle.adb_copy.specs.Waiting.{IsDone}
use Rattle.adb_copy.proofs.PullAnswers.{done_is, file_read, recv_in_part}
use Rattle.adb_copy.proofs.PullFile.{file_readable}
use Rattle.adb_copy.proofs.asking.pull.Goals as goal

pub value_of-bytes-requires : goal.value_of-bytes-requires
value_of-bytes-requires c =
    let files = c.args.world.now.files in
    let found = c.args.found.now in
    let is = c.requires.there in
    let read = file_read c.written_files_are_pulled.ensures files found.path is.file c.requires.short
    (file_readable files c.requires.map found is) is.there in
    let path = ap (λ (p : List ℕ). pull_value (served files (pull_text p)).answer) c.as_slice.ensures in
    subst (λ (s : Step (List ℕ)). IsDone s) (sym (c.in_ok-step.ensures.step ∙ (path ∙ read))) tt

pub returns-clause-file : goal.returns-clause-file
returns-clause-file c is =
    let files = c.args.world.now.files in
    let found = c.args.found.now in
    let read = file_read c.written_files_are_pulled.ensures files found.path is.file c.requires.short
    (file_readable files c.requires.map found is) is.there in
    let path = ap (λ (p : List ℕ). pull_value (served files (pull_text p)).answer) c.as_slice.ensures in
    let bytes = done_is (sym c.value_of-bytes.ensures ∙ (c.in_ok-step.ensures.step ∙ (path ∙ read))) in
    λ i. record { mode = is.mode i; mtime = is.mtime i; bytes = bytes i }

pub ask-requires-clause-in_part : goal.ask-requires-clause-in_part
ask-requires-clause-in_part c k =
    subst (λ (p : List ℕ). (serve_all c.args.world.now.files (take k (requests_in (pull_text p)))).files
    ≡ c.args.world.now.files) (sym c.as_slice.ensures)
    (recv_in_part c.args.world.now.files c.args.found.now.path c.requires.short k)
