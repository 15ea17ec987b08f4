-- Payloads that come over the files that those before them left are one payload.
use Rattle.std.specs.Prelude.{ℕ, ◌≡◌, cond, Bool, true, false, List, [], ◌∷◌, ◌++◌, length, drop, Option, Some, None}
use Rattle.std.proofs.Common.{refl, sym, ap, ◌∙◌, arith, append_assoc}
use Rattle.std.proofs.lemmas.List.{append-nil}
use Rattle.std.proofs.Math.Seq.{drop-append_seam}
use Rattle.adb_outside.specs.Framing.{joined}
use Rattle.adb_outside.proofs.FramingLaws.{cut_piece, fault_stays}
use Rattle.adb_sync.specs.Asks.{AskReading, ask_front, ask_of, past_ask, asks_start, asks_from, asks_in, ask_fault_in}
use Rattle.adb_sync.specs.Framed.{asks_are_framed}
use Rattle.adb_sync.specs.declared.ask.SyncAsk.{SyncAsk}
use Rattle.adb_sync.specs.declared.error.SyncFault.{SyncFault}
use Rattle.adb_files.specs.Entries.{Entry}
use Rattle.adb_files.specs.Requests.{Request, requests_of, open_after, fault_request, requests_in}
use Rattle.adb_files.specs.Served.{Served, serve_all}
use Rattle.adb_files.proofs.Serving.{requests_of-append, serve_all-ended, serve_all-more}
use Rattle.adb_shell_service.specs.Service.{Answer}
use Rattle.adb_shell_service.proofs.Answering.{ended_stays}
use Rattle.adb_device_streams.specs.Asked.{Kind, Echoes, Syncs, Shells}
use Rattle.adb_device_streams.specs.Service.{Came, bytes_in, came_over, completed_by, served_by, sync_answer, sync_files, service_answer}
use Rattle.adb_laws_alone.specs.Payloads.{files_behind, ComeInTurn, AreOne, AreEnough}

-- ---- the requests of more bytes
-- what follows the requests of some bytes in those of more
pub record Further (x y : List ℕ) : Type 0 where
  pub requests : List Request
  pub is : requests_in (x ++ y) ≡ requests_in x ++ requests

pub further : (x y : List ℕ) → Further x y
further x y = go (ask_fault_in x) refl
  where
    go : (fault : Option SyncFault) → ask_fault_in x ≡ fault → Further x y
    go None sound =
        let more : AskReading = asks_from (asks_from asks_start x).reading ((asks_from asks_start x).rest ++ y) in
        let whole : asks_from asks_start (x ++ y) ≡ joined (asks_in x) more =
        cut_piece ask_front ask_of past_ask asks_are_framed (length x) asks_start x y
        (omega arith) sound in
        let send = open_after None (asks_in x) in
        let before : requests_in x ≡ requests_of None (asks_in x) =
        ap (λ (f : Option SyncFault). requests_of None (asks_in x) ++ fault_request f) sound ∙ append-nil (requests_of None (asks_in x)) in
        record {
          requests = requests_of send more.given ++ fault_request more.fault;
          is = ap (λ (c : AskReading). requests_of None c.given ++ fault_request c.fault) whole
              ∙ (ap (λ (rs : List Request). rs ++ fault_request more.fault) (requests_of-append None (asks_in x) more.given)
              ∙ (append_assoc (requests_of None (asks_in x)) (requests_of send more.given) (fault_request more.fault)
              ∙ ap (λ (rs : List Request). rs ++ (requests_of send more.given ++ fault_request more.fault)) (sym before)));
        }
    go (Some fault) broken =
        let stays = fault_stays ask_front ask_of past_ask asks_are_framed (length x) asks_start x y fault (omega arith) broken in
        record {
          requests = [];
          is = ap (λ (asks : List SyncAsk). requests_of None asks ++ fault_request (ask_fault_in (x ++ y))) stays.0
              ∙ (ap (λ (f : Option SyncFault). requests_of None (asks_in x) ++ fault_request f) (stays.1 ∙ sym broken)
              ∙ sym (append-nil (requests_in x)));
        }

-- what a payload completes behind others
pub completes : (x y : List ℕ) (f : Further x y) → completed_by x y ≡ f.requests
completes x y f = ap (drop (length (requests_in x))) f.is ∙ drop-append_seam (requests_in x) f.requests

-- ---- the sync service
-- an answer, and what is left of the files
abbrev answer_by : Served → Answer
answer_by served = record { bytes = served.answer; ended = served.ended }

-- the answer and the files of payloads are those of all their requests, served at once
record ServedAtOnce (opened : List Entry) (past : List Came) : Type 0 where
  answer : sync_answer past ≡ answer_by (serve_all opened (requests_in (bytes_in past)))
  files : files_behind Syncs opened past ≡ (serve_all opened (requests_in (bytes_in past))).files

module _ (opened : List Entry) (came : Came) (before : List Came) (over : came.files ≡ files_behind Syncs opened before)
    (so_far : ServedAtOnce opened before) where
  f : Further (bytes_in before) came.bytes
  f = further (bytes_in before) came.bytes

  abbrev earlier : Served
  earlier = serve_all opened (requests_in (bytes_in before))

  stands : came.files ≡ earlier.files
  stands = over ∙ so_far.files

  next : served_by before came ≡ serve_all earlier.files f.requests
  next = ap (λ (rs : List Request). serve_all came.files rs) (completes (bytes_in before) came.bytes f)
      ∙ ap (λ (files : List Entry). serve_all files f.requests) stands

  all : serve_all opened (requests_in (bytes_in before ++ came.bytes)) ≡ serve_all opened (requests_in (bytes_in before) ++ f.requests)
  all = ap (serve_all opened) f.is

  abbrev one_more : Answer → Answer
  one_more answer =
      cond answer.ended answer
      (record { bytes = answer.bytes ++ (served_by before came).answer; ended = (served_by before came).ended })

  more_served : ServedAtOnce opened (came ∷ before)
  more_served = go earlier.ended refl
    where
      go : (b : Bool) → earlier.ended ≡ b → ServedAtOnce opened (came ∷ before)
      go true e =
          let same : serve_all opened (requests_in (bytes_in before ++ came.bytes)) ≡ earlier =
          all ∙ serve_all-ended (requests_in (bytes_in before)) f.requests opened e in
          record {
            answer = ap one_more so_far.answer
                ∙ (ap (λ (t : Bool). cond t (answer_by earlier)
                (record { bytes = earlier.answer ++ (served_by before came).answer; ended = (served_by before came).ended })) e
                ∙ ap answer_by (sym same));
            files = ap (λ (a : Answer). sync_files a.ended came.files (served_by before came)) so_far.answer
                ∙ (ap (λ (t : Bool). cond t came.files (served_by before came).files) e
                ∙ (stands ∙ ap (λ (s : Served). s.files) (sym same)));
          }
      go false e =
          let joins = serve_all-more (requests_in (bytes_in before)) f.requests opened e in
          let end : (served_by before came).ended ≡ (serve_all opened (requests_in (bytes_in before ++ came.bytes))).ended =
          ap (λ (s : Served). s.ended) next ∙ (sym joins.ended ∙ ap (λ (s : Served). s.ended) (sym all)) in
          let bytes : earlier.answer ++ (served_by before came).answer
          ≡ (serve_all opened (requests_in (bytes_in before ++ came.bytes))).answer =
          ap (λ (s : Served). earlier.answer ++ s.answer) next ∙ (sym joins.answer ∙ ap (λ (s : Served). s.answer) (sym all)) in
          record {
            answer = ap one_more so_far.answer
                ∙ (ap (λ (t : Bool). cond t (answer_by earlier)
                (record { bytes = earlier.answer ++ (served_by before came).answer; ended = (served_by before came).ended })) e
                ∙ (λ i. record { bytes = bytes i; ended = end i }));
            files = ap (λ (a : Answer). sync_files a.ended came.files (served_by before came)) so_far.answer
                ∙ (ap (λ (t : Bool). cond t came.files (served_by before came).files) e
                ∙ (ap (λ (s : Served). s.files) next ∙ (sym joins.files ∙ ap (λ (s : Served). s.files) (sym all))));
          }

-- no bytes make no request
served_at_once : (opened : List Entry) (past : List Came) → ComeInTurn Syncs opened past → ServedAtOnce opened past
served_at_once opened [] turn = record { answer = refl; files = refl }
served_at_once opened (came ∷ before) turn = more_served opened came before turn.1 (served_at_once opened before turn.0)

-- the same of one payload
sync_one : (opened : List Entry) (bytes : List ℕ) → ServedAtOnce opened (came_over bytes opened ∷ [])
sync_one opened bytes = more_served opened (came_over bytes opened) [] refl (record { answer = refl; files = refl })

-- ---- all services
-- a service whose payloads leave the files
echo_files : (opened : List Entry) (past : List Came) → ComeInTurn Echoes opened past → files_behind Echoes opened past ≡ opened
echo_files opened [] turn = refl
echo_files opened (came ∷ before) turn = turn.1 ∙ echo_files opened before turn.0

shell_files : (packets : Bool) (command : List ℕ) (opened : List Entry) (past : List Came) → ComeInTurn (Shells packets command) opened past
    → files_behind (Shells packets command) opened past ≡ opened
shell_files packets command opened [] turn = refl
shell_files packets command opened (came ∷ before) turn = turn.1 ∙ shell_files packets command opened before turn.0

pub are_one : (kind : Kind) (first opened : List Entry) (past : List Came) → ComeInTurn kind opened past → AreOne kind first opened past
are_one Echoes first opened past turn = record { answer = refl; files = echo_files opened past turn }
are_one (Shells packets command) first opened past turn = record { answer = refl; files = shell_files packets command opened past turn }
are_one Syncs first opened past turn =
    let all = served_at_once opened past turn in
    let one = sync_one opened (bytes_in past) in
    record { answer = all.answer ∙ sym one.answer; files = all.files ∙ sym one.files }

-- ---- a service that has ended
-- the requests of more bytes are served no more
sync_enough : (first opened : List Entry) (bytes more : List ℕ) → (service_answer Syncs first (came_over bytes opened ∷ [])).ended ≡ true
    → AreEnough Syncs first opened bytes (bytes ++ more)
sync_enough first opened bytes more over =
    let one = sync_one opened bytes in
    let all = sync_one opened (bytes ++ more) in
    let f = further bytes more in
    let ended : (serve_all opened (requests_in bytes)).ended ≡ true = ap (λ (a : Answer). a.ended) (sym one.answer) ∙ over in
    let same : serve_all opened (requests_in (bytes ++ more)) ≡ serve_all opened (requests_in bytes) =
    ap (serve_all opened) f.is ∙ serve_all-ended (requests_in bytes) f.requests opened ended in
    record {
      answer = all.answer ∙ (ap answer_by same ∙ sym one.answer);
      files = all.files ∙ (ap (λ (s : Served). s.files) same ∙ sym one.files);
    }

pub are_enough : (kind : Kind) (first opened : List Entry) (bytes more : List ℕ)
    → (service_answer kind first (came_over bytes opened ∷ [])).ended ≡ true
    → AreEnough kind first opened bytes (bytes ++ more)
are_enough Echoes first opened bytes more over = absurd (let clash : false ≡ true = over in cc)
are_enough (Shells packets command) first opened bytes more over =
    record { answer = ended_stays (record { packets = packets; command = command; files = first }) bytes more over; files = refl }
are_enough Syncs first opened bytes more over = sync_enough first opened bytes more over
