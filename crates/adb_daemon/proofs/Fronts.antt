-- What a stream writes is a front of its service's answer, as payloads come and writes go.
use Rattle.std.specs.Prelude.{ℕ, ◌≡◌, ◌≢◌, ◌≤◌, ◌-◌, ◌==◌, cond, if◌then◌else◌, Bool, true, false}
use Rattle.std.specs.Prelude.{List, [], ◌∷◌, ◌++◌, length, take, drop, zero, suc, Some, None}
use Rattle.std.proofs.Common.{refl, sym, ◌∙◌, ap, arith}
use Rattle.std.specs.Io.{StartsWith}
use Rattle.std.proofs.Transfers.{starts_with_of_append}
use borrow.Author.Tests.{true-eqb, false-eqb}
use Rattle.std.proofs.lemmas.List.{append-nil, append_assoc, length-append, length-drop, length-take, take-append-drop, nil_from_length}
use Rattle.std.specs.List.{concat}
use Rattle.adb_shell.specs.Packets.{Reading, start, cut_from, packets_in}
use Rattle.adb_shell_service.specs.Service.{Answer, Opening, reads_input, shell_answer}
use Rattle.adb_shell_service.proofs.Answering.{answer_command, answer_grows}
use Rattle.adb_files.specs.Entries.{Entry}
use Rattle.adb_files.specs.Served.{Served}
use Rattle.adb_device_streams.specs.Asked.{Kind, Echoes, Syncs, Shells}
use Rattle.adb_device_streams.specs.Service.{Came, bytes_in, served_by, sync_more, sync_answer, service_answer}
use Rattle.adb_device_streams.specs.Stream.{Row, unsent, next_payload, row_past, row_past_all, row_written, writes_at, writes, room_of}
use Rattle.adb_device_streams.specs.Stream.{row_took}

-- what follows the answer to payloads in that to more of them
pub record More (front all : List ℕ) : Type 0 where
  pub more : List ℕ
  pub is : all ≡ front ++ more

same : (x y : List ℕ) → y ≡ x → More x y
same x y is = record { more = []; is = is ∙ sym (append-nil x) }

from_start : (all front : List ℕ) → StartsWith all front → More front all
from_start all front starts =
    record {
      more = drop (length front) all;
      is = sym (take-append-drop (length front) all)
          ∙ ap (λ l. l ++ drop (length front) all) starts;
    }

shell_more : (opening : Opening) (fed piece : List ℕ) → More (shell_answer opening fed).bytes (shell_answer opening (fed ++ piece)).bytes
shell_more opening fed piece = go (reads_input opening) refl (shell_answer opening fed).ended refl
  where
    reading : Reading
    reading = record (cut_from start fed) { given = [] }

    go : (t : Bool) → reads_input opening ≡ t → (ended : Bool) → (shell_answer opening fed).ended ≡ ended
        → More (shell_answer opening fed).bytes (shell_answer opening (fed ++ piece)).bytes
    go false reads ended is =
        same (shell_answer opening fed).bytes (shell_answer opening (fed ++ piece)).bytes
        (ap (λ (a : Answer). a.bytes) (answer_command opening (fed ++ piece) reads ∙ sym (answer_command opening fed reads)))
    go true reads true over =
        from_start (shell_answer opening (fed ++ piece)).bytes (shell_answer opening fed).bytes (answer_grows opening fed piece None over)
    go true reads false on =
        from_start (shell_answer opening (fed ++ piece)).bytes (shell_answer opening fed).bytes
        (answer_grows opening fed piece (Some reading) (record {
          input = reads;
          goes_on = on;
          stands = record { frames = sym (append-nil (packets_in fed)); fault = refl; open_rest = λ none. (refl, refl) };
        }))

sync_more_is : (answer : Answer) (served : Served) → More answer.bytes (sync_more answer served).bytes
sync_more_is answer served = go answer.ended
  where
    go : (t : Bool) → More answer.bytes (cond t answer (record { bytes = answer.bytes ++ served.answer; ended = served.ended })).bytes
    go true = same answer.bytes answer.bytes refl
    go false = record { more = served.answer; is = refl }

pub answers_more : (kind : Kind) (first : List Entry) (came : Came) (past : List Came)
    → More (service_answer kind first past).bytes (service_answer kind first (came ∷ past)).bytes
answers_more Echoes first came past = record { more = came.bytes; is = refl }
answers_more Syncs first came past = sync_more_is (sync_answer past) (served_by past came)
answers_more (Shells packets command) first came past = shell_more
    (record { packets = packets; command = command; files = first }) (bytes_in past) came.bytes

-- What was written and what was not are the answer.
abbrev pub IsFront : Row → Type 0
IsFront row = row.sent ++ unsent row ≡ (service_answer row.kind row.first row.past).bytes

pub front_took : (came : Came) (row : Row) → IsFront row → IsFront (row_took came row)
front_took came row front =
    let grows = answers_more row.kind row.first came row.past in
    let all = (service_answer row.kind row.first (came ∷ row.past)).bytes in
    let whole : all ≡ row.sent ++ (unsent row ++ grows.more) = grows.is ∙ (ap (λ l. l ++ grows.more) (sym front)
    ∙ append_assoc row.sent (unsent row) grows.more) in
    ap (λ l. l ++ drop (length row.sent) all) (sym (starts_with_of_append all row.sent (unsent row ++ grows.more) whole))
    ∙ take-append-drop (length row.sent) all

front_past : (most : ℕ) (row : Row) → IsFront row → IsFront (row_past (next_payload most row) row)
front_past most row front =
    let all = (service_answer row.kind row.first row.past).bytes in
    let rest = unsent row in
    let n = room_of row.flow most in
    let next = take n rest in
    let whole : all ≡ (row.sent ++ next) ++ drop n rest = sym front ∙ (ap (λ l. row.sent ++ l) (sym (take-append-drop n rest))
    ∙ sym (append_assoc row.sent next (drop n rest))) in
    ap (λ l. l ++ drop (length (row.sent ++ next)) all) (sym (starts_with_of_append all (row.sent ++ next) (drop n rest) whole))
    ∙ take-append-drop (length (row.sent ++ next)) all

-- a stream past all that its window lets go
module _ (most : ℕ) where
  front_at : (k : ℕ) (row : Row) → IsFront row → IsFront (row_past_all (writes_at k most row) row)
  front_at zero row front = front
  front_at (suc k) row front = go (length (next_payload most row) == 0)
      (front_at k (row_past (next_payload most row) row) (front_past most row front))
    where
      go : (t : Bool)
          → IsFront (row_past_all (writes_at k most (row_past (next_payload most row) row))
          (row_past (next_payload most row) row))
          → IsFront (row_past_all (if t then [] else next_payload most row ∷ writes_at k most (row_past (next_payload most row) row)) row)
      go true later = front
      go false later = later

  less_left : (row : Row) (payload : List ℕ) → length (unsent (row_past payload row)) ≡ length (unsent row) - length payload
  less_left row payload =
      let all = (service_answer row.kind row.first row.past).bytes in
      omega (arith, length-drop (length (row.sent ++ payload)) all, length-drop (length row.sent) all, length-append row.sent payload)

  nothing : (row : Row) → length (unsent row) ≤ 0 → next_payload most row ≡ []
  nothing row none = nil_from_length (next_payload most row) (omega (arith, none, length-take (room_of row.flow most) (unsent row)))

  none_at : (k : ℕ) (row : Row) → length (unsent row) ≤ k → next_payload most (row_past_all (writes_at k most row) row) ≡ []
  none_at zero row few = nothing row few
  none_at (suc k) row few = go (length (next_payload most row) == 0) refl (none_at k (row_past (next_payload most row) row))
    where
      next : Row
      next = row_past (next_payload most row) row

      go : (t : Bool) → (length (next_payload most row) == 0) ≡ t
          → (length (unsent (row_past (next_payload most row) row)) ≤ k
          → next_payload most
          (row_past_all (writes_at k most (row_past (next_payload most row) row))
          (row_past (next_payload most row) row)) ≡ [])
          → next_payload most
          (row_past_all
          (if t then [] else next_payload most row ∷ writes_at k most (row_past (next_payload most row) row))
          row) ≡ []
      go true is later = nil_from_length (next_payload most row) (true-eqb (length (next_payload most row)) 0 (sym is))
      go false is later =
          let some : length (next_payload most row) ≢ 0 = false-eqb (length (next_payload most row)) 0 (sym is) in
          later (omega (arith, few, some, less_left row (next_payload most row)))

  pub front_written : (row : Row) → IsFront row → IsFront (row_written most row)
  front_written row front = front_at (length (unsent row)) row front

  pub none_goes : (row : Row) → next_payload most (row_written most row) ≡ []
  none_goes row = none_at (length (unsent row)) row (omega arith)

  sent_past : (payloads : List (List ℕ)) (row : Row) → (row_past_all payloads row).sent ≡ row.sent ++ concat payloads
  sent_past [] row = sym (append-nil row.sent)
  sent_past (payload ∷ more) row = sent_past more (row_past payload row) ∙ append_assoc row.sent payload (concat more)

  pub sent_written : (row : Row) → (row_written most row).sent ≡ row.sent ++ concat (writes most row)
  sent_written row = sent_past (writes most row) row
