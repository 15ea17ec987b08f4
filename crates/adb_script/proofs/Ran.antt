-- What a command prints, behind its packets.
use Rattle.std.proofs.Common.{ℕ, zero, suc, ◌+◌, ◌≡◌, ◌≤◌, Bool, true, false, cond, eqb, List, [], ◌∷◌, ◌++◌, length, take, drop, Option}
use Rattle.std.proofs.Common.{Some, None}
use Rattle.std.proofs.Common.{refl, sym, ◌∙◌, ap, subst, append_assoc, arith}
use Rattle.std.specs.Prelude.{bytes_eq, codes, slice_get}
use Rattle.std.proofs.lemmas.Bool.Decides.{nat_tests}
use Rattle.std.proofs.lemmas.List.{append-nil, length-drop, length-take, take-append-drop}
use Rattle.std.proofs.lemmas.Slice.Eq.{bytes_eq-Decides}
use Rattle.adb_shell.specs.declared.format.ShellFormat.{ShellFormat}
use Rattle.adb_shell.specs.declared.packet.ShellPacket.{ShellPacket}
use Rattle.adb_shell.specs.Packets.{Reading, cut_from, packets_in, past, spelling, start, fault_in}
use Rattle.adb_shell.proofs.Spelled.{read_again}
use Rattle.adb_files.specs.Entries.{Entry}
use Rattle.adb_shell_service.specs.declared.outcome.Outcome.{Outcome}
use Rattle.adb_shell_service.specs.declared.output.TheConstants.{MAX_OUTPUT}
use Rattle.adb_shell_service.specs.Commands.{files_left, outcome_of, words_of}
use Rattle.adb_shell_service.specs.Output.{exit_bytes, output_at, output_bytes, spelled}
use Rattle.adb_shell_service.specs.Service.{Answer, input_answer, is_echo_of_input, shell_answer}
use Rattle.adb_script.specs.declared.output.Output.{Output}
use Rattle.adb_script.specs.declared.output.TheConstants.{STDOUT, STDERR, EXIT}
use Rattle.adb_script.specs.Answers.{Answered, end_of_input, line_answer, ran_line}
use Rattle.adb_script.specs.Lines.{Asks, Runs}
use Rattle.adb_script.specs.Meanings.{ran_over}
use Rattle.adb_script.specs.Output.{bytes_if, or_status, output_in, payloads, status_in}

abbrev packet_of : ℕ → List ℕ → ShellPacket
packet_of id bytes = record { id = id; bytes = bytes }

abbrev given : ShellFormat → List ℕ → List ShellPacket
given from bytes = (cut_from from bytes).given

-- ---- output in packets
-- behind the packets of some output those of more bytes are read: of each id they say the output too where it is of that id, and no status
record Outputs (id : ℕ) (bytes more : List ℕ) (all : List ShellPacket) : Type 0 where
  next : ShellFormat
  said : (other : ℕ) → payloads other all ≡ cond (eqb id other) bytes [] ++ payloads other (given next more)
  status : status_in all ≡ status_in (given next more)

none_out : (id : ℕ) (from : ShellFormat) (more : List ℕ) → Outputs id [] more (given from more)
none_out id from more = record { next = from; said = λ other. nothing (eqb id other) (payloads other (given from more)); status = refl }
  where
    nothing : (t : Bool) (rest : List ℕ) → rest ≡ cond t [] [] ++ rest
    nothing true rest = refl
    nothing false rest = refl

-- a packet in front of output of the same id
one_out : (id : ℕ) (front left more : List ℕ) (all : List ShellPacket) → eqb id EXIT ≡ false → Outputs id left more all
    → Outputs id (front ++ left) more (packet_of id front ∷ all)
one_out id front left more all plain others = record {
  next = others.next;
  said = λ other. ap (λ (bs : List ℕ). bytes_if other (packet_of id front) ++ bs) (others.said other)
      ∙ both (eqb id other) (payloads other (given others.next more));
  status = ap (λ (t : Bool). or_status (cond t (slice_get front 0) None) (status_in all)) plain ∙ others.status;
}
  where
    both : (t : Bool) (rest : List ℕ) → cond t front [] ++ (cond t left [] ++ rest) ≡ cond t (front ++ left) [] ++ rest
    both true rest = sym (append_assoc front left rest)
    both false rest = refl

out_read : (k : ℕ) (id : ℕ) (from : ShellFormat) (bytes more : List ℕ) → id ≤ 5 → eqb id EXIT ≡ false → length bytes ≤ k
    → Outputs id bytes more (given from (output_at k id bytes ++ more))
out_read zero id from [] more known plain fits = none_out id from more
out_read zero id from (byte ∷ bytes) more known plain fits = absurd (omega (arith, fits))
out_read (suc k) id from [] more known plain fits = none_out id from more
out_read (suc k) id from (byte ∷ bytes) more known plain fits =
    let all : List ℕ = byte ∷ bytes in
    let front = take MAX_OUTPUT all in
    let left = drop MAX_OUTPUT all in
    let packet = packet_of id front in
    let some : eqb (length all) 0 ≡ false = grind (arith, nat_tests) in
    let small : length front ≤ 1048576 = omega (arith, length-take MAX_OUTPUT all) in
    let spell : output_at (suc k) id all ++ more ≡ spelling packet ++ (output_at k id left ++ more) =
    ap (λ (t : Bool). cond t [] (spelling packet ++ output_at k id left) ++ more) some
    ∙ append_assoc (spelling packet) (output_at k id left) more in
    let cut = read_again from packet (output_at k id left ++ more) (record { id = known; bytes = small }) in
    let is : given from (output_at (suc k) id all ++ more) ≡ packet ∷ given (past from (spelling packet)) (output_at k id left ++ more) =
    ap (given from) spell ∙ ap (λ (c : Reading). c.given) cut in
    let rest = out_read k id (past from (spelling packet)) left more known plain (omega (arith, fits, length-drop MAX_OUTPUT all)) in
    let here = one_out id front left more (given (past from (spelling packet)) (output_at k id left ++ more)) plain rest in
    subst (λ (bs : List ℕ). Outputs id bs more (given from (output_at (suc k) id all ++ more))) (take-append-drop MAX_OUTPUT all)
    (subst (Outputs id (front ++ left) more) (sym is) here)

-- ---- all that a command wrote
exit_read : (from : ShellFormat) (status : ℕ) → given from (exit_bytes status) ≡ packet_of EXIT (status ∷ []) ∷ []
exit_read from status =
    let packet = packet_of EXIT (status ∷ []) in
    ap (given from) (sym (append-nil (exit_bytes status)))
    ∙ ap (λ (c : Reading). c.given) (read_again from packet [] (record { id = omega arith; bytes = omega arith }))

abbrev output_of : Outcome → Output
output_of outcome = record { stdout = outcome.stdout; stderr = outcome.stderr; status = Some outcome.status }

outcome_read : (outcome : Outcome) → output_in (packets_in (spelled true outcome)) ≡ output_of outcome
outcome_read outcome =
    let err = output_bytes STDERR outcome.stderr in
    let last = exit_bytes outcome.status in
    let whole = append_assoc (output_bytes STDOUT outcome.stdout) err last in
    let first = out_read (length outcome.stdout) STDOUT start outcome.stdout (err ++ last) (omega arith) refl (omega arith) in
    let second = out_read (length outcome.stderr) STDERR first.next outcome.stderr last (omega arith) refl (omega arith) in
    let exit = exit_read second.next outcome.status in
    let none : (id : ℕ) → payloads id (given second.next last)
    ≡ payloads id (packet_of EXIT (outcome.status ∷ []) ∷ []) = λ id. ap (payloads id) exit in
    let stdout : payloads STDOUT (packets_in (spelled true outcome)) ≡ outcome.stdout =
    ap (λ (bs : List ℕ). payloads STDOUT (packets_in bs)) whole
    ∙ (first.said STDOUT ∙ (ap (λ (bs : List ℕ). outcome.stdout ++ bs) (second.said STDOUT ∙ none STDOUT) ∙ append-nil outcome.stdout)) in
    let stderr : payloads STDERR (packets_in (spelled true outcome)) ≡ outcome.stderr =
    ap (λ (bs : List ℕ). payloads STDERR (packets_in bs)) whole
    ∙ (first.said STDERR ∙ (second.said STDERR ∙ (ap (λ (bs : List ℕ). outcome.stderr ++ bs) (none STDERR) ∙ append-nil outcome.stderr))) in
    let status : status_in (packets_in (spelled true outcome)) ≡ Some outcome.status =
    ap (λ (bs : List ℕ). status_in (packets_in bs)) whole ∙ (first.status ∙ (second.status ∙ ap status_in exit)) in
    λ i. record { stdout = stdout i; stderr = stderr i; status = status i }

-- ---- a command whose input is closed at once
closed_answer : (files : List Entry) (words : List (List ℕ)) (t : Bool) → is_echo_of_input words ≡ t
    → (cond t (input_answer (packets_in end_of_input) (fault_in end_of_input))
    (record { bytes = spelled true (outcome_of files words); ended = true })).bytes
    ≡ spelled true (outcome_of files words)
closed_answer files words false is = refl
closed_answer files [] true is = absurd (cc)
closed_answer files (word ∷ []) true is =
    let same : word ≡ codes "cat" = (bytes_eq-Decides word (codes "cat")).0 is in
    ap (λ (w : List ℕ). spelled true (outcome_of files (w ∷ []))) (sym same)
closed_answer files (word ∷ another ∷ more) true is = absurd (cc)

pub command_printed : (files : List Entry) (number : ℕ) (command : List ℕ)
    → line_answer files number (Asks (Runs command)) ≡ ran_over files (words_of command)
command_printed files number command =
    let words = words_of command in
    ap (λ (bytes : List ℕ). record { files = files_left files words; text = ran_line (output_in (packets_in bytes)) })
    (closed_answer files words (is_echo_of_input words) refl)
    ∙ ap (λ (output : Output). record { files = files_left files words; text = ran_line output }) (outcome_read (outcome_of files words))
