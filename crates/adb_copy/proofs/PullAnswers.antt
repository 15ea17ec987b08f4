-- What a device's sync service answers to a LIST and to a RECV, as the asking side reads it.
use Rattle.std.proofs.Math.Seq.{take-nil}
use Rattle.std.proofs.Common.{zero, suc}
use Rattle.std.proofs.Common.{ℕ, ◌+◌, ◌^◌, ◌≡◌, ◌<◌, ◌≤◌, Bool, true, false, List, [], ◌∷◌, ◌++◌, length, take, drop, Option, Some, None}
use Rattle.std.proofs.Common.{sym, refl, ◌∙◌, ap, append_assoc, arith}
use Rattle.std.specs.List.{AllByRecursion, flat_map}
use Rattle.std.proofs.lemmas.List.{append-nil}
use Rattle.byteorder.specs.Endian.{little_bytes}
use Rattle.byteorder.specs.Numbers.{little_number-reads_back}
use Rattle.adb_outside.specs.declared.framer.Front.TheVariants.{Whole}
use Rattle.adb_outside.specs.Framing.{Cut, cut, joined, uncut}
use Rattle.adb_outside.proofs.CutLaws.{frame_first}
use Rattle.adb_sync.specs.declared.answer.Dirent.{Dirent}
use Rattle.adb_sync.specs.declared.answer.SyncAnswer.{SyncAnswer}
use Rattle.adb_sync.specs.declared.answer.SyncAnswer.TheVariants as answers
use Rattle.adb_sync.specs.declared.answer_id.AnswerId.TheVariants as ids
use Rattle.adb_sync.specs.declared.answer_format.AnswerFormat.{AnswerFormat}
use Rattle.adb_sync.specs.declared.ask.SyncAsk.{SyncAsk}
use Rattle.adb_sync.specs.declared.ask.SyncAsk.TheVariants as asks
use Rattle.adb_sync.specs.Messages.{front_of_body, front_past_id, number_at}
use Rattle.adb_sync.specs.Framed.{there}
use Rattle.adb_sync.specs.Answers.{answer_bytes, answer_front, answer_layout, answered_at, past_answer, answers_start}
use Rattle.adb_sync.specs.Asks.{AskReading, IsAsk, HasAskWords, id_of_ask, is_in_place, ask_bytes, asks_from, asks_start, past_ask}
use Rattle.adb_sync.specs.Chunk.{chunk_bytes}
use Rattle.adb_sync.proofs.AskCuts.{ask_again}
use Rattle.adb_files.specs.declared.file.File.{File}
use Rattle.adb_files.specs.declared.file.FileError.{FileError}
use Rattle.adb_files.specs.Entries.{Entry}
use Rattle.adb_files.specs.Files.{file_at, read_refusal}
use Rattle.adb_files.specs.Listing.{listing}
use Rattle.adb_files.specs.Requests.{Request, Lists, Receives, completed, requests_of, fault_request, requests_in}
use Rattle.adb_files.specs.Served.{Served, answered, dent_bytes, list_bytes, recv_by, recv_bytes, serve_all, serve_one, served, then_served}
use Rattle.adb_sync_client.specs.declared.request.TheConstants.{MAX_ASKED_PATH}
use Rattle.adb_sync_client.specs.declared.expected.Expected.{Expected}
use Rattle.adb_sync_client.specs.declared.kind.AnswerKind.TheVariants as kinds
use Rattle.adb_sync_client.specs.declared.step.Step.{Step}
use Rattle.adb_sync_client.specs.declared.step.Step.TheVariants as steps
use Rattle.adb_sync_client.specs.Expected.{stray_in, whole_front, or_stray, expected_front, expected_answer, past_expected}
use Rattle.adb_sync_client.specs.Texts.{list_text, pull_text}
use Rattle.adb_sync_client.specs.Values.{Said, told_nothing, told_by, next_of, ended_or, meant, pull_value, list_value, step_map}
use Rattle.adb_sync_client.specs.Framed.{expected_are_framed}

-- ---- one request alone
one_request : (ask : SyncAsk) (request : Request) → IsAsk ask → HasAskWords ask → is_in_place false (id_of_ask ask) ≡ true
    → completed None ask ≡ request ∷ [] → requests_in (ask_bytes ask) ≡ request ∷ []
one_request ask request good words place is =
    let frame = ask_bytes ask in
    let cut : asks_from asks_start frame ≡ joined (ask ∷ []) (uncut (past_ask asks_start frame) [] None) =
    ap (asks_from asks_start) (sym (append-nil frame)) ∙ ask_again asks_start ask [] good words place in
    ap (λ (c : AskReading). requests_of None c.given ++ fault_request c.fault) cut
    ∙ ap (λ (rs : List Request). (rs ++ []) ++ []) is

alone_answered : (files : List Entry) (answer : List ℕ) → then_served (answered files answer)
    (λ left. answered left []) ≡ answered files answer
alone_answered files answer = ap (answered files) (append-nil answer)

pub list_served : (files : List Entry) (path : List ℕ) → length path ≤ MAX_ASKED_PATH
    → served files (list_text path) ≡ answered files (list_bytes (listing path files))
list_served files path short =
    ap (serve_all files) (one_request (asks.List path) (Lists path) (omega (arith, short)) tt refl refl)
    ∙ alone_answered files (list_bytes (listing path files))

-- a prefix of one request that changes no file changes none
one_in_part : (files : List Entry) (text answer : List ℕ) (request : Request) → requests_in text ≡ request ∷ []
    → serve_one files request ≡ answered files answer → (k : ℕ) → (serve_all files (take k (requests_in text))).files ≡ files
one_in_part files text answer request is serves zero = refl
one_in_part files text answer request is serves (suc k) =
    ap (λ (rs : List Request). (serve_all files (take (suc k) rs)).files) is
    ∙ (ap (λ (rs : List Request). (serve_all files (request ∷ rs)).files) (take-nil k)
    ∙ ap (λ (s : Served). (then_served s (λ left. answered left [])).files) serves)

pub list_in_part : (files : List Entry) (path : List ℕ) → length path ≤ MAX_ASKED_PATH → (k : ℕ)
    → (serve_all files (take k (requests_in (list_text path)))).files ≡ files
list_in_part files path short =
    one_in_part files (list_text path) (list_bytes (listing path files)) (Lists path)
    (one_request (asks.List path) (Lists path) (omega (arith, short)) tt refl refl) refl

pub recv_in_part : (files : List Entry) (path : List ℕ) → length path ≤ MAX_ASKED_PATH → (k : ℕ)
    → (serve_all files (take k (requests_in (pull_text path)))).files ≡ files
recv_in_part files path short =
    one_in_part files (pull_text path) (recv_bytes files path) (Receives path)
    (one_request (asks.Recv path) (Receives path) (omega (arith, short)) tt refl refl) refl

pub recv_served : (files : List Entry) (path : List ℕ) → length path ≤ MAX_ASKED_PATH
    → served files (pull_text path) ≡ answered files (recv_bytes files path)
recv_served files path short =
    ap (serve_all files) (one_request (asks.Recv path) (Receives path) (omega (arith, short)) tt refl refl)
    ∙ alone_answered files (recv_bytes files path)

-- ---- what answers mean
abbrev means : Expected → Said → List ℕ → Step Said
means e said bytes =
    let c : Cut Expected SyncAnswer ℕ = cut expected_front expected_answer past_expected e bytes in meant said c.given c.fault

means_frame : (e : Expected) (said : Said) (frame more : List ℕ) → expected_front e frame ≡ Whole (length frame)
    → means e said (frame ++ more)
    ≡ ended_or (next_of (expected_answer e frame)) (told_by said (expected_answer e frame))
    (means (past_expected e frame) (told_by said (expected_answer e frame)) more)
means_frame e said frame more is =
    ap (λ (c : Cut Expected SyncAnswer ℕ). meant said c.given c.fault)
    (frame_first expected_front expected_answer past_expected expected_are_framed e frame more is)

-- ---- the entries of a list
-- the numbers of an entry have 32 bits
abbrev pub HasWords : Dirent → Type 0
HasWords entry = (length entry.name < 2 ^ 32) × (entry.mode < 2 ^ 32) × (entry.size < 2 ^ 32) × (entry.mtime < 2 ^ 32)

module _ (s : AnswerFormat) (entry : Dirent) (words : HasWords entry) where
  abbrev frame : List ℕ
  frame = dent_bytes entry

  abbrev lists : Expected
  lists = record { kind = kinds.List; answers = s }

  count : number_at 12 (drop 4 frame) ≡ length entry.name
  count = little_number-reads_back 4 (length entry.name) entry.name (omega (arith, words.0))

  size : length frame ≡ 20 + length entry.name
  size = omega arith

  entry_whole : answer_front s frame ≡ Whole (length frame)
  entry_whole =
      let n = number_at 12 (drop 4 frame) in
      there (length frame) 4 (front_past_id s.offset (answered_at s (take 4 frame)) (drop 4 frame)) (omega (arith, size))
      ∙ (there (length (drop 4 frame)) 16
      (front_of_body s.offset (answer_layout s.list ids.Dent) n (drop 16 (drop 4 frame))) (omega (arith, size))
      ∙ (there (length (drop 16 (drop 4 frame))) n (Whole (4 + 16 + n)) (omega (arith, count, size))
      ∙ ap Whole (omega (arith, count, size))))

  entry_front : expected_front lists frame ≡ Whole (length frame)
  entry_front =
      let clear : stray_in kinds.List frame ≡ None = refl in
      ap (λ stray. or_stray s.offset stray (whole_front (answer_front s frame))) clear ∙ ap whole_front entry_whole

  entry_read : expected_answer lists frame ≡ answers.Dent entry.mode entry.size entry.mtime entry.name
  entry_read =
      let rest = little_bytes 4 (length entry.name) ++ entry.name in
      let bytes = drop 4 frame in
      ap (λ k. answers.Dent k (number_at 4 bytes) (number_at 8 bytes) entry.name)
      (little_number-reads_back 4 entry.mode (little_bytes 4 entry.size ++ little_bytes 4 entry.mtime ++ rest) (omega (arith, words.1)))
      ∙ (ap (λ k. answers.Dent entry.mode k (number_at 8 bytes) entry.name)
      (little_number-reads_back 4 entry.size (little_bytes 4 entry.mtime ++ rest) (omega (arith, words.2)))
      ∙ ap (λ k. answers.Dent entry.mode entry.size k entry.name) (little_number-reads_back 4 entry.mtime rest (omega (arith, words.3))))

  entry_means : (said : Said) (more : List ℕ)
      → means lists said (frame ++ more) ≡ means (record { kind = kinds.List; answers = past_answer s frame })
      (record said { entries = said.entries ++ entry ∷ [] }) more
  entry_means said more =
      means_frame lists said frame more entry_front
      ∙ ap (λ (answer : SyncAnswer). ended_or (next_of answer) (told_by said answer)
      (means (past_expected lists frame) (told_by said answer) more)) entry_read

-- the end of the list
end_means : (s : AnswerFormat) (said : Said) → s.list ≡ true
    → means (record { kind = kinds.List; answers = s }) said (answer_bytes answers.ListEnd) ≡ steps.Done said
end_means s said list =
    ap (λ (list : Bool). means (record { kind = kinds.List; answers = record { offset = s.offset; list = list } })
    said (answer_bytes answers.ListEnd)) list

listed : (s : AnswerFormat) (said : Said) (entries : List Dirent) → s.list ≡ true → AllByRecursion HasWords entries
    → means (record { kind = kinds.List; answers = s }) said (flat_map dent_bytes entries ++ answer_bytes answers.ListEnd)
    ≡ steps.Done (record said { entries = said.entries ++ entries })
listed s said [] list words =
    end_means s said list ∙ ap (λ (all : List Dirent). steps.Done (record said { entries = all }))
    (sym (append-nil said.entries))
listed s said (entry ∷ entries) list words =
    let first = dent_bytes entry in
    let last = answer_bytes answers.ListEnd in
    ap (means (record { kind = kinds.List; answers = s }) said) (append_assoc first (flat_map dent_bytes entries) last)
    ∙ (entry_means s entry words.0 said (flat_map dent_bytes entries ++ last)
    ∙ (listed (past_answer s first) (record said { entries = said.entries ++ entry ∷ [] }) entries list words.1
    ∙ ap (λ (all : List Dirent). steps.Done (record said { entries = all })) (append_assoc said.entries (entry ∷ []) entries)))

pub list_read : (entries : List Dirent) → AllByRecursion HasWords entries → list_value (list_bytes entries) ≡ steps.Done entries
list_read entries words = ap (step_map (λ (said : Said). said.entries)) (listed (answers_start true) told_nothing entries refl words)

-- ---- both
pub listing_read : (files : List Entry) (path : List ℕ) → length path ≤ MAX_ASKED_PATH → AllByRecursion HasWords (listing path files)
    → list_value (served files (list_text path)).answer ≡ steps.Done (listing path files)
listing_read files path short words =
    ap (λ (s : Served). list_value s.answer) (list_served files path short) ∙ list_read (listing path files) words

abbrev pub Reads : Type 0
Reads = (bytes : List ℕ) → pull_value (chunk_bytes bytes ++ answer_bytes answers.ChunkEnd) ≡ steps.Done bytes

pub file_read : Reads → (files : List Entry) (path : List ℕ) (file : File) → length path ≤ MAX_ASKED_PATH → read_refusal files path ≡ None
    → file_at path files ≡ Some file → pull_value (served files (pull_text path)).answer ≡ steps.Done file.bytes
file_read reads files path file short granted there =
    ap (λ (s : Served). pull_value s.answer) (recv_served files path short)
    ∙ (ap (λ (o : Option FileError). pull_value (recv_by o (file_at path files))) granted
    ∙ (ap (λ (f : Option File). pull_value (recv_by None f)) there ∙ reads file.bytes))

-- two answers that are done have the same value
pub done_is : {V : Type 0} {a b : V} → ◌≡◌ {A = Step V} (steps.Done a) (steps.Done b) → a ≡ b
done_is e = cc
