-- What a device's sync service answers to a STAT and to a LIST, as the asking side reads it.
use Rattle.std.proofs.Common.{ℕ, ◌+◌, ◌^◌, ◌≡◌, ◌<◌, ◌≤◌, Bool, true, false, List, [], ◌∷◌, ◌++◌, length, take, drop, None}
use Rattle.std.proofs.Common.{sym, refl, ◌∙◌, ap, append_assoc, arith}
use Rattle.std.specs.List.{AllByRecursion, flat_map}
use Rattle.std.proofs.lemmas.List.{append-nil}
use Rattle.byteorder.specs.Endian.{little_bytes}
use Rattle.byteorder.specs.Numbers.{little_number-reads_back}
use Rattle.adb_outside.specs.declared.framer.Front.TheVariants.{Whole}
use Rattle.adb_outside.specs.Framing.{Cut, cut, joined, uncut}
use Rattle.adb_outside.proofs.CutLaws.{frame_first}
use Rattle.adb_sync.specs.declared.answer.Dirent.{Dirent}
use Rattle.adb_sync.specs.declared.answer.SyncAnswer.{SyncAnswer}
use Rattle.adb_sync.specs.declared.answer.SyncAnswer.TheVariants as answers
use Rattle.adb_sync.specs.declared.answer_id.AnswerId.TheVariants as ids
use Rattle.adb_sync.specs.declared.answer_format.AnswerFormat.{AnswerFormat}
use Rattle.adb_sync.specs.declared.ask.SyncAsk.{SyncAsk}
use Rattle.adb_sync.specs.declared.ask.SyncAsk.TheVariants as asks
use Rattle.adb_sync.specs.Messages.{front_of_body, front_past_id, number_at}
use Rattle.adb_sync.specs.Framed.{there}
use Rattle.adb_sync.specs.Answers.{answer_bytes, answer_front, answer_layout, answered_at, past_answer, answers_start}
use Rattle.adb_sync.specs.Asks.{AskReading, IsAsk, HasAskWords, id_of_ask, is_in_place, ask_bytes, asks_from, asks_start, past_ask}
use Rattle.adb_sync.proofs.AskCuts.{ask_again}
use Rattle.adb_files.specs.declared.stat.Stat.{Stat}
use Rattle.adb_files.specs.Entries.{Entry}
use Rattle.adb_files.specs.Listing.{listing}
use Rattle.adb_files.specs.Requests.{Request, Lists, Stats, completed, requests_of, fault_request, requests_in}
use Rattle.adb_files.specs.Served.{answered, dent_bytes, list_bytes, serve_all, served, stat_bytes_of, stat_in, then_served}
use Rattle.adb_sync_client.specs.declared.request.TheConstants.{MAX_ASKED_PATH}
use Rattle.adb_sync_client.specs.declared.expected.Expected.{Expected}
use Rattle.adb_sync_client.specs.declared.kind.AnswerKind.TheVariants as kinds
use Rattle.adb_sync_client.specs.declared.step.StatValue.{StatValue}
use Rattle.adb_sync_client.specs.declared.step.Step.{Step}
use Rattle.adb_sync_client.specs.declared.step.Step.TheVariants as steps
use Rattle.adb_sync_client.specs.Expected.{stray_in, whole_front, or_stray, expected_front, expected_answer, past_expected}
use Rattle.adb_sync_client.specs.Texts.{list_text, stat_text}
use Rattle.adb_sync_client.specs.Values.{Said, told_nothing, told_by, next_of, ended_or, meant, list_value, stat_value, step_map}
use Rattle.adb_sync_client.specs.Framed.{expected_are_framed}

-- ---- one request alone
pub one_request : (ask : SyncAsk) (request : Request) → IsAsk ask → HasAskWords ask → is_in_place false (id_of_ask ask) ≡ true
    → completed None ask ≡ request ∷ [] → requests_in (ask_bytes ask) ≡ request ∷ []
one_request ask request good words place is =
    let frame = ask_bytes ask in
    let cut : asks_from asks_start frame ≡ joined (ask ∷ []) (uncut (past_ask asks_start frame) [] None) =
    ap (asks_from asks_start) (sym (append-nil frame)) ∙ ask_again asks_start ask [] good words place in
    ap (λ (c : AskReading). requests_of None c.given ++ fault_request c.fault) cut
    ∙ ap (λ (rs : List Request). (rs ++ []) ++ []) is

pub alone_answered : (files : List Entry) (answer : List ℕ)
    → then_served (answered files answer) (λ left. answered left []) ≡ answered files answer
alone_answered files answer = ap (answered files) (append-nil answer)

pub list_served : (files : List Entry) (path : List ℕ) → length path ≤ MAX_ASKED_PATH
    → served files (list_text path) ≡ answered files (list_bytes (listing path files))
list_served files path short =
    ap (serve_all files) (one_request (asks.List path) (Lists path) (omega (arith, short)) tt refl refl)
    ∙ alone_answered files (list_bytes (listing path files))

pub stat_served : (files : List Entry) (path : List ℕ) → length path ≤ MAX_ASKED_PATH
    → served files (stat_text path) ≡ answered files (stat_bytes_of (stat_in files path))
stat_served files path short =
    ap (serve_all files) (one_request (asks.Stat path) (Stats path) (omega (arith, short)) tt refl refl)
    ∙ alone_answered files (stat_bytes_of (stat_in files path))

-- ---- the numbers of a stat
abbrev pub HasStatWords : Stat → Type 0
HasStatWords stat = (stat.mode < 2 ^ 32) × (stat.size < 2 ^ 32) × (stat.mtime < 2 ^ 32)

abbrev told_stat : (mode size mtime : ℕ) → Step StatValue
told_stat mode size mtime = steps.Done (record { mode = mode; size = size; mtime = mtime })

pub stat_read : (stat : Stat) → HasStatWords stat → stat_value (stat_bytes_of stat) ≡ told_stat stat.mode stat.size stat.mtime
stat_read stat words =
    let bytes = drop 4 (stat_bytes_of stat) in
    ap (λ (k : ℕ). told_stat k (number_at 4 bytes) (number_at 8 bytes))
    (little_number-reads_back 4 stat.mode (little_bytes 4 stat.size ++ little_bytes 4 stat.mtime) (omega (arith, words.0)))
    ∙ (ap (λ (k : ℕ). told_stat stat.mode k (number_at 8 bytes))
    (little_number-reads_back 4 stat.size (little_bytes 4 stat.mtime) (omega (arith, words.1)))
    ∙ ap (told_stat stat.mode stat.size) (little_number-reads_back 4 stat.mtime [] (omega (arith, words.2))))

-- ---- what answers mean
abbrev pub means : Expected → Said → List ℕ → Step Said
means e said bytes =
    let c : Cut Expected SyncAnswer ℕ = cut expected_front expected_answer past_expected e bytes in meant said c.given c.fault

pub means_frame : (e : Expected) (said : Said) (frame more : List ℕ) → expected_front e frame ≡ Whole (length frame)
    → means e said (frame ++ more)
    ≡ ended_or (next_of (expected_answer e frame)) (told_by said (expected_answer e frame))
    (means (past_expected e frame) (told_by said (expected_answer e frame)) more)
means_frame e said frame more is =
    ap (λ (c : Cut Expected SyncAnswer ℕ). meant said c.given c.fault)
    (frame_first expected_front expected_answer past_expected expected_are_framed e frame more is)

-- ---- the entries of a list
-- the numbers of an entry have 32 bits
abbrev pub HasWords : Dirent → Type 0
HasWords entry = (length entry.name < 2 ^ 32) × (entry.mode < 2 ^ 32) × (entry.size < 2 ^ 32) × (entry.mtime < 2 ^ 32)

module _ (s : AnswerFormat) (entry : Dirent) (words : HasWords entry) where
  abbrev frame : List ℕ
  frame = dent_bytes entry

  abbrev lists : Expected
  lists = record { kind = kinds.List; answers = s }

  count : number_at 12 (drop 4 frame) ≡ length entry.name
  count = little_number-reads_back 4 (length entry.name) entry.name (omega (arith, words.0))

  size : length frame ≡ 20 + length entry.name
  size = omega arith

  entry_whole : answer_front s frame ≡ Whole (length frame)
  entry_whole =
      let n = number_at 12 (drop 4 frame) in
      there (length frame) 4 (front_past_id s.offset (answered_at s (take 4 frame)) (drop 4 frame)) (omega (arith, size))
      ∙ (there (length (drop 4 frame)) 16
      (front_of_body s.offset (answer_layout s.list ids.Dent) n (drop 16 (drop 4 frame))) (omega (arith, size))
      ∙ (there (length (drop 16 (drop 4 frame))) n (Whole (4 + 16 + n)) (omega (arith, count, size))
      ∙ ap Whole (omega (arith, count, size))))

  entry_front : expected_front lists frame ≡ Whole (length frame)
  entry_front =
      let clear : stray_in kinds.List frame ≡ None = refl in
      ap (λ stray. or_stray s.offset stray (whole_front (answer_front s frame))) clear ∙ ap whole_front entry_whole

  entry_read : expected_answer lists frame ≡ answers.Dent entry.mode entry.size entry.mtime entry.name
  entry_read =
      let rest = little_bytes 4 (length entry.name) ++ entry.name in
      let bytes = drop 4 frame in
      ap (λ k. answers.Dent k (number_at 4 bytes) (number_at 8 bytes) entry.name)
      (little_number-reads_back 4 entry.mode (little_bytes 4 entry.size ++ little_bytes 4 entry.mtime ++ rest) (omega (arith, words.1)))
      ∙ (ap (λ k. answers.Dent entry.mode k (number_at 8 bytes) entry.name)
      (little_number-reads_back 4 entry.size (little_bytes 4 entry.mtime ++ rest) (omega (arith, words.2)))
      ∙ ap (λ k. answers.Dent entry.mode entry.size k entry.name) (little_number-reads_back 4 entry.mtime rest (omega (arith, words.3))))

  entry_means : (said : Said) (more : List ℕ)
      → means lists said (frame ++ more) ≡ means (record { kind = kinds.List; answers = past_answer s frame })
      (record said { entries = said.entries ++ entry ∷ [] }) more
  entry_means said more =
      means_frame lists said frame more entry_front
      ∙ ap (λ (answer : SyncAnswer). ended_or (next_of answer) (told_by said answer)
      (means (past_expected lists frame) (told_by said answer) more)) entry_read

-- the end of the list
end_means : (s : AnswerFormat) (said : Said) → s.list ≡ true
    → means (record { kind = kinds.List; answers = s }) said (answer_bytes answers.ListEnd) ≡ steps.Done said
end_means s said list =
    ap (λ (list : Bool). means (record { kind = kinds.List; answers = record { offset = s.offset; list = list } })
    said (answer_bytes answers.ListEnd)) list

listed : (s : AnswerFormat) (said : Said) (entries : List Dirent) → s.list ≡ true → AllByRecursion HasWords entries
    → means (record { kind = kinds.List; answers = s }) said (flat_map dent_bytes entries ++ answer_bytes answers.ListEnd)
    ≡ steps.Done (record said { entries = said.entries ++ entries })
listed s said [] list words =
    end_means s said list ∙ ap (λ (all : List Dirent). steps.Done (record said { entries = all }))
    (sym (append-nil said.entries))
listed s said (entry ∷ entries) list words =
    let first = dent_bytes entry in
    let last = answer_bytes answers.ListEnd in
    ap (means (record { kind = kinds.List; answers = s }) said) (append_assoc first (flat_map dent_bytes entries) last)
    ∙ (entry_means s entry words.0 said (flat_map dent_bytes entries ++ last)
    ∙ (listed (past_answer s first) (record said { entries = said.entries ++ entry ∷ [] }) entries list words.1
    ∙ ap (λ (all : List Dirent). steps.Done (record said { entries = all })) (append_assoc said.entries (entry ∷ []) entries)))

pub list_read : (entries : List Dirent) → AllByRecursion HasWords entries → list_value (list_bytes entries) ≡ steps.Done entries
list_read entries words = ap (step_map (λ (said : Said). said.entries)) (listed (answers_start true) told_nothing entries refl words)
