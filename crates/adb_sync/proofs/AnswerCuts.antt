-- A cut into answers is right, and what is right is the cut.
use Rattle.std.proofs.Common.{ℕ, ◌+◌, ◌*◌, ◌^◌, ◌≡◌, ◌≤◌, ◌<◌, cond, Bool, true, false, List, [], ◌∷◌, ◌++◌, length, take, drop, Option}
use Rattle.std.proofs.Common.{Some, None, Ok, refl, sym, ◌∙◌, ap, subst, arith}
use Rattle.std.specs.Prelude.{codes}
use Rattle.std.proofs.lemmas.List.{length-append, length-drop, take-append-drop, drop_all, drop-drop}
use Rattle.std.proofs.lemmas.List.Elements.{All-nil, All-cons, All-head, All-tail}
use Rattle.byteorder.specs.Endian.{little_bytes}
use Rattle.byteorder.specs.Numbers.{little_number-reads_back}
use Rattle.adb_outside.specs.declared.framer.Front.TheVariants.{Whole}
use Rattle.adb_outside.specs.Bytes.{AreBytes}
use Rattle.adb_outside.specs.Framing.{joined}
use Rattle.adb_outside.proofs.CutLaws.{bytes_after, frame_first, Frames, right_cut, only_cut}
use Rattle.adb_outside.proofs.Numbers.{number_again}
use Rattle.adb_sync.specs.declared.answer.SyncAnswer.{SyncAnswer}
use Rattle.adb_sync.specs.declared.answer.SyncAnswer.TheVariants as answers
use Rattle.adb_sync.specs.declared.answer_id.AnswerId.{AnswerId}
use Rattle.adb_sync.specs.declared.answer_id.AnswerId.TheVariants as ids
use Rattle.adb_sync.specs.declared.answer_format.AnswerFormat.{AnswerFormat}
use Rattle.adb_sync.specs.declared.error.SyncRule.TheVariants as rules
use Rattle.adb_sync.specs.declared.layout.Layout.{Layout}
use Rattle.adb_sync.specs.declared.layout.TheConstants.{MAX_CHUNK}
use Rattle.adb_sync.specs.Messages.{number_at, chunk_limit}
use Rattle.adb_sync.specs.Answers.{AnswerReading, answer_id_of, answer_layout, known_answer, answered_at, answer_front, answer_by}
use Rattle.adb_sync.specs.Answers.{answer_of_bytes, end_of, past_answer, answers_from, stat_bytes, answer_bytes, IsAnswer, HasAnswerWords}
use Rattle.adb_sync.specs.Answers.{EndsKind, IsIdAnd, IsSpelling, AreSpelled, SpellsAnswers, IsAnswerCut}
use Rattle.adb_sync.specs.Framed.{IsBehind, message_told, framed_message, answer_head, answer_heads, answers_are_framed}
use Rattle.adb_sync.proofs.Messages.{number_fits, counted_again, is_one, within, is_within, numbers_behind, text_behind}

-- the four letters of an id
abbrev pub letters : AnswerId → List ℕ
letters ids.Stat = codes "STAT"
letters ids.Dent = codes "DENT"
letters ids.Data = codes "DATA"
letters ids.Done = codes "DONE"
letters ids.Okay = codes "OKAY"
letters ids.Fail = codes "FAIL"

pub letters_id : (id : AnswerId) → answer_id_of (letters id) ≡ Some id
letters_id ids.Stat = refl
letters_id ids.Dent = refl
letters_id ids.Data = refl
letters_id ids.Done = refl
letters_id ids.Okay = refl
letters_id ids.Fail = refl

-- ---- an answer that is spelled
-- bytes that are read as an answer: a whole frame of it
abbrev IsReadAs : AnswerFormat → List ℕ → SyncAnswer → Type 0
IsReadAs from bytes answer = (answer_front from bytes ≡ Whole (length bytes)) × (answer_of_bytes from bytes ≡ answer)

read_as : (from : AnswerFormat) (id : AnswerId) (bytes : List ℕ) (answer : SyncAnswer) → take 4 bytes ≡ letters id
    → IsBehind (answer_layout from.list id) (drop 4 bytes)
    → answer_by from.list (Some id) (drop 4 bytes) ≡ answer → IsReadAs from bytes answer
read_as from id bytes answer begins behind is =
    let found : answer_id_of (take 4 bytes) ≡ Some id = ap answer_id_of begins ∙ letters_id id in (
      message_told (λ format. format.offset) answered_at from bytes (record {
        layout = answer_layout from.list id;
        id = omega (arith, behind.head, answer_head from.list id, length-drop 4 bytes);
        known = ap (known_answer from.list) found;
        behind = behind;
      }),
      ap (λ o. answer_by from.list o (drop 4 bytes)) found ∙ is,
    )

-- what three numbers make
abbrev of_numbers : (ℕ → ℕ → ℕ → SyncAnswer) → List ℕ → SyncAnswer
of_numbers make bytes = make (number_at 0 bytes) (number_at 4 bytes) (number_at 8 bytes)

-- three numbers are read again
numbers_again : (make : ℕ → ℕ → ℕ → SyncAnswer) (mode size mtime : ℕ) (rest : List ℕ) → (mode < 2 ^ 32) × (size < 2 ^ 32) × (mtime < 2 ^ 32)
    → of_numbers make (stat_bytes mode size mtime ++ rest) ≡ make mode size mtime
numbers_again make mode size mtime rest fits =
    let bytes = stat_bytes mode size mtime ++ rest in
    ap (λ k. make k (number_at 4 bytes) (number_at 8 bytes))
    (little_number-reads_back 4 mode (little_bytes 4 size ++ little_bytes 4 mtime ++ rest) (omega (arith, fits.0)))
    ∙ (ap (λ k. make mode k (number_at 8 bytes)) (little_number-reads_back 4 size (little_bytes 4 mtime ++ rest) (omega (arith, fits.1)))
    ∙ ap (make mode size) (little_number-reads_back 4 mtime rest (omega (arith, fits.2))))

-- a name behind its numbers
dent_behind : (list : Bool) (mode size mtime : ℕ) (name : List ℕ) → length name < 2 ^ 32
    → IsBehind (answer_layout list ids.Dent) (stat_bytes mode size mtime ++ little_bytes 4 (length name) ++ name)
dent_behind list mode size mtime name short =
    let count : number_at 12 (stat_bytes mode size mtime ++ little_bytes 4 (length name) ++ name) ≡ length name =
    little_number-reads_back 4 (length name) name (omega (arith, short)) in
    record { head = omega arith; number = refl; size = omega (arith, count); body = refl }

-- a DONE of either kind
end_read : (from : AnswerFormat) (list : Bool) (bytes : List ℕ) → from.list ≡ list → IsIdAnd (codes "DONE") (4 * cond list 4 1) bytes
    → IsReadAs from bytes (end_of list)
end_read from list bytes kind is = read_as from ids.Done bytes (end_of list) is.0
    (numbers_behind (cond from.list 4 1) (drop 4 bytes)
    (omega (arith, is.1, ap (λ (l : Bool). 4 * cond l 4 1) kind, length-drop 4 bytes))) (ap end_of kind)

spelled_read : (from : AnswerFormat) (answer : SyncAnswer) (bytes : List ℕ) → IsSpelling answer bytes
    → IsAnswer answer → HasAnswerWords answer
    → EndsKind from.list answer
    → IsReadAs from bytes answer
spelled_read from (answers.Stat mode size mtime) bytes is good words kind =
    subst (λ b. IsReadAs from b (answers.Stat mode size mtime)) (sym is)
    (read_as from ids.Stat (answer_bytes (answers.Stat mode size mtime)) (answers.Stat mode size mtime) refl
    (numbers_behind 3 (stat_bytes mode size mtime) refl) (numbers_again answers.Stat mode size mtime [] words))
spelled_read from (answers.Dent mode size mtime name) bytes is good words kind =
    subst (λ b. IsReadAs from b (answers.Dent mode size mtime name)) (sym is)
    (read_as from ids.Dent (answer_bytes (answers.Dent mode size mtime name)) (answers.Dent mode size mtime name) refl
    (dent_behind from.list mode size mtime name good)
    (numbers_again (λ a b c. answers.Dent a b c name) mode size mtime (little_bytes 4 (length name) ++ name) words))
spelled_read from (answers.Chunk chunk) bytes is good words kind = subst (λ b. IsReadAs from b (answers.Chunk chunk)) (sym is)
    (read_as from ids.Data (answer_bytes (answers.Chunk chunk)) (answers.Chunk chunk) refl
    (text_behind chunk_limit false chunk (omega (arith, good)) (within MAX_CHUNK (length chunk) rules.ChunkTooLong good) refl) refl)
spelled_read from (answers.Fail text) bytes is good words kind = subst (λ b. IsReadAs from b (answers.Fail text)) (sym is)
    (read_as from ids.Fail (answer_bytes (answers.Fail text)) (answers.Fail text) refl (text_behind None false text good refl refl) refl)
spelled_read from answers.Okay bytes is good words kind =
    read_as from ids.Okay bytes answers.Okay is.0 (numbers_behind 1 (drop 4 bytes) (omega (arith, is.1, length-drop 4 bytes))) refl
spelled_read from answers.ListEnd bytes is good words kind = end_read from true bytes kind is
spelled_read from answers.ChunkEnd bytes is good words kind = end_read from false bytes kind is

-- what is written of an answer spells it
spells_itself : (answer : SyncAnswer) → IsSpelling answer (answer_bytes answer)
spells_itself (answers.Stat mode size mtime) = refl
spells_itself (answers.Dent mode size mtime name) = refl
spells_itself answers.ListEnd = (refl, refl)
spells_itself (answers.Chunk bytes) = refl
spells_itself answers.ChunkEnd = (refl, refl)
spells_itself answers.Okay = (refl, refl)
spells_itself (answers.Fail text) = refl

pub answer_again : (from : AnswerFormat) (answer : SyncAnswer) (more : List ℕ) → IsAnswer answer
    → HasAnswerWords answer → EndsKind from.list answer
    → answers_from from (answer_bytes answer ++ more) ≡ joined (answer ∷ []) (answers_from (past_answer from (answer_bytes answer)) more)
answer_again from answer more good words kind =
    let read = spelled_read from answer (answer_bytes answer) (spells_itself answer) good words kind in
    frame_first answer_front answer_of_bytes past_answer answers_are_framed from (answer_bytes answer) more read.0
    ∙ ap (λ a. joined (a ∷ []) (answers_from (past_answer from (answer_bytes answer)) more)) read.1

-- ---- an answer that is read
-- an id is its letters
id_again : (bytes : List ℕ) (id : AnswerId) → answer_id_of bytes ≡ Some id → bytes ≡ letters id
id_again bytes id =
    is_one letters bytes ids.Stat id _
    (is_one letters bytes ids.Dent id _
    (is_one letters bytes ids.Data id _
    (is_one letters bytes ids.Done id _
    (is_one letters bytes ids.Okay id _
    (is_one letters bytes ids.Fail id None (λ e. let clash : ◌≡◌ {A = Option AnswerId} None (Some id) = e in absurd cc))))))

-- only an id is known
known_here : (list : Bool) (found : Option AnswerId) (layout : Layout) → known_answer list found ≡ Ok layout
    → (id : AnswerId) × (found ≡ Some id) × (answer_layout list id ≡ layout)
known_here list None layout e = absurd (cc)
known_here list (Some id) layout e = (id, refl, (cc))

-- the number at a place, and the bytes behind it
next_word : (i : ℕ) (bytes : List ℕ) → AreBytes bytes → i + 4 ≤ length bytes
    → little_bytes 4 (number_at i bytes) ++ drop (i + 4) bytes ≡ drop i bytes
next_word i bytes are h =
    ap (λ more. little_bytes 4 (number_at i bytes) ++ more) (sym (drop-drop 4 i bytes))
    ∙ number_again (drop i bytes) (bytes_after i bytes are) (omega (arith, h, length-drop i bytes))

-- three numbers, and the bytes behind them
stat_again : (bytes : List ℕ) → AreBytes bytes → 12 ≤ length bytes
    → stat_bytes (number_at 0 bytes) (number_at 4 bytes) (number_at 8 bytes) ++ drop 12 bytes ≡ bytes
stat_again bytes are h =
    ap (λ more. little_bytes 4 (number_at 0 bytes) ++ little_bytes 4 (number_at 4 bytes) ++ more) (next_word 8 bytes are (omega (arith, h)))
    ∙ (ap (λ more. little_bytes 4 (number_at 0 bytes) ++ more) (next_word 4 bytes are (omega (arith, h)))
    ∙ next_word 0 bytes are (omega (arith, h)))

-- the answer of some bytes is spelled by them, may be written and can be read here
record IsSpelledAnswer (from : AnswerFormat) (bytes : List ℕ) (answer : SyncAnswer) : Type 0 where
  again : IsSpelling answer bytes
  good : IsAnswer answer
  words : HasAnswerWords answer
  kind : EndsKind from.list answer

-- a DONE of either kind
end_spelled : (from : AnswerFormat) (list : Bool) (rest : List ℕ) → from.list ≡ list → length rest ≡ 4 * cond list 4 1
    → IsSpelledAnswer from (codes "DONE" ++ rest) (end_of list)
end_spelled from true rest kind len = record { again = (refl, omega (arith, len)); good = tt; words = tt; kind = kind }
end_spelled from false rest kind len = record { again = (refl, omega (arith, len)); good = tt; words = tt; kind = kind }

-- what an id and the bytes behind it spell
spelled_by : (from : AnswerFormat) (id : AnswerId) (rest : List ℕ) → AreBytes rest → IsBehind (answer_layout from.list id) rest
    → IsSpelledAnswer from (letters id ++ rest) (answer_of_bytes from (letters id ++ rest))
spelled_by from ids.Stat rest are m =
    let spelled = stat_bytes (number_at 0 rest) (number_at 4 rest) (number_at 8 rest) in
    record {
      again =
          ap (λ r. codes "STAT" ++ r) (sym (stat_again rest are (omega (arith, m.size))))
          ∙ ap (λ r. codes "STAT" ++ spelled ++ r) (drop_all 12 rest (omega (arith, m.size)));
      good = tt;
      words = (number_fits 0 rest are, number_fits 4 rest are, number_fits 8 rest are);
      kind = tt;
    }
spelled_by from ids.Dent rest are m =
    let spelled = stat_bytes (number_at 0 rest) (number_at 4 rest) (number_at 8 rest) in
    let long : 16 ≤ length rest = m.head in
    let count : length (drop 16 rest) ≡ number_at 12 rest = omega (arith, m.size, length-drop 16 rest) in
    record {
      again =
          ap (λ r. codes "DENT" ++ r) (sym (stat_again rest are (omega (arith, long))))
          ∙ (ap (λ r. codes "DENT" ++ spelled ++ r) (sym (next_word 12 rest are (omega (arith, long))))
          ∙ ap (λ (n : ℕ). codes "DENT" ++ spelled ++ little_bytes 4 n ++ drop 16 rest) (sym count));
      good = omega (arith, count, number_fits 12 rest are);
      words = (number_fits 0 rest are, number_fits 4 rest are, number_fits 8 rest are);
      kind = tt;
    }
spelled_by from ids.Data rest are m = record {
  again = ap (λ r. codes "DATA" ++ r) (sym (counted_again rest are m.size));
  good = omega (arith, m.size, length-drop 4 rest, is_within MAX_CHUNK (number_at 0 rest) rules.ChunkTooLong m.number);
  words = tt;
  kind = tt;
}
spelled_by from ids.Done rest are m = end_spelled from from.list rest refl (omega (arith, m.size))
spelled_by from ids.Okay rest are m = record { again = (refl, omega (arith, m.size)); good = tt; words = tt; kind = tt }
spelled_by from ids.Fail rest are m = record {
  again = ap (λ r. codes "FAIL" ++ r) (sym (counted_again rest are m.size));
  good = omega (arith, m.size, length-drop 4 rest, number_fits 0 rest are);
  words = tt;
  kind = tt;
}

-- a frame is spelled by its bytes
read_answer : (from : AnswerFormat) (bytes : List ℕ) → AreBytes bytes → answer_front from bytes ≡ Whole (length bytes)
    → IsSpelledAnswer from bytes (answer_of_bytes from bytes)
read_answer from bytes are e =
    let m = framed_message (λ format. format.offset) answered_at answer_heads from bytes e in
    let known = known_here from.list (answer_id_of (take 4 bytes)) m.layout m.known in
    let id = known.0 in
    let rest = drop 4 bytes in
    let whole : letters id ++ rest ≡ bytes = ap (λ begin. begin ++ rest) (sym (id_again (take 4 bytes) id known.1))
    ∙ take-append-drop 4 bytes in
    let behind = subst (λ (l : Layout). IsBehind l rest) (sym known.2) m.behind in
    subst (λ (b : List ℕ). IsSpelledAnswer from b (answer_of_bytes from b)) whole (spelled_by from id rest (bytes_after 4 bytes are) behind)

-- ---- cuts
-- what is spelled is not longer than the bytes
answers_within : (given : List SyncAnswer) (rest bytes : List ℕ) → AreSpelled given rest bytes → length rest ≤ length bytes
answers_within [] rest bytes whole = omega (arith, ap (length {A = ℕ}) whole)
answers_within (answer ∷ given) rest bytes whole =
    omega (arith, answers_within given rest whole.1 whole.4, ap (length {A = ℕ}) whole.2, length-append whole.0 whole.1)

-- an answer before others
answer_before : (from : AnswerFormat) (frame more : List ℕ) (c : AnswerReading)
    → answer_front from frame ≡ Whole (length frame) → AreBytes frame
    → SpellsAnswers (past_answer from frame) more c.given c.reading c.rest
    → SpellsAnswers from (frame ++ more) (answer_of_bytes from frame ∷ c.given) c.reading c.rest
answer_before from frame more c found are others =
    let answer = answer_of_bytes from frame in
    let spelled = read_answer from frame are found in
    record {
      whole = (frame, more, refl, spelled.again, others.whole);
      each = All-cons IsAnswer answer c.given spelled.good others.each;
      words = All-cons HasAnswerWords answer c.given spelled.words others.words;
      kinds = All-cons (EndsKind from.list) answer c.given spelled.kind others.kinds;
      list = others.list;
    }

answers_spelled : Frames answer_front answer_of_bytes past_answer answers_are_framed (λ format. format.offset) SpellsAnswers
answers_spelled = record {
  moves = λ s frame. refl;
  within = λ s bytes c is. answers_within c.given c.rest bytes is.whole;
  none = λ s bytes.
      record {
        whole = refl;
        each = All-nil IsAnswer;
        words = All-nil HasAnswerWords;
        kinds =
            All-nil (EndsKind s.list);
        list = refl;
      };
  one = answer_before;
  all_left = λ s bytes c none is. sym (subst (λ given. AreSpelled given c.rest bytes) none is.whole);
  reads_on = λ s bytes c none is same.
      ap (λ (k : ℕ). record { offset = k; list = c.reading.list }) same ∙ ap (λ (l : Bool). record { offset = s.offset; list = l }) is.list;
  begins = λ s bytes answer c is.
      let good = All-head IsAnswer answer c.given is.each in
      let words = All-head HasAnswerWords answer c.given is.words in
      let read = spelled_read s answer is.whole.0 is.whole.3 good words (All-head (EndsKind s.list) answer c.given is.kinds) in
      record {
        frame = is.whole.0;
        more = is.whole.1;
        whole = is.whole.2;
        found = read.0;
        holds = read.1;
        behind = record {
          whole = is.whole.4;
          each = All-tail IsAnswer answer c.given is.each;
          words = All-tail HasAnswerWords answer c.given is.words;
          kinds = All-tail (EndsKind s.list) answer c.given is.kinds;
          list = is.list;
        };
      };
}

pub answer_cut_right : (from : AnswerFormat) (bytes : List ℕ) → from.offset < 2 ^ 64 → AreBytes bytes
    → IsAnswerCut from bytes (answers_from from bytes)
answer_cut_right = right_cut answer_front answer_of_bytes past_answer answers_are_framed (λ format. format.offset)
    SpellsAnswers answers_spelled

pub answer_cut_only : (from : AnswerFormat) (bytes : List ℕ) (c : AnswerReading) → from.offset < 2 ^ 64 → IsAnswerCut from bytes c
    → c ≡ answers_from from bytes
answer_cut_only = only_cut answer_front answer_of_bytes past_answer answers_are_framed (λ format. format.offset)
    SpellsAnswers answers_spelled
