-- Services that run through calls: what one more call leaves of each.
use Rattle.std.specs.Prelude.{ℕ, ◌≡◌, ◌≢◌, ◌==◌, ◌||◌, Bool, true, false, cond, suc, List, [], ◌∷◌, ◌++◌, length, map, take, Option, Some}
use Rattle.std.specs.Prelude.{None}
use Rattle.adb_outside.specs.Bytes.{IsPrefixOf}
use Rattle.std.proofs.Common.{refl, sym, ◌∙◌, ap, append_assoc}
use Rattle.std.specs.List.{AllByRecursion}
use Rattle.std.proofs.lemmas.Bool.{eq-eqb, ne_eqb}
use Rattle.std.proofs.lemmas.List.{append-nil}
use Rattle.std.proofs.lemmas.List.Folds.{list_any-append}
use Rattle.adb_files.specs.declared.file.File.{File}
use Rattle.adb_files.specs.declared.file.FileError.{FileError}
use Rattle.adb_files.specs.Entries.{Entry}
use Rattle.adb_files.specs.declared.file.FileError.TheVariants.{BadPath}
use Rattle.adb_files.specs.Files.{put_refusal, refusal_text}
use Rattle.adb_files.specs.Paths.{is_path}
use Rattle.adb_files.specs.Requests.{Request, Stats, Lists, Receives, Sends, Quits, Fails, requests_in}
use Rattle.adb_files.specs.Served.{Served, send_by, send_moded, sent_file, serve_all, serve_one, stored_mode, then_served, answered}
use Rattle.adb_files.specs.Served.{fail_bytes}
use Rattle.adb_shell_service.specs.Service.{Answer, shell_answer}
use Rattle.adb_shell_service.proofs.Answering.{ended_stays}
use Rattle.adb_device_streams.specs.Asked.{Kind, Echoes, Syncs, Shells}
use Rattle.adb_device_streams.specs.Service.{Came, bytes_in, came_over, completed_by, files_fed, files_opened, served_by, service_answer}
use Rattle.adb_device_streams.specs.Service.{sync_answer, sync_files}
use Rattle.adb_laws_alone.proofs.ConsecutivePayloads.{completes, further}
use Rattle.adb_laws_alone.specs.Calls.{AreFirst, Ask, Call, Runs, Serves, answer_if, answer_in, answer_over, answers_of, ask_if, asks_in}
use Rattle.adb_laws_alone.specs.Calls.{asks_of, call_of}
use Rattle.adb_laws_alone.specs.Calls.{files_after, files_past, found_by, has_last, is_last, up_to_last}
use Rattle.adb_laws_alone.specs.Together.{AnswersThrough, RanThrough}

-- ---- calls behind calls
pub files_both : (files : List Entry) (xs ys : List Call) → files_after files (xs ++ ys) ≡ files_after (files_after files xs) ys
files_both files [] ys = refl
files_both files (x ∷ xs) ys = files_both (files_past files x.ask) xs ys

pub asks_both : (l : ℕ) (xs ys : List Call) → asks_of l (xs ++ ys) ≡ asks_of l xs ++ asks_of l ys
asks_both l [] ys = refl
asks_both l (x ∷ xs) ys =
    ap (λ (asks : List Ask). ask_if l x ++ asks) (asks_both l xs ys) ∙ sym (append_assoc (ask_if l x) (asks_of l xs) (asks_of l ys))

answers_both : (l : ℕ) (files : List Entry) (xs ys : List Call)
    → answers_of l files (xs ++ ys) ≡ answers_of l files xs ++ answers_of l (files_after files xs) ys
answers_both l files [] ys = refl
answers_both l files (x ∷ xs) ys =
    let next = files_past files x.ask in
    ap (λ (bytes : List ℕ). answer_if l files x ++ bytes) (answers_both l next xs ys)
    ∙ sym (append_assoc (answer_if l files x) (answers_of l next xs) (answers_of l (files_after next xs) ys))

-- where a stream asks for something already, its first call stays the first
found_both : (l : ℕ) (files : List Entry) (xs ys : List Call) → asks_of l xs ≢ [] → found_by l files (xs ++ ys) ≡ found_by l files xs
found_both l files [] ys some = absurd (some refl)
found_both l files (x ∷ xs) ys some = go (x.caller == l) refl (found_both l (files_past files x.ask) xs ys)
  where
    next : List Entry
    next = files_past files x.ask

    go : (t : Bool) → (x.caller == l) ≡ t → (asks_of l xs ≢ [] → found_by l next (xs ++ ys) ≡ found_by l next xs)
        → cond t files (found_by l next (xs ++ ys)) ≡ cond t files (found_by l next xs)
    go true is more = refl
    go false is more = more (λ none. some (ap (λ (t : Bool). cond t (x.ask ∷ []) [] ++ asks_of l xs) is ∙ none))

-- where it does not, its first call is among those behind, and it was answered nothing
no_asks : (t : Bool) (ask : Ask) (more : List Ask) → cond t (ask ∷ []) [] ++ more ≡ [] → (t ≡ false) × (more ≡ [])
no_asks true ask more none = absurd (let clash : ask ∷ more ≡ [] = none in cc)
no_asks false ask more none = (refl, none)

found_none : (l : ℕ) (files : List Entry) (xs ys : List Call) → asks_of l xs ≡ []
    → found_by l files (xs ++ ys) ≡ found_by l (files_after files xs) ys
found_none l files [] ys none = refl
found_none l files (x ∷ xs) ys none =
    let both = no_asks (x.caller == l) x.ask (asks_of l xs) none in
    let next = files_past files x.ask in
    ap (λ (t : Bool). cond t files (found_by l next (xs ++ ys))) both.0 ∙ found_none l next xs ys both.1

answers_none : (l : ℕ) (files : List Entry) (xs : List Call) → asks_of l xs ≡ [] → answers_of l files xs ≡ []
answers_none l files [] none = refl
answers_none l files (x ∷ xs) none =
    let both = no_asks (x.caller == l) x.ask (asks_of l xs) none in
    let next = files_past files x.ask in
    ap (λ (t : Bool). cond t (answer_over files x.ask) [] ++ answers_of l next xs) both.0 ∙ answers_none l next xs both.1

-- ---- the calls of one stream
abbrev pub calls_of : ℕ → List Ask → List Call
calls_of l asks = map (call_of l) asks

pub asks_own : (l : ℕ) (asks : List Ask) → asks_of l (calls_of l asks) ≡ asks
asks_own l [] = refl
asks_own l (ask ∷ asks) =
    ap (λ (t : Bool). cond t (ask ∷ []) [] ++ asks_of l (calls_of l asks)) (eq-eqb l l refl)
    ∙ ap (λ (more : List Ask). ask ∷ more) (asks_own l asks)

pub asks_other : (l m : ℕ) (asks : List Ask) → l ≢ m → asks_of m (calls_of l asks) ≡ []
asks_other l m [] other = refl
asks_other l m (ask ∷ asks) other =
    ap (λ (t : Bool). cond t (ask ∷ []) [] ++ asks_of m (calls_of l asks)) (ne_eqb l m other) ∙ asks_other l m asks other

-- ---- sync requests
send_goes_on : (files : List Entry) (path : List ℕ) (file : File) (o : Option FileError) → (send_by files path file o).ended ≡ false
send_goes_on files path file None = refl
send_goes_on files path file (Some refusal) = refl

moded_goes_on : (files : List Entry) (path bytes : List ℕ) (mtime : ℕ) (o : Option ℕ) → (send_moded files path bytes mtime o).ended ≡ false
moded_goes_on files path bytes mtime None = refl
moded_goes_on files path bytes mtime (Some mode) = send_goes_on files path (sent_file mode mtime bytes)
    (put_refusal files path (length bytes))

pub last_ends : (files : List Entry) (request : Request) → (serve_one files request).ended ≡ is_last request
last_ends files (Stats path) = refl
last_ends files (Lists path) = refl
last_ends files (Receives path) = refl
last_ends files (Sends path mode bytes mtime) = go (is_path path)
  where
    go : (t : Bool)
        → (cond t (send_moded files path bytes mtime (stored_mode mode))
        (answered files (fail_bytes (refusal_text BadPath)))).ended ≡ false
    go true = moded_goes_on files path bytes mtime (stored_mode mode)
    go false = refl
last_ends files Quits = refl
last_ends files (Fails fault) = refl

abbrev pub asks_for : List Request → List Ask
asks_for requests = map Serves (up_to_last requests)

-- what is served, by whether the first request ends the service
module _ (one : Served) (more : List Entry → Served) where
  over : one.ended ≡ true → then_served one more ≡ one
  over is =
      ap (λ (t : Bool). cond t one (record {
        files = (more one.files).files;
        answer = one.answer ++ (more one.files).answer;
        ended = (more one.files).ended;
      })) is

  on : one.ended ≡ false
      → then_served one more
      ≡ record {
        files = (more one.files).files;
        answer = one.answer ++ (more one.files).answer;
        ended = (more one.files).ended;
      }
  on is =
      ap (λ (t : Bool). cond t one (record {
        files = (more one.files).files;
        answer = one.answer ++ (more one.files).answer;
        ended = (more one.files).ended;
      })) is

-- Requests that are served one behind the other are calls.
pub record AreCalls (l : ℕ) (files : List Entry) (requests : List Request) : Type 0 where
  pub left : files_after files (calls_of l (asks_for requests)) ≡ (serve_all files requests).files
  pub answer : answers_of l files (calls_of l (asks_for requests)) ≡ (serve_all files requests).answer
  pub ended : (serve_all files requests).ended ≡ has_last requests

pub are_calls : (l : ℕ) (files : List Entry) (requests : List Request) → AreCalls l files requests
are_calls l files [] = record { left = refl; answer = refl; ended = refl }
are_calls l files (request ∷ more) =
    let rest = are_calls l (serve_one files request).files more in
    record {
      left = left rest (is_last request) (last_ends files request);
      answer = answer rest (is_last request) (last_ends files request);
      ended = ended rest (is_last request) (last_ends files request);
    }
  where
    one : Served
    one = serve_one files request

    later : List Entry → Served
    later left = serve_all left more

    behind : Bool → List Call
    behind t = calls_of l (map Serves (cond t [] (up_to_last more)))

    left : AreCalls l one.files more → (t : Bool) → one.ended ≡ t → files_after one.files (behind t) ≡ (then_served one later).files
    left rest true is = ap (λ (s : Served). s.files) (sym (over one later is))
    left rest false is = rest.left ∙ ap (λ (s : Served). s.files) (sym (on one later is))

    own : (bytes : List ℕ) → cond (l == l) one.answer [] ++ bytes ≡ one.answer ++ bytes
    own bytes = ap (λ (t : Bool). cond t one.answer [] ++ bytes) (eq-eqb l l refl)

    answer : AreCalls l one.files more → (t : Bool) → one.ended ≡ t → cond (l == l) one.answer [] ++ answers_of l one.files (behind t) ≡
        (then_served one later).answer
    answer rest true is = own [] ∙ (append-nil one.answer ∙ ap (λ (s : Served). s.answer) (sym (over one later is)))
    answer rest false is =
        own (answers_of l one.files (behind false))
        ∙ (ap (λ (bytes : List ℕ). one.answer ++ bytes) rest.answer ∙ ap (λ (s : Served). s.answer) (sym (on one later is)))

    ended : AreCalls l one.files more → (t : Bool) → one.ended ≡ t → (then_served one later).ended ≡ (t || has_last more)
    ended rest true is = ap (λ (s : Served). s.ended) (over one later is) ∙ is
    ended rest false is = ap (λ (s : Served). s.ended) (on one later is) ∙ rest.ended

-- requests behind others
pub up_both : (xs ys : List Request) → up_to_last (xs ++ ys) ≡ up_to_last xs ++ cond (has_last xs) [] (up_to_last ys)
up_both [] ys = refl
up_both (x ∷ xs) ys = ap (λ (rs : List Request). x ∷ rs) (go (is_last x) (up_both xs ys))
  where
    go : (t : Bool) → up_to_last (xs ++ ys) ≡ up_to_last xs ++ cond (has_last xs) [] (up_to_last ys)
        → cond t [] (up_to_last (xs ++ ys)) ≡ cond t [] (up_to_last xs) ++ cond (t || has_last xs) [] (up_to_last ys)
    go true rest = refl
    go false rest = rest

pub map_both : (xs ys : List Request) → map Serves (xs ++ ys) ≡ map Serves xs ++ map Serves ys
map_both [] ys = refl
map_both (x ∷ xs) ys = ap (λ (asks : List Ask). Serves x ∷ asks) (map_both xs ys)

pub whole : (before piece : List ℕ) → requests_in (before ++ piece) ≡ requests_in before ++ completed_by before piece
whole before piece =
    let f = further before piece in
    f.is ∙ ap (λ (rs : List Request). requests_in before ++ rs) (sym (completes before piece f))

-- ---- what one more call leaves of a service
-- of another stream
answers_stay : (first : List Entry) (calls new : List Call) (g : ℕ) (kind : Kind) (opened : List Entry)
    (past : List Came) → asks_of g new ≡ []
    → asks_of g calls ≡ asks_in kind (bytes_in past) → AnswersThrough kind first calls g opened past
    → AnswersThrough kind first (calls ++ new) g opened past
answers_stay first calls new g Echoes opened past none asks answers = tt
answers_stay first calls new g Syncs opened past none asks answers = (
  answers.0
      ∙ sym (answers_both g first calls new
      ∙ (ap (λ (bytes : List ℕ). answers_of g first calls ++ bytes) (answers_none g (files_after first calls) new none)
      ∙ append-nil (answers_of g first calls))),
  answers.1,
)
answers_stay first calls new g (Shells packets command) opened past none asks answers =
    answers ∙ sym (found_both g first calls new (λ empty. let clash : Runs command ∷ [] ≡ [] = sym asks ∙ empty in cc))

pub stays_through : (first : List Entry) (calls new : List Call) (g : ℕ) (kind : Kind) (opened : List Entry)
    (past : List Came) → asks_of g new ≡ []
    → RanThrough first calls g kind opened past → RanThrough first (calls ++ new) g kind opened past
stays_through first calls new g kind opened past none ran = record {
  asks = asks_both g calls new
      ∙ (ap (λ (asks : List Ask). asks_of g calls ++ asks) none ∙ (append-nil (asks_of g calls) ∙ ran.asks));
  answers = answers_stay first calls new g kind opened past none ran.asks ran.answers;
}

-- a stream is opened, over the files that stand
abbrev pub asks_opened : Kind → List Ask
asks_opened Echoes = []
asks_opened Syncs = []
asks_opened (Shells packets command) = Runs command ∷ []

pub files_opened_through : (first : List Entry) (calls : List Call) (l : ℕ) (kind : Kind)
    → files_opened kind (files_after first calls) ≡ files_after first (calls ++ calls_of l (asks_opened kind))
files_opened_through first calls l Echoes = sym (files_both first calls [])
files_opened_through first calls l Syncs = sym (files_both first calls [])
files_opened_through first calls l (Shells packets command) = sym (files_both first calls (calls_of l (Runs command ∷ [])))

pub at_first : (kind : Kind) → asks_opened kind ≡ asks_in kind []
at_first Echoes = refl
at_first Syncs = refl
at_first (Shells packets command) = refl

answers_opened : (first : List Entry) (calls : List Call) (l : ℕ) (kind : Kind) → asks_of l calls ≡ []
    → AnswersThrough kind first (calls ++ calls_of l (asks_opened kind)) l (files_after first calls) []
answers_opened first calls l Echoes none = tt
answers_opened first calls l Syncs none =
    (sym (ap (answers_of l first) (append-nil calls) ∙ answers_none l first calls none), refl)
answers_opened first calls l (Shells packets command) none =
    sym (found_none l first calls (calls_of l (Runs command ∷ [])) none
    ∙ ap (λ (t : Bool). cond t (files_after first calls)
    (found_by l (files_past (files_after first calls) (Runs command)) [])) (eq-eqb l l refl))

pub opens_through : (first : List Entry) (calls : List Call) (l : ℕ) (kind : Kind) → asks_of l calls ≡ []
    → RanThrough first (calls ++ calls_of l (asks_opened kind)) l kind (files_after first calls) []
opens_through first calls l kind none = record {
  asks = asks_both l calls (calls_of l (asks_opened kind))
      ∙ (ap (λ (asks : List Ask). asks ++ asks_of l (calls_of l (asks_opened kind))) none
      ∙ (asks_own l (asks_opened kind) ∙ at_first kind));
  answers = answers_opened first calls l kind none;
}

-- a payload comes to it
abbrev pub asks_fed : Kind → List Came → List ℕ → List Ask
asks_fed Echoes past piece = []
asks_fed Syncs past piece = map Serves (cond (sync_answer past).ended [] (up_to_last (completed_by (bytes_in past) piece)))
asks_fed (Shells packets command) past piece = []

pub files_fed_through : (first : List Entry) (calls : List Call) (l : ℕ) (kind : Kind) (past : List Came) (piece : List ℕ)
    → files_fed kind past (came_over piece (files_after first calls)) ≡ files_after first (calls ++ calls_of l (asks_fed kind past piece))
files_fed_through first calls l Echoes past piece = sym (files_both first calls [])
files_fed_through first calls l (Shells packets command) past piece = sym (files_both first calls [])
files_fed_through first calls l Syncs past piece =
    go (sync_answer past).ended ∙ sym (files_both first calls (calls_of l (asks_fed Syncs past piece)))
  where
    files : List Entry
    files = files_after first calls

    go : (t : Bool) → sync_files t files (served_by past (came_over piece files))
        ≡ files_after files (calls_of l (map Serves (cond t [] (up_to_last (completed_by (bytes_in past) piece)))))
    go true = refl
    go false = sym (are_calls l files (completed_by (bytes_in past) piece)).left

-- what a sync service answers with it, and whether it has ended then
sync_fed : (first : List Entry) (calls : List Call) (l : ℕ) (past : List Came) (piece : List ℕ)
    → (sync_answer past).bytes ≡ answers_of l first calls → (sync_answer past).ended ≡ has_last (requests_in (bytes_in past))
    → AnswersThrough Syncs first (calls ++ calls_of l (asks_fed Syncs past piece)) l [] (came_over piece (files_after first calls) ∷ past)
sync_fed first calls l past piece bytes ended = (
  answer (sync_answer past).ended ∙ sym (answers_both l first calls (calls_of l (asks_fed Syncs past piece))),
  last (sync_answer past).ended refl ∙ sym more,
)
  where
    files : List Entry
    files = files_after first calls

    rs : List Request
    rs = completed_by (bytes_in past) piece

    are : AreCalls l files rs
    are = are_calls l files rs

    a : Answer
    a = sync_answer past

    answer : (t : Bool) → (cond t a (record { bytes = a.bytes ++ (serve_all files rs).answer; ended = (serve_all files rs).ended })).bytes
        ≡ answers_of l first calls ++ answers_of l files (calls_of l (map Serves (cond t [] (up_to_last rs))))
    answer true = bytes ∙ sym (append-nil (answers_of l first calls))
    answer false =
        ap (λ (bs : List ℕ). bs ++ (serve_all files rs).answer) bytes
        ∙ ap (λ (bs : List ℕ). answers_of l first calls ++ bs) (sym are.answer)

    more : has_last (requests_in (bytes_in past ++ piece)) ≡ (a.ended || has_last rs)
    more =
        ap has_last (whole (bytes_in past) piece)
        ∙ (list_any-append is_last (requests_in (bytes_in past)) rs ∙ ap (λ (t : Bool). t || has_last rs) (sym ended))

    last : (t : Bool) → a.ended ≡ t
        → (cond t a (record
        { bytes = a.bytes ++ (serve_all files rs).answer; ended = (serve_all files rs).ended })).ended
        ≡ (t || has_last rs)
    last true is = is
    last false is = are.ended

answers_fed : (first : List Entry) (calls : List Call) (l : ℕ) (kind : Kind) (opened : List Entry) (past : List Came) (piece : List ℕ)
    → AnswersThrough kind first calls l opened past
    → AnswersThrough kind first (calls ++ calls_of l (asks_fed kind past piece)) l opened (came_over piece (files_after first calls) ∷ past)
answers_fed first calls l Echoes opened past piece answers = tt
answers_fed first calls l Syncs opened past piece answers = sync_fed first calls l past piece answers.0 answers.1
answers_fed first calls l (Shells packets command) opened past piece answers = answers ∙ sym (ap (found_by l first) (append-nil calls))

pub asks_joined : (kind : Kind) (past : List Came) (piece : List ℕ) (first opened : List Entry) (calls : List Call) (l : ℕ)
    → AnswersThrough kind first calls l opened past
    → asks_in kind (bytes_in past) ++ asks_fed kind past piece ≡ asks_in kind (bytes_in past ++ piece)
asks_joined Echoes past piece first opened calls l answers = refl
asks_joined (Shells packets command) past piece first opened calls l answers = refl
asks_joined Syncs past piece first opened calls l answers =
    let before = requests_in (bytes_in past) in
    let rs = completed_by (bytes_in past) piece in
    ap (λ (t : Bool). map Serves (up_to_last before) ++ map Serves (cond t [] (up_to_last rs))) answers.1
    ∙ (sym (map_both (up_to_last before) (cond (has_last before) [] (up_to_last rs)))
    ∙ ap (map Serves) (sym (ap up_to_last (whole (bytes_in past) piece) ∙ up_both before rs)))

pub feeds_through : (first : List Entry) (calls : List Call) (l : ℕ) (kind : Kind) (opened : List Entry) (past : List Came) (piece : List ℕ)
    → RanThrough first calls l kind opened past
    → RanThrough first (calls ++ calls_of l (asks_fed kind past piece)) l kind opened (came_over piece (files_after first calls) ∷ past)
feeds_through first calls l kind opened past piece ran = record {
  asks = asks_both l calls (calls_of l (asks_fed kind past piece))
      ∙ (ap (λ (asks : List Ask). asks ++ asks_of l (calls_of l (asks_fed kind past piece))) ran.asks
      ∙ (ap (λ (asks : List Ask). asks_in kind (bytes_in past) ++ asks) (asks_own l (asks_fed kind past piece))
      ∙ asks_joined kind past piece first opened calls l ran.answers));
  answers = answers_fed first calls l kind opened past piece ran.answers;
}

-- ---- the whole text of a service
last_stays : (xs ys : List Request) → has_last xs ≡ true → up_to_last (xs ++ ys) ≡ up_to_last xs
last_stays xs ys last =
    up_both xs ys
    ∙ (ap (λ (t : Bool). up_to_last xs ++ cond t [] (up_to_last ys)) last ∙ append-nil (up_to_last xs))

-- what a service asks for whose text goes on behind what ended it
pub asks_enough : (kind : Kind) (first opened : List Entry) (calls : List Call) (l : ℕ) (past : List Came) (more : List ℕ)
    → AnswersThrough kind first calls l opened past → (service_answer kind opened past).ended ≡ true
    → asks_in kind (bytes_in past ++ more) ≡ asks_in kind (bytes_in past)
asks_enough Echoes first opened calls l past more answers ended = absurd (let clash : false ≡ true = ended in cc)
asks_enough (Shells packets command) first opened calls l past more answers ended = refl
asks_enough Syncs first opened calls l past more answers ended =
    ap (map Serves) (ap up_to_last (whole (bytes_in past) more)
    ∙ last_stays (requests_in (bytes_in past)) (completed_by (bytes_in past) more) (sym answers.1 ∙ ended))

-- its answer, and the same where its text goes on
pub answer_through : (kind : Kind) (first opened : List Entry) (calls : List Call) (l : ℕ) (past : List Came)
    → AnswersThrough kind first calls l opened past → (service_answer kind opened past).bytes ≡ answer_in l kind (bytes_in past) first calls
answer_through Echoes first opened calls l past answers = refl
answer_through Syncs first opened calls l past answers = answers.0
answer_through (Shells packets command) first opened calls l past answers =
    ap (λ (fs : List Entry). (shell_answer (record { packets = packets; command = command; files = fs }) (bytes_in past)).bytes) answers

pub answer_enough : (kind : Kind) (first opened : List Entry) (calls : List Call) (l : ℕ) (past : List Came) (more : List ℕ)
    → AnswersThrough kind first calls l opened past → (service_answer kind opened past).ended ≡ true
    → (service_answer kind opened past).bytes ≡ answer_in l kind (bytes_in past ++ more) first calls
answer_enough Echoes first opened calls l past more answers ended = absurd (let clash : false ≡ true = ended in cc)
answer_enough Syncs first opened calls l past more answers ended = answers.0
answer_enough (Shells packets command) first opened calls l past more answers ended =
    sym (ap (λ (a : Answer). a.bytes)
    (ended_stays (record { packets = packets; command = command; files = opened }) (bytes_in past) more ended))
    ∙ ap (λ (fs : List Entry).
    (shell_answer (record { packets = packets; command = command; files = fs }) (bytes_in past ++ more)).bytes)
    answers

-- ---- calls by other names
abbrev pub renamed : (ℕ → ℕ) → List Call → List Call
renamed name calls = map (λ (call : Call). call_of (name call.caller) call.ask) calls

-- a call is named so where it is one of a stream, and else not
abbrev pub IsNamed : (ℕ → ℕ) → (n l : ℕ) → Call → Type 0
IsNamed name n l call = (name call.caller == n) ≡ (call.caller == l)

pub files_renamed : (name : ℕ → ℕ) (files : List Entry) (calls : List Call)
    → files_after files (renamed name calls) ≡ files_after files calls
files_renamed name files [] = refl
files_renamed name files (call ∷ calls) = files_renamed name (files_past files call.ask) calls

module _ (name : ℕ → ℕ) (n l : ℕ) where
  pub asks_renamed : (calls : List Call) → AllByRecursion (IsNamed name n l) calls → asks_of n (renamed name calls) ≡ asks_of l calls
  asks_renamed [] all = refl
  asks_renamed (call ∷ calls) all =
      ap (λ (t : Bool). cond t (call.ask ∷ []) [] ++ asks_of n (renamed name calls)) all.0
      ∙ ap (λ (asks : List Ask). ask_if l call ++ asks) (asks_renamed calls all.1)

  answers_renamed : (files : List Entry) (calls : List Call) → AllByRecursion (IsNamed name n l) calls
      → answers_of n files (renamed name calls) ≡ answers_of l files calls
  answers_renamed files [] all = refl
  answers_renamed files (call ∷ calls) all =
      ap (λ (t : Bool). cond t (answer_over files call.ask) [] ++ answers_of n (files_past files call.ask) (renamed name calls)) all.0
      ∙ ap (λ (bytes : List ℕ). answer_if l files call ++ bytes) (answers_renamed (files_past files call.ask) calls all.1)

  found_renamed : (files : List Entry) (calls : List Call) → AllByRecursion (IsNamed name n l) calls
      → found_by n files (renamed name calls) ≡ found_by l files calls
  found_renamed files [] all = refl
  found_renamed files (call ∷ calls) all =
      ap (λ (t : Bool). cond t files (found_by n (files_past files call.ask) (renamed name calls))) all.0
      ∙ ap (λ (fs : List Entry). cond (call.caller == l) files fs) (found_renamed (files_past files call.ask) calls all.1)

  pub answer_renamed : (kind : Kind) (text : List ℕ) (files : List Entry) (calls : List Call) → AllByRecursion (IsNamed name n l) calls
      → answer_in n kind text files (renamed name calls) ≡ answer_in l kind text files calls
  answer_renamed Echoes text files calls all = refl
  answer_renamed Syncs text files calls all = answers_renamed files calls all
  answer_renamed (Shells packets command) text files calls all =
      ap (λ (fs : List Entry).
      (shell_answer (record { packets = packets; command = command; files = fs }) text).bytes)
      (found_renamed files calls all)

-- ---- the first asks
-- what is asked of a prefix of a text is a prefix of what is asked of the text
pub asks_first : (kind : Kind) (came text : List ℕ) → IsPrefixOf came text → AreFirst (asks_in kind came) (asks_in kind text)
asks_first Echoes came text first = ([], refl)
asks_first (Shells packets command) came text first = ([], refl)
asks_first Syncs came text (more, is) =
    let before = requests_in came in
    let rest = cond (has_last before) [] (up_to_last (completed_by came more)) in (
      map Serves rest,
      sym (map_both (up_to_last before) rest)
          ∙ ap (map Serves) (sym (up_both before (completed_by came more)) ∙
          (ap up_to_last (sym (whole came more)) ∙ ap (λ (x : List ℕ). up_to_last (requests_in x)) is)),
    )

pub first_of_first : (a b c : List Ask) → AreFirst a b → AreFirst b c → AreFirst a c
first_of_first a b c (x, is) (y, too) = (x ++ y, sym (append_assoc a x y) ∙ (ap (λ (z : List Ask). z ++ y) is ∙ too))

-- calls of one stream alone
pub calls_own : (n : ℕ) (calls : List Call) → AllByRecursion (λ (call : Call). call.caller ≡ n) calls → calls ≡ calls_of n (asks_of n calls)
calls_own n [] all = refl
calls_own n (call ∷ calls) all =
    ap (λ (more : List Call). call ∷ more) (calls_own n calls all.1)
    ∙ (ap (λ (m : ℕ). call_of m call.ask ∷ calls_of n (asks_of n calls)) all.0
    ∙ ap (λ (t : Bool). calls_of n (cond t (call.ask ∷ []) [] ++ asks_of n calls)) (sym (eq-eqb call.caller n all.0)))

-- the first of what requests ask is to serve some first requests
pub served_first : (l : ℕ) (files : List Entry) (requests : List Request) (asks : List Ask) → AreFirst asks (asks_for requests)
    → (k : ℕ) × (files_after files (calls_of l asks) ≡ (serve_all files (take k requests)).files)
served_first l files requests [] first = (0, refl)
served_first l files [] (ask ∷ asks) first = absurd (let clash : ask ∷ (asks ++ first.0) ≡ [] = first.1 in cc)
served_first l files (request ∷ more) (ask ∷ asks) first =
    go (is_last request) refl tail (λ (f : AreFirst asks (asks_for more)). served_first l (serve_one files request).files more asks f)
  where
    one : Served
    one = serve_one files request

    later : ℕ → List Entry → Served
    later k left = serve_all left (take k more)

    same : ask ≡ Serves request
    same =
        let both : ask ∷ (asks ++ first.0) ≡ Serves request ∷ map Serves (cond (is_last request) [] (up_to_last more)) = first.1 in
        cc

    tail : asks ++ first.0 ≡ map Serves (cond (is_last request) [] (up_to_last more))
    tail =
        let both : ask ∷ (asks ++ first.0) ≡ Serves request ∷ map Serves (cond (is_last request) [] (up_to_last more)) = first.1 in
        cc

    empty : (xs ys : List Ask) → xs ++ ys ≡ [] → xs ≡ []
    empty [] ys none = refl
    empty (x ∷ xs) ys none = absurd (let clash : x ∷ (xs ++ ys) ≡ [] = none in cc)

    past : files_after files (calls_of l (ask ∷ asks)) ≡ files_after (serve_one files request).files (calls_of l asks)
    past = ap (λ (a : Ask). files_after (files_past files a) (calls_of l asks)) same

    go : (t : Bool) → is_last request ≡ t → asks ++ first.0 ≡ map Serves (cond t [] (up_to_last more))
        → (AreFirst asks (asks_for more) → (k : ℕ) × (files_after (serve_one files request).files (calls_of l asks)
        ≡ (serve_all (serve_one files request).files (take k more)).files))
        → (k : ℕ) × (files_after files (calls_of l (ask ∷ asks)) ≡ (serve_all files (take k (request ∷ more))).files)
    go true last rest recurs = (
      1,
      past
          ∙ (ap (λ (few : List Ask). files_after one.files (calls_of l few)) (empty asks first.0 rest)
          ∙ ap (λ (s : Served). s.files) (sym (over one (later 0) (last_ends files request ∙ last)))),
    )
    go false goes_on rest recurs =
        let all = recurs (first.0, rest) in
        (suc all.0, past ∙ (all.1 ∙ ap (λ (s : Served). s.files) (sym (on one (later all.0) (last_ends files request ∙ goes_on)))))
