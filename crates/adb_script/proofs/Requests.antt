-- What a sync service makes of the text of a push, and of a pull, and what its refusals mean.
use Rattle.std.proofs.Common.{ℕ, zero, suc, ◌+◌, ◌-◌, ◌*◌, ◌%◌, ◌^◌, ◌≡◌, ◌<◌, ◌≤◌, ◌&&◌, Bool, true, false, cond, not, eqb, ltb, leb, List}
use Rattle.std.proofs.Common.{[], ◌∷◌, ◌++◌, length}
use Rattle.std.proofs.Common.{take, drop, map, fold, Option, Some, None, sym, refl, ◌∙◌, ap, subst, append_assoc, arith}
use Rattle.std.specs.Prelude.{bit_and, decimal, if◌then◌else◌, option_and_then}
use Rattle.std.specs.Int.Digits.{AllBelowBase, digits_of, number_from_digits_after}
use Rattle.std.specs.List.{list_all}
use Rattle.std.proofs.lemmas.Bool.{and_from, ne_eqb}
use Rattle.std.proofs.lemmas.Bool.Decides.{nat_tests}
use Rattle.std.proofs.lemmas.Fmt.{decimal_digit, decimal_nonempty, decimal-digits_of, length-decimal-le}
use Rattle.std.proofs.lemmas.Grind.{and_numeral}
use Rattle.std.proofs.lemmas.Int.Digits.{all_below_base_digits_of, number_digits_of}
use Rattle.std.proofs.lemmas.List.{length-take, length-drop, take-append-drop, append-nil}
use Rattle.adb_outside.specs.Decimal.{digits_value, is_digit, is_digits, number_in}
use Rattle.adb_outside.specs.Framing.{joined, uncut}
use Rattle.adb_sync.specs.declared.ask.SyncAsk.{SyncAsk}
use Rattle.adb_sync.specs.declared.ask.SyncAsk.TheVariants as asks
use Rattle.adb_sync.specs.declared.ask_format.AskFormat.{AskFormat}
use Rattle.adb_sync.specs.declared.layout.TheConstants.{MAX_CHUNK}
use Rattle.adb_sync.specs.Asks.{AskReading, IsAsk, HasAskWords, id_of_ask, is_in_place, ask_bytes, asks_from, asks_start, past_ask}
use Rattle.adb_sync.specs.Chunk.{chunks_at, chunk_bytes}
use Rattle.adb_sync.specs.Messages.{comma_behind, last_comma}
use Rattle.adb_sync.proofs.AskCuts.{ask_again}
use Rattle.adb_files.specs.declared.file.File.{File}
use Rattle.adb_files.specs.declared.file.FileError.{FileError}
use Rattle.adb_files.specs.declared.file.FileError.TheVariants as refusals
use Rattle.adb_files.specs.Entries.{Entry}
use Rattle.adb_files.specs.Files.{is_directory, is_under_file, put_refusal, refusal_text, total, without}
use Rattle.adb_files.specs.declared.files.TheConstants.{MAX_STORED}
use Rattle.adb_files.specs.Paths.{is_path}
use Rattle.adb_files.specs.Requests.{OpenSend, Request, Sends, Receives, requests_of, fault_request, requests_in}
use Rattle.adb_files.specs.Served.{Served, answered, fail_bytes, send_by, send_moded, sent_file, serve_one, serve_all, served, recv_bytes}
use Rattle.adb_files.specs.Served.{kept_mode, stored_mode, then_served}
use Rattle.adb_script.specs.declared.pushing.TheConstants.{MAX_MODE, MIN_MODE}
use Rattle.adb_sync_client.specs.declared.step.Step.TheVariants as steps
use Rattle.adb_sync_client.specs.Texts.{push_text, pull_text}
use Rattle.adb_sync_client.specs.Values.{push_value, pull_value}

-- a request that is the last of some bytes
last_ask : (s : AskFormat) (ask : SyncAsk) → IsAsk ask → HasAskWords ask → is_in_place s.sending (id_of_ask ask) ≡ true
    → asks_from s (ask_bytes ask) ≡ joined (ask ∷ []) (uncut (past_ask s (ask_bytes ask)) [] None)
last_ask s ask good words place = ap (asks_from s) (sym (append-nil (ask_bytes ask))) ∙ ask_again s ask [] good words place

-- the requests behind a SEND that is open
record Sent (send : OpenSend) (bytes : List ℕ) (mtime : ℕ) (c : AskReading) : Type 0 where
  requests : requests_of (Some send) c.given ≡ Sends send.path send.mode (send.bytes ++ bytes) mtime ∷ []
  fault : c.fault ≡ None

finish_sent : (s : AskFormat) (send : OpenSend) (mtime : ℕ) → s.sending ≡ true → mtime < 2 ^ 32
    → Sent send [] mtime (asks_from s (ask_bytes (asks.Finish mtime)))
finish_sent s send mtime on short =
    subst (Sent send [] mtime) (sym (last_ask s (asks.Finish mtime) tt short on))
    (record { requests = ap (λ (bs : List ℕ). Sends send.path send.mode bs mtime ∷ []) (sym (append-nil send.bytes)); fault = refl })

-- a chunk goes to the SEND that is open
chunk_sent : (s : AskFormat) (send : OpenSend) (chunk left more : List ℕ) (mtime : ℕ) → s.sending ≡ true → length chunk ≤ MAX_CHUNK
    → Sent (record send { bytes = send.bytes ++ chunk }) left mtime (asks_from (past_ask s (ask_bytes (asks.Chunk chunk))) more)
    → Sent send (chunk ++ left) mtime (asks_from s (ask_bytes (asks.Chunk chunk) ++ more))
chunk_sent s send chunk left more mtime on small rest =
    subst (Sent send (chunk ++ left) mtime) (sym (ask_again s (asks.Chunk chunk) more small tt on))
    (record {
      requests = rest.requests ∙ ap (λ (bs : List ℕ). Sends send.path send.mode bs mtime ∷ []) (append_assoc send.bytes chunk left);
      fault = rest.fault;
    })

chunks_sent : (k : ℕ) (s : AskFormat) (send : OpenSend) (bytes : List ℕ) (mtime : ℕ) → s.sending ≡ true → mtime < 2 ^ 32 → length bytes ≤ k
    → Sent send bytes mtime (asks_from s (chunks_at k bytes ++ ask_bytes (asks.Finish mtime)))
chunks_sent zero s send [] mtime on short fits = finish_sent s send mtime on short
chunks_sent zero s send (byte ∷ bytes) mtime on short fits = absurd (omega (arith, fits))
chunks_sent (suc k) s send [] mtime on short fits = finish_sent s send mtime on short
chunks_sent (suc k) s send (byte ∷ bytes) mtime on short fits =
    let all : List ℕ = byte ∷ bytes in
    let chunk = take MAX_CHUNK all in
    let left = drop MAX_CHUNK all in
    let frame = ask_bytes (asks.Chunk chunk) in
    let end = ask_bytes (asks.Finish mtime) in
    let some : eqb (length all) 0 ≡ false = grind (arith, nat_tests) in
    let spelled : chunks_at (suc k) all ++ end ≡ frame ++ (chunks_at k left ++ end) =
    ap (λ (t : Bool). cond t [] (frame ++ chunks_at k left) ++ end) some ∙ append_assoc frame (chunks_at k left) end in
    let next : AskFormat = past_ask s frame in
    let rest = chunks_sent k next (record send { bytes = send.bytes ++ chunk }) left mtime refl short
    (omega (arith, fits, length-drop MAX_CHUNK all)) in
    subst (λ (bs : List ℕ). Sent send all mtime (asks_from s bs)) (sym spelled)
    (subst (λ (bs : List ℕ). Sent send bs mtime (asks_from s (frame ++ (chunks_at k left ++ end)))) (take-append-drop MAX_CHUNK all)
    (chunk_sent s send chunk left (chunks_at k left ++ end) mtime on (omega (arith, length-take MAX_CHUNK all)) rest))

-- ---- a mode in decimal
no_comma : (digits : List ℕ) → last_comma (map (λ d. 48 + d) digits) ≡ None
no_comma [] = refl
no_comma (d ∷ digits) = ap (comma_behind (48 + d)) (no_comma digits)
    ∙ ap (λ t. if t then Some 0 else None) (ne_eqb (48 + d) 44 (λ e. omega (arith, e)))

all_digits : (digits : List ℕ) → AllBelowBase 10 digits → list_all is_digit (map (λ d. 48 + d) digits) ≡ true
all_digits [] below = refl
all_digits (d ∷ digits) below =
    let least : leb 48 (48 + d) ≡ true = grind (arith, nat_tests) in
    let most : leb (48 + d) 57 ≡ true = grind (arith, nat_tests, below.0) in
    and_from (is_digit (48 + d)) (list_all is_digit (map (λ d. 48 + d) digits)) (and_from (leb 48 (48 + d)) (leb (48 + d) 57) least most)
    (all_digits digits below.1)

value_behind : (value : ℕ) (digits : List ℕ) → fold (λ value digit. 10 * value + (digit - 48)) value (map (λ d. 48 + d) digits)
    ≡ number_from_digits_after 10 value digits
value_behind value [] = refl
value_behind value (d ∷ digits) =
    ap (λ (n : ℕ). fold (λ value digit. 10 * value + (digit - 48)) n (map (λ d. 48 + d) digits)) (omega arith)
    ∙ value_behind (value * 10 + d) digits

number_is : (n : ℕ) → 0 < n → n < 2 ^ 32 → number_in 10 (decimal n) ≡ Some n
number_is n some fits =
    let text = decimal-digits_of n some (omega (arith, fits)) in
    let size : length (decimal n) ≤ 10 = length-decimal-le 10 n (omega arith) (omega (arith, fits)) (omega (arith, fits)) in
    let first = decimal_nonempty n (omega (arith, fits)) in
    let least : ltb 0 (length (decimal n)) ≡ true = grind (arith, nat_tests, first) in
    let most : leb (length (decimal n)) 10 ≡ true = grind (arith, nat_tests, size) in
    let all : list_all is_digit (decimal n) ≡ true = ap (list_all is_digit) text
    ∙ all_digits (digits_of 10 n) (all_below_base_digits_of 10 n (omega arith)) in
    let value : digits_value (decimal n) ≡ n =
    ap digits_value text ∙ (value_behind 0 (digits_of 10 n) ∙ number_digits_of 10 n (omega arith)) in
    let are : is_digits 10 (decimal n) ≡ true = and_from (ltb 0 (length (decimal n)) && leb (length (decimal n)) 10)
    (list_all is_digit (decimal n))
    (and_from (ltb 0 (length (decimal n))) (leb (length (decimal n)) 10) least most) all in
    ap (λ (t : Bool). cond t (Some (digits_value (decimal n))) None) are ∙ ap Some value

-- ---- a push
no_comma_of : (n : ℕ) → n < 2 ^ 32 → last_comma (decimal n) ≡ None
no_comma_of zero fits = ap last_comma (decimal_digit 0 (omega arith))
no_comma_of (suc n) fits = ap last_comma (decimal-digits_of (suc n) (omega arith) (omega (arith, fits))) ∙ no_comma (digits_of 10 (suc n))

pub send_is_ask : (path given mode : List ℕ) (n : ℕ) → length path ≤ 1000 → given ≡ path → n < 2 ^ 32 → mode ≡ decimal n
    → (length given + 1 + length mode ≤ 1024) × (last_comma mode ≡ None)
send_is_ask path given mode n short same fits is =
    let size : length (decimal n) ≤ 10 = length-decimal-le 10 n (omega arith) (omega (arith, fits)) (omega (arith, fits)) in
    (omega (arith, short, size, ap (length {A = ℕ}) same, ap (length {A = ℕ}) is), ap last_comma is ∙ no_comma_of n fits)

-- a regular file's mode, with its lowest nine bits, is kept
module _ (mode : ℕ) (least : MIN_MODE ≤ mode) (most : mode ≤ MAX_MODE) where
  kept : stored_mode (decimal mode) ≡ Some mode
  kept =
      let fits : ltb mode 4294967296 ≡ true = grind (arith, nat_tests, most) in
      let low : bit_and mode 511 ≡ mode % 512 = and_numeral mode 510 refl in
      let same : 32768 + bit_and mode 511 ≡ mode = omega (arith, low, least, most) in
      ap (option_and_then kept_mode) (number_is mode (omega (arith, least)) (omega (arith, most)))
      ∙ (ap (λ (t : Bool). cond t (Some (32768 + bit_and mode 511)) None) fits ∙ ap Some same)

  pub push_requests : (path bytes : List ℕ) (mtime : ℕ) → length path ≤ 1000 → mtime < 2 ^ 32
      → requests_in (push_text path mode mtime bytes) ≡ Sends path (decimal mode) bytes mtime ∷ []
  push_requests path bytes mtime short time =
      let send = asks.Send path (decimal mode) in
      let more = chunk_bytes bytes ++ ask_bytes (asks.Finish mtime) in
      let open_send : OpenSend = record { path = path; mode = decimal mode; bytes = [] } in
      let next : AskFormat = past_ask asks_start (ask_bytes send) in
      let rest = chunks_sent (length bytes) next open_send bytes mtime refl time (omega arith) in
      let cut = ask_again asks_start send more (send_is_ask path path (decimal mode) mode short refl (omega (arith, most)) refl) tt refl in
      ap (λ (c : AskReading). requests_of None c.given ++ fault_request c.fault) cut
      ∙ (ap (λ (rs : List Request). rs ++ fault_request (asks_from next more).fault) rest.requests
      ∙ ap (λ (f : Option _). (Sends path (decimal mode) bytes mtime ∷ []) ++ fault_request f) rest.fault)

-- one request alone
same_served : (s : Served) → s.ended ≡ false → then_served s (λ left. answered left []) ≡ s
same_served s on =
    ap (λ (t : Bool). cond t s (record { files = s.files; answer = s.answer ++ []; ended = false })) on
    ∙ (ap (λ (bs : List ℕ). record { files = s.files; answer = bs; ended = false }) (append-nil s.answer)
    ∙ ap (λ (t : Bool). record { files = s.files; answer = s.answer; ended = t }) (sym on))

sent_goes_on : (files : List Entry) (path : List ℕ) (file : File) (o : Option FileError) → (send_by files path file o).ended ≡ false
sent_goes_on files path file None = refl
sent_goes_on files path file (Some refusal) = refl

module _ (mode : ℕ) (least : MIN_MODE ≤ mode) (most : mode ≤ MAX_MODE) where
  sent_as : (files : List Entry) (path bytes : List ℕ) (mtime : ℕ)
      → serve_one files (Sends path (decimal mode) bytes mtime)
      ≡ send_by files path (sent_file mode mtime bytes) (put_refusal files path (length bytes))
  sent_as files path bytes mtime = go (is_path path) refl
    where
      file : File
      file = sent_file mode mtime bytes

      bad : Served
      bad = answered files (fail_bytes (refusal_text refusals.BadPath))

      behind : Option FileError
      behind = cond (is_directory files path) (Some refusals.IsDirectory) (cond (is_under_file files path) (Some refusals.NotDirectory)
          (cond (ltb MAX_STORED (total (without path files) + length bytes)) (Some refusals.NoSpace) None))

      go : (t : Bool) → is_path path ≡ t
          → serve_one files (Sends path (decimal mode) bytes mtime)
          ≡ send_by files path (sent_file mode mtime bytes) (put_refusal files path (length bytes))
      go true is =
          ap (λ (t : Bool). cond t (send_moded files path bytes mtime (stored_mode (decimal mode))) bad) is
          ∙ ap (send_moded files path bytes mtime) (kept mode least most)
      go false is =
          ap (λ (t : Bool). cond t (send_moded files path bytes mtime (stored_mode (decimal mode))) bad) is
          ∙ sym (ap (send_by files path file) (ap (λ (t : Bool). cond (not t) (Some refusals.BadPath) behind) is))

  pub push_served : (files : List Entry) (path bytes : List ℕ) (mtime : ℕ) → length path ≤ 1000 → mtime < 2 ^ 32
      → served files (push_text path mode mtime bytes) ≡ send_by files path (sent_file mode mtime bytes)
      (put_refusal files path (length bytes))
  push_served files path bytes mtime short time =
      let by = send_by files path (sent_file mode mtime bytes) (put_refusal files path (length bytes)) in
      ap (serve_all files) (push_requests mode least most path bytes mtime short time)
      ∙ (ap (λ (s : Served). then_served s (λ left. answered left [])) (sent_as files path bytes mtime)
      ∙ same_served by (sent_goes_on files path (sent_file mode mtime bytes) (put_refusal files path (length bytes))))

pub push_refused : (refusal : FileError) → push_value (fail_bytes (refusal_text refusal)) ≡ steps.Refused (refusal_text refusal)
push_refused refusals.BadPath = refl
push_refused refusals.IsDirectory = refl
push_refused refusals.NotDirectory = refl
push_refused refusals.NoSpace = refl
push_refused refusals.NoFile = refl
push_refused refusals.OutOfMemory = refl

-- ---- a pull
pub pull_served : (files : List Entry) (path : List ℕ) → length path ≤ 1000
    → served files (pull_text path) ≡ answered files (recv_bytes files path)
pull_served files path short =
    let asked : requests_in (pull_text path) ≡ Receives path ∷ [] =
    ap (λ (c : AskReading). requests_of None c.given ++ fault_request c.fault)
    (last_ask asks_start (asks.Recv path) (omega (arith, short)) tt refl) in
    ap (serve_all files) asked ∙ same_served (answered files (recv_bytes files path)) refl

pub pull_refused : (refusal : FileError) → pull_value (fail_bytes (refusal_text refusal)) ≡ steps.Refused (refusal_text refusal)
pull_refused refusals.BadPath = refl
pull_refused refusals.IsDirectory = refl
pull_refused refusals.NotDirectory = refl
pull_refused refusals.NoSpace = refl
pull_refused refusals.NoFile = refl
pull_refused refusals.OutOfMemory = refl
