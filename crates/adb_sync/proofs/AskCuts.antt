-- A cut into requests is right, and what is right is the cut.
use Rattle.std.proofs.Common.{ℕ, suc, ◌+◌, ◌^◌, ◌≡◌, ◌≤◌, ◌<◌, nat_eq, cond, Bool, true, false, List, [], ◌∷◌, ◌++◌, length, take, drop}
use Rattle.std.proofs.Common.{Option, Some, None, Result, Ok, Err, refl, sym, ◌∙◌, ap, subst, arith, add-one, append_assoc, eqb-true}
use Rattle.std.specs.Prelude.{codes}
use Rattle.std.specs.List.{flat_map}
use Rattle.std.proofs.lemmas.List.{length-append, length-drop, take-append-drop, take_at, drop_all}
use Rattle.std.proofs.lemmas.List.Elements.{All-nil, All-cons, All-head, All-tail}
use Rattle.byteorder.specs.Endian.{little_bytes}
use Rattle.byteorder.specs.Numbers.{little_number-reads_back}
use Rattle.adb_outside.specs.declared.framer.Front.TheVariants.{Whole}
use Rattle.adb_outside.specs.Bytes.{AreBytes}
use Rattle.adb_outside.specs.Framing.{joined}
use Rattle.adb_outside.proofs.CutLaws.{bytes_after, rest_within, frame_first, Frames, right_cut, only_cut}
use Rattle.adb_outside.proofs.Numbers.{number_again}
use Rattle.adb_sync.specs.declared.ask.SyncAsk.{SyncAsk}
use Rattle.adb_sync.specs.declared.ask.SyncAsk.TheVariants as asks
use Rattle.adb_sync.specs.declared.ask_id.AskId.{AskId}
use Rattle.adb_sync.specs.declared.ask_id.AskId.TheVariants as ids
use Rattle.adb_sync.specs.declared.ask_format.AskFormat.{AskFormat}
use Rattle.adb_sync.specs.declared.error.SyncRule.{SyncRule}
use Rattle.adb_sync.specs.declared.error.SyncRule.TheVariants as rules
use Rattle.adb_sync.specs.declared.layout.Layout.{Layout}
use Rattle.adb_sync.specs.declared.layout.TheConstants.{MAX_PATH, MAX_CHUNK}
use Rattle.adb_sync.specs.Messages.{message, number_at, text, path_limit, chunk_limit, limit_fault, comma_fault, last_comma, comma_behind}
use Rattle.adb_sync.specs.Asks.{AskReading, ask_id_of, ask_layout, ask_in_place, asked_at, is_in_place, ask_front, ask_of, past_ask}
use Rattle.adb_sync.specs.Asks.{asks_from, ask_bytes, id_of_ask, is_sending_after, IsAsk, HasAskWords, StandInPlace, SpellsAsks, IsAskCut}
use Rattle.adb_sync.specs.Asks.{send_cut}
use Rattle.adb_sync.specs.Framed.{IsBehind, message_told, framed_message, ask_head, ask_heads, asks_are_framed}
use Rattle.adb_sync.proofs.Messages.{number_fits, counted_again, is_one, within, is_within, numbers_behind, text_behind}

-- ---- a request that was written
-- the last comma of a SEND's text is the one behind its path
comma_at : (path mode : List ℕ) → last_comma mode ≡ None → last_comma (path ++ 44 ∷ mode) ≡ Some (length path)
comma_at [] mode none = ap (comma_behind 44) none
comma_at (p ∷ path) mode none = ap (comma_behind p) (comma_at path mode none)

drop_path : (path mode : List ℕ) → drop (suc (length path)) (path ++ 44 ∷ mode) ≡ mode
drop_path [] mode = refl
drop_path (p ∷ path) mode = drop_path path mode

cut_again : (path mode : List ℕ) → last_comma mode ≡ None → send_cut (path ++ 44 ∷ mode)
    (last_comma (path ++ 44 ∷ mode)) ≡ asks.Send path mode
cut_again path mode none =
    let text = path ++ 44 ∷ mode in
    ap (send_cut text) (comma_at path mode none)
    ∙ (ap (λ p. asks.Send p (drop (length path + 1) text)) (take_at path (44 ∷ mode) (length path) refl)
    ∙ ap (asks.Send path) (ap (λ k. drop k text) (add-one (length path)) ∙ drop_path path mode))

-- what stands behind its id
path_behind : (path : List ℕ) → length path ≤ MAX_PATH → IsBehind (text 1 path_limit) (little_bytes 4 (length path) ++ path)
path_behind path short = text_behind path_limit false path (omega (arith, short))
    (within MAX_PATH (length path) rules.PathTooLong short) refl

said : (ask : SyncAsk) → IsAsk ask → HasAskWords ask → IsBehind (ask_layout (id_of_ask ask)) (drop 4 (ask_bytes ask))
said (asks.Stat path) good words = path_behind path good
said (asks.List path) good words = path_behind path good
said (asks.Recv path) good words = path_behind path good
said (asks.Send path mode) good words =
    let text = path ++ 44 ∷ mode in
    let few : length text ≤ MAX_PATH = omega (arith, length-append path (44 ∷ mode), good.0) in
    text_behind path_limit true text (omega (arith, few)) (within MAX_PATH (length text) rules.PathTooLong few)
    (ap comma_fault (comma_at path mode good.1))
said (asks.Chunk bytes) good words =
    text_behind chunk_limit false bytes (omega (arith, good)) (within MAX_CHUNK (length bytes) rules.ChunkTooLong good) refl
said (asks.Finish mtime) good words = numbers_behind 1 (little_bytes 4 mtime) refl
said asks.Quit good words = record { head = omega arith; number = refl; size = refl; body = refl }

-- its id
said_id : (ask : SyncAsk) → ask_id_of (take 4 (ask_bytes ask)) ≡ Some (id_of_ask ask)
said_id (asks.Stat path) = refl
said_id (asks.List path) = refl
said_id (asks.Recv path) = refl
said_id (asks.Send path mode) = refl
said_id (asks.Chunk bytes) = refl
said_id (asks.Finish mtime) = refl
said_id asks.Quit = refl

-- what is read of it
said_again : (from : AskFormat) (ask : SyncAsk) → IsAsk ask → HasAskWords ask → ask_of from (ask_bytes ask) ≡ ask
said_again from (asks.Stat path) good words = refl
said_again from (asks.List path) good words = refl
said_again from (asks.Recv path) good words = refl
said_again from (asks.Send path mode) good words = cut_again path mode good.1
said_again from (asks.Chunk bytes) good words = refl
said_again from (asks.Finish mtime) good words = ap asks.Finish (little_number-reads_back 4 mtime [] (omega (arith, words)))
said_again from asks.Quit good words = refl

-- what stands behind an id that may stand here, or may not
abbrev placed : AskId → Bool → Result Layout SyncRule
placed id t = cond t (Ok (ask_layout id)) (Err rules.BadPlace)

said_front : (from : AskFormat) (ask : SyncAsk) → IsAsk ask → HasAskWords ask → is_in_place from.sending (id_of_ask ask) ≡ true
    → ask_front from (ask_bytes ask) ≡ Whole (length (ask_bytes ask))
said_front from ask good words place =
    let id = id_of_ask ask in
    let behind = said ask good words in
    message_told (λ format. format.offset) asked_at from (ask_bytes ask) (record {
      layout = ask_layout id;
      id = omega (arith, behind.head, ask_head id, length-drop 4 (ask_bytes ask));
      known = ap (ask_in_place from.sending) (said_id ask) ∙ ap (placed id) place;
      behind = behind;
    })

pub ask_again : (from : AskFormat) (ask : SyncAsk) (more : List ℕ) → IsAsk ask → HasAskWords ask
    → is_in_place from.sending (id_of_ask ask) ≡ true
    → asks_from from (ask_bytes ask ++ more) ≡ joined (ask ∷ []) (asks_from (past_ask from (ask_bytes ask)) more)
ask_again from ask more good words place =
    frame_first ask_front ask_of past_ask asks_are_framed from (ask_bytes ask) more (said_front from ask good words place)
    ∙ ap (λ a. joined (a ∷ []) (asks_from (past_ask from (ask_bytes ask)) more)) (said_again from ask good words)

-- ---- a request that is read
-- the four letters of an id
abbrev letters : AskId → List ℕ
letters ids.Stat = codes "STAT"
letters ids.List = codes "LIST"
letters ids.Recv = codes "RECV"
letters ids.Send = codes "SEND"
letters ids.Data = codes "DATA"
letters ids.Done = codes "DONE"
letters ids.Quit = codes "QUIT"

-- an id is its letters
id_again : (bytes : List ℕ) (id : AskId) → ask_id_of bytes ≡ Some id → bytes ≡ letters id
id_again bytes id =
    is_one letters bytes ids.Stat id _
    (is_one letters bytes ids.List id _
    (is_one letters bytes ids.Recv id _
    (is_one letters bytes ids.Send id _
    (is_one letters bytes ids.Data id _
    (is_one letters bytes ids.Done id _
    (is_one letters bytes ids.Quit id None (λ e. let clash : ◌≡◌ {A = Option AskId} None (Some id) = e in absurd cc)))))))

-- an id that is known here, and what stands behind it
record IsKnown (from : AskFormat) (found : Option AskId) (layout : Layout) : Type 0 where
  id : AskId
  is : found ≡ Some id
  place : is_in_place from.sending id ≡ true
  behind : ask_layout id ≡ layout

known_here : (from : AskFormat) (found : Option AskId) (layout : Layout) → ask_in_place from.sending found ≡ Ok layout
    → IsKnown from found layout
known_here from None layout e = absurd (cc)
known_here from (Some id) layout e = go (is_in_place from.sending id) refl e
  where
    go : (t : Bool) → is_in_place from.sending id ≡ t → placed id t ≡ Ok layout → IsKnown from (Some id) layout
    go true is found = record { id = id; is = refl; place = is; behind = cc }
    go false is found = absurd (cc)

-- a text is cut at its last comma
record CutAtComma (text : List ℕ) (k : ℕ) : Type 0 where
  whole : take k text ++ 44 ∷ drop (suc k) text ≡ text
  none_behind : last_comma (drop (suc k) text) ≡ None

comma_cuts : (text : List ℕ) (k : ℕ) → last_comma text ≡ Some k → CutAtComma text k
comma_cuts [] k e = let clash : ◌≡◌ {A = Option ℕ} None (Some k) = e in absurd cc
comma_cuts (byte ∷ text) k e = go (last_comma text) refl (comma_cuts text) e
  where
    here : last_comma text ≡ None → (t : Bool) → nat_eq byte 44 ≡ t → cond t (Some 0) None ≡ Some k → CutAtComma (byte ∷ text) k
    here none true is found =
        let first : 0 ≡ k = (cc) in
        subst (λ (j : ℕ). CutAtComma (byte ∷ text) j) first
        (record { whole = ap (λ b. b ∷ text) (sym (eqb-true byte 44 is)); none_behind = none })
    here none false is found = let clash : ◌≡◌ {A = Option ℕ} None (Some k) = found in absurd cc

    go : (o : Option ℕ) → last_comma text ≡ o → ((j : ℕ) → last_comma text ≡ Some j → CutAtComma text j) → comma_behind byte o ≡ Some k
        → CutAtComma (byte ∷ text) k
    go (Some j) is others found =
        let next : suc j ≡ k = (cc) in
        let cuts = others j is in
        subst (λ (i : ℕ). CutAtComma (byte ∷ text) i) next
        (record { whole = ap (λ more. byte ∷ more) cuts.whole; none_behind = cuts.none_behind })
    go None is others found = here is (nat_eq byte 44) refl found

comma_there : (comma : Option ℕ) → comma_fault comma ≡ None → (k : ℕ) × (comma ≡ Some k)
comma_there (Some k) e = (k, refl)
comma_there None e = let clash : ◌≡◌ {A = Option SyncRule} (Some rules.BadSend) None = e in absurd cc

-- the request of some bytes is spelled by them, may be written and begins with that id
record IsSpelledAsk (id : AskId) (bytes : List ℕ) (ask : SyncAsk) : Type 0 where
  again : ask_bytes ask ≡ bytes
  good : IsAsk ask
  words : HasAskWords ask
  kind : id_of_ask ask ≡ id

-- a path within its limit
path_fits : (rest : List ℕ) → length rest ≡ 4 + number_at 0 rest → limit_fault path_limit (number_at 0 rest) ≡ None
    → length (drop 4 rest) ≤ MAX_PATH
path_fits rest len good = omega (arith, len, is_within MAX_PATH (number_at 0 rest) rules.PathTooLong good, length-drop 4 rest)

-- a path behind its id
record AsksPath (id : AskId) (make : List ℕ → SyncAsk) : Type 0 where
  bytes : (path : List ℕ) → ask_bytes (make path) ≡ message (letters id) (length path) path
  good : (path : List ℕ) → length path ≤ MAX_PATH → IsAsk (make path)
  words : (path : List ℕ) → HasAskWords (make path)
  kind : (path : List ℕ) → id_of_ask (make path) ≡ id

path_spelled : (id : AskId) (make : List ℕ → SyncAsk) (rest : List ℕ) → AsksPath id make → AreBytes rest → IsBehind (text 1 path_limit) rest
    → IsSpelledAsk id (letters id ++ rest) (make (drop 4 rest))
path_spelled id make rest asks are m =
    let path = drop 4 rest in
    let begin = letters id in
    record {
      again = asks.bytes path
          ∙ (append_assoc begin (little_bytes 4 (length path)) path
          ∙ ap (λ r. begin ++ r) (counted_again rest are m.size));
      good = asks.good path (path_fits rest m.size m.number);
      words = asks.words path;
      kind = asks.kind path;
    }

-- a SEND and its comma
send_spelled : (rest text : List ℕ) (k : ℕ) → text ≡ drop 4 rest → last_comma text ≡ Some k → length text ≤ MAX_PATH
    → little_bytes 4 (length (drop 4 rest)) ++ drop 4 rest ≡ rest
    → IsSpelledAsk ids.Send (codes "SEND" ++ rest) (send_cut text (Some k))
send_spelled rest text k is found short counted =
    let cuts = comma_cuts text k found in
    let behind : drop (k + 1) text ≡ drop (suc k) text = ap (λ (j : ℕ). drop j text) (add-one k) in
    let whole : take k text ++ 44 ∷ drop (k + 1) text ≡ text = ap (λ mode. take k text ++ 44 ∷ mode) behind ∙ cuts.whole in
    let count : length (take k text ++ 44 ∷ drop (k + 1) text) ≡ length text = ap (length {A = ℕ}) whole in
    record {
      again = ap (λ t. codes "SEND" ++ little_bytes 4 (length t) ++ t) (whole ∙ is) ∙ ap (λ r. codes "SEND" ++ r) counted;
      good = (omega (arith, count, length-append (take k text) (44 ∷ drop (k + 1) text), short), ap last_comma behind ∙ cuts.none_behind);
      words = tt;
      kind = refl;
    }

asks_stat : AsksPath ids.Stat asks.Stat
asks_stat = record { bytes = λ p. refl; good = λ p short. short; words = λ p. tt; kind = λ p. refl }

asks_list : AsksPath ids.List asks.List
asks_list = record { bytes = λ p. refl; good = λ p short. short; words = λ p. tt; kind = λ p. refl }

asks_recv : AsksPath ids.Recv asks.Recv
asks_recv = record { bytes = λ p. refl; good = λ p short. short; words = λ p. tt; kind = λ p. refl }

-- what an id and the bytes behind it spell
spelled_by : (from : AskFormat) (id : AskId) (rest : List ℕ) → AreBytes rest → IsBehind (ask_layout id) rest
    → IsSpelledAsk id (letters id ++ rest) (ask_of from (letters id ++ rest))
spelled_by from ids.Stat rest are m = path_spelled ids.Stat asks.Stat rest asks_stat are m
spelled_by from ids.List rest are m = path_spelled ids.List asks.List rest asks_list are m
spelled_by from ids.Recv rest are m = path_spelled ids.Recv asks.Recv rest asks_recv are m
spelled_by from ids.Send rest are m =
    let comma = comma_there (last_comma (drop 4 rest)) m.body in
    let short = path_fits rest m.size m.number in
    subst (λ (o : Option ℕ). IsSpelledAsk ids.Send (codes "SEND" ++ rest) (send_cut (drop 4 rest) o)) (sym comma.1)
    (send_spelled rest (drop 4 rest) comma.0 refl comma.1 short (counted_again rest are m.size))
spelled_by from ids.Data rest are m = record {
  again = ap (λ r. codes "DATA" ++ r) (counted_again rest are m.size);
  good = omega (arith, m.size, length-drop 4 rest, is_within MAX_CHUNK (number_at 0 rest) rules.ChunkTooLong m.number);
  words = tt;
  kind = refl;
}
spelled_by from ids.Done rest are m = record {
  again =
      ap (λ r. codes "DONE" ++ little_bytes 4 (number_at 0 rest) ++ r) (sym (drop_all 4 rest (omega (arith, m.size))))
      ∙ ap (λ r. codes "DONE" ++ r) (number_again rest are (omega (arith, m.size)));
  good = tt;
  words = number_fits 0 rest are;
  kind = refl;
}
spelled_by from ids.Quit rest are m =
    let none : number_at 0 rest ≡ 0 = omega (arith, is_within 0 (number_at 0 rest) rules.UnknownId m.number) in
    record {
      again =
          ap (λ (n : ℕ). codes "QUIT" ++ little_bytes 4 n ++ []) (sym none)
          ∙ (ap (λ r. codes "QUIT" ++ little_bytes 4 (number_at 0 rest) ++ r) (sym (drop_all 4 rest (omega (arith, m.size))))
          ∙ ap (λ r. codes "QUIT" ++ r) (number_again rest are (omega (arith, m.size))));
      good = tt;
      words = tt;
      kind = refl;
    }

-- a request that is read, where its id stands
record IsReadAsk (from : AskFormat) (bytes : List ℕ) : Type 0 where
  id : AskId
  known : ask_id_of (take 4 bytes) ≡ Some id
  place : is_in_place from.sending id ≡ true
  spelled : IsSpelledAsk id bytes (ask_of from bytes)

read_ask : (from : AskFormat) (bytes : List ℕ) → AreBytes bytes → ask_front from bytes ≡ Whole (length bytes) → IsReadAsk from bytes
read_ask from bytes are e =
    let m = framed_message (λ format. format.offset) asked_at ask_heads from bytes e in
    let known = known_here from (ask_id_of (take 4 bytes)) m.layout m.known in
    let rest = drop 4 bytes in
    let whole : letters known.id ++ rest ≡ bytes = ap (λ id. id ++ rest)
    (sym (id_again (take 4 bytes) known.id known.is)) ∙ take-append-drop 4 bytes in
    let behind = subst (λ (l : Layout). IsBehind l rest) (sym known.behind) m.behind in
    record {
      id = known.id;
      known = known.is;
      place = known.place;
      spelled = subst (λ (b : List ℕ). IsSpelledAsk known.id b (ask_of from b)) whole
          (spelled_by from known.id rest (bytes_after 4 bytes are) behind);
    }

-- ---- cuts
-- a request before others
ask_before : (from : AskFormat) (frame more : List ℕ) (c : AskReading) → ask_front from frame ≡ Whole (length frame) → AreBytes frame
    → SpellsAsks (past_ask from frame) more c.given c.reading c.rest
    → SpellsAsks from (frame ++ more) (ask_of from frame ∷ c.given) c.reading c.rest
ask_before from frame more c found are others =
    let ask = ask_of from frame in
    let r = read_ask from frame are found in
    let kind = r.spelled.kind in
    let sends : is_sending_after (ask_id_of (take 4 frame)) ≡ is_sending_after (Some (id_of_ask ask)) =
    ap is_sending_after (r.known ∙ ap Some (sym kind)) in
    record {
      whole =
          ap (λ b. b ++ more) (sym r.spelled.again)
          ∙ (ap (λ b. ask_bytes ask ++ b) others.whole ∙ sym (append_assoc (ask_bytes ask) (flat_map ask_bytes c.given) c.rest));
      each = All-cons IsAsk ask c.given r.spelled.good others.each;
      words = All-cons HasAskWords ask c.given r.spelled.words others.words;
      in_place = (
        ap (is_in_place from.sending) kind ∙ r.place,
        subst
            (λ (s : Bool). StandInPlace s c.given c.reading.sending) sends others.in_place,
      );
    }

-- reading goes on as it began
reads_on : (from : AskFormat) (bytes : List ℕ) (c : AskReading) → c.given ≡ [] → SpellsAsks from bytes c.given c.reading c.rest
    → c.reading.offset ≡ from.offset → c.reading ≡ from
reads_on from bytes c none is same =
    let sends : c.reading.sending ≡ from.sending = subst (λ given. StandInPlace from.sending given c.reading.sending) none is.in_place in
    ap (λ (k : ℕ). record { offset = k; sending = c.reading.sending }) same
    ∙ ap (λ (s : Bool). record { offset = from.offset; sending = s }) sends

asks_spelled : Frames ask_front ask_of past_ask asks_are_framed (λ format. format.offset) SpellsAsks
asks_spelled = record {
  moves = λ s frame. refl;
  within = λ s bytes c is. rest_within ask_bytes c.given c.rest bytes is.whole;
  none = λ s bytes. record { whole = refl; each = All-nil IsAsk; words = All-nil HasAskWords; in_place = refl };
  one = ask_before;
  all_left = λ s bytes c none is. sym (is.whole ∙ ap (λ given. flat_map ask_bytes given ++ c.rest) none);
  reads_on = reads_on;
  begins = λ s bytes ask c is.
      let good = All-head IsAsk ask c.given is.each in
      let words = All-head HasAskWords ask c.given is.words in
      record {
        frame = ask_bytes ask;
        more = flat_map ask_bytes c.given ++ c.rest;
        whole = is.whole ∙ append_assoc (ask_bytes ask) (flat_map ask_bytes c.given) c.rest;
        found = said_front s ask good words is.in_place.0;
        holds = said_again s ask good words;
        behind = record {
          whole = refl;
          each = All-tail IsAsk ask c.given is.each;
          words = All-tail HasAskWords ask c.given is.words;
          in_place = subst (λ (o : Option AskId). StandInPlace (is_sending_after o) c.given c.reading.sending)
              (sym (said_id ask)) is.in_place.1;
        };
      };
}

pub ask_cut_right : (from : AskFormat) (bytes : List ℕ) → from.offset < 2 ^ 64 → AreBytes bytes → IsAskCut from bytes (asks_from from bytes)
ask_cut_right = right_cut ask_front ask_of past_ask asks_are_framed (λ format. format.offset) SpellsAsks asks_spelled

pub ask_cut_only : (from : AskFormat) (bytes : List ℕ) (c : AskReading) → from.offset < 2 ^ 64 → IsAskCut from bytes c
    → c ≡ asks_from from bytes
ask_cut_only = only_cut ask_front ask_of past_ask asks_are_framed (λ format. format.offset) SpellsAsks asks_spelled
