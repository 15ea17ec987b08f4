-- What bytes begin with stays so, whatever follows: messages are a format.
use Rattle.std.specs.Prelude.{ℕ, ◌+◌, ◌-◌, ◌≡◌, ◌≤◌, nat_lt, cond, Bool, true, false, List, ◌++◌, length, take, drop, Option, Some, None}
use Rattle.std.specs.Prelude.{Result, Ok, Err, refl}
use Rattle.std.proofs.Common.{◌∙◌, ap, sym, subst, arith}
use Rattle.std.proofs.lemmas.List.{length-append, length-drop, length-take, take-append-le, drop-append-le, take-append-drop, take-take}
use Rattle.std.proofs.lemmas.List.{drop-take, take_all}
use Rattle.std.proofs.lemmas.Bool.Decides.{nat_tests}
use Rattle.byteorder.specs.Endian.{little_number}
use Rattle.byteorder.specs.Numbers.{little_from-append}
use Rattle.adb_outside.specs.declared.framer.Front.{Front}
use Rattle.adb_outside.specs.declared.framer.Front.TheVariants.{More, Bad, Whole}
use Rattle.adb_outside.specs.Framing.{IsFraming}
use Rattle.adb_sync.specs.declared.error.SyncRule.{SyncRule}
use Rattle.adb_sync.specs.declared.error.SyncRule.TheVariants.{BadPlace}
use Rattle.adb_sync.specs.declared.error.SyncFault.{SyncFault}
use Rattle.adb_sync.specs.declared.layout.Layout.{Layout}
use Rattle.adb_sync.specs.declared.ask_id.AskId.{AskId}
use Rattle.adb_sync.specs.declared.ask_id.AskId.TheVariants as asked
use Rattle.adb_sync.specs.declared.ask_format.AskFormat.{AskFormat}
use Rattle.adb_sync.specs.declared.answer_id.AnswerId.{AnswerId}
use Rattle.adb_sync.specs.declared.answer_id.AnswerId.TheVariants as answered
use Rattle.adb_sync.specs.declared.answer_format.AnswerFormat.{AnswerFormat}
use Rattle.adb_sync.specs.Messages.{number_at, head_number, limit_fault, body_len, body_fault, or_bad, front_of_body, front_past_id, front}
use Rattle.adb_sync.specs.Asks.{ask_id_of, ask_layout, is_in_place, ask_in_place, asked_at, ask_front, ask_of, past_ask}
use Rattle.adb_sync.specs.Answers.{answer_id_of, answer_layout, known_answer, answered_at, answer_front, answer_of_bytes, past_answer}

-- enough is there
pub there : (len need : ℕ) (told : Front SyncFault) → need ≤ len → cond (nat_lt len need) More told ≡ told
there len need told h = grind (arith, nat_tests)

-- where something is told, enough is there
pub told_there : (len need : ℕ) (told f : Front SyncFault) → (f ≡ More → ⊥) → cond (nat_lt len need) More told ≡ f
    → (need ≤ len) × (told ≡ f)
told_there len need told f apart e = grind (arith, nat_tests)

-- where a message is told, nothing is broken
whole_told : (offset : ℕ) (broken : Option SyncRule) (told : Front SyncFault) (m : ℕ)
    → or_bad offset broken told ≡ Whole m → (broken ≡ None) × (told ≡ Whole m)
whole_told offset None told m e = (refl, e)
whole_told offset (Some rule) told m e = absurd (cc)

-- a number in some bytes is there whatever follows them
pub number_there : (i : ℕ) (x y : List ℕ) → i + 4 ≤ length x → number_at i (x ++ y) ≡ number_at i x
number_there i x y h =
    ap (little_number 4) (drop-append-le i x y (omega (arith, h)))
    ∙ little_from-append 4 (drop i x) y (omega (arith, h, length-drop i x))

-- what is told stays so, whatever follows: of a body, and past an id
body_stays : (offset : ℕ) (layout : Layout) (n : ℕ) (x y : List ℕ) (f : Front SyncFault) → (f ≡ More → ⊥)
    → front_of_body offset layout n x ≡ f
    → front_of_body offset layout n (x ++ y) ≡ f
body_stays offset layout n x y f apart e =
    let b = body_len layout n in
    let all : Front SyncFault = Whole (4 + layout.head + b) in
    let h = told_there (length x) b (or_bad offset (body_fault layout (take b x)) all) f apart e in
    there (length (x ++ y)) b (or_bad offset (body_fault layout (take b (x ++ y))) all) (omega (arith, h, length-append x y))
    ∙ (ap (λ body. or_bad offset (body_fault layout body) all) (take-append-le b x y h.0) ∙ h.1)

or_bad_stays : (offset : ℕ) (broken : Option SyncRule) (told later f : Front SyncFault) → (told ≡ f → later ≡ f)
    → or_bad offset broken told ≡ f
    → or_bad offset broken later ≡ f
or_bad_stays offset None told later f stays e = stays e
or_bad_stays offset (Some rule) told later f stays e = e

past_id_stays : (offset : ℕ) (known : Result Layout SyncRule) (x y : List ℕ) (f : Front SyncFault)
    → ((layout : Layout) → known ≡ Ok layout → 4 ≤ layout.head) → (f ≡ More → ⊥)
    → front_past_id offset known x ≡ f → front_past_id offset known (x ++ y) ≡ f
past_id_stays offset (Err rule) x y f heads apart e = e
past_id_stays offset (Ok layout) x y f heads apart e =
    let hd = layout.head in
    let n = head_number layout x in
    let numbered : ℕ → List ℕ → Front SyncFault = λ k b. or_bad offset (limit_fault layout.limit k) (front_of_body offset layout k b) in
    let h = told_there (length x) hd (numbered n (drop hd x)) f apart e in
    let same : head_number layout (x ++ y) ≡ n = number_there (hd - 4) x y (omega (arith, h.0, heads layout refl)) in
    there (length (x ++ y)) hd (numbered (head_number layout (x ++ y)) (drop hd (x ++ y))) (omega (arith, h.0, length-append x y))
    ∙ (ap (λ k. numbered k (drop hd (x ++ y))) same
    ∙ (ap (numbered n) (drop-append-le hd x y h.0)
    ∙ or_bad_stays offset (limit_fault layout.limit n) (front_of_body offset layout n (drop hd x))
    (front_of_body offset layout n (drop hd x ++ y)) f
    (body_stays offset layout n (drop hd x) y f apart) h.1))

-- the bytes behind an id are a head and a body that break nothing
pub record IsBehind (layout : Layout) (rest : List ℕ) : Type 0 where
  pub head : layout.head ≤ length rest
  pub number : limit_fault layout.limit (head_number layout rest) ≡ None
  pub size : length rest ≡ layout.head + body_len layout (head_number layout rest)
  pub body : body_fault layout (drop layout.head rest) ≡ None

-- such bytes are told
behind_told : (offset : ℕ) (layout : Layout) (rest : List ℕ) → IsBehind layout rest
    → front_past_id offset (Ok layout) rest ≡ Whole (4 + length rest)
behind_told offset layout rest h =
    let hd = layout.head in
    let n = head_number layout rest in
    let b = body_len layout n in
    let tail = drop hd rest in
    let all : Front SyncFault = Whole (4 + hd + b) in
    let long : length tail ≡ b = omega (arith, h.size, length-drop hd rest) in
    there (length rest) hd (or_bad offset (limit_fault layout.limit n) (front_of_body offset layout n tail)) h.head
    ∙ (ap (λ o. or_bad offset o (front_of_body offset layout n tail)) h.number
    ∙ (there (length tail) b (or_bad offset (body_fault layout (take b tail)) all) (omega (arith, long))
    ∙ (ap (λ body. or_bad offset (body_fault layout body) all) (take_all b tail (omega (arith, long)))
    ∙ (ap (λ o. or_bad offset o all) h.body ∙ ap Whole (omega (arith, h.size))))))

-- what is told past an id are such bytes
pub record HasBehind (layout : Layout) (rest : List ℕ) (m : ℕ) : Type 0 where
  pub len : ℕ
  pub size : m ≡ 4 + len
  pub low : 4 ≤ len
  pub fits : len ≤ length rest
  pub is : IsBehind layout (take len rest)

same_whole : (n m : ℕ) → ◌≡◌ {A = Front SyncFault} (Whole n) (Whole m) → n ≡ m
same_whole n m e = cc

told_behind : (offset : ℕ) (layout : Layout) (rest : List ℕ) (m : ℕ) → 4 ≤ layout.head → front_past_id offset (Ok layout) rest ≡ Whole m
    → HasBehind layout rest m
told_behind offset layout rest m low e =
    let hd = layout.head in
    let n = head_number layout rest in
    let b = body_len layout n in
    let tail = drop hd rest in
    let all : Front SyncFault = Whole (4 + hd + b) in
    let head = told_there (length rest) hd
    (or_bad offset (limit_fault layout.limit n) (front_of_body offset layout n tail)) (Whole m) (λ c. cc) e in
    let number = whole_told offset (limit_fault layout.limit n) (front_of_body offset layout n tail) m head.1 in
    let body = told_there (length tail) b (or_bad offset (body_fault layout (take b tail)) all) (Whole m) (λ c. cc) number.1 in
    let good = whole_told offset (body_fault layout (take b tail)) all m body.1 in
    let p = take (hd + b) rest in
    let long : length p ≡ hd + b = omega (arith, length-take (hd + b) rest, length-drop hd rest, head.0, body.0) in
    let again : head_number layout p ≡ n =
    sym (number_there (hd - 4) p (drop (hd + b) rest) (omega (arith, long, low)))
    ∙ ap (number_at (hd - 4)) (take-append-drop (hd + b) rest) in
    let size : 4 + hd + b ≡ m = same_whole (4 + hd + b) m good.1 in
    record {
      len = hd + b;
      size = omega (arith, size);
      low = omega (arith, low);
      fits = omega (arith, head.0, body.0, length-drop hd rest);
      is = record {
        head = omega (arith, long);
        number = ap (limit_fault layout.limit) again ∙ number.0;
        size = long ∙ ap (λ k. hd + body_len layout k) (sym again);
        body = ap (body_fault layout) (drop-take hd b rest) ∙ good.0;
      };
    }

module _ {S : Type 0} (offset : S → ℕ) (layout_at : S → List ℕ → Result Layout SyncRule) where
  -- bytes are one message
  pub record IsMessage (s : S) (bytes : List ℕ) : Type 0 where
    pub layout : Layout
    pub id : 4 ≤ length bytes
    pub known : layout_at s (take 4 bytes) ≡ Ok layout
    pub behind : IsBehind layout (drop 4 bytes)

  -- a message is told
  pub message_told : (s : S) (bytes : List ℕ) → IsMessage s bytes → front offset layout_at s bytes ≡ Whole (length bytes)
  message_told s bytes m =
      there (length bytes) 4 (front_past_id (offset s) (layout_at s (take 4 bytes)) (drop 4 bytes)) m.id
      ∙ (ap (λ known. front_past_id (offset s) known (drop 4 bytes)) m.known
      ∙ (behind_told (offset s) m.layout (drop 4 bytes) m.behind ∙ ap Whole (omega (arith, m.id, length-drop 4 bytes))))

  module _ (heads : (s : S) (id : List ℕ) (layout : Layout) → layout_at s id ≡ Ok layout → 4 ≤ layout.head) where
    -- what is told is a message
    pub record HasMessage (s : S) (bytes : List ℕ) (m : ℕ) : Type 0 where
      pub low : 8 ≤ m
      pub fits : m ≤ length bytes
      pub is : IsMessage s (take m bytes)

    told_message : (s : S) (bytes : List ℕ) (m : ℕ) → front offset layout_at s bytes ≡ Whole m → HasMessage s bytes m
    told_message s bytes m e =
        let h = told_there (length bytes) 4 (front_past_id (offset s) (layout_at s (take 4 bytes)) (drop 4 bytes)) (Whole m) (λ c. cc) e in
        go (layout_at s (take 4 bytes)) refl h.0 h.1
      where
        go : (known : Result Layout SyncRule) → layout_at s (take 4 bytes) ≡ known → 4 ≤ length bytes
            → front_past_id (offset s) known (drop 4 bytes) ≡ Whole m → HasMessage s bytes m
        go (Err rule) is long told = absurd (cc)
        go (Ok layout) is long told =
            let b = told_behind (offset s) layout (drop 4 bytes) m (heads s (take 4 bytes) layout is) told in
            let parts : take b.len (drop 4 bytes) ≡ drop 4 (take m bytes) =
            sym (drop-take 4 b.len bytes) ∙ ap (λ (k : ℕ). drop 4 (take k bytes)) (sym b.size) in
            let all : m ≤ length bytes = omega (arith, b.size, b.fits, long, length-drop 4 bytes) in
            record {
              low = omega (arith, b.size, b.low);
              fits = all;
              is = record {
                layout = layout;
                id = omega (arith, b.size, all, length-take m bytes);
                known = ap (layout_at s) (take-take 4 m bytes (omega (arith, b.size))) ∙ is;
                behind = subst (IsBehind layout) parts b.is;
              };
            }

    stays : (s : S) (x y : List ℕ) (f : Front SyncFault) → (f ≡ More → ⊥) → front offset layout_at s x ≡ f
        → front offset layout_at s (x ++ y) ≡ f
    stays s x y f apart e =
        let past : List ℕ → List ℕ → Front SyncFault = λ id rest. front_past_id (offset s) (layout_at s id) rest in
        let h = told_there (length x) 4 (past (take 4 x) (drop 4 x)) f apart e in
        there (length (x ++ y)) 4 (past (take 4 (x ++ y)) (drop 4 (x ++ y))) (omega (arith, h.0, length-append x y))
        ∙ (ap (λ id. past id (drop 4 (x ++ y))) (take-append-le 4 x y h.0)
        ∙ (ap (past (take 4 x)) (drop-append-le 4 x y h.0)
        ∙ past_id_stays (offset s) (layout_at s (take 4 x)) (drop 4 x) y f (heads s (take 4 x)) apart h.1))

    alone : (s : S) (x : List ℕ) (m : ℕ) → front offset layout_at s x ≡ Whole m → front offset layout_at s (take m x) ≡ Whole m
    alone s x m e =
        let h = told_message s x m e in
        message_told s (take m x) h.is ∙ ap Whole (omega (arith, length-take m x, h.fits))

    -- a frame is a message
    pub framed_message : (s : S) (bytes : List ℕ) → front offset layout_at s bytes ≡ Whole (length bytes) → IsMessage s bytes
    framed_message s bytes e = subst (IsMessage s) (take_all (length bytes) bytes (omega arith)) (told_message s bytes (length bytes) e).is

    pub messages_are_framed : {V : Type 0} (item : S → List ℕ → V) (after : S → List ℕ → S) → IsFraming (front offset layout_at) item after
    messages_are_framed item after = record {
      empty = λ s. refl;
      bad = λ s x y fault e. stays s x y (Bad fault) (λ c. cc) e;
      whole = λ s x y n e. stays s x y (Whole n) (λ c. cc) e;
      fits = λ s x n e. let h = told_message s x n e in (omega (arith, h.low), h.fits);
      alone = alone;
    }

pub ask_head : (id : AskId) → 4 ≤ (ask_layout id).head
ask_head asked.Stat = omega arith
ask_head asked.List = omega arith
ask_head asked.Recv = omega arith
ask_head asked.Send = omega arith
ask_head asked.Data = omega arith
ask_head asked.Done = omega arith
ask_head asked.Quit = omega arith

pub ask_heads : (s : AskFormat) (id : List ℕ) (layout : Layout) → asked_at s id ≡ Ok layout → 4 ≤ layout.head
ask_heads s id layout e = go (ask_id_of id) e
  where
    by_place : (t : Bool) (one : AskId) → cond {A = Result Layout SyncRule} t (Ok (ask_layout one)) (Err BadPlace)
        ≡ Ok layout → 4 ≤ layout.head
    by_place true one is = let same : ask_layout one ≡ layout = cc in subst (λ (l : Layout). 4 ≤ l.head) same (ask_head one)
    by_place false one is = absurd (cc)

    go : (found : Option AskId) → ask_in_place s.sending found ≡ Ok layout → 4 ≤ layout.head
    go None is = absurd (cc)
    go (Some one) is = by_place (is_in_place s.sending one) one is

done_head : (list : Bool) → 4 ≤ (answer_layout list answered.Done).head
done_head true = omega arith
done_head false = omega arith

pub answer_head : (list : Bool) (id : AnswerId) → 4 ≤ (answer_layout list id).head
answer_head list answered.Stat = omega arith
answer_head list answered.Dent = omega arith
answer_head list answered.Data = omega arith
answer_head list answered.Done = done_head list
answer_head list answered.Okay = omega arith
answer_head list answered.Fail = omega arith

pub answer_heads : (s : AnswerFormat) (id : List ℕ) (layout : Layout) → answered_at s id ≡ Ok layout → 4 ≤ layout.head
answer_heads s id layout e = go (answer_id_of id) e
  where
    go : (found : Option AnswerId) → known_answer s.list found ≡ Ok layout → 4 ≤ layout.head
    go None is = absurd (cc)
    go (Some one) is = let same : answer_layout s.list one ≡ layout = cc in subst (λ (l : Layout). 4 ≤ l.head) same (answer_head s.list one)

pub asks_are_framed : IsFraming ask_front ask_of past_ask
asks_are_framed = messages_are_framed (λ format. format.offset) asked_at ask_heads ask_of past_ask

pub answers_are_framed : IsFraming answer_front answer_of_bytes past_answer
answers_are_framed = messages_are_framed (λ format. format.offset) answered_at answer_heads answer_of_bytes past_answer
