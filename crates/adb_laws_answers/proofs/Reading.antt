-- What a front of the words of a session asks, of devices of which the request for the model device selects the
-- first, and services are asked for there.
use Rattle.std.specs.Prelude.{ℕ, ◌+◌, ◌/◌, ◌%◌, ◌≡◌, ◌≤◌, ◌<◌, Bool, cond, List, [], ◌∷◌, ◌++◌, length, take, drop, codes}
use Rattle.std.specs.Prelude.{Option, Some, None}
use Rattle.std.proofs.Common.{refl, sym, ◌∙◌, ap, subst, arith, ◌⊎◌, inl, inr, zero, suc}
use Rattle.std.proofs.lemmas.Bool.{cases_lt, lt-ltb, le-ltb}
use Rattle.std.proofs.lemmas.List.{take-append-le}
use Rattle.std.proofs.Math.Seq.{take-append_seam}
use Rattle.adb_outside.specs.Bytes.{IsPrefixOf}
use Rattle.adb_registry.specs.Registry.{DeviceTable}
use Rattle.adb_request.specs.Requests.{request_at, found_behind, hex_value, hex_digit, hex_digits, hex_number}
use Rattle.adb_request.specs.Meaning.{meaning}
use Rattle.adb_request.specs.declared.cutting.Found.{Found}
use Rattle.adb_request.specs.declared.cutting.Found.TheVariants.{More, Whole}
use Rattle.adb_request.specs.declared.request.Request.TheVariants.{Service}
use Rattle.adb_reply.specs.Answer.{answer}
use Rattle.adb_reply.specs.declared.answer.Answer.{Answer}
use Rattle.adb_reply.specs.declared.answer.Next.TheVariants.{Select, Open}
use Rattle.adb_history.specs.Asking.{Asked, nothing_asked, after_answer, after_found, reads_on, asks_with}
use Rattle.adb_laws_answers.specs.Words.{IsKnown, selects, requests_for, words_of}
use Rattle.adb_laws_answers.specs.Asked.{Opens, HasOpened}
use Rattle.adb_laws_answers.proofs.Known.{begins_known, means_service}

-- a length that is spelled is read back
abbrev pub SpelledIsRead : Type 0
SpelledIsRead = (n : ℕ) → n < 65536 → hex_number (hex_digits n) ≡ Some n

-- what devices answer to the requests of sessions
pub record Leads (devices : DeviceTable) : Type 0 where
  pub selecting : answer devices.rows [] None (meaning (codes "host:transport:model-1")) ≡ record { bytes = codes "OKAY"; next = Select 1 }
  pub opening : (service : List ℕ) → length service ≤ 1024
      → answer devices.rows [] (Some 1) (Service service) ≡ record { bytes = []; next = Open 1 service }

-- ---- what bytes begin with
-- bytes that are short of the request that they begin
more_behind : (found : Option ℕ) (n have : ℕ) → found ≡ Some n → have < n → found_behind found have ≡ More
more_behind None n have is less = let clash : None ≡ Some n = is in cc
more_behind (Some zero) n have is less = absurd (let same : zero ≡ n = cc in omega (arith, same, less))
more_behind (Some (suc m)) n have is less =
    let same : suc m ≡ n = cc in ap (λ (b : Bool). cond b More (Whole (suc m))) (lt-ltb have (suc m) (omega (arith, same, less)))

whole_behind : (found : Option ℕ) (n have : ℕ) → found ≡ Some n → 0 < n → n ≤ have → found_behind found have ≡ Whole n
whole_behind None n have is some le = let clash : None ≡ Some n = is in cc
whole_behind (Some zero) n have is some le = absurd (let same : zero ≡ n = cc in omega (arith, same, some))
whole_behind (Some (suc m)) n have is some le =
    let same : suc m ≡ n = cc in
    ap (λ (b : Bool). cond b More (Whole (suc m))) (le-ltb have (suc m) (omega (arith, same, le))) ∙ ap Whole same

module _ (a b c d n : ℕ) (tail z : List ℕ) (value : hex_value a b c d ≡ Some n) where
  more_at : (front : List ℕ) → front ++ z ≡ a ∷ b ∷ c ∷ d ∷ tail → length front < 4 + n → request_at front ≡ More
  more_at (p ∷ q ∷ r ∷ s ∷ rest) is less =
      let first : p ≡ a = cc in
      let second : q ≡ b = cc in
      let third : r ≡ c = cc in
      let fourth : s ≡ d = cc in
      let same : hex_value p q r s ≡ hex_value a b c d = λ i. hex_value (first i) (second i) (third i) (fourth i) in
      more_behind (hex_value p q r s) n (length rest) (same ∙ value) (omega (arith, less))
  more_at _ is less = refl

-- a front that is as long as some bytes begins with them
pub record Past (head front z tail : List ℕ) : Type 0 where
  pub rest : List ℕ
  pub is : front ≡ head ++ rest
  pub left : rest ++ z ≡ tail

past : (head front z tail : List ℕ) → front ++ z ≡ head ++ tail → length head ≤ length front → Past head front z tail
past [] front z tail is le = record { rest = front; is = refl; left = is }
past (h ∷ head) [] z tail is le = absurd (omega (arith, le))
past (h ∷ head) (f ∷ front) z tail is le =
    let first : f ≡ h = cc in
    let later : front ++ z ≡ head ++ tail = cc in
    let p = past head front z tail later (omega (arith, le)) in
    record { rest = p.rest; is = (λ i. first i ∷ p.is i); left = p.left }

some_length : (front : List ℕ) → 0 < length front → (k : ℕ) × (length front ≡ suc k)
some_length [] some = absurd (omega (arith, some))
some_length (x ∷ front) some = (length front, refl)

module _ (devices : DeviceTable) (leads : Leads devices) (spelled : SpelledIsRead) where
  abbrev reads : ℕ → Asked → Asked
  reads k q = reads_on devices [] k q

  -- ---- one request
  still : (k : ℕ) (q : Asked) → request_at q.rest ≡ More → reads k q ≡ q
  still zero q more = refl
  still (suc k) q more = ap (λ (f : Found). after_found devices [] f (reads k) q) more

  reads_one : (k n : ℕ) (q : Asked) (a : Answer) → request_at q.rest ≡ Whole n
      → answer devices.rows [] q.selected (meaning (take n (drop 4 q.rest))) ≡ a → reads (suc k) q ≡ after_answer a (4 + n) (reads k) q
  reads_one k n q a whole is =
      ap (λ (f : Found). after_found devices [] f (reads k) q) whole ∙ ap (λ (x : Answer). after_answer x (4 + n) (reads k) q) is

  -- ---- behind the request that selects the device
  abbrev selected : List ℕ → Asked
  selected rest = record { replies = codes "OKAY"; used = 26; rest = rest; selected = Some 1; next = None }

  module _ (service text : List ℕ) (known : IsKnown service) (z : List ℕ) where
    some_bytes : 0 < length service
    some_bytes = go (begins_known service known.known)
      where
        go : ((rest : List ℕ) × (service ≡ 101 ∷ rest)) ⊎ ((rest : List ℕ) × (service ≡ 115 ∷ rest)) → 0 < length service
        go (inl (rest, is)) = omega (arith, ap length is)
        go (inr (rest, is)) = omega (arith, ap length is)

    abbrev n : ℕ
    n = length service

    value : hex_value (hex_digit (n / 4096 % 16)) (hex_digit (n / 256 % 16)) (hex_digit (n / 16 % 16)) (hex_digit (n % 16)) ≡ Some n
    value = let short = known.short in spelled n (omega (arith, short))

    asks_more : (k : ℕ) (front : List ℕ) → front ++ z ≡ (hex_digits n ++ service) ++ text → length front < 4 + n
        → reads k (selected front) ≡ selected front
    asks_more k front is less =
        still k (selected front)
        (more_at (hex_digit (n / 4096 % 16)) (hex_digit (n / 256 % 16)) (hex_digit (n / 16 % 16)) (hex_digit (n % 16))
        n (service ++ text) z value
        front is less)

    asks_whole : (k : ℕ) (front : List ℕ) → front ++ z ≡ (hex_digits n ++ service) ++ text → 4 + n ≤ length front
        → HasOpened service (reads (suc k) (selected front))
    asks_whole k front is le =
        let p = past (hex_digits n) front z (service ++ text) is (omega (arith, le)) in
        let long : length front ≡ suc (suc (suc (suc (length p.rest)))) = ap length p.is in
        let same : Asked = selected (hex_digits n ++ p.rest) in
        let whole : request_at (hex_digits n ++ p.rest) ≡ Whole n =
        whole_behind (hex_value (hex_digit (n / 4096 % 16)) (hex_digit (n / 256 % 16)) (hex_digit (n / 16 % 16)) (hex_digit (n % 16))) n
        (length p.rest) value some_bytes (omega (arith, long, le)) in
        let request : take n p.rest ≡ service =
        sym (take-append-le n p.rest z (omega (arith, long, le))) ∙ (ap (take n) p.left ∙ take-append_seam service text) in
        let one : reads (suc k) same ≡ after_answer (record { bytes = []; next = Open 1 service }) (4 + n) (reads k) same =
        reads_one k n same (record { bytes = []; next = Open 1 service }) whole
        (ap (λ (x : List ℕ). answer devices.rows [] (Some 1) (meaning x)) request
        ∙ (ap (answer devices.rows [] (Some 1)) (means_service service known.known) ∙ leads.opening service known.short)) in
        let used : 26 + (4 + n) ≡ length (requests_for service) = omega arith in
        let all : reads (suc k) (selected front) ≡ after_answer (record { bytes = []; next = Open 1 service }) (4 + n) (reads k) same =
        ap (λ (x : List ℕ). reads (suc k) (selected x)) p.is ∙ one in
        record {
          next = ap (λ (x : Asked). x.next) all;
          used = ap (λ (x : Asked). x.used) all ∙ used;
          replies = ap (λ (x : Asked). x.replies) all;
        }

    -- ---- from the first byte on
    abbrev begun : List ℕ → Asked
    begun rest = record nothing_asked { rest = rest }

    asks_first : (k : ℕ) (front : List ℕ) → front ++ z ≡ selects ++ ((hex_digits n ++ service) ++ text) → length front < 26
        → reads k (begun front) ≡ begun front
    asks_first k front is less =
        still k (begun front)
        (more_at 48 48 49 54 22 (codes "host:transport:model-1" ++ ((hex_digits n ++ service) ++ text)) z refl front is less)

    selects_one : (k : ℕ) (rest : List ℕ) → reads (suc k) (begun (selects ++ rest)) ≡ reads k (selected rest)
    selects_one k rest =
        reads_one k 22 (begun (selects ++ rest)) (record { bytes = codes "OKAY"; next = Select 1 })
        (whole_behind (Some 22) 22 (length (codes "host:transport:model-1" ++ rest)) refl (omega arith) (omega arith))
        leads.selecting

    opens : (front : List ℕ) → front ++ z ≡ words_of service text → Opens service front (asks_with devices [] front nothing_asked)
    opens front is = go (cases_lt (length front) 26)
      where
        all : front ++ z ≡ selects ++ ((hex_digits n ++ service) ++ text)
        all = is

        long : length (requests_for service) ≡ 26 + (4 + n)
        long = omega arith

        go : (length front < 26) ⊎ (26 ≤ length front) → Opens service front (reads (length front) (begun front))
        go (inl less) = record {
          asks = λ _. ap (λ (x : Asked). x.next) (asks_first (length front) front all less);
          opened = λ le. absurd (omega (arith, le, long, less));
        }
        go (inr le) = by (cases_lt (length p.rest) (4 + n))
          where
            p : Past selects front z ((hex_digits n ++ service) ++ text)
            p = past selects front z ((hex_digits n ++ service) ++ text) all le

            whole : length front ≡ suc (25 + length p.rest)
            whole = let long = ap length p.is in omega (arith, long)

            first : reads (length front) (begun front) ≡ reads (suc (24 + length p.rest)) (selected p.rest)
            first =
                let shorter : 25 + length p.rest ≡ suc (24 + length p.rest) = omega arith in
                let there : reads (length front) (begun front) ≡ reads (suc (25 + length p.rest)) (begun (selects ++ p.rest)) =
                λ i. reads (whole i) (begun (p.is i)) in
                there ∙ (selects_one (25 + length p.rest) p.rest ∙ ap (λ (k : ℕ). reads k (selected p.rest)) shorter)

            by : (length p.rest < 4 + n) ⊎ (4 + n ≤ length p.rest) → Opens service front (reads (length front) (begun front))
            by (inl less) = record {
              asks = λ _. ap (λ (x : Asked). x.next) (first ∙ asks_more (suc (24 + length p.rest)) p.rest p.left less);
              opened = λ most. absurd (omega (arith, most, long, less, whole));
            }
            by (inr more) = record {
              asks = λ less. absurd (omega (arith, less, long, more, whole));
              opened = λ _. subst (HasOpened service) (sym first) (asks_whole (24 + length p.rest) p.rest p.left more);
            }

  -- What a front of the words of a session asks.
  pub opens_service : (service text front : List ℕ) → IsKnown service → IsPrefixOf front (words_of service text)
      → Opens service front (asks_with devices [] front nothing_asked)
  opens_service service text front known first = opens service text known first.0 front first.1
