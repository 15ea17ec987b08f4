-- Requests that are read piece by piece are those that are read at once.
use Rattle.std.proofs.Common.{ℕ, ◌+◌, ◌≡◌, ◌≤◌, cond, List, [], ◌∷◌, ◌++◌, length, take, drop, Option, Some, None, refl, sym, ◌∙◌}
use Rattle.std.proofs.Common.{ap, append_assoc, arith, zero, suc, ltb}
use Rattle.std.proofs.lemmas.List.{length-append, length-drop, drop-append-le, take-append-le}
use Rattle.std.proofs.lemmas.Bool.Decides.{nat_tests}
use Rattle.adb_registry.specs.Registry.{DeviceTable}
use Rattle.adb_forward.specs.declared.row.ForwardRow.{ForwardRow}
use Rattle.adb_request.specs.Requests.{request_at, found_behind, hex_value}
use Rattle.adb_request.specs.Meaning.{meaning}
use Rattle.adb_request.specs.declared.cutting.Found.{Found}
use Rattle.adb_request.specs.declared.cutting.Found.TheVariants.{More, Malformed, Whole}
use Rattle.adb_reply.specs.Answer.{answer}
use Rattle.adb_reply.specs.declared.answer.Next.{Next}
use Rattle.adb_reply.specs.declared.answer.Next.TheVariants.{Close, Select, Track, Open, Bind, Rebind, Unbind, UnbindAll, Stop}
use Rattle.adb_history.specs.Asking.{Asked, replied, after_next, after_found, reads_on}
use Rattle.adb_history.specs.Pieces.{AreReadAtOnce}
use Rattle.adb_history.proofs.Asked.{request_fits}

-- ---- a whole request stays one, whatever follows
whole_test : (m n k len : ℕ) → m ≤ n → cond (ltb m (suc k)) More (Whole (suc k)) ≡ Whole len
    → cond (ltb n (suc k)) More (Whole (suc k)) ≡ Whole len
whole_test m n k len le e = grind (arith, nat_tests)

after_whole : (h : Option ℕ) (m n len : ℕ) → m ≤ n → found_behind h m ≡ Whole len → found_behind h n ≡ Whole len
after_whole None m n len le e = cc
after_whole (Some zero) m n len le e = cc
after_whole (Some (suc k)) m n len le e = whole_test m n k len le e

whole_front : (x y : List ℕ) (len : ℕ) → request_at x ≡ Whole len → request_at (x ++ y) ≡ Whole len
whole_front (a ∷ b ∷ c ∷ d ∷ r) y len e = after_whole (hex_value a b c d) (length r) (length (r ++ y)) len
    (omega (arith, length-append r y)) e
whole_front _ y len e = cc

-- what is asked, with more bytes that are not read yet
abbrev more : List ℕ → Asked → Asked
more bytes q = record q { rest = q.rest ++ bytes }

module _ (devices : DeviceTable) (forwards : List (ℕ × ForwardRow)) where
  abbrev reads : ℕ → Asked → Asked
  reads k q = reads_on devices forwards k q

  -- ---- more turns than bytes change nothing
  next_same : (next : Next) (reply : List ℕ) (size : ℕ) (f g : Asked → Asked) (q : Asked)
      → ((id : ℕ) → f (record (replied reply size q) { selected = Some id }) ≡ g (record (replied reply size q) { selected = Some id }))
      → after_next next reply size f q ≡ after_next next reply size g q
  next_same (Select id) reply size f g q same = same id
  next_same _ reply size f g q same = refl

  none_there : (q : Asked) (rest : List ℕ) (f : Asked → Asked) → q.rest ≡ rest → length rest ≤ 0
      → after_found devices forwards (request_at q.rest) f q ≡ q
  none_there q [] f is le = ap (λ (x : List ℕ). after_found devices forwards (request_at x) f q) is
  none_there q (b ∷ rest) f is le = absurd (omega (arith, le))

  enough : (k m : ℕ) (q : Asked) → length q.rest ≤ k → length q.rest ≤ m → reads k q ≡ reads m q
  enough zero zero q h i = refl
  enough zero (suc m) q h i = sym (none_there q q.rest (reads m) refl h)
  enough (suc k) zero q h i = none_there q q.rest (reads k) refl i
  enough (suc k) (suc m) q h i = go (request_at q.rest) refl (λ x a b. enough k m x a b)
    where
      go : (found : Found) → request_at q.rest ≡ found → ((x : Asked) → length x.rest ≤ k → length x.rest ≤ m → reads k x ≡ reads m x)
          → after_found devices forwards found (reads k) q ≡ after_found devices forwards found (reads m) q
      go More is others = refl
      go Malformed is others = refl
      go (Whole len) is others =
          let a = answer devices.rows forwards q.selected (meaning (take len (drop 4 q.rest))) in
          let fits = request_fits q.rest len is in
          let shorter : length (drop (4 + len) q.rest) + (4 + len) ≡ length q.rest = omega (arith, fits, length-drop (4 + len) q.rest) in
          next_same a.next a.bytes (4 + len) (reads k) (reads m) q
          (λ id. others (record (replied a.bytes (4 + len) q) { selected = Some id }) (omega (arith, shorter, h))
          (omega (arith, shorter, i)))

  -- ---- a piece more
  abbrev all : Asked → Asked
  all q = reads (length q.rest) q

  all_first : (q : Asked) → all q ≡ after_found devices forwards (request_at q.rest) all q
  all_first q = go (length q.rest) refl
    where
      go : (k : ℕ) → length q.rest ≡ k → reads k q ≡ after_found devices forwards (request_at q.rest) all q
      go zero is = sym (none_there q q.rest all refl (omega (arith, is)))
      go (suc k) is = by (request_at q.rest) refl
        where
          by : (found : Found) → request_at q.rest ≡ found → after_found devices forwards found (reads k) q
              ≡ after_found devices forwards found all q
          by More e = refl
          by Malformed e = refl
          by (Whole len) e =
              let a = answer devices.rows forwards q.selected (meaning (take len (drop 4 q.rest))) in
              let fits = request_fits q.rest len e in
              let shorter : length (drop (4 + len) q.rest) + (4 + len) ≡ length q.rest =
              omega (arith, fits, length-drop (4 + len) q.rest) in
              next_same a.next a.bytes (4 + len) (reads k) all q
              (λ id. enough k (length (drop (4 + len) q.rest)) (record (replied a.bytes (4 + len) q) { selected = Some id })
              (omega (arith, shorter, is)) (omega arith))

  next_more : (next : Next) (reply : List ℕ) (size : ℕ) (bytes : List ℕ) (q : Asked) → size ≤ length q.rest
      → ((id : ℕ) → (all (record (replied reply size q) { selected = Some id })).next ≡ None
      → all (more bytes (all (record (replied reply size q) { selected = Some id })))
      ≡ all (more bytes (record (replied reply size q) { selected = Some id })))
      → (after_next next reply size all q).next ≡ None
      → all (more bytes (after_next next reply size all q)) ≡ after_next next reply size all (more bytes q)
  next_more (Select id) reply size bytes q le rest on =
      rest id on
      ∙ ap (λ (x : List ℕ). all (record (replied reply size q) { rest = x; selected = Some id }))
      (sym (drop-append-le size q.rest bytes le))
  next_more Close reply size bytes q le rest on = let clash : Some Close ≡ None = on in cc
  next_more (Track long) reply size bytes q le rest on = let clash : Some (Track long) ≡ None = on in cc
  next_more (Open transport service) reply size bytes q le rest on = let clash : Some (Open transport service) ≡ None = on in cc
  next_more (Bind transport local remote chosen) reply size bytes q le rest on =
      let clash : Some (Bind transport local remote chosen) ≡ None = on in cc
  next_more (Rebind transport local remote) reply size bytes q le rest on =
      let clash : Some (Rebind transport local remote) ≡ None = on in cc
  next_more (Unbind local) reply size bytes q le rest on = let clash : Some (Unbind local) ≡ None = on in cc
  next_more UnbindAll reply size bytes q le rest on = let clash : Some UnbindAll ≡ None = on in cc
  next_more Stop reply size bytes q le rest on = let clash : Some Stop ≡ None = on in cc

  -- bytes that come later are read with those that are left
  later : (k : ℕ) (bytes : List ℕ) (q : Asked) → length q.rest ≤ k → (all q).next ≡ None → all (more bytes (all q)) ≡ all (more bytes q)
  later zero bytes q h on = ap (λ (x : Asked). all (more bytes x)) (all_first q ∙ none_there q q.rest all refl h)
  later (suc k) bytes q h on = go (request_at q.rest) refl (λ x le last. later k bytes x le last)
    where
      go : (found : Found) → request_at q.rest ≡ found
          → ((x : Asked) → length x.rest ≤ k → (all x).next ≡ None → all (more bytes (all x)) ≡ all (more bytes x))
          → all (more bytes (all q)) ≡ all (more bytes q)
      go More is others = ap (λ (x : Asked). all (more bytes x)) (all_first q ∙ ap (λ (f : Found). after_found devices forwards f all q) is)
      go Malformed is others =
          let clash : Some Close ≡ None =
          sym (ap (λ (x : Asked). x.next) (all_first q ∙ ap (λ (f : Found). after_found devices forwards f all q) is)) ∙ on in cc
      go (Whole len) is others =
          let request = take len (drop 4 q.rest) in
          let a = answer devices.rows forwards q.selected (meaning request) in
          let fits = request_fits q.rest len is in
          let shorter : length (drop (4 + len) q.rest) + (4 + len) ≡ length q.rest = omega (arith, fits, length-drop (4 + len) q.rest) in
          let one : all q ≡ after_next a.next a.bytes (4 + len) all q =
          all_first q ∙ ap (λ (f : Found). after_found devices forwards f all q) is in
          let text : take len (drop 4 (q.rest ++ bytes)) ≡ request =
          ap (take len) (drop-append-le 4 q.rest bytes (omega (arith, fits)))
          ∙ take-append-le len (drop 4 q.rest) bytes (omega (arith, fits, length-drop 4 q.rest)) in
          let both : all (more bytes q) ≡ after_next a.next a.bytes (4 + len) all (more bytes q) =
          all_first (more bytes q)
          ∙ (ap (λ (f : Found). after_found devices forwards f all (more bytes q)) (whole_front q.rest bytes len is)
          ∙ ap (λ (x : List ℕ). after_next (answer devices.rows forwards q.selected (meaning x)).next
          (answer devices.rows forwards q.selected (meaning x)).bytes
          (4 + len) all (more bytes q)) text) in
          ap (λ (x : Asked). all (more bytes x)) one
          ∙ (next_more a.next a.bytes (4 + len) bytes q fits
          (λ id last. others (record (replied a.bytes (4 + len) q) { selected = Some id }) (omega (arith, shorter, h)) last)
          (sym (ap (λ (x : Asked). x.next) one) ∙ on)
          ∙ sym both)

  -- Reading in pieces is reading at once, where the client still asks after the first piece.
  pub asks_pieces : AreReadAtOnce devices forwards
  asks_pieces first second q on =
      later (length (q.rest ++ first)) second (more first q) (omega arith) on
      ∙ ap (λ (x : List ℕ). all (record q { rest = x })) (append_assoc q.rest first second)
