-- What follows from reading requests: on what was asked before, on the bytes past them, and on what comes last.
use Rattle.std.proofs.Common.{ℕ, ◌+◌, ◌≡◌, ◌≤◌, cond, List, ◌∷◌, ◌++◌, length, take, drop, Option, Some, None, refl, sym, ◌∙◌, ap}
use Rattle.std.proofs.Common.{append_assoc}
use Rattle.std.proofs.Common.{arith, zero, suc, ltb}
use Rattle.std.proofs.lemmas.List.{length-append, length-drop, drop-drop, drop-append-le}
use Rattle.std.proofs.lemmas.Bool.Decides.{nat_tests}
use Rattle.adb_registry.specs.Registry.{DeviceTable}
use Rattle.adb_forward.specs.declared.row.ForwardRow.{ForwardRow}
use Rattle.adb_request.specs.Requests.{request_at, found_behind, hex_value}
use Rattle.adb_request.specs.Meaning.{meaning}
use Rattle.adb_request.specs.declared.cutting.Found.{Found}
use Rattle.adb_request.specs.declared.cutting.Found.TheVariants.{More, Malformed, Whole}
use Rattle.adb_reply.specs.Answer.{answer}
use Rattle.adb_reply.specs.declared.answer.Next.{Next}
use Rattle.adb_reply.specs.declared.answer.Next.TheVariants.{Close, Select, Track, Open, Bind, Rebind, Unbind, UnbindAll, Stop}
use Rattle.adb_history.specs.Asking.{Asked, replied, after_next, after_found, reads_on, asks_with}

-- ---- a request lies within the bytes
fits_test : (m k len : ℕ) → cond (ltb m (suc k)) More (Whole (suc k)) ≡ Whole len → len ≤ m
fits_test m k len e = grind (arith, nat_tests)

fits_behind : (h : Option ℕ) (m len : ℕ) → found_behind h m ≡ Whole len → len ≤ m
fits_behind None m len e = cc
fits_behind (Some zero) m len e = cc
fits_behind (Some (suc k)) m len e = fits_test m k len e

pub request_fits : (x : List ℕ) (len : ℕ) → request_at x ≡ Whole len → 4 + len ≤ length x
request_fits (a ∷ b ∷ c ∷ d ∷ r) len e = let le = fits_behind (hex_value a b c d) (length r) len e in omega (arith, le)
request_fits _ len e = cc

-- ---- what was asked before
-- what is asked, behind what was asked before
abbrev pub behind : Asked → Asked → Asked
behind before q =
    record { replies = before.replies ++ q.replies; used = before.used + q.used; rest = q.rest; selected = q.selected; next = q.next }

-- ---- the bytes past the requests
pub record Unused (input : List ℕ) (q : Asked) : Type 0 where
  pub within : q.used ≤ length input
  pub rest : q.rest ≡ drop q.used input

-- ---- what comes last
-- a request that selects a device is not the last
abbrev pub EndsReading : Option Next → Type 0
EndsReading None = Unit {0}
EndsReading (Some (Select id)) = ⊥
EndsReading (Some _) = Unit {0}

module _ (devices : DeviceTable) (forwards : List (ℕ × ForwardRow)) where
  abbrev reads : ℕ → Asked → Asked
  reads k q = reads_on devices forwards k q

  module _ (before : Asked) where
    replied_behind : (reply : List ℕ) (size : ℕ) (q : Asked) → replied reply size (behind before q) ≡ behind before (replied reply size q)
    replied_behind reply size q =
        let joined : (before.replies ++ q.replies) ++ reply ≡ before.replies ++ (q.replies ++ reply) =
        append_assoc before.replies q.replies reply in
        let sum : before.used + q.used + size ≡ before.used + (q.used + size) = omega arith in
        λ i. record { replies = joined i; used = sum i; rest = drop size q.rest; selected = q.selected; next = q.next }

    next_behind : (next : Next) (reply : List ℕ) (size : ℕ) (others : Asked → Asked) (q : Asked)
        → ((x : Asked) → others (behind before x) ≡ behind before (others x))
        → after_next next reply size others (behind before q) ≡ behind before (after_next next reply size others q)
    next_behind (Select id) reply size others q rest =
        ap (λ (x : Asked). others (record x { selected = Some id })) (replied_behind reply size q)
        ∙ rest (record (replied reply size q) { selected = Some id })
    next_behind Close reply size others q rest = ap (λ (x : Asked). record x { next = Some Close }) (replied_behind reply size q)
    next_behind (Track long) reply size others q rest = ap (λ (x : Asked). record x { next = Some (Track long) })
        (replied_behind reply size q)
    next_behind (Open transport service) reply size others q rest =
        ap (λ (x : Asked). record x { next = Some (Open transport service) }) (replied_behind reply size q)
    next_behind (Bind transport local remote chosen) reply size others q rest =
        ap (λ (x : Asked). record x { next = Some (Bind transport local remote chosen) }) (replied_behind reply size q)
    next_behind (Rebind transport local remote) reply size others q rest =
        ap (λ (x : Asked). record x { next = Some (Rebind transport local remote) }) (replied_behind reply size q)
    next_behind (Unbind local) reply size others q rest = ap (λ (x : Asked). record x { next = Some (Unbind local) })
        (replied_behind reply size q)
    next_behind UnbindAll reply size others q rest = ap (λ (x : Asked). record x { next = Some UnbindAll }) (replied_behind reply size q)
    next_behind Stop reply size others q rest = ap (λ (x : Asked). record x { next = Some Stop }) (replied_behind reply size q)

    found_behind_it : (found : Found) (others : Asked → Asked) (q : Asked)
        → ((x : Asked) → others (behind before x) ≡ behind before (others x))
        → after_found devices forwards found others (behind before q) ≡ behind before (after_found devices forwards found others q)
    found_behind_it More others q rest = refl
    found_behind_it Malformed others q rest = refl
    found_behind_it (Whole len) others q rest =
        let a = answer devices.rows forwards q.selected (meaning (take len (drop 4 q.rest))) in
        next_behind a.next a.bytes (4 + len) others q rest

    reads_behind : (k : ℕ) (q : Asked) → reads k (behind before q) ≡ behind before (reads k q)
    reads_behind zero q = refl
    reads_behind (suc k) q = found_behind_it (request_at q.rest) (reads k) q (λ x. reads_behind k x)

    -- what was asked before changes no answer
    pub asks_behind : (bytes : List ℕ) (q : Asked) → asks_with devices forwards bytes (behind before q)
        ≡ behind before (asks_with devices forwards bytes q)
    asks_behind bytes q = reads_behind (length (q.rest ++ bytes)) (record q { rest = q.rest ++ bytes })

  replied_unused : (input reply : List ℕ) (size : ℕ) (q : Asked) → size ≤ length q.rest → Unused input q
      → Unused input (replied reply size q)
  replied_unused input reply size q le h = record {
    within = omega (arith, le, ap length h.rest, length-drop q.used input, h.within);
    rest = ap (drop size) h.rest ∙ drop-drop size q.used input;
  }

  next_unused : (next : Next) (input reply : List ℕ) (size : ℕ) (others : Asked → Asked) (q : Asked) → size ≤ length q.rest → Unused input q
      → ((x : Asked) → Unused input x → Unused input (others x)) → Unused input (after_next next reply size others q)
  next_unused next input reply size others q le h rest = go next
    where
      u : Unused input (replied reply size q)
      u = replied_unused input reply size q le h

      go : (next : Next) → Unused input (after_next next reply size others q)
      go (Select id) = rest (record (replied reply size q) { selected = Some id }) (record { within = u.within; rest = u.rest })
      go _ = record { within = u.within; rest = u.rest }

  found_unused : (found : Found) (input : List ℕ) (others : Asked → Asked) (q : Asked) → request_at q.rest ≡ found → Unused input q
      → ((x : Asked) → Unused input x → Unused input (others x)) → Unused input (after_found devices forwards found others q)
  found_unused More input others q is h rest = h
  found_unused Malformed input others q is h rest = record { within = h.within; rest = h.rest }
  found_unused (Whole len) input others q is h rest =
      let a = answer devices.rows forwards q.selected (meaning (take len (drop 4 q.rest))) in
      next_unused a.next input a.bytes (4 + len) others q (request_fits q.rest len is) h rest

  reads_unused : (k : ℕ) (input : List ℕ) (q : Asked) → Unused input q → Unused input (reads k q)
  reads_unused zero input q h = h
  reads_unused (suc k) input q h = found_unused (request_at q.rest) input (reads k) q refl h (λ x i. reads_unused k input x i)

  pub asks_unused : (input bytes : List ℕ) (q : Asked) → Unused input q → Unused (input ++ bytes) (asks_with devices forwards bytes q)
  asks_unused input bytes q h = reads_unused (length (q.rest ++ bytes)) (input ++ bytes) (record q { rest = q.rest ++ bytes }) (record {
    within = omega (arith, h.within, length-append input bytes);
    rest = ap (λ x. x ++ bytes) h.rest ∙ sym (drop-append-le q.used input bytes h.within);
  })

  next_ends : (next : Next) (reply : List ℕ) (size : ℕ) (others : Asked → Asked) (q : Asked) → EndsReading q.next
      → ((x : Asked) → EndsReading x.next → EndsReading (others x).next) → EndsReading (after_next next reply size others q).next
  next_ends (Select id) reply size others q h rest = rest (record (replied reply size q) { selected = Some id }) h
  next_ends _ reply size others q h rest = tt

  found_ends : (found : Found) (others : Asked → Asked) (q : Asked) → EndsReading q.next
      → ((x : Asked) → EndsReading x.next → EndsReading (others x).next) → EndsReading (after_found devices forwards found others q).next
  found_ends More others q h rest = h
  found_ends Malformed others q h rest = tt
  found_ends (Whole len) others q h rest =
      let a = answer devices.rows forwards q.selected (meaning (take len (drop 4 q.rest))) in
      next_ends a.next a.bytes (4 + len) others q h rest

  reads_ends : (k : ℕ) (q : Asked) → EndsReading q.next → EndsReading (reads k q).next
  reads_ends zero q h = h
  reads_ends (suc k) q h = found_ends (request_at q.rest) (reads k) q h (λ x i. reads_ends k x i)

  pub asks_ends : (bytes : List ℕ) (q : Asked) → EndsReading q.next → EndsReading (asks_with devices forwards bytes q).next
  asks_ends bytes q h = reads_ends (length (q.rest ++ bytes)) (record q { rest = q.rest ++ bytes }) h
