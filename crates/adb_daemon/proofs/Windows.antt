-- A stream's writes are within its window.
use Rattle.std.specs.Prelude.{ℕ, ◌≡◌, ◌≢◌, ◌≤◌, ◌+◌, ◌==◌, min, if◌then◌else◌, Bool, true, false}
use Rattle.std.specs.Prelude.{List, [], ◌∷◌, length, take, zero, suc, Option, Some, None, unwrap_or}
use Rattle.std.specs.List.{concat}
use Rattle.std.proofs.Common.{refl, sym, arith}
use borrow.Author.Tests.{false-eqb}
use Rattle.std.proofs.lemmas.List.{length-append, length-take}
use Rattle.adb_stream.specs.Flow.{wrote, acknowledged}
use Rattle.adb_stream.specs.declared.flow.Flow.{Flow}
use Rattle.adb_stream.specs.declared.flow.Flow.TheVariants as flows
use Rattle.adb_device_streams.specs.Stream.{Row, unsent, next_payload, row_past, row_past_all, row_written}
use Rattle.adb_device_streams.specs.Stream.{writes_at, writes, room_of, first_flow}
use Rattle.adb_daemon.specs.Streams.{free_of, IsWithin}

-- more acknowledgements and credit
module _ (flow : Flow) (count bytes acks words : ℕ) where
  pub within_more : (acks' words' : ℕ) → acks ≤ acks' → words ≤ words' → IsWithin count bytes acks words flow
      → IsWithin count bytes acks' words' flow
  within_more acks' words' more given = by flow
    where
      by : (f : Flow) → IsWithin count bytes acks words f → IsWithin count bytes acks' words' f
      by (flows.One window) within = omega (arith, more, within)
      by (flows.Credit credit) within = omega (arith, given, within)

-- a write goes
module _ (flow : Flow) (most n : ℕ) (rest : List ℕ) where
  past_one : (count bytes acks words : ℕ) → n ≡ length (take (room_of flow most) rest) → n ≢ 0 → IsWithin count bytes acks words flow
      → IsWithin (count + 1) (bytes + n) acks words (wrote n flow)
  past_one count bytes acks words is some = by flow is
    where
      go : (t : Bool) → n ≡ length (take (min most (if t then 0 else most)) rest) → count + free_of t ≤ acks → (count + 1) + 0 ≤ acks
      go true none held = absurd (some (omega (arith, none, length-take (min most 0) rest)))
      go false next held = omega (arith, held)

      by : (f : Flow) → n ≡ length (take (room_of f most) rest) → IsWithin count bytes acks words f
          → IsWithin (count + 1) (bytes + n) acks words (wrote n f)
      by (flows.One window) next within = go window.outstanding next within
      by (flows.Credit credit) next within = omega (arith, next, within, length-take (min most credit.to_send) rest)

-- all the writes that the window lets go
module _ (most : ℕ) (acks words : ℕ) where
  within_at : (k : ℕ) (row : Row) (count bytes : ℕ) → IsWithin count bytes acks words row.flow
      → IsWithin (count + length (writes_at k most row)) (bytes + length (concat (writes_at k most row))) acks words
      (row_past_all (writes_at k most row) row).flow
  within_at zero row count bytes within = same row.flow count bytes within
    where
      same : (flow : Flow) (c b : ℕ) → IsWithin c b acks words flow → IsWithin (c + 0) (b + 0) acks words flow
      same (flows.One window) c b h = omega (arith, h)
      same (flows.Credit credit) c b h = omega (arith, h)
  within_at (suc k) row count bytes within = go (length (next_payload most row) == 0) refl
      (within_at k (row_past (next_payload most row) row) (count + 1) (bytes + length (next_payload most row)))
    where
      same : (flow : Flow) (c b : ℕ) → IsWithin c b acks words flow → IsWithin (c + 0) (b + 0) acks words flow
      same (flows.One window) c b h = omega (arith, h)
      same (flows.Credit credit) c b h = omega (arith, h)

      moved : (flow : Flow) (payload : List ℕ) (more : List (List ℕ)) → IsWithin ((count + 1) + length more)
          ((bytes + length payload) + length (concat more)) acks words flow
          → IsWithin (count + length (payload ∷ more)) (bytes + length (concat (payload ∷ more))) acks words flow
      moved (flows.One window) payload more h = omega (arith, h)
      moved (flows.Credit credit) payload more h = omega (arith, h, length-append payload (concat more))

      go : (t : Bool) → (length (next_payload most row) == 0) ≡ t
          → (IsWithin (count + 1) (bytes + length (next_payload most row)) acks words (row_past (next_payload most row) row).flow
          → IsWithin ((count + 1) + length (writes_at k most (row_past (next_payload most row) row)))
          ((bytes + length (next_payload most row)) + length (concat (writes_at k most (row_past (next_payload most row) row)))) acks words
          (row_past_all (writes_at k most (row_past (next_payload most row) row)) (row_past (next_payload most row) row)).flow)
          → IsWithin (count + length (if t then [] else next_payload most row ∷ writes_at k most (row_past (next_payload most row) row)))
          (bytes + length
          (concat (if t then [] else next_payload most row
          ∷ writes_at k most (row_past (next_payload most row) row)))) acks words
          (row_past_all (if t then [] else next_payload most row ∷ writes_at k most (row_past (next_payload most row) row)) row).flow
      go true is later = same row.flow count bytes within
      go false is later =
          moved (row_past_all (writes_at k most (row_past (next_payload most row) row))
          (row_past (next_payload most row) row)).flow (next_payload most row)
          (writes_at k most (row_past (next_payload most row) row))
          (later (past_one row.flow most (length (next_payload most row)) (unsent row) count bytes acks words refl
          (false-eqb (length (next_payload most row)) 0 (sym is)) within))

  pub within_written : (row : Row) (count bytes : ℕ) → IsWithin count bytes acks words row.flow
      → IsWithin (count + length (writes most row)) (bytes + length (concat (writes most row))) acks words (row_written most row).flow
  within_written row count bytes within = within_at (length (unsent row)) row count bytes within

-- an OKAY came
pub within_acked : (flow : Flow) (word : Option ℕ) (count bytes acks words : ℕ) → IsWithin count bytes acks words flow
    → IsWithin count bytes (1 + acks) (unwrap_or word 0 + words) (acknowledged word flow)
within_acked (flows.One window) word count bytes acks words within = omega (arith, within)
within_acked (flows.Credit credit) None count bytes acks words within = omega (arith, within)
within_acked (flows.Credit credit) (Some more) count bytes acks words within = omega (arith, within)

-- an OPEN came
pub within_first : (given : Option ℕ) (acks words : ℕ) → IsWithin 0 0 (1 + acks) (unwrap_or given 0 + words) (first_flow given)
within_first None acks words = omega arith
within_first (Some given) acks words = omega arith
