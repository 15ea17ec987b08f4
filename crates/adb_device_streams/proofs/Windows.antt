-- The writes that a window lets go.
use Rattle.std.specs.Prelude.{ℕ, ◌-◌, ◌≡◌, ◌≢◌, ◌≤◌, ◌<◌, ◌==◌, cond, Some, None, Bool, true, false, List, [], ◌∷◌, ◌++◌, length, refl}
use Rattle.std.specs.Prelude.{zero, suc}
use Rattle.std.proofs.Common.{◌∙◌, ap, sym, subst, arith}
use borrow.Author.Tests.{false-eqb}
use Rattle.std.proofs.lemmas.Bool.{eq-eqb, ne_eqb}
use Rattle.std.proofs.lemmas.List.{append-nil, append_assoc, length-append, length-drop, length-take}
use Rattle.adb_device_streams.specs.Service.{service_answer}
use Rattle.adb_device_streams.specs.declared.stream.Stream.{Stream}
use Rattle.adb_device_streams.specs.declared.writes.Outgoing.{Outgoing}
use Rattle.adb_device_streams.specs.Stream.{Row, StandsFor, MakesWrite, Writes, room_of, unsent, next_payload, row_past, writes_at, writes}
use Rattle.adb_device_streams.specs.Stream.{row_past_all}
use Rattle.adb_device_streams.specs.Stream.{row_written, wrte, packet_bytes, writes_bytes}

-- the writes where there is a payload, and where there is none
with_more : ℕ → ℕ → Row → Bool → List (List ℕ)
with_more k most row none = cond none [] (next_payload most row ∷ writes_at k most (row_past (next_payload most row) row))

-- less is left past a write
less_left : (row : Row) (payload : List ℕ) → length (unsent (row_past payload row)) ≡ length (unsent row) - length payload
less_left row payload =
    let all = (service_answer row.kind row.first row.past).bytes in
    omega (arith, length-drop (length (row.sent ++ payload)) all, length-drop (length row.sent) all, length-append row.sent payload)

-- no payload is longer than what is left
payload_within : (most : ℕ) (row : Row) → length (next_payload most row) ≤ length (unsent row)
payload_within most row = omega (arith, length-take (room_of row.flow most) (unsent row))

-- no more writes than bytes are needed
enough : (k m most : ℕ) (row : Row) → length (unsent row) ≤ k → length (unsent row) ≤ m → writes_at k most row ≡ writes_at m most row
unfolding with_more
enough zero zero most row h g = refl
enough zero (suc m) most row h g =
    sym (ap (with_more m most row) (eq-eqb (length (next_payload most row)) 0 (omega (arith, payload_within most row))))
enough (suc k) zero most row h g =
    ap (with_more k most row) (eq-eqb (length (next_payload most row)) 0 (omega (arith, payload_within most row)))
enough (suc k) (suc m) most row h g = go (length (next_payload most row) == 0) refl (enough k m most (row_past (next_payload most row) row))
  where
    go : (t : Bool) → (length (next_payload most row) == 0) ≡ t
        → (length (unsent (row_past (next_payload most row) row)) ≤ k → length (unsent (row_past (next_payload most row) row)) ≤ m
        → writes_at k most (row_past (next_payload most row) row) ≡ writes_at m most (row_past (next_payload most row) row))
        → with_more k most row t ≡ with_more m most row t
    go true is e = refl
    go false is e =
        let some : length (next_payload most row) ≢ 0 = false-eqb (length (next_payload most row)) 0 (sym is) in
        ap (λ (more : List (List ℕ)). next_payload most row ∷ more)
        (e (omega (arith, h, some, less_left row (next_payload most row))) (omega (arith, g, some, less_left row (next_payload most row))))

-- a write comes first
pub writes_more : (most : ℕ) (row : Row) (payload : List ℕ) → payload ≡ next_payload most row → 0 < length payload
    → writes most row ≡ payload ∷ writes most (row_past payload row)
unfolding with_more
writes_more most row payload is some =
    let next = next_payload most row in
    let there : length next ≢ 0 = omega (arith, some, ap length is) in
    enough (length (unsent row)) (suc (length (unsent row))) most row (omega arith) (omega arith)
    ∙ (ap (with_more (length (unsent row)) most row) (ne_eqb (length next) 0 there)
    ∙ (ap (λ (more : List (List ℕ)). next ∷ more)
    (enough (length (unsent row)) (length (unsent (row_past next row))) most (row_past next row)
    (omega (arith, less_left row next)) (omega arith))
    ∙ ap (λ (p : List ℕ). p ∷ writes most (row_past p row)) (sym is)))

-- no write goes
pub writes_none : (most : ℕ) (row : Row) → next_payload most row ≡ [] → writes most row ≡ []
unfolding with_more
writes_none most row none =
    enough (length (unsent row)) (suc (length (unsent row))) most row (omega arith) (omega arith)
    ∙ ap (with_more (length (unsent row)) most row) (eq-eqb (length (next_payload most row)) 0 (ap length none))

-- ---- the loop that makes them
-- A moment of it: the stream, and what is due.
pub record Moment : Type 0 where
  pub stream : Stream
  pub due : List ℕ

module _ (outgoing : Outgoing) (first : Row) where
  -- the bytes of writes
  abbrev pub bytes_of : List (List ℕ) → List ℕ
  bytes_of payloads = writes_bytes outgoing.sums outgoing.own first.host payloads

  -- Some of the writes of a stream were made: this is the stream past them, and the others are still to be made.
  pub record Writing (due : List ℕ) (now : Moment) : Type 0 where
    pub row : Row
    pub stands : StandsFor row now.stream
    pub host : row.host ≡ first.host
    pub rest : now.due ++ bytes_of (writes outgoing.most row) ≡ due ++ bytes_of (writes outgoing.most first)
    pub last : row_written outgoing.most row ≡ row_written outgoing.most first

  -- one more was made
  pub writing_step : {due : List ℕ} {now next : Moment} (payload : List ℕ) → (all : Writing due now)
      → MakesWrite outgoing.most all.row next.stream (Some payload)
      → next.due ≡ now.due ++ packet_bytes outgoing.sums (wrte outgoing.own next.stream.host payload) → Writing due next
  writing_step {due} {now} {next} payload all makes push =
      let more = writes_more outgoing.most all.row payload makes.0 makes.1 in
      let row = row_past payload all.row in
      let packet = packet_bytes outgoing.sums (wrte outgoing.own first.host payload) in
      let pushed : next.due ≡ now.due ++ packet = push
      ∙ ap (λ (h : ℕ). now.due ++ packet_bytes outgoing.sums (wrte outgoing.own h payload)) (makes.2.host ∙ all.host) in
      record {
        row = row;
        stands = makes.2;
        host = all.host;
        rest =
            ap (λ (d : List ℕ). d ++ bytes_of (writes outgoing.most row)) pushed
            ∙ (append_assoc now.due packet (bytes_of (writes outgoing.most row))
            ∙ (ap (λ (ps : List (List ℕ)). now.due ++ bytes_of ps) (sym more) ∙ all.rest));
        last = ap (λ (ps : List (List ℕ)). row_past_all ps all.row) (sym more) ∙ all.last;
      }

  -- all were made
  pub writing_done : {due : List ℕ} {now : Moment} (next : Stream) → (all : Writing due now) → MakesWrite outgoing.most all.row next None
      → Writes outgoing.sums outgoing.own outgoing.most first next due now.due
  writing_done {due} {now} next all makes =
      let none = writes_none outgoing.most all.row makes.0 in
      record {
        stands = subst (λ (r : Row). StandsFor r next) (sym (ap (λ (ps : List (List ℕ)). row_past_all ps all.row) none) ∙ all.last) makes.1;
        written = sym (append-nil now.due) ∙ (ap (λ (ps : List (List ℕ)). now.due ++ bytes_of ps) (sym none) ∙ all.rest);
      }
