-- Of the requests that are read from a client, the last opens a stream only on a device that takes payloads.
use Rattle.std.proofs.Common.{ℕ, zero, suc, ◌++◌, ◌+◌, List, length, take, drop, Option, Some, None}
use Rattle.adb_registry.specs.Registry.{DeviceTable}
use Rattle.adb_forward.specs.declared.row.ForwardRow.{ForwardRow}
use Rattle.adb_request.specs.Requests.{request_at}
use Rattle.adb_request.specs.Meaning.{meaning}
use Rattle.adb_request.specs.declared.cutting.Found.{Found}
use Rattle.adb_request.specs.declared.cutting.Found.TheVariants.{More, Malformed, Whole}
use Rattle.adb_request.specs.declared.request.Request.{Request}
use Rattle.adb_reply.specs.Answer.{answer}
use Rattle.adb_reply.specs.Laws.{OpensReady}
use Rattle.adb_reply.specs.declared.answer.Answer.{Answer}
use Rattle.adb_reply.specs.declared.answer.Next.{Next}
use Rattle.adb_reply.specs.declared.answer.Next.TheVariants.{Select}
use Rattle.adb_reply.proofs.Readiness.{answer_ready}
use Rattle.adb_history.specs.Asking.{Asked, replied, after_next, after_found, reads_on, asks_with}

-- what follows the last request: no further one, and a stream only on a device that takes payloads
abbrev pub IsAskedReady : DeviceTable → Option Next → Type 0
IsAskedReady devices None = Unit {0}
IsAskedReady devices (Some (Select id)) = ⊥
IsAskedReady devices (Some next) = OpensReady devices.rows next

module _ (devices : DeviceTable) where
  module _ (reply : List ℕ) (size : ℕ) (others : Asked → Asked)
      (later : (q : Asked) → IsAskedReady devices q.next → IsAskedReady devices (others q).next) where
    next_ready : (next : Next) (q : Asked) → OpensReady devices.rows next → IsAskedReady devices q.next → IsAskedReady devices
        (after_next next reply size others q).next
    next_ready (Select id) q right h = later (record (replied reply size q) { selected = Some id }) h
    next_ready _ q right h = right

  found_ready : (forwards : List (ℕ × ForwardRow)) (f : Found) (others : Asked → Asked) (q : Asked)
      → ((q : Asked) → IsAskedReady devices q.next → IsAskedReady devices (others q).next) → IsAskedReady devices q.next
      → IsAskedReady devices (after_found devices forwards f others q).next
  found_ready forwards More others q later h = h
  found_ready forwards Malformed others q later h = tt
  found_ready forwards (Whole len) others q later h =
      let request : Request = meaning (take len (drop 4 q.rest)) in
      let a : Answer = answer devices.rows forwards q.selected request in
      next_ready a.bytes (4 + len) others later a.next q (answer_ready devices.rows forwards q.selected request) h

  reads_ready : (forwards : List (ℕ × ForwardRow)) (n : ℕ) (q : Asked) → IsAskedReady devices q.next
      → IsAskedReady devices (reads_on devices forwards n q).next
  reads_ready forwards zero q h = h
  reads_ready forwards (suc n) q h = found_ready forwards (request_at q.rest) (reads_on devices forwards n) q
      (λ r g. reads_ready forwards n r g) h

  pub asks_ready : (forwards : List (ℕ × ForwardRow)) (bytes : List ℕ) (q : Asked) → IsAskedReady devices q.next
      → IsAskedReady devices (asks_with devices forwards bytes q).next
  asks_ready forwards bytes q h = reads_ready forwards (length (q.rest ++ bytes)) (record q { rest = q.rest ++ bytes }) h
