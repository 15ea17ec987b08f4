-- What the bytes of a client ask, request after request from their front, and the replies (OVERVIEW.TXT, "Protocol details").
use Rattle.std.specs.Prelude.{ℕ, ◌+◌, List, [], ◌++◌, length, take, drop, Option, Some, None, zero, suc}
use Rattle.adb_registry.specs.Registry.{DeviceTable}
use Rattle.adb_forward.specs.declared.row.ForwardRow.{ForwardRow}
use Rattle.adb_request.specs.Requests.{request_at}
use Rattle.adb_request.specs.Meaning.{meaning}
use Rattle.adb_request.specs.declared.cutting.Found.{Found}
use Rattle.adb_request.specs.declared.cutting.Found.TheVariants.{More, Malformed, Whole}
use Rattle.adb_reply.specs.Answer.{answer}
use Rattle.adb_reply.specs.declared.answer.Answer.{Answer}
use Rattle.adb_reply.specs.declared.answer.Next.{Next}
use Rattle.adb_reply.specs.declared.answer.Next.TheVariants.{Close, Select}

-- What a client asked. replies: those to its whole requests, in order; used: how many bytes these requests have;
-- rest: the bytes past them; selected: the
-- transport that its requests selected; next: what follows the last request, where no further one is read.
pub record Asked : Type 0 where
  pub replies : List ℕ
  pub used : ℕ
  pub rest : List ℕ
  pub selected : Option ℕ
  pub next : Option Next

-- a client that came just now
abbrev pub nothing_asked : Asked
nothing_asked = record { replies = []; used = 0; rest = []; selected = None; next = None }

-- after the reply to a request, and the bytes of it
abbrev pub replied : List ℕ → ℕ → Asked → Asked
replied reply size q = record q { replies = q.replies ++ reply; used = q.used + size; rest = drop size q.rest }

-- after the answer to a request of so many bytes: where it selects a device, the next request is read
abbrev pub after_next : Next → List ℕ → ℕ → (Asked → Asked) → Asked → Asked
after_next (Select id) reply size others q = others (record (replied reply size q) { selected = Some id })
after_next next reply size others q = record (replied reply size q) { next = Some next }

abbrev pub after_answer : Answer → ℕ → (Asked → Asked) → Asked → Asked
after_answer a size others q = after_next a.next a.bytes size others q

-- after what the unread bytes begin with: a malformed request is not answered
abbrev pub after_found : DeviceTable → List (ℕ × ForwardRow) → Found → (Asked → Asked) → Asked → Asked
after_found devices forwards More others q = q
after_found devices forwards Malformed others q = record q { next = Some Close }
after_found devices forwards (Whole len) others q =
    after_answer (answer devices.rows forwards q.selected (meaning (take len (drop 4 q.rest)))) (4 + len) others q

-- at most so many requests are read, and answered from these devices and forwards
abbrev pub reads_on : DeviceTable → List (ℕ × ForwardRow) → ℕ → Asked → Asked
reads_on devices forwards zero q = q
reads_on devices forwards (suc k) q = after_found devices forwards (request_at q.rest) (reads_on devices forwards k) q

-- bytes come from a client that asks: no request is empty, so there are no more of them than bytes
abbrev pub asks_with : DeviceTable → List (ℕ × ForwardRow) → List ℕ → Asked → Asked
asks_with devices forwards bytes q =
    reads_on devices forwards (length (q.rest ++ bytes)) (record q { rest = q.rest ++ bytes })
