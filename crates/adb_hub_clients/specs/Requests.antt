-- One request after another is read.
use Rattle.std.specs.Prelude.{ℕ, ◌≡◌, ◌<◌, ◌≤◌, ◌+◌, List, length, drop, Option, Some, None}
use Rattle.adb_registry.specs.Registry.{DeviceTable}
use Rattle.adb_forward.specs.declared.row.ForwardRow.{ForwardRow}
use Rattle.adb_request.specs.Requests.{request_at}
use Rattle.adb_reply.specs.declared.answer.Answer.{Answer}
use Rattle.adb_reply.specs.declared.answer.Next.{Next}
use Rattle.adb_reply.specs.declared.answer.Next.TheVariants.{Select}
use Rattle.adb_client.specs.Ask.{asked_in}
use Rattle.adb_client.specs.declared.ask.Asked.{Asked as FirstAsked}
use Rattle.adb_history.specs.Asking.{Asked, after_answer, after_found}
use Rattle.adb_hub_clients.specs.declared.requests.Reading.{Reading}
use Rattle.adb_hub_clients.specs.declared.requests.Step.{Step}
use Rattle.adb_hub_clients.specs.declared.requests.Step.TheVariants.{Again, End}

-- what the requests asked that were read of these bytes
abbrev pub asked_so_far : Reading → List ℕ → Asked
asked_so_far reading held = record {
  replies = reading.replies;
  used = reading.used;
  rest = drop reading.used held;
  selected = reading.selected;
  next = None;
}

-- after a step: the others are read, or what follows is known
abbrev pub stepped : Step → (Asked → Asked) → Asked → Asked
stepped Again others q = others q
stepped (End next) others q = record q { next = next }

-- an answer that selects a transport is followed by the next request
abbrev pub step_after : Next → Step
step_after (Select id) = Again
step_after next = End (Some next)

-- what is selected after an answer
abbrev pub selected_after : Next → Option ℕ → Option ℕ
selected_after (Select id) selected = Some id
selected_after next selected = selected

-- An answer to a request of so many bytes is taken in, whatever was held, and whatever others are read behind it.
abbrev pub TakesAnswer : Answer → ℕ → Reading → Step → Reading → Type 0
TakesAnswer answer len old step new = (held : List ℕ) (others : Asked → Asked)
    → after_answer answer len others (asked_so_far old held) ≡ stepped step others (asked_so_far new held)

-- One more request is read, whatever others are read behind it.
pub record ReadsOne (devices : DeviceTable) (forwards : List (ℕ × ForwardRow)) (held : List ℕ) (old : Reading)
    (step : Step) (new : Reading) : Type 0 where
  pub asked : (others : Asked → Asked) → after_found devices forwards (request_at (drop old.used held)) others (asked_so_far old held)
      ≡ stepped step others (asked_so_far new held)
  pub within : new.used ≤ length held
  pub later : step ≡ Again → old.used < new.used

-- That is what bytes ask behind the first of them.
pub record IsAskedBehind (at : ℕ) (asked : FirstAsked) (held : List ℕ) : Type 0 where
  pub is : asked ≡ asked_in (drop at held)
  pub within : at + asked.len ≤ length held
