-- How much moves from a time at which nothing is on its way to the next such time, and who pays for it.
use Rattle.std.specs.Prelude.{ℕ, ◌+◌, ◌-◌, ◌*◌, ◌≡◌, ◌≤◌, ◌<◌, ◌^◌, true, false, is_some, [], ◌∷◌, ◌++◌, length, Option, Some}
use Rattle.adb_capture.specs.declared.entry.Entry.TheVariants.{Enter}
use Rattle.adb_reply.specs.declared.answer.Next.{Next}
use Rattle.adb_reply.specs.declared.answer.Next.TheVariants.{Open}
use Rattle.adb_stream.specs.declared.row.Stream.{Stream}
use Rattle.adb_history.specs.Births.{Birth, births, born}
use Rattle.adb_history.specs.Book.{asked, is_killed, plugged_count}
use Rattle.adb_history.specs.Bytes.{bytes_put, bytes_received, bytes_read, bytes_sent, has_ended, is_lost, sent}
use Rattle.adb_history.specs.Events.{spelled_to}
use Rattle.adb_history.specs.Lives.{packets_of}
use Rattle.adb_history.specs.Machine.{History, IsLegal, state, told}
use Rattle.adb_history.specs.Streams.{stream_ids}
use Rattle.adb_history.specs.Tied.{came_count}
use Rattle.adb_device_streams.specs.Asked.{service_of}
use Rattle.adb_daemon.specs.Device.{Setting}
use Rattle.adb_laws_model_device.specs.Joined.{IsJoined}
use Rattle.adb_laws_model_device.specs.Owed.{bytes_owed, packets_owed}
use Rattle.adb_laws_worlds.specs.Settled.{IsAtRest}
use Rattle.adb_laws_steps.specs.Moved.{AreSteps, moved, handled, of_here}
use Rattle.adb_laws_steps.specs.Receives.{writes_to}
use Rattle.adb_laws_steps.specs.Sums.{sum_to}

-- no client comes through a forward
abbrev pub NoneEnters : History → Type 0
NoneEnters [] = Unit {0}
NoneEnters (Enter c port ∷ older) = ⊥
NoneEnters (_ ∷ older) = NoneEnters older

-- Steps lead from one time at which nothing is on its way to another. The streams that live at the first, and those
-- that are born since, are of clients whose
-- input had not ended then; and such a client was put all that the device wrote to its stream.
pub record Settles (setting : Setting) (before more : History) : Type 0 where
  pub short : setting.most < 2 ^ 32
  pub legal : IsLegal (more ++ before)
  pub joined : IsJoined setting (more ++ before)
  pub one : plugged_count before ≤ 1
  pub here : is_lost 1 before ≡ false
  pub none : NoneEnters (more ++ before)
  pub steps : AreSteps before more
  pub due_before : bytes_sent 1 before ≡ spelled_to 1 (told before)
  pub sent_before : sent 1 before ≡ packets_of 1 before
  pub sent_now : sent 1 (more ++ before) ≡ packets_of 1 (more ++ before)
  pub taken_before : bytes_received 1 before ≡ bytes_owed setting (bytes_sent 1 before)
  pub taken_now : bytes_received 1 (more ++ before) ≡ bytes_owed setting (bytes_sent 1 (more ++ before))
  pub live : (l : ℕ) (x : Stream) → (state before).streams l ≡ Some x → has_ended x.client before ≡ false
  pub fresh : (l : ℕ) (b : Birth) → born l (more ++ before) ≡ Some b → (state before).drawn < l → has_ended b.client before ≡ false
  pub put : (l : ℕ) (b : Birth) → born l (more ++ before) ≡ Some b → has_ended b.client before ≡ false
      → writes_to l (packets_owed setting (sent 1 (more ++ before))) ≤ length (bytes_put b.client (more ++ before))

-- what the stream of a client costs, which asked for a service in so many bytes and wrote so many: its OPEN, a CLSE
-- of each end, and for each byte past its
-- requests a write with its OKAY
abbrev pub stream_pays : Option Next → (used read : ℕ) → ℕ
stream_pays (Some (Open transport service)) used read = 125 + length service + 53 * (read - used)
stream_pays _ used read = 0

-- A client pays for its stream, and for each byte that it wrote; and for each that it was put, with the write that brought it and its OKAY.
abbrev pub pays : ℕ → History → ℕ
pays c h = handled c h + stream_pays (asked c h).next (asked c h).used (length (bytes_read c h)) + 53 * length (bytes_put c h)

-- The clients whose input had not ended pay for all that moved.
abbrev pub ClientsPay : (before more : History) → Type 0
ClientsPay before more = moved more ≤ sum_to (λ c. of_here before c (pays c (more ++ before))) (came_count before)

-- At rest each client whose input did not end, and which asked for a service that its device knows, was put all that
-- the device wrote to its stream; where the
-- link stays, no kill stands, an id was left for each stream, and no client came through a forward.
abbrev pub WritesWerePut : Setting → History → Type 0
WritesWerePut setting h = IsAtRest setting h → is_lost 1 h ≡ false → is_killed h ≡ false → length (births h) ≤ stream_ids → NoneEnters h
    → (l : ℕ) (b : Birth) → born l h ≡ Some b → b.link ≡ 1
    → is_some (service_of b.service) ≡ true → has_ended b.client h ≡ false
    → writes_to l (packets_owed setting (sent 1 h)) ≤ length (bytes_put b.client h)
