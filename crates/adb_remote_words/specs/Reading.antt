-- What is held of an answer.
use Rattle.std.specs.Prelude.{ℕ, ◌+◌, ◌*◌, ◌≡◌, ◌≤◌, ◌<◌, List, [], ◌++◌, length, None, ⊤}
use Rattle.adb_sync_client.specs.declared.kind.AnswerKind.TheVariants as kinds
use Rattle.adb_sync_client.specs.declared.step.Step.{Step}
use Rattle.adb_sync_client.specs.declared.step.Step.TheVariants.{More, Done, Refused, BadAnswer}
use Rattle.adb_sync_client.specs.Reading.{StandsFor}
use Rattle.adb_remote_frames.specs.declared.frame.Frame.{Frame}
use Rattle.adb_remote_frames.specs.declared.place.Place.{Place}
use Rattle.adb_remote_frames.specs.Frames.{frames_from}
use Rattle.adb_remote_words.specs.declared.body.Body.{Body}
use Rattle.adb_remote_words.specs.declared.body.Body.TheVariants.{Frames, Pushing, Pulling}
use Rattle.adb_remote_words.specs.declared.remote.Remote.{Remote}
use Rattle.adb_remote_words.specs.declared.remote.Remote.TheVariants.{Push, Pull}
use Rattle.adb_remote_words.specs.declared.remote.Outcome.{Outcome}
use Rattle.adb_remote_words.specs.declared.reading.TheConstants.{MAX_ANSWER}
use Rattle.adb_remote_words.specs.Held.{HeldFrames, HeldOpening}
use Rattle.adb_remote_words.specs.Meaning.{nothing_told, or_further, meant, frames_step, body_step, opened, answer_step}
use Rattle.adb_remote_words.specs.Outcome.{answer_so_far}
use Rattle.adb_remote_words.specs.Words.{requests, okays_at}

-- what was read of an answer, and how many bytes
pub record HeldAnswer : Type 0 where
  pub opening : HeldOpening
  pub body : Body
  pub count : ℕ

-- ---- frames
abbrev pub fresh_frames : Place → HeldFrames
fresh_frames place = record { cut = record { given = []; reading = place; rest = []; fault = None }; told = nothing_told }

-- what frames mean that are held, and more bytes
abbrev pub held_step : Remote → HeldFrames → List ℕ → Step Outcome
held_step job f more = frames_step job f.told (frames_from f.cut.reading (f.cut.rest ++ more))

-- Frames were taken, up to one that decides: they and any others mean what that does, or else what the others do.
pub record Gathers (job : Remote) (old : HeldFrames) (step : Step Outcome) (new : HeldFrames) : Type 0 where
  pub all : (others : List Frame) (behind : Step Outcome)
      → meant job old.told (old.cut.given ++ others) behind ≡ or_further step (meant job new.told (new.cut.given ++ others) behind)
  pub none_left : step ≡ More → new.cut.given ≡ []
  pub reading : new.cut.reading ≡ old.cut.reading
  pub rest : new.cut.rest ≡ old.cut.rest
  pub fault : new.cut.fault ≡ old.cut.fault

-- A piece was taken: the step is what is held means with it, and where that is not decided, what is held then means the same behind it.
pub record ReadsFrames (job : Remote) (old : HeldFrames) (piece : List ℕ) (step : Step Outcome) (new : HeldFrames) : Type 0 where
  pub now : step ≡ held_step job old piece
  pub later : step ≡ More → (more : List ℕ) → held_step job old (piece ++ more) ≡ held_step job new more
  pub none_left : step ≡ More → new.cut.given ≡ []
  pub no_fault : step ≡ More → new.cut.fault ≡ None

-- ---- what stands behind the OKAYs
pub record FramesStand (job : Remote) (fed : List ℕ) (f : HeldFrames) : Type 0 where
  pub none_left : f.cut.given ≡ []
  pub no_fault : f.cut.fault ≡ None
  pub means : (more : List ℕ) → body_step job (fed ++ more) ≡ held_step job f more

-- What is held stands for the bytes that were fed: whatever follows them, they and it mean what it means behind what is held.
abbrev pub BodyStands : Remote → List ℕ → Body → Type 0
BodyStands job fed (Frames f) = FramesStand job fed f
BodyStands (Push path mtime bytes) fed (Pushing p) = StandsFor kinds.Push fed p.read
BodyStands (Pull path) fed (Pulling p) = StandsFor kinds.Pull fed p.read
BodyStands _ fed _ = ⊥

-- All these bytes were fed: the step is what they mean, and where that is not decided what is held stands for them.
pub record HasFed (job : Remote) (fed : List ℕ) (step : Step Outcome) (body : Body) : Type 0 where
  pub now : step ≡ body_step job fed
  pub stands : step ≡ More → BodyStands job fed body

-- ---- the OKAYs
-- a refusal, or else what follows
abbrev pub or_behind : {A : Type 0} → (Step Outcome → A) → Step ⊤ → A → A
or_behind told More further = further
or_behind told (Done done) further = further
or_behind told (Refused text) further = told (Refused text)
or_behind told (BadAnswer offset) further = told (BadAnswer offset)

-- OKAYs were taken that are held, up to where none is yet, or never will be. What was held means with any bytes behind it what is left
-- means with them, or the refusal.
pub record Opened (old : HeldOpening) (step : Step ⊤) (new : HeldOpening) : Type 0 where
  pub means : (further : List ℕ → Step Outcome) (more : List ℕ) → opened (4 * old.okays) old.left further (old.held ++ more)
      ≡ or_behind (λ refused. refused) step (opened (4 * new.okays) new.left further (new.held ++ more))
  pub okays : (more : List ℕ) → old.okays + okays_at old.left (old.held ++ more)
      ≡ or_behind (λ refused. new.okays) step (new.okays + okays_at new.left (new.held ++ more))
  pub undecided : step ≡ More → (further : List ℕ → Step Outcome) → opened (4 * new.okays) new.left further new.held ≡ More
  pub none_here : step ≡ More → okays_at new.left new.held ≡ 0
  pub waits : step ≡ More → 0 < new.left
  pub done : (x : ⊤) → step ≡ Done x → new.left ≡ 0
  pub sum : new.okays + new.left ≡ old.okays + old.left

-- ---- all of it
-- What was read stands for bytes: with any bytes behind them they mean what those behind the OKAYs that came mean with these.
pub record Means (job : Remote) (fed : List ℕ) (o : HeldOpening) (body : Body) : Type 0 where
  pub behind : List ℕ
  pub means : (more : List ℕ) → answer_step job (fed ++ more) ≡ opened (4 * o.okays) o.left (body_step job) (behind ++ more)
  pub okays : (more : List ℕ) → okays_at (requests job) (fed ++ more) ≡ o.okays + okays_at o.left (behind ++ more)
  pub opening : 0 < o.left → (behind ≡ o.held) × BodyStands job [] body
  pub open_body : o.left ≡ 0 → BodyStands job behind body
  pub sum : o.okays + o.left ≤ 2

-- The bytes that are looked at were read: the step is what they mean, and so many OKAYs came.
pub record Follows (job : Remote) (fed : List ℕ) (step : Step Outcome) (o : HeldOpening) (body : Body) : Type 0 where
  pub now : step ≡ answer_step job fed
  pub okays : o.okays ≡ okays_at (requests job) fed
  pub stands : step ≡ More → Means job fed o body

-- What was read stands for bytes that decide nothing, all of which are looked at.
pub record ReadingStands (job : Remote) (fed : List ℕ) (r : HeldAnswer) : Type 0 where
  pub means : Means job fed r.opening r.body
  pub count : r.count ≡ length fed
  pub within : length fed ≤ MAX_ANSWER
  pub okays : r.opening.okays ≡ okays_at (requests job) fed
  pub undecided : answer_so_far job fed ≡ More

-- All these bytes were read: the step is what they mean, so many OKAYs came, and where nothing is decided what was read stands for them.
pub record HasRead (job : Remote) (fed : List ℕ) (step : Step Outcome) (new : HeldAnswer) : Type 0 where
  pub now : step ≡ answer_so_far job fed
  pub okays : new.opening.okays ≡ okays_at (requests job) fed
  pub stands : step ≡ More → ReadingStands job fed new
