-- What a front of the words of a session asks.
use Rattle.std.specs.Prelude.{ℕ, ◌≡◌, ◌≤◌, ◌<◌, List, length, codes, Some, None}
use Rattle.adb_reply.specs.declared.answer.Next.TheVariants.{Open}
use Rattle.adb_history.specs.Asking.{Asked}
use Rattle.adb_laws_answers.specs.Words.{requests_for}

-- Its requests are whole: it asked for the service, with the bytes past them as the first of its stream.
pub record HasOpened (service : List ℕ) (q : Asked) : Type 0 where
  pub next : q.next ≡ Some (Open 1 service)
  pub used : q.used ≡ length (requests_for service)
  pub replies : q.replies ≡ codes "OKAY"

-- Until then it is still asked.
pub record Opens (service front : List ℕ) (q : Asked) : Type 0 where
  pub asks : length front < length (requests_for service) → q.next ≡ None
  pub opened : length (requests_for service) ≤ length front → HasOpened service q
