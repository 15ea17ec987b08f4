-- Histories of sessions alone.
use Rattle.std.specs.Prelude.{ℕ, ◌+◌, ◌≡◌, ◌≤◌, ◌<◌, true, false, if◌then◌else◌, is_some, zero, suc, List, [], ◌∷◌, length, None}
use Rattle.adb_outside.specs.Bytes.{IsPrefixOf}
use Rattle.adb_outside.specs.declared.kinds.Cause.TheVariants.{Eof}
use Rattle.adb_capture.specs.declared.entry.Entry.TheVariants.{Enter, Read, End, Bound, Detach}
use Rattle.adb_history.specs.Asking.{Asked, nothing_asked, asks_with}
use Rattle.adb_history.specs.Machine.{History}
use Rattle.adb_history.specs.Tied.{came_count}
use Rattle.adb_history.specs.Bytes.{has_joined, has_ended, bytes_read}
use Rattle.adb_history.specs.Births.{births}
use Rattle.adb_history.specs.Book.{asked, devices, forwards, is_killed}
use Rattle.adb_laws_answers.specs.Words.{IsOfSession}
use Rattle.adb_laws_answers.specs.Model.{model_devices}

-- Each client comes by itself, writes a front of the words of a session while the model device is the only one, and
-- may end in order once it asked for its
-- service; it does nothing else, and no link is lost.
abbrev pub IsOfSessions : History → Type 0
IsOfSessions [] = Unit {0}
IsOfSessions (Read c bytes ∷ older) = IsOfSessions older × (devices older ≡ model_devices)
    × IsOfSession (bytes_read c (Read c bytes ∷ older))
IsOfSessions (Enter c port ∷ older) = ⊥
IsOfSessions (End c Eof ∷ older) = IsOfSessions older × (is_some (asked c older).next ≡ true)
IsOfSessions (End c _ ∷ older) = ⊥
IsOfSessions (Bound c port ∷ older) = ⊥
IsOfSessions (Detach t cause ∷ older) = ⊥
IsOfSessions (_ ∷ older) = IsOfSessions older

-- What a client asked that wrote these bytes: what a front of them asks at once, which is all of them where a next request is read.
pub record HasAsked (bytes : List ℕ) (q : Asked) : Type 0 where
  pub session : IsOfSession bytes
  pub front : List ℕ
  pub first : IsPrefixOf front bytes
  pub asked : q ≡ asks_with model_devices [] front nothing_asked
  pub all : q.next ≡ None → front ≡ bytes

-- how many of the first clients asked for what no request follows
abbrev pub done_among : (ℕ → Asked) → ℕ → ℕ
done_among what zero = 0
done_among what (suc c) = (if is_some (what (suc c)).next then 1 else 0) + done_among what c

pub record AsksForServices (h : History) : Type 0 where
  pub killed : is_killed h ≡ false
  pub forwards : forwards h ≡ []
  pub clients : (c : ℕ) → HasAsked (bytes_read c h) (asked c h)
  pub unread : (c : ℕ) → came_count h < c → bytes_read c h ≡ []
  pub joined : (c : ℕ) → 0 < c → c ≤ came_count h → has_joined c h ≡ true
  pub ended : (c : ℕ) → has_ended c h ≡ true → is_some (asked c h).next ≡ true
  pub births : length (births h) ≡ done_among (λ c. asked c h) (came_count h)
