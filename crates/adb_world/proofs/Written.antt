-- Sessions that have written all their words write no more.
use Rattle.std.specs.Prelude.{ℕ, ◌+◌, ◌≡◌, ◌≢◌, ◌≤◌, Bool, true, false, List, [], ◌∷◌, ◌++◌, length, Option, Some, None}
use Rattle.std.proofs.Common.{refl, sym, ◌∙◌, ap, subst, arith, ◌⊎◌, inl, inr}
use Rattle.std.proofs.lemmas.List.{drop_all, length-drop, length-take}
use Rattle.std.proofs.lemmas.Bool.{cases_eq}
use Rattle.adb_outside.specs.Tables.{at}
use Rattle.adb_outside.proofs.TableLaws.{puts_put_at}
use Rattle.adb_history.specs.Bytes.{bytes_read}
use Rattle.adb_history.specs.Machine.{History}
use Rattle.adb_world.specs.Calls.{HasNone}
use Rattle.adb_world.specs.Parts.{Adds, Drops, IsKeptAt, IsRunning, IsSame}
use Rattle.adb_world.specs.Session.{IsTold, left_of, new_session}
use Rattle.adb_world.specs.Settled.{Each, Goes, GoesOn, GrowsFrom, HasMade, HaveWritten}
use Rattle.adb_world.specs.declared.parts.Parts.{Parts}
use Rattle.adb_world.specs.declared.session.Session.{Session}
use Rattle.adb_world.proofs.Going.{Tried, to_write}
use Rattle.adb_world.proofs.Unread.{read_more}

more_read : (c : ℕ) (more h : History) → length (bytes_read c h) ≤ length (bytes_read c (more ++ h))
more_read c [] h = omega arith
more_read c (e ∷ more) h = let one = read_more c e (more ++ h) in let rest = more_read c more h in omega (arith, one, rest)

-- a session that wrote all its words has written them since
pub still_all : (c : ℕ) (old new : Session) (h more : History) → IsTold h c old → IsTold (more ++ h) c new
    → new.words ≡ old.words → left_of old ≡ []
    → left_of new ≡ []
still_all c old new h more before after same none =
    drop_all new.written new.words (omega (
      arith,
      more_read c more h,
      ap (λ (x : List ℕ). length x) before.read,
      ap (λ (x : List ℕ). length x) after.read,
      ap (λ (x : List ℕ). length x) same,
      ap (λ (x : List ℕ). length x) none,
      length-take old.written old.words,
      length-take new.written new.words,
      length-drop old.written old.words,
      before.within,
    ))

-- the sessions up to a number that have written all have done so since
pub goes_written : (wrote : ℕ) (old new : Parts) → IsRunning old → GoesOn old new → HaveWritten wrote old → HaveWritten wrote new
goes_written wrote old new runs goes written c session past within is =
    go (at c old.sessions.entries) refl (subst (IsSame (at c old.sessions.entries)) is (goes.same c))
  where
    h : History
    h = runs.history

    grown : GrowsFrom goes.steps runs.history new
    grown = goes.grows runs.history runs.holds

    go : (o : Option Session) → at c old.sessions.entries ≡ o → IsSame o (Some session) → left_of session ≡ []
    go None before same = absurd same
    go (Some first) before same =
        still_all c first session h grown.more (subst (IsKeptAt old.given h c) before (runs.holds.sessions c)).1
        (subst (IsKeptAt new.given (grown.more ++ h) c) is (grown.holds.sessions c)).1 same.1 (written c first past within before)

pub made_written : (wrote : ℕ) (old new : Parts) → IsRunning old → HasMade 1 old new → HaveWritten wrote old → HaveWritten wrote new
made_written wrote old new runs made = goes_written wrote old new runs made.goes

pub moved_written : (Nothing : Parts → Type 0) (moved : Bool) (wrote : ℕ) (old new : Parts) → IsRunning old → Goes Nothing moved old new
    → HaveWritten wrote old → HaveWritten wrote new
moved_written Nothing true wrote old new runs goes written = made_written wrote old new runs goes written
moved_written Nothing false wrote old new runs goes written = subst (HaveWritten wrote) (sym goes.0) written

-- ---- the sessions that were tried
pub tries_on : (wrote : ℕ) (old : Parts) → HaveWritten wrote old → Tried to_write 0 wrote old old
tries_on wrote old written = record {
  same = refl;
  order = omega arith;
  none = λ h holds c session past within is. subst (λ (o : Option Session). HasNone (to_write_of o)) (sym is)
      (written c session past within is);
}
  where
    to_write_of : Option Session → Option (List ℕ)
    to_write_of None = None
    to_write_of (Some session) = Some (left_of session)

pub tried_written : (wrote : ℕ) (old now : Parts) → IsRunning old → Tried to_write 0 wrote old now → HaveWritten wrote now
tried_written wrote old now runs tried =
    subst (HaveWritten wrote) (sym tried.same)
    (λ c session past within is.
    subst (λ (o : Option Session). HasNone (to_write_of o)) is (tried.none runs.history runs.holds c session past within is))
  where
    to_write_of : Option Session → Option (List ℕ)
    to_write_of None = None
    to_write_of (Some session) = Some (left_of session)

-- ---- where all have written
pub all_have : (wrote : ℕ) (parts : Parts) → Each parts.sessions.entries (λ (session : Session). left_of session ≡ [])
    → HaveWritten wrote parts
all_have wrote parts words c session past within is = words c session is

-- one was dropped
pub dropped_have : (wrote n : ℕ) (old new : Parts) → Each old.sessions.entries
    (λ (session : Session). left_of session ≡ []) → Drops n old new
    → HaveWritten wrote new
dropped_have wrote n old new words drops c session past within is = go (cases_eq c n)
  where
    go : (c ≡ n) ⊎ (c ≢ n) → left_of session ≡ []
    go (inl same) =
        absurd (let clash : None ≡ Some session =
        sym drops.sessions.here ∙ (ap (λ (k : ℕ). at k new.sessions.entries) (sym same) ∙ is) in cc)
    go (inr other) = words c session (sym (drops.sessions.others c other) ∙ is)

-- one was added under the next number
pub added_have : (text service : List ℕ) (old new : Parts) → Each old.sessions.entries (λ (session : Session). left_of session ≡ [])
    → Adds (old.given + 1) (new_session service text) old new → HaveWritten old.given new
added_have text service old new words adds c session past within is =
    words c session
    (sym ((puts_put_at (old.given + 1) (new_session service text) old.sessions.entries).others c
    (λ same. omega (arith, same, within)))
    ∙ (ap (λ (es : List (ℕ × Session)). at c es) (sym adds.sessions) ∙ is))
