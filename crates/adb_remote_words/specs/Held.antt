-- What parts of a reading are seen as.
use Rattle.std.specs.Prelude.{ℕ, List}
use Rattle.adb_outside.specs.Framing.{Cut}
use Rattle.adb_remote_frames.specs.declared.frame.Frame.{Frame}
use Rattle.adb_remote_frames.specs.declared.place.Place.{Place}
use Rattle.adb_remote_words.specs.declared.told.Told.{Told}

-- the frames that were not taken yet, the bytes past them, and what those before them told
pub record HeldFrames : Type 0 where
  pub cut : Cut Place Frame ℕ
  pub told : Told

-- the bytes behind the last OKAY, how many came, and how many are to come
pub record HeldOpening : Type 0 where
  pub held : List ℕ
  pub okays : ℕ
  pub left : ℕ
