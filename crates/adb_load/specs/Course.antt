-- How a load goes on, turn by turn.
use Rattle.std.specs.Prelude.{ℕ, ◌+◌, ◌-◌, ◌*◌, ◌%◌, ◌&&◌, nat_lt, nat_eq, if◌then◌else◌, List, [], ◌∷◌, ◌++◌, length, Option, Some, None}
use Rattle.std.specs.List.{slice_get, slice_set, remove, sum_by}
use Rattle.rand_core.specs.Pcg32Seed.{pcg32_seed}
use Rattle.rand_pcg.specs.Lcg.{Lcg}
use Rattle.rand_pcg.specs.Pcg.{pcg32, pcg32_of_seed}
use Rattle.adb_load.specs.declared.act.Act.{Act}
use Rattle.adb_load.specs.declared.act.Act.TheVariants.{Plug, Come}
use Rattle.adb_load.specs.declared.live.Live.{Live}
use Rattle.adb_load.specs.declared.live.Moved.{Moved}
use Rattle.adb_load.specs.declared.numbers.TheConstants.{DEVICES, MAX_LIVE}
use Rattle.adb_load.specs.Streams.{live_at_first, moved}

-- how far a load is: how many devices are plugged in, of how many streams how many have begun, those that live, in the order in which
-- they began, and the generator of the words that are still to be drawn
pub record Progress : Type 0 where
  pub plugged : ℕ
  pub streams : ℕ
  pub begun : ℕ
  pub live : List Live
  pub words : Lcg

-- what a turn brings, if anything, and how far the load is then
pub record Turn : Type 0 where
  pub act : Option Act
  pub after : Progress

-- nothing has happened, and the words are those of Pcg32 by the seed
abbrev pub start : (seed streams : ℕ) → Progress
start seed streams = record { plugged = 0; streams = streams; begun = 0; live = []; words = pcg32_of_seed (pcg32_seed 16 seed) }

-- nothing comes any more
abbrev pub stopped : Progress → Turn
stopped p = record { act = None; after = p }

-- the next device is plugged in
abbrev pub plug_in : Progress → Turn
plug_in p = record { act = Some (Plug (p.plugged + 1)); after = record p { plugged = p.plugged + 1 } }

-- the next stream begins; no word is drawn
abbrev pub begin : Progress → Turn
begin p = record {
  act = Some (Come p.begun);
  after = record p { begun = p.begun + 1; live = p.live ++ live_at_first p.begun ∷ [] };
}

-- the live streams after the one at a place moved; those behind one that ended move up
abbrev pub streams_after : ℕ → Option Live → List Live → List Live
streams_after place (Some live) streams = slice_set streams place live
streams_after place None streams = remove streams place

-- the stream at a place moved
abbrev pub move_with : ℕ → Moved → Progress → Turn
move_with place moved p = record { act = Some moved.act; after = record p { live = streams_after place moved.after p.live } }

-- a word moves the stream at a place, if there is one
abbrev pub move_at : (word place : ℕ) → Option Live → Progress → Turn
move_at word place None p = stopped p
move_at word place (Some live) p = move_with place (moved word live) p

-- a word is drawn, and the stream at that word's place among the live ones moves
abbrev pub draw_with : (word : ℕ) → Progress → Turn
draw_with word p = move_at word (word % length p.live) (slice_get p.live (word % length p.live)) p

abbrev pub draw : Progress → Turn
draw p = draw_with (pcg32 p.words).0 (record p { words = (pcg32 p.words).1 })

-- First the devices are plugged in. Then a stream begins wherever one is left to begin and few live; else a word is drawn. Where no
-- stream is left the load is over.
unfoldable pub turn : Progress → Turn
turn p =
    if nat_lt p.plugged DEVICES then plug_in p
    else (if nat_lt (length p.live) MAX_LIVE && nat_lt p.begun p.streams then begin p
    else (if nat_eq (length p.live) 0 then stopped p
    else draw p))

-- a bound on the turns that a live stream still takes: one for each byte that is left, and its end
abbrev pub turns_of : Live → ℕ
turns_of live = live.up + live.down + 1

-- a bound on those that a stream takes that is still to begin: its beginning, and no stream has more than 23,940 bytes
abbrev pub turns_of_one : ℕ
turns_of_one = 1 + 23940 + 1

-- a bound on the turns that a load still takes
abbrev pub turns_left : Progress → ℕ
turns_left p = (DEVICES - p.plugged) + turns_of_one * (p.streams - p.begun) + sum_by turns_of p.live
