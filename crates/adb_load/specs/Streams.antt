-- A live stream of a load, and what a drawn word makes of it.
use Rattle.std.specs.Prelude.{ℕ, ◌+◌, ◌-◌, ◌/◌, ◌%◌, ◌^◌, ◌==◌, ◌&&◌, ◌||◌, Bool, not, nat_lt, if◌then◌else◌, Some, None, min}
use Rattle.adb_load.specs.declared.act.Act.TheVariants.{Write, Answer, Leave, Close}
use Rattle.adb_load.specs.declared.act.Piece.TheVariants.{Whole, Head}
use Rattle.adb_load.specs.declared.live.Live.{Live}
use Rattle.adb_load.specs.declared.live.Moved.{Moved}
use Rattle.adb_load.specs.Acts.{up_size, down_size}

-- a stream that begins has all its bytes left
abbrev pub live_at_first : ℕ → Live
live_at_first number = record { number = number; up = up_size number; down = down_size number }

-- whether a bit of a word is 1; bit 0 is the lowest
abbrev pub is_set : (word bit : ℕ) → Bool
is_set word bit = word / 2 ^ bit % 2 == 1

-- how many of the bytes that are left go at once: 1 to 4,096, and no more than are left
abbrev pub portion : (word left : ℕ) → ℕ
portion word left = min left (1 + word / 256 % 4096)

-- Bytes go up where some are left, and where none is left to come down or bit 4 is 0.
abbrev pub goes_up : ℕ → Live → Bool
goes_up word live = nat_lt 0 live.up && (live.down == 0 || not (is_set word 4))

-- so many bytes go up
abbrev pub moved_up : ℕ → Live → Moved
moved_up count live = record {
  act = Write live.number (up_size live.number - live.up) count;
  after = Some (record live { up = live.up - count });
}

-- so many bytes come down, in two pieces where bit 5 is 1
abbrev pub moved_down : (word count : ℕ) → Live → Moved
moved_down word count live = record {
  act = Answer live.number (down_size live.number - live.down) count (if is_set word 5 then Head else Whole);
  after = Some (record live { down = live.down - count });
}

-- the device ends a stream where bit 4 is 1, and else its client does
abbrev pub ended : ℕ → Live → Moved
ended word live = record { act = if is_set word 4 then Close live.number else Leave live.number; after = None }

-- what a word makes of a stream
abbrev pub moved : ℕ → Live → Moved
moved word live =
    if goes_up word live then moved_up (portion word live.up) live
    else (if nat_lt 0 live.down then moved_down word (portion word live.down) live
    else ended word live)
