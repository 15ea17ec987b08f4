-- Each turn of a load brings something and leaves fewer turns, or the load is over.
use Rattle.std.proofs.Common.{ℕ, ◌-◌, ◌%◌, ◌≡◌, ◌<◌, ◌≤◌, ◌⊎◌, inl, inr, Bool, true, false, List, length}
use Rattle.std.proofs.Common.{refl, ap, arith, get_or, ◌&&◌, nat_lt, nat_eq, if◌then◌else◌}
use Rattle.std.specs.Prelude.{Option, Some, None, IsSome}
use Rattle.std.specs.List.{slice_get, sum_by}
use Rattle.std.proofs.lemmas.List.Sums.{sum_by_push, sum_by-set, sum_by-remove}
use Rattle.std.proofs.lemmas.Option.{slice_get_cases, slice_get_within, get_or_from_slice_get}
use Rattle.rand_pcg.specs.Lcg.{Lcg}
use Rattle.rand_pcg.specs.Pcg.{pcg32}
use Rattle.adb_load.specs.declared.live.Live.{Live}
use Rattle.adb_load.specs.declared.numbers.TheConstants.{DEVICES, MAX_LIVE}
use Rattle.adb_load.specs.Streams.{live_at_first, portion, goes_up, moved_up, moved_down, ended, moved}
use Rattle.adb_load.specs.Course.{Progress, Turn, turn, stopped, plug_in, begin, draw, move_at, streams_after, turns_of, turns_left}

-- something goes, and no more than is left
pub portion_bounds : (word left : ℕ) → 0 < left → (0 < portion word left) × (portion word left ≤ left)
portion_bounds word left some = (grind arith, grind arith)

-- what a stream still takes falls with each move
abbrev TakesLess : Option Live → Live → Type 0
TakesLess None live = Unit {0}
TakesLess (Some after) live = turns_of after < turns_of live

up_less : (word : ℕ) (live : Live) → 0 < live.up → turns_of (record live { up = live.up - portion word live.up }) < turns_of live
up_less word live some = let bounds = portion_bounds word live.up some in omega (arith, bounds.0, bounds.1)

down_less : (word : ℕ) (live : Live) → 0 < live.down → turns_of (record live { down = live.down - portion word live.down }) < turns_of live
down_less word live some = let bounds = portion_bounds word live.down some in omega (arith, bounds.0, bounds.1)

pub first_holds : (a b : Bool) → (a && b) ≡ true → a ≡ true
first_holds true b h = refl
first_holds false b h = h

pub last_holds : (a b : Bool) → (a && b) ≡ true → b ≡ true
last_holds a true h = refl
last_holds true false h = h
last_holds false false h = h

pub below : (m n : ℕ) → nat_lt m n ≡ true → m < n
below m n h = grind (arith, h)

pub not_none : (n : ℕ) → nat_eq n 0 ≡ false → 0 < n
not_none n h = grind (arith, h)

pub moved_less : (word : ℕ) (live : Live) → TakesLess (moved word live).after live
moved_less word live = go (goes_up word live) (nat_lt 0 live.down) (λ h. below 0 live.up (first_holds _ _ h)) (λ h. below 0 live.down h)
  where
    go : (up down : Bool) → (up ≡ true → 0 < live.up) → (down ≡ true → 0 < live.down)
        → TakesLess (if up then moved_up (portion word live.up) live
        else (if down then moved_down word (portion word live.down) live else ended word live)).after live
    go true down some_up some_down = up_less word live (some_up refl)
    go false true some_up some_down = down_less word live (some_down refl)
    go false false some_up some_down = tt

-- what the live streams still take falls where one of them moves
streams_less : (place : ℕ) (live : Live) (after : Option Live) (streams : List Live)
    → slice_get streams place ≡ Some live → TakesLess after live
    → sum_by turns_of (streams_after place after streams) < sum_by turns_of streams
streams_less place live None streams is less =
    let within = slice_get_within streams place live is in
    let same = get_or_from_slice_get streams place live live is in
    omega (arith, sum_by-remove turns_of streams place live within, ap turns_of same)
streams_less place live (Some after) streams is less =
    let within = slice_get_within streams place live is in
    let same = get_or_from_slice_get streams place live live is in
    omega (arith, sum_by-set turns_of streams place after live within, ap turns_of same, less)

-- A turn brings something, and leaves fewer turns.
pub record Brings (p : Progress) (t : Turn) : Type 0 where
  pub some : IsSome t.act
  pub fewer : turns_left t.after < turns_left p

abbrev pub Goes : Progress → Turn → Type 0
Goes p t = (t ≡ stopped p) ⊎ Brings p t

plug_less : (p : Progress) → p.plugged < DEVICES → turns_left (plug_in p).after < turns_left p
plug_less p some = omega arith

begin_less : (p : Progress) → p.begun < p.streams → turns_left (begin p).after < turns_left p
begin_less p some = omega (arith, sum_by_push turns_of p.live (live_at_first p.begun))

move_brings : (word place : ℕ) (p : Progress) (words : Lcg) → place < length p.live
    → Brings p (move_at word place (slice_get p.live place) (record p { words = words }))
move_brings word place p words within = go (slice_get_cases p.live place).1
  where
    found : (live : Live) → slice_get p.live place ≡ Some live
        → Brings p (move_at word place (slice_get p.live place) (record p { words = words }))
    found live is = rw is (record {
      some = refl;
      fewer = omega (arith, streams_less place live (moved word live).after p.live is (moved_less word live));
    })

    go : ((live : Live) × (place < length p.live) × (slice_get p.live place ≡ Some live) × (get_or p.live place live ≡ live))
        ⊎ ((length p.live ≤ place) × (slice_get p.live place ≡ None))
        → Brings p (move_at word place (slice_get p.live place) (record p { words = words }))
    go (inl one) = found one.0 one.2
    go (inr past) = absurd (omega (arith, past.0, within))

draw_brings : (p : Progress) → 0 < length p.live → Brings p (draw p)
draw_brings p some = move_brings (pcg32 p.words).0 ((pcg32 p.words).0 % length p.live) p (pcg32 p.words).1 (omega arith)

pub turn_goes : (p : Progress) → Goes p (turn p)
unfolding turn
turn_goes p = go (nat_lt p.plugged DEVICES) (nat_lt (length p.live) MAX_LIVE && nat_lt p.begun p.streams) (nat_eq (length p.live) 0)
    (λ h. below p.plugged DEVICES h) (λ h. below p.begun p.streams (last_holds _ _ h)) (λ h. not_none (length p.live) h)
  where
    go : (plugs begins over : Bool) → (plugs ≡ true → p.plugged < DEVICES) → (begins ≡ true → p.begun < p.streams)
        → (over ≡ false → 0 < length p.live)
        → Goes p (if plugs then plug_in p else (if begins then begin p else (if over then stopped p else draw p)))
    go true begins over unplugged left live = inr (record { some = refl; fewer = plug_less p (unplugged refl) })
    go false true over unplugged left live = inr (record { some = refl; fewer = begin_less p (left refl) })
    go false false true unplugged left live = inl refl
    go false false false unplugged left live = inr (draw_brings p (live refl))
