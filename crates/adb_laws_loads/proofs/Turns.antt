-- What each turn of a load keeps holds after any number of turns; what a turn is; and how far a load can be.
use Rattle.std.proofs.Common.{ℕ, ◌+◌, ◌≡◌, ◌<◌, ◌≤◌, Bool, true, false, ◌%◌, List, [], ◌∷◌, ◌++◌, length, take, drop, zero, suc, sym, refl}
use Rattle.std.proofs.Common.{subst, arith, get_or}
use Rattle.std.proofs.Common.{inl, inr, ◌⊎◌, ◌∙◌, lit≤, ◌&&◌, nat_lt, nat_eq, if◌then◌else◌}
use Rattle.std.specs.Prelude.{Option, Some, None, All}
use Rattle.std.specs.List.{slice_get}
use Rattle.std.proofs.lemmas.List.{append-nil, append_assoc}
use Rattle.std.proofs.lemmas.List.Elements.{All-append, All-from_recursion, All-nil, All-take, All-drop, All-set, All-get_or}
use Rattle.std.proofs.lemmas.Option.{slice_get_cases, slice_get_within, get_or_from_slice_get}
use Rattle.rand_pcg.specs.Lcg.{Lcg}
use Rattle.rand_pcg.specs.Pcg.{pcg32}
use Rattle.adb_load.specs.declared.act.Act.{Act}
use Rattle.adb_load.specs.declared.live.Live.{Live}
use Rattle.adb_load.specs.Acts.{acts_due, up_size, down_size}
use Rattle.adb_load.specs.Streams.{live_at_first, portion, goes_up, moved_up, moved_down, ended, moved}
use Rattle.adb_load.specs.Course.{Progress, Turn, turn, start, stopped, plug_in, begin, draw, move_at, move_with, streams_after}
use Rattle.adb_load.specs.Load.{acts_of_turns}
use Rattle.adb_load.proofs.Turns.{last_holds, first_holds, below, not_none}

-- how many devices are plugged in, and how many streams live at once at most
abbrev pub all_devices : ℕ
all_devices = 8

abbrev pub most_live : ℕ
most_live = 16

-- how far a load is after so many turns
unfoldable pub after_turns : ℕ → Progress → Progress
after_turns zero p = p
after_turns (suc turns) p = after_turns turns (turn p).after

-- ---- the induction over turns
-- What holds of the acts so far and of how far the load is, holds after any number of turns where each turn keeps it.
pub turns_keep : (P : List Act → Progress → Type 0)
    → ((done : List Act) (p : Progress) → P done p → P (done ++ acts_due (turn p).act) (turn p).after)
    → (k : ℕ) (done : List Act) (p : Progress) → P done p → P (done ++ acts_of_turns k p) (after_turns k p)
unfolding after_turns acts_of_turns
turns_keep P each zero done p holds = subst (λ acts. P acts p) (sym (append-nil done)) holds
turns_keep P each (suc k) done p holds =
    subst (λ acts. P acts (after_turns k (turn p).after)) (append_assoc done (acts_due (turn p).act) (acts_of_turns k (turn p).after))
    (turns_keep P each k (done ++ acts_due (turn p).act) (turn p).after (each done p holds))

-- ---- the cases of a turn
not_below : (m n : ℕ) → nat_lt m n ≡ false → n ≤ m
not_below m n h = grind (arith, h)

none : (n : ℕ) → nat_eq n 0 ≡ true → n ≡ 0
none n h = grind (arith, h)

-- where both hold, one does not
not_both : (a b : Bool) → (a && b) ≡ false → a ≡ true → b ≡ false
not_both true b h first = h
not_both false b h first = absurd (let clash : false ≡ true = first in cc)

-- what is shown of a turn in each of its cases: a device is plugged in, a stream begins, the load is over, or a word moves a live stream
pub record ByTurn (Q : Turn → Type 0) (p : Progress) : Type 0 where
  pub plugs : p.plugged < all_devices → Q (plug_in p)
  pub begins : all_devices ≤ p.plugged → length p.live < most_live → p.begun < p.streams → Q (begin p)
  pub over : all_devices ≤ p.plugged → p.live ≡ [] → p.streams ≤ p.begun → Q (stopped p)
  pub moves : all_devices ≤ p.plugged → (words : Lcg) (word place : ℕ) (live : Live) → slice_get p.live place ≡ Some live
      → Q (move_with place (moved word live) (record p { words = words }))

no_live : (streams : List Live) → length streams ≡ 0 → streams ≡ []
no_live [] h = refl
no_live (live ∷ streams) h = absurd (omega (arith, h))

move_by : (Q : Turn → Type 0) (p : Progress) → ByTurn Q p → all_devices ≤ p.plugged → (words : Lcg) (word place : ℕ) → place < length p.live
    → Q (move_at word place (slice_get p.live place) (record p { words = words }))
move_by Q p by plugged words word place within = go (slice_get p.live place) refl (slice_get_cases p.live place).1
  where
    some_none : (live : Live) → Some live ≡ None → ⊥
    some_none live h = absurd (let clash : Some live ≡ None = h in cc)

    go : (found : Option Live) → slice_get p.live place ≡ found
        → ((live : Live) × (place < length p.live) × (slice_get p.live place ≡ Some live) × (get_or p.live place live ≡ live))
        ⊎ ((length p.live ≤ place) × (slice_get p.live place ≡ None))
        → Q (move_at word place found (record p { words = words }))
    go (Some live) is cases = by.moves plugged words word place live is
    go None is (inr past) = absurd (omega (arith, past.0, within))
    go None is (inl one) = absurd (some_none one.0 (sym one.2 ∙ is))

pub by_turn : (Q : Turn → Type 0) (p : Progress) → ByTurn Q p → Q (turn p)
unfolding turn
by_turn Q p by = go (nat_lt p.plugged all_devices) (nat_lt (length p.live) most_live && nat_lt p.begun p.streams)
    (nat_eq (length p.live) 0) refl refl refl
  where
    drawn : all_devices ≤ p.plugged → 0 < length p.live → Q (draw p)
    drawn plugged some = move_by Q p by plugged (pcg32 p.words).1 (pcg32 p.words).0 ((pcg32 p.words).0 % length p.live) (omega arith)

    is_over : all_devices ≤ p.plugged → (nat_lt (length p.live) most_live && nat_lt p.begun p.streams) ≡ false
        → length p.live ≡ 0 → Q (stopped p)
    is_over plugged full empty = by.over plugged (no_live p.live empty)
        (not_below p.begun p.streams (not_both (nat_lt (length p.live) most_live) (nat_lt p.begun p.streams) full (grind (arith, empty))))

    go : (plugs begins over : Bool) → nat_lt p.plugged all_devices ≡ plugs
        → (nat_lt (length p.live) most_live && nat_lt p.begun p.streams) ≡ begins
        → nat_eq (length p.live) 0 ≡ over
        → Q (if plugs then plug_in p else (if begins then begin p else (if over then stopped p else draw p)))
    go true begins over at_plug at_begin at_end = by.plugs (below p.plugged all_devices at_plug)
    go false true over at_plug at_begin at_end = by.begins (not_below p.plugged all_devices at_plug)
        (below (length p.live) most_live (first_holds _ _ at_begin)) (below p.begun p.streams (last_holds _ _ at_begin))
    go false false true at_plug at_begin at_end = is_over (not_below p.plugged all_devices at_plug) at_begin (none (length p.live) at_end)
    go false false false at_plug at_begin at_end = drawn (not_below p.plugged all_devices at_plug) (not_none (length p.live) at_end)

-- what is shown of what a word makes of a live stream, in each of its cases
pub record ByMoved (Q : Act → Option Live → Type 0) (word : ℕ) (live : Live) : Type 0 where
  pub up : (count : ℕ) → 0 < count → count ≤ live.up → Q (moved_up count live).act (moved_up count live).after
  pub down : (count : ℕ) → 0 < count → count ≤ live.down → Q (moved_down word count live).act (moved_down word count live).after
  pub ends : live.up ≡ 0 → live.down ≡ 0 → Q (ended word live).act None

portion_some : (word left : ℕ) → 0 < left → 0 < portion word left
portion_some word left some = grind arith

portion_most : (word left : ℕ) → portion word left ≤ left
portion_most word left = grind arith

pub by_moved : (Q : Act → Option Live → Type 0) (word : ℕ) (live : Live) → ByMoved Q word live
    → Q (moved word live).act (moved word live).after
by_moved Q word live by = go (goes_up word live) (nat_lt 0 live.down) refl refl
  where
    go : (up down : Bool) → goes_up word live ≡ up → nat_lt 0 live.down ≡ down
        → Q (if up then moved_up (portion word live.up) live
        else (if down then moved_down word (portion word live.down) live else ended word live)).act
        (if up then moved_up (portion word live.up) live
        else (if down then moved_down word (portion word live.down) live else ended word live)).after
    go true down goes left =
        by.up (portion word live.up) (portion_some word live.up (below 0 live.up (first_holds _ _ goes)))
        (portion_most word live.up)
    go false true goes left = by.down (portion word live.down) (portion_some word live.down (below 0 live.down left))
        (portion_most word live.down)
    go false false goes left = by.ends (grind (arith, goes, left)) (grind (arith, left))

-- ---- how far a load can be
-- a live stream has begun, and no more is left of it than there was
pub record IsBegun (begun : ℕ) (live : Live) : Type 0 where
  pub number : live.number < begun
  pub up : live.up ≤ up_size live.number
  pub down : live.down ≤ down_size live.number

-- No more is plugged in and has begun than there is, streams begin when all devices are plugged in, and those that live have begun.
pub record IsUnderWay (p : Progress) : Type 0 where
  pub plugged : p.plugged ≤ all_devices
  pub begun : p.begun ≤ p.streams
  pub links : 0 < p.begun → p.plugged ≡ all_devices
  pub live : All (IsBegun p.begun) p.live

pub under_way_at_first : (seed streams : ℕ) → IsUnderWay (start seed streams)
under_way_at_first seed streams = record {
  plugged = lit≤ tt;
  begun = omega arith;
  links = λ h. absurd (omega (arith, h));
  live = All-nil (IsBegun 0);
}

begun_later : (begun : ℕ) (streams : List Live) → All (IsBegun begun) streams → All (IsBegun (begun + 1)) streams
begun_later begun streams all k d within =
    let was : IsBegun begun (get_or streams k d) = all k d within in
    record { number = omega (arith, was.number); up = was.up; down = was.down }

-- what a word makes of a live stream that has begun
abbrev AfterBegun : (begun : ℕ) → Option Live → Type 0
AfterBegun begun None = Unit {0}
AfterBegun begun (Some live) = IsBegun begun live

moved_begun : (begun word : ℕ) (live : Live) → IsBegun begun live → AfterBegun begun (moved word live).after
moved_begun begun word live is = by_moved (λ act after. AfterBegun begun after) word live (record {
  up = λ count some most. record { number = is.number; up = omega (arith, is.up); down = is.down };
  down = λ count some most. record { number = is.number; up = is.up; down = omega (arith, is.down) };
  ends = λ up down. tt;
})

after_keeps : (begun place : ℕ) (after : Option Live) (streams : List Live) → AfterBegun begun after → All (IsBegun begun) streams
    → All (IsBegun begun) (streams_after place after streams)
after_keeps begun place None streams is all = All-append (IsBegun begun) (take place streams) (drop (suc place) streams)
    (All-take (IsBegun begun) place streams all) (All-drop (IsBegun begun) (suc place) streams all)
after_keeps begun place (Some live) streams is all = All-set (IsBegun begun) streams place live is all

-- a live stream has begun
pub live_begun : (p : Progress) → IsUnderWay p → (place : ℕ) (live : Live) → slice_get p.live place ≡ Some live → IsBegun p.begun live
live_begun p way place live is = subst (IsBegun p.begun) (get_or_from_slice_get p.live place live live is)
    (All-get_or (IsBegun p.begun) p.live place live (slice_get_within p.live place live is) way.live)

pub turn_under_way : (p : Progress) → IsUnderWay p → IsUnderWay (turn p).after
turn_under_way p way = by_turn (λ t. IsUnderWay t.after) p (record {
  plugs = λ some. record {
    plugged = omega (arith, some);
    begun = way.begun;
    links = λ h. absurd (omega (arith, way.links h, some));
    live = way.live;
  };
  begins = λ plugged few left. record {
    plugged = way.plugged;
    begun = omega (arith, left);
    links = λ h. omega (arith, plugged, way.plugged);
    live = All-append (IsBegun (p.begun + 1)) p.live (live_at_first p.begun ∷ []) (begun_later p.begun p.live way.live)
        (All-from_recursion (IsBegun (p.begun + 1)) (live_at_first p.begun ∷ []) (new_begun p.begun, tt));
  };
  over = λ plugged empty left. way;
  moves = λ plugged words word place live is. record {
    plugged = way.plugged;
    begun = way.begun;
    links = way.links;
    live = after_keeps p.begun place (moved word live).after p.live
        (moved_begun p.begun word live (live_begun p way place live is)) way.live;
  };
})
  where
    new_begun : (begun : ℕ) → IsBegun (begun + 1) (live_at_first begun)
    new_begun begun = record { number = omega arith; up = omega arith; down = omega arith }

-- the streams that are to begin stay as many
pub turn_streams : (p : Progress) → (turn p).after.streams ≡ p.streams
turn_streams p = by_turn (λ t. t.after.streams ≡ p.streams) p (record {
  plugs = λ some. refl;
  begins = λ plugged few left. refl;
  over = λ plugged empty left. refl;
  moves = λ plugged words word place live is. refl;
})
