-- What the links of a load are after any number of its turns.
use Rattle.std.proofs.Common.{ℕ, ◌+◌, ◌^◌, ◌<◌, ◌≤◌, Bool, true, false, List, [], ◌++◌, sym, refl, subst, arith, if◌then◌else◌}
use Rattle.std.proofs.lemmas.List.{append-nil}
use Rattle.adb_wire.specs.declared.headers.TheConstants.{MAX_PAYLOAD}
use Rattle.adb_load.specs.declared.act.Act.{Act}
use Rattle.adb_load.specs.declared.act.Act.TheVariants.{Plug, Come, Write, Answer, Leave, Close}
use Rattle.adb_load.specs.declared.act.Piece.TheVariants.{Whole, Head}
use Rattle.adb_load.specs.declared.live.Live.{Live}
use Rattle.adb_load.specs.Acts.{link_of, remote_of, acts_from, acts_due}
use Rattle.adb_load.specs.Streams.{is_set, moved}
use Rattle.adb_load.specs.Course.{Progress, Turn, turn, start}
use Rattle.adb_laws_loads.proofs.Turns.{all_devices, by_turn, by_moved}
use Rattle.adb_laws_loads.proofs.Turns.{IsBegun, IsUnderWay, under_way_at_first, live_begun, turn_under_way, turn_streams}
use Rattle.adb_laws_loads.proofs.Links.{IsTurn, BringsOn, brought_at_first, turn_brings}
use Rattle.adb_laws_loads.proofs.Online.{AreOnline, online_at_first, PlugsNext, plugged_after, turn_online}
use Rattle.adb_laws_loads.proofs.Silent.{IsPluggedIn, IsSilent, turn_silent}

-- how many streams a load has at most
abbrev pub most_streams : ℕ
most_streams = 2 ^ 16

-- The links of some acts: what each brought, that so many are there, with their devices online, and that no other brought anything.
pub record HasLinks (count : ℕ) (done : List Act) : Type 0 where
  pub brings : (t : ℕ) → BringsOn t done
  pub online : AreOnline count done
  pub silent : IsSilent count done

pub links_at_first : HasLinks 0 []
links_at_first = record { brings = λ t. brought_at_first t; online = online_at_first; silent = λ t beyond. refl }

-- An act may begin the next turn, where so many devices are plugged in.
pub record IsNext (count : ℕ) (a : Act) : Type 0 where
  pub turn : IsTurn a
  pub plugs : PlugsNext count a
  pub within : IsPluggedIn count a

-- after the acts of one more turn
pub act_links : (count : ℕ) (done : List Act) (a : Act) → HasLinks count done → IsNext count a
    → HasLinks (plugged_after count a) (done ++ acts_from a)
act_links count done a has is = record {
  brings = λ t. turn_brings t done (has.brings t) a is.turn;
  online = turn_online count done has.online a is.plugs;
  silent = turn_silent count done has.silent a is.within is.plugs;
}

-- ---- the turns of a load
-- How far a load of at most so many streams is, and the links of the acts so far.
pub record HasRun (done : List Act) (p : Progress) : Type 0 where
  pub way : IsUnderWay p
  pub few : p.streams < most_streams
  pub links : HasLinks p.plugged done

pub run_at_first : (seed streams : ℕ) → streams < most_streams → HasRun [] (start seed streams)
run_at_first seed streams few = record { way = under_way_at_first seed streams; few = few; links = links_at_first }

-- the numbers of a live stream are in the ranges of words
live_small : (p : Progress) → IsUnderWay p → p.streams < most_streams → (live : Live) → IsBegun p.begun live
    → remote_of live.number < 2 ^ 32
live_small p way few live is = omega (arith, is.number, way.begun, few)

answer_short : (live : Live) (count begun : ℕ) → IsBegun begun live → count ≤ live.down → count ≤ MAX_PAYLOAD
answer_short live count begun is most = omega (arith, is.down, most)

-- the links of streams are among those that are plugged in
link_within : (p : Progress) (stream : ℕ) → all_devices ≤ p.plugged → link_of stream ≤ p.plugged
link_within p stream plugged = omega (arith, plugged)

turn_links : (done : List Act) (p : Progress) → HasRun done p → HasLinks (turn p).after.plugged (done ++ acts_due (turn p).act)
turn_links done p has = by_turn (λ (t : Turn). HasLinks t.after.plugged (done ++ acts_due t.act)) p (record {
  plugs = λ some. act_links p.plugged done (Plug (p.plugged + 1)) has.links (record { turn = tt; plugs = refl; within = tt });
  begins = λ plugged few left. act_links p.plugged done (Come p.begun) has.links
      (record { turn = omega (arith, left, has.few); plugs = tt; within = link_within p p.begun plugged });
  over = λ plugged empty left. subst (HasLinks p.plugged) (sym (append-nil done)) has.links;
  moves = λ plugged words word place live is. moves word live plugged (live_begun p has.way place live is);
})
  where
    next : (a : Act) → IsTurn a → PlugsNext p.plugged a → IsPluggedIn p.plugged a
        → HasLinks (plugged_after p.plugged a) (done ++ acts_from a)
    next a turn plugs within = act_links p.plugged done a has.links (record { turn = turn; plugs = plugs; within = within })

    small : (live : Live) → IsBegun p.begun live → remote_of live.number < 2 ^ 32
    small live is = live_small p has.way has.few live is

    down : (live : Live) (from count : ℕ) (two : Bool) → all_devices ≤ p.plugged → IsBegun p.begun live → count ≤ live.down
        → HasLinks p.plugged (done ++ acts_from (Answer live.number from count (if two then Head else Whole)))
    down live from count true plugged is most =
        next (Answer live.number from count Head) (small live is, answer_short live count p.begun is most) tt
        (link_within p live.number plugged)
    down live from count false plugged is most =
        next (Answer live.number from count Whole) (small live is, answer_short live count p.begun is most) tt
        (link_within p live.number plugged)

    ends : (live : Live) (closes : Bool) → all_devices ≤ p.plugged → IsBegun p.begun live
        → HasLinks p.plugged (done ++ acts_from (if closes then Close live.number else Leave live.number))
    ends live true plugged is = next (Close live.number) (small live is) tt (link_within p live.number plugged)
    ends live false plugged is = next (Leave live.number) tt tt tt

    moves : (word : ℕ) (live : Live) → all_devices ≤ p.plugged → IsBegun p.begun live
        → HasLinks p.plugged (done ++ acts_from (moved word live).act)
    moves word live plugged is = by_moved (λ act after. HasLinks p.plugged (done ++ acts_from act)) word live (record {
      up = λ count some most. next (Write live.number _ count) (small live is) tt (link_within p live.number plugged);
      down = λ count some most. down live _ count (is_set word 5) plugged is most;
      ends = λ up none. ends live (is_set word 4) plugged is;
    })

pub turn_runs : (done : List Act) (p : Progress) → HasRun done p → HasRun (done ++ acts_due (turn p).act) (turn p).after
turn_runs done p has = record {
  way = turn_under_way p has.way;
  few = subst (λ (n : ℕ). n < most_streams) (sym (turn_streams p)) has.few;
  links = turn_links done p has;
}
