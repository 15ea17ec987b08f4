-- What the streams of a load were handed, with all that is due handed out after each entry.
use Rattle.std.proofs.Common.{ℕ, ◌≡◌, ◌<◌, ◌≤◌, [], length, sym, ap, subst, ◌∙◌, arith}
use Rattle.adb_history.specs.Machine.{History}
use Rattle.adb_history.specs.Book.{Book, asked}
use Rattle.adb_history.specs.Births.{births}
use Rattle.adb_history.specs.Drained.{drained_from}
use Rattle.adb_history.specs.Tied.{came_count}
use Rattle.adb_load.specs.Course.{start, turns_left}
use Rattle.adb_load.specs.Load.{acts_of_turns, acts_ahead, entries_of, load}
use Rattle.adb_laws_loads.specs.Totals.{down_of, past_leads}
use Rattle.adb_laws_loads.proofs.Inputs.{SameCame, load_same}
use Rattle.adb_laws_loads.proofs.Links.{past_of}
use Rattle.adb_laws_loads.proofs.Runs.{most_streams}
use Rattle.adb_laws_loads.proofs.Sums.{same_from, handed_is_past}
use Rattle.adb_laws_loads.proofs.Births.{HasBirths}
use Rattle.adb_laws_loads.proofs.Clients.{came_past, has_served}

-- the streams of a whole load, and how many clients came
load_served : (seed streams : ℕ) → streams < most_streams
    → (n : ℕ) × HasBirths n (past_of (acts_ahead (start seed streams))) × (came_count (past_of (acts_ahead (start seed streams))) ≡ n)
unfolding acts_ahead
load_served seed streams few =
    let acts = acts_of_turns (turns_left (start seed streams)) (start seed streams) in
    let served = has_served seed streams (turns_left (start seed streams)) few in
    (_, served.births, ap came_count (sym (came_past acts)) ∙ served.follows.stands.came)

same_handed : (n : ℕ) (h g : History) → SameCame h g → HasBirths n g → came_count g ≡ n → down_of h ≡ past_leads h
same_handed n h g same has came_is =
    handed_is_past h (same_from h g same has.streams) replied (counted ∙ sym (same.brings.came_count ∙ came_is))
  where
    counted : length (births h) ≡ n
    counted = ap (length {A = _}) same.births ∙ has.counted

    replied : (c : ℕ) → 0 < c → c ≤ length (births h) → length (asked c h).replies ≡ 4
    replied c some le = ap (λ (b : Book). length (b.asked c).replies) same.book ∙ has.replied c some (omega (arith, le, counted))

-- What the streams of a load were handed is what was put to its clients past the replies that lead it.
pub load_handed : (seed streams : ℕ) → streams < most_streams
    → down_of (drained_from [] (load seed streams)) ≡ past_leads (drained_from [] (load seed streams))
load_handed seed streams few =
    let acts = acts_ahead (start seed streams) in
    let served = load_served seed streams few in
    same_handed served.0 (drained_from [] (entries_of acts)) (past_of acts)
    (subst (SameCame (drained_from [] (entries_of acts))) (came_past acts) (load_same acts)) served.1 served.2
