-- The clients of a load after any number of its turns: each that came has its stream.
use Rattle.std.proofs.Common.{ℕ, ◌+◌, ◌≡◌, ◌<◌, ◌≤◌, Bool, true, false, List, [], ◌∷◌, ◌++◌, refl, sym, ap, subst, ◌∙◌, arith}
use Rattle.std.proofs.Common.{if◌then◌else◌}
use Rattle.std.proofs.lemmas.List.{append-nil}
use Rattle.adb_capture.specs.declared.entry.Entry.TheVariants.{Recv}
use Rattle.adb_forward.specs.declared.row.ForwardRow.{ForwardRow}
use Rattle.adb_history.specs.Asking.{nothing_asked, asks_with}
use Rattle.adb_history.specs.Machine.{History}
use Rattle.adb_history.specs.Book.{devices_if}
use Rattle.adb_load.specs.declared.act.Act.{Act}
use Rattle.adb_load.specs.declared.act.Act.TheVariants.{Plug, Come, Write, Answer, Leave, Close}
use Rattle.adb_load.specs.declared.act.Piece.TheVariants.{Whole, Head}
use Rattle.adb_load.specs.declared.live.Live.{Live}
use Rattle.adb_load.specs.Acts.{client_of, link_of, asked_of, up_bytes, entry_of, acts_from, acts_due}
use Rattle.adb_load.specs.Streams.{is_set, moved}
use Rattle.adb_load.specs.Course.{Progress, Turn, turn, start}
use Rattle.adb_load.specs.Load.{acts_of_turns, entries_of}
use Rattle.adb_laws_loads.proofs.Turns.{all_devices, after_turns, turns_keep, by_turn, by_moved, IsBegun, under_way_at_first, live_begun}
use Rattle.adb_laws_loads.proofs.Inputs.{came, onto_reverse}
use Rattle.adb_laws_loads.proofs.Links.{past_of, past_then, packets_on}
use Rattle.adb_laws_loads.proofs.Runs.{most_streams, HasRun, run_at_first, turn_runs}
use Rattle.adb_laws_loads.proofs.Asks.{run_online, asks_on, client_asks}
use Rattle.adb_laws_loads.proofs.Standing.{Stands, at_first}
use Rattle.adb_laws_loads.proofs.Following.{Follows, turn_follows}
use Rattle.adb_laws_loads.proofs.Births.{HasBirths, births_at_first, births_stay, read_nothing, stream_begins}

-- the history of some acts, by either name
pub came_past : (acts : List Act) → came acts ≡ past_of acts
came_past acts = onto_reverse (entries_of acts) [] ∙ append-nil (past_of acts)

-- ---- act by act
-- what a link brings begins no stream
recvs : (n t : ℕ) (bytes : List ℕ) (h : History) → HasBirths n h → HasBirths n (Recv t bytes ∷ h)
recvs n t bytes h has = births_stay n (Recv t bytes) h (record { births = refl; asked = λ c. refl }) has

-- An act of a turn in which no stream begins; who writes has a stream.
abbrev IsOn : (n : ℕ) → Act → Type 0
IsOn n (Plug link) = Unit {0}
IsOn n (Write stream from count) = stream < n
IsOn n (Answer stream from count Whole) = Unit {0}
IsOn n (Answer stream from count Head) = Unit {0}
IsOn n (Leave stream) = Unit {0}
IsOn n (Close stream) = Unit {0}
IsOn n _ = ⊥

act_births : (n plugged : ℕ) (a : Act) (h : History) → Stands n plugged h → HasBirths n h → IsOn n a
    → HasBirths n (past_of (acts_from a) ++ h)
act_births n plugged (Plug link) h at has on =
    recvs n link _ _ (births_stay n (entry_of (Plug link)) h (record { births = refl; asked = λ c. refl }) has)
act_births n plugged (Write stream from count) h at has on =
    let over = at.over (client_of stream) (omega arith) (omega (arith, on)) in
    recvs n (link_of stream) _ _ (births_stay n (entry_of (Write stream from count)) h
    (read_nothing n plugged (client_of stream) (up_bytes stream from count) h at over) has)
act_births n plugged (Answer stream from count Whole) h at has on = recvs n (link_of stream) _ h has
act_births n plugged (Answer stream from count Head) h at has on = recvs n (link_of stream) _ _ (recvs n (link_of stream) _ h has)
act_births n plugged (Leave stream) h at has on = births_stay n (entry_of (Leave stream)) h
    (record { births = refl; asked = λ c. refl }) has
act_births n plugged (Close stream) h at has on = recvs n (link_of stream) _ h has
act_births n plugged _ h at has on = absurd on

-- ---- turn by turn
-- How far a load is, what stands of it, and the streams of its clients so far.
pub record HasServed (done : List Act) (p : Progress) : Type 0 where
  pub run : HasRun done p
  pub follows : Follows done p
  pub births : HasBirths p.begun (past_of done)

served_at_first : (seed streams : ℕ) → streams < most_streams → HasServed [] (start seed streams)
served_at_first seed streams few = record {
  run = run_at_first seed streams few;
  follows = record { may = tt; way = under_way_at_first seed streams; stands = at_first };
  births = births_at_first;
}

module _ (done : List Act) (p : Progress) (has : HasServed done p) where
  stands : Stands p.begun p.plugged (past_of done)
  stands = subst (Stands p.begun p.plugged) (came_past done) has.follows.stands

  next : (a : Act) → IsOn p.begun a → HasBirths p.begun (past_of (done ++ acts_from a))
  next a on = subst (HasBirths p.begun) (sym (past_then done (acts_from a)))
      (act_births p.begun p.plugged a (past_of done) stands has.births on)

  asks : all_devices ≤ p.plugged → (rows : List (ℕ × ForwardRow))
      → asks_with (devices_if false (past_of done)) rows (asked_of p.begun) nothing_asked ≡ asks_on (link_of p.begun)
  asks plugged rows =
      ap (λ table. asks_with table rows (asked_of p.begun) nothing_asked) (run_online done p has.run plugged) ∙ client_asks rows p.begun

  begins : all_devices ≤ p.plugged → p.begun < p.streams → HasBirths (p.begun + 1) (past_of (done ++ acts_from (Come p.begun)))
  begins plugged left =
      subst (HasBirths (p.begun + 1)) (sym (past_then done (acts_from (Come p.begun))))
      (stream_begins p.begun p.plugged (past_of done) stands has.births (asks plugged) (packets_on (link_of p.begun) done)
      (omega (arith, left, has.run.few)) (has.run.links.brings (link_of p.begun)))

  down : (stream from count : ℕ) (two : Bool) → HasBirths p.begun
      (past_of (done ++ acts_from (Answer stream from count (if two then Head else Whole))))
  down stream from count true = next (Answer stream from count Head) tt
  down stream from count false = next (Answer stream from count Whole) tt

  ends : (stream : ℕ) (closes : Bool) → HasBirths p.begun (past_of (done ++ acts_from (if closes then Close stream else Leave stream)))
  ends stream true = next (Close stream) tt
  ends stream false = next (Leave stream) tt

  moves : (word : ℕ) (live : Live) → IsBegun p.begun live → HasBirths p.begun (past_of (done ++ acts_from (moved word live).act))
  moves word live is = by_moved (λ act after. HasBirths p.begun (past_of (done ++ acts_from act))) word live (record {
    up = λ count some most. next (Write live.number _ count) is.number;
    down = λ count some most. down live.number _ count (is_set word 5);
    ends = λ up none. ends live.number (is_set word 4);
  })

  turn_births : HasBirths (turn p).after.begun (past_of (done ++ acts_due (turn p).act))
  turn_births = by_turn (λ (t : Turn). HasBirths t.after.begun (past_of (done ++ acts_due t.act))) p (record {
    plugs = λ some. next (Plug (p.plugged + 1)) tt;
    begins = λ plugged few left. begins plugged left;
    over = λ plugged empty left. subst (λ acts. HasBirths p.begun (past_of acts)) (sym (append-nil done)) has.births;
    moves = λ plugged words word place live is. moves word live (live_begun p has.run.way place live is);
  })

  turn_serves : HasServed (done ++ acts_due (turn p).act) (turn p).after
  turn_serves = record { run = turn_runs done p has.run; follows = turn_follows done p has.follows; births = turn_births }

-- After any number of turns of a load.
pub has_served : (seed streams turns : ℕ) → streams < most_streams
    → HasServed (acts_of_turns turns (start seed streams)) (after_turns turns (start seed streams))
has_served seed streams turns few = turns_keep HasServed turn_serves turns [] (start seed streams) (served_at_first seed streams few)
