-- The up rule that changes nothing tells of no stream's end.
use Rattle.std.proofs.Common.{ℕ, ◌+◌, ◌≡◌, ◌≤◌, List, [], Bool, true, false, Option, Some, None, refl, sym, ◌∙◌, ap, subst, cond, eqb}
use Rattle.std.proofs.Common.{arith, ◌⊎◌, inl, inr, zero, suc, drop}
use Rattle.std.specs.Prelude.{option_and_then}
use Rattle.adb_capture.specs.declared.entry.Entry.{Entry}
use Rattle.adb_stream.specs.declared.row.Part.{Part}
use Rattle.adb_stream.specs.declared.row.Stream.{Stream}
use Rattle.adb_history.specs.Rows.{Client, State, to_stream, none_kept, with_stream_part}
use Rattle.adb_history.specs.declared.ending.Ending.TheVariants.{ClientClosed}
use Rattle.adb_history.specs.Events.{Made, quietly, then_also}
use Rattle.adb_history.specs.Links.{maxdata_of, close_packet, owe_link}
use Rattle.adb_history.specs.Streams.{ends_telling}
use Rattle.adb_history.specs.Flow.{payloads, total, with_flow, flow_after, all_go_up, noted, is_over, closes_if, sends_up, is_streaming}
use Rattle.adb_history.specs.Flow.{up_client, up_stream, up, up_all}
use Rattle.adb_history.specs.Machine.{rule, step, ups}
use Rattle.adb_hub_tables.specs.Places.{StaysOwned}
use Rattle.adb_hub_tables.specs.Endings.{live, logged}
use Rattle.adb_hub_tables.proofs.Reporting.{live_owned, fewer_live, one_of, none_of, logged_then, TellsSame}
use Rattle.adb_hub_tables.proofs.Staying.{stays, owned_then}
use Rattle.adb_hub_rules.proofs.Ending.{row_streams, row_gone}
use Rattle.adb_hub_rules.proofs.GoingUp.{goes_streams}
use Rattle.adb_hub_rules.proofs.Telling.{TellsNone, writes_none}

-- Each stream that is there was there, with the same owners.
abbrev AreOwned : (old new : State) → Type 0
AreOwned old new = (j : ℕ) → StaysOwned (old.streams j) (new.streams j)

-- There are fewer.
record Fewer (old new : State) : Type 0 where
  pub below : ℕ
  pub fewer : live below new.streams + 1 ≤ live below old.streams

-- It tells of no end, or there are fewer streams behind it.
record Rests (s : State) (m : Made) : Type 0 where
  pub owned : AreOwned s m.state
  pub ends : ◌⊎◌ (TellsNone m) (Fewer s m.state)

rests_quiet : (s : State) → Rests s (quietly s)
rests_quiet s = record { owned = λ j. stays (s.streams j); ends = inl (λ rows log. refl) }

rests_then : (s : State) (m : Made) (rule : State → Made) → Rests s m → Rests m.state (rule m.state) → Rests s (then_also m rule)
rests_then s m rule h k = record {
  owned = λ j. owned_then (s.streams j) (m.state.streams j) ((rule m.state).state.streams j) (h.owned j) (k.owned j);
  ends = both h.ends k.ends;
}
  where
    both : ◌⊎◌ (TellsNone m) (Fewer s m.state) → ◌⊎◌ (TellsNone (rule m.state)) (Fewer m.state (rule m.state).state)
        → ◌⊎◌ (TellsNone (then_also m rule)) (Fewer s (rule m.state).state)
    both (inl none) (inl last) = inl (λ rows log.
        none rows log ∙ (last rows (logged rows m.told log) ∙ sym (logged_then rows m.told (rule m.state).told log)))
    both (inl none) (inr few) = inr (record {
      below = few.below;
      fewer = let less = live_owned s.streams m.state.streams h.owned few.below in omega (arith, few.fewer, less);
    })
    both (inr few) last = inr (record {
      below = few.below;
      fewer = let less = live_owned m.state.streams (rule m.state).state.streams k.owned few.below in omega (arith, few.fewer, less);
    })

-- ---- one stream
part_owned : (part : Part) (b : Bool) (row : Option Stream) → StaysOwned row (cond b (option_and_then (with_stream_part part) row) row)
part_owned part false row = stays row
part_owned part true None = tt
part_owned part true (Some stream) = (refl, refl)

gone_owned : (b : Bool) (row : Option Stream) → StaysOwned row (cond b (option_and_then (none_kept {A = Stream}) row) row)
gone_owned false row = stays row
gone_owned true None = tt
gone_owned true (Some stream) = tt

rests_end : (l : ℕ) (stream : Stream) (s : State) → s.streams l ≡ Some stream → Rests s (ends_telling l ClientClosed stream s)
rests_end l stream s here = record { owned = owned; ends = inr (record { below = suc l; fewer = fewer }) }
  where
    owed : State
    owed = (owe_link stream.link (close_packet l stream.part.remote) s).state

    rows : (ends_telling l ClientClosed stream s).state.streams ≡ (to_stream l none_kept s).streams
    rows = (row_streams l ClientClosed stream owed).0

    owned : AreOwned s (ends_telling l ClientClosed stream s).state
    owned j = subst (λ row. StaysOwned (s.streams j) row) (sym (ap (λ rows. rows j) rows)) (gone_owned (eqb l j) (s.streams j))

    fewer : live (suc l) (ends_telling l ClientClosed stream s).state.streams + 1 ≤ live (suc l) s.streams
    fewer = fewer_live s.streams (ends_telling l ClientClosed stream s).state.streams l owned (one_of (s.streams l) stream here)
        (none_of ((ends_telling l ClientClosed stream s).state.streams l)
        (ap (λ rows. rows l) rows ∙ row_gone l stream s here)) (suc l) (omega arith)

rests_close : (over : Bool) (l : ℕ) (row : Option Stream) (s : State) → s.streams l ≡ row → Rests s (closes_if over l row s)
rests_close over l None s here = rests_quiet s
rests_close false l (Some stream) s here = rests_quiet s
rests_close true l (Some stream) s here = rests_end l stream s here

rests_up : (l : ℕ) (stream : Stream) (client : Client) (ps : List (List ℕ)) (s : State) → Rests s (sends_up l stream client ps s)
rests_up l stream client ps s =
    rests_then s (all_go_up l stream ps (noted l stream client.held ps s))
    (λ s. closes_if (is_over client.about.ended (drop (total ps) client.held) (flow_after ps stream.part.flow)) l (s.streams l) s)
    (record { owned = owned; ends = inl (writes_none l stream ps (noted l stream client.held ps s)) })
    (rests_close (is_over client.about.ended (drop (total ps) client.held) (flow_after ps stream.part.flow)) l
    ((all_go_up l stream ps (noted l stream client.held ps s)).state.streams l)
    (all_go_up l stream ps (noted l stream client.held ps s)).state refl)
  where
    owned : AreOwned s (all_go_up l stream ps (noted l stream client.held ps s)).state
    owned j =
        subst (λ row. StaysOwned (s.streams j) row) (sym (ap (λ rows. rows j) (goes_streams l stream ps (noted l stream client.held ps s))))
        (part_owned (with_flow (flow_after ps stream.part.flow) stream.part) (eqb l j) (s.streams j))

rests_one : (l : ℕ) (s : State) → Rests s (up l s)
rests_one l s = at_row (s.streams l)
  where
    at_client : (stream : Stream) (row : Option Client) → Rests s (up_client l stream row s)
    at_client stream None = rests_quiet s
    at_client stream (Some client) = by_test (is_streaming l client.about.phase)
      where
        by_test : (b : Bool) → Rests s (cond b (sends_up l stream client
            (payloads stream.part.flow (maxdata_of stream.link s.devices) client.held) s) (quietly s))
        by_test false = rests_quiet s
        by_test true = rests_up l stream client (payloads stream.part.flow (maxdata_of stream.link s.devices) client.held) s

    at_row : (row : Option Stream) → Rests s (up_stream l row s)
    at_row None = rests_quiet s
    at_row (Some stream) = at_client stream (s.clients stream.client)

-- ---- all of them
rests_all : (k : ℕ) (s : State) → Rests s (up_all k s)
rests_all zero s = rests_quiet s
rests_all (suc k) s = rests_then s (up_all k s) (up (suc k)) (rests_all k s) (rests_one (suc k) (up_all k s).state)

pub ups_none : (k : ℕ) (s : State) → (up_all k s).state ≡ s → TellsNone (up_all k s)
ups_none k s same = go (rests_all k s).ends
  where
    go : ◌⊎◌ (TellsNone (up_all k s)) (Fewer s (up_all k s).state) → TellsNone (up_all k s)
    go (inl none) = none
    go (inr few) =
        let equal : live few.below (up_all k s).state.streams ≡ live few.below s.streams =
        ap (λ (t : State). live few.below t.streams) same in
        absurd (omega (arith, few.fewer, equal))

-- ---- the step of an entry
pub ups_tell_none : (s : State) → (ups s).state ≡ s → TellsNone (ups s)
ups_tell_none s same = ups_none s.drawn s same

-- where it is its rule, it tells the ends that the rule tells
pub rule_tells : (e : Entry) (s : State) → (step s e).state ≡ (rule e s).state → TellsSame (rule e s).told (step s e).told
rule_tells e s same = λ rows log.
    ups_tell_none (rule e s).state same rows (logged rows (rule e s).told log)
    ∙ sym (logged_then rows (rule e s).told (ups (rule e s).state).told log)

-- where the rule tells of no end, it tells the ends that the up rule tells
pub quiet_rule_tells : (e : Entry) (s : State) → TellsNone (rule e s) → TellsSame (ups (rule e s).state).told (step s e).told
quiet_rule_tells e s none = λ rows log.
    ap (logged rows (ups (rule e s).state).told) (none rows log) ∙ sym (logged_then rows (rule e s).told (ups (rule e s).state).told log)
