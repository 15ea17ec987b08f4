-- What a run over the sockets of this machine leaves.
use Rattle.std.proofs.Common.{ℕ, ◌≡◌, ◌⊎◌, Bool, List, Option, Some, None, refl, sym, ap, subst, inl, inr}
use Rattle.std.specs.Prelude.{String}
use Rattle.adb_outside.specs.Outside.{Counts}
use Rattle.adb_asking.specs.Calling.{CallsTool, Dials}
use Rattle.adb_asking.specs.Telling.{Sight}
use Rattle.adb_asking.specs.declared.ends.ToolEnd.{ToolEnd}
use Rattle.adb_asking.specs.declared.ends.ToolEnd.TheVariants as ends
use Rattle.adb_asking.proofs.Calls.{called_starved}
use Rattle.adb_replay.proofs.Counting.{counts_first}
use Rattle.adb_server.specs.declared.server.Served.{Served}
use Rattle.adb_server.specs.declared.server.Served.TheVariants as served
use Rattle.adb_words.specs.declared.tool.Tool.{Tool}
use Rattle.adb_top.specs.Faults.{tells_write_fault}
use Rattle.adb_top.specs.Notes.{out_of_memory_line, IsJust, WritesNote}
use Rattle.adb_top.specs.declared.status.Status.{Status}
use Rattle.adb_top.specs.declared.status.Status.TheVariants.{Done, WriteFault, OutOfMemory, RecordFault, DoorFault}
use Rattle.adb_top.specs.ServedNote.{IsStatusOf, ServesNote}
use Rattle.adb_top.specs.Tools.{RunsTool}
use Rattle.adb_top.proofs.Served.{serves_lost, serves_note}
use Rattle.adb_serving.specs.Live.{Ended, ServesLive, live_yard}

-- ---- a tool
module _ {Y : Type 0} (y : Sight Y) where
  counts_live : (yard yard_new : Y) {failed : Bool} → Counts y.steady y.faults yard yard_new failed
      → Counts live_yard.steady live_yard.faults (y.faults yard) (y.faults yard_new) failed
  counts_live yard yard_new c = record {
    count = c.count;
    fault = c.fault;
    stands = c.stands;
    keeps = λ never. never;
    steady = λ never. absurd never;
  }

  dials_live : (yard yard_new : Y) (end : ToolEnd) → Dials y yard yard_new end → Dials live_yard (y.faults yard) (y.faults yard_new) end
  dials_live yard yard_new end d = record {
    unreached = d.unreached;
    counts = counts_live yard yard_new d.counts;
    fault = d.fault;
    never = λ never. absurd never;
  }

  module _ {S K N : Type 0} (s : Sight S) (k : Sight K) (n : Sight N) (source source_new : S) (sink sink_new : K) (note note_new : N)
      (yard : Y)
    where
      calls_live : (tool : Tool) (mid : N) (yard_new : Y) (end : ToolEnd)
          → CallsTool s k n y tool source source_new sink sink_new note mid yard yard_new end
          → CallsTool s k n live_yard tool source source_new sink sink_new note mid (y.faults yard) (y.faults yard_new) end
      calls_live tool mid yard_new end c = record {
        told = λ input answers has is. absurd (let clash : ◌≡◌ {A = Option (List ℕ)} None (Some answers) = is in cc);
        means = c.means;
        untouched = c.untouched;
        reads = c.reads;
        counts = c.counts;
        dials = dials_live yard yard_new end c.dials;
        too_large = c.too_large;
        large = c.large;
        undialled = λ either. ap y.faults (c.undialled either);
        called = c.called;
      }

      -- The yard is seen by its count alone.
      pub tool_live : {A : Type 0} (words : List (String A)) (status : Status)
          → RunsTool words s k n y source source_new sink sink_new note note_new yard status
          → RunsTool words s k n live_yard source source_new sink sink_new note note_new (y.faults yard) status
      tool_live words status r = record {
        end = r.end;
        mid = r.mid;
        yard_new = y.faults r.yard_new;
        usage = r.usage;
        command = r.command;
        untouched = λ none. (let u = r.untouched none in (u.0, u.1, u.2, ap y.faults u.3));
        calls = λ call is. calls_live call.tool r.mid r.yard_new r.end (r.calls call is);
        tells = r.tells;
      }

-- ---- memory ran out before there was a yard
module _ {N : Type 0} (n : Sight N) (note note_new : N) (status : Status) (own : (status ≡ OutOfMemory) ⊎ (status ≡ WriteFault))
    (told : WritesNote status (IsJust OutOfMemory out_of_memory_line) n.faults n.told note note_new)
    (counts : Counts n.steady n.faults note note_new (tells_write_fault status)) where
  pub tool_starved : {A S K : Type 0} (words : List (String A)) (s : Sight S) (k : Sight K) (source : S) (sink : K)
      → RunsTool words s k n live_yard source source sink sink note note_new 0 status
  tool_starved words s k source sink = record {
    end = ends.OutOfMemory;
    mid = note;
    yard_new = 0;
    usage = λ none. inr refl;
    command = λ is. (let clash : ends.OutOfMemory ≡ ends.Usage = is in cc);
    untouched = λ none. (refl, refl, refl, refl);
    calls = λ call is. called_starved k n live_yard s call.tool source sink note 0;
    tells = record { own = own; notes = told; shows = tt; counts = counts };
  }

  pub serve_starved : (asked : ℕ) → ServesLive asked status n note note_new
  serve_starved asked = (
    served.OutOfMemory,
    serves_note n asked served.OutOfMemory status note note note_new (counts_first n.steady n.faults note)
        (record { own = own; notes = told; counts = counts }) (inl refl),
  )

-- ---- how a server ended, by whether its record was written out
module _ {N : Type 0} (n : Sight N) (was status : Status) (note mid after : N) where
  pub serve_ended : (asked : ℕ) → ServesLive asked was n note mid → Ended was status n mid after → ServesLive asked status n note after
  serve_ended asked (end, s) (inl same) =
      let there = subst (λ (m : N). ServesNote asked end was n note m) (sym same.1) s in
      (end, subst (λ (t : Status). ServesNote asked end t n note after) (sym same.0) there)
  serve_ended asked (end, s) (inr lost) = (
    served.RecordFault,
    serves_lost n asked status note mid after
        (subst (λ (e : Served). ServesNote asked e Done n note mid) (done_of end (subst (λ (t : Status). IsStatusOf end t) lost.0 s.own))
        (subst (λ (t : Status). ServesNote asked end t n note mid) lost.0 s)) lost.1,
  )
    where
      done_of : (end : Served) → IsStatusOf end Done → end ≡ served.Done
      done_of served.Done is = refl
      done_of served.WriteFault is = let clash : Done ≡ WriteFault = is in cc
      done_of served.OutOfMemory (inl is) = let clash : Done ≡ OutOfMemory = is in cc
      done_of served.OutOfMemory (inr is) = let clash : Done ≡ WriteFault = is in cc
      done_of served.RecordFault (inl is) = let clash : Done ≡ RecordFault = is in cc
      done_of served.RecordFault (inr is) = let clash : Done ≡ WriteFault = is in cc
      done_of served.DoorFault (inl is) = let clash : Done ≡ DoorFault = is in cc
      done_of served.DoorFault (inr is) = let clash : Done ≡ WriteFault = is in cc
