use Rattle.std.proofs.Common.{◌<◌, false, Option, subst}
use Rattle.std.specs.Prelude.{IfSome}
use Rattle.std.proofs.lemmas.Result.{err_from_is_err_and}
use Rattle.adb_capture.specs.declared.entry.Entry.{Entry}
use Rattle.adb_replay.specs.Keeping.{Out}
use Rattle.adb_replay.proofs.Counting.{counts_then}
use Rattle.adb_entries.specs.Remaining.{remaining}
use Rattle.adb_replay.proofs.Drains.{Hands, HandOut, draining_on, draining_over, draining_stopped, draining_lost}
use Rattle.adb_replay.proofs.replaying.drain.Goals as goal

pub hand_next-requires : goal.hand_next-requires
hand_next-requires g c =
    let held = c.requires.held in
    let now = c.loop-entry.invariant.draining held.0 held.1 in
    (now.done, now.lawful)

pub returns-in_err-entry-clause-drains : goal.returns-in_err-entry-clause-drains
returns-in_err-entry-clause-drains g c =
    let passed = err_from_is_err_and c.from_residual.result c.from_residual.ensures.1 in
    let before : Out = (g.K.Sink.written c.args.sink.now, c.args.output.now) in
    let now : Out = (g.K.Sink.written c.loop-entry.sink, c.loop-entry.output) in
    rw (passed.1, passed.2)
    (λ h lawful. draining_stopped {before = before} {now = now} c.hand_next.new.hub
    (c.loop-entry.invariant.draining h lawful))

pub returns-in_err-keep-clause-drains : goal.returns-in_err-keep-clause-drains
returns-in_err-keep-clause-drains g c =
    let passed = err_from_is_err_and c.from_residual-in_err-keep.result c.from_residual-in_err-keep.ensures.1 in
    let before : Out = (g.K.Sink.written c.args.sink.now, c.args.output.now) in
    let out : HandOut = record {
      held = c.loop-entry.hub;
      kept = (g.K.Sink.written c.loop-entry.sink, c.loop-entry.output);
      entry = c.in-Some.entry;
      held_then = c.hand_next.new.hub;
      kept_then = (g.K.Sink.written c.keep.new.sink, c.keep.new.output);
    } in
    let hands = subst (λ (out : Option Entry). Hands c.loop-entry.hub out c.hand_next.new.hub) c.in-Some.is c.in_ok-entry.ensures.next in
    rw (passed.1, passed.2)
    (λ h lawful. draining_lost h before out c.draining_ends.ensures hands (c.loop-entry.invariant.draining h lawful) c.in_err-keep.field-0.0
    c.in_err-keep.ensures.loss c.in_err-keep.ensures.kept)

pub loop-entry-preserved : goal.loop-entry-preserved
loop-entry-preserved g c =
    let before : Out = (g.K.Sink.written c.args.sink.now, c.args.output.now) in
    let out : HandOut = record {
      held = c.loop-entry.hub;
      kept = (g.K.Sink.written c.loop-entry.sink, c.loop-entry.output);
      entry = c.in-Some.entry;
      held_then = c.hand_next.new.hub;
      kept_then = (g.K.Sink.written c.keep.new.sink, c.keep.new.output);
    } in
    let hands = subst (λ (out : Option Entry). Hands c.loop-entry.hub out c.hand_next.new.hub) c.in-Some.is c.in_ok-entry.ensures.next in
    record {
      draining = λ h lawful. draining_on h before out c.draining_ends.ensures hands
          (c.loop-entry.invariant.draining h lawful) c.in_ok-keep.ensures.kept;
      counts = counts_then g.K.Sink.steady g.K.Sink.faults c.args.sink.now c.loop-entry.sink c.keep.new.sink {g = false}
          c.loop-entry.invariant.counts c.in_ok-keep.ensures.counts;
    }

pub loop-entry-smaller : goal.loop-entry-smaller
loop-entry-smaller g c =
    subst (λ (out : Option Entry). IfSome out (λ _. remaining c.hand_next.new.hub < remaining c.loop-entry.hub)) c.in-Some.is
    c.in_ok-entry.ensures.fewer

pub returns-clause-drains : goal.returns-clause-drains
returns-clause-drains g c =
    let before : Out = (g.K.Sink.written c.args.sink.now, c.args.output.now) in
    let now : Out = (g.K.Sink.written c.loop-entry.sink, c.loop-entry.output) in
    λ h lawful. draining_over {before = before} {now = now} c.hand_next.new.hub c.draining_ends.ensures
    (subst (λ (out : Option Entry). Hands c.loop-entry.hub out c.hand_next.new.hub) c.in_default.is c.in_ok-entry.ensures.next)
    (c.loop-entry.invariant.draining h lawful)
