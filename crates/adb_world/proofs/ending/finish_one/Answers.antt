use Rattle.adb_world.proofs.Written.{dropped_have}
use Rattle.adb_world.proofs.Finishing.{ends_running, same_but}
use Rattle.adb_world.proofs.ending.finish_one.Goals as goal

pub settle_parts-requires-clause-wrote : goal.settle_parts-requires-clause-wrote
settle_parts-requires-clause-wrote c =
    dropped_have 4294967295 c.args.number c.args.parts.now c.end-session.new.self c.requires.done.words c.end-session.ensures.dropped

pub settle_parts-requires-clause-runs : goal.settle_parts-requires-clause-runs
settle_parts-requires-clause-runs c =
    ends_running c.what_came_stays.ensures c.args.number c.args.parts.now c.end-session.new.self
    c.requires.done.ease.runs c.end-session.ensures.holds

pub returns-clause-same : goal.returns-clause-same
returns-clause-same c =
    same_but c.args.number c.args.parts.now c.end-session.new.self c.settle_parts.new.parts
    c.end-session.ensures.dropped c.in_ok-settle_parts.ensures.goes.same

pub returns-clause-files : goal.returns-clause-files
returns-clause-files c =
    c.ended_sessions_change_no_file.ensures c.args.number c.args.parts.now c.end-session.new.self
    c.settle_parts.new.parts c.requires.done (record {
      dropped = c.end-session.ensures.dropped;
      ends = c.end-session.ensures.holds;
      goes = c.in_ok-settle_parts.ensures.goes;
      done = c.in_ok-settle_parts.ensures.done;
    })

pub returns-in_err-settle_parts-clause-files : goal.returns-in_err-settle_parts-clause-files
returns-in_err-settle_parts-clause-files c =
    c.sessions_that_end_in_part_change_no_file.ensures c.args.number c.args.parts.now c.end-session.new.self
    c.settle_parts.new.parts c.requires.done (record {
      dropped = c.end-session.ensures.dropped;
      ends = c.end-session.ensures.holds;
      stopped = c.in_err-settle_parts.ensures.stopped;
    })
