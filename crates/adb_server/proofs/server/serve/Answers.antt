use Rattle.adb_server.proofs.Announcing.{served_here, told_here, told_less}
use Rattle.adb_server.proofs.server.serve.Goals as goal

-- src/server.rt:102:9
pub returns-in-Err-clause-announced : goal.returns-in-Err-clause-announced
returns-in-Err-clause-announced g c =
    told_less c.args.port c.in-Here.here c.in-Err.served (g.N.Sink.written c.args.note.now) (g.N.Sink.written c.announce.new.note)
    c.in-Here.ensures.fits.0 c.in-Here.ensures.fits.1 c.in-Err.ensures.announced

-- src/server.rt:102:9
pub returns-in-Err-clause-here : goal.returns-in-Err-clause-here
returns-in-Err-clause-here g c =
    told_here (g.Y.Yard.here c.args.yard c.args.port) c.in-Here.here c.in-Err.served (g.N.Sink.written c.args.note.now)
    (g.N.Sink.written c.announce.new.note) c.in-Here.ensures.here c.in-Err.ensures.announced

-- src/server.rt:67:1
pub returns-clause-here : goal.returns-clause-here
returns-clause-here g c =
    served_here (g.Y.Yard.here c.args.yard c.args.port) c.in-Here.here c.serve_at.result.served (g.N.Sink.written c.args.note.now)
    (g.N.Sink.written c.announce.new.note) c.in-Here.ensures.here c.in_default-announce.ensures.announced c.serve_at.ensures.note
