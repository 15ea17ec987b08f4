use Rattle.std.proofs.Common.{Bool, refl, subst}
use Rattle.adb_os_record.specs.Written.{GoesOut}
use Rattle.adb_os_record.proofs.GoingOut.{one_torn}
use Rattle.adb_os_record.proofs.writing.go_on.Goals as goal

pub returns-in-Failed : goal.returns-in-Failed
returns-in-Failed g c = λ had first text k.
    one_torn had first _ _ _ _ text c.args.chunk.now c.in-Failed.taken
    (subst (λ (b : Bool). GoesOut had first b (g.K.Sink.written c.args.sink.now) (g.K.Sink.faults c.args.sink.now) text) c.if-torn.false k)
    c.in-Failed.ensures.told (c.in-Failed.ensures.counts.fault refl)
