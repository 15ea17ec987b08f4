use Rattle.adb_daemon.proofs.services.Services.serve.Goals as goal

pub returns-in-Open-clause-ok : goal.returns-in-Open-clause-ok
returns-in-Open-clause-ok c = rw c.in-Open.is c.open.ensures.ok

pub returns-in-Wrte-clause-ok : goal.returns-in-Wrte-clause-ok
returns-in-Wrte-clause-ok c = rw c.in-Wrte.is c.write.ensures.ok

pub returns-in-Okay-clause-ok : goal.returns-in-Okay-clause-ok
returns-in-Okay-clause-ok c = rw c.in-Okay.is c.okay.ensures.ok
