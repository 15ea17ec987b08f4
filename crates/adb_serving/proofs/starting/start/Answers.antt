use Rattle.adb_serving.proofs.starting.start.Goals as goal

pub returns-in-Ok-clause-alone : goal.returns-in-Ok-clause-alone
returns-in-Ok-clause-alone g c = rw c.in-Ok.is (rw c.as_slice.ensures.value at c.run_live.ensures.alone)

pub returns-in-Ok-clause-unheard : goal.returns-in-Ok-clause-unheard
returns-in-Ok-clause-unheard g c = rw c.in-Ok.is (rw c.as_slice.ensures.value at c.run_live.ensures.unheard)

pub returns-in-Ok-clause-tools : goal.returns-in-Ok-clause-tools
returns-in-Ok-clause-tools g c = rw c.in-Ok.is (rw c.as_slice.ensures.value at c.run_live.ensures.tools)

pub returns-in-Ok-clause-unread : goal.returns-in-Ok-clause-unread
returns-in-Ok-clause-unread g c = rw c.in-Ok.is (rw c.as_slice.ensures.value at c.run_live.ensures.untouched)

pub returns-in-Ok-clause-serves : goal.returns-in-Ok-clause-serves
returns-in-Ok-clause-serves g c = rw c.in-Ok.is (rw c.as_slice.ensures.value at c.run_live.ensures.serves)

pub returns-in-Ok-clause-usage : goal.returns-in-Ok-clause-usage
returns-in-Ok-clause-usage g c = rw c.in-Ok.is (rw c.as_slice.ensures.value at c.run_live.ensures.usage)

pub returns-in-Ok-clause-command : goal.returns-in-Ok-clause-command
returns-in-Ok-clause-command g c = rw c.in-Ok.is (rw c.as_slice.ensures.value at c.run_live.ensures.command)

pub returns-in-Ok-clause-record : goal.returns-in-Ok-clause-record
returns-in-Ok-clause-record g c = rw c.in-Ok.is (rw c.as_slice.ensures.value at c.run_live.ensures.record)

pub returns-in-Ok-clause-unasked : goal.returns-in-Ok-clause-unasked
returns-in-Ok-clause-unasked g c = rw c.in-Ok.is (rw c.as_slice.ensures.value at c.run_live.ensures.unasked)
