use Rattle.adb_top.proofs.Notices.{fixed_told, lost_line_told, made_told}
use Rattle.adb_top.proofs.alone_note.say_script_stop.Goals as goal

pub returns-in-ReadFault : goal.returns-in-ReadFault
returns-in-ReadFault g c = rw c.in-ReadFault.is
    (fixed_told _ _ _ _ _ _ _ (λ e. cc) c.say_read_fault.ensures.status c.say_read_fault.ensures.told c.say_read_fault.ensures.counts)

pub returns-in-WriteFault : goal.returns-in-WriteFault
returns-in-WriteFault g c = rw c.in-WriteFault.is (lost_line_told _ _ _ _ c.say_lost_line.ensures.status c.say_lost_line.ensures.told)

pub returns-in-OutOfMemory : goal.returns-in-OutOfMemory
returns-in-OutOfMemory g c = rw c.in-OutOfMemory.is
    (fixed_told _ _ _ _ _ _ _ (λ e. cc) c.say_out_of_memory.ensures.status c.say_out_of_memory.ensures.told
    c.say_out_of_memory.ensures.counts)

pub returns-in-BadLine : goal.returns-in-BadLine
returns-in-BadLine g c = rw c.in-BadLine.is
    (made_told _ _ _ _ _ _ _ (λ e. cc) c.say_bad_script.ensures.status c.say_bad_script.ensures.told
    c.say_bad_script.ensures.names c.say_bad_script.ensures.counts)
