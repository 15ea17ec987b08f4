use Rattle.adb_top.proofs.Notices.{fixed_told}
use Rattle.adb_top.proofs.alone_note.say_words_error.Goals as goal

pub returns-in-Usage : goal.returns-in-Usage
returns-in-Usage g c = rw c.in-Usage.is
    (fixed_told _ _ _ _ _ _ _ (λ e. cc) c.say_usage.ensures.status c.say_usage.ensures.told c.say_usage.ensures.counts)

pub returns-in-OutOfMemory : goal.returns-in-OutOfMemory
returns-in-OutOfMemory g c = rw c.in-OutOfMemory.is
    (fixed_told _ _ _ _ _ _ _ (λ e. cc) c.say_out_of_memory.ensures.status c.say_out_of_memory.ensures.told
    c.say_out_of_memory.ensures.counts)
