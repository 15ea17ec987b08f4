use Rattle.adb_top.proofs.Notices.{fixed_told}
use Rattle.adb_top.proofs.alone_note.say_judgement.Goals as goal

pub returns-in-Illegal : goal.returns-in-Illegal
returns-in-Illegal g c = rw c.in-Illegal.is
    (fixed_told _ _ _ _ _ _ _ (λ e. cc) c.say_illegal.ensures.status c.say_illegal.ensures.told c.say_illegal.ensures.counts)
