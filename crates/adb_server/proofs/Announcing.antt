-- The note of a server that ended.
use Rattle.std.proofs.Common.{ℕ, ◌≡◌, ◌≢◌, inl, inr, false, List, Option, Some, Ok, Err, refl, subst}
use Rattle.adb_server.specs.Served.{HasAnnounced, Announces, AnnouncesAt, NamesPort, is_write_fault}
use Rattle.adb_server.specs.declared.server.Served.{Served}
use Rattle.adb_server.specs.declared.server.Served.TheVariants.{Done, WriteFault, OutOfMemory, RecordFault, DoorFault}

-- A server that served has written where it listens.
pub served_there : (asked port : ℕ) (served : Served) (before after : Option (List ℕ)) → port ≢ 0 → (asked ≢ 0 → port ≡ asked)
    → HasAnnounced port (Ok tt) before after → served ≢ WriteFault → Announces asked served before after
served_there asked port Done before after some is line not = record { port = port; some = some; asked = is; line = line }
served_there asked port RecordFault before after some is line not = record { port = port; some = some; asked = is; line = line }
served_there asked port DoorFault before after some is line not = inr (record { port = port; some = some; asked = is; line = line })
served_there asked port OutOfMemory before after some is line not = inr (record { port = port; some = some; asked = is; line = line })
served_there asked port WriteFault before after some is line not = absurd (not refl)

-- A server that could not write it has written a part of it, or nothing.
pub told_less : (asked port : ℕ) (served : Served) (before after : Option (List ℕ)) → port ≢ 0 → (asked ≢ 0 → port ≡ asked)
    → HasAnnounced port (Err served) before after → Announces asked served before after
told_less asked port WriteFault before after some is (taken, line) = (taken, record { port = port; some = some; asked = is; line = line })
told_less asked port OutOfMemory before after some is same = inl same
told_less asked port Done before after some is never = absurd never
told_less asked port RecordFault before after some is never = absurd never
told_less asked port DoorFault before after some is never = absurd never

pub no_write_fault : (served : Served) → served ≢ WriteFault → is_write_fault served ≡ false
no_write_fault Done not = refl
no_write_fault RecordFault not = refl
no_write_fault DoorFault not = refl
no_write_fault OutOfMemory not = refl
no_write_fault WriteFault not = absurd (not refl)

served_at : (port : ℕ) (served : Served) (before after : Option (List ℕ)) → HasAnnounced port (Ok tt) before after → served ≢ WriteFault
    → AnnouncesAt port served before after
served_at port Done before after line not = line
served_at port RecordFault before after line not = line
served_at port DoorFault before after line not = inr line
served_at port OutOfMemory before after line not = inr line
served_at port WriteFault before after line not = absurd (not refl)

-- A server that served has written the port that its yard shows.
pub served_here : (shown : Option ℕ) (port : ℕ) (served : Served) (before after : Option (List ℕ))
    → ((here : ℕ) → shown ≡ Some here → port ≡ here)
    → HasAnnounced port (Ok tt) before after → served ≢ WriteFault → NamesPort shown served before after
served_here shown port served before after is line not here eq = subst (λ n. AnnouncesAt n served before after) (is here eq)
    (served_at port served before after line not)

told_at : (port : ℕ) (served : Served) (before after : Option (List ℕ)) → HasAnnounced port (Err served) before after
    → AnnouncesAt port served before after
told_at port WriteFault before after line = line
told_at port OutOfMemory before after same = inl same
told_at port Done before after never = absurd never
told_at port RecordFault before after never = absurd never
told_at port DoorFault before after never = absurd never

-- A server that could not write it has written a part of the line with that port, or nothing.
pub told_here : (shown : Option ℕ) (port : ℕ) (served : Served) (before after : Option (List ℕ))
    → ((here : ℕ) → shown ≡ Some here → port ≡ here)
    → HasAnnounced port (Err served) before after → NamesPort shown served before after
told_here shown port served before after is line here eq = subst (λ n. AnnouncesAt n served before after) (is here eq)
    (told_at port served before after line)
