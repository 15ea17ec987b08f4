use Rattle.adb_capture_reader.proofs.reader.CaptureReader.next.Goals as goal

pub returns-in-Ok-None-clause-answers : goal.returns-in-Ok-None-clause-answers
returns-in-Ok-None-clause-answers g c = λ fresh. rw c.in-Ok-None.field-0-is at c.in-Ok-None.ensures.answers fresh
