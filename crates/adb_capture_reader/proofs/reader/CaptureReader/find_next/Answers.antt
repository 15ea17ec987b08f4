use Rattle.std.proofs.Common.{ℕ, ◌+◌, ◌≡◌, List, Option, ◌++◌, take, ◌∙◌, ap, subst}
use Rattle.std.specs.Prelude.{option_map}
use Rattle.adb_outside.specs.declared.framer.Front.TheVariants.{Whole}
use Rattle.adb_capture.specs.Records.{record_at, entry_in, HasRecord}
use Rattle.adb_capture_reader.specs.Awaiting.{AwaitsRecord}
use Rattle.adb_capture_reader.specs.Reading.{Reading, GivesNext, Moves, passed_by, given_by}
use Rattle.adb_capture_reader.proofs.Finding.{found_gives, found_whole, found_each, found_fault}
use Rattle.adb_capture_reader.proofs.Giving.{whole_moves}
use Rattle.adb_capture_reader.proofs.reader.CaptureReader.find_next.Goals as goal

pub returns-clause-records : goal.returns-clause-records
returns-clause-records g c = λ coming told.
    let found = c.await_record-found.result in
    let now : Reading = record {
      opened = c.self.inside.opened;
      offset = c.self.inside.offset;
      held = c.await_record-found.new.held;
      failed = c.self.inside.failed;
    } in
    let left = g.S.Source.left c.await_record-found.new.source in
    let awaits = subst
    (λ (before : Option (List ℕ)). AwaitsRecord now.offset c.self.inside.held before now.held found) told
    c.await_record-found.ensures.is in
    subst (λ (r : Reading). GivesNext r.offset (r.held ++ coming) (given_by found now) (passed_by found now).offset
    (option_map (λ (rest : List ℕ). (passed_by found now).held ++ rest) left))
    c.self.view_is (found_gives now c.self.inside.held coming left found (c.await_record-found.ensures.bytes coming told) awaits)

pub returns-clause-whole : goal.returns-clause-whole
returns-clause-whole g c = found_whole c.self.inside.offset c.self.inside.held _ c.await_record-found.new.held c.await_record-found.result
    c.await_record-found.ensures.is

pub returns-clause-form : goal.returns-clause-form
returns-clause-form g c =
    let held = c.await_record-found.new.held in
    found_each (λ size. record_at c.self.inside.offset held ≡ Whole size)
    (λ size. HasRecord (entry_in c.self.inside.offset (take size held)).1)
    (λ size whole. subst (λ (bytes : List ℕ). HasRecord (entry_in c.self.inside.offset (take size bytes)).1) c.as_slice.ensures
    (c.fronts_have_form.ensures c.self.inside.offset size (ap (record_at c.self.inside.offset) c.as_slice.ensures ∙ whole)))
    c.await_record-found.result
    (found_whole c.self.inside.offset c.self.inside.held _ held c.await_record-found.result c.await_record-found.ensures.is)

pub returns-clause-moves : goal.returns-clause-moves
returns-clause-moves g c =
    let offset = c.self.inside.offset in
    let held = c.await_record-found.new.held in
    found_each (λ size. record_at offset held ≡ Whole size) (λ size. Moves c.args.self.now.offset (offset + size))
    (λ size whole. subst (λ (r : Reading). Moves r.offset (offset + size)) c.self.view_is (whole_moves offset held size whole))
    c.await_record-found.result
    (found_whole offset c.self.inside.held _ held c.await_record-found.result c.await_record-found.ensures.is)

pub returns-clause-fault : goal.returns-clause-fault
returns-clause-fault g c = found_fault c.self.inside.offset c.self.inside.held _ c.await_record-found.new.held c.await_record-found.result
    c.await_record-found.ensures.is
