use Rattle.std.proofs.Common.{ℕ, ◌≡◌, List, Option, Some, None, refl, sym, ◌∙◌, ap, subst}
use Rattle.adb_capture.specs.declared.entry.Entry.{Entry}
use Rattle.adb_server_log.specs.Pass.{PassView}
use Rattle.adb_desk.specs.declared.act.Half.TheVariants as half
use Rattle.adb_server_hall.specs.Telling.{Telling, telling_of}
use Rattle.adb_server_hall.specs.Made.{Tells}
use Rattle.adb_server_writers.specs.Writing.{Written, outlet, side_of}
use Rattle.adb_server_one_desk.specs.OneDesk.{OneView}
use Rattle.adb_examples.specs.Served.{Served}
use Rattle.adb_examples.proofs.Serving.{goes_on, serves}
use Rattle.adb_examples.proofs.workers.serve_one.Goals as goal

-- src/workers.rt:18:1
pub returns : goal.returns
returns g c = λ es tells.
    let n : ℕ = c.in_ok-reading.reading.pass.number in
    let pair : c.in_ok-reading.writing.pass.number ≡ n = ap (λ (p : PassView). p.number) c.in_ok-reading.ensures.passes.1 in
    let back : telling_of c.retire_client_in.new.self.desk ≡ telling_of c.read_client-reading.new.hall.desk =
    ap (λ (h : OneView). telling_of h.desk) c.retire_client_in.ensures.back in
    let told : c.retire_client_out.new.self.desk.log.told ≡ c.write_client-writing.new.hall.desk.log.told =
    ap (λ (h : OneView). h.desk.log.told) c.retire_client_out.ensures.back in
    let writes : (u : Telling) (xs : List Entry) → Some (telling_of c.over.new.self.desk) ≡ Some u → Tells u xs
    → Written (side_of half.Client n) xs (Some (telling_of c.write_client-writing.new.hall.desk))
    c.in_ok-reading.writing.pass.starved c.write_client-writing.result.pass.starved
    (outlet c.args.output.now.sink.faults (Some c.args.output.now.sink.out) c.args.output.now.closed)
    (outlet c.write_client-writing.new.port.sink.faults (Some c.write_client-writing.new.port.sink.out)
    c.write_client-writing.new.port.closed) =
    subst
    (λ (m : ℕ). (u : Telling) (xs : List Entry) → Some (telling_of c.over.new.self.desk) ≡ Some u → Tells u xs
    → Written (side_of half.Client m) xs (Some (telling_of c.write_client-writing.new.hall.desk))
    c.in_ok-reading.writing.pass.starved c.write_client-writing.result.pass.starved
    (outlet c.args.output.now.sink.faults (Some c.args.output.now.sink.out) c.args.output.now.closed)
    (outlet c.write_client-writing.new.port.sink.faults (Some c.write_client-writing.new.port.sink.out)
    c.write_client-writing.new.port.closed)) pair c.write_client-writing.ensures.told in
    let served =
    serves es n (telling_of c.args.hall.now.desk) (telling_of c.join.new.self.desk) (telling_of c.over.new.self.desk)
    (telling_of c.write_client-writing.new.hall.desk) _ _ _ _ _ _ _ _ _ tells c.in_ok-reading.ensures.told refl refl
    c.read_client-reading.ensures.told (ap Some (sym (c.in_default.ensures.told.same ∙ back)))
    (goes_on _ _ None c.in_default.ensures.told) writes in
    subst (λ (m : ℕ). Served es m c.retire_client_out.new.self.desk.log.told c.args.output.now.sink c.write_client-writing.new.port.sink)
    (sym c.number-client.ensures)
    (subst (λ (all : Option (List Entry)). Served es n all c.args.output.now.sink c.write_client-writing.new.port.sink) (sym told) served)
