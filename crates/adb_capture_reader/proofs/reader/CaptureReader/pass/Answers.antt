use Rattle.std.proofs.Common.{ℕ, length, ◌∙◌, ap, arith}
use Rattle.std.proofs.lemmas.List.{length-drop}
use Rattle.adb_capture.specs.Records.{record_at}
use Rattle.adb_capture_reader.proofs.Giving.{whole_fits}
use Rattle.adb_capture_reader.proofs.reader.CaptureReader.pass.Goals as goal

pub skip-requires : goal.skip-requires
skip-requires c =
    let w = ap (λ r. record_at r.offset r.held) c.self.view_is ∙ c.requires in
    (whole_fits _ c.self.inside.held c.args.size w).0

pub overflow_add-self : goal.overflow_add-self
overflow_add-self c =
    let w = ap (λ r. record_at r.offset r.held) c.self.view_is ∙ c.requires in
    let f = whole_fits c.self.inside.offset c.self.inside.held c.args.size w in
    omega (arith, f.1)

pub invariant_of-self : goal.invariant_of-self
invariant_of-self c =
    let w = ap (λ r. record_at r.offset r.held) c.self.view_is ∙ c.requires in
    record {
      near = (whole_fits c.self.inside.offset c.self.inside.held c.args.size w).1;
      few = omega (arith, c.self.invariant.few, ap (length {A = ℕ}) c.skip.ensures, length-drop c.args.size c.self.inside.held);
      stays = c.self.invariant.stays;
    }
