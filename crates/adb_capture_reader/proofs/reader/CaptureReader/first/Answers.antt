use Rattle.std.proofs.Common.{length, sym, ◌∙◌, ap, arith}
use Rattle.std.proofs.lemmas.List.{length-take-le}
use Rattle.adb_capture.specs.Records.{record_at}
use Rattle.adb_capture_reader.proofs.Giving.{whole_fits, whole_given}
use Rattle.adb_capture_reader.proofs.reader.CaptureReader.first.Goals as goal

pub slice_bounds-new-end : goal.slice_bounds-new-end
slice_bounds-new-end c =
    let w = ap (λ r. record_at r.offset r.held) c.self.view_is ∙ c.requires in
    let f = whole_fits _ c.self.inside.held c.args.size w in
    sym (length-take-le c.args.size c.as_slice.result.now (omega (arith, f.0, ap length c.as_slice.ensures)))

pub new-requires : goal.new-requires
new-requires c =
    let w = ap (λ r. record_at r.offset r.held) c.self.view_is ∙ c.requires in
    whole_given c.self.inside.offset c.self.inside.held _ c.args.size w c.as_slice.ensures
