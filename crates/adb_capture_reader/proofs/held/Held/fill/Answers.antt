use Rattle.std.proofs.Common.{◌+◌, ◌-◌, ◌≤◌, ◌++◌, length, take, drop, slice_range, sym, ◌∙◌, ap, arith}
use Rattle.std.proofs.lemmas.List.{length-append, length-take-le, length-drop}
use Rattle.adb_capture.specs.declared.limits.TheConstants.{MAX_READ}
use Rattle.adb_capture_reader.proofs.Keeping.{keeps_more, held_more}
use Rattle.adb_capture_reader.proofs.held.Held.fill.Goals as goal

pub returns-in-Bytes-clause-bytes : goal.returns-in-Bytes-clause-bytes
returns-in-Bytes-clause-bytes g c = λ coming told.
    let start = c.make_way-self-inside.result in
    let end = start + (c.self.inside.end - c.self.inside.start) in
    let bytes = c.read_behind-got.new.buffer.items in
    let within : end ≤ length bytes = omega (arith, c.in-Bytes.ensures.len, c.in_ok-grow.ensures.room) in
    let same = ap (drop start) (c.in-Bytes.ensures.same ∙ c.in_ok-grow.ensures.same)
    ∙ c.make_way-self-inside.ensures.same ∙ c.self.view_is in
    let chunk = slice_range bytes end (end + MAX_READ) in
    let is = held_more bytes start end c.in-Bytes.count MAX_READ (omega arith) within c.in-Bytes.ensures.fits.1
    ∙ ap (λ b. b ++ take c.in-Bytes.count chunk) same in
    keeps_more c.args.self.now _ chunk coming _ c.in-Bytes.count is (c.in-Bytes.ensures.told coming told)

pub returns-in-Bytes-clause-more : goal.returns-in-Bytes-clause-more
returns-in-Bytes-clause-more g c =
    let start = c.make_way-self-inside.result in
    let end = start + (c.self.inside.end - c.self.inside.start) in
    let bytes = c.read_behind-got.new.buffer.items in
    let within : end + MAX_READ ≤ length bytes = omega (arith, c.in-Bytes.ensures.len, c.in_ok-grow.ensures.room) in
    let same = ap (drop start) (c.in-Bytes.ensures.same ∙ c.in_ok-grow.ensures.same)
    ∙ c.make_way-self-inside.ensures.same ∙ c.self.view_is in
    let chunk = slice_range bytes end (end + MAX_READ) in
    let piece = take c.in-Bytes.count chunk in
    let is = held_more bytes start end c.in-Bytes.count MAX_READ (omega arith) (omega (arith, within)) c.in-Bytes.ensures.fits.1
    ∙ ap (λ b. b ++ piece) same in
    let long : c.in-Bytes.count ≤ length chunk = omega (
      arith,
      c.in-Bytes.ensures.fits.1,
      within,
      length-drop end bytes,
      length-take-le (end + MAX_READ - end) (drop end bytes),
    ) in (
      c.in-Bytes.ensures.fits.0,
      c.in-Bytes.ensures.fits.1,
      ap length is ∙
          (length-append c.args.self.now piece ∙ ap (λ n. length c.args.self.now + n)
          (length-take-le c.in-Bytes.count chunk long)),
      (piece, sym is),
    )
