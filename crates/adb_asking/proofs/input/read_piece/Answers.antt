use Rattle.std.proofs.Common.{◌≤◌, length, arith}
use Rattle.adb_asking.proofs.Inputs.{piece_read}
use Rattle.adb_asking.proofs.input.read_piece.Goals as goal

pub returns-in_ok-push_slice-in-Bytes-clause-told : goal.returns-in_ok-push_slice-in-Bytes-clause-told
returns-in_ok-push_slice-in-Bytes-clause-told g c =
    let fits : c.in-Bytes.n ≤ length c.read.new.into =
    first_of (omega (arith, c.in-Bytes.ensures.fits, c.told-buffer), search (c.in-Bytes.ensures.fits, c.told-buffer)) in
    piece_read _ _ c.args.text.now c.push_slice.new.self c.read.new.into c.in-Bytes.n c.in-Bytes.ensures.fits.0 fits
    c.in_ok-push_slice-in-Bytes.ensures.ok c.in-Bytes.ensures.told
