use Rattle.std.proofs.Common.{◌≤◌, length, arith}
use Rattle.adb_commands.proofs.ScriptReading.{piece_read, piece_lost}
use Rattle.adb_commands.proofs.script_input.read_into.Goals as goal

pub returns-in-Ok-clause-piece : goal.returns-in-Ok-clause-piece
returns-in-Ok-clause-piece g c =
    let fits : c.in-Bytes.count ≤ length c.read.new.into = omega (arith, c.in-Bytes.ensures.fits.1, c.read.auto.into) in
    piece_read _ _ c.args.script.now c.push_slice.new.self c.read.new.into c.in-Bytes.count _
    c.in-Bytes.ensures.fits.0 c.in-Bytes.ensures.fits.1
    c.in-Bytes.ensures.told fits c.in-Ok.ensures.ok

pub returns-in-Err-clause-piece : goal.returns-in-Err-clause-piece
returns-in-Err-clause-piece g c =
    piece_lost _ _ c.args.script.now c.push_slice.new.self c.read.new.into c.in-Bytes.count _
    c.in-Bytes.ensures.fits.0 c.in-Bytes.ensures.fits.1
    c.in-Bytes.ensures.told
