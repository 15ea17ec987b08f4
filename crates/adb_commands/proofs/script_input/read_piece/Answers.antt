use Rattle.std.proofs.Common.{◌<◌, ◌≤◌, ◌-◌, length, take, arith}
use Rattle.std.proofs.lemmas.List.{length-take}
use Rattle.adb_commands.specs.declared.script_input.TheConstants.{MAX_SCRIPT_READ}
use Rattle.adb_commands.proofs.ScriptReading.{piece_of_more}
use Rattle.adb_commands.proofs.script_input.read_piece.Goals as goal

pub returns-clause-piece : goal.returns-clause-piece
returns-clause-piece g c =
    let room = c.min-room.result in
    let long = length-take room c.args.buffer.now in
    let some : 0 < length (take room c.args.buffer.now) =
    first_of (
      omega (arith, long, c.told-buffer, c.min-room.ensures, c.if-room-eq0.false),
      grind (arith, long, c.told-buffer, c.min-room.ensures, c.if-room-eq0.false),
    ) in
    let less : length (take room c.args.buffer.now) ≤ MAX_SCRIPT_READ - length c.args.script.now =
    omega (arith, long, c.told-buffer, c.min-room.ensures, c.len.ensures) in
    piece_of_more _ _ c.args.script.now c.read_into.new.script _ _ c.read_into.result some less c.read_into.ensures.piece
