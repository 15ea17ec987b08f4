use Rattle.std.proofs.Common.{Ok, Err}
use Rattle.adb_remote.proofs.Pieces.{piece_starved, piece_told}
use Rattle.adb_remote.proofs.turning.take_piece.Goals as goal

pub returns-in_default : goal.returns-in_default
returns-in_default g c = piece_starved _ _ _ _ c.args.piece.now c.args.reading.now c.feed.new.self c.args.output.now

pub returns-in-Ok-say_up_to : goal.returns-in-Ok-say_up_to
returns-in-Ok-say_up_to g c =
    piece_told _ _ _ _ c.args.piece.now c.args.reading.now c.feed.new.self c.okays-before.result c.okays.result c.args.output.now
    c.say_up_to.new.output c.in-Ok.step (Ok tt) c.in-Ok.ensures c.okays-before.ensures c.okays.ensures c.in-Ok-say_up_to.ensures

pub returns-in-Err : goal.returns-in-Err
returns-in-Err g c =
    piece_told _ _ _ _ c.args.piece.now c.args.reading.now c.feed.new.self c.okays-before.result c.okays.result c.args.output.now
    c.say_up_to.new.output c.in-Ok.step (Err c.in-Err.error) c.in-Ok.ensures c.okays-before.ensures c.okays.ensures c.in-Err.ensures
