use Rattle.std.proofs.Common.{length}
use Rattle.adb_copying.proofs.Lines.{line_put}
use Rattle.adb_copying.proofs.Room.{only_room}
use Rattle.adb_copying.proofs.shown.ShownTreePulledTree.put.Goals as goal

pub returns-in-Ok : goal.returns-in-Ok
returns-in-Ok c files holds granted =
    line_put c.args.path.now c.in_ok-bytes.bytes c.args.file c.args.self.now.files c.put.new.self files
    c.in_ok-bytes.ensures c.in-Ok.ensures.list holds

pub memory_of-requires : goal.memory_of-requires
memory_of-requires c =
    let fits = c.requires.fits in
    only_room c.args.path.now (length c.args.file.bytes) (length c.in_ok-bytes.bytes) c.args.self.now.files fits.files
    fits.holds fits.granted
    c.put.result c.in-Err.error c.put.ensures.refused c.put.ensures.granted c.in-Err.is
