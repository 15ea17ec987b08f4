use Rattle.std.proofs.Common.{refl}
use Rattle.adb_sync.proofs.Handing.{begins}
use Rattle.adb_sync.proofs.chunk.Chunk.begin.Goals as goal

pub returns-clause-left : goal.returns-clause-left
returns-clause-left c =
    begins c.args.bytes.now c.chunk_header.result c.args.from c.min-size.result _ c.min-size.ensures refl
    c.if-size-eq0.false c.chunk_header.ensures
