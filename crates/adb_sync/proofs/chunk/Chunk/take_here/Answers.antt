use Rattle.adb_sync.proofs.Handing.{takes_bytes}
use Rattle.adb_sync.proofs.chunk.Chunk.take_here.Goals as goal

pub returns-clause-takes : goal.returns-clause-takes
returns-clause-takes c bytes =
    takes_bytes c.args.self.now bytes c.args.n c.min-taken-2.result c.if-self-lt-CHUNK_HEADER_BYTES.false c.min-taken-2.ensures
