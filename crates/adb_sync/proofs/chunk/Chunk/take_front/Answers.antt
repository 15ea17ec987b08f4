use Rattle.std.proofs.Common.{◌∙◌, sym}
use Rattle.adb_sync.proofs.Handing.{spent}
use Rattle.adb_sync.proofs.chunk.Chunk.take_front.Goals as goal

pub returns-then-self-clause-left : goal.returns-then-self-clause-left
returns-then-self-clause-left c =
    let takes = c.take_here-taken.ensures.takes c.args.bytes.now c.requires.within c.requires.front in
    c.begin.ensures.left
    ∙ (sym (spent c.take_here-taken.new.self c.args.bytes.now takes.within.header c.if-self-eq-CHUNK_HEADER_BYTES.true c.if-self.true)
    ∙ takes.left)
