use Rattle.std.proofs.Common.{length}
use Rattle.adb_sync_client.specs.Framed.{whole_answer}
use Rattle.adb_sync_client.proofs.expected.ExpectedFormatSyncAnswerU64.read.Goals as goal

pub read-requires : goal.read-requires
read-requires c = whole_answer c.args.self.now c.args.frame.now (length c.args.frame.now) c.requires
