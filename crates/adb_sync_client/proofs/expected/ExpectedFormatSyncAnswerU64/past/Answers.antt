use Rattle.std.proofs.Common.{length}
use Rattle.adb_sync_client.specs.Framed.{whole_answer}
use Rattle.adb_sync_client.proofs.expected.ExpectedFormatSyncAnswerU64.past.Goals as goal

pub past-requires : goal.past-requires
past-requires c = whole_answer c.args.self.now c.args.frame.now (length c.args.frame.now) c.requires
