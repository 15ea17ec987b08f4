use Rattle.std.proofs.Common.{subst}
use Rattle.adb_files.specs.Files.{IsFileMap}
use Rattle.adb_files.proofs.Chunks.{names_short}
use Rattle.adb_files.proofs.files.Files.list.Goals as goal

pub returns-in_err-name-items-clause-names : goal.returns-in_err-name-items-clause-names
returns-in_err-name-items-clause-names c = names_short c.args.path.now c.args.self.now (subst IsFileMap c.self.view_is c.self.invariant.0)

pub returns-in_err-push-clause-names : goal.returns-in_err-push-clause-names
returns-in_err-push-clause-names c = names_short c.args.path.now c.args.self.now (subst IsFileMap c.self.view_is c.self.invariant.0)

pub returns-clause-names : goal.returns-clause-names
returns-clause-names c = names_short c.args.path.now c.args.self.now (subst IsFileMap c.self.view_is c.self.invariant.0)
